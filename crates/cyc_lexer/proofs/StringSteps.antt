-- Steps of the loop over the characters of a string.
use Rattle.std.proofs.Common.{◌≡◌, ℕ, zero, suc, ◌+◌, ◌-◌, ◌≤◌, List, [], ◌∷◌, ◌++◌, length, take, drop, Option, Some, None, refl, ap, sym, ◌∙◌, arith}
use Rattle.std.proofs.Common.{append_assoc, append-nil, length-append, length-drop}
use Rattle.std.proofs.lemmas.List.{take_at, drop_at, drop-take, drop-drop, length-take}
use Rattle.cyc_lexer.specs.Spelling.{AreCharacters, IsText, character_at, with_character, characters_in, text_bytes}
use Rattle.cyc_lexer.proofs.ReadCharacters.{character_again}
use Rattle.cyc_lexer.proofs.ReadStrings.{character_within}

-- ---- the turns

less_left : (k : ℕ) (bytes : List ℕ) (byte n : ℕ) → character_at 34 bytes ≡ Some (byte, n) → length bytes ≤ suc k →
    length (drop n bytes) ≤ k
less_left k bytes byte n read le = let w = character_within 34 bytes byte n read in omega (arith, w.0, w.1, length-drop n bytes)

-- with as many turns as bytes, one more changes nothing
abbrev IsEnough : ℕ → Type 0
IsEnough k = (bytes : List ℕ) → length bytes ≤ k → characters_in (suc k) 34 bytes ≡ characters_in k 34 bytes

module _ (k : ℕ) (before : IsEnough k) where
  after_character : (bytes : List ℕ) → length bytes ≤ suc k → (o : Option (ℕ × ℕ)) → character_at 34 bytes ≡ o →
      with_character o (λ n. characters_in (suc k) 34 (drop n bytes)) ≡ with_character o (λ n. characters_in k 34 (drop n bytes))
  after_character bytes le None read = refl
  after_character bytes le (Some x) read = ap (λ rest. x.0 ∷ rest) (before (drop x.1 bytes) (less_left k bytes x.0 x.1 read le))

one_more_turn : (k : ℕ) → IsEnough k
one_more_turn zero [] le = refl
one_more_turn zero (b ∷ bs) le = absurd (omega arith)
one_more_turn (suc k) bytes le = after_character k (one_more_turn k) bytes le (character_at 34 bytes) refl

-- over one character
character_more : (k : ℕ) (bytes : List ℕ) (byte n : ℕ) → length bytes ≤ k → character_at 34 bytes ≡ Some (byte, n) →
    characters_in k 34 bytes ≡ byte ∷ characters_in k 34 (drop n bytes)
character_more zero bytes byte n le read = let w = character_within 34 bytes byte n read in absurd (omega (arith, w.0, w.1))
character_more (suc k) bytes byte n le read =
    ap (λ o. with_character o (λ i. characters_in k 34 (drop i bytes))) read
    ∙ ap (λ rest. byte ∷ rest) (sym (one_more_turn k (drop n bytes) (less_left k bytes byte n read le)))

no_character : (k : ℕ) (bytes : List ℕ) → character_at 34 bytes ≡ None → characters_in k 34 bytes ≡ []
no_character zero bytes none = refl
no_character (suc k) bytes none = ap (λ o. with_character o (λ i. characters_in k 34 (drop i bytes))) none

-- ---- the loop

-- what stands from a place on, before the last byte
abbrev pub part_of : List ℕ → ℕ → List ℕ
part_of spelling at = take (length spelling - 1 - at) (drop at spelling)

part_size : (spelling : List ℕ) (at : ℕ) → length (part_of spelling at) ≤ length spelling - 1 - at
part_size spelling at = omega (arith, length-take (length spelling - 1 - at) (drop at spelling))

-- the part after n more bytes
part_after : (spelling : List ℕ) (at n : ℕ) → at + n ≤ length spelling - 1 → drop n (part_of spelling at) ≡ part_of spelling (at + n)
part_after spelling at n le =
    let end = length spelling - 1 in
    let sum : end - at ≡ n + (end - (at + n)) = omega arith in
    ap (λ m. drop n (take m (drop at spelling))) sum
    ∙ drop-take n (end - (at + n)) (drop at spelling)
    ∙ ap (take (end - (at + n))) (drop-drop n at spelling)

-- what is decoded so far, and what the rest means
abbrev pub Decodes : List ℕ → List ℕ → ℕ → Type 0
Decodes spelling decoded at = decoded ++ characters_in (length spelling) 34 (part_of spelling at) ≡ text_bytes spelling

pub starts : (spelling decoded : List ℕ) → decoded ≡ [] → Decodes spelling decoded 1
unfolding text_bytes
starts spelling decoded none =
    let size : length spelling - 1 - 1 ≡ length spelling - 2 = omega arith in
    ap (λ s. s ++ characters_in (length spelling) 34 (part_of spelling 1)) none
    ∙ ap (λ n. characters_in (length spelling) 34 (take n (drop 1 spelling))) size

module _ (spelling decoded : List ℕ) (at : ℕ) where
  pub goes_on : (byte n : ℕ) → character_at 34 (part_of spelling at) ≡ Some (byte, n) → Decodes spelling decoded at →
      Decodes spelling (decoded ++ byte ∷ []) (at + n)
  goes_on byte n read h =
      let size = part_size spelling at in
      let w = character_within 34 (part_of spelling at) byte n read in
      let after : drop n (part_of spelling at) ≡ part_of spelling (at + n) = part_after spelling at n (omega (arith, size, w.0, w.1)) in
      append_assoc decoded (byte ∷ []) (characters_in (length spelling) 34 (part_of spelling (at + n)))
      ∙ ap (λ s. decoded ++ byte ∷ characters_in (length spelling) 34 s) (sym after)
      ∙ ap (λ s. decoded ++ s) (sym (character_more (length spelling) (part_of spelling at) byte n (omega (arith, size)) read))
      ∙ h

  pub stops : character_at 34 (part_of spelling at) ≡ None → Decodes spelling decoded at → decoded ≡ text_bytes spelling
  stops none h =
      sym (append-nil decoded) ∙ ap (λ s. decoded ++ s) (sym (no_character (length spelling) (part_of spelling at) none)) ∙ h

  pub ends : length spelling - 1 ≤ at → Decodes spelling decoded at → decoded ≡ text_bytes spelling
  ends le h =
      let none_left : length spelling - 1 - at ≡ 0 = omega arith in
      stops (ap (λ n. character_at 34 (take n (drop at spelling))) none_left) h

-- ---- what is spelled is read

characters_again : (bytes : List ℕ) (k : ℕ) (inner : List ℕ) → length inner ≤ k → AreCharacters 34 inner bytes →
    characters_in k 34 inner ≡ bytes
characters_again [] k inner le h = no_character k inner (ap (character_at 34) h)
characters_again (byte ∷ bytes) k inner le (first, others, is, here, more) =
    let read : character_at 34 inner ≡ Some (byte, length first) = ap (character_at 34) is ∙ character_again 34 byte first others here in
    let left : drop (length first) inner ≡ others = ap (drop (length first)) is ∙ drop_at first others (length first) refl in
    character_more k inner byte (length first) le read
    ∙ ap (λ s. byte ∷ characters_in k 34 s) left
    ∙ ap (λ s. byte ∷ s) (characters_again bytes k others (omega (arith, ap length is, length-append first others)) more)

pub text_meant : (spelling bytes : List ℕ) → IsText spelling bytes → text_bytes spelling ≡ bytes
unfolding text_bytes
text_meant spelling bytes (inner, is, h) =
    let size : length spelling ≡ length inner + 2 = omega (arith, ap length is, length-append inner (34 ∷ [])) in
    let part : take (length spelling - 2) (drop 1 spelling) ≡ inner =
    ap (λ s. take (length spelling - 2) (drop 1 s)) is ∙ take_at inner (34 ∷ []) (length spelling - 2) (omega arith) in
    ap (characters_in (length spelling) 34) part ∙ characters_again bytes (length spelling) inner (omega arith) h
