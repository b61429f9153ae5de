-- Strings are read as they are spelled.
use Rattle.std.proofs.Common.{◌≡◌, ℕ, zero, suc, ◌+◌, ◌<◌, ◌≤◌, Bool, true, false, eqb, List, [], ◌∷◌, ◌++◌, length, drop, Option, Some, None, refl, ap, sym}
use Rattle.std.proofs.Common.{◌∙◌, subst, arith, append_assoc, length-append, zero-add}
use Rattle.std.proofs.lemmas.Bool.{cond-false, cond-true, eqb-true}
use Rattle.std.proofs.lemmas.List.{drop_at}
use Rattle.cyc_lexer.specs.Spelling.{IsCharacter, AreCharacters, character_at}
use Rattle.cyc_lexer.specs.Reading.{longer, on_character, text_from}
use Rattle.cyc_lexer.proofs.Fronts.{Cut, Reads, Cut-within, Cut-drop}
use Rattle.cyc_lexer.proofs.ReadCharacters.{CharacterOf, character_read, character_again, character_not_empty}

pub longer-zero : (o : Option ℕ) → longer 0 o ≡ o
longer-zero None = refl
longer-zero (Some n) = ap Some (zero-add n)

pub longer-longer : (a b : ℕ) (o : Option ℕ) → longer a (longer b o) ≡ longer (a + b) o
longer-longer a b None = refl
longer-longer a b (Some n) = ap Some (omega arith)

text_from-skip : (n : ℕ) (bytes : List ℕ) → text_from n bytes ≡ longer n (text_from 0 (drop n bytes))
text_from-skip zero bytes = sym (longer-zero (text_from 0 bytes))
text_from-skip (suc n) [] = refl
text_from-skip (suc n) (b ∷ bs) = ap (longer 1) (text_from-skip n bs) ∙ longer-longer 1 n (text_from 0 (drop n bs))
    ∙ ap (λ k. longer k (text_from 0 (drop n bs))) (omega arith)

-- the character that is read at a place
pub character_cut : (quote : ℕ) (t : List ℕ) (byte n : ℕ) → character_at quote t ≡ Some (byte, n) → Cut (CharacterOf quote byte) n t
character_cut quote t byte n h = subst (Reads (CharacterOf quote) t) h (character_read quote t)

front_positive : (quote byte : ℕ) (front : List ℕ) → IsCharacter quote front byte → 0 < length front
front_positive quote byte [] h = absurd (character_not_empty quote byte h)
front_positive quote byte (b ∷ bs) h = omega arith

pub character_within : (quote : ℕ) (t : List ℕ) (byte n : ℕ) → character_at quote t ≡ Some (byte, n) → (0 < n) × (n ≤ length t)
character_within quote t byte n h =
    let w = character_cut quote t byte n h in
    (omega (arith, front_positive quote byte w.front w.holds, w.size), Cut-within (CharacterOf quote byte) n t w)

not_quote : (b : ℕ) (bs : List ℕ) (byte n : ℕ) → character_at 34 (b ∷ bs) ≡ Some (byte, n) → (v : Bool) → eqb b 34 ≡ v → v ≡ false
not_quote b bs byte n h false e = refl
not_quote b bs byte n h true e = let k = ap (λ i. character_at 34 (i ∷ bs)) (eqb-true b 34 e) in let never : ◌≡◌ {A = Option (ℕ × ℕ)} None (Some (byte, n)) =
    sym k ∙ h in cc

-- over one character of a string
pub text_from-character : (t : List ℕ) (byte n : ℕ) → character_at 34 t ≡ Some (byte, n) → text_from 0 t ≡ longer n (text_from 0 (drop n t))
text_from-character [] byte n h = let never : ◌≡◌ {A = Option (ℕ × ℕ)} None (Some (byte, n)) = h in cc
text_from-character (b ∷ bs) byte zero h = absurd (omega (arith, (character_within 34 (b ∷ bs) byte zero h).0))
text_from-character (b ∷ bs) byte (suc n) h =
    cond-false (eqb b 34) (Some 1) (on_character (character_at 34 (b ∷ bs)) (λ k. longer 1 (text_from k bs))) (not_quote b bs byte (suc n) h (eqb b 34) refl)
    ∙ ap (λ o. on_character o (λ k. longer 1 (text_from k bs))) h
    ∙ ap (λ k. longer 1 (text_from k bs)) (omega arith)
    ∙ ap (longer 1) (text_from-skip n bs)
    ∙ longer-longer 1 n (text_from 0 (drop n bs))
    ∙ ap (λ k. longer k (text_from 0 (drop n bs))) (omega arith)

-- ---- what is spelled is read

pub text_again : (bytes inner rest : List ℕ) → AreCharacters 34 inner bytes → text_from 0 (inner ++ 34 ∷ rest) ≡ Some (length inner + 1)
text_again [] inner rest h = ap (λ s. text_from 0 (s ++ 34 ∷ rest)) h ∙ sym (ap (λ s. Some (length s + 1)) h)
text_again (byte ∷ bytes) inner rest (first, others, is, here, more) =
    let tail = others ++ 34 ∷ rest in
    let whole : inner ++ 34 ∷ rest ≡ first ++ tail = ap (λ s. s ++ 34 ∷ rest) is ∙ append_assoc first others (34 ∷ rest) in
    ap (text_from 0) whole
    ∙ text_from-character (first ++ tail) byte (length first) (character_again 34 byte first tail here)
    ∙ ap (λ s. longer (length first) (text_from 0 s)) (drop_at first tail (length first) refl)
    ∙ ap (longer (length first)) (text_again bytes others rest more)
    ∙ ap Some (omega (arith, ap length is, length-append first others))

-- ---- what is read is spelled

-- characters, and the closing quote
abbrev pub IsTextEnd : List ℕ → List ℕ → Type 0
IsTextEnd s rest = (inner : List ℕ) × (bytes : List ℕ) × (s ≡ inner ++ 34 ∷ []) × AreCharacters 34 inner bytes

pub longer_is : (n : ℕ) (o : Option ℕ) (m : ℕ) → longer n o ≡ Some m → (k : ℕ) × (o ≡ Some k) × (n + k ≡ m)
longer_is n None m h = let never : None ≡ Some m = h in cc
longer_is n (Some k) m h = (k, refl, cc)

prepend : (byte n k m : ℕ) (t : List ℕ) → n + k ≡ m → (w : Cut (CharacterOf 34 byte) n t) → Cut IsTextEnd k w.rest → Cut IsTextEnd m t
prepend byte n k m t sum w v = record {
  front = w.front ++ v.front;
  rest = v.rest;
  is = w.is ∙ ap (λ s. w.front ++ s) v.is ∙ sym (append_assoc w.front v.front v.rest);
  size = omega (arith, length-append w.front v.front, w.size, v.size, sum);
  holds = (
    w.front ++ v.holds.0,
    byte ∷ v.holds.1,
    ap (λ s. w.front ++ s) v.holds.2 ∙ sym (append_assoc w.front v.holds.0 (34 ∷ [])),
    (w.front, v.holds.0, refl, w.holds, v.holds.3),
  );
}

abbrev TextRead : ℕ → Type 0
TextRead size = (t : List ℕ) (n : ℕ) → length t ≤ size → text_from 0 t ≡ Some n → Cut IsTextEnd n t

module _ (size : ℕ) (before : TextRead size) where
  over_character : (b : ℕ) (bs : List ℕ) (n : ℕ) → length (b ∷ bs) ≤ suc size → (o : Option (ℕ × ℕ)) → character_at 34 (b ∷ bs) ≡ o →
      on_character o (λ k. longer 1 (text_from k bs)) ≡ Some n → text_from 0 (b ∷ bs) ≡ Some n → Cut IsTextEnd n (b ∷ bs)
  over_character b bs n le None e h g = let never : None ≡ Some n = h in cc
  over_character b bs n le (Some x) e h g =
      let t = b ∷ bs in
      let w = character_cut 34 t x.0 x.1 e in
      let k = longer_is x.1 (text_from 0 (drop x.1 t)) n (sym (text_from-character t x.0 x.1 e) ∙ g) in
      let shorter : length w.rest ≤ size =
      omega (arith, front_positive 34 x.0 w.front w.holds, ap length w.is, length-append w.front w.rest, le) in
      prepend x.0 x.1 k.0 n t k.2 w (before w.rest k.0 shorter (ap (text_from 0) (sym (Cut-drop (CharacterOf 34 x.0) x.1 t w)) ∙ k.1))

  at_byte : (b : ℕ) (bs : List ℕ) (n : ℕ) → length (b ∷ bs) ≤ suc size → (v : Bool) → eqb b 34 ≡ v → text_from 0 (b ∷ bs) ≡ Some n → Cut IsTextEnd n (b ∷ bs)
  at_byte b bs n le true e h =
      let one : Some 1 ≡ Some n = sym (cond-true (eqb b 34) (Some 1) (on_character (character_at 34 (b ∷ bs)) (λ k. longer 1 (text_from k bs))) e) ∙ h in
      record { front = b ∷ []; rest = bs; is = refl; size = cc; holds = ([], [], ap (λ i. i ∷ []) (eqb-true b 34 e), refl) }
  at_byte b bs n le false e h =
      over_character b bs n le (character_at 34 (b ∷ bs)) refl
      (sym (cond-false (eqb b 34) (Some 1) (on_character (character_at 34 (b ∷ bs)) (λ k. longer 1 (text_from k bs))) e) ∙ h) h

text_read_in : (size : ℕ) → TextRead size
text_read_in zero [] n le h = let never : None ≡ Some n = h in cc
text_read_in zero (b ∷ bs) n le h = absurd (omega arith)
text_read_in (suc size) [] n le h = let never : None ≡ Some n = h in cc
text_read_in (suc size) (b ∷ bs) n le h = at_byte size (text_read_in size) b bs n le (eqb b 34) refl h

pub text_read : (t : List ℕ) (n : ℕ) → text_from 0 t ≡ Some n → Cut IsTextEnd n t
text_read t n h = text_read_in (length t) t n (omega arith) h
