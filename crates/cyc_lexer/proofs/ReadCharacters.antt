-- Characters are read as they are spelled.
use Rattle.std.proofs.Common.{◌≡◌, ℕ, ◌+◌, ◌*◌, true, cond, eqb, leb, not, ◌&&◌, List, [], ◌∷◌, ◌++◌, length, Option, Some, None, refl, ap, sym, ◌∙◌, inl, inr}
use Rattle.std.proofs.lemmas.Bool.{cond_both, eqb-true, eqb-false, ne_eqb, leb-true, le-leb, and_parts, not-true}
use Rattle.cyc_lexer.specs.Bytes.{is_between, is_hexadecimal_digit, digit_value}
use Rattle.cyc_lexer.specs.Spelling.{escapes, IsIn, IsPlain, IsEscape, IsHexadecimalEscape, IsCharacter, find_escape, hexadecimal_at, escape_at, character_at}
use Rattle.cyc_lexer.proofs.Fronts.{Reads}

-- ---- what is read is a character

abbrev IsEscapeIn : List (ℕ × ℕ) → ℕ → Option (ℕ × ℕ) → Type 0
IsEscapeIn es letter None = Unit {0}
IsEscapeIn es letter (Some x) = IsIn letter x.0 es × (x.1 ≡ 2)

escape_later : (e : ℕ × ℕ) (es : List (ℕ × ℕ)) (letter : ℕ) (o : Option (ℕ × ℕ)) → IsEscapeIn es letter o → IsEscapeIn (e ∷ es) letter o
escape_later e es letter None h = tt
escape_later e es letter (Some x) h = (inr h.0, h.1)

escape_found : (es : List (ℕ × ℕ)) (letter : ℕ) → IsEscapeIn es letter (find_escape es letter)
escape_found [] letter = tt
escape_found (e ∷ es) letter =
    cond_both (eqb letter e.0) (Some (e.1, 2)) (find_escape es letter) (IsEscapeIn (e ∷ es) letter)
    (λ h. (inl (eqb-true letter e.0 h, refl), refl)) (λ h. escape_later e es letter (find_escape es letter) (escape_found es letter))

abbrev pub CharacterOf : ℕ → ℕ → List ℕ → List ℕ → Type 0
CharacterOf quote byte s rest = IsCharacter quote s byte

letter_read : (quote b c : ℕ) (cs : List ℕ) → b ≡ 92 → (o : Option (ℕ × ℕ)) → IsEscapeIn escapes c o → Reads (CharacterOf quote) (b ∷ c ∷ cs) o
letter_read quote b c cs e None h = tt
letter_read quote b c cs e (Some x) h =
    record { front = b ∷ c ∷ []; rest = cs; is = refl; size = sym h.1; holds = inr (inl (c, ap (λ k. k ∷ c ∷ []) e, h.0)) }

hexadecimal_read : (quote b c : ℕ) (cs : List ℕ) → b ≡ 92 → c ≡ 120 → Reads (CharacterOf quote) (b ∷ c ∷ cs) (hexadecimal_at cs)
hexadecimal_read quote b c [] e f = tt
hexadecimal_read quote b c (h ∷ []) e f = tt
hexadecimal_read quote b c (h ∷ l ∷ cs) e f =
    cond_both (is_hexadecimal_digit h && is_hexadecimal_digit l) (Some (digit_value h * 16 + digit_value l, 4)) None
    (Reads (CharacterOf quote) (b ∷ c ∷ h ∷ l ∷ cs))
    (λ k. let both = and_parts (is_hexadecimal_digit h) (is_hexadecimal_digit l) k in
    record {
      front = b ∷ c ∷ h ∷ l ∷ [];
      rest = cs;
      is = refl;
      size = refl;
      holds = inr (inr (h, l, ap (λ i. i ∷ c ∷ h ∷ l ∷ []) e ∙ ap (λ i. 92 ∷ i ∷ h ∷ l ∷ []) f, both.0, both.1, refl));
    })
    (λ k. tt)

escape_read : (quote b : ℕ) (bs : List ℕ) → b ≡ 92 → Reads (CharacterOf quote) (b ∷ bs) (escape_at bs)
escape_read quote b [] e = tt
escape_read quote b (c ∷ cs) e =
    cond_both (eqb c 120) (hexadecimal_at cs) (find_escape escapes c) (Reads (CharacterOf quote) (b ∷ c ∷ cs))
    (λ f. hexadecimal_read quote b c cs e (eqb-true c 120 f)) (λ f. letter_read quote b c cs e (find_escape escapes c) (escape_found escapes c))

plain_read : (quote b : ℕ) (bs : List ℕ) → (b ≡ 92 → ⊥) → (is_between 32 126 b && not (eqb b quote)) ≡ true → Reads (CharacterOf quote) (b ∷ bs) (Some (b, 1))
plain_read quote b bs ne h =
    let both = and_parts (is_between 32 126 b) (not (eqb b quote)) h in
    let ends = and_parts (leb 32 b) (leb b 126) both.0 in
    record {
      front = b ∷ [];
      rest = bs;
      is = refl;
      size = refl;
      holds = inl (refl, leb-true 32 b ends.0, leb-true b 126 ends.1, ne, eqb-false b quote (not-true (eqb b quote) both.1));
    }

pub character_read : (quote : ℕ) (t : List ℕ) → Reads (CharacterOf quote) t (character_at quote t)
character_read quote [] = tt
character_read quote (b ∷ bs) =
    cond_both (eqb b 92) (escape_at bs) (cond (is_between 32 126 b && not (eqb b quote)) (Some (b, 1)) None) (Reads (CharacterOf quote) (b ∷ bs))
    (λ h. escape_read quote b bs (eqb-true b 92 h))
    (λ h. cond_both (is_between 32 126 b && not (eqb b quote)) (Some (b, 1)) None (Reads (CharacterOf quote) (b ∷ bs))
    (plain_read quote b bs (eqb-false b 92 h)) (λ k. tt))

-- ---- a character is read

plain_again : (quote byte : ℕ) (s rest : List ℕ) → IsPlain quote s byte → character_at quote (s ++ rest) ≡ Some (byte, length s)
plain_again quote byte s rest h =
    rw h.0 (rw (ne_eqb byte 92 h.3, le-leb 32 byte h.1, le-leb byte 126 h.2, ne_eqb byte quote h.4) refl)

letter_again : (letter byte : ℕ) (rest : List ℕ) → IsIn letter byte escapes → escape_at (letter ∷ rest) ≡ Some (byte, 2)
letter_again letter byte rest (inl h) = rw (h.0, h.1) refl
letter_again letter byte rest (inr (inl h)) = rw (h.0, h.1) refl
letter_again letter byte rest (inr (inr (inl h))) = rw (h.0, h.1) refl
letter_again letter byte rest (inr (inr (inr (inl h)))) = rw (h.0, h.1) refl
letter_again letter byte rest (inr (inr (inr (inr (inl h))))) = rw (h.0, h.1) refl
letter_again letter byte rest (inr (inr (inr (inr (inr (inl h)))))) = rw (h.0, h.1) refl
letter_again letter byte rest (inr (inr (inr (inr (inr (inr (inl h))))))) = rw (h.0, h.1) refl
letter_again letter byte rest (inr (inr (inr (inr (inr (inr (inr (inl h)))))))) = rw (h.0, h.1) refl
letter_again letter byte rest (inr (inr (inr (inr (inr (inr (inr (inr (inl h))))))))) = rw (h.0, h.1) refl
letter_again letter byte rest (inr (inr (inr (inr (inr (inr (inr (inr (inr (inl h)))))))))) = rw (h.0, h.1) refl
letter_again letter byte rest (inr (inr (inr (inr (inr (inr (inr (inr (inr (inr (inl h))))))))))) = rw (h.0, h.1) refl
letter_again letter byte rest (inr (inr (inr (inr (inr (inr (inr (inr (inr (inr (inr h))))))))))) = absurd h

escape_again : (quote byte : ℕ) (s rest : List ℕ) → IsEscape s byte → character_at quote (s ++ rest) ≡ Some (byte, length s)
escape_again quote byte s rest h = rw h.1 (letter_again h.0 byte rest h.2)

hexadecimal_again : (quote byte : ℕ) (s rest : List ℕ) → IsHexadecimalEscape s byte → character_at quote (s ++ rest) ≡ Some (byte, length s)
hexadecimal_again quote byte s rest h = rw (h.2, h.5) (rw (h.3, h.4) refl)

pub character_again : (quote byte : ℕ) (s rest : List ℕ) → IsCharacter quote s byte → character_at quote (s ++ rest) ≡ Some (byte, length s)
character_again quote byte s rest (inl h) = plain_again quote byte s rest h
character_again quote byte s rest (inr (inl h)) = escape_again quote byte s rest h
character_again quote byte s rest (inr (inr h)) = hexadecimal_again quote byte s rest h

-- a character has a first byte
pub character_not_empty : (quote byte : ℕ) → IsCharacter quote [] byte → ⊥
character_not_empty quote byte (inl h) = cc
character_not_empty quote byte (inr (inl h)) = let e = h.1 in cc
character_not_empty quote byte (inr (inr h)) = let e = h.2 in cc
