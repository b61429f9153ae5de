-- Loops that append to a list what comes next.
use Rattle.std.proofs.Common.{◌≡◌, ℕ, zero, suc, Bool, true, false, List, [], ◌∷◌, ◌++◌, sym, ap, refl, ◌∙◌, arith}
use Rattle.std.specs.Prelude.{if◌then◌else◌}
use Rattle.std.proofs.lemmas.List.{append_assoc, append-nil}
use Rattle.core_lines.specs.Homes.{some_of, flag_at}
use Rattle.rv32_select.specs.Marks.{chosen}

pub pushed : {A : Type 0} (before after rest all : List A) (x : A) → after ≡ before ++ x ∷ [] → all ≡ x ∷ rest → after ++ rest ≡ before ++ all
pushed before after rest all x e is = ap (λ y. y ++ rest) e ∙ append_assoc before (x ∷ []) rest ∙ ap (λ y. before ++ y) (sym is)

-- one register, or none
pub some_one : (h : ℕ) (before after : List ℕ) → (h ≡ 0 → ⊥) → after ≡ before ++ h ∷ [] → after ≡ before ++ some_of (h ∷ [])
some_one zero before after some e = absurd (some refl)
some_one (suc h) before after some e = e

pub some_none : (h : ℕ) (before : List ℕ) → h ≡ 0 → before ≡ before ++ some_of (h ∷ [])
some_none zero before none = sym (append-nil before)
some_none (suc h) before none = absurd (omega (arith, none))

pub some_more : (h : ℕ) (rest all : List ℕ) → all ≡ h ∷ rest → some_of (h ∷ []) ++ some_of rest ≡ some_of all
some_more zero rest all is = sym (ap some_of is)
some_more (suc h) rest all is = sym (ap some_of is)

-- one number of a local that may have a home, or none
pub chosen_one : (flags : List Bool) (n : ℕ) (before after : List ℕ) → flag_at flags n ≡ true → after ≡ before ++ n ∷ []
    → after ≡ before ++ chosen flags (n ∷ [])
chosen_one flags n before after some e = e ∙ sym (ap (λ b. before ++ (if b then n ∷ [] else [])) some)

pub chosen_none : (flags : List Bool) (n : ℕ) (before : List ℕ) → flag_at flags n ≡ false → before ≡ before ++ chosen flags (n ∷ [])
chosen_none flags n before none = sym (append-nil before) ∙ sym (ap (λ b. before ++ (if b then n ∷ [] else [])) none)

pub chosen_more : (flags : List Bool) (n : ℕ) (rest all : List ℕ) → all ≡ n ∷ rest → chosen flags (n ∷ []) ++ chosen flags rest ≡ chosen flags all
chosen_more flags n rest all is = by (flag_at flags n) ∙ sym (ap (chosen flags) is)
  where
    by : (b : Bool) → (if b then n ∷ [] else []) ++ chosen flags rest ≡ (if b then n ∷ chosen flags rest else chosen flags rest)
    by true = refl
    by false = refl

-- some that are appended at once
pub appended : {A : Type 0} (before after some rest all : List A) → after ≡ before ++ some → some ++ rest ≡ all → after ++ rest ≡ before ++ all
appended before after some rest all e is = ap (λ y. y ++ rest) e ∙ append_assoc before some rest ∙ ap (λ y. before ++ y) is
