-- What is known of whether a word is 0, as NULL is.
use Rattle.std.proofs.Common.{◌≡◌, ℕ, zero, suc, List, Option, Some, None, refl, ap, ◌∙◌, arith}
use Rattle.core_lines.specs.Held.{Source, Number, Holding, with_source, with_result, with_moved, null_source}

pub null_zero : (w : ℕ) (s : Option Source) → Some (Number w) ≡ s → w ≡ 0 → Some (Number 1) ≡ null_source s
null_zero zero s is none = ap null_source is
null_zero (suc w) s is none = absurd (omega (arith, none))

pub null_other : (w : ℕ) (s : Option Source) → Some (Number w) ≡ s → (w ≡ 0 → ⊥) → Some (Number 0) ≡ null_source s
null_other zero s is some = absurd (some refl)
null_other (suc w) s is some = ap null_source is

pub held_some : (hs : List Holding) (t : ℕ) (s : Source) (known : Option Source) (after : List Holding) → Some s ≡ known → after ≡ with_source t s hs
    → after ≡ with_moved t known hs
held_some hs t s known after is e = e ∙ ap (λ k. with_moved t k hs) is

pub held_none : (hs : List Holding) (t : ℕ) (known : Option Source) (after : List Holding) → None ≡ known → after ≡ with_result t hs
    → after ≡ with_moved t known hs
held_none hs t known after is e = e ∙ ap (λ k. with_moved t k hs) is
