-- The results to come: the last of a list that is taken off from its end is the next one.
use Rattle.std.specs.Prelude.{slice_get}
use Rattle.std.proofs.Common.{◌≡◌, ◌-◌, ◌<◌, Bool, false, List, [], ◌∷◌, ◌++◌, length, drop, reverse, Option, Some, None, IsSome, option_to_list}
use Rattle.std.proofs.Common.{refl, sym, ap, ◌∙◌, arith}
use Rattle.std.proofs.lemmas.Bool.{false≢true}
use Rattle.std.proofs.lemmas.List.{append-nil, length_push, reverse-append, reverse-reverse}
use Rattle.core_lines.specs.Homes.{flag_at}

pub popped : (old new : List Bool) (b : Bool) → old ≡ new ++ b ∷ [] → reverse old ≡ b ∷ reverse new
popped old new b e = ap reverse e ∙ reverse-append new (b ∷ [])

pub passed_some : (old new : List Bool) (b : Bool) → old ≡ new ++ b ∷ [] → reverse new ≡ drop 1 (reverse old)
passed_some old new b e = sym (ap (drop 1) (popped old new b e))

-- ---- the last one

abbrev first_of : List Bool → Option Bool
first_of [] = None
first_of (b ∷ bs) = Some b

at_end : (bs : List Bool) (b : Bool) → slice_get (bs ++ b ∷ []) (length bs) ≡ Some b
at_end [] b = refl
at_end (c ∷ bs) b = at_end bs b

last_is : (xs rs : List Bool) → xs ≡ reverse rs → slice_get xs (length xs - 1) ≡ first_of rs
last_is xs [] e = ap (λ ys. slice_get ys (length ys - 1)) e
last_is xs (b ∷ bs) e =
    let ys = reverse bs in
    let is : xs ≡ ys ++ b ∷ [] = e ∙ reverse-append (b ∷ []) bs in
    let many : length xs - 1 ≡ length ys = omega (arith, ap length is, length_push ys b) in
    (λ i. slice_get (is i) (many i)) ∙ at_end ys b

first_flag : (rs : List Bool) (b : Bool) → Some b ≡ first_of rs → b ≡ flag_at rs 0
first_flag [] b e = absurd cc
first_flag (c ∷ rs) b e = cc

no_flag : (rs : List Bool) → None ≡ first_of rs → false ≡ flag_at rs 0
no_flag [] e = refl
no_flag (c ∷ rs) e = absurd cc

pub next_some : (xs : List Bool) (b : Bool) → Some b ≡ slice_get xs (length xs - 1) → b ≡ flag_at (reverse xs) 0
next_some xs b e = first_flag (reverse xs) b (e ∙ last_is xs (reverse xs) (sym (reverse-reverse xs)))

pub next_none : (xs : List Bool) → None ≡ slice_get xs (length xs - 1) → false ≡ flag_at (reverse xs) 0
next_none xs e = no_flag (reverse xs) (e ∙ last_is xs (reverse xs) (sym (reverse-reverse xs)))

pub passed : (old new : List Bool) (o : Option Bool) → old ≡ new ++ option_to_list o → (0 < length old → IsSome o) → reverse new ≡ drop 1 (reverse old)
passed old new (Some b) e some = passed_some old new b e
passed old new None e some = by old (e ∙ append-nil new) some
  where
    by : (xs : List Bool) → xs ≡ new → (0 < length xs → IsSome {T = Bool} None) → reverse new ≡ drop 1 (reverse xs)
    by [] is none = ap reverse (sym is)
    by (x ∷ xs) is none = absurd (false≢true (none (omega arith)))
