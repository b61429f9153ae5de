-- How many elements a thin pointer leads to, and whether it may be NULL.
use Rattle.std.proofs.Common.{◌≡◌, ℕ, Bool, true, false, refl, ap}
use Rattle.std.proofs.lemmas.Bool.{eqb-true}
use Rattle.source_meaning.specs.Shapes.{Reach, MayBeNull, NeverNull, may_be_null, same_bound, single}

-- a pointer without a bound of its own may be NULL where that is said
pub single_null : (b : Bool) → may_be_null (single b) ≡ b
single_null true = refl
single_null false = refl

pub bound_is : (a b : Reach) → same_bound a b ≡ true → a ≡ b
bound_is (MayBeNull j) (MayBeNull k) e = ap (λ (n : ℕ). MayBeNull n) (eqb-true j k e)
bound_is (MayBeNull j) (NeverNull k) e = absurd cc
bound_is (NeverNull j) (MayBeNull k) e = absurd cc
bound_is (NeverNull j) (NeverNull k) e = ap (λ (n : ℕ). NeverNull n) (eqb-true j k e)
