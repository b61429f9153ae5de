-- A program has a token that is too deep just where its nesting is more than the limit.
use Rattle.std.proofs.Common.{◌≡◌, ℕ, ◌≤◌, ◌<◌, max, Bool, true, false, cond, List, [], ◌∷◌, Some, None, refl, arith}
use Rattle.std.proofs.lemmas.Bool.{le-leb, leb-true}
use Rattle.std.specs.Prelude.{nat_le}
use Rattle.cyc_tree.specs.Tree.{Program}
use Rattle.cyc_tree.specs.Depths.{Start, program_starts, greatest_depth, nesting, nesting_limit, first_deeper, too_deep_at}

-- where the greatest depth isn't too deep, nothing is
none_deeper : (limit : ℕ) (xs : List Start) → greatest_depth xs ≤ limit → first_deeper limit xs ≡ None
none_deeper limit [] h = refl
none_deeper limit (s ∷ xs) h = rw (le-leb s.depth limit (omega (arith, h))) (none_deeper limit xs (omega (arith, h)))

-- the first one is too deep, or a later one is
deep_at : (limit : ℕ) (s : Start) (xs : List Start) (b : Bool) → nat_le s.depth limit ≡ b → limit < max s.depth (greatest_depth xs)
    → (limit < greatest_depth xs → (at : ℕ) × (first_deeper limit xs ≡ Some at)) → (at : ℕ) × (cond b (first_deeper limit xs) (Some s.at) ≡ Some at)
deep_at limit s xs true is deep later = let within : s.depth ≤ limit = leb-true s.depth limit is in later (omega (arith, deep, within))
deep_at limit s xs false is deep later = (s.at, refl)

-- where something is too deep, there is a first one
deep_first : (limit : ℕ) (xs : List Start) → limit < greatest_depth xs → (at : ℕ) × (first_deeper limit xs ≡ Some at)
deep_first limit [] h = absurd (omega (arith, h))
deep_first limit (s ∷ xs) h = deep_at limit s xs (nat_le s.depth limit) refl h (deep_first limit xs)

-- within the limit no token is too deep
pub none_too_deep : (p : Program) → nesting p ≤ nesting_limit → too_deep_at p ≡ None
unfolding nesting
none_too_deep p h = none_deeper nesting_limit (program_starts p) h

-- and where it nests deeper, some token is too deep
pub deep_has_place : (p : Program) → nesting_limit < nesting p → (at : ℕ) × (too_deep_at p ≡ Some at)
unfolding nesting
deep_has_place p h = deep_first nesting_limit (program_starts p) h
