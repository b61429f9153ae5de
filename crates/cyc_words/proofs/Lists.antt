-- Elements of two lists that are joined.
use Rattle.std.proofs.Common.{◌≡◌, ℕ, zero, suc, ◌<◌, List, [], ◌∷◌, ◌++◌, length, refl, arith}
use Rattle.std.specs.Prelude.{slice_get}

-- an element of the first list
pub got_before : {A : Type 0} (xs ys : List A) (k : ℕ) → k < length xs → slice_get (xs ++ ys) k ≡ slice_get xs k
got_before [] ys k l = absurd (omega (arith, l))
got_before (x ∷ xs) ys zero l = refl
got_before (x ∷ xs) ys (suc k) l = got_before xs ys k (omega (arith, l))
