-- Flags of temporaries, one after the other.
use Rattle.std.proofs.Common.{◌≡◌, ℕ, Bool, true, List, [], ◌∷◌, ◌++◌, refl}
use Rattle.core_lines.specs.Saved.{flagged, all_flagged}

pub flagged_both : (xs ys : List ℕ) (bs : List Bool) → all_flagged true (xs ++ ys) bs ≡ all_flagged true ys (all_flagged true xs bs)
flagged_both [] ys bs = refl
flagged_both (x ∷ xs) ys bs = flagged_both xs ys (flagged true x bs)
