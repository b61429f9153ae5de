-- Header words that stay as they are.
use Rattle.std.proofs.Common.{◌≡◌, ℕ, ◌≤◌, List, ap, ◌∙◌, arith}
use Rattle.region_runtime.specs.Pool.{changed_words}
use Rattle.region_runtime.proofs.Words.{no_change}

-- where each is as it was, no more than any number changed
pub none_changed : (old new : List ℕ) (n : ℕ) → new ≡ old → changed_words old new ≤ n
none_changed old new n e = let z = ap (changed_words old) e ∙ no_change old in omega (arith, z)
