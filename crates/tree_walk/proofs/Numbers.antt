-- The numbers of strings that are found by their places.
use Rattle.std.proofs.Common.{◌≡◌, ◌+◌, ◌<◌, ◌≤◌, ◌^◌, ℕ, suc, Bool, true, false, List, [], ◌∷◌, length, Option, Some, if◌then◌else◌, arith, subst, sym}
use Rattle.std.proofs.lemmas.List.{length-map}
use Rattle.std.specs.Prelude.{IfSome, nat_eq}
use Rattle.source_meaning.specs.Strings as meaning
use Rattle.tree_walk.specs.Listing.{listed, literal_of}
use Rattle.tree_walk.specs.Numbered.{first_at, numbered}
use Rattle.tree_walk.specs.declared.found.Literal.{Literal}
use Rattle.tree_walk.specs.declared.places.Numbered as code

one_of : (own : Bool) (n : code.Numbered) (found : Option code.Numbered) (end : ℕ) → n.number < end → IfSome found (λ m. m.number < end)
    → IfSome (if own then Some n else found) (λ m. m.number < end)
one_of true n found end here there = here
one_of false n found end here there = there

-- it is that of one of them
found_within : (ss : List meaning.Literal) (k at end : ℕ) → k + length ss ≤ end → IfSome (first_at ss k at) (λ n. n.number < end)
found_within [] k at end within = tt
found_within (s ∷ ss) k at end within =
    one_of (nat_eq s.0 at) (numbered s k) (first_at ss (suc k) at) end (omega (arith, within)) (found_within ss (suc k) at end (omega (arith, within)))

-- so it is small where they are in memory
pub found_small : (all : List Literal) (at : ℕ) (found : Option code.Numbered) → length all < 2 ^ 63 → found ≡ first_at (listed all) 0 at
    → IfSome found (λ n. n.number < 2 ^ 63)
found_small all at found few is =
    subst (λ (o : Option code.Numbered). IfSome o (λ n. n.number < 2 ^ 63)) (sym is)
    (found_within (listed all) 0 at (2 ^ 63) (omega (arith, few, length-map all literal_of)))
