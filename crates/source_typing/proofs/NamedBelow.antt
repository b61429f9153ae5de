-- What was declared before so many region names was declared before more of them.
use Rattle.std.proofs.Common.{ℕ, ◌+◌, ◌≤◌, List, [], ◌∷◌, arith}
use Rattle.source_typing.specs.Named.{AllBelow, Below, NamesBelow}
use Rattle.source_typing.specs.Regions.{Level, Region, TheHeap}
use Rattle.source_typing.specs.Written.{RegionNamed}

pub below_more : (m n : ℕ) (r : Region) → m ≤ n → Below m r → Below n r
below_more m n TheHeap l h = tt
below_more m n (Level k) l h = omega (arith, h, l)

pub below_up : (n : ℕ) (a : Region) → Below n a → Below (n + 1) a
below_up n TheHeap h = tt
below_up n (Level k) h = omega (arith, h)

pub all_up : (n : ℕ) (rs : List Region) → AllBelow n rs → AllBelow (n + 1) rs
all_up n [] h = tt
all_up n (r ∷ rs) h = (below_up n r h.0, all_up n rs h.1)

pub names_up : (n : ℕ) (ns : List RegionNamed) → NamesBelow n ns → NamesBelow (n + 1) ns
names_up n [] h = tt
names_up n (r ∷ rs) h = (below_up n r.id h.0, names_up n rs h.1)
