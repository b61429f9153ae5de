-- Believed: where the variables are for which names stand.
use Rattle.std.specs.Prelude.{ℕ, suc, Option, Some, None, List, [], ◌∷◌, map, bytes_eq, if◌then◌else◌}
use Rattle.source_meaning.specs.Shapes.{Shape, UnsignedShape}

-- a local: how many blocks out it is, and its number in that block
pub data Home : Type 0 where
  InBlock : (out index : ℕ) → Home

pub record Named : Type 0 where
  pub name : List ℕ
  pub shape : Shape
  pub home : Home

-- a local of this block
abbrev pub named_here : List ℕ → Shape → ℕ → Named
named_here name shape index = record { name = name; shape = shape; home = InBlock 0 index }

-- the innermost local of a name
abbrev pub local_named : List Named → List ℕ → Option Named
local_named [] name = None
local_named (l ∷ ls) name = (if bytes_eq l.name name then Some l else local_named ls name)

-- a block further in, each local is a block further out
abbrev pub further_out : Home → Home
further_out (InBlock out index) = InBlock (suc out) index

abbrev pub one_out : Named → Named
one_out l = record l { home = further_out l.home }

abbrev pub outward : List Named → List Named
outward names = map one_out names

-- the names in an array's elements: the index is the one local of their block
abbrev pub element_names : List ℕ → List Named → List Named
element_names index names = named_here index UnsignedShape 0 ∷ outward names
