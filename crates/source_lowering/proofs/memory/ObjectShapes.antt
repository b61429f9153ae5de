-- The shape of an object is no array's: a local of it is one element; structs and unions are objects.
use Rattle.std.proofs.Common.{List, ℕ}
use Rattle.source_meaning.specs.Shapes.{
  Shape,
  IntShape,
  UnsignedShape,
  CharShape,
  VoidShape,
  ThinShape,
  FatShape,
  HandleShape,
  KeyShape,
  StructShape,
  UnionShape,
  ArrayShape,
  Layout,
}
use Rattle.source_meaning.specs.Memory as source
use Rattle.source_meaning.specs.Memory.{Spot}
use Rattle.source_meaning.specs.Steps.{World}
use Rattle.core_meaning.specs.Memory as core
use Rattle.source_lowering.specs.Layouts.{layout_of}
use Rattle.source_lowering.specs.Lowerable.{IsObject, IsWholeShape, IsVariable}
use Rattle.source_lowering.specs.Simulation.{AreMade, Leads, VariableLeads, LocalMade}

-- a struct or a union is an object
pub whole_object : (unions structs : List Layout) (shape : Shape) → IsWholeShape unions structs shape → IsObject unions structs shape
whole_object unions structs (StructShape tag) h = h
whole_object unions structs (UnionShape tag) h = h
whole_object unions structs IntShape h = absurd h
whole_object unions structs UnsignedShape h = absurd h
whole_object unions structs CharShape h = absurd h
whole_object unions structs VoidShape h = absurd h
whole_object unions structs (ThinShape may_be_null owner to) h = absurd h
whole_object unions structs (FatShape to) h = absurd h
whole_object unions structs HandleShape h = absurd h
whole_object unions structs KeyShape h = absurd h
whole_object unions structs (ArrayShape count of) h = absurd h

pub object_leads : (unions structs : List Layout) (w : World) (m : source.Memory) (c : core.Memory) (shape : Shape) (s : Spot) → IsObject unions structs shape
    → VariableLeads w m c shape s → Leads w m c shape s 0
object_leads unions structs w m c (ArrayShape count of) s object h = absurd object
object_leads unions structs w m c _ s object h = h

pub leads_object : (unions structs : List Layout) (w : World) (m : source.Memory) (c : core.Memory) (shape : Shape) (s : Spot) → IsObject unions structs shape
    → Leads w m c shape s 0 → VariableLeads w m c shape s
leads_object unions structs w m c (ArrayShape count of) s object h = absurd object
leads_object unions structs w m c _ s object h = h

pub object_made : (unions structs : List Layout) (w : World) (c : core.Memory) (r : core.Region) (index : ℕ) (s : Shape) → IsObject unions structs s
    → LocalMade w c r index s → AreMade c (record { region = r; object = index; cell = 0 }) 0 (layout_of w s).cells
object_made unions structs w c r index (ArrayShape count of) object h = absurd object
object_made unions structs w c r index _ object h = h

-- a name may stand for an object
pub object_named : (unions structs : List Layout) (s : Shape) → IsObject unions structs s → IsVariable unions structs s
object_named unions structs (ArrayShape count of) object = absurd object
object_named unions structs _ object = object
