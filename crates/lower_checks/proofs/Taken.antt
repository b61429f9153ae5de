-- What is taken can be a local.
use Rattle.std.proofs.Common.{◌≡◌, ℕ, sym, subst, List, [], ◌∷◌, ◌++◌, map}
use Rattle.cyc_tree.specs.Tree.{Initial, Member}
use Rattle.source_meaning.specs.Shapes.{Shape, ArrayShape, Layout, part_of, part_shapes, written, settled}
use Rattle.source_meaning.specs.Programs.{global_shape}
use Rattle.source_lowering.specs.Lowerable.{AreWords, IsObject}
use Rattle.source_lowering.proofs.values.Integers.{value_object}
use Rattle.source_lowering.proofs.memory.ObjectShapes.{object_named}
use Rattle.source_lowering.proofs.statements.WrittenTypes.{value_settled}
use Rattle.source_lowering.specs.Objects.{AreVariables}
use Rattle.lower_checks.specs.Views.{shape_tree}
use Rattle.lower_checks.specs.declared.shape.Shape as code_shape
use Rattle.lower_checks.specs.declared.shape.Shape.TheVariants as shape

-- ---- a shape of the code is no array

no_array : (s : code_shape.Shape) (count : ℕ) (of : Shape) → shape_tree s ≡ ArrayShape count of → ⊥
no_array shape.Int count of is = absurd cc is
no_array shape.Unsigned count of is = absurd cc is
no_array shape.Char count of is = absurd cc is
no_array shape.Void count of is = absurd cc is
no_array (shape.Thin bound owner to) count of is = absurd cc is
no_array (shape.Address owner pointers to) count of is = absurd cc is
no_array (shape.Fat to) count of is = absurd cc is
no_array shape.Handle count of is = absurd cc is
no_array shape.Key count of is = absurd cc is
no_array (shape.Struct tag) count of is = absurd cc is
no_array (shape.Union tag) count of is = absurd cc is

-- a global of such a shape has that of its type
pub one_global : (s : code_shape.Shape) (initial : Initial) (of : Shape) → shape_tree s ≡ global_shape initial of → of ≡ shape_tree s
one_global s Initial.Unset of is = sym is
one_global s (Initial.Elements count) of is = absurd (no_array s count of is)
one_global s (Initial.Given c) of is = sym is

-- the elements of a global array are objects
pub array_global : (unions structs : List Layout) (initial : Initial) (s : Shape) (count : ℕ) (of : Shape) → ArrayShape count of ≡ global_shape initial s
    → IsObject unions structs s → IsObject unions structs of
array_global unions structs Initial.Unset s count of is object = absurd (subst (λ (z : Shape). IsObject unions structs z) (sym is) object)
array_global unions structs (Initial.Elements n) s count of is object =
    let same : s ≡ of = cc is in
    subst (λ (z : Shape). IsObject unions structs z) same object
array_global unions structs (Initial.Given c) s count of is object = absurd (subst (λ (z : Shape). IsObject unions structs z) (sym is) object)

-- ---- locals

-- the parameters of a function, and further locals
pub parameter_variables : (unions structs : List Layout) (ms : List Member) (ss : List Shape) → AreWords ms → AreVariables unions structs ss
    → AreVariables unions structs (part_shapes (map part_of ms) ++ ss)
parameter_variables unions structs [] ss h more = more
parameter_variables unions structs (m ∷ ms) ss h more =
    let s = settled (written m.of) in
    (object_named unions structs s (value_object unions structs s (value_settled m.of h.0)), parameter_variables unions structs ms ss h.1 more)
