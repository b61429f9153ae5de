-- Believed: expressions that are statements, whose values are dropped: structs and tagged unions that are assigned, made or read, and what is neither.
use Rattle.std.specs.Prelude.{ℕ, ◌+◌, List, [], ◌∷◌, ◌++◌, length, if◌then◌else◌}
use Rattle.cyc_tree.specs.Tree.{Expression}
use Rattle.source_meaning.specs.Shapes.{Shape, StructShape, UnionShape}
use Rattle.source_meaning.specs.Steps.{World}
use Rattle.core_meaning.specs.Core.{Copy, Do, Statement}
use Rattle.source_lowering.specs.Layouts.{layout_of}
use Rattle.source_lowering.specs.Lowered.{Named, expression_code, place_code, static_shape}
pub use Rattle.source_lowering.specs.Lowered.{
  makes_struct,
  is_made,
  values_by,
  expression_values,
  whole_values,
  made_values,
  copied_code,
  struct_member_code,
  word_member_code,
  member_code,
  whole_code,
  members_code,
}

-- the value is evaluated first, and copied to its place then
abbrev pub assigned_code : World → List Named → Shape → (place value : Expression) → (d own : ℕ) → List Statement
assigned_code w names (StructShape tag) place value d own =
    whole_code w names value d own ++
    (place_code w names place (d + 1) (own + length (whole_values w names value)) ++ (Do (Copy (d + 1) d (layout_of w (StructShape tag))) ∷ []))
assigned_code w names (UnionShape tag) place value d own =
    whole_code w names value d own ++
    (place_code w names place (d + 1) (own + length (whole_values w names value)) ++ (Do (Copy (d + 1) d (layout_of w (UnionShape tag))) ∷ []))
assigned_code w names s place value d own = expression_code w names (Expression.Assign place value) d own

abbrev pub assigned_values : World → List Named → Shape → (place value : Expression) → List Shape
assigned_values w names s place value =
    values_by s (whole_values w names value) (expression_values w names value) ++ expression_values w names place

abbrev pub dropped_code : World → List Named → Shape → Expression → (d own : ℕ) → List Statement
dropped_code w names (StructShape tag) e d own = whole_code w names e d own
dropped_code w names (UnionShape tag) e d own = whole_code w names e d own
dropped_code w names s e d own = expression_code w names e d own

abbrev pub dropped_values : World → List Named → Shape → Expression → List Shape
dropped_values w names s e = values_by s (whole_values w names e) (expression_values w names e)

abbrev pub run_code : World → List Named → Expression → (d own : ℕ) → List Statement
run_code w names (Expression.Assign place value) d own = assigned_code w names (static_shape w names place) place value d own
run_code w names (Expression.Grouped at inner) d own = run_code w names inner d own
run_code w names (Expression.Call name arguments) d own =
    (if makes_struct w name.text then whole_code w names (Expression.Call name arguments) d own
    else expression_code w names (Expression.Call name arguments) d own)
run_code w names e d own = dropped_code w names (static_shape w names e) e d own

abbrev pub run_values : World → List Named → Expression → List Shape
run_values w names (Expression.Assign place value) = assigned_values w names (static_shape w names place) place value
run_values w names (Expression.Grouped at inner) = run_values w names inner
run_values w names (Expression.Call name arguments) =
    (if makes_struct w name.text then whole_values w names (Expression.Call name arguments)
    else expression_values w names (Expression.Call name arguments))
run_values w names e = dropped_values w names (static_shape w names e) e
