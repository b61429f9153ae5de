-- What is written of an object that is made: its value first, and then what asks for it.
use Rattle.std.proofs.Common.{◌≡◌, ◌∙◌, ℕ, ◌+◌, refl, sym, subst, Bool, List, [], Option, Some, None}
use Rattle.std.specs.Prelude.{is_some, option_map}
use Rattle.cyc_tree.specs.Tree.{Expression}
use Rattle.source_meaning.specs.Shapes.{Layout, Shape, StructShape, UnionShape}
use Rattle.source_meaning.specs.Steps.{World}
use Rattle.source_lowering.specs.Lowered.{Named, expression_code, expression_values, new_code_by, static_shape, values_by, whole_code, whole_values}
use Rattle.source_lowering.specs.Lowerable.{IsWholeShape}
use Rattle.lower_checks.specs.Structs.{HasRoom}
use Rattle.lower_checks.specs.Unions.{Union, first_union}
use Rattle.lower_checks.specs.Writing.{IsEmitted, IsWritten, next_of}
use Rattle.lower_checks.specs.declared.body.Body.{Body}
use Rattle.lower_checks.proofs.UnionCells.{has_union}
use Rattle.lower_checks.proofs.Writing.{write_emit}

-- a struct or a tagged union
abbrev pub IsWholeOne : Shape → Type 0
IsWholeOne (StructShape tag) = Unit {0}
IsWholeOne (UnionShape tag) = Unit {0}
IsWholeOne s = ⊥

some_cell : {A : Type 0} (cell : Union → A) (found : Option Union) → is_some (option_map cell found) ≡ is_some found
some_cell cell None = refl
some_cell cell (Some u) = refl

-- what has room then is one of the program's
pub room_whole : (unions structs : List Layout) (s : Shape) → IsWholeOne s → HasRoom unions structs s → IsWholeShape unions structs s
room_whole unions structs (StructShape tag) one room = room
room_whole unions structs (UnionShape tag) one room =
    sym (has_union unions tag) ∙ sym (some_cell (λ (u : Union). u.cell) (first_union unions tag)) ∙ room
room_whole unions structs _ one room = absurd one

-- a struct
struct_made : (w : World) (names : List Named) (unique : Bool) (e : Expression) (a b z : Body) (d : ℕ) (tag : List ℕ)
    → static_shape w names e ≡ StructShape tag
    → IsWritten a b (whole_code w names e (d + 1) (next_of a)) (whole_values w names e) → IsEmitted b z (new_code_by w unique (StructShape tag) d [] [])
    → IsWritten a z
    (new_code_by w unique (static_shape w names e) d (whole_code w names e (d + 1) (next_of a)) (expression_code w names e (d + 1) (next_of a)))
    (values_by (static_shape w names e) (whole_values w names e) (expression_values w names e))
struct_made w names unique e a b z d tag shape_is one two =
    let whole = whole_code w names e (d + 1) (next_of a) in
    let word = expression_code w names e (d + 1) (next_of a) in
    subst (λ s. IsWritten a z (new_code_by w unique s d whole word) (values_by s (whole_values w names e) (expression_values w names e))) (sym shape_is)
    (write_emit a b z whole (new_code_by w unique (StructShape tag) d [] []) (new_code_by w unique (StructShape tag) d whole word) (whole_values w names e)
    one two refl)

-- a tagged union
union_made : (w : World) (names : List Named) (unique : Bool) (e : Expression) (a b z : Body) (d : ℕ) (tag : List ℕ)
    → static_shape w names e ≡ UnionShape tag
    → IsWritten a b (whole_code w names e (d + 1) (next_of a)) (whole_values w names e) → IsEmitted b z (new_code_by w unique (UnionShape tag) d [] [])
    → IsWritten a z
    (new_code_by w unique (static_shape w names e) d (whole_code w names e (d + 1) (next_of a)) (expression_code w names e (d + 1) (next_of a)))
    (values_by (static_shape w names e) (whole_values w names e) (expression_values w names e))
union_made w names unique e a b z d tag shape_is one two =
    let whole = whole_code w names e (d + 1) (next_of a) in
    let word = expression_code w names e (d + 1) (next_of a) in
    subst (λ s. IsWritten a z (new_code_by w unique s d whole word) (values_by s (whole_values w names e) (expression_values w names e))) (sym shape_is)
    (write_emit a b z whole (new_code_by w unique (UnionShape tag) d [] []) (new_code_by w unique (UnionShape tag) d whole word) (whole_values w names e)
    one two refl)

pub whole_made : (w : World) (names : List Named) (unique : Bool) (e : Expression) (a b z : Body) (d : ℕ) (s : Shape) → IsWholeOne s
    → static_shape w names e ≡ s
    → IsWritten a b (whole_code w names e (d + 1) (next_of a)) (whole_values w names e) → IsEmitted b z (new_code_by w unique s d [] [])
    → IsWritten a z
    (new_code_by w unique (static_shape w names e) d (whole_code w names e (d + 1) (next_of a)) (expression_code w names e (d + 1) (next_of a)))
    (values_by (static_shape w names e) (whole_values w names e) (expression_values w names e))
whole_made w names unique e a b z d (StructShape tag) one shape_is written object = struct_made w names unique e a b z d tag shape_is written object
whole_made w names unique e a b z d (UnionShape tag) one shape_is written object = union_made w names unique e a b z d tag shape_is written object
whole_made w names unique e a b z d _ one shape_is written object = absurd one
