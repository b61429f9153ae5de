-- Forms of expressions: prefix operators, what is stored to, and members.
use Rattle.std.proofs.Common.{◌≡◌, ℕ, ◌+◌, List, [], ◌∷◌, ◌++◌, length, refl, sym, ap, subst}
use Rattle.cyc_tree.specs.declared.expression.Operator.TheVariants as operator
use Rattle.cyc_tree.specs.declared.expression.Prefix.TheVariants as prefix
use Rattle.cyc_tree.specs.Tree.{Expressions}
use Rattle.source_meaning.specs.Shapes.{Shape, IntShape, pointee}
use Rattle.source_meaning.specs.Memory.{AsInt}
use Rattle.source_meaning.specs.Steps.{World, ◌>>=◌}
use Rattle.source_meaning.specs.Conversions.{cells_of, accessed}
use Rattle.source_meaning.specs.Conversions as conversions
use Rattle.source_meaning.specs.Places.{Sense, place_sense}
use Rattle.source_meaning.specs.Calls.{constant, tested, inverted, truth, prefixed}
use Rattle.core_meaning.specs.Core.{Statement, Do, Constant}
use Rattle.source_lowering.specs.Lowered.{Named, prefix_shape, Left, pointer_to, store_to, reach_code, prefix_code, pointed_code, arguments_code}
use Rattle.source_lowering.specs.Simulation.{Point}
use Rattle.source_lowering.specs.Members.{words_in, loads_code}
use Rattle.source_lowering.proofs.values.Integers.{IsTaken, IsOperandShape, value_taken, object_value, object_target}
use Rattle.source_lowering.proofs.expressions.Variables.{Agrees, StoresAs}
use Rattle.source_lowering.proofs.expressions.Forms.{int_agrees, applied_agrees, value_agrees}
use Rattle.source_lowering.proofs.expressions.Places.{IsPlaced, contents_reached, contents_placed, pointee_taken}
use Rattle.source_lowering.proofs.expressions.Reaching.{placed_reached, reached_placed}
use Rattle.source_lowering.proofs.expressions.ValuePlaces.{value_stored, target_read}
use Rattle.source_lowering.proofs.expressions.Suffixing.{MemberAs}
use Rattle.source_lowering.proofs.values.Tests.{not_gives}

-- ---- prefix operators

pub negate_agrees : (p : Point) (n d : ℕ) (e : Sense) (shape : Shape) (code here place : List Statement) → Agrees p n (d + 1) e shape code
    → Agrees p n d (prefixed p.world prefix.Negate e) (prefix_shape prefix.Negate shape) (prefix_code p.world prefix.Negate shape d code here place)
negate_agrees p n d e shape code here place one =
    applied_agrees p n d operator.Subtract (constant AsInt 0) e IntShape shape (Do (Constant d 0) ∷ []) code (int_agrees p n d 0) one

pub complement_agrees : (p : Point) (n d : ℕ) (e : Sense) (shape : Shape) (code here place : List Statement) → Agrees p n (d + 1) e shape code
    → Agrees p n d (prefixed p.world prefix.Complement e) (prefix_shape prefix.Complement shape) (prefix_code p.world prefix.Complement shape d code here place)
complement_agrees p n d e shape code here place one =
    applied_agrees p n d operator.BitXor (constant AsInt 4294967295) e IntShape shape (Do (Constant d 4294967295) ∷ []) code (int_agrees p n d 4294967295) one

pub not_agrees : (p : Point) (n d : ℕ) (e : Sense) (shape : Shape) (code here place : List Statement) → Agrees p n (d + 1) e shape code
    → Agrees p n d (prefixed p.world prefix.Not e) (prefix_shape prefix.Not shape) (prefix_code p.world prefix.Not shape d code here place)
not_agrees p n d e shape code here place one =
    value_agrees p n d IntShape IntShape (tested (inverted (truth e))).look _ refl tt (not_gives p n d e shape code one.taken one.looks)

pub contents_agrees : (p : Point) (n d : ℕ) (e : Sense) (shape : Shape) (above code place : List Statement) → IsOperandShape (pointee shape)
    → Agrees p n d e shape code
    → Agrees p n d (prefixed p.world prefix.Dereference e) (prefix_shape prefix.Dereference shape)
    (prefix_code p.world prefix.Dereference shape d above code place)
contents_agrees p n d e shape above code place single one =
    let cells : ℕ = length (cells_of p.world (pointee shape)) in
    subst (λ z. Agrees p n d (place_sense p.world (pointee z) (e.look >>= conversions.one >>= λ q. accessed (length (cells_of p.world (pointee z))) q))
    (pointee shape) ((code ++ reach_code p.world shape d) ++ loads_code (pointee shape) d 0 0)) (sym one.shape_is)
    (target_read p n d 0 0 (pointee shape) (e.look >>= conversions.one >>= λ q. accessed cells q) (code ++ reach_code p.world shape d)
    (pointee_taken shape one.taken) single
    (placed_reached p n d (pointee shape) (e.look >>= conversions.one >>= λ q. accessed cells q) (code ++ reach_code p.world shape d)
    (contents_reached p n d e shape code one)))

-- ---- calls

-- no shapes, no code of arguments
pub no_shapes : (w : World) (names : List Named) (shapes : List Shape) (es : Expressions) (d own : ℕ) → shapes ≡ []
    → arguments_code w names shapes es d own ≡ []
no_shapes w names shapes es d own e = ap (λ z. arguments_code w names z es d own) e

-- ---- places

-- what is stored to
pub record IsStored (p : Point) (n d : ℕ) (e : Sense) (shape : Shape) (code : List Statement) : Type 0 where
  pub shape_is : e.shape ≡ shape
  pub taken : IsTaken shape
  pub stores : StoresAs p n d shape e.place code

pub contents_are : (p : Point) (n d : ℕ) (e : Sense) (shape : Shape) (code : List Statement) → Agrees p n d e shape code
    → IsPlaced p n d (prefixed p.world prefix.Dereference e) (prefix_shape prefix.Dereference shape) (pointed_code p.world prefix.Dereference shape d code)
contents_are p n d e shape code one = record {
  shape_is = ap pointee one.shape_is;
  target = pointee_taken shape one.taken;
  placed = contents_placed p n d e shape code one;
  value = λ whole s m. refl;
  look = λ whole s m. refl;
}

-- ---- suffixes: what they lead to is read, stored to, or has a pointer to it

pub suffixes_value : (p : Point) (n d : ℕ) (e : Sense) (shape : Shape) (left : Left) → left.shape ≡ shape → IsOperandShape shape → MemberAs p n e left
    → Agrees p n d e shape (left.value d)
suffixes_value p n d e shape left same single one =
    subst (λ z. Agrees p n d e z (left.value d)) same (one.value (subst IsOperandShape (sym same) single) d)

pub suffixes_stored : (p : Point) (n d : ℕ) (e : Sense) (shape : Shape) (left : Left) → left.shape ≡ shape → IsOperandShape shape → MemberAs p n e left
    → IsStored p n d e shape (store_to left (d + words_in shape) d)
suffixes_stored p n d e shape left same single one =
    let is_value = object_value p.world.unions p.world.structs left.shape one.object (subst IsOperandShape (sym same) single) in
    subst (λ z. IsStored p n d e z (store_to left (d + words_in z) d)) same (record {
      shape_is = one.shape_is;
      taken = value_taken left.shape is_value;
      stores = value_stored p n d left.cells left.bytes left.shape e.place (left.pointer (d + words_in left.shape)) is_value
          (one.reached (d + words_in left.shape));
    })

pub suffixes_placed : (p : Point) (n d : ℕ) (e : Sense) (shape : Shape) (left : Left) → left.shape ≡ shape → MemberAs p n e left
    → IsPlaced p n d e shape (pointer_to left d)
suffixes_placed p n d e shape left same one =
    subst (λ z. IsPlaced p n d e z (pointer_to left d)) same (record {
      shape_is = one.shape_is;
      target = object_target p.world.unions p.world.structs left.shape one.object;
      placed = reached_placed p n d left.cells left.bytes left.shape e.place (left.pointer d) (one.reached d);
      value = λ whole s m. one.given s m;
      look = λ whole s m. one.looked s m;
    })
