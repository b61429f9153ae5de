-- Exchanges and `ufree` without fault, where all is known of each name in scope: lowering takes them.
use Rattle.std.proofs.Common.{◌≡◌, Bool, true, List, subst}
use Rattle.std.specs.Prelude.{not}
use Rattle.cyc_tree.specs.Tree as tree
use Rattle.cyc_tree.specs.Tree.{Expression}
use Rattle.source_lowering.specs.Lowerable.{IsExchanged, IsOperandShape, IsThinShape, TakesPlace}
use Rattle.source_lowering.specs.Lowered.{Named, static_shape}
use Rattle.source_meaning.specs.Shapes as shapes
use Rattle.source_meaning.specs.Shapes.{Shape}
use Rattle.source_meaning.specs.Steps.{World}
use Rattle.type_proof.proofs.statements.Exchanged.{all_five}
use Rattle.source_typing.specs.Exchanges.{exchangeable}
use Rattle.source_typing.specs.Scope.{Value, is_place}
use Rattle.source_typing.specs.Types.{Char, Fat, Handle, Int, Key, Null, StaticType, Struct, Thin, Union, Unique, Unsigned, Void, is_key, is_same, is_scalar}
use Rattle.source_typing.specs.Types.{shape_of}
use Rattle.accepted_proof.proofs.Known.{IsKnown, known_target}
use Rattle.accepted_proof.proofs.lowered.Forms.{IsTaken, TakenAs, TakenPlace, TakenWord}
use Rattle.accepted_proof.proofs.lowered.Stands.{StandsAs, operand_stands, known_stands, stands_exactly, thin_stands}

abbrev IsStructShape : Shape → Type 0
IsStructShape (shapes.StructShape tag) = Unit {0}
IsStructShape s = ⊥

no_struct : (s : Shape) → IsOperandShape s → IsStructShape s → ⊥
no_struct (shapes.StructShape tag) h k = h
no_struct _ h k = k

module _ (w : World) where
  -- what takes one cell, and is no struct
  one_cell : (s : Shape) → IsKnown w s → (IsStructShape s → ⊥) → IsExchanged w.unions s
  one_cell shapes.IntShape k h = tt
  one_cell shapes.UnsignedShape k h = tt
  one_cell shapes.CharShape k h = tt
  one_cell (shapes.ThinShape n o t) k h = known_target w t k
  one_cell (shapes.FatShape t) k h = known_target w t k
  one_cell shapes.HandleShape k h = tt
  one_cell shapes.KeyShape k h = tt
  one_cell (shapes.StructShape tag) k h = absurd (h tt)
  one_cell (shapes.UnionShape tag) k h = k
  one_cell _ k h = absurd k

  scalar_shape : (s : Shape) (t : StaticType) → StandsAs s (shape_of t) → is_scalar t ≡ true → IsStructShape s → ⊥
  scalar_shape s (Struct tag rs) h e k = cc
  scalar_shape s Void h e k = cc
  scalar_shape s Null h e k = cc
  scalar_shape s Int h e k = subst (λ z. IsStructShape z) (stands_exactly s shapes.IntShape h tt) k
  scalar_shape s Unsigned h e k = subst (λ z. IsStructShape z) (stands_exactly s shapes.UnsignedShape h tt) k
  scalar_shape s Char h e k = subst (λ z. IsStructShape z) (stands_exactly s shapes.CharShape h tt) k
  scalar_shape s (Handle r) h e k = subst (λ z. IsStructShape z) (stands_exactly s shapes.HandleShape h tt) k
  scalar_shape s (Key r) h e k = subst (λ z. IsStructShape z) (stands_exactly s shapes.KeyShape h tt) k
  scalar_shape s (Union tag rs) h e k = subst (λ z. IsStructShape z) (stands_exactly s (shapes.UnionShape tag) h tt) k
  scalar_shape s (Thin n r t) h e k = no_struct s (operand_stands s (shape_of (Thin n r t)) h tt) k
  scalar_shape s (Fat r t) h e k = no_struct s (operand_stands s (shape_of (Fat r t)) h tt) k
  scalar_shape s (Unique n t) h e k = no_struct s (operand_stands s (shape_of (Unique n t)) h tt) k

  pub exchange_takes : (names : List Named) (a b : Expression) (u v : Value) → IsTaken w names a u → IsTaken w names b v → exchangeable u v ≡ true
      → TakesPlace w names a × (TakesPlace w names b × IsExchanged w.unions (static_shape w names a))
  exchange_takes names a b u v x y e =
      let i = all_five (is_place u.seat) (is_place v.seat) (is_same u.type v.type) (is_scalar u.type) (not (is_key u.type)) e in
      let s : Shape = static_shape w names a in
      let p : TakenPlace w names a u.type = x.place i.0 in
      let q : TakenPlace w names b v.type = y.place i.1 in
      (p.takes, (q.takes, one_cell s (known_stands w s (shape_of u.type) p.shape p.known) (scalar_shape s u.type p.shape i.3)))

  pub free_takes : (names : List Named) (x : tree.Name) (v : Value) (n : Bool) (to : StaticType) → v.type ≡ Unique n to
      → IsTaken w names (Expression.Variable x) v
      → IsThinShape (static_shape w names (Expression.Variable x))
  free_takes names x v n to e k =
      let word : TakenWord w names (Expression.Variable x) (Unique n to) =
      subst (λ (t : StaticType). TakenAs w names t (Expression.Variable x)) e k.value in
      let s : Shape = static_shape w names (Expression.Variable x) in
      thin_stands s (shape_of (Unique n to)) word.shape tt
