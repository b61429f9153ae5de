-- Operators, pointers and assignments that lowering takes.
use Rattle.std.proofs.Common.{◌≡◌, ℕ, Bool, true, false, List, refl, sym, subst, ap, ◌∙◌}
use Rattle.std.specs.Prelude.{◌&&◌, ◌||◌}
use Rattle.std.proofs.lemmas.Bool.{false≢true}
use Rattle.cyc_tree.specs.declared.expression.Operator.{Operator}
use Rattle.cyc_tree.specs.declared.expression.Operator.TheVariants as operator
use Rattle.cyc_tree.specs.declared.expression.Prefix.{Prefix}
use Rattle.cyc_tree.specs.declared.expression.Prefix.TheVariants as prefix
use Rattle.cyc_tree.specs.Tree.{Expression}
use Rattle.source_lowering.specs.Lowerable.{IsGivenShape, IsOperandShape, Takes, TakesAssigned, TakesPlace, TakesRun, TakesWhole}
use Rattle.source_lowering.specs.Lowered.{Named, static_shape}
use Rattle.source_meaning.specs.Shapes.{MayBeNull, NeverNull, Reach}
use Rattle.source_meaning.specs.Memory.{AsInt, IntegerType}
use Rattle.source_meaning.specs.Operators.{operator_shape}
use Rattle.source_meaning.specs.Shapes as shapes
use Rattle.source_meaning.specs.Shapes.{IntShape, Shape, StructShape}
use Rattle.source_meaning.specs.Steps.{World}
use Rattle.source_typing.specs.Converts.{Converts, IsInteger}
use Rattle.source_typing.specs.Operators.{applied_to, compared, compared_thin, fat_moved, if_equality, integers_joined}
use Rattle.source_typing.specs.Operators.{is_equality, is_move, on_integers, prefixed, promoted, signed}
use Rattle.source_typing.specs.Places.{address, address_of, assigned, assigned_in, assigned_type}
use Rattle.source_typing.specs.Regions.{Region}
use Rattle.source_typing.specs.Scope.{Env, In, InBlock, Nowhere, Seat, Value, is_place, value}
use Rattle.source_typing.specs.Types.{Char, Fat, Handle, Int, Key, Null, StaticType, Struct, Thin, Union}
use Rattle.source_typing.specs.Types.{Unique, Unsigned, Void, integer_type, is_integer, is_null, is_pointer, is_same, is_testable, shape_of}
use Rattle.source_typing.specs.Verdicts.{Of, after, if_fits}
use Rattle.source_typing.proofs.Inversion.{unless_is}
use Rattle.source_typing.proofs.OperatorsFit.{NullWith, OnFat, OnIntegers, OnThin, Operates, WithNull, signed_is, tested_is}
use Rattle.source_typing.proofs.PlacesFit.{PointsTo, assigned_is, contents_is}
use Rattle.type_proof.proofs.expressions.Integers.{integer_is, on_integers_is, operator_shaped}
use Rattle.type_proof.proofs.expressions.Pointers.{equality_shape}
use Rattle.type_proof.proofs.expressions.WordRules.{value_of}
use Rattle.accepted_proof.proofs.Known.{IsKnownValue, IsWord, converts_whole, converts_word, integer_word, known_value, testable_word, word_shape}
use Rattle.accepted_proof.proofs.lowered.Forms.{IsTaken, TakenAs, TakenPlace, TakenWord, taken_place, taken_word, word_as, word_is}
use Rattle.accepted_proof.proofs.lowered.Calls.{whole_taken}
use Rattle.accepted_proof.proofs.lowered.Stands.{Exactly, FatAs, StandsAs, ThinAs, given_stands, operand_stands, pointee_stands, stands_exactly, stands_from}
use Rattle.accepted_proof.proofs.lowered.Stands.{stands_same}
use Rattle.accepted_proof.proofs.lowered.Stands.{stands_to}

-- ---- what operators give is no place

pub fits_seat : (c : Bool) (at place : ℕ) (t : StaticType) (v : Value) → after (if_fits c at t) (value place) ≡ Of v → v.seat ≡ Nowhere
fits_seat true at place t v e = (value_of place t v e).seat
fits_seat false at place t v e = absurd cc

thin_seat : (g : Env) (at : ℕ) (c : Bool) (r q : Region) (v : Value) → compared_thin g at c r q ≡ Of v → v.seat ≡ Nowhere
thin_seat g at true r q v e = (value_of at Int v (unless_is _ (value at Int) v e).1).seat
thin_seat g at false r q v e = absurd cc

compared_seat : (g : Env) (at : ℕ) (a b : StaticType) (v : Value) → compared g at a b ≡ Of v → v.seat ≡ Nowhere
compared_seat g at (Thin n r t) (Thin m q u) v e = thin_seat g at (is_same t u) r q v e
compared_seat g at a b v e = fits_seat ((is_pointer a && is_null b) || (is_null a && is_pointer b)) at at Int v e

equality_seat : (c : Bool) (g : Env) (at : ℕ) (a b : StaticType) (v : Value) → if_equality c g at a b ≡ Of v → v.seat ≡ Nowhere
equality_seat true g at a b v e = compared_seat g at a b v e
equality_seat false g at a b v e = absurd cc

joined_seat : (c : Bool) (g : Env) (o : Operator) (at : ℕ) (a b : StaticType) (v : Value) → integers_joined c g o at a b ≡ Of v → v.seat ≡ Nowhere
joined_seat true g o at a b v e = (value_of at (on_integers o a b) v e).seat
joined_seat false g o at a b v e = equality_seat (is_equality o) g at a b v e

moved_seat : (c : Bool) (g : Env) (o : Operator) (at : ℕ) (a b : StaticType) (v : Value) → fat_moved c g o at a b ≡ Of v → v.seat ≡ Nowhere
moved_seat true g o at a b v e = (value_of at a v e).seat
moved_seat false g o at a b v e = equality_seat (is_equality o) g at a b v e

pub applied_seat : (g : Env) (o : Operator) (at : ℕ) (a b : StaticType) (v : Value) → applied_to g o at a b ≡ Of v → v.seat ≡ Nowhere
applied_seat g o at (Fat r t) b v e = moved_seat (is_move o && is_integer b) g o at (Fat r t) b v e
applied_seat g o at a b v e = joined_seat (is_integer a && is_integer b) g o at a b v e

pub no_place : (v : Value) → v.seat ≡ Nowhere → is_place v.seat ≡ true → ⊥
no_place v e p = false≢true (sym (ap (λ (s : Seat). is_place s) e) ∙ p)

-- ---- what operators take and give

pointer_word : (t : StaticType) → is_pointer t ≡ true → IsWord t
pointer_word Void e = absurd cc
pointer_word (Struct tag rs) e = absurd cc
pointer_word Null e = tt
pointer_word Int e = tt
pointer_word Unsigned e = tt
pointer_word Char e = tt
pointer_word (Thin n r t) e = tt
pointer_word (Fat r t) e = tt
pointer_word (Unique n t) e = tt
pointer_word (Handle r) e = tt
pointer_word (Key r) e = tt
pointer_word (Union tag rs) e = absurd cc

integer_known : (w : World) (t : StaticType) → IsInteger t → IsKnownValue w t
integer_known w Int e = tt
integer_known w Unsigned e = tt
integer_known w Char e = tt
integer_known w _ e = absurd cc

moved_shape : (o : Operator) (to s : Shape) → is_move o ≡ true → operator_shape o (shapes.FatShape to) s ≡ shapes.FatShape to
moved_shape operator.Add to s e = refl
moved_shape operator.Subtract to s e = refl
moved_shape _ to s e = absurd cc

moved_stands : (o : Operator) (x y to s : Shape) → is_move o ≡ true → StandsAs x y → y ≡ shapes.FatShape to
    → StandsAs (operator_shape o x s) (shapes.FatShape to)
moved_stands o x y to s e Exactly q =
    stands_same (operator_shape o x s) (shapes.FatShape to) (ap (λ z. operator_shape o z s) q ∙ moved_shape o to s e)
moved_stands o x y to s e (ThinAs f h) q = absurd cc
moved_stands o x y to s e (FatAs {s = c} {t = d} h) q =
    stands_from (operator_shape o (shapes.FatShape c) s) (shapes.FatShape c) (shapes.FatShape to) (moved_shape o c s e)
    (stands_to (shapes.FatShape c) (shapes.FatShape d) (shapes.FatShape to) (FatAs h) q)

-- an integer has its shape exactly
integer_exactly : (s : Shape) (t : StaticType) → IsInteger t → StandsAs s (shape_of t) → s ≡ shape_of t
integer_exactly s Int e h = stands_exactly s IntShape h tt
integer_exactly s Unsigned e h = stands_exactly s shapes.UnsignedShape h tt
integer_exactly s Char e h = stands_exactly s shapes.CharShape h tt
integer_exactly s _ e h = absurd cc

-- two words, and the word that they give, by its shape
pub record AreJoined (w : World) (o : Operator) (s t u : StaticType) : Type 0 where
  pub first : IsWord s
  pub second : IsWord t
  pub word : IsWord u
  pub known : IsKnownValue w u
  pub shape : (a b : Shape) → StandsAs a (shape_of s) → StandsAs b (shape_of t) → StandsAs (operator_shape o a b) (shape_of u)

pub are_joined : (w : World) (g : Env) (o : Operator) (s t u : StaticType) → Operates g o s t u → IsKnownValue w s
    → AreJoined w o s t u
are_joined w g o s t u (OnIntegers a b) k =
    let x : (i : IntegerType) × (s ≡ integer_type i) = integer_is s a in
    let y : (i : IntegerType) × (t ≡ integer_type i) = integer_is t b in
    let result : IsInteger (on_integers o s t) = subst (λ (z : StaticType). IsInteger (on_integers o z t)) (sym x.1)
    (subst (λ (z : StaticType). IsInteger (on_integers o (integer_type x.0) z)) (sym y.1) (on_integers_is o x.0 y.0)) in
    let same : operator_shape o (shape_of s) (shape_of t) ≡ shape_of (on_integers o s t) =
    subst (λ (z : StaticType). operator_shape o (shape_of z) (shape_of t) ≡ shape_of (on_integers o z t)) (sym x.1)
    (subst (λ (z : StaticType). operator_shape o (shape_of (integer_type x.0)) (shape_of z) ≡ shape_of (on_integers o (integer_type x.0) z)) (sym y.1)
    (operator_shaped o x.0 y.0)) in
    record {
      first = integer_word s a;
      second = integer_word t b;
      word = integer_word (on_integers o s t) result;
      known = integer_known w (on_integers o s t) result;
      shape = λ p q h i. stands_same (operator_shape o p q) (shape_of (on_integers o s t))
          (ap (λ z. operator_shape o z q) (integer_exactly p s a h) ∙ (ap (λ z. operator_shape o (shape_of s) z) (integer_exactly q t b i) ∙ same));
    }
are_joined w g o s t u (OnFat {r = r} {t = to} a b) k =
    record {
      first = tt;
      second = integer_word t b;
      word = tt;
      known = k;
      shape = λ p q h i. moved_stands o p (shapes.FatShape (shape_of to)) (shape_of to) q a h refl;
    }
are_joined w g o s t u (WithNull e p) k =
    record {
      first = pointer_word s p;
      second = tt;
      word = tt;
      known = tt;
      shape = λ p q h i. stands_same (operator_shape o p q) IntShape (equality_shape o p q e);
    }
are_joined w g o s t u (NullWith e p) k =
    record {
      first = tt;
      second = pointer_word t p;
      word = tt;
      known = tt;
      shape = λ p q h i. stands_same (operator_shape o p q) IntShape (equality_shape o p q e);
    }
are_joined w g o s t u (OnThin e l q z) k =
    record { first = tt; second = tt; word = tt; known = tt; shape = λ p q h i. stands_same (operator_shape o p q) IntShape (equality_shape o p q e) }

module _ (w : World) (names : List Named) where
  -- ---- `-e`, `~e` and `!e`

  signed_taken : (at : ℕ) (o : Prefix) (p : Operator) (e : Expression) (a v : Value) → IsTaken w names e a → signed at a ≡ Of v
      → (Takes w names e → Takes w names (Expression.Prefixed at o e))
      → static_shape w names (Expression.Prefixed at o e) ≡ operator_shape p IntShape (static_shape w names e)
      → ((i : IntegerType) → operator_shape p IntShape (shape_of (integer_type i)) ≡ shape_of (promoted (integer_type i)))
      → (Rattle.source_lowering.specs.Lowerable.TakesDropped w names (static_shape w names (Expression.Prefixed at o e)) (Expression.Prefixed at o e)
      → TakesRun w names (Expression.Prefixed at o e))
      → IsTaken w names (Expression.Prefixed at o e) v
  signed_taken at o p e a v h q takes shape same run =
      let r : IsInteger a.type × (v.type ≡ promoted a.type) = signed_is at a v q in
      let i : (i : IntegerType) × (a.type ≡ integer_type i) = integer_is a.type r.0 in
      let k : TakenWord w names e a.type = word_is w names a.type e (integer_word a.type r.0) h.value in
      let again : IsInteger (promoted a.type) = subst (λ z. IsInteger (promoted z)) (sym i.1) (by i.0) in
      let s : operator_shape p IntShape (shape_of a.type) ≡ shape_of (promoted a.type) =
      subst (λ z. operator_shape p IntShape (shape_of z) ≡ shape_of (promoted z)) (sym i.1) (same i.0) in
      taken_word w names (Expression.Prefixed at o e) v (promoted a.type) r.1 (no_place v (fits_seat (is_integer a.type) at at (promoted a.type) v q))
      (integer_word (promoted a.type) again) (integer_known w (promoted a.type) again)
      (record {
        takes = takes k.takes;
        shape = stands_same (static_shape w names (Expression.Prefixed at o e)) (shape_of (promoted a.type))
            (shape ∙ (ap (λ z. operator_shape p IntShape z) (integer_exactly (static_shape w names e) a.type r.0 k.shape) ∙ s));
      }) run
    where
      by : (i : IntegerType) → IsInteger (promoted (integer_type i))
      by AsInt = refl
      by Rattle.source_meaning.specs.Memory.AsUnsigned = refl
      by Rattle.source_meaning.specs.Memory.AsChar = refl

  subtracted : (i : IntegerType) → operator_shape operator.Subtract IntShape (shape_of (integer_type i)) ≡ shape_of (promoted (integer_type i))
  subtracted AsInt = refl
  subtracted Rattle.source_meaning.specs.Memory.AsUnsigned = refl
  subtracted Rattle.source_meaning.specs.Memory.AsChar = refl

  complemented : (i : IntegerType) → operator_shape operator.BitXor IntShape (shape_of (integer_type i)) ≡ shape_of (promoted (integer_type i))
  complemented AsInt = refl
  complemented Rattle.source_meaning.specs.Memory.AsUnsigned = refl
  complemented Rattle.source_meaning.specs.Memory.AsChar = refl

  -- ---- `*e`

  pointed_taken : (g : Env) (at : ℕ) (e : Expression) (a v : Value) → IsTaken w names e a → PointsTo g a.type v
      → IsTaken w names (Expression.Prefixed at prefix.Dereference e) v
  pointed_taken g at e a v h q = by a.type h.known h.value q
    where
      by : (t : StaticType) → IsKnownValue w t → TakenAs w names t e → PointsTo g t v → IsTaken w names (Expression.Prefixed at prefix.Dereference e) v
      by (Thin n r t) k d q =
          let p : TakenPlace w names (Expression.Prefixed at prefix.Dereference e) t =
          record { takes = d.takes; shape = pointee_stands (static_shape w names e) (shape_of (Thin n r t)) d.shape; known = k } in
          taken_place w names (Expression.Prefixed at prefix.Dereference e) v t q.1.0 p (known_value w t k) (λ z. (d.takes, z)) (λ z. z) (λ z. z)
      by (Fat r t) k d q =
          let p : TakenPlace w names (Expression.Prefixed at prefix.Dereference e) t =
          record { takes = d.takes; shape = pointee_stands (static_shape w names e) (shape_of (Fat r t)) d.shape; known = k } in
          taken_place w names (Expression.Prefixed at prefix.Dereference e) v t q.1.0 p (known_value w t k) (λ z. (d.takes, z)) (λ z. z) (λ z. z)
      by (Unique n t) k d q =
          let p : TakenPlace w names (Expression.Prefixed at prefix.Dereference e) t =
          record { takes = d.takes; shape = pointee_stands (static_shape w names e) (shape_of (Unique n t)) d.shape; known = k } in
          taken_place w names (Expression.Prefixed at prefix.Dereference e) v t q.0 p (known_value w t k) (λ z. (d.takes, z)) (λ z. z) (λ z. z)
      by _ k d q = absurd q

  -- ---- `&e`

  address_taken : (at : ℕ) (e : Expression) (a v : Value) → IsTaken w names e a → address at a ≡ Of v
      → IsTaken w names (Expression.Prefixed at prefix.AddressOf e) v
  address_taken at e a v h q = by a.seat refl q
    where
      by : (s : Seat) → a.seat ≡ s → address_of at a.type s ≡ Of v → IsTaken w names (Expression.Prefixed at prefix.AddressOf e) v
      by Nowhere z q = absurd cc
      by InBlock z q =
          let p : TakenPlace w names e a.type = h.place (ap (λ (s : Seat). is_place s) z) in
          taken_word w names (Expression.Prefixed at prefix.AddressOf e) v (Unique false a.type) (value_of at (Unique false a.type) v q).type
          (no_place v (value_of at (Unique false a.type) v q).seat) tt p.known (record { takes = p.takes; shape = ThinAs (λ y. refl) p.shape }) (λ y. y)
      by (In r) z q =
          let p : TakenPlace w names e a.type = h.place (ap (λ (s : Seat). is_place s) z) in
          taken_word w names (Expression.Prefixed at prefix.AddressOf e) v (Thin (NeverNull 1) r a.type) (value_of at (Thin (NeverNull 1) r a.type) v q).type
          (no_place v (value_of at (Thin (NeverNull 1) r a.type) v q).seat) tt p.known (record { takes = p.takes; shape = ThinAs (λ y. y) p.shape }) (λ y. y)

  pub prefixed_taken : (g : Env) (at : ℕ) (o : Prefix) (e : Expression) (a v : Value) → IsTaken w names e a
      → prefixed g at o a ≡ Of v → IsTaken w names (Expression.Prefixed at o e) v
  prefixed_taken g at prefix.Negate e a v h q =
      signed_taken at prefix.Negate operator.Subtract e a v h q (λ z. z) refl subtracted (λ z. z)
  prefixed_taken g at prefix.Complement e a v h q =
      signed_taken at prefix.Complement operator.BitXor e a v h q (λ z. z) refl complemented (λ z. z)
  prefixed_taken g at prefix.Not e a v h q =
      let r = tested_is at a v q in
      let k : TakenWord w names e a.type = word_is w names a.type e (testable_word a.type r.0) h.value in
      taken_word w names (Expression.Prefixed at prefix.Not e) v Int r.1
      (no_place v (fits_seat (is_testable a.type) at at Int v q)) tt tt (record { takes = k.takes; shape = Exactly }) (λ z. z)
  prefixed_taken g at prefix.Dereference e a v h q = pointed_taken g at e a v h (contents_is g at a.type v q)
  prefixed_taken g at prefix.AddressOf e a v h q = address_taken at e a v h q

  -- ---- assignments

  assigned_shape : (s : Shape) (to from : Expression) → IsOperandShape s → TakesPlace w names to → Takes w names from → TakesAssigned w names s to from
  assigned_shape (StructShape tag) to from h p k = absurd h
  assigned_shape shapes.IntShape to from h p k = (p, (k, h))
  assigned_shape shapes.UnsignedShape to from h p k = (p, (k, h))
  assigned_shape shapes.CharShape to from h p k = (p, (k, h))
  assigned_shape shapes.VoidShape to from h p k = (p, (k, h))
  assigned_shape (shapes.ThinShape n o t) to from h p k = (p, (k, h))
  assigned_shape (shapes.FatShape t) to from h p k = (p, (k, h))
  assigned_shape shapes.HandleShape to from h p k = (p, (k, h))
  assigned_shape shapes.KeyShape to from h p k = (p, (k, h))
  assigned_shape (shapes.UnionShape tag) to from h p k = absurd h
  assigned_shape (shapes.ArrayShape n t) to from h p k = (p, (k, h))

  assigned_seat : (b : Bool) (g : Env) (a c v : Value) → assigned_in b g a c ≡ Of v → v.seat ≡ Nowhere
  assigned_seat true g a c v e = (value_of a.at (assigned_type g a.type) v (unless_is _ (value a.at (assigned_type g a.type)) v e).1).seat
  assigned_seat false g a c v e = absurd cc

  -- a word is assigned
  word_run : (g : Env) (to from : Expression) (t : StaticType) (c : Value) → IsTaken w names from c → TakenPlace w names to t → Converts g.regions c.type t
      → IsWord t → Takes w names from × TakesRun w names (Expression.Assign to from)
  word_run g to from t c h p q i =
      let k : TakenWord w names from c.type = word_is w names c.type from (converts_word g.regions c.type t q i) h.value in
      let none : IsOperandShape (static_shape w names to) = operand_stands (static_shape w names to) (shape_of t) p.shape (word_shape t i) in
      (k.takes, assigned_shape (static_shape w names to) to from none p.takes k.takes)

  word_assigned : (g : Env) (to from : Expression) (t : StaticType) (c v : Value) → IsTaken w names from c → TakenPlace w names to t
      → Converts g.regions c.type t → v.seat ≡ Nowhere → IsWord t → IsGivenShape (shape_of t) → v.type ≡ t → IsTaken w names (Expression.Assign to from) v
  word_assigned g to from t c v h p q s i given e =
      let k = word_run g to from t c h p q i in
      let takes : Takes w names (Expression.Assign to from) =
      (p.takes, (k.0, given_stands (static_shape w names to) (shape_of t) p.shape given)) in
      record {
        known = subst (λ z. IsKnownValue w z) (sym e) (known_value w t p.known);
        value = subst (λ z. TakenAs w names z (Expression.Assign to from)) (sym e)
            (word_as w names t (Expression.Assign to from) i (record { takes = takes; shape = p.shape }));
        run = k.1;
        place = λ z. absurd (no_place v s z);
      }

  -- a unique pointer or a key is assigned: the assignment has no value
  moved_assigned : (g : Env) (to from : Expression) (u : StaticType) (c v : Value) → IsTaken w names from c → TakenPlace w names to u
      → Converts g.regions c.type u → v.seat ≡ Nowhere → IsWord u → v.type ≡ Void → IsTaken w names (Expression.Assign to from) v
  moved_assigned g to from u c v h p q s i t = record {
    known = subst (λ z. IsKnownValue w z) (sym t) tt;
    value = subst (λ z. TakenAs w names z (Expression.Assign to from)) (sym t) tt;
    run = (word_run g to from u c h p q i).1;
    place = λ z. absurd (no_place v s z);
  }

  -- a struct is assigned: the assignment has no value
  struct_assigned : (g : Env) (to from : Expression) (a c v : Value) (tag : List ℕ) (rs : List Region) → IsTaken w names from c
      → TakenPlace w names to (Struct tag rs) → Converts g.regions c.type (Struct tag rs) → v.seat ≡ Nowhere → v.type ≡ Void
      → IsTaken w names (Expression.Assign to from) v
  struct_assigned g to from a c v tag rs h p q s t =
      let same : c.type ≡ Struct tag rs = converts_whole g.regions c.type (Struct tag rs) q tt in
      let whole : TakesWhole w names from = whole_taken w names (Struct tag rs) from tt (subst (λ z. TakenAs w names z from) same h.value) in
      let shape : static_shape w names to ≡ shapes.StructShape tag = stands_exactly (static_shape w names to) (shapes.StructShape tag) p.shape tt in
      record {
        known = subst (λ z. IsKnownValue w z) (sym t) tt;
        value = subst (λ z. TakenAs w names z (Expression.Assign to from)) (sym t) tt;
        run = subst (λ z. TakesAssigned w names z to from) (sym shape) (p.takes, (whole, p.known));
        place = λ z. absurd (no_place v s z);
      }

  -- so is a union
  union_assigned : (g : Env) (to from : Expression) (a c v : Value) (tag : List ℕ) (rs : List Region) → IsTaken w names from c
      → TakenPlace w names to (Union tag rs) → Converts g.regions c.type (Union tag rs) → v.seat ≡ Nowhere → v.type ≡ Void
      → IsTaken w names (Expression.Assign to from) v
  union_assigned g to from a c v tag rs h p q s t =
      let same : c.type ≡ Union tag rs = converts_whole g.regions c.type (Union tag rs) q tt in
      let whole : TakesWhole w names from = whole_taken w names (Union tag rs) from tt (subst (λ z. TakenAs w names z from) same h.value) in
      let shape : static_shape w names to ≡ shapes.UnionShape tag = stands_exactly (static_shape w names to) (shapes.UnionShape tag) p.shape tt in
      record {
        known = subst (λ z. IsKnownValue w z) (sym t) tt;
        value = subst (λ z. TakenAs w names z (Expression.Assign to from)) (sym t) tt;
        run = subst (λ z. TakesAssigned w names z to from) (sym shape) (p.takes, (whole, p.known));
        place = λ z. absurd (no_place v s z);
      }

  pub assign_taken : (g : Env) (to from : Expression) (a c v : Value) → IsTaken w names to a → IsTaken w names from c → assigned g a c ≡ Of v
      → IsTaken w names (Expression.Assign to from) v
  assign_taken g to from a c v h k e =
      let r = assigned_is g a c v e in by a.type (h.place r.0) r.1 r.2
    where
      seat : v.seat ≡ Nowhere
      seat = assigned_seat (is_place a.seat) g a c v e

      by : (t : StaticType) → TakenPlace w names to t → Converts g.regions c.type t → v.type ≡ assigned_type g t → IsTaken w names (Expression.Assign to from) v
      by (Struct tag rs) p q t = struct_assigned g to from a c v tag rs k p q seat t
      by Void p q t = absurd p.known
      by Null p q t = absurd p.known
      by Int p q t = word_assigned g to from Int c v k p q seat tt tt t
      by Unsigned p q t = word_assigned g to from Unsigned c v k p q seat tt tt t
      by Char p q t = word_assigned g to from Char c v k p q seat tt tt t
      by (Thin n r u) p q t = word_assigned g to from (Thin n r u) c v k p q seat tt refl t
      by (Fat r u) p q t = word_assigned g to from (Fat r u) c v k p q seat tt tt t
      by (Unique n u) p q t = moved_assigned g to from (Unique n u) c v k p q seat tt t
      by (Handle r) p q t = word_assigned g to from (Handle r) c v k p q seat tt tt t
      by (Key r) p q t = moved_assigned g to from (Key r) c v k p q seat tt t
      by (Union tag rs) p q t = union_assigned g to from a c v tag rs k p q seat t
