-- Members of structs and elements of arrays that lowering takes: each leads to a place.
use Rattle.std.proofs.Common.{◌≡◌, ℕ, true, List, refl, sym, subst, ap, ◌∙◌}
use Rattle.cyc_tree.specs.Tree.{Arrow, Dot, Expression, Index, NoSuffixes, Suffixes}
use Rattle.source_lowering.specs.Lowerable.{IsOperandShape, IsObject, TakesMembers, TakesSuffixes}
use Rattle.source_lowering.specs.Lowered.{Named, member_shape, static_shape, suffixed_shape}
use Rattle.source_lowering.specs.Lowerable.{Takes, TakesPlace}
use Rattle.source_meaning.specs.Shapes.{FatShape, Shape, StructShape, has_tag, pointee}
use Rattle.source_meaning.specs.Steps.{World}
use Rattle.source_typing.specs.Expressions.{judge, judge_suffixes}
use Rattle.source_typing.specs.Places.{arrow, indexed, member}
use Rattle.source_typing.specs.Regions.{Region}
use Rattle.source_typing.specs.Scope.{Env, In, InBlock, Seat, Value, is_place}
use Rattle.source_typing.specs.Tables.{argument}
use Rattle.source_typing.specs.Types.{Fat, StaticType, Struct, Thin, Unique, is_integer, shape_of}
use Rattle.source_typing.specs.Verdicts.{Of, Verdict, both}
use Rattle.source_typing.proofs.Inversion.{both_is, of_is, suffixes_first}
use Rattle.source_typing.proofs.PlacesFit.{ArrowTo, HasPart, MemberOf, PointsTo, arrow_is, indexed_is, member_is}
use Rattle.type_proof.proofs.invariant.Sound.{shape_renamed}
use Rattle.accepted_proof.proofs.Known.{IsKnown, IsKnownValue, integer_word, known_object, known_value}
use Rattle.accepted_proof.proofs.lowered.Forms.{IsKnownScope, IsTaken, KnownMember, TakenPlace, TakenWord, taken_place, word_is}
use Rattle.accepted_proof.proofs.lowered.Stands.{StandsAs, known_stands, operand_stands, pointee_stands, stands_exactly, stands_same, stands_to}

module _ (w : World) (names : List Named) (g : Env) (scope : IsKnownScope w names g) where
  -- a place of a shape
  record Reached (s : Shape) (v : Value) : Type 0 where
    shape : StandsAs s (shape_of v.type)
    known : IsKnown w (shape_of v.type)
    place : is_place v.seat ≡ true

  part_reached : (tag f : List ℕ) (rs : List Region) (at : Seat) (v : Value) → has_tag w.structs tag ≡ true → is_place at ≡ true
      → HasPart g tag rs f at v → Reached (member_shape w (StructShape tag) f) v
  part_reached tag f rs at v there p h =
      let k : KnownMember w tag f h.type = scope.members tag f h.part h.type there h.found h.typed in
      let same : shape_of h.type ≡ shape_of v.type = sym (shape_renamed (argument rs) h.type) ∙ ap (λ (t : StaticType). shape_of t) (sym h.is.0) in
      record {
        shape = stands_same (member_shape w (StructShape tag) f) (shape_of v.type) (k.shape ∙ same);
        known = subst (λ s. IsKnown w s) same k.known;
        place = ap (λ (s : Seat). is_place s) h.is.1 ∙ p;
      }

  member_reached : (t : StaticType) (at : Seat) (s : Shape) (f : List ℕ) (v : Value) → StandsAs s (shape_of t) → IsKnown w (shape_of t)
      → is_place at ≡ true → MemberOf g f t at v → Reached (member_shape w s f) v
  member_reached (Struct tag rs) at s f v q k p h =
      subst (λ z. Reached (member_shape w z f) v) (sym (stands_exactly s (StructShape tag) q tt)) (part_reached tag f rs at v k p h)
  member_reached _ at s f v q k p h = absurd h

  -- what `->` is behind leads to a struct
  behind_reached : (s to : Shape) (tag f : List ℕ) (v : Value) → StandsAs s to → pointee to ≡ StructShape tag → Reached (member_shape w (StructShape tag) f) v
      → Reached (member_shape w (pointee s) f) v
  behind_reached s to tag f v q e r =
      let same : pointee s ≡ StructShape tag =
      stands_exactly (pointee s) (StructShape tag) (stands_to (pointee s) (pointee to) (StructShape tag) (pointee_stands s to q) e) tt in
      subst (λ z. Reached (member_shape w z f) v) (sym same) r

  arrow_reached : (t : StaticType) (s : Shape) (f : List ℕ) (v : Value) → StandsAs s (shape_of t) → IsKnownValue w t → ArrowTo g f t v
      → IsOperandShape s × Reached (member_shape w (pointee s) f) v
  arrow_reached (Thin n r (Struct tag rs)) s f v q k h =
      let to : StaticType = Thin n r (Struct tag rs) in
      (operand_stands s (shape_of to) q tt, behind_reached s (shape_of to) tag f v q refl (part_reached tag f rs (In r) v k refl h.1))
  arrow_reached (Fat r (Struct tag rs)) s f v q k h =
      let to : StaticType = Fat r (Struct tag rs) in
      (operand_stands s (shape_of to) q tt, behind_reached s (shape_of to) tag f v q refl (part_reached tag f rs (In r) v k refl h.1))
  arrow_reached (Unique n (Struct tag rs)) s f v q k h =
      let to : StaticType = Unique n (Struct tag rs) in
      (operand_stands s (shape_of to) q tt, behind_reached s (shape_of to) tag f v q refl (part_reached tag f rs InBlock v k refl h))
  arrow_reached _ s f v q k h = absurd h

  object_reached : (s : Shape) (v : Value) → Reached s v → IsObject w.unions w.structs s
  object_reached s v h = known_object w s (known_stands w s (shape_of v.type) h.shape h.known)

  -- what a subscript is behind leads to elements
  element_reached : (t : StaticType) (s : Shape) (v : Value) → StandsAs s (shape_of t) → IsKnownValue w t → PointsTo g t v
      → IsOperandShape s × Reached (pointee s) v
  element_reached (Fat r t) s v q k h = (
    operand_stands s (FatShape (shape_of t)) q tt,
    record {
      shape = stands_to (pointee s) (shape_of t) (shape_of v.type) (pointee_stands s (FatShape (shape_of t)) q)
          (ap (λ (u : StaticType). shape_of u) (sym h.1.0));
      known = subst (λ (u : StaticType). IsKnown w (shape_of u)) (sym h.1.0) k;
      place = ap (λ (s : Seat). is_place s) h.1.1;
    },
  )
  element_reached (Thin n r t) s v q k h = (
    operand_stands s (shape_of (Thin n r t)) q tt,
    record {
      shape = stands_to (pointee s) (shape_of t) (shape_of v.type) (pointee_stands s (shape_of (Thin n r t)) q)
          (ap (λ (u : StaticType). shape_of u) (sym h.1.0));
      known = subst (λ (u : StaticType). IsKnown w (shape_of u)) (sym h.1.0) k;
      place = ap (λ (s : Seat). is_place s) h.1.1;
    },
  )
  element_reached (Unique n t) s v q k h = (
    operand_stands s (shape_of (Unique n t)) q tt,
    record {
      shape = stands_to (pointee s) (shape_of t) (shape_of v.type) (pointee_stands s (shape_of (Unique n t)) q)
          (ap (λ (u : StaticType). shape_of u) (sym h.0));
      known = subst (λ (u : StaticType). IsKnown w (shape_of u)) (sym h.0) k;
      place = ap (λ (s : Seat). is_place s) h.1;
    },
  )
  element_reached _ s v q k h = absurd h

  -- each subscript's index is taken, as what it is judged
  abbrev pub IndicesTaken : Suffixes → Type 0
  IndicesTaken NoSuffixes = Unit {0}
  IndicesTaken (Index e es) = ((b : Value) → judge g e ≡ Of b → IsTaken w names e b) × IndicesTaken es
  IndicesTaken (Dot f es) = IndicesTaken es
  IndicesTaken (Arrow f es) = IndicesTaken es

  index_taken : (e : Expression) (b : Value) → is_integer b.type ≡ true → IsTaken w names e b → Takes w names e
  index_taken e b i h = (word_is w names b.type e (integer_word b.type i) h.value).takes

  -- further suffixes
  members_taken : (es : Suffixes) (a v : Value) (s : Shape) → Reached s a → IndicesTaken es → judge_suffixes g (Of a) es ≡ Of v
      → TakesMembers w names es s × Reached (suffixed_shape w es s) v
  members_taken NoSuffixes a v s h i p = (tt, subst (λ z. Reached s z) (of_is a v p) h)
  members_taken (Index e es) a v s h i p =
      let z : (b : Value) × (both (Of a) (judge g e) (indexed g) ≡ Of b) = suffixes_first g (both (Of a) (judge g e) (indexed g)) es v p in
      let y = both_is (Of a) (judge g e) (indexed g) z.0 z.1 in
      let x : a ≡ y.0 = of_is a y.0 y.2 in
      let d = indexed_is g y.0 y.1 z.0 y.4 in
      let m = element_reached a.type s z.0 h.shape (known_value w a.type h.known)
      (subst (λ (c : Value). PointsTo g c.type z.0) (sym x) d.1) in
      let rest = members_taken es z.0 v (pointee s) m.1 i.1 (subst (λ (y : Verdict Value). judge_suffixes g y es ≡ Of v) z.1 p) in
      ((m.0, (index_taken e y.1 d.0 (i.0 y.1 y.3), (object_reached (pointee s) z.0 m.1, rest.0))), rest.1)
  members_taken (Dot f es) a v s h i p =
      let z : (b : Value) × (member g f a ≡ Of b) = suffixes_first g (member g f a) es v p in
      let m = member_is g f a.at a.type a.seat z.0 z.1 in
      let r : Reached (member_shape w s f.text) z.0 = member_reached a.type a.seat s f.text z.0 h.shape h.known m.0 m.1 in
      let rest = members_taken es z.0 v (member_shape w s f.text) r i (subst (λ (y : Verdict Value). judge_suffixes g y es ≡ Of v) z.1 p) in
      ((object_reached (member_shape w s f.text) z.0 r, rest.0), rest.1)
  members_taken (Arrow f es) a v s h i p =
      let z : (b : Value) × (arrow g f a ≡ Of b) = suffixes_first g (arrow g f a) es v p in
      let m = arrow_reached a.type s f.text z.0 h.shape (known_value w a.type h.known) (arrow_is g f a.at a.type z.0 z.1) in
      let rest = members_taken es z.0 v (member_shape w (pointee s) f.text) m.1 i (subst (λ (y : Verdict Value). judge_suffixes g y es ≡ Of v) z.1 p) in
      ((m.0, (object_reached (member_shape w (pointee s) f.text) z.0 m.1, rest.0)), rest.1)

  -- what `->` is behind is a word
  arrow_word : (t : StaticType) (f : List ℕ) (v : Value) → ArrowTo g f t v → Rattle.accepted_proof.proofs.Known.IsWord t
  arrow_word (Thin n r t) f v h = tt
  arrow_word (Fat r t) f v h = tt
  arrow_word (Unique n t) f v h = tt
  arrow_word _ f v h = absurd h

  -- so is what a subscript is behind
  span_word : (t : StaticType) (v : Value) → PointsTo g t v → Rattle.accepted_proof.proofs.Known.IsWord t
  span_word (Fat r t) v h = tt
  span_word (Thin n r t) v h = tt
  span_word (Unique n t) v h = tt
  span_word _ v h = absurd h

  suffixes_taken : (e : Expression) (es : Suffixes) (a v : Value) → IsTaken w names e a → IndicesTaken es → judge_suffixes g (Of a) es ≡ Of v
      → (es ≡ NoSuffixes → ⊥)
      → TakesSuffixes w names es (static_shape w names e) (Takes w names e) (TakesPlace w names e) × Reached (suffixed_shape w es (static_shape w names e)) v
  suffixes_taken e NoSuffixes a v h i p some = absurd (some refl)
  suffixes_taken e (Index x es) a v h i p some =
      let z : (b : Value) × (both (Of a) (judge g x) (indexed g) ≡ Of b) = suffixes_first g (both (Of a) (judge g x) (indexed g)) es v p in
      let y = both_is (Of a) (judge g x) (indexed g) z.0 z.1 in
      let same : a ≡ y.0 = of_is a y.0 y.2 in
      let d = indexed_is g y.0 y.1 z.0 y.4 in
      let spans : PointsTo g a.type z.0 = subst (λ (c : Value). PointsTo g c.type z.0) (sym same) d.1 in
      let k : TakenWord w names e a.type = word_is w names a.type e (span_word a.type z.0 spans) h.value in
      let m = element_reached a.type (static_shape w names e) z.0 k.shape h.known spans in
      let rest = members_taken es z.0 v (pointee (static_shape w names e)) m.1 i.1
      (subst (λ (y : Verdict Value). judge_suffixes g y es ≡ Of v) z.1 p) in
      ((k.takes, (index_taken x y.1 d.0 (i.0 y.1 y.3), (object_reached (pointee (static_shape w names e)) z.0 m.1, rest.0))), rest.1)
  suffixes_taken e (Dot f es) a v h i p some =
      let z : (b : Value) × (member g f a ≡ Of b) = suffixes_first g (member g f a) es v p in
      let m = member_is g f a.at a.type a.seat z.0 z.1 in
      let k : TakenPlace w names e a.type = h.place m.0 in
      let r = members_taken (Dot f es) a v (static_shape w names e) (record { shape = k.shape; known = k.known; place = m.0 }) i p in
      ((k.takes, r.0), r.1)
  suffixes_taken e (Arrow f es) a v h i p some =
      let z : (b : Value) × (arrow g f a ≡ Of b) = suffixes_first g (arrow g f a) es v p in
      let to : ArrowTo g f.text a.type z.0 = arrow_is g f a.at a.type z.0 z.1 in
      let k : TakenWord w names e a.type = word_is w names a.type e (arrow_word a.type f.text z.0 to) h.value in
      let m = arrow_reached a.type (static_shape w names e) f.text z.0 k.shape h.known to in
      let rest = members_taken es z.0 v (member_shape w (pointee (static_shape w names e)) f.text) m.1 i
      (subst (λ (y : Verdict Value). judge_suffixes g y es ≡ Of v) z.1 p) in
      ((k.takes, (object_reached (member_shape w (pointee (static_shape w names e)) f.text) z.0 m.1, rest.0)), rest.1)

  pub suffixed_taken : (e : Expression) (es : Suffixes) (a v : Value) → IsTaken w names e a → IndicesTaken es → judge_suffixes g (Of a) es ≡ Of v
      → (es ≡ NoSuffixes → ⊥)
      → IsTaken w names (Expression.Suffixed e es) v
  suffixed_taken e es a v h i p some =
      let r = suffixes_taken e es a v h i p some in
      taken_place w names (Expression.Suffixed e es) v v.type refl (record { takes = r.0; shape = r.1.shape; known = r.1.known })
      (known_value w v.type r.1.known) (λ z. (r.0, z)) (λ z. z) (λ z. z)
