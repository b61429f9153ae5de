-- Makings that lowering takes: of one value or of an array, in the heap or in the region of a handle.
use Rattle.std.proofs.Common.{◌≡◌, ℕ, Bool, true, false, List, ◌∷◌, refl, sym, subst}
use Rattle.std.specs.Prelude.{◌&&◌}
use Rattle.std.proofs.lemmas.Bool.{and_parts}
use Rattle.cyc_tree.specs.Tree.{Array, Expression, Name, One}
use Rattle.source_lowering.specs.Lowerable.{IsOperandShape, IsObject, Takes, TakesDropped, TakesMember, TakesNew, TakesRun, TakesWhole}
use Rattle.source_lowering.specs.Lowered.{Named, element_names, static_shape}
use Rattle.source_meaning.specs.Shapes.{NeverNull}
use Rattle.source_meaning.specs.Shapes as shapes
use Rattle.source_meaning.specs.Shapes.{FatShape, Owner, ThinShape}
use Rattle.source_meaning.specs.Steps.{World}
use Rattle.source_typing.specs.Making.{To, ToUnique, array_made, made, made_to}
use Rattle.source_typing.specs.Regions.{Region}
use Rattle.source_typing.specs.Scope.{Value}
use Rattle.source_typing.specs.Types.{Char, Fat, Handle, Int, Key, Null, StaticType, Struct, Thin, Union, Unique, Unsigned, Void, is_integer, is_makeable}
use Rattle.source_typing.specs.Types.{shape_of}
use Rattle.source_typing.specs.Verdicts.{Of, after, if_fits}
use Rattle.type_proof.proofs.expressions.Filled.{array_there}
use Rattle.type_proof.proofs.expressions.Makings.{made_there}
use Rattle.type_proof.proofs.expressions.WordRules.{Valued, value_of}
use Rattle.accepted_proof.proofs.Known.{IsKnown, IsKnownValue, IsWord, integer_word, known_object, word_shape}
use Rattle.accepted_proof.proofs.lowered.Calls.{word_member}
use Rattle.accepted_proof.proofs.lowered.Forms.{IsTaken, TakenAs, TakenStruct, TakenUnion, TakenWord, taken_word, word_is}
use Rattle.accepted_proof.proofs.lowered.Operators.{no_place}
use Rattle.accepted_proof.proofs.lowered.Stands.{FatAs, StandsAs, ThinAs, known_stands, operand_stands, stands_from, stands_same, stands_to}
use Rattle.type_proof.proofs.expressions.Single.{made_alone}

module _ (w : World) (names : List Named) where
  -- ---- what is made

  -- a value of a type that can be made
  record NewTaken (e : Expression) (t : StaticType) : Type 0 where
    takes : TakesNew w names (One e)
    known : IsKnown w (shape_of t)
    shape : StandsAs (static_shape w names e) (shape_of t)

  word_made : (e : Expression) (t : StaticType) → IsWord t → IsKnown w (shape_of t) → TakenWord w names e t → NewTaken e t
  word_made e t i k h =
      let none : IsOperandShape (static_shape w names e) = operand_stands (static_shape w names e) (shape_of t) h.shape (word_shape t i) in
      record {
        takes = (
          known_object w (static_shape w names e) (known_stands w (static_shape w names e) (shape_of t) h.shape k),
          word_member w names (static_shape w names e) (TakesWhole w names e) (Takes w names e) none h.takes,
        );
        known = k;
        shape = h.shape;
      }

  struct_made : (e : Expression) (tag : List ℕ) (rs : List Region) → IsKnown w (shape_of (Struct tag rs)) → TakenStruct w names e tag
      → NewTaken e (Struct tag rs)
  struct_made e tag rs k h = record {
    takes = (
      subst (λ s. IsObject w.unions w.structs s) (sym h.shape) k,
      subst (λ s. TakesMember s (TakesWhole w names e) (Takes w names e)) (sym h.shape) h.takes,
    );
    known = k;
    shape = stands_same (static_shape w names e) (shape_of (Struct tag rs)) h.shape;
  }

  union_made : (e : Expression) (tag : List ℕ) (rs : List Region) → IsKnown w (shape_of (Union tag rs)) → TakenUnion w names e tag
      → NewTaken e (Union tag rs)
  union_made e tag rs k h = record {
    takes = (
      subst (λ s. IsObject w.unions w.structs s) (sym h.shape) k,
      subst (λ s. TakesMember s (TakesWhole w names e) (Takes w names e)) (sym h.shape) h.takes,
    );
    known = k;
    shape = stands_same (static_shape w names e) (shape_of (Union tag rs)) h.shape;
  }

  value_made : (e : Expression) (t : StaticType) → is_makeable t ≡ true → IsKnownValue w t → TakenAs w names t e → NewTaken e t
  value_made e Void m k h = absurd cc
  value_made e Null m k h = absurd cc
  value_made e Int m k h = word_made e Int tt k h
  value_made e Unsigned m k h = word_made e Unsigned tt k h
  value_made e Char m k h = word_made e Char tt k h
  value_made e (Thin n r t) m k h = word_made e (Thin n r t) tt k h
  value_made e (Fat r t) m k h = word_made e (Fat r t) tt k h
  value_made e (Unique n t) m k h = word_made e (Unique n t) tt k h
  value_made e (Handle r) m k h = word_made e (Handle r) tt k h
  value_made e (Key r) m k h = absurd cc
  value_made e (Struct tag rs) m k h = struct_made e tag rs k h
  value_made e (Union tag rs) m k h = union_made e tag rs k h

  -- ---- makings

  -- a thin pointer to what is made
  thin_taken : (x e : Expression) (a v : Value) (o : Owner) (t : StaticType) → IsTaken w names e a → is_makeable a.type ≡ true → Valued v t → IsWord t
      → shape_of t ≡ ThinShape (NeverNull 1) o (shape_of a.type) → (IsKnown w (shape_of a.type) → IsKnownValue w t)
      → (TakesNew w names (One e) → Takes w names x)
      → static_shape w names x ≡ ThinShape (NeverNull 1) o (static_shape w names e)
      → (TakesDropped w names (static_shape w names x) x → TakesRun w names x) → IsTaken w names x v
  thin_taken x e a v o t h m d i to known takes shape run =
      let n : NewTaken e a.type = value_made e a.type m h.known h.value in
      let stands : StandsAs (ThinShape (NeverNull 1) o (static_shape w names e)) (ThinShape (NeverNull 1) o (shape_of a.type)) = ThinAs (λ z. z) n.shape in
      taken_word w names x v t d.type (no_place v d.seat) i (known n.known)
      (record {
        takes = takes n.takes;
        shape = stands_from (static_shape w names x) (ThinShape (NeverNull 1) o (static_shape w names e)) (shape_of t) shape
            (stands_to (ThinShape (NeverNull 1) o (static_shape w names e)) (ThinShape (NeverNull 1) o (shape_of a.type)) (shape_of t) stands (sym to));
      }) run

  -- a making in a region
  pub making_taken : (x : Expression) (at : ℕ) (r : Region) (e : Expression) (a v : Value) → IsTaken w names e a → made at (To r) a ≡ Of v
      → (TakesNew w names (One e) → Takes w names x) → static_shape w names x ≡ ThinShape (NeverNull 1) shapes.Shared (static_shape w names e)
      → (TakesDropped w names (static_shape w names x) x → TakesRun w names x) → IsTaken w names x v
  making_taken x at r e a v h q takes shape run =
      let d : (is_makeable a.type ≡ true) × Valued v (Thin (NeverNull 1) r a.type) = made_there (is_makeable a.type) at r a.type v q in
      thin_taken x e a v shapes.Shared (Thin (NeverNull 1) r a.type) h d.0 d.1 tt refl (λ k. k) takes shape run

  -- and in the unique region
  pub unique_making_taken : (x : Expression) (at : ℕ) (e : Expression) (a v : Value) → IsTaken w names e a → made at ToUnique a ≡ Of v
      → (TakesNew w names (One e) → Takes w names x) → static_shape w names x ≡ ThinShape (NeverNull 1) shapes.Alone (static_shape w names e)
      → (TakesDropped w names (static_shape w names x) x → TakesRun w names x) → IsTaken w names x v
  unique_making_taken x at e a v h q takes shape run =
      let d : (is_makeable a.type ≡ true) × Valued v (Unique false a.type) = made_alone (is_makeable a.type) at a.type v q in
      thin_taken x e a v shapes.Alone (Unique false a.type) h d.0 d.1 tt refl (λ k. k) takes shape run

module _ (w : World) (names : List Named) where
  -- an array in a region
  pub array_taken : (x : Expression) (at : ℕ) (r : Region) (index : Name) (n e : Expression) (c a v : Value) → IsTaken w names n c
      → IsTaken w (element_names index.text names) e a → array_made at (To r) (c, a) ≡ Of v
      → (TakesNew w names (Array index n e) → Takes w names x)
      → static_shape w names x ≡ FatShape (static_shape w (element_names index.text names) e)
      → (TakesDropped w names (static_shape w names x) x → TakesRun w names x) → IsTaken w names x v
  array_taken x at r index n e c a v h i p takes shape run =
      let z : (is_integer c.type && is_makeable a.type ≡ true) × Valued v (Fat r a.type) =
      array_there (is_integer c.type && is_makeable a.type) at r a.type v p in
      let fits : (is_integer c.type ≡ true) × (is_makeable a.type ≡ true) = and_parts (is_integer c.type) (is_makeable a.type) z.0 in
      let d : Valued v (Fat r a.type) = z.1 in
      let count : TakenWord w names n c.type = word_is w names c.type n (integer_word c.type fits.0) h.value in
      let one : NewTaken w (element_names index.text names) e a.type = each fits.1 in
      taken_word w names x v (Fat r a.type) d.type (no_place v d.seat) tt one.known
      (record {
        takes = takes (count.takes, (each fits.1).takes);
        shape = stands_from (static_shape w names x) (FatShape (static_shape w (element_names index.text names) e)) (FatShape (shape_of a.type)) shape
            (FatAs one.shape);
      }) run
    where
      each : is_makeable a.type ≡ true → NewTaken w (element_names index.text names) e a.type
      each m = value_made w (element_names index.text names) e a.type m i.known i.value
