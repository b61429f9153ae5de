-- Values are converted: integers to each other, `NULL` to pointers, pointers to pointers into regions that theirs outlive, thin and fat ones to each other,
-- and structs to their own type.
use Rattle.std.proofs.Common.{◌≡◌, ◌<◌, ◌≤◌, ℕ, arith, Bool, true, false, inl, inr, Some, None, List, [], ◌∷◌, refl, sym, ◌∙◌, ap, subst}
use Rattle.std.specs.Prelude.{◌-◌, nat_le, ◌*◌, length}
use Rattle.std.proofs.lemmas.Bool.{leb-true, le-leb}
use Rattle.cyc_words.specs.declared.faults.Kind.TheVariants.{NullException}
use Rattle.source_meaning.specs.Shapes.{Shared, Alone, count_of, Reach, MayBeNull, NeverNull, single, Shape, ThinShape, FatShape, HandleShape, KeyShape}
use Rattle.source_meaning.specs.Shapes.{StructShape, UnionShape}
use Rattle.source_meaning.specs.Memory as memory
use Rattle.source_meaning.specs.Memory.{Region, Spot, Span, Scalar, Memory, beyond}
use Rattle.source_meaning.specs.Steps.{World, Act, ◌>>=◌, ◌>>◌, give, check}
use Rattle.source_meaning.specs.Conversions.{cells_of, element, elements_from, fat_to_thin, converted}
use Rattle.source_meaning.specs.Places.{span_at}
use Rattle.source_typing.specs.Converts.{IsInteger, Converts, Same, Integers, NullToThin, NullToFat, NullToUnique, Thins, Fats, ThinToFat, FatToThin, Uniques}
use Rattle.source_typing.specs.Regions.{Regions}
use Rattle.source_typing.specs.Types.{StaticType, Int, Unsigned, Char, Void, Null, Thin, Fat, Unique, Handle, Key, Struct, Union, renamed, shape_of}
use Rattle.type_proof.specs.Flat.{Tables}
use Rattle.type_proof.proofs.invariant.Invariant.{RunType, Owner, Ghost, Reaches, ReachesOn, HasType, HaveTypes, Inv}
use Rattle.type_proof.proofs.invariant.Runs.{Safe, Runs, safe_raised}
use Rattle.type_proof.proofs.invariant.Arguments.{Agrees}
use Rattle.type_proof.proofs.invariant.Names.{NameOf, NamesOk}
use Rattle.type_proof.proofs.invariant.Sound.{cells_type}
use Rattle.type_proof.proofs.expressions.Elements.{cells_counted, ReachesAll, these_elements, rest_reached, runs_elements}
use Rattle.type_proof.proofs.invariant.Layouts.{same_text}
use Rattle.type_proof.proofs.expressions.Integers.{word_of, Becomes, integer_becomes}
use Rattle.type_proof.proofs.expressions.Words.{IsObjectType, IsSimple, object_some, integer_object, shape_itself, OneValue, one_value}

-- a pointer may be used as one into a region that its own outlives
reach_along : (d : Tables) (w : Ghost) (m : Memory) (at : Spot) (r q : Region) (t : RunType) → Inv d w m → w.above r q ≡ true → Reaches d w at r t
    → Reaches d w at q t
reach_along d w m at r q t i o h = record { typed = h.typed; above = i.along at.region r q h.above o }

-- what converts to an object is something
pub converts_some : (g : Regions) (t u : StaticType) → Converts g t u → IsObjectType u → t ≡ Void → ⊥
converts_some g t u (Same {t = s}) e z = object_some s e z
converts_some g t u (Integers {t = s} a c) e z = object_some s (integer_object s a) z
converts_some g t u NullToThin e z = cc
converts_some g t u NullToFat e z = cc
converts_some g t u NullToUnique e z = cc
converts_some g t u (Thins few o) e z = cc
converts_some g t u (Fats o) e z = cc
converts_some g t u (ThinToFat o) e z = cc
converts_some g t u (FatToThin o) e z = cc
converts_some g t u Uniques e z = cc

module _ {B : Type 0} (n : ℕ) (d : Tables) (world : World) (f : NameOf → Region) (w : Ghost) (m : Memory) (holder : ℕ → Owner) (i : Inv d w m)
    (Q : B → Memory → Type 0) (h : List Scalar → Act B) where
  -- what goes on with a value of a type
  abbrev pub Going : StaticType → Type 0
  Going u = (us : List Scalar) → HaveTypes d w holder us (cells_type d f u) → Runs n (h us) m Q

  -- `NULL`, from whatever type
  null_goes : (c : Reach) (q : NameOf) (t : StaticType) (from : Shape) → Going (Thin c q t)
      → Runs n (converted world (ThinShape c Shared (shape_of t)) from (memory.Thin None ∷ []) >>= h) m Q
  null_goes (MayBeNull count) q t from go = record { by = λ next p. (go (memory.Thin None ∷ []) (inl (record { allowed = refl; is = refl }), tt)).by next p }
  null_goes (NeverNull count) q t from go = record { by = λ next p. safe_raised n NullException }

  -- a pointer to enough elements passes
  thin_passes : (b : Reach) (all : ℕ) (at : Spot) → nat_le (count_of b) all ≡ true → (next : B → Memory → _)
      → ((v : B) (m' : Memory) → Q v m' → Safe n (next v m')) → Runs n (h (memory.Thin (Some at) ∷ [])) m Q
      → Safe n ((Rattle.source_meaning.specs.Conversions.thin_to_thin b all (Some at) >>= λ v. give (v ∷ []) >>= h) next m)
  thin_passes (MayBeNull count) all at few next p go =
      subst (λ (b : Bool). Safe n ((check b >> give (memory.Thin (Some at)) >>= λ v. give (v ∷ []) >>= h) next m)) (sym few) (go.by next p)
  thin_passes (NeverNull count) all at few next p go =
      subst (λ (b : Bool). Safe n ((check b >> give (memory.Thin (Some at)) >>= λ v. give (v ∷ []) >>= h) next m)) (sym few) (go.by next p)

  -- a pointer to somewhere
  some_goes : (a c : Reach) (q : NameOf) (t : StaticType) (at : Spot) → IsObjectType t → nat_le (count_of c) (count_of a) ≡ true
      → Reaches d w at (f q) (renamed f t) → ReachesOn d w (count_of a) at (f q) (renamed f t) → Going (Thin c q t)
      → Runs n (converted world (ThinShape c Shared (shape_of t)) (ThinShape a Shared (shape_of t)) (memory.Thin (Some at) ∷ []) >>= h) m Q
  some_goes a c q t at e few reach all go = record {
    by = λ next p.
        subst (λ (b : Bool). Safe n ((check b >> (Rattle.source_meaning.specs.Conversions.thin_to_thin c (count_of a) (Some at) >>= λ v. give (v ∷ [])
        >>= h)) next m))
        (sym (shape_itself t e))
        (thin_passes c (count_of a) at few next p (go (memory.Thin (Some at) ∷ []) typed));
  }
    where
      typed : HaveTypes d w holder (memory.Thin (Some at) ∷ []) (cells_type d f (Thin c q t))
      typed = (
        inr (record {
          at = at;
          is = refl;
          reaches = reach;
          elements = λ i l. all i (omega (arith, l, leb-true (count_of c) (count_of a) few));
        }),
        tt,
      )

  thin_goes : (a c : Reach) (r q : NameOf) (t : StaticType) (vs : List Scalar) → IsObjectType t → nat_le (count_of c) (count_of a) ≡ true
      → ((at : Spot) → Reaches d w at (f r) (renamed f t) → Reaches d w at (f q) (renamed f t)) → HaveTypes d w holder vs (cells_type d f (Thin a r t))
      → Going (Thin c q t)
      → Runs n (converted world (ThinShape c Shared (shape_of t)) (ThinShape a Shared (shape_of t)) vs >>= h) m Q
  thin_goes a c r q t [] e few along x go = absurd x
  thin_goes a c r q t (v ∷ u ∷ us) e few along x go = absurd x.1
  thin_goes a c r q t (v ∷ []) e few along x go = goes x.0
    where
      goes : HasType d w (holder 0) v (renamed f (Thin a r t))
          → Runs n (converted world (ThinShape c Shared (shape_of t)) (ThinShape a Shared (shape_of t)) (v ∷ []) >>= h) m Q
      goes (inl z) = subst (λ (y : Scalar). Runs n (converted world (ThinShape c Shared (shape_of t)) (ThinShape a Shared (shape_of t)) (y ∷ []) >>= h) m Q)
          (sym z.is)
          (null_goes c q t (ThinShape a Shared (shape_of t)) go)
      goes (inr z) = subst (λ (y : Scalar). Runs n (converted world (ThinShape c Shared (shape_of t)) (ThinShape a Shared (shape_of t)) (y ∷ []) >>= h) m Q)
          (sym z.is)
          (some_goes a c q t z.at e few (along z.at z.reaches) (λ i l. along _ (z.elements i l)) go)

  -- ---- fat pointers

  -- `NULL` becomes one, and stays one
  fat_null_goes : (q : NameOf) (t : StaticType) (from : Shape) → Going (Fat q t)
      → Runs n (converted world (FatShape (shape_of t)) from (memory.Thin None ∷ []) >>= h) m Q
  fat_null_goes q t from go = record { by = λ next p. (go (memory.Wide None ∷ []) (inl refl, tt)).by next p }

  wide_null_goes : (q : NameOf) (t : StaticType) (from : Shape) → Going (Fat q t)
      → Runs n (converted world (FatShape (shape_of t)) from (memory.Wide None ∷ []) >>= h) m Q
  wide_null_goes q t from go = record { by = λ next p. (go (memory.Wide None ∷ []) (inl refl, tt)).by next p }

  -- a fat pointer stays as it is
  pub fat_goes : (r q : NameOf) (t : StaticType) (vs : List Scalar) → IsObjectType t
      → ((at : Spot) → Reaches d w at (f r) (renamed f t) → Reaches d w at (f q) (renamed f t)) → HaveTypes d w holder vs (cells_type d f (Fat r t))
      → Going (Fat q t)
      → Runs n (converted world (FatShape (shape_of t)) (FatShape (shape_of t)) vs >>= h) m Q
  fat_goes r q t [] e along x go = absurd x
  fat_goes r q t (v ∷ u ∷ us) e along x go = absurd x.1
  fat_goes r q t (v ∷ []) e along x go = goes x.0
    where
      goes : HasType d w (holder 0) v (renamed f (Fat r t)) → Runs n (converted world (FatShape (shape_of t)) (FatShape (shape_of t)) (v ∷ []) >>= h) m Q
      goes (inl z) = subst (λ (y : Scalar). Runs n (converted world (FatShape (shape_of t)) (FatShape (shape_of t)) (y ∷ []) >>= h) m Q) (sym z)
          (wide_null_goes q t (FatShape (shape_of t)) go)
      goes (inr z) = subst (λ (y : Scalar). Runs n (converted world (FatShape (shape_of t)) (FatShape (shape_of t)) (y ∷ []) >>= h) m Q) (sym z.is) (record {
        by = λ next p.
            subst (λ (b : Bool). Safe n ((check b >> give (memory.Wide (Some z.span) ∷ []) >>= h) next m)) (sym (shape_itself t e))
            ((go (memory.Wide (Some z.span) ∷ []) (inr (record { span = z.span; is = refl; reaches = λ i l. along _ (z.reaches i l) }), tt)).by next p);
      })

  -- a thin pointer becomes a fat one of one element
  thin_fat_goes : (a : Reach) (r q : NameOf) (t : StaticType) (vs : List Scalar) → IsObjectType t
      → ((at : Spot) → Reaches d w at (f r) (renamed f t) → Reaches d w at (f q) (renamed f t)) → HaveTypes d w holder vs (cells_type d f (Thin a r t))
      → Going (Fat q t)
      → Runs n (converted world (FatShape (shape_of t)) (ThinShape a Shared (shape_of t)) vs >>= h) m Q
  thin_fat_goes a r q t [] e along x go = absurd x
  thin_fat_goes a r q t (v ∷ u ∷ us) e along x go = absurd x.1
  thin_fat_goes a r q t (v ∷ []) e along x go = goes x.0
    where
      goes : HasType d w (holder 0) v (renamed f (Thin a r t))
          → Runs n (converted world (FatShape (shape_of t)) (ThinShape a Shared (shape_of t)) (v ∷ []) >>= h) m Q
      goes (inl z) = subst (λ (y : Scalar). Runs n (converted world (FatShape (shape_of t)) (ThinShape a Shared (shape_of t)) (y ∷ []) >>= h) m Q) (sym z.is)
          (fat_null_goes q t (ThinShape a Shared (shape_of t)) go)
      goes (inr z) = subst (λ (y : Scalar). Runs n (converted world (FatShape (shape_of t)) (ThinShape a Shared (shape_of t)) (y ∷ []) >>= h) m Q) (sym z.is)
          (record {
            by = λ next p.
                subst (λ (b : Bool). Safe n ((check b >> give (span_at (count_of a) z.at ∷ []) >>= h) next m)) (sym (shape_itself t e))
                ((go (span_at (count_of a) z.at ∷ [])
                (inr (these_elements d w z.at (count_of a) 0 (f q) (renamed f t) (λ i l. along _ (z.elements i l))), tt)).by next p);
          })

  -- a fat pointer becomes a thin one to its element, which has to be there
  element_goes : (c : Reach) (q : NameOf) (t : StaticType) (s : Span) → Agrees world d → ReachesAll d w s (f q) (renamed f t) → Going (Thin c q t)
      → Runs n (fat_to_thin c (length (cells_of world (shape_of t))) (Some s) >>= λ v. give (v ∷ []) >>= h) m Q
  element_goes c q t s agrees reach go = by c refl
    where
      at : Spot
      at = beyond s.first (s.index * length (cells_of world (shape_of t)))

      typed : s.index < s.count → count_of c ≤ s.count - s.index → HaveTypes d w holder (memory.Thin (Some at) ∷ []) (cells_type d f (Thin c q t))
      typed l few = (
        inr (record {
          at = at;
          is = refl;
          reaches = subst (λ (k : ℕ). Reaches d w (beyond s.first (s.index * k)) (f q) (renamed f t)) (sym (cells_counted d world f t agrees))
              (reach s.index l);
          elements = subst (λ (k : ℕ). ReachesOn d w (count_of c) (beyond s.first (s.index * k)) (f q) (renamed f t)) (sym (cells_counted d world f t agrees))
              (rest_reached d w s (count_of c) (f q) (renamed f t) reach l few);
        }),
        tt,
      )

      found : Runs n (elements_from (length (cells_of world (shape_of t))) (count_of c) (Some s) >>= λ a. h (memory.Thin (Some a) ∷ [])) m Q
      found = runs_elements n (length (cells_of world (shape_of t))) (count_of c) s (λ a. h (memory.Thin (Some a) ∷ [])) m Q
          (λ l few. go (memory.Thin (Some at) ∷ []) (typed l few))

      by : (b : Reach) → count_of b ≡ count_of c → Runs n (fat_to_thin b (length (cells_of world (shape_of t))) (Some s) >>= λ v. give (v ∷ []) >>= h) m Q
      by (MayBeNull count) same = subst
          (λ j. Runs n (elements_from (length (cells_of world (shape_of t))) j (Some s) >>= λ a. h (memory.Thin (Some a) ∷ [])) m Q)
          (sym same) found
      by (NeverNull count) same = subst
          (λ j. Runs n (elements_from (length (cells_of world (shape_of t))) j (Some s) >>= λ a. h (memory.Thin (Some a) ∷ [])) m Q)
          (sym same) found

  -- `NULL` stays `NULL`, or an exception is raised
  null_thin_goes : (c : Reach) (q : NameOf) (t : StaticType) (from : Shape) → Going (Thin c q t)
      → Runs n (converted world (ThinShape c Shared (shape_of t)) from (memory.Wide None ∷ []) >>= h) m Q
  null_thin_goes (MayBeNull count) q t from go =
      record { by = λ next p. (go (memory.Thin None ∷ []) (inl (record { allowed = refl; is = refl }), tt)).by next p }
  null_thin_goes (NeverNull count) q t from go = record { by = λ next p. safe_raised n NullException }

  pub fat_thin_goes : (c : Reach) (r q : NameOf) (t : StaticType) (vs : List Scalar) → IsObjectType t → Agrees world d
      → ((at : Spot) → Reaches d w at (f r) (renamed f t) → Reaches d w at (f q) (renamed f t)) → HaveTypes d w holder vs (cells_type d f (Fat r t))
      → Going (Thin c q t)
      → Runs n (converted world (ThinShape c Shared (shape_of t)) (FatShape (shape_of t)) vs >>= h) m Q
  fat_thin_goes c r q t [] e agrees along x go = absurd x
  fat_thin_goes c r q t (v ∷ u ∷ us) e agrees along x go = absurd x.1
  fat_thin_goes c r q t (v ∷ []) e agrees along x go = goes x.0
    where
      goes : HasType d w (holder 0) v (renamed f (Fat r t))
          → Runs n (converted world (ThinShape c Shared (shape_of t)) (FatShape (shape_of t)) (v ∷ []) >>= h) m Q
      goes (inl z) = subst (λ (y : Scalar). Runs n (converted world (ThinShape c Shared (shape_of t)) (FatShape (shape_of t)) (y ∷ []) >>= h) m Q) (sym z)
          (null_thin_goes c q t (FatShape (shape_of t)) go)
      goes (inr z) = subst (λ (y : Scalar). Runs n (converted world (ThinShape c Shared (shape_of t)) (FatShape (shape_of t)) (y ∷ []) >>= h) m Q) (sym z.is)
          (record {
            by = λ next p.
                subst (λ (b : Bool). Safe n ((check b >> (fat_to_thin c (length (cells_of world (shape_of t))) (Some z.span) >>= λ v. give (v ∷ []) >>= h)) next
                m))
                (sym (shape_itself t e)) ((element_goes c q t z.span agrees (λ i l. along _ (z.reaches i l)) go).by next p);
          })

  -- ---- all of them

  integer_goes : (t u : StaticType) (vs : List Scalar) → IsInteger t → IsInteger u → HaveTypes d w holder vs (cells_type d f t) → Going u
      → Runs n (converted world (shape_of u) (shape_of t) vs >>= h) m Q
  integer_goes t u vs it iu x go =
      let c : Becomes d f world t u vs = integer_becomes d f world t u vs iu (word_of d f w holder vs t it x) in
      record { by = λ next q. subst (λ (s : _). Safe n s) (sym (c.at_once h next m)) ((go c.values (c.typed w holder)).by next q) }

  -- a struct's cells stay as they are
  struct_goes : (tag : List ℕ) (rs : List NameOf) (vs : List Scalar) → HaveTypes d w holder vs (cells_type d f (Struct tag rs)) → Going (Struct tag rs)
      → Runs n (converted world (StructShape tag) (StructShape tag) vs >>= h) m Q
  struct_goes tag rs [] x go = record {
    by = λ next p. subst (λ (b : Bool). Safe n ((check b >> give [] >>= h) next m)) (sym (same_text tag)) ((go [] x).by next p);
  }
  struct_goes tag rs (v ∷ []) x go = record {
    by = λ next p. subst (λ (b : Bool). Safe n ((check b >> give (v ∷ []) >>= h) next m)) (sym (same_text tag)) ((go (v ∷ []) x).by next p);
  }
  struct_goes tag rs (v ∷ u ∷ us) x go = record {
    by = λ next p. subst (λ (b : Bool). Safe n ((check b >> give (v ∷ u ∷ us) >>= h) next m)) (sym (same_text tag)) ((go (v ∷ u ∷ us) x).by next p);
  }

  -- nor does a union
  union_goes : (tag : List ℕ) (rs : List NameOf) (vs : List Scalar) → HaveTypes d w holder vs (cells_type d f (Union tag rs)) → Going (Union tag rs)
      → Runs n (converted world (UnionShape tag) (UnionShape tag) vs >>= h) m Q
  union_goes tag rs [] x go = absurd x
  union_goes tag rs (v ∷ []) x go = record {
    by = λ next p. subst (λ (b : Bool). Safe n ((check b >> give (v ∷ []) >>= h) next m)) (sym (same_text tag)) ((go (v ∷ []) x).by next p);
  }
  union_goes tag rs (v ∷ u ∷ us) x go = absurd x.1

  -- ---- unique pointers

  unique_null_goes : (c : Bool) (t : StaticType) (from : Shape) → Going (Unique c t)
      → Runs n (converted world (ThinShape (single c) Alone (shape_of t)) from (memory.Thin None ∷ []) >>= h) m Q
  unique_null_goes true t from go = record { by = λ next p. (go (memory.Thin None ∷ []) (inl (record { allowed = refl; is = refl }), tt)).by next p }
  unique_null_goes false t from go = record { by = λ next p. safe_raised n NullException }

  -- one that isn't `NULL` keeps its block and its right
  unique_goes : (a c : Bool) (t : StaticType) (vs : List Scalar) → IsObjectType t → HaveTypes d w holder vs (cells_type d f (Unique a t))
      → Going (Unique c t)
      → Runs n (converted world (ThinShape (single c) Alone (shape_of t)) (ThinShape (single a) Alone (shape_of t)) vs >>= h) m Q
  unique_goes a c t [] e x go = absurd x
  unique_goes a c t (v ∷ u ∷ us) e x go = absurd x.1
  unique_goes a c t (v ∷ []) e x go = goes x.0
    where
      goes : HasType d w (holder 0) v (renamed f (Unique a t))
          → Runs n (converted world (ThinShape (single c) Alone (shape_of t)) (ThinShape (single a) Alone (shape_of t)) (v ∷ []) >>= h) m Q
      goes (inl z) = subst (λ (y : Scalar).
          Runs n (converted world (ThinShape (single c) Alone (shape_of t)) (ThinShape (single a) Alone (shape_of t)) (y ∷ []) >>= h) m Q)
          (sym z.is)
          (unique_null_goes c t (ThinShape (single a) Alone (shape_of t)) go)
      goes (inr z) = subst (λ (y : Scalar).
          Runs n (converted world (ThinShape (single c) Alone (shape_of t)) (ThinShape (single a) Alone (shape_of t)) (y ∷ []) >>= h) m Q)
          (sym z.is)
          (record {
            by = λ next p.
                subst (λ (b : Bool). Safe n ((check b >> (Rattle.source_meaning.specs.Conversions.thin_to_thin (single c) (count_of (single a))
                (Some at) >>= λ v. give (v ∷ [])
                >>= h)) next m))
                (sym (shape_itself t e))
                (thin_passes (single c) (count_of (single a)) at few next p (go (memory.Thin (Some at) ∷ []) typed));
          })
        where
          at : Spot
          at = record { region = memory.Born z.block; object = 0; cell = 0 }

          typed : HaveTypes d w holder (memory.Thin (Some at) ∷ []) (cells_type d f (Unique c t))
          typed = (inr (record { block = z.block; is = refl; reaches = z.reaches; owner = z.owner; unkeyed = z.unkeyed }), tt)

          few : nat_le (count_of (single c)) (count_of (single a)) ≡ true
          few = by a c
            where
              by : (x y : Bool) → nat_le (count_of (single y)) (count_of (single x)) ≡ true
              by true true = refl
              by true false = refl
              by false true = refl
              by false false = refl

  -- a handle stays as it is
  handle_goes : (r : NameOf) (vs : List Scalar) → HaveTypes d w holder vs (cells_type d f (Handle r)) → Going (Handle r)
      → Runs n (converted world HandleShape HandleShape vs >>= h) m Q
  handle_goes r [] x go = absurd x
  handle_goes r (v ∷ u ∷ us) x go = absurd x.1
  handle_goes r (v ∷ []) x go =
      let typed : HaveTypes d w holder (memory.HandleOf x.0.birth ∷ []) (cells_type d f (Handle r)) =
      subst (λ (y : Scalar). HaveTypes d w holder (y ∷ []) (cells_type d f (Handle r))) x.0.is x in
      subst (λ (y : Scalar). Runs n (converted world HandleShape HandleShape (y ∷ []) >>= h) m Q) (sym x.0.is)
      (record { by = λ next p. (go (memory.HandleOf x.0.birth ∷ []) typed).by next p })

  -- so does a key, with its right
  key_goes : (r : NameOf) (vs : List Scalar) → HaveTypes d w holder vs (cells_type d f (Key r)) → Going (Key r)
      → Runs n (converted world KeyShape KeyShape vs >>= h) m Q
  key_goes r [] x go = absurd x
  key_goes r (v ∷ u ∷ us) x go = absurd x.1
  key_goes r (v ∷ []) x go =
      let typed : HaveTypes d w holder (memory.KeyOf x.0.birth ∷ []) (cells_type d f (Key r)) =
      subst (λ (y : Scalar). HaveTypes d w holder (y ∷ []) (cells_type d f (Key r))) x.0.is x in
      subst (λ (y : Scalar). Runs n (converted world KeyShape KeyShape (y ∷ []) >>= h) m Q) (sym x.0.is)
      (record { by = λ next p. (go (memory.KeyOf x.0.birth ∷ []) typed).by next p })

  same_goes : (t : StaticType) (vs : List Scalar) → IsObjectType t → HaveTypes d w holder vs (cells_type d f t) → Going t
      → Runs n (converted world (shape_of t) (shape_of t) vs >>= h) m Q
  same_goes Int vs e x go = integer_goes Int Int vs refl refl x go
  same_goes Unsigned vs e x go = integer_goes Unsigned Unsigned vs refl refl x go
  same_goes Char vs e x go = integer_goes Char Char vs refl refl x go
  same_goes Void vs e x go = absurd e
  same_goes Null vs e x go = absurd e
  same_goes (Thin a r t) vs e x go = thin_goes a a r r t vs e (le-leb (count_of a) (count_of a) (omega arith)) (λ at z. z) x go
  same_goes (Fat r t) vs e x go = fat_goes r r t vs e (λ at z. z) x go
  same_goes (Unique a t) vs e x go = unique_goes a a t vs e x go
  same_goes (Handle r) vs e x go = handle_goes r vs x go
  same_goes (Key r) vs e x go = key_goes r vs x go
  same_goes (Struct tag rs) vs e x go = struct_goes tag rs vs x go
  same_goes (Union tag rs) vs e x go = union_goes tag rs vs x go

  -- Each conversion gives a value of its type, or raises.
  pub converts_goes : (g : Regions) (k : ℕ) (t u : StaticType) (vs : List Scalar) → Agrees world d → NamesOk g f k w m → IsSimple t → IsObjectType u
      → Converts g t u
      → HaveTypes d w holder vs (cells_type d f t) → Going u → Runs n (converted world (shape_of u) (shape_of t) vs >>= h) m Q
  converts_goes g k t u vs agrees names p e (Same {t = s}) x go = same_goes s vs e x go
  converts_goes g k t u vs agrees names p e (Integers {t = s} {u = z} a c) x go = integer_goes s z vs a c x go
  converts_goes g k t u vs agrees names p e (NullToThin {count = count} {a = q} {t = s}) x go =
      let v : OneValue d w (holder 0) vs Null = one_value d w holder vs Null x in
      subst (λ (us : List Scalar). Runs n (converted world (ThinShape (MayBeNull count) Shared (shape_of s)) (shape_of {R = NameOf} Null) us >>= h) m Q)
      (sym (v.is ∙ ap (λ (y : Scalar). y ∷ []) v.typed))
      (null_goes (MayBeNull count) q s (shape_of {R = NameOf} Null) go)
  converts_goes g k t u vs agrees names p e (NullToFat {a = q} {t = s}) x go =
      let v : OneValue d w (holder 0) vs Null = one_value d w holder vs Null x in
      subst (λ (us : List Scalar). Runs n (converted world (FatShape (shape_of s)) (shape_of {R = NameOf} Null) us >>= h) m Q)
      (sym (v.is ∙ ap (λ (y : Scalar). y ∷ []) v.typed))
      (fat_null_goes q s (shape_of {R = NameOf} Null) go)
  converts_goes g k t u vs agrees names p e (NullToUnique {t = s}) x go =
      let v : OneValue d w (holder 0) vs Null = one_value d w holder vs Null x in
      subst (λ (us : List Scalar). Runs n (converted world (ThinShape (MayBeNull 1) Alone (shape_of s)) (shape_of {R = NameOf} Null) us >>= h) m Q)
      (sym (v.is ∙ ap (λ (y : Scalar). y ∷ []) v.typed))
      (unique_null_goes true s (shape_of {R = NameOf} Null) go)
  converts_goes g k t u vs agrees names p e (Thins {n = n1} {m = n2} {a = a} {b = b} {t = s} few o) x go =
      thin_goes n1 n2 a b s vs e few (λ at z. reach_along d w m at (f a) (f b) (renamed f s) i (names.order a b o) z) x go
  converts_goes g k t u vs agrees names p e (Fats {a = a} {b = b} {t = s} o) x go =
      fat_goes a b s vs e (λ at z. reach_along d w m at (f a) (f b) (renamed f s) i (names.order a b o) z) x go
  converts_goes g k t u vs agrees names p e (ThinToFat {n = n1} {a = a} {b = b} {t = s} o) x go =
      thin_fat_goes n1 a b s vs e (λ at z. reach_along d w m at (f a) (f b) (renamed f s) i (names.order a b o) z) x go
  converts_goes g k t u vs agrees names p e (FatToThin {n = n1} {a = a} {b = b} {t = s} o) x go =
      fat_thin_goes n1 a b s vs e agrees (λ at z. reach_along d w m at (f a) (f b) (renamed f s) i (names.order a b o) z) x go
  converts_goes g k t u vs agrees names p e (Uniques {n = n1} {m = n2} {t = s}) x go = unique_goes n1 n2 s vs e x go
