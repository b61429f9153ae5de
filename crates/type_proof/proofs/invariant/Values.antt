-- Values keep their types.
use Rattle.std.proofs.Common.{◌≡◌, ℕ, zero, suc, Bool, sym, subst, arith, true, false, inl, inr, Some, List, [], ◌∷◌, ◌∙◌}
use Rattle.std.specs.Prelude.{◌*◌, length}
use Rattle.source_meaning.specs.Memory.{Region, Born, Spot, Scalar, Content, is_moved, beyond}
use Rattle.source_meaning.specs.Shapes.{count_of, single}
use Rattle.type_proof.proofs.invariant.Facts.{at_start}
use Rattle.source_typing.specs.Types as types
use Rattle.source_typing.specs.Types.{Int, Unsigned, Char, Void, Null, Fat, Unique, Handle, Key, Struct, Union, shape_of}
use Rattle.type_proof.specs.Flat.{Tables, flat}
use Rattle.type_proof.proofs.invariant.Invariant.{ReachesOn, RunType, Ghost, Owner, Nobody, InCell, Kept, Reached, Private, heap, Laid, AllLaid, Reaches}
use Rattle.type_proof.proofs.invariant.Invariant.{Member, HasPlain}
use Rattle.type_proof.proofs.invariant.Invariant.{HasType, HaveTypes, ContentOk}

-- one object is one element, the first
pub only_one : (d : Tables) (w : Ghost) (at : Spot) (r : Region) (t : RunType) → Reaches d w at r t → ReachesOn d w 1 at r t
only_one d w at r t h zero l = subst (λ (s : Spot). Reaches d w s r t) (sym (at_start at (length (flat heap d t)))) h
only_one d w at r t h (suc i) l = absurd (omega (arith, l))

pub single_one : (b : Bool) (d : Tables) (w : Ghost) (at : Spot) (r : Region) (t : RunType) → Reaches d w at r t → ReachesOn d w (count_of (single b)) at r t
single_one true d w at r t h = only_one d w at r t h
single_one false d w at r t h = only_one d w at r t h

-- a value that `by` has comes to `to`
pub record Carries (w w' : Ghost) (by to : Owner) : Type 0 where
  pub types : (s : Spot) (t : RunType) → w.types s ≡ Some (Reached t) → w'.types s ≡ Some (Reached t)
  pub above : (q r : Region) → w.above q r ≡ true → w'.above q r ≡ true
  pub owner : (b : ℕ) → w.owner (Born b) ≡ by → w'.owner (Born b) ≡ to
  pub keyed : (b : ℕ) → w.owner (Born b) ≡ by → w'.keyed (Born b) ≡ w.keyed (Born b)

pub laid_kept : (w w' : Ghost) (s : Spot) (ts : List RunType) → ((s : Spot) (t : RunType) → w.types s ≡ Some (Reached t) → w'.types s ≡ Some (Reached t))
    → Laid w s ts → Laid w' s ts
laid_kept w w' s [] g h = tt
laid_kept w w' s (t ∷ ts) g h = (g s t h.0, laid_kept w w' (beyond s 1) ts g h.1)

pub all_laid_kept : (w w' : Ghost) (s : Spot) (count : ℕ) (ts : List RunType)
    → ((s : Spot) (t : RunType) → w.types s ≡ Some (Reached t) → w'.types s ≡ Some (Reached t)) → AllLaid w s count ts → AllLaid w' s count ts
all_laid_kept w w' s count ts g h = λ i l. laid_kept w w' (beyond s (i * length ts)) ts g (h i l)

reaches_kept : (d : Tables) (w w' : Ghost) (by to : Owner) (at : Spot) (r : Region) (t : RunType) → Carries w w' by to → Reaches d w at r t
    → Reaches d w' at r t
reaches_kept d w w' by to at r t c h = record { typed = laid_kept w w' at (flat heap d t) c.types h.typed; above = c.above _ _ h.above }

plain_kept : (d : Tables) (w w' : Ghost) (by to : Owner) (v : Scalar) (t : RunType) → Carries w w' by to → HasPlain d w by v t → HasPlain d w' to v t
plain_kept d w w' by to v Int c h = h
plain_kept d w w' by to v Unsigned c h = h
plain_kept d w w' by to v Char c h = h
plain_kept d w w' by to v Void c h = h
plain_kept d w w' by to v Null c h = h
plain_kept d w w' by to v (types.Thin n r t) c (inl h) = inl h
plain_kept d w w' by to v (types.Thin n r t) c (inr h) = inr (record {
  at = h.at;
  is = h.is;
  reaches = reaches_kept d w w' by to h.at r t c h.reaches;
  elements = λ i x. reaches_kept d w w' by to _ r t c (h.elements i x);
})
plain_kept d w w' by to v (Fat r t) c (inl h) = inl h
plain_kept d w w' by to v (Fat r t) c (inr h) = inr (record { span = h.span; is = h.is; reaches = λ i x. reaches_kept d w w' by to _ r t c (h.reaches i x) })
plain_kept d w w' by to v (Unique n t) c (inl h) = inl h
plain_kept d w w' by to v (Unique n t) c (inr h) = inr (record {
  block = h.block;
  is = h.is;
  reaches = reaches_kept d w w' by to _ _ t c h.reaches;
  owner = c.owner _ h.owner;
  unkeyed = c.keyed _ h.owner ∙ h.unkeyed;
})
plain_kept d w w' by to v (Handle r) c h = h
plain_kept d w w' by to v (Key r) c h = record { birth = h.birth; is = h.is; region = h.region; owner = c.owner _ h.owner; keyed = c.keyed _ h.owner ∙ h.keyed }
plain_kept d w w' by to v (Struct tag rs) c h = h
plain_kept d w w' by to v (Union tag rs) c h = h

-- what types and the order keep alone
pub record Grown (w w' : Ghost) : Type 0 where
  pub types : (s : Spot) (t : RunType) → w.types s ≡ Some (Reached t) → w'.types s ≡ Some (Reached t)
  pub above : (q r : Region) → w.above q r ≡ true → w'.above q r ≡ true

grown_reaches : (d : Tables) (w w' : Ghost) (at : Spot) (r : Region) (t : RunType) → Grown w w' → Reaches d w at r t → Reaches d w' at r t
grown_reaches d w w' at r t c h = record { typed = laid_kept w w' at (flat heap d t) c.types h.typed; above = c.above _ _ h.above }

-- a value that carries no right may be of any owner
pub copied_plain : (d : Tables) (w w' : Ghost) (by to : Owner) (v : Scalar) (t : RunType) → Grown w w' → is_moved (shape_of t) ≡ false → HasPlain d w by v t
    → HasPlain d w' to v t
copied_plain d w w' by to v Int c n h = h
copied_plain d w w' by to v Unsigned c n h = h
copied_plain d w w' by to v Char c n h = h
copied_plain d w w' by to v Void c n h = h
copied_plain d w w' by to v Null c n h = h
copied_plain d w w' by to v (types.Thin m r t) c n (inl h) = inl h
copied_plain d w w' by to v (types.Thin m r t) c n (inr h) = inr (record {
  at = h.at;
  is = h.is;
  reaches = grown_reaches d w w' h.at r t c h.reaches;
  elements = λ i x. grown_reaches d w w' _ r t c (h.elements i x);
})
copied_plain d w w' by to v (Fat r t) c n (inl h) = inl h
copied_plain d w w' by to v (Fat r t) c n (inr h) = inr (record { span = h.span; is = h.is; reaches = λ i x. grown_reaches d w w' _ r t c (h.reaches i x) })
copied_plain d w w' by to v (Unique m t) c n h = absurd (cc)
copied_plain d w w' by to v (Handle r) c n h = h
copied_plain d w w' by to v (Key r) c n h = absurd (cc)
copied_plain d w w' by to v (Struct tag rs) c n h = h
copied_plain d w w' by to v (Union tag rs) c n h = h

member_kept : (d : Tables) (w w' : Ghost) (v : Scalar) (tag : List ℕ) (rs : List Region) → Grown w w' → Member d w v tag rs → Member d w' v tag rs
member_kept d w w' v tag rs c h = record {
  position = h.position;
  type = h.type;
  value = h.value;
  is = h.is;
  part = h.part;
  copied = h.copied;
  typed = copied_plain d w w' Nobody Nobody h.value h.type c h.copied h.typed;
}

pub copied_kept : (d : Tables) (w w' : Ghost) (by to : Owner) (v : Scalar) (t : RunType) → Grown w w' → is_moved (shape_of t) ≡ false → HasType d w by v t
    → HasType d w' to v t
copied_kept d w w' by to v Int c n h = h
copied_kept d w w' by to v Unsigned c n h = h
copied_kept d w w' by to v Char c n h = h
copied_kept d w w' by to v Void c n h = h
copied_kept d w w' by to v Null c n h = h
copied_kept d w w' by to v (types.Thin m r t) c n h = copied_plain d w w' by to v (types.Thin m r t) c n h
copied_kept d w w' by to v (Fat r t) c n h = copied_plain d w w' by to v (Fat r t) c n h
copied_kept d w w' by to v (Unique m t) c n h = copied_plain d w w' by to v (Unique m t) c n h
copied_kept d w w' by to v (Handle r) c n h = h
copied_kept d w w' by to v (Key r) c n h = copied_plain d w w' by to v (Key r) c n h
copied_kept d w w' by to v (Struct tag rs) c n h = h
copied_kept d w w' by to v (Union tag rs) c n h = member_kept d w w' v tag rs c h

pub value_kept : (d : Tables) (w w' : Ghost) (by to : Owner) (v : Scalar) (t : RunType) → Carries w w' by to → HasType d w by v t → HasType d w' to v t
value_kept d w w' by to v Int c h = h
value_kept d w w' by to v Unsigned c h = h
value_kept d w w' by to v Char c h = h
value_kept d w w' by to v Void c h = h
value_kept d w w' by to v Null c h = h
value_kept d w w' by to v (types.Thin m r t) c h = plain_kept d w w' by to v (types.Thin m r t) c h
value_kept d w w' by to v (Fat r t) c h = plain_kept d w w' by to v (Fat r t) c h
value_kept d w w' by to v (Unique m t) c h = plain_kept d w w' by to v (Unique m t) c h
value_kept d w w' by to v (Handle r) c h = h
value_kept d w w' by to v (Key r) c h = plain_kept d w w' by to v (Key r) c h
value_kept d w w' by to v (Struct tag rs) c h = h
value_kept d w w' by to v (Union tag rs) c h = member_kept d w w' v tag rs (record { types = c.types; above = c.above }) h

pub values_kept : (d : Tables) (w w' : Ghost) (by to : ℕ → Owner) (vs : List Scalar) (ts : List RunType) → ((k : ℕ) → Carries w w' (by k) (to k))
    → HaveTypes d w by vs ts → HaveTypes d w' to vs ts
values_kept d w w' by to [] [] c h = h
values_kept d w w' by to (v ∷ vs) (t ∷ ts) c h = (
  value_kept d w w' (by 0) (to 0) v t (c 0) h.0,
  values_kept d w w' (λ k. by (suc k)) (λ k. to (suc k)) vs ts
      (λ k. c (suc k)) h.1,
)
values_kept d w w' by to [] (t ∷ ts) c h = absurd h
values_kept d w w' by to (v ∷ vs) [] c h = absurd h

-- a cell whose own rights stay
pub content_kept : (d : Tables) (w w' : Ghost) (s : Spot) (c : Content) (k : Kept) → Carries w w' (InCell s) (InCell s) → ContentOk d w s c k
    → ContentOk d w' s c k
content_kept d w w' s c (Reached t) h x = record { value = x.value; is = x.is; typed = value_kept d w w' (InCell s) (InCell s) x.value t h x.typed }
content_kept d w w' s c (Private t) h x = λ v e. value_kept d w w' (InCell s) (InCell s) v t h (x v e)
