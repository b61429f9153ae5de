-- Shapes that compare as the same are equal.
use Rattle.std.proofs.Common.{◌≡◌, ℕ, List, true, nat_eq, refl, ap}
use Rattle.std.specs.Prelude.{◌&&◌, bytes_eq}
use Rattle.std.proofs.lemmas.Bool.{eqb-true, and_parts}
use Rattle.std.proofs.lemmas.Slice.Eq.{bytes_eq-Decides}
use Rattle.source_meaning.specs.Shapes.{
  Owner,
  Shared,
  Alone,
  Unsaid,
  Shape,
  IntShape,
  UnsignedShape,
  CharShape,
  VoidShape,
  ThinShape,
  FatShape,
  HandleShape,
  KeyShape,
  StructShape,
  UnionShape,
  ArrayShape,
  Reach,
  MayBeNull,
  NeverNull,
  same_bound,
  same_owner,
  same_shape,
}
use Rattle.source_meaning.proofs.Reaches.{bound_is}

owners_same : (a b : Owner) → same_owner a b ≡ true → a ≡ b
owners_same Shared Shared e = refl
owners_same Alone Alone e = refl
owners_same Unsaid Unsaid e = refl
owners_same _ _ e = absurd (cc)

bytes_same : (xs ys : List ℕ) → bytes_eq xs ys ≡ true → xs ≡ ys
bytes_same xs ys e = (bytes_eq-Decides xs ys).0 e

pub shapes_same : (s t : Shape) → same_shape s t ≡ true → s ≡ t
shapes_same IntShape IntShape e = refl
shapes_same UnsignedShape UnsignedShape e = refl
shapes_same CharShape CharShape e = refl
shapes_same VoidShape VoidShape e = refl
shapes_same (ThinShape m o s) (ThinShape n q t) e =
    let p = and_parts (same_bound m n) (same_owner o q && same_shape s t) e in
    let q' = and_parts (same_owner o q) (same_shape s t) p.1 in
    let a = bound_is m n p.0 in
    let b = owners_same o q q'.0 in
    let c = shapes_same s t q'.1 in
    λ i. ThinShape (a i) (b i) (c i)
shapes_same (FatShape s) (FatShape t) e = ap FatShape (shapes_same s t e)
shapes_same HandleShape HandleShape e = refl
shapes_same KeyShape KeyShape e = refl
shapes_same (StructShape a) (StructShape b) e = ap StructShape (bytes_same a b e)
shapes_same (UnionShape a) (UnionShape b) e = ap UnionShape (bytes_same a b e)
shapes_same (ArrayShape j s) (ArrayShape k t) e =
    let p = and_parts (nat_eq j k) (same_shape s t) e in
    let a = eqb-true j k p.0 in
    let b = shapes_same s t p.1 in
    λ i. ArrayShape (a i) (b i)
shapes_same _ _ e = absurd (cc)
