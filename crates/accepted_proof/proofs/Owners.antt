-- Which pointers of a type are unique: by its shape as it is written, and by the type that it is judged to be. A missing region is taken from another type.
use Rattle.std.proofs.Common.{nat_eq, ◌≡◌, Bool, true, false, Option, Some, None, List, ℕ, refl, sym, subst, ap, ◌∙◌}
use Rattle.std.proofs.lemmas.Bool.{eqb-true}
use Rattle.source_meaning.specs.Shapes.{MayBeNull, NeverNull, Reach, number_of, may_be_null, single}
use Rattle.source_meaning.specs.Shapes.{Alone, CharShape, FatShape, HandleShape, IntShape, Owner, Shape, Shared, StructShape, ThinShape, UnionShape}
use Rattle.source_meaning.specs.Shapes.{Unsaid, UnsignedShape, VoidShape, first_owner, settled, settled_by, shared_owner}
use Rattle.source_typing.specs.Missing.{alone_with, fat_with, filled_from, or_found, outer_region, pointee_of, thin_with, unique_with}
use Rattle.source_typing.specs.Regions.{Region}
use Rattle.source_typing.specs.Types.{Char, Fat, Handle, Int, Key, Null, PartialType, StaticType, Struct, Thin, Union, Unique, Unsigned, Void, shape_of}
use Rattle.source_typing.specs.Written.{Found, Is, IsUnique, Missing}

-- A shape as it is written, and the type with what is found for its regions. A missing one is left open, or was given a region variable of its own.
pub data Writes (left_open : Bool) : Shape → PartialType → Type 0 where
  WritesInt : Writes left_open IntShape Int
  WritesUnsigned : Writes left_open UnsignedShape Unsigned
  WritesChar : Writes left_open CharShape Char
  WritesHandle : {r : Option Region} → Writes left_open HandleShape (Handle r)
  WritesStruct : {tag : List ℕ} {rs : List (Option Region)} → Writes left_open (StructShape tag) (Struct tag rs)
  WritesUnion : {tag : List ℕ} {rs : List (Option Region)} → Writes left_open (UnionShape tag) (Union tag rs)
  WritesFat : {s : Shape} {r : Option Region} {p : PartialType} → Writes left_open s p → Writes left_open (FatShape s) (Fat r p)
  WritesOpen : {b : Reach} {s : Shape} {p : PartialType} → left_open ≡ true → Writes left_open s p → Writes left_open (ThinShape b Unsaid s) (Thin b None p)
  WritesFresh : {b : Reach} {s : Shape} {r : Region} {p : PartialType} → left_open ≡ false → Writes left_open s p
      → Writes left_open (ThinShape b Unsaid s) (Thin b (Some r) p)
  WritesShared : {b : Reach} {s : Shape} {r : Region} {p : PartialType} → Writes left_open s p → Writes left_open (ThinShape b Shared s) (Thin b (Some r) p)
  WritesAlone : {b : Bool} {s : Shape} {p : PartialType} → Writes left_open s p → Writes left_open (ThinShape (single b) Alone s) (Unique b p)

-- ---- shapes of types with what is missing from another one

abbrev other_shape : Option StaticType → Shape
other_shape None = VoidShape
other_shape (Some t) = shape_of t

-- a shape whose open owners are another type's, where there is one
abbrev pub settled_from : Shape → Option StaticType → Shape
settled_from s u = settled_by s (other_shape u)

pub by_void : (s : Shape) → settled_by s VoidShape ≡ settled s
by_void (ThinShape b o s) = refl
by_void (FatShape s) = refl
by_void _ = refl

pub settled_alone_is : (s : Shape) → settled_from s None ≡ settled s
settled_alone_is s = by_void s

abbrev owner_with : Owner → Found → Owner
owner_with o (Is r) = shared_owner o
owner_with o IsUnique = first_owner o Alone
owner_with o Missing = shared_owner o

first_shared : (o : Owner) → first_owner o Shared ≡ shared_owner o
first_shared Unsaid = refl
first_shared Shared = refl
first_shared Alone = refl

thin_settled : (b : Reach) (o : Owner) (s : Shape) (u : Option StaticType)
    → settled_from (ThinShape b o s) u ≡ ThinShape b (owner_with o (outer_region u)) (settled_from s (pointee_of u))
thin_settled b o s u = by u
  where
    plain : ThinShape b (shared_owner o) (settled s) ≡ ThinShape b (shared_owner o) (settled_by s VoidShape)
    plain = ap (λ z. ThinShape b (shared_owner o) z) (sym (by_void s))

    by : (u : Option StaticType) → settled_from (ThinShape b o s) u ≡ ThinShape b (owner_with o (outer_region u)) (settled_from s (pointee_of u))
    by (Some (Thin m r t)) = ap (λ z. ThinShape b z (settled_by s (shape_of t))) (first_shared o)
    by (Some (Fat r t)) = refl
    by (Some (Unique m t)) = refl
    by (Some Null) = ap (λ z. ThinShape b z (settled_by s VoidShape)) (first_shared o)
    by None = plain
    by (Some Int) = plain
    by (Some Unsigned) = plain
    by (Some Char) = plain
    by (Some Void) = plain
    by (Some (Handle r)) = plain
    by (Some (Key r)) = plain
    by (Some (Struct tag rs)) = plain
    by (Some (Union tag rs)) = plain

fat_settled : (s : Shape) (u : Option StaticType) → settled_from (FatShape s) u ≡ FatShape (settled_from s (pointee_of u))
fat_settled s u = by u
  where
    plain : FatShape (settled s) ≡ FatShape (settled_by s VoidShape)
    plain = ap (λ z. FatShape z) (sym (by_void s))

    by : (u : Option StaticType) → settled_from (FatShape s) u ≡ FatShape (settled_from s (pointee_of u))
    by (Some (Thin m r t)) = refl
    by (Some (Fat r t)) = refl
    by (Some (Unique m t)) = refl
    by (Some Null) = refl
    by None = plain
    by (Some Int) = plain
    by (Some Unsigned) = plain
    by (Some Char) = plain
    by (Some Void) = plain
    by (Some (Handle r)) = plain
    by (Some (Key r)) = plain
    by (Some (Struct tag rs)) = plain
    by (Some (Union tag rs)) = plain

-- ---- the type that is filled has that shape

abbrev pub ShapedIfSome : Shape → Option StaticType → Type 0
ShapedIfSome s None = Unit {0}
ShapedIfSome s (Some t) = s ≡ shape_of t

-- the owner of a pointer with such a region
abbrev FitsOwner : Owner → Found → Type 0
FitsOwner o (Is r) = o ≡ Shared
FitsOwner o IsUnique = o ≡ Alone
FitsOwner o Missing = o ≡ Shared

same_thin : (b : Reach) (o q : Owner) (s z : Shape) → o ≡ q → s ≡ z → ThinShape b o s ≡ ThinShape b q z
same_thin b o q s z e f = ap (λ x. ThinShape b x s) e ∙ ap (λ x. ThinShape b q x) f

-- a bound of one element is the one without a number
pub one_element : (b : Reach) → nat_eq (number_of b) 1 ≡ true → b ≡ single (may_be_null b)
one_element (MayBeNull k) e = ap MayBeNull (eqb-true k 1 e)
one_element (NeverNull k) e = ap NeverNull (eqb-true k 1 e)

alone_shaped : (b : Reach) (o : Owner) (s : Shape) (t : StaticType) (one : Bool) → nat_eq (number_of b) 1 ≡ one → o ≡ Alone → s ≡ shape_of t
    → ShapedIfSome (ThinShape b o s) (alone_with one b t)
alone_shaped b o s t true one e h = same_thin b o Alone s (shape_of t) e h ∙ ap (λ x. ThinShape x Alone (shape_of t)) (one_element b one)
alone_shaped b o s t false one e h = tt

thin_shaped : (b : Reach) (o : Owner) (s : Shape) (f : Found) (t : Option StaticType) → FitsOwner o f → ShapedIfSome s t
    → ShapedIfSome (ThinShape b o s) (thin_with b f t)
thin_shaped b o s (Is r) None e h = tt
thin_shaped b o s IsUnique None e h = tt
thin_shaped b o s Missing None e h = tt
thin_shaped b o s (Is r) (Some t) e h = same_thin b o Shared s (shape_of t) e h
thin_shaped b o s IsUnique (Some t) e h = alone_shaped b o s t (nat_eq (number_of b) 1) refl e h
thin_shaped b o s Missing (Some t) e h = same_thin b o Shared s (shape_of t) e h

fat_shaped : (s : Shape) (f : Found) (t : Option StaticType) → ShapedIfSome s t → ShapedIfSome (FatShape s) (fat_with f t)
fat_shaped s (Is r) None h = tt
fat_shaped s IsUnique None h = tt
fat_shaped s Missing None h = tt
fat_shaped s (Is r) (Some t) h = ap (λ z. FatShape z) h
fat_shaped s IsUnique (Some t) h = tt
fat_shaped s Missing (Some t) h = ap (λ z. FatShape z) h

unique_shaped : (b : Bool) (o : Owner) (s : Shape) (t : Option StaticType) → o ≡ Alone → ShapedIfSome s t
    → ShapedIfSome (ThinShape (single b) o s) (unique_with b t)
unique_shaped b o s None e h = tt
unique_shaped b o s (Some t) e h = same_thin (single b) o Alone s (shape_of t) e h

open_fits : (f : Found) → FitsOwner (owner_with Unsaid f) f
open_fits (Is r) = refl
open_fits IsUnique = refl
open_fits Missing = refl

shared_fits : (f : Found) → owner_with Shared f ≡ Shared
shared_fits (Is r) = refl
shared_fits IsUnique = refl
shared_fits Missing = refl

alone_fits : (f : Found) → owner_with Alone f ≡ Alone
alone_fits (Is r) = refl
alone_fits IsUnique = refl
alone_fits Missing = refl

-- where nothing is left open, there is no other type
pub filled_shaped : {left_open : Bool} {s : Shape} {p : PartialType} (u : Option StaticType) → (left_open ≡ false → u ≡ None) → Writes left_open s p
    → ShapedIfSome (settled_from s u) (filled_from p u)
filled_shaped u k WritesInt = refl
filled_shaped u k WritesUnsigned = refl
filled_shaped u k WritesChar = refl
filled_shaped u k WritesHandle = refl
filled_shaped u k WritesStruct = refl
filled_shaped u k WritesUnion = refl
filled_shaped u k (WritesFat {s = s} {r = r} {p = p} w) =
    subst (λ z. ShapedIfSome z (fat_with (or_found r (outer_region u)) (filled_from p (pointee_of u)))) (sym (fat_settled s u))
    (fat_shaped (settled_from s (pointee_of u)) (or_found r (outer_region u)) (filled_from p (pointee_of u))
    (filled_shaped (pointee_of u) (λ e. ap (λ z. pointee_of z) (k e)) w))
filled_shaped u k (WritesOpen {b = b} {s = s} {p = p} e w) =
    subst (λ z. ShapedIfSome z (thin_with b (outer_region u) (filled_from p (pointee_of u)))) (sym (thin_settled b Unsaid s u))
    (thin_shaped b (owner_with Unsaid (outer_region u)) (settled_from s (pointee_of u)) (outer_region u) (filled_from p (pointee_of u))
    (open_fits (outer_region u)) (filled_shaped (pointee_of u) (λ q. ap (λ z. pointee_of z) (k q)) w))
filled_shaped u k (WritesFresh {b = b} {s = s} {r = r} {p = p} e w) =
    subst (λ z. ShapedIfSome z (thin_with b (Is r) (filled_from p (pointee_of u)))) (sym (thin_settled b Unsaid s u))
    (thin_shaped b (owner_with Unsaid (outer_region u)) (settled_from s (pointee_of u)) (Is r) (filled_from p (pointee_of u))
    (subst (λ z. owner_with Unsaid (outer_region z) ≡ Shared) (sym (k e)) refl) (filled_shaped (pointee_of u) (λ q. ap (λ z. pointee_of z) (k q)) w))
filled_shaped u k (WritesShared {b = b} {s = s} {r = r} {p = p} w) =
    subst (λ z. ShapedIfSome z (thin_with b (Is r) (filled_from p (pointee_of u)))) (sym (thin_settled b Shared s u))
    (thin_shaped b (owner_with Shared (outer_region u)) (settled_from s (pointee_of u)) (Is r) (filled_from p (pointee_of u))
    (shared_fits (outer_region u)) (filled_shaped (pointee_of u) (λ q. ap (λ z. pointee_of z) (k q)) w))
filled_shaped u k (WritesAlone {b = b} {s = s} {p = p} w) =
    subst (λ z. ShapedIfSome z (unique_with b (filled_from p (pointee_of u)))) (sym (thin_settled (single b) Alone s u))
    (unique_shaped b (owner_with Alone (outer_region u)) (settled_from s (pointee_of u)) (filled_from p (pointee_of u)) (alone_fits (outer_region u))
    (filled_shaped (pointee_of u) (λ q. ap (λ z. pointee_of z) (k q)) w))

-- ---- types of which no region is missing

-- no owner is left open
abbrev pub IsSaid : Shape → Type 0
IsSaid (ThinShape b o s) = (o ≡ Unsaid → ⊥) × IsSaid s
IsSaid (FatShape s) = IsSaid s
IsSaid s = Unit {0}

said_owner : (o q : Owner) → (o ≡ Unsaid → ⊥) → first_owner o q ≡ shared_owner o
said_owner Unsaid q h = absurd (h refl)
said_owner Shared q h = refl
said_owner Alone q h = refl

-- another type says nothing more
pub said_alone : (s from : Shape) → IsSaid s → settled_by s from ≡ settled s
said_alone (ThinShape b o s) (ThinShape c q from) h =
    same_thin b (first_owner o q) (shared_owner o) (settled_by s from) (settled s) (said_owner o q h.0) (said_alone s from h.1)
said_alone (ThinShape b o s) (FatShape from) h = ap (λ z. ThinShape b (shared_owner o) z) (said_alone s from h.1)
said_alone (ThinShape b o s) _ h = refl
said_alone (FatShape s) (ThinShape c q from) h = ap (λ z. FatShape z) (said_alone s from h)
said_alone (FatShape s) (FatShape from) h = ap (λ z. FatShape z) (said_alone s from h)
said_alone (FatShape s) _ h = refl
said_alone _ from h = refl
