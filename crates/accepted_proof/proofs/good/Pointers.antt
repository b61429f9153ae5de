-- Pointers to an object, as a type writes them, make an object of the shape that is written: with a region, without one, or unique.
use Rattle.std.proofs.Common.{◌≡◌, ◌⊎◌, ℕ, zero, suc, Bool, true, false, inl, inr, Option, Some, None, List, [], ◌∷◌, nat_eq, refl, sym, ◌∙◌, subst}
use Rattle.std.specs.Prelude.{◌++◌, if◌then◌else◌, map}
use Rattle.std.proofs.lemmas.Bool.{false≢true}
use Rattle.cyc_tree.specs.declared.name.Sign.{Sign}
use Rattle.cyc_tree.specs.declared.name.Sign.TheVariants as sign
use Rattle.cyc_tree.specs.Tree as tree
use Rattle.cyc_tree.specs.Tree.{Pointer, TypeName}
use Rattle.source_lowering.specs.Taken.{IsVoidType}
use Rattle.source_meaning.specs.Shapes as shapes
use Rattle.source_meaning.specs.Shapes.{Reach, MayBeNull, NeverNull, may_be_null, number_of}
use Rattle.source_meaning.specs.Shapes.{FatShape, HandleShape, Shape, StructShape, ThinShape, UnionShape, owner_of, pointed, signed_shape}
use Rattle.source_typing.specs.Named.{Below}
use Rattle.source_typing.specs.Regions.{Region}
use Rattle.source_typing.specs.Types.{Char, Fat, Handle, Int, Key, PartialType, Struct, Thin, Union, Unique, Unsigned, Void}
use Rattle.source_typing.specs.Written.{
  Found,
  Is,
  IsUnique,
  Missing,
  as_region,
  built,
  pointer_to,
  pointers_to,
  thin_to,
  with_arguments,
}
use Rattle.accepted_proof.proofs.FoundRegions.{AreAllFound, AreFound, FoundBelow, IsFoundAs}
use Rattle.accepted_proof.proofs.Owners.{
  WritesAlone,
  WritesFat,
  WritesFresh,
  WritesHandle,
  WritesOpen,
  WritesShared,
  WritesStruct,
  WritesUnion,
  Writes,
  one_element,
}

-- ---- a type as it is written, whose missing regions aren't found yet

abbrev pub RegionBelow : ℕ → Option Region → Type 0
RegionBelow n None = Unit {0}
RegionBelow n (Some r) = Below n r

abbrev pub RegionsBelow : ℕ → List (Option Region) → Type 0
RegionsBelow n [] = Unit {0}
RegionsBelow n (r ∷ rs) = RegionBelow n r × RegionsBelow n rs

-- an object that a pointer may lead to, whose regions are missing or in scope: one that is no key
abbrev pub IsPartialObject : ℕ → PartialType → Type 0
IsPartialObject n Int = Unit {0}
IsPartialObject n Unsigned = Unit {0}
IsPartialObject n Char = Unit {0}
IsPartialObject n (Thin b r t) = RegionBelow n r × IsPartialObject n t
IsPartialObject n (Fat r t) = RegionBelow n r × IsPartialObject n t
IsPartialObject n (Unique b t) = IsPartialObject n t
IsPartialObject n (Struct tag rs) = RegionsBelow n rs
IsPartialObject n (Union tag rs) = RegionsBelow n rs
IsPartialObject n (Handle r) = RegionBelow n r
IsPartialObject n _ = ⊥

pub record WrittenObject (left_open : Bool) (n : ℕ) (t : TypeName) (p : PartialType) : Type 0 where
  pub object : IsPartialObject n p
  pub writes : Writes left_open (shapes.written t) p

-- a key's type, which no pointer stands behind
pub record WrittenKey (n : ℕ) (t : TypeName) (p : PartialType) : Type 0 where
  pub region : Option Region
  pub is : p ≡ Key region
  pub below : RegionBelow n region
  pub shape : shapes.written t ≡ shapes.KeyShape

-- what a type that is written is: an object, nothing, or a key
pub data IsWritten (left_open : Bool) (n : ℕ) (t : TypeName) (p : PartialType) : Type 0 where
  WritesObject : WrittenObject left_open n t p → IsWritten left_open n t p
  WritesNothing : IsVoidType t → p ≡ Void → IsWritten left_open n t p
  WritesKey : WrittenKey n t p → IsWritten left_open n t p

-- a pointer to an object is an object, and has the shape that is written
pub record IsPointed (left_open : Bool) (n : ℕ) (s : Shape) (p : PartialType) : Type 0 where
  pub object : IsPartialObject n p
  pub writes : Writes left_open s p

-- A pointer that no type has: a unique one that is fat or leads to several elements, and one to none.
abbrev pub IsNoCount : ℕ → Option tree.RegionName → Type 0
IsNoCount count (Some (tree.Unique at)) = (nat_eq count 1 ≡ false)
IsNoCount count r = (nat_eq count 0 ≡ true)

abbrev pub IsUniqueFat : Option tree.RegionName → Type 0
IsUniqueFat (Some (tree.Unique at)) = Unit {0}
IsUniqueFat r = ⊥

abbrev pub IsRefused : Sign → Option tree.RegionName → Type 0
IsRefused (sign.Nullable count) r = IsNoCount count r
IsRefused (sign.NotNull count) r = IsNoCount count r
IsRefused sign.Fat r = IsUniqueFat r

abbrev pub HasRefused : List Pointer → Type 0
HasRefused [] = ⊥
HasRefused (p ∷ ps) = IsRefused p.sign p.region ⊎ HasRefused ps

-- where it is none, this is why, and else it isn't so
abbrev pub PointedIfSome : Type 0 → Bool → ℕ → Shape → Option PartialType → Type 0
PointedIfSome why left_open n s None = why
PointedIfSome why left_open n s (Some p) = IsPointed left_open n s p × (why → ⊥)

-- the pointer to an object that a sign makes
abbrev fat_found : Found → PartialType → Option PartialType
fat_found (Is q) t = Some (Fat (Some q) t)
fat_found IsUnique t = None
fat_found Missing t = Some (Fat None t)

abbrev signed_found : Sign → Found → PartialType → Option PartialType
signed_found (sign.Nullable count) f t = thin_to (MayBeNull count) f t
signed_found (sign.NotNull count) f t = thin_to (NeverNull count) f t
signed_found sign.Fat f t = fat_found f t

pointer_is : (n : ℕ) (x : Sign) (f : Found) (t : PartialType) → IsPartialObject n t → pointer_to x f t ≡ signed_found x f t
pointer_is n x f Void w = absurd w
pointer_is n x f (Key r) w = absurd w
pointer_is n (sign.Nullable count) f t w = refl
pointer_is n (sign.NotNull count) f t w = refl
pointer_is n sign.Fat (Is q) t w = refl
pointer_is n sign.Fat IsUnique t w = refl
pointer_is n sign.Fat Missing t w = refl

-- one that leads to some elements
some_pointed : (left_open : Bool) (n : ℕ) (bound : Reach) (o : shapes.Owner) (q : Option Region) (p : PartialType) (s : Shape)
    → IsPointed left_open n (ThinShape bound o s) (Thin bound q p)
    → PointedIfSome (nat_eq (number_of bound) 0 ≡ true) left_open n (ThinShape bound o s)
    (if nat_eq (number_of bound) 0 then None else Some (Thin bound q p))
some_pointed left_open n bound o q p s w = by (nat_eq (number_of bound) 0) refl
  where
    by : (b : Bool) → nat_eq (number_of bound) 0 ≡ b
        → PointedIfSome (nat_eq (number_of bound) 0 ≡ true) left_open n (ThinShape bound o s) (if b then None else Some (Thin bound q p))
    by true e = e
    by false e = (w, λ u. false≢true (sym e ∙ u))

-- a unique one leads to one
alone_pointed : (left_open : Bool) (n : ℕ) (bound : Reach) (p : PartialType) (s : Shape) → IsPointed left_open n s p
    → PointedIfSome (nat_eq (number_of bound) 1 ≡ false) left_open n (ThinShape bound shapes.Alone s)
    (if nat_eq (number_of bound) 1 then Some (Unique (may_be_null bound) p) else None)
alone_pointed left_open n bound p s w = by (nat_eq (number_of bound) 1) refl
  where
    by : (b : Bool) → nat_eq (number_of bound) 1 ≡ b
        → PointedIfSome (nat_eq (number_of bound) 1 ≡ false) left_open n (ThinShape bound shapes.Alone s)
        (if b then Some (Unique (may_be_null bound) p) else None)
    by true e = (
      record {
        object = w.object;
        writes = subst (λ b. Writes left_open (ThinShape b shapes.Alone s) (Unique (may_be_null bound) p)) (sym (one_element bound e)) (WritesAlone w.writes);
      },
      λ u. false≢true (sym u ∙ e),
    )
    by false e = e

-- it is an object, of the shape that is written
thin_pointed : (left_open : Bool) (n : ℕ) (bound : Reach) (r : Option tree.RegionName) (f : Found) (p : PartialType) (s : Shape)
    → IsFoundAs left_open r f → FoundBelow n f → IsPointed left_open n s p
    → PointedIfSome (IsNoCount (number_of bound) r) left_open n (ThinShape bound (owner_of r) s) (thin_to bound f p)
thin_pointed left_open n b None (Is q) p s k h w =
    some_pointed left_open n b shapes.Unsaid (Some q) p s (record { object = (h, w.object); writes = WritesFresh k w.writes })
thin_pointed left_open n b None IsUnique p s k h w = absurd k
thin_pointed left_open n b None Missing p s k h w =
    some_pointed left_open n b shapes.Unsaid None p s (record { object = (tt, w.object); writes = WritesOpen k w.writes })
thin_pointed left_open n b (Some (tree.Heap at)) (Is q) p s k h w =
    some_pointed left_open n b shapes.Shared (Some q) p s (record { object = (h, w.object); writes = WritesShared w.writes })
thin_pointed left_open n b (Some (tree.Heap at)) IsUnique p s k h w = absurd k
thin_pointed left_open n b (Some (tree.Heap at)) Missing p s k h w = absurd k
thin_pointed left_open n b (Some (tree.Unique at)) (Is q) p s k h w = absurd k
thin_pointed left_open n b (Some (tree.Unique at)) IsUnique p s k h w = alone_pointed left_open n b p s w
thin_pointed left_open n b (Some (tree.Unique at)) Missing p s k h w = absurd k
thin_pointed left_open n b (Some (tree.Named x)) (Is q) p s k h w =
    some_pointed left_open n b shapes.Shared (Some q) p s (record { object = (h, w.object); writes = WritesShared w.writes })
thin_pointed left_open n b (Some (tree.Named x)) IsUnique p s k h w = absurd k
thin_pointed left_open n b (Some (tree.Named x)) Missing p s k h w = absurd k

unique_fat : (left_open : Bool) (r : Option tree.RegionName) → IsFoundAs left_open r IsUnique → IsUniqueFat r
unique_fat left_open None k = absurd k
unique_fat left_open (Some (tree.Heap at)) k = absurd k
unique_fat left_open (Some (tree.Unique at)) k = tt
unique_fat left_open (Some (tree.Named x)) k = absurd k

fat_pointed : (left_open : Bool) (n : ℕ) (r : Option tree.RegionName) (f : Found) (p : PartialType) (s : Shape) → IsFoundAs left_open r f → FoundBelow n f
    → IsPointed left_open n s p → PointedIfSome (IsUniqueFat r) left_open n (FatShape s) (fat_found f p)
fat_pointed left_open n r (Is q) p s k h w = (record { object = (h, w.object); writes = WritesFat w.writes }, never r k)
  where
    never : (r : Option tree.RegionName) → IsFoundAs left_open r (Is q) → IsUniqueFat r → ⊥
    never None k u = u
    never (Some (tree.Heap at)) k u = u
    never (Some (tree.Unique at)) k u = k
    never (Some (tree.Named x)) k u = u
fat_pointed left_open n r IsUnique p s k h w = unique_fat left_open r k
fat_pointed left_open n r Missing p s k h w = (record { object = (tt, w.object); writes = WritesFat w.writes }, never r k)
  where
    never : (r : Option tree.RegionName) → IsFoundAs left_open r Missing → IsUniqueFat r → ⊥
    never None k u = u
    never (Some (tree.Heap at)) k u = u
    never (Some (tree.Unique at)) k u = k
    never (Some (tree.Named x)) k u = u

signed_pointed : (left_open : Bool) (n : ℕ) (x : Sign) (r : Option tree.RegionName) (f : Found) (p : PartialType) (s : Shape) → IsFoundAs left_open r f
    → FoundBelow n f → IsPointed left_open n s p → PointedIfSome (IsRefused x r) left_open n (signed_shape x (owner_of r) s) (signed_found x f p)
signed_pointed left_open n (sign.Nullable count) r f p s k h w = thin_pointed left_open n (MayBeNull count) r f p s k h w
signed_pointed left_open n (sign.NotNull count) r f p s k h w = thin_pointed left_open n (NeverNull count) r f p s k h w
signed_pointed left_open n sign.Fat r f p s k h w = fat_pointed left_open n r f p s k h w

pub found_region : (n : ℕ) (f : Found) → FoundBelow n f → RegionBelow n (as_region f)
found_region n (Is q) b = b
found_region n IsUnique b = tt
found_region n Missing b = tt

-- a pointer to nothing is no type
pub no_pointer : (ps : List Pointer) (fs : List Found) → pointers_to ps fs None ≡ None
no_pointer [] fs = refl
no_pointer (p ∷ ps) [] = refl
no_pointer (p ∷ ps) (f ∷ fs) = refl

-- a pointer, and those after it
and_pointed : (left_open : Bool) (n : ℕ) (x : Pointer) (ps : List Pointer) (fs : List Found) (s z : Shape) (o : Option PartialType)
    → PointedIfSome (IsRefused x.sign x.region) left_open n s o
    → ((q : PartialType) → IsPointed left_open n s q → PointedIfSome (HasRefused ps) left_open n z (pointers_to ps fs (Some q)))
    → PointedIfSome (HasRefused (x ∷ ps)) left_open n z (pointers_to ps fs o)
and_pointed left_open n x ps fs s z None h rest = subst (λ q. PointedIfSome (HasRefused (x ∷ ps)) left_open n z q) (sym (no_pointer ps fs)) (inl h)
and_pointed left_open n x ps fs s z (Some p) h rest = by (pointers_to ps fs (Some p)) (rest p h.0)
  where
    by : (o : Option PartialType) → PointedIfSome (HasRefused ps) left_open n z o → PointedIfSome (HasRefused (x ∷ ps)) left_open n z o
    by None k = inr k
    by (Some q) k = (k.0, neither)
      where
        neither : HasRefused (x ∷ ps) → ⊥
        neither (inl u) = h.1 u
        neither (inr u) = k.1 u

-- pointers to an object make an object, one after another
pub all_pointed : (left_open : Bool) (n : ℕ) (ps : List Pointer) (fs : List Found) (p : PartialType) (s : Shape) → AreFound left_open n ps fs
    → IsPointed left_open n s p → PointedIfSome (HasRefused ps) left_open n (pointed ps s) (pointers_to ps fs (Some p))
all_pointed left_open n [] fs p s b h = (h, λ u. u)
all_pointed left_open n (x ∷ ps) [] p s b h = absurd b
all_pointed left_open n (x ∷ ps) (f ∷ fs) p s b h =
    and_pointed left_open n x ps fs (signed_shape x.sign (owner_of x.region) s) (pointed (x ∷ ps) s) (pointer_to x.sign f p)
    (subst (λ z. PointedIfSome (IsRefused x.sign x.region) left_open n (signed_shape x.sign (owner_of x.region) s) z) (sym (pointer_is n x.sign f p h.object))
    (signed_pointed left_open n x.sign x.region f p s b.0 b.1 h))
    (λ q k. all_pointed left_open n ps fs q (signed_shape x.sign (owner_of x.region) s) b.2 k)

-- all of these are in scope, or missing
abbrev pub AllFoundBelow : ℕ → List Found → Type 0
AllFoundBelow n [] = Unit {0}
AllFoundBelow n (f ∷ fs) = FoundBelow n f × AllFoundBelow n fs

found_regions : (n : ℕ) (fs : List Found) → AllFoundBelow n fs → RegionsBelow n (map as_region fs)
found_regions n [] h = tt
found_regions n (f ∷ fs) h = (found_region n f h.0, found_regions n fs h.1)

and_below : (n : ℕ) (fs : List Found) (f : Found) → AllFoundBelow n fs → FoundBelow n f → AllFoundBelow n (fs ++ f ∷ [])
and_below n [] f h k = (k, tt)
and_below n (g ∷ fs) f h k = (h.0, and_below n fs f h.1 k)

-- pointers to a struct with its region arguments
pub struct_pointed : (left_open : Bool) (n m : ℕ) (tag : List ℕ) (given : List Found) (ps : List Pointer) (fs : List Found) → AllFoundBelow n given
    → AreAllFound left_open n m ps fs → PointedIfSome (HasRefused ps) left_open n (pointed ps (StructShape tag)) (with_arguments m (Struct tag) given ps fs)
struct_pointed left_open n zero tag given ps fs a h =
    all_pointed left_open n ps fs (Struct tag (map as_region given)) (StructShape tag) h (record { object = found_regions n given a; writes = WritesStruct })
struct_pointed left_open n (suc m) tag given ps [] a h = absurd h
struct_pointed left_open n (suc m) tag given ps (f ∷ fs) a h = struct_pointed left_open n m tag (given ++ f ∷ []) ps fs (and_below n given f a h.0) h.1

-- and to a union
pub union_pointed : (left_open : Bool) (n m : ℕ) (tag : List ℕ) (given : List Found) (ps : List Pointer) (fs : List Found) → AllFoundBelow n given
    → AreAllFound left_open n m ps fs → PointedIfSome (HasRefused ps) left_open n (pointed ps (UnionShape tag)) (with_arguments m (Union tag) given ps fs)
union_pointed left_open n zero tag given ps fs a h =
    all_pointed left_open n ps fs (Union tag (map as_region given)) (UnionShape tag) h (record { object = found_regions n given a; writes = WritesUnion })
union_pointed left_open n (suc m) tag given ps [] a h = absurd h
union_pointed left_open n (suc m) tag given ps (f ∷ fs) a h = union_pointed left_open n m tag (given ++ f ∷ []) ps fs (and_below n given f a h.0) h.1

-- pointers to a handle of a region
pub handle_pointed : (left_open : Bool) (n : ℕ) (r : tree.RegionName) (m : ℕ) (ps : List Pointer) (fs : List Found) → AreAllFound left_open n 1 ps fs
    → PointedIfSome (HasRefused ps) left_open n (pointed ps HandleShape) (built (tree.Handle r) m ps fs)
handle_pointed left_open n r m ps [] h = absurd h
handle_pointed left_open n r m ps (f ∷ fs) h =
    all_pointed left_open n ps fs (Handle (as_region f)) HandleShape h.1 (record { object = found_region n f h.0; writes = WritesHandle })
