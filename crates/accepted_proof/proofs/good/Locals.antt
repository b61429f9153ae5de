-- The type of a local, where it has no fault: an object's, whose region names are in scope, with the shape that is written. A missing region is
-- that of its initializer, or the heap.
use Rattle.std.proofs.Common.{nat_eq, ◌≡◌, ℕ, Bool, true, false, Option, Some, None, List, [], ◌∷◌, refl, sym, subst, ap, ◌∙◌}
use Rattle.std.specs.Prelude.{◌&&◌, ◌||◌, ◌++◌, bytes_eq, if◌then◌else◌, is_none, map}
use Rattle.std.proofs.lemmas.Bool.{and_parts}
use Rattle.cyc_tree.specs.declared.name.Sign.{Sign}
use Rattle.cyc_tree.specs.declared.name.Sign.TheVariants as sign
use Rattle.cyc_tree.specs.Tree as tree
use Rattle.cyc_tree.specs.Tree.{TypeName}
use Rattle.source_meaning.specs.Shapes as shapes
use Rattle.type_proof.specs.Entries.{IsObjectType}
use Rattle.source_typing.specs.Named.{AllBelow, Below, TypeBelow}
use Rattle.type_proof.proofs.expressions.Fixed.{PartBelow, same_below, union_below}
use Rattle.source_typing.specs.Declarations.{can_be, fitting, fitting_local, if_sized, local_type, misses_region, set_type, taken_from, type_in_scope}
use Rattle.source_typing.specs.Declarations.{tags_in_scope, unset_type}
use Rattle.source_typing.specs.Extents.{fits_bytes, variable_size}
use Rattle.source_typing.specs.Missing.{alone_with, arguments_of, as_type, fat_with, filled_arguments, filled_from, or_found, outer_region, pointee_of, settled}
use Rattle.source_typing.specs.Missing.{thin_with}
use Rattle.source_typing.specs.Missing.{unique_with}
use Rattle.source_typing.specs.Regions.{Region, TheHeap}
use Rattle.source_typing.specs.Scope.{Env, Value, in_scope}
use Rattle.source_typing.specs.Tables.{has_beginning, or_heap}
use Rattle.source_typing.specs.Types.{Handle, Char, Fat, Int, Key, PartialType, StaticType, Struct, Thin, Union, Unique, Unsigned, Void, shape_of}
use Rattle.source_typing.specs.Verdicts.{Of, after, if_fits}
use Rattle.source_typing.specs.Written.{Found, Is, IsUnique, Missing, Spot, any_missing, base_spots, spot}
use Rattle.accepted_proof.specs.Good.{IsGood, IsValueType, Surely}
use Rattle.accepted_proof.proofs.Sure.{surely_after, surely_also}
use Rattle.accepted_proof.proofs.good.Operators.{object_value}
use Rattle.accepted_proof.proofs.FoundRegions.{FoundBelow}
use Rattle.accepted_proof.proofs.good.Pointers.{IsPartialObject, IsWritten, RegionBelow, RegionsBelow, WritesKey, WritesNothing, WritesObject}
use Rattle.accepted_proof.proofs.good.Pointers.{WrittenKey, WrittenObject}
use Rattle.accepted_proof.proofs.good.Types.{good_tags, scope_written, tagged_known}
use Rattle.accepted_proof.proofs.Owners.{IsSaid, ShapedIfSome, Writes, filled_shaped, said_alone, settled_alone_is, settled_from}

-- ---- missing regions

-- a type that they are taken from, where there is one
abbrev pub SourceBelow : (count : ℕ) → (source : Option StaticType) → Type 0
SourceBelow n None = Unit {0}
SourceBelow n (Some t) = IsValueType t × TypeBelow n t

outer_below : (n : ℕ) (s : Option StaticType) → SourceBelow n s → FoundBelow n (outer_region s)
outer_below n (Some (Thin b r t)) h = h.1.0
outer_below n (Some (Fat r t)) h = h.1.0
outer_below n (Some (Unique b t)) h = tt
outer_below n _ h = tt

pointee_below : (n : ℕ) (s : Option StaticType) → SourceBelow n s → SourceBelow n (pointee_of s)
pointee_below n (Some (Thin b r t)) h = (object_value t h.0, h.1.1)
pointee_below n (Some (Fat r t)) h = (object_value t h.0, h.1.1)
pointee_below n (Some (Unique b t)) h = (object_value t h.0, h.1)
pointee_below n _ h = tt

or_below : (n : ℕ) (r : Option Region) (f : Found) → RegionBelow n r → FoundBelow n f → FoundBelow n (or_found r f)
or_below n (Some r) f h k = h
or_below n None f h k = k

-- an object with all its regions
record IsFilled (n : ℕ) (t : StaticType) : Type 0 where
  object : IsObjectType t
  below : TypeBelow n t

-- a fat pointer that would be unique is no type
abbrev FilledIfSome : (count : ℕ) → Option StaticType → Type 0
FilledIfSome n None = Unit {0}
FilledIfSome n (Some t) = IsFilled n t

alone_filled_one : (n : ℕ) (one : Bool) (b : shapes.Reach) (t : StaticType) → FilledIfSome n (Some t) → FilledIfSome n (alone_with one b t)
alone_filled_one n true b t h = record { object = h.object; below = h.below }
alone_filled_one n false b t h = tt

thin_filled : (n : ℕ) (b : shapes.Reach) (f : Found) (o : Option StaticType) → FoundBelow n f → FilledIfSome n o → FilledIfSome n (thin_with b f o)
thin_filled n b (Is q) None h k = tt
thin_filled n b IsUnique None h k = tt
thin_filled n b Missing None h k = tt
thin_filled n b (Is q) (Some t) h k = record { object = k.object; below = (h, k.below) }
thin_filled n b IsUnique (Some t) h k = alone_filled_one n (nat_eq (shapes.number_of b) 1) b t k
thin_filled n b Missing (Some t) h k = record { object = k.object; below = (tt, k.below) }

fat_filled : (n : ℕ) (f : Found) (o : Option StaticType) → FoundBelow n f → FilledIfSome n o → FilledIfSome n (fat_with f o)
fat_filled n (Is q) None h k = tt
fat_filled n IsUnique None h k = tt
fat_filled n Missing None h k = tt
fat_filled n (Is q) (Some t) h k = record { object = k.object; below = (h, k.below) }
fat_filled n IsUnique (Some t) h k = tt
fat_filled n Missing (Some t) h k = record { object = k.object; below = (tt, k.below) }

unique_filled : (n : ℕ) (b : Bool) (o : Option StaticType) → FilledIfSome n o → FilledIfSome n (unique_with b o)
unique_filled n b None k = tt
unique_filled n b (Some t) k = record { object = k.object; below = k.below }

-- region arguments, of which those that are missing are others at the same place, or the heap
arguments_filled : (n : ℕ) (rs : List (Option Region)) (others : List Region) → RegionsBelow n rs → AllBelow n others → AllBelow n (filled_arguments rs others)
arguments_filled n [] others h k = tt
arguments_filled n (Some r ∷ rs) [] h k = (h.0, arguments_filled n rs [] h.1 tt)
arguments_filled n (None ∷ rs) [] h k = (tt, arguments_filled n rs [] h.1 tt)
arguments_filled n (Some r ∷ rs) (q ∷ others) h k = (h.0, arguments_filled n rs others h.1 k.1)
arguments_filled n (None ∷ rs) (q ∷ others) h k = (k.0, arguments_filled n rs others h.1 k.1)

pub heap_below : (n : ℕ) (r : Option Region) → RegionBelow n r → Below n (or_heap r)
heap_below n None h = tt
heap_below n (Some r) h = h

part_below : (n : ℕ) (s : Option StaticType) → SourceBelow n s → PartBelow n s
part_below n None h = tt
part_below n (Some t) h = h.1

filled_object : (n : ℕ) (p : PartialType) (s : Option StaticType) → IsPartialObject n p → SourceBelow n s → FilledIfSome n (filled_from p s)
filled_object n Int s h k = record { object = tt; below = tt }
filled_object n Unsigned s h k = record { object = tt; below = tt }
filled_object n Char s h k = record { object = tt; below = tt }
filled_object n (Thin b r t) s h k =
    thin_filled n b (or_found r (outer_region s)) (filled_from t (pointee_of s)) (or_below n r (outer_region s) h.0 (outer_below n s k))
    (filled_object n t (pointee_of s) h.1 (pointee_below n s k))
filled_object n (Fat r t) s h k =
    fat_filled n (or_found r (outer_region s)) (filled_from t (pointee_of s)) (or_below n r (outer_region s) h.0 (outer_below n s k))
    (filled_object n t (pointee_of s) h.1 (pointee_below n s k))
filled_object n (Unique b t) s h k = unique_filled n b (filled_from t (pointee_of s)) (filled_object n t (pointee_of s) h (pointee_below n s k))
filled_object n (Struct tag rs) s h k =
    record { object = tt; below = arguments_filled n rs (arguments_of false tag s) h (same_below n tag s (part_below n s k)) }
filled_object n (Union tag rs) s h k =
    record { object = tt; below = arguments_filled n rs (arguments_of true tag s) h (union_below n tag s (part_below n s k)) }
filled_object n (Handle r) s h k = record { object = tt; below = heap_below n r h }
filled_object n _ s h k = absurd h

-- an object, whose missing regions are found, of the shape that is written
pub record IsSettled (n : ℕ) (w : shapes.Shape) (s : Option StaticType) (t : StaticType) : Type 0 where
  pub object : IsObjectType t
  pub below : TypeBelow n t
  pub shape : settled_from w s ≡ shape_of t

pub object_settled : (left_open : Bool) (n at : ℕ) (w : shapes.Shape) (p : PartialType) (s : Option StaticType) → (left_open ≡ false → s ≡ None)
    → IsPartialObject n p → Writes left_open w p → SourceBelow n s → Surely (λ t. IsSettled n w s t) (settled at p s)
object_settled left_open n at w p s none h e k = by (filled_from p s) (filled_object n p s h k) (filled_shaped s none e)
  where
    by : (o : Option StaticType) → FilledIfSome n o → ShapedIfSome (settled_from w s) o → Surely (λ t. IsSettled n w s t) (as_type at o)
    by None h q = tt
    by (Some t) h q = record { object = h.object; below = h.below; shape = q }

-- where no other type is taken from, there is no such fat pointer
pub record FilledAlone (p : PartialType) : Type 0 where
  pub type : StaticType
  pub is : filled_from p None ≡ Some type

pub alone_filled : (n : ℕ) (p : PartialType) → IsPartialObject n p → FilledAlone p
alone_filled n Int h = record { type = Int; is = refl }
alone_filled n Unsigned h = record { type = Unsigned; is = refl }
alone_filled n Char h = record { type = Char; is = refl }
alone_filled n (Thin b None t) h =
    let k : FilledAlone t = alone_filled n t h.1 in record { type = Thin b TheHeap k.type; is = ap (λ (o : Option StaticType). thin_with b Missing o) k.is }
alone_filled n (Thin b (Some r) t) h =
    let k : FilledAlone t = alone_filled n t h.1 in record { type = Thin b r k.type; is = ap (λ (o : Option StaticType). thin_with b (Is r) o) k.is }
alone_filled n (Fat None t) h =
    let k : FilledAlone t = alone_filled n t h.1 in record { type = Fat TheHeap k.type; is = ap (λ (o : Option StaticType). fat_with Missing o) k.is }
alone_filled n (Fat (Some r) t) h =
    let k : FilledAlone t = alone_filled n t h.1 in record { type = Fat r k.type; is = ap (λ (o : Option StaticType). fat_with (Is r) o) k.is }
alone_filled n (Unique b t) h =
    let k : FilledAlone t = alone_filled n t h in record { type = Unique b k.type; is = ap (λ (o : Option StaticType). unique_with b o) k.is }
alone_filled n (Struct tag rs) h = record { type = Struct tag (filled_arguments rs []); is = refl }
alone_filled n (Union tag rs) h = record { type = Union tag (filled_arguments rs []); is = refl }
alone_filled n (Handle r) h = record { type = Handle (or_heap r); is = refl }
alone_filled n _ h = absurd h

pub alone_settled : (left_open : Bool) (n : ℕ) (w : shapes.Shape) (p : PartialType) (t : StaticType) → IsPartialObject n p → Writes left_open w p
    → filled_from p None ≡ Some t → IsSettled n w None t
alone_settled left_open n w p t h k e =
    subst (λ (o : Option StaticType). Surely (λ u. IsSettled n w None u) (as_type 0 o)) e (object_settled left_open n 0 w p None (λ q. refl) h k tt)

-- ---- types of variables

-- what fits is the type itself
pub record IsFitting (g : Env) (count : Option ℕ) (fits : Bool) (t u : StaticType) : Type 0 where
  pub same : u ≡ t
  pub fits_it : fits ≡ true
  pub can : can_be g count t ≡ true

pub fitting_is : (g : Env) (at : ℕ) (count : Option ℕ) (fits : Bool) (t : StaticType) → Surely (λ u. IsFitting g count fits t u) (fitting g at count fits t)
fitting_is g at count fits t = by (fits && can_be g count t) refl (fits_bytes (variable_size g.tables count t))
  where
    by : (b : Bool) → fits && can_be g count t ≡ b → (c : Bool) → Surely (λ u. IsFitting g count fits t u) (after (if_fits b at t) (if_sized c at))
    by true e true = let a = and_parts fits (can_be g count t) e in record { same = refl; fits_it = a.0; can = a.1 }
    by true e false = tt
    by false e c = tt

-- the type of a local without fault; with an initializer, or with a beginning
pub record IsLocalType (g : Env) (of : TypeName) (set : Bool) (s : Option StaticType) (t : StaticType) : Type 0 where
  pub object : IsObjectType t
  pub below : TypeBelow g.regions.count t
  pub shape : settled_from (shapes.written of) s ≡ shape_of t
  pub begins : set || has_beginning g.tables t ≡ true

object_local : (g : Env) (of : TypeName) (at : ℕ) (count : Option ℕ) (set : Bool) (s : Option StaticType) (p : PartialType)
    → WrittenObject true g.regions.count of p → SourceBelow g.regions.count s
    → Surely (λ t. IsLocalType g of set s t) (local_type g at count set s p)
object_local g of at count set s p w k =
    surely_after (λ t. IsSettled g.regions.count (shapes.written of) s t) (λ t. IsLocalType g of set s t) (settled at p s) (fitting_local g at count set)
    (object_settled true g.regions.count at (shapes.written of) p s (λ e. absurd cc) w.object w.writes k)
    (λ t f. surely_also (λ u. IsFitting g count (set || has_beginning g.tables t) t u) (λ u. IsLocalType g of set s u) (fitting_local g at count set t)
    (fitting_is g at count (set || has_beginning g.tables t) t)
    (λ u h. subst (λ z. IsLocalType g of set s z) (sym h.same) (record {
      object = f.object;
      below = f.below;
      shape = f.shape;
      begins = h.fits_it;
    })))

-- `void` is no variable's type, and no array's elements'
nothing_local : (g : Env) (of : TypeName) (at : ℕ) (count : Option ℕ) (set : Bool) (s : Option StaticType)
    → Surely (λ t. IsLocalType g of set s t) (local_type g at count set s Void)
nothing_local g of at count set s =
    surely_also (λ u. IsFitting g count (set || has_beginning g.tables Void) Void u) (λ u. IsLocalType g of set s u) (fitting_local g at count set Void)
    (fitting_is g at count (set || has_beginning g.tables Void) Void) (λ u h. absurd (no count h.can))
  where
    no : (count : Option ℕ) → can_be g count Void ≡ true → ⊥
    no None e = cc
    no (Some n) e = cc

-- a key is, where it has an initializer
key_local : (g : Env) (of : TypeName) (at : ℕ) (count : Option ℕ) (set : Bool) (s : Option StaticType) (p : PartialType)
    → WrittenKey g.regions.count of p → Surely (λ t. IsLocalType g of set s t) (local_type g at count set s p)
key_local g of at count set s p w =
    let t : StaticType = Key (or_heap w.region) in
    subst (λ z. Surely (λ t. IsLocalType g of set s t) (local_type g at count set s z)) (sym w.is)
    (surely_also (λ u. IsFitting g count (set || has_beginning g.tables t) t u) (λ u. IsLocalType g of set s u) (fitting_local g at count set t)
    (fitting_is g at count (set || has_beginning g.tables t) t)
    (λ u h. subst (λ z. IsLocalType g of set s z) (sym h.same) (record {
      object = tt;
      below = heap_below g.regions.count w.region w.below;
      shape = ap (λ q. settled_from q s) w.shape;
      begins = h.fits_it;
    })))

local_good : (g : Env) (of : TypeName) (at : ℕ) (count : Option ℕ) (set : Bool) (s : Option StaticType) (p : PartialType)
    → IsWritten true g.regions.count of p → SourceBelow g.regions.count s
    → Surely (λ t. IsLocalType g of set s t) (local_type g at count set s p)
local_good g of at count set s p (WritesObject w) k = object_local g of at count set s p w k
local_good g of at count set s p (WritesKey w) k = key_local g of at count set s p w
local_good g of at count set s p (WritesNothing v e) k =
    subst (λ z. Surely (λ t. IsLocalType g of set s t) (local_type g at count set s z)) (sym e) (nothing_local g of at count set s)

-- ---- types of locals

-- a local, or an array of so many elements
pub unset_good : (g : Env) (t : TypeName) (count : Option ℕ) → IsGood g → Surely (λ u. IsLocalType g t false None u) (unset_type g t count)
unset_good g t count h =
    surely_after (λ p. IsWritten true g.regions.count t p) (λ u. IsLocalType g t false None u) (type_in_scope g t) (local_type g t.at count false None)
    (scope_written g.regions.count (tags_in_scope g) g.names t (tagged_known (in_scope g) (good_tags g.regions.count (in_scope g) h.names)) h.regions)
    (λ p w. local_good g t t.at count false None p w tt)

-- a type of which no region is missing
pointers_said : (ps : List tree.Pointer) (s : shapes.Shape) → any_missing (map (λ (p : tree.Pointer). spot true p.region) ps) ≡ false → IsSaid s
    → IsSaid (shapes.pointed ps s)
pointers_said [] s e h = h
pointers_said (p ∷ ps) s e h =
    pointers_said ps (shapes.signed_shape p.sign (shapes.owner_of p.region) s) (rest (is_none p.region) e) (by p.sign p.region e)
  where
    missing : Bool
    missing = any_missing (map (λ (p : tree.Pointer). spot true p.region) ps)

    rest : (b : Bool) → b || missing ≡ false → missing ≡ false
    rest true e = absurd cc
    rest false e = e

    owned : (r : Option tree.RegionName) → is_none r || missing ≡ false → shapes.owner_of r ≡ shapes.Unsaid → ⊥
    owned None e q = cc
    owned (Some (tree.Heap at)) e q = cc
    owned (Some (tree.Unique at)) e q = cc
    owned (Some (tree.Named x)) e q = cc

    by : (x : Sign) (r : Option tree.RegionName) → is_none r || missing ≡ false → IsSaid (shapes.signed_shape x (shapes.owner_of r) s)
    by (sign.Nullable count) r e = (λ q. owned r e q, h)
    by (sign.NotNull count) r e = (λ q. owned r e q, h)
    by sign.Fat r e = h

base_said : (b : tree.Base) → IsSaid (shapes.base_shape b)
base_said tree.Int = tt
base_said tree.Unsigned = tt
base_said tree.Char = tt
base_said tree.Void = tt
base_said (tree.Struct tag rs) = tt
base_said (tree.Union tag rs) = tt
base_said (tree.Handle r) = tt
base_said (tree.Key r) = tt

later_missing : (ss zs : List Spot) → any_missing (ss ++ zs) ≡ false → any_missing zs ≡ false
later_missing [] zs e = e
later_missing (s ∷ ss) zs e = later_missing ss zs (by (is_none s.written) e)
  where
    by : (b : Bool) → b || any_missing (ss ++ zs) ≡ false → any_missing (ss ++ zs) ≡ false
    by true e = absurd cc
    by false e = e

none_missing : (g : Env) (of : TypeName) → misses_region g of ≡ false → IsSaid (shapes.written of)
none_missing g of e =
    pointers_said of.pointers (shapes.base_shape of.base)
    (later_missing (base_spots (tags_in_scope g) of.base) (map (λ (p : tree.Pointer). spot true p.region) of.pointers) e) (base_said of.base)

from_good : (g : Env) (of : TypeName) (b : Bool) (v : Value) (p : PartialType) → misses_region g of ≡ b → SourceBelow g.regions.count (Some v.type)
    → IsWritten true g.regions.count of p
    → Surely (λ u. IsLocalType g of true (Some v.type) u) (taken_from g of.at b (Of v) p)
from_good g of true v p e k w = local_good g of of.at None true (Some v.type) p w k
from_good g of false v p e k w =
    surely_also (λ u. IsLocalType g of true None u) (λ u. IsLocalType g of true (Some v.type) u) (local_type g of.at None true None p)
    (local_good g of of.at None true None p w tt)
    (λ u h. record {
      object = h.object;
      below = h.below;
      shape = said_alone (shapes.written of) (shape_of v.type) (none_missing g of e) ∙ (sym (settled_alone_is (shapes.written of)) ∙ h.shape);
      begins = h.begins;
    })

pub set_good : (g : Env) (t : TypeName) (v : Value) → IsGood g → IsValueType v.type → TypeBelow g.regions.count v.type
    → Surely (λ u. IsLocalType g t true (Some v.type) u) (set_type g t (Of v))
set_good g t v h k b =
    surely_after (λ p. IsWritten true g.regions.count t p) (λ u. IsLocalType g t true (Some v.type) u) (type_in_scope g t)
    (taken_from g t.at (misses_region g t) (Of v))
    (scope_written g.regions.count (tags_in_scope g) g.names t (tagged_known (in_scope g) (good_tags g.regions.count (in_scope g) h.names)) h.regions)
    (λ p w. from_good g t (misses_region g t) v p refl (k, b) w)

-- ---- beginnings

pub local_begins : (g : Env) (of : TypeName) (t : StaticType) → IsLocalType g of false None t → has_beginning g.tables t ≡ true
local_begins g of t h = h.begins

-- ---- shapes

-- that of a local without an initializer
pub unset_shape : (g : Env) (of : TypeName) (t : StaticType) → IsLocalType g of false None t → shapes.settled (shapes.written of) ≡ shape_of t
unset_shape g of t h = sym (settled_alone_is (shapes.written of)) ∙ h.shape
