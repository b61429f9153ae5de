-- What the region variables of a call stand for: regions that are in scope where the call is.
use Rattle.std.proofs.Common.{◌≡◌, ℕ, zero, suc, Bool, true, false, Option, Some, None, List, [], ◌∷◌, sym, subst}
use Rattle.std.specs.Prelude.{map, ◌++◌, ◌&&◌, slice_get, bytes_eq, if◌then◌else◌}
use Rattle.source_typing.specs.Regions.{TheHeap, Level, same_id}
use Rattle.source_typing.specs.Scope.{Env, Enclosing, InRegion, InUnique, NotKnown, Value}
use Rattle.source_typing.specs.Fixing.{Fit, fit, fit_all, fits_of, all_fits, first_fit, fixed_by, fixed_one, fixed_from, is_found, more}
use Rattle.source_typing.specs.Missing.{arguments_of, pointee_of, outer_region}
use Rattle.source_typing.specs.Tables.{argument, or_heap}
use Rattle.source_typing.specs.Types.{StaticType, Int, Unsigned, Char, Void, Null, Thin, Fat, Unique, Handle, Key, Struct, Union, renamed}
use Rattle.source_typing.specs.Verdicts.{Of}
use Rattle.source_typing.specs.Written.{Found, Is, IsUnique, Missing}
use Rattle.source_typing.proofs.Inversion.{of_is, both_is}
use Rattle.type_proof.specs.Entries.{IsObjectType, IsPlain, AreObjects}
use Rattle.source_typing.specs.Named.{Below, AllBelow, TypeBelow}
use Rattle.type_proof.proofs.invariant.Names.{NameOf}

-- ---- regions in place of region variables

listed_below : (n : ℕ) (rs : List NameOf) (k : ℕ) → AllBelow n rs → Below n (or_heap (slice_get rs k))
listed_below n [] k h = tt
listed_below n (r ∷ rs) zero h = h.0
listed_below n (r ∷ rs) (suc k) h = listed_below n rs k h.1

pub argument_below : (n : ℕ) (rs : List NameOf) (a : NameOf) → AllBelow n rs → Below n (argument rs a)
argument_below n rs TheHeap h = tt
argument_below n rs (Level k) h = listed_below n rs k h

pub arguments_below : (n : ℕ) (rs qs : List NameOf) → AllBelow n rs → AllBelow n (map (argument rs) qs)
arguments_below n rs [] h = tt
arguments_below n rs (q ∷ qs) h = (argument_below n rs q h, arguments_below n rs qs h)

pub object_below : (n : ℕ) (rs : List NameOf) (t : StaticType) → IsObjectType t → AllBelow n rs → TypeBelow n (renamed (argument rs) t)
object_below n rs Int e h = tt
object_below n rs Unsigned e h = tt
object_below n rs Char e h = tt
object_below n rs Void e h = tt
object_below n rs Null e h = tt
object_below n rs (Thin c r t) e h = (argument_below n rs r h, object_below n rs t e h)
object_below n rs (Fat r t) e h = (argument_below n rs r h, object_below n rs t e h)
object_below n rs (Unique c t) e h = object_below n rs t e h
object_below n rs (Handle r) e h = argument_below n rs r h
object_below n rs (Key r) e h = argument_below n rs r h
object_below n rs (Struct tag qs) e h = arguments_below n rs qs h
object_below n rs (Union tag qs) e h = arguments_below n rs qs h

pub plain_below : (n : ℕ) (rs : List NameOf) (t : StaticType) → IsPlain t → AllBelow n rs → TypeBelow n (renamed (argument rs) t)
plain_below n rs Int e h = tt
plain_below n rs Unsigned e h = tt
plain_below n rs Char e h = tt
plain_below n rs Void e h = tt
plain_below n rs Null e h = tt
plain_below n rs (Thin c r t) e h = object_below n rs (Thin c r t) e h
plain_below n rs (Fat r t) e h = object_below n rs (Fat r t) e h
plain_below n rs (Unique c t) e h = object_below n rs (Unique c t) e h
plain_below n rs (Handle r) e h = object_below n rs (Handle r) e h
plain_below n rs (Key r) e h = object_below n rs (Key r) e h
plain_below n rs (Struct tag qs) e h = object_below n rs (Struct tag qs) e h
plain_below n rs (Union tag qs) e h = object_below n rs (Union tag qs) e h

-- ---- what fixes them

abbrev FoundBelow : ℕ → Found → Type 0
FoundBelow n (Is r) = Below n r
FoundBelow n IsUnique = Unit {0}
FoundBelow n Missing = Unit {0}

abbrev FitsBelow : ℕ → List Fit → Type 0
FitsBelow n [] = Unit {0}
FitsBelow n (f ∷ fs) = FoundBelow n f.is × FitsBelow n fs

abbrev FitBelow : ℕ → Option Fit → Type 0
FitBelow n None = Unit {0}
FitBelow n (Some f) = FoundBelow n f.is

abbrev pub PartBelow : ℕ → Option StaticType → Type 0
PartBelow n None = Unit {0}
PartBelow n (Some t) = TypeBelow n t

both_below : (n : ℕ) (fs hs : List Fit) → FitsBelow n fs → FitsBelow n hs → FitsBelow n (fs ++ hs)
both_below n [] hs a b = b
both_below n (f ∷ fs) hs a b = (a.0, both_below n fs hs a.1 b)

pointee_below : (n : ℕ) (u : Option StaticType) → PartBelow n u → PartBelow n (pointee_of u)
pointee_below n None h = tt
pointee_below n (Some Int) h = tt
pointee_below n (Some Unsigned) h = tt
pointee_below n (Some Char) h = tt
pointee_below n (Some Void) h = tt
pointee_below n (Some Null) h = tt
pointee_below n (Some (Thin c r t)) h = h.1
pointee_below n (Some (Fat r t)) h = h.1
pointee_below n (Some (Unique c t)) h = h
pointee_below n (Some (Handle r)) h = tt
pointee_below n (Some (Key r)) h = tt
pointee_below n (Some (Struct tag rs)) h = tt
pointee_below n (Some (Union tag rs)) h = tt

outer_below : (n : ℕ) (u : Option StaticType) → PartBelow n u → FoundBelow n (outer_region u)
outer_below n None h = tt
outer_below n (Some Int) h = tt
outer_below n (Some Unsigned) h = tt
outer_below n (Some Char) h = tt
outer_below n (Some Void) h = tt
outer_below n (Some Null) h = tt
outer_below n (Some (Thin c r t)) h = h.0
outer_below n (Some (Fat r t)) h = h.0
outer_below n (Some (Unique c t)) h = tt
outer_below n (Some (Handle r)) h = tt
outer_below n (Some (Key r)) h = tt
outer_below n (Some (Struct tag rs)) h = tt
outer_below n (Some (Union tag rs)) h = tt

-- the region arguments of a struct fix those at the same place
fit_below : (n at : ℕ) (rs qs : List NameOf) → AllBelow n qs → FitsBelow n (fit_all at rs qs)
fit_below n at [] qs h = tt
fit_below n at (r ∷ rs) [] h = tt
fit_below n at (r ∷ rs) (q ∷ qs) h = (h.0, fit_below n at rs qs h.1)

pub same_below : (n : ℕ) (tag : List ℕ) (u : Option StaticType) → PartBelow n u → AllBelow n (arguments_of false tag u)
same_below n tag None h = tt
same_below n tag (Some Int) h = tt
same_below n tag (Some Unsigned) h = tt
same_below n tag (Some Char) h = tt
same_below n tag (Some Void) h = tt
same_below n tag (Some Null) h = tt
same_below n tag (Some (Thin c r t)) h = tt
same_below n tag (Some (Fat r t)) h = tt
same_below n tag (Some (Unique c t)) h = tt
same_below n tag (Some (Handle r)) h = tt
same_below n tag (Some (Key r)) h = tt
same_below n tag (Some (Struct other rs)) h = by (bytes_eq tag other)
  where
    by : (c : Bool) → AllBelow n (if c then rs else [])
    by true = h
    by false = tt
same_below n tag (Some (Union other rs)) h = tt

-- and so of a union
pub union_below : (n : ℕ) (tag : List ℕ) (u : Option StaticType) → PartBelow n u → AllBelow n (arguments_of true tag u)
union_below n tag None h = tt
union_below n tag (Some Int) h = tt
union_below n tag (Some Unsigned) h = tt
union_below n tag (Some Char) h = tt
union_below n tag (Some Void) h = tt
union_below n tag (Some Null) h = tt
union_below n tag (Some (Thin c r t)) h = tt
union_below n tag (Some (Fat r t)) h = tt
union_below n tag (Some (Unique c t)) h = tt
union_below n tag (Some (Handle r)) h = tt
union_below n tag (Some (Key r)) h = tt
union_below n tag (Some (Struct other rs)) h = tt
union_below n tag (Some (Union other rs)) h = by (bytes_eq tag other)
  where
    by : (c : Bool) → AllBelow n (if c then rs else [])
    by true = h
    by false = tt

-- a handle's region fixes its parameter's
handle_below : (n at : ℕ) (r : NameOf) (u : Option StaticType) → PartBelow n u → FitsBelow n (fits_of at (Handle r) u)
handle_below n at r None h = tt
handle_below n at r (Some Int) h = tt
handle_below n at r (Some Unsigned) h = tt
handle_below n at r (Some Char) h = tt
handle_below n at r (Some Void) h = tt
handle_below n at r (Some Null) h = tt
handle_below n at r (Some (Thin c q t)) h = tt
handle_below n at r (Some (Fat q t)) h = tt
handle_below n at r (Some (Unique c t)) h = tt
handle_below n at r (Some (Handle q)) h = (h, tt)
handle_below n at r (Some (Key q)) h = tt
handle_below n at r (Some (Struct tag rs)) h = tt
handle_below n at r (Some (Union tag rs)) h = tt

-- and so does a key's
key_below : (n at : ℕ) (r : NameOf) (u : Option StaticType) → PartBelow n u → FitsBelow n (fits_of at (Key r) u)
key_below n at r None h = tt
key_below n at r (Some Int) h = tt
key_below n at r (Some Unsigned) h = tt
key_below n at r (Some Char) h = tt
key_below n at r (Some Void) h = tt
key_below n at r (Some Null) h = tt
key_below n at r (Some (Thin c q t)) h = tt
key_below n at r (Some (Fat q t)) h = tt
key_below n at r (Some (Unique c t)) h = tt
key_below n at r (Some (Handle q)) h = tt
key_below n at r (Some (Key q)) h = (h, tt)
key_below n at r (Some (Struct tag rs)) h = tt
key_below n at r (Some (Union tag rs)) h = tt

fits_below : (n at : ℕ) (t : StaticType) (u : Option StaticType) → IsObjectType t → PartBelow n u → FitsBelow n (fits_of at t u)
fits_below n at Int u e h = tt
fits_below n at Unsigned u e h = tt
fits_below n at Char u e h = tt
fits_below n at Void u e h = absurd e
fits_below n at Null u e h = absurd e
fits_below n at (Thin c r t) u e h =
    both_below n (fits_of at t (pointee_of u)) (fit at r (outer_region u) ∷ []) (fits_below n at t (pointee_of u) e (pointee_below n u h))
    (outer_below n u h, tt)
fits_below n at (Fat r t) u e h =
    both_below n (fits_of at t (pointee_of u)) (fit at r (outer_region u) ∷ []) (fits_below n at t (pointee_of u) e (pointee_below n u h))
    (outer_below n u h, tt)
fits_below n at (Unique c t) u e h = fits_below n at t (pointee_of u) e (pointee_below n u h)
fits_below n at (Handle r) u e h = handle_below n at r u h
fits_below n at (Key r) u e h = key_below n at r u h
fits_below n at (Struct tag rs) u e h = fit_below n at rs (arguments_of false tag u) (same_below n tag u h)
fits_below n at (Union tag rs) u e h = fit_below n at rs (arguments_of true tag u) (union_below n tag u h)

-- the arguments' types name regions in scope
abbrev pub ValuesBelow : ℕ → List Value → Type 0
ValuesBelow n [] = Unit {0}
ValuesBelow n (v ∷ vs) = TypeBelow n v.type × ValuesBelow n vs

all_below : (n : ℕ) (ts : List StaticType) (vs : List Value) → AreObjects ts → ValuesBelow n vs
    → FitsBelow n (all_fits (map (λ (t : StaticType). Some t) ts) vs)
all_below n [] vs e h = tt
all_below n (t ∷ ts) [] e h = tt
all_below n (t ∷ ts) (v ∷ vs) e h =
    both_below n (fits_of v.at t (Some v.type)) (all_fits (map (λ (t : StaticType). Some t) ts) vs) (fits_below n v.at t (Some v.type) e.0 h.0)
    (all_below n ts vs e.1 h.1)

first_below : (n : ℕ) (fs : List Fit) (k : ℕ) → FitsBelow n fs → FitBelow n (first_fit fs k)
first_below n [] k h = tt
first_below n (f ∷ fs) k h = by (same_id f.of (Level k) && is_found f.is) (first_below n fs k h.1)
  where
    by : (c : Bool) → FitBelow n (first_fit fs k) → FitBelow n (if c then Some f else first_fit fs k)
    by true others = h.0
    by false others = others

by_below : (n at : ℕ) (f : Found) (r : NameOf) → FoundBelow n f → fixed_by at f ≡ Of r → Below n r
by_below n at (Is q) r h e = subst (λ (a : NameOf). Below n a) (of_is q r e) h
by_below n at IsUnique r h e = absurd cc
by_below n at Missing r h e = absurd cc

-- the region of the `rnew` around is in scope, where there is one
abbrev pub EnclosingBelow : ℕ → Enclosing → Type 0
EnclosingBelow n (InRegion r) = Below n r
EnclosingBelow n InUnique = Unit {0}
EnclosingBelow n NotKnown = Unit {0}

-- a scope inside an `rnew` of a region
abbrev pub within : Enclosing → Env → Env
within i g = record g { enclosing = i }

one_below : (n at : ℕ) (i : Enclosing) (o : Option Fit) (r : NameOf) → EnclosingBelow n i → FitBelow n o → fixed_one i at o ≡ Of r → Below n r
one_below n at i (Some f) r l h e = by_below n f.at f.is r h e
one_below n at (InRegion q) None r l h e = subst (λ (a : NameOf). Below n a) (of_is q r e) l
one_below n at InUnique None r l h e = absurd cc
one_below n at NotKnown None r l h e = absurd cc

from_below : (n at : ℕ) (i : Enclosing) (fs : List Fit) (k c : ℕ) (rs : List NameOf) → EnclosingBelow n i → FitsBelow n fs → fixed_from i at fs k c ≡ Of rs
    → AllBelow n rs
from_below n at i fs k zero rs l h e = subst (λ (qs : List NameOf). AllBelow n qs) (of_is [] rs e) tt
from_below n at i fs k (suc c) rs l h e =
    let z : (r : NameOf) × (qs : List NameOf) × (fixed_one i at (first_fit fs k) ≡ Of r) × (fixed_from i at fs (suc k) c ≡ Of qs) × (more r qs ≡ Of rs) =
    both_is (fixed_one i at (first_fit fs k)) (fixed_from i at fs (suc k) c) more rs e in
    subst (λ (qs : List NameOf). AllBelow n qs) (of_is (z.0 ∷ z.1) rs z.4)
    (one_below n at i (first_fit fs k) z.0 l (first_below n fs k h) z.2, from_below n at i fs (suc k) c z.1 l h z.3)

-- All that region variables stand for is in scope.
pub fixed_within : (n at c : ℕ) (i : Enclosing) (ts : List StaticType) (vs : List Value) (rs : List NameOf) → EnclosingBelow n i → AreObjects ts
    → ValuesBelow n vs → fixed_from i at (all_fits (map (λ (t : StaticType). Some t) ts) vs) 0 c ≡ Of rs → AllBelow n rs
fixed_within n at c i ts vs rs l e h p =
    from_below n at i (all_fits (map (λ (t : StaticType). Some t) ts) vs) 0 c rs l (all_below n ts vs e h) p

pub fixed_below : (n at c : ℕ) (inside : Enclosing) (ts : List StaticType) (vs : List Value) (rs : List NameOf) → inside ≡ InRegion TheHeap → AreObjects ts
    → ValuesBelow n vs → fixed_from inside at (all_fits (map (λ (t : StaticType). Some t) ts) vs) 0 c ≡ Of rs → AllBelow n rs
fixed_below n at c inside ts vs rs heap_here e h p =
    fixed_within n at c inside ts vs rs (subst (λ (i : Enclosing). EnclosingBelow n i) (sym heap_here) tt) e h p
