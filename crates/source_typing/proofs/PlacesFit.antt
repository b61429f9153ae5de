-- What no fault says of places: one lemma a rule.
use Rattle.std.proofs.Common.{◌≡◌, ℕ, Bool, true, false, Option, Some, None, List, [], refl, sym, ap}
use Rattle.cyc_tree.specs.Tree as tree
use Rattle.source_typing.specs.Verdicts.{Of}
use Rattle.source_typing.specs.Regions.{Region}
use Rattle.source_typing.specs.Types.{StaticType, Int, Unsigned, Char, Void, Null, Thin, Fat, Unique, Handle, Key, Struct, Union, renamed, is_integer}
use Rattle.source_typing.specs.Tables.{Part, parts_in, part_in, argument}
use Rattle.source_typing.specs.Scope.{Env, Value, Seat, Nowhere, In, InBlock, is_live, is_place}
use Rattle.source_typing.specs.Conversions.{conversion, converts}
use Rattle.source_typing.specs.Converts.{Converts}
use Rattle.source_typing.specs.Places.{in_live, contents_of, indexed_of, indexed, part_typed, part_found, part_of, member_of, arrow_live, arrow_of}
use Rattle.source_typing.specs.Places.{assigned_type, assigned_in, assigned}
use Rattle.source_typing.proofs.Inversion.{of_is, unless_is}
use Rattle.source_typing.proofs.Converting.{conversion_is, broken_is}

abbrev pub valued : ℕ → StaticType → Seat → Value
valued at t s = record { at = at; type = t; seat = s }

-- a place of a type
abbrev pub IsAt : StaticType → Seat → Value → Type 0
IsAt t s w = (w.type ≡ t) × (w.seat ≡ s)

is_at : (at : ℕ) (t : StaticType) (s : Seat) (w : Value) → Of (valued at t s) ≡ Of w → IsAt t s w
is_at at t s w e = let a : valued at t s ≡ w = of_is (valued at t s) w e in (ap (λ (v : Value). v.type) (sym a), ap (λ (v : Value). v.seat) (sym a))

live_is : (b : Bool) (at : ℕ) (t : StaticType) (r : Region) (w : Value) → in_live b at t r ≡ Of w → (b ≡ true) × IsAt t (In r) w
live_is true at t r w e = (refl, is_at at t (In r) w e)
live_is false at t r w e = absurd cc

-- ---- `*e`

-- a pointer into a live region, or a unique one
abbrev pub PointsTo : Env → StaticType → Value → Type 0
PointsTo g (Thin n r t) w = (is_live g r ≡ true) × IsAt t (In r) w
PointsTo g (Fat r t) w = (is_live g r ≡ true) × IsAt t (In r) w
PointsTo g (Unique n t) w = IsAt t InBlock w
PointsTo g t w = ⊥

pub contents_is : (g : Env) (at : ℕ) (t : StaticType) (w : Value) → contents_of g at t ≡ Of w → PointsTo g t w
contents_is g at (Thin n r t) w e = live_is (is_live g r) at t r w e
contents_is g at (Fat r t) w e = live_is (is_live g r) at t r w e
contents_is g at (Unique n t) w e = is_at at t InBlock w e
contents_is g at Int w e = absurd cc
contents_is g at Unsigned w e = absurd cc
contents_is g at Char w e = absurd cc
contents_is g at Void w e = absurd cc
contents_is g at Null w e = absurd cc
contents_is g at (Handle r) w e = absurd cc
contents_is g at (Key r) w e = absurd cc
contents_is g at (Struct tag rs) w e = absurd cc
contents_is g at (Union tag rs) w e = absurd cc

-- ---- `a[b]`

pub indexed_of_is : (g : Env) (at : ℕ) (t : StaticType) (i : Bool) (w : Value) → indexed_of g at t i ≡ Of w → (i ≡ true) × PointsTo g t w
indexed_of_is g at (Fat r t) true w e = (refl, live_is (is_live g r) at t r w e)
indexed_of_is g at (Fat r t) false w e = absurd cc
indexed_of_is g at (Thin n r t) true w e = (refl, live_is (is_live g r) at t r w e)
indexed_of_is g at (Thin n r t) false w e = absurd cc
indexed_of_is g at (Unique n t) true w e = (refl, is_at at t InBlock w e)
indexed_of_is g at (Unique n t) false w e = absurd cc
indexed_of_is g at Int i w e = absurd cc
indexed_of_is g at Unsigned i w e = absurd cc
indexed_of_is g at Char i w e = absurd cc
indexed_of_is g at Void i w e = absurd cc
indexed_of_is g at Null i w e = absurd cc
indexed_of_is g at (Handle r) i w e = absurd cc
indexed_of_is g at (Key r) i w e = absurd cc
indexed_of_is g at (Struct tag rs) i w e = absurd cc
indexed_of_is g at (Union tag rs) i w e = absurd cc

pub indexed_is : (g : Env) (a b w : Value) → indexed g a b ≡ Of w → (is_integer b.type ≡ true) × PointsTo g a.type w
indexed_is g a b w e = indexed_of_is g a.at a.type (is_integer b.type) w e

-- ---- members

-- a member of a struct, with the struct's region arguments in its type
pub record HasPart (g : Env) (tag : List ℕ) (rs : List Region) (f : List ℕ) (s : Seat) (w : Value) : Type 0 where
  pub part : Part
  pub type : StaticType
  pub found : part_in (parts_in g.tables tag) f ≡ Some part
  pub typed : part.type ≡ Some type
  pub is : IsAt (renamed (argument rs) type) s w

typed_is : (at : ℕ) (s : Seat) (rs : List Region) (t : Option StaticType) (w : Value) → part_typed at s rs t ≡ Of w
    → (u : StaticType) × (t ≡ Some u) × IsAt (renamed (argument rs) u) s w
typed_is at s rs None w e = absurd cc
typed_is at s rs (Some t) w e = (t, refl, is_at at (renamed (argument rs) t) s w e)

found_is : (at : ℕ) (s : Seat) (rs : List Region) (f : ℕ) (p : Option Part) (w : Value) → part_found at s rs f p ≡ Of w
    → (q : Part) × (p ≡ Some q) × (part_typed at s rs q.type ≡ Of w)
found_is at s rs f None w e = absurd cc
found_is at s rs f (Some p) w e = (p, refl, e)

pub part_is : (g : Env) (at : ℕ) (s : Seat) (tag : List ℕ) (rs : List Region) (f : tree.Name) (w : Value) → part_of g at s tag rs f ≡ Of w
    → HasPart g tag rs f.text s w
part_is g at s tag rs f w e =
    let a : (q : Part) × (part_in (parts_in g.tables tag) f.text ≡ Some q) × (part_typed at s rs q.type ≡ Of w) =
    found_is at s rs f.at (part_in (parts_in g.tables tag) f.text) w e in
    let b : (u : StaticType) × (a.0.type ≡ Some u) × IsAt (renamed (argument rs) u) s w = typed_is at s rs a.0.type w a.2 in
    record { part = a.0; type = b.0; found = a.1; typed = b.1; is = b.2 }

-- `e.f`, of a place of struct type
abbrev pub MemberOf : Env → List ℕ → StaticType → Seat → Value → Type 0
MemberOf g f (Struct tag rs) s w = HasPart g tag rs f s w
MemberOf g f t s w = ⊥

pub member_is : (g : Env) (f : tree.Name) (at : ℕ) (t : StaticType) (s : Seat) (w : Value) → member_of g f at t s ≡ Of w
    → (is_place s ≡ true) × MemberOf g f.text t s w
member_is g f at t Nowhere w e = absurd cc
member_is g f at Int (In a) w e = absurd cc
member_is g f at Unsigned (In a) w e = absurd cc
member_is g f at Char (In a) w e = absurd cc
member_is g f at Void (In a) w e = absurd cc
member_is g f at Null (In a) w e = absurd cc
member_is g f at (Thin n r t) (In a) w e = absurd cc
member_is g f at (Fat r t) (In a) w e = absurd cc
member_is g f at (Unique n t) (In a) w e = absurd cc
member_is g f at (Handle r) (In a) w e = absurd cc
member_is g f at (Key r) (In a) w e = absurd cc
member_is g f at (Struct tag rs) (In a) w e = (refl, part_is g at (In a) tag rs f w e)
member_is g f at (Union tag rs) (In a) w e = absurd cc
member_is g f at Int InBlock w e = absurd cc
member_is g f at Unsigned InBlock w e = absurd cc
member_is g f at Char InBlock w e = absurd cc
member_is g f at Void InBlock w e = absurd cc
member_is g f at Null InBlock w e = absurd cc
member_is g f at (Thin n r t) InBlock w e = absurd cc
member_is g f at (Fat r t) InBlock w e = absurd cc
member_is g f at (Unique n t) InBlock w e = absurd cc
member_is g f at (Handle r) InBlock w e = absurd cc
member_is g f at (Key r) InBlock w e = absurd cc
member_is g f at (Struct tag rs) InBlock w e = (refl, part_is g at InBlock tag rs f w e)
member_is g f at (Union tag rs) InBlock w e = absurd cc

-- `e->f`, of a pointer to a struct
abbrev pub ArrowTo : Env → List ℕ → StaticType → Value → Type 0
ArrowTo g f (Thin n r (Struct tag rs)) w = (is_live g r ≡ true) × HasPart g tag rs f (In r) w
ArrowTo g f (Fat r (Struct tag rs)) w = (is_live g r ≡ true) × HasPart g tag rs f (In r) w
ArrowTo g f (Unique n (Struct tag rs)) w = HasPart g tag rs f InBlock w
ArrowTo g f t w = ⊥

arrow_live_is : (b : Bool) (g : Env) (f : tree.Name) (at : ℕ) (r : Region) (tag : List ℕ) (rs : List Region) (w : Value)
    → arrow_live b g f at r tag rs ≡ Of w → (b ≡ true) × HasPart g tag rs f.text (In r) w
arrow_live_is true g f at r tag rs w e = (refl, part_is g at (In r) tag rs f w e)
arrow_live_is false g f at r tag rs w e = absurd cc

pub arrow_is : (g : Env) (f : tree.Name) (at : ℕ) (t : StaticType) (w : Value) → arrow_of g f at t ≡ Of w → ArrowTo g f.text t w
arrow_is g f at Int w e = absurd cc
arrow_is g f at Unsigned w e = absurd cc
arrow_is g f at Char w e = absurd cc
arrow_is g f at Void w e = absurd cc
arrow_is g f at Null w e = absurd cc
arrow_is g f at (Thin n r Int) w e = absurd cc
arrow_is g f at (Thin n r Unsigned) w e = absurd cc
arrow_is g f at (Thin n r Char) w e = absurd cc
arrow_is g f at (Thin n r Void) w e = absurd cc
arrow_is g f at (Thin n r Null) w e = absurd cc
arrow_is g f at (Thin n r (Thin m q u)) w e = absurd cc
arrow_is g f at (Thin n r (Fat q u)) w e = absurd cc
arrow_is g f at (Thin n r (Unique m u)) w e = absurd cc
arrow_is g f at (Thin n r (Handle q)) w e = absurd cc
arrow_is g f at (Thin n r (Key q)) w e = absurd cc
arrow_is g f at (Thin n r (Struct tag rs)) w e = arrow_live_is (is_live g r) g f at r tag rs w e
arrow_is g f at (Thin n r (Union tag rs)) w e = absurd cc
arrow_is g f at (Fat r Int) w e = absurd cc
arrow_is g f at (Fat r Unsigned) w e = absurd cc
arrow_is g f at (Fat r Char) w e = absurd cc
arrow_is g f at (Fat r Void) w e = absurd cc
arrow_is g f at (Fat r Null) w e = absurd cc
arrow_is g f at (Fat r (Thin m q u)) w e = absurd cc
arrow_is g f at (Fat r (Fat q u)) w e = absurd cc
arrow_is g f at (Fat r (Unique m u)) w e = absurd cc
arrow_is g f at (Fat r (Handle q)) w e = absurd cc
arrow_is g f at (Fat r (Key q)) w e = absurd cc
arrow_is g f at (Fat r (Struct tag rs)) w e = arrow_live_is (is_live g r) g f at r tag rs w e
arrow_is g f at (Fat r (Union tag rs)) w e = absurd cc
arrow_is g f at (Unique n Int) w e = absurd cc
arrow_is g f at (Unique n Unsigned) w e = absurd cc
arrow_is g f at (Unique n Char) w e = absurd cc
arrow_is g f at (Unique n Void) w e = absurd cc
arrow_is g f at (Unique n Null) w e = absurd cc
arrow_is g f at (Unique n (Thin m q u)) w e = absurd cc
arrow_is g f at (Unique n (Fat q u)) w e = absurd cc
arrow_is g f at (Unique n (Unique m u)) w e = absurd cc
arrow_is g f at (Unique n (Handle q)) w e = absurd cc
arrow_is g f at (Unique n (Key q)) w e = absurd cc
arrow_is g f at (Unique n (Struct tag rs)) w e = part_is g at InBlock tag rs f w e
arrow_is g f at (Unique n (Union tag rs)) w e = absurd cc
arrow_is g f at (Handle r) w e = absurd cc
arrow_is g f at (Key r) w e = absurd cc
arrow_is g f at (Struct tag rs) w e = absurd cc
arrow_is g f at (Union tag rs) w e = absurd cc

-- ---- assignments

assigned_in_is : (b : Bool) (g : Env) (to from w : Value) → assigned_in b g to from ≡ Of w
    → (b ≡ true) × Converts g.regions from.type to.type × (w.type ≡ assigned_type g to.type)
assigned_in_is true g to from w e =
    let a : (converts g from to.type ≡ []) × (Of (valued to.at (assigned_type g to.type) Nowhere) ≡ Of w) =
    unless_is (converts g from to.type) (Of (valued to.at (assigned_type g to.type) Nowhere)) w e in (
      refl,
      conversion_is g.regions from.type to.type (broken_is from.at (conversion g.regions from.type to.type) a.0),
      (is_at to.at (assigned_type g to.type) Nowhere w a.1).0,
    )
assigned_in_is false g to from w e = absurd cc

-- a place, to which the value converts
pub assigned_is : (g : Env) (to from w : Value) → assigned g to from ≡ Of w
    → (is_place to.seat ≡ true) × Converts g.regions from.type to.type × (w.type ≡ assigned_type g to.type)
assigned_is g to from w e = assigned_in_is (is_place to.seat) g to from w e
