-- Places and what leads to them: names, `*e`, `e[e]`, `&e`, members and assignments, where all is known of each name in scope.
use Rattle.std.proofs.Common.{◌≡◌, ℕ, Bool, true, false, Option, Some, None, List, [], ◌∷◌, refl, sym, subst}
use Rattle.std.specs.Prelude.{bytes_eq, if◌then◌else◌, map}
use Rattle.cyc_tree.specs.declared.expression.Prefix.{Prefix}
use Rattle.cyc_tree.specs.declared.expression.Prefix.TheVariants as prefix
use Rattle.cyc_tree.specs.Tree as tree
use Rattle.type_proof.specs.Entries.{AreObjects, IsObjectType}
use Rattle.source_meaning.specs.Shapes.{MayBeNull, NeverNull, Reach}
use Rattle.source_typing.specs.Named.{AllBelow, Below, TypeBelow}
use Rattle.source_typing.specs.Conversions.{converts}
use Rattle.source_typing.specs.Operators.{prefixed}
use Rattle.source_typing.specs.Calls.{part_types}
use Rattle.source_typing.specs.Places.{address_of, arrow_live, arrow_of, assigned, assigned_in, assigned_type, contents_of, in_live, indexed, indexed_of}
use Rattle.source_typing.specs.Places.{member_of, part_found, part_of, part_typed, variable}
use Rattle.source_typing.specs.Tables.{Arrayed, Counter, Entry, OfBuiltin, OfFunction, OfOther, OfTag, OfValue, Part, Stored, Unknown, argument, as_tag, find}
use Rattle.source_typing.specs.Tables.{part_in, parts_of_tag}
use Rattle.source_typing.specs.Regions.{Region}
use Rattle.source_typing.specs.Scope.{Env, In, InBlock, Nowhere, Seat, Value, is_live, is_place, value}
use Rattle.source_typing.specs.Types.{Char, Fat, Handle, Int, Key, Null, StaticType, Struct, Thin, Union, Unique, Unsigned, Void, is_integer, renamed}
use Rattle.type_proof.proofs.expressions.WordRules.{assigned_object, given_below, given_type}
use Rattle.type_proof.proofs.expressions.Words.{object_renamed}
use Rattle.type_proof.proofs.expressions.Fixed.{object_below}
use Rattle.accepted_proof.specs.Good.{AllGood, IsGoodValue, IsValueType, SeatBelow, Surely}
use Rattle.accepted_proof.proofs.good.Names.{IsGoodPlace, IsGoodResult, MeansGood, found_good}
use Rattle.accepted_proof.proofs.good.Operators.{signed_judged, tested_judged, object_value}
use Rattle.accepted_proof.proofs.Sure.{surely_also, surely_other, surely_unless}

nowhere_place : {A : Type 0} (s : Seat) → s ≡ Nowhere → is_place s ≡ true → A
nowhere_place Nowhere n e = absurd cc
nowhere_place (In r) n e = absurd cc
nowhere_place InBlock n e = absurd cc

-- a value that is no place
pub valued : (g : Env) (v : Value) → IsGoodResult g.regions.count v → IsGoodValue g v
valued g v h = record {
  type = h.type;
  below = h.below;
  seat = subst (λ (s : Seat). SeatBelow g.regions.count s) (sym h.nowhere) tt;
  object = λ p. nowhere_place v.seat h.nowhere p;
}

-- a place
pub placed : (g : Env) (v : Value) → IsGoodPlace g.regions.count v → IsGoodValue g v
placed g v h = record { type = object_value v.type h.type; below = h.below; seat = h.seat; object = λ p. h.type }

-- ---- names

-- a variable is a place, and an array's name a pointer to its first element
pub variable_judged : (g : Env) (at : ℕ) (e : Option Entry) → MeansGood g.regions.count e → Surely (λ v. IsGoodValue g v) (variable at e)
variable_judged g at None h = tt
variable_judged g at (Some (OfValue (Stored t r))) h =
    placed g (record { at = at; type = t; seat = In r }) (record { type = h.0; below = h.1; seat = h.2 })
variable_judged g at (Some (OfValue (Arrayed t r))) h =
    valued g (record { at = at; type = Fat r t; seat = Nowhere }) (record { type = h.0; below = (h.2, h.1); nowhere = refl })
variable_judged g at (Some (OfValue Counter)) h =
    valued g (record { at = at; type = Unsigned; seat = Nowhere }) (record { type = tt; below = tt; nowhere = refl })
variable_judged g at (Some (OfValue (Unknown sound))) h = absurd h
variable_judged g at (Some (OfTag t)) h = surely_other (λ v. IsGoodValue g v) t.sound at h.sound
variable_judged g at (Some (OfFunction s)) h = surely_other (λ v. IsGoodValue g v) s.sound at h.sound
variable_judged g at (Some (OfBuiltin n)) h = tt
variable_judged g at (Some OfOther) h = absurd h

-- ---- what a pointer leads to

live_judged : (count : ℕ) (b : Bool) (at : ℕ) (t : StaticType) (r : Region) → IsObjectType t → TypeBelow count t → Below count r
    → Surely (λ v. IsGoodPlace count v) (in_live b at t r)
live_judged count true at t r w h k = record { type = w; below = h; seat = k }
live_judged count false at t r w h k = tt

contents_judged : (g : Env) (at : ℕ) (t : StaticType) → IsValueType t → TypeBelow g.regions.count t
    → Surely (λ v. IsGoodPlace g.regions.count v) (contents_of g at t)
contents_judged g at Int w h = tt
contents_judged g at Unsigned w h = tt
contents_judged g at Char w h = tt
contents_judged g at Void w h = tt
contents_judged g at Null w h = tt
contents_judged g at (Thin n r t) w h = live_judged g.regions.count (is_live g r) at t r w h.1 h.0
contents_judged g at (Fat r t) w h = live_judged g.regions.count (is_live g r) at t r w h.1 h.0
contents_judged g at (Unique n t) w h = record { type = w; below = h; seat = tt }
contents_judged g at (Handle r) w h = tt
contents_judged g at (Key r) w h = tt
contents_judged g at (Struct tag rs) w h = tt
contents_judged g at (Union tag rs) w h = tt

-- ---- elements of arrays

pub indexed_judged : (g : Env) (a b : Value) → IsValueType a.type → TypeBelow g.regions.count a.type
    → Surely (λ v. IsGoodPlace g.regions.count v) (indexed g a b)
indexed_judged g a b w h = by a.type (is_integer b.type) w h
  where
    by : (t : StaticType) (i : Bool) → IsValueType t → TypeBelow g.regions.count t → Surely (λ v. IsGoodPlace g.regions.count v) (indexed_of g a.at t i)
    by (Fat r t) true w h = live_judged g.regions.count (is_live g r) a.at t r w h.1 h.0
    by (Thin n r t) true w h = live_judged g.regions.count (is_live g r) a.at t r w h.1 h.0
    by (Unique n t) true w h = record { type = w; below = h; seat = tt }
    by _ _ w h = tt

-- ---- addresses

-- a pointer into the place's region, or a unique one to its block
address_judged : (g : Env) (at : ℕ) (t : StaticType) (s : Seat) → (is_place s ≡ true → IsObjectType t) → TypeBelow g.regions.count t
    → SeatBelow g.regions.count s → Surely (λ v. IsGoodValue g v) (address_of at t s)
address_judged g at t Nowhere w h k = tt
address_judged g at t (In r) w h k =
    valued g (record { at = at; type = Thin (NeverNull 1) r t; seat = Nowhere }) (record { type = w refl; below = (k, h); nowhere = refl })
address_judged g at t InBlock w h k =
    valued g (record { at = at; type = Unique false t; seat = Nowhere }) (record { type = w refl; below = h; nowhere = refl })

-- ---- operators in front

pub prefixed_judged : (g : Env) (at : ℕ) (o : Prefix) (a : Value) → IsGoodValue g a → Surely (λ v. IsGoodValue g v) (prefixed g at o a)
prefixed_judged g at prefix.Negate a h =
    surely_also (λ v. IsGoodResult g.regions.count v) (λ v. IsGoodValue g v) (prefixed g at prefix.Negate a) (signed_judged g.regions.count at a) (valued g)
prefixed_judged g at prefix.Complement a h =
    surely_also (λ v. IsGoodResult g.regions.count v) (λ v. IsGoodValue g v) (prefixed g at prefix.Complement a) (signed_judged g.regions.count at a) (valued g)
prefixed_judged g at prefix.Not a h =
    surely_also (λ v. IsGoodResult g.regions.count v) (λ v. IsGoodValue g v) (prefixed g at prefix.Not a) (tested_judged g.regions.count at a) (valued g)
prefixed_judged g at prefix.Dereference a h =
    surely_also (λ v. IsGoodPlace g.regions.count v) (λ v. IsGoodValue g v) (prefixed g at prefix.Dereference a)
    (contents_judged g at a.type h.type h.below) (placed g)
prefixed_judged g at prefix.AddressOf a h = address_judged g at a.type a.seat h.object h.below h.seat

-- ---- members

-- a struct's member is a place of an object, where the struct is
part_judged : (g : Env) (at : ℕ) (s : Seat) (tag : List ℕ) (rs : List Region) (x : tree.Name) → AllGood g.regions.count g.tables → AllBelow g.regions.count rs
    → SeatBelow g.regions.count s → Surely (λ v. IsGoodPlace g.regions.count v) (part_of g at s tag rs x)
part_judged g at s tag rs x h below k = by (find g.tables tag) (found_good g.regions.count g.tables tag h)
  where
    typed : (u : StaticType) → IsObjectType u → IsGoodPlace g.regions.count (record { at = at; type = renamed (argument rs) u; seat = s })
    typed u o = record { type = object_renamed (argument rs) u o; below = object_below g.regions.count rs u o below; seat = k }

    parts : (ps : List Part) (ts : List StaticType) → part_types ps ≡ map (λ (t : StaticType). Some t) ts → AreObjects ts
        → Surely (λ v. IsGoodPlace g.regions.count v) (part_found at s rs x.at (part_in ps x.text))
    parts [] ts e o = tt
    parts (p ∷ ps) [] e o = absurd cc
    parts (p ∷ ps) (t ∷ ts) e o =
        let a : p.type ≡ Some t = cc in
        let c : part_types ps ≡ map (λ (t : StaticType). Some t) ts = cc in
        either (bytes_eq p.name x.text) a (parts ps ts c o.1)
      where
        either : (b : Bool) → p.type ≡ Some t → Surely (λ v. IsGoodPlace g.regions.count v) (part_found at s rs x.at (part_in ps x.text))
            → Surely (λ v. IsGoodPlace g.regions.count v) (part_found at s rs x.at (if b then Some p else part_in ps x.text))
        either true a others = subst (λ (z : Option StaticType). Surely (λ v. IsGoodPlace g.regions.count v) (part_typed at s rs z)) (sym a) (typed t o.0)
        either false a others = others

    by : (z : Option Entry) → MeansGood g.regions.count z
        → Surely (λ v. IsGoodPlace g.regions.count v) (part_found at s rs x.at (part_in (parts_of_tag (as_tag z)) x.text))
    by None h = tt
    by (Some (OfTag t)) h = parts t.parts h.types h.parts h.objects
    by (Some (OfValue v)) h = tt
    by (Some (OfFunction f)) h = tt
    by (Some (OfBuiltin n)) h = tt
    by (Some OfOther) h = tt

pub member_judged : (g : Env) (x : tree.Name) (at : ℕ) (t : StaticType) (s : Seat) → AllGood g.regions.count g.tables → IsValueType t
    → TypeBelow g.regions.count t → SeatBelow g.regions.count s → Surely (λ v. IsGoodPlace g.regions.count v) (member_of g x at t s)
member_judged g x at t Nowhere h w b k = tt
member_judged g x at Int (In r) h w b k = tt
member_judged g x at Unsigned (In r) h w b k = tt
member_judged g x at Char (In r) h w b k = tt
member_judged g x at Void (In r) h w b k = tt
member_judged g x at Null (In r) h w b k = tt
member_judged g x at (Thin n q t) (In r) h w b k = tt
member_judged g x at (Fat q t) (In r) h w b k = tt
member_judged g x at (Unique n t) (In r) h w b k = tt
member_judged g x at (Handle q) (In r) h w b k = tt
member_judged g x at (Key q) (In r) h w b k = tt
member_judged g x at (Struct tag rs) (In r) h w b k = part_judged g at (In r) tag rs x h b k
member_judged g x at (Union tag rs) (In r) h w b k = tt
member_judged g x at Int InBlock h w b k = tt
member_judged g x at Unsigned InBlock h w b k = tt
member_judged g x at Char InBlock h w b k = tt
member_judged g x at Void InBlock h w b k = tt
member_judged g x at Null InBlock h w b k = tt
member_judged g x at (Thin n q t) InBlock h w b k = tt
member_judged g x at (Fat q t) InBlock h w b k = tt
member_judged g x at (Unique n t) InBlock h w b k = tt
member_judged g x at (Handle q) InBlock h w b k = tt
member_judged g x at (Key q) InBlock h w b k = tt
member_judged g x at (Struct tag rs) InBlock h w b k = part_judged g at InBlock tag rs x h b k
member_judged g x at (Union tag rs) InBlock h w b k = tt

arrow_live_judged : (g : Env) (x : tree.Name) (at : ℕ) (b : Bool) (r : Region) (tag : List ℕ) (rs : List Region) → AllGood g.regions.count g.tables
    → AllBelow g.regions.count rs → Below g.regions.count r → Surely (λ v. IsGoodPlace g.regions.count v) (arrow_live b g x at r tag rs)
arrow_live_judged g x at true r tag rs h below k = part_judged g at (In r) tag rs x h below k
arrow_live_judged g x at false r tag rs h below k = tt

thin_arrow : (g : Env) (x : tree.Name) (at : ℕ) (n : Reach) (r : Region) (t : StaticType) → AllGood g.regions.count g.tables → IsObjectType t
    → TypeBelow g.regions.count t → Below g.regions.count r → Surely (λ v. IsGoodPlace g.regions.count v) (arrow_of g x at (Thin n r t))
thin_arrow g x at n r Int h w b k = tt
thin_arrow g x at n r Unsigned h w b k = tt
thin_arrow g x at n r Char h w b k = tt
thin_arrow g x at n r (Thin m q t) h w b k = tt
thin_arrow g x at n r (Struct tag rs) h w b k = arrow_live_judged g x at (is_live g r) r tag rs h b k
thin_arrow g x at n r Void h w b k = absurd w
thin_arrow g x at n r Null h w b k = absurd w
thin_arrow g x at n r (Fat q t) h w b k = tt
thin_arrow g x at n r (Unique m t) h w b k = tt
thin_arrow g x at n r (Handle q) h w b k = tt
thin_arrow g x at n r (Key q) h w b k = tt
thin_arrow g x at n r (Union tag rs) h w b k = tt

-- through a unique pointer, into its block
unique_arrow : (g : Env) (x : tree.Name) (at : ℕ) (n : Bool) (t : StaticType) → AllGood g.regions.count g.tables → IsObjectType t
    → TypeBelow g.regions.count t → Surely (λ v. IsGoodPlace g.regions.count v) (arrow_of g x at (Unique n t))
unique_arrow g x at n Int h w b = tt
unique_arrow g x at n Unsigned h w b = tt
unique_arrow g x at n Char h w b = tt
unique_arrow g x at n (Thin m q t) h w b = tt
unique_arrow g x at n (Struct tag rs) h w b = part_judged g at InBlock tag rs x h b tt
unique_arrow g x at n Void h w b = absurd w
unique_arrow g x at n Null h w b = absurd w
unique_arrow g x at n (Fat q t) h w b = tt
unique_arrow g x at n (Unique m t) h w b = tt
unique_arrow g x at n (Handle q) h w b = tt
unique_arrow g x at n (Key q) h w b = tt
unique_arrow g x at n (Union tag rs) h w b = tt

-- through a fat pointer as through a thin one
fat_arrow : (g : Env) (x : tree.Name) (at : ℕ) (r : Region) (t : StaticType) → arrow_of g x at (Fat r t) ≡ arrow_of g x at (Thin (MayBeNull 1) r t)
fat_arrow g x at r (Struct tag rs) = refl
fat_arrow g x at r _ = refl

pub arrow_judged : (g : Env) (x : tree.Name) (at : ℕ) (t : StaticType) → AllGood g.regions.count g.tables → IsValueType t
    → TypeBelow g.regions.count t → Surely (λ v. IsGoodPlace g.regions.count v) (arrow_of g x at t)
arrow_judged g x at Int h w b = tt
arrow_judged g x at Unsigned h w b = tt
arrow_judged g x at Char h w b = tt
arrow_judged g x at Void h w b = tt
arrow_judged g x at Null h w b = tt
arrow_judged g x at (Thin n r t) h w b = thin_arrow g x at n r t h w b.1 b.0
arrow_judged g x at (Fat r t) h w b =
    subst (λ v. Surely (λ w. IsGoodPlace g.regions.count w) v) (sym (fat_arrow g x at r t)) (thin_arrow g x at (MayBeNull 1) r t h w b.1 b.0)
arrow_judged g x at (Unique n t) h w b = unique_arrow g x at n t h w b
arrow_judged g x at (Handle r) h w b = tt
arrow_judged g x at (Key r) h w b = tt
arrow_judged g x at (Struct tag rs) h w b = tt
arrow_judged g x at (Union tag rs) h w b = tt

-- ---- assignments

-- what is stored in a place is an object
assigned_value : (t : StaticType) → IsObjectType t → IsValueType (given_type t)
assigned_value t o = by t o
  where
    by : (t : StaticType) → IsObjectType t → IsValueType (given_type t)
    by Int o = tt
    by Unsigned o = tt
    by Char o = tt
    by (Thin n r t) o = o
    by (Struct tag rs) o = tt
    by Void o = absurd o
    by Null o = absurd o
    by (Fat r t) o = o
    by (Unique n t) o = tt
    by (Handle r) o = tt
    by (Key r) o = tt
    by (Union tag rs) o = tt

pub assigned_judged : (g : Env) (to from : Value) → IsGoodValue g to → Surely (λ v. IsGoodValue g v) (assigned g to from)
assigned_judged g to from h = by (is_place to.seat) refl
  where
    stored : is_place to.seat ≡ true → Surely (λ v. IsGoodValue g v) (value to.at (given_type to.type))
    stored e =
        valued g (record { at = to.at; type = given_type to.type; seat = Nowhere })
        (record { type = assigned_value to.type (h.object e); below = given_below g.regions.count to.type (h.object e) h.below; nowhere = refl })

    by : (b : Bool) → is_place to.seat ≡ b → Surely (λ v. IsGoodValue g v) (assigned_in b g to from)
    by true e =
        surely_unless (λ v. IsGoodValue g v) (converts g from to.type) (value to.at (assigned_type g to.type))
        (λ none. subst (λ (t : StaticType). Surely (λ v. IsGoodValue g v) (value to.at t)) (sym (assigned_object g to.type (h.object e))) (stored e))
    by false e = tt
