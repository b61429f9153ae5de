-- The struct or union is declared that a type as written is.
use Rattle.std.proofs.Common.{◌≡◌, ℕ, Bool, true, false, List, [], ◌∷◌, ◌++◌, map, refl, ap, ◌∙◌}
use Rattle.std.specs.Prelude.{None, Option, Some, is_some, nat_eq, suc, zero, ◌&&◌, if◌then◌else◌}
use Rattle.cyc_tree.specs.Tree.{TypeName}
use Rattle.cyc_tree.specs.declared.name.Sign.{Sign}
use Rattle.source_typing.specs.Declarations.{stands_earlier, tag_earlier}
use Rattle.source_typing.specs.Faults.{Fault}
use Rattle.source_typing.specs.Missing.{alone_with, as_type, fat_with, filled_from, or_found, outer_region, pointee_of, settled, thin_with, unique_with}
use Rattle.source_typing.specs.Regions.{Region}
use Rattle.source_typing.specs.Scope.{Env}
use Rattle.source_meaning.specs.Shapes.{MayBeNull, NeverNull, Reach, may_be_null, number_of}
use Rattle.source_typing.specs.Tables.{Entry, OfBuiltin, OfFunction, OfOther, OfTag, OfValue, Tables, as_tag, each_part, find, if_known, tag_in}
use Rattle.source_typing.specs.Tags.{fits_member, member_fitting, member_type, parts_by, settled_alone}
use Rattle.source_typing.specs.Types.{Char, Fat, Handle, Int, Key, Null, PartialType, StaticType, Struct, Thin, Union, Unique, Unsigned, Void}
use Rattle.source_typing.specs.Verdicts.{Faulty, Of, Unjudged, Verdict, after, if_fits, known, unless_faulty}
use Rattle.source_typing.specs.Written.{Found, RegionNamed, all_found, as_region, base_of, built, count_fits, counted_type, pointer_to, pointers_to, thin_to}
use Rattle.source_typing.specs.Written.{Is, IsUnique, Missing, spots_of, tag_of, type_built, with_arguments, written, written_on, written_with}
use Rattle.cyc_types.specs.Known.{has_declared}
use Rattle.cyc_tree.specs.Tree as tree
use Rattle.cyc_tree.specs.declared.name.Sign.TheVariants as sign

-- of a type with regions that may be missing
abbrev declares : Tables → PartialType → Bool
declares g (Struct tag rs) = is_some (tag_in g tag)
declares g (Union tag rs) = is_some (tag_in g tag)
declares g t = true

abbrev if_type : Tables → Option PartialType → Type 0
if_type g None = Unit {0}
if_type g (Some t) = declares g t ≡ true

-- ---- pointers

where_one : (g : Tables) (b : Bool) (t : PartialType) → declares g t ≡ true → if_type g (if b then Some t else None)
where_one g true t h = h
where_one g false t h = tt

where_any : (g : Tables) (b : Bool) (t : PartialType) → declares g t ≡ true → if_type g (if b then None else Some t)
where_any g true t h = tt
where_any g false t h = h

thin_declared : (g : Tables) (n : Reach) (f : Found) (t : PartialType) → if_type g (thin_to n f t)
thin_declared g n IsUnique t = where_one g (nat_eq (number_of n) 1) (Unique (may_be_null n) t) refl
thin_declared g n Missing t = where_any g (nat_eq (number_of n) 0) (Thin n None t) refl
thin_declared g n (Is r) t = where_any g (nat_eq (number_of n) 0) (Thin n (Some r) t) refl

pointer_declared : (g : Tables) (s : Sign) (f : Found) (t : PartialType) → if_type g (pointer_to s f t)
pointer_declared g s f Void = tt
pointer_declared g s f (Key r) = tt
pointer_declared g sign.Fat IsUnique t = tt
pointer_declared g sign.Fat Missing t = refl
pointer_declared g sign.Fat (Is p) t = refl
pointer_declared g (sign.Nullable count) f t = thin_declared g (MayBeNull count) f t
pointer_declared g (sign.NotNull count) f t = thin_declared g (NeverNull count) f t

pointers_declared : (g : Tables) (ps : List tree.Pointer) (fs : List Found) (o : Option PartialType) → if_type g o → if_type g (pointers_to ps fs o)
pointers_declared g [] fs o h = h
pointers_declared g (p ∷ ps) [] o h = h
pointers_declared g (p ∷ ps) (f ∷ fs) None h = h
pointers_declared g (p ∷ ps) (f ∷ fs) (Some t) h = pointers_declared g ps fs (pointer_to p.sign f t) (pointer_declared g p.sign f t)

-- ---- bases

arguments_declared : (g : Tables) (n : ℕ) (make : List (Option Region) → PartialType) (args : List Found) (ps : List tree.Pointer) (fs : List Found)
    → ((rs : List (Option Region)) → declares g (make rs) ≡ true) → if_type g (with_arguments n make args ps fs)
arguments_declared g zero make args ps fs h = pointers_declared g ps fs (Some (make (map as_region args))) (h (map as_region args))
arguments_declared g (suc n) make args ps [] h = tt
arguments_declared g (suc n) make args ps (f ∷ fs) h = arguments_declared g n make (args ++ f ∷ []) ps fs h

abbrev base_declared : Tables → tree.Base → Type 0
base_declared g (tree.Struct tag rs) = is_some (tag_in g tag.text) ≡ true
base_declared g (tree.Union tag rs) = is_some (tag_in g tag.text) ≡ true
base_declared g b = Unit {0}

built_declared : (g : Tables) (b : tree.Base) (n : ℕ) (ps : List tree.Pointer) (fs : List Found) → base_declared g b → if_type g (built b n ps fs)
built_declared g tree.Int n ps fs h = pointers_declared g ps fs (Some Int) refl
built_declared g tree.Unsigned n ps fs h = pointers_declared g ps fs (Some Unsigned) refl
built_declared g tree.Char n ps fs h = pointers_declared g ps fs (Some Char) refl
built_declared g tree.Void n ps fs h = pointers_declared g ps fs (Some Void) refl
built_declared g (tree.Struct tag rs) n ps fs h = arguments_declared g n (Struct tag.text) [] ps fs (λ rs. h)
built_declared g (tree.Union tag rs) n ps fs h = arguments_declared g n (Union tag.text) [] ps fs (λ rs. h)
built_declared g (tree.Handle r) n ps [] h = tt
built_declared g (tree.Handle r) n ps (f ∷ fs) h = pointers_declared g ps fs (Some (Handle (as_region f))) refl
built_declared g (tree.Key r) n ps [] h = tt
built_declared g (tree.Key r) n ps (f ∷ fs) h = pointers_declared g ps fs (Some (Key (as_region f))) refl

found_tag : (o : Option Entry) (union : Bool) (at n : ℕ) → tag_of o union at ≡ Of n → is_some (as_tag o) ≡ true
found_tag None union at n h = absurd cc
found_tag (Some (OfTag t)) union at n h = refl
found_tag (Some (OfValue w)) union at n h = absurd cc
found_tag (Some (OfFunction s)) union at n h = absurd cc
found_tag (Some (OfBuiltin k)) union at n h = absurd cc
found_tag (Some OfOther) union at n h = absurd cc

found_base : (g : Tables) (b : tree.Base) (n : ℕ) → base_of g b ≡ Of n → base_declared g b
found_base g (tree.Struct tag rs) n h = found_tag (find g tag.text) false tag.at n h
found_base g (tree.Union tag rs) n h = found_tag (find g tag.text) true tag.at n h
found_base g tree.Int n h = tt
found_base g tree.Unsigned n h = tt
found_base g tree.Char n h = tt
found_base g tree.Void n h = tt
found_base g (tree.Handle r) n h = tt
found_base g (tree.Key r) n h = tt

-- ---- what is written

abbrev if_written : Tables → Verdict PartialType → Type 0
if_written g (Of t) = declares g t ≡ true
if_written g v = Unit {0}

type_written : (g : Tables) (at : ℕ) (o : Option PartialType) → if_type g o → if_written g (type_built at o)
type_written g at None h = tt
type_written g at (Some t) h = h

unless_written : (g : Tables) (fs : List Fault) (v : Verdict PartialType) → if_written g v → if_written g (unless_faulty fs v)
unless_written g [] v h = h
unless_written g (f ∷ fs) v h = tt

counted_written : (g : Tables) (t : TypeName) (fs : List Found) (n : ℕ) (b : Bool) → base_declared g t.base → if_written g (counted_type t fs n b)
counted_written g t fs n true h = type_written g t.at (built t.base n t.pointers fs) (built_declared g t.base n t.pointers fs h)
counted_written g t fs n false h = tt

written_by : (g : Tables) (t : TypeName) (fs : List Found) (bad : List Fault) (v : Verdict ℕ) → base_of g t.base ≡ v → if_written g (written_on t fs bad v)
written_by g t fs bad (Faulty f others) h = tt
written_by g t fs bad Unjudged h = unless_written g bad Unjudged tt
written_by g t fs bad (Of n) h =
    unless_written g bad (counted_type t fs n (count_fits t.base n)) (counted_written g t fs n (count_fits t.base n) (found_base g t.base n h))

written_found : (g : Tables) (t : TypeName) (x : List Found × List Fault) → if_written g (written_with g t x)
written_found g t (fs, bad) = written_by g t fs bad (base_of g t.base) refl

-- ---- with its regions

abbrev if_static : Tables → Verdict StaticType → Type 0
if_static g (Of t) = has_declared g t ≡ true
if_static g v = Unit {0}

alone_settled : (g : Tables) (at : ℕ) (b : Bool) (n : Reach) (t : StaticType) → if_static g (as_type at (alone_with b n t))
alone_settled g at true n t = refl
alone_settled g at false n t = tt

thin_settled : (g : Tables) (at : ℕ) (n : Reach) (f : Found) (o : Option StaticType) → if_static g (as_type at (thin_with n f o))
thin_settled g at n f None = tt
thin_settled g at n (Is r) (Some t) = refl
thin_settled g at n IsUnique (Some t) = alone_settled g at (nat_eq (number_of n) 1) n t
thin_settled g at n Missing (Some t) = refl

fat_settled : (g : Tables) (at : ℕ) (f : Found) (o : Option StaticType) → if_static g (as_type at (fat_with f o))
fat_settled g at f None = tt
fat_settled g at (Is r) (Some t) = refl
fat_settled g at IsUnique (Some t) = tt
fat_settled g at Missing (Some t) = refl

unique_settled : (g : Tables) (at : ℕ) (n : Bool) (o : Option StaticType) → if_static g (as_type at (unique_with n o))
unique_settled g at n None = tt
unique_settled g at n (Some t) = refl

settled_declared : (g : Tables) (at : ℕ) (p : PartialType) (s : Option StaticType) → declares g p ≡ true → if_static g (settled at p s)
settled_declared g at Int s h = refl
settled_declared g at Unsigned s h = refl
settled_declared g at Char s h = refl
settled_declared g at Void s h = refl
settled_declared g at Null s h = refl
settled_declared g at (Thin n r t) s h = thin_settled g at n (or_found r (outer_region s)) (filled_from t (pointee_of s))
settled_declared g at (Fat r t) s h = fat_settled g at (or_found r (outer_region s)) (filled_from t (pointee_of s))
settled_declared g at (Unique n t) s h = unique_settled g at n (filled_from t (pointee_of s))
settled_declared g at (Handle r) s h = refl
settled_declared g at (Key r) s h = refl
settled_declared g at (Struct tag rs) s h = h
settled_declared g at (Union tag rs) s h = h

-- the struct or union is declared that a type as written is
pub written_declared : (g : Tables) (names : List RegionNamed) (t : TypeName) (s : Option StaticType) (at : ℕ)
    → if_static g (after (written g names t) (λ p. settled at p s))
written_declared g names t s at = by (written g names t) (written_found g t (all_found names (spots_of g t)))
  where
    by : (v : Verdict PartialType) → if_written g v → if_static g (after v (λ p. settled at p s))
    by (Faulty f fs) h = tt
    by Unjudged h = tt
    by (Of p) h = settled_declared g at p s h

-- ---- members

-- the structs and unions that stand earlier are those that are declared here
abbrev pub StandEarlier : Env → Tables → Type 0
StandEarlier e here = (x : List ℕ) → is_some (tag_in e.tables x) ≡ true → tag_earlier e.item (tag_in e.tables x) ≡ is_some (tag_in here x)

pub earlier_declared : (e : Env) (here : Tables) (t : StaticType) → StandEarlier e here → has_declared e.tables t ≡ true
    → stands_earlier e t ≡ has_declared here t
earlier_declared e here (Struct tag rs) earlier h = earlier tag h
earlier_declared e here (Union tag rs) earlier h = earlier tag h
earlier_declared e here Int earlier h = refl
earlier_declared e here Unsigned earlier h = refl
earlier_declared e here Char earlier h = refl
earlier_declared e here Void earlier h = refl
earlier_declared e here Null earlier h = refl
earlier_declared e here (Thin n r t) earlier h = refl
earlier_declared e here (Fat r t) earlier h = refl
earlier_declared e here (Unique n t) earlier h = refl
earlier_declared e here (Handle r) earlier h = refl
earlier_declared e here (Key r) earlier h = refl

fitting_declared : (e : Env) (here : Tables) (union : Bool) (at : ℕ) (v : Verdict StaticType) → StandEarlier e here → if_static e.tables v
    → after v (member_fitting e union at) ≡ after v (λ t. if_fits (fits_member union t && has_declared here t) at t)
fitting_declared e here union at (Faulty f fs) earlier h = refl
fitting_declared e here union at Unjudged earlier h = refl
fitting_declared e here union at (Of t) earlier h = ap (λ b. if_fits (fits_member union t && b) at t) (earlier_declared e here t earlier h)

-- a member's type, by what is declared where it stands
pub member_declared : (e : Env) (here : Tables) (union : Bool) (t : TypeName) → StandEarlier e here
    → member_type e union t
    ≡ after (after (written e.tables e.names t) (settled_alone t.at)) (λ s. if_fits (fits_member union s && has_declared here s) t.at s)
member_declared e here union t earlier =
    fitting_declared e here union t.at (after (written e.tables e.names t) (settled_alone t.at)) earlier
    (written_declared e.tables e.names t None t.at)

known_fits : (here : Tables) (at : ℕ) (t : StaticType) (fits : Bool) (b : Bool) → has_declared here t ≡ b
    → if_known (has_declared here) (known (if_fits (fits && b) at t)) ≡ true
known_fits here at t true true h = h
known_fits here at t true false h = refl
known_fits here at t false b h = refl

known_declared : (here : Tables) (union : Bool) (at : ℕ) (v : Verdict StaticType)
    → if_known (has_declared here) (known (after v (λ t. if_fits (fits_member union t && has_declared here t) at t))) ≡ true
known_declared here union at (Faulty f fs) = refl
known_declared here union at Unjudged = refl
known_declared here union at (Of t) = known_fits here at t (fits_member union t) (has_declared here t) refl

-- what members are is declared
pub parts_declared : (e : Env) (here : Tables) (union : Bool) (ms : List tree.Member) → StandEarlier e here
    → each_part (has_declared here) (parts_by e union ms) ≡ true
parts_declared e here union [] earlier = refl
parts_declared e here union (m ∷ ms) earlier =
    ap (λ v. if_known (has_declared here) (known v) && each_part (has_declared here) (parts_by e union ms)) (member_declared e here union m.of earlier)
    ∙ ap (λ b. b && each_part (has_declared here) (parts_by e union ms))
    (known_declared here union m.of.at (after (written e.tables e.names m.of) (settled_alone m.of.at)))
    ∙ parts_declared e here union ms earlier
