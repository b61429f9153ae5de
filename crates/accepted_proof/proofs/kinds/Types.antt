-- Types as they are written: each struct that one names has a struct's tag, where the tables know which tags are structs'.
use Rattle.std.proofs.Common.{nat_eq, ◌≡◌, ℕ, zero, suc, Bool, true, false, Option, Some, None, List, [], ◌∷◌, refl, sym, subst}
use Rattle.std.specs.Prelude.{◌&&◌, ◌++◌, ◌||◌, if◌then◌else◌, map, not}
use Rattle.cyc_tree.specs.declared.name.Sign.{Sign}
use Rattle.cyc_tree.specs.declared.name.Sign.TheVariants as sign
use Rattle.cyc_tree.specs.Tree as tree
use Rattle.cyc_tree.specs.Tree.{Pointer, TypeName}
use Rattle.source_meaning.specs.Shapes.{Reach, MayBeNull, NeverNull, may_be_null, number_of}
use Rattle.source_typing.specs.Declarations.{can_be, fitting, fitting_local, if_sized, local_type, misses_region, set_type, stands_earlier, taken_from}
use Rattle.source_typing.specs.Declarations.{tags_in_scope, type_in_scope, unset_type}
use Rattle.source_typing.specs.Extents.{fits_bytes, variable_size}
use Rattle.source_typing.specs.Faults.{Fault}
use Rattle.source_typing.specs.Functions.{AllSpotted, Variables, fits_parameter, if_parameter, if_result, parameter_type, read_parameters, result_type}
use Rattle.source_typing.specs.Functions.{take_spots}
use Rattle.source_typing.specs.Globals.{count_of, fitting_global, foreign_names, global_type, has_none}
use Rattle.source_typing.specs.Missing.{alone_with, as_type, fat_with, filled_from, or_found, outer_region, pointee_of, settled, thin_with, unique_with}
use Rattle.source_typing.specs.Regions.{Region}
use Rattle.source_typing.specs.Scope.{Env, Value, meant}
use Rattle.source_typing.specs.Tables.{Entry, OfBuiltin, OfFunction, OfOther, OfTag, OfValue, Tables, Tag, find, has_beginning}
use Rattle.source_typing.specs.Tags.{fits_member, member_fitting, member_type, settled_alone}
use Rattle.source_typing.specs.Types.{Char, Fat, Handle, Int, Key, PartialType, StaticType, Struct, Thin, TypeIn, Union, Unique, Unsigned, Void, is_key}
use Rattle.source_typing.specs.Types.{is_void, same_bool}
use Rattle.source_typing.specs.Verdicts.{Faulty, Of, Unjudged, Verdict, after, known}
use Rattle.source_typing.specs.Written.{Found, Is, IsUnique, Missing, RegionNamed, all_found, as_region, base_of, built, count_fits, counted_type, of_kind}
use Rattle.source_typing.specs.Written.{pointer_to, pointers_to, spots_of, tag_of, thin_to, type_built, with_arguments, written, written_on, written_with}
use Rattle.accepted_proof.specs.Good.{KnowsKinds, MeansNamed, NamesStructs}
use Rattle.accepted_proof.proofs.kinds.Perhaps.{Perhaps, perhaps_after, perhaps_fits, perhaps_fitting, perhaps_sound, perhaps_unless}
use Rattle.accepted_proof.proofs.kinds.Phrases.{meant_named}

-- each struct's tag in these tables is such a tag
abbrev pub KnowsStructs : (List ℕ → Type 0) → Tables → Type 0
KnowsStructs P g = (x : List ℕ) (t : Tag) → find g x ≡ Some (OfTag t) → t.is_union ≡ false → P x

pub structs_known : (P : List ℕ → Type 0) (g : Tables) → ((x : List ℕ) → MeansNamed P x (find g x)) → KnowsStructs P g
structs_known P g k x t e u =
    let h : MeansNamed P x (Some (OfTag t)) = subst (λ (o : Option Entry). MeansNamed P x o) e (k x) in h.struct u

-- each name in scope means the same where a tag is wanted
abbrev pub TagsAreMeant : Env → Type 0
TagsAreMeant g = (x : List ℕ) → find (tags_in_scope g) x ≡ meant g x

scope_known : (P : List ℕ → Type 0) (g : Env) → TagsAreMeant g → KnowsKinds P g → KnowsStructs P (tags_in_scope g)
scope_known P g same k = structs_known P (tags_in_scope g) (λ x. subst (λ (o : Option Entry). MeansNamed P x o) (sym (same x)) (meant_named P g x k))

abbrev pub TypesName : (List ℕ → Type 0) → List StaticType → Type 0
TypesName P [] = Unit {0}
TypesName P (t ∷ ts) = NamesStructs P t × TypesName P ts

module _ (P : List ℕ → Type 0) where
  abbrev IfNamed : {R : Type 0} → Option (TypeIn R) → Type 0
  IfNamed None = Unit {0}
  IfNamed (Some t) = NamesStructs P t

  abbrev pub Named : {R : Type 0} → Verdict (TypeIn R) → Type 0
  Named v = Perhaps (λ t. NamesStructs P t) v

  -- ---- what is built

  if_named : {R : Type 0} (b : Bool) (t : TypeIn R) → NamesStructs P t → IfNamed (if b then Some t else None)
  if_named true t h = h
  if_named false t h = tt

  if_not_named : {R : Type 0} (b : Bool) (t : TypeIn R) → NamesStructs P t → IfNamed (if b then None else Some t)
  if_not_named true t h = tt
  if_not_named false t h = h

  thin_to_named : (bound : Reach) (f : Found) (t : PartialType) → NamesStructs P t → IfNamed (thin_to bound f t)
  thin_to_named bound IsUnique t h = if_named (nat_eq (number_of bound) 1) (Unique (may_be_null bound) t) h
  thin_to_named bound (Is r) t h = if_not_named (nat_eq (number_of bound) 0) (Thin bound (as_region (Is r)) t) h
  thin_to_named bound Missing t h = if_not_named (nat_eq (number_of bound) 0) (Thin bound (as_region Missing) t) h

  pointer_named : (s : Sign) (f : Found) (t : PartialType) → NamesStructs P t → IfNamed (pointer_to s f t)
  pointer_named s f Void h = tt
  pointer_named s f (Key r) h = tt
  pointer_named sign.Fat IsUnique _ h = tt
  pointer_named sign.Fat (Is r) _ h = h
  pointer_named sign.Fat Missing _ h = h
  pointer_named (sign.Nullable count) f t h = thin_to_named (MayBeNull count) f t h
  pointer_named (sign.NotNull count) f t h = thin_to_named (NeverNull count) f t h

  pointers_named : (ps : List Pointer) (fs : List Found) (o : Option PartialType) → IfNamed o → IfNamed (pointers_to ps fs o)
  pointers_named [] fs o h = h
  pointers_named (p ∷ ps) [] o h = h
  pointers_named (p ∷ ps) (f ∷ fs) None h = h
  pointers_named (p ∷ ps) (f ∷ fs) (Some t) h = pointers_named ps fs (pointer_to p.sign f t) (pointer_named p.sign f t h)

  arguments_named : (n : ℕ) (make : List (Option Region) → PartialType) (args : List Found) (ps : List Pointer)
      (fs : List Found) → ((rs : List (Option Region)) → NamesStructs P (make rs))
      → IfNamed (with_arguments n make args ps fs)
  arguments_named zero make args ps fs h = pointers_named ps fs (Some (make (map as_region args))) (h (map as_region args))
  arguments_named (suc n) make args ps [] h = tt
  arguments_named (suc n) make args ps (f ∷ fs) h = arguments_named n make (args ++ f ∷ []) ps fs h

  -- a struct's tag, where a type begins with one
  abbrev BaseNames : tree.Base → Type 0
  BaseNames (tree.Struct tag rs) = P tag.text
  BaseNames b = Unit {0}

  built_named : (b : tree.Base) (n : ℕ) (ps : List Pointer) (fs : List Found) → BaseNames b → IfNamed (built b n ps fs)
  built_named tree.Int n ps fs h = pointers_named ps fs (Some Int) tt
  built_named tree.Unsigned n ps fs h = pointers_named ps fs (Some Unsigned) tt
  built_named tree.Char n ps fs h = pointers_named ps fs (Some Char) tt
  built_named tree.Void n ps fs h = pointers_named ps fs (Some Void) tt
  built_named (tree.Struct tag rs) n ps fs h = arguments_named n (Struct tag.text) [] ps fs (λ qs. h)
  built_named (tree.Union tag rs) n ps fs h = arguments_named n (Union tag.text) [] ps fs (λ qs. tt)
  built_named (tree.Handle r) n ps [] h = tt
  built_named (tree.Handle r) n ps (f ∷ fs) h = pointers_named ps fs (Some (Handle (as_region f))) tt
  built_named (tree.Key r) n ps [] h = tt
  built_named (tree.Key r) n ps (f ∷ fs) h = pointers_named ps fs (Some (Key (as_region f))) tt

  type_named : (at : ℕ) (o : Option PartialType) → IfNamed o → Named (type_built at o)
  type_named at None h = tt
  type_named at (Some t) h = h

  -- ---- what is written

  tag_named : (g : Tables) (x : tree.Name) → KnowsStructs P g → Perhaps (λ (n : ℕ). P x.text) (tag_of (find g x.text) false x.at)
  tag_named g x k = by (find g x.text) refl
    where
      of : (t : Tag) (b : Bool) → find g x.text ≡ Some (OfTag t) → t.is_union ≡ b
          → Perhaps (λ (n : ℕ). P x.text) (of_kind (same_bool b false) t x.at)
      of t true e u = tt
      of t false e u = k x.text t e u

      by : (o : Option Entry) → find g x.text ≡ o → Perhaps (λ (n : ℕ). P x.text) (tag_of o false x.at)
      by None e = tt
      by (Some (OfTag t)) e =
          perhaps_sound (λ (n : ℕ). P x.text) t.sound (of_kind (same_bool t.is_union false) t x.at) (of t t.is_union e refl)
      by (Some (OfValue v)) e = tt
      by (Some (OfFunction s)) e = tt
      by (Some (OfBuiltin n)) e = tt
      by (Some OfOther) e = tt

  always : {A : Type 0} (v : Verdict A) → Perhaps (λ (a : A). Unit {0}) v
  always (Of a) = tt
  always (Faulty f fs) = tt
  always Unjudged = tt

  base_named : (g : Tables) (b : tree.Base) → KnowsStructs P g → Perhaps (λ (n : ℕ). BaseNames b) (base_of g b)
  base_named g (tree.Struct tag rs) k = tag_named g tag k
  base_named g (tree.Union tag rs) k = always (tag_of (find g tag.text) true tag.at)
  base_named g _ k = tt

  on_named : (t : TypeName) (fs : List Found) (bad : List Fault) (v : Verdict ℕ) → Perhaps (λ (n : ℕ). BaseNames t.base) v → Named (written_on t fs bad v)
  on_named t fs bad (Faulty f others) h = tt
  on_named t fs bad Unjudged h = perhaps_unless (λ z. NamesStructs P z) bad Unjudged tt
  on_named t fs bad (Of n) h =
      perhaps_unless (λ z. NamesStructs P z) bad (counted_type t fs n (count_fits t.base n)) (by (count_fits t.base n))
    where
      by : (b : Bool) → Named (counted_type t fs n b)
      by true = type_named t.at (built t.base n t.pointers fs) (built_named t.base n t.pointers fs h)
      by false = tt

  with_named : (g : Tables) (t : TypeName) (fs : List Found × List Fault) → KnowsStructs P g → Named (written_with g t fs)
  with_named g t (fs, bad) k = on_named t fs bad (base_of g t.base) (base_named g t.base k)

  pub written_named : (g : Tables) (names : List RegionNamed) (t : TypeName) → KnowsStructs P g → Named (written g names t)
  written_named g names t k = with_named g t (all_found names (spots_of g t)) k

  -- ---- missing regions

  alone_one_named : (one : Bool) (n : Reach) (t : StaticType) → NamesStructs P t → IfNamed (alone_with one n t)
  alone_one_named true n t h = h
  alone_one_named false n t h = tt

  thin_named : (n : Reach) (f : Found) (o : Option StaticType) → IfNamed o → IfNamed (thin_with n f o)
  thin_named n f None h = tt
  thin_named n (Is r) (Some t) h = h
  thin_named n IsUnique (Some t) h = alone_one_named (nat_eq (number_of n) 1) n t h
  thin_named n Missing (Some t) h = h

  fat_named : (f : Found) (o : Option StaticType) → IfNamed o → IfNamed (fat_with f o)
  fat_named f None h = tt
  fat_named (Is r) (Some t) h = h
  fat_named IsUnique (Some t) h = tt
  fat_named Missing (Some t) h = h

  unique_named : (n : Bool) (o : Option StaticType) → IfNamed o → IfNamed (unique_with n o)
  unique_named n None h = tt
  unique_named n (Some t) h = h

  filled_named : (p : PartialType) (s : Option StaticType) → NamesStructs P p → IfNamed (filled_from p s)
  filled_named (Thin n r t) s h = thin_named n (or_found r (outer_region s)) (filled_from t (pointee_of s)) (filled_named t (pointee_of s) h)
  filled_named (Fat r t) s h = fat_named (or_found r (outer_region s)) (filled_from t (pointee_of s)) (filled_named t (pointee_of s) h)
  filled_named (Unique n t) s h = unique_named n (filled_from t (pointee_of s)) (filled_named t (pointee_of s) h)
  filled_named (Struct tag rs) s h = h
  filled_named _ s h = tt

  settled_named : (at : ℕ) (p : PartialType) (s : Option StaticType) → NamesStructs P p → Named (settled at p s)
  settled_named at p s h = by (filled_from p s) (filled_named p s h)
    where
      by : (o : Option StaticType) → IfNamed o → Named (as_type at o)
      by None k = tt
      by (Some t) k = k

  alone_named : (at : ℕ) (v : Verdict PartialType) → Named v → Named (after v (settled_alone at))
  alone_named at v h = perhaps_after (λ p. NamesStructs P p) (λ t. NamesStructs P t) v (settled_alone at) h (λ p k. settled_named at p None k)

  -- ---- members, parameters and results

  pub member_named : (g : Env) (union : Bool) (t : TypeName) → KnowsStructs P g.tables → Named (member_type g union t)
  member_named g union t k =
      perhaps_after (λ u. NamesStructs P u) (λ u. NamesStructs P u) (after (written g.tables g.names t) (settled_alone t.at)) (member_fitting g union t.at)
      (alone_named t.at (written g.tables g.names t) (written_named g.tables g.names t k))
      (λ u h. perhaps_fits (λ z. NamesStructs P z) (fits_member union u && stands_earlier g u) t.at u h)

  parameter_named : (g : Tables) (t : TypeName) (s : AllSpotted) → KnowsStructs P g → Named (parameter_type g t s)
  parameter_named g t s k =
      perhaps_after (λ u. NamesStructs P u) (λ u. NamesStructs P u) (after (written_with g t (s.found, s.faults)) (settled_alone t.at)) (if_parameter t.at)
      (alone_named t.at (written_with g t (s.found, s.faults)) (with_named g t (s.found, s.faults) k))
      (λ u h. perhaps_fits (λ z. NamesStructs P z) (fits_parameter u) t.at u h)

  pub result_named : (g : Tables) (names : List RegionNamed) (t : TypeName) → KnowsStructs P g → Named (result_type g names t)
  result_named g names t k =
      perhaps_after (λ u. NamesStructs P u) (λ u. NamesStructs P u) (after (written g names t) (settled_alone t.at)) (if_result t.at)
      (alone_named t.at (written g names t) (written_named g names t k))
      (λ u h. perhaps_fits (λ z. NamesStructs P z) (is_void u || fits_parameter u) t.at u h)

  pub parameters_named : (g : Tables) (vs : Variables) (ms : List tree.Member) (ts : List StaticType) → KnowsStructs P g
      → map known (read_parameters g vs ms).types ≡ map (λ t. Some t) ts → TypesName P ts
  parameters_named g vs ms [] k e = tt
  parameters_named g vs [] (t ∷ ts) k e = absurd cc
  parameters_named g vs (m ∷ ms) (t ∷ ts) k e =
      let s : AllSpotted = take_spots vs (spots_of g m.of) in
      let v : Verdict StaticType = parameter_type g m.of s in
      let a : known v ≡ Some t = cc in
      let c : map known (read_parameters g s.after_all ms).types ≡ map (λ t. Some t) ts = cc in
      (by v (parameter_named g m.of s k) a, parameters_named g s.after_all ms ts k c)
    where
      by : (v : Verdict StaticType) → Named v → known v ≡ Some t → NamesStructs P t
      by (Of u) h e = let same : u ≡ t = cc in subst (λ z. NamesStructs P z) same h
      by (Faulty f fs) h e = absurd cc
      by Unjudged h e = absurd cc

  -- ---- variables

  fitting_named : (g : Env) (at : ℕ) (count : Option ℕ) (fits : Bool) (t : StaticType) → NamesStructs P t → Named (fitting g at count fits t)
  fitting_named g at count fits t h =
      perhaps_fitting (λ z. NamesStructs P z) (fits && can_be g count t) at t (if_sized (fits_bytes (variable_size g.tables count t)) at)
      (by (fits_bytes (variable_size g.tables count t)))
    where
      by : (b : Bool) → Named (if_sized b at t)
      by true = h
      by false = tt

  local_named : (g : Env) (at : ℕ) (count : Option ℕ) (set : Bool) (s : Option StaticType) (p : PartialType) → NamesStructs P p
      → Named (local_type g at count set s p)
  local_named g at count set s p h =
      perhaps_after (λ u. NamesStructs P u) (λ u. NamesStructs P u) (settled at p s) (fitting_local g at count set) (settled_named at p s h)
      (λ u k. fitting_named g at count (set || has_beginning g.tables u) u k)

  pub unset_named : (g : Env) (t : TypeName) (count : Option ℕ) → TagsAreMeant g → KnowsKinds P g → Named (unset_type g t count)
  unset_named g t count same k =
      perhaps_after (λ p. NamesStructs P p) (λ u. NamesStructs P u) (type_in_scope g t) (local_type g t.at count false None)
      (written_named (tags_in_scope g) g.names t (scope_known P g same k)) (λ p h. local_named g t.at count false None p h)

  from_named : (g : Env) (at : ℕ) (b : Bool) (v : Verdict Value) (p : PartialType) → NamesStructs P p → Named (taken_from g at b v p)
  from_named g at true (Faulty f fs) p h = tt
  from_named g at true Unjudged p h = tt
  from_named g at true (Of v) p h = local_named g at None true (Some v.type) p h
  from_named g at false v p h = local_named g at None true None p h

  pub set_named : (g : Env) (t : TypeName) (v : Verdict Value) → TagsAreMeant g → KnowsKinds P g → Named (set_type g t v)
  set_named g t v same k =
      perhaps_after (λ p. NamesStructs P p) (λ u. NamesStructs P u) (type_in_scope g t) (taken_from g t.at (misses_region g t) v)
      (written_named (tags_in_scope g) g.names t (scope_known P g same k)) (λ p h. from_named g t.at (misses_region g t) v p h)

  pub global_named : (g : Env) (x : tree.Global) → KnowsStructs P g.tables → Named (global_type g x)
  global_named g x k =
      let names : List RegionNamed = foreign_names (spots_of g.tables x.of) in
      perhaps_after (λ u. NamesStructs P u) (λ u. NamesStructs P u) (after (written g.tables names x.of) (settled_alone x.of.at))
      (fitting_global g x.of.at (count_of x.initial) (has_none names)) (alone_named x.of.at (written g.tables names x.of) (written_named g.tables names x.of k))
      (λ u h. fitting_named g x.of.at (count_of x.initial) (has_none names && not (is_key u) && has_beginning g.tables u) u h)
