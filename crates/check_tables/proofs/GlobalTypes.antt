-- The types of globals.
use Rattle.std.proofs.Common.{◌≡◌, ℕ, suc, zero, Bool, true, false, List, [], ◌∷◌, ◌++◌, map, refl, sym, ap, subst, ◌∙◌}
use Rattle.std.specs.Prelude.{None, Option, Some, bytes_eq, is_some, not, replicate, ◌&&◌, ◌||◌, if◌then◌else◌}
use Rattle.std.specs.List.{list_all}
use Rattle.std.proofs.lemmas.Slice.Eq.{bytes_eq-Decides}
use Rattle.cyc_tree.specs.Tree.{TypeName}
use Rattle.cyc_tree.specs.View.{pointer_tree, region_tree}
use Rattle.cyc_tree.specs.declared.name.Pointer.{Pointer}
use Rattle.cyc_tree.specs.declared.name.RegionName as code_region
use Rattle.cyc_types.specs.Sameness.{HasTags}
use Rattle.cyc_types.specs.Tables.{tables_of}
use Rattle.cyc_types.specs.declared.tables.Tables as code_tables
use Rattle.check_declarations.specs.Declaring.{could_be, elements_fit, fitting_by, stands_before}
use Rattle.check_declarations.proofs.LocalTypes.{Alike, alike, can_be_is, size_alike, stands_is}
use Rattle.source_typing.specs.Declarations.{can_be, if_sized, name_added}
use Rattle.source_typing.specs.Extents.{fits_bytes, variable_size}
use Rattle.source_typing.specs.Globals.{count_of, fitting_global, foreign_names, global_type, has_none}
use Rattle.source_typing.specs.Regions.{Region, TheHeap}
use Rattle.source_typing.specs.Scope.{Env, at_item}
use Rattle.source_typing.specs.Tables.{Tables, has_beginning, tag_in}
use Rattle.source_typing.specs.Tags.{settled_alone}
use Rattle.source_typing.specs.Types.{Char, Fat, Handle, Int, Key, Null, StaticType, Struct, Thin, Union, Unique, Unsigned, Void}
use Rattle.source_typing.specs.Types.{is_key, is_void}
use Rattle.source_typing.specs.Verdicts.{Faulty, Of, Unjudged, Verdict, after, if_fits}
use Rattle.source_typing.proofs.RegionNames.{written_alike}
use Rattle.source_typing.specs.Written.{RegionNamed, Spot, base_spots, find_region, regions_of_tag, spot, spots_of, written}
use Rattle.check_types.specs.Arguments.{named_spots}
use Rattle.check_tables.specs.Globals.{base_regions, foreign_in, is_unnamed, named_region, names_none, or_region, spots_in, type_spots}
use Rattle.cyc_tree.specs.Tree as tree

-- ---- region names

unnamed_more : (p : Bool) (r : Option tree.RegionName) (ss : List Spot) → (is_unnamed r && names_none ss) ≡ names_none (spot p r ∷ ss)
unnamed_more p None ss = refl
unnamed_more p (Some (tree.Heap at)) ss = refl
unnamed_more p (Some (tree.Unique at)) ss = refl
unnamed_more p (Some (tree.Named n)) ss = refl

pub each_pointer : (ps : List Pointer) → list_all (λ p. is_unnamed (pointer_tree p).region) ps ≡ names_none (spots_in (map pointer_tree ps))
each_pointer [] = refl
each_pointer (p ∷ ps) =
    let r = (pointer_tree p).region in
    ap (λ b. is_unnamed r && b) (each_pointer ps) ∙ unnamed_more true r (spots_in (map pointer_tree ps))

pub each_argument : (rs : List code_region.RegionName) → list_all (λ r. is_unnamed (Some (region_tree r))) rs ≡ names_none (named_spots (map region_tree rs))
each_argument [] = refl
each_argument (r ∷ rs) =
    ap (λ b. is_unnamed (Some (region_tree r)) && b) (each_argument rs) ∙ unnamed_more false (Some (region_tree r)) (named_spots (map region_tree rs))

-- none is named before and after
pub none_both : (rs : List tree.RegionName) (ss : List Spot) → (names_none (named_spots rs) && names_none ss) ≡ names_none (named_spots rs ++ ss)
none_both [] ss = refl
none_both (tree.Heap at ∷ rs) ss = none_both rs ss
none_both (tree.Unique at ∷ rs) ss = none_both rs ss
none_both (tree.Named n ∷ rs) ss = refl

-- one name more
pub name_more : (old : List RegionNamed) (n : tree.Name) (ss : List Spot) (x : List ℕ)
    → or_region (find_region (name_added (is_some (find_region old n.text)) n TheHeap old) x) (foreign_in ss x)
    ≡ or_region (find_region old x) (if bytes_eq n.text x then Some TheHeap else foreign_in ss x)
name_more old n ss x = by (find_region old n.text) refl (bytes_eq n.text x) refl
  where
    by : (o : Option Region) → find_region old n.text ≡ o → (b : Bool) → bytes_eq n.text x ≡ b
        → or_region (find_region (name_added (is_some o) n TheHeap old) x) (foreign_in ss x)
        ≡ or_region (find_region old x) (if b then Some TheHeap else foreign_in ss x)
    by None e true h =
        ap (λ (b : Bool). or_region (if b then Some TheHeap else find_region old x) (foreign_in ss x)) h
        ∙ sym (ap (λ o. or_region o (Some TheHeap)) (ap (find_region old) (sym ((bytes_eq-Decides n.text x).0 h)) ∙ e))
    by None e false h = ap (λ (b : Bool). or_region (if b then Some TheHeap else find_region old x) (foreign_in ss x)) h
    by (Some r) e true h =
        let there : find_region old x ≡ Some r = ap (find_region old) (sym ((bytes_eq-Decides n.text x).0 h)) ∙ e in
        ap (λ o. or_region o (foreign_in ss x)) there ∙ sym (ap (λ o. or_region o (Some TheHeap)) there)
    by (Some r) e false h = refl

-- by the name of a region
abbrev with_name : Option tree.Name → Option Region → List ℕ → Option Region
with_name None o x = o
with_name (Some n) o x = (if bytes_eq n.text x then Some TheHeap else o)

next_foreign : (p : Bool) (r : Option tree.RegionName) (ss : List Spot) (x : List ℕ)
    → foreign_in (spot p r ∷ ss) x ≡ with_name (named_region r) (foreign_in ss x) x
next_foreign p None ss x = refl
next_foreign p (Some (tree.Heap at)) ss x = refl
next_foreign p (Some (tree.Unique at)) ss x = refl
next_foreign p (Some (tree.Named n)) ss x = refl

pub name_added_next : (old new : List RegionNamed) (r : Option tree.RegionName) (n : tree.Name) → Some n ≡ named_region r
    → new ≡ name_added (is_some (find_region old n.text)) n TheHeap old → (p : Bool) (ss : List Spot) (x : List ℕ)
    → or_region (find_region new x) (foreign_in ss x) ≡ or_region (find_region old x) (foreign_in (spot p r ∷ ss) x)
name_added_next old new r n named added p ss x =
    ap (λ l. or_region (find_region l x) (foreign_in ss x)) added
    ∙ name_more old n ss x
    ∙ ap (λ o. or_region (find_region old x) (with_name o (foreign_in ss x) x)) named
    ∙ ap (or_region (find_region old x)) (sym (next_foreign p r ss x))

pub no_name_next : (old : List RegionNamed) (r : Option tree.RegionName) → None ≡ named_region r → (p : Bool) (ss : List Spot) (x : List ℕ)
    → or_region (find_region old x) (foreign_in ss x) ≡ or_region (find_region old x) (foreign_in (spot p r ∷ ss) x)
no_name_next old r none p ss x =
    ap (λ o. or_region (find_region old x) (with_name o (foreign_in ss x) x)) none ∙ ap (or_region (find_region old x)) (sym (next_foreign p r ss x))

pub no_more : (o : Option Region) → or_region o None ≡ o
no_more None = refl
no_more (Some r) = refl

-- ---- the regions of a type

-- a missing region has no name
missing_unnamed : (n : ℕ) (ss : List Spot) → foreign_names (replicate n (spot false None) ++ ss) ≡ foreign_names ss
missing_unnamed zero ss = refl
missing_unnamed (suc n) ss = missing_unnamed n ss

-- the names of its regions are those that are written
pub names_are : (g : Tables) (t : TypeName) → foreign_names (spots_of g t) ≡ foreign_names (type_spots t)
names_are g t = by t.base
  where
    by : (b : tree.Base) → foreign_names (base_spots g b ++ spots_in t.pointers) ≡ foreign_names (named_spots (base_regions b) ++ spots_in t.pointers)
    by tree.Int = refl
    by tree.Unsigned = refl
    by tree.Char = refl
    by tree.Void = refl
    by (tree.Struct tag []) = missing_unnamed (regions_of_tag (tag_in g tag.text)) (spots_in t.pointers)
    by (tree.Struct tag (r ∷ rs)) = refl
    by (tree.Union tag []) = missing_unnamed (regions_of_tag (tag_in g tag.text)) (spots_in t.pointers)
    by (tree.Union tag (r ∷ rs)) = refl
    by (tree.Handle r) = refl
    by (tree.Key r) = refl

-- ---- what a global may be

-- a key has no beginning
no_key : (g : Tables) (t : StaticType) → (false || has_beginning g t) ≡ (true && not (is_key t) && has_beginning g t)
no_key g Int = refl
no_key g Unsigned = refl
no_key g Char = refl
no_key g Void = refl
no_key g Null = refl
no_key g (Thin n r t) = refl
no_key g (Fat r t) = refl
no_key g (Unique n t) = refl
no_key g (Handle r) = refl
no_key g (Key r) = refl
no_key g (Struct x rs) = refl
no_key g (Union x rs) = refl

elements_are : (g : Env) (count : Option ℕ) (t : StaticType)
    → (not (is_void t) && (stands_before g.tables g.item t && elements_fit count t)) ≡ can_be g count t
elements_are g count t = ap (λ b. not (is_void t) && (b && elements_fit count t)) (sym (stands_is g t)) ∙ can_be_is g count t

-- as a variable that has no value set, or an array, by the structs and unions in code
pub global_fits : (tables : code_tables.Tables) (g : Tables) (l : Bool) (item at : ℕ) (count : Option ℕ) (t : StaticType) → HasTags tables g
    → fitting_by (could_be (tables_of tables) item count false t) (fits_bytes (variable_size (tables_of tables) count t)) at t
    ≡ fitting_global (at_item l g item) at count true t
global_fits tables g l item at count t has =
    let h : Tables = tables_of tables in
    let same : Alike g h item t = alike tables g item t has in
    ap (λ b. fitting_by ((false || b) && (not (is_void t) && (stands_before h item t && elements_fit count t))) (fits_bytes (variable_size h count t)) at t)
    (sym same.begins)
    ∙ ap (λ b. fitting_by ((false || has_beginning g t) && (not (is_void t) && (b && elements_fit count t))) (fits_bytes (variable_size h count t)) at t)
    (sym same.stands)
    ∙ ap (λ n. fitting_by ((false || has_beginning g t) && (not (is_void t) && (stands_before g item t && elements_fit count t))) (fits_bytes n) at t)
    (sym (size_alike g h count t same.size))
    ∙ ap (λ b. fitting_by ((false || has_beginning g t) && b) (fits_bytes (variable_size g count t)) at t) (elements_are (at_item l g item) count t)
    ∙ ap (λ b. fitting_by (b && can_be (at_item l g item) count t) (fits_bytes (variable_size g count t)) at t) (no_key g t)

-- the type of a global, by names that mean what those of its regions mean
pub global_typed : (g : Env) (x : tree.Global) (names : List RegionNamed) (count : Option ℕ) (b : Bool) → count_of x.initial ≡ count
    → ((y : List ℕ) → find_region names y ≡ foreign_in (type_spots x.of) y) → b ≡ names_none (type_spots x.of)
    → after (after (written g.tables names x.of) (settled_alone x.of.at)) (fitting_global g x.of.at count b) ≡ global_type g x
global_typed g x names count b counted alike unnamed =
    let foreign = foreign_names (type_spots x.of) in
    ap (λ v. after (after v (settled_alone x.of.at)) (fitting_global g x.of.at count b)) (written_alike names foreign alike g.tables x.of)
    ∙ ap (λ c. after (after (written g.tables foreign x.of) (settled_alone x.of.at)) (fitting_global g x.of.at count c)) unnamed
    ∙ ap (λ fs. after (after (written g.tables fs x.of) (settled_alone x.of.at)) (fitting_global g x.of.at count (has_none fs)))
    (sym (names_are g.tables x.of))
    ∙ ap (λ n. after (after (written g.tables (foreign_names (spots_of g.tables x.of)) x.of) (settled_alone x.of.at))
    (fitting_global g x.of.at n (has_none (foreign_names (spots_of g.tables x.of))))) (sym counted)

-- ---- bytes

same_of : (t u : StaticType) → (let v : Verdict StaticType = Of t in v) ≡ Of u → t ≡ u
same_of t u e = ap type_or e
  where
    type_or : Verdict StaticType → StaticType
    type_or (Of a) = a
    type_or v = t

-- what fits has at most 4,096 bytes
fitting_sized : (g : Env) (at : ℕ) (count : Option ℕ) (native : Bool) (v : Verdict StaticType) (t : StaticType)
    → after v (fitting_global g at count native) ≡ Of t → fits_bytes (variable_size g.tables count t) ≡ true
fitting_sized g at count native (Faulty f fs) t e = absurd cc
fitting_sized g at count native Unjudged t e = absurd cc
fitting_sized g at count native (Of u) t e =
    by ((native && not (is_key u) && has_beginning g.tables u) && can_be g count u) (fits_bytes (variable_size g.tables count u)) refl e
  where
    by : (c b : Bool) → fits_bytes (variable_size g.tables count u) ≡ b → after (if_fits c at u) (if_sized b at) ≡ Of t
        → fits_bytes (variable_size g.tables count t) ≡ true
    by true true s h = subst (λ (z : StaticType). fits_bytes (variable_size g.tables count z) ≡ true) (same_of u t h) s
    by true false s h = absurd cc
    by false b s h = absurd cc

pub global_sized : (g : Env) (x : tree.Global) (t : StaticType) → global_type g x ≡ Of t
    → fits_bytes (variable_size g.tables (count_of x.initial) t) ≡ true
global_sized g x t e =
    let names = foreign_names (spots_of g.tables x.of) in
    fitting_sized g x.of.at (count_of x.initial) (has_none names) (after (written g.tables names x.of) (settled_alone x.of.at)) t e
