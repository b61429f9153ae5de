-- Each object has a byte at least: so an array of which the rules find no fault has no more elements than an array may have bytes.
use Rattle.std.proofs.Common.{◌≡◌, ℕ, zero, suc, ◌<◌, ◌≤◌, ◌+◌, ◌*◌, ◌^◌, Bool, true, false, Option, Some, None, List, [], ◌∷◌, max, refl, sym, subst, ap}
use Rattle.std.proofs.Common.{◌∙◌, arith}
use Rattle.std.specs.Prelude.{bytes_eq, if◌then◌else◌, not, ◌&&◌}
use Rattle.std.proofs.Math.Nat.{mul-suc}
use Rattle.std.proofs.lemmas.Bool.{leb-true}
use Rattle.cyc_tree.specs.Tree as tree
use Rattle.cyc_tree.specs.Tree.{Initial, Initializer, TypeName}
use Rattle.source_lowering.specs.Layouts.{extent_of}
use Rattle.source_lowering.specs.Lowerable.{AreObjects, AreStructs, HasMember, IsObject, IsValueShape}
use Rattle.source_meaning.proofs.Layouts.{laid_above}
use Rattle.source_meaning.specs.Programs.{global_shape}
use Rattle.source_meaning.specs.Shapes as shapes
use Rattle.source_meaning.specs.Shapes.{Layout, Part, Shape, StructShape, has_tag, part_shapes, parts_of}
use Rattle.source_meaning.specs.Sizes.{Extent, extent_by, laid_out, largest, no_extent, rounded_up, struct_extent, union_extent}
use Rattle.source_meaning.specs.Steps.{World}
use Rattle.type_proof.specs.Judged.{arrayed, named}
use Rattle.source_typing.specs.Declarations.{can_be, declare, fitting, fitting_local, if_sized, local_type, type_in_scope, unset_type, what_of}
use Rattle.source_typing.specs.Extents.{fits_bytes, size_of, variable_size}
use Rattle.source_typing.specs.Globals.{count_of, fitting_global, foreign_names, global_faults, global_size, global_type, has_none, if_clean, typed_size}
use Rattle.source_typing.specs.Missing.{settled}
use Rattle.source_typing.specs.Regions.{Region}
use Rattle.source_typing.specs.Scope.{Env, Local, second}
use Rattle.source_typing.specs.Tables.{Arrayed, Unknown, What, has_beginning}
use Rattle.source_typing.specs.Tags.{settled_alone}
use Rattle.source_typing.specs.Types.{StaticType, is_key}
use Rattle.source_typing.specs.Verdicts.{Faulty, Of, Unjudged, Verdict, after, if_fits}
use Rattle.source_typing.specs.Written.{spots_of, written}
use Rattle.source_typing.proofs.Inversion.{after_is, of_is}
use Rattle.accepted_proof.proofs.Constants.{IsFew}
use Rattle.accepted_proof.proofs.good.Scopes.{one_more}

-- ---- bytes of objects

value_positive : (f g : List ℕ → Extent) (s : Shape) → IsValueShape s → 1 ≤ (extent_by f g s).size
value_positive f g shapes.IntShape h = omega arith
value_positive f g shapes.UnsignedShape h = omega arith
value_positive f g shapes.CharShape h = omega arith
value_positive f g (shapes.ThinShape b o t) h = omega arith
value_positive f g (shapes.FatShape t) h = omega arith
value_positive f g shapes.HandleShape h = omega arith
value_positive f g shapes.KeyShape h = omega arith
value_positive f g _ h = absurd h

-- a union has those of the number of its member
union_positive : (n : ℕ) → 1 ≤ rounded_up (4 + n) 4
union_positive n = omega arith

-- where each struct has one
shape_positive : (unions structs : List Layout) (s : Shape)
    → ((tag : List ℕ) → has_tag structs tag ≡ true → 1 ≤ (struct_extent unions structs tag).size) → IsObject unions structs s
    → 1 ≤ (extent_by (struct_extent unions structs) (union_extent unions) s).size
shape_positive unions structs (StructShape tag) each h = each tag h
shape_positive unions structs shapes.IntShape each h = omega arith
shape_positive unions structs shapes.UnsignedShape each h = omega arith
shape_positive unions structs shapes.CharShape each h = omega arith
shape_positive unions structs (shapes.ThinShape b o t) each h = omega arith
shape_positive unions structs (shapes.FatShape t) each h = omega arith
shape_positive unions structs shapes.HandleShape each h = omega arith
shape_positive unions structs shapes.KeyShape each h = omega arith
shape_positive unions structs (shapes.UnionShape tag) each h = union_positive (largest (extent_by no_extent no_extent) 0 (parts_of unions tag))
shape_positive unions structs _ each h = absurd h

-- a struct has those of its first member
laid_positive : (extent : Shape → Extent) (unions structs : List Layout) (so_far : Extent) (ps : List Part) → HasMember ps
    → AreObjects unions structs (part_shapes ps) → ((s : Shape) → IsObject unions structs s → 1 ≤ (extent s).size) → 1 ≤ (laid_out extent so_far ps).size
laid_positive extent unions structs so_far [] h o each = absurd h
laid_positive extent unions structs so_far (p ∷ ps) h o each =
    let e : Extent = extent p.shape in
    let first : 1 ≤ e.size = each p.shape o.0 in
    let more : rounded_up so_far.size e.align + e.size ≤ (laid_out extent so_far (p ∷ ps)).size =
    laid_above extent (record { size = rounded_up so_far.size e.align + e.size; align = max so_far.align e.align }) ps in
    omega (arith, first, more)

struct_positive : (unions structs : List Layout) → AreStructs unions structs → (tag : List ℕ) → has_tag structs tag ≡ true
    → 1 ≤ (struct_extent unions structs tag).size
struct_positive unions [] a tag h = absurd cc
struct_positive unions (l ∷ earlier) a tag h = by (bytes_eq l.tag tag) (λ k. struct_positive unions earlier a.1 tag k)
    (λ s o. shape_positive unions earlier s (struct_positive unions earlier a.1) o) h
  where
    extent : Shape → Extent
    extent = extent_by (struct_extent unions earlier) (union_extent unions)

    by : (b : Bool) → (has_tag earlier tag ≡ true → 1 ≤ (struct_extent unions earlier tag).size)
        → ((s : Shape) → IsObject unions earlier s → 1 ≤ (extent s).size)
        → (if b then true else has_tag earlier tag) ≡ true
        → 1 ≤ (if b then laid_out extent (no_extent tag) l.parts else struct_extent unions earlier tag).size
    by true others each h = laid_positive extent unions earlier (no_extent tag) l.parts a.0.some a.0.members each
    by false others each h = others h

pub object_positive : (unions structs : List Layout) → AreStructs unions structs → (s : Shape) → IsObject unions structs s
    → 1 ≤ (extent_by (struct_extent unions structs) (union_extent unions) s).size
object_positive unions structs a s o = shape_positive unions structs s (struct_positive unions structs a) o

-- ---- counts of elements

few_elements : (n size most : ℕ) → 1 ≤ size → n * size ≤ most → n ≤ most
few_elements n zero most p h = absurd (omega (arith, p))
few_elements n (suc k) most p h =
    let all : n * k + n ≤ most = subst (λ z. z ≤ most) (mul-suc n k) h in omega (arith, all)

-- what fits is the type itself, and has so few bytes
fitting_sized : (b c : Bool) (at : ℕ) (t u : StaticType) → after (if_fits b at t) (if_sized c at) ≡ Of u → (c ≡ true) × (t ≡ u)
fitting_sized true true at t u e = (refl, of_is t u e)
fitting_sized true false at t u e = absurd cc
fitting_sized false c at t u e = absurd cc

fitting_few : (g : Env) (at : ℕ) (count : Option ℕ) (fits : Bool) (t u : StaticType) → fitting g at count fits t ≡ Of u → variable_size g.tables count u ≤ 4096
fitting_few g at count fits t u e =
    let d = fitting_sized (fits && can_be g count t) (fits_bytes (variable_size g.tables count t)) at t u e in
    subst (λ (z : StaticType). variable_size g.tables count z ≤ 4096) d.1 (leb-true (variable_size g.tables count t) 4096 d.0)

-- ---- locals

-- the meaning of the last name
abbrev first_what : List Local → What
first_what [] = Unknown true
first_what (l ∷ ls) = l.what

array_is : (v : Verdict StaticType) (n : ℕ) (r : Region) (t : StaticType) → what_of r (Some n) v ≡ Arrayed t r → v ≡ Of t
array_is (Of u) n r t e = let same : u ≡ t = cc in ap (λ (z : StaticType). Of z) same
array_is (Faulty f fs) n r t e = absurd cc
array_is Unjudged n r t e = absurd cc

-- an array that a block has is of no more bytes than a variable may have
pub local_few : (g : Env) (of : TypeName) (x : tree.Name) (n : ℕ) (t : StaticType) → second g x ≡ []
    → (declare g (tree.Local of x (Initializer.Elements n))).scope ≡ arrayed g x t → n * size_of g.tables t ≤ 4096
local_few g of x n t once e =
    let w : What = what_of g.frame (Some n) (unset_type g of (Some n)) in
    let scopes : named g x w ≡ arrayed g x t = sym (one_more x w g once) ∙ e in
    let what : w ≡ Arrayed t g.frame = ap (λ (s : Env). first_what s.locals) scopes in
    let type : unset_type g of (Some n) ≡ Of t = array_is (unset_type g of (Some n)) n g.frame t what in
    let p = after_is (type_in_scope g of) (local_type g of.at (Some n) false None) t type in
    let q = after_is (settled of.at p.0 None) (fitting_local g of.at (Some n) false) t p.2 in
    fitting_few g of.at (Some n) (has_beginning g.tables q.0) q.0 t q.2

-- ---- globals

typed_few : (g : Env) (x : tree.Global) (v : Verdict StaticType) → ((t : StaticType) → v ≡ Of t → variable_size g.tables (count_of x.initial) t ≤ 4096)
    → typed_size g x v ≤ 4096
typed_few g x (Of t) h = h t refl
typed_few g x (Faulty f fs) h = omega arith
typed_few g x Unjudged h = omega arith

pub global_few : (g : Env) (x : tree.Global) → global_faults g x ≡ [] → global_size g x ≤ 4096
global_few g x p = subst (λ fs. if_clean fs (typed_size g x (global_type g x)) ≤ 4096) (sym p) (typed_few g x (global_type g x) by)
  where
    by : (t : StaticType) → global_type g x ≡ Of t → variable_size g.tables (count_of x.initial) t ≤ 4096
    by t e =
        let names = foreign_names (spots_of g.tables x.of) in
        let q = after_is (after (written g.tables names x.of) (settled_alone x.of.at)) (fitting_global g x.of.at (count_of x.initial) (has_none names)) t e in
        fitting_few g x.of.at (count_of x.initial) (has_none names && not (is_key q.0) && has_beginning g.tables q.0) q.0 t q.2

pub count_few : (n size : ℕ) → 1 ≤ size → n * size ≤ 4096 → n < 2 ^ 32
count_few n size p h = let few : n ≤ 4096 = few_elements n size 4096 p h in omega (arith, few)

pub elements_few : (w : World) (i : Initial) (s : Shape) → AreStructs w.unions w.structs → IsObject w.unions w.structs s
    → (extent_of w (global_shape i s)).size ≤ 4096
    → IsFew i
elements_few w Initial.Unset s a o h = tt
elements_few w (Initial.Elements n) s a o h = count_few n (extent_of w s).size (object_positive w.unions w.structs a s o) h
elements_few w (Initial.Given c) s a o h = tt
