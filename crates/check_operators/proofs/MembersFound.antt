-- Members of structs, by outermost pointers and bases.
use Rattle.std.proofs.Common.{◌≡◌, ℕ, Bool, true, false, Option, Some, None, List, refl, sym, ap, ◌∙◌}
use Rattle.cyc_tree.specs.Tree.{Name}
use Rattle.cyc_types.specs.Bases.{base_type}
use Rattle.cyc_types.specs.Layers.{outermost, pointer_to}
use Rattle.cyc_types.specs.Regions.{region_of}
use Rattle.cyc_types.specs.Sameness.{HasTags}
use Rattle.cyc_types.specs.Tables.{tables_of}
use Rattle.cyc_types.specs.Types.{static_type}
use Rattle.cyc_types.specs.declared.base.BaseType.{BaseType}
use Rattle.cyc_types.specs.declared.base.BaseType.TheVariants as base
use Rattle.cyc_types.specs.declared.ctype.CType.{CType}
use Rattle.cyc_types.specs.declared.layer.Layer.{Layer}
use Rattle.cyc_types.specs.declared.layer.Layer.TheVariants as code
use Rattle.cyc_types.specs.declared.tables.Tables.{Tables}
use Rattle.cyc_types.proofs.Converting.{by_none, by_outer}
use Rattle.check_operators.specs.StructMembers.{arrow_on, live_part, member_on}
use Rattle.check_operators.specs.Pointers.{is_reached, seat_behind}
use Rattle.source_typing.specs.Faults.{type_rule}
use Rattle.source_typing.specs.Places.{arrow_live, arrow_of, member_of, part_found, part_of}
use Rattle.source_typing.specs.Regions.{Region}
use Rattle.source_typing.specs.Scope.{Env, In, InBlock, Nowhere, Seat, is_live}
use Rattle.source_typing.specs.Tables.{Tag, part_in, parts_in, parts_of_tag}
use Rattle.source_typing.specs.Types.{StaticType}
use Rattle.source_typing.specs.Verdicts.{refuse}

-- ---- a member of a tag

pub part_by : (tables : Tables) (g : Env) → HasTags tables g.tables → (at : ℕ) (s : Seat) (tag : List ℕ) (rs : List Region) (f : Name)
    → part_found at s rs f.at (part_in (parts_in (tables_of tables) tag) f.text) ≡ part_of g at s tag rs f
part_by tables g has at s tag rs f =
    ap (λ (t : Option Tag). part_found at s rs f.at (part_in (parts_of_tag t) f.text)) (sym (has.tags tag))

-- ---- `e.f`

pointer_member : (g : Env) (f : Name) (at : ℕ) (s : Seat) (l : Layer) (t : StaticType) → member_of g f at (pointer_to l t) s ≡ refuse type_rule at
pointer_member g f at Nowhere l t = refl
pointer_member g f at (In r) (code.Thin n q) t = refl
pointer_member g f at (In r) (code.Fat q) t = refl
pointer_member g f at (In r) (code.Unique n) t = refl
pointer_member g f at InBlock (code.Thin n q) t = refl
pointer_member g f at InBlock (code.Fat q) t = refl
pointer_member g f at InBlock (code.Unique n) t = refl

pub member_of_pointer : (g : Env) (f : Name) (at : ℕ) (s : Seat) (t : CType) (l : Layer) → outermost t.layers.items ≡ Some l
    → refuse type_rule at ≡ member_of g f at (static_type t) s
member_of_pointer g f at s t l h =
    sym (ap (λ u. member_of g f at u s) (by_outer t.layers.items (base_type t.base) l h) ∙ pointer_member g f at s l _)

base_member : (g : Env) (f : Name) (at : ℕ) (s : Seat) (b : BaseType) → (s ≡ Nowhere → ⊥) → member_on g f at (base_type b) s ≡ member_of g f at (base_type b) s
base_member g f at Nowhere b h = absurd (h refl)
base_member g f at (In r) base.Int h = refl
base_member g f at (In r) base.Unsigned h = refl
base_member g f at (In r) base.Char h = refl
base_member g f at (In r) base.Void h = refl
base_member g f at (In r) base.Null h = refl
base_member g f at (In r) (base.Handle q) h = refl
base_member g f at (In r) (base.Key q) h = refl
base_member g f at (In r) (base.Struct tag rs) h = refl
base_member g f at (In r) (base.Union tag rs) h = refl
base_member g f at InBlock base.Int h = refl
base_member g f at InBlock base.Unsigned h = refl
base_member g f at InBlock base.Char h = refl
base_member g f at InBlock base.Void h = refl
base_member g f at InBlock base.Null h = refl
base_member g f at InBlock (base.Handle q) h = refl
base_member g f at InBlock (base.Key q) h = refl
base_member g f at InBlock (base.Struct tag rs) h = refl
base_member g f at InBlock (base.Union tag rs) h = refl

pub member_of_plain : (g : Env) (f : Name) (at : ℕ) (s : Seat) (t : CType) → outermost t.layers.items ≡ None → (s ≡ Nowhere → ⊥)
    → member_on g f at (base_type t.base) s ≡ member_of g f at (static_type t) s
member_of_plain g f at s t h some =
    base_member g f at s t.base some ∙ sym (ap (λ u. member_of g f at u s) (by_none t.layers.items (base_type t.base) h))

-- ---- `e->f`

live_arrow : (b : Bool) (g : Env) (f : Name) (at : ℕ) (l : Layer) (r : Region) (tag : List ℕ) (rs : List Region) → seat_behind l ≡ In r
    → live_part g f at l b tag rs ≡ arrow_live b g f at r tag rs
live_arrow true g f at l r tag rs h = ap (λ s. part_of g at s tag rs f) h
live_arrow false g f at l r tag rs h = refl

base_arrow : (g : Env) (f : Name) (at : ℕ) (l : Layer) (b : BaseType)
    → arrow_on g f at l (is_reached g l) (base_type b) ≡ arrow_of g f at (pointer_to l (base_type b))
base_arrow g f at (code.Thin n r) (base.Struct tag rs) = live_arrow (is_live g (region_of r)) g f at (code.Thin n r) (region_of r) tag.now _ refl
base_arrow g f at (code.Fat r) (base.Struct tag rs) = live_arrow (is_live g (region_of r)) g f at (code.Fat r) (region_of r) tag.now _ refl
base_arrow g f at (code.Unique n) (base.Struct tag rs) = refl
base_arrow g f at (code.Thin n r) base.Int = refl
base_arrow g f at (code.Thin n r) base.Unsigned = refl
base_arrow g f at (code.Thin n r) base.Char = refl
base_arrow g f at (code.Thin n r) base.Void = refl
base_arrow g f at (code.Thin n r) base.Null = refl
base_arrow g f at (code.Thin n r) (base.Handle q) = refl
base_arrow g f at (code.Thin n r) (base.Key q) = refl
base_arrow g f at (code.Thin n r) (base.Union tag rs) = refl
base_arrow g f at (code.Fat r) base.Int = refl
base_arrow g f at (code.Fat r) base.Unsigned = refl
base_arrow g f at (code.Fat r) base.Char = refl
base_arrow g f at (code.Fat r) base.Void = refl
base_arrow g f at (code.Fat r) base.Null = refl
base_arrow g f at (code.Fat r) (base.Handle q) = refl
base_arrow g f at (code.Fat r) (base.Key q) = refl
base_arrow g f at (code.Fat r) (base.Union tag rs) = refl
base_arrow g f at (code.Unique n) base.Int = refl
base_arrow g f at (code.Unique n) base.Unsigned = refl
base_arrow g f at (code.Unique n) base.Char = refl
base_arrow g f at (code.Unique n) base.Void = refl
base_arrow g f at (code.Unique n) base.Null = refl
base_arrow g f at (code.Unique n) (base.Handle q) = refl
base_arrow g f at (code.Unique n) (base.Key q) = refl
base_arrow g f at (code.Unique n) (base.Union tag rs) = refl

pointer_arrow : (g : Env) (f : Name) (at : ℕ) (l k : Layer) (t : StaticType) → arrow_of g f at (pointer_to l (pointer_to k t)) ≡ refuse type_rule at
pointer_arrow g f at (code.Thin n r) (code.Thin m q) t = refl
pointer_arrow g f at (code.Thin n r) (code.Fat q) t = refl
pointer_arrow g f at (code.Thin n r) (code.Unique m) t = refl
pointer_arrow g f at (code.Fat r) (code.Thin m q) t = refl
pointer_arrow g f at (code.Fat r) (code.Fat q) t = refl
pointer_arrow g f at (code.Fat r) (code.Unique m) t = refl
pointer_arrow g f at (code.Unique n) (code.Thin m q) t = refl
pointer_arrow g f at (code.Unique n) (code.Fat q) t = refl
pointer_arrow g f at (code.Unique n) (code.Unique m) t = refl

-- of no pointer
no_arrow : (g : Env) (f : Name) (at : ℕ) (b : BaseType) → arrow_of g f at (base_type b) ≡ refuse type_rule at
no_arrow g f at base.Int = refl
no_arrow g f at base.Unsigned = refl
no_arrow g f at base.Char = refl
no_arrow g f at base.Void = refl
no_arrow g f at base.Null = refl
no_arrow g f at (base.Handle q) = refl
no_arrow g f at (base.Key q) = refl
no_arrow g f at (base.Struct tag rs) = refl
no_arrow g f at (base.Union tag rs) = refl

pub arrow_of_plain : (g : Env) (f : Name) (at : ℕ) (t : CType) → outermost t.layers.items ≡ None → refuse type_rule at ≡ arrow_of g f at (static_type t)
arrow_of_plain g f at t h = sym (ap (arrow_of g f at) (by_none t.layers.items (base_type t.base) h) ∙ no_arrow g f at t.base)

-- by what the pointer leads to
module _ (g : Env) (f : Name) (at : ℕ) (l : Layer) (t to : CType) (led : static_type t ≡ pointer_to l (static_type to)) where
  pub arrow_to_pointer : (k : Layer) → outermost to.layers.items ≡ Some k → refuse type_rule at ≡ arrow_of g f at (static_type t)
  arrow_to_pointer k h =
      sym (ap (arrow_of g f at) (led ∙ ap (pointer_to l) (by_outer to.layers.items (base_type to.base) k h)) ∙ pointer_arrow g f at l k _)

  pub arrow_to_plain : outermost to.layers.items ≡ None → arrow_on g f at l (is_reached g l) (base_type to.base) ≡ arrow_of g f at (static_type t)
  arrow_to_plain h =
      base_arrow g f at l to.base ∙ sym (ap (arrow_of g f at) (led ∙ ap (pointer_to l) (by_none to.layers.items (base_type to.base) h)))
