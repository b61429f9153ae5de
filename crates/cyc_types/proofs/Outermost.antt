-- A type by its outermost pointer.
use Rattle.std.proofs.Common.{◌≡◌, ℕ, ◌+◌, map, Bool, true, List, [], ◌∷◌, length, refl, sym, ap, ◌∙◌, arith, ◌-◌}
use Rattle.std.specs.Prelude.{None, Option, Some, slice_get}
use Rattle.source_typing.specs.Missing.{outer_region, pointee_of}
use Rattle.source_typing.specs.Types.{StaticType}
use Rattle.source_typing.specs.Written.{Missing}
use Rattle.cyc_types.specs.Bases.{base_type}
use Rattle.cyc_types.specs.Cells.{KindAt, moved_by, quick_cells, scalar_at}
use Rattle.cyc_types.specs.Known.{Entry, is_declared, quick_begins, quick_copies}
use Rattle.cyc_types.specs.Measures.{layer_extent, quick_measure, scalar_bytes}
use Rattle.cyc_types.specs.Layers.{last_or, layer_begins, layer_copies, outermost, pointed, pointer_to}
use Rattle.cyc_types.specs.Scalars.{UniqueKind, layer_kind, only_kind}
use Rattle.cyc_types.specs.declared.base.BaseType.{BaseType}
use Rattle.cyc_types.specs.declared.base.BaseType.TheVariants as base
use Rattle.cyc_types.specs.declared.layer.Layer.{Layer}
use Rattle.cyc_types.specs.declared.layer.Layer.TheVariants as code
use Rattle.source_meaning.proofs.Reaches.{single_null}

-- ---- a type without pointers

pub base_leads : (b : BaseType) → pointee_of (Some (base_type b)) ≡ None
base_leads base.Int = refl
base_leads base.Unsigned = refl
base_leads base.Char = refl
base_leads base.Void = refl
base_leads base.Null = refl
base_leads (base.Handle r) = refl
base_leads (base.Key r) = refl
base_leads (base.Struct tag rs) = refl
base_leads (base.Union tag rs) = refl

pub base_outer : (b : BaseType) → outer_region (Some (base_type b)) ≡ Missing
base_outer base.Int = refl
base_outer base.Unsigned = refl
base_outer base.Char = refl
base_outer base.Void = refl
base_outer base.Null = refl
base_outer (base.Handle r) = refl
base_outer (base.Key r) = refl
base_outer (base.Struct tag rs) = refl
base_outer (base.Union tag rs) = refl

-- ---- the last of its pointers

last_found : (l : Layer) (ls : List Layer) → slice_get (l ∷ ls) (length ls) ≡ Some (last_or l ls)
last_found l [] = refl
last_found l (k ∷ ks) = last_found k ks

pub last_is : (ls : List Layer) → slice_get ls (length ls - 1) ≡ outermost ls
last_is [] = refl
last_is (l ∷ ls) = let e : length (l ∷ ls) - 1 ≡ length ls = omega arith in ap (slice_get (l ∷ ls)) e ∙ last_found l ls

pub by_outermost : {A : Type 0} (holds : StaticType → A) (of : Layer → A) → ((l : Layer) (t : StaticType) → holds (pointer_to l t) ≡ of l)
    → (l : Layer) (ls : List Layer) (t : StaticType) → holds (pointed (pointer_to l t) ls) ≡ of (last_or l ls)
by_outermost holds of h l [] t = h l t
by_outermost holds of h l (k ∷ ks) t = by_outermost holds of h k ks (pointer_to l t)

outer_or : {A : Type 0} → Option Layer → (Layer → A) → A → A
outer_or None of base = base
outer_or (Some l) of base = of l

with_outer : {A : Type 0} (holds : StaticType → A) (of : Layer → A) → ((l : Layer) (t : StaticType) → holds (pointer_to l t) ≡ of l)
    → (ls : List Layer) (t : StaticType) (o : Option Layer) → outermost ls ≡ o → holds (pointed t ls) ≡ outer_or o of (holds t)
unfolding outer_or
with_outer holds of h [] t o e = rw (sym e) refl
with_outer holds of h (l ∷ ls) t o e = rw (sym e) (by_outermost holds of h l ls t)

of_copies : (es : List Entry) (l : Layer) (t : StaticType) → quick_copies es (pointer_to l t) ≡ layer_copies l
of_copies es (code.Thin n r) t = refl
of_copies es (code.Fat r) t = refl
of_copies es (code.Unique n) t = refl

of_begins : (es : List Entry) (l : Layer) (t : StaticType) → quick_begins es (pointer_to l t) ≡ layer_begins l
of_begins es (code.Thin n r) t = refl
of_begins es (code.Fat r) t = refl
of_begins es (code.Unique n) t = refl

pub plain_copies : (es : List Entry) (ls : List Layer) (t : StaticType) → outermost ls ≡ None → quick_copies es (pointed t ls) ≡ quick_copies es t
unfolding outer_or
plain_copies es ls t e = with_outer (quick_copies es) layer_copies (of_copies es) ls t None e

pub pointer_copies : (es : List Entry) (ls : List Layer) (t : StaticType) (l : Layer) → outermost ls ≡ Some l → quick_copies es (pointed t ls) ≡ layer_copies l
unfolding outer_or
pointer_copies es ls t l e = with_outer (quick_copies es) layer_copies (of_copies es) ls t (Some l) e

pub plain_begins : (es : List Entry) (ls : List Layer) (t : StaticType) → outermost ls ≡ None → quick_begins es (pointed t ls) ≡ quick_begins es t
unfolding outer_or
plain_begins es ls t e = with_outer (quick_begins es) layer_begins (of_begins es) ls t None e

pub pointer_begins : (es : List Entry) (ls : List Layer) (t : StaticType) (l : Layer) → outermost ls ≡ Some l → quick_begins es (pointed t ls) ≡ layer_begins l
unfolding outer_or
pointer_begins es ls t l e = with_outer (quick_begins es) layer_begins (of_begins es) ls t (Some l) e

of_measure : (es : List Entry) (l : Layer) (t : StaticType) → quick_measure es (pointer_to l t) ≡ Some (layer_extent l)
of_measure es (code.Thin n r) t = refl
of_measure es (code.Fat r) t = refl
of_measure es (code.Unique n) t = refl

pub plain_measure : (es : List Entry) (ls : List Layer) (t : StaticType) → outermost ls ≡ None → quick_measure es (pointed t ls) ≡ quick_measure es t
unfolding outer_or
plain_measure es ls t e = with_outer (quick_measure es) (λ l. Some (layer_extent l)) (of_measure es) ls t None e

pub pointer_measure : (es : List Entry) (ls : List Layer) (t : StaticType) (l : Layer) → outermost ls ≡ Some l
    → quick_measure es (pointed t ls) ≡ Some (layer_extent l)
unfolding outer_or
pointer_measure es ls t l e = with_outer (quick_measure es) (λ l. Some (layer_extent l)) (of_measure es) ls t (Some l) e

of_scalar : (l : Layer) (t : StaticType) → scalar_bytes (Some (pointer_to l t)) ≡ (layer_extent l).size
of_scalar (code.Thin n r) t = refl
of_scalar (code.Fat r) t = refl
of_scalar (code.Unique n) t = refl

pub plain_scalar : (ls : List Layer) (t : StaticType) → outermost ls ≡ None → scalar_bytes (Some (pointed t ls)) ≡ scalar_bytes (Some t)
unfolding outer_or
plain_scalar ls t e = with_outer (λ t. scalar_bytes (Some t)) (λ l. (layer_extent l).size) of_scalar ls t None e

pub pointer_scalar : (ls : List Layer) (t : StaticType) (l : Layer) → outermost ls ≡ Some l → scalar_bytes (Some (pointed t ls)) ≡ (layer_extent l).size
unfolding outer_or
pointer_scalar ls t l e = with_outer (λ t. scalar_bytes (Some t)) (λ l. (layer_extent l).size) of_scalar ls t (Some l) e

of_kind : (l : Layer) (t : StaticType) → only_kind (pointer_to l t) ≡ Some (layer_kind l)
of_kind (code.Thin n r) t = refl
of_kind (code.Fat r) t = refl
of_kind (code.Unique n) t = ap (λ b. Some (UniqueKind b)) (single_null n)

pub plain_kind : (ls : List Layer) (t : StaticType) → outermost ls ≡ None → only_kind (pointed t ls) ≡ only_kind t
unfolding outer_or
plain_kind ls t e = with_outer only_kind (λ l. Some (layer_kind l)) of_kind ls t None e

pub pointer_kind : (ls : List Layer) (t : StaticType) (l : Layer) → outermost ls ≡ Some l → only_kind (pointed t ls) ≡ Some (layer_kind l)
unfolding outer_or
pointer_kind ls t l e = with_outer only_kind (λ l. Some (layer_kind l)) of_kind ls t (Some l) e

of_cells : (of : List ℕ → List KindAt) (l : Layer) (t : StaticType) → quick_cells of (pointer_to l t) ≡ scalar_at 0 (layer_kind l) ∷ []
of_cells of (code.Thin n r) t = refl
of_cells of (code.Fat r) t = refl
of_cells of (code.Unique n) t = ap (λ b. scalar_at 0 (UniqueKind b) ∷ []) (single_null n)

-- a pointer is one cell
pub pointer_cells : (of : List ℕ → List KindAt) (ls : List Layer) (t : StaticType) (l : Layer) (at : ℕ) → outermost ls ≡ Some l
    → scalar_at at (layer_kind l) ∷ [] ≡ map (moved_by at) (quick_cells of (pointed t ls))
unfolding outer_or
pointer_cells of ls t l at e =
    let here : at ≡ at + 0 = omega arith in
    ap (λ n. scalar_at n (layer_kind l) ∷ []) here
    ∙ sym (ap (map (moved_by at)) (with_outer (quick_cells of) (λ l. scalar_at 0 (layer_kind l) ∷ []) (of_cells of) ls t (Some l) e))

always : Layer → Bool
always l = true

of_declared : (es : List Entry) (l : Layer) (t : StaticType) → is_declared es (pointer_to l t) ≡ always l
unfolding always
of_declared es (code.Thin n r) t = refl
of_declared es (code.Fat r) t = refl
of_declared es (code.Unique n) t = refl

pub plain_declared : (es : List Entry) (ls : List Layer) (t : StaticType) → outermost ls ≡ None → is_declared es (pointed t ls) ≡ is_declared es t
unfolding outer_or
plain_declared es ls t e = with_outer (is_declared es) always (of_declared es) ls t None e

pub pointer_declared : (es : List Entry) (ls : List Layer) (t : StaticType) (l : Layer) → outermost ls ≡ Some l → is_declared es (pointed t ls) ≡ true
unfolding always outer_or
pointer_declared es ls t l e = with_outer (is_declared es) always (of_declared es) ls t (Some l) e
