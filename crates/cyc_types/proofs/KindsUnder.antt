-- Kinds of pointers' types, and of other types.
use Rattle.std.proofs.Common.{◌≡◌, Bool, true, false, List, [], ◌∷◌, refl}
use Rattle.std.specs.Prelude.{◌&&◌, ◌||◌, not}
use Rattle.source_typing.specs.Types.{StaticType, is_element, is_integer, is_key, is_makeable, is_null, is_pointer, is_scalar, is_testable, is_union, is_void}
use Rattle.cyc_types.specs.Bases.{base_type}
use Rattle.cyc_types.specs.Layers.{is_plain, pointed, pointer_to}
use Rattle.cyc_types.specs.Types.{static_type}
use Rattle.cyc_types.specs.declared.base.BaseType.{BaseType}
use Rattle.cyc_types.specs.declared.base.BaseType.TheVariants as base
use Rattle.cyc_types.specs.declared.ctype.CType.{CType}
use Rattle.cyc_types.specs.declared.layer.Layer.{Layer}
use Rattle.cyc_types.specs.declared.layer.Layer.TheVariants as code

-- what is so, or isn't, of every pointer's type
abbrev pub OfPointers : Bool → (StaticType → Bool) → Type 0
OfPointers so holds = (l : Layer) (t : StaticType) → holds (pointer_to l t) ≡ so

under : (so : Bool) (holds : StaticType → Bool) → OfPointers so holds → (ls : List Layer) (l : Layer) (t : StaticType)
    → holds (pointed (pointer_to l t) ls) ≡ so
under so holds h [] l t = h l t
under so holds h (k ∷ ks) l t = under so holds h ks k (pointer_to l t)

pub no_pointer : (holds : StaticType → Bool) → OfPointers false holds → (b : StaticType) (ls : List Layer) → holds (pointed b ls) ≡ (is_plain ls && holds b)
no_pointer holds h b [] = refl
no_pointer holds h b (l ∷ ls) = under false holds h ls l b

each_pointer : (holds : StaticType → Bool) → OfPointers true holds → (b : StaticType) (ls : List Layer) → holds (pointed b ls) ≡ (not (is_plain ls) || holds b)
each_pointer holds h b [] = refl
each_pointer holds h b (l ∷ ls) = under true holds h ls l b

pub integer_kind : (t : CType) → is_integer (static_type t) ≡ (is_plain t.layers.items && is_integer (base_type t.base))
integer_kind t = no_pointer is_integer of (base_type t.base) t.layers.items
  where
    of : OfPointers false is_integer
    of (code.Thin n r) t = refl
    of (code.Fat r) t = refl
    of (code.Unique n) t = refl

pub null_kind : (t : CType) → is_null (static_type t) ≡ (is_plain t.layers.items && is_null (base_type t.base))
null_kind t = no_pointer is_null of (base_type t.base) t.layers.items
  where
    of : OfPointers false is_null
    of (code.Thin n r) t = refl
    of (code.Fat r) t = refl
    of (code.Unique n) t = refl

pub union_kind : (t : CType) → is_union (static_type t) ≡ (is_plain t.layers.items && is_union (base_type t.base))
union_kind t = no_pointer is_union of (base_type t.base) t.layers.items
  where
    of : OfPointers false is_union
    of (code.Thin n r) t = refl
    of (code.Fat r) t = refl
    of (code.Unique n) t = refl

pub key_kind : (t : CType) → is_key (static_type t) ≡ (is_plain t.layers.items && is_key (base_type t.base))
key_kind t = no_pointer is_key of (base_type t.base) t.layers.items
  where
    of : OfPointers false is_key
    of (code.Thin n r) t = refl
    of (code.Fat r) t = refl
    of (code.Unique n) t = refl

pub void_kind : (t : CType) → is_void (static_type t) ≡ (is_plain t.layers.items && is_void (base_type t.base))
void_kind t = no_pointer is_void of (base_type t.base) t.layers.items
  where
    of : OfPointers false is_void
    of (code.Thin n r) t = refl
    of (code.Fat r) t = refl
    of (code.Unique n) t = refl

pub testable_kind : (t : CType) → is_testable (static_type t) ≡ (not (is_plain t.layers.items) || is_testable (base_type t.base))
testable_kind t = each_pointer is_testable of (base_type t.base) t.layers.items
  where
    of : OfPointers true is_testable
    of (code.Thin n r) t = refl
    of (code.Fat r) t = refl
    of (code.Unique n) t = refl

pub scalar_kind : (t : CType) → is_scalar (static_type t) ≡ (not (is_plain t.layers.items) || is_scalar (base_type t.base))
scalar_kind t = each_pointer is_scalar of (base_type t.base) t.layers.items
  where
    of : OfPointers true is_scalar
    of (code.Thin n r) t = refl
    of (code.Fat r) t = refl
    of (code.Unique n) t = refl

pub makeable_kind : (t : CType) → is_makeable (static_type t) ≡ (not (is_plain t.layers.items) || is_makeable (base_type t.base))
makeable_kind t = each_pointer is_makeable of (base_type t.base) t.layers.items
  where
    of : OfPointers true is_makeable
    of (code.Thin n r) t = refl
    of (code.Fat r) t = refl
    of (code.Unique n) t = refl

pub element_kind : (t : CType) → is_element (static_type t) ≡ (not (is_plain t.layers.items) || is_element (base_type t.base))
element_kind t = each_pointer is_element of (base_type t.base) t.layers.items
  where
    of : OfPointers true is_element
    of (code.Thin n r) t = refl
    of (code.Fat r) t = refl
    of (code.Unique n) t = refl

base_no_pointer : (b : BaseType) → is_pointer (base_type b) ≡ false
base_no_pointer base.Int = refl
base_no_pointer base.Unsigned = refl
base_no_pointer base.Char = refl
base_no_pointer base.Void = refl
base_no_pointer base.Null = refl
base_no_pointer (base.Handle r) = refl
base_no_pointer (base.Key r) = refl
base_no_pointer (base.Struct tag rs) = refl
base_no_pointer (base.Union tag rs) = refl

pub pointer_kind : (t : CType) → is_pointer (static_type t) ≡ not (is_plain t.layers.items)
pointer_kind t = by t.layers.items
  where
    of : OfPointers true is_pointer
    of (code.Thin n r) t = refl
    of (code.Fat r) t = refl
    of (code.Unique n) t = refl

    by : (ls : List Layer) → is_pointer (pointed (base_type t.base) ls) ≡ not (is_plain ls)
    by [] = base_no_pointer t.base
    by (l ∷ ls) = under true is_pointer of ls l (base_type t.base)
