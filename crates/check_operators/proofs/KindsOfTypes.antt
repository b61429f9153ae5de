-- Kinds of types by the outermost pointer and the base.
use Rattle.std.proofs.Common.{◌≡◌, ℕ, Bool, true, false, List, [], ◌∷◌, Option, Some, None, refl, sym, ap, ◌∙◌}
use Rattle.std.specs.Prelude.{◌&&◌, ◌||◌, if◌then◌else◌, not}
use Rattle.source_typing.specs.Operators.{common, is_fat, promoted}
use Rattle.source_typing.specs.Types.{Char, Fat, Handle, Int, Key, Null, StaticType, Struct, Thin, Union, Unique, Unsigned, Void, is_pointer}
use Rattle.source_typing.specs.Regions.{Region}
use Rattle.source_meaning.specs.Shapes.{Reach}
use Rattle.cyc_types.specs.Bases.{base_type}
use Rattle.cyc_types.specs.Layers.{is_plain, last_or, layer_copies, outermost, pointed, pointer_to}
use Rattle.cyc_types.specs.Types.{static_type}
use Rattle.cyc_types.specs.declared.base.BaseType.{BaseType}
use Rattle.cyc_types.specs.declared.base.BaseType.TheVariants as base
use Rattle.cyc_types.specs.declared.ctype.CType.{CType}
use Rattle.cyc_types.specs.declared.layer.Layer.{Layer}
use Rattle.cyc_types.specs.declared.layer.Layer.TheVariants as code
use Rattle.cyc_types.proofs.Converting.{by_none, by_outer}
use Rattle.cyc_types.proofs.KindsUnder.{OfPointers, no_pointer, pointer_kind}
use Rattle.check_operators.specs.TypeKinds.{is_char, is_fat_outside, is_thin, is_thin_outside, is_unsigned, keeps_value}

-- ---- by the base

not_not : (b : Bool) → b ≡ not (not b)
not_not true = refl
not_not false = refl

-- what is so of no pointer's type
no_pointer_of : (holds : StaticType → Bool) → OfPointers false holds → (t : CType)
    → holds (static_type t) ≡ (not (is_pointer (static_type t)) && holds (base_type t.base))
no_pointer_of holds h t =
    no_pointer holds h (base_type t.base) t.layers.items
    ∙ ap (λ p. p && holds (base_type t.base)) (not_not (is_plain t.layers.items) ∙ ap not (sym (pointer_kind t)))

pub char_kind : (t : CType) → is_char (static_type t) ≡ (not (is_pointer (static_type t)) && is_char (base_type t.base))
char_kind t = no_pointer_of is_char of t
  where
    of : OfPointers false is_char
    of (code.Thin n r) t = refl
    of (code.Fat r) t = refl
    of (code.Unique n) t = refl

pub unsigned_kind : (t : CType) → is_unsigned (static_type t) ≡ (not (is_pointer (static_type t)) && is_unsigned (base_type t.base))
unsigned_kind t = no_pointer_of is_unsigned of t
  where
    of : OfPointers false is_unsigned
    of (code.Thin n r) t = refl
    of (code.Fat r) t = refl
    of (code.Unique n) t = refl

-- ---- by the outermost pointer

base_not_fat : (b : BaseType) → is_fat (base_type b) ≡ false
base_not_fat base.Int = refl
base_not_fat base.Unsigned = refl
base_not_fat base.Char = refl
base_not_fat base.Void = refl
base_not_fat base.Null = refl
base_not_fat (base.Handle r) = refl
base_not_fat (base.Key r) = refl
base_not_fat (base.Struct tag rs) = refl
base_not_fat (base.Union tag rs) = refl

pointer_fat : (l : Layer) (t : StaticType) → is_fat (pointer_to l t) ≡ is_fat_outside (Some l)
pointer_fat (code.Thin n r) t = refl
pointer_fat (code.Fat r) t = refl
pointer_fat (code.Unique n) t = refl

outside : (holds : StaticType → Bool) (of : Option Layer → Bool) → ((b : BaseType) → holds (base_type b) ≡ of None)
    → ((l : Layer) (t : StaticType) → holds (pointer_to l t) ≡ of (Some l)) → (b : BaseType) (ls : List Layer)
    → holds (pointed (base_type b) ls) ≡ of (outermost ls)
outside holds of base h b [] = base b
outside holds of base h b (l ∷ ls) = ap holds (by_outer (l ∷ ls) (base_type b) (last_or l ls) refl) ∙ h (last_or l ls) _

pub fat_kind : (t : CType) → is_fat (static_type t) ≡ is_fat_outside (outermost t.layers.items)
fat_kind t = outside is_fat is_fat_outside base_not_fat pointer_fat t.base t.layers.items

base_not_thin : (b : BaseType) → is_thin (base_type b) ≡ false
base_not_thin base.Int = refl
base_not_thin base.Unsigned = refl
base_not_thin base.Char = refl
base_not_thin base.Void = refl
base_not_thin base.Null = refl
base_not_thin (base.Handle r) = refl
base_not_thin (base.Key r) = refl
base_not_thin (base.Struct tag rs) = refl
base_not_thin (base.Union tag rs) = refl

pointer_thin : (l : Layer) (t : StaticType) → is_thin (pointer_to l t) ≡ is_thin_outside (Some l)
pointer_thin (code.Thin n r) t = refl
pointer_thin (code.Fat r) t = refl
pointer_thin (code.Unique n) t = refl

pub thin_kind : (t : CType) → is_thin (static_type t) ≡ is_thin_outside (outermost t.layers.items)
thin_kind t = outside is_thin is_thin_outside base_not_thin pointer_thin t.base t.layers.items

pointer_keeps : (l : Layer) (t : StaticType) → keeps_value (pointer_to l t) ≡ layer_copies l
pointer_keeps (code.Thin n r) t = refl
pointer_keeps (code.Fat r) t = refl
pointer_keeps (code.Unique n) t = refl

pub pointer_kept : (t : CType) (l : Layer) → outermost t.layers.items ≡ Some l → keeps_value (static_type t) ≡ layer_copies l
pointer_kept t l h = ap keeps_value (by_outer t.layers.items (base_type t.base) l h) ∙ pointer_keeps l _

pub base_kept : (t : CType) → outermost t.layers.items ≡ None → keeps_value (static_type t) ≡ keeps_value (base_type t.base)
base_kept t h = ap keeps_value (by_none t.layers.items (base_type t.base) h)

-- ---- what integers become

pub promoted_is : (t : StaticType) → promoted t ≡ (if is_char t then Int else t)
promoted_is Int = refl
promoted_is Unsigned = refl
promoted_is Char = refl
promoted_is Void = refl
promoted_is Null = refl
promoted_is (Thin n r t) = refl
promoted_is (Fat r t) = refl
promoted_is (Unique n t) = refl
promoted_is (Handle r) = refl
promoted_is (Key r) = refl
promoted_is (Struct tag rs) = refl
promoted_is (Union tag rs) = refl

-- by each form of a type
every : (holds : StaticType → Type 0) → holds Int → holds Unsigned → holds Char → holds Void → holds Null
    → ((n : Reach) (r : Region) (t : StaticType) → holds (Thin n r t)) → ((r : Region) (t : StaticType) → holds (Fat r t))
    → ((n : Bool) (t : StaticType) → holds (Unique n t)) → ((r : Region) → holds (Handle r)) → ((r : Region) → holds (Key r))
    → ((tag : List ℕ) (rs : List Region) → holds (Struct tag rs)) → ((tag : List ℕ) (rs : List Region) → holds (Union tag rs)) → (t : StaticType) → holds t
every holds i u c v z thin fat unique handle key struct union Int = i
every holds i u c v z thin fat unique handle key struct union Unsigned = u
every holds i u c v z thin fat unique handle key struct union Char = c
every holds i u c v z thin fat unique handle key struct union Void = v
every holds i u c v z thin fat unique handle key struct union Null = z
every holds i u c v z thin fat unique handle key struct union (Thin n r t) = thin n r t
every holds i u c v z thin fat unique handle key struct union (Fat r t) = fat r t
every holds i u c v z thin fat unique handle key struct union (Unique n t) = unique n t
every holds i u c v z thin fat unique handle key struct union (Handle r) = handle r
every holds i u c v z thin fat unique handle key struct union (Key r) = key r
every holds i u c v z thin fat unique handle key struct union (Struct tag rs) = struct tag rs
every holds i u c v z thin fat unique handle key struct union (Union tag rs) = union tag rs

-- an unsigned operand makes both so
abbrev joined : StaticType → StaticType → StaticType
joined a b = (if is_unsigned a || is_unsigned b then Unsigned else Int)

abbrev Joined : (left right : StaticType) → Type 0
Joined a b = (common a b ≡ joined a b)

pub common_is : (a b : StaticType) → common a b ≡ (if is_unsigned a || is_unsigned b then Unsigned else Int)
common_is Int b =
    every (Joined Int) refl refl refl refl refl (λ _ _ _. refl) (λ _ _. refl) (λ _ _. refl) (λ _. refl) (λ _. refl) (λ _ _. refl) (λ _ _. refl) b
common_is Unsigned b = refl
common_is Char b =
    every (Joined Char) refl refl refl refl refl (λ _ _ _. refl) (λ _ _. refl) (λ _ _. refl) (λ _. refl) (λ _. refl) (λ _ _. refl) (λ _ _. refl) b
common_is Void b =
    every (Joined Void) refl refl refl refl refl (λ _ _ _. refl) (λ _ _. refl) (λ _ _. refl) (λ _. refl) (λ _. refl) (λ _ _. refl) (λ _ _. refl) b
common_is Null b =
    every (Joined Null) refl refl refl refl refl (λ _ _ _. refl) (λ _ _. refl) (λ _ _. refl) (λ _. refl) (λ _. refl) (λ _ _. refl) (λ _ _. refl) b
common_is (Thin n r t) b =
    every (Joined (Thin n r t)) refl refl refl refl refl (λ _ _ _. refl) (λ _ _. refl) (λ _ _. refl) (λ _. refl) (λ _. refl) (λ _ _. refl) (λ _ _. refl) b
common_is (Fat r t) b =
    every (Joined (Fat r t)) refl refl refl refl refl (λ _ _ _. refl) (λ _ _. refl) (λ _ _. refl) (λ _. refl) (λ _. refl) (λ _ _. refl) (λ _ _. refl) b
common_is (Unique n t) b =
    every (Joined (Unique n t)) refl refl refl refl refl (λ _ _ _. refl) (λ _ _. refl) (λ _ _. refl) (λ _. refl) (λ _. refl) (λ _ _. refl) (λ _ _. refl) b
common_is (Handle r) b =
    every (Joined (Handle r)) refl refl refl refl refl (λ _ _ _. refl) (λ _ _. refl) (λ _ _. refl) (λ _. refl) (λ _. refl) (λ _ _. refl) (λ _ _. refl) b
common_is (Key r) b =
    every (Joined (Key r)) refl refl refl refl refl (λ _ _ _. refl) (λ _ _. refl) (λ _ _. refl) (λ _. refl) (λ _. refl) (λ _ _. refl) (λ _ _. refl) b
common_is (Struct tag rs) b =
    every (Joined (Struct tag rs)) refl refl refl refl refl (λ _ _ _. refl) (λ _ _. refl) (λ _ _. refl) (λ _. refl) (λ _. refl) (λ _ _. refl) (λ _ _. refl) b
common_is (Union tag rs) b =
    every (Joined (Union tag rs)) refl refl refl refl refl (λ _ _ _. refl) (λ _ _. refl) (λ _ _. refl) (λ _. refl) (λ _. refl) (λ _ _. refl) (λ _ _. refl) b
