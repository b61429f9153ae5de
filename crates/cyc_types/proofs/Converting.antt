-- Conversions by the outermost pointers.
use Rattle.std.proofs.Common.{◌≡◌, ◌-◌, Bool, true, false, List, [], ◌∷◌, ◌++◌, length, take, refl, sym, ap, ◌∙◌, arith, true≢false}
use Rattle.std.specs.Prelude.{MatchOption, None, Option, Some, is_none}
use Rattle.source_typing.specs.Conversions.{conversion, if_enough, ordered, unless_differs}
use Rattle.source_typing.specs.Faults.{outlives_rule, type_rule}
use Rattle.source_typing.specs.Regions.{Regions}
use Rattle.source_typing.specs.Types.{StaticType, compare, is_null}
use Rattle.cyc_types.specs.Bases.{base_type}
use Rattle.cyc_types.specs.Conversions.{layers_ordered, null_rule, outer_ordered, pointer_rule}
use Rattle.cyc_types.specs.Layers.{has_enough, last_or, outermost, pointed, pointer_to}
use Rattle.cyc_types.specs.declared.base.BaseType.{BaseType}
use Rattle.cyc_types.specs.declared.base.BaseType.TheVariants as base
use Rattle.cyc_types.specs.declared.layer.Layer.{Layer}
use Rattle.cyc_types.specs.declared.layer.Layer.TheVariants as code

-- ---- a type by its outermost pointer

but_last : (l : Layer) (ls : List Layer) (t : StaticType) → pointed t (l ∷ ls) ≡ pointer_to (last_or l ls) (pointed t (take (length ls) (l ∷ ls)))
but_last l [] t = refl
but_last l (k ∷ ks) t = but_last k ks (pointer_to l t)

some_last : (a b : Layer) → Some a ≡ Some b → a ≡ b
some_last a b h = ap (λ o. or_that o a) h
  where
    or_that : Option Layer → Layer → Layer
    or_that None a = a
    or_that (Some b) a = b

pub by_outer : (ls : List Layer) (t : StaticType) (l : Layer) → outermost ls ≡ Some l → pointed t ls ≡ pointer_to l (pointed t (take (length ls - 1) ls))
by_outer [] t l h = absurd (true≢false (ap is_none h))
by_outer (k ∷ ks) t l h =
    let e : length ks ≡ length (k ∷ ks) - 1 = omega arith in
    but_last k ks t
    ∙ ap (λ m. pointer_to m (pointed t (take (length ks) (k ∷ ks)))) (some_last (last_or k ks) l h)
    ∙ ap (λ n. pointer_to l (pointed t (take n (k ∷ ks)))) e

pub by_none : (ls : List Layer) (t : StaticType) → outermost ls ≡ None → pointed t ls ≡ t
by_none [] t h = refl
by_none (k ∷ ks) t h = absurd (true≢false (sym (ap is_none h)))

pub pointed_more : (ls : List Layer) (t : StaticType) (l : Layer) → pointed t (ls ++ l ∷ []) ≡ pointer_to l (pointed t ls)
pointed_more [] t l = refl
pointed_more (k ∷ ks) t l = pointed_more ks (pointer_to k t) l

last_more : (k : Layer) (ls : List Layer) (l : Layer) → last_or k (ls ++ l ∷ []) ≡ l
last_more k [] l = refl
last_more k (m ∷ ls) l = last_more m ls l

pub outermost_more : (ls : List Layer) (l : Layer) → outermost (ls ++ l ∷ []) ≡ Some l
outermost_more [] l = refl
outermost_more (k ∷ ks) l = ap Some (last_more k ks l)

pub without_last : (old new : List Layer) (t : StaticType) → new ≡ take (length old - 1) old
    → MatchOption (outermost old) (pointed t new ≡ pointed t old) (λ l. pointed t old ≡ pointer_to l (pointed t new))
without_last [] new t h = ap (pointed t) h
without_last (k ∷ ks) new t h = by_outer (k ∷ ks) t (last_or k ks) refl ∙ ap (λ n. pointer_to (last_or k ks) (pointed t n)) (sym h)

-- ---- pointers to pointers

pointers_convert : (g : Regions) (l k : Layer) (t u : StaticType) (outlives : Bool) → layers_ordered g outlives l k ≡ outlives
    → pointer_rule l k (compare t u) outlives ≡ conversion g (pointer_to l t) (pointer_to k u)
pointers_convert g (code.Thin n r) (code.Thin m q) t u b h =
    ap (λ o. if_enough (has_enough (code.Thin n r) (code.Thin m q)) (unless_differs (compare t u) (ordered o) (Some outlives_rule))) (sym h)
pointers_convert g (code.Thin n r) (code.Fat q) t u b h = ap (λ o. unless_differs (compare t u) (ordered o) (Some outlives_rule)) (sym h)
pointers_convert g (code.Thin n r) (code.Unique m) t u b h = refl
pointers_convert g (code.Fat r) (code.Thin m q) t u b h = ap (λ o. unless_differs (compare t u) (ordered o) (Some outlives_rule)) (sym h)
pointers_convert g (code.Fat r) (code.Fat q) t u b h = ap (λ o. unless_differs (compare t u) (ordered o) (Some outlives_rule)) (sym h)
pointers_convert g (code.Fat r) (code.Unique m) t u b h = refl
pointers_convert g (code.Unique n) (code.Thin m q) t u b h = refl
pointers_convert g (code.Unique n) (code.Fat q) t u b h = refl
pointers_convert g (code.Unique n) (code.Unique m) t u b h = refl

pub both_pointers : (g : Regions) (ls ks : List Layer) (t u : StaticType) (l k : Layer) (outlives : Bool) → outermost ls ≡ Some l → outermost ks ≡ Some k
    → outer_ordered g outlives (outermost ls) (outermost ks) ≡ outlives
    → pointer_rule l k (compare (pointed t (take (length ls - 1) ls)) (pointed u (take (length ks - 1) ks))) outlives ≡ conversion g (pointed t ls)
    (pointed u ks)
both_pointers g ls ks t u l k outlives first second h =
    pointers_convert g l k (pointed t (take (length ls - 1) ls)) (pointed u (take (length ks - 1) ks)) outlives
    (sym (ap (λ o. outer_ordered g outlives o (outermost ks)) first ∙ ap (outer_ordered g outlives (Some l)) second) ∙ h)
    ∙ ap (λ a. conversion g a (pointer_to k (pointed u (take (length ks - 1) ks)))) (sym (by_outer ls t l first))
    ∙ ap (conversion g (pointed t ls)) (sym (by_outer ks u k second))

-- ---- pointers and others

from_pointer : (g : Regions) (l : Layer) (t : StaticType) (b : BaseType) → conversion g (pointer_to l t) (base_type b) ≡ Some type_rule
from_pointer g (code.Thin n r) t base.Int = refl
from_pointer g (code.Fat r) t base.Int = refl
from_pointer g (code.Unique n) t base.Int = refl
from_pointer g (code.Thin n r) t base.Unsigned = refl
from_pointer g (code.Fat r) t base.Unsigned = refl
from_pointer g (code.Unique n) t base.Unsigned = refl
from_pointer g (code.Thin n r) t base.Char = refl
from_pointer g (code.Fat r) t base.Char = refl
from_pointer g (code.Unique n) t base.Char = refl
from_pointer g (code.Thin n r) t base.Void = refl
from_pointer g (code.Fat r) t base.Void = refl
from_pointer g (code.Unique n) t base.Void = refl
from_pointer g (code.Thin n r) t base.Null = refl
from_pointer g (code.Fat r) t base.Null = refl
from_pointer g (code.Unique n) t base.Null = refl
from_pointer g (code.Thin n r) t (base.Handle s) = refl
from_pointer g (code.Fat r) t (base.Handle s) = refl
from_pointer g (code.Unique n) t (base.Handle s) = refl
from_pointer g (code.Thin n r) t (base.Key s) = refl
from_pointer g (code.Fat r) t (base.Key s) = refl
from_pointer g (code.Unique n) t (base.Key s) = refl
from_pointer g (code.Thin n r) t (base.Struct tag rs) = refl
from_pointer g (code.Fat r) t (base.Struct tag rs) = refl
from_pointer g (code.Unique n) t (base.Struct tag rs) = refl
from_pointer g (code.Thin n r) t (base.Union tag rs) = refl
from_pointer g (code.Fat r) t (base.Union tag rs) = refl
from_pointer g (code.Unique n) t (base.Union tag rs) = refl

to_pointer : (g : Regions) (b : BaseType) (k : Layer) (u : StaticType) → is_null (base_type b) ≡ false
    → conversion g (base_type b) (pointer_to k u) ≡ Some type_rule
to_pointer g base.Int (code.Thin n r) u h = refl
to_pointer g base.Int (code.Fat r) u h = refl
to_pointer g base.Int (code.Unique n) u h = refl
to_pointer g base.Unsigned (code.Thin n r) u h = refl
to_pointer g base.Unsigned (code.Fat r) u h = refl
to_pointer g base.Unsigned (code.Unique n) u h = refl
to_pointer g base.Char (code.Thin n r) u h = refl
to_pointer g base.Char (code.Fat r) u h = refl
to_pointer g base.Char (code.Unique n) u h = refl
to_pointer g base.Void (code.Thin n r) u h = refl
to_pointer g base.Void (code.Fat r) u h = refl
to_pointer g base.Void (code.Unique n) u h = refl
to_pointer g base.Null k u h = absurd (true≢false h)
to_pointer g (base.Handle s) (code.Thin n r) u h = refl
to_pointer g (base.Handle s) (code.Fat r) u h = refl
to_pointer g (base.Handle s) (code.Unique n) u h = refl
to_pointer g (base.Key s) (code.Thin n r) u h = refl
to_pointer g (base.Key s) (code.Fat r) u h = refl
to_pointer g (base.Key s) (code.Unique n) u h = refl
to_pointer g (base.Struct tag rs) (code.Thin n r) u h = refl
to_pointer g (base.Struct tag rs) (code.Fat r) u h = refl
to_pointer g (base.Struct tag rs) (code.Unique n) u h = refl
to_pointer g (base.Union tag rs) (code.Thin n r) u h = refl
to_pointer g (base.Union tag rs) (code.Fat r) u h = refl
to_pointer g (base.Union tag rs) (code.Unique n) u h = refl

null_to_pointer : (g : Regions) (b : BaseType) (k : Layer) (u : StaticType) → is_null (base_type b) ≡ true
    → conversion g (base_type b) (pointer_to k u) ≡ null_rule k
null_to_pointer g base.Int k u h = absurd (true≢false (sym h))
null_to_pointer g base.Unsigned k u h = absurd (true≢false (sym h))
null_to_pointer g base.Char k u h = absurd (true≢false (sym h))
null_to_pointer g base.Void k u h = absurd (true≢false (sym h))
null_to_pointer g base.Null (code.Thin n r) u h = refl
null_to_pointer g base.Null (code.Fat r) u h = refl
null_to_pointer g base.Null (code.Unique n) u h = refl
null_to_pointer g (base.Handle s) k u h = absurd (true≢false (sym h))
null_to_pointer g (base.Key s) k u h = absurd (true≢false (sym h))
null_to_pointer g (base.Struct tag rs) k u h = absurd (true≢false (sym h))
null_to_pointer g (base.Union tag rs) k u h = absurd (true≢false (sym h))

pub pointer_to_base : (g : Regions) (ls ks : List Layer) (t : StaticType) (c : BaseType) (l : Layer) → outermost ls ≡ Some l → outermost ks ≡ None
    → conversion g (pointed t ls) (pointed (base_type c) ks) ≡ Some type_rule
pointer_to_base g ls ks t c l first second =
    ap (λ a. conversion g a (pointed (base_type c) ks)) (by_outer ls t l first)
    ∙ ap (conversion g (pointer_to l (pointed t (take (length ls - 1) ls)))) (by_none ks (base_type c) second)
    ∙ from_pointer g l (pointed t (take (length ls - 1) ls)) c

base_first : (g : Regions) (ls ks : List Layer) (b : BaseType) (u : StaticType) (k : Layer) → outermost ls ≡ None → outermost ks ≡ Some k
    → conversion g (pointed (base_type b) ls) (pointed u ks) ≡ conversion g (base_type b) (pointer_to k (pointed u (take (length ks - 1) ks)))
base_first g ls ks b u k first second =
    ap (λ a. conversion g a (pointed u ks)) (by_none ls (base_type b) first) ∙ ap (conversion g (base_type b)) (by_outer ks u k second)

pub base_to_pointer : (g : Regions) (ls ks : List Layer) (b : BaseType) (u : StaticType) (k : Layer) → outermost ls ≡ None → outermost ks ≡ Some k
    → is_null (base_type b) ≡ false → conversion g (pointed (base_type b) ls) (pointed u ks) ≡ Some type_rule
base_to_pointer g ls ks b u k first second h = base_first g ls ks b u k first second ∙ to_pointer g b k (pointed u (take (length ks - 1) ks)) h

pub null_converts : (g : Regions) (ls ks : List Layer) (b : BaseType) (u : StaticType) (k : Layer) → outermost ls ≡ None → outermost ks ≡ Some k
    → is_null (base_type b) ≡ true → conversion g (pointed (base_type b) ls) (pointed u ks) ≡ null_rule k
null_converts g ls ks b u k first second h = base_first g ls ks b u k first second ∙ null_to_pointer g b k (pointed u (take (length ks - 1) ks)) h

pub both_bases : (g : Regions) (ls ks : List Layer) (t u : StaticType) → outermost ls ≡ None → outermost ks ≡ None
    → conversion g t u ≡ conversion g (pointed t ls) (pointed u ks)
both_bases g ls ks t u first second =
    ap (λ a. conversion g a u) (sym (by_none ls t first)) ∙ ap (conversion g (pointed t ls)) (sym (by_none ks u second))
