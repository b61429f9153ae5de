-- The parts of a cell that gets as many of another one's as a layout's cell has, and of one that begins as that does.
use Rattle.std.specs.Prelude.{nat_eq, nat_le, nat_lt, slice_get}
use Rattle.std.proofs.Common.{◌≡◌, ℕ, zero, suc, ◌+◌, Bool, true, false, Option, Some, None, List, [], ◌∷◌, refl, ap, ◌∙◌, sym, arith}
use Rattle.std.proofs.Math.Dec.{eqb-suc-zero}
use Rattle.std.proofs.lemmas.Bool.{and_parts}
use Rattle.std.proofs.lemmas.Bool.Decides.{nat_tests}
use Rattle.core_meaning.specs.Memory.{Part, PartShape}
use Rattle.core_meaning.specs.Operations.{lies_at, content_from, begun}
use Rattle.cyc_core.specs.declared.operation.Width.{Width}
use Rattle.cyc_core.specs.declared.operation.Width.TheVariants as width
use Rattle.cyc_core.specs.Trees.{bytes_of, padding_parts}
use Rattle.core_eval.specs.declared.value.Value.{Value}
use Rattle.core_eval.specs.declared.held.Held.{Held}
use Rattle.core_eval.specs.declared.held.Held.TheVariants as held
use Rattle.core_eval.specs.Values.{width_of, pointer_part, values_in, refilled, same_width, parts_from}
use Rattle.core_eval.specs.Whole.{has_behind, has_parts, held_as}
use Rattle.core_eval.proofs.Parts.{nothing_at, padding_shape, padding_part, shapes_from, shapes_by, parts_as}
use Rattle.core_eval.proofs.Memories.{same_number}

-- what a copy and what a clearing make of a part
abbrev pub copied_by : Option Part → Option PartShape → Option Part → Option Part
copied_by None s q = None
copied_by (Some p) None q = Some p
copied_by (Some p) (Some s) q = content_from p q

abbrev pub cleared_by : Option Part → Option PartShape → Option Part
cleared_by None s = None
cleared_by (Some p) s = Some (begun p s)

-- neither moves it
pub copied_lies : (o : Option Part) (s : Option PartShape) (q : Option Part) (byte : ℕ) → lies_at (copied_by o s q) byte ≡ lies_at o byte
copied_lies None s q byte = refl
copied_lies (Some p) None q byte = refl
copied_lies (Some p) (Some s) None byte = refl
copied_lies (Some p) (Some s) (Some q) byte = refl

pub cleared_lies : (o : Option Part) (s : Option PartShape) (byte : ℕ) → lies_at (cleared_by o s) byte ≡ lies_at o byte
cleared_lies None s byte = refl
cleared_lies (Some p) None byte = refl
cleared_lies (Some p) (Some s) byte = refl

-- ---- lists of parts

-- bytes that hold nothing stay so
padding_copied : (a b : Bool) (x y : ℕ) (shape : Option PartShape) → copied_by (nothing_at a x) shape (nothing_at b y) ≡ nothing_at a x
padding_copied false b x y shape = refl
padding_copied true b x y None = refl
padding_copied true false x y (Some s) = refl
padding_copied true true x y (Some s) = refl

padding_cleared : (a : Bool) (x at m j : ℕ) → cleared_by (nothing_at a x) (slice_get (padding_parts at m) j) ≡ nothing_at a x
padding_cleared a x at m j = ap (cleared_by (nothing_at a x)) (padding_part at m j) ∙ by a (nat_lt j m)
  where
    by : (a b : Bool) → cleared_by (nothing_at a x) (padding_shape b (at + j)) ≡ nothing_at a x
    by false b = refl
    by true false = refl
    by true true = refl

-- where a layout has no part nothing changes
uncopied : (o p : Option Part) → copied_by o None p ≡ o
uncopied None p = refl
uncopied (Some q) p = refl

uncleared : (o : Option Part) → cleared_by o None ≡ o
uncleared None = refl
uncleared (Some q) = refl

-- a layout without bytes behind
no_padding : (m at j : ℕ) → nat_eq m 0 ≡ true → slice_get (padding_parts at m) j ≡ None
no_padding zero at j none = refl
no_padding (suc m) at j none = absurd (let no : false ≡ true = sym (eqb-suc-zero m) ∙ none in cc)

-- as many of the third's values as the first has, and then the second's
abbrev overlaid : List Value → List Value → List Value → List Value
overlaid [] us ws = us
overlaid (v ∷ vs) [] ws = []
overlaid (v ∷ vs) (u ∷ us) [] = u ∷ us
overlaid (v ∷ vs) (u ∷ us) (w ∷ ws) = w ∷ overlaid vs us ws

parts_copied : (us vs ws : List Value) (offset n at m from l wide j : ℕ) → has_behind us n vs m ≡ true → has_behind ws l vs m ≡ true
    → copied_by (parts_from offset wide n us j) (slice_get (shapes_from at wide m vs) j) (parts_from from wide l ws j)
    ≡ parts_from offset wide n (overlaid vs us ws) j
parts_copied [] [] [] offset n at m from l wide j has has_from =
    padding_copied (nat_lt j n) (nat_lt j l) (offset + j) (from + j) (slice_get (padding_parts at m) j)
parts_copied [] [] (w ∷ ws) offset n at m from l wide j has has_from =
    ap (λ s. copied_by (parts_from offset wide n [] j) s (parts_from from wide l (w ∷ ws) j)) (no_padding m at j has_from)
    ∙ uncopied (parts_from offset wide n [] j) (parts_from from wide l (w ∷ ws) j)
parts_copied (u ∷ us) [] ws offset n at m from l wide j has has_from =
    ap (λ s. copied_by (parts_from offset wide n (u ∷ us) j) s (parts_from from wide l ws j)) (no_padding m at j has)
    ∙ uncopied (parts_from offset wide n (u ∷ us) j) (parts_from from wide l ws j)
parts_copied [] (v ∷ vs) ws offset n at m from l wide j has has_from = cc
parts_copied (u ∷ us) (v ∷ vs) [] offset n at m from l wide j has has_from = cc
parts_copied (u ∷ us) (v ∷ vs) (w ∷ ws) offset n at m from l wide zero has has_from = refl
parts_copied (u ∷ us) (v ∷ vs) (w ∷ ws) offset n at m from l wide (suc j) has has_from =
    parts_copied us vs ws (offset + wide) n (at + wide) m (from + wide) l wide j has has_from

parts_cleared : (us vs : List Value) (offset n at m wide j : ℕ) → has_behind us n vs m ≡ true
    → cleared_by (parts_from offset wide n us j) (slice_get (shapes_from at wide m vs) j) ≡ parts_from offset wide n (overlaid vs us vs) j
parts_cleared [] [] offset n at m wide j has = padding_cleared (nat_lt j n) (offset + j) at m j
parts_cleared (u ∷ us) [] offset n at m wide j has =
    ap (cleared_by (parts_from offset wide n (u ∷ us) j)) (no_padding m at j has) ∙ uncleared (parts_from offset wide n (u ∷ us) j)
parts_cleared [] (v ∷ vs) offset n at m wide j has = cc
parts_cleared (u ∷ us) (v ∷ vs) offset n at m wide zero has = refl
parts_cleared (u ∷ us) (v ∷ vs) offset n at m wide (suc j) has = parts_cleared us vs (offset + wide) n (at + wide) m wide j has

-- ---- what a cell holds then

widths_same : (a b : Width) → same_width a b ≡ true → b ≡ a
widths_same width.Byte width.Byte e = refl
widths_same width.Byte width.Word e = cc
widths_same width.Word width.Byte e = cc
widths_same width.Word width.Word e = refl

refilled_width : (h g : Held) → width_of (refilled h g) ≡ width_of h
refilled_width (held.Byte u) g = refl
refilled_width (held.Word u) g = refl
refilled_width (held.Fat u u1 u2) (held.Byte v) = refl
refilled_width (held.Fat u u1 u2) (held.Word v) = refl
refilled_width (held.Fat u u1 u2) (held.Fat v v1 v2) = refl
refilled_width (held.Fat u u1 u2) (held.Tagged v v1) = refl
refilled_width (held.Fat u u1 u2) (held.TaggedFat v v1 v2 v3) = refl
refilled_width (held.Tagged u u1) (held.Byte v) = refl
refilled_width (held.Tagged u u1) (held.Word v) = refl
refilled_width (held.Tagged u u1) (held.Fat v v1 v2) = refl
refilled_width (held.Tagged u u1) (held.Tagged v v1) = refl
refilled_width (held.Tagged u u1) (held.TaggedFat v v1 v2 v3) = refl
refilled_width (held.TaggedFat u u1 u2 u3) (held.Byte v) = refl
refilled_width (held.TaggedFat u u1 u2 u3) (held.Word v) = refl
refilled_width (held.TaggedFat u u1 u2 u3) (held.Fat v v1 v2) = refl
refilled_width (held.TaggedFat u u1 u2 u3) (held.Tagged v v1) = refl
refilled_width (held.TaggedFat u u1 u2 u3) (held.TaggedFat v v1 v2 v3) = refl

-- what it holds has the values that it got
copied_values : (h g f : Held) (n m l : ℕ) → nat_eq (pointer_part h) (pointer_part g) ≡ true → nat_eq (pointer_part f) (pointer_part g) ≡ true
    → has_parts h n g m ≡ true → has_parts f l g m ≡ true → overlaid (values_in g) (values_in h) (values_in f) ≡ values_in (refilled h (held_as g f))
copied_values (held.Byte u) (held.Byte v) f n m l alike alike_from has has_from = refl
copied_values (held.Word u) (held.Byte v) f n m l alike alike_from has has_from = cc
copied_values (held.Fat u u1 u2) (held.Byte v) f n m l alike alike_from has has_from = cc
copied_values (held.Tagged u u1) (held.Byte v) f n m l alike alike_from has has_from = cc
copied_values (held.TaggedFat u u1 u2 u3) (held.Byte v) f n m l alike alike_from has has_from = cc
copied_values (held.Byte u) (held.Word v) f n m l alike alike_from has has_from = cc
copied_values (held.Word u) (held.Word v) f n m l alike alike_from has has_from = refl
copied_values (held.Fat u u1 u2) (held.Word v) f n m l alike alike_from has has_from = refl
copied_values (held.Tagged u u1) (held.Word v) f n m l alike alike_from has has_from = cc
copied_values (held.TaggedFat u u1 u2 u3) (held.Word v) f n m l alike alike_from has has_from = cc
copied_values h (held.Fat v v1 v2) (held.Byte w) n m l alike alike_from has has_from = cc
copied_values h (held.Fat v v1 v2) (held.Word w) n m l alike alike_from has has_from = cc
copied_values (held.Byte u) (held.Fat v v1 v2) (held.Fat w w1 w2) n m l alike alike_from has has_from = cc
copied_values (held.Word u) (held.Fat v v1 v2) (held.Fat w w1 w2) n m l alike alike_from has has_from = cc
copied_values (held.Fat u u1 u2) (held.Fat v v1 v2) (held.Fat w w1 w2) n m l alike alike_from has has_from = refl
copied_values (held.Tagged u u1) (held.Fat v v1 v2) (held.Fat w w1 w2) n m l alike alike_from has has_from = cc
copied_values (held.TaggedFat u u1 u2 u3) (held.Fat v v1 v2) (held.Fat w w1 w2) n m l alike alike_from has has_from = cc
copied_values h (held.Fat v v1 v2) (held.Tagged w w1) n m l alike alike_from has has_from = cc
copied_values h (held.Fat v v1 v2) (held.TaggedFat w w1 w2 w3) n m l alike alike_from has has_from = cc
copied_values h (held.Tagged v v1) (held.Byte w) n m l alike alike_from has has_from = cc
copied_values h (held.Tagged v v1) (held.Word w) n m l alike alike_from has has_from = cc
copied_values h (held.Tagged v v1) (held.Fat w w1 w2) n m l alike alike_from has has_from = cc
copied_values (held.Byte u) (held.Tagged v v1) (held.Tagged w w1) n m l alike alike_from has has_from = cc
copied_values (held.Word u) (held.Tagged v v1) (held.Tagged w w1) n m l alike alike_from has has_from = cc
copied_values (held.Fat u u1 u2) (held.Tagged v v1) (held.Tagged w w1) n m l alike alike_from has has_from = cc
copied_values (held.Tagged u u1) (held.Tagged v v1) (held.Tagged w w1) n m l alike alike_from has has_from = refl
copied_values (held.TaggedFat u u1 u2 u3) (held.Tagged v v1) (held.Tagged w w1) n m l alike alike_from has has_from = refl
copied_values (held.Byte u) (held.Tagged v v1) (held.TaggedFat w w1 w2 w3) n m l alike alike_from has has_from = cc
copied_values (held.Word u) (held.Tagged v v1) (held.TaggedFat w w1 w2 w3) n m l alike alike_from has has_from = cc
copied_values (held.Fat u u1 u2) (held.Tagged v v1) (held.TaggedFat w w1 w2 w3) n m l alike alike_from has has_from = cc
copied_values (held.Tagged u u1) (held.Tagged v v1) (held.TaggedFat w w1 w2 w3) n m l alike alike_from has has_from = refl
copied_values (held.TaggedFat u u1 u2 u3) (held.Tagged v v1) (held.TaggedFat w w1 w2 w3) n m l alike alike_from has has_from = refl
copied_values h (held.TaggedFat v v1 v2 v3) (held.Byte w) n m l alike alike_from has has_from = cc
copied_values h (held.TaggedFat v v1 v2 v3) (held.Word w) n m l alike alike_from has has_from = cc
copied_values h (held.TaggedFat v v1 v2 v3) (held.Fat w w1 w2) n m l alike alike_from has has_from = cc
copied_values h (held.TaggedFat v v1 v2 v3) (held.Tagged w w1) n m l alike alike_from has has_from = cc
copied_values (held.Byte u) (held.TaggedFat v v1 v2 v3) (held.TaggedFat w w1 w2 w3) n m l alike alike_from has has_from = cc
copied_values (held.Word u) (held.TaggedFat v v1 v2 v3) (held.TaggedFat w w1 w2 w3) n m l alike alike_from has has_from = cc
copied_values (held.Fat u u1 u2) (held.TaggedFat v v1 v2 v3) (held.TaggedFat w w1 w2 w3) n m l alike alike_from has has_from = cc
copied_values (held.Tagged u u1) (held.TaggedFat v v1 v2 v3) (held.TaggedFat w w1 w2 w3) n m l alike alike_from has has_from = cc
copied_values (held.TaggedFat u u1 u2 u3) (held.TaggedFat v v1 v2 v3) (held.TaggedFat w w1 w2 w3) n m l alike alike_from has has_from = refl

pub held_copied : (h g f : Held) (offset n at m from l j : ℕ) → nat_eq (pointer_part h) (pointer_part g) ≡ true
    → nat_eq (pointer_part f) (pointer_part g) ≡ true → has_parts h n g m ≡ true → has_parts f l g m ≡ true
    → copied_by (parts_as h offset n j) (slice_get (shapes_by at g m) j) (parts_as f from l j) ≡ parts_as (refilled h (held_as g f)) offset n j
held_copied h g f offset n at m from l j alike alike_from has has_from =
    let (wide, parts) = and_parts _ _ has in
    let (wide_from, parts_of) = and_parts _ _ has_from in
    let to = widths_same (width_of h) (width_of g) wide in
    let of = widths_same (width_of f) (width_of g) wide_from in
    ap (λ w. copied_by (parts_as h offset n j) (slice_get (shapes_from at (bytes_of w) m (values_in g)) j) (parts_as f from l j)) to
    ∙ ap (λ w. copied_by (parts_as h offset n j) (slice_get (shapes_from at (bytes_of (width_of h)) m (values_in g)) j)
    (parts_from from (bytes_of w) l (values_in f) j)) (sym of ∙ to)
    ∙ parts_copied (values_in h) (values_in g) (values_in f) offset n at m from l (bytes_of (width_of h)) j parts parts_of
    ∙ ap (λ vs. parts_from offset (bytes_of (width_of h)) n vs j) (copied_values h g f n m l alike alike_from has has_from)
    ∙ ap (λ w. parts_from offset (bytes_of w) n (values_in (refilled h (held_as g f))) j) (sym (refilled_width h (held_as g f)))

-- a cell has its own parts
self_has : (g : Held) (m : ℕ) → has_parts g m g m ≡ true
self_has g m = by g
  where
    enough : nat_le m m ≡ true
    enough = grind (arith, nat_tests)

    by : (g : Held) → has_parts g m g m ≡ true
    by (held.Byte v) = enough
    by (held.Word v) = enough
    by (held.Fat u v w) = enough
    by (held.Tagged t v) = enough
    by (held.TaggedFat t u v w) = enough

self_as : (g : Held) → held_as g g ≡ g
self_as (held.Byte v) = refl
self_as (held.Word v) = refl
self_as (held.Fat u v w) = refl
self_as (held.Tagged t v) = refl
self_as (held.TaggedFat t u v w) = refl

pub held_cleared : (h g : Held) (offset n at m j : ℕ) → nat_eq (pointer_part h) (pointer_part g) ≡ true → has_parts h n g m ≡ true
    → cleared_by (parts_as h offset n j) (slice_get (shapes_by at g m) j) ≡ parts_as (refilled h g) offset n j
held_cleared h g offset n at m j alike has =
    let (wide, parts) = and_parts _ _ has in
    ap (λ w. cleared_by (parts_as h offset n j) (slice_get (shapes_from at (bytes_of w) m (values_in g)) j)) (widths_same (width_of h) (width_of g) wide)
    ∙ parts_cleared (values_in h) (values_in g) offset n at m (bytes_of (width_of h)) j parts
    ∙ ap (λ vs. parts_from offset (bytes_of (width_of h)) n vs j)
    (copied_values h g g n m m alike (same_number (pointer_part g)) has (self_has g m) ∙ ap (λ x. values_in (refilled h x)) (self_as g))
    ∙ ap (λ w. parts_from offset (bytes_of w) n (values_in (refilled h g)) j) (sym (refilled_width h g))
