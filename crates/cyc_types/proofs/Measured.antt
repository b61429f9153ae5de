-- Bytes are counted member by member, up to the most that a type may have.
use Rattle.std.proofs.Common.{◌≡◌, ℕ, ◌≤◌, ◌+◌, Bool, true, false, List, [], ◌∷◌, refl, sym, ap, ◌∙◌, arith, max}
use Rattle.std.specs.Prelude.{None, Option, Some, if◌then◌else◌}
use Rattle.source_meaning.proofs.Layouts.{laid_above}
use Rattle.source_meaning.specs.Shapes.{Shape}
use Rattle.source_meaning.specs.Sizes.{Extent, laid_out, rounded_up}
use Rattle.source_typing.specs.Extents.{fits_bytes, known_shape, part_shapes}
use Rattle.source_typing.specs.Tables.{Part}
use Rattle.source_typing.specs.Types.{StaticType}
use Rattle.cyc_types.specs.Measures.{bytes_and, limited, part_extent, placed_after, quick_laid}

pub if_over : (e : Extent) → fits_bytes e.size ≡ false → limited e ≡ None
if_over e h = ap (λ b. if b then Some e else None) h

pub if_fits : (e : Extent) → fits_bytes e.size ≡ true → limited e ≡ Some e
if_fits e h = ap (λ b. if b then Some e else None) h

pub over_more : (n m : ℕ) → n ≤ m → fits_bytes n ≡ false → fits_bytes m ≡ false
over_more n m le h = grind (arith, le, h)

placed : (s e : Extent) (b : Bool) → fits_bytes e.size ≡ b
    → placed_after s (limited e) ≡ limited (bytes_and (rounded_up s.size e.align + e.size) (max s.align e.align))
placed s e true h = ap (placed_after s) (if_fits e h)
placed s e false h =
    let more : e.size ≤ rounded_up s.size e.align + e.size = omega arith in
    ap (placed_after s) (if_over e h)
    ∙ sym (if_over (bytes_and (rounded_up s.size e.align + e.size) (max s.align e.align)) (over_more e.size (rounded_up s.size e.align + e.size) more h))

-- what is so of each member
abbrev pub EachExtent : (Shape → Extent) → (StaticType → Option Extent) → List Part → Type 0
EachExtent extent of [] = Unit {0}
EachExtent extent of (p ∷ ps) = (limited (extent (known_shape p.type)) ≡ part_extent of p.type) × EachExtent extent of ps

pub nothing_laid : (of : StaticType → Option Extent) (ps : List Part) → quick_laid of None ps ≡ None
nothing_laid of [] = refl
nothing_laid of (p ∷ ps) = refl

pub laid_as : (extent : Shape → Extent) (of : StaticType → Option Extent) (ps : List Part) (s : Extent) (b : Bool) → fits_bytes s.size ≡ b
    → EachExtent extent of ps → limited (laid_out extent s (part_shapes ps)) ≡ quick_laid of (limited s) ps
laid_as extent of ps s false h each =
    if_over (laid_out extent s (part_shapes ps)) (over_more s.size (laid_out extent s (part_shapes ps)).size (laid_above extent s (part_shapes ps)) h)
    ∙ sym (ap (λ o. quick_laid of o ps) (if_over s h) ∙ nothing_laid of ps)
laid_as extent of [] s true h each = sym (ap (λ o. quick_laid of o []) (if_fits s h))
laid_as extent of (p ∷ ps) s true h each =
    let e = extent (known_shape p.type) in
    let next = bytes_and (rounded_up s.size e.align + e.size) (max s.align e.align) in
    laid_as extent of ps next (fits_bytes next.size) refl each.1
    ∙ sym (ap (λ o. quick_laid of o (p ∷ ps)) (if_fits s h)
    ∙ ap (λ o. quick_laid of (placed_after s o) ps) (sym each.0)
    ∙ ap (λ o. quick_laid of o ps) (placed s e (fits_bytes e.size) refl))
