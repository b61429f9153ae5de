-- One member after others, where the bytes of the struct aren't too many.
use Rattle.std.proofs.Common.{◌≡◌, ℕ, ◌≤◌, ◌+◌, Bool, true, false, List, [], ◌∷◌, ◌++◌, refl, sym, ap, ◌∙◌, arith, map, max, true≢false}
use Rattle.std.proofs.lemmas.List.{map-append}
use Rattle.std.specs.Prelude.{None, Option, Some, if◌then◌else◌, is_none, unwrap_or}
use Rattle.source_meaning.proofs.Layouts.{rounded_above}
use Rattle.source_meaning.specs.Sizes.{Extent, rounded_up}
use Rattle.source_typing.specs.Extents.{fits_bytes}
use Rattle.source_typing.specs.Tables.{Part}
use Rattle.source_typing.specs.Types.{StaticType}
use Rattle.cyc_types.specs.Cells.{KindAt, cells_after, moved_by, part_cells, placed_onto}
use Rattle.cyc_types.specs.Measures.{bytes_and, limited, part_extent, placed_after, quick_laid}
use Rattle.cyc_types.proofs.Measured.{if_fits, if_over, nothing_laid}

abbrev pub after : Extent → Extent → Extent
after s e = bytes_and (rounded_up s.size e.align + e.size) (max s.align e.align)

limited_is : (x e : Extent) → limited x ≡ Some e → x ≡ e
limited_is x e h = by (fits_bytes x.size) h
  where
    by : (b : Bool) → (if b then Some x else None) ≡ Some e → x ≡ e
    by true h = ap (λ o. unwrap_or o x) h
    by false h = absurd (true≢false (ap is_none h))

too_many : (of : StaticType → Option Extent) (ps : List Part) (e : Extent) → quick_laid of None ps ≡ Some e → true ≡ false
too_many of ps e h = ap is_none (sym (nothing_laid of ps) ∙ h)

-- one more member, where all aren't too many bytes
pub record Next (of : StaticType → Option Extent) (ps : List Part) (s e : Extent) (o : Option Extent) : Type 0 where
  pub extent : Extent
  pub is : o ≡ Some extent
  pub further : placed_after s o ≡ Some (after s extent)
  pub laid : quick_laid of (Some (after s extent)) ps ≡ Some e

pub next : (of : StaticType → Option Extent) (ps : List Part) (s e : Extent) (o : Option Extent) → quick_laid of (placed_after s o) ps ≡ Some e
    → Next of ps s e o
next of ps s e None h = absurd (true≢false (too_many of ps e h))
next of ps s e (Some x) h = by (fits_bytes (after s x).size) refl
  where
    by : (b : Bool) → fits_bytes (after s x).size ≡ b → Next of ps s e (Some x)
    by true f = record {
      extent = x;
      is = refl;
      further = if_fits (after s x) f;
      laid = ap (λ o. quick_laid of o ps) (sym (if_fits (after s x) f)) ∙ h;
    }
    by false f = absurd (true≢false (too_many of ps e (ap (λ o. quick_laid of o ps) (sym (if_over (after s x) f)) ∙ h)))

-- the whole has no fewer bytes than what stands before
pub laid_more : (of : StaticType → Option Extent) (ps : List Part) (s e : Extent) → quick_laid of (Some s) ps ≡ Some e → s.size ≤ e.size
laid_more of [] s e h =
    let same : rounded_up s.size s.align ≡ e.size = ap (λ (x : Extent). x.size) (limited_is (bytes_and (rounded_up s.size s.align) s.align) e h) in
    let above = rounded_above s.size s.align in
    omega (arith, same, above)
laid_more of (p ∷ ps) s e h =
    let n = next of ps s e (part_extent of p.type) h in
    let more = laid_more of ps (after s n.extent) e n.laid in
    let above = rounded_above s.size n.extent.align in
    omega (arith, more, above)

moved_twice : (a b : ℕ) (cs : List KindAt) → map (moved_by a) (map (moved_by b) cs) ≡ map (moved_by (a + b)) cs
moved_twice a b [] = refl
moved_twice a b (c ∷ cs) =
    let here : a + (b + c.offset) ≡ a + b + c.offset = omega arith in
    ap (λ n. record { offset = n; kind = c.kind } ∷ map (moved_by a) (map (moved_by b) cs)) here
    ∙ ap (λ ds. moved_by (a + b) c ∷ ds) (moved_twice a b cs)

-- its cells come before those of the others
pub next_cells : (of : StaticType → Option Extent) (cells : StaticType → List KindAt) (at : ℕ) (s e : Extent) (further : Option Extent) (p : Part)
    (ps : List Part)
    → part_extent of p.type ≡ Some e → further ≡ placed_after s (Some e)
    → map (moved_by at) (placed_onto of cells (Some s) (p ∷ ps))
    ≡ map (moved_by (at + rounded_up s.size e.align)) (part_cells cells p.type) ++ map (moved_by at) (placed_onto of cells further ps)
next_cells of cells at s e further p ps is more =
    ap (λ o. map (moved_by at) (cells_after s o (part_cells cells p.type) ++ placed_onto of cells (placed_after s o) ps)) is
    ∙ ap (λ o. map (moved_by at) (map (moved_by (rounded_up s.size e.align)) (part_cells cells p.type) ++ placed_onto of cells o ps)) (sym more)
    ∙ map-append (moved_by at) (map (moved_by (rounded_up s.size e.align)) (part_cells cells p.type)) (placed_onto of cells further ps)
    ∙ ap (λ cs. cs ++ map (moved_by at) (placed_onto of cells further ps)) (moved_twice at (rounded_up s.size e.align) (part_cells cells p.type))
