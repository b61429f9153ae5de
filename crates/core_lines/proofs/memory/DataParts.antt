-- The parts of a program's data, at their places: each lies within its object, and no two meet.
use Rattle.std.specs.Prelude.{nat_eq, slice_get, ◌&&◌}
use Rattle.std.proofs.Common.{◌≡◌, ℕ, zero, suc, ◌+◌, ◌*◌, ◌%◌, ◌<◌, ◌≤◌, inl, inr, ⊎_elim, Bool, true, false, List, Option, Some, None, refl, sym, ap, ◌∙◌}
use Rattle.std.proofs.Common.{subst, arith}
use Rattle.std.proofs.lemmas.Bool.{eq-eqb, cases_lt, and_from, and_left, and_right}
use Rattle.std.proofs.lemmas.Option.{same_Some, none-some}
use Rattle.rv32_machine.specs.State.{data_base}
use Rattle.core_meaning.specs.Memory.{Region, Frame, Own, Born, Spot, Content, Memory, same_region, same_spot}
use Rattle.core_meaning.specs.Layouts.{Apart}
use Rattle.core_meaning.specs.Core.{Datum}
use Rattle.core_meaning.specs.Meaning.{first_memory, datum_parts}
use Rattle.core_lines.specs.Lies.{Cell, same_name, PartLies}
use Rattle.core_lines.specs.Selected.{datum_locals}
use Rattle.core_lines.specs.Running.{in_data, first_base, first_maps}
use Rattle.core_lines.proofs.memory.Fitting.{IsWidth}
use Rattle.core_lines.proofs.memory.Growing.{aligned_at}
use Rattle.core_lines.proofs.memory.Laying.{LaidOut}
use Rattle.core_lines.proofs.memory.Data.{IsObject, object_at}

-- a part of the data, at its place
pub record DataPart (ds : List Datum) (offsets : List ℕ) (s : Spot) (j at width : ℕ) (v : Content) : Type 0 where
  pub begin : ℕ
  pub offset : ℕ
  pub region : s.region ≡ Born 0
  pub placed : slice_get offsets s.object ≡ Some begin
  pub has : datum_parts ds s.object s.cell j ≡ Some (record { offset = offset; width = width; content = v })
  pub there : at ≡ data_base + begin + offset

pub in_data_is : (found : Option ℕ) (x : ℕ) → in_data found ≡ Some x → (offset : ℕ) × ((found ≡ Some offset) × (x ≡ data_base + offset))
in_data_is None x e = absurd (none-some x e)
in_data_is (Some offset) x e = (offset, (refl, sym (same_Some (data_base + offset) x e)))

module _ (ds : List Datum) (offsets : List ℕ) where
  abbrev first : Memory
  first = first_memory ds

  pub data_part : (s : Spot) (j at width : ℕ) (v : Content) → PartLies (first_maps offsets) first s j at width v → DataPart ds offsets s j at width v
  data_part s j at width v h = by s.region refl h.known h.has
    where
      by : (r : Region) → s.region ≡ r → first_base offsets r s.object ≡ Some h.base
          → first.parts (record s { region = r }) j ≡ Some (record { offset = h.offset; width = width; content = v }) → DataPart ds offsets s j at width v
      by (Born zero) is known has = let x = in_data_is (slice_get offsets s.object) h.base known in record {
        begin = x.0;
        offset = h.offset;
        region = is;
        placed = x.1.0;
        has = has;
        there = h.there ∙ ap (λ k. k + h.offset) x.1.1;
      }
      by (Born (suc d)) is known has = absurd (none-some h.base known)
      by (Frame k) is known has = absurd (none-some h.base known)
      by (Own k) is known has = absurd (none-some h.base known)

module _ (ds : List Datum) (offsets : List ℕ) (high : ℕ) (laid : LaidOut (datum_locals ds) offsets 0 high) where
  pub object_of : (s : Spot) (j at width : ℕ) (v : Content) (d : DataPart ds offsets s j at width v) → IsObject ds offsets 0 high s.object d.begin
  object_of s j at width v d = object_at ds offsets 0 high s.object d.begin laid d.placed

  -- a part lies within its object
  pub within_object : (s : Spot) (j at width : ℕ) (v : Content) (d : DataPart ds offsets s j at width v) (o : IsObject ds offsets 0 high s.object d.begin)
      → d.offset + width ≤ o.local.count * o.local.layout.bytes
  within_object s j at width v d o =
      let like = o.parts s.cell j (record { offset = d.offset; width = width; content = v }) d.has in
      let e = like.offset in
      let wide = like.width in
      let within = o.fits.within s.cell j like.blank like.is in
      omega (arith, e, wide, within)

  pub part_aligned : (s : Spot) (j at width : ℕ) (v : Content) → DataPart ds offsets s j at width v → IsWidth width × (at % width ≡ 0)
  part_aligned s j at width v d =
      let o = object_of s j at width v d in
      let like = o.parts s.cell j (record { offset = d.offset; width = width; content = v }) d.has in
      let wide = o.fits.wide s.cell j like.blank like.is in
      let is_wide : IsWidth width = subst IsWidth (sym like.width) wide.0 in
      let even : d.offset % width ≡ 0 = ap (λ k. k % width) like.offset ∙ subst (λ k. like.blank.offset % k ≡ 0) (sym like.width) wide.1 in
      let four = o.even in
      (is_wide, ap (λ k. k % width) d.there ∙ aligned_at (data_base + d.begin) d.offset width (omega (arith, four)) is_wide even)

  pub parts_apart : (s t : Spot) (i j at width at' width' : ℕ) (v v' : Content) → same_name (Cell s i) (Cell t j) ≡ false → DataPart ds offsets s i at width v
      → DataPart ds offsets t j at' width' v' → Apart at width at' width'
  parts_apart s t i j at width at' width' v v' ne d d' = ⊎_elim
      (λ (less : s.object < t.object). inl (before s t i j at width at' width' v v' d d' less))
      (λ (le : t.object ≤ s.object). ⊎_elim
      (λ (less : t.object < s.object). inr (before t s j i at' width' at width v' v d' d less))
      (λ (le' : s.object ≤ t.object). beside (omega (arith, le, le')))
      (cases_lt t.object s.object))
      (cases_lt s.object t.object)
    where
      before : (s t : Spot) (i j at width at' width' : ℕ) (v v' : Content) (d : DataPart ds offsets s i at width v) (d' : DataPart ds offsets t j at' width' v')
          → s.object < t.object → at + width ≤ at'
      before s t i j at width at' width' v v' d d' less =
          let o = object_of s i at width v d in
          let inside = within_object s i at width v d o in
          let end = o.before t.object d'.begin less d'.placed in
          let e = d.there in
          let e' = d'.there in
          omega (arith, inside, end, e, e')

      beside : s.object ≡ t.object → Apart at width at' width'
      beside same =
          let o = object_of s i at width v d in
          let begin : d'.begin ≡ d.begin = same_Some d'.begin d.begin (sym d'.placed ∙ ap (λ k. slice_get offsets k) (sym same) ∙ d.placed) in
          let like = o.parts s.cell i (record { offset = d.offset; width = width; content = v }) d.has in
          let has' : datum_parts ds s.object t.cell j ≡ Some (record { offset = d'.offset; width = width'; content = v' }) =
          ap (λ k. datum_parts ds k t.cell j) same ∙ d'.has in
          let like' = o.parts t.cell j (record { offset = d'.offset; width = width'; content = v' }) has' in
          let a = o.fits.apart s.cell i t.cell j like.blank like'.blank (differ (nat_eq s.cell t.cell) (nat_eq i j) refl refl) like.is like'.is in
          let e = d.there in
          let e' = d'.there in
          let f = like.offset in
          let f' = like'.offset in
          let g = like.width in
          let g' = like'.width in
          ⊎_elim (λ h. inl (omega (arith, h, e, e', f, f', g, begin))) (λ h. inr (omega (arith, h, e, e', f, f', g', begin))) a
        where
          regions : same_region s.region t.region ≡ true
          regions = ap (λ r. same_region r t.region) d.region ∙ ap (λ r. same_region (Born 0) r) d'.region

          differ : (c k : Bool) → nat_eq s.cell t.cell ≡ c → nat_eq i j ≡ k → (nat_eq s.cell t.cell && nat_eq i j) ≡ false
          differ false k e e' = and_left (nat_eq s.cell t.cell) (nat_eq i j) e
          differ true false e e' = and_right (nat_eq s.cell t.cell) (nat_eq i j) e'
          differ true true e e' =
              absurd (cc (
                ne,
                and_from (same_spot s t) (nat_eq i j) (and_from (same_region s.region t.region) (nat_eq s.object t.object && nat_eq s.cell t.cell) regions
                    (and_from (nat_eq s.object t.object) (nat_eq s.cell t.cell) (eq-eqb s.object t.object same) e)) e',
              ))
