-- Elements of a layout behind one another are an object whose parts lie as they have to.
use Rattle.std.specs.Prelude.{slice_get, nat_eq, nat_lt, length, ◌&&◌, if◌then◌else◌}
use Rattle.std.proofs.Common.{◌≡◌, ℕ, ◌+◌, ◌*◌, ◌/◌, ◌%◌, ◌<◌, ◌≤◌, inl, inr, ⊎_elim, Bool, true, false, Option, Some, None, refl, sym, ap, ◌∙◌, subst, arith}
use Rattle.std.proofs.lemmas.Bool.{ltb-true, eqb-true, eq-eqb, cases_lt, and_left, and_right, and_from}
use Rattle.std.proofs.lemmas.Nat.{div-add-mod'}
use Rattle.std.proofs.Math.Nat.{suc-mul, mul-le-mul_right, mul_assoc}
use Rattle.std.proofs.lemmas.Option.{same_Some, none-some}
use Rattle.core_meaning.specs.Memory.{Blank, Part, PartShape, Layout, shape_in, blank_of, blanks}
use Rattle.core_meaning.specs.Layouts.{Apart, HasPart, IsLayout}
use Rattle.core_lines.proofs.memory.Fitting.{IsWidth}
use Rattle.core_lines.proofs.memory.Growing.{ObjectFits}

-- the part of an element
pub record Found (l : Layout) (count cell part : ℕ) (p : Part) : Type 0 where
  pub shape : PartShape
  pub has : HasPart l (cell % length l.cells) part shape
  pub inside : cell / length l.cells < count
  pub is : p ≡ record { offset = cell / length l.cells * l.bytes + shape.offset; width = shape.width; content = Blank }

module _ (l : Layout) (count : ℕ) where
  pub found : (cell part : ℕ) (p : Part) → blanks l count cell part ≡ Some p → Found l count cell part p
  found cell part p e = by (nat_lt (cell / length l.cells) count) refl
    where
      of_shape : (shape : Option PartShape) → shape_in (slice_get l.cells (cell % length l.cells)) part ≡ shape → cell / length l.cells < count
          → blank_of (cell / length l.cells * l.bytes) shape ≡ Some p → Found l count cell part p
      of_shape None has inside e = absurd (none-some p e)
      of_shape (Some shape) has inside e =
          record { shape = shape; has = record { is = has }; inside = inside; is = sym (same_Some _ p e) }

      by : (c : Bool) → nat_lt (cell / length l.cells) count ≡ c → Found l count cell part p
      by true less =
          of_shape (shape_in (slice_get l.cells (cell % length l.cells)) part) refl (ltb-true (cell / length l.cells) count less)
          (ap (λ c. if c then blank_of (cell / length l.cells * l.bytes) (shape_in (slice_get l.cells (cell % length l.cells)) part) else None) (sym less) ∙ e)
      by false less =
          absurd (none-some p
          (ap (λ c. if c then blank_of (cell / length l.cells * l.bytes) (shape_in (slice_get l.cells (cell % length l.cells)) part) else None) (sym less) ∙ e))

  -- the bytes of an element lie behind those of the elements before it
  element_end : (e k : ℕ) → e < k → e * l.bytes + l.bytes ≤ k * l.bytes
  element_end e k less = subst (λ x. x ≤ k * l.bytes) (suc-mul e l.bytes) (mul-le-mul_right l.bytes less)

  element_even : (e offset : ℕ) → l.bytes % 4 ≡ 0 → offset % 4 ≡ 0 → (e * l.bytes + offset) % 4 ≡ 0
  element_even e offset whole even =
      let parts : l.bytes ≡ l.bytes / 4 * 4 = omega (arith, whole) in
      let product : e * l.bytes ≡ e * (l.bytes / 4) * 4 = ap (λ k. e * k) parts ∙ sym (mul_assoc e (l.bytes / 4) 4) in
      ap (λ k. (k + offset) % 4) product ∙ omega (arith, even)

  module _ (ok : IsLayout l) where
    wide : (cell part : ℕ) (p : Part) → Found l count cell part p → IsWidth p.width × (p.offset % p.width ≡ 0)
    wide cell part p f =
        let e = cell / length l.cells in
        let there : p.offset ≡ e * l.bytes + f.shape.offset = ap (λ (q : Part). q.offset) f.is in
        let width : p.width ≡ f.shape.width = ap (λ (q : Part). q.width) f.is in
        ⊎_elim
        (λ (one : f.shape.width ≡ 1). (inl (width ∙ one), subst (λ k. p.offset % k ≡ 0) (sym (width ∙ one)) (omega arith)))
        (λ (four : (f.shape.width ≡ 4) × (f.shape.offset % 4 ≡ 0) × (l.bytes % 4 ≡ 0)).
        (inr (width ∙ four.0), subst (λ k. p.offset % k ≡ 0) (sym (width ∙ four.0)) (ap (λ k. k % 4) there ∙ element_even e f.shape.offset four.2 four.1)))
        (ok.even (cell % length l.cells) part f.shape f.has)

    within : (cell part : ℕ) (p : Part) → Found l count cell part p → p.offset + p.width ≤ count * l.bytes
    within cell part p f =
        let there = ap (λ (q : Part). q.offset) f.is in
        let width = ap (λ (q : Part). q.width) f.is in
        let shape = ok.within (cell % length l.cells) part f.shape f.has in
        let end = element_end (cell / length l.cells) count f.inside in
        omega (arith, there, width, shape, end)

    -- parts of elements of which one comes before the other
    behind : (cell part cell' part' : ℕ) (p p' : Part) → Found l count cell part p → Found l count cell' part' p'
        → cell / length l.cells < cell' / length l.cells
        → p.offset + p.width ≤ p'.offset
    behind cell part cell' part' p p' f f' less =
        let there = ap (λ (q : Part). q.offset) f.is in
        let there' = ap (λ (q : Part). q.offset) f'.is in
        let width = ap (λ (q : Part). q.width) f.is in
        let shape = ok.within (cell % length l.cells) part f.shape f.has in
        let end = element_end (cell / length l.cells) (cell' / length l.cells) less in
        omega (arith, there, there', width, shape, end)

    -- parts of one element
    beside : (cell part cell' part' : ℕ) (p p' : Part) → (nat_eq cell cell' && nat_eq part part') ≡ false → Found l count cell part p
        → Found l count cell' part' p'
        → cell / length l.cells ≡ cell' / length l.cells → Apart p.offset p.width p'.offset p'.width
    beside cell part cell' part' p p' ne f f' same =
        let n = length l.cells in
        let there = ap (λ (q : Part). q.offset) f.is in
        let there' = ap (λ (q : Part). q.offset) f'.is ∙ ap (λ e. e * l.bytes + f'.shape.offset) (sym same) in
        let width = ap (λ (q : Part). q.width) f.is in
        let width' = ap (λ (q : Part). q.width) f'.is in
        ⊎_elim (λ h. inl (omega (arith, h, there, there', width))) (λ h. inr (omega (arith, h, there, there', width')))
        (ok.apart (cell % n) part (cell' % n) part' f.shape f'.shape (differ (nat_eq (cell % n) (cell' % n)) (nat_eq part part') refl refl) f.has f'.has)
      where
        differ : (c d : Bool) → nat_eq (cell % length l.cells) (cell' % length l.cells) ≡ c → nat_eq part part' ≡ d
            → (nat_eq (cell % length l.cells) (cell' % length l.cells) && nat_eq part part') ≡ false
        differ false d e e' = and_left (nat_eq (cell % length l.cells) (cell' % length l.cells)) (nat_eq part part') e
        differ true false e e' = and_right (nat_eq (cell % length l.cells) (cell' % length l.cells)) (nat_eq part part') e'
        differ true true e e' =
            let rest = eqb-true (cell % length l.cells) (cell' % length l.cells) e in
            let cells : cell ≡ cell' =
            sym (div-add-mod' cell (length l.cells)) ∙ ap (λ k. k * length l.cells + cell % length l.cells) same
            ∙ ap (λ k. cell' / length l.cells * length l.cells + k) rest ∙ div-add-mod' cell' (length l.cells) in
            absurd (cc (ne, and_from (nat_eq cell cell') (nat_eq part part') (eq-eqb cell cell' cells) e'))

    pub object_fits : ObjectFits (blanks l count) (count * l.bytes)
    object_fits = record {
      blank = λ cell part p e. ap (λ (q : Part). q.content) (found cell part p e).is;
      within = λ cell part p e. within cell part p (found cell part p e);
      wide = λ cell part p e. wide cell part p (found cell part p e);
      apart = λ cell part cell' part' p p' ne e e'.
          let f = found cell part p e in
          let f' = found cell' part' p' e' in
          ⊎_elim
          (λ (less : cell / length l.cells < cell' / length l.cells). inl (behind cell part cell' part' p p' f f' less))
          (λ (le : cell' / length l.cells ≤ cell / length l.cells). ⊎_elim
          (λ (less : cell' / length l.cells < cell / length l.cells). inr (behind cell' part' cell part p' p f' f less))
          (λ (le' : cell / length l.cells ≤ cell' / length l.cells). beside cell part cell' part' p p' ne f f' (omega (arith, le, le')))
          (cases_lt (cell' / length l.cells) (cell / length l.cells)))
          (cases_lt (cell / length l.cells) (cell' / length l.cells));
    }
