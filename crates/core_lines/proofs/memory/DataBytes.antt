-- A machine that has the bytes of a program's data shows what they hold first.
use Rattle.std.specs.Prelude.{slice_get, slice_index, length}
use Rattle.std.proofs.Common.{
  ◌≡◌,
  ℕ,
  zero,
  suc,
  ◌+◌,
  ◌-◌,
  ◌*◌,
  ◌/◌,
  ◌%◌,
  ◌^◌,
  ◌<◌,
  inl,
  inr,
  ⊎_elim,
  List,
  [],
  ◌∷◌,
  ◌++◌,
  Option,
  Some,
  None,
  refl,
  sym,
  ap,
  ◌∙◌,
  subst,
  arith,
}
use Rattle.std.proofs.Math.Nat.{suc-mul, zero-mul}
use Rattle.std.proofs.lemmas.Nat.{pow_pos, div-add-mod'}
use Rattle.std.proofs.lemmas.List.{length-append}
use Rattle.std.proofs.lemmas.Option.{same_Some, none-some}
use Rattle.rv32_machine.specs.State.{data_base}
use Rattle.core_meaning.specs.Memory.{Content, Blank, Word, Null, Pointer, Birth, Part, PartShape, Layout, blanks, shape_in}
use Rattle.core_meaning.specs.Core.{Datum}
use Rattle.core_meaning.specs.Meaning.{datum_parts}
use Rattle.core_lines.specs.Lies.{Shows, read}
use Rattle.core_meaning.specs.Layouts.{HasPart, IsLayout, IsNothing, one_part, AreJoined, parts_end, AreCellsJoined, cells_end}
use Rattle.core_lines.specs.Selected.{rounded, bytes_of, datum_local, datum_locals, offsets_from}
use Rattle.core_lines.specs.Statics.{
  address_of,
  number_bytes,
  number_in,
  parts_bytes,
  cells_bytes,
  element_bytes,
  datum_bytes,
  zeros,
  data_bytes,
  IsPlain,
  IsPlainDatum,
  ArePlainData,
  HasBytes,
}
use Rattle.core_lines.specs.Running.{ShowsData, data_offsets, in_data, first_base, first_maps}
use Rattle.core_lines.proofs.memory.Fitting.{IsWidth}
use Rattle.core_lines.proofs.memory.Arrays.{found}
use Rattle.core_lines.proofs.homes.Nests.{nth_is}

-- ---- a layout of one part

record IsOnlyPart (width : ℕ) (first : Content) (part : ℕ) (s : PartShape) : Type 0 where
  pub is : s ≡ record { offset = 0; width = width; first = first }
  pub first_of_all : part ≡ 0

only_part : (width : ℕ) (first : Content) (cell part : ℕ) (s : PartShape) → HasPart (one_part width first) cell part s → IsOnlyPart width first part s
only_part width first cell part s has = by cell part has.is
  where
    by : (cell part : ℕ) → shape_in (slice_get (one_part width first).cells cell) part ≡ Some s → IsOnlyPart width first part s
    by zero zero e = record { is = sym (same_Some (record { offset = 0; width = width; first = first }) s e); first_of_all = refl }
    by zero (suc part) e = absurd (none-some s e)
    by (suc cell) part e = absurd (none-some s e)

only_cell : (width : ℕ) (first : Content) (cell part : ℕ) (s : PartShape) → HasPart (one_part width first) cell part s → cell ≡ 0
only_cell width first zero part s has = refl
only_cell width first (suc cell) part s has = absurd (none-some s has.is)

-- it is in order
pub one_part_is_layout : (width : ℕ) (first : Content) → IsWidth width → IsLayout (one_part width first)
one_part_is_layout width first wide = record {
  within = λ cell part s has.
      let is = (only_part width first cell part s has).is in
      let offset = ap (λ (x : PartShape). x.offset) is in
      let w = ap (λ (x : PartShape). x.width) is in
      omega (arith, offset, w);
  even = λ cell part s has.
      let is = (only_part width first cell part s has).is in
      let w = ap (λ (x : PartShape). x.width) is in
      let offset = ap (λ (x : PartShape). x.offset) is in
      ⊎_elim (λ one. inl (w ∙ one)) (λ four. inr (w ∙ four, ap (λ k. k % 4) offset, ap (λ k. k % 4) four)) wide;
  apart = λ cell part cell' part' s s' ne has has'.
      let c = only_cell width first cell part s has in
      let c' = only_cell width first cell' part' s' has' in
      let p = (only_part width first cell part s has).first_of_all in
      let p' = (only_part width first cell' part' s' has').first_of_all in
      absurd (cc (ne, c, c', p, p'));
}

-- ---- bytes

-- those of two lists behind one another
behind : (bytes : ℕ → ℕ) (at : ℕ) (xs ys : List ℕ) → HasBytes bytes at (xs ++ ys) → HasBytes bytes (at + length xs) ys
behind bytes at [] ys has = let e : at ≡ at + 0 = omega arith in subst (λ q. HasBytes bytes q ys) e has
behind bytes at (x ∷ xs) ys has = let e : at + 1 + length xs ≡ at + suc (length xs) = omega arith in subst (λ q. HasBytes bytes q ys) e
    (behind bytes (at + 1) xs ys has.1)

before : (bytes : ℕ → ℕ) (at : ℕ) (xs ys : List ℕ) → HasBytes bytes at (xs ++ ys) → HasBytes bytes at xs
before bytes at [] ys has = tt
before bytes at (x ∷ xs) ys has = (has.0, before bytes (at + 1) xs ys has.1)

-- by their numbers
pub has_bytes : (bytes : ℕ → ℕ) (at : ℕ) (xs : List ℕ) → ((k : ℕ) → k < length xs → bytes (at + k) ≡ slice_index xs k) → HasBytes bytes at xs
has_bytes bytes at [] each = tt
has_bytes bytes at (x ∷ xs) each =
    let first : at ≡ at + 0 = omega arith in (
      ap bytes first ∙ each 0 (omega arith),
      has_bytes bytes (at + 1) xs (λ k less. let e : at + 1 + k ≡ at + suc k = omega arith in ap bytes e ∙ each (suc k) (omega (arith, less))),
    )

pub zeros_length : (n : ℕ) → length (zeros n) ≡ n
zeros_length zero = refl
zeros_length (suc n) = ap suc (zeros_length n)

number_length : (width n : ℕ) → IsWidth width → length (number_bytes width n) ≡ width
number_length width n (inl one) = subst (λ w. length (number_bytes w n) ≡ w) (sym one) refl
number_length width n (inr four) = subst (λ w. length (number_bytes w n) ≡ w) (sym four) refl

parts_length : (os : List ℕ) (first : ℕ → Content) (at j : ℕ) (ss : List PartShape) → AreJoined at ss
    → at + length (parts_bytes os first j ss) ≡ parts_end at ss
parts_length os first at j [] joined = omega arith
parts_length os first at j (s ∷ ss) joined =
    let here = number_length s.width (number_in os (first j)) joined.1 in
    let both = length-append (number_bytes s.width (number_in os (first j))) (parts_bytes os first (j + 1) ss) in
    let rest = parts_length os first (at + s.width) (j + 1) ss joined.2 in
    omega (arith, here, both, rest)

cells_length : (os : List ℕ) (first : ℕ → ℕ → Content) (at k : ℕ) (cs : List (List PartShape)) → AreCellsJoined at cs
    → at + length (cells_bytes os first k cs) ≡ cells_end at cs
cells_length os first at k [] joined = omega arith
cells_length os first at k (c ∷ cs) joined =
    let here = parts_length os (first k) at 0 c joined.0 in
    let both = length-append (parts_bytes os (first k) 0 c) (cells_bytes os first (k + 1) cs) in
    let rest = cells_length os first (parts_end at c) (k + 1) cs joined.1 in
    omega (arith, here, both, rest)

elements_length : (os : List ℕ) (cells : List (List PartShape)) (first : ℕ → ℕ → Content) (k count : ℕ) → AreCellsJoined 0 cells
    → length (element_bytes os cells first k count) ≡ count * cells_end 0 cells
elements_length os cells first k zero joined = sym (zero-mul (cells_end 0 cells))
elements_length os cells first k (suc count) joined =
    let here = cells_length os first 0 k cells joined in
    let rest = elements_length os cells first (k + length cells) count joined in
    let both = length-append (cells_bytes os first k cells) (element_bytes os cells first (k + length cells) count) in
    let product = suc-mul count (cells_end 0 cells) in
    omega (arith, here, rest, both, product)

pub datum_length : (os : List ℕ) (d : Datum) → IsPlainDatum os d → length (datum_bytes os d) ≡ bytes_of (datum_local d)
datum_length os d plain = elements_length os d.layout.cells d.first 0 d.count plain.joined ∙ ap (λ n. d.count * n) plain.whole

-- a part's bytes, and that it is a byte or a word
part_at : (os : List ℕ) (bytes : ℕ → ℕ) (first : ℕ → Content) (base at j : ℕ) (ss : List PartShape) → AreJoined at ss
    → HasBytes bytes (base + at) (parts_bytes os first j ss)
    → (i : ℕ) (s : PartShape) → slice_get ss i ≡ Some s → HasBytes bytes (base + s.offset) (number_bytes s.width (number_in os (first (j + i))))
part_at os bytes first base at j [] joined has i s e = absurd (none-some s e)
part_at os bytes first base at j (x ∷ ss) joined has zero s e =
    let same : j ≡ j + 0 = omega arith in
    subst (λ (y : PartShape). HasBytes bytes (base + y.offset) (number_bytes y.width (number_in os (first (j + 0))))) (same_Some x s e)
    (subst (λ q. HasBytes bytes (base + x.offset) (number_bytes x.width (number_in os (first q)))) same
    (subst (λ q. HasBytes bytes (base + q) (number_bytes x.width (number_in os (first j)))) (sym joined.0)
    (before bytes (base + at) (number_bytes x.width (number_in os (first j))) (parts_bytes os first (j + 1) ss) has)))
part_at os bytes first base at j (x ∷ ss) joined has (suc i) s e =
    let here = number_bytes x.width (number_in os (first j)) in
    let long = number_length x.width (number_in os (first j)) joined.1 in
    let there : base + at + length here ≡ base + (at + x.width) = omega (arith, long) in
    let rest = subst (λ q. HasBytes bytes q (parts_bytes os first (j + 1) ss)) there (behind bytes (base + at) here (parts_bytes os first (j + 1) ss) has) in
    let same : j + 1 + i ≡ j + suc i = omega arith in
    subst (λ q. HasBytes bytes (base + s.offset) (number_bytes s.width (number_in os (first q)))) same
    (part_at os bytes first base (at + x.width) (j + 1) ss joined.2 rest i s e)

part_width : (at : ℕ) (ss : List PartShape) → AreJoined at ss → (i : ℕ) (s : PartShape) → slice_get ss i ≡ Some s → IsWidth s.width
part_width at [] joined i s e = absurd (none-some s e)
part_width at (x ∷ ss) joined zero s e = subst (λ (y : PartShape). IsWidth y.width) (same_Some x s e) joined.1
part_width at (x ∷ ss) joined (suc i) s e = part_width (at + x.width) ss joined.2 i s e

cell_at : (os : List ℕ) (bytes : ℕ → ℕ) (first : ℕ → ℕ → Content) (base at k : ℕ) (cs : List (List PartShape)) → AreCellsJoined at cs
    → HasBytes bytes (base + at) (cells_bytes os first k cs) → (c i : ℕ) (s : PartShape) → shape_in (slice_get cs c) i ≡ Some s
    → HasBytes bytes (base + s.offset) (number_bytes s.width (number_in os (first (k + c) i)))
cell_at os bytes first base at k [] joined has c i s e = absurd (none-some s e)
cell_at os bytes first base at k (x ∷ cs) joined has zero i s e =
    let same : k ≡ k + 0 = omega arith in
    let part : 0 + i ≡ i = omega arith in
    subst (λ q. HasBytes bytes (base + s.offset) (number_bytes s.width (number_in os (first q i)))) same
    (subst (λ q. HasBytes bytes (base + s.offset) (number_bytes s.width (number_in os (first k q)))) part
    (part_at os bytes (first k) base at 0 x joined.0 (before bytes (base + at) (parts_bytes os (first k) 0 x) (cells_bytes os first (k + 1) cs) has) i s e))
cell_at os bytes first base at k (x ∷ cs) joined has (suc c) i s e =
    let here = parts_bytes os (first k) 0 x in
    let long = parts_length os (first k) at 0 x joined.0 in
    let there : base + at + length here ≡ base + parts_end at x = omega (arith, long) in
    let rest = subst (λ q. HasBytes bytes q (cells_bytes os first (k + 1) cs)) there (behind bytes (base + at) here (cells_bytes os first (k + 1) cs) has) in
    let same : k + 1 + c ≡ k + suc c = omega arith in
    subst (λ q. HasBytes bytes (base + s.offset) (number_bytes s.width (number_in os (first q i)))) same
    (cell_at os bytes first base (parts_end at x) (k + 1) cs joined.1 rest c i s e)

cell_width : (at : ℕ) (cs : List (List PartShape)) → AreCellsJoined at cs → (c i : ℕ) (s : PartShape) → shape_in (slice_get cs c) i ≡ Some s → IsWidth s.width
cell_width at [] joined c i s e = absurd (none-some s e)
cell_width at (x ∷ cs) joined zero i s e = part_width at x joined.0 i s e
cell_width at (x ∷ cs) joined (suc c) i s e = cell_width (parts_end at x) cs joined.1 c i s e

-- an element's bytes
element_at : (os : List ℕ) (bytes : ℕ → ℕ) (cells : List (List PartShape)) (first : ℕ → ℕ → Content) (k count at e : ℕ) → AreCellsJoined 0 cells
    → HasBytes bytes at (element_bytes os cells first k count) → e < count
    → HasBytes bytes (at + e * cells_end 0 cells) (cells_bytes os first (k + e * length cells) cells)
element_at os bytes cells first k zero at e joined has less = absurd (omega (arith, less))
element_at os bytes cells first k (suc count) at zero joined has less =
    let here : at ≡ at + 0 * cells_end 0 cells = omega (arith, zero-mul (cells_end 0 cells)) in
    let same : k ≡ k + 0 * length cells = omega (arith, zero-mul (length cells)) in
    subst (λ q. HasBytes bytes q (cells_bytes os first (k + 0 * length cells) cells)) here
    (subst (λ q. HasBytes bytes at (cells_bytes os first q cells)) same
    (before bytes at (cells_bytes os first k cells) (element_bytes os cells first (k + length cells) count) has))
element_at os bytes cells first k (suc count) at (suc e) joined has less =
    let here = cells_bytes os first k cells in
    let long = cells_length os first 0 k cells joined in
    let rest = behind bytes at here (element_bytes os cells first (k + length cells) count) has in
    let product = suc-mul e (cells_end 0 cells) in
    let product' = suc-mul e (length cells) in
    let there : at + length here + e * cells_end 0 cells ≡ at + suc e * cells_end 0 cells = omega (arith, long, product) in
    let same : k + length cells + e * length cells ≡ k + suc e * length cells = omega (arith, product') in
    subst (λ q. HasBytes bytes q (cells_bytes os first (k + suc e * length cells) cells)) there
    (subst (λ q. HasBytes bytes (at + length here + e * cells_end 0 cells) (cells_bytes os first q cells)) same
    (element_at os bytes cells first (k + length cells) count (at + length here) e joined rest (omega (arith, less))))

-- a number's bytes show it
reads : (bytes : ℕ → ℕ) (at width n : ℕ) → IsWidth width → n < 2 ^ (8 * width) → HasBytes bytes at (number_bytes width n) → read bytes at width ≡ n
reads bytes at width n wide small has = ⊎_elim
    (λ (one : width ≡ 1).
    let few : n < 2 ^ 8 = subst (λ w. n < 2 ^ (8 * w)) one small in
    let b = subst (λ w. HasBytes bytes at (number_bytes w n)) one has in
    let b0 = b.0 in
    subst (λ w. read bytes at w ≡ n) (sym one) (omega (arith, few, b0)))
    (λ (four : width ≡ 4).
    let few : n < 2 ^ 32 = subst (λ w. n < 2 ^ (8 * w)) four small in
    let b = subst (λ w. HasBytes bytes at (number_bytes w n)) four has in
    let e2 : at + 1 + 1 ≡ at + 2 = omega arith in
    let e3 : at + 1 + 1 + 1 ≡ at + 3 = omega arith in
    let b0 = b.0 in
    let b1 = b.1.0 in
    let b2 = ap bytes (sym e2) ∙ b.1.1.0 in
    let b3 = ap bytes (sym e3) ∙ b.1.1.1.0 in
    subst (λ w. read bytes at w ≡ n) (sym four) (omega (arith, few, b0, b1, b2, b3)))
    wide

shows_plain : (os : List ℕ) (bytes : ℕ → ℕ) (at width : ℕ) (v : Content) → IsWidth width → IsPlain os width v
    → HasBytes bytes at (number_bytes width (number_in os v))
    → Shows (first_maps os) v (read bytes at width)
shows_plain os bytes at width Blank wide plain has = tt
shows_plain os bytes at width (Word n) wide plain has = reads bytes at width n wide plain has
shows_plain os bytes at width Null wide plain has = reads bytes at width 0 wide (above width) has
  where
    above : (w : ℕ) → 0 < 2 ^ (8 * w)
    above w = pow_pos (8 * w)
shows_plain os bytes at width (Pointer s b) wide plain has =
    let said = reads bytes at width (address_of os s + b) wide (subst (λ w. address_of os s + b < 2 ^ (8 * w)) (sym plain.wide) plain.small) has in
    record {
      base = address_of os s;
      known = ap (λ r. first_base os r s.object) plain.heap ∙ ap (λ o. in_data o) (nth_is os s.object plain.has);
      at = said;
      positive = omega (arith, said);
    }
shows_plain os bytes at width (Birth d) wide plain has = absurd plain

-- ---- plain data

-- objects of one part
pub one_part_plain : (os : List ℕ) (width : ℕ) (first : Content) (d : Datum) → IsWidth width → d.layout ≡ one_part width first
    → ((cell : ℕ) → IsPlain os width (d.first cell 0)) → IsPlainDatum os d
one_part_plain os width first d wide is plain = record {
  joined = subst (λ (l : Layout). AreCellsJoined 0 l.cells) (sym is) ((refl, wide, tt), tt);
  whole = subst (λ (l : Layout). cells_end 0 l.cells ≡ l.bytes) (sym is) (omega arith);
  plain = λ cell part s has.
      let only = only_part width first (cell % length d.layout.cells) part s
      (subst (λ (l : Layout). HasPart l (cell % length d.layout.cells) part s) is has) in
      subst (λ j. IsPlain os s.width (d.first cell j)) (sym only.first_of_all)
      (subst (λ w. IsPlain os w (d.first cell 0)) (sym (ap (λ (x : PartShape). x.width) only.is)) (plain cell));
}

nothing_plain : (os : List ℕ) (width : ℕ) (v : Content) → IsNothing v → IsPlain os width v
nothing_plain os width Blank nothing = tt
nothing_plain os width (Word n) nothing = subst (λ k. k < 2 ^ (8 * width)) (sym nothing) (pow_pos (8 * width))
nothing_plain os width Null nothing = tt
nothing_plain os width (Pointer s b) nothing = absurd nothing
nothing_plain os width (Birth d) nothing = absurd nothing

-- objects that begin with nothing but zeros
pub zero_plain : (os : List ℕ) (d : Datum) → AreCellsJoined 0 d.layout.cells → cells_end 0 d.layout.cells ≡ d.layout.bytes
    → ((cell part : ℕ) → IsNothing (d.first cell part)) → IsPlainDatum os d
zero_plain os d joined whole nothing =
    record { joined = joined; whole = whole; plain = λ cell part s has. nothing_plain os s.width (d.first cell part) (nothing cell part) }

-- ---- data

-- a part of the first datum holds what that holds first
first_part : (d : Datum) (ds : List Datum) (cell part : ℕ) (p : Part) → datum_parts (d ∷ ds) zero cell part ≡ Some p
    → (q : Part) × ((blanks d.layout d.count cell part ≡ Some q) × (p ≡ record q { content = d.first cell part }))
first_part d ds cell part p e = by (blanks d.layout d.count cell part) refl e
  where
    filled : Option Part → Option Part
    filled None = None
    filled (Some q) = Some (record q { content = d.first cell part })

    by : (f : Option Part) → blanks d.layout d.count cell part ≡ f → datum_parts (d ∷ ds) zero cell part ≡ Some p
        → (q : Part) × ((blanks d.layout d.count cell part ≡ Some q) × (p ≡ record q { content = d.first cell part }))
    by None is e = absurd (none-some p (ap filled (sym is) ∙ e))
    by (Some q) is e = (q, (is, sym (same_Some (record q { content = d.first cell part }) p (ap filled (sym is) ∙ e))))

module _ (os : List ℕ) (bytes : ℕ → ℕ) where
  first_shows : (d : Datum) (ds : List Datum) (cell part at : ℕ) (p : Part) → IsPlainDatum os d → HasBytes bytes at (datum_bytes os d) → datum_parts
      (d ∷ ds) zero cell part ≡ Some p
      → Shows (first_maps os) p.content (read bytes (at + p.offset) p.width)
  first_shows d ds cell part at p plain has e =
      let cells = d.layout.cells in
      let n = cell / length cells in
      let q = first_part d ds cell part p e in
      let f = found d.layout d.count cell part q.0 q.1.0 in
      let s = f.shape in
      let offset : p.offset ≡ n * d.layout.bytes + s.offset = ap (λ (x : Part). x.offset) q.1.1 ∙ ap (λ (x : Part). x.offset) f.is in
      let width : p.width ≡ s.width = ap (λ (x : Part). x.width) q.1.1 ∙ ap (λ (x : Part). x.width) f.is in
      let content : p.content ≡ d.first cell part = ap (λ (x : Part). x.content) q.1.1 in
      let element = subst (λ k. HasBytes bytes (at + n * k) (cells_bytes os d.first (0 + n * length cells) cells)) plain.whole
      (element_at os bytes cells d.first 0 d.count at n plain.joined has f.inside) in
      let begins : at + n * d.layout.bytes ≡ at + n * d.layout.bytes + 0 = omega arith in
      let element' = subst (λ k. HasBytes bytes k (cells_bytes os d.first (0 + n * length cells) cells)) begins element in
      let number : 0 + n * length cells + cell % length cells ≡ cell = omega (arith, div-add-mod' cell (length cells)) in
      let there : at + n * d.layout.bytes + s.offset ≡ at + (n * d.layout.bytes + s.offset) = omega arith in
      let here = subst (λ k. HasBytes bytes k (number_bytes s.width (number_in os (d.first cell part)))) there
      (subst (λ k. HasBytes bytes (at + n * d.layout.bytes + s.offset) (number_bytes s.width (number_in os (d.first k part)))) number
      (cell_at os bytes d.first (at + n * d.layout.bytes) 0 (0 + n * length cells) cells plain.joined element' (cell % length cells) part s f.has.is)) in
      let shown = shows_plain os bytes (at + (n * d.layout.bytes + s.offset)) s.width (d.first cell part)
      (cell_width 0 cells plain.joined (cell % length cells) part s f.has.is) (plain.plain cell part s f.has) here in
      subst (λ v. Shows (first_maps os) v (read bytes (at + p.offset) p.width)) (sym content)
      (subst (λ k. Shows (first_maps os) (d.first cell part) (read bytes (at + p.offset) k)) (sym width)
      (subst (λ k. Shows (first_maps os) (d.first cell part) (read bytes (at + k) s.width)) (sym offset) shown))

  -- the bytes of the first datum, and those behind it
  at_datum : (d : Datum) (low : ℕ) (rest : List ℕ) → HasBytes bytes (data_base + low) (zeros (rounded low - low) ++ (datum_bytes os d ++ rest))
      → HasBytes bytes (data_base + rounded low) (datum_bytes os d ++ rest)
  at_datum d low rest has =
      let padding = zeros_length (rounded low - low) in
      let there : data_base + low + length (zeros (rounded low - low)) ≡ data_base + rounded low = omega (arith, padding) in
      subst (λ q. HasBytes bytes q (datum_bytes os d ++ rest)) there (behind bytes (data_base + low) (zeros (rounded low - low)) (datum_bytes os d ++ rest) has)

  at_rest : (d : Datum) (low : ℕ) (rest : List ℕ) → HasBytes bytes (data_base + rounded low) (datum_bytes os d ++ rest)
      → HasBytes bytes (data_base + (rounded low + length (datum_bytes os d))) rest
  at_rest d low rest has =
      let there : data_base + rounded low + length (datum_bytes os d) ≡ data_base + (rounded low + length (datum_bytes os d)) = omega arith in
      subst (λ q. HasBytes bytes q rest) there (behind bytes (data_base + rounded low) (datum_bytes os d) rest has)

  shows_from : (ds : List Datum) (low object cell part offset : ℕ) (p : Part) → ArePlainData os ds → HasBytes bytes (data_base + low) (data_bytes os low ds)
      → datum_parts ds object cell part ≡ Some p → slice_get (offsets_from low (datum_locals ds)) object ≡ Some offset
      → Shows (first_maps os) p.content (read bytes (data_base + offset + p.offset) p.width)
  shows_from [] low object cell part offset p plain has e is = absurd (none-some offset is)
  shows_from (d ∷ ds) low zero cell part offset p plain has e is =
      let rest = data_bytes os (rounded low + length (datum_bytes os d)) ds in
      let here = at_datum d low rest has in
      subst (λ q. Shows (first_maps os) p.content (read bytes (data_base + q + p.offset) p.width)) (same_Some (rounded low) offset is)
      (first_shows d ds cell part (data_base + rounded low) p plain.0 (before bytes (data_base + rounded low) (datum_bytes os d) rest here) e)
  shows_from (d ∷ ds) low (suc object) cell part offset p plain has e is =
      let rest = data_bytes os (rounded low + length (datum_bytes os d)) ds in
      let behind_it = subst (λ n. HasBytes bytes (data_base + (rounded low + n)) (data_bytes os (rounded low + n) ds)) (datum_length os d plain.0)
      (at_rest d low rest (at_datum d low rest has)) in
      shows_from ds (rounded low + bytes_of (datum_local d)) object cell part offset p plain.1 behind_it e is

-- The bytes of the data, from the data's first address on, show what each global and string holds first.
pub data_shown : (ds : List Datum) (bytes : ℕ → ℕ) → ArePlainData (data_offsets ds) ds → HasBytes bytes data_base (data_bytes (data_offsets ds) 0 ds)
    → ShowsData ds (data_offsets ds) bytes
data_shown ds bytes plain has object cell part offset p e is =
    let os = data_offsets ds in
    let here : data_base ≡ data_base + 0 = omega arith in
    shows_from os bytes ds 0 object cell part offset p plain (subst (λ q. HasBytes bytes q (data_bytes os 0 ds)) here has) e is
