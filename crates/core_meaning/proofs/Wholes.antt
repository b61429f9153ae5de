-- Whole objects: the parts that a layout has of them, and what a copy or a clear makes of each part.
use Rattle.std.specs.Prelude.{nat_eq, nat_lt, nat_le, ◌&&◌, length, slice_get, if◌then◌else◌}
use Rattle.std.proofs.Common.{◌≡◌, ℕ, zero, suc, ◌+◌, ◌-◌, ◌*◌, ◌/◌, ◌%◌, ◌<◌, ◌⊎◌, inl, inr, ⊎_elim, ◌≤◌, Bool, true, false, List, [], ◌∷◌, Option, Some, None}
use Rattle.std.proofs.Common.{refl, sym, ap, subst, ◌∙◌, arith}
use Rattle.std.proofs.lemmas.Bool.{eq-eqb, le-leb, lt-ltb, cases_lt, eqb-true, leb-true, ltb-true, and_parts, and_from}
use Rattle.std.proofs.lemmas.Nat.{mod-mul-add}
use Rattle.std.proofs.lemmas.Option.{slice_get_within, same_Some}
use Rattle.std.proofs.Math.Nat.{mod-add-div', mul-le-mul_right}
use Rattle.core_meaning.specs.Memory as core
use Rattle.core_meaning.specs.Memory.{Spot, Part, PartShape, Layout, Memory, shape_in, beyond, same_region}
use Rattle.core_meaning.specs.Operations.{is_part, are_parts, are_laid, are_elements, same_object, cells_on, part_of, content_from, on_from, copied, in_element}
use Rattle.core_meaning.specs.Operations.{begun, cleared}
use Rattle.core_meaning.proofs.Spots.{region_same, region_self}

-- ---- spots of one object

at_cell : (s : Spot) (a b : ℕ) → a ≡ b → (record s { cell = a }) ≡ (record s { cell = b })
at_cell s a b e = ap (λ c. record s { cell = c }) e

pub beyond_none : (s : Spot) → s ≡ beyond s 0
beyond_none s = at_cell s s.cell (s.cell + 0) (omega arith)

pub beyond_both : (s : core.Spot) (a b c : ℕ) → a + b ≡ c → beyond (beyond s a) b ≡ beyond s c
beyond_both s a b c e = at_cell s (s.cell + a + b) (s.cell + c) (omega (arith, e))

-- ---- the parts that a layout has

-- a part of an object that begins at a byte and is so wide
pub record IsShaped (m : Memory) (s : Spot) (j begins wide : ℕ) : Type 0 where
  pub part : Part
  pub is : m.parts s j ≡ Some part
  pub offset : part.offset ≡ begins
  pub width : part.width ≡ wide

shaped : (m : Memory) (s : Spot) (j b : ℕ) (x : PartShape) (p : Option Part) → m.parts s j ≡ p → is_part p b x ≡ true → IsShaped m s j (b + x.offset) x.width
shaped m s j b x None e is = absurd (cc is)
shaped m s j b x (Some p) e is =
    let both = and_parts (nat_eq p.offset (b + x.offset)) (nat_eq p.width x.width) is in
    record { part = p; is = e; offset = eqb-true p.offset (b + x.offset) both.0; width = eqb-true p.width x.width both.1 }

parts_in : (m : Memory) (s : Spot) (b j : ℕ) (xs : List PartShape) → are_parts m s b j xs ≡ true → (i : ℕ) (x : PartShape) → slice_get xs i ≡ Some x
    → IsShaped m s (j + i) (b + x.offset) x.width
parts_in m s b j [] are i x e = absurd (cc e)
parts_in m s b j (y ∷ ys) are zero x e =
    let both = and_parts (is_part (m.parts s j) b y) (are_parts m s b (suc j) ys) are in
    let same : j ≡ j + zero = omega arith in
    subst (λ q. IsShaped m s q (b + x.offset) x.width) same
    (subst (λ (z : PartShape). IsShaped m s j (b + z.offset) z.width) (same_Some y x e) (shaped m s j b y (m.parts s j) refl both.0))
parts_in m s b j (y ∷ ys) are (suc i) x e =
    let both = and_parts (is_part (m.parts s j) b y) (are_parts m s b (suc j) ys) are in
    let same : suc j + i ≡ j + suc i = omega arith in
    subst (λ q. IsShaped m s q (b + x.offset) x.width) same (parts_in m s b (suc j) ys both.1 i x e)

pub cells_in : (m : Memory) (s : Spot) (b : ℕ) (cs : List (List PartShape)) → are_laid m s b cs ≡ true → (k i : ℕ) (x : PartShape)
    → shape_in (slice_get cs k) i ≡ Some x → IsShaped m (beyond s k) i (b + x.offset) x.width
cells_in m s b [] are k i x e = absurd (cc e)
cells_in m s b (c ∷ cs) are zero i x e =
    let both = and_parts (are_parts m s b 0 c) (are_laid m (beyond s 1) b cs) are in
    let same : 0 + i ≡ i = omega arith in
    subst (λ (t : Spot). IsShaped m t i (b + x.offset) x.width) (beyond_none s)
    (subst (λ q. IsShaped m s q (b + x.offset) x.width) same (parts_in m s b 0 c both.0 i x e))
cells_in m s b (c ∷ cs) are (suc k) i x e =
    let both = and_parts (are_parts m s b 0 c) (are_laid m (beyond s 1) b cs) are in
    subst (λ (t : Spot). IsShaped m t i (b + x.offset) x.width) (beyond_both s 1 k (suc k) (omega arith)) (cells_in m (beyond s 1) b cs both.1 k i x e)

pub elements_in : (m : Memory) (s : Spot) (b : ℕ) (l : Layout) (count : ℕ) → are_elements m s b l count ≡ true → (e k i : ℕ) (x : PartShape) → e < count
    → shape_in (slice_get l.cells k) i ≡ Some x → IsShaped m (beyond s (e * length l.cells + k)) i (b + e * l.bytes + x.offset) x.width
elements_in m s b l zero are e k i x less has = absurd (omega (arith, less))
elements_in m s b l (suc n) are zero k i x less has =
    let both = and_parts (are_laid m s b l.cells) (are_elements m (beyond s (length l.cells)) (b + l.bytes) l n) are in
    let same : k ≡ zero * length l.cells + k = omega arith in
    let same' : b + x.offset ≡ b + zero * l.bytes + x.offset = omega arith in
    subst (λ q. IsShaped m (beyond s (zero * length l.cells + k)) i q x.width) same'
    (subst (λ q. IsShaped m (beyond s q) i (b + x.offset) x.width) same (cells_in m s b l.cells both.0 k i x has))
elements_in m s b l (suc n) are (suc e) k i x less has =
    let both = and_parts (are_laid m s b l.cells) (are_elements m (beyond s (length l.cells)) (b + l.bytes) l n) are in
    let same' : b + l.bytes + e * l.bytes + x.offset ≡ b + suc e * l.bytes + x.offset = omega arith in
    subst (λ q. IsShaped m (beyond s (suc e * length l.cells + k)) i q x.width) same'
    (subst (λ (t : Spot). IsShaped m t i (b + l.bytes + e * l.bytes + x.offset) x.width)
    (beyond_both s (length l.cells) (e * length l.cells + k) (suc e * length l.cells + k) (omega arith))
    (elements_in m (beyond s (length l.cells)) (b + l.bytes) l n both.1 e k i x (omega (arith, less)) has))

-- one element is the layout's cells
pub one_element : (m : Memory) (s : Spot) (b : ℕ) (l : Layout) → are_laid m s b l.cells ≡ true → are_elements m s b l 1 ≡ true
one_element m s b l are = and_from (are_laid m s b l.cells) true are refl

-- ---- which parts these are

-- the part is one of those of so many elements of a layout from a spot on
pub record IsAmong (l : Layout) (count : ℕ) (to u : Spot) (j : ℕ) : Type 0 where
  pub element : ℕ
  pub cell : ℕ
  pub shape : PartShape
  pub within : element < count
  pub there : u ≡ beyond to (element * length l.cells + cell)
  pub has : shape_in (slice_get l.cells cell) j ≡ Some shape

cell_within : (cs : List (List PartShape)) (k j : ℕ) (x : PartShape) → shape_in (slice_get cs k) j ≡ Some x → k < length cs
cell_within cs k j x e = by (slice_get cs k) refl e
  where
    by : (found : Option (List PartShape)) → slice_get cs k ≡ found → shape_in found j ≡ Some x → k < length cs
    by None is e = absurd (cc e)
    by (Some c) is e = slice_get_within cs k c is

cells_on_beyond : (count k : ℕ) (s : Spot) → k < count → cells_on count s (beyond s k) ≡ Some k
cells_on_beyond count k s less =
    let here : same_object (beyond s k) s && (nat_le s.cell (s.cell + k) && nat_lt (s.cell + k) (s.cell + count)) ≡ true =
    and_from (same_object (beyond s k) s) (nat_le s.cell (s.cell + k) && nat_lt (s.cell + k) (s.cell + count))
    (and_from (same_region s.region s.region) (nat_eq s.object s.object) (region_self s.region) (eq-eqb s.object s.object refl))
    (and_from (nat_le s.cell (s.cell + k)) (nat_lt (s.cell + k) (s.cell + count)) (le-leb s.cell (s.cell + k) (omega arith))
    (lt-ltb (s.cell + k) (s.cell + count) (omega (arith, less)))) in
    let e : s.cell + k - s.cell ≡ k = omega arith in
    ap (λ c. if c then Some (s.cell + k - s.cell) else None) here ∙ ap (λ q. Some q) e

-- a spot that is so many cells on
record IsOn (count : ℕ) (s t : Spot) (k : ℕ) : Type 0 where
  pub there : t ≡ beyond s k
  pub within : k < count

cells_on_is : (count : ℕ) (s t : Spot) (k : ℕ) → cells_on count s t ≡ Some k → IsOn count s t k
cells_on_is count s t k e = by (same_object t s && (nat_le s.cell t.cell && nat_lt t.cell (s.cell + count))) refl e
  where
    by : (c : Bool) → same_object t s && (nat_le s.cell t.cell && nat_lt t.cell (s.cell + count)) ≡ c → (if c then Some (t.cell - s.cell) else None) ≡ Some k
        → IsOn count s t k
    by false is e = absurd (cc e)
    by true is e =
        let both = and_parts (same_object t s) (nat_le s.cell t.cell && nat_lt t.cell (s.cell + count)) is in
        let object = and_parts (same_region t.region s.region) (nat_eq t.object s.object) both.0 in
        let between = and_parts (nat_le s.cell t.cell) (nat_lt t.cell (s.cell + count)) both.1 in
        let low = leb-true s.cell t.cell between.0 in
        let high = ltb-true t.cell (s.cell + count) between.1 in
        let distance : t.cell - s.cell ≡ k = cc e in
        let cell : t.cell ≡ s.cell + k = omega (arith, low, distance) in
        let region = region_same t.region s.region object.0 in
        let same = eqb-true t.object s.object object.1 in
        record { there = λ i. record { region = region i; object = same i; cell = cell i }; within = omega (arith, high, low, distance) }

-- ---- a copy

pub among_one : (l : Layout) (to u : Spot) (j : ℕ) (a : IsAmong l 1 to u j) → part_of l (cells_on (length l.cells) to u) j ≡ Some a.shape
among_one l to u j a =
    let first : a.element ≡ 0 = (let within = a.within in omega (arith, within)) in
    let cell : a.element * length l.cells + a.cell ≡ a.cell = ap (λ e. e * length l.cells + a.cell) first ∙ omega arith in
    let there : u ≡ beyond to a.cell = a.there ∙ ap (λ c. beyond to c) cell in
    ap (λ (t : Spot). part_of l (cells_on (length l.cells) to t) j) there
    ∙ ap (λ k. part_of l k j) (cells_on_beyond (length l.cells) a.cell to (cell_within l.cells a.cell j a.shape a.has))
    ∙ a.has

-- a part of a copy's target: what it was, and that it has what the source's part has
pub record IsCopy (l : Layout) (to from : Spot) (m : Memory) (u : Spot) (j : ℕ) (p : Part) : Type 0 where
  pub among : IsAmong l 1 to u j
  pub old : Part
  pub was : m.parts u j ≡ Some old
  pub now : content_from old (m.parts (beyond from (among.element * length l.cells + among.cell)) j) ≡ Some p

pub copied_cases : (l : Layout) (to from : Spot) (m : Memory) (u : Spot) (j : ℕ) (p : Part) → (copied l to from m).parts u j ≡ Some p
    → ((m.parts u j ≡ Some p) × (IsAmong l 1 to u j → ⊥)) ⊎ IsCopy l to from m u j p
copied_cases l to from m u j p e = by_part (m.parts u j) refl e
  where
    copied_from : Option ℕ → Part → Option PartShape → Option Part
    copied_from k old None = Some old
    copied_from k old (Some s) = content_from old (m.parts (on_from from k) j)

    copied_part : Option Part → Option Part
    copied_part None = None
    copied_part (Some old) = copied_from (cells_on (length l.cells) to u) old (part_of l (cells_on (length l.cells) to u) j)

    by_shape : (old : Part) → m.parts u j ≡ Some old → (k : Option ℕ) → cells_on (length l.cells) to u ≡ k → (s : Option PartShape) → part_of l k j ≡ s
        → copied_from k old s ≡ Some p → ((m.parts u j ≡ Some p) × (IsAmong l 1 to u j → ⊥)) ⊎ IsCopy l to from m u j p
    by_shape old was k on None none e =
        inl (was ∙ e, λ a. absurd (cc (sym none ∙ (ap (λ q. part_of l q j) (sym on) ∙ among_one l to u j a))))
    by_shape old was None on (Some s) has e = absurd (cc has)
    by_shape old was (Some k) on (Some s) has e =
        let is = cells_on_is (length l.cells) to u k on in
        let cell : k ≡ 0 * length l.cells + k = omega arith in
        inr (record {
          among = record { element = 0; cell = k; shape = s; within = omega arith; there = is.there ∙ ap (λ c. beyond to c) cell; has = has };
          old = old;
          was = was;
          now = subst (λ c. content_from old (m.parts (beyond from c) j) ≡ Some p) cell e;
        })

    by_part : (old : Option Part) → m.parts u j ≡ old → copied_part old ≡ Some p
        → ((m.parts u j ≡ Some p) × (IsAmong l 1 to u j → ⊥)) ⊎ IsCopy l to from m u j p
    by_part None was e = absurd (cc e)
    by_part (Some old) was e =
        by_shape old was (cells_on (length l.cells) to u) refl (part_of l (cells_on (length l.cells) to u) j) refl e

-- ---- a clear

among_some : (l : Layout) (count : ℕ) (to u : Spot) (j : ℕ) (a : IsAmong l count to u j)
    → part_of l (in_element l (cells_on (count * length l.cells) to u)) j ≡ Some a.shape
among_some l count to u j a =
    let size = length l.cells in
    let cell = cell_within l.cells a.cell j a.shape a.has in
    let whole : suc a.element * size ≤ count * size = mul-le-mul_right size a.within in
    let inside : a.element * size + a.cell < count * size = omega (arith, whole, cell) in
    ap (λ (t : Spot). part_of l (in_element l (cells_on (count * size) to t)) j) a.there
    ∙ ap (λ k. part_of l (in_element l k) j) (cells_on_beyond (count * size) (a.element * size + a.cell) to inside)
    ∙ ap (λ k. part_of l (Some k) j) (mod-mul-add a.element size a.cell cell)
    ∙ a.has

below_count : (k size count : ℕ) → k < count * size → k / size < count
below_count k size count inside = ⊎_elim
    (λ (less : k / size < count). less)
    (λ (more : count ≤ k / size). let whole = mul-le-mul_right size more in let split = mod-add-div' k size in absurd (omega (arith, whole, split, inside)))
    (cases_lt (k / size) count)

-- a part of what is cleared: what it was, and that it has what the layout's part begins with
pub record IsCleared (l : Layout) (count : ℕ) (to : Spot) (m : Memory) (u : Spot) (j : ℕ) (p : Part) : Type 0 where
  pub among : IsAmong l count to u j
  pub old : Part
  pub was : m.parts u j ≡ Some old
  pub now : p ≡ record old { content = among.shape.first }

pub cleared_cases : (l : Layout) (count : ℕ) (to : Spot) (m : Memory) (u : Spot) (j : ℕ) (p : Part) → (cleared l count to m).parts u j ≡ Some p
    → ((m.parts u j ≡ Some p) × (IsAmong l count to u j → ⊥)) ⊎ IsCleared l count to m u j p
cleared_cases l count to m u j p e = by_part (m.parts u j) refl e
  where
    cleared_part : Option Part → Option Part
    cleared_part None = None
    cleared_part (Some old) = Some (begun old (part_of l (in_element l (cells_on (count * length l.cells) to u)) j))

    by_shape : (old : Part) → m.parts u j ≡ Some old → (k : Option ℕ) → cells_on (count * length l.cells) to u ≡ k → (s : Option PartShape)
        → part_of l (in_element l k) j ≡ s → Some (begun old s) ≡ Some p
        → ((m.parts u j ≡ Some p) × (IsAmong l count to u j → ⊥)) ⊎ IsCleared l count to m u j p
    by_shape old was k on None none e =
        inl (was ∙ e, λ a. absurd (cc (sym none ∙ (ap (λ q. part_of l (in_element l q) j) (sym on) ∙ among_some l count to u j a))))
    by_shape old was None on (Some s) has e = absurd (cc has)
    by_shape old was (Some k) on (Some s) has e =
        let is = cells_on_is (count * length l.cells) to u k on in
        let split : k / length l.cells * length l.cells + k % length l.cells ≡ k = (let both = mod-add-div' k (length l.cells) in omega (arith, both)) in
        let less : k / length l.cells < count = below_count k (length l.cells) count is.within in
        inr (record {
          among = record {
            element = k / length l.cells;
            cell = k % length l.cells;
            shape = s;
            within = less;
            there = is.there ∙ ap (λ c. beyond to c) (sym split);
            has = has;
          };
          old = old;
          was = was;
          now = cc e;
        })

    by_part : (old : Option Part) → m.parts u j ≡ old → cleared_part old ≡ Some p
        → ((m.parts u j ≡ Some p) × (IsAmong l count to u j → ⊥)) ⊎ IsCleared l count to m u j p
    by_part None was e = absurd (cc e)
    by_part (Some old) was e =
        by_shape old was (cells_on (count * length l.cells) to u) refl (part_of l (in_element l (cells_on (count * length l.cells) to u)) j) refl e
