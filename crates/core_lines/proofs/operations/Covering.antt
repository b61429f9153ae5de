-- Objects of a layout that leaves no byte out: each of their bytes lies in one of their parts, and so may be read and written, and is no other part's; and how
-- the memory lies when these bytes, and these parts alone, have become others.
use Rattle.std.specs.Prelude.{nat_eq, ◌&&◌, length, slice_get}
use Rattle.std.proofs.Common.{◌≡◌, ℕ, zero, suc, ◌+◌, ◌*◌, ◌/◌, ◌%◌, ◌^◌, ◌<◌, ◌≤◌, ◌⊎◌, ◌-◌, inl, inr, ⊎_elim, Bool, true, false, List, [], ◌∷◌, Some, refl}
use Rattle.std.proofs.Common.{sym, ap, subst, ◌∙◌, arith}
use Rattle.std.proofs.lemmas.Bool.{and_parts, and_from, eqb-true, eq-eqb, cases_lt}
use Rattle.std.proofs.Math.Nat.{mod-add-div', mod-lt, mul-le-mul_right}
use Rattle.rv32_machine.specs.Arrays.{longest_stack}
use Rattle.rv32_machine.specs.State.{Areas}
use Rattle.core_meaning.specs.Memory.{Region, Frame, Own, Born, Spot, Content, Part, PartShape, Layout, Memory, same_region, same_spot, is_live, shape_in}
use Rattle.core_meaning.specs.Memory.{beyond}
use Rattle.core_meaning.specs.Operations.{are_elements, same_object}
use Rattle.core_meaning.proofs.Spots.{region_self, spot_same}
use Rattle.core_meaning.proofs.Wholes.{IsAmong, elements_in}
use Rattle.core_lines.specs.Machines.{Store}
use Rattle.core_lines.specs.Lies.{Maps, Activation, Name, Slot, Cell, same_name, Lies, InFrame, CellGround, Fits, Stacked}
use Rattle.core_lines.specs.Loops.{are_word_parts, are_word_cells, are_words}
use Rattle.core_meaning.specs.Layouts.{IsLayout, IsFull}
use Rattle.core_lines.proofs.Steps.{IsAllowed}
use Rattle.core_lines.proofs.memory.Fitting.{allowed}
use Rattle.core_lines.proofs.memory.Storing.{live_lasts}
use Rattle.core_lines.proofs.operations.Filling.{unit_size}

-- ---- a piece of what stands somewhere stands there

in_frame : (fs : List Activation) (a : Activation) (at width at' width' : ℕ) → at ≤ at' → at' + width' ≤ at + width → InFrame fs a at width
    → InFrame fs a at' width'
in_frame fs a at width at' width' low high i =
    let lo = i.low in let hi = i.high in record { among = i.among; low = omega (arith, lo, low); high = omega (arith, hi, high) }

pub narrower : (n : Areas) (fs : List Activation) (st : Store) (r : Region) (at width at' width' : ℕ) → at ≤ at' → at' + width' ≤ at + width
    → CellGround n fs st r at width → CellGround n fs st r at' width'
narrower n fs st (Frame k) at width at' width' low high g =
    let lo = g.low in
    let hi = g.high in
    record {
      frame = g.frame;
      inside = in_frame fs g.frame at width at' width' low high g.inside;
      zone = g.zone;
      among = g.among;
      holds = g.holds;
      low = omega (arith, lo, low);
      high = omega (arith, hi, high);
    }
narrower n fs st (Own k) at width at' width' low high g =
    let lo = g.low in
    let hi = g.high in
    record {
      frame = g.frame;
      inside = in_frame fs g.frame at width at' width' low high g.inside;
      holds = g.holds;
      low = omega (arith, lo, low);
      high = omega (arith, hi, high);
    }
narrower n fs st (Born d) at width at' width' low high (inl g) =
    let lo = g.low in let hi = g.high in inl (record { low = omega (arith, lo, low); high = omega (arith, hi, high) })
narrower n fs st (Born d) at width at' width' low high (inr g) =
    let lo = g.low in
    let hi = g.high in
    let bottom = g.bottom in
    let top = g.top in
    inr (record {
      block = g.block;
      among = g.among;
      owner = g.owner;
      low = omega (arith, lo, low);
      high = omega (arith, hi, high);
      bottom = omega (arith, bottom, low);
      top = omega (arith, top, high);
    })

-- ---- the part that a byte lies in

module _ (n : Areas) (m : Maps) (fs : List Activation) (mem : Memory) (bytes : ℕ → ℕ) (st : Store) (fits : Fits n m fs mem bytes st)
    (s : Spot) (b base : ℕ) (known : m.base s.region s.object ≡ Some base) (live : is_live (mem.standing s.region) ≡ true)
    (l : Layout) (count : ℕ) (full : IsFull l) (there : are_elements mem s b l count ≡ true) where
  pub record Covered (i : ℕ) : Type 0 where
    pub spot : Spot
    pub number : ℕ
    pub part : Part
    pub among : IsAmong l count s spot number
    pub region : spot.region ≡ s.region
    pub object : spot.object ≡ s.object
    pub lies : Lies m fs mem (Cell spot number) (base + part.offset) part.width part.content
    pub low : part.offset ≤ b + i
    pub high : b + i < part.offset + part.width
    pub begins : part.offset ≡ b + among.element * l.bytes + among.shape.offset
    pub wide : part.width ≡ among.shape.width

  pub covered : (i : ℕ) → i < count * l.bytes → Covered i
  covered i less =
      let size = l.bytes in
      let some : 0 < size = ⊎_elim (λ (h : 0 < size). h) (λ (h : size ≤ 0). absurd (nothing (omega (arith, h)))) (cases_lt 0 size) in
      let split = mod-add-div' i size in
      let rest = mod-lt i some in
      let element : i / size < count = ⊎_elim (λ (h : i / size < count). h)
      (λ (h : count ≤ i / size). let whole = mul-le-mul_right size h in absurd (omega (arith, whole, split, less))) (cases_lt (i / size) count) in
      let f = full.full (i % size) rest in
      let shaped = elements_in mem s b l count there (i / size) f.cell f.part f.shape element f.has.is in
      let begins = shaped.offset in
      let wide = shaped.width in
      let low = f.low in
      let high = f.high in
      record {
        spot = beyond s (i / size * length l.cells + f.cell);
        number = f.part;
        part = shaped.part;
        among = record { element = i / size; cell = f.cell; shape = f.shape; within = element; there = refl; has = f.has.is };
        region = refl;
        object = refl;
        lies = record {
          base = base;
          offset = shaped.part.offset;
          known = known;
          there = refl;
          has = shaped.is;
          lasts = live_lasts (mem.standing s.region) live;
        };
        low = omega (arith, begins, low, split);
        high = omega (arith, begins, wide, high, split);
        begins = begins;
        wide = wide;
      }
    where
      nothing : l.bytes ≡ 0 → ⊥
      nothing none = let e : count * l.bytes ≡ 0 = ap (λ k. count * k) none ∙ omega arith in omega (arith, e, less)

  -- ---- what lies elsewhere

  -- a part that is none of these
  abbrev pub IsOther : Name → Type 0
  IsOther (Slot f k) = Unit {0}
  IsOther (Cell u j) = IsAmong l count s u j → ⊥

  other_name : (x : Name) → IsOther x → (i : ℕ) (c : Covered i) → same_name x (Cell c.spot c.number) ≡ false
  other_name (Slot f k) other i c = refl
  other_name (Cell u j) other i c = by (same_spot u c.spot && nat_eq j c.number) refl
    where
      by : (same : Bool) → (same_spot u c.spot && nat_eq j c.number) ≡ same → (same_spot u c.spot && nat_eq j c.number) ≡ false
      by false e = e
      by true e =
          let both = and_parts (same_spot u c.spot) (nat_eq j c.number) e in
          let spot = spot_same u c.spot both.0 in
          let number = eqb-true j c.number both.1 in
          absurd (other (subst (λ k. IsAmong l count s u k) (sym number) (subst (λ (t : Spot). IsAmong l count s t c.number) (sym spot) c.among)))

  -- the bytes are no byte of it
  pub byte_apart : (x : Name) → IsOther x → (at width : ℕ) (v : Content) → Lies m fs mem x at width v → (i : ℕ) → i < count * l.bytes
      → (base + (b + i) < at) ⊎ (at + width ≤ base + (b + i))
  byte_apart x other at width v h i less =
      let c = covered i less in
      let low = c.low in
      let high = c.high in
      ⊎_elim (λ (e : at + width ≤ base + c.part.offset). inr (omega (arith, e, low)))
      (λ (e : base + c.part.offset + c.part.width ≤ at). inl (omega (arith, e, high)))
      (fits.apart x (Cell c.spot c.number) at width (base + c.part.offset) c.part.width v c.part.content (other_name x other i c) h c.lies)

-- ---- two objects

module _ (n : Areas) (m : Maps) (fs : List Activation) (mem : Memory) (bytes : ℕ → ℕ) (st : Store) (fits : Fits n m fs mem bytes st)
    (s : Spot) (b base : ℕ) (known : m.base s.region s.object ≡ Some base) (live : is_live (mem.standing s.region) ≡ true)
    (t : Spot) (c base' : ℕ) (known' : m.base t.region t.object ≡ Some base') (live' : is_live (mem.standing t.region) ≡ true)
    (l : Layout) (count : ℕ) (full : IsFull l) (there : are_elements mem s b l count ≡ true) (there' : are_elements mem t c l count ≡ true)
    (two : same_object s t ≡ false) where
  differ : (u v : Spot) (i j : ℕ) → u.region ≡ s.region → u.object ≡ s.object → v.region ≡ t.region → v.object ≡ t.object
      → same_name (Cell u i) (Cell v j) ≡ false
  differ u v i j region object region' object' = by (same_spot u v && nat_eq i j) refl
    where
      by : (same : Bool) → (same_spot u v && nat_eq i j) ≡ same → (same_spot u v && nat_eq i j) ≡ false
      by false e = e
      by true e =
          let spots = spot_same u v (and_parts (same_spot u v) (nat_eq i j) e).0 in
          let regions : s.region ≡ t.region = sym region ∙ ap (λ (x : Spot). x.region) spots ∙ region' in
          let objects : s.object ≡ t.object = sym object ∙ ap (λ (x : Spot). x.object) spots ∙ object' in
          absurd (cc (
            two,
            and_from (same_region s.region t.region) (nat_eq s.object t.object)
                (subst (λ r. same_region s.region r ≡ true) regions (region_self s.region)) (eq-eqb s.object t.object objects),
          ))

  bytes_differ : (i j : ℕ) → i < count * l.bytes → j < count * l.bytes → base + b + i ≡ base' + c + j → ⊥
  bytes_differ i j less less' same =
      let p = covered n m fs mem bytes st fits s b base known live l count full there i less in
      let q = covered n m fs mem bytes st fits t c base' known' live' l count full there' j less' in
      let low = p.low in
      let high = p.high in
      let low' = q.low in
      let high' = q.high in
      ⊎_elim (λ (e : base + p.part.offset + p.part.width ≤ base' + q.part.offset). omega (arith, e, high, low', same))
      (λ (e : base' + q.part.offset + q.part.width ≤ base + p.part.offset). omega (arith, e, high', low, same))
      (fits.apart (Cell p.spot p.number) (Cell q.spot q.number) (base + p.part.offset) p.part.width (base' + q.part.offset) q.part.width
      p.part.content q.part.content (differ p.spot q.spot p.number q.number p.region p.object q.region q.object) p.lies q.lies)

  -- the one lies before the other
  pub objects_apart : (base' + c + count * l.bytes ≤ base + b) ⊎ (base + b + count * l.bytes ≤ base' + c)
  objects_apart = ⊎_elim
      (λ (before : base + b < base' + c). inr (⊎_elim
      (λ (inside : base' + c < base + b + count * l.bytes).
      let at : base + b + (base' + c - (base + b)) ≡ base' + c + 0 = omega (arith, before) in
      absurd (bytes_differ (base' + c - (base + b)) 0 (omega (arith, before, inside)) (omega (arith, before, inside)) at))
      (λ (behind : base + b + count * l.bytes ≤ base' + c). behind)
      (cases_lt (base' + c) (base + b + count * l.bytes))))
      (λ (after : base' + c ≤ base + b). inl (⊎_elim
      (λ (inside : base + b < base' + c + count * l.bytes).
      let at : base + b + 0 ≡ base' + c + (base + b - (base' + c)) = omega (arith, after) in
      absurd (bytes_differ 0 (base + b - (base' + c)) (omega (arith, after, inside)) (omega (arith, after, inside)) at))
      (λ (behind : base' + c + count * l.bytes ≤ base + b). behind)
      (cases_lt (base + b) (base' + c + count * l.bytes))))
      (cases_lt (base + b) (base' + c))

-- ---- layouts of words

word_shape : (xs : List PartShape) → are_word_parts xs ≡ true → (i : ℕ) (x : PartShape) → slice_get xs i ≡ Some x → x.width ≡ 4
word_shape [] are i x e = absurd (cc e)
word_shape (y ∷ ys) are zero x e =
    let both = and_parts (nat_eq y.width 4) (are_word_parts ys) are in
    let same : y ≡ x = cc e in
    subst (λ (z : PartShape). z.width ≡ 4) same (eqb-true y.width 4 both.0)
word_shape (y ∷ ys) are (suc i) x e = word_shape ys (and_parts (nat_eq y.width 4) (are_word_parts ys) are).1 i x e

word_in_cell : (cs : List (List PartShape)) → are_word_cells cs ≡ true → (k i : ℕ) (x : PartShape) → shape_in (slice_get cs k) i ≡ Some x → x.width ≡ 4
word_in_cell [] are k i x e = absurd (cc e)
word_in_cell (c ∷ cs) are zero i x e = word_shape c (and_parts (are_word_parts c) (are_word_cells cs) are).0 i x e
word_in_cell (c ∷ cs) are (suc k) i x e = word_in_cell cs (and_parts (are_word_parts c) (are_word_cells cs) are).1 k i x e

pub multiple_of_four : (a b : ℕ) → b % 4 ≡ 0 → a * b % 4 ≡ 0
multiple_of_four zero b even = omega arith
multiple_of_four (suc a) b even = let rest = multiple_of_four a b even in let e : suc a * b ≡ a * b + b = omega arith in omega (arith, e, rest, even)

-- where they are words, so is the whole of an object
pub whole_units : (l : Layout) → IsLayout l → IsFull l → (words : Bool) → are_words l ≡ words → 0 < l.bytes → l.bytes % unit_size words ≡ 0
whole_units l layout full false are some = omega arith
whole_units l layout full true are some =
    let f = full.full 0 some in
    let wide = word_in_cell l.cells are f.cell f.part f.shape f.has.is in
    ⊎_elim (λ (one : f.shape.width ≡ 1). absurd (omega (arith, one, wide)))
    (λ (e : (f.shape.width ≡ 4) × (f.shape.offset % 4 ≡ 0) × (l.bytes % 4 ≡ 0)). e.2) (layout.even f.cell f.part f.shape f.has)

-- ---- each unit may be read and written

module _ (n : Areas) (few : n.statics ≤ 2 ^ 20) (pages : n.pages ≤ 4096) (short : n.stack ≤ longest_stack) (code : n.code ≤ 2 ^ 20) (kept : ℕ → ℕ) (st : Store)
    (sp : ℕ) (fs : List Activation) (stacked : Stacked n sp fs) (m : Maps) (mem : Memory) (bytes : ℕ → ℕ) (fits : Fits n m fs mem bytes st)
    (s : Spot) (b base : ℕ) (known : m.base s.region s.object ≡ Some base) (live : is_live (mem.standing s.region) ≡ true)
    (l : Layout) (count : ℕ) (layout : IsLayout l) (full : IsFull l) (there : are_elements mem s b l count ≡ true) where
  abbrev Allowed : ℕ → ℕ → Type 0
  Allowed at width = IsAllowed n kept code st sp at width

  abbrev CoveredHere : ℕ → Type 0
  CoveredHere i = Covered n m fs mem bytes st fits s b base known live l count full there i

  byte_allowed : (i : ℕ) → i < count * l.bytes → Allowed (base + b + i) 1
  byte_allowed i less =
      let c = covered n m fs mem bytes st fits s b base known live l count full there i less in
      let low = c.low in
      let high = c.high in
      allowed n few pages short code kept st sp fs stacked (Cell c.spot c.number) (base + b + i) 1
      (narrower n fs st c.spot.region (base + c.part.offset) c.part.width (base + b + i) 1 (omega (arith, low)) (omega (arith, high))
      (fits.ground (Cell c.spot c.number) (base + c.part.offset) c.part.width c.part.content c.lies))
      (inl refl) (omega arith)

  -- no object is larger than the machine
  pub object_below : 0 < count * l.bytes → base + b + count * l.bytes < 2 ^ 32
  object_below some =
      let last = count * l.bytes - 1 in
      let end = (byte_allowed last (omega (arith, some))).small in
      omega (arith, some, end)

  -- where all parts are words, one begins at each multiple of 4
  word_here : are_words l ≡ true → (i : ℕ) → i % 4 ≡ 0 → (c : CoveredHere i) → (c.part.width ≡ 4) × (c.part.offset ≡ b + i)
  word_here are i even c =
      let shape = c.among.shape in
      let wide = word_in_cell l.cells are c.among.cell c.number shape c.among.has in
      let low = c.low in
      let high = c.high in
      let width = c.wide in
      let begins = c.begins in
      let is_even : (shape.offset % 4 ≡ 0) × (l.bytes % 4 ≡ 0) = ⊎_elim (λ (one : shape.width ≡ 1). absurd (omega (arith, one, wide)))
      (λ (e : (shape.width ≡ 4) × (shape.offset % 4 ≡ 0) × (l.bytes % 4 ≡ 0)). (e.1, e.2))
      (layout.even c.among.cell c.number shape (record { is = c.among.has })) in
      let multiple : c.among.element * l.bytes % 4 ≡ 0 = multiple_of_four c.among.element l.bytes is_even.1 in
      let offset_even = is_even.0 in
      (width ∙ wide, omega (arith, begins, low, high, width, wide, multiple, offset_even, even))

  pub unit_allowed : (words : Bool) → are_words l ≡ words → (i : ℕ) → i + unit_size words ≤ count * l.bytes → i % unit_size words ≡ 0
      → Allowed (base + b + i) (unit_size words)
  unit_allowed false are i within even = byte_allowed i (omega (arith, within))
  unit_allowed true are i within even =
      let c = covered n m fs mem bytes st fits s b base known live l count full there i (omega (arith, within)) in
      let w = word_here are i even c in
      let begins = w.1 in
      let at : base + c.part.offset ≡ base + b + i = omega (arith, begins) in
      subst (λ q. Allowed q 4) at
      (subst (λ k. Allowed (base + c.part.offset) k) w.0
      (let good = fits.aligned (Cell c.spot c.number) (base + c.part.offset) c.part.width c.part.content c.lies in
      allowed n few pages short code kept st sp fs stacked (Cell c.spot c.number) (base + c.part.offset) c.part.width
      (fits.ground (Cell c.spot c.number) (base + c.part.offset) c.part.width c.part.content c.lies) good.0 good.1))
