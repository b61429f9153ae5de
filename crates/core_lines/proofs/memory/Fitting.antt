-- How a memory lies in bytes, when something is stored: one lemma for all that holds something, of any width.
use Rattle.std.specs.Prelude.{nat_le, nat_eq, ◌&&◌, if◌then◌else◌}
use Rattle.std.proofs.Common.{◌≡◌, ℕ, zero, suc, ◌+◌, ◌*◌, ◌%◌, ◌^◌, ◌<◌, ◌≤◌, ◌⊎◌, inl, inr, ⊎_elim, true, false, List, [], ◌∷◌, Some, refl, sym, ap, ◌∙◌}
use Rattle.std.proofs.Common.{subst, arith}
use Rattle.std.proofs.lemmas.Bool.{eqb-true, ne_eqb, eq-eqb, and_parts, and_right, and_left, and_from, or_right, or_left, le-leb}
use Rattle.std.proofs.lemmas.Bool.Decides.{nat_tests}
use Rattle.std.proofs.lemmas.Option.{same_Some}
use Rattle.core_meaning.specs.Memory.{Region, Frame, Own, Born, Spot, Content, Part, Memory, same_spot, with_part}
use Rattle.core_meaning.specs.Layouts.{Apart}
use Rattle.core_lines.specs.Machines.{Store}
use Rattle.rv32_machine.specs.Arrays.{longest_stack}
use Rattle.rv32_machine.specs.State.{stack_end, Areas, data_base, stack_base, is_within, word_at, set_word, set_byte}
use Rattle.arena_laws.specs.Holdings.{arena_base}
use Rattle.rv32_machine.specs.Audit.{is_in_block}
use Rattle.core_lines.specs.Lies.{Maps, Shows, read, Activation, Name, Slot, Cell, same_name, SlotsLie, Lies, Among, InFrame, InGranted, InData, CellGround}
use Rattle.core_lines.specs.Lies.{SlotGround, Ground, Fits, Stacked}
use Rattle.arena_laws.specs.Blocks.{Block}
use Rattle.core_lines.proofs.memory.Bytes.{same_word, other_word, other_byte, byte_is_small}
use Rattle.core_lines.proofs.Steps.{IsAllowed}
use Rattle.rv32_machine.proofs.Bytes.{within_true}
use Rattle.core_meaning.proofs.Spots.{spot_same}
pub use Rattle.core_lines.proofs.memory.Alike.{if_split, shows_on, extends_self, extends_on}

-- ---- writes

abbrev pub IsWidth : ℕ → Type 0
IsWidth width = (width ≡ 1) ⊎ (width ≡ 4)

pub width_some : (width : ℕ) → IsWidth width → 1 ≤ width
width_some width (inl e) = omega (arith, e)
width_some width (inr e) = omega (arith, e)

-- some bytes at an address have become a value, and all others are as they were
pub record Writes (b b' : ℕ → ℕ) (at width x : ℕ) : Type 0 where
  pub same : read b' at width ≡ x
  pub other : (at' width' : ℕ) → IsWidth width' → Apart at' width' at width → read b' at' width' ≡ read b at' width'
  pub outside : (q : ℕ) → (q < at) ⊎ (at + width ≤ q) → b' q ≡ b q
  pub small : ((q : ℕ) → b q < 256) → (q : ℕ) → b' q < 256

pub writes_word : (b : ℕ → ℕ) (at x : ℕ) → x < 2 ^ 32 → Writes b (set_word at x b) at 4 x
writes_word b at x below = record {
  same = same_word at x b below;
  other = λ at' width' wide apart. ⊎_elim
      (λ (e : width' ≡ 1). subst (λ k. read (set_word at x b) at' k ≡ read b at' k) (sym e)
      (other_byte at x b at' (⊎_elim (λ h. inl (omega (arith, h, e))) (λ h. inr h) apart)))
      (λ (e : width' ≡ 4). subst (λ k. read (set_word at x b) at' k ≡ read b at' k) (sym e)
      (other_word at x b at' (⊎_elim (λ h. inl (omega (arith, h, e))) (λ h. inr h) apart)))
      wide;
  outside = λ q far. other_byte at x b q far;
  small = λ all q. byte_is_small at x b q (all q);
}

other_of_byte : (b : ℕ → ℕ) (at x q : ℕ) → (q < at) ⊎ (at + 1 ≤ q) → set_byte at x b q ≡ b q
other_of_byte b at x q far = grind (arith, nat_tests)

pub writes_byte : (b : ℕ → ℕ) (at x : ℕ) → x < 256 → Writes b (set_byte at x b) at 1 x
writes_byte b at x below = record {
  same = rw (eq-eqb at at refl) refl;
  other = λ at' width' wide apart. ⊎_elim
      (λ (e : width' ≡ 1). subst (λ k. read (set_byte at x b) at' k ≡ read b at' k) (sym e)
      (other_of_byte b at x at' (⊎_elim (λ h. inl (omega (arith, h, e))) (λ h. inr h) apart)))
      (λ (e : width' ≡ 4). subst (λ k. read (set_byte at x b) at' k ≡ read b at' k) (sym e)
      (four at' (⊎_elim (λ h. inl (omega (arith, h, e))) (λ h. inr h) apart)))
      wide;
  outside = λ q far. other_of_byte b at x q far;
  small = λ all q. small_at q (all q);
}
  where
    small_at : (q : ℕ) → b q < 256 → set_byte at x b q < 256
    small_at q small = grind (arith, nat_tests)

    four : (at' : ℕ) → (at' + 4 ≤ at) ⊎ (at + 1 ≤ at') → word_at (set_byte at x b) at' ≡ word_at b at'
    four at' far = rw (
      other_of_byte b at x at' (⊎_elim (λ h. inl (omega (arith, h))) (λ h. inr h) far),
      other_of_byte b at x (at' + 1) (⊎_elim (λ h. inl (omega (arith, h))) (λ h. inr (omega (arith, h))) far),
      other_of_byte b at x (at' + 2) (⊎_elim (λ h. inl (omega (arith, h))) (λ h. inr (omega (arith, h))) far),
      other_of_byte b at x (at' + 3) (⊎_elim (λ h. inl (omega (arith, h))) (λ h. inr (omega (arith, h))) far),
    ) refl

-- ---- one name holds something else

pub record Change (n : Areas) (m : Maps) (fs fs' : List Activation) (mem mem' : Memory) (x0 : Name) (at0 w0 : ℕ) (v0 : Content) : Type 0 where
  pub back : (x : Name) (at width : ℕ) (v : Content) → Lies m fs' mem' x at width v → (v' : Content) × Lies m fs mem x at width v'
  pub ground : (x : Name) (at width : ℕ) (st : Store) → Ground n fs st x at width → Ground n fs' st x at width
  pub split : (x : Name) (at width : ℕ) (v : Content) → Lies m fs' mem' x at width v
      → ((at ≡ at0) × (width ≡ w0) × (v ≡ v0)) ⊎ ((same_name x x0 ≡ false) × Lies m fs mem x at width v)

pub store_fits : (n : Areas) (m : Maps) (fs fs' : List Activation) (mem mem' : Memory) (b b' : ℕ → ℕ) (st : Store) (x0 : Name) (at0 w0 : ℕ) (v0 old : Content)
    (x : ℕ)
    → Fits n m fs mem b st → Lies m fs mem x0 at0 w0 old → Change n m fs fs' mem mem' x0 at0 w0 v0 → Writes b b' at0 w0 x → Shows m v0 x
    → Fits n m fs' mem' b' st
store_fits n m fs fs' mem mem' b b' st x0 at0 w0 v0 old x f l c writes shows = record {
  shows = λ y at width v h. ⊎_elim
      (λ (e : (at ≡ at0) × (width ≡ w0) × (v ≡ v0)).
      let there : read b' at width ≡ x = ap (λ q. read b' q width) e.0 ∙ ap (λ k. read b' at0 k) e.1 ∙ writes.same in
      subst (λ z. Shows m v z) (sym there) (subst (λ u. Shows m u x) (sym e.2) shows))
      (λ (e : (same_name y x0 ≡ false) × Lies m fs mem y at width v).
      let kept : read b' at width ≡ read b at width =
      writes.other at width ((f.aligned y at width v e.1).0) (f.apart y x0 at width at0 w0 v old e.0 e.1 l) in
      subst (λ z. Shows m v z) (sym kept) (f.shows y at width v e.1))
      (c.split y at width v h);
  apart = λ y z at width at' width' v v' ne h h'.
      let p = c.back y at width v h in
      let q = c.back z at' width' v' h' in
      f.apart y z at width at' width' p.0 q.0 ne p.1 q.1;
  ground = λ y at width v h. let p = c.back y at width v h in c.ground y at width st (f.ground y at width p.0 p.1);
  aligned = λ y at width v h. let p = c.back y at width v h in f.aligned y at width p.0 p.1;
}

-- ---- a slot of the innermost frame

abbrev pub set_slot : ℕ → Content → (ℕ → Content) → ℕ → Content
set_slot k v slots j = (if nat_eq j k then v else slots j)

abbrev pub with_slot : ℕ → Content → Activation → Activation
with_slot k v a = record a { slots = set_slot k v a.slots }

-- the same frame but for its slots
pub record SameShape (g fr : Activation) : Type 0 where
  pub at : g.at ≡ fr.at
  pub size : g.size ≡ fr.size
  pub own_high : g.own_high ≡ fr.own_high
  pub zones : g.zones ≡ fr.zones
  pub own : g.own ≡ fr.own

in_other : (a : Activation) (fs : List Activation) (k : ℕ) (v : Content) (fr : Activation) (at width : ℕ) → InFrame (a ∷ fs) fr at width
    → (g : Activation) × (InFrame (with_slot k v a ∷ fs) g at width × SameShape g fr)
in_other a fs k v fr at width i = by i.among
  where
    by : (fr ≡ a) ⊎ Among fr fs → (g : Activation) × (InFrame (with_slot k v a ∷ fs) g at width × SameShape g fr)
    by (inl e) = (
      with_slot k v a,
      (
        record {
          among = inl refl;
          low = subst (λ (x : Activation). x.at ≤ at) e i.low;
          high = subst (λ (x : Activation). at + width ≤ x.at + x.bytes) e i.high;
        },
        subst (λ (x : Activation). SameShape (with_slot k v a) x) (sym e) (record { at = refl; size = refl; own_high = refl; zones = refl; own = refl }),
      ),
    )
    by (inr among) = (
      fr,
      (
        record { among = inr among; low = i.low; high = i.high },
        record {
          at = refl;
          size = refl;
          own_high = refl;
          zones = refl;
          own = refl;
        },
      ),
    )

slot_ground_on : (n : Areas) (a : Activation) (fs : List Activation) (k : ℕ) (v : Content) (x : Name) (at width : ℕ) (st : Store)
    → Ground n (a ∷ fs) st x at width → Ground n (with_slot k v a ∷ fs) st x at width
slot_ground_on n a fs k v (Slot f j) at width st g = let h = in_other a fs k v g.frame at width g.inside in record { frame = h.0; inside = h.1.0 }
slot_ground_on n a fs k v (Cell s j) at width st g = by s.region g
  where
    by : (r : Region) → CellGround n (a ∷ fs) st r at width → CellGround n (with_slot k v a ∷ fs) st r at width
    by (Frame q) g =
        let h = in_other a fs k v g.frame at width g.inside in
        let same = h.1.1 in
        let here = same.at in
        let low = g.low in
        let high = g.high in
        record {
          frame = h.0;
          inside = h.1.0;
          zone = g.zone;
          among = subst (Among g.zone) (sym same.zones) g.among;
          holds = g.holds;
          low = omega (arith, here, low);
          high = omega (arith, here, high);
        }
    by (Own q) g =
        let h = in_other a fs k v g.frame at width g.inside in
        let same = h.1.1 in
        let here = same.at in
        let size = same.size in
        let end = same.own_high in
        let low = g.low in
        let high = g.high in
        record { frame = h.0; inside = h.1.0; holds = same.own ∙ g.holds; low = omega (arith, here, size, low); high = omega (arith, here, end, high) }
    by (Born d) g = g

slot_back : (m : Maps) (a : Activation) (fs : List Activation) (mem : Memory) (k : ℕ) (v : Content) (x : Name) (at width : ℕ) (u : Content)
    → Lies m (with_slot k v a ∷ fs) mem x at width u → (u' : Content) × Lies m (a ∷ fs) mem x at width u'
slot_back m a fs mem k v (Slot zero j) at width u h = (a.slots j, record { within = h.within; there = h.there; wide = h.wide; value = refl })
slot_back m a fs mem k v (Slot (suc f) j) at width u h = (u, h)
slot_back m a fs mem k v (Cell s j) at width u h = (u, h)

slot_split : (m : Maps) (a : Activation) (fs : List Activation) (mem : Memory) (k : ℕ) (v : Content) (x : Name) (at width : ℕ) (u : Content)
    → Lies m (with_slot k v a ∷ fs) mem x at width u
    → ((at ≡ a.at + 4 * k) × (width ≡ 4) × (u ≡ v)) ⊎ ((same_name x (Slot zero k) ≡ false) × Lies m (a ∷ fs) mem x at width u)
slot_split m a fs mem k v (Slot zero j) at width u h = ⊎_elim
    (λ (e : (nat_eq j k ≡ true) × (v ≡ u)). inl (h.there ∙ ap (λ i. a.at + 4 * i) (eqb-true j k e.0), h.wide, sym e.1))
    (λ (e : (nat_eq j k ≡ false) × (a.slots j ≡ u)).
    inr (and_right (nat_eq 0 0) (nat_eq j k) e.0, record { within = h.within; there = h.there; wide = h.wide; value = e.1 }))
    (if_split (nat_eq j k) v (a.slots j) u h.value)
slot_split m a fs mem k v (Slot (suc f) j) at width u h = inr (and_left (nat_eq (suc f) zero) (nat_eq j k) (ne_eqb (suc f) zero (λ e. omega arith)), h)
slot_split m a fs mem k v (Cell s j) at width u h = inr (refl, h)

pub slot_change : (n : Areas) (m : Maps) (a : Activation) (fs : List Activation) (mem : Memory) (k : ℕ) (v : Content)
    → Change n m (a ∷ fs) (with_slot k v a ∷ fs) mem mem (Slot zero k) (a.at + 4 * k) 4 v
slot_change n m a fs mem k v = record {
  back = slot_back m a fs mem k v;
  ground = slot_ground_on n a fs k v;
  split = slot_split m a fs mem k v;
}

-- ---- a part of a cell

module _ (n : Areas) (m : Maps) (fs : List Activation) (mem : Memory) (s0 : Spot) (j0 : ℕ) (base : ℕ) (known : m.base s0.region s0.object ≡ Some base)
    (old : Part) (is : mem.parts s0 j0 ≡ Some old) (v : Content) where
  abbrev mem' : Memory
  mem' = with_part mem s0 j0 (record old { content = v })

  here : (s : Spot) (j : ℕ) → same_spot s s0 && nat_eq j j0 ≡ true → (s ≡ s0) × (j ≡ j0)
  here s j e = let p = and_parts (same_spot s s0) (nat_eq j j0) e in (spot_same s s0 p.0, eqb-true j j0 p.1)

  part_back : (x : Name) (at width : ℕ) (u : Content) → Lies m fs mem' x at width u → (u' : Content) × Lies m fs mem x at width u'
  part_back (Slot f k) at width u h = (u, h)
  part_back (Cell s j) at width u h = ⊎_elim
      (λ (e : (same_spot s s0 && nat_eq j j0 ≡ true) × (Some (record old { content = v }) ≡ Some (record { offset = h.offset; width = width; content = u }))).
      let q = here s j e.0 in
      let p = same_Some (record old { content = v }) (record { offset = h.offset; width = width; content = u }) e.1 in
      let o : old.offset ≡ h.offset = ap (λ (x : Part). x.offset) p in
      let w : old.width ≡ width = ap (λ (x : Part). x.width) p in
      let found : mem.parts s j ≡ Some old = ap (λ t. mem.parts t j) q.0 ∙ ap (λ i. mem.parts s0 i) q.1 ∙ is in (
        old.content,
        record {
          base = h.base;
          offset = h.offset;
          known = h.known;
          there = h.there;
          has = found ∙ (λ i. Some (record { offset = o i; width = w i; content = old.content }));
          lasts = h.lasts;
        },
      ))
      (λ (e : (same_spot s s0 && nat_eq j j0 ≡ false) × (mem.parts s j ≡ Some (record { offset = h.offset; width = width; content = u }))).
      (u, record { base = h.base; offset = h.offset; known = h.known; there = h.there; has = e.1; lasts = h.lasts }))
      (if_split (same_spot s s0 && nat_eq j j0) (Some (record old { content = v })) (mem.parts s j)
      (Some (record { offset = h.offset; width = width; content = u })) h.has)

  part_split : (x : Name) (at width : ℕ) (u : Content) → Lies m fs mem' x at width u
      → ((at ≡ base + old.offset) × (width ≡ old.width) × (u ≡ v)) ⊎ ((same_name x (Cell s0 j0) ≡ false) × Lies m fs mem x at width u)
  part_split (Slot f k) at width u h = inr (refl, h)
  part_split (Cell s j) at width u h = ⊎_elim
      (λ (e : (same_spot s s0 && nat_eq j j0 ≡ true) × (Some (record old { content = v }) ≡ Some (record { offset = h.offset; width = width; content = u }))).
      let q = here s j e.0 in
      let p = same_Some (record old { content = v }) (record { offset = h.offset; width = width; content = u }) e.1 in
      let o : old.offset ≡ h.offset = ap (λ (x : Part). x.offset) p in
      let w : old.width ≡ width = ap (λ (x : Part). x.width) p in
      let c : v ≡ u = ap (λ (x : Part). x.content) p in
      let b : h.base ≡ base = same_Some h.base base (sym h.known ∙ ap (λ (t : Spot). m.base t.region t.object) q.0 ∙ known) in
      inl (h.there ∙ ap (λ k. k + h.offset) b ∙ ap (λ k. base + k) (sym o), sym w, sym c))
      (λ (e : (same_spot s s0 && nat_eq j j0 ≡ false) × (mem.parts s j ≡ Some (record { offset = h.offset; width = width; content = u }))).
      inr (e.0, record { base = h.base; offset = h.offset; known = h.known; there = h.there; has = e.1; lasts = h.lasts }))
      (if_split (same_spot s s0 && nat_eq j j0) (Some (record old { content = v })) (mem.parts s j)
      (Some (record { offset = h.offset; width = width; content = u })) h.has)

  pub part_change : Change n m fs fs mem mem' (Cell s0 j0) (base + old.offset) old.width v
  part_change = record { back = part_back; ground = λ x at width st g. g; split = part_split }

-- ---- what may be read and written

pub record Inside (n : Areas) (sp : ℕ) (a : Activation) : Type 0 where
  pub above : sp ≤ a.at
  pub low : stack_base ≤ a.at
  pub high : a.at + a.bytes ≤ stack_end n

pub below_end : (n : Areas) (sp : ℕ) (fs : List Activation) → Stacked n sp fs → sp ≤ stack_end n
below_end n sp [] s = omega (arith, s)
below_end n sp (a ∷ fs) s = let h = below_end n (a.at + a.bytes) fs s.1 in let e = s.0.there in omega (arith, h, e)

pub inside : (n : Areas) (sp : ℕ) (fs : List Activation) (a : Activation) → Stacked n sp fs → Among a fs → Inside n sp a
inside n sp [] a s i = absurd i
inside n sp (g ∷ gs) a s (inl e) =
    let at = s.0.there in
    let low = s.0.low in
    let h = below_end n (g.at + g.bytes) gs s.1 in
    subst (λ x. Inside n sp x) (sym e) (record { above = omega (arith, at); low = omega (arith, at, low); high = h })
inside n sp (g ∷ gs) a s (inr i) =
    let r = inside n (g.at + g.bytes) gs a s.1 i in
    let at = s.0.there in
    let up = r.above in
    record { above = omega (arith, at, up); low = r.low; high = r.high }

granted_in : (ks : List Block) (k : Block) (at width : ℕ) → Among k ks → k.from ≤ at → at + width ≤ k.from + k.bytes → is_in_block ks at width ≡ true
granted_in [] k at width i low high = absurd i
granted_in (j ∷ js) k at width (inl e) low high =
    let lo : j.from ≤ at = subst (λ (x : Block). x.from ≤ at) e low in
    let hi : at + width ≤ j.from + j.bytes = subst (λ (x : Block). at + width ≤ x.from + x.bytes) e high in
    or_left _ (is_in_block js at width) (within_true j.from j.bytes at width lo hi)
granted_in (j ∷ js) k at width (inr i) low high = or_right _ (is_in_block js at width) (granted_in js k at width i low high)

module _ (n : Areas) (few : n.statics ≤ 2 ^ 20) (pages : n.pages ≤ 4096) (short : n.stack ≤ longest_stack) (code : n.code ≤ 2 ^ 20) (kept : ℕ → ℕ) (st : Store)
    (sp : ℕ) (fs : List Activation)
    (stacked : Stacked n sp fs) where
  abbrev Allowed : ℕ → ℕ → Type 0
  Allowed at width = IsAllowed n kept code st sp at width

  pub allowed_in_frame : (a : Activation) (at width : ℕ) → InFrame fs a at width → at % width ≡ 0 → width ≤ 4 → Allowed at width
  allowed_in_frame a at width i even narrow =
      let g = inside n sp fs a stacked i.among in
      let low = g.low in
      let high = g.high in
      let above = g.above in
      let lo = i.low in
      let hi = i.high in
      let in_stack : is_within stack_base n.stack at width ≡ true =
      within_true stack_base n.stack at width (omega (arith, low, lo)) (omega (arith, high, hi)) in
      record {
        aligned = even;
        writable = or_right (is_within data_base n.statics at width) _ (or_left _ (is_within arena_base (n.pages * 4096) at width) in_stack);
        lawful = λ s x2 same.
            let over : s.registers 2 ≤ at = omega (arith, x2, above, lo) in
            or_right (is_within data_base n.statics at width) _ (or_left _ (is_in_block s.store.ledger.blocks at width)
            (and_from (nat_le (s.registers 2) at) _ (le-leb (s.registers 2) at over) in_stack));
        small = omega (arith, high, hi, narrow, short);
        above = omega (arith, low, lo);
      }

  allowed_in_data : (at width : ℕ) → InData n at width → at % width ≡ 0 → width ≤ 4 → Allowed at width
  allowed_in_data at width i even narrow =
      let lo = i.low in
      let hi = i.high in
      let there : is_within data_base n.statics at width ≡ true = within_true data_base n.statics at width lo hi in
      record {
        aligned = even;
        writable = or_left (is_within data_base n.statics at width) _ there;
        lawful = λ s x2 same. or_left (is_within data_base n.statics at width) _ there;
        small = omega (arith, hi, few, narrow);
        above = lo;
      }

  allowed_in_block : (d at width : ℕ) → InGranted n st d at width → at % width ≡ 0 → width ≤ 4 → Allowed at width
  allowed_in_block d at width i even narrow =
      let lo = i.bottom in
      let hi = i.top in
      let there : is_within arena_base (n.pages * 4096) at width ≡ true = within_true arena_base (n.pages * 4096) at width lo hi in
      record {
        aligned = even;
        writable = or_right (is_within data_base n.statics at width) _ (or_right (is_within stack_base n.stack at width) _ there);
        lawful = λ s x2 same. or_right (is_within data_base n.statics at width) _ (or_right (nat_le (s.registers 2) at && _) _
            (subst (λ (t : Store). is_in_block t.ledger.blocks at width ≡ true) (sym same)
            (granted_in st.ledger.blocks i.block at width i.among i.low i.high)));
        small = omega (arith, hi, pages, narrow);
        above = omega (arith, lo);
      }

  -- what has a name may be read and written: the audit
  pub allowed : (x : Name) (at width : ℕ) → Ground n fs st x at width → IsWidth width → at % width ≡ 0 → Allowed at width
  allowed x at width g wide even = by x g (⊎_elim (λ e. omega (arith, e)) (λ e. omega (arith, e)) wide)
    where
      of_region : (r : Region) → CellGround n fs st r at width → width ≤ 4 → Allowed at width
      of_region (Frame k) g narrow = allowed_in_frame g.frame at width g.inside even narrow
      of_region (Own k) g narrow = allowed_in_frame g.frame at width g.inside even narrow
      of_region (Born d) (inl g) narrow = allowed_in_data at width g even narrow
      of_region (Born d) (inr g) narrow = allowed_in_block d at width g even narrow

      by : (x : Name) → Ground n fs st x at width → width ≤ 4 → Allowed at width
      by (Slot f k) g narrow = allowed_in_frame g.frame at width g.inside even narrow
      by (Cell s j) g narrow = of_region s.region g narrow

  -- a slot of any frame lies in it
  pub slot_ground : (f k at width : ℕ) (v : Content) → SlotsLie fs f k at width v → SlotGround fs at width
  slot_ground f k at width v l = by sp fs f stacked l
    where
      by : (sp : ℕ) (fs : List Activation) (f : ℕ) → Stacked n sp fs → SlotsLie fs f k at width v → SlotGround fs at width
      by sp [] f s l = absurd l
      by sp (a ∷ gs) zero s l =
          let room = s.0.room in
          let w = l.within in
          let e = l.there in
          let four = l.wide in
          record { frame = a; inside = record { among = inl refl; low = omega (arith, e); high = omega (arith, e, w, room, four) } }
      by sp (a ∷ gs) (suc f) s l =
          let g = by (a.at + a.bytes) gs f s.1 l in
          let i = g.inside in
          record { frame = g.frame; inside = record { among = inr i.among; low = i.low; high = i.high } }
