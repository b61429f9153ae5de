-- How a memory lies after the bytes of some elements of a layout, and no other parts, have changed.
use Rattle.std.proofs.Common.{◌≡◌, ℕ, ◌+◌, ◌-◌, ◌*◌, ◌<◌, ◌≤◌, ◌⊎◌, ⊎_elim, inl, inr, true, ◌%◌, ◌∷◌, refl, Option, Some, List, sym, ap, subst, ◌∙◌, arith}
use Rattle.std.proofs.lemmas.Bool.{cases_lt}
use Rattle.std.proofs.Math.Nat.{mul-le-mul_right}
use Rattle.std.proofs.lemmas.Option.{same_Some, none-some}
use Rattle.rv32_machine.specs.State.{Areas}
use Rattle.core_meaning.specs.Memory.{Spot, Content, Part, Layout, Memory, is_live}
use Rattle.core_meaning.specs.Operations.{are_elements, too_far}
use Rattle.core_meaning.proofs.Wholes.{IsAmong, elements_in}
use Rattle.core_lines.specs.Machines.{Machine, Store}
use Rattle.core_lines.specs.Lies.{local_at, Maps, Shows, read, Activation, Name, Slot, Cell, PartLies, Lies, Fits, Known}
use Rattle.core_meaning.specs.Layouts.{IsLayout, IsFull}
use Rattle.core_lines.proofs.memory.Relations.{World, IsInOrder, Waiting, At}
use Rattle.core_lines.proofs.Steps.{state_at, IsKeptBelow}
use Rattle.core_lines.proofs.memory.Fitting.{IsWidth, extends_self}
use Rattle.core_lines.proofs.homes.Homes.{Stays, homes_of, homes_on, homes_spared}
use Rattle.core_lines.proofs.operations.Filling.{Filled, read_filled, read_outside}
use Rattle.core_lines.proofs.operations.Covering.{IsOther, byte_apart}

-- so many bytes on from where the elements begin, a part of theirs
abbrev pub offset_among : (l : Layout) (count : ℕ) (s u : Spot) (j : ℕ) → IsAmong l count s u j → ℕ
offset_among l count s u j a = a.element * l.bytes + a.shape.offset

-- a part of these elements: what it was, and that it shows what it has now in bytes that are counted from where the elements begin
pub record Renewed (m : Maps) (mem : Memory) (l : Layout) (count : ℕ) (s : Spot) (v : ℕ → ℕ) (u : Spot) (j : ℕ) (p : Part) : Type 0 where
  pub among : IsAmong l count s u j
  pub old : Part
  pub was : mem.parts u j ≡ Some old
  pub same_offset : p.offset ≡ old.offset
  pub same_width : p.width ≡ old.width
  pub shows : Shows m p.content (read v (offset_among l count s u j among) p.width)

-- any other part stays
pub record Stays_part (mem : Memory) (l : Layout) (count : ℕ) (s u : Spot) (j : ℕ) (p : Part) : Type 0 where
  pub was : mem.parts u j ≡ Some p
  pub other : IsAmong l count s u j → ⊥

module _ (n : Areas) (m : Maps) (fs : List Activation) (mem : Memory) (bytes : ℕ → ℕ) (st : Store) (fits : Fits n m fs mem bytes st)
    (s : Spot) (b base : ℕ) (known : m.base s.region s.object ≡ Some base) (live : is_live (mem.standing s.region) ≡ true)
    (l : Layout) (count : ℕ) (layout : IsLayout l) (full : IsFull l) (there : are_elements mem s b l count ≡ true)
    (b' : ℕ → ℕ) (v : ℕ → ℕ) (filled : Filled bytes b' (base + b) (count * l.bytes) v) (f : Spot → ℕ → Option Part)
    (cases : (u : Spot) (j : ℕ) (p : Part) → f u j ≡ Some p → Stays_part mem l count s u j p ⊎ Renewed m mem l count s v u j p) where
  abbrev mem' : Memory
  mem' = record mem { parts = f }

  -- a part's content, offset and width, as its name lies
  abbrev Holding : ℕ → ℕ → Content → Part
  Holding offset width c = record { offset = offset; width = width; content = c }

  stayed : (u : Spot) (j at width : ℕ) (c : Content) (h : PartLies m mem' u j at width c) → Stays_part mem l count s u j (Holding h.offset width c)
      → PartLies m mem u j at width c
  stayed u j at width c h r = record { base = h.base; offset = h.offset; known = h.known; there = h.there; has = r.was; lasts = h.lasts }

  earlier : (u : Spot) (j at width : ℕ) (c : Content) (h : PartLies m mem' u j at width c) (r : Renewed m mem l count s v u j (Holding h.offset width c))
      → PartLies m mem u j at width r.old.content
  earlier u j at width c h r = record {
    base = h.base;
    offset = h.offset;
    known = h.known;
    there = h.there;
    has = r.was ∙ (λ i. Some (Holding (sym r.same_offset i) (sym r.same_width i) r.old.content));
    lasts = h.lasts;
  }

  back : (x : Name) (at width : ℕ) (c : Content) → Lies m fs mem' x at width c → (c' : Content) × Lies m fs mem x at width c'
  back (Slot g k) at width c h = (c, h)
  back (Cell u j) at width c h = ⊎_elim
      (λ (r : Stays_part mem l count s u j (Holding h.offset width c)). (c, stayed u j at width c h r))
      (λ (r : Renewed m mem l count s v u j (Holding h.offset width c)). (r.old.content, earlier u j at width c h r))
      (cases u j (Holding h.offset width c) h.has)

  -- what is no part of these elements reads as before
  kept : (x : Name) → IsOther n m fs mem bytes st fits s b base known live l count full there x → (at width : ℕ) (c : Content) → Lies m fs mem x at width c
      → read b' at width ≡ read bytes at width
  kept x other at width c h = read_outside bytes b' (base + b) (count * l.bytes) v at width filled (fits.aligned x at width c h).0 (λ d less.
      ⊎_elim (λ (low : at + d < base + b). inl low)
      (λ (from : base + b ≤ at + d). ⊎_elim
      (λ (inside : at + d < base + b + count * l.bytes).
      let i = at + d - (base + b) in
      let is : base + (b + i) ≡ at + d = omega (arith, from) in
      absurd (⊎_elim (λ (before : base + (b + i) < at). omega (arith, is, before)) (λ (behind : at + width ≤ base + (b + i)). omega (arith, is, behind, less))
      (byte_apart n m fs mem bytes st fits s b base known live l count full there x other at width c h i (omega (arith, from, inside)))))
      (λ (high : base + b + count * l.bytes ≤ at + d). inr high)
      (cases_lt (at + d) (base + b + count * l.bytes)))
      (cases_lt (at + d) (base + b)))

  -- a part of them reads as what was written there
  renewed : (u : Spot) (j at width : ℕ) (c : Content) (h : PartLies m mem' u j at width c)
      (r : Renewed m mem l count s v u j (Holding h.offset width c)) → Shows m c (read b' at width)
  renewed u j at width c h r =
      let a = r.among in
      let o = offset_among l count s u j a in
      let shaped = elements_in mem s b l count there a.element a.cell j a.shape a.within a.has in
      let part : r.old ≡ shaped.part = same_Some r.old shaped.part (sym r.was ∙ ap (λ (t : Spot). mem.parts t j) a.there ∙ shaped.is) in
      let old_offset = ap (λ (p : Part). p.offset) part in
      let old_width = ap (λ (p : Part). p.width) part in
      let begins = shaped.offset in
      let wide = shaped.width in
      let same_offset = r.same_offset in
      let same_width = r.same_width in
      let base_is : h.base ≡ base = same_Some h.base base (sym h.known ∙ ap (λ (t : Spot). m.base t.region t.object) a.there ∙ known) in
      let at_is = h.there in
      let there_is : at ≡ base + b + o = omega (arith, at_is, base_is, same_offset, old_offset, begins) in
      let within = layout.within a.cell j a.shape (record { is = a.has }) in
      let all = mul-le-mul_right l.bytes a.within in
      let inside : o + width ≤ count * l.bytes = omega (arith, same_width, old_width, wide, within, all) in
      let is_wide : IsWidth width = (fits.aligned (Cell u j) at width r.old.content (earlier u j at width c h r)).0 in
      subst (λ q. Shows m c (read b' q width)) (sym there_is)
      (subst (λ x. Shows m c x) (sym (read_filled bytes b' (base + b) (count * l.bytes) v o width filled is_wide inside)) r.shows)

  shows : (x : Name) (at width : ℕ) (c : Content) → Lies m fs mem' x at width c → Shows m c (read b' at width)
  shows (Slot g k) at width c h = subst (λ q. Shows m c q) (sym (kept (Slot g k) tt at width c h)) (fits.shows (Slot g k) at width c h)
  shows (Cell u j) at width c h = ⊎_elim
      (λ (r : Stays_part mem l count s u j (Holding h.offset width c)).
      let lies = stayed u j at width c h r in
      subst (λ q. Shows m c q) (sym (kept (Cell u j) r.other at width c lies)) (fits.shows (Cell u j) at width c lies))
      (λ (r : Renewed m mem l count s v u j (Holding h.offset width c)). renewed u j at width c h r)
      (cases u j (Holding h.offset width c) h.has)

  pub refilled : Fits n m fs mem' b' st
  refilled = record {
    shows = shows;
    apart = λ x y at width at' width' c c' ne h h'.
        let p = back x at width c h in
        let q = back y at' width' c' h' in
        fits.apart x y at width at' width' p.0 q.0 ne p.1 q.1;
    ground = λ x at width c h. let p = back x at width c h in fits.ground x at width p.0 p.1;
    aligned = λ x at width c h. let p = back x at width c h in fits.aligned x at width p.0 p.1;
  }

  -- what is known of a memory doesn't speak of what parts hold
  pub still_known : Known m mem st → Known m mem' st
  still_known k = record {
    births = k.births;
    heap = k.heap;
    no_zero = k.no_zero;
    held = λ h x e. let held = k.held h x e in record { known = held.known; stands = held.stands };
    numbered = k.numbered;
    zero_is_heap = k.zero_is_heap;
    heap_is_zero = k.heap_is_zero;
    single = k.single;
    made = λ u j p e. ⊎_elim (λ (r : Stays_part mem l count s u j p). k.made u j p r.was)
        (λ (r : Renewed m mem l count s v u j p). k.made u j r.old r.was) (cases u j p e);
    near = λ u j p e. ⊎_elim (λ (r : Stays_part mem l count s u j p). k.near u j p r.was)
        (λ (r : Renewed m mem l count s v u j p). subst (λ q. q < too_far) (sym r.same_offset) (k.near u j r.old r.was)) (cases u j p e);
    low = k.low;
    unmade = k.unmade;
    unborn = k.unborn;
    unentered = k.unentered;
    uncalled = k.uncalled;
  }

-- ---- in an activation

module _ (w : World) (order : IsInOrder w) (x : Waiting) (outer : List Waiting) (mem : Memory) (s : Spot) (b : ℕ)
    (live : is_live (mem.standing s.region) ≡ true) (l : Layout) (count : ℕ) (layout : IsLayout l) (full : IsFull l)
    (there : are_elements mem s b l count ≡ true) where
  pub refilled_at : (place place' : ℕ) (q : Machine) (a : At w x outer mem place q) (base : ℕ) → a.maps.base s.region s.object ≡ Some base
      → (new b' v : ℕ → ℕ) (f : Spot → ℕ → Option Part)
      → ((u : Spot) (j : ℕ) (p : Part) → f u j ≡ Some p → Stays_part mem l count s u j p ⊎ Renewed a.maps mem l count s v u j p)
      → place' % 4 ≡ 0 → Stays new q.registers → IsKeptBelow w.code b' → ((r : ℕ) → b' r < 256) → Filled q.bytes b' (base + b) (count * l.bytes) v
      → At w x outer (record mem { parts = f }) place' (state_at place' new b' q.store)
  refilled_at place place' q a base known new b' v f cases aligned stay kept small filled =
      let fs = a.frame ∷ a.others in
      record {
        maps = a.maps;
        frame = a.frame;
        others = a.others;
        sp = a.sp;
        stands = record {
          runs = refl;
          there = refl;
          aligned = aligned;
          pointer = stay 2 refl ∙ a.stands.pointer;
          stack_start = stay 3 refl ∙ a.stands.stack_start;
          small = small;
          kept = kept;
          stacked = a.stands.stacked;
          fits = refilled w.areas a.maps fs mem q.bytes q.store a.stands.fits s b base known live l count layout full there b' v filled f cases;
          homes = homes_on a.maps (record mem { parts = f }) fs new q.registers (homes_of new q.registers stay)
              (homes_spared a.maps mem a.maps (record mem { parts = f }) fs q.registers (record {
                extends = extends_self a.maps;
                unbased = λ k o made none. none;
                made = λ k. omega arith;
                parts = λ k o made none p e. ⊎_elim (λ (r : Stays_part mem l count s (local_at k o) 0 p). r.was)
                    (λ (r : Renewed a.maps mem l count s v (local_at k o) 0 p).
                    absurd (none-some base (sym none ∙ ap (λ (u : Spot). a.maps.base u.region u.object) r.among.there ∙ known)))
                    (cases (local_at k o) 0 p e);
              }) a.stands.homes);
          known = still_known w.areas a.maps fs mem q.bytes q.store a.stands.fits s b base known live l count layout full there b' v filled f cases
              a.stands.known;
          holds_blocks = a.stands.holds_blocks;
          data_based = a.stands.data_based;
        };
        shows = a.shows;
        stack = a.stack;
      }
