-- A region gets an object: in bytes that nothing else has.
use Rattle.std.specs.Prelude.{nat_eq, ◌&&◌, if◌then◌else◌}
use Rattle.std.proofs.Common.{◌≡◌, ℕ, ◌+◌, ◌%◌, ◌^◌, ◌<◌, ◌≤◌, ◌⊎◌, inl, inr, ⊎_elim, Bool, true, false, List, Option, Some, None, refl, sym, ap, ◌∙◌, subst}
use Rattle.std.proofs.Common.{arith}
use Rattle.std.proofs.lemmas.Bool.{eqb-true, ne_eqb, eq-eqb, and_parts, and_right, and_left, and_from}
use Rattle.std.proofs.lemmas.Option.{same_Some, none-some}
use Rattle.core_meaning.specs.Memory.{Region, Frame, Own, Born, Single, Dead, Spot, Content, Blank, Part, Memory, same_region, same_spot, is_live, with_object}
use Rattle.core_meaning.specs.Layouts.{Apart}
use Rattle.core_meaning.specs.Operations.{too_far}
use Rattle.core_lines.specs.Machines.{Store}
use Rattle.rv32_machine.specs.State.{Areas}
use Rattle.core_lines.specs.Lies.{Maps, Extends, Shows, read, Activation, Name, Slot, Cell, same_name, PartLies, Lies, CellGround, Ground, Fits, Known, IsBlock}
use Rattle.core_lines.specs.Lies.{IsNumber, TagOf}
use Rattle.core_meaning.proofs.Spots.{region_same}
use Rattle.core_lines.proofs.memory.Fitting.{shows_on, IsWidth, width_some}

-- ---- maps

abbrev pub placed : Region → ℕ → ℕ → Maps → Maps
placed r o x m = record { base = λ q p. if same_region q r && nat_eq p o then Some x else m.base q p; number = m.number }

pub placed_extends : (m : Maps) (r : Region) (o x : ℕ) → m.base r o ≡ None → Extends m (placed r o x m)
placed_extends m r o x none = record {
  base = λ q p y h. by q p y h (same_region q r && nat_eq p o) refl;
  number = λ d h e. e;
}
  where
    by : (q : Region) (p y : ℕ) → m.base q p ≡ Some y → (c : Bool) → (same_region q r && nat_eq p o) ≡ c →
        (if same_region q r && nat_eq p o then Some x else m.base q p) ≡ Some y
    by q p y h true e =
        let both = and_parts (same_region q r) (nat_eq p o) e in
        let one = region_same q r both.0 in
        let two = eqb-true p o both.1 in
        absurd (none-some y (sym none ∙ ap (λ k. m.base r k) (sym two) ∙ ap (λ k. m.base k p) (sym one) ∙ h))
    by q p y h false e = ap (λ c. if c then Some x else m.base q p) e ∙ h

-- ---- objects

-- an object of so many bytes: blank parts, none of which meets another
pub record ObjectFits (o : ℕ → ℕ → Option Part) (bytes : ℕ) : Type 0 where
  pub blank : (c j : ℕ) (p : Part) → o c j ≡ Some p → p.content ≡ Blank
  pub within : (c j : ℕ) (p : Part) → o c j ≡ Some p → p.offset + p.width ≤ bytes
  pub wide : (c j : ℕ) (p : Part) → o c j ≡ Some p → IsWidth p.width × (p.offset % p.width ≡ 0)
  pub apart : (c j c' j' : ℕ) (p p' : Part) → (nat_eq c c' && nat_eq j j') ≡ false → o c j ≡ Some p → o c' j' ≡ Some p'
      → Apart p.offset p.width p'.offset p'.width

pub aligned_at : (x offset width : ℕ) → x % 4 ≡ 0 → IsWidth width → offset % width ≡ 0 → (x + offset) % width ≡ 0
aligned_at x offset width even (inl e) ok = subst (λ k. (x + offset) % k ≡ 0) (sym e) (omega arith)
aligned_at x offset width even (inr e) ok =
    let four : offset % 4 ≡ 0 = subst (λ k. offset % k ≡ 0) e ok in subst (λ k. (x + offset) % k ≡ 0) (sym e) (omega (arith, even, four))

module _ (n : Areas) (m : Maps) (fs : List Activation) (mem : Memory) (b : ℕ → ℕ) (st st' : Store) (r : Region) (o : ℕ → ℕ → Option Part) (bytes x : ℕ)
    (f : Fits n m fs mem b st) (fresh : m.base r (mem.objects r) ≡ None) (fits : ObjectFits o bytes) (even : x % 4 ≡ 0)
    (away : (y : Name) (at width : ℕ) (v : Content) → Lies m fs mem y at width v → (at + width ≤ x) ⊎ (x + bytes ≤ at))
    (ground_new : (at width : ℕ) → x ≤ at → at + width ≤ x + bytes → CellGround n fs st' r at width)
    (ground_on : (y : Name) (at width : ℕ) → Ground n fs st y at width → Ground n fs st' y at width) where
  abbrev mem' : Memory
  mem' = with_object mem r o

  abbrev m' : Maps
  m' = placed r (mem.objects r) x m

  pub ext : Extends m m'
  ext = placed_extends m r (mem.objects r) x fresh

  record NewPart (s : Spot) (j at width : ℕ) (v : Content) : Type 0 where
    pub region : same_region s.region r ≡ true
    pub object : nat_eq s.object (mem.objects r) ≡ true
    pub offset : ℕ
    pub has : o s.cell j ≡ Some (record { offset = offset; width = width; content = v })
    pub there : at ≡ x + offset

  abbrev IsNew : Name → ℕ → ℕ → Content → Type 0
  IsNew (Slot g k) at width v = ⊥
  IsNew (Cell s j) at width v = NewPart s j at width v

  split_part : (s : Spot) (j at width : ℕ) (v : Content) → PartLies m' mem' s j at width v → NewPart s j at width v ⊎ PartLies m mem s j at width v
  split_part s j at width v h = by (same_region s.region r && nat_eq s.object (mem.objects r)) refl
    where
      by : (c : Bool) → (same_region s.region r && nat_eq s.object (mem.objects r)) ≡ c → NewPart s j at width v ⊎ PartLies m mem s j at width v
      by true e =
          let both = and_parts (same_region s.region r) (nat_eq s.object (mem.objects r)) e in
          let base : Some x ≡ Some h.base = ap (λ c. if c then Some x else m.base s.region s.object) (sym e) ∙ h.known in
          let is = same_Some x h.base base in
          inl (record {
            region = both.0;
            object = both.1;
            offset = h.offset;
            has = ap (λ c. if c then o s.cell j else mem.parts s j) (sym e) ∙ h.has;
            there = h.there ∙ ap (λ k. k + h.offset) (sym is);
          })
      by false e = inr (record {
        base = h.base;
        offset = h.offset;
        known = ap (λ c. if c then Some x else m.base s.region s.object) (sym e) ∙ h.known;
        there = h.there;
        has = ap (λ c. if c then o s.cell j else mem.parts s j) (sym e) ∙ h.has;
        lasts = h.lasts;
      })

  split : (y : Name) (at width : ℕ) (v : Content) → Lies m' fs mem' y at width v → IsNew y at width v ⊎ Lies m fs mem y at width v
  split (Slot g k) at width v h = inr h
  split (Cell s j) at width v h = split_part s j at width v h

  new_within : (y : Name) (at width : ℕ) (v : Content) → IsNew y at width v → (x ≤ at) × (at + width ≤ x + bytes)
  new_within (Slot g k) at width v i = absurd i
  new_within (Cell s j) at width v i =
      let w = fits.within s.cell j (record { offset = i.offset; width = width; content = v }) i.has in
      let e = i.there in
      (omega (arith, e), omega (arith, e, w))

  new_shows : (y : Name) (at width : ℕ) (v : Content) (q : ℕ) → IsNew y at width v → Shows m' v q
  new_shows (Slot g k) at width v q i = absurd i
  new_shows (Cell s j) at width v q i = subst (λ u. Shows m' u q) (sym (fits.blank s.cell j
      (record { offset = i.offset; width = width; content = v }) i.has)) tt

  new_aligned : (y : Name) (at width : ℕ) (v : Content) → IsNew y at width v → IsWidth width × (at % width ≡ 0)
  new_aligned (Slot g k) at width v i = absurd i
  new_aligned (Cell s j) at width v i =
      let w = fits.wide s.cell j (record { offset = i.offset; width = width; content = v }) i.has in
      (w.0, subst (λ q. q % width ≡ 0) (sym i.there) (aligned_at x i.offset width even w.0 w.1))

  new_ground : (y : Name) (at width : ℕ) (v : Content) → IsNew y at width v → Ground n fs st' y at width
  new_ground (Slot g k) at width v i = absurd i
  new_ground (Cell s j) at width v i =
      let z = new_within (Cell s j) at width v i in subst (λ q. CellGround n fs st' q at width) (sym (region_same s.region r i.region))
      (ground_new at width z.0 z.1)

  new_apart : (y z : Name) (at width at' width' : ℕ) (v v' : Content) → same_name y z ≡ false → IsNew y at width v → IsNew z at' width' v'
      → Apart at width at' width'
  new_apart (Slot g k) z at width at' width' v v' ne i j = absurd i
  new_apart (Cell s c) (Slot g k) at width at' width' v v' ne i j = absurd j
  new_apart (Cell s c) (Cell t d) at width at' width' v v' ne i j =
      let regions : same_region s.region t.region ≡ true =
      subst (λ q. same_region s.region q ≡ true) (sym (region_same t.region r j.region)) i.region in
      let objects : nat_eq s.object t.object ≡ true =
      eq-eqb s.object t.object (eqb-true s.object (mem.objects r) i.object ∙ sym (eqb-true t.object (mem.objects r) j.object)) in
      let other : (nat_eq s.cell t.cell && nat_eq c d) ≡ false = parts_differ regions objects in
      let p = fits.apart s.cell c t.cell d (record { offset = i.offset; width = width; content = v })
      (record { offset = j.offset; width = width'; content = v' }) other i.has j.has in
      let e = i.there in
      let e' = j.there in
      ⊎_elim (λ h. inl (omega (arith, h, e, e'))) (λ h. inr (omega (arith, h, e, e'))) p
    where
      parts_differ : same_region s.region t.region ≡ true → nat_eq s.object t.object ≡ true → (nat_eq s.cell t.cell && nat_eq c d) ≡ false
      parts_differ regions objects = by (nat_eq s.cell t.cell) (nat_eq c d) refl refl
        where
          by : (p q : Bool) → nat_eq s.cell t.cell ≡ p → nat_eq c d ≡ q → (nat_eq s.cell t.cell && nat_eq c d) ≡ false
          by true true e e' =
              absurd (cc (
                ne,
                and_from (same_spot s t) (nat_eq c d) (and_from (same_region s.region t.region) (nat_eq s.object t.object && nat_eq s.cell t.cell) regions
                    (and_from (nat_eq s.object t.object) (nat_eq s.cell t.cell) objects e)) e',
              ))
          by true false e e' = and_right (nat_eq s.cell t.cell) (nat_eq c d) e'
          by false q e e' = and_left (nat_eq s.cell t.cell) (nat_eq c d) e

  pub grow_fits : Fits n m' fs mem' b st'
  grow_fits = record {
    shows = λ y at width v h. ⊎_elim
        (λ (i : IsNew y at width v). new_shows y at width v (read b at width) i)
        (λ (i : Lies m fs mem y at width v). shows_on m m' v (read b at width) ext (f.shows y at width v i))
        (split y at width v h);
    apart = λ y z at width at' width' v v' ne h h'. ⊎_elim
        (λ (i : IsNew y at width v). ⊎_elim
        (λ (j : IsNew z at' width' v'). new_apart y z at width at' width' v v' ne i j)
        (λ (j : Lies m fs mem z at' width' v').
        let q = new_within y at width v i in
        let lo = q.0 in
        let hi = q.1 in
        ⊎_elim (λ e. inr (omega (arith, e, lo))) (λ e. inl (omega (arith, e, hi))) (away z at' width' v' j))
        (split z at' width' v' h'))
        (λ (i : Lies m fs mem y at width v). ⊎_elim
        (λ (j : IsNew z at' width' v').
        let q = new_within z at' width' v' j in
        let lo = q.0 in
        let hi = q.1 in
        ⊎_elim (λ e. inl (omega (arith, e, lo))) (λ e. inr (omega (arith, e, hi))) (away y at width v i))
        (λ (j : Lies m fs mem z at' width' v'). f.apart y z at width at' width' v v' ne i j)
        (split z at' width' v' h'))
        (split y at width v h);
    ground = λ y at width v h. ⊎_elim
        (λ (i : IsNew y at width v). new_ground y at width v i)
        (λ (i : Lies m fs mem y at width v). ground_on y at width (f.ground y at width v i))
        (split y at width v h);
    aligned = λ y at width v h. ⊎_elim
        (λ (i : IsNew y at width v). new_aligned y at width v i)
        (λ (i : Lies m fs mem y at width v). f.aligned y at width v i)
        (split y at width v h);
  }

  -- and what is known grows with it, whatever the store now holds of blocks
  pub grow_known : (was : Store) → x < 2 ^ 31 → bytes ≤ too_far → is_live (mem.standing r) ≡ true → st'.ledger.births ≡ was.ledger.births
      → st'.ledger.birth_of ≡ was.ledger.birth_of → st'.holdings.standing ≡ was.holdings.standing → ((d at : ℕ) → IsBlock was d at → IsBlock st' d at)
      → ((d : ℕ) → r ≡ Born d → mem.standing (Born d) ≡ Single → IsBlock st' d x) → Known m mem was → Known m' mem' st'
  grow_known was below few live births birth_of standing blocks_on its_block k = record {
    births = ap (λ c. c + 1) births ∙ k.births;
    heap = k.heap;
    no_zero = ap (λ hs. hs 0) standing ∙ k.no_zero;
    held = λ h y e. let held = k.held h y (ap (λ hs. hs h) (sym standing) ∙ e) in record {
      known = ap (λ g. m.number (g h)) birth_of ∙ held.known;
      stands = subst (λ d. TagOf y (mem.standing (Born d))) (sym (ap (λ g. g h) birth_of)) held.stands;
    };
    numbered = λ d h e alive. ⊎_elim (λ z. inl z)
        (λ (i : IsNumber was d h). inr (record { tag = i.tag; held = ap (λ hs. hs h) standing ∙ i.held; birth = ap (λ g. g h) birth_of ∙ i.birth }))
        (k.numbered d h e alive);
    zero_is_heap = k.zero_is_heap;
    heap_is_zero = ap (λ g. g 0) birth_of ∙ k.heap_is_zero;
    single = λ d c y is e. single d c y is e (same_region (Born d) r && nat_eq c (mem.objects r)) refl;
    made = λ s j p e. made s j p e (same_region s.region r) (nat_eq s.object (mem.objects r)) refl refl;
    near = λ s j p e. near s j p e (same_region s.region r && nat_eq s.object (mem.objects r)) refl;
    low = λ q c y e. low q c y e (same_region q r && nat_eq c (mem.objects r)) refl;
    unmade = λ q c le. unmade q c le (same_region q r) refl;
    unborn = λ d le. let u = k.unborn d le in (u.0, other_count (Born d) u.0 ∙ u.1, u.2);
    unentered = λ q le. let u = k.unentered q le in (u.0, other_count (Frame q) u.0 ∙ u.1);
    uncalled = λ q le. let u = k.uncalled q le in (u.0, other_count (Own q) u.0 ∙ u.1);
  }
    where
      made : (s : Spot) (j : ℕ) (p : Part) → mem'.parts s j ≡ Some p → (c d : Bool) → same_region s.region r ≡ c → nat_eq s.object (mem.objects r) ≡ d
          → s.object < mem'.objects s.region
      made s j p e true true is same =
          let count : mem'.objects s.region ≡ mem.objects r + 1 = ap (λ t. if t then mem.objects r + 1 else mem.objects s.region) is in
          let here = eqb-true s.object (mem.objects r) same in
          omega (arith, count, here)
      made s j p e true false is same =
          let count : mem'.objects s.region ≡ mem.objects r + 1 = ap (λ t. if t then mem.objects r + 1 else mem.objects s.region) is in
          let there : mem.objects s.region ≡ mem.objects r = ap (λ t. mem.objects t) (region_same s.region r is) in
          let old = k.made s j p (ap (λ c. if c then o s.cell j else mem.parts s j)
          (sym (and_right (same_region s.region r) (nat_eq s.object (mem.objects r)) same)) ∙ e) in
          omega (arith, count, there, old)
      made s j p e false d is same =
          let count : mem'.objects s.region ≡ mem.objects s.region = ap (λ t. if t then mem.objects r + 1 else mem.objects s.region) is in
          let old = k.made s j p (ap (λ c. if c then o s.cell j else mem.parts s j)
          (sym (and_left (same_region s.region r) (nat_eq s.object (mem.objects r)) is)) ∙ e) in
          omega (arith, count, old)

      near : (s : Spot) (j : ℕ) (p : Part) → mem'.parts s j ≡ Some p → (c : Bool) → (same_region s.region r && nat_eq s.object (mem.objects r)) ≡ c
          → p.offset < too_far
      near s j p e true is =
          let its : o s.cell j ≡ Some p = ap (λ c. if c then o s.cell j else mem.parts s j) (sym is) ∙ e in
          let within = fits.within s.cell j p its in
          let wide = width_some p.width (fits.wide s.cell j p its).0 in
          omega (arith, within, wide, few)
      near s j p e false is = k.near s j p (ap (λ c. if c then o s.cell j else mem.parts s j) (sym is) ∙ e)

      low : (q : Region) (c y : ℕ) → m'.base q c ≡ Some y → (t : Bool) → (same_region q r && nat_eq c (mem.objects r)) ≡ t → y < 2 ^ 31
      low q c y e true is =
          subst (λ z. z < 2 ^ 31) (same_Some x y (ap (λ t. if t then Some x else m.base q c) (sym is) ∙ e)) below
      low q c y e false is = k.low q c y (ap (λ t. if t then Some x else m.base q c) (sym is) ∙ e)

      single : (d c y : ℕ) → mem.standing (Born d) ≡ Single → m'.base (Born d) c ≡ Some y → (t : Bool)
          → (same_region (Born d) r && nat_eq c (mem.objects r)) ≡ t → IsBlock st' d y
      single d c y is e true same =
          subst (λ z. IsBlock st' d z) (same_Some x y (ap (λ t. if t then Some x else m.base (Born d) c) (sym same) ∙ e))
          (its_block d (sym (region_same (Born d) r (and_parts (same_region (Born d) r) (nat_eq c (mem.objects r)) same).0)) is)
      single d c y is e false other =
          blocks_on d y (k.single d c y is (ap (λ t. if t then Some x else m.base (Born d) c) (sym other) ∙ e))

      other_base : (q : Region) (c : ℕ) → (same_region q r && nat_eq c (mem.objects r)) ≡ false → m'.base q c ≡ m.base q c
      other_base q c e = ap (λ t. if t then Some x else m.base q c) e

      unmade : (q : Region) (c : ℕ) → mem'.objects q ≤ c → (t : Bool) → same_region q r ≡ t → m'.base q c ≡ None
      unmade q c le true e =
          let same = region_same q r e in
          let count : mem'.objects q ≡ mem.objects r + 1 = ap (λ t. if t then mem.objects r + 1 else mem.objects q) e in
          let there : mem.objects q ≡ mem.objects r = ap (λ t. mem.objects t) same in
          other_base q c (and_right (same_region q r) (nat_eq c (mem.objects r)) (ne_eqb c (mem.objects r) (λ z. omega (arith, z, le, count))))
          ∙ k.unmade q c (omega (arith, le, count, there))
      unmade q c le false e =
          let count : mem'.objects q ≡ mem.objects q = ap (λ t. if t then mem.objects r + 1 else mem.objects q) e in
          other_base q c (and_left (same_region q r) (nat_eq c (mem.objects r)) e) ∙ k.unmade q c (omega (arith, le, count))

      -- a region that isn't live is not the one that grows
      other_count : (q : Region) → mem.standing q ≡ Dead → mem'.objects q ≡ mem.objects q
      other_count q dead = by (same_region q r) refl
        where
          by : (t : Bool) → same_region q r ≡ t → (if same_region q r then mem.objects r + 1 else mem.objects q) ≡ mem.objects q
          by true e = absurd (cc (live, ap is_live (sym (ap (λ t. mem.standing t) (region_same q r e)) ∙ dead)))
          by false e = ap (λ t. if t then mem.objects r + 1 else mem.objects q) e
