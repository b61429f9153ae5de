-- A region of a frame gets an object that has no address: a local that is in a register.
use Rattle.std.specs.Prelude.{nat_eq, ◌&&◌, if◌then◌else◌}
use Rattle.std.proofs.Common.{◌≡◌, ℕ, ◌+◌, ◌<◌, ◌≤◌, Bool, true, false, List, Option, Some, refl, sym, ap, ◌∙◌, arith}
use Rattle.std.proofs.lemmas.Bool.{eqb-true, and_parts, and_right, and_left}
use Rattle.std.proofs.lemmas.Option.{none-some}
use Rattle.core_meaning.specs.Memory.{Region, Frame, Dead, Spot, Content, Part, Memory, same_region, is_live, with_object}
use Rattle.core_meaning.specs.Operations.{too_far}
use Rattle.core_lines.specs.Machines.{Store}
use Rattle.rv32_machine.specs.State.{Areas}
use Rattle.core_lines.specs.Lies.{Maps, Activation, Name, Slot, Cell, PartLies, Lies, Fits, Known}
use Rattle.core_meaning.proofs.Spots.{region_same}

-- ---- a region of a frame gets an object that has no address: a local that is in a register

module _ (n : Areas) (m : Maps) (fs : List Activation) (mem : Memory) (b : ℕ → ℕ) (st : Store) (k : ℕ) (o : ℕ → ℕ → Option Part) (known : Known m mem st)
    (live : is_live (mem.standing (Frame k)) ≡ true) (near : (c j : ℕ) (p : Part) → o c j ≡ Some p → p.offset < too_far) where
  abbrev bare : Memory
  bare = with_object mem (Frame k) o

  bare_back : (y : Name) (at width : ℕ) (v : Content) → Lies m fs bare y at width v → Lies m fs mem y at width v
  bare_back (Slot g j) at width v h = h
  bare_back (Cell s j) at width v h = by (same_region s.region (Frame k) && nat_eq s.object (mem.objects (Frame k))) refl
    where
      by : (c : Bool) → (same_region s.region (Frame k) && nat_eq s.object (mem.objects (Frame k))) ≡ c → PartLies m mem s j at width v
      by true e =
          let both = and_parts (same_region s.region (Frame k)) (nat_eq s.object (mem.objects (Frame k))) e in
          let one = region_same s.region (Frame k) both.0 in
          let two = eqb-true s.object (mem.objects (Frame k)) both.1 in
          absurd (none-some h.base (sym (known.unmade (Frame k) (mem.objects (Frame k)) (omega arith))
          ∙ ap (λ q. m.base (Frame k) q) (sym two) ∙ ap (λ q. m.base q s.object) (sym one) ∙ h.known))
      by false e = record {
        base = h.base;
        offset = h.offset;
        known = h.known;
        there = h.there;
        has = ap (λ c. if c then o s.cell j else mem.parts s j) (sym e) ∙ h.has;
        lasts = h.lasts;
      }

  pub bare_fits : Fits n m fs mem b st → Fits n m fs bare b st
  bare_fits f = record {
    shows = λ x at width v h. f.shows x at width v (bare_back x at width v h);
    apart = λ x y at width at' width' v v' ne h h'. f.apart x y at width at' width' v v' ne (bare_back x at width v h) (bare_back y at' width' v' h');
    ground = λ x at width v h. f.ground x at width v (bare_back x at width v h);
    aligned = λ x at width v h. f.aligned x at width v (bare_back x at width v h);
  }

  more_here : (q : Region) → mem.objects q ≤ bare.objects q
  more_here q = by (same_region q (Frame k)) refl
    where
      by : (c : Bool) → same_region q (Frame k) ≡ c → mem.objects q ≤ (if c then mem.objects (Frame k) + 1 else mem.objects q)
      by true e = let same : mem.objects q ≡ mem.objects (Frame k) = ap (λ t. mem.objects t) (region_same q (Frame k) e) in omega (arith, same)
      by false e = omega arith

  pub bare_known : Known m bare st
  bare_known = record {
    births = known.births;
    heap = known.heap;
    no_zero = known.no_zero;
    held = λ h y e. let held = known.held h y e in record { known = held.known; stands = held.stands };
    numbered = known.numbered;
    zero_is_heap = known.zero_is_heap;
    heap_is_zero = known.heap_is_zero;
    single = known.single;
    made = λ s j p e. made s j p e (same_region s.region (Frame k)) (nat_eq s.object (mem.objects (Frame k))) refl refl;
    near = λ s j p e. nearby s j p e (same_region s.region (Frame k) && nat_eq s.object (mem.objects (Frame k))) refl;
    low = known.low;
    unmade = λ q c le. let more = more_here q in known.unmade q c (omega (arith, more, le));
    unborn = λ d le. let u = known.unborn d le in (u.0, u.1, u.2);
    unentered = λ q le. let u = known.unentered q le in (u.0, other_count (Frame q) u.0 ∙ u.1);
    uncalled = λ q le. let u = known.uncalled q le in (u.0, u.1);
  }
    where
      made : (s : Spot) (j : ℕ) (p : Part) → bare.parts s j ≡ Some p → (c d : Bool) → same_region s.region (Frame k) ≡ c
          → nat_eq s.object (mem.objects (Frame k)) ≡ d → s.object < bare.objects s.region
      made s j p e true true is same =
          let count : bare.objects s.region ≡ mem.objects (Frame k) + 1 = ap (λ t. if t then mem.objects (Frame k) + 1 else mem.objects s.region) is in
          let here = eqb-true s.object (mem.objects (Frame k)) same in
          omega (arith, count, here)
      made s j p e true false is same =
          let more = more_here s.region in
          let old = known.made s j p (ap (λ c. if c then o s.cell j else mem.parts s j)
          (sym (and_right (same_region s.region (Frame k)) (nat_eq s.object (mem.objects (Frame k))) same)) ∙ e) in
          omega (arith, more, old)
      made s j p e false d is same =
          let more = more_here s.region in
          let old = known.made s j p (ap (λ c. if c then o s.cell j else mem.parts s j)
          (sym (and_left (same_region s.region (Frame k)) (nat_eq s.object (mem.objects (Frame k))) is)) ∙ e) in
          omega (arith, more, old)

      nearby : (s : Spot) (j : ℕ) (p : Part) → bare.parts s j ≡ Some p → (c : Bool)
          → (same_region s.region (Frame k) && nat_eq s.object (mem.objects (Frame k))) ≡ c → p.offset < too_far
      nearby s j p e true is = near s.cell j p (ap (λ c. if c then o s.cell j else mem.parts s j) (sym is) ∙ e)
      nearby s j p e false is = known.near s j p (ap (λ c. if c then o s.cell j else mem.parts s j) (sym is) ∙ e)

      other_count : (q : Region) → mem.standing q ≡ Dead → bare.objects q ≡ mem.objects q
      other_count q dead = by (same_region q (Frame k)) refl
        where
          by : (t : Bool) → same_region q (Frame k) ≡ t → (if same_region q (Frame k) then mem.objects (Frame k) + 1 else mem.objects q) ≡ mem.objects q
          by true e = absurd (cc (live, ap is_live (sym (ap (λ t. mem.standing t) (region_same q (Frame k) e)) ∙ dead)))
          by false e = ap (λ t. if t then mem.objects (Frame k) + 1 else mem.objects q) e
