-- A function's temporary objects get their bytes, in order, behind the slots of a frame that is in no block yet.
use Rattle.std.specs.Prelude.{nat_eq, slice_get, if◌then◌else◌}
use Rattle.std.proofs.Common.{
  ◌≡◌,
  ℕ,
  zero,
  suc,
  ◌+◌,
  ◌*◌,
  ◌%◌,
  ◌^◌,
  ◌<◌,
  ◌≤◌,
  ◌⊎◌,
  inl,
  inr,
  ⊎_elim,
  true,
  List,
  [],
  ◌∷◌,
  Option,
  Some,
  None,
  refl,
  sym,
  ap,
  ◌∙◌,
  subst,
  arith,
}
use Rattle.std.proofs.lemmas.Bool.{eq-eqb, and_from}
use Rattle.std.proofs.lemmas.Option.{same_Some, none-some}
use Rattle.rv32_machine.specs.Arrays.{longest_stack}
use Rattle.rv32_machine.specs.State.{Areas}
use Rattle.core_meaning.specs.Memory.{Region, Frame, Own, Born, Content, Part, Memory, is_live, blanks, with_object}
use Rattle.core_meaning.specs.Core.{Local}
use Rattle.core_meaning.specs.Meaning.{with_objects}
use Rattle.core_meaning.specs.Operations.{too_far}
use Rattle.core_lines.specs.Machines.{Store}
use Rattle.core_lines.specs.Lies.{Maps, Extends, Activation, Name, Slot, Cell, Lies, Among, InFrame, InOwn, CellGround, Fits, Known, Zoned, Laid, Stacked}
use Rattle.core_lines.proofs.homes.Homes.{Spares, spares_standing, spares_then}
use Rattle.core_lines.proofs.memory.Sparing.{object_spares}
use Rattle.core_lines.proofs.memory.Fitting.{inside, below_end, extends_self, extends_on}
use Rattle.core_lines.proofs.memory.Growing.{placed, placed_extends, ObjectFits, grow_fits, grow_known}
use Rattle.core_lines.proofs.memory.Reframing.{reframed, counterpart, reframed_fits}
use Rattle.core_lines.proofs.memory.Laying.{LaidOut, laid_high, slots_above}

-- one of them
module _ (n : Areas) (few : n.statics ≤ 2 ^ 20) (short : n.stack ≤ longest_stack)
    (m : Maps) (a : Activation) (fs : List Activation) (none : a.zones ≡ []) (k : ℕ) (is : a.own ≡ k)
    (mem : Memory) (b : ℕ → ℕ) (st : Store) (sp : ℕ) (stacked : Stacked n sp (a ∷ fs)) (f : Fits n m (a ∷ fs) mem b st) (known : Known m mem st)
    (o : ℕ → ℕ → Option Part) (bytes offset : ℕ) (fits : ObjectFits o bytes) (even : offset % 4 ≡ 0) (behind : a.own_high ≤ offset)
    (room : offset + bytes ≤ a.bytes) (live : is_live (mem.standing (Own k)) ≡ true) where
  abbrev pub after : Activation
  after = reframed n m a fs a.zones (offset + bytes)

  -- ---- there is more room

  parts_ground_on : (r : Region) (at width : ℕ) → CellGround n (a ∷ fs) st r at width → CellGround n (after ∷ fs) st r at width
  parts_ground_on (Born d) at width g = g
  parts_ground_on (Own q) at width g =
      let c = counterpart n m a fs a.zones (offset + bytes) g.frame at width g.inside in
      ⊎_elim
      (λ (e : (g.frame ≡ a) × (c.frame ≡ after)). subst (λ (fr : Activation). InFrame (after ∷ fs) fr at width → InOwn (after ∷ fs) q at width) (sym e.1)
      (λ i. record {
        frame = after;
        inside = i;
        holds = ap (λ (x : Activation). x.own) (sym e.0) ∙ g.holds;
        low = subst (λ (x : Activation). x.at + 4 * x.size ≤ at) e.0 g.low;
        high = (let h = subst (λ (x : Activation). at + width ≤ x.at + x.own_high) e.0 g.high in omega (arith, h, behind));
      }) c.inside)
      (λ (e : g.frame ≡ c.frame). record {
        frame = g.frame;
        inside = subst (λ (fr : Activation). InFrame (after ∷ fs) fr at width) (sym e) c.inside;
        holds = g.holds;
        low = g.low;
        high = g.high;
      })
      c.is
  parts_ground_on (Frame q) at width g =
      let c = counterpart n m a fs a.zones (offset + bytes) g.frame at width g.inside in
      ⊎_elim
      (λ (e : (g.frame ≡ a) × (c.frame ≡ after)).
      absurd (subst (λ zs. Among g.zone zs) (ap (λ (x : Activation). x.zones) e.0 ∙ none) g.among))
      (λ (e : g.frame ≡ c.frame). record {
        frame = g.frame;
        inside = subst (λ (fr : Activation). InFrame (after ∷ fs) fr at width) (sym e) c.inside;
        zone = g.zone;
        among = g.among;
        holds = g.holds;
        low = g.low;
        high = g.high;
      })
      c.is

  raised_fits : Fits n m (after ∷ fs) mem b st
  raised_fits = reframed_fits n m a fs a.zones (offset + bytes) mem mem b st f (λ s j at width v h. h)
      (λ s j at width v h. parts_ground_on s.region at width (f.ground (Cell s j) at width v h))

  -- ---- what was there is apart from the new object

  laid : Laid sp a
  laid = stacked.0

  frame_away : (fr : Activation) (at width : ℕ) → InFrame (a ∷ fs) fr at width → (fr ≡ a → at + width ≤ a.at + offset)
      → (at + width ≤ a.at + offset) ⊎ (a.at + offset + bytes ≤ at)
  frame_away fr at width i mine = ⊎_elim
      (λ (e : fr ≡ a). inl (mine e))
      (λ (among : Among fr fs). let h = (inside n (a.at + a.bytes) fs fr stacked.1 among).above in let low = i.low in inr (omega (arith, h, low, room)))
      i.among

  region_away : (r : Region) (at width : ℕ) → CellGround n (a ∷ fs) st r at width → (at + width ≤ a.at + offset) ⊎ (a.at + offset + bytes ≤ at)
  region_away (Frame q) at width g = frame_away g.frame at width g.inside (λ e.
      absurd (subst (λ zs. Among g.zone zs) (ap (λ (x : Activation). x.zones) e ∙ none) g.among))
  region_away (Own q) at width g = frame_away g.frame at width g.inside (λ e.
      let high : at + width ≤ a.at + a.own_high = subst (λ (x : Activation). at + width ≤ x.at + x.own_high) e g.high in
      omega (arith, high, behind))
  region_away (Born d) at width (inl g) = let hi = g.high in let lo = laid.low in let e = laid.there in inl (omega (arith, hi, lo, e, few))
  region_away (Born d) at width (inr g) =
      let lo = g.bottom in
      let end = below_end n (a.at + a.bytes) fs stacked.1 in
      inr (omega (arith, lo, end, room, short))

  away : (y : Name) (at width : ℕ) (v : Content) → Lies m (after ∷ fs) mem y at width v → (at + width ≤ a.at + offset) ⊎ (a.at + offset + bytes ≤ at)
  away (Slot zero j) at width v h =
      let w = h.within in let e = h.there in let four = h.wide in let own = laid.own_room in inl (omega (arith, w, e, four, own, behind))
  away (Slot (suc g) j) at width v h = let q = slots_above n (a.at + a.bytes) fs g j at width v stacked.1 h in inr (omega (arith, q, room))
  away (Cell s j) at width v h = region_away s.region at width (f.ground (Cell s j) at width v h)

  fresh : m.base (Own k) (mem.objects (Own k)) ≡ None
  fresh = known.unmade (Own k) (mem.objects (Own k)) (omega arith)

  abbrev pub maps : Maps
  maps = placed (Own k) (mem.objects (Own k)) (a.at + offset) m

  at_low : a.at + offset < 2 ^ 31
  at_low = let end = below_end n (a.at + a.bytes) fs stacked.1 in omega (arith, end, room, short)

  bytes_few : bytes ≤ too_far
  bytes_few = let end = below_end n (a.at + a.bytes) fs stacked.1 in omega (arith, end, room, short)

  at_even : (a.at + offset) % 4 ≡ 0
  at_even = let e = laid.even in let e' = laid.there in omega (arith, e, e', even)

  new_ground : (at width : ℕ) → a.at + offset ≤ at → at + width ≤ a.at + offset + bytes → CellGround n (after ∷ fs) st (Own k) at width
  new_ground at width lo hi =
      let own = laid.own_room in
      record {
        frame = after;
        inside = record { among = inl refl; low = omega (arith, lo); high = omega (arith, hi, room) };
        holds = is;
        low = omega (arith, lo, own, behind);
        high = omega (arith, hi);
      }

  pub owned_fits : Fits n maps (after ∷ fs) (with_object mem (Own k) o) b st
  owned_fits = grow_fits n m (after ∷ fs) mem b st st (Own k) o bytes (a.at + offset) raised_fits fresh fits at_even away new_ground (λ y at width g. g)

  pub owned_known : Known maps (with_object mem (Own k) o) st
  owned_known = grow_known n m (after ∷ fs) mem b st st (Own k) o bytes (a.at + offset) raised_fits fresh fits at_even away new_ground (λ y at width g. g)
      st at_low bytes_few live refl refl refl (λ d at i. i) (λ d e. absurd (cc e)) known

  pub owned_stacked : Stacked n sp (after ∷ fs)
  owned_stacked = (
    record {
      there = laid.there;
      even = laid.even;
      low = laid.low;
      room = laid.room;
      own_room = (let own = laid.own_room in omega (arith, own, behind));
      zoned = subst (λ zs. Zoned (offset + bytes) a.bytes zs) (sym none) room;
    },
    stacked.1,
  )

  pub owned_extends : Extends m maps
  owned_extends = placed_extends m (Own k) (mem.objects (Own k)) (a.at + offset) fresh

-- ---- all of them

-- what stands, with the temporary objects
pub record IsOwned (n : Areas) (m : Maps) (before : Memory) (a : Activation) (fs : List Activation) (mem : Memory) (b : ℕ → ℕ) (st : Store)
    (sp k high : ℕ) (os : List ℕ) (count : ℕ) : Type 0 where
  pub maps : Maps
  pub extends : Extends m maps
  pub end : ℕ
  pub ends : end ≡ high
  pub fits : Fits n maps (record a { own_high = end } ∷ fs) mem b st
  pub known : Known maps mem st
  pub stacked : Stacked n sp (record a { own_high = end } ∷ fs)
  pub based : (o x : ℕ) → slice_get os o ≡ Some x → maps.base (Own k) (count + o) ≡ Some (a.at + x)
  pub spares : Spares m before maps mem

module _ (n : Areas) (few : n.statics ≤ 2 ^ 20) (short : n.stack ≤ longest_stack)
    (a : Activation) (fs : List Activation) (none : a.zones ≡ []) (b : ℕ → ℕ) (st : Store) (sp k high : ℕ)
    (is : a.own ≡ k) (room : high ≤ a.bytes) where
  abbrev with_high : ℕ → Activation
  with_high end = record a { own_high = end }

  pub owns : (ls : List Local) (os : List ℕ) (start count : ℕ) (m : Maps) (mem : Memory) → LaidOut ls os start high → mem.objects (Own k) ≡ count
      → is_live (mem.standing (Own k)) ≡ true → Stacked n sp (with_high start ∷ fs) → Fits n m (with_high start ∷ fs) mem b st → Known m mem st
      → IsOwned n m mem a fs (with_objects (Own k) ls mem) b st sp k high os count
  owns [] [] start count m mem laid counts live stacked f known = record {
    maps = m;
    extends = extends_self m;
    end = start;
    ends = laid;
    fits = f;
    known = known;
    stacked = stacked;
    based = λ o x e. absurd (none-some x e);
    spares = spares_standing m mem mem refl refl;
  }
  owns [] (o ∷ os) start count m mem laid counts live stacked f known = absurd laid
  owns (l ∷ ls) [] start count m mem laid counts live stacked f known = absurd laid
  owns (l ∷ ls) (o ∷ os) start count m mem laid counts live stacked f known =
      let bytes = l.count * l.layout.bytes in
      let object = blanks l.layout l.count in
      let mem1 = with_object mem (Own k) object in
      let upto = laid_high ls os (o + bytes) high laid.3 in
      let within : o + bytes ≤ a.bytes = omega (arith, upto, room) in
      let m1 = maps n few short m (with_high start) fs none k is mem b st sp stacked f known object bytes o laid.2 laid.1 laid.0 within live in
      let f1 = owned_fits n few short m (with_high start) fs none k is mem b st sp stacked f known object bytes o laid.2 laid.1 laid.0 within live in
      let k1 = owned_known n few short m (with_high start) fs none k is mem b st sp stacked f known object bytes o laid.2 laid.1 laid.0 within live in
      let s1 = owned_stacked n few short m (with_high start) fs none k is mem b st sp stacked f known object bytes o laid.2 laid.1 laid.0 within live in
      let e1 = owned_extends n few short m (with_high start) fs none k is mem b st sp stacked f known object bytes o laid.2 laid.1 laid.0 within live in
      let next : mem1.objects (Own k) ≡ count + 1 = ap (λ c. if c then mem.objects (Own k) + 1 else mem.objects (Own k)) (eq-eqb k k refl)
      ∙ ap (λ c. c + 1) counts in
      let rest = owns ls os (o + bytes) (count + 1) m1 mem1 laid.3 next live s1 f1 k1 in
      let here : m1.base (Own k) (count + 0) ≡ Some (a.at + o) =
      ap (λ c. if c then Some (a.at + o) else m.base (Own k) (count + 0))
      (and_from (nat_eq k k) (nat_eq (count + 0) (mem.objects (Own k))) (eq-eqb k k refl) (eq-eqb (count + 0) (mem.objects (Own k)) (omega (arith, counts)))) in
      record {
        maps = rest.maps;
        extends = extends_on m m1 rest.maps e1 rest.extends;
        end = rest.end;
        ends = rest.ends;
        fits = rest.fits;
        known = rest.known;
        stacked = rest.stacked;
        based = λ i x e. based i x e here rest.extends rest.based;
        spares = spares_then m mem m1 mem1 rest.maps (with_objects (Own k) ls mem1) (extends_on m m1 rest.maps e1 rest.extends)
            (object_spares m mem (Own k) object (a.at + o) e1) rest.spares;
      }
    where
      based : {m1 m2 : Maps} (i x : ℕ) → slice_get (o ∷ os) i ≡ Some x → m1.base (Own k) (count + 0) ≡ Some (a.at + o) → Extends m1 m2
          → ((j y : ℕ) → slice_get os j ≡ Some y → m2.base (Own k) (count + 1 + j) ≡ Some (a.at + y)) → m2.base (Own k) (count + i) ≡ Some (a.at + x)
      based {m1} {m2} zero x e here ext rest = ext.base (Own k) (count + 0) (a.at + x) (here ∙ ap (λ q. Some (a.at + q)) (same_Some o x e))
      based {m1} {m2} (suc i) x e here ext rest =
          let same : count + 1 + i ≡ count + suc i = omega arith in subst (λ q. m2.base (Own k) q ≡ Some (a.at + x)) same (rest i x e)
