-- A local of a block gets its bytes, behind those before it, in the zone of its block, where nothing else lies.
use Rattle.std.proofs.Common.{
  ◌≡◌,
  ℕ,
  zero,
  suc,
  ◌+◌,
  ◌*◌,
  ◌%◌,
  ◌^◌,
  ◌<◌,
  ◌≤◌,
  ◌⊎◌,
  inl,
  inr,
  ⊎_elim,
  true,
  List,
  [],
  ◌∷◌,
  Option,
  None,
  refl,
  sym,
  ap,
  ◌∙◌,
  subst,
  arith,
}
use Rattle.core_meaning.specs.Memory.{Region, Frame, Own, Born, Content, Part, Memory, is_live, blanks, with_object}
use Rattle.core_meaning.specs.Core.{Local}
use Rattle.core_meaning.specs.Operations.{too_far}
use Rattle.core_lines.specs.Machines.{Store}
use Rattle.rv32_machine.specs.Arrays.{longest_stack}
use Rattle.rv32_machine.specs.State.{Areas}
use Rattle.core_lines.specs.Lies.{
  Maps,
  Extends,
  Zone,
  Activation,
  Name,
  Slot,
  Cell,
  SlotsLie,
  Lies,
  Among,
  InFrame,
  InBlockOf,
  InOwn,
  CellGround,
  Fits,
  Known,
  Zoned,
  Laid,
  Stacked,
}
use Rattle.core_lines.proofs.memory.Fitting.{inside, below_end}
use Rattle.core_lines.proofs.memory.Growing.{placed, placed_extends, ObjectFits, grow_fits, grow_known}
use Rattle.core_lines.proofs.memory.Reframing.{reframed, counterpart, reframed_fits}

-- the offsets of objects, from one offset to another
abbrev pub LaidOut : List Local → List ℕ → ℕ → ℕ → Type 0
LaidOut [] [] low high = low ≡ high
LaidOut (l ∷ ls) (o ∷ os) low high =
    (low ≤ o) × (o % 4 ≡ 0) × ObjectFits (blanks l.layout l.count) (l.count * l.layout.bytes) × LaidOut ls os (o + l.count * l.layout.bytes) high
LaidOut [] (o ∷ os) low high = ⊥
LaidOut (l ∷ ls) [] low high = ⊥

pub laid_high : (ls : List Local) (os : List ℕ) (low high : ℕ) → LaidOut ls os low high → low ≤ high
laid_high [] [] low high l = omega (arith, l)
laid_high (l ∷ ls) (o ∷ os) low high x =
    let rest = laid_high ls os (o + l.count * l.layout.bytes) high x.3 in let first = x.0 in omega (arith, rest, first)
laid_high [] (o ∷ os) low high l = absurd l
laid_high (l ∷ ls) [] low high x = absurd x

-- where a zone ends
abbrev raised : Zone → ℕ → Zone
raised z high = record z { high = high }

pub slots_above : (n : Areas) (sp : ℕ) (fs : List Activation) (g j at width : ℕ) (v : Content) → Stacked n sp fs → SlotsLie fs g j at width v → sp ≤ at
slots_above n sp [] g j at width v s h = absurd h
slots_above n sp (a ∷ fs) zero j at width v s h = let e = h.there in let e' = s.0.there in omega (arith, e, e')
slots_above n sp (a ∷ fs) (suc g) j at width v s h =
    let q = slots_above n (a.at + a.bytes) fs g j at width v s.1 h in
    let e' = s.0.there in omega (arith, q, e')

module _ (n : Areas) (few : n.statics ≤ 2 ^ 20) (short : n.stack ≤ longest_stack)
    (m : Maps) (a : Activation) (fs : List Activation) (z : Zone) (zs : List Zone) (are : a.zones ≡ z ∷ zs) (k : ℕ)
    (is : z.region ≡ k)
    (mem : Memory) (b : ℕ → ℕ) (st : Store) (sp : ℕ) (stacked : Stacked n sp (a ∷ fs)) (f : Fits n m (a ∷ fs) mem b st) (known : Known m mem st)
    (o : ℕ → ℕ → Option Part) (bytes offset : ℕ) (fits : ObjectFits o bytes) (even : offset % 4 ≡ 0) (behind : z.high ≤ offset)
    (room : offset + bytes ≤ a.bytes)
    (live : is_live (mem.standing (Frame k)) ≡ true) where
  abbrev pub after : Activation
  after = reframed n m a fs (raised z (offset + bytes) ∷ zs) a.own_high

  -- ---- the zone is raised

  parts_ground_on : (r : Region) (at width : ℕ) → CellGround n (a ∷ fs) st r at width → CellGround n (after ∷ fs) st r at width
  parts_ground_on (Born d) at width g = g
  parts_ground_on (Own q) at width g =
      let c = counterpart n m a fs (raised z (offset + bytes) ∷ zs) a.own_high g.frame at width g.inside in
      ⊎_elim
      (λ (e : (g.frame ≡ a) × (c.frame ≡ after)). subst (λ (fr : Activation). InFrame (after ∷ fs) fr at width → InOwn (after ∷ fs) q at width) (sym e.1)
      (λ i. record {
        frame = after;
        inside = i;
        holds = ap (λ (x : Activation). x.own) (sym e.0) ∙ g.holds;
        low = subst (λ (x : Activation). x.at + 4 * x.size ≤ at) e.0 g.low;
        high = subst (λ (x : Activation). at + width ≤ x.at + x.own_high) e.0 g.high;
      }) c.inside)
      (λ (e : g.frame ≡ c.frame). record {
        frame = g.frame;
        inside = subst (λ (fr : Activation). InFrame (after ∷ fs) fr at width) (sym e) c.inside;
        holds = g.holds;
        low = g.low;
        high = g.high;
      })
      c.is
  parts_ground_on (Frame q) at width g =
      let c = counterpart n m a fs (raised z (offset + bytes) ∷ zs) a.own_high g.frame at width g.inside in
      ⊎_elim
      (λ (e : (g.frame ≡ a) × (c.frame ≡ after)).
      let among : Among g.zone (z ∷ zs) = subst (λ qs. Among g.zone qs) (ap (λ (x : Activation). x.zones) e.0 ∙ are) g.among in
      subst (λ (fr : Activation). InFrame (after ∷ fs) fr at width → InBlockOf (after ∷ fs) q at width) (sym e.1)
      (λ i. ⊎_elim
      (λ (first : g.zone ≡ z). record {
        frame = after;
        inside = i;
        zone = raised z (offset + bytes);
        among = inl refl;
        holds = ap (λ (y : Zone). y.region) (sym first) ∙ g.holds;
        low = subst (λ (y : Zone). a.at + y.low ≤ at) first (subst (λ (x : Activation). x.at + g.zone.low ≤ at) e.0 g.low);
        high = (let h = subst (λ (y : Zone). at + width ≤ a.at + y.high) first
            (subst (λ (x : Activation). at + width ≤ x.at + g.zone.high) e.0 g.high) in omega (arith, h, behind));
      })
      (λ (rest : Among g.zone zs). record {
        frame = after;
        inside = i;
        zone = g.zone;
        among = inr rest;
        holds = g.holds;
        low = subst (λ (x : Activation). x.at + g.zone.low ≤ at) e.0 g.low;
        high = subst (λ (x : Activation). at + width ≤ x.at + g.zone.high) e.0 g.high;
      }) among)
      c.inside)
      (λ (e : g.frame ≡ c.frame). record {
        frame = g.frame;
        inside = subst (λ (fr : Activation). InFrame (after ∷ fs) fr at width) (sym e) c.inside;
        zone = g.zone;
        among = g.among;
        holds = g.holds;
        low = g.low;
        high = g.high;
      })
      c.is

  pub raised_fits : Fits n m (after ∷ fs) mem b st
  raised_fits = reframed_fits n m a fs (raised z (offset + bytes) ∷ zs) a.own_high mem mem b st f (λ s j at width v h. h)
      (λ s j at width v h. parts_ground_on s.region at width (f.ground (Cell s j) at width v h))

  -- ---- what was there is apart from the new object

  laid : Laid sp a
  laid = stacked.0

  zoned : Zoned a.own_high a.bytes (z ∷ zs)
  zoned = subst (λ ys. Zoned a.own_high a.bytes ys) are laid.zoned

  -- a zone lies below the end of the first, and the temporary objects below its beginning
  zone_below : (top : ℕ) (ys : List Zone) (y : Zone) → Zoned a.own_high top ys → Among y ys → y.high ≤ top
  zone_below top [] y q i = absurd i
  zone_below top (x ∷ xs) y q (inl e) = subst (λ (t : Zone). t.high ≤ top) (sym e) q.0
  zone_below top (x ∷ xs) y q (inr i) = let h = zone_below x.low xs y q.2 i in let h' = q.0 in let h'' = q.1 in omega (arith, h, h', h'')

  own_below : (top : ℕ) (ys : List Zone) → Zoned a.own_high top ys → a.own_high ≤ top
  own_below top [] q = q
  own_below top (x ∷ xs) q = let h = own_below x.low xs q.2 in let h' = q.0 in let h'' = q.1 in omega (arith, h, h', h'')

  own_first : a.own_high ≤ z.high
  own_first = let h = own_below z.low zs zoned.2 in let h' = zoned.1 in omega (arith, h, h')

  frame_away : (fr : Activation) (at width : ℕ) → InFrame (a ∷ fs) fr at width → (fr ≡ a → at + width ≤ a.at + offset) → (at + width ≤ a.at + offset) ⊎
      (a.at + offset + bytes ≤ at)
  frame_away fr at width i mine = ⊎_elim
      (λ (e : fr ≡ a). inl (mine e))
      (λ (among : Among fr fs). let h = (inside n (a.at + a.bytes) fs fr stacked.1 among).above in let low = i.low in inr (omega (arith, h, low, room)))
      i.among

  region_away : (r : Region) (at width : ℕ) → CellGround n (a ∷ fs) st r at width → (at + width ≤ a.at + offset) ⊎ (a.at + offset + bytes ≤ at)
  region_away (Frame q) at width g = frame_away g.frame at width g.inside (λ e.
      let among : Among g.zone (z ∷ zs) = subst (λ qs. Among g.zone qs) (ap (λ (x : Activation). x.zones) e ∙ are) g.among in
      let high : at + width ≤ a.at + g.zone.high = subst (λ (x : Activation). at + width ≤ x.at + g.zone.high) e g.high in
      let within : g.zone.high ≤ z.high = ⊎_elim (λ (first : g.zone ≡ z). subst (λ (y : Zone). y.high ≤ z.high) (sym first) (omega arith))
      (λ (rest : Among g.zone zs). let h = zone_below z.low zs g.zone zoned.2 rest in let h' = zoned.1 in omega (arith, h, h')) among in
      omega (arith, high, within, behind))
  region_away (Own q) at width g = frame_away g.frame at width g.inside (λ e.
      let high : at + width ≤ a.at + a.own_high = subst (λ (x : Activation). at + width ≤ x.at + x.own_high) e g.high in
      let first = own_first in
      omega (arith, high, first, behind))
  region_away (Born d) at width (inl g) = let hi = g.high in let lo = laid.low in let e = laid.there in inl (omega (arith, hi, lo, e, few))
  region_away (Born d) at width (inr g) =
      let lo = g.bottom in
      let end = below_end n (a.at + a.bytes) fs stacked.1 in
      inr (omega (arith, lo, end, room, short))

  away : (y : Name) (at width : ℕ) (v : Content) → Lies m (after ∷ fs) mem y at width v → (at + width ≤ a.at + offset) ⊎ (a.at + offset + bytes ≤ at)
  away (Slot zero j) at width v h =
      let w = h.within in let e = h.there in let four = h.wide in let own = laid.own_room in let first = own_first in inl
      (omega (arith, w, e, four, own, first, behind))
  away (Slot (suc g) j) at width v h = let q = slots_above n (a.at + a.bytes) fs g j at width v stacked.1 h in inr (omega (arith, q, room))
  away (Cell s j) at width v h = region_away s.region at width (f.ground (Cell s j) at width v h)

  fresh : m.base (Frame k) (mem.objects (Frame k)) ≡ None
  fresh = known.unmade (Frame k) (mem.objects (Frame k)) (omega arith)

  abbrev pub maps : Maps
  maps = placed (Frame k) (mem.objects (Frame k)) (a.at + offset) m

  at_low : a.at + offset < 2 ^ 31
  at_low = let end = below_end n (a.at + a.bytes) fs stacked.1 in omega (arith, end, room, short)

  bytes_few : bytes ≤ too_far
  bytes_few = let end = below_end n (a.at + a.bytes) fs stacked.1 in omega (arith, end, room, short)

  at_even : (a.at + offset) % 4 ≡ 0
  at_even = let e = laid.even in let e' = laid.there in omega (arith, e, e', even)

  new_ground : (at width : ℕ) → a.at + offset ≤ at → at + width ≤ a.at + offset + bytes → CellGround n (after ∷ fs) st (Frame k) at width
  new_ground at width lo hi =
      let first = zoned.1 in
      record {
        frame = after;
        inside = record { among = inl refl; low = omega (arith, lo); high = omega (arith, hi, room) };
        zone = raised z (offset + bytes);
        among = inl refl;
        holds = is;
        low = omega (arith, lo, first, behind);
        high = omega (arith, hi);
      }

  pub laid_fits : Fits n maps (after ∷ fs) (with_object mem (Frame k) o) b st
  laid_fits = grow_fits n m (after ∷ fs) mem b st st (Frame k) o bytes (a.at + offset) raised_fits fresh fits at_even away new_ground (λ y at width g. g)

  pub laid_known : Known maps (with_object mem (Frame k) o) st
  laid_known = grow_known n m (after ∷ fs) mem b st st (Frame k) o bytes (a.at + offset) raised_fits fresh fits at_even away new_ground
      (λ y at width g. g) st at_low bytes_few live refl refl refl (λ d at i. i) (λ d e. absurd (cc e)) known

  pub laid_stacked : Stacked n sp (after ∷ fs)
  laid_stacked = (
    record {
      there = laid.there;
      even = laid.even;
      low = laid.low;
      room = laid.room;
      own_room = laid.own_room;
      zoned = (room, (let h = zoned.1 in omega (arith, h, behind)), zoned.2);
    },
    stacked.1,
  )

  pub laid_extends : Extends m maps
  laid_extends = placed_extends m (Frame k) (mem.objects (Frame k)) (a.at + offset) fresh
