-- The innermost frame with other homes, other registers of its caller, or others of them saved: all names lie as they did.
use Rattle.std.proofs.Common.{◌≡◌, ℕ, zero, suc, ◌+◌, ◌*◌, ◌≤◌, ◌⊎◌, inl, inr, ⊎_elim, Bool, List, ◌∷◌, Option, refl, sym, ap, ◌∙◌, subst}
use Rattle.core_meaning.specs.Memory.{Region, Frame, Own, Born, Content, Memory}
use Rattle.core_lines.specs.Machines.{Store}
use Rattle.rv32_machine.specs.State.{Areas}
use Rattle.core_lines.specs.Lies.{Maps, Activation, Name, Slot, Cell, SlotsLie, Lies, Among, InFrame, InBlockOf, InOwn, CellGround, Ground, Fits, Laid}

module _ (n : Areas) (m : Maps) (a : Activation) (fs : List Activation) (h : ℕ → ℕ → Option ℕ) (s : ℕ → Bool) (c : ℕ → ℕ) where
  abbrev pub homed : Activation
  homed = record a { homes = h; saves = s; callers = c }

  slots_back : (f k at width : ℕ) (v : Content) → SlotsLie (homed ∷ fs) f k at width v → SlotsLie (a ∷ fs) f k at width v
  slots_back zero k at width v l = record { within = l.within; there = l.there; wide = l.wide; value = l.value }
  slots_back (suc f) k at width v l = l

  back : (mem : Memory) (x : Name) (at width : ℕ) (v : Content) → Lies m (homed ∷ fs) mem x at width v → Lies m (a ∷ fs) mem x at width v
  back mem (Slot f k) at width v l = slots_back f k at width v l
  back mem (Cell t j) at width v l = l

  -- a frame and its counterpart
  record Counterpart (fr : Activation) (at width : ℕ) : Type 0 where
    pub frame : Activation
    pub inside : InFrame (homed ∷ fs) frame at width
    pub is : ((fr ≡ a) × (frame ≡ homed)) ⊎ (fr ≡ frame)

  counterpart : (fr : Activation) (at width : ℕ) → InFrame (a ∷ fs) fr at width → Counterpart fr at width
  counterpart fr at width i = ⊎_elim
      (λ (e : fr ≡ a). record {
        frame = homed;
        inside = record {
          among = inl refl;
          low = subst (λ (x : Activation). x.at ≤ at) e i.low;
          high = subst (λ (x : Activation). at + width ≤ x.at + x.bytes) e i.high;
        };
        is = inl (e, refl);
      })
      (λ (among : Among fr fs). record { frame = fr; inside = record { among = inr among; low = i.low; high = i.high }; is = inr refl })
      i.among

  cell_ground : (st : Store) (r : Region) (at width : ℕ) → CellGround n (a ∷ fs) st r at width → CellGround n (homed ∷ fs) st r at width
  cell_ground st (Born d) at width g = g
  cell_ground st (Own q) at width g =
      let p = counterpart g.frame at width g.inside in
      ⊎_elim
      (λ (e : (g.frame ≡ a) × (p.frame ≡ homed)). subst (λ (fr : Activation). InFrame (homed ∷ fs) fr at width → InOwn (homed ∷ fs) q at width) (sym e.1)
      (λ i. record {
        frame = homed;
        inside = i;
        holds = ap (λ (x : Activation). x.own) (sym e.0) ∙ g.holds;
        low = subst (λ (x : Activation). x.at + 4 * x.size ≤ at) e.0 g.low;
        high = subst (λ (x : Activation). at + width ≤ x.at + x.own_high) e.0 g.high;
      }) p.inside)
      (λ (e : g.frame ≡ p.frame). record {
        frame = g.frame;
        inside = subst (λ (fr : Activation). InFrame (homed ∷ fs) fr at width) (sym e) p.inside;
        holds = g.holds;
        low = g.low;
        high = g.high;
      })
      p.is
  cell_ground st (Frame q) at width g =
      let p = counterpart g.frame at width g.inside in
      ⊎_elim
      (λ (e : (g.frame ≡ a) × (p.frame ≡ homed)). subst (λ (fr : Activation). InFrame (homed ∷ fs) fr at width → InBlockOf (homed ∷ fs) q at width) (sym e.1)
      (λ i. record {
        frame = homed;
        inside = i;
        zone = g.zone;
        among = subst (λ zs. Among g.zone zs) (ap (λ (x : Activation). x.zones) e.0) g.among;
        holds = g.holds;
        low = subst (λ (x : Activation). x.at + g.zone.low ≤ at) e.0 g.low;
        high = subst (λ (x : Activation). at + width ≤ x.at + g.zone.high) e.0 g.high;
      }) p.inside)
      (λ (e : g.frame ≡ p.frame). record {
        frame = g.frame;
        inside = subst (λ (fr : Activation). InFrame (homed ∷ fs) fr at width) (sym e) p.inside;
        zone = g.zone;
        among = g.among;
        holds = g.holds;
        low = g.low;
        high = g.high;
      })
      p.is

  ground_on : (st : Store) (x : Name) (at width : ℕ) → Ground n (a ∷ fs) st x at width → Ground n (homed ∷ fs) st x at width
  ground_on st (Slot f k) at width g = let p = counterpart g.frame at width g.inside in record { frame = p.frame; inside = p.inside }
  ground_on st (Cell t j) at width g = cell_ground st t.region at width g

  pub homed_fits : (mem : Memory) (b : ℕ → ℕ) (st : Store) → Fits n m (a ∷ fs) mem b st → Fits n m (homed ∷ fs) mem b st
  homed_fits mem b st f = record {
    shows = λ x at width v l. f.shows x at width v (back mem x at width v l);
    apart = λ x y at width at' width' v v' ne l l'. f.apart x y at width at' width' v v' ne (back mem x at width v l) (back mem y at' width' v' l');
    ground = λ x at width v l. ground_on st x at width (f.ground x at width v (back mem x at width v l));
    aligned = λ x at width v l. f.aligned x at width v (back mem x at width v l);
  }

pub laid_homed : (at : ℕ) (a : Activation) (h : ℕ → ℕ → Option ℕ) (s : ℕ → Bool) (c : ℕ → ℕ) → Laid at a
    → Laid at (record a { homes = h; saves = s; callers = c })
laid_homed at a h s c l = record { there = l.there; even = l.even; low = l.low; room = l.room; own_room = l.own_room; zoned = l.zoned }
