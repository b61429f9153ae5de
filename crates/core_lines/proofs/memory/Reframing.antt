-- What lies in a frame with other zones, or more room for temporary objects: the rest lies as it did.
use Rattle.std.proofs.Common.{◌≡◌, ℕ, zero, suc, ◌+◌, ◌≤◌, ◌⊎◌, inl, inr, ⊎_elim, List, ◌∷◌, refl, subst}
use Rattle.core_meaning.specs.Memory.{Spot, Content, Memory}
use Rattle.core_lines.specs.Machines.{Store}
use Rattle.rv32_machine.specs.State.{Areas}
use Rattle.core_lines.specs.Lies.{Maps, Zone, Activation, Name, Slot, Cell, SlotsLie, PartLies, Lies, Among, InFrame, CellGround, Ground, Fits}

-- the innermost frame with other zones, and with its temporary objects up to another offset
module _ (n : Areas) (m : Maps) (a : Activation) (fs : List Activation) (zs : List Zone) (high : ℕ) where
  abbrev pub reframed : Activation
  reframed = record a { zones = zs; own_high = high }

  -- a frame and its counterpart
  pub record Counterpart (fr : Activation) (at width : ℕ) : Type 0 where
    pub frame : Activation
    pub inside : InFrame (reframed ∷ fs) frame at width
    pub is : ((fr ≡ a) × (frame ≡ reframed)) ⊎ (fr ≡ frame)

  pub counterpart : (fr : Activation) (at width : ℕ) → InFrame (a ∷ fs) fr at width → Counterpart fr at width
  counterpart fr at width i = ⊎_elim
      (λ (e : fr ≡ a). record {
        frame = reframed;
        inside = record {
          among = inl refl;
          low = subst (λ (x : Activation). x.at ≤ at) e i.low;
          high = subst (λ (x : Activation). at + width ≤ x.at + x.bytes) e i.high;
        };
        is = inl (e, refl);
      })
      (λ (among : Among fr fs). record { frame = fr; inside = record { among = inr among; low = i.low; high = i.high }; is = inr refl })
      i.among

  slots_back : (mem mem' : Memory) (f k at width : ℕ) (v : Content) → SlotsLie (reframed ∷ fs) f k at width v → SlotsLie (a ∷ fs) f k at width v
  slots_back mem mem' zero k at width v h = record { within = h.within; there = h.there; wide = h.wide; value = h.value }
  slots_back mem mem' (suc f) k at width v h = h

  module _ (mem mem' : Memory) (b : ℕ → ℕ) (st : Store) (f : Fits n m (a ∷ fs) mem b st)
      (parts_back : (s : Spot) (j at width : ℕ) (v : Content) → PartLies m mem' s j at width v → PartLies m mem s j at width v)
      (parts_ground : (s : Spot) (j at width : ℕ) (v : Content) → PartLies m mem' s j at width v → CellGround n (reframed ∷ fs) st s.region at width) where
    back : (x : Name) (at width : ℕ) (v : Content) → Lies m (reframed ∷ fs) mem' x at width v → Lies m (a ∷ fs) mem x at width v
    back (Slot g k) at width v h = slots_back mem mem' g k at width v h
    back (Cell s j) at width v h = parts_back s j at width v h

    ground : (x : Name) (at width : ℕ) (v : Content) → Lies m (reframed ∷ fs) mem' x at width v → Ground n (reframed ∷ fs) st x at width
    ground (Slot g k) at width v h =
        let old = f.ground (Slot g k) at width v (slots_back mem mem' g k at width v h) in
        let c = counterpart old.frame at width old.inside in
        record { frame = c.frame; inside = c.inside }
    ground (Cell s j) at width v h = parts_ground s j at width v h

    pub reframed_fits : Fits n m (reframed ∷ fs) mem' b st
    reframed_fits = record {
      shows = λ x at width v h. f.shows x at width v (back x at width v h);
      apart = λ x y at width at' width' v v' ne h h'. f.apart x y at width at' width' v v' ne (back x at width v h) (back y at' width' v' h');
      ground = ground;
      aligned = λ x at width v h. f.aligned x at width v (back x at width v h);
    }
