-- A block is left: its region ends, and its zone of the frame is free again.
use Rattle.std.proofs.Common.{◌≡◌, ℕ, suc, true, ◌+◌, ◌*◌, ◌≤◌, ⊎_elim, false, List, [], ◌∷◌, refl, sym, ap, ◌∙◌, subst, arith}
use Rattle.std.proofs.lemmas.Bool.{eq-eqb}
use Rattle.core_meaning.specs.Memory.{Region, Frame, Own, Born, Dead, Spot, Content, Memory, same_region, with_standing}
use Rattle.core_lines.specs.Machines.{Store, Machine}
use Rattle.rv32_machine.specs.State.{Areas}
use Rattle.core_lines.specs.Lies.{Maps, Zone, Activation, Cell, PartLies, Among, InFrame, InBlockOf, InOwn, CellGround, HomesLie, Fits, Zoned, Laid}
use Rattle.core_lines.proofs.memory.Relations.{World, Waiting, Place, BlocksLie, back_of, FrameShows, Stands, At, Returning, restored, IsHomeIn, AreHomes}
use Rattle.core_lines.specs.Homes.{is_among}
use Rattle.core_lines.proofs.homes.Homes.{spares_standing, homes_spared}
use Rattle.core_lines.proofs.homes.Saving.{without, unless_some, homes_left}
use Rattle.core_lines.proofs.homes.Homed.{homed_fits, laid_homed}
use Rattle.core_lines.proofs.frames.Frames.{other_region, death_back}
use Rattle.core_lines.proofs.memory.Knowing.{known_death}
use Rattle.core_lines.proofs.memory.Reframing.{reframed, counterpart, reframed_fits}

-- ---- the innermost zone is given back

module _ (n : Areas) (m : Maps) (a : Activation) (fs : List Activation) (z : Zone) (zs : List Zone) (are : a.zones ≡ z ∷ zs) (k : ℕ) (is : z.region ≡ k)
    (mem : Memory) (b : ℕ → ℕ) (st : Store) (f : Fits n m (a ∷ fs) mem b st) where
  abbrev gone : Memory
  gone = with_standing mem (Frame k) Dead

  parts_back : (s : Spot) (j at width : ℕ) (v : Content) → PartLies m gone s j at width v → PartLies m mem s j at width v
  parts_back s j at width v h = death_back m (a ∷ fs) mem (Frame k) (Cell s j) at width v h

  region_ground : (r : Region) (at width : ℕ) → same_region r (Frame k) ≡ false → CellGround n (a ∷ fs) st r at width → CellGround n
      (reframed n m a fs zs a.own_high ∷ fs) st r at width
  region_ground (Born d) at width other g = g
  region_ground (Own q) at width other g =
      let c = counterpart n m a fs zs a.own_high g.frame at width g.inside in
      ⊎_elim
      (λ (e : (g.frame ≡ a) × (c.frame ≡ reframed n m a fs zs a.own_high)). subst
      (λ (fr : Activation). InFrame (reframed n m a fs zs a.own_high ∷ fs) fr at width → InOwn (reframed n m a fs zs a.own_high ∷ fs) q at width) (sym e.1)
      (λ i. record {
        frame = reframed n m a fs zs a.own_high;
        inside = i;
        holds = ap (λ (x : Activation). x.own) (sym e.0) ∙ g.holds;
        low = subst (λ (x : Activation). x.at + 4 * x.size ≤ at) e.0 g.low;
        high = subst (λ (x : Activation). at + width ≤ x.at + x.own_high) e.0 g.high;
      }) c.inside)
      (λ (e : g.frame ≡ c.frame). record {
        frame = g.frame;
        inside = subst (λ (fr : Activation). InFrame (reframed n m a fs zs a.own_high ∷ fs) fr at width) (sym e) c.inside;
        holds = g.holds;
        low = g.low;
        high = g.high;
      })
      c.is
  region_ground (Frame q) at width other g =
      let c = counterpart n m a fs zs a.own_high g.frame at width g.inside in
      ⊎_elim
      (λ (e : (g.frame ≡ a) × (c.frame ≡ reframed n m a fs zs a.own_high)).
      let among : Among g.zone (z ∷ zs) = subst (λ qs. Among g.zone qs) (ap (λ (x : Activation). x.zones) e.0 ∙ are) g.among in
      ⊎_elim
      (λ (first : g.zone ≡ z). absurd (cc (other, eq-eqb q k (sym g.holds ∙ ap (λ (y : Zone). y.region) first ∙ is))))
      (λ (rest : Among g.zone zs).
      subst (λ (fr : Activation). InFrame (reframed n m a fs zs a.own_high ∷ fs) fr at width → InBlockOf (reframed n m a fs zs a.own_high ∷ fs) q at width)
      (sym e.1)
      (λ i. record {
        frame = reframed n m a fs zs a.own_high;
        inside = i;
        zone = g.zone;
        among = rest;
        holds = g.holds;
        low = subst (λ (x : Activation). x.at + g.zone.low ≤ at) e.0 g.low;
        high = subst (λ (x : Activation). at + width ≤ x.at + g.zone.high) e.0 g.high;
      }) c.inside)
      among)
      (λ (e : g.frame ≡ c.frame). record {
        frame = g.frame;
        inside = subst (λ (fr : Activation). InFrame (reframed n m a fs zs a.own_high ∷ fs) fr at width) (sym e) c.inside;
        zone = g.zone;
        among = g.among;
        holds = g.holds;
        low = g.low;
        high = g.high;
      })
      c.is

  parts_ground : (s : Spot) (j at width : ℕ) (v : Content) → PartLies m gone s j at width v
      → CellGround n (reframed n m a fs zs a.own_high ∷ fs) st s.region at width
  parts_ground s j at width v h =
      region_ground s.region at width ((other_region m (a ∷ fs) mem (Frame k) s h.lasts).0) (f.ground (Cell s j) at width v (parts_back s j at width v h))

  pub unzoned_fits : Fits n m (reframed n m a fs zs a.own_high ∷ fs) gone b st
  unzoned_fits = reframed_fits n m a fs zs a.own_high mem gone b st f parts_back parts_ground

-- the zones around it may have all the room
zoned_more : (bottom top top' : ℕ) (zs : List Zone) → top ≤ top' → Zoned bottom top zs → Zoned bottom top' zs
zoned_more bottom top top' [] le z = omega (arith, le, z)
zoned_more bottom top top' (y ∷ ys) le z = (let h = z.0 in omega (arith, h, le), z.1, z.2)

pub unzoned : (at : ℕ) (a : Activation) (z : Zone) (zs : List Zone) → a.zones ≡ z ∷ zs → Laid at a → Laid at (record a { zones = zs })
unzoned at a z zs are l =
    let q : Zoned a.own_high a.bytes (z ∷ zs) = subst (λ ys. Zoned a.own_high a.bytes ys) are l.zoned in
    record {
      there = l.there;
      even = l.even;
      low = l.low;
      room = l.room;
      own_room = l.own_room;
      zoned = zoned_more a.own_high z.low a.bytes zs (let h = q.0 in let h' = q.1 in omega (arith, h, h')) q.2;
    }

-- ---- other homes

homes_fewer : (m : Maps) (mem : Memory) (a : Activation) (fs : List Activation) (hs : List ℕ) (registers : ℕ → ℕ) → HomesLie m mem (a ∷ fs) registers
    → HomesLie m mem (record a { homes = without hs a.homes } ∷ fs) registers
homes_fewer m mem a fs hs registers h = (
  record {
    small = h.0.small;
    lie = λ k o r e. h.0.lie k o r (unless_some hs (a.homes k o) r e).0;
    apart = λ k o k' o' r e e'. h.0.apart k o k' o' r (unless_some hs (a.homes k o) r e).0 (unless_some hs (a.homes k' o') r e').0;
    saved = λ k o r e. h.0.saved k o r (unless_some hs (a.homes k o) r e).0;
    others = h.0.others;
  },
  (λ k o r e. h.1 k o r (unless_some hs (a.homes k o) r e).0),
  h.2,
)

-- ---- an activation leaves a block, and goes on or returns

record Left (w : World) (x : Waiting) (outer : List Waiting) (m : Maps) (p : Place) (ps : List Place) (k : ℕ) (ks : List ℕ) (mem : Memory) (place : ℕ)
    (frame : Activation)
    (others : List Activation) (sp x2 : ℕ) (s : Machine) : Type 0 where
  pub frame' : Activation
  pub stands : Stands w (with_standing mem (Frame k) Dead) place m (frame' ∷ others) sp x2 s
  pub shows : FrameShows w m (record x { nest = ps; config = record x.config { blocks = ks } }) (back_of w outer) frame'

leaves : (w : World) (x : Waiting) (outer : List Waiting) (m : Maps) (p : Place) (ps : List Place) (k : ℕ) (ks : List ℕ) (mem : Memory) (place : ℕ)
    (frame : Activation)
    (others : List Activation) (sp x2 : ℕ) (s : Machine) → x.nest ≡ p ∷ ps → x.config.blocks ≡ k ∷ ks
    → ((r : ℕ) → is_among (suc r) p.homes ≡ true → IsHomeIn (suc r) ps → ⊥)
    → Stands w mem place m (frame ∷ others) sp x2 s → FrameShows w m x (back_of w outer) frame
    → Left w x outer m p ps k ks mem place frame others sp x2 s
leaves w x outer m p ps k ks mem place frame others sp x2 s nest blocks differ stands shows =
    by frame.zones refl (subst (λ bs. BlocksLie m frame.at (p ∷ ps) bs frame.zones) blocks
    (subst (λ qs. BlocksLie m frame.at qs x.config.blocks frame.zones) nest shows.blocks))
  where
    by : (zs : List Zone) → frame.zones ≡ zs → BlocksLie m frame.at (p ∷ ps) (k ∷ ks) frame.zones → Left w x outer m p ps k ks mem place frame others sp x2 s
    by [] are lie = absurd (subst (λ ys. BlocksLie m frame.at (p ∷ ps) (k ∷ ks) ys) are lie)
    by (z ∷ zs) are lie =
        let all : BlocksLie m frame.at (p ∷ ps) (k ∷ ks) (z ∷ zs) = subst (λ ys. BlocksLie m frame.at (p ∷ ps) (k ∷ ks) ys) are lie in
        let region : z.region ≡ k = ap (λ (y : Zone). y.region) all.0 in
        record {
          frame' = record frame { zones = zs; homes = without p.homes frame.homes };
          stands = record {
            runs = stands.runs;
            there = stands.there;
            aligned = stands.aligned;
            pointer = stands.pointer;
            stack_start = stands.stack_start;
            small = stands.small;
            kept = stands.kept;
            stacked = (
              laid_homed sp (record frame { zones = zs }) (without p.homes frame.homes) frame.saves frame.callers
                  (unzoned sp frame z zs are stands.stacked.0),
              stands.stacked.1,
            );
            fits = homed_fits w.areas m (record frame { zones = zs }) others (without p.homes frame.homes) frame.saves frame.callers
                (with_standing mem (Frame k) Dead) s.bytes s.store
                (unzoned_fits w.areas m frame others z zs are k region mem s.bytes s.store stands.fits);
            homes =
                homes_fewer m (with_standing mem (Frame k) Dead) frame others p.homes s.registers
                (homes_spared m mem m (with_standing mem (Frame k) Dead) (frame ∷ others) s.registers
                (spares_standing m mem (with_standing mem (Frame k) Dead) refl refl) stands.homes);
            known = known_death m mem s.store (Frame k) tt stands.known;
            holds_blocks = stands.holds_blocks;
            data_based = stands.data_based;
          };
          shows = record {
            function = shows.function;
            bytes = shows.bytes;
            size = shows.size;
            is = shows.is;
            back_place = shows.back_place;
            returns_to = shows.returns_to;
            temps = shows.temps;
            blocks = all.2;
            own = shows.own;
            own_high = shows.own_high;
            own_based = shows.own_based;
            saved = shows.saved;
            changed = shows.changed;
            homes = homes_left x.phase p ps k ks frame.homes differ
                (subst (λ bs. AreHomes x.phase (p ∷ ps) bs frame.homes) blocks
                (subst (λ qs. AreHomes x.phase qs x.config.blocks frame.homes) nest shows.homes));
          };
        }

pub leaves_block : (w : World) (x : Waiting) (outer : List Waiting) (p : Place) (ps : List Place) (k : ℕ) (ks : List ℕ) (mem : Memory) (place : ℕ) (s : Machine)
    → x.nest ≡ p ∷ ps → x.config.blocks ≡ k ∷ ks → ((r : ℕ) → is_among (suc r) p.homes ≡ true → IsHomeIn (suc r) ps → ⊥) → At w x outer mem place s
    → At w (record x { nest = ps; config = record x.config { blocks = ks } }) outer (with_standing mem (Frame k) Dead) place s
leaves_block w x outer p ps k ks mem place s nest blocks differ a =
    let l = leaves w x outer a.maps p ps k ks mem place a.frame a.others a.sp a.sp s nest blocks differ a.stands a.shows in
    record { maps = a.maps; frame = l.frame'; others = a.others; sp = a.sp; stands = l.stands; shows = l.shows; stack = a.stack }

pub leaves_block_returning : (w : World) (x : Waiting) (outer : List Waiting) (p : Place) (ps : List Place) (k : ℕ) (ks : List ℕ) (mem : Memory)
    (values : List Content) (s : Machine)
    → x.nest ≡ p ∷ ps → x.config.blocks ≡ k ∷ ks → ((r : ℕ) → is_among (suc r) p.homes ≡ true → IsHomeIn (suc r) ps → ⊥) → Returning w x outer mem values s
    → Returning w (record x { nest = ps; config = record x.config { blocks = ks } }) outer (with_standing mem (Frame k) Dead) values s
leaves_block_returning w x outer p ps k ks mem values s nest blocks differ r =
    let l = leaves w (restored x) outer r.maps p ps k ks mem (back_of w outer) r.frame r.others r.sp r.pointer s nest blocks differ r.stands r.shows in
    record {
      maps = r.maps;
      frame = l.frame';
      others = r.others;
      sp = r.sp;
      pointer = r.pointer;
      above = r.above;
      stands = l.stands;
      shows = l.shows;
      stack = r.stack;
      results = r.results;
    }
