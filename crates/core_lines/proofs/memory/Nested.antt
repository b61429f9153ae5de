-- A block is entered: its region begins, and its locals lie in a zone of the frame behind those of the blocks around it.
use Rattle.std.specs.Prelude.{nat_eq, length, if◌then◌else◌}
use Rattle.std.proofs.Common.{◌≡◌, ℕ, ◌+◌, ◌*◌, ◌≤◌, inl, inr, ⊎_elim, true, false, List, [], ◌∷◌, Some, refl, sym, ap, ◌∙◌, subst, arith}
use Rattle.std.proofs.lemmas.Bool.{eq-eqb, ne_eqb}
use Rattle.core_meaning.specs.Memory.{Region, Frame, Own, Born, Live, Memory, is_live, with_standing}
use Rattle.core_meaning.specs.Core.{Local}
use Rattle.core_meaning.specs.Meaning.{with_objects}
use Rattle.core_lines.specs.Machines.{Store, Machine}
use Rattle.rv32_machine.specs.State.{data_base, Areas}
use Rattle.core_lines.specs.Lies.{HasNone, HomesLie, HomeLies, Maps, Extends, Zone, Activation, Cell, Among, InFrame, InBlockOf, InOwn, CellGround, Fits, Zoned}
use Rattle.core_lines.specs.Lies.{Stacked}
use Rattle.core_lines.specs.Homes.{is_among}
use Rattle.core_lines.specs.Selected.{shrunk}
use Rattle.core_lines.proofs.homes.Homes.{Spares, spares_standing, spares_then, home_spared, homes_spared}
use Rattle.core_lines.proofs.homes.Saving.{home_among, home_some, HomesFit, with_homes, with_some, have_with}
use Rattle.core_lines.proofs.homes.Homed.{homed_fits, laid_homed}
use Rattle.core_lines.proofs.memory.Relations.{World, IsInOrder, Waiting, Place, BlocksLie, back_of, At, Phase, Inside, changed_in, home_of, IsHomeIn, AreHomes}
use Rattle.core_lines.proofs.memory.Knowing.{known_block}
use Rattle.core_lines.proofs.frames.Begun.{begun_fits, counted_fits}
use Rattle.core_lines.proofs.memory.Extending.{frame_extends, stack_extends}
use Rattle.core_lines.proofs.memory.Reframing.{reframed, counterpart, reframed_fits}
use Rattle.core_lines.proofs.memory.Placing.{LaidOut, laid_high}
use Rattle.core_lines.proofs.memory.Laying.{AreTiny, lays}

-- ---- the block

-- each block's zone lies behind that of the block around it
abbrev pub NestFits : ℕ → ℕ → List Place → Type 0
NestFits bottom top [] = bottom ≤ top
NestFits bottom top (p ∷ ps) = (p.high ≤ top) × (p.low ≤ p.high) × NestFits bottom p.low ps

zoned_as : (m : Maps) (at bottom top : ℕ) (ps : List Place) (ks : List ℕ) (zs : List Zone) → BlocksLie m at ps ks zs → NestFits bottom top ps
    → Zoned bottom top zs
zoned_as m at bottom top [] [] [] lie fits = fits
zoned_as m at bottom top (p ∷ ps) (k ∷ ks) (z ∷ zs) lie fits =
    let low = ap (λ (y : Zone). y.low) lie.0 in
    let high = ap (λ (y : Zone). y.high) lie.0 in
    let first = fits.0 in
    let second = fits.1 in (
      omega (arith, high, first),
      omega (arith, low, high, second),
      zoned_as m at bottom z.low ps ks zs lie.2 (subst (λ t. NestFits bottom t ps) (sym low) fits.2),
    )
zoned_as m at bottom top [] [] (z ∷ zs) lie fits = absurd lie
zoned_as m at bottom top [] (k ∷ ks) zs lie fits = absurd lie
zoned_as m at bottom top (p ∷ ps) [] zs lie fits = absurd lie
zoned_as m at bottom top (p ∷ ps) (k ∷ ks) [] lie fits = absurd lie

-- the innermost frame with an empty zone more
module _ (n : Areas) (m : Maps) (a : Activation) (fs : List Activation) (z : Zone) (mem : Memory) (b : ℕ → ℕ) (st : Store)
    (f : Fits n m (a ∷ fs) mem b st) where
  abbrev more : Activation
  more = reframed n m a fs (z ∷ a.zones) a.own_high

  ground_more : (r : Region) (at width : ℕ) → CellGround n (a ∷ fs) st r at width → CellGround n (more ∷ fs) st r at width
  ground_more (Born d) at width g = g
  ground_more (Own q) at width g =
      let c = counterpart n m a fs (z ∷ a.zones) a.own_high g.frame at width g.inside in
      ⊎_elim
      (λ (e : (g.frame ≡ a) × (c.frame ≡ more)). subst (λ (fr : Activation). InFrame (more ∷ fs) fr at width → InOwn (more ∷ fs) q at width) (sym e.1)
      (λ i. record {
        frame = more;
        inside = i;
        holds = ap (λ (x : Activation). x.own) (sym e.0) ∙ g.holds;
        low = subst (λ (x : Activation). x.at + 4 * x.size ≤ at) e.0 g.low;
        high = subst (λ (x : Activation). at + width ≤ x.at + x.own_high) e.0 g.high;
      }) c.inside)
      (λ (e : g.frame ≡ c.frame). record {
        frame = g.frame;
        inside = subst (λ (fr : Activation). InFrame (more ∷ fs) fr at width) (sym e) c.inside;
        holds = g.holds;
        low = g.low;
        high = g.high;
      })
      c.is
  ground_more (Frame q) at width g =
      let c = counterpart n m a fs (z ∷ a.zones) a.own_high g.frame at width g.inside in
      ⊎_elim
      (λ (e : (g.frame ≡ a) × (c.frame ≡ more)). subst (λ (fr : Activation). InFrame (more ∷ fs) fr at width → InBlockOf (more ∷ fs) q at width) (sym e.1)
      (λ i. record {
        frame = more;
        inside = i;
        zone = g.zone;
        among = inr (subst (λ qs. Among g.zone qs) (ap (λ (x : Activation). x.zones) e.0) g.among);
        holds = g.holds;
        low = subst (λ (x : Activation). x.at + g.zone.low ≤ at) e.0 g.low;
        high = subst (λ (x : Activation). at + width ≤ x.at + g.zone.high) e.0 g.high;
      }) c.inside)
      (λ (e : g.frame ≡ c.frame). record {
        frame = g.frame;
        inside = subst (λ (fr : Activation). InFrame (more ∷ fs) fr at width) (sym e) c.inside;
        zone = g.zone;
        among = g.among;
        holds = g.holds;
        low = g.low;
        high = g.high;
      })
      c.is

  more_fits : Fits n m (more ∷ fs) mem b st
  more_fits = reframed_fits n m a fs (z ∷ a.zones) a.own_high mem mem b st f (λ s j at width v h. h)
      (λ s j at width v h. ground_more s.region at width (f.ground (Cell s j) at width v h))

-- a block that has no object yet has no home
none_yet : (m : Maps) (mem : Memory) (k : ℕ) → mem.objects (Frame k) ≡ 0 → (fs : List Activation) (registers : ℕ → ℕ) → HomesLie m mem fs registers
    → HasNone k fs
none_yet m mem k none [] registers h = tt
none_yet m mem k none (a ∷ fs) registers h =
    ((λ o r e. let made = (h.0.lie k o r e).made in omega (arith, made, none)), none_yet m mem k none fs a.callers h.2)

-- where more addresses are known than before
pub record AtMore (w : World) (x : Waiting) (outer : List Waiting) (mem : Memory) (place : ℕ) (s : Machine) (m : Maps) : Type 0 where
  pub at : At w x outer mem place s
  pub extends : Extends m at.maps

-- A block is entered: no instruction is needed.
pub enters_block : (w : World) (order : IsInOrder w) (x : Waiting) (outer : List Waiting) (p : Place) (ls : List Local) (mem : Memory) (place : ℕ) (s : Machine)
    → LaidOut (shrunk ls p.homes) p.offsets p.low p.high → p.high ≤ w.frame_bytes x.function → NestFits x.own_high p.low x.nest
    → AreTiny ls p.homes → HomesFit x.fn (length ls) p.homes x.nest → x.phase ≡ Inside
    → (a : At w x outer mem place s)
    → AtMore w (record x { nest = p ∷ x.nest; config = record x.config { blocks = mem.activations ∷ x.config.blocks } }) outer
    (with_objects (Frame mem.activations) ls (record (with_standing mem (Frame mem.activations) Live) { activations = mem.activations + 1 })) place s a.maps
enters_block w order x outer p ls mem place s laid_out room nest tiny homes_fit inside a =
    let n = w.areas in
    let fs = a.others in
    let fr = a.frame in
    let k = mem.activations in
    let known = a.stands.known in
    let u = known.unentered k (omega arith) in
    let mem1 = record (with_standing mem (Frame k) Live) { activations = k + 1 } in
    let z0 : Zone = record { region = k; low = p.low; high = p.low } in
    let more1 : Activation = record fr { zones = z0 ∷ fr.zones } in
    let own = a.shows.own_high in
    let bytes = a.shows.bytes in
    let zoned : Zoned fr.own_high p.low fr.zones =
    zoned_as a.maps fr.at fr.own_high p.low x.nest x.config.blocks fr.zones a.shows.blocks (subst (λ q. NestFits q p.low x.nest) (sym own) nest) in
    let laid = a.stands.stacked.0 in
    let upto = laid_high (shrunk ls p.homes) p.offsets p.low p.high laid_out in
    let stacked1 : Stacked w.areas a.sp (more1 ∷ fs) = (
      record {
        there = laid.there;
        even = laid.even;
        low = laid.low;
        room = laid.room;
        own_room = laid.own_room;
        zoned = (omega (arith, upto, room, bytes), omega arith, zoned);
      },
      a.stands.stacked.1,
    ) in
    let fits1 : Fits n a.maps (more1 ∷ fs) mem1 s.bytes s.store =
    counted_fits n a.maps (more1 ∷ fs) (with_standing mem (Frame k) Live) mem1 s.bytes s.store refl refl
    (begun_fits n a.maps (more1 ∷ fs) mem s.bytes s.store (Frame k) u.1 known (more_fits n a.maps fr fs z0 mem s.bytes s.store a.stands.fits)) in
    let known1 = known_block a.maps mem s.store known in
    let live : is_live (mem1.standing (Frame k)) ≡ true = ap (λ c. is_live (if c then Live else mem.standing (Frame k))) (eq-eqb k k refl) in
    let l = lays n order.statics_within order.stack_within fr fs s.bytes s.store a.sp k p.low p.high fr.zones
    (omega (arith, room, bytes)) ls p.homes p.offsets p.low 0 a.maps mem1 tiny laid_out u.1 live
    stacked1 fits1 known1 in
    let zoned1 : Activation = record fr { zones = record { region = k; low = p.low; high = l.end } ∷ fr.zones } in
    let with1 = with_homes k p.homes fr.homes in
    let after1 : Activation = record zoned1 { homes = with1 } in
    let mem2 = with_objects (Frame k) ls mem1 in
    let spares : Spares a.maps mem l.maps mem2 =
    spares_then a.maps mem a.maps mem1 l.maps mem2 l.extends (spares_standing a.maps mem mem1 refl refl) l.spares in
    let are = subst (λ (q : Phase). AreHomes q x.nest x.config.blocks fr.homes) inside a.shows.homes in
    let h = a.stands.homes.0 in
    let not_yet : (q o r : ℕ) → fr.homes q o ≡ Some r → nat_eq q k ≡ false =
    λ q o r e. let made = (h.lie q o r e).made in ne_eqb q k (λ same.
    let none : mem.objects (Frame q) ≡ 0 = ap (λ i. mem.objects (Frame i)) same ∙ u.1 in omega (arith, made, none)) in
    let f = frame_extends w a.maps l.maps x (back_of w outer) fr l.extends a.shows in
    record {
      at = record {
        maps = l.maps;
        frame = after1;
        others = fs;
        sp = a.sp;
        stands = record {
          runs = a.stands.runs;
          there = a.stands.there;
          aligned = a.stands.aligned;
          pointer = a.stands.pointer;
          stack_start = a.stands.stack_start;
          small = a.stands.small;
          kept = a.stands.kept;
          stacked = (laid_homed a.sp zoned1 with1 fr.saves fr.callers l.stacked.0, l.stacked.1);
          fits = homed_fits n l.maps zoned1 fs with1 fr.saves fr.callers mem2 s.bytes s.store l.fits;
          homes = (
            record {
              small = h.small;
              lie = λ q o r e. ⊎_elim
                  (λ (new : (q ≡ k) × (home_of p.homes o ≡ Some r)).
                  let there : 0 + o ≡ o = omega arith in
                  subst (λ i. HomeLies l.maps mem2 i o (s.registers r)) (sym new.0)
                  (subst (λ i. HomeLies l.maps mem2 k i (s.registers r)) there (l.homes o r (s.registers r) new.1 (homes_fit.within o r new.1))))
                  (λ (old : fr.homes q o ≡ Some r). home_spared a.maps mem l.maps mem2 q o (s.registers r) spares (h.lie q o r old))
                  (with_some k p.homes fr.homes q o r e);
              apart = λ q o q' o' r e e'. ⊎_elim
                  (λ (new : (q ≡ k) × (home_of p.homes o ≡ Some r)). ⊎_elim
                  (λ (new' : (q' ≡ k) × (home_of p.homes o' ≡ Some r)). (new.0 ∙ sym new'.0, homes_fit.once o o' r new.1 new'.1))
                  (λ (old' : fr.homes q' o' ≡ Some r). absurd (clash o r new.1 (are.1 q' o' r old')))
                  (with_some k p.homes fr.homes q' o' r e'))
                  (λ (old : fr.homes q o ≡ Some r). ⊎_elim
                  (λ (new' : (q' ≡ k) × (home_of p.homes o' ≡ Some r)). absurd (clash o' r new'.1 (are.1 q o r old)))
                  (λ (old' : fr.homes q' o' ≡ Some r). h.apart q o q' o' r old old')
                  (with_some k p.homes fr.homes q' o' r e'))
                  (with_some k p.homes fr.homes q o r e);
              saved = λ q o r e. ⊎_elim
                  (λ (new : (q ≡ k) × (home_of p.homes o ≡ Some r)). let it = homes_fit.saved o r new.1 in
                  (it.0, a.shows.changed r ∙ ap (λ (i : Phase). is_among r (changed_in i x.fn)) inside ∙ it.1))
                  (λ (old : fr.homes q o ≡ Some r). h.saved q o r old)
                  (with_some k p.homes fr.homes q o r e);
              others = h.others;
            },
            (λ q o r e. ⊎_elim
                (λ (new : (q ≡ k) × (home_of p.homes o ≡ Some r)). subst (λ i. HasNone i fs) (sym new.0)
                (none_yet a.maps mem k u.1 fs fr.callers a.stands.homes.2))
                (λ (old : fr.homes q o ≡ Some r). a.stands.homes.1 q o r old)
                (with_some k p.homes fr.homes q o r e)),
            homes_spared a.maps mem l.maps mem2 fs fr.callers spares a.stands.homes.2,
          );
          known = l.known;
          holds_blocks = a.stands.holds_blocks;
          data_based = λ o y e. l.extends.base (Born 0) o (data_base + y) (a.stands.data_based o y e);
        };
        shows = record {
          function = f.function;
          bytes = f.bytes;
          size = f.size;
          is = f.is;
          back_place = f.back_place;
          returns_to = f.returns_to;
          temps = f.temps;
          blocks = (
            (λ i. record { region = k; low = p.low; high = l.ends i }),
            (λ o y h none. let e : 0 + o ≡ o = omega arith in subst (λ q. l.maps.base (Frame k) q ≡ Some (fr.at + y)) e (l.based o y h none)),
            f.blocks,
          );
          own = f.own;
          own_high = f.own_high;
          own_based = f.own_based;
          saved = f.saved;
          changed = f.changed;
          homes = subst (λ (q : Phase). AreHomes q (p ∷ x.nest) (k ∷ x.config.blocks) with1) (sym inside) (
            (
              λ o r e. ap (λ c. if c then home_of p.homes o else fr.homes k o) (eq-eqb k k refl) ∙ e,
              have_with k p.homes x.nest x.config.blocks fr.homes not_yet are.0,
            ),
            λ q o r e. ⊎_elim
                (λ (new : (q ≡ k) × (home_of p.homes o ≡ Some r)). inl (home_among p.homes o r new.1))
                (λ (old : fr.homes q o ≡ Some r). inr (are.1 q o r old))
                (with_some k p.homes fr.homes q o r e),
          );
        };
        stack = stack_extends w a.maps l.maps outer fs l.extends a.stack;
      };
      extends = l.extends;
    }
  where
    clash : (o r : ℕ) → home_of p.homes o ≡ Some r → IsHomeIn r x.nest → ⊥
    clash o r e around =
        let some = home_some p.homes o r e in
        homes_fit.differ some.0 (subst (λ q. is_among q p.homes ≡ true) some.1 (home_among p.homes o r e)) (subst (λ q. IsHomeIn q x.nest) some.1 around)
