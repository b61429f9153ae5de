-- A frame is pushed, and popped, and blocks end: what fits still does.
use Rattle.std.specs.Prelude.{nat_eq, if◌then◌else◌}
use Rattle.std.proofs.Common.{
  ◌≡◌,
  ℕ,
  zero,
  suc,
  ◌+◌,
  ◌%◌,
  ◌^◌,
  ◌<◌,
  ◌≤◌,
  ◌⊎◌,
  inl,
  inr,
  ⊎_elim,
  Bool,
  true,
  false,
  List,
  [],
  ◌∷◌,
  refl,
  sym,
  ap,
  ◌∙◌,
  subst,
  arith,
}
use Rattle.std.proofs.lemmas.Bool.{eqb-false, ne_eqb, eq-eqb, and_right, and_left, and_from, and_cases, cases_eq, cases_lt, true≢false}
use Rattle.core_meaning.specs.Memory.{Region, Frame, Own, Born, Dead, Spot, Content, Blank, Memory, same_region, with_standing}
use Rattle.core_meaning.specs.Layouts.{Apart}
use Rattle.core_lines.specs.Machines.{Store}
use Rattle.rv32_machine.specs.Arrays.{longest_stack}
use Rattle.rv32_machine.specs.State.{Areas}
use Rattle.core_lines.specs.Lies.{
  Maps,
  Shows,
  read,
  Activation,
  Name,
  Slot,
  Cell,
  same_name,
  SlotLies,
  SlotsLie,
  Lies,
  Among,
  InFrame,
  CellGround,
  SlotGround,
  Ground,
  Fits,
  Laid,
  Stacked,
}
use Rattle.core_lines.proofs.memory.Fitting.{inside, below_end, IsWidth}

abbrev up : (fs : List Activation) (a fr : Activation) (at width : ℕ) → InFrame fs fr at width → InFrame (a ∷ fs) fr at width
up fs a fr at width i = record { among = inr i.among; low = i.low; high = i.high }

-- ---- a frame with blank slots is pushed

module _ (n : Areas) (few : n.statics ≤ 2 ^ 20) (short : n.stack ≤ longest_stack)
    (m : Maps) (fs : List Activation) (mem : Memory) (b : ℕ → ℕ) (st : Store) (sp : ℕ) (f : Fits n m fs mem b st)
    (stacked : Stacked n sp fs) (a : Activation) (laid : Laid a.at a) (blank : (k : ℕ) → a.slots k ≡ Blank) (end : a.at + a.bytes ≡ sp) where
  pub push_stacked : Stacked n a.at (a ∷ fs)
  push_stacked = (laid, subst (λ q. Stacked n q fs) (sym end) stacked)

  -- a frame's own slots, and what was there
  abbrev IsOld : Name → ℕ → ℕ → Content → Type 0
  IsOld (Slot zero j) at width v = ⊥
  IsOld (Slot (suc g) j) at width v = Lies m fs mem (Slot g j) at width v
  IsOld (Cell s j) at width v = Lies m fs mem (Cell s j) at width v

  abbrev IsNew : Name → ℕ → ℕ → Content → Type 0
  IsNew (Slot zero j) at width v = SlotLies a j at width v
  IsNew (Slot (suc g) j) at width v = ⊥
  IsNew (Cell s j) at width v = ⊥

  abbrev older : Name → Name
  older (Slot zero j) = Slot zero j
  older (Slot (suc g) j) = Slot g j
  older (Cell s j) = Cell s j

  split : (x : Name) (at width : ℕ) (v : Content) → Lies m (a ∷ fs) mem x at width v → IsNew x at width v ⊎ IsOld x at width v
  split (Slot zero j) at width v h = inl h
  split (Slot (suc g) j) at width v h = inr h
  split (Cell s j) at width v h = inr h

  old : (x : Name) (at width : ℕ) (v : Content) → IsOld x at width v → Lies m fs mem (older x) at width v
  old (Slot zero j) at width v h = absurd h
  old (Slot (suc g) j) at width v h = h
  old (Cell s j) at width v h = h

  old_apart : (x y : Name) (at width at' width' : ℕ) (v v' : Content) → same_name x y ≡ false → IsOld x at width v → IsOld y at' width' v' → same_name
      (older x) (older y) ≡ false
  old_apart (Slot zero j) y at width at' width' v v' ne h i = absurd h
  old_apart (Slot (suc g) j) (Slot zero j') at width at' width' v v' ne h i = absurd i
  old_apart (Slot (suc g) j) (Slot (suc g') j') at width at' width' v v' ne h i =
      ⊎_elim
      (λ (e : g ≡ g'). ⊎_elim
      (λ (e' : j ≡ j'). absurd (true≢false (sym (and_from (nat_eq (suc g) (suc g')) (nat_eq j j') (eq-eqb (suc g) (suc g') (ap suc e)) (eq-eqb j j' e')) ∙ ne)))
      (λ (e' : j ≡ j' → ⊥). and_right (nat_eq g g') (nat_eq j j') (ne_eqb j j' e'))
      (cases_eq j j'))
      (λ (e : g ≡ g' → ⊥). and_left (nat_eq g g') (nat_eq j j') (ne_eqb g g' e))
      (cases_eq g g')
  old_apart (Slot (suc g) j) (Cell s k) at width at' width' v v' ne h i = refl
  old_apart (Cell s k) (Slot zero j) at width at' width' v v' ne h i = absurd i
  old_apart (Cell s k) (Slot (suc g) j) at width at' width' v v' ne h i = refl
  old_apart (Cell s k) (Cell t l) at width at' width' v v' ne h i = ne

  -- what was there is not in the new frame
  region_away : (r : Region) (at width : ℕ) → CellGround n fs st r at width → (at + width ≤ a.at) ⊎ (sp ≤ at)
  region_away (Frame k) at width g = let i = (inside n sp fs g.frame stacked g.inside.among).above in let lo = g.inside.low in inr (omega (arith, i, lo))
  region_away (Own k) at width g = let i = (inside n sp fs g.frame stacked g.inside.among).above in let lo = g.inside.low in inr (omega (arith, i, lo))
  region_away (Born d) at width (inl g) = let hi = g.high in let lo = laid.low in inl (omega (arith, hi, lo, few))
  region_away (Born d) at width (inr g) = let lo = g.bottom in let e = below_end n sp fs stacked in inr (omega (arith, lo, e, short))

  away : (x : Name) (at width : ℕ) → Ground n fs st x at width → (at + width ≤ a.at) ⊎ (sp ≤ at)
  away (Slot g k) at width gr = let i = (inside n sp fs gr.frame stacked gr.inside.among).above in let lo = gr.inside.low in inr (omega (arith, i, lo))
  away (Cell s j) at width gr = region_away s.region at width gr

  region_ground : (r : Region) (at width : ℕ) → CellGround n fs st r at width → CellGround n (a ∷ fs) st r at width
  region_ground (Frame k) at width g = record {
    frame = g.frame;
    inside = up fs a g.frame at width g.inside;
    zone = g.zone;
    among = g.among;
    holds = g.holds;
    low = g.low;
    high = g.high;
  }
  region_ground (Own k) at width g = record { frame = g.frame; inside = up fs a g.frame at width g.inside; holds = g.holds; low = g.low; high = g.high }
  region_ground (Born d) at width g = g

  old_ground : (x : Name) (at width : ℕ) (v : Content) → IsOld x at width v → Ground n fs st (older x) at width → Ground n (a ∷ fs) st x at width
  old_ground (Slot zero j) at width v h g = absurd h
  old_ground (Slot (suc q) j) at width v h g = record { frame = g.frame; inside = up fs a g.frame at width g.inside }
  old_ground (Cell s j) at width v h g = region_ground s.region at width g

  new_within : (x : Name) (at width : ℕ) (v : Content) → IsNew x at width v → (a.at ≤ at) × (at + width ≤ sp)
  new_within (Slot zero j) at width v h =
      let w = h.within in let e = h.there in let four = h.wide in let room = laid.room in (omega (arith, e), omega (arith, w, e, four, room, end))
  new_within (Slot (suc g) j) at width v h = absurd h
  new_within (Cell s j) at width v h = absurd h

  new_apart : (x y : Name) (at width at' width' : ℕ) (v v' : Content) → same_name x y ≡ false → IsNew x at width v → IsNew y at' width' v'
      → Apart at width at' width'
  new_apart (Slot zero j) (Slot zero j') at width at' width' v v' ne h i =
      let e = h.there in
      let e' = i.there in
      let four = h.wide in
      let four' = i.wide in
      ⊎_elim (λ (lt : j < j'). inl (omega (arith, e, e', four, lt)))
      (λ (le : j' ≤ j). ⊎_elim
      (λ (same : j ≡ j'). absurd (true≢false (sym (and_from (nat_eq 0 0) (nat_eq j j') refl (eq-eqb j j' same)) ∙ ne)))
      (λ (other : j ≡ j' → ⊥). ⊎_elim (λ (x : j' < j). inr (omega (arith, e, e', four', x))) (λ (x : j ≤ j'). absurd (other (omega (arith, le, x))))
      (cases_lt j' j))
      (cases_eq j j'))
      (cases_lt j j')
  new_apart (Slot zero j) (Slot (suc g) k) at width at' width' v v' ne h i = absurd i
  new_apart (Slot zero j) (Cell s k) at width at' width' v v' ne h i = absurd i
  new_apart (Slot (suc g) j) y at width at' width' v v' ne h i = absurd h
  new_apart (Cell s k) y at width at' width' v v' ne h i = absurd h

  new_shows : (x : Name) (at width : ℕ) (v : Content) (q : ℕ) → IsNew x at width v → Shows m v q
  new_shows (Slot zero j) at width v q h = subst (λ u. Shows m u q) (sym (blank j) ∙ h.value) tt
  new_shows (Slot (suc g) j) at width v q h = absurd h
  new_shows (Cell s j) at width v q h = absurd h

  new_ground : (x : Name) (at width : ℕ) (v : Content) → IsNew x at width v → Ground n (a ∷ fs) st x at width
  new_ground (Slot zero j) at width v h =
      let z = new_within (Slot zero j) at width v h in
      let hi = z.1 in
      record { frame = a; inside = record { among = inl refl; low = z.0; high = omega (arith, hi, end) } }
  new_ground (Slot (suc g) j) at width v h = absurd h
  new_ground (Cell s j) at width v h = absurd h

  new_aligned : (x : Name) (at width : ℕ) (v : Content) → IsNew x at width v → IsWidth width × (at % width ≡ 0)
  new_aligned (Slot zero j) at width v h =
      let e = h.there in let even = laid.even in (inr h.wide, subst (λ k. at % k ≡ 0) (sym h.wide) (omega (arith, e, even)))
  new_aligned (Slot (suc g) j) at width v h = absurd h
  new_aligned (Cell s j) at width v h = absurd h

  pub push_fits : Fits n m (a ∷ fs) mem b st
  push_fits = record {
    shows = λ x at width v h. ⊎_elim
        (λ (i : IsNew x at width v). new_shows x at width v (read b at width) i)
        (λ (i : IsOld x at width v). f.shows (older x) at width v (old x at width v i))
        (split x at width v h);
    apart = λ x y at width at' width' v v' ne h h'. ⊎_elim
        (λ (i : IsNew x at width v). ⊎_elim
        (λ (j : IsNew y at' width' v'). new_apart x y at width at' width' v v' ne i j)
        (λ (j : IsOld y at' width' v').
        let z = new_within x at width v i in
        let lo = z.0 in
        let hi = z.1 in
        ⊎_elim (λ (q : at' + width' ≤ a.at). inr (omega (arith, q, lo))) (λ (q : sp ≤ at'). inl (omega (arith, q, hi)))
        (away (older y) at' width' (f.ground (older y) at' width' v' (old y at' width' v' j))))
        (split y at' width' v' h'))
        (λ (i : IsOld x at width v). ⊎_elim
        (λ (j : IsNew y at' width' v').
        let z = new_within y at' width' v' j in
        let lo = z.0 in
        let hi = z.1 in
        ⊎_elim (λ (q : at + width ≤ a.at). inl (omega (arith, q, lo))) (λ (q : sp ≤ at). inr (omega (arith, q, hi)))
        (away (older x) at width (f.ground (older x) at width v (old x at width v i))))
        (λ (j : IsOld y at' width' v'). f.apart (older x) (older y) at width at' width' v v' (old_apart x y at width at' width' v v' ne i j)
        (old x at width v i) (old y at' width' v' j))
        (split y at' width' v' h'))
        (split x at width v h);
    ground = λ x at width v h. ⊎_elim
        (λ (i : IsNew x at width v). new_ground x at width v i)
        (λ (i : IsOld x at width v). old_ground x at width v i (f.ground (older x) at width v (old x at width v i)))
        (split x at width v h);
    aligned = λ x at width v h. ⊎_elim
        (λ (i : IsNew x at width v). new_aligned x at width v i)
        (λ (i : IsOld x at width v). f.aligned (older x) at width v (old x at width v i))
        (split x at width v h);
  }

-- ---- a region dies: its names are no more

module _ (m : Maps) (fs : List Activation) (mem : Memory) (r : Region) where
  abbrev gone : Memory
  gone = with_standing mem r Dead

  pub other_region : (s : Spot) → (gone.standing s.region ≡ Dead → ⊥) → (same_region s.region r ≡ false) × (mem.standing s.region ≡ Dead → ⊥)
  other_region s lasts = by (same_region s.region r) refl
    where
      by : (is : Bool) → same_region s.region r ≡ is → (same_region s.region r ≡ false) × (mem.standing s.region ≡ Dead → ⊥)
      by true e = absurd (lasts (ap (λ c. if c then Dead else mem.standing s.region) e))
      by false e = (e, λ dead. lasts (ap (λ c. if c then Dead else mem.standing s.region) e ∙ dead))

  pub death_back : (x : Name) (at width : ℕ) (v : Content) → Lies m fs gone x at width v → Lies m fs mem x at width v
  death_back (Slot f k) at width v h = h
  death_back (Cell s j) at width v h =
      record { base = h.base; offset = h.offset; known = h.known; there = h.there; has = h.has; lasts = (other_region s h.lasts).1 }

pub death_fits : (n : Areas) (m : Maps) (fs : List Activation) (mem : Memory) (b : ℕ → ℕ) (st : Store) (r : Region) → Fits n m fs mem b st
    → Fits n m fs (with_standing mem r Dead) b st
death_fits n m fs mem b st r f = record {
  shows = λ x at width v h. f.shows x at width v (death_back m fs mem r x at width v h);
  apart = λ x y at width at' width' v v' ne h h'. f.apart x y at width at' width' v v' ne (death_back m fs mem r x at width v h)
      (death_back m fs mem r y at' width' v' h');
  ground = λ x at width v h. f.ground x at width v (death_back m fs mem r x at width v h);
  aligned = λ x at width v h. f.aligned x at width v (death_back m fs mem r x at width v h);
}

-- ---- the innermost frame is popped, where it is in no block any more and its temporary objects are dead

module _ (n : Areas) (m : Maps) (a : Activation) (fs : List Activation) (mem : Memory) (b : ℕ → ℕ) (st : Store) (sp : ℕ) (f : Fits n m (a ∷ fs) mem b st)
    (stacked : Stacked n sp (a ∷ fs)) (none : a.zones ≡ []) where
  abbrev popped : Memory
  popped = with_standing mem (Own a.own) Dead

  abbrev newer : Name → Name
  newer (Slot g j) = Slot (suc g) j
  newer (Cell s j) = Cell s j

  back : (x : Name) (at width : ℕ) (v : Content) → Lies m fs popped x at width v → Lies m (a ∷ fs) mem (newer x) at width v
  back (Slot g j) at width v h = h
  back (Cell s j) at width v h = death_back m (a ∷ fs) mem (Own a.own) (Cell s j) at width v h

  apart_on : (x y : Name) → same_name x y ≡ false → same_name (newer x) (newer y) ≡ false
  apart_on (Slot g j) (Slot g' j') ne =
      ⊎_elim
      (λ (e : nat_eq g g' ≡ false). and_left (nat_eq (suc g) (suc g')) (nat_eq j j') (ne_eqb (suc g) (suc g') (λ x. eqb-false g g' e (omega (arith, x)))))
      (λ (e : nat_eq j j' ≡ false). and_right (nat_eq (suc g) (suc g')) (nat_eq j j') e)
      (and_cases (nat_eq g g') (nat_eq j j') ne)
  apart_on (Slot g j) (Cell s k) ne = refl
  apart_on (Cell s k) (Slot g j) ne = refl
  apart_on (Cell s k) (Cell t l) ne = ne

  down : (fr : Activation) (at width : ℕ) → InFrame (a ∷ fs) fr at width → (fr ≡ a) ⊎ InFrame fs fr at width
  down fr at width i = ⊎_elim (λ (e : fr ≡ a). inl e) (λ (among : Among fr fs). inr (record { among = among; low = i.low; high = i.high })) i.among

  region_still : (s : Spot) (at width : ℕ) → (same_region s.region (Own a.own) ≡ false) → (r : Region) → s.region ≡ r → CellGround n (a ∷ fs) st r at width
      → CellGround n fs st r at width
  region_still s at width other (Frame k) is g = ⊎_elim
      (λ (e : g.frame ≡ a). absurd (subst (Among g.zone) (ap (λ (x : Activation). x.zones) e ∙ none) g.among))
      (λ (i : InFrame fs g.frame at width). record { frame = g.frame; inside = i; zone = g.zone; among = g.among; holds = g.holds; low = g.low; high = g.high })
      (down g.frame at width g.inside)
  region_still s at width other (Own k) is g = ⊎_elim
      (λ (e : g.frame ≡ a).
      let same : k ≡ a.own = sym g.holds ∙ ap (λ (x : Activation). x.own) e in
      absurd (true≢false (sym (subst (λ r. same_region r (Own a.own) ≡ true) (sym is) (eq-eqb k a.own same)) ∙ other)))
      (λ (i : InFrame fs g.frame at width). record { frame = g.frame; inside = i; holds = g.holds; low = g.low; high = g.high })
      (down g.frame at width g.inside)
  region_still s at width other (Born d) is g = g

  abbrev SlotsGround : Type 0
  SlotsGround = (g j at width : ℕ) (v : Content) → SlotsLie fs g j at width v → SlotGround fs at width

  still : SlotsGround → (x : Name) (at width : ℕ) (v : Content) → Lies m fs popped x at width v → Ground n fs st x at width
  still slots (Slot g j) at width v h = slots g j at width v h
  still slots (Cell s j) at width v h =
      region_still s at width ((other_region m (a ∷ fs) mem (Own a.own) s h.lasts).0) s.region refl
      (f.ground (Cell s j) at width v (back (Cell s j) at width v h))

  pub pop_fits : SlotsGround → Fits n m fs popped b st
  pop_fits slots = record {
    shows = λ x at width v h. f.shows (newer x) at width v (back x at width v h);
    apart = λ x y at width at' width' v v' ne h h'. f.apart (newer x) (newer y) at width at' width' v v' (apart_on x y ne) (back x at width v h)
        (back y at' width' v' h');
    ground = still slots;
    aligned = λ x at width v h. f.aligned (newer x) at width v (back x at width v h);
  }
