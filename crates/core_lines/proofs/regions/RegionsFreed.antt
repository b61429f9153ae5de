-- A region or a key is freed with its blocks: what fits still does, and its number and its bytes may be had again.
use Rattle.std.specs.Prelude.{nat_eq, if◌then◌else◌}
use Rattle.std.proofs.Common.{◌≡◌, ℕ, ◌⊎◌, inl, inr, ⊎_elim, Bool, true, false, List, [], ◌∷◌, Option, Some, None, refl, sym, ap, subst, ◌∙◌}
use Rattle.std.proofs.lemmas.Bool.{eqb-false, ne_eqb, eq-eqb}
use Rattle.std.proofs.lemmas.Option.{same_Some, none-some}
use Rattle.arena_laws.specs.declared.owner.Owner.{Owner}
use Rattle.arena_laws.specs.declared.owner.Owner.TheVariants as owner
use Rattle.arena_laws.specs.declared.standing.Standing.{Standing as Tag}
use Rattle.arena_laws.specs.Blocks.{Block, those_not}
use Rattle.arena_laws.specs.Counts.{Counts}
use Rattle.arena_laws.specs.Holdings.{is_some}
use Rattle.arena_laws.specs.Lawful.{is_of, without_number}
use Rattle.rv32_machine.specs.State.{Areas}
use Rattle.core_meaning.specs.Memory.{Region, Frame, Own, Born, Standing, Single, Dead, Spot, Content, Memory, same_region, with_standing}
use Rattle.core_lines.specs.Machines.{Store}
use Rattle.core_lines.specs.Lies.{
  Maps,
  Activation,
  Name,
  Slot,
  Cell,
  Lies,
  Among,
  birth_in,
  CellGround,
  Ground,
  Fits,
  TagOf,
  Held,
  IsNumber,
  Known,
  IsNamed,
  HoldsBlocks,
}
use Rattle.core_lines.proofs.homes.Homes.{spares_standing, Changed}
use Rattle.core_lines.proofs.memory.Fitting.{if_split}
use Rattle.core_lines.proofs.frames.Frames.{other_region, death_back}

-- ---- the blocks whose owner fails a test

kept_either : (c : Bool) (k j : Block) (js : List Block) → Among k js → Among k (if c then js else j ∷ js)
kept_either true k j js i = i
kept_either false k j js i = inr i

pub still_among : (test : Option Owner → Bool) (ks : List Block) (k : Block) → test (Some k.who) ≡ false → Among k ks → Among k (those_not test ks)
still_among test [] k fails i = i
still_among test (j ∷ js) k fails (inl e) =
    subst (λ c. Among k (if c then those_not test js else j ∷ those_not test js)) (sym (ap (λ (y : Block). test (Some y.who)) (sym e) ∙ fails)) (inl e)
still_among test (j ∷ js) k fails (inr i) = kept_either (test (Some j.who)) k j (those_not test js) (still_among test js k fails i)

pub was_among : (test : Option Owner → Bool) (ks : List Block) (k : Block) → Among k (those_not test ks) → Among k ks × (test (Some k.who) ≡ false)
was_among test [] k i = absurd i
was_among test (j ∷ js) k i = by (test (Some j.who)) refl (λ among. let old = was_among test js k among in (inr old.0, old.1)) i
  where
    by : (c : Bool) → test (Some j.who) ≡ c → (Among k (those_not test js) → Among k (j ∷ js) × (test (Some k.who) ≡ false))
        → Among k (if c then those_not test js else j ∷ those_not test js) → Among k (j ∷ js) × (test (Some k.who) ≡ false)
    by true e old i = old i
    by false e old (inl same) = (inl same, ap (λ (y : Block). test (Some y.who)) same ∙ e)
    by false e old (inr i) = old i

-- ---- the blocks of a birth are gone, whose region is dead

-- the store without the blocks whose owner passes a test
abbrev pub losing : (Option Owner → Bool) → (ℕ → Option Tag) → Counts → Store → Store
losing test standing counts st = record {
  holdings = record {
    pages = st.holdings.pages;
    standing = standing;
    owner = λ q. if test (st.holdings.owner q) then None else st.holdings.owner q;
    counts = counts;
  };
  ledger = record st.ledger { blocks = those_not test st.ledger.blocks };
}

module _ (n : Areas) (m : Maps) (fs : List Activation) (mem : Memory) (b : ℕ → ℕ) (st : Store) (f : Fits n m fs mem b st) (holds_blocks : HoldsBlocks n st)
    (d : ℕ) (test : Option Owner → Bool) (standing : ℕ → Option Tag) (counts : Counts)
    (other : (who : Owner) → (birth_in st.ledger who ≡ d → ⊥) → test (Some who) ≡ false)
    (named : (from : ℕ) (who : Owner) → test (Some who) ≡ false → IsNamed st from who → IsNamed (losing test standing counts st) from who) where
  abbrev lost : Memory
  lost = with_standing mem (Born d) Dead

  abbrev left : Store
  left = losing test standing counts st

  region_still : (s : Spot) (at width : ℕ) → same_region s.region (Born d) ≡ false → (r : Region) → s.region ≡ r → CellGround n fs st r at width
      → CellGround n fs left r at width
  region_still s at width differs (Frame q) e g = g
  region_still s at width differs (Own q) e g = g
  region_still s at width differs (Born q) e (inl g) = inl g
  region_still s at width differs (Born q) e (inr g) =
      let ne : q ≡ d → ⊥ = λ same. cc (differs, ap (λ r. same_region r (Born d)) e ∙ eq-eqb q d same) in
      inr (record {
        block = g.block;
        among = still_among test st.ledger.blocks g.block (other g.block.who (λ o. ne (sym g.owner ∙ o))) g.among;
        owner = g.owner;
        low = g.low;
        high = g.high;
        bottom = g.bottom;
        top = g.top;
      })

  still : (x : Name) (at width : ℕ) (v : Content) → Lies m fs lost x at width v → Ground n fs left x at width
  still (Slot g j) at width v l = f.ground (Slot g j) at width v l
  still (Cell s j) at width v l =
      region_still s at width ((other_region m fs mem (Born d) s l.lasts).0) s.region refl
      (f.ground (Cell s j) at width v (death_back m fs mem (Born d) (Cell s j) at width v l))

  pub lost_fits : Fits n m fs lost b left
  lost_fits = record {
    shows = λ x at width v l. f.shows x at width v (death_back m fs mem (Born d) x at width v l);
    apart = λ x y at width at' width' v v' ne l l'. f.apart x y at width at' width' v v' ne (death_back m fs mem (Born d) x at width v l)
        (death_back m fs mem (Born d) y at' width' v' l');
    ground = still;
    aligned = λ x at width v l. f.aligned x at width v (death_back m fs mem (Born d) x at width v l);
  }

  pub lost_blocks : HoldsBlocks n left
  lost_blocks = record {
    pages = holds_blocks.pages;
    blocks = λ c among.
        let was = was_among test st.ledger.blocks c among in
        let old = holds_blocks.blocks c was.0 in
        record {
          within = old.within;
          some = old.some;
          owned = λ q low high.
              let its = old.owned q low high in
              ap (λ t. if t then None else st.holdings.owner q) (ap test its ∙ was.1) ∙ its;
          named = named c.from c.who was.1 old.named;
        };
  }

  -- another region stands as it stood
  pub other_standing : (e : ℕ) → (e ≡ d → ⊥) → lost.standing (Born e) ≡ mem.standing (Born e)
  other_standing e ne = ap (λ c. if c then Dead else mem.standing (Born e)) (ne_eqb e d ne)

  pub dead_still : (e : ℕ) → mem.standing (Born e) ≡ Dead → lost.standing (Born e) ≡ Dead
  dead_still e dead = by (nat_eq e d)
    where
      by : (c : Bool) → (if c then Dead else mem.standing (Born e)) ≡ Dead
      by true = refl
      by false = dead

  -- one that isn't dead is another, and stood so
  pub still_stands : (e : ℕ) (now : Standing) → (now ≡ Dead → ⊥) → lost.standing (Born e) ≡ now → (e ≡ d → ⊥) × (mem.standing (Born e) ≡ now)
  still_stands e now lasts is =
      let ne : e ≡ d → ⊥ = λ same. lasts (sym is ∙ ap (λ c. if c then Dead else mem.standing (Born e)) (eq-eqb e d same)) in
      (ne, sym (other_standing e ne) ∙ is)

-- ---- a number is no one's any more, and its blocks are gone

module _ (n : Areas) (m : Maps) (fs : List Activation) (mem : Memory) (b : ℕ → ℕ) (st : Store) (f : Fits n m fs mem b st) (k : Known m mem st)
    (holds_blocks : HoldsBlocks n st) (d h : ℕ) (number : IsNumber st d h) (later : d ≡ 0 → ⊥) where
  abbrev pub freeing : Store
  freeing = record {
    holdings = without_number h st.holdings;
    ledger = record st.ledger { blocks = those_not (is_of h) st.ledger.blocks };
  }

  abbrev freed : Memory
  freed = with_standing mem (Born d) Dead

  -- a block of another birth stays
  other_owner : (who : Owner) → (birth_in st.ledger who ≡ d → ⊥) → is_of h (Some who) ≡ false
  other_owner (owner.Region r) ne = ne_eqb r h (λ same. ne (ap (λ c. st.ledger.birth_of c) same ∙ number.birth))
  other_owner (owner.Alone at room) ne = refl

  other_number : (q : ℕ) → nat_eq q h ≡ false → freeing.holdings.standing q ≡ st.holdings.standing q
  other_number q ne = ap (λ c. if c then None else st.holdings.standing q) ne

  named_on : (from : ℕ) (who : Owner) → is_of h (Some who) ≡ false → IsNamed st from who → IsNamed freeing from who
  named_on from (owner.Region r) other (inl zero_is) = inl zero_is
  named_on from (owner.Region r) other (inr live) = inr (ap is_some (other_number r other) ∙ live)
  named_on from (owner.Alone at room) other is = is

  -- ---- what is known

  its : m.number d ≡ Some h
  its = ap (λ e. m.number e) (sym number.birth) ∙ (k.held h number.tag number.held).known

  stands_on : (e : ℕ) → (e ≡ d → ⊥) → freed.standing (Born e) ≡ mem.standing (Born e)
  stands_on = other_standing n m fs mem b st f holds_blocks d (is_of h) freeing.holdings.standing freeing.holdings.counts other_owner named_on

  ends : (e : ℕ) → mem.standing (Born e) ≡ Dead → freed.standing (Born e) ≡ Dead
  ends = dead_still n m fs mem b st f holds_blocks d (is_of h) freeing.holdings.standing freeing.holdings.counts other_owner named_on

  zero_still : freeing.holdings.standing 0 ≡ None
  zero_still = by (nat_eq 0 h)
    where
      by : (c : Bool) → (if c then None else st.holdings.standing 0) ≡ None
      by true = refl
      by false = k.no_zero

  -- another number stands for another birth
  held_on : (q : ℕ) (y : Tag) → freeing.holdings.standing q ≡ Some y → Held m freed freeing q y
  held_on q y e = ⊎_elim
      (λ (z : (nat_eq q h ≡ true) × (None ≡ Some y)). absurd (none-some y z.1))
      (λ (z : (nat_eq q h ≡ false) × (st.holdings.standing q ≡ Some y)).
      let old = k.held q y z.1 in
      let ne : st.ledger.birth_of q ≡ d → ⊥ = λ same.
      eqb-false q h z.0 (same_Some q h (sym old.known ∙ ap (λ c. m.number c) same ∙ its)) in
      record { known = old.known; stands = subst (λ t. TagOf y t) (sym (stands_on (st.ledger.birth_of q) ne)) old.stands })
      (if_split (nat_eq q h) None (st.holdings.standing q) (Some y) e)

  numbered_on : (e q : ℕ) → m.number e ≡ Some q → (freed.standing (Born e) ≡ Dead → ⊥) → (e ≡ 0) ⊎ IsNumber freeing e q
  numbered_on e q known alive =
      let ne : e ≡ d → ⊥ = λ same. alive (ap (λ c. if c then Dead else mem.standing (Born e)) (eq-eqb e d same)) in
      ⊎_elim (λ (zero_is : e ≡ 0). inl zero_is)
      (λ (i : IsNumber st e q).
      let other : nat_eq q h ≡ false = ne_eqb q h (λ same. ne (sym i.birth ∙ ap (λ c. st.ledger.birth_of c) same ∙ number.birth)) in
      inr (record { tag = i.tag; held = other_number q other ∙ i.held; birth = i.birth }))
      (k.numbered e q known (λ dead. alive (ends e dead)))

  freed_known : Known m freed freeing
  freed_known = record {
    births = k.births;
    heap = stands_on 0 (λ e. later (sym e)) ∙ k.heap;
    no_zero = zero_still;
    held = held_on;
    numbered = numbered_on;
    zero_is_heap = k.zero_is_heap;
    heap_is_zero = k.heap_is_zero;
    single = λ e o at is known.
        let i = k.single e o at (still_stands n m fs mem b st f holds_blocks d (is_of h) freeing.holdings.standing freeing.holdings.counts
        other_owner named_on e Single (λ dead. cc dead) is).1 known in
        record {
          room = i.room;
          owned = ap (λ w. if is_of h w then None else w) i.owned;
          birth = i.birth;
        };
    made = k.made;
    near = k.near;
    low = k.low;
    unmade = k.unmade;
    unborn = λ e le. let u = k.unborn e le in (ends e u.0, u.1, u.2);
    unentered = k.unentered;
    uncalled = k.uncalled;
  }

  -- all of it
  pub is_freed : Changed n m m fs mem freed b freeing
  is_freed = record {
    spares = spares_standing m mem freed refl refl;
    fits = lost_fits n m fs mem b st f holds_blocks d (is_of h) freeing.holdings.standing freeing.holdings.counts other_owner named_on;
    known = freed_known;
    blocks = lost_blocks n m fs mem b st f holds_blocks d (is_of h) freeing.holdings.standing freeing.holdings.counts other_owner named_on;
  }
