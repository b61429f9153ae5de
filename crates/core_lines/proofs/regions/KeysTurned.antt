-- A key is opened or closed: its number stands for another standing, and what fits still does.
use Rattle.std.specs.Prelude.{nat_eq, if◌then◌else◌}
use Rattle.std.proofs.Common.{◌≡◌, ℕ, ◌⊎◌, inl, inr, ⊎_elim, Bool, true, false, List, Some, refl, sym, ap, subst, ◌∙◌}
use Rattle.std.proofs.lemmas.Bool.{eqb-true, eqb-false, ne_eqb, eq-eqb}
use Rattle.std.proofs.lemmas.Option.{same_Some, none-some}
use Rattle.arena_laws.specs.declared.owner.Owner.{Owner}
use Rattle.arena_laws.specs.declared.owner.Owner.TheVariants as owner
use Rattle.arena_laws.specs.declared.standing.Standing.{Standing as Tag}
use Rattle.arena_laws.specs.Holdings.{is_some}
use Rattle.arena_laws.specs.Lawful.{standing_as}
use Rattle.rv32_machine.specs.State.{Areas}
use Rattle.core_meaning.specs.Memory.{Region, Frame, Own, Born, Standing, Dead, Memory, same_region, with_standing}
use Rattle.core_lines.specs.Machines.{Store}
use Rattle.core_lines.specs.Lies.{Maps, Activation, Name, Slot, Cell, PartLies, Lies, CellGround, Ground, Fits, TagOf, Held, IsNumber, Known, IsNamed}
use Rattle.core_lines.specs.Lies.{HoldsBlocks}
use Rattle.core_lines.proofs.homes.Homes.{spares_standing, Changed}
use Rattle.core_lines.proofs.memory.Fitting.{if_split}
use Rattle.core_meaning.proofs.Spots.{region_same}
use Rattle.core_lines.proofs.memory.Knowing.{not_single, not_dead}

module _ (n : Areas) (m : Maps) (fs : List Activation) (mem : Memory) (b : ℕ → ℕ) (st : Store) (f : Fits n m fs mem b st) (k : Known m mem st)
    (holds_blocks : HoldsBlocks n st) (d h : ℕ) (number : IsNumber st d h) (later : d ≡ 0 → ⊥) (now : Standing) (tag : Tag) (stands : TagOf tag now) where
  abbrev pub turning : Store
  turning = record st { holdings = standing_as h tag st.holdings }

  abbrev turned : Memory
  turned = with_standing mem (Born d) now

  -- ---- what stays

  its : m.number d ≡ Some h
  its = ap (λ e. m.number e) (sym number.birth) ∙ (k.held h number.tag number.held).known

  alive : mem.standing (Born d) ≡ Dead → ⊥
  alive dead =
      not_dead number.tag (mem.standing (Born (st.ledger.birth_of h))) (k.held h number.tag number.held).stands
      (ap (λ e. mem.standing (Born e)) number.birth ∙ dead)

  other_standing : (e : ℕ) → (e ≡ d → ⊥) → turned.standing (Born e) ≡ mem.standing (Born e)
  other_standing e ne = ap (λ c. if c then now else mem.standing (Born e)) (ne_eqb e d ne)

  its_standing : turned.standing (Born d) ≡ now
  its_standing = ap (λ c. if c then now else mem.standing (Born d)) (eq-eqb d d refl)

  other_number : (q : ℕ) → (q ≡ h → ⊥) → turning.holdings.standing q ≡ st.holdings.standing q
  other_number q ne = ap (λ c. if c then Some tag else st.holdings.standing q) (ne_eqb q h ne)

  its_number : turning.holdings.standing h ≡ Some tag
  its_number = ap (λ c. if c then Some tag else st.holdings.standing h) (eq-eqb h h refl)

  -- ---- what fits

  part_back : (s : _) (j at width : ℕ) (v : _) → PartLies m turned s j at width v → PartLies m mem s j at width v
  part_back s j at width v l = record {
    base = l.base;
    offset = l.offset;
    known = l.known;
    there = l.there;
    has = l.has;
    lasts = by (same_region s.region (Born d)) refl;
  }
    where
      by : (c : Bool) → same_region s.region (Born d) ≡ c → mem.standing s.region ≡ Dead → ⊥
      by true e dead = alive (ap (λ r. mem.standing r) (sym (region_same s.region (Born d) e)) ∙ dead)
      by false e dead = l.lasts (ap (λ c. if c then now else mem.standing s.region) e ∙ dead)

  back : (x : Name) (at width : ℕ) (v : _) → Lies m fs turned x at width v → Lies m fs mem x at width v
  back (Slot g j) at width v l = l
  back (Cell s j) at width v l = part_back s j at width v l

  region_on : (r : Region) (at width : ℕ) → CellGround n fs st r at width → CellGround n fs turning r at width
  region_on (Frame q) at width g = g
  region_on (Own q) at width g = g
  region_on (Born q) at width (inl g) = inl g
  region_on (Born q) at width (inr g) =
      inr (record { block = g.block; among = g.among; owner = g.owner; low = g.low; high = g.high; bottom = g.bottom; top = g.top })

  ground_on : (x : Name) (at width : ℕ) → Ground n fs st x at width → Ground n fs turning x at width
  ground_on (Slot g j) at width gr = gr
  ground_on (Cell s j) at width gr = region_on s.region at width gr

  turned_fits : Fits n m fs turned b turning
  turned_fits = record {
    shows = λ x at width v l. f.shows x at width v (back x at width v l);
    apart = λ x y at width at' width' v v' ne l l'. f.apart x y at width at' width' v v' ne (back x at width v l) (back y at' width' v' l');
    ground = λ x at width v l. ground_on x at width (f.ground x at width v (back x at width v l));
    aligned = λ x at width v l. f.aligned x at width v (back x at width v l);
  }

  still_number : (q : ℕ) → is_some (st.holdings.standing q) ≡ true → is_some (turning.holdings.standing q) ≡ true
  still_number q live = by (nat_eq q h)
    where
      by : (c : Bool) → is_some (if c then Some tag else st.holdings.standing q) ≡ true
      by true = refl
      by false = live

  named_on : (from : ℕ) (who : Owner) → IsNamed st from who → IsNamed turning from who
  named_on from (owner.Region q) (inl zero_is) = inl zero_is
  named_on from (owner.Region q) (inr live) = inr (still_number q live)
  named_on from (owner.Alone at room) is = is

  turned_blocks : HoldsBlocks n turning
  turned_blocks = record {
    pages = holds_blocks.pages;
    blocks = λ c among.
        let old = holds_blocks.blocks c among in
        record { within = old.within; some = old.some; owned = old.owned; named = named_on c.from c.who old.named };
  }

  -- ---- what is known

  held_on : (q : ℕ) (y : Tag) → turning.holdings.standing q ≡ Some y → Held m turned turning q y
  held_on q y e = ⊎_elim
      (λ (z : (nat_eq q h ≡ true) × (Some tag ≡ Some y)).
      let birth : st.ledger.birth_of q ≡ d = ap (λ c. st.ledger.birth_of c) (eqb-true q h z.0) ∙ number.birth in
      record {
        known = ap (λ c. m.number c) birth ∙ its ∙ ap (λ c. Some c) (sym (eqb-true q h z.0));
        stands = subst (λ c. TagOf y (turned.standing (Born c))) (sym birth)
            (subst (λ t. TagOf y t) (sym its_standing) (subst (λ t. TagOf t now) (same_Some tag y z.1) stands));
      })
      (λ (z : (nat_eq q h ≡ false) × (st.holdings.standing q ≡ Some y)).
      let old = k.held q y z.1 in
      let ne : st.ledger.birth_of q ≡ d → ⊥ = λ same.
      eqb-false q h z.0 (same_Some q h (sym old.known ∙ ap (λ c. m.number c) same ∙ its)) in
      record { known = old.known; stands = subst (λ t. TagOf y t) (sym (other_standing (st.ledger.birth_of q) ne)) old.stands })
      (if_split (nat_eq q h) (Some tag) (st.holdings.standing q) (Some y) e)

  numbered_on : (e q : ℕ) → m.number e ≡ Some q → (turned.standing (Born e) ≡ Dead → ⊥) → (e ≡ 0) ⊎ IsNumber turning e q
  numbered_on e q known lasts = by (nat_eq e d) refl
    where
      by : (c : Bool) → nat_eq e d ≡ c → (e ≡ 0) ⊎ IsNumber turning e q
      by true is =
          let same : q ≡ h = same_Some q h (sym known ∙ ap (λ c. m.number c) (eqb-true e d is) ∙ its) in
          inr (record {
            tag = tag;
            held = ap (λ c. turning.holdings.standing c) same ∙ its_number;
            birth = ap (λ c. st.ledger.birth_of c) same ∙ number.birth ∙ sym (eqb-true e d is);
          })
      by false is =
          let ne = eqb-false e d is in
          ⊎_elim (λ (zero_is : e ≡ 0). inl zero_is)
          (λ (i : IsNumber st e q).
          let other : q ≡ h → ⊥ = λ same. ne (sym i.birth ∙ ap (λ c. st.ledger.birth_of c) same ∙ number.birth) in
          inr (record { tag = i.tag; held = other_number q other ∙ i.held; birth = i.birth }))
          (k.numbered e q known (λ dead. lasts (other_standing e ne ∙ dead)))

  turned_known : Known m turned turning
  turned_known = record {
    births = k.births;
    heap = other_standing 0 (λ e. later (sym e)) ∙ k.heap;
    no_zero = other_number 0 (λ e. none-some number.tag (sym k.no_zero ∙ ap (λ c. st.holdings.standing c) e ∙ number.held)) ∙ k.no_zero;
    held = held_on;
    numbered = numbered_on;
    zero_is_heap = k.zero_is_heap;
    heap_is_zero = k.heap_is_zero;
    single = λ e o at is known.
        let i = k.single e o at (sym (other_standing e (λ same.
        not_single tag now stands (sym its_standing ∙ ap (λ c. turned.standing (Born c)) (sym same) ∙ is))) ∙ is) known in
        record { room = i.room; owned = i.owned; birth = i.birth };
    made = k.made;
    near = k.near;
    low = k.low;
    unmade = k.unmade;
    unborn = λ e le.
        let u = k.unborn e le in
        (other_standing e (λ same. alive (ap (λ c. mem.standing (Born c)) (sym same) ∙ u.0)) ∙ u.0, u.1, u.2);
    unentered = k.unentered;
    uncalled = k.uncalled;
  }

  pub is_turned : Changed n m m fs mem turned b turning
  is_turned = record { spares = spares_standing m mem turned refl refl; fits = turned_fits; known = turned_known; blocks = turned_blocks }
