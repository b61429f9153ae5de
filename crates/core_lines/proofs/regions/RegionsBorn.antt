-- A region or a key is born: it has a number that no live one has, and no object yet; what fits still does.
use Rattle.std.specs.Prelude.{nat_eq, if◌then◌else◌}
use Rattle.std.proofs.Common.{◌≡◌, ℕ, ◌+◌, ◌≤◌, ◌⊎◌, inl, inr, ⊎_elim, Bool, true, false, List, Some, None, refl, sym, ap, subst, ◌∙◌, arith}
use Rattle.std.proofs.lemmas.Bool.{eqb-true, ne_eqb, eq-eqb}
use Rattle.std.proofs.lemmas.Option.{same_Some, none-some}
use Rattle.arena_laws.specs.declared.owner.Owner.{Owner}
use Rattle.arena_laws.specs.declared.owner.Owner.TheVariants as owner
use Rattle.arena_laws.specs.declared.standing.Standing.{Standing as Tag}
use Rattle.arena_laws.specs.Counts.{put}
use Rattle.arena_laws.specs.Holdings.{is_some}
use Rattle.arena_laws.specs.Lawful.{with_number}
use Rattle.rv32_machine.specs.State.{Areas}
use Rattle.core_meaning.specs.Memory.{Region, Frame, Own, Born, Standing, Dead, Memory, same_region}
use Rattle.core_meaning.specs.Operations.{born}
use Rattle.core_lines.specs.Machines.{Store}
use Rattle.core_lines.specs.Lies.{
  Maps,
  Extends,
  Activation,
  Name,
  Slot,
  Cell,
  PartLies,
  Lies,
  birth_in,
  CellGround,
  Ground,
  Fits,
  TagOf,
  Held,
  IsNumber,
  Known,
  IsNamed,
  HoldsBlocks,
}
use Rattle.core_lines.proofs.homes.Homes.{Changed}
use Rattle.core_lines.proofs.memory.Fitting.{if_split, shows_on}
use Rattle.core_lines.proofs.memory.Knowing.{no_parts, not_single}

module _ (n : Areas) (m : Maps) (fs : List Activation) (mem : Memory) (b : ℕ → ℕ) (st : Store) (f : Fits n m fs mem b st) (k : Known m mem st)
    (holds_blocks : HoldsBlocks n st) (now : Standing) (tag : Tag) (stands : TagOf tag now) (h : ℕ) (low : 1 ≤ h) (free : st.holdings.standing h ≡ None) where
  abbrev d : ℕ
  d = mem.births

  abbrev pub numbering : Store
  numbering = record {
    holdings = with_number h tag st.holdings;
    ledger = record st.ledger { births = st.ledger.births + 1; birth_of = put h (st.ledger.births + 1) st.ledger.birth_of };
  }

  abbrev pub numbered_maps : Maps
  numbered_maps = record m { number = put d (Some h) m.number }

  abbrev mem' : Memory
  mem' = born now mem

  -- ---- what stays

  none_yet : m.number d ≡ None
  none_yet = (k.unborn d (omega arith)).2

  numbered_extends : Extends m numbered_maps
  numbered_extends = record {
    base = λ r o x e. e;
    number = λ e q is. ap (λ c. if c then Some h else m.number e) (ne_eqb e d (λ same. none-some q (sym none_yet ∙ ap (λ c. m.number c) (sym same) ∙ is)))
        ∙ is;
  }

  other_standing : (e : ℕ) → (e ≡ d → ⊥) → mem'.standing (Born e) ≡ mem.standing (Born e)
  other_standing e ne = ap (λ c. if c then now else mem.standing (Born e)) (ne_eqb e d ne)

  its_standing : mem'.standing (Born d) ≡ now
  its_standing = ap (λ c. if c then now else mem.standing (Born d)) (eq-eqb d d refl)

  other_birth : (q : ℕ) → (q ≡ h → ⊥) → numbering.ledger.birth_of q ≡ st.ledger.birth_of q
  other_birth q ne = ap (λ c. if c then st.ledger.births + 1 else st.ledger.birth_of q) (ne_eqb q h ne)

  its_birth : numbering.ledger.birth_of h ≡ d
  its_birth = ap (λ c. if c then st.ledger.births + 1 else st.ledger.birth_of h) (eq-eqb h h refl) ∙ k.births

  other_number : (q : ℕ) → (q ≡ h → ⊥) → numbering.holdings.standing q ≡ st.holdings.standing q
  other_number q ne = ap (λ c. if c then Some tag else st.holdings.standing q) (ne_eqb q h ne)

  its_number : numbering.holdings.standing h ≡ Some tag
  its_number = ap (λ c. if c then Some tag else st.holdings.standing h) (eq-eqb h h refl)

  -- a live number is another one
  live_other : (q : ℕ) (y : Tag) → st.holdings.standing q ≡ Some y → q ≡ h → ⊥
  live_other q y is same = none-some y (sym free ∙ ap (λ c. st.holdings.standing c) (sym same) ∙ is)

  -- ---- what fits

  part_back : (s : _) (j at width : ℕ) (v : _) → PartLies numbered_maps mem' s j at width v → PartLies m mem s j at width v
  part_back s j at width v l = by (same_region s.region (Born d)) refl
    where
      by : (c : Bool) → same_region s.region (Born d) ≡ c → PartLies m mem s j at width v
      by true e = absurd (no_parts m mem st (Born d) (k.unborn d (omega arith)).1 k s j _ e l.has)
      by false e = record {
        base = l.base;
        offset = l.offset;
        known = l.known;
        there = l.there;
        has = l.has;
        lasts = λ dead. l.lasts (ap (λ c. if c then now else mem.standing s.region) e ∙ dead);
      }

  back : (x : Name) (at width : ℕ) (v : _) → Lies numbered_maps fs mem' x at width v → Lies m fs mem x at width v
  back (Slot g j) at width v l = l
  back (Cell s j) at width v l = part_back s j at width v l

  -- a live block is whose it was
  named_on : (from : ℕ) (who : Owner) → IsNamed st from who → IsNamed numbering from who × (birth_in numbering.ledger who ≡ birth_in st.ledger who)
  named_on from (owner.Region g) (inl zero_is) = (inl zero_is, other_birth g (λ same. omega (arith, same, zero_is, low)))
  named_on from (owner.Region g) (inr live) =
      let ne : g ≡ h → ⊥ = λ same. cc (live, ap (λ c. is_some (st.holdings.standing c)) same, ap is_some free) in
      (inr (ap is_some (other_number g ne) ∙ live), other_birth g ne)
  named_on from (owner.Alone at room) is = (is, refl)

  region_on : (r : Region) (at width : ℕ) → CellGround n fs st r at width → CellGround n fs numbering r at width
  region_on (Frame q) at width g = g
  region_on (Own q) at width g = g
  region_on (Born q) at width (inl g) = inl g
  region_on (Born q) at width (inr g) = inr (record {
    block = g.block;
    among = g.among;
    owner = (named_on g.block.from g.block.who (holds_blocks.blocks g.block g.among).named).1 ∙ g.owner;
    low = g.low;
    high = g.high;
    bottom = g.bottom;
    top = g.top;
  })

  ground_on : (x : Name) (at width : ℕ) → Ground n fs st x at width → Ground n fs numbering x at width
  ground_on (Slot g j) at width gr = gr
  ground_on (Cell s j) at width gr = region_on s.region at width gr

  numbered_fits : Fits n numbered_maps fs mem' b numbering
  numbered_fits = record {
    shows = λ x at width v l. shows_on m numbered_maps v _ numbered_extends (f.shows x at width v (back x at width v l));
    apart = λ x y at width at' width' v v' ne l l'. f.apart x y at width at' width' v v' ne (back x at width v l) (back y at' width' v' l');
    ground = λ x at width v l. ground_on x at width (f.ground x at width v (back x at width v l));
    aligned = λ x at width v l. f.aligned x at width v (back x at width v l);
  }

  numbered_blocks : HoldsBlocks n numbering
  numbered_blocks = record {
    pages = holds_blocks.pages;
    blocks = λ c among. let old = holds_blocks.blocks c among in record {
      within = old.within;
      some = old.some;
      owned = old.owned;
      named = (named_on c.from c.who old.named).0;
    };
  }

  -- ---- what is known

  held_on : (q : ℕ) (y : Tag) → numbering.holdings.standing q ≡ Some y → Held numbered_maps mem' numbering q y
  held_on q y e = ⊎_elim
      (λ (z : (nat_eq q h ≡ true) × (Some tag ≡ Some y)).
      let same : q ≡ h = eqb-true q h z.0 in
      let birth : numbering.ledger.birth_of q ≡ d = ap (λ c. numbering.ledger.birth_of c) same ∙ its_birth in
      record {
        known = ap (λ c. numbered_maps.number c) birth ∙ ap (λ c. if c then Some h else m.number d) (eq-eqb d d refl) ∙ ap (λ c. Some c) (sym same);
        stands = subst (λ c. TagOf y (mem'.standing (Born c))) (sym birth)
            (subst (λ t. TagOf y t) (sym its_standing) (subst (λ t. TagOf t now) (same_Some tag y z.1) stands));
      })
      (λ (z : (nat_eq q h ≡ false) × (st.holdings.standing q ≡ Some y)).
      let old = k.held q y z.1 in
      let birth : numbering.ledger.birth_of q ≡ st.ledger.birth_of q = other_birth q (live_other q y z.1) in
      let ne : st.ledger.birth_of q ≡ d → ⊥ = λ same. none-some q (sym none_yet ∙ ap (λ c. m.number c) (sym same) ∙ old.known) in
      record {
        known = ap (λ c. numbered_maps.number c) birth ∙ numbered_extends.number (st.ledger.birth_of q) q old.known;
        stands = subst (λ c. TagOf y (mem'.standing (Born c))) (sym birth) (subst (λ t. TagOf y t) (sym (other_standing (st.ledger.birth_of q) ne)) old.stands);
      })
      (if_split (nat_eq q h) (Some tag) (st.holdings.standing q) (Some y) e)

  numbered_on : (e q : ℕ) → numbered_maps.number e ≡ Some q → (mem'.standing (Born e) ≡ Dead → ⊥) → (e ≡ 0) ⊎ IsNumber numbering e q
  numbered_on e q is alive = ⊎_elim
      (λ (z : (nat_eq e d ≡ true) × (Some h ≡ Some q)).
      let same : h ≡ q = same_Some h q z.1 in
      inr (record {
        tag = tag;
        held = ap (λ c. numbering.holdings.standing c) (sym same) ∙ its_number;
        birth = ap (λ c. numbering.ledger.birth_of c) (sym same) ∙ its_birth ∙ sym (eqb-true e d z.0);
      }))
      (λ (z : (nat_eq e d ≡ false) × (m.number e ≡ Some q)).
      let still : mem'.standing (Born e) ≡ mem.standing (Born e) = ap (λ c. if c then now else mem.standing (Born e)) z.0 in
      ⊎_elim (λ (zero_is : e ≡ 0). inl zero_is)
      (λ (i : IsNumber st e q).
      let ne = live_other q i.tag i.held in
      inr (record { tag = i.tag; held = other_number q ne ∙ i.held; birth = other_birth q ne ∙ i.birth }))
      (k.numbered e q z.1 (λ dead. alive (still ∙ dead))))
      (if_split (nat_eq e d) (Some h) (m.number e) (Some q) is)

  numbered_known : Known numbered_maps mem' numbering
  numbered_known = record {
    births = ap (λ c. c + 1) k.births;
    heap = other_standing 0 (λ e. let count = k.births in omega (arith, e, count)) ∙ k.heap;
    no_zero = other_number 0 (λ e. omega (arith, e, low)) ∙ k.no_zero;
    held = held_on;
    numbered = numbered_on;
    zero_is_heap = numbered_extends.number 0 0 k.zero_is_heap;
    heap_is_zero = other_birth 0 (λ e. omega (arith, e, low)) ∙ k.heap_is_zero;
    single = λ e o at is known.
        let i = k.single e o at
        (sym (other_standing e (λ same. not_single tag now stands (sym its_standing ∙ ap (λ c. mem'.standing (Born c)) (sym same) ∙ is))) ∙ is) known in
        record { room = i.room; owned = i.owned; birth = i.birth };
    made = k.made;
    near = k.near;
    low = k.low;
    unmade = k.unmade;
    unborn = λ e le.
        let u = k.unborn e (omega (arith, le)) in
        let ne : e ≡ d → ⊥ = λ same. omega (arith, same, le) in
        (other_standing e ne ∙ u.0, u.1, ap (λ c. if c then Some h else m.number e) (ne_eqb e d ne) ∙ u.2);
    unentered = k.unentered;
    uncalled = k.uncalled;
  }

  -- all of it
  pub is_born : Changed n m numbered_maps fs mem mem' b numbering
  is_born = record {
    spares = record {
      extends = numbered_extends;
      unbased = λ q o made none. none;
      made = λ q. omega arith;
      parts = λ q o made none p e. e;
    };
    fits = numbered_fits;
    known = numbered_known;
    blocks = numbered_blocks;
  }

  pub its_number_is : numbered_maps.number d ≡ Some h
  its_number_is = ap (λ c. if c then Some h else m.number d) (eq-eqb d d refl)
