-- A unique block is born with its region and its object at once: what fits still does.
use Rattle.std.specs.Prelude.{if◌then◌else◌}
use Rattle.std.proofs.Common.{◌≡◌, ℕ, ◌+◌, ◌^◌, ◌<◌, ◌≤◌, inl, inr, ⊎_elim, Bool, true, false, List, ◌∷◌, Option, Some, refl, sym, ap, subst, ◌∙◌, arith}
use Rattle.std.proofs.lemmas.Bool.{ne_eqb, eq-eqb}
use Rattle.std.proofs.lemmas.Option.{none-some}
use Rattle.arena_laws.specs.declared.owner.Owner.{Owner}
use Rattle.arena_laws.specs.declared.owner.Owner.TheVariants as owner
use Rattle.arena_laws.specs.Blocks.{Block}
use Rattle.arena_laws.specs.Counts.{put, class_of, with_slot}
use Rattle.arena_laws.specs.Lawful.{is_lawful_room, with_alone}
use Rattle.rv32_machine.specs.Arrays.{longest_stack}
use Rattle.rv32_machine.specs.State.{Areas}
use Rattle.core_meaning.specs.Memory.{Born, Single, Pointer, Part, Memory, is_live, same_region, with_object}
use Rattle.core_meaning.specs.Operations.{born}
use Rattle.core_lines.specs.Machines.{Store}
use Rattle.core_lines.specs.Lies.{Maps, Shows, Activation, Name, Slot, Cell, PartLies, Lies, Among, birth_in, Fits, TagOf, IsNumber, Known, IsNamed}
use Rattle.core_lines.specs.Lies.{HoldsBlocks, Stacked}
use Rattle.core_lines.proofs.homes.Homes.{spares_standing, spares_then, Changed}
use Rattle.core_lines.proofs.memory.Growing.{placed, ObjectFits}
use Rattle.core_lines.proofs.memory.Knowing.{no_parts}
use Rattle.core_lines.proofs.regions.Granting.{class_bound, class_some, is_room, granted, granted_points}

module _ (n : Areas) (few : n.statics ≤ 2 ^ 20) (within : n.stack ≤ longest_stack)
    (m : Maps) (fs : List Activation) (mem : Memory) (b : ℕ → ℕ) (st : Store) (sp : ℕ) (stacked : Stacked n sp fs)
    (f : Fits n m fs mem b st) (k : Known m mem st) (holds_blocks : HoldsBlocks n st) where
  abbrev d : ℕ
  d = mem.births

  abbrev begun : Memory
  begun = born Single mem

  -- ---- its region, with no object yet

  abbrev counting : Store
  counting = record st { ledger = record st.ledger { births = st.ledger.births + 1 } }

  no_objects : mem.objects (Born d) ≡ 0
  no_objects = (k.unborn d (omega arith)).1

  other_standing : (e : ℕ) → (e ≡ d → ⊥) → begun.standing (Born e) ≡ mem.standing (Born e)
  other_standing e ne = ap (λ c. if c then Single else mem.standing (Born e)) (ne_eqb e d ne)

  other_birth : (e h : ℕ) → m.number e ≡ Some h → e ≡ d → ⊥
  other_birth e h is same = none-some h (sym (k.unborn d (omega arith)).2 ∙ ap (λ c. m.number c) (sym same) ∙ is)

  part_back : (s : _) (j at width : ℕ) (v : _) → PartLies m begun s j at width v → PartLies m mem s j at width v
  part_back s j at width v l = by (same_region s.region (Born d)) refl
    where
      by : (c : Bool) → same_region s.region (Born d) ≡ c → PartLies m mem s j at width v
      by true e = absurd (no_parts m mem st (Born d) no_objects k s j _ e l.has)
      by false e = record {
        base = l.base;
        offset = l.offset;
        known = l.known;
        there = l.there;
        has = l.has;
        lasts = λ dead. l.lasts (ap (λ c. if c then Single else mem.standing s.region) e ∙ dead);
      }

  back : (x : Name) (at width : ℕ) (v : _) → Lies m fs begun x at width v → Lies m fs mem x at width v
  back (Slot g j) at width v l = l
  back (Cell s j) at width v l = part_back s j at width v l

  begun_fits : Fits n m fs begun b st
  begun_fits = record {
    shows = λ x at width v l. f.shows x at width v (back x at width v l);
    apart = λ x y at width at' width' v v' ne l l'. f.apart x y at width at' width' v v' ne (back x at width v l) (back y at' width' v' l');
    ground = λ x at width v l. f.ground x at width v (back x at width v l);
    aligned = λ x at width v l. f.aligned x at width v (back x at width v l);
  }

  begun_known : Known m begun counting
  begun_known = record {
    births = ap (λ c. c + 1) k.births;
    heap = other_standing 0 (λ e. let count = k.births in omega (arith, e, count)) ∙ k.heap;
    no_zero = k.no_zero;
    held = λ h y e.
        let old = k.held h y e in
        record {
          known = old.known;
          stands = subst (λ t. TagOf y t) (sym (other_standing (st.ledger.birth_of h) (other_birth (st.ledger.birth_of h) h old.known))) old.stands;
        };
    numbered = λ e h is alive. ⊎_elim (λ (zero_is : e ≡ 0). inl zero_is)
        (λ (i : IsNumber st e h). inr (record { tag = i.tag; held = i.held; birth = i.birth }))
        (k.numbered e h is (λ dead. alive (other_standing e (other_birth e h is) ∙ dead)));
    zero_is_heap = k.zero_is_heap;
    heap_is_zero = k.heap_is_zero;
    single = λ e o at is known.
        let unmade : e ≡ d → ⊥ = λ same.
        none-some at (sym (k.unmade (Born d) o (omega (arith, no_objects))) ∙ ap (λ c. m.base (Born c) o) (sym same) ∙ known) in
        let i = k.single e o at (sym (other_standing e unmade) ∙ is) known in
        record { room = i.room; owned = i.owned; birth = i.birth };
    made = k.made;
    near = k.near;
    low = k.low;
    unmade = k.unmade;
    unborn = λ e le.
        let u = k.unborn e (omega (arith, le)) in
        (other_standing e (λ same. omega (arith, same, le)) ∙ u.0, u.1, u.2);
    unentered = k.unentered;
    uncalled = k.uncalled;
  }

  -- ---- its block

  module _ (o : ℕ → ℕ → Option Part) (bytes x : ℕ) (fits : ObjectFits o bytes) (short : bytes ≤ 4096)
      (lawful : is_lawful_room st.holdings x (class_of bytes) ≡ true) (few_pages : n.pages ≤ 4096) where
    abbrev room : ℕ
    room = class_of bytes

    abbrev births : ℕ
    births = st.ledger.births + 1

    abbrev alone : ℕ → ℕ
    alone = put x births st.ledger.alone_birth

    -- no live block begins there
    other_block : (at : ℕ) (who : Owner) → st.holdings.owner at ≡ Some who → at ≡ x → ⊥
    other_block at who owned same =
        let some = class_some bytes in
        (is_room st.holdings x room lawful).clear at who owned (omega (arith, same)) (omega (arith, same, some))

    alone_other : (at : ℕ) (who : Owner) → st.holdings.owner at ≡ Some who → alone at ≡ st.ledger.alone_birth at
    alone_other at who owned = ap (λ c. if c then births else st.ledger.alone_birth at) (ne_eqb at x (other_block at who owned))

    still : (c : Block) → Among c st.ledger.blocks → birth_in (record st.ledger { alone_birth = alone }) c.who ≡ birth_in st.ledger c.who
    still c among =
        let holds = holds_blocks.blocks c among in
        let some = holds.some in
        by c.who (holds.owned c.from (omega arith) (omega (arith, some))) holds.named
      where
        by : (who : Owner) → st.holdings.owner c.from ≡ Some who → IsNamed st c.from who
            → birth_in (record st.ledger { alone_birth = alone }) who ≡ birth_in st.ledger who
        by (owner.Region h) owned named = refl
        by (owner.Alone at its) owned named = alone_other at (owner.Alone at its) (ap (λ q. st.holdings.owner q) named ∙ owned)

    its_birth : alone x ≡ d
    its_birth = ap (λ c. if c then births else st.ledger.alone_birth x) (eq-eqb x x refl) ∙ k.births

    its_standing : begun.standing (Born d) ≡ Single
    its_standing = ap (λ c. if c then Single else mem.standing (Born d)) (eq-eqb d d refl)

    live : is_live (begun.standing (Born d)) ≡ true
    live = ap is_live its_standing

    one : begun.standing (Born d) ≡ Single → (owner.Alone x room ≡ owner.Alone x room) × (alone x ≡ d)
    one is = (refl, its_birth)

    abbrev pub single_store : Store
    single_store = record {
      holdings = with_alone x room st.holdings;
      ledger = record {
        births = births;
        birth_of = st.ledger.birth_of;
        alone_birth = alone;
        blocks = record { from = x; bytes = bytes; room = room; who = owner.Alone x room } ∷ st.ledger.blocks;
      };
    }

    abbrev pub single_maps : Maps
    single_maps = placed (Born d) (mem.objects (Born d)) x m

    grown : Changed n m single_maps fs begun (with_object begun (Born d) o) b single_store
    grown = granted n few within m fs begun b st sp stacked begun_fits holds_blocks d o bytes x fits (owner.Alone x room) room (class_bound bytes short)
        (class_some bytes) lawful (with_slot room st.holdings.counts) births alone begun_known live still
        (λ e at i. alone_other at (owner.Alone at i.room) i.owned) its_birth refl one few_pages

    pub single_born : Changed n m single_maps fs mem (with_object begun (Born d) o) b single_store
    single_born = record {
      spares = spares_then m mem m begun single_maps (with_object begun (Born d) o) grown.spares.extends (spares_standing m mem begun refl refl) grown.spares;
      fits = grown.fits;
      known = grown.known;
      blocks = grown.blocks;
    }

    pub single_points : (v : ℕ) → v ≡ x → Shows single_maps (Pointer (record { region = Born d; object = 0; cell = 0 }) 0) v × (v < 2 ^ 32)
    single_points v same =
        subst (λ c. Shows single_maps (Pointer (record { region = Born d; object = c; cell = 0 }) 0) v × (v < 2 ^ 32)) no_objects
        (granted_points n few within m fs begun b st sp stacked begun_fits holds_blocks d o bytes x fits (owner.Alone x room) room (class_bound bytes short)
        (class_some bytes) lawful (with_slot room st.holdings.counts) births alone begun_known live still
        (λ e at i. alone_other at (owner.Alone at i.room) i.owned) its_birth refl one v same few_pages)
