-- A unique block is freed with its region: what fits still does, and its bytes may be had again.
use Rattle.std.specs.Prelude.{if◌then◌else◌}
use Rattle.std.proofs.Common.{◌≡◌, ℕ, inl, inr, ⊎_elim, false, List, Some, None, refl, sym, ap, subst, ◌∙◌}
use Rattle.std.proofs.lemmas.Bool.{ne_eqb}
use Rattle.arena_laws.specs.declared.owner.Owner.{Owner}
use Rattle.arena_laws.specs.declared.owner.Owner.TheVariants as owner
use Rattle.arena_laws.specs.Blocks.{those_not}
use Rattle.arena_laws.specs.Lawful.{is_alone, without_alone}
use Rattle.rv32_machine.specs.State.{Areas}
use Rattle.core_meaning.specs.Memory.{Born, Standing, Single, Dead, Memory, with_standing}
use Rattle.core_lines.specs.Machines.{Store}
use Rattle.core_lines.specs.Lies.{Maps, Activation, birth_in, Fits, TagOf, IsNumber, IsBlock, Known, IsNamed, HoldsBlocks}
use Rattle.core_lines.proofs.homes.Homes.{spares_standing, Changed}
use Rattle.core_lines.proofs.memory.Knowing.{not_single}
use Rattle.core_lines.proofs.regions.RegionsFreed.{lost_fits, lost_blocks, other_standing, dead_still, still_stands}

module _ (n : Areas) (m : Maps) (fs : List Activation) (mem : Memory) (b : ℕ → ℕ) (st : Store) (f : Fits n m fs mem b st) (k : Known m mem st)
    (holds_blocks : HoldsBlocks n st) (d x : ℕ) (single : mem.standing (Born d) ≡ Single) (block : IsBlock st d x) where
  abbrev pub freeing_alone : Store
  freeing_alone = record {
    holdings = without_alone x block.room st.holdings;
    ledger = record st.ledger { blocks = those_not (is_alone x) st.ledger.blocks };
  }

  abbrev freed : Memory
  freed = with_standing mem (Born d) Dead

  -- a block of another birth stays
  other_owner : (who : Owner) → (birth_in st.ledger who ≡ d → ⊥) → is_alone x (Some who) ≡ false
  other_owner (owner.Region h) ne = refl
  other_owner (owner.Alone at room) ne = ne_eqb at x (λ same. ne (ap (λ q. st.ledger.alone_birth q) same ∙ block.birth))

  named_on : (from : ℕ) (who : Owner) → is_alone x (Some who) ≡ false → IsNamed st from who → IsNamed freeing_alone from who
  named_on from (owner.Region h) other is = is
  named_on from (owner.Alone at room) other is = is

  stands_on : (e : ℕ) → (e ≡ d → ⊥) → freed.standing (Born e) ≡ mem.standing (Born e)
  stands_on = other_standing n m fs mem b st f holds_blocks d (is_alone x) freeing_alone.holdings.standing freeing_alone.holdings.counts other_owner named_on

  ends : (e : ℕ) → mem.standing (Born e) ≡ Dead → freed.standing (Born e) ≡ Dead
  ends = dead_still n m fs mem b st f holds_blocks d (is_alone x) freeing_alone.holdings.standing freeing_alone.holdings.counts other_owner named_on

  lasting : (e : ℕ) (now : Standing) → (now ≡ Dead → ⊥) → freed.standing (Born e) ≡ now → (e ≡ d → ⊥) × (mem.standing (Born e) ≡ now)
  lasting = still_stands n m fs mem b st f holds_blocks d (is_alone x) freeing_alone.holdings.standing freeing_alone.holdings.counts other_owner named_on

  freed_known : Known m freed freeing_alone
  freed_known = record {
    births = k.births;
    heap = stands_on 0 (λ e. cc (sym k.heap ∙ ap (λ c. mem.standing (Born c)) e ∙ single)) ∙ k.heap;
    no_zero = k.no_zero;
    held = λ h y e.
        let old = k.held h y e in
        let ne : st.ledger.birth_of h ≡ d → ⊥ = λ same.
        not_single y (mem.standing (Born (st.ledger.birth_of h))) old.stands (ap (λ c. mem.standing (Born c)) same ∙ single) in
        record { known = old.known; stands = subst (λ t. TagOf y t) (sym (stands_on (st.ledger.birth_of h) ne)) old.stands };
    numbered = λ e h is alive. ⊎_elim (λ (zero_is : e ≡ 0). inl zero_is)
        (λ (i : IsNumber st e h). inr (record { tag = i.tag; held = i.held; birth = i.birth }))
        (k.numbered e h is (λ dead. alive (ends e dead)));
    zero_is_heap = k.zero_is_heap;
    heap_is_zero = k.heap_is_zero;
    single = λ e o at is known.
        let old = lasting e Single (λ dead. cc dead) is in
        let i = k.single e o at old.1 known in
        let other : is_alone x (Some (owner.Alone at i.room)) ≡ false = other_owner (owner.Alone at i.room) (λ same. old.0 (sym i.birth ∙ same)) in
        record {
          room = i.room;
          owned = ap (λ t. if t then None else st.holdings.owner at) (ap (is_alone x) i.owned ∙ other) ∙ i.owned;
          birth = i.birth;
        };
    made = k.made;
    near = k.near;
    low = k.low;
    unmade = k.unmade;
    unborn = λ e le. let u = k.unborn e le in (ends e u.0, u.1, u.2);
    unentered = k.unentered;
    uncalled = k.uncalled;
  }

  pub alone_freed : Changed n m m fs mem freed b freeing_alone
  alone_freed = record {
    spares = spares_standing m mem freed refl refl;
    fits = lost_fits n m fs mem b st f holds_blocks d (is_alone x) freeing_alone.holdings.standing freeing_alone.holdings.counts other_owner named_on;
    known = freed_known;
    blocks = lost_blocks n m fs mem b st f holds_blocks d (is_alone x) freeing_alone.holdings.standing freeing_alone.holdings.counts other_owner named_on;
  }
