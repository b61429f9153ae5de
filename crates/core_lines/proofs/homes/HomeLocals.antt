-- A local that is in a register gets another value: no byte of memory changes, and no other local.
use Rattle.std.specs.Prelude.{nat_eq, ◌&&◌, if◌then◌else◌}
use Rattle.std.proofs.Common.{◌≡◌, ℕ, suc, ◌%◌, ◌^◌, ◌<◌, Bool, true, false, List, [], ◌∷◌, Some, None, refl, sym, ap, ◌∙◌, subst}
use Rattle.std.proofs.lemmas.Bool.{eqb-true, eq-eqb, and_parts, and_from}
use Rattle.std.proofs.lemmas.Option.{same_Some, none-some}
use Rattle.rv32_machine.specs.State.{Areas}
use Rattle.core_meaning.specs.Memory.{Spot, Content, Part, Memory, same_spot, with_part}
use Rattle.core_lines.specs.Homes.{is_home}
use Rattle.core_lines.specs.Machines.{Machine, Store}
use Rattle.core_lines.specs.Lies.{Maps, Shows, Activation, Name, Slot, Cell, PartLies, Lies, Fits, HomeLies, HomesLie, HasNone, local_at}
use Rattle.core_lines.proofs.memory.Relations.{World, IsInOrder, Stands}
use Rattle.core_lines.proofs.Steps.{state_at}
use Rattle.core_lines.proofs.memory.Slots.{Kept}
use Rattle.core_meaning.proofs.Spots.{spot_same}
use Rattle.core_lines.proofs.homes.Homes.{other_home, no_home}
use Rattle.core_lines.proofs.memory.Storing.{known_part}

-- ---- a part without an address gets another content

pub unbased_fits : (n : Areas) (m : Maps) (fs : List Activation) (mem : Memory) (b : ℕ → ℕ) (st : Store) (s : Spot) (j : ℕ) (p : Part)
    → m.base s.region s.object ≡ None → Fits n m fs mem b st → Fits n m fs (with_part mem s j p) b st
unbased_fits n m fs mem b st s j p none f = record {
  shows = λ x at width v h. f.shows x at width v (back x at width v h);
  apart = λ x y at width at' width' v v' ne h h'. f.apart x y at width at' width' v v' ne (back x at width v h) (back y at' width' v' h');
  ground = λ x at width v h. f.ground x at width v (back x at width v h);
  aligned = λ x at width v h. f.aligned x at width v (back x at width v h);
}
  where
    back : (x : Name) (at width : ℕ) (v : Content) → Lies m fs (with_part mem s j p) x at width v → Lies m fs mem x at width v
    back (Slot g k) at width v h = h
    back (Cell t i) at width v h = by (same_spot t s && nat_eq i j) refl
      where
        by : (c : Bool) → (same_spot t s && nat_eq i j) ≡ c → PartLies m mem t i at width v
        by true e =
            let is = spot_same t s (and_parts (same_spot t s) (nat_eq i j) e).0 in
            absurd (none-some h.base (sym none ∙ ap (λ (u : Spot). m.base u.region u.object) (sym is) ∙ h.known))
        by false e = record {
          base = h.base;
          offset = h.offset;
          known = h.known;
          there = h.there;
          has = ap (λ c. if c then Some p else mem.parts t i) (sym e) ∙ h.has;
          lasts = h.lasts;
        }

-- the part of another local stays, and this one's is the new one
part_other : (mem : Memory) (k o q c : ℕ) (p : Part) → ((q ≡ k) × (c ≡ o) → ⊥) → (with_part mem (local_at k o) 0 p).parts (local_at q c) 0
    ≡ mem.parts (local_at q c) 0
part_other mem k o q c p other = by (same_spot (local_at q c) (local_at k o) && nat_eq 0 0) refl
  where
    by : (b : Bool) → (same_spot (local_at q c) (local_at k o) && nat_eq 0 0) ≡ b
        → (if same_spot (local_at q c) (local_at k o) && nat_eq 0 0 then Some p else mem.parts (local_at q c) 0) ≡ mem.parts (local_at q c) 0
    by true e =
        let spot = (and_parts (same_spot (local_at q c) (local_at k o)) (nat_eq 0 0) e).0 in
        let rest = and_parts (nat_eq q k) (nat_eq c o && nat_eq 0 0) spot in
        absurd (other (eqb-true q k rest.0, eqb-true c o (and_parts (nat_eq c o) (nat_eq 0 0) rest.1).0))
    by false e = ap (λ b. if b then Some p else mem.parts (local_at q c) 0) e

part_here : (mem : Memory) (k o : ℕ) (p : Part) → (with_part mem (local_at k o) 0 p).parts (local_at k o) 0 ≡ Some p
part_here mem k o p = ap (λ b. if b then Some p else mem.parts (local_at k o) 0)
    (and_from (same_spot (local_at k o) (local_at k o)) (nat_eq 0 0) (and_from (nat_eq k k) (nat_eq o o && nat_eq 0 0) (eq-eqb k k refl)
    (and_from (nat_eq o o) (nat_eq 0 0) (eq-eqb o o refl) refl)) refl)

home_other : (m : Maps) (mem : Memory) (k o q c value : ℕ) (p : Part) → ((q ≡ k) × (c ≡ o) → ⊥) → HomeLies m mem q c value
    → HomeLies m (with_part mem (local_at k o) 0 p) q c value
home_other m mem k o q c value p other h = record {
  unbased = h.unbased;
  made = h.made;
  shows = λ r e. h.shows r (sym (part_other mem k o q c p other) ∙ e);
}

-- those of other activations, none of which has the block's locals
homes_besides : (m : Maps) (mem : Memory) (k o : ℕ) (p : Part) (fs : List Activation) (registers : ℕ → ℕ) → HasNone k fs → HomesLie m mem fs registers
    → HomesLie m (with_part mem (local_at k o) 0 p) fs registers
homes_besides m mem k o p [] registers none h = h
homes_besides m mem k o p (a ∷ fs) registers none h = (
  record {
    small = h.0.small;
    lie = λ q c r e. home_other m mem k o q c (registers r) p (λ same. none.0 c r (ap (λ i. a.homes i c) (sym same.0) ∙ e)) (h.0.lie q c r e);
    apart = h.0.apart;
    saved = h.0.saved;
    others = h.0.others;
  },
  h.1,
  homes_besides m mem k o p fs a.callers none.1 h.2,
)

-- ---- where a machine stands

module _ (w : World) (order : IsInOrder w) (mem : Memory) (place : ℕ) (m : Maps) (a : Activation) (fs : List Activation) (sp : ℕ) (s : Machine)
    (stands : Stands w mem place m (a ∷ fs) sp sp s) (k o r : ℕ) (is : a.homes k o ≡ Some (suc r)) (part : Part)
    (has_part : mem.parts (local_at k o) 0 ≡ Some part) (v : Content) where
  abbrev stored : Memory
  stored = with_part mem (local_at k o) 0 (record part { content = v })

  home : is_home (suc r) ≡ true
  home = (stands.homes.0.saved k o (suc r) is).0

  -- with another value in the register, and in no other but x7
  pub home_stored : (place' : ℕ) (new : ℕ → ℕ) → place' % 4 ≡ 0 → Kept (suc r) new s.registers → Shows m v (new (suc r)) → new (suc r) < 2 ^ 32
      → Stands w stored place' m (a ∷ fs) sp sp (state_at place' new s.bytes s.store)
  home_stored place' new aligned kept shows below =
      let h = stands.homes.0 in
      let mine = h.lie k o (suc r) is in
      let same : (q : ℕ) → is_home q ≡ true → nat_eq q (suc r) ≡ false → new q ≡ s.registers q = λ q yes other. kept q (other_home 7 q refl yes) other in
      record {
        runs = refl;
        there = refl;
        aligned = aligned;
        pointer = kept 2 refl (no_home 2 (suc r) refl home) ∙ stands.pointer;
        stack_start = kept 3 refl (no_home 3 (suc r) refl home) ∙ stands.stack_start;
        small = stands.small;
        kept = stands.kept;
        stacked = stands.stacked;
        fits = unbased_fits w.areas m (a ∷ fs) mem s.bytes s.store (local_at k o) 0 (record part { content = v }) mine.unbased stands.fits;
        homes = (
          record {
            small = λ q yes. small q (nat_eq q (suc r)) refl (same q yes) (h.small q yes);
            lie = λ q c t e. lies q c t e (nat_eq t (suc r)) refl (same t (h.saved q c t e).0) mine (h.lie q c t e);
            apart = h.apart;
            saved = h.saved;
            others = λ q yes not. others q (nat_eq q (suc r)) refl (same q yes) not (h.others q yes not);
          },
          stands.homes.1,
          homes_besides m mem k o (record part { content = v }) fs a.callers (stands.homes.1 k o (suc r) is) stands.homes.2,
        );
        known = known_part m mem s.store (local_at k o) 0 part v has_part stands.known;
        holds_blocks = stands.holds_blocks;
        data_based = stands.data_based;
      }
    where
      small : (q : ℕ) (c : Bool) → nat_eq q (suc r) ≡ c → (nat_eq q (suc r) ≡ false → new q ≡ s.registers q) → s.registers q < 2 ^ 32 → new q < 2 ^ 32
      small q true e same old = subst (λ i. new i < 2 ^ 32) (sym (eqb-true q (suc r) e)) below
      small q false e same old = subst (λ i. i < 2 ^ 32) (sym (same e)) old

      others : (q : ℕ) (c : Bool) → nat_eq q (suc r) ≡ c → (nat_eq q (suc r) ≡ false → new q ≡ s.registers q) → a.saves q ≡ false
          → s.registers q ≡ a.callers q → new q ≡ a.callers q
      others q true e same not old =
          absurd (cc (not, (stands.homes.0.saved k o (suc r) is).1, ap a.saves (eqb-true q (suc r) e)))
      others q false e same not old = same e ∙ old

      lies : (q c t : ℕ) → a.homes q c ≡ Some t → (b : Bool) → nat_eq t (suc r) ≡ b → (nat_eq t (suc r) ≡ false → new t ≡ s.registers t)
          → HomeLies m mem k o (s.registers (suc r)) → HomeLies m mem q c (s.registers t) → HomeLies m stored q c (new t)
      lies q c t e true same_register same mine its =
          let register = eqb-true t (suc r) same_register in
          let one = stands.homes.0.apart q c k o (suc r) (e ∙ ap (λ i. Some i) register) is in
          subst (λ i. HomeLies m stored q c (new i)) (sym register)
          (subst (λ i. HomeLies m stored i c (new (suc r))) (sym one.0)
          (subst (λ i. HomeLies m stored k i (new (suc r))) (sym one.1) (record {
            unbased = mine.unbased;
            made = mine.made;
            shows = λ p found. subst (λ (x : Part). Shows m x.content (new (suc r)))
                (same_Some (record part { content = v }) p (sym (part_here mem k o (record part { content = v })) ∙ found)) shows;
          })))
      lies q c t e false other same mine its =
          subst (λ i. HomeLies m stored q c i) (sym (same other))
          (home_other m mem k o q c (s.registers t) (record part { content = v }) (λ both.
          let again : a.homes k o ≡ Some t = ap (λ i. a.homes i o) (sym both.0) ∙ ap (λ i. a.homes q i) (sym both.1) ∙ e in
          let equal = same_Some t (suc r) (sym again ∙ is) in
          absurd (cc (other, eq-eqb t (suc r) equal))) its)
