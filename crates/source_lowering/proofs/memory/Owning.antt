-- A function is entered, with the objects of its temporary objects, and left: what the source doesn't see.
use Rattle.std.proofs.Common.{◌≡◌, ℕ, ◌+◌, ◌<◌, ◌≤◌, List, Bool, true, false, nat_eq, Some, None, refl, sym, ap, ◌∙◌, subst, arith, eq-eqb}
use Rattle.std.specs.Prelude.{if◌then◌else◌}
use Rattle.std.proofs.lemmas.Bool.{eqb-true, eq-eqb}
use Rattle.std.proofs.lemmas.Bool.Decides.{nat_tests}
use Rattle.source_meaning.specs.Shapes.{Shape}
use Rattle.source_meaning.specs.Memory as source
use Rattle.source_meaning.specs.Steps.{World}
use Rattle.core_meaning.specs.Memory as core
use Rattle.core_meaning.specs.Memory.{Part, with_standing}
use Rattle.core_meaning.specs.Core.{Local}
use Rattle.core_meaning.specs.Meaning.{with_objects}
use Rattle.core_meaning.proofs.Spots.{region_same}
use Rattle.source_lowering.specs.Programs.{locals_of}
use Rattle.source_lowering.specs.Simulation.{region_at, at, ArePending, StaysAs, SameMemory, Bound, nothing, IsKept, Grown}
use Rattle.source_lowering.proofs.memory.Keeping.{shown_later, held_same, stays_self}
use Rattle.source_lowering.proofs.memory.Entering.{
  later_number,
  made_parts,
  made_standing,
  made_activations,
  made_calls,
  made_births,
  made_objects,
  held_on,
  pending_made,
}

live_apart : (r : source.Region) (k : ℕ) (now : core.Standing) (c : core.Memory) → (with_standing c (core.Own k) now).standing (region_at r) ≡ c.standing
    (region_at r)
live_apart (source.Frame j) k now c = refl
live_apart (source.Born j) k now c = refl

other_number : (j k : ℕ) → j < k → nat_eq j k ≡ false
other_number j k h = grind (arith, nat_tests, h)

-- ---- a function is left: its own region is dead

abbrev pub own_gone : core.Memory → ℕ → core.Memory
own_gone c k = with_standing c (core.Own k) core.Dead

pub gone_later : (b : Bound) (m : source.Memory) (c : core.Memory) (k : ℕ) → b.standing ≤ k → Grown b m c m (own_gone c k)
gone_later b m c k less = record {
  shapes = λ s shape h. h;
  lent = λ s shape v h. h;
  parts = λ t j o w h. record { content = h.content; is = h.is };
  objects = λ j h. refl;
  begun = omega arith;
  called = omega arith;
  births = omega arith;
  stays = λ d less. stays_self _;
  stands = λ j h. ap (λ z. if z then core.Dead else c.standing (core.Own j)) (other_number j k (omega (arith, h, less)));
  owned = λ j t i r h. refl;
}

pub gone_agree : (w : World) (m : source.Memory) (c : core.Memory) (k : ℕ) → SameMemory w m c → SameMemory w m (own_gone c k)
gone_agree w m c k a = record {
  cells = λ s shape x v keeps h. let one = a.cells s shape x v keeps h in record {
    contents = one.contents;
    shown = shown_later nothing w m m c (own_gone c k) shape v one.contents (gone_later nothing m c k (omega arith)) one.shown;
    held = held_same c (own_gone c k) (at s) 0 one.contents (λ t j. refl) one.held;
  };
  live = λ r. a.live r ∙ ap core.is_live (sym (live_apart r k core.Dead c));
  activations = a.activations;
  unmade = a.unmade;
  unentered = a.unentered;
  unbegun = a.unbegun;
  uncalled = a.uncalled;
  unowned = a.unowned;
  births = a.births;
  heap = a.heap;
  unborn = a.unborn;
  closed = λ r. a.closed r ∙ ap core.is_closed (sym (live_apart r k core.Dead c));
  blocks = a.blocks;
  ungranted = a.ungranted;
}

-- ---- a function is entered: its own region is live, and has its objects

abbrev pub own_opened : core.Memory → core.Memory
own_opened c = record (with_standing c (core.Own c.calls) core.Live) { calls = c.calls + 1 }

abbrev pub own_in : List Local → core.Memory → core.Memory
own_in ls c = with_objects (core.Own c.calls) ls (own_opened c)

kept_by : (b : Bool) (ls : List Local) (c : core.Memory) (t : core.Spot) (j : ℕ) (p : Part) → core.same_region t.region (core.Own c.calls) ≡ b
    → ((k : ℕ) (t : core.Spot) (j : ℕ) → c.calls ≤ k → t.region ≡ core.Own k → c.parts t j ≡ None) → c.parts t j ≡ Some p
    → (own_in ls c).parts t j ≡ Some p
kept_by true ls c t j p e un is =
    let none : None ≡ Some p = sym (un c.calls t j (omega arith) (region_same t.region (core.Own c.calls) e)) ∙ is in absurd (cc none)
kept_by false ls c t j p e un is = made_parts (core.Own c.calls) ls (own_opened c) t j e ∙ is

own_part : (w : World) (m : source.Memory) (c : core.Memory) (ls : List Local) → SameMemory w m c → (t : core.Spot) (j : ℕ) (p : Part) → c.parts t j ≡ Some p
    → (own_in ls c).parts t j ≡ Some p
own_part w m c ls a t j p is = kept_by (core.same_region t.region (core.Own c.calls)) ls c t j p refl a.uncalled is

-- what is kept there is of earlier calls
earlier : (b : Bound) (c : core.Memory) (k i : ℕ) → b.own ≤ c.calls → b.values ≡ 0 → IsKept b k i → nat_eq k c.calls ≡ false
earlier b c k i less none h =
    let f = h.0 in by (nat_eq k c.calls) refl
  where
    by : (z : Bool) → nat_eq k c.calls ≡ z → nat_eq k c.calls ≡ false
    by false e = e
    by true e =
        let same : k ≡ c.calls = eqb-true k c.calls e in
        let f = h.0 in
        let here = h.1 (omega (arith, same, f, less)) in
        absurd (omega (arith, here, none))

pub own_later : (b : Bound) (w : World) (m : source.Memory) (c : core.Memory) (ls : List Local) → SameMemory w m c → b.standing ≤ c.calls → b.own ≤ c.calls
    → b.values ≡ 0 → Grown b m c m (own_in ls c)
own_later b w m c ls a standing own values = record {
  shapes = λ s shape h. h;
  lent = λ s shape v h. h;
  parts = λ t j o width h. record { content = h.content; is = own_part w m c ls a t j _ h.is };
  objects = λ k h. refl;
  begun = omega arith;
  called = subst (λ z. c.calls ≤ z) (sym (made_calls (core.Own c.calls) ls (own_opened c))) (omega arith);
  births = subst (λ z. c.births ≤ z) (sym (made_births (core.Own c.calls) ls (own_opened c))) (omega arith);
  stays = λ d less. subst (StaysAs (c.standing (core.Born d))) (sym (made_standing (core.Own c.calls) ls (own_opened c) (core.Born d))) (stays_self _);
  stands = λ k h.
      made_standing (core.Own c.calls) ls (own_opened c) (core.Own k) ∙
      ap (λ z. if z then core.Live else c.standing (core.Own k)) (other_number k c.calls (omega (arith, h, standing)));
  owned = λ k t j r h.
      made_parts (core.Own c.calls) ls (own_opened c) t j
      (ap (λ z. core.same_region z (core.Own c.calls)) r ∙ earlier b c k t.object own values h);
}

pub own_agree : (w : World) (m : source.Memory) (c : core.Memory) (ls : List Local) → SameMemory w m c → SameMemory w m (own_in ls c)
own_agree w m c ls a = record {
  cells = λ s shape x v keeps h. let one = a.cells s shape x v keeps h in record {
    contents = one.contents;
    shown = shown_later nothing w m m c (own_in ls c) shape v one.contents (own_later nothing w m c ls a (omega arith) (omega arith) refl) one.shown;
    held = held_on c (own_in ls c) (at s) 0 one.contents (own_part w m c ls a) one.held;
  };
  live = λ r. a.live r ∙ ap core.is_live
      (sym (made_standing (core.Own c.calls) ls (own_opened c) (region_at r) ∙ live_apart r c.calls core.Live c));
  activations = a.activations ∙ sym (made_activations (core.Own c.calls) ls (own_opened c));
  unmade = a.unmade;
  unentered = λ k t j h r.
      let less : c.activations ≤ k = subst (λ z. z ≤ k) (made_activations (core.Own c.calls) ls (own_opened c)) h in
      made_parts (core.Own c.calls) ls (own_opened c) t j (ap (λ z. core.same_region z (core.Own c.calls)) r) ∙ a.unentered k t j less r;
  unbegun = λ k h.
      let two = a.unbegun k h in (two.0, made_objects (core.Own c.calls) ls (own_opened c) (core.Frame k) refl ∙ two.1);
  uncalled = λ k t j h r.
      let less : c.calls + 1 ≤ k = subst (λ z. z ≤ k) (made_calls (core.Own c.calls) ls (own_opened c)) h in
      made_parts (core.Own c.calls) ls (own_opened c) t j (ap (λ z. core.same_region z (core.Own c.calls)) r ∙ later_number k c.calls less) ∙
      a.uncalled k t j (omega (arith, less)) r;
  unowned = λ k h.
      let less : c.calls + 1 ≤ k = subst (λ z. z ≤ k) (made_calls (core.Own c.calls) ls (own_opened c)) h in
      made_objects (core.Own c.calls) ls (own_opened c) (core.Own k) (later_number k c.calls less) ∙ a.unowned k (omega (arith, less));
  births = a.births ∙ sym (made_births (core.Own c.calls) ls (own_opened c));
  heap = a.heap;
  unborn = a.unborn;
  closed = λ r. a.closed r ∙ ap core.is_closed
      (sym (made_standing (core.Own c.calls) ls (own_opened c) (region_at r) ∙ live_apart r c.calls core.Live c));
  blocks = λ d. a.blocks d ∙ sym (made_objects (core.Own c.calls) ls (own_opened c) (core.Born d) refl);
  ungranted = λ d t j r h.
      made_parts (core.Own c.calls) ls (own_opened c) t j (ap (λ z. core.same_region z (core.Own c.calls)) r) ∙
      a.ungranted d t j r (subst (λ z. z ≤ t.object) (made_objects (core.Own c.calls) ls (own_opened c) (core.Born d) refl) h);
}

-- its temporary objects are made
pub own_made : (w : World) (m : source.Memory) (c : core.Memory) (ss : List Shape) → SameMemory w m c
    → ArePending w (own_in (locals_of w ss) c) (core.Own c.calls) 0 ss
own_made w m c ss a = pending_made w ss (own_opened c) (core.Own c.calls) 0 (a.unowned c.calls (omega arith))

pub own_live : (c : core.Memory) (ls : List Local) → core.is_live ((own_in ls c).standing (core.Own c.calls)) ≡ true
own_live c ls =
    ap core.is_live (made_standing (core.Own c.calls) ls (own_opened c) (core.Own c.calls) ∙
    ap (λ z. if z then core.Live else c.standing (core.Own c.calls)) (eq-eqb c.calls c.calls refl))

pub own_counted : (c : core.Memory) (ls : List Local) → c.calls < (own_in ls c).calls
own_counted c ls = subst (λ z. c.calls < z) (sym (made_calls (core.Own c.calls) ls (own_opened c))) (omega arith)
