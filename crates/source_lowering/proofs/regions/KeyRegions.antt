-- Dynamic regions are born closed, opened, closed, and freed by their keys, in the source and in Core.
use Rattle.std.proofs.Common.{◌≡◌, ℕ, ◌+◌, ◌<◌, ◌≤◌, Bool, true, false, nat_eq, nat_lt, refl, sym, ap, ◌∙◌, subst, arith}
use Rattle.std.specs.Prelude.{if◌then◌else◌}
use Rattle.std.proofs.lemmas.Bool.{eqb-true, false≢true}
use Rattle.std.proofs.lemmas.Bool.Decides.{nat_tests}
use Rattle.cyc_words.specs.Events as events
use Rattle.step_trees.specs.Trees.{Says}
use Rattle.source_meaning.specs.Memory as source
use Rattle.source_meaning.specs.Memory.{KeyOf, is_closed, is_live, same_region, state_is_closed, state_is_live}
use Rattle.source_meaning.specs.Steps as steps
use Rattle.source_meaning.specs.Steps.{World}
use Rattle.source_meaning.specs.Regions.{key_closed, key_freed, key_opened}
use Rattle.core_meaning.specs.Memory as core
use Rattle.core_meaning.specs.Memory.{Birth}
use Rattle.core_meaning.specs.Core.{Program, KeyClose, KeyFree, KeyNew, KeyOpen}
use Rattle.core_meaning.specs.Steps as core_steps
use Rattle.core_meaning.specs.Steps.{Config, with_memory, with_temp}
use Rattle.core_meaning.specs.Operations.{born, does}
use Rattle.source_lowering.specs.Simulation.{region_at, at, BothVisible, Bound, Grown, IsDynamic, Same, SameMemory, StaysAs, nothing}
use Rattle.source_lowering.proofs.memory.Keeping.{held_same, region_as, shown_later, stays_self}
use Rattle.source_lowering.proofs.memory.Entering.{later_number}
use Rattle.source_lowering.proofs.Runs.{says_same, stuck_same}
use Rattle.source_lowering.proofs.regions.Regions.{core_freed, source_freed, stays_before}

-- ---- the state of a region changes

abbrev pub source_stated : source.Memory → ℕ → source.State → source.Memory
source_stated m r x = source.with_state m (source.Born r) x

abbrev pub core_stated : core.Memory → ℕ → core.Standing → core.Memory
core_stated c r y = core.with_standing c (core.Born r) y

-- the source and Core say the same of a region
record IsStated (x : source.State) (y : core.Standing) : Type 0 where
  live : state_is_live x ≡ core.is_live y
  closed : state_is_closed x ≡ core.is_closed y

live_stated : (q r : source.Region) (b : Bool) (x old : source.State) (y now : core.Standing) → same_region q r ≡ b → IsStated x y
    → state_is_live old ≡ core.is_live now
    → state_is_live (if same_region q r then x else old) ≡ core.is_live (if core.same_region (region_at q) (region_at r) then y else now)
live_stated q r true x old y now e s h = rw (region_as q r, e) s.live
live_stated q r false x old y now e s h = rw (region_as q r, e) h

closed_stated : (q r : source.Region) (b : Bool) (x old : source.State) (y now : core.Standing) → same_region q r ≡ b → IsStated x y
    → state_is_closed old ≡ core.is_closed now
    → state_is_closed (if same_region q r then x else old) ≡ core.is_closed (if core.same_region (region_at q) (region_at r) then y else now)
closed_stated q r true x old y now e s h = rw (region_as q r, e) s.closed
closed_stated q r false x old y now e s h = rw (region_as q r, e) h

stays_stated : (b : Bool) (d r : ℕ) (c : core.Memory) (y : core.Standing) → nat_eq d r ≡ b → StaysAs (c.standing (core.Born r)) y
    → StaysAs (c.standing (core.Born d)) (if b then y else c.standing (core.Born d))
stays_stated true d r c y e h = subst (λ z. StaysAs (c.standing (core.Born z)) y) (sym (eqb-true d r e)) h
stays_stated false d r c y e h = stays_self _

stated_later : (b : Bound) (m : source.Memory) (c : core.Memory) (r : ℕ) (x : source.State) (y : core.Standing) → StaysAs (c.standing (core.Born r)) y
    → Grown b m c (source_stated m r x) (core_stated c r y)
stated_later b m c r x y h = record {
  shapes = λ t sh g. record { content = g.content; is = g.is };
  lent = λ s shape v g. g;
  parts = λ t j o w g. record { content = g.content; is = g.is };
  objects = λ j g. refl;
  begun = omega arith;
  called = omega arith;
  births = omega arith;
  stays = λ d less. stays_stated (nat_eq d r) d r c y refl h;
  stands = λ j g. refl;
  owned = λ j t i e g. refl;
}

stated_agree : (w : World) (m : source.Memory) (c : core.Memory) (r : ℕ) (x : source.State) (y : core.Standing) → r < m.births → IsStated x y
    → StaysAs (c.standing (core.Born r)) y → SameMemory w m c → SameMemory w (source_stated m r x) (core_stated c r y)
stated_agree w m c r x y less s h a = record {
  cells = λ t shape z v keeps g. let one = a.cells t shape z v keeps g in record {
    contents = one.contents;
    shown = shown_later nothing w m (source_stated m r x) c (core_stated c r y) shape v one.contents (stated_later nothing m c r x y h) one.shown;
    held = held_same c (core_stated c r y) (at t) 0 one.contents (λ u j. refl) one.held;
  };
  live = λ q. live_stated q (source.Born r) (same_region q (source.Born r)) x (m.state q) y (c.standing (region_at q)) refl s (a.live q);
  activations = a.activations;
  unmade = a.unmade;
  unentered = a.unentered;
  unbegun = a.unbegun;
  uncalled = a.uncalled;
  unowned = a.unowned;
  births = a.births;
  heap = a.heap;
  closed = λ q. closed_stated q (source.Born r) (same_region q (source.Born r)) x (m.state q) y (c.standing (region_at q)) refl s (a.closed q);
  unborn = λ d g.
      let two = a.unborn d g in (two.0, ap (λ b. if b then x else m.state (source.Born d)) (later_number d r (omega (arith, less, g))) ∙ two.1);
  blocks = a.blocks;
  ungranted = a.ungranted;
}

-- ---- a dynamic region is born

abbrev pub closed_born : source.Memory → source.Memory
closed_born m = source.with_state (record m { births = m.births + 1 }) (source.Born m.births) source.Closed

abbrev pub key_born : core.Memory → core.Memory
key_born c = born core.Closed c

pub key_born_later : (b : Bound) (m : source.Memory) (c : core.Memory) → Grown b m c (closed_born m) (key_born c)
key_born_later b m c = record {
  shapes = λ t sh g. record { content = g.content; is = g.is };
  lent = λ s shape v h. h;
  parts = λ t j o x g. record { content = g.content; is = g.is };
  objects = λ j h. refl;
  begun = omega arith;
  called = omega arith;
  births = omega arith;
  stays = λ d less. stays_before (nat_eq d c.births) d c.births core.Closed (c.standing (core.Born d)) refl less;
  stands = λ j h. refl;
  owned = λ j t i e h. refl;
}

pub key_born_agree : (w : World) (m : source.Memory) (c : core.Memory) → SameMemory w m c → SameMemory w (closed_born m) (key_born c)
key_born_agree w m c a = record {
  cells = λ s shape x v keeps h. let one = a.cells s shape x v keeps h in record {
    contents = one.contents;
    shown = shown_later nothing w m (closed_born m) c (key_born c) shape v one.contents (key_born_later nothing m c) one.shown;
    held = held_same c (key_born c) (at s) 0 one.contents (λ t j. refl) one.held;
  };
  live = λ q.
      subst (λ d. state_is_live ((closed_born m).state q)
      ≡ core.is_live (if core.same_region (region_at q) (core.Born d) then core.Closed else c.standing (region_at q))) a.births
      (live_stated q (source.Born m.births) (same_region q (source.Born m.births)) source.Closed (m.state q) core.Closed (c.standing (region_at q)) refl
      (record { live = refl; closed = refl }) (a.live q));
  activations = a.activations;
  unmade = a.unmade;
  unentered = a.unentered;
  unbegun = a.unbegun;
  uncalled = a.uncalled;
  unowned = a.unowned;
  births = ap (λ d. d + 1) a.births;
  heap = omega arith;
  unborn = λ d h.
      let two = a.unborn d (omega (arith, h)) in
      (two.0, ap (λ b. if b then source.Closed else m.state (source.Born d)) (later_number d m.births h) ∙ two.1);
  closed = λ q.
      subst (λ d. state_is_closed ((closed_born m).state q)
      ≡ core.is_closed (if core.same_region (region_at q) (core.Born d) then core.Closed else c.standing (region_at q))) a.births
      (closed_stated q (source.Born m.births) (same_region q (source.Born m.births)) source.Closed (m.state q) core.Closed (c.standing (region_at q)) refl
      (record { live = refl; closed = refl }) (a.closed q));
  blocks = a.blocks;
  ungranted = a.ungranted;
}

-- both say so, with the same number, which is Core's key
pub key_born_same : (w : World) (fs : Program) (n d : ℕ) (m : source.Memory) (c : Config) (s : steps.Step) (k : Config → core_steps.Step)
    → SameMemory w m c.memory → Same w fs n s (k (with_temp d (Birth m.births) (with_memory (key_born c.memory) c)))
    → Same w fs n (Says (events.Visible (events.KeyNew m.births)) s) (does (KeyNew d) k c)
key_born_same w fs n d m c s k a go =
    subst (λ z. Same w fs n (Says (events.Visible (events.KeyNew m.births)) s) (Says (core_steps.Visible (events.KeyNew z))
    (k (with_temp d (Birth z) (with_memory (key_born c.memory) c))))) a.births
    (says_same w fs n _ _ s (k (with_temp d (Birth m.births) (with_memory (key_born c.memory) c))) (BothVisible (events.KeyNew m.births)) go)

-- ---- the region of a key

-- it was born, and is open, closed or dead
pub record IsKeyed (c : core.Memory) (r : ℕ) : Type 0 where
  pub born : r < c.births
  pub dynamic : IsDynamic (c.standing (core.Born r))

-- what is closed is one
closed_dynamic : (now : core.Standing) → core.is_closed now ≡ true → IsDynamic now
closed_dynamic core.Closed e = tt
closed_dynamic core.Opened e = tt
closed_dynamic core.Dead e = tt
closed_dynamic core.Live e = absurd (false≢true e)
closed_dynamic core.Single e = absurd (false≢true e)

pub closed_keyed : (w : World) (m : source.Memory) (c : core.Memory) (r : ℕ) → SameMemory w m c → is_closed m (source.Born r) ≡ true → IsKeyed c r
closed_keyed w m c r a closed = record {
  born = subst (λ z. r < z) a.births (by (nat_lt r m.births) refl);
  dynamic = closed_dynamic (c.standing (core.Born r)) (sym (a.closed (source.Born r)) ∙ closed);
}
  where
    by : (b : Bool) → nat_lt r m.births ≡ b → r < m.births
    by true e = grind (arith, nat_tests, e)
    by false e =
        let above : m.births ≤ r = grind (arith, nat_tests, e) in
        absurd (false≢true (sym (ap state_is_closed (a.unborn r above).1) ∙ closed))

pub keyed_later : (b : Bound) (m m' : source.Memory) (c c' : core.Memory) (r : ℕ) → IsKeyed c r → Grown b m c m' c' → IsKeyed c' r
keyed_later b m m' c c' r s l = record {
  born = let f = s.born in let g = l.births in omega (arith, f, g);
  dynamic = (l.stays r s.born).dynamic s.dynamic;
}

-- a closed one is opened, and an open one is closed
closed_opens : (now : core.Standing) → core.is_closed now ≡ true → StaysAs now core.Opened
closed_opens core.Closed e = record { lexical = λ h. absurd h; single = λ h. absurd h; dynamic = λ h. tt }
closed_opens core.Opened e = absurd (false≢true e)
closed_opens core.Dead e = absurd (false≢true e)
closed_opens core.Live e = absurd (false≢true e)
closed_opens core.Single e = absurd (false≢true e)

opened_closes : (now : core.Standing) → core.is_opened now ≡ true → StaysAs now core.Closed
opened_closes core.Opened e = record { lexical = λ h. absurd h; single = λ h. absurd h; dynamic = λ h. tt }
opened_closes core.Closed e = absurd (false≢true e)
opened_closes core.Dead e = absurd (false≢true e)
opened_closes core.Live e = absurd (false≢true e)
opened_closes core.Single e = absurd (false≢true e)

live_opened : (now : core.Standing) → IsDynamic now → core.is_live now ≡ true → core.is_opened now ≡ true
live_opened core.Opened h e = refl
live_opened core.Closed h e = absurd (false≢true e)
live_opened core.Dead h e = absurd (false≢true e)
live_opened core.Live h e = absurd h
live_opened core.Single h e = absurd h

-- where the source sees that it is closed, Core does
core_closed : (w : World) (m : source.Memory) (c : core.Memory) (r : ℕ) → SameMemory w m c → is_closed m (source.Born r) ≡ true
    → core.is_closed (c.standing (core.Born r)) ≡ true
core_closed w m c r a closed = sym (a.closed (source.Born r)) ∙ closed

-- where it is live, it is open
core_opened : (w : World) (m : source.Memory) (c : core.Memory) (r : ℕ) → SameMemory w m c → IsDynamic (c.standing (core.Born r))
    → is_live m (source.Born r) ≡ true → core.is_opened (c.standing (core.Born r)) ≡ true
core_opened w m c r a dynamic live = live_opened (c.standing (core.Born r)) dynamic (sym (a.live (source.Born r)) ∙ live)

-- ---- it is opened

abbrev pub source_open : source.Memory → ℕ → source.Memory
source_open m r = source_stated m r source.Live

abbrev pub core_open : core.Memory → ℕ → core.Memory
core_open c r = core_stated c r core.Opened

pub open_later : (b : Bound) (w : World) (m : source.Memory) (c : core.Memory) (r : ℕ) → SameMemory w m c → is_closed m (source.Born r) ≡ true
    → Grown b m c (source_open m r) (core_open c r)
open_later b w m c r a closed =
    stated_later b m c r source.Live core.Opened (closed_opens (c.standing (core.Born r)) (core_closed w m c r a closed))

pub open_agree : (w : World) (m : source.Memory) (c : core.Memory) (r : ℕ) → SameMemory w m c → is_closed m (source.Born r) ≡ true
    → SameMemory w (source_open m r) (core_open c r)
open_agree w m c r a closed =
    stated_agree w m c r source.Live core.Opened (subst (λ z. r < z) (sym a.births) (closed_keyed w m c r a closed).born)
    (record { live = refl; closed = refl }) (closed_opens (c.standing (core.Born r)) (core_closed w m c r a closed)) a

-- both say so; the source is stuck where the region isn't closed
pub key_opened_same : (w : World) (fs : Program) (n d r : ℕ) (m : source.Memory) (c : Config) (s : ℕ → source.Memory → steps.Step)
    (k : Config → core_steps.Step) → SameMemory w m c.memory → c.temps d ≡ Birth r
    → (is_closed m (source.Born r) ≡ true → Same w fs n (s r (source_open m r)) (k (with_memory (core_open c.memory r) c)))
    → Same w fs n (key_opened r s m) (does (KeyOpen d) k c)
key_opened_same w fs n d r m c s k a temp go = by (is_closed m (source.Born r)) refl
  where
    by : (b : Bool) → is_closed m (source.Born r) ≡ b → Same w fs n (key_opened r s m) (does (KeyOpen d) k c)
    by false e = rw e (stuck_same w fs n _)
    by true e =
        rw (e, temp, core_closed w m c.memory r a e)
        (says_same w fs n _ _ (s r (source_open m r)) (k (with_memory (core_open c.memory r) c)) (BothVisible (events.KeyOpen r)) (go e))

-- ---- it is closed

abbrev pub source_close : source.Memory → ℕ → source.Memory
source_close m r = source_stated m r source.Closed

abbrev pub core_close : core.Memory → ℕ → core.Memory
core_close c r = core_stated c r core.Closed

pub close_later : (b : Bound) (w : World) (m : source.Memory) (c : core.Memory) (r : ℕ) → SameMemory w m c → IsKeyed c r → is_live m (source.Born r) ≡ true
    → Grown b m c (source_close m r) (core_close c r)
close_later b w m c r a keyed live =
    stated_later b m c r source.Closed core.Closed (opened_closes (c.standing (core.Born r)) (core_opened w m c r a keyed.dynamic live))

pub close_agree : (w : World) (m : source.Memory) (c : core.Memory) (r : ℕ) → SameMemory w m c → IsKeyed c r → is_live m (source.Born r) ≡ true
    → SameMemory w (source_close m r) (core_close c r)
close_agree w m c r a keyed live =
    stated_agree w m c r source.Closed core.Closed (subst (λ z. r < z) (sym a.births) keyed.born) (record { live = refl; closed = refl })
    (opened_closes (c.standing (core.Born r)) (core_opened w m c r a keyed.dynamic live)) a

-- both say so; the source is stuck where the region isn't live
pub key_closed_same : (w : World) (fs : Program) (n d r : ℕ) (m : source.Memory) (c : Config) (s : Unit {0} → source.Memory → steps.Step)
    (k : Config → core_steps.Step) → SameMemory w m c.memory → IsDynamic (c.memory.standing (core.Born r)) → c.temps d ≡ Birth r
    → (is_live m (source.Born r) ≡ true → Same w fs n (s tt (source_close m r)) (k (with_memory (core_close c.memory r) c)))
    → Same w fs n (key_closed r s m) (does (KeyClose d) k c)
key_closed_same w fs n d r m c s k a dynamic temp go = by (is_live m (source.Born r)) refl
  where
    by : (b : Bool) → is_live m (source.Born r) ≡ b → Same w fs n (key_closed r s m) (does (KeyClose d) k c)
    by false e = rw e (stuck_same w fs n _)
    by true e =
        rw (e, temp, core_opened w m c.memory r a dynamic e)
        (says_same w fs n _ _ (s tt (source_close m r)) (k (with_memory (core_close c.memory r) c)) (BothVisible (events.KeyClose r)) (go e))

-- ---- it is freed by its key

pub key_freed_same : (w : World) (fs : Program) (n d r : ℕ) (m : source.Memory) (c : Config) (s : Unit {0} → source.Memory → steps.Step)
    (k : Config → core_steps.Step) → SameMemory w m c.memory → c.temps d ≡ Birth r
    → Same w fs n (s tt (source_freed m r)) (k (with_memory (core_freed c.memory r) c)) → Same w fs n (key_freed (KeyOf r) s m) (does (KeyFree d) k c)
key_freed_same w fs n d r m c s k a temp go = by (is_closed m (source.Born r)) refl
  where
    by : (b : Bool) → is_closed m (source.Born r) ≡ b → Same w fs n (key_freed (KeyOf r) s m) (does (KeyFree d) k c)
    by false e = rw e (stuck_same w fs n _)
    by true e =
        rw (e, temp, core_closed w m c.memory r a e)
        (says_same w fs n _ _ (s tt (source_freed m r)) (k (with_memory (core_freed c.memory r) c)) (BothVisible (events.KeyFree r)) go)
