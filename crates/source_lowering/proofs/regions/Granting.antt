-- A region that was born has one more object, in the source and in Core: any object that holds no value yet.
use Rattle.std.proofs.Common.{◌≡◌, ℕ, ◌+◌, ◌<◌, ◌≤◌, Bool, true, false, nat_eq, Option, Some, None, refl, sym, ap, ◌∙◌, subst, arith}
use Rattle.std.specs.Prelude.{◌&&◌, if◌then◌else◌}
use Rattle.std.proofs.lemmas.Bool.{eqb-true, and_parts}
use Rattle.source_meaning.specs.Shapes.{Shape}
use Rattle.source_meaning.specs.Memory as source
use Rattle.source_meaning.specs.Memory.{Holds, Object, Scalar, Spot}
use Rattle.source_meaning.specs.Steps.{World}
use Rattle.core_meaning.specs.Memory as core
use Rattle.core_meaning.specs.Memory.{Part}
use Rattle.core_meaning.proofs.Spots.{region_same, region_self}
use Rattle.source_lowering.specs.Simulation.{at, Bound, Grown, IsShown, SameMemory, nothing, kept_in}
use Rattle.source_lowering.proofs.memory.Keeping.{stays_self, shown_later}
use Rattle.source_lowering.proofs.memory.Entering.{held_on, later_number}
use Rattle.source_lowering.proofs.expressions.Making.{is_here, made_cell, still_unmade}

-- the parts of an object
abbrev pub Parts : Type 0
Parts = ℕ → ℕ → Option Part

abbrev pub source_more : source.Memory → ℕ → Object → source.Memory
source_more m d o = source.with_object m (source.Born d) o

abbrev pub core_more : core.Memory → ℕ → Parts → core.Memory
core_more c d x = core.with_object c (core.Born d) x

-- what Core gives is at a new spot
abbrev is_given : core.Memory → ℕ → core.Spot → Bool
is_given c d t = core.same_region t.region (core.Born d) && nat_eq t.object (c.objects (core.Born d))

more_other : (c : core.Memory) (d : ℕ) (x : Parts) (t : core.Spot) (j : ℕ) → core.same_region t.region (core.Born d) ≡ false
    → (core_more c d x).parts t j ≡ c.parts t j
more_other c d x t j e = ap (λ b. if b && nat_eq t.object (c.objects (core.Born d)) then x t.cell j else c.parts t j) e

more_part : (w : World) (m : source.Memory) (c : core.Memory) (d : ℕ) (x : Parts) → SameMemory w m c → (t : core.Spot) (j : ℕ) (p : Part)
    → c.parts t j ≡ Some p → (core_more c d x).parts t j ≡ Some p
more_part w m c d x a t j p is = by (is_given c d t) refl
  where
    by : (b : Bool) → is_given c d t ≡ b → (core_more c d x).parts t j ≡ Some p
    by true e =
        let two = and_parts (core.same_region t.region (core.Born d)) (nat_eq t.object (c.objects (core.Born d))) e in
        let n = eqb-true t.object (c.objects (core.Born d)) two.1 in
        let none : None ≡ Some p = sym (a.ungranted d t j (region_same t.region (core.Born d) two.0) (omega (arith, n))) ∙ is in
        absurd (cc none)
    by false e = ap (λ b. if b then x t.cell j else c.parts t j) e ∙ is

pub more_later : (b : Bound) (w : World) (m : source.Memory) (c : core.Memory) (d : ℕ) (o : Object) (x : Parts) → SameMemory w m c
    → Grown b m c (source_more m d o) (core_more c d x)
more_later b w m c d o x a = record {
  shapes = λ t other h. record { content = h.content; is = made_cell m (source.Born d) o t _ a.unmade h.is };
  lent = λ t other v h. made_cell m (source.Born d) o t _ a.unmade h;
  parts = λ t j offset width h. record { content = h.content; is = more_part w m c d x a t j _ h.is };
  objects = λ k h. refl;
  begun = omega arith;
  called = omega arith;
  births = omega arith;
  stays = λ d less. stays_self _;
  stands = λ k h. refl;
  owned = λ k t j r h. more_other c d x t j (ap (λ z. core.same_region z (core.Born d)) r);
}

-- no region has fewer objects
counted : (c : core.Memory) (d j : ℕ) (x : Parts) → c.objects (core.Born j) ≤ (core_more c d x).objects (core.Born j)
counted c d j x = by (nat_eq j d) refl
  where
    by : (b : Bool) → nat_eq j d ≡ b → c.objects (core.Born j) ≤ (core_more c d x).objects (core.Born j)
    by true e =
        let same : (core_more c d x).objects (core.Born j) ≡ c.objects (core.Born d) + 1 =
        ap (λ b. if b then c.objects (core.Born d) + 1 else c.objects (core.Born j)) e in
        subst (λ z. c.objects (core.Born j) ≤ z) (sym same)
        (subst (λ z. c.objects (core.Born z) ≤ c.objects (core.Born d) + 1) (sym (eqb-true j d e)) (omega arith))
    by false e = subst (λ z. c.objects (core.Born j) ≤ z) (sym (ap (λ b. if b then c.objects (core.Born d) + 1 else c.objects (core.Born j)) e)) (omega arith)

still_ungranted : (w : World) (m : source.Memory) (c : core.Memory) (d : ℕ) (x : Parts) → SameMemory w m c → (j : ℕ) (t : core.Spot) (i : ℕ)
    → t.region ≡ core.Born j → (core_more c d x).objects (core.Born j) ≤ t.object → (core_more c d x).parts t i ≡ None
still_ungranted w m c d x a j t i r h = by (is_given c d t) refl
  where
    c' : core.Memory
    c' = core_more c d x

    here : c'.objects (core.Born d) ≡ c.objects (core.Born d) + 1
    here = ap (λ b. if b then c.objects (core.Born d) + 1 else c.objects (core.Born d)) (region_self (core.Born d))

    by : (b : Bool) → is_given c d t ≡ b → c'.parts t i ≡ None
    by true e =
        let two = and_parts (core.same_region t.region (core.Born d)) (nat_eq t.object (c.objects (core.Born d))) e in
        let n = eqb-true t.object (c.objects (core.Born d)) two.1 in
        let same : core.Born j ≡ core.Born d = sym r ∙ region_same t.region (core.Born d) two.0 in
        let more : c.objects (core.Born d) + 1 ≤ t.object = subst (λ z. z ≤ t.object) here (subst (λ q. c'.objects q ≤ t.object) same h) in
        absurd (omega (arith, n, more))
    by false e =
        let less : c.objects (core.Born j) ≤ t.object = let g = counted c d j x in omega (arith, g, h) in
        ap (λ b. if b then x t.cell i else c.parts t i) e ∙ a.ungranted j t i r less

pub more_agree : (w : World) (m : source.Memory) (c : core.Memory) (d : ℕ) (o : Object) (x : Parts)
    → ((cell : ℕ) (shape : Shape) (x : source.Content) (v : Scalar) → kept_in x ≡ Some v → o cell ≡ Some (record { shape = shape; content = x }) → ⊥)
    → d < m.births → SameMemory w m c
    → SameMemory w (source_more m d o) (core_more c d x)
more_agree w m c d o x empty born a = record {
  cells = λ t shape y v keeps h. by (is_here m (source.Born d) t) t shape y v keeps refl h;
  live = a.live;
  activations = a.activations;
  unmade = still_unmade m (source.Born d) o a.unmade;
  unentered = λ k t j h r. more_other c d x t j (ap (λ z. core.same_region z (core.Born d)) r) ∙ a.unentered k t j h r;
  unbegun = a.unbegun;
  uncalled = λ k t j h r. more_other c d x t j (ap (λ z. core.same_region z (core.Born d)) r) ∙ a.uncalled k t j h r;
  unowned = a.unowned;
  births = a.births;
  heap = a.heap;
  closed = a.closed;
  unborn = λ j h.
      let two = a.unborn j h in
      (ap (λ b. if b then m.objects (source.Born d) + 1 else m.objects (source.Born j)) (later_number j d (omega (arith, h, born))) ∙ two.0, two.1);
  blocks = λ j.
      ap (λ z. if nat_eq j d then z + 1 else m.objects (source.Born j)) (a.blocks d) ∙
      ap (λ z. if nat_eq j d then c.objects (core.Born d) + 1 else z) (a.blocks j);
  ungranted = still_ungranted w m c d x a;
}
  where
    m' : source.Memory
    m' = source_more m d o

    c' : core.Memory
    c' = core_more c d x

    by : (b : Bool) (t : Spot) (shape : Shape) (y : source.Content) (v : Scalar) → kept_in y ≡ Some v → is_here m (source.Born d) t ≡ b
        → m'.cells t ≡ Some (record { shape = shape; content = y }) → IsShown w m' c' t shape v
    by true t shape y v keeps e h = absurd (empty t.cell shape y v keeps (sym (ap (λ b. if b then o t.cell else m.cells t) e) ∙ h))
    by false t shape y v keeps e h =
        let one = a.cells t shape y v keeps (sym (ap (λ b. if b then o t.cell else m.cells t) e) ∙ h) in
        record {
          contents = one.contents;
          shown = shown_later nothing w m m' c c' shape v one.contents (more_later nothing w m c d o x a) one.shown;
          held = held_on c c' (at t) 0 one.contents (more_part w m c d x a) one.held;
        }
