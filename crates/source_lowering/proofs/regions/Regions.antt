-- Regions are born, freed, and give blocks for one object, in the source and in Core.
use Rattle.std.proofs.Common.{◌≡◌, ℕ, ◌+◌, ◌*◌, ◌^◌, ◌<◌, ◌≤◌, Bool, true, false, not, nat_eq, nat_lt, refl, sym, ap, ◌∙◌, subst, arith}
use Rattle.std.specs.Prelude.{◌&&◌, ◌-◌, if◌then◌else◌, map, slice_get}
use Rattle.std.proofs.lemmas.Bool.{eqb-true, eq-eqb, false≢true}
use Rattle.std.proofs.lemmas.Bool.Decides.{nat_tests}
use Rattle.cyc_words.specs.Events as events
use Rattle.step_trees.specs.Trees.{Says}
use Rattle.source_meaning.specs.Shapes.{Shape}
use Rattle.source_meaning.specs.Memory as source
use Rattle.source_meaning.specs.Memory.{Scalar, Spot, Holds, Object, blank_cell, blank_object, same_region, next_spot, is_live}
use Rattle.source_meaning.specs.Steps as steps
use Rattle.source_meaning.specs.Steps.{World}
use Rattle.source_meaning.specs.Conversions.{cells_of, size_of}
use Rattle.source_meaning.specs.Making.{InRegion, ask, make_object}
use Rattle.source_meaning.specs.Regions.{region_born, region_freed}
use Rattle.core_meaning.specs.Memory as core
use Rattle.core_meaning.specs.Memory.{Pointer, Birth, Word, Part, blanks, first_spot}
use Rattle.core_meaning.specs.Core.{Program, Statements, RegionNew, RegionFree}
use Rattle.core_meaning.specs.Steps as core_steps
use Rattle.core_meaning.specs.Steps.{Config, with_temp, with_memory}
use Rattle.core_meaning.specs.Meaning as meaning
use Rattle.core_meaning.specs.Operations.{born, saturated, does}
use Rattle.source_lowering.specs.Layouts.{layout_of}
use Rattle.source_lowering.specs.Lowered.{put, request_code}
use Rattle.source_lowering.specs.Lowerable.{IsObject, AreUnions, AreStructs}
use Rattle.source_lowering.proofs.Structs.{object_small}
use Rattle.source_lowering.specs.Simulation.{region_at, at, BothVisible, Leads, IsLexical, StaysAs, SameMemory, Bound, nothing, Grown, Same, Next}
use Rattle.source_lowering.proofs.memory.Keeping.{shown_later, held_same, stays_self, ended_later, ended_agree}
use Rattle.source_lowering.proofs.Runs.{stuck_same, says_same}
use Rattle.source_lowering.proofs.values.Values.{put_temp, other_temp}
use Rattle.source_lowering.proofs.memory.Entering.{closed_in, later_number, live_in, block_made}
use Rattle.source_lowering.proofs.expressions.Making.{spot_of, here_is, cells_in}
use Rattle.source_lowering.proofs.statements.Declaring.{blank_keeps}
use Rattle.source_lowering.proofs.regions.Granting.{more_agree, more_later}

-- ---- a region is born

abbrev pub source_born : source.Memory → source.Memory
source_born m = source.with_state (record m { births = m.births + 1 }) (source.Born m.births) source.Live

abbrev pub core_born : core.Memory → core.Memory
core_born c = born core.Live c

-- one that is born is none of those before
pub stays_before : (b : Bool) (d k : ℕ) (now old : core.Standing) → nat_eq d k ≡ b → d < k → StaysAs old (if b then now else old)
stays_before true d k now old e less = absurd (let f = eqb-true d k e in omega (arith, f, less))
stays_before false d k now old e less = stays_self old

pub region_born_later : (b : Bound) (m : source.Memory) (c : core.Memory) → Grown b m c (source_born m) (core_born c)
region_born_later b m c = record {
  shapes = λ t sh g. record { content = g.content; is = g.is };
  lent = λ s shape v h. h;
  parts = λ t j o x g. record { content = g.content; is = g.is };
  objects = λ j h. refl;
  begun = omega arith;
  called = omega arith;
  births = omega arith;
  stays = λ d less. stays_before (nat_eq d c.births) d c.births core.Live (c.standing (core.Born d)) refl less;
  stands = λ j h. refl;
  owned = λ j t i e h. refl;
}

pub region_born_agree : (w : World) (m : source.Memory) (c : core.Memory) → SameMemory w m c → SameMemory w (source_born m) (core_born c)
region_born_agree w m c a = record {
  cells = λ s shape x v keeps h. let one = a.cells s shape x v keeps h in record {
    contents = one.contents;
    shown = shown_later nothing w m (source_born m) c (core_born c) shape v one.contents (region_born_later nothing m c) one.shown;
    held = held_same c (core_born c) (at s) 0 one.contents (λ t j. refl) one.held;
  };
  live = λ q.
      subst (λ d. source.state_is_live ((source_born m).state q)
      ≡ core.is_live (if core.same_region (region_at q) (core.Born d) then core.Live else c.standing (region_at q))) a.births
      (live_in q (source.Born m.births) (same_region q (source.Born m.births)) (m.state q) (c.standing (region_at q)) refl (a.live q));
  activations = a.activations;
  unmade = a.unmade;
  unentered = a.unentered;
  unbegun = a.unbegun;
  uncalled = a.uncalled;
  unowned = a.unowned;
  births = ap (λ d. d + 1) a.births;
  heap = omega arith;
  unborn = λ d h.
      let two = a.unborn d (omega (arith, h)) in
      (two.0, ap (λ b. if b then source.Live else m.state (source.Born d)) (later_number d m.births h) ∙ two.1);
  closed = λ q.
      subst (λ d. source.state_is_closed ((source_born m).state q)
      ≡ core.is_closed (if core.same_region (region_at q) (core.Born d) then core.Live else c.standing (region_at q))) a.births
      (closed_in q (source.Born m.births) (same_region q (source.Born m.births)) (m.state q) (c.standing (region_at q)) refl (a.closed q));
  blocks = a.blocks;
  ungranted = a.ungranted;
}

-- ---- so is a unique block's own

abbrev pub single_born : core.Memory → core.Memory
single_born c = born core.Single c

pub single_born_later : (b : Bound) (m : source.Memory) (c : core.Memory) → Grown b m c (source_born m) (single_born c)
single_born_later b m c = record {
  shapes = λ t sh g. record { content = g.content; is = g.is };
  lent = λ s shape v h. h;
  parts = λ t j o x g. record { content = g.content; is = g.is };
  objects = λ j h. refl;
  begun = omega arith;
  called = omega arith;
  births = omega arith;
  stays = λ d less. stays_before (nat_eq d c.births) d c.births core.Single (c.standing (core.Born d)) refl less;
  stands = λ j h. refl;
  owned = λ j t i e h. refl;
}

single_live : (b : Bool) (now : core.Standing) → core.is_live (if b then core.Live else now) ≡ core.is_live (if b then core.Single else now)
single_live true now = refl
single_live false now = refl

single_closed : (b : Bool) (now : core.Standing) → core.is_closed (if b then core.Live else now) ≡ core.is_closed (if b then core.Single else now)
single_closed true now = refl
single_closed false now = refl

pub single_born_agree : (w : World) (m : source.Memory) (c : core.Memory) → SameMemory w m c → SameMemory w (source_born m) (single_born c)
single_born_agree w m c a =
    let region = region_born_agree w m c a in
    record {
      cells = λ s shape x v keeps h. let one = a.cells s shape x v keeps h in record {
        contents = one.contents;
        shown = shown_later nothing w m (source_born m) c (single_born c) shape v one.contents (single_born_later nothing m c) one.shown;
        held = held_same c (single_born c) (at s) 0 one.contents (λ t j. refl) one.held;
      };
      live = λ q. region.live q ∙ single_live (core.same_region (region_at q) (core.Born c.births)) (c.standing (region_at q));
      activations = region.activations;
      unmade = region.unmade;
      unentered = region.unentered;
      unbegun = region.unbegun;
      uncalled = region.uncalled;
      unowned = region.unowned;
      births = region.births;
      heap = region.heap;
      closed = λ q. region.closed q ∙ single_closed (core.same_region (region_at q) (core.Born c.births)) (c.standing (region_at q));
      unborn = region.unborn;
      blocks = region.blocks;
      ungranted = region.ungranted;
    }

-- what is live was born
pub live_born : (w : World) (m : source.Memory) (c : core.Memory) → SameMemory w m c → (r : ℕ) → is_live m (source.Born r) ≡ true → r < m.births
live_born w m c a r live = by (nat_lt r m.births) refl
  where
    by : (b : Bool) → nat_lt r m.births ≡ b → r < m.births
    by true e = grind (arith, nat_tests, e)
    by false e =
        let above : m.births ≤ r = grind (arith, nat_tests, e) in absurd (false≢true (sym (ap source.state_is_live (a.unborn r above).1) ∙ live))

-- a region of a scope, which may have ended
pub record IsScoped (c : core.Memory) (r : ℕ) : Type 0 where
  pub born : r < c.births
  pub lexical : IsLexical (c.standing (core.Born r))

pub born_scoped : (c : core.Memory) (r : ℕ) → r ≡ c.births → IsScoped (core_born c) r
born_scoped c r e = record {
  born = omega (arith, e);
  lexical = subst IsLexical (sym (ap (λ b. if b then core.Live else c.standing (core.Born r)) (eq-eqb r c.births e))) tt;
}

pub scoped_later : (b : Bound) (m m' : source.Memory) (c c' : core.Memory) (r : ℕ) → IsScoped c r → Grown b m c m' c' → IsScoped c' r
scoped_later b m m' c c' r s l = record {
  born = let f = s.born in let g = l.births in omega (arith, f, g);
  lexical = (l.stays r s.born).lexical s.lexical;
}

-- both say so, with the same number, which is Core's handle
pub region_born_same : (w : World) (fs : Program) (n d : ℕ) (m : source.Memory) (c : Config) (s : ℕ → source.Memory → steps.Step)
    (k : Config → core_steps.Step) → SameMemory w m c.memory
    → Same w fs n (s m.births (source_born m)) (k (with_temp d (Birth m.births) (with_memory (core_born c.memory) c)))
    → Same w fs n (region_born s m) (does (RegionNew d) k c)
region_born_same w fs n d m c s k a go =
    subst (λ z. Same w fs n (region_born s m) (Says (core_steps.Visible (events.RegionNew z)) (k (with_temp d (Birth z) (with_memory (core_born c.memory) c)))))
    a.births
    (says_same w fs n _ _ (s m.births (source_born m)) (k (with_temp d (Birth m.births) (with_memory (core_born c.memory) c)))
    (BothVisible (events.RegionNew m.births)) go)

-- ---- a region is freed

abbrev pub source_freed : source.Memory → ℕ → source.Memory
source_freed m r = source.with_state m (source.Born r) source.Dead

abbrev pub core_freed : core.Memory → ℕ → core.Memory
core_freed c r = core.with_standing c (core.Born r) core.Dead

pub region_freed_later : (b : Bound) (m : source.Memory) (c : core.Memory) (r : ℕ) → Grown b m c (source_freed m r) (core_freed c r)
region_freed_later b m c r = ended_later b m c (source.Born r)

pub region_freed_agree : (w : World) (m : source.Memory) (c : core.Memory) (r : ℕ) → SameMemory w m c → SameMemory w (source_freed m r) (core_freed c r)
region_freed_agree w m c r a = ended_agree w m c (source.Born r) a

live_lexical : (now : core.Standing) → IsLexical now → core.is_live now ≡ true → core.is_lexical now ≡ true
live_lexical core.Live h e = refl
live_lexical core.Dead h e = absurd (cc e)
live_lexical core.Opened h e = absurd h
live_lexical core.Single h e = absurd h
live_lexical core.Closed h e = absurd h

-- a region that is live in the source, and isn't the heap, can be freed in Core
pub freed_checked : (w : World) (m : source.Memory) (c : core.Memory) (r : ℕ) → SameMemory w m c → 0 < r → IsLexical (c.standing (core.Born r))
    → is_live m (source.Born r) ≡ true → (not (nat_eq r 0) && core.is_lexical (c.standing (core.Born r))) ≡ true
freed_checked w m c r a more lexical live =
    let other : nat_eq r 0 ≡ false = grind (arith, nat_tests, more) in
    ap (λ z. not z && core.is_lexical (c.standing (core.Born r))) other ∙
    live_lexical (c.standing (core.Born r)) lexical (sym (a.live (source.Born r)) ∙ live)

-- both say so; the source is stuck where the region isn't live
pub region_freed_same : (w : World) (fs : Program) (n d r : ℕ) (m : source.Memory) (c : Config) (s : Unit {0} → source.Memory → steps.Step)
    (k : Config → core_steps.Step) → SameMemory w m c.memory → 0 < r → IsLexical (c.memory.standing (core.Born r)) → c.temps d ≡ Birth r
    → Same w fs n (s tt (source_freed m r)) (k (with_memory (core_freed c.memory r) c)) → Same w fs n (region_freed r s m) (does (RegionFree d) k c)
region_freed_same w fs n d r m c s k a more lexical temp go = by (is_live m (source.Born r)) refl
  where
    by : (b : Bool) → is_live m (source.Born r) ≡ b → Same w fs n (region_freed r s m) (does (RegionFree d) k c)
    by false e = rw e (stuck_same w fs n _)
    by true e =
        rw (e, temp, freed_checked w m c.memory r a more lexical e)
        (says_same w fs n _ _ (s tt (source_freed m r)) (k (with_memory (core_freed c.memory r) c)) (BothVisible (events.RegionFree r)) go)

-- ---- a region gives a block for one object

abbrev pub source_granted : World → source.Memory → ℕ → Shape → source.Memory
source_granted w m d s = source.with_object m (source.Born d) (blank_object (cells_of w s))

abbrev pub core_granted : World → core.Memory → ℕ → Shape → core.Memory
core_granted w c d s = core.with_object c (core.Born d) (blanks (layout_of w s) 1)

pub block_granted_later : (b : Bound) (w : World) (m : source.Memory) (c : core.Memory) (d : ℕ) (s : Shape) → SameMemory w m c
    → Grown b m c (source_granted w m d s) (core_granted w c d s)
block_granted_later b w m c d s a = more_later b w m c d (blank_object (cells_of w s)) (blanks (layout_of w s) 1) a

pub block_granted_agree : (w : World) (m : source.Memory) (c : core.Memory) (d : ℕ) (s : Shape) → d < m.births → SameMemory w m c
    → SameMemory w (source_granted w m d s) (core_granted w c d s)
block_granted_agree w m c d s born a =
    more_agree w m c d (blank_object (cells_of w s)) (blanks (layout_of w s) 1)
    (λ cell shape x v keeps e. blank_keeps (cells_of w s) cell shape x v keeps e) born a

-- ---- the new object

-- both number it alike
pub granted_spot : (w : World) (m : source.Memory) (c : core.Memory) (d : ℕ) → SameMemory w m c → at (next_spot m (source.Born d)) ≡ first_spot c (core.Born d)
granted_spot w m c d a = ap (λ z. record { region = core.Born d; object = z; cell = 0 }) (a.blocks d)

-- nothing was stored to its cells yet
pub granted_blank : (w : World) (m : source.Memory) (d cell : ℕ) (s : Shape)
    → (source_granted w m d s).cells (spot_of (source.Born d) (m.objects (source.Born d)) cell) ≡ slice_get (map blank_cell (cells_of w s)) cell
granted_blank w m d cell s = here_is m (source.Born d) (m.objects (source.Born d)) cell (blank_object (cells_of w s)) refl

pub granted_leads : (w : World) (m : source.Memory) (c : core.Memory) (d : ℕ) (s : Shape) → SameMemory w m c
    → Leads w (source_granted w m d s) (core_granted w c d s) s (next_spot m (source.Born d)) 0
granted_leads w m c d s a = (
  cells_in m (source.Born d) (m.objects (source.Born d)) (λ z. source.Blank) (cells_of w s) refl,
  block_made c (core.Born d) (m.objects (source.Born d)) (layout_of w s) (sym (a.blocks d)),
)

-- ---- it is asked for

-- both ask for as many bytes
pub request_size : (w : World) (s : Shape) → AreUnions w.unions → AreStructs w.unions w.structs → IsObject w.unions w.structs s
    → saturated (1 * (layout_of w s).bytes) ≡ size_of w s
request_size w s unions structs object =
    let small : size_of w s ≤ 4096 = object_small w.unions w.structs s unions structs object in
    let one : 1 * size_of w s ≡ size_of w s = omega arith in
    let less : nat_lt (size_of w s) (2 ^ 32) ≡ true = grind (arith, nat_tests, small) in
    ap saturated one ∙ ap (λ b. if b then size_of w s else 2 ^ 32 - 1) less

requested : (w : World) (d e r : ℕ) (shape : Shape) (c : Config) (rest : Statements) (next : Next) → d < e → c.temps d ≡ Birth r
    → core.is_live (c.memory.standing (core.Born r)) ≡ true → meaning.statements (put (request_code w false shape d e) rest) next c
    ≡ Says (core_steps.Visible (events.RegionAlloc r (saturated (1 * (layout_of w shape).bytes)))) (meaning.statements rest next
    (with_temp d (Pointer (first_spot c.memory (core.Born r)) 0) (with_memory (core_granted w c.memory r shape) (with_temp e (Word 1) c))))
requested w d e r shape c rest next less temp live = rw (other_temp e d (Word 1) c less ∙ temp, put_temp e (Word 1) c, live) refl

-- a block is asked for in the region of a handle that is in a temporary, which gets a pointer to it; the source is stuck where the region isn't live
pub request_same : (w : World) (fs : Program) (n d e r : ℕ) (shape : Shape) (m : source.Memory) (c : Config) (s : Spot → source.Memory → steps.Step)
    (rest : Statements) (next : Next) → AreUnions w.unions → AreStructs w.unions w.structs → IsObject w.unions w.structs shape → SameMemory w m c.memory
    → d < e → c.temps d ≡ Birth r
    → (is_live m (source.Born r) ≡ true → Same w fs n (s (next_spot m (source.Born r)) (source_granted w m r shape)) (meaning.statements rest next
    (with_temp d (Pointer (at (next_spot m (source.Born r))) 0) (with_memory (core_granted w c.memory r shape) (with_temp e (Word 1) c)))))
    → Same w fs n (ask (InRegion r) (size_of w shape) (blank_object (cells_of w shape)) s m)
    (meaning.statements (put (request_code w false shape d e) rest) next c)
request_same w fs n d e r shape m c s rest next unions structs object a less temp go = by (is_live m (source.Born r)) refl
  where
    after : core_steps.Step
    after = meaning.statements (put (request_code w false shape d e) rest) next c

    by : (b : Bool) → is_live m (source.Born r) ≡ b → Same w fs n (ask (InRegion r) (size_of w shape) (blank_object (cells_of w shape)) s m) after
    by false f = rw f (stuck_same w fs n after)
    by true f =
        let live : core.is_live (c.memory.standing (core.Born r)) ≡ true = sym (a.live (source.Born r)) ∙ f in
        rw (f, requested w d e r shape c rest next less temp live, request_size w shape unions structs object, sym (granted_spot w m c.memory r a))
        (says_same w fs n _ _ (make_object (source.Born r) (blank_object (cells_of w shape)) s m) _ (BothVisible (events.RegionAlloc r (size_of w shape)))
        (rw f (go f)))
