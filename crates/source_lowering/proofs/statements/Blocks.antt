-- A block is entered with its locals to come, and left whichever way.
use Rattle.std.proofs.Common.{◌≡◌, ℕ, zero, suc, ◌<◌, ◌≤◌, Bool, true, false, nat_eq, inl, inr, ⊎_elim, List, [], ◌∷◌, refl, sym, ap, ◌∙◌, subst, arith}
use Rattle.std.specs.Prelude.{not, ◌&&◌}
use Rattle.cyc_words.specs.Events as events
use Rattle.source_meaning.specs.Shapes.{Shape, Layout}
use Rattle.source_meaning.specs.Memory as source
use Rattle.source_meaning.specs.Memory.{Scalar, with_state, Dead}
use Rattle.source_meaning.specs.Steps as steps
use Rattle.source_meaning.specs.Steps.{World, Binding, Entity, Flow, Act}
use Rattle.source_meaning.specs.Regions.{in_block}
use Rattle.core_meaning.specs.Memory as core
use Rattle.core_meaning.specs.Memory.{Content, is_lexical, is_opened, with_standing}
use Rattle.core_meaning.specs.Operations.{says}
use Rattle.core_meaning.specs.Core.{Program, Statement, Block, Statements, NoStatements}
use Rattle.core_meaning.specs.Steps as core_steps
use Rattle.core_meaning.specs.Steps.{Config, checked, with_memory}
use Rattle.core_meaning.specs.Meaning as meaning
use Rattle.source_lowering.specs.Lowered.{Home, InBlock, Named, all_of, put}
use Rattle.source_lowering.specs.Programs.{RegionsAround, further_out, locals_of, outward}
use Rattle.source_lowering.specs.Simulation.{ArePending, SameMemory, Bound, nothing, Grown, StandsFor, AreLocals, AreLed, HasStatics, Point, SameState}
use Rattle.source_lowering.specs.Simulation.{AValue, around, Next, Same, SameAt}
use Rattle.source_lowering.proofs.memory.Keeping.{later_on, later_less, all_led_later, statics_later, pending_later, same_own, left_later, agree_left}
use Rattle.source_lowering.proofs.expressions.Names.{AreObjectNames}
use Rattle.source_lowering.proofs.memory.Entering.{made_standing, source_in, core_opened, core_in, agree_entered, entered_later, pending_entered}
use Rattle.source_lowering.proofs.values.Values.{value_later}
use Rattle.source_lowering.proofs.expressions.Calls.{NoResult, ResultIs}
use Rattle.source_lowering.proofs.statements.Ways.{freed, Onward, WaysOn, RunsAs, each_left, free_by, free_next, memory_left, standing_left}

-- ---- names, a block further in

stands_outward : (k : ℕ) (blocks : List ℕ) (e : Entity) (shape : Shape) (h : Home) → StandsFor blocks e shape h → StandsFor (k ∷ blocks) e shape (further_out h)
stands_outward k blocks e shape (InBlock out index) stands = record { frame = stands.frame; in_block = stands.in_block; is = stands.is }

pub locals_outward : (k : ℕ) (blocks : List ℕ) (bs : List Binding) (ls : List Named) → AreLocals blocks bs ls → AreLocals (k ∷ blocks) bs (outward ls)
locals_outward k blocks [] [] h = tt
locals_outward k blocks [] (l ∷ ls) h = absurd h
locals_outward k blocks (b ∷ bs) [] h = absurd h
locals_outward k blocks (b ∷ bs) (l ∷ ls) h = (
  record { named = h.0.named; stands = stands_outward k blocks b.entity l.shape l.home h.0.stands },
  locals_outward k blocks bs ls h.1,
)

pub objects_outward : (unions structs : List Layout) (ls : List Named) → AreObjectNames unions structs ls → AreObjectNames unions structs (outward ls)
objects_outward unions structs [] h = tt
objects_outward unions structs (l ∷ ls) h = (h.0, objects_outward unions structs ls h.1)

-- ---- results

pub result_later : (b : Bound) (w : World) (m m' : source.Memory) (c c' : core.Memory) (shape : Shape) (vs : List Scalar) (xs : List Content)
    → Grown b m c m' c'
    → ResultIs w m c shape vs xs → ResultIs w m' c' shape vs xs
result_later b w m m' c c' shape vs xs l r =
    ⊎_elim (λ (v : AValue w m c shape vs xs). inl (value_later b w m m' c c' shape vs xs l v)) (λ (o : NoResult shape vs xs). inr o) r

-- ---- a new activation

-- a place at the start of a block's activation
abbrev pub at_start : World → Program → List Binding → List Named → ℕ → List ℕ → List Shape → ℕ → List Shape → ℕ → RegionsAround → Point
at_start w fs locals names frame outer shapes own owned kept regions = record {
  world = w;
  program = fs;
  locals = locals;
  names = names;
  frame = frame;
  outer = outer;
  made = 0;
  pending = shapes;
  own = own;
  owned = owned;
  kept = kept;
  regions = regions;
}

-- a function's activation with its temporary objects
pub record HasOwn (w : World) (c : Config) (own : ℕ) (owned : List Shape) : Type 0 where
  pub is : c.own ≡ own
  pub called : own < c.memory.calls
  pub stands : core.is_live (c.memory.standing (core.Own own)) ≡ true
  pub values : ArePending w c.memory (core.Own own) 0 owned

-- a block is entered from memories that agree
pub entered_fits : (w : World) (fs : Program) (locals : List Binding) (names : List Named) (outer : List ℕ) (shapes : List Shape) (m : source.Memory)
    (c : Config) (own : ℕ) (owned : List Shape) (kept : ℕ) (regions : RegionsAround) → SameMemory w m c.memory → c.blocks ≡ outer → HasOwn w c own owned
    → AreLed w m c.memory locals → HasStatics w m c.memory
    → SameState (at_start w fs locals names m.activations outer shapes own owned kept regions) (source_in m) (meaning.in_block (locals_of w shapes) c)
entered_fits w fs locals names outer shapes m c own owned kept regions agree blocks has led statics =
    let later = entered_later nothing w m c.memory (locals_of w shapes) agree in
    record {
      agree = agree_entered w m c.memory (locals_of w shapes) agree;
      blocks = ap (λ z. z ∷ c.blocks) (sym agree.activations) ∙ ap (λ z. m.activations ∷ z) blocks;
      locals = all_led_later nothing w m (source_in m) c.memory (core_in (locals_of w shapes) c.memory) locals later led;
      statics = statics_later nothing w m (source_in m) c.memory (core_in (locals_of w shapes) c.memory) later statics;
      begun = omega arith;
      made = (agree.unbegun m.activations (omega arith)).0;
      pending = subst (λ k. ArePending w (core_in (locals_of w shapes) c.memory) (core.Frame k) 0 shapes) (sym agree.activations)
          (pending_entered w m c.memory shapes agree);
      own = has.is;
      called = let g = has.called in let h = later.called in omega (arith, g, h);
      stands = ap core.is_live (made_standing (core.Frame c.memory.activations) (locals_of w shapes) (core_opened c.memory) (core.Own own)) ∙ has.stands;
      owned = pending_later nothing w m (source_in m) c.memory (core_in (locals_of w shapes) c.memory) (core.Own own) 0 owned later has.values;
    }

-- its region ends in both
pub agree_gone : (w : World) (m : source.Memory) (c : core.Memory) (k j : ℕ) → k ≡ j → SameMemory w m c
    → SameMemory w (with_state m (source.Frame k) Dead) (with_standing c (core.Frame j) core.Dead)
agree_gone w m c k j e a = subst (λ z. SameMemory w (with_state m (source.Frame k) Dead) (with_standing c (core.Frame z) core.Dead)) e (agree_left w m c k a)

pub later_gone : (b : Bound) (m : source.Memory) (c : core.Memory) (k j : ℕ) → k ≡ j → Grown b m c (with_state m (source.Frame k) Dead)
    (with_standing c (core.Frame j) core.Dead)
later_gone b m c k j e = subst (λ z. Grown b m c (with_state m (source.Frame k) Dead) (with_standing c (core.Frame z) core.Dead)) e (left_later b m c k)

-- what comes after the block, from within
abbrev pub next_out : (Flow → source.Memory → steps.Step) → ℕ → Flow → source.Memory → steps.Step
next_out next k flow m = next flow (with_state m (source.Frame k) Dead)

abbrev pub after_out : Next → Config → Next
after_out after c exit left = after exit (meaning.out_of_block c.memory.activations c.blocks left)

-- what is kept in the block: the locals of all blocks around it
abbrev pub inside_of : Bound → source.Memory → Bound
inside_of b m = record { frames = m.activations; standing = b.standing; own = b.own; values = b.values }

-- that a region is left and that a block ends, one way round and the other
left_both : (j d : ℕ) (now : core.Standing) (m : core.Memory) (q : core.Region)
    → (with_standing (with_standing m (core.Born d) now) (core.Frame j) core.Dead).standing q
    ≡ (with_standing (with_standing m (core.Frame j) core.Dead) (core.Born d) now).standing q
left_both j d now m (core.Frame i) = refl
left_both j d now m (core.Own i) = refl
left_both j d now m (core.Born i) = refl

out_left : (opened : Bool) (j d : ℕ) (outer : List ℕ) (c : Config)
    → meaning.out_of_block j outer (with_memory (memory_left opened d c.memory) c)
    ≡ with_memory (memory_left opened d (meaning.out_of_block j outer c).memory) (meaning.out_of_block j outer c)
out_left opened j d outer c =
    λ i. record c { blocks = outer; memory = record c.memory { standing = λ q. left_both j d (standing_left opened) c.memory q i } }

-- one region is left within a block that ends then, or behind it
left_out : (opened : Bool) (next : Config → core_steps.Step) (j : ℕ) (outer : List ℕ) (c : Config) (d : ℕ)
    → free_by opened (λ c'. next (meaning.out_of_block j outer c')) c d ≡ free_by opened next (meaning.out_of_block j outer c) d
left_out true next j outer c d =
    ap (λ z. checked (is_opened (c.memory.standing (core.Born d))) (says (events.KeyClose d) (next z))) (out_left true j d outer c)
left_out false next j outer c d =
    ap (λ z. checked (not (nat_eq d 0) && is_lexical (c.memory.standing (core.Born d))) (says (events.RegionFree d) (next z))) (out_left false j d outer c)

-- regions are left within a block that ends then, or behind it
freed_out : (opened : List Bool) (all count : ℕ) (next : Config → core_steps.Step) (j : ℕ) (outer : List ℕ) (c : Config)
    → freed opened all count (λ c'. next (meaning.out_of_block j outer c')) c ≡ freed opened all count next (meaning.out_of_block j outer c)
freed_out opened all zero next j outer c = refl
freed_out [] all (suc count) next j outer c = refl
freed_out (o ∷ os) zero (suc count) next j outer c = refl
freed_out (o ∷ os) (suc all) (suc count) next j outer c =
    each_left o all inner (freed os all count next) c (meaning.out_of_block j outer c) refl
    (λ d. free_next o inner (λ c'. freed os all count next (meaning.out_of_block j outer c')) c d
    (freed_out os all count next j outer (with_memory (memory_left o d c.memory) c)) ∙ left_out o (freed os all count next) j outer c d)
  where
    inner : Config → core_steps.Step
    inner = freed os all count (λ c'. next (meaning.out_of_block j outer c'))

pub ways_out : (w : World) (fs : Program) (n : ℕ) (h : RegionsAround) (b : Bound) (shapes : List Shape) (m : source.Memory) (c : Config) (result : Shape)
    (next : Flow → source.Memory → steps.Step) (after : Next) → SameMemory w m c.memory → b.frames ≤ m.activations
    → WaysOn w fs n h b m c result next (after core_steps.Falls) after
    → WaysOn w fs n h (inside_of b m) (source_in m) (meaning.in_block (locals_of w shapes) c) result (next_out next m.activations)
    (after_out after c core_steps.Falls) (after_out after c)
ways_out w fs n h b shapes m c result next after agree less ways = record {
  falls = λ m' c' o. ways.falls (gone m') (out c') (on m' c' o);
  breaks = λ m' c' o.
      subst (λ z. Same w fs n (next steps.Breaks (gone m')) z)
      (sym (freed_out h.opened h.all h.broken (after core_steps.Breaks) c.memory.activations c.blocks c'))
      (ways.breaks (gone m') (out c') (on m' c' o));
  continues = λ m' c' o.
      subst (λ z. Same w fs n (next steps.Continues (gone m')) z)
      (sym (freed_out h.opened h.all h.continued (after core_steps.Continues) c.memory.activations c.blocks c'))
      (ways.continues (gone m') (out c') (on m' c' o));
  returns = λ m' c' vs xs o r.
      subst (λ z. Same w fs n (next (steps.Returns vs) (gone m')) z)
      (sym (freed_out h.opened h.all h.all (after (core_steps.Returns xs)) c.memory.activations c.blocks c'))
      (ways.returns (gone m') (out c') vs xs (on m' c' o)
      (result_later nothing w m' (gone m') c'.memory (out c').memory result vs xs
      (later_gone nothing m' c'.memory m.activations c.memory.activations agree.activations) r));
}
  where
    gone : source.Memory → source.Memory
    gone m' = with_state m' (source.Frame m.activations) Dead

    out : Config → Config
    out c' = meaning.out_of_block c.memory.activations c.blocks c'

    inner : core.Memory
    inner = core_in (locals_of w shapes) c.memory

    on : (m' : source.Memory) (c' : Config) → Onward w h.all (inside_of b m) (source_in m) (meaning.in_block (locals_of w shapes) c) m' c'
        → Onward w h.all b m c (gone m') (out c')
    on m' c' o = record {
      agree = agree_gone w m' c'.memory m.activations c.memory.activations agree.activations o.agree;
      later =
          later_on b m m' (gone m') c.memory c'.memory (out c').memory
          (later_on b m (source_in m) m' c.memory inner c'.memory (entered_later b w m c.memory (locals_of w shapes) agree)
          (later_less (inside_of b m) b (source_in m) m' inner c'.memory (record { frames = less; standing = omega arith; kept = λ k i g. g }) o.later))
          (later_gone b m' c'.memory m.activations c.memory.activations agree.activations);
      active = ap (λ z. z ∷ c.blocks) (same_own (meaning.in_block (locals_of w shapes) c) c' o.active);
      kept = o.kept;
    }

-- a block, whose body does the same where it is entered
pub block_from : (p : Point) (n : ℕ) (result : Shape) (shapes : List Shape) (body : ℕ → Act Flow) (code : List Statement) (m : source.Memory) (c : Config)
    (next : Flow → source.Memory → steps.Step) (rest : Statements) (after : Next) → SameState p m c
    → WaysOn p.world p.program n p.regions (around p (suc p.frame)) m c result next (meaning.statements rest after) after
    → ((then_next : Flow → source.Memory → steps.Step) (then_after : Next) → SameState (at_start p.world p.program p.locals (outward p.names) m.activations
    (p.frame ∷ p.outer) shapes p.own p.owned p.kept p.regions) (source_in m) (meaning.in_block (locals_of p.world shapes) c)
    → WaysOn p.world p.program n p.regions (inside_of (around p (suc p.frame)) m) (source_in m) (meaning.in_block (locals_of p.world shapes) c) result then_next
    (then_after core_steps.Falls) then_after
    → SameAt p n (body m.activations then_next (source_in m)) (meaning.statements (all_of code) then_after (meaning.in_block (locals_of p.world shapes) c)))
    → SameAt p n (in_block body next m) (meaning.statements (put (Block (locals_of p.world shapes) (all_of code) ∷ []) rest) after c)
block_from p n result shapes body code m c next rest after fits ways runs =
    let inner : Next = λ exit. meaning.falls_to exit (meaning.statements rest after) after in
    runs (next_out next m.activations) (after_out inner c)
    (entered_fits p.world p.program p.locals (outward p.names) (p.frame ∷ p.outer) shapes m c p.own p.owned p.kept p.regions fits.agree fits.blocks
    (record { is = fits.own; called = fits.called; stands = fits.stands; values = fits.owned }) fits.locals fits.statics)
    (ways_out p.world p.program n p.regions (around p (suc p.frame)) shapes m c result next inner fits.agree (let b = fits.begun in omega (arith, b))
    (record { falls = ways.falls; breaks = ways.breaks; continues = ways.continues; returns = ways.returns }))

-- a block does the same as its code, where its items do in each activation
pub block_same : (p : Point) (n : ℕ) (result : Shape) (shapes : List Shape) (body : ℕ → Act Flow) (code : List Statement)
    → ((k : ℕ) → RunsAs (at_start p.world p.program p.locals (outward p.names) k (p.frame ∷ p.outer) shapes p.own p.owned p.kept p.regions) n k result
    (body k) code)
    → RunsAs p n (suc p.frame) result (in_block body) (Block (locals_of p.world shapes) (all_of code) ∷ [])
block_same p n result shapes body code runs = record {
  same = λ m c next rest after fits ways.
      block_from p n result shapes body code m c next rest after fits ways (λ then_next then_after inside out.
      (runs m.activations).same (source_in m) (meaning.in_block (locals_of p.world shapes) c) then_next NoStatements then_after inside
      (record { falls = out.falls; breaks = out.breaks; continues = out.continues; returns = out.returns }));
}
