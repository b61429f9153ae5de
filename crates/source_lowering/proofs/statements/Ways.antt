-- What comes after a statement for each way out of it, and the regions that are left on it.
use Rattle.std.proofs.Common.{◌≡◌, ℕ, zero, suc, ◌≤◌, List, [], ◌∷◌, Bool, true, false, nat_eq, refl, sym, ap, ◌∙◌}
use Rattle.std.specs.Prelude.{not, ◌&&◌}
use Rattle.cyc_words.specs.Events as events
use Rattle.source_meaning.specs.Shapes.{Shape}
use Rattle.source_meaning.specs.Memory as source
use Rattle.source_meaning.specs.Memory.{Scalar}
use Rattle.source_meaning.specs.Steps as steps
use Rattle.source_meaning.specs.Steps.{World, Flow, Act}
use Rattle.core_meaning.specs.Memory as core
use Rattle.core_meaning.specs.Memory.{Content, Blank, Word, Null, Pointer, Birth, Born, is_lexical, is_opened, with_standing}
use Rattle.core_meaning.specs.Core.{Program, Statement, Statements, NoStatements}
use Rattle.core_meaning.specs.Operations.{does, says}
use Rattle.core_meaning.specs.Steps as core_steps
use Rattle.core_meaning.specs.Steps.{Config, birth_of, checked, with_memory}
use Rattle.core_meaning.specs.Meaning as meaning
use Rattle.core_meaning.specs.Meaning.{values_of}
use Rattle.source_lowering.specs.Lowered.{put}
use Rattle.source_lowering.specs.Programs.{RegionsAround, leaving_code, left_by}
use Rattle.source_lowering.specs.Simulation.{SameMemory, Bound, Grown, Point, SameState, SameAt, Same, Next, AreKept, GrownAt, activation, around}
use Rattle.source_lowering.proofs.memory.Keeping.{IsLess, later_self, later_on, later_less, later_around, blocks_of}
use Rattle.source_lowering.proofs.Runs.{less_fuel}
use Rattle.source_lowering.proofs.expressions.Calls.{ResultIs}

-- of so many regions in scope the innermost are left, one after the other: freed, or closed where a key opened them
abbrev pub freed : (opened : List Bool) → (all count : ℕ) → (Config → core_steps.Step) → Config → core_steps.Step
freed opened all zero next c = next c
freed [] all (suc count) next c = next c
freed (o ∷ os) zero (suc count) next c = next c
freed (o ∷ os) (suc all) (suc count) next c = does (left_by o all) (freed os all count next) c

-- a later point in the same activations, where the first temporaries are as they were
pub record Onward (w : World) (all : ℕ) (b : Bound) (m0 : source.Memory) (c0 : Config) (m : source.Memory) (c : Config) : Type 0 where
  pub agree : SameMemory w m c.memory
  pub later : Grown b m0 c0.memory m c.memory
  pub active : activation c ≡ activation c0
  pub kept : AreKept all c0 c

-- What comes after a statement for each way out of it, within so many regions: with memories that agree, in which the blocks before one have no more locals,
-- both go on alike, where Core frees or closes the regions that this way leaves.
pub record WaysOn (w : World) (fs : Program) (n : ℕ) (h : RegionsAround) (b : Bound) (m0 : source.Memory) (c0 : Config) (result : Shape)
    (next : Flow → source.Memory → steps.Step) (falls_on : Config → core_steps.Step) (after : Next) : Type 0 where
  pub falls : (m : source.Memory) (c : Config) → Onward w h.all b m0 c0 m c → Same w fs n (next steps.Falls m) (falls_on c)
  pub breaks : (m : source.Memory) (c : Config) → Onward w h.all b m0 c0 m c
      → Same w fs n (next steps.Breaks m) (freed h.opened h.all h.broken (after core_steps.Breaks) c)
  pub continues : (m : source.Memory) (c : Config) → Onward w h.all b m0 c0 m c
      → Same w fs n (next steps.Continues m) (freed h.opened h.all h.continued (after core_steps.Continues) c)
  pub returns : (m : source.Memory) (c : Config) (vs : List Scalar) (xs : List Content) → Onward w h.all b m0 c0 m c → ResultIs w m c.memory result vs xs
      → Same w fs n (next (steps.Returns vs) m) (freed h.opened h.all h.all (after (core_steps.Returns xs)) c)

-- an act does the same as the code of a statement, or of a block's items; the blocks before one have no more locals then
pub record RunsAs (p : Point) (n b : ℕ) (result : Shape) (act : Act Flow) (code : List Statement) : Type 0 where
  pub same : (m : source.Memory) (c : Config) (next : Flow → source.Memory → steps.Step) (rest : Statements) (after : Next) → SameState p m c
      → WaysOn p.world p.program n p.regions (around p b) m c result next (meaning.statements rest after) after
      → SameAt p n (act next m) (meaning.statements (put code rest) after c)

-- ---- ways on

-- the point itself
pub onward_self : (p : Point) (all b : ℕ) (m : source.Memory) (c : Config) → SameState p m c → Onward p.world all (around p b) m c m c
onward_self p all b m c fits = record { agree = fits.agree; later = later_self (around p b) m c.memory; active = refl; kept = λ k less. refl }

-- behind an expression, whose value is in the first free temporary
pub onward_behind : (p : Point) (m m' : source.Memory) (c c' : Config) → SameState p m c → SameState p m' c' → GrownAt p m c m' c' → AreKept p.regions.all c c'
    → Onward p.world p.regions.all (around p (suc p.frame)) m c m' c'
onward_behind p m m' c c' fits fits' later kept =
    record { agree = fits'.agree; later = later_around p m m' c c' later; active = blocks_of p m m' c c' fits fits'; kept = kept }

-- one point behind another
pub onward_on : (w : World) (all : ℕ) (b b' : Bound) (m0 m1 m : source.Memory) (c0 c1 c : Config) → IsLess b b' → Grown b m0 c0.memory m1 c1.memory
    → activation c1 ≡ activation c0 → AreKept all c0 c1 → Onward w all b' m1 c1 m c → Onward w all b m0 c0 m c
onward_on w all b b' m0 m1 m c0 c1 c less later blocks kept o = record {
  agree = o.agree;
  later = later_on b m0 m1 m c0.memory c1.memory c.memory later (later_less b' b m1 m c1.memory c.memory less o.later);
  active = o.active ∙ blocks;
  kept = λ k g. o.kept k g ∙ kept k g;
}

-- with less fuel
pub ways_less : (w : World) (fs : Program) (n j : ℕ) (h : RegionsAround) (b : Bound) (m0 : source.Memory) (c0 : Config) (result : Shape)
    (next : Flow → source.Memory → steps.Step) (falls_on : Config → core_steps.Step) (after : Next) → j ≤ n
    → WaysOn w fs n h b m0 c0 result next falls_on after → WaysOn w fs j h b m0 c0 result next falls_on after
ways_less w fs n j h b m0 c0 result next falls_on after less ways = record {
  falls = λ m c o. less_fuel w fs n j _ _ less (ways.falls m c o);
  breaks = λ m c o. less_fuel w fs n j _ _ less (ways.breaks m c o);
  continues = λ m c o. less_fuel w fs n j _ _ less (ways.continues m c o);
  returns = λ m c vs xs o r. less_fuel w fs n j _ _ less (ways.returns m c vs xs o r);
}

-- from a later point on
pub ways_later : (w : World) (fs : Program) (n : ℕ) (h : RegionsAround) (b b' : Bound) (m0 m1 : source.Memory) (c0 c1 : Config) (result : Shape)
    (next : Flow → source.Memory → steps.Step) (falls_on : Config → core_steps.Step) (after : Next) → IsLess b b' → Grown b m0 c0.memory m1 c1.memory
    → activation c1 ≡ activation c0 → AreKept h.all c0 c1 → WaysOn w fs n h b m0 c0 result next falls_on after
    → WaysOn w fs n h b' m1 c1 result next falls_on after
ways_later w fs n h b b' m0 m1 c0 c1 result next falls_on after less later blocks kept ways = record {
  falls = λ m c o. ways.falls m c (on m c o);
  breaks = λ m c o. ways.breaks m c (on m c o);
  continues = λ m c o. ways.continues m c (on m c o);
  returns = λ m c vs xs o r. ways.returns m c vs xs (on m c o) r;
}
  where
    on : (m : source.Memory) (c : Config) → Onward w h.all b' m1 c1 m c → Onward w h.all b m0 c0 m c
    on m c o = onward_on w h.all b b' m0 m1 m c0 c1 c less later blocks kept o

-- for a part of a statement, whose own code ends where the statement's does
pub ways_inside : (w : World) (fs : Program) (n : ℕ) (h : RegionsAround) (b : Bound) (m0 : source.Memory) (c0 : Config) (result : Shape)
    (next : Flow → source.Memory → steps.Step) (rest : Statements) (after : Next)
    → WaysOn w fs n h b m0 c0 result next (meaning.statements rest after) after
    → WaysOn w fs n h b m0 c0 result next (meaning.statements NoStatements (λ exit. meaning.falls_to exit (meaning.statements rest after) after))
    (λ exit. meaning.falls_to exit (meaning.statements rest after) after)
ways_inside w fs n h b m0 c0 result next rest after ways =
    record { falls = ways.falls; breaks = ways.breaks; continues = ways.continues; returns = ways.returns }

-- ---- ways out: regions are freed, or closed

-- so many regions are left by code
pub leaving_runs : (opened : List Bool) (all count : ℕ) (rest : Statements) (after : Next) (c : Config)
    → meaning.statements (put (leaving_code opened all count) rest) after c ≡ freed opened all count (meaning.statements rest after) c
leaving_runs opened all zero rest after c = refl
leaving_runs [] all (suc count) rest after c = refl
leaving_runs (o ∷ os) zero (suc count) rest after c = refl
leaving_runs (o ∷ os) (suc all) (suc count) rest after c = λ i. does (left_by o all) (λ c'. leaving_runs os all count rest after c' i) c

-- what a region is once it is left
abbrev pub standing_left : (opened : Bool) → core.Standing
standing_left true = core.Closed
standing_left false = core.Dead

abbrev pub memory_left : (opened : Bool) → ℕ → core.Memory → core.Memory
memory_left opened d m = with_standing m (Born d) (standing_left opened)

-- what follows where a temporary holds a handle, or a key
abbrev pub free_by : (opened : Bool) → (Config → core_steps.Step) → Config → ℕ → core_steps.Step
free_by true next c d = checked (is_opened (c.memory.standing (Born d))) (says (events.KeyClose d) (next (with_memory (memory_left true d c.memory) c)))
free_by false next c d = checked (not (nat_eq d 0) && is_lexical (c.memory.standing (Born d)))
    (says (events.RegionFree d) (next (with_memory (memory_left false d c.memory) c)))

-- two steps are the same where they are for each handle
each_birth : (x : Content) (f g : ℕ → core_steps.Step) → ((d : ℕ) → f d ≡ g d) → birth_of x f ≡ birth_of x g
each_birth (Birth d) f g h = h d
each_birth Blank f g h = refl
each_birth (Word n) f g h = refl
each_birth Null f g h = refl
each_birth (Pointer s b) f g h = refl

-- one region is left in two ways, which are the same behind it
pub each_left : (opened : Bool) (all : ℕ) (next other : Config → core_steps.Step) (c c' : Config) → c'.temps all ≡ c.temps all
    → ((d : ℕ) → free_by opened next c d ≡ free_by opened other c' d) → does (left_by opened all) next c ≡ does (left_by opened all) other c'
each_left true all next other c c' temp h =
    each_birth (c.temps all) (free_by true next c) (free_by true other c') h ∙ ap (λ z. birth_of z (free_by true other c')) (sym temp)
each_left false all next other c c' temp h =
    each_birth (c.temps all) (free_by false next c) (free_by false other c') h ∙ ap (λ z. birth_of z (free_by false other c')) (sym temp)

-- where what comes next is
pub free_next : (opened : Bool) (next other : Config → core_steps.Step) (c : Config) (d : ℕ)
    → next (with_memory (memory_left opened d c.memory) c) ≡ other (with_memory (memory_left opened d c.memory) c)
    → free_by opened next c d ≡ free_by opened other c d
free_next true next other c d h = ap (λ z. checked (is_opened (c.memory.standing (Born d))) (says (events.KeyClose d) z)) h
free_next false next other c d h = ap (λ z. checked (not (nat_eq d 0) && is_lexical (c.memory.standing (Born d))) (says (events.RegionFree d) z)) h

-- leaving changes no temporary
pub freed_keeps : (opened : List Bool) (all count : ℕ) (next : List Content → Config → core_steps.Step) (ts : List ℕ) (c : Config)
    → freed opened all count (λ c'. next (values_of c'.temps ts) c') c ≡ freed opened all count (next (values_of c.temps ts)) c
freed_keeps opened all zero next ts c = refl
freed_keeps [] all (suc count) next ts c = refl
freed_keeps (o ∷ os) zero (suc count) next ts c = refl
freed_keeps (o ∷ os) (suc all) (suc count) next ts c =
    each_left o all (freed os all count (λ c'. next (values_of c'.temps ts) c')) (freed os all count (next (values_of c.temps ts))) c c refl
    (λ d. free_next o (freed os all count (λ c'. next (values_of c'.temps ts) c')) (freed os all count (next (values_of c.temps ts))) c d
    (freed_keeps os all count next ts (with_memory (memory_left o d c.memory) c)))
