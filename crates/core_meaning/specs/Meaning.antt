-- Believed: what Core does on an input, with an amount of fuel: a run as a tree of steps, cut where fuel is due.
use Rattle.std.specs.Prelude.{ℕ, zero, suc, ◌+◌, nat_eq, if◌then◌else◌, Option, Some, None, List, [], ◌∷◌, slice_get, length}
use Rattle.cyc_words.specs.Events.{SourceEnding}
use Rattle.step_trees.specs.Trees.{Stops, Says, Turns, Calls, Outcome, Bodies, run}
use Rattle.core_meaning.specs.Memory.{
  Region,
  Frame,
  Own,
  Born,
  Standing,
  Live,
  Dead,
  Spot,
  Content,
  Blank,
  Word,
  Null,
  Pointer,
  Birth,
  Part,
  Memory,
  with_standing,
  blanks,
  with_object,
}
use Rattle.core_meaning.specs.Core.{
  Local,
  Statement,
  Do,
  If,
  While,
  Block,
  Leave,
  Break,
  Continue,
  Call,
  Return,
  Raise,
  Statements,
  NoStatements,
  MoreStatements,
  Function,
  Datum,
  Program,
}
use Rattle.core_meaning.specs.Steps.{
  Config,
  with_temp,
  with_memory,
  Event,
  Called,
  Returned,
  Exit,
  Falls,
  Breaks,
  Continues,
  Returns,
  Invocation,
  LoopTurn,
  Step,
  read_event,
  stuck,
  checked,
}
use Rattle.core_meaning.specs.Operations.{does}

-- ---- statements

abbrev pub falls_to : Exit → (Config → Step) → (Exit → Config → Step) → Config → Step
falls_to Falls rest next c = rest c
falls_to Breaks rest next c = next Breaks c
falls_to Continues rest next c = next Continues c
falls_to (Returns vs) rest next c = next (Returns vs) c

-- 0 and NULL are false
abbrev pub branch : Content → Step → Step → Step
branch (Word n) these those = (if nat_eq n 0 then those else these)
branch Null these those = those
branch (Pointer s b) these those = these
branch Blank these those = stuck
branch (Birth d) these those = stuck

abbrev pub values_of : (ℕ → Content) → List ℕ → List Content
values_of temps [] = []
values_of temps (t ∷ ts) = temps t ∷ values_of temps ts

-- the results go to the first of these, and a result too many or too few is out of order
abbrev pub with_results : List ℕ → List Content → Config → (Config → Step) → Step
with_results [] [] c next = next c
with_results (t ∷ ts) (v ∷ vs) c next = with_results ts vs (with_temp t v c) next
with_results [] (v ∷ vs) c next = stuck
with_results (t ∷ ts) [] c next = stuck

-- blank objects, one after the other
abbrev pub with_objects : Region → List Local → Memory → Memory
with_objects r [] m = m
with_objects r (l ∷ ls) m = with_objects r ls (with_object m r (blanks l.layout l.count))

-- a block's activation begins, and ends
abbrev pub in_block : List Local → Config → Config
in_block ls c = record c {
  blocks = c.memory.activations ∷ c.blocks;
  memory = with_objects (Frame c.memory.activations) ls
      (record (with_standing c.memory (Frame c.memory.activations) Live) { activations = c.memory.activations + 1 });
}

abbrev pub out_of_block : ℕ → List ℕ → Config → Config
out_of_block k outer c = record c { blocks = outer; memory = with_standing c.memory (Frame k) Dead }

-- a statement that ends where a `Break` leaves its body
abbrev pub left_by : Exit → (Exit → Config → Step) → Config → Step
left_by Falls next c = next Falls c
left_by Breaks next c = next Falls c
left_by Continues next c = next Continues c
left_by (Returns vs) next c = next (Returns vs) c

abbrev mutual
  pub statement : Statement → (Exit → Config → Step) → Config → Step
  statement (Do operation) next c = does operation (next Falls) c
  statement (If t these those) next c = branch (c.temps t) (statements these next c) (statements those next c)
  -- the unit of a turn is due after the test and before the body; the last test takes none
  statement (While test t body) next c =
      statements test (λ exit. falls_to exit (λ tested. branch (tested.temps t) (Turns (record { test = test; flag = t; body = body }) next tested)
      (next Falls tested)) next) c
  statement (Block ls body) next c =
      statements body (λ exit left. next exit (out_of_block c.memory.activations c.blocks left)) (in_block ls c)
  statement (Leave body) next c = statements body (λ exit. left_by exit next) c
  statement Break next c = next Breaks c
  statement Continue next c = next Continues c
  statement (Call results f arguments) next c =
      Calls (record { function = f; arguments = values_of c.temps arguments }) (λ values m. with_results results values (with_memory m c) (next Falls)) c.memory
  statement (Return values) next c = next (Returns (values_of c.temps values)) c
  statement (Raise kind) next c = Stops (SourceEnding.Raised kind)

  pub statements : Statements → (Exit → Config → Step) → Config → Step
  statements NoStatements next c = next Falls c
  statements (MoreStatements s ss) next c = statement s (λ exit. falls_to exit (statements ss next) next) c

abbrev pub after_turn : Exit → (Config → Step) → (Exit → Config → Step) → Config → Step
after_turn Falls again next c = again c
after_turn Continues again next c = again c
after_turn Breaks again next c = next Falls c
after_turn (Returns vs) again next c = next (Returns vs) c

abbrev pub turned : LoopTurn → (Exit → Config → Step) → Config → Step
turned turn next c = statements turn.body (λ exit. after_turn exit (statement (While turn.test turn.flag turn.body) next) next) c

-- ---- functions

abbrev pub passed_in : List Content → ℕ → Content
passed_in [] k = Blank
passed_in (v ∷ vs) zero = v
passed_in (v ∷ vs) (suc k) = passed_in vs k

abbrev pub entered : Function → List Content → Memory → Config
entered f arguments m = record {
  temps = passed_in arguments;
  blocks = [];
  own = m.calls;
  memory = with_objects (Own m.calls) f.own (record (with_standing m (Own m.calls) Live) { calls = m.calls + 1 });
}

-- the activation's temporary objects end with it; a function's end without `Return` is out of order
abbrev pub left : ℕ → ℕ → (List Content → Memory → Step) → Exit → Config → Step
left f own next (Returns values) c = Says (Returned f) (next values (with_standing c.memory (Own own) Dead))
left f own next Falls c = stuck
left f own next Breaks c = stuck
left f own next Continues c = stuck

abbrev pub body_of : Option Function → ℕ → List Content → (List Content → Memory → Step) → Memory → Step
body_of None f arguments next m = stuck
body_of (Some fn) f arguments next m =
    checked (nat_eq (length arguments) fn.parameters) (Says (Called f) (statements fn.body (left f m.calls next) (entered fn arguments m)))

abbrev pub called : List Function → Invocation → (List Content → Memory → Step) → Memory → Step
called functions call next m = body_of (slice_get functions call.function) call.function call.arguments next m

-- ---- programs

abbrev pub status_of : List Content → Memory → Step
status_of (Word n ∷ []) m = Stops (SourceEnding.Ended n)
status_of vs m = stuck

abbrev pub datum_parts : List Datum → ℕ → ℕ → ℕ → Option Part
datum_parts [] object cell j = None
datum_parts (d ∷ ds) zero cell j = filled (blanks d.layout d.count cell j)
  where
    filled : Option Part → Option Part
    filled None = None
    filled (Some p) = Some (record p { content = d.first cell j })
datum_parts (d ∷ ds) (suc object) cell j = datum_parts ds object cell j

-- the heap is born, with the globals and the strings
abbrev pub first_memory : List Datum → Memory
first_memory ds = record {
  activations = 0;
  calls = 0;
  births = 1;
  standing = λ r. first_standing r;
  objects = λ r. first_objects r;
  parts = λ t j. first_parts t.region t j;
}
  where
    first_standing : Region → Standing
    first_standing (Born zero) = Live
    first_standing (Born (suc d)) = Dead
    first_standing (Frame k) = Dead
    first_standing (Own k) = Dead

    first_objects : Region → ℕ
    first_objects (Born zero) = length ds
    first_objects (Born (suc d)) = 0
    first_objects (Frame k) = 0
    first_objects (Own k) = 0

    first_parts : Region → Spot → ℕ → Option Part
    first_parts (Born zero) t j = datum_parts ds t.object t.cell j
    first_parts (Born (suc d)) t j = None
    first_parts (Frame k) t j = None
    first_parts (Own k) t j = None

-- what stands in the places of calls and turns
abbrev pub bodies : Program → Bodies Event Invocation (List Content) Memory LoopTurn Exit Config
bodies p = record { read = read_event; call = called p.functions; turn = turned }

-- the start of `main` takes no unit; what it returns is the status
abbrev pub start : Program → Step
start p = called p.functions (record { function = p.main; arguments = [] }) status_of (first_memory p.data_objects)

-- the events and the ending of a program on an input, with n units of fuel
abbrev pub core : Program → List ℕ → ℕ → Outcome Event
core p input n = run (bodies p) n (start p) input
