-- Before a unit is due no byte is read or written, whatever a program does.
use Rattle.std.specs.Prelude.{if◌then◌else◌, nat_eq, slice_get, length}
use Rattle.std.proofs.Common.{◌≡◌, ℕ, zero, suc, inl, inr, arith, Bool, true, false, Option, Some, None, List, [], ◌∷◌, ◌++◌, refl, sym, subst}
use Rattle.cyc_words.specs.Events as events
use Rattle.cyc_words.specs.Events.{ByteRead, ByteWritten, output, bytes_read}
use Rattle.std.specs.List.{Contains}
use Rattle.std.proofs.lemmas.List.Elements.{Contains-append_cases}
use Rattle.step_trees.specs.Trees.{Stops, Says, Reads, Pays, Calls, Turns, run}
use Rattle.core_meaning.specs.Memory as memory
use Rattle.core_meaning.specs.Memory.{Region, Frame, Own, Born, Spot, Content, Memory, Part, part_at, beyond, with_part}
use Rattle.core_meaning.specs.Core as core
use Rattle.core_meaning.specs.Core.{Statements, NoStatements, MoreStatements, Distance, Program}
use Rattle.core_meaning.specs.Steps as steps
use Rattle.core_meaning.specs.Steps.{
  Config,
  with_temp,
  with_memory,
  Event,
  Visible,
  Called,
  Returned,
  Exit,
  Step,
  word_of,
  pointer_of,
  birth_of,
  needed,
  checked,
}
use Rattle.core_meaning.specs.Operations.{alone_freed, does, reached, is_null, same_place, at_once, local_spot, fitting}
use Rattle.core_meaning.specs.Meaning.{
  falls_to,
  left_by,
  branch,
  with_results,
  statement,
  statements,
  left,
  status_of,
  bodies,
  called,
  body_of,
  entered,
  first_memory,
  start,
}
use Rattle.core_eval.specs.Standing.{Known, Stands, saying, IsSilent, AreAllSilent}
use Rattle.core_eval.specs.Evaluated.{seen}
use Rattle.core_eval.specs.Pendings.{
  Follow,
  Execute,
  Leave,
  Wait,
  Then,
  Test,
  Body,
  Block,
  Breakable,
  Caller,
  Next,
  Go,
  GetcharDue,
  PutcharDue,
  TurnDue,
  CallDue,
  Over,
  Raised,
  Wrong,
  Mark,
  rest_of,
  coming,
  tested,
  turned_once,
  returned_to,
}

-- no byte is read or written before the next unit
abbrev pub IsQuiet : Step → Type 0
IsQuiet (Stops ending) = Unit {0}
IsQuiet (Says event step) = IsSilent event × IsQuiet step
IsQuiet (Reads next) = ⊥
IsQuiet (Pays next c) = Unit {0}
IsQuiet (Calls invocation next m) = Unit {0}
IsQuiet (Turns turn next c) = Unit {0}

-- ---- what an operation needs

word_quiet : (x : Content) (next : ℕ → Step) → ((n : ℕ) → IsQuiet (next n)) → IsQuiet (word_of x next)
word_quiet (memory.Word n) next h = h n
word_quiet memory.Blank next h = tt
word_quiet memory.Null next h = tt
word_quiet (memory.Pointer s b) next h = tt
word_quiet (memory.Birth d) next h = tt

pointer_quiet : (x : Content) (next : Spot → ℕ → Step) → ((s : Spot) (b : ℕ) → IsQuiet (next s b)) → IsQuiet (pointer_of x next)
pointer_quiet (memory.Word n) next h = tt
pointer_quiet memory.Blank next h = tt
pointer_quiet memory.Null next h = tt
pointer_quiet (memory.Pointer s b) next h = h s b
pointer_quiet (memory.Birth d) next h = tt

birth_quiet : (x : Content) (next : ℕ → Step) → ((n : ℕ) → IsQuiet (next n)) → IsQuiet (birth_of x next)
birth_quiet (memory.Word n) next h = tt
birth_quiet memory.Blank next h = tt
birth_quiet memory.Null next h = tt
birth_quiet (memory.Pointer s b) next h = tt
birth_quiet (memory.Birth d) next h = h d

needed_quiet : {A : Type 0} (o : Option A) (next : A → Step) → ((a : A) → IsQuiet (next a)) → IsQuiet (needed o next)
needed_quiet None next h = tt
needed_quiet (Some a) next h = h a

checked_quiet : (b : Bool) (next : Step) → IsQuiet next → IsQuiet (checked b next)
checked_quiet true next h = h
checked_quiet false next h = tt

reached_quiet : (m : Memory) (d : Distance) (s : Spot) (b : ℕ) (next : Spot → Part → Step) → ((t : Spot) (p : Part) → IsQuiet (next t p))
    → IsQuiet (reached m d s b next)
reached_quiet m d s b next h = needed_quiet (part_at m (beyond s d.cells) d.part) _ (λ p. checked_quiet _ _ (h (beyond s d.cells) p))

null_quiet : (x : Content) (next : ℕ → Step) → ((n : ℕ) → IsQuiet (next n)) → IsQuiet (is_null x next)
null_quiet (memory.Word n) next h = tt
null_quiet memory.Blank next h = tt
null_quiet memory.Null next h = h 1
null_quiet (memory.Pointer s b) next h = h 0
null_quiet (memory.Birth d) next h = tt

same_quiet : (m : Memory) (x y : Content) (next : ℕ → Step) → ((n : ℕ) → IsQuiet (next n)) → IsQuiet (same_place m x y next)
same_quiet m memory.Null y next h = null_quiet y next h
same_quiet m (memory.Pointer s b) memory.Null next h = h 0
same_quiet m (memory.Pointer s b) (memory.Pointer t c) next h =
    needed_quiet (part_at m s 0) _ (λ p. needed_quiet (part_at m t 0) _ (λ q. checked_quiet _ _ (h _)))
same_quiet m (memory.Pointer s b) memory.Blank next h = tt
same_quiet m (memory.Pointer s b) (memory.Word n) next h = tt
same_quiet m (memory.Pointer s b) (memory.Birth d) next h = tt
same_quiet m memory.Blank y next h = tt
same_quiet m (memory.Word n) y next h = tt
same_quiet m (memory.Birth d) y next h = tt

-- ---- operations

alone_quiet : (r : Region) (next : Config → Step) → ((c : Config) → IsQuiet (next c)) → (c : Config) → IsQuiet (alone_freed r next c)
alone_quiet (Frame k) next h c = tt
alone_quiet (Own k) next h c = tt
alone_quiet (Born d) next h c =
    checked_quiet (memory.is_single (c.memory.standing (Born d))) (Says (Visible (events.UniqueFree d)) _) (tt, h _)

does_quiet : (o : core.Operation) (next : Config → Step) → ((c : Config) → IsQuiet (next c)) → (c : Config) → IsQuiet (does o next c)
does_quiet (core.Constant t w) next h c = h _
does_quiet (core.NullPointer t) next h c = h _
does_quiet (core.Move t x) next h c = h _
does_quiet (core.Narrow t x) next h c = word_quiet (c.temps x) _ (λ n. h _)
does_quiet (core.Apply o t x y) next h c = word_quiet (c.temps x) _ (λ a. word_quiet (c.temps y) _ (λ b. h _))
does_quiet (core.LocalAddress t out local) next h c = needed_quiet _ _ (λ k. h _)
does_quiet (core.OwnAddress t object) next h c = h _
does_quiet (core.DataAddress t object) next h c = h _
does_quiet (core.Offset t p cells bytes) next h c = pointer_quiet (c.temps p) _ (λ s b. checked_quiet _ _ (h _))
does_quiet (core.Element t p i cells bytes) next h c =
    pointer_quiet (c.temps p) _ (λ s b. word_quiet (c.temps i) _ (λ n. checked_quiet _ _ (h _)))
does_quiet (core.Get t out local width) next h c =
    needed_quiet _ _ (λ k. reached_quiet c.memory (at_once width) (local_spot k local) 0 _ (λ there part. h (with_temp t part.content c)))
does_quiet (core.Put out local width x) next h c =
    needed_quiet _ _ (λ k. reached_quiet c.memory (at_once width) (local_spot k local) 0 _
    (λ there part. h (with_memory (with_part c.memory there 0 (record part { content = fitting width (c.temps x) })) c)))
does_quiet (core.Load t p d) next h c =
    pointer_quiet (c.temps p) _ (λ s b. reached_quiet c.memory d s b _ (λ there part. h (with_temp t part.content c)))
does_quiet (core.Store p d x) next h c =
    pointer_quiet (c.temps p) _ (λ s b. reached_quiet c.memory d s b _
    (λ there part. h (with_memory (with_part c.memory there d.part (record part { content = fitting d.width (c.temps x) })) c)))
does_quiet (core.Copy to from l) next h c = pointer_quiet (c.temps to) _ (λ s b. pointer_quiet (c.temps from) _ (λ t e. checked_quiet _ _ (h _)))
does_quiet (core.Clear p l count) next h c = pointer_quiet (c.temps p) _ (λ s b. checked_quiet _ _ (h _))
does_quiet (core.IsNull t p) next h c = null_quiet (c.temps p) _ (λ n. h _)
does_quiet (core.SamePlace t p q) next h c = same_quiet c.memory (c.temps p) (c.temps q) _ (λ n. h _)
does_quiet (core.Getchar t) next h c = tt
does_quiet (core.Putchar t x) next h c = word_quiet (c.temps x) _ (λ n. tt)
does_quiet (core.HeapHandle t) next h c = h _
does_quiet (core.RegionNew t) next h c = (tt, h _)
does_quiet (core.RegionAlloc t r n l) next h c = birth_quiet (c.temps r) _
    (λ d. word_quiet (c.temps n) _ (λ count. checked_quiet _ (Says (Visible (events.RegionAlloc d _)) _) (tt, h _)))
does_quiet (core.RegionFree r) next h c = birth_quiet (c.temps r) _ (λ d. checked_quiet _ (Says (Visible (events.RegionFree d)) _) (tt, h _))
does_quiet (core.UniqueAlloc t l) next h c = (tt, h _)
does_quiet (core.UniqueFree p) next h c = pointer_quiet (c.temps p) _ (λ s b. checked_quiet (nat_eq b 0) _ (alone_quiet s.region next h c))
does_quiet (core.KeyNew t) next h c = (tt, h _)
does_quiet (core.KeyOpen k) next h c = birth_quiet (c.temps k) _ (λ d. checked_quiet _ (Says (Visible (events.KeyOpen d)) _) (tt, h _))
does_quiet (core.KeyClose k) next h c = birth_quiet (c.temps k) _ (λ d. checked_quiet _ (Says (Visible (events.KeyClose d)) _) (tt, h _))
does_quiet (core.KeyFree k) next h c = birth_quiet (c.temps k) _ (λ d. checked_quiet _ (Says (Visible (events.KeyFree d)) _) (tt, h _))

-- ---- statements

branch_quiet : (x : Content) (these those : Step) → IsQuiet these → IsQuiet those → IsQuiet (branch x these those)
branch_quiet (memory.Word n) these those h k = either (nat_eq n 0)
  where
    either : (b : Bool) → IsQuiet (if b then those else these)
    either true = k
    either false = h
branch_quiet memory.Null these those h k = k
branch_quiet (memory.Pointer s b) these those h k = h
branch_quiet memory.Blank these those h k = tt
branch_quiet (memory.Birth d) these those h k = tt

-- whatever it goes on from, it reads and writes no byte before the next unit
abbrev pub IsQuietRest : (Exit → Config → Step) → Type 0
IsQuietRest next = (exit : Exit) (c : Config) → IsQuiet (next exit c)

falls_quiet : (exit : Exit) (rest : Config → Step) (next : Exit → Config → Step) (c : Config) → ((c : Config) → IsQuiet (rest c)) → IsQuietRest next
    → IsQuiet (falls_to exit rest next c)
falls_quiet steps.Falls rest next c h k = h c
falls_quiet steps.Breaks rest next c h k = k _ c
falls_quiet steps.Continues rest next c h k = k _ c
falls_quiet (steps.Returns vs) rest next c h k = k _ c

ended_quiet : (exit : Exit) (next : Exit → Config → Step) (c : Config) → IsQuietRest next → IsQuiet (left_by exit next c)
ended_quiet steps.Falls next c h = h _ c
ended_quiet steps.Breaks next c h = h _ c
ended_quiet steps.Continues next c h = h _ c
ended_quiet (steps.Returns vs) next c h = h _ c

mutual
  statement_quiet : (s : core.Statement) (next : Exit → Config → Step) → IsQuietRest next → (c : Config) → IsQuiet (statement s next c)
  statement_quiet (core.Do o) next h c = does_quiet o (next steps.Falls) (h steps.Falls) c
  statement_quiet (core.If t these those) next h c = branch_quiet (c.temps t) _ _ (statements_quiet these next h c) (statements_quiet those next h c)
  statement_quiet (core.While test t body) next h c =
      statements_quiet test (tested test t body next)
      (λ exit d. falls_quiet exit _ next d (λ e. branch_quiet (e.temps t) _ _ tt (h steps.Falls e)) h) c
  statement_quiet (core.Block ls body) next h c = statements_quiet body _ (λ exit d. h exit _) _
  statement_quiet (core.Leave body) next h c = statements_quiet body _ (λ exit d. ended_quiet exit next d h) c
  statement_quiet core.Break next h c = h steps.Breaks c
  statement_quiet core.Continue next h c = h steps.Continues c
  statement_quiet (core.Call results f arguments) next h c = tt
  statement_quiet (core.Return vs) next h c = h _ c
  statement_quiet (core.Raise kind) next h c = tt

  pub statements_quiet : (ss : Statements) (next : Exit → Config → Step) → IsQuietRest next → (c : Config) → IsQuiet (statements ss next c)
  statements_quiet NoStatements next h c = h steps.Falls c
  statements_quiet (MoreStatements s ss) next h c =
      statement_quiet s _ (λ exit d. falls_quiet exit (statements ss next) next d (statements_quiet ss next h) h) c

-- ---- what waits

results_quiet : (ts : List ℕ) (vs : List Content) (c : Config) (next : Config → Step) → ((c : Config) → IsQuiet (next c)) → IsQuiet (with_results ts vs c next)
results_quiet [] [] c next h = h c
results_quiet (t ∷ ts) (v ∷ vs) c next h = results_quiet ts vs _ next h
results_quiet [] (v ∷ vs) c next h = tt
results_quiet (t ∷ ts) [] c next h = tt

status_quiet : (vs : List Content) (m : Memory) → IsQuiet (status_of vs m)
status_quiet (memory.Word n ∷ []) m = tt
status_quiet [] m = tt
status_quiet (memory.Blank ∷ []) m = tt
status_quiet (memory.Null ∷ []) m = tt
status_quiet (memory.Pointer s b ∷ []) m = tt
status_quiet (memory.Birth d ∷ []) m = tt
status_quiet (memory.Word n ∷ w ∷ vs) m = tt
status_quiet (memory.Blank ∷ w ∷ vs) m = tt
status_quiet (memory.Null ∷ w ∷ vs) m = tt
status_quiet (memory.Pointer s b ∷ w ∷ vs) m = tt
status_quiet (memory.Birth d ∷ w ∷ vs) m = tt

left_quiet : (f own : ℕ) (next : List Content → Memory → Step) → ((vs : List Content) (m : Memory) → IsQuiet (next vs m)) → IsQuietRest (left f own next)
left_quiet f own next h (steps.Returns vs) c = (tt, h vs _)
left_quiet f own next h steps.Falls c = tt
left_quiet f own next h steps.Breaks c = tt
left_quiet f own next h steps.Continues c = tt

turn_quiet : (test : Statements) (flag : ℕ) (body : Statements) (next : Exit → Config → Step) → IsQuietRest next → IsQuietRest (turned_once test flag body next)
turn_quiet test flag body next h steps.Falls c = statement_quiet (core.While test flag body) next h c
turn_quiet test flag body next h steps.Continues c = statement_quiet (core.While test flag body) next h c
turn_quiet test flag body next h steps.Breaks c = h steps.Falls c
turn_quiet test flag body next h (steps.Returns vs) c = h _ c

pub rest_quiet : (main : ℕ) (ws : List Wait) (marks : List Mark) → IsQuietRest (rest_of main ws marks)
rest_quiet main [] marks exit c = left_quiet main 0 status_of status_quiet exit c
rest_quiet main (Then ss ∷ ws) marks exit c =
    falls_quiet exit (statements ss (rest_of main ws marks)) (rest_of main ws marks) c (statements_quiet ss (rest_of main ws marks) (rest_quiet main ws marks))
    (rest_quiet main ws marks)
rest_quiet main (Test test flag body ∷ ws) marks exit c =
    falls_quiet exit _ (rest_of main ws marks) c (λ e. branch_quiet (e.temps flag) _ _ tt (rest_quiet main ws marks steps.Falls e)) (rest_quiet main ws marks)
rest_quiet main (Body test flag body ∷ ws) marks exit c = turn_quiet test flag body (rest_of main ws marks) (rest_quiet main ws marks) exit c
rest_quiet main (Block ∷ ws) [] exit c = tt
rest_quiet main (Block ∷ ws) (mark ∷ marks) exit c = rest_quiet main ws marks exit _
rest_quiet main (Breakable ∷ ws) marks exit c = ended_quiet exit (rest_of main ws marks) c (rest_quiet main ws marks)
rest_quiet main (Caller results f saved ∷ ws) [] exit c = tt
rest_quiet main (Caller results f saved ∷ ws) (mark ∷ marks) exit c =
    left_quiet f mark.number (returned_to results mark.outside (rest_of main ws marks))
    (λ vs m. results_quiet results vs _ (rest_of main ws marks steps.Falls) (rest_quiet main ws marks steps.Falls)) exit c

-- a function of the program, if there is one of that number, and it takes so much
called_quiet : (fs : List core.Function) (call : steps.Invocation) (next : List Content → Memory → Step)
    → ((vs : List Content) (m : Memory) → IsQuiet (next vs m))
    → (m : Memory) → IsQuiet (called fs call next m)
called_quiet fs call next h m = body_quiet (slice_get fs call.function)
  where
    body_quiet : (f : Option core.Function) → IsQuiet (body_of f call.function call.arguments next m)
    body_quiet None = tt
    body_quiet (Some f) =
        checked_quiet (nat_eq (length call.arguments) f.parameters) (Says (Called call.function) _)
        (tt, statements_quiet f.body (left call.function m.calls next) (left_quiet call.function m.calls next h) (entered f call.arguments m))

-- the start of a program
pub start_quiet : (p : Program) → IsQuiet (start p)
start_quiet p = called_quiet p.functions (record { function = p.main; arguments = [] }) status_of status_quiet (first_memory p.data_objects)

-- what is due, and all that waits
pub coming_quiet : (main : ℕ) (next : Next) (ws : List Wait) (marks : List Mark) (c : Config) → IsQuiet (coming next (rest_of main ws marks) c)
coming_quiet main (Go (Follow ss)) ws marks c = statements_quiet ss (rest_of main ws marks) (rest_quiet main ws marks) c
coming_quiet main (Go (Execute s)) ws marks c = statement_quiet s (rest_of main ws marks) (rest_quiet main ws marks) c
coming_quiet main (Go (Leave exit)) ws marks c = rest_quiet main ws marks exit c
coming_quiet main (GetcharDue t) ws marks c = tt
coming_quiet main (PutcharDue t x) ws marks c = tt
coming_quiet main (TurnDue test flag body) ws marks c = tt
coming_quiet main (CallDue results f arguments) ws marks c = tt
coming_quiet main (Over status) ws marks c = tt
coming_quiet main (Raised kind) ws marks c = tt
coming_quiet main Wrong ws marks c = tt

-- ---- what is seen of it

pub record AreSilent (es : List events.Event) : Type 0 where
  pub written : output es ≡ []
  pub read : bytes_read es ≡ []
  pub untold : Contains es (ByteRead None) → ⊥

pub none_silent : AreSilent []
none_silent = record { written = refl; read = refl; untold = λ (k, below, is). absurd (omega arith) }

-- the input's end is told before events that don't tell it
pub told_first : (es later : List events.Event) → AreSilent later → Contains (es ++ later) (ByteRead None) → Contains es (ByteRead None)
told_first es later silent has = elim (Contains-append_cases es later (ByteRead None) has) [
  | inl early ↦ early
  | inr late ↦ absurd (silent.untold late)
]

-- an event of a list is the first one or one of the others
first_or_later : {P : Type 0} (e x : events.Event) (es : List events.Event) → (e ≡ x → P) → (Contains es x → P) → Contains (e ∷ es) x → P
first_or_later e x es first later has = elim (Contains-append_cases (e ∷ []) es x has) [
  | inl here ↦ first (only here)
  | inr there ↦ later there
]
  where
    only : Contains (e ∷ []) x → e ≡ x
    only (zero, below, is) = is
    only (suc k, below, is) = absurd (omega arith)

-- one event more
silent_visible : (e : events.Event) (es : List events.Event) → IsSilent (Visible e) → AreSilent es → AreSilent (e ∷ es)
silent_visible (ByteRead byte) es h x = absurd h
silent_visible (ByteWritten byte) es h x = absurd h
silent_visible e es h x = record { written = x.written; read = x.read; untold = first_or_later e (ByteRead None) es (λ same. (cc)) x.untold }

silent_after : (e : Event) (es : List Event) → IsSilent e → AreSilent (seen es) → AreSilent (seen (e ∷ es))
silent_after (Called f) es h x = x
silent_after (Returned f) es h x = x
silent_after (Visible e) es h x = silent_visible e (seen es) h x

-- with no unit left such a run reads and writes no byte
pub silent_run : (p : Program) (s : Step) (input : List ℕ) → IsQuiet s → AreSilent (seen (run (bodies p) 0 s input).events)
silent_run p (Stops ending) input h = none_silent
silent_run p (Says event s) input h = silent_after event (run (bodies p) 0 s input).events h.0 (silent_run p s input h.1)
silent_run p (Reads next) input h = absurd h
silent_run p (Pays next m) input h = none_silent
silent_run p (Calls invocation next m) input h = none_silent
silent_run p (Turns turn next m) input h = none_silent

-- what is said, and then done
pub said_silent : (es : List Event) → AreAllSilent es → AreSilent (seen es)
said_silent [] h = none_silent
said_silent (e ∷ es) h = silent_after e es h.0 (said_silent es h.1)

quiet_said : (es : List Event) (s : Step) → AreAllSilent es → IsQuiet s → IsQuiet (saying es s)
quiet_said [] s h k = k
quiet_said (e ∷ es) s h k = (h.0, quiet_said es s h.1 k)

-- where a run stands it is quiet
pub stands_quiet : (main : ℕ) (s : Step) (next : Next) (ws : List Wait) (known : Known) → Stands main s next ws known → IsQuiet s
stands_quiet main s next ws known st =
    subst IsQuiet (sym st.same) (quiet_said st.said _ st.silent (coming_quiet main next ws st.marks st.config))
