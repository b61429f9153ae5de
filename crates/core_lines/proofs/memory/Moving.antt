-- Runs of the machine, one after the other, and what goes on from one relation that goes on from another.
use Rattle.std.proofs.Common.{
  ◌≡◌,
  ℕ,
  zero,
  suc,
  ◌+◌,
  ◌-◌,
  ◌≤◌,
  ◌<◌,
  ◌⊎◌,
  inl,
  inr,
  ⊎_elim,
  List,
  [],
  ◌∷◌,
  ◌++◌,
  Option,
  Some,
  None,
  refl,
  sym,
  ap,
  subst,
  ◌∙◌,
  arith,
  add-sub_of_le,
  zero-add,
  suc-add,
}
use Rattle.cyc_words.specs.Events.{AreBytes, SourceEvent, visible}
use Rattle.cyc_words.specs.Events as events
use Rattle.arena_laws.specs.Lawful.{Answer, Refuses}
use Rattle.rv32_isa.specs.Table.{decoded}
use Rattle.rv32_isa.specs.declared.instruction.Instr.{Instr}
use Rattle.rv32_isa.specs.declared.instruction.Instr.TheVariants.{Lb, Lh, Lw, Lbu, Lhu, Sb, Sh, Sw}
use Rattle.rv32_machine.specs.State.{Areas, Stop, Mode, Runs, Waits, Over, word_at}
use Rattle.rv32_machine.specs.Step.{Nothing, Stops, Silent, step, step_in}
use Rattle.rv32_machine.specs.Run.{Run, after_step, run_step, run_steps}
use Rattle.rv32_machine.specs.Audit.{IsLawful, IsLawfulIn, AccessIsLawful, DecodedIsLawful}
use Rattle.rv32_machine.specs.Implements.{active_after, frames}
use Rattle.rv32_machine.proofs.LongerRuns.{AreLawful, run_more, lawful_more, over_steps}
use Rattle.step_trees.specs.Trees.{Outcome, Says, Calls, after}
use Rattle.core_meaning.specs.Memory.{Content, Memory}
use Rattle.core_meaning.specs.Meaning as core
use Rattle.core_meaning.specs.Steps.{Step, Event, Called, Returned, Visible, Invocation, stuck}
use Rattle.core_lines.specs.Machines.{Machine, state_of, run_of, run_from}
use Rattle.core_lines.specs.Running.{named, core_run}
use Rattle.core_lines.proofs.memory.Relations.{Moves, Led, Cut, NoStack, IsNext, World, Leads, Goes}

-- ---- one instruction

-- the run of a machine with no input
abbrev pub bare : Machine → Run
bare s = run_of s [] (λ _. Refuses) []

-- where an access may lie depends on no input, answer or event
module _ (n : Areas) (s : Machine) (input : List ℕ) (answers : ℕ → Answer) (es : List events.Event) where
  access_alike : (instr : Instr) → AccessIsLawful n (bare s) instr → AccessIsLawful n (run_of s input answers es) instr
  access_alike (Lb rd base offset) h = h
  access_alike (Lh rd base offset) h = h
  access_alike (Lw rd base offset) h = h
  access_alike (Lbu rd base offset) h = h
  access_alike (Lhu rd base offset) h = h
  access_alike (Sb base b offset) h = h
  access_alike (Sh base b offset) h = h
  access_alike (Sw base b offset) h = h
  access_alike _ h = tt

  decoded_alike : (instr : Option Instr) → DecodedIsLawful n (bare s) instr → DecodedIsLawful n (run_of s input answers es) instr
  decoded_alike None h = tt
  decoded_alike (Some instr) h = access_alike instr h

  in_alike : (mode : Mode) → IsLawfulIn mode n (bare s) → IsLawfulIn mode n (run_of s input answers es)
  in_alike Runs h = λ within. decoded_alike (decoded (word_at s.bytes s.pc)) (h within)
  in_alike Waits h = tt
  in_alike (Over why) h = tt

  pub lawful_alike : IsLawful n (bare s) → IsLawful n (run_of s input answers es)
  lawful_alike h = in_alike s.mode h

module _ (n : Areas) (s t : Machine) (same : t.store.ledger ≡ s.store.ledger) where
  -- an instruction that shows nothing, whatever the store would answer
  pub by_one : ((answer : Answer) → step n answer (state_of s) ≡ record { shown = Nothing; told = Silent; state = state_of t }) → IsLawful n (bare s)
      → Moves n 1 s t
  by_one e lawful = record {
    moved = λ input answers es. ap (after_step (run_of s input answers es)) (e (answers 0))
        ∙ (λ i. record { state = state_of t; input = input; answers = answers; events = es; ledger = sym same i; refused = None });
    lawful = λ input answers es. (lawful_alike n s input answers es lawful, tt);
  }

  -- one that stops the machine
  pub by_stop : (why : Stop) → ((answer : Answer) → step n answer (state_of s) ≡ record { shown = Stops why; told = Silent; state = state_of t }) → IsLawful n
      (bare s)
      → Moves n 1 s t
  by_stop why e lawful = record {
    moved = λ input answers es. ap (after_step (run_of s input answers es)) (e (answers 0))
        ∙ (λ i. record { state = state_of t; input = input; answers = answers; events = es; ledger = sym same i; refused = None });
    lawful = λ input answers es. (lawful_alike n s input answers es lawful, tt);
  }

pub and_then : (n : Areas) (s t u : Machine) (a b : ℕ) → Moves n a s t → Moves n b t u → Moves n (a + b) s u
and_then n s t u a b first second = record {
  moved = λ input answers es. run_more n a b _ ∙ (ap (run_steps n b) (first.moved input answers es) ∙ second.moved input answers es);
  lawful = λ input answers es. lawful_more n a b _ (first.lawful input answers es)
      (subst (AreLawful n b) (sym (first.moved input answers es)) (second.lawful input answers es));
}

-- the accesses of some steps, and of more
lawful_parts : (n : Areas) (first more : ℕ) (r : Run) → AreLawful n (first + more) r → AreLawful n first r × AreLawful n more (run_steps n first r)
lawful_parts n zero more r all = (tt, subst (λ count. AreLawful n count r) (zero-add more) all)
lawful_parts n (suc first) more r all =
    let both = subst (λ count. AreLawful n count r) (suc-add first more) all in
    let others = lawful_parts n first more (run_step n r) both.1 in
    ((both.0, others.0), others.1)

pub stays : (n : Areas) (s : Machine) → Moves n 0 s s
stays n s = record { moved = λ input answers es. refl; lawful = λ input answers es. tt }

-- ---- a run that is over

over_step : (n : Areas) (r : Run) (why : Stop) → r.state.mode ≡ Over why → run_step n r ≡ r
over_step n r why over = subst (λ (m : Mode). after_step r (step_in m n (r.answers 0) r.state) ≡ r) (sym over) refl

pub over_lawful : (n : Areas) (count : ℕ) (r : Run) (why : Stop) → r.state.mode ≡ Over why → AreLawful n count r
over_lawful n zero r why over = tt
over_lawful n (suc count) r why over = (
  subst (λ (m : Mode). IsLawfulIn m n r) (sym over) tt,
  subst (AreLawful n count) (sym (over_step n r why over)) (over_lawful n count r why over),
)

-- ---- from one relation to another

-- by some steps, as many from each state
pub record Reach (n : Areas) (count : ℕ) (R : Machine → Type 0) (s : Machine) : Type 0 where
  pub next : Machine
  pub moves : Moves n count s next
  pub there : R next

pub record Comes (w : World) (R R' : Machine → Type 0) : Type 0 where
  pub count : ℕ
  pub by : (s : Machine) → R s → Reach w.areas count R' s

abbrev pub comes_then : (w : World) (R R' R'' : Machine → Type 0) → Comes w R R' → Comes w R' R'' → Comes w R R''
comes_then w R R' R'' a b = record {
  count = a.count + b.count;
  by = λ s r. let one = a.by s r in let two = b.by one.next one.there in
      record { next = two.next; moves = and_then w.areas s one.next two.next a.count b.count one.moves two.moves; there = two.there };
}

-- the same relation from another side
abbrev pub comes_as : (w : World) (R R' : Machine → Type 0) → ((s : Machine) → R s → R' s) → Comes w R R'
comes_as w R R' f = record { count = 0; by = λ s r. record { next = s; moves = stays w.areas s; there = f s r } }

module _ (w : World) (R : Machine → Type 0) (active : List (List ℕ)) where
  -- what is so of a later run is so of an earlier one
  led_after : (count more : ℕ) (o : Outcome Event) (s t : Machine) (input : List ℕ) (answers : ℕ → Answer) → Moves w.areas count s t
      → Led w (run_steps w.areas more (run_from t input answers)) o ⊎ Cut w active (run_steps w.areas more (run_from t input answers)) o
      → Led w (run_steps w.areas (count + more) (run_from s input answers)) o ⊎ Cut w active (run_steps w.areas (count + more) (run_from s input answers)) o
  led_after count more o s t input answers moves =
      let whole : run_steps w.areas (count + more) (run_from s input answers) ≡ run_steps w.areas more (run_from t input answers) =
      run_more w.areas count more (run_from s input answers) ∙ ap (run_steps w.areas more) (moves.moved input answers []) in
      subst (λ r. Led w r o ⊎ Cut w active r o) (sym whole)

  lawful_after : (count more : ℕ) (s t : Machine) (input : List ℕ) (answers : ℕ → Answer) → Moves w.areas count s t
      → AreLawful w.areas more (run_from t input answers) → AreLawful w.areas (count + more) (run_from s input answers)
  lawful_after count more s t input answers moves lawful =
      lawful_more w.areas count more (run_from s input answers) (moves.lawful input answers [])
      (subst (AreLawful w.areas more) (sym (moves.moved input answers [])) lawful)

  -- The machine moves, and Core does not, or has a unit more, which the first of the moves pays.
  pub leads_from : (fuel left : ℕ) (c d : Step) (R' : Machine → Type 0) (input : List ℕ) (comes : Comes w R R')
      → core_run w.functions fuel c input ≡ core_run w.functions left d input → fuel ≤ left + comes.count
      → Leads w left d R' active input → Leads w fuel c R active input
  leads_from fuel left c d R' input comes same enough leads = record {
    count = comes.count + leads.count;
    leads = λ s answers r. let one = comes.by s r in
        subst (λ o. Led w (run_steps w.areas (comes.count + leads.count) (run_from s input answers)) o
        ⊎ Cut w active (run_steps w.areas (comes.count + leads.count) (run_from s input answers)) o) (sym same)
        (led_after comes.count leads.count (core_run w.functions left d input) s one.next input answers one.moves (leads.leads one.next answers one.there));
    paid = λ running. let above = leads.paid (ap (λ (o : Outcome Event). o.ending) (sym same) ∙ running) in omega (arith, above, enough);
    lawful = λ s answers r. let one = comes.by s r in
        lawful_after comes.count leads.count s one.next input answers one.moves (leads.lawful one.next answers one.there);
  }

  pub goes_from : (most : ℕ) (c : Step) (R' : Machine → Type 0) → Comes w R R' → Goes w most c R' active → Goes w most c R active
  goes_from most c R' comes goes = record {
    at = λ fuel within input bytes. leads_from fuel fuel c c R' input comes refl (omega arith) (goes.at fuel within input bytes);
  }

  pub goes_as : (most : ℕ) (c : Step) (R' : Machine → Type 0) → ((s : Machine) → R s → R' s) → Goes w most c R' active → Goes w most c R active
  goes_as most c R' f goes = goes_from most c R' (comes_as w R R' f) goes

  pub fewer : (most less : ℕ) (c : Step) → less ≤ most → Goes w most c R active → Goes w less c R active
  fewer most less c le goes = record { at = λ fuel within input bytes. goes.at fuel (omega (arith, within, le)) input bytes }

  -- a call takes a unit, which the way to the function pays
  pub goes_called : (most : ℕ) (call : Invocation) (next : List Content → Memory → Step) (m : Memory) (R' : Machine → Type 0) (comes : Comes w R R')
      → 1 ≤ comes.count → ((s : Machine) → R s → s.mode ≡ Runs)
      → ((j : ℕ) → suc j ≤ most → Goes w j (core.called w.functions call next m) R' active)
      → Goes w most (Calls call next m) R active
  goes_called most call next m R' comes some runs goes = record { at = by }
    where
      by : (fuel : ℕ) → fuel ≤ most → (input : List ℕ) → AreBytes input → Leads w fuel (Calls call next m) R active input
      by zero within input bytes = record {
        count = 0;
        leads = λ s answers r. inl (record { events = refl; ends = runs s r });
        paid = λ running. omega arith;
        lawful = λ s answers r. tt;
      }
      by (suc j) within input bytes =
          leads_from (suc j) j (Calls call next m) (core.called w.functions call next m) R' input comes refl (omega (arith, some))
          ((goes j within).at j (omega arith) input bytes)

  -- ---- events that the machine doesn't show

  -- events of one that is shown to none go on from others, where these functions are active then
  led_said : (e : Event) → visible (named w.names (e ∷ [])) ≡ [] → (active' : List (List ℕ))
      → ((es : List SourceEvent) → active_after active (named w.names (e ∷ []) ++ es) ≡ active_after active' es) → (r : Run) (o : Outcome Event)
      → Led w r o ⊎ Cut w active' r o → Led w r (after e o) ⊎ Cut w active r (after e o)
  led_said (Visible e) silent active' acts r o l = absurd (cc silent)
  led_said (Called f) silent active' acts r o (inl l) = inl (record { events = l.events; ends = l.ends })
  led_said (Called f) silent active' acts r o (inr l) = let k = l.cut in inr (record {
    last = l.last;
    soon = l.soon;
    lawful = l.lawful;
    why = l.why;
    over = l.over;
    refused = l.refused;
    cut = record {
      before = events.Called (w.names f) ∷ k.before;
      next = k.next;
      rest = k.rest;
      split = ap (λ es. events.Called (w.names f) ∷ es) k.split;
      same = k.same;
      because = subst (λ a. IsNext w.bound w.areas.stack l.why a k.next) (sym (acts k.before)) k.because;
    };
  })
  led_said (Returned f) silent active' acts r o (inl l) = inl (record { events = l.events; ends = l.ends })
  led_said (Returned f) silent active' acts r o (inr l) = let k = l.cut in inr (record {
    last = l.last;
    soon = l.soon;
    lawful = l.lawful;
    why = l.why;
    over = l.over;
    refused = l.refused;
    cut = record {
      before = events.Returned (w.names f) ∷ k.before;
      next = k.next;
      rest = k.rest;
      split = ap (λ es. events.Returned (w.names f) ∷ es) k.split;
      same = k.same;
      because = subst (λ a. IsNext w.bound w.areas.stack l.why a k.next) (sym (acts k.before)) k.because;
    };
  })

  pub goes_said : (e : Event) → visible (named w.names (e ∷ [])) ≡ [] → (active' : List (List ℕ))
      → ((es : List SourceEvent) → active_after active (named w.names (e ∷ []) ++ es) ≡ active_after active' es)
      → (most : ℕ) (d : Step) → Goes w most d R active' → Goes w most (Says e d) R active
  goes_said e silent active' acts most d goes = record {
    at = λ fuel within input bytes. let l = goes.at fuel within input bytes in record {
      count = l.count;
      leads = λ s answers r. led_said e silent active' acts (run_steps w.areas l.count (run_from s input answers)) (core_run w.functions fuel d input)
          (l.leads s answers r);
      paid = l.paid;
      lawful = l.lawful;
    };
  }

-- ---- what isn't in order, and where the stack ends

pub goes_stuck : (w : World) (R : Machine → Type 0) (active : List (List ℕ)) (most : ℕ) → Goes w most stuck R active
goes_stuck w R active most = record {
  at = λ fuel within input bytes. record {
    count = 0;
    leads = λ s answers r. inl (record { events = refl; ends = tt });
    paid = λ running. cc running;
    lawful = λ s answers r. tt;
  };
}

-- from no machine
pub goes_nowhere : (w : World) (R : Machine → Type 0) (active : List (List ℕ)) (most : ℕ) (c : Step) → ((s : Machine) → R s → ⊥) → Goes w most c R active
goes_nowhere w R active most c none = record {
  at = λ fuel within input bytes. record {
    count = fuel;
    leads = λ s answers r. absurd (none s r);
    paid = λ running. omega arith;
    lawful = λ s answers r. absurd (none s r);
  };
}

-- by four steps more at most the machine stops because the stack is too short
pub record Full (w : World) (most : ℕ) (s : Machine) : Type 0 where
  pub count : ℕ
  pub within : count ≤ most + 4
  pub last : Machine
  pub moves : Moves w.areas count s last
  pub over : last.mode ≡ Over (Stop.Exhausted)

-- what a run that is too short of stack is by so many steps
record IsFull (w : World) (count : ℕ) (start : Run) : Type 0 where
  pub last : Run
  pub ends : run_steps w.areas count start ≡ last
  pub lawful : AreLawful w.areas count start
  pub over : last.state.mode ≡ Over (Stop.Exhausted)
  pub silent : last.events ≡ []
  pub unasked : last.refused ≡ None

is_full : (w : World) (most more : ℕ) (s : Machine) → Full w most s → (input : List ℕ) (answers : ℕ → Answer)
    → IsFull w (most + more + 4) (run_from s input answers)
is_full w most more s full input answers =
    let n = w.areas in
    let start = run_from s input answers in
    let last = run_from full.last input answers in
    let rest = most + more + 4 - full.count in
    let longer : full.count ≤ most + more + 4 = omega (arith, full.within) in
    let moved : run_steps n full.count start ≡ last = full.moves.moved input answers [] in
    record {
      last = last;
      ends = ap (λ k. run_steps n k start) (sym (add-sub_of_le longer)) ∙ run_more n full.count rest start ∙ ap (run_steps n rest) moved
          ∙ over_steps n rest last (Stop.Exhausted) full.over;
      lawful = subst (λ k. AreLawful n k start) (add-sub_of_le longer) (lawful_more n full.count rest start (full.moves.lawful input answers [])
          (subst (AreLawful n rest) (sym moved) (over_lawful n rest last (Stop.Exhausted) full.over)));
      over = full.over;
      silent = refl;
      unasked = refl;
    }

-- A function is entered: its frame is made, or the stack is too short, which cuts the run before the call.
pub goes_entered : (w : World) (R R' : Machine → Type 0) (active : List (List ℕ)) (most f count : ℕ) (d : Step)
    → ((s : Machine) → R s → Reach w.areas count R' s ⊎ (Full w count s × (w.areas.stack < frames w.bound (w.names f ∷ active))))
    → Goes w most d R' (w.names f ∷ active) → Goes w most (Says (Called f) d) R active
goes_entered w R R' active most f count d enters goes = record { at = by }
  where
    by : (fuel : ℕ) → fuel ≤ most → (input : List ℕ) → AreBytes input → Leads w fuel (Says (Called f) d) R active input
    by fuel within input are =
        let l = goes.at fuel within input are in
        let o = core_run w.functions fuel d input in
        record {
          count = count + l.count;
          leads = λ s answers r. ⊎_elim
              (λ (x : Reach w.areas count R' s).
              led_said w R' active (Called f) refl (w.names f ∷ active) (λ es. refl) (run_steps w.areas (count + l.count) (run_from s input answers)) o
              (led_after w R' (w.names f ∷ active) count l.count o s x.next input answers x.moves (l.leads x.next answers x.there)))
              (λ (x : Full w count s × (w.areas.stack < frames w.bound (w.names f ∷ active))).
              let full = is_full w count l.count s x.0 input answers in
              inr (record {
                last = full.last;
                soon = sym (run_more w.areas (count + l.count) 4 (run_from s input answers)) ∙ full.ends;
                lawful = (lawful_parts w.areas (count + l.count) 4 (run_from s input answers) full.lawful).1;
                why = NoStack;
                over = full.over;
                refused = full.unasked;
                cut = record {
                  before = [];
                  next = events.Called (w.names f);
                  rest = named w.names o.events;
                  split = refl;
                  same = full.silent;
                  because = x.1;
                };
              }))
              (enters s r);
          paid = λ running. let above = l.paid running in omega (arith, above);
          lawful = λ s answers r. ⊎_elim
              (λ (x : Reach w.areas count R' s). lawful_after w R' active count l.count s x.next input answers x.moves (l.lawful x.next answers x.there))
              (λ (x : Full w count s × (w.areas.stack < frames w.bound (w.names f ∷ active))).
              (lawful_parts w.areas (count + l.count) 4 (run_from s input answers) (is_full w count l.count s x.0 input answers).lawful).0)
              (enters s r);
        }
