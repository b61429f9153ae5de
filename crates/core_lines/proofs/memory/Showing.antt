-- An instruction that shows an event: the machine goes on with Core's event.
use Rattle.std.proofs.Common.{◌≡◌, ℕ, zero, suc, ◌⊎◌, inl, inr, List, [], ◌∷◌, Option, Some, None, Ok, Err, refl, sym, ap, subst, ◌∙◌, arith}
use Rattle.cyc_words.specs.Events.{SourceEnding}
use Rattle.cyc_words.specs.Events as events
use Rattle.arena_laws.specs.Lawful.{Answer}
use Rattle.rv32_isa.specs.Table.{decoded}
use Rattle.rv32_isa.specs.declared.instruction.Instr.{Instr}
use Rattle.rv32_isa.specs.declared.instruction.Instr.TheVariants.{Lb, Lh, Lw, Lbu, Lhu, Sb, Sh, Sw}
use Rattle.rv32_machine.specs.State.{State, Areas, Mode, Runs, Waits, Over, word_at}
use Rattle.rv32_machine.specs.Step.{Stepped, Shown, Nothing, Writes, Asks, Stops, Told, Silent, step}
use Rattle.rv32_machine.specs.Step as machine
use Rattle.rv32_machine.specs.Run.{Run, after_step, after_call, answer_from, run_step, run_steps}
use Rattle.rv32_machine.specs.Audit.{IsLawful, IsLawfulIn, AccessIsLawful, DecodedIsLawful}
use Rattle.rv32_machine.proofs.LongerRuns.{AreLawful}
use Rattle.step_trees.specs.Trees.{Outcome, after}
use Rattle.core_meaning.specs.Steps.{Step, Event, Visible}
use Rattle.core_lines.specs.Machines.{Machine, run_from}
use Rattle.core_lines.specs.Running.{core_run}
use Rattle.core_lines.proofs.memory.Relations.{Led, Cut, World, Leads}

-- ---- events shown before

abbrev pub shown_first : events.Event → Run → Run
shown_first e r = record r { events = e ∷ r.events }

step_later : (n : Areas) (e : events.Event) (r : Run) → run_step n (shown_first e r) ≡ shown_first e (run_step n r)
step_later n e r = by (step n (r.answers 0) r.state)
  where
    asked : (input : List ℕ) (t : State) → answer_from input (shown_first e r) t ≡ shown_first e (answer_from input r t)
    asked [] t = refl
    asked (byte ∷ rest) t = refl

    told_by : (told : Told) (t : State) → after_call told (shown_first e r) t ≡ shown_first e (after_call told r t)
    told_by Silent t = refl
    told_by (machine.Says q (Ok value)) t = refl
    told_by (machine.Says q (Err why)) t = refl

    shown_by : (shown : Shown) (told : Told) (t : State) → after_step (shown_first e r) (record { shown = shown; told = told; state = t })
        ≡ shown_first e (after_step r (record { shown = shown; told = told; state = t }))
    shown_by Nothing told t = told_by told t
    shown_by (Writes byte) told t = refl
    shown_by Asks told t = asked r.input t
    shown_by (Stops why) told t = told_by told t

    by : (x : Stepped) → after_step (shown_first e r) x ≡ shown_first e (after_step r x)
    by x = shown_by x.shown x.told x.state

pub run_later : (n : Areas) (e : events.Event) (count : ℕ) (r : Run) → run_steps n count (shown_first e r) ≡ shown_first e (run_steps n count r)
run_later n e zero r = refl
run_later n e (suc count) r = ap (run_steps n count) (step_later n e r) ∙ run_later n e count (run_step n r)

-- where an access may lie depends on no event
module _ (n : Areas) (e : events.Event) (r : Run) where
  access_later : (instr : Instr) → AccessIsLawful n r instr → AccessIsLawful n (shown_first e r) instr
  access_later (Lb rd base offset) h = h
  access_later (Lh rd base offset) h = h
  access_later (Lw rd base offset) h = h
  access_later (Lbu rd base offset) h = h
  access_later (Lhu rd base offset) h = h
  access_later (Sb base b offset) h = h
  access_later (Sh base b offset) h = h
  access_later (Sw base b offset) h = h
  access_later _ h = tt

  decoded_later : (instr : Option Instr) → DecodedIsLawful n r instr → DecodedIsLawful n (shown_first e r) instr
  decoded_later None h = tt
  decoded_later (Some instr) h = access_later instr h

  in_later : (mode : Mode) → IsLawfulIn mode n r → IsLawfulIn mode n (shown_first e r)
  in_later Runs h = λ within. decoded_later (decoded (word_at r.state.bytes r.state.pc)) (h within)
  in_later Waits h = tt
  in_later (Over why) h = tt

pub lawful_later : (n : Areas) (e : events.Event) (count : ℕ) (r : Run) → AreLawful n count r → AreLawful n count (shown_first e r)
lawful_later n e zero r lawful = tt
lawful_later n e (suc count) r (now, others) =
    (in_later n e r r.state.mode now, subst (AreLawful n count) (sym (step_later n e r)) (lawful_later n e count (run_step n r) others))

-- ---- one that is shown

-- by one step, which shows the event, from one machine and input to another
pub record Shows_then (n : Areas) (e : events.Event) (s : Machine) (input rest : List ℕ) (R : Machine → Type 0) : Type 0 where
  pub next : Machine
  pub shows : (answers : ℕ → Answer) → run_step n (run_from s input answers) ≡ shown_first e (run_from next rest answers)
  pub lawful : (answers : ℕ → Answer) → IsLawful n (run_from s input answers)
  pub there : R next

pub led_shown : (w : World) (active : List (List ℕ)) (e : events.Event) (r : Run) (o : Outcome Event) → Led w r o ⊎ Cut w active r o
    → Led w (shown_first e r) (after (Visible e) o) ⊎ Cut w active (shown_first e r) (after (Visible e) o)
led_shown w active e r o (inl l) = inl (record { events = ap (λ es. e ∷ es) l.events; ends = l.ends })
led_shown w active e r o (inr l) = let k = l.cut in inr (record {
  last = shown_first e l.last;
  soon = run_later w.areas e 4 r ∙ ap (shown_first e) l.soon;
  lawful = lawful_later w.areas e 4 r l.lawful;
  why = l.why;
  over = l.over;
  refused = l.refused;
  cut = record {
    before = events.Visible e ∷ k.before;
    next = k.next;
    rest = k.rest;
    split = ap (λ es. events.Visible e ∷ es) k.split;
    same = ap (λ es. e ∷ es) k.same;
    because = k.because;
  };
})

-- what goes on behind the event goes on from before it, and the step pays a unit
pub leads_shown : (w : World) (R R' : Machine → Type 0) (active : List (List ℕ)) (fuel : ℕ) (e : events.Event) (c d : Step) (input rest : List ℕ)
    → ((s : Machine) → R s → Shows_then w.areas e s input rest R') → core_run w.functions (suc fuel) c input ≡ after (Visible e)
    (core_run w.functions fuel d rest)
    → Leads w fuel d R' active rest → Leads w (suc fuel) c R active input
leads_shown w R R' active fuel e c d input rest steps means l = record {
  count = suc l.count;
  leads = λ s answers r.
      let x = steps s r in
      let o = core_run w.functions fuel d rest in
      let whole : run_steps w.areas (suc l.count) (run_from s input answers) ≡ shown_first e (run_steps w.areas l.count (run_from x.next rest answers)) =
      ap (run_steps w.areas l.count) (x.shows answers) ∙ run_later w.areas e l.count (run_from x.next rest answers) in
      subst (λ (q : Run). Led w q (core_run w.functions (suc fuel) c input) ⊎ Cut w active q (core_run w.functions (suc fuel) c input)) (sym whole)
      (subst (λ (q : Outcome Event). Led w (shown_first e (run_steps w.areas l.count (run_from x.next rest answers))) q
      ⊎ Cut w active (shown_first e (run_steps w.areas l.count (run_from x.next rest answers))) q) (sym means)
      (led_shown w active e (run_steps w.areas l.count (run_from x.next rest answers)) o (l.leads x.next answers x.there)));
  paid = λ running. let above = l.paid (sym (ap (λ (o : Outcome Event). o.ending) means) ∙ running) in omega (arith, above);
  lawful = λ s answers r.
      let x = steps s r in (
        x.lawful answers,
        subst (AreLawful w.areas l.count) (sym (x.shows answers))
            (lawful_later w.areas e l.count (run_from x.next rest answers) (l.lawful x.next answers x.there)),
      );
}
