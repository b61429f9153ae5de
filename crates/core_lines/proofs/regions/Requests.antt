-- A call of the environment that the store answers: the machine goes on with Core's event, or the run is cut before it.
use Rattle.std.proofs.Common.{◌≡◌, ℕ, suc, ◌≤◌, ◌⊎◌, inr, ⊎_elim, List, [], ◌∷◌, Some, None, Ok, Err, refl, sym, ap, subst, ◌∙◌, arith}
use Rattle.cyc_words.specs.Events.{AreBytes}
use Rattle.cyc_words.specs.Events as events
use Rattle.arena_laws.specs.declared.refusal.StoreRefusal.TheVariants.{Full, Memory as NoMemory}
use Rattle.arena_laws.specs.Asked.{Asked, is_granted}
use Rattle.arena_laws.specs.Holdings.{Holdings}
use Rattle.arena_laws.specs.Lawful.{Answer, Done, refuses}
use Rattle.rv32_machine.specs.State.{Areas, Runs, Over}
use Rattle.rv32_machine.specs.Step.{concludes, step}
use Rattle.rv32_machine.specs.Run.{Run, after_step, answers_after, run_step, run_steps}
use Rattle.rv32_machine.specs.Ledger.{event_of, entered, request_of}
use Rattle.rv32_machine.specs.Implements.{IsRequested}
use Rattle.rv32_machine.specs.Audit.{IsLawful}
use Rattle.rv32_machine.proofs.LongerRuns.{AreLawful, over_steps}
use Rattle.step_trees.specs.Trees.{Says, after}
use Rattle.core_meaning.specs.Steps.{Step, Visible}
use Rattle.core_lines.specs.Machines.{Machine, state_of, run_from}
use Rattle.core_lines.specs.Running.{named, core_run}
use Rattle.core_lines.proofs.memory.Relations.{Led, Cut, Cause, Refused, Lacked, stop_of, refused_of, IsNext, World, Leads, Goes}
use Rattle.core_lines.proofs.memory.Moving.{over_lawful}
use Rattle.core_lines.proofs.memory.Showing.{shown_first, run_later, lawful_later, led_shown}

-- ---- what becomes of a run

-- the machine goes on behind the call, and the event is shown
pub record GoesOn (n : Areas) (e : events.Event) (s : Machine) (input : List ℕ) (answers : ℕ → Answer) (R : Machine → Type 0) : Type 0 where
  pub next : Machine
  pub rest : ℕ → Answer
  pub shows : run_step n (run_from s input answers) ≡ shown_first e (run_from next input rest)
  pub there : R next

-- or it stops, and shows nothing: there was no room for what the event wants, or no host memory
pub record IsCutThere (w : World) (e : events.Event) (s : Machine) (input : List ℕ) (answers : ℕ → Answer) : Type 0 where
  pub last : Run
  pub why : Cause
  pub stops : run_step w.areas (run_from s input answers) ≡ last
  pub over : last.state.mode ≡ Over (stop_of why)
  pub refused : last.refused ≡ refused_of why
  pub silent : last.events ≡ []
  pub wanted : (active : List (List ℕ)) → IsNext w.bound w.areas.stack why active (events.Visible e)

-- what goes on behind a call goes on from before it, where the event is the next of Core's
pub goes_asked : (w : World) (R R' : Machine → Type 0) (active : List (List ℕ)) (most : ℕ) (e : events.Event) (d : Step)
    → ((s : Machine) → R s → (input : List ℕ) (answers : ℕ → Answer) → GoesOn w.areas e s input answers R' ⊎ IsCutThere w e s input answers)
    → ((s : Machine) → R s → (input : List ℕ) (answers : ℕ → Answer) → IsLawful w.areas (run_from s input answers))
    → Goes w most d R' active → Goes w most (Says (Visible e) d) R active
goes_asked w R R' active most e d asks lawful goes = record { at = by }
  where
    by : (fuel : ℕ) → fuel ≤ most → (input : List ℕ) → AreBytes input → Leads w fuel (Says (Visible e) d) R active input
    by fuel within input bytes =
        let n = w.areas in
        let l = goes.at fuel within input bytes in
        let o = core_run w.functions fuel d input in
        record {
          count = suc l.count;
          leads = λ s answers r. ⊎_elim
              (λ (g : GoesOn n e s input answers R').
              let whole : run_steps n (suc l.count) (run_from s input answers) ≡ shown_first e (run_steps n l.count (run_from g.next input g.rest)) =
              ap (run_steps n l.count) g.shows ∙ run_later n e l.count (run_from g.next input g.rest) in
              subst (λ (q : Run). Led w q (after (Visible e) o) ⊎ Cut w active q (after (Visible e) o)) (sym whole)
              (led_shown w active e (run_steps n l.count (run_from g.next input g.rest)) o (l.leads g.next g.rest g.there)))
              (λ (x : IsCutThere w e s input answers).
              let whole : run_steps n (suc l.count) (run_from s input answers) ≡ x.last =
              ap (run_steps n l.count) x.stops ∙ over_steps n l.count x.last (stop_of x.why) x.over in
              subst (λ (q : Run). Led w q (after (Visible e) o) ⊎ Cut w active q (after (Visible e) o)) (sym whole)
              (inr (record {
                last = x.last;
                soon = over_steps n 4 x.last (stop_of x.why) x.over;
                lawful = over_lawful n 4 x.last (stop_of x.why) x.over;
                why = x.why;
                over = x.over;
                refused = x.refused;
                cut = record {
                  before = [];
                  next = events.Visible e;
                  rest = named w.names o.events;
                  split = refl;
                  same = x.silent;
                  because = x.wanted active;
                };
              })))
              (asks s r input answers);
          paid = λ running. let above = l.paid running in omega (arith, above);
          lawful = λ s answers r. (
            lawful s r input answers,
            ⊎_elim
                (λ (g : GoesOn n e s input answers R'). subst (AreLawful n l.count) (sym g.shows)
                (lawful_later n e l.count (run_from g.next input g.rest) (l.lawful g.next g.rest g.there)))
                (λ (x : IsCutThere w e s input answers). subst (AreLawful n l.count) (sym x.stops) (over_lawful n l.count x.last (stop_of x.why) x.over))
                (asks s r input answers),
          );
        }

-- ---- what a call comes to

-- the machine behind a call that was granted or carried out
abbrev pub granted : Machine → ℕ → (ℕ → ℕ) → Asked → ℕ → Holdings → Machine
granted s pc registers asked number after = record {
  pc = pc;
  registers = registers;
  bytes = s.bytes;
  store = record { holdings = after; ledger = entered asked number s.store.ledger };
  mode = Runs;
}

module _ (w : World) (asked : Asked) (s : Machine) (input : List ℕ) (answers : ℕ → Answer) (done : Done)
    (called : step w.areas (answers 0) (state_of s) ≡ concludes asked done.after done.says (state_of s)) where
  -- it was granted: the machine goes on with the event
  pub grants_on : (e : events.Event) (pc number : ℕ) (registers : ℕ → ℕ) (held : Holdings) (R : Machine → Type 0)
      → done ≡ record { says = Ok number; after = held }
      → concludes asked held (Ok number) (state_of s)
      ≡ record {
        shown = Rattle.rv32_machine.specs.Step.Nothing;
        told = Rattle.rv32_machine.specs.Step.Says asked (Ok number);
        state = state_of (granted s pc registers asked number held);
      }
      → event_of asked s.store.ledger ≡ e → R (granted s pc registers asked number held)
      → GoesOn w.areas e s input answers R
  grants_on e pc number registers held R is concluded shows there = record {
    next = granted s pc registers asked number held;
    rest = answers_after (is_granted asked) answers;
    shows = ap (after_step (run_from s input answers)) (called ∙ ap (λ (d : Done). concludes asked d.after d.says (state_of s)) is ∙ concluded)
        ∙ (λ i. record {
          state = state_of (granted s pc registers asked number held);
          input = input;
          answers = answers_after (is_granted asked) answers;
          events = shows i ∷ [];
          ledger = entered asked number s.store.ledger;
          refused = None;
        });
    there = there;
  }

  -- there was no room
  pub full_there : (e : events.Event) (q : events.Request) → done ≡ refuses Full s.store.holdings → request_of asked s.store.ledger ≡ Some q → IsRequested q e
      → IsCutThere w e s input answers
  full_there e q is asks wants = record {
    last = after_step (run_from s input answers) (concludes asked s.store.holdings (Err Full) (state_of s));
    why = Refused q;
    stops = ap (after_step (run_from s input answers)) (called ∙ ap (λ (d : Done). concludes asked d.after d.says (state_of s)) is);
    over = refl;
    refused = asks;
    silent = refl;
    wanted = λ active. wants;
  }

  -- or no host memory
  pub lacks_there : (e : events.Event) → done ≡ refuses NoMemory s.store.holdings → IsCutThere w e s input answers
  lacks_there e is = record {
    last = after_step (run_from s input answers) (concludes asked s.store.holdings (Err NoMemory) (state_of s));
    why = Lacked;
    stops = ap (after_step (run_from s input answers)) (called ∙ ap (λ (d : Done). concludes asked d.after d.says (state_of s)) is);
    over = refl;
    refused = refl;
    silent = refl;
    wanted = λ active. tt;
  }
