-- How far a run has come: what it took, what it wrote and what it has gathered.
use Rattle.std.proofs.Common.{◌≡◌, ℕ, ◌+◌, ◌<◌, ◌≤◌, ◌⊎◌, Bool, true, false, List, [], ◌∷◌, ◌++◌, Option, Some, None, IfSome, Result, Ok, Err, refl, sym, ap}
use Rattle.std.proofs.Common.{◌∙◌, subst, inl, inr, append_assoc, append-nil, arith}
use Rattle.std.specs.List.{Contains}
use Rattle.std.specs.Io.KnownBytes.{Appends, Consumes, Keeps, IsAtEnd}
use Rattle.std.proofs.KnownBytes.{Appends-nil, Appends-trans, Consumes-nil, Consumes-trans, Consumes-kept}
use Rattle.arena_laws.specs.declared.refusal.StoreRefusal.{StoreRefusal}
use Rattle.arena_laws.specs.Lawful.{Answer}
use Rattle.arena_laws.specs.Asked.{Asked, RegionNew, RegionAlloc, RegionFree, UniqueAlloc, UniqueFree, KeyNew, KeyOpen, KeyClose, KeyFree, is_granted}
use Rattle.cyc_words.specs.Events.{AreBytes, Event, Request, ByteRead, ByteWritten, output}
use Rattle.cyc_words.proofs.Events.{bytes_push, output_append, told_before}
use Rattle.rv32_machine.specs.State.{State, Areas, Stop}
use Rattle.rv32_machine.specs.Step.{Stepped, Shown, Nothing, Writes, Asks, Stops, Told, Silent, Says, step, given}
use Rattle.rv32_machine.specs.Ledger.{Ledger, unborn, event_of, entered}
use Rattle.rv32_machine.specs.Run.{Run, answer_from, answers_after, after_call, after_step, refused_by, run_steps, from}
use Rattle.cyc_host.specs.Transfers.{WritesBut, Answers}
use Rattle.rv32_machine.specs.Shortage.{IsShortage, asked_at}
use Rattle.cyc_host.specs.Hosted.{IsHosted, IsExact, EndsAs, Written}
use Rattle.cyc_host.specs.Watched.{Tally, Known, AreBegun, AreTakenIn, IsWatched, visited}
use Rattle.cyc_host.specs.declared.ending.Ending.{Ending}
use Rattle.cyc_host.specs.declared.ending.Ending.TheVariants as ending
use Rattle.cyc_host.proofs.Written.{written_then}
use Rattle.rv32_machine.proofs.Modes.{was_free, step_alike, write_is_quiet, ask_is_quiet}
use Rattle.cyc_host.proofs.OneStep.{IsStep, one_more_exact}
use Rattle.cyc_host.proofs.Watching.{one_more_visited}
use Rattle.cyc_host.proofs.Answers.{first, stream, stream_more}
use Rattle.rv32_machine.proofs.Stepping.{one_more_step, after_nothing, after_write, after_ask, after_stop}

-- A run of so many steps has taken these bytes and answers of the store and no more, whatever else follows them; after the input's end no byte follows.
-- Its instructions began at these states.
pub record Progress (n : Areas) (old : State) (count : ℕ) (is_over : Bool) (now : State)
    (reader_old reader_new writer_old writer_new : Option (List ℕ)) (gathered : List ℕ) (states : List State) : Type 0 where
  pub input : List ℕ
  pub answers : List Answer
  pub events : List Event
  pub ledger : Ledger
  pub refused : Option Request
  pub written : List ℕ
  pub consumed : Consumes reader_old reader_new input
  pub bytes : AreBytes input
  pub appended : Appends writer_old writer_new written
  pub shows : output events ≡ written ++ gathered
  pub told : Contains events (ByteRead None) → is_over ≡ true
  pub at_end : is_over ≡ true → IsAtEnd reader_new
  pub ran : (more : List ℕ) (others : ℕ → Answer) → (is_over ≡ true → more ≡ [])
      → run_steps n count (from old (input ++ more) (stream answers others))
      ≡ record { state = now; input = more; answers = others; events = events; ledger = ledger; refused = refused }
  pub exact : (more : List ℕ) (others : ℕ → Answer) → (is_over ≡ true → more ≡ []) → (k : ℕ) → k < count
      → IsExact n (run_steps n k (from old (input ++ more) (stream answers others)))
  pub visits : (more : List ℕ) (others : ℕ → Answer) → (is_over ≡ true → more ≡ [])
      → visited n count (from old (input ++ more) (stream answers others)) ≡ states

module _ {n : Areas} {old : State} {reader_old writer_old : Option (List ℕ)} where
  -- nothing has been done
  pub begun : Progress n old 0 false old reader_old reader_old writer_old writer_old [] []
  begun = record {
    input = [];
    answers = [];
    events = [];
    ledger = unborn;
    refused = None;
    written = [];
    consumed = Consumes-nil reader_old;
    bytes = tt;
    appended = Appends-nil writer_old;
    shows = refl;
    told = λ (k, below, is). absurd (omega arith);
    at_end = λ over. absurd (cc);
    ran = λ more others end. refl;
    exact = λ more others end k below. absurd (omega arith);
    visits = λ more others end. refl;
  }

  module _ {count : ℕ} {is_over : Bool} {now : State} {reader writer : Option (List ℕ)} {gathered : List ℕ} {states : List State}
      (p : Progress n old count is_over now reader_old reader writer_old writer gathered states) where
    -- what a step makes of the run so far, whatever follows
    abbrev run_now : List ℕ → (ℕ → Answer) → Run
    run_now more others = record { state = now; input = more; answers = others; events = p.events; ledger = p.ledger; refused = p.refused }

    -- a step in which the store isn't free, to this run
    not_free : (answer : Answer) (next : List ℕ → (ℕ → Answer) → Run) → was_free (step n answer now).told ≡ false
        → ((more : List ℕ) (others : ℕ → Answer) → after_step (run_now more others) (step n answer now) ≡ next more others)
        → (more : List ℕ) (others : ℕ → Answer) → (is_over ≡ true → more ≡ [])
        → run_steps n (count + 1) (from old (p.input ++ more) (stream p.answers others)) ≡ next more others
    not_free answer next bound made more others end =
        one_more_step n count _ _ (p.ran more others end)
        ∙ ap (after_step (run_now more others)) (sym (step_alike n answer (others 0) now bound)) ∙ made more others

    -- a step in which it is, which takes its answer
    free : (answer : Answer) (next : List ℕ → (ℕ → Answer) → Run)
        → ((more : List ℕ) (others : ℕ → Answer) → after_step (run_now more (first answer others)) (step n answer now) ≡ next more others)
        → (more : List ℕ) (others : ℕ → Answer) → (is_over ≡ true → more ≡ [])
        → run_steps n (count + 1) (from old (p.input ++ more) (stream (p.answers ++ answer ∷ []) others)) ≡ next more others
    free answer next made more others end =
        one_more_step n count _ _ (ap (λ f. run_steps n count (from old (p.input ++ more) f)) (stream_more p.answers answer others)
        ∙ p.ran more (first answer others) end)
        ∙ made more others

    -- the same of a step's being exact, where it isn't free
    exact_not_free : (answer : Answer) (shown : Shown) → was_free (step n answer now).told ≡ false → shown ≡ (step n answer now).shown
        → IsShortage n (asked_at n now) now.holdings shown → (more : List ℕ) (others : ℕ → Answer) → (is_over ≡ true → more ≡ [])
        → (k : ℕ) → k < count + 1 → IsExact n (run_steps n k (from old (p.input ++ more) (stream p.answers others)))
    exact_not_free answer shown bound shows exact more others end =
        let same : (step n answer now).shown ≡ (step n (others 0) now).shown = ap (λ (x : Stepped). x.shown) (step_alike n answer (others 0) now bound) in
        one_more_exact n count _ (p.exact more others end)
        (subst (IsExact n) (sym (p.ran more others end)) (subst (IsShortage n (asked_at n now) now.holdings) (shows ∙ same) exact))

    -- and where it is
    exact_free : (answer : Answer) (shown : Shown) → shown ≡ (step n answer now).shown
        → IsShortage n (asked_at n now) now.holdings shown → (more : List ℕ) (others : ℕ → Answer) → (is_over ≡ true → more ≡ [])
        → (k : ℕ) → k < count + 1 → IsExact n (run_steps n k (from old (p.input ++ more) (stream (p.answers ++ answer ∷ []) others)))
    exact_free answer shown shows exact more others end k below =
        subst (λ f. IsExact n (run_steps n k (from old (p.input ++ more) f))) (sym (stream_more p.answers answer others))
        (one_more_exact n count _ (p.exact more (first answer others) end)
        (subst (IsExact n) (sym (p.ran more (first answer others) end)) (subst (IsShortage n (asked_at n now) now.holdings) shows exact)) k below)

    -- the state at which a step begins is the last one that is visited then: where the store isn't free in it
    visits_not_free : (more : List ℕ) (others : ℕ → Answer) → (is_over ≡ true → more ≡ [])
        → visited n (count + 1) (from old (p.input ++ more) (stream p.answers others)) ≡ states ++ now ∷ []
    visits_not_free more others end =
        one_more_visited n count _ ∙ ap (λ (l : List State). l ++ (run_steps n count (from old (p.input ++ more) (stream p.answers others))).state ∷ [])
        (p.visits more others end)
        ∙ ap (λ (x : Run). states ++ x.state ∷ []) (p.ran more others end)

    -- and where it is
    visits_free : (answer : Answer) (more : List ℕ) (others : ℕ → Answer) → (is_over ≡ true → more ≡ [])
        → visited n (count + 1) (from old (p.input ++ more) (stream (p.answers ++ answer ∷ []) others)) ≡ states ++ now ∷ []
    visits_free answer more others end =
        ap (λ f. visited n (count + 1) (from old (p.input ++ more) f)) (stream_more p.answers answer others) ∙ visits_not_free more (first answer others) end

    -- the store's part in a step that shows nothing or stops
    module _ (answer : Answer) (new : State) (shown : Shown) (x : IsStep n answer now new shown)
        (calls : (r : Run) → after_step r (step n answer now) ≡ after_call (step n answer now).told r (step n answer now).state) where
      made : (told : Told) → (step n answer now).told ≡ told → (r : Run) → after_step r (step n answer now) ≡ after_call told r new
      made told is r = calls r ∙ ap (λ t. after_call t r (step n answer now).state) is ∙ ap (after_call told r) (sym x.state)

      silent : (step n answer now).told ≡ Silent → Progress n old (count + 1) is_over new reader_old reader writer_old writer gathered (states ++ now ∷ [])
      silent is = record {
        input = p.input;
        answers = p.answers;
        events = p.events;
        ledger = p.ledger;
        refused = p.refused;
        written = p.written;
        consumed = p.consumed;
        bytes = p.bytes;
        appended = p.appended;
        shows = p.shows;
        told = p.told;
        at_end = p.at_end;
        ran = not_free answer _ (ap was_free is) (λ more others. made Silent is (run_now more others));
        exact = exact_not_free answer shown (ap was_free is) x.shows x.exact;
        visits = visits_not_free;
      }

      -- what it was asked, and carried out
      event_shows : (asked : Asked) → output (event_of asked p.ledger ∷ []) ≡ []
      event_shows RegionNew = refl
      event_shows (RegionAlloc h bytes) = refl
      event_shows (RegionFree h) = refl
      event_shows (UniqueAlloc bytes) = refl
      event_shows (UniqueFree at) = refl
      event_shows KeyNew = refl
      event_shows (KeyOpen k) = refl
      event_shows (KeyClose k) = refl
      event_shows (KeyFree k) = refl

      no_end : (asked : Asked) → event_of asked p.ledger ≡ ByteRead None → ⊥
      no_end RegionNew e = absurd (cc)
      no_end (RegionAlloc h bytes) e = absurd (cc)
      no_end (RegionFree h) e = absurd (cc)
      no_end (UniqueAlloc bytes) e = absurd (cc)
      no_end (UniqueFree at) e = absurd (cc)
      no_end KeyNew e = absurd (cc)
      no_end (KeyOpen k) e = absurd (cc)
      no_end (KeyClose k) e = absurd (cc)
      no_end (KeyFree k) e = absurd (cc)

      abbrev answers_with : Bool → List Answer
      answers_with true = p.answers ++ answer ∷ []
      answers_with false = p.answers

      ran_by : (was : Bool) (asked : Asked) (result : Result ℕ StoreRefusal) → is_granted asked ≡ was → (step n answer now).told ≡ Says asked result →
          (more : List ℕ) (others : ℕ → Answer) → (is_over ≡ true → more ≡ []) →
          run_steps n (count + 1) (from old (p.input ++ more) (stream (answers_with was) others))
          ≡ record (after_call (Says asked result) (run_now more others) new) { answers = others }
      ran_by true asked (Ok value) g is = free answer _ (λ more others. made (Says asked (Ok value)) is (run_now more (first answer others))
          ∙ ap (λ b. record (after_call (Says asked (Ok value)) (run_now more others) new) { answers = answers_after b (first answer others) }) g)
      ran_by true asked (Err why) g is = free answer _ (λ more others. made (Says asked (Err why)) is (run_now more (first answer others))
          ∙ ap (λ b. record (after_call (Says asked (Err why)) (run_now more others) new) { answers = answers_after b (first answer others) }) g)
      ran_by false asked (Ok value) g is = not_free answer _ (ap was_free is ∙ g) (λ more others. made (Says asked (Ok value)) is (run_now more others)
          ∙ ap (λ b. record (after_call (Says asked (Ok value)) (run_now more others) new) { answers = answers_after b others }) g)
      ran_by false asked (Err why) g is = not_free answer _ (ap was_free is ∙ g) (λ more others. made (Says asked (Err why)) is (run_now more others)
          ∙ ap (λ b. record (after_call (Says asked (Err why)) (run_now more others) new) { answers = answers_after b others }) g)

      exact_by : (was : Bool) (asked : Asked) (result : Result ℕ StoreRefusal) → is_granted asked ≡ was → (step n answer now).told ≡ Says asked result →
          (more : List ℕ) (others : ℕ → Answer) → (is_over ≡ true → more ≡ []) → (k : ℕ) → k < count + 1 →
          IsExact n (run_steps n k (from old (p.input ++ more) (stream (answers_with was) others)))
      exact_by true asked result g is = exact_free answer shown x.shows x.exact
      exact_by false asked result g is = exact_not_free answer shown (ap was_free is ∙ g) x.shows x.exact

      visits_by : (was : Bool) (more : List ℕ) (others : ℕ → Answer) → (is_over ≡ true → more ≡ [])
          → visited n (count + 1) (from old (p.input ++ more) (stream (answers_with was) others)) ≡ states ++ now ∷ []
      visits_by true = visits_free answer
      visits_by false = visits_not_free

      carried_out : (asked : Asked) (value : ℕ) → (step n answer now).told ≡ Says asked (Ok value)
          → Progress n old (count + 1) is_over new reader_old reader writer_old writer gathered (states ++ now ∷ [])
      carried_out asked value is = record {
        input = p.input;
        answers = answers_with (is_granted asked);
        events = p.events ++ event_of asked p.ledger ∷ [];
        ledger = entered asked value p.ledger;
        refused = p.refused;
        written = p.written;
        consumed = p.consumed;
        bytes = p.bytes;
        appended = p.appended;
        shows = output_append p.events (event_of asked p.ledger ∷ []) ∙ ap (λ l. output p.events ++ l) (event_shows asked)
            ∙ append-nil (output p.events) ∙ p.shows;
        told = λ has. told_before p.events _ _ p.told (λ e. absurd (no_end asked e)) has;
        at_end = p.at_end;
        ran = ran_by (is_granted asked) asked (Ok value) refl is;
        exact = exact_by (is_granted asked) asked (Ok value) refl is;
        visits = visits_by (is_granted asked);
      }

      turned_down : (asked : Asked) (why : StoreRefusal) → (step n answer now).told ≡ Says asked (Err why)
          → Progress n old (count + 1) is_over new reader_old reader writer_old writer gathered (states ++ now ∷ [])
      turned_down asked why is = record {
        input = p.input;
        answers = answers_with (is_granted asked);
        events = p.events;
        ledger = p.ledger;
        refused = refused_by asked why p.ledger;
        written = p.written;
        consumed = p.consumed;
        bytes = p.bytes;
        appended = p.appended;
        shows = p.shows;
        told = p.told;
        at_end = p.at_end;
        ran = ran_by (is_granted asked) asked (Err why) refl is;
        exact = exact_by (is_granted asked) asked (Err why) refl is;
        visits = visits_by (is_granted asked);
      }

      called_by : (told : Told) → (step n answer now).told ≡ told
          → Progress n old (count + 1) is_over new reader_old reader writer_old writer gathered (states ++ now ∷ [])
      called_by Silent is = silent is
      called_by (Says asked (Ok value)) is = carried_out asked value is
      called_by (Says asked (Err why)) is = turned_down asked why is

    -- a step that shows nothing
    pub went_on : (answer : Answer) (new : State) → IsStep n answer now new Nothing
        → Progress n old (count + 1) is_over new reader_old reader writer_old writer gathered (states ++ now ∷ [])
    went_on answer new x = called_by answer new Nothing x (λ r. after_nothing r (step n answer now) x.shows) (step n answer now).told refl

    -- a step that stops
    pub stopped_at : (answer : Answer) (new : State) (why : Stop) → IsStep n answer now new (Stops why)
        → Progress n old (count + 1) is_over new reader_old reader writer_old writer gathered (states ++ now ∷ [])
    stopped_at answer new why x = called_by answer new (Stops why) x (λ r. after_stop r (step n answer now) why x.shows) (step n answer now).told refl

    -- a step that gives a byte, which is gathered
    pub put_one : (answer : Answer) (new : State) (byte : ℕ) → IsStep n answer now new (Writes byte)
        → Progress n old (count + 1) is_over new reader_old reader writer_old writer (gathered ++ byte ∷ []) (states ++ now ∷ [])
    put_one answer new byte x = record {
      input = p.input;
      answers = p.answers;
      events = p.events ++ ByteWritten byte ∷ [];
      ledger = p.ledger;
      refused = p.refused;
      written = p.written;
      consumed = p.consumed;
      bytes = p.bytes;
      appended = p.appended;
      shows = output_append p.events (ByteWritten byte ∷ []) ∙ ap (λ l. l ++ byte ∷ []) p.shows ∙ append_assoc p.written gathered (byte ∷ []);
      told = λ has. told_before p.events _ _ p.told (λ same. (cc)) has;
      at_end = p.at_end;
      ran = not_free answer _ (write_is_quiet n answer now byte x.shows) (λ more others. after_write (run_now more others) _ byte x.shows
          ∙ ap (λ (s : State). record (run_now more others) { state = s; events = p.events ++ ByteWritten byte ∷ [] }) (sym x.state));
      exact = exact_not_free answer (Writes byte) (write_is_quiet n answer now byte x.shows) x.shows x.exact;
      visits = visits_not_free;
    }

    -- some of what is gathered is written
    pub wrote : (writer_next : Option (List ℕ)) (rest : List ℕ) → WritesBut writer writer_next gathered rest
        → Progress n old count is_over now reader_old reader writer_old writer_next rest states
    wrote writer_next rest x = record {
      input = p.input;
      answers = p.answers;
      events = p.events;
      ledger = p.ledger;
      refused = p.refused;
      written = p.written ++ x.written;
      consumed = p.consumed;
      bytes = p.bytes;
      appended = Appends-trans _ _ _ _ _ p.appended x.appended;
      shows = p.shows ∙ ap (λ l. p.written ++ l) x.split ∙ sym (append_assoc p.written x.written rest);
      told = p.told;
      at_end = p.at_end;
      ran = p.ran;
      exact = p.exact;
      visits = p.visits;
    }

    -- a read took nothing
    pub kept : (reader_next : Option (List ℕ)) → Keeps reader reader_next → is_over ≡ false
        → Progress n old count is_over now reader_old reader_next writer_old writer gathered states
    kept reader_next keeps was_open = record {
      input = p.input;
      answers = p.answers;
      events = p.events;
      ledger = p.ledger;
      refused = p.refused;
      written = p.written;
      consumed = Consumes-kept _ _ _ _ p.consumed keeps;
      bytes = p.bytes;
      appended = p.appended;
      shows = p.shows;
      told = p.told;
      at_end = λ over. absurd (cc);
      ran = p.ran;
      exact = p.exact;
      visits = p.visits;
    }

    -- a byte was wanted, and the answer is given
    pub answered : (answer : Answer) (waiting new : State) (reader_next : Option (List ℕ)) (will_be : Bool) (said : Option ℕ) → IsStep n answer now waiting Asks
        → Answers reader reader_next is_over will_be said → IfSome said (λ byte. byte < 256) → new ≡ given said waiting
        → Progress n old (count + 1) will_be new reader_old reader_next writer_old writer gathered (states ++ now ∷ [])
    answered answer waiting new reader_next will_be None x (consumes, ended, end) below e = record {
      input = p.input;
      answers = p.answers;
      events = p.events ++ ByteRead None ∷ [];
      ledger = p.ledger;
      refused = p.refused;
      written = p.written;
      consumed = subst (Consumes _ _) (append-nil p.input) (Consumes-trans _ _ _ _ _ p.consumed consumes);
      bytes = p.bytes;
      appended = p.appended;
      shows = output_append p.events (ByteRead None ∷ []) ∙ append-nil (output p.events) ∙ p.shows;
      told = λ has. ended;
      at_end = λ over. elim end [ inl reached ↦ reached | inr (before, same) ↦ subst IsAtEnd (sym same) (p.at_end before) ];
      ran = λ more others last.
          let none : more ≡ [] = last ended in
          let P : List ℕ → Type 0 = λ l. run_steps n (count + 1) (from old (p.input ++ l) (stream p.answers others))
          ≡ record (run_now l others) { state = new; events = p.events ++ ByteRead None ∷ [] } in
          subst P (sym none)
          (not_free answer (λ more others. answer_from more (run_now more others) (step n answer now).state) (ask_is_quiet n answer now x.shows)
          (λ more others. after_ask (run_now more others) _ x.shows) [] others (λ _. refl)
          ∙ ap (λ (s : State). record (run_now [] others) { state = s; events = p.events ++ ByteRead None ∷ [] }) (ap (given None) (sym x.state) ∙ sym e));
      exact = λ more others last.
          exact_not_free answer Asks (ask_is_quiet n answer now x.shows) x.shows x.exact more others (λ _. last ended);
      visits = λ more others last. visits_not_free more others (λ _. last ended);
    }
    answered answer waiting new reader_next will_be (Some byte) x (consumes, before, after) below e = record {
      input = p.input ++ byte ∷ [];
      answers = p.answers;
      events = p.events ++ ByteRead (Some byte) ∷ [];
      ledger = p.ledger;
      refused = p.refused;
      written = p.written;
      consumed = Consumes-trans _ _ _ _ _ p.consumed consumes;
      bytes = bytes_push p.input byte p.bytes below;
      appended = p.appended;
      shows = output_append p.events (ByteRead (Some byte) ∷ []) ∙ append-nil (output p.events) ∙ p.shows;
      told = λ has. absurd (let was : is_over ≡ true = told_before p.events _ _ p.told (λ same. (cc)) has in cc);
      at_end = λ over. absurd (cc);
      ran = λ more others last.
          ap (λ l. run_steps n (count + 1) (from old l (stream p.answers others))) (append_assoc p.input (byte ∷ []) more)
          ∙ not_free answer (λ more others. answer_from more (run_now more others) (step n answer now).state) (ask_is_quiet n answer now x.shows)
          (λ more others. after_ask (run_now more others) _ x.shows) (byte ∷ more) others (λ over. (cc))
          ∙ ap (λ (s : State). record (run_now more others) { state = s; events = p.events ++ ByteRead (Some byte) ∷ [] })
          (ap (given (Some byte)) (sym x.state) ∙ sym e);
      exact = λ more others last k below.
          subst (λ l. IsExact n (run_steps n k (from old l (stream p.answers others)))) (sym (append_assoc p.input (byte ∷ []) more))
          (exact_not_free answer Asks (ask_is_quiet n answer now x.shows) x.shows x.exact (byte ∷ more) others (λ over. (cc)) k below);
      visits = λ more others last.
          ap (λ l. visited n (count + 1) (from old l (stream p.answers others))) (append_assoc p.input (byte ∷ []) more)
          ∙ visits_not_free (byte ∷ more) others (λ over. (cc));
    }

    -- the run at its end
    pub hosted : (why : Ending) (limit : ℕ) (final : State) (writer_next : Option (List ℕ)) (others : ℕ → Answer) → count ≤ limit
        → Written why writer writer_next gathered → EndsAs why n limit count (run_now [] others) final
        → IsHosted why n limit old final reader_old reader writer_old writer_next
    hosted why limit final writer_next others within rest ends =
        let whole : run_steps n count (from old p.input (stream p.answers others)) ≡ run_now [] others =
        ap (λ l. run_steps n count (from old l (stream p.answers others))) (sym (append-nil p.input)) ∙ p.ran [] others (λ _. refl) in
        record {
          input = p.input;
          answers = stream p.answers others;
          count = count;
          within = within;
          given = p.consumed;
          bytes = p.bytes;
          taken = ap (λ (x : Run). x.input) whole;
          written = subst (Written why writer_old writer_next) (sym (ap (λ (x : Run). output x.events) whole ∙ p.shows))
              (written_then why _ _ _ _ _ p.appended rest);
          ends = subst (λ (x : Run). EndsAs why n limit count x final) (sym whole) ends;
          at_end = λ has. p.at_end (p.told (subst (λ (es : List Event). Contains es (ByteRead None)) (ap (λ (x : Run). x.events) whole) has));
          exact = λ k below. subst (λ l. IsExact n (run_steps n k (from old l (stream p.answers others)))) (append-nil p.input)
              (p.exact [] others (λ _. refl) k below);
        }

    -- and a tally that took in the states at which its instructions began
    pub watched : (why : Ending) (limit : ℕ) (final : State) (writer_next : Option (List ℕ)) (others : ℕ → Answer) (within : count ≤ limit)
        → (rest : Written why writer writer_next gathered) (ends : EndsAs why n limit count (run_now [] others) final) (before after : Tally)
        {known_before known_after : Known}
        → AreBegun why count count → AreTakenIn states before after known_before known_after
        → IsWatched why n limit old final reader_old reader writer_old writer_next before after known_before known_after
    unfolding hosted
    watched why limit final writer_next others within rest ends before after {known_before} {known_after} counted is = record {
      hosted = hosted why limit final writer_next others within rest ends;
      begun = count;
      counted = counted;
      taken = subst (λ (l : List State). AreTakenIn l before after known_before known_after) (sym (p.visits [] others (λ _. refl))
          ∙ ap (λ l. visited n count (from old l (stream p.answers others))) (append-nil p.input)) is;
    }

    -- also where one more began
    pub watched_further : (why : Ending) (limit : ℕ) (final : State) (writer_next : Option (List ℕ)) (others : ℕ → Answer) (within : count ≤ limit)
        → (rest : Written why writer writer_next gathered) (ends : EndsAs why n limit count (run_now [] others) final) (before after : Tally)
        {known_before known_after : Known}
        → AreBegun why count (count + 1) → AreTakenIn (states ++ now ∷ []) before after known_before known_after
        → IsWatched why n limit old final reader_old reader writer_old writer_next before after known_before known_after
    unfolding hosted
    watched_further why limit final writer_next others within rest ends before after {known_before} {known_after} counted is = record {
      hosted = hosted why limit final writer_next others within rest ends;
      begun = count + 1;
      counted = counted;
      taken = subst (λ (l : List State). AreTakenIn l before after known_before known_after) (sym (visits_not_free [] others (λ _. refl))
          ∙ ap (λ l. visited n (count + 1) (from old l (stream p.answers others))) (append-nil p.input)) is;
    }

-- an ending, or a failed write in its place, with the machine at its last state
pub either_end : (why result : Ending) (n : Areas) (limit count : ℕ) (now : Run)
    → (result ≡ why) ⊎ (result ≡ ending.WriteFault) → EndsAs why n limit count now now.state → EndsAs result n limit count now now.state
either_end why result n limit count now (inl same) ends = subst (λ (k : Ending). EndsAs k n limit count now now.state) (sym same) ends
either_end why result n limit count now (inr failed) ends = subst (λ (k : Ending). EndsAs k n limit count now now.state) (sym failed) (inl refl)

-- all began that are steps, at an ending or a failed write in its place
pub all_begun : (why result : Ending) (count : ℕ) → (result ≡ why) ⊎ (result ≡ ending.WriteFault) → AreBegun why count count → AreBegun result count count
all_begun why result count (inl same) all = subst (λ (k : Ending). AreBegun k count count) (sym same) all
all_begun why result count (inr failed) all = subst (λ (k : Ending). AreBegun k count count) (sym failed) (inl refl)

-- the same with what is gathered written in another way
pub gathered_as : {n : Areas} {old now : State} {count : ℕ} {is_over : Bool} {reader_old reader writer_old writer : Option (List ℕ)} {one other : List ℕ}
    {states : List State}
    → one ≡ other → Progress n old count is_over now reader_old reader writer_old writer one states
    → Progress n old count is_over now reader_old reader writer_old writer other states
gathered_as {n} {old} {now} {count} {is_over} {reader_old} {reader} {writer_old} {writer} {one} {other} {states} same p =
    subst (λ (l : List ℕ). Progress n old count is_over now reader_old reader writer_old writer l states) same p
