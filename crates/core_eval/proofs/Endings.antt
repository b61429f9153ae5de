-- From where a run stands to what its evaluation answers.
use Rattle.std.proofs.Common.{
  ◌≡◌,
  ◌≢◌,
  ℕ,
  suc,
  ◌+◌,
  ◌≤◌,
  ◌<◌,
  ◌⊎◌,
  Bool,
  true,
  false,
  List,
  [],
  ◌∷◌,
  ◌++◌,
  Option,
  Some,
  None,
  IfSome,
  refl,
  sym,
  ap,
  ◌∙◌,
  subst,
  inl,
  inr,
  append-nil,
  arith,
}
use Rattle.std.specs.List.{Contains}
use Rattle.std.specs.Io.KnownBytes.{Appends}
use Rattle.std.proofs.KnownBytes.{Appends-nil, Appends-trans, Consumes-nil}
use Rattle.core_meaning.specs.Core.{Program}
use Rattle.cyc_words.specs.Words.{word}
use Rattle.cyc_words.specs.Events as events
use Rattle.cyc_words.specs.Events.{ByteRead, SourceEnding, output, bytes_read}
use Rattle.core_meaning.specs.Steps as steps
use Rattle.core_meaning.specs.Steps.{Config, with_temp, Event, Visible, Step}
use Rattle.core_meaning.specs.Memory.{Word}
use Rattle.core_meaning.specs.Operations.{byte_word}
use Rattle.step_trees.specs.Trees.{Outcome, run}
use Rattle.core_meaning.specs.Meaning.{bodies, start, core}
use Rattle.core_eval.proofs.Quiet.{IsQuiet, AreSilent, none_silent, told_first, silent_run, stands_quiet, rest_quiet, start_quiet}
use Rattle.cyc_host.specs.Transfers.{WritesSome, WritesBut}
use Rattle.cyc_host.proofs.Transfers.{some_front, some_then}
use Rattle.core_eval.specs.declared.ending.EvalEnding.{EvalEnding}
use Rattle.core_eval.specs.declared.ending.EvalEnding.TheVariants as ending
use Rattle.core_eval.specs.Pendings.{Wait, Next, Go, GetcharDue, PutcharDue, TurnDue, CallDue, Over, Raised, Wrong, rest_of, coming}
use Rattle.core_eval.specs.Standing.{Known}
use Rattle.core_eval.specs.Resting.{EndsNow, IsPayable}
use Rattle.core_eval.specs.Evaluated.{seen, Wrote, EndsAs, IsReadNext, IsEvaluated, IsNeverStuck, writes_failed}
use Rattle.core_eval.specs.Stages.{Progress, Stage, prepended}
use Rattle.core_eval.proofs.Progress.{wrote, reads_append, bytes_append, seen_append}
use Rattle.cyc_host.specs.Transfers.{Answers}
use Rattle.core_eval.specs.Fetched.{FetchFault}
use Rattle.core_eval.proofs.Stages.{settle, got, put, stage_kept}

-- ---- what reaches the writer

-- bytes that were all written are what any ending wants
pub wrote_all : (why : EvalEnding) (old new : Option (List ℕ)) (bytes : List ℕ) → Appends old new bytes → Wrote why old new bytes
wrote_all (ending.Ended status) old new bytes p = p
wrote_all (ending.Raised kind) old new bytes p = p
wrote_all ending.Running old new bytes p = p
wrote_all ending.Stuck old new bytes p = p
wrote_all ending.ReadFault old new bytes p = p
wrote_all ending.WriteFault old new bytes p = subst (WritesSome old new) (append-nil bytes) (some_front old new bytes [] p)
wrote_all ending.HostMemory old new bytes p = p

-- what an ending of the run wants of the rest, after the front, it has of all
wrote_then : (why : EvalEnding) (old middle new : Option (List ℕ)) (front rest : List ℕ) → Appends old middle front → Wrote why middle new rest
    → Wrote why old new (front ++ rest)
wrote_then (ending.Ended status) old middle new front rest p q = Appends-trans _ _ _ _ _ p q
wrote_then (ending.Raised kind) old middle new front rest p q = Appends-trans _ _ _ _ _ p q
wrote_then ending.Running old middle new front rest p q = Appends-trans _ _ _ _ _ p q
wrote_then ending.Stuck old middle new front rest p q = Appends-trans _ _ _ _ _ p q
wrote_then ending.ReadFault old middle new front rest p q = Appends-trans _ _ _ _ _ p q
wrote_then ending.WriteFault old middle new front rest p q = some_then old middle new front rest p q
wrote_then ending.HostMemory old middle new front rest p q = Appends-trans _ _ _ _ _ p q

-- no write fault: the writer has failed as often as before
pub written_well : (why : EvalEnding) (count : ℕ) → why ≢ ending.WriteFault → writes_failed why count ≡ count
written_well (ending.Ended status) count other = refl
written_well (ending.Raised kind) count other = refl
written_well ending.Running count other = refl
written_well ending.Stuck count other = refl
written_well ending.ReadFault count other = refl
written_well ending.WriteFault count other = absurd (other refl)
written_well ending.HostMemory count other = refl

-- ---- endings

module _ {p : Program} {fuel left : ℕ} {is_over : Bool} {s : Step} {reader_old reader writer_old writer : Option (List ℕ)}
    {gathered : List ℕ} (x : Progress p fuel left is_over s reader_old reader writer_old writer gathered) where
  -- the run with some units more, to which no more input comes
  pub run_on : (n : ℕ) → core p x.input (x.units + n) ≡ prepended x.events (run (bodies p) n s [])
  run_on n = ap (λ l. core p l (x.units + n)) (sym (append-nil x.input)) ∙ x.ran n [] (λ over. refl)

  -- the run that had some units more, and showed no byte more with them
  pub evaluated : (why : EvalEnding) (n : ℕ) (o : Outcome Event) (writer_next : Option (List ℕ)) → n ≤ left → run (bodies p) n s [] ≡ o
      → AreSilent (seen o.events) → Wrote why writer writer_next gathered → EndsAs why p fuel (x.units + n) x.input
      → IsEvaluated why p fuel reader_old reader writer_old writer_next
  evaluated why n o writer_next few runs silent rest ends =
      let all = ap (λ (r : Outcome Event). r.events) (run_on n ∙ ap (prepended x.events) runs) in
      let shown : output (seen (core p x.input (x.units + n)).events) ≡ x.written ++ gathered =
      ap (λ es. output (seen es)) all ∙ bytes_append x.events o.events ∙ ap (λ l. output (seen x.events) ++ l) silent.written
      ∙ append-nil (output (seen x.events)) ∙ x.shows in
      record {
        input = x.input;
        units = x.units + n;
        within = let spent = x.spent in omega arith;
        given = x.consumed;
        bytes = x.bytes;
        taken = ap (λ es. bytes_read (seen es)) all ∙ reads_append x.events o.events ∙ ap (λ l. bytes_read (seen x.events) ++ l) silent.read
            ∙ append-nil (bytes_read (seen x.events)) ∙ x.taken;
        at_end = λ has. x.at_end (x.told (told_first (seen x.events) (seen o.events) silent (subst (λ (es : List events.Event). Contains es (ByteRead None))
            (ap seen all ∙ seen_append x.events o.events) has)));
        wrote = subst (Wrote why writer_old writer_next) (sym shown) (wrote_then why _ _ _ _ _ x.appended rest);
        ends = ends;
      }

  -- an ending of the run with all its fuel, or a failed write in its place
  pub either_end : (why result : EvalEnding) (o : Outcome Event) (writer_next : Option (List ℕ)) → (result ≡ why) ⊎ (result ≡ ending.WriteFault)
      → run (bodies p) left s [] ≡ o → AreSilent (seen o.events) → Wrote result writer writer_next gathered
      → ((core p x.input (x.units + left)).ending ≡ o.ending → EndsAs why p fuel (x.units + left) x.input)
      → IsEvaluated result p fuel reader_old reader writer_old writer_next
  either_end why result o writer_next (inl same) runs silent rest ends =
      subst (λ (r : EvalEnding). IsEvaluated r p fuel reader_old reader writer_old writer_next) (sym same)
      (evaluated why left o writer_next (omega arith) runs silent (subst (λ (r : EvalEnding). Wrote r writer writer_next gathered) same rest)
      (ends (ap (λ (r : Outcome Event). r.ending) (run_on left ∙ ap (prepended x.events) runs))))
  either_end why result o writer_next (inr failed) runs silent rest ends =
      subst (λ (r : EvalEnding). IsEvaluated r p fuel reader_old reader writer_old writer_next) (sym failed)
      (evaluated ending.WriteFault left o writer_next (omega arith) runs silent (subst (λ
      (r : EvalEnding). Wrote r writer writer_next gathered) failed rest) tt)

module _ {p : Program} {fuel left : ℕ} {is_over : Bool} {s : Step} {reader_old reader writer_old writer : Option (List ℕ)}
    {gathered : List ℕ} (x : Progress p fuel left is_over s reader_old reader writer_old writer gathered) (quiet : IsQuiet s) where
  -- the host stopped the run
  pub stopped : (result : EvalEnding) (writer_next : Option (List ℕ)) → (result ≡ ending.HostMemory) ⊎ (result ≡ ending.WriteFault)
      → Wrote result writer writer_next gathered → IsEvaluated result p fuel reader_old reader writer_old writer_next
  stopped result writer_next (inl same) rest =
      subst (λ (r : EvalEnding). IsEvaluated r p fuel reader_old reader writer_old writer_next) (sym same)
      (evaluated x ending.HostMemory 0 _ writer_next (omega arith) refl (silent_run p s [] quiet)
      (subst (λ (r : EvalEnding). Wrote r writer writer_next gathered) same rest) tt)
  stopped result writer_next (inr failed) rest =
      subst (λ (r : EvalEnding). IsEvaluated r p fuel reader_old reader writer_old writer_next) (sym failed)
      (evaluated x ending.WriteFault 0 _ writer_next (omega arith) refl (silent_run p s [] quiet)
      (subst (λ (r : EvalEnding). Wrote r writer writer_next gathered) failed rest) tt)

-- a unit is due, and none is left
broke : (p : Program) (next : Next) (k : steps.Exit → Config → Step) (c : Config) → IsPayable next
    → run (bodies p) 0 (coming next k c) [] ≡ record { events = []; ending = SourceEnding.Running }
broke p (GetcharDue t) k c h = refl
broke p (PutcharDue t x) k c h = refl
broke p (TurnDue test flag body) k c h = refl
broke p (CallDue results f arguments) k c h = refl
broke p (Go task) k c h = absurd h
broke p (Over status) k c h = absurd h
broke p (Raised kind) k c h = absurd h
broke p Wrong k c h = absurd h

module _ {p : Program} {fuel left : ℕ} {is_over : Bool} {next : Next} {ws : List Wait} {known : Known} {reader_old reader writer_old writer : Option
    (List ℕ)} {gathered : List ℕ} (x : Stage p fuel left is_over next ws known reader_old reader writer_old writer gathered) where
  -- the host stopped the run
  pub stage_stopped : (result : EvalEnding) (writer_next : Option (List ℕ)) → (result ≡ ending.HostMemory) ⊎ (result ≡ ending.WriteFault)
      → Wrote result writer writer_next gathered → IsEvaluated result p fuel reader_old reader writer_old writer_next
  stage_stopped = stopped x.progress (stands_quiet p.main x.s next ws known x.stands)

  -- the run is over
  pub over_answer : (why result : EvalEnding) (writer_next : Option (List ℕ)) → EndsNow why next left → (result ≡ why) ⊎ (result ≡ ending.WriteFault)
      → Wrote result writer writer_next gathered → IsEvaluated result p fuel reader_old reader writer_old writer_next
  over_answer (ending.Ended status) result writer_next is same rest =
      either_end (settle next x) (ending.Ended status) result (record { events = []; ending = SourceEnding.Ended (word status) }) writer_next same
      (ap (λ (n : Next). run (bodies p) left (coming n (rest_of p.main ws x.stands.marks) x.stands.config) []) is) none_silent rest
      (λ e. ((settle next x).spent, e))
  over_answer ending.Stuck result writer_next is same rest =
      either_end (settle next x) ending.Stuck result (record { events = []; ending = SourceEnding.Stuck }) writer_next same
      (ap (λ (n : Next). run (bodies p) left (coming n (rest_of p.main ws x.stands.marks) x.stands.config) []) is) none_silent rest
      (λ e. ((settle next x).spent, e))
  over_answer ending.Running result writer_next is same rest =
      either_end (settle next x) ending.Running result (record { events = []; ending = SourceEnding.Running }) writer_next same
      (ap (λ n. run (bodies p) n (coming next (rest_of p.main ws x.stands.marks) x.stands.config) []) is.1
      ∙ broke p next (rest_of p.main ws x.stands.marks) x.stands.config is.0)
      none_silent rest (λ e. ((settle next x).spent, e))
  over_answer (ending.Raised kind) result writer_next is same rest =
      either_end (settle next x) (ending.Raised kind) result (record { events = []; ending = SourceEnding.Raised kind }) writer_next same
      (ap (λ (n : Next). run (bodies p) left (coming n (rest_of p.main ws x.stands.marks) x.stands.config) []) is) none_silent rest
      (λ e. ((settle next x).spent, e))
  over_answer ending.ReadFault result writer_next is same rest = absurd is
  over_answer ending.WriteFault result writer_next is same rest = absurd is
  over_answer ending.HostMemory result writer_next is same rest = absurd is

module _ {p : Program} {fuel left : ℕ} {is_over : Bool} {t : ℕ} {ws : List Wait} {known : Known} {reader_old reader writer_old writer : Option (List ℕ)}
    {gathered : List ℕ} (x : Stage p fuel left is_over (GetcharDue t) ws known reader_old reader writer_old writer gathered) (some : 0 < left) where
  -- a byte is due next, and a unit is left for it
  pub stopped_reading : is_over ≡ false → (writer_next : Option (List ℕ)) → Appends writer writer_next gathered
      → IsEvaluated ending.ReadFault p fuel reader_old reader writer_old writer_next
  stopped_reading unread writer_next all =
      let y = settle (GetcharDue t) x in
      let st = x.stands in
      let nothing : Outcome Event = record { events = []; ending = SourceEnding.Running } in
      let k : Option ℕ → Step = λ b. rest_of p.main ws st.marks steps.Falls (with_temp t (Word (byte_word b)) st.config) in
      let here : core p y.input (y.units + 0) ≡ prepended y.events nothing = run_on y 0 in
      let reads : (byte : ℕ) → IsReadNext p y.input (y.units + 0) byte =
      λ byte. let then_run : Outcome Event = run (bodies p) 0 (k (Some byte)) [] in (
        then_run.events,
        let more : suc (y.units + 0) ≡ y.units + 1 = omega arith in
            ap (λ (r : Outcome Event). r.events) (ap (core p (y.input ++ byte ∷ [])) more
            ∙ y.ran 1 (byte ∷ []) (λ over. absurd (let bad : true ≡ false = sym over ∙ unread in cc)))
            ∙ ap (λ es. es ++ Visible (ByteRead (Some byte)) ∷ then_run.events)
            (sym (ap (λ (r : Outcome Event). r.events) here ∙ append-nil y.events)),
      ) in
      evaluated y ending.ReadFault 0 nothing writer_next (omega arith) refl none_silent all
      (let spent = y.spent in omega arith, ap (λ (r : Outcome Event). r.ending) here, reads)

  -- a byte was read, and the host stopped the run
  pub got_stopped : (reader_next : Option (List ℕ)) (will_be : Bool) (answer : Option ℕ) → Answers reader reader_next is_over will_be answer
      → IfSome answer (λ byte. byte < 256) → (result : EvalEnding) (writer_next : Option (List ℕ))
      → (result ≡ ending.HostMemory) ⊎ (result ≡ ending.WriteFault) → Wrote result writer writer_next gathered
      → IsEvaluated result p fuel reader_old reader_next writer_old writer_next
  got_stopped reader_next will_be answer answers below =
      stopped (got t x some reader_next will_be answer answers below) (rest_quiet p.main ws x.stands.marks steps.Falls _)

module _ {p : Program} {fuel left : ℕ} {is_over : Bool} {t byte : ℕ} {ws : List Wait} {known : Known} {reader_old reader writer_old writer : Option (List ℕ)}
    {gathered : List ℕ} (x : Stage p fuel left is_over (PutcharDue t byte) ws known reader_old reader writer_old writer gathered) (some : 0 < left) where
  -- the write of a byte failed
  pub unput_stopped : (writer_next : Option (List ℕ)) → WritesSome writer writer_next (gathered ++ byte ∷ [])
      → IsEvaluated ending.WriteFault p fuel reader_old reader writer_old writer_next
  unput_stopped writer_next rest =
      stopped (put t byte x some) (rest_quiet p.main ws x.stands.marks steps.Falls _) ending.WriteFault writer_next (inr refl) rest

  -- a byte was gathered or written, and the host stopped the run
  pub put_stopped : (writer_now : Option (List ℕ)) (gathered_now : List ℕ) → WritesBut writer writer_now (gathered ++ byte ∷ []) gathered_now
      → (result : EvalEnding) (writer_next : Option (List ℕ)) → (result ≡ ending.HostMemory) ⊎ (result ≡ ending.WriteFault)
      → Wrote result writer_now writer_next gathered_now → IsEvaluated result p fuel reader_old reader writer_old writer_next
  put_stopped writer_now gathered_now moved =
      stopped (wrote (put t byte x some) writer_now gathered_now moved) (rest_quiet p.main ws x.stands.marks steps.Falls _)

module _ {p : Program} {fuel left : ℕ} {is_over : Bool} {t : ℕ} {ws : List Wait} {known : Known} {reader_old reader writer_old writer : Option (List ℕ)}
    {gathered : List ℕ} (x : Stage p fuel left is_over (GetcharDue t) ws known reader_old reader writer_old writer gathered) (some : 0 < left) where
  -- the write before a read failed, or the read did
  pub fetch_answer : (why : EvalEnding) (reader_next writer_next : Option (List ℕ)) → FetchFault why reader reader_next is_over writer writer_next gathered
      → IsEvaluated why p fuel reader_old reader_next writer_old writer_next
  fetch_answer ending.ReadFault reader_next writer_next fault = stopped_reading
      (stage_kept (GetcharDue t) x reader_next fault.0 fault.1) some fault.1 writer_next fault.2
  fetch_answer ending.WriteFault reader_next writer_next fault =
      subst (λ (r : Option (List ℕ)). IsEvaluated ending.WriteFault p fuel reader_old r writer_old writer_next) (sym fault.0)
      (stage_stopped x ending.WriteFault writer_next (inr refl) fault.1)
  fetch_answer _ reader_next writer_next fault = absurd fault

-- ---- programs that are never stuck

-- no evaluation of such a program is stuck
pub unstuck : (why : EvalEnding) (p : Program) (fuel : ℕ) (reader_old reader writer_old writer : Option (List ℕ))
    → IsEvaluated why p fuel reader_old reader writer_old writer → IsNeverStuck p → why ≢ ending.Stuck
unstuck why p fuel reader_old reader writer_old writer x never stuck =
    let ends : EndsAs ending.Stuck p fuel x.units x.input = subst (λ (r : EvalEnding). EndsAs r p fuel x.units x.input) stuck x.ends in
    never x.input x.bytes x.units ends.1

-- ---- nothing done

-- With no unit of fuel a run reads and writes nothing, so a host without memory need not have begun.
pub nothing_done : (p : Program) (fuel : ℕ) (reader writer : Option (List ℕ)) → IsEvaluated ending.HostMemory p fuel reader reader writer writer
nothing_done p fuel reader writer =
    let silent : AreSilent (seen (core p [] 0).events) = silent_run p (start p) [] (start_quiet p) in
    record {
      input = [];
      bytes = tt;
      units = 0;
      within = omega arith;
      given = Consumes-nil reader;
      taken = silent.read;
      at_end = λ has. absurd (silent.untold has);
      wrote = subst (Appends writer writer) (sym silent.written) (Appends-nil writer);
      ends = tt;
    }
