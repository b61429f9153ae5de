-- An evaluation of the Core of a program is one of the program: Core shows what the source shows, and ends as it does.
use Rattle.std.proofs.Common.{◌≡◌, ℕ, suc, ◌<◌, List, [], ◌∷◌, ◌++◌, Option, Some, None, refl, sym, ap, ◌∙◌, subst}
use Rattle.std.specs.Prelude.{Contains, slice_get}
use Rattle.cyc_words.proofs.Events.{bytes_push}
use Rattle.cyc_words.specs.Events as events
use Rattle.cyc_words.specs.Events.{AreBytes, Event, ByteRead, SourceEvent, SourceEnding, visible, output, bytes_read}
use Rattle.cyc_tree.specs.Tree.{Program}
use Rattle.source_meaning.specs.Steps.{Routine, World}
use Rattle.source_meaning.specs.Programs.{source, world_of}
use Rattle.core_meaning.specs.Steps as core_steps
use Rattle.core_meaning.specs.Core as cyc_core
use Rattle.core_meaning.specs.Meaning.{core}
use Rattle.source_lowering.specs.Agreeing.{SameEvent, BothVisible, BothCalled, BothReturned, SameEvents, SameOutcome}
use Rattle.source_lowering.specs.Programs.{program_code}
use Rattle.core_eval.specs.Evaluated.{Wrote, seen}
use Rattle.core_eval.specs.Evaluated as core_run
use Rattle.core_eval.specs.declared.ending.EvalEnding.{EvalEnding}
use Rattle.core_eval.specs.declared.ending.EvalEnding.TheVariants as ending
use Rattle.cyc_meaning.specs.Evaluated.{EndsAs, IsEvaluated, IsReadNext}

-- ---- events

abbrev name_in : Option Routine → List ℕ
name_in None = []
name_in (Some f) = f.name

-- the source's event that one of Core is
abbrev source_event : World → core_steps.Event → SourceEvent
source_event w (core_steps.Visible e) = events.Visible e
source_event w (core_steps.Called number) = events.Called (name_in (slice_get w.functions number))
source_event w (core_steps.Returned number) = events.Returned (name_in (slice_get w.functions number))

abbrev source_events : World → List core_steps.Event → List SourceEvent
source_events w [] = []
source_events w (e ∷ es) = source_event w e ∷ source_events w es

is_source : (w : World) (e : SourceEvent) (f : core_steps.Event) → SameEvent w e f → e ≡ source_event w f
is_source w _ _ (BothVisible e) = refl
is_source w _ _ (BothCalled number f is) = ap (λ (z : Option Routine). events.Called (name_in z)) (sym is)
is_source w _ _ (BothReturned number f is) = ap (λ (z : Option Routine). events.Returned (name_in z)) (sym is)

are_source : (w : World) (es : List SourceEvent) (fs : List core_steps.Event) → SameEvents w es fs → es ≡ source_events w fs
are_source w [] [] same = refl
are_source w [] (f ∷ fs) same = absurd same
are_source w (e ∷ es) [] same = absurd same
are_source w (e ∷ es) (f ∷ fs) same =
    ap (λ (x : SourceEvent). x ∷ es) (is_source w e f same.0) ∙ ap (λ (l : List SourceEvent). source_event w f ∷ l) (are_source w es fs same.1)

source_append : (w : World) (es fs : List core_steps.Event) → source_events w (es ++ fs) ≡ source_events w es ++ source_events w fs
source_append w [] fs = refl
source_append w (e ∷ es) fs = ap (λ (l : List SourceEvent). source_event w e ∷ l) (source_append w es fs)

visible_seen : (w : World) (es : List core_steps.Event) → visible (source_events w es) ≡ seen es
visible_seen w [] = refl
visible_seen w (core_steps.Visible e ∷ es) = ap (λ (l : List Event). e ∷ l) (visible_seen w es)
visible_seen w (core_steps.Called number ∷ es) = visible_seen w es
visible_seen w (core_steps.Returned number ∷ es) = visible_seen w es

-- ---- evaluations

module _ (p : Program)
    (same : (input : List ℕ) → AreBytes input → (n : ℕ) → SameOutcome (world_of p) (source p input n) (core (program_code p) input n)) where
  -- the events of the source, by Core's
  shown : (input : List ℕ) → AreBytes input → (n : ℕ) → (source p input n).events ≡ source_events (world_of p) (core (program_code p) input n).events
  shown input bytes n = are_source (world_of p) (source p input n).events (core (program_code p) input n).events (same input bytes n).events

  seen_same : (input : List ℕ) → AreBytes input → (n : ℕ) → visible (source p input n).events ≡ seen (core (program_code p) input n).events
  seen_same input bytes n = ap visible (shown input bytes n) ∙ visible_seen (world_of p) (core (program_code p) input n).events

  read_next : (input : List ℕ) → AreBytes input → (units byte : ℕ) → byte < 256 → core_run.IsReadNext (program_code p) input units byte
      → IsReadNext p input units byte
  read_next input bytes units byte below (rest, next) = (
    source_events (world_of p) rest,
    shown (input ++ byte ∷ []) (bytes_push input byte bytes below) (suc units) ∙ ap (source_events (world_of p)) next
        ∙ source_append (world_of p) (core (program_code p) input units).events (core_steps.Visible (ByteRead (Some byte)) ∷ rest)
        ∙ ap (λ (l : List SourceEvent). l ++ events.Visible (ByteRead (Some byte)) ∷ source_events (world_of p) rest) (sym (shown input bytes units)),
  )

  ends_as : (why : EvalEnding) (fuel units : ℕ) (input : List ℕ) → AreBytes input → core_run.EndsAs why (program_code p) fuel units input
      → EndsAs why p fuel units input
  ends_as (ending.Ended status) fuel units input bytes ends = (ends.0, (same input bytes units).ending ∙ ends.1)
  ends_as (ending.Raised kind) fuel units input bytes ends = (ends.0, (same input bytes units).ending ∙ ends.1)
  ends_as ending.Running fuel units input bytes ends = (ends.0, (same input bytes units).ending ∙ ends.1)
  ends_as ending.Stuck fuel units input bytes ends = (ends.0, (same input bytes units).ending ∙ ends.1)
  ends_as ending.ReadFault fuel units input bytes (some, runs, next) =
      (some, (same input bytes units).ending ∙ runs, λ byte below. read_next input bytes units byte below (next byte))
  ends_as ending.WriteFault fuel units input bytes ends = tt
  ends_as ending.HostMemory fuel units input bytes ends = tt

  pub carried : (why : EvalEnding) (fuel : ℕ) (reader_old reader_new writer_old writer_new : Option (List ℕ))
      → core_run.IsEvaluated why (program_code p) fuel reader_old reader_new writer_old writer_new
      → IsEvaluated why p fuel reader_old reader_new writer_old writer_new
  carried why fuel reader_old reader_new writer_old writer_new run =
      let same_seen = seen_same run.input run.bytes run.units in
      record {
        input = run.input;
        bytes = run.bytes;
        units = run.units;
        within = run.within;
        given = run.given;
        taken = ap bytes_read same_seen ∙ run.taken;
        at_end = λ has. run.at_end (subst (λ (es : List Event). Contains es (ByteRead None)) same_seen has);
        wrote = subst (λ (es : List Event). Wrote why writer_old writer_new (output es)) (sym same_seen) run.wrote;
        ends = ends_as why fuel run.units run.input run.bytes run.ends;
      }

-- an evaluation of a program that is the Core of another one
pub of_code : {why : EvalEnding} {fuel : ℕ} {reader_old reader_new writer_old writer_new : Option (List ℕ)} (p : Program) (q : cyc_core.Program)
    → q ≡ program_code p → core_run.IsEvaluated why q fuel reader_old reader_new writer_old writer_new
    → core_run.IsEvaluated why (program_code p) fuel reader_old reader_new writer_old writer_new
of_code {why} {fuel} {reader_old} {reader_new} {writer_old} {writer_new} p q same run =
    subst (λ (r : cyc_core.Program). core_run.IsEvaluated why r fuel reader_old reader_new writer_old writer_new) same run

-- a run of a source that is never Stuck doesn't end so
pub not_stuck : (p : Program) → ((input : List ℕ) (n : ℕ) → (source p input n).ending ≡ SourceEnding.Stuck → ⊥) → (why : EvalEnding) (fuel : ℕ)
    (reader_old reader_new writer_old writer_new : Option (List ℕ)) → IsEvaluated why p fuel reader_old reader_new writer_old writer_new → why ≡ ending.Stuck
    → ⊥
not_stuck p never why fuel reader_old reader_new writer_old writer_new run is =
    let ends : EndsAs ending.Stuck p fuel run.units run.input = subst (λ (w : EvalEnding). EndsAs w p fuel run.units run.input) is run.ends in
    never run.input run.units ends.1
