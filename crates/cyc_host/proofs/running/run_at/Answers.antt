use Rattle.std.proofs.Common.{[], ◌∷◌, ◌++◌, ◌+◌, refl, sym, ap, subst, false, ◌∙◌, inl, inr, arith, rules, ⊎_elim}
use Rattle.std.proofs.lemmas.Int.{to_z-of_z}
use mir.Val.{SFits}
use mir.Syntax.{w32}
use Rattle.std.proofs.KnownBytes.{Appends-nil}
use Rattle.cyc_words.specs.Words.{word}
use Rattle.rv32_machine.specs.declared.event.Event.TheVariants as event
use Rattle.rv32_machine.specs.Arrays.{answer_seen, areas_of, arrays, state_of}
use Rattle.arena_laws.specs.Lawful.{Refuses}
use Rattle.rv32_machine.specs.State.{Stop}
use Rattle.rv32_machine.specs.Served.{lacks}
use Rattle.rv32_machine.specs.Step.{Nothing, Writes, Asks, Stops}
use Rattle.cyc_host.specs.declared.ending.Ending.TheVariants as ending
use Rattle.cyc_host.proofs.Transfers.{all_written, counted_ok, of_err, of_ok}
use Rattle.cyc_host.proofs.OtherEndings.{isnt_memory}
use Rattle.cyc_host.proofs.OneStep.{IsStep, step_at, over_at, runs_at, runs_at_write, runs_at_answer}
use Rattle.cyc_host.proofs.Quietly.{went_quietly, keeps_memory, quiet_at}
use Rattle.cyc_host.proofs.Watching.{took_one}
use Rattle.cyc_host.proofs.Progress.{all_begun, begun, gathered_as, went_on, stopped_at, put_one, wrote, kept, answered, hosted, watched, watched_further}
use Rattle.cyc_host.proofs.Progress.{either_end}
use Rattle.cyc_host.proofs.running.run_at.Goals as goal

pub steps-init : goal.steps-init
steps-init g c = record {
  count = 0;
  counted = omega arith;
  reads = search rules;
  writes = search rules;
  areas = refl;
  memory = λ never before. before;
  going = inl refl;
  progress = gathered_as (sym c.new-gathered.ensures) begun;
  states = [];
  saw = λ is. (is, record { tally = refl; active = λ calls active. active });
}

pub returns-then-is_err-clause-hosted : goal.returns-then-is_err-clause-hosted
returns-then-is_err-clause-hosted g c =
    let seen = arrays g.S.BlockStore.holdings g.S.BlockStore.byte_at in
    let i = c.steps.invariant in
    let n = areas_of (seen c.args.machine.now) in
    let there = c.advance.ensures.areas ∙ i.areas in
    let q = (went_quietly i.progress c.advance.result _ (quiet_at _ n _ _ _ i.areas c.advance.ensures.quiet)).1.1 in
    let x : IsStep (areas_of (seen c.args.machine.now)) _ (state_of (seen c.advance.new.machine)) (state_of (seen c.step.new.self)) (Writes c.in-Put.byte) =
    step_at _ _ _ _ _ _ there c.in-Put.ensures.state c.in-Put.ensures.event c.in-Put.ensures.full in
    hosted (put_one q _ _ c.in-Put.byte x) ending.WriteFault _ _ _ (λ k. Refuses) (omega (arith, i.counted, c.advance.ensures.few))
    (of_err c.put.result c.put.ensures.some (sym c.is_err.ensures.value ∙ c.if-is_err.true)) (inl refl)

pub returns-then-is_err-2-clause-hosted : goal.returns-then-is_err-2-clause-hosted
returns-then-is_err-2-clause-hosted g c =
    let seen = arrays g.S.BlockStore.holdings g.S.BlockStore.byte_at in
    let i = c.steps.invariant in
    let n = areas_of (seen c.args.machine.now) in
    let there = c.advance.ensures.areas ∙ i.areas in
    let q = (went_quietly i.progress c.advance.result _ (quiet_at _ n _ _ _ i.areas c.advance.ensures.quiet)).1.1 in
    let x : IsStep (areas_of (seen c.args.machine.now)) _ (state_of (seen c.advance.new.machine)) (state_of (seen c.step.new.self)) Asks =
    step_at _ _ _ _ _ _ there c.in-Get.ensures.state c.in-Get.ensures.event c.in-Get.ensures.full in
    hosted q ending.WriteFault _ _ _ (λ k. answer_seen event.Get (seen c.step.new.self)) (omega (arith, i.counted, c.advance.ensures.few))
    (of_err c.flush.result c.flush.ensures.some (sym c.is_err-in-Get.ensures.value ∙ c.if-is_err-2.true))
    (inr (omega (arith, i.counted, c.advance.ensures.few), x.state))

pub returns-in-Err-clause-hosted : goal.returns-in-Err-clause-hosted
returns-in-Err-clause-hosted g c =
    let seen = arrays g.S.BlockStore.holdings g.S.BlockStore.byte_at in
    let i = c.steps.invariant in
    let n = areas_of (seen c.args.machine.now) in
    let there = c.advance.ensures.areas ∙ i.areas in
    let q = (went_quietly i.progress c.advance.result _ (quiet_at _ n _ _ _ i.areas c.advance.ensures.quiet)).1.1 in
    let x : IsStep (areas_of (seen c.args.machine.now)) _ (state_of (seen c.advance.new.machine)) (state_of (seen c.step.new.self)) Asks =
    step_at _ _ _ _ _ _ there c.in-Get.ensures.state c.in-Get.ensures.event c.in-Get.ensures.full in
    let flushed = wrote q _ []
    (all_written _ _ _ (of_ok c.flush.result c.flush.ensures.all (sym c.is_err-in-Get.ensures.value ∙ c.if-is_err-2.false))) in
    hosted (kept flushed _ c.in-Err.ensures.kept c.in-Err.ensures.asked) ending.ReadFault _ _ _ (λ k. answer_seen event.Get (seen c.step.new.self))
    (omega (arith, i.counted, c.advance.ensures.few)) (Appends-nil _)
    (omega (arith, i.counted, c.advance.ensures.few), (x.state, sym x.shows))

pub returns-in-Ended-clause-hosted : goal.returns-in-Ended-clause-hosted
returns-in-Ended-clause-hosted g c =
    let seen = arrays g.S.BlockStore.holdings g.S.BlockStore.byte_at in
    let i = c.steps.invariant in
    let n = areas_of (seen c.args.machine.now) in
    let there = c.advance.ensures.areas ∙ i.areas in
    let q = (went_quietly i.progress c.advance.result _ (quiet_at _ n _ _ _ i.areas c.advance.ensures.quiet)).1.1 in
    let x : IsStep (areas_of (seen c.args.machine.now)) _ (state_of (seen c.advance.new.machine)) (state_of (seen c.step.new.self))
    (Stops (Stop.Ended (word c.in-Ended.status))) =
    step_at _ _ _ _ _ _ there c.in-Ended.ensures.state c.in-Ended.ensures.event c.in-Ended.ensures.full in
    let fits : SFits w32 c.in-Ended.status = search rules in
    hosted (stopped_at q _ _ _ x) c.finish.result _ _ _ (λ k. Refuses) (omega (arith, i.counted, c.advance.ensures.few)) c.finish.ensures.written
    (either_end (ending.Ended c.in-Ended.status) _ _ _ _ _ (simp (to_z-of_z w32 c.in-Ended.status fits) at c.finish.ensures.same) (refl, over_at x))

pub returns-in-Raised-clause-hosted : goal.returns-in-Raised-clause-hosted
returns-in-Raised-clause-hosted g c =
    let seen = arrays g.S.BlockStore.holdings g.S.BlockStore.byte_at in
    let i = c.steps.invariant in
    let n = areas_of (seen c.args.machine.now) in
    let there = c.advance.ensures.areas ∙ i.areas in
    let q = (went_quietly i.progress c.advance.result _ (quiet_at _ n _ _ _ i.areas c.advance.ensures.quiet)).1.1 in
    let x : IsStep (areas_of (seen c.args.machine.now)) _ (state_of (seen c.advance.new.machine)) (state_of (seen c.step.new.self))
    (Stops (Stop.Raised c.in-Raised.kind)) =
    step_at _ _ _ _ _ _ there c.in-Raised.ensures.state c.in-Raised.ensures.event c.in-Raised.ensures.full in
    hosted (stopped_at q _ _ _ x) c.finish-in-Raised.result _ _ _ (λ k. Refuses) (omega (arith, i.counted, c.advance.ensures.few))
    c.finish-in-Raised.ensures.written
    (either_end (ending.Raised c.in-Raised.kind) _ _ _ _ _ c.finish-in-Raised.ensures.same (refl, over_at x))

pub returns-in-Exhausted-clause-hosted : goal.returns-in-Exhausted-clause-hosted
returns-in-Exhausted-clause-hosted g c =
    let seen = arrays g.S.BlockStore.holdings g.S.BlockStore.byte_at in
    let i = c.steps.invariant in
    let n = areas_of (seen c.args.machine.now) in
    let there = c.advance.ensures.areas ∙ i.areas in
    let q = (went_quietly i.progress c.advance.result _ (quiet_at _ n _ _ _ i.areas c.advance.ensures.quiet)).1.1 in
    let x : IsStep (areas_of (seen c.args.machine.now)) _ (state_of (seen c.advance.new.machine)) (state_of (seen c.step.new.self)) (Stops Stop.Exhausted) =
    step_at _ _ _ _ _ _ there c.in-Exhausted.ensures.state c.in-Exhausted.ensures.event c.in-Exhausted.ensures.full in
    hosted (stopped_at q _ _ _ x) c.finish-in-Exhausted.result _ _ _ (λ k. Refuses) (omega (arith, i.counted, c.advance.ensures.few))
    c.finish-in-Exhausted.ensures.written
    (either_end ending.Exhausted _ _ _ _ _ c.finish-in-Exhausted.ensures.same (refl, over_at x))

pub returns-in-HostMemory-clause-hosted : goal.returns-in-HostMemory-clause-hosted
returns-in-HostMemory-clause-hosted g c =
    let seen = arrays g.S.BlockStore.holdings g.S.BlockStore.byte_at in
    let i = c.steps.invariant in
    let n = areas_of (seen c.args.machine.now) in
    let there = c.advance.ensures.areas ∙ i.areas in
    let q = (went_quietly i.progress c.advance.result _ (quiet_at _ n _ _ _ i.areas c.advance.ensures.quiet)).1.1 in
    let x : IsStep (areas_of (seen c.args.machine.now)) _ (state_of (seen c.advance.new.machine)) (state_of (seen c.step.new.self)) (Stops Stop.Lacking) =
    step_at _ _ _ _ _ _ there c.in-HostMemory.ensures.state c.in-HostMemory.ensures.event c.in-HostMemory.ensures.full in
    hosted (stopped_at q _ _ _ x) c.finish-in-HostMemory.result _ _ _ (λ k. Refuses) (omega (arith, i.counted, c.advance.ensures.few))
    c.finish-in-HostMemory.ensures.written
    (either_end ending.HostMemory _ _ _ _ _ c.finish-in-HostMemory.ensures.same (refl, over_at x))

pub returns-in-Fault-clause-hosted : goal.returns-in-Fault-clause-hosted
returns-in-Fault-clause-hosted g c =
    let seen = arrays g.S.BlockStore.holdings g.S.BlockStore.byte_at in
    let i = c.steps.invariant in
    let n = areas_of (seen c.args.machine.now) in
    let there = c.advance.ensures.areas ∙ i.areas in
    let q = (went_quietly i.progress c.advance.result _ (quiet_at _ n _ _ _ i.areas c.advance.ensures.quiet)).1.1 in
    let x : IsStep (areas_of (seen c.args.machine.now)) _ (state_of (seen c.advance.new.machine)) (state_of (seen c.step.new.self))
    (Stops (Stop.Fault c.in-Fault.fault)) =
    step_at _ _ _ _ _ _ there c.in-Fault.ensures.state c.in-Fault.ensures.event c.in-Fault.ensures.full in
    hosted (stopped_at q _ _ _ x) c.finish-in-Fault.result _ _ _ (λ k. Refuses) (omega (arith, i.counted, c.advance.ensures.few))
    c.finish-in-Fault.ensures.written
    (either_end (ending.Fault c.in-Fault.fault) _ _ _ _ _ c.finish-in-Fault.ensures.same (refl, over_at x))

pub returns-clause-hosted : goal.returns-clause-hosted
returns-clause-hosted g c =
    let seen = arrays g.S.BlockStore.holdings g.S.BlockStore.byte_at in
    let i = c.steps.invariant in
    hosted i.progress c.finish-2.result _ _ _ (λ k. Refuses) (omega (arith, i.counted)) c.finish-2.ensures.written
    (either_end ending.StepLimit _ _ _ _ _ c.finish-2.ensures.same
    (refl, omega (arith, i.counted), λ some. ⊎_elim (λ none. absurd (omega (arith, none, some, i.counted))) (λ runs. runs) i.going))

pub returns-then-is_err-clause-watched : goal.returns-then-is_err-clause-watched
returns-then-is_err-clause-watched g c = λ is.
    let seen = arrays g.S.BlockStore.holdings g.S.BlockStore.byte_at in
    let i = c.steps.invariant in
    let n = areas_of (seen c.args.machine.now) in
    let there = c.advance.ensures.areas ∙ i.areas in
    let quiet = quiet_at _ n _ _ _ i.areas c.advance.ensures.quiet in
    let (further, (same, q)) = went_quietly i.progress c.advance.result _ quiet in
    let (will, tally) = took_one n _ _ _ i.saw c.advance.ensures.taken quiet same is in
    let x : IsStep (areas_of (seen c.args.machine.now)) _ (state_of (seen c.advance.new.machine)) (state_of (seen c.step.new.self)) (Writes c.in-Put.byte) =
    step_at _ _ _ _ _ _ there c.in-Put.ensures.state c.in-Put.ensures.event c.in-Put.ensures.full in (
      will,
      watched (put_one q _ _ c.in-Put.byte x) ending.WriteFault _ _ _ (λ k. Refuses) (omega (arith, i.counted, c.advance.ensures.few))
          (of_err c.put.result c.put.ensures.some (sym c.is_err.ensures.value ∙ c.if-is_err.true)) (inl refl) _ _ (inl refl) tally,
    )

pub returns-then-is_err-2-clause-watched : goal.returns-then-is_err-2-clause-watched
returns-then-is_err-2-clause-watched g c = λ is.
    let seen = arrays g.S.BlockStore.holdings g.S.BlockStore.byte_at in
    let i = c.steps.invariant in
    let n = areas_of (seen c.args.machine.now) in
    let there = c.advance.ensures.areas ∙ i.areas in
    let quiet = quiet_at _ n _ _ _ i.areas c.advance.ensures.quiet in
    let (further, (same, q)) = went_quietly i.progress c.advance.result _ quiet in
    let (will, tally) = took_one n _ _ _ i.saw c.advance.ensures.taken quiet same is in
    let x : IsStep (areas_of (seen c.args.machine.now)) _ (state_of (seen c.advance.new.machine)) (state_of (seen c.step.new.self)) Asks =
    step_at _ _ _ _ _ _ there c.in-Get.ensures.state c.in-Get.ensures.event c.in-Get.ensures.full in (
      will,
      watched_further q ending.WriteFault _ _ _ (λ k. answer_seen event.Get (seen c.step.new.self)) (omega (arith, i.counted, c.advance.ensures.few))
          (of_err c.flush.result c.flush.ensures.some (sym c.is_err-in-Get.ensures.value ∙ c.if-is_err-2.true))
          (inr (omega (arith, i.counted, c.advance.ensures.few), x.state)) _ _ (inr refl) tally,
    )

pub returns-in-Err-clause-watched : goal.returns-in-Err-clause-watched
returns-in-Err-clause-watched g c = λ is.
    let seen = arrays g.S.BlockStore.holdings g.S.BlockStore.byte_at in
    let i = c.steps.invariant in
    let n = areas_of (seen c.args.machine.now) in
    let there = c.advance.ensures.areas ∙ i.areas in
    let quiet = quiet_at _ n _ _ _ i.areas c.advance.ensures.quiet in
    let (further, (same, q)) = went_quietly i.progress c.advance.result _ quiet in
    let (will, tally) = took_one n _ _ _ i.saw c.advance.ensures.taken quiet same is in
    let x : IsStep (areas_of (seen c.args.machine.now)) _ (state_of (seen c.advance.new.machine)) (state_of (seen c.step.new.self)) Asks =
    step_at _ _ _ _ _ _ there c.in-Get.ensures.state c.in-Get.ensures.event c.in-Get.ensures.full in
    let flushed = wrote q _ []
    (all_written _ _ _ (of_ok c.flush.result c.flush.ensures.all (sym c.is_err-in-Get.ensures.value ∙ c.if-is_err-2.false))) in (
      will,
      watched_further (kept flushed _ c.in-Err.ensures.kept c.in-Err.ensures.asked) ending.ReadFault _ _ _ (λ k. answer_seen event.Get (seen c.step.new.self))
          (omega (arith, i.counted, c.advance.ensures.few)) (Appends-nil _)
          (omega (arith, i.counted, c.advance.ensures.few), (x.state, sym x.shows)) _ _ refl tally,
    )

pub returns-in-Ended-clause-watched : goal.returns-in-Ended-clause-watched
returns-in-Ended-clause-watched g c = λ is.
    let seen = arrays g.S.BlockStore.holdings g.S.BlockStore.byte_at in
    let i = c.steps.invariant in
    let n = areas_of (seen c.args.machine.now) in
    let there = c.advance.ensures.areas ∙ i.areas in
    let quiet = quiet_at _ n _ _ _ i.areas c.advance.ensures.quiet in
    let (further, (same, q)) = went_quietly i.progress c.advance.result _ quiet in
    let (will, tally) = took_one n _ _ _ i.saw c.advance.ensures.taken quiet same is in
    let x : IsStep (areas_of (seen c.args.machine.now)) _ (state_of (seen c.advance.new.machine)) (state_of (seen c.step.new.self))
    (Stops (Stop.Ended (word c.in-Ended.status))) =
    step_at _ _ _ _ _ _ there c.in-Ended.ensures.state c.in-Ended.ensures.event c.in-Ended.ensures.full in
    let fits : SFits w32 c.in-Ended.status = search rules in (
      will,
      watched (stopped_at q _ _ _ x) c.finish.result _ _ _ (λ k. Refuses) (omega (arith, i.counted, c.advance.ensures.few)) c.finish.ensures.written
          (either_end (ending.Ended c.in-Ended.status) _ _ _ _ _ (simp (to_z-of_z w32 c.in-Ended.status fits) at c.finish.ensures.same) (refl, over_at x)) _ _
          (all_begun (ending.Ended c.in-Ended.status) _ _ (simp (to_z-of_z w32 c.in-Ended.status fits) at c.finish.ensures.same) refl) tally,
    )

pub returns-in-Raised-clause-watched : goal.returns-in-Raised-clause-watched
returns-in-Raised-clause-watched g c = λ is.
    let seen = arrays g.S.BlockStore.holdings g.S.BlockStore.byte_at in
    let i = c.steps.invariant in
    let n = areas_of (seen c.args.machine.now) in
    let there = c.advance.ensures.areas ∙ i.areas in
    let quiet = quiet_at _ n _ _ _ i.areas c.advance.ensures.quiet in
    let (further, (same, q)) = went_quietly i.progress c.advance.result _ quiet in
    let (will, tally) = took_one n _ _ _ i.saw c.advance.ensures.taken quiet same is in
    let x : IsStep (areas_of (seen c.args.machine.now)) _ (state_of (seen c.advance.new.machine)) (state_of (seen c.step.new.self))
    (Stops (Stop.Raised c.in-Raised.kind)) =
    step_at _ _ _ _ _ _ there c.in-Raised.ensures.state c.in-Raised.ensures.event c.in-Raised.ensures.full in (
      will,
      watched (stopped_at q _ _ _ x) c.finish-in-Raised.result _ _ _ (λ k. Refuses) (omega (arith, i.counted, c.advance.ensures.few))
          c.finish-in-Raised.ensures.written
          (either_end (ending.Raised c.in-Raised.kind) _ _ _ _ _ c.finish-in-Raised.ensures.same (refl, over_at x)) _ _
          (all_begun (ending.Raised c.in-Raised.kind) _ _ c.finish-in-Raised.ensures.same refl) tally,
    )

pub returns-in-Exhausted-clause-watched : goal.returns-in-Exhausted-clause-watched
returns-in-Exhausted-clause-watched g c = λ is.
    let seen = arrays g.S.BlockStore.holdings g.S.BlockStore.byte_at in
    let i = c.steps.invariant in
    let n = areas_of (seen c.args.machine.now) in
    let there = c.advance.ensures.areas ∙ i.areas in
    let quiet = quiet_at _ n _ _ _ i.areas c.advance.ensures.quiet in
    let (further, (same, q)) = went_quietly i.progress c.advance.result _ quiet in
    let (will, tally) = took_one n _ _ _ i.saw c.advance.ensures.taken quiet same is in
    let x : IsStep (areas_of (seen c.args.machine.now)) _ (state_of (seen c.advance.new.machine)) (state_of (seen c.step.new.self)) (Stops Stop.Exhausted) =
    step_at _ _ _ _ _ _ there c.in-Exhausted.ensures.state c.in-Exhausted.ensures.event c.in-Exhausted.ensures.full in (
      will,
      watched (stopped_at q _ _ _ x) c.finish-in-Exhausted.result _ _ _ (λ k. Refuses) (omega (arith, i.counted, c.advance.ensures.few))
          c.finish-in-Exhausted.ensures.written
          (either_end ending.Exhausted _ _ _ _ _ c.finish-in-Exhausted.ensures.same (refl, over_at x)) _ _
          (all_begun ending.Exhausted _ _ c.finish-in-Exhausted.ensures.same refl) tally,
    )

pub returns-in-HostMemory-clause-watched : goal.returns-in-HostMemory-clause-watched
returns-in-HostMemory-clause-watched g c = λ is.
    let seen = arrays g.S.BlockStore.holdings g.S.BlockStore.byte_at in
    let i = c.steps.invariant in
    let n = areas_of (seen c.args.machine.now) in
    let there = c.advance.ensures.areas ∙ i.areas in
    let quiet = quiet_at _ n _ _ _ i.areas c.advance.ensures.quiet in
    let (further, (same, q)) = went_quietly i.progress c.advance.result _ quiet in
    let (will, tally) = took_one n _ _ _ i.saw c.advance.ensures.taken quiet same is in
    let x : IsStep (areas_of (seen c.args.machine.now)) _ (state_of (seen c.advance.new.machine)) (state_of (seen c.step.new.self)) (Stops Stop.Lacking) =
    step_at _ _ _ _ _ _ there c.in-HostMemory.ensures.state c.in-HostMemory.ensures.event c.in-HostMemory.ensures.full in (
      will,
      watched (stopped_at q _ _ _ x) c.finish-in-HostMemory.result _ _ _ (λ k. Refuses) (omega (arith, i.counted, c.advance.ensures.few))
          c.finish-in-HostMemory.ensures.written
          (either_end ending.HostMemory _ _ _ _ _ c.finish-in-HostMemory.ensures.same (refl, over_at x)) _ _
          (all_begun ending.HostMemory _ _ c.finish-in-HostMemory.ensures.same refl) tally,
    )

pub returns-in-Fault-clause-watched : goal.returns-in-Fault-clause-watched
returns-in-Fault-clause-watched g c = λ is.
    let seen = arrays g.S.BlockStore.holdings g.S.BlockStore.byte_at in
    let i = c.steps.invariant in
    let n = areas_of (seen c.args.machine.now) in
    let there = c.advance.ensures.areas ∙ i.areas in
    let quiet = quiet_at _ n _ _ _ i.areas c.advance.ensures.quiet in
    let (further, (same, q)) = went_quietly i.progress c.advance.result _ quiet in
    let (will, tally) = took_one n _ _ _ i.saw c.advance.ensures.taken quiet same is in
    let x : IsStep (areas_of (seen c.args.machine.now)) _ (state_of (seen c.advance.new.machine)) (state_of (seen c.step.new.self))
    (Stops (Stop.Fault c.in-Fault.fault)) =
    step_at _ _ _ _ _ _ there c.in-Fault.ensures.state c.in-Fault.ensures.event c.in-Fault.ensures.full in (
      will,
      watched (stopped_at q _ _ _ x) c.finish-in-Fault.result _ _ _ (λ k. Refuses) (omega (arith, i.counted, c.advance.ensures.few))
          c.finish-in-Fault.ensures.written
          (either_end (ending.Fault c.in-Fault.fault) _ _ _ _ _ c.finish-in-Fault.ensures.same (refl, over_at x)) _ _
          (all_begun (ending.Fault c.in-Fault.fault) _ _ c.finish-in-Fault.ensures.same refl) tally,
    )

pub returns-clause-watched : goal.returns-clause-watched
returns-clause-watched g c = λ is.
    let seen = arrays g.S.BlockStore.holdings g.S.BlockStore.byte_at in
    let i = c.steps.invariant in (
      (i.saw is).0,
      watched i.progress c.finish-2.result _ _ _ (λ k. Refuses) (omega (arith, i.counted)) c.finish-2.ensures.written
          (either_end ending.StepLimit _ _ _ _ _ c.finish-2.ensures.same
          (refl, omega (arith, i.counted), λ some. ⊎_elim (λ none. absurd (omega (arith, none, some, i.counted))) (λ runs. runs) i.going)) _ _
          (all_begun ending.StepLimit _ _ c.finish-2.ensures.same refl) (i.saw is).1,
    )

pub returns-then-is_err-clause-memory : goal.returns-then-is_err-clause-memory
returns-then-is_err-clause-memory g c = λ never before.
    (λ is. absurd (cc), (c.in-Put.ensures.memory never (keeps_memory _ _ _ _ c.advance.ensures.quiet (c.steps.invariant.memory never before))).0)

pub returns-then-is_err-2-clause-memory : goal.returns-then-is_err-2-clause-memory
returns-then-is_err-2-clause-memory g c = λ never before.
    (λ is. absurd (cc), (c.in-Get.ensures.memory never (keeps_memory _ _ _ _ c.advance.ensures.quiet (c.steps.invariant.memory never before))).0)

pub returns-in-Err-clause-memory : goal.returns-in-Err-clause-memory
returns-in-Err-clause-memory g c = λ never before.
    (λ is. absurd (cc), (c.in-Get.ensures.memory never (keeps_memory _ _ _ _ c.advance.ensures.quiet (c.steps.invariant.memory never before))).0)

pub returns-in-Ended-clause-memory : goal.returns-in-Ended-clause-memory
returns-in-Ended-clause-memory g c =
    λ never before. (
      isnt_memory _ _ c.finish.ensures.same refl,
      (c.in-Ended.ensures.memory never (keeps_memory _ _ _ _ c.advance.ensures.quiet (c.steps.invariant.memory never before))).0,
    )

pub returns-in-Raised-clause-memory : goal.returns-in-Raised-clause-memory
returns-in-Raised-clause-memory g c =
    λ never before. (
      isnt_memory _ _ c.finish-in-Raised.ensures.same refl,
      (c.in-Raised.ensures.memory never (keeps_memory _ _ _ _ c.advance.ensures.quiet (c.steps.invariant.memory never before))).0,
    )

pub returns-in-Exhausted-clause-memory : goal.returns-in-Exhausted-clause-memory
returns-in-Exhausted-clause-memory g c =
    λ never before. (
      isnt_memory _ _ c.finish-in-Exhausted.ensures.same refl,
      (c.in-Exhausted.ensures.memory never (keeps_memory _ _ _ _ c.advance.ensures.quiet (c.steps.invariant.memory never before))).0,
    )

pub returns-in-Fault-clause-memory : goal.returns-in-Fault-clause-memory
returns-in-Fault-clause-memory g c =
    λ never before. (
      isnt_memory _ _ c.finish-in-Fault.ensures.same refl,
      (c.in-Fault.ensures.memory never (keeps_memory _ _ _ _ c.advance.ensures.quiet (c.steps.invariant.memory never before))).0,
    )

pub returns-in-HostMemory-clause-memory : goal.returns-in-HostMemory-clause-memory
returns-in-HostMemory-clause-memory g c = λ never before.
    absurd ((c.in-HostMemory.ensures.memory never (keeps_memory _ _ _ _ c.advance.ensures.quiet (c.steps.invariant.memory never before))).1 refl)

pub returns-clause-memory : goal.returns-clause-memory
returns-clause-memory g c = λ never before. (isnt_memory _ _ c.finish-2.ensures.same refl, c.steps.invariant.memory never before)

pub steps-preserved-in-Next : goal.steps-preserved-in-Next
steps-preserved-in-Next g c =
    let seen = arrays g.S.BlockStore.holdings g.S.BlockStore.byte_at in
    let i = c.steps.invariant in
    let n = areas_of (seen c.args.machine.now) in
    let there = c.advance.ensures.areas ∙ i.areas in
    let quiet = quiet_at _ n _ _ _ i.areas c.advance.ensures.quiet in
    let (further, (same, q)) = went_quietly i.progress c.advance.result _ quiet in
    let x : IsStep n _ (state_of (seen c.advance.new.machine)) (state_of (seen c.step.new.self)) Nothing =
    step_at _ _ _ _ _ _ there c.in-Next.ensures.state c.in-Next.ensures.event c.in-Next.ensures.full in
    record {
      count = i.count + c.advance.result + 1;
      states = further ++ state_of (seen c.advance.new.machine) ∷ [];
      counted = omega (arith, i.counted, c.advance.ensures.few);
      reads = i.reads;
      writes = i.writes;
      areas = c.in-Next.ensures.areas ∙ there;
      memory = λ never before. ap lacks (runs_at x);
      going = inr (runs_at x);
      progress = went_on q _ _ x;
      saw = took_one n _ _ _ i.saw c.advance.ensures.taken quiet same;
    }

pub steps-preserved-else-is_err : goal.steps-preserved-else-is_err
steps-preserved-else-is_err g c =
    let seen = arrays g.S.BlockStore.holdings g.S.BlockStore.byte_at in
    let i = c.steps.invariant in
    let n = areas_of (seen c.args.machine.now) in
    let there = c.advance.ensures.areas ∙ i.areas in
    let quiet = quiet_at _ n _ _ _ i.areas c.advance.ensures.quiet in
    let (further, (same, q)) = went_quietly i.progress c.advance.result _ quiet in
    let x : IsStep n _ (state_of (seen c.advance.new.machine)) (state_of (seen c.step.new.self)) (Writes c.in-Put.byte) =
    step_at _ _ _ _ _ _ there c.in-Put.ensures.state c.in-Put.ensures.event c.in-Put.ensures.full in
    let moved = of_ok c.put.result c.put.ensures.all (sym c.is_err.ensures.value ∙ c.if-is_err.false) in
    record {
      count = i.count + c.advance.result + 1;
      states = further ++ state_of (seen c.advance.new.machine) ∷ [];
      counted = omega (arith, i.counted, c.advance.ensures.few);
      reads = i.reads;
      writes = counted_ok c.put.result _ _ c.put.ensures.counted (sym c.is_err.ensures.value ∙ c.if-is_err.false) ∙ i.writes;
      areas = c.in-Put.ensures.areas ∙ there;
      memory = λ never before. ap lacks (runs_at_write x);
      going = inr (runs_at_write x);
      progress = wrote (put_one q _ _ c.in-Put.byte x) _ _ moved;
      saw = took_one n _ _ _ i.saw c.advance.ensures.taken quiet same;
    }

pub steps-preserved : goal.steps-preserved
steps-preserved g c =
    let seen = arrays g.S.BlockStore.holdings g.S.BlockStore.byte_at in
    let i = c.steps.invariant in
    let n = areas_of (seen c.args.machine.now) in
    let there = c.advance.ensures.areas ∙ i.areas in
    let quiet = quiet_at _ n _ _ _ i.areas c.advance.ensures.quiet in
    let (further, (same, q)) = went_quietly i.progress c.advance.result _ quiet in
    let x : IsStep n _ (state_of (seen c.advance.new.machine)) (state_of (seen c.step.new.self)) Asks =
    step_at _ _ _ _ _ _ there c.in-Get.ensures.state c.in-Get.ensures.event c.in-Get.ensures.full in
    let flushed = wrote q _ []
    (all_written _ _ _ (of_ok c.flush.result c.flush.ensures.all (sym c.is_err-in-Get.ensures.value ∙ c.if-is_err-2.false))) in
    record {
      count = i.count + c.advance.result + 1;
      states = further ++ state_of (seen c.advance.new.machine) ∷ [];
      counted = omega (arith, i.counted, c.advance.ensures.few);
      reads = c.in-Ok.ensures.counted ∙ i.reads;
      writes = counted_ok c.flush.result _ _ c.flush.ensures.counted (sym c.is_err-in-Get.ensures.value ∙ c.if-is_err-2.false) ∙ i.writes;
      areas = c.give.ensures.areas ∙ c.in-Get.ensures.areas ∙ there;
      memory = λ never before. ap lacks (runs_at_answer c.in-Ok.answer x c.give.ensures.state);
      going = inr (runs_at_answer c.in-Ok.answer x c.give.ensures.state);
      progress = gathered_as (sym c.flush.ensures.empty)
          (answered flushed _ _ _ _ _ _ x c.in-Ok.ensures.answer (search rules) c.give.ensures.state);
      saw = took_one n _ _ _ i.saw c.advance.ensures.taken quiet same;
    }
