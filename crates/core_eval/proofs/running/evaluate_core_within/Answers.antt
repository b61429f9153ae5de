use Rattle.std.proofs.Common.{map, refl, ap, ◌∙◌, inl}
use Rattle.std.proofs.KnownBytes.{Appends-nil}
use Rattle.cyc_core.specs.Trees.{program_tree, function_tree}
use Rattle.core_eval.specs.declared.ending.EvalEnding.TheVariants as ending
use Rattle.core_eval.specs.Pendings.{next_of, waits_of}
use Rattle.core_eval.specs.Standing.{first_known}
use Rattle.core_eval.proofs.Stages.{begun, stage_as}
use Rattle.core_eval.proofs.Endings.{stage_stopped, unstuck}
use Rattle.core_eval.proofs.running.evaluate_core_within.Goals as goal

pub returns-in_default-clause-evaluated : goal.returns-in_default-clause-evaluated
returns-in_default-clause-evaluated g c =
    stage_stopped (begun (program_tree c.args.program.now) c.args.fuel (next_of c.start-begin.result.due)
    (first_known c.args.program.now.globals.items c.start-begin.result.own.now)
    (g.R.Read.remaining c.args.reader.now) (g.W.Write.contents c.args.writer.now) c.start-begin.ensures) ending.HostMemory _ (inl refl) (Appends-nil _)

pub units-init : goal.units-init
units-init g c =
    let p = c.args.program.now in
    let own = c.start-begin.result.own.now in
    record {
      reads = refl;
      writes = refl;
      functions = ap (map function_tree) c.deref-2.ensures.value;
      stage = stage_as _ (begun (program_tree p) c.args.fuel (next_of c.start-begin.result.due) (first_known p.globals.items own)
          (g.R.Read.remaining c.args.reader.now) (g.W.Write.contents c.args.writer.now) c.start-begin.ensures) _ _ _ _ refl
          (ap waits_of c.new.ensures.items)
          (c.in-Ok.ensures c.new-2.result c.new-2.ensures.temps c.new-2.ensures.base
          ∙ ap (λ ds. first_known ds own) c.deref.ensures.value)
          c.new-3.ensures;
      exceeded = refl;
    }

pub units-preserved : goal.units-preserved
units-preserved g c =
    let i = c.units.invariant in
    let r = c.in-Ok-pay_unit in
    record {
      reads = r.ensures.reads ∙ i.reads;
      writes = r.ensures.writes ∙ i.writes;
      functions = (λ k. map function_tree ((r.ensures.functions k).now)) ∙ i.functions;
      stage = r.ensures.goes_on (program_tree c.args.program.now) c.args.fuel _ _ i.functions i.stage;
      exceeded = i.exceeded;
    }

pub returns-in-Err-clause-evaluated : goal.returns-in-Err-clause-evaluated
returns-in-Err-clause-evaluated g c = c.in-Err.ensures.ends (program_tree c.args.program.now) c.args.fuel _ _ c.units.invariant.stage

pub returns-in-Err-clause-never_stuck : goal.returns-in-Err-clause-never_stuck
returns-in-Err-clause-never_stuck g c =
    unstuck c.in-Err.ending (program_tree c.args.program.now) c.args.fuel _ _ _ _ (returns-in-Err-clause-evaluated g c)

pub returns-in-Some-clause-evaluated : goal.returns-in-Some-clause-evaluated
returns-in-Some-clause-evaluated g c = stage_stopped c.units.invariant.stage c.finish-ending.result _ c.finish-ending.ensures.same
    c.finish-ending.ensures.written

pub returns-in-Some-clause-never_stuck : goal.returns-in-Some-clause-never_stuck
returns-in-Some-clause-never_stuck g c =
    unstuck c.finish-ending.result (program_tree c.args.program.now) c.args.fuel _ _ _ _ (returns-in-Some-clause-evaluated g c)
