use Rattle.std.proofs.Common.{◌≡◌, None, map}
use Rattle.core_eval.specs.Pendings.{next_of, waits_of}
use Rattle.cyc_core.specs.Trees.{program_tree, function_tree}
use Rattle.core_eval.specs.Standing.{known_of}
use Rattle.core_eval.specs.Stages.{Stage}
use Rattle.core_eval.proofs.running.evaluate_core_within.Given as goal

abbrev pub invariant-units : goal.invariant-units
invariant-units g l = record {
  reads : g.R.Input.fault_count l.reader ≡ g.R.Input.fault_count l.fn.reader;
  writes : g.W.Output.fault_count l.writer ≡ g.W.Output.fault_count l.fn.writer;
  functions : map function_tree l.run.functions.now ≡ (program_tree l.fn.program).functions;
  stage : Stage (program_tree l.fn.program) l.fn.fuel l.left l.streams.is_over (next_of l.due) (waits_of l.run.stack.items) (known_of l.run.frame l.run.memory)
      (g.R.Read.remaining l.fn.reader)
      (g.R.Read.remaining l.reader) (g.W.Write.contents l.fn.writer) (g.W.Write.contents l.writer) l.streams.gathered;
  exceeded : l.exceeded ≡ None;
}

abbrev pub decreases-units : goal.decreases-units
decreases-units g l = l.left
