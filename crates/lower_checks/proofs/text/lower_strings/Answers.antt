use Rattle.std.proofs.Common.{arith}
use Rattle.std.proofs.lemmas.Grind.{common_steps}
use Rattle.source_meaning.specs.Programs.{world_of}
use Rattle.lower_checks.proofs.text.lower_strings.Goals as goal

pub each-preserved : goal.each-preserved
each-preserved c = grind (arith, common_steps, c.each.invariant, c.in_ok-datum.ensures.datum (world_of c.args.program.now), c.in_ok-append.ensures.appended)
