use Rattle.std.proofs.Common.{Some}
use Rattle.core_meaning.specs.Core as core
use Rattle.core_eval.specs.declared.region.Standing.TheVariants as standing
use Rattle.core_eval.proofs.TurnMoves.{key_opens}
use Rattle.core_eval.proofs.RegionAnswers.{turn_answered}
use Rattle.core_eval.proofs.request.open_key.Goals as goal

pub returns-in-Birth : goal.returns-in-Birth
returns-in-Birth c =
    let x = c.args.key.0 in
    let after = c.turn_region.ensures in
    turn_answered c.done.result c.args.frame.now c.args.memory.now c.turn_region.new.self (core.KeyOpen x) x standing.Closed (Some standing.Opened)
    (key_opens x)
    c.temp.result c.temp.ensures c.in-Birth.birth c.in-Birth.is c.turn_region.result c.done.ensures
    (record {
      blocks = after.blocks;
      entered = after.entered;
      owns = after.owns;
      called = after.called;
      globals = after.globals;
      long_blocks = after.long_blocks;
    })
    after.regions after.kept
