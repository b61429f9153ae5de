use Rattle.std.proofs.Common.{map}
use Rattle.cyc_core.specs.Trees.{statement_tree}
use Rattle.lower_checks.specs.Writing.{code_of}
use Rattle.lower_checks.proofs.Lists.{while_of}
use Rattle.lower_checks.proofs.body.Body.turns.Goals as goal

pub returns : goal.returns
returns c sound =
    let done = c.turning.ensures sound in
    record {
      sound = done.sound;
      code = while_of (code_of c.turning.new.self) (code_of c.args.self.now) (map statement_tree c.args.test.items) c.args.condition.0
          (map statement_tree c.args.turn.items) done.code;
      own = done.own;
    }
