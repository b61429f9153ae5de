use Rattle.std.proofs.Common.{map}
use Rattle.cyc_core.specs.Trees.{statement_tree}
use Rattle.lower_checks.specs.Writing.{code_of}
use Rattle.lower_checks.proofs.Lists.{if_of}
use Rattle.lower_checks.proofs.body.Body.branch.Goals as goal

pub returns : goal.returns
returns c sound =
    let done = c.choice.ensures sound in
    record {
      sound = done.sound;
      code = if_of (code_of c.choice.new.self) (code_of c.args.self.now) c.args.condition.0 (map statement_tree c.args.these.items)
          (map statement_tree c.args.those.items) done.code;
      own = done.own;
    }
