use Rattle.std.proofs.Common.{map}
use Rattle.cyc_core.specs.Trees.{statement_tree}
use Rattle.lower_checks.specs.Writing.{code_of}
use Rattle.lower_checks.proofs.Lists.{leave_of}
use Rattle.lower_checks.proofs.body.Body.leaves.Goals as goal

pub returns : goal.returns
returns c sound =
    let done = c.leaving.ensures sound in
    record {
      sound = done.sound;
      code = leave_of (code_of c.leaving.new.self) (code_of c.args.self.now) (map statement_tree c.args.inside.items) done.code;
      own = done.own;
    }
