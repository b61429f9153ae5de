use Rattle.std.proofs.Common.{map}
use Rattle.cyc_core.specs.Trees.{local_tree, statement_tree}
use Rattle.lower_checks.specs.Writing.{code_of}
use Rattle.lower_checks.proofs.Lists.{block_of}
use Rattle.lower_checks.proofs.body.Body.block.Goals as goal

pub returns : goal.returns
returns c sound =
    let done = c.within.ensures sound in
    record {
      sound = done.sound;
      code = block_of (code_of c.within.new.self) (code_of c.args.self.now) (map local_tree c.args.locals.items) (map statement_tree c.args.inside.items)
          done.code;
      own = done.own;
    }
