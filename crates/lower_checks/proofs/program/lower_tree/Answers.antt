use Rattle.std.proofs.Common.{◌≡◌, ◌∙◌, IfOk, subst}
use Rattle.cyc_core.specs.Trees.{program_tree}
use Rattle.cyc_tree.specs.Tree as tree
use Rattle.source_lowering.specs.Programs.{program_code}
use Rattle.lower_checks.proofs.program.lower_tree.Goals as goal

-- the tables are those of the program
pub returns : goal.returns
returns c = record {
  code =
      let same = c.in_ok-table.ensures.program ∙ c.items.ensures.same in
      subst (λ (p : tree.Program). IfOk c.lower_known.result (λ core. program_tree core ≡ program_code p)) same c.lower_known.ensures.code;
}
