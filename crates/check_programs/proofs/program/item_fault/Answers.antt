use Rattle.std.specs.Prelude.{IfOk}
use Rattle.std.proofs.Common.{◌≡◌, subst, sym}
use Rattle.cyc_tree.specs.View.{program_item_tree}
use Rattle.source_typing.specs.Faults.{earliest}
use Rattle.source_typing.specs.Programs.{item_faults}
use Rattle.check_faults.specs.Faults.{faults_of}
use Rattle.check_programs.proofs.program.item_fault.Goals as goal

pub returns-in_ok-judged-in-Global : goal.returns-in_ok-judged-in-Global
returns-in_ok-judged-in-Global c g known =
    subst (λ z. faults_of c.in_ok-judged-in-Global.judged.fault ≡ earliest (item_faults c.args.lenient g c.args.index (program_item_tree z)))
    (sym c.in-Global.is)
    (c.in_ok-judged-in-Global.ensures.fault c.args.lenient g (record { names = known.tag_names; tables = known.tags }))

pub returns-in-Function : goal.returns-in-Function
returns-in-Function c g known =
    subst (λ z. IfOk c.function_fault.result (λ f. faults_of f ≡ earliest (item_faults c.args.lenient g c.args.index (program_item_tree z))))
    (sym c.in-Function.is) (c.function_fault.ensures g known)
