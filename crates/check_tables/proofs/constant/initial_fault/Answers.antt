use Rattle.std.proofs.Common.{◌≡◌, ◌++◌, ap, append_assoc, sym, ◌∙◌}
use Rattle.cyc_tree.specs.View.{constant_tree, initial_tree}
use Rattle.source_typing.specs.Declarations.{converted_to, set_faults}
use Rattle.source_typing.specs.Faults.{earliest}
use Rattle.source_typing.specs.Globals.{constant, string_faults}
use Rattle.source_typing.specs.Scope.{at_item}
use Rattle.check_faults.specs.Faults.{faults_of, first_of}
use Rattle.cyc_types.specs.Types.{static_type}
use Rattle.check_faults.proofs.Earliest.{earliest_of_both, found_sooner}
use Rattle.check_heads.proofs.Answered.{fault_is}
use Rattle.check_tables.proofs.Globals.{array_faults, unset_faults}
use Rattle.check_tables.specs.Globals.{faults_by}
use Rattle.source_typing.specs.Verdicts as rules
use Rattle.check_tables.proofs.constant.initial_fault.Goals as goal

pub returns-in_ok-fault-in-Constant : goal.returns-in_ok-fault-in-Constant
returns-in_ok-fault-in-Constant c lenient g i v e =
    let env = at_item lenient g i in
    let tree = constant_tree c.in-Constant.constant in
    let given = constant tree in
    let conversion = converted_to env given v in
    ap faults_of c.sooner.ensures ∙ found_sooner c.in_ok-fault-in-Constant.fault c.string_fault.result
    ∙ ap (λ o. first_of o (faults_of c.string_fault.result)) (c.in_ok-fault-in-Constant.ensures lenient g i given v c.in_ok-value-in-Constant.ensures e)
    ∙ ap (first_of (earliest (set_faults env given v))) (c.string_fault.ensures given v c.in_ok-value-in-Constant.ensures e)
    ∙ sym (earliest_of_both (set_faults env given v) (string_faults given tree v))
    ∙ ap (λ fs. earliest (fs ++ string_faults given tree v)) (append_assoc (rules.faults_of v) (rules.faults_of given) conversion)
    ∙ ap earliest (append_assoc (rules.faults_of v) (rules.faults_of given ++ conversion) (string_faults given tree v))
    ∙ ap (λ b. earliest (faults_by env (initial_tree b) v)) (sym c.in-Constant.is)

pub returns-in-None : goal.returns-in-None
returns-in-None c lenient g i v e =
    ap faults_of c.fault.ensures ∙ fault_is static_type c.args.to.now v e
    ∙ ap (λ fs. earliest fs) (unset_faults (at_item lenient g i) (initial_tree c.args.initial.now) v (ap initial_tree c.in-None.is))

pub returns-in-Array : goal.returns-in-Array
returns-in-Array c lenient g i v e =
    ap faults_of c.fault-in-Array.ensures ∙ fault_is static_type c.args.to.now v e
    ∙ ap (λ fs. earliest fs) (array_faults (at_item lenient g i) (initial_tree c.args.initial.now) v c.in-Array.field-0 (ap initial_tree c.in-Array.is))
