use Rattle.std.proofs.Common.{◌≡◌, ◌∙◌, ⊎_elim, IfOk, ap, false, subst, sym}
use Rattle.std.specs.Prelude.{option_map, ◌||◌}
use Rattle.cyc_tree.specs.Tree.{Statement}
use Rattle.cyc_tree.specs.View.{expression_tree, statement_tree}
use Rattle.cyc_tree.proofs.StatementForms.{block_tree, break_tree, exchange_tree, free_key_tree, free_unique_tree, if_else_tree, if_tree}
use Rattle.cyc_tree.proofs.StatementForms.{return_tree, switch_tree, while_tree}
use Rattle.source_typing.specs.Expressions.{judge}
use Rattle.source_typing.specs.Faults.{earliest, test, type_rule}
use Rattle.source_typing.specs.Statements.{returned, statement_faults}
use Rattle.check_faults.specs.Faults.{faults_of}
use Rattle.check_statements.specs.Plain.{is_plain}
use Rattle.check_statements.proofs.Blocks.{return_faults}
use Rattle.check_statements.proofs.statement.plain_fault.Goals as goal

pub returns-in-Exchange : goal.returns-in-Exchange
returns-in-Exchange c g ns reached h suits plain =
    let x = c.in-Exchange in
    subst (λ s. IfOk c.exchange_fault.result (λ f. faults_of f ≡ earliest (statement_faults g reached s)))
    (sym (ap statement_tree x.is ∙ exchange_tree x.left x.right))
    (subst (λ l. IfOk c.exchange_fault.result (λ f. faults_of f
    ≡ earliest (statement_faults g reached (Statement.Exchange (expression_tree l) (expression_tree x.right.value)))))
    c.deref.ensures
    (subst (λ r. IfOk c.exchange_fault.result (λ f. faults_of f
    ≡ earliest (statement_faults g reached (Statement.Exchange (expression_tree c.deref.result.now) (expression_tree r)))))
    c.deref-in-Exchange.ensures (c.exchange_fault.ensures g h)))

pub returns-in-Break : goal.returns-in-Break
returns-in-Break c g ns reached h suits plain =
    let x = c.in-Break in
    c.unless.ensures
    ∙ ap (λ b. earliest (test b type_rule x.at))
    (c.can_break.ensures ∙ ap (λ b. b || c.args.context.in_switch) suits.in_loop ∙ ap (λ b. g.in_loop || b) suits.in_switch)
    ∙ ap (λ s. earliest (statement_faults g reached s)) (sym (ap statement_tree x.is ∙ break_tree x.at))

pub returns-in-FreeUnique : goal.returns-in-FreeUnique
returns-in-FreeUnique c g ns reached h suits plain =
    let x = c.in-FreeUnique in
    subst (λ s. IfOk c.operand_fault.result (λ f. faults_of f ≡ earliest (statement_faults g reached s)))
    (sym (ap statement_tree x.is ∙ free_unique_tree x.field-0 x.pointer)) (c.operand_fault.ensures g h)

pub returns-in-FreeKey : goal.returns-in-FreeKey
returns-in-FreeKey c g ns reached h suits plain =
    let x = c.in-FreeKey in
    subst (λ s. IfOk c.operand_fault-in-FreeKey.result (λ f. faults_of f ≡ earliest (statement_faults g reached s)))
    (sym (ap statement_tree x.is ∙ free_key_tree x.field-0 x.key)) (c.operand_fault-in-FreeKey.ensures g h)

pub returns-in-Return : goal.returns-in-Return
returns-in-Return c g ns reached h suits plain =
    let r = c.in-Return in
    subst (λ fs. IfOk c.return_fault.result (λ f. faults_of f ≡ earliest fs))
    (ap (λ o. returned g r.at o (option_map (λ e. judge g (expression_tree e)) r.value)) suits.result
    ∙ sym (return_faults g reached r.at r.value)
    ∙ ap (λ s. statement_faults g reached s) (sym (ap statement_tree r.is ∙ return_tree r.at r.value)))
    (c.return_fault.ensures g h)

pub returns-in-Block : goal.returns-in-Block
returns-in-Block c g ns reached h suits plain =
    let other : is_plain (statement_tree c.args.statement.now) ≡ false =
    ⊎_elim
    (λ w. ap is_plain (ap statement_tree w.2 ∙ block_tree w.0 w.1))
    (λ r1. ⊎_elim
    (λ w. ap is_plain (ap statement_tree w.3 ∙ if_tree w.0 w.1 w.2))
    (λ r2. ⊎_elim
    (λ w. ap is_plain (ap statement_tree w.4 ∙ if_else_tree w.0 w.1 w.2 w.3))
    (λ r3. ⊎_elim
    (λ w. ap is_plain (ap statement_tree w.3 ∙ while_tree w.0 w.1 w.2))
    (λ w. ap is_plain (ap statement_tree w.3 ∙ switch_tree w.0 w.1 w.2))
    r3)
    r2)
    r1)
    c.in-Block.is in
    absurd cc
