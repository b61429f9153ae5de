use Rattle.std.proofs.Common.{IfOk, OnOk, ap, subst, sym}
use Rattle.cyc_tree.specs.Tree as tree
use Rattle.cyc_tree.specs.View.{declaration_tree, name_tree}
use Rattle.check_declarations.specs.Contexts.{StandsIn}
use Rattle.check_declarations.specs.Declaring.{Matches, own_faults, own_scope, own_what}
use Rattle.check_declarations.proofs.declaration.declared_own.Goals as goal

pub returns-in-Local-clause-judged : goal.returns-in-Local-clause-judged
returns-in-Local-clause-judged c g known suits =
    let x = c.in-Local in
    subst (λ (d : tree.Declaration). IfOk c.local.result (Matches (own_faults g d) (own_what g d))) (sym (ap declaration_tree x.is))
    (c.local.ensures g (name_tree x.field-1) known suits)

pub returns-in-Region-clause-judged : goal.returns-in-Region-clause-judged
returns-in-Region-clause-judged c g known suits =
    let x = c.in-Region in
    subst (λ (d : tree.Declaration). IfOk c.own_region.result (Matches (own_faults g d) (own_what g d))) (sym (ap declaration_tree x.is))
    (c.own_region.ensures.judged g x.field-0 (name_tree x.field-2) known suits)

pub returns-in-Region-clause-stands : goal.returns-in-Region-clause-stands
returns-in-Region-clause-stands c g outer h =
    let x = c.in-Region in
    subst (λ (d : tree.Declaration). OnOk c.own_region.result (StandsIn c.args.context c.own_region.new.names outer c.own_region.new.scope (own_scope g d)))
    (sym (ap declaration_tree x.is)) (c.own_region.ensures.stands g x.field-0 (name_tree x.field-2) outer h)

pub returns-in-Open-clause-judged : goal.returns-in-Open-clause-judged
returns-in-Open-clause-judged c g known suits =
    let x = c.in-Open in
    subst (λ (d : tree.Declaration). IfOk c.own_open.result (Matches (own_faults g d) (own_what g d))) (sym (ap declaration_tree x.is))
    (c.own_open.ensures.judged g x.field-0 (name_tree x.field-2) known suits)

pub returns-in-Open-clause-stands : goal.returns-in-Open-clause-stands
returns-in-Open-clause-stands c g outer h =
    let x = c.in-Open in
    subst (λ (d : tree.Declaration). OnOk c.own_open.result (StandsIn c.args.context c.args.names.now outer c.own_open.new.scope (own_scope g d)))
    (sym (ap declaration_tree x.is)) (c.own_open.ensures.stands g x.field-0 (name_tree x.field-2) outer h)

pub returns-in-Alias-clause-judged : goal.returns-in-Alias-clause-judged
returns-in-Alias-clause-judged c g known suits =
    let x = c.in-Alias in
    subst (λ (d : tree.Declaration). IfOk c.own_alias.result (Matches (own_faults g d) (own_what g d))) (sym (ap declaration_tree x.is))
    (c.own_alias.ensures.judged g x.field-0 (name_tree x.field-3) known suits)

pub returns-in-Alias-clause-stands : goal.returns-in-Alias-clause-stands
returns-in-Alias-clause-stands c g outer h =
    let x = c.in-Alias in
    subst (λ (d : tree.Declaration). OnOk c.own_alias.result (StandsIn c.args.context c.own_alias.new.names outer c.own_alias.new.scope (own_scope g d)))
    (sym (ap declaration_tree x.is)) (c.own_alias.ensures.stands g x.field-0 (name_tree x.field-3) outer h)

pub returns-in-NewKey-clause-judged : goal.returns-in-NewKey-clause-judged
returns-in-NewKey-clause-judged c g known suits =
    let x = c.in-NewKey in
    subst (λ (d : tree.Declaration). IfOk c.own_key.result (Matches (own_faults g d) (own_what g d))) (sym (ap declaration_tree x.is))
    (c.own_key.ensures.judged g x.field-0 (name_tree x.field-2) known suits)

pub returns-in-NewKey-clause-stands : goal.returns-in-NewKey-clause-stands
returns-in-NewKey-clause-stands c g outer h =
    let x = c.in-NewKey in
    subst (λ (d : tree.Declaration). OnOk c.own_key.result (StandsIn c.args.context c.own_key.new.names outer c.own_key.new.scope (own_scope g d)))
    (sym (ap declaration_tree x.is)) (c.own_key.ensures.stands g x.field-0 (name_tree x.field-2) outer h)
