use Rattle.std.proofs.Common.{ap, subst, sym, ◌∙◌}
use Rattle.cyc_tree.specs.View.{declaration_tree, name_tree}
use Rattle.flow_summaries.specs.Statements.{exits_within}
use Rattle.source_typing.specs.Declarations.{declare}
use Rattle.flow_effects.specs.Passed.{added_of}
use Rattle.flow_effects.specs.Steps.{lent_if, passed_if}
use Rattle.flow_check.specs.Declarations.{Adds, loan_before}
use Rattle.flow_check.proofs.Adding.{adds_declared, declared_exits, entered_within}
use Rattle.flow_check.proofs.Located.{same_count}
use Rattle.flow_check.proofs.declared.declared.Goals as goal

pub returns-clause-before : goal.returns-clause-before
returns-clause-before c g rest h =
    let s = c.args.scope.now in
    let d = declaration_tree c.args.declaration.now in
    let inside = (declare g d).scope in
    let known = c.in_ok-declare.ensures.known g h.stands in
    let locals = c.in_ok-declare.ensures.locals g h.stands h.locals in
    let x = name_tree c.local.result.now in
    let adds = adds_declared g d x c.local.ensures in
    let around = c.len-around.ensures ∙ sym (same_count s.locals g.locals h.locals) in
    let named = subst (λ y. Adds y g.locals inside.locals) (sym c.deref.ensures.value) adds in
    let begins = c.begun-begun.ensures g inside around named known.known locals in
    let w = exits_within g inside rest in
    ap (λ v. passed_if c.in_ok-initial.initial (lent_if c.loan-loan.result v))
    (entered_within g inside x.text c.len-around.result (added_of c.begun-begun.result) rest adds around begins)
    ∙ ap (passed_if c.in_ok-initial.initial) (c.loan-loan.ensures g w h.locals)
    ∙ c.in_ok-initial.ensures g (loan_before g d w) h.stands.known h.locals
    ∙ declared_exits g inside d rest

pub returns-clause-known : goal.returns-clause-known
returns-clause-known c g h = record {
  stands = c.in_ok-declare.ensures.known g h.stands;
  locals = c.in_ok-declare.ensures.locals g h.stands h.locals;
}
