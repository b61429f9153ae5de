use Rattle.std.proofs.Common.{◌∷◌, ap, refl, subst, sym, ◌∙◌}
use Rattle.source_typing.specs.Functions.{what_of_known}
use Rattle.check_scopes.proofs.Matching.{first_matches, second_matches}
use Rattle.check_scopes.specs.Locals.{is_after, known}
use Rattle.check_scopes.specs.Matching.{AreLocals}
use Rattle.check_scopes.specs.Means.{WhatIs}
use Rattle.source_typing.specs.Scope.{with_local}
use Rattle.check_declarations.specs.Contexts.{StandsIn}
use Rattle.check_heads.specs.Heads.{known_static}
use Rattle.check_declarations.proofs.Parameters.{is_added}
use Rattle.check_declarations.proofs.parameter.declare_parameter.Goals as goal

pub returns-clause-stands : goal.returns-clause-stands
returns-clause-stands c ns g x e h =
    let s = c.args.scope.now in
    let d = c.args.context in
    let k = known_static c.args.parameter.now.of in
    let what = c.in_ok-what.what in
    subst (λ ls. StandsIn d ns 0 (record s { locals = ls }) (with_local x (what_of_known g.frame k) g))
    (sym (c.in_ok-declare.ensures.declared ∙ ap (λ y. known y what ∷ s.locals) (sym e)))
    (is_added d ns s g h x (what_of_known g.frame k) what (subst (λ r. WhatIs (what_of_known r k) what) h.suits.frame c.in_ok-what.ensures)
    (sym (h.block.second x.text) ∙ ap (is_after s.locals 0) e ∙ sym c.is_second.ensures ∙ c.if-is_second.false))

pub returns-then-is_second-clause-locals : goal.returns-then-is_second-clause-locals
returns-then-is_second-clause-locals c ns g x e h same =
    let s = c.args.scope.now in
    second_matches s.locals x (what_of_known g.frame (known_static c.args.parameter.now.of)) g
    (sym (h.block.second x.text) ∙ ap (is_after s.locals 0) e ∙ sym c.is_second.ensures ∙ c.if-is_second.true) same

pub returns-clause-locals : goal.returns-clause-locals
returns-clause-locals c ns g x e h same =
    let s = c.args.scope.now in
    let k = known_static c.args.parameter.now.of in
    let what = c.in_ok-what.what in
    subst (λ ls. AreLocals ls (with_local x (what_of_known g.frame k) g).locals)
    (sym (c.in_ok-declare.ensures.declared ∙ ap (λ y. known y what ∷ s.locals) (sym e)))
    (first_matches s.locals x.text x (what_of_known g.frame k) what g refl (subst (λ r. WhatIs (what_of_known r k) what) h.suits.frame c.in_ok-what.ensures)
    (sym (h.block.second x.text) ∙ ap (is_after s.locals 0) e ∙ sym c.is_second.ensures ∙ c.if-is_second.false) same)
