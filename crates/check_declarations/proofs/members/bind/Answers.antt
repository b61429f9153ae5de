use Rattle.std.proofs.Common.{◌≡◌, ◌∷◌, ap, arith, false, length, refl, subst, sym, ◌∙◌}
use Rattle.std.specs.Prelude.{option_map}
use Rattle.cyc_tree.specs.View.{name_tree, pattern_tree}
use Rattle.check_scopes.proofs.Linking.{none_after}
use Rattle.check_scopes.proofs.Matching.{first_matches}
use Rattle.check_scopes.specs.Locals.{known}
use Rattle.check_scopes.specs.Matching.{AreLocals}
use Rattle.check_scopes.specs.Means.{WhatIs}
use Rattle.source_typing.specs.Scope.{block_entered, is_second, next_region, with_local}
use Rattle.source_typing.specs.Statements.{bound_what, clause_scope, parts_of_chosen}
use Rattle.source_typing.specs.Tables.{part_in}
use Rattle.check_declarations.specs.Contexts.{StandsIn}
use Rattle.check_declarations.specs.Switching.{switched_in}
use Rattle.check_declarations.proofs.Declaring.{first_stands}
use Rattle.check_declarations.proofs.members.bind.Goals as goal

pub returns-in_ok-declare-in-Case-clause-stands : goal.returns-in_ok-declare-in-Case-clause-stands
returns-in_ok-declare-in-Case-clause-stands c = λ context ns g h frame has.
    let s = c.args.scope.now in
    let x = name_tree c.in-Case.name in
    let f = name_tree c.in-Case.field in
    let u = option_map switched_in c.args.union.now in
    let part = part_in (parts_of_chosen g u) f.text in
    let what = c.in_ok-what-in-Case.what in
    let outer = length s.locals in
    let is = subst (λ r. WhatIs (bound_what r u part) what) frame (c.in_ok-what-in-Case.ensures g has) in
    let e : is_second (block_entered g).locals (block_entered g).block x.text ≡ false =
    sym (h.block.second x.text) ∙ none_after s.locals outer x.text (grind arith) in
    let more = c.in_ok-declare-in-Case.ensures.declared ∙ ap (λ y. known y what ∷ s.locals) c.deref.ensures.value in
    subst (λ p. StandsIn context ns outer (record s { locals = c.declare.new.self }) (clause_scope g u (pattern_tree p))) (sym c.in-Case.is)
    (subst (λ ls. StandsIn context ns outer (record s { locals = ls }) (with_local x (bound_what (next_region g) u part) (block_entered g))) (sym more)
    (first_stands context ns outer s (block_entered g) h x (bound_what (next_region g) u part) what is e))

pub returns-in_ok-declare-in-Case-clause-locals : goal.returns-in_ok-declare-in-Case-clause-locals
returns-in_ok-declare-in-Case-clause-locals c = λ context ns g h frame has same.
    let s = c.args.scope.now in
    let x = name_tree c.in-Case.name in
    let f = name_tree c.in-Case.field in
    let u = option_map switched_in c.args.union.now in
    let part = part_in (parts_of_chosen g u) f.text in
    let what = c.in_ok-what-in-Case.what in
    let outer = length s.locals in
    let is = subst (λ r. WhatIs (bound_what r u part) what) frame (c.in_ok-what-in-Case.ensures g has) in
    let e : is_second (block_entered g).locals (block_entered g).block x.text ≡ false =
    sym (h.block.second x.text) ∙ none_after s.locals outer x.text (grind arith) in
    let more = c.in_ok-declare-in-Case.ensures.declared ∙ ap (λ y. known y what ∷ s.locals) c.deref.ensures.value in
    subst (λ p. AreLocals c.declare.new.self (clause_scope g u (pattern_tree p)).locals) (sym c.in-Case.is)
    (subst (λ ls. AreLocals ls (with_local x (bound_what (next_region g) u part) (block_entered g)).locals) (sym more)
    (first_matches s.locals x.text x (bound_what (next_region g) u part) what (block_entered g) refl is e same))
