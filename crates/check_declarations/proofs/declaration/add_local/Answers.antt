use Rattle.std.proofs.Common.{◌≡◌, ◌∷◌, ap, false, refl, subst, sym, true, ◌∙◌}
use Rattle.std.specs.Prelude.{Some}
use Rattle.cyc_tree.specs.View.{name_tree}
use Rattle.check_scopes.proofs.Matching.{first_matches, second_matches}
use Rattle.check_scopes.specs.Locals.{is_after, known}
use Rattle.check_scopes.specs.Matching.{AreLocals}
use Rattle.source_typing.specs.Faults.{fault, name_rule}
use Rattle.source_typing.specs.Scope.{is_second, with_local}
use Rattle.check_faults.specs.Faults.{faults_of, first_of}
use Rattle.check_faults.specs.declared.fault.Fault.{Fault}
use Rattle.check_faults.specs.declared.fault.FaultKind.TheVariants as kind
use Rattle.check_faults.proofs.Earliest.{found_sooner}
use Rattle.check_declarations.specs.Contexts.{StandsIn}
use Rattle.check_declarations.proofs.Declaring.{alone, first_stands, second_stands, twice}
use Rattle.check_declarations.proofs.declaration.add_local.Goals as goal

pub returns-then-is_second-clause-fault : goal.returns-then-is_second-clause-fault
returns-then-is_second-clause-fault c g fs w block matches =
    let s = c.args.scope.now in
    let n = name_tree c.args.name.now in
    let e : is_second g.locals g.block n.text ≡ true =
    sym (block.second n.text) ∙ ap (is_after s.locals c.args.outer) (sym c.deref.ensures.value) ∙ sym c.is_second.ensures ∙ c.if-is_second.true in
    let again : Fault = record { kind = kind.Name; at = n.at } in
    ap faults_of c.sooner.ensures ∙ found_sooner c.args.local.fault (Some again)
    ∙ ap (λ o. first_of o (Some (fault name_rule n.at))) matches.fault ∙ twice g n fs e

pub returns-then-is_second-clause-stands : goal.returns-then-is_second-clause-stands
returns-then-is_second-clause-stands c k names g fs w h matches =
    let s = c.args.scope.now in
    let n = name_tree c.args.name.now in
    let e : is_second g.locals g.block n.text ≡ true =
    sym (h.block.second n.text) ∙ ap (is_after s.locals c.args.outer) (sym c.deref.ensures.value) ∙ sym c.is_second.ensures ∙ c.if-is_second.true in
    second_stands k names c.args.outer s g h n w e

pub returns-clause-fault : goal.returns-clause-fault
returns-clause-fault c g fs w block matches =
    let s = c.args.scope.now in
    let n = name_tree c.args.name.now in
    let e : is_second g.locals g.block n.text ≡ false =
    sym (block.second n.text) ∙ ap (is_after s.locals c.args.outer) (sym c.deref.ensures.value) ∙ sym c.is_second.ensures ∙ c.if-is_second.false in
    matches.fault ∙ alone g n fs e

pub returns-clause-stands : goal.returns-clause-stands
returns-clause-stands c k names g fs w h matches =
    let s = c.args.scope.now in
    let n = name_tree c.args.name.now in
    let e : is_second g.locals g.block n.text ≡ false =
    sym (h.block.second n.text) ∙ ap (is_after s.locals c.args.outer) (sym c.deref.ensures.value) ∙ sym c.is_second.ensures ∙ c.if-is_second.false in
    let what = c.args.local.what in
    let more = c.in_ok-declare.ensures.declared ∙ ap (λ x. known x what ∷ s.locals) c.deref-2.ensures.value in
    subst (λ ls. StandsIn k names c.args.outer (record s { locals = ls }) (with_local n w g)) (sym more)
    (first_stands k names c.args.outer s g h n w what matches.what e)

pub returns-then-is_second-clause-locals : goal.returns-then-is_second-clause-locals
returns-then-is_second-clause-locals c g fs w block matches h =
    let s = c.args.scope.now in
    let n = name_tree c.args.name.now in
    let e : is_second g.locals g.block n.text ≡ true =
    sym (block.second n.text) ∙ ap (is_after s.locals c.args.outer) (sym c.deref.ensures.value) ∙ sym c.is_second.ensures ∙ c.if-is_second.true in
    second_matches s.locals n w g e h

pub returns-clause-locals : goal.returns-clause-locals
returns-clause-locals c g fs w block matches h =
    let s = c.args.scope.now in
    let n = name_tree c.args.name.now in
    let e : is_second g.locals g.block n.text ≡ false =
    sym (block.second n.text) ∙ ap (is_after s.locals c.args.outer) (sym c.deref.ensures.value) ∙ sym c.is_second.ensures ∙ c.if-is_second.false in
    let what = c.args.local.what in
    let more = c.in_ok-declare.ensures.declared ∙ ap (λ x. known x what ∷ s.locals) c.deref-2.ensures.value in
    subst (λ ls. AreLocals ls (with_local n w g).locals) (sym more) (first_matches s.locals n.text n w what g refl matches.what e h)
