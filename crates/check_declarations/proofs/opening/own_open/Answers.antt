use Rattle.std.proofs.Common.{[], ap, refl, subst, sym, ◌∙◌}
use Rattle.cyc_tree.specs.View.{name_tree, region_tree}
use Rattle.cyc_types.specs.Regions.{region_of}
use Rattle.source_typing.specs.Declarations.{opened_region}
use Rattle.source_typing.specs.Tables.{Stored}
use Rattle.source_typing.specs.Types.{Handle}
use Rattle.source_typing.specs.Verdicts as verdict
use Rattle.check_faults.specs.Verdicts.{fault_in, short_of}
use Rattle.check_declarations.specs.Contexts.{StandsIn}
use Rattle.check_declarations.specs.Declaring.{Matches, opened_scope, opened_what}
use Rattle.check_heads.proofs.Answered.{earliest_in, of_short}
use Rattle.check_declarations.proofs.Declaring.{unjudged_scope, unjudged_opened, wrong_opened, wrong_scope}
use Rattle.check_declarations.proofs.RegionScopes.{opened_below, opened_stands}
use Rattle.check_declarations.proofs.opening.own_open.Goals as goal

pub returns-in_ok-open-in-Of-clause-judged : goal.returns-in_ok-open-in-Of-clause-judged
returns-in_ok-open-in-Of-clause-judged c = λ g at x known suits.
    let r = region_tree c.args.region.now in
    let k = name_tree c.args.key.now in
    let v = opened_region g r k in
    let q = region_of c.in-Of.opened in
    let d = c.plain_local.result in
    let is = of_short v q (ap (short_of region_of) (sym c.in-Of.is) ∙ c.in_ok-opened.ensures g known suits.names) in
    subst (λ w. Matches (verdict.faults_of w) (opened_what g.frame w) d) (sym is)
    (subst (λ a. Matches [] (Stored (Handle q) a) d) suits.frame (c.plain_local.ensures [] refl))

pub returns-in_ok-open-in-Of-clause-stands : goal.returns-in_ok-open-in-Of-clause-stands
returns-in_ok-open-in-Of-clause-stands c = λ g at x outer h.
    let s = c.args.scope.now in
    let r = region_tree c.args.region.now in
    let k = name_tree c.args.key.now in
    let v = opened_region g r k in
    let q = region_of c.in-Of.opened in
    let names = c.args.names.now in
    let rs = c.open.new.self in
    let is = of_short v q (ap (short_of region_of) (sym c.in-Of.is) ∙ c.in_ok-opened.ensures g h.known h.suits.names) in
    subst (StandsIn c.args.context names outer (record s { regions = rs })) (ap (opened_scope g) (sym is))
    (opened_stands c.args.context names names outer s g rs h q
    (c.in_ok-open-in-Of.ensures.by_the_rules g.regions h.known.regions (opened_below g r k q h.suits.below is)))

pub returns-in-Wrong-clause-judged : goal.returns-in-Wrong-clause-judged
returns-in-Wrong-clause-judged c = λ g at x known suits.
    let r = region_tree c.args.region.now in
    let k = name_tree c.args.key.now in
    let v = opened_region g r k in
    let d = c.faulty_local.result in
    let e = ap (short_of region_of) (sym c.in-Wrong.is) ∙ c.in_ok-opened.ensures g known suits.names in
    subst (λ w. Matches (verdict.faults_of v) w d) (sym (wrong_opened g.frame v _ e))
    (c.faulty_local.ensures (verdict.faults_of v) (ap fault_in e ∙ earliest_in v))

pub returns-in-Wrong-clause-stands : goal.returns-in-Wrong-clause-stands
returns-in-Wrong-clause-stands c = λ g at x outer h.
    let s = c.args.scope.now in
    let r = region_tree c.args.region.now in
    let k = name_tree c.args.key.now in
    let v = opened_region g r k in
    let e = ap (short_of region_of) (sym c.in-Wrong.is) ∙ c.in_ok-opened.ensures g h.known h.suits.names in
    subst (StandsIn c.args.context c.args.names.now outer s) (wrong_scope g v _ e) h

pub returns-in-NotJudged-clause-judged : goal.returns-in-NotJudged-clause-judged
returns-in-NotJudged-clause-judged c = λ g at x known suits.
    let r = region_tree c.args.region.now in
    let k = name_tree c.args.key.now in
    let v = opened_region g r k in
    let d = c.untyped_local.result in
    let e = ap (short_of region_of) (sym c.in-NotJudged.is) ∙ c.in_ok-opened.ensures g known suits.names in
    subst (λ w. Matches (verdict.faults_of v) w d) (sym (unjudged_opened g.frame v e))
    (c.untyped_local.ensures (verdict.faults_of v) (ap fault_in e ∙ earliest_in v))

pub returns-in-NotJudged-clause-stands : goal.returns-in-NotJudged-clause-stands
returns-in-NotJudged-clause-stands c = λ g at x outer h.
    let s = c.args.scope.now in
    let r = region_tree c.args.region.now in
    let k = name_tree c.args.key.now in
    let v = opened_region g r k in
    let e = ap (short_of region_of) (sym c.in-NotJudged.is) ∙ c.in_ok-opened.ensures g h.known h.suits.names in
    subst (StandsIn c.args.context c.args.names.now outer s) (unjudged_scope g v e) h
