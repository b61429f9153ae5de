use Rattle.std.proofs.Common.{◌≡◌, ◌∙◌, arith, subst, sym, true}
use Rattle.cyc_types.specs.Regions.{region_of}
use Rattle.source_typing.proofs.Converting.{id_is}
use Rattle.source_typing.specs.Regions.{Region, reaches}
use Rattle.check_regions.proofs.Leading.{itself_leads, joined}
use Rattle.check_regions.proofs.ways.leads.Goals as goal

pub returns-then-is_same : goal.returns-then-is_same
returns-then-is_same c = λ bs h e.
    let at : Region = region_of c.steps.at in
    let same : at ≡ region_of c.args.other = id_is at (region_of c.args.other) (sym c.is_same.ensures ∙ c.if-is_same.true) in
    c.steps.invariant bs h (region_of c.args.other)
    (subst (λ q. reaches c.steps.left bs at q ≡ true) same (itself_leads bs c.steps.left at))

pub steps-preserved : goal.steps-preserved
steps-preserved c = λ bs h r e.
    c.steps.invariant bs h r
    (subst (λ n. reaches n bs (region_of c.steps.at) r ≡ true) (omega arith)
    (joined bs _ _ (region_of c.steps.at) _ r (c.step-next.ensures bs h) e))
