use Rattle.std.proofs.Common.{false, refl, subst}
use Rattle.cyc_tree.specs.View.{region_tree}
use Rattle.cyc_types.specs.Regions.{region_of}
use Rattle.source_typing.specs.Declarations.{region_declared}
use Rattle.source_typing.specs.Regions.{with_name}
use Rattle.source_typing.specs.Scope.{next_region}
use Rattle.source_typing.specs.Tables.{Stored}
use Rattle.source_typing.specs.Types.{Key}
use Rattle.check_declarations.specs.Declaring.{Matches}
use Rattle.check_declarations.proofs.RegionScopes.{begun_stands}
use Rattle.check_declarations.proofs.regions.own_key.Goals as goal

pub returns-clause-judged : goal.returns-clause-judged
returns-clause-judged c = λ g at x known suits.
    let r = region_tree c.args.region.now in
    let fs = region_declared g r in
    let d = c.plain_local.result in
    subst (λ a. Matches fs (Stored (Key (next_region g)) a) d) suits.frame
    (subst (λ q. Matches fs (Stored (Key q) (region_of c.args.context.frame)) d) (c.in_ok-next.ensures.next g known)
    (c.plain_local.ensures fs (c.in_ok-next.ensures.fault g suits.names)))

pub returns-clause-stands : goal.returns-clause-stands
returns-clause-stands c = λ g at x outer h.
    let s = c.args.scope.now in
    let r = region_tree c.args.region.now in
    let names = c.next_named.new.names in
    let rs = c.begin_name.new.self in
    begun_stands c.args.context c.args.names.now names outer s g rs h r (with_name false) (c.in_ok-begin_name.ensures.by_the_rules g.regions
    h.known.regions) refl
    (c.in_ok-next.ensures.named g (with_name false) h.known h.suits.names)
