use Rattle.std.proofs.Common.{◌≡◌, Some, ap, refl, subst, sym, ◌∙◌}
use Rattle.cyc_tree.specs.View.{global_tree}
use Rattle.check_scopes.specs.Means.{Means}
use Rattle.source_typing.specs.Declarations.{what_after, what_of}
use Rattle.source_typing.specs.Globals.{count_of, global_faults, global_type}
use Rattle.source_typing.specs.Regions.{TheHeap}
use Rattle.source_typing.specs.Scope.{at_item}
use Rattle.source_typing.specs.Tables.{OfValue}
use Rattle.check_faults.specs.Faults.{faults_of}
use Rattle.check_tables.proofs.GlobalTypes.{global_sized}
use Rattle.check_tables.proofs.Globals.{global_bytes}
use Rattle.check_tables.specs.Globals.{IsSized}
use Rattle.check_tables.proofs.global.judged_global.Goals as goal

pub returns-clause-fault : goal.returns-clause-fault
returns-clause-fault c lenient g known =
    let x = global_tree c.args.global.now in
    let typed = c.in_ok-of.ensures lenient g x known refl (sym c.count_of-count.ensures) in
    ap faults_of c.by_type.ensures.fault ∙ c.in_ok-fault.ensures lenient g c.args.item (global_type (at_item lenient g c.args.item) x) typed

pub returns-clause-meaning : goal.returns-clause-meaning
returns-clause-meaning c lenient g known =
    let x = global_tree c.args.global.now in
    let env = at_item lenient g c.args.item in
    let many : count_of x.initial ≡ c.count_of-count.result = sym c.count_of-count.ensures in
    let typed = c.in_ok-of.ensures lenient g x known refl many in
    let v = global_type env x in
    subst (λ n. Means (Some (OfValue (what_after (global_faults env x) (what_of TheHeap n v)))) (Some c.by_type.result.meaning)) (sym many)
    (c.by_type.ensures.meaning (global_faults env x) v typed (c.in_ok-fault.ensures lenient g c.args.item v typed))

pub returns-clause-bytes : goal.returns-clause-bytes
returns-clause-bytes c lenient g known =
    let x = global_tree c.args.global.now in
    let env = at_item lenient g c.args.item in
    let count = c.count_of-count.result in
    let many : count_of x.initial ≡ count = sym c.count_of-count.ensures in
    let typed = c.in_ok-of.ensures lenient g x known refl many in
    let v = global_type env x in
    let sized : IsSized g count v = subst (λ n. IsSized g n v) many (λ t is. global_sized env x t is) in
    c.by_type.ensures.bytes (global_faults env x) g v typed (c.in_ok-fault.ensures lenient g c.args.item v typed)
    (c.type_bytes-bytes.ensures g v known typed sized)
    ∙ global_bytes env x count many
