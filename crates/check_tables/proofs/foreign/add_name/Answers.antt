use Rattle.std.specs.Prelude.{Some, option_map}
use Rattle.std.proofs.Common.{ap, sym, ◌∙◌}
use Rattle.cyc_tree.specs.View.{name_tree, region_tree}
use Rattle.check_tables.proofs.GlobalTypes.{name_added_next, no_name_next}
use Rattle.check_tables.proofs.foreign.add_name.Goals as goal

pub returns-in_ok-add : goal.returns-in_ok-add
returns-in_ok-add c p ss x =
    let n = name_tree c.in-Some.name.now in
    name_added_next c.args.names.now c.add.new.self (Some (region_tree c.args.region.now)) n
    (sym (ap (λ o. option_map (λ n. name_tree n.now) o) c.in-Some.is) ∙ c.region_name.ensures) (c.in_ok-add.ensures.added n (sym c.deref.ensures.value)) p ss x

pub returns-in_default : goal.returns-in_default
returns-in_default c p ss x =
    no_name_next c.args.names.now (Some (region_tree c.args.region.now))
    (sym (ap (λ o. option_map (λ n. name_tree n.now) o) c.in_default.is) ∙ c.region_name.ensures) p ss x
