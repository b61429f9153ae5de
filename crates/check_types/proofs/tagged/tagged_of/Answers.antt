use Rattle.std.proofs.Common.{ap, ◌∙◌}
use Rattle.std.specs.Prelude.{Some, option_map}
use Rattle.cyc_tree.specs.View.{name_tree, type_tree}
use Rattle.check_faults.proofs.Earliest.{found_sooner}
use Rattle.check_faults.proofs.Shortened.{wrong_same}
use Rattle.check_faults.specs.Faults.{fault_of, faults_of, first_of}
use Rattle.check_faults.specs.Verdicts.{short_of, short_wrong, shortened}
use Rattle.check_types.proofs.Counting.{region_right, tagged_wrong}
use Rattle.check_types.specs.Tagged.{is_union_base, named_as}
use Rattle.check_types.specs.Written.{partial_type}
use Rattle.check_types.proofs.tagged.tagged_of.Goals as goal

pub returns-in-None : goal.returns-in-None
returns-in-None c y base read =
    c.counted.ensures
    ∙ region_right (type_tree c.args.of.now) (name_tree c.args.name.now) c.args.tag c.in-Of.count y c.args.arguments.items
    (option_map (λ ls. ls.items) c.args.layers) c.args.fault base read
    (c.in-Of.ensures ∙ ap (λ u. shortened (named_as u c.args.tag c.args.name.now.at)) c.is_union.ensures) c.in-None.is

pub returns-in-Wrong : goal.returns-in-Wrong
returns-in-Wrong c y base read =
    let t = type_tree c.args.of.now in
    let own = c.in-Wrong.own in
    ap (short_of partial_type) c.wrong_if.ensures
    ∙ wrong_same partial_type c.sooner.result
    ∙ ap (λ o. short_wrong (faults_of o)) c.sooner.ensures
    ∙ ap (λ o. short_wrong o) (found_sooner (Some own) c.args.fault)
    ∙ ap (λ o. short_wrong (first_of (Some (fault_of own)) o)) read.fault
    ∙ tagged_wrong t c.args.name.now.at y.0 y.1 (is_union_base t.base) c.args.tag (fault_of own)
    (c.in-Wrong.ensures ∙ ap (λ u. shortened (named_as u c.args.tag c.args.name.now.at)) c.is_union.ensures)
