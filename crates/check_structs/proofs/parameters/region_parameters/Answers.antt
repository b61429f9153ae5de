use Rattle.std.proofs.Common.{[], ◌+◌, ◌∷◌, ◌∙◌, ap, arith, drop, map, refl, subst, sym}
use Rattle.std.proofs.lemmas.List.{drop_all, drop_more}
use Rattle.cyc_tree.specs.View.{region_tree}
use Rattle.check_faults.proofs.Earliest.{first_none}
use Rattle.source_typing.specs.Written.{find_region}
use Rattle.check_faults.specs.Faults.{faults_of}
use Rattle.check_structs.specs.Parameters.{ParametersLeft}
use Rattle.check_structs.proofs.parameters.region_parameters.Goals as goal

pub each-init : goal.each-init
each-init c = record { before = []; are = λ x. ap (λ ns. find_region ns x) c.new.ensures; count = omega arith; names = refl; fault = refl }

pub each-preserved : goal.each-preserved
each-preserved c =
    let all = c.args.regions.now in
    let k = c.each.region-index in
    c.in_ok-add.ensures (map region_tree all) (map region_tree (drop (k + 1) all))
    (subst (λ r. ParametersLeft (map region_tree all) c.each.parameters (map region_tree r))
    (drop_more all k c.region-item.result c.each-test.true ∙ ap (λ y. y ∷ drop (k + 1) all) (sym c.region-item.is)) c.each.invariant)

pub returns : goal.returns
returns c =
    let all = c.args.regions.now in
    let k = c.each.region-index in
    let left = subst (λ r. ParametersLeft (map region_tree all) c.each.parameters (map region_tree r)) (drop_all k all (omega (arith, c.each-test.false)))
    c.each.invariant
    in
    record {
      names = λ x. left.are x ∙ ap (λ ns. find_region ns x) left.names;
      count = omega (arith, left.count);
      fault = sym (first_none (faults_of c.each.parameters.fault)) ∙ left.fault;
    }
