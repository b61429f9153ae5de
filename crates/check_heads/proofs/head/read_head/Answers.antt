use Rattle.std.proofs.Common.{ap, map, refl, subst, sym, ◌∙◌}
use Rattle.cyc_tree.specs.View.{bound_tree, function_tree}
use Rattle.check_regions.specs.Fields.{pair_of}
use Rattle.source_typing.specs.Functions.{bounds_of, result_type}
use Rattle.check_faults.specs.Faults.{faults_of}
use Rattle.check_faults.specs.Verdicts.{shortened}
use Rattle.check_heads.proofs.Heads.{head_is}
use Rattle.check_heads.specs.Bodies.{types_of}
use Rattle.check_heads.specs.Reading.{AreParameters}
use Rattle.check_heads.specs.Used.{IsUsed, keys_of}
use Rattle.check_heads.proofs.head.read_head.Goals as goal

pub returns : goal.returns
returns c g tags =
    let lenient = c.args.lenient in
    let f = function_tree c.args.function.now in
    let bounds = subst (λ ns. IsUsed pair_of (bounds_of ns f.bounds) c.in_ok-bounds.bounds) c.names-names.ensures
    (subst (λ bs. IsUsed pair_of (bounds_of c.names-names.result.now (map bound_tree bs)) c.in_ok-bounds.bounds) c.deref.ensures
    c.in_ok-bounds.ensures) in
    let ps = c.in_ok-parameters.parameters.items.items in
    head_is lenient g f _ c.in_ok-effect.effect c.in_ok-bounds.bounds (keys_of (types_of ps)) refl (c.in_ok-parameters.ensures g tags)
    (c.in_ok-result.ensures g (c.tag_of_type-tag.ensures g tags) ∙ ap (λ ns. shortened (result_type g ns f.result)) c.names-names.ensures)
    c.in_ok-effect.ensures refl bounds refl
    (λ v ms vs us e h used. c.in_ok-fault.ensures v ms vs us e (subst (λ ps. AreParameters ps ms vs) (sym c.deref-2.ensures.value) h)
    (ap faults_of c.sooner-used.ensures ∙ used))
