use Rattle.std.proofs.Common.{◌≡◌, ap, map, sym, true, ◌∙◌}
use Rattle.std.specs.List.{list_any}
use Rattle.std.specs.Prelude.{is_none, ◌||◌}
use Rattle.cyc_tree.specs.View.{pointer_tree, region_tree, type_tree}
use Rattle.source_typing.specs.Written.{any_missing, spot}
use Rattle.check_types.proofs.Pointers.{missing_in}
use Rattle.check_types.proofs.TagTypes.{missing_both}
use Rattle.check_types.specs.Arguments.{spots_by, written_arguments}
use Rattle.check_types.specs.Tagged.{regions_named}
use Rattle.check_types.proofs.tagged.misses_in_tagged.Goals as goal

pub returns-then-misses_argument : goal.returns-then-misses_argument
returns-then-misses_argument c =
    let t = type_tree c.args.of.now in
    let rs = written_arguments t.base in
    let n = regions_named c.args.tag in
    let others = map (λ q. spot true q.region) t.pointers in
    let own : c.misses_argument.result ≡ any_missing (spots_by n rs) =
    c.misses_argument.ensures
    ∙ ap (λ k. any_missing (spots_by k (map region_tree c.written_arguments.result.now))) c.regions.ensures
    ∙ ap (λ qs. any_missing (spots_by n qs)) c.written_arguments.ensures in
    c.if-misses_argument.true ∙ ap (λ b. b || any_missing others) (sym c.if-misses_argument.true ∙ own) ∙ missing_both (spots_by n rs) others

pub returns-else-misses_argument : goal.returns-else-misses_argument
returns-else-misses_argument c =
    let t = type_tree c.args.of.now in
    let rs = written_arguments t.base in
    let n = regions_named c.args.tag in
    let others = map (λ q. spot true q.region) t.pointers in
    let own : c.misses_argument.result ≡ any_missing (spots_by n rs) =
    c.misses_argument.ensures
    ∙ ap (λ k. any_missing (spots_by k (map region_tree c.written_arguments.result.now))) c.regions.ensures
    ∙ ap (λ qs. any_missing (spots_by n qs)) c.written_arguments.ensures in
    c.any_misses.ensures ∙ ap (list_any (λ p. is_none (pointer_tree p).region)) c.deref.ensures.value ∙ missing_in c.args.of.now.pointers.items
    ∙ ap (λ b. b || any_missing others) (sym c.if-misses_argument.false ∙ own) ∙ missing_both (spots_by n rs) others
