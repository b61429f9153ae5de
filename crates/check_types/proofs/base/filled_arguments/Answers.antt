use Rattle.std.proofs.Common.{◌+◌, ◌++◌, ap, drop, get_or, ◌∙◌}
use Rattle.std.specs.Prelude.{None, option_map, slice_get}
use Rattle.std.proofs.lemmas.List.{drop_more}
use Rattle.cyc_types.specs.Regions.{region_of, regions_of}
use Rattle.source_typing.specs.Missing.{filled_arguments}
use Rattle.check_types.specs.Settling.{argument_from}
use Rattle.check_types.specs.Written.{partial_regions}
use Rattle.check_types.proofs.MissingRegions.{argument_filled}
use Rattle.check_types.proofs.base.filled_arguments.Goals as goal

pub each-preserved : goal.each-preserved
each-preserved c =
    let rs = c.args.arguments.now in
    let others = c.args.others.now in
    let i = c.each.argument-index in
    let x = get_or rs i None in
    record {
      place = ap (λ n. n + 1) c.each.invariant.place;
      filled = ap (λ qs. regions_of qs ++ filled_arguments (partial_regions (drop (i + 1) rs)) (drop (i + 1) (regions_of others))) c.in_ok-push.ensures.ok
          ∙ argument_filled rs i x others c.each.filled.items c.argument_from.result (drop_more rs i None c.each-test.true)
          (c.argument_from.ensures ∙ ap (λ k. argument_from (option_map region_of x) (option_map region_of (slice_get others k))) c.each.invariant.place)
          ∙ c.each.invariant.filled;
    }
