use Rattle.std.proofs.Common.{ap, sym, ◌∙◌}
use Rattle.cyc_tree.specs.View.{region_tree}
use Rattle.cyc_types.specs.Regions.{region_of}
use Rattle.check_regions.specs.Fields.{pair_of}
use Rattle.source_typing.specs.Functions.{used_region}
use Rattle.source_typing.specs.Functions as rules
use Rattle.check_faults.proofs.Shortened.{as_pair, paired_same, shortened_both}
use Rattle.check_faults.specs.Verdicts.{short_both, short_of, shortened}
use Rattle.check_heads.proofs.effect.used_bound.Goals as goal

pub returns : goal.returns
returns c =
    let names = c.args.names.now in
    let b = c.args.bound.now in
    let longer = used_region names (region_tree b.longer) in
    let shorter = used_region names (region_tree b.shorter) in
    ap (short_of pair_of) c.paired.ensures
    ∙ paired_same region_of region_of c.used_region-longer.result c.used_region.result
    ∙ ap (λ s. short_both s (short_of region_of c.used_region.result) as_pair) c.used_region-longer.ensures
    ∙ ap (λ s. short_both (shortened longer) s as_pair) c.used_region.ensures
    ∙ sym (shortened_both longer shorter rules.pair_of)
