use Rattle.std.proofs.Common.{List, Bool, ap, sym, ◌∙◌}
use Rattle.std.specs.Prelude.{not, ◌||◌}
use Rattle.cyc_tree.specs.Places.{region_place}
use Rattle.cyc_tree.specs.Tree.{RegionName}
use Rattle.cyc_tree.specs.View.{region_tree}
use Rattle.cyc_types.specs.Regions.{region_of, regions_of}
use Rattle.source_typing.specs.Functions.{if_no_key, used_region}
use Rattle.source_typing.specs.Regions.{Region, is_among}
use Rattle.source_typing.specs.Verdicts.{Verdict}
use Rattle.check_faults.proofs.Shortened.{after_of, after_unjudged, after_wrong}
use Rattle.check_faults.specs.Verdicts.{shortened}
use Rattle.check_heads.proofs.effect.effect_region.Goals as goal

-- what the rules ask of a region that is known
abbrev rule : Bool → List Region → RegionName → Region → Verdict Region
rule lenient keys r a = if_no_key (lenient || not (is_among keys a)) (region_place r) a

pub returns-in-Of : goal.returns-in-Of
returns-in-Of c =
    let r = region_tree c.args.region.now in
    let keys = regions_of c.args.keys.now in
    let lenient = c.args.lenient in
    let a = region_of c.in-Of.found in
    c.unless_key.ensures
    ∙ ap (λ b. shortened (if_no_key b c.place.result a)) c.may_name-fits.ensures
    ∙ ap (λ n. shortened (if_no_key (lenient || not (is_among keys a)) n a)) c.place.ensures
    ∙ sym (after_of region_of c.used_region.result (used_region c.args.names.now r) (rule lenient keys r) c.used_region.ensures c.in-Of.found c.in-Of.is)

pub returns-in-Wrong : goal.returns-in-Wrong
returns-in-Wrong c =
    let r = region_tree c.args.region.now in
    sym (after_wrong region_of c.used_region.result (used_region c.args.names.now r) (rule c.args.lenient (regions_of c.args.keys.now) r)
    c.used_region.ensures c.in-Wrong.fault c.in-Wrong.is)

pub returns-in-NotJudged : goal.returns-in-NotJudged
returns-in-NotJudged c =
    let r = region_tree c.args.region.now in
    sym (after_unjudged region_of c.used_region.result (used_region c.args.names.now r) (rule c.args.lenient (regions_of c.args.keys.now) r)
    c.used_region.ensures c.in-NotJudged.is)
