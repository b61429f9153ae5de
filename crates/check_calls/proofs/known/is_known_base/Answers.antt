use Rattle.std.specs.List.{list_all}
use Rattle.std.proofs.Common.{ap, ◌∙◌}
use Rattle.cyc_types.specs.Regions.{region_of}
use Rattle.source_typing.specs.Fixing.{is_known}
use Rattle.check_calls.specs.Fixings.{fixings_of, which_are_known}
use Rattle.check_calls.proofs.Holding.{each_is}
use Rattle.check_calls.proofs.known.is_known_base.Goals as goal

pub returns-in-Struct : goal.returns-in-Struct
returns-in-Struct c =
    let rs = which_are_known (fixings_of c.args.fixings.now) in
    rw c.in-Struct.is
    (c.are_known.ensures ∙ ap (list_all (λ r. is_known rs (region_of r))) c.as_slice.ensures ∙ each_is (is_known rs) c.in-Struct.regions.items)

pub returns-in-Union : goal.returns-in-Union
returns-in-Union c =
    let rs = which_are_known (fixings_of c.args.fixings.now) in
    rw c.in-Union.is
    (c.are_known-in-Union.ensures ∙ ap (list_all (λ r. is_known rs (region_of r))) c.as_slice-in-Union.ensures ∙ each_is (is_known rs) c.in-Union.regions.items)
