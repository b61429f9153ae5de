use Rattle.std.proofs.Common.{◌≤◌, length, subst, arith}
use Rattle.std.proofs.lemmas.List.{length-map}
use Rattle.cyc_types.specs.Regions.{regions_of}
use Rattle.source_typing.specs.Named.{BoundsBelow}
use Rattle.check_regions.specs.Walked.{rows_of}
use Rattle.check_regions.proofs.Rows.{bounds_up}
use Rattle.check_regions.proofs.bounds.Bounds.size.Goals as goal

pub returns-clause-all : goal.returns-clause-all
returns-clause-all c =
    let rows = c.self.inside.rows in
    let long : length (rows_of rows.items) ≤ c.max.result =
    let e = c.len.ensures in
    let m = c.max.ensures in
    let o = rows.ok.0 in
    let l = length-map rows.items (λ r. regions_of r.items) in
    omega (arith, e, m, o, l) in
    subst (λ bs. BoundsBelow c.max.result bs) c.self.view_is (bounds_up (length (rows_of rows.items)) c.max.result _ long c.self.invariant.rows_are.enough)
