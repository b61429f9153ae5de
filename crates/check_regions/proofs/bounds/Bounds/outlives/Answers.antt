use Rattle.std.proofs.Common.{◌≤◌, List, ap, ◌∙◌, length, arith}
use Rattle.cyc_types.specs.Regions.{region_of}
use Rattle.source_typing.specs.Named.{Below}
use Rattle.source_typing.specs.Regions.{Region}
use Rattle.check_regions.specs.Reached.{has, past}
use Rattle.check_regions.proofs.Rounds.{below_past, reaches_only}
use Rattle.check_regions.proofs.bounds.Bounds.outlives.Goals as goal

pub returns : goal.returns
returns c =
    let one : Region = region_of c.args.one in
    let bs : List (Region × Region) = c.args.self.now in
    let enough : past one ≤ c.size-size.result =
    let e = c.past.ensures in
    let l = c.size-size.ensures.enough in
    omega (arith, e, l) in
    let within : Below c.size-size.result one = below_past one c.size-size.result enough in
    c.is_marked.ensures ∙ ap (λ m. has m one) c.as_slice.ensures.value ∙ c.in_ok-marks.ensures one within
    ∙ reaches_only (region_of c.args.other) bs (length bs) one
