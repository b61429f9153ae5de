use Rattle.std.proofs.Common.{◌≡◌, ◌≤◌, ◌∙◌, [], ap, arith, sym}
use Rattle.std.specs.Prelude.{◌==◌}
use Rattle.cyc_types.specs.Regions.{regions_of}
use Rattle.check_regions.specs.Walked.{levels, rows_of}
use Rattle.check_regions.proofs.Walking.{none_there, settled}
use Rattle.check_regions.proofs.walk.Walk.levels.Goals as goal

pub returns-then-is_empty : goal.returns-then-is_empty
returns-then-is_empty c =
    let rows = rows_of c.args.rows.now in
    let latest = c.walk.inside.latest in
    let none : latest.items ≡ [] = none_there latest.items (ap (λ n. n == 0) (sym latest.ok.0) ∙ sym c.is_empty.ensures ∙ c.if-is_empty.true) in
    let last : (levels rows c.args.self c.levels._level).latest ≡ [] =
    ap (λ w. w.latest) (sym c.levels.invariant) ∙ ap (λ w. w.latest) (sym c.walk.view_is) ∙ ap regions_of none in
    let within : c.levels._level ≤ c.args.count = omega arith in
    c.levels.invariant ∙ sym (settled rows c.args.self c.levels._level c.args.count last within)
