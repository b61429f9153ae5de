use Rattle.std.proofs.Common.{◌≡◌, ◌∙◌, List, ap, arith, length, map, subst, sym}
use Rattle.std.proofs.lemmas.List.{length-map}
use Rattle.cyc_types.specs.Regions.{regions_of}
use Rattle.source_typing.specs.Named.{BoundsBelow}
use Rattle.source_typing.specs.Regions.{Region}
use Rattle.check_regions.specs.Fields.{pair_of}
use Rattle.check_regions.specs.Reached.{has, reaches_any}
use Rattle.check_regions.specs.Walked.{levels, rows_of, walk_from}
use Rattle.check_regions.proofs.Walking.{all_levels}
use Rattle.check_regions.proofs.bounds.Bounds.reaching.Goals as goal

pub returns : goal.returns
returns c =
    let given = c.self.inside.given in
    let bs : List (Region × Region) = map pair_of given.items in
    let targets : List Region = regions_of c.args.targets.now in
    let below : BoundsBelow c.args.size bs = subst (λ b. BoundsBelow c.args.size b) (sym c.self.view_is) c.requires in
    let count : c.len.result ≡ length bs =
    let e = c.len.ensures in
    let o = given.ok.0 in
    let l = length-map given.items pair_of in
    omega (arith, e, o, l) in
    let walked : c.in_ok-walk-2.walk ≡ levels (rows_of c.self.inside.rows.items) (walk_from c.args.size targets) (length bs) =
    c.in_ok-walk-2.ensures ∙ (λ j. levels (rows_of (c.as_slice.ensures.value j)) (c.in_ok-walk.ensures j) (count j)) in
    λ a l.
    ap (λ m. has m a) (c.marks.ensures ∙ ap (λ w. w.marks) walked)
    ∙ all_levels c.args.size targets bs below (rows_of c.self.inside.rows.items) c.self.invariant.rows_are a l
    ∙ ap (λ b. reaches_any targets b a) c.self.view_is
