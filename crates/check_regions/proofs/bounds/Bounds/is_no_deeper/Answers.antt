use Rattle.std.proofs.Common.{◌≡◌, ◌∙◌, List, ap, arith, false, length, map, nat_lt, subst, sym, true}
use Rattle.std.proofs.lemmas.Bool.Decides.{nat_tests}
use Rattle.cyc_types.specs.Regions.{region_of}
use Rattle.source_typing.specs.Regions.{Region}
use Rattle.check_regions.specs.Fields.{pair_of}
use Rattle.check_regions.specs.Reached.{outlives_by}
use Rattle.check_regions.specs.Ways.{all_fall, depth_at}
use Rattle.check_regions.proofs.Leading.{not_deeper}
use Rattle.check_regions.proofs.bounds.Bounds.is_no_deeper.Goals as goal

pub returns-then-self : goal.returns-then-self
returns-then-self c = λ e heap other.
    let ways = c.self.inside.ways.items in
    let bs : List (Region × Region) = map pair_of c.self.inside.given.items in
    let one : Region = region_of c.args.one in
    let two : Region = region_of c.args.other in
    let all : all_fall ways bs ≡ true = sym c.self.invariant.all_are ∙ c.if-self.true in
    let mine : c.depth.result ≡ depth_at ways one = c.depth.ensures ∙ ap (λ w. depth_at w one) c.as_slice-ways.ensures.value in
    let its : c.depth-then-self.result ≡ depth_at ways two = c.depth-then-self.ensures ∙ ap (λ w. depth_at w two) c.as_slice-ways.ensures.value in
    let least : nat_lt (depth_at ways two) (depth_at ways one) ≡ false = grind (arith, nat_tests, e, mine, its) in
    subst (λ b. outlives_by b one two ≡ false) c.self.view_is (not_deeper ways bs all (length bs) one two heap other least)
