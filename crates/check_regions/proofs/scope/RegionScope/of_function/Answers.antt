use Rattle.std.proofs.Common.{ℕ, Bool, List, [], ap, ◌∙◌, ◌≡◌, map}
use Rattle.cyc_types.specs.Regions.{regions_of}
use Rattle.source_typing.specs.Named.{Below}
use Rattle.source_typing.specs.Regions.{Region}
use Rattle.check_regions.specs.Fields.{pair_of}
use Rattle.check_regions.specs.Reached.{has, reaches_any}
use Rattle.check_regions.proofs.Entering.{AreMarks, enters_as}
use Rattle.check_regions.proofs.Rounds.{first_marked}
use Rattle.source_typing.proofs.NamedBelow.{below_more}
use Rattle.check_regions.proofs.scope.RegionScope.of_function.Goals as goal

pub returns : goal.returns
returns c =
    let bs : List (Region × Region) = map pair_of c.args.bounds.now in
    let effect : List Region = regions_of c.args.effect.now in
    let size : ℕ = c.size-size.result in
    let live : List Bool = c.as_slice.result.now in
    let heap : List Bool = c.as_slice-2.result.now in
    let later : List Bool = c.as_slice-3.result.now in
    let inside : (a : Region) → Below c.args.variables a → Below size a = λ a l. below_more c.args.variables size a c.size-size.ensures.enough l in
    let same : c.in_ok-bounds.bounds ≡ bs = c.in_ok-bounds.ensures in
    let marks : AreMarks c.args.variables effect bs live heap later = record {
      of_effect = λ a l. ap (λ m. has m a) (c.as_slice.ensures.value ∙ c.in_ok-live.ensures) ∙ first_marked size effect a (inside a l);
      of_heap = λ a l.
          ap (λ m. has m a) c.as_slice-2.ensures.value ∙ c.in_ok-over_heap.ensures a (inside a l) ∙ ap (λ b. reaches_any [] b a) same;
      of_all = λ a l.
          ap (λ m. has m a) c.as_slice-3.ensures.value ∙ c.in_ok-over_later.ensures a (inside a l) ∙ ap (λ b. reaches_any effect b a) same;
    } in
    λ effect_below bounds_below.
    enters_as c.args.variables effect bs live heap later marks effect_below bounds_below
    c.in_ok-begun.begun.items c.new.result.items c.in_ok-bounds.bounds c.in_ok-begun.ensures c.new.ensures.items same
