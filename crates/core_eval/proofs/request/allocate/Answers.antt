use Rattle.std.proofs.Common.{◌≡◌, None, refl, ap, ◌∙◌, sym, subst}
use Rattle.core_meaning.specs.Core as core
use Rattle.core_meaning.specs.Steps as steps
use Rattle.cyc_core.specs.Trees.{layout_tree}
use Rattle.core_eval.specs.declared.value.Value.TheVariants as value
use Rattle.core_eval.specs.Values.{content_of}
use Rattle.core_eval.specs.Blocks.{next_place, stored_of}
use Rattle.core_eval.specs.Pendings.{Execute, Leave, Go, Wrong}
use Rattle.core_eval.specs.Standing.{Known, known_of}
use Rattle.core_eval.specs.Costs.{IsMove}
use Rattle.core_eval.proofs.Changes.{with_stored}
use Rattle.core_eval.proofs.OperationMoves.{given}
use Rattle.core_eval.proofs.AllocateMoves.{ungrown, unplaced, with_more, allocate_moves, allocate_wrong}
use Rattle.core_eval.proofs.Answered.{move_as, given_after, stored_known}
use Rattle.core_eval.proofs.request.allocate.Goals as goal

pub returns-in-Some : goal.returns-in-Some
returns-in-Some c =
    let f = c.args.frame.now in
    let f' = c.give.new.frame in
    let m = c.args.memory.now in
    let m' = c.allocate.new.self in
    let t = c.args.to.0 in
    let l = c.args.layout.now.value in
    let task = Execute (core.Do (core.RegionAlloc t c.args.region.0 c.args.count.0 (layout_tree l))) in
    let after = c.in_ok-place.ensures in
    given_after c.give.result f f' t (content_of (value.Pointer c.in-Some.place)) task m m'
    c.give.ensures.next c.give.ensures.gives c.give.ensures.base
    (λ ws gives.
    let known : known_of f m' ≡ with_more (known_of f m) ws c.args.region.0 c.temp.result c.temp.ensures c.in-Birth.birth c.in-Birth.is
    c.args.count.0 c.temp-2.result c.temp-2.ensures t l c.in-Word.count c.in-Word.is =
    stored_known f m m' after.entered after.called ∙ ap (with_stored (known_of f m)) after.stored in
    subst (λ (k : Known). IsMove task ws (known_of f m) (Go (Leave steps.Falls)) ws (given k f'.temps.items)) (sym known)
    (allocate_moves (known_of f m) ws c.args.region.0 c.temp.result c.temp.ensures c.in-Birth.birth c.in-Birth.is
    c.args.count.0 c.temp-2.result c.temp-2.ensures t l c.in-Word.count c.in-Word.is f'.temps.items c.in-Some.place
    (sym after.place ∙ c.in-Some.is) gives))

pub returns-in-None : goal.returns-in-None
returns-in-None c =
    let f = c.args.frame.now in
    let m = c.args.memory.now in
    let m' = c.allocate.new.self in
    let l = c.args.layout.now.value in
    let after = c.in_ok-place.ensures in
    let none : next_place (stored_of m) c.in-Birth.birth ≡ None = sym after.place ∙ c.in-None.is in
    let same = ungrown (stored_of m) c.in-Birth.birth l c.in-Word.count (unplaced (stored_of m) c.in-Birth.birth none) in
    λ ws. move_as _ ws (known_of f m) Wrong _ ws (known_of f m) (known_of f m') refl
    (stored_known f m m' after.entered after.called ∙ ap (with_stored (known_of f m)) (after.stored ∙ same))
    (allocate_wrong (known_of f m) ws c.args.region.0 c.temp.result c.temp.ensures c.in-Birth.birth c.in-Birth.is
    c.args.count.0 c.temp-2.result c.temp-2.ensures c.args.to.0 l c.in-Word.count c.in-Word.is none)
