use Rattle.std.proofs.Common.{◌≡◌, ◌-◌, false, Some, List, [], ◌∷◌, ◌++◌, length, map, ap, ◌∙◌, sym, subst, arith}
use Rattle.std.specs.declared.vec.Vec.{Vec}
use Rattle.std.specs.declared.alloc.Global.{Global}
use Rattle.core_meaning.specs.Core as core
use Rattle.core_meaning.specs.Steps as steps
use Rattle.cyc_core.specs.declared.layout.Layout.{Layout}
use Rattle.cyc_core.specs.Trees.{layout_tree}
use Rattle.core_eval.specs.declared.region.Standing.TheVariants as standing
use Rattle.core_eval.specs.declared.value.Area.TheVariants as area
use Rattle.core_eval.specs.declared.value.Object.{Object}
use Rattle.core_eval.specs.declared.value.Value.TheVariants as value
use Rattle.core_eval.specs.declared.value.Slot.{Slot}
use Rattle.core_eval.specs.Values.{content_of}
use Rattle.core_eval.specs.Elements.{block_cells, cells_of}
use Rattle.core_eval.specs.Regions.{Regions, regions_of}
use Rattle.core_eval.specs.declared.memory.Memory.{Memory}
use Rattle.core_eval.specs.declared.long_block.LongBlock as code
use Rattle.core_eval.specs.LongBlocks.{LongBlock, long_block_of, with_long_block}
use Rattle.core_eval.specs.Pendings.{Execute, Leave, Go}
use Rattle.core_eval.specs.Standing.{Known, Gives, known_of}
use Rattle.core_eval.specs.Costs.{IsMove}
use Rattle.core_eval.proofs.OperationMoves.{given}
use Rattle.core_eval.proofs.UniqueMoves.{with_unique, unique_moves}
use Rattle.core_eval.proofs.Answered.{given_after}
use Rattle.core_eval.proofs.RegionAnswers.{RegionsAlone, alone_known}
use Rattle.core_eval.proofs.request.allocate_unique.Goals as goal

pub returns : goal.returns
returns c =
    let f = c.args.frame.now in
    let f' = c.give.new.frame in
    let m = c.args.memory.now in
    let born = c.make_region.new.self in
    let m' : Memory = record born { long_blocks = c.keep_block.new.blocks } in
    let t = c.args.to.0 in
    let l = c.args.layout.now.value in
    let task = Execute (core.Do (core.UniqueAlloc t (layout_tree l))) in
    let after = c.in_ok-birth.ensures in
    let rs = regions_of m.regions in
    let empty = c.new-objects.ensures.items in
    let births = after.birth in
    let number : c.in_ok-birth.birth - 1 ≡ length rs = omega (arith, births) in
    let first : c.in_ok-object.object ≡ 0 = c.in_ok-object.ensures.number ∙ ap (λ (os : List Object). length os) empty in
    let block : map cells_of c.push_block.new.objects.items ≡ block_cells false l 1 ∷ [] =
    c.in_ok-object.ensures.objects ∙ ap (λ (os : List Object). map cells_of os ++ block_cells false l 1 ∷ []) empty in
    let alone : RegionsAlone m born = (record {
      blocks = after.blocks;
      entered = after.entered;
      owns = after.owns;
      called = after.called;
      globals = after.globals;
      long_blocks = after.long_blocks;
    }) in
    let longs = map long_block_of m.long_blocks.items in
    let kept : map long_block_of c.keep_block.new.blocks.items ≡ with_long_block longs (length rs) 0 l 1 =
    c.in_ok-keep_block.ensures
    ∙ ap (λ (x : Layout). with_long_block (map long_block_of born.long_blocks.items) (c.in_ok-birth.birth - 1) c.in_ok-object.object x 1) c.as_ref.ensures
    ∙ ap (λ (bs : Vec code.LongBlock Global). with_long_block (map long_block_of bs.items) (c.in_ok-birth.birth - 1) c.in_ok-object.object l 1)
    after.long_blocks
    ∙ ap (λ n. with_long_block longs n c.in_ok-object.object l 1) number ∙ ap (λ n. with_long_block longs (length rs) n l 1) first in
    given_after c.give.result f f' t
    (content_of (value.Pointer (record { area = area.Region (c.in_ok-birth.birth - 1); object = c.in_ok-object.object; byte = 0; cell = 0 }))) task m m'
    c.give.ensures.next c.give.ensures.gives c.give.ensures.base
    (λ ws gives.
    let known : known_of f m' ≡ with_unique (known_of f m) ws t l =
    ap (λ (bs : List LongBlock). record (known_of f born) { long_blocks = bs }) kept
    ∙ ap (λ (k : Known). record k { long_blocks = with_long_block longs (length rs) 0 l 1 }) (alone_known f m born alone
    ∙ ap (λ (rs : Regions). record (known_of f m) { regions = rs }) after.regions
    ∙ ap (λ (os : List (List Slot)). record (known_of f m) { regions = rs ++ Some (record { standing = standing.Single; objects = os }) ∷ [] }) block) in
    subst (λ (k : Known). IsMove task ws (known_of f m) (Go (Leave steps.Falls)) ws (given k f'.temps.items)) (sym known)
    (unique_moves (known_of f m) ws t l f'.temps.items (c.in_ok-birth.birth - 1) number
    (subst (λ n. Gives t (content_of (value.Pointer (record { area = area.Region (c.in_ok-birth.birth - 1); object = n; byte = 0; cell = 0 })))
    f.temps.items f'.temps.items) first gives)))
