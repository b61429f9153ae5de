use Rattle.std.proofs.Common.{◌≡◌, ◌+◌, ◌<◌, Ok, ap, sym, subst, ◌∙◌, arith}
use Rattle.std.specs.Prelude.{if◌then◌else◌}
use Rattle.region_runtime.specs.Pool as pool
use Rattle.region_runtime.specs.Touches.{reads_link}
use Rattle.arena_laws.specs.Lawful.{Grants}
use Rattle.arena_laws.specs.Laws.{Does, unique_alloc}
use Rattle.unique_blocks.specs.Blocks.{Slotted, held}
use Rattle.unique_blocks.specs.Calls.{IsSlotTaken}
use Rattle.unique_blocks.proofs.Touching.{link_most}
use Rattle.unique_blocks.proofs.Freed.{alloc_opened, alloc_spare}
use Rattle.unique_blocks.proofs.blocks.UniqueBlocks.unique_alloc.Goals as goal
use Rattle.unique_blocks.proofs.blocks.UniqueBlocks.unique_alloc.Goals.{
  else-self-place-eq0-via-then-self-place-eq0+else-not-open,
  else-self-place-eq0-via-else-self-place-eq0,
}

pub returns-clause-does : goal.returns-clause-does
returns-clause-does c =
    let k = c.class_for-class.result in let at = c.take.result in
    let old : Slotted = record { pool = c.self.inside.pool; heads = c.self.inside.heads; touched = 0 } in
    subst (λ u. Does (Ok at) (held c.take.new.self) (unique_alloc c.args.bytes (Grants at) (held u))) c.self.view_is (elim c.else-self-place-eq0.branch [
      | else-self-place-eq0-via-then-self-place-eq0+else-not-open w ↦
          let taken : IsSlotTaken w.open.new.self c.take.new.self k at = subst (λ u. IsSlotTaken u c.take.new.self k at) w.self-is c.take.ensures.taken in
          alloc_opened old w.open.new.self c.take.new.self c.args.bytes k at c.if-bytes-gt-PAGE.false c.class_for-class.ensures
          (w.open.ensures.opened w.if-not-open.false) taken
      | else-self-place-eq0-via-else-self-place-eq0 w ↦
          let taken : IsSlotTaken old c.take.new.self k at = subst (λ u. IsSlotTaken u c.take.new.self k at) w.self-is c.take.ensures.taken in
          alloc_spare old c.take.new.self c.args.bytes k at c.if-bytes-gt-PAGE.false c.class_for-class.ensures taken
    ])

pub take-requires-clause-touches : goal.take-requires-clause-touches
take-requires-clause-touches c =
    let p = c.self.inside.pool in let l = link_most (pool.held p) in
    elim c.else-self-place-eq0.branch [
      | else-self-place-eq0-via-then-self-place-eq0+else-not-open w ↦
          let t : w.open.new.self.touched ≡ 0 + (15 + reads_link (pool.held p)) =
          w.open.ensures.touches ∙ ap (λ b. 0 + (if b then 15 + reads_link (pool.held p) else 0)) w.if-not-open.false in
          subst (λ u. u.touched < 200) (sym w.self-is) (omega (arith, l, t))
      | else-self-place-eq0-via-else-self-place-eq0 w ↦ subst (λ u. u.touched < 200) (sym w.self-is) (omega arith)
    ]
