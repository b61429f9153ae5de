use Rattle.std.proofs.Common.{◌<◌, ◌≤◌, length, ap, ◌∙◌, rules}
use Rattle.core_eval.specs.Values.{cell_in}
use Rattle.core_eval.specs.Blocks.{slot_among}
use Rattle.core_eval.proofs.Lists.{get_block, no_block}
use Rattle.core_eval.proofs.blocks.object_at.Goals as goal

pub returns-in-Some : goal.returns-in-Some
returns-in-Some c =
    let bs = c.args.blocks.now.items in
    let p = c.args.position in
    let i = c.args.index in
    let within : p < length bs = search rules in
    λ k. ap (λ b. slot_among b i k) (get_block bs p c.in-Some.block.now within c.in-Some.ensures.lookup) ∙ ap (λ os. cell_in os k) c.object_in.ensures

pub returns-in-None : goal.returns-in-None
returns-in-None c =
    let bs = c.args.blocks.now.items in
    let past : length bs ≤ c.args.position = search rules in
    λ k. ap (λ b. slot_among b c.args.index k) (no_block bs c.args.position past)
