use Rattle.std.specs.Prelude.{nat_lt}
use Rattle.std.proofs.Common.{◌≡◌, ◌≢◌, ◌<◌, ◌≤◌, length, rules, subst}
use Rattle.std.proofs.lemmas.List.Sorted.{IsPartitionPoint-from_clause}
use Rattle.core_eval.specs.declared.blocks.Block.{Block}
use Rattle.core_eval.proofs.Positions.{parted, found_there, found_other, found_past}
use Rattle.core_eval.proofs.blocks.position_of.Goals as goal

pub returns-in-Some : goal.returns-in-Some
returns-in-Some c =
    let k = c.args.number in
    let bs = c.args.blocks.now.items in
    let p = c.partition_point-position.result in
    let within : p < length bs = search rules in
    let b = c.in-Some.block.now in
    let same : b.number ≡ k = search rules in
    λ bound d. found_there k bs p b
    (IsPartitionPoint-from_clause (λ b. nat_lt k b.number) _ _ c.partition_point-position.ensures.partitioned (parted k bound bs d)
    (λ a r q h. search rules))
    within (subst (λ (x : Block). x.number ≡ k) c.in-Some.ensures.lookup same)

pub returns-in_default : goal.returns-in_default
returns-in_default c =
    let k = c.args.number in
    let bs = c.args.blocks.now.items in
    let p = c.partition_point-position.result in
    let within : p < length bs = search rules in
    let b = c.in-Some.block.now in
    let other : b.number ≢ k = search rules in
    λ bound d. found_other k bound bs p b d
    (IsPartitionPoint-from_clause (λ b. nat_lt k b.number) _ _ c.partition_point-position.ensures.partitioned (parted k bound bs d)
    (λ a r q h. search rules))
    within (subst (λ (x : Block). x.number ≢ k) c.in-Some.ensures.lookup other)

pub returns-in_default-2 : goal.returns-in_default-2
returns-in_default-2 c =
    let k = c.args.number in
    let bs = c.args.blocks.now.items in
    let p = c.partition_point-position.result in
    let past : length bs ≤ p = search rules in
    λ bound d. found_past k bs p
    (IsPartitionPoint-from_clause (λ b. nat_lt k b.number) _ _ c.partition_point-position.ensures.partitioned (parted k bound bs d)
    (λ a r q h. search rules))
    past
