use Rattle.std.proofs.Common.{arith}
use Rattle.arena_laws.specs.Lawful.{unique_free}
use Rattle.cyc_arena.proofs.Along.{does_along, alone_before}
use Rattle.cyc_arena.proofs.Alone.{freed_does, freed_sound, slot_of}
use Rattle.cyc_arena.proofs.plain.PlainStoreBlockStore.unique_free.Goals as goal

pub overflow_sub-place : goal.overflow_sub-place
overflow_sub-place c =
    let alone = alone_before c.args.at c.owner_of.result _ _ c.in-Some-Alone.room _ _ c.self.view_is c.owner_of.ensures c.in-Some-Alone.is
    c.in-Some-Alone.field-0-is c.if-from-at.false in
    let i = slot_of _ c.args.at c.in-Some-Alone.room c.self.invariant alone in let a = i.above in omega (arith, a)

pub nonzero_div-slot-in-Some-Alone : goal.nonzero_div-slot-in-Some-Alone
nonzero_div-slot-in-Some-Alone c =
    let alone = alone_before c.args.at c.owner_of.result _ _ c.in-Some-Alone.room _ _ c.self.view_is c.owner_of.ensures c.in-Some-Alone.is
    c.in-Some-Alone.field-0-is c.if-from-at.false in
    (slot_of _ c.args.at c.in-Some-Alone.room c.self.invariant alone).some

pub overflow_mul-room : goal.overflow_mul-room
overflow_mul-room c =
    let alone = alone_before c.args.at c.owner_of.result _ _ c.in-Some-Alone.room _ _ c.self.view_is c.owner_of.ensures c.in-Some-Alone.is
    c.in-Some-Alone.field-0-is c.if-from-at.false in
    let i = slot_of _ c.args.at c.in-Some-Alone.room c.self.invariant alone in let l = i.low in omega (arith, l)

pub overflow_add-room : goal.overflow_add-room
overflow_add-room c =
    let alone = alone_before c.args.at c.owner_of.result _ _ c.in-Some-Alone.room _ _ c.self.view_is c.owner_of.ensures c.in-Some-Alone.is
    c.in-Some-Alone.field-0-is c.if-from-at.false in
    let i = slot_of _ c.args.at c.in-Some-Alone.room c.self.invariant alone in let l = i.low in omega (arith, l)

pub index_mut-requires : goal.index_mut-requires
index_mut-requires c =
    let alone = alone_before c.args.at c.owner_of.result _ _ c.in-Some-Alone.room _ _ c.self.view_is c.owner_of.ensures c.in-Some-Alone.is
    c.in-Some-Alone.field-0-is c.if-from-at.false in
    let i = slot_of _ c.args.at c.in-Some-Alone.room c.self.invariant alone in let l = i.slot in omega (arith, l)

pub invariant_of-self : goal.invariant_of-self
invariant_of-self c =
    let alone = alone_before c.args.at c.owner_of.result _ _ c.in-Some-Alone.room _ _ c.self.view_is c.owner_of.ensures c.in-Some-Alone.is
    c.in-Some-Alone.field-0-is c.if-from-at.false in
    freed_sound _ c.args.at c.in-Some-Alone.room c.self.invariant alone

pub returns-else-from-at-clause-does : goal.returns-else-from-at-clause-does
returns-else-from-at-clause-does c =
    let alone = alone_before c.args.at c.owner_of.result _ _ c.in-Some-Alone.room _ _ c.self.view_is c.owner_of.ensures c.in-Some-Alone.is
    c.in-Some-Alone.field-0-is c.if-from-at.false in
    does_along (unique_free c.args.at) _ _ _ _ c.self.view_is (freed_does _ c.args.at c.in-Some-Alone.room c.self.invariant alone)
