use Rattle.std.proofs.Common.{subst, ◌≡◌, ◌+◌, ◌-◌, ◌*◌, true, false, arith}
use Rattle.std.specs.Prelude.{Some, None}
use Rattle.arena_laws.specs.Holdings.{arena_base}
use Rattle.arena_laws.specs.Lawful.{Grants, takes_blocks}
use Rattle.arena_laws.specs.Laws.{region_alloc, is_block_refused}
use Rattle.cyc_arena.specs.Plain.{Finds, IsLowest, standing_at}
use Rattle.cyc_arena.proofs.Along.{does_along, test_along}
use Rattle.region_runtime.proofs.Placed.{short_room}
use Rattle.cyc_arena.specs.contracts.plain.PlainStore.{the_view}
use Rattle.cyc_arena.proofs.Extended.{run_refused, value_takes, value_pages, run_says, run_not_refused}
use Rattle.cyc_arena.proofs.BlockCalls.{last_place, cut, taken_as, refused}
use Rattle.cyc_arena.proofs.plain.PlainStoreBlockStore.region_alloc.Goals as goal

pub left_in-left-requires-clause-place : goal.left_in-left-requires-clause-place
left_in-left-requires-clause-place c =
    let takes : takes_blocks c.args.handle (standing_at c.self.inside.standing.items c.args.handle) ≡ true = cc in
    last_place _ c.args.handle c.args.bytes _ _ 0 c.self.invariant takes
    (short_room c.args.bytes c.room_for-room.result (c.room_for-room.ensures.room c.if-bytes-gt-LIMIT.false) c.if-room-gt-PAGE.false)
    (c.room_for-room.ensures.room c.if-bytes-gt-LIMIT.false) c.index-last.ensures

pub index_mut-requires : goal.index_mut-requires
index_mut-requires c =
    let takes : takes_blocks c.args.handle (standing_at c.self.inside.standing.items c.args.handle) ≡ true = cc in
    let page = (cut _ c.args.handle c.args.bytes _ _ _ c.self.invariant takes
    (short_room c.args.bytes c.room_for-room.result (c.room_for-room.ensures.room c.if-bytes-gt-LIMIT.false) c.if-room-gt-PAGE.false)
    (c.room_for-room.ensures.room c.if-bytes-gt-LIMIT.false) c.index-last.ensures
    c.left_in-left.ensures c.if-room-left.true).page in
    omega (arith, page)

pub overflow_mul-result-then-room-left : goal.overflow_mul-result-then-room-left
overflow_mul-result-then-room-left c =
    let takes : takes_blocks c.args.handle (standing_at c.self.inside.standing.items c.args.handle) ≡ true = cc in
    let low = (cut _ c.args.handle c.args.bytes _ _ _ c.self.invariant takes
    (short_room c.args.bytes c.room_for-room.result (c.room_for-room.ensures.room c.if-bytes-gt-LIMIT.false) c.if-room-gt-PAGE.false)
    (c.room_for-room.ensures.room c.if-bytes-gt-LIMIT.false) c.index-last.ensures
    c.left_in-left.ensures c.if-room-left.true).low in
    omega (arith, low)

pub overflow_add-result-then-room-left-2 : goal.overflow_add-result-then-room-left-2
overflow_add-result-then-room-left-2 c =
    let takes : takes_blocks c.args.handle (standing_at c.self.inside.standing.items c.args.handle) ≡ true = cc in
    let low = (cut _ c.args.handle c.args.bytes _ _ _ c.self.invariant takes
    (short_room c.args.bytes c.room_for-room.result (c.room_for-room.ensures.room c.if-bytes-gt-LIMIT.false) c.if-room-gt-PAGE.false)
    (c.room_for-room.ensures.room c.if-bytes-gt-LIMIT.false) c.index-last.ensures
    c.left_in-left.ensures c.if-room-left.true).low in
    omega (arith, low)

pub overflow_add-result-then-room-left : goal.overflow_add-result-then-room-left
overflow_add-result-then-room-left c =
    let takes : takes_blocks c.args.handle (standing_at c.self.inside.standing.items c.args.handle) ≡ true = cc in
    let low = (cut _ c.args.handle c.args.bytes _ _ _ c.self.invariant takes
    (short_room c.args.bytes c.room_for-room.result (c.room_for-room.ensures.room c.if-bytes-gt-LIMIT.false) c.if-room-gt-PAGE.false)
    (c.room_for-room.ensures.room c.if-bytes-gt-LIMIT.false) c.index-last.ensures
    c.left_in-left.ensures c.if-room-left.true).low in
    omega (arith, low)

pub invariant_of-self : goal.invariant_of-self
invariant_of-self c =
    let takes : takes_blocks c.args.handle (standing_at c.self.inside.standing.items c.args.handle) ≡ true = cc in
    (cut _ c.args.handle c.args.bytes _ _ _ c.self.invariant takes
    (short_room c.args.bytes c.room_for-room.result (c.room_for-room.ensures.room c.if-bytes-gt-LIMIT.false) c.if-room-gt-PAGE.false)
    (c.room_for-room.ensures.room c.if-bytes-gt-LIMIT.false) c.index-last.ensures c.left_in-left.ensures
    c.if-room-left.true).sound

pub returns-then-room-left-clause-does : goal.returns-then-room-left-clause-does
returns-then-room-left-clause-does c =
    let takes : takes_blocks c.args.handle (standing_at c.self.inside.standing.items c.args.handle) ≡ true = cc in
    does_along (λ m. region_alloc c.args.handle c.args.bytes (Grants (arena_base + 4096 * (c.index-last.result.now - 1) +
    (4096 - c.left_in-left.result))) m) _ _ _ _ c.self.view_is
    (cut _ c.args.handle c.args.bytes _ _ _ c.self.invariant takes
    (short_room c.args.bytes c.room_for-room.result (c.room_for-room.ensures.room c.if-bytes-gt-LIMIT.false) c.if-room-gt-PAGE.false)
    (c.room_for-room.ensures.room c.if-bytes-gt-LIMIT.false) c.index-last.ensures c.left_in-left.ensures
    c.if-room-left.true).does

pub returns-then-room-left-clause-full : goal.returns-then-room-left-clause-full
returns-then-room-left-clause-full c =
    let takes : takes_blocks c.args.handle (standing_at c.self.inside.standing.items c.args.handle) ≡ true = cc in
    test_along (λ m. is_block_refused c.args.handle c.args.bytes m) false _ _ c.self.view_is
    (cut _ c.args.handle c.args.bytes _ _ _ c.self.invariant takes
    (short_room c.args.bytes c.room_for-room.result (c.room_for-room.ensures.room c.if-bytes-gt-LIMIT.false) c.if-room-gt-PAGE.false)
    (c.room_for-room.ensures.room c.if-bytes-gt-LIMIT.false) c.index-last.ensures c.left_in-left.ensures
    c.if-room-left.true).free

pub invariant_of-self-in-Some : goal.invariant_of-self-in-Some
invariant_of-self-in-Some c =
    let takes : takes_blocks c.args.handle (standing_at c.self.inside.standing.items c.args.handle) ≡ true = cc in
    (taken_as _ c.args.handle c.args.bytes _ _ _ c.self.invariant takes
    (short_room c.args.bytes c.room_for-room.result (c.room_for-room.ensures.room c.if-bytes-gt-LIMIT.false) c.if-room-gt-PAGE.false)
    (c.room_for-room.ensures.room c.if-bytes-gt-LIMIT.false) c.index-last.ensures c.in-Some.page
    c.left_in-left.ensures c.if-room-left.false
    (subst (λ xs. Finds 0 xs (Some c.in-Some.page)) c.deref.ensures.value c.in-Some.ensures.found)
    (subst (λ xs. IsLowest 0 xs (Some c.in-Some.page)) c.deref.ensures.value c.in-Some.ensures.lowest) _ c.used_with-self-inside.ensures).sound

pub returns-in-Some-clause-does : goal.returns-in-Some-clause-does
returns-in-Some-clause-does c =
    let takes : takes_blocks c.args.handle (standing_at c.self.inside.standing.items c.args.handle) ≡ true = cc in
    does_along (λ m. region_alloc c.args.handle c.args.bytes (Grants (arena_base + 4096 * c.in-Some.page)) m) _ _ _ _ c.self.view_is
    (taken_as _ c.args.handle c.args.bytes _ _ _ c.self.invariant takes
    (short_room c.args.bytes c.room_for-room.result (c.room_for-room.ensures.room c.if-bytes-gt-LIMIT.false) c.if-room-gt-PAGE.false)
    (c.room_for-room.ensures.room c.if-bytes-gt-LIMIT.false) c.index-last.ensures c.in-Some.page
    c.left_in-left.ensures c.if-room-left.false
    (subst (λ xs. Finds 0 xs (Some c.in-Some.page)) c.deref.ensures.value c.in-Some.ensures.found)
    (subst (λ xs. IsLowest 0 xs (Some c.in-Some.page)) c.deref.ensures.value c.in-Some.ensures.lowest) _ c.used_with-self-inside.ensures).does

pub returns-in-Some-clause-full : goal.returns-in-Some-clause-full
returns-in-Some-clause-full c =
    let takes : takes_blocks c.args.handle (standing_at c.self.inside.standing.items c.args.handle) ≡ true = cc in
    test_along (λ m. is_block_refused c.args.handle c.args.bytes m) false _ _ c.self.view_is
    (taken_as _ c.args.handle c.args.bytes _ _ _ c.self.invariant takes
    (short_room c.args.bytes c.room_for-room.result (c.room_for-room.ensures.room c.if-bytes-gt-LIMIT.false) c.if-room-gt-PAGE.false)
    (c.room_for-room.ensures.room c.if-bytes-gt-LIMIT.false) c.index-last.ensures c.in-Some.page
    c.left_in-left.ensures c.if-room-left.false
    (subst (λ xs. Finds 0 xs (Some c.in-Some.page)) c.deref.ensures.value c.in-Some.ensures.found)
    (subst (λ xs. IsLowest 0 xs (Some c.in-Some.page)) c.deref.ensures.value c.in-Some.ensures.lowest) _ c.used_with-self-inside.ensures).free

pub returns-in-None-clause-full : goal.returns-in-None-clause-full
returns-in-None-clause-full c =
    let takes : takes_blocks c.args.handle (standing_at c.self.inside.standing.items c.args.handle) ≡ true = cc in
    test_along (λ m. is_block_refused c.args.handle c.args.bytes m) true _ _ c.self.view_is
    (refused _ c.args.handle c.args.bytes _ _ _ c.self.invariant takes
    (short_room c.args.bytes c.room_for-room.result (c.room_for-room.ensures.room c.if-bytes-gt-LIMIT.false) c.if-room-gt-PAGE.false)
    (c.room_for-room.ensures.room c.if-bytes-gt-LIMIT.false) c.index-last.ensures
    c.left_in-left.ensures c.if-room-left.false
    (subst (λ xs. Finds 0 xs None) c.deref.ensures.value c.in-None.ensures.found))

-- ---- a run of pages

pub returns-then-run_for-len-clause-full : goal.returns-then-run_for-len-clause-full
returns-then-run_for-len-clause-full c =
    let takes : takes_blocks c.args.handle (standing_at c.self.inside.standing.items c.args.handle) ≡ true = cc in
    run_refused (the_view c.self.inside) c.args.self.now c.self.view_is c.self.invariant c.args.handle c.args.bytes c.room_for-room.result takes
    c.if-bytes-gt-LIMIT.false (c.room_for-room.ensures.room c.if-bytes-gt-LIMIT.false) c.if-room-gt-PAGE.true
    (let f = c.run_for.ensures in let g = c.if-run_for-len.true in omega (arith, f, g))

pub run-requires-clause-takes : goal.run-requires-clause-takes
run-requires-clause-takes c =
    let takes : takes_blocks c.args.handle (standing_at c.self.inside.standing.items c.args.handle) ≡ true = cc in
    value_takes (the_view c.self.inside) c.args.self.now c.self.view_is c.self.invariant c.args.handle c.args.bytes c.room_for-room.result takes
    c.if-bytes-gt-LIMIT.false (c.room_for-room.ensures.room c.if-bytes-gt-LIMIT.false) c.if-room-gt-PAGE.true

pub run-requires-clause-pages : goal.run-requires-clause-pages
run-requires-clause-pages c =
    let takes : takes_blocks c.args.handle (standing_at c.self.inside.standing.items c.args.handle) ≡ true = cc in
    let f = c.run_for.ensures in let g = c.if-run_for-len.false in let b = c.self.invariant.begun in
    value_pages (the_view c.self.inside) c.args.self.now c.self.view_is c.self.invariant c.args.handle c.args.bytes c.room_for-room.result takes
    c.if-bytes-gt-LIMIT.false (c.room_for-room.ensures.room c.if-bytes-gt-LIMIT.false) c.if-room-gt-PAGE.true
    (omega (arith, f, g, b))

pub returns-then-room-gt-PAGE-clause-does : goal.returns-then-room-gt-PAGE-clause-does
returns-then-room-gt-PAGE-clause-does c =
    let takes : takes_blocks c.args.handle (standing_at c.self.inside.standing.items c.args.handle) ≡ true = cc in
    let f = c.run_for.ensures in let g = c.if-run_for-len.false in let b = c.self.invariant.begun in
    run_says (the_view c.self.inside) c.args.self.now c.self.view_is c.self.invariant c.args.handle c.args.bytes c.room_for-room.result takes
    c.if-bytes-gt-LIMIT.false (c.room_for-room.ensures.room c.if-bytes-gt-LIMIT.false) c.if-room-gt-PAGE.true
    (omega (arith, f, g, b)) _ c.run.ensures.holds

pub returns-then-room-gt-PAGE-clause-full : goal.returns-then-room-gt-PAGE-clause-full
returns-then-room-gt-PAGE-clause-full c =
    let takes : takes_blocks c.args.handle (standing_at c.self.inside.standing.items c.args.handle) ≡ true = cc in
    let f = c.run_for.ensures in let g = c.if-run_for-len.false in let b = c.self.invariant.begun in
    run_not_refused (the_view c.self.inside) c.args.self.now c.self.view_is c.self.invariant c.args.handle c.args.bytes c.room_for-room.result takes
    c.if-bytes-gt-LIMIT.false (c.room_for-room.ensures.room c.if-bytes-gt-LIMIT.false) c.if-room-gt-PAGE.true
    (omega (arith, f, g, b))
