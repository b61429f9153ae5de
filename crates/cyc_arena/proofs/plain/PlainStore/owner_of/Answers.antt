use Rattle.std.proofs.Common.{arith}
use Rattle.cyc_arena.proofs.Along.{owner_along}
use Rattle.cyc_arena.proofs.Seen.{seen_below, seen_above, seen_nobody, seen_region, seen_waste, seen_class, seen_place, seen_alone, seen_vacant}
use Rattle.cyc_arena.proofs.plain.PlainStore.owner_of.Goals as goal

pub returns-then-at-lt-BASE : goal.returns-then-at-lt-BASE
returns-then-at-lt-BASE c = seen_below c.args.self.now c.args.at c.if-at-lt-BASE.true

pub returns-then-page-len : goal.returns-then-page-len
returns-then-page-len c = owner_along c.args.at _ _ _ c.self.view_is (seen_above _ c.args.at c.self.invariant c.if-at-lt-BASE.false
    (let l = c.if-page-len.true in omega (arith, l)))

pub returns-then-word-eq0 : goal.returns-then-word-eq0
returns-then-word-eq0 c =
    owner_along c.args.at _ _ _ c.self.view_is
    (seen_nobody _ c.args.at _ c.self.invariant c.if-at-lt-BASE.false (let l = c.if-page-len.false in omega (arith, l)) c.index-word.ensures c.if-word-eq0.true)

pub returns-then-place-index : goal.returns-then-place-index
returns-then-place-index c =
    owner_along c.args.at _ _ _ c.self.view_is
    (seen_region _ c.args.at _ c.self.invariant c.if-at-lt-BASE.false (let l = c.if-page-len.false in omega (arith, l)) c.index-word.ensures c.if-word-eq1.true
    _ c.index.ensures c.if-place-index.true)

pub returns-else-place-index : goal.returns-else-place-index
returns-else-place-index c =
    owner_along c.args.at _ _ _ c.self.view_is
    (seen_waste _ c.args.at _ c.self.invariant c.if-at-lt-BASE.false (let l = c.if-page-len.false in omega (arith, l)) c.index-word.ensures c.if-word-eq1.true
    _ c.index.ensures c.if-place-index.false)

pub nonzero_div-slot : goal.nonzero_div-slot
nonzero_div-slot c =
    let class = seen_class _ c.args.at _ c.self.invariant c.if-at-lt-BASE.false (let l = c.if-page-len.false in
    omega (arith, l)) c.index-word.ensures c.if-word-eq0.false c.if-word-eq1.false in
    let some = class.some in omega (arith, some)

pub index-requires-2 : goal.index-requires-2
index-requires-2 c =
    let l = seen_place _ c.args.at _ c.self.invariant c.if-at-lt-BASE.false (let l = c.if-page-len.false in
    omega (arith, l)) c.index-word.ensures c.if-word-eq0.false c.if-word-eq1.false in
    omega (arith, l)

pub returns-then-index-room : goal.returns-then-index-room
returns-then-index-room c =
    owner_along c.args.at _ _ _ c.self.view_is
    (seen_alone _ c.args.at _ c.self.invariant c.if-at-lt-BASE.false (let l = c.if-page-len.false in
    omega (arith, l)) c.index-word.ensures c.if-word-eq0.false c.if-word-eq1.false
    _ c.index-2.ensures c.if-index-room.true)

pub returns-else-index-room : goal.returns-else-index-room
returns-else-index-room c =
    owner_along c.args.at _ _ _ c.self.view_is
    (seen_vacant _ c.args.at _ c.self.invariant c.if-at-lt-BASE.false (let l = c.if-page-len.false in
    omega (arith, l)) c.index-word.ensures c.if-word-eq0.false c.if-word-eq1.false
    _ c.index-2.ensures c.if-index-room.false)
