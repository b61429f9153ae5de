use Rattle.std.proofs.Common.{◌∙◌, Ok, refl, ap, sym, subst, arith, ◌<◌, ◌≤◌, ◌+◌, ◌-◌, ◌*◌, ◌/◌, length, nat_eq}
use Rattle.arena_laws.specs.Lawful.{Grants, takes_blocks}
use Rattle.region_runtime.specs.Headers.{word_in, owner_of, used_of}
use Rattle.region_runtime.specs.Pool.{held, standing_by, last_of, left_of}
use Rattle.region_runtime.specs.Steps.{pool_of, seen, next_page, with_page, with_word, without_page}
use Rattle.arena_laws.specs.Counts.{run_of}
use Rattle.arena_laws.specs.Laws.{Does, region_alloc}
use Rattle.region_runtime.specs.Runs.{IsRun}
use Rattle.region_runtime.specs.Touches.{reads_number}
use Rattle.region_runtime.proofs.Blank.{link_is}
use Rattle.region_runtime.proofs.Words.{free_seen, live_page}
use Rattle.region_runtime.proofs.Serves.{serves_live}
use Rattle.region_runtime.proofs.Along.{apart, bytes_along, next_within, pages_few}
use Rattle.region_runtime.proofs.Placed.{short_room}
use Rattle.region_runtime.proofs.Told.{cut_touched, grow_touched, last_in, last_fits, last_some, PlaceSays, cut_says, grow_says, hand_other, count_small}
use Rattle.region_runtime.proofs.Told.{run_says}
use Rattle.region_runtime.proofs.pool.Pool.region_alloc.Goals as goal

pub returns-then-not-serves-clause-bytes : goal.returns-then-not-serves-clause-bytes
returns-then-not-serves-clause-bytes c =
    bytes_along _ _ (pool_of c.serves.new.self) c.self.view_is (ap (λ r. r.bytes) (c.serves.ensures.raw ∙ c.begin.ensures.raw))

pub returns-then-not-serves-clause-apart : goal.returns-then-not-serves-clause-apart
returns-then-not-serves-clause-apart c = apart (pool_of c.serves.new.self)

pub returns-then-bytes-gt-LIMIT-clause-bytes : goal.returns-then-bytes-gt-LIMIT-clause-bytes
returns-then-bytes-gt-LIMIT-clause-bytes c =
    bytes_along _ _ (pool_of c.serves.new.self) c.self.view_is (ap (λ r. r.bytes) (c.serves.ensures.raw ∙ c.begin.ensures.raw))

pub returns-then-bytes-gt-LIMIT-clause-apart : goal.returns-then-bytes-gt-LIMIT-clause-apart
returns-then-bytes-gt-LIMIT-clause-apart c = apart (pool_of c.serves.new.self)

-- the number's page is there
pub last-last-requires-clause-first : goal.last-last-requires-clause-first
last-last-requires-clause-first c =
    let h = c.args.handle.0 in
    λ l. subst (λ r. h - 1 < length r.words / 16) (sym (c.serves.ensures.raw ∙ c.begin.ensures.raw))
    (live_page c.self.inside.book.raw.words h (serves_live _ h (ap (λ t. takes_blocks c.args.handle.0 (standing_by (owner_of t.word) c.args.handle.0))
    (sym c.begin.ensures.shape) ∙ sym c.serves.ensures.value
    ∙ c.if-not-serves.false) l))

pub last-last-requires-clause-page : goal.last-last-requires-clause-page
last-last-requires-clause-page c =
    subst (λ t. last_of t c.args.handle.0 ≤ t.pages) (sym (c.serves.ensures.shape ∙ c.begin.ensures.shape))
    (last_in (pool_of c.self.inside.book) c.self.invariant c.args.handle.0)

pub left-requires-clause-page : goal.left-requires-clause-page
left-requires-clause-page c =
    let e = c.last-last.ensures.value ∙ ap (λ t. last_of t c.args.handle.0) (c.serves.ensures.shape ∙ c.begin.ensures.shape) in
    subst (λ r. c.last-last.result ≤ length r.words / 16) (sym (c.last-last.ensures.raw ∙ c.serves.ensures.raw ∙ c.begin.ensures.raw))
    (subst (λ k. k ≤ length c.self.inside.book.raw.words / 16) (sym e) (last_in (pool_of c.self.inside.book) c.self.invariant c.args.handle.0))

pub cut-requires-clause-page : goal.cut-requires-clause-page
cut-requires-clause-page c =
    let t = seen c.self.inside.book in
    let h = c.args.handle.0 in
    let raws = c.left.ensures.raw ∙ c.last-last.ensures.raw ∙ c.serves.ensures.raw ∙ c.begin.ensures.raw in
    let shapes = c.left.ensures.shape ∙ c.last-last.ensures.shape ∙ c.serves.ensures.shape ∙ c.begin.ensures.shape in
    let last_is = c.last-last.ensures.value ∙ ap (λ k. last_of k h) (c.serves.ensures.shape ∙ c.begin.ensures.shape) in
    let left_is = c.left.ensures.value ∙ ap (λ k. left_of (used_of k.word) c.last-last.result) (c.last-last.ensures.shape ∙ c.serves.ensures.shape
    ∙ c.begin.ensures.shape) in
    let s = last_some (pool_of c.self.inside.book) c.args.self.now (pool_of c.self.inside.book) c.self.view_is c.self.invariant refl refl h c.args.bytes
    (ap (λ t. takes_blocks c.args.handle.0 (standing_by (owner_of t.word) c.args.handle.0)) (sym c.begin.ensures.shape) ∙ sym c.serves.ensures.value
    ∙ c.if-not-serves.false)
    c.room_for-room.result (short_room c.args.bytes c.room_for-room.result (c.room_for-room.ensures.room c.if-bytes-gt-LIMIT.false) c.if-room-gt-PAGE.false)
    (c.room_for-room.ensures.room c.if-bytes-gt-LIMIT.false)
    c.last-last.result c.left.result last_is left_is c.if-room-left.true in
    let l = last_in (pool_of c.self.inside.book) c.self.invariant h in
    subst (λ r. c.last-last.result - 1 < length r.words / 16) (sym raws) (omega (arith, s, l, last_is))

pub cut-requires-clause-within : goal.cut-requires-clause-within
cut-requires-clause-within c =
    let t = seen c.self.inside.book in
    let h = c.args.handle.0 in
    let raws = c.left.ensures.raw ∙ c.last-last.ensures.raw ∙ c.serves.ensures.raw ∙ c.begin.ensures.raw in
    let shapes = c.left.ensures.shape ∙ c.last-last.ensures.shape ∙ c.serves.ensures.shape ∙ c.begin.ensures.shape in
    let last_is = c.last-last.ensures.value ∙ ap (λ k. last_of k h) (c.serves.ensures.shape ∙ c.begin.ensures.shape) in
    let left_is = c.left.ensures.value ∙ ap (λ k. left_of (used_of k.word) c.last-last.result) (c.last-last.ensures.shape ∙ c.serves.ensures.shape
    ∙ c.begin.ensures.shape) in
    let f = last_fits (pool_of c.self.inside.book) c.args.self.now (pool_of c.self.inside.book) c.self.view_is c.self.invariant refl refl h c.args.bytes
    (ap (λ t. takes_blocks c.args.handle.0 (standing_by (owner_of t.word) c.args.handle.0)) (sym c.begin.ensures.shape) ∙ sym c.serves.ensures.value
    ∙ c.if-not-serves.false)
    c.room_for-room.result (short_room c.args.bytes c.room_for-room.result (c.room_for-room.ensures.room c.if-bytes-gt-LIMIT.false) c.if-room-gt-PAGE.false)
    (c.room_for-room.ensures.room c.if-bytes-gt-LIMIT.false)
    c.last-last.result c.left.result last_is left_is c.if-room-left.true in
    subst (λ k. used_of k.word (c.last-last.result - 1) + c.room_for-room.result ≤ 4096) (sym shapes) f

-- what is said of the block then
cut_said : (c : goal.After-cut) → PlaceSays c.args.self.now (pool_of c.cut.new.self) c.args.handle.0 c.args.bytes c.cut.result
cut_said c =
    let h = c.args.handle.0 in
    let raws = c.left.ensures.raw ∙ c.last-last.ensures.raw ∙ c.serves.ensures.raw ∙ c.begin.ensures.raw in
    let shapes = c.left.ensures.shape ∙ c.last-last.ensures.shape ∙ c.serves.ensures.shape ∙ c.begin.ensures.shape in
    let last_is = c.last-last.ensures.value ∙ ap (λ k. last_of k h) (c.serves.ensures.shape ∙ c.begin.ensures.shape) in
    let left_is = c.left.ensures.value ∙ ap (λ k. left_of (used_of k.word) c.last-last.result) (c.last-last.ensures.shape ∙ c.serves.ensures.shape
    ∙ c.begin.ensures.shape) in
    cut_says (pool_of c.self.inside.book) c.args.self.now (pool_of c.cut.new.self) c.self.view_is c.self.invariant (c.cut.ensures.long
    ∙ ap (λ r. length r.words) raws)
    (c.cut.ensures.bytes ∙ ap (λ r. r.bytes) raws) h c.args.bytes
    (ap (λ t. takes_blocks c.args.handle.0 (standing_by (owner_of t.word) c.args.handle.0)) (sym c.begin.ensures.shape) ∙ sym c.serves.ensures.value
    ∙ c.if-not-serves.false)
    c.room_for-room.result (short_room c.args.bytes c.room_for-room.result (c.room_for-room.ensures.room c.if-bytes-gt-LIMIT.false) c.if-room-gt-PAGE.false)
    (c.room_for-room.ensures.room c.if-bytes-gt-LIMIT.false) c.last-last.result c.left.result last_is left_is
    c.if-room-left.true c.cut.result (c.cut.ensures.value
    ∙ ap (λ k. 268435456 + 4096 * (c.last-last.result - 1) + used_of k.word (c.last-last.result - 1)) shapes)
    (c.cut.ensures.shape ∙ ap (λ k. with_word (c.last-last.result - 1) 2 (used_of k.word (c.last-last.result - 1) + c.room_for-room.result) k) shapes)

pub invariant_of-self-then-room-left : goal.invariant_of-self-then-room-left
invariant_of-self-then-room-left c = (cut_said c).sound

pub returns-then-room-left-clause-does : goal.returns-then-room-left-clause-does
returns-then-room-left-clause-does c = (cut_said c).does

pub returns-then-room-left-clause-full : goal.returns-then-room-left-clause-full
returns-then-room-left-clause-full c = (cut_said c).full

pub returns-then-room-left-clause-tags : goal.returns-then-room-left-clause-tags
returns-then-room-left-clause-tags c = (cut_said c).tags

pub returns-then-room-left-clause-taken : goal.returns-then-room-left-clause-taken
returns-then-room-left-clause-taken c = (cut_said c).taken

pub returns-then-room-left-clause-words : goal.returns-then-room-left-clause-words
returns-then-room-left-clause-words c = (cut_said c).words

pub returns-then-room-left-clause-bytes : goal.returns-then-room-left-clause-bytes
returns-then-room-left-clause-bytes c = (cut_said c).bytes

pub returns-then-room-left-clause-apart : goal.returns-then-room-left-clause-apart
returns-then-room-left-clause-apart c = apart (pool_of c.cut.new.self)

pub returns-then-is_full-clause-bytes : goal.returns-then-is_full-clause-bytes
returns-then-is_full-clause-bytes c =
    bytes_along _ _ (pool_of c.left.new.self) c.self.view_is (ap (λ r. r.bytes) (c.left.ensures.raw ∙ c.last-last.ensures.raw ∙ c.serves.ensures.raw
    ∙ c.begin.ensures.raw))

pub returns-then-is_full-clause-apart : goal.returns-then-is_full-clause-apart
returns-then-is_full-clause-apart c = apart (pool_of c.left.new.self)

pub take-page-requires-clause-page : goal.take-page-requires-clause-page
take-page-requires-clause-page c =
    let t = seen c.self.inside.book in
    let h = c.args.handle.0 in
    let raws = c.left.ensures.raw ∙ c.last-last.ensures.raw ∙ c.serves.ensures.raw ∙ c.begin.ensures.raw in
    let shapes = c.left.ensures.shape ∙ c.last-last.ensures.shape ∙ c.serves.ensures.shape ∙ c.begin.ensures.shape in
    let last_is = c.last-last.ensures.value ∙ ap (λ k. last_of k h) (c.serves.ensures.shape ∙ c.begin.ensures.shape) in
    let left_is = c.left.ensures.value ∙ ap (λ k. left_of (used_of k.word) c.last-last.result) (c.last-last.ensures.shape ∙ c.serves.ensures.shape
    ∙ c.begin.ensures.shape) in
    let n = next_within (pool_of c.self.inside.book) c.self.invariant (free_seen t _ _ shapes c.is_full.ensures c.if-is_full.false) in
    subst (λ k. next_page k < k.pages) (sym shapes) n

pub grow-requires-clause-page : goal.grow-requires-clause-page
grow-requires-clause-page c =
    let t = seen c.self.inside.book in
    let h = c.args.handle.0 in
    let raws = c.left.ensures.raw ∙ c.last-last.ensures.raw ∙ c.serves.ensures.raw ∙ c.begin.ensures.raw in
    let shapes = c.left.ensures.shape ∙ c.last-last.ensures.shape ∙ c.serves.ensures.shape ∙ c.begin.ensures.shape in
    let last_is = c.last-last.ensures.value ∙ ap (λ k. last_of k h) (c.serves.ensures.shape ∙ c.begin.ensures.shape) in
    let left_is = c.left.ensures.value ∙ ap (λ k. left_of (used_of k.word) c.last-last.result) (c.last-last.ensures.shape ∙ c.serves.ensures.shape
    ∙ c.begin.ensures.shape) in
    let n = next_within (pool_of c.self.inside.book) c.self.invariant (free_seen t _ _ shapes c.is_full.ensures c.if-is_full.false) in
    let e = c.take-page.ensures.page ∙ ap next_page shapes in
    subst (λ r. c.take-page.result < length r.words / 16) (sym (c.take-page.ensures.raw ∙ raws))
    (subst (λ k. k < length c.self.inside.book.raw.words / 16) (sym e) n)

pub grow-requires-clause-first : goal.grow-requires-clause-first
grow-requires-clause-first c =
    let t = seen c.self.inside.book in
    let h = c.args.handle.0 in
    let raws = c.left.ensures.raw ∙ c.last-last.ensures.raw ∙ c.serves.ensures.raw ∙ c.begin.ensures.raw in
    let shapes = c.left.ensures.shape ∙ c.last-last.ensures.shape ∙ c.serves.ensures.shape ∙ c.begin.ensures.shape in
    let last_is = c.last-last.ensures.value ∙ ap (λ k. last_of k h) (c.serves.ensures.shape ∙ c.begin.ensures.shape) in
    let left_is = c.left.ensures.value ∙ ap (λ k. left_of (used_of k.word) c.last-last.result) (c.last-last.ensures.shape ∙ c.serves.ensures.shape
    ∙ c.begin.ensures.shape) in
    λ l. subst (λ r. h - 1 < length r.words / 16) (sym (c.take-page.ensures.raw ∙ raws))
    (live_page c.self.inside.book.raw.words h (serves_live _ h (ap (λ t. takes_blocks c.args.handle.0 (standing_by (owner_of t.word) c.args.handle.0))
    (sym c.begin.ensures.shape) ∙ sym c.serves.ensures.value
    ∙ c.if-not-serves.false) l))

pub grow-requires-clause-other : goal.grow-requires-clause-other
grow-requires-clause-other c =
    let t = seen c.self.inside.book in
    let h = c.args.handle.0 in
    let raws = c.left.ensures.raw ∙ c.last-last.ensures.raw ∙ c.serves.ensures.raw ∙ c.begin.ensures.raw in
    let shapes = c.left.ensures.shape ∙ c.last-last.ensures.shape ∙ c.serves.ensures.shape ∙ c.begin.ensures.shape in
    let last_is = c.last-last.ensures.value ∙ ap (λ k. last_of k h) (c.serves.ensures.shape ∙ c.begin.ensures.shape) in
    let left_is = c.left.ensures.value ∙ ap (λ k. left_of (used_of k.word) c.last-last.result) (c.last-last.ensures.shape ∙ c.serves.ensures.shape
    ∙ c.begin.ensures.shape) in
    let e = c.take-page.ensures.page ∙ ap next_page shapes in
    λ l. ap (λ k. nat_eq k (h - 1)) e
    ∙ hand_other t c.self.invariant.ordered (free_seen t _ _ shapes c.is_full.ensures c.if-is_full.false) h (serves_live _ h (ap
    (λ t. takes_blocks c.args.handle.0 (standing_by (owner_of t.word) c.args.handle.0)) (sym c.begin.ensures.shape) ∙ sym c.serves.ensures.value
    ∙ c.if-not-serves.false) l)

pub grow-requires-clause-few : goal.grow-requires-clause-few
grow-requires-clause-few c =
    let t = seen c.self.inside.book in
    let h = c.args.handle.0 in
    let raws = c.left.ensures.raw ∙ c.last-last.ensures.raw ∙ c.serves.ensures.raw ∙ c.begin.ensures.raw in
    let shapes = c.left.ensures.shape ∙ c.last-last.ensures.shape ∙ c.serves.ensures.shape ∙ c.begin.ensures.shape in
    let last_is = c.last-last.ensures.value ∙ ap (λ k. last_of k h) (c.serves.ensures.shape ∙ c.begin.ensures.shape) in
    let left_is = c.left.ensures.value ∙ ap (λ k. left_of (used_of k.word) c.last-last.result) (c.last-last.ensures.shape ∙ c.serves.ensures.shape
    ∙ c.begin.ensures.shape) in
    λ l. subst (λ r. word_in r.words (h - 1) 4 ≤ 4096) (sym (c.take-page.ensures.raw ∙ raws))
    (count_small t c.self.invariant.ordered h (serves_live _ h (ap (λ t. takes_blocks c.args.handle.0 (standing_by (owner_of t.word) c.args.handle.0))
    (sym c.begin.ensures.shape) ∙ sym c.serves.ensures.value
    ∙ c.if-not-serves.false) l))

pub overflow_mul-result-2 : goal.overflow_mul-result-2
overflow_mul-result-2 c =
    let t = seen c.self.inside.book in
    let h = c.args.handle.0 in
    let raws = c.left.ensures.raw ∙ c.last-last.ensures.raw ∙ c.serves.ensures.raw ∙ c.begin.ensures.raw in
    let shapes = c.left.ensures.shape ∙ c.last-last.ensures.shape ∙ c.serves.ensures.shape ∙ c.begin.ensures.shape in
    let last_is = c.last-last.ensures.value ∙ ap (λ k. last_of k h) (c.serves.ensures.shape ∙ c.begin.ensures.shape) in
    let left_is = c.left.ensures.value ∙ ap (λ k. left_of (used_of k.word) c.last-last.result) (c.last-last.ensures.shape ∙ c.serves.ensures.shape
    ∙ c.begin.ensures.shape) in
    let n = next_within (pool_of c.self.inside.book) c.self.invariant (free_seen t _ _ shapes c.is_full.ensures c.if-is_full.false) in
    let e = c.take-page.ensures.page ∙ ap next_page shapes in
    let f = pages_few (pool_of c.self.inside.book) c.self.invariant in omega (arith, n, f, e)

pub overflow_add-result-2 : goal.overflow_add-result-2
overflow_add-result-2 c =
    let t = seen c.self.inside.book in
    let h = c.args.handle.0 in
    let raws = c.left.ensures.raw ∙ c.last-last.ensures.raw ∙ c.serves.ensures.raw ∙ c.begin.ensures.raw in
    let shapes = c.left.ensures.shape ∙ c.last-last.ensures.shape ∙ c.serves.ensures.shape ∙ c.begin.ensures.shape in
    let last_is = c.last-last.ensures.value ∙ ap (λ k. last_of k h) (c.serves.ensures.shape ∙ c.begin.ensures.shape) in
    let left_is = c.left.ensures.value ∙ ap (λ k. left_of (used_of k.word) c.last-last.result) (c.last-last.ensures.shape ∙ c.serves.ensures.shape
    ∙ c.begin.ensures.shape) in
    let n = next_within (pool_of c.self.inside.book) c.self.invariant (free_seen t _ _ shapes c.is_full.ensures c.if-is_full.false) in
    let e = c.take-page.ensures.page ∙ ap next_page shapes in
    let f = pages_few (pool_of c.self.inside.book) c.self.invariant in omega (arith, n, f, e)

-- and of one in a page that is taken
grow_said : (c : goal.After-grow) → PlaceSays c.args.self.now (pool_of c.grow.new.self) c.args.handle.0 c.args.bytes (268435456 + 4096 * c.take-page.result)
grow_said c =
    let t = seen c.self.inside.book in
    let h = c.args.handle.0 in
    let raws = c.left.ensures.raw ∙ c.last-last.ensures.raw ∙ c.serves.ensures.raw ∙ c.begin.ensures.raw in
    let shapes = c.left.ensures.shape ∙ c.last-last.ensures.shape ∙ c.serves.ensures.shape ∙ c.begin.ensures.shape in
    let last_is = c.last-last.ensures.value ∙ ap (λ k. last_of k h) (c.serves.ensures.shape ∙ c.begin.ensures.shape) in
    let left_is = c.left.ensures.value ∙ ap (λ k. left_of (used_of k.word) c.last-last.result) (c.last-last.ensures.shape ∙ c.serves.ensures.shape
    ∙ c.begin.ensures.shape) in
    grow_says (pool_of c.self.inside.book) c.args.self.now (pool_of c.grow.new.self) c.self.view_is c.self.invariant (c.grow.ensures.long
    ∙ ap (λ r. length r.words) (c.take-page.ensures.raw ∙ raws))
    (c.grow.ensures.bytes ∙ ap (λ r. r.bytes) (c.take-page.ensures.raw ∙ raws)) h c.args.bytes
    (ap (λ t. takes_blocks c.args.handle.0 (standing_by (owner_of t.word) c.args.handle.0)) (sym c.begin.ensures.shape) ∙ sym c.serves.ensures.value
    ∙ c.if-not-serves.false)
    c.room_for-room.result (short_room c.args.bytes c.room_for-room.result (c.room_for-room.ensures.room c.if-bytes-gt-LIMIT.false) c.if-room-gt-PAGE.false)
    (c.room_for-room.ensures.room c.if-bytes-gt-LIMIT.false) c.last-last.result c.left.result last_is left_is
    c.if-room-left.false c.take-page.result (free_seen t _ _ shapes c.is_full.ensures c.if-is_full.false) (c.take-page.ensures.page ∙ ap next_page shapes)
    (c.grow.ensures.shape ∙ ap (with_page h c.take-page.result c.room_for-room.result) (c.take-page.ensures.shape ∙ ap without_page shapes))

pub invariant_of-self-2 : goal.invariant_of-self-2
invariant_of-self-2 c = (grow_said c).sound

pub returns-clause-does : goal.returns-clause-does
returns-clause-does c = (grow_said c).does

pub returns-clause-full : goal.returns-clause-full
returns-clause-full c = (grow_said c).full

pub returns-clause-tags : goal.returns-clause-tags
returns-clause-tags c = (grow_said c).tags

pub returns-clause-taken : goal.returns-clause-taken
returns-clause-taken c = (grow_said c).taken

pub returns-clause-words : goal.returns-clause-words
returns-clause-words c = (grow_said c).words

pub returns-clause-bytes : goal.returns-clause-bytes
returns-clause-bytes c = (grow_said c).bytes

pub returns-clause-fresh : goal.returns-clause-fresh
returns-clause-fresh c = (grow_said c).fresh

pub returns-clause-apart : goal.returns-clause-apart
returns-clause-apart c = apart (pool_of c.grow.new.self)

pub returns-then-room-left-clause-touches : goal.returns-then-room-left-clause-touches
returns-then-room-left-clause-touches c =
    let h = c.args.handle.0 in
    let last_is = c.last-last.ensures.value ∙ ap (λ k. last_of k h) (c.serves.ensures.shape ∙ c.begin.ensures.shape) in
    let left_is = c.left.ensures.value ∙ ap (λ k. left_of (used_of k.word) c.last-last.result) (c.last-last.ensures.shape ∙ c.serves.ensures.shape
    ∙ c.begin.ensures.shape) in
    let z = c.begin.ensures.touched in let a = c.serves.ensures.touched in let b = c.last-last.ensures.touched in let d = c.left.ensures.touched in
    let r = ap (λ r. reads_number (length r.words / 16) h) c.begin.ensures.raw in
    let k = c.cut.ensures.touched in
    cut_touched (pool_of c.self.inside.book) c.args.self.now (pool_of c.self.inside.book) c.self.view_is c.self.invariant refl refl h c.args.bytes
    (ap (λ t. takes_blocks c.args.handle.0 (standing_by (owner_of t.word) c.args.handle.0)) (sym c.begin.ensures.shape) ∙ sym c.serves.ensures.value
    ∙ c.if-not-serves.false)
    c.room_for-room.result (short_room c.args.bytes c.room_for-room.result (c.room_for-room.ensures.room c.if-bytes-gt-LIMIT.false) c.if-room-gt-PAGE.false)
    (c.room_for-room.ensures.room c.if-bytes-gt-LIMIT.false) c.last-last.result c.left.result last_is left_is
    c.if-room-left.true c.cut.new.self.touched (omega (arith, z, a, b, d, k, r))

pub returns-clause-touches : goal.returns-clause-touches
returns-clause-touches c =
    let h = c.args.handle.0 in
    let last_is = c.last-last.ensures.value ∙ ap (λ k. last_of k h) (c.serves.ensures.shape ∙ c.begin.ensures.shape) in
    let left_is = c.left.ensures.value ∙ ap (λ k. left_of (used_of k.word) c.last-last.result) (c.last-last.ensures.shape ∙ c.serves.ensures.shape
    ∙ c.begin.ensures.shape) in
    let z = c.begin.ensures.touched in let a = c.serves.ensures.touched in let b = c.last-last.ensures.touched in let d = c.left.ensures.touched in
    let r = ap (λ r. reads_number (length r.words / 16) h) c.begin.ensures.raw in
    let shapes = c.left.ensures.shape ∙ c.last-last.ensures.shape ∙ c.serves.ensures.shape ∙ c.begin.ensures.shape in
    let m = link_is (pool_of c.self.inside.book) (pool_of c.self.inside.book) (seen c.left.new.self) refl shapes in
    let j = c.take-page.ensures.touched in let k = c.grow.ensures.touched in
    grow_touched (pool_of c.self.inside.book) c.args.self.now (pool_of c.self.inside.book) c.self.view_is c.self.invariant refl refl h c.args.bytes
    (ap (λ t. takes_blocks c.args.handle.0 (standing_by (owner_of t.word) c.args.handle.0)) (sym c.begin.ensures.shape) ∙ sym c.serves.ensures.value
    ∙ c.if-not-serves.false)
    c.room_for-room.result (short_room c.args.bytes c.room_for-room.result (c.room_for-room.ensures.room c.if-bytes-gt-LIMIT.false) c.if-room-gt-PAGE.false)
    (c.room_for-room.ensures.room c.if-bytes-gt-LIMIT.false) c.last-last.result c.left.result last_is left_is
    c.if-room-left.false c.grow.new.self.touched (omega (arith, z, a, b, d, j, k, m, r))

-- ---- a run of pages

pub returns-then-run_for-unused-clause-bytes : goal.returns-then-run_for-unused-clause-bytes
returns-then-run_for-unused-clause-bytes c =
    bytes_along _ _ (pool_of c.serves.new.self) c.self.view_is (ap (λ r. r.bytes) (c.serves.ensures.raw ∙ c.begin.ensures.raw))

pub returns-then-run_for-unused-clause-apart : goal.returns-then-run_for-unused-clause-apart
returns-then-run_for-unused-clause-apart c = apart (pool_of c.serves.new.self)

-- what is said of a block in a run
run_said : (c : goal.After-run) → PlaceSays c.args.self.now (pool_of c.run.new.self) c.args.handle.0 c.args.bytes
    (268435456 + 4096 * c.self.inside.book.ever_used)
run_said c =
    let t = seen c.self.inside.book in
    let h = c.args.handle.0 in
    let raws = c.serves.ensures.raw ∙ c.begin.ensures.raw in
    let shapes = c.serves.ensures.shape ∙ c.begin.ensures.shape in
    let room = c.room_for-room.result in
    run_says (pool_of c.self.inside.book) c.args.self.now (pool_of c.run.new.self) c.self.view_is c.self.invariant (c.run.ensures.long
    ∙ ap (λ r. length r.words) raws)
    (c.run.ensures.bytes ∙ ap (λ r. r.bytes) raws) h c.args.bytes
    (ap (λ t. takes_blocks c.args.handle.0 (standing_by (owner_of t.word) c.args.handle.0)) (sym c.begin.ensures.shape) ∙ sym c.serves.ensures.value
    ∙ c.if-not-serves.false)
    room c.if-bytes-gt-LIMIT.false (c.room_for-room.ensures.room c.if-bytes-gt-LIMIT.false) c.if-room-gt-PAGE.true
    (let e = c.unused.ensures in let f = c.run_for.ensures in let g = c.if-run_for-unused.false in let k = ap (λ t. t.pages - t.ever_used) shapes in omega
    (arith, e, f, g, k))
    (subst (λ t. IsRun t (seen c.run.new.self) h (268435456 + 4096 * t.ever_used) room (run_of room)) shapes c.run.ensures.run)

pub returns-then-room-gt-PAGE-clause-does : goal.returns-then-room-gt-PAGE-clause-does
returns-then-room-gt-PAGE-clause-does c =
    let e = ap (λ t. t.ever_used) (c.serves.ensures.shape ∙ c.begin.ensures.shape) in
    subst (λ n. Does (Ok (268435456 + 4096 * n)) (held (pool_of c.run.new.self)) (region_alloc c.args.handle.0 c.args.bytes (Grants
    (268435456 + 4096 * n)) (held c.args.self.now))) (sym e) (run_said c).does

pub returns-then-room-gt-PAGE-clause-bytes : goal.returns-then-room-gt-PAGE-clause-bytes
returns-then-room-gt-PAGE-clause-bytes c = (run_said c).bytes

pub returns-then-room-gt-PAGE-clause-apart : goal.returns-then-room-gt-PAGE-clause-apart
returns-then-room-gt-PAGE-clause-apart c = apart (pool_of c.run.new.self)
