use Rattle.std.proofs.Common.{◌∙◌, ap, sym, subst, arith, ◌<◌, ◌≤◌, ◌+◌, ◌-◌, ◌/◌, length}
use Rattle.region_runtime.specs.Pool.{changed_words}
use Rattle.region_runtime.specs.Steps.{pool_of, seen, with_freed}
use Rattle.region_runtime.specs.Touches.{reads_number}
use Rattle.region_runtime.proofs.Words.{live_some, live_page, live_seen, dead_seen, no_change}
use Rattle.region_runtime.proofs.Ordered.{count_least}
use Rattle.region_runtime.proofs.Released.{freed}
use Rattle.region_runtime.proofs.Along.{apart, bytes_along, sound_after, FreeSays, free_says}
use Rattle.region_runtime.proofs.Sets.{live_touches, dead_touches}
use Rattle.region_runtime.proofs.pool.Pool.region_free.Goals as goal

pub returns-then-not-knows-clause-bytes : goal.returns-then-not-knows-clause-bytes
returns-then-not-knows-clause-bytes c =
    bytes_along _ _ (pool_of c.knows.new.self) c.self.view_is (ap (λ r. r.bytes) (c.knows.ensures.raw ∙ c.begin.ensures.raw))

pub returns-then-not-knows-clause-few : goal.returns-then-not-knows-clause-few
returns-then-not-knows-clause-few c =
    let e = ap (λ r. r.words) (c.knows.ensures.raw ∙ c.begin.ensures.raw) ∙ ap (λ p. p.words) c.self.view_is in
    let n = ap (changed_words c.args.self.now.words) e ∙ no_change c.args.self.now.words in omega (arith, n)

pub returns-then-not-knows-clause-counted : goal.returns-then-not-knows-clause-counted
returns-then-not-knows-clause-counted c =
    let e = ap (λ r. r.words) (c.knows.ensures.raw ∙ c.begin.ensures.raw) ∙ ap (λ p. p.words) c.self.view_is in
    let n = ap (changed_words c.args.self.now.words) e ∙ no_change c.args.self.now.words in omega (arith, n)

pub returns-then-not-knows-clause-apart : goal.returns-then-not-knows-clause-apart
returns-then-not-knows-clause-apart c = apart (pool_of c.knows.new.self)

pub splice-requires-clause-some : goal.splice-requires-clause-some
splice-requires-clause-some c =
    live_some _ c.args.handle.0 (live_seen (seen c.self.inside.book) _ c.args.handle.0 _ c.begin.ensures.shape c.knows.ensures.value c.if-not-knows.false)

pub splice-requires-clause-first : goal.splice-requires-clause-first
splice-requires-clause-first c =
    subst (λ r. c.args.handle.0 - 1 < length r.words / 16) (sym (c.knows.ensures.raw ∙ c.begin.ensures.raw))
    (live_page _ c.args.handle.0 (live_seen (seen c.self.inside.book) _ c.args.handle.0 _ c.begin.ensures.shape c.knows.ensures.value c.if-not-knows.false))

pub splice-requires-clause-small : goal.splice-requires-clause-small
splice-requires-clause-small c =
    subst (λ t. t.word (c.args.handle.0 - 1) 4 + t.freed ≤ 4096) (sym (c.knows.ensures.shape ∙ c.begin.ensures.shape))
    (count_least (seen c.self.inside.book) c.self.invariant.ordered c.args.handle.0
    (live_seen (seen c.self.inside.book) _ c.args.handle.0 _ c.begin.ensures.shape c.knows.ensures.value c.if-not-knows.false))

pub invariant_of-self-2 : goal.invariant_of-self-2
invariant_of-self-2 c =
    let h = c.args.handle.0 in
    sound_after (pool_of c.self.inside.book) (pool_of c.splice.new.self) (with_freed h (seen c.self.inside.book)) c.self.invariant
    (c.splice.ensures.long ∙ ap (λ r. length r.words) (c.knows.ensures.raw ∙ c.begin.ensures.raw))
    (c.splice.ensures.bytes ∙ ap (λ r. r.bytes) (c.knows.ensures.raw ∙ c.begin.ensures.raw))
    (c.splice.ensures.shape ∙ ap (with_freed h) (c.knows.ensures.shape ∙ c.begin.ensures.shape))
    (freed (seen c.self.inside.book) c.self.invariant.ordered h
    (live_seen (seen c.self.inside.book) _ h _ c.begin.ensures.shape c.knows.ensures.value c.if-not-knows.false)).ordered

-- what is said of a region that was freed
freed_says : (c : goal.After-splice) → FreeSays c.args.self.now (pool_of c.splice.new.self) c.args.handle.0
freed_says c =
    let h = c.args.handle.0 in
    free_says (pool_of c.self.inside.book) c.args.self.now (pool_of c.splice.new.self) h c.self.view_is c.self.invariant
    (live_seen (seen c.self.inside.book) _ h _ c.begin.ensures.shape c.knows.ensures.value c.if-not-knows.false)
    (c.splice.ensures.shape ∙ ap (with_freed h) (c.knows.ensures.shape ∙ c.begin.ensures.shape))
    (c.splice.ensures.bytes ∙ ap (λ r. r.bytes) (c.knows.ensures.raw ∙ c.begin.ensures.raw))

pub returns-clause-does : goal.returns-clause-does
returns-clause-does c = (freed_says c).does

pub returns-clause-tags : goal.returns-clause-tags
returns-clause-tags c = (freed_says c).tags

pub returns-clause-taken : goal.returns-clause-taken
returns-clause-taken c = (freed_says c).taken

pub returns-clause-words : goal.returns-clause-words
returns-clause-words c = (freed_says c).words

pub returns-clause-bytes : goal.returns-clause-bytes
returns-clause-bytes c = (freed_says c).bytes

pub returns-clause-apart : goal.returns-clause-apart
returns-clause-apart c = apart (pool_of c.splice.new.self)

pub returns-clause-touches : goal.returns-clause-touches
returns-clause-touches c =
    let a = c.begin.ensures.touched in let b = c.knows.ensures.live c.if-not-knows.false in let d = c.splice.ensures.touched in
    live_touches (pool_of c.self.inside.book) _ c.self.view_is 5 c.args.handle.0 _
    (live_seen (seen c.self.inside.book) _ c.args.handle.0 _ c.begin.ensures.shape c.knows.ensures.value c.if-not-knows.false) (omega (arith, a, b, d))

pub returns-then-not-knows-clause-touches : goal.returns-then-not-knows-clause-touches
returns-then-not-knows-clause-touches c =
    let a = c.begin.ensures.touched in let b = c.knows.ensures.touched in
    let r = ap (λ r. reads_number (length r.words / 16) c.args.handle.0) c.begin.ensures.raw in
    dead_touches (pool_of c.self.inside.book) _ c.self.view_is 5 c.args.handle.0 _
    (dead_seen (seen c.self.inside.book) _ c.args.handle.0 _ c.begin.ensures.shape c.knows.ensures.value c.if-not-knows.true) (omega (arith, a, b, r))
