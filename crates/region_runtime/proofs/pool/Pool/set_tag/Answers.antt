use Rattle.std.proofs.Common.{arith, ◌∙◌, ap, sym, subst, ◌<◌, ◌-◌, ◌/◌, length}
use Rattle.region_runtime.specs.Steps.{pool_of, seen, with_word}
use Rattle.region_runtime.specs.Touches.{reads_number}
use Rattle.region_runtime.proofs.Words.{live_some, live_page, live_seen, dead_seen}
use Rattle.region_runtime.proofs.Along.{apart, bytes_along}
use Rattle.region_runtime.proofs.Sets.{live_touches, dead_touches, TagSays, tag_says, no_tag, tag_not_set}
use Rattle.arena_laws.specs.Holdings.{is_some}
use Rattle.region_runtime.proofs.pool.Pool.set_tag.Goals as goal

pub returns-then-not-knows-clause-says : goal.returns-then-not-knows-clause-says
returns-then-not-knows-clause-says c = ap is_some (no_tag (pool_of c.self.inside.book) _ c.self.view_is c.args.handle.0 (dead_seen
    (seen c.self.inside.book) _ c.args.handle.0 _ c.begin.ensures.shape c.knows.ensures.value c.if-not-knows.true))

pub returns-then-not-knows-clause-tags : goal.returns-then-not-knows-clause-tags
returns-then-not-knows-clause-tags c =
    tag_not_set (pool_of c.self.inside.book) _ (pool_of c.knows.new.self) c.self.view_is c.args.handle.0 c.args.value (dead_seen
    (seen c.self.inside.book) _ c.args.handle.0 _ c.begin.ensures.shape c.knows.ensures.value c.if-not-knows.true)
    (c.knows.ensures.shape ∙ c.begin.ensures.shape)

pub returns-then-not-knows-clause-bytes : goal.returns-then-not-knows-clause-bytes
returns-then-not-knows-clause-bytes c =
    bytes_along _ _ (pool_of c.knows.new.self) c.self.view_is (ap (λ r. r.bytes) (c.knows.ensures.raw ∙ c.begin.ensures.raw))

pub returns-then-not-knows-clause-apart : goal.returns-then-not-knows-clause-apart
returns-then-not-knows-clause-apart c = apart (pool_of c.knows.new.self)

pub set_tag-requires-clause-some : goal.set_tag-requires-clause-some
set_tag-requires-clause-some c = live_some _ c.args.handle.0 (live_seen
    (seen c.self.inside.book) _ c.args.handle.0 _ c.begin.ensures.shape c.knows.ensures.value c.if-not-knows.false)

pub set_tag-requires-clause-first : goal.set_tag-requires-clause-first
set_tag-requires-clause-first c =
    subst (λ r. c.args.handle.0 - 1 < length r.words / 16) (sym (c.knows.ensures.raw
    ∙ c.begin.ensures.raw)) (live_page _ c.args.handle.0 (live_seen
    (seen c.self.inside.book) _ c.args.handle.0 _ c.begin.ensures.shape c.knows.ensures.value c.if-not-knows.false))

-- what is said of a tag that is set
set_says : (c : goal.After-set_tag) → TagSays c.args.self.now (pool_of c.set_tag.new.self) c.args.handle.0 c.args.value
set_says c =
    tag_says (pool_of c.self.inside.book) c.args.self.now (pool_of c.set_tag.new.self) c.self.view_is c.self.invariant
    (c.set_tag.ensures.long ∙ ap (λ r. length r.words) (c.knows.ensures.raw ∙ c.begin.ensures.raw))
    (c.set_tag.ensures.bytes ∙ ap (λ r. r.bytes) (c.knows.ensures.raw ∙ c.begin.ensures.raw))
    c.args.handle.0 c.args.value (live_seen (seen c.self.inside.book) _ c.args.handle.0 _ c.begin.ensures.shape c.knows.ensures.value c.if-not-knows.false)
    (c.set_tag.ensures.shape ∙ ap (with_word (c.args.handle.0 - 1) 5 c.args.value) (c.knows.ensures.shape ∙ c.begin.ensures.shape))

pub invariant_of-self-2 : goal.invariant_of-self-2
invariant_of-self-2 c = (set_says c).sound

pub returns-clause-says : goal.returns-clause-says
returns-clause-says c = (set_says c).says

pub returns-clause-tags : goal.returns-clause-tags
returns-clause-tags c = (set_says c).tags

pub returns-clause-holds : goal.returns-clause-holds
returns-clause-holds c = (set_says c).holds

pub returns-clause-taken : goal.returns-clause-taken
returns-clause-taken c = (set_says c).taken

pub returns-clause-words : goal.returns-clause-words
returns-clause-words c = (set_says c).words

pub returns-clause-bytes : goal.returns-clause-bytes
returns-clause-bytes c = (set_says c).bytes

pub returns-clause-apart : goal.returns-clause-apart
returns-clause-apart c = apart (pool_of c.set_tag.new.self)

pub returns-clause-touches : goal.returns-clause-touches
returns-clause-touches c =
    let a = c.begin.ensures.touched in let b = c.knows.ensures.live c.if-not-knows.false in let d = c.set_tag.ensures.touched in
    live_touches (pool_of c.self.inside.book) _ c.self.view_is 2 c.args.handle.0 _
    (live_seen (seen c.self.inside.book) _ c.args.handle.0 _ c.begin.ensures.shape c.knows.ensures.value c.if-not-knows.false) (omega (arith, a, b, d))

pub returns-then-not-knows-clause-touches : goal.returns-then-not-knows-clause-touches
returns-then-not-knows-clause-touches c =
    let a = c.begin.ensures.touched in let b = c.knows.ensures.touched in
    let r = ap (λ r. reads_number (length r.words / 16) c.args.handle.0) c.begin.ensures.raw in
    dead_touches (pool_of c.self.inside.book) _ c.self.view_is 2 c.args.handle.0 _
    (dead_seen (seen c.self.inside.book) _ c.args.handle.0 _ c.begin.ensures.shape c.knows.ensures.value c.if-not-knows.true) (omega (arith, a, b, r))
