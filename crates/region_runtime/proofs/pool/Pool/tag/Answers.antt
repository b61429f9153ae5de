use Rattle.std.proofs.Common.{arith, ◌∙◌, ap, sym, subst, ◌<◌, ◌-◌, ◌/◌, length}
use Rattle.region_runtime.specs.Headers.{tag_in}
use Rattle.region_runtime.specs.Steps.{pool_of, seen}
use Rattle.region_runtime.specs.Touches.{reads_number}
use Rattle.region_runtime.proofs.Words.{live_some, live_page, live_seen, dead_seen}
use Rattle.region_runtime.proofs.Along.{bytes_along}
use Rattle.region_runtime.proofs.Sets.{live_touches, dead_touches, no_tag, tag_read}
use Rattle.region_runtime.proofs.pool.Pool.tag.Goals as goal

pub tag-requires-clause-some : goal.tag-requires-clause-some
tag-requires-clause-some c = live_some _ c.args.handle.0 (live_seen
    (seen c.self.inside.book) _ c.args.handle.0 _ c.begin.ensures.shape c.knows.ensures.value c.if-knows.true)

pub tag-requires-clause-first : goal.tag-requires-clause-first
tag-requires-clause-first c =
    subst (λ r. c.args.handle.0 - 1 < length r.words / 16) (sym (c.knows.ensures.raw
    ∙ c.begin.ensures.raw)) (live_page _ c.args.handle.0 (live_seen
    (seen c.self.inside.book) _ c.args.handle.0 _ c.begin.ensures.shape c.knows.ensures.value c.if-knows.true))

pub returns-then-knows-clause-tag : goal.returns-then-knows-clause-tag
returns-then-knows-clause-tag c =
    tag_read (pool_of c.self.inside.book) _ c.self.view_is c.args.handle.0 _ (live_seen
    (seen c.self.inside.book) _ c.args.handle.0 _ c.begin.ensures.shape c.knows.ensures.value c.if-knows.true)
    (c.tag.ensures.value ∙ ap (λ t. tag_in t.word c.args.handle.0) (c.knows.ensures.shape ∙ c.begin.ensures.shape))

pub returns-then-knows-clause-bytes : goal.returns-then-knows-clause-bytes
returns-then-knows-clause-bytes c =
    bytes_along _ _ (pool_of c.tag.new.self) c.self.view_is (ap (λ r. r.bytes) (c.tag.ensures.raw ∙ c.knows.ensures.raw ∙ c.begin.ensures.raw))

pub returns-else-knows-clause-tag : goal.returns-else-knows-clause-tag
returns-else-knows-clause-tag c = no_tag (pool_of c.self.inside.book) _ c.self.view_is c.args.handle.0 (dead_seen
    (seen c.self.inside.book) _ c.args.handle.0 _ c.begin.ensures.shape c.knows.ensures.value c.if-knows.false)

pub returns-else-knows-clause-bytes : goal.returns-else-knows-clause-bytes
returns-else-knows-clause-bytes c =
    bytes_along _ _ (pool_of c.knows.new.self) c.self.view_is (ap (λ r. r.bytes) (c.knows.ensures.raw ∙ c.begin.ensures.raw))

pub returns-then-knows-clause-touches : goal.returns-then-knows-clause-touches
returns-then-knows-clause-touches c =
    let a = c.begin.ensures.touched in let b = c.knows.ensures.live c.if-knows.true in let d = c.tag.ensures.touched in
    live_touches (pool_of c.self.inside.book) _ c.self.view_is 2 c.args.handle.0 _
    (live_seen (seen c.self.inside.book) _ c.args.handle.0 _ c.begin.ensures.shape c.knows.ensures.value c.if-knows.true) (omega (arith, a, b, d))

pub returns-else-knows-clause-touches : goal.returns-else-knows-clause-touches
returns-else-knows-clause-touches c =
    let a = c.begin.ensures.touched in let b = c.knows.ensures.touched in
    let r = ap (λ r. reads_number (length r.words / 16) c.args.handle.0) c.begin.ensures.raw in
    dead_touches (pool_of c.self.inside.book) _ c.self.view_is 2 c.args.handle.0 _
    (dead_seen (seen c.self.inside.book) _ c.args.handle.0 _ c.begin.ensures.shape c.knows.ensures.value c.if-knows.false) (omega (arith, a, b, r))
