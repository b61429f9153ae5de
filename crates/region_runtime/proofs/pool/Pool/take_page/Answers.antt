use Rattle.std.proofs.Common.{arith, ◌∙◌, ap, sym, subst, ◌<◌, ◌/◌, length}
use Rattle.region_runtime.specs.Steps.{pool_of, seen, next_page, with_taken, without_page}
use Rattle.region_runtime.proofs.Blank.{link_is}
use Rattle.region_runtime.proofs.Words.{free_seen}
use Rattle.region_runtime.proofs.Kept.{taken}
use Rattle.region_runtime.proofs.Along.{apart, bytes_along, sound_after, next_within, GotSays, got_says}
use Rattle.region_runtime.proofs.pool.Pool.take_page.Goals as goal

pub returns-then-is_full-clause-bytes : goal.returns-then-is_full-clause-bytes
returns-then-is_full-clause-bytes c = bytes_along _ _ (pool_of c.begin.new.self) c.self.view_is (ap (λ r. r.bytes) c.begin.ensures.raw)

pub returns-then-is_full-clause-apart : goal.returns-then-is_full-clause-apart
returns-then-is_full-clause-apart c = apart (pool_of c.begin.new.self)

pub take-page-requires-clause-page : goal.take-page-requires-clause-page
take-page-requires-clause-page c =
    let n = next_within (pool_of c.self.inside.book) c.self.invariant (free_seen (seen c.self.inside.book) _ _ c.begin.ensures.shape c.is_full.ensures
    c.if-is_full.false) in
    subst (λ t. next_page t < t.pages) (sym c.begin.ensures.shape) n

pub mark_taken-requires-clause-page : goal.mark_taken-requires-clause-page
mark_taken-requires-clause-page c =
    let n = next_within (pool_of c.self.inside.book) c.self.invariant (free_seen (seen c.self.inside.book) _ _ c.begin.ensures.shape c.is_full.ensures
    c.if-is_full.false) in
    subst (λ r. c.take-page.result < length r.words / 16) (sym (c.take-page.ensures.raw ∙ c.begin.ensures.raw))
    (subst (λ k. k < length c.self.inside.book.raw.words / 16) (sym (c.take-page.ensures.page ∙ ap next_page c.begin.ensures.shape)) n)

pub invariant_of-self-2 : goal.invariant_of-self-2
invariant_of-self-2 c =
    let t = seen c.self.inside.book in
    sound_after (pool_of c.self.inside.book) (pool_of c.mark_taken.new.self) (with_taken (next_page t) (without_page t)) c.self.invariant
    (c.mark_taken.ensures.long ∙ ap (λ r. length r.words) (c.take-page.ensures.raw ∙ c.begin.ensures.raw))
    (c.mark_taken.ensures.bytes ∙ ap (λ r. r.bytes) (c.take-page.ensures.raw ∙ c.begin.ensures.raw))
    (c.mark_taken.ensures.shape ∙ ap (with_taken c.take-page.result) (c.take-page.ensures.shape ∙ ap without_page c.begin.ensures.shape)
    ∙ ap (λ k. with_taken k (without_page t)) (c.take-page.ensures.page ∙ ap next_page c.begin.ensures.shape))
    (taken t c.self.invariant.ordered (free_seen t _ _ c.begin.ensures.shape c.is_full.ensures c.if-is_full.false)).ordered

-- what is said of a page that is taken
page_says : (c : goal.After-mark_taken) → GotSays c.args.self.now (pool_of c.mark_taken.new.self) c.take-page.result
page_says c =
    let t = seen c.self.inside.book in
    got_says (pool_of c.self.inside.book) c.args.self.now (pool_of c.mark_taken.new.self) c.take-page.result c.self.view_is c.self.invariant
    (free_seen t _ _ c.begin.ensures.shape c.is_full.ensures c.if-is_full.false) (c.take-page.ensures.page ∙ ap next_page c.begin.ensures.shape)
    (c.mark_taken.ensures.shape ∙ ap (with_taken c.take-page.result) (c.take-page.ensures.shape ∙ ap without_page c.begin.ensures.shape))
    (c.mark_taken.ensures.bytes ∙ ap (λ r. r.bytes) (c.take-page.ensures.raw ∙ c.begin.ensures.raw))

pub returns-clause-gets : goal.returns-clause-gets
returns-clause-gets c = (page_says c).got

pub returns-clause-tags : goal.returns-clause-tags
returns-clause-tags c = (page_says c).tags

pub returns-clause-bytes : goal.returns-clause-bytes
returns-clause-bytes c = (page_says c).bytes

pub returns-clause-fresh : goal.returns-clause-fresh
returns-clause-fresh c = (page_says c).fresh

pub returns-clause-apart : goal.returns-clause-apart
returns-clause-apart c = apart (pool_of c.mark_taken.new.self)

pub returns-clause-touches : goal.returns-clause-touches
returns-clause-touches c =
    let l = link_is (pool_of c.self.inside.book) _ (seen c.begin.new.self) c.self.view_is c.begin.ensures.shape in
    let a = c.begin.ensures.touched in let b = c.take-page.ensures.touched in let d = c.mark_taken.ensures.touched in omega (arith, l, a, b, d)
