use Rattle.std.proofs.Common.{◌∙◌, ap, arith, length}
use Rattle.region_runtime.specs.Steps.{pool_of}
use Rattle.region_runtime.proofs.Words.{word_read}
use Rattle.region_runtime.proofs.Bytes.{live_below, live_above, live_waste, live_held, chain_within}
use Rattle.region_runtime.proofs.pool.Pool.is_live.Goals as goal

pub returns-then-at-lt-BASE : goal.returns-then-at-lt-BASE
returns-then-at-lt-BASE c = live_below c.args.self.now c.args.at c.if-at-lt-BASE.true

pub returns-then-page-pages : goal.returns-then-page-pages
returns-then-page-pages c = live_above c.args.self.now c.args.at c.if-at-lt-BASE.false (let e = c.pages.ensures.count in let l = c.if-page-pages.true in omega
    (arith, e, l))

pub returns-then-at-word : goal.returns-then-at-word
returns-then-at-word c =
    live_waste (pool_of c.self.inside.book) _ c.self.view_is c.args.at _ c.if-at-lt-BASE.false (c.word.ensures
    ∙ word_read _ _ 2 (let v = ap (λ p. length p.words) c.self.view_is in let e = c.pages.ensures.count in let l =
    c.if-page-pages.false in omega (arith, v, e, l)) (omega arith)) c.if-at-word.true

pub is_held-requires-clause-within : goal.is_held-requires-clause-within
is_held-requires-clause-within c = chain_within (pool_of c.self.inside.book) c.self.invariant

pub returns : goal.returns
returns c =
    live_held (pool_of c.self.inside.book) _ c.self.view_is c.args.at _ c.if-at-lt-BASE.false (c.word.ensures
    ∙ word_read _ _ 2 (let v = ap (λ p. length p.words) c.self.view_is in let e = c.pages.ensures.count in let l =
    c.if-page-pages.false in omega (arith, v, e, l)) (omega arith))
    c.if-at-word.false _ c.is_held.ensures
