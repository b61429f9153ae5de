use Rattle.std.proofs.Common.{◌∙◌, refl, ap, arith, length}
use Rattle.region_runtime.specs.Headers.{word_in}
use Rattle.region_runtime.specs.Steps.{pool_of}
use Rattle.region_runtime.proofs.Words.{taken_beyond, taken_differs, taken_is, word_read}
use Rattle.region_runtime.proofs.Sets.{word_read_there, word_not_there}
use Rattle.region_runtime.proofs.pool.Pool.page_word.Goals as goal

pub returns-then-page-pages : goal.returns-then-page-pages
returns-then-page-pages c =
    word_not_there c.args.self.now c.args.self.now refl c.args.page c.args.field (taken_beyond _ c.args.page
    (let e = c.pages.ensures.count in let l = c.if-page-pages.true in
    omega (arith, e, l)))

pub returns-then-word-ne-TAKEN : goal.returns-then-word-ne-TAKEN
returns-then-word-ne-TAKEN c =
    word_not_there (pool_of c.self.inside.book) _ c.self.view_is c.args.page c.args.field
    (taken_differs (word_in c.self.inside.book.raw.words) c.args.page _ (c.word.ensures
    ∙ word_read _ c.args.page 1 (let v = ap (λ p. length p.words) c.self.view_is in let e = c.pages.ensures.count in let l = c.if-page-pages.false in
    omega (arith, v, e, l)) (omega arith)) c.if-word-ne-TAKEN.true)

pub returns : goal.returns
returns c =
    word_read_there (pool_of c.self.inside.book) _ c.self.view_is c.args.page c.args.field _
    (taken_is (word_in c.self.inside.book.raw.words) c.args.page _ (c.word.ensures
    ∙ word_read _ c.args.page 1 (let v = ap (λ p. length p.words) c.self.view_is in let e = c.pages.ensures.count in let l = c.if-page-pages.false in
    omega (arith, v, e, l)) (omega arith)) c.if-word-ne-TAKEN.false)
    (omega arith) (omega arith) (c.word-2.ensures
    ∙ word_read _ c.args.page c.args.field (let v = ap (λ p. length p.words) c.self.view_is in let e = c.pages.ensures.count in let l = c.if-page-pages.false in
    omega (arith, v, e, l)) (omega arith))
