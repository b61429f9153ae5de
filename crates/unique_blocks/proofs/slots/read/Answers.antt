use Rattle.std.proofs.Common.{sym, arith}
use Rattle.region_runtime.proofs.Words.{taken_beyond}
use Rattle.unique_blocks.proofs.Words.{beyond_read, none_read, unseen, unseen_untaken, untaken_word}
use Rattle.unique_blocks.proofs.slots.read.Goals as goal

pub returns-then-page-pages-clause-value : goal.returns-then-page-pages-clause-value
returns-then-page-pages-clause-value c =
    let e = c.pages.ensures.count in let l = c.if-page-pages.true in
    sym (untaken_word c.args.pool.now c.args.page c.args.field (sym (taken_beyond c.args.pool.now.words c.args.page (omega (arith, e, l)))))

pub returns-then-page-pages-clause-counts : goal.returns-then-page-pages-clause-counts
returns-then-page-pages-clause-counts c =
    let e = c.pages.ensures.count in let l = c.if-page-pages.true in
    let n = beyond_read c.args.pool.now c.args.page (omega (arith, e, l)) in omega (arith, n)

pub returns-then-page-pages-clause-taken : goal.returns-then-page-pages-clause-taken
returns-then-page-pages-clause-taken c = λ t.
    let e = c.pages.ensures.count in let l = c.if-page-pages.true in
    let n = taken_beyond c.args.pool.now.words c.args.page (omega (arith, e, l)) in absurd (cc)

pub returns-in-None-clause-value : goal.returns-in-None-clause-value
returns-in-None-clause-value c = unseen c.args.pool.now c.args.page c.args.field c.in-None.ensures

pub returns-in-None-clause-counts : goal.returns-in-None-clause-counts
returns-in-None-clause-counts c =
    let e = c.pages.ensures.count in let l = c.if-page-pages.false in
    let k = unseen_untaken c.args.pool.now c.args.page c.args.field c.requires.from c.requires.field c.in-None.ensures in
    let n = none_read c.args.pool.now c.args.page k (omega (arith, e, l)) in omega (arith, n)
