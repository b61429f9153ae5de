use Rattle.std.proofs.Common.{◌∙◌, arith, ap, ◌-◌, ◌≡◌}
use Rattle.std.specs.Prelude.{nat_lt}
use Rattle.region_runtime.specs.Chains.{follow, times}
use Rattle.region_runtime.specs.Headers.{link_of, word_in}
use Rattle.region_runtime.proofs.Words.{word_read}
use Rattle.region_runtime.proofs.Walked.{walk_found, walk_here, walk_on, walk_within, walk_done}
use Rattle.region_runtime.proofs.walk.leads_to.Goals as goal

pub returns-then-at-page : goal.returns-then-at-page
returns-then-at-page c = walk_found _ c.pages.left c.pages.at c.args.page c.pages-test.true c.if-at-page.true ∙ c.pages.invariant.same

pub word-at-requires-clause-page : goal.word-at-requires-clause-page
word-at-requires-clause-page c = c.pages.invariant.within c.pages.at (walk_here _ c.pages.left c.pages.at c.pages-test.true)

pub pages-preserved : goal.pages-preserved
pages-preserved c =
    let next = link_of (word_in c.args.raw.now.words) in
    let within = c.pages.invariant.within c.pages.at (walk_here next c.pages.left c.pages.at c.pages-test.true) in
    let read : c.word-at.result ≡ next c.pages.at = c.word-at.ensures ∙ word_read c.args.raw.now.words c.pages.at 0 within (omega arith) in
    record {
      within = λ q l. c.pages.invariant.within q (walk_within next c.pages.left c.pages.at q c.pages-test.true (rw (← read) l));
      same = ap (λ k. nat_lt 0 (times c.args.page (follow next (c.pages.left - 1) k))) read
          ∙ walk_on next c.pages.left c.pages.at c.args.page c.pages-test.true c.if-at-page.false ∙ c.pages.invariant.same;
    }

pub returns : goal.returns
returns c = walk_done _ c.pages.left c.pages.at c.args.page (let t = c.pages-test.false in omega (arith, t)) ∙ c.pages.invariant.same
