use Rattle.std.proofs.Common.{◌∙◌, arith}
use Rattle.unique_blocks.proofs.Forgotten.{forgotten, no_class}
use Rattle.unique_blocks.proofs.slots.forget_pages.Goals as goal

pub pages-preserved : goal.pages-preserved
pages-preserved c =
    let k = c.pages.invariant.kept in let e = c.set_page_word.ensures in
    record {
      kept = record {
        holds = e.holds ∙ k.holds;
        tags = e.tags ∙ k.tags;
        taken = e.taken ∙ k.taken;
        bytes = e.bytes ∙ k.bytes;
        fresh = e.fresh ∙ k.fresh;
      };
      none = forgotten c.pages.pool c.set_page_word.new.self c.pages.page e.words c.pages.invariant.none;
    }

pub returns-clause-none : goal.returns-clause-none
returns-clause-none c = no_class c.pages.pool c.pages.page (let e = c.pages-in-pages.ensures.count in let l = c.pages-test.false in omega (arith, e, l))
    c.pages.invariant.none
