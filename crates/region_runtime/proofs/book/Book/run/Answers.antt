use Rattle.std.proofs.Common.{◌∙◌, refl}
use Rattle.region_runtime.specs.Steps.{seen}
use Rattle.region_runtime.proofs.Words.{live_page}
use Rattle.region_runtime.proofs.Runs.{running_none, live_now, next_there, next_other, next_few, next_touched, running_more, run_done, words_done}
use Rattle.region_runtime.proofs.book.Book.run.Goals as goal

pub pages-init : goal.pages-init
pages-init c = record {
  running = running_none (seen c.args.self.now) c.args.number c.args.room c.args.self.now.touched c.requires.ordered c.requires.some;
  long = refl;
  bytes = refl;
}

pub extend-requires-clause-page : goal.extend-requires-clause-page
extend-requires-clause-page c =
    next_there _ _ c.args.number c.args.room c.pages.left _ _ c.pages.invariant.running c.requires.limit c.requires.pages c.requires.few c.requires.live

pub extend-requires-clause-first : goal.extend-requires-clause-first
extend-requires-clause-first c = λ l.
    live_page c.pages.self.raw.words c.args.number (live_now _ _ c.args.number c.args.room c.pages.left _ _ c.pages.invariant.running c.requires.limit
    c.requires.pages c.requires.few c.requires.live l)

pub extend-requires-clause-other : goal.extend-requires-clause-other
extend-requires-clause-other c =
    next_other _ _ c.args.number c.args.room c.pages.left _ _ c.pages.invariant.running c.requires.limit c.requires.pages c.requires.few c.requires.live

pub extend-requires-clause-few : goal.extend-requires-clause-few
extend-requires-clause-few c =
    next_few _ _ c.args.number c.args.room c.pages.left _ _ c.pages.invariant.running c.requires.limit c.requires.pages c.requires.few c.requires.live

pub extend-requires-clause-touches : goal.extend-requires-clause-touches
extend-requires-clause-touches c =
    next_touched _ _ c.args.number c.args.room c.pages.left _ _ c.pages.invariant.running c.requires.limit c.requires.pages c.requires.few c.requires.live

pub pages-preserved : goal.pages-preserved
pages-preserved c = record {
  running = running_more _ (seen c.pages.self) c.args.number c.args.room c.pages.left _ _ c.pages.invariant.running c.requires.limit c.requires.pages
      c.requires.few c.requires.live (seen c.extend.new.self) c.extend.new.self.touched c.pages-test.true c.extend.ensures.shape c.extend.ensures.touched;
  long = c.extend.ensures.long ∙ c.pages.invariant.long;
  bytes = c.extend.ensures.bytes ∙ c.pages.invariant.bytes;
}

pub extend-requires-2-clause-page : goal.extend-requires-2-clause-page
extend-requires-2-clause-page c =
    next_there _ _ c.args.number c.args.room c.pages.left _ _ c.pages.invariant.running c.requires.limit c.requires.pages c.requires.few c.requires.live

pub extend-requires-2-clause-first : goal.extend-requires-2-clause-first
extend-requires-2-clause-first c = λ l.
    live_page c.pages.self.raw.words c.args.number (live_now _ _ c.args.number c.args.room c.pages.left _ _ c.pages.invariant.running c.requires.limit
    c.requires.pages c.requires.few c.requires.live l)

pub extend-requires-2-clause-other : goal.extend-requires-2-clause-other
extend-requires-2-clause-other c =
    next_other _ _ c.args.number c.args.room c.pages.left _ _ c.pages.invariant.running c.requires.limit c.requires.pages c.requires.few c.requires.live

pub extend-requires-2-clause-few : goal.extend-requires-2-clause-few
extend-requires-2-clause-few c =
    next_few _ _ c.args.number c.args.room c.pages.left _ _ c.pages.invariant.running c.requires.limit c.requires.pages c.requires.few c.requires.live

pub extend-requires-2-clause-touches : goal.extend-requires-2-clause-touches
extend-requires-2-clause-touches c =
    next_touched _ _ c.args.number c.args.room c.pages.left _ _ c.pages.invariant.running c.requires.limit c.requires.pages c.requires.few c.requires.live

pub returns-clause-run : goal.returns-clause-run
returns-clause-run c =
    run_done _ (seen c.pages.self) c.args.number c.args.room c.pages.left _ _ c.pages.invariant.running c.requires.limit c.requires.pages c.requires.few
    c.requires.live (seen c.extend-2.new.self) c.pages-test.false c.requires.eights c.extend-2.ensures.shape

pub returns-clause-touched : goal.returns-clause-touched
returns-clause-touched c =
    words_done _ (seen c.pages.self) c.args.number c.args.room c.pages.left _ _ c.pages.invariant.running c.requires.limit c.requires.pages c.requires.few
    c.requires.live c.extend-2.new.self.touched c.pages-test.false c.extend-2.ensures.touched
