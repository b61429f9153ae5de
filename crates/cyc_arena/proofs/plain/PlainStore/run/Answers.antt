use Rattle.std.proofs.Common.{◌∙◌}
use Rattle.cyc_arena.proofs.Extended.{running_none, same_takes, next_there, running_more, run_done, left_eights}
use Rattle.cyc_arena.proofs.plain.PlainStore.run.Goals as goal

pub pages-init : goal.pages-init
pages-init c = running_none c.args.self.now c.args.number c.args.room c.requires.some

pub extend-requires-clause-takes : goal.extend-requires-clause-takes
extend-requires-clause-takes c = same_takes _ _ c.args.number c.args.room c.pages.left c.pages.invariant c.requires.pages c.requires.takes

pub extend-requires-clause-page : goal.extend-requires-clause-page
extend-requires-clause-page c = next_there _ _ c.args.number c.args.room c.pages.left c.pages.invariant c.requires.pages

pub pages-preserved : goal.pages-preserved
pages-preserved c =
    running_more _ _ c.args.number c.args.room c.pages.left c.pages.invariant c.requires.pages c.extend.new.self c.pages-test.true c.extend.ensures.holds
    c.extend.ensures.used c.extend.ensures.bytes

pub extend-requires-2-clause-takes : goal.extend-requires-2-clause-takes
extend-requires-2-clause-takes c = same_takes _ _ c.args.number c.args.room c.pages.left c.pages.invariant c.requires.pages c.requires.takes

pub extend-requires-2-clause-page : goal.extend-requires-2-clause-page
extend-requires-2-clause-page c = next_there _ _ c.args.number c.args.room c.pages.left c.pages.invariant c.requires.pages

pub extend-requires-2-clause-eights : goal.extend-requires-2-clause-eights
extend-requires-2-clause-eights c = left_eights _ _ c.args.number c.args.room c.pages.left c.pages.invariant c.requires.eights

pub returns-clause-holds : goal.returns-clause-holds
returns-clause-holds c =
    run_done _ _ c.args.number c.args.room c.pages.left c.pages.invariant c.requires.pages c.extend-2.new.self c.pages-test.false c.extend-2.ensures.holds

pub returns-clause-bytes : goal.returns-clause-bytes
returns-clause-bytes c = c.extend-2.ensures.bytes ∙ c.pages.invariant.bytes
