use Rattle.std.proofs.Common.{refl}
use Rattle.cyc_words.specs.Events as events
use Rattle.core_meaning.specs.Core as core
use Rattle.core_eval.specs.declared.region.Standing.TheVariants as standing
use Rattle.core_eval.proofs.RegionAnswers.{birth_answered}
use Rattle.core_eval.proofs.request.make_region.Goals as goal

pub returns : goal.returns
returns c =
    let t = c.args.to.0 in
    let after = c.in_ok-birth.ensures in
    birth_answered c.give.result c.args.frame.now c.give.new.frame c.args.memory.now c.make_region.new.self (core.RegionNew t) standing.Lexical
    (λ d. events.RegionNew d) (λ d. tt) t (λ next d. refl) c.in_ok-birth.birth after.birth
    (record {
      blocks = after.blocks;
      entered = after.entered;
      owns = after.owns;
      called = after.called;
      globals = after.globals;
      long_blocks = after.long_blocks;
    })
    c.new.result.items c.new.ensures.items after.regions c.give.ensures.next c.give.ensures.gives c.give.ensures.base
