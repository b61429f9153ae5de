use Rattle.cyc_core.specs.Trees.{distance_tree}
use Rattle.source_lowering.specs.Programs.{words_read}
use Rattle.lower_checks.proofs.Exchanges.{read_more}
use Rattle.lower_checks.proofs.exchange.lower_words_read.Goals as goal

pub each-preserved : goal.each-preserved
each-preserved c sound =
    let t = c.args.to.0 in
    let p = c.args.pointer.0 in
    let done = c.operation.ensures sound in
    read_more c.args.body.now c.each.body c.operation.new.self (words_read c.args.words 0 t p) c.args.words c.each.word t
    c.behind-at.result.0 p (distance_tree c.held_part.result) c.each-test.true c.behind-at.ensures c.held_part.ensures (c.each.invariant done.sound) done
