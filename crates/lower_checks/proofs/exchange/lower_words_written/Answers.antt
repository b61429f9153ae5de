use Rattle.cyc_core.specs.Trees.{distance_tree}
use Rattle.source_lowering.specs.Programs.{words_written}
use Rattle.lower_checks.proofs.Exchanges.{written_more}
use Rattle.lower_checks.proofs.exchange.lower_words_written.Goals as goal

pub each-preserved : goal.each-preserved
each-preserved c sound =
    let t = c.args.from.0 in
    let p = c.args.pointer.0 in
    let done = c.operation.ensures sound in
    written_more c.args.body.now c.each.body c.operation.new.self (words_written c.args.words 0 p t) c.args.words c.each.word p t
    c.behind-at.result.0 (distance_tree c.held_part.result) c.each-test.true c.behind-at.ensures c.held_part.ensures (c.each.invariant done.sound) done
