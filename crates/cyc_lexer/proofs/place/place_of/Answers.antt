use Rattle.std.proofs.Common.{◌<◌, length, take, arith}
use Rattle.std.proofs.lemmas.Bool.Decides.{nat_tests}
use Rattle.cyc_lexer.proofs.LineEnds.{line_ends-more, since_line_end-more}
use Rattle.cyc_lexer.proofs.place.place_of.Goals as goal
use Rattle.cyc_lexer.proofs.place.place_of.Goals.{then-byte-eq10, else-byte-eq10}

pub loop-byte-preserved : goal.loop-byte-preserved
loop-byte-preserved c =
    let xs = take c.min-end.result c.args.text.now in
    let below : c.loop-byte.byte-index < length xs = omega arith in
    let lines = line_ends-more xs c.loop-byte.byte-index below in
    let columns = since_line_end-more xs c.loop-byte.byte-index below in
    elim c.if-byte-eq10.branch [
      | then-byte-eq10 w ↦ (grind (arith, nat_tests), grind (arith, nat_tests))
      | else-byte-eq10 w ↦
          (grind (arith, nat_tests), grind (arith, nat_tests))
    ]
