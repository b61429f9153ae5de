use Rattle.std.proofs.Common.{◌≡◌, false, eqb, ◌&&◌, get_or, ◌-◌}
use Rattle.std.proofs.lemmas.Bool.{and_left, and_right, ne_eqb}
use Rattle.cyc_lexer.proofs.Steps.{comment_end-turn, comment_end-past}
use Rattle.cyc_format.proofs.gaps.comment_end.Goals as goal
use Rattle.cyc_format.proofs.gaps.comment_end.Goals.{else-bytes-i-eq42-via-then-bytes-i-eq42+else-bytes-i-eq47, else-bytes-i-eq42-via-else-bytes-i-eq42}

pub loop-i-preserved : goal.loop-i-preserved
loop-i-preserved c =
    let bytes = c.args.bytes.now in
    let i = c.loop-i.i in
    let first = eqb (get_or bytes (i - 1) 0) 42 in
    let second = eqb (get_or bytes i 0) 47 in
    let no : (first && second) ≡ false =
    elim c.else-bytes-i-eq42.branch [
      | else-bytes-i-eq42-via-then-bytes-i-eq42+else-bytes-i-eq47 w ↦ and_right first second (ne_eqb (get_or bytes i 0) 47 w.if-bytes-i-eq47.false)
      | else-bytes-i-eq42-via-else-bytes-i-eq42 w ↦ and_left first second (ne_eqb (get_or bytes (i - 1) 0) 42 w.if-bytes-i-eq42.false)
    ] in
    comment_end-turn bytes i c.loop-i.auto.i c.loop-i-test.true c.loop-i.invariant no

pub returns-clause-length : goal.returns-clause-length
returns-clause-length c = comment_end-past c.args.bytes.now c.loop-i.i c.loop-i.auto.i c.loop-i-test.false c.loop-i.invariant
