use Rattle.std.proofs.Common.{sym, ◌∙◌}
use Rattle.cyc_format.proofs.Listing.{comment_found}
use Rattle.cyc_format.proofs.comments.first_comment.Goals as goal

pub returns-in-Some-clause-listed : goal.returns-in-Some-clause-listed
returns-in-Some-clause-listed c =
    comment_found c.args.bytes.now c.loop-i.i c.in-Some.length c.stripped.result.now c.loop-i-test.true (sym c.is_space.ensures ∙ c.if-not-is_space.true)
    c.loop-i.invariant
    (sym c.gap_length.ensures.length ∙ c.in-Some.is) c.stripped.ensures
