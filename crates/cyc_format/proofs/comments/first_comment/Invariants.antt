use Rattle.std.proofs.Common.{◌≡◌, drop}
use Rattle.cyc_format.specs.Comments.{comments_of}
use Rattle.cyc_format.proofs.comments.first_comment.Given as goal

abbrev pub invariant-loop-i : goal.invariant-loop-i
invariant-loop-i l = comments_of l.bytes ≡ comments_of (drop l.i l.bytes)
