use Rattle.std.proofs.Common.{◌≡◌, length}
use Rattle.cyc_format.specs.Comments.{comments_of}
use Rattle.cyc_format.proofs.comments.are_same_comments.Given as goal

abbrev pub invariant-comments : goal.invariant-comments
invariant-comments l = comments_of l.rest ≡ comments_of l.other → comments_of l.here ≡ comments_of l.there

abbrev pub decreases-comments : goal.decreases-comments
decreases-comments l = length l.rest
