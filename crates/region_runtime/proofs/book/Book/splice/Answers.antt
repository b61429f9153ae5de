use Rattle.std.proofs.Common.{ap, ◌∙◌}
use Rattle.region_runtime.proofs.Words.{two_changes}
use Rattle.region_runtime.proofs.book.Book.splice.Goals as goal

pub returns-clause-changed : goal.returns-clause-changed
returns-clause-changed c = two_changes _ _ _ _ _ _ _ _ (ap (λ r. r.words) (c.read-pages.ensures.raw
    ∙ c.read-newest.ensures.raw)) c.write.ensures.words c.write-2.ensures.words
