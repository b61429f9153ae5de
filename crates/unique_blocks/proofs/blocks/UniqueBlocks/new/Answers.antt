use Rattle.std.proofs.Common.{◌∙◌}
use Rattle.unique_blocks.proofs.Forgotten.{none_sound, none_held}
use Rattle.unique_blocks.proofs.blocks.UniqueBlocks.new.Goals as goal

pub invariant_of-result : goal.invariant_of-result
invariant_of-result c = none_sound c.forget_pages.new.pool c.forget_pages.ensures.none c.forget_pages.ensures.few

pub returns-clause-held : goal.returns-clause-held
returns-clause-held c = none_held c.forget_pages.new.pool c.forget_pages.ensures.none ∙ c.forget_pages.ensures.kept.holds
