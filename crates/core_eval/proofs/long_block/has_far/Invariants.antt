use Rattle.std.proofs.Common.{◌≡◌, drop}
use Rattle.core_eval.specs.LongBlocks.{has_far}
use Rattle.core_eval.proofs.long_block.has_far.Given as goal

abbrev pub invariant-each : goal.invariant-each
invariant-each l = record { whole : has_far l.from (drop l.cell-index l.cells) ≡ has_far l.from l.cells }
