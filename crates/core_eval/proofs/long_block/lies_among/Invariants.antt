use Rattle.std.proofs.Common.{◌≡◌, drop, map}
use Rattle.core_eval.specs.LongBlocks.{long_block_of}
use Rattle.core_eval.specs.Leading.{lies_among}
use Rattle.core_eval.proofs.long_block.lies_among.Given as goal

abbrev pub invariant-each : goal.invariant-each
invariant-each l = record {
  whole : lies_among (map long_block_of (drop l.block-index l.blocks)) l.region l.object l.cell l.byte
      ≡ lies_among (map long_block_of l.blocks) l.region l.object l.cell l.byte;
}
