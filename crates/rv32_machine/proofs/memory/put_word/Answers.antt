use Rattle.std.proofs.Common.{arith}
use Rattle.rv32_machine.proofs.Splices.{word_at_once}
use Rattle.rv32_machine.proofs.memory.put_word.Goals as goal

pub returns : goal.returns
returns c = word_at_once c.args.bytes.now c.args.at _ _ c.args.value c.requires (omega arith) c.write_u32.ensures
