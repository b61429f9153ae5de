use Rattle.std.proofs.Common.{◌∙◌, sym, ap}
use Rattle.rv32_isa.specs.Table.{decoded}
use Rattle.rv32_isa.proofs.Back.{assembled_of_decoded}
use Rattle.rv32_isa.proofs.There.{decoded_of_assembled}
use Rattle.rv32_isa.proofs.encoding.encode.Goals as goal

pub returns-clause-word : goal.returns-clause-word
returns-clause-word c = ap decoded c.word_of.ensures.word ∙ decoded_of_assembled c.args.instr c.word_of.ensures.operands

pub returns-clause-alone : goal.returns-clause-alone
returns-clause-alone c = λ w fits found. sym (assembled_of_decoded w fits c.args.instr found) ∙ sym c.word_of.ensures.word
