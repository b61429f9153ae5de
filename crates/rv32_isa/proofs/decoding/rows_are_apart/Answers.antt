use Rattle.std.proofs.Common.{refl}
use Rattle.rv32_isa.specs.Table.{rows}
use Rattle.rv32_isa.proofs.Apart.{apart_by_test}
use Rattle.rv32_isa.proofs.decoding.rows_are_apart.Goals as goal

pub returns : goal.returns
returns c = apart_by_test rows refl
