use Rattle.std.proofs.Common.{arith}
use Rattle.rv32_select.proofs.Popping.{passed}
use Rattle.rv32_select.proofs.place.Place.pass_result.Goals as goal

pub returns-clause-saves : goal.returns-clause-saves
returns-clause-saves c =
    passed c.args.self.now.saves.items c.pop-passed.new.self.items c.pop-passed.result c.pop-passed.ensures.items
    (λ some. c.pop-passed.ensures.variant.1 (omega (arith, some)))
