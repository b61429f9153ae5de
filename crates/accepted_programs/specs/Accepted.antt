-- Believed: the programs that are accepted.
use Rattle.std.specs.Prelude.{◌≡◌, None}
use Rattle.cyc_tree.specs.Operands.{HasOperands}
use Rattle.cyc_tree.specs.Tree.{Program}
use Rattle.source_typing.specs.Answers.{first_fault}

pub record IsAccepted (program : Program) : Type 0 where
  -- an operator has its operands, as in the tree of each text
  pub operands : HasOperands program
  -- no rule finds a fault
  pub faultless : first_fault program ≡ None
