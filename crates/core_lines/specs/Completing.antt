-- Believed: which statements can complete normally, so that what stands behind them is reached, and which end in a `Return`.
use Rattle.std.specs.Prelude.{Bool, true, false, ◌||◌, ◌&&◌, if◌then◌else◌}
use Rattle.core_meaning.specs.Core.{
  Statement,
  Do,
  If,
  While,
  Block,
  Leave,
  Break,
  Continue,
  Call,
  Return,
  Raise,
  Statements,
  NoStatements,
  MoreStatements,
}

-- A jump, a return and an exception never complete. A loop, and what a `Break` leaves, are taken to complete in any case.
abbrev mutual
  pub can_complete : Statement → Bool
  can_complete (Do operation) = true
  can_complete (If t these those) = can_complete_all these || can_complete_all those
  can_complete (While test t body) = true
  can_complete (Block locals body) = can_complete_all body
  can_complete (Leave body) = true
  can_complete Break = false
  can_complete Continue = false
  can_complete (Call results f arguments) = true
  can_complete (Return values) = false
  can_complete (Raise kind) = false

  pub can_complete_all : Statements → Bool
  can_complete_all NoStatements = true
  can_complete_all (MoreStatements s ss) = can_complete s && can_complete_all ss

-- Whether what stands last of what is reached is a `Return`, which no other way passes.
abbrev mutual
  pub ends_in_return : Statement → Bool
  ends_in_return (Do operation) = false
  ends_in_return (If t these those) = false
  ends_in_return (While test t body) = false
  ends_in_return (Block locals body) = ends_in_return_all body
  ends_in_return (Leave body) = false
  ends_in_return Break = false
  ends_in_return Continue = false
  ends_in_return (Call results f arguments) = false
  ends_in_return (Return values) = true
  ends_in_return (Raise kind) = false

  pub ends_in_return_all : Statements → Bool
  ends_in_return_all NoStatements = false
  ends_in_return_all (MoreStatements s ss) = (if can_complete s then ends_in_return_all ss else ends_in_return s)
