-- How large statements are: what goes down at each call among the functions that go over them.
use Rattle.std.proofs.Common.{ℕ, ◌+◌}
use Rattle.core_meaning.specs.Core.{Statement, Statements, Do, If, While, Block, Leave, Break, Continue, Call, Return, Raise, NoStatements, MoreStatements}

abbrev mutual
  pub statement_size : Statement → ℕ
  statement_size (Do operation) = 0
  statement_size (If t these those) = statements_size these + statements_size those + 2
  statement_size (While test t body) = statements_size test + statements_size body + 2
  statement_size (Block locals body) = statements_size body + 2
  statement_size (Leave body) = statements_size body + 2
  statement_size Break = 0
  statement_size Continue = 0
  statement_size (Call results f arguments) = 0
  statement_size (Return values) = 0
  statement_size (Raise kind) = 0

  pub statements_size : Statements → ℕ
  statements_size NoStatements = 0
  statements_size (MoreStatements s ss) = statement_size s + statements_size ss + 1
