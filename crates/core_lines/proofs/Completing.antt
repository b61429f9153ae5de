-- What only raises an exception can't complete.
use Rattle.std.proofs.Common.{◌≡◌, true, false, refl}
use Rattle.std.proofs.lemmas.Bool.{and_parts, and_left, or_from}
use Rattle.core_meaning.specs.Core.{
  Statement,
  Do,
  If,
  While,
  Block,
  Leave,
  Break,
  Continue,
  Call,
  Return,
  Raise,
  Statements,
  NoStatements,
  MoreStatements,
}
use Rattle.core_lines.specs.Held.{raises, raises_only}
use Rattle.core_lines.specs.Completing.{can_complete, can_complete_all}

mutual
  raises_never : (s : Statement) → raises s ≡ true → can_complete s ≡ false
  raises_never (Do operation) is = absurd (cc is)
  raises_never (If t these those) is =
      let both = and_parts (raises_only these) (raises_only those) is in
      or_from (can_complete_all these) (can_complete_all those) (raises_never_all these both.0) (raises_never_all those both.1)
  raises_never (While test t body) is = absurd (cc is)
  raises_never (Block ls body) is = absurd (cc is)
  raises_never (Leave body) is = absurd (cc is)
  raises_never Break is = absurd (cc is)
  raises_never Continue is = absurd (cc is)
  raises_never (Call results f arguments) is = absurd (cc is)
  raises_never (Return values) is = absurd (cc is)
  raises_never (Raise kind) is = refl

  pub raises_never_all : (ss : Statements) → raises_only ss ≡ true → can_complete_all ss ≡ false
  raises_never_all NoStatements is = absurd (cc is)
  raises_never_all (MoreStatements s NoStatements) is = and_left (can_complete s) true (raises_never s is)
  raises_never_all (MoreStatements s (MoreStatements s' ss)) is = absurd (cc is)
