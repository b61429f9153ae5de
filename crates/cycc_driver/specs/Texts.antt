-- Believed: which texts are accepted, and as which program.
use Rattle.std.specs.Prelude.{ℕ, ◌≤◌, List, length}
use Rattle.cyc_lexer.specs.Lexing.{Token, AreTokens, text_limit}
use Rattle.source_grammar.specs.Grammar.{IsProgram}
use Rattle.cyc_tree.specs.Tree.{Program}
use Rattle.cyc_tree.specs.Depths.{nesting, nesting_limit}
use Rattle.accepted_programs.specs.Accepted.{IsAccepted}

-- The text spells the program: its tokens are those of the program by the grammar, and no token is in over 256 phrases.
pub record IsTextOf (text : List ℕ) (program : Program) : Type 0 where
  pub tokens : List Token
  pub within : length text ≤ text_limit
  pub lexed : AreTokens text tokens
  pub parsed : IsProgram program tokens
  pub nested : nesting program ≤ nesting_limit

-- The text spells the program, in which no rule is broken.
pub record IsAcceptedAs (text : List ℕ) (program : Program) : Type 0 where
  pub spelled : IsTextOf text program
  pub accepted : IsAccepted program
