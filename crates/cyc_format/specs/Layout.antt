-- Believed: when one text is another one in a new layout.
use Rattle.std.specs.Prelude.{◌≡◌, ℕ, List, map}
use Rattle.cyc_lexer.specs.Lexing.{Token, AreTokens}
use Rattle.cyc_lexer.specs.declared.token.TokenKind.{TokenKind}
use Rattle.cyc_format.specs.Comments.{comments_around}

abbrev pub spellings : List Token → List (List ℕ)
spellings tokens = map (λ t. t.text) tokens

abbrev pub kinds : List Token → List TokenKind
kinds tokens = map (λ t. t.kind) tokens

-- The same tokens in the same order, and before each of them and after the last the same comments.
pub record IsLaidOut (text out : List ℕ) : Type 0 where
  pub tokens : List Token
  pub others : List Token
  pub are_tokens : AreTokens text tokens
  pub are_others : AreTokens out others
  pub same_tokens : spellings tokens ≡ spellings others
  pub same_comments : comments_around 0 text tokens ≡ comments_around 0 out others
