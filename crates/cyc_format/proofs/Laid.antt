-- Two texts that agree are one in two layouts.
use Rattle.std.proofs.Common.{◌≡◌, ℕ, List, refl}
use Rattle.cyc_lexer.specs.Lexing.{Token, AreTokens}
use Rattle.cyc_format.specs.Comments.{comments_around}
use Rattle.cyc_format.specs.Layout.{spellings, IsLaidOut}

pub agreeing : (text out : List ℕ) (tokens others : List Token) → AreTokens text tokens → AreTokens out others → spellings tokens ≡ spellings others →
    comments_around 0 text tokens ≡ comments_around 0 out others → IsLaidOut text out
agreeing text out tokens others are_tokens are_others same_tokens same_comments = record {
  tokens = tokens;
  others = others;
  are_tokens = are_tokens;
  are_others = are_others;
  same_tokens = same_tokens;
  same_comments = same_comments;
}

pub unchanged : (text : List ℕ) (tokens : List Token) → AreTokens text tokens → IsLaidOut text text
unchanged text tokens h = agreeing text text tokens tokens h h refl refl
