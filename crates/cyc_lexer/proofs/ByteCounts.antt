-- A text has at least as many bytes as tokens.
use Rattle.std.proofs.Common.{ℕ, ◌+◌, ◌≤◌, List, [], ◌∷◌, length, length-append, arith}
use Rattle.cyc_lexer.specs.Lexing.{Token, IsToken, Lexing, AreTokens, stays, gap, token}
use Rattle.cyc_lexer.specs.declared.token.TokenKind.{TokenKind}
use Rattle.cyc_lexer.proofs.FirstBytes.{spells_some}

some_bytes : (k : TokenKind) (s rest : List ℕ) → IsToken k s rest → 1 ≤ length s
some_bytes k [] rest is = absurd (spells_some k is.spelled)
some_bytes k (b ∷ bs) rest is = omega arith

-- each has a byte at least
within_bytes : (at : ℕ) (text : List ℕ) (tokens : List Token) (end : ℕ) (rest : List ℕ) → Lexing at text tokens end rest → length tokens ≤ length text
within_bytes at text tokens end rest (stays _ _) = omega arith
within_bytes at text tokens end rest (gap _ s others _ _ _ is more) =
    omega (arith, length-append s others, within_bytes (at + length s) others tokens end rest more)
within_bytes at text tokens end rest (token _ k s others those _ _ is more) =
    omega (arith, length-append s others, some_bytes k s others is, within_bytes (at + length s) others those end rest more)

pub tokens_within_bytes : (text : List ℕ) (tokens : List Token) → AreTokens text tokens → length tokens ≤ length text
tokens_within_bytes text tokens are = within_bytes 0 text tokens (length text) [] are
