-- Believed: what is read of the tokens that are left.
use Rattle.std.specs.Prelude.{ℕ, ◌-◌, ◌^◌, [], ◌∷◌, Option, Some, None}
use Rattle.cyc_lexer.specs.declared.token.TokenKind.{TokenKind}
use Rattle.source_grammar.specs.Phrases.{Tokens}

-- the next token's kind
abbrev pub next_kind : Tokens → Option TokenKind
next_kind [] = None
next_kind (t ∷ ts) = Some t.kind

-- the next token's place, or the end of the text
abbrev pub next_place : Tokens → ℕ
next_place [] = 2 ^ 32 - 1
next_place (t ∷ ts) = t.at
