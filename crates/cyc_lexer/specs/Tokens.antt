-- Believed: what `tokens` answers, of the values of the code.
use Rattle.std.specs.Prelude.{◌≡◌, ℕ, ◌<◌, ◌≤◌, List, length, ◌⊎◌}
use Rattle.cyc_lexer.specs.Lexing.{Token, IsFaultAt, text_limit}
use Rattle.cyc_lexer.specs.declared.token.Token.{Token as CodeToken}

-- the token that the code's token stands for
abbrev pub token_tree : CodeToken → Token
token_tree t = record { kind = t.kind; at = t.at; text = t.text.now }

-- where a text is refused: at its start if it is too long, else at the first token or comment that is none
abbrev pub IsRefusedAt : List ℕ → ℕ → Type 0
IsRefusedAt text at = ((text_limit < length text) × (at ≡ 0)) ⊎ ((length text ≤ text_limit) × IsFaultAt text at)
