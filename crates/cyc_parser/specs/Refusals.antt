-- Believed: why tokens are no program, and where.
use Rattle.std.specs.Prelude.{◌≡◌, ◌⊎◌, ℕ, ◌<◌, ◌≤◌, [], ◌∷◌, ◌++◌, length, drop, Some}
use Rattle.cyc_lexer.specs.Lexing.{Token, text_limit}
use Rattle.cyc_tree.specs.Tree.{Program}
use Rattle.cyc_tree.specs.Depths.{too_deep_at}
use Rattle.cyc_parser.specs.declared.fault.ParseFault.{ParseFault}
use Rattle.cyc_parser.specs.declared.fault.ParseFault.TheVariants.{Parse, TooDeep, Memory}
use Rattle.source_grammar.specs.Phrases.{Tokens}
use Rattle.source_grammar.specs.Grammar.{IsProgram}
use Rattle.cyc_parser.specs.Reading.{next_place}

-- a program begins with these tokens
abbrev pub BeginAProgram : Tokens → Type 0
BeginAProgram front = (program : Program) × (ending : Tokens) × IsProgram program (front ++ ending)

-- with the next token they begin none; or, where no token is left, they are none
abbrev pub GoNoFurther : (front rest : Tokens) → Type 0
GoNoFurther front [] = (program : Program) → IsProgram program front → ⊥
GoNoFurther front (t ∷ others) = BeginAProgram (front ++ t ∷ []) → ⊥

-- a token of these stands at the place
abbrev pub StandsIn : ℕ → Tokens → Type 0
StandsIn at tokens = (before : Tokens) × (next : Token) × (others : Tokens) × (tokens ≡ before ++ next ∷ others) × (at ≡ next.at)

-- none of these tokens is in more phrases than may be: in each program that they begin, the first one that is stands behind them
abbrev pub AreWithin : Tokens → Type 0
AreWithin front = (program : Program) (ending : Tokens) (at : ℕ) → IsProgram program (front ++ ending) → too_deep_at program ≡ Some at → StandsIn at ending

-- the place of the first token with which the tokens so far begin no program, or the end of the text
pub record IsUnexpectedAt (tokens : Tokens) (at : ℕ) : Type 0 where
  pub front : Tokens
  pub rest : Tokens
  pub parts : tokens ≡ front ++ rest
  pub place : at ≡ next_place rest
  pub begins : BeginAProgram front
  pub no_further : GoNoFurther front rest

-- the same, where no token before it is too deep
abbrev pub IsUnexpectedFirst : Tokens → ℕ → Type 0
IsUnexpectedFirst tokens at = (unexpected : IsUnexpectedAt tokens at) × AreWithin unexpected.front

-- the place of a token up to which the tokens begin a program, and which is the first one that is too deep, in each program that they begin
pub record IsTooDeepAt (tokens : Tokens) (at : ℕ) : Type 0 where
  pub front : Tokens
  pub next : Token
  pub others : Tokens
  pub parts : tokens ≡ front ++ next ∷ others
  pub place : at ≡ next.at
  pub begins : BeginAProgram (front ++ next ∷ [])
  pub first : (program : Program) (ending : Tokens) → IsProgram program (front ++ next ∷ ending) → too_deep_at program ≡ Some at

-- the limit on the bytes of a text, and so on its tokens
abbrev pub token_limit : ℕ
token_limit = text_limit

-- the place of the first token behind as many as a text may have
abbrev pub IsBehindLimit : Tokens → ℕ → Type 0
IsBehindLimit tokens at = (token_limit < length tokens) × (at ≡ next_place (drop token_limit tokens))

-- why tokens are refused; that memory runs out is left out here
abbrev pub IsRefusedFor : ParseFault → Tokens → Type 0
IsRefusedFor (Parse at) tokens = IsBehindLimit tokens at ⊎ ((length tokens ≤ token_limit) × IsUnexpectedFirst tokens at)
IsRefusedFor (TooDeep at) tokens = (length tokens ≤ token_limit) × IsTooDeepAt tokens at
IsRefusedFor Memory tokens = Unit {0}

-- the tokens are a program's: it is refused only because memory runs out, or since it nests too deep, at the first token that does
abbrev pub IsRefusedProgram : Program → ParseFault → Type 0
IsRefusedProgram program (Parse at) = ⊥
IsRefusedProgram program (TooDeep at) = too_deep_at program ≡ Some at
IsRefusedProgram program Memory = Unit {0}
