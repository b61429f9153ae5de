-- Believed: why a text is refused, and where.
use Rattle.std.specs.Prelude.{◌≡◌, ◌⊎◌, ℕ, ◌+◌, ◌*◌, ◌<◌, ◌≤◌, List, length, Some}
use Rattle.cyc_lexer.specs.Lexing.{Token, AreTokens, text_limit}
use Rattle.cyc_lexer.specs.Tokens.{IsRefusedAt}
use Rattle.cyc_lexer.specs.Places.{line_of, column_of}
use Rattle.cyc_image.specs.Format.{code_limit}
use Rattle.cyc_parser.specs.Refusals.{IsUnexpectedFirst, IsTooDeepAt}
use Rattle.cyc_tree.specs.Tree.{Program}
use Rattle.check_faults.specs.Faults.{number_of}
use Rattle.check_faults.specs.declared.fault.FaultKind.{FaultKind}
use Rattle.check_faults.specs.declared.fault.FaultKind.TheVariants as kind
use Rattle.source_meaning.specs.Programs.{world_of}
use Rattle.source_lowering.specs.Bounds.{regions_left}
use Rattle.source_typing.specs.Answers.{first_fault}
use Rattle.source_typing.specs.Faults as rules
use Rattle.cycc_driver.specs.declared.fault.Place.{Place}
use Rattle.cycc_driver.specs.declared.fault.CompileFault.{CompileFault}
use Rattle.cycc_driver.specs.declared.fault.CompileFault.TheVariants as fault
use Rattle.cycc_driver.specs.Texts.{IsTextOf, IsAcceptedAs}

-- the place is that of the byte at an offset
pub record IsPlaceOf (text : List ℕ) (at : ℕ) (place : Place) : Type 0 where
  pub line : place.line ≡ line_of text at
  pub column : place.column ≡ column_of text at

-- the text is refused for its tokens, at the first token or comment that is none
pub record IsNoTokens (text : List ℕ) (place : Place) : Type 0 where
  pub at : ℕ
  pub refused : IsRefusedAt text at
  pub there : IsPlaceOf text at place

-- the text has its tokens, and they are refused at the token or the end of the text that stands there, for a reason
pub record AreNoProgram (text : List ℕ) (Refused : List Token → ℕ → Type 0) (place : Place) : Type 0 where
  pub tokens : List Token
  pub within : length text ≤ text_limit
  pub lexed : AreTokens text tokens
  pub at : ℕ
  pub refused : Refused tokens at
  pub there : IsPlaceOf text at place

-- the text spells a program whose first fault is of this kind, and stands at the place
pub record IsBroken (text : List ℕ) (k : FaultKind) (place : Place) : Type 0 where
  pub program : Program
  pub spelled : IsTextOf text program
  pub at : ℕ
  pub first : first_fault program ≡ Some (rules.fault (number_of k) at)
  pub there : IsPlaceOf text at place

-- Why a text is refused before its code is made.
abbrev pub IsRefusedFor : CompileFault → List ℕ → Type 0
IsRefusedFor (fault.Lex place) text = IsNoTokens text place
IsRefusedFor (fault.Parse place) text = AreNoProgram text IsUnexpectedFirst place
IsRefusedFor (fault.TooDeep place) text = AreNoProgram text IsTooDeepAt place
IsRefusedFor (fault.Name place) text = IsBroken text kind.Name place
IsRefusedFor (fault.Typing place) text = IsBroken text kind.Typing place
IsRefusedFor (fault.Region place) text = IsBroken text kind.Region place
IsRefusedFor (fault.Outlives place) text = IsBroken text kind.Outlives place
IsRefusedFor (fault.Effect place) text = IsBroken text kind.Effect place
IsRefusedFor (fault.Consumed place) text = IsBroken text kind.Consumed place
IsRefusedFor (fault.Lent place) text = IsBroken text kind.Lent place
IsRefusedFor (fault.Copy place) text = IsBroken text kind.Copy place
IsRefusedFor (fault.Size place) text = IsBroken text kind.Size place
IsRefusedFor (fault.TooLarge place) text = ⊥
IsRefusedFor fault.Memory text = Unit {0}

-- a bound on the length of the code of a program that is spelled by these tokens, in bytes: each token counts, and each region that is left, wherever it is
abbrev pub code_bound : Program → List Token → ℕ
code_bound program tokens = 4096 + 512 * (length tokens + regions_left (world_of program).functions)

-- The text is accepted, and the bound on its code is over the limit. The place is its first byte's.
pub record IsTooLarge (text : List ℕ) (place : Place) : Type 0 where
  pub program : Program
  pub accepted : IsAcceptedAs text program
  pub large : code_limit < code_bound program accepted.spelled.tokens
  pub line : place.line ≡ 1
  pub column : place.column ≡ 1

-- Why a text is refused an image: what it is refused for, or that its code is too large.
abbrev pub HasNoImageFor : CompileFault → List ℕ → Type 0
HasNoImageFor (fault.Lex place) text = IsRefusedFor (fault.Lex place) text
HasNoImageFor (fault.Parse place) text = IsRefusedFor (fault.Parse place) text
HasNoImageFor (fault.TooDeep place) text = IsRefusedFor (fault.TooDeep place) text
HasNoImageFor (fault.Name place) text = IsRefusedFor (fault.Name place) text
HasNoImageFor (fault.Typing place) text = IsRefusedFor (fault.Typing place) text
HasNoImageFor (fault.Region place) text = IsRefusedFor (fault.Region place) text
HasNoImageFor (fault.Outlives place) text = IsRefusedFor (fault.Outlives place) text
HasNoImageFor (fault.Effect place) text = IsRefusedFor (fault.Effect place) text
HasNoImageFor (fault.Consumed place) text = IsRefusedFor (fault.Consumed place) text
HasNoImageFor (fault.Lent place) text = IsRefusedFor (fault.Lent place) text
HasNoImageFor (fault.Copy place) text = IsRefusedFor (fault.Copy place) text
HasNoImageFor (fault.Size place) text = IsRefusedFor (fault.Size place) text
HasNoImageFor (fault.TooLarge place) text = IsTooLarge text place
HasNoImageFor fault.Memory text = Unit {0}

-- one fault, unless memory is out
abbrev pub AreSame : CompileFault → CompileFault → Type 0
AreSame f g = (f ≡ fault.Memory) ⊎ ((g ≡ fault.Memory) ⊎ (f ≡ g))
