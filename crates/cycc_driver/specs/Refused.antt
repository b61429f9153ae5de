-- Believed: the fault of a text that a fault of a layer is, with its place.
use Rattle.std.specs.Prelude.{◌≡◌, ℕ, ◌<◌, List}
use Rattle.cyc_lexer.specs.declared.fault.LexFault.{LexFault}
use Rattle.cyc_lexer.specs.declared.fault.LexFault.TheVariants as lex
use Rattle.cyc_parser.specs.declared.fault.ParseFault.{ParseFault}
use Rattle.cyc_parser.specs.declared.fault.ParseFault.TheVariants as parse
use Rattle.effect_check.specs.declared.fault.CheckFault.{CheckFault}
use Rattle.effect_check.specs.declared.fault.CheckFault.TheVariants as check
use Rattle.check_faults.specs.declared.fault.FaultKind.{FaultKind}
use Rattle.unique_flow.specs.declared.fault.FlowFault.{FlowFault}
use Rattle.unique_flow.specs.declared.fault.FlowFault.TheVariants as flow
use Rattle.check_faults.specs.declared.fault.FaultKind.TheVariants as kind
use Rattle.cycc_driver.specs.declared.fault.Place.{Place}
use Rattle.cycc_driver.specs.declared.fault.CompileFault.{CompileFault}
use Rattle.cycc_driver.specs.declared.fault.CompileFault.TheVariants as fault
use Rattle.cycc_driver.specs.Refusals.{IsPlaceOf}
use Rattle.cyc_tree.specs.Tree.{Program}
use Rattle.source_meaning.specs.Programs.{world_of}
use Rattle.cyc_image.specs.Format.{code_limit}
use Rattle.source_lowering.specs.Bounds.{code_bound}

-- it is of this form, at the place of an offset
abbrev pub StandsAt : List ℕ → ℕ → (Place → CompileFault) → CompileFault → Type 0
StandsAt text at form f = (place : Place) × (f ≡ form place) × IsPlaceOf text at place

abbrev pub IsOfLexing : List ℕ → LexFault → CompileFault → Type 0
IsOfLexing text (lex.Lex at) f = StandsAt text at fault.Lex f
IsOfLexing text lex.Memory f = f ≡ fault.Memory

abbrev pub IsOfParsing : List ℕ → ParseFault → CompileFault → Type 0
IsOfParsing text (parse.Parse at) f = StandsAt text at fault.Parse f
IsOfParsing text (parse.TooDeep at) f = StandsAt text at fault.TooDeep f
IsOfParsing text parse.Memory f = f ≡ fault.Memory

abbrev pub form_of : FaultKind → Place → CompileFault
form_of kind.Name = fault.Name
form_of kind.Typing = fault.Typing
form_of kind.Region = fault.Region
form_of kind.Outlives = fault.Outlives
form_of kind.Effect = fault.Effect
form_of kind.Consumed = fault.Consumed
form_of kind.Lent = fault.Lent
form_of kind.Copy = fault.Copy
form_of kind.Size = fault.Size

abbrev pub IsOfChecking : List ℕ → CheckFault → CompileFault → Type 0
IsOfChecking text (check.Broken broken) f = StandsAt text broken.at (form_of broken.kind) f
IsOfChecking text check.Memory f = f ≡ fault.Memory

abbrev pub IsOfFlow : List ℕ → FlowFault → CompileFault → Type 0
IsOfFlow text (flow.Consumed at) f = StandsAt text at fault.Consumed f
IsOfFlow text (flow.Lent at) f = StandsAt text at fault.Lent f
IsOfFlow text (flow.Copy at) f = StandsAt text at fault.Copy f
IsOfFlow text flow.Memory f = f ≡ fault.Memory

-- the bound on the program's code is over the limit
pub record HasLongCode (program : Program) (place : Place) : Type 0 where
  pub long : code_limit < code_bound (world_of program).functions
  pub line : place.line ≡ 1
  pub column : place.column ≡ 1

-- why a program has no code: that, or that memory is out
abbrev pub HasNoCodeFor : CompileFault → Program → Type 0
HasNoCodeFor (fault.Lex place) program = ⊥
HasNoCodeFor (fault.Parse place) program = ⊥
HasNoCodeFor (fault.TooDeep place) program = ⊥
HasNoCodeFor (fault.Name place) program = ⊥
HasNoCodeFor (fault.Typing place) program = ⊥
HasNoCodeFor (fault.Region place) program = ⊥
HasNoCodeFor (fault.Outlives place) program = ⊥
HasNoCodeFor (fault.Effect place) program = ⊥
HasNoCodeFor (fault.Consumed place) program = ⊥
HasNoCodeFor (fault.Lent place) program = ⊥
HasNoCodeFor (fault.Copy place) program = ⊥
HasNoCodeFor (fault.Size place) program = ⊥
HasNoCodeFor (fault.TooLarge place) program = HasLongCode program place
HasNoCodeFor fault.Memory program = Unit {0}
