-- Believed, for this crate's laws: what holds of all programs that are spelled.
use Rattle.std.specs.Prelude.{◌≤◌, length}
use Rattle.cyc_tree.specs.Operands.{HasOperands}
use Rattle.cyc_tree.specs.Tree.{Program}
use Rattle.source_grammar.specs.Phrases.{Tokens}
use Rattle.source_grammar.specs.Grammar.{IsProgram}
use Rattle.source_meaning.specs.Programs.{world_of}
use Rattle.source_lowering.specs.Bounds.{routines_size}

-- a program has at least as many tokens as the size of its functions
abbrev pub TokensPay : Type 0
TokensPay = (p : Program) (tokens : Tokens) → IsProgram p tokens → routines_size (world_of p).functions ≤ length tokens

-- its tree has operands wherever an operator joins some, and members in each struct and union
abbrev pub SpelledHasOperands : Type 0
SpelledHasOperands = (p : Program) (tokens : Tokens) → IsProgram p tokens → HasOperands p
