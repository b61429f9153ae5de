-- The code of some sums that are put into locals with homes.
use Rattle.std.specs.Prelude.{pos}
use Rattle.std.proofs.Common.{◌≡◌, true, List, [], ◌∷◌, refl}
use Rattle.rv32_isa.specs.declared.instruction.Instr.TheVariants.{Addi, Add, Andi, Sub}
use Rattle.core_meaning.specs.Core.{Operation, Constant, Get, Put, Apply, Do, Statements, NoStatements, MoreStatements}
use Rattle.core_meaning.specs.Core as core
use Rattle.core_lines.specs.declared.line.Line.{Line}
use Rattle.core_lines.specs.declared.line.Line.TheVariants.{Plain}
use Rattle.core_lines.specs.Selected.{Surroundings, statements_code}

-- two locals, in x8 and x9
abbrev place : Surroundings
place = record {
  wide = λ label. true;
  passed = 0;
  exit = 0;
  own = [];
  blocks = (0 ∷ 0 ∷ []) ∷ [];
  homes = (8 ∷ 9 ∷ []) ∷ [];
  names = [];
  low = 0;
  statics = [];
  held = [];
}

abbrev all_of : List Operation → Statements
all_of [] = NoStatements
all_of (o ∷ os) = MoreStatements (Do o) (all_of os)

-- no result is saved
abbrev code_of : List Operation → List Line
code_of os = statements_code [] place 0 0 0 (all_of os)

-- `i = i + 1`
one_more : code_of (Get 0 0 0 4 ∷ Constant 1 1 ∷ Apply core.Add 2 0 1 ∷ Put 0 0 4 2 ∷ []) ≡ Plain (Addi 8 8 (pos 1)) ∷ []
one_more = refl

-- `i = i - j; j = i;`
two_locals : code_of (Get 0 0 0 4 ∷ Get 1 0 1 4 ∷ Apply core.Subtract 2 0 1 ∷ Put 0 0 4 2 ∷ Get 0 0 0 4 ∷ Put 0 1 4 0 ∷ [])
    ≡ Plain (Sub 8 8 9) ∷ Plain (Addi 9 8 (pos 0)) ∷ []
two_locals = refl

-- of a `char` the lowest byte is kept
of_a_char : code_of (Get 0 0 0 1 ∷ Constant 1 1 ∷ Apply core.Add 2 0 1 ∷ Put 0 0 1 2 ∷ []) ≡ Plain (Addi 14 8 (pos 1)) ∷ Plain (Andi 8 14 (pos 255)) ∷ []
of_a_char = refl

-- `j = i = i + i`: the sum is in i's home
both : code_of (Get 0 0 0 4 ∷ Get 1 0 0 4 ∷ Apply core.Add 2 0 1 ∷ Put 0 0 4 2 ∷ Put 0 1 4 2 ∷ [])
    ≡ Plain (Add 8 8 8) ∷ Plain (Addi 9 8 (pos 0)) ∷ []
both = refl
