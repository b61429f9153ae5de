-- The code of some calls of the environment.
use Rattle.std.specs.Prelude.{pos}
use Rattle.std.proofs.Common.{◌≡◌, true, List, [], ◌∷◌, Some, None, refl}
use Rattle.rv32_isa.specs.declared.instruction.Instr.TheVariants.{Addi, Ecall, Sw}
use Rattle.core_meaning.specs.Core.{Operation, Constant, Get, Put, Putchar, Getchar, KeyNew, KeyOpen, Do, Statements, NoStatements, MoreStatements}
use Rattle.core_lines.specs.declared.line.Line.{Line}
use Rattle.core_lines.specs.declared.line.Line.TheVariants.{Plain}
use Rattle.core_lines.specs.Held.{Register, Holding, source_of, held_behind_operation}
use Rattle.core_lines.specs.Selected.{Surroundings, statements_code}

-- a local, in x8
abbrev place : Surroundings
place = record {
  wide = λ label. true;
  passed = 0;
  exit = 0;
  own = [];
  blocks = (0 ∷ []) ∷ [];
  homes = (8 ∷ []) ∷ [];
  names = [];
  low = 0;
  statics = [];
  held = [];
}

abbrev all_of : List Operation → Statements
all_of [] = NoStatements
all_of (o ∷ os) = MoreStatements (Do o) (all_of os)

-- no result is saved
abbrev code_of : List Operation → List Line
code_of os = statements_code [] place 0 0 0 (all_of os)

-- `putchar('\n')`
of_a_number : code_of (Constant 0 10 ∷ Putchar 1 0 ∷ []) ≡ Plain (Addi 10 0 (pos 10)) ∷ Plain (Addi 17 0 (pos 1)) ∷ Plain Ecall ∷ []
of_a_number = refl

-- `putchar(getchar())`: the answer is where the argument goes
of_an_answer : code_of (Getchar 0 ∷ Putchar 1 0 ∷ [])
    ≡ Plain (Addi 17 0 (pos 2)) ∷ Plain Ecall ∷ Plain (Addi 17 0 (pos 1)) ∷ Plain Ecall ∷ []
of_an_answer = refl

-- `c = getchar();`, and `putchar(c);`
of_a_local : code_of (Getchar 0 ∷ Put 0 0 4 0 ∷ []) ≡ Plain (Addi 17 0 (pos 2)) ∷ Plain Ecall ∷ Plain (Addi 8 10 (pos 0)) ∷ []
of_a_local = refl

of_its_word : code_of (Get 0 0 0 4 ∷ Putchar 1 0 ∷ []) ≡ Plain (Addi 10 8 (pos 0)) ∷ Plain (Addi 17 0 (pos 1)) ∷ Plain Ecall ∷ []
of_its_word = refl

-- an answer whose slot is loaded later is saved
saved : statements_code (true ∷ []) place 0 0 0 (all_of (KeyNew 0 ∷ KeyOpen 0 ∷ []))
    ≡ Plain (Addi 17 0 (pos 9)) ∷ Plain Ecall ∷ Plain (Sw 2 10 (pos 4)) ∷ Plain (Addi 17 0 (pos 10)) ∷ Plain Ecall ∷ []
saved = refl

-- what another register has stays known, and what x10 had doesn't
abbrev known : List Holding
known = record { temporary = 0; source = Register 14 } ∷ record { temporary = 1; source = Register 10 } ∷ []

stays : source_of (held_behind_operation [] [] known (Putchar 2 0)) 0 ≡ Some (Register 14)
stays = refl

is_lost : source_of (held_behind_operation [] [] known (Putchar 2 0)) 1 ≡ None
is_lost = refl

answered : source_of (held_behind_operation [] [] known (Putchar 2 0)) 2 ≡ Some (Register 10)
answered = refl
