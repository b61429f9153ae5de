-- The first lines of a function with a small frame.
use Rattle.std.specs.Prelude.{pos, ◌-ℤ◌}
use Rattle.std.proofs.Common.{◌≡◌, ℕ, List, [], ◌∷◌, refl}
use Rattle.rv32_isa.specs.declared.instruction.Instr.TheVariants.{Addi, Bgeu, Lw, Sw}
use Rattle.core_meaning.specs.Core.{Put, Do, Block, Statements, NoStatements, MoreStatements}
use Rattle.core_lines.specs.declared.line.Line.TheVariants.{Plain, Jump}
use Rattle.core_lines.specs.Operands.{prologue_code}
use Rattle.core_lines.specs.Parameters.{parameter_register}

-- An `int` and a `char` go to locals with homes, and a word behind them to one without. The word of the `char` is no byte yet.
abbrev body : Statements
body =
    MoreStatements (Block [] (MoreStatements (Do (Put 0 0 4 0)) (MoreStatements (Do (Put 0 1 1 1)) (MoreStatements (Do (Put 0 2 4 2)) NoStatements))))
    NoStatements

abbrev homes : List ℕ
homes = 8 ∷ 9 ∷ 0 ∷ []

-- frames are refused at the label 7, and no parameter is saved
first_lines : prologue_code 7 32 0 4 (8 ∷ 9 ∷ []) [] (parameter_register homes body) 3
    ≡ Plain (Addi 2 2 (pos 0 -ℤ pos 32)) ∷ Plain (Bgeu 2 3 (pos 12)) ∷ Plain (Addi 10 0 (pos 32)) ∷ Jump 7
    ∷ Plain (Sw 2 1 (pos 0)) ∷ Plain (Sw 2 8 (pos 16)) ∷ Plain (Sw 2 9 (pos 20))
    ∷ Plain (Lw 8 2 (pos 36)) ∷ Plain (Lw 13 2 (pos 40)) ∷ Plain (Lw 14 2 (pos 44)) ∷ []
first_lines = refl
