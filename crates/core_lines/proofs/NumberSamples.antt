-- The code of some comparisons with numbers.
use Rattle.std.proofs.Common.{◌≡◌, pos, false, List, [], ◌∷◌, Some, None, refl}
use Rattle.core_meaning.specs.Core.{Add, NotEqual, Less, LessEqualUnsigned, Constant, Get, Put, Apply}
use Rattle.cyc_words.specs.declared.faults.Kind.TheVariants.{ArrayBounds}
use Rattle.rv32_isa.specs.declared.instruction.Instr.TheVariants.{Lui, Addi, Ecall, Slt, Slti, Xori, Blt, Bge}
use Rattle.core_lines.specs.declared.comparison.Comparison.{Comparison}
use Rattle.core_lines.specs.declared.comparison.Condition.{Condition}
use Rattle.core_lines.specs.declared.comparison.Condition.TheVariants as condition
use Rattle.core_lines.specs.declared.line.Line.TheVariants.{Plain, BranchUnless}
use Rattle.core_lines.specs.Checks.{Always, check_code}
use Rattle.core_lines.specs.Choosing.{choice_code}
use Rattle.core_lines.specs.Held.{Register, Number, Holding, source_of, number_comparison_of, held_behind_operation}
use Rattle.core_lines.specs.Lines.{instructions_of}
use Rattle.core_lines.specs.Operands.{numbered_code}

-- a condition on x9 and a number, which x7 has
abbrev against : Condition → Comparison
against c = record { condition = c; left = 9; right = 7 }

-- `i < 4096`, where `i` has the home x9: behind the comparison it is known, and is no word yet
abbrev known : List Holding
known = held_behind_operation ((9 ∷ []) ∷ []) [] (held_behind_operation ((9 ∷ []) ∷ []) [] (held_behind_operation ((9 ∷ []) ∷ []) [] []
    (Get 0 0 0 4)) (Constant 1 4096)) (Apply Less 2 0 1)

-- so a test of it, before a label in reach, is the number into x7 and one branch, made where it doesn't hold
number_and_branch : choice_code (λ label. false) 0 known 2 7 ≡ Plain (Lui 7 1) ∷ BranchUnless (against condition.Less) 7 ∷ []
number_and_branch = refl

its_instruction : instructions_of (λ label. 100) 20 (BranchUnless (against condition.Less) 7) ≡ Bge 9 7 (pos 80) ∷ []
its_instruction = refl

-- a check of an index is the same, with a branch over what raises the exception
of_index : check_code 0 known 2 (Always ArrayBounds)
    ≡ Plain (Lui 7 1) ∷ Plain (Blt 9 7 (pos 16)) ∷ Plain (Addi 10 0 (pos 2)) ∷ Plain (Addi 17 0 (pos 3)) ∷ Plain Ecall ∷ []
of_index = refl

-- where `i` changes it isn't known any more
changed : source_of (held_behind_operation ((9 ∷ []) ∷ []) [] known (Put 0 0 4 5)) 2 ≡ None
changed = refl

-- the number may be on either side: `10 < x`, and `x >= 10`, which is `10 <= x` and that x isn't less than 10
on_the_left : number_comparison_of Less (Some (Number 10)) (Some (Register 9))
    ≡ Some (record { comparison = record { condition = condition.Less; left = 7; right = 9 }; number = 10 })
on_the_left = refl

at_least : number_comparison_of LessEqualUnsigned (Some (Number 10)) (Some (Register 9))
    ≡ Some (record { comparison = against condition.NotLessUnsigned; number = 10 })
at_least = refl

-- 0 is in x0, and a word that is only in a slot and another operation make none
with_none : number_comparison_of NotEqual (Some (Register 9)) (Some (Number 0)) ≡ None
with_none = refl

in_a_slot : number_comparison_of Less None (Some (Number 10)) ≡ None
in_a_slot = refl

of_a_sum : number_comparison_of Add (Some (Register 9)) (Some (Number 10)) ≡ None
of_a_sum = refl

-- where its word is needed, it is made, by an instruction that has room for the number, or by way of x7
as_a_word : numbered_code 13 (record { comparison = against condition.Less; number = 10 }) ≡ Plain (Slti 13 9 (pos 10)) ∷ []
as_a_word = refl

not_as_a_word : numbered_code 13 (record { comparison = against condition.NotLess; number = 10 })
    ≡ Plain (Slti 13 9 (pos 10)) ∷ Plain (Xori 13 13 (pos 1)) ∷ []
not_as_a_word = refl

by_way_of_a_register : numbered_code 13 (record { comparison = against condition.Less; number = 4096 }) ≡ Plain (Lui 7 1) ∷ Plain (Slt 13 9 7) ∷ []
by_way_of_a_register = refl
