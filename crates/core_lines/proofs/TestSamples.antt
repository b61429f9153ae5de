-- The branches of some tests.
use Rattle.std.proofs.Common.{◌≡◌, pos, false, List, [], ◌∷◌, Some, None, refl}
use Rattle.core_meaning.specs.Core.{Add, Equal, Less, LessEqual, LessUnsigned, Get, Put, Apply, IsNull}
use Rattle.cyc_words.specs.declared.faults.Kind.TheVariants.{NullException, ArrayBounds}
use Rattle.rv32_isa.specs.declared.instruction.Instr.TheVariants.{Bgeu, Bltu, Slt, Addi, Ecall, Jal}
use Rattle.core_lines.specs.declared.comparison.Comparison.{Comparison}
use Rattle.core_lines.specs.declared.comparison.Condition.TheVariants as condition
use Rattle.core_lines.specs.declared.line.Line.TheVariants.{Plain, JumpUnless, BranchUnless}
use Rattle.core_lines.specs.Checks.{Always, ByTest, failure_code, check_code}
use Rattle.core_lines.specs.Choosing.{choice_code}
use Rattle.core_lines.specs.Comparisons.{verdict_code}
use Rattle.core_lines.specs.Frames.{raise_code}
use Rattle.core_lines.specs.Held.{Register, Number, Compared, Holding, source_of, comparison_of, null_source, held_behind_operation}
use Rattle.core_lines.specs.Lines.{instructions_of}

-- `i < n` of two words in x8 and x9
abbrev below : Comparison
below = record { condition = condition.LessUnsigned; left = 8; right = 9 }

-- `i` and `n` have homes: behind the comparison it is known, and is no word yet
abbrev known : List Holding
known = held_behind_operation ((8 ∷ 9 ∷ []) ∷ []) [] (held_behind_operation ((8 ∷ 9 ∷ []) ∷ []) [] (held_behind_operation ((8 ∷ 9 ∷ []) ∷ []) []
    [] (Get 0 0 0 4)) (Get 1 0 1 4)) (Apply LessUnsigned 2 0 1)

-- so a test of it, before a label in reach, is one branch, made where it doesn't hold
one_branch : choice_code (λ label. false) 0 known 2 7 ≡ BranchUnless below 7 ∷ []
one_branch = refl

its_instruction : instructions_of (λ label. 100) 20 (BranchUnless below 7) ≡ Bgeu 8 9 (pos 80) ∷ []
its_instruction = refl

-- and before one that may not be, two: the way on takes the first
two_instructions : instructions_of (λ label. 100) 20 (JumpUnless below 7) ≡ Bltu 8 9 (pos 8) ∷ Jal 0 (pos 76) ∷ []
two_instructions = refl

-- a check of an index is a branch over what raises the exception
of_index : check_code 0 known 2 (Always ArrayBounds) ≡ Plain (Bltu 8 9 (pos 16)) ∷ Plain (Addi 10 0 (pos 2)) ∷ Plain (Addi 17 0 (pos 3)) ∷ Plain Ecall ∷ []
of_index = refl

-- an array's address is a number: of a failed check of its index only the exception that is raised then has code
abbrev with_address : List Holding
with_address = record { temporary = 5; source = Number 2097152 } ∷ known

of_an_array : check_code 0 with_address 2 (ByTest 5 ArrayBounds NullException)
    ≡ Plain (Bltu 8 9 (pos 16)) ∷ Plain (Addi 10 0 (pos 2)) ∷ Plain (Addi 17 0 (pos 3)) ∷ Plain Ecall ∷ []
of_an_array = refl

-- NULL raises the other one
of_none : failure_code 0 (record { temporary = 5; source = Number 0 } ∷ known) (ByTest 5 ArrayBounds NullException) ≡ raise_code NullException
of_none = refl

-- a check of what is known has no branch
never_fails : check_code 0 with_address 5 (Always NullException) ≡ []
never_fails = refl

always_fails : check_code 0 (record { temporary = 5; source = Number 0 } ∷ known) 5 (Always NullException) ≡ raise_code NullException
always_fails = refl

-- whether a pointer is NULL is a comparison with x0 where a register has it, a number where it is one, and else has to be computed
null_in_a_register : source_of (held_behind_operation ((8 ∷ 9 ∷ []) ∷ []) [] known (IsNull 3 0)) 3
    ≡ Some (Compared (record { condition = condition.Equal; left = 8; right = 0 }))
null_in_a_register = refl

one_null_branch : choice_code (λ label. false) 0 (held_behind_operation ((8 ∷ 9 ∷ []) ∷ []) [] known (IsNull 3 0)) 3 7
    ≡ BranchUnless (record { condition = condition.Equal; left = 8; right = 0 }) 7 ∷ []
one_null_branch = refl

null_of_an_address : null_source (source_of with_address 5) ≡ Some (Number 0)
null_of_an_address = refl

null_of_none : null_source (Some (Number 0)) ≡ Some (Number 1)
null_of_none = refl

null_in_a_slot : null_source None ≡ None
null_in_a_slot = refl

-- where `i` changes it isn't known any more
changed : source_of (held_behind_operation ((8 ∷ 9 ∷ []) ∷ []) [] known (Put 0 0 4 5)) 2 ≡ None
changed = refl

-- `a <= b` is that b isn't less than a, and `!a` compares with x0
at_most : comparison_of LessEqual (Some (Register 8)) (Some (Register 9)) ≡ Some (record { condition = condition.NotLess; left = 9; right = 8 })
at_most = refl

negated : comparison_of Equal (Some (Register 8)) (Some (Number 0)) ≡ Some (record { condition = condition.Equal; left = 8; right = 0 })
negated = refl

-- a word that is only in a slot, another number and another operation make none
in_a_slot : comparison_of Less (Some (Register 8)) None ≡ None
in_a_slot = refl

with_a_number : comparison_of Less (Some (Register 8)) (Some (Number 5)) ≡ None
with_a_number = refl

of_a_sum : comparison_of Add (Some (Register 8)) (Some (Register 9)) ≡ None
of_a_sum = refl

-- where its word is needed, it is made
as_a_word : verdict_code 13 (record { condition = condition.Less; left = 8; right = 9 }) ≡ Plain (Slt 13 8 9) ∷ []
as_a_word = refl
