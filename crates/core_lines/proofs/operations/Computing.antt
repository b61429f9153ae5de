-- An operation on two words whose last instructions leave its result somewhere: where it gets both words from registers, or one of them as a number.
use Rattle.std.proofs.Common.{◌≡◌, ℕ, zero, suc, ◌+◌, ◌<◌, List, ◌++◌, Option, Some, None, refl, arith}
use Rattle.core_meaning.specs.Memory.{Memory}
use Rattle.core_meaning.specs.Core.{Binary}
use Rattle.core_lines.specs.declared.line.Line.{Line}
use Rattle.core_lines.specs.Lines.{code_length}
use Rattle.core_lines.specs.Lies.{Maps}
use Rattle.core_lines.specs.Held.{Source, Register, Number, Compared, ComparedWith, Holding, source_of}
use Rattle.core_lines.specs.Operands.{operand_in}
use Rattle.core_lines.specs.Selected.{Surroundings, binary_code, immediate_code, immediate_for, both_code}
use Rattle.core_lines.proofs.memory.Relations.{World, IsInOrder, Has, Waiting}
use Rattle.core_lines.proofs.memory.Moving.{Comes}
use Rattle.core_lines.proofs.frames.Passing.{has_first, has_second}
use Rattle.core_lines.proofs.operations.Registers.{AtWith, InOperand, AreThere, IsServed, in_turn, operand_some, Alone, brings, operands_into}
use Rattle.core_lines.proofs.operations.Operations.{operand}

module _ (w : World) (order : IsInOrder w) (x : Waiting) (outer : List Waiting) (mem : Memory) (y z : ℕ) (hs : List Holding) where
  abbrev pub Operands : ℕ → ℕ → Maps → (ℕ → ℕ) → Type 0
  Operands left right m registers = InOperand 5 left (x.config.temps y) m registers × InOperand 6 right (x.config.temps z) m registers
      × AreThere hs x.config.temps m registers

  module _ (named : y < x.fn.temporaries) (named' : z < x.fn.temporaries) (served : IsServed w x hs y) (served' : IsServed w x hs z) (u : Surroundings)
      (o : Binary) (to place : ℕ) (mem' : Memory) (Result : Maps → (ℕ → ℕ) → Type 0)
      (of_registers : (middle k j : ℕ) → Has w middle (binary_code o to (suc k) (suc j)) → Comes w (AtWith w x outer mem middle (Operands (suc k) (suc j)))
      (AtWith w x outer mem' (middle + code_length (binary_code o to (suc k) (suc j))) Result))
      (of_number : (n : ℕ) (lines : List Line) → source_of hs z ≡ Some (Number n) → (middle k : ℕ) → immediate_code o to (suc k) n ≡ Some lines
      → Has w middle lines → Comes w (AtWith w x outer mem middle (Alone w order x outer mem 5 (suc k) y hs))
      (AtWith w x outer mem' (middle + code_length lines) Result)) where
    -- the surroundings, as they are here
    abbrev here : Surroundings
    here = record u { passed = x.fn.passed; held = hs }

    abbrev Resulting : Option (List Line) → Type 0
    Resulting found = Has w place (both_code here o to y z found)
        → Comes w (AtWith w x outer mem place (AreThere hs x.config.temps))
        (AtWith w x outer mem' (place + code_length (both_code here o to y z found)) Result)

    -- both words in registers
    by_registers : (middle left right l q : ℕ) → left ≡ suc l → right ≡ suc q → Has w middle (binary_code o to left right)
        → Comes w (AtWith w x outer mem middle (Operands left right)) (AtWith w x outer mem' (middle + code_length (binary_code o to left right)) Result)
    by_registers middle zero right l q e e' has = absurd (omega (arith, e))
    by_registers middle (suc k) zero l q e e' has = absurd (omega (arith, e'))
    by_registers middle (suc k) (suc j) l q e e' has = of_registers middle k j has

    both : Resulting None
    both has =
        let first = operand w order x outer mem hs 5 y ++ operand w order x outer mem hs 6 z in
        let last = binary_code o to (operand_in hs 5 y) (operand_in hs 6 z) in
        let left = operand_some hs 4 y in
        let right = operand_some hs 5 z in
        in_turn w _ (λ p. AtWith w x outer mem p (Operands (operand_in hs 5 y) (operand_in hs 6 z))) (λ p. AtWith w x outer mem' p Result) place first last
        (operands_into w order x outer mem y z place hs named named' served served' (has_first w place first last has))
        (by_registers (place + code_length first) (operand_in hs 5 y) (operand_in hs 6 z) left.0 right.0 left.1 right.1 (has_second w place first last has))

    -- the second one as a number
    by_number : (n : ℕ) (lines : List Line) → source_of hs z ≡ Some (Number n) → (middle left l : ℕ) → left ≡ suc l
        → immediate_code o to left n ≡ Some lines → Has w middle lines
        → Comes w (AtWith w x outer mem middle (Alone w order x outer mem 5 left y hs)) (AtWith w x outer mem' (middle + code_length lines) Result)
    by_number n lines at middle zero l e some has = absurd (omega (arith, e))
    by_number n lines at middle (suc k) l e some has = of_number n lines at middle k some has

    by_source : (lines : List Line) (s : Option Source) → source_of hs z ≡ s → immediate_for o to (operand_in hs 5 y) s ≡ Some lines
        → Resulting (Some lines)
    by_source lines None at some has = absurd (cc)
    by_source lines (Some (Register r)) at some has = absurd (cc)
    by_source lines (Some (Compared c)) at some has = absurd (cc)
    by_source lines (Some (ComparedWith c)) at some has = absurd (cc)
    by_source lines (Some (Number n)) at some has =
        let first = operand w order x outer mem hs 5 y in
        let left = operand_some hs 4 y in
        in_turn w _ (λ p. AtWith w x outer mem p (Alone w order x outer mem 5 (operand_in hs 5 y) y hs)) (λ p. AtWith w x outer mem' p Result) place first lines
        (brings w order x outer mem 4 y place hs named served refl (has_first w place first lines has))
        (by_number n lines at (place + code_length first) (operand_in hs 5 y) left.0 left.1 some (has_second w place first lines has))

    pub resulting : (found : Option (List Line)) → immediate_for o to (operand_in hs 5 y) (source_of hs z) ≡ found → Resulting found
    resulting None e = both
    resulting (Some lines) e = by_source lines (source_of hs z) refl e
