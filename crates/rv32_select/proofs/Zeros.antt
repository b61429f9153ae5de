-- Equality with a number: with 0, and with another one.
use Rattle.std.specs.Prelude.{pos}
use Rattle.std.proofs.Common.{◌≡◌, ℕ, zero, suc, ◌<◌, List, [], ◌∷◌, Option, Some, refl, arith}
use Rattle.core_meaning.specs.Core.{Equal, NotEqual}
use Rattle.core_lines.specs.declared.line.Line.{Line}
use Rattle.core_lines.specs.declared.line.Line.TheVariants.{Plain}
use Rattle.core_lines.specs.Selected.{difference_code, immediate_code}
use Rattle.rv32_isa.specs.declared.instruction.Instr.TheVariants as instr

module _ (to left : ℕ) where
  pub equal_zero : (n : ℕ) → n ≡ 0 → Some (Plain (instr.Sltiu to left (pos 1)) ∷ []) ≡ immediate_code Equal to left n
  equal_zero zero none = refl
  equal_zero (suc n) none = absurd (omega (arith, none))

  pub equal_more : (n : ℕ) (code : Option (List Line)) → 0 < n → code ≡ difference_code to left n (Plain (instr.Sltiu to to (pos 1)) ∷ [])
      → code ≡ immediate_code Equal to left n
  equal_more zero code some e = absurd (omega (arith, some))
  equal_more (suc n) code some e = e

  pub different_zero : (n : ℕ) → n ≡ 0 → Some (Plain (instr.Sltu to 0 left) ∷ []) ≡ immediate_code NotEqual to left n
  different_zero zero none = refl
  different_zero (suc n) none = absurd (omega (arith, none))

  pub different_more : (n : ℕ) (code : Option (List Line)) → 0 < n → code ≡ difference_code to left n (Plain (instr.Sltu to 0 to) ∷ [])
      → code ≡ immediate_code NotEqual to left n
  different_more zero code some e = absurd (omega (arith, some))
  different_more (suc n) code some e = e
