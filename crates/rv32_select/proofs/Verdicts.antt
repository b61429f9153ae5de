-- Whether two words are the same, by whether the second register is x0.
use Rattle.std.proofs.Common.{◌≡◌, ℕ, zero, suc, pos, ◌∷◌, [], List, arith}
use Rattle.rv32_isa.specs.declared.instruction.Instr.TheVariants.{Sub, Sltu, Sltiu}
use Rattle.core_lines.specs.declared.comparison.Condition.TheVariants.{Equal, NotEqual}
use Rattle.core_lines.specs.declared.line.Line.{Line}
use Rattle.core_lines.specs.declared.line.Line.TheVariants.{Plain}
use Rattle.core_lines.specs.Comparisons.{verdict_on}

module _ (to left : ℕ) (lines : List Line) where
  pub equal_none : (right : ℕ) → right ≡ 0 → lines ≡ Plain (Sltiu to left (pos 1)) ∷ [] → lines ≡ verdict_on Equal to left right
  equal_none zero none is = is
  equal_none (suc right) none is = absurd (omega (arith, none))

  pub equal_some : (right : ℕ) → (right ≡ 0 → ⊥) → lines ≡ Plain (Sub to left right) ∷ Plain (Sltiu to to (pos 1)) ∷ []
      → lines ≡ verdict_on Equal to left right
  equal_some zero some is = absurd (some (omega arith))
  equal_some (suc right) some is = is

  pub differs_none : (right : ℕ) → right ≡ 0 → lines ≡ Plain (Sltu to 0 left) ∷ [] → lines ≡ verdict_on NotEqual to left right
  differs_none zero none is = is
  differs_none (suc right) none is = absurd (omega (arith, none))

  pub differs_some : (right : ℕ) → (right ≡ 0 → ⊥) → lines ≡ Plain (Sub to left right) ∷ Plain (Sltu to 0 to) ∷ []
      → lines ≡ verdict_on NotEqual to left right
  differs_some zero some is = absurd (some (omega arith))
  differs_some (suc right) some is = is
