-- An operation on two temporaries: the first one's word into a register, and then the operation.
use Rattle.std.proofs.Common.{◌≡◌, ℕ, List, ◌++◌, Option, Some, None, refl, sym, ap, ◌∙◌}
use Rattle.std.proofs.lemmas.List.{append_assoc}
use Rattle.core_meaning.specs.Core.{Binary}
use Rattle.core_lines.specs.declared.line.Line.{Line}
use Rattle.core_lines.specs.Held.{source_of}
use Rattle.core_lines.specs.Selected.{Surroundings, operand, has_operand, binary_code, both_code, apply_code, immediate_for}
use Rattle.rv32_select.specs.Immediates.{with_lines, with_code}

module _ (u : Surroundings) (o : Binary) (to x y : ℕ) where
  both : (lines : Option (List Line)) → operand u 5 x ++ with_lines u o to (has_operand u 5 x) y lines ≡ both_code u o to x y lines
  both None = sym (append_assoc (operand u 5 x) (operand u 6 y) (binary_code o to (has_operand u 5 x) (has_operand u 6 y)))
  both (Some lines) = refl

  pub applied : (before loaded after : List Line) (register : ℕ) → loaded ≡ before ++ operand u 5 x → register ≡ has_operand u 5 x
      → after ≡ loaded ++ with_code u o to register y → after ≡ before ++ apply_code u o to x y
  applied before loaded after register l r e =
      e ∙ (λ i. l i ++ with_code u o to (r i) y) ∙ append_assoc before (operand u 5 x) (with_code u o to (has_operand u 5 x) y) ∙
      ap (λ lines. before ++ lines) (both (immediate_for o to (has_operand u 5 x) (source_of u.held y)))
