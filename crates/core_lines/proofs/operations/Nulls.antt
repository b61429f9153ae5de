-- What the code does that tells whether a pointer is NULL.
use Rattle.std.specs.Prelude.{nat_lt}
use Rattle.std.proofs.Common.{◌≡◌, ℕ, zero, suc, pos, ◌+◌, ◌^◌, ◌<◌, Bool, List, [], ◌∷◌, ◌++◌, Option, Some, None, refl, sym, ap, subst, ◌∙◌, arith}
use Rattle.std.proofs.lemmas.Bool.{lt-ltb, le-ltb}
use Rattle.rv32_isa.specs.declared.instruction.Instr.TheVariants.{Sltiu}
use Rattle.rv32_machine.specs.Step.{truth}
use Rattle.core_meaning.specs.Memory.{Spot, Word, Null, Pointer, Memory}
use Rattle.core_lines.specs.declared.comparison.Condition.TheVariants.{Equal}
use Rattle.core_lines.specs.declared.comparison.Comparison.{Comparison}
use Rattle.core_lines.specs.declared.line.Line.{Line}
use Rattle.core_lines.specs.declared.line.Line.TheVariants.{Plain}
use Rattle.core_lines.specs.Held.{Source, Register, Number, Compared, ComparedWith, Holding, source_of, with_moved, null_source, result_register}
use Rattle.core_lines.specs.Lies.{Maps, Shows, Points}
use Rattle.core_lines.specs.Lines.{code_length}
use Rattle.core_lines.specs.Operands.{operand_in, operand_code, keep_code, move_kept}
use Rattle.core_lines.proofs.memory.Relations.{World, IsInOrder, Has, Waiting, Follows, keeping}
use Rattle.core_lines.proofs.memory.Moving.{Comes}
use Rattle.core_lines.proofs.memory.Verdicts.{below_one}
use Rattle.core_lines.proofs.operations.Judging.{verdict_into}
use Rattle.core_lines.proofs.operations.Operations.{one_more}
use Rattle.core_lines.proofs.operations.Registers.{having, AtHolding, IsServed, there_found, source_not_zero, number_into}

module _ (w : World) (order : IsInOrder w) (x : Waiting) (outer : List Waiting) (mem : Memory) (keeps : Bool) (after : List Bool) (t : ℕ)
    (named : t < x.fn.temporaries) (follows : Follows keeps (t ∷ []) x.kept after) (y place : ℕ) (hs : List Holding) (named' : y < x.fn.temporaries)
    (served : IsServed w x hs y) where
  abbrev null_lines : Option Source → List Line
  null_lines None = operand_code x.fn.passed hs 5 y ++ (Plain (Sltiu (result_register t) (operand_in hs 5 y) (pos 1)) ∷ [])
      ++ keep_code keeps x.fn.passed (result_register t) t
  null_lines (Some s) = move_kept keeps x.fn.passed (result_register t) t y (Some s)

  abbrev Told : ℕ → Option Source → Type 0
  Told n known = Has w place (null_lines known) → Comes w (AtHolding w x outer mem place hs)
      (AtHolding w (keeping after (having t (Word n) x)) outer mem (place + code_length (null_lines known)) (with_moved t known hs))

  -- a register's word is compared with 0
  abbrev with_none : ℕ → Comparison
  with_none r = record { condition = Equal; left = r; right = 0 }

  module _ (n : ℕ) (small : n < 2 ^ 32) (gets : (m : Maps) (k : ℕ) → Shows m (x.config.temps y) k → truth (nat_lt k 1) ≡ n) where
    computed : Told n None
    computed has =
        one_more w order x outer mem keeps after t named follows y place (Word n) hs (λ q. Sltiu (result_register t) q (pos 1)) (λ k. truth (nat_lt k 1))
        named' served has (λ q here r b st a. refl) (λ q _. tt)
        (λ m k shows few. let same = gets m k shows in (same, subst (λ j. j < 2 ^ 32) (sym same) small))

    is_null_as : Told n (null_source (source_of hs y))
    is_null_as = by (source_of hs y) refl
      where
        by : (s : Option Source) → source_of hs y ≡ s → Told n (null_source s)
        by None e = computed
        by (Some (Register zero)) e = absurd (source_not_zero hs y e)
        by (Some (Register (suc q))) e = verdict_into w order x outer mem after t place (Word n) hs named (with_none (suc q)) keeps follows
            (λ s a.
            let found = there_found hs y (Register (suc q)) x.config.temps a.maps s.registers a.holds e in (
              ap truth (sym (below_one (s.registers (suc q)))) ∙ gets a.maps (s.registers (suc q)) found.0.0,
              (found.1, found.0.1),
              (refl, omega arith),
            ))
        by (Some (Number zero)) e = number_into w order x outer mem keeps after t 1 place (Word n) hs named follows (omega arith)
            (λ s a. gets a.maps 0 (there_found hs y (Number 0) x.config.temps a.maps s.registers a.holds e).0)
        by (Some (Number (suc k))) e = number_into w order x outer mem keeps after t 0 place (Word n) hs named follows (omega arith)
            (λ s a.
            sym (ap truth (le-ltb (suc k) 1 (omega arith)))
            ∙ gets a.maps (suc k) (there_found hs y (Number (suc k)) x.config.temps a.maps s.registers a.holds e).0)
        by (Some (Compared c)) e = computed
        by (Some (ComparedWith c)) e = computed

  pub null_is : x.config.temps y ≡ Null → Told 1 (null_source (source_of hs y))
  null_is is = is_null_as 1 (omega arith) (λ m k shows.
      let none : k ≡ 0 = subst (λ v. Shows m v k) is shows in
      ap truth (lt-ltb k 1 (omega (arith, none))))

  pub pointer_is : (s : Spot) (b : ℕ) → x.config.temps y ≡ Pointer s b → Told 0 (null_source (source_of hs y))
  pointer_is s b is = is_null_as 0 (omega arith) (λ m k shows.
      let points : Points m s b k = subst (λ v. Shows m v k) is shows in
      let positive = points.positive in
      ap truth (le-ltb k 1 (omega (arith, positive))))
