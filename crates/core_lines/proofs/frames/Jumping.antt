-- A jump comes to its label, with all that is known.
use Rattle.std.proofs.Common.{ℕ, ◌+◌, List, [], ◌∷◌, refl, sym, subst, arith}
use Rattle.cyc_words.specs.Words.{word, sum_of}
use Rattle.rv32_isa.specs.declared.instruction.Instr.TheVariants.{Jal}
use Rattle.rv32_machine.specs.State.{code_base}
use Rattle.core_meaning.specs.Memory.{Memory}
use Rattle.core_lines.specs.declared.line.Line.TheVariants.{Jump}
use Rattle.core_lines.specs.Machines.{Machine}
use Rattle.core_lines.specs.Lines.{HasInstr, offset_to}
use Rattle.core_lines.specs.Held.{Holding}
use Rattle.core_lines.specs.Lies.{Maps}
use Rattle.core_lines.proofs.memory.Relations.{Moves, World, IsInOrder, Has, Waiting}
use Rattle.core_lines.proofs.memory.Moving.{Comes, comes_then, comes_as}
use Rattle.core_lines.proofs.memory.Words.{offset_joined}
use Rattle.core_lines.proofs.memory.Access.{written_out}
use Rattle.core_lines.proofs.Steps.{state_at, is_in_code, goes_to}
use Rattle.core_lines.proofs.operations.Registers.{AtWith, AtHolding, elsewhere, with_there, as_holding}

module _ (w : World) (order : IsInOrder w) (x : Waiting) (outer : List Waiting) (mem : Memory) where
  pub jumps_with : (label place : ℕ) (P : Maps → (ℕ → ℕ) → Type 0) → HasInstr w.areas w.code (code_base + place) (Jal 0 (offset_to (w.places label) place))
      → Comes w (AtWith w x outer mem place P) (AtWith w x outer mem (w.places label) P)
  jumps_with label place P has = record {
    count = 1;
    by = λ s a.
        let to = w.places label in
        let is_place = order.labels label in
        let within = is_place.within in
        let near = is_in_code w.areas w.code order.code_within s.store place (Jal 0 (offset_to to place)) has in
        let next = state_at to s.registers s.bytes s.store in
        record {
          next = next;
          moves = subst (λ (q : Machine). Moves w.areas 1 q next) (sym (written_out w order mem place a.maps (a.frame ∷ a.others) a.sp s a.stands))
              (goes_to w.areas w.code order.code_within s.store place s.registers s.bytes a.stands.kept (Jal 0 (offset_to to place)) has 0
              (sum_of (code_base + place) (word (offset_to to place))) to (offset_joined code_base to place (omega (arith, near)) (omega (arith, within)))
              is_place.aligned (λ answer. refl) tt);
          there = elsewhere w order x outer mem place to P P s a s.registers is_place.aligned (λ q h. refl) a.holds;
        };
  }

  pub jumps_to : (held : List Holding) (label place : ℕ) → Has w place (Jump label ∷ [])
      → Comes w (AtHolding w x outer mem place held) (AtHolding w x outer mem (w.places label) held)
  jumps_to held label place has =
      comes_then w _ _ _ (comes_as w _ _ (with_there w x outer mem place held))
      (comes_then w _ _ _ (jumps_with label place _ has.0.0) (comes_as w _ _ (as_holding w x outer mem (w.places label) held)))
