-- Words that are stored: each is in a register, which is x0 where the word is known to be 0.
use Rattle.std.specs.Prelude.{if◌then◌else◌}
use Rattle.std.proofs.Common.{◌≡◌, ℕ, zero, suc, ◌+◌, ◌<◌, inr, Bool, true, false, List, [], ◌∷◌, ◌++◌, Option, Some, None, refl, arith}
use Rattle.core_meaning.specs.Memory.{Content, Memory}
use Rattle.core_lines.specs.Held.{Source, Register, Number, Compared, ComparedWith, Holding, source_of, is_zero}
use Rattle.core_lines.specs.Lies.{Maps}
use Rattle.core_lines.specs.Lines.{code_length}
use Rattle.core_lines.specs.Operands.{operand_in, operand_code, stored_in, stored_code}
use Rattle.core_lines.proofs.memory.Relations.{World, IsInOrder, Has, Waiting}
use Rattle.core_lines.proofs.memory.Moving.{Comes, comes_then, comes_as}
use Rattle.core_lines.proofs.frames.Passing.{has_first, has_second}
use Rattle.core_lines.proofs.operations.Holding.{Stable, IsFree, InOperand, operand_some, operand_stays}
use Rattle.core_lines.proofs.operations.Registers.{AtWith, AreThere, IsServed, in_turn, knows, now_known, stays_there, there_found, brings, operand_into}
use Rattle.core_lines.proofs.operations.Writing.{HasWord}

abbrev pub InStored : ℕ → Content → Maps → (ℕ → ℕ) → Type 0
InStored r v m registers = HasWord r v m registers × IsFree 6 r

-- x7 may change
pub stored_stays : (r : ℕ) (v : Content) → Stable 7 (InStored r v)
stored_stays zero v m new old kept h = h
stored_stays (suc r) v m new old kept h = operand_stays 6 (suc r) 7 v refl refl refl m new old kept h

-- an operand can be stored
as_stored : (r : ℕ) (v : Content) (m : Maps) (registers : ℕ → ℕ) → (q : ℕ) × (r ≡ suc q) → InOperand 6 r v m registers → InStored r v m registers
as_stored zero v m registers (q, e) h = absurd (omega (arith, e))
as_stored (suc r) v m registers some h = h

zero_known : (s : Option Source) → is_zero s ≡ true → s ≡ Some (Number 0)
zero_known None e = absurd (cc e)
zero_known (Some (Register r)) e = absurd (cc e)
zero_known (Some (Number zero)) e = refl
zero_known (Some (Number (suc w))) e = absurd (cc e)
zero_known (Some (Compared c)) e = absurd (cc e)
zero_known (Some (ComparedWith c)) e = absurd (cc e)

module _ (w : World) (order : IsInOrder w) (x : Waiting) (outer : List Waiting) (mem : Memory) (hs : List Holding) where
  abbrev Known : (Maps → (ℕ → ℕ) → Type 0) → Maps → (ℕ → ℕ) → Type 0
  Known H m registers = AreThere hs x.config.temps m registers × H m registers

  -- a word to be stored, where something is known besides
  abbrev WithStored : ℕ → ℕ → (Maps → (ℕ → ℕ) → Type 0) → Maps → (ℕ → ℕ) → Type 0
  WithStored r y H m registers = InStored r (x.config.temps y) m registers × AreThere hs x.config.temps m registers × H m registers

  pub stored_into : (y place : ℕ) (H : Maps → (ℕ → ℕ) → Type 0) → y < x.fn.temporaries → IsServed w x hs y → Stable 6 H
      → Has w place (stored_code x.fn.passed hs 6 y)
      → Comes w (AtWith w x outer mem place (λ m registers. AreThere hs x.config.temps m registers × H m registers))
      (AtWith w x outer mem (place + code_length (stored_code x.fn.passed hs 6 y))
      (λ m registers. InStored (stored_in hs 6 y) (x.config.temps y) m registers × AreThere hs x.config.temps m registers × H m registers))
  stored_into y place H named served stable has = by (is_zero (source_of hs y)) refl has
    where
      by : (b : Bool) → is_zero (source_of hs y) ≡ b → Has w place (if b then [] else operand_code x.fn.passed hs 6 y)
          → Comes w (AtWith w x outer mem place (Known H))
          (AtWith w x outer mem (place + code_length (if b then [] else operand_code x.fn.passed hs 6 y))
          (WithStored (if b then 0 else operand_in hs 6 y) y H))
      by true e has = stays_there w order x outer mem place (Known H) (WithStored 0 y H)
          (λ m registers h. ((there_found hs y (Number 0) x.config.temps m registers h.0 (zero_known (source_of hs y) e), inr refl), h.0, h.1))
      by false e has =
          now_known w order x outer mem (place + code_length (operand_code x.fn.passed hs 6 y)) _ _ (WithStored (operand_in hs 6 y) y H)
          (λ m registers h. (as_stored (operand_in hs 6 y) (x.config.temps y) m registers (operand_some hs 5 y) h.0, h.1, h.2))
          (operand_into w order x outer mem 5 y place hs H named served refl stable has)

  -- where nothing else is known
  pub stores_alone : (y place : ℕ) → y < x.fn.temporaries → IsServed w x hs y → Has w place (stored_code x.fn.passed hs 6 y)
      → Comes w (AtWith w x outer mem place (AreThere hs x.config.temps))
      (AtWith w x outer mem (place + code_length (stored_code x.fn.passed hs 6 y))
      (λ m registers. InStored (stored_in hs 6 y) (x.config.temps y) m registers × AreThere hs x.config.temps m registers))
  stores_alone y place named served has =
      comes_then w _ _ _
      (comes_as w _ _ (λ s a. knows w order x outer mem place (AreThere hs x.config.temps) (Known (λ m registers. Unit {0})) s (λ m registers h. (h, tt)) a))
      (now_known w order x outer mem (place + code_length (stored_code x.fn.passed hs 6 y)) _ (WithStored (stored_in hs 6 y) y (λ m registers. Unit {0})) _
      (λ m registers h. (h.0, h.1)) (stored_into y place (λ m registers. Unit {0}) named served (λ m new old kept h. tt) has))

  -- behind a pointer
  pub stores_behind : (p y place : ℕ) → p < x.fn.temporaries → y < x.fn.temporaries → IsServed w x hs p → IsServed w x hs y
      → Has w place (operand_code x.fn.passed hs 5 p ++ stored_code x.fn.passed hs 6 y)
      → Comes w (AtWith w x outer mem place (AreThere hs x.config.temps))
      (AtWith w x outer mem (place + code_length (operand_code x.fn.passed hs 5 p ++ stored_code x.fn.passed hs 6 y))
      (λ m registers. InOperand 5 (operand_in hs 5 p) (x.config.temps p) m registers × InStored (stored_in hs 6 y) (x.config.temps y) m registers
      × AreThere hs x.config.temps m registers))
  stores_behind p y place named named' served served' has =
      let first = operand_code x.fn.passed hs 5 p in
      let second = stored_code x.fn.passed hs 6 y in
      in_turn w _ (λ q. AtWith w x outer mem q (λ m registers. InOperand 5 (operand_in hs 5 p) (x.config.temps p) m registers
      × AreThere hs x.config.temps m registers))
      (λ q. AtWith w x outer mem q (λ m registers. InOperand 5 (operand_in hs 5 p) (x.config.temps p) m registers
      × InStored (stored_in hs 6 y) (x.config.temps y) m registers × AreThere hs x.config.temps m registers)) place first second
      (brings w order x outer mem 4 p place hs named served refl (has_first w place first second has))
      (comes_then w _ _ _
      (comes_as w _ _ (λ s a. knows w order x outer mem (place + code_length first) _ (Known (InOperand 5 (operand_in hs 5 p) (x.config.temps p))) s
      (λ m registers h. (h.1, h.0)) a))
      (now_known w order x outer mem (place + code_length first + code_length second) _ _ _ (λ m registers h. (h.2, h.0, h.1))
      (stored_into y (place + code_length first) (InOperand 5 (operand_in hs 5 p) (x.config.temps p)) named' served'
      (operand_stays 5 (operand_in hs 5 p) 6 (x.config.temps p) refl refl refl) (has_second w place first second has))))

-- ---- samples

-- 0 needs no register but x0
zero_stored : stored_in (record { temporary = 5; source = Number 0 } ∷ []) 6 5 ≡ 0
zero_stored = refl

zero_ready : stored_code 0 (record { temporary = 5; source = Number 0 } ∷ []) 6 5 ≡ []
zero_ready = refl

-- another number is put into the spare one
seven_stored : stored_in (record { temporary = 5; source = Number 7 } ∷ []) 6 5 ≡ 6
seven_stored = refl
