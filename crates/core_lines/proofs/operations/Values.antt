-- What the instructions of an operation on two words do, and that its result is a word.
use Rattle.arena_laws.specs.Lawful.{Answer}
use Rattle.core_lines.specs.Machines.{state_of}
use Rattle.std.proofs.Common.{
  ◌≡◌,
  ℕ,
  suc,
  pos,
  ◌+◌,
  ◌^◌,
  ◌<◌,
  ◌%◌,
  List,
  Bool,
  true,
  false,
  not,
  nat_eq,
  nat_lt,
  nat_le,
  bit_xor,
  refl,
  sym,
  ap,
  subst,
  ◌∙◌,
  arith,
}
use Rattle.std.proofs.Math.Nat.{div-le_self, mod-le}
use Rattle.std.proofs.lemmas.Nat.{and_le_l, or_of_32, xor_of_32}
use Rattle.std.proofs.lemmas.Bool.Decides.{nat_tests}
use Rattle.cyc_words.specs.Words.{difference_of}
use Rattle.rv32_isa.specs.declared.instruction.Instr.{Instr}
use Rattle.rv32_isa.specs.declared.instruction.Instr.TheVariants.{Sltiu, Xori}
use Rattle.rv32_isa.specs.declared.instruction.Instr.TheVariants as instr
use Rattle.core_meaning.specs.Memory.{Word, Memory}
use Rattle.core_lines.specs.Machines.{Store}
use Rattle.rv32_machine.specs.State.{code_base}
use Rattle.rv32_machine.specs.Step.{gives, effect, truth}
use Rattle.rv32_machine.specs.Audit.{AccessIsLawful}
use Rattle.rv32_machine.specs.Run.{Run}
use Rattle.core_meaning.specs.Core.{Binary}
use Rattle.core_meaning.specs.Words.{two, is_less}
use Rattle.core_lines.specs.Lines.{HasInstr, code_length}
use Rattle.core_lines.specs.Lies.{Maps}
use Rattle.core_lines.specs.Selected.{binary_code}
use Rattle.core_lines.proofs.memory.Relations.{World, IsInOrder, Has, Waiting}
use Rattle.core_lines.proofs.memory.Moving.{Comes}
use Rattle.core_lines.proofs.memory.Slots.{Kept}
pub use Rattle.core_lines.proofs.memory.Verdicts.{is_zero, is_some}
use Rattle.core_lines.specs.Homes.{stays}
use Rattle.core_lines.proofs.Steps.{state_at}
use Rattle.core_lines.proofs.operations.Registers.{AtWith, InRegister, puts_value, puts_twice}
use Rattle.core_meaning.specs.Core as core
use Rattle.core_meaning.specs.Words as meaning
use Rattle.core_meaning.proofs.Results.{word_below, truth_below, either_below}

-- ---- the values

pub same_truth : (b : Bool) → truth b ≡ meaning.truth b
same_truth true = refl
same_truth false = refl

opposite : (b : Bool) → bit_xor (truth b) 1 ≡ meaning.truth (not b)
opposite true = refl
opposite false = refl

pub not_less : (a b : ℕ) → not (nat_lt b a) ≡ nat_le a b
not_less a b = grind (arith, nat_tests)

pub two_below : (o : Binary) (a b : ℕ) → a < 2 ^ 32 → b < 2 ^ 32 → two o a b < 2 ^ 32
two_below core.Add a b l m = omega arith
two_below core.Subtract a b l m = omega arith
two_below core.Multiply a b l m = omega arith
two_below core.Divide a b l m = either_below (nat_eq b 0) _ _ (omega arith) (word_below _)
two_below core.DivideUnsigned a b l m = either_below (nat_eq b 0) _ _ (omega arith) (let h = div-le_self a b in omega (arith, h, l))
two_below core.Remainder a b l m = either_below (nat_eq b 0) _ _ l (word_below _)
two_below core.RemainderUnsigned a b l m = either_below (nat_eq b 0) _ _ l (let h = mod-le a b in omega (arith, h, l))
two_below core.And a b l m = omega (arith, and_le_l a b)
two_below core.Or a b l m = or_of_32 a b l m
two_below core.Xor a b l m = xor_of_32 a b l m
two_below core.ShiftLeft a b l m = omega arith
two_below core.ShiftRight a b l m = word_below _
two_below core.ShiftRightUnsigned a b l m = let h = div-le_self a (2 ^ (b % 32)) in omega (arith, h, l)
two_below core.Equal a b l m = truth_below _
two_below core.NotEqual a b l m = truth_below _
two_below core.Less a b l m = truth_below _
two_below core.LessEqual a b l m = truth_below _
two_below core.LessUnsigned a b l m = truth_below _
two_below core.LessEqualUnsigned a b l m = truth_below _

-- ---- the instructions

module _ (w : World) (order : IsInOrder w) (x : Waiting) (outer : List Waiting) (mem : Memory) (r l q a b place : ℕ) (P Q : Maps → (ℕ → ℕ) → Type 0)
    (other : stays (suc r) ≡ false)
    (here : (m : Maps) (registers : ℕ → ℕ) → P m registers → InRegister (suc l) (Word a) m registers × InRegister (suc q) (Word b) m registers) where
  -- what is known where the result is in its register
  abbrev Gets : ℕ → Type 0
  Gets n = (m : Maps) (new old : ℕ → ℕ) → InRegister (suc r) (Word n) m new → Kept (suc r) new old → P m old → Q m new

  -- a number that is made of both words is the result
  is_result : (o : Binary) (f : ℕ → ℕ → ℕ) → (a < 2 ^ 32 → b < 2 ^ 32 → f a b ≡ two o a b) → (m : Maps) (registers : ℕ → ℕ) → P m registers
      → (f (registers (suc l)) (registers (suc q)) ≡ two o a b) × (f (registers (suc l)) (registers (suc q)) < 2 ^ 32)
  is_result o f is m registers h =
      let left = (here m registers h).0 in
      let right = (here m registers h).1 in
      let few : a < 2 ^ 32 = subst (λ k. k < 2 ^ 32) left.0 left.1 in
      let few' : b < 2 ^ 32 = subst (λ k. k < 2 ^ 32) right.0 right.1 in
      let same : f (registers (suc l)) (registers (suc q)) ≡ two o a b =
      ap (λ k. f k (registers (suc q))) left.0 ∙ ap (λ k. f a k) right.0 ∙ is few few' in
      (same, subst (λ k. k < 2 ^ 32) (sym same) (two_below o a b few few'))

  -- one instruction that gives the result
  one : (o : Binary) (instr : Instr) (f : ℕ → ℕ → ℕ) → (a < 2 ^ 32 → b < 2 ^ 32 → f a b ≡ two o a b) → Gets (two o a b)
      → HasInstr w.areas w.code (code_base + place) instr
      → ((registers bytes : ℕ → ℕ) (st : Store) (answer : Answer)
      → effect w.areas answer instr (state_of (state_at place registers bytes st)) ≡ gives (suc r) (f (registers (suc l)) (registers (suc q)))
      (state_of (state_at place registers bytes st)))
      → ((s : Run) → AccessIsLawful w.areas s instr) → Comes w (AtWith w x outer mem place P) (AtWith w x outer mem (place + 4) Q)
  one o instr f is gets has e access = puts_value w order x outer mem r place (Word (two o a b)) P Q instr
      (λ registers. f (registers (suc l)) (registers (suc q))) other has e access (is_result o f is) gets

  -- one that gives a number, and another that gives the result of it
  and_another : (o : Binary) (first second : Instr) (f : ℕ → ℕ → ℕ) (g : ℕ → ℕ) → (a < 2 ^ 32 → b < 2 ^ 32 → g (f a b) ≡ two o a b) → Gets (two o a b)
      → HasInstr w.areas w.code (code_base + place) first → HasInstr w.areas w.code (code_base + (place + 4)) second
      → ((registers bytes : ℕ → ℕ) (st : Store) (answer : Answer)
      → effect w.areas answer first (state_of (state_at place registers bytes st)) ≡ gives (suc r) (f (registers (suc l)) (registers (suc q)))
      (state_of (state_at place registers bytes st)))
      → ((registers bytes : ℕ → ℕ) (st : Store) (answer : Answer)
      → effect w.areas answer second (state_of (state_at (place + 4) registers bytes st)) ≡ gives (suc r) (g (registers (suc r)))
      (state_of (state_at (place + 4) registers bytes st)))
      → ((s : Run) → AccessIsLawful w.areas s first) → ((s : Run) → AccessIsLawful w.areas s second)
      → Comes w (AtWith w x outer mem place P) (AtWith w x outer mem (place + 8) Q)
  and_another o first second f g is gets has has' e e' access access' = puts_twice w order x outer mem r place (Word (two o a b)) P Q first second
      (λ registers. f (registers (suc l)) (registers (suc q))) g other has has' e e' access access' (is_result o (λ u v. g (f u v)) is) gets

  -- an operation's result is in its register
  pub computes : (o : Binary) → Gets (two o a b) → Has w place (binary_code o (suc r) (suc l) (suc q))
      → Comes w (AtWith w x outer mem place P) (AtWith w x outer mem (place + code_length (binary_code o (suc r) (suc l) (suc q))) Q)
  computes core.Add gets has = one core.Add _ (λ u v. two core.Add u v) (λ few few'. refl) gets has.0.0 (λ r b st n. refl) (λ _. tt)
  computes core.Subtract gets has = one core.Subtract _ (λ u v. two core.Subtract u v) (λ few few'. refl) gets has.0.0 (λ r b st n. refl) (λ _. tt)
  computes core.Multiply gets has = one core.Multiply _ (λ u v. two core.Multiply u v) (λ few few'. refl) gets has.0.0 (λ r b st n. refl) (λ _. tt)
  computes core.Divide gets has = one core.Divide _ (λ u v. two core.Divide u v) (λ few few'. refl) gets has.0.0 (λ r b st n. refl) (λ _. tt)
  computes core.DivideUnsigned gets has = one core.DivideUnsigned _ (λ u v. two core.DivideUnsigned u v) (λ few few'. refl) gets has.0.0
      (λ r b st n. refl) (λ _. tt)
  computes core.Remainder gets has = one core.Remainder _ (λ u v. two core.Remainder u v) (λ few few'. refl) gets has.0.0 (λ r b st n. refl) (λ _. tt)
  computes core.RemainderUnsigned gets has = one core.RemainderUnsigned _ (λ u v. two core.RemainderUnsigned u v) (λ few few'. refl) gets has.0.0
      (λ r b st n. refl) (λ _. tt)
  computes core.And gets has = one core.And _ (λ u v. two core.And u v) (λ few few'. refl) gets has.0.0 (λ r b st n. refl) (λ _. tt)
  computes core.Or gets has = one core.Or _ (λ u v. two core.Or u v) (λ few few'. refl) gets has.0.0 (λ r b st n. refl) (λ _. tt)
  computes core.Xor gets has = one core.Xor _ (λ u v. two core.Xor u v) (λ few few'. refl) gets has.0.0 (λ r b st n. refl) (λ _. tt)
  computes core.ShiftLeft gets has = one core.ShiftLeft _ (λ u v. two core.ShiftLeft u v) (λ few few'. refl) gets has.0.0 (λ r b st n. refl) (λ _. tt)
  computes core.ShiftRight gets has = one core.ShiftRight _ (λ u v. two core.ShiftRight u v) (λ few few'. refl) gets has.0.0 (λ r b st n. refl) (λ _. tt)
  computes core.ShiftRightUnsigned gets has = one core.ShiftRightUnsigned _ (λ u v. two core.ShiftRightUnsigned u v) (λ few few'. refl) gets has.0.0
      (λ r b st n. refl) (λ _. tt)
  computes core.Equal gets has =
      and_another core.Equal _ (Sltiu (suc r) (suc r) (pos 1)) (λ u v. difference_of u v) (λ d. truth (nat_lt d 1))
      (λ few few'. ap truth (is_zero a b few few') ∙ same_truth _) gets
      has.0.0 has.2.0.0 (λ r b st n. refl) (λ r b st n. refl) (λ _. tt) (λ _. tt)
  computes core.NotEqual gets has =
      and_another core.NotEqual _ (instr.Sltu (suc r) 0 (suc r)) (λ u v. difference_of u v) (λ d. truth (nat_lt 0 d))
      (λ few few'. ap truth (is_some a b few few') ∙ same_truth _) gets
      has.0.0 has.2.0.0 (λ r b st n. refl) (λ r b st n. refl) (λ _. tt) (λ _. tt)
  computes core.Less gets has = one core.Less _ (λ u v. truth (is_less u v)) (λ few few'. same_truth (is_less a b)) gets has.0.0 (λ r b st n. refl) (λ _. tt)
  computes core.LessEqual gets has =
      and_another core.LessEqual _ (Xori (suc r) (suc r) (pos 1)) (λ u v. truth (is_less v u)) (λ d. bit_xor d 1) (λ few few'. opposite (is_less b a)) gets
      has.0.0 has.2.0.0 (λ r b st n. refl) (λ r b st n. refl) (λ _. tt) (λ _. tt)
  computes core.LessUnsigned gets has = one core.LessUnsigned _ (λ u v. truth (nat_lt u v)) (λ few few'. same_truth (nat_lt a b)) gets has.0.0
      (λ r b st n. refl) (λ _. tt)
  computes core.LessEqualUnsigned gets has =
      and_another core.LessEqualUnsigned _ (Xori (suc r) (suc r) (pos 1)) (λ u v. truth (nat_lt v u)) (λ d. bit_xor d 1)
      (λ few few'. opposite (nat_lt b a) ∙ ap meaning.truth (not_less a b)) gets has.0.0 has.2.0.0 (λ r b st n. refl) (λ r b st n. refl) (λ _. tt) (λ _. tt)
