-- What the instructions of an operation do whose second word is a number that they have room for.
use Rattle.arena_laws.specs.Lawful.{Answer}
use Rattle.std.specs.Prelude.{if◌then◌else◌}
use Rattle.std.proofs.Common.{
  ◌≡◌,
  ℕ,
  zero,
  suc,
  pos,
  ◌+◌,
  ◌^◌,
  ◌<◌,
  List,
  [],
  ◌∷◌,
  Some,
  None,
  Bool,
  true,
  false,
  not,
  nat_eq,
  nat_lt,
  bit_and,
  bit_or,
  bit_xor,
  refl,
  sym,
  ap,
  subst,
  ◌∙◌,
  arith,
}
use Rattle.std.proofs.lemmas.Bool.Decides.{nat_tests}
use Rattle.cyc_words.specs.Words.{word, sum_of}
use Rattle.rv32_isa.specs.declared.instruction.Instr.{Instr}
use Rattle.rv32_isa.specs.declared.instruction.Instr.TheVariants as instr
use Rattle.rv32_machine.specs.Run.{Run}
use Rattle.rv32_machine.specs.Step.{gives, effect, truth}
use Rattle.rv32_machine.specs.Audit.{AccessIsLawful}
use Rattle.core_meaning.specs.Memory.{Word, Memory}
use Rattle.core_meaning.specs.Core.{Binary}
use Rattle.core_meaning.specs.Core as core
use Rattle.core_meaning.specs.Words.{two, is_less}
use Rattle.core_lines.specs.declared.line.Line.{Line}
use Rattle.core_lines.specs.declared.line.Line.TheVariants.{Plain}
use Rattle.core_lines.specs.Frames.{is_short, lower_of}
use Rattle.core_lines.specs.Held.{Number}
use Rattle.core_lines.specs.Homes.{stays}
use Rattle.core_lines.specs.Lies.{Maps}
use Rattle.core_lines.specs.Lines.{code_length}
use Rattle.core_lines.specs.Machines.{Store, state_of}
use Rattle.core_lines.specs.Selected.{turned, immediate_code}
use Rattle.core_lines.proofs.Steps.{state_at}
use Rattle.core_lines.proofs.memory.Moving.{Comes}
use Rattle.core_lines.proofs.memory.Relations.{World, IsInOrder, Has, Waiting}
use Rattle.core_lines.proofs.memory.Slots.{Kept}
use Rattle.core_lines.proofs.memory.Words.{short_word}
use Rattle.core_lines.proofs.operations.NumberVerdicts.{turned_is}
use Rattle.core_lines.proofs.operations.Registers.{AtWith, InRegister, IsThere, puts_value, puts_twice}
use Rattle.core_lines.proofs.operations.Values.{same_truth, is_zero, is_some, two_below}

-- ---- the numbers

-- lines that a test lets through are these
pub let_through : (c : Bool) (lines some : List Line) → (if c then Some lines else None) ≡ Some some → (c ≡ true) × (lines ≡ some)
let_through true lines some e = let same : lines ≡ some = cc in (refl, same)
let_through false lines some e = absurd (cc)

pub short_is : (n : ℕ) → is_short n ≡ true → n < 2 ^ 32 → word (lower_of n) ≡ n
short_is n short few = short_word n short few

below_one : (a : ℕ) → nat_lt a 1 ≡ nat_eq a 0
below_one a = grind (arith, nat_tests)

above_none : (a : ℕ) → nat_lt 0 a ≡ not (nat_eq a 0)
above_none a = grind (arith, nat_tests)

-- ---- the instructions

module _ (w : World) (order : IsInOrder w) (x : Waiting) (outer : List Waiting) (mem : Memory) (r l a b place : ℕ) (P Q : Maps → (ℕ → ℕ) → Type 0)
    (other : stays (suc r) ≡ false) where
  -- one word is in a register, and the other is a number
  abbrev pub Here : ℕ → Type 0
  Here n = (m : Maps) (registers : ℕ → ℕ) → P m registers → InRegister (suc l) (Word a) m registers × IsThere (Number n) (Word b) m registers

  abbrev Gets : ℕ → Type 0
  Gets v = (m : Maps) (new old : ℕ → ℕ) → InRegister (suc r) (Word v) m new → Kept (suc r) new old → P m old → Q m new

  -- what a number that is made of the first word has to be
  abbrev Gives : Binary → ℕ → (ℕ → ℕ) → Type 0
  Gives o n f = a < 2 ^ 32 → n < 2 ^ 32 → f a ≡ two o a n

  is_result : (o : Binary) (n : ℕ) (f : ℕ → ℕ) → Here n → Gives o n f → (m : Maps) (registers : ℕ → ℕ) → P m registers
      → (f (registers (suc l)) ≡ two o a b) × (f (registers (suc l)) < 2 ^ 32)
  is_result o n f here is m registers h =
      let left = (here m registers h).0 in
      let number = (here m registers h).1 in
      let few : a < 2 ^ 32 = subst (λ k. k < 2 ^ 32) left.0 left.1 in
      let few' : b < 2 ^ 32 = subst (λ k. k < 2 ^ 32) number.0 number.1 in
      let same : f (registers (suc l)) ≡ two o a b = ap f left.0 ∙ is few number.1 ∙ ap (λ k. two o a k) number.0 in
      (same, subst (λ k. k < 2 ^ 32) (sym same) (two_below o a b few few'))

  one : (o : Binary) (n : ℕ) (instr : Instr) (f : ℕ → ℕ) (lines : List Line) → Plain instr ∷ [] ≡ lines → Here n → Gives o n f → Gets (two o a b)
      → ((registers bytes : ℕ → ℕ) (st : Store) (answer : Answer)
      → effect w.areas answer instr (state_of (state_at place registers bytes st)) ≡ gives (suc r) (f (registers (suc l)))
      (state_of (state_at place registers bytes st)))
      → ((s : Run) → AccessIsLawful w.areas s instr) → Has w place lines
      → Comes w (AtWith w x outer mem place P) (AtWith w x outer mem (place + code_length lines) Q)
  one o n instr f lines same here is gets e access =
      subst (λ ls. Has w place ls → Comes w (AtWith w x outer mem place P) (AtWith w x outer mem (place + code_length ls) Q)) same
      (λ has. puts_value w order x outer mem r place (Word (two o a b)) P Q instr (λ registers. f (registers (suc l))) other has.0.0 e access
      (is_result o n f here is) gets)

  and_another : (o : Binary) (n : ℕ) (first second : Instr) (f g : ℕ → ℕ) (lines : List Line) → Plain first ∷ Plain second ∷ [] ≡ lines → Here n
      → Gives o n (λ u. g (f u)) → Gets (two o a b)
      → ((registers bytes : ℕ → ℕ) (st : Store) (answer : Answer)
      → effect w.areas answer first (state_of (state_at place registers bytes st)) ≡ gives (suc r) (f (registers (suc l)))
      (state_of (state_at place registers bytes st)))
      → ((registers bytes : ℕ → ℕ) (st : Store) (answer : Answer)
      → effect w.areas answer second (state_of (state_at (place + 4) registers bytes st)) ≡ gives (suc r) (g (registers (suc r)))
      (state_of (state_at (place + 4) registers bytes st)))
      → ((s : Run) → AccessIsLawful w.areas s first) → ((s : Run) → AccessIsLawful w.areas s second) → Has w place lines
      → Comes w (AtWith w x outer mem place P) (AtWith w x outer mem (place + code_length lines) Q)
  and_another o n first second f g lines same here is gets e e' access access' =
      subst (λ ls. Has w place ls → Comes w (AtWith w x outer mem place P) (AtWith w x outer mem (place + code_length ls) Q)) same
      (λ has. puts_twice w order x outer mem r place (Word (two o a b)) P Q first second (λ registers. f (registers (suc l))) g other has.0.0 has.2.0.0
      e e' access access' (is_result o n (λ u. g (f u)) here is) gets)

  -- of a short number
  pub immediate_computes : (o : Binary) (n : ℕ) (lines : List Line) → immediate_code o (suc r) (suc l) n ≡ Some lines → Here n → Gets (two o a b)
      → Has w place lines → Comes w (AtWith w x outer mem place P) (AtWith w x outer mem (place + code_length lines) Q)
  immediate_computes core.Add n lines e here gets = let t = let_through (is_short n) _ lines e in
      one core.Add n (instr.Addi (suc r) (suc l) (lower_of n)) (λ u. sum_of u (word (lower_of n))) lines t.1 here
      (λ few small. ap (λ k. sum_of a k) (short_is n t.0 small)) gets (λ r b st n. refl) (λ _. tt)
  immediate_computes core.Subtract n lines e here gets = let t = let_through (is_short (turned n)) _ lines e in
      one core.Subtract n (instr.Addi (suc r) (suc l) (lower_of (turned n))) (λ u. sum_of u (word (lower_of (turned n)))) lines t.1 here
      (λ few small. turned_is a n t.0 small) gets (λ r b st n. refl) (λ _. tt)
  immediate_computes core.And n lines e here gets = let t = let_through (is_short n) _ lines e in
      one core.And n (instr.Andi (suc r) (suc l) (lower_of n)) (λ u. bit_and u (word (lower_of n))) lines t.1 here
      (λ few small. ap (λ k. bit_and a k) (short_is n t.0 small)) gets (λ r b st n. refl) (λ _. tt)
  immediate_computes core.Or n lines e here gets = let t = let_through (is_short n) _ lines e in
      one core.Or n (instr.Ori (suc r) (suc l) (lower_of n)) (λ u. bit_or u (word (lower_of n))) lines t.1 here
      (λ few small. ap (λ k. bit_or a k) (short_is n t.0 small)) gets (λ r b st n. refl) (λ _. tt)
  immediate_computes core.Xor n lines e here gets = let t = let_through (is_short n) _ lines e in
      one core.Xor n (instr.Xori (suc r) (suc l) (lower_of n)) (λ u. bit_xor u (word (lower_of n))) lines t.1 here
      (λ few small. ap (λ k. bit_xor a k) (short_is n t.0 small)) gets (λ r b st n. refl) (λ _. tt)
  immediate_computes core.ShiftLeft n lines e here gets = let t = let_through (nat_lt n 32) _ lines e in
      one core.ShiftLeft n (instr.Slli (suc r) (suc l) n) (λ u. two core.ShiftLeft u n) lines t.1 here (λ few small. refl) gets (λ r b st n. refl) (λ _. tt)
  immediate_computes core.ShiftRight n lines e here gets = let t = let_through (nat_lt n 32) _ lines e in
      one core.ShiftRight n (instr.Srai (suc r) (suc l) n) (λ u. two core.ShiftRight u n) lines t.1 here (λ few small. refl) gets (λ r b st n. refl) (λ _. tt)
  immediate_computes core.ShiftRightUnsigned n lines e here gets = let t = let_through (nat_lt n 32) _ lines e in
      one core.ShiftRightUnsigned n (instr.Srli (suc r) (suc l) n) (λ u. two core.ShiftRightUnsigned u n) lines t.1 here (λ few small. refl) gets
      (λ r b st n. refl) (λ _. tt)
  immediate_computes core.Equal zero lines e here gets =
      let same : Plain (instr.Sltiu (suc r) (suc l) (pos 1)) ∷ [] ≡ lines = cc in
      one core.Equal 0 (instr.Sltiu (suc r) (suc l) (pos 1)) (λ u. truth (nat_lt u 1)) lines same here
      (λ few small. ap truth (below_one a) ∙ same_truth (nat_eq a 0)) gets (λ r b st n. refl) (λ _. tt)
  immediate_computes core.Equal (suc n) lines e here gets = let t = let_through (is_short (turned (suc n))) _ lines e in
      and_another core.Equal (suc n) (instr.Addi (suc r) (suc l) (lower_of (turned (suc n)))) (instr.Sltiu (suc r) (suc r) (pos 1))
      (λ u. sum_of u (word (lower_of (turned (suc n))))) (λ d. truth (nat_lt d 1)) lines t.1 here
      (λ few small. ap (λ d. truth (nat_lt d 1)) (turned_is a (suc n) t.0 small) ∙ ap truth (is_zero a (suc n) few small) ∙ same_truth _) gets
      (λ r b st n. refl) (λ r b st n. refl) (λ _. tt) (λ _. tt)
  immediate_computes core.NotEqual zero lines e here gets =
      let same : Plain (instr.Sltu (suc r) 0 (suc l)) ∷ [] ≡ lines = cc in
      one core.NotEqual 0 (instr.Sltu (suc r) 0 (suc l)) (λ u. truth (nat_lt 0 u)) lines same here
      (λ few small. ap truth (above_none a) ∙ same_truth (not (nat_eq a 0))) gets (λ r b st n. refl) (λ _. tt)
  immediate_computes core.NotEqual (suc n) lines e here gets = let t = let_through (is_short (turned (suc n))) _ lines e in
      and_another core.NotEqual (suc n) (instr.Addi (suc r) (suc l) (lower_of (turned (suc n)))) (instr.Sltu (suc r) 0 (suc r))
      (λ u. sum_of u (word (lower_of (turned (suc n))))) (λ d. truth (nat_lt 0 d)) lines t.1 here
      (λ few small. ap (λ d. truth (nat_lt 0 d)) (turned_is a (suc n) t.0 small) ∙ ap truth (is_some a (suc n) few small) ∙ same_truth _) gets
      (λ r b st n. refl) (λ r b st n. refl) (λ _. tt) (λ _. tt)
  immediate_computes core.Less n lines e here gets = let t = let_through (is_short n) _ lines e in
      one core.Less n (instr.Slti (suc r) (suc l) (lower_of n)) (λ u. truth (is_less u (word (lower_of n)))) lines t.1 here
      (λ few small. ap (λ k. truth (is_less a k)) (short_is n t.0 small) ∙ same_truth (is_less a n)) gets (λ r b st n. refl) (λ _. tt)
  immediate_computes core.LessUnsigned n lines e here gets = let t = let_through (is_short n) _ lines e in
      one core.LessUnsigned n (instr.Sltiu (suc r) (suc l) (lower_of n)) (λ u. truth (nat_lt u (word (lower_of n)))) lines t.1 here
      (λ few small. ap (λ k. truth (nat_lt a k)) (short_is n t.0 small) ∙ same_truth (nat_lt a n)) gets (λ r b st n. refl) (λ _. tt)
  immediate_computes core.Multiply n lines e here gets = absurd (cc)
  immediate_computes core.Divide n lines e here gets = absurd (cc)
  immediate_computes core.DivideUnsigned n lines e here gets = absurd (cc)
  immediate_computes core.Remainder n lines e here gets = absurd (cc)
  immediate_computes core.RemainderUnsigned n lines e here gets = absurd (cc)
  immediate_computes core.LessEqual n lines e here gets = absurd (cc)
  immediate_computes core.LessEqualUnsigned n lines e here gets = absurd (cc)
