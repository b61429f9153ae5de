-- What branches test, and what the code does that makes a word of a comparison.
use Rattle.std.proofs.Common.{◌≡◌, ℕ, ℤ, zero, suc, pos, ◌+◌, ◌/◌, ◌^◌, ◌<◌, Bool, true, false, not, [], ◌∷◌, refl, sym, ap, subst, ◌∙◌, arith}
use Rattle.std.specs.Prelude.{nat_eq, nat_lt, bit_xor}
use Rattle.std.proofs.lemmas.Bool.Decides.{nat_tests}
use Rattle.cyc_words.specs.Words.{difference_of}
use Rattle.rv32_isa.specs.declared.instruction.Instr.{Instr}
use Rattle.rv32_isa.specs.declared.instruction.Instr.TheVariants.{Sub, Slt, Sltu, Sltiu, Xori}
use Rattle.arena_laws.specs.Lawful.{Answer}
use Rattle.rv32_machine.specs.State.{State, Areas, register_of, set_register}
use Rattle.rv32_machine.specs.Step.{effect, gives, branches, truth, is_less}
use Rattle.rv32_machine.specs.Audit.{AccessIsLawful}
use Rattle.rv32_machine.specs.Run.{Run}
use Rattle.core_lines.specs.declared.comparison.Condition.{Condition}
use Rattle.core_lines.specs.declared.comparison.Condition.TheVariants.{Equal, NotEqual, Less, NotLess, LessUnsigned, NotLessUnsigned}
use Rattle.core_lines.specs.declared.comparison.Comparison.{Comparison}
use Rattle.core_lines.specs.declared.line.Line.TheVariants.{Plain}
use Rattle.core_lines.specs.Comparisons.{holds, opposite, inverse, branch_on, branch_if, verdict_on, verdict_code}
use Rattle.core_lines.specs.Lines.{code_length}
use Rattle.core_lines.specs.Machines.{Store, state_of}
use Rattle.core_lines.proofs.memory.Relations.{Moves, World, IsInOrder, Has}
use Rattle.core_lines.proofs.memory.Moving.{and_then, bare}
use Rattle.core_lines.proofs.memory.Slots.{Puts, set_here, set_there}
use Rattle.core_lines.proofs.Steps.{state_at, IsKeptBelow, gives_value}

-- a register's word, where x0 is 0
abbrev pub reads : (ℕ → ℕ) → ℕ → ℕ
reads registers zero = 0
reads registers (suc r) = registers (suc r)

pub read_as : (s : State) (r : ℕ) → register_of s r ≡ reads s.registers r
read_as s zero = refl
read_as s (suc r) = refl

-- whether a comparison holds, and that as a word
abbrev pub is_so : Comparison → (ℕ → ℕ) → Bool
is_so c registers = holds c.condition (reads registers c.left) (reads registers c.right)

abbrev pub verdict : Comparison → (ℕ → ℕ) → ℕ
verdict c registers = truth (is_so c registers)

-- ---- conditions

pub twice_not : (b : Bool) → not (not b) ≡ b
twice_not true = refl
twice_not false = refl

not_so_on : (c : Condition) (a b : ℕ) → holds (opposite c) a b ≡ not (holds c a b)
not_so_on Equal a b = refl
not_so_on NotEqual a b = sym (twice_not (nat_eq a b))
not_so_on Less a b = refl
not_so_on NotLess a b = sym (twice_not (is_less a b))
not_so_on LessUnsigned a b = refl
not_so_on NotLessUnsigned a b = sym (twice_not (nat_lt a b))

pub not_so : (c : Comparison) (registers : ℕ → ℕ) → is_so (inverse c) registers ≡ not (is_so c registers)
not_so c registers = not_so_on c.condition (reads registers c.left) (reads registers c.right)

pub truth_few : (b : Bool) → truth b < 2 ^ 32
truth_few true = omega arith
truth_few false = omega arith

-- a difference is 0 where both words are equal
pub is_zero : (a b : ℕ) → a < 2 ^ 32 → b < 2 ^ 32 → nat_lt (difference_of a b) 1 ≡ nat_eq a b
is_zero a b l m = grind (arith, nat_tests)

pub is_some : (a b : ℕ) → a < 2 ^ 32 → b < 2 ^ 32 → nat_lt 0 (difference_of a b) ≡ not (nat_eq a b)
is_some a b l m = grind (arith, nat_tests)

pub below_one : (a : ℕ) → nat_lt a 1 ≡ nat_eq a 0
below_one a = grind (arith, nat_tests)

above_none : (a : ℕ) → nat_lt 0 a ≡ not (nat_eq a 0)
above_none a = grind (arith, nat_tests)

pub turned : (b : Bool) → bit_xor (truth b) 1 ≡ truth (not b)
turned true = refl
turned false = refl

-- ---- branches

branch_is : (n : Areas) (answer : Answer) (c : Condition) (l r : ℕ) (offset : ℤ) (s : State)
    → effect n answer (branch_on c l r offset) s ≡ branches (holds c (register_of s l) (register_of s r)) offset s
branch_is n answer Equal l r offset s = refl
branch_is n answer NotEqual l r offset s = refl
branch_is n answer Less l r offset s = refl
branch_is n answer NotLess l r offset s = refl
branch_is n answer LessUnsigned l r offset s = refl
branch_is n answer NotLessUnsigned l r offset s = refl

-- a branch is made or not, by what its registers hold
pub branch_as : (n : Areas) (answer : Answer) (c : Comparison) (offset : ℤ) (s : State) (b : Bool) → is_so c s.registers ≡ b
    → effect n answer (branch_if c offset) s ≡ branches b offset s
branch_as n answer c offset s b is =
    branch_is n answer c.condition c.left c.right offset s
    ∙ ap (λ d. branches d offset s)
    (ap (λ k. holds c.condition k (register_of s c.right)) (read_as s c.left)
    ∙ ap (λ k. holds c.condition (reads s.registers c.left) k) (read_as s c.right) ∙ is)

branch_lawful_on : (n : Areas) (s : Run) (c : Condition) (l r : ℕ) (offset : ℤ) → AccessIsLawful n s (branch_on c l r offset)
branch_lawful_on n s Equal l r offset = tt
branch_lawful_on n s NotEqual l r offset = tt
branch_lawful_on n s Less l r offset = tt
branch_lawful_on n s NotLess l r offset = tt
branch_lawful_on n s LessUnsigned l r offset = tt
branch_lawful_on n s NotLessUnsigned l r offset = tt

pub branch_lawful : (n : Areas) (s : Run) (c : Comparison) (offset : ℤ) → AccessIsLawful n s (branch_if c offset)
branch_lawful n s c offset = branch_lawful_on n s c.condition c.left c.right offset

-- ---- a comparison's verdict into a register

module _ (w : World) (order : IsInOrder w) (place : ℕ) (registers bytes : ℕ → ℕ) (st : Store) (below : IsKeptBelow w.code bytes) where
  abbrev pub here : State
  here = state_of (state_at place registers bytes st)

  abbrev pub later : (ℕ → ℕ) → State
  later now = state_of (state_at (place + 4) now bytes st)

  pub one : (r n value : ℕ) (instr : Instr) → Has w place (Plain instr ∷ [])
      → ((answer : Answer) → effect w.areas answer instr here ≡ gives (suc r) value here)
      → AccessIsLawful w.areas (bare (state_at place registers bytes st)) instr → value ≡ n
      → Puts w place (place + 4) 1 (suc r) n registers bytes st
  one r n value instr has e access is = record {
    new = set_register (suc r) value registers;
    moves = gives_value w.areas w.code order.code_within st place registers bytes below instr has.0.0 (suc r) value e access;
    holds = set_here r value registers ∙ is;
    kept = λ q not7 other. set_there (suc r) value q registers other;
  }

  pub two : (r n value : ℕ) (then : ℕ → ℕ) (first second : Instr) → Has w place (Plain first ∷ Plain second ∷ [])
      → ((answer : Answer) → effect w.areas answer first here ≡ gives (suc r) value here)
      → ((now : ℕ → ℕ) (answer : Answer) → effect w.areas answer second (later now) ≡ gives (suc r) (then (now (suc r))) (later now))
      → AccessIsLawful w.areas (bare (state_at place registers bytes st)) first
      → ((now : ℕ → ℕ) → AccessIsLawful w.areas (bare (state_at (place + 4) now bytes st)) second) → then value ≡ n
      → Puts w place (place + 8) 2 (suc r) n registers bytes st
  two r n value then first second has e e' access access' is =
      let middle = set_register (suc r) value registers in
      let last = then (middle (suc r)) in
      let end : place + 4 + 4 ≡ place + 8 = omega arith in
      record {
        new = set_register (suc r) last middle;
        moves = subst (λ p. Moves w.areas 2 (state_at place registers bytes st) (state_at p (set_register (suc r) last middle) bytes st)) end
            (and_then w.areas _ _ _ 1 1
            (gives_value w.areas w.code order.code_within st place registers bytes below first has.0.0 (suc r) value e access)
            (gives_value w.areas w.code order.code_within st (place + 4) middle bytes below second has.2.0.0 (suc r) last (e' middle) (access' middle)));
        holds = set_here r last middle ∙ ap then (set_here r value registers) ∙ is;
        kept = λ q not7 other. set_there (suc r) last q middle other ∙ set_there (suc r) value q registers other;
      }

  -- what is read of both
  both_read : (f : ℕ → ℕ → ℕ) (l q : ℕ) → f (register_of here l) (register_of here q) ≡ f (reads registers l) (reads registers q)
  both_read f l q = ap (λ k. f k (register_of here q)) (read_as here l) ∙ ap (λ k. f (reads registers l) k) (read_as here q)

  puts_on : (c : Condition) (l q r : ℕ) → reads registers l < 2 ^ 32 → reads registers q < 2 ^ 32 → Has w place (verdict_on c (suc r) l q)
      → Puts w place (place + code_length (verdict_on c (suc r) l q)) (code_length (verdict_on c (suc r) l q) / 4) (suc r)
      (truth (holds c (reads registers l) (reads registers q))) registers bytes st
  puts_on Equal l zero r few few' has = one r _ _ (Sltiu (suc r) l (pos 1)) has (λ answer. refl) tt
      (ap (λ k. truth (nat_lt k 1)) (read_as here l) ∙ ap truth (below_one (reads registers l)))
  puts_on Equal l (suc q) r few few' has = two r _ (difference_of (register_of here l) (register_of here (suc q))) (λ d. truth (nat_lt d 1))
      (Sub (suc r) l (suc q)) (Sltiu (suc r) (suc r) (pos 1)) has (λ answer. refl) (λ now answer. refl) tt (λ now. tt)
      (both_read (λ a b. truth (nat_lt (difference_of a b) 1)) l (suc q) ∙ ap truth (is_zero (reads registers l) (registers (suc q)) few few'))
  puts_on NotEqual l zero r few few' has = one r _ _ (Sltu (suc r) 0 l) has (λ answer. refl) tt
      (ap (λ k. truth (nat_lt 0 k)) (read_as here l) ∙ ap truth (above_none (reads registers l)))
  puts_on NotEqual l (suc q) r few few' has = two r _ (difference_of (register_of here l) (register_of here (suc q))) (λ d. truth (nat_lt 0 d))
      (Sub (suc r) l (suc q)) (Sltu (suc r) 0 (suc r)) has (λ answer. refl) (λ now answer. refl) tt (λ now. tt)
      (both_read (λ a b. truth (nat_lt 0 (difference_of a b))) l (suc q) ∙ ap truth (is_some (reads registers l) (registers (suc q)) few few'))
  puts_on Less l q r few few' has = one r _ _ (Slt (suc r) l q) has (λ answer. refl) tt (both_read (λ a b. truth (is_less a b)) l q)
  puts_on NotLess l q r few few' has = two r _ (truth (is_less (register_of here l) (register_of here q))) (λ d. bit_xor d 1)
      (Slt (suc r) l q) (Xori (suc r) (suc r) (pos 1)) has (λ answer. refl) (λ now answer. refl) tt (λ now. tt)
      (both_read (λ a b. bit_xor (truth (is_less a b)) 1) l q ∙ turned (is_less (reads registers l) (reads registers q)))
  puts_on LessUnsigned l q r few few' has = one r _ _ (Sltu (suc r) l q) has (λ answer. refl) tt (both_read (λ a b. truth (nat_lt a b)) l q)
  puts_on NotLessUnsigned l q r few few' has = two r _ (truth (nat_lt (register_of here l) (register_of here q))) (λ d. bit_xor d 1)
      (Sltu (suc r) l q) (Xori (suc r) (suc r) (pos 1)) has (λ answer. refl) (λ now answer. refl) tt (λ now. tt)
      (both_read (λ a b. bit_xor (truth (nat_lt a b)) 1) l q ∙ turned (nat_lt (reads registers l) (reads registers q)))

  pub puts_verdict : (c : Comparison) (r : ℕ) → reads registers c.left < 2 ^ 32 → reads registers c.right < 2 ^ 32 → Has w place (verdict_code (suc r) c)
      → Puts w place (place + code_length (verdict_code (suc r) c)) (code_length (verdict_code (suc r) c) / 4) (suc r) (verdict c registers) registers bytes st
  puts_verdict c r few few' has = puts_on c.condition c.left c.right r few few' has
