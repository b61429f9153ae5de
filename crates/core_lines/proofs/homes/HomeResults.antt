-- What the code of an operation on two words does whose result goes straight into the home of a local: the temporary and the local get it.
use Rattle.std.proofs.Common.{◌≡◌, ℕ, suc, ◌+◌, ◌^◌, ◌<◌, Bool, true, List, [], ◌∷◌, ◌++◌, Some, refl, sym, ap, subst, ◌∙◌}
use Rattle.std.proofs.Common.{nat_lt, bit_and, bit_or, bit_xor}
use Rattle.arena_laws.specs.Lawful.{Answer}
use Rattle.cyc_words.specs.Words.{word, sum_of}
use Rattle.rv32_isa.specs.declared.instruction.Instr.{Instr}
use Rattle.rv32_isa.specs.declared.instruction.Instr.TheVariants as instr
use Rattle.rv32_machine.specs.Run.{Run}
use Rattle.rv32_machine.specs.State.{code_base}
use Rattle.rv32_machine.specs.Step.{effect, gives}
use Rattle.rv32_machine.specs.Audit.{AccessIsLawful}
use Rattle.core_meaning.specs.Memory.{Content, Word, Part, Memory}
use Rattle.core_meaning.specs.Core.{Binary}
use Rattle.core_meaning.specs.Core as core
use Rattle.core_meaning.specs.Steps.{set_temp}
use Rattle.core_meaning.specs.Words.{two}
use Rattle.core_lines.specs.declared.line.Line.{Line}
use Rattle.core_lines.specs.declared.line.Line.TheVariants.{Plain}
use Rattle.core_lines.specs.Lines.{HasInstr, code_length}
use Rattle.core_lines.specs.Frames.{is_short, lower_of}
use Rattle.core_lines.specs.Held.{Register, Number, Holding, source_of, without_register, with_source, with_result}
use Rattle.core_lines.specs.Operands.{operand_in, keep_code}
use Rattle.core_lines.specs.Homes.{is_home}
use Rattle.core_lines.specs.Straight.{is_arithmetic}
use Rattle.core_lines.specs.Selected.{Surroundings, turned, binary_code, immediate_code, immediate_for, apply_code}
use Rattle.core_lines.specs.Machines.{Store, state_of}
use Rattle.core_lines.specs.Lies.{Maps, Activation, local_at}
use Rattle.core_lines.proofs.Steps.{state_at}
use Rattle.core_lines.proofs.memory.Relations.{World, IsInOrder, Has, Waiting, Follows, keeping, back_of, FrameShows}
use Rattle.core_lines.proofs.memory.Moving.{Comes, comes_then, comes_as}
use Rattle.core_lines.proofs.memory.Slots.{Kept}
use Rattle.core_lines.proofs.homes.Homes.{other_home}
use Rattle.core_lines.proofs.homes.HomeOperations.{home_not_spare, put_in, one_more}
use Rattle.core_lines.proofs.frames.Passing.{has_first, has_second}
use Rattle.core_lines.proofs.operations.Registers.{
  having,
  AtWith,
  AtHolding,
  with_there,
  as_holding,
  InRegister,
  IsThere,
  AreThere,
  IsServed,
  in_turn,
  knows,
  there_found,
  there_kept,
  there_elsewhere,
  Alone,
  keep_into,
}
use Rattle.core_lines.proofs.operations.Computing.{Operands, resulting}
use Rattle.core_lines.proofs.operations.Values.{two_below}
use Rattle.core_lines.proofs.operations.Immediates.{let_through, short_is}
use Rattle.core_lines.proofs.operations.NumberVerdicts.{turned_is}

module _ (w : World) (order : IsInOrder w) (x : Waiting) (outer : List Waiting) (mem : Memory) (hs : List Holding) (k o r : ℕ)
    (yes : is_home (suc r) ≡ true) (part : Part) (has_part : mem.parts (local_at k o) 0 ≡ Some part)
    (found : (m : Maps) (a : Activation) → FrameShows w m x (back_of w outer) a → a.homes k o ≡ Some (suc r)) where
  -- the memory where the local has a value
  abbrev stored : Content → Memory
  stored v = put_in w order x outer mem hs k o r yes part has_part found v

  -- ---- one instruction that gives the result

  module _ (a b place : ℕ) (P Q : Maps → (ℕ → ℕ) → Type 0) where
    abbrev Gets : ℕ → Type 0
    Gets n = (m : Maps) (new old : ℕ → ℕ) → InRegister (suc r) (Word n) m new → Kept (suc r) new old → P m old → Q m new

    abbrev Computed : ℕ → List Line → Type 0
    Computed n lines = Comes w (AtWith w x outer mem place P) (AtWith w x outer (stored (Word n)) (place + code_length lines) Q)

    -- from two registers
    module _ (l q : ℕ)
        (here : (m : Maps) (registers : ℕ → ℕ) → P m registers → InRegister (suc l) (Word a) m registers × InRegister (suc q) (Word b) m registers)
      where
        from_both : (op : Binary) (m : Maps) (registers : ℕ → ℕ) → P m registers
            → (two op (registers (suc l)) (registers (suc q)) ≡ two op a b) × (two op (registers (suc l)) (registers (suc q)) < 2 ^ 32)
        from_both op m registers h =
            let left = (here m registers h).0 in
            let right = (here m registers h).1 in
            let few : a < 2 ^ 32 = subst (λ n. n < 2 ^ 32) left.0 left.1 in
            let few' : b < 2 ^ 32 = subst (λ n. n < 2 ^ 32) right.0 right.1 in
            let same : two op (registers (suc l)) (registers (suc q)) ≡ two op a b =
            ap (λ n. two op n (registers (suc q))) left.0 ∙ ap (λ n. two op a n) right.0 in
            (same, subst (λ n. n < 2 ^ 32) (sym same) (two_below op a b few few'))

        one : (op : Binary) (i : Instr) → Gets (two op a b) → HasInstr w.areas w.code (code_base + place) i
            → ((registers bytes : ℕ → ℕ) (st : Store) (answer : Answer)
            → effect w.areas answer i (state_of (state_at place registers bytes st)) ≡ gives (suc r) (two op (registers (suc l)) (registers (suc q)))
            (state_of (state_at place registers bytes st)))
            → ((s : Run) → AccessIsLawful w.areas s i) → Computed (two op a b) (Plain i ∷ [])
        one op i gets has e access = one_more w order x outer mem hs k o r yes part has_part found (Word (two op a b)) P Q place i
            (λ registers. two op (registers (suc l)) (registers (suc q))) has e access (from_both op) gets

        pub computes : (op : Binary) → is_arithmetic op ≡ true → Gets (two op a b) → Has w place (binary_code op (suc r) (suc l) (suc q))
            → Computed (two op a b) (binary_code op (suc r) (suc l) (suc q))
        computes core.Add is gets has = one core.Add _ gets has.0.0 (λ r b st n. refl) (λ _. tt)
        computes core.Subtract is gets has = one core.Subtract _ gets has.0.0 (λ r b st n. refl) (λ _. tt)
        computes core.Multiply is gets has = one core.Multiply _ gets has.0.0 (λ r b st n. refl) (λ _. tt)
        computes core.Divide is gets has = one core.Divide _ gets has.0.0 (λ r b st n. refl) (λ _. tt)
        computes core.DivideUnsigned is gets has = one core.DivideUnsigned _ gets has.0.0 (λ r b st n. refl) (λ _. tt)
        computes core.Remainder is gets has = one core.Remainder _ gets has.0.0 (λ r b st n. refl) (λ _. tt)
        computes core.RemainderUnsigned is gets has = one core.RemainderUnsigned _ gets has.0.0 (λ r b st n. refl) (λ _. tt)
        computes core.And is gets has = one core.And _ gets has.0.0 (λ r b st n. refl) (λ _. tt)
        computes core.Or is gets has = one core.Or _ gets has.0.0 (λ r b st n. refl) (λ _. tt)
        computes core.Xor is gets has = one core.Xor _ gets has.0.0 (λ r b st n. refl) (λ _. tt)
        computes core.ShiftLeft is gets has = one core.ShiftLeft _ gets has.0.0 (λ r b st n. refl) (λ _. tt)
        computes core.ShiftRight is gets has = one core.ShiftRight _ gets has.0.0 (λ r b st n. refl) (λ _. tt)
        computes core.ShiftRightUnsigned is gets has = one core.ShiftRightUnsigned _ gets has.0.0 (λ r b st n. refl) (λ _. tt)
        computes core.Equal is gets has = absurd (cc is)
        computes core.NotEqual is gets has = absurd (cc is)
        computes core.Less is gets has = absurd (cc is)
        computes core.LessEqual is gets has = absurd (cc is)
        computes core.LessUnsigned is gets has = absurd (cc is)
        computes core.LessEqualUnsigned is gets has = absurd (cc is)

    -- from a register and a number
    module _ (l n : ℕ)
        (here : (m : Maps) (registers : ℕ → ℕ) → P m registers → InRegister (suc l) (Word a) m registers × IsThere (Number n) (Word b) m registers)
      where
        abbrev Gives : Binary → (ℕ → ℕ) → Type 0
        Gives op f = a < 2 ^ 32 → n < 2 ^ 32 → f a ≡ two op a n

        from_one : (op : Binary) (f : ℕ → ℕ) → Gives op f → (m : Maps) (registers : ℕ → ℕ) → P m registers
            → (f (registers (suc l)) ≡ two op a b) × (f (registers (suc l)) < 2 ^ 32)
        from_one op f is m registers h =
            let left = (here m registers h).0 in
            let number = (here m registers h).1 in
            let few : a < 2 ^ 32 = subst (λ n. n < 2 ^ 32) left.0 left.1 in
            let few' : b < 2 ^ 32 = subst (λ n. n < 2 ^ 32) number.0 number.1 in
            let same : f (registers (suc l)) ≡ two op a b = ap f left.0 ∙ is few number.1 ∙ ap (λ n. two op a n) number.0 in
            (same, subst (λ n. n < 2 ^ 32) (sym same) (two_below op a b few few'))

        single : (op : Binary) (i : Instr) (f : ℕ → ℕ) (lines : List Line) → Plain i ∷ [] ≡ lines → Gives op f → Gets (two op a b)
            → ((registers bytes : ℕ → ℕ) (st : Store) (answer : Answer)
            → effect w.areas answer i (state_of (state_at place registers bytes st)) ≡ gives (suc r) (f (registers (suc l)))
            (state_of (state_at place registers bytes st)))
            → ((s : Run) → AccessIsLawful w.areas s i) → Has w place lines → Computed (two op a b) lines
        single op i f lines same is gets e access =
            subst (λ ls. Has w place ls → Computed (two op a b) ls) same
            (λ has. one_more w order x outer mem hs k o r yes part has_part found (Word (two op a b)) P Q place i (λ registers. f (registers (suc l))) has.0.0 e
            access (from_one op f is) gets)

        pub immediate_computes : (op : Binary) → is_arithmetic op ≡ true → (lines : List Line) → immediate_code op (suc r) (suc l) n ≡ Some lines
            → Gets (two op a b) → Has w place lines → Computed (two op a b) lines
        immediate_computes core.Add is lines e gets = let t = let_through (is_short n) _ lines e in
            single core.Add (instr.Addi (suc r) (suc l) (lower_of n)) (λ u. sum_of u (word (lower_of n))) lines t.1
            (λ few small. ap (λ k. sum_of a k) (short_is n t.0 small)) gets (λ r b st n. refl) (λ _. tt)
        immediate_computes core.Subtract is lines e gets = let t = let_through (is_short (turned n)) _ lines e in
            single core.Subtract (instr.Addi (suc r) (suc l) (lower_of (turned n))) (λ u. sum_of u (word (lower_of (turned n)))) lines t.1
            (λ few small. turned_is a n t.0 small) gets (λ r b st n. refl) (λ _. tt)
        immediate_computes core.And is lines e gets = let t = let_through (is_short n) _ lines e in
            single core.And (instr.Andi (suc r) (suc l) (lower_of n)) (λ u. bit_and u (word (lower_of n))) lines t.1
            (λ few small. ap (λ k. bit_and a k) (short_is n t.0 small)) gets (λ r b st n. refl) (λ _. tt)
        immediate_computes core.Or is lines e gets = let t = let_through (is_short n) _ lines e in
            single core.Or (instr.Ori (suc r) (suc l) (lower_of n)) (λ u. bit_or u (word (lower_of n))) lines t.1
            (λ few small. ap (λ k. bit_or a k) (short_is n t.0 small)) gets (λ r b st n. refl) (λ _. tt)
        immediate_computes core.Xor is lines e gets = let t = let_through (is_short n) _ lines e in
            single core.Xor (instr.Xori (suc r) (suc l) (lower_of n)) (λ u. bit_xor u (word (lower_of n))) lines t.1
            (λ few small. ap (λ k. bit_xor a k) (short_is n t.0 small)) gets (λ r b st n. refl) (λ _. tt)
        immediate_computes core.ShiftLeft is lines e gets = let t = let_through (nat_lt n 32) _ lines e in
            single core.ShiftLeft (instr.Slli (suc r) (suc l) n) (λ u. two core.ShiftLeft u n) lines t.1 (λ few small. refl) gets (λ r b st n. refl) (λ _. tt)
        immediate_computes core.ShiftRight is lines e gets = let t = let_through (nat_lt n 32) _ lines e in
            single core.ShiftRight (instr.Srai (suc r) (suc l) n) (λ u. two core.ShiftRight u n) lines t.1 (λ few small. refl) gets (λ r b st n. refl) (λ _. tt)
        immediate_computes core.ShiftRightUnsigned is lines e gets = let t = let_through (nat_lt n 32) _ lines e in
            single core.ShiftRightUnsigned (instr.Srli (suc r) (suc l) n) (λ u. two core.ShiftRightUnsigned u n) lines t.1 (λ few small. refl) gets
            (λ r b st n. refl) (λ _. tt)
        immediate_computes core.Multiply is lines e gets = absurd (cc)
        immediate_computes core.Divide is lines e gets = absurd (cc)
        immediate_computes core.DivideUnsigned is lines e gets = absurd (cc)
        immediate_computes core.Remainder is lines e gets = absurd (cc)
        immediate_computes core.RemainderUnsigned is lines e gets = absurd (cc)
        immediate_computes core.Equal is lines e gets = absurd (cc is)
        immediate_computes core.NotEqual is lines e gets = absurd (cc is)
        immediate_computes core.Less is lines e gets = absurd (cc is)
        immediate_computes core.LessEqual is lines e gets = absurd (cc is)
        immediate_computes core.LessUnsigned is lines e gets = absurd (cc is)
        immediate_computes core.LessEqualUnsigned is lines e gets = absurd (cc is)

  -- ---- the code

  module _ (keeps : Bool) (after : List Bool) (t : ℕ) (named : t < x.fn.temporaries) (follows : Follows keeps (t ∷ []) x.kept after) (u : Surroundings)
      (op : Binary) (computes_it : is_arithmetic op ≡ true) (y z a b place : ℕ) (named' : y < x.fn.temporaries) (named'' : z < x.fn.temporaries)
      (served : IsServed w x hs y) (served' : IsServed w x hs z) (is : x.config.temps y ≡ Word a) (is' : x.config.temps z ≡ Word b) where
    -- the surroundings, as they are here
    abbrev here : Surroundings
    here = record u { passed = x.fn.passed; held = hs }

    abbrev v : Content
    v = Word (two op a b)

    -- what is known behind it
    abbrev pub straight_held : List Holding
    straight_held = with_source t (Register (suc r)) (without_register (suc r) (with_result t hs))

    abbrev Others : Maps → (ℕ → ℕ) → Type 0
    Others m registers = AreThere straight_held (set_temp t v x.config.temps) m registers

    abbrev Result : Maps → (ℕ → ℕ) → Type 0
    Result m registers = InRegister (suc r) v m registers × Others m registers

    gets : (m : Maps) (new old : ℕ → ℕ) → InRegister (suc r) v m new → Kept (suc r) new old → AreThere hs x.config.temps m old → Result m new
    gets m new old result kept a = (result, there_elsewhere t r v hs x.config.temps m new old result (home_not_spare (suc r) yes) kept a)

    abbrev lines : List Line
    lines = apply_code here op (suc r) y z

    abbrev last : List Line
    last = keep_code keeps x.fn.passed (suc r) t

    computed : Has w place lines
        → Comes w (AtWith w x outer mem place (AreThere hs x.config.temps)) (AtWith w x outer (stored v) (place + code_length lines) Result)
    computed has = resulting w order x outer mem y z hs named' named'' served served' u op (suc r) place (stored v) Result
        (λ middle l q has. computes a b middle (Operands w order x outer mem y z hs (suc l) (suc q)) Result l q
        (λ m registers h. (
          subst (λ v. InRegister (suc l) v m registers) is h.0.0,
          subst (λ v. InRegister (suc q) v m registers) is' h.1.0,
        )) op computes_it (λ m new old result same h. gets m new old result same h.2) has)
        (λ n lines at middle l some has.
        immediate_computes a b middle (Alone w order x outer mem 5 (suc l) y hs) Result l n
        (λ m registers h. (
          subst (λ v. InRegister (suc l) v m registers) is h.0.0,
          subst (λ v. IsThere (Number n) v m registers) is' (there_found hs z (Number n) x.config.temps m registers h.1 at),
        )) op computes_it lines some (λ m new old result same h. gets m new old result same h.1) has)
        (immediate_for op (suc r) (operand_in hs 5 y) (source_of hs z)) refl has

    pub straight : Has w place (lines ++ last)
        → Comes w (AtHolding w x outer mem place hs)
        (AtHolding w (keeping after (having t v x)) outer (stored v) (place + code_length (lines ++ last)) straight_held)
    straight has =
        let y = keeping after (having t v x) in
        let end = place + code_length lines in
        in_turn w (AtHolding w x outer mem place hs) (λ p. AtWith w x outer (stored v) p Result) (λ p. AtHolding w y outer (stored v) p straight_held) place
        lines last
        (comes_then w _ _ _ (comes_as w _ _ (with_there w x outer mem place hs)) (computed (has_first w place lines last has)))
        (comes_then w _ _ _
        (keep_into w order x outer (stored v) keeps after r t end v Others named follows (other_home 7 (suc r) refl yes)
        (there_kept 6 straight_held (set_temp t v x.config.temps) refl) (has_second w place lines last has))
        (comes_as w _ _ (λ s a. as_holding w y outer (stored v) (end + code_length last) straight_held s
        (knows w order y outer (stored v) (end + code_length last) _ (AreThere straight_held y.config.temps) s (λ m registers h. h.1) a))))
