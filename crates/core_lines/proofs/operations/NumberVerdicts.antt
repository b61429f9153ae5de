-- What the code does that makes a word of a comparison with a number.
use Rattle.std.specs.Prelude.{nat_eq, nat_lt, ◌&&◌, bit_xor, if◌then◌else◌}
use Rattle.std.proofs.Common.{◌≡◌, ℕ, suc, pos, ◌+◌, ◌/◌, ◌^◌, ◌<◌, ⊎_elim, Bool, true, false, List, ◌++◌, refl, sym, ap, subst, ◌∙◌, arith}
use Rattle.std.proofs.lemmas.Bool.{eq-eqb, eqb-true}
use Rattle.cyc_words.specs.Words.{word, sum_of, difference_of}
use Rattle.rv32_isa.specs.declared.instruction.Instr.TheVariants.{Addi, Slti, Sltu, Sltiu, Xori}
use Rattle.rv32_machine.specs.State.{State, register_of, set_register}
use Rattle.rv32_machine.specs.Step.{truth, is_less}
use Rattle.core_lines.specs.declared.comparison.Condition.{Condition}
use Rattle.core_lines.specs.declared.comparison.Condition.TheVariants.{Equal, NotEqual, Less, NotLess, LessUnsigned, NotLessUnsigned}
use Rattle.core_lines.specs.declared.comparison.NumberComparison.{NumberComparison}
use Rattle.core_lines.specs.declared.line.Line.{Line}
use Rattle.core_lines.specs.Comparisons.{holds, verdict_code}
use Rattle.core_lines.specs.Frames.{is_short, lower_of}
use Rattle.core_lines.specs.Lines.{code_length}
use Rattle.core_lines.specs.Machines.{Store, state_of}
use Rattle.core_lines.specs.Numbered.{turned, has_room, short_on}
use Rattle.core_lines.specs.Operands.{number_code, numbered_code}
use Rattle.core_lines.proofs.Steps.{state_at, IsKeptBelow}
use Rattle.core_lines.proofs.frames.Passing.{has_first, has_second}
use Rattle.core_lines.proofs.memory.Access.{of_words, length_of_both}
use Rattle.core_lines.proofs.memory.Moving.{and_then}
use Rattle.core_lines.proofs.memory.Relations.{Moves, World, IsInOrder, Has}
use Rattle.core_lines.proofs.memory.Slots.{Kept, Puts, puts_number}
use Rattle.core_lines.proofs.memory.Verdicts.{reads, read_as, is_so, is_zero, is_some, puts_verdict, one, two}
use Rattle.core_lines.proofs.memory.Verdicts as verdicts
use Rattle.core_lines.proofs.memory.Words.{short_word}
use Rattle.core_lines.proofs.operations.Holding.{IsSteady, IsSide, AreSides, numbered_verdict, spare_apart, reads_kept, read_beside, so_same}

-- the number whose sign is turned, added, is the difference
turned_added : (a n : ℕ) → n < 2 ^ 32 → sum_of a (turned n) ≡ difference_of a n
turned_added a n few = omega arith

pub turned_is : (a n : ℕ) → is_short (turned n) ≡ true → n < 2 ^ 32 → sum_of a (word (lower_of (turned n))) ≡ difference_of a n
turned_is a n short few = ap (sum_of a) (short_word (turned n) short (omega arith)) ∙ turned_added a n few

-- ---- where x7 has the number

-- what is read of a side then
side_now : (q n : ℕ) (new old : ℕ → ℕ) → new 7 ≡ n → n < 2 ^ 32 → Kept 7 new old → IsSide q old
    → (reads (set_register 7 n old) q ≡ reads new q) × (reads new q < 2 ^ 32)
side_now q n new old there few kept side = ⊎_elim
    (λ (is : q ≡ 7).
    let same : reads new q ≡ n = ap (reads new) is ∙ there in
    (ap (reads (set_register 7 n old)) is ∙ sym same, subst (λ k. k < 2 ^ 32) (sym same) few))
    (λ (steady : IsSteady q old).
    let same = reads_kept 7 q new old kept steady.0 (spare_apart q 7 steady.0 refl) in
    (read_beside q n old steady.0 ∙ same, subst (λ k. k < 2 ^ 32) same steady.1))
    side

pub so_now : (n : NumberComparison) (new old : ℕ → ℕ) → new 7 ≡ n.number → n.number < 2 ^ 32 → Kept 7 new old → AreSides n.comparison old
    → is_so n.comparison (set_register 7 n.number old) ≡ is_so n.comparison new
so_now n new old there few kept sides = so_same n.comparison new (set_register 7 n.number old)
    (side_now n.comparison.left n.number new old there few kept sides.0).0 (side_now n.comparison.right n.number new old there few kept sides.1).0

-- a side that isn't x7
other_side : (n : NumberComparison) (registers : ℕ → ℕ) → AreSides n.comparison registers → nat_eq n.comparison.right 7 ≡ true
    → IsSteady n.comparison.left registers
other_side n registers sides is = ⊎_elim
    (λ (e : n.comparison.left ≡ 7).
    let both : (nat_eq n.comparison.left 7 && nat_eq n.comparison.right 7) ≡ true =
    ap (λ b. b && nat_eq n.comparison.right 7) (eq-eqb n.comparison.left 7 e) ∙ is in
    absurd (cc (both, sides.2)))
    (λ (steady : IsSteady n.comparison.left registers). steady)
    sides.0

module _ (w : World) (order : IsInOrder w) (place : ℕ) (registers bytes : ℕ → ℕ) (st : Store) (below : IsKeptBelow w.code bytes) where
  abbrev here : State
  here = state_of (state_at place registers bytes st)

  -- ---- where an instruction has room for it

  short_puts : (c : Condition) (l n r : ℕ) → reads registers l < 2 ^ 32 → n < 2 ^ 32 → has_room c n ≡ true → Has w place (short_on c (suc r) l n)
      → Puts w place (place + code_length (short_on c (suc r) l n)) (code_length (short_on c (suc r) l n) / 4) (suc r)
      (truth (holds c (reads registers l) n)) registers bytes st
  short_puts Equal l n r few small room has =
      two w order place registers bytes st below r _ (sum_of (register_of here l) (word (lower_of (turned n)))) (λ d. truth (nat_lt d 1))
      (Addi (suc r) l (lower_of (turned n))) (Sltiu (suc r) (suc r) (pos 1)) has (λ answer. refl) (λ now answer. refl) tt (λ now. tt)
      (ap (λ a. truth (nat_lt (sum_of a (word (lower_of (turned n)))) 1)) (read_as here l)
      ∙ ap (λ d. truth (nat_lt d 1)) (turned_is (reads registers l) n room small) ∙ ap truth (is_zero (reads registers l) n few small))
  short_puts NotEqual l n r few small room has =
      two w order place registers bytes st below r _ (sum_of (register_of here l) (word (lower_of (turned n)))) (λ d. truth (nat_lt 0 d))
      (Addi (suc r) l (lower_of (turned n))) (Sltu (suc r) 0 (suc r)) has (λ answer. refl) (λ now answer. refl) tt (λ now. tt)
      (ap (λ a. truth (nat_lt 0 (sum_of a (word (lower_of (turned n)))))) (read_as here l)
      ∙ ap (λ d. truth (nat_lt 0 d)) (turned_is (reads registers l) n room small) ∙ ap truth (is_some (reads registers l) n few small))
  short_puts Less l n r few small room has =
      one w order place registers bytes st below r _ (truth (is_less (register_of here l) (word (lower_of n)))) (Slti (suc r) l (lower_of n)) has
      (λ answer. refl) tt
      (ap (λ a. truth (is_less a (word (lower_of n)))) (read_as here l) ∙ ap (λ k. truth (is_less (reads registers l) k)) (short_word n room small))
  short_puts NotLess l n r few small room has =
      two w order place registers bytes st below r _ (truth (is_less (register_of here l) (word (lower_of n)))) (λ d. bit_xor d 1)
      (Slti (suc r) l (lower_of n)) (Xori (suc r) (suc r) (pos 1)) has (λ answer. refl) (λ now answer. refl) tt (λ now. tt)
      (ap (λ a. bit_xor (truth (is_less a (word (lower_of n)))) 1) (read_as here l)
      ∙ ap (λ k. bit_xor (truth (is_less (reads registers l) k)) 1) (short_word n room small) ∙ verdicts.turned (is_less (reads registers l) n))
  short_puts LessUnsigned l n r few small room has =
      one w order place registers bytes st below r _ (truth (nat_lt (register_of here l) (word (lower_of n)))) (Sltiu (suc r) l (lower_of n)) has
      (λ answer. refl) tt
      (ap (λ a. truth (nat_lt a (word (lower_of n)))) (read_as here l) ∙ ap (λ k. truth (nat_lt (reads registers l) k)) (short_word n room small))
  short_puts NotLessUnsigned l n r few small room has =
      two w order place registers bytes st below r _ (truth (nat_lt (register_of here l) (word (lower_of n)))) (λ d. bit_xor d 1)
      (Sltiu (suc r) l (lower_of n)) (Xori (suc r) (suc r) (pos 1)) has (λ answer. refl) (λ now answer. refl) tt (λ now. tt)
      (ap (λ a. bit_xor (truth (nat_lt a (word (lower_of n)))) 1) (read_as here l)
      ∙ ap (λ k. bit_xor (truth (nat_lt (reads registers l) k)) 1) (short_word n room small) ∙ verdicts.turned (nat_lt (reads registers l) n))

  -- ---- where x7 gets it

  module _ (n : NumberComparison) (r : ℕ) (few : n.number < 2 ^ 32) (sides : AreSides n.comparison registers) where
    abbrev first : List Line
    first = number_code 7 n.number

    abbrev second : List Line
    second = verdict_code (suc r) n.comparison

    abbrev Told : List Line → Type 0
    Told lines = Puts w place (place + code_length lines) (code_length lines / 4) (suc r) (numbered_verdict n registers) registers bytes st

    long_puts : Has w place (first ++ second) → Told (first ++ second)
    long_puts has =
        let middle = place + code_length first in
        let p = puts_number w order place registers bytes st below 6 n.number few (has_first w place first second has) in
        let left = side_now n.comparison.left n.number p.new registers p.holds few p.kept sides.0 in
        let right = side_now n.comparison.right n.number p.new registers p.holds few p.kept sides.1 in
        let v = puts_verdict w order middle p.new bytes st below n.comparison r left.1 right.1 (has_second w place first second has) in
        let count : code_length first / 4 + code_length second / 4 ≡ code_length (first ++ second) / 4 =
        omega (arith, of_words first, of_words second, length_of_both first second) in
        let end : middle + code_length second ≡ place + code_length (first ++ second) = omega (arith, length_of_both first second) in
        let start = state_at place registers bytes st in
        record {
          new = v.new;
          moves = subst (λ k. Moves w.areas k start (state_at (place + code_length (first ++ second)) v.new bytes st)) count
              (subst (λ p. Moves w.areas (code_length first / 4 + code_length second / 4) start (state_at p v.new bytes st)) end
              (and_then w.areas start (state_at middle p.new bytes st) (state_at (middle + code_length second) v.new bytes st) (code_length first / 4)
              (code_length second / 4) p.moves v.moves));
          holds = v.holds ∙ ap truth (sym (so_now n p.new registers p.holds few p.kept sides));
          kept = λ q not7 other. v.kept q not7 other ∙ p.kept q not7 not7;
        }

    pub puts_numbered : Has w place (numbered_code (suc r) n) → Told (numbered_code (suc r) n)
    puts_numbered has = by (nat_eq n.comparison.right 7) refl (has_room n.comparison.condition n.number) refl has
      where
        short : List Line
        short = short_on n.comparison.condition (suc r) n.comparison.left n.number

        by : (seven : Bool) → nat_eq n.comparison.right 7 ≡ seven → (room : Bool) → has_room n.comparison.condition n.number ≡ room
            → Has w place (if seven && room then short else first ++ second) → Told (if seven && room then short else first ++ second)
        by true is true room has =
            let with_number = set_register 7 n.number registers in
            let steady = other_side n registers sides is in
            let left = read_beside n.comparison.left n.number registers steady.0 in
            let right : reads with_number n.comparison.right ≡ n.number = ap (reads with_number) (eqb-true n.comparison.right 7 is) in
            let same : truth (holds n.comparison.condition (reads registers n.comparison.left) n.number) ≡ numbered_verdict n registers =
            ap (λ k. truth (holds n.comparison.condition k n.number)) (sym left)
            ∙ ap (λ k. truth (holds n.comparison.condition (reads with_number n.comparison.left) k)) (sym right) in
            subst (λ v. Puts w place (place + code_length short) (code_length short / 4) (suc r) v registers bytes st) same
            (short_puts n.comparison.condition n.comparison.left n.number r steady.1 few room has)
        by true is false none has = long_puts has
        by false other room is has = long_puts has
