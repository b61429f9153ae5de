-- What the code does that moves the stack pointer by a frame.
use Rattle.std.specs.Prelude.{[], ◌∷◌, ◌++◌, nat_lt, if◌then◌else◌}
use Rattle.std.proofs.Common.{◌≡◌, ℕ, ℤ, pos, ◌-ℤ◌, ◌+◌, ◌/◌, ◌^◌, ◌<◌, ◌≤◌, Bool, true, false, refl, sym, ap, subst, ◌∙◌, arith, add-zero}
use Rattle.cyc_words.specs.Words.{word, sum_of, difference_of}
use Rattle.rv32_isa.specs.declared.instruction.Instr.{Instr}
use Rattle.rv32_isa.specs.declared.instruction.Instr.TheVariants.{Add, Sub, Addi}
use Rattle.arena_laws.specs.Lawful.{Answer}
use Rattle.core_lines.specs.Machines.{Store, state_of}
use Rattle.rv32_machine.specs.State.{State, set_register, register_of}
use Rattle.rv32_machine.specs.Step.{effect, gives}
use Rattle.rv32_machine.specs.Run.{Run}
use Rattle.rv32_machine.specs.Audit.{AccessIsLawful}
use Rattle.core_lines.specs.declared.line.Line.TheVariants.{Plain}
use Rattle.core_lines.specs.Lines.{code_length}
use Rattle.core_lines.specs.Frames.{word_code, move_code, give_code}
use Rattle.core_lines.proofs.memory.Relations.{Moves, World, IsInOrder, Has}
use Rattle.core_lines.proofs.memory.Words.{offset_joined}
use Rattle.core_lines.proofs.memory.Moving.{and_then, bare}
use Rattle.core_lines.proofs.memory.Slots.{Puts, set_here, set_there, puts_word}
use Rattle.core_lines.proofs.Steps.{state_at, IsKeptBelow, gives_value}

module _ (w : World) (order : IsInOrder w) (place : ℕ) (registers bytes : ℕ → ℕ) (st : Store) (below : IsKeptBelow w.code bytes) (size sp : ℕ)
    (few : size ≤ 2 ^ 25) (pointer : registers 2 ≡ sp) (near : sp + size < 2 ^ 31) where
  -- by an instruction that adds the frame's bytes or their negative
  moves_near : (offset : ℤ) (value : ℕ) → sum_of (registers 2) (word offset) ≡ value → Has w place (Plain (Addi 2 2 offset) ∷ [])
      → Puts w place (place + 4) 1 2 value registers bytes st
  moves_near offset value is has =
      let new = sum_of (registers 2) (word offset) in
      record {
        new = set_register 2 new registers;
        moves = gives_value w.areas w.code order.code_within st place registers bytes below (Addi 2 2 offset) has.0.0 2 new (λ answer. refl) tt;
        holds = set_here 1 new registers ∙ is;
        kept = λ q not7 other. set_there 2 new q registers other;
      }

  -- or, where they are in x7 before, by one that computes from both
  moves_far : (instr : Instr) (computed : ℕ → ℕ → ℕ) (value : ℕ)
      → ((answer : Answer) (s : State) → effect w.areas answer instr s ≡ gives 2 (computed (register_of s 2) (register_of s 7)) s)
      → ((r : Run) → AccessIsLawful w.areas r instr) → computed sp size ≡ value → Has w place (word_code 7 size ++ (Plain instr ∷ []))
      → Puts w place (place + 12) 3 2 value registers bytes st
  moves_far instr computed value does access is has =
      let p = puts_word w order place registers bytes st below 6 size (omega (arith, few)) (has.0, tt, (has.2.0, tt, tt)) in
      let e : place + 4 + 4 ≡ place + 8 = omega arith in
      let e' : place + 8 + 4 ≡ place + 12 = omega arith in
      let last = subst (λ q. Has w q (Plain instr ∷ [])) e (has.2.2.0, tt, tt) in
      let new = computed (p.new 2) (p.new 7) in
      let s2 = state_at (place + 8) p.new bytes st in
      let s3 = state_at (place + 12) (set_register 2 new p.new) bytes st in
      let x2 : p.new 2 ≡ sp = p.kept 2 refl refl ∙ pointer in
      let m : Moves w.areas 1 s2 s3 =
      subst (λ q. Moves w.areas 1 s2 (state_at q (set_register 2 new p.new) bytes st)) e'
      (gives_value w.areas w.code order.code_within st (place + 8) p.new bytes below instr last.0.0 2 new (λ answer. does answer (state_of s2))
      (access (bare s2))) in
      record {
        new = set_register 2 new p.new;
        moves = and_then w.areas (state_at place registers bytes st) s2 s3 2 1 p.moves m;
        holds = set_here 1 new p.new ∙ ap (λ k. computed k (p.new 7)) x2 ∙ ap (computed sp) p.holds ∙ is;
        kept = λ q not7 other. set_there 2 new q p.new other ∙ p.kept q not7 not7;
      }

  -- down, by a small frame or a large one
  pub moves_down_near : (low : ℕ) → low + size ≡ sp → Has w place (Plain (Addi 2 2 (pos 0 -ℤ pos size)) ∷ [])
      → Puts w place (place + 4) 1 2 low registers bytes st
  moves_down_near low is has =
      let joined : sum_of (low + size) (word (pos 0 -ℤ pos size)) ≡ low =
      offset_joined low 0 size (omega (arith, is, near)) (omega (arith, is, near)) ∙ add-zero low in
      moves_near (pos 0 -ℤ pos size) low (ap (λ k. sum_of k (word (pos 0 -ℤ pos size))) (pointer ∙ sym is) ∙ joined) has

  pub moves_down_far : (low : ℕ) → low + size ≡ sp → Has w place (move_code size) → Puts w place (place + 12) 3 2 low registers bytes st
  moves_down_far low is has = moves_far (Sub 2 2 7) difference_of low (λ answer s. refl) (λ r. tt) (omega (arith, is, near)) has

  -- and up
  moves_up_near : Has w place (Plain (Addi 2 2 (pos size)) ∷ []) → Puts w place (place + 4) 1 2 (sp + size) registers bytes st
  moves_up_near has = moves_near (pos size) (sp + size) (omega (arith, pointer, near)) has

  pub moves_up : Has w place (give_code size)
      → Puts w place (place + code_length (give_code size)) (code_length (give_code size) / 4) 2 (sp + size) registers bytes st
  moves_up has = by (nat_lt size 2048) has
    where
      by : (small : Bool) → Has w place (if small then Plain (Addi 2 2 (pos size)) ∷ [] else word_code 7 size ++ (Plain (Add 2 2 7) ∷ []))
          → Puts w place (place + code_length (if small then Plain (Addi 2 2 (pos size)) ∷ [] else word_code 7 size ++ (Plain (Add 2 2 7) ∷ [])))
          (code_length (if small then Plain (Addi 2 2 (pos size)) ∷ [] else word_code 7 size ++ (Plain (Add 2 2 7) ∷ [])) / 4) 2 (sp + size) registers bytes st
      by true has = moves_up_near has
      by false has = moves_far (Add 2 2 7) sum_of (sp + size) (λ answer s. refl) (λ r. tt) (omega (arith, near)) has
