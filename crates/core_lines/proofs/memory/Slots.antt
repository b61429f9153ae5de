-- What the code of a word, of a load from a slot and of a save into one does. Registers are told by what they hold, and that all but x7 stay.
use Rattle.std.proofs.Common.{◌≡◌, ℕ, zero, suc, ◌+◌, ◌*◌, ◌/◌, ◌%◌, ◌^◌, ◌<◌, List, [], ◌∷◌, Bool, true, false, refl, sym, ap, subst, ◌∙◌, arith}
use Rattle.std.specs.Prelude.{nat_eq, if◌then◌else◌}
use Rattle.std.proofs.lemmas.Bool.{eq-eqb, eqb-true}
use Rattle.cyc_words.specs.Words.{word, sum_of}
use Rattle.rv32_isa.specs.declared.instruction.Instr.TheVariants.{Lui, Lw, Sw, Addi, Add}
use Rattle.core_lines.specs.Machines.{Store}
use Rattle.rv32_machine.specs.State.{set_register, register_of, set_word, word_at}
use Rattle.core_lines.specs.declared.line.Line.{Line}
use Rattle.core_lines.specs.declared.line.Line.TheVariants.{Plain}
use Rattle.core_lines.specs.Lines.{code_length}
use Rattle.core_lines.specs.Frames.{is_short, upper_of, lower_of, word_code, load_code, save_code}
use Rattle.core_lines.specs.Operands.{number_code}
use Rattle.core_lines.proofs.memory.Relations.{Moves, World, IsInOrder, Has}
use Rattle.core_lines.proofs.memory.Words.{parts_added, parts_joined, short_word}
use Rattle.core_lines.proofs.memory.Moving.{and_then}
use Rattle.core_lines.proofs.Steps.{state_at, IsKeptBelow, IsAllowed, gives_value, loads_word, stores_word}
use Rattle.core_lines.specs.Machines.{state_of}

-- a register that was written, and the others
pub set_here : (r v : ℕ) (registers : ℕ → ℕ) → set_register (suc r) v registers (suc r) ≡ v
set_here r v registers = rw (eq-eqb (suc r) (suc r) refl) refl

pub set_there : (r v q : ℕ) (registers : ℕ → ℕ) → nat_eq q r ≡ false → set_register r v registers q ≡ registers q
set_there zero v q registers other = refl
set_there (suc r) v q registers other = rw other refl

-- the registers but for one, and x7
abbrev pub Kept : ℕ → (ℕ → ℕ) → (ℕ → ℕ) → Type 0
Kept to new old = (q : ℕ) → nat_eq q 7 ≡ false → nat_eq q to ≡ false → new q ≡ old q

-- by so many steps a register has a value
pub record Puts (w : World) (place behind count to value : ℕ) (registers bytes : ℕ → ℕ) (st : Store) : Type 0 where
  pub new : ℕ → ℕ
  pub moves : Moves w.areas count (state_at place registers bytes st) (state_at behind new bytes st)
  pub holds : new to ≡ value
  pub kept : Kept to new registers

-- by so many steps a word of memory has a value
pub record Saves (w : World) (place behind count at value : ℕ) (registers bytes : ℕ → ℕ) (st : Store) : Type 0 where
  pub new : ℕ → ℕ
  pub moves : Moves w.areas count (state_at place registers bytes st) (state_at behind new (set_word at value bytes) st)
  pub kept : Kept 7 new registers

abbrev pub load_lines : Bool → ℕ → ℕ → List Line
load_lines short to offset =
    (if short then Plain (Lw to 2 (lower_of offset)) ∷ []
    else Plain (Lui 7 (upper_of offset)) ∷ Plain (Add 7 7 2) ∷ Plain (Lw to 7 (lower_of offset)) ∷ [])

abbrev pub save_lines : Bool → ℕ → ℕ → List Line
save_lines short from offset =
    (if short then Plain (Sw 2 from (lower_of offset)) ∷ []
    else Plain (Lui 7 (upper_of offset)) ∷ Plain (Add 7 7 2) ∷ Plain (Sw 7 from (lower_of offset)) ∷ [])

module _ (w : World) (order : IsInOrder w) (place : ℕ) (registers bytes : ℕ → ℕ) (st : Store) (below : IsKeptBelow w.code bytes) where
  -- a word into a register
  pub puts_word : (r v : ℕ) → v < 2 ^ 32 → Has w place (word_code (suc r) v) → Puts w place (place + 8) 2 (suc r) v registers bytes st
  puts_word r v few has =
      let upper = upper_of v * 2 ^ 12 in
      let both = sum_of (register_of (state_of (state_at (place + 4) (set_register (suc r) upper registers) bytes st)) (suc r)) (word (lower_of v)) in
      let value : both ≡ v = ap (λ u. sum_of u (word (lower_of v))) (set_here r upper registers) ∙ omega (arith, parts_joined v, few) in
      let first = gives_value w.areas w.code order.code_within st place registers bytes below (Lui (suc r) (upper_of v)) has.0.0 (suc r) upper
      (λ answer. refl) tt in
      let second = gives_value w.areas w.code order.code_within st (place + 4) (set_register (suc r) upper registers) bytes below
      (Addi (suc r) (suc r) (lower_of v))
      has.2.0.0 (suc r) both (λ answer. refl) tt in
      let e : place + 4 + 4 ≡ place + 8 = omega arith in
      record {
        new = set_register (suc r) both (set_register (suc r) upper registers);
        moves = subst (λ p. Moves w.areas 2 (state_at place registers bytes st)
            (state_at p (set_register (suc r) both (set_register (suc r) upper registers)) bytes st)) e
            (and_then w.areas _ _ _ 1 1 first second);
        holds = set_here r both (set_register (suc r) upper registers) ∙ value;
        kept = λ q not7 other. set_there (suc r) both q (set_register (suc r) upper registers) other ∙ set_there (suc r) upper q registers other;
      }

  -- and by one instruction, where one of its parts is all of it
  pub puts_number : (r v : ℕ) → v < 2 ^ 32 → Has w place (number_code (suc r) v)
      → Puts w place (place + code_length (number_code (suc r) v)) (code_length (number_code (suc r) v) / 4) (suc r) v registers bytes st
  puts_number r v few has = by (is_short v) refl has
    where
      upper_lines : Bool → List Line
      upper_lines none = (if none then Plain (Lui (suc r) (upper_of v)) ∷ [] else word_code (suc r) v)

      in_part : (none : Bool) → nat_eq (v % 2 ^ 12) 0 ≡ none → Has w place (upper_lines none)
          → Puts w place (place + code_length (upper_lines none)) (code_length (upper_lines none) / 4) (suc r) v registers bytes st
      in_part true none has =
          let upper = upper_of v * 2 ^ 12 in
          let even = eqb-true (v % 2 ^ 12) 0 none in
          record {
            new = set_register (suc r) upper registers;
            moves = gives_value w.areas w.code order.code_within st place registers bytes below (Lui (suc r) (upper_of v)) has.0.0 (suc r) upper
                (λ answer. refl) tt;
            holds = set_here r upper registers ∙ omega (arith, even, few);
            kept = λ q not7 other. set_there (suc r) upper q registers other;
          }
      in_part false some has = puts_word r v few has

      number_lines : Bool → List Line
      number_lines short = (if short then Plain (Addi (suc r) 0 (lower_of v)) ∷ [] else upper_lines (nat_eq (v % 2 ^ 12) 0))

      by : (short : Bool) → is_short v ≡ short → Has w place (number_lines short)
          → Puts w place (place + code_length (number_lines short)) (code_length (number_lines short) / 4) (suc r) v registers bytes st
      by true short has =
          let value = sum_of 0 (word (lower_of v)) in
          let same = short_word v short few in
          record {
            new = set_register (suc r) value registers;
            moves = gives_value w.areas w.code order.code_within st place registers bytes below (Addi (suc r) 0 (lower_of v)) has.0.0 (suc r) value
                (λ answer. refl) tt;
            holds = set_here r value registers ∙ omega (arith, same, few);
            kept = λ q not7 other. set_there (suc r) value q registers other;
          }
      by false long has = in_part (nat_eq (v % 2 ^ 12) 0) refl has

  -- the upper part of an offset and the stack pointer, into x7
  far_base : (offset : ℕ) (last : Line) → Has w place (Plain (Lui 7 (upper_of offset)) ∷ Plain (Add 7 7 2) ∷ last ∷ [])
      → Moves w.areas 2 (state_at place registers bytes st)
      (state_at (place + 4 + 4) (set_register 7 (sum_of (upper_of offset * 2 ^ 12) (registers 2))
      (set_register 7 (upper_of offset * 2 ^ 12) registers)) bytes st)
  far_base offset last has =
      let upper = upper_of offset * 2 ^ 12 in
      let value = sum_of upper (registers 2) in
      let first = gives_value w.areas w.code order.code_within st place registers bytes below (Lui 7 (upper_of offset)) has.0.0 7 upper (λ answer. refl) tt in
      let second = gives_value w.areas w.code order.code_within st (place + 4) (set_register 7 upper registers) bytes below
      (Add 7 7 2) has.2.0.0 7 value (λ answer. refl) tt in
      and_then w.areas _ _ _ 1 1 first second

  module _ (sp k : ℕ) (pointer : registers 2 ≡ sp) (allowed : IsAllowed w.areas w.code order.code_within st sp (sp + 4 * k) 4)
      (near : sp + 4 * k < 2 ^ 25) where
    near_address : is_short (4 * k) ≡ true → sum_of (registers 2) (word (lower_of (4 * k))) ≡ sp + 4 * k
    near_address short = let part = short_word (4 * k) short (omega (arith, near)) in omega (arith, part, pointer, near)

    far_address : sum_of (sum_of (upper_of (4 * k) * 2 ^ 12) (registers 2)) (word (lower_of (4 * k))) ≡ sp + 4 * k
    far_address = let sum = parts_added (4 * k) (registers 2) in omega (arith, sum, pointer, near)

    here : IsAllowed w.areas w.code order.code_within st (registers 2) (sp + 4 * k) 4
    here = subst (λ p. IsAllowed w.areas w.code order.code_within st p (sp + 4 * k) 4) (sym pointer) allowed

    -- a slot's word into a register
    pub loads_slot : (r : ℕ) → Has w place (load_code (suc r) k)
        → Puts w place (place + code_length (load_code (suc r) k)) (code_length (load_code (suc r) k) / 4) (suc r)
        (word_at bytes (sp + 4 * k)) registers bytes st
    loads_slot r has = by (is_short (4 * k)) refl has
      where
        by : (short : Bool) → is_short (4 * k) ≡ short → Has w place (load_lines short (suc r) (4 * k))
            → Puts w place (place + code_length (load_lines short (suc r) (4 * k))) (code_length (load_lines short (suc r) (4 * k)) / 4) (suc r)
            (word_at bytes (sp + 4 * k)) registers bytes st
        by true short has = record {
          new = set_register (suc r) (word_at bytes (sp + 4 * k)) registers;
          moves = loads_word w.areas w.code order.code_within st place registers bytes below (sp + 4 * k) here (suc r) 2 (lower_of (4 * k)) has.0.0
              (near_address short);
          holds = set_here r (word_at bytes (sp + 4 * k)) registers;
          kept = λ q not7 other. set_there (suc r) (word_at bytes (sp + 4 * k)) q registers other;
        }
        by false long has =
            let scratched = set_register 7 (sum_of (upper_of (4 * k) * 2 ^ 12) (registers 2)) (set_register 7 (upper_of (4 * k) * 2 ^ 12) registers) in
            let e : place + 4 + 4 + 4 ≡ place + 12 = omega arith in
            record {
              new = set_register (suc r) (word_at bytes (sp + 4 * k)) scratched;
              moves = subst (λ p. Moves w.areas 3 (state_at place registers bytes st)
                  (state_at p (set_register (suc r) (word_at bytes (sp + 4 * k)) scratched) bytes st)) e
                  (and_then w.areas _ _ _ 2 1 (far_base (4 * k) (Plain (Lw (suc r) 7 (lower_of (4 * k)))) has)
                  (loads_word w.areas w.code order.code_within st (place + 4 + 4) scratched bytes below (sp + 4 * k) here (suc r) 7
                  (lower_of (4 * k)) has.2.2.0.0
                  far_address));
              holds = set_here r (word_at bytes (sp + 4 * k)) scratched;
              kept = λ q not7 other. set_there (suc r) (word_at bytes (sp + 4 * k)) q scratched other
                  ∙ set_there 7 (sum_of (upper_of (4 * k) * 2 ^ 12) (registers 2)) q (set_register 7 (upper_of (4 * k) * 2 ^ 12) registers) not7
                  ∙ set_there 7 (upper_of (4 * k) * 2 ^ 12) q registers not7;
            }

    -- the word of a register, which isn't x0 or x7, into a slot
    pub saves_slot : (r : ℕ) → nat_eq (suc r) 7 ≡ false → Has w place (save_code (suc r) k)
        → Saves w place (place + code_length (save_code (suc r) k)) (code_length (save_code (suc r) k) / 4) (sp + 4 * k) (registers (suc r)) registers bytes st
    saves_slot r not7 has = by (is_short (4 * k)) refl has
      where
        by : (short : Bool) → is_short (4 * k) ≡ short → Has w place (save_lines short (suc r) (4 * k))
            → Saves w place (place + code_length (save_lines short (suc r) (4 * k))) (code_length (save_lines short (suc r) (4 * k)) / 4) (sp + 4 * k)
            (registers (suc r)) registers bytes st
        by true short has = record {
          new = registers;
          moves = stores_word w.areas w.code order.code_within st place registers bytes below (sp + 4 * k) here 2 (suc r) (lower_of (4 * k)) has.0.0
              (near_address short);
          kept = λ q a b. refl;
        }
        by false long has =
            let once = set_register 7 (upper_of (4 * k) * 2 ^ 12) registers in
            let scratched = set_register 7 (sum_of (upper_of (4 * k) * 2 ^ 12) (registers 2)) once in
            let e : place + 4 + 4 + 4 ≡ place + 12 = omega arith in
            let same : scratched (suc r) ≡ registers (suc r) =
            set_there 7 (sum_of (upper_of (4 * k) * 2 ^ 12) (registers 2)) (suc r) once not7 ∙ set_there 7 (upper_of (4 * k) * 2 ^ 12) (suc r) registers not7 in
            record {
              new = scratched;
              moves = subst (λ p. Moves w.areas 3 (state_at place registers bytes st)
                  (state_at p scratched (set_word (sp + 4 * k) (registers (suc r)) bytes) st)) e
                  (subst (λ v. Moves w.areas 3 (state_at place registers bytes st)
                  (state_at (place + 4 + 4 + 4) scratched (set_word (sp + 4 * k) v bytes) st)) same
                  (and_then w.areas _ _ _ 2 1 (far_base (4 * k) (Plain (Sw 7 (suc r) (lower_of (4 * k)))) has)
                  (stores_word w.areas w.code order.code_within st (place + 4 + 4) scratched bytes below (sp + 4 * k) here 7 (suc r)
                  (lower_of (4 * k)) has.2.2.0.0
                  far_address)));
              kept = λ q a b. set_there 7 (sum_of (upper_of (4 * k) * 2 ^ 12) (registers 2)) q once a ∙ set_there 7 (upper_of (4 * k) * 2 ^ 12) q registers a;
            }
