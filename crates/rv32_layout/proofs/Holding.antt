-- A machine with placed code has its lines: each word of the code decodes to its instruction, and each label stands at its line.
use Rattle.std.proofs.Common.{◌≡◌, ℕ, ◌+◌, ◌*◌, ◌/◌, ◌%◌, ◌<◌, ◌≤◌, ◌^◌, false, nat_eq, List, [], ◌∷◌, ◌++◌, Some, length, refl, sym, ap, subst, ◌∙◌, arith}
use Rattle.std.proofs.Common.{append_assoc, length-append}
use Rattle.std.specs.Prelude.{slice_index}
use Rattle.std.specs.List.{All}
use Rattle.std.proofs.lemmas.List.{get_or-append-add}
use Rattle.std.proofs.lemmas.List.Elements.{All-head, All-tail}
use Rattle.std.proofs.lemmas.Bool.{cond-false}
use Rattle.std.proofs.lemmas.Bool.Decides.{nat_tests}
use Rattle.rv32_isa.specs.Table.{decoded}
use Rattle.rv32_isa.specs.declared.instruction.Instr.{Instr}
use Rattle.rv32_machine.specs.State.{Areas, code_base, word_at}
use Rattle.rv32_machine.specs.Arrays.{Arrays, bytes_in, byte_at, areas_of}
use Rattle.rv32_machine.proofs.Bytes.{in_code}
use Rattle.core_lines.specs.declared.line.Line.{Line}
use Rattle.core_lines.specs.declared.line.Line.TheVariants.{Plain, Label, Jump, JumpUnless, BranchUnless, CallTo}
use Rattle.core_lines.specs.Lines.{size_of, code_length, instructions_of, labels_placed, AreOnce, HasInstr, HasInstrs, StandsAt, HasLines, IsPlace}
use Rattle.core_lines.proofs.memory.Access.{length_of_both}
use Rattle.cyc_image.specs.Format.{code_limit, u32_bytes}
use Rattle.core_lines.specs.Relaxed.{place_of}
use Rattle.rv32_layout.specs.Placed.{IsWord, AreWords, ArePlaced, instructions_from}
use Rattle.rv32_layout.proofs.Lines.{place_is_of_words, place_within_length}
use Rattle.rv32_layout.proofs.Appending.{line_length}

-- ---- labels

-- what holds of each label holds of one
later_label : (P : ℕ → Type 0) (front lines : List Line) (label : ℕ) → All P (labels_placed (front ++ Label label ∷ lines)) → P label
later_label P [] lines label all = All-head P label (labels_placed lines) all
later_label P (Plain instr ∷ front) lines label all = later_label P front lines label all
later_label P (Label l ∷ front) lines label all = later_label P front lines label (All-tail P l (labels_placed (front ++ Label label ∷ lines)) all)
later_label P (Jump l ∷ front) lines label all = later_label P front lines label all
later_label P (JumpUnless comparison l ∷ front) lines label all = later_label P front lines label all
later_label P (BranchUnless comparison l ∷ front) lines label all = later_label P front lines label all
later_label P (CallTo l ∷ front) lines label all = later_label P front lines label all

-- a label that is placed once stands behind the lines before it
place_behind : (front lines : List Line) (label : ℕ) → AreOnce (labels_placed (front ++ Label label ∷ lines))
    → place_of (front ++ Label label ∷ lines) label ≡ code_length front
place_behind [] lines label once = grind (arith, nat_tests)
place_behind (Plain instr ∷ front) lines label once = omega (arith, place_behind front lines label once)
place_behind (Label l ∷ front) lines label once =
    let other : nat_eq l label ≡ false = later_label (λ other. nat_eq l other ≡ false) front lines label once.0 in
    omega (arith, cond-false (nat_eq l label) 0 (place_of (front ++ Label label ∷ lines) label) other, place_behind front lines label once.1)
place_behind (Jump l ∷ front) lines label once = omega (arith, place_behind front lines label once)
place_behind (JumpUnless comparison l ∷ front) lines label once = omega (arith, place_behind front lines label once)
place_behind (BranchUnless comparison l ∷ front) lines label once = omega (arith, place_behind front lines label once)
place_behind (CallTo l ∷ front) lines label once = omega (arith, place_behind front lines label once)

stands : (all front lines : List Line) (at : ℕ) (line : Line) → all ≡ front ++ line ∷ lines → at ≡ code_length front → AreOnce (labels_placed all)
    → StandsAt (place_of all) at line
stands all front lines at (Plain instr) whole there once = tt
stands all front lines at (Label label) whole there once =
    subst (λ ls. place_of ls label ≡ at) (sym whole) (place_behind front lines label (subst (λ ls. AreOnce (labels_placed ls)) whole once) ∙ sym there)
stands all front lines at (Jump label) whole there once = tt
stands all front lines at (JumpUnless comparison label) whole there once = tt
stands all front lines at (BranchUnless comparison label) whole there once = tt
stands all front lines at (CallTo label) whole there once = tt

-- a jump can go to each label
pub are_places : (lines : List Line) → code_length lines ≤ code_limit → (label : ℕ) → IsPlace (place_of lines label)
are_places lines within label = record {
  aligned = place_is_of_words lines label;
  within = omega (arith, place_within_length lines label);
}

-- ---- instructions

instrs_parts : (n : Areas) (bytes : ℕ → ℕ) (first second : List Instr) (at next : ℕ) → next ≡ at + 4 * length first → HasInstrs n bytes at (first ++ second)
    → HasInstrs n bytes at first × HasInstrs n bytes next second
instrs_parts n bytes [] second at next behind has = (tt, subst (λ a. HasInstrs n bytes a second) (omega arith) has)
instrs_parts n bytes (instr ∷ first) second at next behind has =
    let others = instrs_parts n bytes first second (at + 4) next (omega arith) has.1 in
    ((has.0, others.0), others.1)

-- where the code has the instructions of lines, the first of which is behind others, it has the lines
has_lines : (n : Areas) (bytes : ℕ → ℕ) (all front lines : List Line) (at : ℕ) → all ≡ front ++ lines → at ≡ code_length front → AreOnce (labels_placed all)
    → HasInstrs n bytes (code_base + at) (instructions_from (place_of all) at lines) → HasLines n bytes (place_of all) at lines
has_lines n bytes all front [] at whole there once has = tt
has_lines n bytes all front (line ∷ lines) at whole there once has =
    let next = at + size_of line in
    let parts = instrs_parts n bytes (instructions_of (place_of all) at line) (instructions_from (place_of all) next lines) (code_base + at) (code_base + next)
    (omega (arith, line_length (place_of all) at line)) has in (
      parts.0,
      stands all front lines at line whole there once,
      has_lines n bytes all (front ++ line ∷ []) lines next (whole ∙ sym (append_assoc front (line ∷ []) lines))
          (omega (arith, length_of_both front (line ∷ []))) once parts.1,
    )

-- ---- words

-- the word whose bytes these are
word_is : (bytes : ℕ → ℕ) (at word : ℕ) → word < 2 ^ 32 → bytes at ≡ word % 2 ^ 8 → bytes (at + 1) ≡ word / 2 ^ 8 % 2 ^ 8
    → bytes (at + 2) ≡ word / 2 ^ 16 % 2 ^ 8 → bytes (at + 3) ≡ word / 2 ^ 24 → word_at bytes at ≡ word
word_is bytes at word small first second third fourth = omega arith

module _ (n : Areas) (code statics stack : List ℕ) (pages : ℕ) (arena : ℕ → ℕ) (long : n.code ≡ length code) where
  abbrev memory : ℕ → ℕ
  memory = bytes_in pages arena code statics stack

  -- a byte of the code that is behind others
  byte_behind : (front rest : List ℕ) (at i : ℕ) → code ≡ front ++ rest → at ≡ code_base + (length front + i) → i < length rest → memory at ≡ slice_index rest i
  byte_behind front rest at i whole there within =
      in_code pages arena code statics stack at (length front + i) there (omega (arith, ap length whole, length-append front rest))
      ∙ ap (λ bytes. slice_index bytes (length front + i)) whole ∙ get_or-append-add front rest i 0

  has_instr : (front spelled rest : List ℕ) (at : ℕ) (instr : Instr) → code ≡ front ++ (spelled ++ rest) → at ≡ code_base + length front → IsWord instr spelled
      → HasInstr n memory at instr
  has_instr front spelled rest at instr whole there is =
      let behind = u32_bytes is.word ++ rest in
      let all : code ≡ front ++ behind = whole ∙ ap (λ w. front ++ (w ++ rest)) is.spelled in
      let some : length code ≡ length front + (4 + length rest) = omega (arith, ap length all, length-append front behind) in
      let first = byte_behind front behind at 0 all (omega arith) (omega arith) in
      let second = byte_behind front behind (at + 1) 1 all (omega arith) (omega arith) in
      let third = byte_behind front behind (at + 2) 2 all (omega arith) (omega arith) in
      let fourth = byte_behind front behind (at + 3) 3 all (omega arith) (omega arith) in
      record {
        within = grind (arith, nat_tests);
        decodes = subst (λ w. decoded w ≡ Some instr) (sym (word_is memory at is.word is.is_word first second third fourth)) is.decodes;
      }

  has_instrs : (front words : List ℕ) (at : ℕ) (instrs : List Instr) → code ≡ front ++ words → at ≡ code_base + length front → AreWords instrs words
      → HasInstrs n memory at instrs
  has_instrs front words at [] whole there are = tt
  has_instrs front words at (instr ∷ instrs) whole there (spelled, rest, parts, is, more) =
      let all : code ≡ front ++ (spelled ++ rest) = whole ∙ ap (λ w. front ++ w) parts in (
        has_instr front spelled rest at instr all there is,
        has_instrs (front ++ spelled) rest (at + 4) instrs (all ∙ sym (append_assoc front spelled rest))
            (omega (arith, length-append front spelled, ap length is.spelled)) more,
      )

-- ---- the whole code

pub is_code_of : (lines : List Line) (bytes : List ℕ) → ArePlaced lines bytes → AreOnce (labels_placed lines)
    → (m : Arrays) → m.code ≡ bytes → HasLines (areas_of m) (byte_at m) (place_of lines) 0 lines
is_code_of lines bytes placed once m code =
    has_lines (areas_of m) (byte_at m) lines [] lines 0 refl refl once
    (has_instrs (areas_of m) m.code m.statics m.stack m.holdings.pages m.arena refl [] bytes code_base (instructions_from (place_of lines) 0 lines) code refl
    placed)
