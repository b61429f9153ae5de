-- Words after words.
use Rattle.std.proofs.Common.{◌≡◌, ℕ, pos, ◌+◌, ◌*◌, List, [], ◌∷◌, ◌++◌, length, refl, ap, subst, ◌∙◌, arith, append_assoc, length-append}
use Rattle.rv32_isa.specs.declared.instruction.Instr.{Instr}
use Rattle.rv32_isa.specs.declared.instruction.Instr.TheVariants.{Jal}
use Rattle.core_lines.specs.Comparisons.{inverse, branch_if}
use Rattle.core_lines.specs.declared.line.Line.{Line}
use Rattle.core_lines.specs.declared.line.Line.TheVariants.{Plain, Label, Jump, JumpUnless, BranchUnless, CallTo}
use Rattle.core_lines.specs.Lines.{size_of, offset_to, instructions_of}
use Rattle.rv32_layout.specs.Placed.{AreWords, instructions_from}
use Rattle.rv32_layout.specs.Placing.{Appends}

pub AreWords-append : (first second : List Instr) (a b : List ℕ) → AreWords first a → AreWords second b → AreWords (first ++ second) (a ++ b)
AreWords-append [] second a b none words = rw none words
AreWords-append (instr ∷ first) second a b (word, others, parts, is_word, more) words =
    (word, others ++ b, ap (λ x. x ++ b) parts ∙ append_assoc word others b, is_word, AreWords-append first second others b more words)

AreWords-length : (instrs : List Instr) (bytes : List ℕ) → AreWords instrs bytes → length bytes ≡ 4 * length instrs
AreWords-length [] bytes none = ap length none
AreWords-length (instr ∷ instrs) bytes (word, others, parts, is_word, more) =
    omega (arith, ap length parts, length-append word others, ap length is_word.spelled, AreWords-length instrs others more)

pub Appends-both : (first second : List Instr) (old middle new : List ℕ) → Appends first old middle → Appends second middle new
    → Appends (first ++ second) old new
Appends-both first second old middle new a b = record {
  words = a.words ++ b.words;
  appended = b.appended ∙ ap (λ x. x ++ b.words) a.appended ∙ append_assoc old a.words b.words;
  spelled = AreWords-append first second a.words b.words a.spelled b.spelled;
}

pub Appends-length : (instrs : List Instr) (old new : List ℕ) → Appends instrs old new → length new ≡ length old + 4 * length instrs
Appends-length instrs old new a = omega (arith, ap length a.appended, length-append old a.words, AreWords-length instrs a.words a.spelled)

pub line_length : (places : ℕ → ℕ) (at : ℕ) (line : Line) → 4 * length (instructions_of places at line) ≡ size_of line
line_length places at (Plain instr) = refl
line_length places at (Label label) = refl
line_length places at (Jump label) = refl
line_length places at (JumpUnless comparison label) = refl
line_length places at (BranchUnless comparison label) = refl
line_length places at (CallTo label) = refl

-- a branch and the jump that it goes over
pub branch_and_jump : (branch : Instr) (place at jump_at : ℕ) (old middle new : List ℕ) → at ≡ length old → jump_at ≡ length middle
    → Appends (branch ∷ []) old middle → Appends (Jal 0 (offset_to place jump_at) ∷ []) middle new
    → Appends (branch ∷ Jal 0 (offset_to place (at + 4)) ∷ []) old new
branch_and_jump branch place at jump_at old middle new here there a b =
    let next : at + 4 ≡ jump_at = omega (arith, Appends-length (branch ∷ []) old middle a) in
    rw next (Appends-both (branch ∷ []) (Jal 0 (offset_to place jump_at) ∷ []) old middle new a b)

-- the instructions of a line are the same where labels stand at the same places
instructions_of-same : (f g : ℕ → ℕ) (at : ℕ) (line : Line) → ((label : ℕ) → f label ≡ g label) → instructions_of f at line ≡ instructions_of g at line
instructions_of-same f g at (Plain instr) same = refl
instructions_of-same f g at (Label label) same = refl
instructions_of-same f g at (Jump label) same = ap (λ p. Jal 0 (offset_to p at) ∷ []) (same label)
instructions_of-same f g at (JumpUnless comparison label) same = ap (λ p. branch_if comparison (pos 8) ∷ Jal 0 (offset_to p (at + 4)) ∷ []) (same label)
instructions_of-same f g at (BranchUnless comparison label) same = ap (λ p. branch_if (inverse comparison) (offset_to p at) ∷ []) (same label)
instructions_of-same f g at (CallTo label) same = ap (λ p. Jal 1 (offset_to p at) ∷ []) (same label)

-- bytes that have the words of lines up to an address, with a line's words and those of the lines after it
pub record Continues (places : ℕ → ℕ) (at : ℕ) (lines : List Line) (old whole : List ℕ) : Type 0 where
  pub rest : List ℕ
  pub appended : whole ≡ old ++ rest
  pub spelled : AreWords (instructions_from places at lines) rest

pub continues : (places table : ℕ → ℕ) (line : Line) (lines : List Line) (at next : ℕ) (old new more : List ℕ) → ((label : ℕ) → table label ≡ places label)
    → next ≡ at + size_of line → Appends (instructions_of table at line) old new → AreWords (instructions_from places next lines) more
    → Continues places at (line ∷ lines) old (new ++ more)
continues places table line lines at next old new more same behind a words = record {
  rest = a.words ++ more;
  appended = ap (λ x. x ++ more) a.appended ∙ append_assoc old a.words more;
  spelled = AreWords-append (instructions_of places at line) (instructions_from places (at + size_of line) lines) a.words more
      (subst (λ instrs. AreWords instrs a.words) (instructions_of-same table places at line same) a.spelled)
      (subst (λ n. AreWords (instructions_from places n lines) more) behind words);
}
