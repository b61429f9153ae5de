-- Why each jump of lines that aren't too large reaches its label: the first one since its label stands before the end, and any behind it since it may go to
-- any place.
use Rattle.std.proofs.Common.{◌≡◌, ℕ, ◌+◌, ◌<◌, ◌≤◌, true, List, [], ◌∷◌, Some, refl, sym, subst, arith, ⊎_elim}
use Rattle.std.proofs.lemmas.Bool.{cases_lt, false≢true}
use Rattle.std.proofs.lemmas.Bool.Decides.{nat_tests}
use Rattle.core_lines.specs.declared.line.Line.{Line}
use Rattle.core_lines.specs.declared.line.Line.TheVariants.{Plain, Label, Jump, JumpUnless, BranchUnless, CallTo}
use Rattle.core_lines.specs.Lines.{code_length, size_of}
use Rattle.core_lines.proofs.memory.Access.{of_words}
use Rattle.cyc_image.specs.Format.{code_limit}
use Rattle.rv32_select.specs.Beginning.{first_target, leads_to_code, leads_if_some, begins_within}
use Rattle.core_lines.specs.Relaxed.{place_of, is_in_reach, AllReach}
use Rattle.rv32_layout.specs.Placing.{IsInReach, IsInBranch, Reaches}
use Rattle.rv32_layout.proofs.Lines.{place_is_of_words, place_within_length}

-- ---- the first instruction

-- a label that leads to code stands before the end
leads_before_end : (lines : List Line) (label : ℕ) → leads_to_code label lines ≡ true → place_of lines label < code_length lines
leads_before_end [] label leads = absurd (false≢true leads)
leads_before_end (Plain instr ∷ lines) label leads = omega (arith, leads_before_end lines label leads)
leads_before_end (Label l ∷ lines) label leads = let rest = leads_before_end lines label in grind (arith, nat_tests)
leads_before_end (Jump l ∷ lines) label leads = omega (arith, leads_before_end lines label leads)
leads_before_end (JumpUnless comparison l ∷ lines) label leads = omega (arith, leads_before_end lines label leads)
leads_before_end (BranchUnless comparison l ∷ lines) label leads = omega (arith, leads_before_end lines label leads)
leads_before_end (CallTo l ∷ lines) label leads = omega (arith, leads_before_end lines label leads)

first_before_end : (lines : List Line) (label : ℕ) → begins_within lines ≡ true → first_target lines ≡ Some label → place_of lines label < code_length lines
first_before_end lines label begins goes = leads_before_end lines label (subst (λ target. leads_if_some target lines ≡ true) goes begins)

-- ---- all jumps

module _ (lines rest : List Line) (within : code_length lines ≤ code_limit) (begins : begins_within lines ≡ true) where
  in_reach : (label at : ℕ) → at + (4 + code_length rest) ≡ code_length lines → place_of lines label < code_limit + at → IsInReach (place_of lines label) at
  in_reach label at whole forward =
      let all = of_words lines in
      let others = of_words rest in
      let place_within = place_within_length lines label in
      let word = place_is_of_words lines label in
      record {
        word = omega arith;
        within = omega arith;
        place_word = word;
        place_within = omega arith;
        forward = omega arith;
      }

  jump_reaches : (label at : ℕ) → at + (4 + code_length rest) ≡ code_length lines → (at ≡ 0 → first_target lines ≡ Some label)
      → IsInReach (place_of lines label) at
  jump_reaches label at whole first =
      let place_within = place_within_length lines label in
      let from_start : at ≤ 0 → place_of lines label < code_length lines = λ start. first_before_end lines label begins (first (omega arith)) in
      in_reach label at whole (⊎_elim (λ later. omega arith) (λ start. let here = from_start start in omega arith) (cases_lt 0 at))

  branch_reaches : (label at : ℕ) → at + (4 + code_length rest) ≡ code_length lines → is_in_reach (place_of lines label) at ≡ true
      → IsInBranch (place_of lines label) at
  branch_reaches label at whole near =
      let all = of_words lines in
      let others = of_words rest in
      let place_within = place_within_length lines label in
      let word = place_is_of_words lines label in
      record { word = omega arith; within = omega arith; place_word = word; place_within = omega arith; near = near }

  pub line_reaches : (line : Line) (at : ℕ) → at + (size_of line + code_length rest) ≡ code_length lines
      → (at ≡ 0 → first_target (line ∷ rest) ≡ first_target lines) → AllReach (place_of lines) at (line ∷ rest) → Reaches (place_of lines) at line
  line_reaches (Plain instr) at whole first reach = tt
  line_reaches (Label label) at whole first reach = tt
  line_reaches (Jump label) at whole first reach = jump_reaches label at whole (λ start. sym (first start))
  line_reaches (JumpUnless comparison label) at whole first reach =
      let place_within = place_within_length lines label in in_reach label (at + 4) (omega arith) (omega arith)
  line_reaches (BranchUnless comparison label) at whole first reach = branch_reaches label at whole reach.0
  line_reaches (CallTo label) at whole first reach = jump_reaches label at whole (λ start. sym (first start))

-- a line of no bytes is a label, and the first jump is behind it
pub first_behind : (line : Line) (lines : List Line) → size_of line ≡ 0 → first_target lines ≡ first_target (line ∷ lines)
first_behind (Plain instr) lines none = absurd (omega arith)
first_behind (Label label) lines none = refl
first_behind (Jump label) lines none = absurd (omega arith)
first_behind (JumpUnless comparison label) lines none = absurd (omega arith)
first_behind (BranchUnless comparison label) lines none = absurd (omega arith)
first_behind (CallTo label) lines none = absurd (omega arith)

-- the same, where a table says where labels stand
pub same_reaches : (f g : ℕ → ℕ) (at : ℕ) (line : Line) → ((label : ℕ) → f label ≡ g label) → Reaches f at line → Reaches g at line
same_reaches f g at (Plain instr) same reach = tt
same_reaches f g at (Label label) same reach = tt
same_reaches f g at (Jump label) same reach = rw (sym (same label)) reach
same_reaches f g at (JumpUnless comparison label) same reach = rw (sym (same label)) reach
same_reaches f g at (BranchUnless comparison label) same reach = rw (sym (same label)) reach
same_reaches f g at (CallTo label) same reach = rw (sym (same label)) reach
