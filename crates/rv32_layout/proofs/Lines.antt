-- Facts on lists of lines.
use Rattle.std.proofs.Common.{◌≡◌, ℕ, ◌+◌, ◌<◌, ◌≤◌, ◌%◌, List, [], ◌∷◌, length, get_or, drop, refl, sym, ap, ◌∙◌, arith}
use Rattle.std.proofs.lemmas.List.{drop_more}
use Rattle.std.proofs.lemmas.Bool.Decides.{nat_tests}
use Rattle.core_lines.specs.declared.line.Line.{Line}
use Rattle.core_lines.specs.declared.line.Line.TheVariants.{Plain, Label, Jump, JumpUnless, BranchUnless, CallTo}
use Rattle.core_lines.specs.Lines.{code_length}
use Rattle.core_lines.specs.Relaxed.{place_of}

-- the lines from one on
pub drop_here : (lines : List Line) (i : ℕ) (line : Line) → i < length lines → line ≡ get_or lines i line → drop i lines ≡ line ∷ drop (i + 1) lines
drop_here lines i line within is = drop_more lines i line within ∙ ap (λ l. l ∷ drop (i + 1) lines) (sym is)

-- each label stands where a word begins, or behind the last one
pub place_is_of_words : (lines : List Line) (label : ℕ) → place_of lines label % 4 ≡ 0
place_is_of_words [] label = refl
place_is_of_words (Plain instr ∷ lines) label = omega (arith, place_is_of_words lines label)
place_is_of_words (Label l ∷ lines) label = let rest = place_is_of_words lines label in grind (arith, nat_tests)
place_is_of_words (Jump l ∷ lines) label = omega (arith, place_is_of_words lines label)
place_is_of_words (JumpUnless comparison l ∷ lines) label = omega (arith, place_is_of_words lines label)
place_is_of_words (BranchUnless comparison l ∷ lines) label = omega (arith, place_is_of_words lines label)
place_is_of_words (CallTo l ∷ lines) label = omega (arith, place_is_of_words lines label)

pub place_within_length : (lines : List Line) (label : ℕ) → place_of lines label ≤ code_length lines
place_within_length [] label = omega arith
place_within_length (Plain instr ∷ lines) label = omega (arith, place_within_length lines label)
place_within_length (Label l ∷ lines) label = let rest = place_within_length lines label in grind (arith, nat_tests)
place_within_length (Jump l ∷ lines) label = omega (arith, place_within_length lines label)
place_within_length (JumpUnless comparison l ∷ lines) label = omega (arith, place_within_length lines label)
place_within_length (BranchUnless comparison l ∷ lines) label = omega (arith, place_within_length lines label)
place_within_length (CallTo l ∷ lines) label = omega (arith, place_within_length lines label)
