-- Lines that neither place a label nor are conditional jumps, and that those of a comparison's verdict are such.
use Rattle.std.proofs.Common.{◌≡◌, ℕ, zero, suc, Bool, true, false, List, [], ◌∷◌, ◌++◌, refl}
use Rattle.std.specs.Prelude.{if◌then◌else◌}
use Rattle.std.proofs.lemmas.Bool.{false≢true}
use Rattle.rv32_isa.specs.declared.instruction.Instr.{Instr}
use Rattle.core_lines.specs.declared.comparison.Condition.{Condition}
use Rattle.core_lines.specs.declared.comparison.Condition.TheVariants.{Equal, NotEqual, Less, NotLess, LessUnsigned, NotLessUnsigned}
use Rattle.core_lines.specs.declared.comparison.Comparison.{Comparison}
use Rattle.core_lines.specs.declared.line.Line.{Line}
use Rattle.core_lines.specs.declared.line.Line.TheVariants.{Plain, Label, Jump, JumpUnless, BranchUnless, CallTo}
use Rattle.core_lines.specs.Comparisons.{verdict_on, verdict_code}
use Rattle.core_lines.specs.Lines.{labels_placed}
use Rattle.core_lines.specs.Relaxed.{targets}

abbrev pub are_bare : List Line → Bool
are_bare [] = true
are_bare (Plain instr ∷ lines) = are_bare lines
are_bare (Label label ∷ lines) = false
are_bare (Jump label ∷ lines) = are_bare lines
are_bare (JumpUnless comparison label ∷ lines) = false
are_bare (BranchUnless comparison label ∷ lines) = false
are_bare (CallTo label ∷ lines) = are_bare lines

-- they place no label
pub bare_places : (lines : List Line) → are_bare lines ≡ true → labels_placed lines ≡ []
bare_places [] bare = refl
bare_places (Plain instr ∷ lines) bare = bare_places lines bare
bare_places (Label label ∷ lines) bare = absurd (false≢true bare)
bare_places (Jump label ∷ lines) bare = bare_places lines bare
bare_places (JumpUnless comparison label ∷ lines) bare = absurd (false≢true bare)
bare_places (BranchUnless comparison label ∷ lines) bare = absurd (false≢true bare)
bare_places (CallTo label ∷ lines) bare = bare_places lines bare

-- they have no conditional jump
pub bare_targets : (lines : List Line) → are_bare lines ≡ true → targets lines ≡ []
bare_targets [] bare = refl
bare_targets (Plain instr ∷ lines) bare = bare_targets lines bare
bare_targets (Label label ∷ lines) bare = absurd (false≢true bare)
bare_targets (Jump label ∷ lines) bare = bare_targets lines bare
bare_targets (JumpUnless comparison label ∷ lines) bare = absurd (false≢true bare)
bare_targets (BranchUnless comparison label ∷ lines) bare = absurd (false≢true bare)
bare_targets (CallTo label ∷ lines) bare = bare_targets lines bare

-- ---- lines one behind the other

pub two : (a b : List Line) → are_bare a ≡ true → are_bare b ≡ true → are_bare (a ++ b) ≡ true
two [] b p q = q
two (Plain instr ∷ a) b p q = two a b p q
two (Label label ∷ a) b p q = absurd (false≢true p)
two (Jump label ∷ a) b p q = two a b p q
two (JumpUnless comparison label ∷ a) b p q = absurd (false≢true p)
two (BranchUnless comparison label ∷ a) b p q = absurd (false≢true p)
two (CallTo label ∷ a) b p q = two a b p q

pub three : (a b c : List Line) → are_bare a ≡ true → are_bare b ≡ true → are_bare c ≡ true → are_bare (a ++ b ++ c) ≡ true
three a b c p q r = two (a ++ b) c (two a b p q) r

pub four : (a b c d : List Line) → are_bare a ≡ true → are_bare b ≡ true → are_bare c ≡ true → are_bare d ≡ true → are_bare (a ++ b ++ c ++ d) ≡ true
four a b c d p q r s = two (a ++ b ++ c) d (three a b c p q r) s

pub either : (test : Bool) (a b : List Line) → are_bare a ≡ true → are_bare b ≡ true → are_bare (if test then a else b) ≡ true
either true a b p q = p
either false a b p q = q

pub one : (test : Bool) (a b : Instr) → are_bare ((if test then Plain a else Plain b) ∷ []) ≡ true
one true a b = refl
one false a b = refl

-- ---- comparisons

verdict_on_bare : (c : Condition) (to left right : ℕ) → are_bare (verdict_on c to left right) ≡ true
verdict_on_bare Equal to left zero = refl
verdict_on_bare Equal to left (suc right) = refl
verdict_on_bare NotEqual to left zero = refl
verdict_on_bare NotEqual to left (suc right) = refl
verdict_on_bare Less to left right = refl
verdict_on_bare NotLess to left right = refl
verdict_on_bare LessUnsigned to left right = refl
verdict_on_bare NotLessUnsigned to left right = refl

pub verdict_bare : (to : ℕ) (c : Comparison) → are_bare (verdict_code to c) ≡ true
verdict_bare to c = verdict_on_bare c.condition to c.left c.right
