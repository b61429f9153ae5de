-- What lines keep where conditional jumps become branches alone: their labels, their first jump, and that there is code.
use Rattle.std.proofs.Common.{◌≡◌, ℕ, ◌+◌, ◌<◌, ◌≤◌, Bool, true, false, nat_eq, nat_lt, List, [], ◌∷◌, Option, Some, None, refl, sym, ap, subst, ◌∙◌, arith}
use Rattle.std.specs.Prelude.{if◌then◌else◌}
use Rattle.std.proofs.lemmas.Bool.{false≢true}
use Rattle.std.proofs.lemmas.Bool.Decides.{nat_tests}
use Rattle.core_lines.specs.declared.line.Line.{Line}
use Rattle.core_lines.specs.declared.line.Line.TheVariants.{Plain, Label, Jump, JumpUnless, BranchUnless, CallTo}
use Rattle.core_lines.specs.Lines.{code_length, labels_placed}
use Rattle.core_lines.specs.Relaxed.{place_of, shortened, wide_in, AllReach}
use Rattle.core_lines.proofs.labels.Relaxing.{AreLong, all_reach, no_longer}
use Rattle.cyc_image.specs.Format.{code_limit}
use Rattle.rv32_select.specs.Beginning.{first_target, leads_to_code, leads_if_some, begins_within, are_long}
use Rattle.rv32_layout.specs.declared.places.Places.{Places}
use Rattle.rv32_layout.specs.Placing.{place_in, ArePlaceable}

pub labels_short : (ws : List Bool) (lines : List Line) → labels_placed (shortened ws lines) ≡ labels_placed lines
labels_short [] lines = refl
labels_short (w ∷ ws) [] = refl
labels_short (w ∷ ws) (Plain instr ∷ lines) = labels_short ws lines
labels_short (w ∷ ws) (Label l ∷ lines) = ap (λ labels. l ∷ labels) (labels_short ws lines)
labels_short (w ∷ ws) (Jump l ∷ lines) = labels_short ws lines
labels_short (true ∷ ws) (JumpUnless comparison l ∷ lines) = labels_short ws lines
labels_short (false ∷ ws) (JumpUnless comparison l ∷ lines) = labels_short ws lines
labels_short (w ∷ ws) (BranchUnless comparison l ∷ lines) = labels_short ws lines
labels_short (w ∷ ws) (CallTo l ∷ lines) = labels_short ws lines

-- where there is code, there still is
pub some_short : (ws : List Bool) (lines : List Line) → 0 < code_length lines → 0 < code_length (shortened ws lines)
some_short [] lines some = some
some_short (w ∷ ws) [] some = some
some_short (w ∷ ws) (Plain instr ∷ lines) some = omega arith
some_short (w ∷ ws) (Label l ∷ lines) some = let rest = some_short ws lines (omega (arith, some)) in omega (arith, rest)
some_short (w ∷ ws) (Jump l ∷ lines) some = omega arith
some_short (true ∷ ws) (JumpUnless comparison l ∷ lines) some = omega arith
some_short (false ∷ ws) (JumpUnless comparison l ∷ lines) some = omega arith
some_short (w ∷ ws) (BranchUnless comparison l ∷ lines) some = omega arith
some_short (w ∷ ws) (CallTo l ∷ lines) some = omega arith

same_test : (long short : ℕ) → short ≤ long → (0 < long → 0 < short) → nat_lt 0 short ≡ nat_lt 0 long
same_test long short less some = grind (arith, nat_tests)

same_some : (ws : List Bool) (lines : List Line) → nat_lt 0 (code_length (shortened ws lines)) ≡ nat_lt 0 (code_length lines)
same_some ws lines = same_test (code_length lines) (code_length (shortened ws lines)) (no_longer ws lines) (some_short ws lines)

-- ---- how they begin

first_short : (ws : List Bool) (lines : List Line) → first_target (shortened ws lines) ≡ first_target lines
first_short [] lines = refl
first_short (w ∷ ws) [] = refl
first_short (w ∷ ws) (Plain instr ∷ lines) = refl
first_short (w ∷ ws) (Label l ∷ lines) = first_short ws lines
first_short (w ∷ ws) (Jump l ∷ lines) = refl
first_short (true ∷ ws) (JumpUnless comparison l ∷ lines) = refl
first_short (false ∷ ws) (JumpUnless comparison l ∷ lines) = refl
first_short (w ∷ ws) (BranchUnless comparison l ∷ lines) = refl
first_short (w ∷ ws) (CallTo l ∷ lines) = refl

leads_short : (label : ℕ) (ws : List Bool) (lines : List Line) → leads_to_code label (shortened ws lines) ≡ leads_to_code label lines
leads_short label [] lines = refl
leads_short label (w ∷ ws) [] = refl
leads_short label (w ∷ ws) (Plain instr ∷ lines) = leads_short label ws lines
leads_short label (w ∷ ws) (Label l ∷ lines) =
    ap (λ b. if nat_eq l label then b else leads_to_code label (shortened ws lines)) (same_some ws lines) ∙
    ap (λ b. if nat_eq l label then nat_lt 0 (code_length lines) else b) (leads_short label ws lines)
leads_short label (w ∷ ws) (Jump l ∷ lines) = leads_short label ws lines
leads_short label (true ∷ ws) (JumpUnless comparison l ∷ lines) = leads_short label ws lines
leads_short label (false ∷ ws) (JumpUnless comparison l ∷ lines) = leads_short label ws lines
leads_short label (w ∷ ws) (BranchUnless comparison l ∷ lines) = leads_short label ws lines
leads_short label (w ∷ ws) (CallTo l ∷ lines) = leads_short label ws lines

leads_if_short : (target : Option ℕ) (ws : List Bool) (lines : List Line) → leads_if_some target (shortened ws lines) ≡ leads_if_some target lines
leads_if_short None ws lines = refl
leads_if_short (Some label) ws lines = leads_short label ws lines

begins_short : (ws : List Bool) (lines : List Line) → begins_within lines ≡ true → begins_within (shortened ws lines) ≡ true
begins_short ws lines begins =
    ap (λ target. leads_if_some target (shortened ws lines)) (first_short ws lines) ∙ leads_if_short (first_target lines) ws lines ∙ begins

-- ---- behind the last round

all_long : (lines : List Line) → are_long lines ≡ true → AreLong lines
all_long [] long = tt
all_long (Plain instr ∷ lines) long = all_long lines long
all_long (Label l ∷ lines) long = all_long lines long
all_long (Jump l ∷ lines) long = all_long lines long
all_long (JumpUnless comparison l ∷ lines) long = all_long lines long
all_long (BranchUnless comparison l ∷ lines) long = absurd (false≢true long)
all_long (CallTo l ∷ lines) long = all_long lines long

-- they can be placed, where their code is within the limit
pub placeable : (lines placed : List Line) (places : Places) → begins_within lines ≡ true → are_long lines ≡ true
    → placed ≡ shortened (wide_in lines) lines → code_length placed ≤ code_limit
    → ((label : ℕ) → place_in places label ≡ place_of placed label) → ArePlaceable placed places
placeable lines placed places begins long is within table = record {
  within = within;
  begins = subst (λ ls. begins_within ls ≡ true) (sym is) (begins_short (wide_in lines) lines begins);
  reach = subst (λ ls. AllReach (place_of ls) 0 ls) (sym is) (all_reach lines (all_long lines long));
  table = table;
}
