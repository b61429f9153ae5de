-- A round on lines is one on what is said of each: a branch alone is a conditional jump that isn't said to be wide.
use Rattle.std.specs.Prelude.{not, ◌||◌, ◌&&◌, length, if◌then◌else◌}
use Rattle.std.proofs.Common.{◌≡◌, ℕ, zero, suc, ◌+◌, ◌≤◌, ◌<◌, Bool, true, false, List, [], ◌∷◌, refl, sym, ap, subst, ◌∙◌, arith}
use Rattle.std.proofs.lemmas.Bool.{false≢true, and_parts}
use Rattle.core_lines.specs.declared.comparison.Comparison.{Comparison}
use Rattle.core_lines.specs.declared.line.Line.{Line}
use Rattle.core_lines.specs.declared.line.Line.TheVariants.{Plain, Label, Jump, JumpUnless, BranchUnless, CallTo}
use Rattle.core_lines.specs.Lines.{size_of, code_length}
use Rattle.core_lines.specs.Relaxed.{place_of, shorten, shortened, is_in_reach, reaches, widened, next_round, rounds, none_wide, wide_in}
use Rattle.core_lines.proofs.labels.Relaxing.{as_long, none_long, still, settled, size_grows, round_longer, rounds_longer}
use Rattle.rv32_select.specs.Beginning.{are_long}
use Rattle.rv32_layout.specs.Placing as placing
use Rattle.rv32_layout.specs.Placing.{all_reach, lengthen, lengthened}

-- ---- one round

-- a branch alone becomes a branch over a jump where it doesn't reach its label
turned : (comparison : Comparison) (label : ℕ) (in_reach : Bool)
    → ◌≡◌ {A = Line} (if in_reach then BranchUnless comparison label else JumpUnless comparison label)
    (if not in_reach then JumpUnless comparison label else BranchUnless comparison label)
turned comparison label true = refl
turned comparison label false = refl

round_is : (places : ℕ → ℕ) (at : ℕ) (ws : List Bool) (lines : List Line) → are_long lines ≡ true → length ws ≡ length lines
    → lengthened places at (shortened ws lines) ≡ shortened (widened places at ws lines) lines
round_is places at [] [] long same = refl
round_is places at [] (line ∷ lines) long same = absurd (omega (arith, same))
round_is places at (w ∷ ws) [] long same = refl
round_is places at (w ∷ ws) (Plain instr ∷ lines) long same =
    ap (λ ls. Plain instr ∷ ls) (round_is places (at + 4) ws lines long (omega (arith, same)))
round_is places at (w ∷ ws) (Label l ∷ lines) long same = ap (λ ls. Label l ∷ ls) (round_is places (at + 0) ws lines long (omega (arith, same)))
round_is places at (w ∷ ws) (Jump l ∷ lines) long same = ap (λ ls. Jump l ∷ ls) (round_is places (at + 4) ws lines long (omega (arith, same)))
round_is places at (true ∷ ws) (JumpUnless comparison l ∷ lines) long same =
    ap (λ ls. JumpUnless comparison l ∷ ls) (round_is places (at + 8) ws lines long (omega (arith, same)))
round_is places at (false ∷ ws) (JumpUnless comparison l ∷ lines) long same =
    ap (λ line. line ∷ lengthened places (at + 4) (shortened ws lines)) (turned comparison l (is_in_reach (places l) at)) ∙
    ap (λ ls. (if not (is_in_reach (places l) at) then JumpUnless comparison l else BranchUnless comparison l) ∷ ls)
    (round_is places (at + 4) ws lines long (omega (arith, same)))
round_is places at (w ∷ ws) (BranchUnless comparison l ∷ lines) long same = absurd (false≢true long)
round_is places at (w ∷ ws) (CallTo l ∷ lines) long same = ap (λ ls. CallTo l ∷ ls) (round_is places (at + 4) ws lines long (omega (arith, same)))

-- what a table says of the labels is enough
lengthen-same : (f g : ℕ → ℕ) (at : ℕ) (line : Line) → ((label : ℕ) → f label ≡ g label) → lengthen f at line ≡ lengthen g at line
lengthen-same f g at (Plain instr) same = refl
lengthen-same f g at (Label l) same = refl
lengthen-same f g at (Jump l) same = refl
lengthen-same f g at (JumpUnless comparison l) same = refl
lengthen-same f g at (BranchUnless comparison l) same =
    ap (λ place. if is_in_reach place at then BranchUnless comparison l else JumpUnless comparison l) (same l)
lengthen-same f g at (CallTo l) same = refl

lengthened-same : (f g : ℕ → ℕ) (at : ℕ) (lines : List Line) → ((label : ℕ) → f label ≡ g label) → lengthened f at lines ≡ lengthened g at lines
lengthened-same f g at [] same = refl
lengthened-same f g at (line ∷ lines) same =
    ap (λ l. l ∷ lengthened f (at + size_of line) lines) (lengthen-same f g at line same) ∙
    ap (λ ls. lengthen g at line ∷ ls) (lengthened-same f g (at + size_of line) lines same)

-- where all reach, a round changes nothing
line_stays : (places : ℕ → ℕ) (at : ℕ) (line : Line) → placing.reaches places at line ≡ true → lengthen places at line ≡ line
line_stays places at (Plain instr) reach = refl
line_stays places at (Label l) reach = refl
line_stays places at (Jump l) reach = refl
line_stays places at (JumpUnless comparison l) reach = refl
line_stays places at (BranchUnless comparison l) reach = ap (λ b. if b then BranchUnless comparison l else JumpUnless comparison l) reach
line_stays places at (CallTo l) reach = refl

pub round_stays : (places : ℕ → ℕ) (at : ℕ) (lines : List Line) → all_reach places at lines ≡ true → lengthened places at lines ≡ lines
round_stays places at [] reach = refl
round_stays places at (line ∷ lines) reach =
    let next = at + size_of line in
    let both = and_parts (placing.reaches places at line) (all_reach places next lines) reach in
    ap (λ l. l ∷ lengthened places next lines) (line_stays places at line both.0) ∙ ap (λ ls. line ∷ ls) (round_stays places next lines both.1)

-- else it makes the code longer
no_shorter : (places : ℕ → ℕ) (at : ℕ) (line : Line) → size_of line ≤ size_of (lengthen places at line)
no_shorter places at (Plain instr) = omega arith
no_shorter places at (Label l) = omega arith
no_shorter places at (Jump l) = omega arith
no_shorter places at (JumpUnless comparison l) = omega arith
no_shorter places at (BranchUnless comparison l) = by (is_in_reach (places l) at)
  where
    by : (b : Bool) → 4 ≤ size_of (if b then BranchUnless comparison l else JumpUnless comparison l)
    by true = omega arith
    by false = omega arith
no_shorter places at (CallTo l) = omega arith

longer : (places : ℕ → ℕ) (at : ℕ) (line : Line) → placing.reaches places at line ≡ false → size_of line < size_of (lengthen places at line)
longer places at (Plain instr) beyond = absurd (cc beyond)
longer places at (Label l) beyond = absurd (cc beyond)
longer places at (Jump l) beyond = absurd (cc beyond)
longer places at (JumpUnless comparison l) beyond = absurd (cc beyond)
longer places at (BranchUnless comparison l) beyond =
    subst (λ b. 4 < size_of (if b then BranchUnless comparison l else JumpUnless comparison l)) (sym beyond) (omega arith)
longer places at (CallTo l) beyond = absurd (cc beyond)

none_shorter : (places : ℕ → ℕ) (at : ℕ) (lines : List Line) → code_length lines ≤ code_length (lengthened places at lines)
none_shorter places at [] = omega arith
none_shorter places at (line ∷ lines) = omega (arith, no_shorter places at line, none_shorter places (at + size_of line) lines)

pub round_grows : (places : ℕ → ℕ) (at : ℕ) (lines : List Line) → all_reach places at lines ≡ false
    → code_length lines < code_length (lengthened places at lines)
round_grows places at [] beyond = absurd (cc beyond)
round_grows places at (line ∷ lines) beyond =
    by (placing.reaches places at line) refl beyond (λ others. round_grows places (at + size_of line) lines others)
  where
    by : (b : Bool) → placing.reaches places at line ≡ b → (b && all_reach places (at + size_of line) lines) ≡ false
        → (all_reach places (at + size_of line) lines ≡ false → code_length lines < code_length (lengthened places (at + size_of line) lines))
        → code_length (line ∷ lines) < code_length (lengthened places at (line ∷ lines))
    by true is others more = let rest = more others in omega (arith, no_shorter places at line, rest)
    by false is others more = omega (arith, longer places at line is, none_shorter places (at + size_of line) lines)

-- ---- a round on what is said of each line

-- it leaves a line as it is where that isn't longer
same_said : (places : ℕ → ℕ) (at : ℕ) (w : Bool) (line : Line) → size_of (shorten (w || not (reaches places at line)) line) ≤ size_of (shorten w line)
    → (w || not (reaches places at line)) ≡ w
same_said places at true line few = refl
same_said places at false (Plain instr) few = refl
same_said places at false (Label l) few = refl
same_said places at false (Jump l) few = refl
same_said places at false (JumpUnless comparison l) few = by (is_in_reach (places l) at) few
  where
    by : (in_reach : Bool) → size_of (shorten (not in_reach) (JumpUnless comparison l)) ≤ 4 → not in_reach ≡ false
    by true few = refl
    by false few = absurd (omega (arith, few))
same_said places at false (BranchUnless comparison l) few = refl
same_said places at false (CallTo l) few = refl

-- and all where the code isn't
same_unless_longer : (places : ℕ → ℕ) (at : ℕ) (ws : List Bool) (lines : List Line)
    → code_length (shortened (widened places at ws lines) lines) ≤ code_length (shortened ws lines) → widened places at ws lines ≡ ws
same_unless_longer places at [] lines few = refl
same_unless_longer places at (w ∷ ws) [] few = refl
same_unless_longer places at (w ∷ ws) (line ∷ lines) few =
    let next = at + size_of (shorten w line) in
    let here = size_grows w (not (reaches places at line)) line in
    let others = round_longer places next ws lines in
    ap (λ b. b ∷ widened places next ws lines) (same_said places at w line (omega (arith, few, here, others))) ∙
    ap (λ bs. w ∷ bs) (same_unless_longer places next ws lines (omega (arith, few, here)))

-- ---- all rounds

-- Lines between two rounds: what is said of each line comes to what is said behind the last one.
pub record AreBetween (lines placed : List Line) : Type 0 where
  pub wide : List Bool
  pub each : length wide ≡ length lines
  pub are : placed ≡ shortened wide lines
  pub more : ℕ
  pub come : rounds more lines wide ≡ wide_in lines

-- before the first one
pub at_first : (lines placed : List Line) → placed ≡ shortened (none_wide lines) lines → AreBetween lines placed
at_first lines placed is = record { wide = none_wide lines; each = none_long lines; are = is; more = length lines; come = refl }

-- there are more rounds, or nothing changes any longer
come_on : (lines : List Line) (wide : List Bool) (more : ℕ) → rounds more lines wide ≡ wide_in lines
    → (fewer : ℕ) × (rounds fewer lines (next_round lines wide) ≡ wide_in lines)
come_on lines wide zero come = (0, ap (λ ws. next_round lines ws) come ∙ settled lines)
come_on lines wide (suc fewer) come = (fewer, come)

module _ (lines placed : List Line) (table : ℕ → ℕ) (same : (label : ℕ) → table label ≡ place_of placed label)
    (long : are_long lines ≡ true) (between : AreBetween lines placed) where
  next_is : lengthened table 0 placed ≡ shortened (next_round lines between.wide) lines
  next_is =
      lengthened-same table (place_of placed) 0 placed same ∙ ap (λ ls. lengthened (place_of ls) 0 ls) between.are ∙
      round_is (place_of (shortened between.wide lines)) 0 between.wide lines long between.each

  -- behind one more
  pub one_more : AreBetween lines (lengthened table 0 placed)
  one_more =
      let come = come_on lines between.wide between.more between.come in
      record {
        wide = next_round lines between.wide;
        each = as_long (place_of (shortened between.wide lines)) 0 between.wide lines ∙ between.each;
        are = next_is;
        more = come.0;
        come = come.1;
      }

  -- behind the last one
  pub at_last : all_reach table 0 placed ≡ true → placed ≡ shortened (wide_in lines) lines
  at_last reach =
      let stays = round_stays table 0 placed reach in
      let settled = same_unless_longer (place_of (shortened between.wide lines)) 0 between.wide lines
      (omega (arith, ap code_length next_is, ap code_length stays, ap code_length between.are)) in
      let last : between.wide ≡ wide_in lines = sym (still between.more lines between.wide settled) ∙ between.come in
      between.are ∙ ap (λ ws. shortened ws lines) last

-- so the code is never longer than behind the last one
pub no_longer_yet : (lines placed : List Line) → AreBetween lines placed → code_length placed ≤ code_length (shortened (wide_in lines) lines)
no_longer_yet lines placed between =
    omega (arith, ap code_length between.are, rounds_longer between.more lines between.wide, ap (λ ws. code_length (shortened ws lines)) between.come)
