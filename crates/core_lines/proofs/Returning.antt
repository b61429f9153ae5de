-- Statements that end in a `Return`: their lines end in a jump, which isn't needed where the function ends behind them.
use Rattle.std.specs.Prelude.{◌-◌, take, drop, length, if◌then◌else◌}
use Rattle.std.proofs.Common.{◌≡◌, ℕ, zero, suc, ◌+◌, ◌≤◌, Bool, true, false, List, [], ◌∷◌, ◌++◌, refl, sym, ap, subst, ◌∙◌}
use Rattle.std.proofs.Common.{arith, append_assoc, append-nil, length-append}
use Rattle.std.proofs.lemmas.Bool.{false≢true}
use Rattle.std.proofs.lemmas.List.{take-append-le, take_all}
use Rattle.cyc_words.specs.declared.faults.Kind.{Kind}
use Rattle.core_meaning.specs.Core.{Statement, Do, If, While, Block, Leave, Break, Continue, Call, Return, Raise, Statements, NoStatements, MoreStatements}
use Rattle.core_lines.specs.declared.line.Line.{Line}
use Rattle.core_lines.specs.declared.line.Line.TheVariants.{Jump}
use Rattle.core_lines.specs.Lines.{code_length, labels_placed}
use Rattle.core_lines.specs.Relaxed.{targets, shorten_to, shortened_to}
use Rattle.core_lines.specs.Held.{held_behind}
use Rattle.core_lines.specs.Operands.{values_code}
use Rattle.core_lines.specs.Completing.{can_complete, ends_in_return, ends_in_return_all}
use Rattle.core_lines.specs.Saved.{results_in}
use Rattle.core_lines.specs.Selected.{Surroundings, labels_in, naming, holding, within_block, names_after, statement_code, statements_code, ended_code}
use Rattle.core_lines.specs.Selected.{statements_behind, home_behind, first_code, later_code}
use Rattle.core_lines.specs.Homes.{flag_at}
use Rattle.core_lines.specs.Straight.{straight_code}
use Rattle.core_lines.proofs.Straight.{goes_straight}
use Rattle.core_lines.proofs.memory.Access.{length_of_both}
use Rattle.core_lines.proofs.labels.NoLabels.{labels_placed-append}
use Rattle.core_lines.proofs.labels.NoTargets.{targets_append}

-- lines whose last one is a jump there
pub record JumpsLast (exit : ℕ) (lines : List Line) : Type 0 where
  pub before : List Line
  pub are : lines ≡ before ++ (Jump exit ∷ [])

pub without_last : (before : List Line) (line : Line) → ended_code true (before ++ (line ∷ [])) ≡ before
without_last before line =
    let last : List Line = line ∷ [] in
    ap (λ n. take n (before ++ last)) {y = length before} (let e = length-append before last in omega (arith, e))
    ∙ take-append-le (length before) before last (omega arith) ∙ take_all (length before) before (omega arith)

-- which are before it is determined
pub same_before : (exit : ℕ) (lines others : List Line) → lines ≡ others → (a : JumpsLast exit lines) (b : JumpsLast exit others) → a.before ≡ b.before
same_before exit lines others same a b =
    sym (without_last a.before (Jump exit)) ∙ ap (λ ls. ended_code true ls) (sym a.are ∙ same ∙ b.are) ∙ without_last b.before (Jump exit)

-- where more lines come before them, or none behind them
abbrev pub last_behind : (exit : ℕ) (first second : List Line) → JumpsLast exit second → JumpsLast exit (first ++ second)
last_behind exit first second last =
    record { before = first ++ last.before; are = ap (λ ls. first ++ ls) last.are ∙ sym (append_assoc first last.before (Jump exit ∷ [])) }

abbrev pub last_alone : (exit : ℕ) (lines : List Line) → JumpsLast exit lines → JumpsLast exit (lines ++ [])
last_alone exit lines last = record { before = last.before; are = append-nil lines ∙ last.are }

abbrev pub last_then : (exit : ℕ) (completes : Bool) → completes ≡ true → (lines : List Line) → JumpsLast exit lines
    → JumpsLast exit (if completes then lines else [])
last_then exit true is lines last = last
last_then exit false is lines last = absurd (false≢true is)

abbrev pub last_of_both : (exit : ℕ) (completes one_ends other_ends : Bool) → (if completes then other_ends else one_ends) ≡ true → (first second : List Line)
    → (one_ends ≡ true → JumpsLast exit first) → (other_ends ≡ true → JumpsLast exit second) → JumpsLast exit (first ++ (if completes then second else []))
last_of_both exit true one_ends other_ends ends first second one other = last_behind exit first second (other ends)
last_of_both exit false one_ends other_ends ends first second one other = last_alone exit first (one ends)

-- where the first of statements completes, the others are reached
abbrev pub first_completes : Statements → Bool
first_completes NoStatements = true
first_completes (MoreStatements s ss) = can_complete s

abbrev pub last_if : (exit : ℕ) (completes one_ends other_ends : Bool) → completes ≡ true → (if completes then other_ends else one_ends) ≡ true
    → (lines : List Line) → (other_ends ≡ true → JumpsLast exit lines) → JumpsLast exit (if completes then lines else [])
last_if exit true one_ends other_ends is ends lines last = last ends
last_if exit false one_ends other_ends is ends lines last = absurd (false≢true is)

-- a statement and those behind it, whether or not its result goes straight into the home of a local
abbrev pub followed_jumps_last : (flags : List Bool) (u : Surroundings) (next out again : ℕ) (s : Statement) (ss : Statements) (home : ℕ)
    → home_behind u.homes u.held s ss ≡ home → ends_in_return_all (MoreStatements s ss) ≡ true
    → (let v = holding (held_behind u.homes u.statics u.held s) (naming (names_after s u.names) u) in
    let left = drop (results_in s) flags in
    (ends_in_return s ≡ true → JumpsLast u.exit (statement_code flags u next out again s))
    → (ends_in_return_all ss ≡ true → JumpsLast u.exit (statements_code left v (next + labels_in s) out again ss))
    → (first_completes ss ≡ true → ends_in_return_all ss ≡ true → JumpsLast u.exit (statements_behind left v (next + labels_in s) out again ss))
    → JumpsLast u.exit (first_code home (flag_at flags 0) u s (statement_code flags u next out again s)
    ++ (if can_complete s then later_code home (statements_code left v (next + labels_in s) out again ss)
    (statements_behind left v (next + labels_in s) out again ss) else [])))
followed_jumps_last flags u next out again s ss zero none ends one others behind =
    last_of_both u.exit (can_complete s) (ends_in_return s) (ends_in_return_all ss) ends (statement_code flags u next out again s)
    (statements_code (drop (results_in s) flags) (holding (held_behind u.homes u.statics u.held s) (naming (names_after s u.names) u)) (next + labels_in s)
    out again ss) one others
followed_jumps_last flags u next out again s ss (suc h) some ends one others behind =
    let g = goes_straight u.homes u.held s ss h some in
    let completes : can_complete s ≡ true = ap can_complete g.first_is in
    let next_completes : first_completes ss ≡ true = ap first_completes g.next_is in
    let ends_behind : ends_in_return_all ss ≡ true =
    ap (λ c. if c then ends_in_return_all ss else ends_in_return s) (sym completes) ∙ ends in
    last_behind u.exit (straight_code (flag_at flags 0) u (suc h) s) _
    (last_then u.exit (can_complete s) completes _ (behind next_completes ends_behind))

abbrev mutual
  pub statement_jumps_last : (flags : List Bool) (u : Surroundings) (next out again : ℕ) (s : Statement) → ends_in_return s ≡ true
      → JumpsLast u.exit (statement_code flags u next out again s)
  statement_jumps_last flags u next out again (Do operation) ends = absurd (false≢true ends)
  statement_jumps_last flags u next out again (If t these those) ends = absurd (false≢true ends)
  statement_jumps_last flags u next out again (While test t body) ends = absurd (false≢true ends)
  statement_jumps_last flags u next out again (Block locals body) ends = statements_jump_last flags (within_block locals u) next out again body ends
  statement_jumps_last flags u next out again (Leave body) ends = absurd (false≢true ends)
  statement_jumps_last flags u next out again Break ends = absurd (false≢true ends)
  statement_jumps_last flags u next out again Continue ends = absurd (false≢true ends)
  statement_jumps_last flags u next out again (Call results f arguments) ends = absurd (false≢true ends)
  statement_jumps_last flags u next out again (Return values) ends = record { before = values_code u.passed u.held 9 values; are = refl }
  statement_jumps_last flags u next out again (Raise kind) ends = absurd (false≢true ends)

  pub statements_jump_last : (flags : List Bool) (u : Surroundings) (next out again : ℕ) (ss : Statements) → ends_in_return_all ss ≡ true
      → JumpsLast u.exit (statements_code flags u next out again ss)
  statements_jump_last flags u next out again NoStatements ends = absurd (false≢true ends)
  statements_jump_last flags u next out again (MoreStatements s ss) ends =
      let v = holding (held_behind u.homes u.statics u.held s) (naming (names_after s u.names) u) in
      followed_jumps_last flags u next out again s ss (home_behind u.homes u.held s ss) refl ends (statement_jumps_last flags u next out again s)
      (statements_jump_last (drop (results_in s) flags) v (next + labels_in s) out again ss)
      (behind_jump_last (drop (results_in s) flags) v (next + labels_in s) out again ss)

  pub behind_jump_last : (flags : List Bool) (u : Surroundings) (next out again : ℕ) (ss : Statements) → first_completes ss ≡ true
      → ends_in_return_all ss ≡ true → JumpsLast u.exit (statements_behind flags u next out again ss)
  behind_jump_last flags u next out again NoStatements completes ends = absurd (false≢true ends)
  behind_jump_last flags u next out again (MoreStatements s ss) completes ends =
      let v = holding (held_behind u.homes u.statics u.held s) (naming (names_after s u.names) u) in
      last_if u.exit (can_complete s) (ends_in_return s) (ends_in_return_all ss) completes ends
      (statements_code (drop (results_in s) flags) v (next + labels_in s) out again ss)
      (statements_jump_last (drop (results_in s) flags) v (next + labels_in s) out again ss)

-- a block's `Return` is the last of what is reached; one within a choice isn't
in_a_block : (kind : Kind)
    → ends_in_return_all (MoreStatements (Block [] (MoreStatements (Return []) NoStatements)) (MoreStatements (Raise kind) NoStatements)) ≡ true
in_a_block kind = refl

in_a_choice : (t : ℕ) → (let ss = MoreStatements (Return []) NoStatements in ends_in_return_all (MoreStatements (If t ss ss) NoStatements)) ≡ false
in_a_choice t = refl

-- ---- what goes with that jump

-- where lines are ended, they are so or have it
module _ (P : List Line → List Line → Type 0) (exit : ℕ) (same : (lines : List Line) → P lines lines)
    (one : (before : List Line) → P before (before ++ (Jump exit ∷ []))) where
  pub ended : (returns : Bool) (lines : List Line) → (returns ≡ true → JumpsLast exit lines) → P (ended_code returns lines) lines
  ended false lines last = same lines
  ended true lines last =
      let l = last refl in
      subst (λ ls. P (ended_code true ls) ls) (sym l.are)
      (subst (λ ls. P ls (l.before ++ (Jump exit ∷ []))) (sym (without_last l.before (Jump exit))) (one l.before))

-- it places no label
pub ended_places : (exit : ℕ) (returns : Bool) (lines : List Line) → (returns ≡ true → JumpsLast exit lines)
    → labels_placed (ended_code returns lines) ≡ labels_placed lines
ended_places exit = ended (λ less lines. labels_placed less ≡ labels_placed lines) exit (λ lines. refl)
    (λ before. sym (labels_placed-append before (Jump exit ∷ []) ∙ append-nil (labels_placed before)))

-- and is no conditional jump
pub ended_targets : (exit : ℕ) (returns : Bool) (lines : List Line) → (returns ≡ true → JumpsLast exit lines)
    → targets (ended_code returns lines) ≡ targets lines
ended_targets exit = ended (λ less lines. targets less ≡ targets lines) exit (λ lines. refl)
    (λ before. sym (targets_append before (Jump exit ∷ []) ∙ append-nil (targets before)))

pub ended_shorter : (exit : ℕ) (returns : Bool) (lines : List Line) → (returns ≡ true → JumpsLast exit lines)
    → code_length (ended_code returns lines) ≤ code_length lines
ended_shorter exit = ended (λ less lines. code_length less ≤ code_length lines) exit (λ lines. omega arith)
    (λ before. let e = length_of_both before (Jump exit ∷ []) in omega (arith, e))

pub short_length : (wide : ℕ → Bool) (lines : List Line) → length (shortened_to wide lines) ≡ length lines
short_length wide [] = refl
short_length wide (line ∷ lines) = ap suc (short_length wide lines)

pub short_take : (wide : ℕ → Bool) (n : ℕ) (lines : List Line) → shortened_to wide (take n lines) ≡ take n (shortened_to wide lines)
short_take wide zero lines = refl
short_take wide (suc n) [] = refl
short_take wide (suc n) (line ∷ lines) = ap (λ ls. shorten_to wide line ∷ ls) (short_take wide n lines)

pub ended_short : (wide : ℕ → Bool) (returns : Bool) (lines : List Line)
    → shortened_to wide (ended_code returns lines) ≡ ended_code returns (shortened_to wide lines)
ended_short wide false lines = refl
ended_short wide true lines =
    short_take wide (length lines - 1) lines ∙ ap (λ n. take (n - 1) (shortened_to wide lines)) (sym (short_length wide lines))

-- what stands before them stays
pub ended_behind : (exit : ℕ) (front : List Line) (returns : Bool) (lines : List Line) → (returns ≡ true → JumpsLast exit lines)
    → ended_code returns (front ++ lines) ≡ front ++ ended_code returns lines
ended_behind exit front false lines last = refl
ended_behind exit front true lines last =
    let l = last refl in
    let before = l.before in
    let jump : Line = Jump exit in
    ap (λ ls. ended_code true (front ++ ls)) l.are ∙ ap (λ ls. ended_code true ls) (sym (append_assoc front before (jump ∷ [])))
    ∙ without_last (front ++ before) jump ∙ ap (λ ls. front ++ ls) (sym (ap (λ ls. ended_code true ls) l.are ∙ without_last before jump))
