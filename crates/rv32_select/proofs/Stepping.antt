-- One statement more: its lines and labels, what it loads, and the place behind it.
use Rattle.std.specs.Prelude.{◌&&◌, not, nat_eq, if◌then◌else◌, take, length}
use Rattle.std.proofs.Common.{◌≡◌, ℕ, zero, suc, ◌+◌, ◌≤◌, Bool, true, false, List, [], ◌∷◌, ◌++◌, drop, refl, sym, ap, ◌∙◌, arith}
use Rattle.std.proofs.Math.Seq.{take-append_seam}
use Rattle.std.proofs.lemmas.Bool.{ne_eqb}
use Rattle.std.proofs.lemmas.List.{append_assoc, append-nil, drop-drop}
use Rattle.core_meaning.specs.Core.{Statement, Statements, If, While, NoStatements, MoreStatements}
use Rattle.core_lines.specs.declared.line.Line.{Line}
use Rattle.core_lines.specs.Held.{held_behind, held_behind_all}
use Rattle.core_lines.specs.Completing.{can_complete}
use Rattle.core_lines.specs.Loaded.{unknown_in, loads_in, loads_of}
use Rattle.core_lines.specs.Saved.{all_flagged, results_in, results_all}
use Rattle.core_lines.specs.Selected.{Surroundings, statement_code, statements_code, labels_in, names_after, names_after_all, holding, naming}
use Rattle.core_lines.specs.Selected.{statements_behind, home_behind, first_code, later_code}
use Rattle.core_lines.specs.Homes.{flag_at}
use Rattle.rv32_select.specs.Starts.{Start, start_at, starts_of}
use Rattle.rv32_select.proofs.Flagging.{flagged_both}

-- the code of the statements that are left, where the first of them may put a word where it is already
abbrev pub code_left : Bool → (flags : List Bool) → Surroundings → (next out again : ℕ) → Statements → List Line
code_left placed flags u next out again ss =
    (if placed then statements_behind flags u next out again ss else statements_code flags u next out again ss)

is_home : (home : ℕ) → 1 ≤ home → nat_eq home 0 ≡ false
is_home home some = ne_eqb home 0 (λ e. absurd (omega (arith, e, some)))

left_is : (home : ℕ) (flags : List Bool) (u : Surroundings) (next out again : ℕ) (ss : Statements)
    → code_left (not (nat_eq home 0)) flags u next out again ss
    ≡ later_code home (statements_code flags u next out again ss) (statements_behind flags u next out again ss)
left_is zero flags u next out again ss = refl
left_is (suc h) flags u next out again ss = ap (λ none. code_left (not none) flags u next out again ss) (is_home (suc h) (omega arith))

-- what goes straight into a home, and else what the statement itself appends
pub straight_first : (home : ℕ) (keeps : Bool) (u : Surroundings) (s : Statement) (old straight put new code : List Line)
    → straight ≡ old ++ first_code home keeps u s [] → put ≡ straight ++ code → new ≡ (if nat_eq home 0 then put else take (length straight) put)
    → new ≡ old ++ first_code home keeps u s code
straight_first zero keeps u s old straight put new code e p n = n ∙ p ∙ ap (λ ls. ls ++ code) (e ∙ append-nil old)
straight_first (suc h) keeps u s old straight put new code e p n =
    n ∙ ap (λ none. if none then put else take (length straight) put) (is_home (suc h) (omega arith)) ∙ ap (take (length straight)) p
    ∙ take-append_seam straight code ∙ e

-- where all of them begin, if the last one begins here
pub starts_end : (homes : List (List ℕ)) (statics : List ℕ) (before : Surroundings) (s : Statement) (all : Statements) (old new : List Start)
    → all ≡ MoreStatements s NoStatements → new ≡ old ++ start_at before ∷ []
    → new ≡ old ++ starts_of homes statics before.names before.held all
starts_end homes statics before s all old new is e = e ∙ ap (λ more. old ++ starts_of homes statics before.names before.held more) (sym is)

-- the place at the start of statements, before one of them, and behind it
module _ (start before behind : Surroundings) (s : Statement) (ss all : Statements)
    (same : before ≡ holding before.held (naming before.names start))
    (step : behind ≡ holding (held_behind before.homes before.statics before.held s) (naming (names_after s before.names) before))
    (is : all ≡ MoreStatements s ss) where
  homes : before.homes ≡ start.homes
  homes = ap (λ (u : Surroundings). u.homes) same

  statics : before.statics ≡ start.statics
  statics = ap (λ (u : Surroundings). u.statics) same

  names : behind.names ≡ names_after s before.names
  names = ap (λ (u : Surroundings). u.names) step

  held : behind.held ≡ held_behind start.homes start.statics before.held s
  held = ap (λ (u : Surroundings). u.held) step ∙ (λ i. held_behind (homes i) (statics i) before.held s)

  pub same_behind : behind ≡ holding behind.held (naming behind.names start)
  same_behind =
      let there = ap (λ (u : Surroundings). u.held) step in
      step ∙ (λ i. holding (held_behind before.homes before.statics before.held s) (naming (names_after s before.names) (same i))) ∙
      (λ i. holding (sym there i) (naming (sym names i) start))

  pub names_behind : names_after_all ss behind.names ≡ names_after_all all before.names
  names_behind = ap (names_after_all ss) names ∙ ap (λ more. names_after_all more before.names) (sym is)

  pub held_there : held_behind_all start.homes start.statics behind.held ss ≡ held_behind_all start.homes start.statics before.held all
  held_there =
      ap (λ hs. held_behind_all start.homes start.statics hs ss) held ∙ ap (λ more. held_behind_all start.homes start.statics before.held more) (sym is)

  pub flags_behind : (old new : List Bool) → new ≡ all_flagged true (loads_in before.homes before.statics before.names before.held s) old
      → all_flagged true (loads_of start.homes start.statics behind.names behind.held ss) new
      ≡ all_flagged true (loads_of start.homes start.statics before.names before.held all) old
  flags_behind old new e =
      let first = e ∙ (λ i. all_flagged true (loads_in (homes i) (statics i) before.names before.held s) old) in
      let later = held_behind start.homes start.statics before.held s in
      (λ i. all_flagged true (loads_of start.homes start.statics (names i) (held i) ss) (first i)) ∙
      sym (flagged_both (loads_in start.homes start.statics before.names before.held s)
      (loads_of start.homes start.statics (names_after s before.names) later ss) old) ∙
      ap (λ more. all_flagged true (loads_of start.homes start.statics before.names before.held more) old) (sym is)

  -- where the statements that are left begin
  pub starts_behind : (old new : List Start) → new ≡ old ++ start_at before ∷ []
      → new ++ starts_of start.homes start.statics behind.names behind.held ss ≡ old ++ starts_of start.homes start.statics before.names before.held all
  starts_behind old new e =
      let later = held_behind start.homes start.statics before.held s in
      (λ i. e i ++ starts_of start.homes start.statics (names i) (held i) ss) ∙
      append_assoc old (start_at before ∷ []) (starts_of start.homes start.statics (names_after s before.names) later ss) ∙
      ap (λ more. old ++ starts_of start.homes start.statics before.names before.held more) (sym is)

  -- of the flags of its results, those behind the statement
  pub flags_left : (kept now : List Bool) → now ≡ drop (results_in s) kept → drop (results_all ss) now ≡ drop (results_all all) kept
  flags_left kept now k =
      ap (drop (results_all ss)) k ∙ drop-drop (results_all ss) (results_in s) kept ∙ ap (λ more. drop (results_all more) kept) (sym is)

  -- what is appended is kept where it is reached, and doesn't put a word where it is already
  pub code_behind : (reached placed : Bool) (home : ℕ) (old put new : List Line) (kept now : List Bool) (next free out again : ℕ)
      → home ≡ (if placed then 0 else home_behind before.homes before.held s ss)
      → put ≡ old ++ first_code home (flag_at kept 0) before s (statement_code kept before next out again s)
      → new ≡ (if reached && not placed then put else take (length old) put) → now ≡ drop (results_in s) kept → free ≡ next + labels_in s
      → new ++ (if reached && can_complete s then code_left (not (nat_eq home 0)) now behind free out again ss else [])
      ≡ old ++ (if reached then code_left placed kept before next out again all else [])
  code_behind true false home old put new kept now next free out again h e n k f =
      let later = holding (held_behind before.homes before.statics before.held s) (naming (names_after s before.names) before) in
      let home_is = home_behind before.homes before.held s ss in
      let left = drop (results_in s) kept in
      let after = next + labels_in s in
      let one = first_code home_is (flag_at kept 0) before s (statement_code kept before next out again s) in
      (λ i. n i ++ (if can_complete s then code_left (not (nat_eq (h i) 0)) (k i) (step i) (f i) out again ss else [])) ∙
      (λ i. e i ++ (if can_complete s then left_is home_is left later after out again ss i else [])) ∙
      (λ i. (old ++ first_code (h i) (flag_at kept 0) before s (statement_code kept before next out again s))
      ++ (if can_complete s then later_code home_is (statements_code left later after out again ss) (statements_behind left later after out again ss) else []))
      ∙ append_assoc old one
      (if can_complete s then later_code home_is (statements_code left later after out again ss) (statements_behind left later after out again ss) else []) ∙
      ap (λ more. old ++ statements_code kept before next out again more) (sym is)
  code_behind true true home old put new kept now next free out again h e n k f =
      let lines = first_code home (flag_at kept 0) before s (statement_code kept before next out again s) in
      (λ i. (n ∙ ap (take (length old)) e ∙ take-append_seam old lines) i
      ++ (if can_complete s then code_left (not (nat_eq (h i) 0)) (k i) (step i) (f i) out again ss else [])) ∙
      ap (λ more. old ++ statements_behind kept before next out again more) (sym is)
  code_behind false placed home old put new kept now next free out again h e n k f =
      ap (λ ls. ls ++ []) (n ∙ ap (take (length old)) e ∙
      take-append_seam old (first_code home (flag_at kept 0) before s (statement_code kept before next out again s)))

-- the place behind a choice: where its second statements begin, the same is known as where its first do
module _ (u first second : Surroundings) (t : ℕ) (these those : Statements)
    (behind : first ≡ holding (held_behind_all u.homes u.statics u.held these) (naming (names_after_all these u.names) u))
    (again : second ≡ holding u.held first) where
  second_is : second ≡ naming (names_after_all these u.names) u
  second_is = again ∙ ap (λ (v : Surroundings). holding u.held v) behind

  pub choice_flags : (before tested middle after : List Bool) → tested ≡ all_flagged true (unknown_in u.held (t ∷ [])) before
      → middle ≡ all_flagged true (loads_of u.homes u.statics u.names u.held these) tested
      → after ≡ all_flagged true (loads_of second.homes second.statics second.names second.held those) middle
      → after ≡ all_flagged true (loads_in u.homes u.statics u.names u.held (If t these those)) before
  choice_flags before tested middle after e f g =
      let one = loads_of u.homes u.statics u.names u.held these in
      let two = loads_of u.homes u.statics (names_after_all these u.names) u.held those in
      let unknown = unknown_in u.held (t ∷ []) in
      g ∙ (λ i. all_flagged true (loads_of ((second_is i).homes) ((second_is i).statics) ((second_is i).names) ((second_is i).held) those) (f i)) ∙
      ap (λ flags. all_flagged true two (all_flagged true one flags)) e ∙ ap (all_flagged true two) (sym (flagged_both unknown one before)) ∙
      sym (flagged_both (unknown ++ one) two before)

-- and behind a loop
module _ (u empty first second : Surroundings) (t : ℕ) (test body : Statements)
    (begin : empty ≡ holding [] u)
    (behind : first ≡ holding (held_behind_all empty.homes empty.statics empty.held test) (naming (names_after_all test empty.names) empty))
    (again : second ≡ holding [] first) where
  first_is : first ≡ holding (held_behind_all u.homes u.statics [] test) (naming (names_after_all test u.names) u)
  first_is =
      behind ∙ (λ i. holding (held_behind_all ((begin i).homes) ((begin i).statics) ((begin i).held) test)
      (naming (names_after_all test ((begin i).names)) (begin i)))

  body_is : second ≡ holding [] (naming (names_after_all test u.names) u)
  body_is = again ∙ ap (λ (v : Surroundings). holding [] v) first_is

  pub loop_flags : (before tested middle after : List Bool)
      → tested ≡ all_flagged true (loads_of empty.homes empty.statics empty.names empty.held test) before
      → middle ≡ all_flagged true (unknown_in first.held (t ∷ [])) tested
      → after ≡ all_flagged true (loads_of second.homes second.statics second.names second.held body) middle
      → after ≡ all_flagged true (loads_in u.homes u.statics u.names u.held (While test t body)) before
  loop_flags before tested middle after e f g =
      let one = loads_of u.homes u.statics u.names [] test in
      let two = loads_of u.homes u.statics (names_after_all test u.names) [] body in
      let unknown = unknown_in (held_behind_all u.homes u.statics [] test) (t ∷ []) in
      let f' = f ∙ (λ i. all_flagged true (unknown_in ((first_is i).held) (t ∷ [])) tested) in
      let e' = e ∙ (λ i. all_flagged true (loads_of ((begin i).homes) ((begin i).statics) ((begin i).names) ((begin i).held) test) before) in
      g ∙ (λ i. all_flagged true (loads_of ((body_is i).homes) ((body_is i).statics) ((body_is i).names) ((body_is i).held) body) (f' i)) ∙
      ap (λ flags. all_flagged true two (all_flagged true unknown flags)) e' ∙ ap (all_flagged true two) (sym (flagged_both one unknown before)) ∙
      sym (flagged_both (one ++ unknown) two before)
