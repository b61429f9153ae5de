-- The code of a choice, a loop and what a `Break` leaves, from what is appended in turn.
use Rattle.std.proofs.Common.{◌≡◌, ℕ, ◌+◌, Bool, List, [], ◌∷◌, ◌++◌, drop, sym, ap, ◌∙◌}
use Rattle.std.proofs.lemmas.List.{append_assoc}
use Rattle.core_meaning.specs.Core.{Statements, If, While, Leave}
use Rattle.std.specs.Prelude.{None}
use Rattle.core_lines.specs.Checks.{check_of, checked_code}
use Rattle.core_lines.specs.Choosing.{choice_code, between_code, behind_code}
use Rattle.core_lines.specs.Completing.{can_complete_all}
use Rattle.core_lines.specs.declared.line.Line.{Line}
use Rattle.core_lines.specs.declared.line.Line.TheVariants.{Jump, Label}
use Rattle.core_lines.specs.Held.{held_behind_all}
use Rattle.core_lines.specs.Saved.{results_all}
use Rattle.core_lines.specs.Selected.{Surroundings, statement_code, statements_code, labels_of, names_after_all, holding, naming}

-- lines behind lines behind others
joined : (old first second middle last : List Line) → middle ≡ old ++ first → last ≡ middle ++ second → last ≡ old ++ (first ++ second)
joined old first second middle last one two = two ∙ ap (λ ls. ls ++ second) one ∙ append_assoc old first second

-- the place behind a choice's first statements, and where its second begin
module _ (u first second : Surroundings) (t : ℕ) (these those : Statements)
    (behind : first ≡ holding (held_behind_all u.homes u.statics u.held these) (naming (names_after_all these u.names) u))
    (again : second ≡ holding u.held first) where
  second_is : second ≡ naming (names_after_all these u.names) u
  second_is = again ∙ ap (λ (v : Surroundings). holding u.held v) behind

  pub choice_lines : (old tested one turned two new : List Line) (kept left : List Bool) (next inside past other out loop : ℕ)
      → tested ≡ old ++ choice_code u.wide u.passed u.held t next → inside ≡ next + 1 → one ≡ tested ++ statements_code kept u inside out loop these
      → past ≡ inside + labels_of these → turned ≡ one ++ between_code (can_complete_all these) those past next → other ≡ past + 1
      → left ≡ drop (results_all these) kept
      → two ≡ turned ++ statements_code left second other out loop those → new ≡ two ++ behind_code those past → check_of these those ≡ None
      → new ≡ old ++ statement_code kept u next out loop (If t these those)
  choice_lines old tested one turned two new kept left next inside past other out loop test_is inside_is one_is past_is turn_is other_is left_is two_is new_is
      none =
      let test = choice_code u.wide u.passed u.held t next in
      let these_code = statements_code kept u (next + 1) out loop these in
      let behind = next + 1 + labels_of these in
      let turn = between_code (can_complete_all these) those behind next in
      let those_code = statements_code (drop (results_all these) kept) (naming (names_after_all these u.names) u) (behind + 1) out loop those in
      let past_at : past ≡ behind = past_is ∙ ap (λ n. n + labels_of these) inside_is in
      let other_at : other ≡ behind + 1 = other_is ∙ ap (λ n. n + 1) past_at in
      let as_choice : new ≡ old ++ (test ++ these_code ++ turn ++ those_code ++ behind_code those behind) =
      joined old (test ++ these_code ++ turn ++ those_code) (behind_code those behind) two new
      (joined old (test ++ these_code ++ turn) those_code turned two
      (joined old (test ++ these_code) turn one turned
      (joined old test these_code tested one test_is (one_is ∙ ap (λ n. tested ++ statements_code kept u n out loop these) inside_is))
      (turn_is ∙ ap (λ n. one ++ between_code (can_complete_all these) those n next) past_at))
      (two_is ∙ (λ i. turned ++ statements_code (left_is i) (second_is i) (other_at i) out loop those)))
      (new_is ∙ ap (λ n. two ++ behind_code those n) past_at) in
      as_choice ∙ ap (λ check. old ++ checked_code u.passed u.held t check (test ++ these_code ++ turn ++ those_code ++ behind_code those behind)) (sym none)

-- and behind a loop's test
module _ (u empty first second : Surroundings) (t : ℕ) (test body : Statements)
    (begin : empty ≡ holding [] u)
    (behind : first ≡ holding (held_behind_all empty.homes empty.statics empty.held test) (naming (names_after_all test empty.names) empty))
    (again : second ≡ holding [] first) where
  first_is : first ≡ holding (held_behind_all u.homes u.statics [] test) (naming (names_after_all test u.names) u)
  first_is =
      behind ∙ (λ i. holding (held_behind_all ((begin i).homes) ((begin i).statics) ((begin i).held) test)
      (naming (names_after_all test ((begin i).names)) (begin i)))

  body_is : second ≡ holding [] (naming (names_after_all test u.names) u)
  body_is = again ∙ ap (λ (v : Surroundings). holding [] v) first_is

  pub loop_lines : (old labelled one tested two new : List Line) (kept left : List Bool) (next inside past within out loop : ℕ)
      → labelled ≡ old ++ Label next ∷ [] → inside ≡ next + 1 → one ≡ labelled ++ statements_code kept empty inside out loop test
      → past ≡ inside + labels_of test → tested ≡ one ++ choice_code first.wide first.passed first.held t past → within ≡ past + 1
      → left ≡ drop (results_all test) kept → two ≡ tested ++ statements_code left second within past next body → new ≡ two ++ Jump next ∷ Label past ∷ []
      → new ≡ old ++ statement_code kept u next out loop (While test t body)
  loop_lines old begun one tested two new kept left next inside past within out loop begun_is inside_is one_is past_is test_is within_is left_is two_is new_is =
      let start = Label next ∷ [] in
      let test_code = statements_code kept (holding [] u) (next + 1) out loop test in
      let behind = next + 1 + labels_of test in
      let choice = choice_code u.wide u.passed (held_behind_all u.homes u.statics [] test) t behind in
      let inner = holding [] (naming (names_after_all test u.names) u) in
      let body_code = statements_code (drop (results_all test) kept) inner (behind + 1) behind next body in
      let past_at : past ≡ behind = past_is ∙ ap (λ n. n + labels_of test) inside_is in
      let within_at : within ≡ behind + 1 = within_is ∙ ap (λ n. n + 1) past_at in
      joined old (start ++ test_code ++ choice ++ body_code) (Jump next ∷ Label behind ∷ []) two new
      (joined old (start ++ test_code ++ choice) body_code tested two
      (joined old (start ++ test_code) choice one tested
      (joined old start test_code begun one begun_is (one_is ∙ (λ i. begun ++ statements_code kept (begin i) (inside_is i) out loop test)))
      (test_is ∙ (λ i. one ++ choice_code ((first_is i).wide) ((first_is i).passed) ((first_is i).held) t (past_at i))))
      (two_is ∙ (λ i. tested ++ statements_code (left_is i) (body_is i) (within_at i) (past_at i) next body)))
      (new_is ∙ ap (λ n. two ++ Jump next ∷ Label n ∷ []) past_at)

pub leave_lines : (u : Surroundings) (body : Statements) (old one new : List Line) (kept : List Bool) (next inside out loop : ℕ) → inside ≡ next + 1
    → one ≡ old ++ statements_code kept u inside next loop body → new ≡ one ++ Label next ∷ []
    → new ≡ old ++ statement_code kept u next out loop (Leave body)
leave_lines u body old one new kept next inside out loop inside_is one_is new_is =
    joined old (statements_code kept u (next + 1) next loop body) (Label next ∷ []) one new
    (one_is ∙ ap (λ n. old ++ statements_code kept u n next loop body) inside_is) new_is
