-- The ways of a choice, from behind it: its second statements, which begin behind the first, and then the first.
use Rattle.std.proofs.Common.{◌≡◌, ◌∙◌, [], ◌∷◌, ◌++◌, Bool, List, zero, suc, true, ap, arith, length, refl, reverse, sym}
use Rattle.std.proofs.lemmas.List.{append_assoc, append-nil, reverse-append}
use Rattle.core_meaning.specs.Core.{Statements, NoStatements}
use Rattle.cyc_core.specs.declared.statement.Statement as code
use Rattle.cyc_core.specs.Trees.{body_tree}
use Rattle.core_lines.specs.Held.{raises_only}
use Rattle.core_lines.specs.Loaded.{loads_of}
use Rattle.core_lines.specs.Saved.{all_flagged, either_flagged, either_way, live_of, saves_of}
use Rattle.core_lines.specs.Selected.{Surroundings, holding, names_after_all, naming}

module _ (u first second : Surroundings) (these those : Statements) (kept out loop : List Bool)
    (at_first : first ≡ u) (at_second : second ≡ holding u.held (naming (names_after_all these u.names) u)) where
  pub first_saves : (old new : List Bool) → new ≡ old ++ reverse (saves_of first.homes first.statics first.names first.held kept out loop these)
      → new ≡ old ++ reverse (saves_of u.homes u.statics u.names u.held kept out loop these)
  first_saves old new new_is =
      new_is ∙ (λ i. old ++ reverse (saves_of ((at_first i).homes) ((at_first i).statics) ((at_first i).names) ((at_first i).held) kept out loop these))

  pub both_saves : (old middle new : List Bool)
      → middle ≡ old ++ reverse (saves_of second.homes second.statics second.names second.held kept out loop those)
      → new ≡ middle ++ reverse (saves_of first.homes first.statics first.names first.held kept out loop these)
      → new ≡ old ++ reverse (saves_of u.homes u.statics u.names u.held kept out loop these
      ++ saves_of u.homes u.statics (names_after_all these u.names) u.held kept out loop those)
  both_saves old middle new middle_is new_is =
      let one = saves_of u.homes u.statics u.names u.held kept out loop these in
      let other = saves_of u.homes u.statics (names_after_all these u.names) u.held kept out loop those in
      let other_is : middle ≡ old ++ reverse other = middle_is
      ∙ (λ i. old ++ reverse (saves_of ((at_second i).homes) ((at_second i).statics) ((at_second i).names) ((at_second i).held) kept out loop those)) in
      first_saves middle new new_is ∙ ap (λ bs. bs ++ reverse one) other_is ∙ append_assoc old (reverse other) (reverse one)
      ∙ ap (λ bs. old ++ bs) (sym (reverse-append one other))

  pub first_live : (left : List Bool) → left ≡ live_of first.homes first.statics first.names first.held kept out loop these
      → left ≡ live_of u.homes u.statics u.names u.held kept out loop these
  first_live left left_is =
      left_is ∙ (λ i. live_of ((at_first i).homes) ((at_first i).statics) ((at_first i).names) ((at_first i).held) kept out loop these)

  pub both_live : (left other new : List Bool)
      → other ≡ live_of second.homes second.statics second.names second.held kept out loop those
      → left ≡ live_of first.homes first.statics first.names first.held kept out loop these → new ≡ either_flagged left other
      → new ≡ either_flagged (live_of u.homes u.statics u.names u.held kept out loop these)
      (live_of u.homes u.statics (names_after_all these u.names) u.held kept out loop those)
  both_live left other new other_is left_is new_is =
      let other_at = other_is
      ∙ (λ i. live_of ((at_second i).homes) ((at_second i).statics) ((at_second i).names) ((at_second i).held) kept out loop those) in
      let one_at = first_live left left_is in
      new_is ∙ (λ i. either_flagged (one_at i) (other_at i))

  pub check_live : (left new : List Bool) → left ≡ live_of first.homes first.statics first.names first.held kept out loop these
      → new ≡ all_flagged true (loads_of second.homes second.statics second.names second.held those) left
      → new ≡ all_flagged true (loads_of u.homes u.statics (names_after_all these u.names) u.held those)
      (live_of u.homes u.statics u.names u.held kept out loop these)
  check_live left new left_is new_is =
      let left_at = first_live left left_is in
      new_is ∙ (λ i. all_flagged true (loads_of ((at_second i).homes) ((at_second i).statics) ((at_second i).names) ((at_second i).held) those) (left_at i))

-- where there is no second way
module _ (u : Surroundings) (these : Statements) (those : List code.Statement) (kept out loop : List Bool) (none : length those ≡ 0) where
  none_is : (ss : List code.Statement) → length ss ≡ 0 → body_tree ss ≡ NoStatements
  none_is [] e = refl
  none_is (s ∷ ss) e = absurd (omega (arith, e))

  pub no_second_saves : saves_of u.homes u.statics u.names u.held kept out loop these
      ≡ saves_of u.homes u.statics u.names u.held kept out loop these
      ++ saves_of u.homes u.statics (names_after_all these u.names) u.held kept out loop (body_tree those)
  no_second_saves =
      let one = saves_of u.homes u.statics u.names u.held kept out loop these in
      sym (append-nil one)
      ∙ ap (λ ss. one ++ saves_of u.homes u.statics (names_after_all these u.names) u.held kept out loop ss) (sym (none_is those none))

  pub no_second_live : either_flagged (live_of u.homes u.statics u.names u.held kept out loop these) kept
      ≡ either_way (raises_only (body_tree those)) (loads_of u.homes u.statics (names_after_all these u.names) u.held (body_tree those))
      (live_of u.homes u.statics u.names u.held kept out loop these)
      (live_of u.homes u.statics (names_after_all these u.names) u.held kept out loop (body_tree those))
  no_second_live =
      let one = live_of u.homes u.statics u.names u.held kept out loop these in
      let behind = names_after_all these u.names in
      ap (λ ss. either_way (raises_only ss) (loads_of u.homes u.statics behind u.held ss) one (live_of u.homes u.statics behind u.held kept out loop ss))
      (sym (none_is those none))
