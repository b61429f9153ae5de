-- A list of statements in two parts, from its end backwards: the second part, and then the first.
use Rattle.std.proofs.Common.{◌≡◌, ℕ, ◌+◌, ◌≤◌, ◌/◌, Bool, List, [], ◌∷◌, ◌++◌, length, reverse, refl, sym, ap, ◌∙◌, arith}
use Rattle.std.proofs.lemmas.List.{append_assoc, append-nil, reverse-append}
use Rattle.cyc_core.specs.declared.statement.Statement.{Statement}
use Rattle.cyc_core.specs.Trees.{statement_tree, body_tree}
use Rattle.core_lines.specs.Held.{Holding, held_behind, held_behind_all}
use Rattle.core_lines.specs.LocalPlaces.{names_after, names_after_all}
use Rattle.core_lines.specs.Saved.{live_in, live_of, saves_in, saves_of}
use Rattle.core_lines.specs.Selected.{Surroundings, holding, naming}
use Rattle.rv32_select.proofs.Sizes.{statements_size}

pub size_parts : (xs ys : List Statement)
    → statements_size (body_tree (xs ++ ys)) ≡ statements_size (body_tree xs) + statements_size (body_tree ys)
size_parts [] ys = omega arith
size_parts (x ∷ xs) ys = let rest = size_parts xs ys in omega (arith, rest)

pub size_some : (xs : List Statement) → length xs ≤ statements_size (body_tree xs)
size_some [] = omega arith
size_some (x ∷ xs) = let rest = size_some xs in omega (arith, rest)

-- both halves have statements, so that each is less than both
pub halves_less : (xs ys all : List Statement) (mid : ℕ) → all ≡ xs ++ ys → length xs ≡ mid → length ys + mid ≡ length all → 2 ≤ length all
    → mid ≡ length all / 2
    → (statements_size (body_tree xs) + 1 ≤ statements_size (body_tree all)) × (statements_size (body_tree ys) + 1 ≤ statements_size (body_tree all))
halves_less xs ys all mid is front back many half =
    let parts = ap (λ ss. statements_size (body_tree ss)) is ∙ size_parts xs ys in
    let first = size_some xs in
    let second = size_some ys in
    (omega (arith, parts, first, second, front, back, many, half), omega (arith, parts, first, second, front, back, many, half))

module _ (homes : List (List ℕ)) (statics : List ℕ) (out again : List Bool) where
  -- a statement alone
  pub saves_alone : (names : List ℕ) (hs : List Holding) (after : List Bool) (s : Statement)
      → saves_of homes statics names hs after out again (body_tree (s ∷ [])) ≡ saves_in homes statics names hs after out again (statement_tree s)
  saves_alone names hs after s = append-nil (saves_in homes statics names hs after out again (statement_tree s))

  -- what is loaded before the second part
  abbrev pub live_between : (names : List ℕ) → List Holding → List Bool → (xs ys : List Statement) → List Bool
  live_between names hs after xs ys =
      live_of homes statics (names_after_all (body_tree xs) names) (held_behind_all homes statics hs (body_tree xs)) after out again (body_tree ys)

  abbrev pub saves_second : (names : List ℕ) → List Holding → List Bool → (xs ys : List Statement) → List Bool
  saves_second names hs after xs ys =
      saves_of homes statics (names_after_all (body_tree xs) names) (held_behind_all homes statics hs (body_tree xs)) after out again (body_tree ys)

  pub live_parts : (names : List ℕ) (hs : List Holding) (after : List Bool) (xs ys : List Statement)
      → live_of homes statics names hs after out again (body_tree (xs ++ ys))
      ≡ live_of homes statics names hs (live_between names hs after xs ys) out again (body_tree xs)
  live_parts names hs after [] ys = refl
  live_parts names hs after (x ∷ xs) ys =
      ap (λ bs. live_in homes statics names hs bs out again (statement_tree x))
      (live_parts (names_after (statement_tree x) names) (held_behind homes statics hs (statement_tree x)) after xs ys)

  pub saves_parts : (names : List ℕ) (hs : List Holding) (after : List Bool) (xs ys : List Statement)
      → saves_of homes statics names hs after out again (body_tree (xs ++ ys))
      ≡ saves_of homes statics names hs (live_between names hs after xs ys) out again (body_tree xs) ++ saves_second names hs after xs ys
  saves_parts names hs after [] ys = refl
  saves_parts names hs after (x ∷ xs) ys =
      let names' = names_after (statement_tree x) names in
      let hs' = held_behind homes statics hs (statement_tree x) in
      let before = live_between names' hs' after xs ys in
      (λ i. saves_in homes statics names hs (live_parts names' hs' after xs ys i) out again (statement_tree x) ++ saves_parts names' hs' after xs ys i) ∙
      sym (append_assoc (saves_in homes statics names hs (live_of homes statics names' hs' before out again (body_tree xs)) out again (statement_tree x))
      (saves_of homes statics names' hs' before out again (body_tree xs)) (saves_second names' hs' after xs ys))

-- at a place before both parts: the second part is gone over from behind the first, and then the first from there
module _ (u first second : Surroundings) (out again : List Bool) (xs ys all : List Statement)
    (at_first : first ≡ u)
    (at_second : second ≡ holding (held_behind_all u.homes u.statics u.held (body_tree xs)) (naming (names_after_all (body_tree xs) u.names) u))
    (is : all ≡ xs ++ ys) where
  between_is : (after between : List Bool) → between ≡ live_of second.homes second.statics second.names second.held after out again (body_tree ys)
      → between ≡ live_between u.homes u.statics out again u.names u.held after xs ys
  between_is after between e =
      e ∙ (λ i. live_of ((at_second i).homes) ((at_second i).statics) ((at_second i).names) ((at_second i).held) after out again (body_tree ys))

  pub halves_live : (after between left : List Bool)
      → between ≡ live_of second.homes second.statics second.names second.held after out again (body_tree ys)
      → left ≡ live_of first.homes first.statics first.names first.held between out again (body_tree xs)
      → left ≡ live_of u.homes u.statics u.names u.held after out again (body_tree all)
  halves_live after between left e f =
      let there = between_is after between e in
      f ∙ (λ i. live_of ((at_first i).homes) ((at_first i).statics) ((at_first i).names) ((at_first i).held) (there i) out again (body_tree xs)) ∙
      sym (live_parts u.homes u.statics out again u.names u.held after xs ys) ∙
      ap (λ ss. live_of u.homes u.statics u.names u.held after out again (body_tree ss)) (sym is)

  pub halves_saves : (after between old middle new : List Bool)
      → between ≡ live_of second.homes second.statics second.names second.held after out again (body_tree ys)
      → middle ≡ old ++ reverse (saves_of second.homes second.statics second.names second.held after out again (body_tree ys))
      → new ≡ middle ++ reverse (saves_of first.homes first.statics first.names first.held between out again (body_tree xs))
      → new ≡ old ++ reverse (saves_of u.homes u.statics u.names u.held after out again (body_tree all))
  halves_saves after between old middle new e f g =
      let there = between_is after between e in
      let later = saves_second u.homes u.statics out again u.names u.held after xs ys in
      let earlier = saves_of u.homes u.statics u.names u.held (live_between u.homes u.statics out again u.names u.held after xs ys) out again (body_tree xs) in
      let middle_is : middle ≡ old ++ reverse later = f
      ∙ (λ i. old ++ reverse (saves_of ((at_second i).homes) ((at_second i).statics) ((at_second i).names) ((at_second i).held) after out again
      (body_tree ys))) in
      g ∙ (λ i. middle_is i ++ reverse (saves_of ((at_first i).homes) ((at_first i).statics) ((at_first i).names) ((at_first i).held) (there i) out again
      (body_tree xs))) ∙
      append_assoc old (reverse later) (reverse earlier) ∙ ap (λ bs. old ++ bs) (sym (reverse-append earlier later)) ∙
      ap (λ bs. old ++ reverse bs) (sym (saves_parts u.homes u.statics out again u.names u.held after xs ys)) ∙
      ap (λ ss. old ++ reverse (saves_of u.homes u.statics u.names u.held after out again (body_tree ss))) (sym is)
