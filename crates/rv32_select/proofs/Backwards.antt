-- Statements from the last one back: what the last one of a list adds to what is loaded, saved and known.
use Rattle.std.proofs.Common.{◌≡◌, ℕ, suc, ◌+◌, Bool, List, [], ◌∷◌, ◌++◌, length, reverse, refl, sym, ap, ◌∙◌, arith}
use Rattle.std.proofs.lemmas.List.{append_assoc, append-nil, reverse-append, reverse-reverse}
use Rattle.cyc_core.specs.declared.statement.Statement.{Statement}
use Rattle.cyc_core.specs.Trees.{statement_tree, body_tree}
use Rattle.core_lines.specs.Held.{Holding, held_behind, held_behind_all}
use Rattle.core_lines.specs.LocalPlaces.{names_after, names_after_all}
use Rattle.core_lines.specs.Saved.{live_in, live_of, saves_in, saves_of}
use Rattle.core_lines.specs.Selected.{Surroundings, holding, naming}
use Rattle.rv32_select.specs.Starts.{Start, starts_of, starting}
use Rattle.rv32_select.proofs.Sizes.{statement_size, statements_size}

-- two lists that end alike
pub ends_alike : {A : Type 0} (xs ys : List A) (x y : A) → xs ++ x ∷ [] ≡ ys ++ y ∷ [] → (xs ≡ ys) × (x ≡ y)
ends_alike {A} xs ys x y e =
    let both : x ∷ reverse xs ≡ y ∷ reverse ys = sym (reverse-append xs (x ∷ [])) ∙ ap reverse e ∙ reverse-append ys (y ∷ []) in
    let rest : reverse xs ≡ reverse ys = cc both in
    (sym (reverse-reverse xs) ∙ ap reverse rest ∙ reverse-reverse ys, cc both)

pub size_last : (ss : List Statement) (s : Statement)
    → statements_size (body_tree (ss ++ s ∷ [])) ≡ statements_size (body_tree ss) + statement_size (statement_tree s) + 1
size_last [] s = omega arith
size_last (x ∷ ss) s = let rest = size_last ss s in omega (arith, rest)

module _ (homes : List (List ℕ)) (statics : List ℕ) where
  -- where the last one begins
  abbrev pub last_start : (names : List ℕ) → List Holding → List Statement → Start
  last_start names hs ss = record { names = names_after_all (body_tree ss) names; held = held_behind_all homes statics hs (body_tree ss) }

  pub starts_last : (names : List ℕ) (hs : List Holding) (ss : List Statement) (s : Statement)
      → starts_of homes statics names hs (body_tree (ss ++ s ∷ [])) ≡ starts_of homes statics names hs (body_tree ss) ++ last_start names hs ss ∷ []
  starts_last names hs [] s = refl
  starts_last names hs (x ∷ ss) s =
      let start : Start = record { names = names; held = hs } in
      ap (λ starts. start ∷ starts) (starts_last (names_after (statement_tree x) names) (held_behind homes statics hs (statement_tree x)) ss s)

  pub starts_many : (names : List ℕ) (hs : List Holding) (ss : List Statement) → length (starts_of homes statics names hs (body_tree ss)) ≡ length ss
  starts_many names hs [] = refl
  starts_many names hs (x ∷ ss) =
      ap suc (starts_many (names_after (statement_tree x) names) (held_behind homes statics hs (statement_tree x)) ss)

  module _ (out again : List Bool) where
    -- what is loaded before the last one
    abbrev pub live_before : (names : List ℕ) → List Holding → List Bool → List Statement → Statement → List Bool
    live_before names hs after ss s = live_in homes statics (names_after_all (body_tree ss) names) (held_behind_all homes statics hs (body_tree ss))
        after out again (statement_tree s)

    abbrev pub saves_last_in : (names : List ℕ) → List Holding → List Bool → List Statement → Statement → List Bool
    saves_last_in names hs after ss s = saves_in homes statics (names_after_all (body_tree ss) names) (held_behind_all homes statics hs (body_tree ss))
        after out again (statement_tree s)

    pub live_last : (names : List ℕ) (hs : List Holding) (after : List Bool) (ss : List Statement) (s : Statement)
        → live_of homes statics names hs after out again (body_tree (ss ++ s ∷ []))
        ≡ live_of homes statics names hs (live_before names hs after ss s) out again (body_tree ss)
    live_last names hs after [] s = refl
    live_last names hs after (x ∷ ss) s =
        ap (λ bs. live_in homes statics names hs bs out again (statement_tree x))
        (live_last (names_after (statement_tree x) names) (held_behind homes statics hs (statement_tree x)) after ss s)

    pub saves_last : (names : List ℕ) (hs : List Holding) (after : List Bool) (ss : List Statement) (s : Statement)
        → saves_of homes statics names hs after out again (body_tree (ss ++ s ∷ []))
        ≡ saves_of homes statics names hs (live_before names hs after ss s) out again (body_tree ss) ++ saves_last_in names hs after ss s
    saves_last names hs after [] s = append-nil (saves_last_in names hs after [] s)
    saves_last names hs after (x ∷ ss) s =
        let names' = names_after (statement_tree x) names in
        let hs' = held_behind homes statics hs (statement_tree x) in
        let before = live_before names' hs' after ss s in
        (λ i. saves_in homes statics names hs (live_last names' hs' after ss s i) out again (statement_tree x) ++ saves_last names' hs' after ss s i) ∙
        sym (append_assoc (saves_in homes statics names hs (live_of homes statics names' hs' before out again (body_tree ss)) out again (statement_tree x))
        (saves_of homes statics names' hs' before out again (body_tree ss)) (saves_last_in names' hs' after ss s))

-- ---- places

-- what is at a place of the same block, by any names and what is known of temporaries
pub as_same : (u v : Surroundings) (hs : List Holding) (ns : List ℕ) → v ≡ holding hs (naming ns u) → v ≡ holding v.held (naming v.names u)
as_same u v hs ns e = e ∙ (λ i. holding (ap (λ (w : Surroundings). w.held) (sym e) i) (naming (ap (λ (w : Surroundings). w.names) (sym e) i) u))

-- and from there on to another one
pub same_there : (u v w : Surroundings) (hs : List Holding) (ns : List ℕ) → v ≡ holding v.held (naming v.names u) → w ≡ holding hs (naming ns v)
    → w ≡ holding hs (naming ns u)
same_there u v w hs ns e f = f ∙ ap (λ (x : Surroundings). holding hs (naming ns x)) e

-- one statement back: the place goes to where it begins
module _ (u place there : Surroundings) (out again : List Bool) (ss now : List Statement) (s : Statement) (start : Start)
    (same : place ≡ holding place.held (naming place.names u)) (go : there ≡ starting start place)
    (is : now ≡ ss ++ s ∷ []) where
  there_is : start ≡ last_start u.homes u.statics u.names u.held ss → there ≡ starting (last_start u.homes u.statics u.names u.held ss) u
  there_is e = same_there u place there start.held start.names same go ∙ ap (λ (t : Start). starting t u) e

  pub same_back : (behind : Surroundings) → behind ≡ holding behind.held (naming behind.names there)
      → behind ≡ holding behind.held (naming behind.names u)
  same_back behind e =
      same_there u there behind behind.held behind.names
      (as_same u there start.held start.names (same_there u place there start.held start.names same go)) e

  pub live_back : (before after : List Bool) → start ≡ last_start u.homes u.statics u.names u.held ss
      → after ≡ live_in there.homes there.statics there.names there.held before out again (statement_tree s)
      → live_of u.homes u.statics u.names u.held after out again (body_tree ss) ≡ live_of u.homes u.statics u.names u.held before out again (body_tree now)
  live_back before after e f =
      let at = there_is e in
      let after' = f ∙ (λ i. live_in ((at i).homes) ((at i).statics) ((at i).names) ((at i).held) before out again (statement_tree s)) in
      ap (λ bs. live_of u.homes u.statics u.names u.held bs out again (body_tree ss)) after' ∙
      sym (live_last u.homes u.statics out again u.names u.held before ss s) ∙
      ap (λ xs. live_of u.homes u.statics u.names u.held before out again (body_tree xs)) (sym is)

  pub saves_back : (before after old new : List Bool) → start ≡ last_start u.homes u.statics u.names u.held ss
      → after ≡ live_in there.homes there.statics there.names there.held before out again (statement_tree s)
      → new ≡ old ++ reverse (saves_in there.homes there.statics there.names there.held before out again (statement_tree s))
      → new ++ reverse (saves_of u.homes u.statics u.names u.held after out again (body_tree ss))
      ≡ old ++ reverse (saves_of u.homes u.statics u.names u.held before out again (body_tree now))
  saves_back before after old new e f g =
      let at = there_is e in
      let after' = f ∙ (λ i. live_in ((at i).homes) ((at i).statics) ((at i).names) ((at i).held) before out again (statement_tree s)) in
      let new' = g ∙ (λ i. old ++ reverse (saves_in ((at i).homes) ((at i).statics) ((at i).names) ((at i).held) before out again (statement_tree s))) in
      let last = saves_last_in u.homes u.statics out again u.names u.held before ss s in
      let rest = saves_of u.homes u.statics u.names u.held (live_before u.homes u.statics out again u.names u.held before ss s) out again (body_tree ss) in
      (λ i. new' i ++ reverse (saves_of u.homes u.statics u.names u.held (after' i) out again (body_tree ss))) ∙
      append_assoc old (reverse last) (reverse rest) ∙ ap (λ bs. old ++ bs) (sym (reverse-append rest last)) ∙
      ap (λ bs. old ++ reverse bs) (sym (saves_last u.homes u.statics out again u.names u.held before ss s)) ∙
      ap (λ xs. old ++ reverse (saves_of u.homes u.statics u.names u.held before out again (body_tree xs))) (sym is)
