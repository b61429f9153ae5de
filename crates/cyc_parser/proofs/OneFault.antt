-- Tokens that are refused have one fault: none have a token that no program has there, and one that is too deep besides.
use Rattle.std.proofs.Common.{◌≡◌, ◌<◌, ◌^◌, ℕ, [], ◌∷◌, ◌++◌, Some, sym, ap, subst, ◌∙◌, append_assoc, arith, inl, inr}
use Rattle.cyc_lexer.specs.Lexing.{Token}
use Rattle.cyc_tree.specs.Depths.{too_deep_at}
use Rattle.source_grammar.specs.Phrases.{Tokens}
use Rattle.source_grammar.specs.Grammar.{IsProgram}
use Rattle.cyc_parser.specs.Refusals.{BeginAProgram, GoNoFurther, StandsIn, IsUnexpectedAt, AreWithin, IsUnexpectedFirst, IsTooDeepAt}
use Rattle.cyc_parser.specs.Exact.{nowhere, AreMadeUp}
use Rattle.cyc_parser.proofs.OnePlace.{Longer, cut, no_longer}
use Rattle.cyc_parser.proofs.WholePrograms.{made_up_ending}

-- tokens that are made up stand nowhere
made_up_at : (before : Tokens) (next : Token) (others : Tokens) → AreMadeUp (before ++ next ∷ others) → next.at ≡ nowhere
made_up_at [] next others made_up = made_up.0
made_up_at (t ∷ before) next others made_up = made_up_at before next others made_up.1

stands_nowhere : (at : ℕ) (tokens : Tokens) → AreMadeUp tokens → StandsIn at tokens → at ≡ nowhere
stands_nowhere at tokens made_up (before, next, others, parts, place) =
    place ∙ made_up_at before next others (subst AreMadeUp parts made_up)

module _ (tokens : Tokens) (at other : ℕ) (here : IsUnexpectedAt tokens at) (within : AreWithin here.front) (deep : IsTooDeepAt tokens other) where
  -- one and the same token isn't both, since with the one that is too deep the tokens begin a program
  not_same : here.front ≡ deep.front → here.rest ≡ deep.next ∷ deep.others → ⊥
  not_same fronts rests =
      let stops : GoNoFurther here.front (deep.next ∷ deep.others) = subst (GoNoFurther here.front) rests here.no_further in
      stops (subst (λ (x : Tokens). BeginAProgram (x ++ deep.next ∷ [])) (sym fronts) deep.begins)

  -- nor does one that is too deep stand behind the unexpected one
  not_behind : Longer here.front deep.front here.rest (deep.next ∷ deep.others) → ⊥
  not_behind longer =
      let begun : BeginAProgram deep.front = (
        deep.begins.0,
        deep.next ∷ deep.begins.1,
        subst (IsProgram deep.begins.0) (append_assoc deep.front (deep.next ∷ []) deep.begins.1) deep.begins.2,
      ) in
      no_longer here.front here.rest deep.front (deep.next ∷ deep.others) here.no_further begun longer

  -- One that stands before it would be the first that is too deep in the program that made-up tokens complete, and that one is among these.
  not_before : Longer deep.front here.front (deep.next ∷ deep.others) here.rest → other ≡ nowhere
  not_before (t, more, longer, rest) =
      let made = made_up_ending here.front here.begins in
      let same : t ≡ deep.next = cc in
      let whole : here.front ++ made.1 ≡ deep.front ++ deep.next ∷ (more ++ made.1) =
      ap (λ (x : Tokens). x ++ made.1) longer ∙ append_assoc deep.front (t ∷ more) made.1
      ∙ ap (λ (x : Token). deep.front ++ x ∷ (more ++ made.1)) same in
      let first : too_deep_at made.0 ≡ Some other = deep.first made.0 (more ++ made.1) (subst (IsProgram made.0) whole made.2) in
      stands_nowhere other made.1 made.3 (within made.0 made.1 other made.2 first)

-- no tokens have both faults
pub one_fault : (tokens : Tokens) (at other : ℕ) → IsUnexpectedFirst tokens at → IsTooDeepAt tokens other → other < 2 ^ 32 → ⊥
one_fault tokens at other (here, within) deep bound =
    elim (cut here.front here.rest deep.front (deep.next ∷ deep.others) (sym here.parts ∙ deep.parts)) [
      | inl same ↦ not_same tokens at other here within deep same.0 same.1
      | inr (inl longer) ↦ not_behind tokens at other here within deep longer
      | inr (inr longer) ↦ let past : other ≡ 2 ^ 32 = not_before tokens at other here within deep longer in omega (arith, past, bound)
    ]
