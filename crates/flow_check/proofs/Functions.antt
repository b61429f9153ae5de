-- In which states parameters begin as locals of a body.
use Rattle.std.proofs.Common.{List, [], ap, append-nil, false, length, map, sym, true, ◌++◌, ◌∙◌, ◌∷◌, ◌≡◌}
use Rattle.std.specs.Prelude.{Bool, None, Some, if◌then◌else◌, reverse}
use Rattle.std.proofs.lemmas.List.{length-map, length-reverse, map-append, reverse-append}
use Rattle.cyc_tree.specs.Tree as tree
use Rattle.source_typing.specs.Left.{added_by, begins_as, states_at}
use Rattle.source_typing.specs.Scope.{Env, Local, is_second, with_local}
use Rattle.source_typing.specs.States.{States}
use Rattle.source_typing.specs.Tables.{What}
use Rattle.flow_summaries.specs.Passages.{Faults, found_in}
use Rattle.flow_effects.specs.Passed.{added_of, state_of}
use Rattle.flow_effects.specs.declared.passed.Begun.{Begun}
use Rattle.flow_check.proofs.Adding.{none_added, one_added}

-- ---- one local more, or none

-- what was there before comes after what it adds
pub states_added : (x : tree.Name) (w : What) (g : Env) → states_at (with_local x w g) ≡ added_by g (with_local x w g) ++ states_at g
states_added x w g = by (is_second g.locals g.block x.text) (record { name = x.text; what = w; block = g.block })
  where
    by : (t : Bool) (l : Local)
        → states_at (if t then g else record g { locals = l ∷ g.locals }) ≡ added_by g (if t then g else record g { locals = l ∷ g.locals }) ++ states_at g
    by true l = ap (λ s. s ++ states_at g) (sym (none_added g g.locals))
    by false l = ap (λ s. s ++ states_at g) (sym (one_added g l g.locals))

-- ---- the states so far

module _ (bs : List Begun) (before : States) where
  -- no local more
  pub none_begun : (outer inside : Env) → reverse (map state_of bs) ++ before ≡ states_at outer → added_of None ≡ added_by outer inside
      → states_at inside ≡ added_by outer inside ++ states_at outer → reverse (map state_of bs) ++ before ≡ states_at inside
  none_begun outer inside e a h = e ∙ ap (λ s. s ++ states_at outer) a ∙ sym h

  -- one more, which comes first
  pub one_begun : (b : Begun) (outer inside : Env) → reverse (map state_of bs) ++ before ≡ states_at outer → added_of (Some b) ≡ added_by outer inside
      → states_at inside ≡ added_by outer inside ++ states_at outer → reverse (map state_of (bs ++ b ∷ [])) ++ before ≡ states_at inside
  one_begun b outer inside e a h =
      ap (λ s. s ++ before) (ap reverse (map-append state_of bs (b ∷ [])) ∙ reverse-append (map state_of bs) (state_of b ∷ []))
      ∙ ap (λ s. state_of b ∷ s) e
      ∙ ap (λ s. s ++ states_at outer) a
      ∙ sym h

-- where a body begins, only parameters are in scope
pub found_begun : (bs : List Begun) (g : Env) (f h : Faults) → reverse (map state_of bs) ++ [] ≡ states_at g → f ≡ h
    → found_in (length bs) f (reverse (map state_of bs)) ≡ found_in (length g.locals) h (states_at g)
found_begun bs g f h e same =
    let s : States = reverse (map state_of bs) in
    let begins : s ≡ states_at g = sym (append-nil s) ∙ e in
    let counted : length bs ≡ length g.locals =
    sym (length-map bs state_of) ∙ sym (length-reverse (map state_of bs)) ∙ ap length begins ∙ length-map g.locals (λ l. begins_as g l.what) in
    λ j. found_in (counted j) (same j) (begins j)
