-- What stands after a suffix, by what stands before it.
use Rattle.std.proofs.Common.{Bool, List, [], ap, ap₂, drop, false, get_or, length, map, not, refl, subst, sym, ◌+◌, ◌<◌, ◌∙◌, ◌∷◌, ◌≡◌, ℕ}
use Rattle.std.specs.Prelude.{◌&&◌}
use Rattle.cyc_tree.specs.Tree.{Expression, Name}
use Rattle.cyc_tree.specs.View.{OneSuffix, suffix_tree}
use Rattle.cyc_tree.specs.declared.expression.Suffix as code_suffix
use Rattle.flow_summaries.specs.Expressions.{uses_of}
use Rattle.flow_summaries.specs.Passages.{Passage, copied_if, in_turn}
use Rattle.flow_summaries.specs.Uses.{Uses, uses_as_place}
use Rattle.source_typing.specs.Scope.{Env, Value}
use Rattle.check_faults.specs.Verdicts.{Short, short_of}
use Rattle.check_expressions.proofs.SuffixForms as suffix_forms
use Rattle.check_expressions.specs.Suffixes.{short_suffix, short_suffixes}
use Rattle.check_operators.specs.Values.{value_of}
use Rattle.flow_effects.specs.Passed.{passage_of}
use Rattle.flow_effects.specs.Used.{IsUsed}
use Rattle.flow_effects.specs.declared.used.Usage.TheVariants as usage
use Rattle.flow_effects.specs.declared.used.Usage.{Usage}
use Rattle.flow_check.proofs.Steps.{suffixes_step}
use Rattle.flow_check.specs.Folded.{all_short_uses, short_uses}
use Rattle.flow_check.specs.Seen.{IsSeen}
use Rattle.flow_check.specs.Short.{is_moved_short, is_unique_short, place_short}
use Rattle.flow_check.specs.Suffixed.{IsSuffixed}
use Rattle.flow_check.specs.declared.seen.Seen.{Seen}
use Rattle.flow_check.specs.declared.suffixed.Suffixed.{Suffixed}

same_suffixed : (s t : Short Value) (u v : Uses) (r : Suffixed) → s ≡ t → u ≡ v → IsSuffixed s u r → IsSuffixed t v r
same_suffixed s t u v r e f h = subst (λ y. IsSuffixed t y r) f (subst (λ x. IsSuffixed x u r) e h)

-- a place by its parts
same_place : (g : Env) (at bt : ℕ) (s t : Short Value) (a b : Bool) (p q : Passage) → at ≡ bt → s ≡ t → a ≡ b → p ≡ q
    → uses_as_place at (is_moved_short g s) a p ≡ uses_as_place bt (is_moved_short g t) b q
same_place g at bt s t a b p q e f h i = λ j. uses_as_place (e j) (is_moved_short g (f j)) (h j) (i j)

module _ (g : Env) (s t : Short Value) (u : Uses) (r : Suffixed) (x : OneSuffix) (at : ℕ) (own : Bool) (p : Passage) where
  pub after_index : (e : Expression) → x ≡ OneSuffix.Index e → at ≡ place_short s → t ≡ short_suffix g s (OneSuffix.Index e)
      → own ≡ (u.own && not (is_unique_short s))
      → p ≡ in_turn (uses_of g e).look (in_turn u.look (copied_if (is_unique_short s && not u.whole) (place_short s)))
      → IsSuffixed t (uses_as_place at (is_moved_short g t) own p) r
      → IsSuffixed (short_suffix g s x) (short_uses g s u x) r
  after_index e is place judged owned passes h =
      same_suffixed t (short_suffix g s x) (uses_as_place at (is_moved_short g t) own p) (short_uses g s u x) r (judged ∙ ap (short_suffix g s) (sym is))
      (same_place g at (place_short s) t (short_suffix g s (OneSuffix.Index e)) own (u.own && not (is_unique_short s)) p
      (in_turn (uses_of g e).look (in_turn u.look (copied_if (is_unique_short s && not u.whole) (place_short s)))) place judged owned passes
      ∙ ap (short_uses g s u) (sym is)) h

  pub after_dot : (f : Name) → x ≡ OneSuffix.Dot f → at ≡ place_short s → t ≡ short_suffix g s (OneSuffix.Dot f) → own ≡ u.own → p ≡ u.look
      → IsSuffixed t (uses_as_place at (is_moved_short g t) own p) r → IsSuffixed (short_suffix g s x) (short_uses g s u x) r
  after_dot f is place judged owned passes h =
      same_suffixed t (short_suffix g s x) (uses_as_place at (is_moved_short g t) own p) (short_uses g s u x) r (judged ∙ ap (short_suffix g s) (sym is))
      (same_place g at (place_short s) t (short_suffix g s (OneSuffix.Dot f)) own u.own p u.look place judged owned passes
      ∙ ap (short_uses g s u) (sym is)) h

  pub after_arrow : (f : Name) → x ≡ OneSuffix.Arrow f → at ≡ place_short s → t ≡ short_suffix g s (OneSuffix.Arrow f) → own ≡ false
      → p ≡ in_turn u.look (copied_if (is_unique_short s && not u.whole) (place_short s))
      → IsSuffixed t (uses_as_place at (is_moved_short g t) own p) r → IsSuffixed (short_suffix g s x) (short_uses g s u x) r
  after_arrow f is place judged owned passes h =
      same_suffixed t (short_suffix g s x) (uses_as_place at (is_moved_short g t) own p) (short_uses g s u x) r (judged ∙ ap (short_suffix g s) (sym is))
      (same_place g at (place_short s) t (short_suffix g s (OneSuffix.Arrow f)) own false p
      (in_turn u.look (copied_if (is_unique_short s && not u.whole) (place_short s))) place judged owned passes
      ∙ ap (short_uses g s u) (sym is)) h

-- ---- suffixes, one after another

-- what stands after some suffixes, and the other ones, are the whole
pub record Rest (g : Env) (c : Suffixed) (xs : List OneSuffix) (what : Short Value) (all : Uses) : Type 0 where
  pub part : c.look.whole ≡ false
  pub judged : short_suffixes g (short_of value_of c.judged) xs ≡ what
  pub same : all_short_uses g (short_of value_of c.judged) (uses_as_place c.at c.moves c.look.own (passage_of c.look.passed)) xs ≡ all

pub after_first : (g : Env) (s : Short Value) (u : Uses) (r : Suffixed) (x : code_suffix.Suffix) (xs all : List code_suffix.Suffix) → all ≡ x ∷ xs
    → IsSuffixed (short_suffix g s (suffix_tree x)) (short_uses g s u (suffix_tree x)) r
    → Rest g r (map suffix_tree xs) (short_suffixes g s (map suffix_tree all)) (all_short_uses g s u (map suffix_tree all))
after_first g s u r x xs all is h = record {
  part = h.part;
  judged = ap (λ t. short_suffixes g t (map suffix_tree xs)) h.judged ∙ ap (λ ys. short_suffixes g s (map suffix_tree ys)) (sym is);
  same = ap₂ (λ a b. all_short_uses g a b (map suffix_tree xs)) h.judged (sym h.uses) ∙ ap (λ ys. all_short_uses g s u (map suffix_tree ys)) (sym is);
}

-- what is looked at, as it is
pub looked_is : (c : Suffixed) → c.look.whole ≡ false → IsUsed usage.Look (uses_as_place c.at c.moves c.look.own (passage_of c.look.passed)) c.look
looked_is c h = record { passed = refl; whole = h; own = refl }

pub after_next : (g : Env) (c r : Suffixed) (xs : List code_suffix.Suffix) (i : ℕ) (x : code_suffix.Suffix) (what : Short Value) (all : Uses)
    → i < length xs → x ≡ get_or xs i x
    → Rest g c (map suffix_tree (drop i xs)) what all
    → IsSuffixed (short_suffix g (short_of value_of c.judged) (suffix_tree x))
    (short_uses g (short_of value_of c.judged) (uses_as_place c.at c.moves c.look.own (passage_of c.look.passed)) (suffix_tree x)) r
    → Rest g r (map suffix_tree (drop (i + 1) xs)) what all
after_next g c r xs i x what all l is_item h one = record {
  part = one.part;
  judged = suffix_forms.suffixes_step g xs i x (short_of value_of c.judged) (short_of value_of r.judged) l is_item one.judged ∙ h.judged;
  same = suffixes_step g xs i x (short_of value_of c.judged) (short_of value_of r.judged)
      (uses_as_place c.at c.moves c.look.own (passage_of c.look.passed)) (uses_as_place r.at r.moves r.look.own (passage_of r.look.passed)) l is_item one.judged
      (sym one.uses) ∙ h.same;
}

-- after the last one
pub after_all : (g : Env) (how : Usage) (c : Suffixed) (r : Seen) (what : Short Value) (all : Uses) → Rest g c [] what all
    → ((s : Short Value) (u : Uses) → IsSuffixed s u c → IsSeen how s u r) → IsSeen how what all r
after_all g how c r what all h seen =
    let s : Short Value = short_of value_of c.judged in
    let u : Uses = uses_as_place c.at c.moves c.look.own (passage_of c.look.passed) in
    subst (λ x. IsSeen how x all r) h.judged
    (subst (λ v. IsSeen how s v r) h.same (seen s u record { judged = refl; uses = refl; part = h.part }))
