-- What expressions are, beside what they do.
use Rattle.std.proofs.Common.{List, [], ap, false, length, map, refl, subst, sym, true, ◌∙◌, ◌∷◌, ◌≡◌}
use Rattle.std.specs.Prelude.{IfOk, Result, ◌==◌}
use Rattle.cyc_tree.specs.Tree.{Expression, Name}
use Rattle.cyc_tree.specs.View.{expression_tree, expressions_of, link_tree, links_of, suffix_tree, suffixes_of}
use Rattle.cyc_tree.specs.declared.expression.Expression as code
use Rattle.cyc_tree.specs.declared.expression.Link as code_link
use Rattle.cyc_tree.specs.declared.expression.Suffix as code_suffix
use Rattle.flow_summaries.specs.Expressions.{uses_of}
use Rattle.flow_summaries.specs.Passages.{Passage, unchanged}
use Rattle.flow_summaries.specs.Uses.{Uses, uses_as_value}
use Rattle.source_typing.specs.Calls.{called, target}
use Rattle.source_typing.specs.Expressions.{judge}
use Rattle.source_typing.specs.Scope.{Env, Value, meant}
use Rattle.check_faults.specs.Verdicts.{Is, Short, short_both, shortened}
use Rattle.check_expressions.proofs.Forms.{call_is, chain_is, given_from, judged, tests_is}
use Rattle.check_expressions.specs.Joined.{short_links, short_tests}
use Rattle.check_expressions.proofs.SuffixForms.{suffixed_is}
use Rattle.check_expressions.specs.Suffixes.{short_suffixes}
use Rattle.check_types.proofs.Places.{some_there}
use Rattle.flow_effects.specs.declared.used.Usage.{Usage}
use Rattle.flow_check.proofs.Forms.{call_uses, chain_uses, suffixed_uses, tests_joined}
use Rattle.flow_check.specs.Folded.{all_short_uses, passed_all, passed_links, passed_tests}
use Rattle.flow_check.specs.Seen.{IsSeen}
use Rattle.flow_check.specs.declared.seen.Seen.{Seen}

-- what is answered so far, with the rest, is all that is answered; and so is what is done
pub record AreAll (s all : Short Value) (p whole : Passage) : Type 0 where
  pub judged : s ≡ all
  pub passed : p ≡ whole

pub record AreGiven (s all : Short (List Value)) (p whole : Passage) : Type 0 where
  pub values : s ≡ all
  pub passed : p ≡ whole

module _ (g : Env) where
  -- an expression without parts, by which nothing is used
  pub idle_form : (e : code.Expression) (x : Expression) → expression_tree e ≡ x → uses_of g x ≡ uses_as_value unchanged
      → uses_of g (expression_tree e) ≡ uses_as_value unchanged
  idle_form e x is idle = ap (uses_of g) is ∙ idle

  -- operators of one level
  pub linked_same : (P : Short Value → Uses → Type 0) (e : code.Expression) (ls : List code_link.Link) (s : Short Value) (p : Passage)
      → (length ls == 0) ≡ false → s ≡ judged g e → p ≡ (uses_of g (expression_tree e)).look
      → P (short_links g s (links_of (map link_tree ls))) (uses_as_value (passed_links g p (links_of (map link_tree ls))))
      → P (shortened (judge g (Expression.Chain (expression_tree e) (links_of (map link_tree ls)))))
      (uses_of g (Expression.Chain (expression_tree e) (links_of (map link_tree ls))))
  linked_same P e ls s p some is looks k =
      subst (λ t. P t (uses_of g (Expression.Chain (expression_tree e) (links_of (map link_tree ls))))) (chain_is g e ls s is)
      (subst (λ u. P (short_links g s (links_of (map link_tree ls))) u)
      (ap (λ q. uses_as_value (passed_links g q (links_of (map link_tree ls)))) looks ∙ sym (chain_uses g (expression_tree e) ls some)) k)

  -- `&&`, and `||`, which is judged like it
  pub tested_same : (P : Short Value → Uses → Type 0) (e : code.Expression) (es : List code.Expression) (s : Short Value) (p : Passage)
      → (length es == 0) ≡ false → s ≡ judged g e → p ≡ (uses_of g (expression_tree e)).look
      → P (short_tests g s (expressions_of (map expression_tree es))) (uses_as_value (passed_tests g p (expressions_of (map expression_tree es))))
      → P (shortened (judge g (Expression.AllOf (expression_tree e) (expressions_of (map expression_tree es)))))
      (uses_of g (Expression.AllOf (expression_tree e) (expressions_of (map expression_tree es))))
  tested_same P e es s p some is looks k =
      subst (λ t. P t (uses_of g (Expression.AllOf (expression_tree e) (expressions_of (map expression_tree es))))) (tests_is g e es s is)
      (subst (λ u. P (short_tests g s (expressions_of (map expression_tree es))) u)
      (ap (λ q. uses_as_value (passed_tests g q (expressions_of (map expression_tree es)))) looks
      ∙ sym (tests_joined g (uses_of g (expression_tree e)) es some)) k)

  -- a call, by its arguments
  pub call_same : (P : Short Value → Uses → Type 0) (x : Name) (es : List code.Expression) (t : Short (List Value)) (p : Passage) → t ≡ given_from g (Is []) es
      → p ≡ passed_all g unchanged (expressions_of (map expression_tree es))
      → P (short_both (shortened (target x.at (meant g x.text))) t (λ t vs. shortened (called g x.at t vs))) (uses_as_value p)
      → P (shortened (judge g (Expression.Call x (expressions_of (map expression_tree es)))))
      (uses_of g (Expression.Call x (expressions_of (map expression_tree es))))
  call_same P x es t p are passed k =
      subst (λ s. P s (uses_of g (Expression.Call x (expressions_of (map expression_tree es)))))
      (call_is g x es (shortened (target x.at (meant g x.text))) t refl are)
      (subst (λ u. P (short_both (shortened (target x.at (meant g x.text))) t (λ t vs. shortened (called g x.at t vs))) u)
      (ap uses_as_value passed ∙ sym (call_uses g x (expressions_of (map expression_tree es)))) k)

module _ (g : Env) (how : Usage) where
  -- what is seen of an expression
  abbrev pub SeenAs : Expression → Seen → Type 0
  SeenAs x r = IsSeen how (shortened (judge g x)) (uses_of g x) r

  -- what a function answers of a phrase that it takes apart
  pub seen_told : {E : Type 0} (r : Result Seen E) (e : code.Expression) (x : Expression) → expression_tree e ≡ x
      → IfOk r (SeenAs x) → IfOk r (SeenAs (expression_tree e))
  seen_told r e x p h = subst (λ y. IfOk r (SeenAs y)) (sym p) h

  -- without suffixes it is what the primary is
  pub alone_seen : {E : Type 0} (r : Result Seen E) (e : Expression) (xs : List code_suffix.Suffix) → (length xs == 0) ≡ true
      → IfOk r (SeenAs e) → IfOk r (SeenAs (Expression.Suffixed e (suffixes_of (map suffix_tree xs))))
  alone_seen r e [] h k = k
  alone_seen r e (x ∷ xs) h k = absurd (some_there (length xs) h)

  pub alone_chain : {E : Type 0} (r : Result Seen E) (e : Expression) (ls : List code_link.Link) → (length ls == 0) ≡ true
      → IfOk r (SeenAs e) → IfOk r (SeenAs (Expression.Chain e (links_of (map link_tree ls))))
  alone_chain r e [] h k = k
  alone_chain r e (l ∷ ls) h k = absurd (some_there (length ls) h)

  pub alone_tests : {E : Type 0} (r : Result Seen E) (e : Expression) (es : List code.Expression) → (length es == 0) ≡ true
      → IfOk r (SeenAs e) → IfOk r (SeenAs (Expression.AllOf e (expressions_of (map expression_tree es))))
  alone_tests r e [] h k = k
  alone_tests r e (x ∷ es) h k = absurd (some_there (length es) h)

  pub suffixed_same : (P : Short Value → Uses → Type 0) (e : Expression) (xs : List code_suffix.Suffix)
      → P (short_suffixes g (shortened (judge g e)) (map suffix_tree xs)) (all_short_uses g (shortened (judge g e)) (uses_of g e) (map suffix_tree xs))
      → P (shortened (judge g (Expression.Suffixed e (suffixes_of (map suffix_tree xs)))))
      (uses_of g (Expression.Suffixed e (suffixes_of (map suffix_tree xs))))
  suffixed_same P e xs k =
      subst (λ s. P s (uses_of g (Expression.Suffixed e (suffixes_of (map suffix_tree xs))))) (suffixed_is g e xs (shortened (judge g e)) refl)
      (subst (λ u. P (short_suffixes g (shortened (judge g e)) (map suffix_tree xs)) u) (sym (suffixed_uses g e (map suffix_tree xs))) k)
