-- What is answered of the phrases that are judged in a loop, part by part.
use Rattle.std.specs.Prelude.{IfOk, Result, drop, get_or, length, map}
use Rattle.std.proofs.Common.{◌≡◌, ◌+◌, ◌<◌, ℕ, List, [], ◌∷◌, sym, ◌∙◌, ap, subst}
use Rattle.std.proofs.lemmas.List.{drop_more}
use Rattle.cyc_tree.specs.Tree.{Expression, Expressions, Name}
use Rattle.cyc_tree.specs.declared.expression.Expression as code
use Rattle.cyc_tree.specs.declared.expression.Link as code_link
use Rattle.cyc_tree.specs.View.{expression_tree, expressions_of, link_tree, links_of}
use Rattle.cyc_tree.proofs.Forms.{link_parts}
use Rattle.source_typing.specs.Calls.{Target, called, target, union_made, union_tag}
use Rattle.source_typing.specs.Expressions.{judge, judge_all}
use Rattle.cyc_tree.specs.declared.expression.Prefix.{Prefix}
use Rattle.source_typing.specs.Operators.{applied, counted, prefixed, tested_both}
use Rattle.source_typing.specs.Places.{assigned}
use Rattle.source_typing.specs.Scope.{Env, Value, meant}
use Rattle.check_faults.specs.Verdicts.{Is, Short, short_after, short_both, short_of, shortened}
use Rattle.check_faults.specs.declared.verdict.Verdict as verdict
use Rattle.check_operators.specs.Values.{value_of}
use Rattle.check_operators.specs.declared.value.Value as value
use Rattle.check_faults.proofs.Shortened.{shortened_after, shortened_both}
use Rattle.check_expressions.specs.Joined.{one_more, short_all, short_links, short_tests}
use Rattle.check_expressions.proofs.Joining.{all_are, links_are, tests_are}

module _ (g : Env) where
  abbrev pub judged : code.Expression → Short Value
  judged e = shortened (judge g (expression_tree e))

  -- what a function answers of a phrase that it takes apart
  pub of_form : {E : Type 0} (r : Result (verdict.Verdict value.Value) E) (e : code.Expression) (x : Expression) → expression_tree e ≡ x
      → IfOk r (λ v. short_of value_of v ≡ shortened (judge g x)) → IfOk r (λ v. short_of value_of v ≡ judged e)
  of_form r e x p k = subst (λ y. IfOk r (λ v. short_of value_of v ≡ shortened (judge g y))) (sym p) k

  pub answers : {E : Type 0} (r : Result (verdict.Verdict value.Value) E) (s t : Short Value) → s ≡ t
      → IfOk r (λ v. short_of value_of v ≡ s) → IfOk r (λ v. short_of value_of v ≡ t)
  answers r s t p k = subst (λ x. IfOk r (λ v. short_of value_of v ≡ x)) p k

  -- ---- one operand, and two

  pub prefixed_is : (at : ℕ) (o : Prefix) (e : code.Expression) (s : Short Value) → s ≡ judged e
      → short_after s (λ a. shortened (prefixed g at o a)) ≡ shortened (judge g (Expression.Prefixed at o (expression_tree e)))
  prefixed_is at o e s k =
      ap (λ u. short_after u (λ a. shortened (prefixed g at o a))) k ∙ sym (shortened_after (judge g (expression_tree e)) (prefixed g at o))

  pub assigned_is : (d e : code.Expression) (s t : Short Value) → s ≡ judged d → t ≡ judged e
      → short_both s t (λ a b. shortened (assigned g a b))
      ≡ shortened (judge g (Expression.Assign (expression_tree d) (expression_tree e)))
  assigned_is d e s t k l =
      ap (λ u. short_both u t (λ a b. shortened (assigned g a b))) k ∙ ap (λ u. short_both (judged d) u (λ a b. shortened (assigned g a b))) l
      ∙ sym (shortened_both (judge g (expression_tree d)) (judge g (expression_tree e)) (assigned g))

  -- ---- operands of operators

  abbrev pub links_from : Short Value → List code_link.Link → Short Value
  links_from s es = short_links g s (links_of (map link_tree es))

  pub links_step : (es : List code_link.Link) (i : ℕ) (e : code_link.Link) (s t : Short Value) → i < length es → e ≡ get_or es i e
      → t ≡ short_both s (judged e.operand) (λ a b. shortened (applied g e.operator a b))
      → links_from t (drop (i + 1) es) ≡ links_from s (drop i es)
  links_step es i e s t h is_item k =
      let next : drop i es ≡ e ∷ drop (i + 1) es = drop_more es i e h ∙ ap (λ y. y ∷ drop (i + 1) es) (sym is_item) in
      ap (λ u. links_from u (drop (i + 1) es)) k
      ∙ ap (λ p. short_links g s (links_of (p ∷ map link_tree (drop (i + 1) es)))) (sym (link_parts e))
      ∙ ap (λ l. links_from s l) (sym next)

  pub chain_is : (e : code.Expression) (es : List code_link.Link) (s : Short Value) → s ≡ judged e
      → links_from s es ≡ shortened (judge g (Expression.Chain (expression_tree e) (links_of (map link_tree es))))
  chain_is e es s k = ap (λ u. links_from u es) k ∙ sym (links_are g (judge g (expression_tree e)) (links_of (map link_tree es)))

  -- ---- operands of `&&` and `||`

  abbrev pub tests_from : Short Value → List code.Expression → Short Value
  tests_from s es = short_tests g s (expressions_of (map expression_tree es))

  pub tests_step : (es : List code.Expression) (i : ℕ) (e : code.Expression) (s t : Short Value) → i < length es → e ≡ get_or es i e
      → t ≡ short_both s (judged e) (λ a b. shortened (tested_both a b))
      → tests_from t (drop (i + 1) es) ≡ tests_from s (drop i es)
  tests_step es i e s t h is_item k =
      let next : drop i es ≡ e ∷ drop (i + 1) es = drop_more es i e h ∙ ap (λ y. y ∷ drop (i + 1) es) (sym is_item) in
      ap (λ u. tests_from u (drop (i + 1) es)) k ∙ ap (λ l. tests_from s l) (sym next)

  -- `||` is judged as `&&`
  pub tests_is : (e : code.Expression) (es : List code.Expression) (s : Short Value) → s ≡ judged e
      → tests_from s es ≡ shortened (judge g (Expression.AllOf (expression_tree e) (expressions_of (map expression_tree es))))
  tests_is e es s k = ap (λ u. tests_from u es) k ∙ sym (tests_are g (judge g (expression_tree e)) (expressions_of (map expression_tree es)))

  -- ---- arguments

  abbrev pub given_from : Short (List Value) → List code.Expression → Short (List Value)
  given_from s es = short_all g s (expressions_of (map expression_tree es))

  pub given_step : (es : List code.Expression) (i : ℕ) (e : code.Expression) (s t : Short (List Value)) → i < length es → e ≡ get_or es i e
      → t ≡ short_both s (judged e) one_more
      → given_from t (drop (i + 1) es) ≡ given_from s (drop i es)
  given_step es i e s t h is_item k =
      let next : drop i es ≡ e ∷ drop (i + 1) es = drop_more es i e h ∙ ap (λ y. y ∷ drop (i + 1) es) (sym is_item) in
      ap (λ u. given_from u (drop (i + 1) es)) k ∙ ap (λ l. given_from s l) (sym next)

  pub call_is : (name : Name) (es : List code.Expression) (s : Short Target) (t : Short (List Value))
      → s ≡ shortened (target name.at (meant g name.text)) → t ≡ given_from (Is []) es
      → short_both s t (λ u vs. shortened (called g name.at u vs))
      ≡ shortened (judge g (Expression.Call name (expressions_of (map expression_tree es))))
  call_is name es s t k l =
      let os : Expressions = expressions_of (map expression_tree es) in
      ap (λ u. short_both u t (λ u vs. shortened (called g name.at u vs))) k
      ∙ ap (λ u. short_both (shortened (target name.at (meant g name.text))) u (λ u vs. shortened (called g name.at u vs))) (l ∙ sym (all_are g os))
      ∙ sym (shortened_both (target name.at (meant g name.text)) (judge_all g os) (called g name.at))

  -- ---- values of unions, and counts of elements

  pub union_is : (tag f : Name) (e : code.Expression) (s : Short Value) → s ≡ judged e
      → short_both (shortened (union_tag tag f (meant g tag.text))) s (λ m a. shortened (union_made g tag.at m a))
      ≡ shortened (judge g (Expression.MakeUnion tag f (expression_tree e)))
  union_is tag f e s k =
      ap (λ u. short_both (shortened (union_tag tag f (meant g tag.text))) u (λ m a. shortened (union_made g tag.at m a))) k
      ∙ sym (shortened_both (union_tag tag f (meant g tag.text)) (judge g (expression_tree e)) (union_made g tag.at))

  pub counted_is : (at : ℕ) (e : code.Expression) (s : Short Value) → s ≡ judged e
      → short_after s (λ a. shortened (counted at a)) ≡ shortened (judge g (Expression.NumElts at (expression_tree e)))
  counted_is at e s k = ap (λ u. short_after u (λ a. shortened (counted at a))) k ∙ sym (shortened_after (judge g (expression_tree e)) (counted at))
