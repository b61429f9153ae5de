-- One more part of a phrase whose parts come one after another.
use Rattle.std.proofs.Common.{List, ap, ap₂, drop, get_or, length, map, sym, ℕ, ◌+◌, ◌<◌, ◌∙◌, ◌∷◌, ◌≡◌}
use Rattle.cyc_tree.proofs.Forms.{link_parts}
use Rattle.cyc_tree.specs.View.{expression_tree, expressions_of, link_tree, links_of, suffix_tree}
use Rattle.cyc_tree.specs.declared.expression.Expression as code
use Rattle.cyc_tree.specs.declared.expression.Link as code_link
use Rattle.cyc_tree.specs.declared.expression.Suffix as code_suffix
use Rattle.flow_summaries.specs.Expressions.{uses_of}
use Rattle.flow_summaries.specs.Passages.{Passage, in_turn, in_turn_or_not}
use Rattle.flow_summaries.specs.Uses.{Uses}
use Rattle.source_typing.specs.Scope.{Env, Value}
use Rattle.check_faults.specs.Verdicts.{Short}
use Rattle.check_expressions.specs.Suffixes.{short_suffix}
use Rattle.check_tables.proofs.Items.{next_of}
use Rattle.flow_check.specs.Folded.{all_short_uses, passed_all, passed_links, passed_tests, short_uses}

module _ (g : Env) where
  abbrev all_from : Passage → List code.Expression → Passage
  all_from p es = passed_all g p (expressions_of (map expression_tree es))

  pub all_step : (es : List code.Expression) (i : ℕ) (e : code.Expression) (p q : Passage) → i < length es → e ≡ get_or es i e
      → q ≡ in_turn p (uses_of g (expression_tree e)).value
      → passed_all g q (expressions_of (map expression_tree (drop (i + 1) es)))
      ≡ passed_all g p (expressions_of (map expression_tree (drop i es)))
  all_step es i e p q h is_item same = ap (λ u. all_from u (drop (i + 1) es)) same ∙ ap (all_from p) (sym (next_of es i e h is_item))

  abbrev tests_from : Passage → List code.Expression → Passage
  tests_from p es = passed_tests g p (expressions_of (map expression_tree es))

  pub tests_step : (es : List code.Expression) (i : ℕ) (e : code.Expression) (p q : Passage) → i < length es → e ≡ get_or es i e
      → q ≡ in_turn_or_not p (uses_of g (expression_tree e)).look
      → passed_tests g q (expressions_of (map expression_tree (drop (i + 1) es)))
      ≡ passed_tests g p (expressions_of (map expression_tree (drop i es)))
  tests_step es i e p q h is_item same = ap (λ u. tests_from u (drop (i + 1) es)) same ∙ ap (tests_from p) (sym (next_of es i e h is_item))

  abbrev links_from : Passage → List code_link.Link → Passage
  links_from p ls = passed_links g p (links_of (map link_tree ls))

  pub links_step : (ls : List code_link.Link) (i : ℕ) (l : code_link.Link) (p q : Passage) → i < length ls → l ≡ get_or ls i l
      → q ≡ in_turn p (uses_of g (expression_tree l.operand)).look
      → passed_links g q (links_of (map link_tree (drop (i + 1) ls))) ≡ passed_links g p (links_of (map link_tree (drop i ls)))
  links_step ls i l p q h is_item same =
      ap (λ u. links_from u (drop (i + 1) ls)) same
      ∙ ap (λ o. passed_links g p (links_of (o ∷ map link_tree (drop (i + 1) ls)))) (sym (link_parts l))
      ∙ ap (links_from p) (sym (next_of ls i l h is_item))

  pub suffixes_step : (xs : List code_suffix.Suffix) (i : ℕ) (x : code_suffix.Suffix) (s t : Short Value) (u v : Uses) → i < length xs → x ≡ get_or xs i x
      → t ≡ short_suffix g s (suffix_tree x) → v ≡ short_uses g s u (suffix_tree x)
      → all_short_uses g t v (map suffix_tree (drop (i + 1) xs)) ≡ all_short_uses g s u (map suffix_tree (drop i xs))
  suffixes_step xs i x s t u v h is_item judged used =
      ap₂ (λ a b. all_short_uses g a b (map suffix_tree (drop (i + 1) xs))) judged used
      ∙ ap (λ ys. all_short_uses g s u (map suffix_tree ys)) (sym (next_of xs i x h is_item))
