-- What the forms of expressions do, by what their parts do.
use Rattle.std.proofs.Common.{Bool, List, [], ap, arith, false, length, map, sym, ◌≤◌, ◌∙◌, ◌∷◌, ◌≡◌}
use Rattle.std.specs.Prelude.{◌==◌}
use Rattle.std.proofs.lemmas.List.{length-map}
use Rattle.std.specs.Vec.{vec_len}
use Rattle.std.specs.declared.alloc.Global.{Global}
use Rattle.std.specs.declared.vec.Vec.{Vec}
use Rattle.cyc_tree.specs.Tree.{Expression, Expressions, Name}
use Rattle.cyc_tree.specs.View.{OneSuffix, expression_tree, expressions_of, link_tree, links_of, suffixes_of}
use Rattle.cyc_tree.specs.declared.expression.Expression as code
use Rattle.cyc_tree.specs.declared.expression.Link as code_link
use Rattle.cyc_tree.specs.declared.expression.Operator.{Operator}
use Rattle.cyc_tree.specs.declared.expression.Suffix as code_suffix
use Rattle.flow_summaries.specs.Expressions.{uses_links, uses_of, uses_tests}
use Rattle.flow_summaries.specs.Passages.{in_turn, in_turn_or_not, unchanged}
use Rattle.flow_summaries.specs.Uses.{Uses, uses_as_value}
use Rattle.source_typing.specs.Expressions.{judge}
use Rattle.source_typing.specs.Scope.{Env}
use Rattle.check_faults.specs.Verdicts.{shortened}
use Rattle.flow_check.proofs.Folds.{all_passed, links_after, suffixes_shortly, tests_after}
use Rattle.flow_check.specs.Folded.{all_short_uses, passed_all, passed_links, passed_tests}

-- whether a vector has items, from the test of its length
pub tested_length : {A : Type 0} (v : Vec A Global) (b : Bool) → b ≡ (vec_len v == 0) → (length v.items == 0) ≡ b
tested_length v b test = ap (λ n. n == 0) (sym v.ok.0) ∙ sym test

module _ (g : Env) where
  -- ---- operands, of which there is one at least

  links_joined : (u : Uses) (ls : List (Operator × Expression)) → (length ls == 0) ≡ false
      → uses_links g u (links_of ls) ≡ uses_as_value (passed_links g u.look (links_of ls))
  links_joined u [] h = absurd cc
  links_joined u ((o, e) ∷ ls) h = links_after g (in_turn u.look (uses_of g e).look) (links_of ls)

  pub chain_uses : (e : Expression) (ls : List code_link.Link) → (length ls == 0) ≡ false
      → uses_of g (Expression.Chain e (links_of (map link_tree ls))) ≡ uses_as_value (passed_links g (uses_of g e).look (links_of (map link_tree ls)))
  chain_uses e ls h = links_joined (uses_of g e) (map link_tree ls) (ap (λ n. n == 0) (length-map ls link_tree) ∙ h)

  pub tests_joined : (u : Uses) (es : List code.Expression) → (length es == 0) ≡ false
      → uses_tests g u (expressions_of (map expression_tree es)) ≡ uses_as_value (passed_tests g u.look (expressions_of (map expression_tree es)))
  tests_joined u [] h = absurd cc
  tests_joined u (e ∷ es) h = tests_after g (in_turn_or_not u.look (uses_of g (expression_tree e)).look) (expressions_of (map expression_tree es))

  -- ---- calls

  pub call_uses : (x : Name) (es : Expressions) → uses_of g (Expression.Call x es) ≡ uses_as_value (passed_all g unchanged es)
  call_uses x es = ap uses_as_value (sym (all_passed g es))

  -- ---- suffixes

  pub suffixed_uses : (e : Expression) (xs : List OneSuffix)
      → uses_of g (Expression.Suffixed e (suffixes_of xs)) ≡ all_short_uses g (shortened (judge g e)) (uses_of g e) xs
  suffixed_uses e xs = suffixes_shortly g (judge g e) (uses_of g e) xs

-- there is one
pub some_suffixes : (xs : List code_suffix.Suffix) → (length xs == 0) ≡ false → 1 ≤ length xs
some_suffixes [] h = absurd cc
some_suffixes (x ∷ xs) h = omega arith
