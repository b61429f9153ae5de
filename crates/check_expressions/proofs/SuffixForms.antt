-- What is answered of suffixes, one after another.
use Rattle.std.proofs.Common.{◌≡◌, ◌+◌, ◌<◌, ℕ, List, [], ◌∷◌, drop, get_or, length, map, refl, sym, ap, ◌∙◌}
use Rattle.std.proofs.lemmas.List.{drop_more}
use Rattle.cyc_tree.specs.Tree.{Expression}
use Rattle.cyc_tree.specs.View.{OneSuffix, name_tree, suffix_tree, suffixes_of}
use Rattle.std.specs.declared.alloc.Global.{Global}
use Rattle.std.specs.declared.boxed.Box.{Box}
use Rattle.cyc_tree.specs.declared.expression.Expression as code
use Rattle.cyc_tree.specs.declared.expression.Suffix as code_suffix
use Rattle.cyc_tree.specs.declared.expression.Suffix.TheVariants as form
use Rattle.cyc_tree.specs.declared.name.Name as code_name
use Rattle.cyc_tree.proofs.PartForms.{arrow_tree, dot_tree, index_tree}
use Rattle.check_expressions.proofs.Forms.{judged}
use Rattle.check_expressions.specs.Suffixes.{short_suffix, short_suffixes}
use Rattle.source_typing.specs.Expressions.{judge, judge_suffixes}
use Rattle.source_typing.specs.Places.{arrow, indexed, member}
use Rattle.source_typing.specs.Scope.{Env, Value}
use Rattle.source_typing.specs.Verdicts.{Verdict, after, both}
use Rattle.check_faults.proofs.Shortened.{shortened_after, shortened_both}
use Rattle.check_faults.specs.Verdicts.{Short, short_after, short_both, shortened}

module _ (g : Env) where
  pub dot_is : (s : Short Value) (x : code_suffix.Suffix) (f : code_name.Name) → x ≡ form.Dot f
      → short_after s (λ a. shortened (member g (name_tree f) a)) ≡ short_suffix g s (suffix_tree x)
  dot_is s x f h = sym (ap (λ x. short_suffix g s (suffix_tree x)) h ∙ ap (short_suffix g s) (dot_tree f))

  pub arrow_is : (s : Short Value) (x : code_suffix.Suffix) (f : code_name.Name) → x ≡ form.Arrow f
      → short_after s (λ a. shortened (arrow g (name_tree f) a)) ≡ short_suffix g s (suffix_tree x)
  arrow_is s x f h = sym (ap (λ x. short_suffix g s (suffix_tree x)) h ∙ ap (short_suffix g s) (arrow_tree f))

  pub index_is : (s t : Short Value) (x : code_suffix.Suffix) (e : Box code.Expression Global) → x ≡ form.Index e → t ≡ judged g e.value
      → short_both s t (λ a b. shortened (indexed g a b)) ≡ short_suffix g s (suffix_tree x)
  index_is s t x e h j =
      ap (λ u. short_both s u (λ a b. shortened (indexed g a b))) j
      ∙ sym (ap (λ x. short_suffix g s (suffix_tree x)) h ∙ ap (short_suffix g s) (index_tree e))

  abbrev pub suffixes_from : Short Value → List code_suffix.Suffix → Short Value
  suffixes_from s xs = short_suffixes g s (map suffix_tree xs)

  -- one more suffix
  pub suffixes_step : (xs : List code_suffix.Suffix) (i : ℕ) (x : code_suffix.Suffix) (s t : Short Value) → i < length xs → x ≡ get_or xs i x
      → t ≡ short_suffix g s (suffix_tree x) → suffixes_from t (drop (i + 1) xs) ≡ suffixes_from s (drop i xs)
  suffixes_step xs i x s t h is_item j =
      let next : drop i xs ≡ x ∷ drop (i + 1) xs = drop_more xs i x h ∙ ap (λ y. y ∷ drop (i + 1) xs) (sym is_item) in
      ap (λ u. suffixes_from u (drop (i + 1) xs)) j ∙ ap (λ l. suffixes_from s l) (sym next)

  -- the rules answer the same
  suffixes_are : (v : Verdict Value) (xs : List OneSuffix)
      → short_suffixes g (shortened v) xs ≡ shortened (judge_suffixes g v (suffixes_of xs))
  suffixes_are v [] = refl
  suffixes_are v (OneSuffix.Index e ∷ xs) =
      ap (λ s. short_suffixes g s xs) (sym (shortened_both v (judge g e) (indexed g)))
      ∙ suffixes_are (both v (judge g e) (indexed g)) xs
  suffixes_are v (OneSuffix.Dot f ∷ xs) =
      ap (λ s. short_suffixes g s xs) (sym (shortened_after v (member g f))) ∙ suffixes_are (after v (member g f)) xs
  suffixes_are v (OneSuffix.Arrow f ∷ xs) =
      ap (λ s. short_suffixes g s xs) (sym (shortened_after v (arrow g f))) ∙ suffixes_are (after v (arrow g f)) xs

  pub suffixed_is : (e : Expression) (xs : List code_suffix.Suffix) (s : Short Value) → s ≡ shortened (judge g e)
      → suffixes_from s xs ≡ shortened (judge g (Expression.Suffixed e (suffixes_of (map suffix_tree xs))))
  suffixed_is e xs s j = ap (λ u. suffixes_from u xs) j ∙ suffixes_are (judge g e) (map suffix_tree xs)
