-- The code of an expression from that of its parts, by the names that a function has for these, and by the number of the next temporary object.
use Rattle.std.proofs.Common.{◌≡◌, ◌∙◌, ℕ, ◌+◌, refl, sym, ap, Bool, true, false, List, [], ◌∷◌, ◌++◌, length, append_assoc}
use Rattle.cyc_tree.specs.Tree.{Expression, Expressions, Links, Made, Suffixes}
use Rattle.source_meaning.specs.Expressions.{is_unique_region}
use Rattle.source_meaning.specs.Memory.{is_alone}
use Rattle.source_meaning.specs.Shapes.{Owner, Shape}
use Rattle.source_meaning.specs.Steps.{World}
use Rattle.core_meaning.specs.Core.{Do, HeapHandle}
use Rattle.source_lowering.specs.Lowered.{
  Named,
  all_code,
  all_values,
  any_code,
  conversion_code,
  expression_code,
  expression_values,
  link_values,
  links_code,
  new_code,
  new_values,
  owner_in,
  place_code,
  pointer_to,
  put_code,
  static_shape,
  store_to,
  truth_code,
  word_code,
}
use Rattle.source_lowering.specs.Members.{words_in}
use Rattle.lower_checks.specs.Reaching.{suffixed_left}

-- what is made with the unique region alone is unique
alone_in : (unique : Bool) → is_alone (owner_in unique) ≡ unique
alone_in true = refl
alone_in false = refl

module _ (w : World) (names : List Named) (d own : ℕ) (e : Expression) where
  pub chain_code : (first a : Expression) (others b : Links) (s : Shape) (n : ℕ) → e ≡ Expression.Chain first others → a ≡ first → b ≡ others
      → s ≡ static_shape w names a → n ≡ own + length (expression_values w names a)
      → expression_code w names e d own ≡ expression_code w names a d own ++ links_code w names b s d n
  chain_code first a others b s n e_is a_is b_is s_is n_is =
      ap (λ x. expression_code w names x d own) e_is
      ∙ ap (λ x. expression_code w names x d own ++ links_code w names others (static_shape w names x) d (own + length (expression_values w names x)))
      (sym a_is)
      ∙ ap (λ x. expression_code w names a d own ++ links_code w names x (static_shape w names a) d (own + length (expression_values w names a))) (sym b_is)
      ∙ ap (λ x. expression_code w names a d own ++ links_code w names b x d (own + length (expression_values w names a))) (sym s_is)
      ∙ ap (λ x. expression_code w names a d own ++ links_code w names b s d x) (sym n_is)

  pub all_of_code : (first a : Expression) (others b : Expressions) (s : Shape) (n : ℕ) → e ≡ Expression.AllOf first others → a ≡ first
      → b ≡ others → s ≡ static_shape w names a → n ≡ own + length (expression_values w names a)
      → expression_code w names e d own ≡ expression_code w names a d own ++ (word_code s d ++ (all_code w names b d n ++ truth_code d))
  all_of_code first a others b s n e_is a_is b_is s_is n_is =
      ap (λ x. expression_code w names x d own) e_is
      ∙ append_assoc (expression_code w names first d own) (word_code (static_shape w names first) d)
      (all_code w names others d (own + length (expression_values w names first)) ++ truth_code d)
      ∙ ap (λ x. expression_code w names x d own ++
      (word_code (static_shape w names x) d ++ (all_code w names others d (own + length (expression_values w names x)) ++ truth_code d))) (sym a_is)
      ∙ ap (λ x. expression_code w names a d own ++
      (word_code (static_shape w names a) d ++ (all_code w names x d (own + length (expression_values w names a)) ++ truth_code d))) (sym b_is)
      ∙ ap (λ x. expression_code w names a d own ++ (word_code x d ++ (all_code w names b d (own + length (expression_values w names a)) ++ truth_code d)))
      (sym s_is)
      ∙ ap (λ x. expression_code w names a d own ++ (word_code s d ++ (all_code w names b d x ++ truth_code d))) (sym n_is)

  pub any_of_code : (first a : Expression) (others b : Expressions) (s : Shape) (n : ℕ) → e ≡ Expression.AnyOf first others → a ≡ first
      → b ≡ others → s ≡ static_shape w names a → n ≡ own + length (expression_values w names a)
      → expression_code w names e d own ≡ expression_code w names a d own ++ (word_code s d ++ (any_code w names b d n ++ truth_code d))
  any_of_code first a others b s n e_is a_is b_is s_is n_is =
      ap (λ x. expression_code w names x d own) e_is
      ∙ append_assoc (expression_code w names first d own) (word_code (static_shape w names first) d)
      (any_code w names others d (own + length (expression_values w names first)) ++ truth_code d)
      ∙ ap (λ x. expression_code w names x d own ++
      (word_code (static_shape w names x) d ++ (any_code w names others d (own + length (expression_values w names x)) ++ truth_code d))) (sym a_is)
      ∙ ap (λ x. expression_code w names a d own ++
      (word_code (static_shape w names a) d ++ (any_code w names x d (own + length (expression_values w names a)) ++ truth_code d))) (sym b_is)
      ∙ ap (λ x. expression_code w names a d own ++ (word_code x d ++ (any_code w names b d (own + length (expression_values w names a)) ++ truth_code d)))
      (sym s_is)
      ∙ ap (λ x. expression_code w names a d own ++ (word_code s d ++ (any_code w names b d x ++ truth_code d))) (sym n_is)

  pub assign_code : (place a value b : Expression) (from : Shape) (n : ℕ) → e ≡ Expression.Assign place value → a ≡ place → b ≡ value
      → from ≡ static_shape w names b → n ≡ own + length (expression_values w names b)
      → expression_code w names e d own
      ≡ expression_code w names b d own ++ (conversion_code w (static_shape w names a) from d ++ put_code w names a d n)
  assign_code place a value b from n e_is a_is b_is from_is n_is =
      ap (λ x. expression_code w names x d own) e_is
      ∙ ap (λ x. expression_code w names value d own ++ (conversion_code w (static_shape w names x) (static_shape w names value) d ++
      put_code w names x d (own + length (expression_values w names value)))) (sym a_is)
      ∙ ap (λ x. expression_code w names x d own ++ (conversion_code w (static_shape w names a) (static_shape w names x) d ++
      put_code w names a d (own + length (expression_values w names x)))) (sym b_is)
      ∙ ap (λ x. expression_code w names b d own ++ (conversion_code w (static_shape w names a) x d ++
      put_code w names a d (own + length (expression_values w names b)))) (sym from_is)
      ∙ ap (λ x. expression_code w names b d own ++ (conversion_code w (static_shape w names a) from d ++ put_code w names a d x)) (sym n_is)

  pub new_in_code : (at : ℕ) (handle a : Expression) (new : Made) (owner : Owner) (n : ℕ) → e ≡ Expression.NewIn at handle new → a ≡ handle
      → owner ≡ owner_in (is_unique_region a) → n ≡ own + length (expression_values w names a)
      → expression_code w names e d own ≡ expression_code w names a d own ++ new_code w names (is_alone owner) new d n
  new_in_code at handle a new owner n e_is a_is owner_is n_is =
      ap (λ x. expression_code w names x d own) e_is
      ∙ ap (λ x. expression_code w names x d own ++ new_code w names (is_unique_region x) new d (own + length (expression_values w names x))) (sym a_is)
      ∙ ap (λ x. expression_code w names a d own ++ new_code w names x new d (own + length (expression_values w names a)))
      (sym (ap is_alone owner_is ∙ alone_in (is_unique_region a)))
      ∙ ap (λ x. expression_code w names a d own ++ new_code w names (is_alone owner) new d x) (sym n_is)

  -- of a primary expression with suffixes
  pub suffixed_is : (primary a : Expression) (suffixes b : Suffixes) → e ≡ Expression.Suffixed primary suffixes → a ≡ primary → b ≡ suffixes
      → e ≡ Expression.Suffixed a b
  suffixed_is primary a suffixes b e_is a_is b_is =
      e_is ∙ ap (λ x. Expression.Suffixed x suffixes) (sym a_is) ∙ ap (λ x. Expression.Suffixed a x) (sym b_is)

  pub suffixed_value : (primary : Expression) (suffixes : Suffixes) → e ≡ Expression.Suffixed primary suffixes
      → expression_code w names e d own ≡ (suffixed_left w names e own).value d
  suffixed_value _ _ e_is = ap (λ x. expression_code w names x d own) e_is ∙ ap (λ x. (suffixed_left w names x own).value d) (sym e_is)

  pub suffixed_place : (primary : Expression) (suffixes : Suffixes) → e ≡ Expression.Suffixed primary suffixes
      → place_code w names e d own ≡ pointer_to (suffixed_left w names e own) d
  suffixed_place _ _ e_is = ap (λ x. place_code w names x d own) e_is ∙ ap (λ x. pointer_to (suffixed_left w names x own) d) (sym e_is)

  pub suffixed_put : (primary : Expression) (suffixes : Suffixes) (s : Shape) (p : ℕ) → e ≡ Expression.Suffixed primary suffixes
      → s ≡ static_shape w names e → p ≡ d + words_in s → put_code w names e d own ≡ store_to (suffixed_left w names e own) p d
  suffixed_put primary suffixes s p e_is s_is p_is =
      ap (λ x. put_code w names x d own) e_is
      ∙ ap (λ x. store_to (suffixed_left w names (Expression.Suffixed primary suffixes) own) (d + words_in x) d) (sym (s_is ∙ ap (static_shape w names) e_is))
      ∙ ap (λ x. store_to (suffixed_left w names (Expression.Suffixed primary suffixes) own) x d) (sym p_is)
      ∙ ap (λ x. store_to (suffixed_left w names x own) p d) (sym e_is)

  pub new_heap_code : (at : ℕ) (new : Made) → e ≡ Expression.New at new
      → expression_code w names e d own ≡ (Do (HeapHandle d) ∷ []) ++ new_code w names false new d own
  new_heap_code at new e_is = ap (λ x. expression_code w names x d own) e_is

-- ---- the temporary objects of an expression from those of its parts

module _ (w : World) (names : List Named) (e : Expression) where
  pub chain_values : (first a : Expression) (others b : Links) → e ≡ Expression.Chain first others → a ≡ first → b ≡ others
      → expression_values w names e ≡ expression_values w names a ++ link_values w names b
  chain_values first a others b e_is a_is b_is =
      ap (expression_values w names) e_is ∙ ap (λ x. expression_values w names x ++ link_values w names others) (sym a_is)
      ∙ ap (λ x. expression_values w names a ++ link_values w names x) (sym b_is)

  pub all_of_values : (first a : Expression) (others b : Expressions) → e ≡ Expression.AllOf first others → a ≡ first → b ≡ others
      → expression_values w names e ≡ expression_values w names a ++ all_values w names b
  all_of_values first a others b e_is a_is b_is =
      ap (expression_values w names) e_is ∙ ap (λ x. expression_values w names x ++ all_values w names others) (sym a_is)
      ∙ ap (λ x. expression_values w names a ++ all_values w names x) (sym b_is)

  pub any_of_values : (first a : Expression) (others b : Expressions) → e ≡ Expression.AnyOf first others → a ≡ first → b ≡ others
      → expression_values w names e ≡ expression_values w names a ++ all_values w names b
  any_of_values first a others b e_is a_is b_is =
      ap (expression_values w names) e_is ∙ ap (λ x. expression_values w names x ++ all_values w names others) (sym a_is)
      ∙ ap (λ x. expression_values w names a ++ all_values w names x) (sym b_is)

  pub assign_values : (place a value b : Expression) → e ≡ Expression.Assign place value → a ≡ place → b ≡ value
      → expression_values w names e ≡ expression_values w names b ++ expression_values w names a
  assign_values place a value b e_is a_is b_is =
      ap (expression_values w names) e_is ∙ ap (λ x. expression_values w names value ++ expression_values w names x) (sym a_is)
      ∙ ap (λ x. expression_values w names x ++ expression_values w names a) (sym b_is)

  pub new_in_values : (at : ℕ) (handle a : Expression) (new : Made) → e ≡ Expression.NewIn at handle new → a ≡ handle
      → expression_values w names e ≡ expression_values w names a ++ new_values w names new
  new_in_values at handle a new e_is a_is =
      ap (expression_values w names) e_is ∙ ap (λ x. expression_values w names x ++ new_values w names new) (sym a_is)
