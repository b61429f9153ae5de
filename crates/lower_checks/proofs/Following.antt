-- What is written of an expression with suffixes: the indices, then the primary behind them, and then what is behind the first suffix.
use Rattle.std.proofs.Common.{◌≡◌, ◌∙◌, ◌+◌, ◌-◌, ℕ, arith, sym, ap, subst, List, [], ◌∷◌, ◌++◌, length, map}
use Rattle.cyc_tree.specs.Tree.{Expression, Suffixes}
use Rattle.cyc_tree.specs.View.{OneSuffix, suffixes_of}
use Rattle.source_meaning.specs.Steps.{World}
use Rattle.source_lowering.specs.Lowered.{Named, expression_code, expression_values, left_of, place_code, static_shape, suffix_values}
use Rattle.lower_checks.specs.Reaching.{Place, first_code, further_code, further_place, indices_code, indices_in, place_at_once, suffixed_left}
use Rattle.lower_checks.specs.Views.{shape_tree}
use Rattle.lower_checks.specs.Writing.{IsEmitted, IsWritten, code_of, next_of, values_of}
use Rattle.lower_checks.specs.declared.body.Body.{Body}
use Rattle.lower_checks.proofs.Lists.{then_of}
use Rattle.lower_checks.proofs.Suffixes.{indices_behind, indices_count, suffixed_whole, values_behind}
use Rattle.lower_checks.proofs.Writing.{next_is, write_write}

module _ (w : World) (names : List Named) (one : OneSuffix) (rest : List OneSuffix) where
  -- one more index is written behind those after it
  pub index_written : (a b z : Body) (d to : ℕ) (all : Suffixes) → all ≡ suffixes_of rest → to ≡ d + indices_in all
      → IsWritten a b (indices_code w names all d (next_of a)) (suffix_values w names all)
      → IsWritten b z (indices_code w names (suffixes_of (one ∷ [])) to (next_of b)) (suffix_values w names (suffixes_of (one ∷ [])))
      → IsWritten a z (indices_code w names (suffixes_of (one ∷ rest)) d (next_of a)) (suffix_values w names (suffixes_of (one ∷ rest)))
  index_written a b z d to all all_is to_is first second =
      let own = next_of a in
      let others = suffixes_of rest in
      let single = suffixes_of (one ∷ []) in
      let code = indices_code w names others d own in
      let values = suffix_values w names others in
      let here : IsWritten a b code values = subst (λ ss. IsWritten a b (indices_code w names ss d own) (suffix_values w names ss)) all_is first in
      let at_is : to ≡ d + indices_in others = to_is ∙ ap (λ ss. d + indices_in ss) all_is in
      write_write a b z code (indices_code w names single to (next_of b)) (indices_code w names (suffixes_of (one ∷ rest)) d own) values
      (suffix_values w names single) (suffix_values w names (suffixes_of (one ∷ rest))) here second
      (indices_behind w names one rest d own ∙ ap (λ n. code ++ indices_code w names single n (own + length values)) (sym at_is)
      ∙ ap (λ n. code ++ indices_code w names single to n) (sym (next_is a b code values here)))
      (values_behind w names one rest)

  -- the temporary of the pointer behind the first suffix
  pub pointer_at : (d behind pointer : ℕ) (all : Suffixes) → all ≡ suffixes_of (one ∷ rest) → behind ≡ d + indices_in all
      → pointer ≡ behind - indices_in (suffixes_of (one ∷ [])) → pointer ≡ d + indices_in (suffixes_of rest)
  pointer_at d behind pointer all all_is behind_is pointer_is =
      let every : behind ≡ d + indices_in (suffixes_of (one ∷ rest)) = behind_is ∙ ap (λ ss. d + indices_in ss) all_is in
      omega (arith, every, pointer_is, indices_count one rest)

  pub suffixed_written : (x e : Expression) (a i f z : Body) (d behind pointer : ℕ) (start : Place) (all : Suffixes)
      → x ≡ Expression.Suffixed e (suffixes_of (one ∷ rest)) → all ≡ suffixes_of (one ∷ rest) → behind ≡ d + indices_in all
      → pointer ≡ behind - indices_in (suffixes_of (one ∷ []))
      → start ≡ further_place w (suffixes_of (one ∷ [])) (place_at_once (static_shape w names e))
      → IsWritten a i (indices_code w names all d (next_of a)) (suffix_values w names all)
      → IsWritten i f (first_code w (suffixes_of (one ∷ []))
      (left_of (static_shape w names e) (λ t. expression_code w names e t (next_of i)) (λ t. place_code w names e t (next_of i))) behind)
      (expression_values w names e)
      → IsEmitted f z (further_code w (suffixes_of rest) start pointer)
      → IsWritten a z ((suffixed_left w names x (next_of a)).pointer d) (expression_values w names x)
  suffixed_written x e a i f z d behind pointer start all x_is all_is behind_is pointer_is start_is two three four =
      let own = next_of a in
      let every = suffixes_of (one ∷ rest) in
      let values = suffix_values w names every in
      let indices : IsWritten a i (indices_code w names every d own) values =
      subst (λ ss. IsWritten a i (indices_code w names ss d own) (suffix_values w names ss)) all_is two in
      let behind_at : behind ≡ d + indices_in every = behind_is ∙ ap (λ ss. d + indices_in ss) all_is in
      record {
        sound = indices.sound;
        code = suffixed_whole w names one rest e d own (next_of i) behind pointer (code_of a) (code_of i) (code_of f) (code_of z) start
            (next_is a i (indices_code w names every d own) values indices) behind_at (pointer_at d behind pointer all all_is behind_is pointer_is) start_is
            indices.code three.code four.code
            ∙ ap (λ y. code_of a ++ (suffixed_left w names y own).pointer d) (sym x_is);
        values = ap (λ own. map shape_tree own.items) four.own
            ∙ then_of (values_of a) values (values_of i) (expression_values w names e) (values_of f) (expression_values w names x) indices.values three.values
            (ap (expression_values w names) x_is);
      }
