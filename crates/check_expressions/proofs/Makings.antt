-- What is answered of `new` and `rnew` is what the rules say of them.
use Rattle.std.proofs.Common.{◌≡◌, ℕ, Bool, true, false, refl, sym, ◌∙◌, ap, ap₂}
use Rattle.std.specs.Prelude.{◌||◌}
use Rattle.cyc_tree.specs.Tree.{Array, Expression, Made, Name, One}
use Rattle.cyc_tree.specs.declared.expression.Expression as code
use Rattle.cyc_tree.specs.View.{expression_tree}
use Rattle.source_meaning.specs.Expressions.{is_unique_region}
use Rattle.source_typing.specs.Expressions.{judge}
use Rattle.source_typing.specs.Making.{Goal, NoHandle, To, ToUnique, array_made, array_misfits, array_of, by_parts, elements, enclosed, goal_of, handled}
use Rattle.source_typing.specs.Making.{inside, is_no_handle, is_no_place_of_arrays, is_other, made, made_of, with_counter}
use Rattle.source_typing.specs.Regions.{TheHeap}
use Rattle.source_typing.specs.Scope.{Env, Value}
use Rattle.source_typing.specs.Types.{StaticType, is_integer, is_makeable}
use Rattle.source_typing.specs.Verdicts.{Faulty, Of, Unjudged, Verdict, both}
use Rattle.check_operators.specs.Values.{value_of}
use Rattle.check_operators.specs.declared.value.Value as value
use Rattle.check_faults.proofs.Shortened.{paired_same, shortened_after, shortened_both}
use Rattle.check_faults.specs.Verdicts.{Is, Short, paired, short_both, short_of, shortened}
use Rattle.check_faults.specs.declared.verdict.Verdict as code_verdict
use Rattle.check_expressions.proofs.Forms.{judged}
use Rattle.check_expressions.specs.Goals.{any_misfits, both_values, enclosed_short, is_short_no_handle, is_short_no_place, is_short_other, short_array}
use Rattle.check_expressions.specs.Goals.{short_by_parts, short_goal, short_made, short_one}

-- ---- where it is made

pub enclosed_is : (v : Verdict Goal) → enclosed v ≡ enclosed_short (shortened v)
enclosed_is (Of (To r)) = refl
enclosed_is (Of ToUnique) = refl
enclosed_is (Of NoHandle) = refl
enclosed_is (Faulty f fs) = refl
enclosed_is Unjudged = refl

-- whether a part that is known is of no such making is seen of what is answered
no_handle_is : (v : Verdict Goal) → is_short_no_handle (shortened v) ≡ is_no_handle v
no_handle_is (Of (To r)) = refl
no_handle_is (Of ToUnique) = refl
no_handle_is (Of NoHandle) = refl
no_handle_is (Faulty f fs) = refl
no_handle_is Unjudged = refl

no_place_is : (v : Verdict Goal) → is_short_no_place (shortened v) ≡ is_no_place_of_arrays v
no_place_is (Of (To r)) = refl
no_place_is (Of ToUnique) = refl
no_place_is (Of NoHandle) = refl
no_place_is (Faulty f fs) = refl
no_place_is Unjudged = refl

other_is : (fits : StaticType → Bool) (v : Verdict Value) → is_short_other fits (shortened v) ≡ is_other fits v
other_is fits (Of v) = refl
other_is fits (Faulty f fs) = refl
other_is fits Unjudged = refl

shortened_parts : (at : ℕ) (misfits : Bool) (v : Verdict Value) → shortened (by_parts at misfits v) ≡ short_by_parts at misfits (shortened v)
shortened_parts at misfits (Of v) = refl
shortened_parts at misfits (Faulty f fs) = refl
shortened_parts at true Unjudged = refl
shortened_parts at false Unjudged = refl

one_is : (at : ℕ) (goal : Verdict Goal) (v : Verdict Value) → short_one at (shortened goal) (shortened v) ≡ shortened (made_of at goal v)
one_is at goal v =
    ap₂ (short_by_parts at) (ap₂ (λ a b. a || b) (no_handle_is goal) (other_is is_makeable v)) (sym (shortened_both goal v (made at)))
    ∙ sym (shortened_parts at (is_no_handle goal || is_other is_makeable v) (both goal v (made at)))

any_is : (at : ℕ) (goal : Verdict Goal) (n e : Verdict Value)
    → short_array at (shortened goal) (shortened n) (shortened e) ≡ shortened (array_of at goal n e)
any_is at goal n e =
    ap₂ (short_by_parts at)
    (ap₂ (λ a b. a || b) (no_place_is goal) (ap₂ (λ a b. a || b) (other_is is_integer n) (other_is is_makeable e)))
    (ap (λ p. short_both (shortened goal) p (λ a b. shortened (array_made at a b))) (sym (shortened_both n e elements))
    ∙ sym (shortened_both goal (both n e elements) (array_made at)))
    ∙ sym (shortened_parts at (array_misfits goal n e) (both goal (both n e elements) (array_made at)))

-- an array, by the pair of its count and its element
pub array_answered : (at : ℕ) (s : Short Goal) (v w : code_verdict.Verdict value.Value) (p : code_verdict.Verdict (value.Value × value.Value)) → p ≡ paired v w
    → short_by_parts at (any_misfits s (short_of value_of v) (short_of value_of w))
    (short_both s (short_of both_values p) (λ a b. shortened (array_made at a b))) ≡ short_array at s (short_of value_of v) (short_of value_of w)
array_answered at s v w p is =
    ap (λ x. short_by_parts at (any_misfits s (short_of value_of v) (short_of value_of w)) (short_both s x (λ a b. shortened (array_made at a b))))
    (ap (short_of both_values) is ∙ paired_same value_of value_of v w)

module _ (g : Env) where
  -- ---- what is made

  pub made_array : (at : ℕ) (s : Short Goal) (x : Name) (n e : Expression) (u v : Short Value)
      → u ≡ shortened (judge g n) → v ≡ shortened (judge (with_counter x g) e) → short_array at s u v ≡ short_made g at s (Array x n e)
  made_array at s x n e u v i j = ap (λ t. short_array at s t v) i ∙ ap (λ t. short_array at s (shortened (judge g n)) t) j

  -- ---- in the heap

  pub new_is : (at : ℕ) (new : Made) → short_made g at (Is (To TheHeap)) new ≡ shortened (judge g (Expression.New at new))
  new_is at (One e) = one_is at (Of (To TheHeap)) (judge g e)
  new_is at (Array x n e) = any_is at (Of (To TheHeap)) (judge g n) (judge (with_counter x g) e)

  -- ---- in the region of a handle

  abbrev pub handle_goal : Expression → Verdict Goal
  handle_goal h = goal_of (is_unique_region h) g (judge g h)

  goal_by : (b : Bool) (v : Verdict Value) → short_goal b g (shortened v) ≡ shortened (goal_of b g v)
  goal_by true v = refl
  goal_by false v = sym (shortened_after v (handled g))

  pub goal_is : (h : code.Expression) (b : Bool) (s : Short Value) → b ≡ is_unique_region (expression_tree h) → s ≡ judged g h
      → short_goal b g s ≡ shortened (handle_goal (expression_tree h))
  goal_is h b s u e =
      ap (λ t. short_goal b g t) e ∙ goal_by b (judge g (expression_tree h)) ∙ ap (λ c. shortened (goal_of c g (judge g (expression_tree h)))) u

  pub new_in_is : (at : ℕ) (h : Expression) (new : Made) (s : Short Goal) → s ≡ shortened (handle_goal h)
      → short_made (inside (handle_goal h) g) at s new ≡ shortened (judge g (Expression.NewIn at h new))
  new_in_is at h (One e) s p =
      ap (λ u. short_made (inside (handle_goal h) g) at u (One e)) p ∙ one_is at (handle_goal h) (judge (inside (handle_goal h) g) e)
  new_in_is at h (Array x n e) s p =
      let f : Env = inside (handle_goal h) g in
      ap (λ u. short_made f at u (Array x n e)) p ∙ any_is at (handle_goal h) (judge f n) (judge (with_counter x f) e)
