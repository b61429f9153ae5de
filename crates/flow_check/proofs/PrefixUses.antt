-- Operators before an operand, by what is answered of the operand.
use Rattle.std.proofs.Common.{Bool, ap, false, inl, inr, not, sym, ◌∙◌, ◌≡◌, ◌⊎◌, ℕ}
use Rattle.std.specs.Prelude.{◌&&◌, ◌||◌}
use Rattle.cyc_tree.specs.Tree.{Expression}
use Rattle.cyc_tree.specs.declared.expression.Prefix.{Prefix}
use Rattle.cyc_tree.specs.declared.expression.Prefix.TheVariants as prefix
use Rattle.flow_summaries.specs.Expressions.{uses_of}
use Rattle.flow_summaries.specs.Passages.{Passage, copied_if, in_turn}
use Rattle.flow_summaries.specs.Uses.{Uses, address_uses, contents_uses, uses_as_place, uses_as_value}
use Rattle.source_typing.specs.Places.{contents}
use Rattle.source_typing.specs.Scope.{Env, Value}
use Rattle.source_typing.specs.Verdicts.{Verdict, after}
use Rattle.check_faults.proofs.Shortened.{shortened_after}
use Rattle.check_faults.specs.Verdicts.{Short, short_after, shortened}
use Rattle.flow_check.proofs.Shortly.{block_by, moved_by, unique_by}
use Rattle.flow_check.specs.Short.{in_block_short, is_moved_short, is_unique_short}

-- operators that only look at their operand
pub look_alone : (g : Env) (at : ℕ) (o : Prefix) (e : Expression) → (o ≡ prefix.Negate) ⊎ ((o ≡ prefix.Not) ⊎ (o ≡ prefix.Complement))
    → uses_of g (Expression.Prefixed at o e) ≡ uses_as_value (uses_of g e).look
look_alone g at o e (inl h) = ap (λ p. uses_of g (Expression.Prefixed at p e)) h
look_alone g at o e (inr (inl h)) = ap (λ p. uses_of g (Expression.Prefixed at p e)) h
look_alone g at o e (inr (inr h)) = ap (λ p. uses_of g (Expression.Prefixed at p e)) h

module _ (g : Env) (at : ℕ) (v : Verdict Value) (u : Uses) (s : Short Value) (known : s ≡ shortened v) where
  pub contents_shortly : (t : Short Value) (moves : Bool) (p : Passage) → t ≡ short_after s (λ a. shortened (contents g at a)) → moves ≡ is_moved_short g t
      → p ≡ in_turn u.look (copied_if (is_unique_short s && not u.whole) at) → uses_as_place at moves false p ≡ contents_uses g at v u
  contents_shortly t moves p judged moved passes =
      let led : t ≡ shortened (after v (contents g at)) =
      judged ∙ ap (λ x. short_after x (λ a. shortened (contents g at a))) known ∙ sym (shortened_after v (contents g at)) in
      λ j. uses_as_place at ((moved ∙ moved_by g (after v (contents g at)) t led) j) false
      ((passes ∙ ap (λ b. in_turn u.look (copied_if (b && not u.whole) at)) (unique_by v s known)) j)

  pub address_shortly : (p : Passage) → p ≡ in_turn u.place (copied_if (u.own || in_block_short s) at) → uses_as_value p ≡ address_uses at v u
  address_shortly p passes =
      ap uses_as_value (passes ∙ ap (λ b. in_turn u.place (copied_if (u.own || b) at)) (block_by v s known))
