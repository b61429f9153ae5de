use Rattle.std.proofs.Common.{IfOk, sym, subst, ◌∙◌, ◌≡◌}
use Rattle.std.specs.Prelude.{option_map}
use Rattle.cyc_tree.specs.View.{name_tree}
use Rattle.source_typing.specs.Calls.{called, target}
use Rattle.source_typing.specs.Scope.{meant}
use Rattle.check_faults.specs.Verdicts.{short_both, short_of, shortened}
use Rattle.check_scopes.specs.Means.{Means, meaning_of}
use Rattle.check_operators.specs.Values.{value_of}
use Rattle.check_calls.specs.Targets.{target_of}
use Rattle.check_expressions.specs.Joined.{values_of}
use Rattle.check_expressions.proofs.parts.call_part.Goals as goal

pub returns : goal.returns
returns c = λ g h.
    let name = name_tree c.args.name.now in
    let callee : short_of target_of c.called_target-callee.result ≡ shortened (target name.at (meant g name.text)) =
    subst (λ x. short_of target_of c.called_target-callee.result ≡ shortened (target name.at (meant g x))) c.deref-2.ensures.value
    (c.called_target-callee.ensures g h.sees.tags
    (subst (λ x. Means (meant g x) (option_map meaning_of c.meaning-named.result)) (c.deref.ensures.value ∙ sym c.deref-2.ensures.value)
    (c.meaning-named.ensures.by_the_rules g h))) in
    subst (λ s. IfOk c.called_parts.result (λ v. short_of value_of v
    ≡ short_both s (short_of (λ vs. values_of vs.items) c.args.given) (λ t vs. shortened (called g name.at t vs)))) callee
    (c.called_parts.ensures g h.sees h.enclosing)
