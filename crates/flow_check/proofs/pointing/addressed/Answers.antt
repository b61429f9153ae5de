use Rattle.std.proofs.Common.{ap, refl, subst, sym, ◌∙◌}
use Rattle.std.specs.Prelude.{◌||◌}
use Rattle.check_faults.proofs.Shortened.{shortened_after}
use Rattle.check_faults.specs.Verdicts.{Short, short_after, short_of, shortened}
use Rattle.check_operators.specs.Values.{value_of}
use Rattle.cyc_tree.specs.declared.expression.Prefix.TheVariants as prefix
use Rattle.flow_effects.specs.Used.{IsUsed}
use Rattle.flow_summaries.specs.Passages.{copied_if, in_turn}
use Rattle.source_typing.specs.Operators.{prefixed}
use Rattle.source_typing.specs.Scope.{Value}
use Rattle.flow_check.proofs.PrefixUses.{address_shortly}
use Rattle.flow_check.specs.Short.{in_block_short}
use Rattle.flow_check.proofs.pointing.addressed.Goals as goal

pub returns : goal.returns
returns c = λ g v u how sees seen.
    let at = c.args.at in
    let s : Short Value = short_of value_of c.args.operand.judged in
    record {
      judged = c.in_ok-judged.ensures g sees ∙ ap (λ s. short_after s (λ a. shortened (prefixed g at prefix.AddressOf a))) seen.judged
          ∙ sym (shortened_after v (prefixed g at prefix.AddressOf));
      used = subst (λ w. IsUsed how w c.pointed_to-used.result)
          (address_shortly g at v u s seen.judged (in_turn u.place (copied_if (u.own || in_block_short s) at)) refl)
          (c.pointed_to-used.ensures how u seen.used);
    }
