use Rattle.std.proofs.Common.{ap, not, refl, subst, sym, ◌∙◌, ◌≡◌}
use Rattle.std.specs.Prelude.{◌&&◌}
use Rattle.check_faults.proofs.Shortened.{shortened_after}
use Rattle.check_faults.specs.Verdicts.{Short, short_after, short_of, shortened}
use Rattle.check_operators.specs.Values.{value_of}
use Rattle.flow_effects.specs.Passed.{passage_of}
use Rattle.flow_effects.specs.Used.{IsUsed}
use Rattle.flow_summaries.specs.Passages.{copied_if, in_turn}
use Rattle.source_typing.specs.Places.{contents}
use Rattle.source_typing.specs.Scope.{Value}
use Rattle.flow_check.proofs.PrefixUses.{contents_shortly}
use Rattle.flow_check.specs.Short.{is_unique_short}
use Rattle.flow_check.proofs.pointing.dereferenced.Goals as goal

pub returns : goal.returns
returns c = λ g v u sees seen.
    let at = c.args.at in
    let s : Short Value = short_of value_of c.args.operand.judged in
    let led : short_of value_of c.in_ok-judged.judged ≡ short_after s (λ a. shortened (contents g at a)) = c.in_ok-judged.ensures g sees in
    let passes : passage_of c.pointed-passed.result ≡ in_turn u.look (copied_if (is_unique_short s && not u.whole) at) = c.pointed-passed.ensures u seen.used in
    record {
      judged = led ∙ ap (λ s. short_after s (λ a. shortened (contents g at a))) seen.judged ∙ sym (shortened_after v (contents g at));
      used = subst (λ w. IsUsed c.args.how w c.place-used.result)
          (contents_shortly g at v u s seen.judged (short_of value_of c.in_ok-judged.judged) c.is_moved-moves.result (passage_of c.pointed-passed.result) led
          (c.is_moved-moves.ensures g sees.tags) passes)
          (c.place-used.ensures (passage_of c.pointed-passed.result) refl);
    }
