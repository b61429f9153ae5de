use Rattle.std.proofs.Common.{[], ◌∷◌, ap, ◌∙◌}
use Rattle.std.specs.Prelude.{option_map}
use Rattle.cyc_types.specs.Types.{static_type}
use Rattle.check_operators.specs.Values.{value_of}
use Rattle.source_typing.specs.Calls.{arguments_fit}
use Rattle.check_faults.specs.Verdicts.{shortened}
use Rattle.check_calls.proofs.unions.union_made.Goals as goal

pub returns : goal.returns
returns c g h same =
    let at = c.args.at in
    let n = c.args.of.tag.now.regions in
    let vs = value_of c.args.given ∷ [] in
    c.made.ensures (arguments_fit g at n (option_map static_type c.args.of.member.now.of ∷ []) vs)
    (c.in_ok-fit.ensures g h same ∙ ap (λ p. shortened (arguments_fit g at n (p ∷ []) vs)) c.in_ok-member_type.ensures)
