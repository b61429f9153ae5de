use Rattle.std.proofs.Common.{ap, sym, ◌∙◌}
use Rattle.check_types.proofs.Places.{all_missing}
use Rattle.check_types.specs.Written.{partial_regions}
use Rattle.check_types.proofs.arguments.found_arguments.Goals as goal

pub returns-in_ok-missing : goal.returns-in_ok-missing
returns-in_ok-missing c =
    ap (λ rs. partial_regions rs) c.in_ok-missing.ensures
    ∙ all_missing c.args.names.now c.args.count c.args.arguments.now (sym c.is_empty.ensures ∙ c.if-is_empty.true)
