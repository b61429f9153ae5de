use Rattle.cyc_parser.specs.Refusals.{token_limit}
use Rattle.cyc_parser.proofs.Limits.{place_behind}
use Rattle.cyc_parser.proofs.item.behind_limit.Goals as goal

pub returns-in-Some : goal.returns-in-Some
returns-in-Some c =
    let lookup = c.in-Some.ensures.lookup in
    place_behind token_limit c.args.tokens.now c.in-Some.token.now lookup.3.0 lookup.1
