use Rattle.std.proofs.Common.{map, subst}
use Rattle.cyc_lexer.specs.Tokens.{token_tree}
use Rattle.source_grammar.specs.Grammar.{IsProgram}
use Rattle.cyc_parser.specs.Refusals as parser
use Rattle.cycc_driver.proofs.Parsing.{refused_parsing}
use Rattle.cycc_driver.proofs.compiling.parsed.Goals as goal

pub returns-in-Ok-parse-clause-found : goal.returns-in-Ok-parse-clause-found
returns-in-Ok-parse-clause-found c = record {
  tokens = map token_tree c.in-Ok.tokens.items;
  within = c.in-Ok.ensures.found.1;
  lexed = c.in-Ok.ensures.found.0;
  parsed = subst (λ tokens. IsProgram c.in-Ok-parse.program (map token_tree tokens)) c.deref.ensures.value c.in-Ok-parse.ensures.found;
  nested = c.in-Ok-parse.ensures.nested;
}

pub returns-clause-refused : goal.returns-clause-refused
returns-clause-refused c =
    let why = c.in-Err-parse.fault in
    let refused = subst (λ tokens. parser.IsRefusedFor why (map token_tree tokens)) c.deref.ensures.value c.in-Err-parse.ensures.refused in
    let lexed = c.in-Ok.ensures.found in
    refused_parsing c.args.text.now (map token_tree c.in-Ok.tokens.items) why c.of_parsing.result lexed.1 lexed.0 refused c.of_parsing.ensures
