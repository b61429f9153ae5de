-- Why a text is refused, from why its tokens are: it has no more of them than bytes, and so no more than may be.
use Rattle.std.proofs.Common.{ℕ, ◌≤◌, List, length, inl, inr, sym, subst, arith}
use Rattle.cyc_lexer.specs.Lexing.{Token, AreTokens, text_limit}
use Rattle.cyc_lexer.proofs.ByteCounts.{tokens_within_bytes}
use Rattle.cyc_parser.specs.declared.fault.ParseFault.{ParseFault}
use Rattle.cyc_parser.specs.declared.fault.ParseFault.TheVariants as parse
use Rattle.cyc_parser.specs.Refusals as parser
use Rattle.cyc_parser.specs.Refusals.{IsUnexpectedFirst}
use Rattle.cycc_driver.specs.declared.fault.CompileFault.{CompileFault}
use Rattle.cycc_driver.specs.Refusals.{IsRefusedFor}
use Rattle.cycc_driver.specs.Refused.{IsOfParsing}

unexpected : (text : List ℕ) (tokens : List Token) (at : ℕ) → length text ≤ text_limit → AreTokens text tokens
    → parser.IsRefusedFor (parse.Parse at) tokens → IsUnexpectedFirst tokens at
unexpected text tokens at within lexed (inl (over, place)) =
    let few = tokens_within_bytes text tokens lexed in
    absurd (omega (arith, within, few, over))
unexpected text tokens at within lexed (inr (few, is)) = is

pub refused_parsing : (text : List ℕ) (tokens : List Token) (why : ParseFault) (f : CompileFault) → length text ≤ text_limit → AreTokens text tokens
    → parser.IsRefusedFor why tokens → IsOfParsing text why f → IsRefusedFor f text
refused_parsing text tokens (parse.Parse at) f within lexed refused (place, is, there) =
    subst (λ (x : CompileFault). IsRefusedFor x text) (sym is) record {
      tokens = tokens;
      within = within;
      lexed = lexed;
      at = at;
      refused = unexpected text tokens at within lexed refused;
      there = there;
    }
refused_parsing text tokens (parse.TooDeep at) f within lexed (few, refused) (place, is, there) =
    subst (λ (x : CompileFault). IsRefusedFor x text) (sym is) record {
      tokens = tokens;
      within = within;
      lexed = lexed;
      at = at;
      refused = refused;
      there = there;
    }
refused_parsing text tokens parse.Memory f within lexed refused is = subst (λ (x : CompileFault). IsRefusedFor x text) (sym is) tt
