-- The place of the first token over a limit.
use Rattle.std.proofs.Common.{◌≡◌, ◌∙◌, ℕ, ◌<◌, List, map, length, drop, get_or, sym, ap, arith}
use Rattle.std.proofs.lemmas.List.{drop-map, drop_more, length-map}
use Rattle.cyc_lexer.specs.declared.token.Token.{Token}
use Rattle.cyc_lexer.specs.Tokens.{token_tree}
use Rattle.cyc_parser.specs.Reading.{next_place}

pub place_behind : (n : ℕ) (ts : List Token) (t : Token) → n < length ts → t ≡ get_or ts n t
    → (n < length (map token_tree ts)) × (t.at ≡ next_place (drop n (map token_tree ts)))
place_behind n ts t within is = (
  omega (arith, within, length-map ts token_tree),
  ap (λ (x : Token). x.at) is ∙ ap (λ (xs : List Token). next_place (map token_tree xs)) (sym (drop_more ts n t within))
      ∙ ap next_place (sym (drop-map token_tree n ts)),
)
