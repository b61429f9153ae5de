-- A token that stands next is read by a step to the token behind it.
use Rattle.std.proofs.Common.{◌≡◌, ℕ, zero, suc, Bool, true, false, List, [], ◌∷◌, map, drop, Ok, Err, refl}
use Rattle.cyc_lexer.specs.Tokens.{token_tree}
use Rattle.cyc_lexer.specs.declared.token.Token.{Token as CodeToken}
use Rattle.cyc_lexer.specs.declared.token.TokenKind.{TokenKind}
use Rattle.source_grammar.specs.Phrases.{Tokens}
use Rattle.cyc_parser.specs.Reading.{next_place}
use Rattle.cyc_parser.specs.declared.fault.ParseFault.TheVariants.{Parse}
use Rattle.cyc_parser.specs.Reader.{done, next_is, read, token}

steps : (test : TokenKind → Bool) (n : ℕ) (ts : List CodeToken) → next_is test (map token_tree (drop n ts)) ≡ true
    → read (token test) (λ t. done t.at) (map token_tree (drop n ts))
    ≡ Ok (next_place (map token_tree (drop n ts)), map token_tree (drop (suc n) ts))
steps test zero [] next = absurd cc
steps test zero (t ∷ ts) next = rw next refl
steps test (suc n) [] next = absurd cc
steps test (suc n) (t ∷ ts) next = steps test n ts next

pub is_eaten : (test : TokenKind → Bool) (n m : ℕ) (ts : List CodeToken) → m ≡ suc n → next_is test (map token_tree (drop n ts)) ≡ true
    → read (token test) (λ t. done t.at) (map token_tree (drop n ts))
    ≡ Ok (next_place (map token_tree (drop n ts)), map token_tree (drop m ts))
is_eaten test n m ts more next = rw more (steps test n ts next)

pub is_refused : (test : TokenKind → Bool) (ts : Tokens) → next_is test ts ≡ false → read (token test) (λ t. done t.at) ts ≡ Err (Parse (next_place ts))
is_refused test [] next = refl
is_refused test (t ∷ ts) next = rw next refl
