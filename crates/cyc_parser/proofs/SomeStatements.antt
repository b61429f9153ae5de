-- Each token that begins a statement begins some one, and each statement nests.
use Rattle.std.proofs.Common.{◌≡◌, ℕ, ◌≤◌, arith, true, false, List, [], ◌∷◌, ◌++◌, Some, None, refl, sym, subst, append_assoc}
use Rattle.cyc_lexer.specs.Lexing.{Token}
use Rattle.cyc_lexer.specs.declared.token.Keyword.TheVariants as word
use Rattle.cyc_lexer.specs.declared.token.Sign.{Sign}
use Rattle.cyc_lexer.specs.declared.token.Sign.TheVariants as sign_of
use Rattle.cyc_lexer.specs.declared.token.TokenKind.{TokenKind}
use Rattle.cyc_lexer.specs.declared.token.TokenKind.TheVariants as kind
use Rattle.cyc_tree.specs.Tree.{Name, Expression, Number, Statement, Empty, Block, Run, Exchange, If, IfElse, While, Switch, Break, Continue, Return}
use Rattle.cyc_tree.specs.Tree.{FreeUnique, FreeKey, NoItems, Default, NoClauses, MoreClauses}
use Rattle.cyc_tree.proofs.PartNesting.{statement_nesting}
use Rattle.source_grammar.specs.Phrases.{Tokens, IsSign, InParentheses}
use Rattle.source_grammar.specs.ExpressionGrammar.{IsExpression}
use Rattle.source_grammar.specs.StatementGrammar.{IsNameInParentheses, IsStatement}
use Rattle.cyc_parser.specs.Tests.{begins_unary, begins_statement}
use Rattle.cyc_parser.specs.Exact.{nowhere, AreMadeUp, Phrase, PhraseFrom}
use Rattle.cyc_parser.proofs.exactness.Parts.{made_up_both}
use Rattle.cyc_parser.proofs.exactness.Expressions.{IsUnary, unary_from}

abbrev token_of : TokenKind → Token
token_of k = record { kind = k; at = nowhere; text = [] }

abbrev a_sign : Sign → Token
a_sign s = token_of (kind.Sign s)

abbrev zero_number : Expression
zero_number = Number nowhere 0 false

-- `( 0 )`
abbrev zero_behind : Tokens → Tokens
zero_behind rest = a_sign sign_of.LeftParenthesis ∷ token_of (kind.Number 0 false) ∷ a_sign sign_of.RightParenthesis ∷ rest

zero_made_up : (rest : Tokens) → AreMadeUp rest → AreMadeUp (zero_behind rest)
zero_made_up rest h = (refl, (refl, (refl, h)))

zero_inside : (rest : Tokens) → InParentheses (IsExpression zero_number) (zero_behind rest) rest
zero_inside rest = (_, _, (nowhere, ([], refl)), ([], refl), (nowhere, ([], refl)))

-- `( x )`
abbrev some_name : Name
some_name = record { at = nowhere; text = [] }

abbrev name_behind : Tokens → Tokens
name_behind rest = a_sign sign_of.LeftParenthesis ∷ token_of kind.Identifier ∷ a_sign sign_of.RightParenthesis ∷ rest

name_made_up : (rest : Tokens) → AreMadeUp rest → AreMadeUp (name_behind rest)
name_made_up rest h = (refl, (refl, (refl, h)))

name_inside : (rest : Tokens) → IsNameInParentheses some_name (name_behind rest) rest
name_inside rest = (_, _, (nowhere, ([], refl)), refl, (nowhere, ([], refl)))

-- `;`
abbrev end : Tokens
end = a_sign sign_of.Semicolon ∷ []

end_made_up : AreMadeUp end
end_made_up = (refl, tt)

end_is : (more : Tokens) → IsSign sign_of.Semicolon (end ++ more) more
end_is more = (nowhere, ([], refl))

-- `{ default : }`
abbrev a_default : Tokens
a_default = a_sign sign_of.LeftBrace ∷ token_of (kind.Keyword word.Default) ∷ a_sign sign_of.Colon ∷ a_sign sign_of.RightBrace ∷ []

run_in : (t : Token) (e : PhraseFrom IsUnary t) (more : Tokens) → IsExpression e.tree (t ∷ ((e.tokens ++ end) ++ more)) (end ++ more)
run_in t e more =
    let phrase : IsUnary e.tree (t ∷ (e.tokens ++ (end ++ more))) (end ++ more) = e.is (end ++ more) in
    subst (λ (x : Tokens). IsExpression e.tree (t ∷ x) (end ++ more)) (sym (append_assoc e.tokens end more)) phrase.0

run_from : (t : Token) → begins_unary t.kind ≡ true → PhraseFrom IsStatement t
run_from t h =
    let e : PhraseFrom IsUnary t = unary_from t h in
    record {
      tree = Run e.tree;
      tokens = e.tokens ++ end;
      made_up = made_up_both e.tokens end e.made_up end_made_up;
      is = λ more. (end ++ more, run_in t e more, end_is more);
    }

kind_from : (at : ℕ) (text : List ℕ) (k : TokenKind) → begins_statement k ≡ true → PhraseFrom IsStatement (record { kind = k; at = at; text = text })
kind_from at text (kind.Sign sign_of.Semicolon) h = record { tree = Empty at; tokens = []; made_up = tt; is = λ more. (text, refl) }
kind_from at text (kind.Sign sign_of.LeftBrace) h =
    record {
      tree = Block at NoItems;
      tokens = a_sign sign_of.RightBrace ∷ [];
      made_up = (refl, tt);
      is = λ more. (_, _, (text, refl), refl, (nowhere, ([], refl)));
    }
kind_from at text (kind.Keyword word.If) h =
    record {
      tree = If at zero_number (Empty nowhere);
      tokens = zero_behind end;
      made_up = zero_made_up end end_made_up;
      is = λ more. (_, _, (text, refl), zero_inside (end ++ more), ([], refl));
    }
kind_from at text (kind.Keyword word.While) h =
    record {
      tree = While at zero_number (Empty nowhere);
      tokens = zero_behind end;
      made_up = zero_made_up end end_made_up;
      is = λ more. (_, _, (text, refl), zero_inside (end ++ more), ([], refl));
    }
kind_from at text (kind.Keyword word.Switch) h = record {
  tree = Switch at zero_number (MoreClauses nowhere Default NoItems NoClauses);
  tokens = zero_behind a_default;
  made_up = zero_made_up a_default (refl, (refl, (refl, (refl, tt))));
  is =
      λ more. (
        _,
        _,
        _,
        _,
        (text, refl),
        zero_inside _,
        (nowhere, ([], refl)),
        (_, _, _, ([], refl), (nowhere, ([], refl)), refl, refl),
        (nowhere, ([], refl)),
      );
}
kind_from at text (kind.Keyword word.Break) h =
    record { tree = Break at; tokens = end; made_up = end_made_up; is = λ more. (_, (text, refl), end_is more) }
kind_from at text (kind.Keyword word.Continue) h =
    record { tree = Continue at; tokens = end; made_up = end_made_up; is = λ more. (_, (text, refl), end_is more) }
kind_from at text (kind.Keyword word.Return) h =
    record { tree = Return at None; tokens = end; made_up = end_made_up; is = λ more. (_, (text, refl), end_is more) }
kind_from at text (kind.Keyword word.Ufree) h =
    record {
      tree = FreeUnique at some_name;
      tokens = name_behind end;
      made_up = name_made_up end end_made_up;
      is = λ more. (_, _, (text, refl), name_inside (end ++ more), end_is more);
    }
kind_from at text (kind.Keyword word.FreeUkey) h =
    record {
      tree = FreeKey at some_name;
      tokens = name_behind end;
      made_up = name_made_up end end_made_up;
      is = λ more. (_, _, (text, refl), name_inside (end ++ more), end_is more);
    }
kind_from at text k h = run_from (record { kind = k; at = at; text = text }) h

-- each token that begins a statement begins some one
pub statement_from : (t : Token) → begins_statement t.kind ≡ true → PhraseFrom IsStatement t
statement_from t h = kind_from t.at t.text t.kind h

pub some_statement : Phrase IsStatement
some_statement = record { tree = Empty nowhere; tokens = end; made_up = end_made_up; is = λ more. ([], refl) }

pub statement_nests : (s : Statement) → statement_nesting s ≤ 0 → ⊥
statement_nests (Empty at) h = omega (arith, h)
statement_nests (Block at items) h = omega (arith, h)
statement_nests (Run e) h = omega (arith, h)
statement_nests (Exchange left right) h = omega (arith, h)
statement_nests (If at condition body) h = omega (arith, h)
statement_nests (IfElse at condition body otherwise) h = omega (arith, h)
statement_nests (While at condition body) h = omega (arith, h)
statement_nests (Switch at place _) h = omega (arith, h)
statement_nests (Break at) h = omega (arith, h)
statement_nests (Continue at) h = omega (arith, h)
statement_nests (Return at None) h = omega (arith, h)
statement_nests (Return at (Some value)) h = omega (arith, h)
statement_nests (FreeUnique at pointer) h = omega (arith, h)
statement_nests (FreeKey at key) h = omega (arith, h)
