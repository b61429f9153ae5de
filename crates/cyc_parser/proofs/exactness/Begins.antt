-- What expressions begin with, and how deep they nest at least.
use Rattle.std.proofs.Common.{◌≡◌, ℕ, ◌≤◌, true, false, List, [], ◌∷◌, refl, arith}
use Rattle.cyc_lexer.specs.Lexing.{Token}
use Rattle.cyc_lexer.specs.Spelling.{text_bytes}
use Rattle.cyc_lexer.specs.declared.token.Keyword.{Keyword}
use Rattle.cyc_lexer.specs.declared.token.Keyword.TheVariants as word
use Rattle.cyc_lexer.specs.declared.token.Sign.{Sign}
use Rattle.cyc_lexer.specs.declared.token.Sign.TheVariants as sign
use Rattle.cyc_lexer.specs.declared.token.TokenKind.{TokenKind}
use Rattle.cyc_lexer.specs.declared.token.TokenKind.TheVariants as kind
use Rattle.cyc_tree.specs.declared.expression.Prefix.{Prefix}
use Rattle.cyc_tree.specs.declared.expression.Prefix.TheVariants as prefix
use Rattle.cyc_tree.specs.Tree.{Expression, Number, Character, Text, Null, HeapRegion, UniqueRegion, Variable, Call, MakeUnion, NumElts, Grouped}
use Rattle.cyc_tree.specs.Tree.{Suffixed, Prefixed, New, NewIn, Chain, AllOf, AnyOf, Assign, NoExpressions, MoreExpressions, NoLinks, MoreLinks}
use Rattle.cyc_tree.specs.Tree.{NoSuffixes, Index, Dot, Arrow, One}
use Rattle.cyc_tree.proofs.PartNesting.{inner_nesting}
use Rattle.source_grammar.specs.Phrases.{Tokens, InParentheses}
use Rattle.source_grammar.specs.ExpressionGrammar.{IsExpression, binds, unary_level, prefix_sign}
use Rattle.cyc_parser.specs.Tests.{begins_unary}
use Rattle.cyc_parser.specs.Reader.{next_is}
use Rattle.cyc_parser.specs.Exact.{nowhere, Phrase, PhraseFrom}
use Rattle.cyc_parser.proofs.exactness.Composed.{begins_with}

-- a unary expression
abbrev pub IsUnary : Expression → Tokens → Tokens → Type 0
IsUnary e from to = IsExpression e from to × (unary_level ≤ binds e)

-- ---- nesting

-- an expression has a token, which is in a unary expression
pub nests : (e : Expression) → 1 ≤ inner_nesting e
nests (Suffixed primary others) = omega (arith, nests primary)
nests (Chain first others) = omega (arith, nests first)
nests (AllOf first others) = omega (arith, nests first)
nests (AnyOf first others) = omega (arith, nests first)
nests (Assign place value) = omega (arith, nests place)
nests _ = omega arith

-- ---- the first token

prefix_begins : (o : Prefix) → begins_unary (kind.Sign (prefix_sign o)) ≡ true
prefix_begins prefix.Negate = refl
prefix_begins prefix.Not = refl
prefix_begins prefix.Complement = refl
prefix_begins prefix.Dereference = refl
prefix_begins prefix.AddressOf = refl

pub expression_begins : (e : Expression) (from to : Tokens) → IsExpression e from to → next_is begins_unary from ≡ true
expression_begins (Number at value suffix) from to h = begins_with begins_unary from _ _ h.1 refl
expression_begins (Character at byte) from to h = begins_with begins_unary from _ _ h.1 refl
expression_begins (Text at bytes) from to h = begins_with begins_unary from _ _ h.1 refl
expression_begins (Null at) from to h = begins_with begins_unary from _ _ h.1 refl
expression_begins (HeapRegion at) from to h = begins_with begins_unary from _ _ h.1 refl
expression_begins (UniqueRegion at) from to h = begins_with begins_unary from _ _ h.1 refl
expression_begins (Variable name) from to h = begins_with begins_unary from _ _ h refl
expression_begins (Call name arguments) from to h = begins_with begins_unary from _ _ h.2 refl
expression_begins (MakeUnion tag member value) from to h = begins_with begins_unary from _ _ h.3 refl
expression_begins (NumElts at operand) from to h = begins_with begins_unary from _ _ h.1.1 refl
expression_begins (Grouped at inner) from to h = begins_with begins_unary from _ _ h.2.1 refl
expression_begins (Suffixed primary NoSuffixes) from to h = absurd h
expression_begins (Suffixed primary (Index index others)) from to h = expression_begins primary from h.0 h.2
expression_begins (Suffixed primary (Dot member others)) from to h = expression_begins primary from h.0 h.2
expression_begins (Suffixed primary (Arrow member others)) from to h = expression_begins primary from h.0 h.2
expression_begins (Prefixed at o operand) from to h = begins_with begins_unary from _ _ h.2.1 (prefix_begins o)
expression_begins (New at made) from to h = begins_with begins_unary from _ _ h.1.1 refl
expression_begins (NewIn at handle made) from to h = begins_with begins_unary from _ _ h.2.1 refl
expression_begins (Chain first NoLinks) from to h = absurd h
expression_begins (Chain first (MoreLinks o operand others)) from to h = expression_begins first from h.0 h.2
expression_begins (AllOf first NoExpressions) from to h = absurd h
expression_begins (AllOf first (MoreExpressions second others)) from to h = expression_begins first from h.0 h.2
expression_begins (AnyOf first NoExpressions) from to h = absurd h
expression_begins (AnyOf first (MoreExpressions second others)) from to h = expression_begins first from h.0 h.2
expression_begins (Assign place value) from to h = expression_begins place from h.0 h.3

-- ---- some expressions

abbrev one : TokenKind → Token
one k = record { kind = k; at = nowhere; text = [] }

abbrev zero_token : Token
zero_token = one (kind.Number 0 false)

abbrev null_number : Expression
null_number = Number nowhere 0 false

abbrev left : Token
left = one (kind.Sign sign.LeftParenthesis)

abbrev right : Token
right = one (kind.Sign sign.RightParenthesis)

number_is : (more : Tokens) → IsExpression null_number (zero_token ∷ more) more
number_is more = ([], refl)

-- `0`
pub some_unary : Phrase IsUnary
some_unary = record { tree = null_number; tokens = zero_token ∷ []; made_up = (refl, tt); is = λ more. (number_is more, omega arith) }

-- `( 0 )`
in_parentheses : (more : Tokens) → InParentheses (IsExpression null_number) (left ∷ zero_token ∷ right ∷ more) more
in_parentheses more = (zero_token ∷ right ∷ more, right ∷ more, (nowhere, ([], refl)), number_is (right ∷ more), (nowhere, ([], refl)))

from_keyword : (w : Keyword) (at : ℕ) (text : List ℕ) → begins_unary (kind.Keyword w) ≡ true
    → PhraseFrom IsUnary (record { kind = kind.Keyword w; at = at; text = text })
from_keyword word.Null at text h = record { tree = Null at; tokens = []; made_up = tt; is = λ more. ((text, refl), omega arith) }
from_keyword word.HeapRegion at text h = record { tree = HeapRegion at; tokens = []; made_up = tt; is = λ more. ((text, refl), omega arith) }
from_keyword word.UniqueRegion at text h = record { tree = UniqueRegion at; tokens = []; made_up = tt; is = λ more. ((text, refl), omega arith) }
from_keyword word.Numelts at text h = record {
  tree = NumElts at null_number;
  tokens = left ∷ zero_token ∷ right ∷ [];
  made_up = (refl, (refl, (refl, tt)));
  is = λ more. ((left ∷ zero_token ∷ right ∷ more, (text, refl), in_parentheses more), omega arith);
}
from_keyword word.New at text h = record {
  tree = New at (One null_number);
  tokens = zero_token ∷ [];
  made_up = (refl, tt);
  is = λ more. ((zero_token ∷ more, (text, refl), (omega arith, number_is more)), omega arith);
}
from_keyword word.Rnew at text h = record {
  tree = NewIn at null_number (One null_number);
  tokens = left ∷ zero_token ∷ right ∷ zero_token ∷ [];
  made_up = (refl, (refl, (refl, (refl, tt))));
  is =
      λ more. (
        (
          left ∷ zero_token ∷ right ∷ zero_token ∷ more,
          zero_token ∷ more,
          (text, refl),
          in_parentheses (zero_token ∷ more),
          (omega arith, number_is more),
        ),
        omega arith,
      );
}
from_keyword _ at text h = absurd cc

from_prefix : (o : Prefix) (at : ℕ) (text : List ℕ) → PhraseFrom IsUnary (record { kind = kind.Sign (prefix_sign o); at = at; text = text })
from_prefix o at text = record {
  tree = Prefixed at o null_number;
  tokens = zero_token ∷ [];
  made_up = (refl, tt);
  is = λ more. ((zero_token ∷ more, omega arith, (text, refl), number_is more), omega arith);
}

from_sign : (s : Sign) (at : ℕ) (text : List ℕ) → begins_unary (kind.Sign s) ≡ true
    → PhraseFrom IsUnary (record { kind = kind.Sign s; at = at; text = text })
from_sign sign.Minus at text h = from_prefix prefix.Negate at text
from_sign sign.Not at text h = from_prefix prefix.Not at text
from_sign sign.Tilde at text h = from_prefix prefix.Complement at text
from_sign sign.Star at text h = from_prefix prefix.Dereference at text
from_sign sign.And at text h = from_prefix prefix.AddressOf at text
from_sign sign.LeftParenthesis at text h = record {
  tree = Grouped at null_number;
  tokens = zero_token ∷ right ∷ [];
  made_up = (refl, (refl, tt));
  is = λ more. ((zero_token ∷ right ∷ more, right ∷ more, (text, refl), number_is (right ∷ more), (nowhere, ([], refl))), omega arith);
}
from_sign _ at text h = absurd cc

from_kind : (k : TokenKind) (at : ℕ) (text : List ℕ) → begins_unary k ≡ true → PhraseFrom IsUnary (record { kind = k; at = at; text = text })
from_kind (kind.Number value suffix) at text h =
    record { tree = Number at value suffix; tokens = []; made_up = tt; is = λ more. ((text, refl), omega arith) }
from_kind (kind.Character byte) at text h = record { tree = Character at byte; tokens = []; made_up = tt; is = λ more. ((text, refl), omega arith) }
from_kind kind.Text at text h = record { tree = Text at (text_bytes text); tokens = []; made_up = tt; is = λ more. ((text, refl, refl), omega arith) }
from_kind kind.Identifier at text h =
    record { tree = Variable (record { at = at; text = text }); tokens = []; made_up = tt; is = λ more. (refl, omega arith) }
from_kind kind.Region at text h = absurd cc
from_kind (kind.Keyword w) at text h = from_keyword w at text h
from_kind (kind.Sign s) at text h = from_sign s at text h

-- each token that begins a unary expression begins some one
pub unary_from : (t : Token) → begins_unary t.kind ≡ true → PhraseFrom IsUnary t
unary_from t begins = from_kind t.kind t.at t.text begins
