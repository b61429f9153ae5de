-- The parts of phrases that have at least one of what they list.
use Rattle.std.proofs.Common.{ℕ}
use Rattle.cyc_lexer.specs.declared.token.Keyword.TheVariants as word
use Rattle.cyc_lexer.specs.declared.token.Sign.TheVariants as sign
use Rattle.cyc_tree.specs.Tree as tree
use Rattle.cyc_tree.specs.Tree.{Expression, Links, NoLinks, MoreLinks, Clauses, NoClauses, MoreClauses}
use Rattle.source_grammar.specs.Phrases.{Tokens, KeywordAt, IsSign, InParentheses}
use Rattle.source_grammar.specs.ExpressionGrammar.{level_of, IsExpression, AreLinks}
use Rattle.source_grammar.specs.StatementGrammar.{IsStatement, AreClauses}

-- a chain's first operand, and its links, of one level
pub chained : (first : Expression) (links : Links) (from to : Tokens) → IsExpression (Expression.Chain first links) from to
    → (a : Tokens) × (level : ℕ) × IsExpression first from a × AreLinks level links a to
chained first NoLinks from to is = absurd is
chained first (MoreLinks operator operand others) from to (a, above, leads, are) = (a, level_of operator, leads, are)

-- a `switch`, and its clauses
pub switched : (at : ℕ) (place : Expression) (clauses : Clauses) (from to : Tokens) → IsStatement (tree.Switch at place clauses) from to
    → (a : Tokens) × (b : Tokens) × (c : Tokens) × (d : Tokens) × KeywordAt word.Switch at from a × InParentheses (IsExpression place) a b
    × IsSign sign.LeftBrace b c × AreClauses clauses c d × IsSign sign.RightBrace d to
switched at place NoClauses from to is = absurd is
switched at place (MoreClauses first pattern body others) from to is = is
