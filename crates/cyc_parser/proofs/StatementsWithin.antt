-- Declarations and statements in which phrases nest up to a limit, and the tokens that would go on with them.
use Rattle.std.proofs.Common.{◌≡◌, ◌&&◌, ◌||◌, ℕ, suc, ◌+◌, max, arith, Bool, true, false, List}
use Rattle.cyc_lexer.specs.declared.token.Keyword.TheVariants as word
use Rattle.cyc_lexer.specs.declared.token.TokenKind.{TokenKind}
use Rattle.cyc_tree.specs.Tree.{Declaration, Statement}
use Rattle.cyc_tree.specs.View.{OneItem, items_of}
use Rattle.cyc_tree.proofs.PartNesting.{declaration_nesting, statement_nesting, items_nesting}
use Rattle.source_grammar.specs.Phrases.{Tokens}
use Rattle.source_grammar.specs.StatementGrammar.{IsDeclaration, IsStatement, AreItems, ends_open}
use Rattle.cyc_parser.specs.Tests.{is_keyword, begins_item}
use Rattle.cyc_parser.specs.Exact.{Within}

abbrev pub IsDeclarationAt : ℕ → Bool → Declaration → Tokens → Tokens → Type 0
IsDeclarationAt d b x from to = IsDeclaration x from to × Within b d (declaration_nesting x)

abbrev pub IsStatementAt : ℕ → Bool → Statement → Tokens → Tokens → Type 0
IsStatementAt d b s from to = IsStatement s from to × Within b d (statement_nesting s)

abbrev pub AreItemsAt : ℕ → Bool → List OneItem → Tokens → Tokens → Type 0
AreItemsAt d b is from to = AreItems (items_of is) from to × Within b d (items_nesting (items_of is))

-- `else` goes on where the statement ends with an `if` that has none
abbrev pub takes_else : Statement → TokenKind → Bool
takes_else s k = ends_open s && is_keyword word.Else k

pub takes_else_at : (s : Statement) (k : TokenKind) → takes_else s k ≡ true → is_keyword word.Else k ≡ true
takes_else_at s k h = right (ends_open s) (is_keyword word.Else k) h
  where
    right : (a b : Bool) → (a && b) ≡ true → b ≡ true
    right true b h = h
    right false b h = absurd cc

-- what goes on in a block
abbrev pub goes_on_in_block : TokenKind → Bool
goes_on_in_block k = begins_item k || is_keyword word.Else k

-- ---- nesting

pub within_up : (b : Bool) (d n : ℕ) → Within b d n → Within b (suc d) (1 + n)
within_up true d n h = omega (arith, h)
within_up false d n h = tt

pub within_down : (b : Bool) (d n : ℕ) → Within b (suc d) (1 + n) → Within b d n
within_down true d n h = omega (arith, h)
within_down false d n h = tt

pub within_none : (b : Bool) (d : ℕ) → Within b d 0
within_none true d = omega arith
within_none false d = tt

pub within_one : (b : Bool) (d : ℕ) → Within b (suc d) 1
within_one true d = omega arith
within_one false d = tt

pub within_max : (b : Bool) (d m n : ℕ) → Within b d m → Within b d n → Within b d (max m n)
within_max true d m n g h = omega (arith, g, h)
within_max false d m n g h = tt

pub within_left : (b : Bool) (d m n : ℕ) → Within b d (max m n) → Within b d m
within_left true d m n h = omega (arith, h)
within_left false d m n h = tt

pub within_right : (b : Bool) (d m n : ℕ) → Within b d (max m n) → Within b d n
within_right true d m n h = omega (arith, h)
within_right false d m n h = tt
