-- Believed: the grammar of declarations and statements. A line in quotes is the production that the definition restates.
use Rattle.std.specs.Prelude.{◌≡◌, ℕ, Bool, true, false, Option, Some, None}
use Rattle.cyc_lexer.specs.declared.token.Keyword.TheVariants as word
use Rattle.cyc_lexer.specs.declared.token.Sign.TheVariants as sign
use Rattle.cyc_lexer.specs.declared.token.TokenKind.TheVariants as kind
use Rattle.cyc_tree.specs.Tree as tree
use Rattle.cyc_tree.specs.Tree.{Name, Expression, Declaration, Local, Open, Alias, NewKey, Pattern, Case, Default, Statement, Empty, Block, Run, Exchange, If}
use Rattle.cyc_tree.specs.Tree.{IfElse, While, Switch, Break, Continue, Return, FreeUnique, FreeKey, BlockItems, NoItems, Declare, Execute, Clauses, NoClauses}
use Rattle.cyc_tree.specs.Tree.{MoreClauses}
use Rattle.source_grammar.specs.Phrases.{Tokens, IsOne, KeywordAt, SignAt, IsKeyword, IsSign, IsName, InParentheses}
use Rattle.source_grammar.specs.TypeGrammar.{IsOneRegion, IsType}
use Rattle.source_grammar.specs.ExpressionGrammar.{IsExpression}

-- ---- declarations

-- "[" Num "]"
abbrev pub IsCount : ℕ → Tokens → Tokens → Type 0
IsCount count from to =
    (a : Tokens) × (b : Tokens) × (at : ℕ) × (suffix : Bool) × IsSign sign.LeftBracket from a × IsOne (kind.Number count suffix) at a b
    × IsSign sign.RightBracket b to

-- [ "[" Num "]" | "=" expr ]
abbrev pub IsInitializer : tree.Initializer → Tokens → Tokens → Type 0
IsInitializer tree.Initializer.Unset from to = from ≡ to
IsInitializer (tree.Initializer.Elements count) from to = IsCount count from to
IsInitializer (tree.Value e) from to = (a : Tokens) × IsSign sign.Assign from a × IsExpression e a to

-- "(" Id ")"
abbrev pub IsNameInParentheses : Name → Tokens → Tokens → Type 0
IsNameInParentheses n from to = InParentheses (IsName n) from to

-- decl
abbrev pub IsDeclaration : Declaration → Tokens → Tokens → Type 0
-- = type Id [ "[" Num "]" | "=" expr ] ";"
IsDeclaration (Local of name initializer) from to =
    (a : Tokens) × (b : Tokens) × (c : Tokens) × IsType of from a × IsName name a b × IsInitializer initializer b c × IsSign sign.Semicolon c to
-- | "region" "<" Rg ">" Id [ "=" "open" "(" Id ")" ] ";"
IsDeclaration (tree.Region at region handle) from to =
    (a : Tokens) × (b : Tokens) × (c : Tokens) × KeywordAt word.Region at from a × IsOneRegion region a b × IsName handle b c × IsSign sign.Semicolon c to
IsDeclaration (Open at region handle key) from to =
    (a : Tokens) × (b : Tokens) × (c : Tokens) × (d : Tokens) × (e : Tokens) × (f : Tokens) × KeywordAt word.Region at from a × IsOneRegion region a b
    × IsName handle b c × IsSign sign.Assign c d × IsKeyword word.Open d e × IsNameInParentheses key e f × IsSign sign.Semicolon f to
-- | "let" "alias" "<" Rg ">" type Id "=" Id ";"
IsDeclaration (Alias at region of alias pointer) from to =
    (a : Tokens) × (b : Tokens) × (c : Tokens) × (d : Tokens) × (e : Tokens) × (f : Tokens) × (g : Tokens) × KeywordAt word.Let at from a
    × IsKeyword word.Alias a b
    × IsOneRegion region b c × IsType of c d × IsName alias d e × IsSign sign.Assign e f × IsName pointer f g × IsSign sign.Semicolon g to
-- | "let" "NewDynamicRegion" "{" "<" Rg ">" Id "}" "=" "new_ukey" "(" ")" ";"
IsDeclaration (NewKey at region key) from to =
    (a : Tokens) × (b : Tokens) × (c : Tokens) × (d : Tokens) × (e : Tokens) × (f : Tokens) × (g : Tokens) × (h : Tokens) × (i : Tokens) × (j : Tokens)
    × KeywordAt word.Let at from a × IsKeyword word.NewDynamicRegion a b × IsSign sign.LeftBrace b c × IsOneRegion region c d × IsName key d e
    × IsSign sign.RightBrace e f × IsSign sign.Assign f g × IsKeyword word.NewUkey g h × IsSign sign.LeftParenthesis h i × IsSign sign.RightParenthesis i j
    × IsSign sign.Semicolon j to

-- ---- statements

-- "case" "{" "." Id "=" Id "}" | "default"
abbrev pub IsPattern : ℕ → Pattern → Tokens → Tokens → Type 0
IsPattern at (Case member name) from to =
    (a : Tokens) × (b : Tokens) × (c : Tokens) × (d : Tokens) × (e : Tokens) × (f : Tokens) × KeywordAt word.Case at from a × IsSign sign.LeftBrace a b
    × IsSign sign.Dot b c × IsName member c d × IsSign sign.Assign d e × IsName name e f × IsSign sign.RightBrace f to
IsPattern at Default from to = KeywordAt word.Default at from to

-- "return" [expr] ";"
abbrev pub IsReturn : Option Expression → Tokens → Tokens → Type 0
IsReturn None from to = IsSign sign.Semicolon from to
IsReturn (Some e) from to = (a : Tokens) × IsExpression e from a × IsSign sign.Semicolon a to

-- a statement that ends with an `if` without `else`: an `else` behind it would be that one's, since an `else` belongs to the nearest `if`
abbrev pub ends_open : Statement → Bool
ends_open (Empty at) = false
ends_open (Block at items) = false
ends_open (Run e) = false
ends_open (Exchange left right) = false
ends_open (If at condition body) = true
ends_open (IfElse at condition body otherwise) = ends_open otherwise
ends_open (While at condition body) = ends_open body
ends_open (Switch at place _) = false
ends_open (Break at) = false
ends_open (Continue at) = false
ends_open (Return at value) = false
ends_open (FreeUnique at pointer) = false
ends_open (FreeKey at key) = false

abbrev mutual
  -- stmt
  pub IsStatement : Statement → Tokens → Tokens → Type 0
  -- = ";" | block | expr ";" | expr ":=:" expr ";"
  IsStatement (Empty at) from to = SignAt sign.Semicolon at from to
  IsStatement (Block at items) from to = (a : Tokens) × (b : Tokens) × SignAt sign.LeftBrace at from a × AreItems items a b × IsSign sign.RightBrace b to
  IsStatement (Run e) from to = (a : Tokens) × IsExpression e from a × IsSign sign.Semicolon a to
  IsStatement (Exchange left right) from to =
      (a : Tokens) × (b : Tokens) × (c : Tokens) × IsExpression left from a × IsSign sign.Exchange a b × IsExpression right b c × IsSign sign.Semicolon c to
  -- | "if" "(" expr ")" stmt [ "else" stmt ] | "while" "(" expr ")" stmt
  IsStatement (If at condition body) from to =
      (a : Tokens) × (b : Tokens) × KeywordAt word.If at from a × InParentheses (IsExpression condition) a b × IsStatement body b to
  IsStatement (IfElse at condition body otherwise) from to =
      (a : Tokens) × (b : Tokens) × (c : Tokens) × (d : Tokens) × KeywordAt word.If at from a × InParentheses (IsExpression condition) a b
      × IsStatement body b c
      × (ends_open body ≡ false) × IsKeyword word.Else c d × IsStatement otherwise d to
  IsStatement (While at condition body) from to =
      (a : Tokens) × (b : Tokens) × KeywordAt word.While at from a × InParentheses (IsExpression condition) a b × IsStatement body b to
  -- | "switch" "(" expr ")" "{" clause { clause } "}"
  IsStatement (Switch at place NoClauses) from to = ⊥
  IsStatement (Switch at place (MoreClauses first pattern body others)) from to =
      (a : Tokens) × (b : Tokens) × (c : Tokens) × (d : Tokens) × KeywordAt word.Switch at from a × InParentheses (IsExpression place) a b
      × IsSign sign.LeftBrace b c
      × AreClauses (MoreClauses first pattern body others) c d × IsSign sign.RightBrace d to
  -- | "break" ";" | "continue" ";" | "return" [expr] ";"
  IsStatement (Break at) from to = (a : Tokens) × KeywordAt word.Break at from a × IsSign sign.Semicolon a to
  IsStatement (Continue at) from to = (a : Tokens) × KeywordAt word.Continue at from a × IsSign sign.Semicolon a to
  IsStatement (Return at value) from to = (a : Tokens) × KeywordAt word.Return at from a × IsReturn value a to
  -- | "ufree" "(" Id ")" ";" | "free_ukey" "(" Id ")" ";"
  IsStatement (FreeUnique at pointer) from to =
      (a : Tokens) × (b : Tokens) × KeywordAt word.Ufree at from a × IsNameInParentheses pointer a b × IsSign sign.Semicolon b to
  IsStatement (FreeKey at key) from to =
      (a : Tokens) × (b : Tokens) × KeywordAt word.FreeUkey at from a × IsNameInParentheses key a b × IsSign sign.Semicolon b to

  -- { decl | stmt }
  pub AreItems : BlockItems → Tokens → Tokens → Type 0
  AreItems NoItems from to = from ≡ to
  AreItems (Declare declaration others) from to = (a : Tokens) × IsDeclaration declaration from a × AreItems others a to
  AreItems (Execute statement others) from to = (a : Tokens) × IsStatement statement from a × AreItems others a to

  -- clause = ( "case" "{" "." Id "=" Id "}" | "default" ) ":" { decl | stmt }
  pub AreClauses : Clauses → Tokens → Tokens → Type 0
  AreClauses NoClauses from to = from ≡ to
  AreClauses (MoreClauses at pattern body others) from to =
      (a : Tokens) × (b : Tokens) × (c : Tokens) × IsPattern at pattern from a × IsSign sign.Colon a b × AreItems body b c × AreClauses others c to
