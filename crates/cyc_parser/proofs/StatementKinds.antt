-- What statements begin with.
use Rattle.std.proofs.Common.{◌≡◌, ℕ, suc, ◌≤◌, Bool, true, false, [], ◌∷◌, refl, arith}
use Rattle.std.proofs.lemmas.Bool.{or_right}
use Rattle.cyc_lexer.specs.Lexing.{Token}
use Rattle.cyc_lexer.specs.declared.token.Keyword.{Keyword}
use Rattle.cyc_lexer.specs.declared.token.Keyword.TheVariants as word
use Rattle.cyc_lexer.specs.declared.token.Sign.{Sign}
use Rattle.cyc_lexer.specs.declared.token.Sign.TheVariants as sign_of
use Rattle.cyc_lexer.specs.declared.token.TokenKind.{TokenKind}
use Rattle.cyc_lexer.specs.declared.token.TokenKind.TheVariants as kind
use Rattle.cyc_tree.specs.Tree.{Declaration, Statement, Empty, Block, Run, Exchange, If, IfElse, While, Switch, Break, Continue, Return, FreeUnique, FreeKey}
use Rattle.cyc_tree.specs.Tree.{NoClauses, MoreClauses}
use Rattle.source_grammar.specs.Phrases.{Tokens}
use Rattle.source_grammar.specs.StatementGrammar.{IsDeclaration, IsStatement}
use Rattle.cyc_parser.specs.Tests.{is_sign, is_keyword, begins_declaration, begins_unary, begins_control, begins_statement, begins_item, begins_clause}
use Rattle.cyc_parser.specs.Reader.{next_is}
use Rattle.cyc_parser.proofs.StatementsWithin.{goes_on_in_block}
use Rattle.cyc_parser.proofs.exactness.Unguarded.{begins_within}
use Rattle.cyc_parser.proofs.exactness.Expressions.{expression_begins}
use Rattle.cyc_parser.proofs.exactness.Declarations.{declaration_begins}

-- a number for each kind of statement, in the order in which the readers try them, by the first token
abbrev pub word_rank : Keyword → ℕ
word_rank word.If = 1
word_rank word.While = 2
word_rank word.Switch = 3
word_rank word.Break = 5
word_rank word.Continue = 6
word_rank word.Return = 7
word_rank word.Ufree = 8
word_rank word.FreeUkey = 9
word_rank _ = 10

abbrev pub sign_rank : Sign → ℕ
sign_rank sign_of.LeftBrace = 0
sign_rank sign_of.Semicolon = 4
sign_rank _ = 10

abbrev pub rank : TokenKind → ℕ
rank (kind.Keyword w) = word_rank w
rank (kind.Sign s) = sign_rank s
rank _ = 10

-- the first token is of this number or a greater one
abbrev pub Leads : ℕ → Tokens → Type 0
Leads least from = (t : Token) × (rest : Tokens) × (from ≡ t ∷ rest) × (least ≤ rank t.kind)

pub leads_less : (n : ℕ) (from : Tokens) → Leads (suc n) from → Leads n from
leads_less n from h = (h.0, h.1, h.2, omega (arith, h.3))

-- a test that only tokens of smaller numbers pass
pub leads_past : (test : TokenKind → Bool) (n : ℕ) → ((k : TokenKind) → n ≤ rank k → test k ≡ false)
    → (from : Tokens) → Leads n from → next_is test from ≡ false
leads_past test n past from h = rw h.2 (past h.0.kind h.3)

unary_rank : (k : TokenKind) → begins_unary k ≡ true → 10 ≤ rank k
unary_rank (kind.Keyword word.If) h = absurd cc
unary_rank (kind.Keyword word.While) h = absurd cc
unary_rank (kind.Keyword word.Switch) h = absurd cc
unary_rank (kind.Keyword word.Break) h = absurd cc
unary_rank (kind.Keyword word.Continue) h = absurd cc
unary_rank (kind.Keyword word.Return) h = absurd cc
unary_rank (kind.Keyword word.Ufree) h = absurd cc
unary_rank (kind.Keyword word.FreeUkey) h = absurd cc
unary_rank (kind.Sign sign_of.LeftBrace) h = absurd cc
unary_rank (kind.Sign sign_of.Semicolon) h = absurd cc
unary_rank _ h = omega arith

pub unary_leads : (from : Tokens) → next_is begins_unary from ≡ true → Leads 10 from
unary_leads [] h = absurd cc
unary_leads (t ∷ ts) h = (t, ts, refl, unary_rank t.kind h)

-- ---- tests that a greater number fails

pub past_block : (k : TokenKind) → 1 ≤ rank k → is_sign sign_of.LeftBrace k ≡ false
past_block (kind.Sign sign_of.LeftBrace) h = absurd (omega (arith, h))
past_block _ h = refl

pub past_if : (k : TokenKind) → 2 ≤ rank k → is_keyword word.If k ≡ false
past_if (kind.Keyword word.If) h = absurd (omega (arith, h))
past_if _ h = refl

pub past_while : (k : TokenKind) → 3 ≤ rank k → is_keyword word.While k ≡ false
past_while (kind.Keyword word.While) h = absurd (omega (arith, h))
past_while _ h = refl

pub past_switch : (k : TokenKind) → 4 ≤ rank k → is_keyword word.Switch k ≡ false
past_switch (kind.Keyword word.Switch) h = absurd (omega (arith, h))
past_switch _ h = refl

pub past_empty : (k : TokenKind) → 5 ≤ rank k → is_sign sign_of.Semicolon k ≡ false
past_empty (kind.Sign sign_of.Semicolon) h = absurd (omega (arith, h))
past_empty _ h = refl

pub past_break : (k : TokenKind) → 6 ≤ rank k → is_keyword word.Break k ≡ false
past_break (kind.Keyword word.Break) h = absurd (omega (arith, h))
past_break _ h = refl

pub past_continue : (k : TokenKind) → 7 ≤ rank k → is_keyword word.Continue k ≡ false
past_continue (kind.Keyword word.Continue) h = absurd (omega (arith, h))
past_continue _ h = refl

pub past_return : (k : TokenKind) → 8 ≤ rank k → is_keyword word.Return k ≡ false
past_return (kind.Keyword word.Return) h = absurd (omega (arith, h))
past_return _ h = refl

pub past_ufree : (k : TokenKind) → 9 ≤ rank k → is_keyword word.Ufree k ≡ false
past_ufree (kind.Keyword word.Ufree) h = absurd (omega (arith, h))
past_ufree _ h = refl

pub past_free_key : (k : TokenKind) → 10 ≤ rank k → is_keyword word.FreeUkey k ≡ false
past_free_key (kind.Keyword word.FreeUkey) h = absurd (omega (arith, h))
past_free_key _ h = refl

-- ---- tests that no token passes both

pub unary_no_semicolon : (k : TokenKind) → begins_unary k ≡ true → is_sign sign_of.Semicolon k ≡ false
unary_no_semicolon (kind.Sign sign_of.Semicolon) h = absurd cc
unary_no_semicolon _ h = refl

pub clause_no_block : (k : TokenKind) → begins_clause k ≡ true → goes_on_in_block k ≡ false
clause_no_block (kind.Keyword word.Case) h = refl
clause_no_block (kind.Keyword word.Default) h = refl
clause_no_block _ h = absurd cc

pub item_no_else : (k : TokenKind) → begins_item k ≡ true → is_keyword word.Else k ≡ false
item_no_else (kind.Keyword word.Else) h = absurd cc
item_no_else _ h = refl

pub statement_no_declaration : (k : TokenKind) → begins_statement k ≡ true → begins_declaration k ≡ false
statement_no_declaration (kind.Keyword word.Int) h = absurd cc
statement_no_declaration (kind.Keyword word.Unsigned) h = absurd cc
statement_no_declaration (kind.Keyword word.Char) h = absurd cc
statement_no_declaration (kind.Keyword word.Void) h = absurd cc
statement_no_declaration (kind.Keyword word.Struct) h = absurd cc
statement_no_declaration (kind.Keyword word.Union) h = absurd cc
statement_no_declaration (kind.Keyword word.RegionT) h = absurd cc
statement_no_declaration (kind.Keyword word.UregionKeyT) h = absurd cc
statement_no_declaration (kind.Keyword word.Region) h = absurd cc
statement_no_declaration (kind.Keyword word.Let) h = absurd cc
statement_no_declaration _ h = refl

unary_begins : (k : TokenKind) → begins_unary k ≡ true → begins_statement k ≡ true
unary_begins k h = or_right (begins_control k) (begins_unary k) h

declaration_item : (k : TokenKind) → begins_declaration k ≡ true → begins_item k ≡ true
declaration_item k h = rw h refl

statement_item : (k : TokenKind) → begins_statement k ≡ true → begins_item k ≡ true
statement_item k h = or_right (begins_declaration k) (begins_statement k) h

-- ---- the first token of a phrase

pub statement_begins : (s : Statement) (from to : Tokens) → IsStatement s from to → next_is begins_statement from ≡ true
statement_begins (Empty at) from to w = rw w.1 refl
statement_begins (Block at items) from to w = rw w.2.1 refl
statement_begins (Run e) from to w = begins_within begins_unary begins_statement unary_begins from (expression_begins e from w.0 w.1)
statement_begins (Exchange left right) from to w = begins_within begins_unary begins_statement unary_begins from (expression_begins left from w.0 w.3)
statement_begins (If at condition body) from to w = rw w.2.1 refl
statement_begins (IfElse at condition body otherwise) from to w = rw w.4.1 refl
statement_begins (While at condition body) from to w = rw w.2.1 refl
statement_begins (Switch at place NoClauses) from to w = absurd w
statement_begins (Switch at place (MoreClauses first pattern body others)) from to w = rw w.4.1 refl
statement_begins (Break at) from to w = rw w.1.1 refl
statement_begins (Continue at) from to w = rw w.1.1 refl
statement_begins (Return at value) from to w = rw w.1.1 refl
statement_begins (FreeUnique at pointer) from to w = rw w.2.1 refl
statement_begins (FreeKey at key) from to w = rw w.2.1 refl

pub declaration_begins_item : (x : Declaration) (from to : Tokens) → IsDeclaration x from to → next_is begins_item from ≡ true
declaration_begins_item x from to w = begins_within begins_declaration begins_item declaration_item from (declaration_begins x from to w)

pub statement_begins_item : (s : Statement) (from to : Tokens) → IsStatement s from to → next_is begins_item from ≡ true
statement_begins_item s from to w = begins_within begins_statement begins_item statement_item from (statement_begins s from to w)
