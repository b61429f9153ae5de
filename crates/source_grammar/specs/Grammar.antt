-- Believed: the grammar of programs. A line in quotes is the production that the definition restates.
use Rattle.std.specs.Prelude.{◌≡◌, ◌⊎◌, ℕ, List, [], ◌∷◌, Option, Some, None}
use Rattle.cyc_lexer.specs.declared.token.Keyword.TheVariants as word
use Rattle.cyc_lexer.specs.declared.token.Sign.TheVariants as sign
use Rattle.cyc_lexer.specs.declared.token.TokenKind.TheVariants as kind
use Rattle.cyc_tree.specs.Tree as tree
use Rattle.cyc_tree.specs.Tree.{RegionName, Member, Structure, Initial, Given, Global, Bound, Function, Item, StructItem, UnionItem, GlobalItem, FunctionItem}
use Rattle.cyc_tree.specs.Tree.{Program}
use Rattle.source_grammar.specs.Phrases.{Tokens, IsOne, KeywordAt, SignAt, IsKeyword, IsSign, IsName, IsString, IsRegion, Each, Listed}
use Rattle.source_grammar.specs.TypeGrammar.{AreRegions, IsType, IsTyped}
use Rattle.source_grammar.specs.StatementGrammar.{IsCount, AreItems}

-- ---- structs and unions

-- member = type Id ";"
abbrev pub IsMember : Member → Tokens → Tokens → Type 0
IsMember m from to = (a : Tokens) × IsTyped m from a × IsSign sign.Semicolon a to

-- "{" member { member } "}" ";"
abbrev pub AreMembers : List Member → Tokens → Tokens → Type 0
AreMembers [] from to = ⊥
AreMembers (m ∷ ms) from to =
    (a : Tokens) × (b : Tokens) × (c : Tokens) × IsSign sign.LeftBrace from a × Each IsMember (m ∷ ms) a b × IsSign sign.RightBrace b c
    × IsSign sign.Semicolon c to

-- Id [regs] "{" member { member } "}" ";"
abbrev pub IsStructure : Structure → Tokens → Tokens → Type 0
IsStructure s from to = (a : Tokens) × (b : Tokens) × IsName s.tag from a × AreRegions s.regions a b × AreMembers s.members b to

-- ---- globals

-- const = ["-"] Num | Char | String | "NULL"
abbrev pub IsConstant : tree.Constant → Tokens → Tokens → Type 0
IsConstant (tree.Constant.Number at value suffix) from to = IsOne (kind.Number value suffix) at from to
IsConstant (tree.Constant.Negative at value suffix) from to =
    (a : Tokens) × (place : ℕ) × SignAt sign.Minus at from a × IsOne (kind.Number value suffix) place a to
IsConstant (tree.Constant.Character at byte) from to = IsOne (kind.Character byte) at from to
IsConstant (tree.Constant.Text at bytes) from to = IsString at bytes from to
IsConstant (tree.Constant.Null at) from to = KeywordAt word.Null at from to

-- [ "[" Num "]" | "=" const ]
abbrev pub IsInitial : Initial → Tokens → Tokens → Type 0
IsInitial Initial.Unset from to = from ≡ to
IsInitial (Initial.Elements count) from to = IsCount count from to
IsInitial (Given constant) from to = (a : Tokens) × IsSign sign.Assign from a × IsConstant constant a to

-- ---- functions

-- [ "void" | param { "," param } ]
abbrev pub AreParameters : List Member → Tokens → Tokens → Type 0
AreParameters [] from to = (from ≡ to) ⊎ IsKeyword word.Void from to
AreParameters (m ∷ ms) from to = Listed IsTyped (m ∷ ms) from to

-- [ Rg { "," Rg } ]
abbrev pub MayBeListed : List RegionName → Tokens → Tokens → Type 0
MayBeListed [] from to = from ≡ to
MayBeListed (r ∷ rs) from to = Listed IsRegion (r ∷ rs) from to

-- [ ";" "{" [ Rg { "," Rg } ] "}" ]
abbrev pub IsEffect : Option (List RegionName) → Tokens → Tokens → Type 0
IsEffect None from to = from ≡ to
IsEffect (Some regions) from to =
    (a : Tokens) × (b : Tokens) × (c : Tokens) × IsSign sign.Semicolon from a × IsSign sign.LeftBrace a b × MayBeListed regions b c
    × IsSign sign.RightBrace c to

-- bound = Rg ">" Rg
abbrev pub IsBound : Bound → Tokens → Tokens → Type 0
IsBound bound from to = (a : Tokens) × (b : Tokens) × IsRegion bound.longer from a × IsSign sign.Greater a b × IsRegion bound.shorter b to

-- [ ":" bound { "," bound } ]
abbrev pub AreBounds : List Bound → Tokens → Tokens → Type 0
AreBounds [] from to = from ≡ to
AreBounds (bound ∷ bounds) from to = (a : Tokens) × IsSign sign.Colon from a × Listed IsBound (bound ∷ bounds) a to

-- "(" [ "void" | param { "," param } ] [ ";" "{" [ Rg { "," Rg } ] "}" ] [ ":" bound { "," bound } ] ")" "{" { decl | stmt } "}"
abbrev pub IsFunctionRest : Function → Tokens → Tokens → Type 0
IsFunctionRest f from to =
    (a : Tokens) × (b : Tokens) × (c : Tokens) × (d : Tokens) × (e : Tokens) × (g : Tokens) × (h : Tokens) × IsSign sign.LeftParenthesis from a
    × AreParameters f.parameters a b
    × IsEffect f.effect b c × AreBounds f.bounds c d × IsSign sign.RightParenthesis d e × IsSign sign.LeftBrace e g × AreItems f.body g h
    × SignAt sign.RightBrace f.end h to

-- ---- items

abbrev pub IsItem : Item → Tokens → Tokens → Type 0
-- struct = "struct" Id [regs] "{" member { member } "}" ";"
IsItem (StructItem s) from to = (a : Tokens) × KeywordAt word.Struct s.at from a × IsStructure s a to
-- union = "@tagged" "union" Id [regs] "{" member { member } "}" ";"
IsItem (UnionItem s) from to = (a : Tokens) × (b : Tokens) × SignAt sign.Tagged s.at from a × IsKeyword word.Union a b × IsStructure s b to
-- global = type Id [ "[" Num "]" | "=" const ] ";"
IsItem (GlobalItem g) from to =
    (a : Tokens) × (b : Tokens) × (c : Tokens) × IsType g.of from a × IsName g.name a b × IsInitial g.initial b c × IsSign sign.Semicolon c to
-- function = type Id "(" [ "void" | param { "," param } ] .. ")" block
IsItem (FunctionItem f) from to = (a : Tokens) × (b : Tokens) × IsType f.result from a × IsName f.name a b × IsFunctionRest f b to

-- program = item { item }
abbrev pub IsProgram : Program → Tokens → Type 0
IsProgram [] tokens = ⊥
IsProgram (item ∷ items) tokens = Each IsItem (item ∷ items) tokens []
