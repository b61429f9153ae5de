-- Believed: the grammar of types. A line in quotes is the production that the definition restates.
use Rattle.std.specs.Prelude.{◌≡◌, ◌⊎◌, ℕ, Bool, List, [], ◌∷◌, Option, Some, None}
use Rattle.cyc_lexer.specs.declared.token.Keyword.TheVariants as word
use Rattle.cyc_lexer.specs.declared.token.Sign.{Sign}
use Rattle.cyc_lexer.specs.declared.token.TokenKind.TheVariants as kind
use Rattle.cyc_lexer.specs.declared.token.Sign.TheVariants as sign
use Rattle.cyc_tree.specs.declared.name.Sign as tree_sign
use Rattle.cyc_tree.specs.declared.name.Sign.TheVariants as pointer_sign
use Rattle.cyc_tree.specs.Tree.{RegionName, Base, Int, Unsigned, Char, Void, Struct, Union, Handle, Key, Pointer, TypeName, Member}
use Rattle.source_grammar.specs.Phrases.{Tokens, IsOne, IsKeyword, IsSign, IsName, IsRegion, StartsAt, Each, Listed}

-- regs = "<" Rg { "," Rg } ">", or nothing
abbrev pub AreRegions : List RegionName → Tokens → Tokens → Type 0
AreRegions [] from to = from ≡ to
AreRegions (r ∷ rs) from to = (a : Tokens) × (b : Tokens) × IsSign sign.Less from a × Listed IsRegion (r ∷ rs) a b × IsSign sign.Greater b to

-- "<" Rg ">"
abbrev pub IsOneRegion : RegionName → Tokens → Tokens → Type 0
IsOneRegion r from to = (a : Tokens) × (b : Tokens) × IsSign sign.Less from a × IsRegion r a b × IsSign sign.Greater b to

-- base = "int" | "unsigned" ["int"] | "char" | "void" | "struct" Id [regs] | "union" Id [regs] | "region_t" "<" Rg ">" | "uregion_key_t" "<" Rg ">"
abbrev pub IsBase : Base → Tokens → Tokens → Type 0
IsBase Int from to = IsKeyword word.Int from to
IsBase Unsigned from to = (a : Tokens) × IsKeyword word.Unsigned from a × (IsKeyword word.Int a to ⊎ (a ≡ to))
IsBase Char from to = IsKeyword word.Char from to
IsBase Void from to = IsKeyword word.Void from to
IsBase (Struct tag arguments) from to = (a : Tokens) × (b : Tokens) × IsKeyword word.Struct from a × IsName tag a b × AreRegions arguments b to
IsBase (Union tag arguments) from to = (a : Tokens) × (b : Tokens) × IsKeyword word.Union from a × IsName tag a b × AreRegions arguments b to
IsBase (Handle region) from to = (a : Tokens) × IsKeyword word.RegionT from a × IsOneRegion region a to
IsBase (Key region) from to = (a : Tokens) × IsKeyword word.UregionKeyT from a × IsOneRegion region a to

-- one sign, and another behind it
abbrev pub AreSigns : (first second : Sign) → Tokens → Tokens → Type 0
AreSigns first second from to = (a : Tokens) × IsSign first from a × IsSign second a to

-- "{" Num "}"
abbrev pub IsCount : ℕ → Tokens → Tokens → Type 0
IsCount count from to =
    (a : Tokens) × (b : Tokens) × (suffix : Bool) × (at : ℕ) × IsSign sign.LeftBrace from a × IsOne (kind.Number count suffix) at a b
    × IsSign sign.RightBrace b to

-- [ "{" Num "}" ], which is 1 where it isn't there
abbrev pub MayBeCount : ℕ → Tokens → Tokens → Type 0
MayBeCount count from to = IsCount count from to ⊎ ((count ≡ 1) × (from ≡ to))

-- "*" [ "@thin" | "@fat" | [ "@notnull" ] "{" Num "}" | "@notnull" ] | "@" [ "{" Num "}" ] | "?"
abbrev pub IsPointerSign : tree_sign.Sign → Tokens → Tokens → Type 0
IsPointerSign (pointer_sign.Nullable count) from to =
    ((a : Tokens) × IsSign sign.Star from a × MayBeCount count a to) ⊎ ((count ≡ 1) × AreSigns sign.Star sign.Thin from to)
IsPointerSign (pointer_sign.NotNull count) from to =
    ((a : Tokens) × IsSign sign.At from a × MayBeCount count a to) ⊎ ((a : Tokens) × AreSigns sign.Star sign.NotNull from a × MayBeCount count a to)
IsPointerSign pointer_sign.Fat from to = IsSign sign.Question from to ⊎ AreSigns sign.Star sign.FatSign from to

-- [Rg]
abbrev pub MayBeRegion : Option RegionName → Tokens → Tokens → Type 0
MayBeRegion None from to = from ≡ to
MayBeRegion (Some r) from to = IsRegion r from to

-- ptr = ( "*" [ "@thin" | "@fat" | [ "@notnull" ] "{" Num "}" | "@notnull" ] | "@" [ "{" Num "}" ] | "?" ) [Rg]
abbrev pub IsPointer : Pointer → Tokens → Tokens → Type 0
IsPointer p from to = (a : Tokens) × IsPointerSign p.sign from a × MayBeRegion p.region a to

-- type = base { ptr }; its place is that of its first token
abbrev pub IsType : TypeName → Tokens → Tokens → Type 0
IsType t from to = (a : Tokens) × StartsAt t.at from × IsBase t.base from a × Each IsPointer t.pointers a to

-- param = type Id
abbrev pub IsTyped : Member → Tokens → Tokens → Type 0
IsTyped m from to = (a : Tokens) × IsType m.of from a × IsName m.name a to
