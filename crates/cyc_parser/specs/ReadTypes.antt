-- View of code: readers of names, types and constants.
use Rattle.std.specs.Prelude.{ℕ, Bool, false, List, [], Some, None, codes, if◌then◌else◌}
use Rattle.cyc_lexer.specs.Lexing.{Token}
use Rattle.cyc_lexer.specs.Reading.{same}
use Rattle.cyc_lexer.specs.Spelling.{text_bytes}
use Rattle.cyc_lexer.specs.declared.token.Keyword.TheVariants as word
use Rattle.cyc_lexer.specs.declared.token.Sign.TheVariants as sign_of
use Rattle.cyc_lexer.specs.declared.token.TokenKind.{TokenKind}
use Rattle.cyc_lexer.specs.declared.token.TokenKind.TheVariants as kind
use Rattle.cyc_tree.specs.declared.name.Sign.{Sign as PointerSign}
use Rattle.cyc_tree.specs.declared.name.Sign.TheVariants as pointer_sign
use Rattle.cyc_tree.specs.Tree as tree
use Rattle.cyc_tree.specs.Tree.{Name, RegionName, Heap, Unique, Named, Base, Int, Unsigned, Char, Void, Struct, Union, Handle, Key, Pointer, TypeName, Member}
use Rattle.source_grammar.specs.Phrases.{Tokens, after_backquote}
use Rattle.cyc_parser.specs.Tests.{is_sign, is_keyword, is_identifier, is_region, is_number, begins_type, begins_pointer, begins_constant}
use Rattle.cyc_parser.specs.Reader.{Outcome, done, read, token, choose, placed, many, sign, keyword, listed}

-- ---- single tokens

abbrev pub name_of : Token → Name
name_of t = record { at = t.at; text = t.text }

unfoldable pub name : Tokens → Outcome Name
name = read (token is_identifier) (λ t. done (name_of t))

abbrev pub region_of : Token → RegionName
region_of t =
    if same t.text (codes "`H") then Heap t.at else (if same t.text (codes "`U") then Unique t.at else Named
    (record { at = t.at; text = after_backquote t.text }))

unfoldable pub region : Tokens → Outcome RegionName
region = read (token is_region) (λ t. done (region_of t))

-- a number's value, and whether it has the suffix
abbrev pub value_of : TokenKind → ℕ × Bool
value_of (kind.Number value suffix) = (value, suffix)
value_of _ = (0, false)

unfoldable pub number : Tokens → Outcome (ℕ × Bool)
number = read (token is_number) (λ t. done (value_of t.kind))

-- ---- regions

unfoldable pub one_region : Tokens → Outcome RegionName
one_region = read (sign sign_of.Less) (λ _. read region (λ r. read (sign sign_of.Greater) (λ _. done r)))

unfoldable pub regions : Tokens → Outcome (List RegionName)
regions = listed region

unfoldable pub region_list : Tokens → Outcome (List RegionName)
region_list =
    choose (is_sign sign_of.Less) (read (sign sign_of.Less) (λ _. read regions (λ rs. read (sign sign_of.Greater) (λ _. done rs)))) (done [])

-- ---- types

-- what stands behind a type's first word
abbrev pub base_behind : TokenKind → Tokens → Outcome Base
base_behind (kind.Keyword word.Unsigned) = choose (is_keyword word.Int) (read (keyword word.Int) (λ _. done Unsigned)) (done Unsigned)
base_behind (kind.Keyword word.Char) = done Char
base_behind (kind.Keyword word.Void) = done Void
base_behind (kind.Keyword word.Struct) = read name (λ tag. read region_list (λ rs. done (Struct tag rs)))
base_behind (kind.Keyword word.Union) = read name (λ tag. read region_list (λ rs. done (Union tag rs)))
base_behind (kind.Keyword word.RegionT) = read one_region (λ r. done (Handle r))
base_behind (kind.Keyword word.UregionKeyT) = read one_region (λ r. done (Key r))
base_behind _ = done Int

unfoldable pub base : Tokens → Outcome Base
base = read (token begins_type) (λ t. base_behind t.kind)

-- "{" Num "}", how many elements a pointer points to; 1 where no such number is written
unfoldable pub pointee_count : Tokens → Outcome ℕ
pointee_count =
    choose (is_sign sign_of.LeftBrace) (read (sign sign_of.LeftBrace) (λ _. read number (λ n. read (sign sign_of.RightBrace) (λ _. done n.0)))) (done 1)

-- what may stand behind `*`
unfoldable pub qualified : Tokens → Outcome PointerSign
qualified =
    choose (is_sign sign_of.NotNull) (read (sign sign_of.NotNull) (λ _. read pointee_count (λ n. done (pointer_sign.NotNull n))))
    (choose (is_sign sign_of.FatSign) (read (sign sign_of.FatSign) (λ _. done pointer_sign.Fat))
    (choose (is_sign sign_of.Thin) (read (sign sign_of.Thin) (λ _. done (pointer_sign.Nullable 1))) (read pointee_count (λ n. done (pointer_sign.Nullable n)))))

abbrev pub pointer_sign_behind : TokenKind → Tokens → Outcome PointerSign
pointer_sign_behind (kind.Sign sign_of.Star) = qualified
pointer_sign_behind (kind.Sign sign_of.At) = read pointee_count (λ n. done (pointer_sign.NotNull n))
pointer_sign_behind _ = done pointer_sign.Fat

unfoldable pub pointer_sign_read : Tokens → Outcome PointerSign
pointer_sign_read = read (token begins_pointer) (λ t. pointer_sign_behind t.kind)

unfoldable pub pointer : Tokens → Outcome Pointer
pointer =
    read pointer_sign_read (λ s. choose is_region (read region (λ r. done (record { sign = s; region = Some r }))) (done (record { sign = s; region = None })))

unfoldable pub pointers : Tokens → Outcome (List Pointer)
pointers = many begins_pointer pointer

unfoldable pub type_name : Tokens → Outcome TypeName
type_name = read (placed base) (λ b. read pointers (λ ps. done (record { at = b.0; base = b.1; pointers = ps })))

unfoldable pub typed_name : Tokens → Outcome Member
typed_name = read type_name (λ t. read name (λ n. done (record { of = t; name = n })))

-- ---- counts and constants

unfoldable pub element_count : Tokens → Outcome ℕ
element_count = read (sign sign_of.LeftBracket) (λ _. read number (λ n. read (sign sign_of.RightBracket) (λ _. done n.0)))

-- a constant, from its first token
abbrev pub constant_behind : Token → TokenKind → Tokens → Outcome tree.Constant
constant_behind t (kind.Number value suffix) = done (tree.Constant.Number t.at value suffix)
constant_behind t (kind.Sign s) = read number (λ n. done (tree.Constant.Negative t.at n.0 n.1))
constant_behind t (kind.Character byte) = done (tree.Constant.Character t.at byte)
constant_behind t kind.Text = done (tree.Constant.Text t.at (text_bytes t.text))
constant_behind t _ = done (tree.Constant.Null t.at)

unfoldable pub constant : Tokens → Outcome tree.Constant
constant = read (token begins_constant) (λ t. constant_behind t t.kind)
