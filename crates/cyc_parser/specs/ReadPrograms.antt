-- View of code: readers of functions, items and programs. Where phrases may nest, `most` is how many may.
use Rattle.std.specs.Prelude.{ℕ, List, [], ◌∷◌, Option, Some, None}
use Rattle.cyc_lexer.specs.declared.token.Keyword.TheVariants as word
use Rattle.cyc_lexer.specs.declared.token.Sign.TheVariants as sign_of
use Rattle.cyc_tree.specs.Tree.{Name, RegionName, Void, Struct, TypeName, Member, Structure, Initial, Given, Bound, Function, Item, StructItem, UnionItem}
use Rattle.cyc_tree.specs.Tree.{GlobalItem, FunctionItem}
use Rattle.cyc_tree.specs.View.{items_of}
use Rattle.cyc_parser.specs.Tests.{is_any, is_sign, is_keyword, is_region, begins_type, begins_declarator}
use Rattle.cyc_parser.specs.Reader.{done, read, choose, many, sign, keyword, behind, listed}
use Rattle.cyc_parser.specs.ReadTypes.{name, region, regions, region_list, pointers, type_name, typed_name, element_count, constant}
use Rattle.cyc_parser.specs.ReadExpressions.{Reads, expression_at}
use Rattle.cyc_parser.specs.ReadStatements.{items_by, statement_at}

-- ---- functions

-- `void` alone says that there are no parameters
unfoldable pub void_parameter : Reads (Option Member)
void_parameter =
    read (keyword word.Void) (λ at. choose begins_declarator
    (read pointers (λ ps. read name (λ n. done (Some (record { of = record { at = at; base = Void; pointers = ps }; name = n }))))) (done None))

-- behind the word that it begins with, which stands there
abbrev pub void_behind : ℕ → Reads (Option Member)
void_behind at =
    choose begins_declarator
    (read pointers (λ ps. read name (λ n. done (Some (record { of = record { at = at; base = Void; pointers = ps }; name = n }))))) (done None)

unfoldable pub first_parameter : Reads (Option Member)
first_parameter =
    choose begins_type (choose (is_keyword word.Void) void_parameter (read typed_name (λ m. done (Some m)))) (done None)

-- the parameters behind the first one, where there is one
unfoldable pub other_parameters : Option Member → Reads (List Member)
other_parameters None = done []
other_parameters (Some first) = read (many (is_sign sign_of.Comma) (behind sign_of.Comma typed_name)) (λ others. done (first ∷ others))

unfoldable pub parameters : Reads (List Member)
parameters = read first_parameter (λ first. other_parameters first)

unfoldable pub effect : Reads (Option (List RegionName))
effect =
    choose (is_sign sign_of.Semicolon)
    (read (sign sign_of.Semicolon) (λ _. read (sign sign_of.LeftBrace) (λ _. read (choose is_region regions (done [])) (λ rs.
    read (sign sign_of.RightBrace) (λ _. done (Some rs)))))) (done None)

unfoldable pub bound : Reads Bound
bound = read region (λ longer. read (sign sign_of.Greater) (λ _. read region (λ shorter. done (record { longer = longer; shorter = shorter }))))

unfoldable pub bounds : Reads (List Bound)
bounds = choose (is_sign sign_of.Colon) (read (sign sign_of.Colon) (λ _. listed bound)) (done [])

unfoldable pub function_of : ℕ → TypeName → Name → Reads Function
function_of most result n =
    read (sign sign_of.LeftParenthesis) (λ _. read parameters (λ ps. read effect (λ e. read bounds (λ bs. read (sign sign_of.RightParenthesis) (λ _.
    read (sign sign_of.LeftBrace) (λ _. read (items_by (expression_at most) (statement_at most)) (λ is.
    read (sign sign_of.RightBrace) (λ end.
    done (record { result = result; name = n; parameters = ps; effect = e; bounds = bs; body = items_of is; end = end })))))))))

abbrev pub function_behind : ℕ → TypeName → Name → Reads Function
function_behind most result n =
    read parameters (λ ps. read effect (λ e. read bounds (λ bs. read (sign sign_of.RightParenthesis) (λ _.
    read (sign sign_of.LeftBrace) (λ _. read (items_by (expression_at most) (statement_at most)) (λ is.
    read (sign sign_of.RightBrace) (λ end.
    done (record { result = result; name = n; parameters = ps; effect = e; bounds = bs; body = items_of is; end = end }))))))))

-- ---- items

unfoldable pub member : Reads Member
member = read typed_name (λ m. read (sign sign_of.Semicolon) (λ _. done m))

unfoldable pub members : Reads (List Member)
members =
    read (sign sign_of.LeftBrace) (λ _. read member (λ m. read (many begins_type member) (λ ms. read (sign sign_of.RightBrace) (λ _.
    read (sign sign_of.Semicolon) (λ _. done (m ∷ ms))))))

unfoldable pub tagged_union : Reads Structure
tagged_union =
    read (sign sign_of.Tagged) (λ at. read (keyword word.Union) (λ _. read name (λ tag. read region_list (λ rs. read members (λ ms.
    done (record { at = at; tag = tag; regions = rs; members = ms }))))))

abbrev pub union_behind : ℕ → Reads Structure
union_behind at =
    read (keyword word.Union) (λ _. read name (λ tag. read region_list (λ rs. read members (λ ms.
    done (record { at = at; tag = tag; regions = rs; members = ms })))))

unfoldable pub initial : Reads Initial
initial =
    choose (is_sign sign_of.Assign) (read (sign sign_of.Assign) (λ _. read constant (λ c. done (Given c))))
    (choose (is_sign sign_of.LeftBracket) (read element_count (λ n. done (Initial.Elements n))) (done Initial.Unset))

-- a global or a function, from its name on
unfoldable pub typed : ℕ → TypeName → Reads Item
typed most t =
    read name (λ n. choose (is_sign sign_of.LeftParenthesis) (read (function_of most t n) (λ f. done (FunctionItem f)))
    (read initial (λ i. read (sign sign_of.Semicolon) (λ _. done (GlobalItem (record { of = t; name = n; initial = i }))))))

-- a struct, or what has a struct's type
unfoldable pub struct_or_typed : ℕ → Reads Item
struct_or_typed most =
    read (keyword word.Struct) (λ at. read name (λ tag. read region_list (λ rs. choose (is_sign sign_of.LeftBrace)
    (read members (λ ms. done (StructItem (record { at = at; tag = tag; regions = rs; members = ms }))))
    (read pointers (λ ps. typed most (record { at = at; base = Struct tag rs; pointers = ps }))))))

abbrev pub struct_behind : ℕ → ℕ → Reads Item
struct_behind most at =
    read name (λ tag. read region_list (λ rs. choose (is_sign sign_of.LeftBrace)
    (read members (λ ms. done (StructItem (record { at = at; tag = tag; regions = rs; members = ms }))))
    (read pointers (λ ps. typed most (record { at = at; base = Struct tag rs; pointers = ps })))))

unfoldable pub item : ℕ → Reads Item
item most =
    choose (is_sign sign_of.Tagged) (read tagged_union (λ u. done (UnionItem u)))
    (choose (is_keyword word.Struct) (struct_or_typed most) (read type_name (λ t. typed most t)))

-- a program: items up to the end
unfoldable pub program : ℕ → Reads (List Item)
program most = read (item most) (λ i. read (many is_any (item most)) (λ is. done (i ∷ is)))
