-- Phrases take tokens: so many fewer are left behind each.
use Rattle.std.proofs.Common.{◌≡◌, ℕ, ◌+◌, suc, ◌≤◌, List, [], ◌∷◌, length, Option, Some, None, ap, inl, inr, ⊎_elim, arith}
use Rattle.cyc_lexer.specs.declared.token.Keyword.{Keyword}
use Rattle.cyc_lexer.specs.declared.token.Sign.{Sign}
use Rattle.cyc_lexer.specs.declared.token.Sign.TheVariants as sign
use Rattle.cyc_lexer.specs.declared.token.TokenKind.{TokenKind}
use Rattle.cyc_tree.specs.declared.name.Sign as tree_sign
use Rattle.cyc_tree.specs.declared.name.Sign.TheVariants as pointer_sign
use Rattle.cyc_tree.specs.Tree.{Name, RegionName, Heap, Unique, Named, Base, Int, Unsigned, Char, Void, Struct, Union, Handle, Key, Pointer, TypeName, Case}
use Rattle.source_grammar.specs.Phrases.{Tokens, IsOne, IsKeyword, IsSign, IsName, IsString, IsRegion, InParentheses, Each, Behind, Listed}
use Rattle.source_grammar.specs.TypeGrammar.{AreRegions, IsOneRegion, IsBase, AreSigns, MayBeCount, IsPointerSign, MayBeRegion, IsPointer, IsType}
use Rattle.source_grammar.specs.StatementGrammar.{IsCount, IsNameInParentheses, IsPattern}

-- ---- single tokens

-- one token is taken
pub one_taken : {k : TokenKind} {at : ℕ} {from to : Tokens} → IsOne k at from to → length from ≡ suc (length to)
one_taken (text, is) = ap length is

pub keyword_taken : {word : Keyword} {from to : Tokens} → IsKeyword word from to → length from ≡ suc (length to)
keyword_taken (at, is) = one_taken is

pub sign_taken : {s : Sign} {from to : Tokens} → IsSign s from to → length from ≡ suc (length to)
sign_taken (at, is) = one_taken is

pub name_taken : {n : Name} {from to : Tokens} → IsName n from to → length from ≡ suc (length to)
name_taken is = ap length is

pub string_taken : {at : ℕ} {bytes : List ℕ} {from to : Tokens} → IsString at bytes from to → length from ≡ suc (length to)
string_taken (text, is, means) = ap length is

region_taken : (r : RegionName) (from to : Tokens) → IsRegion r from to → length from ≡ suc (length to)
region_taken (Heap at) from to is = ap length is
region_taken (Unique at) from to is = ap length is
region_taken (Named n) from to (text, is, spelled, other, another) = ap length is

pub region_shorter : (r : RegionName) (from to : Tokens) → IsRegion r from to → length to ≤ length from
region_shorter r from to is = omega (arith, region_taken r from to is)

-- no token is taken
pub none_taken : {from to : Tokens} → from ≡ to → length to ≤ length from
none_taken is = omega (arith, ap length is)

-- ---- lists of phrases

-- phrases each of which takes tokens, or none
each_shorter : {A : Type 0} (Is : A → Tokens → Tokens → Type 0) → ((x : A) (from to : Tokens) → Is x from to → length to ≤ length from)
    → (xs : List A) (from to : Tokens) → Each Is xs from to → length to ≤ length from
each_shorter Is shorter [] from to is = none_taken is
each_shorter Is shorter (x ∷ xs) from to (a, first, others) =
    omega (arith, shorter x from a first, each_shorter Is shorter xs a to others)

pub listed_shorter : {A : Type 0} (Is : A → Tokens → Tokens → Type 0) → ((x : A) (from to : Tokens) → Is x from to → length to ≤ length from)
    → (xs : List A) (from to : Tokens) → Listed Is xs from to → length to ≤ length from
listed_shorter Is shorter [] from to is = absurd is
listed_shorter Is shorter (x ∷ xs) from to (a, first, others) =
    omega (arith, shorter x from a first, each_shorter (Behind sign.Comma Is) behind xs a to others)
  where
    behind : (y : _) (b c : Tokens) → Behind sign.Comma Is y b c → length c ≤ length b
    behind y b c (e, comma, is) = omega (arith, sign_taken comma, shorter y e c is)

-- ---- types

pub regions_shorter : (rs : List RegionName) (from to : Tokens) → AreRegions rs from to → length to ≤ length from
regions_shorter [] from to is = none_taken is
regions_shorter (r ∷ rs) from to (a, b, less, are, greater) =
    omega (arith, sign_taken less, listed_shorter IsRegion region_shorter (r ∷ rs) a b are, sign_taken greater)

pub one_region_shorter : (r : RegionName) (from to : Tokens) → IsOneRegion r from to → length to ≤ length from
one_region_shorter r from to (a, b, less, is, greater) = omega (arith, sign_taken less, region_taken r a b is, sign_taken greater)

base_shorter : (base : Base) (from to : Tokens) → IsBase base from to → length to ≤ length from
base_shorter Int from to is = omega (arith, keyword_taken is)
base_shorter Unsigned from to (a, unsigned, int) = omega (arith, keyword_taken unsigned, may_be)
  where
    may_be : length to ≤ length a
    may_be = ⊎_elim (λ is. omega (arith, keyword_taken is)) none_taken int
base_shorter Char from to is = omega (arith, keyword_taken is)
base_shorter Void from to is = omega (arith, keyword_taken is)
base_shorter (Struct tag arguments) from to (a, b, word, name, are) =
    omega (arith, keyword_taken word, name_taken name, regions_shorter arguments b to are)
base_shorter (Union tag arguments) from to (a, b, word, name, are) =
    omega (arith, keyword_taken word, name_taken name, regions_shorter arguments b to are)
base_shorter (Handle region) from to (a, word, is) = omega (arith, keyword_taken word, one_region_shorter region a to is)
base_shorter (Key region) from to (a, word, is) = omega (arith, keyword_taken word, one_region_shorter region a to is)

signs_shorter : {first second : Sign} {from to : Tokens} → AreSigns first second from to → length to ≤ length from
signs_shorter (a, one, other) = omega (arith, sign_taken one, sign_taken other)

pointee_count_shorter : (count : ℕ) (from to : Tokens) → MayBeCount count from to → length to ≤ length from
pointee_count_shorter count from to (inl (a, b, suffix, at, opened, is, closed)) = omega (arith, sign_taken opened, one_taken is, sign_taken closed)
pointee_count_shorter count from to (inr (one, none)) = none_taken none

pointer_sign_shorter : (s : tree_sign.Sign) (from to : Tokens) → IsPointerSign s from to → length to ≤ length from
pointer_sign_shorter (pointer_sign.Nullable count) from to (inl (a, is, counted)) = omega (arith, sign_taken is, pointee_count_shorter count a to counted)
pointer_sign_shorter (pointer_sign.Nullable count) from to (inr (one, are)) = signs_shorter are
pointer_sign_shorter (pointer_sign.NotNull count) from to (inl (a, is, counted)) = omega (arith, sign_taken is, pointee_count_shorter count a to counted)
pointer_sign_shorter (pointer_sign.NotNull count) from to (inr (a, are, counted)) = omega (arith, signs_shorter are, pointee_count_shorter count a to counted)
pointer_sign_shorter pointer_sign.Fat from to (inl is) = omega (arith, sign_taken is)
pointer_sign_shorter pointer_sign.Fat from to (inr are) = signs_shorter are

may_be_region_shorter : (r : Option RegionName) (from to : Tokens) → MayBeRegion r from to → length to ≤ length from
may_be_region_shorter None from to is = none_taken is
may_be_region_shorter (Some r) from to is = region_shorter r from to is

pointer_shorter : (p : Pointer) (from to : Tokens) → IsPointer p from to → length to ≤ length from
pointer_shorter p from to (a, s, r) = omega (arith, pointer_sign_shorter p.sign from a s, may_be_region_shorter p.region a to r)

pub type_shorter : (t : TypeName) (from to : Tokens) → IsType t from to → length to ≤ length from
type_shorter t from to (a, starts, base, pointers) =
    omega (arith, base_shorter t.base from a base, each_shorter IsPointer pointer_shorter t.pointers a to pointers)

-- ---- parts of statements

pub count_shorter : (count : ℕ) (from to : Tokens) → IsCount count from to → length to ≤ length from
count_shorter count from to (a, b, at, suffix, opened, is, closed) = omega (arith, sign_taken opened, one_taken is, sign_taken closed)

pub name_in_parentheses : (n : Name) (from to : Tokens) → IsNameInParentheses n from to → length to ≤ length from
name_in_parentheses n from to (a, b, opened, is, closed) = omega (arith, sign_taken opened, name_taken is, sign_taken closed)

-- ---- phrases of so many tokens

-- a phrase takes at least so many tokens
abbrev pub Takes : ℕ → Tokens → Tokens → Type 0
Takes count from to = count + length to ≤ length from

-- what a phrase takes, it takes in parentheses, and two more
pub in_parentheses : (count : ℕ) (Is : Tokens → Tokens → Type 0) → ((from to : Tokens) → Is from to → Takes count from to) → (from to : Tokens)
    → InParentheses Is from to → Takes (2 + count) from to
in_parentheses count Is takes from to (a, b, opened, is, closed) = omega (arith, sign_taken opened, takes a b is, sign_taken closed)

-- `case {.M = x}` has seven tokens
pub named_case : (at : ℕ) (member name : Name) (from to : Tokens) → IsPattern at (Case member name) from to → Takes 7 from to
named_case at member name from to (a, b, c, d, e, f, word, opened, dot, named, gives, is, closed) =
    omega (arith, one_taken word, sign_taken opened, sign_taken dot, name_taken named, sign_taken gives, name_taken is, sign_taken closed)
