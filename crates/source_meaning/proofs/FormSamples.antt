-- What small programs do, computed: operators, statements, strings and unions
use Rattle.std.proofs.Common.{◌≡◌, true, Some, None, [], ◌∷◌, refl}
use Rattle.std.specs.Prelude.{codes}
use Rattle.cyc_tree.specs.declared.name.Sign.TheVariants.{Nullable, Fat}
use Rattle.cyc_tree.specs.declared.expression.Operator.TheVariants.{BitOr, BitXor, BitAnd, Equal, NotEqual, Less, LessEqual, Greater, ShiftLeft, ShiftRight}
use Rattle.cyc_tree.specs.declared.expression.Operator.TheVariants.{Add, Subtract, Multiply, Divide, Remainder}
use Rattle.cyc_tree.specs.declared.expression.Prefix.TheVariants.{Negate, Not, Complement, Dereference, AddressOf}
use Rattle.cyc_tree.specs.Tree as tree
use Rattle.cyc_tree.specs.Tree.{Expression, NoExpressions, MoreExpressions, NoLinks, MoreLinks, NoSuffixes, Index, Dot, One, Array, Initializer, Case, Default}
use Rattle.cyc_tree.specs.Tree.{Statement, NoItems, NoClauses, MoreClauses, Program}
use Rattle.cyc_words.specs.Events.{ByteWritten, RegionAlloc, Visible, Called, Returned, SourceEnding}
use Rattle.source_meaning.specs.Programs.{source}
use Rattle.source_meaning.proofs.Trees.{named, variable, number, pointer, typed, ◌▸◌, ◌▹◌, function, gives}

-- int main() { return (1 != 2) + (2 != 2) * 2 + (2 <= 2) * 4 + (3 <= 2) * 8 + (3 > 2) * 16 + (2 > 2) * 32 + (-1 <= 0) * 64 + (-1 > 0u) * 128; }
abbrev comparisons : Program
comparisons =
    tree.FunctionItem (function (typed tree.Int []) (named "main") [] (
    (Statement.Return 0 (Some (Expression.Chain (Expression.Grouped 0 (Expression.Chain (number 1) (MoreLinks NotEqual (number 2) NoLinks)))
    (MoreLinks Add (Expression.Chain (Expression.Grouped 0 (Expression.Chain (number 2) (MoreLinks NotEqual (number 2) NoLinks)))
    (MoreLinks Multiply (number 2) NoLinks))
    (MoreLinks Add (Expression.Chain (Expression.Grouped 0 (Expression.Chain (number 2) (MoreLinks LessEqual (number 2) NoLinks)))
    (MoreLinks Multiply (number 4) NoLinks))
    (MoreLinks Add (Expression.Chain (Expression.Grouped 0 (Expression.Chain (number 3) (MoreLinks LessEqual (number 2) NoLinks)))
    (MoreLinks Multiply (number 8) NoLinks))
    (MoreLinks Add (Expression.Chain (Expression.Grouped 0 (Expression.Chain (number 3) (MoreLinks Greater (number 2) NoLinks)))
    (MoreLinks Multiply (number 16) NoLinks))
    (MoreLinks Add (Expression.Chain (Expression.Grouped 0 (Expression.Chain (number 2) (MoreLinks Greater (number 2) NoLinks)))
    (MoreLinks Multiply (number 32) NoLinks))
    (MoreLinks Add (Expression.Chain
    (Expression.Grouped 0 (Expression.Chain (Expression.Prefixed 0 Negate (number 1)) (MoreLinks LessEqual (number 0) NoLinks)))
    (MoreLinks Multiply (number 64) NoLinks))
    (MoreLinks Add (Expression.Chain
    (Expression.Grouped 0 (Expression.Chain (Expression.Prefixed 0 Negate (number 1)) (MoreLinks Greater (Expression.Number 0 0 true) NoLinks)))
    (MoreLinks Multiply (number 128) NoLinks)) NoLinks)))))))))) ▸
    NoItems)) ∷ []

comparisons_runs : source comparisons [] 0 ≡ gives (Called (codes "main") ∷ Returned (codes "main") ∷ []) (SourceEnding.Ended 213)
comparisons_runs = refl

-- int main() { int i = 0; while (i < 3) { if (i == 1) putchar(65); else putchar(66); i = i + 1; } return 0; }
abbrev either_way : Program
either_way =
    tree.FunctionItem (function (typed tree.Int []) (named "main") [] (
    (tree.Local (typed tree.Int []) (named "i") (Initializer.Value (number 0))) ▹
    (Statement.While 0 (Expression.Chain (variable "i") (MoreLinks Less (number 3) NoLinks)) (Statement.Block 0 (
    (Statement.IfElse 0 (Expression.Chain (variable "i") (MoreLinks Equal (number 1) NoLinks))
    (Statement.Run (Expression.Call (named "putchar") (MoreExpressions (number 65) NoExpressions)))
    (Statement.Run (Expression.Call (named "putchar") (MoreExpressions (number 66) NoExpressions)))) ▸
    (Statement.Run (Expression.Assign (variable "i") (Expression.Chain (variable "i") (MoreLinks Add (number 1) NoLinks)))) ▸
    NoItems))) ▸
    (Statement.Return 0 (Some (number 0))) ▸
    NoItems)) ∷ []

either_way_runs : source either_way [] 6 ≡ gives (Called (codes "main") ∷ Visible (ByteWritten 66) ∷ Visible (ByteWritten 65) ∷ Visible (ByteWritten 66)
    ∷ Returned (codes "main") ∷ []) (SourceEnding.Ended 0)
either_way_runs = refl

-- @tagged union U { int a; char b; }; int main() { union U x = U.a(1); while (1) { switch (x) { default: putchar(65); x = U.b('z'); break; case {.b = c}:
-- return c; } } }
abbrev default_first : Program
default_first =
    tree.UnionItem (record {
      at = 0;
      tag = (named "U");
      regions = [];
      members = ((record { of = (typed tree.Int []); name = (named "a") }) ∷ (record { of = (typed tree.Char []); name = (named "b") }) ∷ []);
    }) ∷
    tree.FunctionItem (function (typed tree.Int []) (named "main") [] (
    (tree.Local (typed (tree.Union (named "U") []) []) (named "x") (Initializer.Value (Expression.MakeUnion (named "U") (named "a") (number 1)))) ▹
    (Statement.While 0 (number 1) (Statement.Block 0 (
    (Statement.Switch 0 (variable "x") (MoreClauses 0 Default (
    (Statement.Run (Expression.Call (named "putchar") (MoreExpressions (number 65) NoExpressions))) ▸
    (Statement.Run (Expression.Assign (variable "x") (Expression.MakeUnion (named "U") (named "b") (Expression.Character 0 122)))) ▸
    (Statement.Break 0) ▸
    NoItems) (MoreClauses 0 (Case (named "b") (named "c")) (
    (Statement.Return 0 (Some (variable "c"))) ▸
    NoItems) NoClauses))) ▸
    NoItems))) ▸
    NoItems)) ∷ []

default_first_runs : source default_first [] 3 ≡ gives (Called (codes "main") ∷ Visible (ByteWritten 65) ∷ Returned (codes "main") ∷ [])
    (SourceEnding.Ended 122)
default_first_runs = refl

-- int main() { return 65537 * 65537 + -3 * 1431655766; }
abbrev products : Program
products =
    tree.FunctionItem (function (typed tree.Int []) (named "main") [] (
    (Statement.Return 0 (Some (Expression.Chain (Expression.Chain (number 65537) (MoreLinks Multiply (number 65537) NoLinks))
    (MoreLinks Add (Expression.Chain (Expression.Prefixed 0 Negate (number 3)) (MoreLinks Multiply (number 1431655766) NoLinks)) NoLinks)))) ▸
    NoItems)) ∷ []

products_runs : source products [] 0 ≡ gives (Called (codes "main") ∷ Returned (codes "main") ∷ []) (SourceEnding.Ended 131071)
products_runs = refl

-- int main() { unsigned a = 4294967295; putchar(a / 100000000); putchar(a % 100); putchar(-7 % 4u); return -7 / 2u; }
abbrev unsigned_divisions : Program
unsigned_divisions =
    tree.FunctionItem (function (typed tree.Int []) (named "main") [] (
    (tree.Local (typed tree.Unsigned []) (named "a") (Initializer.Value (number 4294967295))) ▹
    (Statement.Run (Expression.Call (named "putchar")
    (MoreExpressions (Expression.Chain (variable "a") (MoreLinks Divide (number 100000000) NoLinks)) NoExpressions))) ▸
    (Statement.Run (Expression.Call (named "putchar")
    (MoreExpressions (Expression.Chain (variable "a") (MoreLinks Remainder (number 100) NoLinks)) NoExpressions))) ▸
    (Statement.Run (Expression.Call (named "putchar")
    (MoreExpressions (Expression.Chain (Expression.Prefixed 0 Negate (number 7)) (MoreLinks Remainder (Expression.Number 0 4 true) NoLinks))
    NoExpressions))) ▸
    (Statement.Return 0 (Some (Expression.Chain (Expression.Prefixed 0 Negate (number 7)) (MoreLinks Divide (Expression.Number 0 2 true) NoLinks)))) ▸
    NoItems)) ∷ []

unsigned_divisions_runs : source unsigned_divisions [] 3
    ≡ gives (Called (codes "main") ∷ Visible (ByteWritten 42) ∷ Visible (ByteWritten 95) ∷ Visible (ByteWritten 1) ∷ Returned (codes "main") ∷ [])
    (SourceEnding.Ended 2147483644)
unsigned_divisions_runs = refl

-- int main() { if ((0-2147483647-1)/(0-1) == 0-2147483647-1) return (0-2147483647-1)/(0-1); return 0; }
abbrev least_divided : Program
least_divided =
    tree.FunctionItem (function (typed tree.Int []) (named "main") [] (
    (Statement.If 0 (Expression.Chain
    (Expression.Chain (Expression.Grouped 0 (Expression.Chain (number 0) (MoreLinks Subtract (number 2147483647) (MoreLinks Subtract (number 1) NoLinks))))
    (MoreLinks Divide (Expression.Grouped 0 (Expression.Chain (number 0) (MoreLinks Subtract (number 1) NoLinks))) NoLinks))
    (MoreLinks Equal (Expression.Chain (number 0) (MoreLinks Subtract (number 2147483647) (MoreLinks Subtract (number 1) NoLinks))) NoLinks))
    (Statement.Return 0 (Some (Expression.Chain
    (Expression.Grouped 0 (Expression.Chain (number 0) (MoreLinks Subtract (number 2147483647) (MoreLinks Subtract (number 1) NoLinks))))
    (MoreLinks Divide (Expression.Grouped 0 (Expression.Chain (number 0) (MoreLinks Subtract (number 1) NoLinks))) NoLinks))))) ▸
    (Statement.Return 0 (Some (number 0))) ▸
    NoItems)) ∷ []

least_divided_runs : source least_divided [] 0 ≡ gives (Called (codes "main") ∷ Returned (codes "main") ∷ []) (SourceEnding.Ended 2147483648)
least_divided_runs = refl

-- int main() { return -2147483648 / -1; }
abbrev unsigned_literal : Program
unsigned_literal =
    tree.FunctionItem (function (typed tree.Int []) (named "main") [] (
    (Statement.Return 0 (Some (Expression.Chain (Expression.Prefixed 0 Negate (number 2147483648))
    (MoreLinks Divide (Expression.Prefixed 0 Negate (number 1)) NoLinks)))) ▸
    NoItems)) ∷ []

unsigned_literal_runs : source unsigned_literal [] 0 ≡ gives (Called (codes "main") ∷ Returned (codes "main") ∷ []) (SourceEnding.Ended 0)
unsigned_literal_runs = refl

-- int main() { return (12 | 10) + (12 ^ 10) * 16 + (12 & 10) * 256 + ((-1 | 0) < 0) * 4096 + ((-1 ^ 0u) < 0) * 8192 + (~0 < 0) * 16384 + (~0u < 0) * 32768; }
abbrev bits : Program
bits =
    tree.FunctionItem (function (typed tree.Int []) (named "main") [] (
    (Statement.Return 0 (Some (Expression.Chain (Expression.Grouped 0 (Expression.Chain (number 12) (MoreLinks BitOr (number 10) NoLinks)))
    (MoreLinks Add (Expression.Chain (Expression.Grouped 0 (Expression.Chain (number 12) (MoreLinks BitXor (number 10) NoLinks)))
    (MoreLinks Multiply (number 16) NoLinks))
    (MoreLinks Add (Expression.Chain (Expression.Grouped 0 (Expression.Chain (number 12) (MoreLinks BitAnd (number 10) NoLinks)))
    (MoreLinks Multiply (number 256) NoLinks))
    (MoreLinks Add (Expression.Chain
    (Expression.Grouped 0 (Expression.Chain
    (Expression.Grouped 0 (Expression.Chain (Expression.Prefixed 0 Negate (number 1)) (MoreLinks BitOr (number 0) NoLinks)))
    (MoreLinks Less (number 0) NoLinks))) (MoreLinks Multiply (number 4096) NoLinks))
    (MoreLinks Add (Expression.Chain
    (Expression.Grouped 0 (Expression.Chain
    (Expression.Grouped 0 (Expression.Chain (Expression.Prefixed 0 Negate (number 1)) (MoreLinks BitXor (Expression.Number 0 0 true) NoLinks)))
    (MoreLinks Less (number 0) NoLinks))) (MoreLinks Multiply (number 8192) NoLinks))
    (MoreLinks Add (Expression.Chain
    (Expression.Grouped 0 (Expression.Chain (Expression.Prefixed 0 Complement (number 0)) (MoreLinks Less (number 0) NoLinks)))
    (MoreLinks Multiply (number 16384) NoLinks))
    (MoreLinks Add (Expression.Chain
    (Expression.Grouped 0 (Expression.Chain (Expression.Prefixed 0 Complement (Expression.Number 0 0 true)) (MoreLinks Less (number 0) NoLinks)))
    (MoreLinks Multiply (number 32768) NoLinks)) NoLinks))))))))) ▸
    NoItems)) ∷ []

bits_runs : source bits [] 0 ≡ gives (Called (codes "main") ∷ Returned (codes "main") ∷ []) (SourceEnding.Ended 22638)
bits_runs = refl

-- int main() { return (1 << 33) + ((1 << 1u) - 3 < 0) * 4 + ((-8 >> 1u) < 0) * 8 + ((8u >> 33) == 4) * 16 + ((2147483648 >> 31) == 1) * 32 + ((1u << 31) > 0) *
-- 64; }
abbrev shift_types : Program
shift_types =
    tree.FunctionItem (function (typed tree.Int []) (named "main") [] (
    (Statement.Return 0 (Some (Expression.Chain (Expression.Grouped 0 (Expression.Chain (number 1) (MoreLinks ShiftLeft (number 33) NoLinks)))
    (MoreLinks Add (Expression.Chain
    (Expression.Grouped 0 (Expression.Chain
    (Expression.Chain (Expression.Grouped 0 (Expression.Chain (number 1) (MoreLinks ShiftLeft (Expression.Number 0 1 true) NoLinks)))
    (MoreLinks Subtract (number 3) NoLinks)) (MoreLinks Less (number 0) NoLinks))) (MoreLinks Multiply (number 4) NoLinks))
    (MoreLinks Add (Expression.Chain
    (Expression.Grouped 0 (Expression.Chain
    (Expression.Grouped 0 (Expression.Chain (Expression.Prefixed 0 Negate (number 8)) (MoreLinks ShiftRight (Expression.Number 0 1 true) NoLinks)))
    (MoreLinks Less (number 0) NoLinks))) (MoreLinks Multiply (number 8) NoLinks))
    (MoreLinks Add (Expression.Chain
    (Expression.Grouped 0 (Expression.Chain
    (Expression.Grouped 0 (Expression.Chain (Expression.Number 0 8 true) (MoreLinks ShiftRight (number 33) NoLinks))) (MoreLinks Equal (number 4) NoLinks)))
    (MoreLinks Multiply (number 16) NoLinks))
    (MoreLinks Add (Expression.Chain
    (Expression.Grouped 0 (Expression.Chain (Expression.Grouped 0 (Expression.Chain (number 2147483648) (MoreLinks ShiftRight (number 31) NoLinks)))
    (MoreLinks Equal (number 1) NoLinks))) (MoreLinks Multiply (number 32) NoLinks))
    (MoreLinks Add (Expression.Chain
    (Expression.Grouped 0 (Expression.Chain (Expression.Grouped 0 (Expression.Chain (Expression.Number 0 1 true) (MoreLinks ShiftLeft (number 31) NoLinks)))
    (MoreLinks Greater (number 0) NoLinks))) (MoreLinks Multiply (number 64) NoLinks)) NoLinks)))))))) ▸
    NoItems)) ∷ []

shift_types_runs : source shift_types [] 0 ≡ gives (Called (codes "main") ∷ Returned (codes "main") ∷ []) (SourceEnding.Ended 126)
shift_types_runs = refl

-- int main() { unsigned u = 1; char c = 'x'; int ? q = NULL; new (u < 2); new (q == NULL); new (1 << u); new (u >> 1); new (1 + u); new (c + c); new
-- numelts(q); new !q; new ~c; new -c; new (q + 1); new (c = 300); return 0; }
abbrev made_types : Program
made_types =
    tree.FunctionItem (function (typed tree.Int []) (named "main") [] (
    (tree.Local (typed tree.Unsigned []) (named "u") (Initializer.Value (number 1))) ▹
    (tree.Local (typed tree.Char []) (named "c") (Initializer.Value (Expression.Character 0 120))) ▹
    (tree.Local (typed tree.Int ((pointer Fat None) ∷ [])) (named "q") (Initializer.Value (Expression.Null 0))) ▹
    (Statement.Run (Expression.New 0 (One (Expression.Grouped 0 (Expression.Chain (variable "u") (MoreLinks Less (number 2) NoLinks)))))) ▸
    (Statement.Run (Expression.New 0 (One (Expression.Grouped 0 (Expression.Chain (variable "q") (MoreLinks Equal (Expression.Null 0) NoLinks)))))) ▸
    (Statement.Run (Expression.New 0 (One (Expression.Grouped 0 (Expression.Chain (number 1) (MoreLinks ShiftLeft (variable "u") NoLinks)))))) ▸
    (Statement.Run (Expression.New 0 (One (Expression.Grouped 0 (Expression.Chain (variable "u") (MoreLinks ShiftRight (number 1) NoLinks)))))) ▸
    (Statement.Run (Expression.New 0 (One (Expression.Grouped 0 (Expression.Chain (number 1) (MoreLinks Add (variable "u") NoLinks)))))) ▸
    (Statement.Run (Expression.New 0 (One (Expression.Grouped 0 (Expression.Chain (variable "c") (MoreLinks Add (variable "c") NoLinks)))))) ▸
    (Statement.Run (Expression.New 0 (One (Expression.NumElts 0 (variable "q"))))) ▸
    (Statement.Run (Expression.New 0 (One (Expression.Prefixed 0 Not (variable "q"))))) ▸
    (Statement.Run (Expression.New 0 (One (Expression.Prefixed 0 Complement (variable "c"))))) ▸
    (Statement.Run (Expression.New 0 (One (Expression.Prefixed 0 Negate (variable "c"))))) ▸
    (Statement.Run (Expression.New 0 (One (Expression.Grouped 0 (Expression.Chain (variable "q") (MoreLinks Add (number 1) NoLinks)))))) ▸
    (Statement.Run (Expression.New 0 (One (Expression.Grouped 0 (Expression.Assign (variable "c") (number 300)))))) ▸
    (Statement.Return 0 (Some (number 0))) ▸
    NoItems)) ∷ []

made_types_runs : source made_types [] 0 ≡ gives (Called (codes "main") ∷ Visible (RegionAlloc 0 4) ∷ Visible (RegionAlloc 0 4) ∷ Visible (RegionAlloc 0 4)
    ∷ Visible (RegionAlloc 0 4) ∷ Visible (RegionAlloc 0 4) ∷ Visible (RegionAlloc 0 4) ∷ Visible (RegionAlloc 0 4) ∷ Visible (RegionAlloc 0 4)
    ∷ Visible (RegionAlloc 0 4) ∷ Visible (RegionAlloc 0 4) ∷ Visible (RegionAlloc 0 12) ∷ Visible (RegionAlloc 0 1) ∷ Returned (codes "main") ∷ [])
    (SourceEnding.Ended 0)
made_types_runs = refl

-- struct I { char c; int x; }; struct P { char a; struct I i; char b; }; int main() { new P('a', I('b', 1), 'c'); return 0; }
abbrev nested_bytes : Program
nested_bytes =
    tree.StructItem (record {
      at = 0;
      tag = (named "I");
      regions = [];
      members = ((record { of = (typed tree.Char []); name = (named "c") }) ∷ (record { of = (typed tree.Int []); name = (named "x") }) ∷ []);
    }) ∷
    tree.StructItem (record {
      at = 0;
      tag = (named "P");
      regions = [];
      members = ((record { of = (typed tree.Char []); name = (named "a") }) ∷ (record { of = (typed (tree.Struct (named "I") []) []); name = (named "i") })
          ∷ (record { of = (typed tree.Char []); name = (named "b") }) ∷ []);
    }) ∷
    tree.FunctionItem (function (typed tree.Int []) (named "main") [] (
    (Statement.Run (Expression.New 0
    (One (Expression.Call (named "P")
    (MoreExpressions (Expression.Character 0 97)
    (MoreExpressions (Expression.Call (named "I") (MoreExpressions (Expression.Character 0 98) (MoreExpressions (number 1) NoExpressions)))
    (MoreExpressions (Expression.Character 0 99) NoExpressions))))))) ▸
    (Statement.Return 0 (Some (number 0))) ▸
    NoItems)) ∷ []

nested_bytes_runs : source nested_bytes [] 0 ≡ gives (Called (codes "main") ∷ Visible (RegionAlloc 0 16) ∷ Returned (codes "main") ∷ []) (SourceEnding.Ended 0)
nested_bytes_runs = refl

-- int main() { int x = 3; int *p = &x; int *n = NULL; int ? q = p; int ? m = NULL; int r = 0; if (q) r = r + 1; if (m) r = r + 2; if (p && q && *p == 3) r = r
-- + 4; if (n && putchar(65)) r = r + 8; while (!m && r < 100) r = r + 100; return r; }
abbrev pointer_conditions : Program
pointer_conditions =
    tree.FunctionItem (function (typed tree.Int []) (named "main") [] (
    (tree.Local (typed tree.Int []) (named "x") (Initializer.Value (number 3))) ▹
    (tree.Local (typed tree.Int ((pointer (Nullable 1) None) ∷ [])) (named "p") (Initializer.Value (Expression.Prefixed 0 AddressOf (variable "x")))) ▹
    (tree.Local (typed tree.Int ((pointer (Nullable 1) None) ∷ [])) (named "n") (Initializer.Value (Expression.Null 0))) ▹
    (tree.Local (typed tree.Int ((pointer Fat None) ∷ [])) (named "q") (Initializer.Value (variable "p"))) ▹
    (tree.Local (typed tree.Int ((pointer Fat None) ∷ [])) (named "m") (Initializer.Value (Expression.Null 0))) ▹
    (tree.Local (typed tree.Int []) (named "r") (Initializer.Value (number 0))) ▹
    (Statement.If 0 (variable "q") (Statement.Run (Expression.Assign (variable "r") (Expression.Chain (variable "r") (MoreLinks Add (number 1) NoLinks))))) ▸
    (Statement.If 0 (variable "m") (Statement.Run (Expression.Assign (variable "r") (Expression.Chain (variable "r") (MoreLinks Add (number 2) NoLinks))))) ▸
    (Statement.If 0 (Expression.AllOf (variable "p")
    (MoreExpressions (variable "q")
    (MoreExpressions (Expression.Chain (Expression.Prefixed 0 Dereference (variable "p")) (MoreLinks Equal (number 3) NoLinks)) NoExpressions)))
    (Statement.Run (Expression.Assign (variable "r") (Expression.Chain (variable "r") (MoreLinks Add (number 4) NoLinks))))) ▸
    (Statement.If 0 (Expression.AllOf (variable "n")
    (MoreExpressions (Expression.Call (named "putchar") (MoreExpressions (number 65) NoExpressions)) NoExpressions))
    (Statement.Run (Expression.Assign (variable "r") (Expression.Chain (variable "r") (MoreLinks Add (number 8) NoLinks))))) ▸
    (Statement.While 0 (Expression.AllOf (Expression.Prefixed 0 Not (variable "m"))
    (MoreExpressions (Expression.Chain (variable "r") (MoreLinks Less (number 100) NoLinks)) NoExpressions))
    (Statement.Run (Expression.Assign (variable "r") (Expression.Chain (variable "r") (MoreLinks Add (number 100) NoLinks))))) ▸
    (Statement.Return 0 (Some (variable "r"))) ▸
    NoItems)) ∷ []

pointer_conditions_runs : source pointer_conditions [] 1 ≡ gives (Called (codes "main") ∷ Returned (codes "main") ∷ []) (SourceEnding.Ended 105)
pointer_conditions_runs = refl

-- int main() { int i = 0; while (i < 2) { char ? s = "a"; putchar(s[0]); s[0] = 'b'; i = i + 1; } char ? t = "a"; putchar(t[0]); return 0; }
abbrev texts_apart : Program
texts_apart =
    tree.FunctionItem (function (typed tree.Int []) (named "main") [] (
    (tree.Local (typed tree.Int []) (named "i") (Initializer.Value (number 0))) ▹
    (Statement.While 0 (Expression.Chain (variable "i") (MoreLinks Less (number 2) NoLinks)) (Statement.Block 0 (
    (tree.Local (typed tree.Char ((pointer Fat None) ∷ [])) (named "s") (Initializer.Value (Expression.Text 51 (97 ∷ [])))) ▹
    (Statement.Run (Expression.Call (named "putchar") (MoreExpressions (Expression.Suffixed (variable "s") (Index (number 0) NoSuffixes)) NoExpressions))) ▸
    (Statement.Run (Expression.Assign (Expression.Suffixed (variable "s") (Index (number 0) NoSuffixes)) (Expression.Character 0 98))) ▸
    (Statement.Run (Expression.Assign (variable "i") (Expression.Chain (variable "i") (MoreLinks Add (number 1) NoLinks)))) ▸
    NoItems))) ▸
    (tree.Local (typed tree.Char ((pointer Fat None) ∷ [])) (named "t") (Initializer.Value (Expression.Text 107 (97 ∷ [])))) ▹
    (Statement.Run (Expression.Call (named "putchar") (MoreExpressions (Expression.Suffixed (variable "t") (Index (number 0) NoSuffixes)) NoExpressions))) ▸
    (Statement.Return 0 (Some (number 0))) ▸
    NoItems)) ∷ []

texts_apart_runs : source texts_apart [] 5 ≡ gives (Called (codes "main") ∷ Visible (ByteWritten 97) ∷ Visible (ByteWritten 98) ∷ Visible (ByteWritten 97)
    ∷ Returned (codes "main") ∷ []) (SourceEnding.Ended 0)
texts_apart_runs = refl

-- @tagged union U { int a; char b; }; int main() { union U x = U.b(300); switch (x) { case {.a = v}: return 1; case {.b = c}: return c; } }
abbrev union_converted : Program
union_converted =
    tree.UnionItem (record {
      at = 0;
      tag = (named "U");
      regions = [];
      members = ((record { of = (typed tree.Int []); name = (named "a") }) ∷ (record { of = (typed tree.Char []); name = (named "b") }) ∷ []);
    }) ∷
    tree.FunctionItem (function (typed tree.Int []) (named "main") [] (
    (tree.Local (typed (tree.Union (named "U") []) []) (named "x") (Initializer.Value (Expression.MakeUnion (named "U") (named "b") (number 300)))) ▹
    (Statement.Switch 0 (variable "x") (MoreClauses 0 (Case (named "a") (named "v")) (
    (Statement.Return 0 (Some (number 1))) ▸
    NoItems) (MoreClauses 0 (Case (named "b") (named "c")) (
    (Statement.Return 0 (Some (variable "c"))) ▸
    NoItems) NoClauses))) ▸
    NoItems)) ∷ []

union_converted_runs : source union_converted [] 0 ≡ gives (Called (codes "main") ∷ Returned (codes "main") ∷ []) (SourceEnding.Ended 44)
union_converted_runs = refl

-- @tagged union U { int a; char b; }; int main() { union U x = U.a(3); union U y = U.b('z'); union U z = x; x :=: y; switch (x) { case {.a = v}: return 1; case
-- {.b = c}: putchar(c); break; } switch (y) { case {.a = v}: putchar(v); break; default: return 2; } switch (z) { case {.a = v}: return v; default: return 4; }
-- }
abbrev union_copied : Program
union_copied =
    tree.UnionItem (record {
      at = 0;
      tag = (named "U");
      regions = [];
      members = ((record { of = (typed tree.Int []); name = (named "a") }) ∷ (record { of = (typed tree.Char []); name = (named "b") }) ∷ []);
    }) ∷
    tree.FunctionItem (function (typed tree.Int []) (named "main") [] (
    (tree.Local (typed (tree.Union (named "U") []) []) (named "x") (Initializer.Value (Expression.MakeUnion (named "U") (named "a") (number 3)))) ▹
    (tree.Local (typed (tree.Union (named "U") []) []) (named "y")
    (Initializer.Value (Expression.MakeUnion (named "U") (named "b") (Expression.Character 0 122)))) ▹
    (tree.Local (typed (tree.Union (named "U") []) []) (named "z") (Initializer.Value (variable "x"))) ▹
    (Statement.Exchange (variable "x") (variable "y")) ▸
    (Statement.Switch 0 (variable "x") (MoreClauses 0 (Case (named "a") (named "v")) (
    (Statement.Return 0 (Some (number 1))) ▸
    NoItems) (MoreClauses 0 (Case (named "b") (named "c")) (
    (Statement.Run (Expression.Call (named "putchar") (MoreExpressions (variable "c") NoExpressions))) ▸
    (Statement.Break 0) ▸
    NoItems) NoClauses))) ▸
    (Statement.Switch 0 (variable "y") (MoreClauses 0 (Case (named "a") (named "v")) (
    (Statement.Run (Expression.Call (named "putchar") (MoreExpressions (variable "v") NoExpressions))) ▸
    (Statement.Break 0) ▸
    NoItems) (MoreClauses 0 Default (
    (Statement.Return 0 (Some (number 2))) ▸
    NoItems) NoClauses))) ▸
    (Statement.Switch 0 (variable "z") (MoreClauses 0 (Case (named "a") (named "v")) (
    (Statement.Return 0 (Some (variable "v"))) ▸
    NoItems) (MoreClauses 0 Default (
    (Statement.Return 0 (Some (number 4))) ▸
    NoItems) NoClauses))) ▸
    NoItems)) ∷ []

union_copied_runs : source union_copied [] 2 ≡ gives (Called (codes "main") ∷ Visible (ByteWritten 122) ∷ Visible (ByteWritten 3) ∷ Returned (codes "main")
    ∷ []) (SourceEnding.Ended 3)
union_copied_runs = refl

-- int main() { int ? p = new {for i < -1 : 1}; return 0; }
abbrev negative_count : Program
negative_count =
    tree.FunctionItem (function (typed tree.Int []) (named "main") [] (
    (tree.Local (typed tree.Int ((pointer Fat None) ∷ [])) (named "p")
    (Initializer.Value (Expression.New 0 (Array (named "i") (Expression.Prefixed 0 Negate (number 1)) (number 1))))) ▹
    (Statement.Return 0 (Some (number 0))) ▸
    NoItems)) ∷ []

negative_count_runs : source negative_count [] 2 ≡ gives (Called (codes "main") ∷ Visible (RegionAlloc 0 4294967295) ∷ []) SourceEnding.Running
negative_count_runs = refl

-- struct P { int x; int y; }; int main() { struct P ? p = new {for i < 2 : P(i + 3, i + 5)}; return p[0].x + p[0].y * 10 + p[1].x * 100 + p[1].y * 1000; }
abbrev struct_elements : Program
struct_elements =
    tree.StructItem (record {
      at = 0;
      tag = (named "P");
      regions = [];
      members = ((record { of = (typed tree.Int []); name = (named "x") }) ∷ (record { of = (typed tree.Int []); name = (named "y") }) ∷ []);
    }) ∷
    tree.FunctionItem (function (typed tree.Int []) (named "main") [] (
    (tree.Local (typed (tree.Struct (named "P") []) ((pointer Fat None) ∷ [])) (named "p")
    (Initializer.Value (Expression.New 0
    (Array (named "i") (number 2) (Expression.Call (named "P") (MoreExpressions (Expression.Chain (variable "i") (MoreLinks Add (number 3) NoLinks))
    (MoreExpressions (Expression.Chain (variable "i") (MoreLinks Add (number 5) NoLinks)) NoExpressions))))))) ▹
    (Statement.Return 0 (Some (Expression.Chain (Expression.Suffixed (variable "p") (Index (number 0) (Dot (named "x") NoSuffixes)))
    (MoreLinks Add (Expression.Chain (Expression.Suffixed (variable "p") (Index (number 0) (Dot (named "y") NoSuffixes)))
    (MoreLinks Multiply (number 10) NoLinks))
    (MoreLinks Add (Expression.Chain (Expression.Suffixed (variable "p") (Index (number 1) (Dot (named "x") NoSuffixes)))
    (MoreLinks Multiply (number 100) NoLinks))
    (MoreLinks Add (Expression.Chain (Expression.Suffixed (variable "p") (Index (number 1) (Dot (named "y") NoSuffixes)))
    (MoreLinks Multiply (number 1000) NoLinks)) NoLinks)))))) ▸
    NoItems)) ∷ []

struct_elements_runs : source struct_elements [] 2 ≡ gives (Called (codes "main") ∷ Visible (RegionAlloc 0 16) ∷ Returned (codes "main") ∷ [])
    (SourceEnding.Ended 6453)
struct_elements_runs = refl
