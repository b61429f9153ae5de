-- What small programs do, computed: thin and fat pointers, arrays, strings, structs and unions
use Rattle.std.proofs.Common.{◌≡◌, false, Some, None, [], ◌∷◌, refl}
use Rattle.std.specs.Prelude.{codes}
use Rattle.cyc_tree.specs.declared.name.Sign.TheVariants.{Nullable, NotNull, Fat}
use Rattle.cyc_tree.specs.declared.expression.Operator.TheVariants.{Equal, Add, Subtract, Multiply}
use Rattle.cyc_tree.specs.declared.expression.Prefix.TheVariants.{Negate, Dereference, AddressOf}
use Rattle.cyc_tree.specs.Tree as tree
use Rattle.cyc_tree.specs.Tree.{Expression, NoExpressions, MoreExpressions, NoLinks, MoreLinks, NoSuffixes, Index, Dot, Arrow, One, Array, Initializer, Case}
use Rattle.cyc_tree.specs.Tree.{Default, Statement, NoItems, NoClauses, MoreClauses, Constant, Initial, Program}
use Rattle.cyc_words.specs.declared.faults.Kind.TheVariants.{NullException, ArrayBounds}
use Rattle.cyc_words.specs.Events.{ByteWritten, Visible, Called, Returned, SourceEnding}
use Rattle.source_meaning.specs.Programs.{source}
use Rattle.source_meaning.proofs.Trees.{named, variable, number, pointer, typed, ◌▸◌, ◌▹◌, function, gives}

-- int main() { int x = 7; int *p = &x; int i = 0; while (1) { putchar('.'); if (i == 2) p = NULL; x = *p; i = i + 1; } }
abbrev null_raise : Program
null_raise =
    tree.FunctionItem (function (typed tree.Int []) (named "main") [] (
    (tree.Local (typed tree.Int []) (named "x") (Initializer.Value (number 7))) ▹
    (tree.Local (typed tree.Int ((pointer (Nullable 1) None) ∷ [])) (named "p") (Initializer.Value (Expression.Prefixed 0 AddressOf (variable "x")))) ▹
    (tree.Local (typed tree.Int []) (named "i") (Initializer.Value (number 0))) ▹
    (Statement.While 0 (number 1) (Statement.Block 0 (
    (Statement.Run (Expression.Call (named "putchar") (MoreExpressions (Expression.Character 0 46) NoExpressions))) ▸
    (Statement.If 0 (Expression.Chain (variable "i") (MoreLinks Equal (number 2) NoLinks))
    (Statement.Run (Expression.Assign (variable "p") (Expression.Null 0)))) ▸
    (Statement.Run (Expression.Assign (variable "x") (Expression.Prefixed 0 Dereference (variable "p")))) ▸
    (Statement.Run (Expression.Assign (variable "i") (Expression.Chain (variable "i") (MoreLinks Add (number 1) NoLinks)))) ▸
    NoItems))) ▸
    NoItems)) ∷ []

null_raise_runs : source null_raise [] 6 ≡ gives (Called (codes "main") ∷ Visible (ByteWritten 46) ∷ Visible (ByteWritten 46) ∷ Visible (ByteWritten 46) ∷ [])
    (SourceEnding.Raised NullException)
null_raise_runs = refl

-- int main() { int a[3]; int ? p = a; putchar('0' + numelts(p)); p = p + 3; putchar('0' + numelts(p)); return a[3]; }
abbrev past_the_end : Program
past_the_end =
    tree.FunctionItem (function (typed tree.Int []) (named "main") [] (
    (tree.Local (typed tree.Int []) (named "a") (Initializer.Elements 3)) ▹
    (tree.Local (typed tree.Int ((pointer Fat None) ∷ [])) (named "p") (Initializer.Value (variable "a"))) ▹
    (Statement.Run (Expression.Call (named "putchar")
    (MoreExpressions (Expression.Chain (Expression.Character 0 48) (MoreLinks Add (Expression.NumElts 0 (variable "p")) NoLinks)) NoExpressions))) ▸
    (Statement.Run (Expression.Assign (variable "p") (Expression.Chain (variable "p") (MoreLinks Add (number 3) NoLinks)))) ▸
    (Statement.Run (Expression.Call (named "putchar")
    (MoreExpressions (Expression.Chain (Expression.Character 0 48) (MoreLinks Add (Expression.NumElts 0 (variable "p")) NoLinks)) NoExpressions))) ▸
    (Statement.Return 0 (Some (Expression.Suffixed (variable "a") (Index (number 3) NoSuffixes)))) ▸
    NoItems)) ∷ []

past_the_end_runs : source past_the_end [] 2 ≡ gives (Called (codes "main") ∷ Visible (ByteWritten 51) ∷ Visible (ByteWritten 48) ∷ [])
    (SourceEnding.Raised ArrayBounds)
past_the_end_runs = refl

-- int main() { int a[3]; return a[-1]; }
abbrev before_the_start : Program
before_the_start =
    tree.FunctionItem (function (typed tree.Int []) (named "main") [] (
    (tree.Local (typed tree.Int []) (named "a") (Initializer.Elements 3)) ▹
    (Statement.Return 0 (Some (Expression.Suffixed (variable "a") (Index (Expression.Prefixed 0 Negate (number 1)) NoSuffixes)))) ▸
    NoItems)) ∷ []

before_the_start_runs : source before_the_start [] 0 ≡ gives (Called (codes "main") ∷ []) (SourceEnding.Raised ArrayBounds)
before_the_start_runs = refl

-- int main() { char ? s = "ab"; s[putchar('1') - '0'] = putchar('c'); putchar(s[1]); putchar('0' + numelts(s)); return s[3]; }
abbrev string_and_order : Program
string_and_order =
    tree.FunctionItem (function (typed tree.Int []) (named "main") [] (
    (tree.Local (typed tree.Char ((pointer Fat None) ∷ [])) (named "s") (Initializer.Value (Expression.Text 24 (97 ∷ 98 ∷ [])))) ▹
    (Statement.Run (Expression.Assign
    (Expression.Suffixed (variable "s")
    (Index (Expression.Chain (Expression.Call (named "putchar") (MoreExpressions (Expression.Character 0 49) NoExpressions))
    (MoreLinks Subtract (Expression.Character 0 48) NoLinks)) NoSuffixes))
    (Expression.Call (named "putchar") (MoreExpressions (Expression.Character 0 99) NoExpressions)))) ▸
    (Statement.Run (Expression.Call (named "putchar") (MoreExpressions (Expression.Suffixed (variable "s") (Index (number 1) NoSuffixes)) NoExpressions))) ▸
    (Statement.Run (Expression.Call (named "putchar")
    (MoreExpressions (Expression.Chain (Expression.Character 0 48) (MoreLinks Add (Expression.NumElts 0 (variable "s")) NoLinks)) NoExpressions))) ▸
    (Statement.Return 0 (Some (Expression.Suffixed (variable "s") (Index (number 3) NoSuffixes)))) ▸
    NoItems)) ∷ []

string_and_order_runs : source string_and_order [] 4
    ≡ gives (Called (codes "main") ∷ Visible (ByteWritten 99) ∷ Visible (ByteWritten 49) ∷ Visible (ByteWritten 99) ∷ Visible (ByteWritten 51) ∷ [])
    (SourceEnding.Raised ArrayBounds)
string_and_order_runs = refl

-- int g(int x) { putchar(x); return x; } int main() { int a[2]; int ? p = a; a[g(1)] = 5; return (p + g(0))[g(1)]; }
abbrev index_first : Program
index_first =
    tree.FunctionItem (function (typed tree.Int []) (named "g") ((record { of = (typed tree.Int []); name = (named "x") }) ∷ []) (
    (Statement.Run (Expression.Call (named "putchar") (MoreExpressions (variable "x") NoExpressions))) ▸
    (Statement.Return 0 (Some (variable "x"))) ▸
    NoItems)) ∷
    tree.FunctionItem (function (typed tree.Int []) (named "main") [] (
    (tree.Local (typed tree.Int []) (named "a") (Initializer.Elements 2)) ▹
    (tree.Local (typed tree.Int ((pointer Fat None) ∷ [])) (named "p") (Initializer.Value (variable "a"))) ▹
    (Statement.Run (Expression.Assign
    (Expression.Suffixed (variable "a") (Index (Expression.Call (named "g") (MoreExpressions (number 1) NoExpressions)) NoSuffixes)) (number 5))) ▸
    (Statement.Return 0 (Some (Expression.Suffixed
    (Expression.Grouped 0 (Expression.Chain (variable "p")
    (MoreLinks Add (Expression.Call (named "g") (MoreExpressions (number 0) NoExpressions)) NoLinks)))
    (Index (Expression.Call (named "g") (MoreExpressions (number 1) NoExpressions)) NoSuffixes)))) ▸
    NoItems)) ∷ []

index_first_runs : source index_first [] 6 ≡ gives (Called (codes "main") ∷ Called (codes "g") ∷ Visible (ByteWritten 1) ∷ Returned (codes "g")
    ∷ Called (codes "g") ∷ Visible (ByteWritten 1) ∷ Returned (codes "g") ∷ Called (codes "g") ∷ Visible (ByteWritten 0) ∷ Returned (codes "g")
    ∷ Returned (codes "main") ∷ []) (SourceEnding.Ended 5)
index_first_runs = refl

-- int main() { int x = 3; int ? p = &x; int *q = p; int @r = q; int ? n = NULL; int *m = n; if (m == NULL && numelts(p) == 1 && numelts(n) == 0 && q == r)
-- return *r; return 0; }
abbrev conversions : Program
conversions =
    tree.FunctionItem (function (typed tree.Int []) (named "main") [] (
    (tree.Local (typed tree.Int []) (named "x") (Initializer.Value (number 3))) ▹
    (tree.Local (typed tree.Int ((pointer Fat None) ∷ [])) (named "p") (Initializer.Value (Expression.Prefixed 0 AddressOf (variable "x")))) ▹
    (tree.Local (typed tree.Int ((pointer (Nullable 1) None) ∷ [])) (named "q") (Initializer.Value (variable "p"))) ▹
    (tree.Local (typed tree.Int ((pointer (NotNull 1) None) ∷ [])) (named "r") (Initializer.Value (variable "q"))) ▹
    (tree.Local (typed tree.Int ((pointer Fat None) ∷ [])) (named "n") (Initializer.Value (Expression.Null 0))) ▹
    (tree.Local (typed tree.Int ((pointer (Nullable 1) None) ∷ [])) (named "m") (Initializer.Value (variable "n"))) ▹
    (Statement.If 0 (Expression.AllOf (Expression.Chain (variable "m") (MoreLinks Equal (Expression.Null 0) NoLinks))
    (MoreExpressions (Expression.Chain (Expression.NumElts 0 (variable "p")) (MoreLinks Equal (number 1) NoLinks))
    (MoreExpressions (Expression.Chain (Expression.NumElts 0 (variable "n")) (MoreLinks Equal (number 0) NoLinks))
    (MoreExpressions (Expression.Chain (variable "q") (MoreLinks Equal (variable "r") NoLinks)) NoExpressions))))
    (Statement.Return 0 (Some (Expression.Prefixed 0 Dereference (variable "r"))))) ▸
    (Statement.Return 0 (Some (number 0))) ▸
    NoItems)) ∷ []

conversions_runs : source conversions [] 0 ≡ gives (Called (codes "main") ∷ Returned (codes "main") ∷ []) (SourceEnding.Ended 3)
conversions_runs = refl

-- int main() { int a[2]; int ? p = a; int *q = p + 2; return 0; }
abbrev fat_to_thin : Program
fat_to_thin =
    tree.FunctionItem (function (typed tree.Int []) (named "main") [] (
    (tree.Local (typed tree.Int []) (named "a") (Initializer.Elements 2)) ▹
    (tree.Local (typed tree.Int ((pointer Fat None) ∷ [])) (named "p") (Initializer.Value (variable "a"))) ▹
    (tree.Local (typed tree.Int ((pointer (Nullable 1) None) ∷ [])) (named "q")
    (Initializer.Value (Expression.Chain (variable "p") (MoreLinks Add (number 2) NoLinks)))) ▹
    (Statement.Return 0 (Some (number 0))) ▸
    NoItems)) ∷ []

fat_to_thin_runs : source fat_to_thin [] 0 ≡ gives (Called (codes "main") ∷ []) (SourceEnding.Raised ArrayBounds)
fat_to_thin_runs = refl

-- int f(int @p, int c) { return c; } int main() { int *p = NULL; return f(p, putchar(65)); }
abbrev never_null : Program
never_null =
    tree.FunctionItem (function (typed tree.Int []) (named "f") ((record { of = (typed tree.Int ((pointer (NotNull 1) None) ∷ [])); name = (named "p") })
    ∷ (record { of = (typed tree.Int []); name = (named "c") }) ∷ []) (
    (Statement.Return 0 (Some (variable "c"))) ▸
    NoItems)) ∷
    tree.FunctionItem (function (typed tree.Int []) (named "main") [] (
    (tree.Local (typed tree.Int ((pointer (Nullable 1) None) ∷ [])) (named "p") (Initializer.Value (Expression.Null 0))) ▹
    (Statement.Return 0 (Some (Expression.Call (named "f")
    (MoreExpressions (variable "p") (MoreExpressions (Expression.Call (named "putchar") (MoreExpressions (number 65) NoExpressions)) NoExpressions))))) ▸
    NoItems)) ∷ []

never_null_runs : source never_null [] 1 ≡ gives (Called (codes "main") ∷ []) (SourceEnding.Raised NullException)
never_null_runs = refl

-- struct P { int x; int y; }; int main() { struct P *p = NULL; int *q = &p->y; return 0; }
abbrev address_checks : Program
address_checks =
    tree.StructItem (record {
      at = 0;
      tag = (named "P");
      regions = [];
      members = ((record { of = (typed tree.Int []); name = (named "x") }) ∷ (record { of = (typed tree.Int []); name = (named "y") }) ∷ []);
    }) ∷
    tree.FunctionItem (function (typed tree.Int []) (named "main") [] (
    (tree.Local (typed (tree.Struct (named "P") []) ((pointer (Nullable 1) None) ∷ [])) (named "p") (Initializer.Value (Expression.Null 0))) ▹
    (tree.Local (typed tree.Int ((pointer (Nullable 1) None) ∷ [])) (named "q")
    (Initializer.Value (Expression.Prefixed 0 AddressOf (Expression.Suffixed (variable "p") (Arrow (named "y") NoSuffixes))))) ▹
    (Statement.Return 0 (Some (number 0))) ▸
    NoItems)) ∷ []

address_checks_runs : source address_checks [] 0 ≡ gives (Called (codes "main") ∷ []) (SourceEnding.Raised NullException)
address_checks_runs = refl

-- struct P { int x; int y; }; void f(struct P *p) { p->y = p->x + 1; } int main() { struct P a; a.x = 4; f(&a); return a.y; }
abbrev through_struct : Program
through_struct =
    tree.StructItem (record {
      at = 0;
      tag = (named "P");
      regions = [];
      members = ((record { of = (typed tree.Int []); name = (named "x") }) ∷ (record { of = (typed tree.Int []); name = (named "y") }) ∷ []);
    }) ∷
    tree.FunctionItem (function (typed tree.Void []) (named "f")
    ((record { of = (typed (tree.Struct (named "P") []) ((pointer (Nullable 1) None) ∷ [])); name = (named "p") }) ∷ []) (
    (Statement.Run (Expression.Assign (Expression.Suffixed (variable "p") (Arrow (named "y") NoSuffixes))
    (Expression.Chain (Expression.Suffixed (variable "p") (Arrow (named "x") NoSuffixes)) (MoreLinks Add (number 1) NoLinks)))) ▸
    NoItems)) ∷
    tree.FunctionItem (function (typed tree.Int []) (named "main") [] (
    (tree.Local (typed (tree.Struct (named "P") []) []) (named "a") Initializer.Unset) ▹
    (Statement.Run (Expression.Assign (Expression.Suffixed (variable "a") (Dot (named "x") NoSuffixes)) (number 4))) ▸
    (Statement.Run (Expression.Call (named "f") (MoreExpressions (Expression.Prefixed 0 AddressOf (variable "a")) NoExpressions))) ▸
    (Statement.Return 0 (Some (Expression.Suffixed (variable "a") (Dot (named "y") NoSuffixes)))) ▸
    NoItems)) ∷ []

through_struct_runs : source through_struct [] 1 ≡ gives (Called (codes "main") ∷ Called (codes "f") ∷ Returned (codes "f") ∷ Returned (codes "main") ∷ [])
    (SourceEnding.Ended 5)
through_struct_runs = refl

-- struct I { char c; int ? p; }; struct P { int x; struct I i; int y; }; int z = -3; int main() { struct P a = P(1, I('b', &z), 3); struct P b; b = a; a.i.c =
-- 'd'; return *b.i.p + b.i.c + b.y; }
abbrev struct_values : Program
struct_values =
    tree.StructItem (record {
      at = 0;
      tag = (named "I");
      regions = [];
      members = ((record { of = (typed tree.Char []); name = (named "c") })
          ∷ (record { of = (typed tree.Int ((pointer Fat None) ∷ [])); name = (named "p") }) ∷ []);
    }) ∷
    tree.StructItem (record {
      at = 0;
      tag = (named "P");
      regions = [];
      members = ((record { of = (typed tree.Int []); name = (named "x") }) ∷ (record { of = (typed (tree.Struct (named "I") []) []); name = (named "i") })
          ∷ (record { of = (typed tree.Int []); name = (named "y") }) ∷ []);
    }) ∷
    tree.GlobalItem (record { of = (typed tree.Int []); name = (named "z"); initial = (Initial.Given (Constant.Negative 0 3 false)) }) ∷
    tree.FunctionItem (function (typed tree.Int []) (named "main") [] (
    (tree.Local (typed (tree.Struct (named "P") []) []) (named "a")
    (Initializer.Value (Expression.Call (named "P")
    (MoreExpressions (number 1) (MoreExpressions
    (Expression.Call (named "I") (MoreExpressions (Expression.Character 0 98)
    (MoreExpressions (Expression.Prefixed 0 AddressOf (variable "z")) NoExpressions))) (MoreExpressions (number 3) NoExpressions)))))) ▹
    (tree.Local (typed (tree.Struct (named "P") []) []) (named "b") Initializer.Unset) ▹
    (Statement.Run (Expression.Assign (variable "b") (variable "a"))) ▸
    (Statement.Run (Expression.Assign (Expression.Suffixed (variable "a") (Dot (named "i") (Dot (named "c") NoSuffixes))) (Expression.Character 0 100))) ▸
    (Statement.Return 0 (Some (Expression.Chain
    (Expression.Prefixed 0 Dereference (Expression.Suffixed (variable "b") (Dot (named "i") (Dot (named "p") NoSuffixes))))
    (MoreLinks Add (Expression.Suffixed (variable "b") (Dot (named "i") (Dot (named "c") NoSuffixes)))
    (MoreLinks Add (Expression.Suffixed (variable "b") (Dot (named "y") NoSuffixes)) NoLinks))))) ▸
    NoItems)) ∷ []

struct_values_runs : source struct_values [] 0 ≡ gives (Called (codes "main") ∷ Returned (codes "main") ∷ []) (SourceEnding.Ended 98)
struct_values_runs = refl

-- char ? s = "hi"; int a[3]; char c = 321; unsigned u; int *n = NULL; int main() { a[1] = 5; s[0] = c; if (n == NULL && u == 0) return a[1] + a[0] + s[0] +
-- s[2]; return 0; }
abbrev global_values : Program
global_values =
    tree.GlobalItem (record {
      of = (typed tree.Char ((pointer Fat None) ∷ []));
      name = (named "s");
      initial = (Initial.Given (Constant.Text 11 (104 ∷ 105 ∷ [])));
    }) ∷
    tree.GlobalItem (record { of = (typed tree.Int []); name = (named "a"); initial = (Initial.Elements 3) }) ∷
    tree.GlobalItem (record { of = (typed tree.Char []); name = (named "c"); initial = (Initial.Given (Constant.Number 0 321 false)) }) ∷
    tree.GlobalItem (record { of = (typed tree.Unsigned []); name = (named "u"); initial = Initial.Unset }) ∷
    tree.GlobalItem (record { of = (typed tree.Int ((pointer (Nullable 1) None) ∷ [])); name = (named "n"); initial = (Initial.Given (Constant.Null 0)) }) ∷
    tree.FunctionItem (function (typed tree.Int []) (named "main") [] (
    (Statement.Run (Expression.Assign (Expression.Suffixed (variable "a") (Index (number 1) NoSuffixes)) (number 5))) ▸
    (Statement.Run (Expression.Assign (Expression.Suffixed (variable "s") (Index (number 0) NoSuffixes)) (variable "c"))) ▸
    (Statement.If 0 (Expression.AllOf (Expression.Chain (variable "n") (MoreLinks Equal (Expression.Null 0) NoLinks))
    (MoreExpressions (Expression.Chain (variable "u") (MoreLinks Equal (number 0) NoLinks)) NoExpressions))
    (Statement.Return 0 (Some (Expression.Chain (Expression.Suffixed (variable "a") (Index (number 1) NoSuffixes))
    (MoreLinks Add (Expression.Suffixed (variable "a") (Index (number 0) NoSuffixes))
    (MoreLinks Add (Expression.Suffixed (variable "s") (Index (number 0) NoSuffixes))
    (MoreLinks Add (Expression.Suffixed (variable "s") (Index (number 2) NoSuffixes)) NoLinks))))))) ▸
    (Statement.Return 0 (Some (number 0))) ▸
    NoItems)) ∷ []

global_values_runs : source global_values [] 0 ≡ gives (Called (codes "main") ∷ Returned (codes "main") ∷ []) (SourceEnding.Ended 70)
global_values_runs = refl

-- @tagged union U { int a; char b; }; int main() { union U x = U.b('z'); switch (x) { case {.a = v}: return 1; case {.b = c}: putchar(c); break; } return 0; }
abbrev union_member : Program
union_member =
    tree.UnionItem (record {
      at = 0;
      tag = (named "U");
      regions = [];
      members = ((record { of = (typed tree.Int []); name = (named "a") }) ∷ (record { of = (typed tree.Char []); name = (named "b") }) ∷ []);
    }) ∷
    tree.FunctionItem (function (typed tree.Int []) (named "main") [] (
    (tree.Local (typed (tree.Union (named "U") []) []) (named "x")
    (Initializer.Value (Expression.MakeUnion (named "U") (named "b") (Expression.Character 0 122)))) ▹
    (Statement.Switch 0 (variable "x") (MoreClauses 0 (Case (named "a") (named "v")) (
    (Statement.Return 0 (Some (number 1))) ▸
    NoItems) (MoreClauses 0 (Case (named "b") (named "c")) (
    (Statement.Run (Expression.Call (named "putchar") (MoreExpressions (variable "c") NoExpressions))) ▸
    (Statement.Break 0) ▸
    NoItems) NoClauses))) ▸
    (Statement.Return 0 (Some (number 0))) ▸
    NoItems)) ∷ []

union_member_runs : source union_member [] 1 ≡ gives (Called (codes "main") ∷ Visible (ByteWritten 122) ∷ Returned (codes "main") ∷ []) (SourceEnding.Ended 0)
union_member_runs = refl

-- @tagged union U { int a; char b; int *p; }; int main() { union U x = U.a(4); int n = 0; while (1) { switch (x) { case {.a = v}: x = U.p(&n); continue; case
-- {.b = c}: return 2; default: n = 7; break; } return n; } }
abbrev union_default : Program
union_default =
    tree.UnionItem (record {
      at = 0;
      tag = (named "U");
      regions = [];
      members = ((record { of = (typed tree.Int []); name = (named "a") }) ∷ (record { of = (typed tree.Char []); name = (named "b") })
          ∷ (record { of = (typed tree.Int ((pointer (Nullable 1) None) ∷ [])); name = (named "p") }) ∷ []);
    }) ∷
    tree.FunctionItem (function (typed tree.Int []) (named "main") [] (
    (tree.Local (typed (tree.Union (named "U") []) []) (named "x") (Initializer.Value (Expression.MakeUnion (named "U") (named "a") (number 4)))) ▹
    (tree.Local (typed tree.Int []) (named "n") (Initializer.Value (number 0))) ▹
    (Statement.While 0 (number 1) (Statement.Block 0 (
    (Statement.Switch 0 (variable "x") (MoreClauses 0 (Case (named "a") (named "v")) (
    (Statement.Run (Expression.Assign (variable "x") (Expression.MakeUnion (named "U") (named "p") (Expression.Prefixed 0 AddressOf (variable "n"))))) ▸
    (Statement.Continue 0) ▸
    NoItems) (MoreClauses 0 (Case (named "b") (named "c")) (
    (Statement.Return 0 (Some (number 2))) ▸
    NoItems) (MoreClauses 0 Default (
    (Statement.Run (Expression.Assign (variable "n") (number 7))) ▸
    (Statement.Break 0) ▸
    NoItems) NoClauses)))) ▸
    (Statement.Return 0 (Some (variable "n"))) ▸
    NoItems))) ▸
    NoItems)) ∷ []

union_default_runs : source union_default [] 2 ≡ gives (Called (codes "main") ∷ Returned (codes "main") ∷ []) (SourceEnding.Ended 7)
union_default_runs = refl

-- struct P { int x; int y; }; int main() { struct P a[3]; struct P ? p = a; p[2].y = 7; struct P *q = p + 2; q->x = 3; return a[2].y * 10 + (&p[2])->x +
-- numelts(p + 2); }
abbrev struct_array : Program
struct_array =
    tree.StructItem (record {
      at = 0;
      tag = (named "P");
      regions = [];
      members = ((record { of = (typed tree.Int []); name = (named "x") }) ∷ (record { of = (typed tree.Int []); name = (named "y") }) ∷ []);
    }) ∷
    tree.FunctionItem (function (typed tree.Int []) (named "main") [] (
    (tree.Local (typed (tree.Struct (named "P") []) []) (named "a") (Initializer.Elements 3)) ▹
    (tree.Local (typed (tree.Struct (named "P") []) ((pointer Fat None) ∷ [])) (named "p") (Initializer.Value (variable "a"))) ▹
    (Statement.Run (Expression.Assign (Expression.Suffixed (variable "p") (Index (number 2) (Dot (named "y") NoSuffixes))) (number 7))) ▸
    (tree.Local (typed (tree.Struct (named "P") []) ((pointer (Nullable 1) None) ∷ [])) (named "q")
    (Initializer.Value (Expression.Chain (variable "p") (MoreLinks Add (number 2) NoLinks)))) ▹
    (Statement.Run (Expression.Assign (Expression.Suffixed (variable "q") (Arrow (named "x") NoSuffixes)) (number 3))) ▸
    (Statement.Return 0 (Some (Expression.Chain (Expression.Chain (Expression.Suffixed (variable "a") (Index (number 2) (Dot (named "y") NoSuffixes)))
    (MoreLinks Multiply (number 10) NoLinks))
    (MoreLinks Add (Expression.Suffixed
    (Expression.Grouped 0 (Expression.Prefixed 0 AddressOf (Expression.Suffixed (variable "p") (Index (number 2) NoSuffixes))))
    (Arrow (named "x") NoSuffixes)) (MoreLinks Add (Expression.NumElts 0 (Expression.Chain (variable "p") (MoreLinks Add (number 2) NoLinks))) NoLinks)))))
    ▸
    NoItems)) ∷ []

struct_array_runs : source struct_array [] 0 ≡ gives (Called (codes "main") ∷ Returned (codes "main") ∷ []) (SourceEnding.Ended 74)
struct_array_runs = refl

-- @tagged union U { int a; char b; }; struct S { union U u; int n; }; struct S @g(struct S @s) { putchar(65); return s; } int main() { struct S s = S(U.a(4),
-- 2); switch (g(&s)->u) { case {.a = v}: s.u = U.b('c'); v = v + 1; return v + s.n; default: return 0; } }
abbrev switch_reads_once : Program
switch_reads_once =
    tree.UnionItem (record {
      at = 0;
      tag = (named "U");
      regions = [];
      members = ((record { of = (typed tree.Int []); name = (named "a") }) ∷ (record { of = (typed tree.Char []); name = (named "b") }) ∷ []);
    }) ∷
    tree.StructItem (record {
      at = 0;
      tag = (named "S");
      regions = [];
      members = ((record { of = (typed (tree.Union (named "U") []) []); name = (named "u") })
          ∷ (record { of = (typed tree.Int []); name = (named "n") }) ∷ []);
    }) ∷
    tree.FunctionItem (function (typed (tree.Struct (named "S") []) ((pointer (NotNull 1) None) ∷ [])) (named "g")
    ((record { of = (typed (tree.Struct (named "S") []) ((pointer (NotNull 1) None) ∷ [])); name = (named "s") }) ∷ []) (
    (Statement.Run (Expression.Call (named "putchar") (MoreExpressions (number 65) NoExpressions))) ▸
    (Statement.Return 0 (Some (variable "s"))) ▸
    NoItems)) ∷
    tree.FunctionItem (function (typed tree.Int []) (named "main") [] (
    (tree.Local (typed (tree.Struct (named "S") []) []) (named "s")
    (Initializer.Value (Expression.Call (named "S")
    (MoreExpressions (Expression.MakeUnion (named "U") (named "a") (number 4)) (MoreExpressions (number 2) NoExpressions))))) ▹
    (Statement.Switch 0 (Expression.Suffixed (Expression.Call (named "g") (MoreExpressions (Expression.Prefixed 0 AddressOf (variable "s")) NoExpressions))
    (Arrow (named "u") NoSuffixes)) (MoreClauses 0 (Case (named "a") (named "v")) (
    (Statement.Run (Expression.Assign (Expression.Suffixed (variable "s") (Dot (named "u") NoSuffixes))
    (Expression.MakeUnion (named "U") (named "b") (Expression.Character 0 99)))) ▸
    (Statement.Run (Expression.Assign (variable "v") (Expression.Chain (variable "v") (MoreLinks Add (number 1) NoLinks)))) ▸
    (Statement.Return 0 (Some (Expression.Chain (variable "v") (MoreLinks Add (Expression.Suffixed (variable "s") (Dot (named "n") NoSuffixes)) NoLinks)))) ▸
    NoItems) (MoreClauses 0 Default (
    (Statement.Return 0 (Some (number 0))) ▸
    NoItems) NoClauses))) ▸
    NoItems)) ∷ []

switch_reads_once_runs : source switch_reads_once [] 2 ≡ gives (Called (codes "main") ∷ Called (codes "g") ∷ Visible (ByteWritten 65) ∷ Returned (codes "g")
    ∷ Returned (codes "main") ∷ []) (SourceEnding.Ended 7)
switch_reads_once_runs = refl
