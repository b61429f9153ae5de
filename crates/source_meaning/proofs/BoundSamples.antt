-- What small programs do, computed: pointers to numbers of elements, their subscripts and conversions, and strings of globals.
use Rattle.std.proofs.Common.{◌≡◌, Some, None, [], ◌∷◌, refl}
use Rattle.std.specs.Prelude.{codes}
use Rattle.cyc_tree.specs.declared.name.Sign.TheVariants as sign
use Rattle.cyc_tree.specs.declared.expression.Operator.TheVariants.{Add, Equal, Multiply, NotEqual, Subtract}
use Rattle.cyc_tree.specs.declared.expression.Prefix.TheVariants.{AddressOf, Dereference}
use Rattle.cyc_tree.specs.Tree as tree
use Rattle.cyc_tree.specs.Tree.{Constant, Expression, Index, Initial, Initializer, MoreExpressions, MoreLinks, NoExpressions, NoItems, NoLinks, NoSuffixes}
use Rattle.cyc_tree.specs.Tree.{One, Program, Statement}
use Rattle.cyc_words.specs.declared.faults.Kind.TheVariants.{ArrayBounds, NullException}
use Rattle.cyc_words.specs.Events.{ByteWritten, Called, Returned, SourceEnding, UniqueAlloc, Visible}
use Rattle.source_meaning.specs.Programs.{source}
use Rattle.source_meaning.proofs.Trees.{◌▸◌, ◌▹◌, function, gives, named, number, pointer, typed, variable}

-- ---- What a subscript finds: NULL is looked at first, and then the number is compared without a sign.

-- int main() { int a[3]; int @{3} p = a; p[2] = 65; putchar(p[2]); return p[3]; }
abbrev subscript_at_the_bound : Program
subscript_at_the_bound =
    tree.FunctionItem (function (typed tree.Int []) (named "main") [] (
    (tree.Local (typed tree.Int []) (named "a") (Initializer.Elements 3)) ▹
    (tree.Local (typed tree.Int ((pointer (sign.NotNull 3) None) ∷ [])) (named "p") (Initializer.Value (variable "a"))) ▹
    (Statement.Run (Expression.Assign (Expression.Suffixed (variable "p") (Index (number 2) NoSuffixes)) (number 65))) ▸
    (Statement.Run (Expression.Call (named "putchar") (MoreExpressions (Expression.Suffixed (variable "p") (Index (number 2) NoSuffixes)) NoExpressions))) ▸
    (Statement.Return 0 (Some (Expression.Suffixed (variable "p") (Index (number 3) NoSuffixes)))) ▸
    NoItems)) ∷ []

subscript_at_the_bound_runs : source subscript_at_the_bound [] 8
    ≡ gives (Called (codes "main") ∷ Visible (ByteWritten 65) ∷ []) (SourceEnding.Raised ArrayBounds)
subscript_at_the_bound_runs = refl

-- int main() { int *{2} p = NULL; return p[5]; }
abbrev subscript_of_null : Program
subscript_of_null =
    tree.FunctionItem (function (typed tree.Int []) (named "main") [] (
    (tree.Local (typed tree.Int ((pointer (sign.Nullable 2) None) ∷ [])) (named "p") (Initializer.Value (Expression.Null 0))) ▹
    (Statement.Return 0 (Some (Expression.Suffixed (variable "p") (Index (number 5) NoSuffixes)))) ▸
    NoItems)) ∷ []

subscript_of_null_runs : source subscript_of_null [] 8 ≡ gives (Called (codes "main") ∷ []) (SourceEnding.Raised NullException)
subscript_of_null_runs = refl

-- int main() { int a[2]; int @{2} p = a; putchar(65); return p[0 - 1]; }
abbrev subscript_below_none : Program
subscript_below_none =
    tree.FunctionItem (function (typed tree.Int []) (named "main") [] (
    (tree.Local (typed tree.Int []) (named "a") (Initializer.Elements 2)) ▹
    (tree.Local (typed tree.Int ((pointer (sign.NotNull 2) None) ∷ [])) (named "p") (Initializer.Value (variable "a"))) ▹
    (Statement.Run (Expression.Call (named "putchar") (MoreExpressions (number 65) NoExpressions))) ▸
    (Statement.Return 0 (Some (Expression.Suffixed (variable "p") (Index (Expression.Chain (number 0) (MoreLinks Subtract (number 1) NoLinks))
    NoSuffixes)))) ▸
    NoItems)) ∷ []

subscript_below_none_runs : source subscript_below_none [] 8 ≡ gives (Called (codes "main") ∷ Visible (ByteWritten 65) ∷ []) (SourceEnding.Raised ArrayBounds)
subscript_below_none_runs = refl

-- int main() { int x = 5; int *p = &x; p[0] = p[0] + 1; putchar(x); return p[1]; }
abbrev subscript_of_one : Program
subscript_of_one =
    tree.FunctionItem (function (typed tree.Int []) (named "main") [] (
    (tree.Local (typed tree.Int []) (named "x") (Initializer.Value (number 5))) ▹
    (tree.Local (typed tree.Int ((pointer (sign.Nullable 1) None) ∷ [])) (named "p") (Initializer.Value (Expression.Prefixed 0 AddressOf (variable "x")))) ▹
    (Statement.Run (Expression.Assign (Expression.Suffixed (variable "p") (Index (number 0) NoSuffixes)) (Expression.Chain (Expression.Suffixed (variable
    "p") (Index (number 0) NoSuffixes)) (MoreLinks Add (number 1) NoLinks)))) ▸
    (Statement.Run (Expression.Call (named "putchar") (MoreExpressions (variable "x") NoExpressions))) ▸
    (Statement.Return 0 (Some (Expression.Suffixed (variable "p") (Index (number 1) NoSuffixes)))) ▸
    NoItems)) ∷ []

subscript_of_one_runs : source subscript_of_one [] 8 ≡ gives (Called (codes "main") ∷ Visible (ByteWritten 6) ∷ []) (SourceEnding.Raised ArrayBounds)
subscript_of_one_runs = refl

-- int main() { int a[3]; int @{3} p = a; return (&p[1])[1]; }
abbrev subscript_of_an_address : Program
subscript_of_an_address =
    tree.FunctionItem (function (typed tree.Int []) (named "main") [] (
    (tree.Local (typed tree.Int []) (named "a") (Initializer.Elements 3)) ▹
    (tree.Local (typed tree.Int ((pointer (sign.NotNull 3) None) ∷ [])) (named "p") (Initializer.Value (variable "a"))) ▹
    (Statement.Return 0 (Some (Expression.Suffixed (Expression.Grouped 0 (Expression.Prefixed 0 AddressOf (Expression.Suffixed (variable "p") (Index (number
    1) NoSuffixes)))) (Index (number 1) NoSuffixes)))) ▸
    NoItems)) ∷ []

subscript_of_an_address_runs : source subscript_of_an_address [] 8 ≡ gives (Called (codes "main") ∷ []) (SourceEnding.Raised ArrayBounds)
subscript_of_an_address_runs = refl

-- int main() { int @`U u = rnew(unique_region) 4; u[0] = u[0] + 1; putchar(*u); return u[1]; }
abbrev subscript_of_a_unique : Program
subscript_of_a_unique =
    tree.FunctionItem (function (typed tree.Int []) (named "main") [] (
    (tree.Local (typed tree.Int ((pointer (sign.NotNull 1) (Some (tree.Unique 0))) ∷ [])) (named "u") (Initializer.Value (Expression.NewIn 0
    (Expression.UniqueRegion 0) (One (number 4))))) ▹
    (Statement.Run (Expression.Assign (Expression.Suffixed (variable "u") (Index (number 0) NoSuffixes)) (Expression.Chain (Expression.Suffixed (variable
    "u") (Index (number 0) NoSuffixes)) (MoreLinks Add (number 1) NoLinks)))) ▸
    (Statement.Run (Expression.Call (named "putchar") (MoreExpressions (Expression.Prefixed 0 Dereference (variable "u")) NoExpressions))) ▸
    (Statement.Return 0 (Some (Expression.Suffixed (variable "u") (Index (number 1) NoSuffixes)))) ▸
    NoItems)) ∷ []

subscript_of_a_unique_runs : source subscript_of_a_unique [] 8
    ≡ gives (Called (codes "main") ∷ Visible (UniqueAlloc 1 4) ∷ Visible (ByteWritten 5) ∷ []) (SourceEnding.Raised ArrayBounds)
subscript_of_a_unique_runs = refl

-- ---- Fat to bound: NULL first, and then so many elements from the index on.

-- int main() { int a[3]; int ? q = a; int *{3} p = q + 1; return 0; }
abbrev few_elements_left : Program
few_elements_left =
    tree.FunctionItem (function (typed tree.Int []) (named "main") [] (
    (tree.Local (typed tree.Int []) (named "a") (Initializer.Elements 3)) ▹
    (tree.Local (typed tree.Int ((pointer sign.Fat None) ∷ [])) (named "q") (Initializer.Value (variable "a"))) ▹
    (tree.Local (typed tree.Int ((pointer (sign.Nullable 3) None) ∷ [])) (named "p") (Initializer.Value (Expression.Chain (variable "q") (MoreLinks Add
    (number 1) NoLinks)))) ▹
    (Statement.Return 0 (Some (number 0))) ▸
    NoItems)) ∷ []

few_elements_left_runs : source few_elements_left [] 8 ≡ gives (Called (codes "main") ∷ []) (SourceEnding.Raised ArrayBounds)
few_elements_left_runs = refl

-- int main() { int a[3]; a[2] = 7; int ? q = a; int *{2} p = q + 1; return p[1]; }
abbrev enough_elements_left : Program
enough_elements_left =
    tree.FunctionItem (function (typed tree.Int []) (named "main") [] (
    (tree.Local (typed tree.Int []) (named "a") (Initializer.Elements 3)) ▹
    (Statement.Run (Expression.Assign (Expression.Suffixed (variable "a") (Index (number 2) NoSuffixes)) (number 7))) ▸
    (tree.Local (typed tree.Int ((pointer sign.Fat None) ∷ [])) (named "q") (Initializer.Value (variable "a"))) ▹
    (tree.Local (typed tree.Int ((pointer (sign.Nullable 2) None) ∷ [])) (named "p") (Initializer.Value (Expression.Chain (variable "q") (MoreLinks Add
    (number 1) NoLinks)))) ▹
    (Statement.Return 0 (Some (Expression.Suffixed (variable "p") (Index (number 1) NoSuffixes)))) ▸
    NoItems)) ∷ []

enough_elements_left_runs : source enough_elements_left [] 8 ≡ gives (Called (codes "main") ∷ Returned (codes "main") ∷ []) (SourceEnding.Ended 7)
enough_elements_left_runs = refl

-- int main() { int a[3]; int *{2} p = a - 1; return 0; }
abbrev index_wrapped : Program
index_wrapped =
    tree.FunctionItem (function (typed tree.Int []) (named "main") [] (
    (tree.Local (typed tree.Int []) (named "a") (Initializer.Elements 3)) ▹
    (tree.Local (typed tree.Int ((pointer (sign.Nullable 2) None) ∷ [])) (named "p") (Initializer.Value (Expression.Chain (variable "a") (MoreLinks Subtract
    (number 1) NoLinks)))) ▹
    (Statement.Return 0 (Some (number 0))) ▸
    NoItems)) ∷ []

index_wrapped_runs : source index_wrapped [] 8 ≡ gives (Called (codes "main") ∷ []) (SourceEnding.Raised ArrayBounds)
index_wrapped_runs = refl

-- int main() { int ? q = NULL; int *{3} p = q + 5; putchar(48 + (p == NULL)); int @{3} r = q + 5; return 0; }
abbrev null_to_bound : Program
null_to_bound =
    tree.FunctionItem (function (typed tree.Int []) (named "main") [] (
    (tree.Local (typed tree.Int ((pointer sign.Fat None) ∷ [])) (named "q") (Initializer.Value (Expression.Null 0))) ▹
    (tree.Local (typed tree.Int ((pointer (sign.Nullable 3) None) ∷ [])) (named "p") (Initializer.Value (Expression.Chain (variable "q") (MoreLinks Add
    (number 5) NoLinks)))) ▹
    (Statement.Run (Expression.Call (named "putchar") (MoreExpressions (Expression.Chain (number 48) (MoreLinks Add (Expression.Grouped 0 (Expression.Chain
    (variable "p") (MoreLinks Equal (Expression.Null 0) NoLinks))) NoLinks)) NoExpressions))) ▸
    (tree.Local (typed tree.Int ((pointer (sign.NotNull 3) None) ∷ [])) (named "r") (Initializer.Value (Expression.Chain (variable "q") (MoreLinks Add
    (number 5) NoLinks)))) ▹
    (Statement.Return 0 (Some (number 0))) ▸
    NoItems)) ∷ []

null_to_bound_runs : source null_to_bound [] 8 ≡ gives (Called (codes "main") ∷ Visible (ByteWritten 49) ∷ []) (SourceEnding.Raised NullException)
null_to_bound_runs = refl

-- int main() { int *{3} n = NULL; int *{2} p = n; int ? r = n; putchar(48 + (p == NULL) + (r == NULL) + numelts(r)); int @{2} q = n; return 0; }
abbrev null_to_never_null_bound : Program
null_to_never_null_bound =
    tree.FunctionItem (function (typed tree.Int []) (named "main") [] (
    (tree.Local (typed tree.Int ((pointer (sign.Nullable 3) None) ∷ [])) (named "n") (Initializer.Value (Expression.Null 0))) ▹
    (tree.Local (typed tree.Int ((pointer (sign.Nullable 2) None) ∷ [])) (named "p") (Initializer.Value (variable "n"))) ▹
    (tree.Local (typed tree.Int ((pointer sign.Fat None) ∷ [])) (named "r") (Initializer.Value (variable "n"))) ▹
    (Statement.Run (Expression.Call (named "putchar") (MoreExpressions (Expression.Chain (number 48) (MoreLinks Add (Expression.Grouped 0 (Expression.Chain
    (variable "p") (MoreLinks Equal (Expression.Null 0) NoLinks))) (MoreLinks Add (Expression.Grouped 0 (Expression.Chain (variable "r") (MoreLinks Equal
    (Expression.Null 0) NoLinks))) (MoreLinks Add (Expression.NumElts 0 (variable "r")) NoLinks)))) NoExpressions))) ▸
    (tree.Local (typed tree.Int ((pointer (sign.NotNull 2) None) ∷ [])) (named "q") (Initializer.Value (variable "n"))) ▹
    (Statement.Return 0 (Some (number 0))) ▸
    NoItems)) ∷ []

null_to_never_null_bound_runs : source null_to_never_null_bound [] 8
    ≡ gives (Called (codes "main") ∷ Visible (ByteWritten 50) ∷ []) (SourceEnding.Raised NullException)
null_to_never_null_bound_runs = refl

-- ---- Bound to fat: so many elements, with the index 0.

-- int main() { int a[3]; int @{3} p = a; int @{2} q = p; int ? r = q; putchar(48 + numelts(r)); return 0; }
abbrev bound_to_fat : Program
bound_to_fat =
    tree.FunctionItem (function (typed tree.Int []) (named "main") [] (
    (tree.Local (typed tree.Int []) (named "a") (Initializer.Elements 3)) ▹
    (tree.Local (typed tree.Int ((pointer (sign.NotNull 3) None) ∷ [])) (named "p") (Initializer.Value (variable "a"))) ▹
    (tree.Local (typed tree.Int ((pointer (sign.NotNull 2) None) ∷ [])) (named "q") (Initializer.Value (variable "p"))) ▹
    (tree.Local (typed tree.Int ((pointer sign.Fat None) ∷ [])) (named "r") (Initializer.Value (variable "q"))) ▹
    (Statement.Run (Expression.Call (named "putchar") (MoreExpressions (Expression.Chain (number 48) (MoreLinks Add (Expression.NumElts 0 (variable "r"))
    NoLinks)) NoExpressions))) ▸
    (Statement.Return 0 (Some (number 0))) ▸
    NoItems)) ∷ []

bound_to_fat_runs : source bound_to_fat [] 8 ≡ gives (Called (codes "main") ∷ Visible (ByteWritten 50) ∷ Returned (codes "main") ∷ []) (SourceEnding.Ended 0)
bound_to_fat_runs = refl

-- int main() { int a[5]; int @{2} p = a + 1; int ? r = p; r = r - 1; putchar(48 + numelts(r)); r[1] = 8; putchar(48 + a[1]); return r[3]; }
abbrev bound_to_fat_alone : Program
bound_to_fat_alone =
    tree.FunctionItem (function (typed tree.Int []) (named "main") [] (
    (tree.Local (typed tree.Int []) (named "a") (Initializer.Elements 5)) ▹
    (tree.Local (typed tree.Int ((pointer (sign.NotNull 2) None) ∷ [])) (named "p") (Initializer.Value (Expression.Chain (variable "a") (MoreLinks Add
    (number 1) NoLinks)))) ▹
    (tree.Local (typed tree.Int ((pointer sign.Fat None) ∷ [])) (named "r") (Initializer.Value (variable "p"))) ▹
    (Statement.Run (Expression.Assign (variable "r") (Expression.Chain (variable "r") (MoreLinks Subtract (number 1) NoLinks)))) ▸
    (Statement.Run (Expression.Call (named "putchar") (MoreExpressions (Expression.Chain (number 48) (MoreLinks Add (Expression.NumElts 0 (variable "r"))
    NoLinks)) NoExpressions))) ▸
    (Statement.Run (Expression.Assign (Expression.Suffixed (variable "r") (Index (number 1) NoSuffixes)) (number 8))) ▸
    (Statement.Run (Expression.Call (named "putchar") (MoreExpressions (Expression.Chain (number 48) (MoreLinks Add (Expression.Suffixed (variable "a")
    (Index (number 1) NoSuffixes)) NoLinks)) NoExpressions))) ▸
    (Statement.Return 0 (Some (Expression.Suffixed (variable "r") (Index (number 3) NoSuffixes)))) ▸
    NoItems)) ∷ []

bound_to_fat_alone_runs : source bound_to_fat_alone [] 8
    ≡ gives (Called (codes "main") ∷ Visible (ByteWritten 48) ∷ Visible (ByteWritten 56) ∷ []) (SourceEnding.Raised ArrayBounds)
bound_to_fat_alone_runs = refl

-- ---- Two pointers are equal where they stand at one cell, whatever their numbers.

-- int main() { int a[3]; int @{3} p = a; int *{2} q = a; int @ r = &a[0]; int *{2} s = a + 1; return (p == q) * 100 + (p == r) * 10 + (q != s); }
abbrev compared_past_bounds : Program
compared_past_bounds =
    tree.FunctionItem (function (typed tree.Int []) (named "main") [] (
    (tree.Local (typed tree.Int []) (named "a") (Initializer.Elements 3)) ▹
    (tree.Local (typed tree.Int ((pointer (sign.NotNull 3) None) ∷ [])) (named "p") (Initializer.Value (variable "a"))) ▹
    (tree.Local (typed tree.Int ((pointer (sign.Nullable 2) None) ∷ [])) (named "q") (Initializer.Value (variable "a"))) ▹
    (tree.Local (typed tree.Int ((pointer (sign.NotNull 1) None) ∷ [])) (named "r") (Initializer.Value (Expression.Prefixed 0 AddressOf (Expression.Suffixed
    (variable "a") (Index (number 0) NoSuffixes))))) ▹
    (tree.Local (typed tree.Int ((pointer (sign.Nullable 2) None) ∷ [])) (named "s") (Initializer.Value (Expression.Chain (variable "a") (MoreLinks Add
    (number 1) NoLinks)))) ▹
    (Statement.Return 0 (Some (Expression.Chain (Expression.Chain (Expression.Grouped 0 (Expression.Chain (variable "p") (MoreLinks Equal (variable "q")
    NoLinks))) (MoreLinks Multiply (number 100) NoLinks)) (MoreLinks Add (Expression.Chain (Expression.Grouped 0 (Expression.Chain (variable "p") (MoreLinks
    Equal (variable "r") NoLinks))) (MoreLinks Multiply (number 10) NoLinks)) (MoreLinks Add (Expression.Grouped 0 (Expression.Chain (variable "q")
    (MoreLinks NotEqual (variable "s") NoLinks))) NoLinks))))) ▸
    NoItems)) ∷ []

compared_past_bounds_runs : source compared_past_bounds [] 8 ≡ gives (Called (codes "main") ∷ Returned (codes "main") ∷ []) (SourceEnding.Ended 111)
compared_past_bounds_runs = refl

-- ---- A global that begins as a string; where a tree has another string at its place, of another length, it is NULL.

-- char *{4} g = "abc"; int main() { char ? s = g; return numelts(s) * 10 + g[3]; }
abbrev string_of_a_global : Program
string_of_a_global =
    tree.GlobalItem (record {
      of = (typed tree.Char ((pointer (sign.Nullable 4) None) ∷ []));
      name = (named "g");
      initial = (Initial.Given (Constant.Text 14
          (codes "abc")));
    }) ∷
    tree.FunctionItem (function (typed tree.Int []) (named "main") [] (
    (tree.Local (typed tree.Char ((pointer sign.Fat None) ∷ [])) (named "s") (Initializer.Value (variable "g"))) ▹
    (Statement.Return 0 (Some (Expression.Chain (Expression.Chain (Expression.NumElts 0 (variable "s")) (MoreLinks Multiply (number 10) NoLinks)) (MoreLinks
    Add (Expression.Suffixed (variable "g") (Index (number 3) NoSuffixes)) NoLinks)))) ▸
    NoItems)) ∷ []

string_of_a_global_runs : source string_of_a_global [] 8 ≡ gives (Called (codes "main") ∷ Returned (codes "main") ∷ []) (SourceEnding.Ended 40)
string_of_a_global_runs = refl

-- char *{1} g = "a"; char *{4} h = "bcd"; char ? k = "e"; int main() { return (g == NULL) * 100 + (h == NULL) * 10 + k[0]; } (with all strings at one place)
abbrev string_at_one_place : Program
string_at_one_place =
    tree.GlobalItem (record {
      of = (typed tree.Char ((pointer (sign.Nullable 1) None) ∷ []));
      name = (named "g");
      initial = (Initial.Given (Constant.Text 9
          (codes "a")));
    }) ∷
    tree.GlobalItem (record {
      of = (typed tree.Char ((pointer (sign.Nullable 4) None) ∷ []));
      name = (named "h");
      initial = (Initial.Given (Constant.Text 9
          (codes "bcd")));
    }) ∷
    tree.GlobalItem (record {
      of = (typed tree.Char ((pointer sign.Fat None) ∷ []));
      name = (named "k");
      initial = (Initial.Given (Constant.Text 9 (codes
          "e")));
    }) ∷
    tree.FunctionItem (function (typed tree.Int []) (named "main") [] (
    (Statement.Return 0 (Some (Expression.Chain (Expression.Chain (Expression.Grouped 0 (Expression.Chain (variable "g") (MoreLinks Equal (Expression.Null
    0) NoLinks))) (MoreLinks Multiply (number 100) NoLinks)) (MoreLinks Add (Expression.Chain (Expression.Grouped 0 (Expression.Chain (variable "h")
    (MoreLinks Equal (Expression.Null 0) NoLinks))) (MoreLinks Multiply (number 10) NoLinks)) (MoreLinks Add (Expression.Suffixed (variable "k") (Index
    (number 0) NoSuffixes)) NoLinks))))) ▸
    NoItems)) ∷ []

string_at_one_place_runs : source string_at_one_place [] 8 ≡ gives (Called (codes "main") ∷ Returned (codes "main") ∷ []) (SourceEnding.Ended 107)
string_at_one_place_runs = refl
