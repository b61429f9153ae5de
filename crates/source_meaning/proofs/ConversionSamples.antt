-- What small programs do, computed: conversions of pointers, their checks, and the index of a fat pointer
use Rattle.std.proofs.Common.{◌≡◌, Some, None, [], ◌∷◌, refl}
use Rattle.std.specs.Prelude.{codes}
use Rattle.cyc_tree.specs.declared.name.Sign.TheVariants.{Nullable, NotNull, Fat}
use Rattle.cyc_tree.specs.declared.expression.Operator.TheVariants.{Equal, NotEqual, Add, Subtract, Multiply}
use Rattle.cyc_tree.specs.declared.expression.Prefix.TheVariants.{Dereference, AddressOf}
use Rattle.cyc_tree.specs.Tree as tree
use Rattle.cyc_tree.specs.Tree.{Expression, NoExpressions, MoreExpressions, NoLinks, MoreLinks, NoSuffixes, Index, One, Initializer, Statement, NoItems}
use Rattle.cyc_tree.specs.Tree.{Program}
use Rattle.cyc_words.specs.declared.faults.Kind.TheVariants.{NullException, ArrayBounds}
use Rattle.cyc_words.specs.Events.{ByteWritten, RegionAlloc, Visible, Called, Returned, SourceEnding}
use Rattle.source_meaning.specs.Programs.{source}
use Rattle.source_meaning.proofs.Trees.{named, variable, number, pointer, typed, ◌▸◌, ◌▹◌, function, gives}

-- int main() { int *p = NULL; int *q = &*p; return 0; }
abbrev address_of_null : Program
address_of_null =
    tree.FunctionItem (function (typed tree.Int []) (named "main") [] (
    (tree.Local (typed tree.Int ((pointer (Nullable 1) None) ∷ [])) (named "p") (Initializer.Value (Expression.Null 0))) ▹
    (tree.Local (typed tree.Int ((pointer (Nullable 1) None) ∷ [])) (named "q")
    (Initializer.Value (Expression.Prefixed 0 AddressOf (Expression.Prefixed 0 Dereference (variable "p"))))) ▹
    (Statement.Return 0 (Some (number 0))) ▸
    NoItems)) ∷ []

address_of_null_runs : source address_of_null [] 0 ≡ gives (Called (codes "main") ∷ []) (SourceEnding.Raised NullException)
address_of_null_runs = refl

-- int main() { int a[3]; int *p = &a[2]; putchar(65); p = &a[3]; return 0; }
abbrev address_past_the_end : Program
address_past_the_end =
    tree.FunctionItem (function (typed tree.Int []) (named "main") [] (
    (tree.Local (typed tree.Int []) (named "a") (Initializer.Elements 3)) ▹
    (tree.Local (typed tree.Int ((pointer (Nullable 1) None) ∷ [])) (named "p")
    (Initializer.Value (Expression.Prefixed 0 AddressOf (Expression.Suffixed (variable "a") (Index (number 2) NoSuffixes))))) ▹
    (Statement.Run (Expression.Call (named "putchar") (MoreExpressions (number 65) NoExpressions))) ▸
    (Statement.Run (Expression.Assign (variable "p") (Expression.Prefixed 0 AddressOf (Expression.Suffixed (variable "a") (Index (number 3) NoSuffixes))))) ▸
    (Statement.Return 0 (Some (number 0))) ▸
    NoItems)) ∷ []

address_past_the_end_runs : source address_past_the_end [] 1 ≡ gives (Called (codes "main") ∷ Visible (ByteWritten 65) ∷ []) (SourceEnding.Raised ArrayBounds)
address_past_the_end_runs = refl

-- int main() { int a[2]; a[1] = 4; int ? p = a; int @q = p + 1; return *q; }
abbrev fat_to_never_null : Program
fat_to_never_null =
    tree.FunctionItem (function (typed tree.Int []) (named "main") [] (
    (tree.Local (typed tree.Int []) (named "a") (Initializer.Elements 2)) ▹
    (Statement.Run (Expression.Assign (Expression.Suffixed (variable "a") (Index (number 1) NoSuffixes)) (number 4))) ▸
    (tree.Local (typed tree.Int ((pointer Fat None) ∷ [])) (named "p") (Initializer.Value (variable "a"))) ▹
    (tree.Local (typed tree.Int ((pointer (NotNull 1) None) ∷ [])) (named "q")
    (Initializer.Value (Expression.Chain (variable "p") (MoreLinks Add (number 1) NoLinks)))) ▹
    (Statement.Return 0 (Some (Expression.Prefixed 0 Dereference (variable "q")))) ▸
    NoItems)) ∷ []

fat_to_never_null_runs : source fat_to_never_null [] 0 ≡ gives (Called (codes "main") ∷ Returned (codes "main") ∷ []) (SourceEnding.Ended 4)
fat_to_never_null_runs = refl

-- int main() { int ? p = NULL; int @q = p; return 0; }
abbrev fat_null_to_never_null : Program
fat_null_to_never_null =
    tree.FunctionItem (function (typed tree.Int []) (named "main") [] (
    (tree.Local (typed tree.Int ((pointer Fat None) ∷ [])) (named "p") (Initializer.Value (Expression.Null 0))) ▹
    (tree.Local (typed tree.Int ((pointer (NotNull 1) None) ∷ [])) (named "q") (Initializer.Value (variable "p"))) ▹
    (Statement.Return 0 (Some (number 0))) ▸
    NoItems)) ∷ []

fat_null_to_never_null_runs : source fat_null_to_never_null [] 0 ≡ gives (Called (codes "main") ∷ []) (SourceEnding.Raised NullException)
fat_null_to_never_null_runs = refl

-- int main() { int a[2]; int ? p = a; int @q = p + 2; return 0; }
abbrev fat_end_to_never_null : Program
fat_end_to_never_null =
    tree.FunctionItem (function (typed tree.Int []) (named "main") [] (
    (tree.Local (typed tree.Int []) (named "a") (Initializer.Elements 2)) ▹
    (tree.Local (typed tree.Int ((pointer Fat None) ∷ [])) (named "p") (Initializer.Value (variable "a"))) ▹
    (tree.Local (typed tree.Int ((pointer (NotNull 1) None) ∷ [])) (named "q")
    (Initializer.Value (Expression.Chain (variable "p") (MoreLinks Add (number 2) NoLinks)))) ▹
    (Statement.Return 0 (Some (number 0))) ▸
    NoItems)) ∷ []

fat_end_to_never_null_runs : source fat_end_to_never_null [] 0 ≡ gives (Called (codes "main") ∷ []) (SourceEnding.Raised ArrayBounds)
fat_end_to_never_null_runs = refl

-- int main() { int *p = NULL; int ? q = p; if (q == NULL) return numelts(q) + 7; return 0; }
abbrev null_to_fat : Program
null_to_fat =
    tree.FunctionItem (function (typed tree.Int []) (named "main") [] (
    (tree.Local (typed tree.Int ((pointer (Nullable 1) None) ∷ [])) (named "p") (Initializer.Value (Expression.Null 0))) ▹
    (tree.Local (typed tree.Int ((pointer Fat None) ∷ [])) (named "q") (Initializer.Value (variable "p"))) ▹
    (Statement.If 0 (Expression.Chain (variable "q") (MoreLinks Equal (Expression.Null 0) NoLinks))
    (Statement.Return 0 (Some (Expression.Chain (Expression.NumElts 0 (variable "q")) (MoreLinks Add (number 7) NoLinks))))) ▸
    (Statement.Return 0 (Some (number 0))) ▸
    NoItems)) ∷ []

null_to_fat_runs : source null_to_fat [] 0 ≡ gives (Called (codes "main") ∷ Returned (codes "main") ∷ []) (SourceEnding.Ended 7)
null_to_fat_runs = refl

-- int main() { int a[2]; a[0] = 5; int *p = a; return *p; }
abbrev array_to_thin : Program
array_to_thin =
    tree.FunctionItem (function (typed tree.Int []) (named "main") [] (
    (tree.Local (typed tree.Int []) (named "a") (Initializer.Elements 2)) ▹
    (Statement.Run (Expression.Assign (Expression.Suffixed (variable "a") (Index (number 0) NoSuffixes)) (number 5))) ▸
    (tree.Local (typed tree.Int ((pointer (Nullable 1) None) ∷ [])) (named "p") (Initializer.Value (variable "a"))) ▹
    (Statement.Return 0 (Some (Expression.Prefixed 0 Dereference (variable "p")))) ▸
    NoItems)) ∷ []

array_to_thin_runs : source array_to_thin [] 0 ≡ gives (Called (codes "main") ∷ Returned (codes "main") ∷ []) (SourceEnding.Ended 5)
array_to_thin_runs = refl

-- int main() { int a[2]; *a = 5; a[1] = 6; return *a * 10 + *(a + 1); }
abbrev array_dereferenced : Program
array_dereferenced =
    tree.FunctionItem (function (typed tree.Int []) (named "main") [] (
    (tree.Local (typed tree.Int []) (named "a") (Initializer.Elements 2)) ▹
    (Statement.Run (Expression.Assign (Expression.Prefixed 0 Dereference (variable "a")) (number 5))) ▸
    (Statement.Run (Expression.Assign (Expression.Suffixed (variable "a") (Index (number 1) NoSuffixes)) (number 6))) ▸
    (Statement.Return 0 (Some (Expression.Chain (Expression.Chain (Expression.Prefixed 0 Dereference (variable "a")) (MoreLinks Multiply (number 10) NoLinks))
    (MoreLinks Add (Expression.Prefixed 0 Dereference (Expression.Grouped 0 (Expression.Chain (variable "a") (MoreLinks Add (number 1) NoLinks))))
    NoLinks)))) ▸
    NoItems)) ∷ []

array_dereferenced_runs : source array_dereferenced [] 0 ≡ gives (Called (codes "main") ∷ Returned (codes "main") ∷ []) (SourceEnding.Ended 56)
array_dereferenced_runs = refl

-- int main() { int ? p = NULL; return *p; }
abbrev fat_null_read : Program
fat_null_read =
    tree.FunctionItem (function (typed tree.Int []) (named "main") [] (
    (tree.Local (typed tree.Int ((pointer Fat None) ∷ [])) (named "p") (Initializer.Value (Expression.Null 0))) ▹
    (Statement.Return 0 (Some (Expression.Prefixed 0 Dereference (variable "p")))) ▸
    NoItems)) ∷ []

fat_null_read_runs : source fat_null_read [] 0 ≡ gives (Called (codes "main") ∷ []) (SourceEnding.Raised NullException)
fat_null_read_runs = refl

-- int main() { int ? p = NULL; p[putchar(1)] = putchar(2); return 0; }
abbrev fat_null_indexed : Program
fat_null_indexed =
    tree.FunctionItem (function (typed tree.Int []) (named "main") [] (
    (tree.Local (typed tree.Int ((pointer Fat None) ∷ [])) (named "p") (Initializer.Value (Expression.Null 0))) ▹
    (Statement.Run (Expression.Assign
    (Expression.Suffixed (variable "p") (Index (Expression.Call (named "putchar") (MoreExpressions (number 1) NoExpressions)) NoSuffixes))
    (Expression.Call (named "putchar") (MoreExpressions (number 2) NoExpressions)))) ▸
    (Statement.Return 0 (Some (number 0))) ▸
    NoItems)) ∷ []

fat_null_indexed_runs : source fat_null_indexed [] 2 ≡ gives (Called (codes "main") ∷ Visible (ByteWritten 2) ∷ Visible (ByteWritten 1) ∷ [])
    (SourceEnding.Raised NullException)
fat_null_indexed_runs = refl

-- int main() { int ? p = NULL; p = p + 1 - 2; if (p == NULL) return numelts(p) + 3; return 0; }
abbrev null_moved : Program
null_moved =
    tree.FunctionItem (function (typed tree.Int []) (named "main") [] (
    (tree.Local (typed tree.Int ((pointer Fat None) ∷ [])) (named "p") (Initializer.Value (Expression.Null 0))) ▹
    (Statement.Run (Expression.Assign (variable "p") (Expression.Chain (variable "p") (MoreLinks Add (number 1) (MoreLinks Subtract (number 2) NoLinks))))) ▸
    (Statement.If 0 (Expression.Chain (variable "p") (MoreLinks Equal (Expression.Null 0) NoLinks))
    (Statement.Return 0 (Some (Expression.Chain (Expression.NumElts 0 (variable "p")) (MoreLinks Add (number 3) NoLinks))))) ▸
    (Statement.Return 0 (Some (number 0))) ▸
    NoItems)) ∷ []

null_moved_runs : source null_moved [] 0 ≡ gives (Called (codes "main") ∷ Returned (codes "main") ∷ []) (SourceEnding.Ended 3)
null_moved_runs = refl

-- int main() { int a[3]; a[1] = 7; int ? p = a + 2; p = p - 1; return *p * 10 + numelts(p); }
abbrev moved_back : Program
moved_back =
    tree.FunctionItem (function (typed tree.Int []) (named "main") [] (
    (tree.Local (typed tree.Int []) (named "a") (Initializer.Elements 3)) ▹
    (Statement.Run (Expression.Assign (Expression.Suffixed (variable "a") (Index (number 1) NoSuffixes)) (number 7))) ▸
    (tree.Local (typed tree.Int ((pointer Fat None) ∷ [])) (named "p")
    (Initializer.Value (Expression.Chain (variable "a") (MoreLinks Add (number 2) NoLinks)))) ▹
    (Statement.Run (Expression.Assign (variable "p") (Expression.Chain (variable "p") (MoreLinks Subtract (number 1) NoLinks)))) ▸
    (Statement.Return 0 (Some (Expression.Chain (Expression.Chain (Expression.Prefixed 0 Dereference (variable "p")) (MoreLinks Multiply (number 10) NoLinks))
    (MoreLinks Add (Expression.NumElts 0 (variable "p")) NoLinks)))) ▸
    NoItems)) ∷ []

moved_back_runs : source moved_back [] 0 ≡ gives (Called (codes "main") ∷ Returned (codes "main") ∷ []) (SourceEnding.Ended 72)
moved_back_runs = refl

-- int main() { int a[3]; a[0] = 7; int ? p = a; p = p - 1; putchar('0' + numelts(p)); return p[1]; }
abbrev index_wraps : Program
index_wraps =
    tree.FunctionItem (function (typed tree.Int []) (named "main") [] (
    (tree.Local (typed tree.Int []) (named "a") (Initializer.Elements 3)) ▹
    (Statement.Run (Expression.Assign (Expression.Suffixed (variable "a") (Index (number 0) NoSuffixes)) (number 7))) ▸
    (tree.Local (typed tree.Int ((pointer Fat None) ∷ [])) (named "p") (Initializer.Value (variable "a"))) ▹
    (Statement.Run (Expression.Assign (variable "p") (Expression.Chain (variable "p") (MoreLinks Subtract (number 1) NoLinks)))) ▸
    (Statement.Run (Expression.Call (named "putchar")
    (MoreExpressions (Expression.Chain (Expression.Character 0 48) (MoreLinks Add (Expression.NumElts 0 (variable "p")) NoLinks)) NoExpressions))) ▸
    (Statement.Return 0 (Some (Expression.Suffixed (variable "p") (Index (number 1) NoSuffixes)))) ▸
    NoItems)) ∷ []

index_wraps_runs : source index_wraps [] 1 ≡ gives (Called (codes "main") ∷ Visible (ByteWritten 48) ∷ Returned (codes "main") ∷ []) (SourceEnding.Ended 7)
index_wraps_runs = refl

-- int main() { int a[3]; int ? p = a; p = p - 1; return *p; }
abbrev index_below_the_start : Program
index_below_the_start =
    tree.FunctionItem (function (typed tree.Int []) (named "main") [] (
    (tree.Local (typed tree.Int []) (named "a") (Initializer.Elements 3)) ▹
    (tree.Local (typed tree.Int ((pointer Fat None) ∷ [])) (named "p") (Initializer.Value (variable "a"))) ▹
    (Statement.Run (Expression.Assign (variable "p") (Expression.Chain (variable "p") (MoreLinks Subtract (number 1) NoLinks)))) ▸
    (Statement.Return 0 (Some (Expression.Prefixed 0 Dereference (variable "p")))) ▸
    NoItems)) ∷ []

index_below_the_start_runs : source index_below_the_start [] 0 ≡ gives (Called (codes "main") ∷ []) (SourceEnding.Raised ArrayBounds)
index_below_the_start_runs = refl

-- int main() { int x; int y; int a[2]; int *p = &x; int *q = &y; int *h = new 0; return (p == q) + (p != q) * 2 + (p == &x) * 4 + (&a[0] != &a[1]) * 8 + (p !=
-- &x) * 16 + (p != h) * 32; }
abbrev different_pointers : Program
different_pointers =
    tree.FunctionItem (function (typed tree.Int []) (named "main") [] (
    (tree.Local (typed tree.Int []) (named "x") Initializer.Unset) ▹
    (tree.Local (typed tree.Int []) (named "y") Initializer.Unset) ▹
    (tree.Local (typed tree.Int []) (named "a") (Initializer.Elements 2)) ▹
    (tree.Local (typed tree.Int ((pointer (Nullable 1) None) ∷ [])) (named "p") (Initializer.Value (Expression.Prefixed 0 AddressOf (variable "x")))) ▹
    (tree.Local (typed tree.Int ((pointer (Nullable 1) None) ∷ [])) (named "q") (Initializer.Value (Expression.Prefixed 0 AddressOf (variable "y")))) ▹
    (tree.Local (typed tree.Int ((pointer (Nullable 1) None) ∷ [])) (named "h") (Initializer.Value (Expression.New 0 (One (number 0))))) ▹
    (Statement.Return 0 (Some (Expression.Chain (Expression.Grouped 0 (Expression.Chain (variable "p") (MoreLinks Equal (variable "q") NoLinks)))
    (MoreLinks Add (Expression.Chain (Expression.Grouped 0 (Expression.Chain (variable "p") (MoreLinks NotEqual (variable "q") NoLinks)))
    (MoreLinks Multiply (number 2) NoLinks))
    (MoreLinks Add (Expression.Chain
    (Expression.Grouped 0 (Expression.Chain (variable "p") (MoreLinks Equal (Expression.Prefixed 0 AddressOf (variable "x")) NoLinks)))
    (MoreLinks Multiply (number 4) NoLinks))
    (MoreLinks Add (Expression.Chain
    (Expression.Grouped 0 (Expression.Chain (Expression.Prefixed 0 AddressOf (Expression.Suffixed (variable "a") (Index (number 0) NoSuffixes)))
    (MoreLinks NotEqual (Expression.Prefixed 0 AddressOf (Expression.Suffixed (variable "a") (Index (number 1) NoSuffixes))) NoLinks)))
    (MoreLinks Multiply (number 8) NoLinks))
    (MoreLinks Add (Expression.Chain
    (Expression.Grouped 0 (Expression.Chain (variable "p") (MoreLinks NotEqual (Expression.Prefixed 0 AddressOf (variable "x")) NoLinks)))
    (MoreLinks Multiply (number 16) NoLinks))
    (MoreLinks Add (Expression.Chain (Expression.Grouped 0 (Expression.Chain (variable "p") (MoreLinks NotEqual (variable "h") NoLinks)))
    (MoreLinks Multiply (number 32) NoLinks)) NoLinks)))))))) ▸
    NoItems)) ∷ []

different_pointers_runs : source different_pointers [] 0 ≡ gives (Called (codes "main") ∷ Visible (RegionAlloc 0 4) ∷ Returned (codes "main") ∷ [])
    (SourceEnding.Ended 46)
different_pointers_runs = refl

-- int main() { int *n = NULL; int *p = n; { int x = 2; p = &x; } return (p == n) + (n != p) * 2; }
abbrev null_and_dead : Program
null_and_dead =
    tree.FunctionItem (function (typed tree.Int []) (named "main") [] (
    (tree.Local (typed tree.Int ((pointer (Nullable 1) None) ∷ [])) (named "n") (Initializer.Value (Expression.Null 0))) ▹
    (tree.Local (typed tree.Int ((pointer (Nullable 1) None) ∷ [])) (named "p") (Initializer.Value (variable "n"))) ▹
    (Statement.Block 0 (
    (tree.Local (typed tree.Int []) (named "x") (Initializer.Value (number 2))) ▹
    (Statement.Run (Expression.Assign (variable "p") (Expression.Prefixed 0 AddressOf (variable "x")))) ▸
    NoItems)) ▸
    (Statement.Return 0 (Some (Expression.Chain (Expression.Grouped 0 (Expression.Chain (variable "p") (MoreLinks Equal (variable "n") NoLinks)))
    (MoreLinks Add (Expression.Chain (Expression.Grouped 0 (Expression.Chain (variable "n") (MoreLinks NotEqual (variable "p") NoLinks)))
    (MoreLinks Multiply (number 2) NoLinks)) NoLinks)))) ▸
    NoItems)) ∷ []

null_and_dead_runs : source null_and_dead [] 0 ≡ gives (Called (codes "main") ∷ Returned (codes "main") ∷ []) (SourceEnding.Ended 2)
null_and_dead_runs = refl

-- int main() { int x; int ? p = &x; int ? q = NULL; int *r = NULL; return (NULL == q) + (NULL != p) * 2 + (NULL == r) * 4 + (NULL == p) * 8 + (NULL == &x) *
-- 16; }
abbrev null_first : Program
null_first =
    tree.FunctionItem (function (typed tree.Int []) (named "main") [] (
    (tree.Local (typed tree.Int []) (named "x") Initializer.Unset) ▹
    (tree.Local (typed tree.Int ((pointer Fat None) ∷ [])) (named "p") (Initializer.Value (Expression.Prefixed 0 AddressOf (variable "x")))) ▹
    (tree.Local (typed tree.Int ((pointer Fat None) ∷ [])) (named "q") (Initializer.Value (Expression.Null 0))) ▹
    (tree.Local (typed tree.Int ((pointer (Nullable 1) None) ∷ [])) (named "r") (Initializer.Value (Expression.Null 0))) ▹
    (Statement.Return 0 (Some (Expression.Chain (Expression.Grouped 0 (Expression.Chain (Expression.Null 0) (MoreLinks Equal (variable "q") NoLinks)))
    (MoreLinks Add (Expression.Chain (Expression.Grouped 0 (Expression.Chain (Expression.Null 0) (MoreLinks NotEqual (variable "p") NoLinks)))
    (MoreLinks Multiply (number 2) NoLinks))
    (MoreLinks Add (Expression.Chain (Expression.Grouped 0 (Expression.Chain (Expression.Null 0) (MoreLinks Equal (variable "r") NoLinks)))
    (MoreLinks Multiply (number 4) NoLinks))
    (MoreLinks Add (Expression.Chain (Expression.Grouped 0 (Expression.Chain (Expression.Null 0) (MoreLinks Equal (variable "p") NoLinks)))
    (MoreLinks Multiply (number 8) NoLinks))
    (MoreLinks Add (Expression.Chain
    (Expression.Grouped 0 (Expression.Chain (Expression.Null 0) (MoreLinks Equal (Expression.Prefixed 0 AddressOf (variable "x")) NoLinks)))
    (MoreLinks Multiply (number 16) NoLinks)) NoLinks))))))) ▸
    NoItems)) ∷ []

null_first_runs : source null_first [] 0 ≡ gives (Called (codes "main") ∷ Returned (codes "main") ∷ []) (SourceEnding.Ended 7)
null_first_runs = refl
