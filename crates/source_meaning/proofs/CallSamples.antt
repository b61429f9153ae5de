-- What small programs do, computed: calls, arguments and globals
use Rattle.std.proofs.Common.{◌≡◌, false, Some, None, [], ◌∷◌, refl}
use Rattle.std.specs.Prelude.{codes}
use Rattle.cyc_tree.specs.declared.name.Sign.TheVariants.{Nullable, Fat}
use Rattle.cyc_tree.specs.declared.expression.Operator.TheVariants.{Less, Add, Multiply, Divide}
use Rattle.cyc_tree.specs.declared.expression.Prefix.TheVariants.{Negate, Dereference, AddressOf}
use Rattle.cyc_tree.specs.Tree as tree
use Rattle.cyc_tree.specs.Tree.{Expression, NoExpressions, MoreExpressions, NoLinks, MoreLinks, NoSuffixes, Index, One, Array, Initializer, Statement, NoItems}
use Rattle.cyc_tree.specs.Tree.{Constant, Initial, Program}
use Rattle.cyc_words.specs.Events.{ByteWritten, RegionAlloc, UniqueAlloc, Visible, Called, Returned, SourceEnding}
use Rattle.source_meaning.specs.Programs.{source}
use Rattle.source_meaning.proofs.Trees.{named, variable, number, pointer, typed, ◌▸◌, ◌▹◌, function, gives}

-- int n; int main() { n = n + 1; if (n < 3) return main() + 10; return n; }
abbrev main_called : Program
main_called =
    tree.GlobalItem (record { of = (typed tree.Int []); name = (named "n"); initial = Initial.Unset }) ∷
    tree.FunctionItem (function (typed tree.Int []) (named "main") [] (
    (Statement.Run (Expression.Assign (variable "n") (Expression.Chain (variable "n") (MoreLinks Add (number 1) NoLinks)))) ▸
    (Statement.If 0 (Expression.Chain (variable "n") (MoreLinks Less (number 3) NoLinks))
    (Statement.Return 0 (Some (Expression.Chain (Expression.Call (named "main") NoExpressions) (MoreLinks Add (number 10) NoLinks))))) ▸
    (Statement.Return 0 (Some (variable "n"))) ▸
    NoItems)) ∷ []

main_called_runs : source main_called [] 2 ≡ gives (Called (codes "main") ∷ Called (codes "main") ∷ Called (codes "main") ∷ Returned (codes "main")
    ∷ Returned (codes "main") ∷ Returned (codes "main") ∷ []) (SourceEnding.Ended 23)
main_called_runs = refl

-- int n; int main() { n = n + 1; if (n < 2) return main() + 5; }
abbrev main_ends : Program
main_ends =
    tree.GlobalItem (record { of = (typed tree.Int []); name = (named "n"); initial = Initial.Unset }) ∷
    tree.FunctionItem (function (typed tree.Int []) (named "main") [] (
    (Statement.Run (Expression.Assign (variable "n") (Expression.Chain (variable "n") (MoreLinks Add (number 1) NoLinks)))) ▸
    (Statement.If 0 (Expression.Chain (variable "n") (MoreLinks Less (number 2) NoLinks))
    (Statement.Return 0 (Some (Expression.Chain (Expression.Call (named "main") NoExpressions) (MoreLinks Add (number 5) NoLinks))))) ▸
    NoItems)) ∷ []

main_ends_runs : source main_ends [] 1 ≡ gives (Called (codes "main") ∷ Called (codes "main") ∷ Returned (codes "main") ∷ Returned (codes "main") ∷ [])
    (SourceEnding.Ended 5)
main_ends_runs = refl

-- unsigned f(char c, unsigned u) { return u / 2 + c; } int main() { return f(putchar(65) + 235, -putchar(66)); }
abbrev two_conversions : Program
two_conversions =
    tree.FunctionItem (function (typed tree.Unsigned []) (named "f") ((record { of = (typed tree.Char []); name = (named "c") })
    ∷ (record { of = (typed tree.Unsigned []); name = (named "u") }) ∷ []) (
    (Statement.Return 0 (Some (Expression.Chain (Expression.Chain (variable "u") (MoreLinks Divide (number 2) NoLinks))
    (MoreLinks Add (variable "c") NoLinks)))) ▸
    NoItems)) ∷
    tree.FunctionItem (function (typed tree.Int []) (named "main") [] (
    (Statement.Return 0 (Some (Expression.Call (named "f")
    (MoreExpressions (Expression.Chain (Expression.Call (named "putchar") (MoreExpressions (number 65) NoExpressions)) (MoreLinks Add (number 235) NoLinks))
    (MoreExpressions (Expression.Prefixed 0 Negate (Expression.Call (named "putchar") (MoreExpressions (number 66) NoExpressions))) NoExpressions))))) ▸
    NoItems)) ∷ []

two_conversions_runs : source two_conversions [] 3 ≡ gives (Called (codes "main") ∷ Visible (ByteWritten 65) ∷ Visible (ByteWritten 66) ∷ Called (codes "f")
    ∷ Returned (codes "f") ∷ Returned (codes "main") ∷ []) (SourceEnding.Ended 2147483659)
two_conversions_runs = refl

-- int f(int *p, int ? q) { return *p * 10 + numelts(q); } int main() { int x = 3; int a[2]; a[1] = 4; return f(a + 1, &x); }
abbrev pointer_arguments : Program
pointer_arguments =
    tree.FunctionItem (function (typed tree.Int []) (named "f") ((record { of = (typed tree.Int ((pointer (Nullable 1) None) ∷ [])); name = (named "p") })
    ∷ (record { of = (typed tree.Int ((pointer Fat None) ∷ [])); name = (named "q") }) ∷ []) (
    (Statement.Return 0 (Some (Expression.Chain (Expression.Chain (Expression.Prefixed 0 Dereference (variable "p")) (MoreLinks Multiply (number 10) NoLinks))
    (MoreLinks Add (Expression.NumElts 0 (variable "q")) NoLinks)))) ▸
    NoItems)) ∷
    tree.FunctionItem (function (typed tree.Int []) (named "main") [] (
    (tree.Local (typed tree.Int []) (named "x") (Initializer.Value (number 3))) ▹
    (tree.Local (typed tree.Int []) (named "a") (Initializer.Elements 2)) ▹
    (Statement.Run (Expression.Assign (Expression.Suffixed (variable "a") (Index (number 1) NoSuffixes)) (number 4))) ▸
    (Statement.Return 0 (Some (Expression.Call (named "f") (MoreExpressions (Expression.Chain (variable "a") (MoreLinks Add (number 1) NoLinks))
    (MoreExpressions (Expression.Prefixed 0 AddressOf (variable "x")) NoExpressions))))) ▸
    NoItems)) ∷ []

pointer_arguments_runs : source pointer_arguments [] 1 ≡ gives (Called (codes "main") ∷ Called (codes "f") ∷ Returned (codes "f") ∷ Returned (codes "main")
    ∷ []) (SourceEnding.Ended 41)
pointer_arguments_runs = refl

-- int n = 4; void f() { n = n + 3; } int g() { return n; } int main() { f(); f(); return g(); }
abbrev global_kept : Program
global_kept =
    tree.GlobalItem (record { of = (typed tree.Int []); name = (named "n"); initial = (Initial.Given (Constant.Number 0 4 false)) }) ∷
    tree.FunctionItem (function (typed tree.Void []) (named "f") [] (
    (Statement.Run (Expression.Assign (variable "n") (Expression.Chain (variable "n") (MoreLinks Add (number 3) NoLinks)))) ▸
    NoItems)) ∷
    tree.FunctionItem (function (typed tree.Int []) (named "g") [] (
    (Statement.Return 0 (Some (variable "n"))) ▸
    NoItems)) ∷
    tree.FunctionItem (function (typed tree.Int []) (named "main") [] (
    (Statement.Run (Expression.Call (named "f") NoExpressions)) ▸
    (Statement.Run (Expression.Call (named "f") NoExpressions)) ▸
    (Statement.Return 0 (Some (Expression.Call (named "g") NoExpressions))) ▸
    NoItems)) ∷ []

global_kept_runs : source global_kept [] 3 ≡ gives (Called (codes "main") ∷ Called (codes "f") ∷ Returned (codes "f") ∷ Called (codes "f")
    ∷ Returned (codes "f") ∷ Called (codes "g") ∷ Returned (codes "g") ∷ Returned (codes "main") ∷ []) (SourceEnding.Ended 10)
global_kept_runs = refl

-- void f(int x) { if (x) return; putchar(65); } int main() { f(1); f(0); return 2; }
abbrev early_return : Program
early_return =
    tree.FunctionItem (function (typed tree.Void []) (named "f") ((record { of = (typed tree.Int []); name = (named "x") }) ∷ []) (
    (Statement.If 0 (variable "x") (Statement.Return 0 None)) ▸
    (Statement.Run (Expression.Call (named "putchar") (MoreExpressions (number 65) NoExpressions))) ▸
    NoItems)) ∷
    tree.FunctionItem (function (typed tree.Int []) (named "main") [] (
    (Statement.Run (Expression.Call (named "f") (MoreExpressions (number 1) NoExpressions))) ▸
    (Statement.Run (Expression.Call (named "f") (MoreExpressions (number 0) NoExpressions))) ▸
    (Statement.Return 0 (Some (number 2))) ▸
    NoItems)) ∷ []

early_return_runs : source early_return [] 3 ≡ gives (Called (codes "main") ∷ Called (codes "f") ∷ Returned (codes "f") ∷ Called (codes "f")
    ∷ Visible (ByteWritten 65) ∷ Returned (codes "f") ∷ Returned (codes "main") ∷ []) (SourceEnding.Ended 2)
early_return_runs = refl

-- int main() { return putchar(321) * 2 + putchar(-1); }
abbrev low_bytes : Program
low_bytes =
    tree.FunctionItem (function (typed tree.Int []) (named "main") [] (
    (Statement.Return 0 (Some (Expression.Chain (Expression.Chain (Expression.Call (named "putchar") (MoreExpressions (number 321) NoExpressions))
    (MoreLinks Multiply (number 2) NoLinks))
    (MoreLinks Add (Expression.Call (named "putchar") (MoreExpressions (Expression.Prefixed 0 Negate (number 1)) NoExpressions)) NoLinks)))) ▸
    NoItems)) ∷ []

low_bytes_runs : source low_bytes [] 2 ≡ gives (Called (codes "main") ∷ Visible (ByteWritten 65) ∷ Visible (ByteWritten 255) ∷ Returned (codes "main") ∷ [])
    (SourceEnding.Ended 385)
low_bytes_runs = refl

-- region_t<`H> g() { putchar(65); return heap_region; } int main() { int ? p = rnew(g()) {for i < putchar(1) : putchar(66)}; return *p; }
abbrev handle_before_count : Program
handle_before_count =
    tree.FunctionItem (function (typed (tree.Handle (tree.Heap 0)) []) (named "g") [] (
    (Statement.Run (Expression.Call (named "putchar") (MoreExpressions (number 65) NoExpressions))) ▸
    (Statement.Return 0 (Some (Expression.HeapRegion 0))) ▸
    NoItems)) ∷
    tree.FunctionItem (function (typed tree.Int []) (named "main") [] (
    (tree.Local (typed tree.Int ((pointer Fat None) ∷ [])) (named "p")
    (Initializer.Value (Expression.NewIn 0 (Expression.Call (named "g") NoExpressions)
    (Array (named "i") (Expression.Call (named "putchar") (MoreExpressions (number 1) NoExpressions))
    (Expression.Call (named "putchar") (MoreExpressions (number 66) NoExpressions)))))) ▹
    (Statement.Return 0 (Some (Expression.Prefixed 0 Dereference (variable "p")))) ▸
    NoItems)) ∷ []

handle_before_count_runs : source handle_before_count [] 5 ≡ gives (Called (codes "main") ∷ Called (codes "g") ∷ Visible (ByteWritten 65) ∷ Returned (codes "g")
    ∷ Visible (ByteWritten 1) ∷ Visible (RegionAlloc 0 4) ∷ Visible (ByteWritten 66) ∷ Returned (codes "main") ∷ []) (SourceEnding.Ended 66)
handle_before_count_runs = refl

-- int f(int *`U p) { let alias<`r> int *`r x = p; return *x; } int main() { int *`U p = rnew(unique_region) 4; return f(p); }
abbrev alias_returned : Program
alias_returned =
    tree.FunctionItem (function (typed tree.Int []) (named "f")
    ((record { of = (typed tree.Int ((pointer (Nullable 1) (Some (tree.Unique 0))) ∷ [])); name = (named "p") }) ∷ []) (
    (tree.Alias 0 (tree.Named (named "r")) (typed tree.Int ((pointer (Nullable 1) (Some (tree.Named (named "r")))) ∷ [])) (named "x") (named "p")) ▹
    (Statement.Return 0 (Some (Expression.Prefixed 0 Dereference (variable "x")))) ▸
    NoItems)) ∷
    tree.FunctionItem (function (typed tree.Int []) (named "main") [] (
    (tree.Local (typed tree.Int ((pointer (Nullable 1) (Some (tree.Unique 0))) ∷ [])) (named "p")
    (Initializer.Value (Expression.NewIn 0 (Expression.UniqueRegion 0) (One (number 4))))) ▹
    (Statement.Return 0 (Some (Expression.Call (named "f") (MoreExpressions (variable "p") NoExpressions)))) ▸
    NoItems)) ∷ []

alias_returned_runs : source alias_returned [] 1 ≡ gives (Called (codes "main") ∷ Visible (UniqueAlloc 1 4) ∷ Called (codes "f") ∷ Returned (codes "f")
    ∷ Returned (codes "main") ∷ []) (SourceEnding.Ended 4)
alias_returned_runs = refl
