-- What small programs do, computed: the order of evaluation, and where a unit of fuel is due
use Rattle.std.proofs.Common.{◌≡◌, Some, None, [], ◌∷◌, refl}
use Rattle.std.specs.Prelude.{codes}
use Rattle.cyc_tree.specs.declared.name.Sign.TheVariants.{Nullable, NotNull, Fat}
use Rattle.cyc_tree.specs.declared.expression.Operator.TheVariants.{Equal, Add, Subtract, Multiply}
use Rattle.cyc_tree.specs.declared.expression.Prefix.TheVariants.{Not, Dereference}
use Rattle.cyc_tree.specs.Tree as tree
use Rattle.cyc_tree.specs.Tree.{Expression, NoExpressions, MoreExpressions, NoLinks, MoreLinks, NoSuffixes, Index, Dot, Arrow, One, Array, Initializer, Case}
use Rattle.cyc_tree.specs.Tree.{Default, Statement, NoItems, NoClauses, MoreClauses, Constant, Initial, Program}
use Rattle.cyc_words.specs.declared.faults.Kind.TheVariants.{NullException}
use Rattle.cyc_words.specs.Events.{ByteWritten, RegionNew, RegionAlloc, UniqueAlloc, UniqueFree, Visible, Called, Returned, SourceEnding}
use Rattle.source_meaning.specs.Programs.{source}
use Rattle.source_meaning.proofs.Trees.{named, variable, number, pointer, typed, ◌▸◌, ◌▹◌, function, gives}

-- int main() { putchar(putchar(65)); }
abbrev argument_before_unit : Program
argument_before_unit =
    tree.FunctionItem (function (typed tree.Int []) (named "main") [] (
    (Statement.Run (Expression.Call (named "putchar")
    (MoreExpressions (Expression.Call (named "putchar") (MoreExpressions (number 65) NoExpressions)) NoExpressions))) ▸
    NoItems)) ∷ []

argument_before_unit_runs : source argument_before_unit [] 1 ≡ gives (Called (codes "main") ∷ Visible (ByteWritten 65) ∷ []) SourceEnding.Running
argument_before_unit_runs = refl

-- int f(int x) { return x; } int main() { return f(putchar(65)); }
abbrev arguments_before_call : Program
arguments_before_call =
    tree.FunctionItem (function (typed tree.Int []) (named "f") ((record { of = (typed tree.Int []); name = (named "x") }) ∷ []) (
    (Statement.Return 0 (Some (variable "x"))) ▸
    NoItems)) ∷
    tree.FunctionItem (function (typed tree.Int []) (named "main") [] (
    (Statement.Return 0 (Some (Expression.Call (named "f")
    (MoreExpressions (Expression.Call (named "putchar") (MoreExpressions (number 65) NoExpressions)) NoExpressions)))) ▸
    NoItems)) ∷ []

arguments_before_call_runs : source arguments_before_call [] 1 ≡ gives (Called (codes "main") ∷ Visible (ByteWritten 65) ∷ []) SourceEnding.Running
arguments_before_call_runs = refl

-- int main() { int ? p = new {for i < 1 : putchar(65)}; return *p; }
abbrev unit_before_element : Program
unit_before_element =
    tree.FunctionItem (function (typed tree.Int []) (named "main") [] (
    (tree.Local (typed tree.Int ((pointer Fat None) ∷ [])) (named "p")
    (Initializer.Value (Expression.New 0 (Array (named "i") (number 1) (Expression.Call (named "putchar") (MoreExpressions (number 65) NoExpressions)))))) ▹
    (Statement.Return 0 (Some (Expression.Prefixed 0 Dereference (variable "p")))) ▸
    NoItems)) ∷ []

unit_before_element_runs : source unit_before_element [] 1 ≡ gives (Called (codes "main") ∷ Visible (RegionAlloc 0 4) ∷ []) SourceEnding.Running
unit_before_element_runs = refl

-- int main() { while (putchar(65) == 0) ; return 3; }
abbrev test_before_unit : Program
test_before_unit =
    tree.FunctionItem (function (typed tree.Int []) (named "main") [] (
    (Statement.While 0 (Expression.Chain (Expression.Call (named "putchar") (MoreExpressions (number 65) NoExpressions)) (MoreLinks Equal (number 0) NoLinks))
    (Statement.Empty 0)) ▸
    (Statement.Return 0 (Some (number 3))) ▸
    NoItems)) ∷ []

test_before_unit_runs : source test_before_unit [] 1 ≡ gives (Called (codes "main") ∷ Visible (ByteWritten 65) ∷ Returned (codes "main") ∷ [])
    (SourceEnding.Ended 3)
test_before_unit_runs = refl

-- int main() { while (putchar(65)) putchar(66); }
abbrev unit_before_body : Program
unit_before_body =
    tree.FunctionItem (function (typed tree.Int []) (named "main") [] (
    (Statement.While 0 (Expression.Call (named "putchar") (MoreExpressions (number 65) NoExpressions))
    (Statement.Run (Expression.Call (named "putchar") (MoreExpressions (number 66) NoExpressions)))) ▸
    NoItems)) ∷ []

unit_before_body_runs : source unit_before_body [] 1 ≡ gives (Called (codes "main") ∷ Visible (ByteWritten 65) ∷ []) SourceEnding.Running
unit_before_body_runs = refl

-- int main() { return getchar(); }
abbrev unit_before_read : Program
unit_before_read =
    tree.FunctionItem (function (typed tree.Int []) (named "main") [] (
    (Statement.Return 0 (Some (Expression.Call (named "getchar") NoExpressions))) ▸
    NoItems)) ∷ []

unit_before_read_runs : source unit_before_read (5 ∷ []) 0 ≡ gives (Called (codes "main") ∷ []) SourceEnding.Running
unit_before_read_runs = refl

-- int main() { int a[3]; int *p = NULL; *p :=: a[3]; return 0; }
abbrev left_place_first : Program
left_place_first =
    tree.FunctionItem (function (typed tree.Int []) (named "main") [] (
    (tree.Local (typed tree.Int []) (named "a") (Initializer.Elements 3)) ▹
    (tree.Local (typed tree.Int ((pointer (Nullable 1) None) ∷ [])) (named "p") (Initializer.Value (Expression.Null 0))) ▹
    (Statement.Exchange (Expression.Prefixed 0 Dereference (variable "p")) (Expression.Suffixed (variable "a") (Index (number 3) NoSuffixes))) ▸
    (Statement.Return 0 (Some (number 0))) ▸
    NoItems)) ∷ []

left_place_first_runs : source left_place_first [] 0 ≡ gives (Called (codes "main") ∷ []) (SourceEnding.Raised NullException)
left_place_first_runs = refl

-- int main() { int a[3]; int *p = NULL; a[3] = *p; return 0; }
abbrev right_side_first : Program
right_side_first =
    tree.FunctionItem (function (typed tree.Int []) (named "main") [] (
    (tree.Local (typed tree.Int []) (named "a") (Initializer.Elements 3)) ▹
    (tree.Local (typed tree.Int ((pointer (Nullable 1) None) ∷ [])) (named "p") (Initializer.Value (Expression.Null 0))) ▹
    (Statement.Run (Expression.Assign (Expression.Suffixed (variable "a") (Index (number 3) NoSuffixes)) (Expression.Prefixed 0 Dereference (variable "p")))) ▸
    (Statement.Return 0 (Some (number 0))) ▸
    NoItems)) ∷ []

right_side_first_runs : source right_side_first [] 0 ≡ gives (Called (codes "main") ∷ []) (SourceEnding.Raised NullException)
right_side_first_runs = refl

-- int main() { int a[3]; int *p = NULL; return a[3 + *p]; }
abbrev subscript_first : Program
subscript_first =
    tree.FunctionItem (function (typed tree.Int []) (named "main") [] (
    (tree.Local (typed tree.Int []) (named "a") (Initializer.Elements 3)) ▹
    (tree.Local (typed tree.Int ((pointer (Nullable 1) None) ∷ [])) (named "p") (Initializer.Value (Expression.Null 0))) ▹
    (Statement.Return 0 (Some (Expression.Suffixed (variable "a")
    (Index (Expression.Chain (number 3) (MoreLinks Add (Expression.Prefixed 0 Dereference (variable "p")) NoLinks)) NoSuffixes)))) ▸
    NoItems)) ∷ []

subscript_first_runs : source subscript_first [] 0 ≡ gives (Called (codes "main") ∷ []) (SourceEnding.Raised NullException)
subscript_first_runs = refl

-- int main() { return putchar(65) - putchar(66) * putchar(67); }
abbrev operands_from_the_left : Program
operands_from_the_left =
    tree.FunctionItem (function (typed tree.Int []) (named "main") [] (
    (Statement.Return 0 (Some (Expression.Chain (Expression.Call (named "putchar") (MoreExpressions (number 65) NoExpressions))
    (MoreLinks Subtract (Expression.Chain (Expression.Call (named "putchar") (MoreExpressions (number 66) NoExpressions))
    (MoreLinks Multiply (Expression.Call (named "putchar") (MoreExpressions (number 67) NoExpressions)) NoLinks)) NoLinks)))) ▸
    NoItems)) ∷ []

operands_from_the_left_runs : source operands_from_the_left [] 3
    ≡ gives (Called (codes "main") ∷ Visible (ByteWritten 65) ∷ Visible (ByteWritten 66) ∷ Visible (ByteWritten 67) ∷ Returned (codes "main") ∷ [])
    (SourceEnding.Ended 4294962939)
operands_from_the_left_runs = refl

-- struct P { int x; char y; }; int main() { struct P a = P(putchar(65), putchar(66)); return a.x * a.y; }
abbrev members_from_the_left : Program
members_from_the_left =
    tree.StructItem (record {
      at = 0;
      tag = (named "P");
      regions = [];
      members = ((record { of = (typed tree.Int []); name = (named "x") }) ∷ (record { of = (typed tree.Char []); name = (named "y") }) ∷ []);
    }) ∷
    tree.FunctionItem (function (typed tree.Int []) (named "main") [] (
    (tree.Local (typed (tree.Struct (named "P") []) []) (named "a")
    (Initializer.Value (Expression.Call (named "P") (MoreExpressions (Expression.Call (named "putchar") (MoreExpressions (number 65) NoExpressions))
    (MoreExpressions (Expression.Call (named "putchar") (MoreExpressions (number 66) NoExpressions)) NoExpressions))))) ▹
    (Statement.Return 0 (Some (Expression.Chain (Expression.Suffixed (variable "a") (Dot (named "x") NoSuffixes))
    (MoreLinks Multiply (Expression.Suffixed (variable "a") (Dot (named "y") NoSuffixes)) NoLinks)))) ▸
    NoItems)) ∷ []

members_from_the_left_runs : source members_from_the_left [] 2
    ≡ gives (Called (codes "main") ∷ Visible (ByteWritten 65) ∷ Visible (ByteWritten 66) ∷ Returned (codes "main") ∷ []) (SourceEnding.Ended 4290)
members_from_the_left_runs = refl

-- region_t<`H> g() { putchar(65); return heap_region; } int main() { return *rnew(g()) putchar(66); }
abbrev handle_first : Program
handle_first =
    tree.FunctionItem (function (typed (tree.Handle (tree.Heap 0)) []) (named "g") [] (
    (Statement.Run (Expression.Call (named "putchar") (MoreExpressions (number 65) NoExpressions))) ▸
    (Statement.Return 0 (Some (Expression.HeapRegion 0))) ▸
    NoItems)) ∷
    tree.FunctionItem (function (typed tree.Int []) (named "main") [] (
    (Statement.Return 0 (Some (Expression.Prefixed 0 Dereference
    (Expression.NewIn 0 (Expression.Call (named "g") NoExpressions)
    (One (Expression.Call (named "putchar") (MoreExpressions (number 66) NoExpressions))))))) ▸
    NoItems)) ∷ []

handle_first_runs : source handle_first [] 3 ≡ gives (Called (codes "main") ∷ Called (codes "g") ∷ Visible (ByteWritten 65) ∷ Returned (codes "g")
    ∷ Visible (ByteWritten 66) ∷ Visible (RegionAlloc 0 4) ∷ Returned (codes "main") ∷ []) (SourceEnding.Ended 66)
handle_first_runs = refl

-- int main() { int ? p = rnew(heap_region) {for i < putchar(1) : putchar(66)}; return *p; }
abbrev count_before_request : Program
count_before_request =
    tree.FunctionItem (function (typed tree.Int []) (named "main") [] (
    (tree.Local (typed tree.Int ((pointer Fat None) ∷ [])) (named "p")
    (Initializer.Value (Expression.NewIn 0 (Expression.HeapRegion 0)
    (Array (named "i") (Expression.Call (named "putchar") (MoreExpressions (number 1) NoExpressions))
    (Expression.Call (named "putchar") (MoreExpressions (number 66) NoExpressions)))))) ▹
    (Statement.Return 0 (Some (Expression.Prefixed 0 Dereference (variable "p")))) ▸
    NoItems)) ∷ []

count_before_request_runs : source count_before_request [] 3
    ≡ gives (Called (codes "main") ∷ Visible (ByteWritten 1) ∷ Visible (RegionAlloc 0 4) ∷ Visible (ByteWritten 66) ∷ Returned (codes "main") ∷ [])
    (SourceEnding.Ended 66)
count_before_request_runs = refl

-- int @f() { region<`r> h; int *p = NULL; return p; } int main() { return *f(); }
abbrev result_converted_first : Program
result_converted_first =
    tree.FunctionItem (function (typed tree.Int ((pointer (NotNull 1) None) ∷ [])) (named "f") [] (
    (tree.Region 0 (tree.Named (named "r")) (named "h")) ▹
    (tree.Local (typed tree.Int ((pointer (Nullable 1) None) ∷ [])) (named "p") (Initializer.Value (Expression.Null 0))) ▹
    (Statement.Return 0 (Some (variable "p"))) ▸
    NoItems)) ∷
    tree.FunctionItem (function (typed tree.Int []) (named "main") [] (
    (Statement.Return 0 (Some (Expression.Prefixed 0 Dereference (Expression.Call (named "f") NoExpressions)))) ▸
    NoItems)) ∷ []

result_converted_first_runs : source result_converted_first [] 1 ≡ gives (Called (codes "main") ∷ Called (codes "f") ∷ Visible (RegionNew 1) ∷ [])
    (SourceEnding.Raised NullException)
result_converted_first_runs = refl

-- int main() { int @p = new 1; int *n = NULL; int @ ? a = new {for i < 1 : p}; a[putchar(0)] = n; return 0; }
abbrev value_converted_before_place : Program
value_converted_before_place =
    tree.FunctionItem (function (typed tree.Int []) (named "main") [] (
    (tree.Local (typed tree.Int ((pointer (NotNull 1) None) ∷ [])) (named "p") (Initializer.Value (Expression.New 0 (One (number 1))))) ▹
    (tree.Local (typed tree.Int ((pointer (Nullable 1) None) ∷ [])) (named "n") (Initializer.Value (Expression.Null 0))) ▹
    (tree.Local (typed tree.Int ((pointer (NotNull 1) None) ∷ (pointer Fat None) ∷ [])) (named "a")
    (Initializer.Value (Expression.New 0 (Array (named "i") (number 1) (variable "p"))))) ▹
    (Statement.Run (Expression.Assign
    (Expression.Suffixed (variable "a") (Index (Expression.Call (named "putchar") (MoreExpressions (number 0) NoExpressions)) NoSuffixes))
    (variable "n"))) ▸
    (Statement.Return 0 (Some (number 0))) ▸
    NoItems)) ∷ []

value_converted_before_place_runs : source value_converted_before_place [] 2
    ≡ gives (Called (codes "main") ∷ Visible (RegionAlloc 0 4) ∷ Visible (RegionAlloc 0 4) ∷ []) (SourceEnding.Raised NullException)
value_converted_before_place_runs = refl

-- int main() { int *`U p = rnew(unique_region) 3; if (p == NULL || !p) return 1; if (p) ufree(p); return 2; }
abbrev tested_and_kept : Program
tested_and_kept =
    tree.FunctionItem (function (typed tree.Int []) (named "main") [] (
    (tree.Local (typed tree.Int ((pointer (Nullable 1) (Some (tree.Unique 0))) ∷ [])) (named "p")
    (Initializer.Value (Expression.NewIn 0 (Expression.UniqueRegion 0) (One (number 3))))) ▹
    (Statement.If 0 (Expression.AnyOf (Expression.Chain (variable "p") (MoreLinks Equal (Expression.Null 0) NoLinks))
    (MoreExpressions (Expression.Prefixed 0 Not (variable "p")) NoExpressions)) (Statement.Return 0 (Some (number 1)))) ▸
    (Statement.If 0 (variable "p") (Statement.FreeUnique 0 (named "p"))) ▸
    (Statement.Return 0 (Some (number 2))) ▸
    NoItems)) ∷ []

tested_and_kept_runs : source tested_and_kept [] 0 ≡ gives (Called (codes "main") ∷ Visible (UniqueAlloc 1 4) ∷ Visible (UniqueFree 1) ∷ Returned (codes "main")
    ∷ []) (SourceEnding.Ended 2)
tested_and_kept_runs = refl

-- int main() { int *`U p = rnew(unique_region) 3; p; ufree(p); return 2; }
abbrev discarded_and_gone : Program
discarded_and_gone =
    tree.FunctionItem (function (typed tree.Int []) (named "main") [] (
    (tree.Local (typed tree.Int ((pointer (Nullable 1) (Some (tree.Unique 0))) ∷ [])) (named "p")
    (Initializer.Value (Expression.NewIn 0 (Expression.UniqueRegion 0) (One (number 3))))) ▹
    (Statement.Run (variable "p")) ▸
    (Statement.FreeUnique 0 (named "p")) ▸
    (Statement.Return 0 (Some (number 2))) ▸
    NoItems)) ∷ []

discarded_and_gone_runs : source discarded_and_gone [] 0 ≡ gives (Called (codes "main") ∷ Visible (UniqueAlloc 1 4) ∷ []) SourceEnding.Stuck
discarded_and_gone_runs = refl
