-- What small programs do, computed: the heap and lexical regions
use Rattle.std.proofs.Common.{◌≡◌, Some, None, [], ◌∷◌, refl}
use Rattle.std.specs.Prelude.{codes}
use Rattle.cyc_tree.specs.declared.name.Sign.TheVariants.{Nullable, NotNull, Fat}
use Rattle.cyc_tree.specs.declared.expression.Operator.TheVariants.{Equal, Less, Add, Multiply}
use Rattle.cyc_tree.specs.declared.expression.Prefix.TheVariants.{Dereference, AddressOf}
use Rattle.cyc_tree.specs.Tree as tree
use Rattle.cyc_tree.specs.Tree.{Expression, NoExpressions, MoreExpressions, NoLinks, MoreLinks, NoSuffixes, Index, Dot, Arrow, One, Array, Initializer, Case}
use Rattle.cyc_tree.specs.Tree.{Default, Statement, NoItems, NoClauses, MoreClauses, Constant, Initial, Program}
use Rattle.cyc_words.specs.declared.faults.Kind.TheVariants.{NullException, ArrayBounds}
use Rattle.cyc_words.specs.Events.{ByteWritten, RegionNew, RegionAlloc, RegionFree, Visible, Called, Returned, SourceEnding}
use Rattle.source_meaning.specs.Programs.{source}
use Rattle.source_meaning.proofs.Trees.{named, variable, number, pointer, typed, ◌▸◌, ◌▹◌, function, gives}

-- struct S { int x; int y; int z; }; int main() { unsigned n = 1431655766; region<`r> h; struct S ?`r p = rnew(h) {for i < n : S(0,0,0)}; putchar(46); }
abbrev saturated_array : Program
saturated_array =
    tree.StructItem (record {
      at = 0;
      tag = (named "S");
      regions = [];
      members = ((record { of = (typed tree.Int []); name = (named "x") }) ∷ (record { of = (typed tree.Int []); name = (named "y") })
          ∷ (record { of = (typed tree.Int []); name = (named "z") }) ∷ []);
    }) ∷
    tree.FunctionItem (function (typed tree.Int []) (named "main") [] (
    (tree.Local (typed tree.Unsigned []) (named "n") (Initializer.Value (number 1431655766))) ▹
    (tree.Region 0 (tree.Named (named "r")) (named "h")) ▹
    (tree.Local (typed (tree.Struct (named "S") []) ((pointer Fat (Some (tree.Named (named "r")))) ∷ [])) (named "p")
    (Initializer.Value (Expression.NewIn 0 (variable "h")
    (Array (named "i") (variable "n")
    (Expression.Call (named "S") (MoreExpressions (number 0) (MoreExpressions (number 0) (MoreExpressions (number 0) NoExpressions)))))))) ▹
    (Statement.Run (Expression.Call (named "putchar") (MoreExpressions (number 46) NoExpressions))) ▸
    NoItems)) ∷ []

saturated_array_runs : source saturated_array [] 3 ≡ gives (Called (codes "main") ∷ Visible (RegionNew 1) ∷ Visible (RegionAlloc 1 4294967295) ∷ [])
    SourceEnding.Running
saturated_array_runs = refl

-- int main() { region<`r> h; while (1) { int *`r p = rnew(h) 1; putchar(46); } }
abbrev region_in_loop : Program
region_in_loop =
    tree.FunctionItem (function (typed tree.Int []) (named "main") [] (
    (tree.Region 0 (tree.Named (named "r")) (named "h")) ▹
    (Statement.While 0 (number 1) (Statement.Block 0 (
    (tree.Local (typed tree.Int ((pointer (Nullable 1) (Some (tree.Named (named "r")))) ∷ [])) (named "p")
    (Initializer.Value (Expression.NewIn 0 (variable "h") (One (number 1))))) ▹
    (Statement.Run (Expression.Call (named "putchar") (MoreExpressions (number 46) NoExpressions))) ▸
    NoItems))) ▸
    NoItems)) ∷ []

region_in_loop_runs : source region_in_loop [] 4 ≡ gives (Called (codes "main") ∷ Visible (RegionNew 1) ∷ Visible (RegionAlloc 1 4) ∷ Visible (ByteWritten 46)
    ∷ Visible (RegionAlloc 1 4) ∷ Visible (ByteWritten 46) ∷ []) SourceEnding.Running
region_in_loop_runs = refl

-- int main() { region<`a> g; int *`a x = rnew(g) 1; region<`b> h; int *`b y = rnew(h) 2; y = x; return 0; }
abbrev two_regions : Program
two_regions =
    tree.FunctionItem (function (typed tree.Int []) (named "main") [] (
    (tree.Region 0 (tree.Named (named "a")) (named "g")) ▹
    (tree.Local (typed tree.Int ((pointer (Nullable 1) (Some (tree.Named (named "a")))) ∷ [])) (named "x")
    (Initializer.Value (Expression.NewIn 0 (variable "g") (One (number 1))))) ▹
    (tree.Region 0 (tree.Named (named "b")) (named "h")) ▹
    (tree.Local (typed tree.Int ((pointer (Nullable 1) (Some (tree.Named (named "b")))) ∷ [])) (named "y")
    (Initializer.Value (Expression.NewIn 0 (variable "h") (One (number 2))))) ▹
    (Statement.Run (Expression.Assign (variable "y") (variable "x"))) ▸
    (Statement.Return 0 (Some (number 0))) ▸
    NoItems)) ∷ []

two_regions_runs : source two_regions [] 0 ≡ gives (Called (codes "main") ∷ Visible (RegionNew 1) ∷ Visible (RegionAlloc 1 4) ∷ Visible (RegionNew 2)
    ∷ Visible (RegionAlloc 2 4) ∷ Visible (RegionFree 2) ∷ Visible (RegionFree 1) ∷ Returned (codes "main") ∷ []) (SourceEnding.Ended 0)
two_regions_runs = refl

-- int f(int i) { region<`a> x; region<`b> y; region<`c> z; int *`c p = rnew(z) i; if (*p == i) return 1; return 0; } int main() { int n = 0; while (n < 2) n =
-- n + f(n); }
abbrev reverse_exits : Program
reverse_exits =
    tree.FunctionItem (function (typed tree.Int []) (named "f") ((record { of = (typed tree.Int []); name = (named "i") }) ∷ []) (
    (tree.Region 0 (tree.Named (named "a")) (named "x")) ▹
    (tree.Region 0 (tree.Named (named "b")) (named "y")) ▹
    (tree.Region 0 (tree.Named (named "c")) (named "z")) ▹
    (tree.Local (typed tree.Int ((pointer (Nullable 1) (Some (tree.Named (named "c")))) ∷ [])) (named "p")
    (Initializer.Value (Expression.NewIn 0 (variable "z") (One (variable "i"))))) ▹
    (Statement.If 0 (Expression.Chain (Expression.Prefixed 0 Dereference (variable "p")) (MoreLinks Equal (variable "i") NoLinks))
    (Statement.Return 0 (Some (number 1)))) ▸
    (Statement.Return 0 (Some (number 0))) ▸
    NoItems)) ∷
    tree.FunctionItem (function (typed tree.Int []) (named "main") [] (
    (tree.Local (typed tree.Int []) (named "n") (Initializer.Value (number 0))) ▹
    (Statement.While 0 (Expression.Chain (variable "n") (MoreLinks Less (number 2) NoLinks))
    (Statement.Run (Expression.Assign (variable "n")
    (Expression.Chain (variable "n") (MoreLinks Add (Expression.Call (named "f") (MoreExpressions (variable "n") NoExpressions)) NoLinks))))) ▸
    NoItems)) ∷ []

reverse_exits_runs : source reverse_exits [] 4 ≡ gives (Called (codes "main") ∷ Called (codes "f") ∷ Visible (RegionNew 1) ∷ Visible (RegionNew 2)
    ∷ Visible (RegionNew 3) ∷ Visible (RegionAlloc 3 4) ∷ Visible (RegionFree 3) ∷ Visible (RegionFree 2) ∷ Visible (RegionFree 1) ∷ Returned (codes "f")
    ∷ Called (codes "f") ∷ Visible (RegionNew 4) ∷ Visible (RegionNew 5) ∷ Visible (RegionNew 6) ∷ Visible (RegionAlloc 6 4) ∷ Visible (RegionFree 6)
    ∷ Visible (RegionFree 5) ∷ Visible (RegionFree 4) ∷ Returned (codes "f") ∷ Returned (codes "main") ∷ []) (SourceEnding.Ended 0)
reverse_exits_runs = refl

-- int main() { region<`r> h; int *p = NULL; return *p; }
abbrev raise_frees_nothing : Program
raise_frees_nothing =
    tree.FunctionItem (function (typed tree.Int []) (named "main") [] (
    (tree.Region 0 (tree.Named (named "r")) (named "h")) ▹
    (tree.Local (typed tree.Int ((pointer (Nullable 1) None) ∷ [])) (named "p") (Initializer.Value (Expression.Null 0))) ▹
    (Statement.Return 0 (Some (Expression.Prefixed 0 Dereference (variable "p")))) ▸
    NoItems)) ∷ []

raise_frees_nothing_runs : source raise_frees_nothing [] 0 ≡ gives (Called (codes "main") ∷ Visible (RegionNew 1) ∷ []) (SourceEnding.Raised NullException)
raise_frees_nothing_runs = refl

-- int main() { region<`r> h; int *p = rnew(h) 5; return *p; }
abbrev result_before_exit : Program
result_before_exit =
    tree.FunctionItem (function (typed tree.Int []) (named "main") [] (
    (tree.Region 0 (tree.Named (named "r")) (named "h")) ▹
    (tree.Local (typed tree.Int ((pointer (Nullable 1) None) ∷ [])) (named "p") (Initializer.Value (Expression.NewIn 0 (variable "h") (One (number 5))))) ▹
    (Statement.Return 0 (Some (Expression.Prefixed 0 Dereference (variable "p")))) ▸
    NoItems)) ∷ []

result_before_exit_runs : source result_before_exit [] 0
    ≡ gives (Called (codes "main") ∷ Visible (RegionNew 1) ∷ Visible (RegionAlloc 1 4) ∷ Visible (RegionFree 1) ∷ Returned (codes "main") ∷ [])
    (SourceEnding.Ended 5)
result_before_exit_runs = refl

-- int main() { while (1) { region<`r> h; { region<`s> g; break; } } return 0; }
abbrev break_frees : Program
break_frees =
    tree.FunctionItem (function (typed tree.Int []) (named "main") [] (
    (Statement.While 0 (number 1) (Statement.Block 0 (
    (tree.Region 0 (tree.Named (named "r")) (named "h")) ▹
    (Statement.Block 0 (
    (tree.Region 0 (tree.Named (named "s")) (named "g")) ▹
    (Statement.Break 0) ▸
    NoItems)) ▸
    NoItems))) ▸
    (Statement.Return 0 (Some (number 0))) ▸
    NoItems)) ∷ []

break_frees_runs : source break_frees [] 1 ≡ gives (Called (codes "main") ∷ Visible (RegionNew 1) ∷ Visible (RegionNew 2) ∷ Visible (RegionFree 2)
    ∷ Visible (RegionFree 1) ∷ Returned (codes "main") ∷ []) (SourceEnding.Ended 0)
break_frees_runs = refl

-- int main() { region<`r> h; unsigned ?`r p = rnew(h) {for i < 3 : i * i}; return p[2] + numelts(p); }
abbrev array_elements : Program
array_elements =
    tree.FunctionItem (function (typed tree.Int []) (named "main") [] (
    (tree.Region 0 (tree.Named (named "r")) (named "h")) ▹
    (tree.Local (typed tree.Unsigned ((pointer Fat (Some (tree.Named (named "r")))) ∷ [])) (named "p")
    (Initializer.Value (Expression.NewIn 0 (variable "h")
    (Array (named "i") (number 3) (Expression.Chain (variable "i") (MoreLinks Multiply (variable "i") NoLinks)))))) ▹
    (Statement.Return 0 (Some (Expression.Chain (Expression.Suffixed (variable "p") (Index (number 2) NoSuffixes))
    (MoreLinks Add (Expression.NumElts 0 (variable "p")) NoLinks)))) ▸
    NoItems)) ∷ []

array_elements_runs : source array_elements [] 3 ≡ gives (Called (codes "main") ∷ Visible (RegionNew 1) ∷ Visible (RegionAlloc 1 12) ∷ Visible (RegionFree 1)
    ∷ Returned (codes "main") ∷ []) (SourceEnding.Ended 7)
array_elements_runs = refl

-- int main() { region<`r> h; unsigned ?`r p = rnew(h) {for i < 3 : i * i}; return p[2] + numelts(p); }
abbrev array_unpaid : Program
array_unpaid =
    tree.FunctionItem (function (typed tree.Int []) (named "main") [] (
    (tree.Region 0 (tree.Named (named "r")) (named "h")) ▹
    (tree.Local (typed tree.Unsigned ((pointer Fat (Some (tree.Named (named "r")))) ∷ [])) (named "p")
    (Initializer.Value (Expression.NewIn 0 (variable "h")
    (Array (named "i") (number 3) (Expression.Chain (variable "i") (MoreLinks Multiply (variable "i") NoLinks)))))) ▹
    (Statement.Return 0 (Some (Expression.Chain (Expression.Suffixed (variable "p") (Index (number 2) NoSuffixes))
    (MoreLinks Add (Expression.NumElts 0 (variable "p")) NoLinks)))) ▸
    NoItems)) ∷ []

array_unpaid_runs : source array_unpaid [] 2 ≡ gives (Called (codes "main") ∷ Visible (RegionNew 1) ∷ Visible (RegionAlloc 1 12) ∷ []) SourceEnding.Running
array_unpaid_runs = refl

-- int main() { region<`r> h; int ?`r p = rnew(h) {for i < 0 : 1}; if (p == NULL) return 9; return *p; }
abbrev no_elements : Program
no_elements =
    tree.FunctionItem (function (typed tree.Int []) (named "main") [] (
    (tree.Region 0 (tree.Named (named "r")) (named "h")) ▹
    (tree.Local (typed tree.Int ((pointer Fat (Some (tree.Named (named "r")))) ∷ [])) (named "p")
    (Initializer.Value (Expression.NewIn 0 (variable "h") (Array (named "i") (number 0) (number 1))))) ▹
    (Statement.If 0 (Expression.Chain (variable "p") (MoreLinks Equal (Expression.Null 0) NoLinks)) (Statement.Return 0 (Some (number 9)))) ▸
    (Statement.Return 0 (Some (Expression.Prefixed 0 Dereference (variable "p")))) ▸
    NoItems)) ∷ []

no_elements_runs : source no_elements [] 0 ≡ gives (Called (codes "main") ∷ Visible (RegionNew 1) ∷ Visible (RegionAlloc 1 0) ∷ [])
    (SourceEnding.Raised ArrayBounds)
no_elements_runs = refl

-- int main() { int @p = new putchar(65); int @`H q = rnew(heap_region) *p; char @c = new 'x'; return *q; }
abbrev operand_before_request : Program
operand_before_request =
    tree.FunctionItem (function (typed tree.Int []) (named "main") [] (
    (tree.Local (typed tree.Int ((pointer (NotNull 1) None) ∷ [])) (named "p")
    (Initializer.Value (Expression.New 0 (One (Expression.Call (named "putchar") (MoreExpressions (number 65) NoExpressions)))))) ▹
    (tree.Local (typed tree.Int ((pointer (NotNull 1) (Some (tree.Heap 0))) ∷ [])) (named "q")
    (Initializer.Value (Expression.NewIn 0 (Expression.HeapRegion 0) (One (Expression.Prefixed 0 Dereference (variable "p")))))) ▹
    (tree.Local (typed tree.Char ((pointer (NotNull 1) None) ∷ [])) (named "c") (Initializer.Value (Expression.New 0 (One (Expression.Character 0 120))))) ▹
    (Statement.Return 0 (Some (Expression.Prefixed 0 Dereference (variable "q")))) ▸
    NoItems)) ∷ []

operand_before_request_runs : source operand_before_request [] 1 ≡ gives (Called (codes "main") ∷ Visible (ByteWritten 65) ∷ Visible (RegionAlloc 0 4)
    ∷ Visible (RegionAlloc 0 4) ∷ Visible (RegionAlloc 0 1) ∷ Returned (codes "main") ∷ []) (SourceEnding.Ended 65)
operand_before_request_runs = refl

-- int main() { int y = 1; int *p = &y; { int x = 2; p = &x; } return *p; }
abbrev dangling : Program
dangling =
    tree.FunctionItem (function (typed tree.Int []) (named "main") [] (
    (tree.Local (typed tree.Int []) (named "y") (Initializer.Value (number 1))) ▹
    (tree.Local (typed tree.Int ((pointer (Nullable 1) None) ∷ [])) (named "p") (Initializer.Value (Expression.Prefixed 0 AddressOf (variable "y")))) ▹
    (Statement.Block 0 (
    (tree.Local (typed tree.Int []) (named "x") (Initializer.Value (number 2))) ▹
    (Statement.Run (Expression.Assign (variable "p") (Expression.Prefixed 0 AddressOf (variable "x")))) ▸
    NoItems)) ▸
    (Statement.Return 0 (Some (Expression.Prefixed 0 Dereference (variable "p")))) ▸
    NoItems)) ∷ []

dangling_runs : source dangling [] 0 ≡ gives (Called (codes "main") ∷ []) SourceEnding.Stuck
dangling_runs = refl

-- int main() { int y = 1; int *p = &y; int *q = p; { int x = 2; p = &x; } if (p == NULL) return 1; return p == q; }
abbrev dangling_comparison : Program
dangling_comparison =
    tree.FunctionItem (function (typed tree.Int []) (named "main") [] (
    (tree.Local (typed tree.Int []) (named "y") (Initializer.Value (number 1))) ▹
    (tree.Local (typed tree.Int ((pointer (Nullable 1) None) ∷ [])) (named "p") (Initializer.Value (Expression.Prefixed 0 AddressOf (variable "y")))) ▹
    (tree.Local (typed tree.Int ((pointer (Nullable 1) None) ∷ [])) (named "q") (Initializer.Value (variable "p"))) ▹
    (Statement.Block 0 (
    (tree.Local (typed tree.Int []) (named "x") (Initializer.Value (number 2))) ▹
    (Statement.Run (Expression.Assign (variable "p") (Expression.Prefixed 0 AddressOf (variable "x")))) ▸
    NoItems)) ▸
    (Statement.If 0 (Expression.Chain (variable "p") (MoreLinks Equal (Expression.Null 0) NoLinks)) (Statement.Return 0 (Some (number 1)))) ▸
    (Statement.Return 0 (Some (Expression.Chain (variable "p") (MoreLinks Equal (variable "q") NoLinks)))) ▸
    NoItems)) ∷ []

dangling_comparison_runs : source dangling_comparison [] 0 ≡ gives (Called (codes "main") ∷ []) SourceEnding.Stuck
dangling_comparison_runs = refl

-- int main() { int i = 0; while (i < 2) { i = i + 1; region<`r> h; continue; } return 0; }
abbrev continue_frees : Program
continue_frees =
    tree.FunctionItem (function (typed tree.Int []) (named "main") [] (
    (tree.Local (typed tree.Int []) (named "i") (Initializer.Value (number 0))) ▹
    (Statement.While 0 (Expression.Chain (variable "i") (MoreLinks Less (number 2) NoLinks)) (Statement.Block 0 (
    (Statement.Run (Expression.Assign (variable "i") (Expression.Chain (variable "i") (MoreLinks Add (number 1) NoLinks)))) ▸
    (tree.Region 0 (tree.Named (named "r")) (named "h")) ▹
    (Statement.Continue 0) ▸
    NoItems))) ▸
    (Statement.Return 0 (Some (number 0))) ▸
    NoItems)) ∷ []

continue_frees_runs : source continue_frees [] 2 ≡ gives (Called (codes "main") ∷ Visible (RegionNew 1) ∷ Visible (RegionFree 1) ∷ Visible (RegionNew 2)
    ∷ Visible (RegionFree 2) ∷ Returned (codes "main") ∷ []) (SourceEnding.Ended 0)
continue_frees_runs = refl

-- struct S { unsigned ? p; }; int main() { struct S ? a = new {for i < 2 : S(new {for j < i + 1 : i + j})}; return *(a[1].p + 1) * 10 + numelts(a[1].p); }
abbrev arrays_in_arrays : Program
arrays_in_arrays =
    tree.StructItem (record {
      at = 0;
      tag = (named "S");
      regions = [];
      members = ((record { of = (typed tree.Unsigned ((pointer Fat None) ∷ [])); name = (named "p") }) ∷ []);
    }) ∷
    tree.FunctionItem (function (typed tree.Int []) (named "main") [] (
    (tree.Local (typed (tree.Struct (named "S") []) ((pointer Fat None) ∷ [])) (named "a")
    (Initializer.Value (Expression.New 0
    (Array (named "i") (number 2) (Expression.Call (named "S")
    (MoreExpressions (Expression.New 0 (Array (named "j") (Expression.Chain (variable "i") (MoreLinks Add (number 1) NoLinks))
    (Expression.Chain (variable "i") (MoreLinks Add (variable "j") NoLinks)))) NoExpressions)))))) ▹
    (Statement.Return 0 (Some (Expression.Chain
    (Expression.Chain (Expression.Prefixed 0 Dereference
    (Expression.Grouped 0 (Expression.Chain (Expression.Suffixed (variable "a") (Index (number 1) (Dot (named "p") NoSuffixes)))
    (MoreLinks Add (number 1) NoLinks)))) (MoreLinks Multiply (number 10) NoLinks))
    (MoreLinks Add (Expression.NumElts 0 (Expression.Suffixed (variable "a") (Index (number 1) (Dot (named "p") NoSuffixes)))) NoLinks)))) ▸
    NoItems)) ∷ []

arrays_in_arrays_runs : source arrays_in_arrays [] 5 ≡ gives (Called (codes "main") ∷ Visible (RegionAlloc 0 24) ∷ Visible (RegionAlloc 0 4)
    ∷ Visible (RegionAlloc 0 8) ∷ Returned (codes "main") ∷ []) (SourceEnding.Ended 22)
arrays_in_arrays_runs = refl

-- struct S { char c; int x; char d; }; struct T { char a; char b; char c; }; @tagged union U { char a; int ? p; }; @tagged union V { char a; }; struct W { char
-- c; union U u; }; int main() { new S('a', 1, 'b'); new {for i < 2 : T('a', 'b', 'c')}; new U.a('x'); new V.a('x'); new W('c', U.p(NULL)); new heap_region;
-- return 0; }
abbrev sizes : Program
sizes =
    tree.StructItem (record {
      at = 0;
      tag = (named "S");
      regions = [];
      members = ((record { of = (typed tree.Char []); name = (named "c") }) ∷ (record { of = (typed tree.Int []); name = (named "x") })
          ∷ (record { of = (typed tree.Char []); name = (named "d") }) ∷ []);
    }) ∷
    tree.StructItem (record {
      at = 0;
      tag = (named "T");
      regions = [];
      members = ((record { of = (typed tree.Char []); name = (named "a") }) ∷ (record { of = (typed tree.Char []); name = (named "b") })
          ∷ (record { of = (typed tree.Char []); name = (named "c") }) ∷ []);
    }) ∷
    tree.UnionItem (record {
      at = 0;
      tag = (named "U");
      regions = [];
      members = ((record { of = (typed tree.Char []); name = (named "a") })
          ∷ (record { of = (typed tree.Int ((pointer Fat None) ∷ [])); name = (named "p") }) ∷ []);
    }) ∷
    tree.UnionItem (record { at = 0; tag = (named "V"); regions = []; members = ((record { of = (typed tree.Char []); name = (named "a") }) ∷ []) }) ∷
    tree.StructItem (record {
      at = 0;
      tag = (named "W");
      regions = [];
      members = ((record { of = (typed tree.Char []); name = (named "c") })
          ∷ (record { of = (typed (tree.Union (named "U") []) []); name = (named "u") }) ∷ []);
    }) ∷
    tree.FunctionItem (function (typed tree.Int []) (named "main") [] (
    (Statement.Run (Expression.New 0
    (One (Expression.Call (named "S")
    (MoreExpressions (Expression.Character 0 97) (MoreExpressions (number 1) (MoreExpressions (Expression.Character 0 98) NoExpressions))))))) ▸
    (Statement.Run (Expression.New 0
    (Array (named "i") (number 2) (Expression.Call (named "T")
    (MoreExpressions (Expression.Character 0 97)
    (MoreExpressions (Expression.Character 0 98) (MoreExpressions (Expression.Character 0 99) NoExpressions))))))) ▸
    (Statement.Run (Expression.New 0 (One (Expression.MakeUnion (named "U") (named "a") (Expression.Character 0 120))))) ▸
    (Statement.Run (Expression.New 0 (One (Expression.MakeUnion (named "V") (named "a") (Expression.Character 0 120))))) ▸
    (Statement.Run (Expression.New 0
    (One (Expression.Call (named "W")
    (MoreExpressions (Expression.Character 0 99) (MoreExpressions (Expression.MakeUnion (named "U") (named "p") (Expression.Null 0)) NoExpressions)))))) ▸
    (Statement.Run (Expression.New 0 (One (Expression.HeapRegion 0)))) ▸
    (Statement.Return 0 (Some (number 0))) ▸
    NoItems)) ∷ []

sizes_runs : source sizes [] 2 ≡ gives (Called (codes "main") ∷ Visible (RegionAlloc 0 12) ∷ Visible (RegionAlloc 0 6) ∷ Visible (RegionAlloc 0 16)
    ∷ Visible (RegionAlloc 0 8) ∷ Visible (RegionAlloc 0 20) ∷ Visible (RegionAlloc 0 4) ∷ Returned (codes "main") ∷ []) (SourceEnding.Ended 0)
sizes_runs = refl

-- int main() { char c = 200; return *new (c + c); }
abbrev characters_become_ints : Program
characters_become_ints =
    tree.FunctionItem (function (typed tree.Int []) (named "main") [] (
    (tree.Local (typed tree.Char []) (named "c") (Initializer.Value (number 200))) ▹
    (Statement.Return 0 (Some (Expression.Prefixed 0 Dereference
    (Expression.New 0 (One (Expression.Grouped 0 (Expression.Chain (variable "c") (MoreLinks Add (variable "c") NoLinks)))))))) ▸
    NoItems)) ∷ []

characters_become_ints_runs : source characters_become_ints [] 0 ≡ gives (Called (codes "main") ∷ Visible (RegionAlloc 0 4) ∷ Returned (codes "main") ∷ [])
    (SourceEnding.Ended 400)
characters_become_ints_runs = refl

-- int main() { region_t<`H> x = heap_region; { region<`r> h; x = h; } return *rnew(x) 5; }
abbrev dead_handle : Program
dead_handle =
    tree.FunctionItem (function (typed tree.Int []) (named "main") [] (
    (tree.Local (typed (tree.Handle (tree.Heap 0)) []) (named "x") (Initializer.Value (Expression.HeapRegion 0))) ▹
    (Statement.Block 0 (
    (tree.Region 0 (tree.Named (named "r")) (named "h")) ▹
    (Statement.Run (Expression.Assign (variable "x") (variable "h"))) ▸
    NoItems)) ▸
    (Statement.Return 0 (Some (Expression.Prefixed 0 Dereference (Expression.NewIn 0 (variable "x") (One (number 5)))))) ▸
    NoItems)) ∷ []

dead_handle_runs : source dead_handle [] 0 ≡ gives (Called (codes "main") ∷ Visible (RegionNew 1) ∷ Visible (RegionFree 1) ∷ []) SourceEnding.Stuck
dead_handle_runs = refl
