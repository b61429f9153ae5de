-- What small programs do, computed: leaks, the edges of arrays, the end of the input, effects and bounds
use Rattle.std.proofs.Common.{◌≡◌, Some, None, [], ◌∷◌, refl}
use Rattle.std.specs.Prelude.{codes}
use Rattle.cyc_tree.specs.declared.name.Sign.TheVariants.{Nullable, NotNull, Fat}
use Rattle.cyc_tree.specs.declared.expression.Operator.TheVariants.{GreaterEqual, Add}
use Rattle.cyc_tree.specs.declared.expression.Prefix.TheVariants.{Negate, Dereference, AddressOf}
use Rattle.cyc_tree.specs.Tree as tree
use Rattle.cyc_tree.specs.Tree.{Expression, NoExpressions, MoreExpressions, NoLinks, MoreLinks, NoSuffixes, Index, One, Array, Initializer, Statement, NoItems}
use Rattle.cyc_tree.specs.Tree.{Program}
use Rattle.cyc_words.specs.declared.faults.Kind.TheVariants.{ArrayBounds}
use Rattle.cyc_words.specs.Events.{ByteRead, ByteWritten, RegionNew, RegionAlloc, RegionFree, UniqueAlloc, Visible, Called, Returned, SourceEnding}
use Rattle.source_meaning.specs.Programs.{source}
use Rattle.source_meaning.proofs.Trees.{named, variable, number, pointer, typed, ◌▸◌, ◌▹◌, function, gives}

-- struct S { int x; int y; int z; }; int main() { while (1) { struct S *`U p = rnew(unique_region) S(1,2,3); putchar(46); } }
abbrev unique_leaked : Program
unique_leaked =
    tree.StructItem (record {
      at = 0;
      tag = (named "S");
      regions = [];
      members = ((record { of = (typed tree.Int []); name = (named "x") }) ∷ (record { of = (typed tree.Int []); name = (named "y") })
          ∷ (record { of = (typed tree.Int []); name = (named "z") }) ∷ []);
    }) ∷
    tree.FunctionItem (function (typed tree.Int []) (named "main") [] (
    (Statement.While 0 (number 1) (Statement.Block 0 (
    (tree.Local (typed (tree.Struct (named "S") []) ((pointer (Nullable 1) (Some (tree.Unique 0))) ∷ [])) (named "p")
    (Initializer.Value (Expression.NewIn 0 (Expression.UniqueRegion 0)
    (One (Expression.Call (named "S") (MoreExpressions (number 1) (MoreExpressions (number 2) (MoreExpressions (number 3) NoExpressions)))))))) ▹
    (Statement.Run (Expression.Call (named "putchar") (MoreExpressions (number 46) NoExpressions))) ▸
    NoItems))) ▸
    NoItems)) ∷ []

unique_leaked_runs : source unique_leaked [] 4 ≡ gives (Called (codes "main") ∷ Visible (UniqueAlloc 1 12) ∷ Visible (ByteWritten 46)
    ∷ Visible (UniqueAlloc 2 12) ∷ Visible (ByteWritten 46) ∷ []) SourceEnding.Running
unique_leaked_runs = refl

-- int main() { int a[3]; int ? p = a; putchar('0' + numelts(p)); p = p + 3; putchar('0' + numelts(p)); return a[-1]; }
abbrev elements_before_the_start : Program
elements_before_the_start =
    tree.FunctionItem (function (typed tree.Int []) (named "main") [] (
    (tree.Local (typed tree.Int []) (named "a") (Initializer.Elements 3)) ▹
    (tree.Local (typed tree.Int ((pointer Fat None) ∷ [])) (named "p") (Initializer.Value (variable "a"))) ▹
    (Statement.Run (Expression.Call (named "putchar")
    (MoreExpressions (Expression.Chain (Expression.Character 0 48) (MoreLinks Add (Expression.NumElts 0 (variable "p")) NoLinks)) NoExpressions))) ▸
    (Statement.Run (Expression.Assign (variable "p") (Expression.Chain (variable "p") (MoreLinks Add (number 3) NoLinks)))) ▸
    (Statement.Run (Expression.Call (named "putchar")
    (MoreExpressions (Expression.Chain (Expression.Character 0 48) (MoreLinks Add (Expression.NumElts 0 (variable "p")) NoLinks)) NoExpressions))) ▸
    (Statement.Return 0 (Some (Expression.Suffixed (variable "a") (Index (Expression.Prefixed 0 Negate (number 1)) NoSuffixes)))) ▸
    NoItems)) ∷ []

elements_before_the_start_runs : source elements_before_the_start [] 2
    ≡ gives (Called (codes "main") ∷ Visible (ByteWritten 51) ∷ Visible (ByteWritten 48) ∷ []) (SourceEnding.Raised ArrayBounds)
elements_before_the_start_runs = refl

-- int main() { int c = getchar(); while (c >= 0) { putchar(c); c = getchar(); } }
abbrev empty_input : Program
empty_input =
    tree.FunctionItem (function (typed tree.Int []) (named "main") [] (
    (tree.Local (typed tree.Int []) (named "c") (Initializer.Value (Expression.Call (named "getchar") NoExpressions))) ▹
    (Statement.While 0 (Expression.Chain (variable "c") (MoreLinks GreaterEqual (number 0) NoLinks)) (Statement.Block 0 (
    (Statement.Run (Expression.Call (named "putchar") (MoreExpressions (variable "c") NoExpressions))) ▸
    (Statement.Run (Expression.Assign (variable "c") (Expression.Call (named "getchar") NoExpressions))) ▸
    NoItems))) ▸
    NoItems)) ∷ []

empty_input_runs : source empty_input [] 1 ≡ gives (Called (codes "main") ∷ Visible (ByteRead None) ∷ Returned (codes "main") ∷ []) (SourceEnding.Ended 0)
empty_input_runs = refl

-- int main() { int y = 1; int *p = &y; { int x = 2; } return *p; }
abbrev inner_block : Program
inner_block =
    tree.FunctionItem (function (typed tree.Int []) (named "main") [] (
    (tree.Local (typed tree.Int []) (named "y") (Initializer.Value (number 1))) ▹
    (tree.Local (typed tree.Int ((pointer (Nullable 1) None) ∷ [])) (named "p") (Initializer.Value (Expression.Prefixed 0 AddressOf (variable "y")))) ▹
    (Statement.Block 0 (
    (tree.Local (typed tree.Int []) (named "x") (Initializer.Value (number 2))) ▹
    NoItems)) ▸
    (Statement.Return 0 (Some (Expression.Prefixed 0 Dereference (variable "p")))) ▸
    NoItems)) ∷ []

inner_block_runs : source inner_block [] 0 ≡ gives (Called (codes "main") ∷ Returned (codes "main") ∷ []) (SourceEnding.Ended 1)
inner_block_runs = refl

-- int g(int *`a p) { return *p; } int f(int *`b p) { return g(p); } int main() { int x = 5; return f(&x); }
abbrev effect_of_calls : Program
effect_of_calls =
    tree.FunctionItem (function (typed tree.Int []) (named "g")
    ((record { of = (typed tree.Int ((pointer (Nullable 1) (Some (tree.Named (named "a")))) ∷ [])); name = (named "p") }) ∷ []) (
    (Statement.Return 0 (Some (Expression.Prefixed 0 Dereference (variable "p")))) ▸
    NoItems)) ∷
    tree.FunctionItem (function (typed tree.Int []) (named "f")
    ((record { of = (typed tree.Int ((pointer (Nullable 1) (Some (tree.Named (named "b")))) ∷ [])); name = (named "p") }) ∷ []) (
    (Statement.Return 0 (Some (Expression.Call (named "g") (MoreExpressions (variable "p") NoExpressions)))) ▸
    NoItems)) ∷
    tree.FunctionItem (function (typed tree.Int []) (named "main") [] (
    (tree.Local (typed tree.Int []) (named "x") (Initializer.Value (number 5))) ▹
    (Statement.Return 0 (Some (Expression.Call (named "f") (MoreExpressions (Expression.Prefixed 0 AddressOf (variable "x")) NoExpressions)))) ▸
    NoItems)) ∷ []

effect_of_calls_runs : source effect_of_calls [] 2 ≡ gives (Called (codes "main") ∷ Called (codes "f") ∷ Called (codes "g") ∷ Returned (codes "g")
    ∷ Returned (codes "f") ∷ Returned (codes "main") ∷ []) (SourceEnding.Ended 5)
effect_of_calls_runs = refl

-- int f(int *`a p, int *`b q : `a > `b) { q = p; return *q; } int main() { int x = 1; region<`r> h; int *`r y = rnew(h) 2; return f(&x, y); }
abbrev bound_of_regions : Program
bound_of_regions =
    tree.FunctionItem (record (function (typed tree.Int []) (named "f")
    ((record { of = (typed tree.Int ((pointer (Nullable 1) (Some (tree.Named (named "a")))) ∷ [])); name = (named "p") })
    ∷ (record { of = (typed tree.Int ((pointer (Nullable 1) (Some (tree.Named (named "b")))) ∷ [])); name = (named "q") }) ∷ []) (
    (Statement.Run (Expression.Assign (variable "q") (variable "p"))) ▸
    (Statement.Return 0 (Some (Expression.Prefixed 0 Dereference (variable "q")))) ▸
    NoItems)) { bounds = (record { longer = (tree.Named (named "a")); shorter = (tree.Named (named "b")) }) ∷ [] }) ∷
    tree.FunctionItem (function (typed tree.Int []) (named "main") [] (
    (tree.Local (typed tree.Int []) (named "x") (Initializer.Value (number 1))) ▹
    (tree.Region 0 (tree.Named (named "r")) (named "h")) ▹
    (tree.Local (typed tree.Int ((pointer (Nullable 1) (Some (tree.Named (named "r")))) ∷ [])) (named "y")
    (Initializer.Value (Expression.NewIn 0 (variable "h") (One (number 2))))) ▹
    (Statement.Return 0 (Some (Expression.Call (named "f")
    (MoreExpressions (Expression.Prefixed 0 AddressOf (variable "x")) (MoreExpressions (variable "y") NoExpressions))))) ▸
    NoItems)) ∷ []

bound_of_regions_runs : source bound_of_regions [] 1 ≡ gives (Called (codes "main") ∷ Visible (RegionNew 1) ∷ Visible (RegionAlloc 1 4) ∷ Called (codes "f")
    ∷ Returned (codes "f") ∷ Visible (RegionFree 1) ∷ Returned (codes "main") ∷ []) (SourceEnding.Ended 1)
bound_of_regions_runs = refl

-- int main() { region<`r> h; unsigned ?`r p = rnew(h) {for i < 464 : i}; putchar(p[463]); return 0; }
abbrev long_array : Program
long_array =
    tree.FunctionItem (function (typed tree.Int []) (named "main") [] (
    (tree.Region 0 (tree.Named (named "r")) (named "h")) ▹
    (tree.Local (typed tree.Unsigned ((pointer Fat (Some (tree.Named (named "r")))) ∷ [])) (named "p")
    (Initializer.Value (Expression.NewIn 0 (variable "h") (Array (named "i") (number 464) (variable "i"))))) ▹
    (Statement.Run (Expression.Call (named "putchar") (MoreExpressions (Expression.Suffixed (variable "p") (Index (number 463) NoSuffixes)) NoExpressions))) ▸
    (Statement.Return 0 (Some (number 0))) ▸
    NoItems)) ∷ []

long_array_runs : source long_array [] 465 ≡ gives (Called (codes "main") ∷ Visible (RegionNew 1) ∷ Visible (RegionAlloc 1 1856) ∷ Visible (ByteWritten 207)
    ∷ Visible (RegionFree 1) ∷ Returned (codes "main") ∷ []) (SourceEnding.Ended 0)
long_array_runs = refl

-- struct B { int *`U p; }; struct B @g(struct B *`U b) { ufree(b); return new B(NULL); } int main() { struct B *`U b = rnew(unique_region) B(NULL); return 0; }
abbrev struct_in_unique_block : Program
struct_in_unique_block =
    tree.StructItem (record {
      at = 0;
      tag = (named "B");
      regions = [];
      members = ((record { of = (typed tree.Int ((pointer (Nullable 1) (Some (tree.Unique 0))) ∷ [])); name = (named "p") }) ∷ []);
    }) ∷
    tree.FunctionItem (function (typed (tree.Struct (named "B") []) ((pointer (NotNull 1) None) ∷ [])) (named "g")
    ((record { of = (typed (tree.Struct (named "B") []) ((pointer (Nullable 1) (Some (tree.Unique 0))) ∷ [])); name = (named "b") }) ∷ []) (
    (Statement.FreeUnique 0 (named "b")) ▸
    (Statement.Return 0 (Some (Expression.New 0 (One (Expression.Call (named "B") (MoreExpressions (Expression.Null 0) NoExpressions)))))) ▸
    NoItems)) ∷
    tree.FunctionItem (function (typed tree.Int []) (named "main") [] (
    (tree.Local (typed (tree.Struct (named "B") []) ((pointer (Nullable 1) (Some (tree.Unique 0))) ∷ [])) (named "b")
    (Initializer.Value (Expression.NewIn 0 (Expression.UniqueRegion 0)
    (One (Expression.Call (named "B") (MoreExpressions (Expression.Null 0) NoExpressions)))))) ▹
    (Statement.Return 0 (Some (number 0))) ▸
    NoItems)) ∷ []

struct_in_unique_block_runs : source struct_in_unique_block [] 0 ≡ gives (Called (codes "main") ∷ Visible (UniqueAlloc 1 4) ∷ Returned (codes "main") ∷ [])
    (SourceEnding.Ended 0)
struct_in_unique_block_runs = refl
