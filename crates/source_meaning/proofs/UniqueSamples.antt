-- What small programs do, computed: unique pointers
use Rattle.std.proofs.Common.{◌≡◌, Some, None, [], ◌∷◌, refl}
use Rattle.std.specs.Prelude.{codes}
use Rattle.cyc_tree.specs.declared.name.Sign.TheVariants.{Nullable, NotNull}
use Rattle.cyc_tree.specs.declared.expression.Operator.TheVariants.{Equal, Less, Add}
use Rattle.cyc_tree.specs.declared.expression.Prefix.TheVariants.{Dereference}
use Rattle.cyc_tree.specs.Tree as tree
use Rattle.cyc_tree.specs.Tree.{Expression, NoExpressions, MoreExpressions, NoLinks, MoreLinks, NoSuffixes, Index, Dot, Arrow, One, Array, Initializer, Case}
use Rattle.cyc_tree.specs.Tree.{Default, Statement, NoItems, NoClauses, MoreClauses, Constant, Initial, Program}
use Rattle.cyc_words.specs.Events.{ByteWritten, RegionAlloc, UniqueAlloc, UniqueFree, Visible, Called, Returned, SourceEnding}
use Rattle.source_meaning.specs.Programs.{source}
use Rattle.source_meaning.proofs.Trees.{named, variable, number, pointer, typed, ◌▸◌, ◌▹◌, function, gives}

-- struct S { int x; int y; int z; }; int main() { int i = 0; while (i < 2) { struct S *`U p = rnew(unique_region) S(1,2,3); ufree(p); putchar(46); i = i + 1; }
-- }
abbrev unique_loop : Program
unique_loop =
    tree.StructItem (record {
      at = 0;
      tag = (named "S");
      regions = [];
      members = ((record { of = (typed tree.Int []); name = (named "x") }) ∷ (record { of = (typed tree.Int []); name = (named "y") })
          ∷ (record { of = (typed tree.Int []); name = (named "z") }) ∷ []);
    }) ∷
    tree.FunctionItem (function (typed tree.Int []) (named "main") [] (
    (tree.Local (typed tree.Int []) (named "i") (Initializer.Value (number 0))) ▹
    (Statement.While 0 (Expression.Chain (variable "i") (MoreLinks Less (number 2) NoLinks)) (Statement.Block 0 (
    (tree.Local (typed (tree.Struct (named "S") []) ((pointer (Nullable 1) (Some (tree.Unique 0))) ∷ [])) (named "p")
    (Initializer.Value (Expression.NewIn 0 (Expression.UniqueRegion 0)
    (One (Expression.Call (named "S") (MoreExpressions (number 1) (MoreExpressions (number 2) (MoreExpressions (number 3) NoExpressions)))))))) ▹
    (Statement.FreeUnique 0 (named "p")) ▸
    (Statement.Run (Expression.Call (named "putchar") (MoreExpressions (number 46) NoExpressions))) ▸
    (Statement.Run (Expression.Assign (variable "i") (Expression.Chain (variable "i") (MoreLinks Add (number 1) NoLinks)))) ▸
    NoItems))) ▸
    NoItems)) ∷ []

unique_loop_runs : source unique_loop [] 4 ≡ gives (Called (codes "main") ∷ Visible (UniqueAlloc 1 12) ∷ Visible (UniqueFree 1) ∷ Visible (ByteWritten 46)
    ∷ Visible (UniqueAlloc 2 12) ∷ Visible (UniqueFree 2) ∷ Visible (ByteWritten 46) ∷ Returned (codes "main") ∷ []) (SourceEnding.Ended 0)
unique_loop_runs = refl

-- struct S { int f; }; int g(struct S *`U p) { ufree(p); return 1; } int main() { struct S *`U p = rnew(unique_region) S(0); p->f = g(p); return 0; }
abbrev freed_before_place : Program
freed_before_place =
    tree.StructItem (record { at = 0; tag = (named "S"); regions = []; members = ((record { of = (typed tree.Int []); name = (named "f") }) ∷ []) }) ∷
    tree.FunctionItem (function (typed tree.Int []) (named "g")
    ((record { of = (typed (tree.Struct (named "S") []) ((pointer (Nullable 1) (Some (tree.Unique 0))) ∷ [])); name = (named "p") }) ∷ []) (
    (Statement.FreeUnique 0 (named "p")) ▸
    (Statement.Return 0 (Some (number 1))) ▸
    NoItems)) ∷
    tree.FunctionItem (function (typed tree.Int []) (named "main") [] (
    (tree.Local (typed (tree.Struct (named "S") []) ((pointer (Nullable 1) (Some (tree.Unique 0))) ∷ [])) (named "p")
    (Initializer.Value (Expression.NewIn 0 (Expression.UniqueRegion 0) (One (Expression.Call (named "S") (MoreExpressions (number 0) NoExpressions)))))) ▹
    (Statement.Run (Expression.Assign (Expression.Suffixed (variable "p") (Arrow (named "f") NoSuffixes))
    (Expression.Call (named "g") (MoreExpressions (variable "p") NoExpressions)))) ▸
    (Statement.Return 0 (Some (number 0))) ▸
    NoItems)) ∷ []

freed_before_place_runs : source freed_before_place [] 1
    ≡ gives (Called (codes "main") ∷ Visible (UniqueAlloc 1 4) ∷ Called (codes "g") ∷ Visible (UniqueFree 1) ∷ Returned (codes "g") ∷ []) SourceEnding.Stuck
freed_before_place_runs = refl

-- int main() { int @`U p = rnew(unique_region) 4; { let alias<`r> int @`r x = p; int @`r y = x; *y = *x + 1; } return *p; }
abbrev aliased : Program
aliased =
    tree.FunctionItem (function (typed tree.Int []) (named "main") [] (
    (tree.Local (typed tree.Int ((pointer (NotNull 1) (Some (tree.Unique 0))) ∷ [])) (named "p")
    (Initializer.Value (Expression.NewIn 0 (Expression.UniqueRegion 0) (One (number 4))))) ▹
    (Statement.Block 0 (
    (tree.Alias 0 (tree.Named (named "r")) (typed tree.Int ((pointer (NotNull 1) (Some (tree.Named (named "r")))) ∷ [])) (named "x") (named "p")) ▹
    (tree.Local (typed tree.Int ((pointer (NotNull 1) (Some (tree.Named (named "r")))) ∷ [])) (named "y") (Initializer.Value (variable "x"))) ▹
    (Statement.Run (Expression.Assign (Expression.Prefixed 0 Dereference (variable "y"))
    (Expression.Chain (Expression.Prefixed 0 Dereference (variable "x")) (MoreLinks Add (number 1) NoLinks)))) ▸
    NoItems)) ▸
    (Statement.Return 0 (Some (Expression.Prefixed 0 Dereference (variable "p")))) ▸
    NoItems)) ∷ []

aliased_runs : source aliased [] 0 ≡ gives (Called (codes "main") ∷ Visible (UniqueAlloc 1 4) ∷ Returned (codes "main") ∷ []) (SourceEnding.Ended 5)
aliased_runs = refl

-- int main() { int @`U p = rnew(unique_region) 4; { let alias<`r> int @`r x = p; int @`r y = x; *y = *x + 1; ufree(p); } return *p; }
abbrev aliased_and_freed : Program
aliased_and_freed =
    tree.FunctionItem (function (typed tree.Int []) (named "main") [] (
    (tree.Local (typed tree.Int ((pointer (NotNull 1) (Some (tree.Unique 0))) ∷ [])) (named "p")
    (Initializer.Value (Expression.NewIn 0 (Expression.UniqueRegion 0) (One (number 4))))) ▹
    (Statement.Block 0 (
    (tree.Alias 0 (tree.Named (named "r")) (typed tree.Int ((pointer (NotNull 1) (Some (tree.Named (named "r")))) ∷ [])) (named "x") (named "p")) ▹
    (tree.Local (typed tree.Int ((pointer (NotNull 1) (Some (tree.Named (named "r")))) ∷ [])) (named "y") (Initializer.Value (variable "x"))) ▹
    (Statement.Run (Expression.Assign (Expression.Prefixed 0 Dereference (variable "y"))
    (Expression.Chain (Expression.Prefixed 0 Dereference (variable "x")) (MoreLinks Add (number 1) NoLinks)))) ▸
    (Statement.FreeUnique 0 (named "p")) ▸
    NoItems)) ▸
    (Statement.Return 0 (Some (Expression.Prefixed 0 Dereference (variable "p")))) ▸
    NoItems)) ∷ []

aliased_and_freed_runs : source aliased_and_freed [] 0 ≡ gives (Called (codes "main") ∷ Visible (UniqueAlloc 1 4) ∷ []) SourceEnding.Stuck
aliased_and_freed_runs = refl

-- struct B { int *`U p; }; int main() { struct B @b = new B(rnew(unique_region) 3); int *`U t = NULL; t :=: b->p; int r = *t; ufree(t); return r; }
abbrev exchanged : Program
exchanged =
    tree.StructItem (record {
      at = 0;
      tag = (named "B");
      regions = [];
      members = ((record { of = (typed tree.Int ((pointer (Nullable 1) (Some (tree.Unique 0))) ∷ [])); name = (named "p") }) ∷ []);
    }) ∷
    tree.FunctionItem (function (typed tree.Int []) (named "main") [] (
    (tree.Local (typed (tree.Struct (named "B") []) ((pointer (NotNull 1) None) ∷ [])) (named "b")
    (Initializer.Value (Expression.New 0
    (One (Expression.Call (named "B") (MoreExpressions (Expression.NewIn 0 (Expression.UniqueRegion 0) (One (number 3))) NoExpressions)))))) ▹
    (tree.Local (typed tree.Int ((pointer (Nullable 1) (Some (tree.Unique 0))) ∷ [])) (named "t") (Initializer.Value (Expression.Null 0))) ▹
    (Statement.Exchange (variable "t") (Expression.Suffixed (variable "b") (Arrow (named "p") NoSuffixes))) ▸
    (tree.Local (typed tree.Int []) (named "r") (Initializer.Value (Expression.Prefixed 0 Dereference (variable "t")))) ▹
    (Statement.FreeUnique 0 (named "t")) ▸
    (Statement.Return 0 (Some (variable "r"))) ▸
    NoItems)) ∷ []

exchanged_runs : source exchanged [] 0 ≡ gives (Called (codes "main") ∷ Visible (UniqueAlloc 1 4) ∷ Visible (RegionAlloc 0 4) ∷ Visible (UniqueFree 1)
    ∷ Returned (codes "main") ∷ []) (SourceEnding.Ended 3)
exchanged_runs = refl

-- struct B { int *`U p; }; struct B @g(struct B *`U b) { ufree(b); return new B(NULL); } int main() { struct B *`U b = rnew(unique_region) B(NULL); b->p :=:
-- g(b)->p; return 0; }
abbrev exchanged_with_freed : Program
exchanged_with_freed =
    tree.StructItem (record {
      at = 0;
      tag = (named "B");
      regions = [];
      members = ((record { of = (typed tree.Int ((pointer (Nullable 1) (Some (tree.Unique 0))) ∷ [])); name = (named "p") }) ∷ []);
    }) ∷
    tree.FunctionItem (function (typed (tree.Struct (named "B") []) ((pointer (NotNull 1) None) ∷ [])) (named "g")
    ((record { of = (typed (tree.Struct (named "B") []) ((pointer (Nullable 1) (Some (tree.Unique 0))) ∷ [])); name = (named "b") }) ∷ []) (
    (Statement.FreeUnique 0 (named "b")) ▸
    (Statement.Return 0 (Some (Expression.New 0 (One (Expression.Call (named "B") (MoreExpressions (Expression.Null 0) NoExpressions)))))) ▸
    NoItems)) ∷
    tree.FunctionItem (function (typed tree.Int []) (named "main") [] (
    (tree.Local (typed (tree.Struct (named "B") []) ((pointer (Nullable 1) (Some (tree.Unique 0))) ∷ [])) (named "b")
    (Initializer.Value (Expression.NewIn 0 (Expression.UniqueRegion 0)
    (One (Expression.Call (named "B") (MoreExpressions (Expression.Null 0) NoExpressions)))))) ▹
    (Statement.Exchange (Expression.Suffixed (variable "b") (Arrow (named "p") NoSuffixes))
    (Expression.Suffixed (Expression.Call (named "g") (MoreExpressions (variable "b") NoExpressions)) (Arrow (named "p") NoSuffixes))) ▸
    (Statement.Return 0 (Some (number 0))) ▸
    NoItems)) ∷ []

exchanged_with_freed_runs : source exchanged_with_freed [] 1
    ≡ gives (Called (codes "main") ∷ Visible (UniqueAlloc 1 4) ∷ Called (codes "g") ∷ Visible (UniqueFree 1) ∷ Visible (RegionAlloc 0 4) ∷ Returned (codes "g")
    ∷ []) SourceEnding.Stuck
exchanged_with_freed_runs = refl

-- int main() { int *p = rnew(unique_region) 3; int *q = p; ufree(q); return *p; }
abbrev moved_and_read : Program
moved_and_read =
    tree.FunctionItem (function (typed tree.Int []) (named "main") [] (
    (tree.Local (typed tree.Int ((pointer (Nullable 1) None) ∷ [])) (named "p")
    (Initializer.Value (Expression.NewIn 0 (Expression.UniqueRegion 0) (One (number 3))))) ▹
    (tree.Local (typed tree.Int ((pointer (Nullable 1) None) ∷ [])) (named "q") (Initializer.Value (variable "p"))) ▹
    (Statement.FreeUnique 0 (named "q")) ▸
    (Statement.Return 0 (Some (Expression.Prefixed 0 Dereference (variable "p")))) ▸
    NoItems)) ∷ []

moved_and_read_runs : source moved_and_read [] 0 ≡ gives (Called (codes "main") ∷ Visible (UniqueAlloc 1 4) ∷ Visible (UniqueFree 1) ∷ []) SourceEnding.Stuck
moved_and_read_runs = refl

-- int main() { int *`U p = NULL; ufree(p); return 0; }
abbrev null_freed : Program
null_freed =
    tree.FunctionItem (function (typed tree.Int []) (named "main") [] (
    (tree.Local (typed tree.Int ((pointer (Nullable 1) (Some (tree.Unique 0))) ∷ [])) (named "p") (Initializer.Value (Expression.Null 0))) ▹
    (Statement.FreeUnique 0 (named "p")) ▸
    (Statement.Return 0 (Some (number 0))) ▸
    NoItems)) ∷ []

null_freed_runs : source null_freed [] 0 ≡ gives (Called (codes "main") ∷ Returned (codes "main") ∷ []) (SourceEnding.Ended 0)
null_freed_runs = refl

-- struct B { int n; int *`U p; }; int main() { struct B a = B(1, NULL); struct B b = a; return a.n; }
abbrev struct_moved : Program
struct_moved =
    tree.StructItem (record {
      at = 0;
      tag = (named "B");
      regions = [];
      members = ((record { of = (typed tree.Int []); name = (named "n") })
          ∷ (record { of = (typed tree.Int ((pointer (Nullable 1) (Some (tree.Unique 0))) ∷ [])); name = (named "p") }) ∷ []);
    }) ∷
    tree.FunctionItem (function (typed tree.Int []) (named "main") [] (
    (tree.Local (typed (tree.Struct (named "B") []) []) (named "a")
    (Initializer.Value (Expression.Call (named "B") (MoreExpressions (number 1) (MoreExpressions (Expression.Null 0) NoExpressions))))) ▹
    (tree.Local (typed (tree.Struct (named "B") []) []) (named "b") (Initializer.Value (variable "a"))) ▹
    (Statement.Return 0 (Some (Expression.Suffixed (variable "a") (Dot (named "n") NoSuffixes)))) ▸
    NoItems)) ∷ []

struct_moved_runs : source struct_moved [] 0 ≡ gives (Called (codes "main") ∷ []) SourceEnding.Stuck
struct_moved_runs = refl

-- int main() { int *`U p = NULL; ufree(p); p = rnew(unique_region) 2; int r = *p; ufree(p); return r; }
abbrev assigned_again : Program
assigned_again =
    tree.FunctionItem (function (typed tree.Int []) (named "main") [] (
    (tree.Local (typed tree.Int ((pointer (Nullable 1) (Some (tree.Unique 0))) ∷ [])) (named "p") (Initializer.Value (Expression.Null 0))) ▹
    (Statement.FreeUnique 0 (named "p")) ▸
    (Statement.Run (Expression.Assign (variable "p") (Expression.NewIn 0 (Expression.UniqueRegion 0) (One (number 2))))) ▸
    (tree.Local (typed tree.Int []) (named "r") (Initializer.Value (Expression.Prefixed 0 Dereference (variable "p")))) ▹
    (Statement.FreeUnique 0 (named "p")) ▸
    (Statement.Return 0 (Some (variable "r"))) ▸
    NoItems)) ∷ []

assigned_again_runs : source assigned_again [] 0 ≡ gives (Called (codes "main") ∷ Visible (UniqueAlloc 1 4) ∷ Visible (UniqueFree 1) ∷ Returned (codes "main")
    ∷ []) (SourceEnding.Ended 2)
assigned_again_runs = refl

-- int main() { int @`U p = rnew(unique_region) 4; while (1) { let alias<`r> int @`r x = p; *x = 6; break; } int r = *p; ufree(p); return r; }
abbrev alias_restored : Program
alias_restored =
    tree.FunctionItem (function (typed tree.Int []) (named "main") [] (
    (tree.Local (typed tree.Int ((pointer (NotNull 1) (Some (tree.Unique 0))) ∷ [])) (named "p")
    (Initializer.Value (Expression.NewIn 0 (Expression.UniqueRegion 0) (One (number 4))))) ▹
    (Statement.While 0 (number 1) (Statement.Block 0 (
    (tree.Alias 0 (tree.Named (named "r")) (typed tree.Int ((pointer (NotNull 1) (Some (tree.Named (named "r")))) ∷ [])) (named "x") (named "p")) ▹
    (Statement.Run (Expression.Assign (Expression.Prefixed 0 Dereference (variable "x")) (number 6))) ▸
    (Statement.Break 0) ▸
    NoItems))) ▸
    (tree.Local (typed tree.Int []) (named "r") (Initializer.Value (Expression.Prefixed 0 Dereference (variable "p")))) ▹
    (Statement.FreeUnique 0 (named "p")) ▸
    (Statement.Return 0 (Some (variable "r"))) ▸
    NoItems)) ∷ []

alias_restored_runs : source alias_restored [] 1 ≡ gives (Called (codes "main") ∷ Visible (UniqueAlloc 1 4) ∷ Visible (UniqueFree 1) ∷ Returned (codes "main")
    ∷ []) (SourceEnding.Ended 6)
alias_restored_runs = refl

-- int main() { int @`U @`U p = rnew(unique_region) rnew(unique_region) 3; let alias<`r> int @ @`r x = p; int @y = *x; return **x; }
abbrev alias_takes_inner_regions : Program
alias_takes_inner_regions =
    tree.FunctionItem (function (typed tree.Int []) (named "main") [] (
    (tree.Local (typed tree.Int ((pointer (NotNull 1) (Some (tree.Unique 0))) ∷ (pointer (NotNull 1) (Some (tree.Unique 0))) ∷ [])) (named "p")
    (Initializer.Value (Expression.NewIn 0 (Expression.UniqueRegion 0) (One (Expression.NewIn 0 (Expression.UniqueRegion 0) (One (number 3))))))) ▹
    (tree.Alias 0 (tree.Named (named "r")) (typed tree.Int ((pointer (NotNull 1) None) ∷ (pointer (NotNull 1) (Some (tree.Named (named "r")))) ∷ []))
    (named "x") (named "p")) ▹
    (tree.Local (typed tree.Int ((pointer (NotNull 1) None) ∷ [])) (named "y") (Initializer.Value (Expression.Prefixed 0 Dereference (variable "x")))) ▹
    (Statement.Return 0 (Some (Expression.Prefixed 0 Dereference (Expression.Prefixed 0 Dereference (variable "x"))))) ▸
    NoItems)) ∷ []

alias_takes_inner_regions_runs : source alias_takes_inner_regions [] 0 ≡ gives (Called (codes "main") ∷ Visible (UniqueAlloc 1 4) ∷ Visible (UniqueAlloc 2 4)
    ∷ []) SourceEnding.Stuck
alias_takes_inner_regions_runs = refl

-- int g(int *`U p) { int r = *p; ufree(p); return r; } int main() { int *`U p = rnew(unique_region) 3; return g(p) + g(p); }
abbrev moved_into_a_call : Program
moved_into_a_call =
    tree.FunctionItem (function (typed tree.Int []) (named "g")
    ((record { of = (typed tree.Int ((pointer (Nullable 1) (Some (tree.Unique 0))) ∷ [])); name = (named "p") }) ∷ []) (
    (tree.Local (typed tree.Int []) (named "r") (Initializer.Value (Expression.Prefixed 0 Dereference (variable "p")))) ▹
    (Statement.FreeUnique 0 (named "p")) ▸
    (Statement.Return 0 (Some (variable "r"))) ▸
    NoItems)) ∷
    tree.FunctionItem (function (typed tree.Int []) (named "main") [] (
    (tree.Local (typed tree.Int ((pointer (Nullable 1) (Some (tree.Unique 0))) ∷ [])) (named "p")
    (Initializer.Value (Expression.NewIn 0 (Expression.UniqueRegion 0) (One (number 3))))) ▹
    (Statement.Return 0 (Some (Expression.Chain (Expression.Call (named "g") (MoreExpressions (variable "p") NoExpressions))
    (MoreLinks Add (Expression.Call (named "g") (MoreExpressions (variable "p") NoExpressions)) NoLinks)))) ▸
    NoItems)) ∷ []

moved_into_a_call_runs : source moved_into_a_call [] 1 ≡ gives (Called (codes "main") ∷ Visible (UniqueAlloc 1 4) ∷ Called (codes "g") ∷ Visible (UniqueFree 1)
    ∷ Returned (codes "g") ∷ []) SourceEnding.Stuck
moved_into_a_call_runs = refl

-- int main() { int *p = rnew(unique_region) 3; int *q = p; return *p; }
abbrev moved_by_its_making : Program
moved_by_its_making =
    tree.FunctionItem (function (typed tree.Int []) (named "main") [] (
    (tree.Local (typed tree.Int ((pointer (Nullable 1) None) ∷ [])) (named "p")
    (Initializer.Value (Expression.NewIn 0 (Expression.UniqueRegion 0) (One (number 3))))) ▹
    (tree.Local (typed tree.Int ((pointer (Nullable 1) None) ∷ [])) (named "q") (Initializer.Value (variable "p"))) ▹
    (Statement.Return 0 (Some (Expression.Prefixed 0 Dereference (variable "p")))) ▸
    NoItems)) ∷ []

moved_by_its_making_runs : source moved_by_its_making [] 0 ≡ gives (Called (codes "main") ∷ Visible (UniqueAlloc 1 4) ∷ []) SourceEnding.Stuck
moved_by_its_making_runs = refl

-- int main() { int *`U p = rnew(unique_region) 3; ufree(p); return p == NULL; }
abbrev freed_and_tested : Program
freed_and_tested =
    tree.FunctionItem (function (typed tree.Int []) (named "main") [] (
    (tree.Local (typed tree.Int ((pointer (Nullable 1) (Some (tree.Unique 0))) ∷ [])) (named "p")
    (Initializer.Value (Expression.NewIn 0 (Expression.UniqueRegion 0) (One (number 3))))) ▹
    (Statement.FreeUnique 0 (named "p")) ▸
    (Statement.Return 0 (Some (Expression.Chain (variable "p") (MoreLinks Equal (Expression.Null 0) NoLinks)))) ▸
    NoItems)) ∷ []

freed_and_tested_runs : source freed_and_tested [] 0 ≡ gives (Called (codes "main") ∷ Visible (UniqueAlloc 1 4) ∷ Visible (UniqueFree 1) ∷ [])
    SourceEnding.Stuck
freed_and_tested_runs = refl

-- int main() { int *`U p = rnew(unique_region) 3; let alias<`r> int *`r x = p; p = NULL; return 0; }
abbrev lent_and_assigned : Program
lent_and_assigned =
    tree.FunctionItem (function (typed tree.Int []) (named "main") [] (
    (tree.Local (typed tree.Int ((pointer (Nullable 1) (Some (tree.Unique 0))) ∷ [])) (named "p")
    (Initializer.Value (Expression.NewIn 0 (Expression.UniqueRegion 0) (One (number 3))))) ▹
    (tree.Alias 0 (tree.Named (named "r")) (typed tree.Int ((pointer (Nullable 1) (Some (tree.Named (named "r")))) ∷ [])) (named "x") (named "p")) ▹
    (Statement.Run (Expression.Assign (variable "p") (Expression.Null 0))) ▸
    (Statement.Return 0 (Some (number 0))) ▸
    NoItems)) ∷ []

lent_and_assigned_runs : source lent_and_assigned [] 0 ≡ gives (Called (codes "main") ∷ Visible (UniqueAlloc 1 4) ∷ []) SourceEnding.Stuck
lent_and_assigned_runs = refl

-- int main() { int *`U p = rnew(unique_region) 3; int *`H s = NULL; { let alias<`r> int *`r x = p; s = x; } ufree(p); ufree(s); return 0; }
abbrev freed_twice : Program
freed_twice =
    tree.FunctionItem (function (typed tree.Int []) (named "main") [] (
    (tree.Local (typed tree.Int ((pointer (Nullable 1) (Some (tree.Unique 0))) ∷ [])) (named "p")
    (Initializer.Value (Expression.NewIn 0 (Expression.UniqueRegion 0) (One (number 3))))) ▹
    (tree.Local (typed tree.Int ((pointer (Nullable 1) (Some (tree.Heap 0))) ∷ [])) (named "s") (Initializer.Value (Expression.Null 0))) ▹
    (Statement.Block 0 (
    (tree.Alias 0 (tree.Named (named "r")) (typed tree.Int ((pointer (Nullable 1) (Some (tree.Named (named "r")))) ∷ [])) (named "x") (named "p")) ▹
    (Statement.Run (Expression.Assign (variable "s") (variable "x"))) ▸
    NoItems)) ▸
    (Statement.FreeUnique 0 (named "p")) ▸
    (Statement.FreeUnique 0 (named "s")) ▸
    (Statement.Return 0 (Some (number 0))) ▸
    NoItems)) ∷ []

freed_twice_runs : source freed_twice [] 0 ≡ gives (Called (codes "main") ∷ Visible (UniqueAlloc 1 4) ∷ Visible (UniqueFree 1) ∷ []) SourceEnding.Stuck
freed_twice_runs = refl
