-- What small programs do, computed: what no rule gives a meaning
use Rattle.std.proofs.Common.{◌≡◌, ℕ, false, Some, None, [], ◌∷◌, refl}
use Rattle.std.specs.Prelude.{codes}
use Rattle.cyc_tree.specs.declared.name.Sign.TheVariants.{Nullable, NotNull, Fat}
use Rattle.cyc_tree.specs.declared.expression.Operator.TheVariants.{Equal}
use Rattle.cyc_tree.specs.declared.expression.Prefix.TheVariants.{Dereference, AddressOf}
use Rattle.cyc_tree.specs.Tree as tree
use Rattle.cyc_tree.specs.Tree.{Expression, NoExpressions, MoreExpressions, NoLinks, MoreLinks, NoSuffixes, Dot, One, Initializer, Statement, NoItems, Program}
use Rattle.cyc_words.specs.Events.{RegionNew, RegionAlloc, RegionFree, UniqueAlloc, UniqueFree, KeyNew, KeyOpen, KeyClose, KeyFree, Visible, Called}
use Rattle.cyc_words.specs.Events.{SourceEnding}
use Rattle.source_meaning.specs.Memory.{Memory, Born, is_live}
use Rattle.source_meaning.specs.Steps.{Step}
use Rattle.step_trees.specs.Trees.{Stops}
use Rattle.source_meaning.specs.Regions.{region_freed, key_closed}
use Rattle.source_meaning.specs.Programs.{source}
use Rattle.source_meaning.proofs.Trees.{named, variable, number, pointer, typed, ◌▸◌, ◌▹◌, function, gives}

-- int main() { int @p; return *p; }
abbrev blank_read : Program
blank_read =
    tree.FunctionItem (function (typed tree.Int []) (named "main") [] (
    (tree.Local (typed tree.Int ((pointer (NotNull 1) None) ∷ [])) (named "p") Initializer.Unset) ▹
    (Statement.Return 0 (Some (Expression.Prefixed 0 Dereference (variable "p")))) ▸
    NoItems)) ∷ []

blank_read_runs : source blank_read [] 0 ≡ gives (Called (codes "main") ∷ []) SourceEnding.Stuck
blank_read_runs = refl

-- int main() { int x = 1; int @p; int @q = &x; p :=: q; return 0; }
abbrev blank_exchanged : Program
blank_exchanged =
    tree.FunctionItem (function (typed tree.Int []) (named "main") [] (
    (tree.Local (typed tree.Int []) (named "x") (Initializer.Value (number 1))) ▹
    (tree.Local (typed tree.Int ((pointer (NotNull 1) None) ∷ [])) (named "p") Initializer.Unset) ▹
    (tree.Local (typed tree.Int ((pointer (NotNull 1) None) ∷ [])) (named "q") (Initializer.Value (Expression.Prefixed 0 AddressOf (variable "x")))) ▹
    (Statement.Exchange (variable "p") (variable "q")) ▸
    (Statement.Return 0 (Some (number 0))) ▸
    NoItems)) ∷ []

blank_exchanged_runs : source blank_exchanged [] 0 ≡ gives (Called (codes "main") ∷ []) SourceEnding.Stuck
blank_exchanged_runs = refl

-- int main() { int *`U p = rnew(unique_region) 3; int *`U q = NULL; let alias<`r> int *`r x = p; p :=: q; return 0; }
abbrev lent_exchanged : Program
lent_exchanged =
    tree.FunctionItem (function (typed tree.Int []) (named "main") [] (
    (tree.Local (typed tree.Int ((pointer (Nullable 1) (Some (tree.Unique 0))) ∷ [])) (named "p")
    (Initializer.Value (Expression.NewIn 0 (Expression.UniqueRegion 0) (One (number 3))))) ▹
    (tree.Local (typed tree.Int ((pointer (Nullable 1) (Some (tree.Unique 0))) ∷ [])) (named "q") (Initializer.Value (Expression.Null 0))) ▹
    (tree.Alias 0 (tree.Named (named "r")) (typed tree.Int ((pointer (Nullable 1) (Some (tree.Named (named "r")))) ∷ [])) (named "x") (named "p")) ▹
    (Statement.Exchange (variable "p") (variable "q")) ▸
    (Statement.Return 0 (Some (number 0))) ▸
    NoItems)) ∷ []

lent_exchanged_runs : source lent_exchanged [] 0 ≡ gives (Called (codes "main") ∷ Visible (UniqueAlloc 1 4) ∷ []) SourceEnding.Stuck
lent_exchanged_runs = refl

-- int main() { int *`U p = rnew(unique_region) 3; int *`U q = NULL; let alias<`r> int *`r x = p; q :=: p; return 0; }
abbrev exchanged_with_lent : Program
exchanged_with_lent =
    tree.FunctionItem (function (typed tree.Int []) (named "main") [] (
    (tree.Local (typed tree.Int ((pointer (Nullable 1) (Some (tree.Unique 0))) ∷ [])) (named "p")
    (Initializer.Value (Expression.NewIn 0 (Expression.UniqueRegion 0) (One (number 3))))) ▹
    (tree.Local (typed tree.Int ((pointer (Nullable 1) (Some (tree.Unique 0))) ∷ [])) (named "q") (Initializer.Value (Expression.Null 0))) ▹
    (tree.Alias 0 (tree.Named (named "r")) (typed tree.Int ((pointer (Nullable 1) (Some (tree.Named (named "r")))) ∷ [])) (named "x") (named "p")) ▹
    (Statement.Exchange (variable "q") (variable "p")) ▸
    (Statement.Return 0 (Some (number 0))) ▸
    NoItems)) ∷ []

exchanged_with_lent_runs : source exchanged_with_lent [] 0 ≡ gives (Called (codes "main") ∷ Visible (UniqueAlloc 1 4) ∷ []) SourceEnding.Stuck
exchanged_with_lent_runs = refl

-- int main() { int *`U p = rnew(unique_region) 3; int *`U q = NULL; ufree(p); p :=: q; return 0; }
abbrev gone_exchanged : Program
gone_exchanged =
    tree.FunctionItem (function (typed tree.Int []) (named "main") [] (
    (tree.Local (typed tree.Int ((pointer (Nullable 1) (Some (tree.Unique 0))) ∷ [])) (named "p")
    (Initializer.Value (Expression.NewIn 0 (Expression.UniqueRegion 0) (One (number 3))))) ▹
    (tree.Local (typed tree.Int ((pointer (Nullable 1) (Some (tree.Unique 0))) ∷ [])) (named "q") (Initializer.Value (Expression.Null 0))) ▹
    (Statement.FreeUnique 0 (named "p")) ▸
    (Statement.Exchange (variable "p") (variable "q")) ▸
    (Statement.Return 0 (Some (number 0))) ▸
    NoItems)) ∷ []

gone_exchanged_runs : source gone_exchanged [] 0 ≡ gives (Called (codes "main") ∷ Visible (UniqueAlloc 1 4) ∷ Visible (UniqueFree 1) ∷ []) SourceEnding.Stuck
gone_exchanged_runs = refl

-- int main() { int *`U p = rnew(unique_region) 3; int *`U q = NULL; ufree(p); q :=: p; return 0; }
abbrev exchanged_with_gone : Program
exchanged_with_gone =
    tree.FunctionItem (function (typed tree.Int []) (named "main") [] (
    (tree.Local (typed tree.Int ((pointer (Nullable 1) (Some (tree.Unique 0))) ∷ [])) (named "p")
    (Initializer.Value (Expression.NewIn 0 (Expression.UniqueRegion 0) (One (number 3))))) ▹
    (tree.Local (typed tree.Int ((pointer (Nullable 1) (Some (tree.Unique 0))) ∷ [])) (named "q") (Initializer.Value (Expression.Null 0))) ▹
    (Statement.FreeUnique 0 (named "p")) ▸
    (Statement.Exchange (variable "q") (variable "p")) ▸
    (Statement.Return 0 (Some (number 0))) ▸
    NoItems)) ∷ []

exchanged_with_gone_runs : source exchanged_with_gone [] 0 ≡ gives (Called (codes "main") ∷ Visible (UniqueAlloc 1 4) ∷ Visible (UniqueFree 1) ∷ [])
    SourceEnding.Stuck
exchanged_with_gone_runs = refl

-- struct B { int n; int *`U p; }; int main() { struct B a = B(1, NULL); struct B b = a; return a.p == NULL; }
abbrev struct_gone : Program
struct_gone =
    tree.StructItem (record {
      at = 0;
      tag = (named "B");
      regions = [];
      members = ((record { of = (typed tree.Int []); name = (named "n") })
          ∷ (record { of = (typed tree.Int ((pointer (Nullable 1) (Some (tree.Unique 0))) ∷ [])); name = (named "p") }) ∷ []);
    }) ∷
    tree.FunctionItem (function (typed tree.Int []) (named "main") [] (
    (tree.Local (typed (tree.Struct (named "B") []) []) (named "a")
    (Initializer.Value (Expression.Call (named "B") (MoreExpressions (number 1) (MoreExpressions (Expression.Null 0) NoExpressions))))) ▹
    (tree.Local (typed (tree.Struct (named "B") []) []) (named "b") (Initializer.Value (variable "a"))) ▹
    (Statement.Return 0 (Some (Expression.Chain (Expression.Suffixed (variable "a") (Dot (named "p") NoSuffixes))
    (MoreLinks Equal (Expression.Null 0) NoLinks)))) ▸
    NoItems)) ∷ []

struct_gone_runs : source struct_gone [] 0 ≡ gives (Called (codes "main") ∷ []) SourceEnding.Stuck
struct_gone_runs = refl

-- int main() { int *`U a[1]; int * ? q = a; int *x = *q; return *q == NULL; }
abbrev fat_of_unique_read : Program
fat_of_unique_read =
    tree.FunctionItem (function (typed tree.Int []) (named "main") [] (
    (tree.Local (typed tree.Int ((pointer (Nullable 1) (Some (tree.Unique 0))) ∷ [])) (named "a") (Initializer.Elements 1)) ▹
    (tree.Local (typed tree.Int ((pointer (Nullable 1) None) ∷ (pointer Fat None) ∷ [])) (named "q") (Initializer.Value (variable "a"))) ▹
    (tree.Local (typed tree.Int ((pointer (Nullable 1) None) ∷ [])) (named "x") (Initializer.Value (Expression.Prefixed 0 Dereference (variable "q")))) ▹
    (Statement.Return 0 (Some (Expression.Chain (Expression.Prefixed 0 Dereference (variable "q")) (MoreLinks Equal (Expression.Null 0) NoLinks)))) ▸
    NoItems)) ∷ []

fat_of_unique_read_runs : source fat_of_unique_read [] 0 ≡ gives (Called (codes "main") ∷ []) SourceEnding.Stuck
fat_of_unique_read_runs = refl

-- int main() { int *`U a[1]; int * *q = a; int *x = *q; return *q == NULL; }
abbrev thin_of_unique_read : Program
thin_of_unique_read =
    tree.FunctionItem (function (typed tree.Int []) (named "main") [] (
    (tree.Local (typed tree.Int ((pointer (Nullable 1) (Some (tree.Unique 0))) ∷ [])) (named "a") (Initializer.Elements 1)) ▹
    (tree.Local (typed tree.Int ((pointer (Nullable 1) None) ∷ (pointer (Nullable 1) None) ∷ [])) (named "q") (Initializer.Value (variable "a"))) ▹
    (tree.Local (typed tree.Int ((pointer (Nullable 1) None) ∷ [])) (named "x") (Initializer.Value (Expression.Prefixed 0 Dereference (variable "q")))) ▹
    (Statement.Return 0 (Some (Expression.Chain (Expression.Prefixed 0 Dereference (variable "q")) (MoreLinks Equal (Expression.Null 0) NoLinks)))) ▸
    NoItems)) ∷ []

thin_of_unique_read_runs : source thin_of_unique_read [] 0 ≡ gives (Called (codes "main") ∷ []) SourceEnding.Stuck
thin_of_unique_read_runs = refl

-- int main() { int *`U u; int * ? q = &u; int *x = *q; return *q == NULL; }
abbrev address_of_unique_read : Program
address_of_unique_read =
    tree.FunctionItem (function (typed tree.Int []) (named "main") [] (
    (tree.Local (typed tree.Int ((pointer (Nullable 1) (Some (tree.Unique 0))) ∷ [])) (named "u") Initializer.Unset) ▹
    (tree.Local (typed tree.Int ((pointer (Nullable 1) None) ∷ (pointer Fat None) ∷ [])) (named "q")
    (Initializer.Value (Expression.Prefixed 0 AddressOf (variable "u")))) ▹
    (tree.Local (typed tree.Int ((pointer (Nullable 1) None) ∷ [])) (named "x") (Initializer.Value (Expression.Prefixed 0 Dereference (variable "q")))) ▹
    (Statement.Return 0 (Some (Expression.Chain (Expression.Prefixed 0 Dereference (variable "q")) (MoreLinks Equal (Expression.Null 0) NoLinks)))) ▸
    NoItems)) ∷ []

address_of_unique_read_runs : source address_of_unique_read [] 0 ≡ gives (Called (codes "main") ∷ []) SourceEnding.Stuck
address_of_unique_read_runs = refl

-- int main() { int x = 1; int *p = &x; ufree(p); return 0; }
abbrev local_freed : Program
local_freed =
    tree.FunctionItem (function (typed tree.Int []) (named "main") [] (
    (tree.Local (typed tree.Int []) (named "x") (Initializer.Value (number 1))) ▹
    (tree.Local (typed tree.Int ((pointer (Nullable 1) None) ∷ [])) (named "p") (Initializer.Value (Expression.Prefixed 0 AddressOf (variable "x")))) ▹
    (Statement.FreeUnique 0 (named "p")) ▸
    (Statement.Return 0 (Some (number 0))) ▸
    NoItems)) ∷ []

local_freed_runs : source local_freed [] 0 ≡ gives (Called (codes "main") ∷ []) SourceEnding.Stuck
local_freed_runs = refl

-- int f(int x) { return 1; } int main() { return f(); }
abbrev argument_missing : Program
argument_missing =
    tree.FunctionItem (function (typed tree.Int []) (named "f") ((record { of = (typed tree.Int []); name = (named "x") }) ∷ []) (
    (Statement.Return 0 (Some (number 1))) ▸
    NoItems)) ∷
    tree.FunctionItem (function (typed tree.Int []) (named "main") [] (
    (Statement.Return 0 (Some (Expression.Call (named "f") NoExpressions))) ▸
    NoItems)) ∷ []

argument_missing_runs : source argument_missing [] 0 ≡ gives (Called (codes "main") ∷ []) SourceEnding.Stuck
argument_missing_runs = refl

-- int f(int x) { return 1; } int main() { return f(2, 3); }
abbrev argument_extra : Program
argument_extra =
    tree.FunctionItem (function (typed tree.Int []) (named "f") ((record { of = (typed tree.Int []); name = (named "x") }) ∷ []) (
    (Statement.Return 0 (Some (number 1))) ▸
    NoItems)) ∷
    tree.FunctionItem (function (typed tree.Int []) (named "main") [] (
    (Statement.Return 0 (Some (Expression.Call (named "f") (MoreExpressions (number 2) (MoreExpressions (number 3) NoExpressions))))) ▸
    NoItems)) ∷ []

argument_extra_runs : source argument_extra [] 0 ≡ gives (Called (codes "main") ∷ []) SourceEnding.Stuck
argument_extra_runs = refl

-- int main() { int y = 1; int *p = &y; { int x = 2; p = &x; } *p = 3; return 0; }
abbrev dead_local_written : Program
dead_local_written =
    tree.FunctionItem (function (typed tree.Int []) (named "main") [] (
    (tree.Local (typed tree.Int []) (named "y") (Initializer.Value (number 1))) ▹
    (tree.Local (typed tree.Int ((pointer (Nullable 1) None) ∷ [])) (named "p") (Initializer.Value (Expression.Prefixed 0 AddressOf (variable "y")))) ▹
    (Statement.Block 0 (
    (tree.Local (typed tree.Int []) (named "x") (Initializer.Value (number 2))) ▹
    (Statement.Run (Expression.Assign (variable "p") (Expression.Prefixed 0 AddressOf (variable "x")))) ▸
    NoItems)) ▸
    (Statement.Run (Expression.Assign (Expression.Prefixed 0 Dereference (variable "p")) (number 3))) ▸
    (Statement.Return 0 (Some (number 0))) ▸
    NoItems)) ∷ []

dead_local_written_runs : source dead_local_written [] 0 ≡ gives (Called (codes "main") ∷ []) SourceEnding.Stuck
dead_local_written_runs = refl

-- int main() { int @p = new 1; { region<`r> h; p = rnew(h) 2; } *p = 3; return 0; }
abbrev dead_object_written : Program
dead_object_written =
    tree.FunctionItem (function (typed tree.Int []) (named "main") [] (
    (tree.Local (typed tree.Int ((pointer (NotNull 1) None) ∷ [])) (named "p") (Initializer.Value (Expression.New 0 (One (number 1))))) ▹
    (Statement.Block 0 (
    (tree.Region 0 (tree.Named (named "r")) (named "h")) ▹
    (Statement.Run (Expression.Assign (variable "p") (Expression.NewIn 0 (variable "h") (One (number 2))))) ▸
    NoItems)) ▸
    (Statement.Run (Expression.Assign (Expression.Prefixed 0 Dereference (variable "p")) (number 3))) ▸
    (Statement.Return 0 (Some (number 0))) ▸
    NoItems)) ∷ []

dead_object_written_runs : source dead_object_written [] 0
    ≡ gives (Called (codes "main") ∷ Visible (RegionAlloc 0 4) ∷ Visible (RegionNew 1) ∷ Visible (RegionAlloc 1 4) ∷ Visible (RegionFree 1) ∷ [])
    SourceEnding.Stuck
dead_object_written_runs = refl

-- int main() { let NewDynamicRegion{<`r> k} = new_ukey(); region<`r> h = open(k); uregion_key_t<`r> j = k; return 0; }
abbrev lent_key_read : Program
lent_key_read =
    tree.FunctionItem (function (typed tree.Int []) (named "main") [] (
    (tree.NewKey 0 (tree.Named (named "r")) (named "k")) ▹
    (tree.Open 0 (tree.Named (named "r")) (named "h") (named "k")) ▹
    (tree.Local (typed (tree.Key (tree.Named (named "r"))) []) (named "j") (Initializer.Value (variable "k"))) ▹
    (Statement.Return 0 (Some (number 0))) ▸
    NoItems)) ∷ []

lent_key_read_runs : source lent_key_read [] 0 ≡ gives (Called (codes "main") ∷ Visible (KeyNew 1) ∷ Visible (KeyOpen 1) ∷ []) SourceEnding.Stuck
lent_key_read_runs = refl

-- int main() { let NewDynamicRegion{<`r> k} = new_ukey(); { let alias<`s> uregion_key_t<`r> x = k; free_ukey(x); } free_ukey(k); return 0; }
abbrev freed_key_freed : Program
freed_key_freed =
    tree.FunctionItem (function (typed tree.Int []) (named "main") [] (
    (tree.NewKey 0 (tree.Named (named "r")) (named "k")) ▹
    (Statement.Block 0 (
    (tree.Alias 0 (tree.Named (named "s")) (typed (tree.Key (tree.Named (named "r"))) []) (named "x") (named "k")) ▹
    (Statement.FreeKey 0 (named "x")) ▸
    NoItems)) ▸
    (Statement.FreeKey 0 (named "k")) ▸
    (Statement.Return 0 (Some (number 0))) ▸
    NoItems)) ∷ []

freed_key_freed_runs : source freed_key_freed [] 0 ≡ gives (Called (codes "main") ∷ Visible (KeyNew 1) ∷ Visible (KeyFree 1) ∷ []) SourceEnding.Stuck
freed_key_freed_runs = refl

-- int main() { let NewDynamicRegion{<`r> k} = new_ukey(); { let alias<`s> uregion_key_t<`r> x = k; free_ukey(x); } region<`r> h = open(k); return 0; }
abbrev freed_key_opened : Program
freed_key_opened =
    tree.FunctionItem (function (typed tree.Int []) (named "main") [] (
    (tree.NewKey 0 (tree.Named (named "r")) (named "k")) ▹
    (Statement.Block 0 (
    (tree.Alias 0 (tree.Named (named "s")) (typed (tree.Key (tree.Named (named "r"))) []) (named "x") (named "k")) ▹
    (Statement.FreeKey 0 (named "x")) ▸
    NoItems)) ▸
    (tree.Open 0 (tree.Named (named "r")) (named "h") (named "k")) ▹
    (Statement.Return 0 (Some (number 0))) ▸
    NoItems)) ∷ []

freed_key_opened_runs : source freed_key_opened [] 0 ≡ gives (Called (codes "main") ∷ Visible (KeyNew 1) ∷ Visible (KeyFree 1) ∷ []) SourceEnding.Stuck
freed_key_opened_runs = refl

-- int main() { let NewDynamicRegion{<`r> k} = new_ukey(); uregion_key_t<`r> j; { let alias<`s> uregion_key_t<`r> x = k; j = x; } region<`r> h = open(j);
-- free_ukey(k); return 0; }
abbrev open_key_freed : Program
open_key_freed =
    tree.FunctionItem (function (typed tree.Int []) (named "main") [] (
    (tree.NewKey 0 (tree.Named (named "r")) (named "k")) ▹
    (tree.Local (typed (tree.Key (tree.Named (named "r"))) []) (named "j") Initializer.Unset) ▹
    (Statement.Block 0 (
    (tree.Alias 0 (tree.Named (named "s")) (typed (tree.Key (tree.Named (named "r"))) []) (named "x") (named "k")) ▹
    (Statement.Run (Expression.Assign (variable "j") (variable "x"))) ▸
    NoItems)) ▸
    (tree.Open 0 (tree.Named (named "r")) (named "h") (named "j")) ▹
    (Statement.FreeKey 0 (named "k")) ▸
    (Statement.Return 0 (Some (number 0))) ▸
    NoItems)) ∷ []

open_key_freed_runs : source open_key_freed [] 0 ≡ gives (Called (codes "main") ∷ Visible (KeyNew 1) ∷ Visible (KeyOpen 1) ∷ []) SourceEnding.Stuck
open_key_freed_runs = refl

-- int main() { let NewDynamicRegion{<`r> k} = new_ukey(); uregion_key_t<`r> j; { let alias<`s> uregion_key_t<`r> x = k; j = x; } region<`r> h = open(j);
-- region<`r> g = open(k); return 0; }
abbrev open_key_opened : Program
open_key_opened =
    tree.FunctionItem (function (typed tree.Int []) (named "main") [] (
    (tree.NewKey 0 (tree.Named (named "r")) (named "k")) ▹
    (tree.Local (typed (tree.Key (tree.Named (named "r"))) []) (named "j") Initializer.Unset) ▹
    (Statement.Block 0 (
    (tree.Alias 0 (tree.Named (named "s")) (typed (tree.Key (tree.Named (named "r"))) []) (named "x") (named "k")) ▹
    (Statement.Run (Expression.Assign (variable "j") (variable "x"))) ▸
    NoItems)) ▸
    (tree.Open 0 (tree.Named (named "r")) (named "h") (named "j")) ▹
    (tree.Open 0 (tree.Named (named "r")) (named "g") (named "k")) ▹
    (Statement.Return 0 (Some (number 0))) ▸
    NoItems)) ∷ []

open_key_opened_runs : source open_key_opened [] 0 ≡ gives (Called (codes "main") ∷ Visible (KeyNew 1) ∷ Visible (KeyOpen 1) ∷ []) SourceEnding.Stuck
open_key_opened_runs = refl

-- int main() { let NewDynamicRegion{<`r> k} = new_ukey(); region_t<`H> x = heap_region; { region<`r> h = open(k); x = h; } return *rnew(x) 5; }
abbrev closed_region_asked : Program
closed_region_asked =
    tree.FunctionItem (function (typed tree.Int []) (named "main") [] (
    (tree.NewKey 0 (tree.Named (named "r")) (named "k")) ▹
    (tree.Local (typed (tree.Handle (tree.Heap 0)) []) (named "x") (Initializer.Value (Expression.HeapRegion 0))) ▹
    (Statement.Block 0 (
    (tree.Open 0 (tree.Named (named "r")) (named "h") (named "k")) ▹
    (Statement.Run (Expression.Assign (variable "x") (variable "h"))) ▸
    NoItems)) ▸
    (Statement.Return 0 (Some (Expression.Prefixed 0 Dereference (Expression.NewIn 0 (variable "x") (One (number 5)))))) ▸
    NoItems)) ∷ []

closed_region_asked_runs : source closed_region_asked [] 0 ≡ gives (Called (codes "main") ∷ Visible (KeyNew 1) ∷ Visible (KeyOpen 1) ∷ Visible (KeyClose 1)
    ∷ []) SourceEnding.Stuck
closed_region_asked_runs = refl

-- int main() { region<`r> h; int *`r p = rnew(h) 5; ufree(p); return 0; }
abbrev shared_freed : Program
shared_freed =
    tree.FunctionItem (function (typed tree.Int []) (named "main") [] (
    (tree.Region 0 (tree.Named (named "r")) (named "h")) ▹
    (tree.Local (typed tree.Int ((pointer (Nullable 1) (Some (tree.Named (named "r")))) ∷ [])) (named "p")
    (Initializer.Value (Expression.NewIn 0 (variable "h") (One (number 5))))) ▹
    (Statement.FreeUnique 0 (named "p")) ▸
    (Statement.Return 0 (Some (number 0))) ▸
    NoItems)) ∷ []

shared_freed_runs : source shared_freed [] 0 ≡ gives (Called (codes "main") ∷ Visible (RegionNew 1) ∷ Visible (RegionAlloc 1 4) ∷ []) SourceEnding.Stuck
shared_freed_runs = refl

-- int main() { let NewDynamicRegion{<`r> k} = new_ukey(); { region<`r> h = open(k); int *`r p = rnew(h) 5; ufree(p); } return 0; }
abbrev shared_freed_opened : Program
shared_freed_opened =
    tree.FunctionItem (function (typed tree.Int []) (named "main") [] (
    (tree.NewKey 0 (tree.Named (named "r")) (named "k")) ▹
    (Statement.Block 0 (
    (tree.Open 0 (tree.Named (named "r")) (named "h") (named "k")) ▹
    (tree.Local (typed tree.Int ((pointer (Nullable 1) (Some (tree.Named (named "r")))) ∷ [])) (named "p")
    (Initializer.Value (Expression.NewIn 0 (variable "h") (One (number 5))))) ▹
    (Statement.FreeUnique 0 (named "p")) ▸
    NoItems)) ▸
    (Statement.Return 0 (Some (number 0))) ▸
    NoItems)) ∷ []

shared_freed_opened_runs : source shared_freed_opened [] 0 ≡ gives (Called (codes "main") ∷ Visible (KeyNew 1) ∷ Visible (KeyOpen 1) ∷ Visible (RegionAlloc 1 4)
    ∷ []) SourceEnding.Stuck
shared_freed_opened_runs = refl

-- int main() { region<`r> h; int *`r p = rnew(h) 5; { let alias<`s> int *`s q = p; } return 0; }
abbrev shared_aliased : Program
shared_aliased =
    tree.FunctionItem (function (typed tree.Int []) (named "main") [] (
    (tree.Region 0 (tree.Named (named "r")) (named "h")) ▹
    (tree.Local (typed tree.Int ((pointer (Nullable 1) (Some (tree.Named (named "r")))) ∷ [])) (named "p")
    (Initializer.Value (Expression.NewIn 0 (variable "h") (One (number 5))))) ▹
    (Statement.Block 0 (
    (tree.Alias 0 (tree.Named (named "s")) (typed tree.Int ((pointer (Nullable 1) (Some (tree.Named (named "s")))) ∷ [])) (named "q") (named "p")) ▹
    NoItems)) ▸
    (Statement.Return 0 (Some (number 0))) ▸
    NoItems)) ∷ []

shared_aliased_runs : source shared_aliased [] 0 ≡ gives (Called (codes "main") ∷ Visible (RegionNew 1) ∷ Visible (RegionAlloc 1 4) ∷ []) SourceEnding.Stuck
shared_aliased_runs = refl

-- what isn't live is neither freed nor closed
dead_freed : (r : ℕ) (next : Unit {0} → Memory → Step) (m : Memory) → is_live m (Born r) ≡ false → region_freed r next m ≡ Stops SourceEnding.Stuck
dead_freed r next m dead = rw dead refl

dead_closed : (r : ℕ) (next : Unit {0} → Memory → Step) (m : Memory) → is_live m (Born r) ≡ false → key_closed r next m ≡ Stops SourceEnding.Stuck
dead_closed r next m dead = rw dead refl
