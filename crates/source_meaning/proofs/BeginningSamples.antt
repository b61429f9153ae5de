-- What small programs do, computed: what a local begins with, unique pointers and their aliases
use Rattle.std.proofs.Common.{◌≡◌, Some, None, [], ◌∷◌, refl}
use Rattle.std.specs.Prelude.{codes}
use Rattle.cyc_tree.specs.declared.name.Sign.TheVariants.{Nullable, Fat}
use Rattle.cyc_tree.specs.declared.expression.Operator.TheVariants.{Equal, Less, Add, Subtract, Multiply}
use Rattle.cyc_tree.specs.declared.expression.Prefix.TheVariants.{Dereference}
use Rattle.cyc_tree.specs.Tree as tree
use Rattle.cyc_tree.specs.Tree.{Expression, NoExpressions, MoreExpressions, NoLinks, MoreLinks, NoSuffixes, Index, Dot, One, Initializer, Statement, NoItems}
use Rattle.cyc_tree.specs.Tree.{Program}
use Rattle.cyc_words.specs.Events.{ByteWritten, UniqueAlloc, UniqueFree, Visible, Called, Returned, SourceEnding}
use Rattle.source_meaning.specs.Programs.{source}
use Rattle.source_meaning.proofs.Trees.{named, variable, number, pointer, typed, ◌▸◌, ◌▹◌, function, gives}

-- int main() { int n; unsigned u; char c; putchar(n); putchar(u); putchar(c); return (n - 1 < 0) + (u - 1 < 0) * 2 + (c - 1 < 0) * 4; }
abbrev integers_begin : Program
integers_begin =
    tree.FunctionItem (function (typed tree.Int []) (named "main") [] (
    (tree.Local (typed tree.Int []) (named "n") Initializer.Unset) ▹
    (tree.Local (typed tree.Unsigned []) (named "u") Initializer.Unset) ▹
    (tree.Local (typed tree.Char []) (named "c") Initializer.Unset) ▹
    (Statement.Run (Expression.Call (named "putchar") (MoreExpressions (variable "n") NoExpressions))) ▸
    (Statement.Run (Expression.Call (named "putchar") (MoreExpressions (variable "u") NoExpressions))) ▸
    (Statement.Run (Expression.Call (named "putchar") (MoreExpressions (variable "c") NoExpressions))) ▸
    (Statement.Return 0 (Some (Expression.Chain
    (Expression.Grouped 0 (Expression.Chain (Expression.Chain (variable "n") (MoreLinks Subtract (number 1) NoLinks)) (MoreLinks Less (number 0) NoLinks)))
    (MoreLinks Add (Expression.Chain
    (Expression.Grouped 0 (Expression.Chain (Expression.Chain (variable "u") (MoreLinks Subtract (number 1) NoLinks)) (MoreLinks Less (number 0) NoLinks)))
    (MoreLinks Multiply (number 2) NoLinks))
    (MoreLinks Add (Expression.Chain
    (Expression.Grouped 0 (Expression.Chain (Expression.Chain (variable "c") (MoreLinks Subtract (number 1) NoLinks)) (MoreLinks Less (number 0) NoLinks)))
    (MoreLinks Multiply (number 4) NoLinks)) NoLinks))))) ▸
    NoItems)) ∷ []

integers_begin_runs : source integers_begin [] 3 ≡ gives (Called (codes "main") ∷ Visible (ByteWritten 0) ∷ Visible (ByteWritten 0) ∷ Visible (ByteWritten 0)
    ∷ Returned (codes "main") ∷ []) (SourceEnding.Ended 5)
integers_begin_runs = refl

-- struct P { int x; char ? s; }; int main() { int *p; int ? q; struct P *r; struct P ? t; int *`U u; return (p == NULL) + (q == NULL) * 2 + (r == NULL) * 4 +
-- (t == NULL) * 8 + (u == NULL) * 16 + numelts(q); }
abbrev pointers_begin : Program
pointers_begin =
    tree.StructItem (record {
      at = 0;
      tag = (named "P");
      regions = [];
      members = ((record { of = (typed tree.Int []); name = (named "x") })
          ∷ (record { of = (typed tree.Char ((pointer Fat None) ∷ [])); name = (named "s") }) ∷ []);
    }) ∷
    tree.FunctionItem (function (typed tree.Int []) (named "main") [] (
    (tree.Local (typed tree.Int ((pointer (Nullable 1) None) ∷ [])) (named "p") Initializer.Unset) ▹
    (tree.Local (typed tree.Int ((pointer Fat None) ∷ [])) (named "q") Initializer.Unset) ▹
    (tree.Local (typed (tree.Struct (named "P") []) ((pointer (Nullable 1) None) ∷ [])) (named "r") Initializer.Unset) ▹
    (tree.Local (typed (tree.Struct (named "P") []) ((pointer Fat None) ∷ [])) (named "t") Initializer.Unset) ▹
    (tree.Local (typed tree.Int ((pointer (Nullable 1) (Some (tree.Unique 0))) ∷ [])) (named "u") Initializer.Unset) ▹
    (Statement.Return 0 (Some (Expression.Chain (Expression.Grouped 0 (Expression.Chain (variable "p") (MoreLinks Equal (Expression.Null 0) NoLinks)))
    (MoreLinks Add (Expression.Chain (Expression.Grouped 0 (Expression.Chain (variable "q") (MoreLinks Equal (Expression.Null 0) NoLinks)))
    (MoreLinks Multiply (number 2) NoLinks))
    (MoreLinks Add (Expression.Chain (Expression.Grouped 0 (Expression.Chain (variable "r") (MoreLinks Equal (Expression.Null 0) NoLinks)))
    (MoreLinks Multiply (number 4) NoLinks))
    (MoreLinks Add (Expression.Chain (Expression.Grouped 0 (Expression.Chain (variable "t") (MoreLinks Equal (Expression.Null 0) NoLinks)))
    (MoreLinks Multiply (number 8) NoLinks))
    (MoreLinks Add (Expression.Chain (Expression.Grouped 0 (Expression.Chain (variable "u") (MoreLinks Equal (Expression.Null 0) NoLinks)))
    (MoreLinks Multiply (number 16) NoLinks)) (MoreLinks Add (Expression.NumElts 0 (variable "q")) NoLinks)))))))) ▸
    NoItems)) ∷ []

pointers_begin_runs : source pointers_begin [] 0 ≡ gives (Called (codes "main") ∷ Returned (codes "main") ∷ []) (SourceEnding.Ended 31)
pointers_begin_runs = refl

-- int main() { int a[2]; char c[2]; int *p[2]; unsigned ? q[1]; return a[0] + a[1] + c[1] + (p[1] == NULL) + (q[0] == NULL) * 2 + numelts(p) * 4; }
abbrev arrays_begin : Program
arrays_begin =
    tree.FunctionItem (function (typed tree.Int []) (named "main") [] (
    (tree.Local (typed tree.Int []) (named "a") (Initializer.Elements 2)) ▹
    (tree.Local (typed tree.Char []) (named "c") (Initializer.Elements 2)) ▹
    (tree.Local (typed tree.Int ((pointer (Nullable 1) None) ∷ [])) (named "p") (Initializer.Elements 2)) ▹
    (tree.Local (typed tree.Unsigned ((pointer Fat None) ∷ [])) (named "q") (Initializer.Elements 1)) ▹
    (Statement.Return 0 (Some (Expression.Chain (Expression.Suffixed (variable "a") (Index (number 0) NoSuffixes))
    (MoreLinks Add (Expression.Suffixed (variable "a") (Index (number 1) NoSuffixes))
    (MoreLinks Add (Expression.Suffixed (variable "c") (Index (number 1) NoSuffixes))
    (MoreLinks Add (Expression.Grouped 0
    (Expression.Chain (Expression.Suffixed (variable "p") (Index (number 1) NoSuffixes)) (MoreLinks Equal (Expression.Null 0) NoLinks)))
    (MoreLinks Add (Expression.Chain
    (Expression.Grouped 0 (Expression.Chain (Expression.Suffixed (variable "q") (Index (number 0) NoSuffixes))
    (MoreLinks Equal (Expression.Null 0) NoLinks))) (MoreLinks Multiply (number 2) NoLinks))
    (MoreLinks Add (Expression.Chain (Expression.NumElts 0 (variable "p")) (MoreLinks Multiply (number 4) NoLinks)) NoLinks)))))))) ▸
    NoItems)) ∷ []

arrays_begin_runs : source arrays_begin [] 0 ≡ gives (Called (codes "main") ∷ Returned (codes "main") ∷ []) (SourceEnding.Ended 11)
arrays_begin_runs = refl

-- struct I { char c; int ? q; }; struct P { int x; struct I i; int *p; }; int main() { struct P a; struct P b[2]; return a.x + a.i.c + (a.i.q == NULL) + (a.p
-- == NULL) * 2 + b[1].i.c + (b[1].i.q == NULL) * 4 + (b[1].p == NULL) * 8; }
abbrev structs_begin : Program
structs_begin =
    tree.StructItem (record {
      at = 0;
      tag = (named "I");
      regions = [];
      members = ((record { of = (typed tree.Char []); name = (named "c") })
          ∷ (record { of = (typed tree.Int ((pointer Fat None) ∷ [])); name = (named "q") }) ∷ []);
    }) ∷
    tree.StructItem (record {
      at = 0;
      tag = (named "P");
      regions = [];
      members = ((record { of = (typed tree.Int []); name = (named "x") }) ∷ (record { of = (typed (tree.Struct (named "I") []) []); name = (named "i") })
          ∷ (record { of = (typed tree.Int ((pointer (Nullable 1) None) ∷ [])); name = (named "p") }) ∷ []);
    }) ∷
    tree.FunctionItem (function (typed tree.Int []) (named "main") [] (
    (tree.Local (typed (tree.Struct (named "P") []) []) (named "a") Initializer.Unset) ▹
    (tree.Local (typed (tree.Struct (named "P") []) []) (named "b") (Initializer.Elements 2)) ▹
    (Statement.Return 0 (Some (Expression.Chain (Expression.Suffixed (variable "a") (Dot (named "x") NoSuffixes))
    (MoreLinks Add (Expression.Suffixed (variable "a") (Dot (named "i") (Dot (named "c") NoSuffixes)))
    (MoreLinks Add (Expression.Grouped 0 (Expression.Chain (Expression.Suffixed (variable "a") (Dot (named "i") (Dot (named "q") NoSuffixes)))
    (MoreLinks Equal (Expression.Null 0) NoLinks)))
    (MoreLinks Add (Expression.Chain
    (Expression.Grouped 0 (Expression.Chain (Expression.Suffixed (variable "a") (Dot (named "p") NoSuffixes))
    (MoreLinks Equal (Expression.Null 0) NoLinks))) (MoreLinks Multiply (number 2) NoLinks))
    (MoreLinks Add (Expression.Suffixed (variable "b") (Index (number 1) (Dot (named "i") (Dot (named "c") NoSuffixes))))
    (MoreLinks Add (Expression.Chain
    (Expression.Grouped 0 (Expression.Chain (Expression.Suffixed (variable "b") (Index (number 1) (Dot (named "i") (Dot (named "q") NoSuffixes))))
    (MoreLinks Equal (Expression.Null 0) NoLinks))) (MoreLinks Multiply (number 4) NoLinks))
    (MoreLinks Add (Expression.Chain
    (Expression.Grouped 0 (Expression.Chain (Expression.Suffixed (variable "b") (Index (number 1) (Dot (named "p") NoSuffixes)))
    (MoreLinks Equal (Expression.Null 0) NoLinks))) (MoreLinks Multiply (number 8) NoLinks)) NoLinks))))))))) ▸
    NoItems)) ∷ []

structs_begin_runs : source structs_begin [] 0 ≡ gives (Called (codes "main") ∷ Returned (codes "main") ∷ []) (SourceEnding.Ended 15)
structs_begin_runs = refl

-- int main() { int i = 0; int s = 3; while (i < 2) { int n; int a[1]; s = s + n + a[0]; n = 5; a[0] = 6; i = i + 1; } return s; }
abbrev each_turn_begins : Program
each_turn_begins =
    tree.FunctionItem (function (typed tree.Int []) (named "main") [] (
    (tree.Local (typed tree.Int []) (named "i") (Initializer.Value (number 0))) ▹
    (tree.Local (typed tree.Int []) (named "s") (Initializer.Value (number 3))) ▹
    (Statement.While 0 (Expression.Chain (variable "i") (MoreLinks Less (number 2) NoLinks)) (Statement.Block 0 (
    (tree.Local (typed tree.Int []) (named "n") Initializer.Unset) ▹
    (tree.Local (typed tree.Int []) (named "a") (Initializer.Elements 1)) ▹
    (Statement.Run (Expression.Assign (variable "s")
    (Expression.Chain (variable "s")
    (MoreLinks Add (variable "n") (MoreLinks Add (Expression.Suffixed (variable "a") (Index (number 0) NoSuffixes)) NoLinks))))) ▸
    (Statement.Run (Expression.Assign (variable "n") (number 5))) ▸
    (Statement.Run (Expression.Assign (Expression.Suffixed (variable "a") (Index (number 0) NoSuffixes)) (number 6))) ▸
    (Statement.Run (Expression.Assign (variable "i") (Expression.Chain (variable "i") (MoreLinks Add (number 1) NoLinks)))) ▸
    NoItems))) ▸
    (Statement.Return 0 (Some (variable "s"))) ▸
    NoItems)) ∷ []

each_turn_begins_runs : source each_turn_begins [] 2 ≡ gives (Called (codes "main") ∷ Returned (codes "main") ∷ []) (SourceEnding.Ended 3)
each_turn_begins_runs = refl

-- int main() { int *`U p = rnew((unique_region)) 3; int r = *p; ufree(p); return r; }
abbrev unique_in_parentheses : Program
unique_in_parentheses =
    tree.FunctionItem (function (typed tree.Int []) (named "main") [] (
    (tree.Local (typed tree.Int ((pointer (Nullable 1) (Some (tree.Unique 0))) ∷ [])) (named "p")
    (Initializer.Value (Expression.NewIn 0 (Expression.Grouped 0 (Expression.UniqueRegion 0)) (One (number 3))))) ▹
    (tree.Local (typed tree.Int []) (named "r") (Initializer.Value (Expression.Prefixed 0 Dereference (variable "p")))) ▹
    (Statement.FreeUnique 0 (named "p")) ▸
    (Statement.Return 0 (Some (variable "r"))) ▸
    NoItems)) ∷ []

unique_in_parentheses_runs : source unique_in_parentheses [] 0
    ≡ gives (Called (codes "main") ∷ Visible (UniqueAlloc 1 4) ∷ Visible (UniqueFree 1) ∷ Returned (codes "main") ∷ []) (SourceEnding.Ended 3)
unique_in_parentheses_runs = refl

-- int main() { int *`U p = NULL; { let alias<`r> int *`r x = p; if (x == NULL) putchar(65); } ufree(p); return 0; }
abbrev alias_of_null : Program
alias_of_null =
    tree.FunctionItem (function (typed tree.Int []) (named "main") [] (
    (tree.Local (typed tree.Int ((pointer (Nullable 1) (Some (tree.Unique 0))) ∷ [])) (named "p") (Initializer.Value (Expression.Null 0))) ▹
    (Statement.Block 0 (
    (tree.Alias 0 (tree.Named (named "r")) (typed tree.Int ((pointer (Nullable 1) (Some (tree.Named (named "r")))) ∷ [])) (named "x") (named "p")) ▹
    (Statement.If 0 (Expression.Chain (variable "x") (MoreLinks Equal (Expression.Null 0) NoLinks))
    (Statement.Run (Expression.Call (named "putchar") (MoreExpressions (number 65) NoExpressions)))) ▸
    NoItems)) ▸
    (Statement.FreeUnique 0 (named "p")) ▸
    (Statement.Return 0 (Some (number 0))) ▸
    NoItems)) ∷ []

alias_of_null_runs : source alias_of_null [] 1 ≡ gives (Called (codes "main") ∷ Visible (ByteWritten 65) ∷ Returned (codes "main") ∷ []) (SourceEnding.Ended 0)
alias_of_null_runs = refl

-- int main() { int *`U p = rnew(unique_region) 0; int i = 0; while (i < 2) { i = i + 1; let alias<`r> int *`r x = p; *x = *x + i; continue; } int r = *p;
-- ufree(p); return r; }
abbrev alias_continued : Program
alias_continued =
    tree.FunctionItem (function (typed tree.Int []) (named "main") [] (
    (tree.Local (typed tree.Int ((pointer (Nullable 1) (Some (tree.Unique 0))) ∷ [])) (named "p")
    (Initializer.Value (Expression.NewIn 0 (Expression.UniqueRegion 0) (One (number 0))))) ▹
    (tree.Local (typed tree.Int []) (named "i") (Initializer.Value (number 0))) ▹
    (Statement.While 0 (Expression.Chain (variable "i") (MoreLinks Less (number 2) NoLinks)) (Statement.Block 0 (
    (Statement.Run (Expression.Assign (variable "i") (Expression.Chain (variable "i") (MoreLinks Add (number 1) NoLinks)))) ▸
    (tree.Alias 0 (tree.Named (named "r")) (typed tree.Int ((pointer (Nullable 1) (Some (tree.Named (named "r")))) ∷ [])) (named "x") (named "p")) ▹
    (Statement.Run (Expression.Assign (Expression.Prefixed 0 Dereference (variable "x"))
    (Expression.Chain (Expression.Prefixed 0 Dereference (variable "x")) (MoreLinks Add (variable "i") NoLinks)))) ▸
    (Statement.Continue 0) ▸
    NoItems))) ▸
    (tree.Local (typed tree.Int []) (named "r") (Initializer.Value (Expression.Prefixed 0 Dereference (variable "p")))) ▹
    (Statement.FreeUnique 0 (named "p")) ▸
    (Statement.Return 0 (Some (variable "r"))) ▸
    NoItems)) ∷ []

alias_continued_runs : source alias_continued [] 2 ≡ gives (Called (codes "main") ∷ Visible (UniqueAlloc 1 4) ∷ Visible (UniqueFree 1) ∷ Returned (codes "main")
    ∷ []) (SourceEnding.Ended 3)
alias_continued_runs = refl

-- int main() { int *`U p = rnew(unique_region) 1; p = rnew(unique_region) 2; int r = *p; ufree(p); return r; }
abbrev unique_overwritten : Program
unique_overwritten =
    tree.FunctionItem (function (typed tree.Int []) (named "main") [] (
    (tree.Local (typed tree.Int ((pointer (Nullable 1) (Some (tree.Unique 0))) ∷ [])) (named "p")
    (Initializer.Value (Expression.NewIn 0 (Expression.UniqueRegion 0) (One (number 1))))) ▹
    (Statement.Run (Expression.Assign (variable "p") (Expression.NewIn 0 (Expression.UniqueRegion 0) (One (number 2))))) ▸
    (tree.Local (typed tree.Int []) (named "r") (Initializer.Value (Expression.Prefixed 0 Dereference (variable "p")))) ▹
    (Statement.FreeUnique 0 (named "p")) ▸
    (Statement.Return 0 (Some (variable "r"))) ▸
    NoItems)) ∷ []

unique_overwritten_runs : source unique_overwritten [] 0 ≡ gives (Called (codes "main") ∷ Visible (UniqueAlloc 1 4) ∷ Visible (UniqueAlloc 2 4)
    ∷ Visible (UniqueFree 2) ∷ Returned (codes "main") ∷ []) (SourceEnding.Ended 2)
unique_overwritten_runs = refl
