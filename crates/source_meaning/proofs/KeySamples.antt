-- What small programs do, computed: keys and dynamic regions
use Rattle.std.proofs.Common.{◌≡◌, Some, None, [], ◌∷◌, refl}
use Rattle.std.specs.Prelude.{codes}
use Rattle.cyc_tree.specs.declared.name.Sign.TheVariants.{Nullable}
use Rattle.cyc_tree.specs.declared.expression.Operator.TheVariants.{Equal}
use Rattle.cyc_tree.specs.declared.expression.Prefix.TheVariants.{Dereference}
use Rattle.cyc_tree.specs.Tree as tree
use Rattle.cyc_tree.specs.Tree.{Expression, NoExpressions, MoreExpressions, NoLinks, MoreLinks, NoSuffixes, Index, Dot, Arrow, One, Array, Initializer, Case}
use Rattle.cyc_tree.specs.Tree.{Default, Statement, NoItems, NoClauses, MoreClauses, Constant, Initial, Program}
use Rattle.cyc_words.specs.declared.faults.Kind.TheVariants.{NullException}
use Rattle.cyc_words.specs.Events.{ByteWritten, RegionNew, RegionAlloc, RegionFree, KeyNew, KeyOpen, KeyClose, KeyFree, Visible, Called, Returned, SourceEnding}
use Rattle.source_meaning.specs.Programs.{source}
use Rattle.source_meaning.proofs.Trees.{named, variable, number, pointer, typed, ◌▸◌, ◌▹◌, function, gives}

-- int main() { let NewDynamicRegion{<`r> k} = new_ukey(); int *`r p = NULL; { region<`r> h = open(k); p = rnew(h) 5; } free_ukey(k); int *`r q = new 6; if (q
-- == NULL) return 1; return 0; }
abbrev key_opened_and_freed : Program
key_opened_and_freed =
    tree.FunctionItem (function (typed tree.Int []) (named "main") [] (
    (tree.NewKey 0 (tree.Named (named "r")) (named "k")) ▹
    (tree.Local (typed tree.Int ((pointer (Nullable 1) (Some (tree.Named (named "r")))) ∷ [])) (named "p") (Initializer.Value (Expression.Null 0))) ▹
    (Statement.Block 0 (
    (tree.Open 0 (tree.Named (named "r")) (named "h") (named "k")) ▹
    (Statement.Run (Expression.Assign (variable "p") (Expression.NewIn 0 (variable "h") (One (number 5))))) ▸
    NoItems)) ▸
    (Statement.FreeKey 0 (named "k")) ▸
    (tree.Local (typed tree.Int ((pointer (Nullable 1) (Some (tree.Named (named "r")))) ∷ [])) (named "q")
    (Initializer.Value (Expression.New 0 (One (number 6))))) ▹
    (Statement.If 0 (Expression.Chain (variable "q") (MoreLinks Equal (Expression.Null 0) NoLinks)) (Statement.Return 0 (Some (number 1)))) ▸
    (Statement.Return 0 (Some (number 0))) ▸
    NoItems)) ∷ []

key_opened_and_freed_runs : source key_opened_and_freed [] 0
    ≡ gives (Called (codes "main") ∷ Visible (KeyNew 1) ∷ Visible (KeyOpen 1) ∷ Visible (RegionAlloc 1 4) ∷ Visible (KeyClose 1) ∷ Visible (KeyFree 1)
    ∷ Visible (RegionAlloc 0 4) ∷ Returned (codes "main") ∷ []) (SourceEnding.Ended 0)
key_opened_and_freed_runs = refl

-- int main() { let NewDynamicRegion{<`r> k} = new_ukey(); int *`r p = NULL; { region<`r> h = open(k); p = rnew(h) 5; } free_ukey(k); int *`r q = new 6; if (q
-- == NULL) return 1; if (q == p) return 2; return 0; }
abbrev key_dead_comparison : Program
key_dead_comparison =
    tree.FunctionItem (function (typed tree.Int []) (named "main") [] (
    (tree.NewKey 0 (tree.Named (named "r")) (named "k")) ▹
    (tree.Local (typed tree.Int ((pointer (Nullable 1) (Some (tree.Named (named "r")))) ∷ [])) (named "p") (Initializer.Value (Expression.Null 0))) ▹
    (Statement.Block 0 (
    (tree.Open 0 (tree.Named (named "r")) (named "h") (named "k")) ▹
    (Statement.Run (Expression.Assign (variable "p") (Expression.NewIn 0 (variable "h") (One (number 5))))) ▸
    NoItems)) ▸
    (Statement.FreeKey 0 (named "k")) ▸
    (tree.Local (typed tree.Int ((pointer (Nullable 1) (Some (tree.Named (named "r")))) ∷ [])) (named "q")
    (Initializer.Value (Expression.New 0 (One (number 6))))) ▹
    (Statement.If 0 (Expression.Chain (variable "q") (MoreLinks Equal (Expression.Null 0) NoLinks)) (Statement.Return 0 (Some (number 1)))) ▸
    (Statement.If 0 (Expression.Chain (variable "q") (MoreLinks Equal (variable "p") NoLinks)) (Statement.Return 0 (Some (number 2)))) ▸
    (Statement.Return 0 (Some (number 0))) ▸
    NoItems)) ∷ []

key_dead_comparison_runs : source key_dead_comparison [] 0 ≡ gives (Called (codes "main") ∷ Visible (KeyNew 1) ∷ Visible (KeyOpen 1) ∷ Visible (RegionAlloc 1 4)
    ∷ Visible (KeyClose 1) ∷ Visible (KeyFree 1) ∷ Visible (RegionAlloc 0 4) ∷ []) SourceEnding.Stuck
key_dead_comparison_runs = refl

-- int main() { let NewDynamicRegion{<`r> k} = new_ukey(); { region<`r> h = open(k); free_ukey(k); } return 0; }
abbrev key_lent : Program
key_lent =
    tree.FunctionItem (function (typed tree.Int []) (named "main") [] (
    (tree.NewKey 0 (tree.Named (named "r")) (named "k")) ▹
    (Statement.Block 0 (
    (tree.Open 0 (tree.Named (named "r")) (named "h") (named "k")) ▹
    (Statement.FreeKey 0 (named "k")) ▸
    NoItems)) ▸
    (Statement.Return 0 (Some (number 0))) ▸
    NoItems)) ∷ []

key_lent_runs : source key_lent [] 0 ≡ gives (Called (codes "main") ∷ Visible (KeyNew 1) ∷ Visible (KeyOpen 1) ∷ []) SourceEnding.Stuck
key_lent_runs = refl

-- int main() { let NewDynamicRegion{<`r> k} = new_ukey(); { region<`r> h = open(k); int *`r p = rnew(h) 1; } free_ukey(k); region<`s> g; putchar(46); return 0;
-- }
abbrev key_then_region : Program
key_then_region =
    tree.FunctionItem (function (typed tree.Int []) (named "main") [] (
    (tree.NewKey 0 (tree.Named (named "r")) (named "k")) ▹
    (Statement.Block 0 (
    (tree.Open 0 (tree.Named (named "r")) (named "h") (named "k")) ▹
    (tree.Local (typed tree.Int ((pointer (Nullable 1) (Some (tree.Named (named "r")))) ∷ [])) (named "p")
    (Initializer.Value (Expression.NewIn 0 (variable "h") (One (number 1))))) ▹
    NoItems)) ▸
    (Statement.FreeKey 0 (named "k")) ▸
    (tree.Region 0 (tree.Named (named "s")) (named "g")) ▹
    (Statement.Run (Expression.Call (named "putchar") (MoreExpressions (number 46) NoExpressions))) ▸
    (Statement.Return 0 (Some (number 0))) ▸
    NoItems)) ∷ []

key_then_region_runs : source key_then_region [] 1 ≡ gives (Called (codes "main") ∷ Visible (KeyNew 1) ∷ Visible (KeyOpen 1) ∷ Visible (RegionAlloc 1 4)
    ∷ Visible (KeyClose 1) ∷ Visible (KeyFree 1) ∷ Visible (RegionNew 2) ∷ Visible (ByteWritten 46) ∷ Visible (RegionFree 2) ∷ Returned (codes "main") ∷ [])
    (SourceEnding.Ended 0)
key_then_region_runs = refl

-- uregion_key_t<`a> g(uregion_key_t<`a> k) { return k; } int main() { let NewDynamicRegion{<`r> k} = new_ukey(); int *`r p = NULL; { region<`r> h = open(k); p
-- = rnew(h) 5; } uregion_key_t<`r> j = g(k); region<`r> h = open(j); return *p; }
abbrev key_reopened : Program
key_reopened =
    tree.FunctionItem (function (typed (tree.Key (tree.Named (named "a"))) []) (named "g")
    ((record { of = (typed (tree.Key (tree.Named (named "a"))) []); name = (named "k") }) ∷ []) (
    (Statement.Return 0 (Some (variable "k"))) ▸
    NoItems)) ∷
    tree.FunctionItem (function (typed tree.Int []) (named "main") [] (
    (tree.NewKey 0 (tree.Named (named "r")) (named "k")) ▹
    (tree.Local (typed tree.Int ((pointer (Nullable 1) (Some (tree.Named (named "r")))) ∷ [])) (named "p") (Initializer.Value (Expression.Null 0))) ▹
    (Statement.Block 0 (
    (tree.Open 0 (tree.Named (named "r")) (named "h") (named "k")) ▹
    (Statement.Run (Expression.Assign (variable "p") (Expression.NewIn 0 (variable "h") (One (number 5))))) ▸
    NoItems)) ▸
    (tree.Local (typed (tree.Key (tree.Named (named "r"))) []) (named "j")
    (Initializer.Value (Expression.Call (named "g") (MoreExpressions (variable "k") NoExpressions)))) ▹
    (tree.Open 0 (tree.Named (named "r")) (named "h") (named "j")) ▹
    (Statement.Return 0 (Some (Expression.Prefixed 0 Dereference (variable "p")))) ▸
    NoItems)) ∷ []

key_reopened_runs : source key_reopened [] 1 ≡ gives (Called (codes "main") ∷ Visible (KeyNew 1) ∷ Visible (KeyOpen 1) ∷ Visible (RegionAlloc 1 4)
    ∷ Visible (KeyClose 1) ∷ Called (codes "g") ∷ Returned (codes "g") ∷ Visible (KeyOpen 1) ∷ Visible (KeyClose 1) ∷ Returned (codes "main") ∷ [])
    (SourceEnding.Ended 5)
key_reopened_runs = refl

-- int main() { let NewDynamicRegion{<`r> k} = new_ukey(); int *`r p = NULL; { region<`r> h = open(k); p = rnew(h) 5; } return *p; }
abbrev key_closed_read : Program
key_closed_read =
    tree.FunctionItem (function (typed tree.Int []) (named "main") [] (
    (tree.NewKey 0 (tree.Named (named "r")) (named "k")) ▹
    (tree.Local (typed tree.Int ((pointer (Nullable 1) (Some (tree.Named (named "r")))) ∷ [])) (named "p") (Initializer.Value (Expression.Null 0))) ▹
    (Statement.Block 0 (
    (tree.Open 0 (tree.Named (named "r")) (named "h") (named "k")) ▹
    (Statement.Run (Expression.Assign (variable "p") (Expression.NewIn 0 (variable "h") (One (number 5))))) ▸
    NoItems)) ▸
    (Statement.Return 0 (Some (Expression.Prefixed 0 Dereference (variable "p")))) ▸
    NoItems)) ∷ []

key_closed_read_runs : source key_closed_read [] 0 ≡ gives (Called (codes "main") ∷ Visible (KeyNew 1) ∷ Visible (KeyOpen 1) ∷ Visible (RegionAlloc 1 4)
    ∷ Visible (KeyClose 1) ∷ []) SourceEnding.Stuck
key_closed_read_runs = refl

-- int f() { let NewDynamicRegion{<`r> k} = new_ukey(); region<`r> h = open(k); region<`s> g; return 3; } int main() { return f(); }
abbrev return_closes : Program
return_closes =
    tree.FunctionItem (function (typed tree.Int []) (named "f") [] (
    (tree.NewKey 0 (tree.Named (named "r")) (named "k")) ▹
    (tree.Open 0 (tree.Named (named "r")) (named "h") (named "k")) ▹
    (tree.Region 0 (tree.Named (named "s")) (named "g")) ▹
    (Statement.Return 0 (Some (number 3))) ▸
    NoItems)) ∷
    tree.FunctionItem (function (typed tree.Int []) (named "main") [] (
    (Statement.Return 0 (Some (Expression.Call (named "f") NoExpressions))) ▸
    NoItems)) ∷ []

return_closes_runs : source return_closes [] 1 ≡ gives (Called (codes "main") ∷ Called (codes "f") ∷ Visible (KeyNew 1) ∷ Visible (KeyOpen 1)
    ∷ Visible (RegionNew 2) ∷ Visible (RegionFree 2) ∷ Visible (KeyClose 1) ∷ Returned (codes "f") ∷ Returned (codes "main") ∷ []) (SourceEnding.Ended 3)
return_closes_runs = refl

-- int main() { let NewDynamicRegion{<`r> k} = new_ukey(); region<`r> h = open(k); int *p = NULL; return *p; }
abbrev raise_closes_nothing : Program
raise_closes_nothing =
    tree.FunctionItem (function (typed tree.Int []) (named "main") [] (
    (tree.NewKey 0 (tree.Named (named "r")) (named "k")) ▹
    (tree.Open 0 (tree.Named (named "r")) (named "h") (named "k")) ▹
    (tree.Local (typed tree.Int ((pointer (Nullable 1) None) ∷ [])) (named "p") (Initializer.Value (Expression.Null 0))) ▹
    (Statement.Return 0 (Some (Expression.Prefixed 0 Dereference (variable "p")))) ▸
    NoItems)) ∷ []

raise_closes_nothing_runs : source raise_closes_nothing [] 0 ≡ gives (Called (codes "main") ∷ Visible (KeyNew 1) ∷ Visible (KeyOpen 1) ∷ [])
    (SourceEnding.Raised NullException)
raise_closes_nothing_runs = refl

-- int g(uregion_key_t<`a> k) { free_ukey(k); return 0; } int main() { let NewDynamicRegion{<`r> k} = new_ukey(); g(k); return 0; }
abbrev key_given_away : Program
key_given_away =
    tree.FunctionItem (function (typed tree.Int []) (named "g") ((record { of = (typed (tree.Key (tree.Named (named "a"))) []); name = (named "k") }) ∷ []) (
    (Statement.FreeKey 0 (named "k")) ▸
    (Statement.Return 0 (Some (number 0))) ▸
    NoItems)) ∷
    tree.FunctionItem (function (typed tree.Int []) (named "main") [] (
    (tree.NewKey 0 (tree.Named (named "r")) (named "k")) ▹
    (Statement.Run (Expression.Call (named "g") (MoreExpressions (variable "k") NoExpressions))) ▸
    (Statement.Return 0 (Some (number 0))) ▸
    NoItems)) ∷ []

key_given_away_runs : source key_given_away [] 1 ≡ gives (Called (codes "main") ∷ Visible (KeyNew 1) ∷ Called (codes "g") ∷ Visible (KeyFree 1)
    ∷ Returned (codes "g") ∷ Returned (codes "main") ∷ []) (SourceEnding.Ended 0)
key_given_away_runs = refl
