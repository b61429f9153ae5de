-- What small programs do, computed: what is moved, clauses that are blocks, strings in `return`, indices that wrap, and unsigned values that are made
use Rattle.std.proofs.Common.{◌≡◌, true, Some, None, [], ◌∷◌, refl}
use Rattle.std.specs.Prelude.{codes}
use Rattle.cyc_tree.specs.declared.name.Sign.TheVariants.{Nullable, Fat}
use Rattle.cyc_tree.specs.declared.expression.Operator.TheVariants.{Add, Subtract, Greater}
use Rattle.cyc_tree.specs.declared.expression.Prefix.TheVariants.{Negate, Dereference, AddressOf}
use Rattle.cyc_tree.specs.Tree as tree
use Rattle.cyc_tree.specs.Tree.{Expression, NoLinks, MoreLinks, NoSuffixes, Index, One, Initializer, Case, Default, Statement, NoItems, NoClauses, MoreClauses}
use Rattle.cyc_tree.specs.Tree.{Program}
use Rattle.cyc_words.specs.Events.{RegionNew, RegionAlloc, UniqueAlloc, KeyNew, Visible, Called, Returned, SourceEnding}
use Rattle.source_meaning.specs.Programs.{source}
use Rattle.source_meaning.proofs.Trees.{named, variable, number, pointer, typed, ◌▸◌, ◌▹◌, function, gives}

-- int main() { let NewDynamicRegion{<`r> k} = new_ukey(); uregion_key_t<`r> j = k; free_ukey(k); return 0; }
abbrev key_moved : Program
key_moved =
    tree.FunctionItem (function (typed tree.Int []) (named "main") [] (
    (tree.NewKey 0 (tree.Named (named "r")) (named "k")) ▹
    (tree.Local (typed (tree.Key (tree.Named (named "r"))) []) (named "j") (Initializer.Value (variable "k"))) ▹
    (Statement.FreeKey 0 (named "k")) ▸
    (Statement.Return 0 (Some (number 0))) ▸
    NoItems)) ∷ []

key_moved_runs : source key_moved [] 0 ≡ gives (Called (codes "main") ∷ Visible (KeyNew 1) ∷ []) SourceEnding.Stuck
key_moved_runs = refl

-- int main() { int *`U p = rnew(unique_region) 3; int *`U q = NULL; q = p; return *p; }
abbrev assigned_away : Program
assigned_away =
    tree.FunctionItem (function (typed tree.Int []) (named "main") [] (
    (tree.Local (typed tree.Int ((pointer (Nullable 1) (Some (tree.Unique 0))) ∷ [])) (named "p")
    (Initializer.Value (Expression.NewIn 0 (Expression.UniqueRegion 0) (One (number 3))))) ▹
    (tree.Local (typed tree.Int ((pointer (Nullable 1) (Some (tree.Unique 0))) ∷ [])) (named "q") (Initializer.Value (Expression.Null 0))) ▹
    (Statement.Run (Expression.Assign (variable "q") (variable "p"))) ▸
    (Statement.Return 0 (Some (Expression.Prefixed 0 Dereference (variable "p")))) ▸
    NoItems)) ∷ []

assigned_away_runs : source assigned_away [] 0 ≡ gives (Called (codes "main") ∷ Visible (UniqueAlloc 1 4) ∷ []) SourceEnding.Stuck
assigned_away_runs = refl

-- int main() { int *`U p = rnew(unique_region) 3; int *`U *q = new p; return *p; }
abbrev made_away : Program
made_away =
    tree.FunctionItem (function (typed tree.Int []) (named "main") [] (
    (tree.Local (typed tree.Int ((pointer (Nullable 1) (Some (tree.Unique 0))) ∷ [])) (named "p")
    (Initializer.Value (Expression.NewIn 0 (Expression.UniqueRegion 0) (One (number 3))))) ▹
    (tree.Local (typed tree.Int ((pointer (Nullable 1) (Some (tree.Unique 0))) ∷ (pointer (Nullable 1) None) ∷ [])) (named "q")
    (Initializer.Value (Expression.New 0 (One (variable "p"))))) ▹
    (Statement.Return 0 (Some (Expression.Prefixed 0 Dereference (variable "p")))) ▸
    NoItems)) ∷ []

made_away_runs : source made_away [] 0 ≡ gives (Called (codes "main") ∷ Visible (UniqueAlloc 1 4) ∷ Visible (RegionAlloc 0 4) ∷ []) SourceEnding.Stuck
made_away_runs = refl

-- int main() { region<`r> h; int *`U p = rnew(unique_region) 3; int *`U *`r q = rnew(h) p; return *p; }
abbrev made_away_in_a_region : Program
made_away_in_a_region =
    tree.FunctionItem (function (typed tree.Int []) (named "main") [] (
    (tree.Region 0 (tree.Named (named "r")) (named "h")) ▹
    (tree.Local (typed tree.Int ((pointer (Nullable 1) (Some (tree.Unique 0))) ∷ [])) (named "p")
    (Initializer.Value (Expression.NewIn 0 (Expression.UniqueRegion 0) (One (number 3))))) ▹
    (tree.Local (typed tree.Int ((pointer (Nullable 1) (Some (tree.Unique 0))) ∷ (pointer (Nullable 1) (Some (tree.Named (named "r")))) ∷ [])) (named "q")
    (Initializer.Value (Expression.NewIn 0 (variable "h") (One (variable "p"))))) ▹
    (Statement.Return 0 (Some (Expression.Prefixed 0 Dereference (variable "p")))) ▸
    NoItems)) ∷ []

made_away_in_a_region_runs : source made_away_in_a_region [] 0
    ≡ gives (Called (codes "main") ∷ Visible (RegionNew 1) ∷ Visible (UniqueAlloc 2 4) ∷ Visible (RegionAlloc 1 4) ∷ []) SourceEnding.Stuck
made_away_in_a_region_runs = refl

-- @tagged union U { int a; char b; }; int main() { int y = 1; int *p = &y; union U x = U.a(4); switch (x) { case {.a = v}: int z = 2; p = &z; default: } return
-- *p; }
abbrev left_case : Program
left_case =
    tree.UnionItem (record {
      at = 0;
      tag = (named "U");
      regions = [];
      members = ((record { of = (typed tree.Int []); name = (named "a") }) ∷ (record { of = (typed tree.Char []); name = (named "b") }) ∷ []);
    }) ∷
    tree.FunctionItem (function (typed tree.Int []) (named "main") [] (
    (tree.Local (typed tree.Int []) (named "y") (Initializer.Value (number 1))) ▹
    (tree.Local (typed tree.Int ((pointer (Nullable 1) None) ∷ [])) (named "p") (Initializer.Value (Expression.Prefixed 0 AddressOf (variable "y")))) ▹
    (tree.Local (typed (tree.Union (named "U") []) []) (named "x") (Initializer.Value (Expression.MakeUnion (named "U") (named "a") (number 4)))) ▹
    (Statement.Switch 0 (variable "x") (
    MoreClauses 0 (Case (named "a") (named "v")) (
    (tree.Local (typed tree.Int []) (named "z") (Initializer.Value (number 2))) ▹
    (Statement.Run (Expression.Assign (variable "p") (Expression.Prefixed 0 AddressOf (variable "z")))) ▸
    NoItems) (
    MoreClauses 0 Default NoItems NoClauses))) ▸
    (Statement.Return 0 (Some (Expression.Prefixed 0 Dereference (variable "p")))) ▸
    NoItems)) ∷ []

left_case_runs : source left_case [] 0 ≡ gives (Called (codes "main") ∷ []) SourceEnding.Stuck
left_case_runs = refl

-- @tagged union U { int a; char b; }; int main() { int y = 1; int *p = &y; union U x = U.a(4); switch (x) { default: int z = 2; p = &z; } return *p; }
abbrev left_default : Program
left_default =
    tree.UnionItem (record {
      at = 0;
      tag = (named "U");
      regions = [];
      members = ((record { of = (typed tree.Int []); name = (named "a") }) ∷ (record { of = (typed tree.Char []); name = (named "b") }) ∷ []);
    }) ∷
    tree.FunctionItem (function (typed tree.Int []) (named "main") [] (
    (tree.Local (typed tree.Int []) (named "y") (Initializer.Value (number 1))) ▹
    (tree.Local (typed tree.Int ((pointer (Nullable 1) None) ∷ [])) (named "p") (Initializer.Value (Expression.Prefixed 0 AddressOf (variable "y")))) ▹
    (tree.Local (typed (tree.Union (named "U") []) []) (named "x") (Initializer.Value (Expression.MakeUnion (named "U") (named "a") (number 4)))) ▹
    (Statement.Switch 0 (variable "x") (
    MoreClauses 0 Default (
    (tree.Local (typed tree.Int []) (named "z") (Initializer.Value (number 2))) ▹
    (Statement.Run (Expression.Assign (variable "p") (Expression.Prefixed 0 AddressOf (variable "z")))) ▸
    NoItems) NoClauses)) ▸
    (Statement.Return 0 (Some (Expression.Prefixed 0 Dereference (variable "p")))) ▸
    NoItems)) ∷ []

left_default_runs : source left_default [] 0 ≡ gives (Called (codes "main") ∷ []) SourceEnding.Stuck
left_default_runs = refl

-- int main() { return "ab"[1]; }
abbrev string_returned : Program
string_returned =
    tree.FunctionItem (function (typed tree.Int []) (named "main") [] (
    (Statement.Return 0 (Some (Expression.Suffixed (Expression.Text 20 (codes "ab")) (Index (number 1) NoSuffixes)))) ▸
    NoItems)) ∷ []

string_returned_runs : source string_returned [] 0 ≡ gives (Called (codes "main") ∷ Returned (codes "main") ∷ []) (SourceEnding.Ended 98)
string_returned_runs = refl

-- int main() { int a[2]; int ? p = a; p = p - 1; p = p + 1; *p = 3; return a[0]; }
abbrev there_and_back : Program
there_and_back =
    tree.FunctionItem (function (typed tree.Int []) (named "main") [] (
    (tree.Local (typed tree.Int []) (named "a") (Initializer.Elements 2)) ▹
    (tree.Local (typed tree.Int ((pointer Fat None) ∷ [])) (named "p") (Initializer.Value (variable "a"))) ▹
    (Statement.Run (Expression.Assign (variable "p") (Expression.Chain (variable "p") (MoreLinks Subtract (number 1) NoLinks)))) ▸
    (Statement.Run (Expression.Assign (variable "p") (Expression.Chain (variable "p") (MoreLinks Add (number 1) NoLinks)))) ▸
    (Statement.Run (Expression.Assign (Expression.Prefixed 0 Dereference (variable "p")) (number 3))) ▸
    (Statement.Return 0 (Some (Expression.Suffixed (variable "a") (Index (number 0) NoSuffixes)))) ▸
    NoItems)) ∷ []

there_and_back_runs : source there_and_back [] 0 ≡ gives (Called (codes "main") ∷ Returned (codes "main") ∷ []) (SourceEnding.Ended 3)
there_and_back_runs = refl

-- int main() { return *new -1u > 0; }
abbrev unsigned_made : Program
unsigned_made =
    tree.FunctionItem (function (typed tree.Int []) (named "main") [] (
    (Statement.Return 0 (Some (Expression.Chain
    (Expression.Prefixed 0 Dereference (Expression.New 0 (One (Expression.Prefixed 0 Negate (Expression.Number 0 1 true)))))
    (MoreLinks Greater (number 0) NoLinks)))) ▸
    NoItems)) ∷ []

unsigned_made_runs : source unsigned_made [] 0 ≡ gives (Called (codes "main") ∷ Visible (RegionAlloc 0 4) ∷ Returned (codes "main") ∷ []) (SourceEnding.Ended 1)
unsigned_made_runs = refl
