-- Programs with unique pointers in which the rules find no fault: one that lends, exchanges and frees them, and one with `&` in a unique block where nothing
-- gets.
use Rattle.std.proofs.Common.{◌≡◌, None, Some, [], ◌∷◌, refl}
use Rattle.cyc_tree.specs.declared.expression.Operator.TheVariants.{Add}
use Rattle.cyc_tree.specs.declared.expression.Prefix.TheVariants.{AddressOf, Dereference}
use Rattle.cyc_tree.specs.declared.name.Sign.TheVariants.{Nullable}
use Rattle.cyc_tree.specs.Tree as tree
use Rattle.cyc_tree.specs.Tree.{Arrow, BlockItems, Expression, Initializer, MoreExpressions, MoreLinks, NoExpressions, NoItems, NoLinks, NoSuffixes, One}
use Rattle.cyc_tree.specs.Tree.{Program, Statement, TypeName}
use Rattle.cyc_words.specs.Events.{SourceEnding}
use Rattle.source_meaning.specs.Programs.{source}
use Rattle.source_meaning.proofs.Trees.{function, named, number, pointer, typed, variable, ◌▸◌, ◌▹◌}
use Rattle.source_typing.specs.Answers.{first_fault, program_faults}
use Rattle.source_typing.specs.Faults.{copy_rule, fault}

-- int *`U, int *`r, and int *, which takes its region from an initializer
abbrev unique : TypeName
unique = typed tree.Int (pointer (Nullable 1) (Some (tree.Unique 0)) ∷ [])

abbrev aliased : TypeName
aliased = typed tree.Int (pointer (Nullable 1) (Some (tree.Named (named "r"))) ∷ [])

abbrev left_open : TypeName
left_open = typed tree.Int (pointer (Nullable 1) None ∷ [])

abbrev to_struct : TypeName
to_struct = typed (tree.Struct (named "b") []) (pointer (Nullable 1) None ∷ [])

abbrev made : Expression → Expression
made e = Expression.NewIn 0 (Expression.UniqueRegion 0) (One e)

abbrev at : Expression → Expression
at e = Expression.Prefixed 0 Dereference e

abbrev main : BlockItems → tree.Item
main body = tree.FunctionItem (function (typed tree.Int []) (named "main") [] body)

-- ---- loans, exchanges and moves

-- struct b { int *`U p; };
-- int take(int *`U x) { int r = *x; ufree(x); return r; }
-- int main() {
--   int *`U x = rnew(unique_region) 1; struct b *k = new b(rnew(unique_region) 3);
--   { let alias<`r> int *`r a = x; *a = *a + 4; }
--   int n = *x; x :=: k->p; return n + take(x);
-- }
abbrev blocks : Program
blocks =
    tree.StructItem (record { at = 0; tag = named "b"; regions = []; members = record { of = unique; name = named "p" } ∷ [] })
    ∷ tree.FunctionItem (function (typed tree.Int []) (named "take") (record { of = unique; name = named "x" } ∷ []) (
    (tree.Local (typed tree.Int []) (named "r") (Initializer.Value (at (variable "x")))) ▹
    (Statement.FreeUnique 0 (named "x")) ▸
    (Statement.Return 0 (Some (variable "r"))) ▸
    NoItems))
    ∷ main (
    (tree.Local unique (named "x") (Initializer.Value (made (number 1)))) ▹
    (tree.Local to_struct (named "k") (Initializer.Value (Expression.New 0
    (One (Expression.Call (named "b") (MoreExpressions (made (number 3)) NoExpressions)))))) ▹
    (Statement.Block 0 (
    (tree.Alias 0 (tree.Named (named "r")) aliased (named "a") (named "x")) ▹
    (Statement.Run (Expression.Assign (at (variable "a")) (Expression.Chain (at (variable "a")) (MoreLinks Add (number 4) NoLinks)))) ▸
    NoItems)) ▸
    (tree.Local (typed tree.Int []) (named "n") (Initializer.Value (at (variable "x")))) ▹
    (Statement.Exchange (variable "x") (Expression.Suffixed (variable "k") (Arrow (named "p") NoSuffixes))) ▸
    (Statement.Return 0 (Some (Expression.Chain (variable "n")
    (MoreLinks Add (Expression.Call (named "take") (MoreExpressions (variable "x") NoExpressions)) NoLinks)))) ▸
    NoItems)
    ∷ []

blocks_have_no_faults : program_faults blocks ≡ []
blocks_have_no_faults = refl

blocks_end : (source blocks [] 30).ending ≡ SourceEnding.Ended 8
blocks_end = refl

-- ---- a second way to a unique block

-- int *p = &*x; ufree(p);
abbrev second_way : BlockItems
second_way =
    (tree.Local left_open (named "p") (Initializer.Value (Expression.Prefixed 70 AddressOf (at (variable "x"))))) ▹
    (Statement.FreeUnique 0 (named "p")) ▸
    NoItems

-- int main() { int *`U x = rnew(unique_region) 1; ufree(x); return 0; int *p = &*x; ufree(p); }
abbrev nothing_gets_there : Program
nothing_gets_there = main (
    (tree.Local unique (named "x") (Initializer.Value (made (number 1)))) ▹
    (Statement.FreeUnique 0 (named "x")) ▸
    (Statement.Return 0 (Some (number 0))) ▸
    second_way)
    ∷ []

none_where_nothing_gets : program_faults nothing_gets_there ≡ []
none_where_nothing_gets = refl

-- and where something does
abbrev gets_there : Program
gets_there = main ((tree.Local unique (named "x") (Initializer.Value (made (number 1)))) ▹ second_way) ∷ []

copied_there : first_fault gets_there ≡ Some (fault copy_rule 70)
copied_there = refl
