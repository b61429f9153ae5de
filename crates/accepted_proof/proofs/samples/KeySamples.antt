-- Programs with dynamic regions in which the rules find no fault: one that moves a key to a function and back, and opens and frees its region, and one that has
-- a key twice where nothing gets.
use Rattle.std.proofs.Common.{◌≡◌, Some, [], ◌∷◌, refl}
use Rattle.cyc_tree.specs.declared.expression.Operator.TheVariants.{Add}
use Rattle.cyc_tree.specs.declared.expression.Prefix.TheVariants.{AddressOf, Dereference}
use Rattle.cyc_tree.specs.declared.name.Sign.TheVariants.{Nullable}
use Rattle.cyc_tree.specs.Tree as tree
use Rattle.cyc_tree.specs.Tree.{BlockItems, Expression, Initializer, MoreExpressions, MoreLinks, NoExpressions, NoItems, NoLinks, One, Program}
use Rattle.cyc_tree.specs.Tree.{Statement, TypeName}
use Rattle.cyc_words.specs.Events.{SourceEnding}
use Rattle.source_meaning.specs.Programs.{source}
use Rattle.source_meaning.proofs.Trees.{function, named, number, pointer, typed, variable, ◌▸◌, ◌▹◌}
use Rattle.source_typing.specs.Answers.{first_fault, program_faults}
use Rattle.source_typing.specs.Faults.{copy_rule, fault}

abbrev region : tree.RegionName
region = tree.Named (named "r")

-- uregion_key_t<`r>, and int *`r
abbrev key : TypeName
key = typed (tree.Key region) []

abbrev inside : TypeName
inside = typed tree.Int (pointer (Nullable 1) (Some region) ∷ [])

abbrev at : Expression → Expression
at e = Expression.Prefixed 0 Dereference e

abbrev set : Expression → Expression → Statement
set to e = Statement.Run (Expression.Assign to e)

-- { region<`r> h = open(k); s }
abbrev while_open : Statement → Statement
while_open s = Statement.Block 0 (tree.Open 0 region (named "h") (named "k") ▹ s ▸ NoItems)

abbrev main : BlockItems → tree.Item
main body = tree.FunctionItem (function (typed tree.Int []) (named "main") [] (tree.NewKey 0 region (named "k") ▹ body))

-- uregion_key_t<`r> more(uregion_key_t<`r> k, int *`r p) { { region<`r> h = open(k); *p = *p + 1; } return k; }
-- int main() {
--   let NewDynamicRegion{<`r> k} = new_ukey(); int *`r p = NULL; int n = 0;
--   { region<`r> h = open(k); p = rnew(h) 5; } k = more(k, p); { region<`r> h = open(k); n = *p; } free_ukey(k); return n;
-- }
abbrev keys : Program
keys =
    tree.FunctionItem (function key (named "more") (record { of = key; name = named "k" } ∷ record { of = inside; name = named "p" } ∷ []) (
    while_open (set (at (variable "p")) (Expression.Chain (at (variable "p")) (MoreLinks Add (number 1) NoLinks))) ▸
    Statement.Return 0 (Some (variable "k")) ▸
    NoItems))
    ∷ main (
    (tree.Local inside (named "p") (Initializer.Value (Expression.Null 0))) ▹
    (tree.Local (typed tree.Int []) (named "n") (Initializer.Value (number 0))) ▹
    while_open (set (variable "p") (Expression.NewIn 0 (variable "h") (One (number 5)))) ▸
    set (variable "k") (Expression.Call (named "more") (MoreExpressions (variable "k") (MoreExpressions (variable "p") NoExpressions))) ▸
    while_open (set (variable "n") (at (variable "p"))) ▸
    Statement.FreeKey 0 (named "k") ▸
    Statement.Return 0 (Some (variable "n")) ▸
    NoItems)
    ∷ []

keys_have_no_faults : program_faults keys ≡ []
keys_have_no_faults = refl

keys_end : (source keys [] 60).ending ≡ SourceEnding.Ended 6
keys_end = refl

-- ---- a key that two variables have

-- uregion_key_t<`r> j = *&k; free_ukey(j); free_ukey(k); return 0;
abbrev two_have_it : BlockItems
two_have_it =
    (tree.Local key (named "j") (Initializer.Value (Expression.Prefixed 70 Dereference (Expression.Prefixed 71 AddressOf (variable "k"))))) ▹
    Statement.FreeKey 0 (named "j") ▸
    Statement.FreeKey 0 (named "k") ▸
    Statement.Return 0 (Some (number 0)) ▸
    NoItems

-- where nothing gets to it
abbrev nothing_gets_there : Program
nothing_gets_there = main (Statement.Return 0 (Some (number 0)) ▸ two_have_it) ∷ []

none_where_nothing_gets : program_faults nothing_gets_there ≡ []
none_where_nothing_gets = refl

-- and where something does
abbrev gets_there : Program
gets_there = main two_have_it ∷ []

copied_there : first_fault gets_there ≡ Some (fault copy_rule 70)
copied_there = refl
