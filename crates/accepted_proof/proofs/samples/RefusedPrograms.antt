-- Six programs: each breaks one rule at one place, and gets stuck.
use Prim.Native.String.{String}
use Rattle.std.proofs.Common.{refl, None, Some, [], ◌∷◌}
use Rattle.cyc_tree.specs.declared.expression.Prefix.TheVariants.{Dereference, AddressOf}
use Rattle.cyc_tree.specs.declared.name.Sign.TheVariants as sign
use Rattle.cyc_tree.specs.Tree as tree
use Rattle.cyc_tree.specs.Tree.{TypeName, Expression, NoExpressions, MoreExpressions, One, Initial, Initializer, Statement, NoItems, Program}
use Rattle.source_meaning.proofs.Trees.{named, variable, number, pointer, typed, function, ◌▸◌, ◌▹◌}
use Rattle.source_typing.specs.Faults.{region_rule, outlives_rule, effect_rule, consumed_rule, lent_rule, copy_rule}
use Rattle.accepted_proof.specs.Refused.{IsNeeded, EachRuleIsNeeded}

-- ---- types, and a function that touches no region

abbrev int : TypeName
int = typed tree.Int []

abbrev pointing : TypeName
pointing = typed tree.Int ((pointer (sign.Nullable 1) None) ∷ [])

abbrev into : String → TypeName
into r = typed tree.Int ((pointer (sign.Nullable 1) (Some (tree.Named (named r)))) ∷ [])

abbrev never_null : tree.RegionName → TypeName
never_null r = typed tree.Int ((pointer (sign.NotNull 1) (Some r)) ∷ [])

abbrev unique : TypeName
unique = typed tree.Int ((pointer (sign.Nullable 1) (Some (tree.Unique 0))) ∷ [])

abbrev without_effect : tree.Function → tree.Function
without_effect f = record f { effect = Some [] }

-- ---- the programs

-- a read through a pointer into a dynamic region that is closed
-- int main() { let NewDynamicRegion{<`r> k} = new_ukey(); int *`r p = NULL; { region<`r> h = open(k); p = rnew(h) 5; } return *p; }
abbrev region_broken : Program
region_broken =
    tree.FunctionItem (function int (named "main") [] (
    (tree.NewKey 0 (tree.Named (named "r")) (named "k")) ▹
    (tree.Local (into "r") (named "p") (Initializer.Value (Expression.Null 0))) ▹
    (Statement.Block 0 (
    (tree.Open 0 (tree.Named (named "r")) (named "h") (named "k")) ▹
    (Statement.Run (Expression.Assign (variable "p") (Expression.NewIn 0 (variable "h") (One (number 5))))) ▸
    NoItems)) ▸
    (Statement.Return 0 (Some (Expression.Prefixed 0 Dereference (variable "p")))) ▸
    NoItems)) ∷ []

region_is_needed : IsNeeded region_rule
region_is_needed = record { program = region_broken; at = 0; refused = refl; fuel = 9; stuck = refl }

-- a read through a pointer to a local of a block that was left
-- int main() { int x; int *p = &x; { int y; p = &y; } return *p; }
abbrev outlives_broken : Program
outlives_broken =
    tree.FunctionItem (function int (named "main") [] (
    (tree.Local int (named "x") Initializer.Unset) ▹
    (tree.Local pointing (named "p") (Initializer.Value (Expression.Prefixed 0 AddressOf (variable "x")))) ▹
    (Statement.Block 0 (
    (tree.Local int (named "y") Initializer.Unset) ▹
    (Statement.Run (Expression.Assign (variable "p") (Expression.Prefixed 0 AddressOf (variable "y")))) ▸
    NoItems)) ▸
    (Statement.Return 0 (Some (Expression.Prefixed 0 Dereference (variable "p")))) ▸
    NoItems)) ∷ []

outlives_is_needed : IsNeeded outlives_rule
outlives_is_needed = record { program = outlives_broken; at = 0; refused = refl; fuel = 9; stuck = refl }

-- a function that reads through a pointer is called where the region is closed
-- int f(int *`r p) { return *p; } int g(int *`r p; {}) { return f(p); } int main() { let NewDynamicRegion{<`d> k} = new_ukey(); int *`d p = NULL; {
-- region<`d> h = open(k); p = rnew(h) 5; } return g(p); }
abbrev effect_broken : Program
effect_broken =
    tree.FunctionItem (function int (named "f") ((record { of = into "r"; name = named "p" }) ∷ []) (
    (Statement.Return 0 (Some (Expression.Prefixed 0 Dereference (variable "p")))) ▸
    NoItems)) ∷
    tree.FunctionItem (without_effect (function int (named "g") ((record { of = into "r"; name = named "p" }) ∷ []) (
    (Statement.Return 0 (Some (Expression.Call (named "f") (MoreExpressions (variable "p") NoExpressions)))) ▸
    NoItems))) ∷
    tree.FunctionItem (function int (named "main") [] (
    (tree.NewKey 0 (tree.Named (named "d")) (named "k")) ▹
    (tree.Local (into "d") (named "p") (Initializer.Value (Expression.Null 0))) ▹
    (Statement.Block 0 (
    (tree.Open 0 (tree.Named (named "d")) (named "h") (named "k")) ▹
    (Statement.Run (Expression.Assign (variable "p") (Expression.NewIn 0 (variable "h") (One (number 5))))) ▸
    NoItems)) ▸
    (Statement.Return 0 (Some (Expression.Call (named "g") (MoreExpressions (variable "p") NoExpressions)))) ▸
    NoItems)) ∷ []

effect_is_needed : IsNeeded effect_rule
effect_is_needed = record { program = effect_broken; at = 0; refused = refl; fuel = 9; stuck = refl }

-- a unique pointer is followed after its block was freed
-- int main() { int @`U p = rnew(unique_region) 1; ufree(p); return *p; }
abbrev consumed_broken : Program
consumed_broken =
    tree.FunctionItem (function int (named "main") [] (
    (tree.Local (never_null (tree.Unique 0)) (named "p") (Initializer.Value (Expression.NewIn 0 (Expression.UniqueRegion 0) (One (number 1))))) ▹
    (Statement.FreeUnique 0 (named "p")) ▸
    (Statement.Return 0 (Some (Expression.Prefixed 0 Dereference (variable "p")))) ▸
    NoItems)) ∷ []

consumed_is_needed : IsNeeded consumed_rule
consumed_is_needed = record { program = consumed_broken; at = 0; refused = refl; fuel = 9; stuck = refl }

-- a unique pointer is freed while an alias of it is used
-- int main() { int @`U p = rnew(unique_region) 4; { let alias<`r> int @`r x = p; ufree(p); } return 0; }
abbrev lent_broken : Program
lent_broken =
    tree.FunctionItem (function int (named "main") [] (
    (tree.Local (never_null (tree.Unique 0)) (named "p") (Initializer.Value (Expression.NewIn 0 (Expression.UniqueRegion 0) (One (number 4))))) ▹
    (Statement.Block 0 (
    (tree.Alias 0 (tree.Named (named "r")) (never_null (tree.Named (named "r"))) (named "x")
    (named "p")) ▹
    (Statement.FreeUnique 0 (named "p")) ▸
    NoItems)) ▸
    (Statement.Return 0 (Some (number 0))) ▸
    NoItems)) ∷ []

lent_is_needed : IsNeeded lent_rule
lent_is_needed = record { program = lent_broken; at = 0; refused = refl; fuel = 9; stuck = refl }

-- a unique pointer is taken out of a global twice
-- int *`U g; int *`U take() { return g; } int main() { take(); take(); return 0; }
abbrev copy_broken : Program
copy_broken =
    tree.GlobalItem (record { of = unique; name = named "g"; initial = Initial.Unset }) ∷
    tree.FunctionItem (function unique (named "take") [] (
    (Statement.Return 0 (Some (variable "g"))) ▸
    NoItems)) ∷
    tree.FunctionItem (function int (named "main") [] (
    (Statement.Run (Expression.Call (named "take") NoExpressions)) ▸
    (Statement.Run (Expression.Call (named "take") NoExpressions)) ▸
    (Statement.Return 0 (Some (number 0))) ▸
    NoItems)) ∷ []

copy_is_needed : IsNeeded copy_rule
copy_is_needed = record { program = copy_broken; at = 0; refused = refl; fuel = 9; stuck = refl }

pub each_is_needed : EachRuleIsNeeded
each_is_needed = record {
  region = region_is_needed;
  outlives = outlives_is_needed;
  effect = effect_is_needed;
  consumed = consumed_is_needed;
  lent = lent_is_needed;
  copy = copy_is_needed;
}
