-- Calls whose effect isn't live.
use Rattle.std.proofs.Common.{◌≡◌, refl, false, Some, None, [], ◌∷◌}
use Rattle.cyc_tree.specs.declared.expression.Prefix.TheVariants.{Dereference}
use Rattle.cyc_tree.specs.declared.name.Sign.TheVariants as sign
use Rattle.cyc_tree.specs.Tree as tree
use Rattle.cyc_tree.specs.Tree.{Expression, NoExpressions, MoreExpressions, Statement, NoItems, Execute}
use Rattle.source_meaning.proofs.Trees.{pointer}
use Rattle.source_typing.specs.Faults.{fault, effect_rule}
use Rattle.source_typing.specs.Programs.{typing_fault}
use Rattle.source_typing.proofs.samples.SampleTrees.{name_at, region_at, type_at, int_at, number, variable_at, returns, member, routine, main_returns}

-- int f(uregion_key_t<`r> k; {`r}) { return 0; } int main() { return 0; }
effect_1 : typing_fault false
    ((tree.FunctionItem (routine (int_at 0) (name_at 4 "f") ((member (type_at 6 (tree.Key (region_at 20 "r")) []) (name_at 24 "k")) ∷ []) (Some ((region_at 28
    "r") ∷ [])) [] (Execute (returns 35 (number 42 0)) NoItems) 45)) ∷ (main_returns 47) ∷ [])
    ≡ Some (fault effect_rule 28)
effect_1 = refl

-- int f(int *`r p) { return *p; } int g(int *`r p; {}) { return f(p); } int main() { return 0; }
effect_2 : typing_fault false
    ((tree.FunctionItem (routine (int_at 0) (name_at 4 "f")
    ((member (type_at 6 tree.Int ((pointer (sign.Nullable 1) (Some (region_at 11 "r"))) ∷ [])) (name_at 14
    "p")) ∷ []) None [] (Execute (returns 19 (Expression.Prefixed 26 Dereference (variable_at 27 "p"))) NoItems) 30)) ∷ (tree.FunctionItem (routine (int_at
    32) (name_at 36 "g") ((member (type_at 38 tree.Int ((pointer (sign.Nullable 1) (Some (region_at 43 "r"))) ∷ [])) (name_at 46 "p")) ∷ [])
    (Some []) [] (Execute
    (Statement.Return 55 (Some (Expression.Call (name_at 62 "f") (MoreExpressions (variable_at 64 "p") NoExpressions)))) NoItems) 68)) ∷ (main_returns 70) ∷
    [])
    ≡ Some (fault effect_rule 62)
effect_2 = refl
