-- What is found by phase: without liveness, with it, and with flow.
use Rattle.std.proofs.Common.{◌≡◌, refl, Some, None, [], ◌∷◌}
use Rattle.cyc_tree.specs.declared.expression.Prefix.TheVariants.{Dereference}
use Rattle.cyc_tree.specs.declared.name.Sign.TheVariants as sign
use Rattle.cyc_tree.specs.Tree as tree
use Rattle.cyc_tree.specs.Tree.{Expression, NoExpressions, MoreExpressions, NoSuffixes, Index, One, Initializer, Statement, NoItems, Declare, Execute}
use Rattle.cyc_tree.specs.Tree.{Constant, Initial}
use Rattle.source_meaning.proofs.Trees.{pointer}
use Rattle.source_typing.specs.Faults.{fault, type_rule, region_rule, outlives_rule, effect_rule, consumed_rule}
use Rattle.source_typing.specs.Answers.{first_fault}
use Rattle.source_typing.specs.Answers.{type_fault}
use Rattle.source_typing.specs.Answers.{effect_fault}
use Rattle.source_typing.proofs.samples.SampleTrees.{name_at, region_at, type_at, int_at, number, variable_at, returns, member, structure, global, bound}
use Rattle.source_typing.proofs.samples.SampleTrees.{routine, main_at, main_returns}

-- with the rules on liveness the initializer has a fault, and the conversion is not checked
-- struct P { int x; }; int f(struct P *`b p; {}) { int x = *p; return 0; } int main() { return 0; }
live_1 : first_fault
    ((tree.StructItem (structure 0 (name_at 7 "P") [] ((member (int_at 11) (name_at 15 "x")) ∷ []))) ∷ (tree.FunctionItem (routine (int_at 21) (name_at 25 "f")
    ((member (type_at 27 (tree.Struct (name_at 34 "P") []) ((pointer (sign.Nullable 1) (Some (region_at 37 "b"))) ∷ [])) (name_at 40 "p")) ∷ []) (Some []) []
    (Declare (tree.Local (int_at 49) (name_at 53 "x") (Initializer.Value (Expression.Prefixed 57 Dereference (variable_at 58 "p")))) (Execute (returns 61
    (number 68 0)) NoItems)) 71)) ∷ (main_returns 73) ∷ [])
    ≡ Some (fault region_rule 57)
live_1 = refl

-- struct P { int x; }; int f(struct P *`b p; {}) { int x = *p; return 0; } int main() { return 0; }
live_2 : effect_fault
    ((tree.StructItem (structure 0 (name_at 7 "P") [] ((member (int_at 11) (name_at 15 "x")) ∷ []))) ∷ (tree.FunctionItem (routine (int_at 21) (name_at 25 "f")
    ((member (type_at 27 (tree.Struct (name_at 34 "P") []) ((pointer (sign.Nullable 1) (Some (region_at 37 "b"))) ∷ [])) (name_at 40 "p")) ∷ []) (Some []) []
    (Declare (tree.Local (int_at 49) (name_at 53 "x") (Initializer.Value (Expression.Prefixed 57 Dereference (variable_at 58 "p")))) (Execute (returns 61
    (number 68 0)) NoItems)) 71)) ∷ (main_returns 73) ∷ [])
    ≡ Some (fault region_rule 57)
live_2 = refl

-- struct P { int x; }; int f(struct P *`b p; {}) { int x = *p; return 0; } int main() { return 0; }
live_3 : type_fault
    ((tree.StructItem (structure 0 (name_at 7 "P") [] ((member (int_at 11) (name_at 15 "x")) ∷ []))) ∷ (tree.FunctionItem (routine (int_at 21) (name_at 25 "f")
    ((member (type_at 27 (tree.Struct (name_at 34 "P") []) ((pointer (sign.Nullable 1) (Some (region_at 37 "b"))) ∷ [])) (name_at 40 "p")) ∷ []) (Some []) []
    (Declare (tree.Local (int_at 49) (name_at 53 "x") (Initializer.Value (Expression.Prefixed 57 Dereference (variable_at 58 "p")))) (Execute (returns 61
    (number 68 0)) NoItems)) 71)) ∷ (main_returns 73) ∷ [])
    ≡ Some (fault type_rule 57)
live_3 = refl

-- an effect that names a key is a rule on effects
-- int f(uregion_key_t<`r> k; {`r}) { return 0; } int main() { return 0; }
live_4 : type_fault
    ((tree.FunctionItem (routine (int_at 0) (name_at 4 "f") ((member (type_at 6 (tree.Key (region_at 20 "r")) []) (name_at 24 "k")) ∷ []) (Some ((region_at 28
    "r") ∷ [])) [] (Execute (returns 35 (number 42 0)) NoItems) 45)) ∷ (main_returns 47) ∷ [])
    ≡ None
live_4 = refl

-- int f(uregion_key_t<`r> k; {`r}) { return 0; } int main() { return 0; }
live_5 : effect_fault
    ((tree.FunctionItem (routine (int_at 0) (name_at 4 "f") ((member (type_at 6 (tree.Key (region_at 20 "r")) []) (name_at 24 "k")) ∷ []) (Some ((region_at 28
    "r") ∷ [])) [] (Execute (returns 35 (number 42 0)) NoItems) 45)) ∷ (main_returns 47) ∷ [])
    ≡ Some (fault effect_rule 28)
live_5 = refl

-- int f(region_t<`r> h; {}) { int *`r p = rnew(h) 1; return 0; } int main() { return 0; }
live_6 : type_fault
    ((tree.FunctionItem (routine (int_at 0) (name_at 4 "f") ((member (type_at 6 (tree.Handle (region_at 15 "r")) []) (name_at 19 "h")) ∷ []) (Some []) []
    (Declare (tree.Local (type_at 28 tree.Int ((pointer (sign.Nullable 1) (Some (region_at 33 "r"))) ∷ [])) (name_at 36 "p")
    (Initializer.Value (Expression.NewIn
    40 (variable_at 45 "h") (One (number 48 1))))) (Execute (returns 51 (number 58 0)) NoItems)) 61)) ∷ (main_returns 63) ∷ [])
    ≡ None
live_6 = refl

-- int g(int *`a p) { return *p; } int f(int *`b p; {}) { return g(p); } int main() { return 0; }
live_7 : type_fault
    ((tree.FunctionItem (routine (int_at 0) (name_at 4 "g")
    ((member (type_at 6 tree.Int ((pointer (sign.Nullable 1) (Some (region_at 11 "a"))) ∷ [])) (name_at 14
    "p")) ∷ []) None [] (Execute (returns 19 (Expression.Prefixed 26 Dereference (variable_at 27 "p"))) NoItems) 30)) ∷ (tree.FunctionItem (routine (int_at
    32) (name_at 36 "f") ((member (type_at 38 tree.Int ((pointer (sign.Nullable 1) (Some (region_at 43 "b"))) ∷ [])) (name_at 46 "p")) ∷ [])
    (Some []) [] (Execute
    (Statement.Return 55 (Some (Expression.Call (name_at 62 "g") (MoreExpressions (variable_at 64 "p") NoExpressions)))) NoItems) 68)) ∷ (main_returns 70) ∷
    [])
    ≡ None
live_7 = refl

-- bounds are judged without liveness too
-- void g(int *`a p, int *`b q : `a > `b) { } void f(int *`c p, int *`d q) { g(p, q); } int main() { return 0; }
live_8 : type_fault
    ((tree.FunctionItem (routine (type_at 0 tree.Void []) (name_at 5 "g") ((member (type_at 7 tree.Int ((pointer (sign.Nullable 1) (Some (region_at 12 "a"))) ∷
    [])) (name_at 15 "p")) ∷ (member (type_at 18 tree.Int ((pointer (sign.Nullable 1) (Some (region_at 23 "b"))) ∷ [])) (name_at 26 "q")) ∷ []) None ((bound
    (region_at 30 "a") (region_at 35 "b")) ∷ []) NoItems 41)) ∷ (tree.FunctionItem (routine (type_at 43 tree.Void []) (name_at 48 "f") ((member (type_at 50
    tree.Int ((pointer (sign.Nullable 1) (Some (region_at 55 "c"))) ∷ [])) (name_at 58 "p")) ∷ (member (type_at 61 tree.Int ((pointer (sign.Nullable 1) (Some
    (region_at 66 "d"))) ∷ [])) (name_at 69 "q")) ∷ []) None [] (Execute (Statement.Run (Expression.Call (name_at 74 "g") (MoreExpressions (variable_at 76
    "p") (MoreExpressions (variable_at 79 "q") NoExpressions)))) NoItems) 83)) ∷ (main_returns 85) ∷ [])
    ≡ Some (fault outlives_rule 74)
live_8 = refl

-- flow comes after
-- int main() { int *`U p = NULL; ufree(p); ufree(p); return 0; }
live_9 : effect_fault
    ((main_at 0 (Declare (tree.Local (type_at 13 tree.Int ((pointer (sign.Nullable 1) (Some (tree.Unique 18))) ∷ [])) (name_at 21 "p") (Initializer.Value
    (Expression.Null 25))) (Execute (Statement.FreeUnique 31 (name_at 37 "p")) (Execute (Statement.FreeUnique 41 (name_at 47 "p")) (Execute (returns 51
    (number 58 0)) NoItems)))) 61) ∷ [])
    ≡ None
live_9 = refl

-- int main() { int *`U p = NULL; ufree(p); ufree(p); return 0; }
live_10 : first_fault
    ((main_at 0 (Declare (tree.Local (type_at 13 tree.Int ((pointer (sign.Nullable 1) (Some (tree.Unique 18))) ∷ [])) (name_at 21 "p") (Initializer.Value
    (Expression.Null 25))) (Execute (Statement.FreeUnique 31 (name_at 37 "p")) (Execute (Statement.FreeUnique 41 (name_at 47 "p")) (Execute (returns 51
    (number 58 0)) NoItems)))) 61) ∷ [])
    ≡ Some (fault consumed_rule 47)
live_10 = refl

-- struct S *p = NULL; struct S { void x; };
live_13 : type_fault
    ((tree.GlobalItem (global (type_at 0 (tree.Struct (name_at 7 "S") []) ((pointer (sign.Nullable 1) None) ∷ [])) (name_at 10 "p")
    (Initial.Given (Constant.Null
    14)))) ∷ (tree.StructItem (structure 20 (name_at 27 "S") [] ((member (type_at 31 tree.Void []) (name_at 36 "x")) ∷ []))) ∷ [])
    ≡ Some (fault type_rule 31)
live_13 = refl
