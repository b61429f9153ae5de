-- Programs on several rules.
use Rattle.std.proofs.Common.{◌≡◌, refl, Some, None, [], ◌∷◌}
use Rattle.cyc_tree.specs.declared.expression.Prefix.TheVariants.{Dereference, AddressOf}
use Rattle.cyc_tree.specs.declared.name.Sign.TheVariants as sign
use Rattle.cyc_tree.specs.Tree as tree
use Rattle.cyc_tree.specs.Tree.{Expression, NoExpressions, MoreExpressions, One, Initializer, Default, Statement, NoItems, Declare, Execute, NoClauses}
use Rattle.cyc_tree.specs.Tree.{MoreClauses, Constant, Initial}
use Rattle.source_meaning.proofs.Trees.{pointer}
use Rattle.source_typing.specs.Faults.{fault, type_rule, region_rule, effect_rule}
use Rattle.source_typing.specs.Answers.{first_fault}
use Rattle.source_typing.proofs.samples.SampleTrees.{name_at, region_at, type_at, int_at, number, variable_at, returns, member, structure, global, routine}
use Rattle.source_typing.proofs.samples.SampleTrees.{main_at, main_returns}

-- int f() { return *x; } int x = NULL; int main() { return 0; }
program_35 : first_fault
    ((tree.FunctionItem (routine (int_at 0) (name_at 4 "f") [] None [] (Execute (returns 10 (Expression.Prefixed 17 Dereference (variable_at 18 "x"))) NoItems)
    21)) ∷ (tree.GlobalItem (global (int_at 23) (name_at 27 "x") (Initial.Given (Constant.Null 31)))) ∷ (main_returns 37) ∷ [])
    ≡ Some (fault type_rule 31)
program_35 = refl

-- a clause that is not reachable
-- @tagged union U { int a; char b; }; int main() { union U x = U.a(1); return 0; switch (x) { default: ; } }
program_36 : first_fault
    ((tree.UnionItem (structure 0 (name_at 14 "U") [] ((member (int_at 18) (name_at 22 "a")) ∷ (member (type_at 25 tree.Char []) (name_at 30 "b")) ∷ []))) ∷
    (main_at 36 (Declare (tree.Local (type_at 49 (tree.Union (name_at 55 "U") []) []) (name_at 57 "x") (Initializer.Value (Expression.MakeUnion (name_at 61
    "U") (name_at 63 "a") (number 65 1)))) (Execute (returns 69 (number 76 0)) (Execute (Statement.Switch 79 (variable_at 87 "x") (MoreClauses 92 Default
    (Execute (Statement.Empty 101) NoItems) NoClauses)) NoItems))) 105) ∷ [])
    ≡ None
program_36 = refl

-- the leftmost region first
-- int f(int *`r *`r p) { return 0; } int main() { int x; int *p = &x; return f(new p); }
program_37 : first_fault
    ((tree.FunctionItem (routine (int_at 0) (name_at 4 "f") ((member (type_at 6 tree.Int ((pointer (sign.Nullable 1) (Some (region_at 11 "r"))) ∷ (pointer
    (sign.Nullable 1) (Some (region_at 15 "r"))) ∷ [])) (name_at 18 "p")) ∷ []) None [] (Execute (returns 23 (number 30 0)) NoItems) 33)) ∷ (main_at 35 (Declare
    (tree.Local (int_at 48) (name_at 52 "x") Initializer.Unset) (Declare (tree.Local (type_at 55 tree.Int ((pointer (sign.Nullable 1) None) ∷ [])) (name_at 60
    "p") (Initializer.Value (Expression.Prefixed 64 AddressOf (variable_at 65 "x")))) (Execute (Statement.Return 68 (Some (Expression.Call (name_at 75 "f")
    (MoreExpressions (Expression.New 77 (One (variable_at 81 "p"))) NoExpressions)))) NoItems))) 85) ∷ [])
    ≡ None
program_37 = refl

-- `NULL` fixes no region
-- int f(int *`r p, int *`r q) { return 0; } int main() { int x; *f(NULL, &x); return 0; }
program_38 : first_fault
    ((tree.FunctionItem (routine (int_at 0) (name_at 4 "f")
    ((member (type_at 6 tree.Int ((pointer (sign.Nullable 1) (Some (region_at 11 "r"))) ∷ [])) (name_at 14
    "p")) ∷ (member (type_at 17 tree.Int ((pointer (sign.Nullable 1) (Some (region_at 22 "r"))) ∷ [])) (name_at 25 "q")) ∷ []) None [] (Execute (returns 30
    (number 37 0)) NoItems) 40)) ∷ (main_at 42 (Declare (tree.Local (int_at 55) (name_at 59 "x") Initializer.Unset) (Execute (Statement.Run
    (Expression.Prefixed 62 Dereference (Expression.Call (name_at 63 "f") (MoreExpressions (Expression.Null 65) (MoreExpressions (Expression.Prefixed 71
    AddressOf (variable_at 72 "x")) NoExpressions))))) (Execute (returns 76 (number 83 0)) NoItems))) 86) ∷ [])
    ≡ Some (fault type_rule 62)
program_38 = refl

-- the effect of the call has a closed dynamic region
-- int g(int *`a p) { return 0; } int main() { let NewDynamicRegion{<`r> k} = new_ukey(); int *`r p = NULL; return g(p); }
program_39 : first_fault
    ((tree.FunctionItem (routine (int_at 0) (name_at 4 "g")
    ((member (type_at 6 tree.Int ((pointer (sign.Nullable 1) (Some (region_at 11 "a"))) ∷ [])) (name_at 14
    "p")) ∷ []) None [] (Execute (returns 19 (number 26 0)) NoItems) 29)) ∷ (main_at 31 (Declare (tree.NewKey 44 (region_at 66 "r") (name_at 70 "k")) (Declare
    (tree.Local (type_at 87 tree.Int ((pointer (sign.Nullable 1) (Some (region_at 92 "r"))) ∷ [])) (name_at 95 "p") (Initializer.Value (Expression.Null 99)))
    (Execute (Statement.Return 105 (Some (Expression.Call (name_at 112 "g") (MoreExpressions (variable_at 114 "p") NoExpressions)))) NoItems))) 118) ∷ [])
    ≡ Some (fault effect_rule 112)
program_39 = refl

-- int g(int *`a p) { return 0; } int main() { let NewDynamicRegion{<`r> k} = new_ukey(); int *`r p = NULL; { region<`r> h = open(k); g(p); } free_ukey(k);
-- return 0; }
program_40 : first_fault
    ((tree.FunctionItem (routine (int_at 0) (name_at 4 "g")
    ((member (type_at 6 tree.Int ((pointer (sign.Nullable 1) (Some (region_at 11 "a"))) ∷ [])) (name_at 14
    "p")) ∷ []) None [] (Execute (returns 19 (number 26 0)) NoItems) 29)) ∷ (main_at 31 (Declare (tree.NewKey 44 (region_at 66 "r") (name_at 70 "k")) (Declare
    (tree.Local (type_at 87 tree.Int ((pointer (sign.Nullable 1) (Some (region_at 92 "r"))) ∷ [])) (name_at 95 "p") (Initializer.Value (Expression.Null 99)))
    (Execute (Statement.Block 105 (Declare (tree.Open 107 (region_at 114 "r") (name_at 118 "h") (name_at 127 "k")) (Execute (Statement.Run (Expression.Call
    (name_at 131 "g") (MoreExpressions (variable_at 133 "p") NoExpressions))) NoItems))) (Execute (Statement.FreeKey 139 (name_at 149 "k")) (Execute (returns
    153 (number 160 0)) NoItems))))) 163) ∷ [])
    ≡ None
program_40 = refl

-- the region of a key parameter is not in the effect
-- int g(uregion_key_t<`a> k, int *`a p) { free_ukey(k); return 0; } int main() { let NewDynamicRegion{<`r> k} = new_ukey(); int *`r p = NULL; return g(k, p);
-- }
program_41 : first_fault
    ((tree.FunctionItem (routine (int_at 0) (name_at 4 "g") ((member (type_at 6 (tree.Key (region_at 20 "a")) []) (name_at 24 "k")) ∷ (member (type_at 27
    tree.Int ((pointer (sign.Nullable 1) (Some (region_at 32 "a"))) ∷ [])) (name_at 35 "p")) ∷ []) None [] (Execute (Statement.FreeKey 40 (name_at 50 "k"))
    (Execute (returns 54 (number 61 0)) NoItems)) 64)) ∷ (main_at 66 (Declare (tree.NewKey 79 (region_at 101 "r") (name_at 105 "k")) (Declare (tree.Local
    (type_at 122 tree.Int ((pointer (sign.Nullable 1) (Some (region_at 127 "r"))) ∷ [])) (name_at 130 "p") (Initializer.Value (Expression.Null 134))) (Execute
    (Statement.Return 140 (Some (Expression.Call (name_at 147 "g") (MoreExpressions (variable_at 149 "k") (MoreExpressions (variable_at 152 "p")
    NoExpressions))))) NoItems))) 156) ∷ [])
    ≡ None
program_41 = refl

-- int g(uregion_key_t<`a> k, int *`a p) { free_ukey(k); return *p; } int main() { return 0; }
program_42 : first_fault
    ((tree.FunctionItem (routine (int_at 0) (name_at 4 "g") ((member (type_at 6 (tree.Key (region_at 20 "a")) []) (name_at 24 "k")) ∷ (member (type_at 27
    tree.Int ((pointer (sign.Nullable 1) (Some (region_at 32 "a"))) ∷ [])) (name_at 35 "p")) ∷ []) None [] (Execute (Statement.FreeKey 40 (name_at 50 "k"))
    (Execute (returns 54 (Expression.Prefixed 61 Dereference (variable_at 62 "p"))) NoItems)) 65)) ∷ (main_returns 67) ∷ [])
    ≡ Some (fault region_rule 61)
program_42 = refl
