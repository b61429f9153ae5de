-- Wrong types and forms.
use Rattle.std.proofs.Common.{◌≡◌, refl, false, Some, None, [], ◌∷◌}
use Rattle.cyc_tree.specs.declared.expression.Operator.TheVariants.{Equal, Add}
use Rattle.cyc_tree.specs.declared.expression.Prefix.TheVariants.{Dereference, AddressOf}
use Rattle.cyc_tree.specs.declared.name.Sign.TheVariants as sign
use Rattle.cyc_tree.specs.Tree as tree
use Rattle.cyc_tree.specs.Tree.{Expression, NoExpressions, MoreExpressions, NoLinks, MoreLinks, One, Initializer, Case, Default, Statement, NoItems, Declare}
use Rattle.cyc_tree.specs.Tree.{Execute, NoClauses, MoreClauses, Initial}
use Rattle.source_meaning.proofs.Trees.{pointer}
use Rattle.source_typing.specs.Faults.{fault, type_rule}
use Rattle.source_typing.specs.Programs.{typing_fault}
use Rattle.source_typing.proofs.samples.SampleTrees.{name_at, region_at, type_at, int_at, number, variable_at, returns, member, structure, global, routine}
use Rattle.source_typing.proofs.samples.SampleTrees.{main_at, main_returns}

-- int main;
type_1 : typing_fault false
    ((tree.GlobalItem (global (int_at 0) (name_at 4 "main") Initial.Unset)) ∷ [])
    ≡ Some (fault type_rule 4)
type_1 = refl

-- int main() { getchar; return 0; }
type_2 : typing_fault false
    ((main_at 0 (Execute (Statement.Run (variable_at 13 "getchar")) (Execute (returns 22 (number 29 0)) NoItems)) 32) ∷ [])
    ≡ Some (fault type_rule 13)
type_2 = refl

-- int main() { putchar(); return 0; }
type_3 : typing_fault false
    ((main_at 0 (Execute (Statement.Run (Expression.Call (name_at 13 "putchar") NoExpressions)) (Execute (returns 24 (number 31 0)) NoItems)) 34) ∷ [])
    ≡ Some (fault type_rule 13)
type_3 = refl

-- int main() { putchar(NULL); return 0; }
type_4 : typing_fault false
    ((main_at 0 (Execute (Statement.Run (Expression.Call (name_at 13 "putchar") (MoreExpressions (Expression.Null 21) NoExpressions))) (Execute (returns 28
    (number 35 0)) NoItems)) 38) ∷ [])
    ≡ Some (fault type_rule 21)
type_4 = refl

-- int main() { getchar(1); return 0; }
type_5 : typing_fault false
    ((main_at 0 (Execute (Statement.Run (Expression.Call (name_at 13 "getchar") (MoreExpressions (number 21 1) NoExpressions))) (Execute (returns 25 (number 32
    0)) NoItems)) 35) ∷ [])
    ≡ Some (fault type_rule 13)
type_5 = refl

-- int main() { int @p = NULL; return 0; }
type_6 : typing_fault false
    ((main_at 0 (Declare (tree.Local (type_at 13 tree.Int ((pointer (sign.NotNull 1) None) ∷ [])) (name_at 18 "p") (Initializer.Value (Expression.Null 22)))
    (Execute (returns 28 (number 35 0)) NoItems)) 38) ∷ [])
    ≡ Some (fault type_rule 22)
type_6 = refl

-- int main() { int @p; return 0; }
type_7 : typing_fault false
    ((main_at 0 (Declare (tree.Local (type_at 13 tree.Int ((pointer (sign.NotNull 1) None) ∷ [])) (name_at 18 "p") Initializer.Unset)
    (Execute (returns 21 (number
    28 0)) NoItems)) 31) ∷ [])
    ≡ Some (fault type_rule 13)
type_7 = refl

-- int main() { int *p = 3; return 0; }
type_8 : typing_fault false
    ((main_at 0 (Declare (tree.Local (type_at 13 tree.Int ((pointer (sign.Nullable 1) None) ∷ [])) (name_at 18 "p") (Initializer.Value (number 22 3))) (Execute
    (returns 25 (number 32 0)) NoItems)) 35) ∷ [])
    ≡ Some (fault type_rule 22)
type_8 = refl

-- int main() { if (NULL) ; return 0; }
type_9 : typing_fault false
    ((main_at 0 (Execute (Statement.If 13 (Expression.Null 17) (Statement.Empty 23)) (Execute (returns 25 (number 32 0)) NoItems)) 35) ∷ [])
    ≡ Some (fault type_rule 17)
type_9 = refl

-- int main() { NULL == NULL; return 0; }
type_10 : typing_fault false
    ((main_at 0 (Execute (Statement.Run (Expression.Chain (Expression.Null 13) (MoreLinks Equal (Expression.Null 21) NoLinks))) (Execute (returns 27 (number 34
    0)) NoItems)) 37) ∷ [])
    ≡ Some (fault type_rule 13)
type_10 = refl

-- int main() { int x; char y; &x == &y; return 0; }
type_11 : typing_fault false
    ((main_at 0 (Declare (tree.Local (int_at 13) (name_at 17 "x") Initializer.Unset) (Declare (tree.Local (type_at 20 tree.Char []) (name_at 25 "y")
    Initializer.Unset) (Execute (Statement.Run (Expression.Chain (Expression.Prefixed 28 AddressOf (variable_at 29 "x")) (MoreLinks Equal (Expression.Prefixed
    34 AddressOf (variable_at 35 "y")) NoLinks))) (Execute (returns 38 (number 45 0)) NoItems)))) 48) ∷ [])
    ≡ Some (fault type_rule 28)
type_11 = refl

-- int main() { 1 + NULL; return 0; }
type_12 : typing_fault false
    ((main_at 0 (Execute (Statement.Run (Expression.Chain (number 13 1) (MoreLinks Add (Expression.Null 17) NoLinks))) (Execute (returns 23 (number 30 0))
    NoItems)) 33) ∷ [])
    ≡ Some (fault type_rule 13)
type_12 = refl

-- int main() { &1; return 0; }
type_13 : typing_fault false
    ((main_at 0 (Execute (Statement.Run (Expression.Prefixed 13 AddressOf (number 14 1))) (Execute (returns 17 (number 24 0)) NoItems)) 27) ∷ [])
    ≡ Some (fault type_rule 13)
type_13 = refl

-- int main() { *1; return 0; }
type_14 : typing_fault false
    ((main_at 0 (Execute (Statement.Run (Expression.Prefixed 13 Dereference (number 14 1))) (Execute (returns 17 (number 24 0)) NoItems)) 27) ∷ [])
    ≡ Some (fault type_rule 13)
type_14 = refl

-- int main() { 1 = 2; return 0; }
type_15 : typing_fault false
    ((main_at 0 (Execute (Statement.Run (Expression.Assign (number 13 1) (number 17 2))) (Execute (returns 20 (number 27 0)) NoItems)) 30) ∷ [])
    ≡ Some (fault type_rule 13)
type_15 = refl

-- int main() { int ?`U p = NULL; return 0; }
type_16 : typing_fault false
    ((main_at 0 (Declare (tree.Local (type_at 13 tree.Int ((pointer sign.Fat (Some (tree.Unique 18))) ∷ [])) (name_at 21 "p") (Initializer.Value
    (Expression.Null 25))) (Execute (returns 31 (number 38 0)) NoItems)) 41) ∷ [])
    ≡ Some (fault type_rule 13)
type_16 = refl

-- int main() { unique_region; return 0; }
type_17 : typing_fault false
    ((main_at 0 (Execute (Statement.Run (Expression.UniqueRegion 13)) (Execute (returns 28 (number 35 0)) NoItems)) 38) ∷ [])
    ≡ Some (fault type_rule 13)
type_17 = refl

-- int main() { rnew(3) 4; return 0; }
type_18 : typing_fault false
    ((main_at 0 (Execute (Statement.Run (Expression.NewIn 13 (number 18 3) (One (number 21 4)))) (Execute (returns 24 (number 31 0)) NoItems)) 34) ∷ [])
    ≡ Some (fault type_rule 13)
type_18 = refl

-- int main() { int g; rnew(g) NULL; return 0; }
type_19 : typing_fault false
    ((main_at 0 (Declare (tree.Local (int_at 13) (name_at 17 "g") Initializer.Unset) (Execute (Statement.Run (Expression.NewIn 20 (variable_at 25 "g") (One
    (Expression.Null 28)))) (Execute (returns 34 (number 41 0)) NoItems))) 44) ∷ [])
    ≡ Some (fault type_rule 20)
type_19 = refl

-- int *`r f(int *`r p) { return p; } int main() { int g; rnew(g) f(NULL); return 0; }
type_20 : typing_fault false
    ((tree.FunctionItem (routine (type_at 0 tree.Int ((pointer (sign.Nullable 1) (Some (region_at 5 "r"))) ∷ [])) (name_at 8 "f") ((member (type_at 10 tree.Int
    ((pointer (sign.Nullable 1) (Some (region_at 15 "r"))) ∷ [])) (name_at 18 "p")) ∷ []) None [] (Execute (returns 23 (variable_at 30 "p")) NoItems) 33)) ∷
    (main_at 35 (Declare (tree.Local (int_at 48) (name_at 52 "g") Initializer.Unset) (Execute (Statement.Run (Expression.NewIn 55 (variable_at 60 "g") (One
    (Expression.Call (name_at 63 "f") (MoreExpressions (Expression.Null 65) NoExpressions))))) (Execute (returns 72 (number 79 0)) NoItems))) 82) ∷ [])
    ≡ Some (fault type_rule 55)
type_20 = refl

-- struct S { int a; int b; }; int main() { struct S s = S(1, 2); s = S(1); return 0; }
type_21 : typing_fault false
    ((tree.StructItem (structure 0 (name_at 7 "S") [] ((member (int_at 11) (name_at 15 "a")) ∷ (member (int_at 18) (name_at 22 "b")) ∷ []))) ∷ (main_at 28
    (Declare (tree.Local (type_at 41 (tree.Struct (name_at 48 "S") []) []) (name_at 50 "s") (Initializer.Value (Expression.Call (name_at 54 "S")
    (MoreExpressions (number 56 1) (MoreExpressions (number 59 2) NoExpressions))))) (Execute (Statement.Run (Expression.Assign (variable_at 63 "s")
    (Expression.Call (name_at 67 "S") (MoreExpressions (number 69 1) NoExpressions)))) (Execute (returns 73 (number 80 0)) NoItems))) 83) ∷ [])
    ≡ Some (fault type_rule 67)
type_21 = refl

-- struct S<`r> { int *`r p; }; int f(struct S s) { return 0; } int main() { return 0; }
type_22 : typing_fault false
    ((tree.StructItem (structure 0 (name_at 7 "S") ((region_at 9 "r") ∷ [])
    ((member (type_at 15 tree.Int ((pointer (sign.Nullable 1) (Some (region_at 20 "r"))) ∷
    [])) (name_at 23 "p")) ∷ []))) ∷ (tree.FunctionItem (routine (int_at 29) (name_at 33 "f") ((member (type_at 35 (tree.Struct (name_at 42 "S") []) [])
    (name_at 44 "s")) ∷ []) None [] (Execute (returns 49 (number 56 0)) NoItems) 59)) ∷ (main_returns 61) ∷ [])
    ≡ Some (fault type_rule 35)
type_22 = refl

-- struct S { struct S s; }; int main() { return 0; }
type_23 : typing_fault false
    ((tree.StructItem (structure 0 (name_at 7 "S") [] ((member (type_at 11 (tree.Struct (name_at 18 "S") []) []) (name_at 20 "s")) ∷ []))) ∷ (main_returns 26)
    ∷ [])
    ≡ Some (fault type_rule 11)
type_23 = refl

-- struct S { void x; }; int main() { return 0; }
type_24 : typing_fault false
    ((tree.StructItem (structure 0 (name_at 7 "S") [] ((member (type_at 11 tree.Void []) (name_at 16 "x")) ∷ []))) ∷ (main_returns 22) ∷ [])
    ≡ Some (fault type_rule 11)
type_24 = refl

-- struct S { int ?`U x; }; int main() { return 0; }
type_25 : typing_fault false
    ((tree.StructItem (structure 0 (name_at 7 "S") [] ((member (type_at 11 tree.Int ((pointer sign.Fat (Some (tree.Unique 16))) ∷ [])) (name_at 19 "x")) ∷
    []))) ∷ (main_returns 25) ∷ [])
    ≡ Some (fault type_rule 11)
type_25 = refl

-- @tagged union U { int a; char b; }; int main() { union U u = U.a(3); switch (u) { case {.a = x}: x; break; } return 0; }
type_26 : typing_fault false
    ((tree.UnionItem (structure 0 (name_at 14 "U") [] ((member (int_at 18) (name_at 22 "a")) ∷ (member (type_at 25 tree.Char []) (name_at 30 "b")) ∷ []))) ∷
    (main_at 36 (Declare (tree.Local (type_at 49 (tree.Union (name_at 55 "U") []) []) (name_at 57 "u") (Initializer.Value (Expression.MakeUnion (name_at 61
    "U") (name_at 63 "a") (number 65 3)))) (Execute (Statement.Switch 69 (variable_at 77 "u") (MoreClauses 82 (Case (name_at 89 "a") (name_at 93 "x"))
    (Execute (Statement.Run (variable_at 97 "x")) (Execute (Statement.Break 100) NoItems)) NoClauses)) (Execute (returns 109 (number 116 0)) NoItems))) 119) ∷
    [])
    ≡ Some (fault type_rule 69)
type_26 = refl

-- @tagged union U { int a; char b; }; int main() { union U u = U.a(3); switch (u) { case {.a = x}: x; case {.b = y}: break; } return 0; }
type_27 : typing_fault false
    ((tree.UnionItem (structure 0 (name_at 14 "U") [] ((member (int_at 18) (name_at 22 "a")) ∷ (member (type_at 25 tree.Char []) (name_at 30 "b")) ∷ []))) ∷
    (main_at 36 (Declare (tree.Local (type_at 49 (tree.Union (name_at 55 "U") []) []) (name_at 57 "u") (Initializer.Value (Expression.MakeUnion (name_at 61
    "U") (name_at 63 "a") (number 65 3)))) (Execute (Statement.Switch 69 (variable_at 77 "u") (MoreClauses 82 (Case (name_at 89 "a") (name_at 93 "x"))
    (Execute (Statement.Run (variable_at 97 "x")) NoItems) (MoreClauses 100 (Case (name_at 107 "b") (name_at 111 "y")) (Execute (Statement.Break 115) NoItems)
    NoClauses))) (Execute (returns 124 (number 131 0)) NoItems))) 134) ∷ [])
    ≡ Some (fault type_rule 82)
type_27 = refl

-- @tagged union U { int a; char b; }; int main() { union U u; return 0; }
type_28 : typing_fault false
    ((tree.UnionItem (structure 0 (name_at 14 "U") [] ((member (int_at 18) (name_at 22 "a")) ∷ (member (type_at 25 tree.Char []) (name_at 30 "b")) ∷ []))) ∷
    (main_at 36 (Declare (tree.Local (type_at 49 (tree.Union (name_at 55 "U") []) []) (name_at 57 "u") Initializer.Unset) (Execute (returns 60 (number 67 0))
    NoItems)) 70) ∷ [])
    ≡ Some (fault type_rule 49)
type_28 = refl

-- @tagged union U { int *`U a; }; int main() { return 0; }
type_29 : typing_fault false
    ((tree.UnionItem (structure 0 (name_at 14 "U") []
    ((member (type_at 18 tree.Int ((pointer (sign.Nullable 1) (Some (tree.Unique 23))) ∷ [])) (name_at 26 "a")) ∷
    []))) ∷ (main_returns 32) ∷ [])
    ≡ Some (fault type_rule 18)
type_29 = refl

-- int main() { switch (1) { default: break; } return 0; }
type_30 : typing_fault false
    ((main_at 0 (Execute (Statement.Switch 13 (number 21 1) (MoreClauses 26 Default (Execute (Statement.Break 35) NoItems) NoClauses)) (Execute (returns 44
    (number 51 0)) NoItems)) 54) ∷ [])
    ≡ Some (fault type_rule 13)
type_30 = refl
