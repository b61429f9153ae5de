-- Functions, effects that are written, and region parameters of structs.
use Rattle.std.proofs.Common.{◌≡◌, refl, true, false, Some, None, [], ◌∷◌}
use Rattle.cyc_tree.specs.declared.expression.Operator.TheVariants.{Less, Add, Subtract}
use Rattle.cyc_tree.specs.declared.name.Sign.TheVariants as sign
use Rattle.cyc_tree.specs.Tree as tree
use Rattle.cyc_tree.specs.Tree.{Expression, NoExpressions, MoreExpressions, NoLinks, MoreLinks, NoSuffixes, Index, Arrow, One, Initializer, Default}
use Rattle.cyc_tree.specs.Tree.{Statement, NoItems, Declare, Execute, NoClauses, MoreClauses, Constant, Initial}
use Rattle.source_meaning.proofs.Trees.{pointer}
use Rattle.source_typing.specs.Faults.{fault, name_rule, region_rule}
use Rattle.source_typing.specs.Answers.{first_fault}
use Rattle.source_typing.proofs.samples.SampleTrees.{name_at, region_at, type_at, int_at, number, variable_at, returns, member, structure, global}
use Rattle.source_typing.proofs.samples.SampleTrees.{routine, main_at, main_returns}

-- unsigned f(unsigned n, char c) { if (n < 2) return n; return f(n - 1, c) + f(n - 2, 'a'); } void g(int x) { putchar(x); } int i = -3; char c = 'x'; unsigned
-- u; int main() { g(i + 1u); return f(20, c); }
functions_1 : first_fault
    ((tree.FunctionItem (routine (type_at 0 tree.Unsigned []) (name_at 9 "f") ((member (type_at 11 tree.Unsigned []) (name_at 20 "n")) ∷ (member (type_at 23
    tree.Char []) (name_at 28 "c")) ∷ []) None [] (Execute (Statement.If 33 (Expression.Chain (variable_at 37 "n") (MoreLinks Less (number 41 2) NoLinks))
    (returns 44 (variable_at 51 "n"))) (Execute (Statement.Return 54 (Some (Expression.Chain (Expression.Call (name_at 61 "f") (MoreExpressions
    (Expression.Chain (variable_at 63 "n") (MoreLinks Subtract (number 67 1) NoLinks)) (MoreExpressions (variable_at 70 "c") NoExpressions))) (MoreLinks Add
    (Expression.Call (name_at 75 "f") (MoreExpressions (Expression.Chain (variable_at 77 "n") (MoreLinks Subtract (number 81 2) NoLinks)) (MoreExpressions
    (Expression.Character 84 97) NoExpressions))) NoLinks)))) NoItems)) 90)) ∷ (tree.FunctionItem (routine (type_at 92 tree.Void []) (name_at 97 "g") ((member
    (int_at 99) (name_at 103 "x")) ∷ []) None [] (Execute (Statement.Run (Expression.Call (name_at 108 "putchar") (MoreExpressions (variable_at 116 "x")
    NoExpressions))) NoItems) 120)) ∷ (tree.GlobalItem (global (int_at 122) (name_at 126 "i") (Initial.Given (Constant.Negative 130 3 false)))) ∷
    (tree.GlobalItem (global (type_at 134 tree.Char []) (name_at 139 "c") (Initial.Given (Constant.Character 143 120)))) ∷ (tree.GlobalItem (global (type_at
    148 tree.Unsigned []) (name_at 157 "u") Initial.Unset)) ∷ (main_at 160 (Execute (Statement.Run (Expression.Call (name_at 173 "g") (MoreExpressions
    (Expression.Chain (variable_at 175 "i") (MoreLinks Add (Expression.Number 179 1 true) NoLinks)) NoExpressions))) (Execute (Statement.Return 184 (Some
    (Expression.Call (name_at 191 "f") (MoreExpressions (number 193 20) (MoreExpressions (variable_at 197 "c") NoExpressions))))) NoItems)) 201) ∷ [])
    ≡ None
functions_1 = refl

-- int main() { return nope->y; }
names_1 : first_fault
    ((main_at 0 (Execute (Statement.Return 13 (Some (Expression.Suffixed (variable_at 20 "nope") (Arrow (name_at 26 "y") NoSuffixes)))) NoItems) 29) ∷ [])
    ≡ Some (fault name_rule 20)
names_1 = refl

-- int f(int x; {`r}) { return 0; } int main() { return 0; }
effects_1 : first_fault
    ((tree.FunctionItem (routine (int_at 0) (name_at 4 "f") ((member (int_at 6) (name_at 10 "x")) ∷ []) (Some ((region_at 14 "r") ∷ [])) [] (Execute (returns
    21 (number 28 0)) NoItems) 31)) ∷ (main_returns 33) ∷ [])
    ≡ Some (fault region_rule 14)
effects_1 = refl

-- int f(int x; {}) { return 0; } int main() { return 0; }
effects_2 : first_fault
    ((tree.FunctionItem (routine (int_at 0) (name_at 4 "f") ((member (int_at 6) (name_at 10 "x")) ∷ []) (Some []) [] (Execute (returns 19 (number 26 0))
    NoItems) 29)) ∷ (main_returns 31) ∷ [])
    ≡ None
effects_2 = refl

-- struct S<`r> { struct T x; }; int main() { return 0; }
parameters_1 : first_fault
    ((tree.StructItem (structure 0 (name_at 7 "S") (region_at 9 "r" ∷ []) ((member (type_at 15 (tree.Struct (name_at 22 "T") []) []) (name_at 24 "x")) ∷ [])))
    ∷ (main_returns 30) ∷ [])
    ≡ Some (fault name_rule 22)
parameters_1 = refl

-- struct S { int x; }; int main() { struct S<`H> x; return 0; }
parameters_2 : first_fault
    ((tree.StructItem (structure 0 (name_at 7 "S") [] ((member (int_at 11) (name_at 15 "x")) ∷ []))) ∷ (main_at 21 (Declare (tree.Local (type_at 34
    (tree.Struct (name_at 41 "S") (tree.Heap 43 ∷ [])) []) (name_at 47 "x") Initializer.Unset) (Execute (returns 50 (number 57 0)) NoItems)) 60) ∷ [])
    ≡ Some (fault region_rule 34)
parameters_2 = refl

-- struct S<`r> { int *`r p; }; int main() { struct S<`H> x; return 0; }
parameters_3 : first_fault
    ((tree.StructItem (structure 0 (name_at 7 "S") (region_at 9 "r" ∷ []) ((member (type_at 15 tree.Int ((pointer (sign.Nullable 1) (Some (region_at 20 "r"))) ∷
    [])) (name_at 23 "p")) ∷ []))) ∷ (main_at 29 (Declare (tree.Local (type_at 42 (tree.Struct (name_at 49 "S") (tree.Heap 51 ∷ [])) []) (name_at 55 "x")
    Initializer.Unset) (Execute (returns 58 (number 65 0)) NoItems)) 68) ∷ [])
    ≡ None
parameters_3 = refl

-- struct S<`r> { int x; }; int main() { struct S<`H, `H> x; return 0; }
parameters_4 : first_fault
    ((tree.StructItem (structure 0 (name_at 7 "S") (region_at 9 "r" ∷ []) ((member (int_at 15) (name_at 19 "x")) ∷ []))) ∷ (main_at 25 (Declare (tree.Local
    (type_at 38 (tree.Struct (name_at 45 "S") (tree.Heap 47 ∷ tree.Heap 51 ∷ [])) []) (name_at 55 "x") Initializer.Unset) (Execute (returns 58 (number 65 0))
    NoItems)) 68) ∷ [])
    ≡ Some (fault region_rule 38)
parameters_4 = refl

-- struct S<`r> { int x; }; int main() { struct S<`U> x; return 0; }
parameters_5 : first_fault
    ((tree.StructItem (structure 0 (name_at 7 "S") (region_at 9 "r" ∷ []) ((member (int_at 15) (name_at 19 "x")) ∷ []))) ∷ (main_at 25 (Declare (tree.Local
    (type_at 38 (tree.Struct (name_at 45 "S") (tree.Unique 47 ∷ [])) []) (name_at 51 "x") Initializer.Unset) (Execute (returns 54 (number 61 0)) NoItems)) 64)
    ∷ [])
    ≡ Some (fault region_rule 47)
parameters_5 = refl

-- struct S<`r, `r> { int x; }; int main() { return 0; }
parameters_6 : first_fault
    ((tree.StructItem (structure 0 (name_at 7 "S") (region_at 9 "r" ∷ region_at 13 "r" ∷ []) ((member (int_at 19) (name_at 23 "x")) ∷ []))) ∷ (main_returns 29)
    ∷ [])
    ≡ Some (fault region_rule 13)
parameters_6 = refl
