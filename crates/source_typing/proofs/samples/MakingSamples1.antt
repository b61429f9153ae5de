-- Making and calls.
use Rattle.std.proofs.Common.{◌≡◌, refl, Some, None, [], ◌∷◌}
use Rattle.cyc_tree.specs.declared.expression.Operator.TheVariants.{Add}
use Rattle.cyc_tree.specs.declared.expression.Prefix.TheVariants.{AddressOf}
use Rattle.cyc_tree.specs.declared.name.Sign.TheVariants as sign
use Rattle.cyc_tree.specs.Tree as tree
use Rattle.cyc_tree.specs.Tree.{Expression, NoExpressions, MoreExpressions, NoLinks, MoreLinks, One, Array, Initializer, Statement, NoItems, Declare, Execute}
use Rattle.source_meaning.proofs.Trees.{pointer}
use Rattle.source_typing.specs.Faults.{fault, name_rule, type_rule, region_rule, outlives_rule}
use Rattle.source_typing.specs.Answers.{first_fault}
use Rattle.source_typing.proofs.samples.SampleTrees.{name_at, region_at, type_at, int_at, number, variable_at, returns, member, structure, routine, main_at}
use Rattle.source_typing.proofs.samples.SampleTrees.{main_returns}

-- int main() { new NULL; return 0; }
making_1 : first_fault
    ((main_at 0 (Execute (Statement.Run (Expression.New 13 (One (Expression.Null 17)))) (Execute (returns 23 (number 30 0)) NoItems)) 33) ∷ [])
    ≡ Some (fault type_rule 13)
making_1 = refl

-- void f() { } int main() { f(); new f(); return 0; }
making_2 : first_fault
    ((tree.FunctionItem (routine (type_at 0 tree.Void []) (name_at 5 "f") [] None [] NoItems 11)) ∷ (main_at 13 (Execute (Statement.Run (Expression.Call
    (name_at 26 "f") NoExpressions)) (Execute (Statement.Run (Expression.New 31 (One (Expression.Call (name_at 35 "f") NoExpressions)))) (Execute (returns 40
    (number 47 0)) NoItems))) 50) ∷ [])
    ≡ Some (fault type_rule 31)
making_2 = refl

-- int main() { let NewDynamicRegion{<`r> k} = new_ukey(); new k; return 0; }
making_3 : first_fault
    ((main_at 0 (Declare (tree.NewKey 13 (region_at 35 "r") (name_at 39 "k")) (Execute (Statement.Run (Expression.New 56 (One (variable_at 60 "k")))) (Execute
    (returns 63 (number 70 0)) NoItems))) 73) ∷ [])
    ≡ Some (fault type_rule 56)
making_3 = refl

-- int main() { int h; int *p = rnew(h) 1; return 0; }
making_4 : first_fault
    ((main_at 0 (Declare (tree.Local (int_at 13) (name_at 17 "h") Initializer.Unset)
    (Declare (tree.Local (type_at 20 tree.Int ((pointer (sign.Nullable 1) None) ∷
    [])) (name_at 25 "p") (Initializer.Value (Expression.NewIn 29 (variable_at 34 "h") (One (number 37 1))))) (Execute (returns 40 (number 47 0)) NoItems)))
    50) ∷ [])
    ≡ Some (fault type_rule 29)
making_4 = refl

-- the operand is not checked, since nothing fixes its region
-- int *`r f(int *`r p) { return p; } int main() { int h; int *p = rnew(h) f(NULL); return 0; }
making_5 : first_fault
    ((tree.FunctionItem (routine (type_at 0 tree.Int ((pointer (sign.Nullable 1) (Some (region_at 5 "r"))) ∷ [])) (name_at 8 "f") ((member (type_at 10 tree.Int
    ((pointer (sign.Nullable 1) (Some (region_at 15 "r"))) ∷ [])) (name_at 18 "p")) ∷ []) None [] (Execute (returns 23 (variable_at 30 "p")) NoItems) 33)) ∷
    (main_at 35 (Declare (tree.Local (int_at 48) (name_at 52 "h") Initializer.Unset)
    (Declare (tree.Local (type_at 55 tree.Int ((pointer (sign.Nullable 1) None) ∷
    [])) (name_at 60 "p") (Initializer.Value (Expression.NewIn 64 (variable_at 69 "h") (One (Expression.Call (name_at 72 "f") (MoreExpressions
    (Expression.Null 74) NoExpressions)))))) (Execute (returns 81 (number 88 0)) NoItems))) 91) ∷ [])
    ≡ Some (fault type_rule 64)
making_5 = refl

-- int main() { int *p = rnew(unique_region + 1) 1; return 0; }
making_6 : first_fault
    ((main_at 0 (Declare (tree.Local (type_at 13 tree.Int ((pointer (sign.Nullable 1) None) ∷ [])) (name_at 18 "p") (Initializer.Value (Expression.NewIn 22
    (Expression.Chain (Expression.UniqueRegion 27) (MoreLinks Add (number 43 1) NoLinks)) (One (number 46 1))))) (Execute (returns 49 (number 56 0)) NoItems))
    59) ∷ [])
    ≡ Some (fault type_rule 27)
making_6 = refl

-- int main() { int *`U p = rnew((unique_region)) 1; ufree(p); return 0; }
making_7 : first_fault
    ((main_at 0 (Declare (tree.Local (type_at 13 tree.Int ((pointer (sign.Nullable 1) (Some (tree.Unique 18))) ∷ [])) (name_at 21 "p") (Initializer.Value
    (Expression.NewIn 25 (Expression.Grouped 30 (Expression.UniqueRegion 31)) (One (number 47 1))))) (Execute (Statement.FreeUnique 50 (name_at 56 "p"))
    (Execute (returns 60 (number 67 0)) NoItems))) 70) ∷ [])
    ≡ None
making_7 = refl

-- int main() { int ?p = rnew(unique_region) {for i < 2 : 1}; return 0; }
making_8 : first_fault
    ((main_at 0 (Declare (tree.Local (type_at 13 tree.Int ((pointer sign.Fat None) ∷ [])) (name_at 18 "p") (Initializer.Value (Expression.NewIn 22
    (Expression.UniqueRegion 27) (Array (name_at 47 "i") (number 51 2) (number 55 1))))) (Execute (returns 59 (number 66 0)) NoItems)) 69) ∷ [])
    ≡ Some (fault type_rule 22)
making_8 = refl

-- int main() { int ?p = new {for i < NULL : 1}; return 0; }
making_9 : first_fault
    ((main_at 0 (Declare (tree.Local (type_at 13 tree.Int ((pointer sign.Fat None) ∷ [])) (name_at 18 "p") (Initializer.Value (Expression.New 22 (Array
    (name_at 31 "i") (Expression.Null 35) (number 42 1))))) (Execute (returns 46 (number 53 0)) NoItems)) 56) ∷ [])
    ≡ Some (fault type_rule 22)
making_9 = refl

-- the index is no place
-- int main() { int ?p = new {for i < 2 : i = 1}; return 0; }
making_10 : first_fault
    ((main_at 0 (Declare (tree.Local (type_at 13 tree.Int ((pointer sign.Fat None) ∷ [])) (name_at 18 "p") (Initializer.Value (Expression.New 22 (Array
    (name_at 31 "i") (number 35 2) (Expression.Assign (variable_at 39 "i") (number 43 1)))))) (Execute (returns 47 (number 54 0)) NoItems)) 57) ∷ [])
    ≡ Some (fault type_rule 39)
making_10 = refl

-- int main() { region<`r> h; unsigned ?`r p = rnew(h) {for i < 2 : i}; return 0; }
making_11 : first_fault
    ((main_at 0 (Declare (tree.Region 13 (region_at 20 "r") (name_at 24 "h")) (Declare (tree.Local (type_at 27 tree.Unsigned ((pointer sign.Fat (Some
    (region_at 37 "r"))) ∷ [])) (name_at 40 "p") (Initializer.Value (Expression.NewIn 44 (variable_at 49 "h") (Array (name_at 57 "i") (number 61 2)
    (variable_at 65 "i"))))) (Execute (returns 69 (number 76 0)) NoItems))) 79) ∷ [])
    ≡ None
making_11 = refl

-- int f(region_t<`r> h; {}) { int *`r p = rnew(h) 1; return 0; } int main() { return 0; }
making_12 : first_fault
    ((tree.FunctionItem (routine (int_at 0) (name_at 4 "f") ((member (type_at 6 (tree.Handle (region_at 15 "r")) []) (name_at 19 "h")) ∷ []) (Some []) []
    (Declare (tree.Local (type_at 28 tree.Int ((pointer (sign.Nullable 1) (Some (region_at 33 "r"))) ∷ [])) (name_at 36 "p")
    (Initializer.Value (Expression.NewIn
    40 (variable_at 45 "h") (One (number 48 1))))) (Execute (returns 51 (number 58 0)) NoItems)) 61)) ∷ (main_returns 63) ∷ [])
    ≡ Some (fault region_rule 45)
making_12 = refl

-- int f(region_t<`r> h; {}) { int *`r p = rnew((h)) 1; return 0; } int main() { return 0; }
making_13 : first_fault
    ((tree.FunctionItem (routine (int_at 0) (name_at 4 "f") ((member (type_at 6 (tree.Handle (region_at 15 "r")) []) (name_at 19 "h")) ∷ []) (Some []) []
    (Declare (tree.Local (type_at 28 tree.Int ((pointer (sign.Nullable 1) (Some (region_at 33 "r"))) ∷ [])) (name_at 36 "p")
    (Initializer.Value (Expression.NewIn
    40 (Expression.Grouped 45 (variable_at 46 "h")) (One (number 50 1))))) (Execute (returns 53 (number 60 0)) NoItems)) 63)) ∷ (main_returns 65) ∷ [])
    ≡ Some (fault region_rule 45)
making_13 = refl

-- struct S<`r> { int *`r p; }; int main() { region<`r> h; struct S<`r> @`r s = rnew(h) S(NULL); struct S<`H> @`r t = s; return 0; }
making_14 : first_fault
    ((tree.StructItem (structure 0 (name_at 7 "S") ((region_at 9 "r") ∷ [])
    ((member (type_at 15 tree.Int ((pointer (sign.Nullable 1) (Some (region_at 20 "r"))) ∷
    [])) (name_at 23 "p")) ∷ []))) ∷ (main_at 29 (Declare (tree.Region 42 (region_at 49 "r") (name_at 53 "h")) (Declare (tree.Local (type_at 56 (tree.Struct
    (name_at 63 "S") ((region_at 65 "r") ∷ [])) ((pointer (sign.NotNull 1) (Some (region_at 70 "r"))) ∷ [])) (name_at 73 "s")
    (Initializer.Value (Expression.NewIn
    77 (variable_at 82 "h") (One (Expression.Call (name_at 85 "S") (MoreExpressions (Expression.Null 87) NoExpressions)))))) (Declare (tree.Local (type_at 94
    (tree.Struct (name_at 101 "S") ((tree.Heap 103) ∷ [])) ((pointer (sign.NotNull 1) (Some (region_at 108 "r"))) ∷ [])) (name_at 111 "t") (Initializer.Value
    (variable_at 115 "s"))) (Execute (returns 118 (number 125 0)) NoItems)))) 128) ∷ [])
    ≡ Some (fault outlives_rule 115)
making_14 = refl

-- what nothing fixes is the region of the enclosing `rnew`
-- struct S<`r> { int *`r p; }; int main() { region<`r> h; struct S<`r> @`r s = rnew(h) S(NULL); return 0; }
making_15 : first_fault
    ((tree.StructItem (structure 0 (name_at 7 "S") ((region_at 9 "r") ∷ [])
    ((member (type_at 15 tree.Int ((pointer (sign.Nullable 1) (Some (region_at 20 "r"))) ∷
    [])) (name_at 23 "p")) ∷ []))) ∷ (main_at 29 (Declare (tree.Region 42 (region_at 49 "r") (name_at 53 "h")) (Declare (tree.Local (type_at 56 (tree.Struct
    (name_at 63 "S") ((region_at 65 "r") ∷ [])) ((pointer (sign.NotNull 1) (Some (region_at 70 "r"))) ∷ [])) (name_at 73 "s")
    (Initializer.Value (Expression.NewIn
    77 (variable_at 82 "h") (One (Expression.Call (name_at 85 "S") (MoreExpressions (Expression.Null 87) NoExpressions)))))) (Execute (returns 94 (number 101
    0)) NoItems))) 104) ∷ [])
    ≡ None
making_15 = refl

-- struct S<`r> { int *`r p; }; int main() { region<`r> h; struct S<`r> s = S(NULL); return 0; }
making_16 : first_fault
    ((tree.StructItem (structure 0 (name_at 7 "S") ((region_at 9 "r") ∷ [])
    ((member (type_at 15 tree.Int ((pointer (sign.Nullable 1) (Some (region_at 20 "r"))) ∷
    [])) (name_at 23 "p")) ∷ []))) ∷ (main_at 29 (Declare (tree.Region 42 (region_at 49 "r") (name_at 53 "h")) (Declare (tree.Local (type_at 56 (tree.Struct
    (name_at 63 "S") ((region_at 65 "r") ∷ [])) []) (name_at 69 "s") (Initializer.Value (Expression.Call (name_at 73 "S") (MoreExpressions (Expression.Null
    75) NoExpressions)))) (Execute (returns 82 (number 89 0)) NoItems))) 92) ∷ [])
    ≡ Some (fault outlives_rule 73)
making_16 = refl

-- struct S<`r> { int *`r p; }; int main() { struct S<`H> *`U s = rnew(unique_region) S(NULL); return 0; }
making_17 : first_fault
    ((tree.StructItem (structure 0 (name_at 7 "S") ((region_at 9 "r") ∷ [])
    ((member (type_at 15 tree.Int ((pointer (sign.Nullable 1) (Some (region_at 20 "r"))) ∷
    [])) (name_at 23 "p")) ∷ [])))
    ∷ (main_at 29 (Declare (tree.Local (type_at 42 (tree.Struct (name_at 49 "S") ((tree.Heap 51) ∷ [])) ((pointer (sign.Nullable 1)
    (Some (tree.Unique 56))) ∷ [])) (name_at 59 "s") (Initializer.Value (Expression.NewIn 63 (Expression.UniqueRegion 68) (One (Expression.Call (name_at 83
    "S") (MoreExpressions (Expression.Null 85) NoExpressions)))))) (Execute (returns 92 (number 99 0)) NoItems)) 102) ∷ [])
    ≡ Some (fault region_rule 83)
making_17 = refl

-- int f(int *`r p) { return 0; } int main() { int *`U p = NULL; return f(p); }
making_18 : first_fault
    ((tree.FunctionItem (routine (int_at 0) (name_at 4 "f")
    ((member (type_at 6 tree.Int ((pointer (sign.Nullable 1) (Some (region_at 11 "r"))) ∷ [])) (name_at 14
    "p")) ∷ []) None [] (Execute (returns 19 (number 26 0)) NoItems) 29)) ∷ (main_at 31 (Declare (tree.Local (type_at 44 tree.Int ((pointer (sign.Nullable 1)
    (Some (tree.Unique 49))) ∷ [])) (name_at 52 "p") (Initializer.Value (Expression.Null 56))) (Execute (Statement.Return 62 (Some (Expression.Call (name_at
    69 "f") (MoreExpressions (variable_at 71 "p") NoExpressions)))) NoItems)) 75) ∷ [])
    ≡ Some (fault region_rule 71)
making_18 = refl

-- the other arguments are converted to the regions that are known
-- int f(int *`r p, int *`s q) { return 0; } int main() { int x; int *`U u = NULL; return f(&x, u); }
making_19 : first_fault
    ((tree.FunctionItem (routine (int_at 0) (name_at 4 "f")
    ((member (type_at 6 tree.Int ((pointer (sign.Nullable 1) (Some (region_at 11 "r"))) ∷ [])) (name_at 14
    "p")) ∷ (member (type_at 17 tree.Int ((pointer (sign.Nullable 1) (Some (region_at 22 "s"))) ∷ [])) (name_at 25 "q")) ∷ []) None [] (Execute (returns 30
    (number 37 0)) NoItems) 40)) ∷ (main_at 42 (Declare (tree.Local (int_at 55) (name_at 59 "x") Initializer.Unset) (Declare (tree.Local (type_at 62 tree.Int
    ((pointer (sign.Nullable 1) (Some (tree.Unique 67))) ∷ [])) (name_at 70 "u") (Initializer.Value (Expression.Null 74))) (Execute (Statement.Return 80 (Some
    (Expression.Call (name_at 87 "f") (MoreExpressions (Expression.Prefixed 89 AddressOf (variable_at 90 "x")) (MoreExpressions (variable_at 93 "u")
    NoExpressions))))) NoItems))) 97) ∷ [])
    ≡ Some (fault region_rule 93)
making_19 = refl

-- int f(int *`r o, int *`r p, int *`s q) { return 0; } int main() { int *`H h = NULL; int x; int *`U u = NULL; return f(h, &x, u); }
making_20 : first_fault
    ((tree.FunctionItem (routine (int_at 0) (name_at 4 "f")
    ((member (type_at 6 tree.Int ((pointer (sign.Nullable 1) (Some (region_at 11 "r"))) ∷ [])) (name_at 14
    "o")) ∷ (member (type_at 17 tree.Int ((pointer (sign.Nullable 1) (Some (region_at 22 "r"))) ∷ [])) (name_at 25 "p"))
    ∷ (member (type_at 28 tree.Int ((pointer
    (sign.Nullable 1) (Some (region_at 33 "s"))) ∷ [])) (name_at 36 "q")) ∷ []) None [] (Execute (returns 41 (number 48 0)) NoItems) 51)) ∷ (main_at 53 (Declare
    (tree.Local (type_at 66 tree.Int ((pointer (sign.Nullable 1) (Some (tree.Heap 71))) ∷ [])) (name_at 74 "h")
    (Initializer.Value (Expression.Null 78))) (Declare
    (tree.Local (int_at 84) (name_at 88 "x") Initializer.Unset) (Declare (tree.Local (type_at 91 tree.Int ((pointer (sign.Nullable 1) (Some (tree.Unique 96))) ∷
    [])) (name_at 99 "u") (Initializer.Value (Expression.Null 103))) (Execute (Statement.Return 109 (Some (Expression.Call (name_at 116 "f") (MoreExpressions
    (variable_at 118 "h") (MoreExpressions (Expression.Prefixed 121 AddressOf (variable_at 122 "x")) (MoreExpressions (variable_at 125 "u")
    NoExpressions)))))) NoItems)))) 129) ∷ [])
    ≡ Some (fault outlives_rule 121)
making_20 = refl

-- int f(int *`r p) { return 0; } int main() { char *`U u = NULL; return f(u); }
making_21 : first_fault
    ((tree.FunctionItem (routine (int_at 0) (name_at 4 "f")
    ((member (type_at 6 tree.Int ((pointer (sign.Nullable 1) (Some (region_at 11 "r"))) ∷ [])) (name_at 14
    "p")) ∷ []) None [] (Execute (returns 19 (number 26 0)) NoItems) 29)) ∷ (main_at 31 (Declare (tree.Local (type_at 44 tree.Char ((pointer (sign.Nullable 1)
    (Some (tree.Unique 50))) ∷ [])) (name_at 53 "u") (Initializer.Value (Expression.Null 57))) (Execute (Statement.Return 63 (Some (Expression.Call (name_at
    70 "f") (MoreExpressions (variable_at 72 "u") NoExpressions)))) NoItems)) 76) ∷ [])
    ≡ Some (fault type_rule 72)
making_21 = refl

-- int *`r f(int *`r p, int q) { return p; } int main() { int h; int *p = rnew(h) f(NULL, NULL); return 0; }
making_22 : first_fault
    ((tree.FunctionItem (routine (type_at 0 tree.Int ((pointer (sign.Nullable 1) (Some (region_at 5 "r"))) ∷ [])) (name_at 8 "f") ((member (type_at 10 tree.Int
    ((pointer (sign.Nullable 1) (Some (region_at 15 "r"))) ∷ [])) (name_at 18 "p")) ∷ (member (int_at 21) (name_at 25 "q")) ∷ []) None [] (Execute (returns 30
    (variable_at 37 "p")) NoItems) 40)) ∷ (main_at 42 (Declare (tree.Local (int_at 55) (name_at 59 "h") Initializer.Unset) (Declare (tree.Local (type_at 62
    tree.Int ((pointer (sign.Nullable 1) None) ∷ [])) (name_at 67 "p")
    (Initializer.Value (Expression.NewIn 71 (variable_at 76 "h") (One (Expression.Call (name_at
    79 "f") (MoreExpressions (Expression.Null 81) (MoreExpressions (Expression.Null 87) NoExpressions))))))) (Execute (returns 94 (number 101 0)) NoItems)))
    104) ∷ [])
    ≡ Some (fault type_rule 87)
making_22 = refl

-- struct S { int a; int b; }; int main() { struct S s = S(1); return 0; }
making_23 : first_fault
    ((tree.StructItem (structure 0 (name_at 7 "S") [] ((member (int_at 11) (name_at 15 "a")) ∷ (member (int_at 18) (name_at 22 "b")) ∷ []))) ∷ (main_at 28
    (Declare (tree.Local (type_at 41 (tree.Struct (name_at 48 "S") []) []) (name_at 50 "s") (Initializer.Value (Expression.Call (name_at 54 "S")
    (MoreExpressions (number 56 1) NoExpressions)))) (Execute (returns 60 (number 67 0)) NoItems)) 70) ∷ [])
    ≡ Some (fault type_rule 54)
making_23 = refl

-- int f(int x) { return x; } int main() { f(); return 0; }
making_24 : first_fault
    ((tree.FunctionItem (routine (int_at 0) (name_at 4 "f") ((member (int_at 6) (name_at 10 "x")) ∷ []) None [] (Execute (returns 15 (variable_at 22 "x"))
    NoItems) 25)) ∷ (main_at 27 (Execute (Statement.Run (Expression.Call (name_at 40 "f") NoExpressions)) (Execute (returns 45 (number 52 0)) NoItems)) 55) ∷
    [])
    ≡ Some (fault type_rule 40)
making_24 = refl

-- int f(int x) { return x; } int main() { f(NULL); return 0; }
making_25 : first_fault
    ((tree.FunctionItem (routine (int_at 0) (name_at 4 "f") ((member (int_at 6) (name_at 10 "x")) ∷ []) None [] (Execute (returns 15 (variable_at 22 "x"))
    NoItems) 25)) ∷ (main_at 27 (Execute (Statement.Run (Expression.Call (name_at 40 "f") (MoreExpressions (Expression.Null 42) NoExpressions))) (Execute
    (returns 49 (number 56 0)) NoItems)) 59) ∷ [])
    ≡ Some (fault type_rule 42)
making_25 = refl

-- the other arguments are not checked
-- int f(int x) { return x; } int main() { f(y, NULL); return 0; }
making_26 : first_fault
    ((tree.FunctionItem (routine (int_at 0) (name_at 4 "f") ((member (int_at 6) (name_at 10 "x")) ∷ []) None [] (Execute (returns 15 (variable_at 22 "x"))
    NoItems) 25)) ∷ (main_at 27 (Execute (Statement.Run (Expression.Call (name_at 40 "f") (MoreExpressions (variable_at 42 "y") (MoreExpressions
    (Expression.Null 45) NoExpressions)))) (Execute (returns 52 (number 59 0)) NoItems)) 62) ∷ [])
    ≡ Some (fault name_rule 42)
making_26 = refl

-- int main() { getchar(1); return 0; }
making_27 : first_fault
    ((main_at 0 (Execute (Statement.Run (Expression.Call (name_at 13 "getchar") (MoreExpressions (number 21 1) NoExpressions))) (Execute (returns 25 (number 32
    0)) NoItems)) 35) ∷ [])
    ≡ Some (fault type_rule 13)
making_27 = refl

-- int main() { putchar(NULL); return 0; }
making_28 : first_fault
    ((main_at 0 (Execute (Statement.Run (Expression.Call (name_at 13 "putchar") (MoreExpressions (Expression.Null 21) NoExpressions))) (Execute (returns 28
    (number 35 0)) NoItems)) 38) ∷ [])
    ≡ Some (fault type_rule 21)
making_28 = refl

-- int main() { int x = getchar; return 0; }
making_29 : first_fault
    ((main_at 0 (Declare (tree.Local (int_at 13) (name_at 17 "x") (Initializer.Value (variable_at 21 "getchar"))) (Execute (returns 30 (number 37 0)) NoItems))
    40) ∷ [])
    ≡ Some (fault type_rule 21)
making_29 = refl

-- int f() { return 1; } int main() { int x = f; return 0; }
making_30 : first_fault
    ((tree.FunctionItem (routine (int_at 0) (name_at 4 "f") [] None [] (Execute (returns 10 (number 17 1)) NoItems) 20)) ∷ (main_at 22 (Declare (tree.Local
    (int_at 35) (name_at 39 "x") (Initializer.Value (variable_at 43 "f"))) (Execute (returns 46 (number 53 0)) NoItems)) 56) ∷ [])
    ≡ Some (fault type_rule 43)
making_30 = refl

-- struct S { int x; }; int main() { int x = S; return 0; }
making_31 : first_fault
    ((tree.StructItem (structure 0 (name_at 7 "S") [] ((member (int_at 11) (name_at 15 "x")) ∷ []))) ∷ (main_at 21 (Declare (tree.Local (int_at 34) (name_at 38
    "x") (Initializer.Value (variable_at 42 "S"))) (Execute (returns 45 (number 52 0)) NoItems)) 55) ∷ [])
    ≡ Some (fault type_rule 42)
making_31 = refl

-- int main() { int x; x(); return 0; }
making_32 : first_fault
    ((main_at 0 (Declare (tree.Local (int_at 13) (name_at 17 "x") Initializer.Unset) (Execute (Statement.Run (Expression.Call (name_at 20 "x") NoExpressions))
    (Execute (returns 25 (number 32 0)) NoItems))) 35) ∷ [])
    ≡ Some (fault type_rule 20)
making_32 = refl

-- @tagged union U { int a; char b; }; int main() { U(1); return 0; }
making_33 : first_fault
    ((tree.UnionItem (structure 0 (name_at 14 "U") [] ((member (int_at 18) (name_at 22 "a")) ∷ (member (type_at 25 tree.Char []) (name_at 30 "b")) ∷ []))) ∷
    (main_at 36 (Execute (Statement.Run (Expression.Call (name_at 49 "U") (MoreExpressions (number 51 1) NoExpressions))) (Execute (returns 55 (number 62 0))
    NoItems)) 65) ∷ [])
    ≡ Some (fault type_rule 49)
making_33 = refl

-- struct S { int a; }; int main() { S.a(1); return 0; }
making_34 : first_fault
    ((tree.StructItem (structure 0 (name_at 7 "S") [] ((member (int_at 11) (name_at 15 "a")) ∷ []))) ∷ (main_at 21 (Execute (Statement.Run
    (Expression.MakeUnion (name_at 34 "S") (name_at 36 "a") (number 38 1))) (Execute (returns 42 (number 49 0)) NoItems)) 52) ∷ [])
    ≡ Some (fault type_rule 34)
making_34 = refl

-- @tagged union U { int a; char b; }; int main() { U.c(1); return 0; }
making_35 : first_fault
    ((tree.UnionItem (structure 0 (name_at 14 "U") [] ((member (int_at 18) (name_at 22 "a")) ∷ (member (type_at 25 tree.Char []) (name_at 30 "b")) ∷ []))) ∷
    (main_at 36 (Execute (Statement.Run (Expression.MakeUnion (name_at 49 "U") (name_at 51 "c") (number 53 1))) (Execute (returns 57 (number 64 0)) NoItems))
    67) ∷ [])
    ≡ Some (fault name_rule 51)
making_35 = refl

-- int main() { V.a(1); return 0; }
making_36 : first_fault
    ((main_at 0 (Execute (Statement.Run (Expression.MakeUnion (name_at 13 "V") (name_at 15 "a") (number 17 1))) (Execute (returns 21 (number 28 0)) NoItems))
    31) ∷ [])
    ≡ Some (fault name_rule 13)
making_36 = refl
