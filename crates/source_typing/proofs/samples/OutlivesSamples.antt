-- Regions that don't outlive another one.
use Rattle.std.proofs.Common.{◌≡◌, refl, false, Some, None, [], ◌∷◌}
use Rattle.cyc_tree.specs.declared.expression.Operator.TheVariants.{Equal}
use Rattle.cyc_tree.specs.declared.expression.Prefix.TheVariants.{Dereference, AddressOf}
use Rattle.cyc_tree.specs.declared.name.Sign.TheVariants as sign
use Rattle.cyc_tree.specs.Tree as tree
use Rattle.cyc_tree.specs.Tree.{Expression, NoExpressions, MoreExpressions, NoLinks, MoreLinks, NoSuffixes, Arrow, One, Initializer, Statement, NoItems}
use Rattle.cyc_tree.specs.Tree.{Declare, Execute}
use Rattle.source_meaning.proofs.Trees.{pointer}
use Rattle.source_typing.specs.Faults.{fault, outlives_rule}
use Rattle.source_typing.specs.Programs.{typing_fault}
use Rattle.source_typing.proofs.samples.SampleTrees.{name_at, region_at, type_at, int_at, number, variable_at, returns, member, structure, bound, routine}
use Rattle.source_typing.proofs.samples.SampleTrees.{main_at, main_returns}

-- int f(int *`r p, int *`s q) { p = q; return *p; } int main() { return 0; }
outlives_1 : typing_fault false
    ((tree.FunctionItem (routine (int_at 0) (name_at 4 "f")
    ((member (type_at 6 tree.Int ((pointer (sign.Nullable 1) (Some (region_at 11 "r"))) ∷ [])) (name_at 14
    "p")) ∷ (member (type_at 17 tree.Int ((pointer (sign.Nullable 1) (Some (region_at 22 "s"))) ∷ [])) (name_at 25 "q")) ∷ []) None [] (Execute (Statement.Run
    (Expression.Assign (variable_at 30 "p") (variable_at 34 "q"))) (Execute (returns 37 (Expression.Prefixed 44 Dereference (variable_at 45 "p"))) NoItems))
    48)) ∷ (main_returns 50) ∷ [])
    ≡ Some (fault outlives_rule 34)
outlives_1 = refl

-- int *`r f(int *`r p, int *`s q) { return q; } int main() { return 0; }
outlives_2 : typing_fault false
    ((tree.FunctionItem (routine (type_at 0 tree.Int ((pointer (sign.Nullable 1) (Some (region_at 5 "r"))) ∷ [])) (name_at 8 "f") ((member (type_at 10 tree.Int
    ((pointer (sign.Nullable 1) (Some (region_at 15 "r"))) ∷ [])) (name_at 18 "p"))
    ∷ (member (type_at 21 tree.Int ((pointer (sign.Nullable 1) (Some (region_at 26
    "s"))) ∷ [])) (name_at 29 "q")) ∷ []) None [] (Execute (returns 34 (variable_at 41 "q")) NoItems) 44)) ∷ (main_returns 46) ∷ [])
    ≡ Some (fault outlives_rule 41)
outlives_2 = refl

-- void f(int *`r *p, int *`r q) { *p = q; } int main() { int x; int *p = &x; { int y; f(&p, &y); } return 0; }
outlives_3 : typing_fault false
    ((tree.FunctionItem (routine (type_at 0 tree.Void []) (name_at 5 "f") ((member (type_at 7 tree.Int ((pointer (sign.Nullable 1) (Some (region_at 12 "r"))) ∷
    (pointer (sign.Nullable 1) None) ∷ [])) (name_at 16 "p"))
    ∷ (member (type_at 19 tree.Int ((pointer (sign.Nullable 1) (Some (region_at 24 "r"))) ∷ [])) (name_at 27
    "q")) ∷ []) None [] (Execute (Statement.Run (Expression.Assign (Expression.Prefixed 32 Dereference (variable_at 33 "p")) (variable_at 37 "q"))) NoItems)
    40)) ∷ (main_at 42 (Declare (tree.Local (int_at 55) (name_at 59 "x") Initializer.Unset)
    (Declare (tree.Local (type_at 62 tree.Int ((pointer (sign.Nullable 1)
    None) ∷ [])) (name_at 67 "p") (Initializer.Value (Expression.Prefixed 71 AddressOf (variable_at 72 "x")))) (Execute (Statement.Block 75 (Declare
    (tree.Local (int_at 77) (name_at 81 "y") Initializer.Unset) (Execute (Statement.Run (Expression.Call (name_at 84 "f") (MoreExpressions
    (Expression.Prefixed 86 AddressOf (variable_at 87 "p")) (MoreExpressions (Expression.Prefixed 90 AddressOf (variable_at 91 "y")) NoExpressions))))
    NoItems))) (Execute (returns 97 (number 104 0)) NoItems)))) 107) ∷ [])
    ≡ Some (fault outlives_rule 90)
outlives_3 = refl

-- int main() { int x; int *p = &x; { int y; p = &y; } return 0; }
outlives_4 : typing_fault false
    ((main_at 0 (Declare (tree.Local (int_at 13) (name_at 17 "x") Initializer.Unset)
    (Declare (tree.Local (type_at 20 tree.Int ((pointer (sign.Nullable 1) None) ∷
    [])) (name_at 25 "p") (Initializer.Value (Expression.Prefixed 29 AddressOf (variable_at 30 "x")))) (Execute (Statement.Block 33 (Declare (tree.Local
    (int_at 35) (name_at 39 "y") Initializer.Unset) (Execute (Statement.Run (Expression.Assign (variable_at 42 "p") (Expression.Prefixed 46 AddressOf
    (variable_at 47 "y")))) NoItems))) (Execute (returns 52 (number 59 0)) NoItems)))) 62) ∷ [])
    ≡ Some (fault outlives_rule 46)
outlives_4 = refl

-- int main() { int x; int *p; p = &x; return 0; }
outlives_5 : typing_fault false
    ((main_at 0 (Declare (tree.Local (int_at 13) (name_at 17 "x") Initializer.Unset)
    (Declare (tree.Local (type_at 20 tree.Int ((pointer (sign.Nullable 1) None) ∷
    [])) (name_at 25 "p") Initializer.Unset) (Execute (Statement.Run (Expression.Assign (variable_at 28 "p") (Expression.Prefixed 32 AddressOf (variable_at 33
    "x")))) (Execute (returns 36 (number 43 0)) NoItems)))) 46) ∷ [])
    ≡ Some (fault outlives_rule 32)
outlives_5 = refl

-- int main() { region<`r> h; int *`r p; { region<`s> k; p = rnew(k) 3; } return 0; }
outlives_6 : typing_fault false
    ((main_at 0 (Declare (tree.Region 13 (region_at 20 "r") (name_at 24 "h")) (Declare (tree.Local (type_at 27 tree.Int ((pointer (sign.Nullable 1) (Some
    (region_at 32 "r"))) ∷ [])) (name_at 35 "p") Initializer.Unset) (Execute (Statement.Block 38 (Declare (tree.Region 40 (region_at 47 "s") (name_at 51 "k"))
    (Execute (Statement.Run (Expression.Assign (variable_at 54 "p") (Expression.NewIn 58 (variable_at 63 "k") (One (number 66 3))))) NoItems))) (Execute
    (returns 71 (number 78 0)) NoItems)))) 81) ∷ [])
    ≡ Some (fault outlives_rule 58)
outlives_6 = refl

-- struct S<`r> { int *`r p; }; int main() { int x; struct S<`H> s = S(&x); return 0; }
outlives_7 : typing_fault false
    ((tree.StructItem (structure 0 (name_at 7 "S") ((region_at 9 "r") ∷ [])
    ((member (type_at 15 tree.Int ((pointer (sign.Nullable 1) (Some (region_at 20 "r"))) ∷
    [])) (name_at 23 "p")) ∷ []))) ∷ (main_at 29 (Declare (tree.Local (int_at 42) (name_at 46 "x") Initializer.Unset) (Declare (tree.Local (type_at 49
    (tree.Struct (name_at 56 "S") ((tree.Heap 58) ∷ [])) []) (name_at 62 "s") (Initializer.Value (Expression.Call (name_at 66 "S") (MoreExpressions
    (Expression.Prefixed 68 AddressOf (variable_at 69 "x")) NoExpressions)))) (Execute (returns 73 (number 80 0)) NoItems))) 83) ∷ [])
    ≡ Some (fault outlives_rule 66)
outlives_7 = refl

-- int f(int *p, int *q) { return p == q; } int main() { return 0; }
outlives_8 : typing_fault false
    ((tree.FunctionItem (routine (int_at 0) (name_at 4 "f") ((member (type_at 6 tree.Int ((pointer (sign.Nullable 1) None) ∷ [])) (name_at 11 "p")) ∷ (member
    (type_at 14 tree.Int ((pointer (sign.Nullable 1) None) ∷ [])) (name_at 19 "q")) ∷ []) None [] (Execute (Statement.Return 24 (Some (Expression.Chain
    (variable_at 31 "p") (MoreLinks Equal (variable_at 36 "q") NoLinks)))) NoItems) 39)) ∷ (main_returns 41) ∷ [])
    ≡ Some (fault outlives_rule 31)
outlives_8 = refl

-- int f(int *`r p, int *`s q : `r > `s) { return 0; } int main() { int x; int *p = &x; { int y; f(&y, p); } return 0; }
outlives_9 : typing_fault false
    ((tree.FunctionItem (routine (int_at 0) (name_at 4 "f")
    ((member (type_at 6 tree.Int ((pointer (sign.Nullable 1) (Some (region_at 11 "r"))) ∷ [])) (name_at 14
    "p")) ∷ (member (type_at 17 tree.Int ((pointer (sign.Nullable 1) (Some (region_at 22 "s"))) ∷ [])) (name_at 25 "q")) ∷ []) None ((bound (region_at 29 "r")
    (region_at 34 "s")) ∷ []) (Execute (returns 40 (number 47 0)) NoItems) 50)) ∷ (main_at 52 (Declare (tree.Local (int_at 65) (name_at 69 "x")
    Initializer.Unset) (Declare (tree.Local (type_at 72 tree.Int ((pointer (sign.Nullable 1) None) ∷ [])) (name_at 77 "p")
    (Initializer.Value (Expression.Prefixed
    81 AddressOf (variable_at 82 "x")))) (Execute (Statement.Block 85 (Declare (tree.Local (int_at 87) (name_at 91 "y") Initializer.Unset) (Execute
    (Statement.Run (Expression.Call (name_at 94 "f") (MoreExpressions (Expression.Prefixed 96 AddressOf (variable_at 97 "y")) (MoreExpressions (variable_at
    100 "p") NoExpressions)))) NoItems))) (Execute (returns 106 (number 113 0)) NoItems)))) 116) ∷ [])
    ≡ Some (fault outlives_rule 94)
outlives_9 = refl

-- int f(int *`r p, int *`s q, int *`t u : `r > `s, `s > `t) { q = p; u = p; p = u; return 0; } int main() { return 0; }
outlives_10 : typing_fault false
    ((tree.FunctionItem (routine (int_at 0) (name_at 4 "f")
    ((member (type_at 6 tree.Int ((pointer (sign.Nullable 1) (Some (region_at 11 "r"))) ∷ [])) (name_at 14
    "p")) ∷ (member (type_at 17 tree.Int ((pointer (sign.Nullable 1) (Some (region_at 22 "s"))) ∷ [])) (name_at 25 "q"))
    ∷ (member (type_at 28 tree.Int ((pointer
    (sign.Nullable 1) (Some (region_at 33 "t"))) ∷ [])) (name_at 36 "u")) ∷ []) None ((bound (region_at 40 "r") (region_at 45 "s")) ∷ (bound (region_at 49 "s")
    (region_at 54 "t")) ∷ []) (Execute (Statement.Run (Expression.Assign (variable_at 60 "q") (variable_at 64 "p"))) (Execute (Statement.Run
    (Expression.Assign (variable_at 67 "u") (variable_at 71 "p"))) (Execute (Statement.Run (Expression.Assign (variable_at 74 "p") (variable_at 78 "u")))
    (Execute (returns 81 (number 88 0)) NoItems)))) 91)) ∷ (main_returns 93) ∷ [])
    ≡ Some (fault outlives_rule 78)
outlives_10 = refl

-- int f(int *`r p; {}) { int x; int *q = &x; q = p; return 0; } int main() { return 0; }
outlives_11 : typing_fault false
    ((tree.FunctionItem (routine (int_at 0) (name_at 4 "f")
    ((member (type_at 6 tree.Int ((pointer (sign.Nullable 1) (Some (region_at 11 "r"))) ∷ [])) (name_at 14
    "p")) ∷ []) (Some []) [] (Declare (tree.Local (int_at 23) (name_at 27 "x") Initializer.Unset) (Declare (tree.Local (type_at 30 tree.Int ((pointer
    (sign.Nullable 1) None) ∷ [])) (name_at 35 "q") (Initializer.Value (Expression.Prefixed 39 AddressOf (variable_at 40 "x")))) (Execute (Statement.Run
    (Expression.Assign (variable_at 43 "q") (variable_at 47 "p"))) (Execute (returns 50 (number 57 0)) NoItems)))) 60)) ∷ (main_returns 62) ∷ [])
    ≡ Some (fault outlives_rule 47)
outlives_11 = refl

-- int main() { let NewDynamicRegion{<`d> k} = new_ukey(); { region<`d> h = open(k); int *`d p = rnew(h) 3; int x; int *q = &x; q = p; } free_ukey(k); return
-- 0; }
outlives_12 : typing_fault false
    ((main_at 0 (Declare (tree.NewKey 13 (region_at 35 "d") (name_at 39 "k")) (Execute (Statement.Block 56 (Declare (tree.Open 58 (region_at 65 "d") (name_at
    69 "h") (name_at 78 "k")) (Declare (tree.Local (type_at 82 tree.Int ((pointer (sign.Nullable 1) (Some (region_at 87 "d"))) ∷ [])) (name_at 90 "p")
    (Initializer.Value (Expression.NewIn 94 (variable_at 99 "h") (One (number 102 3))))) (Declare (tree.Local (int_at 105) (name_at 109 "x")
    Initializer.Unset) (Declare (tree.Local (type_at 112 tree.Int ((pointer (sign.Nullable 1) None) ∷ [])) (name_at 117 "q") (Initializer.Value
    (Expression.Prefixed 121 AddressOf (variable_at 122 "x")))) (Execute (Statement.Run (Expression.Assign (variable_at 125 "q") (variable_at 129 "p")))
    NoItems)))))) (Execute (Statement.FreeKey 134 (name_at 144 "k")) (Execute (returns 148 (number 155 0)) NoItems)))) 158) ∷ [])
    ≡ Some (fault outlives_rule 129)
outlives_12 = refl

-- int main() { int *`U u = rnew(unique_region) 1; { let alias<`a> int *`a p = u; int x; int *q = &x; q = p; } return 0; }
outlives_13 : typing_fault false
    ((main_at 0 (Declare (tree.Local (type_at 13 tree.Int ((pointer (sign.Nullable 1) (Some (tree.Unique 18))) ∷ [])) (name_at 21 "u") (Initializer.Value
    (Expression.NewIn 25 (Expression.UniqueRegion 30) (One (number 45 1))))) (Execute (Statement.Block 48 (Declare (tree.Alias 50 (region_at 60 "a") (type_at
    64 tree.Int ((pointer (sign.Nullable 1) (Some (region_at 69 "a"))) ∷ [])) (name_at 72 "p") (name_at 76 "u"))
    (Declare (tree.Local (int_at 79) (name_at 83 "x")
    Initializer.Unset) (Declare (tree.Local (type_at 86 tree.Int ((pointer (sign.Nullable 1) None) ∷ [])) (name_at 91 "q")
    (Initializer.Value (Expression.Prefixed
    95 AddressOf (variable_at 96 "x")))) (Execute (Statement.Run (Expression.Assign (variable_at 99 "q") (variable_at 103 "p"))) NoItems))))) (Execute
    (returns 108 (number 115 0)) NoItems))) 118) ∷ [])
    ≡ Some (fault outlives_rule 103)
outlives_13 = refl

-- struct S<`r> { int *`r p; }; void f(struct S<`r> *`s a, int *`r b) { a->p = b; } int main() { int x; struct S s = S(&x); { int y; f(&s, &y); } return 0; }
outlives_14 : typing_fault false
    ((tree.StructItem (structure 0 (name_at 7 "S") ((region_at 9 "r") ∷ [])
    ((member (type_at 15 tree.Int ((pointer (sign.Nullable 1) (Some (region_at 20 "r"))) ∷
    [])) (name_at 23 "p")) ∷ []))) ∷ (tree.FunctionItem (routine (type_at 29 tree.Void []) (name_at 34 "f") ((member (type_at 36 (tree.Struct (name_at 43 "S")
    ((region_at 45 "r") ∷ [])) ((pointer (sign.Nullable 1) (Some (region_at 50 "s"))) ∷ [])) (name_at 53 "a")) ∷ (member (type_at 56 tree.Int ((pointer
    (sign.Nullable 1) (Some (region_at 61 "r"))) ∷ [])) (name_at 64 "b")) ∷ []) None [] (Execute (Statement.Run (Expression.Assign (Expression.Suffixed
    (variable_at 69 "a") (Arrow (name_at 72 "p") NoSuffixes)) (variable_at 76 "b"))) NoItems) 79)) ∷ (main_at 81 (Declare (tree.Local (int_at 94) (name_at 98
    "x") Initializer.Unset) (Declare (tree.Local (type_at 101 (tree.Struct (name_at 108 "S") []) []) (name_at 110 "s") (Initializer.Value (Expression.Call
    (name_at 114 "S") (MoreExpressions (Expression.Prefixed 116 AddressOf (variable_at 117 "x")) NoExpressions)))) (Execute (Statement.Block 121 (Declare
    (tree.Local (int_at 123) (name_at 127 "y") Initializer.Unset) (Execute (Statement.Run (Expression.Call (name_at 130 "f") (MoreExpressions
    (Expression.Prefixed 132 AddressOf (variable_at 133 "s")) (MoreExpressions (Expression.Prefixed 136 AddressOf (variable_at 137 "y")) NoExpressions))))
    NoItems))) (Execute (returns 143 (number 150 0)) NoItems)))) 153) ∷ [])
    ≡ Some (fault outlives_rule 136)
outlives_14 = refl

-- struct S<`r> { int *`r p; }; int main() { region<`r> h; struct S<`r> *`r p = rnew(h) S(NULL); struct S<`H> *`r q = rnew(h) S(NULL); return 0; }
outlives_15 : typing_fault false
    ((tree.StructItem (structure 0 (name_at 7 "S") ((region_at 9 "r") ∷ [])
    ((member (type_at 15 tree.Int ((pointer (sign.Nullable 1) (Some (region_at 20 "r"))) ∷
    [])) (name_at 23 "p")) ∷ []))) ∷ (main_at 29 (Declare (tree.Region 42 (region_at 49 "r") (name_at 53 "h")) (Declare (tree.Local (type_at 56 (tree.Struct
    (name_at 63 "S") ((region_at 65 "r") ∷ [])) ((pointer (sign.Nullable 1) (Some (region_at 70 "r"))) ∷ [])) (name_at 73 "p") (Initializer.Value
    (Expression.NewIn 77 (variable_at 82 "h") (One (Expression.Call (name_at 85 "S") (MoreExpressions (Expression.Null 87) NoExpressions)))))) (Declare
    (tree.Local (type_at 94 (tree.Struct (name_at 101 "S") ((tree.Heap 103) ∷ [])) ((pointer (sign.Nullable 1) (Some (region_at 108 "r"))) ∷ [])) (name_at 111
    "q") (Initializer.Value (Expression.NewIn 115 (variable_at 120 "h") (One (Expression.Call (name_at 123 "S") (MoreExpressions (Expression.Null 125)
    NoExpressions)))))) (Execute (returns 132 (number 139 0)) NoItems)))) 142) ∷ [])
    ≡ Some (fault outlives_rule 115)
outlives_15 = refl

-- int main() { int a[3]; int ?`H p = a; return 0; }
outlives_16 : typing_fault false
    ((main_at 0 (Declare (tree.Local (int_at 13) (name_at 17 "a") (Initializer.Elements 3)) (Declare (tree.Local (type_at 23 tree.Int ((pointer sign.Fat (Some
    (tree.Heap 28))) ∷ [])) (name_at 31 "p") (Initializer.Value (variable_at 35 "a"))) (Execute (returns 38 (number 45 0)) NoItems))) 48) ∷ [])
    ≡ Some (fault outlives_rule 35)
outlives_16 = refl
