-- Programs that break no rule of names, types, regions, effects and sizes.
use Rattle.std.proofs.Common.{◌≡◌, refl, false, Some, None, [], ◌∷◌}
use Rattle.std.specs.Prelude.{codes}
use Rattle.cyc_tree.specs.declared.expression.Operator.TheVariants.{Equal, Add}
use Rattle.cyc_tree.specs.declared.expression.Prefix.TheVariants.{Negate, Dereference, AddressOf}
use Rattle.cyc_tree.specs.declared.name.Sign.TheVariants as sign
use Rattle.cyc_tree.specs.Tree as tree
use Rattle.cyc_tree.specs.Tree.{Expression, NoExpressions, MoreExpressions, NoLinks, MoreLinks, NoSuffixes, Index, Dot, Arrow, One, Array, Initializer, Case}
use Rattle.cyc_tree.specs.Tree.{Statement, NoItems, Declare, Execute, NoClauses, MoreClauses, Constant, Initial}
use Rattle.source_meaning.proofs.Trees.{pointer}
use Rattle.source_typing.specs.Programs.{typing_fault}
use Rattle.source_typing.proofs.samples.SampleTrees.{name_at, region_at, type_at, int_at, number, variable_at, returns, member, structure, global, bound}
use Rattle.source_typing.proofs.samples.SampleTrees.{routine, main_at, main_returns}

-- int main() { return 0; }
accepted_1 : typing_fault false
    ((main_returns 0) ∷ [])
    ≡ None
accepted_1 = refl

-- int main() { int x; { int x; } return 0; }
accepted_2 : typing_fault false
    ((main_at 0 (Declare (tree.Local (int_at 13) (name_at 17 "x") Initializer.Unset) (Execute (Statement.Block 20 (Declare (tree.Local (int_at 22) (name_at 26
    "x") Initializer.Unset) NoItems)) (Execute (returns 31 (number 38 0)) NoItems))) 41) ∷ [])
    ≡ None
accepted_2 = refl

-- int f(int *p) { return *p; } int main() { int x; f(&x); return 0; }
accepted_3 : typing_fault false
    ((tree.FunctionItem (routine (int_at 0) (name_at 4 "f") ((member (type_at 6 tree.Int ((pointer (sign.Nullable 1) None) ∷ [])) (name_at 11 "p"))
    ∷ []) None []
    (Execute (returns 16 (Expression.Prefixed 23 Dereference (variable_at 24 "p"))) NoItems) 27)) ∷ (main_at 29 (Declare (tree.Local (int_at 42) (name_at 46
    "x") Initializer.Unset) (Execute (Statement.Run (Expression.Call (name_at 49 "f") (MoreExpressions (Expression.Prefixed 51 AddressOf (variable_at 52 "x"))
    NoExpressions))) (Execute (returns 56 (number 63 0)) NoItems))) 66) ∷ [])
    ≡ None
accepted_3 = refl

-- void f(int *`r p, int *`s q : `s > `r) { p = q; } int main() { return 0; }
accepted_4 : typing_fault false
    ((tree.FunctionItem (routine (type_at 0 tree.Void []) (name_at 5 "f") ((member (type_at 7 tree.Int ((pointer (sign.Nullable 1) (Some (region_at 12 "r"))) ∷
    [])) (name_at 15 "p")) ∷ (member (type_at 18 tree.Int ((pointer (sign.Nullable 1) (Some (region_at 23 "s"))) ∷ [])) (name_at 26 "q")) ∷ []) None ((bound
    (region_at 30 "s") (region_at 35 "r")) ∷ []) (Execute (Statement.Run (Expression.Assign (variable_at 41 "p") (variable_at 45 "q"))) NoItems) 48)) ∷
    (main_returns 50) ∷ [])
    ≡ None
accepted_4 = refl

-- void f(int *`r *p, int *`r q) { *p = q; } int main() { int x; int *p = &x; f(&p, &x); return 0; }
accepted_5 : typing_fault false
    ((tree.FunctionItem (routine (type_at 0 tree.Void []) (name_at 5 "f") ((member (type_at 7 tree.Int ((pointer (sign.Nullable 1) (Some (region_at 12 "r"))) ∷
    (pointer (sign.Nullable 1) None) ∷ [])) (name_at 16 "p"))
    ∷ (member (type_at 19 tree.Int ((pointer (sign.Nullable 1) (Some (region_at 24 "r"))) ∷ [])) (name_at 27
    "q")) ∷ []) None [] (Execute (Statement.Run (Expression.Assign (Expression.Prefixed 32 Dereference (variable_at 33 "p")) (variable_at 37 "q"))) NoItems)
    40)) ∷ (main_at 42 (Declare (tree.Local (int_at 55) (name_at 59 "x") Initializer.Unset)
    (Declare (tree.Local (type_at 62 tree.Int ((pointer (sign.Nullable 1)
    None) ∷ [])) (name_at 67 "p") (Initializer.Value (Expression.Prefixed 71 AddressOf (variable_at 72 "x")))) (Execute (Statement.Run (Expression.Call
    (name_at 75 "f") (MoreExpressions (Expression.Prefixed 77 AddressOf (variable_at 78 "p")) (MoreExpressions (Expression.Prefixed 81 AddressOf (variable_at
    82 "x")) NoExpressions)))) (Execute (returns 86 (number 93 0)) NoItems)))) 96) ∷ [])
    ≡ None
accepted_5 = refl

-- int main() { int *p = NULL; *p = 1; return 0; }
accepted_6 : typing_fault false
    ((main_at 0 (Declare (tree.Local (type_at 13 tree.Int ((pointer (sign.Nullable 1) None) ∷ [])) (name_at 18 "p") (Initializer.Value (Expression.Null 22)))
    (Execute (Statement.Run (Expression.Assign (Expression.Prefixed 28 Dereference (variable_at 29 "p")) (number 33 1))) (Execute (returns 36 (number 43 0))
    NoItems))) 46) ∷ [])
    ≡ None
accepted_6 = refl

-- int main() { unsigned int u = 3000000000; char c = u; c = -c; return 0; }
accepted_7 : typing_fault false
    ((main_at 0 (Declare (tree.Local (type_at 13 tree.Unsigned []) (name_at 26 "u") (Initializer.Value (number 30 3000000000))) (Declare (tree.Local (type_at
    42 tree.Char []) (name_at 47 "c") (Initializer.Value (variable_at 51 "u"))) (Execute (Statement.Run (Expression.Assign (variable_at 54 "c")
    (Expression.Prefixed 58 Negate (variable_at 59 "c")))) (Execute (returns 62 (number 69 0)) NoItems)))) 72) ∷ [])
    ≡ None
accepted_7 = refl

-- int main() { int x; if (&x == NULL) ; return 0; }
accepted_8 : typing_fault false
    ((main_at 0 (Declare (tree.Local (int_at 13) (name_at 17 "x") Initializer.Unset) (Execute (Statement.If 20 (Expression.Chain (Expression.Prefixed 24
    AddressOf (variable_at 25 "x")) (MoreLinks Equal (Expression.Null 30) NoLinks)) (Statement.Empty 36)) (Execute (returns 38 (number 45 0)) NoItems))) 48) ∷
    [])
    ≡ None
accepted_8 = refl

-- int main() { int x; int y; &x == &y; return 0; }
accepted_9 : typing_fault false
    ((main_at 0 (Declare (tree.Local (int_at 13) (name_at 17 "x") Initializer.Unset) (Declare (tree.Local (int_at 20) (name_at 24 "y") Initializer.Unset)
    (Execute (Statement.Run (Expression.Chain (Expression.Prefixed 27 AddressOf (variable_at 28 "x")) (MoreLinks Equal (Expression.Prefixed 33 AddressOf
    (variable_at 34 "y")) NoLinks))) (Execute (returns 37 (number 44 0)) NoItems)))) 47) ∷ [])
    ≡ None
accepted_9 = refl

-- int main() { region<`r> h; int *`r p = rnew(h) 3; *p = 4; return 0; }
accepted_10 : typing_fault false
    ((main_at 0 (Declare (tree.Region 13 (region_at 20 "r") (name_at 24 "h")) (Declare (tree.Local (type_at 27 tree.Int ((pointer (sign.Nullable 1) (Some
    (region_at 32 "r"))) ∷ [])) (name_at 35 "p") (Initializer.Value (Expression.NewIn 39 (variable_at 44 "h") (One (number 47 3))))) (Execute (Statement.Run
    (Expression.Assign (Expression.Prefixed 50 Dereference (variable_at 51 "p")) (number 55 4))) (Execute (returns 58 (number 65 0)) NoItems)))) 68) ∷ [])
    ≡ None
accepted_10 = refl

-- int main() { region<`r> h; int *p = rnew(h) 3; { region<`s> k; int *`s q = p; } return 0; }
accepted_11 : typing_fault false
    ((main_at 0 (Declare (tree.Region 13 (region_at 20 "r") (name_at 24 "h")) (Declare (tree.Local (type_at 27 tree.Int ((pointer (sign.Nullable 1) None) ∷ []))
    (name_at 32 "p") (Initializer.Value (Expression.NewIn 36 (variable_at 41 "h") (One (number 44 3))))) (Execute (Statement.Block 47 (Declare (tree.Region 49
    (region_at 56 "s") (name_at 60 "k"))
    (Declare (tree.Local (type_at 63 tree.Int ((pointer (sign.Nullable 1) (Some (region_at 68 "s"))) ∷ [])) (name_at 71 "q")
    (Initializer.Value (variable_at 75 "p"))) NoItems))) (Execute (returns 80 (number 87 0)) NoItems)))) 90) ∷ [])
    ≡ None
accepted_11 = refl

-- int main() { int *`U p = rnew(unique_region) 3; *p = 4; ufree(p); return 0; }
accepted_12 : typing_fault false
    ((main_at 0 (Declare (tree.Local (type_at 13 tree.Int ((pointer (sign.Nullable 1) (Some (tree.Unique 18))) ∷ [])) (name_at 21 "p") (Initializer.Value
    (Expression.NewIn 25 (Expression.UniqueRegion 30) (One (number 45 3))))) (Execute (Statement.Run (Expression.Assign (Expression.Prefixed 48 Dereference
    (variable_at 49 "p")) (number 53 4))) (Execute (Statement.FreeUnique 56 (name_at 62 "p")) (Execute (returns 66 (number 73 0)) NoItems)))) 76) ∷ [])
    ≡ None
accepted_12 = refl

-- int main() { int *`U p = rnew(unique_region) 3; int *q = p; return 0; }
accepted_13 : typing_fault false
    ((main_at 0 (Declare (tree.Local (type_at 13 tree.Int ((pointer (sign.Nullable 1) (Some (tree.Unique 18))) ∷ [])) (name_at 21 "p") (Initializer.Value
    (Expression.NewIn 25 (Expression.UniqueRegion 30) (One (number 45 3))))) (Declare (tree.Local (type_at 48 tree.Int ((pointer (sign.Nullable 1) None) ∷ []))
    (name_at 53 "q") (Initializer.Value (variable_at 57 "p"))) (Execute (returns 60 (number 67 0)) NoItems))) 70) ∷ [])
    ≡ None
accepted_13 = refl

-- void f(region_t<`r> h, int *`r p) {} int main() { region<`a> h; int x; f(h, &x); return 0; }
accepted_14 : typing_fault false
    ((tree.FunctionItem (routine (type_at 0 tree.Void []) (name_at 5 "f") ((member (type_at 7 (tree.Handle (region_at 16 "r")) []) (name_at 20 "h")) ∷ (member
    (type_at 23 tree.Int ((pointer (sign.Nullable 1) (Some (region_at 28 "r"))) ∷ [])) (name_at 31 "p")) ∷ []) None [] NoItems 35)) ∷ (main_at 37 (Declare
    (tree.Region 50 (region_at 57 "a") (name_at 61 "h")) (Declare (tree.Local (int_at 64) (name_at 68 "x") Initializer.Unset) (Execute (Statement.Run
    (Expression.Call (name_at 71 "f") (MoreExpressions (variable_at 73 "h") (MoreExpressions (Expression.Prefixed 76 AddressOf (variable_at 77 "x"))
    NoExpressions)))) (Execute (returns 81 (number 88 0)) NoItems)))) 91) ∷ [])
    ≡ None
accepted_14 = refl

-- struct S<`r> { int *`r p; }; int main() { int x; struct S s = S(&x); int *q = s.p; return 0; }
accepted_15 : typing_fault false
    ((tree.StructItem (structure 0 (name_at 7 "S") ((region_at 9 "r") ∷ [])
    ((member (type_at 15 tree.Int ((pointer (sign.Nullable 1) (Some (region_at 20 "r"))) ∷
    [])) (name_at 23 "p")) ∷ []))) ∷ (main_at 29 (Declare (tree.Local (int_at 42) (name_at 46 "x") Initializer.Unset) (Declare (tree.Local (type_at 49
    (tree.Struct (name_at 56 "S") []) []) (name_at 58 "s") (Initializer.Value (Expression.Call (name_at 62 "S") (MoreExpressions (Expression.Prefixed 64
    AddressOf (variable_at 65 "x")) NoExpressions)))) (Declare (tree.Local (type_at 69 tree.Int ((pointer (sign.Nullable 1) None) ∷ [])) (name_at 74 "q")
    (Initializer.Value (Expression.Suffixed (variable_at 78 "s") (Dot (name_at 80 "p") NoSuffixes)))) (Execute (returns 83 (number 90 0)) NoItems)))) 93) ∷ [])
    ≡ None
accepted_15 = refl

-- struct S<`r> { int *`r p; }; int f(struct S *s) { return *s->p; } int main() { int x; struct S s = S(&x); f(&s); return 0; }
accepted_16 : typing_fault false
    ((tree.StructItem (structure 0 (name_at 7 "S") ((region_at 9 "r") ∷ [])
    ((member (type_at 15 tree.Int ((pointer (sign.Nullable 1) (Some (region_at 20 "r"))) ∷
    [])) (name_at 23 "p")) ∷ []))) ∷ (tree.FunctionItem (routine (int_at 29) (name_at 33 "f") ((member (type_at 35 (tree.Struct (name_at 42 "S") []) ((pointer
    (sign.Nullable 1) None) ∷ [])) (name_at 45 "s")) ∷ []) None [] (Execute (Statement.Return 50 (Some (Expression.Prefixed 57 Dereference (Expression.Suffixed
    (variable_at 58 "s") (Arrow (name_at 61 "p") NoSuffixes))))) NoItems) 64)) ∷ (main_at 66 (Declare (tree.Local (int_at 79) (name_at 83 "x")
    Initializer.Unset) (Declare (tree.Local (type_at 86 (tree.Struct (name_at 93 "S") []) []) (name_at 95 "s") (Initializer.Value (Expression.Call (name_at 99
    "S") (MoreExpressions (Expression.Prefixed 101 AddressOf (variable_at 102 "x")) NoExpressions)))) (Execute (Statement.Run (Expression.Call (name_at 106
    "f") (MoreExpressions (Expression.Prefixed 108 AddressOf (variable_at 109 "s")) NoExpressions))) (Execute (returns 113 (number 120 0)) NoItems)))) 123) ∷
    [])
    ≡ None
accepted_16 = refl

-- struct S { struct S *s; }; int main() { struct S s; s.s->s = NULL; return 0; }
accepted_17 : typing_fault false
    ((tree.StructItem (structure 0 (name_at 7 "S") []
    ((member (type_at 11 (tree.Struct (name_at 18 "S") []) ((pointer (sign.Nullable 1) None) ∷ [])) (name_at 21
    "s")) ∷ []))) ∷ (main_at 27 (Declare (tree.Local (type_at 40 (tree.Struct (name_at 47 "S") []) []) (name_at 49 "s") Initializer.Unset) (Execute
    (Statement.Run (Expression.Assign (Expression.Suffixed (variable_at 52 "s") (Dot (name_at 54 "s") (Arrow (name_at 57 "s") NoSuffixes))) (Expression.Null
    61))) (Execute (returns 67 (number 74 0)) NoItems))) 77) ∷ [])
    ≡ None
accepted_17 = refl

-- @tagged union U { int a; char b; }; int main() { union U u = U.a(3); switch (u) { case {.a = x}: x; break; case {.b = y}: break; } return 0; }
accepted_18 : typing_fault false
    ((tree.UnionItem (structure 0 (name_at 14 "U") [] ((member (int_at 18) (name_at 22 "a")) ∷ (member (type_at 25 tree.Char []) (name_at 30 "b")) ∷ []))) ∷
    (main_at 36 (Declare (tree.Local (type_at 49 (tree.Union (name_at 55 "U") []) []) (name_at 57 "u") (Initializer.Value (Expression.MakeUnion (name_at 61
    "U") (name_at 63 "a") (number 65 3)))) (Execute (Statement.Switch 69 (variable_at 77 "u") (MoreClauses 82 (Case (name_at 89 "a") (name_at 93 "x"))
    (Execute (Statement.Run (variable_at 97 "x")) (Execute (Statement.Break 100) NoItems)) (MoreClauses 107 (Case (name_at 114 "b") (name_at 118 "y"))
    (Execute (Statement.Break 122) NoItems) NoClauses))) (Execute (returns 131 (number 138 0)) NoItems))) 141) ∷ [])
    ≡ None
accepted_18 = refl

-- int main() { while (1) { continue; } return 0; }
accepted_19 : typing_fault false
    ((main_at 0 (Execute (Statement.While 13 (number 20 1) (Statement.Block 23 (Execute (Statement.Continue 25) NoItems))) (Execute (returns 37 (number 44 0))
    NoItems)) 47) ∷ [])
    ≡ None
accepted_19 = refl

-- int f() { if (1) return 1; else return 2; } int main() { return 0; }
accepted_20 : typing_fault false
    ((tree.FunctionItem (routine (int_at 0) (name_at 4 "f") [] None [] (Execute (Statement.IfElse 10 (number 14 1) (returns 17 (number 24 1)) (returns 32
    (number 39 2))) NoItems) 42)) ∷ (main_returns 44) ∷ [])
    ≡ None
accepted_20 = refl

-- int g = 3; char ?s = "abc"; int *p = NULL; int main() { g = *p + s[1]; return 0; }
accepted_21 : typing_fault false
    ((tree.GlobalItem (global (int_at 0) (name_at 4 "g") (Initial.Given (Constant.Number 8 3 false)))) ∷ (tree.GlobalItem (global (type_at 11 tree.Char
    ((pointer sign.Fat None) ∷ [])) (name_at 17 "s") (Initial.Given (Constant.Text 21 (codes "abc"))))) ∷ (tree.GlobalItem (global (type_at 28 tree.Int
    ((pointer (sign.Nullable 1) None) ∷ [])) (name_at 33 "p") (Initial.Given (Constant.Null 37)))) ∷ (main_at 43 (Execute (Statement.Run (Expression.Assign
    (variable_at 56 "g") (Expression.Chain (Expression.Prefixed 60 Dereference (variable_at 61 "p")) (MoreLinks Add (Expression.Suffixed (variable_at 65 "s")
    (Index (number 67 1) NoSuffixes)) NoLinks)))) (Execute (returns 71 (number 78 0)) NoItems)) 81) ∷ [])
    ≡ None
accepted_21 = refl

-- int main() { unsigned int ?p = new {for i < 3 : i}; return 0; }
accepted_22 : typing_fault false
    ((main_at 0 (Declare (tree.Local (type_at 13 tree.Unsigned ((pointer sign.Fat None) ∷ [])) (name_at 27 "p") (Initializer.Value (Expression.New 31 (Array
    (name_at 40 "i") (number 44 3) (variable_at 48 "i"))))) (Execute (returns 52 (number 59 0)) NoItems)) 62) ∷ [])
    ≡ None
accepted_22 = refl

-- int main() { let NewDynamicRegion{<`r> k} = new_ukey(); { region<`r> h = open(k); int *`r p = rnew(h) 3; *p = 2; } free_ukey(k); return 0; }
accepted_23 : typing_fault false
    ((main_at 0 (Declare (tree.NewKey 13 (region_at 35 "r") (name_at 39 "k")) (Execute (Statement.Block 56 (Declare (tree.Open 58 (region_at 65 "r") (name_at
    69 "h") (name_at 78 "k")) (Declare (tree.Local (type_at 82 tree.Int ((pointer (sign.Nullable 1) (Some (region_at 87 "r"))) ∷ [])) (name_at 90 "p")
    (Initializer.Value (Expression.NewIn 94 (variable_at 99 "h") (One (number 102 3))))) (Execute (Statement.Run (Expression.Assign (Expression.Prefixed 105
    Dereference (variable_at 106 "p")) (number 110 2))) NoItems)))) (Execute (Statement.FreeKey 115 (name_at 125 "k")) (Execute (returns 129 (number 136 0))
    NoItems)))) 139) ∷ [])
    ≡ None
accepted_23 = refl

-- uregion_key_t<`r> f(uregion_key_t<`r> k, int *`r p) { { region<`r> h = open(k); *p; } return k; } int main() { return 0; }
accepted_24 : typing_fault false
    ((tree.FunctionItem (routine (type_at 0 (tree.Key (region_at 14 "r")) []) (name_at 18 "f") ((member (type_at 20 (tree.Key (region_at 34 "r")) []) (name_at
    38 "k")) ∷ (member (type_at 41 tree.Int ((pointer (sign.Nullable 1) (Some (region_at 46 "r"))) ∷ [])) (name_at 49 "p")) ∷ []) None [] (Execute
    (Statement.Block 54 (Declare (tree.Open 56 (region_at 63 "r") (name_at 67 "h") (name_at 76 "k")) (Execute (Statement.Run (Expression.Prefixed 80
    Dereference (variable_at 81 "p"))) NoItems))) (Execute (returns 86 (variable_at 93 "k")) NoItems)) 96)) ∷ (main_returns 98) ∷ [])
    ≡ None
accepted_24 = refl

-- int main() { int *`U p = rnew(unique_region) 3; { let alias<`a> int *`a q = p; *q = 2; } ufree(p); return 0; }
accepted_25 : typing_fault false
    ((main_at 0 (Declare (tree.Local (type_at 13 tree.Int ((pointer (sign.Nullable 1) (Some (tree.Unique 18))) ∷ [])) (name_at 21 "p") (Initializer.Value
    (Expression.NewIn 25 (Expression.UniqueRegion 30) (One (number 45 3))))) (Execute (Statement.Block 48 (Declare (tree.Alias 50 (region_at 60 "a") (type_at
    64 tree.Int ((pointer (sign.Nullable 1) (Some (region_at 69 "a"))) ∷ [])) (name_at 72 "q") (name_at 76 "p")) (Execute (Statement.Run (Expression.Assign
    (Expression.Prefixed 79 Dereference (variable_at 80 "q")) (number 84 2))) NoItems))) (Execute (Statement.FreeUnique 89 (name_at 95 "p")) (Execute (returns
    99 (number 106 0)) NoItems)))) 109) ∷ [])
    ≡ None
accepted_25 = refl

-- int main() { int x; x :=: x; return 0; }
accepted_26 : typing_fault false
    ((main_at 0 (Declare (tree.Local (int_at 13) (name_at 17 "x") Initializer.Unset) (Execute (Statement.Exchange (variable_at 20 "x") (variable_at 26 "x"))
    (Execute (returns 29 (number 36 0)) NoItems))) 39) ∷ [])
    ≡ None
accepted_26 = refl

-- int f(int *`r p, int *`s q : `r > `s) { return 0; } int main() { int x; int *p = &x; { int y; f(p, &y); } return 0; }
accepted_27 : typing_fault false
    ((tree.FunctionItem (routine (int_at 0) (name_at 4 "f")
    ((member (type_at 6 tree.Int ((pointer (sign.Nullable 1) (Some (region_at 11 "r"))) ∷ [])) (name_at 14
    "p")) ∷ (member (type_at 17 tree.Int ((pointer (sign.Nullable 1) (Some (region_at 22 "s"))) ∷ [])) (name_at 25 "q")) ∷ []) None ((bound (region_at 29 "r")
    (region_at 34 "s")) ∷ []) (Execute (returns 40 (number 47 0)) NoItems) 50)) ∷ (main_at 52 (Declare (tree.Local (int_at 65) (name_at 69 "x")
    Initializer.Unset) (Declare (tree.Local (type_at 72 tree.Int ((pointer (sign.Nullable 1) None) ∷ [])) (name_at 77 "p")
    (Initializer.Value (Expression.Prefixed
    81 AddressOf (variable_at 82 "x")))) (Execute (Statement.Block 85 (Declare (tree.Local (int_at 87) (name_at 91 "y") Initializer.Unset) (Execute
    (Statement.Run (Expression.Call (name_at 94 "f") (MoreExpressions (variable_at 96 "p") (MoreExpressions (Expression.Prefixed 99 AddressOf (variable_at 100
    "y")) NoExpressions)))) NoItems))) (Execute (returns 106 (number 113 0)) NoItems)))) 116) ∷ [])
    ≡ None
accepted_27 = refl

-- int f(int *`r p : `r > `H) { int *`H q = p; return 0; } int main() { return 0; }
accepted_28 : typing_fault false
    ((tree.FunctionItem (routine (int_at 0) (name_at 4 "f")
    ((member (type_at 6 tree.Int ((pointer (sign.Nullable 1) (Some (region_at 11 "r"))) ∷ [])) (name_at 14
    "p")) ∷ []) None ((bound (region_at 18 "r") (tree.Heap 23)) ∷ [])
    (Declare (tree.Local (type_at 29 tree.Int ((pointer (sign.Nullable 1) (Some (tree.Heap 34)))
    ∷ [])) (name_at 37 "q") (Initializer.Value (variable_at 41 "p"))) (Execute (returns 44 (number 51 0)) NoItems)) 54)) ∷ (main_returns 56) ∷ [])
    ≡ None
accepted_28 = refl

-- int f(int *`r p) { int x; int *q = &x; q = p; return 0; } int main() { return 0; }
accepted_29 : typing_fault false
    ((tree.FunctionItem (routine (int_at 0) (name_at 4 "f")
    ((member (type_at 6 tree.Int ((pointer (sign.Nullable 1) (Some (region_at 11 "r"))) ∷ [])) (name_at 14
    "p")) ∷ []) None [] (Declare (tree.Local (int_at 19) (name_at 23 "x") Initializer.Unset)
    (Declare (tree.Local (type_at 26 tree.Int ((pointer (sign.Nullable 1)
    None) ∷ [])) (name_at 31 "q") (Initializer.Value (Expression.Prefixed 35 AddressOf (variable_at 36 "x")))) (Execute (Statement.Run (Expression.Assign
    (variable_at 39 "q") (variable_at 43 "p"))) (Execute (returns 46 (number 53 0)) NoItems)))) 56)) ∷ (main_returns 58) ∷ [])
    ≡ None
accepted_29 = refl

-- int f(region_t<`r> h) { int *`r p = rnew(h) 3; return *p; } int main() { let NewDynamicRegion{<`d> k} = new_ukey(); { region<`d> h = open(k); f(h); }
-- free_ukey(k); return 0; }
accepted_30 : typing_fault false
    ((tree.FunctionItem (routine (int_at 0) (name_at 4 "f") ((member (type_at 6 (tree.Handle (region_at 15 "r")) []) (name_at 19 "h")) ∷ []) None [] (Declare
    (tree.Local (type_at 24 tree.Int ((pointer (sign.Nullable 1) (Some (region_at 29 "r"))) ∷ [])) (name_at 32 "p") (Initializer.Value (Expression.NewIn 36
    (variable_at 41 "h") (One (number 44 3))))) (Execute (returns 47 (Expression.Prefixed 54 Dereference (variable_at 55 "p"))) NoItems)) 58)) ∷ (main_at 60
    (Declare (tree.NewKey 73 (region_at 95 "d") (name_at 99 "k")) (Execute (Statement.Block 116 (Declare (tree.Open 118 (region_at 125 "d") (name_at 129 "h")
    (name_at 138 "k")) (Execute (Statement.Run (Expression.Call (name_at 142 "f") (MoreExpressions (variable_at 144 "h") NoExpressions))) NoItems))) (Execute
    (Statement.FreeKey 150 (name_at 160 "k")) (Execute (returns 164 (number 171 0)) NoItems)))) 174) ∷ [])
    ≡ None
accepted_30 = refl
