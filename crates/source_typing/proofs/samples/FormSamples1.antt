-- Forms and places.
use Rattle.std.proofs.Common.{◌≡◌, refl, Some, None, [], ◌∷◌}
use Rattle.cyc_tree.specs.declared.name.Sign.TheVariants as sign
use Rattle.cyc_tree.specs.Tree as tree
use Rattle.cyc_tree.specs.Tree.{Expression, NoExpressions, MoreExpressions, Initializer, Statement, NoItems, Declare, Execute}
use Rattle.source_meaning.proofs.Trees.{pointer}
use Rattle.source_typing.specs.Faults.{fault, name_rule, type_rule, region_rule, outlives_rule}
use Rattle.source_typing.specs.Answers.{first_fault}
use Rattle.source_typing.proofs.samples.SampleTrees.{name_at, region_at, type_at, int_at, number, variable_at, returns, member, structure, routine, main_at}
use Rattle.source_typing.proofs.samples.SampleTrees.{main_returns}

-- struct S { int x; }; struct T { int x; }; int main() { struct S s; struct T t; s = t; return 0; }
form_1 : first_fault
    ((tree.StructItem (structure 0 (name_at 7 "S") [] ((member (int_at 11) (name_at 15 "x")) ∷ []))) ∷ (tree.StructItem (structure 21 (name_at 28 "T") []
    ((member (int_at 32) (name_at 36 "x")) ∷ []))) ∷ (main_at 42 (Declare (tree.Local (type_at 55 (tree.Struct (name_at 62 "S") []) []) (name_at 64 "s")
    Initializer.Unset) (Declare (tree.Local (type_at 67 (tree.Struct (name_at 74 "T") []) []) (name_at 76 "t") Initializer.Unset) (Execute (Statement.Run
    (Expression.Assign (variable_at 79 "s") (variable_at 83 "t"))) (Execute (returns 86 (number 93 0)) NoItems)))) 96) ∷ [])
    ≡ Some (fault type_rule 83)
form_1 = refl

-- int main() { region<`r> g; region_t<`H> h = g; return 0; }
form_2 : first_fault
    ((main_at 0 (Declare (tree.Region 13 (region_at 20 "r") (name_at 24 "g")) (Declare (tree.Local (type_at 27 (tree.Handle (tree.Heap 36)) []) (name_at 40
    "h") (Initializer.Value (variable_at 44 "g"))) (Execute (returns 47 (number 54 0)) NoItems))) 57) ∷ [])
    ≡ Some (fault outlives_rule 44)
form_2 = refl

-- int main() { region<`r> g; region_t<`r> h = g; return 0; }
form_3 : first_fault
    ((main_at 0 (Declare (tree.Region 13 (region_at 20 "r") (name_at 24 "g")) (Declare (tree.Local (type_at 27 (tree.Handle (region_at 36 "r")) []) (name_at 40
    "h") (Initializer.Value (variable_at 44 "g"))) (Execute (returns 47 (number 54 0)) NoItems))) 57) ∷ [])
    ≡ None
form_3 = refl

-- void f(uregion_key_t<`r> k, uregion_key_t<`s> l) { k = l; } int main() { return 0; }
form_4 : first_fault
    ((tree.FunctionItem (routine (type_at 0 tree.Void []) (name_at 5 "f") ((member (type_at 7 (tree.Key (region_at 21 "r")) []) (name_at 25 "k")) ∷ (member
    (type_at 28 (tree.Key (region_at 42 "s")) []) (name_at 46 "l")) ∷ []) None [] (Execute (Statement.Run (Expression.Assign (variable_at 51 "k") (variable_at
    55 "l"))) NoItems) 58)) ∷ (main_returns 60) ∷ [])
    ≡ Some (fault outlives_rule 55)
form_4 = refl

-- void f(uregion_key_t<`r> k, uregion_key_t<`r> l) { k = l; } int main() { return 0; }
form_5 : first_fault
    ((tree.FunctionItem (routine (type_at 0 tree.Void []) (name_at 5 "f") ((member (type_at 7 (tree.Key (region_at 21 "r")) []) (name_at 25 "k")) ∷ (member
    (type_at 28 (tree.Key (region_at 42 "r")) []) (name_at 46 "l")) ∷ []) None [] (Execute (Statement.Run (Expression.Assign (variable_at 51 "k") (variable_at
    55 "l"))) NoItems) 58)) ∷ (main_returns 60) ∷ [])
    ≡ None
form_5 = refl

-- int main() { let NewDynamicRegion{<`r> k} = new_ukey(); uregion_key_t<`r> a[2]; return 0; }
form_6 : first_fault
    ((main_at 0 (Declare (tree.NewKey 13 (region_at 35 "r") (name_at 39 "k")) (Declare (tree.Local (type_at 56 (tree.Key (region_at 70 "r")) []) (name_at 74
    "a") (Initializer.Elements 2)) (Execute (returns 80 (number 87 0)) NoItems))) 90) ∷ [])
    ≡ Some (fault type_rule 56)
form_6 = refl

-- int main() { void x; return 0; }
form_7 : first_fault
    ((main_at 0 (Declare (tree.Local (type_at 13 tree.Void []) (name_at 18 "x") Initializer.Unset) (Execute (returns 21 (number 28 0)) NoItems)) 31) ∷ [])
    ≡ Some (fault type_rule 13)
form_7 = refl

-- int main() { void *x; return 0; }
form_8 : first_fault
    ((main_at 0 (Declare (tree.Local (type_at 13 tree.Void ((pointer (sign.Nullable 1) None) ∷ [])) (name_at 19 "x") Initializer.Unset) (Execute (returns 22
    (number 29 0)) NoItems)) 32) ∷ [])
    ≡ Some (fault type_rule 13)
form_8 = refl

-- void f(uregion_key_t<`r> *k) { } int main() { return 0; }
form_9 : first_fault
    ((tree.FunctionItem (routine (type_at 0 tree.Void []) (name_at 5 "f") ((member (type_at 7 (tree.Key (region_at 21 "r")) ((pointer (sign.Nullable 1) None) ∷
    [])) (name_at 26 "k")) ∷ []) None [] NoItems 31)) ∷ (main_returns 33) ∷ [])
    ≡ Some (fault type_rule 7)
form_9 = refl

-- struct S { uregion_key_t<`H> k; }; int main() { return 0; }
form_10 : first_fault
    ((tree.StructItem (structure 0 (name_at 7 "S") [] ((member (type_at 11 (tree.Key (tree.Heap 25)) []) (name_at 29 "k")) ∷ []))) ∷ (main_returns 35) ∷ [])
    ≡ Some (fault type_rule 11)
form_10 = refl

-- struct S { uregion_key_t<`r> k; }; int main() { return 0; }
form_11 : first_fault
    ((tree.StructItem (structure 0 (name_at 7 "S") [] ((member (type_at 11 (tree.Key (region_at 25 "r")) []) (name_at 29 "k")) ∷ []))) ∷ (main_returns 35) ∷ [])
    ≡ Some (fault region_rule 25)
form_11 = refl

-- @tagged union U { int *`U p; }; int main() { return 0; }
form_12 : first_fault
    ((tree.UnionItem (structure 0 (name_at 14 "U") []
    ((member (type_at 18 tree.Int ((pointer (sign.Nullable 1) (Some (tree.Unique 23))) ∷ [])) (name_at 26 "p")) ∷
    []))) ∷ (main_returns 32) ∷ [])
    ≡ Some (fault type_rule 18)
form_12 = refl

-- struct S { int x; }; @tagged union U { struct S s; }; int main() { return 0; }
form_13 : first_fault
    ((tree.StructItem (structure 0 (name_at 7 "S") [] ((member (int_at 11) (name_at 15 "x")) ∷ []))) ∷ (tree.UnionItem (structure 21 (name_at 35 "U") []
    ((member (type_at 39 (tree.Struct (name_at 46 "S") []) []) (name_at 48 "s")) ∷ []))) ∷ (main_returns 54) ∷ [])
    ≡ Some (fault type_rule 39)
form_13 = refl

-- @tagged union U { int a; char b; }; @tagged union V { union U u; }; int main() { return 0; }
form_14 : first_fault
    ((tree.UnionItem (structure 0 (name_at 14 "U") [] ((member (int_at 18) (name_at 22 "a")) ∷ (member (type_at 25 tree.Char []) (name_at 30 "b")) ∷ []))) ∷
    (tree.UnionItem (structure 36 (name_at 50 "V") [] ((member (type_at 54 (tree.Union (name_at 60 "U") []) []) (name_at 62 "u")) ∷ []))) ∷ (main_returns 68)
    ∷ [])
    ≡ Some (fault type_rule 54)
form_14 = refl

-- @tagged union U { int a; char b; }; void f(union U u) { } int main() { return 0; }
form_15 : first_fault
    ((tree.UnionItem (structure 0 (name_at 14 "U") [] ((member (int_at 18) (name_at 22 "a")) ∷ (member (type_at 25 tree.Char []) (name_at 30 "b")) ∷ []))) ∷
    (tree.FunctionItem (routine (type_at 36 tree.Void []) (name_at 41 "f") ((member (type_at 43 (tree.Union (name_at 49 "U") []) []) (name_at 51 "u")) ∷ [])
    None [] NoItems 56)) ∷ (main_returns 58) ∷ [])
    ≡ Some (fault type_rule 43)
form_15 = refl

-- struct S { int x; }; struct S f() { return S(1); } int main() { return 0; }
form_16 : first_fault
    ((tree.StructItem (structure 0 (name_at 7 "S") [] ((member (int_at 11) (name_at 15 "x")) ∷ []))) ∷ (tree.FunctionItem (routine (type_at 21 (tree.Struct
    (name_at 28 "S") []) []) (name_at 30 "f") [] None [] (Execute (Statement.Return 36 (Some (Expression.Call (name_at 43 "S") (MoreExpressions (number 45 1)
    NoExpressions)))) NoItems) 49)) ∷ (main_returns 51) ∷ [])
    ≡ Some (fault type_rule 21)
form_16 = refl

-- void f(int ?`U p) { } int main() { return 0; }
form_17 : first_fault
    ((tree.FunctionItem (routine (type_at 0 tree.Void []) (name_at 5 "f") ((member (type_at 7 tree.Int ((pointer sign.Fat (Some (tree.Unique 12))) ∷ []))
    (name_at 15 "p")) ∷ []) None [] NoItems 20)) ∷ (main_returns 22) ∷ [])
    ≡ Some (fault type_rule 7)
form_17 = refl

-- int f(int *`U p) { let alias<`r> int ?x = p; return 0; } int main() { return 0; }
form_18 : first_fault
    ((tree.FunctionItem (routine (int_at 0) (name_at 4 "f") ((member (type_at 6 tree.Int ((pointer (sign.Nullable 1) (Some (tree.Unique 11))) ∷ [])) (name_at 14
    "p")) ∷ []) None [] (Declare (tree.Alias 19 (region_at 29 "r") (type_at 33 tree.Int ((pointer sign.Fat None) ∷ [])) (name_at 38 "x") (name_at 42 "p"))
    (Execute (returns 45 (number 52 0)) NoItems)) 55)) ∷ (main_returns 57) ∷ [])
    ≡ Some (fault type_rule 33)
form_18 = refl

-- int f(int *`U p) { let alias<`r> int x = p; return 0; } int main() { return 0; }
form_19 : first_fault
    ((tree.FunctionItem (routine (int_at 0) (name_at 4 "f") ((member (type_at 6 tree.Int ((pointer (sign.Nullable 1) (Some (tree.Unique 11))) ∷ [])) (name_at 14
    "p")) ∷ []) None [] (Declare (tree.Alias 19 (region_at 29 "r") (int_at 33) (name_at 37 "x") (name_at 41 "p")) (Execute (returns 44 (number 51 0))
    NoItems)) 54)) ∷ (main_returns 56) ∷ [])
    ≡ Some (fault region_rule 33)
form_19 = refl

-- int f(int *`U p) { let alias<`r> int @`r x = p; return 0; } int main() { return 0; }
form_20 : first_fault
    ((tree.FunctionItem (routine (int_at 0) (name_at 4 "f") ((member (type_at 6 tree.Int ((pointer (sign.Nullable 1) (Some (tree.Unique 11))) ∷ [])) (name_at 14
    "p")) ∷ []) None [] (Declare (tree.Alias 19 (region_at 29 "r") (type_at 33 tree.Int ((pointer (sign.NotNull 1) (Some (region_at 38 "r"))) ∷ [])) (name_at 41
    "x") (name_at 45 "p")) (Execute (returns 48 (number 55 0)) NoItems)) 58)) ∷ (main_returns 60) ∷ [])
    ≡ Some (fault region_rule 33)
form_20 = refl

-- the missing region is the unique one
-- int f(int *`U p) { let alias<`r> int *x = p; return 0; } int main() { return 0; }
form_21 : first_fault
    ((tree.FunctionItem (routine (int_at 0) (name_at 4 "f") ((member (type_at 6 tree.Int ((pointer (sign.Nullable 1) (Some (tree.Unique 11))) ∷ [])) (name_at 14
    "p")) ∷ []) None [] (Declare (tree.Alias 19 (region_at 29 "r") (type_at 33 tree.Int ((pointer (sign.Nullable 1) None) ∷ [])) (name_at 38 "x") (name_at 42
    "p")) (Execute (returns 45 (number 52 0)) NoItems)) 55)) ∷ (main_returns 57) ∷ [])
    ≡ Some (fault region_rule 33)
form_21 = refl

-- int f(int *`U p) { let alias<`H> int *`H x = p; return 0; } int main() { return 0; }
form_22 : first_fault
    ((tree.FunctionItem (routine (int_at 0) (name_at 4 "f") ((member (type_at 6 tree.Int ((pointer (sign.Nullable 1) (Some (tree.Unique 11))) ∷ [])) (name_at 14
    "p")) ∷ []) None [] (Declare (tree.Alias 19 (tree.Heap 29) (type_at 33 tree.Int ((pointer (sign.Nullable 1) (Some (tree.Heap 38))) ∷ [])) (name_at 41 "x")
    (name_at 45 "p")) (Execute (returns 48 (number 55 0)) NoItems)) 58)) ∷ (main_returns 60) ∷ [])
    ≡ Some (fault region_rule 29)
form_22 = refl

-- int main() { region<`r> h; { region<`r> g; } return 0; }
form_23 : first_fault
    ((main_at 0 (Declare (tree.Region 13 (region_at 20 "r") (name_at 24 "h")) (Execute (Statement.Block 27 (Declare (tree.Region 29 (region_at 36 "r") (name_at
    40 "g")) NoItems)) (Execute (returns 45 (number 52 0)) NoItems))) 55) ∷ [])
    ≡ Some (fault region_rule 36)
form_23 = refl

-- int main() { region<`U> h; return 0; }
form_24 : first_fault
    ((main_at 0 (Declare (tree.Region 13 (tree.Unique 20) (name_at 24 "h")) (Execute (returns 27 (number 34 0)) NoItems)) 37) ∷ [])
    ≡ Some (fault region_rule 20)
form_24 = refl

-- int main() { let NewDynamicRegion{<`r> k} = new_ukey(); { region<`s> h = open(k); } return 0; }
form_25 : first_fault
    ((main_at 0 (Declare (tree.NewKey 13 (region_at 35 "r") (name_at 39 "k")) (Execute (Statement.Block 56 (Declare (tree.Open 58 (region_at 65 "s") (name_at
    69 "h") (name_at 78 "k")) NoItems)) (Execute (returns 84 (number 91 0)) NoItems))) 94) ∷ [])
    ≡ Some (fault region_rule 65)
form_25 = refl

-- int main() { let NewDynamicRegion{<`r> k} = new_ukey(); { region<`U> h = open(k); } return 0; }
form_26 : first_fault
    ((main_at 0 (Declare (tree.NewKey 13 (region_at 35 "r") (name_at 39 "k")) (Execute (Statement.Block 56 (Declare (tree.Open 58 (tree.Unique 65) (name_at 69
    "h") (name_at 78 "k")) NoItems)) (Execute (returns 84 (number 91 0)) NoItems))) 94) ∷ [])
    ≡ Some (fault region_rule 65)
form_26 = refl

-- int main() { let NewDynamicRegion{<`r> k} = new_ukey(); { region<`H> h = open(k); } return 0; }
form_27 : first_fault
    ((main_at 0 (Declare (tree.NewKey 13 (region_at 35 "r") (name_at 39 "k")) (Execute (Statement.Block 56 (Declare (tree.Open 58 (tree.Heap 65) (name_at 69
    "h") (name_at 78 "k")) NoItems)) (Execute (returns 84 (number 91 0)) NoItems))) 94) ∷ [])
    ≡ Some (fault region_rule 65)
form_27 = refl

-- int main() { int k; { region<`H> h = open(k); } return 0; }
form_28 : first_fault
    ((main_at 0 (Declare (tree.Local (int_at 13) (name_at 17 "k") Initializer.Unset) (Execute (Statement.Block 20 (Declare (tree.Open 22 (tree.Heap 29)
    (name_at 33 "h") (name_at 42 "k")) NoItems)) (Execute (returns 48 (number 55 0)) NoItems))) 58) ∷ [])
    ≡ Some (fault type_rule 42)
form_28 = refl

-- int main() { int p; ufree(p); return 0; }
form_29 : first_fault
    ((main_at 0 (Declare (tree.Local (int_at 13) (name_at 17 "p") Initializer.Unset) (Execute (Statement.FreeUnique 20 (name_at 26 "p")) (Execute (returns 30
    (number 37 0)) NoItems))) 40) ∷ [])
    ≡ Some (fault type_rule 26)
form_29 = refl

-- int main() { int p; free_ukey(p); return 0; }
form_30 : first_fault
    ((main_at 0 (Declare (tree.Local (int_at 13) (name_at 17 "p") Initializer.Unset) (Execute (Statement.FreeKey 20 (name_at 30 "p")) (Execute (returns 34
    (number 41 0)) NoItems))) 44) ∷ [])
    ≡ Some (fault type_rule 30)
form_30 = refl

-- int main() { int p; let alias<`r> int *`r x = p; return 0; }
form_31 : first_fault
    ((main_at 0 (Declare (tree.Local (int_at 13) (name_at 17 "p") Initializer.Unset) (Declare (tree.Alias 20 (region_at 30 "r") (type_at 34 tree.Int ((pointer
    (sign.Nullable 1) (Some (region_at 39 "r"))) ∷ [])) (name_at 42 "x") (name_at 46 "p")) (Execute (returns 49 (number 56 0)) NoItems))) 59) ∷ [])
    ≡ Some (fault type_rule 46)
form_31 = refl

-- int main() { ufree(p); return 0; }
form_32 : first_fault
    ((main_at 0 (Execute (Statement.FreeUnique 13 (name_at 19 "p")) (Execute (returns 23 (number 30 0)) NoItems)) 33) ∷ [])
    ≡ Some (fault name_rule 19)
form_32 = refl

-- int main() { int @x = NULL; return 0; }
form_33 : first_fault
    ((main_at 0 (Declare (tree.Local (type_at 13 tree.Int ((pointer (sign.NotNull 1) None) ∷ [])) (name_at 18 "x") (Initializer.Value (Expression.Null 22)))
    (Execute (returns 28 (number 35 0)) NoItems)) 38) ∷ [])
    ≡ Some (fault type_rule 22)
form_33 = refl

-- int main() { int @x; return 0; }
form_34 : first_fault
    ((main_at 0 (Declare (tree.Local (type_at 13 tree.Int ((pointer (sign.NotNull 1) None) ∷ [])) (name_at 18 "x") Initializer.Unset)
    (Execute (returns 21 (number
    28 0)) NoItems)) 31) ∷ [])
    ≡ Some (fault type_rule 13)
form_34 = refl

-- int main() { int @`U x; return 0; }
form_35 : first_fault
    ((main_at 0 (Declare (tree.Local (type_at 13 tree.Int ((pointer (sign.NotNull 1) (Some (tree.Unique 18))) ∷ []))
    (name_at 21 "x") Initializer.Unset) (Execute
    (returns 24 (number 31 0)) NoItems)) 34) ∷ [])
    ≡ Some (fault type_rule 13)
form_35 = refl

-- struct S { int @p; }; int main() { struct S s; return 0; }
form_36 : first_fault
    ((tree.StructItem (structure 0 (name_at 7 "S") [] ((member (type_at 11 tree.Int ((pointer (sign.NotNull 1) None) ∷ [])) (name_at 16 "p")) ∷ [])))
    ∷ (main_at 22
    (Declare (tree.Local (type_at 35 (tree.Struct (name_at 42 "S") []) []) (name_at 44 "s") Initializer.Unset) (Execute (returns 47 (number 54 0)) NoItems))
    57) ∷ [])
    ≡ Some (fault type_rule 35)
form_36 = refl
