-- Names that aren't known, or are declared twice.
use Rattle.std.proofs.Common.{◌≡◌, refl, false, Some, None, [], ◌∷◌}
use Rattle.cyc_tree.specs.declared.name.Sign.TheVariants as sign
use Rattle.cyc_tree.specs.Tree as tree
use Rattle.cyc_tree.specs.Tree.{Expression, NoExpressions, MoreExpressions, NoSuffixes, Dot, One, Initializer, Case, Default, Statement, NoItems, Declare}
use Rattle.cyc_tree.specs.Tree.{Execute, NoClauses, MoreClauses}
use Rattle.source_meaning.proofs.Trees.{pointer}
use Rattle.source_typing.specs.Faults.{fault, name_rule}
use Rattle.source_typing.specs.Programs.{typing_fault}
use Rattle.source_typing.proofs.samples.SampleTrees.{name_at, region_at, type_at, int_at, number, variable_at, returns, member, structure, routine, main_at}
use Rattle.source_typing.proofs.samples.SampleTrees.{main_returns}

-- int f() { return 0; }
name_1 : typing_fault false
    ((tree.FunctionItem (routine (int_at 0) (name_at 4 "f") [] None [] (Execute (returns 10 (number 17 0)) NoItems) 20)) ∷ [])
    ≡ Some (fault name_rule 4294967295)
name_1 = refl

-- int main() { int x = y; return x; }
name_2 : typing_fault false
    ((main_at 0 (Declare (tree.Local (int_at 13) (name_at 17 "x") (Initializer.Value (variable_at 21 "y"))) (Execute (returns 24 (variable_at 31 "x"))
    NoItems)) 34) ∷ [])
    ≡ Some (fault name_rule 21)
name_2 = refl

-- int main() { return f(); } int f(int x, int x) { return 1; }
name_3 : typing_fault false
    ((main_at 0 (Execute (returns 13 (Expression.Call (name_at 20 "f") NoExpressions)) NoItems) 25) ∷ (tree.FunctionItem (routine (int_at 27) (name_at 31 "f")
    ((member (int_at 33) (name_at 37 "x")) ∷ (member (int_at 40) (name_at 44 "x")) ∷ []) None [] (Execute (returns 49 (number 56 1)) NoItems) 59)) ∷ [])
    ≡ Some (fault name_rule 44)
name_3 = refl

-- int main() { int x; int x; return 0; }
name_4 : typing_fault false
    ((main_at 0 (Declare (tree.Local (int_at 13) (name_at 17 "x") Initializer.Unset) (Declare (tree.Local (int_at 20) (name_at 24 "x") Initializer.Unset)
    (Execute (returns 27 (number 34 0)) NoItems))) 37) ∷ [])
    ≡ Some (fault name_rule 24)
name_4 = refl

-- int main() { x; return 0; }
name_5 : typing_fault false
    ((main_at 0 (Execute (Statement.Run (variable_at 13 "x")) (Execute (returns 16 (number 23 0)) NoItems)) 26) ∷ [])
    ≡ Some (fault name_rule 13)
name_5 = refl

-- struct S { int a; int b; }; int main() { struct S s; s.a = 1; s.c = 2; return 0; }
name_6 : typing_fault false
    ((tree.StructItem (structure 0 (name_at 7 "S") [] ((member (int_at 11) (name_at 15 "a")) ∷ (member (int_at 18) (name_at 22 "b")) ∷ []))) ∷ (main_at 28
    (Declare (tree.Local (type_at 41 (tree.Struct (name_at 48 "S") []) []) (name_at 50 "s") Initializer.Unset) (Execute (Statement.Run (Expression.Assign
    (Expression.Suffixed (variable_at 53 "s") (Dot (name_at 55 "a") NoSuffixes)) (number 59 1))) (Execute (Statement.Run (Expression.Assign
    (Expression.Suffixed (variable_at 62 "s") (Dot (name_at 64 "c") NoSuffixes)) (number 68 2))) (Execute (returns 71 (number 78 0)) NoItems)))) 81) ∷ [])
    ≡ Some (fault name_rule 64)
name_6 = refl

-- struct S { int a; int a; }; int main() { struct S s; s.a = NULL; return 0; }
name_7 : typing_fault false
    ((tree.StructItem (structure 0 (name_at 7 "S") [] ((member (int_at 11) (name_at 15 "a")) ∷ (member (int_at 18) (name_at 22 "a")) ∷ []))) ∷ (main_at 28
    (Declare (tree.Local (type_at 41 (tree.Struct (name_at 48 "S") []) []) (name_at 50 "s") Initializer.Unset) (Execute (Statement.Run (Expression.Assign
    (Expression.Suffixed (variable_at 53 "s") (Dot (name_at 55 "a") NoSuffixes)) (Expression.Null 59))) (Execute (returns 65 (number 72 0)) NoItems))) 75) ∷
    [])
    ≡ Some (fault name_rule 22)
name_7 = refl

-- @tagged union U { int a; char b; }; int main() { union U u = U.c(3); return 0; }
name_8 : typing_fault false
    ((tree.UnionItem (structure 0 (name_at 14 "U") [] ((member (int_at 18) (name_at 22 "a")) ∷ (member (type_at 25 tree.Char []) (name_at 30 "b")) ∷ []))) ∷
    (main_at 36 (Declare (tree.Local (type_at 49 (tree.Union (name_at 55 "U") []) []) (name_at 57 "u") (Initializer.Value (Expression.MakeUnion (name_at 61
    "U") (name_at 63 "c") (number 65 3)))) (Execute (returns 69 (number 76 0)) NoItems)) 79) ∷ [])
    ≡ Some (fault name_rule 63)
name_8 = refl

-- @tagged union U { int a; char b; }; int main() { union U u = U.a(3); switch (u) { case {.z = x}: break; default: break; } return 0; }
name_9 : typing_fault false
    ((tree.UnionItem (structure 0 (name_at 14 "U") [] ((member (int_at 18) (name_at 22 "a")) ∷ (member (type_at 25 tree.Char []) (name_at 30 "b")) ∷ []))) ∷
    (main_at 36 (Declare (tree.Local (type_at 49 (tree.Union (name_at 55 "U") []) []) (name_at 57 "u") (Initializer.Value (Expression.MakeUnion (name_at 61
    "U") (name_at 63 "a") (number 65 3)))) (Execute (Statement.Switch 69 (variable_at 77 "u") (MoreClauses 82 (Case (name_at 89 "z") (name_at 93 "x"))
    (Execute (Statement.Break 97) NoItems) (MoreClauses 104 Default (Execute (Statement.Break 113) NoItems) NoClauses))) (Execute (returns 122 (number 129 0))
    NoItems))) 132) ∷ [])
    ≡ Some (fault name_rule 89)
name_9 = refl

-- int f(int x, int x) { return 0; } int main() { int y = f(1); y = NULL; return 0; }
name_10 : typing_fault false
    ((tree.FunctionItem (routine (int_at 0) (name_at 4 "f") ((member (int_at 6) (name_at 10 "x")) ∷ (member (int_at 13) (name_at 17 "x")) ∷ []) None []
    (Execute (returns 22 (number 29 0)) NoItems) 32)) ∷ (main_at 34 (Declare (tree.Local (int_at 47) (name_at 51 "y") (Initializer.Value (Expression.Call
    (name_at 55 "f") (MoreExpressions (number 57 1) NoExpressions)))) (Execute (Statement.Run (Expression.Assign (variable_at 61 "y") (Expression.Null 65)))
    (Execute (returns 71 (number 78 0)) NoItems))) 81) ∷ [])
    ≡ Some (fault name_rule 17)
name_10 = refl

-- struct A { struct B<`H,`H> *p; }; struct B<`r> { int x; int x; }; int main() { return 0; }
name_11 : typing_fault false
    ((tree.StructItem (structure 0 (name_at 7 "A") [] ((member (type_at 11 (tree.Struct (name_at 18 "B") ((tree.Heap 20) ∷ (tree.Heap 23) ∷ [])) ((pointer
    (sign.Nullable 1) None) ∷ [])) (name_at 28 "p")) ∷ []))) ∷ (tree.StructItem (structure 34 (name_at 41 "B") ((region_at 43 "r") ∷ []) ((member (int_at 49)
    (name_at 53 "x")) ∷ (member (int_at 56) (name_at 60 "x")) ∷ []))) ∷ (main_returns 66) ∷ [])
    ≡ Some (fault name_rule 60)
name_11 = refl

-- int main() { region<`r> h; rnew(h) S(3); return 0; }
name_12 : typing_fault false
    ((main_at 0 (Declare (tree.Region 13 (region_at 20 "r") (name_at 24 "h")) (Execute (Statement.Run (Expression.NewIn 27 (variable_at 32 "h") (One
    (Expression.Call (name_at 35 "S") (MoreExpressions (number 37 3) NoExpressions))))) (Execute (returns 41 (number 48 0)) NoItems))) 51) ∷ [])
    ≡ Some (fault name_rule 35)
name_12 = refl

-- int main() { struct f *x; return 0; } int f(struct nope *p) { return 0; }
name_13 : typing_fault false
    ((main_at 0 (Declare (tree.Local (type_at 13 (tree.Struct (name_at 20 "f") []) ((pointer (sign.Nullable 1) None) ∷ [])) (name_at 23 "x") Initializer.Unset)
    (Execute (returns 26 (number 33 0)) NoItems)) 36) ∷ (tree.FunctionItem (routine (int_at 38) (name_at 42 "f") ((member (type_at 44 (tree.Struct (name_at 51
    "nope") []) ((pointer (sign.Nullable 1) None) ∷ [])) (name_at 57 "p")) ∷ []) None [] (Execute (returns 62 (number 69 0)) NoItems) 72)) ∷ [])
    ≡ Some (fault name_rule 51)
name_13 = refl
