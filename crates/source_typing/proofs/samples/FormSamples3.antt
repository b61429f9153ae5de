-- Forms and places.
use Rattle.std.proofs.Common.{◌≡◌, refl, Some, None, [], ◌∷◌}
use Rattle.cyc_tree.specs.declared.expression.Operator.TheVariants.{Equal}
use Rattle.cyc_tree.specs.declared.expression.Prefix.TheVariants.{Dereference, AddressOf}
use Rattle.cyc_tree.specs.declared.name.Sign.TheVariants as sign
use Rattle.cyc_tree.specs.Tree as tree
use Rattle.cyc_tree.specs.Tree.{Expression, NoExpressions, NoLinks, MoreLinks, NoSuffixes, Index, One, Initializer, Case, Default, Statement, NoItems}
use Rattle.cyc_tree.specs.Tree.{Declare, Execute, NoClauses, MoreClauses, Initial}
use Rattle.source_meaning.proofs.Trees.{pointer}
use Rattle.source_typing.specs.Faults.{fault, name_rule, type_rule, region_rule, outlives_rule}
use Rattle.source_typing.specs.Answers.{first_fault}
use Rattle.source_typing.proofs.samples.SampleTrees.{name_at, region_at, type_at, int_at, number, variable_at, returns, member, structure, global, routine}
use Rattle.source_typing.proofs.samples.SampleTrees.{main_at, main_returns}

-- struct S { int x; }; int main() { struct S s; while (s) ; return 0; }
form_73 : first_fault
    ((tree.StructItem (structure 0 (name_at 7 "S") [] ((member (int_at 11) (name_at 15 "x")) ∷ []))) ∷ (main_at 21 (Declare (tree.Local (type_at 34
    (tree.Struct (name_at 41 "S") []) []) (name_at 43 "s") Initializer.Unset) (Execute (Statement.While 46 (variable_at 53 "s") (Statement.Empty 56)) (Execute
    (returns 58 (number 65 0)) NoItems))) 68) ∷ [])
    ≡ Some (fault type_rule 53)
form_73 = refl

-- int main() { int *p = NULL; int x = 1; int *q = &x; { int y; int *r = &y; if (q == p) ; if (q == r) ; } let NewDynamicRegion{<`r> k} = new_ukey(); int *`r s
-- = NULL; let NewDynamicRegion{<`t> l} = new_ukey(); int *`t t = NULL; region<`r> h = open(k); region<`t> i = open(l); if (s == t) ; return 0; }
form_74 : first_fault
    ((main_at 0 (Declare (tree.Local (type_at 13 tree.Int ((pointer (sign.Nullable 1) None) ∷ [])) (name_at 18 "p") (Initializer.Value (Expression.Null 22)))
    (Declare (tree.Local (int_at 28) (name_at 32 "x") (Initializer.Value (number 36 1))) (Declare (tree.Local (type_at 39 tree.Int ((pointer (sign.Nullable 1)
    None) ∷ [])) (name_at 44 "q") (Initializer.Value (Expression.Prefixed 48 AddressOf (variable_at 49 "x")))) (Execute (Statement.Block 52 (Declare
    (tree.Local (int_at 54) (name_at 58 "y") Initializer.Unset) (Declare (tree.Local (type_at 61 tree.Int ((pointer (sign.Nullable 1) None) ∷ [])) (name_at 66
    "r") (Initializer.Value (Expression.Prefixed 70 AddressOf (variable_at 71 "y")))) (Execute (Statement.If 74 (Expression.Chain (variable_at 78 "q")
    (MoreLinks Equal (variable_at 83 "p") NoLinks)) (Statement.Empty 86)) (Execute (Statement.If 88 (Expression.Chain (variable_at 92 "q") (MoreLinks Equal
    (variable_at 97 "r") NoLinks)) (Statement.Empty 100)) NoItems))))) (Declare (tree.NewKey 104 (region_at 126 "r") (name_at 130 "k")) (Declare (tree.Local
    (type_at 147 tree.Int ((pointer (sign.Nullable 1) (Some (region_at 152 "r"))) ∷ [])) (name_at 155 "s") (Initializer.Value (Expression.Null 159))) (Declare
    (tree.NewKey 165 (region_at 187 "t") (name_at 191 "l")) (Declare (tree.Local (type_at 208 tree.Int ((pointer (sign.Nullable 1) (Some (region_at 213 "t"))) ∷
    [])) (name_at 216 "t") (Initializer.Value (Expression.Null 220))) (Declare (tree.Open 226 (region_at 233 "r") (name_at 237 "h") (name_at 246 "k"))
    (Declare (tree.Open 250 (region_at 257 "t") (name_at 261 "i") (name_at 270 "l")) (Execute (Statement.If 274 (Expression.Chain (variable_at 278 "s")
    (MoreLinks Equal (variable_at 283 "t") NoLinks)) (Statement.Empty 286)) (Execute (returns 288 (number 295 0)) NoItems)))))))))))) 298) ∷ [])
    ≡ Some (fault outlives_rule 278)
form_74 = refl

-- struct S { int x; }; int main() { struct S s; struct S t; s :=: t; return 0; }
form_75 : first_fault
    ((tree.StructItem (structure 0 (name_at 7 "S") [] ((member (int_at 11) (name_at 15 "x")) ∷ []))) ∷ (main_at 21 (Declare (tree.Local (type_at 34
    (tree.Struct (name_at 41 "S") []) []) (name_at 43 "s") Initializer.Unset) (Declare (tree.Local (type_at 46 (tree.Struct (name_at 53 "S") []) []) (name_at
    55 "t") Initializer.Unset) (Execute (Statement.Exchange (variable_at 58 "s") (variable_at 64 "t")) (Execute (returns 67 (number 74 0)) NoItems)))) 77) ∷
    [])
    ≡ Some (fault type_rule 58)
form_75 = refl

-- int main() { int x; char y; x :=: y; return 0; }
form_76 : first_fault
    ((main_at 0 (Declare (tree.Local (int_at 13) (name_at 17 "x") Initializer.Unset) (Declare (tree.Local (type_at 20 tree.Char []) (name_at 25 "y")
    Initializer.Unset) (Execute (Statement.Exchange (variable_at 28 "x") (variable_at 34 "y")) (Execute (returns 37 (number 44 0)) NoItems)))) 47) ∷ [])
    ≡ Some (fault type_rule 28)
form_76 = refl

-- int main() { int x; x :=: 1; return 0; }
form_77 : first_fault
    ((main_at 0 (Declare (tree.Local (int_at 13) (name_at 17 "x") Initializer.Unset) (Execute (Statement.Exchange (variable_at 20 "x") (number 26 1)) (Execute
    (returns 29 (number 36 0)) NoItems))) 39) ∷ [])
    ≡ Some (fault type_rule 20)
form_77 = refl

-- the call is a part with a fault
-- int f() { return 1; } int main() { int x; x :=: f(); return 0; }
form_78 : first_fault
    ((tree.FunctionItem (routine (int_at 0) (name_at 4 "f") [] None [] (Execute (returns 10 (number 17 1)) NoItems) 20)) ∷ (main_at 22 (Declare (tree.Local
    (int_at 35) (name_at 39 "x") Initializer.Unset) (Execute (Statement.Exchange (variable_at 42 "x") (Expression.Call (name_at 48 "f") NoExpressions))
    (Execute (returns 53 (number 60 0)) NoItems))) 63) ∷ [])
    ≡ Some (fault type_rule 48)
form_78 = refl

-- void f(uregion_key_t<`r> k, uregion_key_t<`r> l) { k :=: l; } int main() { return 0; }
form_79 : first_fault
    ((tree.FunctionItem (routine (type_at 0 tree.Void []) (name_at 5 "f") ((member (type_at 7 (tree.Key (region_at 21 "r")) []) (name_at 25 "k")) ∷ (member
    (type_at 28 (tree.Key (region_at 42 "r")) []) (name_at 46 "l")) ∷ []) None [] (Execute (Statement.Exchange (variable_at 51 "k") (variable_at 57 "l"))
    NoItems) 60)) ∷ (main_returns 62) ∷ [])
    ≡ Some (fault type_rule 51)
form_79 = refl

-- int main() { int a[2]; int x; a[x = 1] :=: x; return 0; }
form_80 : first_fault
    ((main_at 0 (Declare (tree.Local (int_at 13) (name_at 17 "a") (Initializer.Elements 2)) (Declare (tree.Local (int_at 23) (name_at 27 "x")
    Initializer.Unset) (Execute (Statement.Exchange (Expression.Suffixed (variable_at 30 "a") (Index (Expression.Assign (variable_at 32 "x") (number 36 1))
    NoSuffixes)) (variable_at 43 "x")) (Execute (returns 46 (number 53 0)) NoItems)))) 56) ∷ [])
    ≡ Some (fault type_rule 32)
form_80 = refl

-- int main() { int *p = NULL; int x; *new 1 :=: x; return 0; }
form_81 : first_fault
    ((main_at 0 (Declare (tree.Local (type_at 13 tree.Int ((pointer (sign.Nullable 1) None) ∷ [])) (name_at 18 "p") (Initializer.Value (Expression.Null 22)))
    (Declare (tree.Local (int_at 28) (name_at 32 "x") Initializer.Unset) (Execute (Statement.Exchange (Expression.Prefixed 35 Dereference (Expression.New 36
    (One (number 40 1)))) (variable_at 46 "x")) (Execute (returns 49 (number 56 0)) NoItems)))) 59) ∷ [])
    ≡ Some (fault type_rule 36)
form_81 = refl

-- int main() { break; return 0; }
form_82 : first_fault
    ((main_at 0 (Execute (Statement.Break 13) (Execute (returns 20 (number 27 0)) NoItems)) 30) ∷ [])
    ≡ Some (fault type_rule 13)
form_82 = refl

-- int main() { continue; return 0; }
form_83 : first_fault
    ((main_at 0 (Execute (Statement.Continue 13) (Execute (returns 23 (number 30 0)) NoItems)) 33) ∷ [])
    ≡ Some (fault type_rule 13)
form_83 = refl

-- @tagged union U { int a; char b; }; int main() { union U x = U.a(1); switch (x) { default: continue; } return 0; }
form_84 : first_fault
    ((tree.UnionItem (structure 0 (name_at 14 "U") [] ((member (int_at 18) (name_at 22 "a")) ∷ (member (type_at 25 tree.Char []) (name_at 30 "b")) ∷ []))) ∷
    (main_at 36 (Declare (tree.Local (type_at 49 (tree.Union (name_at 55 "U") []) []) (name_at 57 "x") (Initializer.Value (Expression.MakeUnion (name_at 61
    "U") (name_at 63 "a") (number 65 1)))) (Execute (Statement.Switch 69 (variable_at 77 "x") (MoreClauses 82 Default (Execute (Statement.Continue 91)
    NoItems) NoClauses)) (Execute (returns 103 (number 110 0)) NoItems))) 113) ∷ [])
    ≡ Some (fault type_rule 91)
form_84 = refl

-- int f() { return; } int main() { return 0; }
form_85 : first_fault
    ((tree.FunctionItem (routine (int_at 0) (name_at 4 "f") [] None [] (Execute (Statement.Return 10 None) NoItems) 18)) ∷ (main_returns 20) ∷ [])
    ≡ Some (fault type_rule 10)
form_85 = refl

-- void f() { return 1; } int main() { return 0; }
form_86 : first_fault
    ((tree.FunctionItem (routine (type_at 0 tree.Void []) (name_at 5 "f") [] None [] (Execute (returns 11 (number 18 1)) NoItems) 21)) ∷ (main_returns 23) ∷ [])
    ≡ Some (fault type_rule 11)
form_86 = refl

-- int *f() { return 1; } int main() { return 0; }
form_87 : first_fault
    ((tree.FunctionItem (routine (type_at 0 tree.Int ((pointer (sign.Nullable 1) None) ∷ [])) (name_at 5 "f") [] None [] (Execute (returns 11 (number 18 1))
    NoItems) 21)) ∷ (main_returns 23) ∷ [])
    ≡ Some (fault type_rule 18)
form_87 = refl

-- int f() { while (1) ; } int main() { return 0; }
form_88 : first_fault
    ((tree.FunctionItem (routine (int_at 0) (name_at 4 "f") [] None [] (Execute (Statement.While 10 (number 17 1) (Statement.Empty 20)) NoItems) 22)) ∷
    (main_returns 24) ∷ [])
    ≡ Some (fault type_rule 22)
form_88 = refl

-- int f(int x) { if (x) return 1; } int main() { return 0; }
form_89 : first_fault
    ((tree.FunctionItem (routine (int_at 0) (name_at 4 "f") ((member (int_at 6) (name_at 10 "x")) ∷ []) None [] (Execute (Statement.If 15 (variable_at 19 "x")
    (returns 22 (number 29 1))) NoItems) 32)) ∷ (main_returns 34) ∷ [])
    ≡ Some (fault type_rule 32)
form_89 = refl

-- int f(int x) { if (x) return 1; else return 2; } void g() { } int main() { return 0; }
form_90 : first_fault
    ((tree.FunctionItem (routine (int_at 0) (name_at 4 "f") ((member (int_at 6) (name_at 10 "x")) ∷ []) None [] (Execute (Statement.IfElse 15 (variable_at 19
    "x") (returns 22 (number 29 1)) (returns 37 (number 44 2))) NoItems) 47)) ∷ (tree.FunctionItem (routine (type_at 49 tree.Void []) (name_at 54 "g") [] None
    [] NoItems 60)) ∷ (main_returns 62) ∷ [])
    ≡ None
form_90 = refl

-- int f() { return 1; { int x; } return 2; } int g() { if (1) { } } int main() { return 0; }
form_91 : first_fault
    ((tree.FunctionItem (routine (int_at 0) (name_at 4 "f") [] None [] (Execute (returns 10 (number 17 1)) (Execute (Statement.Block 20 (Declare (tree.Local
    (int_at 22) (name_at 26 "x") Initializer.Unset) NoItems)) (Execute (returns 31 (number 38 2)) NoItems))) 41)) ∷ (tree.FunctionItem (routine (int_at 43)
    (name_at 47 "g") [] None [] (Execute (Statement.If 53 (number 57 1) (Statement.Block 60 NoItems)) NoItems) 64)) ∷ (main_returns 66) ∷ [])
    ≡ Some (fault type_rule 64)
form_91 = refl

-- int main() { switch (1) { default: break; } return 0; }
form_92 : first_fault
    ((main_at 0 (Execute (Statement.Switch 13 (number 21 1) (MoreClauses 26 Default (Execute (Statement.Break 35) NoItems) NoClauses)) (Execute (returns 44
    (number 51 0)) NoItems)) 54) ∷ [])
    ≡ Some (fault type_rule 13)
form_92 = refl

-- @tagged union U { int a; char b; }; int main() { switch (U.a(1)) { default: break; } return 0; }
form_93 : first_fault
    ((tree.UnionItem (structure 0 (name_at 14 "U") [] ((member (int_at 18) (name_at 22 "a")) ∷ (member (type_at 25 tree.Char []) (name_at 30 "b")) ∷ []))) ∷
    (main_at 36 (Execute (Statement.Switch 49 (Expression.MakeUnion (name_at 57 "U") (name_at 59 "a") (number 61 1)) (MoreClauses 67 Default (Execute
    (Statement.Break 76) NoItems) NoClauses)) (Execute (returns 85 (number 92 0)) NoItems)) 95) ∷ [])
    ≡ Some (fault type_rule 49)
form_93 = refl

-- @tagged union U { int a; char b; }; int main() { union U x = U.a(1); switch (x) { case {.a = v}: break; case {.a = v}: break; case {.b = v}: break; } return
-- 0; }
form_94 : first_fault
    ((tree.UnionItem (structure 0 (name_at 14 "U") [] ((member (int_at 18) (name_at 22 "a")) ∷ (member (type_at 25 tree.Char []) (name_at 30 "b")) ∷ []))) ∷
    (main_at 36 (Declare (tree.Local (type_at 49 (tree.Union (name_at 55 "U") []) []) (name_at 57 "x") (Initializer.Value (Expression.MakeUnion (name_at 61
    "U") (name_at 63 "a") (number 65 1)))) (Execute (Statement.Switch 69 (variable_at 77 "x") (MoreClauses 82 (Case (name_at 89 "a") (name_at 93 "v"))
    (Execute (Statement.Break 97) NoItems) (MoreClauses 104 (Case (name_at 111 "a") (name_at 115 "v")) (Execute (Statement.Break 119) NoItems) (MoreClauses
    126 (Case (name_at 133 "b") (name_at 137 "v")) (Execute (Statement.Break 141) NoItems) NoClauses)))) (Execute (returns 150 (number 157 0)) NoItems))) 160)
    ∷ [])
    ≡ Some (fault type_rule 69)
form_94 = refl

-- @tagged union U { int a; char b; }; int main() { union U x = U.a(1); switch (x) { default: break; default: break; } return 0; }
form_95 : first_fault
    ((tree.UnionItem (structure 0 (name_at 14 "U") [] ((member (int_at 18) (name_at 22 "a")) ∷ (member (type_at 25 tree.Char []) (name_at 30 "b")) ∷ []))) ∷
    (main_at 36 (Declare (tree.Local (type_at 49 (tree.Union (name_at 55 "U") []) []) (name_at 57 "x") (Initializer.Value (Expression.MakeUnion (name_at 61
    "U") (name_at 63 "a") (number 65 1)))) (Execute (Statement.Switch 69 (variable_at 77 "x") (MoreClauses 82 Default (Execute (Statement.Break 91) NoItems)
    (MoreClauses 98 Default (Execute (Statement.Break 107) NoItems) NoClauses))) (Execute (returns 116 (number 123 0)) NoItems))) 126) ∷ [])
    ≡ Some (fault type_rule 69)
form_95 = refl

-- @tagged union U { int a; char b; }; int main() { union U x = U.a(1); switch (x) { case {.a = v}: v = 1; case {.b = v}: break; } return 0; }
form_96 : first_fault
    ((tree.UnionItem (structure 0 (name_at 14 "U") [] ((member (int_at 18) (name_at 22 "a")) ∷ (member (type_at 25 tree.Char []) (name_at 30 "b")) ∷ []))) ∷
    (main_at 36 (Declare (tree.Local (type_at 49 (tree.Union (name_at 55 "U") []) []) (name_at 57 "x") (Initializer.Value (Expression.MakeUnion (name_at 61
    "U") (name_at 63 "a") (number 65 1)))) (Execute (Statement.Switch 69 (variable_at 77 "x") (MoreClauses 82 (Case (name_at 89 "a") (name_at 93 "v"))
    (Execute (Statement.Run (Expression.Assign (variable_at 97 "v") (number 101 1))) NoItems) (MoreClauses 104 (Case (name_at 111 "b") (name_at 115 "v"))
    (Execute (Statement.Break 119) NoItems) NoClauses))) (Execute (returns 128 (number 135 0)) NoItems))) 138) ∷ [])
    ≡ Some (fault type_rule 82)
form_96 = refl

-- @tagged union U { int a; char b; }; int main() { union U x = U.a(1); switch (x) { default: ; } return 0; }
form_97 : first_fault
    ((tree.UnionItem (structure 0 (name_at 14 "U") [] ((member (int_at 18) (name_at 22 "a")) ∷ (member (type_at 25 tree.Char []) (name_at 30 "b")) ∷ []))) ∷
    (main_at 36 (Declare (tree.Local (type_at 49 (tree.Union (name_at 55 "U") []) []) (name_at 57 "x") (Initializer.Value (Expression.MakeUnion (name_at 61
    "U") (name_at 63 "a") (number 65 1)))) (Execute (Statement.Switch 69 (variable_at 77 "x") (MoreClauses 82 Default (Execute (Statement.Empty 91) NoItems)
    NoClauses)) (Execute (returns 95 (number 102 0)) NoItems))) 105) ∷ [])
    ≡ Some (fault type_rule 82)
form_97 = refl

-- @tagged union U { int a; char b; }; int main() { union U x = U.a(1); switch (x) { case {.c = v}: break; default: break; } return 0; }
form_98 : first_fault
    ((tree.UnionItem (structure 0 (name_at 14 "U") [] ((member (int_at 18) (name_at 22 "a")) ∷ (member (type_at 25 tree.Char []) (name_at 30 "b")) ∷ []))) ∷
    (main_at 36 (Declare (tree.Local (type_at 49 (tree.Union (name_at 55 "U") []) []) (name_at 57 "x") (Initializer.Value (Expression.MakeUnion (name_at 61
    "U") (name_at 63 "a") (number 65 1)))) (Execute (Statement.Switch 69 (variable_at 77 "x") (MoreClauses 82 (Case (name_at 89 "c") (name_at 93 "v"))
    (Execute (Statement.Break 97) NoItems) (MoreClauses 104 Default (Execute (Statement.Break 113) NoItems) NoClauses))) (Execute (returns 122 (number 129 0))
    NoItems))) 132) ∷ [])
    ≡ Some (fault name_rule 89)
form_98 = refl

-- @tagged union U { int a; char b; }; int main() { union U x = U.a(1); switch (x) { case {.a = v}: int v; break; default: break; } return 0; }
form_99 : first_fault
    ((tree.UnionItem (structure 0 (name_at 14 "U") [] ((member (int_at 18) (name_at 22 "a")) ∷ (member (type_at 25 tree.Char []) (name_at 30 "b")) ∷ []))) ∷
    (main_at 36 (Declare (tree.Local (type_at 49 (tree.Union (name_at 55 "U") []) []) (name_at 57 "x") (Initializer.Value (Expression.MakeUnion (name_at 61
    "U") (name_at 63 "a") (number 65 1)))) (Execute (Statement.Switch 69 (variable_at 77 "x") (MoreClauses 82 (Case (name_at 89 "a") (name_at 93 "v"))
    (Declare (tree.Local (int_at 97) (name_at 101 "v") Initializer.Unset) (Execute (Statement.Break 104) NoItems)) (MoreClauses 111 Default (Execute
    (Statement.Break 120) NoItems) NoClauses))) (Execute (returns 129 (number 136 0)) NoItems))) 139) ∷ [])
    ≡ Some (fault name_rule 101)
form_99 = refl

-- @tagged union U { int a; char b; }; int f(int n) { union U x = U.a(1); while (n) { switch (x) { case {.a = v}: continue; default: return n; } } return 0; }
-- int main() { return 0; }
form_100 : first_fault
    ((tree.UnionItem (structure 0 (name_at 14 "U") [] ((member (int_at 18) (name_at 22 "a")) ∷ (member (type_at 25 tree.Char []) (name_at 30 "b")) ∷ []))) ∷
    (tree.FunctionItem (routine (int_at 36) (name_at 40 "f") ((member (int_at 42) (name_at 46 "n")) ∷ []) None [] (Declare (tree.Local (type_at 51 (tree.Union
    (name_at 57 "U") []) []) (name_at 59 "x") (Initializer.Value (Expression.MakeUnion (name_at 63 "U") (name_at 65 "a") (number 67 1)))) (Execute
    (Statement.While 71 (variable_at 78 "n") (Statement.Block 81 (Execute (Statement.Switch 83 (variable_at 91 "x") (MoreClauses 96 (Case (name_at 103 "a")
    (name_at 107 "v")) (Execute (Statement.Continue 111) NoItems) (MoreClauses 121 Default (Execute (returns 130 (variable_at 137 "n")) NoItems) NoClauses)))
    NoItems))) (Execute (returns 144 (number 151 0)) NoItems))) 154)) ∷ (main_returns 156) ∷ [])
    ≡ None
form_100 = refl

-- int main() { return 0; } int f(int x) { int y = x; { int x = y; } return x; }
form_101 : first_fault
    ((main_returns 0) ∷ (tree.FunctionItem (routine (int_at 25) (name_at 29 "f") ((member (int_at 31) (name_at 35 "x")) ∷ []) None [] (Declare (tree.Local
    (int_at 40) (name_at 44 "y") (Initializer.Value (variable_at 48 "x"))) (Execute (Statement.Block 51 (Declare (tree.Local (int_at 53) (name_at 57 "x")
    (Initializer.Value (variable_at 61 "y"))) NoItems)) (Execute (returns 66 (variable_at 73 "x")) NoItems))) 76)) ∷ [])
    ≡ None
form_101 = refl

-- int f(int x) { int x; return 0; } int main() { return 0; }
form_102 : first_fault
    ((tree.FunctionItem (routine (int_at 0) (name_at 4 "f") ((member (int_at 6) (name_at 10 "x")) ∷ []) None [] (Declare (tree.Local (int_at 15) (name_at 19
    "x") Initializer.Unset) (Execute (returns 22 (number 29 0)) NoItems)) 32)) ∷ (main_returns 34) ∷ [])
    ≡ Some (fault name_rule 19)
form_102 = refl

-- int f() { return 0; } int f; int main() {  return 0; }
form_103 : first_fault
    ((tree.FunctionItem (routine (int_at 0) (name_at 4 "f") [] None [] (Execute (returns 10 (number 17 0)) NoItems) 20)) ∷ (tree.GlobalItem (global (int_at 22)
    (name_at 26 "f") Initial.Unset)) ∷ (main_at 29 (Execute (returns 43 (number 50 0)) NoItems) 53) ∷ [])
    ≡ Some (fault name_rule 26)
form_103 = refl

-- int getchar() { return 0; } int main() { return 0; }
form_104 : first_fault
    ((tree.FunctionItem (routine (int_at 0) (name_at 4 "getchar") [] None [] (Execute (returns 16 (number 23 0)) NoItems) 26)) ∷ (main_returns 28) ∷ [])
    ≡ Some (fault name_rule 4)
form_104 = refl

-- int main() { { int x; } x = 1; return 0; }
form_105 : first_fault
    ((main_at 0 (Execute (Statement.Block 13 (Declare (tree.Local (int_at 15) (name_at 19 "x") Initializer.Unset) NoItems)) (Execute (Statement.Run
    (Expression.Assign (variable_at 24 "x") (number 28 1))) (Execute (returns 31 (number 38 0)) NoItems))) 41) ∷ [])
    ≡ Some (fault name_rule 24)
form_105 = refl

-- int main() { int x = x; return 0; }
form_106 : first_fault
    ((main_at 0 (Declare (tree.Local (int_at 13) (name_at 17 "x") (Initializer.Value (variable_at 21 "x"))) (Execute (returns 24 (number 31 0)) NoItems)) 34) ∷
    [])
    ≡ Some (fault name_rule 21)
form_106 = refl

-- struct S<`r, `r> { int *`r p; }; int main() { return 0; }
form_107 : first_fault
    ((tree.StructItem (structure 0 (name_at 7 "S") ((region_at 9 "r") ∷ (region_at 13 "r") ∷ []) ((member (type_at 19 tree.Int ((pointer (sign.Nullable 1) (Some
    (region_at 24 "r"))) ∷ [])) (name_at 27 "p")) ∷ []))) ∷ (main_returns 33) ∷ [])
    ≡ Some (fault region_rule 13)
form_107 = refl

-- struct S<`H> { int x; }; int main() { return 0; }
form_108 : first_fault
    ((tree.StructItem (structure 0 (name_at 7 "S") ((tree.Heap 9) ∷ []) ((member (int_at 15) (name_at 19 "x")) ∷ []))) ∷ (main_returns 25) ∷ [])
    ≡ Some (fault region_rule 9)
form_108 = refl
