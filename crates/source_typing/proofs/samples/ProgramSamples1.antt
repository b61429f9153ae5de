-- Programs on several rules.
use Rattle.std.proofs.Common.{◌≡◌, refl, Some, None, [], ◌∷◌}
use Rattle.std.specs.Prelude.{codes}
use Rattle.cyc_tree.specs.declared.expression.Operator.TheVariants.{Equal, Add, Subtract}
use Rattle.cyc_tree.specs.declared.expression.Prefix.TheVariants.{Dereference, AddressOf}
use Rattle.cyc_tree.specs.declared.name.Sign.TheVariants as sign
use Rattle.cyc_tree.specs.Tree as tree
use Rattle.cyc_tree.specs.Tree.{Expression, NoExpressions, MoreExpressions, NoLinks, MoreLinks, NoSuffixes, Index, Dot, Arrow, One, Array, Initializer, Case}
use Rattle.cyc_tree.specs.Tree.{Statement, NoItems, Declare, Execute, NoClauses, MoreClauses, Initial}
use Rattle.source_meaning.proofs.Trees.{pointer}
use Rattle.source_typing.specs.Faults.{fault, name_rule, type_rule, region_rule, outlives_rule, effect_rule}
use Rattle.source_typing.specs.Answers.{first_fault}
use Rattle.source_typing.proofs.samples.SampleTrees.{name_at, region_at, type_at, int_at, number, variable_at, returns, member, structure, global, bound}
use Rattle.source_typing.proofs.samples.SampleTrees.{routine, main_at, main_returns}

-- int main() { region<`a> g; int *`a x = rnew(g) 1; region<`b> h; int *`b y = rnew(h) 2; y = x; x = y; return 0; }
program_1 : first_fault
    ((main_at 0 (Declare (tree.Region 13 (region_at 20 "a") (name_at 24 "g")) (Declare (tree.Local (type_at 27 tree.Int ((pointer (sign.Nullable 1) (Some
    (region_at 32 "a"))) ∷ [])) (name_at 35 "x") (Initializer.Value (Expression.NewIn 39 (variable_at 44 "g") (One (number 47 1))))) (Declare (tree.Region 50
    (region_at 57 "b") (name_at 61 "h"))
    (Declare (tree.Local (type_at 64 tree.Int ((pointer (sign.Nullable 1) (Some (region_at 69 "b"))) ∷ [])) (name_at 72 "y")
    (Initializer.Value (Expression.NewIn 76 (variable_at 81 "h") (One (number 84 2))))) (Execute (Statement.Run (Expression.Assign (variable_at 87 "y")
    (variable_at 91 "x"))) (Execute (Statement.Run (Expression.Assign (variable_at 94 "x") (variable_at 98 "y"))) (Execute (returns 101 (number 108 0))
    NoItems))))))) 111) ∷ [])
    ≡ Some (fault outlives_rule 98)
program_1 = refl

-- int main() { region<`a> g; int *`a x = rnew(g) 1; region<`b> h; int *`b y = rnew(h) 2; y = x; return 0; }
program_2 : first_fault
    ((main_at 0 (Declare (tree.Region 13 (region_at 20 "a") (name_at 24 "g")) (Declare (tree.Local (type_at 27 tree.Int ((pointer (sign.Nullable 1) (Some
    (region_at 32 "a"))) ∷ [])) (name_at 35 "x") (Initializer.Value (Expression.NewIn 39 (variable_at 44 "g") (One (number 47 1))))) (Declare (tree.Region 50
    (region_at 57 "b") (name_at 61 "h"))
    (Declare (tree.Local (type_at 64 tree.Int ((pointer (sign.Nullable 1) (Some (region_at 69 "b"))) ∷ [])) (name_at 72 "y")
    (Initializer.Value (Expression.NewIn 76 (variable_at 81 "h") (One (number 84 2))))) (Execute (Statement.Run (Expression.Assign (variable_at 87 "y")
    (variable_at 91 "x"))) (Execute (returns 94 (number 101 0)) NoItems)))))) 104) ∷ [])
    ≡ None
program_2 = refl

-- @tagged union U { int a; char b; }; int main() { union U x = U.b('z'); switch (x) { case {.a = v}: return 1; case {.b = c}: putchar(c); break; } return 0; }
program_3 : first_fault
    ((tree.UnionItem (structure 0 (name_at 14 "U") [] ((member (int_at 18) (name_at 22 "a")) ∷ (member (type_at 25 tree.Char []) (name_at 30 "b")) ∷ []))) ∷
    (main_at 36 (Declare (tree.Local (type_at 49 (tree.Union (name_at 55 "U") []) []) (name_at 57 "x") (Initializer.Value (Expression.MakeUnion (name_at 61
    "U") (name_at 63 "b") (Expression.Character 65 122)))) (Execute (Statement.Switch 71 (variable_at 79 "x") (MoreClauses 84 (Case (name_at 91 "a") (name_at
    95 "v")) (Execute (returns 99 (number 106 1)) NoItems) (MoreClauses 109 (Case (name_at 116 "b") (name_at 120 "c")) (Execute (Statement.Run
    (Expression.Call (name_at 124 "putchar") (MoreExpressions (variable_at 132 "c") NoExpressions))) (Execute (Statement.Break 136) NoItems)) NoClauses)))
    (Execute (returns 145 (number 152 0)) NoItems))) 155) ∷ [])
    ≡ None
program_3 = refl

-- @tagged union U { int a; char b; }; int main() { union U x = U.b('z'); switch (x) { case {.a = v}: return 1; } return 0; }
program_4 : first_fault
    ((tree.UnionItem (structure 0 (name_at 14 "U") [] ((member (int_at 18) (name_at 22 "a")) ∷ (member (type_at 25 tree.Char []) (name_at 30 "b")) ∷ []))) ∷
    (main_at 36 (Declare (tree.Local (type_at 49 (tree.Union (name_at 55 "U") []) []) (name_at 57 "x") (Initializer.Value (Expression.MakeUnion (name_at 61
    "U") (name_at 63 "b") (Expression.Character 65 122)))) (Execute (Statement.Switch 71 (variable_at 79 "x") (MoreClauses 84 (Case (name_at 91 "a") (name_at
    95 "v")) (Execute (returns 99 (number 106 1)) NoItems) NoClauses)) (Execute (returns 111 (number 118 0)) NoItems))) 121) ∷ [])
    ≡ Some (fault type_rule 71)
program_4 = refl

-- int main() { int y = 1; int *p = &y; { int x = 2; p = &x; } return *p; }
program_5 : first_fault
    ((main_at 0 (Declare (tree.Local (int_at 13) (name_at 17 "y") (Initializer.Value (number 21 1))) (Declare (tree.Local (type_at 24 tree.Int ((pointer
    (sign.Nullable 1) None) ∷ [])) (name_at 29 "p") (Initializer.Value (Expression.Prefixed 33 AddressOf (variable_at 34 "y")))) (Execute (Statement.Block 37
    (Declare (tree.Local (int_at 39) (name_at 43 "x") (Initializer.Value (number 47 2))) (Execute (Statement.Run (Expression.Assign (variable_at 50 "p")
    (Expression.Prefixed 54 AddressOf (variable_at 55 "x")))) NoItems))) (Execute (returns 60 (Expression.Prefixed 67 Dereference (variable_at 68 "p")))
    NoItems)))) 71) ∷ [])
    ≡ Some (fault outlives_rule 54)
program_5 = refl

-- int main() { int y = 1; int *p = &y; { int x = 2; } return *p; }
program_6 : first_fault
    ((main_at 0 (Declare (tree.Local (int_at 13) (name_at 17 "y") (Initializer.Value (number 21 1))) (Declare (tree.Local (type_at 24 tree.Int ((pointer
    (sign.Nullable 1) None) ∷ [])) (name_at 29 "p") (Initializer.Value (Expression.Prefixed 33 AddressOf (variable_at 34 "y")))) (Execute (Statement.Block 37
    (Declare (tree.Local (int_at 39) (name_at 43 "x") (Initializer.Value (number 47 2))) NoItems)) (Execute (returns 52 (Expression.Prefixed 59 Dereference
    (variable_at 60 "p"))) NoItems)))) 63) ∷ [])
    ≡ None
program_6 = refl

-- int g(int *`a p) { return *p; } int f(int *`b p; {}) { return g(p); } int main() { int x = 5; return f(&x); }
program_7 : first_fault
    ((tree.FunctionItem (routine (int_at 0) (name_at 4 "g")
    ((member (type_at 6 tree.Int ((pointer (sign.Nullable 1) (Some (region_at 11 "a"))) ∷ [])) (name_at 14
    "p")) ∷ []) None [] (Execute (returns 19 (Expression.Prefixed 26 Dereference (variable_at 27 "p"))) NoItems) 30)) ∷ (tree.FunctionItem (routine (int_at
    32) (name_at 36 "f") ((member (type_at 38 tree.Int ((pointer (sign.Nullable 1) (Some (region_at 43 "b"))) ∷ [])) (name_at 46 "p")) ∷ [])
    (Some []) [] (Execute
    (Statement.Return 55 (Some (Expression.Call (name_at 62 "g") (MoreExpressions (variable_at 64 "p") NoExpressions)))) NoItems) 68)) ∷ (main_at 70 (Declare
    (tree.Local (int_at 83) (name_at 87 "x") (Initializer.Value (number 91 5))) (Execute (Statement.Return 94 (Some (Expression.Call (name_at 101 "f")
    (MoreExpressions (Expression.Prefixed 103 AddressOf (variable_at 104 "x")) NoExpressions)))) NoItems)) 108) ∷ [])
    ≡ Some (fault effect_rule 62)
program_7 = refl

-- int g(int *`a p) { return *p; } int f(int *`b p) { return g(p); } int main() { int x = 5; return f(&x); }
program_8 : first_fault
    ((tree.FunctionItem (routine (int_at 0) (name_at 4 "g")
    ((member (type_at 6 tree.Int ((pointer (sign.Nullable 1) (Some (region_at 11 "a"))) ∷ [])) (name_at 14
    "p")) ∷ []) None [] (Execute (returns 19 (Expression.Prefixed 26 Dereference (variable_at 27 "p"))) NoItems) 30)) ∷ (tree.FunctionItem (routine (int_at
    32) (name_at 36 "f") ((member (type_at 38 tree.Int ((pointer (sign.Nullable 1) (Some (region_at 43 "b"))) ∷ [])) (name_at 46 "p")) ∷ []) None [] (Execute
    (Statement.Return 51 (Some (Expression.Call (name_at 58 "g") (MoreExpressions (variable_at 60 "p") NoExpressions)))) NoItems) 64)) ∷ (main_at 66 (Declare
    (tree.Local (int_at 79) (name_at 83 "x") (Initializer.Value (number 87 5))) (Execute (Statement.Return 90 (Some (Expression.Call (name_at 97 "f")
    (MoreExpressions (Expression.Prefixed 99 AddressOf (variable_at 100 "x")) NoExpressions)))) NoItems)) 104) ∷ [])
    ≡ None
program_8 = refl

-- int f(int *`a p, int *`b q : `a > `b) { q = p; return *q; } int main() { int x = 1; region<`r> h; int *`r y = rnew(h) 2; return f(y, &x); }
program_9 : first_fault
    ((tree.FunctionItem (routine (int_at 0) (name_at 4 "f")
    ((member (type_at 6 tree.Int ((pointer (sign.Nullable 1) (Some (region_at 11 "a"))) ∷ [])) (name_at 14
    "p")) ∷ (member (type_at 17 tree.Int ((pointer (sign.Nullable 1) (Some (region_at 22 "b"))) ∷ [])) (name_at 25 "q")) ∷ []) None ((bound (region_at 29 "a")
    (region_at 34 "b")) ∷ []) (Execute (Statement.Run (Expression.Assign (variable_at 40 "q") (variable_at 44 "p"))) (Execute (returns 47 (Expression.Prefixed
    54 Dereference (variable_at 55 "q"))) NoItems)) 58)) ∷ (main_at 60 (Declare (tree.Local (int_at 73) (name_at 77 "x") (Initializer.Value (number 81 1)))
    (Declare (tree.Region 84 (region_at 91 "r") (name_at 95 "h")) (Declare (tree.Local (type_at 98 tree.Int ((pointer (sign.Nullable 1) (Some (region_at 103
    "r"))) ∷ [])) (name_at 106 "y") (Initializer.Value (Expression.NewIn 110 (variable_at 115 "h") (One (number 118 2))))) (Execute (Statement.Return 121
    (Some (Expression.Call (name_at 128 "f") (MoreExpressions (variable_at 130 "y") (MoreExpressions (Expression.Prefixed 133 AddressOf (variable_at 134 "x"))
    NoExpressions))))) NoItems)))) 138) ∷ [])
    ≡ Some (fault outlives_rule 128)
program_9 = refl

-- int f(int *`a p, int *`b q : `a > `b) { q = p; return *q; } int main() { int x = 1; region<`r> h; int *`r y = rnew(h) 2; return f(&x, y); }
program_10 : first_fault
    ((tree.FunctionItem (routine (int_at 0) (name_at 4 "f")
    ((member (type_at 6 tree.Int ((pointer (sign.Nullable 1) (Some (region_at 11 "a"))) ∷ [])) (name_at 14
    "p")) ∷ (member (type_at 17 tree.Int ((pointer (sign.Nullable 1) (Some (region_at 22 "b"))) ∷ [])) (name_at 25 "q")) ∷ []) None ((bound (region_at 29 "a")
    (region_at 34 "b")) ∷ []) (Execute (Statement.Run (Expression.Assign (variable_at 40 "q") (variable_at 44 "p"))) (Execute (returns 47 (Expression.Prefixed
    54 Dereference (variable_at 55 "q"))) NoItems)) 58)) ∷ (main_at 60 (Declare (tree.Local (int_at 73) (name_at 77 "x") (Initializer.Value (number 81 1)))
    (Declare (tree.Region 84 (region_at 91 "r") (name_at 95 "h")) (Declare (tree.Local (type_at 98 tree.Int ((pointer (sign.Nullable 1) (Some (region_at 103
    "r"))) ∷ [])) (name_at 106 "y") (Initializer.Value (Expression.NewIn 110 (variable_at 115 "h") (One (number 118 2))))) (Execute (Statement.Return 121
    (Some (Expression.Call (name_at 128 "f") (MoreExpressions (Expression.Prefixed 130 AddressOf (variable_at 131 "x")) (MoreExpressions (variable_at 134 "y")
    NoExpressions))))) NoItems)))) 138) ∷ [])
    ≡ None
program_10 = refl

-- int main() { char ? s = "ab"; s[putchar('1') - '0'] = putchar('c'); putchar(s[1]); putchar('0' + numelts(s)); return s[3]; }
program_11 : first_fault
    ((main_at 0 (Declare (tree.Local (type_at 13 tree.Char ((pointer sign.Fat None) ∷ [])) (name_at 20 "s") (Initializer.Value (Expression.Text 24 (codes
    "ab")))) (Execute (Statement.Run (Expression.Assign (Expression.Suffixed (variable_at 30 "s") (Index (Expression.Chain (Expression.Call (name_at 32
    "putchar") (MoreExpressions (Expression.Character 40 49) NoExpressions)) (MoreLinks Subtract (Expression.Character 47 48) NoLinks)) NoSuffixes))
    (Expression.Call (name_at 54 "putchar") (MoreExpressions (Expression.Character 62 99) NoExpressions)))) (Execute (Statement.Run (Expression.Call (name_at
    68 "putchar") (MoreExpressions (Expression.Suffixed (variable_at 76 "s") (Index (number 78 1) NoSuffixes)) NoExpressions))) (Execute (Statement.Run
    (Expression.Call (name_at 83 "putchar") (MoreExpressions (Expression.Chain (Expression.Character 91 48) (MoreLinks Add (Expression.NumElts 97 (variable_at
    105 "s")) NoLinks)) NoExpressions))) (Execute (Statement.Return 110 (Some (Expression.Suffixed (variable_at 117 "s") (Index (number 119 3) NoSuffixes))))
    NoItems))))) 123) ∷ [])
    ≡ None
program_11 = refl

-- int main() { region<`r> h; int ?`r p = rnew(h) {for i < 0 : 1}; if (p == NULL) return 9; return *p; }
program_12 : first_fault
    ((main_at 0 (Declare (tree.Region 13 (region_at 20 "r") (name_at 24 "h")) (Declare (tree.Local (type_at 27 tree.Int ((pointer sign.Fat (Some (region_at 32
    "r"))) ∷ [])) (name_at 35 "p") (Initializer.Value (Expression.NewIn 39 (variable_at 44 "h") (Array (name_at 52 "i") (number 56 0) (number 60 1)))))
    (Execute (Statement.If 64 (Expression.Chain (variable_at 68 "p") (MoreLinks Equal (Expression.Null 73) NoLinks)) (returns 79 (number 86 9))) (Execute
    (returns 89 (Expression.Prefixed 96 Dereference (variable_at 97 "p"))) NoItems)))) 100) ∷ [])
    ≡ None
program_12 = refl

-- int main() { int a[3]; int ? p = a; p = p + 3; return a[3]; }
program_13 : first_fault
    ((main_at 0 (Declare (tree.Local (int_at 13) (name_at 17 "a") (Initializer.Elements 3)) (Declare (tree.Local (type_at 23 tree.Int ((pointer sign.Fat None)
    ∷ [])) (name_at 29 "p") (Initializer.Value (variable_at 33 "a"))) (Execute (Statement.Run (Expression.Assign (variable_at 36 "p") (Expression.Chain
    (variable_at 40 "p") (MoreLinks Add (number 44 3) NoLinks)))) (Execute (Statement.Return 47 (Some (Expression.Suffixed (variable_at 54 "a") (Index (number
    56 3) NoSuffixes)))) NoItems)))) 60) ∷ [])
    ≡ None
program_13 = refl

-- struct P { int x; int y; }; void f(struct P *p) { p->y = p->x + 1; } int main() { struct P a; a.x = 4; f(&a); return a.y; }
program_14 : first_fault
    ((tree.StructItem (structure 0 (name_at 7 "P") [] ((member (int_at 11) (name_at 15 "x")) ∷ (member (int_at 18) (name_at 22 "y")) ∷ []))) ∷
    (tree.FunctionItem (routine (type_at 28 tree.Void []) (name_at 33 "f") ((member (type_at 35 (tree.Struct (name_at 42 "P") []) ((pointer (sign.Nullable 1)
    None) ∷ [])) (name_at 45 "p")) ∷ []) None [] (Execute (Statement.Run (Expression.Assign (Expression.Suffixed (variable_at 50 "p") (Arrow (name_at 53 "y")
    NoSuffixes)) (Expression.Chain (Expression.Suffixed (variable_at 57 "p") (Arrow (name_at 60 "x") NoSuffixes)) (MoreLinks Add (number 64 1) NoLinks))))
    NoItems) 67)) ∷ (main_at 69 (Declare (tree.Local (type_at 82 (tree.Struct (name_at 89 "P") []) []) (name_at 91 "a") Initializer.Unset) (Execute
    (Statement.Run (Expression.Assign (Expression.Suffixed (variable_at 94 "a") (Dot (name_at 96 "x") NoSuffixes)) (number 100 4))) (Execute (Statement.Run
    (Expression.Call (name_at 103 "f") (MoreExpressions (Expression.Prefixed 105 AddressOf (variable_at 106 "a")) NoExpressions))) (Execute (Statement.Return
    110 (Some (Expression.Suffixed (variable_at 117 "a") (Dot (name_at 119 "y") NoSuffixes)))) NoItems)))) 122) ∷ [])
    ≡ None
program_14 = refl

-- int x; int y;
program_15 : first_fault
    ((tree.GlobalItem (global (int_at 0) (name_at 4 "x") Initial.Unset)) ∷ (tree.GlobalItem (global (int_at 7) (name_at 11 "y") Initial.Unset)) ∷ [])
    ≡ Some (fault name_rule 4294967295)
program_15 = refl

-- a use of a name whose declaration has a fault is not checked
-- int main() { return g(); } void g;
program_16 : first_fault
    ((main_at 0 (Execute (returns 13 (Expression.Call (name_at 20 "g") NoExpressions)) NoItems) 25) ∷ (tree.GlobalItem (global (type_at 27 tree.Void [])
    (name_at 32 "g") Initial.Unset)) ∷ [])
    ≡ Some (fault type_rule 27)
program_16 = refl

-- int main() { return f(1); } int f(int x, int x) { return x; }
program_17 : first_fault
    ((main_at 0 (Execute (Statement.Return 13 (Some (Expression.Call (name_at 20 "f") (MoreExpressions (number 22 1) NoExpressions)))) NoItems) 26) ∷
    (tree.FunctionItem (routine (int_at 28) (name_at 32 "f") ((member (int_at 34) (name_at 38 "x")) ∷ (member (int_at 41) (name_at 45 "x")) ∷ []) None []
    (Execute (returns 50 (variable_at 57 "x")) NoItems) 60)) ∷ [])
    ≡ Some (fault name_rule 45)
program_17 = refl

-- struct S { int a; int a; }; int main() { return S; }
program_18 : first_fault
    ((tree.StructItem (structure 0 (name_at 7 "S") [] ((member (int_at 11) (name_at 15 "a")) ∷ (member (int_at 18) (name_at 22 "a")) ∷ []))) ∷ (main_at 28
    (Execute (returns 41 (variable_at 48 "S")) NoItems) 51) ∷ [])
    ≡ Some (fault name_rule 22)
program_18 = refl

-- tags that misuse each other: in the order of the text
-- struct A<`r> { struct B<`H> *p; }; struct B { struct A<`H, `H> *p; }; int main() { return 0; }
program_19 : first_fault
    ((tree.StructItem (structure 0 (name_at 7 "A") ((region_at 9 "r") ∷ []) ((member (type_at 15 (tree.Struct (name_at 22 "B") ((tree.Heap 24) ∷ [])) ((pointer
    (sign.Nullable 1) None) ∷ [])) (name_at 29 "p")) ∷ []))) ∷ (tree.StructItem (structure 35 (name_at 42 "B") [] ((member (type_at 46 (tree.Struct (name_at 53
    "A") ((tree.Heap 55) ∷ (tree.Heap 59) ∷ [])) ((pointer (sign.Nullable 1) None) ∷ [])) (name_at 64 "p")) ∷ []))) ∷ (main_returns 70) ∷ [])
    ≡ Some (fault region_rule 15)
program_19 = refl

-- struct S { struct S s; }; int main() { return 0; }
program_20 : first_fault
    ((tree.StructItem (structure 0 (name_at 7 "S") [] ((member (type_at 11 (tree.Struct (name_at 18 "S") []) []) (name_at 20 "s")) ∷ []))) ∷ (main_returns 26)
    ∷ [])
    ≡ Some (fault type_rule 11)
program_20 = refl

-- the later tag has a fault by its own, so its use is not checked
-- struct A { struct B<`H, `H> *p; }; struct B<`r> { void x; }; int main() { return 0; }
program_21 : first_fault
    ((tree.StructItem (structure 0 (name_at 7 "A") [] ((member (type_at 11 (tree.Struct (name_at 18 "B") ((tree.Heap 20) ∷ (tree.Heap 24) ∷ [])) ((pointer
    (sign.Nullable 1) None) ∷ [])) (name_at 29 "p")) ∷ []))) ∷ (tree.StructItem (structure 35 (name_at 42 "B") ((region_at 44 "r") ∷ []) ((member (type_at 50
    tree.Void []) (name_at 55 "x")) ∷ []))) ∷ (main_returns 61) ∷ [])
    ≡ Some (fault type_rule 50)
program_21 = refl

-- struct A { struct B<`H> *p; }; struct B { struct C *q; }; int main() { return 0; }
program_22 : first_fault
    ((tree.StructItem (structure 0 (name_at 7 "A") []
    ((member (type_at 11 (tree.Struct (name_at 18 "B") ((tree.Heap 20) ∷ [])) ((pointer (sign.Nullable 1) None) ∷
    [])) (name_at 25 "p")) ∷ []))) ∷ (tree.StructItem (structure 31 (name_at 38 "B") [] ((member (type_at 42 (tree.Struct (name_at 49 "C") []) ((pointer
    (sign.Nullable 1) None) ∷ [])) (name_at 52 "q")) ∷ []))) ∷ (main_returns 58) ∷ [])
    ≡ Some (fault name_rule 49)
program_22 = refl

-- struct A { struct B<`H> *p; }; struct B { struct A *q; }; int main() { return 0; }
program_23 : first_fault
    ((tree.StructItem (structure 0 (name_at 7 "A") []
    ((member (type_at 11 (tree.Struct (name_at 18 "B") ((tree.Heap 20) ∷ [])) ((pointer (sign.Nullable 1) None) ∷
    [])) (name_at 25 "p")) ∷ []))) ∷ (tree.StructItem (structure 31 (name_at 38 "B") [] ((member (type_at 42 (tree.Struct (name_at 49 "A") []) ((pointer
    (sign.Nullable 1) None) ∷ [])) (name_at 52 "q")) ∷ []))) ∷ (main_returns 58) ∷ [])
    ≡ Some (fault region_rule 11)
program_23 = refl

-- struct A { union B *p; }; struct B { int x; }; int main() { return 0; }
program_24 : first_fault
    ((tree.StructItem (structure 0 (name_at 7 "A") [] ((member (type_at 11 (tree.Union (name_at 17 "B") []) ((pointer (sign.Nullable 1) None) ∷ [])) (name_at 20
    "p")) ∷ []))) ∷ (tree.StructItem (structure 26 (name_at 33 "B") [] ((member (int_at 37) (name_at 41 "x")) ∷ []))) ∷ (main_returns 47) ∷ [])
    ≡ Some (fault type_rule 17)
program_24 = refl

-- struct A { struct B b; }; struct B { int x; }; int main() { return 0; }
program_25 : first_fault
    ((tree.StructItem (structure 0 (name_at 7 "A") [] ((member (type_at 11 (tree.Struct (name_at 18 "B") []) []) (name_at 20 "b")) ∷ []))) ∷ (tree.StructItem
    (structure 26 (name_at 33 "B") [] ((member (int_at 37) (name_at 41 "x")) ∷ []))) ∷ (main_returns 47) ∷ [])
    ≡ Some (fault type_rule 11)
program_25 = refl

-- struct A { struct B *b; }; struct B { struct A a; }; int main() { return 0; }
program_26 : first_fault
    ((tree.StructItem (structure 0 (name_at 7 "A") []
    ((member (type_at 11 (tree.Struct (name_at 18 "B") []) ((pointer (sign.Nullable 1) None) ∷ [])) (name_at 21
    "b")) ∷ []))) ∷ (tree.StructItem (structure 27 (name_at 34 "B") [] ((member (type_at 38 (tree.Struct (name_at 45 "A") []) []) (name_at 47 "a")) ∷ []))) ∷
    (main_returns 53) ∷ [])
    ≡ None
program_26 = refl

-- a local hides a tag
-- struct S { int x; }; int main() { int S; struct S *p = NULL; return 0; }
program_27 : first_fault
    ((tree.StructItem (structure 0 (name_at 7 "S") [] ((member (int_at 11) (name_at 15 "x")) ∷ []))) ∷ (main_at 21 (Declare (tree.Local (int_at 34) (name_at 38
    "S") Initializer.Unset) (Declare (tree.Local (type_at 41 (tree.Struct (name_at 48 "S") []) ((pointer (sign.Nullable 1) None) ∷ [])) (name_at 51 "p")
    (Initializer.Value (Expression.Null 55))) (Execute (returns 61 (number 68 0)) NoItems))) 71) ∷ [])
    ≡ Some (fault type_rule 48)
program_27 = refl

-- int f(uregion_key_t<`r> k; {`r}) { return 0; } int main() { return 0; }
program_28 : first_fault
    ((tree.FunctionItem (routine (int_at 0) (name_at 4 "f") ((member (type_at 6 (tree.Key (region_at 20 "r")) []) (name_at 24 "k")) ∷ []) (Some ((region_at 28
    "r") ∷ [])) [] (Execute (returns 35 (number 42 0)) NoItems) 45)) ∷ (main_returns 47) ∷ [])
    ≡ Some (fault effect_rule 28)
program_28 = refl

-- struct P { int x; }; int f(struct P *`b p) { int x = *p; return 0; } int main() { return 0; }
program_29 : first_fault
    ((tree.StructItem (structure 0 (name_at 7 "P") [] ((member (int_at 11) (name_at 15 "x")) ∷ []))) ∷ (tree.FunctionItem (routine (int_at 21) (name_at 25 "f")
    ((member (type_at 27 (tree.Struct (name_at 34 "P") []) ((pointer (sign.Nullable 1) (Some (region_at 37 "b"))) ∷ [])) (name_at 40 "p")) ∷ [])
    None [] (Declare
    (tree.Local (int_at 45) (name_at 49 "x") (Initializer.Value (Expression.Prefixed 53 Dereference (variable_at 54 "p")))) (Execute (returns 57 (number 64
    0)) NoItems)) 67)) ∷ (main_returns 69) ∷ [])
    ≡ Some (fault type_rule 53)
program_29 = refl

-- int main(void *x) { return 0; }
program_30 : first_fault
    ((tree.FunctionItem (routine (int_at 0) (name_at 4 "main")
    ((member (type_at 9 tree.Void ((pointer (sign.Nullable 1) None) ∷ [])) (name_at 15 "x")) ∷ []) None
    [] (Execute (returns 20 (number 27 0)) NoItems) 30)) ∷ [])
    ≡ Some (fault type_rule 9)
program_30 = refl

-- int main(int x) { return x; }
program_31 : first_fault
    ((tree.FunctionItem (routine (int_at 0) (name_at 4 "main") ((member (int_at 9) (name_at 13 "x")) ∷ []) None [] (Execute (returns 18 (variable_at 25 "x"))
    NoItems) 28)) ∷ [])
    ≡ Some (fault type_rule 4)
program_31 = refl

-- int main(; {}) { }
program_32 : first_fault
    ((tree.FunctionItem (routine (int_at 0) (name_at 4 "main") [] (Some []) [] NoItems 17)) ∷ [])
    ≡ None
program_32 = refl

-- a missing region of an initializer that is not checked
-- int main() { int *p = f(1); char c = p; return 0; } int *f(int x, int x) { return NULL; }
program_33 : first_fault
    ((main_at 0 (Declare (tree.Local (type_at 13 tree.Int ((pointer (sign.Nullable 1) None) ∷ [])) (name_at 18 "p")
    (Initializer.Value (Expression.Call (name_at 22
    "f") (MoreExpressions (number 24 1) NoExpressions)))) (Declare (tree.Local (type_at 28 tree.Char []) (name_at 33 "c") (Initializer.Value (variable_at 37
    "p"))) (Execute (returns 40 (number 47 0)) NoItems))) 50)
    ∷ (tree.FunctionItem (routine (type_at 52 tree.Int ((pointer (sign.Nullable 1) None) ∷ [])) (name_at
    57 "f") ((member (int_at 59) (name_at 63 "x")) ∷ (member (int_at 66) (name_at 70 "x")) ∷ []) None [] (Execute (returns 75 (Expression.Null 82)) NoItems)
    88)) ∷ [])
    ≡ Some (fault name_rule 70)
program_33 = refl

-- its uses are judged where the type is known without
-- int main() { int y = f(1); *y; return 0; } int f(int x, int x) { return 1; }
program_34 : first_fault
    ((main_at 0 (Declare (tree.Local (int_at 13) (name_at 17 "y") (Initializer.Value (Expression.Call (name_at 21 "f") (MoreExpressions (number 23 1)
    NoExpressions)))) (Execute (Statement.Run (Expression.Prefixed 27 Dereference (variable_at 28 "y"))) (Execute (returns 31 (number 38 0)) NoItems))) 41) ∷
    (tree.FunctionItem (routine (int_at 43) (name_at 47 "f") ((member (int_at 49) (name_at 53 "x")) ∷ (member (int_at 56) (name_at 60 "x")) ∷ []) None []
    (Execute (returns 65 (number 72 1)) NoItems) 75)) ∷ [])
    ≡ Some (fault type_rule 27)
program_34 = refl
