-- What would be copied, and can not be.
use Rattle.std.proofs.Common.{◌≡◌, refl, Some, None, [], ◌∷◌}
use Rattle.cyc_tree.specs.declared.expression.Operator.TheVariants.{Equal}
use Rattle.cyc_tree.specs.declared.expression.Prefix.TheVariants.{Dereference, AddressOf}
use Rattle.cyc_tree.specs.declared.name.Sign.TheVariants as sign
use Rattle.cyc_tree.specs.Tree as tree
use Rattle.cyc_tree.specs.Tree.{Expression, NoExpressions, MoreExpressions, NoLinks, MoreLinks, NoSuffixes, Index, Dot, Arrow, One, Initializer, Statement}
use Rattle.cyc_tree.specs.Tree.{NoItems, Declare, Execute, Initial}
use Rattle.source_meaning.proofs.Trees.{pointer}
use Rattle.source_typing.specs.Faults.{fault, copy_rule}
use Rattle.source_typing.specs.Answers.{first_fault}
use Rattle.source_typing.proofs.samples.SampleTrees.{name_at, region_at, type_at, int_at, number, variable_at, returns, member, structure, global, routine}
use Rattle.source_typing.proofs.samples.SampleTrees.{main_at, main_returns}

-- int main() { int *`U p = rnew(unique_region) 3; int *`U @q = &p; return 0; }
copy_flow_1 : first_fault
    ((main_at 0 (Declare (tree.Local (type_at 13 tree.Int ((pointer (sign.Nullable 1) (Some (tree.Unique 18))) ∷ [])) (name_at 21 "p") (Initializer.Value
    (Expression.NewIn 25 (Expression.UniqueRegion 30) (One (number 45 3))))) (Declare (tree.Local (type_at 48 tree.Int ((pointer (sign.Nullable 1) (Some
    (tree.Unique 53))) ∷ (pointer (sign.NotNull 1) None) ∷ [])) (name_at 57 "q") (Initializer.Value (Expression.Prefixed 61 AddressOf (variable_at 62 "p"))))
    (Execute (returns 65 (number 72 0)) NoItems))) 75) ∷ [])
    ≡ Some (fault copy_rule 61)
copy_flow_1 = refl

-- struct B { int *`U p; int x; }; int main() { struct B @b = new B(NULL, 1); int *`U t = b->p; return 0; }
copy_flow_2 : first_fault
    ((tree.StructItem (structure 0 (name_at 7 "B") []
    ((member (type_at 11 tree.Int ((pointer (sign.Nullable 1) (Some (tree.Unique 16))) ∷ [])) (name_at 19 "p")) ∷
    (member (int_at 22) (name_at 26 "x")) ∷ []))) ∷ (main_at 32 (Declare (tree.Local (type_at 45 (tree.Struct (name_at 52 "B") []) ((pointer (sign.NotNull 1)
    None) ∷ [])) (name_at 55 "b") (Initializer.Value (Expression.New 59 (One (Expression.Call (name_at 63 "B") (MoreExpressions (Expression.Null 65)
    (MoreExpressions (number 71 1) NoExpressions))))))) (Declare (tree.Local (type_at 75 tree.Int ((pointer (sign.Nullable 1) (Some (tree.Unique 80))) ∷ []))
    (name_at 83 "t") (Initializer.Value (Expression.Suffixed (variable_at 87 "b") (Arrow (name_at 90 "p") NoSuffixes)))) (Execute (returns 93 (number 100 0))
    NoItems))) 103) ∷ [])
    ≡ Some (fault copy_rule 87)
copy_flow_2 = refl

-- the place inside the parentheses
-- struct B { int *`U p; int x; }; int main() { struct B @b = new B(NULL, 1); int *`U t = (b->p); return 0; }
copy_flow_3 : first_fault
    ((tree.StructItem (structure 0 (name_at 7 "B") []
    ((member (type_at 11 tree.Int ((pointer (sign.Nullable 1) (Some (tree.Unique 16))) ∷ [])) (name_at 19 "p")) ∷
    (member (int_at 22) (name_at 26 "x")) ∷ []))) ∷ (main_at 32 (Declare (tree.Local (type_at 45 (tree.Struct (name_at 52 "B") []) ((pointer (sign.NotNull 1)
    None) ∷ [])) (name_at 55 "b") (Initializer.Value (Expression.New 59 (One (Expression.Call (name_at 63 "B") (MoreExpressions (Expression.Null 65)
    (MoreExpressions (number 71 1) NoExpressions))))))) (Declare (tree.Local (type_at 75 tree.Int ((pointer (sign.Nullable 1) (Some (tree.Unique 80))) ∷ []))
    (name_at 83 "t") (Initializer.Value (Expression.Grouped 87 (Expression.Suffixed (variable_at 88 "b") (Arrow (name_at 91 "p") NoSuffixes))))) (Execute
    (returns 95 (number 102 0)) NoItems))) 105) ∷ [])
    ≡ Some (fault copy_rule 88)
copy_flow_3 = refl

-- struct B { int *`U p; int x; }; int main() { struct B @b = new B(NULL, 1); b->p; return 0; }
copy_flow_4 : first_fault
    ((tree.StructItem (structure 0 (name_at 7 "B") []
    ((member (type_at 11 tree.Int ((pointer (sign.Nullable 1) (Some (tree.Unique 16))) ∷ [])) (name_at 19 "p")) ∷
    (member (int_at 22) (name_at 26 "x")) ∷ []))) ∷ (main_at 32 (Declare (tree.Local (type_at 45 (tree.Struct (name_at 52 "B") []) ((pointer (sign.NotNull 1)
    None) ∷ [])) (name_at 55 "b") (Initializer.Value (Expression.New 59 (One (Expression.Call (name_at 63 "B") (MoreExpressions (Expression.Null 65)
    (MoreExpressions (number 71 1) NoExpressions))))))) (Execute (Statement.Run (Expression.Suffixed (variable_at 75 "b") (Arrow (name_at 78 "p")
    NoSuffixes))) (Execute (returns 81 (number 88 0)) NoItems))) 91) ∷ [])
    ≡ Some (fault copy_rule 75)
copy_flow_4 = refl

-- a test moves nothing
-- struct B { int *`U p; int x; }; int main() { struct B @b = new B(NULL, 1); if (b->p == NULL) ; int x = b->x; return 0; }
copy_flow_5 : first_fault
    ((tree.StructItem (structure 0 (name_at 7 "B") []
    ((member (type_at 11 tree.Int ((pointer (sign.Nullable 1) (Some (tree.Unique 16))) ∷ [])) (name_at 19 "p")) ∷
    (member (int_at 22) (name_at 26 "x")) ∷ []))) ∷ (main_at 32 (Declare (tree.Local (type_at 45 (tree.Struct (name_at 52 "B") []) ((pointer (sign.NotNull 1)
    None) ∷ [])) (name_at 55 "b") (Initializer.Value (Expression.New 59 (One (Expression.Call (name_at 63 "B") (MoreExpressions (Expression.Null 65)
    (MoreExpressions (number 71 1) NoExpressions))))))) (Execute (Statement.If 75 (Expression.Chain (Expression.Suffixed (variable_at 79 "b") (Arrow (name_at
    82 "p") NoSuffixes)) (MoreLinks Equal (Expression.Null 87) NoLinks)) (Statement.Empty 93)) (Declare (tree.Local (int_at 95) (name_at 99 "x")
    (Initializer.Value (Expression.Suffixed (variable_at 103 "b") (Arrow (name_at 106 "x") NoSuffixes)))) (Execute (returns 109 (number 116 0)) NoItems))))
    119) ∷ [])
    ≡ None
copy_flow_5 = refl

-- struct B { int *`U p; int x; }; int main() { struct B @b = new B(rnew(unique_region) 3, 1); int *`U t = NULL; t :=: b->p; int r = *t; ufree(t); return r; }
copy_flow_6 : first_fault
    ((tree.StructItem (structure 0 (name_at 7 "B") []
    ((member (type_at 11 tree.Int ((pointer (sign.Nullable 1) (Some (tree.Unique 16))) ∷ [])) (name_at 19 "p")) ∷
    (member (int_at 22) (name_at 26 "x")) ∷ []))) ∷ (main_at 32 (Declare (tree.Local (type_at 45 (tree.Struct (name_at 52 "B") []) ((pointer (sign.NotNull 1)
    None) ∷ [])) (name_at 55 "b") (Initializer.Value (Expression.New 59 (One (Expression.Call (name_at 63 "B") (MoreExpressions (Expression.NewIn 65
    (Expression.UniqueRegion 70) (One (number 85 3))) (MoreExpressions (number 88 1) NoExpressions))))))) (Declare (tree.Local (type_at 92 tree.Int ((pointer
    (sign.Nullable 1) (Some (tree.Unique 97))) ∷ [])) (name_at 100 "t") (Initializer.Value (Expression.Null 104))) (Execute (Statement.Exchange (variable_at 110
    "t") (Expression.Suffixed (variable_at 116 "b") (Arrow (name_at 119 "p") NoSuffixes))) (Declare (tree.Local (int_at 122) (name_at 126 "r")
    (Initializer.Value (Expression.Prefixed 130 Dereference (variable_at 131 "t")))) (Execute (Statement.FreeUnique 134 (name_at 140 "t")) (Execute (returns
    144 (variable_at 151 "r")) NoItems)))))) 154) ∷ [])
    ≡ None
copy_flow_6 = refl

-- a part of a local is no local
-- struct B { int *`U p; int x; }; int main() { struct B b = B(NULL, 1); int *`U t = b.p; return 0; }
copy_flow_7 : first_fault
    ((tree.StructItem (structure 0 (name_at 7 "B") []
    ((member (type_at 11 tree.Int ((pointer (sign.Nullable 1) (Some (tree.Unique 16))) ∷ [])) (name_at 19 "p")) ∷
    (member (int_at 22) (name_at 26 "x")) ∷ []))) ∷ (main_at 32 (Declare (tree.Local (type_at 45 (tree.Struct (name_at 52 "B") []) []) (name_at 54 "b")
    (Initializer.Value (Expression.Call (name_at 58 "B") (MoreExpressions (Expression.Null 60) (MoreExpressions (number 66 1) NoExpressions))))) (Declare
    (tree.Local (type_at 70 tree.Int ((pointer (sign.Nullable 1) (Some (tree.Unique 75))) ∷ [])) (name_at 78 "t") (Initializer.Value (Expression.Suffixed
    (variable_at 82 "b") (Dot (name_at 84 "p") NoSuffixes)))) (Execute (returns 87 (number 94 0)) NoItems))) 97) ∷ [])
    ≡ Some (fault copy_rule 82)
copy_flow_7 = refl

-- struct B { int *`U p; int x; }; int main() { struct B @b = new B(NULL, 1); struct B c = *b; return 0; }
copy_flow_8 : first_fault
    ((tree.StructItem (structure 0 (name_at 7 "B") []
    ((member (type_at 11 tree.Int ((pointer (sign.Nullable 1) (Some (tree.Unique 16))) ∷ [])) (name_at 19 "p")) ∷
    (member (int_at 22) (name_at 26 "x")) ∷ []))) ∷ (main_at 32 (Declare (tree.Local (type_at 45 (tree.Struct (name_at 52 "B") []) ((pointer (sign.NotNull 1)
    None) ∷ [])) (name_at 55 "b") (Initializer.Value (Expression.New 59 (One (Expression.Call (name_at 63 "B") (MoreExpressions (Expression.Null 65)
    (MoreExpressions (number 71 1) NoExpressions))))))) (Declare (tree.Local (type_at 75 (tree.Struct (name_at 82 "B") []) []) (name_at 84 "c")
    (Initializer.Value (Expression.Prefixed 88 Dereference (variable_at 89 "b")))) (Execute (returns 92 (number 99 0)) NoItems))) 102) ∷ [])
    ≡ Some (fault copy_rule 88)
copy_flow_8 = refl

-- int *`U g; int main() { int *`U t = g; return 0; }
copy_flow_9 : first_fault
    ((tree.GlobalItem (global (type_at 0 tree.Int ((pointer (sign.Nullable 1) (Some (tree.Unique 5))) ∷ [])) (name_at 8 "g") Initial.Unset))
    ∷ (main_at 11 (Declare
    (tree.Local (type_at 24 tree.Int ((pointer (sign.Nullable 1) (Some (tree.Unique 29))) ∷ [])) (name_at 32 "t") (Initializer.Value (variable_at 36 "g")))
    (Execute (returns 39 (number 46 0)) NoItems)) 49) ∷ [])
    ≡ Some (fault copy_rule 36)
copy_flow_9 = refl

-- int *`U g; int main() { ufree(g); return 0; }
copy_flow_10 : first_fault
    ((tree.GlobalItem (global (type_at 0 tree.Int ((pointer (sign.Nullable 1) (Some (tree.Unique 5))) ∷ [])) (name_at 8 "g") Initial.Unset))
    ∷ (main_at 11 (Execute
    (Statement.FreeUnique 24 (name_at 30 "g")) (Execute (returns 34 (number 41 0)) NoItems)) 44) ∷ [])
    ≡ Some (fault copy_rule 24)
copy_flow_10 = refl

-- int *`U g; int main() { let alias<`r> int *`r x = g; return 0; }
copy_flow_11 : first_fault
    ((tree.GlobalItem (global (type_at 0 tree.Int ((pointer (sign.Nullable 1) (Some (tree.Unique 5))) ∷ [])) (name_at 8 "g") Initial.Unset))
    ∷ (main_at 11 (Declare
    (tree.Alias 24 (region_at 34 "r") (type_at 38 tree.Int ((pointer (sign.Nullable 1) (Some (region_at 43 "r"))) ∷ [])) (name_at 46 "x") (name_at 50 "g"))
    (Execute (returns 53 (number 60 0)) NoItems)) 63) ∷ [])
    ≡ Some (fault copy_rule 24)
copy_flow_11 = refl

-- int *`U g; int main() { return *g; }
copy_flow_12 : first_fault
    ((tree.GlobalItem (global (type_at 0 tree.Int ((pointer (sign.Nullable 1) (Some (tree.Unique 5))) ∷ [])) (name_at 8 "g") Initial.Unset))
    ∷ (main_at 11 (Execute
    (returns 24 (Expression.Prefixed 31 Dereference (variable_at 32 "g"))) NoItems) 35) ∷ [])
    ≡ Some (fault copy_rule 31)
copy_flow_12 = refl

-- int *`U g; int main() { int *`U t = NULL; g = NULL; g :=: t; if (g == NULL) ; return 0; }
copy_flow_13 : first_fault
    ((tree.GlobalItem (global (type_at 0 tree.Int ((pointer (sign.Nullable 1) (Some (tree.Unique 5))) ∷ [])) (name_at 8 "g") Initial.Unset))
    ∷ (main_at 11 (Declare
    (tree.Local (type_at 24 tree.Int ((pointer (sign.Nullable 1) (Some (tree.Unique 29))) ∷ [])) (name_at 32 "t") (Initializer.Value (Expression.Null 36)))
    (Execute (Statement.Run (Expression.Assign (variable_at 42 "g") (Expression.Null 46))) (Execute (Statement.Exchange (variable_at 52 "g") (variable_at 58
    "t")) (Execute (Statement.If 61 (Expression.Chain (variable_at 65 "g") (MoreLinks Equal (Expression.Null 70) NoLinks)) (Statement.Empty 76)) (Execute
    (returns 78 (number 85 0)) NoItems))))) 88) ∷ [])
    ≡ None
copy_flow_13 = refl

-- a unique pointer is dereferenced through a local alone
-- struct B { int *`U p; int x; }; int f(struct B @b) { return *b->p; } int main() { return 0; }
copy_flow_14 : first_fault
    ((tree.StructItem (structure 0 (name_at 7 "B") []
    ((member (type_at 11 tree.Int ((pointer (sign.Nullable 1) (Some (tree.Unique 16))) ∷ [])) (name_at 19 "p")) ∷
    (member (int_at 22) (name_at 26 "x")) ∷ []))) ∷ (tree.FunctionItem (routine (int_at 32) (name_at 36 "f") ((member (type_at 38 (tree.Struct (name_at 45
    "B") []) ((pointer (sign.NotNull 1) None) ∷ [])) (name_at 48 "b")) ∷ []) None [] (Execute (Statement.Return 53 (Some (Expression.Prefixed 60 Dereference
    (Expression.Suffixed (variable_at 61 "b") (Arrow (name_at 64 "p") NoSuffixes))))) NoItems) 67)) ∷ (main_returns 69) ∷ [])
    ≡ Some (fault copy_rule 60)
copy_flow_14 = refl

-- struct L { struct L *`U next; }; int f(struct L @`U p) { p->next->next = NULL; return 0; } int main() { return 0; }
copy_flow_15 : first_fault
    ((tree.StructItem (structure 0 (name_at 7 "L") []
    ((member (type_at 11 (tree.Struct (name_at 18 "L") []) ((pointer (sign.Nullable 1) (Some (tree.Unique 21))) ∷
    [])) (name_at 24 "next")) ∷ []))) ∷ (tree.FunctionItem (routine (int_at 33) (name_at 37 "f") ((member (type_at 39 (tree.Struct (name_at 46 "L") [])
    ((pointer (sign.NotNull 1) (Some (tree.Unique 49))) ∷ [])) (name_at 52 "p")) ∷ []) None [] (Execute (Statement.Run (Expression.Assign (Expression.Suffixed
    (variable_at 57 "p") (Arrow (name_at 60 "next") (Arrow (name_at 66 "next") NoSuffixes))) (Expression.Null 73))) (Execute (returns 79 (number 86 0))
    NoItems)) 89)) ∷ (main_returns 91) ∷ [])
    ≡ Some (fault copy_rule 57)
copy_flow_15 = refl

-- struct L { struct L *`U next; }; int f(struct L @`U p) { p->next = NULL; return 0; } int main() { return 0; }
copy_flow_16 : first_fault
    ((tree.StructItem (structure 0 (name_at 7 "L") []
    ((member (type_at 11 (tree.Struct (name_at 18 "L") []) ((pointer (sign.Nullable 1) (Some (tree.Unique 21))) ∷
    [])) (name_at 24 "next")) ∷ []))) ∷ (tree.FunctionItem (routine (int_at 33) (name_at 37 "f") ((member (type_at 39 (tree.Struct (name_at 46 "L") [])
    ((pointer (sign.NotNull 1) (Some (tree.Unique 49))) ∷ [])) (name_at 52 "p")) ∷ []) None [] (Execute (Statement.Run (Expression.Assign (Expression.Suffixed
    (variable_at 57 "p") (Arrow (name_at 60 "next") NoSuffixes)) (Expression.Null 67))) (Execute (returns 73 (number 80 0)) NoItems)) 83)) ∷ (main_returns 85)
    ∷ [])
    ≡ None
copy_flow_16 = refl

-- int *`U f() { return NULL; } int main() { return *f(); }
copy_flow_17 : first_fault
    ((tree.FunctionItem (routine (type_at 0 tree.Int ((pointer (sign.Nullable 1) (Some (tree.Unique 5))) ∷ [])) (name_at 8 "f") [] None [] (Execute (returns 14
    (Expression.Null 21)) NoItems) 27)) ∷ (main_at 29 (Execute (Statement.Return 42 (Some (Expression.Prefixed 49 Dereference (Expression.Call (name_at 50
    "f") NoExpressions)))) NoItems) 55) ∷ [])
    ≡ Some (fault copy_rule 49)
copy_flow_17 = refl

-- int main() { return *rnew(unique_region) 1; }
copy_flow_18 : first_fault
    ((main_at 0 (Execute (Statement.Return 13 (Some (Expression.Prefixed 20 Dereference (Expression.NewIn 21 (Expression.UniqueRegion 26) (One (number 41
    1)))))) NoItems) 44) ∷ [])
    ≡ Some (fault copy_rule 20)
copy_flow_18 = refl

-- parentheses change nothing
-- int f(int *`U p) { return *(p); } int main() { return 0; }
copy_flow_19 : first_fault
    ((tree.FunctionItem (routine (int_at 0) (name_at 4 "f") ((member (type_at 6 tree.Int ((pointer (sign.Nullable 1) (Some (tree.Unique 11))) ∷ [])) (name_at 14
    "p")) ∷ []) None [] (Execute (Statement.Return 19 (Some (Expression.Prefixed 26 Dereference (Expression.Grouped 27 (variable_at 28 "p"))))) NoItems) 32))
    ∷ (main_returns 34) ∷ [])
    ≡ None
copy_flow_19 = refl

-- struct B { int *`U p; int x; }; int main() { struct B b = B(NULL, 1); int *`U *q = &b.p; return 0; }
copy_flow_20 : first_fault
    ((tree.StructItem (structure 0 (name_at 7 "B") []
    ((member (type_at 11 tree.Int ((pointer (sign.Nullable 1) (Some (tree.Unique 16))) ∷ [])) (name_at 19 "p")) ∷
    (member (int_at 22) (name_at 26 "x")) ∷ []))) ∷ (main_at 32 (Declare (tree.Local (type_at 45 (tree.Struct (name_at 52 "B") []) []) (name_at 54 "b")
    (Initializer.Value (Expression.Call (name_at 58 "B") (MoreExpressions (Expression.Null 60) (MoreExpressions (number 66 1) NoExpressions))))) (Declare
    (tree.Local (type_at 70 tree.Int ((pointer (sign.Nullable 1) (Some (tree.Unique 75))) ∷ (pointer (sign.Nullable 1) None) ∷ [])) (name_at 79 "q")
    (Initializer.Value (Expression.Prefixed 83 AddressOf (Expression.Suffixed (variable_at 84 "b") (Dot (name_at 86 "p") NoSuffixes))))) (Execute (returns 89
    (number 96 0)) NoItems))) 99) ∷ [])
    ≡ Some (fault copy_rule 83)
copy_flow_20 = refl

-- a copyable part, too
-- struct B { int *`U p; int x; }; int main() { struct B b = B(NULL, 1); int *q = &b.x; return 0; }
copy_flow_21 : first_fault
    ((tree.StructItem (structure 0 (name_at 7 "B") []
    ((member (type_at 11 tree.Int ((pointer (sign.Nullable 1) (Some (tree.Unique 16))) ∷ [])) (name_at 19 "p")) ∷
    (member (int_at 22) (name_at 26 "x")) ∷ []))) ∷ (main_at 32 (Declare (tree.Local (type_at 45 (tree.Struct (name_at 52 "B") []) []) (name_at 54 "b")
    (Initializer.Value (Expression.Call (name_at 58 "B") (MoreExpressions (Expression.Null 60) (MoreExpressions (number 66 1) NoExpressions))))) (Declare
    (tree.Local (type_at 70 tree.Int ((pointer (sign.Nullable 1) None) ∷ [])) (name_at 75 "q") (Initializer.Value (Expression.Prefixed 79 AddressOf
    (Expression.Suffixed (variable_at 80 "b") (Dot (name_at 82 "x") NoSuffixes))))) (Execute (returns 85 (number 92 0)) NoItems))) 95) ∷ [])
    ≡ Some (fault copy_rule 79)
copy_flow_21 = refl

-- struct B { int *`U p; int x; }; int main() { struct B @b = new B(NULL, 1); int *`U *q = &b->p; int *r = &b->x; return 0; }
copy_flow_22 : first_fault
    ((tree.StructItem (structure 0 (name_at 7 "B") []
    ((member (type_at 11 tree.Int ((pointer (sign.Nullable 1) (Some (tree.Unique 16))) ∷ [])) (name_at 19 "p")) ∷
    (member (int_at 22) (name_at 26 "x")) ∷ []))) ∷ (main_at 32 (Declare (tree.Local (type_at 45 (tree.Struct (name_at 52 "B") []) ((pointer (sign.NotNull 1)
    None) ∷ [])) (name_at 55 "b") (Initializer.Value (Expression.New 59 (One (Expression.Call (name_at 63 "B") (MoreExpressions (Expression.Null 65)
    (MoreExpressions (number 71 1) NoExpressions)))))))
    (Declare (tree.Local (type_at 75 tree.Int ((pointer (sign.Nullable 1) (Some (tree.Unique 80))) ∷ (pointer
    (sign.Nullable 1) None) ∷ [])) (name_at 84 "q")
    (Initializer.Value (Expression.Prefixed 88 AddressOf (Expression.Suffixed (variable_at 89 "b") (Arrow (name_at
    92 "p") NoSuffixes))))) (Declare (tree.Local (type_at 95 tree.Int ((pointer (sign.Nullable 1) None) ∷ [])) (name_at 100 "r") (Initializer.Value
    (Expression.Prefixed 104 AddressOf (Expression.Suffixed (variable_at 105 "b") (Arrow (name_at 108 "x") NoSuffixes))))) (Execute (returns 111 (number 118
    0)) NoItems)))) 121) ∷ [])
    ≡ None
copy_flow_22 = refl

-- a place in the block of a unique pointer
-- struct S { int f; }; int f(struct S @`U p) { int @`U q = &p->f; return 0; } int main() { return 0; }
copy_flow_23 : first_fault
    ((tree.StructItem (structure 0 (name_at 7 "S") [] ((member (int_at 11) (name_at 15 "f")) ∷ []))) ∷ (tree.FunctionItem (routine (int_at 21) (name_at 25 "f")
    ((member (type_at 27 (tree.Struct (name_at 34 "S") []) ((pointer (sign.NotNull 1) (Some (tree.Unique 37))) ∷ [])) (name_at 40 "p")) ∷ []) None [] (Declare
    (tree.Local (type_at 45 tree.Int ((pointer (sign.NotNull 1) (Some (tree.Unique 50))) ∷ [])) (name_at 53 "q") (Initializer.Value (Expression.Prefixed 57
    AddressOf (Expression.Suffixed (variable_at 58 "p") (Arrow (name_at 61 "f") NoSuffixes))))) (Execute (returns 64 (number 71 0)) NoItems)) 74)) ∷
    (main_returns 76) ∷ [])
    ≡ Some (fault copy_rule 57)
copy_flow_23 = refl

-- int f(int @`U p) { int @`U q = &*p; return 0; } int main() { return 0; }
copy_flow_24 : first_fault
    ((tree.FunctionItem (routine (int_at 0) (name_at 4 "f") ((member (type_at 6 tree.Int ((pointer (sign.NotNull 1) (Some (tree.Unique 11))) ∷ [])) (name_at 14
    "p")) ∷ []) None [] (Declare (tree.Local (type_at 19 tree.Int ((pointer (sign.NotNull 1) (Some (tree.Unique 24))) ∷ [])) (name_at 27 "q") (Initializer.Value
    (Expression.Prefixed 31 AddressOf (Expression.Prefixed 32 Dereference (variable_at 33 "p"))))) (Execute (returns 36 (number 43 0)) NoItems)) 46)) ∷
    (main_returns 48) ∷ [])
    ≡ Some (fault copy_rule 31)
copy_flow_24 = refl

-- a local array of such elements is not used at all
-- int main() { int *`U a[2]; a[0] = NULL; return 0; }
copy_flow_25 : first_fault
    ((main_at 0 (Declare (tree.Local (type_at 13 tree.Int ((pointer (sign.Nullable 1) (Some (tree.Unique 18))) ∷ [])) (name_at 21 "a") (Initializer.Elements 2))
    (Execute (Statement.Run (Expression.Assign (Expression.Suffixed (variable_at 27 "a") (Index (number 29 0) NoSuffixes)) (Expression.Null 34))) (Execute
    (returns 40 (number 47 0)) NoItems))) 50) ∷ [])
    ≡ Some (fault copy_rule 27)
copy_flow_25 = refl

-- int main() { int *`U a[2]; int *`U @q = &a[0]; return 0; }
copy_flow_26 : first_fault
    ((main_at 0 (Declare (tree.Local (type_at 13 tree.Int ((pointer (sign.Nullable 1) (Some (tree.Unique 18))) ∷ [])) (name_at 21 "a") (Initializer.Elements 2))
    (Declare (tree.Local (type_at 27 tree.Int ((pointer (sign.Nullable 1) (Some (tree.Unique 32))) ∷ (pointer (sign.NotNull 1) None) ∷ [])) (name_at 36 "q")
    (Initializer.Value (Expression.Prefixed 40 AddressOf (Expression.Suffixed (variable_at 41 "a") (Index (number 43 0) NoSuffixes))))) (Execute (returns 47
    (number 54 0)) NoItems))) 57) ∷ [])
    ≡ Some (fault copy_rule 40)
copy_flow_26 = refl

-- int main() { int *`U a[2]; int n = numelts(a); return 0; }
copy_flow_27 : first_fault
    ((main_at 0 (Declare (tree.Local (type_at 13 tree.Int ((pointer (sign.Nullable 1) (Some (tree.Unique 18))) ∷ [])) (name_at 21 "a") (Initializer.Elements 2))
    (Declare (tree.Local (int_at 27) (name_at 31 "n") (Initializer.Value (Expression.NumElts 35 (variable_at 43 "a")))) (Execute (returns 47 (number 54 0))
    NoItems))) 57) ∷ [])
    ≡ Some (fault copy_rule 43)
copy_flow_27 = refl

-- a global one is
-- int *`U a[2]; int main() { int *`U t = NULL; a[0] = NULL; a[1] :=: t; int *`U @q = &a[0]; return 0; }
copy_flow_28 : first_fault
    ((tree.GlobalItem (global (type_at 0 tree.Int ((pointer (sign.Nullable 1) (Some (tree.Unique 5))) ∷ [])) (name_at 8 "a") (Initial.Elements 2)))
    ∷ (main_at 14
    (Declare (tree.Local (type_at 27 tree.Int ((pointer (sign.Nullable 1) (Some (tree.Unique 32))) ∷ [])) (name_at 35 "t") (Initializer.Value (Expression.Null
    39))) (Execute (Statement.Run (Expression.Assign (Expression.Suffixed (variable_at 45 "a") (Index (number 47 0) NoSuffixes)) (Expression.Null 52)))
    (Execute (Statement.Exchange (Expression.Suffixed (variable_at 58 "a") (Index (number 60 1) NoSuffixes)) (variable_at 67 "t")) (Declare (tree.Local
    (type_at 70 tree.Int ((pointer (sign.Nullable 1) (Some (tree.Unique 75))) ∷ (pointer (sign.NotNull 1) None) ∷ [])) (name_at 79 "q") (Initializer.Value
    (Expression.Prefixed 83 AddressOf (Expression.Suffixed (variable_at 84 "a") (Index (number 86 0) NoSuffixes))))) (Execute (returns 90 (number 97 0))
    NoItems))))) 100) ∷ [])
    ≡ None
copy_flow_28 = refl

-- int *`U a[2]; int main() { int *`U t = a[0]; return 0; }
copy_flow_29 : first_fault
    ((tree.GlobalItem (global (type_at 0 tree.Int ((pointer (sign.Nullable 1) (Some (tree.Unique 5))) ∷ [])) (name_at 8 "a") (Initial.Elements 2)))
    ∷ (main_at 14
    (Declare (tree.Local (type_at 27 tree.Int ((pointer (sign.Nullable 1) (Some (tree.Unique 32))) ∷ [])) (name_at 35 "t")
    (Initializer.Value (Expression.Suffixed
    (variable_at 39 "a") (Index (number 41 0) NoSuffixes)))) (Execute (returns 45 (number 52 0)) NoItems)) 55) ∷ [])
    ≡ Some (fault copy_rule 39)
copy_flow_29 = refl

-- int g(int *`U p) { ufree(p); return 1; } struct B { int *`U p; int x; }; int f(struct B @b) { return g(b->p); } int main() { return 0; }
copy_flow_30 : first_fault
    ((tree.FunctionItem (routine (int_at 0) (name_at 4 "g") ((member (type_at 6 tree.Int ((pointer (sign.Nullable 1) (Some (tree.Unique 11))) ∷ [])) (name_at 14
    "p")) ∷ []) None [] (Execute (Statement.FreeUnique 19 (name_at 25 "p")) (Execute (returns 29 (number 36 1)) NoItems)) 39)) ∷ (tree.StructItem (structure
    41 (name_at 48 "B") [] ((member (type_at 52 tree.Int ((pointer (sign.Nullable 1) (Some (tree.Unique 57))) ∷ [])) (name_at 60 "p")) ∷ (member (int_at 63)
    (name_at 67 "x")) ∷ []))) ∷ (tree.FunctionItem (routine (int_at 73) (name_at 77 "f") ((member (type_at 79 (tree.Struct (name_at 86 "B") []) ((pointer
    (sign.NotNull 1) None) ∷ [])) (name_at 89 "b")) ∷ []) None [] (Execute (Statement.Return 94 (Some (Expression.Call (name_at 101 "g") (MoreExpressions
    (Expression.Suffixed (variable_at 103 "b") (Arrow (name_at 106 "p") NoSuffixes)) NoExpressions)))) NoItems) 110)) ∷ (main_returns 112) ∷ [])
    ≡ Some (fault copy_rule 103)
copy_flow_30 = refl

-- struct B { int *`U p; int x; }; int *`U f(struct B @b) { return b->p; } int main() { return 0; }
copy_flow_31 : first_fault
    ((tree.StructItem (structure 0 (name_at 7 "B") []
    ((member (type_at 11 tree.Int ((pointer (sign.Nullable 1) (Some (tree.Unique 16))) ∷ [])) (name_at 19 "p")) ∷
    (member (int_at 22) (name_at 26 "x")) ∷ []))) ∷ (tree.FunctionItem (routine (type_at 32 tree.Int ((pointer (sign.Nullable 1) (Some (tree.Unique 37))) ∷ []))
    (name_at 40 "f") ((member (type_at 42 (tree.Struct (name_at 49 "B") []) ((pointer (sign.NotNull 1) None) ∷ [])) (name_at 52 "b")) ∷ []) None [] (Execute
    (Statement.Return 57 (Some (Expression.Suffixed (variable_at 64 "b") (Arrow (name_at 67 "p") NoSuffixes)))) NoItems) 70)) ∷ (main_returns 72) ∷ [])
    ≡ Some (fault copy_rule 64)
copy_flow_31 = refl

-- struct B { int *`U p; int x; }; struct D { struct B b; }; int main() { struct D @d = new D(B(NULL, 1)); struct B b = d->b; return 0; }
copy_flow_32 : first_fault
    ((tree.StructItem (structure 0 (name_at 7 "B") []
    ((member (type_at 11 tree.Int ((pointer (sign.Nullable 1) (Some (tree.Unique 16))) ∷ [])) (name_at 19 "p")) ∷
    (member (int_at 22) (name_at 26 "x")) ∷ []))) ∷ (tree.StructItem (structure 32 (name_at 39 "D") [] ((member (type_at 43 (tree.Struct (name_at 50 "B") [])
    []) (name_at 52 "b")) ∷ []))) ∷ (main_at 58 (Declare (tree.Local (type_at 71 (tree.Struct (name_at 78 "D") []) ((pointer (sign.NotNull 1) None) ∷ []))
    (name_at 81 "d") (Initializer.Value (Expression.New 85 (One (Expression.Call (name_at 89 "D") (MoreExpressions (Expression.Call (name_at 91 "B")
    (MoreExpressions (Expression.Null 93) (MoreExpressions (number 99 1) NoExpressions))) NoExpressions)))))) (Declare (tree.Local (type_at 104 (tree.Struct
    (name_at 111 "B") []) []) (name_at 113 "b") (Initializer.Value (Expression.Suffixed (variable_at 117 "d") (Arrow (name_at 120 "b") NoSuffixes)))) (Execute
    (returns 123 (number 130 0)) NoItems))) 133) ∷ [])
    ≡ Some (fault copy_rule 117)
copy_flow_32 = refl

-- struct B { int *`U p; int x; }; struct B @g(struct B *`U b) { ufree(b); return new B(NULL, 2); } int main() { struct B *`U b = rnew(unique_region) B(NULL,
-- 1); return 0; }
copy_flow_33 : first_fault
    ((tree.StructItem (structure 0 (name_at 7 "B") []
    ((member (type_at 11 tree.Int ((pointer (sign.Nullable 1) (Some (tree.Unique 16))) ∷ [])) (name_at 19 "p")) ∷
    (member (int_at 22) (name_at 26 "x")) ∷ []))) ∷ (tree.FunctionItem (routine (type_at 32 (tree.Struct (name_at 39 "B") []) ((pointer (sign.NotNull 1) None) ∷
    [])) (name_at 42 "g") ((member (type_at 44 (tree.Struct (name_at 51 "B") []) ((pointer (sign.Nullable 1) (Some (tree.Unique 54))) ∷ [])) (name_at 57 "b")) ∷
    []) None [] (Execute (Statement.FreeUnique 62 (name_at 68 "b")) (Execute (Statement.Return 72 (Some (Expression.New 79 (One (Expression.Call (name_at 83
    "B") (MoreExpressions (Expression.Null 85) (MoreExpressions (number 91 2) NoExpressions))))))) NoItems)) 95)) ∷ (main_at 97 (Declare (tree.Local (type_at
    110 (tree.Struct (name_at 117 "B") []) ((pointer (sign.Nullable 1) (Some (tree.Unique 120))) ∷ [])) (name_at 123 "b")
    (Initializer.Value (Expression.NewIn 127
    (Expression.UniqueRegion 132) (One (Expression.Call (name_at 147 "B") (MoreExpressions (Expression.Null 149) (MoreExpressions (number 155 1)
    NoExpressions))))))) (Execute (returns 159 (number 166 0)) NoItems)) 169) ∷ [])
    ≡ None
copy_flow_33 = refl

-- what nothing fixes is the region of the innermost `rnew`
-- struct B { int *`U p; int x; }; struct B *`r f(int *`r q) { return NULL; } struct Q<`r> { int *`U *`r m; }; int main() { region<`r> h; struct Q<`r> *`U q =
-- rnew(unique_region) Q(rnew(h) f(NULL)->p); return 0; }
copy_flow_34 : first_fault
    ((tree.StructItem (structure 0 (name_at 7 "B") []
    ((member (type_at 11 tree.Int ((pointer (sign.Nullable 1) (Some (tree.Unique 16))) ∷ [])) (name_at 19 "p")) ∷
    (member (int_at 22) (name_at 26 "x")) ∷ []))) ∷ (tree.FunctionItem (routine (type_at 32 (tree.Struct (name_at 39 "B") []) ((pointer (sign.Nullable 1) (Some
    (region_at 42 "r"))) ∷ [])) (name_at 45 "f") ((member (type_at 47 tree.Int ((pointer (sign.Nullable 1) (Some (region_at 52 "r"))) ∷ [])) (name_at 55 "q")) ∷
    []) None [] (Execute (returns 60 (Expression.Null 67)) NoItems) 73)) ∷ (tree.StructItem (structure 75 (name_at 82 "Q") ((region_at 84 "r") ∷ []) ((member
    (type_at 90 tree.Int ((pointer (sign.Nullable 1) (Some (tree.Unique 95))) ∷ (pointer (sign.Nullable 1) (Some (region_at 99 "r"))) ∷ []))
    (name_at 102 "m")) ∷
    []))) ∷ (main_at 108 (Declare (tree.Region 121 (region_at 128 "r") (name_at 132 "h")) (Declare (tree.Local (type_at 135 (tree.Struct (name_at 142 "Q")
    ((region_at 144 "r") ∷ [])) ((pointer (sign.Nullable 1) (Some (tree.Unique 149))) ∷ [])) (name_at 152 "q") (Initializer.Value (Expression.NewIn 156
    (Expression.UniqueRegion 161) (One (Expression.Call (name_at 176 "Q") (MoreExpressions (Expression.NewIn 178 (variable_at 183 "h") (One
    (Expression.Suffixed (Expression.Call (name_at 186 "f") (MoreExpressions (Expression.Null 188) NoExpressions)) (Arrow (name_at 195 "p") NoSuffixes))))
    NoExpressions)))))) (Execute (returns 199 (number 206 0)) NoItems))) 209) ∷ [])
    ≡ Some (fault copy_rule 186)
copy_flow_34 = refl
