-- Numbers of elements in pointers: which are types, what converts and compares, strings at globals, and subscripts.
use Rattle.std.proofs.Common.{◌≡◌, refl, false, Some, None, [], ◌∷◌}
use Rattle.std.specs.Prelude.{codes, replicate}
use Rattle.cyc_tree.specs.declared.expression.Operator.TheVariants.{Add, Equal}
use Rattle.cyc_tree.specs.declared.expression.Prefix.TheVariants.{AddressOf}
use Rattle.cyc_tree.specs.declared.name.Sign.TheVariants as sign
use Rattle.cyc_tree.specs.Tree as tree
use Rattle.cyc_tree.specs.Tree.{Expression, NoExpressions, MoreExpressions, NoLinks, MoreLinks, NoSuffixes, Index, One, Array, Initializer, Statement}
use Rattle.cyc_tree.specs.Tree.{NoItems, Declare, Execute, Constant, Initial}
use Rattle.source_meaning.proofs.Trees.{pointer}
use Rattle.source_typing.specs.Faults.{fault, consumed_rule, copy_rule, lent_rule, name_rule, outlives_rule, region_rule, size_rule, type_rule}
use Rattle.source_typing.specs.Answers.{first_fault}
use Rattle.source_typing.specs.Programs.{typing_fault, typing_faults}
use Rattle.source_typing.proofs.samples.SampleTrees.{name_at, region_at, type_at, int_at, number, variable_at, returns, member, global, routine, main_at}
use Rattle.source_typing.proofs.samples.SampleTrees.{main_returns}

-- ---- Which numbers a thin pointer converts to, and what its pointee is.

-- int f(int @{4} p) { return p[3]; } int main() { int a[3]; int @{3} p = a; return f(p); }
bound_1 : typing_fault false
    ((tree.FunctionItem (routine (int_at 0) (name_at 4 "f") ((member (type_at 6 tree.Int ((pointer (sign.NotNull 4) None) ∷ [])) (name_at 15 "p")) ∷ []) None
    [] (Execute (returns 20 (Expression.Suffixed (variable_at 27 "p") (Index (number 29 3) NoSuffixes))) NoItems) 33)) ∷ (main_at 35 (Declare (tree.Local
    (int_at 48) (name_at 52 "a") (Initializer.Elements 3)) (Declare (tree.Local (type_at 58 tree.Int ((pointer (sign.NotNull 3) None) ∷ [])) (name_at 67 "p")
    (Initializer.Value (variable_at 71 "a"))) (Execute (returns 74 (Expression.Call (name_at 81 "f") (MoreExpressions (variable_at 83 "p") NoExpressions)))
    NoItems))) 87) ∷ [])
    ≡ Some (fault type_rule 83)
bound_1 = refl

-- int f(int @{3} p) { int @{3} q = p; int @{2} r = q; return r[1]; } int main() { return 0; }
bound_2 : typing_fault false
    ((tree.FunctionItem (routine (int_at 0) (name_at 4 "f") ((member (type_at 6 tree.Int ((pointer (sign.NotNull 3) None) ∷ [])) (name_at 15 "p")) ∷ []) None
    [] (Declare (tree.Local (type_at 20 tree.Int ((pointer (sign.NotNull 3) None) ∷ [])) (name_at 29 "q") (Initializer.Value (variable_at 33 "p"))) (Declare
    (tree.Local (type_at 36 tree.Int ((pointer (sign.NotNull 2) None) ∷ [])) (name_at 45 "r") (Initializer.Value (variable_at 49 "q"))) (Execute (returns 52
    (Expression.Suffixed (variable_at 59 "r") (Index (number 61 1) NoSuffixes))) NoItems))) 65)) ∷ (main_at 67 (Execute (returns 80 (number 87 0)) NoItems)
    90) ∷ [])
    ≡ None
bound_2 = refl

-- int main() { int *{3} p = NULL; int *{2} q = p; int @{2} r = NULL; return 0; }
bound_3 : typing_fault false
    ((main_at 0 (Declare (tree.Local (type_at 13 tree.Int ((pointer (sign.Nullable 3) None) ∷ [])) (name_at 22 "p") (Initializer.Value (Expression.Null 26)))
    (Declare (tree.Local (type_at 32 tree.Int ((pointer (sign.Nullable 2) None) ∷ [])) (name_at 41 "q") (Initializer.Value (variable_at 45 "p"))) (Declare
    (tree.Local (type_at 48 tree.Int ((pointer (sign.NotNull 2) None) ∷ [])) (name_at 57 "r") (Initializer.Value (Expression.Null 61))) (Execute (returns 67
    (number 74 0)) NoItems)))) 77) ∷ [])
    ≡ Some (fault type_rule 61)
bound_3 = refl

-- int f(int @{2}`a p, int @{3}`b q) { q = p; return 1; } int main() { return 0; }
bound_4 : typing_fault false
    ((tree.FunctionItem (routine (int_at 0) (name_at 4 "f") ((member (type_at 6 tree.Int ((pointer (sign.NotNull 2) (Some (region_at 14 "a"))) ∷ [])) (name_at
    17 "p")) ∷ (member (type_at 20 tree.Int ((pointer (sign.NotNull 3) (Some (region_at 28 "b"))) ∷ [])) (name_at 31 "q")) ∷ []) None [] (Execute
    (Statement.Run (Expression.Assign (variable_at 36 "q") (variable_at 40 "p"))) (Execute (returns 43 (number 50 1)) NoItems)) 53)) ∷ (main_at 55 (Execute
    (returns 68 (number 75 0)) NoItems) 78) ∷ [])
    ≡ Some (fault type_rule 40)
bound_4 = refl

-- int f(int @{3}`a p, int @{2}`b q) { q = p; return 1; } int main() { return 0; }
bound_5 : typing_fault false
    ((tree.FunctionItem (routine (int_at 0) (name_at 4 "f") ((member (type_at 6 tree.Int ((pointer (sign.NotNull 3) (Some (region_at 14 "a"))) ∷ [])) (name_at
    17 "p")) ∷ (member (type_at 20 tree.Int ((pointer (sign.NotNull 2) (Some (region_at 28 "b"))) ∷ [])) (name_at 31 "q")) ∷ []) None [] (Execute
    (Statement.Run (Expression.Assign (variable_at 36 "q") (variable_at 40 "p"))) (Execute (returns 43 (number 50 1)) NoItems)) 53)) ∷ (main_at 55 (Execute
    (returns 68 (number 75 0)) NoItems) 78) ∷ [])
    ≡ Some (fault outlives_rule 40)
bound_5 = refl

-- int main() { int a[3]; int @{4} p = a; int ? q = p; int *{5} r = q; return 0; }
bound_6 : typing_fault false
    ((main_at 0 (Declare (tree.Local (int_at 13) (name_at 17 "a") (Initializer.Elements 3)) (Declare (tree.Local (type_at 23 tree.Int ((pointer (sign.NotNull
    4) None) ∷ [])) (name_at 32 "p") (Initializer.Value (variable_at 36 "a"))) (Declare (tree.Local (type_at 39 tree.Int ((pointer sign.Fat None) ∷ []))
    (name_at 45 "q") (Initializer.Value (variable_at 49 "p"))) (Declare (tree.Local (type_at 52 tree.Int ((pointer (sign.Nullable 5) None) ∷ [])) (name_at 61
    "r") (Initializer.Value (variable_at 65 "q"))) (Execute (returns 68 (number 75 0)) NoItems))))) 78) ∷ [])
    ≡ None
bound_6 = refl

-- int f(int *{3}`r *`r p) { int *{3} *`r q = p; return 1; } int main() { return 0; }
bound_7 : typing_fault false
    ((tree.FunctionItem (routine (int_at 0) (name_at 4 "f") ((member (type_at 6 tree.Int ((pointer (sign.Nullable 3) (Some (region_at 14 "r"))) ∷ (pointer
    (sign.Nullable 1) (Some (region_at 18 "r"))) ∷ [])) (name_at 21 "p")) ∷ []) None [] (Declare (tree.Local (type_at 26 tree.Int ((pointer (sign.Nullable 3)
    None) ∷ (pointer (sign.Nullable 1) (Some (region_at 36 "r"))) ∷ [])) (name_at 39 "q") (Initializer.Value (variable_at 43 "p"))) (Execute (returns 46
    (number 53 1)) NoItems)) 56)) ∷ (main_at 58 (Execute (returns 71 (number 78 0)) NoItems) 81) ∷ [])
    ≡ None
bound_7 = refl

-- int f(int *{3}`r *`r p) { int * *`r q = p; return 1; } int main() { return 0; }
bound_8 : typing_fault false
    ((tree.FunctionItem (routine (int_at 0) (name_at 4 "f") ((member (type_at 6 tree.Int ((pointer (sign.Nullable 3) (Some (region_at 14 "r"))) ∷ (pointer
    (sign.Nullable 1) (Some (region_at 18 "r"))) ∷ [])) (name_at 21 "p")) ∷ []) None [] (Declare (tree.Local (type_at 26 tree.Int ((pointer (sign.Nullable 1)
    None) ∷ (pointer (sign.Nullable 1) (Some (region_at 33 "r"))) ∷ [])) (name_at 36 "q") (Initializer.Value (variable_at 40 "p"))) (Execute (returns 43
    (number 50 1)) NoItems)) 53)) ∷ (main_at 55 (Execute (returns 68 (number 75 0)) NoItems) 78) ∷ [])
    ≡ Some (fault type_rule 40)
bound_8 = refl

-- int f(int @{3}`r p) { int @{2} q = &p[0]; return 1; } int main() { return 0; }
bound_9 : typing_fault false
    ((tree.FunctionItem (routine (int_at 0) (name_at 4 "f") ((member (type_at 6 tree.Int ((pointer (sign.NotNull 3) (Some (region_at 14 "r"))) ∷ [])) (name_at
    17 "p")) ∷ []) None [] (Declare (tree.Local (type_at 22 tree.Int ((pointer (sign.NotNull 2) None) ∷ [])) (name_at 31 "q") (Initializer.Value
    (Expression.Prefixed 35 AddressOf (Expression.Suffixed (variable_at 36 "p") (Index (number 38 0) NoSuffixes))))) (Execute (returns 42 (number 49 1))
    NoItems)) 52)) ∷ (main_at 54 (Execute (returns 67 (number 74 0)) NoItems) 77) ∷ [])
    ≡ Some (fault type_rule 35)
bound_9 = refl

-- int f(int @{3}`r p, int @`r q) { p = (q = p); return 1; } int main() { return 0; }
bound_10 : typing_fault false
    ((tree.FunctionItem (routine (int_at 0) (name_at 4 "f") ((member (type_at 6 tree.Int ((pointer (sign.NotNull 3) (Some (region_at 14 "r"))) ∷ [])) (name_at
    17 "p")) ∷ (member (type_at 20 tree.Int ((pointer (sign.NotNull 1) (Some (region_at 25 "r"))) ∷ [])) (name_at 28 "q")) ∷ []) None [] (Execute
    (Statement.Run (Expression.Assign (variable_at 33 "p") (Expression.Grouped 37 (Expression.Assign (variable_at 38 "q") (variable_at 42 "p"))))) (Execute
    (returns 46 (number 53 1)) NoItems)) 56)) ∷ (main_at 58 (Execute (returns 71 (number 78 0)) NoItems) 81) ∷ [])
    ≡ Some (fault type_rule 37)
bound_10 = refl

-- int f(int @{3}`r p) { int @{2} q = p; q :=: p; return 1; } int main() { return 0; }
bound_11 : typing_fault false
    ((tree.FunctionItem (routine (int_at 0) (name_at 4 "f") ((member (type_at 6 tree.Int ((pointer (sign.NotNull 3) (Some (region_at 14 "r"))) ∷ [])) (name_at
    17 "p")) ∷ []) None [] (Declare (tree.Local (type_at 22 tree.Int ((pointer (sign.NotNull 2) None) ∷ [])) (name_at 31 "q") (Initializer.Value (variable_at
    35 "p"))) (Execute (Statement.Exchange (variable_at 38 "q") (variable_at 44 "p")) (Execute (returns 47 (number 54 1)) NoItems))) 57)) ∷ (main_at 59
    (Execute (returns 72 (number 79 0)) NoItems) 82) ∷ [])
    ≡ Some (fault type_rule 38)
bound_11 = refl

-- int f(int @`r a, int @{1}`r b) { a :=: b; return a[0]; } int main() { return 0; }
bound_12 : typing_fault false
    ((tree.FunctionItem (routine (int_at 0) (name_at 4 "f") ((member (type_at 6 tree.Int ((pointer (sign.NotNull 1) (Some (region_at 11 "r"))) ∷ [])) (name_at
    14 "a")) ∷ (member (type_at 17 tree.Int ((pointer (sign.NotNull 1) (Some (region_at 25 "r"))) ∷ [])) (name_at 28 "b")) ∷ []) None [] (Execute
    (Statement.Exchange (variable_at 33 "a") (variable_at 39 "b")) (Execute (returns 42 (Expression.Suffixed (variable_at 49 "a") (Index (number 51 0)
    NoSuffixes))) NoItems)) 55)) ∷ (main_at 57 (Execute (returns 70 (number 77 0)) NoItems) 80) ∷ [])
    ≡ None
bound_12 = refl

-- ---- What is compared: pointers of whatever numbers, to one type.

-- int main() { int a[3]; int @{3} p = a; int *{2} q = a; int @ r = &a[0]; return (p == q) + (p == r); }
bound_13 : typing_fault false
    ((main_at 0 (Declare (tree.Local (int_at 13) (name_at 17 "a") (Initializer.Elements 3)) (Declare (tree.Local (type_at 23 tree.Int ((pointer (sign.NotNull
    3) None) ∷ [])) (name_at 32 "p") (Initializer.Value (variable_at 36 "a"))) (Declare (tree.Local (type_at 39 tree.Int ((pointer (sign.Nullable 2) None) ∷
    [])) (name_at 48 "q") (Initializer.Value (variable_at 52 "a"))) (Declare (tree.Local (type_at 55 tree.Int ((pointer (sign.NotNull 1) None) ∷ [])) (name_at
    61 "r") (Initializer.Value (Expression.Prefixed 65 AddressOf (Expression.Suffixed (variable_at 66 "a") (Index (number 68 0) NoSuffixes))))) (Execute
    (returns 72 (Expression.Chain (Expression.Grouped 79 (Expression.Chain (variable_at 80 "p") (MoreLinks Equal (variable_at 85 "q") NoLinks))) (MoreLinks
    Add (Expression.Grouped 90 (Expression.Chain (variable_at 91 "p") (MoreLinks Equal (variable_at 96 "r") NoLinks))) NoLinks))) NoItems))))) 100) ∷ [])
    ≡ None
bound_13 = refl

-- int f(int @{2}`b @`a x, int @{3}`b @`a y) { return x == y; } int main() { return 0; }
bound_14 : typing_fault false
    ((tree.FunctionItem (routine (int_at 0) (name_at 4 "f") ((member (type_at 6 tree.Int ((pointer (sign.NotNull 2) (Some (region_at 14 "b"))) ∷ (pointer
    (sign.NotNull 1) (Some (region_at 18 "a"))) ∷ [])) (name_at 21 "x")) ∷ (member (type_at 24 tree.Int ((pointer (sign.NotNull 3) (Some (region_at 32 "b")))
    ∷ (pointer (sign.NotNull 1) (Some (region_at 36 "a"))) ∷ [])) (name_at 39 "y")) ∷ []) None [] (Execute (returns 44 (Expression.Chain (variable_at 51 "x")
    (MoreLinks Equal (variable_at 56 "y") NoLinks))) NoItems) 59)) ∷ (main_at 61 (Execute (returns 74 (number 81 0)) NoItems) 84) ∷ [])
    ≡ Some (fault type_rule 51)
bound_14 = refl

-- int f(int @{3}`r p) { p + 1; return 1; } int main() { return 0; }
bound_15 : typing_fault false
    ((tree.FunctionItem (routine (int_at 0) (name_at 4 "f") ((member (type_at 6 tree.Int ((pointer (sign.NotNull 3) (Some (region_at 14 "r"))) ∷ [])) (name_at
    17 "p")) ∷ []) None [] (Execute (Statement.Run (Expression.Chain (variable_at 22 "p") (MoreLinks Add (number 26 1) NoLinks))) (Execute (returns 29 (number
    36 1)) NoItems)) 39)) ∷ (main_at 41 (Execute (returns 54 (number 61 0)) NoItems) 64) ∷ [])
    ≡ Some (fault type_rule 22)
bound_15 = refl

-- ---- Types that are none.

-- int *{0} g; int main() { return 0; }
bound_16 : typing_fault false
    ((tree.GlobalItem (global (type_at 0 tree.Int ((pointer (sign.Nullable 0) None) ∷ [])) (name_at 9 "g") Initial.Unset)) ∷ (main_at 12 (Execute (returns 25
    (number 32 0)) NoItems) 35) ∷ [])
    ≡ Some (fault type_rule 0)
bound_16 = refl

-- int *{2}`U g; int main() { return 0; }
bound_17 : typing_fault false
    ((tree.GlobalItem (global (type_at 0 tree.Int ((pointer (sign.Nullable 2) (Some (tree.Unique 8))) ∷ [])) (name_at 11 "g") Initial.Unset)) ∷ (main_at 14
    (Execute (returns 27 (number 34 0)) NoItems) 37) ∷ [])
    ≡ Some (fault type_rule 0)
bound_17 = refl

-- int *{1}`U g; int *`U *{2} h; int main() { return 0; }
bound_18 : typing_fault false
    ((tree.GlobalItem (global (type_at 0 tree.Int ((pointer (sign.Nullable 1) (Some (tree.Unique 8))) ∷ [])) (name_at 11 "g") Initial.Unset)) ∷
    (tree.GlobalItem (global (type_at 14 tree.Int ((pointer (sign.Nullable 1) (Some (tree.Unique 19))) ∷ (pointer (sign.Nullable 2) None) ∷ [])) (name_at 27
    "h") Initial.Unset)) ∷ (main_at 30 (Execute (returns 43 (number 50 0)) NoItems) 53) ∷ [])
    ≡ None
bound_18 = refl

-- int f(int x, int *{0} @p) { return 1; } int main() { return 0; }
bound_19 : typing_fault false
    ((tree.FunctionItem (routine (int_at 0) (name_at 4 "f") ((member (int_at 6) (name_at 10 "x")) ∷ (member (type_at 13 tree.Int ((pointer (sign.Nullable 0)
    None) ∷ (pointer (sign.NotNull 1) None) ∷ [])) (name_at 23 "p")) ∷ []) None [] (Execute (returns 28 (number 35 1)) NoItems) 38)) ∷ (main_at 40 (Execute
    (returns 53 (number 60 0)) NoItems) 63) ∷ [])
    ≡ Some (fault type_rule 13)
bound_19 = refl

-- int main() { int @`U u = rnew(unique_region) 1; int @{2} p = u; return 0; }
bound_20 : typing_fault false
    ((main_at 0 (Declare (tree.Local (type_at 13 tree.Int ((pointer (sign.NotNull 1) (Some (tree.Unique 18))) ∷ [])) (name_at 21 "u") (Initializer.Value
    (Expression.NewIn 25 (Expression.UniqueRegion 30) (One (number 45 1))))) (Declare (tree.Local (type_at 48 tree.Int ((pointer (sign.NotNull 2) None) ∷ []))
    (name_at 57 "p") (Initializer.Value (variable_at 61 "u"))) (Execute (returns 64 (number 71 0)) NoItems))) 74) ∷ [])
    ≡ Some (fault type_rule 48)
bound_20 = refl

-- int main() { int @`U u = rnew(unique_region) 1; int @{2}`H p = u; return 0; }
bound_21 : typing_fault false
    ((main_at 0 (Declare (tree.Local (type_at 13 tree.Int ((pointer (sign.NotNull 1) (Some (tree.Unique 18))) ∷ [])) (name_at 21 "u") (Initializer.Value
    (Expression.NewIn 25 (Expression.UniqueRegion 30) (One (number 45 1))))) (Declare (tree.Local (type_at 48 tree.Int ((pointer (sign.NotNull 2) (Some
    (tree.Heap 56))) ∷ [])) (name_at 59 "p") (Initializer.Value (variable_at 63 "u"))) (Execute (returns 66 (number 73 0)) NoItems))) 76) ∷ [])
    ≡ Some (fault type_rule 63)
bound_21 = refl

-- int main() { int @`U u = rnew(unique_region) 1; { let alias<`r> int @{2}`r x = u; } return 0; }
bound_22 : first_fault
    ((main_at 0 (Declare (tree.Local (type_at 13 tree.Int ((pointer (sign.NotNull 1) (Some (tree.Unique 18))) ∷ [])) (name_at 21 "u") (Initializer.Value
    (Expression.NewIn 25 (Expression.UniqueRegion 30) (One (number 45 1))))) (Execute (Statement.Block 48 (Declare (tree.Alias 50 (region_at 60 "r") (type_at
    64 tree.Int ((pointer (sign.NotNull 2) (Some (region_at 72 "r"))) ∷ [])) (name_at 75 "x") (name_at 79 "u")) NoItems)) (Execute (returns 84 (number 91 0))
    NoItems))) 94) ∷ [])
    ≡ Some (fault region_rule 64)
bound_22 = refl

-- int main() { int @`U u = rnew(unique_region) 1; { let alias<`r> int @{1}`r x = u; x[0] = 2; } return 0; }
bound_23 : first_fault
    ((main_at 0 (Declare (tree.Local (type_at 13 tree.Int ((pointer (sign.NotNull 1) (Some (tree.Unique 18))) ∷ [])) (name_at 21 "u") (Initializer.Value
    (Expression.NewIn 25 (Expression.UniqueRegion 30) (One (number 45 1))))) (Execute (Statement.Block 48 (Declare (tree.Alias 50 (region_at 60 "r") (type_at
    64 tree.Int ((pointer (sign.NotNull 1) (Some (region_at 72 "r"))) ∷ [])) (name_at 75 "x") (name_at 79 "u")) (Execute (Statement.Run (Expression.Assign
    (Expression.Suffixed (variable_at 82 "x") (Index (number 84 0) NoSuffixes)) (number 89 2))) NoItems))) (Execute (returns 94 (number 101 0)) NoItems)))
    104) ∷ [])
    ≡ None
bound_23 = refl

-- ---- A string at a global, whose last element is 0.

-- char *{4} g = "abc"; char *{1} h = ""; int main() { return 0; }
bound_24 : typing_fault false
    ((tree.GlobalItem (global (type_at 0 tree.Char ((pointer (sign.Nullable 4) None) ∷ [])) (name_at 10 "g") (Initial.Given (Constant.Text 14 (codes
    "abc"))))) ∷ (tree.GlobalItem (global (type_at 21 tree.Char ((pointer (sign.Nullable 1) None) ∷ [])) (name_at 31 "h") (Initial.Given (Constant.Text 35
    (codes ""))))) ∷ (main_at 39 (Execute (returns 52 (number 59 0)) NoItems) 62) ∷ [])
    ≡ None
bound_24 = refl

-- char *{5} g = "abc"; int main() { return 0; }
bound_25 : typing_fault false
    ((tree.GlobalItem (global (type_at 0 tree.Char ((pointer (sign.Nullable 5) None) ∷ [])) (name_at 10 "g") (Initial.Given (Constant.Text 14 (codes
    "abc"))))) ∷ (main_at 21 (Execute (returns 34 (number 41 0)) NoItems) 44) ∷ [])
    ≡ Some (fault type_rule 14)
bound_25 = refl

-- int *{2} g = "abc"; int main() { return 0; }
bound_26 : typing_fault false
    ((tree.GlobalItem (global (type_at 0 tree.Int ((pointer (sign.Nullable 2) None) ∷ [])) (name_at 9 "g") (Initial.Given (Constant.Text 13 (codes "abc")))))
    ∷ (main_at 20 (Execute (returns 33 (number 40 0)) NoItems) 43) ∷ [])
    ≡ Some (fault type_rule 13)
bound_26 = refl

-- a string that is too long: its bound isn't checked
-- char *{5000} g = "aaaaaaaaaaaaaaaaaaaaaaaaaaaaaaaaaaaaa .. aaaaaaaaaaaaaaaaaaaaaaaaa"; int main() { return 0; }
bound_27 : typing_fault false
    ((tree.GlobalItem (global (type_at 0 tree.Char ((pointer (sign.Nullable 5000) None) ∷ [])) (name_at 13 "g") (Initial.Given (Constant.Text 17 (replicate
    4096 97))))) ∷ (main_returns 4117) ∷ [])
    ≡ Some (fault size_rule 17)
bound_27 = refl

-- ---- What a subscript takes.

-- int main() { int x = 5; int *p = &x; p[0] = p[0] + 1; return (new 3)[0] + x; }
bound_28 : typing_fault false
    ((main_at 0 (Declare (tree.Local (int_at 13) (name_at 17 "x") (Initializer.Value (number 21 5))) (Declare (tree.Local (type_at 24 tree.Int ((pointer
    (sign.Nullable 1) None) ∷ [])) (name_at 29 "p") (Initializer.Value (Expression.Prefixed 33 AddressOf (variable_at 34 "x")))) (Execute (Statement.Run
    (Expression.Assign (Expression.Suffixed (variable_at 37 "p") (Index (number 39 0) NoSuffixes)) (Expression.Chain (Expression.Suffixed (variable_at 44 "p")
    (Index (number 46 0) NoSuffixes)) (MoreLinks Add (number 51 1) NoLinks)))) (Execute (returns 54 (Expression.Chain (Expression.Suffixed (Expression.Grouped
    61 (Expression.New 62 (One (number 66 3)))) (Index (number 69 0) NoSuffixes)) (MoreLinks Add (variable_at 74 "x") NoLinks))) NoItems)))) 77) ∷ [])
    ≡ None
bound_28 = refl

-- int main() { NULL[0]; return 0; }
bound_29 : typing_fault false
    ((main_at 0 (Execute (Statement.Run (Expression.Suffixed (Expression.Null 13) (Index (number 18 0) NoSuffixes))) (Execute (returns 22 (number 29 0))
    NoItems)) 32) ∷ [])
    ≡ Some (fault type_rule 13)
bound_29 = refl

-- int main() { int @`U u = rnew(unique_region) 4; u[0] = u[0] + 1; return u[1]; }
bound_30 : first_fault
    ((main_at 0 (Declare (tree.Local (type_at 13 tree.Int ((pointer (sign.NotNull 1) (Some (tree.Unique 18))) ∷ [])) (name_at 21 "u") (Initializer.Value
    (Expression.NewIn 25 (Expression.UniqueRegion 30) (One (number 45 4))))) (Execute (Statement.Run (Expression.Assign (Expression.Suffixed (variable_at 48
    "u") (Index (number 50 0) NoSuffixes)) (Expression.Chain (Expression.Suffixed (variable_at 55 "u") (Index (number 57 0) NoSuffixes)) (MoreLinks Add
    (number 62 1) NoLinks)))) (Execute (returns 65 (Expression.Suffixed (variable_at 72 "u") (Index (number 74 1) NoSuffixes))) NoItems))) 78) ∷ [])
    ≡ None
bound_30 = refl

-- int *`U g; int main() { g[0]; return 0; }
bound_31 : first_fault
    ((tree.GlobalItem (global (type_at 0 tree.Int ((pointer (sign.Nullable 1) (Some (tree.Unique 5))) ∷ [])) (name_at 8 "g") Initial.Unset)) ∷ (main_at 11
    (Execute (Statement.Run (Expression.Suffixed (variable_at 24 "g") (Index (number 26 0) NoSuffixes))) (Execute (returns 30 (number 37 0)) NoItems)) 40) ∷
    [])
    ≡ Some (fault copy_rule 24)
bound_31 = refl

-- int main() { (rnew(unique_region) 3)[0]; return 0; }
bound_32 : first_fault
    ((main_at 0 (Execute (Statement.Run (Expression.Suffixed (Expression.Grouped 13 (Expression.NewIn 14 (Expression.UniqueRegion 19) (One (number 34 3))))
    (Index (number 37 0) NoSuffixes))) (Execute (returns 41 (number 48 0)) NoItems)) 51) ∷ [])
    ≡ Some (fault copy_rule 13)
bound_32 = refl

-- int main() { int @`U u = rnew(unique_region) 1; &u[0]; return 0; }
bound_33 : first_fault
    ((main_at 0 (Declare (tree.Local (type_at 13 tree.Int ((pointer (sign.NotNull 1) (Some (tree.Unique 18))) ∷ [])) (name_at 21 "u") (Initializer.Value
    (Expression.NewIn 25 (Expression.UniqueRegion 30) (One (number 45 1))))) (Execute (Statement.Run (Expression.Prefixed 48 AddressOf (Expression.Suffixed
    (variable_at 49 "u") (Index (number 51 0) NoSuffixes)))) (Execute (returns 55 (number 62 0)) NoItems))) 65) ∷ [])
    ≡ Some (fault copy_rule 48)
bound_33 = refl

-- int main() { int @`U u = rnew(unique_region) 1; { let alias<`r> int @`r x = u; x[0]; u[0]; } return 0; }
bound_34 : first_fault
    ((main_at 0 (Declare (tree.Local (type_at 13 tree.Int ((pointer (sign.NotNull 1) (Some (tree.Unique 18))) ∷ [])) (name_at 21 "u") (Initializer.Value
    (Expression.NewIn 25 (Expression.UniqueRegion 30) (One (number 45 1))))) (Execute (Statement.Block 48 (Declare (tree.Alias 50 (region_at 60 "r") (type_at
    64 tree.Int ((pointer (sign.NotNull 1) (Some (region_at 69 "r"))) ∷ [])) (name_at 72 "x") (name_at 76 "u")) (Execute (Statement.Run (Expression.Suffixed
    (variable_at 79 "x") (Index (number 81 0) NoSuffixes))) (Execute (Statement.Run (Expression.Suffixed (variable_at 85 "u") (Index (number 87 0)
    NoSuffixes))) NoItems)))) (Execute (returns 93 (number 100 0)) NoItems))) 103) ∷ [])
    ≡ Some (fault lent_rule 85)
bound_34 = refl

-- int eat(int *`U p) { ufree(p); return 0; } int main() { int *`U v = NULL; v[eat(v)]; return 0; }
bound_35 : first_fault
    ((tree.FunctionItem (routine (int_at 0) (name_at 4 "eat") ((member (type_at 8 tree.Int ((pointer (sign.Nullable 1) (Some (tree.Unique 13))) ∷ []))
    (name_at 16 "p")) ∷ []) None [] (Execute (Statement.FreeUnique 21 (name_at 27 "p")) (Execute (returns 31 (number 38 0)) NoItems)) 41)) ∷ (main_at 43
    (Declare (tree.Local (type_at 56 tree.Int ((pointer (sign.Nullable 1) (Some (tree.Unique 61))) ∷ [])) (name_at 64 "v") (Initializer.Value (Expression.Null
    68))) (Execute (Statement.Run (Expression.Suffixed (variable_at 74 "v") (Index (Expression.Call (name_at 76 "eat") (MoreExpressions (variable_at 80 "v")
    NoExpressions)) NoSuffixes))) (Execute (returns 85 (number 92 0)) NoItems))) 95) ∷ [])
    ≡ Some (fault consumed_rule 74)
bound_35 = refl

-- ---- An array of which the handle has an error is not checked.

-- int main() { rnew(y) {for i < 1 : NULL}; return 0; }
bound_36 : typing_faults false
    ((main_at 0 (Execute (Statement.Run (Expression.NewIn 13 (variable_at 18 "y") (Array (name_at 26 "i") (number 30 1) (Expression.Null 34)))) (Execute
    (returns 41 (number 48 0)) NoItems)) 51) ∷ [])
    ≡ fault name_rule 18 ∷ []
bound_36 = refl

-- int main() { rnew(y) {for i < NULL : 1}; return 0; }
bound_37 : typing_faults false
    ((main_at 0 (Execute (Statement.Run (Expression.NewIn 13 (variable_at 18 "y") (Array (name_at 26 "i") (Expression.Null 30) (number 37 1)))) (Execute
    (returns 41 (number 48 0)) NoItems)) 51) ∷ [])
    ≡ fault name_rule 18 ∷ []
bound_37 = refl
