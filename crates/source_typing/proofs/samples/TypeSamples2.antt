-- Wrong types and forms.
use Rattle.std.proofs.Common.{◌≡◌, refl, false, Some, None, [], ◌∷◌}
use Rattle.cyc_tree.specs.declared.expression.Operator.TheVariants.{Add}
use Rattle.cyc_tree.specs.declared.expression.Prefix.TheVariants.{Negate, Not, Complement, Dereference}
use Rattle.cyc_tree.specs.declared.name.Sign.TheVariants as sign
use Rattle.cyc_tree.specs.Tree as tree
use Rattle.cyc_tree.specs.Tree.{Expression, NoExpressions, MoreExpressions, NoLinks, MoreLinks, NoSuffixes, Index, One, Array, Initializer, Statement}
use Rattle.cyc_tree.specs.Tree.{NoItems, Declare, Execute, Constant, Initial}
use Rattle.source_meaning.proofs.Trees.{pointer}
use Rattle.source_typing.specs.Faults.{fault, type_rule}
use Rattle.source_typing.specs.Programs.{typing_fault, typing_faults}
use Rattle.source_typing.proofs.samples.SampleTrees.{name_at, region_at, type_at, int_at, number, variable_at, returns, member, global, routine, main_at}
use Rattle.source_typing.proofs.samples.SampleTrees.{main_returns}

-- int main() { break; return 0; }
type_31 : typing_fault false
    ((main_at 0 (Execute (Statement.Break 13) (Execute (returns 20 (number 27 0)) NoItems)) 30) ∷ [])
    ≡ Some (fault type_rule 13)
type_31 = refl

-- int main() { continue; return 0; }
type_32 : typing_fault false
    ((main_at 0 (Execute (Statement.Continue 13) (Execute (returns 23 (number 30 0)) NoItems)) 33) ∷ [])
    ≡ Some (fault type_rule 13)
type_32 = refl

-- int f() { while (1) { return 1; } } int main() { return 0; }
type_33 : typing_fault false
    ((tree.FunctionItem (routine (int_at 0) (name_at 4 "f") [] None [] (Execute (Statement.While 10 (number 17 1) (Statement.Block 20 (Execute (returns 22
    (number 29 1)) NoItems))) NoItems) 34)) ∷ (main_returns 36) ∷ [])
    ≡ Some (fault type_rule 34)
type_33 = refl

-- int f() { if (1) return 1; } int main() { return 0; }
type_34 : typing_fault false
    ((tree.FunctionItem (routine (int_at 0) (name_at 4 "f") [] None [] (Execute (Statement.If 10 (number 14 1) (returns 17 (number 24 1))) NoItems) 27)) ∷
    (main_returns 29) ∷ [])
    ≡ Some (fault type_rule 27)
type_34 = refl

-- void f() { return 1; } int main() { return 0; }
type_35 : typing_fault false
    ((tree.FunctionItem (routine (type_at 0 tree.Void []) (name_at 5 "f") [] None [] (Execute (returns 11 (number 18 1)) NoItems) 21)) ∷ (main_returns 23) ∷ [])
    ≡ Some (fault type_rule 11)
type_35 = refl

-- int f() { return; } int main() { return 0; }
type_36 : typing_fault false
    ((tree.FunctionItem (routine (int_at 0) (name_at 4 "f") [] None [] (Execute (Statement.Return 10 None) NoItems) 18)) ∷ (main_returns 20) ∷ [])
    ≡ Some (fault type_rule 10)
type_36 = refl

-- int @p = NULL; int main() { return 0; }
type_37 : typing_fault false
    ((tree.GlobalItem (global (type_at 0 tree.Int ((pointer (sign.NotNull 1) None) ∷ [])) (name_at 5 "p") (Initial.Given (Constant.Null 9))))
    ∷ (main_returns 15) ∷
    [])
    ≡ Some (fault type_rule 0)
type_37 = refl

-- int g = NULL; int main() { g = NULL; return 0; }
type_38 : typing_fault false
    ((tree.GlobalItem (global (int_at 0) (name_at 4 "g") (Initial.Given (Constant.Null 8)))) ∷ (main_at 14 (Execute (Statement.Run (Expression.Assign
    (variable_at 27 "g") (Expression.Null 31))) (Execute (returns 37 (number 44 0)) NoItems)) 47) ∷ [])
    ≡ Some (fault type_rule 8)
type_38 = refl

-- int *`r p = NULL; int main() { return 0; }
type_39 : typing_fault false
    ((tree.GlobalItem (global (type_at 0 tree.Int ((pointer (sign.Nullable 1) (Some (region_at 5 "r"))) ∷ [])) (name_at 8 "p")
    (Initial.Given (Constant.Null 12))))
    ∷ (main_returns 18) ∷ [])
    ≡ Some (fault type_rule 0)
type_39 = refl

-- int a[3]; int main() { a[1] = 2; a = 3; return 0; }
type_40 : typing_fault false
    ((tree.GlobalItem (global (int_at 0) (name_at 4 "a") (Initial.Elements 3))) ∷ (main_at 10 (Execute (Statement.Run (Expression.Assign (Expression.Suffixed
    (variable_at 23 "a") (Index (number 25 1) NoSuffixes)) (number 30 2))) (Execute (Statement.Run (Expression.Assign (variable_at 33 "a") (number 37 3)))
    (Execute (returns 40 (number 47 0)) NoItems))) 50) ∷ [])
    ≡ Some (fault type_rule 33)
type_40 = refl

-- int a[0]; int main() { return 0; }
type_41 : typing_fault false
    ((tree.GlobalItem (global (int_at 0) (name_at 4 "a") (Initial.Elements 0))) ∷ (main_returns 10) ∷ [])
    ≡ Some (fault type_rule 0)
type_41 = refl

-- int main() { int a[3]; int ?p = a; p + 1; numelts(p); numelts(3); return 0; }
type_42 : typing_fault false
    ((main_at 0 (Declare (tree.Local (int_at 13) (name_at 17 "a") (Initializer.Elements 3)) (Declare (tree.Local (type_at 23 tree.Int ((pointer sign.Fat None)
    ∷ [])) (name_at 28 "p") (Initializer.Value (variable_at 32 "a"))) (Execute (Statement.Run (Expression.Chain (variable_at 35 "p") (MoreLinks Add (number 39
    1) NoLinks))) (Execute (Statement.Run (Expression.NumElts 42 (variable_at 50 "p"))) (Execute (Statement.Run (Expression.NumElts 54 (number 62 3)))
    (Execute (returns 66 (number 73 0)) NoItems)))))) 76) ∷ [])
    ≡ Some (fault type_rule 54)
type_42 = refl

-- int main() { new {for i < 3 : i = 2}; return 0; }
type_43 : typing_fault false
    ((main_at 0 (Execute (Statement.Run (Expression.New 13 (Array (name_at 22 "i") (number 26 3) (Expression.Assign (variable_at 30 "i") (number 34 2)))))
    (Execute (returns 38 (number 45 0)) NoItems)) 48) ∷ [])
    ≡ Some (fault type_rule 30)
type_43 = refl

-- int main() { int ?p = new {for i < 3 : i}; return 0; }
type_44 : typing_fault false
    ((main_at 0 (Declare (tree.Local (type_at 13 tree.Int ((pointer sign.Fat None) ∷ [])) (name_at 18 "p") (Initializer.Value (Expression.New 22 (Array
    (name_at 31 "i") (number 35 3) (variable_at 39 "i"))))) (Execute (returns 43 (number 50 0)) NoItems)) 53) ∷ [])
    ≡ Some (fault type_rule 22)
type_44 = refl

-- int main() { rnew(unique_region) {for i < 3 : 1}; return 0; }
type_45 : typing_fault false
    ((main_at 0 (Execute (Statement.Run (Expression.NewIn 13 (Expression.UniqueRegion 18) (Array (name_at 38 "i") (number 42 3) (number 46 1)))) (Execute
    (returns 50 (number 57 0)) NoItems)) 60) ∷ [])
    ≡ Some (fault type_rule 13)
type_45 = refl

-- int main() { int x; ufree(x); return 0; }
type_46 : typing_fault false
    ((main_at 0 (Declare (tree.Local (int_at 13) (name_at 17 "x") Initializer.Unset) (Execute (Statement.FreeUnique 20 (name_at 26 "x")) (Execute (returns 30
    (number 37 0)) NoItems))) 40) ∷ [])
    ≡ Some (fault type_rule 26)
type_46 = refl

-- int main() { int x; char c; x :=: c; return 0; }
type_47 : typing_fault false
    ((main_at 0 (Declare (tree.Local (int_at 13) (name_at 17 "x") Initializer.Unset) (Declare (tree.Local (type_at 20 tree.Char []) (name_at 25 "c")
    Initializer.Unset) (Execute (Statement.Exchange (variable_at 28 "x") (variable_at 34 "c")) (Execute (returns 37 (number 44 0)) NoItems)))) 47) ∷ [])
    ≡ Some (fault type_rule 28)
type_47 = refl

-- int main() { int x; x :=: *new 3; return 0; }
type_48 : typing_fault false
    ((main_at 0 (Declare (tree.Local (int_at 13) (name_at 17 "x") Initializer.Unset) (Execute (Statement.Exchange (variable_at 20 "x") (Expression.Prefixed 26
    Dereference (Expression.New 27 (One (number 31 3))))) (Execute (returns 34 (number 41 0)) NoItems))) 44) ∷ [])
    ≡ Some (fault type_rule 27)
type_48 = refl

-- int f(int *p) { return 0; } int main() { int y = f(1); y = NULL; return 0; }
type_49 : typing_fault false
    ((tree.FunctionItem (routine (int_at 0) (name_at 4 "f") ((member (type_at 6 tree.Int ((pointer (sign.Nullable 1) None) ∷ [])) (name_at 11 "p"))
    ∷ []) None []
    (Execute (returns 16 (number 23 0)) NoItems) 26)) ∷ (main_at 28 (Declare (tree.Local (int_at 41) (name_at 45 "y") (Initializer.Value (Expression.Call
    (name_at 49 "f") (MoreExpressions (number 51 1) NoExpressions)))) (Execute (Statement.Run (Expression.Assign (variable_at 55 "y") (Expression.Null 59)))
    (Execute (returns 65 (number 72 0)) NoItems))) 75) ∷ [])
    ≡ Some (fault type_rule 51)
type_49 = refl

-- int main() { 1 && NULL || 2; !NULL; -NULL; ~3; return 0; }
type_50 : typing_fault false
    ((main_at 0 (Execute (Statement.Run (Expression.AnyOf (Expression.AllOf (number 13 1) (MoreExpressions (Expression.Null 18) NoExpressions))
    (MoreExpressions (number 26 2) NoExpressions))) (Execute (Statement.Run (Expression.Prefixed 29 Not (Expression.Null 30))) (Execute (Statement.Run
    (Expression.Prefixed 36 Negate (Expression.Null 37))) (Execute (Statement.Run (Expression.Prefixed 43 Complement (number 44 3))) (Execute (returns 47
    (number 54 0)) NoItems))))) 57) ∷ [])
    ≡ Some (fault type_rule 13)
type_50 = refl

-- int main() { (1) + (NULL); return 0; }
type_51 : typing_fault false
    ((main_at 0 (Execute (Statement.Run (Expression.Chain (Expression.Grouped 13 (number 14 1)) (MoreLinks Add (Expression.Grouped 19 (Expression.Null 20))
    NoLinks))) (Execute (returns 27 (number 34 0)) NoItems)) 37) ∷ [])
    ≡ Some (fault type_rule 13)
type_51 = refl

-- ---- names of other declarations, where a local's type wants a tag

-- int main() { struct g *x; return 0; } void g;
type_52 : typing_fault false
    ((main_at 0 (Declare (tree.Local (type_at 13 (tree.Struct (name_at 20 "g") []) ((pointer (sign.Nullable 1) None) ∷ [])) (name_at 23 "x") Initializer.Unset)
    (Execute (returns 26 (number 33 0)) NoItems)) 36) ∷ (tree.GlobalItem (global (type_at 38 tree.Void []) (name_at 43 "g") Initial.Unset)) ∷ [])
    ≡ Some (fault type_rule 38)
type_52 = refl

-- all of its faults
-- int main() { void v; struct v *x; return 0; }
type_53 : typing_faults false
    ((main_at 0 (Declare (tree.Local (type_at 13 tree.Void []) (name_at 18 "v") Initializer.Unset) (Declare (tree.Local (type_at 21 (tree.Struct (name_at 28
    "v") []) ((pointer (sign.Nullable 1) None) ∷ [])) (name_at 31 "x") Initializer.Unset) (Execute (returns 34 (number 41 0)) NoItems))) 44) ∷ [])
    ≡ fault type_rule 13 ∷ []
type_53 = refl

-- int g; int main() { struct g *x; return 0; }
type_54 : typing_fault false
    ((tree.GlobalItem (global (int_at 0) (name_at 4 "g") Initial.Unset)) ∷ (main_at 7 (Declare (tree.Local (type_at 20 (tree.Struct (name_at 27 "g") [])
    ((pointer (sign.Nullable 1) None) ∷ [])) (name_at 30 "x") Initializer.Unset) (Execute (returns 33 (number 40 0)) NoItems)) 43) ∷ [])
    ≡ Some (fault type_rule 27)
type_54 = refl

-- int main() { int v; struct v *x; return 0; }
type_55 : typing_fault false
    ((main_at 0 (Declare (tree.Local (int_at 13) (name_at 17 "v") Initializer.Unset) (Declare (tree.Local (type_at 20 (tree.Struct (name_at 27 "v") [])
    ((pointer (sign.Nullable 1) None) ∷ [])) (name_at 30 "x") Initializer.Unset) (Execute (returns 33 (number 40 0)) NoItems))) 43) ∷ [])
    ≡ Some (fault type_rule 27)
type_55 = refl
