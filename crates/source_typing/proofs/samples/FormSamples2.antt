-- Forms and places.
use Rattle.std.proofs.Common.{◌≡◌, refl, false, Some, None, [], ◌∷◌}
use Rattle.std.specs.Prelude.{codes}
use Rattle.cyc_tree.specs.declared.expression.Operator.TheVariants.{Equal, Less, Add, Subtract, Multiply}
use Rattle.cyc_tree.specs.declared.expression.Prefix.TheVariants.{Negate, Not, Complement, Dereference, AddressOf}
use Rattle.cyc_tree.specs.declared.name.Sign.TheVariants as sign
use Rattle.cyc_tree.specs.Tree as tree
use Rattle.cyc_tree.specs.Tree.{Expression, NoExpressions, MoreExpressions, NoLinks, MoreLinks, NoSuffixes, Index, Dot, Arrow, Initializer, Statement}
use Rattle.cyc_tree.specs.Tree.{NoItems, Declare, Execute, Constant, Initial}
use Rattle.source_meaning.proofs.Trees.{pointer}
use Rattle.source_typing.specs.Faults.{fault, name_rule, type_rule}
use Rattle.source_typing.specs.Answers.{first_fault}
use Rattle.source_typing.proofs.samples.SampleTrees.{name_at, region_at, type_at, int_at, number, variable_at, returns, member, structure, global, main_at}

-- struct S { int @p; }; int main() { struct S a[2]; return 0; }
form_37 : first_fault
    ((tree.StructItem (structure 0 (name_at 7 "S") [] ((member (type_at 11 tree.Int ((pointer (sign.NotNull 1) None) ∷ [])) (name_at 16 "p")) ∷ [])))
    ∷ (main_at 22
    (Declare (tree.Local (type_at 35 (tree.Struct (name_at 42 "S") []) []) (name_at 44 "a") (Initializer.Elements 2)) (Execute (returns 50 (number 57 0))
    NoItems)) 60) ∷ [])
    ≡ Some (fault type_rule 35)
form_37 = refl

-- @tagged union U { int a; char b; }; int main() { union U u; return 0; }
form_38 : first_fault
    ((tree.UnionItem (structure 0 (name_at 14 "U") [] ((member (int_at 18) (name_at 22 "a")) ∷ (member (type_at 25 tree.Char []) (name_at 30 "b")) ∷ []))) ∷
    (main_at 36 (Declare (tree.Local (type_at 49 (tree.Union (name_at 55 "U") []) []) (name_at 57 "u") Initializer.Unset) (Execute (returns 60 (number 67 0))
    NoItems)) 70) ∷ [])
    ≡ Some (fault type_rule 49)
form_38 = refl

-- int main() { region_t<`H> h; return 0; }
form_39 : first_fault
    ((main_at 0 (Declare (tree.Local (type_at 13 (tree.Handle (tree.Heap 22)) []) (name_at 26 "h") Initializer.Unset) (Execute (returns 29 (number 36 0))
    NoItems)) 39) ∷ [])
    ≡ Some (fault type_rule 13)
form_39 = refl

-- int @x; int main() {  return 0; }
form_40 : first_fault
    ((tree.GlobalItem (global (type_at 0 tree.Int ((pointer (sign.NotNull 1) None) ∷ [])) (name_at 5 "x") Initial.Unset))
    ∷ (main_at 8 (Execute (returns 22 (number
    29 0)) NoItems) 32) ∷ [])
    ≡ Some (fault type_rule 0)
form_40 = refl

-- int *`r x; int main() {  return 0; }
form_41 : first_fault
    ((tree.GlobalItem (global (type_at 0 tree.Int ((pointer (sign.Nullable 1) (Some (region_at 5 "r"))) ∷ [])) (name_at 8 "x") Initial.Unset)) ∷ (main_at 11
    (Execute (returns 25 (number 32 0)) NoItems) 35) ∷ [])
    ≡ Some (fault type_rule 0)
form_41 = refl

-- int *`H x; int *`U y; int *z; int main() {  return 0; }
form_42 : first_fault
    ((tree.GlobalItem (global (type_at 0 tree.Int ((pointer (sign.Nullable 1) (Some (tree.Heap 5))) ∷ [])) (name_at 8 "x") Initial.Unset)) ∷ (tree.GlobalItem
    (global (type_at 11 tree.Int ((pointer (sign.Nullable 1) (Some (tree.Unique 16))) ∷ [])) (name_at 19 "y") Initial.Unset))
    ∷ (tree.GlobalItem (global (type_at
    22 tree.Int ((pointer (sign.Nullable 1) None) ∷ [])) (name_at 27 "z") Initial.Unset)) ∷ (main_at 30 (Execute (returns 44 (number 51 0)) NoItems) 54) ∷ [])
    ≡ None
form_42 = refl

-- int x = NULL; int main() {  return 0; }
form_43 : first_fault
    ((tree.GlobalItem (global (int_at 0) (name_at 4 "x") (Initial.Given (Constant.Null 8)))) ∷ (main_at 14 (Execute (returns 28 (number 35 0)) NoItems) 38) ∷
    [])
    ≡ Some (fault type_rule 8)
form_43 = refl

-- int *x = 1; int main() {  return 0; }
form_44 : first_fault
    ((tree.GlobalItem (global (type_at 0 tree.Int ((pointer (sign.Nullable 1) None) ∷ [])) (name_at 5 "x")
    (Initial.Given (Constant.Number 9 1 false)))) ∷ (main_at
    12 (Execute (returns 26 (number 33 0)) NoItems) 36) ∷ [])
    ≡ Some (fault type_rule 9)
form_44 = refl

-- char x = 'a'; char ?y = "b"; int *z = NULL; unsigned w = -1; int main() {  return 0; }
form_45 : first_fault
    ((tree.GlobalItem (global (type_at 0 tree.Char []) (name_at 5 "x") (Initial.Given (Constant.Character 9 97)))) ∷ (tree.GlobalItem (global (type_at 14
    tree.Char ((pointer sign.Fat None) ∷ [])) (name_at 20 "y") (Initial.Given (Constant.Text 24 (codes "b"))))) ∷ (tree.GlobalItem (global (type_at 29
    tree.Int ((pointer (sign.Nullable 1) None) ∷ [])) (name_at 34 "z") (Initial.Given (Constant.Null 38)))) ∷ (tree.GlobalItem (global (type_at 44 tree.Unsigned
    []) (name_at 53 "w") (Initial.Given (Constant.Negative 57 1 false)))) ∷ (main_at 61 (Execute (returns 75 (number 82 0)) NoItems) 85) ∷ [])
    ≡ None
form_45 = refl

-- region_t<`H> h; int main() {  return 0; }
form_46 : first_fault
    ((tree.GlobalItem (global (type_at 0 (tree.Handle (tree.Heap 9)) []) (name_at 13 "h") Initial.Unset)) ∷ (main_at 16 (Execute (returns 30 (number 37 0))
    NoItems) 40) ∷ [])
    ≡ Some (fault type_rule 0)
form_46 = refl

-- int @`U x = NULL; int main() {  return 0; }
form_47 : first_fault
    ((tree.GlobalItem (global (type_at 0 tree.Int ((pointer (sign.NotNull 1) (Some (tree.Unique 5))) ∷ [])) (name_at 8 "x")
    (Initial.Given (Constant.Null 12)))) ∷
    (main_at 18 (Execute (returns 32 (number 39 0)) NoItems) 42) ∷ [])
    ≡ Some (fault type_rule 0)
form_47 = refl

-- int main() { int x; 1 = x; return 0; }
form_48 : first_fault
    ((main_at 0 (Declare (tree.Local (int_at 13) (name_at 17 "x") Initializer.Unset) (Execute (Statement.Run (Expression.Assign (number 20 1) (variable_at 24
    "x"))) (Execute (returns 27 (number 34 0)) NoItems))) 37) ∷ [])
    ≡ Some (fault type_rule 20)
form_48 = refl

-- int main() { int a[2]; int b[2]; a = b; return 0; }
form_49 : first_fault
    ((main_at 0 (Declare (tree.Local (int_at 13) (name_at 17 "a") (Initializer.Elements 2)) (Declare (tree.Local (int_at 23) (name_at 27 "b")
    (Initializer.Elements 2)) (Execute (Statement.Run (Expression.Assign (variable_at 33 "a") (variable_at 37 "b"))) (Execute (returns 40 (number 47 0))
    NoItems)))) 50) ∷ [])
    ≡ Some (fault type_rule 33)
form_49 = refl

-- int main() { int x; int y = &1; return 0; }
form_50 : first_fault
    ((main_at 0 (Declare (tree.Local (int_at 13) (name_at 17 "x") Initializer.Unset) (Declare (tree.Local (int_at 20) (name_at 24 "y") (Initializer.Value
    (Expression.Prefixed 28 AddressOf (number 29 1)))) (Execute (returns 32 (number 39 0)) NoItems))) 42) ∷ [])
    ≡ Some (fault type_rule 28)
form_50 = refl

-- int main() { int x; int *p = &x; int y = p[0]; return 0; }
form_51 : first_fault
    ((main_at 0 (Declare (tree.Local (int_at 13) (name_at 17 "x") Initializer.Unset)
    (Declare (tree.Local (type_at 20 tree.Int ((pointer (sign.Nullable 1) None) ∷
    [])) (name_at 25 "p") (Initializer.Value (Expression.Prefixed 29 AddressOf (variable_at 30 "x")))) (Declare (tree.Local (int_at 33) (name_at 37 "y")
    (Initializer.Value (Expression.Suffixed (variable_at 41 "p") (Index (number 43 0) NoSuffixes)))) (Execute (returns 47 (number 54 0)) NoItems)))) 57) ∷ [])
    ≡ None
form_51 = refl

-- int main() { int ?p = NULL; int y = p[NULL]; return 0; }
form_52 : first_fault
    ((main_at 0 (Declare (tree.Local (type_at 13 tree.Int ((pointer sign.Fat None) ∷ [])) (name_at 18 "p") (Initializer.Value (Expression.Null 22))) (Declare
    (tree.Local (int_at 28) (name_at 32 "y") (Initializer.Value (Expression.Suffixed (variable_at 36 "p") (Index (Expression.Null 38) NoSuffixes)))) (Execute
    (returns 45 (number 52 0)) NoItems))) 55) ∷ [])
    ≡ Some (fault type_rule 36)
form_52 = refl

-- int main() { int x; x = *x; return 0; }
form_53 : first_fault
    ((main_at 0 (Declare (tree.Local (int_at 13) (name_at 17 "x") Initializer.Unset) (Execute (Statement.Run (Expression.Assign (variable_at 20 "x")
    (Expression.Prefixed 24 Dereference (variable_at 25 "x")))) (Execute (returns 28 (number 35 0)) NoItems))) 38) ∷ [])
    ≡ Some (fault type_rule 24)
form_53 = refl

-- int main() { int x; x = x.f; return 0; }
form_54 : first_fault
    ((main_at 0 (Declare (tree.Local (int_at 13) (name_at 17 "x") Initializer.Unset) (Execute (Statement.Run (Expression.Assign (variable_at 20 "x")
    (Expression.Suffixed (variable_at 24 "x") (Dot (name_at 26 "f") NoSuffixes)))) (Execute (returns 29 (number 36 0)) NoItems))) 39) ∷ [])
    ≡ Some (fault type_rule 24)
form_54 = refl

-- struct S { int x; }; int main() { int x = S(1).x; return 0; }
form_55 : first_fault
    ((tree.StructItem (structure 0 (name_at 7 "S") [] ((member (int_at 11) (name_at 15 "x")) ∷ []))) ∷ (main_at 21 (Declare (tree.Local (int_at 34) (name_at 38
    "x") (Initializer.Value (Expression.Suffixed (Expression.Call (name_at 42 "S") (MoreExpressions (number 44 1) NoExpressions)) (Dot (name_at 47 "x")
    NoSuffixes)))) (Execute (returns 50 (number 57 0)) NoItems)) 60) ∷ [])
    ≡ Some (fault type_rule 42)
form_55 = refl

-- struct S { int x; }; int main() { struct S s; int x = s->x; return 0; }
form_56 : first_fault
    ((tree.StructItem (structure 0 (name_at 7 "S") [] ((member (int_at 11) (name_at 15 "x")) ∷ []))) ∷ (main_at 21 (Declare (tree.Local (type_at 34
    (tree.Struct (name_at 41 "S") []) []) (name_at 43 "s") Initializer.Unset) (Declare (tree.Local (int_at 46) (name_at 50 "x") (Initializer.Value
    (Expression.Suffixed (variable_at 54 "s") (Arrow (name_at 57 "x") NoSuffixes)))) (Execute (returns 60 (number 67 0)) NoItems))) 70) ∷ [])
    ≡ Some (fault type_rule 54)
form_56 = refl

-- struct S { int x; }; int main() { struct S s; int x = s.y; return 0; }
form_57 : first_fault
    ((tree.StructItem (structure 0 (name_at 7 "S") [] ((member (int_at 11) (name_at 15 "x")) ∷ []))) ∷ (main_at 21 (Declare (tree.Local (type_at 34
    (tree.Struct (name_at 41 "S") []) []) (name_at 43 "s") Initializer.Unset) (Declare (tree.Local (int_at 46) (name_at 50 "x") (Initializer.Value
    (Expression.Suffixed (variable_at 54 "s") (Dot (name_at 56 "y") NoSuffixes)))) (Execute (returns 59 (number 66 0)) NoItems))) 69) ∷ [])
    ≡ Some (fault name_rule 56)
form_57 = refl

-- int main() { int x = numelts(1); return 0; }
form_58 : first_fault
    ((main_at 0 (Declare (tree.Local (int_at 13) (name_at 17 "x") (Initializer.Value (Expression.NumElts 21 (number 29 1)))) (Execute (returns 33 (number 40
    0)) NoItems)) 43) ∷ [])
    ≡ Some (fault type_rule 21)
form_58 = refl

-- int main() { int *p = NULL; int x = p + 1; return 0; }
form_59 : first_fault
    ((main_at 0 (Declare (tree.Local (type_at 13 tree.Int ((pointer (sign.Nullable 1) None) ∷ [])) (name_at 18 "p") (Initializer.Value (Expression.Null 22)))
    (Declare (tree.Local (int_at 28) (name_at 32 "x") (Initializer.Value (Expression.Chain (variable_at 36 "p") (MoreLinks Add (number 40 1) NoLinks))))
    (Execute (returns 43 (number 50 0)) NoItems))) 53) ∷ [])
    ≡ Some (fault type_rule 36)
form_59 = refl

-- int main() { int ?p = NULL; int x = 1 + p; return 0; }
form_60 : first_fault
    ((main_at 0 (Declare (tree.Local (type_at 13 tree.Int ((pointer sign.Fat None) ∷ [])) (name_at 18 "p") (Initializer.Value (Expression.Null 22))) (Declare
    (tree.Local (int_at 28) (name_at 32 "x") (Initializer.Value (Expression.Chain (number 36 1) (MoreLinks Add (variable_at 40 "p") NoLinks)))) (Execute
    (returns 43 (number 50 0)) NoItems))) 53) ∷ [])
    ≡ Some (fault type_rule 36)
form_60 = refl

-- int main() { int ?p = NULL; int ?q = p * 2; return 0; }
form_61 : first_fault
    ((main_at 0 (Declare (tree.Local (type_at 13 tree.Int ((pointer sign.Fat None) ∷ [])) (name_at 18 "p") (Initializer.Value (Expression.Null 22))) (Declare
    (tree.Local (type_at 28 tree.Int ((pointer sign.Fat None) ∷ [])) (name_at 33 "q") (Initializer.Value (Expression.Chain (variable_at 37 "p") (MoreLinks
    Multiply (number 41 2) NoLinks)))) (Execute (returns 44 (number 51 0)) NoItems))) 54) ∷ [])
    ≡ Some (fault type_rule 37)
form_61 = refl

-- int main() { int ?p = NULL; int ?q = NULL; int x = p - q; return 0; }
form_62 : first_fault
    ((main_at 0 (Declare (tree.Local (type_at 13 tree.Int ((pointer sign.Fat None) ∷ [])) (name_at 18 "p") (Initializer.Value (Expression.Null 22))) (Declare
    (tree.Local (type_at 28 tree.Int ((pointer sign.Fat None) ∷ [])) (name_at 33 "q") (Initializer.Value (Expression.Null 37))) (Declare (tree.Local (int_at
    43) (name_at 47 "x") (Initializer.Value (Expression.Chain (variable_at 51 "p") (MoreLinks Subtract (variable_at 55 "q") NoLinks)))) (Execute (returns 58
    (number 65 0)) NoItems)))) 68) ∷ [])
    ≡ Some (fault type_rule 51)
form_62 = refl

-- int main() { int ?p = NULL; int ?q = NULL; int x = p == q; return 0; }
form_63 : first_fault
    ((main_at 0 (Declare (tree.Local (type_at 13 tree.Int ((pointer sign.Fat None) ∷ [])) (name_at 18 "p") (Initializer.Value (Expression.Null 22))) (Declare
    (tree.Local (type_at 28 tree.Int ((pointer sign.Fat None) ∷ [])) (name_at 33 "q") (Initializer.Value (Expression.Null 37))) (Declare (tree.Local (int_at
    43) (name_at 47 "x") (Initializer.Value (Expression.Chain (variable_at 51 "p") (MoreLinks Equal (variable_at 56 "q") NoLinks)))) (Execute (returns 59
    (number 66 0)) NoItems)))) 69) ∷ [])
    ≡ Some (fault type_rule 51)
form_63 = refl

-- int main() { int *p = NULL; char *q = NULL; int x = p == q; return 0; }
form_64 : first_fault
    ((main_at 0 (Declare (tree.Local (type_at 13 tree.Int ((pointer (sign.Nullable 1) None) ∷ [])) (name_at 18 "p") (Initializer.Value (Expression.Null 22)))
    (Declare (tree.Local (type_at 28 tree.Char ((pointer (sign.Nullable 1) None) ∷ [])) (name_at 34 "q") (Initializer.Value (Expression.Null 38))) (Declare
    (tree.Local (int_at 44) (name_at 48 "x") (Initializer.Value (Expression.Chain (variable_at 52 "p") (MoreLinks Equal (variable_at 57 "q") NoLinks))))
    (Execute (returns 60 (number 67 0)) NoItems)))) 70) ∷ [])
    ≡ Some (fault type_rule 52)
form_64 = refl

-- int main() { int *`U p = NULL; int *q = NULL; int x = p == q; return 0; }
form_65 : first_fault
    ((main_at 0 (Declare (tree.Local (type_at 13 tree.Int ((pointer (sign.Nullable 1) (Some (tree.Unique 18))) ∷ [])) (name_at 21 "p") (Initializer.Value
    (Expression.Null 25))) (Declare (tree.Local (type_at 31 tree.Int ((pointer (sign.Nullable 1) None) ∷ [])) (name_at 36 "q")
    (Initializer.Value (Expression.Null
    40))) (Declare (tree.Local (int_at 46) (name_at 50 "x") (Initializer.Value (Expression.Chain (variable_at 54 "p") (MoreLinks Equal (variable_at 59 "q")
    NoLinks)))) (Execute (returns 62 (number 69 0)) NoItems)))) 72) ∷ [])
    ≡ Some (fault type_rule 54)
form_65 = refl

-- int main() { int *p = NULL; int *q = NULL; int x = p < q; return 0; }
form_66 : first_fault
    ((main_at 0 (Declare (tree.Local (type_at 13 tree.Int ((pointer (sign.Nullable 1) None) ∷ [])) (name_at 18 "p") (Initializer.Value (Expression.Null 22)))
    (Declare (tree.Local (type_at 28 tree.Int ((pointer (sign.Nullable 1) None) ∷ [])) (name_at 33 "q") (Initializer.Value (Expression.Null 37))) (Declare
    (tree.Local (int_at 43) (name_at 47 "x") (Initializer.Value (Expression.Chain (variable_at 51 "p") (MoreLinks Less (variable_at 55 "q") NoLinks))))
    (Execute (returns 58 (number 65 0)) NoItems)))) 68) ∷ [])
    ≡ Some (fault type_rule 51)
form_66 = refl

-- int main() { int x = NULL == NULL; return 0; }
form_67 : first_fault
    ((main_at 0 (Declare (tree.Local (int_at 13) (name_at 17 "x") (Initializer.Value (Expression.Chain (Expression.Null 21) (MoreLinks Equal (Expression.Null
    29) NoLinks)))) (Execute (returns 35 (number 42 0)) NoItems)) 45) ∷ [])
    ≡ Some (fault type_rule 21)
form_67 = refl

-- int main() { int x = !NULL; return 0; }
form_68 : first_fault
    ((main_at 0 (Declare (tree.Local (int_at 13) (name_at 17 "x") (Initializer.Value (Expression.Prefixed 21 Not (Expression.Null 22)))) (Execute (returns 28
    (number 35 0)) NoItems)) 38) ∷ [])
    ≡ Some (fault type_rule 21)
form_68 = refl

-- int main() { int *p = NULL; int x = -p; return 0; }
form_69 : first_fault
    ((main_at 0 (Declare (tree.Local (type_at 13 tree.Int ((pointer (sign.Nullable 1) None) ∷ [])) (name_at 18 "p") (Initializer.Value (Expression.Null 22)))
    (Declare (tree.Local (int_at 28) (name_at 32 "x") (Initializer.Value (Expression.Prefixed 36 Negate (variable_at 37 "p")))) (Execute (returns 40 (number
    47 0)) NoItems))) 50) ∷ [])
    ≡ Some (fault type_rule 36)
form_69 = refl

-- int main() { int x = ~(NULL); return 0; }
form_70 : first_fault
    ((main_at 0 (Declare (tree.Local (int_at 13) (name_at 17 "x") (Initializer.Value (Expression.Prefixed 21 Complement (Expression.Grouped 22 (Expression.Null
    23))))) (Execute (returns 30 (number 37 0)) NoItems)) 40) ∷ [])
    ≡ Some (fault type_rule 21)
form_70 = refl

-- int main() { int x = 1 && NULL; return 0; }
form_71 : first_fault
    ((main_at 0 (Declare (tree.Local (int_at 13) (name_at 17 "x") (Initializer.Value (Expression.AllOf (number 21 1) (MoreExpressions (Expression.Null 26)
    NoExpressions)))) (Execute (returns 32 (number 39 0)) NoItems)) 42) ∷ [])
    ≡ Some (fault type_rule 21)
form_71 = refl

-- int main() { if (NULL) ; return 0; }
form_72 : first_fault
    ((main_at 0 (Execute (Statement.If 13 (Expression.Null 17) (Statement.Empty 23)) (Execute (returns 25 (number 32 0)) NoItems)) 35) ∷ [])
    ≡ Some (fault type_rule 17)
form_72 = refl
