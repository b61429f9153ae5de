-- Programs that break no rule of names, types, regions, effects and sizes.
use Rattle.std.proofs.Common.{◌≡◌, refl, false, Some, None, [], ◌∷◌}
use Rattle.cyc_tree.specs.declared.expression.Prefix.TheVariants.{Dereference, AddressOf}
use Rattle.cyc_tree.specs.declared.name.Sign.TheVariants as sign
use Rattle.cyc_tree.specs.Tree as tree
use Rattle.cyc_tree.specs.Tree.{Expression, NoExpressions, MoreExpressions, NoSuffixes, Arrow, Initializer, Statement, NoItems, Declare, Execute}
use Rattle.source_meaning.proofs.Trees.{pointer}
use Rattle.source_typing.specs.Programs.{typing_fault}
use Rattle.source_typing.proofs.samples.SampleTrees.{name_at, region_at, type_at, int_at, number, variable_at, returns, member, structure, bound, routine}
use Rattle.source_typing.proofs.samples.SampleTrees.{main_at, main_returns}

-- int f(int *`r *`s p) { return **p; } int main() { int x; int *p = &x; { int *q = p; int **z = &p; f(&q); f(z); } return 0; }
accepted_31 : typing_fault false
    ((tree.FunctionItem (routine (int_at 0) (name_at 4 "f") ((member (type_at 6 tree.Int ((pointer (sign.Nullable 1) (Some (region_at 11 "r"))) ∷ (pointer
    (sign.Nullable 1) (Some (region_at 15 "s"))) ∷ [])) (name_at 18 "p")) ∷ []) None [] (Execute (Statement.Return 23 (Some (Expression.Prefixed 30 Dereference
    (Expression.Prefixed 31 Dereference (variable_at 32 "p"))))) NoItems) 35)) ∷ (main_at 37 (Declare (tree.Local (int_at 50) (name_at 54 "x")
    Initializer.Unset) (Declare (tree.Local (type_at 57 tree.Int ((pointer (sign.Nullable 1) None) ∷ [])) (name_at 62 "p")
    (Initializer.Value (Expression.Prefixed
    66 AddressOf (variable_at 67 "x"))))
    (Execute (Statement.Block 70 (Declare (tree.Local (type_at 72 tree.Int ((pointer (sign.Nullable 1) None) ∷ [])) (name_at
    77 "q") (Initializer.Value (variable_at 81 "p")))
    (Declare (tree.Local (type_at 84 tree.Int ((pointer (sign.Nullable 1) None) ∷ (pointer (sign.Nullable 1) None) ∷
    [])) (name_at 90 "z") (Initializer.Value (Expression.Prefixed 94 AddressOf (variable_at 95 "p")))) (Execute (Statement.Run (Expression.Call (name_at 98
    "f") (MoreExpressions (Expression.Prefixed 100 AddressOf (variable_at 101 "q")) NoExpressions))) (Execute (Statement.Run (Expression.Call (name_at 105
    "f") (MoreExpressions (variable_at 107 "z") NoExpressions))) NoItems))))) (Execute (returns 113 (number 120 0)) NoItems)))) 123) ∷ [])
    ≡ None
accepted_31 = refl

-- struct S<`r> { int *`r p; }; void f(struct S<`r> *`s a, int *`r b) { a->p = b; } int main() { int x; int y; struct S s = S(&x); f(&s, &y); return 0; }
accepted_32 : typing_fault false
    ((tree.StructItem (structure 0 (name_at 7 "S") ((region_at 9 "r") ∷ [])
    ((member (type_at 15 tree.Int ((pointer (sign.Nullable 1) (Some (region_at 20 "r"))) ∷
    [])) (name_at 23 "p")) ∷ []))) ∷ (tree.FunctionItem (routine (type_at 29 tree.Void []) (name_at 34 "f") ((member (type_at 36 (tree.Struct (name_at 43 "S")
    ((region_at 45 "r") ∷ [])) ((pointer (sign.Nullable 1) (Some (region_at 50 "s"))) ∷ [])) (name_at 53 "a")) ∷ (member (type_at 56 tree.Int ((pointer
    (sign.Nullable 1) (Some (region_at 61 "r"))) ∷ [])) (name_at 64 "b")) ∷ []) None [] (Execute (Statement.Run (Expression.Assign (Expression.Suffixed
    (variable_at 69 "a") (Arrow (name_at 72 "p") NoSuffixes)) (variable_at 76 "b"))) NoItems) 79)) ∷ (main_at 81 (Declare (tree.Local (int_at 94) (name_at 98
    "x") Initializer.Unset) (Declare (tree.Local (int_at 101) (name_at 105 "y") Initializer.Unset) (Declare (tree.Local (type_at 108 (tree.Struct (name_at 115
    "S") []) []) (name_at 117 "s") (Initializer.Value (Expression.Call (name_at 121 "S") (MoreExpressions (Expression.Prefixed 123 AddressOf (variable_at 124
    "x")) NoExpressions)))) (Execute (Statement.Run (Expression.Call (name_at 128 "f") (MoreExpressions (Expression.Prefixed 130 AddressOf (variable_at 131
    "s")) (MoreExpressions (Expression.Prefixed 134 AddressOf (variable_at 135 "y")) NoExpressions)))) (Execute (returns 139 (number 146 0)) NoItems))))) 149)
    ∷ [])
    ≡ None
accepted_32 = refl

-- int main() { int *`U p = NULL; int *`U *q = &p; *q = NULL; return 0; }
accepted_33 : typing_fault false
    ((main_at 0 (Declare (tree.Local (type_at 13 tree.Int ((pointer (sign.Nullable 1) (Some (tree.Unique 18))) ∷ [])) (name_at 21 "p") (Initializer.Value
    (Expression.Null 25))) (Declare
    (tree.Local (type_at 31 tree.Int ((pointer (sign.Nullable 1) (Some (tree.Unique 36))) ∷ (pointer (sign.Nullable 1) None) ∷ []))
    (name_at 40 "q") (Initializer.Value (Expression.Prefixed 44 AddressOf (variable_at 45 "p")))) (Execute (Statement.Run (Expression.Assign
    (Expression.Prefixed 48 Dereference (variable_at 49 "q")) (Expression.Null 53))) (Execute (returns 59 (number 66 0)) NoItems)))) 69) ∷ [])
    ≡ None
accepted_33 = refl

-- int f(uregion_key_t<`r> k, int *`r p, int *`s q; {`s} : `s > `r) { return *q; } int main() { return 0; }
accepted_34 : typing_fault false
    ((tree.FunctionItem (routine (int_at 0) (name_at 4 "f") ((member (type_at 6 (tree.Key (region_at 20 "r")) []) (name_at 24 "k")) ∷ (member (type_at 27
    tree.Int ((pointer (sign.Nullable 1) (Some (region_at 32 "r"))) ∷ [])) (name_at 35 "p")) ∷ (member (type_at 38 tree.Int ((pointer (sign.Nullable 1) (Some
    (region_at 43 "s"))) ∷ [])) (name_at 46 "q")) ∷ []) (Some ((region_at 50 "s") ∷ [])) ((bound (region_at 56 "s") (region_at 61 "r")) ∷ []) (Execute
    (returns 67 (Expression.Prefixed 74 Dereference (variable_at 75 "q"))) NoItems) 78)) ∷ (main_returns 80) ∷ [])
    ≡ None
accepted_34 = refl
