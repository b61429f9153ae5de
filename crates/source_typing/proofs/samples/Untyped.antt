-- Variables of no known type where a function, a union or a struct is wanted. One whose own declaration is in order is a variable, whatever its type is; a
-- use of one whose declaration has a fault isn't checked.
use Rattle.std.proofs.Common.{◌≡◌, ℕ, ◌+◌, refl, false, Some, None, [], ◌∷◌}
use Rattle.cyc_tree.specs.declared.name.Sign.TheVariants as sign
use Rattle.cyc_tree.specs.Tree as tree
use Rattle.cyc_tree.specs.Tree.{Declare, Execute, Expression, Initial, Initializer, Item, MoreExpressions, NoExpressions, NoItems, Statement}
use Rattle.source_meaning.proofs.Trees.{pointer}
use Rattle.source_typing.specs.Faults.{fault, type_rule}
use Rattle.source_typing.specs.Programs.{typing_fault}
use Rattle.source_typing.proofs.samples.SampleTrees.{global, int_at, main_at, member, name_at, number, returns, routine, structure, type_at}

-- struct S { void x; };
abbrev at_fault : ℕ → Item
at_fault at = tree.StructItem (structure at (name_at (at + 7) "S") [] (member (type_at (at + 11) tree.Void []) (name_at (at + 16) "x") ∷ []))

-- int main() { g(1); return 0; } struct S g; struct S { void x; };
untyped_1 : typing_fault false
    ((main_at 0 (Execute (Statement.Run (Expression.Call (name_at 13 "g") (MoreExpressions (number 15 1) NoExpressions)))
    (Execute (returns 19 (number 26 0)) NoItems)) 29)
    ∷ (tree.GlobalItem (global (type_at 31 (tree.Struct (name_at 38 "S") []) []) (name_at 40 "g") Initial.Unset)) ∷ at_fault 43 ∷ [])
    ≡ Some (fault type_rule 13)
untyped_1 = refl

-- int main() { g(1); return 0; } void g;
untyped_2 : typing_fault false
    ((main_at 0 (Execute (Statement.Run (Expression.Call (name_at 13 "g") (MoreExpressions (number 15 1) NoExpressions)))
    (Execute (returns 19 (number 26 0)) NoItems)) 29)
    ∷ (tree.GlobalItem (global (type_at 31 tree.Void []) (name_at 36 "g") Initial.Unset)) ∷ [])
    ≡ Some (fault type_rule 31)
untyped_2 = refl

-- int main() { g.m(1); return 0; } struct S g; struct S { void x; };
untyped_3 : typing_fault false
    ((main_at 0 (Execute (Statement.Run (Expression.MakeUnion (name_at 13 "g") (name_at 15 "m") (number 17 1)))
    (Execute (returns 21 (number 28 0)) NoItems)) 31)
    ∷ (tree.GlobalItem (global (type_at 33 (tree.Struct (name_at 40 "S") []) []) (name_at 42 "g") Initial.Unset)) ∷ at_fault 45 ∷ [])
    ≡ Some (fault type_rule 13)
untyped_3 = refl

-- int main() { struct g *x; return 0; } struct S g; struct S { void x; };
untyped_4 : typing_fault false
    ((main_at 0 (Declare (tree.Local (type_at 13 (tree.Struct (name_at 20 "g") []) ((pointer (sign.Nullable 1) None) ∷ [])) (name_at 23 "x") Initializer.Unset)
    (Execute (returns 26 (number 33 0)) NoItems)) 36) ∷ (tree.GlobalItem (global (type_at 38 (tree.Struct (name_at 45 "S") []) []) (name_at 47 "g")
    Initial.Unset)) ∷ at_fault 50 ∷ [])
    ≡ Some (fault type_rule 20)
untyped_4 = refl

-- int main() { struct S *p; p(1); return 0; } struct S { void x; };
untyped_5 : typing_fault false
    ((main_at 0 (Declare (tree.Local (type_at 13 (tree.Struct (name_at 20 "S") []) ((pointer (sign.Nullable 1) None) ∷ [])) (name_at 23 "p") Initializer.Unset)
    (Execute (Statement.Run (Expression.Call (name_at 26 "p") (MoreExpressions (number 28 1) NoExpressions))) (Execute (returns 32 (number 39 0)) NoItems))) 42)
    ∷ at_fault 44 ∷ [])
    ≡ Some (fault type_rule 26)
untyped_5 = refl

-- void f(struct S *p) { p(1); } int main() { return 0; } struct S { void x; };
untyped_6 : typing_fault false
    ((tree.FunctionItem (routine (type_at 0 tree.Void []) (name_at 5 "f") (member (type_at 7 (tree.Struct (name_at 14 "S") [])
    ((pointer (sign.Nullable 1) None) ∷ [])) (name_at 17 "p") ∷ []) None []
    (Execute (Statement.Run (Expression.Call (name_at 22 "p") (MoreExpressions (number 24 1) NoExpressions))) NoItems) 28))
    ∷ (main_at 30 (Execute (returns 43 (number 50 0)) NoItems) 53) ∷ at_fault 55 ∷ [])
    ≡ Some (fault type_rule 22)
untyped_6 = refl
