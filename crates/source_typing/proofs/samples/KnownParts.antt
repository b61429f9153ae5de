-- Makings of which a part isn't checked, since its name's declaration has a fault: they are judged by the parts that are known.
use Rattle.std.proofs.Common.{◌≡◌, refl, false, Some, [], ◌∷◌}
use Rattle.cyc_tree.specs.declared.expression.Prefix.TheVariants.{AddressOf}
use Rattle.cyc_tree.specs.Tree as tree
use Rattle.cyc_tree.specs.Tree.{Array, Declare, Execute, Expression, Initial, Initializer, NoItems, One, Statement}
use Rattle.source_typing.specs.Faults.{fault, type_rule}
use Rattle.source_typing.specs.Programs.{typing_fault}
use Rattle.source_typing.proofs.samples.SampleTrees.{global, int_at, main_at, name_at, number, returns, type_at, variable_at}

-- int main() { int x; new {for i < &x : bad}; return 0; } void bad;
known_1 : typing_fault false
    ((main_at 0 (Declare (tree.Local (int_at 13) (name_at 17 "x") Initializer.Unset)
    (Execute (Statement.Run (Expression.New 20 (Array (name_at 29 "i") (Expression.Prefixed 33 AddressOf (variable_at 34 "x")) (variable_at 38 "bad"))))
    (Execute (returns 44 (number 51 0)) NoItems))) 54) ∷ (tree.GlobalItem (global (type_at 56 tree.Void []) (name_at 61 "bad") Initial.Unset)) ∷ [])
    ≡ Some (fault type_rule 20)
known_1 = refl

-- int main() { rnew(unique_region) {for i < bad : 1}; return 0; } void bad;
known_2 : typing_fault false
    ((main_at 0 (Execute (Statement.Run (Expression.NewIn 13 (Expression.UniqueRegion 18) (Array (name_at 38 "i") (variable_at 42 "bad") (number 48 1))))
    (Execute (returns 52 (number 59 0)) NoItems)) 62) ∷ (tree.GlobalItem (global (type_at 64 tree.Void []) (name_at 69 "bad") Initial.Unset)) ∷ [])
    ≡ Some (fault type_rule 13)
known_2 = refl

-- int main() { rnew(bad) NULL; return 0; } void bad;
known_3 : typing_fault false
    ((main_at 0 (Execute (Statement.Run (Expression.NewIn 13 (variable_at 18 "bad") (One (Expression.Null 23)))) (Execute (returns 29 (number 36 0)) NoItems))
    39) ∷ (tree.GlobalItem (global (type_at 41 tree.Void []) (name_at 46 "bad") Initial.Unset)) ∷ [])
    ≡ Some (fault type_rule 13)
known_3 = refl

-- int main() { new {for i < bad : NULL}; return 0; } void bad;
known_4 : typing_fault false
    ((main_at 0 (Execute (Statement.Run (Expression.New 13 (Array (name_at 22 "i") (variable_at 26 "bad") (Expression.Null 32))))
    (Execute (returns 39 (number 46 0)) NoItems)) 49) ∷ (tree.GlobalItem (global (type_at 51 tree.Void []) (name_at 56 "bad") Initial.Unset)) ∷ [])
    ≡ Some (fault type_rule 13)
known_4 = refl

-- int main() { new {for i < bad : 1}; return 0; } void bad;
known_5 : typing_fault false
    ((main_at 0 (Execute (Statement.Run (Expression.New 13 (Array (name_at 22 "i") (variable_at 26 "bad") (number 32 1))))
    (Execute (returns 36 (number 43 0)) NoItems)) 46) ∷ (tree.GlobalItem (global (type_at 48 tree.Void []) (name_at 53 "bad") Initial.Unset)) ∷ [])
    ≡ Some (fault type_rule 48)
known_5 = refl

-- int main() { rnew(1) bad; return 0; } void bad;
known_6 : typing_fault false
    ((main_at 0 (Execute (Statement.Run (Expression.NewIn 13 (number 18 1) (One (variable_at 21 "bad")))) (Execute (returns 26 (number 33 0)) NoItems)) 36)
    ∷ (tree.GlobalItem (global (type_at 38 tree.Void []) (name_at 43 "bad") Initial.Unset)) ∷ [])
    ≡ Some (fault type_rule 13)
known_6 = refl
