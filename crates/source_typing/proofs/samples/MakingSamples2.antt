-- Making and calls.
use Rattle.std.proofs.Common.{◌≡◌, refl, Some, None, [], ◌∷◌}
use Rattle.cyc_tree.specs.declared.expression.Prefix.TheVariants.{AddressOf}
use Rattle.cyc_tree.specs.declared.name.Sign.TheVariants as sign
use Rattle.cyc_tree.specs.Tree as tree
use Rattle.cyc_tree.specs.Tree.{Expression, NoExpressions, MoreExpressions, Initializer, Statement, NoItems, Declare, Execute}
use Rattle.source_meaning.proofs.Trees.{pointer}
use Rattle.source_typing.specs.Faults.{fault, type_rule, outlives_rule, effect_rule}
use Rattle.source_typing.specs.Answers.{first_fault}
use Rattle.source_typing.proofs.samples.SampleTrees.{name_at, region_at, type_at, int_at, number, variable_at, returns, member, structure, bound, routine}
use Rattle.source_typing.proofs.samples.SampleTrees.{main_at, main_returns}

-- @tagged union U { int a; char b; }; int main() { union U x = U.a(NULL); return 0; }
making_37 : first_fault
    ((tree.UnionItem (structure 0 (name_at 14 "U") [] ((member (int_at 18) (name_at 22 "a")) ∷ (member (type_at 25 tree.Char []) (name_at 30 "b")) ∷ []))) ∷
    (main_at 36 (Declare (tree.Local (type_at 49 (tree.Union (name_at 55 "U") []) []) (name_at 57 "x") (Initializer.Value (Expression.MakeUnion (name_at 61
    "U") (name_at 63 "a") (Expression.Null 65)))) (Execute (returns 72 (number 79 0)) NoItems)) 82) ∷ [])
    ≡ Some (fault type_rule 65)
making_37 = refl

-- @tagged union U<`r> { int *`r a; }; int main() { int x; union U<`H> u = U.a(&x); return 0; }
making_38 : first_fault
    ((tree.UnionItem (structure 0 (name_at 14 "U") ((region_at 16 "r") ∷ [])
    ((member (type_at 22 tree.Int ((pointer (sign.Nullable 1) (Some (region_at 27 "r"))) ∷
    [])) (name_at 30 "a")) ∷ []))) ∷ (main_at 36 (Declare (tree.Local (int_at 49) (name_at 53 "x") Initializer.Unset) (Declare (tree.Local (type_at 56
    (tree.Union (name_at 62 "U") ((tree.Heap 64) ∷ [])) []) (name_at 68 "u") (Initializer.Value (Expression.MakeUnion (name_at 72 "U") (name_at 74 "a")
    (Expression.Prefixed 76 AddressOf (variable_at 77 "x"))))) (Execute (returns 81 (number 88 0)) NoItems))) 91) ∷ [])
    ≡ Some (fault outlives_rule 72)
making_38 = refl

-- only the regions of the effect have to be live
-- void g(int *`a p, int *`b q; {`b}) { } int f(int *`c p, int *`d q; {`c}) { g(q, p); g(p, q); return 0; } int main() { return 0; }
making_39 : first_fault
    ((tree.FunctionItem (routine (type_at 0 tree.Void []) (name_at 5 "g") ((member (type_at 7 tree.Int ((pointer (sign.Nullable 1) (Some (region_at 12 "a"))) ∷
    [])) (name_at 15 "p")) ∷ (member (type_at 18 tree.Int ((pointer (sign.Nullable 1) (Some (region_at 23 "b"))) ∷ [])) (name_at 26 "q")) ∷ [])
    (Some ((region_at
    30 "b") ∷ [])) [] NoItems 37)) ∷ (tree.FunctionItem (routine (int_at 39) (name_at 43 "f") ((member (type_at 45 tree.Int ((pointer (sign.Nullable 1) (Some
    (region_at 50 "c"))) ∷ [])) (name_at 53 "p"))
    ∷ (member (type_at 56 tree.Int ((pointer (sign.Nullable 1) (Some (region_at 61 "d"))) ∷ [])) (name_at 64 "q")) ∷
    []) (Some ((region_at 68 "c") ∷ [])) [] (Execute (Statement.Run (Expression.Call (name_at 75 "g") (MoreExpressions (variable_at 77 "q") (MoreExpressions
    (variable_at 80 "p") NoExpressions)))) (Execute (Statement.Run (Expression.Call (name_at 84 "g") (MoreExpressions (variable_at 86 "p") (MoreExpressions
    (variable_at 89 "q") NoExpressions)))) (Execute (returns 93 (number 100 0)) NoItems))) 103)) ∷ (main_returns 105) ∷ [])
    ≡ Some (fault effect_rule 84)
making_39 = refl

-- bounds reach through bounds
-- void g(int *`a p, int *`b q : `a > `b) { } void f(int *`c p, int *`d q, int *`e r : `c > `d, `d > `e) { g(p, r); g(r, p); } int main() { return 0; }
making_40 : first_fault
    ((tree.FunctionItem (routine (type_at 0 tree.Void []) (name_at 5 "g") ((member (type_at 7 tree.Int ((pointer (sign.Nullable 1) (Some (region_at 12 "a"))) ∷
    [])) (name_at 15 "p")) ∷ (member (type_at 18 tree.Int ((pointer (sign.Nullable 1) (Some (region_at 23 "b"))) ∷ [])) (name_at 26 "q")) ∷ []) None ((bound
    (region_at 30 "a") (region_at 35 "b")) ∷ []) NoItems 41)) ∷ (tree.FunctionItem (routine (type_at 43 tree.Void []) (name_at 48 "f") ((member (type_at 50
    tree.Int ((pointer (sign.Nullable 1) (Some (region_at 55 "c"))) ∷ [])) (name_at 58 "p")) ∷ (member (type_at 61 tree.Int ((pointer (sign.Nullable 1) (Some
    (region_at 66 "d"))) ∷ [])) (name_at 69 "q"))
    ∷ (member (type_at 72 tree.Int ((pointer (sign.Nullable 1) (Some (region_at 77 "e"))) ∷ [])) (name_at 80 "r")) ∷
    []) None ((bound (region_at 84 "c") (region_at 89 "d")) ∷ (bound (region_at 93 "d") (region_at 98 "e")) ∷ []) (Execute (Statement.Run (Expression.Call
    (name_at 104 "g") (MoreExpressions (variable_at 106 "p") (MoreExpressions (variable_at 109 "r") NoExpressions)))) (Execute (Statement.Run (Expression.Call
    (name_at 113 "g") (MoreExpressions (variable_at 115 "r") (MoreExpressions (variable_at 118 "p") NoExpressions)))) NoItems)) 122)) ∷ (main_returns 124) ∷
    [])
    ≡ Some (fault outlives_rule 113)
making_40 = refl
