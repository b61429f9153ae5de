-- Arrays, strings, and the arrays that `new` and `rnew` make.
use Rattle.std.proofs.Common.{◌≡◌, refl, Some, None, [], ◌∷◌}
use Rattle.std.specs.Prelude.{codes}
use Rattle.cyc_tree.specs.declared.expression.Operator.TheVariants.{Add}
use Rattle.cyc_tree.specs.declared.name.Sign.TheVariants as sign
use Rattle.cyc_tree.specs.Tree as tree
use Rattle.cyc_tree.specs.Tree.{Expression, NoLinks, MoreLinks, NoSuffixes, Index, Array, Initializer, Statement, NoItems, Declare, Execute, Constant, Initial}
use Rattle.source_meaning.proofs.Trees.{pointer}
use Rattle.source_typing.specs.Faults.{fault, name_rule}
use Rattle.source_typing.specs.Answers.{first_fault}
use Rattle.source_typing.proofs.samples.SampleTrees.{name_at, type_at, int_at, number, variable_at, returns, global, main_at}

-- int main() { int a[3]; a[1] = 4; return a[1] + numelts(a); }
array_1 : first_fault
    ((main_at 0 (Declare (tree.Local (int_at 13) (name_at 17 "a") (Initializer.Elements 3)) (Execute (Statement.Run (Expression.Assign (Expression.Suffixed
    (variable_at 23 "a") (Index (number 25 1) NoSuffixes)) (number 30 4))) (Execute (returns 33 (Expression.Chain (Expression.Suffixed (variable_at 40 "a")
    (Index (number 42 1) NoSuffixes)) (MoreLinks Add (Expression.NumElts 47 (variable_at 55 "a")) NoLinks))) NoItems))) 59) ∷ [])
    ≡ None
array_1 = refl

-- int main() { return nope[1]; }
array_2 : first_fault
    ((main_at 0 (Execute (returns 13 (Expression.Suffixed (variable_at 20 "nope") (Index (number 25 1) NoSuffixes))) NoItems) 29) ∷ [])
    ≡ Some (fault name_rule 20)
array_2 = refl

-- int main() { return "a"[0]; }
array_3 : first_fault
    ((main_at 0 (Execute (returns 13 (Expression.Suffixed (Expression.Text 20 (codes "a")) (Index (number 24 0) NoSuffixes))) NoItems) 28) ∷ [])
    ≡ None
array_3 = refl

-- char ?s = "ab"; int main() { return s[1]; }
array_4 : first_fault
    ((tree.GlobalItem (global (type_at 0 tree.Char ((pointer sign.Fat None) ∷ [])) (name_at 6 "s") (Initial.Given (Constant.Text 10 (codes "ab"))))) ∷ (main_at
    16 (Execute (returns 29 (Expression.Suffixed (variable_at 36 "s") (Index (number 38 1) NoSuffixes))) NoItems) 42) ∷ [])
    ≡ None
array_4 = refl

-- int main() { int ?p = new {for i < 3 : nope}; return 0; }
array_5 : first_fault
    ((main_at 0 (Declare (tree.Local (type_at 13 tree.Int ((pointer sign.Fat None) ∷ [])) (name_at 18 "p") (Initializer.Value (Expression.New 22 (Array (name_at
    31 "i") (number 35 3) (variable_at 39 "nope"))))) (Execute (returns 46 (number 53 0)) NoItems)) 56) ∷ [])
    ≡ Some (fault name_rule 39)
array_5 = refl

-- int main() { unsigned ?p = new {for i < 3 : i}; return p[2]; }
array_6 : first_fault
    ((main_at 0 (Declare (tree.Local (type_at 13 tree.Unsigned ((pointer sign.Fat None) ∷ [])) (name_at 23 "p") (Initializer.Value (Expression.New 27 (Array
    (name_at 36 "i") (number 40 3) (variable_at 44 "i"))))) (Execute (returns 48 (Expression.Suffixed (variable_at 55 "p") (Index (number 57 2) NoSuffixes)))
    NoItems)) 61) ∷ [])
    ≡ None
array_6 = refl
