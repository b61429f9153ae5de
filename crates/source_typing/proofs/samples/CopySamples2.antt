-- What would be copied, and can not be.
use Rattle.std.proofs.Common.{◌≡◌, refl, Some, None, [], ◌∷◌}
use Rattle.cyc_tree.specs.declared.name.Sign.TheVariants as sign
use Rattle.cyc_tree.specs.Tree as tree
use Rattle.cyc_tree.specs.Tree.{Expression, NoExpressions, MoreExpressions, NoSuffixes, Arrow, One, Initializer, Statement, NoItems, Declare, Execute}
use Rattle.source_meaning.proofs.Trees.{pointer}
use Rattle.source_typing.specs.Faults.{fault, type_rule}
use Rattle.source_typing.specs.Answers.{first_fault}
use Rattle.source_typing.proofs.samples.SampleTrees.{name_at, type_at, int_at, number, variable_at, returns, member, structure, routine, main_at}

-- no call stands in the places of an exchange
-- struct B { int *`U p; int x; }; struct B @g(struct B *`U b) { ufree(b); return new B(NULL, 2); } int main() { struct B *`U b = rnew(unique_region) B(NULL,
-- 1); b->p :=: g(b)->p; return 0; }
copy_flow_35 : first_fault
    ((tree.StructItem (structure 0 (name_at 7 "B") []
    ((member (type_at 11 tree.Int ((pointer (sign.Nullable 1) (Some (tree.Unique 16))) ∷ [])) (name_at 19 "p")) ∷
    (member (int_at 22) (name_at 26 "x")) ∷ []))) ∷ (tree.FunctionItem (routine (type_at 32 (tree.Struct (name_at 39 "B") []) ((pointer (sign.NotNull 1) None) ∷
    [])) (name_at 42 "g") ((member (type_at 44 (tree.Struct (name_at 51 "B") []) ((pointer (sign.Nullable 1) (Some (tree.Unique 54))) ∷ [])) (name_at 57 "b")) ∷
    []) None [] (Execute (Statement.FreeUnique 62 (name_at 68 "b")) (Execute (Statement.Return 72 (Some (Expression.New 79 (One (Expression.Call (name_at 83
    "B") (MoreExpressions (Expression.Null 85) (MoreExpressions (number 91 2) NoExpressions))))))) NoItems)) 95)) ∷ (main_at 97 (Declare (tree.Local (type_at
    110 (tree.Struct (name_at 117 "B") []) ((pointer (sign.Nullable 1) (Some (tree.Unique 120))) ∷ [])) (name_at 123 "b")
    (Initializer.Value (Expression.NewIn 127
    (Expression.UniqueRegion 132) (One (Expression.Call (name_at 147 "B") (MoreExpressions (Expression.Null 149) (MoreExpressions (number 155 1)
    NoExpressions))))))) (Execute (Statement.Exchange (Expression.Suffixed (variable_at 159 "b") (Arrow (name_at 162 "p") NoSuffixes)) (Expression.Suffixed
    (Expression.Call (name_at 168 "g") (MoreExpressions (variable_at 170 "b") NoExpressions)) (Arrow (name_at 174 "p") NoSuffixes))) (Execute (returns 177
    (number 184 0)) NoItems))) 187) ∷ [])
    ≡ Some (fault type_rule 168)
copy_flow_35 = refl
