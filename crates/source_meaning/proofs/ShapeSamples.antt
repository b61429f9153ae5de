-- What small programs do, computed: conversions between types of which one leads elsewhere, and assignments without a value
use Rattle.std.proofs.Common.{◌≡◌, Some, None, [], ◌∷◌, refl}
use Rattle.std.specs.Prelude.{codes}
use Rattle.cyc_tree.specs.declared.name.Sign.TheVariants.{Nullable}
use Rattle.cyc_tree.specs.declared.expression.Operator.TheVariants.{Equal}
use Rattle.cyc_tree.specs.declared.expression.Prefix.TheVariants.{Dereference, AddressOf}
use Rattle.cyc_tree.specs.Tree as tree
use Rattle.cyc_tree.specs.Tree.{Expression, MoreLinks, NoLinks, Initializer, Statement, NoItems, Program}
use Rattle.cyc_words.specs.Events.{Called, Returned, SourceEnding}
use Rattle.source_meaning.specs.Programs.{source}
use Rattle.source_meaning.proofs.Trees.{named, variable, number, pointer, typed, ◌▸◌, ◌▹◌, function, gives}

-- int main() { char c = 97; char *p = &c; int *q = p; return *q; }
abbrev other_pointee : Program
other_pointee =
    tree.FunctionItem (function (typed tree.Int []) (named "main") [] (
    (tree.Local (typed tree.Char []) (named "c") (Initializer.Value (number 97))) ▹
    (tree.Local (typed tree.Char ((pointer (Nullable 1) None) ∷ [])) (named "p") (Initializer.Value (Expression.Prefixed 0 AddressOf (variable "c")))) ▹
    (tree.Local (typed tree.Int ((pointer (Nullable 1) None) ∷ [])) (named "q") (Initializer.Value (variable "p"))) ▹
    (Statement.Return 0 (Some (Expression.Prefixed 0 Dereference (variable "q")))) ▸
    NoItems)) ∷ []

other_pointee_runs : source other_pointee [] 0 ≡ gives (Called (codes "main") ∷ []) SourceEnding.Stuck
other_pointee_runs = refl

-- the same as an assignment: int main() { char c = 97; char *p = &c; int *q = NULL; q = p; return 0; }
abbrev other_pointee_assigned : Program
other_pointee_assigned =
    tree.FunctionItem (function (typed tree.Int []) (named "main") [] (
    (tree.Local (typed tree.Char []) (named "c") (Initializer.Value (number 97))) ▹
    (tree.Local (typed tree.Char ((pointer (Nullable 1) None) ∷ [])) (named "p") (Initializer.Value (Expression.Prefixed 0 AddressOf (variable "c")))) ▹
    (tree.Local (typed tree.Int ((pointer (Nullable 1) None) ∷ [])) (named "q") (Initializer.Value (Expression.Null 0))) ▹
    (Statement.Run (Expression.Assign (variable "q") (variable "p"))) ▸
    (Statement.Return 0 (Some (number 0))) ▸
    NoItems)) ∷ []

other_pointee_assigned_runs : source other_pointee_assigned [] 0 ≡ gives (Called (codes "main") ∷ []) SourceEnding.Stuck
other_pointee_assigned_runs = refl

-- NULL leads nowhere, and passes: int main() { char *p = NULL; int *q = p; return q == NULL; }
abbrev null_passes : Program
null_passes =
    tree.FunctionItem (function (typed tree.Int []) (named "main") [] (
    (tree.Local (typed tree.Char ((pointer (Nullable 1) None) ∷ [])) (named "p") (Initializer.Value (Expression.Null 0))) ▹
    (tree.Local (typed tree.Int ((pointer (Nullable 1) None) ∷ [])) (named "q") (Initializer.Value (variable "p"))) ▹
    (Statement.Return 0 (Some (Expression.Chain (variable "q") (MoreLinks Equal (Expression.Null 0) NoLinks)))) ▸
    NoItems)) ∷ []

null_passes_runs : source null_passes [] 0 ≡ gives (Called (codes "main") ∷ Returned (codes "main") ∷ []) (SourceEnding.Ended 1)
null_passes_runs = refl

-- nothing becomes unique: int main() { int x = 1; int *p = &x; int *`U q = p; return 0; }
abbrev becomes_unique : Program
becomes_unique =
    tree.FunctionItem (function (typed tree.Int []) (named "main") [] (
    (tree.Local (typed tree.Int []) (named "x") (Initializer.Value (number 1))) ▹
    (tree.Local (typed tree.Int ((pointer (Nullable 1) None) ∷ [])) (named "p") (Initializer.Value (Expression.Prefixed 0 AddressOf (variable "x")))) ▹
    (tree.Local (typed tree.Int ((pointer (Nullable 1) (Some (tree.Unique 0))) ∷ [])) (named "q") (Initializer.Value (variable "p"))) ▹
    (Statement.Return 0 (Some (number 0))) ▸
    NoItems)) ∷ []

becomes_unique_runs : source becomes_unique [] 0 ≡ gives (Called (codes "main") ∷ []) SourceEnding.Stuck
becomes_unique_runs = refl

-- what is exchanged is of one type, also where both are NULL: int main() { int *p = NULL; char *q = NULL; p :=: q; return 0; }
abbrev others_exchanged : Program
others_exchanged =
    tree.FunctionItem (function (typed tree.Int []) (named "main") [] (
    (tree.Local (typed tree.Int ((pointer (Nullable 1) None) ∷ [])) (named "p") (Initializer.Value (Expression.Null 0))) ▹
    (tree.Local (typed tree.Char ((pointer (Nullable 1) None) ∷ [])) (named "q") (Initializer.Value (Expression.Null 0))) ▹
    (Statement.Exchange (variable "p") (variable "q")) ▸
    (Statement.Return 0 (Some (number 0))) ▸
    NoItems)) ∷ []

others_exchanged_runs : source others_exchanged [] 0 ≡ gives (Called (codes "main") ∷ []) SourceEnding.Stuck
others_exchanged_runs = refl

-- An assignment of a unique pointer has no value: int main() { int *`U p = NULL; int *`U q = NULL; return (q = p) == NULL; }
abbrev unique_assignment : Program
unique_assignment =
    tree.FunctionItem (function (typed tree.Int []) (named "main") [] (
    (tree.Local (typed tree.Int ((pointer (Nullable 1) (Some (tree.Unique 0))) ∷ [])) (named "p") (Initializer.Value (Expression.Null 0))) ▹
    (tree.Local (typed tree.Int ((pointer (Nullable 1) (Some (tree.Unique 0))) ∷ [])) (named "q") (Initializer.Value (Expression.Null 0))) ▹
    (Statement.Return 0 (Some (Expression.Chain (Expression.Grouped 0 (Expression.Assign (variable "q") (variable "p")))
    (MoreLinks Equal (Expression.Null 0) NoLinks)))) ▸
    NoItems)) ∷ []

unique_assignment_runs : source unique_assignment [] 0 ≡ gives (Called (codes "main") ∷ []) SourceEnding.Stuck
unique_assignment_runs = refl
