-- A run that never ends: it is Running at each amount of fuel.
use Rattle.std.proofs.Common.{◌≡◌, ℕ, zero, suc, List, [], ◌∷◌, refl}
use Rattle.std.specs.Prelude.{codes}
use Rattle.cyc_tree.specs.Tree as tree
use Rattle.cyc_tree.specs.Tree.{Statement, NoItems, Program}
use Rattle.cyc_words.specs.Events.{Called, SourceEnding}
use Rattle.source_meaning.specs.Programs.{source}
use Rattle.source_meaning.proofs.Trees.{named, number, typed, ◌▸◌, function, gives}

-- int main() { while (1) ; }
abbrev endless : Program
endless =
    tree.FunctionItem (function (typed tree.Int []) (named "main") [] (
    Statement.While 0 (number 1) (Statement.Empty 0) ▸
    NoItems)) ∷ []

pub endless_runs : (n : ℕ) (input : List ℕ) → source endless input n ≡ gives (Called (codes "main") ∷ []) SourceEnding.Running
endless_runs zero input = refl
endless_runs (suc n) input = endless_runs n input
