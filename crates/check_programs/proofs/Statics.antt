-- What globals add to the data.
use Rattle.std.proofs.Common.{◌≡◌, ℕ, ◌∷◌, ◌++◌, List, map, ap, ◌∙◌}
use Rattle.source_meaning.specs.Sizes.{rounded_up}
use Rattle.source_meaning.specs.Strings.{initial_strings}
use Rattle.source_typing.specs.Globals.{Static, global_size, item_statics, static_string}
use Rattle.source_typing.specs.Scope.{Env}
use Rattle.check_programs.specs.Totals.{Adds, Counts, counted}
use Rattle.check_programs.specs.declared.total.Total.{Total}
use Rattle.cyc_tree.specs.Tree as tree

-- the object, and then its string
pub global_adds : (x : tree.Global) (g : Env) (old object new : Total) (n : ℕ) → n ≡ rounded_up (global_size g x) 8
    → ((more : List Static) → counted object more ≡ counted old ((x.of.at, n) ∷ more)) → Counts object new (initial_strings x.initial)
    → Adds old new (item_statics g (tree.GlobalItem x))
global_adds x g old object new n is one strings more =
    let rest = map static_string (initial_strings x.initial) ++ more in
    strings more ∙ one rest ∙ ap (λ m. counted old ((x.of.at, m) ∷ rest)) is
