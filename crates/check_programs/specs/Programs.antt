-- View of code: the parts of a program's faults.
use Rattle.std.specs.Prelude.{Bool, List, Option, is_some, ℕ, ◌≡◌}
use Rattle.cyc_tree.specs.Tree.{Item}
use Rattle.source_typing.specs.Faults.{earliest}
use Rattle.source_typing.specs.Programs.{is_seen, second_names, size_faults, statics_from}
use Rattle.source_typing.specs.Tables.{Tables}
use Rattle.check_faults.specs.Faults.{faults_of, first_of}
use Rattle.check_tables.specs.Structs.{KnowsStructs}
use Rattle.check_programs.specs.Totals.{counted}
use Rattle.check_tables.specs.declared.structs.Structs.{Structs}
use Rattle.check_programs.specs.declared.total.Total.{Total}
use Rattle.check_scopes.specs.Globals.{global_meaning}
use Rattle.check_scopes.specs.declared.globals.Globals.{Globals}
use Rattle.check_faults.specs.declared.fault.Fault as code

-- these names, and no others, have a meaning
abbrev pub AreSeen : List (List ℕ) → Globals → Type 0
AreSeen names s = (x : List ℕ) → is_seen names x ≡ is_some (global_meaning s x)

-- what was found of second items of a name, with what is left: the rest of the items, after names that are seen
pub record SecondsLeft (first : List (List ℕ)) (items : List Item) (found : Option code.Fault) (rest : List Item) (seen : Globals) : Type 0 where
  pub names : List (List ℕ)
  pub are : AreSeen names seen
  pub is : first_of (faults_of found) (earliest (second_names names rest)) ≡ earliest (second_names first items)

-- what is left of the sizes after what was counted: the rest of the items, of which the first has this index, after names that are seen
pub record SizesLeft (s : Structs) (items : List Item) (total : Total) (index : ℕ) (rest : List Item) (seen : Globals) : Type 0 where
  pub names : List (List ℕ)
  pub are : AreSeen names seen
  pub is : (lenient : Bool) (g : Tables) → KnowsStructs s g
      → counted total (statics_from lenient g index names rest) ≡ earliest (size_faults lenient g items)
