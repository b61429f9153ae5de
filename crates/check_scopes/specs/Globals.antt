-- View of code: what the functions and globals of a program are in code.
use Rattle.std.specs.Prelude.{List, Option, bytes_eq, ℕ}
use Rattle.indexmap.specs.IndexMap.{get_by}
use Rattle.check_scopes.specs.declared.globals.Globals.{Globals}
use Rattle.check_scopes.specs.declared.meaning.Meaning.{Meaning}

abbrev pub global_meaning : Globals → List ℕ → Option Meaning
global_meaning s x = get_by (λ key. bytes_eq x key.now) s.entries
