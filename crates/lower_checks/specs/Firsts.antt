-- View of code: what a table of names has.
use Rattle.std.specs.Prelude.{ℕ, List, Option, bytes_eq}
use Rattle.indexmap.specs.IndexMap.{get_by}
use Rattle.lower_checks.specs.declared.first.Firsts.{Firsts}

-- what a table has at a name
abbrev pub first_in : {V : Type 0} → Firsts V → List ℕ → Option V
first_in firsts name = get_by (λ key. bytes_eq name key.now) firsts.by_name
