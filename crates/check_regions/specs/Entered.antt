-- View of code: the names that are in scope where a function's body begins.
use Rattle.std.specs.Prelude.{Bool, List, suc, zero, ℕ, ◌++◌, [], ◌∷◌}
use Rattle.source_typing.specs.Regions.{Level}
use Rattle.check_regions.specs.Reached.{has}
use Rattle.check_regions.specs.declared.begun.Begun.{Begun}
use Rattle.check_regions.specs.declared.begun.Begun.TheVariants.{Variable}

-- a region variable, by the marks of the live ones, of those that outlive the heap, and of those that outlive later stack regions
abbrev pub variable_at : List Bool → List Bool → List Bool → ℕ → Begun
variable_at live over_heap over_later k = Variable (has live (Level k)) (has over_heap (Level k)) (has over_later (Level k))

-- the first ones of the given number
abbrev pub variables_at : List Bool → List Bool → List Bool → ℕ → List Begun
variables_at live over_heap over_later zero = []
variables_at live over_heap over_later (suc n) = variables_at live over_heap over_later n ++ variable_at live over_heap over_later n ∷ []
