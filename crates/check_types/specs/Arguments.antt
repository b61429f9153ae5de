-- View of code: the region arguments of structs and unions, where they are written or missing.
use Rattle.std.specs.Prelude.{Bool, List, None, Some, false, length, map, nat_eq, replicate, true, ℕ, [], ◌∷◌, ◌++◌}
use Rattle.source_typing.specs.Faults.{Fault, fault, region_rule}
use Rattle.source_typing.specs.Written.{Spot, spot}
use Rattle.cyc_tree.specs.Tree as tree

-- those of a struct's or union's type that are written
abbrev pub written_arguments : tree.Base → List tree.RegionName
written_arguments (tree.Struct tag rs) = rs
written_arguments (tree.Union tag rs) = rs
written_arguments b = []

-- the places of written arguments
abbrev pub named_spots : List tree.RegionName → List Spot
named_spots rs = map (λ r. spot false (Some r)) rs

-- the places of arguments, by the number of the tag's region parameters
abbrev pub spots_by : ℕ → List tree.RegionName → List Spot
spots_by n [] = replicate n (spot false None)
spots_by n (r ∷ rs) = named_spots (r ∷ rs)

-- all arguments are written, or none
abbrev pub count_meets : List tree.RegionName → ℕ → Bool
count_meets [] n = true
count_meets (r ∷ rs) n = nat_eq (length (r ∷ rs)) n

-- of a parameter's arguments the unique region alone has a fault
abbrev pub unique_in : tree.RegionName → List Fault
unique_in (tree.Unique at) = fault region_rule at ∷ []
unique_in (tree.Heap at) = []
unique_in (tree.Named n) = []

abbrev pub unique_faults : List tree.RegionName → List Fault
unique_faults [] = []
unique_faults (r ∷ rs) = unique_in r ++ unique_faults rs
