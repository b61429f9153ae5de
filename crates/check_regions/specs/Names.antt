-- View of code: region names in scope with the regions that they name, as the rules list them.
use Rattle.std.specs.Prelude.{None, Option, bytes_eq, map, reverse, ◌≡◌, ℕ, List, [], ◌∷◌}
use Rattle.std.specs.Map.{lookup}
use Rattle.std.specs.Borrow.{Bor}
use Rattle.cyc_types.specs.Regions.{region_of}
use Rattle.cyc_types.specs.declared.region.RegionId.{RegionId}
use Rattle.source_typing.specs.Written.{RegionNamed}

-- a name with its region
abbrev pub Entry : Type 0
Entry = Bor (List ℕ) × RegionId

abbrev pub named : Entry → RegionNamed
named e = record { name = e.0.now; id = region_of e.1 }

-- the latest first
abbrev pub names_of : List Entry → List RegionNamed
names_of es = reverse (map named es)

-- the region of a name
abbrev pub at : List Entry → List ℕ → Option RegionId
at es x = lookup (λ key. bytes_eq x key.now) es

-- no two of one spelling
abbrev pub AreDistinct : List Entry → Type 0
AreDistinct [] = Unit {0}
AreDistinct (e ∷ es) = (at es e.0.now ≡ None) × AreDistinct es
