-- View of code: the numbers of the elements that are being made, by their names: each is the one local of its array's block.
use Rattle.std.specs.Prelude.{ℕ, List, [], ◌∷◌, map}
use Rattle.source_lowering.specs.Lowered.{Named, element_names}
use Rattle.lower_checks.specs.declared.numbers.Number.{Number}

-- their names, the innermost one first
abbrev pub numbers_in : List Number → List (List ℕ)
numbers_in numbers = map (λ (n : Number). n.name.now) numbers

-- the names that are visible within the blocks of these
abbrev pub names_within : List (List ℕ) → List Named → List Named
names_within [] names = names
names_within (n ∷ ns) names = element_names n (names_within ns names)
