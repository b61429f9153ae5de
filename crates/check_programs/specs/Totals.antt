-- View of code: the bytes of a program's data, counted one object after another.
use Rattle.std.specs.Prelude.{List, Option, Some, drop, map, nat_le, ℕ, ◌≡◌, ◌++◌}
use Rattle.source_meaning.specs.Strings.{Literal}
use Rattle.source_typing.specs.Extents.{most_static_bytes}
use Rattle.source_typing.specs.Faults.{Fault, earliest, fault, size_rule}
use Rattle.source_typing.specs.Globals.{Static, if_passed, static_string, total_faults}
use Rattle.check_programs.specs.declared.total.Total.{Total}
use Rattle.check_programs.specs.declared.total.Total.TheVariants as code

-- the fault of what was counted, and of more objects after it
abbrev pub counted : Total → List Static → Option Fault
counted (code.Bytes n) more = earliest (total_faults n more)
counted (code.Passed at) more = Some (fault size_rule at)

-- the fault of a number of bytes, where the last object counted stands at this place, and of more objects after it
abbrev pub counted_at : ℕ → ℕ → List Static → Option Fault
counted_at n at more = earliest (if_passed (nat_le n most_static_bytes) at (total_faults n more))

-- Between the two these objects were counted, and nothing else.
abbrev pub Adds : Total → Total → List Static → Type 0
Adds old new objects = (more : List Static) → counted new more ≡ counted old (objects ++ more)

-- these strings
abbrev pub Counts : Total → Total → List Literal → Type 0
Counts old new strings = Adds old new (map static_string strings)

-- what was counted, with the strings of the rest of some phrases, is what was there before, with the strings of all
abbrev pub CountsTo : {X : Type 0} → (List X → List Literal) → Total → List X → ℕ → Total → Type 0
CountsTo strings old all i now =
    (more : List Static) → counted now (map static_string (strings (drop i all)) ++ more) ≡ counted old (map static_string (strings all) ++ more)
