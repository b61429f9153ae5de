-- View of code: where the members of a program's structs lie, by the tags of these and by their names.
use Rattle.std.specs.Prelude.{◌≡◌, ℕ, ◌+◌, List, [], ◌∷◌, Option, Some, None, bytes_eq, option_map, IfSome, if◌then◌else◌, length}
use Rattle.indexmap.specs.IndexMap.{get_by}
use Rattle.source_meaning.specs.Shapes.{Part, parts_of}
use Rattle.source_meaning.specs.Sizes.{rounded_up}
use Rattle.source_meaning.specs.Steps.{World}
use Rattle.source_meaning.specs.Conversions.{cells_of}
use Rattle.source_lowering.specs.Layouts.{extent_of}
use Rattle.lower_checks.specs.Firsts.{first_in}
use Rattle.lower_checks.specs.Reaching.{Place, reached_place}
use Rattle.lower_checks.specs.declared.first.Firsts.{Firsts}
use Rattle.lower_checks.specs.declared.member.Reached.{Reached}
use Rattle.lower_checks.specs.declared.member_places.MemberPlaces.{MemberPlaces}

-- the place of the first part of a name, behind so many cells and bytes
abbrev pub place_from : World → List Part → (before so_far : ℕ) → List ℕ → Option Place
place_from w [] before so_far name = None
place_from w (p ∷ ps) before so_far name =
    let at = rounded_up so_far (extent_of w p.shape).align in
    (if bytes_eq p.name name then Some (record { shape = p.shape; cells = before; bytes = at })
    else place_from w ps (before + length (cells_of w p.shape)) (at + (extent_of w p.shape).size) name)

-- what a table has at a name
abbrev pub place_in : Firsts Reached → List ℕ → Option Place
place_in table name = option_map reached_place (first_in table name)

-- a table has the places of these parts
abbrev pub HasPlaces : World → List Part → Firsts Reached → Type 0
HasPlaces w ps table = (name : List ℕ) → place_in table name ≡ place_from w ps 0 0 name

-- the table of a tag, if it has one
abbrev pub places_at : MemberPlaces → List ℕ → Option (Firsts Reached)
places_at places tag = get_by (λ key. bytes_eq tag key.now) places.by_tag

-- what it has at a name
abbrev pub place_by : Option (Firsts Reached) → List ℕ → Option Reached
place_by None name = None
place_by (Some table) name = first_in table name

-- each table has the places of the members of its tag's struct
abbrev pub ArePlaces : World → MemberPlaces → Type 0
ArePlaces w places = (tag : List ℕ) → IfSome (places_at places tag) (λ table. HasPlaces w (parts_of w.structs tag) table)
