-- View of code: the members of a program's unions, by the tags of these and by their names.
use Rattle.std.specs.Prelude.{◌≡◌, ℕ, suc, List, [], ◌∷◌, Option, Some, None, bytes_eq, option_map, if◌then◌else◌}
use Rattle.indexmap.specs.IndexMap.{get_by}
use Rattle.source_meaning.specs.Shapes.{Layout, Part, Shape, parts_of}
use Rattle.lower_checks.specs.Firsts.{first_in}
use Rattle.lower_checks.specs.Views.{shape_tree}
use Rattle.lower_checks.specs.declared.union_members.UnionMembers.{UnionMembers}
use Rattle.lower_checks.specs.declared.union_members.Chosen.{Chosen}
use Rattle.lower_checks.specs.declared.first.Firsts.{Firsts}

-- a member of a union: its number, and the shape of its type
pub record NumberedShape : Type 0 where
  pub number : ℕ
  pub shape : Shape

abbrev pub chosen_tree : Chosen → NumberedShape
chosen_tree c = record { number = c.number; shape = shape_tree c.shape }

-- the first member of a name, where the members have numbers from k on
abbrev pub member_from : List Part → ℕ → List ℕ → Option NumberedShape
member_from [] k name = None
member_from (p ∷ ps) k name = (if bytes_eq p.name name then Some (record { number = k; shape = p.shape }) else member_from ps (suc k) name)

-- what a table has at a name
abbrev pub member_in : Firsts Chosen → List ℕ → Option NumberedShape
member_in table name = option_map chosen_tree (first_in table name)

-- a table has these members, and no others
abbrev pub HasMembers : Firsts Chosen → List Part → Type 0
HasMembers table ps = (name : List ℕ) → member_in table name ≡ member_from ps 0 name

-- the table of a tag, if it has one
abbrev pub members_at : UnionMembers → List ℕ → Option (Firsts Chosen)
members_at members tag = get_by (λ key. bytes_eq tag key.now) members.by_tag

-- a tag has a table of all members, or else those that are left are all
abbrev pub AreMet : Option (Firsts Chosen) → (rest all : List Part) → Type 0
AreMet None rest all = (rest ≡ all)
AreMet (Some table) rest all = HasMembers table all

-- a tag has a table of all members, or there are none
abbrev pub HasTable : Option (Firsts Chosen) → List Part → Type 0
HasTable found all = AreMet found [] all

-- each tag has the members of the first of these unions that has the tag
abbrev pub AreMembers : UnionMembers → List Layout → Type 0
AreMembers members unions = (tag : List ℕ) → HasTable (members_at members tag) (parts_of unions tag)
