-- View of code: what the tables of names have.
use Rattle.std.specs.Prelude.{◌≡◌, ℕ, suc, List, [], ◌∷◌, Option, Some, None, option_map, length, bytes_eq, if◌then◌else◌}
use Rattle.cyc_tree.specs.Tree as tree
use Rattle.cyc_tree.specs.View.{function_tree}
use Rattle.source_meaning.specs.Places.{bound_to}
use Rattle.source_meaning.specs.Programs.{globals_from, structs_from, unions_of, world_of}
use Rattle.source_meaning.specs.Steps.{Entity}
use Rattle.source_meaning.specs.Strings.{Literal, program_strings}
use Rattle.source_lowering.specs.Lowerable.{AreStrings, AreStructs, AreUnions}
use Rattle.lower_checks.specs.UnionMembers.{AreMembers}
use Rattle.lower_checks.specs.Firsts.{first_in}
use Rattle.lower_checks.specs.MemberPlaces.{ArePlaces}
use Rattle.lower_checks.specs.Structs.{Knows}
use Rattle.lower_checks.specs.Views.{found_entity}
use Rattle.lower_checks.specs.declared.union_members.UnionMembers.{UnionMembers}
use Rattle.lower_checks.specs.declared.first.Firsts.{Firsts}
use Rattle.lower_checks.specs.declared.layouts.Structs.{Structs}
use Rattle.lower_checks.specs.declared.member_places.MemberPlaces.{MemberPlaces}
use Rattle.lower_checks.specs.declared.table.Callee.{Callee}
use Rattle.lower_checks.specs.declared.table.Found.{Found}

-- a function, with its number among the functions
pub record Numbered : Type 0 where
  pub function : tree.Function
  pub number : ℕ

abbrev pub callee_tree : Callee → Numbered
callee_tree c = record { function = function_tree c.function.now; number = c.number }

-- the first function of a name, where the functions have numbers from k on
abbrev pub first_function : List tree.Item → ℕ → List ℕ → Option Numbered
first_function [] k name = None
first_function (tree.FunctionItem f ∷ items) k name =
    (if bytes_eq f.name.text name then Some (record { function = f; number = k }) else first_function items (suc k) name)
first_function (_ ∷ items) k name = first_function items k name

-- the function that a table has at a name
abbrev pub function_in : Firsts Callee → List ℕ → Option Numbered
function_in functions name = option_map callee_tree (first_in functions name)

-- the global that a table has at a name
abbrev pub global_in : Firsts Found → List ℕ → Option Entity
global_in globals name = option_map found_entity (first_in globals name)

-- The tables have the first function and the first global of each name, the structs with the unions and their members, where members of structs lie, and
-- the strings, whose objects lie behind those of the globals. Its unions and structs are laid out one after the other, each struct in at most 4,096 bytes,
-- and a word counts each string.
pub record AreTables (p : tree.Program) (functions : Firsts Callee) (globals : Firsts Found) (structs : Structs) (members : UnionMembers)
    (places : MemberPlaces) (strings : List Literal) (behind : ℕ) : Type 0
  where
    pub functions_are : (name : List ℕ) → function_in functions name ≡ first_function p 0 name
    pub globals_are : (name : List ℕ) → global_in globals name ≡ bound_to (globals_from p 0) name
    pub structs_are : Knows structs (unions_of p) (structs_from p [])
    pub members_are : AreMembers members (unions_of p)
    pub places_are : ArePlaces (world_of p) places
    pub values : AreUnions (unions_of p)
    pub laid : AreStructs (unions_of p) (structs_from p [])
    pub short : AreStrings (program_strings p)
    pub strings_are : strings ≡ program_strings p
    pub behind_globals : behind ≡ length (globals_from p 0)
