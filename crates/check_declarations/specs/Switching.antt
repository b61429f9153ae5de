-- View of code: the union of a `switch`, in code and by the rules.
use Rattle.std.specs.Prelude.{List, None, Option, Some, option_map, ℕ, ◌≡◌}
use Rattle.cyc_types.specs.Regions.{regions_of}
use Rattle.cyc_types.specs.Tables.{tables_of}
use Rattle.source_typing.specs.Scope.{Env}
use Rattle.source_typing.specs.Statements as rules
use Rattle.source_typing.specs.Statements.{parts_of_chosen}
use Rattle.source_typing.specs.Tables.{Part, part_in, parts_in}
use Rattle.source_typing.specs.Types.{StaticType, Union}
use Rattle.check_declarations.specs.declared.members.Chosen.{Chosen}
use Rattle.check_declarations.specs.declared.members.SwitchedUnion.{SwitchedUnion}

abbrev pub chosen_in : Chosen → rules.Chosen
chosen_in c = record { tag = c.tag.now; regions = regions_of c.regions.now }

-- the union that a type is
abbrev pub union_in : StaticType → Option rules.Chosen
union_in (Union tag rs) = Some (record { tag = tag; regions = rs })
union_in t = None

-- ---- its members by name

abbrev pub switched_in : SwitchedUnion → rules.Chosen
switched_in u = chosen_in u.chosen

abbrev pub part_named : Option SwitchedUnion → List ℕ → Option Part
part_named None x = None
part_named (Some u) x = part_in (parts_in (tables_of u.tables.now) u.chosen.tag.now) x

-- each name means the member that it means by the rules
pub record HasParts (g : Env) (u : Option SwitchedUnion) : Type 0 where
  pub parts : (x : List ℕ) → part_named u x ≡ part_in (parts_of_chosen g (option_map switched_in u)) x
