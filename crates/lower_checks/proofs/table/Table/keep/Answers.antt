use Rattle.std.proofs.Common.{subst, sym}
use Rattle.cyc_tree.specs.Tree as tree
use Rattle.source_meaning.specs.Programs.{world_of}
use Rattle.lower_checks.specs.MemberPlaces.{ArePlaces}
use Rattle.lower_checks.proofs.table.Table.keep.Goals as goal

-- the places are the program's, and all else stays
pub invariant_of-self : goal.invariant_of-self
invariant_of-self c = record {
  functions_are = c.self.invariant.functions_are;
  globals_are = c.self.invariant.globals_are;
  structs_are = c.self.invariant.structs_are;
  members_are = c.self.invariant.members_are;
  places_are = subst (λ (t : tree.Program). ArePlaces (world_of t) c.args.places) (sym c.self.view_is) c.requires.places;
  values = c.self.invariant.values;
  laid = c.self.invariant.laid;
  short = c.self.invariant.short;
  strings_are = c.self.invariant.strings_are;
  behind_globals = c.self.invariant.behind_globals;
}
