use Rattle.std.proofs.Common.{◌≡◌, ◌++◌, drop, length, map}
use Rattle.cyc_core.specs.Trees.{body_tree}
use Rattle.core_lines.specs.Selected.{holding, naming}
use Rattle.rv32_select.specs.Places.{surroundings}
use Rattle.rv32_select.specs.Starts.{point_start, starts_of}
use Rattle.rv32_select.proofs.points.points_of.Given as goal

-- where the statements so far begin, and where those that are left do, is where all of them do
abbrev pub invariant-each : goal.invariant-each
invariant-each l = record {
  points : map (point_start l.initial.place.homes.items) l.points.items ++ starts_of (surroundings l.initial.place).homes
      (surroundings l.initial.place).statics (surroundings l.place).names (surroundings l.place).held (body_tree (drop l.statement-index l.statements)) ≡
      starts_of (surroundings l.initial.place).homes (surroundings l.initial.place).statics (surroundings l.initial.place).names
      (surroundings l.initial.place).held (body_tree l.statements);
  same : surroundings l.place ≡ holding (surroundings l.place).held (naming (surroundings l.place).names (surroundings l.initial.place));
  homes : l.place.homes.items ≡ l.initial.place.homes.items;
  many : length l.points.items ≡ l.statement-index;
}
