use Rattle.std.proofs.Common.{◌≡◌}
use Rattle.cyc_types.specs.Cells.{cells_found}
use Rattle.cyc_types.specs.Laying.{AreWithin, waiting_steps, whole_cells}
use Rattle.cyc_types.specs.Types.{static_type}
use Rattle.cyc_types.proofs.tables.Tables.cells.Given as goal

-- what is found, with what is still to come, is the whole
abbrev pub invariant-each : goal.invariant-each
invariant-each l = record {
  whole : whole_cells l.self.tags.entries l.laying ≡ cells_found l.self.tags.entries (static_type l.of);
  within : AreWithin l.self.tags.entries l.laying.waiting.items;
}

abbrev pub decreases-each : goal.decreases-each
decreases-each l = waiting_steps l.self.tags.entries l.laying.waiting.items
