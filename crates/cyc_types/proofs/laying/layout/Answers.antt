use Rattle.std.proofs.Common.{arith, subst, ◌+◌, ◌≤◌, ◌∙◌}
use Rattle.cyc_types.specs.Measures.{extent_of}
use Rattle.cyc_types.specs.Types.{static_type}
use Rattle.source_typing.specs.Extents.{most_bytes}
use Rattle.cyc_types.specs.Laying.{EndsIn}
use Rattle.cyc_types.proofs.InCells.{cells_fit}
use Rattle.cyc_types.proofs.InLayouts.{extent_known}
use Rattle.cyc_types.proofs.laying.layout.Goals as goal

pub returns-clause-cells : goal.returns-clause-cells
returns-clause-cells c =
    let tables = c.args.tables.now in
    c.in_ok-cells.ensures ∙ cells_fit tables.tags.entries tables.known (static_type c.args.of.now) (extent_of c.in-Some.extent) c.in-Some.ensures

pub cells-requires : goal.cells-requires
cells-requires c =
    let tables = c.args.tables.now in
    let fits = c.in-Some.extent.fits in
    let within : 0 + c.in-Some.extent.size ≤ most_bytes = omega (arith, fits) in
    subst (EndsIn 0) (c.in-Some.ensures ∙ extent_known tables.tags.entries tables.known (static_type c.args.of.now)) within
