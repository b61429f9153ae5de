use Rattle.std.proofs.Common.{ap, refl, sym, ◌∙◌, ◌++◌, ◌∷◌, []}
use Rattle.cyc_types.specs.Bases.{base_type}
use Rattle.cyc_types.specs.Cells.{cells_of, found_cells, scalar_at}
use Rattle.cyc_types.specs.Scalars.{layer_kind}
use Rattle.cyc_types.proofs.Laid.{goes_one}
use Rattle.cyc_types.proofs.Outermost.{pointer_cells}
use Rattle.cyc_types.proofs.tables.Tables.lay.Goals as goal

pub returns-in_ok-push_scalar-in-Some : goal.returns-in_ok-push_scalar-in-Some
returns-in_ok-push_scalar-in-Some c =
    let of = c.args.of.now in
    let old = c.args.laying.now in
    goes_one c.args.self.now.tags.entries (scalar_at c.args.at (layer_kind c.in-Some.pointer)) _ _ old
    (record { cells = c.push_scalar.new.cells; waiting = old.waiting })
    (pointer_cells (found_cells c.args.self.now.tags.entries) of.layers.items (base_type of.base) c.in-Some.pointer c.args.at (sym c.in-Some.ensures))
    (c.in_ok-push_scalar-in-Some.ensures ∙ ap (λ k. cells_of old.cells.items ++ scalar_at c.args.at k ∷ []) c.of_layer.ensures)
    refl
