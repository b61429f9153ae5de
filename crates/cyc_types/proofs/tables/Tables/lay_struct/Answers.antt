use Rattle.std.proofs.Common.{ap, map, refl, sym}
use Rattle.cyc_types.specs.Cells.{moved_by}
use Rattle.cyc_types.specs.declared.laying.Waiting.{Waiting}
use Rattle.cyc_types.proofs.Laid.{goes_in, goes_nowhere, union_cells}
use Rattle.cyc_types.proofs.StructCells.{no_struct_cells}
use Rattle.cyc_types.proofs.tables.Tables.lay_struct.Goals as goal

pub returns-in_ok-push-in-Some : goal.returns-in_ok-push-in-Some
returns-in_ok-push-in-Some c =
    let tables = c.args.self.now in
    let w : Waiting = record { at = c.args.at; so_far = c.none.result; members = c.deref.result } in
    goes_in tables.tags.entries tables.known c.args.tag.now c.in-Some.known.now (sym c.in-Some.ensures) c.if-not-known.true
    c.args.laying.now (record { cells = c.args.laying.now.cells; waiting = c.push.new.self }) w c.none.ensures c.deref.ensures.value c.requires refl
    c.in_ok-push-in-Some.ensures.items

pub returns-else-not-known : goal.returns-else-not-known
returns-else-not-known c =
    let tables = c.args.self.now in
    goes_nowhere tables.tags.entries _ _ c.args.laying.now
    (ap (map (moved_by c.args.at))
    (union_cells tables.tags.entries tables.known c.args.tag.now c.in-Some.known.now (sym c.in-Some.ensures) c.if-not-known.false))

pub returns-in-None : goal.returns-in-None
returns-in-None c =
    goes_nowhere c.args.self.now.tags.entries _ _ c.args.laying.now
    (ap (map (moved_by c.args.at)) (no_struct_cells c.args.self.now.tags.entries c.args.tag.now (sym c.in-None.ensures)))
