use Rattle.std.proofs.Common.{sym, ◌∙◌}
use Rattle.cyc_types.specs.Bases.{base_type}
use Rattle.cyc_types.proofs.Outermost.{plain_begins, pointer_begins}
use Rattle.cyc_types.proofs.tables.Tables.begins.Goals as goal

pub returns-in-Some : goal.returns-in-Some
returns-in-Some c =
    let of = c.args.of.now in
    c.has_beginning.ensures ∙ sym (pointer_begins c.args.self.now.tags.entries of.layers.items (base_type of.base) c.in-Some.pointer (sym c.in-Some.ensures))

pub returns-in-None : goal.returns-in-None
returns-in-None c =
    let of = c.args.of.now in
    c.base_begins.ensures ∙ sym (plain_begins c.args.self.now.tags.entries of.layers.items (base_type of.base) (sym c.in-None.ensures))
