use Rattle.std.proofs.Common.{sym, ap, ◌∙◌}
use Rattle.std.specs.Prelude.{Some}
use Rattle.cyc_types.specs.Bases.{base_type}
use Rattle.cyc_types.proofs.Outermost.{plain_measure, pointer_measure}
use Rattle.cyc_types.proofs.tables.Tables.measure.Goals as goal

pub returns-in-Some : goal.returns-in-Some
returns-in-Some c =
    let of = c.args.of.now in
    ap (λ e. Some e) c.extent.ensures
    ∙ sym (pointer_measure c.args.self.now.tags.entries of.layers.items (base_type of.base) c.in-Some.pointer (sym c.in-Some.ensures))

pub returns-in-None : goal.returns-in-None
returns-in-None c =
    let of = c.args.of.now in
    c.base_extent.ensures ∙ sym (plain_measure c.args.self.now.tags.entries of.layers.items (base_type of.base) (sym c.in-None.ensures))
