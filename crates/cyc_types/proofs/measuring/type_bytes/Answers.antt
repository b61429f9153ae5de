use Rattle.std.proofs.Common.{sym, ap, ◌∙◌}
use Rattle.cyc_types.specs.Bases.{base_type}
use Rattle.cyc_types.proofs.Outermost.{plain_scalar, pointer_scalar}
use Rattle.cyc_types.proofs.measuring.type_bytes.Goals as goal

pub returns-in-Some : goal.returns-in-Some
returns-in-Some c =
    let of = c.args.of.now in
    c.size.ensures ∙ ap (λ e. e.size) c.extent.ensures ∙ sym (pointer_scalar of.layers.items (base_type of.base) c.in-Some.pointer (sym c.in-Some.ensures))

pub returns-in-None : goal.returns-in-None
returns-in-None c =
    let of = c.args.of.now in
    c.base_bytes.ensures ∙ sym (plain_scalar of.layers.items (base_type of.base) (sym c.in-None.ensures))
