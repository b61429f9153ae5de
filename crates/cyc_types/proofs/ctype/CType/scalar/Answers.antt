use Rattle.std.proofs.Common.{sym, ap, ◌∙◌}
use Rattle.std.specs.Prelude.{Some}
use Rattle.cyc_types.specs.Bases.{base_type}
use Rattle.cyc_types.proofs.Outermost.{plain_kind, pointer_kind}
use Rattle.cyc_types.proofs.ctype.CType.scalar.Goals as goal

pub returns-in-Some : goal.returns-in-Some
returns-in-Some c =
    let self = c.args.self.now in
    ap (λ k. Some k) c.of_layer.ensures ∙ sym (pointer_kind self.layers.items (base_type self.base) c.in-Some.pointer (sym c.in-Some.ensures))

pub returns-in-None : goal.returns-in-None
returns-in-None c =
    let self = c.args.self.now in
    c.of_base.ensures ∙ sym (plain_kind self.layers.items (base_type self.base) (sym c.in-None.ensures))
