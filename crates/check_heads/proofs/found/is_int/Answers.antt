use Rattle.std.proofs.Common.{ap, sym, ◌∙◌}
use Rattle.std.specs.Prelude.{◌&&◌}
use Rattle.cyc_types.specs.Bases.{base_type}
use Rattle.check_heads.proofs.HeadFaults.{int_kind, not_plain}
use Rattle.check_heads.specs.Reading.{is_int}
use Rattle.check_heads.proofs.found.is_int.Goals as goal

pub returns-else-is_empty : goal.returns-else-is_empty
returns-else-is_empty c =
    let of = c.args.of.now in
    c.if-is_empty.false
    ∙ sym (int_kind of ∙ ap (λ b. b && is_int (base_type of.base)) (not_plain of.layers.items (sym c.is_empty.ensures ∙ c.if-is_empty.false)))
