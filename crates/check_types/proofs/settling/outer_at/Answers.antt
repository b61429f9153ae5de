use Rattle.std.proofs.Common.{◌-◌, ap, length, sym, take, ◌∙◌}
use Rattle.std.specs.Prelude.{option_map}
use Rattle.source_typing.specs.Missing.{outer_region}
use Rattle.cyc_types.specs.Layers.{outermost}
use Rattle.cyc_types.specs.Types.{static_type}
use Rattle.check_types.specs.Settling.{outer_found, reached}
use Rattle.check_types.proofs.MissingRegions.{none_reached, outer_reached}
use Rattle.check_types.proofs.settling.outer_at.Goals as goal

pub returns-in-Some : goal.returns-in-Some
returns-in-Some c =
    let of = c.in-Some.of.now in
    ap outer_found (c.outer_of.ensures ∙ ap (λ ls. outermost (take (length ls - c.args.depth) ls)) c.pointers.ensures)
    ∙ outer_reached c.args.depth of.layers.items of.base
    ∙ ap (λ o. outer_region (reached c.args.depth (option_map (λ s. static_type s.now) o))) (sym c.in-Some.is)

pub returns-in-None : goal.returns-in-None
returns-in-None c =
    ap outer_region (sym (none_reached c.args.depth))
    ∙ ap (λ o. outer_region (reached c.args.depth (option_map (λ s. static_type s.now) o))) (sym c.in-None.is)
