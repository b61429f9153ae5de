use Rattle.std.proofs.Common.{ap, sym, ◌∙◌}
use Rattle.std.specs.Prelude.{None, Option, Some, option_map}
use Rattle.source_typing.specs.Missing.{filled_from}
use Rattle.source_typing.specs.Types.{StaticType}
use Rattle.cyc_types.specs.Bases.{base_type}
use Rattle.cyc_types.specs.Layers.{pointed}
use Rattle.cyc_types.specs.Types.{static_type}
use Rattle.check_types.specs.Settling.{all_from, reached}
use Rattle.check_types.specs.Written.{partial_base}
use Rattle.check_types.proofs.MissingRegions.{settles}
use Rattle.check_types.proofs.settling.settled.Goals as goal

pub returns-in-Some : goal.returns-in-Some
returns-in-Some c =
    let b = c.in_ok-filled.filled in
    let s : Option StaticType = option_map (λ s. static_type s.now) c.args.source in
    settles c.args.written.base c.args.written.layers.items c.args.at s (Some (pointed (base_type b) c.in-Some.layers.items)) (base_type b)
    (c.in_ok-filled.ensures ∙ ap (λ n. filled_from (partial_base c.args.written.base) (reached n s)) c.len.ensures.value)
    (sym (ap (option_map (λ ls. pointed (base_type b) ls.items)) c.in-Some.is) ∙ c.in_ok-layers.ensures (base_type b)
    ∙ ap (λ ls. all_from ls s (Some (base_type b))) c.as_slice.ensures)

pub returns : goal.returns
returns c =
    let b = c.in_ok-filled.filled in
    let s : Option StaticType = option_map (λ s. static_type s.now) c.args.source in
    settles c.args.written.base c.args.written.layers.items c.args.at s None (base_type b)
    (c.in_ok-filled.ensures ∙ ap (λ n. filled_from (partial_base c.args.written.base) (reached n s)) c.len.ensures.value)
    (sym (ap (option_map (λ ls. pointed (base_type b) ls.items)) c.in-None.is) ∙ c.in_ok-layers.ensures (base_type b)
    ∙ ap (λ ls. all_from ls s (Some (base_type b))) c.as_slice.ensures)
