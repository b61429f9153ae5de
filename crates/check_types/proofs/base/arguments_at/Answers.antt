use Rattle.std.proofs.Common.{ap, sym, ◌∙◌}
use Rattle.std.specs.Prelude.{option_map}
use Rattle.cyc_types.specs.Bases.{base_type}
use Rattle.cyc_types.specs.Types.{static_type}
use Rattle.source_typing.specs.Missing.{arguments_of}
use Rattle.check_types.specs.Settling.{reached}
use Rattle.check_types.proofs.MissingRegions.{base_reached, none_at, none_of_none, none_reached}
use Rattle.check_types.proofs.base.arguments_at.Goals as goal

pub returns-then-len-depth : goal.returns-then-len-depth
returns-then-len-depth c =
    let of = c.in-Some.of.now in
    let tag = c.args.tag.now in
    let n = c.args.depth in
    c.arguments_of.ensures
    ∙ ap (λ s. arguments_of c.args.union tag s)
    (sym (base_reached n of.layers.items (base_type of.base) (sym c.len.ensures.value ∙ c.if-len-depth.true)))
    ∙ ap (λ o. arguments_of c.args.union tag (reached n (option_map (λ s. static_type s.now) o))) (sym c.in-Some.is)

pub returns-else-len-depth : goal.returns-else-len-depth
returns-else-len-depth c =
    let of = c.in-Some.of.now in
    let tag = c.args.tag.now in
    let n = c.args.depth in
    sym (none_at c.args.union n of.layers.items of.base tag
    (λ e. c.if-len-depth.false (c.len.ensures.value ∙ e)))
    ∙ ap (λ o. arguments_of c.args.union tag (reached n (option_map (λ s. static_type s.now) o))) (sym c.in-Some.is)

pub returns-in-None : goal.returns-in-None
returns-in-None c =
    let tag = c.args.tag.now in
    let n = c.args.depth in
    sym (none_of_none c.args.union tag)
    ∙ ap (λ s. arguments_of c.args.union tag s) (sym (none_reached n))
    ∙ ap (λ o. arguments_of c.args.union tag (reached n (option_map (λ s. static_type s.now) o))) (sym c.in-None.is)
