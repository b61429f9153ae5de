use Rattle.std.proofs.Common.{◌≡◌, ap, subst, sym, ◌∙◌}
use Rattle.std.specs.Prelude.{IfOk}
use Rattle.cyc_tree.specs.View.{type_tree}
use Rattle.cyc_types.specs.Types.{static_type}
use Rattle.source_typing.specs.Declarations.{tags_in_scope, taken_from}
use Rattle.source_typing.specs.Verdicts.{after}
use Rattle.source_typing.specs.Written.{written}
use Rattle.check_faults.specs.Verdicts.{short_of, shortened}
use Rattle.check_declarations.proofs.local_types.set_type.Goals as goal

pub returns-then-misses_region_in : goal.returns-then-misses_region_in
returns-then-misses_region_in c g v known suits value =
    let t = type_tree c.args.of.now in
    let w = written (tags_in_scope g) g.names t in
    let e = c.in_ok-written.ensures (tags_in_scope g) (c.local_tag-tag.ensures g known) ∙ ap (λ n. shortened (written (tags_in_scope g) n t)) suits.names in
    let same =
    ap (λ b. after w (taken_from g t.at b v))
    (sym c.if-misses_region_in.true ∙ c.misses_region_in.ensures (tags_in_scope g) (c.local_tag-tag.ensures g known)) in
    subst (λ a. IfOk c.taken_from.result (λ found. short_of static_type found ≡ shortened a)) same
    (c.taken_from.ensures g w v known suits.item e value)

pub returns-else-misses_region_in : goal.returns-else-misses_region_in
returns-else-misses_region_in c g v known suits value =
    let t = type_tree c.args.of.now in
    let w = written (tags_in_scope g) g.names t in
    let e = c.in_ok-written.ensures (tags_in_scope g) (c.local_tag-tag.ensures g known) ∙ ap (λ n. shortened (written (tags_in_scope g) n t)) suits.names in
    let same =
    ap (λ b. after w (taken_from g t.at b v))
    (sym c.if-misses_region_in.false ∙ c.misses_region_in.ensures (tags_in_scope g) (c.local_tag-tag.ensures g known)) in
    subst (λ a. IfOk c.local_type.result (λ found. short_of static_type found ≡ shortened a)) same
    (c.local_type.ensures g w known suits.item e)
