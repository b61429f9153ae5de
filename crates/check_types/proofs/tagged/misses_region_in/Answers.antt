use Rattle.std.proofs.Common.{ap, sym, ◌∙◌}
use Rattle.std.specs.Prelude.{is_none}
use Rattle.std.specs.List.{list_any}
use Rattle.cyc_tree.specs.View.{name_tree, pointer_tree, type_tree}
use Rattle.check_types.proofs.PlainTypes.{other_misses}
use Rattle.check_types.proofs.Pointers.{missing_in}
use Rattle.check_types.proofs.TagTypes.{tagged_misses}
use Rattle.check_types.proofs.tagged.misses_region_in.Goals as goal

pub returns-in-Some : goal.returns-in-Some
returns-in-Some c g h =
    c.misses_in_tagged.ensures
    ∙ tagged_misses g (type_tree c.args.of.now) (name_tree c.in-Some.field-0.now) c.args.tag (sym c.in-Some.ensures) h

pub returns-in-None : goal.returns-in-None
returns-in-None c g h =
    c.any_misses.ensures
    ∙ ap (list_any (λ p. is_none (pointer_tree p).region)) c.deref.ensures.value
    ∙ missing_in c.args.of.now.pointers.items
    ∙ other_misses g (type_tree c.args.of.now) (sym c.in-None.ensures)
