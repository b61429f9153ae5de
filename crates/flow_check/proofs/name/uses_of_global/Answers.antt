use Rattle.std.proofs.Common.{None, ap, false, subst, sym, ◌∙◌, ◌≡◌}
use Rattle.std.specs.Prelude.{option_map}
use Rattle.cyc_tree.specs.View.{name_tree}
use Rattle.flow_summaries.specs.Passages.{unchanged}
use Rattle.flow_summaries.specs.Uses.{number_of}
use Rattle.source_typing.specs.Moves.{is_moved}
use Rattle.source_typing.specs.Places.{variable}
use Rattle.source_typing.specs.Scope.{find_local, meant}
use Rattle.check_faults.specs.Verdicts.{short_of}
use Rattle.check_scopes.specs.Knows.{means_in}
use Rattle.check_scopes.specs.Linked.{position_of}
use Rattle.check_scopes.specs.Means.{Means, meaning_of}
use Rattle.check_operators.specs.Values.{value_of}
use Rattle.flow_effects.specs.Used.{IsUsed}
use Rattle.flow_check.proofs.NameUses.{global_uses, local_known, means_known, no_local}
use Rattle.flow_check.proofs.Shortly.{moved_by}
use Rattle.flow_check.proofs.name.uses_of_global.Goals as goal

pub returns : goal.returns
returns c = λ g a h counted none.
    let s = c.args.scope.now in
    let x = name_tree c.args.name.now in
    let moves = c.is_moved-moves.result in
    let hidden : find_local g.locals x.text ≡ None =
    no_local g x (position_of s.locals x.text) (find_local g.locals x.text) (number_of g.locals x.text) (local_known s a g x.text h false None counted none) in
    let means : Means (meant g x.text) (option_map meaning_of c.meaning.result) =
    subst (λ m. Means (meant g x.text) m) (sym (c.meaning.ensures.is ∙ ap (means_in s) c.deref.ensures.value)) (means_known s a g x.text h counted) in
    let moved : moves ≡ is_moved g (variable x.at (meant g x.text)) =
    c.is_moved-moves.ensures g h.scope.sees.tags
    ∙ moved_by g (variable x.at (meant g x.text)) (short_of value_of c.in_ok-judged.judged) (c.in_ok-judged.ensures (meant g x.text) means) in
    subst (λ u. IsUsed c.args.how u c.place.result) (global_uses g x moves hidden moved) (c.place.ensures unchanged c.nothing.ensures)
