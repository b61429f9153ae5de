use Rattle.std.proofs.Common.{◌∙◌, sym, refl, subst, List, [], ◌∷◌, ◌++◌, map}
use Rattle.core_meaning.specs.Core as core
use Rattle.cyc_core.specs.Trees.{statement_tree}
use Rattle.cyc_tree.specs.View.{name_tree}
use Rattle.source_lowering.specs.Lowered.{all_of, get_code}
use Rattle.source_lowering.specs.Programs.{unique_free}
use Rattle.lower_checks.specs.Scoped.{names_in, world_in}
use Rattle.lower_checks.specs.Writing.{IsEmitted}
use Rattle.lower_checks.proofs.Writing.{emit_emit, part_emitted}
use Rattle.lower_checks.proofs.freeing.lower_free.Goals as goal

-- what is read, and then a choice
pub returns : goal.returns
returns c sound =
    let w = world_in c.args.scope.now in
    let names = names_in c.args.scope.now in
    let to = c.args.to.0 in
    let a = c.args.body.now in
    let b = c.lower_get.new.body in
    let g = c.begin-outer.new.self in
    let x = c.operation.new.self in
    let f = c.end-free.new.self in
    let z = c.branch-body.new.self in
    let choice : List core.Statement → List core.Statement = λ ss. core.If to (all_of ss) core.NoStatements ∷ [] in
    let part = map statement_tree c.end-free.result.items in
    let branch = subst (λ xs. IsEmitted f z (core.If to (all_of part) (all_of (map statement_tree xs)) ∷ [])) c.new.ensures.items
    (c.branch-body.ensures sound) in
    let ended = c.end-free.ensures.ended in
    let freed = c.operation.ensures (sym ended.failed ∙ branch.sound) in
    let begun = c.begin-outer.ensures.begun in
    let read = c.lower_get.ensures.code (sym begun.failed ∙ freed.sound) in
    let text = c.deref.result.now in
    let read_is = subst (λ name. IsEmitted a b (get_code w names name to)) c.deref.ensures.value read in
    let free =
    part_emitted b g x f z (map statement_tree c.begin-outer.result.items) part (core.Do (core.UniqueFree to) ∷ []) choice
    begun c.begin-outer.ensures.aside freed
    ended c.end-free.ensures.part branch in
    emit_emit a b z (get_code w names (name_tree c.args.pointer.now).text to) (unique_free to)
    (get_code w names (name_tree c.args.pointer.now).text to ++ unique_free to) read_is free refl
