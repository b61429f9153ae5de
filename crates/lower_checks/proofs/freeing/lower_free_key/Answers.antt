use Rattle.std.proofs.Common.{refl, subst, [], ◌∷◌, ◌++◌}
use Rattle.core_meaning.specs.Core as core
use Rattle.cyc_tree.specs.View.{name_tree}
use Rattle.source_lowering.specs.Lowered.{get_code}
use Rattle.lower_checks.specs.Scoped.{names_in, world_in}
use Rattle.lower_checks.specs.Writing.{IsEmitted}
use Rattle.lower_checks.proofs.Writing.{emit_emit}
use Rattle.lower_checks.proofs.freeing.lower_free_key.Goals as goal

-- what is read, and then an operation
pub returns : goal.returns
returns c sound =
    let w = world_in c.args.scope.now in
    let names = names_in c.args.scope.now in
    let to = c.args.to.0 in
    let a = c.args.body.now in
    let b = c.lower_get.new.body in
    let code = get_code w names (name_tree c.args.key.now).text to in
    let free = core.Do (core.KeyFree to) ∷ [] in
    let two = c.operation.ensures sound in
    let one = subst (λ name. IsEmitted a b (get_code w names name to)) c.deref.ensures.value (c.lower_get.ensures.code two.sound) in
    emit_emit a b c.operation.new.self code free (code ++ free) one two refl
