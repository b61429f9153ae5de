use Rattle.std.proofs.Common.{◌≡◌, ◌∙◌, ◌<◌, ◌^◌, sym, ap, subst}
use Rattle.std.proofs.lemmas.Result.{IfOk-weaker}
use Rattle.cyc_core.specs.Trees.{program_tree}
use Rattle.cyc_tree.specs.Room.{program_room}
use Rattle.cyc_tree.specs.Tree.{Program}
use Rattle.source_meaning.specs.Programs.{unions_of}
use Rattle.source_lowering.specs.Programs.{program_code}
use Rattle.source_lowering.specs.Lowerable.{HaveFewMembers, IsLowerable}
use Rattle.source_lowering.proofs.bounds.Rooms.{members_have_room}
use Rattle.lower_checks.specs.Mains.{HasMain}
use Rattle.lower_checks.specs.Promise.{IsLoweringOf}
use Rattle.accepted_proof.proofs.Joined.{have_main, lowerable}
use Rattle.lower_checks.proofs.Roomy.{are_roomy}
use Rattle.lower_checks.proofs.Promised.{is_lowering}
use Rattle.lower_checks.proofs.program.lower.Goals as goal

-- the checked program is the tree whose room a word counts
few_members : (program checked : Program) → program ≡ checked → program_room program < 2 ^ 32 → HaveFewMembers (unions_of checked)
few_members program checked same room = subst (λ (p : Program). HaveFewMembers (unions_of p)) same (members_have_room program room)

pub lower_tree-requires : goal.lower_tree-requires
lower_tree-requires c =
    let few = few_members c.program-program.result.now c.args.checked.now c.program-program.ensures.same c.items.ensures.room in
    record {
      room = are_roomy c.program-program.result.now c.items.ensures.room;
      taken = subst IsLowerable (sym c.program-program.ensures.same) (lowerable c.args.checked.now c.program-program.ensures.accepted few);
      main = subst HasMain (sym c.program-program.ensures.same) (have_main c.args.checked.now c.program-program.ensures.accepted);
    }

pub returns-clause-code : goal.returns-clause-code
returns-clause-code c =
    IfOk-weaker c.lower_tree.result (λ core. program_tree core ≡ program_code c.program-program.result.now)
    (λ core. program_tree core ≡ program_code c.args.checked.now) (λ core is. is ∙ ap program_code c.program-program.ensures.same) c.lower_tree.ensures.code

pub returns-clause-few : goal.returns-clause-few
returns-clause-few c =
    let few = few_members c.program-program.result.now c.args.checked.now c.program-program.ensures.same c.items.ensures.room in
    IfOk-weaker c.lower_tree.result (λ core. program_tree core ≡ program_code c.program-program.result.now)
    (λ _. HaveFewMembers (unions_of c.args.checked.now)) (λ core is. few) c.lower_tree.ensures.code

pub returns-clause-promised : goal.returns-clause-promised
returns-clause-promised c =
    let few = few_members c.program-program.result.now c.args.checked.now c.program-program.ensures.same c.items.ensures.room in
    IfOk-weaker c.lower_tree.result (λ core. program_tree core ≡ program_code c.program-program.result.now)
    (λ core. IsLoweringOf c.args.checked.now (program_tree core))
    (λ core is. is_lowering c.args.checked.now (program_tree core) c.program-program.ensures.accepted few (is ∙ ap program_code c.program-program.ensures.same))
    c.lower_tree.ensures.code
