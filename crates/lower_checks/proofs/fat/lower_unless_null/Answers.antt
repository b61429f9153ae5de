use Rattle.std.proofs.Common.{◌∙◌, sym, subst, List, [], ◌∷◌, map}
use Rattle.core_meaning.specs.Core as core
use Rattle.cyc_core.specs.Trees.{statement_tree}
use Rattle.source_meaning.specs.Programs.{world_of}
use Rattle.source_lowering.specs.Lowered.{all_of}
use Rattle.source_lowering.specs.Operators.{enough_code}
use Rattle.lower_checks.specs.Views.{shape_tree}
use Rattle.lower_checks.specs.Writing.{IsEmitted}
use Rattle.lower_checks.proofs.Writing.{part_emitted}
use Rattle.lower_checks.proofs.fat.lower_unless_null.Goals as goal

pub returns : goal.returns
returns c sound =
    let to = c.args.pointer.0 in
    let f = c.end-these.new.self in
    let z = c.branch-body.new.self in
    let choice : List core.Statement → List core.Statement = λ ss. core.If to (all_of ss) core.NoStatements ∷ [] in
    let part = map statement_tree c.end-these.result.items in
    let branch = subst (λ xs. IsEmitted f z (core.If to (all_of part) (all_of (map statement_tree xs)) ∷ [])) c.new.ensures.items
    (c.branch-body.ensures sound) in
    let ended = c.end-these.ensures.ended in
    part_emitted c.args.body.now c.begin-outer.new.self c.lower_enough.new.body f z (map statement_tree c.begin-outer.result.items) part
    (enough_code (world_of c.args.program.now) c.args.least (shape_tree c.args.element.now) to) choice
    c.begin-outer.ensures.begun c.begin-outer.ensures.aside (c.lower_enough.ensures (sym ended.failed ∙ branch.sound))
    ended c.end-these.ensures.part branch
