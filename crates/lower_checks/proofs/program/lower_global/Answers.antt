use Rattle.std.proofs.Common.{◌≡◌, ◌∙◌, sym, ap, subst, IfOk}
use Rattle.cyc_tree.specs.View.{initial_tree, type_tree}
use Rattle.cyc_core.specs.Trees.{datum_tree}
use Rattle.source_meaning.specs.Shapes.{Shape, settled, written}
use Rattle.source_meaning.specs.Programs.{world_of}
use Rattle.source_lowering.specs.Programs.{global_datum}
use Rattle.source_lowering.specs.Lowerable.{IsObject, TakesGlobal}
use Rattle.source_lowering.proofs.statements.WrittenTypes.{object_settled}
use Rattle.lower_checks.specs.Views.{stored_tree, written_shape}
use Rattle.lower_checks.proofs.Taken.{array_global, one_global}
use Rattle.lower_checks.proofs.program.lower_global.Goals as goal

pub returns-in-One : goal.returns-in-One
returns-in-One c = record {
  datum =
      let w = world_of c.args.program.now in
      let initial = initial_tree c.args.global.now.initial in
      let is = sym (ap stored_tree c.in-One.is) ∙ c.global_stored.ensures in
      subst (λ (s : Shape). IfOk c.first_datum.result (λ datum. datum_tree datum ≡ global_datum w initial s)) is c.first_datum.ensures.datum;
}

pub first_datum-requires : goal.first_datum-requires
first_datum-requires c =
    let w = world_of c.args.program.now in
    let of = type_tree c.args.global.now.of in
    let initial = initial_tree c.args.global.now.initial in
    let is = one_global c.in-One.shape initial (settled (written of)) (sym (ap stored_tree c.in-One.is) ∙ c.global_stored.ensures) in
    record {
      object = subst (IsObject w.unions w.structs) is (object_settled w.unions w.structs of c.requires.object);
      taken = subst (λ (s : Shape). TakesGlobal s initial) is c.requires.taken;
    }

pub object_layout-requires : goal.object_layout-requires
object_layout-requires c =
    let w = world_of c.args.program.now in
    let of = type_tree c.args.global.now.of in
    let initial = initial_tree c.args.global.now.initial in
    let is = sym (ap stored_tree c.in-Array.is) ∙ c.global_stored.ensures in
    let object = object_settled w.unions w.structs of c.requires.object in
    let element = array_global w.unions w.structs initial (settled (written of)) c.in-Array.count (written_shape c.in-Array.of) is object in
    record { taken = subst (IsObject w.unions w.structs) (sym c.shape.ensures) element }
