use Rattle.std.proofs.Common.{◌≡◌, ⊎_elim, ap, sym, subst}
use Rattle.cyc_tree.specs.View.{initial_tree}
use Rattle.cyc_core.specs.Trees.{datum_tree}
use Rattle.source_meaning.specs.Shapes.{CharShape, IntShape, NeverNull, Owner, Reach, Shape, ThinShape, UnsignedShape}
use Rattle.source_meaning.specs.Programs.{world_of}
use Rattle.source_lowering.specs.Programs.{global_datum}
use Rattle.source_lowering.specs.Lowerable.{TakesGlobal}
use Rattle.lower_checks.specs.Globals.{BeginsWithPointer}
use Rattle.lower_checks.specs.Signs.{around, signs_of}
use Rattle.lower_checks.specs.Views.{owner_tree, plain_tree, reach_tree, shape_tree, written_shape}
use Rattle.lower_checks.proofs.Globals.{number_first, pointer_first}
use Rattle.lower_checks.proofs.datum.first_datum.Goals as goal

pub returns-in-Thin : goal.returns-in-Thin
returns-in-Thin c = record {
  datum =
      let w = world_of c.args.program.now in
      let i = initial_tree c.args.initial.now in
      let thin : (bound : Reach) (owner : Owner) (to : Shape) → shape_tree c.args.shape ≡ ThinShape bound owner to
      → datum_tree c.pointer_datum.result ≡ global_datum w i (shape_tree c.args.shape) =
      λ bound owner to is.
      subst (λ (s : Shape). datum_tree c.pointer_datum.result ≡ global_datum w i s) (sym is) (c.pointer_datum.ensures.datum bound owner to) in
      ⊎_elim
      (λ found. thin (reach_tree found.0) (owner_tree found.1) (written_shape found.2) (ap shape_tree found.3))
      (λ found. thin (NeverNull 1) (owner_tree found.0) (around (signs_of found.1) (plain_tree found.2)) (ap shape_tree found.3))
      c.in-Thin.is;
}

-- a pointer that is taken is NULL or a string at first, and an integer a number
pub pointer_datum-requires : goal.pointer_datum-requires
pointer_datum-requires c =
    let i = initial_tree c.args.initial.now in
    let thin : (bound : Reach) (owner : Owner) (to : Shape) → shape_tree c.args.shape ≡ ThinShape bound owner to → BeginsWithPointer i =
    λ bound owner to is. pointer_first bound owner to i (subst (λ (s : Shape). TakesGlobal s i) is c.requires.taken) in
    record {
      pointer = ⊎_elim
          (λ found. thin (reach_tree found.0) (owner_tree found.1) (written_shape found.2) (ap shape_tree found.3))
          (λ found. thin (NeverNull 1) (owner_tree found.0) (around (signs_of found.1) (plain_tree found.2)) (ap shape_tree found.3))
          c.in-Thin.is;
    }
