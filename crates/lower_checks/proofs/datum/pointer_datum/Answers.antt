use Rattle.std.proofs.Common.{◌∙◌, ap, sym}
use Rattle.cyc_tree.specs.View.{initial_tree}
use Rattle.source_meaning.specs.Shapes.{ThinShape}
use Rattle.source_meaning.specs.Programs.{world_of}
use Rattle.source_lowering.specs.Programs.{datum_of, initial_content}
use Rattle.lower_checks.proofs.datum.pointer_datum.Goals as goal

pub returns-in-Constant : goal.returns-in-Constant
returns-in-Constant c = record {
  datum =
      λ bound owner to.
      let w = world_of c.args.program.now in
      let s = ThinShape bound owner to in
      c.constant_pointer.ensures.datum bound owner to ∙ ap (λ i. datum_of w s (initial_content w (initial_tree i) s)) (sym c.in-Constant.is);
}
