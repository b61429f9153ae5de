use Rattle.std.proofs.Common.{◌∙◌, ap, sym}
use Rattle.cyc_tree.specs.View.{constant_tree}
use Rattle.source_meaning.specs.Places.{literal_string}
use Rattle.source_meaning.specs.Shapes.{ThinShape}
use Rattle.source_meaning.specs.Programs.{world_of}
use Rattle.source_lowering.specs.Programs.{constant_content, datum_of, text_content}
use Rattle.lower_checks.proofs.datum.constant_pointer.Goals as goal

pub returns-in-Text : goal.returns-in-Text
returns-in-Text c = record {
  datum =
      λ bound owner to.
      let w = world_of c.args.program.now in
      let s = ThinShape bound owner to in
      c.string_pointer.ensures w bound owner to ∙ ap (datum_of w s) c.literal_text.ensures.pointer
      ∙ ap (λ b. datum_of w s (text_content (literal_string w.strings c.in-Text.at b) 0)) c.deref.ensures.value
      ∙ ap (λ k. datum_of w s (constant_content w (constant_tree k) s)) (sym c.in-Text.is);
}
