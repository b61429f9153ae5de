use Rattle.std.proofs.Common.{◌∙◌, ap, sym}
use Rattle.std.specs.Prelude.{option_map}
use Rattle.source_meaning.specs.Shapes.{FatShape}
use Rattle.source_lowering.specs.Programs.{text_datum}
use Rattle.lower_checks.specs.Views.{text_value}
use Rattle.lower_checks.proofs.Bytes.{bounds_same}
use Rattle.lower_checks.proofs.datum.string_bounds.Goals as goal

pub returns-in-Some : goal.returns-in-Some
returns-in-Some c = record {
  datum =
      λ w to.
      bounds_same w to c.in-Some.text.object c.in-Some.text.count ∙ ap (λ f. text_datum w (FatShape to) (option_map text_value f)) (sym c.in-Some.is);
}
