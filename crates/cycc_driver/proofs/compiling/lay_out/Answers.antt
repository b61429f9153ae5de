use Rattle.std.proofs.Common.{◌<◌, List, length, refl, ap, ◌∙◌, subst, arith}
use Rattle.std.specs.Prelude.{Err}
use Rattle.core_lines.specs.Promise.{AreLinesOf}
use Rattle.core_lines.specs.declared.line.Line.{Line}
use Rattle.core_lines.specs.Choosing.{far}
use Rattle.core_lines.specs.Relaxed.{shortened, wide_in}
use Rattle.core_lines.specs.Selected.{program_code}
use Rattle.rv32_layout.specs.Placed.{ArePlaced}
use Rattle.core_lines.specs.Running.{data_offsets}
use Rattle.core_lines.specs.Statics.{data_bytes}
use Rattle.core_meaning.specs.Core as core
use Rattle.rv32_layout.specs.declared.fault.LayoutFault.{LayoutFault}
use Rattle.cyc_image.specs.Format.{data_limit}
use Rattle.core_lines.proofs.labels.Relaxing.{no_longer}
use Rattle.compile_proof.proofs.AcceptedDo.{accepted_do}
use Rattle.cycc_driver.proofs.Implementing.{data_fit, implemented, is_code}
use Rattle.cycc_driver.proofs.compiling.lay_out.Goals as goal

pub returns-in-Err-TooLarge-clause-refused : goal.returns-in-Err-TooLarge-clause-refused
returns-in-Err-TooLarge-clause-refused c =
    let made = c.in_ok-core.ensures in
    let are = subst (λ (p : core.Program). AreLinesOf p c.in_ok-labelled.labelled.lines) made.code c.in_ok-labelled.ensures.lines in
    let all = accepted_do c.args.checked made.accepted made.few in
    let large = c.in-Err-TooLarge.ensures.too_large (ap (λ (f : LayoutFault). Err f) c.in-Err-TooLarge.field-0-is) in
    record {
      long =
          let shorter = no_longer (wide_in c.in_ok-labelled.labelled.lines) c.in_ok-labelled.labelled.lines in
          let within = are.within in
          let bound = all.promised.code in
          omega (arith, large, shorter, within, bound);
      line = refl;
      column = refl;
    }

pub returns-in-Ok-data-clause-code : goal.returns-in-Ok-data-clause-code
returns-in-Ok-data-clause-code c =
    let placed = c.in-Ok.ensures in
    let some = placed.some c.in_ok-labelled.ensures.lines.some in
    is_code c.in-Ok.code.bytes.items placed.words (omega (arith, some)) (omega (arith, placed.within))

pub returns-in-Ok-data-clause-lines : goal.returns-in-Ok-data-clause-lines
returns-in-Ok-data-clause-lines c =
    let lines = c.in_ok-labelled.ensures.selected ∙ ap (λ (p : core.Program). program_code far p) c.in_ok-core.ensures.code in
    subst (λ (ls : List Line). ArePlaced (shortened (wide_in ls) ls) c.in-Ok.code.bytes.items) lines c.in-Ok.ensures.placed

pub returns-in-Ok-data-clause-statics : goal.returns-in-Ok-data-clause-statics
returns-in-Ok-data-clause-statics c =
    c.in-Ok-data.ensures.bytes ∙ ap (λ (p : core.Program). data_bytes (data_offsets p.data_objects) 0 p.data_objects) c.in_ok-core.ensures.code

pub returns-in-Ok-data-clause-implemented : goal.returns-in-Ok-data-clause-implemented
returns-in-Ok-data-clause-implemented c = λ parts is_code is_statics from_first blocks fits.
    let made = c.in_ok-core.ensures in
    let are = subst (λ (p : core.Program). AreLinesOf p c.in_ok-labelled.labelled.lines) made.code c.in_ok-labelled.ensures.lines in
    let placed = c.in-Ok.ensures in
    implemented c.args.checked c.in-Ok.code.bytes.items c.in-Ok-data.data.items parts record {
      lines = c.in_ok-labelled.labelled.lines;
      are = are;
      words = placed.words;
      has = placed.has are.once;
      statics_are = c.in-Ok-data.ensures.bytes ∙ ap (λ (p : core.Program). data_bytes (data_offsets p.data_objects) 0 p.data_objects) made.code;
    } is_code is_statics from_first blocks fits made.accepted made.few

pub unreachable-requires : goal.unreachable-requires
unreachable-requires c =
    let large = c.in-Err-TooLarge-data.ensures.too_large.0 (ap (λ (f : LayoutFault). Err f) c.in-Err-TooLarge-data.field-0-is) in
    data_fit c.args.checked c.in_ok-core.ensures.accepted c.in_ok-core.ensures.few
    (subst (λ (p : core.Program). data_limit < length (data_bytes (data_offsets p.data_objects) 0 p.data_objects)) c.in_ok-core.ensures.code large)
