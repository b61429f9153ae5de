use Rattle.std.proofs.Common.{◌≡◌, ◌≤◌, List, sym, ap, subst, ◌∙◌, arith}
use Rattle.cyc_image.specs.Format.{code_limit}
use Rattle.core_lines.specs.declared.line.Line.{Line}
use Rattle.core_lines.specs.Lines.{code_length, labels_placed, AreOnce}
use Rattle.core_lines.specs.Relaxed.{place_of, shortened, wide_in}
use Rattle.core_lines.proofs.labels.Relaxing.{all_said, no_longer}
use Rattle.rv32_layout.specs.Placed.{ArePlaced, instructions_from}
use Rattle.rv32_layout.proofs.Holding.{is_code_of, are_places}
use Rattle.rv32_layout.proofs.Shortened.{labels_short, some_short}
use Rattle.rv32_layout.proofs.code.place.Goals as goal

pub returns-clause-words : goal.returns-clause-words
returns-clause-words c =
    let placed = c.as_slice.result.now in
    (instructions_from (place_of placed) 0 placed, c.in_ok-bytes.ensures.placed)

pub returns-clause-placed : goal.returns-clause-placed
returns-clause-placed c =
    let lines = c.args.labelled.now.lines in
    subst (λ ls. ArePlaced ls c.in_ok-bytes.bytes.items) (c.as_slice.ensures.value ∙ c.in_ok-relaxed.ensures.lines) c.in_ok-bytes.ensures.placed

pub returns-clause-short : goal.returns-clause-short
returns-clause-short c =
    let lines = c.args.labelled.now.lines in
    let is : c.as_slice.result.now ≡ shortened (wide_in lines) lines = c.as_slice.ensures.value ∙ c.in_ok-relaxed.ensures.lines in
    omega (arith, c.in_ok-bytes.ensures.length, ap code_length is)

pub returns-clause-length : goal.returns-clause-length
returns-clause-length c =
    let lines = c.args.labelled.now.lines in
    let is : c.as_slice.result.now ≡ shortened (wide_in lines) lines = c.as_slice.ensures.value ∙ c.in_ok-relaxed.ensures.lines in
    omega (arith, c.in_ok-bytes.ensures.length, ap code_length is, no_longer (wide_in lines) lines)

pub returns-clause-some : goal.returns-clause-some
returns-clause-some c = λ some.
    let lines = c.args.labelled.now.lines in
    let is : c.as_slice.result.now ≡ shortened (wide_in lines) lines = c.as_slice.ensures.value ∙ c.in_ok-relaxed.ensures.lines in
    omega (arith, c.in_ok-bytes.ensures.length, ap code_length is, some_short (wide_in lines) lines some)

pub returns-clause-has : goal.returns-clause-has
returns-clause-has c = λ once.
    let lines = c.args.labelled.now.lines in
    let wide = wide_in lines in
    let is : c.as_slice.result.now ≡ shortened wide lines = c.as_slice.ensures.value ∙ c.in_ok-relaxed.ensures.lines in
    let within : code_length (shortened wide lines) ≤ code_limit =
    omega (arith, c.in_ok-relaxed.ensures.placeable.within, ap code_length c.in_ok-relaxed.ensures.lines) in
    record {
      wide = wide;
      each = all_said lines;
      places = place_of (shortened wide lines);
      labels = are_places (shortened wide lines) within;
      has = is_code_of (shortened wide lines) c.in_ok-bytes.bytes.items (subst (λ ls. ArePlaced ls c.in_ok-bytes.bytes.items) is c.in_ok-bytes.ensures.placed)
          (subst AreOnce (sym (labels_short wide lines)) once);
    }
