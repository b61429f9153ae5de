-- A machine in arrays, at its start, begins with the lines that its code has and with the data that its statics are.
use Rattle.std.specs.Prelude.{slice_index, length}
use Rattle.std.proofs.Common.{◌≡◌, ℕ, ◌+◌, ◌-◌, ◌%◌, ◌^◌, ◌<◌, ◌≤◌, List, [], ◌∷◌, ◌++◌, None, refl, ap, ◌∙◌, arith, length-append}
use Rattle.arena_laws.specs.Counts.{block_limit}
use Rattle.rv32_machine.specs.State.{Runs, code_base, data_base, stack_base}
use Rattle.rv32_machine.specs.Arrays.{Arrays, areas_of, state_of, byte_at, longest_stack}
use Rattle.rv32_machine.proofs.Bytes.{in_statics}
use Rattle.core_meaning.specs.Core.{Datum}
use Rattle.core_lines.specs.declared.line.Line.{Line}
use Rattle.core_lines.specs.Lines.{HasLines, IsPlace}
use Rattle.core_lines.specs.Selected.{rounded, end_from, datum_locals}
use Rattle.core_lines.specs.Statics.{zeros, datum_bytes, data_bytes, ArePlainData}
use Rattle.core_lines.specs.Running.{Begins, data_offsets, data_end}
use Rattle.core_lines.proofs.memory.DataBytes.{zeros_length, datum_length, has_bytes, data_shown}

-- the data's bytes are as many as its objects take
pub data_length : (os : List ℕ) (low : ℕ) (ds : List Datum) → ArePlainData os ds → low + length (data_bytes os low ds) ≡ end_from low (datum_locals ds)
data_length os low [] plain = omega arith
data_length os low (d ∷ ds) plain =
    let next = rounded low + length (datum_bytes os d) in
    let rest = data_bytes os next ds in
    let here = datum_length os d plain.0 in
    let padding = zeros_length (rounded low - low) in
    let one = length-append (zeros (rounded low - low)) (datum_bytes os d ++ rest) in
    let two = length-append (datum_bytes os d) rest in
    let others = data_length os next ds plain.1 ∙ ap (λ n. end_from (rounded low + n) (datum_locals ds)) here in
    omega (arith, padding, one, two, others)

-- A machine that runs from its code's first instruction on, with an empty stack of whole pages, and regions whose blocks may be as long as the store's, over a
-- store that holds no number.
pub record IsFirst (m : Arrays) : Type 0 where
  pub runs : m.mode ≡ Runs
  pub at_first : m.pc ≡ code_base
  pub pointer : slice_index m.registers 2 ≡ stack_base + length m.stack
  pub words : (register : ℕ) → slice_index m.registers register < 2 ^ 32
  pub code_within : length m.code ≤ 2 ^ 20
  pub statics_within : length m.statics ≤ 2 ^ 20
  pub stack_within : length m.stack ≤ longest_stack
  pub stack_pages : length m.stack % 4096 ≡ 0
  pub blocks : m.block_limit ≡ block_limit
  pub pages_within : m.holdings.pages ≤ 4096
  pub small : (at : ℕ) → byte_at m at < 256
  pub unheld : (number : ℕ) → m.holdings.standing number ≡ None

pub begins_as : (m : Arrays) (places : ℕ → ℕ) (lines : List Line) (ds : List Datum) → IsFirst m → ArePlainData (data_offsets ds) ds
    → m.statics ≡ data_bytes (data_offsets ds) 0 ds
    → ((label : ℕ) → IsPlace (places label)) → HasLines (areas_of m) (byte_at m) places 0 lines → Begins (areas_of m) places lines ds (state_of m)
begins_as m places lines ds first plain statics labels has =
    let os = data_offsets ds in
    let long : length m.statics ≡ length (data_bytes os 0 ds) = ap (λ (bs : List ℕ). length bs) statics in
    let whole : 0 + length (data_bytes os 0 ds) ≡ data_end ds = data_length os 0 ds plain in
    record {
      runs = first.runs;
      at_first = first.at_first;
      pointer = first.pointer;
      words = first.words;
      small = first.small;
      unheld = first.unheld;
      has_pages = refl;
      code_within = first.code_within;
      statics_within = first.statics_within;
      stack_within = first.stack_within;
      stack_pages = first.stack_pages;
      blocks = first.blocks;
      pages_within = first.pages_within;
      labels = labels;
      has = has;
      data_within = omega (arith, long, whole);
      shows_data = data_shown ds (byte_at m) plain (has_bytes (byte_at m) data_base (data_bytes os 0 ds) (λ k less.
          in_statics m.holdings.pages m.arena m.code m.statics m.stack (data_base + k) k
          (record { code_within = first.code_within; statics_within = first.statics_within; stack_within = first.stack_within }) refl
          (omega (arith, long, less))
          ∙ ap (λ (bs : List ℕ). slice_index bs k) statics));
    }
