use Rattle.std.proofs.Common.{◌≡◌, ℕ, ◌+◌, List, ◌++◌, drop, vec_len}
use Rattle.core_lines.specs.Lines.{code_length}
use Rattle.core_lines.specs.Relaxed.{place_of, AllReach}
use Rattle.rv32_layout.specs.Placed.{AreWords, ArePlaced, instructions_from}
use Rattle.rv32_select.specs.Beginning.{first_target}
use Rattle.rv32_layout.proofs.words.words.Given as goal

abbrev pub invariant-each : goal.invariant-each
invariant-each l = record {
  whole : vec_len l.bytes + code_length (drop l.line-index l.lines) ≡ code_length l.lines;
  first : vec_len l.bytes ≡ 0 → first_target (drop l.line-index l.lines) ≡ first_target l.lines;
  reach : AllReach (place_of l.lines) (vec_len l.bytes) (drop l.line-index l.lines);
  placed : (rest : List ℕ) → AreWords (instructions_from (place_of l.lines) (vec_len l.bytes) (drop l.line-index l.lines)) rest
      → ArePlaced l.lines (l.bytes.items ++ rest);
}
