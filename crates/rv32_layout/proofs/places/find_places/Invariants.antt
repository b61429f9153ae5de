use Rattle.std.proofs.Common.{◌≡◌, ℕ, ◌+◌, drop, nat_eq, unwrap_or}
use Rattle.indexmap.specs.IndexMap.{get}
use Rattle.core_lines.specs.Lines.{code_length}
use Rattle.core_lines.specs.Relaxed.{place_of}
use Rattle.rv32_layout.proofs.places.find_places.Given as goal

abbrev pub invariant-each : goal.invariant-each
invariant-each l = record {
  whole : l.at + code_length (drop l.line-index l.lines) ≡ code_length l.lines;
  placed : (label : ℕ) → unwrap_or (get nat_eq l.by_label label) (l.at + place_of (drop l.line-index l.lines) label) ≡ place_of l.lines label;
}
