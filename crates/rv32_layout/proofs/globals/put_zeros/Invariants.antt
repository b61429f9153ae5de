use Rattle.std.proofs.Common.{◌≡◌, ◌-◌, ◌++◌}
use Rattle.core_lines.specs.Statics.{zeros}
use Rattle.rv32_layout.proofs.globals.put_zeros.Given as goal

abbrev pub invariant-each : goal.invariant-each
invariant-each l = record {
  whole : l.bytes.items ++ zeros (l.count - l.counter) ≡ l.initial.bytes.items ++ zeros l.count;
}
