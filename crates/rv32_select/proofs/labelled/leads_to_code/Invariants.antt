use Rattle.std.proofs.Common.{◌≡◌, drop, nat_lt, if◌then◌else◌}
use Rattle.core_lines.specs.Lines.{code_length}
use Rattle.rv32_select.specs.Beginning.{leads_to_code}
use Rattle.rv32_select.proofs.labelled.leads_to_code.Given as goal

abbrev pub invariant-each : goal.invariant-each
invariant-each l = record {
  leads : (if l.placed then nat_lt 0 (code_length (drop l.line-index l.lines)) else leads_to_code l.label (drop l.line-index l.lines))
      ≡ leads_to_code l.label l.lines;
}
