use Rattle.std.proofs.Common.{◌≡◌, ◌++◌, drop}
use Rattle.rv32_layout.specs.Chars.{AreChars}
use Rattle.rv32_layout.proofs.globals.put_text.Given as goal

abbrev pub invariant-each : goal.invariant-each
invariant-each l = record {
  whole : l.bytes.items ++ drop l.byte-index l.text ≡ l.initial.bytes.items ++ l.text;
  chars : AreChars (drop l.byte-index l.text) → AreChars l.text;
}
