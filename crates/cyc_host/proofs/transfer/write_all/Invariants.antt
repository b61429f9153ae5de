use Rattle.std.proofs.Common.{◌≡◌, ℕ, List, ◌++◌, length}
use Rattle.std.specs.Io.KnownBytes.{Appends}
use Rattle.cyc_host.proofs.transfer.write_all.Given as goal

abbrev pub invariant-parts : goal.invariant-parts
invariant-parts g l = record {
  done : List ℕ;
  split : l.bytes ≡ done ++ l.rest;
  appended : Appends (g.W.Write.contents l.fn.writer) (g.W.Write.contents l.writer) done;
  writes : g.W.Output.fault_count l.writer ≡ g.W.Output.fault_count l.fn.writer;
}

abbrev pub decreases-parts : goal.decreases-parts
decreases-parts g l = length l.rest
