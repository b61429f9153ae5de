use Rattle.std.proofs.Common.{◌≡◌, take}
use Rattle.cyc_types.specs.Pointers.{BeginsWith}
use Rattle.cyc_types.proofs.Runs.{after}
use Rattle.cyc_types.proofs.run.count_from.Given as goal

-- those so far, and what stands on them
abbrev pub invariant-each : goal.invariant-each
invariant-each l = record {
  counted : l.count ≡ l.layer-index;
  begins : BeginsWith l.steps l.layer-index l.fn.first (take l.layer-index l.layers);
  next : l.next ≡ after l.steps l.layer-index l.fn.first;
}
