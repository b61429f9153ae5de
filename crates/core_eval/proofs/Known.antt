-- What is known, part by part.
use Rattle.std.proofs.Common.{◌≡◌}
use Rattle.core_eval.specs.Standing.{Known}

pub known_same : (k l : Known) → k.temps ≡ l.temps → k.base ≡ l.base → k.blocks ≡ l.blocks → k.entered ≡ l.entered → k.owns ≡ l.owns → k.called ≡ l.called
    → k.globals ≡ l.globals → k.regions ≡ l.regions → k.long_blocks ≡ l.long_blocks → k ≡ l
known_same k l temps base blocks entered owns called globals regions long_blocks = λ i. record {
  temps = temps i;
  base = base i;
  blocks = blocks i;
  entered = entered i;
  owns = owns i;
  called = called i;
  globals = globals i;
  regions = regions i;
  long_blocks = long_blocks i;
}
