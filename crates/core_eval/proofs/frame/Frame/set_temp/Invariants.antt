use Rattle.std.proofs.Common.{◌≡◌, ℕ, ◌+◌, ◌-◌, length}
use Rattle.core_eval.specs.Values.{temp_of}
use Rattle.core_eval.proofs.frame.Frame.set_temp.Given as goal

abbrev pub invariant-grow : goal.invariant-grow
invariant-grow l = record {
  temps : (k : ℕ) → temp_of l.self.temps.items k ≡ temp_of l.fn.self.temps.items k;
  base : l.self.base ≡ l.fn.self.base;
}

abbrev pub decreases-grow : goal.decreases-grow
decreases-grow l = l.position + 1 - length l.self.temps.items
