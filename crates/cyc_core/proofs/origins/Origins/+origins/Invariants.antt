use Rattle.std.proofs.Common.{◌≡◌, ◌+◌, drop, length}
use Rattle.cyc_core.specs.Counts.{calls_of, raises_of}
use Rattle.cyc_core.specs.Trees.{body_tree}
use Rattle.cyc_core.proofs.origins.Origins.+origins.Given as goal

abbrev pub invariant-add_all-each : goal.invariant-add_all-each
invariant-add_all-each l = record {
  raises : length l.self.raises.items + raises_of (body_tree (drop l.statement-index l.body)) ≡ length l.initial.self.raises.items
      + raises_of (body_tree l.body);
  calls : length l.self.calls.items + calls_of (body_tree (drop l.statement-index l.body)) ≡ length l.initial.self.calls.items + calls_of (body_tree l.body);
}
