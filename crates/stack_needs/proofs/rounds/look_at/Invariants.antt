use Rattle.std.proofs.Common.{◌≡◌, drop, [], length}
use Rattle.stack_needs.specs.Graph.{found, looked_at, rows_of}
use Rattle.stack_needs.proofs.rounds.look_at.Given as goal

abbrev pub invariant-each : goal.invariant-each
invariant-each l = record {
  long : length l.needs.items ≡ length l.initial.needs.items;
  looked :
      looked_at l.frames (rows_of l.calls) (found l.needs.items l.left.items) (drop l.k-index l.waiting)
      ≡ looked_at l.frames (rows_of l.calls) (found l.initial.needs.items []) l.waiting;
}
