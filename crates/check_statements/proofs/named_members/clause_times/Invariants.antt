use Rattle.std.proofs.Common.{◌≡◌, ◌+◌, List, drop, map, ℕ}
use Rattle.cyc_tree.specs.View.{clause_tree, clauses_of}
use Rattle.source_typing.specs.Statements.{named_times}
use Rattle.check_statements.specs.Switching.{times_of}
use Rattle.check_statements.proofs.named_members.clause_times.Given as goal

-- the clauses so far and the rest are all clauses
abbrev pub invariant-each : goal.invariant-each
invariant-each l =
    (x : List ℕ) → times_of l.times x + named_times x (clauses_of (map clause_tree (drop l.clause-index l.clauses)))
    ≡ named_times x (clauses_of (map clause_tree l.clauses))
