use Rattle.std.proofs.Common.{◌≡◌, drop, map}
use Rattle.cyc_tree.specs.View.{clause_tree, clauses_of}
use Rattle.cyc_types.specs.Tables.{tables_of}
use Rattle.source_typing.specs.Tables.{parts_in}
use Rattle.check_statements.specs.Switching.{none_repeated, times_of}
use Rattle.check_statements.proofs.named_members.none_repeated.Given as goal

-- the clauses so far name members that are named once, or none
abbrev pub invariant-each : goal.invariant-each
invariant-each l =
    let ps = parts_in (tables_of l.tables) l.tag in
    none_repeated (times_of l.times) ps (clauses_of (map clause_tree l.clauses))
    ≡ none_repeated (times_of l.times) ps (clauses_of (map clause_tree (drop l.clause-index l.clauses)))
