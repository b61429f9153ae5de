use Rattle.std.proofs.Common.{map}
use Rattle.cyc_tree.specs.View.{clause_tree, clauses_of, item_tree, items_of}
use Rattle.source_meaning.specs.Strings.{clauses_strings, items_strings}
use Rattle.check_programs.specs.Totals.{CountsTo}
use Rattle.check_programs.proofs.bodies.+bodies.Given as goal

-- those so far and the rest are all
abbrev pub invariant-with_items-each : goal.invariant-with_items-each
invariant-with_items-each l = CountsTo (λ is. items_strings (items_of (map item_tree is))) l.fn.total l.items l.item-index l.so_far

abbrev pub invariant-with_clauses-each : goal.invariant-with_clauses-each
invariant-with_clauses-each l = CountsTo (λ cs. clauses_strings (clauses_of (map clause_tree cs))) l.fn.total l.clauses l.clause-index l.so_far
