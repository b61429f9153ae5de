use Rattle.std.proofs.Common.{◌≡◌, ◌≤◌, ℕ, length, map, drop}
use Rattle.std.specs.Prelude.{option_map}
use Rattle.cyc_tree.specs.View.{item_tree, items_of}
use Rattle.source_typing.specs.Faults.{earliest}
use Rattle.source_typing.specs.Scope.{Env}
use Rattle.source_typing.specs.Statements.{clauses_faults, items_faults}
use Rattle.check_scopes.specs.Changes.{AllAround, left}
use Rattle.check_scopes.specs.Knows.{Knows}
use Rattle.check_regions.specs.declared.scope.RegionMark.{RegionMark}
use Rattle.check_faults.specs.Faults.{faults_of, first_of}
use Rattle.check_declarations.specs.Contexts.{StandsIn, Suits, kept_to}
use Rattle.check_declarations.specs.Switching.{HasParts, switched_in}
use Rattle.check_statements.proofs.Blocks.{Going}
use Rattle.check_statements.proofs.Clauses.{clause_trees}
use Rattle.check_statements.proofs.statement.+statement.Given as goal

-- for each scope of the rules that is known at the block's beginning one is known now, with what was found; and leaving the block gives back what was in scope
abbrev pub invariant-items_fault-each : goal.invariant-items_fault-each
invariant-items_fault-each l = record {
  each : (g : Env) → StandsIn l.fn.context l.fn.names l.fn.outer l.fn.scope g
      → Going l.fn.context l.names l.fn.outer l.scope l.reached l.found (map item_tree (drop l.item-index l.fn.items))
      (earliest (items_faults g l.fn.reached (items_of (map item_tree l.fn.items))));
  left : (count : ℕ) (mark : RegionMark) → count ≤ length l.fn.scope.locals → mark.names ≤ length l.fn.scope.regions.begun
      → mark.opened ≤ length l.fn.scope.regions.opened → left count mark l.scope ≡ left count mark l.fn.scope;
  kept : (count : ℕ) → count ≤ length l.fn.names → kept_to count l.names ≡ kept_to count l.fn.names;
}

-- what is in scope is as it was, and what was found, with the faults of the other clauses, is what is found of all
abbrev pub invariant-clauses_fault-each : goal.invariant-clauses_fault-each
invariant-clauses_fault-each l = record {
  scope : l.scope ≡ l.fn.scope;
  names : l.names ≡ l.fn.names;
  each : (g : Env) → Knows l.fn.scope g → Suits l.fn.context l.fn.names g → AllAround g.block g.locals → HasParts g l.fn.union
      → first_of (faults_of l.found)
      (earliest (clauses_faults g l.fn.reached (option_map switched_in l.fn.union) (clause_trees
      (drop l.clause-index l.fn.clauses))))
      ≡ earliest (clauses_faults g l.fn.reached (option_map switched_in l.fn.union) (clause_trees l.fn.clauses));
}
