use Rattle.std.proofs.Common.{◌≡◌, ◌≤◌, ℕ, length, map, drop}
use Rattle.std.specs.Prelude.{option_map}
use Rattle.cyc_tree.specs.View.{clause_tree, clauses_of, item_tree, items_of}
use Rattle.flow_summaries.specs.Statements.{exits_of_clauses, exits_of_items}
use Rattle.source_typing.specs.Scope.{Env}
use Rattle.check_scopes.specs.Changes.{left}
use Rattle.check_regions.specs.declared.scope.RegionMark.{RegionMark}
use Rattle.check_declarations.specs.Contexts.{kept_to}
use Rattle.check_declarations.specs.Switching.{HasParts, switched_in}
use Rattle.flow_effects.specs.Steps.{all_before}
use Rattle.flow_check.proofs.Blocks.{Going}
use Rattle.flow_check.specs.Standing.{Follows, Stands}
use Rattle.flow_check.proofs.statement.+exits.Given as goal

-- for each scope of the rules that is known at the block's beginning one is known now, with the steps so far; and leaving the block gives back what was in
-- scope
abbrev pub invariant-items_exits-each : goal.invariant-items_exits-each
invariant-items_exits-each l = record {
  each : (g : Env) → Stands l.fn.context l.fn.names l.fn.outer l.fn.scope g
      → Going l.fn.context l.names l.fn.outer l.scope l.steps.items (map item_tree (drop l.item-index l.fn.items))
      (exits_of_items g (items_of (map item_tree l.fn.items)));
  left : (count : ℕ) (mark : RegionMark) → count ≤ length l.fn.scope.locals → mark.names ≤ length l.fn.scope.regions.begun
      → mark.opened ≤ length l.fn.scope.regions.opened → left count mark l.scope ≡ left count mark l.fn.scope;
  kept : (count : ℕ) → count ≤ length l.fn.names → kept_to count l.names ≡ kept_to count l.fn.names;
}

-- what is in scope is as it was, and the ways so far before those of the other clauses are all ways
abbrev pub invariant-switched-each : goal.invariant-switched-each
invariant-switched-each l = record {
  scope : l.scope ≡ l.fn.scope;
  names : l.names ≡ l.fn.names;
  each : (g : Env) → Follows l.fn.context l.fn.names l.fn.scope g → HasParts g l.fn.union
      → all_before l.ways.items
      (exits_of_clauses g (option_map switched_in l.fn.union) (clauses_of (map clause_tree (drop l.clause-index l.fn.clauses))))
      ≡ exits_of_clauses g (option_map switched_in l.fn.union) (clauses_of (map clause_tree l.fn.clauses));
}
