-- View of code: one clause of a `switch`.
use Rattle.std.specs.Prelude.{Option}
use Rattle.flow_summaries.specs.Exits.{Exits}
use Rattle.flow_summaries.specs.Statements.{exits_of_items, exits_within}
use Rattle.source_typing.specs.Scope.{Env}
use Rattle.source_typing.specs.Statements.{Chosen, clause_scope}
use Rattle.cyc_tree.specs.View.{OneClause}

abbrev pub clause_exits : Env → Option Chosen → OneClause → Exits
clause_exits g c o = exits_within g (clause_scope g c o.pattern) (exits_of_items (clause_scope g c o.pattern) o.body)
