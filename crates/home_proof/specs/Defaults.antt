-- Believed, for this crate's laws: statements in which no `switch` has more than one `default`, as the rules want it.
use Rattle.std.specs.Prelude.{◌≡◌, ◌≤◌}
use Rattle.cyc_tree.specs.Tree.{Statement, BlockItems, NoItems, Declare, Execute, Clauses, NoClauses, MoreClauses}
use Rattle.source_typing.specs.Statements.{defaults}

abbrev mutual
  pub HasOneDefault : Statement → Type 0
  HasOneDefault (Statement.Block at items) = HaveOneDefault items
  HasOneDefault (Statement.If at condition body) = HasOneDefault body
  HasOneDefault (Statement.IfElse at condition body otherwise) = HasOneDefault body × HasOneDefault otherwise
  HasOneDefault (Statement.While at condition body) = HasOneDefault body
  HasOneDefault (Statement.Switch at place clauses) = (defaults clauses ≤ 1) × ClausesHaveOneDefault clauses
  HasOneDefault _ = Unit {0}

  pub HaveOneDefault : BlockItems → Type 0
  HaveOneDefault NoItems = Unit {0}
  HaveOneDefault (Declare d others) = HaveOneDefault others
  HaveOneDefault (Execute s others) = HasOneDefault s × HaveOneDefault others

  -- of what stands in the clauses
  pub ClausesHaveOneDefault : Clauses → Type 0
  ClausesHaveOneDefault NoClauses = Unit {0}
  ClausesHaveOneDefault (MoreClauses at pattern body others) = HaveOneDefault body × ClausesHaveOneDefault others
