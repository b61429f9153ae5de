-- Each declaration asks for room, and each statement.
use Rattle.std.proofs.Common.{◌≤◌, arith}
use Rattle.cyc_tree.specs.Tree.{Declaration, Statement}
use Rattle.cyc_tree.specs.Room.{declaration_room, statement_room}

pub declaration_least : (d : Declaration) → 16 ≤ declaration_room d
declaration_least (Declaration.Local of name initializer) = omega arith
declaration_least d = omega arith

pub statement_least : (s : Statement) → 16 ≤ statement_room s
statement_least (Statement.Block at items) = omega arith
statement_least (Statement.Run e) = omega arith
statement_least (Statement.Exchange left right) = omega arith
statement_least (Statement.If at condition body) = omega arith
statement_least (Statement.IfElse at condition body otherwise) = omega arith
statement_least (Statement.While at condition body) = omega arith
statement_least (Statement.Switch at place _) = omega arith
statement_least (Statement.Return at value) = omega arith
statement_least s = omega arith
