-- View of code: statements without others in them.
use Rattle.std.specs.Prelude.{Bool, false, true}
use Rattle.cyc_tree.specs.Tree.{Statement}

abbrev pub is_plain : Statement → Bool
is_plain (Statement.Block at items) = false
is_plain (Statement.If at condition body) = false
is_plain (Statement.IfElse at condition body otherwise) = false
is_plain (Statement.While at condition body) = false
is_plain (Statement.Switch at place _) = false
is_plain s = true
