-- View of code: statements without statements in them, and expressions without expressions in them.
use Rattle.std.specs.Prelude.{Bool, true, false}
use Rattle.cyc_tree.specs.Tree.{Expression, Statement}

abbrev pub is_simple : Statement → Bool
is_simple (Statement.Block _ _) = false
is_simple (Statement.If _ _ _) = false
is_simple (Statement.IfElse _ _ _ _) = false
is_simple (Statement.While _ _ _) = false
is_simple (Statement.Switch _ _ _) = false
is_simple _ = true

-- the making of a union among them, which is taken nowhere as a word
abbrev pub is_leaf : Expression → Bool
is_leaf (Expression.Call _ _) = false
is_leaf (Expression.NumElts _ _) = false
is_leaf (Expression.Grouped _ _) = false
is_leaf (Expression.Suffixed _ _) = false
is_leaf (Expression.Prefixed _ _ _) = false
is_leaf (Expression.New _ _) = false
is_leaf (Expression.NewIn _ _ _) = false
is_leaf (Expression.Chain _ _) = false
is_leaf (Expression.AllOf _ _) = false
is_leaf (Expression.AnyOf _ _) = false
is_leaf (Expression.Assign _ _) = false
is_leaf _ = true
