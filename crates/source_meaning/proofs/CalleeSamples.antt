-- The names that calls name, computed: each construct in which a call can stand, in the order of the text.
use Rattle.std.proofs.Common.{◌≡◌, Some, [], ◌∷◌, refl}
use Rattle.std.specs.Prelude.{codes}
use Prim.Native.String.{String}
use Rattle.cyc_tree.specs.declared.expression.Operator.TheVariants.{Add}
use Rattle.cyc_tree.specs.declared.expression.Prefix.TheVariants.{Negate}
use Rattle.cyc_tree.specs.Tree as tree
use Rattle.cyc_tree.specs.Tree.{BlockItems, Expression, NoExpressions, MoreExpressions, NoLinks, MoreLinks, NoSuffixes, Index, Arrow, One, Array, Initializer}
use Rattle.cyc_tree.specs.Tree.{Statement, NoItems, NoClauses, MoreClauses, Case, Default}
use Rattle.source_meaning.specs.Callees.{items_callees}
use Rattle.source_meaning.proofs.Trees.{named, variable, number, typed, ◌▸◌, ◌▹◌}

abbrev called : String → Expression → Expression
called name argument = Expression.Call (named name) (MoreExpressions argument NoExpressions)

abbrev ran : String → Statement
ran name = Statement.Run (called name (number 0))

-- int x = a(b(0)) + c(0); while (d(0)) { e(0); } if (f(0)) g(0); if (h(0)) i(0); else j(0); return k(0);
abbrev in_statements : BlockItems
in_statements =
    (tree.Local (typed tree.Int []) (named "x") (Initializer.Value (Expression.Chain (called "a" (called "b" (number 0)))
    (MoreLinks Add (called "c" (number 0)) NoLinks)))) ▹
    (Statement.While 0 (called "d" (number 0)) (Statement.Block 0 ((ran "e") ▸ NoItems))) ▸
    (Statement.If 0 (called "f" (number 0)) (ran "g")) ▸
    (Statement.IfElse 0 (called "h" (number 0)) (ran "i") (ran "j")) ▸
    (Statement.Return 0 (Some (called "k" (number 0)))) ▸
    NoItems

in_statements_are : items_callees in_statements
    ≡ codes "a" ∷ codes "b" ∷ codes "c" ∷ codes "d" ∷ codes "e" ∷ codes "f" ∷ codes "g" ∷ codes "h" ∷ codes "i" ∷ codes "j" ∷ codes "k" ∷ []
in_statements_are = refl

-- a(0)[b(0)] :=: c(0)->m; switch (d(0)) { case { .m = x }: e(0); default: f(0); } new {for i < g(0) : h(0)}; rnew(i(0)) j(0);
abbrev in_places : BlockItems
in_places =
    (Statement.Exchange (Expression.Suffixed (called "a" (number 0)) (Index (called "b" (number 0)) NoSuffixes))
    (Expression.Suffixed (called "c" (number 0)) (Arrow (named "m") NoSuffixes))) ▸
    (Statement.Switch 0 (called "d" (number 0)) (MoreClauses 0 (Case (named "m") (named "x")) ((ran "e") ▸ NoItems)
    (MoreClauses 0 Default ((ran "f") ▸ NoItems) NoClauses))) ▸
    (Statement.Run (Expression.New 0 (Array (named "i") (called "g" (number 0)) (called "h" (number 0))))) ▸
    (Statement.Run (Expression.NewIn 0 (called "i" (number 0)) (One (called "j" (number 0))))) ▸
    NoItems

in_places_are : items_callees in_places
    ≡ codes "a" ∷ codes "b" ∷ codes "c" ∷ codes "d" ∷ codes "e" ∷ codes "f" ∷ codes "g" ∷ codes "h" ∷ codes "i" ∷ codes "j" ∷ []
in_places_are = refl

-- x = a(0) && b(0); c(0) || d(0); numelts(e(0)); -f(0); (g(0)); U.m(h(0));
abbrev in_operands : BlockItems
in_operands =
    (Statement.Run (Expression.Assign (variable "x") (Expression.AllOf (called "a" (number 0)) (MoreExpressions (called "b" (number 0)) NoExpressions)))) ▸
    (Statement.Run (Expression.AnyOf (called "c" (number 0)) (MoreExpressions (called "d" (number 0)) NoExpressions))) ▸
    (Statement.Run (Expression.NumElts 0 (called "e" (number 0)))) ▸
    (Statement.Run (Expression.Prefixed 0 Negate (called "f" (number 0)))) ▸
    (Statement.Run (Expression.Grouped 0 (called "g" (number 0)))) ▸
    (Statement.Run (Expression.MakeUnion (named "U") (named "m") (called "h" (number 0)))) ▸
    NoItems

in_operands_are : items_callees in_operands
    ≡ codes "a" ∷ codes "b" ∷ codes "c" ∷ codes "d" ∷ codes "e" ∷ codes "f" ∷ codes "g" ∷ codes "h" ∷ []
in_operands_are = refl
