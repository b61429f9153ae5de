-- The pure tree of what is made, of a suffix and of a clause, from those of its parts.
use Rattle.std.proofs.Common.{◌≡◌, map, sym, ap, ◌∙◌}
use Rattle.std.specs.declared.boxed.Box.{Box}
use Rattle.std.specs.declared.alloc.Global.{Global}
use Rattle.cyc_tree.specs.declared.name.Name.{Name}
use Rattle.cyc_tree.specs.declared.expression.Operator.{Operator}
use Rattle.cyc_tree.specs.declared.expression.Expression as code
use Rattle.cyc_tree.specs.declared.expression.Made.TheVariants as made
use Rattle.cyc_tree.specs.declared.expression.Suffix.TheVariants as suffix
use Rattle.cyc_tree.specs.declared.expression.Expression.TheOpen.{Made-F, Suffix-F}
use Rattle.cyc_tree.specs.declared.expression.Expression.TheFolds.{fold-roll-Made, fold-roll-Suffix}
use Rattle.cyc_tree.specs.declared.statement.Clause as code_clause
use Rattle.cyc_tree.specs.declared.statement.BlockItem.TheFolds.{fold-roll-Clause}
use Rattle.cyc_tree.specs.Tree.{Expression, Made, Statement}
use Rattle.cyc_tree.specs.View.{OneSuffix, OneClause, OneItem, name_tree, expression_step, made_step, suffix_step, link_step, expression_tree, made_tree}
use Rattle.cyc_tree.specs.View.{suffix_tree, pattern_tree, items_of, item_step, clause_step, statement_step, item_tree, clause_tree}

pub one_tree : (value : Box code.Expression Global) → made_tree (made.One value) ≡ Made.One (expression_tree value.value)
one_tree value =
    ap made_tree (sym (made.rolls-One value)) ∙ fold-roll-Made Expression Made OneSuffix (Operator × Expression) expression_step made_step suffix_step link_step
    (Made-F.One value)

pub array_tree : (index : Name) (count element : Box code.Expression Global)
    → made_tree (made.Array index count element) ≡ Made.Array (name_tree index) (expression_tree count.value) (expression_tree element.value)
array_tree index count element =
    ap made_tree (sym (made.rolls-Array index count element)) ∙ fold-roll-Made Expression Made OneSuffix (Operator × Expression) expression_step made_step
    suffix_step link_step (Made-F.Array index count element)

pub index_tree : (value : Box code.Expression Global) → suffix_tree (suffix.Index value) ≡ OneSuffix.Index (expression_tree value.value)
index_tree value =
    ap suffix_tree (sym (suffix.rolls-Index value)) ∙ fold-roll-Suffix Expression Made OneSuffix (Operator × Expression) expression_step made_step suffix_step
    link_step (Suffix-F.Index value)

pub dot_tree : (member : Name) → suffix_tree (suffix.Dot member) ≡ OneSuffix.Dot (name_tree member)
dot_tree member =
    ap suffix_tree (sym (suffix.rolls-Dot member)) ∙ fold-roll-Suffix Expression Made OneSuffix (Operator × Expression) expression_step made_step suffix_step
    link_step (Suffix-F.Dot member)

pub arrow_tree : (member : Name) → suffix_tree (suffix.Arrow member) ≡ OneSuffix.Arrow (name_tree member)
arrow_tree member =
    ap suffix_tree (sym (suffix.rolls-Arrow member)) ∙ fold-roll-Suffix Expression Made OneSuffix (Operator × Expression) expression_step made_step suffix_step
    link_step (Suffix-F.Arrow member)

pub clause_parts : (c : code_clause.Clause)
    → clause_tree c ≡ record { at = c.at; pattern = pattern_tree c.pattern; body = items_of (map item_tree c.body.items) }
clause_parts c =
    fold-roll-Clause OneItem Statement OneClause item_step statement_step clause_step (record { at = c.at; pattern = c.pattern; body = c.body })
