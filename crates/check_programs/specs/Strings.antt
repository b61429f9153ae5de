-- View of code: the strings of one of several parts.
use Rattle.std.specs.Prelude.{List, []}
use Rattle.cyc_tree.specs.Tree.{Expression}
use Rattle.cyc_tree.specs.View.{OneClause, OneItem, OneSuffix}
use Rattle.cyc_tree.specs.declared.expression.Operator.{Operator}
use Rattle.source_meaning.specs.Strings.{Literal, declaration_strings, expression_strings, items_strings, statement_strings}

abbrev pub link_strings : Operator × Expression → List Literal
link_strings (o, e) = expression_strings e

abbrev pub suffix_strings : OneSuffix → List Literal
suffix_strings (OneSuffix.Index e) = expression_strings e
suffix_strings (OneSuffix.Dot f) = []
suffix_strings (OneSuffix.Arrow f) = []

abbrev pub one_item_strings : OneItem → List Literal
one_item_strings (OneItem.Declare d) = declaration_strings d
one_item_strings (OneItem.Execute s) = statement_strings s

abbrev pub clause_strings : OneClause → List Literal
clause_strings c = items_strings c.body
