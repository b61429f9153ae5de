-- View of code: how statements may be left, in code and by the rules.
use Rattle.std.specs.Prelude.{Bool, true}
use Rattle.cyc_tree.specs.View.{OneItem}
use Rattle.source_typing.specs.Ways.{Ways, ways, ways_of}
use Rattle.check_statements.specs.declared.ways.Ways as code

abbrev pub ways_in : code.Ways → Ways
ways_in w = ways w.falls w.breaks

-- whether the end of an item of a block is reached, where its start is
abbrev pub item_falls : OneItem → Bool
item_falls (OneItem.Declare d) = true
item_falls (OneItem.Execute s) = (ways_of s).falls
