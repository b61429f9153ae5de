-- View of code: there is room for each function of a program.
use Rattle.std.specs.Prelude.{List, [], ◌∷◌}
use Rattle.cyc_tree.specs.Tree.{FunctionItem, Item}
use Rattle.cyc_tree.specs.Room.{function_room}
use Rattle.lower_checks.specs.Room.{HasRoom}

abbrev pub IsRoomy : Item → Type 0
IsRoomy (FunctionItem f) = HasRoom 0 (function_room f)
IsRoomy _ = Unit {0}

abbrev pub AreRoomy : List Item → Type 0
AreRoomy [] = Unit {0}
AreRoomy (i ∷ items) = IsRoomy i × AreRoomy items
