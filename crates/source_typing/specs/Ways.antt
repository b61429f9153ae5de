-- Believed: how a statement may be left, on the tree alone. What follows `return`, `break` or `continue` isn't reachable; the end of an `if` is where one of
-- its ways is; the end of a `while` always is, if its start is; the end of a `switch` is where a reachable `break` leaves it.
use Rattle.std.specs.Prelude.{Bool, false, true, ◌&&◌, ◌||◌}
use Rattle.cyc_tree.specs.Tree.{BlockItems, Clauses, Declare, Execute, MoreClauses, NoClauses, NoItems, Statement}

-- whether the end is reachable, and a `break` that leaves it
pub record Ways : Type 0 where
  pub falls : Bool
  pub breaks : Bool

abbrev pub ways : Bool → Bool → Ways
ways falls breaks = record { falls = falls; breaks = breaks }

abbrev pub then_ways : Ways → Ways → Ways
then_ways a b = ways (a.falls && b.falls) (a.breaks || (a.falls && b.breaks))

abbrev pub either_way : Ways → Ways → Ways
either_way a b = ways (a.falls || b.falls) (a.breaks || b.breaks)

abbrev mutual
  pub ways_of : Statement → Ways
  ways_of (Statement.Block at items) = ways_of_items items
  ways_of (Statement.If at condition body) = either_way (ways_of body) (ways true false)
  ways_of (Statement.IfElse at condition body otherwise) = either_way (ways_of body) (ways_of otherwise)
  ways_of (Statement.While at condition body) = ways true false
  ways_of (Statement.Switch at place clauses) = ways (breaks_of clauses) false
  ways_of (Statement.Break at) = ways false true
  ways_of (Statement.Continue at) = ways false false
  ways_of (Statement.Return at v) = ways false false
  ways_of (Statement.Empty at) = ways true false
  ways_of (Statement.Run e) = ways true false
  ways_of (Statement.Exchange a b) = ways true false
  ways_of (Statement.FreeUnique at p) = ways true false
  ways_of (Statement.FreeKey at k) = ways true false

  pub ways_of_items : BlockItems → Ways
  ways_of_items NoItems = ways true false
  ways_of_items (Declare d others) = ways_of_items others
  ways_of_items (Execute s others) = then_ways (ways_of s) (ways_of_items others)

  pub breaks_of : Clauses → Bool
  breaks_of NoClauses = false
  breaks_of (MoreClauses at pattern body others) = (ways_of_items body).breaks || breaks_of others
