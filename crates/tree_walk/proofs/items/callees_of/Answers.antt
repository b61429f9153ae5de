use Rattle.std.proofs.Common.{◌∙◌, ap, map}
use Rattle.tree_walk.specs.Listing.{name_of}
use Rattle.tree_walk.proofs.Listing.{from_nothing}
use Rattle.tree_walk.proofs.items.callees_of.Goals as goal

-- what was listed are the block's callees
pub returns : goal.returns
returns c =
    ap (λ all. map name_of all.items) c.in_ok-callees.ensures.1
    ∙ from_nothing c.new-found.result c.list_items.new.found _ _ c.new-found.ensures.callees c.list_items.ensures c.in_ok-callees.ensures.0
