-- View of code: what is known of a region name by the way it began.
use Rattle.std.specs.Prelude.{Bool, false, true}
use Rattle.check_regions.specs.declared.begun.Begun.{Begun}
use Rattle.check_regions.specs.declared.begun.Begun.TheVariants.{Block, Name, Variable}

-- whether it is live from its beginning
abbrev pub begins_live : Begun → Bool
begins_live (Variable live over_heap over_later) = live
begins_live Block = true
begins_live (Name live) = live

-- whether it outlives the heap
abbrev pub is_over_heap : Begun → Bool
is_over_heap (Variable live over_heap over_later) = over_heap
is_over_heap Block = false
is_over_heap (Name live) = false

-- whether it outlives the stack and lexical regions that begin later
abbrev pub is_over_later : Begun → Bool
is_over_later (Variable live over_heap over_later) = over_later
is_over_later Block = true
is_over_later (Name live) = false
