-- View of code: types of handles and of keys as they are read.
use Rattle.std.specs.Prelude.{Bool, Option, false, true}
use Rattle.source_typing.specs.Regions.{Region}
use Rattle.source_typing.specs.Types.{PartialType}
use Rattle.cyc_tree.specs.Tree as tree
use Rattle.source_typing.specs.Types as type

abbrev pub is_key_base : tree.Base → Bool
is_key_base (tree.Key r) = true
is_key_base b = false

-- the base of a handle's or a key's type
abbrev pub region_base : Bool → tree.RegionName → tree.Base
region_base true r = tree.Key r
region_base false r = tree.Handle r

-- a handle's or a key's type
abbrev pub region_type : Bool → Option Region → PartialType
region_type true r = type.Key r
region_type false r = type.Handle r
