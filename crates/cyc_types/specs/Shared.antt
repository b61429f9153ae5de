-- View of code: pointers of a type in code: its own, or the innermost of a list that types share and some that stand on them.
use Rattle.std.specs.Prelude.{◌≡◌, ◌++◌, true, List, take, ⊤}
use Rattle.std.specs.List.{list_all}
use Rattle.cyc_types.specs.Pointers.{Pointers, is_closed}
use Rattle.cyc_types.specs.Runs.{IsRun}
use Rattle.cyc_types.specs.declared.layer.Layer.{Layer}
use Rattle.cyc_types.specs.declared.layers.Held.{Held}
use Rattle.cyc_types.specs.declared.layers.Held.TheVariants as held
use Rattle.cyc_types.specs.declared.layers.Layers.TheInside.{Inside}
use Rattle.cyc_types.specs.declared.layers.SharedLayers.{SharedLayers}
use Rattle.cyc_types.specs.declared.pointer_list.PointerList.{PointerList}

-- those of the inner slice, and then those of the outer one
abbrev pub listed : PointerList → List Layer
listed p = p.inner.now ++ p.outer.now

abbrev pub held_items : Held → List Layer
held_items (held.Own own) = own.items
held_items (held.Shared all count outer) = take count all.value.all.items ++ outer.items

abbrev pub pointers_of : Inside → Pointers
pointers_of l = record { items = held_items l.held }

-- what is kept beside a list is true of it
pub record IsKept (s : SharedLayers) : Type 0 where
  pub begins : IsRun s.all.items s.run
  pub closed : s.is_closed ≡ true → list_all is_closed s.all.items ≡ true

abbrev pub IsHeld : Held → Type 0
IsHeld (held.Own own) = ⊤
IsHeld (held.Shared all count outer) = IsKept all.value

abbrev pub AreHeld : Inside → Type 0
AreHeld l = IsHeld l.held
