-- View of code: where code stands, as the definition of code has it.
use Rattle.std.specs.Prelude.{ℕ, ◌+◌, ◌-◌, ◌*◌, ◌/◌, nat_le, if◌then◌else◌, Bool, true, false, List, drop, map, reverse}
use Rattle.core_lines.specs.Choosing.{far}
use Rattle.core_lines.specs.Selected.{Surroundings, too_many}
use Rattle.cyc_core.specs.declared.operation.Operation.{Operation}
use Rattle.cyc_core.specs.declared.operation.Operation.TheVariants as operation
use Rattle.rv32_select.specs.declared.place.Place.{Place}

-- each label may be out of a branch's reach
abbrev pub surroundings : Place → Surroundings
surroundings p = record {
  wide = far;
  passed = p.passed;
  exit = p.exit;
  own = p.own.items;
  blocks = map (λ scope. scope.offsets.items) p.blocks.items;
  homes = map (λ scope. scope.homes.items) p.blocks.items;
  names = drop p.named p.homes.items;
  low = p.low;
  statics = p.statics.items;
  held = p.held;
}

-- which of the results to come are saved
abbrev pub saves_left : Place → List Bool
saves_left p = reverse p.saves.items

-- the bytes of a frame in which blocks reach so high
abbrev pub framed : ℕ → ℕ
framed most = (if nat_le most (too_many - 16) then (most + 15) / 16 * 16 else too_many)

-- the operations that call the environment
abbrev pub calls_environment : Operation → Bool
calls_environment (operation.Constant t word) = false
calls_environment (operation.NullPointer t) = false
calls_environment (operation.Move t x) = false
calls_environment (operation.Narrow t x) = false
calls_environment (operation.Apply o t x y) = false
calls_environment (operation.LocalAddress t v) = false
calls_environment (operation.OwnAddress t object) = false
calls_environment (operation.DataAddress t object) = false
calls_environment (operation.Get w t v) = false
calls_environment (operation.Put w x v) = false
calls_environment (operation.Offset t p cells bytes) = false
calls_environment (operation.Element t p i cells bytes) = false
calls_environment (operation.Load t p d) = false
calls_environment (operation.Store p d x) = false
calls_environment (operation.IsNull t p) = false
calls_environment (operation.SamePlace t p q) = false
calls_environment (operation.Getchar t) = true
calls_environment (operation.Putchar t x) = true
calls_environment (operation.HeapHandle t) = false
calls_environment (operation.RegionNew t) = true
calls_environment (operation.RegionFree h) = true
calls_environment (operation.UniqueFree p) = true
calls_environment (operation.KeyNew t) = true
calls_environment (operation.KeyOpen k) = true
calls_environment (operation.KeyClose k) = true
calls_environment (operation.KeyFree k) = true
