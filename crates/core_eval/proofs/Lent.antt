-- Objects that are lent, and their cells.
use Rattle.std.specs.Prelude.{option_map}
use Rattle.std.proofs.Common.{◌≡◌, ℕ, Option, Some, None, refl, Bor}
use Rattle.core_eval.specs.declared.value.Object.{Object}
use Rattle.core_eval.specs.declared.value.Slot.{Slot}
use Rattle.core_eval.specs.Elements.{cells_of}

pub cells_lent : (r : Option (Bor Object)) → option_map cells_of (option_map (λ (o : Bor Object). o.now) r) ≡ option_map (λ (o : Bor Object). cells_of o.now) r
cells_lent None = refl
cells_lent (Some o) = refl

-- the cells of an object, each of which is another one's
pub all_cells : (f g : ℕ → Option Slot) → ((k : ℕ) → f k ≡ g k) → f ≡ g
all_cells f g same = λ i k. same k i
