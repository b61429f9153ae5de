use Rattle.std.proofs.Common.{min, nat_lt, ℕ, ◌≡◌, ◌≤◌, if◌then◌else◌}
use Rattle.flow_effects.specs.Touches.{idle_touch, touch_at}
use Rattle.flow_effects.proofs.table.Table.below.Given as goal

-- the locals from `reach` on are forgotten, and no other ones; below the wanted number none is
abbrev pub invariant-each : goal.invariant-each
invariant-each l =
    ((i : ℕ) → touch_at l.touches i ≡ (if nat_lt i l.reach then touch_at l.fn.self.touches i else idle_touch))
    × (l.reach ≤ l.fn.self.count × min l.fn.count l.fn.self.count ≤ l.reach)

abbrev pub decreases-each : goal.decreases-each
decreases-each l = l.reach
