-- View of code: what the classes of unique blocks have in common.
use Rattle.std.specs.Prelude.{◌≡◌, ℕ, ◌*◌, ◌/◌, ◌%◌, ◌≤◌}

-- the bytes of a slot: they fill a page, in at most 128 slots
pub record IsClass (c : ℕ) : Type 0 where
  pub whole : 4096 / c * c ≡ 4096
  pub few : 4096 / c ≤ 128
  pub eights : c % 8 ≡ 0
  pub some : 32 ≤ c
