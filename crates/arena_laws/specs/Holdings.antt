-- Believed: what a store holds beside its bytes, as plain numbers.
use Rattle.std.specs.Prelude.{Option, Some, None, ℕ, ◌+◌, ◌*◌, Bool, true, false, ◌&&◌, nat_le, nat_lt}
use Rattle.arena_laws.specs.declared.owner.Owner.{Owner}
use Rattle.arena_laws.specs.declared.standing.Standing.{Standing}
use Rattle.arena_laws.specs.Counts.{Counts, fresh_counts}

-- A store: its pages, what each live number stands for, the owner of each live address (a region, a key, or a unique block, by its first address and
-- the bytes of its room), and its counts. Its bytes stand apart, by address: no call but a store of a byte changes one.
pub record Holdings : Type 0 where
  pub pages : ℕ
  pub standing : ℕ → Option Standing
  pub owner : ℕ → Option Owner
  pub counts : Counts

-- a store just made: nothing is live
abbrev pub fresh : ℕ → Holdings
fresh pages = record { pages = pages; standing = λ h. None; owner = λ q. None; counts = fresh_counts pages }

-- the arena's first address
abbrev pub arena_base : ℕ
arena_base = 268435456

-- a page has 4,096 bytes of the arena
abbrev pub is_in_arena : Holdings → ℕ → Bool
is_in_arena s at = nat_le arena_base at && nat_lt at (arena_base + s.pages * 4096)

abbrev pub is_none : {A : Type 0} → Option A → Bool
is_none None = true
is_none (Some x) = false

abbrev pub is_some : {A : Type 0} → Option A → Bool
is_some None = false
is_some (Some x) = true

-- an address is live
abbrev pub is_live_in : Holdings → ℕ → Bool
is_live_in s at = is_some (s.owner at)
