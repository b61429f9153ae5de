-- Believed: the law of each call of a store: what any lawful store does, and Full exactly where the counts say so.
use Rattle.std.specs.Prelude.{◌≡◌, Option, Some, None, ℕ, Bool, true, false, ◌&&◌, if◌then◌else◌, Result, Ok, Err}
use Rattle.arena_laws.specs.declared.refusal.StoreRefusal.{StoreRefusal}
use Rattle.arena_laws.specs.declared.refusal.StoreRefusal.TheVariants.{Full, Memory}
use Rattle.arena_laws.specs.declared.standing.Standing.{Standing}
use Rattle.arena_laws.specs.declared.standing.Standing.TheVariants.{Lexical, Closed}
use Rattle.arena_laws.specs.Counts.{put, is_full, is_full_for_block, is_full_for_slot}
use Rattle.arena_laws.specs.Holdings.{Holdings, is_in_arena}
use Rattle.arena_laws.specs.Lawful.{Answer, Grants, Refuses, Lacks, Done, refuses, makes, takes_blocks}
use Rattle.arena_laws.specs.Lawful as lawful

-- ---- the answer is read off the result

abbrev pub refused_by : StoreRefusal → Answer
refused_by Memory = Lacks
refused_by _ = Refuses

abbrev pub answer_of : Result ℕ StoreRefusal → Answer
answer_of (Ok n) = Grants n
answer_of (Err why) = refused_by why

-- a result without a number
abbrev pub unit_result : Result (Unit {0}) StoreRefusal → Result ℕ StoreRefusal
unit_result (Ok x) = Ok 0
unit_result (Err why) = Err why

-- a call said and left what its law says
pub record Does (result : Result ℕ StoreRefusal) (after : Holdings) (done : Done) : Type 0 where
  pub says : result ≡ done.says
  pub holds : after ≡ done.after

abbrev pub is_refused_full : Result ℕ StoreRefusal → Bool
is_refused_full (Ok n) = false
is_refused_full (Err Full) = true
is_refused_full (Err _) = false

-- ---- the growing calls: Full where a page is needed and none is free, a run and too few pages were never used, or the block is too long; else as
-- any lawful store

-- a region or a key, as its standing says
abbrev pub made : Standing → Answer → Holdings → Done
made standing answer s = (if is_full s.counts then refuses Full s else makes standing answer s)

abbrev pub region_new : Answer → Holdings → Done
region_new answer s = made Lexical answer s

abbrev pub key_new : Answer → Holdings → Done
key_new answer s = made Closed answer s

-- a handle in order, and no room for the block
abbrev pub is_block_refused : ℕ → ℕ → Holdings → Bool
is_block_refused h bytes s = takes_blocks h (s.standing h) && is_full_for_block h bytes s.counts

abbrev pub region_alloc : ℕ → ℕ → Answer → Holdings → Done
region_alloc h bytes answer s = (if is_block_refused h bytes s then refuses Full s else lawful.region_alloc h bytes answer s)

abbrev pub unique_alloc : ℕ → Answer → Holdings → Done
unique_alloc bytes answer s = (if is_full_for_slot bytes s.counts then refuses Full s else lawful.unique_alloc bytes answer s)

-- ---- bytes: the last one stored, or 0

abbrev pub loaded : ℕ → Holdings → (ℕ → ℕ) → Option ℕ
loaded at s bytes = (if is_in_arena s at then Some (bytes at) else None)

abbrev pub stored : ℕ → ℕ → Holdings → (ℕ → ℕ) → ℕ → ℕ
stored at byte s bytes = (if is_in_arena s at then put at byte bytes else bytes)
