-- Believed: readers and writers whose failed calls are counted.
use Rattle.std.specs.Prelude.{ℕ, ◌+◌, ◌-◌, ◌^◌, List, length, nat_lt, nat_eq, if◌then◌else◌, Result, Ok, Err, ◌&&◌}

-- a count of failed calls after one more: it stays at the greatest u64
abbrev pub one_more : ℕ → ℕ
one_more count = (if nat_lt count (2 ^ 64 - 1) then count + 1 else count)

-- the count after a call of `read`: an Err is a failed call
abbrev pub after_read : {E : Type 0} → ℕ → Result ℕ E → ℕ
after_read count (Ok n) = count
after_read count (Err e) = one_more count

-- the count after a call of `write`: an Err is a failed call, and so is a call that takes 0 bytes of some
abbrev pub after_write : {E : Type 0} → ℕ → Result ℕ E → List ℕ → ℕ
after_write count (Ok n) bytes = (if nat_eq n 0 && nat_lt 0 (length bytes) then one_more count else count)
after_write count (Err e) bytes = one_more count
