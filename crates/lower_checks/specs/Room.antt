-- View of code: numbers of temporaries are words: a phrase is lowered where so many are left behind its first one as cyc_tree's Room counts for it.
use Rattle.std.specs.Prelude.{ℕ, ◌+◌, ◌<◌, ◌^◌}

-- so many temporaries are left behind one
abbrev pub HasRoom : (temporary many : ℕ) → Type 0
HasRoom temporary many = temporary + many < 2 ^ 32
