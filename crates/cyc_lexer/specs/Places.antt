-- Believed: lines and columns.
use Rattle.std.specs.Prelude.{ℕ, ◌+◌, List, [], ◌∷◌, take, min, nat_eq, if◌then◌else◌}

-- the bytes 10 of a text
abbrev pub line_ends : List ℕ → ℕ
line_ends [] = 0
line_ends (b ∷ bs) = (if nat_eq b 10 then 1 + line_ends bs else line_ends bs)

-- the bytes after the last byte 10, after `before` others
abbrev pub since_line_end : ℕ → List ℕ → ℕ
since_line_end before [] = before
since_line_end before (b ∷ bs) = (if nat_eq b 10 then since_line_end 0 bs else since_line_end (before + 1) bs)

-- a number too large for u32 is the greatest
abbrev pub capped : ℕ → ℕ
capped n = min n 4294967295

-- 1 and the bytes 10 before the offset; an offset past the end counts as the end
abbrev pub line_of : List ℕ → ℕ → ℕ
line_of text at = capped (1 + line_ends (take at text))

-- 1 and the bytes since the last of them
abbrev pub column_of : List ℕ → ℕ → ℕ
column_of text at = capped (1 + since_line_end 0 (take at text))
