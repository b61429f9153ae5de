-- Believed: words of 32 bits, as whole numbers modulo 2^32, and what the operations on them give. The rules are those of the RISC-V Unprivileged ISA 20191213,
-- "Integer Computational Instructions" and "Multiplication and Division Operations", which the source language shares.
use Rattle.std.specs.Prelude.{ℕ, ℤ, ◌+◌, ◌-◌, ◌*◌, ◌/◌, ◌%◌, ◌^◌, ◌*ℤ◌, pos, negsuc, nat_lt, nat_eq, if◌then◌else◌}
use Rattle.std.specs.Int.RustNames.{int_div, int_rem}

-- the signed number that a word stands for, in two's complement
abbrev pub signed : ℕ → ℤ
signed a = (if nat_lt a (2 ^ 31) then pos a else negsuc (2 ^ 32 - 1 - a))

-- the word of a whole number, modulo 2^32
abbrev pub word : ℤ → ℕ
word (pos n) = n % 2 ^ 32
word (negsuc n) = 2 ^ 32 - 1 - n % 2 ^ 32

-- a whole number divided by a positive one, rounded down
abbrev pub floor : ℤ → ℕ → ℤ
floor (pos n) d = pos (n / d)
floor (negsuc n) d = negsuc (n / d)

-- a + b, modulo 2^32
abbrev pub sum_of : ℕ → ℕ → ℕ
sum_of a b = (a + b) % 2 ^ 32

-- a - b, modulo 2^32
abbrev pub difference_of : ℕ → ℕ → ℕ
difference_of a b = (a + 2 ^ 32 - b) % 2 ^ 32

-- the lower 32 bits of a * b
abbrev pub product_of : ℕ → ℕ → ℕ
product_of a b = a * b % 2 ^ 32

-- the upper 32 bits of a * b, both signed
abbrev pub upper_signed : ℕ → ℕ → ℕ
upper_signed a b = word (floor (signed a *ℤ signed b) (2 ^ 32))

-- the upper 32 bits of a * b, the left one signed and the right one unsigned
abbrev pub upper_mixed : ℕ → ℕ → ℕ
upper_mixed a b = word (floor (signed a *ℤ pos b) (2 ^ 32))

-- the upper 32 bits of a * b, both unsigned
abbrev pub upper_unsigned : ℕ → ℕ → ℕ
upper_unsigned a b = a * b / 2 ^ 32

-- a / b of signed numbers, rounded towards zero; by zero all ones. -2^31 / -1 is 2^31, whose word is that of -2^31
abbrev pub quotient : ℕ → ℕ → ℕ
quotient a b = (if nat_eq b 0 then 2 ^ 32 - 1 else word (int_div (signed a) (signed b)))

-- a / b of unsigned numbers; by zero all ones
abbrev pub unsigned_quotient : ℕ → ℕ → ℕ
unsigned_quotient a b = (if nat_eq b 0 then 2 ^ 32 - 1 else a / b)

-- what a / b of signed numbers leaves, with the sign of a; by zero a
abbrev pub remainder : ℕ → ℕ → ℕ
remainder a b = (if nat_eq b 0 then a else word (int_rem (signed a) (signed b)))

-- what a / b of unsigned numbers leaves; by zero a
abbrev pub unsigned_remainder : ℕ → ℕ → ℕ
unsigned_remainder a b = (if nat_eq b 0 then a else a % b)

-- a shifted to the left, by the count modulo 32
abbrev pub shifted_left : ℕ → ℕ → ℕ
shifted_left a b = a * 2 ^ (b % 32) % 2 ^ 32

-- a shifted to the right, by the count modulo 32, filled with zeros
abbrev pub shifted_right : ℕ → ℕ → ℕ
shifted_right a b = a / 2 ^ (b % 32)

-- a shifted to the right, by the count modulo 32, filled with its sign
abbrev pub shifted_right_signed : ℕ → ℕ → ℕ
shifted_right_signed a b = word (floor (signed a) (2 ^ (b % 32)))
