-- Believed: bytes of a text by their kinds, and the numbers that digits stand for.
use Rattle.std.specs.Prelude.{ℕ, ◌+◌, ◌-◌, ◌*◌, List, [], ◌∷◌, Bool, true, ◌&&◌, ◌||◌, nat_eq, nat_le, if◌then◌else◌}

-- low to high, both included
abbrev pub is_between : ℕ → ℕ → ℕ → Bool
is_between low high byte = nat_le low byte && nat_le byte high

abbrev pub is_space : ℕ → Bool
is_space byte = nat_eq byte 32 || is_between 9 13 byte

-- `_` and the letters
abbrev pub is_letter : ℕ → Bool
is_letter byte = nat_eq byte 95 || is_between 65 90 byte || is_between 97 122 byte

abbrev pub is_digit : ℕ → Bool
is_digit byte = is_between 48 57 byte

abbrev pub is_octal_digit : ℕ → Bool
is_octal_digit byte = is_between 48 55 byte

abbrev pub is_hexadecimal_digit : ℕ → Bool
is_hexadecimal_digit byte = is_digit byte || is_between 65 70 byte || is_between 97 102 byte

-- what may stand in a name after its first byte
abbrev pub is_word_byte : ℕ → Bool
is_word_byte byte = is_letter byte || is_digit byte

-- what a digit stands for, to base 16 at most
abbrev pub digit_value : ℕ → ℕ
digit_value byte = (if is_digit byte then byte - 48 else (if is_between 65 70 byte then byte - 55 else byte - 87))

abbrev pub all_bytes : (ℕ → Bool) → List ℕ → Bool
all_bytes test [] = true
all_bytes test (b ∷ bs) = test b && all_bytes test bs

-- what digits stand for, after digits that stand for `before`
abbrev pub value_after : ℕ → ℕ → List ℕ → ℕ
value_after base before [] = before
value_after base before (d ∷ ds) = value_after base (before * base + digit_value d) ds

abbrev pub value_of : ℕ → List ℕ → ℕ
value_of base digits = value_after base 0 digits
