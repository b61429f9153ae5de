-- View of code: the kinds of pointers around each other, from the outside inwards, and the shape of such pointers.
use Rattle.std.specs.Prelude.{ℕ, zero, suc, ◌==◌, ◌%◌, ◌/◌, Bool, true, false, List, [], ◌∷◌, ◌++◌}
use Rattle.source_meaning.specs.Shapes.{Shape, Shared, Alone, NeverNull, ThinShape, FatShape}
use Rattle.lower_checks.specs.declared.signs.Pointing.{Pointing}
use Rattle.lower_checks.specs.declared.signs.Pointing.TheVariants as pointing
use Rattle.lower_checks.specs.declared.signs.Digits.{Digits}
use Rattle.lower_checks.specs.declared.signs.Row.{Row}
use Rattle.lower_checks.specs.declared.signs.Signs.{Signs}

-- a pointer, by whether it is fat, and else whether it is unique
abbrev pub pointing_of : (fat alone : Bool) → Pointing
pointing_of true alone = pointing.Fat
pointing_of false true = pointing.Alone
pointing_of false false = pointing.Shared

-- so many, by the last binary digits of two numbers
abbrev pub signs_from : (many fat alone : ℕ) → List Pointing
signs_from zero fat alone = []
signs_from (suc n) fat alone = pointing_of (fat % 2 == 1) (alone % 2 == 1) ∷ signs_from n (fat / 2) (alone / 2)

abbrev pub fat_digit : Pointing → ℕ
fat_digit pointing.Fat = 1
fat_digit pointing.Shared = 0
fat_digit pointing.Alone = 0

abbrev pub alone_digit : Pointing → ℕ
alone_digit pointing.Fat = 0
alone_digit pointing.Shared = 0
alone_digit pointing.Alone = 1

abbrev pub digits_signs : Digits → List Pointing
digits_signs d = signs_from d.many d.fat d.alone

-- those of rows, one within the other
abbrev pub rows_signs : List Row → List Pointing
rows_signs [] = []
rows_signs (r ∷ rs) = r.first ∷ (digits_signs r.others ++ rows_signs rs)

-- those in digits, and those of the rows within them
abbrev pub signs_of : Signs → List Pointing
signs_of s = digits_signs s.digits ++ rows_signs s.rows.now

-- pointers around a shape: a fat one, or one that is never NULL
abbrev pub around : List Pointing → Shape → Shape
around [] s = s
around (pointing.Fat ∷ others) s = FatShape (around others s)
around (pointing.Shared ∷ others) s = ThinShape (NeverNull 1) Shared (around others s)
around (pointing.Alone ∷ others) s = ThinShape (NeverNull 1) Alone (around others s)
