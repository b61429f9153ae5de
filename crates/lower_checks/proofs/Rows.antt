-- The kinds of pointers around each other, from the outside inwards.
use Rattle.std.proofs.Common.{◌≡◌, ◌∙◌, ℕ, suc, ◌+◌, ◌*◌, ◌/◌, ◌%◌, List, [], ◌∷◌, ◌++◌, sym, ap, ap₂, arith}
use Rattle.std.specs.Prelude.{◌==◌}
use Rattle.std.proofs.Math.Nat.{mul-add-mod_self_right}
use Rattle.std.proofs.lemmas.Nat.{div-mul-add}
use Rattle.lower_checks.specs.Signs.{alone_digit, digits_signs, fat_digit, pointing_of, rows_signs, signs_from, signs_of}
use Rattle.lower_checks.specs.declared.signs.Pointing.{Pointing}
use Rattle.lower_checks.specs.declared.signs.Pointing.TheVariants as pointing
use Rattle.lower_checks.specs.declared.signs.Digits.{Digits}
use Rattle.lower_checks.specs.declared.signs.Row.{Row}
use Rattle.lower_checks.specs.declared.signs.Signs.{Signs}

-- ---- in digits

last_pointing : (fat alone : ℕ) (p : Pointing) → pointing_of ((fat * 2 + fat_digit p) % 2 == 1) ((alone * 2 + alone_digit p) % 2 == 1) ≡ p
last_pointing fat alone pointing.Fat =
    ap₂ (λ (f a : ℕ). pointing_of (f == 1) (a == 1)) (mul-add-mod_self_right fat 2 1) (mul-add-mod_self_right alone 2 0)
last_pointing fat alone pointing.Shared =
    ap₂ (λ (f a : ℕ). pointing_of (f == 1) (a == 1)) (mul-add-mod_self_right fat 2 0) (mul-add-mod_self_right alone 2 0)
last_pointing fat alone pointing.Alone =
    ap₂ (λ (f a : ℕ). pointing_of (f == 1) (a == 1)) (mul-add-mod_self_right fat 2 0) (mul-add-mod_self_right alone 2 1)

other_fat : (others : ℕ) (p : Pointing) → (others * 2 + fat_digit p) / 2 ≡ others
other_fat others pointing.Fat = div-mul-add others 2 1 (omega arith)
other_fat others pointing.Shared = div-mul-add others 2 0 (omega arith)
other_fat others pointing.Alone = div-mul-add others 2 0 (omega arith)

other_alone : (others : ℕ) (p : Pointing) → (others * 2 + alone_digit p) / 2 ≡ others
other_alone others pointing.Fat = div-mul-add others 2 0 (omega arith)
other_alone others pointing.Shared = div-mul-add others 2 0 (omega arith)
other_alone others pointing.Alone = div-mul-add others 2 1 (omega arith)

-- one more around these
pub sign_within :
    (more many fat fats alone alones : ℕ) (p : Pointing) → more ≡ many + 1 → fat ≡ fats * 2 + fat_digit p → alone ≡ alones * 2 + alone_digit p →
    signs_from more fat alone ≡ p ∷ signs_from many fats alones
sign_within more many fat fats alone alones p more_is fat_is alone_is =
    let next : more ≡ suc many = omega (arith, more_is) in
    ap (λ (n : ℕ). signs_from n fat alone) next ∙ ap₂ (λ (f a : ℕ). signs_from (suc many) f a) fat_is alone_is
    ∙ ap₂ (λ (q : Pointing) (qs : List Pointing). q ∷ qs) (last_pointing fats alones p)
    (ap₂ (λ (f a : ℕ). signs_from many f a) (other_fat fats p) (other_alone alones p))

-- the outermost one, and those in it
pub sign_out :
    (many less fat alone : ℕ) → many ≡ less + 1 →
    signs_from many fat alone ≡ pointing_of (fat % 2 == 1) (alone % 2 == 1) ∷ signs_from less (fat / 2) (alone / 2)
sign_out many less fat alone is =
    let next : many ≡ suc less = omega (arith, is) in
    ap (λ (n : ℕ). signs_from n fat alone) next

-- ---- in digits, and in the rows within them

-- the outermost one is in the digits
pub first_digit :
    (s t : Signs) (p : Pointing) → digits_signs s.digits ≡ p ∷ digits_signs t.digits → t.rows.now ≡ s.rows.now → signs_of s ≡ p ∷ signs_of t
first_digit s t p out same = ap₂ (λ (xs : List Pointing) (rows : List Row). xs ++ rows_signs rows) out (sym same)

-- it is a row's, where no digit is left of what is around
pub first_row :
    (s t : Signs) (r : Row) → digits_signs s.digits ≡ [] → s.rows.now ≡ r ∷ t.rows.now → t.digits ≡ r.others → signs_of s ≡ r.first ∷ signs_of t
first_row s t r none rows others =
    ap₂ (λ (xs : List Pointing) (rs : List Row). xs ++ rows_signs rs) none rows
    ∙ ap (λ (d : Digits). r.first ∷ (digits_signs d ++ rows_signs t.rows.now)) (sym others)

-- the digits became a row, with one more pointer around them
pub full_row :
    (s t : Signs) (r : Row) (p : Pointing) → digits_signs t.digits ≡ [] → t.rows.now ≡ r ∷ s.rows.now → r.first ≡ p → r.others ≡ s.digits
    → signs_of t ≡ p ∷ signs_of s
full_row s t r p none rows first others =
    first_row t s r none rows (sym others) ∙ ap (λ (q : Pointing). q ∷ signs_of s) first

pub none_out : (s : Signs) → digits_signs s.digits ≡ [] → s.rows.now ≡ [] → signs_of s ≡ []
none_out s digits rows = ap₂ (λ (xs : List Pointing) (rs : List Row). xs ++ rows_signs rs) digits rows
