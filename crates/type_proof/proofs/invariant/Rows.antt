-- Cells in a row: those of several types one after another, and of the elements of an array.
use Rattle.std.proofs.Common.{◌≡◌, ◌<◌, ◌≤◌, ℕ, zero, suc, ◌+◌, Bool, true, false, ◌⊎◌, inl, inr, None, List, [], ◌∷◌, ◌++◌, refl, sym, ◌∙◌, ap, subst, arith}
use Rattle.std.specs.Prelude.{◌*◌, ◌-◌, ◌%◌, map, length, slice_get, nat_lt, if◌then◌else◌}
use Rattle.std.proofs.lemmas.Bool.{cases_lt, lt-ltb, le-ltb, ltb-true, ltb-false}
use Rattle.std.proofs.lemmas.List.{map-append}
use Rattle.std.proofs.Math.Nat.{suc-mul, add-mod_left, mod-eq_of_lt}
use Rattle.source_meaning.specs.Shapes.{Shape}
use Rattle.source_meaning.specs.Memory.{Spot, Cell, array_of, beyond}
use Rattle.source_meaning.specs.Sizes.{repeated}
use Rattle.source_typing.specs.Types.{shape_of}
use Rattle.type_proof.proofs.invariant.Facts.{further, not_further, at_start}
use Rattle.type_proof.proofs.invariant.Invariant.{RunType, Ghost, Laid, AllLaid}
use Rattle.cyc_words.proofs.Lists.{got_before}

-- ---- what lies first, and what lies behind it

pub laid_first : (w : Ghost) (s : Spot) (xs ys : List RunType) → Laid w s (xs ++ ys) → Laid w s xs
laid_first w s [] ys h = tt
laid_first w s (x ∷ xs) ys h = (h.0, laid_first w (beyond s 1) xs ys h.1)

pub laid_rest : (w : Ghost) (s : Spot) (xs ys : List RunType) → Laid w s (xs ++ ys) → Laid w (beyond s (length xs)) ys
laid_rest w s [] ys h = subst (λ (x : Spot). Laid w x ys) (sym (not_further s)) h
laid_rest w s (x ∷ xs) ys h =
    subst (λ (z : Spot). Laid w z ys) (further s 1 (length xs) (length (x ∷ xs)) (omega arith)) (laid_rest w (beyond s 1) xs ys h.1)

-- ---- an array's cells are those of its elements

-- each element of an array whose cells are in a row
pub laid_all : (w : Ghost) (s : Spot) (count : ℕ) (ts : List RunType) → Laid w s (repeated count ts) → AllLaid w s count ts
laid_all w s zero ts h = λ i l. absurd (omega (arith, l))
laid_all w s (suc n) ts h = each (laid_all w (beyond s (length ts)) n ts (laid_rest w s ts (repeated n ts) h))
  where
    added : (a b c : ℕ) → c ≡ b + a → a + b ≡ c
    added a b c e = omega (arith, e)

    each : AllLaid w (beyond s (length ts)) n ts → (i : ℕ) → i < suc n → Laid w (beyond s (i * length ts)) ts
    each others zero l = subst (λ (x : Spot). Laid w x ts) (sym (at_start s (length ts))) (laid_first w s ts (repeated n ts) h)
    each others (suc i) l =
        subst (λ (x : Spot). Laid w x ts)
        (further s (length ts) (i * length ts) (suc i * length ts) (added (length ts) (i * length ts) (suc i * length ts) (suc-mul i (length ts))))
        (others i (omega (arith, l)))

pub map_repeated : {A B : Type 0} (f : A → B) (n : ℕ) (xs : List A) → map f (repeated n xs) ≡ repeated n (map f xs)
map_repeated f zero xs = refl
map_repeated f (suc n) xs = map-append f xs (repeated n xs) ∙ ap (λ ys. map f xs ++ ys) (map_repeated f n xs)

pub got_behind : {A : Type 0} (xs ys : List A) (j : ℕ) → slice_get (xs ++ ys) (length xs + j) ≡ slice_get ys j
got_behind [] ys j = ap (slice_get ys) (omega arith)
got_behind (x ∷ xs) ys j =
    let e : length (x ∷ xs) + j ≡ suc (length xs + j) = omega arith in ap (slice_get (x ∷ (xs ++ ys))) e ∙ got_behind xs ys j

pub array_cells : (n : ℕ) (xs : List Cell) (k : ℕ) → array_of n xs k ≡ slice_get (repeated n xs) k
array_cells zero xs k = ap (λ (c : Bool). if c then slice_get xs (k % length xs) else None) (le-ltb k (0 * length xs) (omega arith))
array_cells (suc n) xs k = by_place (array_cells n xs) (cases_lt k (length xs))
  where
    cells : ℕ
    cells = length xs

    more : (a b c d : ℕ) → d ≡ c + b → a < b → a < d
    more a b c d e l = omega (arith, e, l)

    both : (a b c d : ℕ) → d ≡ c + b → a < c → b + a < d
    both a b c d e l = omega (arith, e, l)

    none : (a b c d : ℕ) → d ≡ c + b → c ≤ a → d ≤ b + a
    none a b c d e l = omega (arith, e, l)

    inside : (j : ℕ) (c : Bool) → nat_lt j (n * cells) ≡ c → nat_lt (cells + j) (suc n * cells) ≡ c
    inside j true e = lt-ltb (cells + j) (suc n * cells) (both j cells (n * cells) (suc n * cells) (suc-mul n cells) (ltb-true j (n * cells) e))
    inside j false e = le-ltb (cells + j) (suc n * cells) (none j cells (n * cells) (suc n * cells) (suc-mul n cells) (ltb-false j (n * cells) e))

    behind : ((j : ℕ) → array_of n xs j ≡ slice_get (repeated n xs) j) → (j : ℕ) → array_of (suc n) xs (cells + j) ≡ slice_get (repeated (suc n) xs) (cells + j)
    behind others j =
        ap (λ (c : Bool). if c then slice_get xs ((cells + j) % cells) else None) (inside j (nat_lt j (n * cells)) refl)
        ∙ (ap (λ (i : ℕ). if nat_lt j (n * cells) then slice_get xs i else None) (add-mod_left cells j)
        ∙ (others j ∙ sym (got_behind xs (repeated n xs) j)))

    by_place : ((j : ℕ) → array_of n xs j ≡ slice_get (repeated n xs) j) → (k < cells) ⊎ (cells ≤ k) → array_of (suc n) xs k ≡ slice_get (repeated (suc n) xs) k
    by_place others (inl l) =
        ap (λ (c : Bool). if c then slice_get xs (k % cells) else None)
        (lt-ltb k (suc n * cells) (more k cells (n * cells) (suc n * cells) (suc-mul n cells) l))
        ∙ (ap (slice_get xs) (mod-eq_of_lt l) ∙ sym (got_before xs (repeated n xs) k l))
    by_place others (inr l) = subst (λ (i : ℕ). array_of (suc n) xs i ≡ slice_get (repeated (suc n) xs) i) (omega (arith, l)) (behind others (k - cells))

-- cells of each element of an array, by the shapes of its types, are in a row
pub array_row : (c : Shape → Cell) (n : ℕ) (ts : List RunType) (j : ℕ)
    → array_of n (map c (map shape_of ts)) j ≡ slice_get (map c (map shape_of (repeated n ts))) j
array_row c n ts j =
    array_cells n (map c (map shape_of ts)) j
    ∙ ap (λ cs. slice_get cs j) (sym (ap (map c) (map_repeated shape_of n ts) ∙ map_repeated c n (map shape_of ts)))
