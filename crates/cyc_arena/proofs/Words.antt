-- What a write to a table of words does to its places and counts.
use Rattle.std.proofs.Common.{◌≡◌, ℕ, zero, suc, ◌+◌, ◌<◌, Bool, true, false, List, [], ◌∷◌, length, Option, Some, None, nat_eq, refl, sym, subst, arith}
use Rattle.std.specs.Prelude.{slice_index, slice_set, if◌then◌else◌}
use Rattle.std.proofs.lemmas.Bool.Decides.{nat_tests}
use Rattle.std.proofs.lemmas.Grind.{common_steps}
use Rattle.arena_laws.specs.declared.standing.Standing.{Standing}
use Rattle.arena_laws.specs.Counts.{put}
use Rattle.cyc_arena.specs.Plain.{count_of, standing_at, Finds}

-- a word stands somewhere, so it is a place of the list
pub is_place : (xs : List ℕ) (q : ℕ) → 0 < slice_index xs q → q < length xs
is_place xs q h = grind (arith, nat_tests, common_steps)

standing_by : (b : Bool) (xs : List (Option Standing)) (h : ℕ) (x : Option Standing) (q : ℕ) → h < length xs → nat_eq q h ≡ b →
    standing_at (slice_set xs h x) q ≡ (if b then x else standing_at xs q)
standing_by true xs h x q l e = grind (arith, nat_tests, common_steps)
standing_by false xs h x q l e = grind (arith, nat_tests, common_steps)

pub standing_set : (xs : List (Option Standing)) (h : ℕ) (x : Option Standing) (q : ℕ) → h < length xs →
    standing_at (slice_set xs h x) q ≡ put h x (standing_at xs) q
standing_set xs h x q l = standing_by (nat_eq q h) xs h x q l refl

pub count_none : (x : ℕ) (ys : List ℕ) → ((q : ℕ) → q < length ys → nat_eq (slice_index ys q) x ≡ false) → count_of x ys ≡ 0
count_none x [] h = refl
count_none x (y ∷ ys) h =
    subst (λ b. (if b then suc (count_of x ys) else count_of x ys) ≡ 0) (sym (h 0 (omega arith)))
    (count_none x ys (λ q l. h (suc q) (omega (arith, l))))

-- a count changes by the word that goes and the word that comes
pub count_set : (x : ℕ) (ys : List ℕ) (p b : ℕ) → p < length ys →
    count_of x (slice_set ys p b) + (if nat_eq (slice_index ys p) x then 1 else 0) ≡ count_of x ys + (if nat_eq b x then 1 else 0)
count_set x [] p b h = absurd (omega (arith, h))
count_set x (y ∷ ys) zero b h = grind (arith, nat_tests, common_steps)
count_set x (y ∷ ys) (suc p) b h = let ih = count_set x ys p b (omega (arith, h)) in grind (arith, nat_tests, common_steps)

-- a word that isn't found isn't counted, and one that is found is
pub none_found : (x : ℕ) (ys : List ℕ) → Finds x ys None → count_of x ys ≡ 0
none_found x ys f = count_none x ys f

pub some_found : (x : ℕ) (ys : List ℕ) (p : ℕ) → Finds x ys (Some p) → nat_eq (count_of x ys) 0 ≡ false
some_found x ys p f = let h = count_set x ys p (suc x) f.0 in let e = f.1 in grind (arith, nat_tests)
