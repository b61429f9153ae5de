-- The eight classes and their places.
use Rattle.std.proofs.Common.{◌≡◌, ◌<◌, ℕ, Bool, true, false, nat_eq, refl, sym, ap, ◌∙◌, arith}
use Rattle.std.specs.Prelude.{nat_le, if◌then◌else◌}
use Rattle.arena_laws.specs.Counts.{class_of}
use Rattle.unique_blocks.specs.Slots.{place_of}

both_if : (P : ℕ → ℕ → Type 0) (t : Bool) (a b i j : ℕ) → P a i → P b j → P (if t then a else b) (if t then i else j)
both_if P true a b i j x y = x
both_if P false a b i j x y = y

-- what holds of each class and its place
pub by_place : (P : ℕ → ℕ → Type 0) (bytes : ℕ) → P 32 0 → P 64 1 → P 128 2 → P 256 3 → P 512 4 → P 1024 5 → P 2048 6 → P 4096 7 →
    P (class_of bytes) (place_of bytes)
by_place P bytes a b c d e f g h =
    both_if P (nat_le bytes 32) 32 _ 0 _ a (both_if P (nat_le bytes 64) 64 _ 1 _ b (both_if P (nat_le bytes 128) 128 _ 2 _ c
    (both_if P (nat_le bytes 256) 256 _ 3 _ d (both_if P (nat_le bytes 512) 512 _ 4 _ e (both_if P (nat_le bytes 1024) 1024 _ 5 _ f
    (both_if P (nat_le bytes 2048) 2048 4096 6 7 g h))))))

-- the class at a place
size_at : ℕ → ℕ
size_at i =
    (if nat_eq i 0 then 32 else
    if nat_eq i 1 then 64 else
    if nat_eq i 2 then 128 else
    if nat_eq i 3 then 256 else
    if nat_eq i 4 then 512 else
    if nat_eq i 5 then 1024 else
    if nat_eq i 6 then 2048 else 4096)

record IsPlace (c i : ℕ) : Type 0 where
  pub class : class_of c ≡ c
  pub place : place_of c ≡ i
  pub size : size_at i ≡ c

is_place : (bytes : ℕ) → IsPlace (class_of bytes) (place_of bytes)
unfolding size_at
is_place bytes =
    by_place IsPlace bytes (record { class = refl; place = refl; size = refl }) (record { class = refl; place = refl; size = refl })
    (record { class = refl; place = refl; size = refl }) (record { class = refl; place = refl; size = refl })
    (record { class = refl; place = refl; size = refl }) (record { class = refl; place = refl; size = refl })
    (record { class = refl; place = refl; size = refl }) (record { class = refl; place = refl; size = refl })

-- classes at one place are one
pub place_own : (c d : ℕ) → class_of c ≡ c → class_of d ≡ d → place_of d ≡ place_of c → d ≡ c
place_own c d e f g = sym f ∙ sym (is_place d).size ∙ ap size_at g ∙ (is_place c).size ∙ e

pub place_low : (bytes : ℕ) → place_of bytes < 8
place_low bytes = by_place (λ c i. i < 8) bytes (omega arith) (omega arith) (omega arith) (omega arith) (omega arith) (omega arith) (omega arith) (omega arith)
