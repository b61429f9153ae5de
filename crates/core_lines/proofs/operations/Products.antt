-- A product that may be more than a word says: its lower half, or all ones.
use Rattle.std.specs.Prelude.{nat_lt, bit_or, if◌then◌else◌}
use Rattle.std.proofs.Common.{◌≡◌, ℕ, zero, suc, ◌-◌, ◌*◌, ◌/◌, ◌%◌, ◌^◌, ◌≤◌, ◌<◌, ⊎_elim, sym, ap, ◌∙◌, arith}
use Rattle.std.proofs.Math.Nat.{suc-mul}
use Rattle.std.proofs.lemmas.Bool.{lt-ltb, le-ltb, cases_lt}
use Rattle.std.proofs.lemmas.Nat.{le_or_l, or_of_32}
use Rattle.cyc_words.specs.Words.{difference_of}
use Rattle.rv32_machine.specs.Step.{truth}
use Rattle.core_meaning.specs.Operations.{saturated}

saturated_low : (n : ℕ) → n < 2 ^ 32 → saturated n ≡ n
saturated_low n less = ap (λ c. if c then n else 2 ^ 32 - 1) (lt-ltb n (2 ^ 32) less)

saturated_high : (n : ℕ) → 2 ^ 32 - 1 ≤ n → saturated n ≡ 2 ^ 32 - 1
saturated_high n most = ⊎_elim
    (λ (less : n < 2 ^ 32). let e = saturated_low n less in omega (arith, e, less, most))
    (λ (more : 2 ^ 32 ≤ n). ap (λ c. if c then n else 2 ^ 32 - 1) (le-ltb n (2 ^ 32) more))
    (cases_lt n (2 ^ 32))

pub saturated_below : (n : ℕ) → saturated n < 2 ^ 32
saturated_below n = ⊎_elim
    (λ (less : n < 2 ^ 32). let e = saturated_low n less in omega (arith, e, less))
    (λ (more : 2 ^ 32 ≤ n). let e = saturated_high n (omega (arith, more)) in omega (arith, e))
    (cases_lt n (2 ^ 32))

-- a number that isn't all ones is what it was
pub saturated_is : (n : ℕ) → saturated n < 2 ^ 32 - 1 → saturated n ≡ n
saturated_is n few = ⊎_elim
    (λ (less : n < 2 ^ 32). saturated_low n less)
    (λ (more : 2 ^ 32 ≤ n). let e = saturated_high n (omega (arith, more)) in absurd (omega (arith, e, few)))
    (cases_lt n (2 ^ 32))

-- where a factor isn't 0, the other one may be cut off too
pub times_saturated : (count bytes : ℕ) → saturated (count * saturated bytes) ≡ saturated (count * bytes)
times_saturated zero bytes = let e : 0 * saturated bytes ≡ 0 * bytes = omega arith in ap saturated e
times_saturated (suc count) bytes = ⊎_elim
    (λ (less : bytes < 2 ^ 32). ap (λ n. saturated (suc count * n)) (saturated_low bytes less))
    (λ (more : 2 ^ 32 ≤ bytes).
    let cut = saturated_high bytes (omega (arith, more)) in
    let first = suc-mul count (saturated bytes) in
    let second = suc-mul count bytes in
    saturated_high (suc count * saturated bytes) (omega (arith, first, cut)) ∙ sym (saturated_high (suc count * bytes) (omega (arith, second, more))))
    (cases_lt bytes (2 ^ 32))

-- the lower half, where the upper one is 0, and else all ones
pub masked : (n : ℕ) → bit_or (difference_of 0 (truth (nat_lt 0 (n / 2 ^ 32)))) (n % 2 ^ 32) ≡ saturated n
masked n = ⊎_elim
    (λ (less : n < 2 ^ 32).
    let upper : n / 2 ^ 32 ≡ 0 = omega (arith, less) in
    let lower : n % 2 ^ 32 ≡ n = omega (arith, less) in
    ap (λ q. bit_or (difference_of 0 (truth (nat_lt 0 q))) (n % 2 ^ 32)) upper ∙ lower ∙ sym (saturated_low n less))
    (λ (more : 2 ^ 32 ≤ n).
    let some : 0 < n / 2 ^ 32 = omega (arith, more) in
    let ones = le_or_l (2 ^ 32 - 1) (n % 2 ^ 32) in
    let below = or_of_32 (2 ^ 32 - 1) (n % 2 ^ 32) (omega arith) (omega arith) in
    let all : bit_or (2 ^ 32 - 1) (n % 2 ^ 32) ≡ 2 ^ 32 - 1 = omega (arith, ones, below) in
    ap (λ c. bit_or (difference_of 0 (truth c)) (n % 2 ^ 32)) (lt-ltb 0 (n / 2 ^ 32) some) ∙ all ∙ sym (saturated_high n (omega (arith, more))))
    (cases_lt n (2 ^ 32))
