-- Bytes from an address on that get values, one unit after the other: a word or a byte.
use Rattle.std.specs.Prelude.{nat_eq, if◌then◌else◌}
use Rattle.std.proofs.Common.{◌≡◌, ℕ, zero, suc, ◌+◌, ◌-◌, ◌*◌, ◌/◌, ◌%◌, ◌^◌, ◌<◌, ◌≤◌, ◌⊎◌, inl, inr, ⊎_elim, Bool, true, false, refl, sym, ap, subst, ◌∙◌}
use Rattle.std.proofs.Common.{arith}
use Rattle.std.proofs.lemmas.Bool.{eq-eqb, cases_lt}
use Rattle.std.proofs.lemmas.Bool.Decides.{nat_tests}
use Rattle.rv32_machine.specs.State.{set_byte, set_word, word_at}
use Rattle.core_lines.specs.Lies.{read}
use Rattle.core_lines.proofs.memory.Bytes.{byte_in_word, other_byte, byte_is_small, word_from_bytes}

-- ---- units

abbrev pub unit_size : Bool → ℕ
unit_size true = 4
unit_size false = 1

abbrev pub get_unit : Bool → (ℕ → ℕ) → ℕ → ℕ
get_unit true b at = word_at b at
get_unit false b at = b at

abbrev pub set_unit : Bool → ℕ → ℕ → (ℕ → ℕ) → ℕ → ℕ
set_unit true at x b = set_word at x b
set_unit false at x b = set_byte at (x % 2 ^ 8) b

pub unit_other : (words : Bool) (at x : ℕ) (b : ℕ → ℕ) (q : ℕ) → (q < at) ⊎ (at + unit_size words ≤ q) → set_unit words at x b q ≡ b q
unit_other true at x b q far = other_byte at x b q far
unit_other false at x b q far = grind (arith, nat_tests)

pub unit_small : (words : Bool) (at x : ℕ) (b : ℕ → ℕ) (q : ℕ) → b q < 256 → set_unit words at x b q < 256
unit_small true at x b q small = byte_is_small at x b q small
unit_small false at x b q small = grind (arith, nat_tests)

byte_here : (at x : ℕ) (b : ℕ → ℕ) (d : ℕ) → d < 1 → set_byte at x b (at + d) ≡ x
byte_here at x b d less = rw (eq-eqb (at + d) at (omega (arith, less))) refl

word_copied : (at from : ℕ) (b : ℕ → ℕ) → ((q : ℕ) → b q < 256) → (d : ℕ) → d < 4 → set_word at (word_at b from) b (at + d) ≡ b (from + d)
word_copied at from b small zero less =
    let first = small from in
    let e : word_at b from / 2 ^ (8 * zero) % 2 ^ 8 ≡ b from = omega (arith, first) in
    let there : from ≡ from + zero = omega arith in
    byte_in_word at (word_at b from) b zero less ∙ e ∙ ap b there
word_copied at from b small (suc zero) less =
    let first = small from in
    let second = small (from + 1) in
    byte_in_word at (word_at b from) b 1 less ∙ omega (arith, first, second)
word_copied at from b small (suc (suc zero)) less =
    let first = small from in
    let second = small (from + 1) in
    let third = small (from + 2) in
    byte_in_word at (word_at b from) b 2 less ∙ omega (arith, first, second, third)
word_copied at from b small (suc (suc (suc zero))) less =
    let first = small from in
    let second = small (from + 1) in
    let third = small (from + 2) in
    let fourth = small (from + 3) in
    byte_in_word at (word_at b from) b 3 less ∙ omega (arith, first, second, third, fourth)
word_copied at from b small (suc (suc (suc (suc d)))) less = absurd (omega (arith, less))

word_cleared : (at : ℕ) (b : ℕ → ℕ) (d : ℕ) → d < 4 → set_word at 0 b (at + d) ≡ 0
word_cleared at b zero less = byte_in_word at 0 b 0 less
word_cleared at b (suc zero) less = byte_in_word at 0 b 1 less
word_cleared at b (suc (suc zero)) less = byte_in_word at 0 b 2 less
word_cleared at b (suc (suc (suc zero))) less = byte_in_word at 0 b 3 less
word_cleared at b (suc (suc (suc (suc d)))) less = absurd (omega (arith, less))

-- a unit that was read elsewhere has its bytes
pub unit_copied : (words : Bool) (at from : ℕ) (b : ℕ → ℕ) → ((q : ℕ) → b q < 256) → (d : ℕ) → d < unit_size words
    → set_unit words at (get_unit words b from) b (at + d) ≡ b (from + d)
unit_copied true at from b small d less = word_copied at from b small d less
unit_copied false at from b small d less =
    let here : d ≡ 0 = omega (arith, less) in
    let fits = small from in
    byte_here at (b from % 2 ^ 8) b d less ∙ (let e : b from % 2 ^ 8 ≡ b from = omega (arith, fits) in e) ∙ ap b (omega (arith, here))

-- and one of 0 has bytes of 0
pub unit_cleared : (words : Bool) (at : ℕ) (b : ℕ → ℕ) (d : ℕ) → d < unit_size words → set_unit words at 0 b (at + d) ≡ 0
unit_cleared true at b d less = word_cleared at b d less
unit_cleared false at b d less = byte_here at 0 b d less

-- ---- so many bytes

-- from an address on so many bytes have these values, and no others have changed
pub record Filled (b b' : ℕ → ℕ) (to n : ℕ) (v : ℕ → ℕ) : Type 0 where
  pub inside : (i : ℕ) → i < n → b' (to + i) ≡ v i
  pub outside : (q : ℕ) → (q < to) ⊎ (to + n ≤ q) → b' q ≡ b q

pub filled_none : (b : ℕ → ℕ) (to : ℕ) (v : ℕ → ℕ) → Filled b b to 0 v
filled_none b to v = record { inside = λ i less. absurd (omega (arith, less)); outside = λ q far. refl }

pub filled_more : (words : Bool) (b b' : ℕ → ℕ) (to i x : ℕ) (v : ℕ → ℕ) → Filled b b' to i v
    → ((d : ℕ) → d < unit_size words → set_unit words (to + i) x b' (to + i + d) ≡ v (i + d))
    → Filled b (set_unit words (to + i) x b') to (i + unit_size words) v
filled_more words b b' to i x v f here = record {
  inside = λ j less. ⊎_elim
      (λ (before : j < i). unit_other words (to + i) x b' (to + j) (inl (omega (arith, before))) ∙ f.inside j before)
      (λ (from : i ≤ j).
      let at : to + i + (j - i) ≡ to + j = omega (arith, from) in
      let same : i + (j - i) ≡ j = omega (arith, from) in
      ap (λ q. set_unit words (to + i) x b' q) (sym at) ∙ here (j - i) (omega (arith, less, from)) ∙ ap v same)
      (cases_lt j i);
  outside = λ q far.
      unit_other words (to + i) x b' q
      (⊎_elim (λ (low : q < to). inl (omega (arith, low))) (λ (high : to + (i + unit_size words) ≤ q). inr (omega (arith, high))) far)
      ∙ f.outside q (⊎_elim (λ (low : q < to). inl low) (λ (high : to + (i + unit_size words) ≤ q). inr (omega (arith, high))) far);
}

-- what is read there, of a byte or a word
pub read_filled : (b b' : ℕ → ℕ) (to n : ℕ) (v : ℕ → ℕ) (o width : ℕ) → Filled b b' to n v → (width ≡ 1) ⊎ (width ≡ 4) → o + width ≤ n
    → read b' (to + o) width ≡ read v o width
read_filled b b' to n v o width f wide within = ⊎_elim
    (λ (one : width ≡ 1). subst (λ k. read b' (to + o) k ≡ read v o k) (sym one) (f.inside o (omega (arith, one, within))))
    (λ (four : width ≡ 4). subst (λ k. read b' (to + o) k ≡ read v o k) (sym four) (by (omega (arith, four, within))))
    wide
  where
    at : (d : ℕ) → o + d < n → b' (to + o + d) ≡ v (o + d)
    at d less = let e : to + o + d ≡ to + (o + d) = omega arith in ap b' e ∙ f.inside (o + d) less

    by : o + 4 ≤ n → word_at b' (to + o) ≡ word_at v o
    by within =
        let zeroth = f.inside o (omega (arith, within)) in
        let first = at 1 (omega (arith, within)) in
        let second = at 2 (omega (arith, within)) in
        let third = at 3 (omega (arith, within)) in
        cc (zeroth, first, second, third)

-- and apart from there
pub read_outside : (b b' : ℕ → ℕ) (to n : ℕ) (v : ℕ → ℕ) (at width : ℕ) → Filled b b' to n v → (width ≡ 1) ⊎ (width ≡ 4)
    → ((d : ℕ) → d < width → (at + d < to) ⊎ (to + n ≤ at + d)) → read b' at width ≡ read b at width
read_outside b b' to n v at width f wide far = ⊎_elim
    (λ (one : width ≡ 1). subst (λ k. read b' at k ≡ read b at k) (sym one) (by_byte (omega (arith, one))))
    (λ (four : width ≡ 4). subst (λ k. read b' at k ≡ read b at k) (sym four) (by_word (omega (arith, four))))
    wide
  where
    one : (d : ℕ) → d < width → b' (at + d) ≡ b (at + d)
    one d less = f.outside (at + d) (far d less)

    by_byte : 1 ≤ width → b' at ≡ b at
    by_byte some = let e : at + 0 ≡ at = omega arith in subst (λ q. b' q ≡ b q) e (one 0 (omega (arith, some)))

    by_word : 4 ≤ width → word_at b' at ≡ word_at b at
    by_word some = word_from_bytes b' b at (by_byte (omega (arith, some))) (one 1 (omega (arith, some))) (one 2 (omega (arith, some)))
        (one 3 (omega (arith, some)))

-- bytes that are counted from an address on
pub read_on : (b : ℕ → ℕ) (from o width : ℕ) → read (λ j. b (from + j)) o width ≡ read b (from + o) width
read_on b from o width = by (nat_eq width 1)
  where
    by : (one : Bool) → (if one then b (from + o) else word_at (λ j. b (from + j)) o) ≡ (if one then b (from + o) else word_at b (from + o))
    by true = refl
    by false =
        let first : from + (o + 1) ≡ from + o + 1 = omega arith in
        let second : from + (o + 2) ≡ from + o + 2 = omega arith in
        let third : from + (o + 3) ≡ from + o + 3 = omega arith in
        cc (ap b first, ap b second, ap b third)
