-- Sums of the first values of a function.
use Rattle.std.proofs.Common.{◌≡◌, ℕ, zero, suc, ◌+◌, ◌*◌, ◌<◌, ◌≤◌, Bool, true, false, nat_eq, refl, sym, ap, subst, arith}
use Rattle.std.specs.Prelude.{if◌then◌else◌}
use Rattle.std.proofs.lemmas.Bool.Decides.{nat_tests}
use Rattle.unique_blocks.specs.Slots.{tally, one_if}

pub tally_same : (n : ℕ) (f g : ℕ → ℕ) → ((k : ℕ) → k < n → f k ≡ g k) → tally n f ≡ tally n g
unfolding tally
tally_same zero f g e = refl
tally_same (suc n) f g e =
    let ih = tally_same n f g (λ k l. e k (omega (arith, l))) in let h = e n (omega arith) in omega (arith, ih, h)

-- one value differs
pub tally_change : (n : ℕ) (f g : ℕ → ℕ) (p : ℕ) → p < n → ((k : ℕ) → nat_eq k p ≡ false → g k ≡ f k) → tally n g + f p ≡ tally n f + g p
unfolding tally
tally_change zero f g p l e = absurd (omega (arith, l))
tally_change (suc n) f g p l e = by_last (nat_eq n p) refl (λ m. tally_change n f g p m e)
  where
    by_last : (b : Bool) → nat_eq n p ≡ b → (p < n → tally n g + f p ≡ tally n f + g p) → tally (suc n) g + f p ≡ tally (suc n) f + g p
    by_last true d ih =
        let same : n ≡ p = grind (arith, nat_tests) in
        let rest = tally_same n g f (λ k m. e k (grind (arith, nat_tests))) in
        subst (λ p. tally n g + g n + f p ≡ tally n f + f n + g p) same (omega (arith, rest))
    by_last false d ih = let i = ih (grind (arith, nat_tests)) in let h = e n d in omega (arith, i, h)

pub tally_least : (n : ℕ) (b : ℕ → Bool) → tally n (λ k. one_if (b k)) ≤ n
unfolding tally
tally_least zero b = omega arith
tally_least (suc n) b = by_bit (b n) (tally_least n b)
  where
    by_bit : (t : Bool) → tally n (λ k. one_if (b k)) ≤ n → tally n (λ k. one_if (b k)) + one_if t ≤ suc n
    by_bit true ih = omega (arith, ih)
    by_bit false ih = omega (arith, ih)

pub tally_full : (n : ℕ) (b : ℕ → Bool) → ((k : ℕ) → k < n → b k ≡ true) → tally n (λ k. one_if (b k)) ≡ n
unfolding tally
tally_full zero b e = refl
tally_full (suc n) b e = let ih = tally_full n b (λ k l. e k (omega (arith, l))) in let h = ap one_if (e n (omega arith)) in omega (arith, ih, h)

pub tally_none : (n : ℕ) (f : ℕ → ℕ) → ((k : ℕ) → k < n → f k ≡ 0) → tally n f ≡ 0
unfolding tally
tally_none zero f e = refl
tally_none (suc n) f e = let ih = tally_none n f (λ k l. e k (omega (arith, l))) in let h = e n (omega arith) in omega (arith, ih, h)

pub tally_some : (n : ℕ) (f : ℕ → ℕ) (p : ℕ) → p < n → 0 < f p → 0 < tally n f
unfolding tally
tally_some zero f p l m = absurd (omega (arith, l))
tally_some (suc n) f p l m = by_last (nat_eq n p) refl (λ k. tally_some n f p k m)
  where
    by_last : (b : Bool) → nat_eq n p ≡ b → (p < n → 0 < tally n f) → 0 < tally (suc n) f
    by_last true d ih = let same : n ≡ p = grind (arith, nat_tests) in subst (λ k. 0 < tally n f + f k) (sym same) (omega (arith, m))
    by_last false d ih = let i = ih (grind (arith, nat_tests)) in omega (arith, i)

-- values of those that pass a test, beside how many pass it
module _ (b : ℕ → Bool) (f : ℕ → ℕ) (cap : ℕ) where
  abbrev values : ℕ → ℕ
  values p = (if b p then f p else 0)

  value_most : (p : ℕ) → (b p ≡ true → f p ≤ cap) → values p ≤ one_if (b p) * cap
  value_most p h = by_bit (b p) refl
    where
      by_bit : (t : Bool) → b p ≡ t → (if t then f p else 0) ≤ one_if t * cap
      by_bit true e = let l = h e in omega (arith, l)
      by_bit false e = omega arith

  one_more : (n p : ℕ) → (tally n (λ p. one_if (b p)) + one_if (b p)) * cap ≡ tally n (λ p. one_if (b p)) * cap + one_if (b p) * cap
  one_more n p = by_bit (b p)
    where
      by_bit : (t : Bool) → (tally n (λ p. one_if (b p)) + one_if t) * cap ≡ tally n (λ p. one_if (b p)) * cap + one_if t * cap
      by_bit true = grind arith
      by_bit false = grind arith

  pub tally_most : (n : ℕ) → ((p : ℕ) → p < n → b p ≡ true → f p ≤ cap) → tally n values ≤ tally n (λ p. one_if (b p)) * cap
  unfolding tally
  tally_most zero h = omega arith
  tally_most (suc n) h =
      let ih = tally_most n (λ p l. h p (omega (arith, l))) in let v = value_most n (h n (omega arith)) in let m = one_more n n in
      subst (λ x. tally n values + values n ≤ x) (sym m) (omega (arith, ih, v))

  -- one is short
  pub tally_short : (n p : ℕ) → ((p : ℕ) → p < n → b p ≡ true → f p ≤ cap) → p < n → b p ≡ true → f p < cap →
      tally n values < tally n (λ p. one_if (b p)) * cap
  unfolding tally
  tally_short zero p h l t s = absurd (omega (arith, l))
  tally_short (suc n) p h l t s = by_last (nat_eq n p) refl (λ k. tally_short n p (λ q m. h q (omega (arith, m))) k t s)
    where
      by_last : (d : Bool) → nat_eq n p ≡ d → (p < n → tally n values < tally n (λ p. one_if (b p)) * cap) →
          tally (suc n) values < tally (suc n) (λ p. one_if (b p)) * cap
      by_last true e ih =
          let same : p ≡ n = grind (arith, nat_tests) in
          let t' : b n ≡ true = subst (λ p. b p ≡ true) same t in let s' : f n < cap = subst (λ p. f p < cap) same s in
          let v : values n < one_if (b n) * cap = (rw t' (omega (arith, s'))) in
          let i = tally_most n (λ q m. h q (omega (arith, m))) in let m = one_more n n in
          subst (λ x. tally n values + values n < x) (sym m) (omega (arith, i, v))
      by_last false e ih =
          let i = ih (grind (arith, nat_tests)) in let v = value_most n (h n (omega arith)) in let m = one_more n n in
          subst (λ x. tally n values + values n < x) (sym m) (omega (arith, i, v))

  pub tally_all : (n : ℕ) → ((p : ℕ) → p < n → b p ≡ true → f p ≡ cap) → tally n values ≡ tally n (λ p. one_if (b p)) * cap
  unfolding tally
  tally_all zero h = omega arith
  tally_all (suc n) h =
      let ih = tally_all n (λ p l. h p (omega (arith, l))) in let m = one_more n n in
      subst (λ x. tally n values + values n ≡ x) (sym m) (by_bit (b n) refl ih)
    where
      by_bit : (t : Bool) → b n ≡ t → tally n values ≡ tally n (λ p. one_if (b p)) * cap →
          tally n values + (if t then f n else 0) ≡ tally n (λ p. one_if (b p)) * cap + one_if t * cap
      by_bit true e ih = let l = h n (omega arith) e in omega (arith, ih, l)
      by_bit false e ih = omega (arith, ih)
