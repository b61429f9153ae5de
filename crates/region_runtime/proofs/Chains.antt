-- Chains of pages, which are kept by writes elsewhere and joined by one write of a link.
use Rattle.std.proofs.Common.{
  ◌≡◌,
  ℕ,
  zero,
  suc,
  ◌+◌,
  ◌<◌,
  ◌≤◌,
  Bool,
  true,
  false,
  List,
  [],
  ◌∷◌,
  ◌++◌,
  length,
  nat_eq,
  nat_lt,
  refl,
  sym,
  ap,
  subst,
  ◌∙◌,
  arith,
}
use Rattle.std.specs.Prelude.{if◌then◌else◌}
use Rattle.std.proofs.lemmas.Bool.Decides.{nat_tests}
use Rattle.arena_laws.specs.Counts.{put}
use Rattle.region_runtime.specs.Chains.{follow, times, last_or}

pub follow_zero : (next : ℕ → ℕ) (from : ℕ) → follow next 0 from ≡ []
unfolding follow
follow_zero next from = refl

pub follow_more : (next : ℕ → ℕ) (n from : ℕ) → follow next (suc n) from ≡ from ∷ follow next n (next from)
unfolding follow
follow_more next n from = refl

pub times_none : (x : ℕ) → times x [] ≡ 0
unfolding times
times_none x = refl

pub times_more : (x y : ℕ) (ys : List ℕ) → times x (y ∷ ys) ≡ (if nat_eq x y then suc (times x ys) else times x ys)
unfolding times
times_more x y ys = refl

pub times_append : (x : ℕ) (xs ys : List ℕ) → times x (xs ++ ys) ≡ times x xs + times x ys
unfolding times
times_append x [] ys = omega arith
times_append x (y ∷ xs) ys = let ih = times_append x xs ys in grind (arith, nat_tests)

pub follow_length : (next : ℕ → ℕ) (n from : ℕ) → length (follow next n from) ≡ n
unfolding follow
follow_length next zero from = refl
follow_length next (suc n) from = let ih = follow_length next n (next from) in omega (arith, ih)

-- a write of a link off the chain
pub follow_kept : (next : ℕ → ℕ) (k v n from : ℕ) → times k (follow next n from) ≡ 0 → follow (put k v next) n from ≡ follow next n from
unfolding follow times
follow_kept next k v zero from e = refl
follow_kept next k v (suc n) from e =
    let other : nat_eq from k ≡ false = grind (arith, nat_tests) in
    let rest : times k (follow next n (next from)) ≡ 0 = grind (arith, nat_tests) in
    let same : put k v next from ≡ next from = rw other refl in
    ap (λ m. from ∷ follow (put k v next) n m) same ∙ ap (λ xs. from ∷ xs) (follow_kept next k v n (next from) rest)

-- the last page of a list is on it
pub times_last : (d x : ℕ) (xs : List ℕ) → last_or d xs ≡ x → nat_eq x d ≡ false → 0 < times x xs
unfolding times last_or
times_last d x [] e n = absurd (grind (arith, nat_tests))
times_last d x (y ∷ ys) e n = by_head (nat_eq x y) refl (λ h. times_last y x ys e h)
  where
    by_head : (b : Bool) → nat_eq x y ≡ b → (nat_eq x y ≡ false → 0 < times x ys) → 0 < times x (y ∷ ys)
    by_head true h ih = grind (arith, nat_tests)
    by_head false h ih = let l = ih h in grind (arith, nat_tests)

-- a page more in front changes no last page
pub last_more : (d p : ℕ) (xs : List ℕ) (x : ℕ) → nat_eq x d ≡ false → last_or d xs ≡ x → last_or d (p ∷ xs) ≡ x
unfolding last_or
last_more d p [] x n e = absurd (grind (arith, nat_tests))
last_more d p (y ∷ ys) x n e = e

pub last_one : (d p : ℕ) → last_or d (p ∷ []) ≡ p
unfolding last_or
last_one d p = refl

-- a chain whose last page's link is set to another chain goes on along that
pub follow_spliced : (next : ℕ → ℕ) (n from d last m x : ℕ) → nat_eq last d ≡ false → last_or d (follow next n from) ≡ last →
    times last (follow next n from) ≡ 1 → times last (follow next m x) ≡ 0 →
    follow (put last x next) (n + m) from ≡ follow next n from ++ follow next m x
unfolding follow times last_or
follow_spliced next zero from d last m x o e t f = absurd (grind (arith, nat_tests))
follow_spliced next (suc n) from d last m x o e t f =
    let more : suc n + m ≡ suc (n + m) = omega arith in
    subst (λ k. follow (put last x next) k from ≡ from ∷ (follow next n (next from) ++ follow next m x)) (sym more)
    (by_head (nat_eq last from) refl (λ h rest. follow_spliced next n (next from) from last m x h e rest f))
  where
    at_end : (k : ℕ) → nat_eq last from ≡ true → last_or from (follow next k (next from)) ≡ last → times last (follow next k (next from)) ≡ 0 →
        from ∷ follow (put last x next) (k + m) x ≡ from ∷ (follow next k (next from) ++ follow next m x)
    at_end zero h e t = (let z : 0 + m ≡ m = omega arith in ap (λ r. from ∷ follow (put last x next) r x) z)
        ∙ ap (λ xs. from ∷ xs) (follow_kept next last x m x f)
    at_end (suc k) h e t =
        let l = times_last (next from) last (follow next k (next (next from))) e (grind (arith, nat_tests)) in absurd (grind (arith, nat_tests))

    by_head : (b : Bool) → nat_eq last from ≡ b → (nat_eq last from ≡ false → times last (follow next n (next from)) ≡ 1 →
        follow (put last x next) (n + m) (next from) ≡ follow next n (next from) ++ follow next m x) →
        from ∷ follow (put last x next) (n + m) (put last x next from) ≡ from ∷ (follow next n (next from) ++ follow next m x)
    by_head true h ih =
        let same : put last x next from ≡ x = (let g : nat_eq from last ≡ true = grind (arith, nat_tests) in rw g refl) in
        ap (λ k. from ∷ follow (put last x next) (n + m) k) same ∙ at_end n h e (grind (arith, nat_tests))
    by_head false h ih =
        let same : put last x next from ≡ next from = (let g : nat_eq from last ≡ false = grind (arith, nat_tests) in rw g refl) in
        let rest : times last (follow next n (next from)) ≡ 1 = grind (arith, nat_tests) in
        ap (λ k. from ∷ follow (put last x next) (n + m) k) same ∙ ap (λ xs. from ∷ xs) (ih h rest)

-- ---- lists of pages below a bound, each at most once, are no longer than the bound

unfoldable total : ℕ → List ℕ → ℕ
total zero xs = 0
total (suc n) xs = total n xs + times n xs

total_none : (n : ℕ) → total n [] ≡ 0
unfolding total times
total_none zero = refl
total_none (suc n) = let ih = total_none n in omega (arith, ih)

total_more : (n x : ℕ) (xs : List ℕ) → total n (x ∷ xs) ≡ total n xs + (if nat_lt x n then 1 else 0)
unfolding total times
total_more zero x xs = grind (arith, nat_tests)
total_more (suc n) x xs = let ih = total_more n x xs in grind (arith, nat_tests)

total_length : (n : ℕ) (xs : List ℕ) → ((x : ℕ) → 0 < times x xs → x < n) → total n xs ≡ length xs
unfolding times
total_length n [] h = total_none n
total_length n (x ∷ xs) h =
    let ih = total_length n xs (λ y l. h y (grind (arith, nat_tests))) in
    let here = h x (grind (arith, nat_tests)) in
    let t = total_more n x xs in
    grind (arith, nat_tests)

total_least : (n : ℕ) (xs : List ℕ) → ((x : ℕ) → times x xs ≤ 1) → total n xs ≤ n
unfolding total
total_least zero xs h = omega arith
total_least (suc n) xs h = let ih = total_least n xs h in let t = h n in omega (arith, ih, t)

pub length_least : (n : ℕ) (xs : List ℕ) → ((x : ℕ) → times x xs + (if nat_lt x n then 0 else 1) ≤ 1) → length xs ≤ n
length_least n xs h =
    let t = total_length n xs (λ x l. let k = h x in grind (arith, nat_tests)) in
    let l = total_least n xs (λ x. let k = h x in omega (arith, k)) in
    omega (arith, t, l)
