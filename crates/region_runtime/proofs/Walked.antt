-- A chain is walked page by page.
use Rattle.std.proofs.Common.{◌≡◌, ℕ, zero, suc, ◌-◌, ◌<◌, Bool, true, false, ◌∷◌, Some, None, nat_eq, nat_lt, refl, sym, ap, ◌∙◌, arith}
use Rattle.std.specs.Prelude.{if◌then◌else◌, ◌&&◌}
use Rattle.std.proofs.lemmas.Bool.Decides.{nat_tests}
use Rattle.arena_laws.specs.Holdings.{is_some}
use Rattle.region_runtime.specs.Chains.{follow, times}
use Rattle.region_runtime.specs.Headers.{owner_of, heap_mark, taken_mark, is_live_number, pages_of, holder_of, holder_by}
use Rattle.region_runtime.proofs.Chains.{follow_zero, follow_more, times_none, times_more}

-- a chain with pages left begins with one
pub walk_more : (next : ℕ → ℕ) (n from : ℕ) → 0 < n → follow next n from ≡ from ∷ follow next (n - 1) (next from)
walk_more next zero from l = absurd (omega (arith, l))
walk_more next (suc n) from l = let e : suc n - 1 ≡ n = omega arith in follow_more next n from ∙ ap (λ k. from ∷ follow next k (next from)) (sym e)

pub times_walked : (next : ℕ → ℕ) (n from page : ℕ) → 0 < n →
    times page (follow next n from) ≡ (if nat_eq page from then suc (times page (follow next (n - 1) (next from))) else times page (follow next (n - 1)
    (next from)))
times_walked next n from page l = ap (times page) (walk_more next n from l) ∙ times_more page from (follow next (n - 1) (next from))

pub walk_found : (next : ℕ → ℕ) (n from page : ℕ) → 0 < n → from ≡ page → true ≡ nat_lt 0 (times page (follow next n from))
walk_found next n from page l e = let t = times_walked next n from page l in grind (arith, nat_tests)

pub walk_here : (next : ℕ → ℕ) (n from : ℕ) → 0 < n → 0 < times from (follow next n from)
walk_here next n from l = let t = times_walked next n from from l in grind (arith, nat_tests)

pub walk_on : (next : ℕ → ℕ) (n from page : ℕ) → 0 < n → (from ≡ page → ⊥) →
    nat_lt 0 (times page (follow next (n - 1) (next from))) ≡ nat_lt 0 (times page (follow next n from))
walk_on next n from page l e =
    let t = times_walked next n from page l in let d : nat_eq page from ≡ false = grind (arith, nat_tests) in
    let s : times page (follow next n from) ≡ times page (follow next (n - 1) (next from)) = t ∙ (rw d refl) in ap (nat_lt 0) (sym s)

pub walk_within : (next : ℕ → ℕ) (n from q : ℕ) → 0 < n → 0 < times q (follow next (n - 1) (next from)) → 0 < times q (follow next n from)
walk_within next n from q l m = let t = times_walked next n from q l in grind (arith, nat_tests)

pub walk_done : (next : ℕ → ℕ) (n from page : ℕ) → n ≡ 0 → false ≡ nat_lt 0 (times page (follow next n from))
walk_done next n from page e = let z = times_none page in sym (ap (λ k. nat_lt 0 (times page (follow next k from))) e
    ∙ ap (λ xs. nat_lt 0 (times page xs)) (follow_zero next from) ∙ ap (nat_lt 0) z)

-- ---- whether a page is held

pub held_heap : (word : ℕ → ℕ → ℕ) (p w : ℕ) → w ≡ owner_of word p → w ≡ heap_mark → true ≡ is_some (holder_of word p)
unfolding holder_by
held_heap word p w e d = let n : nat_eq (owner_of word p) heap_mark ≡ true = grind (arith, nat_tests) in sym (rw n refl)

pub held_taken : (word : ℕ → ℕ → ℕ) (p w : ℕ) → w ≡ owner_of word p → w ≡ taken_mark → false ≡ is_some (holder_of word p)
unfolding holder_by
held_taken word p w e d =
    let n : nat_eq (owner_of word p) heap_mark ≡ false = grind (arith, nat_tests) in
    let m : nat_eq (owner_of word p) taken_mark ≡ true = grind (arith, nat_tests) in sym (rw (n, m) refl)

pub held_by : (word : ℕ → ℕ → ℕ) (p w : ℕ) → w ≡ owner_of word p → (w ≡ heap_mark → ⊥) → (w ≡ taken_mark → ⊥) → (b : Bool) →
    b ≡ is_live_number (owner_of word) w → is_some (holder_of word p) ≡ (if b then nat_lt 0 (times p (pages_of word w)) else false)
unfolding holder_by
held_by word p w e n m b d =
    let n' : nat_eq (owner_of word p) heap_mark ≡ false = grind (arith, nat_tests) in
    let m' : nat_eq (owner_of word p) taken_mark ≡ false = grind (arith, nat_tests) in
    let l : is_live_number (owner_of word) (owner_of word p) ≡ b = ap (is_live_number (owner_of word)) (sym e) ∙ sym d in
    let t : nat_lt 0 (times p (pages_of word (owner_of word p))) ≡ nat_lt 0 (times p (pages_of word w)) = ap (λ k. nat_lt 0 (times p (pages_of
    word k))) (sym e) in
    rw (n', m', l, t) (by_tests b (nat_lt 0 (times p (pages_of word w))))
  where
    by_tests : (c d : Bool) → is_some (if c && d then Some (owner_of word p) else None) ≡ (if c then d else false)
    by_tests true true = refl
    by_tests true false = refl
    by_tests false d = refl
