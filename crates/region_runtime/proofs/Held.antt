-- What the counts read: a page's holder, a last page, and how many pages are taken.
use Rattle.std.proofs.Common.{◌≡◌, ℕ, zero, suc, ◌+◌, ◌-◌, ◌<◌, ◌≤◌, Bool, true, false, Option, Some, nat_eq, nat_lt, refl, sym, ap, subst, ◌∙◌, arith}
use Rattle.std.specs.Prelude.{if◌then◌else◌, ◌&&◌}
use Rattle.std.proofs.lemmas.Bool.Decides.{nat_tests}
use Rattle.arena_laws.specs.Counts.{put, one_less, is_full}
use Rattle.region_runtime.specs.Headers.{owner_of, current_of, count_of, heap_mark, is_live_number, pages_of, holder_of, marked, current_of}
use Rattle.region_runtime.specs.Pool.{Shape, last_of, taken_by, left_of, counts_of}
use Rattle.region_runtime.specs.Sound.{IsOrdered, freed_of}
use Rattle.region_runtime.specs.Steps.{without_page}
use Rattle.region_runtime.proofs.Words.{live_some, last_of_heap, last_of_region, last_of_other}
use Rattle.region_runtime.proofs.Places.{live_small, uses_marked, uses_there}
use Rattle.region_runtime.proofs.Holders.{holder_heap, holder_live}

-- ---- a mark is counted

pub marked_put : (m : ℕ) (owner : ℕ → ℕ) (p w n : ℕ) →
    marked m (put p w owner) n + (if nat_lt p n && nat_eq (owner p) m then 1 else 0) ≡ marked m owner n + (if nat_lt p n && nat_eq w m then 1 else 0)
unfolding marked
marked_put m owner p w zero = grind (arith, nat_tests)
marked_put m owner p w (suc n) = by_page (nat_eq n p) refl (marked_put m owner p w n)
  where
    by_page : (b : Bool) → nat_eq n p ≡ b →
        marked m (put p w owner) n + (if nat_lt p n && nat_eq (owner p) m then 1 else 0) ≡ marked m owner n + (if nat_lt p n && nat_eq w m then 1 else 0) →
        (if nat_eq (if nat_eq n p then w else owner n) m then suc (marked m (put p w owner) n) else marked m (put p w owner) n)
        + (if nat_lt p (suc n) && nat_eq (owner p) m then 1 else 0)
        ≡ (if nat_eq (owner n) m then suc (marked m owner n) else marked m owner n) + (if nat_lt p (suc n) && nat_eq w m then 1 else 0)
    by_page false e ih = grind (arith, nat_tests)
    by_page true e ih =
        let same : n ≡ p = grind (arith, nat_tests) in
        let o : owner n ≡ owner p = ap owner same in
        let out : nat_lt p n ≡ false = grind (arith, nat_tests) in
        let here : nat_lt p (suc n) ≡ true = grind (arith, nat_tests) in
        grind (arith, nat_tests)

-- where neither owner is the mark
pub marked_kept : (m : ℕ) (owner : ℕ → ℕ) (p w n : ℕ) → nat_eq (owner p) m ≡ false → nat_eq w m ≡ false → marked m (put p w owner) n ≡ marked m owner n
marked_kept m owner p w n a b = let e = marked_put m owner p w n in grind (arith, nat_tests)

-- ---- the cases of a count

pub taken_heap : (t : Shape) → taken_by t 0 ≡ marked heap_mark (owner_of t.word) t.pages
unfolding taken_by
taken_heap t = refl

pub taken_region : (t : Shape) (h : ℕ) → is_live_number (owner_of t.word) h ≡ true → taken_by t h ≡ count_of t.word h
unfolding taken_by
taken_region t h e = let l = live_some _ h e in let n : nat_eq h 0 ≡ false = grind (arith, nat_tests) in rw (n, e) refl

pub taken_other : (t : Shape) (h : ℕ) → 0 < h → is_live_number (owner_of t.word) h ≡ false → taken_by t h ≡ 0
unfolding taken_by
taken_other t h l e = let n : nat_eq h 0 ≡ false = grind (arith, nat_tests) in rw (n, e) refl

-- ---- a last page is its number's

module _ (t : Shape) (in_hand : ℕ → ℕ) (s : IsOrdered t in_hand) where
  few_used : t.ever_used ≤ 4096
  few_used = let a = s.few in let b = s.begun in omega (arith, a, b)

  pub current_held : (h : ℕ) → is_live_number (owner_of t.word) h ≡ true → holder_of t.word (current_of t.word h) ≡ Some h
  current_held h e =
      holder_live (owner_of t.word) (pages_of t.word) (current_of t.word h) h (s.chains.named h (current_of t.word h) e (s.current h e))
      (live_small (freed_of t) (owner_of t.word) (pages_of t.word) t.ever_used in_hand few_used s.chains h e) e (s.current h e)

  pub last_held : (h q : ℕ) → last_of t h ≡ q + 1 → holder_of t.word q ≡ Some h
  last_held zero q e = holder_heap (owner_of t.word) (pages_of t.word) q (s.heap q (sym (last_of_heap t 0 refl) ∙ e))
  last_held (suc g) q e = by_live (is_live_number (owner_of t.word) (suc g)) refl
    where
      by_live : (b : Bool) → is_live_number (owner_of t.word) (suc g) ≡ b → holder_of t.word q ≡ Some (suc g)
      by_live false d = let z = last_of_other t (suc g) (omega arith) d in absurd (omega (arith, z, e))
      by_live true d =
          let l = last_of_region t (suc g) d in let same : current_of t.word (suc g) ≡ q = omega (arith, l, e) in
          ap (holder_of t.word) (sym same) ∙ current_held (suc g) d

  -- so pages that others hold aren't its last
  pub last_differs : (h q : ℕ) (o : Option ℕ) → holder_of t.word q ≡ o → (o ≡ Some h → ⊥) → nat_eq (last_of t h) (q + 1) ≡ false
  last_differs h q o e n = by_test (nat_eq (last_of t h) (q + 1)) refl
    where
      by_test : (b : Bool) → nat_eq (last_of t h) (q + 1) ≡ b → nat_eq (last_of t h) (q + 1) ≡ false
      by_test false d = d
      by_test true d = absurd (n (sym e ∙ last_held h q (grind (arith, nat_tests))))

-- what is left is the same where another page's bytes are used
pub left_other : (used : ℕ → ℕ) (p x r : ℕ) → nat_eq r (p + 1) ≡ false → left_of (put p x used) r ≡ left_of used r
left_other used p x zero e = refl
left_other used p x (suc k) e = let n : nat_eq k p ≡ false = grind (arith, nat_tests) in rw n refl

pub left_here : (used : ℕ → ℕ) (p x r : ℕ) → r ≡ p + 1 → left_of (put p x used) r ≡ 4096 - x
left_here used p x zero e = absurd (omega (arith, e))
left_here used p x (suc k) e = let n : nat_eq k p ≡ true = grind (arith, nat_tests) in rw n refl

-- ---- a page is taken in hand

pub record IsLess (t u : Shape) : Type 0 where
  pub pages : u.pages ≡ t.pages
  pub word : u.word ≡ t.word
  pub heap_last : u.heap_last ≡ t.heap_last
  pub fresh : u.pages - u.ever_used ≡ (one_less (counts_of t)).fresh
  pub given : u.freed ≡ (one_less (counts_of t)).given

pub page_less : (t : Shape) → t.ever_used ≤ t.pages → is_full (counts_of t) ≡ false → IsLess t (without_page t)
unfolding without_page
page_less t l f = by_freed (nat_lt 0 t.freed) refl
  where
    by_freed : (b : Bool) → nat_lt 0 t.freed ≡ b → IsLess t (if b then record t {
      first_freed = t.word t.first_freed 0;
      freed = t.freed - 1;
    } else record t { ever_used = t.ever_used + 1 })
    by_freed true e = record { pages = refl; word = refl; heap_last = refl; fresh = grind (arith, nat_tests); given = grind (arith, nat_tests) }
    by_freed false e = record { pages = refl; word = refl; heap_last = refl; fresh = grind (arith, nat_tests); given = grind (arith, nat_tests) }

-- a last page was used
pub last_within : (t : Shape) (in_hand : ℕ → ℕ) → IsOrdered t in_hand → (h q : ℕ) → last_of t h ≡ q + 1 → q < t.ever_used
last_within t in_hand s zero q e =
    let m = s.heap q (sym (last_of_heap t 0 refl) ∙ e) in
    let u = uses_marked (owner_of t.word) (pages_of t.word) q (omega (arith, m)) in let o = s.chains.once q in grind (arith, nat_tests)
last_within t in_hand s (suc g) q e = by_live (is_live_number (owner_of t.word) (suc g)) refl
  where
    by_live : (b : Bool) → is_live_number (owner_of t.word) (suc g) ≡ b → q < t.ever_used
    by_live false d = let z = last_of_other t (suc g) (omega arith) d in absurd (omega (arith, z, e))
    by_live true d =
        let l = last_of_region t (suc g) d in let same : current_of t.word (suc g) ≡ q = omega (arith, l, e) in
        let n = s.current (suc g) d in
        let few : t.ever_used ≤ 4096 = (let a = s.few in let b = s.begun in omega (arith, a, b)) in
        let u = uses_there (freed_of t) (owner_of t.word) (pages_of t.word) t.ever_used in_hand few s.chains (suc g) (current_of t.word (suc g)) d n in
        let o = s.chains.once (current_of t.word (suc g)) in
        let k : current_of t.word (suc g) < t.ever_used = grind (arith, nat_tests) in subst (λ r. r < t.ever_used) same k
