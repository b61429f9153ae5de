-- What becomes of a pool's chains where a page is taken in hand or a region is freed.
use Rattle.std.proofs.Common.{◌≡◌, ℕ, zero, suc, ◌+◌, ◌-◌, ◌<◌, ◌≤◌, Bool, true, false, ◌++◌, length, nat_eq, nat_lt, refl, sym, ap, subst, ◌∙◌, arith}
use Rattle.std.proofs.Common.{length-append}
use Rattle.std.specs.Prelude.{if◌then◌else◌}
use Rattle.std.proofs.lemmas.Bool.Decides.{nat_tests}
use Rattle.arena_laws.specs.Counts.{put, is_full}
use Rattle.region_runtime.specs.Chains.{follow, times, last_or}
use Rattle.region_runtime.specs.Headers.{put_word, link_of, owner_of, newest_of, count_of, heap_mark, is_live_number, pages_of, current_of}
use Rattle.region_runtime.specs.Pool.{Shape, counts_of}
use Rattle.region_runtime.specs.Sound.{AreChains, IsOrdered, freed_of, no_page, uses}
use Rattle.region_runtime.specs.Steps.{next_page, with_freed, without_fresh, without_page}
use Rattle.region_runtime.proofs.Words.{live_some, live_own}
use Rattle.region_runtime.proofs.Chains.{times_append, follow_more, follow_kept, follow_length, follow_spliced, length_least}
use Rattle.region_runtime.proofs.Blank.{blank_put, blank_more}
use Rattle.region_runtime.proofs.Freeing.{all_freed, dead_now, live_other}
use Rattle.region_runtime.proofs.Places.{page_in_hand, freed_in_hand, unused_in_hand, first_there, live_small, uses_there}

pub pages_are : (word : ℕ → ℕ → ℕ) (h : ℕ) → pages_of word h ≡ follow (link_of word) (count_of word h) (newest_of word h)
unfolding pages_of
pages_are word h = refl

module _ (t : Shape) (s : IsOrdered t no_page) where
  pub few_used : t.ever_used ≤ 4096
  few_used = let a = s.few in let b = s.begun in omega (arith, a, b)

  -- ---- a page is taken in hand

  pub freed_least : t.freed ≤ t.ever_used
  freed_least =
      let l = length_least t.ever_used (freed_of t) (λ x. let o = s.chains.once x in omega (arith, o)) in
      let n = follow_length (link_of t.word) t.freed t.first_freed in omega (arith, l, n)

  first_in_hand : (n : ℕ) → t.freed ≡ suc n → IsOrdered (record t { first_freed = t.word t.first_freed 0; freed = t.freed - 1 }) (page_in_hand t.first_freed)
  first_in_hand n e = record {
    few = s.few;
    begun = s.begun;
    chains = let less : t.freed - 1 ≡ n = omega (arith, e) in
        subst (λ k. AreChains (follow (link_of t.word) k (t.word t.first_freed 0)) (owner_of t.word) (pages_of t.word) t.ever_used
        (page_in_hand t.first_freed)) (sym less)
        (freed_in_hand (owner_of t.word) (pages_of t.word) t.ever_used t.first_freed (follow (link_of t.word) n (t.word t.first_freed 0))
        (subst (λ xs. AreChains xs (owner_of t.word) (pages_of t.word) t.ever_used no_page)
        (ap (λ k. follow (link_of t.word) k t.first_freed) e ∙ follow_more (link_of t.word) n t.first_freed) s.chains));
    rounded = s.rounded;
    within = s.within;
    current = s.current;
    heap = s.heap;
    unused = s.unused;
  }

  pub unused_taken : t.ever_used < t.pages → IsOrdered (without_fresh t) (page_in_hand t.ever_used)
  unused_taken l = record {
    few = s.few;
    begun = omega (arith, l);
    chains = unused_in_hand (owner_of t.word) (pages_of t.word) t.ever_used (freed_of t) s.chains;
    rounded = s.rounded;
    within = s.within;
    current = s.current;
    heap = s.heap;
    unused = blank_more t.word t.ever_used s.unused;
  }

  pub page_taken : is_full (counts_of t) ≡ false → IsOrdered (without_page t) (page_in_hand (next_page t))
  unfolding without_page
  page_taken f = by_freed t.freed refl
    where
      by_freed : (n : ℕ) → t.freed ≡ n → IsOrdered (if nat_lt 0 t.freed then record t {
        first_freed = t.word t.first_freed 0;
        freed = t.freed - 1;
      } else record t { ever_used = t.ever_used + 1 }) (page_in_hand (if nat_lt 0 t.freed then t.first_freed else t.ever_used))
      by_freed (suc n) e =
          let some : nat_lt 0 t.freed ≡ true = grind (arith, nat_tests) in rw some (first_in_hand n e)
      by_freed zero e =
          let none : nat_lt 0 t.freed ≡ false = grind (arith, nat_tests) in
          let l : t.ever_used < t.pages = grind (arith, nat_tests) in rw none (unused_taken l)

  -- ---- a live region's words

  pub live_within : (h : ℕ) → is_live_number (owner_of t.word) h ≡ true → (q : ℕ) → 0 < times q (pages_of t.word h) → q < t.ever_used
  live_within h e q l =
      let u = uses_there (freed_of t) (owner_of t.word) (pages_of t.word) t.ever_used no_page few_used s.chains h q e l in
      let o = s.chains.once q in grind (arith, nat_tests)

  pub first_used : (h : ℕ) → is_live_number (owner_of t.word) h ≡ true → h - 1 < t.ever_used
  first_used h e = live_within h e (h - 1) (first_there (freed_of t) (owner_of t.word) (pages_of t.word) t.ever_used no_page few_used s.chains h e)

  pub count_least : (h : ℕ) → is_live_number (owner_of t.word) h ≡ true → count_of t.word h + t.freed ≤ 4096
  count_least h e =
      let l = length_least t.ever_used (pages_of t.word h ++ freed_of t) each in
      let n = length-append (pages_of t.word h) (freed_of t) in
      let a = follow_length (link_of t.word) t.freed t.first_freed in
      let b = ap length (pages_are t.word h) ∙ follow_length (link_of t.word) (count_of t.word h) (newest_of t.word h) in
      let f = few_used in omega (arith, l, n, a, b, f)
    where
      most : (x : ℕ) (b : Bool) → nat_lt 0 (times x (pages_of t.word h)) ≡ b → times x (pages_of t.word h) ≤ uses (owner_of t.word) (pages_of t.word) x
      most x false l = grind (arith, nat_tests)
      most x true l =
          let u = uses_there (freed_of t) (owner_of t.word) (pages_of t.word) t.ever_used no_page few_used s.chains h x e (grind (arith, nat_tests)) in
          omega (arith, u)

      each : (x : ℕ) → times x (pages_of t.word h ++ freed_of t) + (if nat_lt x t.ever_used then 0 else 1) ≤ 1
      each x =
          let n = times_append x (pages_of t.word h) (freed_of t) in let m = most x (nat_lt 0 (times x (pages_of t.word h))) refl in
          let o = s.chains.once x in omega (arith, n, m, o)

  -- ---- a region's pages are freed
  module _ (h : ℕ) (live : is_live_number (owner_of t.word) h ≡ true) where
    first_off : (g : ℕ) → nat_eq g h ≡ false → is_live_number (owner_of t.word) g ≡ true → times (h - 1) (pages_of t.word g) ≡ 0
    first_off g e d = by_times (nat_lt 0 (times (h - 1) (pages_of t.word g))) refl
      where
        by_times : (b : Bool) → nat_lt 0 (times (h - 1) (pages_of t.word g)) ≡ b → times (h - 1) (pages_of t.word g) ≡ 0
        by_times false l = grind (arith, nat_tests)
        by_times true l =
            let n = s.chains.named g (h - 1) d (grind (arith, nat_tests)) in let o = live_own (owner_of t.word) h live in
            absurd (grind (arith, nat_tests))

    abbrev pub after : Shape
    after = with_freed h t

    pub others : (g : ℕ) → nat_eq g h ≡ false → is_live_number (owner_of t.word) g ≡ true → pages_of after.word g ≡ pages_of t.word g
    others g e d =
        let a = live_some (owner_of t.word) g d in let b = live_some (owner_of t.word) h live in
        let n : nat_eq (g - 1) (h - 1) ≡ false = grind (arith, nat_tests) in
        pages_are after.word g
        ∙ follow_kept (link_of t.word) (h - 1) t.first_freed (count_of t.word g) (newest_of t.word g) (ap (times (h - 1)) (sym
        (pages_are t.word g)) ∙ first_off g e d)
        ∙ sym (pages_are t.word g)

    spliced : freed_of after ≡ pages_of t.word h ++ freed_of t
    spliced =
        let b = live_some (owner_of t.word) h live in
        let there = first_there (freed_of t) (owner_of t.word) (pages_of t.word) t.ever_used no_page few_used s.chains h live in
        let u = uses_there (freed_of t) (owner_of t.word) (pages_of t.word) t.ever_used no_page few_used s.chains h (h - 1) live there in
        let o = s.chains.once (h - 1) in
        let e = pages_are t.word h in
        follow_spliced (link_of t.word) (count_of t.word h) (newest_of t.word h) h (h - 1) t.freed t.first_freed (grind (arith, nat_tests))
        (ap (last_or h) (sym e) ∙ s.chains.first h live)
        (ap (times (h - 1)) (sym e) ∙ (let k : times (h - 1) (pages_of t.word h) ≡ 1 = omega (arith, there, u, o) in k))
        (let k : times (h - 1) (freed_of t) ≡ 0 = omega (arith, there, u, o) in k)
        ∙ ap (λ xs. xs ++ freed_of t) (sym e)

    pub freed_chains : AreChains (pages_of t.word h ++ freed_of t) (put (h - 1) 0 (owner_of t.word)) (pages_of after.word) t.ever_used no_page
    freed_chains = all_freed (freed_of t) (owner_of t.word) (pages_of t.word) t.ever_used few_used s.chains h live (pages_of after.word) others

    pub freed_ordered : IsOrdered after no_page
    freed_ordered = record {
      few = s.few;
      begun = s.begun;
      chains = subst (λ xs. AreChains xs (put (h - 1) 0 (owner_of t.word)) (pages_of after.word) t.ever_used no_page) (sym spliced) freed_chains;
      rounded = s.rounded;
      within = s.within;
      current = λ g e. current_by g (nat_eq g h) refl e;
      heap = λ p e. heap_by p (nat_eq p (h - 1)) refl (s.heap p e);
      unused = let l = first_used h live in
          blank_put (put_word (h - 1) 0 t.first_freed t.word) t.ever_used (h - 1) 1 0 l (blank_put t.word t.ever_used (h - 1) 0 t.first_freed l s.unused);
    }
      where
        current_by : (g : ℕ) (b : Bool) → nat_eq g h ≡ b → is_live_number (owner_of after.word) g ≡ true → 0 < times (current_of after.word g) (pages_of
            after.word g)
        current_by g true e d =
            let same : g ≡ h = grind (arith, nat_tests) in
            let n = dead_now (freed_of t) (owner_of t.word) (pages_of t.word) t.ever_used few_used s.chains h live (pages_of after.word) others in
            absurd (let m : is_live_number (owner_of after.word) g ≡ false = ap (is_live_number (owner_of after.word)) same ∙ n in cc)
        current_by g false e d =
            let was = sym (live_other (freed_of t) (owner_of t.word) (pages_of t.word) t.ever_used few_used s.chains h live (pages_of after.word) others g e)
            ∙ d in
            subst (λ xs. 0 < times (current_of t.word g) xs) (sym (others g e was)) (s.current g was)

        heap_by : (p : ℕ) (b : Bool) → nat_eq p (h - 1) ≡ b → owner_of t.word p ≡ heap_mark → (if b then 0 else owner_of t.word p) ≡ heap_mark
        heap_by p false e o = o
        heap_by p true e o =
            let same : p ≡ h - 1 = grind (arith, nat_tests) in let own = live_own (owner_of t.word) h live in
            let m = live_small (freed_of t) (owner_of t.word) (pages_of t.word) t.ever_used no_page few_used s.chains h live in
            let n : owner_of t.word p ≡ h = ap (owner_of t.word) same ∙ own in absurd (omega (arith, n, m, o))
