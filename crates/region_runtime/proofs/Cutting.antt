-- A block is cut from a last page: what the pool holds then.
use Rattle.std.proofs.Common.{◌≡◌, ℕ, zero, suc, ◌+◌, ◌-◌, ◌*◌, ◌%◌, ◌<◌, ◌≤◌, Bool, true, false, Some, nat_eq, refl, sym, ap, subst, ◌∙◌, arith}
use Rattle.std.specs.Prelude.{if◌then◌else◌}
use Rattle.std.proofs.lemmas.Bool.Decides.{nat_tests}
use Rattle.arena_laws.specs.declared.owner.Owner.TheVariants.{Region}
use Rattle.arena_laws.specs.Counts.{put, block_needs_page, with_block, is_large}
use Rattle.arena_laws.specs.Holdings.{arena_base}
use Rattle.arena_laws.specs.Lawful.{owns, is_lawful_room, with_region_block}
use Rattle.region_runtime.specs.Chains.{times}
use Rattle.region_runtime.specs.Headers.{owner_of, used_of, is_live_number, pages_of, holder_of, holder_by, current_of}
use Rattle.region_runtime.specs.Pool.{Shape, last_of, taken_by, left_of, owner_at, counts_of, holdings_of, tag_by, is_taken_by, word_by}
use Rattle.region_runtime.specs.Sound.{AreChains, IsOrdered, freed_of}
use Rattle.region_runtime.proofs.Blank.{blank_put}
use Rattle.region_runtime.specs.Steps.{with_word}
use Rattle.region_runtime.proofs.Ordered.{pages_are}
use Rattle.region_runtime.proofs.Holders.{holder_taken}
use Rattle.region_runtime.proofs.Owners.{owner_cut, clear_cut, is_lawful}
use Rattle.region_runtime.proofs.Held.{last_held, last_within, last_differs, left_other, left_here}
use Rattle.region_runtime.proofs.Tags.{word_other, tag_same, taken_same, taken_owner, words_same}
use Rattle.region_runtime.proofs.Placed.{not_large}

module _ (t : Shape) (in_hand : ℕ → ℕ) (s : IsOrdered t in_hand) (h q u room : ℕ) (last : last_of t h ≡ q + 1) (used : used_of t.word q ≡ u)
    (fits : u + room ≤ 4096) (eights : room % 8 ≡ 0) where
  abbrev pub cut : Shape
  cut = with_word q 2 (u + room) t

  same_pages : pages_of cut.word ≡ pages_of t.word
  same_pages = λ i g. (pages_are cut.word g ∙ sym (pages_are t.word g)) i

  put_used : (test : ℕ → Type 0) → test (u + room) → ((p : ℕ) → test (used_of t.word p)) → (p : ℕ) → test (put q (u + room) (used_of t.word) p)
  put_used test a f p = by_page (nat_eq p q)
    where
      by_page : (b : Bool) → test (if b then u + room else used_of t.word p)
      by_page true = a
      by_page false = f p

  pub cut_ordered : IsOrdered cut in_hand
  cut_ordered = record {
    few = s.few;
    begun = s.begun;
    chains = subst (λ c. AreChains (freed_of t) (owner_of t.word) c t.ever_used in_hand) (sym same_pages) s.chains;
    rounded = put_used (λ n. n % 8 ≡ 0) (let r = s.rounded q in omega (arith, r, used, eights)) s.rounded;
    within = put_used (λ n. n ≤ 4096) fits s.within;
    current = subst (λ c. (g : ℕ) → is_live_number (owner_of t.word) g ≡ true → 0 < times (current_of t.word g) (c g)) (sym same_pages) s.current;
    heap = s.heap;
    unused = blank_put t.word t.ever_used q 2 (u + room) (last_within t in_hand s h q last) s.unused;
  }

  mine : holder_of t.word q ≡ Some h
  mine = last_held t in_hand s h q last

  pub cut_within : q < t.pages
  cut_within = let l = last_within t in_hand s h q last in let b = s.begun in omega (arith, l, b)

  owners : (r : ℕ) → owner_at (holder_of cut.word) (used_of cut.word) r ≡ owns (arena_base + 4096 * q + u) room (Region h) (owner_at (holder_of t.word)
      (used_of t.word)) r
  owners r =
      ap (λ c. owner_at (holder_by (owner_of t.word) c) (used_of cut.word) r) same_pages
      ∙ owner_cut (holder_of t.word) (used_of t.word) q h u room mine used fits r

  takens : (g : ℕ) → taken_by cut g ≡ taken_by t g
  unfolding taken_by
  takens g = refl

  lasts : (g : ℕ) → last_of cut g ≡ last_of t g
  unfolding last_of
  lasts g = refl

  pub left_now : left_of (used_of t.word) (last_of t h) ≡ 4096 - u
  left_now = left_there (last_of t h) last
    where
      left_there : (r : ℕ) → r ≡ q + 1 → left_of (used_of t.word) r ≡ 4096 - u
      left_there zero e = absurd (omega (arith, e))
      left_there (suc k) e = let n : k ≡ q = omega (arith, e) in ap (λ m. 4096 - used_of t.word m) n ∙ ap (λ m. 4096 - m) used

  left : (g : ℕ) → left_of (used_of cut.word) (last_of cut g) ≡ put h (left_of (used_of t.word) (last_of t h) - room) (λ k. left_of (used_of t.word)
      (last_of t k)) g
  left g = by_number (nat_eq g h) refl
    where
      by_number : (b : Bool) → nat_eq g h ≡ b → left_of (used_of cut.word) (last_of cut g) ≡ (if b then left_of (used_of t.word) (last_of t h) - room
          else left_of (used_of t.word) (last_of t g))
      by_number true e =
          let same : g ≡ h = grind (arith, nat_tests) in
          left_here (used_of t.word) q (u + room) (last_of cut g) (lasts g ∙ ap (last_of t) same ∙ last) ∙ (let l = left_now in omega (arith, l))
      by_number false e =
          ap (left_of (used_of cut.word)) (lasts g)
          ∙ left_other (used_of t.word) q (u + room) (last_of t g) (last_differs t in_hand s g q (Some h) mine (λ k. some_differs k))
        where
          some_differs : Some h ≡ Some g → ⊥
          some_differs k = let n : h ≡ g = cc in grind (arith, nat_tests)

  pub no_page_needed : block_needs_page h room (counts_of t) ≡ false
  no_page_needed = let l = left_now in grind (arith, nat_tests)

  lefts : counts_of cut ≡ record (counts_of t) { left = put h (left_of (used_of t.word) (last_of t h) - room) (λ k. left_of (used_of t.word) (last_of t k)) }
  lefts = λ i. record (counts_of t) { taken = λ g. takens g i; left = λ g. left g i }

  counted : counts_of cut ≡ with_block h room (counts_of t)
  counted = let k : is_large room ≡ false = not_large room (omega (arith, fits)) in let n = no_page_needed in rw (k, n) lefts

  pub cut_holds : holdings_of cut ≡ with_region_block h (arena_base + 4096 * q + u) room (holdings_of t)
  cut_holds = λ i. record (holdings_of t) { owner = λ r. owners r i; counts = counted i }

  pub cut_lawful : is_lawful_room (holdings_of t) (arena_base + 4096 * q + u) room ≡ true
  cut_lawful =
      is_lawful (holdings_of t) (arena_base + 4096 * q + u) room (let r = s.rounded q in omega (arith, r, used)) (omega arith)
      (let b = cut_within in omega (arith, b, fits))
      (clear_cut (holder_of t.word) (used_of t.word) q h u room mine used fits)

  pub cut_tags : tag_by cut.word ≡ tag_by t.word
  cut_tags = λ i g. tag_same t.word cut.word g refl (λ d. refl) i

  pub cut_taken : is_taken_by cut.word ≡ is_taken_by t.word
  cut_taken = λ i r. taken_same t.word cut.word r refl i

  -- a page of a block isn't taken
  not_taken_there : is_taken_by t.word q ≡ false
  not_taken_there = by_test (is_taken_by t.word q) refl
    where
      by_test : (b : Bool) → is_taken_by t.word q ≡ b → is_taken_by t.word q ≡ false
      by_test false e = e
      by_test true e = let n = holder_taken (owner_of t.word) (pages_of t.word) q (taken_owner t.word q e) in let m = mine in cc

  pub cut_words : word_by cut.word ≡ word_by t.word
  cut_words = λ i r f. words_same t.word cut.word r f (taken_same t.word cut.word r refl) (λ d. by_page r f (nat_eq r q) refl d) i
    where
      by_page : (r f : ℕ) (b : Bool) → nat_eq r q ≡ b → is_taken_by t.word r ≡ true → cut.word r f ≡ t.word r f
      by_page r f false e d = word_other q 2 (u + room) t.word r f e
      by_page r f true e d = let same : r ≡ q = grind (arith, nat_tests) in let n = ap (is_taken_by t.word) same ∙ not_taken_there in cc
