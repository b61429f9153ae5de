-- What becomes of a pool's chains where a page in hand goes to its taker, to the heap or to a region.
use Rattle.std.proofs.Common.{◌≡◌, ℕ, suc, ◌+◌, ◌-◌, ◌%◌, ◌<◌, ◌≤◌, Bool, true, false, [], ◌∷◌, nat_eq, refl, sym, ap, subst, ◌∙◌, arith}
use Rattle.std.specs.Prelude.{if◌then◌else◌}
use Rattle.std.proofs.lemmas.Bool.Decides.{nat_tests}
use Rattle.arena_laws.specs.Counts.{put}
use Rattle.region_runtime.specs.Chains.{follow, times}
use Rattle.region_runtime.specs.Headers.{AreBlank, put_word, link_of, owner_of, used_of, newest_of, count_of, heap_mark, taken_mark, is_live_number, pages_of}
use Rattle.region_runtime.specs.Headers.{current_of}
use Rattle.region_runtime.specs.Pool.{Shape}
use Rattle.region_runtime.specs.Sound.{AreChains, IsOrdered, freed_of, no_page, uses}
use Rattle.region_runtime.specs.Steps.{with_first, with_heap_joined, with_heap_page, with_joined, with_newest, with_taken}
use Rattle.region_runtime.proofs.Words.{live_some}
use Rattle.region_runtime.proofs.Chains.{times_more, follow_zero, follow_more, follow_kept}
use Rattle.region_runtime.proofs.Blank.{blank_put}
use Rattle.region_runtime.proofs.Places.{page_in_hand, hand_used, hand_not_free, hand_unused, hand_off, hand_not_first, hand_marked, hand_grown, hand_started}
use Rattle.region_runtime.proofs.Places.{started_live, grown_live, live_same, first_there, uses_there, uses_marked}
use Rattle.region_runtime.proofs.Ordered.{pages_are}

module _ (t : Shape) (p : ℕ) (s : IsOrdered t (page_in_hand p)) where
  pub hand_few : t.ever_used ≤ 4096
  hand_few = let a = s.few in let b = s.begun in omega (arith, a, b)

  pub hand_within : p < t.pages
  hand_within =
      let u = hand_used (freed_of t) (owner_of t.word) (pages_of t.word) t.ever_used p hand_few s.chains in let b = s.begun in omega (arith, u, b)

  pub hand_small : p < 4096
  hand_small = let w = hand_within in let f = s.few in omega (arith, w, f)

  -- it counts as used
  hand_in : p < t.ever_used
  hand_in = hand_used (freed_of t) (owner_of t.word) (pages_of t.word) t.ever_used p hand_few s.chains

  -- the heap's last page is another
  heap_other : (q w : ℕ) → owner_of t.word q ≡ heap_mark → put p w (owner_of t.word) q ≡ heap_mark
  heap_other q w e = by_page (nat_eq q p) refl
    where
      by_page : (b : Bool) → nat_eq q p ≡ b → (if b then w else owner_of t.word q) ≡ heap_mark
      by_page false d = e
      by_page true d =
          let same : q ≡ p = grind (arith, nat_tests) in
          let u = uses_marked (owner_of t.word) (pages_of t.word) q (omega (arith, e)) in
          let z = hand_unused (freed_of t) (owner_of t.word) (pages_of t.word) t.ever_used p hand_few s.chains in
          let v : uses (owner_of t.word) (pages_of t.word) q ≡ 0 = ap (uses (owner_of t.word) (pages_of t.word)) same ∙ z in
          absurd (omega (arith, u, v))

  put_used : (used : ℕ → ℕ) (x : ℕ) (test : ℕ → Type 0) → test x → ((q : ℕ) → test (used q)) → (q : ℕ) → test (put p x used q)
  put_used used x test a f q = by_page (nat_eq q p)
    where
      by_page : (b : Bool) → test (if b then x else used q)
      by_page true = a
      by_page false = f q

  -- a marked page leaves each region its current page
  marked_current : (w : ℕ) (word : ℕ → ℕ → ℕ) → 4096 < w → owner_of word ≡ put p w (owner_of t.word) → ((g : ℕ) → pages_of word g ≡ pages_of t.word g) →
      ((g : ℕ) → current_of word g ≡ current_of t.word g) → (g : ℕ) → is_live_number (owner_of word) g ≡ true → 0 < times (current_of word g) (pages_of word g)
  marked_current w word m o c k g e =
      let was : is_live_number (owner_of t.word) g ≡ true =
      sym (live_same (freed_of t) (owner_of t.word) (pages_of t.word) t.ever_used p hand_few s.chains w (let l = hand_small in grind (arith, nat_tests)) g)
      ∙ ap (λ f. is_live_number f g) (sym o) ∙ e in
      subst (λ xs. 0 < times (current_of word g) xs) (sym (c g)) (subst (λ n. 0 < times n (pages_of t.word g)) (sym (k g)) (s.current g was))

  -- its taker's
  pub taken_ordered : IsOrdered (with_taken p t) no_page
  taken_ordered = record {
    few = s.few;
    begun = s.begun;
    chains = hand_marked (freed_of t) (owner_of t.word) (pages_of t.word) t.ever_used p hand_few s.chains taken_mark (pages_of (with_taken p t).word)
        (omega arith) hand_small (λ g e. pages_are (with_taken p t).word g ∙ sym (pages_are t.word g));
    rounded = s.rounded;
    within = s.within;
    current = marked_current taken_mark (with_taken p t).word (omega arith) refl (λ g. pages_are (with_taken p t).word g ∙ sym (pages_are t.word g))
        (λ g. refl);
    heap = λ q e. heap_other q taken_mark (s.heap q e);
    unused = blank_put t.word t.ever_used p 1 taken_mark hand_in s.unused;
  }

  -- the heap's last
  pub heap_ordered : (room : ℕ) → room % 8 ≡ 0 → room ≤ 4096 → IsOrdered (with_heap_page p room t) no_page
  heap_ordered room a b = record {
    few = s.few;
    begun = s.begun;
    chains = hand_marked (freed_of t) (owner_of t.word) (pages_of t.word) t.ever_used p hand_few s.chains heap_mark (pages_of
        (with_heap_page p room t).word)
        (omega arith) hand_small (λ g e. pages_are (with_heap_page p room t).word g ∙ sym (pages_are t.word g));
    rounded = put_used (used_of t.word) room (λ n. n % 8 ≡ 0) a s.rounded;
    within = put_used (used_of t.word) room (λ n. n ≤ 4096) b s.within;
    current = marked_current heap_mark (with_heap_page p room t).word (omega arith) refl (λ g. pages_are (with_heap_page p room t).word g ∙ sym
        (pages_are t.word g)) (λ g. refl);
    heap = λ q e. let same : nat_eq q p ≡ true = grind (arith, nat_tests) in rw same refl;
    unused = blank_put (put_word p 2 room t.word) t.ever_used p 1 heap_mark hand_in (blank_put t.word t.ever_used p 2 room hand_in s.unused);
  }

  -- one of the heap's, beside its last
  pub heap_joined_ordered : (room : ℕ) → room % 8 ≡ 0 → room ≤ 4096 → IsOrdered (with_heap_joined p room t) no_page
  heap_joined_ordered room a b = let w = heap_ordered room a b in record {
    few = s.few;
    begun = s.begun;
    chains = w.chains;
    rounded = w.rounded;
    within = w.within;
    current = w.current;
    heap = λ q e. heap_other q heap_mark (s.heap q e);
    unused = w.unused;
  }

  -- a region's first
  pub started_others : (g : ℕ) → nat_eq g (p + 1) ≡ false → is_live_number (owner_of t.word) g ≡ true →
      pages_of (with_first p t).word g ≡ pages_of t.word g
  started_others g e d =
      let l = live_some (owner_of t.word) g d in
      let n : nat_eq (g - 1) p ≡ false = grind (arith, nat_tests) in
      let c : count_of (with_first p t).word g ≡ count_of t.word g = rw n refl in
      let m : newest_of (with_first p t).word g ≡ newest_of t.word g = rw n refl in
      pages_are (with_first p t).word g ∙ ap (λ k. follow (link_of t.word) k (newest_of (with_first p t).word g)) c
      ∙ ap (λ k. follow (link_of t.word) (count_of t.word g) k) m ∙ sym (pages_are t.word g)

  pub started_pages : pages_of (with_first p t).word (p + 1) ≡ p ∷ []
  started_pages =
      let same : p + 1 - 1 ≡ p = omega arith in
      let n : nat_eq (p + 1 - 1) p ≡ true = grind (arith, nat_tests) in
      let c : count_of (with_first p t).word (p + 1) ≡ 1 = rw n refl in
      let m : newest_of (with_first p t).word (p + 1) ≡ p = rw n refl in
      pages_are (with_first p t).word (p + 1) ∙ ap (λ k. follow (link_of t.word) k (newest_of (with_first p t).word (p + 1))) c
      ∙ ap (λ k. follow (link_of t.word) 1 k) m ∙ follow_more (link_of t.word) 0 p ∙ ap (λ xs. p ∷ xs) (follow_zero (link_of t.word) (t.word p 0))

  pub first_ordered : IsOrdered (with_first p t) no_page
  first_ordered = record {
    few = s.few;
    begun = s.begun;
    chains = hand_started (freed_of t) (owner_of t.word) (pages_of t.word) t.ever_used p hand_few s.chains (pages_of (with_first p t).word) hand_small
        started_pages started_others;
    rounded = put_used (used_of t.word) 0 (λ n. n % 8 ≡ 0) refl s.rounded;
    within = put_used (used_of t.word) 0 (λ n. n ≤ 4096) (omega arith) s.within;
    current = λ g e. current_by g (nat_eq g (p + 1)) refl e;
    heap = λ q e. heap_other q (p + 1) (s.heap q e);
    unused = let n = t.ever_used in let l = hand_in in
        let a = put_word p 1 (p + 1) t.word in let b = put_word p 2 0 a in let c = put_word p 3 p b in let d = put_word p 4 1 c in let e = put_word p 5 0 d in
        blank_put e n p 6 p l (blank_put d n p 5 0 l (blank_put c n p 4 1 l (blank_put b n p 3 p l (blank_put a n p 2 0 l (blank_put t.word n p 1 (p + 1) l
        s.unused)))));
  }
    where
      lives : (g : ℕ) → is_live_number (owner_of (with_first p t).word) g ≡ (if nat_eq g (p + 1) then true else is_live_number (owner_of t.word) g)
      lives = started_live (freed_of t) (owner_of t.word) (pages_of t.word) t.ever_used p hand_few s.chains (pages_of (with_first p t).word) hand_small
          started_pages started_others

      current_by : (g : ℕ) (b : Bool) → nat_eq g (p + 1) ≡ b → is_live_number (owner_of (with_first p t).word) g ≡ true →
          0 < times (current_of (with_first p t).word g) (pages_of (with_first p t).word g)
      current_by g true e d =
          let same : g ≡ p + 1 = grind (arith, nat_tests) in
          let n : nat_eq (g - 1) p ≡ true = grind (arith, nat_tests) in
          let k : current_of (with_first p t).word g ≡ p = rw n refl in
          let c : pages_of (with_first p t).word g ≡ p ∷ [] = ap (pages_of (with_first p t).word) same ∙ started_pages in
          let m = times_more p p [] in
          subst (λ x. 0 < times x (pages_of (with_first p t).word g)) (sym k) (subst (λ xs. 0 < times p xs) (sym c) (grind (arith, nat_tests)))
      current_by g false e d =
          let was : is_live_number (owner_of t.word) g ≡ true = sym (lives g ∙ (rw e refl)) ∙ d in
          let l = live_some (owner_of t.word) g was in
          let n : nat_eq (g - 1) p ≡ false = grind (arith, nat_tests) in
          let k : current_of (with_first p t).word g ≡ current_of t.word g = rw n refl in
          subst (λ x. 0 < times x (pages_of (with_first p t).word g)) (sym k) (subst (λ xs. 0 < times (current_of t.word g) xs) (sym (started_others g e was))
          (s.current g was))

  -- a live region's newest
  module _ (h room : ℕ) (live : is_live_number (owner_of t.word) h ≡ true) where
    abbrev pub grown : Shape
    grown = with_newest h p room t

    pub not_first : nat_eq p (h - 1) ≡ false
    not_first = hand_not_first (freed_of t) (owner_of t.word) (pages_of t.word) t.ever_used p hand_few s.chains h live

    pub grown_others : (g : ℕ) → nat_eq g h ≡ false → is_live_number (owner_of t.word) g ≡ true → pages_of grown.word g ≡ pages_of t.word g
    grown_others g e d =
        let a = live_some (owner_of t.word) g d in let b = live_some (owner_of t.word) h live in
        let n : nat_eq (g - 1) (h - 1) ≡ false = grind (arith, nat_tests) in
        let c : count_of grown.word g ≡ count_of t.word g = rw n refl in
        let m : newest_of grown.word g ≡ newest_of t.word g = rw n refl in
        let off = hand_off (freed_of t) (owner_of t.word) (pages_of t.word) t.ever_used p hand_few s.chains g d in
        pages_are grown.word g ∙ ap (λ k. follow (link_of grown.word) k (newest_of grown.word g)) c
        ∙ ap (λ k. follow (link_of grown.word) (count_of t.word g) k) m
        ∙ follow_kept (link_of t.word) p (newest_of t.word h) (count_of t.word g) (newest_of t.word g) (ap (times p) (sym (pages_are t.word g)) ∙ off)
        ∙ sym (pages_are t.word g)

    pub grown_pages : pages_of grown.word h ≡ p ∷ pages_of t.word h
    grown_pages =
        let n : nat_eq (h - 1) (h - 1) ≡ true = grind (arith, nat_tests) in
        let c : count_of grown.word h ≡ count_of t.word h + 1 = rw n refl in
        let m : newest_of grown.word h ≡ p = rw n refl in
        let more : count_of t.word h + 1 ≡ suc (count_of t.word h) = omega arith in
        let here : link_of grown.word p ≡ newest_of t.word h = (let r : nat_eq p p ≡ true = grind (arith, nat_tests) in rw r refl) in
        let off = hand_off (freed_of t) (owner_of t.word) (pages_of t.word) t.ever_used p hand_few s.chains h live in
        pages_are grown.word h ∙ ap (λ k. follow (link_of grown.word) k (newest_of grown.word h)) (c ∙ more)
        ∙ ap (λ k. follow (link_of grown.word) (suc (count_of t.word h)) k) m ∙ follow_more (link_of grown.word) (count_of t.word h) p
        ∙ ap (λ k. p ∷ follow (link_of grown.word) (count_of t.word h) k) here
        ∙ ap (λ xs. p ∷ xs) (follow_kept (link_of t.word) p (newest_of t.word h) (count_of t.word h) (newest_of t.word h) (ap (times p)
        (sym (pages_are t.word h)) ∙ off) ∙ sym (pages_are t.word h))

    free_kept : freed_of grown ≡ freed_of t
    free_kept =
        follow_kept (link_of t.word) p (newest_of t.word h) t.freed t.first_freed
        (hand_not_free (freed_of t) (owner_of t.word) (pages_of t.word) t.ever_used p hand_few s.chains)

    first_in : h - 1 < t.ever_used
    first_in =
        let a = first_there (freed_of t) (owner_of t.word) (pages_of t.word) t.ever_used (page_in_hand p) hand_few s.chains h live in
        let u = uses_there (freed_of t) (owner_of t.word) (pages_of t.word) t.ever_used (page_in_hand p) hand_few s.chains h (h - 1) live a in
        let o = s.chains.once (h - 1) in grind (arith, nat_tests)

    lives : (g : ℕ) → is_live_number (owner_of grown.word) g ≡ is_live_number (owner_of t.word) g
    lives = grown_live (freed_of t) (owner_of t.word) (pages_of t.word) t.ever_used p hand_few s.chains h (pages_of grown.word) live grown_pages grown_others

    blank_joined : (room : ℕ) → AreBlank t.ever_used (with_joined h p room t).word
    blank_joined room = let n = t.ever_used in let l = hand_in in let f = first_in in
        let a = put_word p 2 room t.word in let b = put_word p 1 h a in let c = put_word p 0 (newest_of t.word h) b in let d = put_word (h - 1) 3 p c in
        blank_put d n (h - 1) 4 (count_of t.word h + 1) f (blank_put c n (h - 1) 3 p f (blank_put b n p 0 (newest_of t.word h) l (blank_put a n p 1 h l
        (blank_put t.word n p 2 room l s.unused))))

    pub grown_ordered : room % 8 ≡ 0 → room ≤ 4096 → IsOrdered grown no_page
    grown_ordered a b = record {
      few = s.few;
      begun = s.begun;
      chains = subst (λ xs. AreChains xs (put p h (owner_of t.word)) (pages_of grown.word) t.ever_used no_page) (sym free_kept)
          (hand_grown (freed_of t) (owner_of t.word) (pages_of t.word) t.ever_used p hand_few s.chains h (pages_of grown.word) live grown_pages grown_others);
      rounded = put_used (used_of t.word) room (λ n. n % 8 ≡ 0) a s.rounded;
      within = put_used (used_of t.word) room (λ n. n ≤ 4096) b s.within;
      current = λ g e. current_by g (nat_eq g h) refl (sym (lives g) ∙ e);
      heap = λ q e. heap_other q h (s.heap q e);
      unused = let n = t.ever_used in let l = hand_in in let f = first_in in
          let a = put_word p 2 room t.word in let b = put_word p 1 h a in let c = put_word p 0 (newest_of t.word h) b in let d = put_word (h - 1) 3 p c in
          let e = put_word (h - 1) 4 (count_of t.word h + 1) d in
          blank_put e n (h - 1) 6 p f (blank_joined room);
    }
      where
        current_by : (g : ℕ) (b : Bool) → nat_eq g h ≡ b → is_live_number (owner_of t.word) g ≡ true → 0 < times (current_of grown.word g)
            (pages_of grown.word g)
        current_by g true e d =
            let same : g ≡ h = grind (arith, nat_tests) in
            let n : nat_eq (g - 1) (h - 1) ≡ true = grind (arith, nat_tests) in
            let k : current_of grown.word g ≡ p = rw n refl in
            let c : pages_of grown.word g ≡ p ∷ pages_of t.word h = ap (pages_of grown.word) same ∙ grown_pages in
            let m = times_more p p (pages_of t.word h) in
            subst (λ x. 0 < times x (pages_of grown.word g)) (sym k) (subst (λ xs. 0 < times p xs) (sym c) (grind (arith, nat_tests)))
        current_by g false e d =
            let a = live_some (owner_of t.word) g d in let b = live_some (owner_of t.word) h live in
            let n : nat_eq (g - 1) (h - 1) ≡ false = grind (arith, nat_tests) in
            let k : current_of grown.word g ≡ current_of t.word g = rw n refl in
            subst (λ x. 0 < times x (pages_of grown.word g)) (sym k) (subst (λ xs. 0 < times (current_of t.word g) xs) (sym (grown_others g e d))
            (s.current g d))

    -- one of its pages, beside the current one
    abbrev pub joined : Shape
    joined = with_joined h p room t

    pub joined_pages : pages_of joined.word ≡ pages_of grown.word
    joined_pages = λ i g. (pages_are joined.word g ∙ sym (pages_are grown.word g)) i

    pub joined_ordered : room % 8 ≡ 0 → room ≤ 4096 → IsOrdered joined no_page
    joined_ordered a b = let w = grown_ordered a b in record {
      few = s.few;
      begun = s.begun;
      chains = subst (λ c. AreChains (freed_of grown) (owner_of grown.word) c t.ever_used no_page) (sym joined_pages) w.chains;
      rounded = w.rounded;
      within = w.within;
      current = λ g e. current_by g (nat_eq g h) refl (sym (lives g) ∙ e);
      heap = w.heap;
      unused = blank_joined room;
    }
      where
        current_by : (g : ℕ) (b : Bool) → nat_eq g h ≡ b → is_live_number (owner_of t.word) g ≡ true → 0 < times (current_of t.word g)
            (pages_of joined.word g)
        current_by g true e d =
            let same : g ≡ h = grind (arith, nat_tests) in
            let c : pages_of joined.word g ≡ p ∷ pages_of t.word h = ap (λ f. f g) joined_pages ∙ ap (pages_of grown.word) same ∙ grown_pages in
            let k = s.current h live in
            let m = times_more (current_of t.word h) p (pages_of t.word h) in
            let more : 0 < times (current_of t.word h) (p ∷ pages_of t.word h) = grind (arith, nat_tests) in
            subst (λ xs. 0 < times (current_of t.word g) xs) (sym c) (subst (λ x. 0 < times (current_of t.word x) (p ∷ pages_of t.word h)) (sym same) more)
        current_by g false e d =
            subst (λ xs. 0 < times (current_of t.word g) xs) (sym (ap (λ f. f g) joined_pages ∙ grown_others g e d)) (s.current g d)
