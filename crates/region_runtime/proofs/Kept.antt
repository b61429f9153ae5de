-- Words are written that no chain, holder or count reads; and a page is got by its taker.
use Rattle.std.proofs.Common.{◌≡◌, ℕ, zero, suc, ◌+◌, ◌-◌, ◌<◌, ◌≤◌, Bool, true, false, Some, None, nat_eq, refl, sym, ap, subst, ◌∙◌, arith}
use Rattle.std.specs.Prelude.{if◌then◌else◌}
use Rattle.std.proofs.lemmas.Bool.Decides.{nat_tests}
use Rattle.arena_laws.specs.declared.standing.Standing.TheVariants.{Lexical}
use Rattle.arena_laws.specs.Counts.{put, one_less, is_full}
use Rattle.arena_laws.specs.Holdings.{arena_base}
use Rattle.region_runtime.specs.Chains.{follow, times, last_or}
use Rattle.region_runtime.specs.Headers.{AreBlank, link_of, owner_of, used_of, newest_of, count_of, heap_mark, taken_mark, is_live_number, pages_of, holder_of}
use Rattle.region_runtime.specs.Headers.{marked, current_of}
use Rattle.region_runtime.specs.Pool.{
  Shape,
  last_of,
  taken_by,
  left_of,
  owner_at,
  counts_of,
  standing_by,
  holdings_of,
  tag_by,
  is_taken_by,
  word_by,
  page_at,
}
use Rattle.region_runtime.specs.Sound.{AreChains, IsOrdered, freed_of, no_page}
use Rattle.region_runtime.specs.Steps.{next_page, with_taken, without_page}
use Rattle.region_runtime.proofs.Words.{last_of_heap, last_of_region, last_of_other}
use Rattle.region_runtime.proofs.Places.{page_in_hand, uses_kept, live_same}
use Rattle.region_runtime.proofs.Ordered.{pages_are, page_taken}
use Rattle.region_runtime.proofs.InHand.{hand_within, hand_few, hand_small, taken_ordered}
use Rattle.region_runtime.proofs.Holders.{holder_kept, holder_taken, hand_nobody, hand_unmarked, marked_others}
use Rattle.region_runtime.proofs.Owners.{owner_nobody}
use Rattle.region_runtime.proofs.Held.{marked_kept, taken_heap, taken_region, taken_other, page_less}
use Rattle.region_runtime.proofs.Tags.{word_other, tag_same, taken_same, not_taken, small_unmarked, words_same, is_taken_there}
use Rattle.region_runtime.proofs.Granted.{less_holds}

-- ---- words beside the links, owners, used bytes, and the words of live regions

module _ (t : Shape) (word : ℕ → ℕ → ℕ) (owners : (q : ℕ) → owner_of word q ≡ owner_of t.word q) (links : (q : ℕ) → link_of word q ≡ link_of t.word q)
    (useds : (q : ℕ) → used_of word q ≡ used_of t.word q)
    (newests : (h : ℕ) → is_live_number (owner_of t.word) h ≡ true → newest_of word h ≡ newest_of t.word h)
    (pages : (h : ℕ) → is_live_number (owner_of t.word) h ≡ true → count_of word h ≡ count_of t.word h)
    (currents : (h : ℕ) → is_live_number (owner_of t.word) h ≡ true → current_of word h ≡ current_of t.word h) where
  abbrev pub kept : Shape
  kept = record t { word = word }

  owner_is : owner_of word ≡ owner_of t.word
  owner_is = λ i q. owners q i

  link_is : link_of word ≡ link_of t.word
  link_is = λ i q. links q i

  used_is : used_of word ≡ used_of t.word
  used_is = λ i q. useds q i

  chain_is : (h : ℕ) → is_live_number (owner_of t.word) h ≡ true → pages_of word h ≡ pages_of t.word h
  chain_is h e =
      pages_are word h ∙ ap (λ k. follow (link_of word) k (newest_of word h)) (pages h e) ∙ ap (λ k. follow (link_of word) (count_of t.word h) k) (newests h e)
      ∙ ap (λ f. follow f (count_of t.word h) (newest_of t.word h)) link_is ∙ sym (pages_are t.word h)

  live_is : (h : ℕ) → is_live_number (owner_of word) h ≡ is_live_number (owner_of t.word) h
  live_is h = ap (λ f. is_live_number f h) owner_is

  module _ (in_hand : ℕ → ℕ) (s : IsOrdered t in_hand) where
    chains : AreChains (freed_of t) (owner_of t.word) (pages_of word) t.ever_used in_hand
    chains = record {
      once = λ q. let o = s.chains.once q in let u = uses_kept (owner_of t.word) (owner_of t.word) (pages_of t.word) (pages_of word) q refl refl (λ e. ap
          (times q) (chain_is (owner_of t.word q) e)) in omega (arith, o, u);
      named = λ h q e l. s.chains.named h q e (subst (λ n. 0 < n) (ap (times q) (chain_is h e)) l);
      first = λ h e. ap (last_or h) (chain_is h e) ∙ s.chains.first h e;
    }

    pub kept_ordered : AreBlank t.ever_used word → IsOrdered kept in_hand
    kept_ordered blank = record {
      few = s.few;
      begun = s.begun;
      chains = subst (λ f. AreChains (follow f t.freed t.first_freed) (owner_of word) (pages_of word) t.ever_used in_hand) (sym link_is)
          (subst (λ o. AreChains (freed_of t) o (pages_of word) t.ever_used in_hand) (sym owner_is) chains);
      rounded = λ q. let e = useds q in let r = s.rounded q in grind (arith, nat_tests);
      within = λ q. let e = useds q in let r = s.within q in omega (arith, e, r);
      current = λ h e. let d = sym (live_is h) ∙ e in
          subst (λ xs. 0 < times (current_of word h) xs) (sym (chain_is h d)) (subst (λ k. 0 < times k (pages_of t.word h)) (sym (currents h d))
          (s.current h d));
      heap = λ q e. owners q ∙ s.heap q e;
      unused = blank;
    }

  holder_is : (q : ℕ) → holder_of word q ≡ holder_of t.word q
  holder_is q = holder_kept (owner_of t.word) (owner_of word) (pages_of t.word) (pages_of word) q (owners q) (live_is (owner_of t.word q)) (λ e. ap
      (times q) (chain_is (owner_of t.word q) e))

  taken_is : (h : ℕ) → taken_by kept h ≡ taken_by t h
  taken_is zero = taken_heap kept ∙ ap (λ o. marked heap_mark o t.pages) owner_is ∙ sym (taken_heap t)
  taken_is (suc h) = by_live (is_live_number (owner_of t.word) (suc h)) refl
    where
      by_live : (b : Bool) → is_live_number (owner_of t.word) (suc h) ≡ b → taken_by kept (suc h) ≡ taken_by t (suc h)
      by_live true e = taken_region kept (suc h) (live_is (suc h) ∙ e) ∙ pages (suc h) e ∙ sym (taken_region t (suc h) e)
      by_live false e = taken_other kept (suc h) (omega arith) (live_is (suc h) ∙ e) ∙ sym (taken_other t (suc h) (omega arith) e)

  last_is : (h : ℕ) → last_of kept h ≡ last_of t h
  last_is zero = last_of_heap kept 0 refl ∙ sym (last_of_heap t 0 refl)
  last_is (suc h) = by_live (is_live_number (owner_of t.word) (suc h)) refl
    where
      by_live : (b : Bool) → is_live_number (owner_of t.word) (suc h) ≡ b → last_of kept (suc h) ≡ last_of t (suc h)
      by_live true e = last_of_region kept (suc h) (live_is (suc h) ∙ e) ∙ ap (λ n. n + 1) (currents (suc h) e) ∙ sym (last_of_region t (suc h) e)
      by_live false e = last_of_other kept (suc h) (omega arith) (live_is (suc h) ∙ e) ∙ sym (last_of_other t (suc h) (omega arith) e)

  pub kept_holds : holdings_of kept ≡ holdings_of t
  kept_holds = λ i. record {
    pages = t.pages;
    standing = standing_by (owner_is i);
    owner = owner_at (λ q. holder_is q i) (used_is i);
    counts = record {
      fresh = t.pages - t.ever_used;
      given = t.freed;
      taken = λ h. taken_is h i;
      left = λ h. left_of (used_is i) (last_is h i);
      class_pages = λ c. 0;
      slots = λ c. 0;
    };
  }

  pub kept_taken : is_taken_by word ≡ is_taken_by t.word
  kept_taken = λ i q. taken_same t.word word q (owners q) i

-- ---- a page is its taker's

pub record IsTaken (t after : Shape) (p : ℕ) : Type 0 where
  pub ordered : IsOrdered after no_page
  pub within : p < t.pages
  pub fresh : is_taken_by t.word p ≡ false
  pub clear : (q : ℕ) → arena_base ≤ q → page_at q ≡ p → (holdings_of t).owner q ≡ None
  pub holds : holdings_of after ≡ record (holdings_of t) { counts = one_less (counts_of t) }
  pub taken : is_taken_by after.word ≡ put p true (is_taken_by t.word)
  pub words : (q f : ℕ) → nat_eq q p ≡ false → word_by after.word q f ≡ word_by t.word q f
  pub tags : tag_by after.word ≡ tag_by t.word

module _ (u : Shape) (p : ℕ) (s : IsOrdered u (page_in_hand p)) where
  abbrev got : Shape
  got = with_taken p u

  few : u.ever_used ≤ 4096
  few = hand_few u p s

  live_got : (g : ℕ) → is_live_number (owner_of got.word) g ≡ is_live_number (owner_of u.word) g
  live_got = live_same (freed_of u) (owner_of u.word) (pages_of u.word) u.ever_used p few s.chains taken_mark (let l = hand_small u p s in grind
      (arith, nat_tests))

  nobody : holder_of u.word p ≡ None
  nobody = hand_nobody (freed_of u) (owner_of u.word) (pages_of u.word) u.ever_used p few s.chains

  unmarked : owner_of u.word p ≤ 4096
  unmarked = hand_unmarked (freed_of u) (owner_of u.word) (pages_of u.word) u.ever_used p few s.chains

  holder_got : (q : ℕ) → holder_of got.word q ≡ holder_of u.word q
  holder_got q = by_page (nat_eq q p) refl
    where
      by_page : (b : Bool) → nat_eq q p ≡ b → holder_of got.word q ≡ holder_of u.word q
      by_page true e =
          let same : q ≡ p = grind (arith, nat_tests) in
          holder_taken (owner_of got.word) (pages_of got.word) q (rw e refl) ∙ sym (ap (holder_of u.word) same ∙ nobody)
      by_page false e =
          marked_others (freed_of u) (owner_of u.word) (pages_of u.word) u.ever_used p few s.chains taken_mark (pages_of got.word) (omega arith) (hand_small
          u p s) (λ g d. pages_are got.word g ∙ sym (pages_are u.word g)) q e

  takens_got : (h : ℕ) → taken_by got h ≡ taken_by u h
  takens_got zero =
      taken_heap got ∙ marked_kept heap_mark (owner_of u.word) p taken_mark u.pages (let k = unmarked in grind (arith, nat_tests)) refl ∙ sym (taken_heap u)
  takens_got (suc h) = by_live (is_live_number (owner_of u.word) (suc h)) refl
    where
      by_live : (b : Bool) → is_live_number (owner_of u.word) (suc h) ≡ b → taken_by got (suc h) ≡ taken_by u (suc h)
      by_live true e = taken_region got (suc h) (live_got (suc h) ∙ e) ∙ sym (taken_region u (suc h) e)
      by_live false e = taken_other got (suc h) (omega arith) (live_got (suc h) ∙ e) ∙ sym (taken_other u (suc h) (omega arith) e)

  lasts_got : (h : ℕ) → last_of got h ≡ last_of u h
  lasts_got zero = last_of_heap got 0 refl ∙ sym (last_of_heap u 0 refl)
  lasts_got (suc h) = by_live (is_live_number (owner_of u.word) (suc h)) refl
    where
      by_live : (b : Bool) → is_live_number (owner_of u.word) (suc h) ≡ b → last_of got (suc h) ≡ last_of u (suc h)
      by_live true e = last_of_region got (suc h) (live_got (suc h) ∙ e) ∙ sym (last_of_region u (suc h) e)
      by_live false e = last_of_other got (suc h) (omega arith) (live_got (suc h) ∙ e) ∙ sym (last_of_other u (suc h) (omega arith) e)

  holds_got : holdings_of got ≡ holdings_of u
  holds_got = λ i. record {
    pages = u.pages;
    standing = λ g. if live_got g i then Some Lexical else None;
    owner = owner_at (λ q. holder_got q i) (used_of u.word);
    counts = record {
      fresh = u.pages - u.ever_used;
      given = u.freed;
      taken = λ h. takens_got h i;
      left = λ h. left_of (used_of u.word) (lasts_got h i);
      class_pages = λ c. 0;
      slots = λ c. 0;
    };
  }

  taken_got : (q : ℕ) → is_taken_by got.word q ≡ put p true (is_taken_by u.word) q
  taken_got q = by_page (nat_eq q p) refl
    where
      by_page : (b : Bool) → nat_eq q p ≡ b → is_taken_by got.word q ≡ (if b then true else is_taken_by u.word q)
      by_page true e = is_taken_there got.word q (rw e refl)
      by_page false e = taken_same u.word got.word q (rw e refl)

  words_got : (q f : ℕ) → nat_eq q p ≡ false → word_by got.word q f ≡ word_by u.word q f
  words_got q f e = words_same u.word got.word q f (taken_same u.word got.word q (rw e refl)) (λ d. word_other p 1 taken_mark u.word q f e)

  tags_got : (g : ℕ) → tag_by got.word g ≡ tag_by u.word g
  tags_got g = tag_same u.word got.word g (live_got g) (λ d. refl)

pub taken : (t : Shape) → IsOrdered t no_page → is_full (counts_of t) ≡ false → IsTaken t (with_taken (next_page t) (without_page t)) (next_page t)
taken t s f =
    let p = next_page t in let u = without_page t in
    let l = page_less t s.begun f in let o = page_taken t s f in
    record {
      ordered = taken_ordered u p o;
      within = subst (λ k. p < k) l.pages (hand_within u p o);
      fresh = ap (λ w. is_taken_by w p) (sym l.word) ∙ not_taken u.word p (small_unmarked (owner_of u.word p) (unmarked u p o));
      clear = λ q b e. owner_nobody (holder_of t.word) (used_of t.word) q (grind (arith, nat_tests)) (ap (holder_of t.word) e ∙ ap (λ w. holder_of w p) (sym
          l.word) ∙ nobody u p o);
      holds = holds_got u p o ∙ less_holds t u l;
      taken = (λ i q. taken_got u p o q i) ∙ ap (λ w. put p true (is_taken_by w)) l.word;
      words = λ q g e. words_got u p o q g e ∙ ap (λ w. word_by w q g) l.word;
      tags = (λ i g. tags_got u p o g i) ∙ ap tag_by l.word;
    }
