-- A region is made, of a page in hand.
use Rattle.std.proofs.Common.{◌≡◌, ℕ, zero, suc, ◌+◌, ◌-◌, ◌<◌, ◌≤◌, Bool, true, false, Some, None, Ok, nat_eq, refl, sym, ap, subst, ◌∙◌, arith}
use Rattle.std.specs.Prelude.{if◌then◌else◌}
use Rattle.std.proofs.lemmas.Bool.Decides.{nat_tests}
use Rattle.arena_laws.specs.declared.standing.Standing.TheVariants.{Lexical}
use Rattle.arena_laws.specs.Counts.{put, is_full, one_less}
use Rattle.arena_laws.specs.Holdings.{Holdings}
use Rattle.arena_laws.specs.Lawful.{Grants, with_number, is_new_number}
use Rattle.arena_laws.specs.Laws.{Does, region_new}
use Rattle.region_runtime.specs.Headers.{put_word, owner_of, used_of, count_of, heap_mark, taken_mark, is_live_number, pages_of, holder_of, marked, current_of}
use Rattle.region_runtime.specs.Pool.{Shape, last_of, taken_by, left_of, owner_at, counts_of, standing_by, holdings_of, tag_by, is_taken_by, word_by}
use Rattle.region_runtime.specs.Sound.{IsOrdered, freed_of, no_page}
use Rattle.region_runtime.specs.Steps.{next_page, with_first, without_page}
use Rattle.region_runtime.proofs.Words.{live_some, last_of_heap, last_of_region, last_of_other}
use Rattle.region_runtime.proofs.Places.{page_in_hand, hand_not_own, started_live}
use Rattle.region_runtime.proofs.Ordered.{page_taken}
use Rattle.region_runtime.proofs.InHand.{hand_within, hand_few, hand_small, started_others, started_pages, first_ordered}
use Rattle.region_runtime.proofs.Holders.{hand_nobody, hand_unmarked, started_holder}
use Rattle.region_runtime.proofs.Owners.{owner_empty}
use Rattle.region_runtime.proofs.Held.{marked_kept, taken_heap, taken_region, taken_other, last_differs, left_other, left_here, IsLess, page_less}
use Rattle.region_runtime.proofs.Tags.{word_other, taken_same, not_taken, small_unmarked, words_same, tag_live, tag_same}

-- what is held while a page is in hand: a free page less
pub less_holds : (t u : Shape) → IsLess t u → holdings_of u ≡ record (holdings_of t) { counts = one_less (counts_of t) }
unfolding last_of taken_by
less_holds t u l = λ i. record {
  pages = l.pages i;
  standing = standing_by (owner_of (l.word i));
  owner = owner_at (holder_of (l.word i)) (used_of (l.word i));
  counts = record {
    fresh = l.fresh i;
    given = l.given i;
    taken = λ h. if nat_eq h 0 then marked heap_mark (owner_of (l.word i)) (l.pages i) else if is_live_number (owner_of (l.word i)) h then count_of
        (l.word i) h else 0;
    left = λ h. left_of (used_of (l.word i)) (if nat_eq h 0 then l.heap_last i else if is_live_number (owner_of (l.word i)) h then current_of
        (l.word i) h + 1 else 0);
    class_pages = λ c. 0;
    slots = λ c. 0;
  };
}

-- words of other pages
first_others : (u : Shape) (p q f : ℕ) → nat_eq q p ≡ false → (with_first p u).word q f ≡ u.word q f
first_others u p q f n =
    let a = put_word p 1 (p + 1) u.word in let b = put_word p 2 0 a in let c = put_word p 3 p b in let d = put_word p 4 1 c in let e = put_word p 5 0 d in
    word_other p 6 p e q f n ∙ word_other p 5 0 d q f n ∙ word_other p 4 1 c q f n ∙ word_other p 3 p b q f n ∙ word_other p 2 0 a q f n
    ∙ word_other p 1 (p + 1) u.word q f n

module _ (u : Shape) (p : ℕ) (s : IsOrdered u (page_in_hand p)) where
  abbrev pub first : Shape
  first = with_first p u

  few : u.ever_used ≤ 4096
  few = hand_few u p s

  nobody : holder_of u.word p ≡ None
  nobody = hand_nobody (freed_of u) (owner_of u.word) (pages_of u.word) u.ever_used p few s.chains

  pub unmarked : owner_of u.word p ≤ 4096
  unmarked = hand_unmarked (freed_of u) (owner_of u.word) (pages_of u.word) u.ever_used p few s.chains

  live : (g : ℕ) → is_live_number (owner_of first.word) g ≡ (if nat_eq g (p + 1) then true else is_live_number (owner_of u.word) g)
  live = started_live (freed_of u) (owner_of u.word) (pages_of u.word) u.ever_used p few s.chains (pages_of first.word) (hand_small u p s)
      (started_pages u p s) (started_others u p s)

  live_here : (g : ℕ) → nat_eq g (p + 1) ≡ true → is_live_number (owner_of first.word) g ≡ true
  live_here g e = live g ∙ (rw e refl)

  live_other : (g : ℕ) → nat_eq g (p + 1) ≡ false → is_live_number (owner_of first.word) g ≡ is_live_number (owner_of u.word) g
  live_other g e = live g ∙ (rw e refl)

  pub not_live : is_live_number (owner_of u.word) (p + 1) ≡ false
  not_live = hand_not_own (freed_of u) (owner_of u.word) (pages_of u.word) u.ever_used p few s.chains

  standing : (g : ℕ) → standing_by (owner_of first.word) g ≡ put (p + 1) (Some Lexical) (standing_by (owner_of u.word)) g
  standing g = by_number (nat_eq g (p + 1)) refl
    where
      by_number : (b : Bool) → nat_eq g (p + 1) ≡ b → standing_by (owner_of first.word) g ≡ (if b then Some Lexical else standing_by (owner_of u.word) g)
      by_number true e = ap (λ l. if l then Some Lexical else None) (live_here g e)
      by_number false e = ap (λ l. if l then Some Lexical else None) (live_other g e)

  owners : (q : ℕ) → owner_at (holder_of first.word) (used_of first.word) q ≡ owner_at (holder_of u.word) (used_of u.word) q
  owners q =
      ap (λ h. owner_at h (used_of first.word) q)
      (λ i r. started_holder (freed_of u) (owner_of u.word) (pages_of u.word) u.ever_used p few s.chains (pages_of first.word) (hand_small u p s)
      (started_pages u p s) (started_others u p s) r i)
      ∙ owner_empty (holder_of u.word) (used_of u.word) p (Some (p + 1)) nobody q

  first_words : (g f : ℕ) → is_live_number (owner_of u.word) g ≡ true → nat_eq g (p + 1) ≡ false → first.word (g - 1) f ≡ u.word (g - 1) f
  first_words g f d e =
      let l = live_some (owner_of u.word) g d in
      first_others u p (g - 1) f (grind (arith, nat_tests))

  taken : (g : ℕ) → taken_by first g ≡ put (p + 1) 1 (taken_by u) g
  taken g = by_number (nat_eq g (p + 1)) refl
    where
      by_number : (b : Bool) → nat_eq g (p + 1) ≡ b → taken_by first g ≡ (if b then 1 else taken_by u g)
      by_number true e =
          let n : nat_eq (g - 1) p ≡ true = grind (arith, nat_tests) in taken_region first g (live_here g e) ∙ (rw n refl)
      by_number false e = other g e (is_live_number (owner_of u.word) g) refl
        where
          other : (g : ℕ) → nat_eq g (p + 1) ≡ false → (c : Bool) → is_live_number (owner_of u.word) g ≡ c → taken_by first g ≡ taken_by u g
          other zero e c d =
              taken_heap first ∙ marked_kept heap_mark (owner_of u.word) p (p + 1) u.pages
              (let m = unmarked in grind (arith, nat_tests)) (let m = hand_small u p s in grind (arith, nat_tests))
              ∙ sym (taken_heap u)
          other (suc g) e true d =
              taken_region first (suc g) (live_other (suc g) e ∙ d) ∙ first_words (suc g) 4 d e ∙ sym (taken_region u (suc g) d)
          other (suc g) e false d = taken_other first (suc g) (omega arith) (live_other (suc g) e ∙ d) ∙ sym (taken_other u (suc g) (omega arith) d)

  lasts : (g : ℕ) → nat_eq g (p + 1) ≡ false → last_of first g ≡ last_of u g
  lasts zero e = last_of_heap first 0 refl ∙ sym (last_of_heap u 0 refl)
  lasts (suc g) e = by_live (is_live_number (owner_of u.word) (suc g)) refl
    where
      by_live : (c : Bool) → is_live_number (owner_of u.word) (suc g) ≡ c → last_of first (suc g) ≡ last_of u (suc g)
      by_live true d =
          last_of_region first (suc g) (live_other (suc g) e ∙ d) ∙ ap (λ n. n + 1) (first_words (suc g) 6 d e) ∙ sym (last_of_region u (suc g) d)
      by_live false d = last_of_other first (suc g) (omega arith) (live_other (suc g) e ∙ d) ∙ sym (last_of_other u (suc g) (omega arith) d)

  left : (g : ℕ) → left_of (used_of first.word) (last_of first g) ≡ put (p + 1) 4096 (λ h. left_of (used_of u.word) (last_of u h)) g
  left g = by_number (nat_eq g (p + 1)) refl
    where
      by_number : (b : Bool) → nat_eq g (p + 1) ≡ b → left_of (used_of first.word) (last_of first g) ≡ (if b then 4096 else left_of (used_of u.word)
          (last_of u g))
      by_number true e =
          let n : nat_eq (g - 1) p ≡ true = grind (arith, nat_tests) in
          left_here (used_of u.word) p 0 (last_of first g) (last_of_region first g (live_here g e) ∙ ap (λ k. k + 1) (rw n refl))
      by_number false e =
          ap (left_of (used_of first.word)) (lasts g e)
          ∙ left_other (used_of u.word) p 0 (last_of u g) (last_differs u (page_in_hand p) s g p None nobody (λ k. cc))

  pub first_holds : holdings_of first ≡ record (holdings_of u) {
    standing = put (p + 1) (Some Lexical) (standing_by (owner_of u.word));
    counts = record (counts_of u) { taken = put (p + 1) 1 (taken_by u); left = put (p + 1) 4096 (λ h. left_of (used_of u.word) (last_of u h)) };
  }
  first_holds = λ i. record {
    pages = u.pages;
    standing = λ g. standing g i;
    owner = λ q. owners q i;
    counts = record { fresh = u.pages - u.ever_used; given = u.freed; taken = λ g. taken g i; left = λ g. left g i; class_pages = λ c. 0; slots = λ c. 0 };
  }

  pub first_tags : tag_by first.word ≡ put (p + 1) (Some 0) (tag_by u.word)
  first_tags = λ i g. by_number g (nat_eq g (p + 1)) refl i
    where
      by_number : (g : ℕ) (b : Bool) → nat_eq g (p + 1) ≡ b → tag_by first.word g ≡ (if b then Some 0 else tag_by u.word g)
      by_number g true e = let n : nat_eq (g - 1) p ≡ true = grind (arith, nat_tests) in tag_live first.word g (live_here g e) ∙ ap Some (rw n refl)
      by_number g false e = tag_same u.word first.word g (live_other g e) (λ d. first_words g 5 d e)

  pub now : owner_of first.word p ≤ 4096
  now = let l = hand_small u p s in let r : nat_eq p p ≡ true = grind (arith, nat_tests) in rw r (omega (arith, l))

-- a page in hand isn't taken, nor is a page with an owner that is no mark
module _ (word next : ℕ → ℕ → ℕ) (p : ℕ) (before : nat_eq (owner_of word p) taken_mark ≡ false) (now : nat_eq (owner_of next p) taken_mark ≡ false)
    (others : (q f : ℕ) → nat_eq q p ≡ false → next q f ≡ word q f) where
  untaken : (q : ℕ) → is_taken_by next q ≡ is_taken_by word q
  untaken q = by_page (nat_eq q p) refl
    where
      by_page : (b : Bool) → nat_eq q p ≡ b → is_taken_by next q ≡ is_taken_by word q
      by_page false e = taken_same word next q (others q 1 e)
      by_page true e =
          let same : q ≡ p = grind (arith, nat_tests) in
          ap (is_taken_by next) same ∙ not_taken next p now ∙ sym (ap (is_taken_by word) same ∙ not_taken word p before)

  pub page_untaken : is_taken_by next ≡ is_taken_by word
  page_untaken = λ i q. untaken q i

  pub page_words : word_by next ≡ word_by word
  page_words = λ i q f. words_same word next q f (untaken q) (λ t. by_page q f (nat_eq q p) refl t) i
    where
      by_page : (q f : ℕ) (b : Bool) → nat_eq q p ≡ b → is_taken_by word q ≡ true → next q f ≡ word q f
      by_page q f false e t = others q f e
      by_page q f true e t = let same : q ≡ p = grind (arith, nat_tests) in let n = ap (is_taken_by word) same ∙ not_taken word p before in cc

pub granted_new : (s : Holdings) (h : ℕ) → is_full s.counts ≡ false → is_new_number s h ≡ true → (after : Holdings) → after ≡ with_number h Lexical s →
    Does (Ok h) after (region_new (Grants h) s)
granted_new s h f n after e = rw (f, n) (record { says = refl; holds = e })

-- with a region of one page, which isn't free already
abbrev newly : ℕ → Holdings → Holdings
newly p k = record k {
  standing = put (p + 1) (Some Lexical) k.standing;
  counts = record (k.counts) { taken = put (p + 1) 1 k.counts.taken; left = put (p + 1) 4096 k.counts.left };
}

-- the call, where a page is free
pub record IsGranted (t after : Shape) (p : ℕ) : Type 0 where
  pub ordered : IsOrdered after no_page
  pub within : p < t.pages
  pub does : Does (Ok (p + 1)) (holdings_of after) (region_new (Grants (p + 1)) (holdings_of t))
  pub tags : tag_by after.word ≡ put (p + 1) (Some 0) (tag_by t.word)
  pub taken : is_taken_by after.word ≡ is_taken_by t.word
  pub words : word_by after.word ≡ word_by t.word

pub granted : (t : Shape) → IsOrdered t no_page → is_full (counts_of t) ≡ false → IsGranted t (with_first (next_page t) (without_page t)) (next_page t)
granted t s f =
    let p = next_page t in let u = without_page t in
    let l = page_less t s.begun f in let o = page_taken t s f in
    let e = less_holds t u l in
    let n : is_new_number (holdings_of t) (p + 1) ≡ true =
    (let k = not_live u p o in let b = hand_small u p o in let m : is_live_number (owner_of t.word) (p + 1) ≡ false = ap (λ w. is_live_number (owner_of w)
    (p + 1)) (sym l.word) ∙ k in
    grind (arith, nat_tests)) in
    record {
      ordered = first_ordered u p o;
      within = subst (λ k. p < k) l.pages (hand_within u p o);
      does = granted_new (holdings_of t) (p + 1) f n (holdings_of (with_first p u)) (first_holds u p o ∙ ap (newly p) e);
      tags = first_tags u p o ∙ ap (λ w. put (p + 1) (Some 0) (tag_by w)) l.word;
      taken = page_untaken u.word (with_first p u).word p (small_unmarked (owner_of u.word p) (unmarked u p o)) (small_unmarked (owner_of
          (with_first p u).word p) (now u p o)) (first_others u p) ∙ ap is_taken_by l.word;
      words = page_words u.word (with_first p u).word p (small_unmarked (owner_of u.word p) (unmarked u p o)) (small_unmarked (owner_of
          (with_first p u).word p) (now u p o)) (first_others u p) ∙ ap word_by l.word;
    }
