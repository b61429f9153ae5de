-- What a request for a block comes to, from what was read.
use Rattle.std.proofs.Common.{◌≡◌, ℕ, zero, suc, ◌+◌, ◌-◌, ◌*◌, ◌%◌, ◌<◌, ◌≤◌, Bool, true, false, None, Ok, nat_eq, refl, sym, ap, subst, ◌∙◌, arith}
use Rattle.std.specs.Prelude.{◌&&◌, ◌||◌}
use Rattle.std.proofs.lemmas.Bool.Decides.{nat_tests}
use Rattle.arena_laws.specs.declared.owner.Owner.TheVariants.{Region}
use Rattle.arena_laws.specs.Counts.{Counts, put, room_of, block_needs_page, is_full, is_too_long, with_block, one_less, is_full_for_room, is_large}
use Rattle.arena_laws.specs.Holdings.{Holdings, arena_base}
use Rattle.arena_laws.specs.Lawful.{Grants, owns, is_lawful_room, takes_blocks, with_region_block}
use Rattle.arena_laws.specs.Laws.{Does, is_block_refused, region_alloc}
use Rattle.region_runtime.specs.Headers.{put_word, owner_of, used_of, newest_of, count_of, tag_in, taken_mark, is_live_number, pages_of, holder_of}
use Rattle.region_runtime.specs.Pool.{Shape, page_at, last_of, taken_by, left_of, counts_of, standing_by, holdings_of, tag_by, is_taken_by, word_by}
use Rattle.region_runtime.specs.Sound.{IsOrdered, freed_of, no_page}
use Rattle.region_runtime.specs.Steps.{next_page, with_word, with_page, with_heap_joined, with_heap_page, with_joined, with_more, with_newest, without_page}
use Rattle.region_runtime.proofs.Words.{live_own, live_none}
use Rattle.region_runtime.proofs.Places.{page_in_hand, live_small}
use Rattle.region_runtime.proofs.Ordered.{page_taken}
use Rattle.region_runtime.proofs.InHand.{hand_within, heap_ordered, heap_joined_ordered, grown_ordered, joined_ordered, not_first}
use Rattle.region_runtime.proofs.Owners.{owner_nobody, is_lawful}
use Rattle.region_runtime.proofs.Held.{page_less}
use Rattle.region_runtime.proofs.Tags.{word_other, tag_same, taken_same, not_taken, small_unmarked, words_same}
use Rattle.region_runtime.proofs.Granted.{less_holds, page_untaken, page_words}
use Rattle.region_runtime.proofs.Placed.{granted, IsRoom, is_room, not_large, room_small, is_short, placed, joined, heap_joined_holds, joined_holds, few}
use Rattle.region_runtime.proofs.Placed.{nobody, unmarked, heap_live, heaped_holds, heap_now, heap_others, region_live, newest_holds}
use Rattle.region_runtime.proofs.Cutting.{cut_ordered, no_page_needed, cut_holds, cut_lawful, cut_tags, cut_taken, cut_words}

-- the words of a page in hand and of a region's first page are written
module _ (word next : ℕ → ℕ → ℕ) (p k : ℕ) (before : nat_eq (owner_of word p) taken_mark ≡ false) (now : nat_eq (owner_of next p) taken_mark ≡ false)
    (also : nat_eq (owner_of word k) taken_mark ≡ false)
    (still : owner_of next k ≡ owner_of word k)
    (others : (q f : ℕ) → nat_eq q p ≡ false → nat_eq q k ≡ false → next q f ≡ word q f) where
  untaken : (q : ℕ) → is_taken_by next q ≡ is_taken_by word q
  untaken q = by_page (nat_eq q p) (nat_eq q k) refl refl
    where
      by_page : (b c : Bool) → nat_eq q p ≡ b → nat_eq q k ≡ c → is_taken_by next q ≡ is_taken_by word q
      by_page false false e d = taken_same word next q (others q 1 e d)
      by_page false true e d =
          let same : q ≡ k = grind (arith, nat_tests) in taken_same word next q (ap (owner_of next) same ∙ still ∙ ap (owner_of word) (sym same))
      by_page true c e d =
          let same : q ≡ p = grind (arith, nat_tests) in
          ap (is_taken_by next) same ∙ not_taken next p now ∙ sym (ap (is_taken_by word) same ∙ not_taken word p before)

  pub two_untaken : is_taken_by next ≡ is_taken_by word
  two_untaken = λ i q. untaken q i

  pub two_words : word_by next ≡ word_by word
  two_words = λ i q f. words_same word next q f (untaken q) (λ t. by_page q f (nat_eq q p) (nat_eq q k) refl refl t) i
    where
      by_page : (q f : ℕ) (b c : Bool) → nat_eq q p ≡ b → nat_eq q k ≡ c → is_taken_by word q ≡ true → next q f ≡ word q f
      by_page q f false false e d t = others q f e d
      by_page q f false true e d t = let same : q ≡ k = grind (arith, nat_tests) in let n = ap (is_taken_by word) same ∙ not_taken word k also in cc
      by_page q f true c e d t = let same : q ≡ p = grind (arith, nat_tests) in let n = ap (is_taken_by word) same ∙ not_taken word p before in cc

-- a block was placed
pub record IsPlaced (t after : Shape) (h bytes at : ℕ) : Type 0 where
  pub ordered : IsOrdered after no_page
  pub does : Does (Ok at) (holdings_of after) (region_alloc h bytes (Grants at) (holdings_of t))
  pub free : false ≡ is_block_refused h bytes (holdings_of t)
  pub tags : tag_by after.word ≡ tag_by t.word
  pub taken : is_taken_by after.word ≡ is_taken_by t.word
  pub words : word_by after.word ≡ word_by t.word

-- what a page in hand comes to
record IsHandled (u after : Shape) (h p room : ℕ) : Type 0 where
  ordered : IsOrdered after no_page
  holds : holdings_of after ≡ placed h (arena_base + 4096 * p) room (holdings_of u)
  tags : tag_by after.word ≡ tag_by u.word
  taken : is_taken_by after.word ≡ is_taken_by u.word
  words : word_by after.word ≡ word_by u.word

-- what it comes to beside the last page
pub record IsJoined (u after : Shape) (h p room : ℕ) : Type 0 where
  pub ordered : IsOrdered after no_page
  pub holds : holdings_of after ≡ joined h (arena_base + 4096 * p) room (holdings_of u)
  pub tags : tag_by after.word ≡ tag_by u.word
  pub taken : is_taken_by after.word ≡ is_taken_by u.word
  pub words : word_by after.word ≡ word_by u.word

module _ (u : Shape) (p : ℕ) (s : IsOrdered u (page_in_hand p)) (room : ℕ) (eights : room % 8 ≡ 0) (most : room ≤ 4096) where
  before : nat_eq (owner_of u.word p) taken_mark ≡ false
  before = small_unmarked (owner_of u.word p) (unmarked u p s room eights most)

  heap_after : nat_eq (owner_of (with_heap_page p room u).word p) taken_mark ≡ false
  heap_after = ap (λ n. nat_eq n taken_mark) (heap_now u p s room eights most)

  by_heap : IsHandled u (with_heap_page p room u) 0 p room
  by_heap = record {
    ordered = heap_ordered u p s room eights most;
    holds = heaped_holds u p s room eights most;
    tags = λ i g. tag_same u.word (with_heap_page p room u).word g (heap_live u p s room eights most g) (λ d. refl) i;
    taken = page_untaken u.word (with_heap_page p room u).word p before heap_after (heap_others u p s room eights most);
    words = page_words u.word (with_heap_page p room u).word p before heap_after (heap_others u p s room eights most);
  }

  by_heap_joined : IsJoined u (with_heap_joined p room u) 0 p room
  by_heap_joined = record {
    ordered = heap_joined_ordered u p s room eights most;
    holds = heap_joined_holds u p s room eights most;
    tags = by_heap.tags;
    taken = by_heap.taken;
    words = by_heap.words;
  }

  module _ (h : ℕ) (live : is_live_number (owner_of u.word) h ≡ true) where
    abbrev grown : Shape
    grown = with_newest h p room u

    small : h ≤ 4096
    small = live_small (freed_of u) (owner_of u.word) (pages_of u.word) u.ever_used (page_in_hand p) (few u p s room eights most) s.chains h live

    own : owner_of u.word (h - 1) ≡ h
    own = live_own (owner_of u.word) h live

    first : nat_eq p (h - 1) ≡ false
    first = not_first u p s h room live

    grown_after : nat_eq (owner_of grown.word p) taken_mark ≡ false
    grown_after =
        let r : nat_eq p p ≡ true = grind (arith, nat_tests) in let m = small in
        small_unmarked (owner_of grown.word p) (let e : owner_of grown.word p ≡ h = rw r refl in omega (arith, e, m))

    also : nat_eq (owner_of u.word (h - 1)) taken_mark ≡ false
    also = small_unmarked (owner_of u.word (h - 1)) (let o = own in let m = small in omega (arith, o, m))

    still : owner_of grown.word (h - 1) ≡ owner_of u.word (h - 1)
    still = let n : nat_eq (h - 1) p ≡ false = (let f = first in grind (arith, nat_tests)) in rw n refl

    others : (q f : ℕ) → nat_eq q p ≡ false → nat_eq q (h - 1) ≡ false → grown.word q f ≡ u.word q f
    others q f n m =
        let a = put_word p 2 room u.word in let b = put_word p 1 h a in let c = put_word p 0 (newest_of u.word h) b in let d = put_word (h - 1) 3 p c in
        let e = put_word (h - 1) 4 (count_of u.word h + 1) d in
        word_other (h - 1) 6 p e q f m ∙ word_other (h - 1) 4 (count_of u.word h + 1) d q f m ∙ word_other (h - 1) 3 p c q f m
        ∙ word_other p 0 (newest_of u.word h) b q f n
        ∙ word_other p 1 h a q f n ∙ word_other p 2 room u.word q f n

    tag_kept : (g : ℕ) → is_live_number (owner_of u.word) g ≡ true → tag_in grown.word g ≡ tag_in u.word g
    tag_kept g d = refl

    by_region : IsHandled u grown h p room
    by_region = record {
      ordered = grown_ordered u p s h room live eights most;
      holds = newest_holds u p s room eights most h live;
      tags = λ i g. tag_same u.word grown.word g (region_live u p s room eights most h live g) (tag_kept g) i;
      taken = two_untaken u.word grown.word p (h - 1) before grown_after also still others;
      words = two_words u.word grown.word p (h - 1) before grown_after also still others;
    }

    abbrev one_more : Shape
    one_more = with_joined h p room u

    joined_others : (q f : ℕ) → nat_eq q p ≡ false → nat_eq q (h - 1) ≡ false → one_more.word q f ≡ u.word q f
    joined_others q f n m =
        let a = put_word p 2 room u.word in let b = put_word p 1 h a in let c = put_word p 0 (newest_of u.word h) b in let d = put_word (h - 1) 3 p c in
        word_other (h - 1) 4 (count_of u.word h + 1) d q f m ∙ word_other (h - 1) 3 p c q f m ∙ word_other p 0 (newest_of u.word h) b q f n
        ∙ word_other p 1 h a q f n ∙ word_other p 2 room u.word q f n

    by_region_joined : IsJoined u one_more h p room
    by_region_joined = record {
      ordered = joined_ordered u p s h room live eights most;
      holds = joined_holds u p s room eights most h live;
      tags = λ i g. tag_same u.word one_more.word g (region_live u p s room eights most h live g) (λ d. refl) i;
      taken = two_untaken u.word one_more.word p (h - 1) before grown_after also still joined_others;
      words = two_words u.word one_more.word p (h - 1) before grown_after also still joined_others;
    }

  -- the heap, or a live region
  pub more_by_number : (h : ℕ) → (0 < h → is_live_number (owner_of u.word) h ≡ true) → IsJoined u (with_more h p room u) h p room
  more_by_number zero l = by_heap_joined
  more_by_number (suc g) l = let n : nat_eq (suc g) 0 ≡ false = grind (arith, nat_tests) in rw n (by_region_joined (suc g) (l (omega arith)))

  by_number : (h : ℕ) → (0 < h → is_live_number (owner_of u.word) h ≡ true) → IsHandled u (with_page h p room u) h p room
  by_number zero l = by_heap
  by_number (suc g) l = let n : nat_eq (suc g) 0 ≡ false = grind (arith, nat_tests) in rw n (by_region (suc g) (l (omega arith)))

-- ---- what the call comes to

module _ (t : Shape) (s : IsOrdered t no_page) (h bytes room : ℕ) (live : 0 < h → is_live_number (owner_of t.word) h ≡ true) (short : bytes ≤ 4096)
    (rounded : room ≡ room_of bytes) where
  room_is : IsRoom room
  room_is = is_room bytes room short rounded

  takes : takes_blocks h (standing_by (owner_of t.word) h) ≡ true
  takes = serves h live
    where
      serves : (k : ℕ) → (0 < k → is_live_number (owner_of t.word) k ≡ true) → takes_blocks k (standing_by (owner_of t.word) k) ≡ true
      serves zero l = let n = live_none (owner_of t.word) in rw n refl
      serves (suc k) l = let n = l (omega arith) in rw n refl

  -- it is no large one
  small_room : is_large (room_of bytes) ≡ false
  small_room = not_large (room_of bytes) (room_small bytes short)

  roomy : (block_needs_page h (room_of bytes) (counts_of t) && is_full (counts_of t)) ≡ false → is_full_for_room h (room_of bytes) (counts_of t) ≡ false
  roomy e = let k = small_room in rw k e

  -- cut from the last page
  pub cut_placed : (q u : ℕ) → last_of t h ≡ q + 1 → used_of t.word q ≡ u → u + room ≤ 4096 →
      IsPlaced t (with_word q 2 (u + room) t) h bytes (arena_base + 4096 * q + u)
  cut_placed q u last used fits =
      let e = room_is.eights in
      let n = no_page_needed t no_page s h q u room last used fits e in
      let single : (block_needs_page h (room_of bytes) (counts_of t) && is_full (counts_of t)) ≡ false = subst (λ r. (block_needs_page h r (counts_of t)
      && is_full (counts_of t)) ≡ false) rounded (ap (λ b. b && is_full (counts_of t)) n) in
      let spare = roomy single in
      let long = is_short bytes short in
      let k = takes in
      record {
        ordered = cut_ordered t no_page s h q u room last used fits e;
        does = granted (holdings_of t) h bytes (arena_base + 4096 * q + u) takes long spare
            (subst (λ r. is_lawful_room (holdings_of t) (arena_base + 4096 * q + u) r ≡ true) rounded (cut_lawful t no_page s h q u room last used fits e))
            (holdings_of (with_word q 2 (u + room) t))
            (subst (λ r. holdings_of (with_word q 2 (u + room) t) ≡ with_region_block h (arena_base + 4096 * q + u) r (holdings_of t)) rounded
            (cut_holds t no_page s h q u room last used fits e));
        free = sym (rw (k, long, spare) refl);
        tags = cut_tags t no_page s h q u room last used fits e;
        taken = cut_taken t no_page s h q u room last used fits e;
        words = cut_words t no_page s h q u room last used fits e;
      }

  -- ---- more than what is left
  module _ (more : left_of (used_of t.word) (last_of t h) < room) where
    needs : block_needs_page h room (counts_of t) ≡ true
    needs = let m = more in grind (arith, nat_tests)

    pub none_free : is_full (counts_of t) ≡ true → true ≡ is_block_refused h bytes (holdings_of t)
    none_free f =
        let n : block_needs_page h (room_of bytes) (counts_of t) ≡ true = subst (λ r. block_needs_page h r (counts_of t) ≡ true) rounded needs in
        let k = takes in let l = small_room in sym (rw (k, l, n, f) (or_true (is_too_long bytes)))
      where
        or_true : (b : Bool) → (b || true) ≡ true
        or_true true = refl
        or_true false = refl

    counted : with_block h room (counts_of t) ≡ record (counts_of t) {
      fresh = (one_less (counts_of t)).fresh;
      given = (one_less (counts_of t)).given;
      taken = put h (taken_by t h + 1) (taken_by t);
      left = put h (4096 - room) (λ k. left_of (used_of t.word) (last_of t k));
    }
    counted = let n = needs in let l : is_large room ≡ false = not_large room room_is.most in rw (l, n) refl

    abbrev with_counts : ℕ → Counts → Holdings
    with_counts at c = record (holdings_of t) { owner = owns at room (Region h) (holdings_of t).owner; counts = c }

    -- a page was taken for it
    pub page_placed : is_full (counts_of t) ≡ false →
        IsPlaced t (with_page h (next_page t) room (without_page t)) h bytes (arena_base + 4096 * next_page t)
    page_placed f =
        let p = next_page t in let u = without_page t in
        let l = page_less t s.begun f in let o = page_taken t s f in
        let d = by_number u p o room room_is.eights room_is.most h (λ b. ap (λ w. is_live_number (owner_of w) h) l.word ∙ live b) in
        let after = with_page h p room u in
        let e : holdings_of after ≡ placed h (arena_base + 4096 * p) room (record (holdings_of t) {
          counts = one_less (counts_of t);
        }) = d.holds ∙ ap (placed h (arena_base + 4096 * p) room) (less_holds t u l) in
        let long = is_short bytes short in
        let n = needs in
        let k = takes in
        let single : (block_needs_page h (room_of bytes) (counts_of t) && is_full (counts_of t)) ≡ false = subst (λ r. (block_needs_page h r (counts_of t)
        && is_full (counts_of t)) ≡ false) rounded (rw n f) in
        let spare = roomy single in
        let nobodys : holder_of t.word p ≡ None = ap (λ w. holder_of w p) (sym l.word) ∙ nobody u p o room room_is.eights room_is.most in
        let within = subst (λ k. p < k) l.pages (hand_within u p o) in
        let most = room_is.most in
        let lawful = is_lawful (holdings_of t) (arena_base + 4096 * p) room (omega arith) (omega arith) (omega (arith, within, most)) (λ j b. owner_nobody
        (holder_of t.word) (used_of t.word) (arena_base + 4096 * p + j) (grind (arith, nat_tests)) (let same : page_at (arena_base + 4096 * p + j) ≡ p = omega
        (arith, b, most) in ap (holder_of t.word) same ∙ nobodys)) in
        let holds : holdings_of after ≡ with_region_block h (arena_base + 4096 * p) room (holdings_of t) =
        e ∙ ap (with_counts (arena_base + 4096 * p)) (sym counted) in
        record {
          ordered = d.ordered;
          does = granted (holdings_of t) h bytes (arena_base + 4096 * p) takes long spare (subst (λ r. is_lawful_room (holdings_of t)
              (arena_base + 4096 * p) r ≡ true) rounded lawful) (holdings_of after)
              (subst (λ r. holdings_of after ≡ with_region_block h (arena_base + 4096 * p) r (holdings_of t)) rounded holds);
          free = sym (rw (k, long, spare) refl);
          tags = d.tags ∙ ap tag_by l.word;
          taken = d.taken ∙ ap is_taken_by l.word;
          words = d.words ∙ ap word_by l.word;
        }
