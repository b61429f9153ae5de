-- A block lies at the front of a page in hand: what the pool holds then. And when a request is granted or refused.
use Rattle.std.proofs.Common.{◌≡◌, ℕ, zero, suc, ◌+◌, ◌-◌, ◌*◌, ◌/◌, ◌%◌, ◌<◌, ◌≤◌, Bool, true, false, Option, Some, None, Ok, Err, nat_eq, refl, sym, ap}
use Rattle.std.proofs.Common.{◌∙◌, arith}
use Rattle.std.specs.Prelude.{if◌then◌else◌}
use Rattle.std.proofs.lemmas.Bool.Decides.{nat_tests}
use Rattle.arena_laws.specs.declared.refusal.StoreRefusal.TheVariants.{Full}
use Rattle.arena_laws.specs.declared.standing.Standing.TheVariants.{Lexical}
use Rattle.arena_laws.specs.declared.owner.Owner.TheVariants.{Region}
use Rattle.arena_laws.specs.Counts.{put, room_of, is_too_long, is_full_for_room, is_large}
use Rattle.arena_laws.specs.Holdings.{Holdings, arena_base}
use Rattle.arena_laws.specs.Lawful.{Grants, Refuses, owns, is_lawful_room, takes_blocks, with_region_block}
use Rattle.arena_laws.specs.Laws.{Does, is_block_refused, region_alloc}
use Rattle.region_runtime.specs.Headers.{put_word, owner_of, used_of, count_of, heap_mark, is_live_number, pages_of, holder_of, holder_by, current_of}
use Rattle.region_runtime.specs.Pool.{Shape, last_of, taken_by, left_of, owner_at, holdings_of}
use Rattle.region_runtime.specs.Sound.{IsOrdered, freed_of}
use Rattle.region_runtime.specs.Steps.{with_heap_joined, with_heap_page, with_joined, with_newest}
use Rattle.region_runtime.proofs.Words.{live_some, last_of_heap, last_of_region, last_of_other}
use Rattle.region_runtime.proofs.Places.{page_in_hand, live_small, live_same, grown_live}
use Rattle.region_runtime.proofs.Ordered.{pages_are}
use Rattle.region_runtime.proofs.InHand.{hand_within, hand_few, hand_small, grown_pages, grown_others, joined_pages}
use Rattle.region_runtime.proofs.Holders.{holder_heap, hand_nobody, hand_unmarked, marked_others, grown_holder}
use Rattle.region_runtime.proofs.Owners.{owner_empty, owner_cut}
use Rattle.region_runtime.proofs.Held.{marked_put, marked_kept, taken_heap, taken_region, taken_other, last_differs, left_other, left_here}
use Rattle.region_runtime.proofs.Tags.{word_other}

-- a room that is granted is granted by the law
pub granted : (s : Holdings) (h bytes at : ℕ) → takes_blocks h (s.standing h) ≡ true → is_too_long bytes ≡ false →
    is_full_for_room h (room_of bytes) s.counts ≡ false → is_lawful_room s at (room_of bytes) ≡ true →
    (after : Holdings) → after ≡ with_region_block h at (room_of bytes) s → Does (Ok at) after (region_alloc h bytes (Grants at) s)
granted s h bytes at t l f r after e = rw (t, l, f, r) (record { says = refl; holds = e })

-- and one that is refused
pub refused : (s : Holdings) (h bytes : ℕ) → is_block_refused h bytes s ≡ true → Does (Err Full) s (region_alloc h bytes Refuses s)
refused s h bytes e = rw e (record { says = refl; holds = refl })

-- a room is a multiple of 8, from 8 to 4,096 bytes
pub record IsRoom (room : ℕ) : Type 0 where
  pub eights : room % 8 ≡ 0
  pub most : room ≤ 4096
  pub some : 8 ≤ room

pub is_room : (bytes room : ℕ) → bytes ≤ 4096 → room ≡ room_of bytes → IsRoom room
is_room bytes room l e = record { eights = grind (arith, nat_tests); most = grind (arith, nat_tests); some = grind (arith, nat_tests) }

-- and is no large block's
pub not_large : (room : ℕ) → room ≤ 4096 → is_large room ≡ false
not_large room l = grind (arith, nat_tests)

pub room_small : (bytes : ℕ) → bytes ≤ 4096 → room_of bytes ≤ 4096
room_small bytes l = grind (arith, nat_tests)

-- a room of at most a page is for as few bytes
pub short_room : (bytes room : ℕ) → room ≡ room_of bytes → room ≤ 4096 → bytes ≤ 4096
short_room bytes room e l = by_zero (nat_eq bytes 0) refl e
  where
    by_zero : (b : Bool) → nat_eq bytes 0 ≡ b → room ≡ (if b then 8 else (bytes + 7) / 8 * 8) → bytes ≤ 4096
    by_zero true z e = grind (arith, nat_tests)
    by_zero false z e = omega (arith, e, l)

pub is_short : (bytes : ℕ) → bytes ≤ 4096 → is_too_long bytes ≡ false
is_short bytes l = grind (arith, nat_tests)

-- ---- in a page in hand

-- what a page with a block makes of the holdings
abbrev pub placed : ℕ → ℕ → ℕ → Holdings → Holdings
placed h at room k = record k {
  owner = owns at room (Region h) k.owner;
  counts = record (k.counts) { taken = put h (k.counts.taken h + 1) k.counts.taken; left = put h (4096 - room) k.counts.left };
}

-- what it makes of them beside the last page
abbrev pub joined : ℕ → ℕ → ℕ → Holdings → Holdings
joined h at room k = record k {
  owner = owns at room (Region h) k.owner;
  counts = record (k.counts) { taken = put h (k.counts.taken h + 1) k.counts.taken };
}

owner_new : (holder : ℕ → Option ℕ) (used : ℕ → ℕ) (p h room : ℕ) → holder p ≡ None → room ≤ 4096 → (q : ℕ) →
    owner_at (put p (Some h) holder) (put p room used) q ≡ owns (arena_base + 4096 * p) room (Region h) (owner_at holder used) q
owner_new holder used p h room n m q =
    let r : nat_eq p p ≡ true = grind (arith, nat_tests) in
    let c = owner_cut (put p (Some h) holder) (put p 0 used) p h 0 room (rw r refl) (rw r refl) (omega (arith, m)) q in
    let a : arena_base + 4096 * p + 0 ≡ arena_base + 4096 * p = omega arith in
    let z : put p (0 + room) (put p 0 used) ≡ put p room used = (λ i k. twice k i) in
    sym (ap (λ f. owner_at (put p (Some h) holder) f q) z) ∙ c
    ∙ ap (λ n. owns n room (Region h) (owner_at (put p (Some h) holder) (put p 0 used)) q) a
    ∙ ap (λ f. owns (arena_base + 4096 * p) room (Region h) f q) (λ i k. owner_empty holder used p (Some h) n k i)
  where
    twice : (k : ℕ) → put p (0 + room) (put p 0 used) k ≡ put p room used k
    twice k = let z : 0 + room ≡ room = omega arith in by_page (nat_eq k p) z
      where
        by_page : (b : Bool) → 0 + room ≡ room → (if b then 0 + room else (if b then 0 else used k)) ≡ (if b then room else used k)
        by_page true z = z
        by_page false z = refl

module _ (u : Shape) (p : ℕ) (s : IsOrdered u (page_in_hand p)) (room : ℕ) (eights : room % 8 ≡ 0) (most : room ≤ 4096) where
  pub few : u.ever_used ≤ 4096
  few = hand_few u p s

  pub nobody : holder_of u.word p ≡ None
  nobody = hand_nobody (freed_of u) (owner_of u.word) (pages_of u.word) u.ever_used p few s.chains

  pub unmarked : owner_of u.word p ≤ 4096
  unmarked = hand_unmarked (freed_of u) (owner_of u.word) (pages_of u.word) u.ever_used p few s.chains

  -- it is the last page of nobody
  no_last : (g : ℕ) → nat_eq (last_of u g) (p + 1) ≡ false
  no_last g = last_differs u (page_in_hand p) s g p None nobody (λ k. cc)

  -- ---- of the heap
  abbrev pub heaped : Shape
  heaped = with_heap_page p room u

  pub heap_live : (g : ℕ) → is_live_number (owner_of heaped.word) g ≡ is_live_number (owner_of u.word) g
  heap_live = live_same (freed_of u) (owner_of u.word) (pages_of u.word) u.ever_used p few s.chains heap_mark (let l = hand_small u p s in grind
      (arith, nat_tests))

  heap_holder : (q : ℕ) → holder_of heaped.word q ≡ put p (Some 0) (holder_of u.word) q
  heap_holder q = by_page (nat_eq q p) refl
    where
      by_page : (b : Bool) → nat_eq q p ≡ b → holder_of heaped.word q ≡ (if b then Some 0 else holder_of u.word q)
      by_page true e = holder_heap (owner_of heaped.word) (pages_of heaped.word) q (rw e refl)
      by_page false e =
          marked_others (freed_of u) (owner_of u.word) (pages_of u.word) u.ever_used p few s.chains heap_mark (pages_of heaped.word) (omega arith) (hand_small
          u p s) (λ g d. pages_are heaped.word g ∙ sym (pages_are u.word g)) q e

  heap_taken : (g : ℕ) → taken_by heaped g ≡ put 0 (taken_by u 0 + 1) (taken_by u) g
  heap_taken zero =
      let m = marked_put heap_mark (owner_of u.word) p heap_mark u.pages in let w = hand_within u p s in let k = unmarked in
      let a = taken_heap heaped in let b = taken_heap u in grind (arith, nat_tests)
  heap_taken (suc g) = by_live (is_live_number (owner_of u.word) (suc g)) refl ∙ (let n : nat_eq (suc g) 0 ≡ false = grind (arith, nat_tests) in rw n refl)
    where
      by_live : (c : Bool) → is_live_number (owner_of u.word) (suc g) ≡ c → taken_by heaped (suc g) ≡ taken_by u (suc g)
      by_live true d = taken_region heaped (suc g) (heap_live (suc g) ∙ d) ∙ sym (taken_region u (suc g) d)
      by_live false d = taken_other heaped (suc g) (omega arith) (heap_live (suc g) ∙ d) ∙ sym (taken_other u (suc g) (omega arith) d)

  heap_lasts : (g : ℕ) → 0 < g → last_of heaped g ≡ last_of u g
  heap_lasts g l = by_live (is_live_number (owner_of u.word) g) refl
    where
      by_live : (c : Bool) → is_live_number (owner_of u.word) g ≡ c → last_of heaped g ≡ last_of u g
      by_live true d = last_of_region heaped g (heap_live g ∙ d) ∙ sym (last_of_region u g d)
      by_live false d = last_of_other heaped g l (heap_live g ∙ d) ∙ sym (last_of_other u g l d)

  heap_left : (g : ℕ) → left_of (used_of heaped.word) (last_of heaped g) ≡ put 0 (4096 - room) (λ k. left_of (used_of u.word) (last_of u k)) g
  heap_left zero = left_here (used_of u.word) p room (last_of heaped 0) (last_of_heap heaped 0 refl)
  heap_left (suc g) =
      ap (left_of (used_of heaped.word)) (heap_lasts (suc g) (omega arith)) ∙ left_other (used_of u.word) p room (last_of u (suc g)) (no_last (suc g))
      ∙ (let n : nat_eq (suc g) 0 ≡ false = grind (arith, nat_tests) in rw n refl)

  pub heaped_holds : holdings_of heaped ≡ placed 0 (arena_base + 4096 * p) room (holdings_of u)
  heaped_holds = λ i. record {
    pages = u.pages;
    standing = λ g. if heap_live g i then Some Lexical else None;
    owner = λ q. (ap (λ f. owner_at f (put p room (used_of u.word)) q) (λ j r. heap_holder r j) ∙ owner_new (holder_of u.word) (used_of u.word) p 0
        room nobody most q) i;
    counts = record {
      fresh = u.pages - u.ever_used;
      given = u.freed;
      taken = λ g. heap_taken g i;
      left = λ g. heap_left g i;
      class_pages = λ c. 0;
      slots = λ c. 0;
    };
  }

  -- beside its last page
  abbrev pub heap_joined : Shape
  heap_joined = with_heap_joined p room u

  heap_joined_lasts : (g : ℕ) → last_of heap_joined g ≡ last_of u g
  heap_joined_lasts zero = last_of_heap heap_joined 0 refl ∙ sym (last_of_heap u 0 refl)
  heap_joined_lasts (suc g) = by_live (is_live_number (owner_of u.word) (suc g)) refl
    where
      by_live : (c : Bool) → is_live_number (owner_of u.word) (suc g) ≡ c → last_of heap_joined (suc g) ≡ last_of u (suc g)
      by_live true d = last_of_region heap_joined (suc g) (heap_live (suc g) ∙ d) ∙ sym (last_of_region u (suc g) d)
      by_live false d = last_of_other heap_joined (suc g) (omega arith) (heap_live (suc g) ∙ d) ∙ sym (last_of_other u (suc g) (omega arith) d)

  heap_same_taken : (g : ℕ) → taken_by heap_joined g ≡ taken_by heaped g
  unfolding taken_by
  heap_same_taken g = refl

  heap_joined_taken : (g : ℕ) → taken_by heap_joined g ≡ put 0 (taken_by u 0 + 1) (taken_by u) g
  heap_joined_taken g = heap_same_taken g ∙ heap_taken g

  pub heap_joined_holds : holdings_of heap_joined ≡ joined 0 (arena_base + 4096 * p) room (holdings_of u)
  heap_joined_holds = λ i. record {
    pages = u.pages;
    standing = λ g. if heap_live g i then Some Lexical else None;
    owner = λ q. (ap (λ f. owner_at f (put p room (used_of u.word)) q) (λ j r. heap_holder r j) ∙ owner_new (holder_of u.word) (used_of u.word) p 0
        room nobody most q) i;
    counts = record {
      fresh = u.pages - u.ever_used;
      given = u.freed;
      taken = λ g. heap_joined_taken g i;
      left = λ g. (ap (left_of (used_of heap_joined.word)) (heap_joined_lasts g) ∙ left_other (used_of u.word) p room (last_of u g) (no_last g)) i;
      class_pages = λ c. 0;
      slots = λ c. 0;
    };
  }

  pub heap_now : owner_of heaped.word p ≡ heap_mark
  heap_now = let r : nat_eq p p ≡ true = grind (arith, nat_tests) in rw r refl

  pub heap_others : (q f : ℕ) → nat_eq q p ≡ false → heaped.word q f ≡ u.word q f
  heap_others q f n = word_other p 1 heap_mark (put_word p 2 room u.word) q f n ∙ word_other p 2 room u.word q f n

  -- ---- of a live region
  module _ (h : ℕ) (live : is_live_number (owner_of u.word) h ≡ true) where
    abbrev pub newest : Shape
    newest = with_newest h p room u

    pub region_live : (g : ℕ) → is_live_number (owner_of newest.word) g ≡ is_live_number (owner_of u.word) g
    region_live =
        grown_live (freed_of u) (owner_of u.word) (pages_of u.word) u.ever_used p few s.chains h (pages_of newest.word) live (grown_pages u p s h room live)
        (grown_others u p s h room live)

    region_holder : (q : ℕ) → holder_of newest.word q ≡ put p (Some h) (holder_of u.word) q
    region_holder =
        grown_holder (freed_of u) (owner_of u.word) (pages_of u.word) u.ever_used p few s.chains h (pages_of newest.word) live
        (grown_pages u p s h room live) (grown_others u p s h room live)

    -- the region's own words, and those of others
    region_count : (g : ℕ) → nat_eq g h ≡ true → count_of newest.word g ≡ count_of u.word h + 1
    region_count g e = let n : nat_eq (g - 1) (h - 1) ≡ true = grind (arith, nat_tests) in rw n refl

    region_current : (g : ℕ) → nat_eq g h ≡ true → current_of newest.word g ≡ p
    region_current g e = let n : nat_eq (g - 1) (h - 1) ≡ true = grind (arith, nat_tests) in rw n refl

    pub other_first : (g : ℕ) → 0 < g → nat_eq g h ≡ false → nat_eq (g - 1) (h - 1) ≡ false
    other_first g l e = let k = live_some (owner_of u.word) h live in grind (arith, nat_tests)

    some_number : nat_eq 0 h ≡ false
    some_number = let k = live_some (owner_of u.word) h live in grind (arith, nat_tests)

    region_taken : (g : ℕ) → taken_by newest g ≡ put h (taken_by u h + 1) (taken_by u) g
    region_taken g = by_number g (nat_eq g h) refl
      where
        by_number : (g : ℕ) (b : Bool) → nat_eq g h ≡ b → taken_by newest g ≡ (if b then taken_by u h + 1 else taken_by u g)
        by_number g true e =
            let same : g ≡ h = grind (arith, nat_tests) in
            taken_region newest g (region_live g ∙ ap (is_live_number (owner_of u.word)) same ∙ live) ∙ region_count g e
            ∙ ap (λ n. n + 1) (sym (taken_region u h live))
        by_number zero false e =
            taken_heap newest ∙ marked_kept heap_mark (owner_of u.word) p h u.pages (let k = unmarked in grind (arith, nat_tests))
            (let k = live_small (freed_of u) (owner_of u.word) (pages_of u.word) u.ever_used (page_in_hand p) few s.chains h live in grind
            (arith, nat_tests))
            ∙ sym (taken_heap u)
        by_number (suc g) false e = by_live (is_live_number (owner_of u.word) (suc g)) refl
          where
            by_live : (c : Bool) → is_live_number (owner_of u.word) (suc g) ≡ c → taken_by newest (suc g) ≡ taken_by u (suc g)
            by_live true d =
                let n = other_first (suc g) (omega arith) e in
                taken_region newest (suc g) (region_live (suc g) ∙ d) ∙ (rw n refl) ∙ sym (taken_region u (suc g) d)
            by_live false d = taken_other newest (suc g) (omega arith) (region_live (suc g) ∙ d) ∙ sym (taken_other u (suc g) (omega arith) d)

    region_lasts : (g : ℕ) → nat_eq g h ≡ false → last_of newest g ≡ last_of u g
    region_lasts zero e = last_of_heap newest 0 refl ∙ sym (last_of_heap u 0 refl)
    region_lasts (suc g) e = by_live (is_live_number (owner_of u.word) (suc g)) refl
      where
        by_live : (c : Bool) → is_live_number (owner_of u.word) (suc g) ≡ c → last_of newest (suc g) ≡ last_of u (suc g)
        by_live true d =
            let n = other_first (suc g) (omega arith) e in
            last_of_region newest (suc g) (region_live (suc g) ∙ d) ∙ (rw n refl) ∙ sym (last_of_region u (suc g) d)
        by_live false d = last_of_other newest (suc g) (omega arith) (region_live (suc g) ∙ d) ∙ sym (last_of_other u (suc g) (omega arith) d)

    region_left : (g : ℕ) → left_of (used_of newest.word) (last_of newest g) ≡ put h (4096 - room) (λ k. left_of (used_of u.word) (last_of u k)) g
    region_left g = by_number (nat_eq g h) refl
      where
        by_number : (b : Bool) → nat_eq g h ≡ b → left_of (used_of newest.word) (last_of newest g) ≡ (if b then 4096 - room else left_of
            (used_of u.word) (last_of u g))
        by_number true e =
            let same : g ≡ h = grind (arith, nat_tests) in
            left_here (used_of u.word) p room (last_of newest g) (last_of_region newest g (region_live g ∙ ap (is_live_number (owner_of u.word)) same
            ∙ live) ∙ ap (λ n. n + 1) (region_current g e))
        by_number false e =
            ap (left_of (used_of newest.word)) (region_lasts g e) ∙ left_other (used_of u.word) p room (last_of u g) (no_last g)

    pub newest_holds : holdings_of newest ≡ placed h (arena_base + 4096 * p) room (holdings_of u)
    newest_holds = λ i. record {
      pages = u.pages;
      standing = λ g. if region_live g i then Some Lexical else None;
      owner = λ q. (ap (λ f. owner_at f (put p room (used_of u.word)) q) (λ j r. region_holder r j) ∙ owner_new (holder_of u.word) (used_of u.word) p h
          room nobody most q) i;
      counts = record {
        fresh = u.pages - u.ever_used;
        given = u.freed;
        taken = λ g. region_taken g i;
        left = λ g. region_left g i;
        class_pages = λ c. 0;
        slots = λ c. 0;
      };
    }

    -- beside its current page
    abbrev pub one_more : Shape
    one_more = with_joined h p room u

    joined_holder : (q : ℕ) → holder_of one_more.word q ≡ put p (Some h) (holder_of u.word) q
    joined_holder q = ap (λ c. holder_by (owner_of newest.word) c q) (joined_pages u p s h room live) ∙ region_holder q

    joined_lasts : (g : ℕ) → last_of one_more g ≡ last_of u g
    joined_lasts zero = last_of_heap one_more 0 refl ∙ sym (last_of_heap u 0 refl)
    joined_lasts (suc g) = by_live (is_live_number (owner_of u.word) (suc g)) refl
      where
        by_live : (c : Bool) → is_live_number (owner_of u.word) (suc g) ≡ c → last_of one_more (suc g) ≡ last_of u (suc g)
        by_live true d = last_of_region one_more (suc g) (region_live (suc g) ∙ d) ∙ sym (last_of_region u (suc g) d)
        by_live false d = last_of_other one_more (suc g) (omega arith) (region_live (suc g) ∙ d) ∙ sym (last_of_other u (suc g) (omega arith) d)

    same_taken : (g : ℕ) → taken_by one_more g ≡ taken_by newest g
    unfolding taken_by
    same_taken g = refl

    joined_taken : (g : ℕ) → taken_by one_more g ≡ put h (taken_by u h + 1) (taken_by u) g
    joined_taken g = same_taken g ∙ region_taken g

    pub joined_holds : holdings_of one_more ≡ joined h (arena_base + 4096 * p) room (holdings_of u)
    joined_holds = λ i. record {
      pages = u.pages;
      standing = λ g. if region_live g i then Some Lexical else None;
      owner = λ q. (ap (λ f. owner_at f (put p room (used_of u.word)) q) (λ j r. joined_holder r j) ∙ owner_new (holder_of u.word) (used_of u.word) p h
          room nobody most q) i;
      counts = record {
        fresh = u.pages - u.ever_used;
        given = u.freed;
        taken = λ g. joined_taken g i;
        left = λ g. (ap (left_of (used_of one_more.word)) (joined_lasts g) ∙ left_other (used_of u.word) p room (last_of u g) (no_last g)) i;
        class_pages = λ c. 0;
        slots = λ c. 0;
      };
    }
