-- What a request for a block says to its caller.
use Rattle.std.proofs.Common.{◌≡◌, ℕ, zero, suc, ◌+◌, ◌-◌, ◌*◌, ◌/◌, ◌<◌, ◌≤◌, Bool, true, false, length, Ok, nat_eq, refl, sym, ap, subst, ◌∙◌, arith}
use Rattle.std.specs.Prelude.{if◌then◌else◌}
use Rattle.std.proofs.lemmas.Bool.Decides.{nat_tests}
use Rattle.arena_laws.specs.Counts.{block_needs_page, room_of, is_full, is_large, run_of}
use Rattle.arena_laws.specs.Holdings.{arena_base}
use Rattle.arena_laws.specs.Lawful.{Grants, takes_blocks}
use Rattle.arena_laws.specs.Laws.{Does, is_block_refused, region_alloc}
use Rattle.region_runtime.specs.Headers.{owner_of, used_of, count_of, is_live_number}
use Rattle.region_runtime.specs.Pool.{
  Pooled,
  Shape,
  shape_of,
  byte_at,
  counts_of,
  held,
  holdings_of,
  is_taken,
  is_taken_by,
  last_of,
  left_of,
  standing_by,
  tag_by,
  tag_of,
  word_by,
  word_of,
}
use Rattle.region_runtime.specs.Sound.{IsOrdered, IsSound, no_page}
use Rattle.region_runtime.specs.Steps.{next_page, with_heap_page, with_newest, with_page, with_word, without_page}
use Rattle.region_runtime.specs.Touches.{Touched, alloc_least, block_least, reads_link, reads_number, run_words, used_after, used_with_block}
use Rattle.region_runtime.proofs.Blank.{cut_words, grow_words, number_none, number_read, used_taken}
use Rattle.region_runtime.proofs.Words.{last_of_region, live_page}
use Rattle.region_runtime.proofs.Serves.{serves_live}
use Rattle.region_runtime.proofs.Ordered.{count_least, page_taken}
use Rattle.region_runtime.proofs.InHand.{not_first}
use Rattle.region_runtime.proofs.Held.{last_within, page_less}
use Rattle.region_runtime.proofs.Placed.{is_room, not_large, room_small}
use Rattle.region_runtime.proofs.Blocks.{IsPlaced, cut_placed, none_free, page_placed}
use Rattle.region_runtime.proofs.Along.{bytes_along, sound_after}
use Rattle.region_runtime.proofs.Runs.{is_run, none_for_run, run_placed}
use Rattle.region_runtime.specs.Runs.{IsRun}

pub last_in : (p : Pooled) → IsSound p → (h : ℕ) → last_of (shape_of p) h ≤ length p.words / 16
last_in p s h = by_last (last_of (shape_of p) h) refl
  where
    by_last : (r : ℕ) → last_of (shape_of p) h ≡ r → r ≤ length p.words / 16
    by_last zero e = omega arith
    by_last (suc q) e =
        let l = last_within (shape_of p) no_page s.ordered h q (omega (arith, e)) in let b = s.ordered.begun in omega (arith, l, b)

pub record PlaceSays (old new : Pooled) (h asked at : ℕ) : Type 0 where
  pub sound : IsSound new
  pub does : Does (Ok at) (held new) (region_alloc h asked (Grants at) (held old))
  pub full : false ≡ is_block_refused h asked (held old)
  pub tags : tag_of new ≡ tag_of old
  pub taken : is_taken new ≡ is_taken old
  pub words : word_of new ≡ word_of old
  pub bytes : byte_at new ≡ byte_at old
  pub fresh : new.ever_used ≡ used_with_block h (room_of asked) (held old) old.ever_used

module _ (fields value new : Pooled) (view : fields ≡ value) (s : IsSound fields) (long : length new.words ≡ length fields.words)
    (same_bytes : new.bytes ≡ fields.bytes) (h bytes : ℕ) where
  abbrev t : Shape
  t = shape_of fields

  told : (after : Shape) (at : ℕ) → shape_of new ≡ after →
      after.ever_used ≡ used_with_block h (room_of bytes) (holdings_of t) t.ever_used → IsPlaced t after h bytes at → PlaceSays value new h bytes at
  told after at e f p =
      let says : PlaceSays fields new h bytes at = record {
        sound = sound_after fields new after s long same_bytes e p.ordered;
        does = subst (λ k. Does (Ok at) (holdings_of k) (region_alloc h bytes (Grants at) (held fields))) (sym e) p.does;
        full = p.free;
        tags = ap (λ k. tag_by k.word) e ∙ p.tags;
        taken = ap (λ k. is_taken_by k.word) e ∙ p.taken;
        words = ap (λ k. word_by k.word) e ∙ p.words;
        bytes = bytes_along fields fields new refl same_bytes;
        fresh = ap (λ k. k.ever_used) e ∙ f;
      } in subst (λ k. PlaceSays k new h bytes at) view says

  module _ (serves : takes_blocks h (standing_by (owner_of t.word) h) ≡ true) (room : ℕ) (short : bytes ≤ 4096) (rounded : room ≡ room_of bytes)
      (last left : ℕ) (last_is : last ≡ last_of t h) (left_is : left ≡ left_of (used_of t.word) last) where
    live : 0 < h → is_live_number (owner_of t.word) h ≡ true
    live = serves_live (owner_of t.word) h serves

    small_room : is_large (room_of bytes) ≡ false
    small_room = not_large (room_of bytes) (room_small bytes short)

    -- the words that are read before a block is placed
    abbrev reads : ℕ
    reads = reads_number t.pages h + (if nat_eq h 0 then 0 else 1) + (if nat_eq last 0 then 0 else 1)

    heap_reads : h ≡ 0 → reads_number t.pages h ≡ 0
    heap_reads e = number_none t.pages h e

    region_reads : 0 < h → reads_number t.pages h ≡ 1
    region_reads l = let p = live_page fields.words h (live l) in number_read t.pages h (λ e. omega (arith, l, e)) (omega (arith, p))

    region_last : 0 < h → 0 < last
    region_last l = let e = last_of_region t h (live l) in omega (arith, e, last_is)

    touches : (needs : Bool) (n : ℕ) → block_needs_page h (room_of bytes) (counts_of t) ≡ needs →
        Touched true (block_least h needs (reads_link (holdings_of t))) 1 3 n →
        Touched true (alloc_least h (room_of bytes) (held value)) 1 3 n
    touches needs n e k =
        let l = small_room in
        subst (λ p. Touched true (alloc_least h (room_of bytes) (held p)) 1 3 n) view
        (rw l (subst (λ b. Touched true (block_least h b (reads_link (holdings_of t))) 1 3 n) (sym e) k))

    -- no run of pages is used
    single : (b : Bool) → block_needs_page h (room_of bytes) (counts_of t) ≡ b → (used : ℕ) → used ≡ used_after b (holdings_of t) t.ever_used →
        used ≡ used_with_block h (room_of bytes) (holdings_of t) t.ever_used
    single b e used u = let l = small_room in rw l (u ∙ ap (λ b. used_after b (holdings_of t) t.ever_used) (sym e))

    -- ---- in the last page
    module _ (fits : room ≤ left) where
      by_last : (r : ℕ) → left ≡ left_of (used_of t.word) r → (0 < r) × (used_of t.word (r - 1) + room ≤ 4096)
      by_last zero e = let i = (is_room bytes room short rounded).some in absurd (omega (arith, e, fits, i))
      by_last (suc q) e =
          let one : suc q - 1 ≡ q = omega arith in let w = s.ordered.within q in let i = (is_room bytes room short rounded).some in
          (omega arith, subst (λ k. used_of t.word k + room ≤ 4096) (sym one) (omega (arith, e, w, fits, i)))

      pub last_fits : used_of t.word (last - 1) + room ≤ 4096
      last_fits = (by_last last left_is).1

      pub last_some : 0 < last
      last_some = (by_last last left_is).0

      spare : block_needs_page h (room_of bytes) (counts_of t) ≡ false
      spare =
          let l = left_is ∙ ap (left_of (used_of t.word)) last_is in
          subst (λ r. block_needs_page h r (counts_of t) ≡ false) rounded (grind (arith, nat_tests))

      pub cut_touched : (n : ℕ) → n ≡ reads + 2 →
          Touched true (alloc_least h (room_of bytes) (held value)) 1 3 n
      cut_touched n e = touches false n spare (cut_words h last (reads_number t.pages h) n (reads_link (holdings_of t)) last_some heap_reads
          region_reads e)

      pub cut_says : (at : ℕ) → at ≡ arena_base + 4096 * (last - 1) + used_of t.word (last - 1) →
          shape_of new ≡ with_word (last - 1) 2 (used_of t.word (last - 1) + room) t → PlaceSays value new h bytes at
      cut_says at a e =
          let l = last_some in
          let p = cut_placed t s.ordered h bytes room live short rounded (last - 1) (used_of t.word (last - 1)) (omega (arith, l, last_is)) refl last_fits in
          subst (λ k. PlaceSays value new h bytes k) (sym a) (told (with_word (last - 1) 2 (used_of t.word (last - 1) + room) t)
          (arena_base + 4096 * (last - 1) + used_of t.word (last - 1)) e
          (single false spare t.ever_used refl) p)

    -- ---- in a page that is taken
    module _ (more : left < room) where
      needs : left_of (used_of t.word) (last_of t h) < room
      needs = subst (λ k. left_of (used_of t.word) k < room) last_is (omega (arith, left_is, more))

      short_of : block_needs_page h (room_of bytes) (counts_of t) ≡ true
      short_of = let n = needs in subst (λ r. block_needs_page h r (counts_of t) ≡ true) rounded (grind (arith, nat_tests))

      pub grow_touched : (n : ℕ) → n ≡ reads + reads_link (holdings_of t) + (if nat_eq h 0 then 2 else 8) →
          Touched true (alloc_least h (room_of bytes) (held value)) 1 3 n
      grow_touched n e = touches true n short_of (grow_words h last (reads_number t.pages h) n (reads_link (holdings_of t)) region_last
          heap_reads region_reads e)

      pub none_says : is_full (counts_of t) ≡ true → true ≡ is_block_refused h bytes (held fields)
      none_says f = none_free t s.ordered h bytes room live short rounded needs f

      pub grow_says : (p : ℕ) → is_full (counts_of t) ≡ false → p ≡ next_page t → shape_of new ≡ with_page h p room (without_page t) →
          PlaceSays value new h bytes (arena_base + 4096 * p)
      grow_says p f n e =
          let e' : shape_of new ≡ with_page h (next_page t) room (without_page t) = e ∙ ap (λ k. with_page h k room (without_page t)) n in
          subst (λ k. PlaceSays value new h bytes (arena_base + 4096 * k)) (sym n)
          (told (with_page h (next_page t) room (without_page t)) (arena_base + 4096 * next_page t) e'
          (single true short_of (with_page h (next_page t) room (without_page t)).ever_used (grown_used (next_page t) ∙ used_taken t))
          (page_placed t s.ordered h bytes room live short rounded needs f))
        where
          grown_used : (p : ℕ) → (with_page h p room (without_page t)).ever_used ≡ (without_page t).ever_used
          grown_used p = by_heap (nat_eq h 0)
            where
              by_heap : (b : Bool) → (if b then with_heap_page p room (without_page t) else with_newest h p room (without_page t)).ever_used
                  ≡ (without_page t).ever_used
              by_heap true = refl
              by_heap false = refl

  -- ---- in a run of pages
  module _ (serves : takes_blocks h (standing_by (owner_of t.word) h) ≡ true) (room : ℕ) (short : bytes ≤ 1048576) (rounded : room ≡ room_of bytes)
      (large : 4096 < room) where
    pub no_run_says : t.pages - t.ever_used < run_of room → true ≡ is_block_refused h bytes (held fields)
    no_run_says f = none_for_run t t s.ordered h bytes room serves short rounded large f

    its_run : is_large (room_of bytes) ≡ true
    its_run = is_run t t s.ordered h bytes room serves short rounded large

    pub run_touched : (n : ℕ) → run_words h (run_of room) ≤ n → n ≤ run_words h (run_of room) + 1 →
        Touched true (alloc_least h (room_of bytes) (held value)) 1 3 n
    run_touched n a b =
        let l = its_run in
        rw l (subst (λ r. Touched true (run_words h (run_of r)) 1 3 n) rounded (record { least = a; most = b }))

    pub run_says : run_of room ≤ t.pages - t.ever_used → IsRun t (shape_of new) h (arena_base + 4096 * t.ever_used) room (run_of room) →
        PlaceSays value new h bytes (arena_base + 4096 * t.ever_used)
    run_says f r =
        let l = its_run in
        told (shape_of new) (arena_base + 4096 * t.ever_used) refl (r.used ∙ ap (λ k. t.ever_used + run_of k) rounded ∙ (rw l refl))
        (run_placed t (shape_of new) s.ordered h bytes room serves short rounded large f r)

-- ---- what growing asks

-- the page in hand is no live region's first
pub hand_other : (t : Shape) → IsOrdered t no_page → is_full (counts_of t) ≡ false → (h : ℕ) → is_live_number (owner_of t.word) h ≡ true →
    nat_eq (next_page t) (h - 1) ≡ false
hand_other t s f h l =
    let e = page_less t s.begun f in
    not_first (without_page t) (next_page t) (page_taken t s f) h 0 (ap (λ w. is_live_number (owner_of w) h) e.word ∙ l)

pub count_small : (t : Shape) → IsOrdered t no_page → (h : ℕ) → is_live_number (owner_of t.word) h ≡ true → count_of t.word h ≤ 4096
count_small t s h l = let c = count_least t s h l in omega (arith, c)
