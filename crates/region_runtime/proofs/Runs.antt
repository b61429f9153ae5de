-- A run of pages that were never used joins the heap or a live region, page by page, and is a large block then.
use Rattle.std.proofs.Common.{◌≡◌, ℕ, ◌+◌, ◌-◌, ◌*◌, ◌%◌, ◌<◌, ◌≤◌, Bool, true, false, Option, Some, None, nat_eq, nat_lt, refl, sym, ap, subst, ◌∙◌, arith}
use Rattle.std.specs.Prelude.{if◌then◌else◌, ◌||◌}
use Rattle.std.proofs.lemmas.Bool.Decides.{nat_tests}
use Rattle.arena_laws.specs.declared.owner.Owner.{Owner}
use Rattle.arena_laws.specs.declared.owner.Owner.TheVariants.{Region}
use Rattle.arena_laws.specs.declared.standing.Standing.{Standing}
use Rattle.arena_laws.specs.declared.standing.Standing.TheVariants.{Lexical}
use Rattle.arena_laws.specs.Counts.{put, room_of, run_of, is_large, is_too_long, is_full_for_room, with_run}
use Rattle.arena_laws.specs.Holdings.{Holdings, arena_base}
use Rattle.arena_laws.specs.Lawful.{owns, is_in_room, is_lawful_room, takes_blocks, with_region_block}
use Rattle.arena_laws.specs.Laws.{is_block_refused}
use Rattle.region_runtime.specs.Headers.{owner_of, used_of, count_of, is_live_number, holder_of}
use Rattle.region_runtime.specs.Pool.{Shape, counts_of, holdings_of, last_of, taken_by, page_at, place_at, owned, standing_by}
use Rattle.region_runtime.specs.Sound.{IsOrdered, no_page}
use Rattle.region_runtime.specs.Steps.{with_more, with_heap_joined, with_joined, without_fresh}
use Rattle.region_runtime.specs.Runs.{IsRun, ran}
use Rattle.region_runtime.specs.Touches.{run_words}
use Rattle.region_runtime.proofs.Ordered.{count_least, first_used, unused_taken}
use Rattle.region_runtime.proofs.Owners.{owner_there, owned_nothing, is_lawful}
use Rattle.region_runtime.proofs.Placed.{granted, joined}
use Rattle.region_runtime.proofs.Blocks.{IsPlaced, more_by_number}

-- ---- owning so many bytes, then more

owns_none : (at : ℕ) (who : Owner) (f : ℕ → Option Owner) (q : ℕ) → owns at 0 who f q ≡ f q
owns_none at who f q = let n : is_in_room at 0 q ≡ false = grind (arith, nat_tests) in rw n refl

owns_more : (at next a b : ℕ) (who : Owner) (f : ℕ → Option Owner) → next ≡ at + a → (q : ℕ) → owns next b who (owns at a who f) q ≡ owns at (a + b) who f q
owns_more at next a b who f e q = by_tests (is_in_room next b q) (is_in_room at a q) refl refl
  where
    by_tests : (c d : Bool) → is_in_room next b q ≡ c → is_in_room at a q ≡ d →
        (if c then Some who else (if d then Some who else f q)) ≡ (if is_in_room at (a + b) q then Some who else f q)
    by_tests true d x y = let n : is_in_room at (a + b) q ≡ true = grind (arith, nat_tests) in rw n refl
    by_tests false true x y = let n : is_in_room at (a + b) q ≡ true = grind (arith, nat_tests) in rw n refl
    by_tests false false x y = let n : is_in_room at (a + b) q ≡ false = grind (arith, nat_tests) in rw n refl

-- ---- counts

put_none : (h : ℕ) (f : ℕ → ℕ) (q : ℕ) → put h (f h + 0) f q ≡ f q
put_none h f q = by_same (nat_eq q h) refl
  where
    by_same : (b : Bool) → nat_eq q h ≡ b → (if b then f h + 0 else f q) ≡ f q
    by_same true e = let same : q ≡ h = grind (arith, nat_tests) in (let z : f h + 0 ≡ f h = omega arith in z) ∙ ap f (sym same)
    by_same false e = refl

put_more : (h n : ℕ) (f : ℕ → ℕ) (q : ℕ) → put h (put h (f h + n) f h + 1) (put h (f h + n) f) q ≡ put h (f h + (n + 1)) f q
put_more h n f q =
    let r : nat_eq h h ≡ true = grind (arith, nat_tests) in
    let k : put h (f h + n) f h + 1 ≡ f h + (n + 1) = (let z : put h (f h + n) f h ≡ f h + n = rw r refl in omega (arith, z)) in
    by_same (nat_eq q h) k
  where
    by_same : (b : Bool) → put h (f h + n) f h + 1 ≡ f h + (n + 1) →
        (if b then put h (f h + n) f h + 1 else (if b then f h + n else f q)) ≡ (if b then f h + (n + 1) else f q)
    by_same true k = k
    by_same false k = refl

-- a page fewer was never used
abbrev pub less : Holdings → Holdings
less k = record k { counts = record (k.counts) { fresh = k.counts.fresh - 1 } }

-- the first page never used is taken
less_holds : (t : Shape) → holdings_of (without_fresh t) ≡ less (holdings_of t)
unfolding last_of taken_by
less_holds t = λ i. record (holdings_of t) {
  counts = record (counts_of t) {
    fresh = (let e : t.pages - (t.ever_used + 1) ≡ t.pages - t.ever_used - 1 = omega arith in e) i;
  };
}

pub none_ran : (h at : ℕ) (k : Holdings) → ran h at 0 0 k ≡ k
none_ran h at k = λ i. record k {
  owner = λ q. owns_none at (Region h) k.owner q i;
  counts = record (k.counts) {
    fresh = (let e : k.counts.fresh - 0 ≡ k.counts.fresh = omega arith in e) i;
    taken = λ q. put_none h k.counts.taken q i;
  };
}

pub more_ran : (h at next a b n : ℕ) (k : Holdings) → next ≡ at + a → joined h next b (less (ran h at a n k)) ≡ ran h at (a + b) (n + 1) k
more_ran h at next a b n k e = λ i. record k {
  owner = λ q. owns_more at next a b (Region h) k.owner e q i;
  counts = record (k.counts) {
    fresh = (let z : k.counts.fresh - n - 1 ≡ k.counts.fresh - (n + 1) = omega arith in z) i;
    taken = λ q. put_more h n k.counts.taken q i;
  };
}

-- ---- a run of no page, and one more page

pub run_none : (t : Shape) (h at : ℕ) → IsOrdered t no_page → IsRun t t h at 0 0
run_none t h at s = record {
  ordered = s;
  holds = sym (none_ran h at (holdings_of t));
  tags = refl;
  taken = refl;
  words = refl;
  used = omega arith;
}

more_used : (h p room : ℕ) (u : Shape) → (with_more h p room u).ever_used ≡ u.ever_used
more_used h p room u = by_heap (nat_eq h 0)
  where
    by_heap : (b : Bool) → (if b then with_heap_joined p room u else with_joined h p room u).ever_used ≡ u.ever_used
    by_heap true = refl
    by_heap false = refl

more_pages : (h p room : ℕ) (u : Shape) → (with_more h p room u).pages ≡ u.pages
more_pages h p room u = by_heap (nat_eq h 0)
  where
    by_heap : (b : Bool) → (if b then with_heap_joined p room u else with_joined h p room u).pages ≡ u.pages
    by_heap true = refl
    by_heap false = refl

pub run_more : (t now : Shape) (h n room : ℕ) → IsRun t now h (arena_base + 4096 * t.ever_used) (4096 * n) n → now.ever_used < now.pages →
    (0 < h → is_live_number (owner_of now.word) h ≡ true) → room % 8 ≡ 0 → room ≤ 4096 →
    IsRun t (with_more h now.ever_used room (without_fresh now)) h (arena_base + 4096 * t.ever_used) (4096 * n + room) (n + 1)
run_more t now h n room r l live eights most =
    let at = arena_base + 4096 * t.ever_used in
    let p = now.ever_used in let u = without_fresh now in
    let j = more_by_number u p (unused_taken now r.ordered l) room eights most h live in
    let next : arena_base + 4096 * p ≡ at + 4096 * n = (let e = r.used in omega (arith, e)) in
    record {
      ordered = j.ordered;
      holds = j.holds ∙ ap (joined h (arena_base + 4096 * p) room) (less_holds now) ∙ ap (λ k. joined h (arena_base + 4096 * p) room (less k)) r.holds
          ∙ more_ran h at (arena_base + 4096 * p) (4096 * n) room n (holdings_of t) next;
      tags = j.tags ∙ r.tags;
      taken = j.taken ∙ r.taken;
      words = j.words ∙ r.words;
      used = more_used h p room u ∙ (let e = r.used in omega (arith, e));
    }

-- ---- the large block

module _ (t now : Shape) (s : IsOrdered t no_page) (h bytes room : ℕ) (takes : takes_blocks h (standing_by (owner_of t.word) h) ≡ true)
    (short : bytes ≤ 1048576) (rounded : room ≡ room_of bytes) (large : 4096 < room) where
  pub is_run : is_large (room_of bytes) ≡ true
  is_run = subst (λ r. is_large r ≡ true) rounded (let l = large in grind (arith, nat_tests))

  not_long : is_too_long bytes ≡ false
  not_long = let l = short in grind (arith, nat_tests)

  -- too few pages were never used
  pub none_for_run : t.pages - t.ever_used < run_of room → true ≡ is_block_refused h bytes (holdings_of t)
  none_for_run f =
      let n : nat_lt (t.pages - t.ever_used) (run_of (room_of bytes)) ≡ true = subst (λ r. nat_lt (t.pages - t.ever_used) (run_of r) ≡ true) rounded
      (grind (arith, nat_tests)) in
      let k = takes in let l = is_run in sym (rw (k, l, n) (or_true (is_too_long bytes)))
    where
      or_true : (b : Bool) → (b || true) ≡ true
      or_true true = refl
      or_true false = refl

  pub run_placed : run_of room ≤ t.pages - t.ever_used → IsRun t now h (arena_base + 4096 * t.ever_used) room (run_of room) →
      IsPlaced t now h bytes (arena_base + 4096 * t.ever_used)
  run_placed f r =
      let at = arena_base + 4096 * t.ever_used in
      let n : nat_lt (t.pages - t.ever_used) (run_of (room_of bytes)) ≡ false = subst (λ r. nat_lt (t.pages - t.ever_used) (run_of r) ≡ false) rounded
      (grind (arith, nat_tests)) in
      let l = is_run in let k = takes in let long = not_long in
      let spare : is_full_for_room h (room_of bytes) (counts_of t) ≡ false = rw (l, n) refl in
      let begun = s.begun in let some = large in
      let lawful : is_lawful_room (holdings_of t) at room ≡ true = is_lawful (holdings_of t) at room (omega arith) (omega arith) (omega
      (arith, f, begun, some)) clear in
      let holds : holdings_of now ≡ with_region_block h at (room_of bytes) (holdings_of t) =
      subst (λ r. holdings_of now ≡ record (holdings_of t) {
        owner = owns at r (Region h) (holdings_of t).owner;
        counts = with_run h (run_of r)
            (counts_of t);
      }) rounded r.holds ∙ large_block at in
      record {
        ordered = r.ordered;
        does = granted (holdings_of t) h bytes at k long spare (subst (λ r. is_lawful_room (holdings_of t) at r ≡ true) rounded lawful) (holdings_of now) holds;
        free = sym (rw (k, long, spare) refl);
        tags = r.tags;
        taken = r.taken;
        words = r.words;
      }
    where
      clear : (j : ℕ) → j < room → (holdings_of t).owner (arena_base + 4096 * t.ever_used + j) ≡ None
      clear j b =
          let q = arena_base + 4096 * t.ever_used + j in
          let z = s.unused.blank (page_at q) 2 (omega arith) in
          let o : nat_lt (place_at q) (used_of t.word (page_at q)) ≡ false = grind (arith, nat_tests) in
          owner_there (holder_of t.word) (used_of t.word) q (grind (arith, nat_tests)) ∙ ap (owned (holder_of t.word (page_at q))) o
          ∙ owned_nothing (holder_of t.word (page_at q))

      large_block : (at : ℕ) → record (holdings_of t) {
        owner = owns at (room_of bytes) (Region h) (holdings_of t).owner;
        counts = with_run h
            (run_of (room_of bytes)) (counts_of t);
      } ≡ with_region_block h at (room_of bytes) (holdings_of t)
      large_block at = let l = is_run in rw l refl

-- ---- words

pub run_words_none : (h : ℕ) → run_words h 0 ≡ 0
unfolding run_words
run_words_none h = by_heap (nat_eq h 0)
  where
    by_heap : (b : Bool) → (if b then 2 * 0 else 7 * 0) ≡ 0
    by_heap true = refl
    by_heap false = refl

pub run_words_more : (h n : ℕ) → run_words h (n + 1) ≡ run_words h n + (if nat_eq h 0 then 2 else 7)
unfolding run_words
run_words_more h n = by_heap (nat_eq h 0)
  where
    by_heap : (b : Bool) → (if b then 2 * (n + 1) else 7 * (n + 1)) ≡ (if b then 2 * n else 7 * n) + (if b then 2 else 7)
    by_heap true = omega arith
    by_heap false = omega arith

pub run_words_most : (h n : ℕ) → run_words h n ≤ 7 * n
unfolding run_words
run_words_most h n = by_heap (nat_eq h 0)
  where
    by_heap : (b : Bool) → (if b then 2 * n else 7 * n) ≤ 7 * n
    by_heap true = omega arith
    by_heap false = omega arith

-- ---- the loop

-- so many pages joined, with so many bytes left to place
pub record IsRunning (t now : Shape) (h room left was touched : ℕ) : Type 0 where
  pub many : ℕ
  pub run : IsRun t now h (arena_base + 4096 * t.ever_used) (4096 * many) many
  pub whole : 4096 * many + left ≡ room
  pub some : 0 < left
  pub words : touched ≡ was + run_words h many

pub running_none : (t : Shape) (h room was : ℕ) → IsOrdered t no_page → 0 < room → IsRunning t t h room room was was
running_none t h room was s l = record {
  many = 0;
  run = run_none t h (arena_base + 4096 * t.ever_used) s;
  whole = omega arith;
  some = l;
  words = let z = run_words_none h in omega (arith, z);
}

live_by : (a b : Bool) → ◌≡◌ {A = Option Standing} (if a then Some Lexical else None) (if b then Some Lexical else None) → b ≡ true → a ≡ true
live_by true b e l = refl
live_by false true e l = absurd (cc)
live_by false false e l = l

-- what the next page asks
module _ (t now : Shape) (h room left was touched : ℕ) (r : IsRunning t now h room left was touched) (limit : room ≤ 1048576)
    (pages : t.ever_used + run_of room ≤ t.pages) (few : was < 60) (live : 0 < h → is_live_number (owner_of t.word) h ≡ true) where
  pub live_now : 0 < h → is_live_number (owner_of now.word) h ≡ true
  live_now l = live_by (is_live_number (owner_of now.word) h) (is_live_number (owner_of t.word) h)
      (ap (λ k. let k : Holdings = k in k.standing h) r.run.holds) (live l)

  pages_same : now.pages ≡ t.pages
  pages_same = ap (λ k. let k : Holdings = k in k.pages) r.run.holds

  pub next_there : now.ever_used < now.pages
  next_there = let u = r.run.used in let w = r.whole in let s = r.some in let p = pages in let e = pages_same in omega (arith, u, w, s, p, e)

  pub next_other : 0 < h → nat_eq now.ever_used (h - 1) ≡ false
  next_other l = let f = first_used now r.run.ordered h (live_now l) in grind (arith, nat_tests)

  pub next_few : 0 < h → count_of now.word h ≤ 4096
  next_few l = let c = count_least now r.run.ordered h (live_now l) in omega (arith, c)

  pub next_touched : touched < 8000
  next_touched = let m = run_words_most h r.many in let w = r.words in let e = r.whole in let l = limit in let f = few in omega (arith, m, w, e, l, f)

  pub running_more : (after : Shape) (total : ℕ) → 4096 < left → after ≡ with_more h now.ever_used 4096 (without_fresh now) →
      total ≡ touched + (if nat_eq h 0 then 2 else 7) → IsRunning t after h room (left - 4096) was total
  running_more after total more e w = record {
    many = r.many + 1;
    run = subst (λ n. IsRun t after h (arena_base + 4096 * t.ever_used) n (r.many + 1)) (let z : 4096 * r.many + 4096 ≡ 4096 * (r.many + 1) = omega arith in z)
        (subst (λ k. IsRun t k h (arena_base + 4096 * t.ever_used) (4096 * r.many + 4096) (r.many + 1)) (sym e)
        (run_more t now h r.many 4096 r.run next_there live_now refl (omega arith)));
    whole = let x = r.whole in omega (arith, x, more);
    some = omega (arith, more);
    words = let x = r.words in let y = run_words_more h r.many in omega (arith, x, y, w);
  }

  one_page_more : left ≤ 4096 → run_of room ≡ r.many + 1
  one_page_more l = let x = r.whole in let s = r.some in omega (arith, x, s, l)

  pub run_done : (after : Shape) → left ≤ 4096 → room % 8 ≡ 0 → after ≡ with_more h now.ever_used left (without_fresh now) →
      IsRun t after h (arena_base + 4096 * t.ever_used) room (run_of room)
  run_done after l eights e =
      subst (λ n. IsRun t after h (arena_base + 4096 * t.ever_used) room n) (sym (one_page_more l))
      (subst (λ n. IsRun t after h (arena_base + 4096 * t.ever_used) n (r.many + 1)) r.whole
      (subst (λ k. IsRun t k h (arena_base + 4096 * t.ever_used) (4096 * r.many + left) (r.many + 1)) (sym e)
      (run_more t now h r.many left r.run next_there live_now (let x = r.whole in omega (arith, x, eights)) l)))

  pub words_done : (total : ℕ) → left ≤ 4096 → total ≡ touched + (if nat_eq h 0 then 2 else 7) → total ≡ was + run_words h (run_of room)
  words_done total l w =
      let n = one_page_more l in let x = r.words in let y = run_words_more h r.many in
      (let z : total ≡ was + run_words h (r.many + 1) = omega (arith, x, y, w) in z) ∙ ap (λ k. was + run_words h k) (sym n)
