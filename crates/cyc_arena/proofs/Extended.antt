-- A run of pages that were never used is taken for a large block, page by page.
use Rattle.std.proofs.Common.{◌≡◌, ℕ, zero, suc, ◌+◌, ◌-◌, ◌*◌, ◌/◌, ◌%◌, ◌<◌, ◌≤◌, Bool, true, false, length, Some, None, Ok, nat_eq, nat_lt, refl, sym, ap}
use Rattle.std.proofs.Common.{subst, ◌∙◌, arith, length-set}
use Rattle.std.specs.Prelude.{slice_index, slice_set, ◌||◌, if◌then◌else◌}
use Rattle.std.proofs.lemmas.Bool.{or_right}
use Rattle.std.proofs.lemmas.Bool.Decides.{nat_tests}
use Rattle.std.proofs.lemmas.Grind.{common_steps}
use Rattle.arena_laws.specs.Counts.{put, room_of, run_of, is_large, is_too_long, is_full_for_room}
use Rattle.arena_laws.specs.declared.owner.Owner.TheVariants.{Region}
use Rattle.arena_laws.specs.Holdings.{Holdings, arena_base}
use Rattle.arena_laws.specs.Lawful.{Grants, owns, is_in_room, is_lawful_room, with_region_block, takes_blocks}
use Rattle.arena_laws.specs.Laws.{Does, is_block_refused, region_alloc}
use Rattle.cyc_arena.specs.Plain.{Plain, IsSound, IsInPage, count_of, count_below, owner_at, page_at, place_at, standing_at, left_of, counts_of, holdings_of}
use Rattle.region_runtime.specs.Runs.{ran}
use Rattle.region_runtime.proofs.Runs.{none_ran, more_ran}
use Rattle.region_runtime.proofs.Owners.{is_lawful}
use Rattle.region_runtime.proofs.Placed.{granted}
use Rattle.region_runtime.proofs.Words.{index_at, index_else, index_set}
use Rattle.cyc_arena.proofs.Words.{count_set}
use Rattle.cyc_arena.proofs.Pages.{below_set}
use Rattle.cyc_arena.proofs.Placed.{live_number}
use Rattle.cyc_arena.proofs.Owners.{owner_nobody, owner_region, owner_below, owner_there, owner_elsewhere}

-- ---- one page

module _ (s : Plain) (h room : ℕ) (sound : IsSound s) (takes : takes_blocks h (standing_at s.standing h) ≡ true) (eights : room % 8 ≡ 0)
    (most : room ≤ 4096) (there : s.ever_used < length s.owner) where
  abbrev p : ℕ
  p = s.ever_used

  abbrev pub after : Plain
  after = record s { owner = slice_set s.owner p (2 * h + 1); used = slice_set s.used p room; ever_used = p + 1 }

  free : slice_index s.owner p ≡ 0
  free = sound.unused p (omega arith)

  used_in : p < length s.used
  used_in = let n = sound.used_long in let b = there in omega (arith, n, b)

  owner_by : (b e : Bool) (q : ℕ) → nat_lt q arena_base ≡ b → nat_eq (page_at q) p ≡ e →
      owner_at after.owner after.used s.slots q ≡ owns (arena_base + 4096 * p) room (Region h) (owner_at s.owner s.used s.slots) q
  owner_by true e q b d =
      let out : is_in_room (arena_base + 4096 * p) room q ≡ false = grind (arith, nat_tests) in
      owner_below after.owner after.used s.slots q b ∙ sym (owner_below s.owner s.used s.slots q b)
      ∙ ap (λ t. if t then Some (Region h) else owner_at s.owner s.used s.slots q) (sym out)
  owner_by false true q b e =
      let tests : (if nat_lt (place_at q) room then Some (Region h) else None) ≡ (if is_in_room (arena_base + 4096 * p) room q then Some
      (Region h) else None) = grind (arith, nat_tests) in
      owner_there after.owner after.used s.slots q p (2 * h + 1) room b e (index_at s.owner p (2 * h + 1) p there (grind (arith, nat_tests)))
      (index_at s.used p room p used_in (grind (arith, nat_tests)))
      ∙ owner_region h room p (place_at q) s.slots ∙ tests
      ∙ ap (λ o. if is_in_room (arena_base + 4096 * p) room q then Some (Region h) else o)
      (sym (owner_there s.owner s.used s.slots q p 0 (slice_index s.used p) b e free refl ∙ owner_nobody (slice_index s.used p) p (place_at q) s.slots))
  owner_by false false q b e =
      let out : is_in_room (arena_base + 4096 * p) room q ≡ false = grind (arith, nat_tests) in
      owner_elsewhere s.owner s.used s.slots p (2 * h + 1) room q b e
      ∙ ap (λ t. if t then Some (Region h) else owner_at s.owner s.used s.slots q) (sym out)

  left_same : (k : ℕ) → left_of after.used (slice_index s.last k) ≡ left_of s.used (slice_index s.last k)
  left_same k = other (slice_index s.last k) (let n = sound.ended k p in let z = free in grind (arith, nat_tests))
    where
      other : (r : ℕ) → nat_eq r (p + 1) ≡ false → left_of after.used r ≡ left_of s.used r
      other zero d = refl
      other (suc r) d = ap (λ n. 4096 - n) (index_else s.used p room r (grind (arith, nat_tests)))

  classes_kept : (c : ℕ) → count_of (2 * c + 2) after.owner ≡ count_of (2 * c + 2) s.owner
  classes_kept c = let n = count_set (2 * c + 2) s.owner p (2 * h + 1) there in let e = free in grind (arith, nat_tests)

  given_next : count_below (suc p) 0 after.owner ≡ count_below p 0 s.owner
  unfolding count_below
  given_next =
      let i = index_at s.owner p (2 * h + 1) p there (grind (arith, nat_tests)) in
      let k = below_set p 0 s.owner p (2 * h + 1) there in
      let t : nat_eq (slice_index after.owner p) 0 ≡ false = grind (arith, nat_tests) in
      rw t (grind (arith, nat_tests))

  given_kept : count_below (p + 1) 0 after.owner ≡ count_below p 0 s.owner
  given_kept = (let e : p + 1 ≡ suc p = omega arith in ap (λ n. count_below n 0 after.owner) e) ∙ given_next

  counted : counts_of after.ever_used after.owner after.used s.last s.slots
      ≡ (let c = counts_of s.ever_used s.owner s.used s.last s.slots in record c { fresh = c.fresh - 1; taken = put h (c.taken h + 1) c.taken })
  unfolding counts_of
  counted =
      let taken : (k : ℕ) → count_of (2 * k + 1) after.owner ≡ put h (count_of (2 * h + 1) s.owner + 1) (λ k. count_of (2 * k + 1) s.owner) k =
      (λ k. let n = count_set (2 * k + 1) s.owner p (2 * h + 1) there in let e = free in grind (arith, nat_tests)) in
      let fresh : length after.owner - (p + 1) ≡ length s.owner - p - 1 = (let m = length-set s.owner p (2 * h + 1) in omega (arith, m)) in
      λ i. record {
        fresh = fresh i;
        given = given_kept i;
        taken = λ k. taken k i;
        left = λ k. left_same k i;
        class_pages = λ c. classes_kept c i;
        slots = λ c. count_of (2 * c + 1) s.slots;
      }

  pub one_holds : holdings_of after ≡ ran h (arena_base + 4096 * p) room 1 (holdings_of s)
  one_holds = λ i. record {
    pages = length-set s.owner p (2 * h + 1) i;
    standing = (holdings_of s).standing;
    owner = λ q. owner_by (nat_lt q arena_base) (nat_eq (page_at q) p) q refl refl i;
    counts = counted i;
  }

  in_page : (u c : ℕ) → IsInPage s.owner u c → IsInPage after.owner u c
  in_page u c i = record {
    page = let e = i.page in let z = free in grind (
      arith,
      nat_tests,
      common_steps,
      index_else s.owner p (2 * h + 1)
          (u / 128),
    );
    place = i.place;
  }

  pub one_sound : IsSound after
  one_sound = record {
    payload = sound.payload ∙ ap (λ n. 4096 * n) (sym (length-set s.owner p (2 * h + 1)));
    used_long = length-set s.used p room ∙ sound.used_long ∙ sym (length-set s.owner p (2 * h + 1));
    last_long = sound.last_long ∙ ap (λ n. n + 1) (sym (length-set s.owner p (2 * h + 1)));
    standing_long = sound.standing_long ∙ ap (λ n. n + 1) (sym (length-set s.owner p (2 * h + 1)));
    slots_long = sound.slots_long ∙ ap (λ n. 128 * n) (sym (length-set s.owner p (2 * h + 1)));
    few = subst (λ n. n ≤ 4096) (sym (length-set s.owner p (2 * h + 1))) sound.few;
    begun = let m = length-set s.owner p (2 * h + 1) in let t = there in omega (arith, m, t);
    unused = λ q l. let i = index_set s.owner p (2 * h + 1) q there in let z = sound.unused q in grind (arith, nat_tests);
    rounded = λ k. let n = sound.rounded k in let i = index_set s.used p room k used_in in grind (arith, nat_tests);
    within = λ k. let n = sound.within k in let i = index_set s.used p room k used_in in grind (arith, nat_tests);
    heap = sound.heap;
    known = sound.known;
    headed = λ k l. let n = sound.headed k l in let o = index_set s.owner p (2 * h + 1) k there in let z = free in grind (arith, nat_tests);
    lived = λ k q b l. let n = sound.lived k q b l in let m = live_number s h room sound takes eights most in
        let o = index_set s.owner p (2 * h + 1) q there in grind (arith, nat_tests);
    ended = λ k q l. let n = sound.ended k q l in let o = index_set s.owner p (2 * h + 1) q there in let z = free in grind (arith, nat_tests);
    classes = λ q c l. sound.classes q c (let o = index_set s.owner p (2 * h + 1) q there in grind (arith, nat_tests));
    live = λ u c l. in_page u c (sound.live u c l);
    vacant = λ u c l. in_page u c (sound.vacant u c l);
    capacity = λ c. sound.capacity c ∙ ap (λ k. k * (4096 / c)) (sym (classes_kept c));
  }

-- ---- the loop

pub record IsRunning (s now : Plain) (h room left : ℕ) : Type 0 where
  pub many : ℕ
  pub holds : holdings_of now ≡ ran h (arena_base + 4096 * s.ever_used) (4096 * many) many (holdings_of s)
  pub used : now.ever_used ≡ s.ever_used + many
  pub whole : 4096 * many + left ≡ room
  pub some : 0 < left
  pub bytes : now.bytes ≡ s.bytes

pub running_none : (s : Plain) (h room : ℕ) → 0 < room → IsRunning s s h room room
running_none s h room l = record {
  many = 0;
  holds = sym (none_ran h (arena_base + 4096 * s.ever_used) (holdings_of s));
  used = omega arith;
  whole = omega arith;
  some = l;
  bytes = refl;
}

module _ (s now : Plain) (h room left : ℕ) (r : IsRunning s now h room left) (pages : s.ever_used + run_of room ≤ length s.owner) where
  pub same_takes : takes_blocks h (standing_at s.standing h) ≡ true → takes_blocks h (standing_at now.standing h) ≡ true
  same_takes t = ap (λ k. let k : Holdings = k in takes_blocks h (k.standing h)) r.holds ∙ t

  pub next_there : now.ever_used < length now.owner
  next_there =
      let e : length now.owner ≡ length s.owner = ap (λ k. let k : Holdings = k in k.pages) r.holds in
      let u = r.used in let w = r.whole in let l = r.some in let p = pages in omega (arith, e, u, w, l, p)

  more_holds : (after : Plain) (b : ℕ) → holdings_of after ≡ ran h (arena_base + 4096 * now.ever_used) b 1 (holdings_of now) →
      holdings_of after ≡ ran h (arena_base + 4096 * s.ever_used) (4096 * r.many + b) (r.many + 1) (holdings_of s)
  more_holds after b e =
      e ∙ ap (ran h (arena_base + 4096 * now.ever_used) b 1) r.holds
      ∙ more_ran h (arena_base + 4096 * s.ever_used) (arena_base + 4096 * now.ever_used) (4096 * r.many) b r.many (holdings_of s) (let u = r.used in
      omega (arith, u))

  pub running_more : (after : Plain) → 4096 < left → holdings_of after ≡ ran h (arena_base + 4096 * now.ever_used) 4096 1 (holdings_of now) →
      after.ever_used ≡ now.ever_used + 1 → after.bytes ≡ now.bytes → IsRunning s after h room (left - 4096)
  running_more after l e u b = record {
    many = r.many + 1;
    holds = more_holds after 4096 e
        ∙ (let z : 4096 * r.many + 4096 ≡ 4096 * (r.many + 1) = omega arith in ap (λ n. ran h (arena_base + 4096 * s.ever_used) n (r.many + 1)
        (holdings_of s)) z);
    used = let v = r.used in omega (arith, u, v);
    whole = let x = r.whole in omega (arith, x, l);
    some = omega (arith, l);
    bytes = b ∙ r.bytes;
  }

  pub run_done : (after : Plain) → left ≤ 4096 → holdings_of after ≡ ran h (arena_base + 4096 * now.ever_used) left 1 (holdings_of now) →
      holdings_of after ≡ ran h (arena_base + 4096 * s.ever_used) room (run_of room) (holdings_of s)
  run_done after l e =
      let n : r.many + 1 ≡ run_of room = (let x = r.whole in let m = r.some in omega (arith, x, m, l)) in
      more_holds after left e ∙ ap (λ k. ran h (arena_base + 4096 * s.ever_used) k (r.many + 1) (holdings_of s)) r.whole
      ∙ ap (λ k. ran h (arena_base + 4096 * s.ever_used) room k (holdings_of s)) n

-- ---- the large block

module _ (k : Holdings) (h bytes room : ℕ) (takes : takes_blocks h (k.standing h) ≡ true) (short : bytes ≤ 1048576) (rounded : room ≡ room_of bytes)
    (large : 4096 < room) where
  is_run : is_large (room_of bytes) ≡ true
  is_run = subst (λ r. is_large r ≡ true) rounded (let l = large in grind (arith, nat_tests))

  not_long : is_too_long bytes ≡ false
  not_long = let l = short in grind (arith, nat_tests)

  pub none_for_run : k.counts.fresh < run_of room → true ≡ is_block_refused h bytes k
  none_for_run f =
      let n : nat_lt k.counts.fresh (run_of (room_of bytes)) ≡ true = subst (λ r. nat_lt k.counts.fresh (run_of r) ≡ true) rounded
      (grind (arith, nat_tests)) in
      let t = takes in let l = is_run in sym (rw (t, l, n) (or_right (is_too_long bytes) true refl))

  module _ (f : run_of room ≤ k.counts.fresh) where
    spare : is_full_for_room h (room_of bytes) k.counts ≡ false
    spare =
        let n : nat_lt k.counts.fresh (run_of (room_of bytes)) ≡ false = subst (λ r. nat_lt k.counts.fresh (run_of r) ≡ false) rounded
        (grind (arith, nat_tests)) in
        let l = is_run in rw (l, n) refl

    pub run_free : false ≡ is_block_refused h bytes k
    run_free = let t = takes in let l = not_long in let n = spare in sym (rw (t, l, n) refl)

    pub run_does : (at : ℕ) (after : Holdings) → is_lawful_room k at room ≡ true → after ≡ ran h at room (run_of room) k →
        Does (Ok at) after (region_alloc h bytes (Grants at) k)
    run_does at after lawful holds =
        granted k h bytes at takes not_long spare (subst (λ r. is_lawful_room k at r ≡ true) rounded lawful) after
        (holds ∙ ap (λ r. ran h at r (run_of r) k) rounded ∙ large_block)
      where
        large_block : ran h at (room_of bytes) (run_of (room_of bytes)) k ≡ with_region_block h at (room_of bytes) k
        large_block = let l = is_run in rw l refl

-- pages never used are clear
pub run_lawful : (s : Plain) (room : ℕ) → IsSound s → 0 < room → s.ever_used + run_of room ≤ length s.owner →
    is_lawful_room (holdings_of s) (arena_base + 4096 * s.ever_used) room ≡ true
run_lawful s room sound some pages =
    is_lawful (holdings_of s) (arena_base + 4096 * s.ever_used) room (omega arith) (omega arith) (omega (arith, pages, some)) clear
  where
    clear : (j : ℕ) → j < room → (holdings_of s).owner (arena_base + 4096 * s.ever_used + j) ≡ None
    clear j l =
        let q = arena_base + 4096 * s.ever_used + j in
        owner_there s.owner s.used s.slots q (page_at q) 0 (slice_index s.used (page_at q)) (grind (arith, nat_tests)) (grind (arith, nat_tests))
        (sound.unused (page_at q) (omega arith)) refl ∙ owner_nobody (slice_index s.used (page_at q)) (page_at q) (place_at q) s.slots

-- as many pages were never used
pub fresh_enough : (s : Plain) (n : ℕ) → s.ever_used + n ≤ length s.owner → n ≤ (holdings_of s).counts.fresh
unfolding counts_of
fresh_enough s n l = omega (arith, l)

-- what is left of a room of whole eights
pub left_eights : (s now : Plain) (h room left : ℕ) → IsRunning s now h room left → room % 8 ≡ 0 → left % 8 ≡ 0
left_eights s now h room left r e = let w = r.whole in omega (arith, w, e)

-- ---- of a store's fields, for its value

module _ (fields value : Plain) (view : fields ≡ value) (sound : IsSound fields) where
  module _ (h room : ℕ) (takes : takes_blocks h (standing_at value.standing h) ≡ true) (eights : room % 8 ≡ 0) (most : room ≤ 4096)
      (there : value.ever_used < length value.owner) where
    its_takes : takes_blocks h (standing_at fields.standing h) ≡ true
    its_takes = subst (λ m. let m : Plain = m in takes_blocks h (standing_at m.standing h) ≡ true) (sym view) takes

    its_there : fields.ever_used < length fields.owner
    its_there = subst (λ m. let m : Plain = m in m.ever_used < length m.owner) (sym view) there

    pub extended_sound : IsSound (record fields {
      owner = slice_set fields.owner fields.ever_used (2 * h + 1);
      used = slice_set fields.used fields.ever_used room;
      ever_used = fields.ever_used + 1;
    })
    extended_sound = one_sound fields h room sound its_takes eights most its_there

    pub extended_holds : holdings_of (record fields {
      owner = slice_set fields.owner fields.ever_used (2 * h + 1);
      used = slice_set fields.used fields.ever_used room;
      ever_used = fields.ever_used + 1;
    }) ≡ ran h (arena_base + 4096 * value.ever_used) room 1 (holdings_of value)
    extended_holds =
        subst (λ m. let m : Plain = m in holdings_of (record fields {
          owner = slice_set fields.owner fields.ever_used (2 * h + 1);
          used = slice_set fields.used fields.ever_used room;
          ever_used = fields.ever_used + 1;
        }) ≡ ran h (arena_base + 4096 * m.ever_used) room 1 (holdings_of m)) view (one_holds fields h room sound its_takes eights most its_there)

  -- a large block is asked for
  module _ (h bytes room : ℕ) (takes : takes_blocks h (standing_at fields.standing h) ≡ true) (short : bytes ≤ 1048576) (rounded : room ≡ room_of bytes)
      (large : 4096 < room) where
    pub value_takes : takes_blocks h (standing_at value.standing h) ≡ true
    value_takes = subst (λ m. let m : Plain = m in takes_blocks h (standing_at m.standing h) ≡ true) view takes

    pub value_pages : fields.ever_used + run_of room ≤ length fields.owner → value.ever_used + run_of room ≤ length value.owner
    value_pages f = subst (λ m. let m : Plain = m in m.ever_used + run_of room ≤ length m.owner) view f

    value_sound : IsSound value
    value_sound = subst IsSound view sound

    pub run_refused : length fields.owner - fields.ever_used < run_of room → true ≡ is_block_refused h bytes (holdings_of value)
    unfolding counts_of
    run_refused f =
        none_for_run (holdings_of value) h bytes room value_takes short rounded large
        (subst (λ m. let m : Plain = m in length m.owner - m.ever_used < run_of room) view f)

    pub run_not_refused : fields.ever_used + run_of room ≤ length fields.owner → false ≡ is_block_refused h bytes (holdings_of value)
    run_not_refused f =
        run_free (holdings_of value) h bytes room value_takes short rounded large (fresh_enough value (run_of room) (value_pages f))

    pub run_says : fields.ever_used + run_of room ≤ length fields.owner → (after : Holdings) →
        after ≡ ran h (arena_base + 4096 * value.ever_used) room (run_of room) (holdings_of value) →
        Does (Ok (arena_base + 4096 * fields.ever_used)) after (region_alloc h bytes (Grants (arena_base + 4096 * fields.ever_used)) (holdings_of value))
    run_says f after e =
        let used : value.ever_used ≡ fields.ever_used = ap (λ m. let m : Plain = m in m.ever_used) (sym view) in
        subst (λ n. Does (Ok (arena_base + 4096 * n)) after (region_alloc h bytes (Grants (arena_base + 4096 * n)) (holdings_of value))) used
        (run_does (holdings_of value) h bytes room value_takes short rounded large (fresh_enough value (run_of room) (value_pages f))
        (arena_base + 4096 * value.ever_used) after (run_lawful value room value_sound (let l = large in omega (arith, l)) (value_pages f)) e)
