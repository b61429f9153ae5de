-- A block is placed in a region's last page, or at the front of a page that is taken for it.
use Rattle.std.proofs.Common.{
  ◌≡◌,
  ℕ,
  zero,
  suc,
  ◌+◌,
  ◌-◌,
  ◌*◌,
  ◌/◌,
  ◌%◌,
  ◌<◌,
  ◌≤◌,
  Bool,
  true,
  false,
  length,
  Option,
  Some,
  None,
  Ok,
  nat_eq,
  nat_lt,
  refl,
  sym,
  ap,
  subst,
  ◌∙◌,
  arith,
  length-set,
  get_or,
}
use Rattle.std.proofs.lemmas.List.{get_or_read}
use Rattle.std.specs.Prelude.{slice_index, slice_set, ◌&&◌, ◌||◌, if◌then◌else◌}
use Rattle.std.proofs.lemmas.Bool.{or_right}
use Rattle.std.proofs.lemmas.Bool.Decides.{nat_tests}
use Rattle.std.proofs.lemmas.Grind.{common_steps}
use Rattle.arena_laws.specs.declared.standing.Standing.{Standing}
use Rattle.arena_laws.specs.Counts.{put, room_of, with_block, block_needs_page, is_full, is_too_long, is_full_for_room, is_large, one_less}
use Rattle.arena_laws.specs.declared.owner.Owner.TheVariants.{Region}
use Rattle.arena_laws.specs.Holdings.{is_none, arena_base}
use Rattle.arena_laws.specs.Lawful.{Grants, owns, is_in_room, is_lawful_room, with_region_block, takes_blocks}
use Rattle.arena_laws.specs.Laws.{Does, is_block_refused, region_alloc}
use Rattle.cyc_arena.specs.Plain.{Plain, IsSound, IsInPage, Finds, IsLowest, used_up, count_of, owner_at, page_at, place_at, standing_at, left_of, counts_of}
use Rattle.cyc_arena.specs.Plain.{holdings_of}
use Rattle.region_runtime.proofs.Owners.{is_lawful}
use Rattle.region_runtime.proofs.Placed.{granted, not_large}
use Rattle.cyc_arena.proofs.Pages.{free_less, page_found}
use Rattle.region_runtime.proofs.Words.{index_at, index_else, index_set}
use Rattle.cyc_arena.proofs.Words.{is_place, count_set}
use Rattle.cyc_arena.proofs.Made.{all_taken}
use Rattle.cyc_arena.proofs.Owners.{owner_nobody, owner_region, owner_below, owner_there, owner_same, owner_elsewhere}

module _ (s : Plain) (h room : ℕ) (sound : IsSound s) (takes : takes_blocks h (standing_at s.standing h) ≡ true) (eights : room % 8 ≡ 0)
    (most : room ≤ 4096) where
  pub by_number : (k : ℕ) → takes_blocks k (standing_at s.standing k) ≡ true → 0 < k → is_none (standing_at s.standing k) ≡ false
  by_number k t l = by_standing (standing_at s.standing k) t
    where
      by_standing : (o : Option Standing) → takes_blocks k o ≡ true → is_none o ≡ false
      by_standing None e = grind (arith, nat_tests)
      by_standing (Some x) e = refl

  pub live_number : 0 < h → 0 < slice_index s.last h
  live_number l = let n = by_number h takes l in let k = sound.known h l in grind (arith, nat_tests)

  pub has_place : h < length s.last
  has_place = by_zero h live_number
    where
      by_zero : (k : ℕ) → (0 < k → 0 < slice_index s.last k) → k < length s.last
      by_zero zero f = let n = sound.last_long in omega (arith, n)
      by_zero (suc k) f = is_place s.last (suc k) (f (omega arith))

  pub last_read : (r : ℕ) → r ≡ get_or s.last h r → slice_index s.last h ≡ r
  last_read r e = sym (get_or_read s.last h r has_place e 0)

  pub last_in : (r : ℕ) → slice_index s.last h ≡ r → r ≤ length s.used
  last_in zero e = omega arith
  last_in (suc p) e =
      let o = sound.ended h p (omega (arith, e)) in let n = sound.used_long in let l = is_place s.owner p (omega (arith, o)) in omega (arith, n, l)

  -- a room that fits what is left of the last page, which is there then
  pub record LastHas (r left : ℕ) : Type 0 where
    pub last : slice_index s.last h ≡ r - 1 + 1
    pub used : slice_index s.used (r - 1) ≡ 4096 - left
    pub fits : 4096 - left + room ≤ 4096

  pub last_has : 8 ≤ room → (r left : ℕ) → slice_index s.last h ≡ r → left ≡ left_of s.used r → room ≤ left → LastHas r left
  last_has some zero left e d l = absurd (omega (arith, some, d, l))
  last_has some (suc p) left e d l =
      let one : suc p - 1 ≡ p = omega arith in let w = sound.within p in
      record {
        last = omega (arith, e);
        used = subst (λ k. slice_index s.used k ≡ 4096 - left) (sym one) (omega (arith, d, w));
        fits = omega (arith, d, w, l);
      }

  -- ---- in the last page
  module _ (p u : ℕ) (last : slice_index s.last h ≡ p + 1) (used : slice_index s.used p ≡ u) (fits : u + room ≤ 4096) where
    abbrev pub after_last : Plain
    after_last = record s { used = slice_set s.used p (u + room) }

    own : slice_index s.owner p ≡ 2 * h + 1
    own = sound.ended h p last

    pub page_in : p < length s.owner
    page_in = is_place s.owner p (let o = own in omega (arith, o))

    used_in : p < length s.used
    used_in = let n = sound.used_long in let b = page_in in omega (arith, n, b)

    in_last_by : (b e : Bool) (q : ℕ) → nat_lt q arena_base ≡ b → nat_eq (page_at q) p ≡ e →
        owner_at s.owner after_last.used s.slots q ≡ owns (arena_base + 4096 * p + u) room (Region h) (owner_at s.owner s.used s.slots) q
    in_last_by true e q b d =
        let out : is_in_room (arena_base + 4096 * p + u) room q ≡ false = grind (arith, nat_tests) in
        owner_below s.owner after_last.used s.slots q b ∙ sym (owner_below s.owner s.used s.slots q b)
        ∙ ap (λ t. if t then Some (Region h) else owner_at s.owner s.used s.slots q) (sym out)
    in_last_by false true q b e =
        let tests : (if nat_lt (place_at q) (u + room) then Some (Region h) else None)
        ≡ (if is_in_room (arena_base + 4096 * p + u) room q then Some (Region h) else (if nat_lt (place_at q) u then Some (Region h) else None)) = grind
        (arith, nat_tests) in
        owner_there s.owner after_last.used s.slots q p (2 * h + 1) (u + room) b e own (index_at s.used p (u + room) p used_in (grind (arith, nat_tests)))
        ∙ owner_region h (u + room) p (place_at q) s.slots ∙ tests
        ∙ ap (λ o. if is_in_room (arena_base + 4096 * p + u) room q then Some (Region h) else o)
        (sym (owner_there s.owner s.used s.slots q p (2 * h + 1) u b e own used ∙ owner_region h u p (place_at q) s.slots))
    in_last_by false false q b e =
        let out : is_in_room (arena_base + 4096 * p + u) room q ≡ false = grind (arith, nat_tests) in
        owner_same s.owner s.used s.slots s.owner after_last.used q b refl (index_else s.used p (u + room) (page_at q) e)
        ∙ ap (λ t. if t then Some (Region h) else owner_at s.owner s.used s.slots q) (sym out)

    clear_last : (j : ℕ) → j < room → owner_at s.owner s.used s.slots (arena_base + 4096 * p + u + j) ≡ None
    clear_last j l =
        let q = arena_base + 4096 * p + u + j in
        let b : nat_lt q arena_base ≡ false = grind (arith, nat_tests) in
        let e : nat_eq (page_at q) p ≡ true = grind (arith, nat_tests) in
        let o : nat_lt (place_at q) u ≡ false = grind (arith, nat_tests) in
        owner_there s.owner s.used s.slots q p (2 * h + 1) u b e own used ∙ owner_region h u p (place_at q) s.slots
        ∙ ap (λ t. if t then Some (Region h) else None) o

    lawful_last : is_lawful_room (holdings_of s) (arena_base + 4096 * p + u) room ≡ true
    lawful_last = is_lawful (holdings_of s) (arena_base + 4096 * p + u) room (let r = sound.rounded p in
        omega (arith, r, used)) (omega arith) (let b = page_in in omega (arith, b, fits)) clear_last

    last_one : slice_index s.last h ≡ suc p
    last_one = omega (arith, last)

    left_here : left_of s.used (slice_index s.last h) ≡ 4096 - u
    left_here = ap (left_of s.used) last_one ∙ ap (λ n. 4096 - n) used

    no_page : block_needs_page h room (holdings_of s).counts ≡ false
    unfolding counts_of
    no_page = let l = left_here in grind (arith, nat_tests)

    left_by : (b : Bool) (k : ℕ) → nat_eq k h ≡ b → left_of after_last.used (slice_index s.last k) ≡ (if b then left_of s.used
        (slice_index s.last h) - room else left_of s.used (slice_index s.last k))
    left_by true k e =
        let same : k ≡ h = grind (arith, nat_tests) in
        ap (λ n. left_of after_last.used (slice_index s.last n)) same ∙ ap (left_of after_last.used) last_one
        ∙ ap (λ n. 4096 - n) (index_at s.used p (u + room) p used_in (grind (arith, nat_tests))) ∙ (let l = left_here in omega (arith, l))
    left_by false k e = other (slice_index s.last k) (let n = sound.ended k p in let o = own in grind (arith, nat_tests))
      where
        other : (r : ℕ) → nat_eq r (p + 1) ≡ false → left_of after_last.used r ≡ left_of s.used r
        other zero d = refl
        other (suc r) d = ap (λ n. 4096 - n) (index_else s.used p (u + room) r (grind (arith, nat_tests)))

    counted_last : counts_of s.ever_used s.owner after_last.used s.last s.slots ≡ with_block h room (counts_of s.ever_used s.owner s.used s.last s.slots)
    unfolding counts_of
    counted_last =
        let c = counts_of s.ever_used s.owner s.used s.last s.slots in
        let lefts : counts_of s.ever_used s.owner after_last.used s.last s.slots ≡ record c { left = put h (c.left h - room) c.left } =
        (λ i. record c { left = λ k. left_by (nat_eq k h) k refl i }) in
        rw (not_large room most, no_page) lefts

    pub last_holds : holdings_of after_last ≡ with_region_block h (arena_base + 4096 * p + u) room (holdings_of s)
    last_holds = λ i. record (holdings_of s) { owner = λ q. in_last_by (nat_lt q arena_base) (nat_eq (page_at q) p) q refl refl i; counts = counted_last i }

    pub last_sound : IsSound after_last
    last_sound = record {
      payload = sound.payload;
      used_long = length-set s.used p (u + room) ∙ sound.used_long;
      last_long = sound.last_long;
      standing_long = sound.standing_long;
      slots_long = sound.slots_long;
      few = sound.few;
      begun = sound.begun;
      unused = sound.unused;
      rounded = λ k. let n = sound.rounded k in let m = sound.rounded p in let i = index_set s.used p (u + room) k used_in in grind (arith, nat_tests);
      within = λ k. let n = sound.within k in let i = index_set s.used p (u + room) k used_in in grind (arith, nat_tests);
      heap = sound.heap;
      known = sound.known;
      headed = sound.headed;
      lived = sound.lived;
      ended = sound.ended;
      classes = sound.classes;
      live = sound.live;
      vacant = sound.vacant;
      capacity = sound.capacity;
    }

    pub last_does : (bytes : ℕ) → room ≡ room_of bytes → is_too_long bytes ≡ false →
        Does (Ok (arena_base + 4096 * p + u)) (holdings_of after_last) (region_alloc h bytes (Grants (arena_base + 4096 * p + u)) (holdings_of s))
    last_does bytes e long =
        let at = arena_base + 4096 * p + u in
        granted (holdings_of s) h bytes at takes long
        (subst (λ r. is_full_for_room h r (holdings_of s).counts ≡ false) e (rw (not_large room most) (ap (λ t. t && is_full
        (holdings_of s).counts) no_page)))
        (subst (λ r. is_lawful_room (holdings_of s) at r ≡ true) e lawful_last) (holdings_of after_last)
        (subst (λ r. holdings_of after_last ≡ with_region_block h at r (holdings_of s)) e last_holds)

    pub last_not_refused : (bytes : ℕ) → room ≡ room_of bytes → is_too_long bytes ≡ false → is_block_refused h bytes (holdings_of s) ≡ false
    last_not_refused bytes e long =
        rw (takes, long) (subst (λ r. is_full_for_room h r (holdings_of s).counts ≡ false) e (rw (not_large room most) (ap (λ t. t && is_full
        (holdings_of s).counts) no_page)))

  -- ---- in a page that is taken
  module _ (needs : left_of s.used (slice_index s.last h) < room) where
    needs_page : block_needs_page h room (holdings_of s).counts ≡ true
    unfolding counts_of
    needs_page = let l = needs in grind (arith, nat_tests)

    module _ (p : ℕ) (found : Finds 0 s.owner (Some p)) (lowest : IsLowest 0 s.owner (Some p)) where
      abbrev pub after_new : Plain
      after_new = record s {
        owner = slice_set s.owner p (2 * h + 1);
        used = slice_set s.used p room;
        last = slice_set s.last h (p + 1);
        ever_used = used_up p s.ever_used;
      }

      new_used_in : p < length s.used
      new_used_in = let n = sound.used_long in let b = found.0 in omega (arith, n, b)

      in_new_by : (b e : Bool) (q : ℕ) → nat_lt q arena_base ≡ b → nat_eq (page_at q) p ≡ e →
          owner_at after_new.owner after_new.used s.slots q ≡ owns (arena_base + 4096 * p) room (Region h) (owner_at s.owner s.used s.slots) q
      in_new_by true e q b d =
          let out : is_in_room (arena_base + 4096 * p) room q ≡ false = grind (arith, nat_tests) in
          owner_below after_new.owner after_new.used s.slots q b ∙ sym (owner_below s.owner s.used s.slots q b)
          ∙ ap (λ t. if t then Some (Region h) else owner_at s.owner s.used s.slots q) (sym out)
      in_new_by false true q b e =
          let tests : (if nat_lt (place_at q) room then Some (Region h) else None) ≡ (if is_in_room (arena_base + 4096 * p) room q then Some
          (Region h) else None) = grind (arith, nat_tests) in
          owner_there after_new.owner after_new.used s.slots q p (2 * h + 1) room b e (index_at s.owner p (2 * h + 1) p found.0 (grind (arith, nat_tests)))
          (index_at s.used p room p new_used_in (grind (arith, nat_tests)))
          ∙ owner_region h room p (place_at q) s.slots ∙ tests
          ∙ ap (λ o. if is_in_room (arena_base + 4096 * p) room q then Some (Region h) else o)
          (sym (owner_there s.owner s.used s.slots q p 0 (slice_index s.used p) b e found.1 refl ∙ owner_nobody (slice_index s.used p) p (place_at q) s.slots))
      in_new_by false false q b e =
          let out : is_in_room (arena_base + 4096 * p) room q ≡ false = grind (arith, nat_tests) in
          owner_elsewhere s.owner s.used s.slots p (2 * h + 1) room q b e
          ∙ ap (λ t. if t then Some (Region h) else owner_at s.owner s.used s.slots q) (sym out)

      clear_new : (j : ℕ) → j < room → owner_at s.owner s.used s.slots (arena_base + 4096 * p + j) ≡ None
      clear_new j l =
          let q = arena_base + 4096 * p + j in
          let b : nat_lt q arena_base ≡ false = grind (arith, nat_tests) in
          let e : nat_eq (page_at q) p ≡ true = grind (arith, nat_tests) in
          owner_there s.owner s.used s.slots q p 0 (slice_index s.used p) b e found.1 refl ∙ owner_nobody (slice_index s.used p) p (place_at q) s.slots

      lawful_new : is_lawful_room (holdings_of s) (arena_base + 4096 * p) room ≡ true
      lawful_new = is_lawful (holdings_of s) (arena_base + 4096 * p) room (omega arith) (omega arith) (let b = found.0 in omega (arith, b)) clear_new

      new_left_by : (b : Bool) (k : ℕ) → nat_eq k h ≡ b → left_of after_new.used (slice_index after_new.last k) ≡ (if b then 4096 - room else left_of s.used
          (slice_index s.last k))
      new_left_by true k e =
          let suc_p : p + 1 ≡ suc p = omega arith in
          ap (left_of after_new.used) (index_at s.last h (p + 1) k has_place e ∙ suc_p)
          ∙ ap (λ n. 4096 - n) (index_at s.used p room p new_used_in (grind (arith, nat_tests)))
      new_left_by false k e =
          ap (left_of after_new.used) (index_else s.last h (p + 1) k e) ∙ other (slice_index s.last k) (let n = sound.ended k p in let z = found.1 in
          grind (arith, nat_tests))
        where
          other : (r : ℕ) → nat_eq r (p + 1) ≡ false → left_of after_new.used r ≡ left_of s.used r
          other zero d = refl
          other (suc r) d = ap (λ n. 4096 - n) (index_else s.used p room r (grind (arith, nat_tests)))

      classes_kept : (c : ℕ) → count_of (2 * c + 2) after_new.owner ≡ count_of (2 * c + 2) s.owner
      classes_kept c = let n = count_set (2 * c + 2) s.owner p (2 * h + 1) found.0 in let e = found.1 in grind (arith, nat_tests)

      counted_new : counts_of after_new.ever_used after_new.owner after_new.used after_new.last s.slots
          ≡ with_block h room (counts_of s.ever_used s.owner s.used s.last s.slots)
      unfolding counts_of
      counted_new =
          let c = counts_of s.ever_used s.owner s.used s.last s.slots in
          let f = free_less s p (2 * h + 1) sound found lowest (omega arith) in
          let taken : (k : ℕ) → count_of (2 * k + 1) after_new.owner ≡ put h (count_of (2 * h + 1) s.owner + 1) (λ k. count_of (2 * k + 1) s.owner) k =
          (λ k. let n = count_set (2 * k + 1) s.owner p (2 * h + 1) found.0 in let e = found.1 in grind (arith, nat_tests)) in
          let all : counts_of after_new.ever_used after_new.owner after_new.used after_new.last s.slots
          ≡ record (one_less c) { taken = put h (c.taken h + 1) c.taken; left = put h (4096 - room) c.left } =
          (λ i. record {
            fresh = f.fresh i;
            given = f.given i;
            taken = λ k. taken k i;
            left = λ k. new_left_by (nat_eq k h) k refl i;
            class_pages = λ c. classes_kept c i;
            slots = λ c. count_of (2 * c + 1) s.slots;
          }) in
          rw (not_large room most, needs_page) all

      pub new_holds : holdings_of after_new ≡ with_region_block h (arena_base + 4096 * p) room (holdings_of s)
      new_holds = λ i. record {
        pages = length-set s.owner p (2 * h + 1) i;
        standing = (holdings_of s).standing;
        owner = λ q. in_new_by (nat_lt q arena_base) (nat_eq (page_at q) p) q refl refl i;
        counts = counted_new i;
      }

      in_page : (u c : ℕ) → IsInPage s.owner u c → IsInPage after_new.owner u c
      in_page u c i = record {
        page = let e = i.page in let z = found.1 in grind (
          arith,
          nat_tests,
          common_steps,
          index_else s.owner p (2 * h + 1)
              (u / 128),
        );
        place = i.place;
      }

      known_by : (b : Bool) (k : ℕ) → 0 < k → nat_eq k h ≡ b → is_none (standing_at s.standing k) ≡ nat_eq (slice_index after_new.last k) 0
      known_by true k l e =
          let same : k ≡ h = grind (arith, nat_tests) in
          let n = by_number h takes (omega (arith, l, same)) in
          let i = index_at s.last h (p + 1) k has_place e in
          ap (λ m. is_none (standing_at s.standing m)) same ∙ n ∙ grind (arith, nat_tests)
      known_by false k l e = sound.known k l ∙ ap (λ n. nat_eq n 0) (sym (index_else s.last h (p + 1) k e))

      pub new_sound : IsSound after_new
      new_sound = record {
        payload = sound.payload ∙ ap (λ n. 4096 * n) (sym (length-set s.owner p (2 * h + 1)));
        used_long = length-set s.used p room ∙ sound.used_long ∙ sym (length-set s.owner p (2 * h + 1));
        last_long = length-set s.last h (p + 1) ∙ sound.last_long ∙ ap (λ n. n + 1) (sym (length-set s.owner p (2 * h + 1)));
        standing_long = sound.standing_long ∙ ap (λ n. n + 1) (sym (length-set s.owner p (2 * h + 1)));
        slots_long = sound.slots_long ∙ ap (λ n. 128 * n) (sym (length-set s.owner p (2 * h + 1)));
        few = subst (λ n. n ≤ 4096) (sym (length-set s.owner p (2 * h + 1))) sound.few;
        begun = (free_less s p (2 * h + 1) sound found lowest (omega arith)).begun;
        unused = (free_less s p (2 * h + 1) sound found lowest (omega arith)).unused;
        rounded = λ k. let n = sound.rounded k in let i = index_set s.used p room k new_used_in in grind (arith, nat_tests);
        within = λ k. let n = sound.within k in let i = index_set s.used p room k new_used_in in grind (arith, nat_tests);
        heap = sound.heap;
        known = λ k l. known_by (nat_eq k h) k l refl;
        headed = λ k l. let n = sound.headed k in let m = live_number in let i = index_set s.last h (p + 1) (k + 1) has_place in
            let o = index_set s.owner p (2 * h + 1) k found.0 in let z = found.1 in grind (arith, nat_tests);
        lived = λ k q b l. let n = sound.lived k q in let i = index_set s.last h (p + 1) k has_place in
            let o = index_set s.owner p (2 * h + 1) q found.0 in grind (arith, nat_tests);
        ended = λ k q l. let n = sound.ended k q in let i = index_set s.last h (p + 1) k has_place in
            let o = index_set s.owner p (2 * h + 1) q found.0 in let z = found.1 in grind (arith, nat_tests);
        classes = λ q c l. sound.classes q c (let o = index_set s.owner p (2 * h + 1) q found.0 in grind (arith, nat_tests));
        live = λ u c l. in_page u c (sound.live u c l);
        vacant = λ u c l. in_page u c (sound.vacant u c l);
        capacity = λ c. sound.capacity c ∙ ap (λ k. k * (4096 / c)) (sym (classes_kept c));
      }

      not_full : is_full (holdings_of s).counts ≡ false
      unfolding counts_of
      not_full = page_found s p sound found

      spare : is_full_for_room h room (holdings_of s).counts ≡ false
      spare = rw (not_large room most, needs_page) not_full

      pub new_does : (bytes : ℕ) → room ≡ room_of bytes → is_too_long bytes ≡ false →
          Does (Ok (arena_base + 4096 * p)) (holdings_of after_new) (region_alloc h bytes (Grants (arena_base + 4096 * p)) (holdings_of s))
      new_does bytes e long =
          let at = arena_base + 4096 * p in
          granted (holdings_of s) h bytes at takes long
          (subst (λ r. is_full_for_room h r (holdings_of s).counts ≡ false) e spare)
          (subst (λ r. is_lawful_room (holdings_of s) at r ≡ true) e lawful_new) (holdings_of after_new)
          (subst (λ r. holdings_of after_new ≡ with_region_block h at r (holdings_of s)) e new_holds)

      pub new_not_refused : (bytes : ℕ) → room ≡ room_of bytes → is_too_long bytes ≡ false → is_block_refused h bytes (holdings_of s) ≡ false
      new_not_refused bytes e long =
          rw (takes, long) (subst (λ r. is_full_for_room h r (holdings_of s).counts ≡ false) e spare)

    pub none_refused : Finds 0 s.owner None → (bytes : ℕ) → room ≡ room_of bytes → is_block_refused h bytes (holdings_of s) ≡ true
    none_refused found bytes e =
        let n : block_needs_page h (room_of bytes) (holdings_of s).counts ≡ true = subst (λ r. block_needs_page h r (holdings_of s).counts
        ≡ true) e needs_page in
        rw (takes, subst (λ r. is_large r ≡ false) e (not_large room most), n, all_taken s sound found) (or_right (is_too_long bytes) true refl)
