-- A free page is cut into vacant slots.
use Rattle.std.proofs.Common.{
  ◌≡◌,
  ℕ,
  zero,
  suc,
  ◌+◌,
  ◌-◌,
  ◌*◌,
  ◌/◌,
  ◌%◌,
  ◌<◌,
  ◌≤◌,
  Bool,
  true,
  false,
  List,
  length,
  Some,
  None,
  nat_eq,
  nat_lt,
  refl,
  sym,
  ap,
  subst,
  ◌∙◌,
  arith,
  length-set,
}
use Rattle.std.specs.Prelude.{slice_index, slice_set, if◌then◌else◌}
use Rattle.std.proofs.lemmas.Bool.Decides.{nat_tests}
use Rattle.std.proofs.lemmas.Grind.{common_steps}
use Rattle.arena_laws.specs.declared.owner.Owner.TheVariants.{Alone}
use Rattle.arena_laws.specs.Classes.{IsClass}
use Rattle.arena_laws.specs.Counts.{put, slot_needs_page, one_less}
use Rattle.arena_laws.specs.Holdings.{arena_base}
use Rattle.cyc_arena.specs.Plain.{Plain, IsSound, IsInPage, Finds, IsLowest, used_up, count_of, filled, address_of, owner_in, owner_at, page_at, place_at}
use Rattle.cyc_arena.specs.Plain.{counts_of, holdings_of}
use Rattle.cyc_arena.proofs.Pages.{free_less}
use Rattle.region_runtime.proofs.Words.{index_at, index_else, index_set}
use Rattle.cyc_arena.proofs.Words.{count_set, none_found}
use Rattle.cyc_arena.proofs.Owners.{owner_nobody, owner_class, owner_below, owner_here, owner_there}
use Rattle.unique_blocks.proofs.Places.{slot_within}
use Rattle.cyc_arena.proofs.Slots.{owner_slots}

-- ---- a list that is filled

pub filled_long : (n from x : ℕ) (xs : List ℕ) → length (filled n from x xs) ≡ length xs
filled_long zero from x xs = refl
filled_long (suc n) from x xs = length-set (filled n from x xs) (from + n) x ∙ filled_long n from x xs

pub filled_before : (n from x : ℕ) (xs : List ℕ) (q : ℕ) → q < from → slice_index (filled n from x xs) q ≡ slice_index xs q
filled_before zero from x xs q l = refl
filled_before (suc n) from x xs q l = index_else (filled n from x xs) (from + n) x q (grind (arith, nat_tests)) ∙ filled_before n from x xs q l

pub filled_after : (n from x : ℕ) (xs : List ℕ) (q : ℕ) → from + n ≤ q → slice_index (filled n from x xs) q ≡ slice_index xs q
filled_after zero from x xs q l = refl
filled_after (suc n) from x xs q l = index_else (filled n from x xs) (from + n) x q (grind (arith, nat_tests)) ∙ filled_after n from x xs q (omega (arith, l))

pub filled_in : (n from x : ℕ) (xs : List ℕ) (q : ℕ) → from + n ≤ length xs → from ≤ q → q < from + n → slice_index (filled n from x xs) q ≡ x
filled_in zero from x xs q b l m = absurd (omega (arith, l, m))
filled_in (suc n) from x xs q b l m = by_last (nat_eq q (from + n)) refl (λ k. filled_in n from x xs q (omega (arith, b)) l k)
  where
    by_last : (t : Bool) → nat_eq q (from + n) ≡ t → (q < from + n → slice_index (filled n from x xs) q ≡ x) →
        slice_index (slice_set (filled n from x xs) (from + n) x) q ≡ x
    by_last true e f = index_at (filled n from x xs) (from + n) x q (let f = filled_long n from x xs in omega (arith, f, b)) e
    by_last false e f = index_else (filled n from x xs) (from + n) x q e ∙ f (grind (arith, nat_tests))

-- the count of a word grows where zeros are filled by it
pub filled_count : (n from x k : ℕ) (xs : List ℕ) → from + n ≤ length xs → ((j : ℕ) → j < n → slice_index xs (from + j) ≡ 0) → 0 < k →
    count_of k (filled n from x xs) ≡ count_of k xs + (if nat_eq x k then n else 0)
filled_count zero from x k xs b z p = grind (arith, nat_tests)
filled_count (suc n) from x k xs b z p =
    let ih = filled_count n from x k xs (omega (arith, b)) (λ j l. z j (omega (arith, l))) p in
    let f = filled_long n from x xs in
    let w : slice_index (filled n from x xs) (from + n) ≡ 0 = filled_after n from x xs (from + n) (omega arith) ∙ z n (omega arith) in
    let s = count_set k (filled n from x xs) (from + n) x (omega (arith, f, b)) in
    grind (arith, nat_tests)

-- ---- a page that is cut

module _ (s : Plain) (p c : ℕ) (sound : IsSound s) (class : IsClass c) (found : Finds 0 s.owner (Some p)) (lowest : IsLowest 0 s.owner (Some p)) where
  abbrev n : ℕ
  n = 4096 / c

  abbrev pub cut : Plain
  cut = record s { owner = slice_set s.owner p (2 * c + 2); slots = filled n (128 * p) (2 * c + 2) s.slots; ever_used = used_up p s.ever_used }

  pub room : 128 * p + n ≤ length s.slots
  room = let l = found.0 in let m = sound.slots_long in let f = class.few in omega (arith, l, m, f)

  -- no slot is in a page that is nobody's
  no_slot : (u : ℕ) → u / 128 ≡ p → slice_index s.slots u ≡ 0
  no_slot u e = by_parity (nat_eq (slice_index s.slots u) 0) (nat_eq (slice_index s.slots u % 2) 1) refl refl
    where
      nobody : slice_index s.owner (u / 128) ≡ 0
      nobody = ap (slice_index s.owner) e ∙ found.1

      by_parity : (z o : Bool) → nat_eq (slice_index s.slots u) 0 ≡ z → nat_eq (slice_index s.slots u % 2) 1 ≡ o → slice_index s.slots u ≡ 0
      by_parity true o d g = grind (arith, nat_tests)
      by_parity false true d g =
          let w = slice_index s.slots u in let i = sound.live u (w / 2) (grind (arith, nat_tests)) in
          absurd (let a = i.page in let b = nobody in omega (arith, a, b))
      by_parity false false d g =
          let w = slice_index s.slots u in let i = sound.vacant u (w / 2 - 1) (grind (arith, nat_tests)) in
          absurd (let a = i.page in let b = nobody in omega (arith, a, b))

  zeros : (j : ℕ) → j < n → slice_index s.slots (128 * p + j) ≡ 0
  zeros j l = no_slot (128 * p + j) (let f = class.few in omega (arith, l, f))

  elsewhere : (u : ℕ) → nat_eq (u / 128) p ≡ false → slice_index cut.slots u ≡ slice_index s.slots u
  elsewhere u e = by_side (nat_lt u (128 * p)) refl
    where
      by_side : (b : Bool) → nat_lt u (128 * p) ≡ b → slice_index cut.slots u ≡ slice_index s.slots u
      by_side true l = filled_before n (128 * p) (2 * c + 2) s.slots u (grind (arith, nat_tests))
      by_side false l = filled_after n (128 * p) (2 * c + 2) s.slots u (let f = class.few in grind (arith, nat_tests))

  pub first_vacant : slice_index cut.slots (128 * p) ≡ 2 * c + 2
  first_vacant = filled_in n (128 * p) (2 * c + 2) s.slots (128 * p) room (omega arith) (let w = class.whole in by_some n w)
    where
      by_some : (k : ℕ) → k * c ≡ 4096 → 128 * p < 128 * p + k
      by_some zero e = absurd (let z : zero * c ≡ 0 = omega arith in omega (arith, e, z))
      by_some (suc k) e = omega arith

  owner_by : (b e : Bool) (q : ℕ) → nat_lt q arena_base ≡ b → nat_eq (page_at q) p ≡ e →
      owner_at cut.owner s.used cut.slots q ≡ owner_at s.owner s.used s.slots q
  owner_by true e q b d = owner_below cut.owner s.used cut.slots q b ∙ sym (owner_below s.owner s.used s.slots q b)
  owner_by false true q b e =
      let l = slot_within c (place_at q) class (omega arith) in
      let w = filled_in n (128 * p) (2 * c + 2) s.slots (128 * p + place_at q / c) room (omega arith) (omega (arith, l)) in
      let t : nat_eq (slice_index cut.slots (128 * p + place_at q / c)) (2 * c + 1) ≡ false = grind (arith, nat_tests) in
      owner_there cut.owner s.used cut.slots q p (2 * c + 2) (slice_index s.used p) b e (index_at s.owner p (2 * c + 2) p found.0 (grind
      (arith, nat_tests))) refl
      ∙ owner_class c (slice_index s.used p) p (place_at q) cut.slots
      ∙ ap (λ t. if t then Some (Alone (address_of p (place_at q / c * c)) c) else None) t
      ∙ sym (owner_there s.owner s.used s.slots q p 0 (slice_index s.used p) b e found.1 refl ∙ owner_nobody (slice_index s.used p) p (place_at q) s.slots)
  owner_by false false q b e =
      owner_here cut.owner s.used cut.slots q b
      ∙ owner_slots (slice_index cut.owner (page_at q)) (slice_index s.used (page_at q)) (page_at q) (place_at q) s.slots cut.slots
      (λ k w. elsewhere (128 * page_at q + place_at q / k) (far k (sym (index_else s.owner p (2 * c + 2) (page_at q) e) ∙ w)))
      ∙ ap (λ w. owner_in w (slice_index s.used (page_at q)) (page_at q) (place_at q) s.slots) (index_else s.owner p (2 * c + 2) (page_at q) e)
      ∙ sym (owner_here s.owner s.used s.slots q b)
    where
      far : (k : ℕ) → slice_index s.owner (page_at q) ≡ 2 * k + 2 → nat_eq ((128 * page_at q + place_at q / k) / 128) p ≡ false
      far k w =
          let cl = sound.classes (page_at q) k w in let few = cl.few in
          let l = slot_within k (place_at q) cl (omega arith) in
          let same : (128 * page_at q + place_at q / k) / 128 ≡ page_at q = omega (arith, l, few) in
          ap (λ m. nat_eq m p) same ∙ e

  regions_kept : (h : ℕ) → count_of (2 * h + 1) cut.owner ≡ count_of (2 * h + 1) s.owner
  regions_kept h = let m = count_set (2 * h + 1) s.owner p (2 * c + 2) found.0 in let z = found.1 in grind (arith, nat_tests)

  classes_are : (d : ℕ) → count_of (2 * d + 2) cut.owner ≡ count_of (2 * d + 2) s.owner + (if nat_eq d c then 1 else 0)
  classes_are d = let m = count_set (2 * d + 2) s.owner p (2 * c + 2) found.0 in let z = found.1 in grind (arith, nat_tests)

  live_kept : (d : ℕ) → count_of (2 * d + 1) cut.slots ≡ count_of (2 * d + 1) s.slots
  live_kept d = let m = filled_count n (128 * p) (2 * c + 2) (2 * d + 1) s.slots room zeros (omega arith) in grind (arith, nat_tests)

  vacant_are : (d : ℕ) → count_of (2 * d + 2) cut.slots ≡ count_of (2 * d + 2) s.slots + (if nat_eq d c then n else 0)
  vacant_are d = let m = filled_count n (128 * p) (2 * c + 2) (2 * d + 2) s.slots room zeros (omega arith) in grind (arith, nat_tests)

  pub cut_counts : counts_of cut.ever_used cut.owner s.used s.last cut.slots
      ≡ (let k = counts_of s.ever_used s.owner s.used s.last s.slots in record (one_less k) { class_pages = put c (k.class_pages c + 1) k.class_pages })
  unfolding counts_of
  cut_counts =
      let f = free_less s p (2 * c + 2) sound found lowest (omega arith) in
      let pages : (d : ℕ) → count_of (2 * d + 2) cut.owner ≡ put c (count_of (2 * c + 2) s.owner + 1) (λ d. count_of (2 * d + 2) s.owner) d =
      (λ d. let m = classes_are d in grind (arith, nat_tests)) in
      λ i. record {
        fresh = f.fresh i;
        given = f.given i;
        taken = λ h. regions_kept h i;
        left = (counts_of s.ever_used s.owner s.used s.last s.slots).left;
        class_pages = λ d. pages d i;
        slots = λ d. live_kept d i;
      }

  pub cut_owner : (q : ℕ) → owner_at cut.owner s.used cut.slots q ≡ owner_at s.owner s.used s.slots q
  cut_owner q = owner_by (nat_lt q arena_base) (nat_eq (page_at q) p) q refl refl

  in_page : (u d : ℕ) → IsInPage s.owner u d → IsInPage cut.owner u d
  in_page u d i = record {
    page = let e = i.page in let z = found.1 in grind (
      arith,
      nat_tests,
      common_steps,
      index_else s.owner p (2 * c + 2)
          (u / 128),
    );
    place = i.place;
  }

  capacity_by : (b : Bool) (d : ℕ) → nat_eq d c ≡ b → count_of (2 * d + 1) cut.slots + count_of (2 * d + 2) cut.slots ≡ count_of (2 * d + 2) cut.owner *
      (4096 / d)
  capacity_by true d e =
      let same : d ≡ c = grind (arith, nat_tests) in
      subst (λ d. count_of (2 * d + 1) cut.slots + count_of (2 * d + 2) cut.slots ≡ count_of (2 * d + 2) cut.owner * (4096 / d)) (sym same)
      (let t : nat_eq c c ≡ true = grind (arith, nat_tests) in
      let a = live_kept c in let b : count_of (2 * c + 2) cut.slots ≡ count_of (2 * c + 2) s.slots + n = vacant_are c
      ∙ ap (λ t. count_of (2 * c + 2) s.slots + (if t then n else 0)) t in
      let g : count_of (2 * c + 2) cut.owner ≡ count_of (2 * c + 2) s.owner + 1 = classes_are c
      ∙ ap (λ t. count_of (2 * c + 2) s.owner + (if t then 1 else 0)) t in
      let k = sound.capacity c in
      let m : count_of (2 * c + 2) cut.owner * n ≡ (count_of (2 * c + 2) s.owner + 1) * n = ap (λ x. x * n) g in
      omega (arith, a, b, k, m))
  capacity_by false d e =
      let a = live_kept d in
      let b : count_of (2 * d + 2) cut.slots ≡ count_of (2 * d + 2) s.slots + 0 = vacant_are d
      ∙ ap (λ t. count_of (2 * d + 2) s.slots + (if t then n else 0)) e in
      let g : count_of (2 * d + 2) cut.owner ≡ count_of (2 * d + 2) s.owner + 0 = classes_are d
      ∙ ap (λ t. count_of (2 * d + 2) s.owner + (if t then 1 else 0)) e in
      let f : count_of (2 * d + 2) cut.owner ≡ count_of (2 * d + 2) s.owner = omega (arith, g) in
      let k = sound.capacity d in let m = ap (λ x. x * (4096 / d)) f in omega (arith, a, b, k, m)

  pub cut_sound : IsSound cut
  cut_sound = record {
    payload = sound.payload ∙ ap (λ n. 4096 * n) (sym (length-set s.owner p (2 * c + 2)));
    used_long = sound.used_long ∙ sym (length-set s.owner p (2 * c + 2));
    last_long = sound.last_long ∙ ap (λ n. n + 1) (sym (length-set s.owner p (2 * c + 2)));
    standing_long = sound.standing_long ∙ ap (λ n. n + 1) (sym (length-set s.owner p (2 * c + 2)));
    slots_long = filled_long n (128 * p) (2 * c + 2) s.slots ∙ sound.slots_long ∙ ap (λ n. 128 * n) (sym (length-set s.owner p (2 * c + 2)));
    few = subst (λ n. n ≤ 4096) (sym (length-set s.owner p (2 * c + 2))) sound.few;
    begun = (free_less s p (2 * c + 2) sound found lowest (omega arith)).begun;
    unused = (free_less s p (2 * c + 2) sound found lowest (omega arith)).unused;
    rounded = sound.rounded;
    within = sound.within;
    heap = sound.heap;
    known = sound.known;
    headed = λ k l. let m = sound.headed k l in let i = index_set s.owner p (2 * c + 2) k found.0 in let z = found.1 in grind (arith, nat_tests);
    lived = λ h q b l. let m = sound.lived h q b l in let i = index_set s.owner p (2 * c + 2) q found.0 in grind (arith, nat_tests);
    ended = λ h q l. let m = sound.ended h q l in let i = index_set s.owner p (2 * c + 2) q found.0 in let z = found.1 in grind (arith, nat_tests);
    classes = λ q d l. classes_by (nat_eq q p) q d refl l;
    live = λ u d l. live_by (nat_eq (u / 128) p) u d refl l;
    vacant = λ u d l. vacant_by (nat_eq (u / 128) p) (nat_lt u (128 * p + n)) u d refl refl l;
    capacity = λ d. capacity_by (nat_eq d c) d refl;
  }
    where
      classes_by : (b : Bool) (q d : ℕ) → nat_eq q p ≡ b → slice_index cut.owner q ≡ 2 * d + 2 → IsClass d
      classes_by true q d e l =
          let i = index_at s.owner p (2 * c + 2) q found.0 e in let same : c ≡ d = omega (arith, i, l) in subst IsClass same class
      classes_by false q d e l = sound.classes q d (sym (index_else s.owner p (2 * c + 2) q e) ∙ l)

      in_cut : (u : ℕ) → nat_eq (u / 128) p ≡ true → nat_lt u (128 * p + n) ≡ true → slice_index cut.slots u ≡ 2 * c + 2
      in_cut u e m = filled_in n (128 * p) (2 * c + 2) s.slots u room (grind (arith, nat_tests)) (grind (arith, nat_tests))

      past_cut : (u : ℕ) → nat_eq (u / 128) p ≡ true → nat_lt u (128 * p + n) ≡ false → slice_index cut.slots u ≡ 0
      past_cut u e m = filled_after n (128 * p) (2 * c + 2) s.slots u (grind (arith, nat_tests)) ∙ no_slot u (grind (arith, nat_tests))

      live_in : (m : Bool) (u d : ℕ) → nat_eq (u / 128) p ≡ true → nat_lt u (128 * p + n) ≡ m → slice_index cut.slots u ≡ 2 * d + 1 → IsInPage cut.owner u d
      live_in true u d e m l = absurd (let i = in_cut u e m in omega (arith, i, l))
      live_in false u d e m l = absurd (let i = past_cut u e m in omega (arith, i, l))

      live_by : (b : Bool) (u d : ℕ) → nat_eq (u / 128) p ≡ b → slice_index cut.slots u ≡ 2 * d + 1 → IsInPage cut.owner u d
      live_by true u d e l = live_in (nat_lt u (128 * p + n)) u d e refl l
      live_by false u d e l = in_page u d (sound.live u d (sym (elsewhere u e) ∙ l))

      vacant_by : (b m : Bool) (u d : ℕ) → nat_eq (u / 128) p ≡ b → nat_lt u (128 * p + n) ≡ m → slice_index cut.slots u ≡ 2 * d + 2 → IsInPage cut.owner u d
      vacant_by true true u d e m l =
          let i = in_cut u e m in let same : c ≡ d = omega (arith, i, l) in
          subst (λ d. IsInPage cut.owner u d) same (record { page = index_at s.owner p (2 * c + 2) (u / 128) found.0 e; place = grind (arith, nat_tests) })
      vacant_by true false u d e m l = absurd (let i = past_cut u e m in omega (arith, i, l))
      vacant_by false m u d e k l = in_page u d (sound.vacant u d (sym (elsewhere u e) ∙ l))

-- where no slot of the class is vacant, a page is needed
pub needs : (s : Plain) (c : ℕ) → IsSound s → Finds (2 * c + 2) s.slots None → slot_needs_page c (holdings_of s).counts ≡ true
unfolding counts_of
needs s c sound none = let z = none_found (2 * c + 2) s.slots none in let k = sound.capacity c in grind (arith, nat_tests)
