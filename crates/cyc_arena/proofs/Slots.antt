-- A slot of a page is taken or given back.
use Rattle.std.proofs.Common.{
  ◌≡◌,
  ℕ,
  ◌+◌,
  ◌-◌,
  ◌*◌,
  ◌/◌,
  ◌%◌,
  ◌<◌,
  ◌≤◌,
  Bool,
  true,
  false,
  List,
  length,
  Some,
  None,
  nat_eq,
  nat_lt,
  refl,
  sym,
  ap,
  subst,
  ◌∙◌,
  arith,
  length-set,
}
use Rattle.std.specs.Prelude.{slice_index, slice_set, ◌&&◌, if◌then◌else◌}
use Rattle.std.proofs.lemmas.Nat.{div-mul-add, div-add-mod'}
use Rattle.std.proofs.lemmas.Bool.Decides.{nat_tests}
use Rattle.arena_laws.specs.declared.owner.Owner.TheVariants.{Alone}
use Rattle.arena_laws.specs.Classes.{IsClass}
use Rattle.arena_laws.specs.Counts.{put, with_slot, slot_needs_page}
use Rattle.arena_laws.specs.Holdings.{arena_base}
use Rattle.arena_laws.specs.Lawful.{owns, is_in_room, is_lawful_room, with_alone}
use Rattle.unique_blocks.proofs.Places.{slot_ends, slot_within}
use Rattle.cyc_arena.specs.Plain.{Plain, IsSound, IsInPage, count_of, address_of, owner_in, owner_at, page_at, place_at, counts_of, holdings_of}
use Rattle.region_runtime.proofs.Owners.{is_lawful}
use Rattle.region_runtime.proofs.Words.{index_at, index_else, index_set}
use Rattle.cyc_arena.proofs.Words.{is_place, count_set, some_found}
use Rattle.cyc_arena.proofs.Owners.{owner_class, owner_below, owner_here, owner_there}

-- ---- places of a page in slots of c bytes

-- a place lies in its slot
pub record LiesIn (c k o : ℕ) : Type 0 where
  pub from : k * c ≤ o
  pub to : o < k * c + c

pub lies_in : (c o : ℕ) → 32 ≤ c → LiesIn c (o / c) o
lies_in c o l = let e = div-add-mod' o c in let m : o % c < c = omega (arith, l) in record { from = omega (arith, e); to = omega (arith, e, m) }

-- and in no other
pub only_slot : (c k o : ℕ) → 32 ≤ c → LiesIn c k o → o / c ≡ k
only_slot c k o l i =
    let f = i.from in let t = i.to in
    let e : k * c + (o - k * c) ≡ o = omega (arith, f) in
    subst (λ n. n / c ≡ k) e (div-mul-add k c (o - k * c) (omega (arith, f, t)))

-- ---- an address's owner where the slots differ

pub owner_slots : (w u p o : ℕ) (slots slots2 : List ℕ) → ((c : ℕ) → w ≡ 2 * c + 2 →
    slice_index slots2 (128 * p + o / c) ≡ slice_index slots (128 * p + o / c)) →
    owner_in w u p o slots2 ≡ owner_in w u p o slots
unfolding owner_in
owner_slots w u p o slots slots2 f = by_zero (nat_eq w 0) refl
  where
    by_odd : (b : Bool) → nat_eq w 0 ≡ false → nat_eq (w % 2) 1 ≡ b → owner_in w u p o slots2 ≡ owner_in w u p o slots
    by_odd true z e = rw (z, e) refl
    by_odd false z e =
        let c = w / 2 - 1 in
        let same = f c (grind (arith, nat_tests)) in
        rw (z, e) (ap (λ x. if nat_eq x (2 * c + 1) then Some (Alone (address_of p (o / c * c)) c) else None) same)

    by_zero : (b : Bool) → nat_eq w 0 ≡ b → owner_in w u p o slots2 ≡ owner_in w u p o slots
    by_zero true z = rw z refl
    by_zero false z = by_odd (nat_eq (w % 2) 1) z refl

-- ---- one slot

module _ (s : Plain) (u c : ℕ) (sound : IsSound s) (in_page : IsInPage s.owner u c) where
  abbrev page : ℕ
  page = u / 128

  abbrev slot : ℕ
  slot = u % 128

  -- the slot's first address
  abbrev at : ℕ
  at = arena_base + 4096 * (u / 128) + u % 128 * c

  class : IsClass c
  class = sound.classes page c in_page.page

  page_in : page < length s.owner
  page_in = is_place s.owner page (let e = in_page.page in omega (arith, e))

  pub slot_in : u < length s.slots
  slot_in = let n = sound.slots_long in let l = page_in in omega (arith, n, l)

  ends : slot * c + c ≤ 4096
  ends = slot_ends c slot class in_page.place

  -- an address of the slot: what its owner is by the slot's word
  pub hit : (slots : List ℕ) (word q : ℕ) → slice_index slots u ≡ word → nat_lt q arena_base ≡ false → nat_eq (page_at q) page ≡ true →
      nat_eq (place_at q / c) slot ≡ true →
      owner_at s.owner s.used slots q ≡ (if nat_eq word (2 * c + 1) then Some (Alone at c) else None)
  hit slots word q w b e f =
      let same : place_at q / c ≡ slot = grind (arith, nat_tests) in
      let there : 128 * page + slot ≡ u = omega arith in
      owner_there s.owner s.used slots q page (2 * c + 2) (slice_index s.used page) b e in_page.page refl
      ∙ owner_class c (slice_index s.used page) page (place_at q) slots
      ∙ ap (λ k. if nat_eq (slice_index slots (128 * page + k)) (2 * c + 1) then Some (Alone (address_of page (k * c)) c) else None) same
      ∙ ap (λ k. if nat_eq (slice_index slots k) (2 * c + 1) then Some (Alone at c) else None) there
      ∙ ap (λ x. if nat_eq x (2 * c + 1) then Some (Alone at c) else None) w

  hit_room : (q : ℕ) → nat_lt q arena_base ≡ false → nat_eq (page_at q) page ≡ true → nat_eq (place_at q / c) slot ≡ true → is_in_room at c q ≡ true
  hit_room q b e f =
      let same : place_at q / c ≡ slot = grind (arith, nat_tests) in
      let i = lies_in c (place_at q) class.some in
      let from : slot * c ≤ place_at q = subst (λ k. k * c ≤ place_at q) same i.from in
      let to : place_at q < slot * c + c = subst (λ k. place_at q < k * c + c) same i.to in
      grind (arith, nat_tests)

  miss_page : (q : ℕ) → nat_lt q arena_base ≡ false → nat_eq (page_at q) page ≡ false → is_in_room at c q ≡ false
  miss_page q b e = let l = ends in grind (arith, nat_tests)

  miss_slot : (q : ℕ) → nat_lt q arena_base ≡ false → nat_eq (page_at q) page ≡ true → nat_eq (place_at q / c) slot ≡ false → is_in_room at c q ≡ false
  miss_slot q b e f = by_room (is_in_room at c q) refl
    where
      by_room : (t : Bool) → is_in_room at c q ≡ t → t ≡ false
      by_room false r = refl
      by_room true r =
          let l = ends in
          let same = only_slot c slot (place_at q) class.some (record { from = grind (arith, nat_tests); to = grind (arith, nat_tests) }) in
          absurd (grind (arith, nat_tests))

  pub miss : (slots2 : List ℕ) → ((k : ℕ) → nat_eq k u ≡ false → slice_index slots2 k ≡ slice_index s.slots k) → (e f : Bool) (q : ℕ) →
      nat_lt q arena_base ≡ false →
      nat_eq (page_at q) page ≡ e → nat_eq (place_at q / c) slot ≡ f → (e && f) ≡ false → owner_at s.owner s.used slots2 q ≡ owner_at s.owner s.used s.slots q
  miss slots2 others e f q b d g n =
      owner_here s.owner s.used slots2 q b
      ∙ owner_slots (slice_index s.owner (page_at q)) (slice_index s.used (page_at q)) (page_at q) (place_at q) s.slots slots2 (λ k w. others
      (128 * page_at q + place_at q / k) (other e f d g n k w))
      ∙ sym (owner_here s.owner s.used s.slots q b)
    where
      other : (e f : Bool) → nat_eq (page_at q) page ≡ e → nat_eq (place_at q / c) slot ≡ f → (e && f) ≡ false → (k : ℕ) →
          slice_index s.owner (page_at q) ≡ 2 * k + 2 →
          nat_eq (128 * page_at q + place_at q / k) u ≡ false
      other true true d g n k w = absurd (cc)
      other true false d g n k w =
          let same : page_at q ≡ page = grind (arith, nat_tests) in
          let word : 2 * k + 2 ≡ 2 * c + 2 = sym w ∙ ap (slice_index s.owner) same ∙ in_page.page in
          let number : k ≡ c = omega (arith, word) in
          subst (λ m. nat_eq (128 * page_at q + place_at q / m) u ≡ false) (sym number) (grind (arith, nat_tests))
      other false f d g n k w =
          let cl = sound.classes (page_at q) k w in let few = cl.few in
          let l = slot_within k (place_at q) cl (omega arith) in
          grind (arith, nat_tests)

  lengths_kept : (x : ℕ) → length (slice_set s.slots u x) ≡ 128 * length s.owner
  lengths_kept x = length-set s.slots u x ∙ sound.slots_long

  others : (x k : ℕ) → nat_eq k u ≡ false → slice_index (slice_set s.slots u x) k ≡ slice_index s.slots k
  others x k e = index_else s.slots u x k e

  -- ---- a vacant slot is taken
  module _ (vacant : slice_index s.slots u ≡ 2 * c + 2) where
    abbrev pub after_taken : Plain
    after_taken = record s { slots = slice_set s.slots u (2 * c + 1) }

    taken_by : (b e f : Bool) (q : ℕ) → nat_lt q arena_base ≡ b → nat_eq (page_at q) page ≡ e → nat_eq (place_at q / c) slot ≡ f →
        owner_at s.owner s.used after_taken.slots q ≡ owns at c (Alone at c) (owner_at s.owner s.used s.slots) q
    taken_by true e f q b d g =
        let out : is_in_room at c q ≡ false = grind (arith, nat_tests) in
        owner_below s.owner s.used after_taken.slots q b ∙ sym (owner_below s.owner s.used s.slots q b)
        ∙ ap (λ t. if t then Some (Alone at c) else owner_at s.owner s.used s.slots q) (sym out)
    taken_by false true true q b d g =
        hit after_taken.slots (2 * c + 1) q (index_at s.slots u (2 * c + 1) u slot_in (grind (arith, nat_tests))) b d g
        ∙ (let t : nat_eq (2 * c + 1) (2 * c + 1) ≡ true = grind (arith, nat_tests) in ap (λ t. if t then Some (Alone at c) else None) t)
        ∙ ap (λ t. if t then Some (Alone at c) else owner_at s.owner s.used s.slots q) (sym (hit_room q b d g))
    taken_by false true false q b d g =
        miss after_taken.slots (others (2 * c + 1)) true false q b d g refl ∙ ap (λ t. if t then Some (Alone at c) else owner_at s.owner s.used s.slots q)
        (sym (miss_slot q b d g))
    taken_by false false f q b d g =
        miss after_taken.slots (others (2 * c + 1)) false f q b d g refl ∙ ap (λ t. if t then Some (Alone at c) else owner_at s.owner s.used s.slots q) (sym
        (miss_page q b d))

    clear_slot : (j : ℕ) → j < c → owner_at s.owner s.used s.slots (at + j) ≡ None
    clear_slot j l =
        let q = at + j in let e = ends in
        let b : nat_lt q arena_base ≡ false = grind (arith, nat_tests) in
        let d : nat_eq (page_at q) page ≡ true = grind (arith, nat_tests) in
        let o : place_at q ≡ slot * c + j = omega (arith, e, l) in
        let g : nat_eq (place_at q / c) slot ≡ true = (let same = div-mul-add slot c j l in let n : place_at q / c ≡ slot = ap (λ n. n / c) o ∙ same in
        grind (arith, nat_tests)) in
        hit s.slots (2 * c + 2) q vacant b d g ∙ (let t : nat_eq (2 * c + 2) (2 * c + 1) ≡ false = grind (arith, nat_tests) in
        ap (λ t. if t then Some (Alone at c) else None) t)

    eight : at % 8 ≡ 0
    eight =
        let n = class.eights in let d : c ≡ 8 * (c / 8) = omega (arith, n) in
        let m : slot * c ≡ slot * (8 * (c / 8)) = ap (λ k. slot * k) d in omega (arith, m)

    pub taken_lawful : is_lawful_room (holdings_of s) at c ≡ true
    taken_lawful = is_lawful (holdings_of s) at c eight (omega arith) (let l = page_in in let e = ends in omega (arith, l, e)) clear_slot

    capacity_kept : (k : ℕ) → count_of (2 * k + 1) after_taken.slots + count_of (2 * k + 2) after_taken.slots ≡ count_of (2 * k + 1) s.slots + count_of
        (2 * k + 2) s.slots
    capacity_kept k =
        let n = count_set (2 * k + 1) s.slots u (2 * c + 1) slot_in in let m = count_set (2 * k + 2) s.slots u (2 * c + 1) slot_in in let v = vacant in
        grind (arith, nat_tests)

    pub spare : slot_needs_page c (holdings_of s).counts ≡ false
    unfolding counts_of
    spare =
        let n = some_found (2 * c + 2) s.slots u (slot_in, vacant) in let m = sound.capacity c in grind (arith, nat_tests)

    counted_taken : counts_of s.ever_used s.owner s.used s.last after_taken.slots ≡ with_slot c (counts_of s.ever_used s.owner s.used s.last s.slots)
    unfolding counts_of
    counted_taken =
        let k = counts_of s.ever_used s.owner s.used s.last s.slots in
        let each : (d : ℕ) → count_of (2 * d + 1) after_taken.slots ≡ put c (count_of (2 * c + 1) s.slots + 1) (λ d. count_of (2 * d + 1) s.slots) d =
        (λ d. let n = count_set (2 * d + 1) s.slots u (2 * c + 1) slot_in in let v = vacant in grind (arith, nat_tests)) in
        let all : counts_of s.ever_used s.owner s.used s.last after_taken.slots ≡ record k { slots = put c (k.slots c + 1) k.slots } =
        (λ i. record k { slots = λ d. each d i }) in
        rw (spare) all

    pub taken_holds : holdings_of after_taken ≡ with_alone at c (holdings_of s)
    taken_holds = λ i. record (holdings_of s) {
      owner = λ q. taken_by (nat_lt q arena_base) (nat_eq (page_at q) page) (nat_eq
          (place_at q / c) slot) q refl refl refl i;
      counts = counted_taken i;
    }

    pub taken_sound : IsSound after_taken
    taken_sound = record {
      payload = sound.payload;
      used_long = sound.used_long;
      last_long = sound.last_long;
      standing_long = sound.standing_long;
      slots_long = lengths_kept (2 * c + 1);
      few = sound.few;
      begun = sound.begun;
      unused = sound.unused;
      rounded = sound.rounded;
      within = sound.within;
      heap = sound.heap;
      known = sound.known;
      headed = sound.headed;
      lived = sound.lived;
      ended = sound.ended;
      classes = sound.classes;
      live = λ k d l. live_by (nat_eq k u) k d refl l;
      vacant = λ k d l. sound.vacant k d (let i = index_set s.slots u (2 * c + 1) k slot_in in grind (arith, nat_tests));
      capacity = λ k. capacity_kept k ∙ sound.capacity k;
    }
      where
        live_by : (b : Bool) (k d : ℕ) → nat_eq k u ≡ b → slice_index after_taken.slots k ≡ 2 * d + 1 → IsInPage s.owner k d
        live_by true k d e l =
            let i = index_at s.slots u (2 * c + 1) k slot_in e in
            let same : u ≡ k = grind (arith, nat_tests) in
            let number : c ≡ d = omega (arith, i, l) in
            subst (λ n. IsInPage s.owner n d) same (subst (λ n. IsInPage s.owner u n) number in_page)
        live_by false k d e l = sound.live k d (sym (index_else s.slots u (2 * c + 1) k e) ∙ l)
