-- A unique block is granted: a vacant slot of its class, or the first of a page that is cut for it.
use Rattle.std.proofs.Common.{◌≡◌, ℕ, zero, ◌+◌, ◌*◌, ◌/◌, ◌%◌, ◌≤◌, Bool, true, false, List, length, Some, None, Ok, refl, sym, ap, subst, ◌∙◌, arith}
use Rattle.std.proofs.Common.{length-set}
use Rattle.std.specs.Prelude.{slice_set, ◌&&◌, ◌||◌}
use Rattle.std.proofs.lemmas.Bool.{or_right}
use Rattle.std.proofs.lemmas.Bool.Decides.{nat_tests}
use Rattle.arena_laws.proofs.Classes.{class_is}
use Rattle.arena_laws.specs.Classes.{IsClass}
use Rattle.arena_laws.specs.Counts.{Counts, put, class_of, with_slot, slot_needs_page, is_full, is_full_for_slot, is_too_long_alone, one_less}
use Rattle.arena_laws.specs.Holdings.{Holdings, arena_base}
use Rattle.arena_laws.specs.Lawful.{Grants, is_lawful_room, with_alone}
use Rattle.arena_laws.specs.Laws.{Does, unique_alloc}
use Rattle.cyc_arena.specs.Plain.{Plain, IsSound, IsInPage, Finds, IsLowest, used_up, filled, owner_at, counts_of, holdings_of}
use Rattle.cyc_arena.proofs.Made.{all_taken}
use Rattle.cyc_arena.proofs.Pages.{page_found}
use Rattle.cyc_arena.proofs.Slots.{taken_holds, taken_sound, taken_lawful, spare}
use Rattle.cyc_arena.proofs.Filled.{cut, cut_sound, cut_owner, cut_counts, first_vacant, needs}

-- ---- classes

pub is_class : (bytes c : ℕ) → c ≡ class_of bytes → IsClass c
is_class bytes c e = subst IsClass (sym e) (class_is bytes)

-- ---- the law

granted : (s : Holdings) (bytes at : ℕ) → is_too_long_alone bytes ≡ false → (slot_needs_page (class_of bytes) s.counts && is_full s.counts) ≡ false →
    is_lawful_room s at (class_of bytes) ≡ true → (after : Holdings) → after ≡ with_alone at (class_of bytes) s →
    Does (Ok at) after (unique_alloc bytes (Grants at) s)
granted s bytes at l f r after e = rw (l, f, r) (record { says = refl; holds = e })

not_refused : (c : Counts) (bytes : ℕ) → is_too_long_alone bytes ≡ false → (slot_needs_page (class_of bytes) c && is_full c) ≡ false →
    false ≡ is_full_for_slot bytes c
not_refused c bytes l f = rw (l, f) refl

refused_true : (c : Counts) (bytes : ℕ) → slot_needs_page (class_of bytes) c ≡ true → is_full c ≡ true → true ≡ is_full_for_slot bytes c
refused_true c bytes n f = rw (n, f) (sym (or_right (is_too_long_alone bytes) true refl))

is_short : (bytes : ℕ) → bytes ≤ 4096 → is_too_long_alone bytes ≡ false
is_short bytes l = grind (arith, nat_tests)

pub record IsGranted (s after : Plain) (bytes at : ℕ) : Type 0 where
  pub sound : IsSound after
  pub does : Does (Ok at) (holdings_of after) (unique_alloc bytes (Grants at) (holdings_of s))
  pub free : false ≡ is_full_for_slot bytes (holdings_of s).counts

with_spare : (c : ℕ) (k : Counts) → slot_needs_page c k ≡ false → with_slot c k ≡ record k { slots = put c (k.slots c + 1) k.slots }
with_spare c k e = rw e refl

with_needs : (c : ℕ) (k : Counts) → slot_needs_page c k ≡ true →
    with_slot c k ≡ record (one_less k) { class_pages = put c (k.class_pages c + 1) k.class_pages; slots = put c (k.slots c + 1) k.slots }
with_needs c k e = rw e refl

module _ (s : Plain) (bytes c : ℕ) (sound : IsSound s) (short : bytes ≤ 4096) (of : c ≡ class_of bytes) where
  -- from what holds of the class to what holds of the bytes
  by_class : (after : Plain) (at : ℕ) → IsSound after → (slot_needs_page c (holdings_of s).counts && is_full (holdings_of s).counts) ≡ false →
      is_lawful_room (holdings_of s) at c ≡ true → holdings_of after ≡ with_alone at c (holdings_of s) → IsGranted s after bytes at
  by_class after at ok f l h =
      let f2 = subst (λ c. (slot_needs_page c (holdings_of s).counts && is_full (holdings_of s).counts) ≡ false) of f in
      record {
        sound = ok;
        does = granted (holdings_of s) bytes at (is_short bytes short) f2 (subst (λ c. is_lawful_room (holdings_of s) at c ≡ true) of l) (holdings_of after)
            (subst (λ c. holdings_of after ≡ with_alone at c (holdings_of s)) of h);
        free = not_refused (holdings_of s).counts bytes (is_short bytes short) f2;
      }

  pub slot_granted : (u : ℕ) → Finds (2 * c + 2) s.slots (Some u) →
      IsGranted s (record s { slots = slice_set s.slots u (2 * c + 1) }) bytes (arena_base + 4096 * (u / 128) + u % 128 * c)
  slot_granted u f =
      let i = sound.vacant u c f.1 in
      by_class (record s { slots = slice_set s.slots u (2 * c + 1) }) (arena_base + 4096 * (u / 128) + u % 128 * c) (taken_sound s u c sound i f.1)
      (ap (λ t. t && is_full (holdings_of s).counts) (spare s u c sound i f.1)) (taken_lawful s u c sound i f.1) (taken_holds s u c sound i f.1)

  module _ (none : Finds (2 * c + 2) s.slots None) where
    module _ (p : ℕ) (found : Finds 0 s.owner (Some p)) (lowest : IsLowest 0 s.owner (Some p)) where
      class : IsClass c
      class = is_class bytes c of

      abbrev after : Plain
      after = record s {
        owner = slice_set s.owner p (2 * c + 2);
        slots = slice_set (cut s p c sound class found lowest).slots (128 * p) (2 * c + 1);
        ever_used = used_up p s.ever_used;
      }

      first : IsInPage (cut s p c sound class found lowest).owner (128 * p) c
      first = (cut_sound s p c sound class found lowest).vacant (128 * p) c (first_vacant s p c sound class found lowest)

      at_front : arena_base + 4096 * (128 * p / 128) + 128 * p % 128 * c ≡ arena_base + 4096 * p
      at_front =
          let a : 128 * p / 128 ≡ p = omega arith in let b : 128 * p % 128 ≡ 0 = omega arith in
          let z : zero * c ≡ 0 = omega arith in let m : 128 * p % 128 * c ≡ zero * c = ap (λ n. n * c) b in omega (arith, a, z, m)

      full : is_full (holdings_of s).counts ≡ false
      unfolding counts_of
      full = page_found s p sound found

      same_owner : record (holdings_of s) {
        pages = length (slice_set s.owner p (2 * c + 2));
        owner = owner_at (cut s p c sound class found lowest).owner s.used
            (cut s p c sound class found lowest).slots;
      } ≡ holdings_of s
      same_owner = λ i. record (holdings_of s) { pages = length-set s.owner p (2 * c + 2) i; owner = λ q. cut_owner s p c sound class found lowest q i }

      lawful_front : is_lawful_room (holdings_of s) (arena_base + 4096 * p) c ≡ true
      lawful_front =
          subst (λ a. is_lawful_room (holdings_of s) a c ≡ true) at_front
          (subst (λ h. is_lawful_room h (arena_base + 4096 * (128 * p / 128) + 128 * p % 128 * c) c ≡ true) same_owner
          (taken_lawful (cut s p c sound class found lowest) (128 * p) c (cut_sound s p c sound class found lowest) first
          (first_vacant s p c sound class found lowest)))

      holds_cut : holdings_of after ≡ with_alone (arena_base + 4096 * (128 * p / 128) + 128 * p % 128 * c) c (holdings_of (cut s p c sound class found lowest))
      holds_cut = taken_holds (cut s p c sound class found lowest) (128 * p) c (cut_sound s p c sound class found lowest) first
          (first_vacant s p c sound class found lowest)

      counts_front : with_slot c (holdings_of (cut s p c sound class found lowest)).counts ≡ with_slot c (holdings_of s).counts
      counts_front =
          with_spare c (holdings_of (cut s p c sound class found lowest)).counts (spare (cut s p c sound class found lowest) (128 * p) c
          (cut_sound s p c sound class found lowest) first (first_vacant s p c sound class found lowest))
          ∙ ap (λ k. let k : Counts = k in record k { slots = put c (k.slots c + 1) k.slots }) (cut_counts s p c sound class found lowest)
          ∙ sym (with_needs c (holdings_of s).counts (needs s c sound none))

      holds_front : holdings_of after ≡ with_alone (arena_base + 4096 * p) c (holdings_of s)
      holds_front =
          holds_cut
          ∙ ap (λ h. let h : Holdings = h in record (with_alone (arena_base + 4096 * (128 * p / 128) + 128 * p % 128 * c) c h) {
            counts = with_slot c
                (holdings_of (cut s p c sound class found lowest)).counts;
          }) same_owner
          ∙ ap (λ k. record (with_alone (arena_base + 4096 * (128 * p / 128) + 128 * p % 128 * c) c (holdings_of s)) { counts = k }) counts_front
          ∙ ap (λ a. with_alone a c (holdings_of s)) at_front

      pub front_granted : (filled_slots : List ℕ) → filled_slots ≡ filled (4096 / c) (128 * p) (2 * c + 2) s.slots →
          IsGranted s (record s {
            owner = slice_set s.owner p (2 * c + 2);
            slots = slice_set filled_slots (128 * p) (2 * c + 1);
            ever_used = used_up p s.ever_used;
          }) bytes (arena_base + 4096 * p)
      front_granted xs e =
          subst (λ xs. IsGranted s (record s {
            owner = slice_set s.owner p (2 * c + 2);
            slots = slice_set xs (128 * p) (2 * c + 1);
            ever_used = used_up p s.ever_used;
          }) bytes
          (arena_base + 4096 * p)) (sym e)
          (by_class after (arena_base + 4096 * p) (taken_sound (cut s p c sound class found lowest) (128 * p) c (cut_sound s p c sound class found lowest) first
          (first_vacant s p c sound class found lowest))
          (and_false (slot_needs_page c (holdings_of s).counts) full) lawful_front holds_front)
        where
          and_false : (b : Bool) → is_full (holdings_of s).counts ≡ false → (b && is_full (holdings_of s).counts) ≡ false
          and_false true f = f
          and_false false f = refl

      -- with the count as it was read
      pub front_granted_as : (filled_slots : List ℕ) → filled_slots ≡ filled (4096 / c) (128 * p) (2 * c + 2) s.slots → (n : ℕ) → n ≡ used_up p s.ever_used →
          IsGranted s (record s { owner = slice_set s.owner p (2 * c + 2); slots = slice_set filled_slots (128 * p) (2 * c + 1); ever_used = n }) bytes
          (arena_base + 4096 * p)
      front_granted_as xs e n u =
          subst (λ n. IsGranted s (record s { owner = slice_set s.owner p (2 * c + 2); slots = slice_set xs (128 * p) (2 * c + 1); ever_used = n }) bytes
          (arena_base + 4096 * p)) (sym u) (front_granted xs e)

    pub all_refused : Finds 0 s.owner None → true ≡ is_full_for_slot bytes (holdings_of s).counts
    all_refused found =
        let n : slot_needs_page (class_of bytes) (holdings_of s).counts ≡ true = subst (λ c. slot_needs_page c (holdings_of s).counts ≡ true) of
        (needs s c sound none) in
        refused_true (holdings_of s).counts bytes n (all_taken s sound found)
