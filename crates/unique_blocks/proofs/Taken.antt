-- A slot of the first page on its class's chain becomes live.
use Rattle.std.proofs.Common.{◌≡◌, ℕ, suc, ◌+◌, ◌-◌, ◌/◌, ◌<◌, Bool, true, false, List, ◌∷◌, nat_eq, nat_lt, refl, sym, ap, subst, ◌∙◌, arith, length-set}
use Rattle.std.specs.Prelude.{slice_index, slice_set, ◌&&◌, if◌then◌else◌}
use Rattle.std.proofs.lemmas.Bool.Decides.{nat_tests}
use Rattle.arena_laws.specs.Counts.{class_of}
use Rattle.region_runtime.specs.Chains.{times}
use Rattle.unique_blocks.specs.Slots.{Slots, AreSlots, Leads, has_vacancy, is_of_class, one_if, place_of, put_bit, tally, with_slot_taken}
use Rattle.unique_blocks.specs.Calls.{IsFirstVacant}
use Rattle.unique_blocks.proofs.Tally.{tally_change, tally_full}
use Rattle.unique_blocks.proofs.Classes.{place_own}
use Rattle.region_runtime.proofs.Words.{index_at, index_else}
use Rattle.unique_blocks.proofs.Vacant.{IsFirst, first_leads, times_here, times_else, class_some, vacant_else, vacant_here}
use Rattle.unique_blocks.proofs.Chained.{place_in}

-- what a vacancy says of a page
pub record IsVacant (s : Slots) (c p : ℕ) : Type 0 where
  pub class : s.class p ≡ c
  pub live : s.live p < 4096 / c

pub has_vacant : (s : Slots) (c p : ℕ) → has_vacancy s c p ≡ true → IsVacant s c p
has_vacant s c p e = by_class (is_of_class s c p) refl e
  where
    by_some : (t u : Bool) → nat_lt 0 c ≡ t → nat_eq (s.class p) c ≡ u → (t && u) ≡ true → s.class p ≡ c
    by_some true true d f g = grind (arith, nat_tests)
    by_some true false d f g = absurd (cc)
    by_some false u d f g = absurd (cc)

    by_class : (t : Bool) → is_of_class s c p ≡ t → (t && nat_lt (s.live p) (4096 / c)) ≡ true → IsVacant s c p
    by_class true d e = record { class = by_some (nat_lt 0 c) (nat_eq (s.class p) c) refl refl d; live = grind (arith, nat_tests) }
    by_class false d e = absurd (cc)

pub bool_one : (b : Bool) → 0 < one_if b → b ≡ true
bool_one true l = refl
bool_one false l = absurd (omega (arith, l))

pub bit_kept : (bit : ℕ → ℕ → Bool) (p k : ℕ) (b : Bool) (q j : ℕ) → nat_eq q p ≡ false → put_bit p k b bit q j ≡ bit q j
bit_kept bit p k b q j e = rw e refl

module _ (pages : ℕ) (heads : List ℕ) (s : Slots) (sound : AreSlots pages heads s) (c : ℕ) (class : class_of c ≡ c) (few : place_of c < 8)
    (begins : 0 < slice_index heads (place_of c)) where
  -- the first page on the chain
  abbrev pub page : ℕ
  page = slice_index heads (place_of c) - 1

  first : IsFirst s.next (slice_index heads (place_of c)) (sound.chain c)
  first = first_leads s.next (slice_index heads (place_of c)) (sound.chain c) begins (sound.leads c class)

  pub vacant : has_vacancy s c page ≡ true
  vacant =
      let own : nat_eq page page ≡ true = grind (arith, nat_tests) in
      let t : times page (sound.chain c) ≡ suc (times page first.rest) = ap (times page) first.is ∙ times_here page page first.rest own in
      let o = sound.once c page class in
      bool_one (has_vacancy s c page) (omega (arith, t, o))

  pub of_class : s.class page ≡ c
  of_class = (has_vacant s c page vacant).class

  pub short : s.live page < 4096 / c
  short = (has_vacant s c page vacant).live

  some : 0 < c
  some = let i = (class_some c class).some in omega (arith, i)

  some_class : 0 < s.class page
  some_class = let i = some in let e = of_class in omega (arith, i, e)

  pub page_in : page < pages
  page_in = sound.within page some_class

  counted : s.live page ≡ tally (4096 / c) (λ k. one_if (s.bit page k))
  counted = sound.counted page some_class ∙ ap (λ c. tally (4096 / c) (λ k. one_if (s.bit page k))) of_class

  pub live_small : s.live page < 128
  live_small = let l = short in let f = (class_some c class).few in omega (arith, l, f)

  -- the first vacant slot is one of the page's
  pub slot_in : (k : ℕ) → IsFirstVacant (s.bit page) k → k < 4096 / c
  slot_in k f = by_low (nat_lt k (4096 / c)) refl
    where
      by_low : (t : Bool) → nat_lt k (4096 / c) ≡ t → k < 4096 / c
      by_low true e = grind (arith, nat_tests)
      by_low false e =
          let full = tally_full (4096 / c) (s.bit page) (λ j l. f.below j (grind (arith, nat_tests))) in
          let n = counted in let l = short in absurd (omega (arith, full, n, l))

  module _ (k : ℕ) (low : k < 4096 / c) (free : s.bit page k ≡ false) where
    abbrev taken : Slots
    taken = with_slot_taken page k s

    taken_counted : (q : ℕ) → 0 < s.class q → (t : Bool) → nat_eq q page ≡ t → taken.live q ≡ tally (4096 / s.class q) (λ j. one_if (taken.bit q j))
    taken_counted q l true e =
        let q_is : page ≡ q = grind (arith, nat_tests) in
        let own : nat_eq page page ≡ true = grind (arith, nat_tests) in
        let own_slot : nat_eq k k ≡ true = grind (arith, nat_tests) in
        let was : one_if (s.bit page k) ≡ 0 = ap one_if free in
        let now : one_if (taken.bit page k) ≡ 1 = (rw (own, own_slot) refl) in
        let change = tally_change (4096 / c) (λ j. one_if (s.bit page j)) (λ j. one_if (taken.bit page j)) k low (λ j m. ap one_if (rw (own, m) refl)) in
        let n = counted in
        let here : taken.live page ≡ tally (4096 / c) (λ j. one_if (taken.bit page j)) =
        ap (λ t. if t then s.live page + 1 else s.live page) own ∙ (omega (arith, change, was, now, n)) in
        subst (λ q. taken.live q ≡ tally (4096 / s.class q) (λ j. one_if (taken.bit q j))) q_is
        (here ∙ ap (λ c. tally (4096 / c) (λ j. one_if (taken.bit page j))) (sym of_class))
    taken_counted q l false e =
        ap (λ t. if t then s.live page + 1 else s.live q) e ∙ sound.counted q l
        ∙ sym (λ i. tally (4096 / s.class q) (λ j. one_if (bit_kept s.bit page k true q j e i)))

    -- whether other pages and classes have a vacant slot is as it was
    vacant_kept : (d q : ℕ) → class_of d ≡ d → (nat_eq q page && nat_eq d c) ≡ false → has_vacancy taken d q ≡ has_vacancy s d q
    vacant_kept d q e n = by_page (nat_eq q page) (nat_eq d c) refl refl n
      where
        by_page : (t u : Bool) → nat_eq q page ≡ t → nat_eq d c ≡ u → (t && u) ≡ false → has_vacancy taken d q ≡ has_vacancy s d q
        by_page true true m o n = absurd (cc)
        by_page true false m o n =
            let other : nat_eq (s.class q) d ≡ false = (let q_is : page ≡ q = grind (arith, nat_tests) in let f : s.class q ≡ c =
            subst (λ q. s.class q ≡ c) q_is of_class in grind (arith, nat_tests)) in
            vacant_else taken d q other ∙ sym (vacant_else s d q other)
        by_page false u m o n = ap (λ t. is_of_class s d q && nat_lt (if t then s.live page + 1 else s.live q) (4096 / d)) m

    vacant_now : has_vacancy taken c page ≡ nat_lt (s.live page + 1) (4096 / c)
    vacant_now =
        let own : nat_eq page page ≡ true = grind (arith, nat_tests) in
        vacant_here taken c page some (let e = of_class in grind (arith, nat_tests))
        ∙ ap (λ t. nat_lt (if t then s.live page + 1 else s.live page) (4096 / c)) own

    -- ---- a slot is left
    pub left_sound : nat_eq (s.live page + 1) (4096 / c) ≡ false → AreSlots pages heads taken
    left_sound n = record {
      long = sound.long;
      pages_few = sound.pages_few;
      classes = sound.classes;
      within = sound.within;
      counted = λ q l. taken_counted q l (nat_eq q page) refl;
      chain = sound.chain;
      leads = sound.leads;
      once = λ d q e. sound.once d q e ∙ ap one_if (same d q e (nat_eq q page) (nat_eq d c) refl refl);
    }
      where
        same : (d q : ℕ) → class_of d ≡ d → (t u : Bool) → nat_eq q page ≡ t → nat_eq d c ≡ u → has_vacancy s d q ≡ has_vacancy taken d q
        same d q e true true m o =
            let q_is : page ≡ q = grind (arith, nat_tests) in let d_is : c ≡ d = grind (arith, nat_tests) in
            subst (λ q. has_vacancy s d q ≡ has_vacancy taken d q) q_is (subst (λ d. has_vacancy s d page ≡ has_vacancy taken d page) d_is
            (vacant ∙ sym (vacant_now ∙ (let l = short in grind (arith, nat_tests)))))
        same d q e true false m o = sym (vacant_kept d q e (rw (m, o) refl))
        same d q e false u m o = sym (vacant_kept d q e (rw m refl))

    -- ---- the page is full, and leaves the chain
    module _ (full : nat_eq (s.live page + 1) (4096 / c) ≡ true) where
      abbrev full_heads : List ℕ
      full_heads = slice_set heads (place_of c) (s.next page)

      rest_by : Bool → ℕ → List ℕ
      rest_by true d = first.rest
      rest_by false d = sound.chain d

      full_leads : (t : Bool) (d : ℕ) → class_of d ≡ d → nat_eq d c ≡ t → Leads s.next (slice_index full_heads (place_of d)) (rest_by t d)
      unfolding rest_by
      full_leads true d e n =
          let same : nat_eq (place_of d) (place_of c) ≡ true = (let d_is : d ≡ c = grind (arith, nat_tests) in let z = ap place_of d_is in
          grind (arith, nat_tests)) in
          subst (λ h. Leads s.next h first.rest) (sym (index_at heads (place_of c) (s.next page) (place_of d) (place_in pages heads s sound c few) same))
          first.leads
      full_leads false d e n =
          subst (λ h. Leads s.next h (sound.chain d)) (sym (index_else heads (place_of c) (s.next page) (place_of d) (differs (nat_eq (place_of d)
          (place_of c)) refl))) (sound.leads d e)
        where
          differs : (t : Bool) → nat_eq (place_of d) (place_of c) ≡ t → t ≡ false
          differs true f = absurd (let o = place_own c d class e (grind (arith, nat_tests)) in grind (arith, nat_tests))
          differs false f = refl

      rest_once : (q : ℕ) (u : Bool) → nat_eq q page ≡ u → times q first.rest ≡ one_if (has_vacancy taken c q)
      rest_once q true m =
          let q_is : page ≡ q = grind (arith, nat_tests) in
          let own : nat_eq page page ≡ true = grind (arith, nat_tests) in
          let t : times page (sound.chain c) ≡ suc (times page first.rest) = ap (times page) first.is ∙ times_here page page first.rest own in
          let o = sound.once c page class ∙ ap one_if vacant in
          let z : times page first.rest ≡ 0 = omega (arith, t, o) in
          let v : has_vacancy taken c page ≡ false = vacant_now ∙ (let f = full in grind (arith, nat_tests)) in
          subst (λ q. times q first.rest ≡ one_if (has_vacancy taken c q)) q_is (z ∙ sym (ap one_if v))
      rest_once q false m =
          let f : times q (sound.chain c) ≡ times q (page ∷ first.rest) = ap (times q) first.is in
          sym (times_else page q first.rest m) ∙ sym f ∙ sound.once c q class
          ∙ sym (ap one_if (vacant_kept c q class (rw m refl)))

      full_once : (t : Bool) (d q : ℕ) → class_of d ≡ d → nat_eq d c ≡ t → times q (rest_by t d) ≡ one_if (has_vacancy taken d q)
      unfolding rest_by
      full_once true d q e n =
          let d_is : c ≡ d = grind (arith, nat_tests) in
          rest_once q (nat_eq q page) refl ∙ ap (λ d. one_if (has_vacancy taken d q)) d_is
      full_once false d q e n = sound.once d q e ∙ sym (ap one_if (vacant_kept d q e (and_no (nat_eq q page))))
        where
          and_no : (t : Bool) → (t && nat_eq d c) ≡ false
          and_no true = n
          and_no false = refl

      pub full_sound : AreSlots pages full_heads taken
      full_sound = record {
        long = length-set heads (place_of c) (s.next page) ∙ sound.long;
        pages_few = sound.pages_few;
        classes = sound.classes;
        within = sound.within;
        counted = λ q l. taken_counted q l (nat_eq q page) refl;
        chain = λ d. rest_by (nat_eq d c) d;
        leads = λ d e. full_leads (nat_eq d c) d e refl;
        once = λ d q e. full_once (nat_eq d c) d q e refl;
      }
