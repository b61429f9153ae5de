-- A live slot becomes vacant again.
use Rattle.std.proofs.Common.{◌≡◌, ℕ, suc, ◌+◌, ◌-◌, ◌/◌, ◌<◌, ◌≤◌, Bool, true, false, List, ◌∷◌, nat_eq, nat_lt, refl, sym, ap, subst, ◌∙◌, arith, length-set}
use Rattle.std.specs.Prelude.{slice_index, slice_set, ◌&&◌, if◌then◌else◌}
use Rattle.std.proofs.lemmas.Bool.Decides.{nat_tests}
use Rattle.arena_laws.specs.Counts.{class_of}
use Rattle.region_runtime.specs.Chains.{times}
use Rattle.unique_blocks.specs.Slots.{Slots, AreSlots, Leads, has_vacancy, is_of_class, one_if, place_of, tally, with_next, with_slot_given}
use Rattle.unique_blocks.proofs.Tally.{tally_change, tally_some}
use Rattle.unique_blocks.proofs.Classes.{place_own}
use Rattle.region_runtime.proofs.Words.{index_at, index_else}
use Rattle.unique_blocks.proofs.Vacant.{leads_kept, times_here, times_else, vacant_else, vacant_here}
use Rattle.unique_blocks.proofs.Chained.{live_most, place_in}
use Rattle.unique_blocks.proofs.Taken.{bit_kept}

module _ (pages : ℕ) (heads : List ℕ) (s : Slots) (sound : AreSlots pages heads s) (c p k : ℕ) (of_class : s.class p ≡ c) (some : 0 < c)
    (few : place_of c < 8) (low : k < 4096 / c) (live : s.bit p k ≡ true) where
  some_class : 0 < s.class p
  some_class = let i = some in let e = of_class in omega (arith, i, e)

  pub class : class_of c ≡ c
  class = subst (λ c. class_of c ≡ c) of_class (sound.classes p some_class)

  counted : s.live p ≡ tally (4096 / c) (λ k. one_if (s.bit p k))
  counted = sound.counted p some_class ∙ ap (λ c. tally (4096 / c) (λ k. one_if (s.bit p k))) of_class

  pub live_some : 0 < s.live p
  live_some =
      let t = tally_some (4096 / c) (λ k. one_if (s.bit p k)) k low (let e = ap one_if live in omega (arith, e)) in let n = counted in omega (arith, t, n)

  most : s.live p ≤ 4096 / c
  most = subst (λ c. s.live p ≤ 4096 / c) of_class (live_most pages heads s sound p some_class)

  own : nat_eq p p ≡ true
  own = grind (arith, nat_tests)

  abbrev given : Slots
  given = with_slot_given p k s

  given_counted : (q : ℕ) → 0 < s.class q → (t : Bool) → nat_eq q p ≡ t → given.live q ≡ tally (4096 / s.class q) (λ j. one_if (given.bit q j))
  given_counted q l true e =
      let q_is : p ≡ q = grind (arith, nat_tests) in
      let o = own in
      let own_slot : nat_eq k k ≡ true = grind (arith, nat_tests) in
      let was : one_if (s.bit p k) ≡ 1 = ap one_if live in
      let now : one_if (given.bit p k) ≡ 0 = (rw (o, own_slot) refl) in
      let change = tally_change (4096 / c) (λ j. one_if (s.bit p j)) (λ j. one_if (given.bit p j)) k low (λ j m. ap one_if (rw (o, m) refl)) in
      let n = counted in
      let here : given.live p ≡ tally (4096 / c) (λ j. one_if (given.bit p j)) =
      ap (λ t. if t then s.live p - 1 else s.live p) o ∙ (omega (arith, change, was, now, n)) in
      subst (λ q. given.live q ≡ tally (4096 / s.class q) (λ j. one_if (given.bit q j))) q_is
      (here ∙ ap (λ c. tally (4096 / c) (λ j. one_if (given.bit p j))) (sym of_class))
  given_counted q l false e =
      ap (λ t. if t then s.live p - 1 else s.live q) e ∙ sound.counted q l
      ∙ sym (λ i. tally (4096 / s.class q) (λ j. one_if (bit_kept s.bit p k false q j e i)))

  vacant_kept : (d q : ℕ) → (nat_eq q p && nat_eq d c) ≡ false → has_vacancy given d q ≡ has_vacancy s d q
  vacant_kept d q n = by_page (nat_eq q p) (nat_eq d c) refl refl n
    where
      by_page : (t u : Bool) → nat_eq q p ≡ t → nat_eq d c ≡ u → (t && u) ≡ false → has_vacancy given d q ≡ has_vacancy s d q
      by_page true true m o n = absurd (cc)
      by_page true false m o n =
          let other : nat_eq (s.class q) d ≡ false = (let q_is : p ≡ q = grind (arith, nat_tests) in let f : s.class q ≡ c =
          subst (λ q. s.class q ≡ c) q_is of_class in grind (arith, nat_tests)) in
          vacant_else given d q other ∙ sym (vacant_else s d q other)
      by_page false u m o n = ap (λ t. is_of_class s d q && nat_lt (if t then s.live p - 1 else s.live q) (4096 / d)) m

  vacant_now : has_vacancy given c p ≡ true
  vacant_now =
      let o = own in
      vacant_here given c p some (let e = of_class in grind (arith, nat_tests))
      ∙ ap (λ t. nat_lt (if t then s.live p - 1 else s.live p) (4096 / c)) o
      ∙ (let l = most in let m = live_some in grind (arith, nat_tests))

  vacant_was : has_vacancy s c p ≡ nat_lt (s.live p) (4096 / c)
  vacant_was = vacant_here s c p some (let e = of_class in grind (arith, nat_tests))

  -- ---- the page had a vacant slot before
  pub more_sound : nat_eq (s.live p) (4096 / c) ≡ false → AreSlots pages heads given
  more_sound n = record {
    long = sound.long;
    pages_few = sound.pages_few;
    classes = sound.classes;
    within = sound.within;
    counted = λ q l. given_counted q l (nat_eq q p) refl;
    chain = sound.chain;
    leads = sound.leads;
    once = λ d q e. sound.once d q e ∙ ap one_if (same d q (nat_eq q p) (nat_eq d c) refl refl);
  }
    where
      same : (d q : ℕ) → (t u : Bool) → nat_eq q p ≡ t → nat_eq d c ≡ u → has_vacancy s d q ≡ has_vacancy given d q
      same d q true true m o =
          let q_is : p ≡ q = grind (arith, nat_tests) in let d_is : c ≡ d = grind (arith, nat_tests) in
          subst (λ q. has_vacancy s d q ≡ has_vacancy given d q) q_is (subst (λ d. has_vacancy s d p ≡ has_vacancy given d p) d_is
          (vacant_was ∙ (let l = most in let f = n in grind (arith, nat_tests)) ∙ sym vacant_now))
      same d q true false m o = sym (vacant_kept d q (rw (m, o) refl))
      same d q false u m o = sym (vacant_kept d q (rw m refl))

  -- ---- the page was full, and goes before its class's chain
  module _ (full : nat_eq (s.live p) (4096 / c) ≡ true) where
    abbrev back_heads : List ℕ
    back_heads = slice_set heads (place_of c) (p + 1)

    abbrev back : Slots
    back = with_next p (slice_index heads (place_of c)) given

    chain_by : Bool → ℕ → List ℕ
    chain_by true d = p ∷ sound.chain c
    chain_by false d = sound.chain d

    off : (d : ℕ) → class_of d ≡ d → times p (sound.chain d) ≡ 0
    off d e = sound.once d p e ∙ ap one_if (by_class (nat_eq d c) refl)
      where
        by_class : (t : Bool) → nat_eq d c ≡ t → has_vacancy s d p ≡ false
        by_class true n =
            let d_is : c ≡ d = grind (arith, nat_tests) in
            subst (λ d. has_vacancy s d p ≡ false) d_is (vacant_was ∙ (let f = full in grind (arith, nat_tests)))
        by_class false n = vacant_else s d p (let f = of_class in grind (arith, nat_tests))

    back_leads : (t : Bool) (d : ℕ) → class_of d ≡ d → nat_eq d c ≡ t → Leads back.next (slice_index back_heads (place_of d)) (chain_by t d)
    unfolding chain_by
    back_leads true d e n =
        let same : nat_eq (place_of d) (place_of c) ≡ true = (let d_is : d ≡ c = grind (arith, nat_tests) in let z = ap place_of d_is in
        grind (arith, nat_tests)) in (
          index_at heads (place_of c) (p + 1) (place_of d) (place_in pages heads s sound c few) same,
          subst (λ h. Leads back.next h (sound.chain c)) (sym (ap (λ t. if t then slice_index heads (place_of c) else s.next p) own))
              (leads_kept s.next p (slice_index heads (place_of c)) (slice_index heads (place_of c)) (sound.chain c) (off c class) (sound.leads c class)),
        )
    back_leads false d e n =
        let apart : nat_eq (place_of d) (place_of c) ≡ false = differs (nat_eq (place_of d) (place_of c)) refl in
        subst (λ h. Leads back.next h (sound.chain d)) (sym (index_else heads (place_of c) (p + 1) (place_of d) apart))
        (leads_kept s.next p (slice_index heads (place_of c)) (slice_index heads (place_of d)) (sound.chain d) (off d e) (sound.leads d e))
      where
        differs : (t : Bool) → nat_eq (place_of d) (place_of c) ≡ t → t ≡ false
        differs true f = absurd (let o = place_own c d class e (grind (arith, nat_tests)) in grind (arith, nat_tests))
        differs false f = refl

    more_once : (q : ℕ) (u : Bool) → nat_eq q p ≡ u → times q (p ∷ sound.chain c) ≡ one_if (has_vacancy given c q)
    more_once q true m =
        let q_is : p ≡ q = grind (arith, nat_tests) in
        subst (λ q. times q (p ∷ sound.chain c) ≡ one_if (has_vacancy given c q)) q_is
        (times_here p p (sound.chain c) own ∙ ap suc (off c class) ∙ sym (ap one_if vacant_now))
    more_once q false m = times_else p q (sound.chain c) m ∙ sound.once c q class ∙ sym (ap one_if (vacant_kept c q (rw m refl)))

    back_once : (t : Bool) (d q : ℕ) → class_of d ≡ d → nat_eq d c ≡ t → times q (chain_by t d) ≡ one_if (has_vacancy given d q)
    unfolding chain_by
    back_once true d q e n =
        let d_is : c ≡ d = grind (arith, nat_tests) in more_once q (nat_eq q p) refl ∙ ap (λ d. one_if (has_vacancy given d q)) d_is
    back_once false d q e n = sound.once d q e ∙ sym (ap one_if (vacant_kept d q (and_no (nat_eq q p))))
      where
        and_no : (t : Bool) → (t && nat_eq d c) ≡ false
        and_no true = n
        and_no false = refl

    pub back_sound : AreSlots pages back_heads back
    back_sound = record {
      long = length-set heads (place_of c) (p + 1) ∙ sound.long;
      pages_few = sound.pages_few;
      classes = sound.classes;
      within = sound.within;
      counted = λ q l. given_counted q l (nat_eq q p) refl;
      chain = λ d. chain_by (nat_eq d c) d;
      leads = λ d e. back_leads (nat_eq d c) d e refl;
      once = λ d q e. back_once (nat_eq d c) d q e refl;
    }
