-- What a pool's unique blocks are after a slot is taken or given back.
use Rattle.std.proofs.Common.{◌≡◌, ℕ, ◌+◌, ◌-◌, ◌/◌, ◌<◌, Bool, true, false, Option, Some, None, nat_eq, nat_lt, refl, sym, ap, subst, ◌∙◌, arith}
use Rattle.std.specs.Prelude.{nat_le, ◌&&◌, if◌then◌else◌}
use Rattle.std.proofs.lemmas.Bool.Decides.{nat_tests}
use Rattle.arena_laws.specs.declared.owner.Owner.{Owner}
use Rattle.arena_laws.specs.declared.owner.Owner.TheVariants.{Alone}
use Rattle.arena_laws.specs.Classes.{IsClass}
use Rattle.arena_laws.specs.Counts.{Counts, put, slot_needs_page, one_less}
use Rattle.arena_laws.specs.Holdings.{Holdings, arena_base}
use Rattle.arena_laws.specs.Lawful.{is_alone, is_in_room, is_lawful_room, owns, with_alone, without_alone}
use Rattle.region_runtime.specs.Pool.{Pooled, page_at, word_of}
use Rattle.region_runtime.specs.Pool as pool
use Rattle.region_runtime.proofs.Owners.{is_lawful}
use Rattle.unique_blocks.specs.Slots.{Slots, address_of, alone_at, alone_if, put_bit, slots_of_class, with_slot_given, with_slot_taken}
use Rattle.unique_blocks.specs.Blocks.{either_owner, joined}
use Rattle.unique_blocks.specs.Calls.{slots_of}
use Rattle.unique_blocks.proofs.Places.{alone_same, bit_owner, eight, ends, slot_owner, only_at}
use Rattle.unique_blocks.proofs.Counted.{links_pages, links_slots, live_slots, live_else, same_pages}
use Rattle.unique_blocks.proofs.Steps.{class_apart, class_page, pool_alone}

-- a slot of a page, in a pool and in one with other words of its taken pages
module _ (old new : Pooled) (p c k : ℕ) (class : IsClass c) (of_class : word_of old p 4 ≡ c) (low : k < 4096 / c)
    (same : pool.held new ≡ pool.held old) where
  abbrev s : Slots
  s = slots_of old

  abbrev at : ℕ
  at = address_of p c k

  abbrev h : Holdings
  h = pool.held old

  some : 0 < c
  some = let i = class.some in omega (arith, i)

  page_in : p < h.pages
  page_in = class_page old p (let i = some in let e = of_class in omega (arith, i, e))

  in_page : (q : ℕ) → is_in_room at c q ≡ true → nat_eq (page_at q) p ≡ true
  in_page q r = by_from (nat_le at q) (nat_lt q (at + c)) refl refl r
    where
      by_from : (t u : Bool) → nat_le at q ≡ t → nat_lt q (at + c) ≡ u → (t && u) ≡ true → nat_eq (page_at q) p ≡ true
      by_from true true e f g = let l = ends s p c k class of_class low in grind (arith, nat_tests)
      by_from true false e f g = absurd (cc)
      by_from false u e f g = absurd (cc)

  above : (q : ℕ) → is_in_room at c q ≡ true → nat_lt q arena_base ≡ false
  above q r = by_from (nat_le at q) refl r
    where
      by_from : (t : Bool) → nat_le at q ≡ t → (t && nat_lt q (at + c)) ≡ true → nat_lt q arena_base ≡ false
      by_from true e g = grind (arith, nat_tests)
      by_from false e g = absurd (cc)

  -- no region's block is in the slot
  unowned : (q : ℕ) → is_in_room at c q ≡ true → h.owner q ≡ None
  unowned q r =
      let p_is : p ≡ page_at q = (let e = in_page q r in grind (arith, nat_tests)) in
      class_apart old q (above q r) (subst (λ p. 0 < word_of old p 4) p_is (let i = some in let e = of_class in omega (arith, i, e)))

  bit_new : (live : Bool) (n q : ℕ) → alone_at (record s { bit = put_bit p k live s.bit; live = put p n s.live }) q ≡
      (if is_in_room at c q then alone_if live at c else alone_at s q)
  bit_new live n q =
      alone_same (record s { bit = put_bit p k live s.bit }) (record s { bit = put_bit p k live s.bit; live = put p n s.live }) refl refl q
      ∙ bit_owner s p c k class of_class low live q

  -- ---- a vacant slot is taken
  module _ (vacant : s.bit p k ≡ false) where
    in_room : (j : ℕ) → j < c → is_in_room at c (at + j) ≡ true
    in_room j l = grind (arith, nat_tests)

    clear : (j : ℕ) → j < c → (joined s h).owner (at + j) ≡ None
    clear j l =
        let r = in_room j l in
        ap (λ o. either_owner o (alone_at s (at + j))) (unowned (at + j) r) ∙ slot_owner s p c k class of_class low (at + j) r
        ∙ ap (λ t. alone_if t at c) vacant

    pub taken_lawful : is_lawful_room (joined s h) at c ≡ true
    taken_lawful =
        is_lawful (joined s h) at c (eight s p c k class of_class low) (omega arith)
        (let l = page_in in let e = ends s p c k class of_class low in omega (arith, l, e)) clear

    taken_owner : (q : ℕ) → either_owner (h.owner q) (alone_at (with_slot_taken p k s) q) ≡ owns at c (Alone at c) (joined s h).owner q
    taken_owner q = ap (either_owner (h.owner q)) (bit_new true (s.live p + 1) q) ∙ by_room (is_in_room at c q) refl
      where
        by_room : (t : Bool) → is_in_room at c q ≡ t → either_owner (h.owner q) (if t then Some (Alone at c) else alone_at s q) ≡ (if t then Some (Alone at c)
            else either_owner (h.owner q) (alone_at s q))
        by_room true e = ap (λ o. either_owner o (Some (Alone at c))) (unowned q e)
        by_room false e = refl

    taken_slots : (d : ℕ) → slots_of_class h.pages (with_slot_taken p k s) d ≡ put c (slots_of_class h.pages s c + 1) (slots_of_class h.pages s) d
    taken_slots d = by_class (nat_eq d c) refl
      where
        by_class : (t : Bool) → nat_eq d c ≡ t → slots_of_class h.pages (with_slot_taken p k s) d ≡ (if t then slots_of_class h.pages s c + 1 else
            slots_of_class h.pages s d)
        by_class true e =
            let d_is : d ≡ c = grind (arith, nat_tests) in
            let l = live_slots h.pages s p c (s.live p + 1) page_in some of_class (put_bit p k true s.bit) d e in
            let n : slots_of_class h.pages (with_slot_taken p k s) d ≡ slots_of_class h.pages s d + 1 = omega (arith, l) in
            n ∙ ap (λ d. slots_of_class h.pages s d + 1) d_is
        by_class false e = live_else h.pages s p c (s.live p + 1) page_in some of_class (put_bit p k true s.bit) d e

    pub taken_holds : slot_needs_page c (joined s h).counts ≡ false → slots_of new ≡ with_slot_taken p k s →
        joined (slots_of new) (pool.held new) ≡ with_alone at c (joined s h)
    taken_holds spare is =
        ap (λ t. joined t (pool.held new)) is ∙ ap (joined (with_slot_taken p k s)) same
        ∙ (λ i. record (joined s h) {
          owner = λ q. taken_owner q i;
          counts = record ((joined s h).counts) {
            class_pages = λ d. same_pages h.pages s p c (s.live p + 1) page_in some of_class (put_bit p k true s.bit) d i;
            slots = λ d. taken_slots d i;
          };
        })
        ∙ sym (ap (λ t. let k : Counts = (joined s h).counts in record (with_alone at c (joined s h)) {
          counts = (if t then
              record (one_less k) { class_pages = put c (k.class_pages c + 1) k.class_pages; slots = put c (k.slots c + 1) k.slots } else record k {
                slots = put c (k.slots c + 1) k.slots;
              });
        }) spare)

  -- ---- a live slot is given back
  module _ (live : s.bit p k ≡ true) where
    own_room : is_in_room at c at ≡ true
    own_room = let i = some in grind (arith, nat_tests)

    pub given_was : (joined s h).owner at ≡ Some (Alone at c)
    given_was =
        ap (λ o. either_owner o (alone_at s at)) (unowned at own_room) ∙ slot_owner s p c k class of_class low at own_room
        ∙ ap (λ t. alone_if t at c) live

    given_owner : (next : ℕ → ℕ) (q : ℕ) → either_owner (h.owner q) (alone_at (record (with_slot_given p k s) { next = next }) q) ≡
        (if is_alone at ((joined s h).owner q) then None else (joined s h).owner q)
    given_owner next q =
        ap (either_owner (h.owner q)) (alone_same (with_slot_given p k s) (record (with_slot_given p k s) { next = next }) refl refl q
        ∙ bit_new false (s.live p - 1) q) ∙ by_room (is_in_room at c q) refl
      where
        own : nat_eq at at ≡ true
        own = grind (arith, nat_tests)

        by_owner : (o : Option Owner) → is_alone at o ≡ false → is_alone at (alone_at s q) ≡ false → either_owner o (alone_at s q) ≡
            (if is_alone at (either_owner o (alone_at s q)) then None else either_owner o (alone_at s q))
        by_owner None e f = sym (ap (λ t. if t then None else alone_at s q) f)
        by_owner (Some x) e f = sym (ap (λ t. if t then None else Some x) e)

        by_room : (t : Bool) → is_in_room at c q ≡ t → either_owner (h.owner q) (if t then None else alone_at s q) ≡
            (if is_alone at (either_owner (h.owner q) (alone_at s q)) then None else either_owner (h.owner q) (alone_at s q))
        by_room true e =
            let was : either_owner (h.owner q) (alone_at s q) ≡ Some (Alone at c) = ap (λ o. either_owner o (alone_at s q)) (unowned q e)
            ∙ slot_owner s p c k class of_class low q e ∙ ap (λ t. alone_if t at c) live in
            ap (λ o. either_owner o None) (unowned q e)
            ∙ sym (ap (λ o. if is_alone at o then None else o) was ∙ ap (λ t. if t then None else Some (Alone at c)) own)
        by_room false e = by_owner (h.owner q) (pool_alone old at q) (only_at s p c k class of_class low q e)

    given_slots : 0 < s.live p → (d : ℕ) → slots_of_class h.pages (with_slot_given p k s) d ≡ put c (slots_of_class h.pages s c - 1)
        (slots_of_class h.pages s) d
    given_slots l d = by_class (nat_eq d c) refl
      where
        by_class : (t : Bool) → nat_eq d c ≡ t → slots_of_class h.pages (with_slot_given p k s) d ≡ (if t then slots_of_class h.pages s c - 1 else
            slots_of_class h.pages s d)
        by_class true e =
            let d_is : d ≡ c = grind (arith, nat_tests) in
            let m = live_slots h.pages s p c (s.live p - 1) page_in some of_class (put_bit p k false s.bit) d e in
            let n : slots_of_class h.pages (with_slot_given p k s) d ≡ slots_of_class h.pages s d - 1 = omega (arith, m, l) in
            n ∙ ap (λ d. slots_of_class h.pages s d - 1) d_is
        by_class false e = live_else h.pages s p c (s.live p - 1) page_in some of_class (put_bit p k false s.bit) d e

    pub given_holds : (next : ℕ → ℕ) → 0 < s.live p → slots_of new ≡ record (with_slot_given p k s) { next = next } →
        joined (slots_of new) (pool.held new) ≡ without_alone at c (joined s h)
    given_holds next l is =
        ap (λ t. joined t (pool.held new)) is ∙ ap (joined (record (with_slot_given p k s) { next = next })) same
        ∙ (λ i. record (joined s h) {
          owner = λ q. given_owner next q i;
          counts = record ((joined s h).counts) {
            class_pages = λ d. (links_pages h.pages (with_slot_given p k s) next d
                ∙ same_pages h.pages s p c (s.live p - 1) page_in some of_class (put_bit p k false s.bit) d) i;
            slots = λ d. (links_slots h.pages (with_slot_given p k s) next d ∙ given_slots l d) i;
          };
        })
