-- Whose an address is, as it is read from the tables.
use Rattle.std.proofs.Common.{◌≡◌, ℕ, ◌+◌, ◌-◌, ◌*◌, ◌/◌, ◌%◌, ◌<◌, ◌≤◌, true, false, length, Some, None, nat_eq, nat_lt, refl, sym, ap, ◌∙◌, arith, get_or}
use Rattle.std.specs.Prelude.{slice_index, if◌then◌else◌}
use Rattle.std.proofs.lemmas.List.{get_or_read}
use Rattle.std.proofs.lemmas.Bool.Decides.{nat_tests}
use Rattle.std.proofs.lemmas.Grind.{common_steps}
use Rattle.arena_laws.specs.declared.owner.Owner.TheVariants.{Region, Alone}
use Rattle.arena_laws.specs.Holdings.{arena_base}
use Rattle.arena_laws.specs.Classes.{IsClass}
use Rattle.unique_blocks.proofs.Places.{slot_within}
use Rattle.cyc_arena.specs.Plain.{Plain, IsSound, address_of, owner_in, owner_at, page_at, place_at}
use Rattle.cyc_arena.proofs.Owners.{owner_nobody, owner_region, owner_class, owner_below, owner_there}

pub seen_below : (s : Plain) (q : ℕ) → q < arena_base → None ≡ owner_at s.owner s.used s.slots q
seen_below s q l = sym (owner_below s.owner s.used s.slots q (grind (arith, nat_tests)))

pub seen_above : (s : Plain) (q : ℕ) → IsSound s → arena_base ≤ q → length s.owner ≤ page_at q → None ≡ owner_at s.owner s.used s.slots q
seen_above s q sound b l =
    let out : slice_index s.owner (page_at q) ≡ 0 = grind (arith, nat_tests, common_steps) in
    sym (owner_there s.owner s.used s.slots q (page_at q) 0 (slice_index s.used (page_at q)) (grind (arith, nat_tests)) (grind (arith, nat_tests)) out refl
    ∙ owner_nobody (slice_index s.used (page_at q)) (page_at q) (place_at q) s.slots)

module _ (s : Plain) (q word : ℕ) (sound : IsSound s) (base : arena_base ≤ q) (page : page_at q < length s.owner) (read : word ≡ get_or s.owner
    (page_at q) word) where
  word_is : slice_index s.owner (page_at q) ≡ word
  word_is = sym (get_or_read s.owner (page_at q) word page read 0)

  seen : owner_at s.owner s.used s.slots q ≡ owner_in word (slice_index s.used (page_at q)) (page_at q) (place_at q) s.slots
  seen = owner_there s.owner s.used s.slots q (page_at q) word (slice_index s.used (page_at q)) (grind (arith, nat_tests)) (grind
      (arith, nat_tests)) word_is refl

  pub seen_nobody : word ≡ 0 → None ≡ owner_at s.owner s.used s.slots q
  seen_nobody e = sym (seen ∙ ap (λ w. owner_in w (slice_index s.used (page_at q)) (page_at q) (place_at q) s.slots) e
      ∙ owner_nobody (slice_index s.used (page_at q)) (page_at q) (place_at q) s.slots)

  odd : word % 2 ≡ 1 → word ≡ 2 * (word / 2) + 1
  odd e = omega (arith, e)

  seen_part : word % 2 ≡ 1 → owner_at s.owner s.used s.slots q ≡ (if nat_lt (place_at q) (slice_index s.used (page_at q)) then Some (Region
      (word / 2)) else None)
  seen_part e =
      seen ∙ ap (λ w. owner_in w (slice_index s.used (page_at q)) (page_at q) (place_at q) s.slots) (odd e)
      ∙ owner_region (word / 2) (slice_index s.used (page_at q)) (page_at q) (place_at q) s.slots

  used_is : (u : ℕ) → u ≡ get_or s.used (page_at q) u → slice_index s.used (page_at q) ≡ u
  used_is u e = sym (get_or_read s.used (page_at q) u (let n = sound.used_long in omega (arith, page, n)) e 0)

  pub seen_region : word % 2 ≡ 1 → (u : ℕ) → u ≡ get_or s.used (page_at q) u → place_at q < u → Some (Region (word / 2)) ≡ owner_at s.owner s.used s.slots q
  seen_region e u d l =
      let i = used_is u d in let t : nat_lt (place_at q) (slice_index s.used (page_at q)) ≡ true = grind (arith, nat_tests) in
      sym (seen_part e ∙ ap (λ b. if b then Some (Region (word / 2)) else None) t)

  pub seen_waste : word % 2 ≡ 1 → (u : ℕ) → u ≡ get_or s.used (page_at q) u → u ≤ place_at q → None ≡ owner_at s.owner s.used s.slots q
  seen_waste e u d l =
      let i = used_is u d in let t : nat_lt (place_at q) (slice_index s.used (page_at q)) ≡ false = grind (arith, nat_tests) in
      sym (seen_part e ∙ ap (λ b. if b then Some (Region (word / 2)) else None) t)

  even : (word ≡ 0 → ⊥) → (word % 2 ≡ 1 → ⊥) → word ≡ 2 * (word / 2 - 1) + 2
  even z e = omega (arith, z, e)

  pub seen_class : (word ≡ 0 → ⊥) → (word % 2 ≡ 1 → ⊥) → IsClass (word / 2 - 1)
  seen_class z e = sound.classes (page_at q) (word / 2 - 1) (word_is ∙ even z e)

  pub seen_place : (word ≡ 0 → ⊥) → (word % 2 ≡ 1 → ⊥) → 128 * page_at q + place_at q / (word / 2 - 1) < length s.slots
  seen_place z e =
      let class = seen_class z e in let l = slot_within (word / 2 - 1) (place_at q) class (omega arith) in let f = class.few in let n = sound.slots_long in
      omega (arith, l, f, n, page)

  seen_slot : (word ≡ 0 → ⊥) → (word % 2 ≡ 1 → ⊥) → owner_at s.owner s.used s.slots q
      ≡ (if nat_eq (slice_index s.slots (128 * page_at q + place_at q / (word / 2 - 1))) (2 * (word / 2 - 1) + 1)
      then Some (Alone (address_of (page_at q) (place_at q / (word / 2 - 1) * (word / 2 - 1))) (word / 2 - 1)) else None)
  seen_slot z e =
      seen ∙ ap (λ w. owner_in w (slice_index s.used (page_at q)) (page_at q) (place_at q) s.slots) (even z e)
      ∙ owner_class (word / 2 - 1) (slice_index s.used (page_at q)) (page_at q) (place_at q) s.slots

  pub seen_alone : (z : word ≡ 0 → ⊥) (e : word % 2 ≡ 1 → ⊥) (x : ℕ) → x ≡ get_or s.slots (128 * page_at q + place_at q / (word / 2 - 1)) x →
      x ≡ 2 * (word / 2 - 1) + 1 →
      Some (Alone (address_of (page_at q) (place_at q / (word / 2 - 1) * (word / 2 - 1))) (word / 2 - 1)) ≡ owner_at s.owner s.used s.slots q
  seen_alone z e x d same =
      let i = get_or_read s.slots (128 * page_at q + place_at q / (word / 2 - 1)) x (seen_place z e) d 0 in
      let t : nat_eq (slice_index s.slots (128 * page_at q + place_at q / (word / 2 - 1))) (2 * (word / 2 - 1) + 1) ≡ true = grind (arith, nat_tests) in
      sym (seen_slot z e ∙ ap (λ b. if b then Some (Alone (address_of (page_at q) (place_at q / (word / 2 - 1) * (word / 2 - 1))) (word / 2 - 1)) else None) t)

  pub seen_vacant : (z : word ≡ 0 → ⊥) (e : word % 2 ≡ 1 → ⊥) (x : ℕ) → x ≡ get_or s.slots (128 * page_at q + place_at q / (word / 2 - 1)) x →
      (x ≡ 2 * (word / 2 - 1) + 1 → ⊥) →
      None ≡ owner_at s.owner s.used s.slots q
  seen_vacant z e x d other =
      let i = get_or_read s.slots (128 * page_at q + place_at q / (word / 2 - 1)) x (seen_place z e) d 0 in
      let t : nat_eq (slice_index s.slots (128 * page_at q + place_at q / (word / 2 - 1))) (2 * (word / 2 - 1) + 1) ≡ false = grind (arith, nat_tests) in
      sym (seen_slot z e ∙ ap (λ b. if b then Some (Alone (address_of (page_at q) (place_at q / (word / 2 - 1) * (word / 2 - 1))) (word / 2 - 1)) else None) t)
