-- What is known of births, objects and numbers, when a function is entered and when a frame's regions end.
use Rattle.std.specs.Prelude.{nat_lt, if◌then◌else◌}
use Rattle.std.proofs.Common.{◌≡◌, ℕ, ◌+◌, ◌<◌, ⊎_elim, Bool, true, false, Option, Some, None, refl, sym, ap, ◌∙◌, subst, arith}
use Rattle.std.proofs.lemmas.Bool.{ltb-true, eqb-true, ne_eqb, or_cases}
use Rattle.arena_laws.specs.declared.standing.Standing.{Standing as Tag}
use Rattle.arena_laws.specs.declared.standing.Standing.TheVariants as tag
use Rattle.core_meaning.specs.Memory.{Region, Frame, Own, Born, Standing, Live, Single, Dead, Spot, Part, Memory, same_region, with_standing}
use Rattle.core_meaning.specs.Operations.{too_far, lies_at, reaches}
use Rattle.core_lines.specs.Machines.{Store}
use Rattle.core_lines.specs.Lies.{Maps, Known, TagOf}
use Rattle.core_meaning.proofs.Spots.{region_same}

-- a region of a frame, and not one that was born
abbrev pub IsOfFrame : Region → Type 0
IsOfFrame (Frame k) = Unit {0}
IsOfFrame (Own k) = Unit {0}
IsOfFrame (Born d) = ⊥

born_other : (d : ℕ) (r : Region) → IsOfFrame r → same_region (Born d) r ≡ false
born_other d (Frame k) i = refl
born_other d (Own k) i = refl
born_other d (Born e) i = absurd i

-- a number never stands for a unique block
pub not_single : (x : Tag) (now : Standing) → TagOf x now → now ≡ Single → ⊥
not_single tag.Lexical now is e = absurd (cc (is, e))
not_single tag.Opened now is e = absurd (cc (is, e))
not_single tag.Closed now is e = absurd (cc (is, e))

-- nor for what is dead
pub not_dead : (x : Tag) (now : Standing) → TagOf x now → now ≡ Dead → ⊥
not_dead tag.Lexical now is e = absurd (cc (is, e))
not_dead tag.Opened now is e = absurd (cc (is, e))
not_dead tag.Closed now is e = absurd (cc (is, e))

-- a pointer that goes so far goes less than too far: so does what a part lies at
pub reaches_near : (m : Maps) (mem : Memory) (st : Store) (s : Spot) (b : ℕ) → Known m mem st → reaches mem s b ≡ true → b < too_far
reaches_near m mem st s b k reach = ⊎_elim
    (λ (near : nat_lt b too_far ≡ true). ltb-true b too_far near)
    (λ (lies : lies_at (mem.parts s 0) b ≡ true). by (mem.parts s 0) refl lies)
    (or_cases (nat_lt b too_far) (lies_at (mem.parts s 0) b) reach)
  where
    by : (found : Option Part) → mem.parts s 0 ≡ found → lies_at found b ≡ true → b < too_far
    by None is lies = cc lies
    by (Some p) is lies = subst (λ k. k < too_far) (eqb-true p.offset b lies) (k.near s 0 p is)

-- it ends
pub known_death : (m : Maps) (mem : Memory) (st : Store) (r : Region) → IsOfFrame r → Known m mem st → Known m (with_standing mem r Dead) st
known_death m mem st r frame k = record {
  births = k.births;
  heap = born 0 ∙ k.heap;
  no_zero = k.no_zero;
  held = λ h x e. let held = k.held h x e in record {
    known = held.known;
    stands = subst (λ (t : Standing). TagOf x t)
        (sym (born (st.ledger.birth_of h))) held.stands;
  };
  numbered = λ d h e alive. k.numbered d h e (λ dead. alive (born d ∙ dead));
  zero_is_heap = k.zero_is_heap;
  heap_is_zero = k.heap_is_zero;
  single = λ d o at is e. k.single d o at (sym (born d) ∙ is) e;
  made = k.made;
  near = k.near;
  low = k.low;
  unmade = k.unmade;
  unborn = λ d le. let u = k.unborn d le in (born d ∙ u.0, u.1, u.2);
  unentered = λ q le. let u = k.unentered q le in (dead_still (Frame q) u.0, u.1);
  uncalled = λ q le. let u = k.uncalled q le in (dead_still (Own q) u.0, u.1);
}
  where
    born : (d : ℕ) → (with_standing mem r Dead).standing (Born d) ≡ mem.standing (Born d)
    born d = ap (λ c. if c then Dead else mem.standing (Born d)) (born_other d r frame)

    dead_still : (q : Region) → mem.standing q ≡ Dead → (with_standing mem r Dead).standing q ≡ Dead
    dead_still q e = by (same_region q r)
      where
        by : (c : Bool) → (if c then Dead else mem.standing q) ≡ Dead
        by true = refl
        by false = e

-- a region of a frame begins, with no object yet: its parts are none
pub no_parts : (m : Maps) (mem : Memory) (st : Store) (r : Region) → mem.objects r ≡ 0 → Known m mem st → (s : Spot) (j : ℕ) (p : Part)
    → same_region s.region r ≡ true
    → mem.parts s j ≡ Some p → ⊥
no_parts m mem st r none k s j p same has =
    let is = region_same s.region r same in
    let zero_objects : mem.objects s.region ≡ 0 = ap (λ q. mem.objects q) is ∙ none in
    let made = k.made s j p has in
    omega (arith, made, zero_objects)

other_still : (mem : Memory) (q r : Region) → same_region q r ≡ false → (with_standing mem r Live).standing q ≡ mem.standing q
other_still mem q r e = ap (λ c. if c then Live else mem.standing q) e

pub known_called : (m : Maps) (mem : Memory) (st : Store) → Known m mem st → Known m
    (record (with_standing mem (Own mem.calls) Live) { calls = mem.calls + 1 }) st
known_called m mem st k = record {
  births = k.births;
  heap = k.heap;
  no_zero = k.no_zero;
  held = λ h x e. let held = k.held h x e in record { known = held.known; stands = held.stands };
  numbered = k.numbered;
  zero_is_heap = k.zero_is_heap;
  heap_is_zero = k.heap_is_zero;
  single = k.single;
  made = k.made;
  near = k.near;
  low = k.low;
  unmade = k.unmade;
  unborn = k.unborn;
  unentered = k.unentered;
  uncalled = λ q le.
      let u = k.uncalled q (omega (arith, le)) in
      (other_still mem (Own q) (Own mem.calls) (ne_eqb q mem.calls (λ e. omega (arith, e, le))) ∙ u.0, u.1);
}

pub known_block : (m : Maps) (mem : Memory) (st : Store) → Known m mem st
    → Known m (record (with_standing mem (Frame mem.activations) Live) { activations = mem.activations + 1 }) st
known_block m mem st k = record {
  births = k.births;
  heap = k.heap;
  no_zero = k.no_zero;
  held = λ h x e. let held = k.held h x e in record { known = held.known; stands = held.stands };
  numbered = k.numbered;
  zero_is_heap = k.zero_is_heap;
  heap_is_zero = k.heap_is_zero;
  single = k.single;
  made = k.made;
  near = k.near;
  low = k.low;
  unmade = k.unmade;
  unborn = k.unborn;
  unentered = λ q le.
      let u = k.unentered q (omega (arith, le)) in
      (other_still mem (Frame q) (Frame mem.activations) (ne_eqb q mem.activations (λ e. omega (arith, e, le))) ∙ u.0, u.1);
  uncalled = k.uncalled;
}
