-- Whose the addresses of a page are that is cut into slots.
use Rattle.std.proofs.Common.{◌≡◌, ℕ, ◌+◌, ◌-◌, ◌*◌, ◌/◌, ◌%◌, ◌<◌, ◌≤◌, Bool, true, false, None, nat_eq, nat_lt, refl, sym, ap, subst, ◌∙◌, arith}
use Rattle.std.specs.Prelude.{◌&&◌, if◌then◌else◌}
use Rattle.std.proofs.Math.Nat.{mul-le-mul_right}
use Rattle.std.proofs.lemmas.Nat.{div-mul-add, div-add-mod'}
use Rattle.std.proofs.lemmas.Bool.Decides.{nat_tests}
use Rattle.arena_laws.specs.Classes.{IsClass}
use Rattle.arena_laws.specs.Holdings.{arena_base}
use Rattle.arena_laws.specs.Lawful.{is_alone, is_in_room}
use Rattle.region_runtime.specs.Pool.{page_at, place_at}
use Rattle.unique_blocks.specs.Slots.{Slots, address_of, alone_at, alone_if, alone_in, put_bit}

-- ---- places of a page in slots of c bytes

-- a place lies in its slot
pub record LiesIn (c k o : ℕ) : Type 0 where
  pub from : k * c ≤ o
  pub to : o < k * c + c

pub lies_in : (c o : ℕ) → 0 < c → LiesIn c (o / c) o
lies_in c o l = let e = div-add-mod' o c in let m : o % c < c = omega (arith, l) in record { from = omega (arith, e); to = omega (arith, e, m) }

-- and in no other
pub only_slot : (c k o : ℕ) → LiesIn c k o → o / c ≡ k
only_slot c k o i =
    let f = i.from in let t = i.to in
    let e : k * c + (o - k * c) ≡ o = omega (arith, f) in
    subst (λ n. n / c ≡ k) e (div-mul-add k c (o - k * c) (omega (arith, f, t)))

-- a slot ends inside its page
pub slot_ends : (c k : ℕ) → IsClass c → k < 4096 / c → k * c + c ≤ 4096
slot_ends c k class l =
    let w = class.whole in let m = mul-le-mul_right {m = k + 1} {n = 4096 / c} c (omega (arith, l)) in omega (arith, w, m)

-- ---- an address

pub alone_below : (s : Slots) (q : ℕ) → nat_lt q arena_base ≡ true → alone_at s q ≡ None
unfolding alone_at
alone_below s q e = rw e refl

pub alone_here : (s : Slots) (q : ℕ) → nat_lt q arena_base ≡ false → alone_at s q ≡ alone_in (s.class (page_at q)) (s.bit (page_at q)) (page_at q) (place_at q)
unfolding alone_at
alone_here s q e = rw e refl

-- in a page that isn't cut
pub alone_uncut : (s : Slots) (q : ℕ) → nat_lt q arena_base ≡ false → s.class (page_at q) ≡ 0 → alone_at s q ≡ None
alone_uncut s q e z =
    let n : nat_eq (s.class (page_at q)) 0 ≡ true = grind (arith, nat_tests) in
    alone_here s q e ∙ ap (λ t. if t then None else alone_if (s.bit (page_at q) (place_at q / s.class (page_at q))) (address_of (page_at q) (s.class
    (page_at q))
    (place_at q / s.class (page_at q))) (s.class (page_at q))) n

-- in a page of the class c
pub alone_cut : (s : Slots) (p c q : ℕ) → s.class p ≡ c → 0 < c → nat_lt q arena_base ≡ false → nat_eq (page_at q) p ≡ true →
    alone_at s q ≡ alone_if (s.bit p (place_at q / c)) (address_of p c (place_at q / c)) c
alone_cut s p c q is some e f =
    let same : page_at q ≡ p = grind (arith, nat_tests) in
    let n : nat_eq c 0 ≡ false = grind (arith, nat_tests) in
    alone_here s q e ∙ ap (λ p. alone_in (s.class p) (s.bit p) p (place_at q)) same ∙ ap (λ c. alone_in c (s.bit p) p (place_at q)) is
    ∙ ap (λ t. if t then None else alone_if (s.bit p (place_at q / c)) (address_of p c (place_at q / c)) c) n

module _ (s : Slots) (p c k : ℕ) (class : IsClass c) (of_class : s.class p ≡ c) (low : k < 4096 / c) where
  abbrev pub at : ℕ
  at = address_of p c k

  some : 0 < c
  some = let l = class.some in omega (arith, l)

  pub ends : k * c + c ≤ 4096
  ends = slot_ends c k class low

  pub eight : at % 8 ≡ 0
  eight =
      let n = class.eights in let d : c ≡ 8 * (c / 8) = omega (arith, n) in
      let m : k * c ≡ k * (8 * (c / 8)) = ap (λ x. k * x) d in omega (arith, m)

  pub at_place : place_at at ≡ k * c
  at_place = let l = ends in let m = some in omega (arith, l, m)

  hit_room : (q : ℕ) → nat_lt q arena_base ≡ false → nat_eq (page_at q) p ≡ true → nat_eq (place_at q / c) k ≡ true → is_in_room at c q ≡ true
  hit_room q b e f =
      let same : place_at q / c ≡ k = grind (arith, nat_tests) in
      let i = lies_in c (place_at q) some in
      let from : k * c ≤ place_at q = subst (λ k. k * c ≤ place_at q) same i.from in
      let to : place_at q < k * c + c = subst (λ k. place_at q < k * c + c) same i.to in
      grind (arith, nat_tests)

  miss_page : (q : ℕ) → nat_lt q arena_base ≡ false → nat_eq (page_at q) p ≡ false → is_in_room at c q ≡ false
  miss_page q b e = let l = ends in grind (arith, nat_tests)

  miss_slot : (q : ℕ) → nat_lt q arena_base ≡ false → nat_eq (page_at q) p ≡ true → nat_eq (place_at q / c) k ≡ false → is_in_room at c q ≡ false
  miss_slot q b e f = by_room (is_in_room at c q) refl
    where
      by_room : (t : Bool) → is_in_room at c q ≡ t → t ≡ false
      by_room false r = refl
      by_room true r =
          let l = ends in
          let same = only_slot c k (place_at q) (record { from = grind (arith, nat_tests); to = grind (arith, nat_tests) }) in
          absurd (grind (arith, nat_tests))

  -- an address of the slot
  hit : (t : Slots) → t.class p ≡ c → (q : ℕ) → nat_lt q arena_base ≡ false → nat_eq (page_at q) p ≡ true → nat_eq (place_at q / c) k ≡ true →
      alone_at t q ≡ alone_if (t.bit p k) at c
  hit t is q b e f =
      let same : place_at q / c ≡ k = grind (arith, nat_tests) in
      alone_cut t p c q is some b e ∙ ap (λ k. alone_if (t.bit p k) (address_of p c k) c) same

  -- an address elsewhere, where another slot's bit may differ from what it was by slot k of page p
  miss : (bit : ℕ → ℕ → Bool) → ((q j : ℕ) → (nat_eq q p && nat_eq j k) ≡ false → bit q j ≡ s.bit q j) → (q : ℕ) → nat_lt q arena_base ≡ false →
      (nat_eq (page_at q) p && nat_eq (place_at q / c) k) ≡ false → alone_at (record s { bit = bit }) q ≡ alone_at s q
  miss bit others q b n = by_page (nat_eq (page_at q) p) refl n
    where
      by_page : (t : Bool) → nat_eq (page_at q) p ≡ t → (t && nat_eq (place_at q / c) k) ≡ false → alone_at (record s { bit = bit }) q ≡ alone_at s q
      by_page true e n =
          let same : p ≡ page_at q = grind (arith, nat_tests) in
          let own : nat_eq p p ≡ true = grind (arith, nat_tests) in
          alone_cut (record s { bit = bit }) p c q of_class some b e ∙ ap (λ t. alone_if t (address_of p c (place_at q / c)) c)
          (others p (place_at q / c) (rw own n)) ∙ sym (alone_cut s p c q of_class some b e)
      by_page false e n =
          alone_here (record s { bit = bit }) q b
          ∙ (λ i. alone_in (s.class (page_at q)) (λ j. others (page_at q) j (rw e refl) i) (page_at q) (place_at q)) ∙ sym (alone_here s q b)

  -- ---- the slot as it is

  pub slot_owner : (q : ℕ) → is_in_room at c q ≡ true → alone_at s q ≡ alone_if (s.bit p k) at c
  slot_owner q r = by_page (nat_lt q arena_base) (nat_eq (page_at q) p) (nat_eq (place_at q / c) k) refl refl refl
    where
      by_page : (b e f : Bool) → nat_lt q arena_base ≡ b → nat_eq (page_at q) p ≡ e → nat_eq (place_at q / c) k ≡ f → alone_at s q ≡ alone_if (s.bit p k) at c
      by_page true e f l m n = absurd (grind (arith, nat_tests))
      by_page false true true l m n = hit s of_class q l m n
      by_page false true false l m n = absurd (let x = sym r ∙ miss_slot q l m n in cc)
      by_page false false f l m n = absurd (let x = sym r ∙ miss_page q l m in cc)

  -- ---- its bit is set

  -- an address after the bit of the slot is b
  pub bit_owner : (live : Bool) (q : ℕ) → alone_at (record s { bit = put_bit p k live s.bit }) q ≡
      (if is_in_room at c q then alone_if live at c else alone_at s q)
  bit_owner live q = by_page (nat_lt q arena_base) (nat_eq (page_at q) p) (nat_eq (place_at q / c) k) refl refl refl
    where
      by_page : (b e f : Bool) → nat_lt q arena_base ≡ b → nat_eq (page_at q) p ≡ e → nat_eq (place_at q / c) k ≡ f →
          alone_at (record s { bit = put_bit p k live s.bit }) q ≡ (if is_in_room at c q then alone_if live at c else alone_at s q)
      by_page true e f l m n =
          let out : is_in_room at c q ≡ false = grind (arith, nat_tests) in
          alone_below (record s { bit = put_bit p k live s.bit }) q l ∙ sym (alone_below s q l)
          ∙ ap (λ t. if t then alone_if live at c else alone_at s q) (sym out)
      by_page false true true l m n =
          let own : nat_eq p p ≡ true = grind (arith, nat_tests) in let own_slot : nat_eq k k ≡ true = grind (arith, nat_tests) in
          let set : put_bit p k live s.bit p k ≡ live = (rw (own, own_slot) refl) in
          hit (record s { bit = put_bit p k live s.bit }) of_class q l m n ∙ ap (λ t. alone_if t at c) set
          ∙ ap (λ t. if t then alone_if live at c else alone_at s q) (sym (hit_room q l m n))
      by_page false true false l m n =
          miss (put_bit p k live s.bit) (λ q j d. rw d refl) q l (rw (m, n) refl)
          ∙ ap (λ t. if t then alone_if live at c else alone_at s q) (sym (miss_slot q l m n))
      by_page false false f l m n =
          miss (put_bit p k live s.bit) (λ q j d. rw d refl) q l (rw m refl)
          ∙ ap (λ t. if t then alone_if live at c else alone_at s q) (sym (miss_page q l m))

-- only the classes and the bits tell whose an address is
pub alone_same : (s t : Slots) → t.class ≡ s.class → t.bit ≡ s.bit → (q : ℕ) → alone_at t q ≡ alone_at s q
unfolding alone_at
alone_same s t c b q = λ i. if nat_lt q arena_base then None else alone_in (c i (page_at q)) (b i (page_at q)) (page_at q) (place_at q)

-- no other address is of the block that begins at a slot
module _ (s : Slots) (p c k : ℕ) (class : IsClass c) (of_class : s.class p ≡ c) (low : k < 4096 / c) where
  begins_elsewhere : (q d : ℕ) → s.class (page_at q) ≡ d → 0 < d → nat_lt q arena_base ≡ false → is_in_room (address_of p c k) c q ≡ false → (t : Bool) →
      nat_eq (address_of (page_at q) d (place_at q / d)) (address_of p c k) ≡ t → t ≡ false
  begins_elsewhere q d is l b r false e = refl
  begins_elsewhere q d is l b r true e =
      let begin : address_of (page_at q) d (place_at q / d) ≡ address_of p c k = grind (arith, nat_tests) in
      let i = lies_in d (place_at q) l in let f = i.from in let g = i.to in
      let n = ends s p c k class of_class low in let m = class.some in
      let same_page : page_at q ≡ p = omega (arith, begin, f, n, m) in
      let same_class : d ≡ c = sym is ∙ ap s.class same_page ∙ of_class in
      let same_slot : place_at q / d * d ≡ k * c = omega (arith, begin, same_page) in
      let there : is_in_room (address_of p c k) c q ≡ true = inside same_page same_slot same_class f g in
      absurd (let x = sym r ∙ there in cc)
    where
      inside : page_at q ≡ p → place_at q / d * d ≡ k * c → d ≡ c → place_at q / d * d ≤ place_at q → place_at q < place_at q / d * d + d →
          is_in_room (address_of p c k) c q ≡ true
      inside x y z f g =
          let from : address_of p c k ≤ q = (let a = b in let w : arena_base ≤ q = grind (arith, nat_tests) in omega (arith, x, y, f, w)) in
          let to : q < address_of p c k + c = (let w : arena_base ≤ q = grind (arith, nat_tests) in omega (arith, x, y, z, g, w)) in
          grind (arith, nat_tests)

  pub only_at : (q : ℕ) → is_in_room (address_of p c k) c q ≡ false → is_alone (address_of p c k) (alone_at s q) ≡ false
  only_at q r = by_base (nat_lt q arena_base) refl
    where
      by_live : (live : Bool) → nat_eq (s.class (page_at q)) 0 ≡ false → nat_lt q arena_base ≡ false →
          is_alone (address_of p c k) (alone_if live (address_of (page_at q) (s.class (page_at q)) (place_at q / s.class (page_at q))) (s.class (page_at q)))
          ≡ false
      by_live true e b = begins_elsewhere q (s.class (page_at q)) refl (grind (arith, nat_tests)) b r (nat_eq (address_of (page_at q) (s.class (page_at q))
          (place_at q / s.class (page_at q))) (address_of p c k)) refl
      by_live false e b = refl

      by_class : (t : Bool) → nat_eq (s.class (page_at q)) 0 ≡ t → nat_lt q arena_base ≡ false → is_alone (address_of p c k) (if t then None else alone_if
          (s.bit (page_at q) (place_at q / s.class (page_at q))) (address_of (page_at q) (s.class (page_at q)) (place_at q / s.class (page_at q)))
          (s.class (page_at q))) ≡ false
      by_class true e b = refl
      by_class false e b = by_live (s.bit (page_at q) (place_at q / s.class (page_at q))) e b

      by_base : (t : Bool) → nat_lt q arena_base ≡ t → is_alone (address_of p c k) (alone_at s q) ≡ false
      by_base true b = ap (is_alone (address_of p c k)) (alone_below s q b)
      by_base false b = ap (is_alone (address_of p c k)) (alone_here s q b) ∙ by_class (nat_eq (s.class (page_at q)) 0) refl b

-- a place of a page is in one of its slots
pub slot_within : (c o : ℕ) → IsClass c → o < 4096 → o / c < 4096 / c
slot_within c o class l = by_low (nat_lt (o / c) (4096 / c)) refl
  where
    by_low : (t : Bool) → nat_lt (o / c) (4096 / c) ≡ t → o / c < 4096 / c
    by_low true e = grind (arith, nat_tests)
    by_low false e =
        let m = mul-le-mul_right {m = 4096 / c} {n = o / c} c (grind (arith, nat_tests)) in
        let i = (lies_in c o (let s = class.some in omega (arith, s))).from in let w = class.whole in absurd (omega (arith, m, i, w, l))
