-- A unique block is asked for or freed: what is said.
use Rattle.std.proofs.Common.{◌≡◌, ℕ, ◌+◌, ◌/◌, ◌%◌, ◌<◌, ◌≤◌, Bool, true, false, List, Option, Some, None, Ok, Err, nat_eq, nat_lt, refl, sym, ap, subst, ◌∙◌}
use Rattle.std.proofs.Common.{arith}
use Rattle.std.specs.Prelude.{◌&&◌, if◌then◌else◌}
use Rattle.std.proofs.lemmas.Nat.{div-add-mod'}
use Rattle.std.proofs.lemmas.Bool.Decides.{nat_tests}
use Rattle.arena_laws.specs.declared.owner.Owner.{Owner}
use Rattle.arena_laws.specs.declared.owner.Owner.TheVariants.{Region, Alone}
use Rattle.arena_laws.specs.declared.refusal.StoreRefusal.TheVariants.{NotABlock}
use Rattle.arena_laws.specs.Counts.{Counts, put, class_of, is_full, is_full_for_slot, slot_needs_page, with_slot, is_too_long_alone, one_less}
use Rattle.arena_laws.specs.Holdings.{Holdings, arena_base, is_some}
use Rattle.arena_laws.specs.Lawful.{Grants, frees_alone, is_alone, is_lawful_room, with_alone}
use Rattle.arena_laws.specs.Laws.{Does, unique_alloc}
use Rattle.region_runtime.specs.Pool.{Pooled, page_at, place_at, word_of}
use Rattle.region_runtime.specs.Pool as pool
use Rattle.unique_blocks.specs.Slots.{Slots, AreSlots, address_of, alone_at, alone_if, bit_of}
use Rattle.unique_blocks.specs.Blocks.{Slotted, either_owner, held, joined}
use Rattle.unique_blocks.specs.Calls.{IsOpened, IsSlotTaken, slots_of, with_page_of}
use Rattle.unique_blocks.proofs.Places.{alone_below, alone_cut, alone_uncut, slot_within}
use Rattle.unique_blocks.proofs.Vacant.{class_some}
use Rattle.unique_blocks.proofs.Steps.{pool_alone}

-- ---- a block is asked for

module _ (h : Holdings) (bytes : ℕ) where
  pub short : bytes ≤ 4096 → is_too_long_alone bytes ≡ false
  short l = grind (arith, nat_tests)

  -- what says that a slot can be had
  pub not_full : is_too_long_alone bytes ≡ false → (slot_needs_page (class_of bytes) h.counts && is_full h.counts) ≡ false →
      is_full_for_slot bytes h.counts ≡ false
  not_full l f = rw (l, f) refl

  pub granted : (at : ℕ) → is_too_long_alone bytes ≡ false → (slot_needs_page (class_of bytes) h.counts && is_full h.counts) ≡ false →
      is_lawful_room h at (class_of bytes) ≡ true → (after : Holdings) → after ≡ with_alone at (class_of bytes) h →
      Does (Ok at) after (unique_alloc bytes (Grants at) h)
  granted at l f r after e = rw (l, f, r) (record { says = refl; holds = e })

-- a slot on a page that was cut for it
pub after_cut : (h : Holdings) (c at : ℕ) → slot_needs_page c h.counts ≡ true → slot_needs_page c (with_page_of c h).counts ≡ false →
    with_alone at c (with_page_of c h) ≡ with_alone at c h
after_cut h c at n s = ap (λ k. record (with_alone at c h) { counts = k }) (spare s ∙ sym (needs n))
  where
    needs : slot_needs_page c h.counts ≡ true → with_slot c h.counts ≡ record (one_less h.counts) {
      class_pages = put c (h.counts.class_pages c + 1) h.counts.class_pages;
      slots = put c (h.counts.slots c + 1) h.counts.slots;
    }
    needs n = rw n refl

    spare : slot_needs_page c (with_page_of c h).counts ≡ false → with_slot c (with_page_of c h).counts ≡ record (one_less h.counts) {
      class_pages = put c (h.counts.class_pages c + 1) h.counts.class_pages;
      slots = put c (h.counts.slots c + 1) h.counts.slots;
    }
    spare s =
        ap (λ t. let k : Counts = (with_page_of c h).counts in if t then record (one_less k) {
          class_pages = put c (k.class_pages c + 1) k.class_pages;
          slots = put c (k.slots c + 1) k.slots;
        } else record k { slots = put c (k.slots c + 1) k.slots }) s

-- ---- a block is freed

pub none_freed : (at : ℕ) (o : Option Owner) (h after : Holdings) → is_alone at o ≡ false → after ≡ h → Does (Err NotABlock) after (frees_alone at o h)
none_freed at None h after e f = record { says = refl; holds = f }
none_freed at (Some (Region r)) h after e f = record { says = refl; holds = f }
none_freed at (Some (Alone b room)) h after e f = rw e (record { says = refl; holds = f })

module _ (p : Pooled) (at : ℕ) where
  abbrev s : Slots
  s = slots_of p

  -- no unique block begins at the address
  pub no_block : is_alone at (alone_at s at) ≡ false → is_alone at ((joined s (pool.held p)).owner at) ≡ false
  no_block e = by_owner ((pool.held p).owner at) (pool_alone p at at)
    where
      by_owner : (o : Option Owner) → is_alone at o ≡ false → is_alone at (either_owner o (alone_at s at)) ≡ false
      by_owner None f = e
      by_owner (Some x) f = f

  pub below_none : at < arena_base → alone_at s at ≡ None
  below_none l = alone_below s at (grind (arith, nat_tests))

  module _ (above : arena_base ≤ at) where
    base : nat_lt at arena_base ≡ false
    base = let l = above in grind (arith, nat_tests)

    pub uncut_none : word_of p (page_at at) 4 ≡ 0 → alone_at s at ≡ None
    uncut_none z = alone_uncut s at base z

    module _ (c : ℕ) (is : word_of p (page_at at) 4 ≡ c) (some : 0 < c) where
      pub in_slot : alone_at s at ≡ alone_if (bit_of (word_of p) (page_at at) (place_at at / c)) (address_of (page_at at) c (place_at at / c)) c
      in_slot = alone_cut s (page_at at) c at is some base (grind (arith, nat_tests))

      pub in_slot_live : (b : Bool) → b ≡ bit_of (word_of p) (page_at at) (place_at at / c) → b ≡ is_some (alone_at s at)
      in_slot_live b e = e ∙ some_if (bit_of (word_of p) (page_at at) (place_at at / c)) ∙ sym (ap is_some in_slot)
        where
          some_if : (t : Bool) → t ≡ is_some (alone_if t (address_of (page_at at) c (place_at at / c)) c)
          some_if true = refl
          some_if false = refl

      pub vacant_none : bit_of (word_of p) (page_at at) (place_at at / c) ≡ false → alone_at s at ≡ None
      vacant_none b = in_slot ∙ ap (λ t. alone_if t (address_of (page_at at) c (place_at at / c)) c) b

      -- a slot begins at its first address alone
      pub inside_none : (place_at at % c ≡ 0 → ⊥) → is_alone at (alone_at s at) ≡ false
      inside_none n = ap (is_alone at) in_slot ∙ by_live (bit_of (word_of p) (page_at at) (place_at at / c))
        where
          by_live : (t : Bool) → is_alone at (alone_if t (address_of (page_at at) c (place_at at / c)) c) ≡ false
          by_live true = begins (nat_eq (address_of (page_at at) c (place_at at / c)) at) refl
            where
              begins : (t : Bool) → nat_eq (address_of (page_at at) c (place_at at / c)) at ≡ t → t ≡ false
              begins false e = refl
              begins true e =
                  absurd (n (let d = div-add-mod' (place_at at) c in
                  let a : address_of (page_at at) c (place_at at / c) ≡ at = grind (arith, nat_tests) in let l = above in omega (arith, d, a, l)))
          by_live false = refl

      pub begins_at : place_at at % c ≡ 0 → address_of (page_at at) c (place_at at / c) ≡ at
      begins_at e = let d = div-add-mod' (place_at at) c in let l = above in omega (arith, d, e, l)

-- ---- a block that was asked for

pub alloc_spare : (old new : Slotted) (bytes c at : ℕ) → bytes ≤ 4096 → c ≡ class_of bytes → IsSlotTaken old new c at →
    Does (Ok at) (held new) (unique_alloc bytes (Grants at) (held old))
alloc_spare old new bytes c at l e t =
    let t' : IsSlotTaken old new (class_of bytes) at = subst (λ c. IsSlotTaken old new c at) e t in
    granted (held old) bytes at (short (held old) bytes l) (ap (λ b. b && is_full (held old).counts) t'.spare) t'.lawful (held new) t'.holds

pub alloc_opened : (old mid new : Slotted) (bytes c at : ℕ) → bytes ≤ 4096 → c ≡ class_of bytes → IsOpened old mid c → IsSlotTaken mid new c at →
    Does (Ok at) (held new) (unique_alloc bytes (Grants at) (held old))
alloc_opened old mid new bytes c at l e o t =
    let k = class_of bytes in
    let o' : IsOpened old mid k = subst (λ c. IsOpened old mid c) e o in
    let t' : IsSlotTaken mid new k at = subst (λ c. IsSlotTaken mid new c at) e t in
    let spare : slot_needs_page k (with_page_of k (held old)).counts ≡ false =
    ap (λ h. let h : Holdings = h in slot_needs_page k h.counts) (sym o'.holds) ∙ t'.spare in
    let lawful : is_lawful_room (with_page_of k (held old)) at k ≡ true = ap (λ h. is_lawful_room h at k) (sym o'.holds) ∙ t'.lawful in
    granted (held old) bytes at (short (held old) bytes l) (and_false (slot_needs_page k (held old).counts) o'.free) lawful (held new)
    (t'.holds ∙ ap (with_alone at k) o'.holds ∙ after_cut (held old) k at o'.needed spare)
  where
    and_false : (b : Bool) → is_full (held old).counts ≡ false → (b && is_full (held old).counts) ≡ false
    and_false true f = f
    and_false false f = refl

-- ---- the slot of an address

pub record IsLow (k c : ℕ) : Type 0 where
  pub low : k < 4096 / c
  pub few : k < 128

pub slot_low : (p : Pooled) (heads : List ℕ) (at c : ℕ) → AreSlots (pool.held p).pages heads (slots_of p) → word_of p (page_at at) 4 ≡ c → 0 < c →
    IsLow (place_at at / c) c
slot_low p heads at c sound is some =
    let class = class_some c (subst (λ c. class_of c ≡ c) is (sound.classes (page_at at) (omega (arith, is, some)))) in
    let l = slot_within c (place_at at) class (omega arith) in let f = class.few in
    record { low = l; few = omega (arith, l, f) }
