-- A unique block is freed: its slot is vacant again.
use Rattle.std.proofs.Common.{
  ◌≡◌,
  ℕ,
  ◌+◌,
  ◌-◌,
  ◌*◌,
  ◌/◌,
  ◌%◌,
  ◌<◌,
  ◌≤◌,
  Bool,
  true,
  false,
  List,
  length,
  Option,
  Some,
  None,
  Ok,
  nat_eq,
  nat_lt,
  refl,
  sym,
  ap,
  subst,
  ◌∙◌,
  arith,
  length-set,
}
use Rattle.std.specs.Prelude.{slice_index, slice_set, ◌&&◌, if◌then◌else◌}
use Rattle.std.proofs.lemmas.Bool.Decides.{nat_tests}
use Rattle.arena_laws.specs.declared.owner.Owner.{Owner}
use Rattle.arena_laws.specs.declared.owner.Owner.TheVariants.{Region, Alone}
use Rattle.arena_laws.specs.Classes.{IsClass}
use Rattle.arena_laws.specs.Counts.{put, without_slot}
use Rattle.arena_laws.specs.Holdings.{arena_base}
use Rattle.arena_laws.specs.Lawful.{frees_alone, is_alone, unique_free, without_alone}
use Rattle.arena_laws.specs.Laws.{Does}
use Rattle.cyc_arena.specs.Plain.{Plain, IsSound, IsInPage, count_of, address_of, owner_in, owner_at, page_at, place_at, counts_of, holdings_of}
use Rattle.region_runtime.proofs.Words.{index_at, index_else, index_set}
use Rattle.cyc_arena.proofs.Words.{count_set}
use Rattle.cyc_arena.proofs.Owners.{owner_below, owner_here}
use Rattle.unique_blocks.proofs.Places.{slot_ends, slot_within}
use Rattle.cyc_arena.proofs.Slots.{LiesIn, lies_in, only_slot, hit, miss, slot_in}

-- ---- a unique block's address, read backwards

pub record IsLiveSlot (w p o : ℕ) (slots : List ℕ) (b c : ℕ) : Type 0 where
  pub word : w ≡ 2 * c + 2
  pub slot : slice_index slots (128 * p + o / c) ≡ 2 * c + 1
  pub begins : b ≡ address_of p (o / c * c)

alone_in : (w u p o : ℕ) (slots : List ℕ) (b c : ℕ) → owner_in w u p o slots ≡ Some (Alone b c) → IsLiveSlot w p o slots b c
unfolding owner_in
alone_in w u p o slots b c h = by_zero (nat_eq w 0) refl h
  where
    by_use : (t : Bool) → (if t then Some (Region (w / 2)) else None) ≡ Some (Alone b c) → IsLiveSlot w p o slots b c
    by_use true e = absurd (cc)
    by_use false e = absurd (cc)

    by_slot : (t : Bool) → nat_eq w 0 ≡ false → nat_eq (w % 2) 1 ≡ false → nat_eq (slice_index slots (128 * p + o / (w / 2 - 1))) (2 * (w / 2 - 1) + 1) ≡ t →
        (if t then Some (Alone (address_of p (o / (w / 2 - 1) * (w / 2 - 1))) (w / 2 - 1)) else None) ≡ Some (Alone b c) → IsLiveSlot w p o slots b c
    by_slot true z d s e =
        let number : w / 2 - 1 ≡ c = cc in
        let begin : address_of p (o / (w / 2 - 1) * (w / 2 - 1)) ≡ b = cc in
        subst (λ c. IsLiveSlot w p o slots b c) number (record { word = grind (arith, nat_tests); slot = grind (arith, nat_tests); begins = sym begin })
    by_slot false z d s e = absurd (cc)

    by_odd : (t : Bool) → nat_eq w 0 ≡ false → nat_eq (w % 2) 1 ≡ t → (if t then (if nat_lt o u then Some (Region (w / 2)) else None) else
        let c = w / 2 - 1 in if nat_eq (slice_index slots (128 * p + o / c)) (2 * c + 1) then Some (Alone (address_of p (o / c * c)) c) else None) ≡ Some
        (Alone b c) →
        IsLiveSlot w p o slots b c
    by_odd true z d e = by_use (nat_lt o u) e
    by_odd false z d e = by_slot (nat_eq (slice_index slots (128 * p + o / (w / 2 - 1))) (2 * (w / 2 - 1) + 1)) z d refl e

    by_zero : (t : Bool) → nat_eq w 0 ≡ t → (if t then None else if nat_eq (w % 2) 1 then (if nat_lt o u then Some (Region (w / 2)) else None) else
        let c = w / 2 - 1 in if nat_eq (slice_index slots (128 * p + o / c)) (2 * c + 1) then Some (Alone (address_of p (o / c * c)) c) else None) ≡ Some
        (Alone b c) →
        IsLiveSlot w p o slots b c
    by_zero true z e = absurd (cc)
    by_zero false z e = by_odd (nat_eq (w % 2) 1) z refl e

pub record IsLiveAt (s : Plain) (q b c : ℕ) : Type 0 where
  pub above : nat_lt q arena_base ≡ false
  pub live : IsLiveSlot (slice_index s.owner (page_at q)) (page_at q) (place_at q) s.slots b c

pub alone_at : (s : Plain) (q b c : ℕ) → owner_at s.owner s.used s.slots q ≡ Some (Alone b c) → IsLiveAt s q b c
alone_at s q b c h = by_base (nat_lt q arena_base) refl
  where
    by_base : (t : Bool) → nat_lt q arena_base ≡ t → IsLiveAt s q b c
    by_base true e = let n = owner_below s.owner s.used s.slots q e in absurd (cc)
    by_base false e =
        record {
          above = e;
          live = alone_in (slice_index s.owner (page_at q)) (slice_index s.used (page_at q)) (page_at q) (place_at q) s.slots b c (sym
              (owner_here s.owner s.used s.slots q e) ∙ h);
        }

no_both : (e f : Bool) → e ≡ true → f ≡ true → (e && f) ≡ false → ⊥
no_both true true u v n = cc
no_both true false u v n = cc
no_both false f u v n = cc

module _ (s : Plain) (from c : ℕ) (sound : IsSound s) (alone : owner_at s.owner s.used s.slots from ≡ Some (Alone from c)) where
  here : IsLiveAt s from from c
  here = alone_at s from from c alone

  -- the block's slot
  abbrev pub place : ℕ
  place = 128 * ((from - arena_base) / 4096) + (from - arena_base) % 4096 / c

  class : IsClass c
  class = sound.classes (page_at from) c here.live.word

  in_page : IsInPage s.owner place c
  in_page = sound.live place c here.live.slot

  place_in : place < length s.slots
  place_in = slot_in s place c sound in_page

  abbrev pub after : Plain
  after = record s { slots = slice_set s.slots place (2 * c + 2) }

  freed_counts : counts_of s.ever_used s.owner s.used s.last after.slots ≡ without_slot c (counts_of s.ever_used s.owner s.used s.last s.slots)
  unfolding counts_of
  freed_counts =
      let k = counts_of s.ever_used s.owner s.used s.last s.slots in
      let each : (d : ℕ) → count_of (2 * d + 1) after.slots ≡ put c (count_of (2 * c + 1) s.slots - 1) (λ d. count_of (2 * d + 1) s.slots) d =
      (λ d. let n = count_set (2 * d + 1) s.slots place (2 * c + 2) place_in in let v = here.live.slot in grind (arith, nat_tests)) in
      λ i. record k { slots = λ d. each d i }

  slot_low : (from - arena_base) % 4096 / c < 128
  slot_low = let l = slot_within c (place_at from) class (omega arith) in let f = class.few in omega (arith, l, f)

  page_is : place / 128 ≡ page_at from
  page_is = let l = slot_low in omega (arith, l)

  slot_is : place % 128 ≡ place_at from / c
  slot_is = let l = slot_low in omega (arith, l)

  -- the slot begins at the block's address
  at_is : arena_base + 4096 * (place / 128) + place % 128 * c ≡ from
  at_is = let a = ap (λ k. k * c) slot_is in let b = page_is in let e = here.live.begins in omega (arith, a, b, e)

  -- no other address is of this block
  only : (e f : Bool) (q : ℕ) → nat_eq (page_at q) (place / 128) ≡ e → nat_eq (place_at q / c) (place % 128) ≡ f → (e && f) ≡ false →
      (o : Option Owner) → owner_at s.owner s.used s.slots q ≡ o → is_alone from o ≡ false
  only e f q d g n None h = refl
  only e f q d g n (Some (Region r)) h = refl
  only e f q d g n (Some (Alone b m)) h = by_begin (nat_eq b from) refl
    where
      there : IsLiveAt s q b m
      there = alone_at s q b m h

      lies : LiesIn m (place_at q / m) (place_at q)
      lies = lies_in m (place_at q) (sound.classes (page_at q) m there.live.word).some

      own : LiesIn c (place_at from / c) (place_at from)
      own = lies_in c (place_at from) class.some

      same_page : b ≡ from → page_at q ≡ page_at from
      same_page k =
          let x = there.live.begins in let y = here.live.begins in let l = lies.from in let m = own.from in
          omega (arith, k, x, y, l, m)

      same_number : b ≡ from → m ≡ c
      same_number k = let w = sym there.live.word ∙ ap (slice_index s.owner) (same_page k) ∙ here.live.word in omega (arith, w)

      same_slot : b ≡ from → place_at q / c ≡ place_at from / c
      same_slot k =
          let x = there.live.begins in let y = here.live.begins in let p = same_page k in
          let z : place_at q / m * m ≡ place_at from / c * c = omega (arith, k, x, y, p) in
          only_slot c (place_at from / c) (place_at q) class.some
          (subst (λ m. LiesIn m (place_at q / m) (place_at q) → place_at q / m * m ≡ place_at from / c * c →
          LiesIn c (place_at from / c) (place_at q)) (sym (same_number k))
          (λ l z. record { from = (let f = l.from in omega (arith, f, z)); to = (let t = l.to in omega (arith, t, z)) }) lies z)

      by_begin : (t : Bool) → nat_eq b from ≡ t → t ≡ false
      by_begin false k = refl
      by_begin true k =
          let begin : b ≡ from = grind (arith, nat_tests) in
          let p = same_page begin in let l = same_slot begin in let x = page_is in let y = slot_is in
          let yes_page : nat_eq (page_at q) (place / 128) ≡ true = grind (arith, nat_tests) in
          let yes_slot : nat_eq (place_at q / c) (place % 128) ≡ true = grind (arith, nat_tests) in
          absurd (let u : e ≡ true = sym d ∙ yes_page in let v : f ≡ true = sym g ∙ yes_slot in no_both e f u v n)

  kept : (q : ℕ) → is_alone from (owner_at s.owner s.used s.slots q) ≡ false → owner_at s.owner s.used after.slots q ≡ owner_at s.owner s.used s.slots q →
      owner_at s.owner s.used after.slots q ≡ (if is_alone from (owner_at s.owner s.used s.slots q) then None else owner_at s.owner s.used s.slots q)
  kept q n e = e ∙ ap (λ t. if t then None else owner_at s.owner s.used s.slots q) (sym n)

  freed_by : (b e f : Bool) (q : ℕ) → nat_lt q arena_base ≡ b → nat_eq (page_at q) (place / 128) ≡ e → nat_eq (place_at q / c) (place % 128) ≡ f →
      owner_at s.owner s.used after.slots q ≡ (if is_alone from (owner_at s.owner s.used s.slots q) then None else owner_at s.owner s.used s.slots q)
  freed_by true e f q b d g =
      owner_below s.owner s.used after.slots q b ∙ ap (λ o. if is_alone from o then None else o) (sym (owner_below s.owner s.used s.slots q b))
  freed_by false true true q b d g =
      let same : nat_eq (arena_base + 4096 * (place / 128) + place % 128 * c) from ≡ true = (let a = at_is in grind (arith, nat_tests)) in
      let live : nat_eq (2 * c + 1) (2 * c + 1) ≡ true = grind (arith, nat_tests) in
      let vacant : nat_eq (2 * c + 2) (2 * c + 1) ≡ false = grind (arith, nat_tests) in
      let was = hit s place c sound in_page s.slots (2 * c + 1) q here.live.slot b d g
      ∙ ap (λ t. if t then Some (Alone (arena_base + 4096 * (place / 128) + place % 128 * c) c) else None) live in
      hit s place c sound in_page after.slots (2 * c + 2) q (index_at s.slots place (2 * c + 2) place place_in (grind (arith, nat_tests))) b d g
      ∙ ap (λ t. if t then Some (Alone (arena_base + 4096 * (place / 128) + place % 128 * c) c) else None) vacant
      ∙ ap (λ t. if t then None else Some (Alone (arena_base + 4096 * (place / 128) + place % 128 * c) c)) (sym same)
      ∙ ap (λ o. if is_alone from o then None else o) (sym was)
  freed_by false true false q b d g =
      kept q (only true false q d g refl (owner_at s.owner s.used s.slots q) refl) (miss s place c sound in_page after.slots (λ k n. index_else s.slots place
      (2 * c + 2) k n) true false q b d g refl)
  freed_by false false f q b d g =
      kept q (only false f q d g refl (owner_at s.owner s.used s.slots q) refl) (miss s place c sound in_page after.slots (λ k n. index_else s.slots place
      (2 * c + 2) k n) false f q b d g refl)

  freed_holds : holdings_of after ≡ without_alone from c (holdings_of s)
  freed_holds = λ i. record (holdings_of s) {
    owner = λ q. freed_by (nat_lt q arena_base) (nat_eq (page_at q) (place / 128)) (nat_eq (place_at q / c)
        (place % 128)) q refl refl refl i;
    counts = freed_counts i;
  }

  pub freed_does : Does (Ok 0) (holdings_of after) (unique_free from (holdings_of s))
  freed_does =
      let same : nat_eq from from ≡ true = grind (arith, nat_tests) in
      subst (λ o. Does (Ok 0) (holdings_of after) (frees_alone from o (holdings_of s))) (sym alone) (rw same (record { says = refl; holds = freed_holds }))

  capacity_kept : (k : ℕ) → count_of (2 * k + 1) after.slots + count_of (2 * k + 2) after.slots ≡ count_of (2 * k + 1) s.slots + count_of (2 * k + 2) s.slots
  capacity_kept k =
      let n = count_set (2 * k + 1) s.slots place (2 * c + 2) place_in in let m = count_set (2 * k + 2) s.slots place (2 * c + 2) place_in in
      let v = here.live.slot in
      grind (arith, nat_tests)

  pub freed_sound : IsSound after
  freed_sound = record {
    payload = sound.payload;
    used_long = sound.used_long;
    last_long = sound.last_long;
    standing_long = sound.standing_long;
    slots_long = length-set s.slots place (2 * c + 2) ∙ sound.slots_long;
    few = sound.few;
    begun = sound.begun;
    unused = sound.unused;
    rounded = sound.rounded;
    within = sound.within;
    heap = sound.heap;
    known = sound.known;
    headed = sound.headed;
    lived = sound.lived;
    ended = sound.ended;
    classes = sound.classes;
    live = λ k d l. sound.live k d (let i = index_set s.slots place (2 * c + 2) k place_in in grind (arith, nat_tests));
    vacant = λ k d l. vacant_by (nat_eq k place) k d refl l;
    capacity = λ k. capacity_kept k ∙ sound.capacity k;
  }
    where
      vacant_by : (b : Bool) (k d : ℕ) → nat_eq k place ≡ b → slice_index after.slots k ≡ 2 * d + 2 → IsInPage s.owner k d
      vacant_by true k d e l =
          let i = index_at s.slots place (2 * c + 2) k place_in e in
          let same : place ≡ k = grind (arith, nat_tests) in
          let number : c ≡ d = omega (arith, i, l) in
          subst (λ n. IsInPage s.owner n d) same (subst (λ n. IsInPage s.owner place n) number in_page)
      vacant_by false k d e l = sound.vacant k d (sym (index_else s.slots place (2 * c + 2) k e) ∙ l)

  -- the numbers of the slot, for the code
  pub record IsSlotOf : Type 0 where
    pub above : arena_base ≤ from
    pub some : 0 < c
    pub low : c ≤ 4096
    pub slot : place < length s.slots

  pub slot_of : IsSlotOf
  slot_of =
      let a = here.above in let f = class.some in let w = class.whole in
      record {
        above = grind (arith, nat_tests);
        some = omega (arith, f);
        low = (let e = slot_ends c (place % 128) class in_page.place in
            omega (arith, e));
        slot = place_in;
      }
