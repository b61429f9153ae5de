-- What the private calls on unique blocks say to their caller.
use Rattle.std.proofs.Common.{◌≡◌, ℕ, ◌+◌, ◌-◌, ◌*◌, ◌/◌, ◌<◌, ◌≤◌, true, false, List, nat_eq, sym, ap, subst, ◌∙◌, arith}
use Rattle.std.specs.Prelude.{slice_index, slice_set}
use Rattle.std.proofs.lemmas.Bool.Decides.{nat_tests}
use Rattle.arena_laws.specs.Counts.{class_of, is_full}
use Rattle.arena_laws.specs.Holdings.{Holdings}
use Rattle.region_runtime.specs.Pool.{Pooled, is_taken, word_of}
use Rattle.region_runtime.specs.Pool as pool
use Rattle.region_runtime.specs.Touches.{used_after}
use Rattle.region_runtime.specs.Calls.{IsGot, IsNotGot}
use Rattle.unique_blocks.specs.Slots.{AreSlots, address_of, bit_of, place_of, slots_by, with_cut, with_next, with_slot_given, with_slot_taken}
use Rattle.unique_blocks.specs.Blocks.{IsSound, joined}
use Rattle.unique_blocks.specs.Calls.{IsBeside, IsFirstVacant, IsKept, IsOpened, IsSlotGiven, IsSlotTaken, IsUnopened, slots_of}
use Rattle.region_runtime.proofs.Words.{index_at}
use Rattle.unique_blocks.proofs.Vacant.{class_some}
use Rattle.unique_blocks.proofs.Counted.{needs, spare}
use Rattle.unique_blocks.proofs.Steps.{class_page, class_taken, opened_holds, opened_sound}
use Rattle.unique_blocks.proofs.Taken.{full_sound, left_sound, live_small, of_class, page_in, slot_in}
use Rattle.unique_blocks.proofs.Given as given
use Rattle.unique_blocks.proofs.Places.{ends}
use Rattle.unique_blocks.proofs.Turned.{given_holds, given_was, taken_holds, taken_lawful}

pub kept_beside : (old new : Pooled) (heads changed : List ℕ) (m n : ℕ) → IsKept old new →
    IsBeside (record { pool = old; heads = heads; touched = m }) (record { pool = new; heads = changed; touched = n })
kept_beside old new heads changed m n k = record { tags = k.tags; bytes = k.bytes }

-- soundness where only words of taken pages changed
pub sound_kept : (old new : Pooled) (heads : List ℕ) → pool.held new ≡ pool.held old → AreSlots (pool.held old).pages heads (slots_of new) →
    AreSlots (pool.held new).pages heads (slots_of new)
sound_kept old new heads e a = subst (λ h. AreSlots (let h : Holdings = h in h.pages) heads (slots_of new)) (sym e) a

-- ---- a page is opened

module _ (old : Pooled) (heads : List ℕ) (c : ℕ) (sound : IsSound (record { pool = old; heads = heads; touched = 0 })) (class : class_of c ≡ c)
    (few : place_of c < 8) where
  module _ (empty : slice_index heads (place_of c) ≡ 0) where
    pub record OpenSays (m n : ℕ) (got new : Pooled) (p place : ℕ) : Type 0 where
      pub small : p < 4096
      pub whole : IsSound (record { pool = new; heads = slice_set heads place (p + 1); touched = 0 })
      pub told : IsOpened (record { pool = old; heads = heads; touched = m }) (record { pool = new; heads = slice_set heads place (p + 1); touched = n }) c

    pub got_small : (got : Pooled) (p : ℕ) → IsGot old got p → p < 4096
    got_small got p g = let w = g.within in let f = sound.pages_few in omega (arith, w, f)

    pub open_says : (m n : ℕ) (got new : Pooled) (p : ℕ) → IsGot old got p → IsKept got new → slots_of new ≡ with_cut p c (slots_of got) →
        false ≡ is_full (pool.held old).counts → pool.tag_of got ≡ pool.tag_of old → pool.byte_at got ≡ pool.byte_at old →
        got.ever_used ≡ used_after true (pool.held old) old.ever_used → OpenSays m n got new p (place_of c)
    open_says m n got new p g k is f tags bytes fresh = record {
      small = got_small got p g;
      whole = opened_sound old got new heads c p sound class few empty g k is;
      told = record {
        needed = needs (pool.held old).pages heads (slots_of old) sound c class few empty;
        free = sym f;
        holds = opened_holds old got new heads c p sound class few empty g k is;
        begins = subst (λ n. 0 < n) (sym (index_at heads (place_of c) (p + 1) (place_of c) (let l = sound.long in omega (arith, l, few)) (grind (
          arith,
          nat_tests,
        )))) (omega arith);
        beside = record {
          tags = k.tags ∙ tags;
          bytes = k.bytes ∙ bytes;
        };
        fresh = k.fresh ∙ fresh;
      };
    }

    pub unopened_says : (m n : ℕ) (got : Pooled) → IsNotGot old got → true ≡ is_full (pool.held old).counts → pool.tag_of got ≡ pool.tag_of old →
        pool.byte_at got ≡ pool.byte_at old → got.ever_used ≡ old.ever_used → IsUnopened (record { pool = old; heads = heads; touched = m }) (record {
          pool = got;
          heads = heads;
          touched = n;
        }) c
    unopened_says m n got g f tags bytes fresh = record {
      needed = needs (pool.held old).pages heads (slots_of old) sound c class few empty;
      full = sym f;
      holds = ap (λ w. joined (slots_by w) (pool.held got)) g.words ∙ ap (joined (slots_of old)) g.holds;
      beside = record { tags = tags; bytes = bytes };
      fresh = fresh;
    }

  -- ---- a slot is taken
  module _ (begins : 0 < slice_index heads (place_of c)) where
    abbrev pages : ℕ
    pages = (pool.held old).pages

    class_word : word_of old (slice_index heads (place_of c) - 1) 4 ≡ c
    class_word = of_class pages heads (slots_of old) sound c class few begins

    some : 0 < c
    some = let i = (class_some c class).some in omega (arith, i)

    pub record TakeNeeds (page : ℕ) : Type 0 where
      pub taken : is_taken old page ≡ true
      pub live_few : word_of old page 9 < 128
      pub small : page < 4096

    pub take_needs : TakeNeeds (slice_index heads (place_of c) - 1)
    take_needs = record {
      taken = class_taken old (slice_index heads (place_of c) - 1) (let e = class_word in let l = some in omega (arith, e, l));
      live_few = live_small pages heads (slots_of old) sound c class few begins;
      small = (let l = page_in pages heads (slots_of old) sound c class few begins in let f = sound.pages_few in omega (arith, l, f));
    }

    module _ (k : ℕ) (first : IsFirstVacant (bit_of (word_of old) (slice_index heads (place_of c) - 1)) k) where
      low : k < 4096 / c
      low = slot_in pages heads (slots_of old) sound c class few begins k first

      pub slot_few : k < 128
      slot_few = let l = low in let f = (class_some c class).few in omega (arith, l, f)

      pub slot_small : k * c + c ≤ 4096
      slot_small = ends (slots_of old) (slice_index heads (place_of c) - 1) c k (class_some c class) class_word low

      vacant : bit_of (word_of old) (slice_index heads (place_of c) - 1) k ≡ false
      vacant = first.vacant slot_few

      module _ (new : Pooled) (kept : IsKept old new) (is : slots_of new ≡ with_slot_taken (slice_index heads (place_of c) - 1) k (slots_of old)) where
        pub take_says : (m n : ℕ) (changed : List ℕ) →
            IsSlotTaken (record { pool = old; heads = heads; touched = m }) (record { pool = new; heads = changed; touched = n }) c
            (address_of (slice_index heads (place_of c) - 1) c k)
        take_says m n changed =
            let p = slice_index heads (place_of c) - 1 in
            let s = spare pages heads (slots_of old) sound c class few begins in
            record {
              spare = s;
              lawful = taken_lawful old new p c k (class_some c class) class_word low kept.holds vacant;
              holds = taken_holds old new p c k (class_some c class) class_word low kept.holds vacant s is;
              beside = kept_beside old new heads changed m n kept;
              fresh = kept.fresh;
            }

        pub left : nat_eq (word_of old (slice_index heads (place_of c) - 1) 9 + 1) (4096 / c) ≡ false
            → IsSound (record { pool = new; heads = heads; touched = 0 })
        left e =
            sound_kept old new heads kept.holds (subst (λ t. AreSlots pages heads t) (sym is) (left_sound pages heads (slots_of old) sound c class few begins k
            low vacant e))

        pub filled : (next : ℕ) → next ≡ word_of new (slice_index heads (place_of c) - 1) 10 →
            nat_eq (word_of old (slice_index heads (place_of c) - 1) 9 + 1) (4096 / c) ≡ true →
            IsSound (record { pool = new; heads = slice_set heads (place_of c) next; touched = 0 })
        filled next n e =
            let p = slice_index heads (place_of c) - 1 in
            let same : next ≡ word_of old p 10 = n ∙ ap (λ t. t.next p) is in
            sound_kept old new (slice_set heads (place_of c) next) kept.holds
            (subst (λ x. AreSlots pages (slice_set heads (place_of c) x) (slots_of new)) (sym same)
            (subst (λ t. AreSlots pages (slice_set heads (place_of c) (word_of old p 10)) t) (sym is)
            (full_sound pages heads (slots_of old) sound c class few begins k low vacant e)))

-- ---- a slot is given back

module _ (old : Pooled) (heads : List ℕ) (p c k : ℕ) (sound : IsSound (record { pool = old; heads = heads; touched = 0 })) (class_word : word_of old p 4 ≡ c)
    (some : 0 < c) (few : place_of c < 8) (low : k < 4096 / c) (live : bit_of (word_of old) p k ≡ true) where
  abbrev all : ℕ
  all = (pool.held old).pages

  class : class_of c ≡ c
  class = given.class all heads (slots_of old) sound c p k class_word some few low live

  pub record GiveNeeds : Type 0 where
    pub taken : is_taken old p ≡ true
    pub any : 0 < word_of old p 9
    pub slot : k < 128
    pub small : p < 4096

  pub give_needs : GiveNeeds
  give_needs = record {
    taken = class_taken old p (omega (arith, class_word, some));
    any = given.live_some all heads (slots_of old) sound c p k class_word some few low live;
    slot = (let f = (class_some c class).few in omega (arith, low, f));
    small = (let l = class_page old p (omega (arith, class_word, some)) in let f = sound.pages_few in omega (arith, l, f));
  }

  -- the page had a vacant slot before
  module _ (new : Pooled) (kept : IsKept old new) (is : slots_of new ≡ with_slot_given p k (slots_of old))
      (n : nat_eq (word_of old p 9) (4096 / c) ≡ false) where
    pub more : IsSound (record { pool = new; heads = heads; touched = 0 })
    more =
        sound_kept old new heads kept.holds (subst (λ t. AreSlots all heads t) (sym is) (given.more_sound all heads (slots_of old) sound c p k class_word some
        few low live n))

    pub more_says : (m r : ℕ) →
        IsSlotGiven (record { pool = old; heads = heads; touched = m }) (record { pool = new; heads = heads; touched = r }) c (address_of p c k)
    more_says m r = record {
      was = given_was old new p c k (class_some c class) class_word low kept.holds live;
      holds = given_holds old new p c k (class_some c class) class_word low kept.holds live (slots_of old).next give_needs.any is;
      beside = kept_beside old new heads heads m r kept;
      fresh = kept.fresh;
    }

  -- the page was full
  module _ (mid new : Pooled) (kept : IsKept old mid) (linked : IsKept mid new) (is_mid : slots_of mid ≡ with_slot_given p k (slots_of old))
      (is : slots_of new ≡ with_next p (slice_index heads (place_of c)) (slots_of mid)) (n : nat_eq (word_of old p 9) (4096 / c) ≡ true) where
    is_new : slots_of new ≡ with_next p (slice_index heads (place_of c)) (with_slot_given p k (slots_of old))
    is_new = is ∙ ap (with_next p (slice_index heads (place_of c))) is_mid

    both : IsKept old new
    both = record {
      holds = linked.holds ∙ kept.holds;
      tags = linked.tags ∙ kept.tags;
      taken = linked.taken ∙ kept.taken;
      bytes = linked.bytes ∙ kept.bytes;
      fresh = linked.fresh ∙ kept.fresh;
    }

    pub back : IsSound (record { pool = new; heads = slice_set heads (place_of c) (p + 1); touched = 0 })
    back =
        sound_kept old new (slice_set heads (place_of c) (p + 1)) both.holds (subst (λ t. AreSlots all (slice_set heads (place_of c) (p + 1)) t) (sym is_new)
        (given.back_sound all heads (slots_of old) sound c p k class_word some few low live n))

    pub back_says : (m r : ℕ) → IsSlotGiven (record { pool = old; heads = heads; touched = m }) (record {
      pool = new;
      heads = slice_set heads (place_of c) (p + 1);
      touched = r;
    }) c (address_of p c k)
    back_says m r = record {
      was = given_was old new p c k (class_some c class) class_word low both.holds live;
      holds = given_holds old new p c k (class_some c class) class_word low both.holds live
          (with_next p (slice_index heads (place_of c)) (slots_of old)).next give_needs.any is_new;
      beside = kept_beside old new heads (slice_set heads (place_of c) (p + 1)) m r both;
      fresh = both.fresh;
    }
