-- What a pool's unique blocks are after a page is opened, a slot taken or given back.
use Rattle.std.proofs.Common.{◌≡◌, ℕ, ◌+◌, ◌/◌, ◌%◌, ◌<◌, Bool, true, false, Option, Some, None, List, nat_eq, nat_lt, refl, sym, ap, subst, ◌∙◌, arith}
use Rattle.std.specs.Prelude.{slice_index, slice_set, ◌&&◌, if◌then◌else◌}
use Rattle.std.specs.Int.{bit_at}
use Rattle.std.proofs.lemmas.Bool.Decides.{nat_tests}
use Rattle.arena_laws.specs.declared.owner.Owner.TheVariants.{Region}
use Rattle.arena_laws.specs.Counts.{put, class_of, one_less}
use Rattle.arena_laws.specs.Holdings.{arena_base, is_none}
use Rattle.arena_laws.specs.Lawful.{is_alone, is_of}
use Rattle.region_runtime.specs.Headers.{holder_of, used_of, word_in}
use Rattle.region_runtime.specs.Pool.{Pooled, AreApart, is_free_field, owned, owner_at, is_taken, page_at, place_at, word_by, word_of}
use Rattle.region_runtime.specs.Pool as pool
use Rattle.region_runtime.specs.Calls.{IsGot}
use Rattle.region_runtime.proofs.Along.{apart}
use Rattle.region_runtime.proofs.Words.{taken_page}
use Rattle.unique_blocks.specs.Slots.{Slots, AreSlots, address_of, alone_at, alone_if, alone_in, bit_of, pages_of_class, place_of, with_cut}
use Rattle.unique_blocks.specs.Blocks.{either_owner, joined}
use Rattle.unique_blocks.specs.Calls.{IsKept, slots_of}
use Rattle.unique_blocks.proofs.Vacant.{class_some}
use Rattle.unique_blocks.proofs.Places.{alone_below, alone_here, alone_uncut, alone_cut, at}
use Rattle.unique_blocks.proofs.Chained.{cut_sound}
use Rattle.unique_blocks.proofs.Counted.{cut_pages, cut_slots}

-- ---- pages with a class are taken

pub class_taken : (p : Pooled) (page : ℕ) → 0 < word_of p page 4 → is_taken p page ≡ true
unfolding word_by
class_taken p page l = by_taken (is_taken p page) refl
  where
    by_taken : (t : Bool) → is_taken p page ≡ t → t ≡ true
    by_taken true e = refl
    by_taken false e =
        absurd (let z : word_of p page 4 ≡ 0 = (rw e refl) in omega (arith, z, l))

pub untaken_class : (p : Pooled) (page : ℕ) → is_taken p page ≡ false → word_of p page 4 ≡ 0
unfolding word_by
untaken_class p page e = rw e refl

-- so they are among the pool's, and no address of them is a region's
pub class_page : (p : Pooled) (page : ℕ) → 0 < word_of p page 4 → page < (pool.held p).pages
class_page p page l = taken_page p.words page (class_taken p page l)

pub class_apart : (p : Pooled) (q : ℕ) → nat_lt q arena_base ≡ false → 0 < word_of p (page_at q) 4 → (pool.held p).owner q ≡ None
class_apart p q b l = (apart p).unowned q (grind (arith, nat_tests)) (class_taken p (page_at q) l)

-- an address isn't of a region and of a unique block
pub owned_apart : (p : Pooled) (q : ℕ) → is_none ((pool.held p).owner q) ≡ false → alone_at (slots_of p) q ≡ None
owned_apart p q o = by_base (nat_lt q arena_base) (nat_eq (word_of p (page_at q) 4) 0) refl refl
  where
    by_base : (t u : Bool) → nat_lt q arena_base ≡ t → nat_eq (word_of p (page_at q) 4) 0 ≡ u → alone_at (slots_of p) q ≡ None
    by_base true u b z = alone_below (slots_of p) q b
    by_base false true b z = alone_uncut (slots_of p) q b (grind (arith, nat_tests))
    by_base false false b z =
        absurd (let n : is_none ((pool.held p).owner q) ≡ true = ap is_none (class_apart p q b (grind (arith, nat_tests))) in
        let x = sym n ∙ o in cc)

-- no unique block is a region's
pub alone_of_none : (s : Slots) (q r : ℕ) → is_of r (alone_at s q) ≡ false
unfolding alone_at
alone_of_none s q r = by_base (nat_lt q arena_base)
  where
    by_live : (t : Bool) → is_of r (alone_if t (address_of (page_at q) (s.class (page_at q)) (place_at q / s.class (page_at q))) (s.class (page_at q))) ≡ false
    by_live true = refl
    by_live false = refl

    by_cut : (t : Bool) → is_of r (if t then None else alone_if (s.bit (page_at q) (place_at q / s.class (page_at q))) (address_of (page_at q)
        (s.class (page_at q)) (place_at q / s.class (page_at q))) (s.class (page_at q))) ≡ false
    by_cut true = refl
    by_cut false = by_live (s.bit (page_at q) (place_at q / s.class (page_at q)))

    by_base : (t : Bool) → is_of r (if t then None else alone_in (s.class (page_at q)) (s.bit (page_at q)) (page_at q) (place_at q)) ≡ false
    by_base true = refl
    by_base false = by_cut (nat_eq (s.class (page_at q)) 0)

-- no region's block is a unique one
pub pool_alone : (p : Pooled) (at q : ℕ) → is_alone at ((pool.held p).owner q) ≡ false
unfolding owner_at
pool_alone p at q = by_base (nat_lt q arena_base)
  where
    by_used : (g : ℕ) (t : Bool) → is_alone at (if t then Some (Region g) else None) ≡ false
    by_used g true = refl
    by_used g false = refl

    by_holder : (o : Option ℕ) (t : Bool) → is_alone at (owned o t) ≡ false
    by_holder None t = refl
    by_holder (Some g) t = by_used g t

    by_base : (t : Bool) → is_alone at (if t then None else owned (holder_of (word_in p.words) (page_at q)) (nat_lt (place_at q) (used_of (word_in p.words)
        (page_at q)))) ≡ false
    by_base true = refl
    by_base false = by_holder (holder_of (word_in p.words) (page_at q)) (nat_lt (place_at q) (used_of (word_in p.words) (page_at q)))

-- ---- a page is opened

module _ (old got new : Pooled) (heads : List ℕ) (c p : ℕ) (sound : AreSlots (pool.held old).pages heads (slots_of old)) (class : class_of c ≡ c)
    (few : place_of c < 8) (empty : slice_index heads (place_of c) ≡ 0) (is_got : IsGot old got p) (kept : IsKept got new)
    (is_cut : slots_of new ≡ with_cut p c (slots_of got)) where
  abbrev s : Slots
  s = slots_of old

  some : 0 < c
  some = let i = (class_some c class).some in omega (arith, i)

  fresh : s.class p ≡ 0
  fresh = untaken_class old p is_got.fresh

  own : nat_eq p p ≡ true
  own = grind (arith, nat_tests)

  put_by : (q : ℕ) (t : Bool) → nat_eq q p ≡ t → (x : ℕ) (f : ℕ) → (if t then x else word_of got q f) ≡ (if t then x else word_of old q f)
  put_by q true e x f = refl
  put_by q false e x f = is_got.words q f e

  bit_by : (q k : ℕ) (t : Bool) → nat_eq q p ≡ t → (if t then false else bit_of (word_of got) q k) ≡ (if t then false else bit_of (word_of old) q k)
  unfolding bit_of
  bit_by q k true e = refl
  bit_by q k false e = ap (λ w. nat_lt k 128 && nat_eq (bit_at w (k % 32)) 1) (is_got.words q (5 + k / 32) e)

  is_new : slots_of new ≡ with_cut p c s
  is_new = is_cut ∙ (λ i. record {
    class = λ q. put_by q (nat_eq q p) refl c 4 i;
    bit = λ q k. bit_by q k (nat_eq q p) refl i;
    live = λ q. put_by q (nat_eq q p) refl 0 9 i;
    next = λ q. put_by q (nat_eq q p) refl 0 10 i;
  })

  pool_is : pool.held new ≡ record (pool.held old) { counts = one_less (pool.held old).counts }
  pool_is = kept.holds ∙ is_got.holds

  pages_is : (pool.held new).pages ≡ (pool.held old).pages
  pages_is = ap (λ h. h.pages) pool_is

  pub opened_sound : AreSlots (pool.held new).pages (slice_set heads (place_of c) (p + 1)) (slots_of new)
  opened_sound =
      subst (λ n. AreSlots n (slice_set heads (place_of c) (p + 1)) (slots_of new)) (sym pages_is)
      (subst (λ t. AreSlots (pool.held old).pages (slice_set heads (place_of c) (p + 1)) t) (sym is_new)
      (cut_sound (pool.held old).pages heads s sound c p class few is_got.within fresh empty))

  cut_owner : (q : ℕ) → alone_at (with_cut p c s) q ≡ alone_at s q
  cut_owner q = by_base (nat_lt q arena_base) (nat_eq (page_at q) p) refl refl
    where
      by_base : (t u : Bool) → nat_lt q arena_base ≡ t → nat_eq (page_at q) p ≡ u → alone_at (with_cut p c s) q ≡ alone_at s q
      by_base true u b e = alone_below (with_cut p c s) q b ∙ sym (alone_below s q b)
      by_base false true b e =
          let p_is : p ≡ page_at q = grind (arith, nat_tests) in
          alone_cut (with_cut p c s) p c q (ap (λ t. if t then c else s.class p) own) some b e
          ∙ ap (λ t. alone_if (if t then false else s.bit p (place_at q / c)) (address_of p c (place_at q / c)) c) own
          ∙ sym (alone_uncut s q b (subst (λ p. s.class p ≡ 0) p_is fresh))
      by_base false false b e =
          alone_here (with_cut p c s) q b
          ∙ ap (λ t. alone_in (if t then c else s.class (page_at q)) (λ k. if t then false else s.bit (page_at q) k) (page_at q) (place_at q)) e
          ∙ sym (alone_here s q b)

  pub opened_holds : joined (slots_of new) (pool.held new) ≡ record (joined s (pool.held old)) {
    counts = record (one_less (joined s (pool.held old)).counts) {
      class_pages = put c (pages_of_class (pool.held old).pages s c + 1) (pages_of_class (pool.held old).pages s);
    };
  }
  opened_holds =
      ap (λ t. joined t (pool.held new)) is_new ∙ ap (joined (with_cut p c s)) pool_is
      ∙ (λ i. record (joined s (pool.held old)) {
        owner = λ q. either_owner ((pool.held old).owner q) (cut_owner q i);
        counts = record (one_less (joined s (pool.held old)).counts) {
          class_pages = λ d. cut_pages (pool.held old).pages s p c is_got.within some fresh d i;
          slots = λ d. cut_slots (pool.held old).pages s p c is_got.within some fresh d i;
        };
      })
