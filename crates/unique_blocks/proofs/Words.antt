-- What a word that is written makes of the slots.
use Rattle.std.proofs.Common.{◌≡◌, ℕ, ◌+◌, ◌-◌, ◌*◌, ◌/◌, ◌%◌, ◌^◌, ◌<◌, ◌≤◌, Bool, true, false, Some, None, length, nat_eq, nat_lt, refl, sym, ap, subst, ◌∙◌}
use Rattle.std.proofs.Common.{arith}
use Rattle.std.specs.Prelude.{◌&&◌, if◌then◌else◌}
use Rattle.std.specs.Int.{bit_at, bit_not, w32, trailing_ones}
use Rattle.std.specs.Int.Bits.{bit_and, bit_or}
use Rattle.std.specs.Int.Count.{trailing_of_zero}
use Rattle.std.proofs.lemmas.Nat.Bits.{
  bit_at-zero,
  shr_and_one,
  bit_at_set_same,
  bit_at_set_other,
  bit_at_clear_same,
  bit_at_clear_other,
  bit_at-trailing_ones,
  bit_at_ones,
}
use Rattle.std.proofs.lemmas.Bool.Decides.{nat_tests}
use Rattle.region_runtime.specs.Headers.{put_word}
use Rattle.region_runtime.specs.Pool.{Pooled, is_free_field, is_taken, word_by, word_of}
use Rattle.region_runtime.specs.Calls.{word_seen}
use Rattle.region_runtime.specs.Touches.{touches_field}
use Rattle.region_runtime.proofs.Blank.{page_beyond, page_read}
use Rattle.region_runtime.proofs.Words.{taken_beyond}
use Rattle.unique_blocks.specs.Calls.{IsFirstVacant}
use Rattle.unique_blocks.specs.Slots.{bit_of, put_bit, slots_by, with_bit, with_class, with_live, with_next, with_no_bits, without_bits}

-- a word that isn't seen is 0
pub unseen : (p : Pooled) (page field : ℕ) → None ≡ word_seen p page field → 0 ≡ word_of p page field
unfolding word_by
unseen p page field e = by_seen (is_taken p page && is_free_field field) refl
  where
    by_seen : (t : Bool) → (is_taken p page && is_free_field field) ≡ t → 0 ≡ word_of p page field
    by_seen true s = absurd (let x : None ≡ Some (word_of p page field) = e ∙ ap (λ t. if t then Some (word_of p page field) else None) s in cc)
    by_seen false s = rw s refl

-- no word of a page that wasn't got is seen
pub untaken_word : (p : Pooled) (page field : ℕ) → is_taken p page ≡ false → word_of p page field ≡ 0
unfolding word_by
untaken_word p page field e = rw e refl

pub unseen_untaken : (p : Pooled) (page field : ℕ) → 4 ≤ field → field < 16 → None ≡ word_seen p page field → is_taken p page ≡ false
unseen_untaken p page field l h e = by_taken (is_taken p page) refl
  where
    by_taken : (t : Bool) → is_taken p page ≡ t → is_taken p page ≡ false
    by_taken false k = k
    by_taken true k =
        let m : is_free_field field ≡ true = grind (arith, nat_tests) in
        let s : word_seen p page field ≡ Some (word_of p page field) = rw (k, m) refl in
        absurd (let x : None ≡ Some (word_of p page field) = e ∙ s in cc)

-- how many words are read of it
pub beyond_read : (p : Pooled) (page : ℕ) → length p.words / 16 ≤ page → touches_field (is_taken p page) 2 true (length p.words / 16) page ≡ 0
beyond_read p page l =
    let k : is_taken p page ≡ false = sym (taken_beyond p.words page l) in rw k (page_beyond (length p.words / 16) page l)

pub none_read : (p : Pooled) (page : ℕ) → is_taken p page ≡ false → page < length p.words / 16 →
    touches_field (is_taken p page) 2 true (length p.words / 16) page ≡ 1
none_read p page k l = rw k (page_read (length p.words / 16) page l)

-- ---- words beside the bits

bit_other_by : (t : Bool) (word : ℕ → ℕ → ℕ) (p f v q k : ℕ) → nat_lt k 128 ≡ t → (k < 128 → nat_eq (5 + k / 32) f ≡ false) →
    bit_of (put_word p f v word) q k ≡ bit_of word q k
unfolding bit_of
bit_other_by true word p f v q k e n = let o = n (grind (arith, nat_tests)) in rw (e, o) refl
bit_other_by false word p f v q k e n = rw e refl

pub bit_other : (word : ℕ → ℕ → ℕ) (p f v q k : ℕ) → (k < 128 → nat_eq (5 + k / 32) f ≡ false) → bit_of (put_word p f v word) q k ≡ bit_of word q k
bit_other word p f v q k n = bit_other_by (nat_lt k 128) word p f v q k refl n

pub class_put : (word : ℕ → ℕ → ℕ) (p v : ℕ) → slots_by (put_word p 4 v word) ≡ with_class p v (slots_by word)
class_put word p v = λ i. record (with_class p v (slots_by word)) { bit = λ q k. bit_other word p 4 v q k (λ l. grind (arith, nat_tests)) i }

pub live_put : (word : ℕ → ℕ → ℕ) (p v : ℕ) → slots_by (put_word p 9 v word) ≡ with_live p v (slots_by word)
live_put word p v = λ i. record (with_live p v (slots_by word)) { bit = λ q k. bit_other word p 9 v q k (λ l. grind (arith, nat_tests)) i }

pub next_put : (word : ℕ → ℕ → ℕ) (p v : ℕ) → slots_by (put_word p 10 v word) ≡ with_next p v (slots_by word)
next_put word p v = λ i. record (with_next p v (slots_by word)) { bit = λ q k. bit_other word p 10 v q k (λ l. grind (arith, nat_tests)) i }

-- ---- one bit

module _ (word : ℕ → ℕ → ℕ) (p k v : ℕ) (b : Bool) (low : k < 128) (same : nat_eq (bit_at v (k % 32)) 1 ≡ b)
    (other : (i : ℕ) → i < 32 → nat_eq i (k % 32) ≡ false → bit_at v i ≡ bit_at (word p (5 + k / 32)) i) where
  abbrev after : ℕ → ℕ → ℕ
  after = put_word p (5 + k / 32) v word

  bit_by : (t e f g : Bool) (q j : ℕ) → nat_lt j 128 ≡ t → nat_eq (5 + j / 32) (5 + k / 32) ≡ e → nat_eq q p ≡ f → nat_eq j k ≡ g →
      bit_of after q j ≡ put_bit p k b (bit_of word) q j
  unfolding bit_of
  bit_by true true true true q j d n m o =
      let j_is : j ≡ k = grind (arith, nat_tests) in
      rw (d, n, m, o) (ap (λ j. nat_eq (bit_at v (j % 32)) 1) j_is ∙ same)
  bit_by true true true false q j d n m o =
      let q_is : p ≡ q = grind (arith, nat_tests) in
      let field : 5 + k / 32 ≡ 5 + j / 32 = grind (arith, nat_tests) in
      let apart : nat_eq (j % 32) (k % 32) ≡ false = grind (arith, nat_tests) in
      rw (d, n, m, o) (ap (λ x. nat_eq x 1) (other (j % 32) (omega arith) apart
      ∙ ap (λ f. bit_at (word p f) (j % 32)) field ∙ ap (λ q. bit_at (word q (5 + j / 32)) (j % 32)) q_is))
  bit_by true true false g q j d n m o = rw (d, n, m) refl
  bit_by true false f true q j d n m o = absurd (grind (arith, nat_tests))
  bit_by true false true false q j d n m o = rw (d, n, m, o) refl
  bit_by true false false false q j d n m o = rw (d, n, m) refl
  bit_by false e f true q j d n m o = absurd (grind (arith, nat_tests))
  bit_by false e true false q j d n m o = rw (d, m, o) refl
  bit_by false e false false q j d n m o = rw (d, m) refl

  kept : (q f : ℕ) → nat_eq f (5 + k / 32) ≡ false → after q f ≡ word q f
  kept q f n = rw n refl

  pub bit_put : slots_by after ≡ with_bit p k b (slots_by word)
  bit_put = λ i. record {
    class = λ q. kept q 4 (grind (arith, nat_tests)) i;
    bit = λ q j. bit_by (nat_lt j 128) (nat_eq (5 + j / 32) (5 + k / 32)) (nat_eq q p) (nat_eq j k) q j refl refl refl refl i;
    live = λ q. kept q 9 (grind (arith, nat_tests)) i;
    next = λ q. kept q 10 (grind (arith, nat_tests)) i;
  }

pub bit_set : (word : ℕ → ℕ → ℕ) (p k w : ℕ) → k < 128 → w ≡ word p (5 + k / 32) →
    slots_by (put_word p (5 + k / 32) (bit_or w (1 * 2 ^ (k % 32) % 2 ^ 32)) word) ≡ with_bit p k true (slots_by word)
bit_set word p k w l is =
    bit_put word p k (bit_or w (1 * 2 ^ (k % 32) % 2 ^ 32)) true l
    (let s = bit_at_set_same w32 w (k % 32) (omega arith) in ap (λ x. nat_eq x 1) s)
    (λ i m n. bit_at_set_other w32 w (k % 32) (omega arith) i (λ e. absurd (grind (arith, nat_tests))) ∙ ap (λ w. bit_at w i) is)

pub bit_cleared : (word : ℕ → ℕ → ℕ) (p k w : ℕ) → k < 128 → w ≡ word p (5 + k / 32) →
    slots_by (put_word p (5 + k / 32) (bit_and w (bit_not w32 (1 * 2 ^ (k % 32) % 2 ^ 32))) word) ≡ with_bit p k false (slots_by word)
bit_cleared word p k w l is =
    bit_put word p k (bit_and w (bit_not w32 (1 * 2 ^ (k % 32) % 2 ^ 32))) false l
    (let s = bit_at_clear_same w32 w (k % 32) (omega arith) in ap (λ x. nat_eq x 1) s)
    (λ i m n. bit_at_clear_other w32 w (k % 32) (omega arith) i m (λ e. absurd (grind (arith, nat_tests))) ∙ ap (λ w. bit_at w i) is)

pub bit_read : (word : ℕ → ℕ → ℕ) (p k w : ℕ) → k < 128 → w ≡ word p (5 + k / 32) → nat_eq (bit_and (w / 2 ^ (k % 32)) 1) 1 ≡ bit_of word p k
unfolding bit_of
bit_read word p k w l e =
    let t : nat_lt k 128 ≡ true = grind (arith, nat_tests) in
    rw t (ap (λ x. nat_eq x 1) (shr_and_one w (k % 32)) ∙ ap (λ w. nat_eq (bit_at w (k % 32)) 1) e)

-- ---- no bits

abbrev pub cleared : ℕ → (ℕ → ℕ → ℕ) → ℕ → ℕ → ℕ
cleared p word = put_word p 8 0 (put_word p 7 0 (put_word p 6 0 (put_word p 5 0 word)))

cleared_word : (word : ℕ → ℕ → ℕ) (p q f : ℕ) → 5 ≤ f → f ≤ 8 → cleared p word q f ≡ (if nat_eq q p then 0 else word q f)
cleared_word word p q f l m = grind (arith, nat_tests)

cleared_by : (t e : Bool) (word now : ℕ → ℕ → ℕ) (p q k : ℕ) → nat_lt k 128 ≡ t → nat_eq q p ≡ e →
    (k < 128 → now q (5 + k / 32) ≡ (if nat_eq q p then 0 else word q (5 + k / 32))) → bit_of now q k ≡ without_bits p (bit_of word) q k
unfolding bit_of
cleared_by true true word now p q k d e f =
    let g : now q (5 + k / 32) ≡ 0 = f (grind (arith, nat_tests)) ∙ ap (λ t. if t then 0 else word q (5 + k / 32)) e in
    rw (d, e) (ap (λ w. nat_eq (bit_at w (k % 32)) 1) g ∙ ap (λ x. nat_eq x 1) (bit_at-zero (k % 32)))
cleared_by true false word now p q k d e f =
    let g : now q (5 + k / 32) ≡ word q (5 + k / 32) = f (grind (arith, nat_tests)) ∙ ap (λ t. if t then 0 else word q (5 + k / 32)) e in
    rw (d, e) (ap (λ w. nat_eq (bit_at w (k % 32)) 1) g)
cleared_by false true word now p q k d e f = rw (d, e) refl
cleared_by false false word now p q k d e f = rw (d, e) refl

cleared_bit : (word : ℕ → ℕ → ℕ) (p q k : ℕ) → bit_of (cleared p word) q k ≡ without_bits p (bit_of word) q k
cleared_bit word p q k = cleared_by (nat_lt k 128) (nat_eq q p) word (cleared p word) p q k refl refl (λ l. cleared_word word p q (5 + k / 32) (omega arith)
    (omega (arith, l)))

pub bits_cleared : (word : ℕ → ℕ → ℕ) (p : ℕ) → slots_by (cleared p word) ≡ with_no_bits p (slots_by word)
bits_cleared word p = λ i. record (with_no_bits p (slots_by word)) { bit = λ q k. cleared_bit word p q k i }

-- ---- the first vacant slot, part by part

bit_here : (word : ℕ → ℕ → ℕ) (p part w i j : ℕ) → part < 4 → i < 32 → j ≡ 32 * part + i → w ≡ word p (5 + part) → nat_eq (bit_at w i) 1 ≡ bit_of word p j
unfolding bit_of
bit_here word p part w i j l m e is =
    let t : nat_lt j 128 ≡ true = grind (arith, nat_tests) in
    let f : 5 + part ≡ 5 + j / 32 = omega (arith, l, m, e) in
    let r : i ≡ j % 32 = omega (arith, l, m, e) in
    rw t (ap (λ w. nat_eq (bit_at w i) 1) is ∙ ap (λ f. nat_eq (bit_at (word p f) i) 1) f ∙ ap (λ i. nat_eq (bit_at (word p (5 + j / 32)) i) 1) r)

module _ (word : ℕ → ℕ → ℕ) (p part w t : ℕ) (fits : w < 4294967296) (is : w ≡ word p (5 + part)) (ones : t ≡ trailing_ones w32 w) (few : part < 4)
    (below : (j : ℕ) → j < 32 * part → bit_of word p j ≡ true) where
  -- the bits of this part, where they are known
  up_to : (n : ℕ) → n ≤ 32 → ((i : ℕ) → i < n → bit_at w i ≡ 1) → (j : ℕ) → j < 32 * part + n → bit_of word p j ≡ true
  up_to n m f j l = by_part (nat_lt j (32 * part)) refl
    where
      by_part : (b : Bool) → nat_lt j (32 * part) ≡ b → bit_of word p j ≡ true
      by_part true e = below j (grind (arith, nat_tests))
      by_part false e =
          let g : 32 * part ≤ j = grind (arith, nat_tests) in
          sym (bit_here word p part w (j - 32 * part) j few (omega (arith, l, m, g)) (omega (arith, g)) is)
          ∙ ap (λ x. nat_eq x 1) (f (j - 32 * part) (omega (arith, l, g)))

  all_ones : w ≡ 4294967295 → t ≡ 32
  all_ones e = ones ∙ ap (trailing_ones w32) e ∙ trailing_of_zero 32

  pub first_here : t < 32 → IsFirstVacant (bit_of word p) (32 * part + t)
  first_here l = by_all (nat_eq w 4294967295) refl
    where
      by_all : (b : Bool) → nat_eq w 4294967295 ≡ b → IsFirstVacant (bit_of word p) (32 * part + t)
      by_all true e = absurd (let a = all_ones (grind (arith, nat_tests)) in omega (arith, a, l))
      by_all false e =
          let o = bit_at-trailing_ones w32 w (grind (arith, nat_tests)) in
          record {
            most = omega (arith, few, l);
            below = up_to t (omega (arith, l)) (λ i m. o.2 i (subst (λ t. i < t) ones m));
            vacant = λ m. sym (bit_here word p part w t (32 * part + t) few l refl is) ∙ ap (λ t. nat_eq (bit_at w t) 1) ones ∙ ap (λ x. nat_eq x 1) o.1;
          }

  pub none_here : 32 ≤ t → (j : ℕ) → j < 32 * (part + 1) → bit_of word p j ≡ true
  none_here l j m = by_all (nat_eq w 4294967295) refl
    where
      by_all : (b : Bool) → nat_eq w 4294967295 ≡ b → bit_of word p j ≡ true
      by_all true e =
          let a : w ≡ 4294967295 = grind (arith, nat_tests) in
          up_to 32 (omega arith) (λ i n. ap (λ w. bit_at w i) a ∙ bit_at_ones 32 i n) j (omega (arith, m))
      by_all false e =
          let o = bit_at-trailing_ones w32 w (grind (arith, nat_tests)) in let s = o.0 in absurd (omega (arith, s, ones, l))
