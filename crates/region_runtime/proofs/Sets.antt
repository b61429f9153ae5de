-- What setting a tag, or a word of a taken page, says to its caller.
use Rattle.std.proofs.Common.{◌≡◌, ℕ, ◌-◌, ◌/◌, ◌<◌, ◌≤◌, Bool, true, false, Some, None, length, nat_eq, refl, sym, ap, subst, ◌∙◌, arith}
use Rattle.std.specs.Prelude.{if◌then◌else◌, ◌&&◌}
use Rattle.std.proofs.lemmas.Bool.Decides.{nat_tests}
use Rattle.arena_laws.specs.Counts.{put}
use Rattle.arena_laws.specs.Holdings.{is_some}
use Rattle.region_runtime.specs.Headers.{word_in, owner_of, tag_in, taken_mark, is_live_number, pages_of}
use Rattle.region_runtime.specs.Pool.{
  Pooled,
  Shape,
  shape_of,
  byte_at,
  held,
  holdings_of,
  is_free_field,
  is_taken,
  is_taken_by,
  tag_by,
  tag_of,
  word_by,
  word_of,
}
use Rattle.region_runtime.specs.Sound.{IsOrdered, IsSound, freed_of, no_page}
use Rattle.region_runtime.specs.Steps.{with_word}
use Rattle.region_runtime.specs.Touches.{reads_number, touches_for}
use Rattle.region_runtime.specs.Calls.{tags_set, word_seen, words_set}
use Rattle.region_runtime.proofs.Words.{live_some, live_own}
use Rattle.region_runtime.proofs.Places.{live_small, marked_used}
use Rattle.region_runtime.proofs.Ordered.{few_used, first_used}
use Rattle.region_runtime.proofs.Tags.{word_other, taken_same, not_taken, small_unmarked, taken_owner, words_same, tag_live, tag_dead, tag_same}
use Rattle.region_runtime.proofs.Blank.{blank_put}
use Rattle.region_runtime.proofs.Kept.{kept_ordered, kept_holds, kept_taken}
use Rattle.region_runtime.proofs.Along.{bytes_along, sound_after}

-- what a live number's owner word is not
small_number : (t : Shape) → IsOrdered t no_page → (h : ℕ) → is_live_number (owner_of t.word) h ≡ true → h ≤ 4096
small_number t s h l = live_small (freed_of t) (owner_of t.word) (pages_of t.word) t.ever_used no_page (few_used t s) s.chains h l

-- a taken page was used
taken_used : (t : Shape) → IsOrdered t no_page → (p : ℕ) → is_taken_by t.word p ≡ true → p < t.ever_used
taken_used t s p k = marked_used (freed_of t) (owner_of t.word) (pages_of t.word) t.ever_used no_page (few_used t s) s.chains p (let o = taken_owner
    t.word p k in omega (arith, o))

-- ---- a tag

pub record TagSays (old new : Pooled) (h value : ℕ) : Type 0 where
  pub sound : IsSound new
  pub says : true ≡ is_some (tag_of old h)
  pub tags : tag_of new ≡ tags_set h value (tag_of old)
  pub holds : held new ≡ held old
  pub taken : is_taken new ≡ is_taken old
  pub words : word_of new ≡ word_of old
  pub bytes : byte_at new ≡ byte_at old

module _ (t : Shape) (s : IsOrdered t no_page) (h x : ℕ) (live : is_live_number (owner_of t.word) h ≡ true) where
  abbrev tagged : Shape
  tagged = with_word (h - 1) 5 x t

  there : is_some (tag_by t.word h) ≡ true
  there = ap is_some (tag_live t.word h live)

  tag_put : (g : ℕ) → tag_by tagged.word g ≡ put h (Some x) (tag_by t.word) g
  tag_put g = by_number (nat_eq g h) refl
    where
      by_number : (b : Bool) → nat_eq g h ≡ b → tag_by tagged.word g ≡ (if b then Some x else tag_by t.word g)
      by_number true e =
          let same : g ≡ h = grind (arith, nat_tests) in
          let n : nat_eq (g - 1) (h - 1) ≡ true = grind (arith, nat_tests) in
          tag_live tagged.word g (ap (is_live_number (owner_of t.word)) same ∙ live) ∙ ap Some (rw n refl)
      by_number false e = tag_same t.word tagged.word g refl (λ d. other d)
        where
          other : is_live_number (owner_of t.word) g ≡ true → tag_in tagged.word g ≡ tag_in t.word g
          other d =
              let a = live_some (owner_of t.word) g d in let b = live_some (owner_of t.word) h live in
              let n : nat_eq (g - 1) (h - 1) ≡ false = grind (arith, nat_tests) in rw n refl

  untaken : is_taken_by t.word (h - 1) ≡ false
  untaken = not_taken t.word (h - 1) (small_unmarked (owner_of t.word (h - 1)) (let o = live_own (owner_of t.word) h live in let m = small_number t s
      h live in omega (arith, o, m)))

  tag_words : (q f : ℕ) → word_by tagged.word q f ≡ word_by t.word q f
  tag_words q f = words_same t.word tagged.word q f (taken_same t.word tagged.word q refl) (λ d. by_page (nat_eq q (h - 1)) refl d)
    where
      by_page : (b : Bool) → nat_eq q (h - 1) ≡ b → is_taken_by t.word q ≡ true → tagged.word q f ≡ t.word q f
      by_page false e d = word_other (h - 1) 5 x t.word q f e
      by_page true e d = let same : q ≡ h - 1 = grind (arith, nat_tests) in let n = ap (is_taken_by t.word) same ∙ untaken in cc

pub tag_says : (fields value new : Pooled) → fields ≡ value → IsSound fields → length new.words ≡ length fields.words → new.bytes ≡ fields.bytes →
    (h x : ℕ) → is_live_number (owner_of (word_in fields.words)) h ≡ true → shape_of new ≡ with_word (h - 1) 5 x (shape_of fields) → TagSays value new h x
tag_says fields value new v s l b h x d e =
    let t = shape_of fields in
    let w = (with_word (h - 1) 5 x t).word in
    let k = there t s.ordered h x d in
    let says : TagSays fields new h x = record {
      sound = sound_after fields new (with_word (h - 1) 5 x t) s l b e
          (kept_ordered t w (λ q. refl) (λ q. refl) (λ q. refl) (λ g d. refl) (λ g d. refl) (λ g d. refl)
          no_page s.ordered (blank_put t.word t.ever_used (h - 1) 5 x (first_used t s.ordered h d) s.ordered.unused));
      says = sym k;
      tags = ap (λ m. tag_by m.word) e ∙ (rw k (λ i g. tag_put t s.ordered h x d g i));
      holds = ap holdings_of e ∙ kept_holds t w (λ q. refl) (λ q. refl) (λ q. refl) (λ g d. refl) (λ g d. refl) (λ g d. refl);
      taken = ap (λ m. is_taken_by m.word) e ∙ kept_taken t w (λ q. refl) (λ q. refl) (λ q. refl) (λ g d. refl) (λ g d. refl) (λ g d. refl);
      words = ap (λ m. word_by m.word) e ∙ (λ i q f. tag_words t s.ordered h x d q f i);
      bytes = bytes_along fields fields new refl b;
    } in subst (λ m. TagSays m new h x) v says

-- a number that isn't live has no tag
pub no_tag : (fields value : Pooled) → fields ≡ value → (h : ℕ) → is_live_number (owner_of (word_in fields.words)) h ≡ false → None ≡ tag_of value h
no_tag fields value v h d = subst (λ m. None ≡ tag_of m h) v (sym (tag_dead (word_in fields.words) h d))

pub tag_not_set : (fields value new : Pooled) → fields ≡ value → (h x : ℕ) → is_live_number (owner_of (word_in fields.words)) h ≡ false →
    shape_of new ≡ shape_of fields → tag_of new ≡ tags_set h x (tag_of value)
tag_not_set fields value new v h x d e =
    let n = tag_dead (word_in fields.words) h d in
    let k : is_some (tag_of fields h) ≡ false = ap is_some n in
    ap (λ m. tag_by m.word) e ∙ subst (λ m. tag_of fields ≡ tags_set h x (tag_of m)) v (rw k refl)

pub tag_read : (fields value : Pooled) → fields ≡ value → (h x : ℕ) → is_live_number (owner_of (word_in fields.words)) h ≡ true →
    x ≡ tag_in (word_in fields.words) h → Some x ≡ tag_of value h
tag_read fields value v h x d e = subst (λ m. Some x ≡ tag_of m h) v (ap Some e ∙ sym (tag_live (word_in fields.words) h d))

-- ---- a word of a taken page

pub record WordSays (old new : Pooled) (page field value : ℕ) : Type 0 where
  pub sound : IsSound new
  pub words : word_of new ≡ words_set old page field value
  pub holds : held new ≡ held old
  pub tags : tag_of new ≡ tag_of old
  pub taken : is_taken new ≡ is_taken old
  pub bytes : byte_at new ≡ byte_at old

module _ (t : Shape) (s : IsOrdered t no_page) (p f x : ℕ) (taken : is_taken_by t.word p ≡ true) (low : 4 ≤ f) (high : f < 16) where
  abbrev pub written : Shape
  written = with_word p f x t

  pub field_other : (q g : ℕ) → g < 4 → written.word q g ≡ t.word q g
  field_other q g l = let n : nat_eq g f ≡ false = grind (arith, nat_tests) in rw n refl

  -- a live region's first page isn't the taken one
  first_other : (h : ℕ) → is_live_number (owner_of t.word) h ≡ true → nat_eq (h - 1) p ≡ false
  first_other h d = by_page (nat_eq (h - 1) p) refl
    where
      by_page : (b : Bool) → nat_eq (h - 1) p ≡ b → nat_eq (h - 1) p ≡ false
      by_page false e = e
      by_page true e =
          let same : h - 1 ≡ p = grind (arith, nat_tests) in let o = live_own (owner_of t.word) h d in let m = small_number t s h d in
          let k = taken_owner t.word p taken in let n : owner_of t.word p ≡ h = ap (owner_of t.word) (sym same) ∙ o in absurd (omega (arith, k, n, m))

  pub first_word : (h g : ℕ) → is_live_number (owner_of t.word) h ≡ true → written.word (h - 1) g ≡ t.word (h - 1) g
  first_word h g d = word_other p f x t.word (h - 1) g (first_other h d)

  live_is : (h : ℕ) → is_live_number (owner_of written.word) h ≡ is_live_number (owner_of t.word) h
  live_is h = ap (λ o. is_live_number o h) (λ i q. field_other q 1 (omega arith) i)

  pub written_tags : (h : ℕ) → tag_by written.word h ≡ tag_by t.word h
  written_tags h = tag_same t.word written.word h (live_is h) (λ d. first_word h 5 d)

  pub written_words : (q g : ℕ) → word_by written.word q g ≡ (if nat_eq q p && nat_eq g f then x else word_by t.word q g)
  unfolding word_by is_taken_by
  written_words q g =
      let o = field_other q 1 (omega arith) in let k = taken_owner t.word p taken in by_test (nat_eq q p) (nat_eq g f) refl refl o k
    where
      by_test : (b c : Bool) → nat_eq q p ≡ b → nat_eq g f ≡ c → owner_of written.word q ≡ owner_of t.word q → owner_of t.word p ≡ taken_mark →
          (if nat_eq (owner_of written.word q) taken_mark && is_free_field g then written.word q g else 0)
          ≡ (if b && c then x else (if nat_eq (owner_of t.word q) taken_mark && is_free_field g then t.word q g else 0))
      by_test true true e d o k =
          let same : q ≡ p = grind (arith, nat_tests) in
          let n : nat_eq (owner_of written.word q) taken_mark ≡ true = ap (λ w. nat_eq w taken_mark) (o ∙ ap (owner_of t.word) same ∙ k) in
          let m : is_free_field g ≡ true = grind (arith, nat_tests) in
          let w : written.word q g ≡ x = rw (d, e) refl in rw (n, m) w
      by_test true false e d o k = let w : written.word q g ≡ t.word q g = rw d refl in rw (o, w) refl
      by_test false c e d o k = let w = word_other p f x t.word q g e in rw (o, w) refl

pub word_says : (fields value new : Pooled) → fields ≡ value → IsSound fields → length new.words ≡ length fields.words → new.bytes ≡ fields.bytes →
    (p f x : ℕ) → is_taken_by (word_in fields.words) p ≡ true → 4 ≤ f → f ≤ 15 → shape_of new ≡ with_word p f x (shape_of fields) → WordSays value new p f x
word_says fields value new v s l b p f x k low high e =
    let t = shape_of fields in
    let up : f < 16 = omega (arith, high) in
    let o = field_other t s.ordered p f x k low up in
    let w = (with_word p f x t).word in
    let a = first_word t s.ordered p f x k low up in
    let m : is_free_field f ≡ true = grind (arith, nat_tests) in
    let ws : (q g : ℕ) → word_by w q g ≡ words_set fields p f x q g = (λ q g. rw (k, m) (written_words t s.ordered p f x k low up q g)) in
    let says : WordSays fields new p f x = record {
      sound = sound_after fields new (with_word p f x t) s l b e (kept_ordered t w (λ q. o q 1 (omega arith)) (λ q. o q 0 (omega arith)) (λ q. o q
          2 (omega arith)) (λ h d. a h 3 d) (λ h d. a h 4 d) (λ h d. a h 6 d) no_page s.ordered
          (blank_put t.word t.ever_used p f x (taken_used t s.ordered p k) s.ordered.unused));
      words = ap (λ n. word_by n.word) e ∙ (λ i q g. ws q g i);
      holds = ap holdings_of e ∙ kept_holds t w (λ q. o q 1 (omega arith)) (λ q. o q 0 (omega arith)) (λ q. o q 2 (omega arith)) (λ h d. a h 3 d)
          (λ h d. a h 4 d) (λ h d. a h 6 d);
      tags = ap (λ n. tag_by n.word) e ∙ (λ i h. written_tags t s.ordered p f x k low up h i);
      taken = ap (λ n. is_taken_by n.word) e ∙ kept_taken t w (λ q. o q 1 (omega arith)) (λ q. o q 0 (omega arith)) (λ q. o q 2 (omega arith))
          (λ h d. a h 3 d) (λ h d. a h 4 d) (λ h d. a h 6 d);
      bytes = bytes_along fields fields new refl b;
    } in subst (λ n. WordSays n new p f x) v says

-- a word is read
pub word_read_there : (fields value : Pooled) → fields ≡ value → (p f x : ℕ) → is_taken_by (word_in fields.words) p ≡ true → 4 ≤ f → f ≤ 15 →
    x ≡ word_in fields.words p f → Some x ≡ word_seen value p f
unfolding word_by
word_read_there fields value v p f x k low high e =
    let m : is_free_field f ≡ true = grind (arith, nat_tests) in subst (λ n. Some x ≡ word_seen n p f) v (rw (k, m) (ap Some e))

pub word_not_there : (fields value : Pooled) → fields ≡ value → (p f : ℕ) → false ≡ is_taken_by (word_in fields.words) p → None ≡ word_seen value p f
word_not_there fields value v p f k =
    let n : is_taken fields p ≡ false = sym k in subst (λ m. None ≡ word_seen m p f) v (rw n refl)

-- ---- how many words a call on a number touches

pub live_touches : (fields value : Pooled) → fields ≡ value → (words h n : ℕ) → is_live_number (owner_of (word_in fields.words)) h ≡ true → n ≡ words →
    n ≡ touches_for (is_some (tag_of value h)) words (length value.words / 16) h
live_touches fields value v words h n d e =
    let k : is_some (tag_of fields h) ≡ true = ap is_some (tag_live (word_in fields.words) h d) in
    subst (λ p. n ≡ touches_for (is_some (tag_of p h)) words (length p.words / 16) h) v (rw k e)

pub dead_touches : (fields value : Pooled) → fields ≡ value → (words h n : ℕ) → is_live_number (owner_of (word_in fields.words)) h ≡ false →
    n ≡ reads_number (length fields.words / 16) h → n ≡ touches_for (is_some (tag_of value h)) words (length value.words / 16) h
dead_touches fields value v words h n d e =
    let k : is_some (tag_of fields h) ≡ false = ap is_some (tag_dead (word_in fields.words) h d) in
    subst (λ p. n ≡ touches_for (is_some (tag_of p h)) words (length p.words / 16) h) v (rw k e)
