-- Tags, taken pages and their words, where a page's words are written.
use Rattle.std.proofs.Common.{◌≡◌, ℕ, ◌≤◌, Bool, true, false, Some, None, nat_eq, refl, sym, ap, ◌∙◌, arith}
use Rattle.std.specs.Prelude.{if◌then◌else◌, ◌&&◌}
use Rattle.std.proofs.lemmas.Bool.Decides.{nat_tests}
use Rattle.region_runtime.specs.Headers.{put_word, owner_of, tag_in, taken_mark, is_live_number}
use Rattle.region_runtime.specs.Pool.{tag_by, is_taken_by, word_by, is_free_field}

-- a word of another page
pub word_other : (p f x : ℕ) (word : ℕ → ℕ → ℕ) (q g : ℕ) → nat_eq q p ≡ false → put_word p f x word q g ≡ word q g
word_other p f x word q g e = by_field (nat_eq g f)
  where
    by_field : (b : Bool) → (if b then (if nat_eq q p then x else word q g) else word q g) ≡ word q g
    by_field true = rw e refl
    by_field false = refl

pub taken_same : (word next : ℕ → ℕ → ℕ) (q : ℕ) → owner_of next q ≡ owner_of word q → is_taken_by next q ≡ is_taken_by word q
unfolding is_taken_by
taken_same word next q e = ap (λ o. nat_eq o taken_mark) e

pub not_taken : (word : ℕ → ℕ → ℕ) (q : ℕ) → nat_eq (owner_of word q) taken_mark ≡ false → is_taken_by word q ≡ false
unfolding is_taken_by
not_taken word q e = e

pub small_unmarked : (n : ℕ) → n ≤ 4096 → nat_eq n taken_mark ≡ false
small_unmarked n l = grind (arith, nat_tests)

pub is_taken_there : (word : ℕ → ℕ → ℕ) (q : ℕ) → owner_of word q ≡ taken_mark → is_taken_by word q ≡ true
unfolding is_taken_by
is_taken_there word q e = rw e refl

pub taken_owner : (word : ℕ → ℕ → ℕ) (q : ℕ) → is_taken_by word q ≡ true → owner_of word q ≡ taken_mark
unfolding is_taken_by
taken_owner word q e = grind (arith, nat_tests)

-- the words of taken pages are the same where the taken pages are, and no word of one is written
pub words_same : (word next : ℕ → ℕ → ℕ) (q f : ℕ) → is_taken_by next q ≡ is_taken_by word q → (is_taken_by word q ≡ true → next q f ≡ word q f) →
    word_by next q f ≡ word_by word q f
unfolding word_by
words_same word next q f e w = by_taken (is_taken_by word q) (is_taken_by next q) refl e w
  where
    by_taken : (b c : Bool) → is_taken_by word q ≡ b → c ≡ is_taken_by word q → (is_taken_by word q ≡ true → next q f ≡ word q f) →
        (if c && is_free_field f then next q f else 0) ≡ (if b && is_free_field f then word q f else 0)
    by_taken true c d k w = let t : c ≡ true = k ∙ d in rw (t, w d) refl
    by_taken false c d k w = let t : c ≡ false = k ∙ d in rw t refl

pub tag_live : (word : ℕ → ℕ → ℕ) (h : ℕ) → is_live_number (owner_of word) h ≡ true → tag_by word h ≡ Some (tag_in word h)
unfolding tag_by
tag_live word h e = rw e refl

pub tag_dead : (word : ℕ → ℕ → ℕ) (h : ℕ) → is_live_number (owner_of word) h ≡ false → tag_by word h ≡ None
unfolding tag_by
tag_dead word h e = rw e refl

-- a tag is the same where the region's life and its tag are
pub tag_same : (word next : ℕ → ℕ → ℕ) (h : ℕ) → is_live_number (owner_of next) h ≡ is_live_number (owner_of word) h →
    (is_live_number (owner_of word) h ≡ true → tag_in next h ≡ tag_in word h) → tag_by next h ≡ tag_by word h
tag_same word next h e t = by_live (is_live_number (owner_of word) h) refl
  where
    by_live : (b : Bool) → is_live_number (owner_of word) h ≡ b → tag_by next h ≡ tag_by word h
    by_live true d = tag_live next h (e ∙ d) ∙ ap Some (t d) ∙ sym (tag_live word h d)
    by_live false d = tag_dead next h (e ∙ d) ∙ sym (tag_dead word h d)
