-- A header word that is read or written.
use Rattle.std.proofs.Common.{
  ◌≡◌,
  ℕ,
  zero,
  suc,
  ◌+◌,
  ◌-◌,
  ◌*◌,
  ◌/◌,
  ◌<◌,
  ◌≤◌,
  Bool,
  true,
  false,
  List,
  [],
  ◌∷◌,
  length,
  nat_eq,
  nat_lt,
  refl,
  sym,
  ap,
  subst,
  ◌∙◌,
  arith,
  length-set,
}
use Rattle.std.specs.Prelude.{slice_index, slice_set, ◌&&◌, if◌then◌else◌}
use Rattle.std.proofs.lemmas.Bool.Decides.{nat_tests}
use Rattle.std.proofs.lemmas.Grind.{common_steps}
use Rattle.arena_laws.specs.Counts.{is_full}
use Rattle.region_runtime.specs.Headers.{word_in, put_word, owner_of, is_live_number, current_of}
use Rattle.region_runtime.specs.Pool.{Pooled, Shape, shape_of, is_taken_by, last_of, changed_words, counts_of}
use Rattle.region_runtime.specs.Steps.{with_word}

pub word_read : (ws : List ℕ) (p f : ℕ) → p < length ws / 16 → f < 16 → slice_index ws (16 * p + f) ≡ word_in ws p f
unfolding word_in
word_read ws p f l m = grind (arith, nat_tests)

pub word_beyond : (ws : List ℕ) (p f : ℕ) → length ws / 16 ≤ p → word_in ws p f ≡ 0
unfolding word_in
word_beyond ws p f l = grind (arith, nat_tests)

-- the place that was written has the word, the others are as they were
pub index_set : (xs : List ℕ) (p x q : ℕ) → p < length xs → slice_index (slice_set xs p x) q ≡ (if nat_eq q p then x else slice_index xs q)
index_set xs p x q h = grind (arith, nat_tests, common_steps)

pub index_at : (xs : List ℕ) (p x q : ℕ) → p < length xs → nat_eq q p ≡ true → slice_index (slice_set xs p x) q ≡ x
index_at xs p x q l e = grind (arith, nat_tests, common_steps)

pub index_else : (xs : List ℕ) (p x q : ℕ) → nat_eq q p ≡ false → slice_index (slice_set xs p x) q ≡ slice_index xs q
index_else xs p x q e = grind (arith, nat_tests, common_steps)

same_place : (q g p f : ℕ) → g < 16 → f < 16 → nat_eq (16 * q + g) (16 * p + f) ≡ nat_eq g f && nat_eq q p
same_place q g p f l m = grind (arith, nat_tests)

written_by : (ws : List ℕ) (p f x q g : ℕ) (n : ℕ) (b c : Bool) → p < n → f < 16 → nat_lt q n ≡ b → nat_lt g 16 ≡ c →
    (if b && c then (if nat_eq (16 * q + g) (16 * p + f) then x else slice_index ws (16 * q + g)) else 0)
    ≡ (if nat_eq g f then (if nat_eq q p then x else (if b && c then slice_index ws (16 * q + g) else 0)) else (if b && c then slice_index ws
    (16 * q + g) else 0))
written_by ws p f x q g n true true l m d e = grind (arith, nat_tests)
written_by ws p f x q g n true false l m d e = grind (arith, nat_tests)
written_by ws p f x q g n false c l m d e = grind (arith, nat_tests)

pub word_written : (ws : List ℕ) (p f x : ℕ) → p < length ws / 16 → f < 16 → (q g : ℕ) →
    word_in (slice_set ws (16 * p + f) x) q g ≡ put_word p f x (word_in ws) q g
unfolding word_in
word_written ws p f x l m q g =
    let n : 16 * p + f < length ws = omega arith in
    simp (length-set, index_set ws (16 * p + f) x (16 * q + g) n) (written_by ws p f x q g (length ws / 16) (nat_lt q (length ws / 16))
    (nat_lt g 16) l m refl refl)

-- the shape after a write
pub shape_written : (old new : Pooled) (p f x : ℕ) → p < length old.words / 16 → f < 16 → new.words ≡ slice_set old.words (16 * p + f) x →
    new.first_freed ≡ old.first_freed → new.freed ≡ old.freed → new.ever_used ≡ old.ever_used → new.heap_last ≡ old.heap_last →
    shape_of new ≡ with_word p f x (shape_of old)
shape_written old new p f x l m e a b c d = λ i. record {
  pages = ((ap (λ ws. length ws / 16) e) ∙ ap (λ n. n / 16) (length-set old.words (16 * p + f) x)) i;
  word = λ q g. ((ap (λ ws. word_in ws q g) e) ∙ word_written old.words p f x l m q g) i;
  first_freed = a i;
  freed = b i;
  ever_used = c i;
  heap_last = d i;
}

-- a live number is from 1 up, and its page is there
pub live_some : (owner : ℕ → ℕ) (h : ℕ) → is_live_number owner h ≡ true → 0 < h
unfolding is_live_number
live_some owner h e = grind (arith, nat_tests)

pub live_own : (owner : ℕ → ℕ) (h : ℕ) → is_live_number owner h ≡ true → owner (h - 1) ≡ h
unfolding is_live_number
live_own owner h e = grind (arith, nat_tests)

pub live_none : (owner : ℕ → ℕ) → is_live_number owner 0 ≡ false
unfolding is_live_number
live_none owner = grind (arith, nat_tests)

pub live_page : (ws : List ℕ) (h : ℕ) → is_live_number (owner_of (word_in ws)) h ≡ true → h - 1 < length ws / 16
unfolding word_in
live_page ws h e = let s = live_some _ h e in let o = live_own _ h e in grind (arith, nat_tests)

pub known_none : (owner : ℕ → ℕ) (h : ℕ) → h ≡ 0 → false ≡ is_live_number owner h
unfolding is_live_number
known_none owner h e = grind (arith, nat_tests)

pub known_beyond : (ws : List ℕ) (h : ℕ) → length ws / 16 < h → false ≡ is_live_number (owner_of (word_in ws)) h
unfolding is_live_number
known_beyond ws h l = let w = word_beyond ws (h - 1) 1 (omega (arith, l)) in grind (arith, nat_tests)

pub known_here : (owner : ℕ → ℕ) (h w : ℕ) → (h ≡ 0 → ⊥) → w ≡ owner (h - 1) → nat_eq w h ≡ is_live_number owner h
unfolding is_live_number
known_here owner h w n e = grind (arith, nat_tests)

pub taken_here : (word : ℕ → ℕ → ℕ) (p w : ℕ) → w ≡ owner_of word p → nat_eq w 4098 ≡ is_taken_by word p
unfolding is_taken_by
taken_here word p w e = grind (arith, nat_tests)

pub taken_beyond : (ws : List ℕ) (p : ℕ) → length ws / 16 ≤ p → false ≡ is_taken_by (word_in ws) p
unfolding is_taken_by
taken_beyond ws p l = let w = word_beyond ws p 1 l in grind (arith, nat_tests)

pub last_of_heap : (t : Shape) (h : ℕ) → h ≡ 0 → last_of t h ≡ t.heap_last
unfolding last_of
last_of_heap t h e = grind (arith, nat_tests)

pub last_of_region : (t : Shape) (h : ℕ) → is_live_number (owner_of t.word) h ≡ true → last_of t h ≡ current_of t.word h + 1
unfolding last_of
last_of_region t h e = let l = live_some _ h e in let n : nat_eq h 0 ≡ false = grind (arith, nat_tests) in rw (n, e) refl

pub last_of_other : (t : Shape) (h : ℕ) → 0 < h → is_live_number (owner_of t.word) h ≡ false → last_of t h ≡ 0
unfolding last_of
last_of_other t h l e = let n : nat_eq h 0 ≡ false = grind (arith, nat_tests) in rw (n, e) refl

pub no_change : (xs : List ℕ) → changed_words xs xs ≡ 0
no_change [] = refl
no_change (x ∷ xs) = let ih = no_change xs in grind (arith, nat_tests)

-- a write changes one word more at most
pub one_change : (xs ys : List ℕ) (k v : ℕ) → changed_words xs (slice_set ys k v) ≤ changed_words xs ys + 1
one_change [] ys k v = grind (arith, nat_tests, common_steps)
one_change (x ∷ xs) [] k v = grind (arith, nat_tests, common_steps)
one_change (x ∷ xs) (y ∷ ys) zero v = grind (arith, nat_tests, common_steps)
one_change (x ∷ xs) (y ∷ ys) (suc k) v = let ih = one_change xs ys k v in grind (arith, nat_tests, common_steps)

pub two_changes : (xs us ys zs : List ℕ) (j k v w : ℕ) → us ≡ xs → ys ≡ slice_set us j v → zs ≡ slice_set ys k w → changed_words xs zs ≤ 2
two_changes xs us ys zs j k v w f d e =
    let a = one_change xs xs j v in let n = no_change xs in let b = one_change xs ys k w in
    let g : ys ≡ slice_set xs j v = d ∙ ap (λ t. slice_set t j v) f in
    subst (λ t. changed_words xs t ≤ 2) (sym e) (let c = subst (λ t. changed_words xs t ≤ changed_words xs xs + 1) (sym g) a in omega (arith, b, c, n))

-- what was said of a shape that is the same
pub live_seen : (before now : Shape) (h : ℕ) (b : Bool) → now ≡ before → b ≡ is_live_number (owner_of now.word) h → b ≡ true →
    is_live_number (owner_of before.word) h ≡ true
live_seen before now h b e v t = ap (λ k. is_live_number (owner_of k.word) h) (sym e) ∙ sym v ∙ t

pub dead_seen : (before now : Shape) (h : ℕ) (b : Bool) → now ≡ before → b ≡ is_live_number (owner_of now.word) h → b ≡ false →
    is_live_number (owner_of before.word) h ≡ false
dead_seen before now h b e v t = ap (λ k. is_live_number (owner_of k.word) h) (sym e) ∙ sym v ∙ t

pub free_seen : (before now : Shape) (b : Bool) → now ≡ before → b ≡ is_full (counts_of now) → b ≡ false → is_full (counts_of before) ≡ false
free_seen before now b e v t = ap (λ k. is_full (counts_of k)) (sym e) ∙ sym v ∙ t

-- a taken page is there
pub taken_page : (ws : List ℕ) (p : ℕ) → is_taken_by (word_in ws) p ≡ true → p < length ws / 16
unfolding is_taken_by word_in
taken_page ws p e = grind (arith, nat_tests)

pub taken_differs : (word : ℕ → ℕ → ℕ) (p w : ℕ) → w ≡ owner_of word p → (w ≡ 4098 → ⊥) → false ≡ is_taken_by word p
unfolding is_taken_by
taken_differs word p w e n = grind (arith, nat_tests)

pub taken_is : (word : ℕ → ℕ → ℕ) (p w : ℕ) → w ≡ owner_of word p → w ≡ 4098 → is_taken_by word p ≡ true
unfolding is_taken_by
taken_is word p w e n = grind (arith, nat_tests)
