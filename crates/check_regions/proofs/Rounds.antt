-- Marks of regions, and regions that reach others by bounds in a number of steps.
use Rattle.std.specs.Prelude.{length, max, nat_eq, replicate, slice_get, slice_set, unwrap_or, ◌&&◌, ◌||◌, ◌≤◌, ◌<◌}
use Rattle.std.proofs.Common.{◌≡◌, ℕ, zero, suc, Bool, true, false, List, [], ◌∷◌, refl, sym, ◌∙◌, ap, subst, arith}
use Rattle.std.proofs.lemmas.List.{length-replicate, length-set}
use Rattle.source_typing.specs.Named.{Below, BoundsBelow}
use Rattle.source_typing.specs.Regions.{Level, Region, TheHeap, any_of, by_bounds, is_among, is_heap, reaches, same_id}
use Rattle.check_regions.specs.Reached.{has, is_near, marks_of, most, past, reaches_near, with_mark, with_marks}
use Rattle.check_regions.proofs.Extending.{turned}

-- ---- answers, joined

pub or_none : (a : Bool) → a ≡ a || false
or_none true = refl
or_none false = refl

or_all : (a : Bool) → true ≡ a || true
or_all true = refl
or_all false = refl

pub or_or : (a b c : Bool) → (a || b) || c ≡ a || (b || c)
or_or true b c = refl
or_or false b c = refl

-- ---- marks

pub kept_long : (x : Region) (m : List Bool) → length (with_mark x m) ≡ length m
kept_long TheHeap m = refl
kept_long (Level k) m = length-set m k true

all_long : (ts : List Region) (m : List Bool) → length (with_marks ts m) ≡ length m
all_long [] m = refl
all_long (t ∷ ts) m = all_long ts (with_mark t m) ∙ kept_long t m

pub so_many : (size : ℕ) (ts : List Region) → length (marks_of size ts) ≡ size
so_many size ts = all_long ts (replicate size false) ∙ length-replicate size false

marked_at : (m : List Bool) (j k : ℕ) → k < length m
    → unwrap_or (slice_get (slice_set m j true) k) false ≡ unwrap_or (slice_get m k) false || nat_eq j k
marked_at [] j k l = absurd (grind (arith, l))
marked_at (b ∷ m) zero zero l = or_all b
marked_at (b ∷ m) zero (suc k) l =
    let e : false ≡ nat_eq zero (suc k) = grind arith in
    or_none (unwrap_or (slice_get m k) false) ∙ ap (λ t. unwrap_or (slice_get m k) false || t) e
marked_at (b ∷ m) (suc j) zero l = let e : false ≡ nat_eq (suc j) zero = grind arith in or_none b ∙ ap (λ t. b || t) e
marked_at (b ∷ m) (suc j) (suc k) l =
    let e : nat_eq j k ≡ nat_eq (suc j) (suc k) = grind arith in
    marked_at m j k (grind (arith, l)) ∙ ap (λ t. unwrap_or (slice_get m k) false || t) e

pub marked : (x : Region) (m : List Bool) (a : Region) → Below (length m) a → has (with_mark x m) a ≡ has m a || same_id x a
marked TheHeap m TheHeap l = refl
marked TheHeap m (Level k) l = or_none (has m (Level k))
marked (Level j) m TheHeap l = refl
marked (Level j) m (Level k) l = marked_at m j k l

all_marked : (ts : List Region) (m : List Bool) (a : Region) → Below (length m) a → has (with_marks ts m) a ≡ has m a || is_among ts a
all_marked [] m a l = or_none (has m a)
all_marked (t ∷ ts) m a l =
    all_marked ts (with_mark t m) a (subst (λ n. Below n a) (sym (kept_long t m)) l)
    ∙ ap (λ b. b || is_among ts a) (marked t m a l) ∙ or_or (has m a) (same_id t a) (is_among ts a)

no_mark : (size k : ℕ) → k < size → unwrap_or (slice_get (replicate size false) k) false ≡ false
no_mark zero k l = absurd (grind (arith, l))
no_mark (suc n) zero l = refl
no_mark (suc n) (suc k) l = no_mark n k (grind (arith, l))

none_marked : (size : ℕ) (a : Region) → Below size a → has (replicate size false) a ≡ is_heap a
none_marked size TheHeap l = refl
none_marked size (Level k) l = no_mark size k l

pub first_marked : (size : ℕ) (ts : List Region) (a : Region) → Below size a → has (marks_of size ts) a ≡ is_near ts a
first_marked size ts a l =
    all_marked ts (replicate size false) a (subst (λ n. Below n a) (sym (length-replicate size false)) l)
    ∙ ap (λ b. b || is_among ts a) (none_marked size a l)

-- ---- steps

pub bounds_agree : (size : ℕ) (bs : List (Region × Region)) (a : Region) (f g : Region → Bool) → BoundsBelow size bs
    → ((c : Region) → Below size c → f c ≡ g c) → by_bounds bs a f ≡ by_bounds bs a g
bounds_agree size [] a f g h same = refl
bounds_agree size ((x, y) ∷ bs) a f g h same =
    ap (λ b. (same_id x a && b) || by_bounds bs a f) (same y h.1)
    ∙ ap (λ b. (same_id x a && g y) || b) (bounds_agree size bs a f g h.2 same)

-- ---- room for all

at_least : (bs : List (Region × Region)) (n : ℕ) → n ≤ most bs n
at_least [] n = omega arith
at_least ((x, y) ∷ bs) n = let h = at_least bs (max n (max (past x) (past y))) in omega (arith, h)

pub below_past : (r : Region) (n : ℕ) → past r ≤ n → Below n r
below_past TheHeap n l = tt
below_past (Level k) n l = omega (arith, l)

pub has_room : (bs : List (Region × Region)) (n : ℕ) → BoundsBelow (most bs n) bs
has_room [] n = tt
has_room ((x, y) ∷ bs) n =
    let m : ℕ = max n (max (past x) (past y)) in
    let h : m ≤ most bs m = at_least bs m in
    (below_past x (most bs m) (omega (arith, h)), below_past y (most bs m) (omega (arith, h)), has_room bs m)

-- ---- what is near, in the rules

agree : (bs : List (Region × Region)) (a : Region) (f g : Region → Bool) → ((c : Region) → f c ≡ g c) → by_bounds bs a f ≡ by_bounds bs a g
agree [] a f g same = refl
agree ((x, y) ∷ bs) a f g same =
    ap (λ b. (same_id x a && b) || by_bounds bs a f) (same y) ∙ ap (λ b. (same_id x a && g y) || b) (agree bs a f g same)

-- what is near is one region, and what it outlives
pub reaches_one : (near : Region → Bool) (b : Region) → ((a : Region) → near a ≡ is_heap a || same_id a b)
    → (bs : List (Region × Region)) (n : ℕ) (a : Region) → reaches_near near bs n a ≡ reaches n bs a b
reaches_one near b h bs zero a = h a
reaches_one near b h bs (suc n) a =
    ap (λ t. t || by_bounds bs a (λ c. reaches_near near bs n c)) (h a)
    ∙ ap (λ t. (is_heap a || same_id a b) || t)
    (agree bs a (λ c. reaches_near near bs n c) (λ c. reaches n bs c b) (λ c. reaches_one near b h bs n c))

-- what is near is near one way or the other
pub both_bounds : (bs : List (Region × Region)) (a : Region) (f g : Region → Bool)
    → by_bounds bs a (λ c. f c || g c) ≡ by_bounds bs a f || by_bounds bs a g
both_bounds [] a f g = refl
both_bounds ((x, y) ∷ bs) a f g =
    ap (λ t. (same_id x a && (f y || g y)) || t) (both_bounds bs a f g)
    ∙ split (same_id x a) (f y) (g y) (by_bounds bs a f) (by_bounds bs a g)
  where
    split : (s p q u v : Bool) → (s && (p || q)) || (u || v) ≡ ((s && p) || u) || ((s && q) || v)
    split true true q u v = refl
    split true false true true v = refl
    split true false true false v = refl
    split true false false u v = refl
    split false p q u v = refl

reaches_either : (near one other : Region → Bool) → ((a : Region) → near a ≡ one a || other a)
    → (bs : List (Region × Region)) (n : ℕ) (a : Region) → reaches_near near bs n a ≡ reaches_near one bs n a || reaches_near other bs n a
reaches_either near one other h bs zero a = h a
reaches_either near one other h bs (suc n) a =
    let f : Region → Bool = λ c. reaches_near one bs n c in
    let g : Region → Bool = λ c. reaches_near other bs n c in
    ap (λ t. t || by_bounds bs a (λ c. reaches_near near bs n c)) (h a)
    ∙ ap (λ t. (one a || other a) || t)
    (agree bs a (λ c. reaches_near near bs n c) (λ c. f c || g c) (λ c. reaches_either near one other h bs n c) ∙ both_bounds bs a f g)
    ∙ crossed (one a) (other a) (by_bounds bs a f) (by_bounds bs a g)
  where
    crossed : (p q u v : Bool) → (p || q) || (u || v) ≡ (p || u) || (q || v)
    crossed true q u v = refl
    crossed false true true v = refl
    crossed false true false v = refl
    crossed false false u v = refl

-- the heap alone, where none is named
pub reaches_heap : (bs : List (Region × Region)) (n : ℕ) (a : Region) → reaches_near (is_near []) bs n a ≡ reaches n bs a TheHeap
reaches_heap bs n a = reaches_one (is_near []) TheHeap near bs n a
  where
    near : (a : Region) → is_near [] a ≡ is_heap a || same_id a TheHeap
    near TheHeap = refl
    near (Level k) = refl

pub reaches_only : (b : Region) (bs : List (Region × Region)) (n : ℕ) (a : Region) → reaches_near (is_near (b ∷ [])) bs n a ≡ reaches n bs a b
reaches_only b bs n a =
    reaches_one (is_near (b ∷ [])) b (λ a. ap (λ t. is_heap a || t) (sym (or_none (same_id b a)) ∙ turned b a)) bs n a

pub reaches_each : (ts : List Region) (bs : List (Region × Region)) (n : ℕ) (a : Region)
    → reaches_near (is_near ts) bs n a ≡ reaches n bs a TheHeap || any_of ts (reaches n bs a)
reaches_each [] bs n a = reaches_heap bs n a ∙ or_none (reaches n bs a TheHeap)
reaches_each (t ∷ ts) bs n a =
    reaches_either (is_near (t ∷ ts)) (is_near ts) (is_near (t ∷ [])) near bs n a
    ∙ ap (λ x. x || reaches_near (is_near (t ∷ [])) bs n a) (reaches_each ts bs n a)
    ∙ ap (λ x. (reaches n bs a TheHeap || any_of ts (reaches n bs a)) || x) (reaches_only t bs n a)
    ∙ swapped (reaches n bs a TheHeap) (any_of ts (reaches n bs a)) (reaches n bs a t)
  where
    swapped : (p q r : Bool) → (p || q) || r ≡ p || (r || q)
    swapped true q r = refl
    swapped false true true = refl
    swapped false true false = refl
    swapped false false r = or_none r

    parted : (p q r : Bool) → p || (q || r) ≡ (p || r) || (p || (q || false))
    parted true q r = refl
    parted false true true = refl
    parted false true false = refl
    parted false false true = refl
    parted false false false = refl

    near : (a : Region) → is_near (t ∷ ts) a ≡ is_near ts a || is_near (t ∷ []) a
    near a = parted (is_heap a) (same_id t a) (is_among ts a)
