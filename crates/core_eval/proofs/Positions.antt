-- Where a block with a number stands among blocks whose numbers fall.
use Rattle.std.specs.Prelude.{slice_index_or, nat_eq, nat_lt, option_map, if◌then◌else◌}
use Rattle.std.specs.List.Sorted.{IsPartitionedBy, IsPartitionPoint}
use Rattle.std.proofs.Common.{◌≡◌, ◌≢◌, ℕ, zero, suc, ◌<◌, ◌≤◌, Bool, true, false, Some, None, List, [], ◌∷◌, length, map, refl, ap, ◌∙◌, sym, subst, arith}
use Rattle.std.proofs.lemmas.Bool.Decides.{nat_tests}
use Rattle.core_eval.specs.declared.blocks.Block.{Block}
use Rattle.core_eval.specs.Blocks.{Descends, activation_of, position_of}

index_same : (bs : List Block) (i : ℕ) (d d' : Block) → i < length bs → slice_index_or bs i d ≡ slice_index_or bs i d'
index_same [] i d d' within = absurd (omega (arith, within))
index_same (b ∷ bs) zero d d' within = refl
index_same (b ∷ bs) (suc i) d d' within = index_same bs i d d' (omega (arith, within))

module _ (k : ℕ) where
  abbrev pub before : Block → Bool
  before b = nat_lt k b.number

  -- numbers below a bound
  later : (bound : ℕ) (bs : List Block) (j : ℕ) (d : Block) → Descends bound (map activation_of bs) → j < length bs → (slice_index_or bs j d).number < bound
  later bound [] j d h lt = absurd (omega (arith, lt))
  later bound (b ∷ bs) zero d (below, rest) lt = below
  later bound (b ∷ bs) (suc j) d (below, rest) lt = let less = later b.number bs j d rest (omega (arith, lt)) in omega (arith, less, below)

  falls : (bound : ℕ) (bs : List Block) (i j : ℕ) (d : Block) → Descends bound (map activation_of bs) → i ≤ j → j < length bs
      → (slice_index_or bs j d).number ≤ (slice_index_or bs i d).number
  falls bound [] i j d h le lt = absurd (omega (arith, lt))
  falls bound (b ∷ bs) zero zero d h le lt = omega arith
  falls bound (b ∷ bs) zero (suc j) d (below, rest) le lt = let less = later b.number bs j d rest (omega (arith, lt)) in omega (arith, less)
  falls bound (b ∷ bs) (suc i) zero d h le lt = absurd (omega (arith, le))
  falls bound (b ∷ bs) (suc i) (suc j) d (below, rest) le lt = falls b.number bs i j d rest (omega (arith, le)) (omega (arith, lt))

  pub parted : (bound : ℕ) (bs : List Block) → Descends bound (map activation_of bs) → IsPartitionedBy before bs
  parted bound bs h = λ i j d le lt e. let f = falls bound bs i j d h le lt in grind (arith, nat_tests, f, e)

  -- numbers above k come first
  abbrev Above : List Block → ℕ → Type 0
  Above bs p = (i : ℕ) (d : Block) → i < p → k < (slice_index_or bs i d).number

  pub position_at : (bs : List Block) (p : ℕ) (d : Block) → Above bs p → p < length bs → (slice_index_or bs p d).number ≡ k
      → position_of (map activation_of bs) k ≡ Some p
  position_at [] p d above lt e = absurd (omega (arith, lt))
  position_at (b ∷ bs) zero d above lt e =
      let is : nat_eq b.number k ≡ true = grind (arith, nat_tests, e) in
      ap (λ t. if t then Some 0 else option_map suc (position_of (map activation_of bs) k)) is
  position_at (b ∷ bs) (suc p) d above lt e =
      let more = above 0 d (omega arith) in
      let not : nat_eq b.number k ≡ false = grind (arith, nat_tests, more) in
      ap (λ t. if t then Some 0 else option_map suc (position_of (map activation_of bs) k)) not
      ∙ ap (option_map suc) (position_at bs p d (λ i d lt. above (suc i) d (omega (arith, lt))) (omega (arith, lt)) e)

  -- none has the number
  pub position_none : (bs : List Block) → ((i : ℕ) (d : Block) → i < length bs → (slice_index_or bs i d).number ≢ k)
      → position_of (map activation_of bs) k ≡ None
  position_none [] other = refl
  position_none (b ∷ bs) other =
      let no = other 0 b (omega arith) in
      let not : nat_eq b.number k ≡ false = grind (arith, nat_tests, no) in
      ap (λ t. if t then Some 0 else option_map suc (position_of (map activation_of bs) k)) not
      ∙ ap (option_map suc) (position_none bs (λ i d lt. other (suc i) d (omega (arith, lt))))

  -- ---- at the point where the numbers above k end

  abbrev Point : List Block → ℕ → Type 0
  Point bs p = IsPartitionPoint (λ b. before b ≡ true) (λ b. before b ≡ false) bs p

  above_point : (bs : List Block) (p : ℕ) → Point bs p → p ≤ length bs → Above bs p
  above_point bs p point le i d lt = let e = point.0 i d (omega arith) lt in grind (arith, nat_tests, e)

  pub found_there : (bs : List Block) (p : ℕ) (d : Block) → Point bs p → p < length bs → (slice_index_or bs p d).number ≡ k
      → Some p ≡ position_of (map activation_of bs) k
  found_there bs p d point lt e = sym (position_at bs p d (above_point bs p point (omega (arith, lt))) lt e)

  -- the block at the point has another number, so all later ones have
  pub found_other : (bound : ℕ) (bs : List Block) (p : ℕ) (d : Block) → Descends bound (map activation_of bs) → Point bs p → p < length bs
      → (slice_index_or bs p d).number ≢ k → None ≡ position_of (map activation_of bs) k
  found_other bound bs p d h point lt other = sym (position_none bs (λ i d' within. by i d' within (nat_lt i p) refl))
    where
      by : (i : ℕ) (d' : Block) → i < length bs → (t : Bool) → nat_lt i p ≡ t → (slice_index_or bs i d').number ≢ k
      by i d' within true t =
          let less : i < p = grind (arith, nat_tests, t) in
          let above = above_point bs p point (omega (arith, lt)) i d' less in omega (arith, above)
      by i d' within false t =
          let more : p ≤ i = grind (arith, nat_tests, t) in
          let at : nat_lt k (slice_index_or bs p d).number ≡ false = point.1 p d (omega arith) lt in
          let f = falls bound bs p i d h more within in
          let least : (slice_index_or bs p d).number < k = grind (arith, nat_tests, at, other) in
          subst (λ (b : Block). b.number ≢ k) (index_same bs i d d' within) (omega (arith, f, least))

  -- all numbers are above k
  pub found_past : (bs : List Block) (p : ℕ) → Point bs p → length bs ≤ p → None ≡ position_of (map activation_of bs) k
  found_past bs p point past = sym (position_none bs (λ i d within. let e = point.0 i d (omega arith) (omega (arith, within, past)) in
      let above : k < (slice_index_or bs i d).number = grind (arith, nat_tests, e) in omega (arith, above)))
