-- Whose an address is, after a write to the tables.
use Rattle.std.proofs.Common.{◌≡◌, ℕ, ◌+◌, ◌-◌, ◌*◌, ◌/◌, ◌%◌, true, false, List, Some, None, nat_eq, nat_lt, refl, sym, ap, ◌∙◌, arith}
use Rattle.std.specs.Prelude.{slice_index, slice_set, if◌then◌else◌}
use Rattle.std.proofs.lemmas.Bool.Decides.{nat_tests}
use Rattle.arena_laws.specs.declared.owner.Owner.TheVariants.{Region, Alone}
use Rattle.arena_laws.specs.Holdings.{arena_base}
use Rattle.cyc_arena.specs.Plain.{address_of, owner_in, owner_at, page_at, place_at}
use Rattle.region_runtime.proofs.Words.{index_else}

-- ---- a page by its word

pub owner_nobody : (u p o : ℕ) (slots : List ℕ) → owner_in 0 u p o slots ≡ None
unfolding owner_in
owner_nobody u p o slots = refl

pub owner_region : (h u p o : ℕ) (slots : List ℕ) → owner_in (2 * h + 1) u p o slots ≡ (if nat_lt o u then Some (Region h) else None)
unfolding owner_in
owner_region h u p o slots =
    let some : nat_eq (2 * h + 1) 0 ≡ false = grind (arith, nat_tests) in
    let odd : nat_eq ((2 * h + 1) % 2) 1 ≡ true = grind (arith, nat_tests) in
    let half : (2 * h + 1) / 2 ≡ h = omega arith in
    rw (some, odd, half)

pub owner_class : (c u p o : ℕ) (slots : List ℕ) → owner_in (2 * c + 2) u p o slots
    ≡ (if nat_eq (slice_index slots (128 * p + o / c)) (2 * c + 1) then Some (Alone (address_of p (o / c * c)) c) else None)
unfolding owner_in
owner_class c u p o slots =
    let some : nat_eq (2 * c + 2) 0 ≡ false = grind (arith, nat_tests) in
    let even : nat_eq ((2 * c + 2) % 2) 1 ≡ false = grind (arith, nat_tests) in
    let half : (2 * c + 2) / 2 - 1 ≡ c = omega arith in
    rw (some, even, half)

-- ---- an address by its page

pub owner_below : (owner used slots : List ℕ) (q : ℕ) → nat_lt q arena_base ≡ true → owner_at owner used slots q ≡ None
unfolding owner_at
owner_below owner used slots q b = rw b

pub owner_here : (owner used slots : List ℕ) (q : ℕ) → nat_lt q arena_base ≡ false →
    owner_at owner used slots q ≡ owner_in (slice_index owner (page_at q)) (slice_index used (page_at q)) (page_at q) (place_at q) slots
unfolding owner_at
owner_here owner used slots q b = rw b

-- an address of a page whose word and use are these
pub owner_there : (owner used slots : List ℕ) (q p word u : ℕ) → nat_lt q arena_base ≡ false → nat_eq (page_at q) p ≡ true → slice_index owner p ≡ word →
    slice_index used p ≡ u → owner_at owner used slots q ≡ owner_in word u p (place_at q) slots
owner_there owner used slots q p word u b e w v =
    let same : page_at q ≡ p = grind (arith, nat_tests) in
    owner_here owner used slots q b
    ∙ ap (λ k. owner_in (slice_index owner k) (slice_index used k) k (place_at q) slots) same
    ∙ ap (λ x. owner_in x (slice_index used p) p (place_at q) slots) w
    ∙ ap (λ x. owner_in word x p (place_at q) slots) v

-- an address of a page whose word and use are the same in other tables
pub owner_same : (owner used slots owner2 used2 : List ℕ) (q : ℕ) → nat_lt q arena_base ≡ false →
    slice_index owner2 (page_at q) ≡ slice_index owner (page_at q) → slice_index used2 (page_at q) ≡ slice_index used (page_at q) →
    owner_at owner2 used2 slots q ≡ owner_at owner used slots q
owner_same owner used slots owner2 used2 q b w v =
    owner_here owner2 used2 slots q b
    ∙ ap (λ x. owner_in x (slice_index used2 (page_at q)) (page_at q) (place_at q) slots) w
    ∙ ap (λ x. owner_in (slice_index owner (page_at q)) x (page_at q) (place_at q) slots) v
    ∙ sym (owner_here owner used slots q b)

-- the tables differ at one page, and an address lies in another
pub owner_elsewhere : (owner used slots : List ℕ) (p word u q : ℕ) → nat_lt q arena_base ≡ false → nat_eq (page_at q) p ≡ false →
    owner_at (slice_set owner p word) (slice_set used p u) slots q ≡ owner_at owner used slots q
owner_elsewhere owner used slots p word u q b e =
    owner_same owner used slots (slice_set owner p word) (slice_set used p u) q b (index_else owner p word (page_at q) e) (index_else used p u (page_at q) e)

-- ---- rooms
