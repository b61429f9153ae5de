-- Regions that were born as the code has them, in chunks, and one of them that changes.
use Rattle.std.specs.Prelude.{slice_get, slice_set, option_map, nat_eq, nat_lt, ◌/◌, ◌%◌, if◌then◌else◌}
use Rattle.std.specs.List.{range_with_len, ItemBy}
use Rattle.std.specs.Option.{OnSome}
use Rattle.std.specs.Vec.{with_item}
use Rattle.std.specs.declared.vec.Vec.{Vec}
use Rattle.std.specs.declared.alloc.Global.{Global}
use Rattle.std.proofs.Common.{
  ◌≡◌,
  ◌≢◌,
  ℕ,
  zero,
  suc,
  ◌+◌,
  ◌<◌,
  ◌≤◌,
  Bool,
  true,
  false,
  Option,
  Some,
  None,
  List,
  [],
  ◌∷◌,
  ◌++◌,
  length,
  map,
  refl,
  ap,
  ◌∙◌,
  sym,
  arith,
  MutBor,
}
use Rattle.std.proofs.lemmas.List.FromFn.{length-map-range_with_len, map-range_with_len_more}
use Rattle.std.proofs.lemmas.List.{set_past}
use Rattle.std.proofs.lemmas.Bool.Decides.{nat_tests}
use Rattle.core_eval.specs.declared.region.Region.{Region}
use Rattle.core_eval.specs.Regions.{Kept, Regions, held_region, item_held, chunk_held, held_at, still_held, region_at}
use Rattle.core_eval.proofs.Lists.{get_set, get_within, get_past}
use Rattle.core_eval.proofs.Memories.{same_number}

-- ---- what a function gives at each number

module _ {A : Type 0} where
  -- one that gives the same everywhere
  same_listed : (f g : ℕ → A) (a n : ℕ) → ((m : ℕ) → g m ≡ f m) → map g (range_with_len a n) ≡ map f (range_with_len a n)
  same_listed f g a zero h = refl
  same_listed f g a (suc n) h = ap (λ x. x ∷ map g (range_with_len (a + 1) n)) (h a) ∙ ap (λ l. f a ∷ l) (same_listed f g (a + 1) n h)

  -- one that gives another value at a number before the first
  same_beyond : (f g : ℕ → A) (a n k : ℕ) → k < a → ((m : ℕ) → m ≢ k → g m ≡ f m) → map g (range_with_len a n) ≡ map f (range_with_len a n)
  same_beyond f g a zero k less h = refl
  same_beyond f g a (suc n) k less h =
      ap (λ x. x ∷ map g (range_with_len (a + 1) n)) (h a (omega (arith, less)))
      ∙ ap (λ l. f a ∷ l) (same_beyond f g (a + 1) n k (omega (arith, less)) h)

  set_from : (f g : ℕ → A) (a n k : ℕ) (x : A) → ((m : ℕ) → m ≢ a + k → g m ≡ f m) → g (a + k) ≡ x
      → map g (range_with_len a n) ≡ slice_set (map f (range_with_len a n)) k x
  set_from f g a zero k x h e = refl
  set_from f g a (suc n) zero x h e =
      ap (λ y. y ∷ map g (range_with_len (a + 1) n)) (ap g (omega arith) ∙ e)
      ∙ ap (λ l. x ∷ l) (same_beyond f g (a + 1) n a (omega arith) (λ m other. h m (omega (arith, other))))
  set_from f g a (suc n) (suc k) x h e =
      ap (λ y. y ∷ map g (range_with_len (a + 1) n)) (h a (omega arith))
      ∙ ap (λ l. f a ∷ l) (set_from f g (a + 1) n k x (λ m other. h m (omega (arith, other))) (ap g (omega arith) ∙ e))

  -- a function that gives another value at one number
  pub set_listed : (f g : ℕ → A) (n k : ℕ) (x : A) → ((m : ℕ) → m ≢ k → g m ≡ f m) → g k ≡ x
      → map g (range_with_len 0 n) ≡ slice_set (map f (range_with_len 0 n)) k x
  set_listed f g n k x h e = set_from f g 0 n k x (λ m other. h m (omega (arith, other))) (ap g (omega arith) ∙ e)

  get_from : (f : ℕ → A) (a n k : ℕ) → k < n → slice_get (map f (range_with_len a n)) k ≡ Some (f (a + k))
  get_from f a zero k h = absurd (omega (arith, h))
  get_from f a (suc n) zero h = ap (λ m. Some (f m)) (omega arith)
  get_from f a (suc n) (suc k) h = get_from f (a + 1) n k (omega (arith, h)) ∙ ap (λ m. Some (f m)) (omega arith)

  pub get_listed : (f : ℕ → A) (n k : ℕ) → k < n → slice_get (map f (range_with_len 0 n)) k ≡ Some (f k)
  get_listed f n k h = get_from f 0 n k h ∙ ap (λ m. Some (f m)) (omega arith)

-- ---- what is there

abbrev pub Chunk : Type 0
Chunk = Vec Region Global

abbrev pub listed : List Chunk → ℕ → Regions
listed cs born = map (held_at cs) (range_with_len 0 born)

-- an item that is lent
pub item_lent : {R X : Type 0} (now : R → X) (xs : List X) (k : ℕ) (r : Option R) → ItemBy now xs k k r → slice_get xs k ≡ option_map now r
item_lent now xs k None is = get_past xs k is.3
item_lent now xs k (Some x) is = get_within xs k (now x) is.3.0 is.1

-- what holds where there is something
pub when_some : {R : Type 0} {P : Type 0} (r : Option R) (x : R) → r ≡ Some x → OnSome r P → P
when_some None x is p = cc
when_some (Some y) x is p = p

pub length_listed : (cs : List Chunk) (born : ℕ) → length (listed cs born) ≡ born
length_listed cs born = length-map-range_with_len (held_at cs) 0 born

module _ (cs : List Chunk) (born n : ℕ) where
  -- none was born with that number
  pub region_unborn : born ≤ n → region_at (listed cs born) n ≡ None
  region_unborn h = ap still_held (get_past (listed cs born) n (let many = length_listed cs born in omega (arith, h, many)))

  region_born : n < born → region_at (listed cs born) n ≡ held_at cs n
  region_born h = ap still_held (get_listed (held_at cs) born n h)

  -- the one that stands there, if there is such an item
  pub region_there : n < born → (chunk : Chunk) → slice_get cs (n / 64) ≡ Some chunk → (o : Option Region) → slice_get chunk.items (n % 64) ≡ o
      → region_at (listed cs born) n ≡ item_held o
  region_there h chunk there o item = region_born h ∙ ap (λ c. chunk_held c (n % 64)) there ∙ ap item_held item

  -- there is no such chunk
  pub region_nowhere : slice_get cs (n / 64) ≡ None → region_at (listed cs born) n ≡ None
  region_nowhere none = by (nat_lt n born) refl
    where
      by : (b : Bool) → nat_lt n born ≡ b → region_at (listed cs born) n ≡ None
      by true e = region_born (grind (arith, nat_tests, e)) ∙ ap (λ c. chunk_held c (n % 64)) none
      by false e = region_unborn (grind (arith, nat_tests, e))

-- ---- an item of a chunk that changes

-- a number is known by its chunk and its position in it
same_place : (m n : ℕ) → m / 64 ≡ n / 64 → m % 64 ≡ n % 64 → m ≡ n
same_place m n chunk item = omega (arith, chunk, item)

-- one of two items
pub held_if : (b : Bool) (o p : Option Region) → item_held (if b then o else p) ≡ (if b then item_held o else item_held p)
held_if true o p = refl
held_if false o p = refl

module _ (cs : List Chunk) (n : ℕ) (chunk : Chunk) (there : slice_get cs (n / 64) ≡ Some chunk) where
  module _ (new : Chunk) where
    -- the chunk of another number, or its own
    of_chunk : (m : ℕ) → slice_get (slice_set cs (n / 64) new) (m / 64) ≡ (if nat_eq (m / 64) (n / 64) then Some new else slice_get cs (m / 64))
    of_chunk m = get_set cs (n / 64) new chunk (m / 64) there

    module _ (x : Option Kept)
        (changed : (k : ℕ) → item_held (slice_get new.items k) ≡ (if nat_eq k (n % 64) then x else item_held (slice_get chunk.items k))) where
      pub held_changed : held_at (slice_set cs (n / 64) new) n ≡ x
      held_changed =
          ap (λ o. chunk_held o (n % 64)) (of_chunk n ∙ ap (λ b. if b then Some new else slice_get cs (n / 64)) (same_number (n / 64)))
          ∙ changed (n % 64) ∙ ap (λ b. if b then x else item_held (slice_get chunk.items (n % 64))) (same_number (n % 64))

      pub held_others : (m : ℕ) → m ≢ n → held_at (slice_set cs (n / 64) new) m ≡ held_at cs m
      held_others m other = by (nat_eq (m / 64) (n / 64)) refl
        where
          by_item : (b : Bool) → nat_eq (m % 64) (n % 64) ≡ b → m / 64 ≡ n / 64 → (if b then x else item_held (slice_get chunk.items (m % 64))) ≡ held_at cs m
          by_item true e same = absurd (other (same_place m n same (grind (arith, nat_tests, e))))
          by_item false e same = sym (ap (λ o. chunk_held o (m % 64)) (ap (slice_get cs) same ∙ there))

          by : (b : Bool) → nat_eq (m / 64) (n / 64) ≡ b → held_at (slice_set cs (n / 64) new) m ≡ held_at cs m
          by true e =
              ap (λ o. chunk_held o (m % 64)) (of_chunk m ∙ ap (λ b. if b then Some new else slice_get cs (m / 64)) e)
              ∙ changed (m % 64)
              ∙ by_item (nat_eq (m % 64) (n % 64)) refl (grind (arith, nat_tests, e))
          by false e = ap (λ o. chunk_held o (m % 64)) (of_chunk m ∙ ap (λ b. if b then Some new else slice_get cs (m / 64)) e)

  -- a chunk with an item that was lent
  pub lent_item : (born : ℕ) (r : Option (MutBor Region)) → slice_get chunk.items (n % 64) ≡ option_map (λ region. region.now) r → (w : Region)
      → OnSome r (listed (slice_set cs (n / 64) (with_item chunk (n % 64) w)) born ≡ slice_set (listed cs born) n (held_region w))
  lent_item born None item w = tt
  lent_item born (Some old) item w =
      let one = with_item chunk (n % 64) w in
      let changed : (k : ℕ) → item_held (slice_get one.items k) ≡ (if nat_eq k (n % 64) then held_region w else item_held (slice_get chunk.items k)) =
      λ k. ap item_held (get_set chunk.items (n % 64) w old.now k item) ∙ held_if (nat_eq k (n % 64)) (Some w) (slice_get chunk.items k) in
      set_listed (held_at cs) (held_at (slice_set cs (n / 64) one)) born n (held_region w)
      (held_others one (held_region w) changed) (held_changed one (held_region w) changed)

-- another chunk that holds the same
chunk_same : (cs : List Chunk) (c : ℕ) (chunk new : Chunk) → slice_get cs c ≡ Some chunk
    → ((k : ℕ) → item_held (slice_get new.items k) ≡ item_held (slice_get chunk.items k)) → (m : ℕ) → held_at (slice_set cs c new) m ≡ held_at cs m
chunk_same cs c chunk new there same m =
    ap (λ o. chunk_held o (m % 64)) (get_set cs c new chunk (m / 64) there) ∙ by (nat_eq (m / 64) c) refl
  where
    by : (b : Bool) → nat_eq (m / 64) c ≡ b → chunk_held (if b then Some new else slice_get cs (m / 64)) (m % 64) ≡ held_at cs m
    by true e =
        let is : m / 64 ≡ c = grind (arith, nat_tests, e) in
        same (m % 64) ∙ sym (ap (λ o. chunk_held o (m % 64)) (ap (slice_get cs) is ∙ there))
    by false e = refl

pub kept_listed : (cs : List Chunk) (c : ℕ) (chunk new : Chunk) (born : ℕ) → slice_get cs c ≡ Some chunk
    → ((k : ℕ) → item_held (slice_get new.items k) ≡ item_held (slice_get chunk.items k)) → listed (slice_set cs c new) born ≡ listed cs born
kept_listed cs c chunk new born there same =
    same_listed (held_at cs) (held_at (slice_set cs c new)) 0 born (chunk_same cs c chunk new there same)

-- a region more
pub more_listed : (cs cs' : List Chunk) (born : ℕ) (x : Option Kept) → ((m : ℕ) → m ≢ born → held_at cs' m ≡ held_at cs m) → held_at cs' born ≡ x
    → listed cs' (born + 1) ≡ listed cs born ++ x ∷ []
more_listed cs cs' born x others at =
    let many = length_listed cs born in
    map-range_with_len_more (held_at cs') 0 born born (omega arith)
    ∙ ap (λ l. l ++ held_at cs' born ∷ [])
    (set_listed (held_at cs) (held_at cs') born born x others at ∙ set_past (listed cs born) born x (omega (arith, many)))
    ∙ ap (λ y. listed cs born ++ y ∷ []) at

-- ---- one region that changes

-- what stands there is put there
pub same_there : (regions : Regions) (n : ℕ) (held : Option Kept) → region_at regions n ≡ held → slice_set regions n held ≡ regions
same_there [] n held e = refl
same_there (r ∷ regions) zero held e = ap (λ o. o ∷ regions) (sym e)
same_there (r ∷ regions) (suc n) held e = ap (λ l. r ∷ l) (same_there regions n held e)

module _ (rs : Regions) (n : ℕ) (held : Option Kept) (at : region_at rs n ≡ held) (new : Option Kept) (rs' : Regions) (is : rs' ≡ slice_set rs n new) where
  -- a change that may fail
  pub change_some : (change : Option Kept → Option (Option Kept)) (is_done : Bool) → change held ≡ (if is_done then Some new else None)
      → option_map (slice_set rs n) (change (region_at rs n)) ≡ (if is_done then Some rs' else None)
  change_some change true done = ap (λ o. option_map (slice_set rs n) (change o)) at ∙ ap (option_map (slice_set rs n)) done ∙ ap Some (sym is)
  change_some change false done = ap (λ o. option_map (slice_set rs n) (change o)) at ∙ ap (option_map (slice_set rs n)) done

  -- a change that always is
  pub changed_some : (change : Option Kept → Option Kept) → new ≡ change held → rs' ≡ slice_set rs n (change (region_at rs n))
  changed_some change done = is ∙ ap (slice_set rs n) (done ∙ ap change (sym at))

  -- no change
  pub kept_region : new ≡ held → rs' ≡ rs
  kept_region same = is ∙ ap (slice_set rs n) same ∙ same_there rs n held at

-- no change where there is no such region
pub changed_none : (rs rs' : Regions) (n : ℕ) (change : Option Kept → Option Kept) → region_at rs n ≡ None → rs' ≡ rs → change None ≡ None
    → rs' ≡ slice_set rs n (change (region_at rs n))
changed_none rs rs' n change at same nothing =
    same ∙ sym (ap (λ o. slice_set rs n (change o)) at ∙ ap (slice_set rs n) nothing ∙ same_there rs n None at)
