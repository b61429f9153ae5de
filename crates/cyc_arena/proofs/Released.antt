-- A live number is given up: all its pages are free again, and its blocks are live no more.
use Rattle.std.proofs.Common.{
  ◌≡◌,
  ℕ,
  zero,
  suc,
  ◌+◌,
  ◌-◌,
  ◌*◌,
  ◌/◌,
  ◌%◌,
  ◌<◌,
  ◌≤◌,
  Bool,
  true,
  false,
  List,
  [],
  ◌∷◌,
  length,
  Option,
  Some,
  None,
  nat_eq,
  nat_lt,
  refl,
  sym,
  ap,
  subst,
  ◌∙◌,
  arith,
  length-set,
}
use Rattle.std.specs.Prelude.{slice_index, slice_set, if◌then◌else◌}
use Rattle.std.proofs.lemmas.Bool.Decides.{nat_tests}
use Rattle.arena_laws.specs.declared.standing.Standing.{Standing}
use Rattle.arena_laws.specs.Counts.{without_region}
use Rattle.arena_laws.specs.declared.owner.Owner.TheVariants.{Region, Alone}
use Rattle.arena_laws.specs.Holdings.{is_none, is_some, arena_base}
use Rattle.arena_laws.specs.Lawful.{is_of, without_blocks, without_number}
use Rattle.cyc_arena.specs.Plain.{
  Plain,
  IsSound,
  IsInPage,
  IsCleared,
  count_of,
  count_below,
  address_of,
  owner_in,
  owner_at,
  page_at,
  place_at,
  standing_at,
  left_of,
  counts_of,
  holdings_of,
}
use Rattle.cyc_arena.proofs.Pages.{below_cleared, below_all}
use Rattle.region_runtime.proofs.Words.{index_at, index_else, index_set}
use Rattle.cyc_arena.proofs.Words.{is_place, standing_set}
use Rattle.cyc_arena.proofs.Owners.{owner_below, owner_here, owner_region, owner_nobody}

-- ---- counts of a list whose places with one word are cleared

pub count_free : (x : ℕ) (ys zs : List ℕ) → 0 < x → IsCleared x ys zs → count_of 0 zs ≡ count_of 0 ys + count_of x ys
count_free x [] [] b c = refl
count_free x [] (z ∷ zs) b c = absurd (let l = c.long in omega (arith, l))
count_free x (y ∷ ys) [] b c = absurd (let l = c.long in omega (arith, l))
count_free x (y ∷ ys) (z ∷ zs) b c =
    let l = c.long in
    let ih = count_free x ys zs b (record { long = omega (arith, l); each = λ q. c.each (suc q) }) in
    let e : z ≡ (if nat_eq y x then 0 else y) = c.each 0 in
    grind (arith, nat_tests)

pub count_cleared : (x k : ℕ) (ys zs : List ℕ) → 0 < k → IsCleared x ys zs → count_of k zs ≡ (if nat_eq k x then 0 else count_of k ys)
count_cleared x k [] [] b c = grind (arith, nat_tests)
count_cleared x k [] (z ∷ zs) b c = absurd (let l = c.long in omega (arith, l))
count_cleared x k (y ∷ ys) [] b c = absurd (let l = c.long in omega (arith, l))
count_cleared x k (y ∷ ys) (z ∷ zs) b c =
    let l = c.long in
    let ih = count_cleared x k ys zs b (record { long = omega (arith, l); each = λ q. c.each (suc q) }) in
    let e : z ≡ (if nat_eq y x then 0 else y) = c.each 0 in
    grind (arith, nat_tests)

-- ---- a page whose word is cleared

-- a word that is no region's is no owner of a region
other_word : (h w u p o : ℕ) (slots : List ℕ) → nat_eq w (2 * h + 1) ≡ false → is_of h (owner_in w u p o slots) ≡ false
unfolding owner_in
other_word h w u p o slots e = by_zero (nat_eq w 0) refl
  where
    by_test : (t : Bool) (at c : ℕ) → is_of h (if t then Some (Alone at c) else None) ≡ false
    by_test true at c = refl
    by_test false at c = refl

    by_use : (t : Bool) → nat_eq (w % 2) 1 ≡ true → is_of h (if t then Some (Region (w / 2)) else None) ≡ false
    by_use true d = grind (arith, nat_tests)
    by_use false d = refl

    by_odd : (b : Bool) → nat_eq (w % 2) 1 ≡ b → is_of h (if b then (if nat_lt o u then Some (Region (w / 2)) else None) else
        let c = w / 2 - 1 in if nat_eq (slice_index slots (128 * p + o / c)) (2 * c + 1) then Some (Alone (address_of p (o / c * c)) c) else None) ≡ false
    by_odd true d = by_use (nat_lt o u) d
    by_odd false d = let c = w / 2 - 1 in by_test (nat_eq (slice_index slots (128 * p + o / c)) (2 * c + 1)) (address_of p (o / c * c)) c

    by_zero : (b : Bool) → nat_eq w 0 ≡ b → is_of h (if b then None else if nat_eq (w % 2) 1 then (if nat_lt o u then Some (Region (w / 2)) else None) else
        let c = w / 2 - 1 in if nat_eq (slice_index slots (128 * p + o / c)) (2 * c + 1) then Some (Alone (address_of p (o / c * c)) c) else None) ≡ false
    by_zero true d = refl
    by_zero false d = by_odd (nat_eq (w % 2) 1) refl

own_word : (h u p o : ℕ) (slots : List ℕ) → (if is_of h (owner_in (2 * h + 1) u p o slots) then None else owner_in (2 * h + 1) u p o slots) ≡ None
own_word h u p o slots = rw (owner_region h u p o slots) (by_use (nat_lt o u))
  where
    by_use : (t : Bool) → (if is_of h (if t then Some (Region h) else None) then None else (if t then Some (Region h) else None)) ≡ None
    by_use true = grind (arith, nat_tests)
    by_use false = refl

cleared_word : (b : Bool) (h w u p o : ℕ) (slots : List ℕ) → nat_eq w (2 * h + 1) ≡ b →
    owner_in (if b then 0 else w) u p o slots ≡ (if is_of h (owner_in w u p o slots) then None else owner_in w u p o slots)
cleared_word true h w u p o slots e =
    let same : w ≡ 2 * h + 1 = grind (arith, nat_tests) in
    owner_nobody u p o slots ∙ sym (own_word h u p o slots) ∙ ap (λ x. if is_of h (owner_in x u p o slots) then None else owner_in x u p o slots) (sym same)
cleared_word false h w u p o slots e = ap (λ t. if t then None else owner_in w u p o slots) (sym (other_word h w u p o slots e))

-- ---- the store after

module _ (s : Plain) (h : ℕ) (zs : List ℕ) (sound : IsSound s) (there : is_some (standing_at s.standing h) ≡ true) (cleared : IsCleared
    (2 * h + 1) s.owner zs) where
  abbrev pub after : Plain
  after = record s { owner = zs; last = slice_set s.last h 0; standing = slice_set s.standing h None }

  owner_by : (b : Bool) (q : ℕ) → nat_lt q arena_base ≡ b → owner_at zs s.used s.slots q ≡ without_blocks h (owner_at s.owner s.used s.slots) q
  owner_by true q b = owner_below zs s.used s.slots q b ∙ ap (λ o. if is_of h o then None else o) (sym (owner_below s.owner s.used s.slots q b))
  owner_by false q b =
      let word = slice_index s.owner (page_at q) in
      owner_here zs s.used s.slots q b
      ∙ ap (λ w. owner_in w (slice_index s.used (page_at q)) (page_at q) (place_at q) s.slots) (cleared.each (page_at q))
      ∙ cleared_word (nat_eq word (2 * h + 1)) h word (slice_index s.used (page_at q)) (page_at q) (place_at q) s.slots refl
      ∙ ap (λ o. if is_of h o then None else o) (sym (owner_here s.owner s.used s.slots q b))

  some_number : 0 < h
  some_number = by_number h there
    where
      by_number : (k : ℕ) → is_some (standing_at s.standing k) ≡ true → 0 < k
      by_number zero t = let e = sound.heap in absurd (cc)
      by_number (suc k) t = omega arith

  is_not_none : (o : Option Standing) → is_some o ≡ true → is_none o ≡ false
  is_not_none None e = absurd (cc)
  is_not_none (Some x) e = refl

  has_last : 0 < slice_index s.last h
  has_last = let k = sound.known h some_number in let n = is_not_none (standing_at s.standing h) there in grind (arith, nat_tests)

  pub number_in : h < length s.last
  number_in = is_place s.last h has_last

  pub standing_in : h < length s.standing
  standing_in = let n = sound.standing_long in let m = sound.last_long in let l = number_in in omega (arith, n, m, l)

  left_by : (b : Bool) (k : ℕ) → nat_eq k h ≡ b → left_of s.used (slice_index after.last k) ≡ (if b then 0 else left_of s.used (slice_index s.last k))
  left_by true k e = ap (left_of s.used) (index_at s.last h 0 k number_in e)
  left_by false k e = ap (left_of s.used) (index_else s.last h 0 k e)

  same_number : (k : ℕ) → nat_eq (2 * k + 1) (2 * h + 1) ≡ nat_eq k h
  same_number k = grind (arith, nat_tests)

  no_number : (c : ℕ) → nat_eq (2 * c + 2) (2 * h + 1) ≡ false
  no_number c = grind (arith, nat_tests)

  classes_kept : (c : ℕ) → count_of (2 * c + 2) zs ≡ count_of (2 * c + 2) s.owner
  classes_kept c = count_cleared (2 * h + 1) (2 * c + 2) s.owner zs (omega arith) cleared
      ∙ ap (λ t. if t then 0 else count_of (2 * c + 2) s.owner) (no_number c)

  given_back : count_below s.ever_used 0 zs ≡ count_below s.ever_used 0 s.owner + count_of (2 * h + 1) s.owner
  given_back =
      below_cleared s.ever_used (2 * h + 1) s.owner zs (omega arith) cleared
      ∙ ap (λ n. count_below s.ever_used 0 s.owner + n) (below_all s (2 * h + 1) sound (omega arith))

  counted : counts_of s.ever_used zs s.used after.last s.slots ≡ without_region h (counts_of s.ever_used s.owner s.used s.last s.slots)
  unfolding counts_of
  counted = λ i. record {
    fresh = ap (λ n. n - s.ever_used) cleared.long i;
    given = given_back i;
    taken = λ k. (count_cleared (2 * h + 1) (2 * k + 1) s.owner zs (omega arith) cleared
        ∙ ap (λ t. if t then 0 else count_of (2 * k + 1) s.owner) (same_number k)) i;
    left = λ k. left_by (nat_eq k h) k refl i;
    class_pages = λ c. classes_kept c i;
    slots = λ c. count_of (2 * c + 1) s.slots;
  }

  pub released_holds : holdings_of after ≡ without_number h (holdings_of s)
  released_holds = λ i. record {
    pages = cleared.long i;
    standing = λ q. standing_set s.standing h None q standing_in i;
    owner = λ q. owner_by (nat_lt q arena_base) q refl i;
    counts = counted i;
  }

  in_page : (u c : ℕ) → IsInPage s.owner u c → IsInPage zs u c
  in_page u c i = record { page = let e = i.page in let z = cleared.each (u / 128) in let n = no_number c in grind (arith, nat_tests); place = i.place }

  known_by : (b : Bool) (k : ℕ) → 0 < k → nat_eq k h ≡ b → is_none (standing_at after.standing k) ≡ nat_eq (slice_index after.last k) 0
  known_by true k l e =
      let i = index_at s.last h 0 k number_in e in
      ap is_none (standing_set s.standing h None k standing_in ∙ ap (λ t. if t then None else standing_at s.standing k) e) ∙ grind (arith, nat_tests)
  known_by false k l e =
      let i = index_else s.last h 0 k e in
      ap is_none (standing_set s.standing h None k standing_in ∙ ap (λ t. if t then None else standing_at s.standing k) e)
      ∙ sound.known k l ∙ ap (λ n. nat_eq n 0) (sym i)

  heap_by : (b : Bool) → nat_eq 0 h ≡ b → (if b then None else standing_at s.standing 0) ≡ None
  heap_by true e = refl
  heap_by false e = sound.heap

  pub released_sound : IsSound after
  released_sound = record {
    payload = sound.payload ∙ ap (λ n. 4096 * n) (sym cleared.long);
    used_long = sound.used_long ∙ sym cleared.long;
    last_long = length-set s.last h 0 ∙ sound.last_long ∙ ap (λ n. n + 1) (sym cleared.long);
    standing_long = length-set s.standing h None ∙ sound.standing_long ∙ ap (λ n. n + 1) (sym cleared.long);
    slots_long = sound.slots_long ∙ ap (λ n. 128 * n) (sym cleared.long);
    few = subst (λ n. n ≤ 4096) (sym cleared.long) sound.few;
    begun = subst (λ n. s.ever_used ≤ n) (sym cleared.long) sound.begun;
    unused = λ p l. let e = cleared.each p in let z = sound.unused p l in grind (arith, nat_tests);
    rounded = sound.rounded;
    within = sound.within;
    heap = standing_set s.standing h None 0 standing_in ∙ heap_by (nat_eq 0 h) refl;
    known = λ k l. known_by (nat_eq k h) k l refl;
    headed = λ k l. let n = sound.headed k in let i = index_set s.last h 0 (k + 1) number_in in let e = cleared.each k in grind (arith, nat_tests);
    lived = λ k q b l. let n = sound.lived k q in let i = index_set s.last h 0 k number_in in let e = cleared.each q in grind (arith, nat_tests);
    ended = λ k q l. let n = sound.ended k q in let i = index_set s.last h 0 k number_in in let e = cleared.each q in grind (arith, nat_tests);
    classes = λ q c l. sound.classes q c (let e = cleared.each q in grind (arith, nat_tests));
    live = λ u c l. in_page u c (sound.live u c l);
    vacant = λ u c l. in_page u c (sound.vacant u c l);
    capacity = λ c. sound.capacity c ∙ ap (λ k. k * (4096 / c)) (sym (classes_kept c));
  }
