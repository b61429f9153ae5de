-- Free pages: those given back, among the pages that were ever used, and those never used, behind them.
use Rattle.std.proofs.Common.{◌≡◌, ℕ, zero, suc, ◌+◌, ◌-◌, ◌<◌, ◌≤◌, Bool, true, false, List, [], ◌∷◌, length, Some, None, nat_eq, nat_lt, refl, sym, ap, ◌∙◌}
use Rattle.std.proofs.Common.{arith, length-set}
use Rattle.std.specs.Prelude.{slice_index, slice_set, ◌&&◌, if◌then◌else◌}
use Rattle.std.proofs.lemmas.Bool.Decides.{nat_tests}
use Rattle.cyc_arena.specs.Plain.{Plain, IsSound, Finds, IsLowest, IsCleared, count_of, count_below, used_up}
use Rattle.region_runtime.proofs.Words.{index_set}

pub below_zero : (ws : List ℕ) → count_below 0 0 ws ≡ 0
unfolding count_below
below_zero ws = refl

pub below_none : (n x : ℕ) (ws : List ℕ) → ((q : ℕ) → q < n → nat_eq (slice_index ws q) x ≡ false) → count_below n x ws ≡ 0
unfolding count_below
below_none zero x ws f = refl
below_none (suc n) x ws f = let e = f n (omega arith) in let ih = below_none n x ws (λ q l. f q (omega (arith, l))) in rw e ih

pub below_some : (n x : ℕ) (ws : List ℕ) (p : ℕ) → p < n → slice_index ws p ≡ x → 0 < count_below n x ws
unfolding count_below
below_some zero x ws p l e = absurd (omega (arith, l))
below_some (suc n) x ws p l e = by_page (nat_eq p n) refl (λ k. below_some n x ws p k e)
  where
    by_page : (b : Bool) → nat_eq p n ≡ b → (p < n → 0 < count_below n x ws) → 0 < (if nat_eq (slice_index ws n) x then suc (count_below n x ws) else
        count_below n x ws)
    by_page true d ih =
        let same : p ≡ n = grind (arith, nat_tests) in
        let t : nat_eq (slice_index ws n) x ≡ true = (let k = ap (slice_index ws) (sym same) ∙ e in grind (arith, nat_tests)) in rw t (omega arith)
    by_page false d ih = let k = ih (grind (arith, nat_tests)) in by_test (nat_eq (slice_index ws n) x) k
      where
        by_test : (t : Bool) → 0 < count_below n x ws → 0 < (if t then suc (count_below n x ws) else count_below n x ws)
        by_test true k = omega arith
        by_test false k = k

pub below_set : (n x : ℕ) (ws : List ℕ) (p b : ℕ) → p < length ws → count_below n x (slice_set ws p b) + (if nat_lt p n && nat_eq
    (slice_index ws p) x then 1 else 0) ≡ count_below n x ws + (if nat_lt p n && nat_eq b x then 1 else 0)
unfolding count_below
below_set zero x ws p b l = grind (arith, nat_tests)
below_set (suc n) x ws p b l = by_page (nat_eq n p) refl (below_set n x ws p b l)
  where
    set : slice_index (slice_set ws p b) n ≡ (if nat_eq n p then b else slice_index ws n)
    set = index_set ws p b n l

    by_page : (c : Bool) → nat_eq n p ≡ c →
        count_below n x (slice_set ws p b) + (if nat_lt p n && nat_eq (slice_index ws p) x then 1 else 0) ≡ count_below n x ws +
        (if nat_lt p n && nat_eq b x then 1 else 0) →
        (if nat_eq (slice_index (slice_set ws p b) n) x then suc (count_below n x (slice_set ws p b)) else count_below n x (slice_set ws p b))
        + (if nat_lt p (suc n) && nat_eq (slice_index ws p) x then 1 else 0)
        ≡ (if nat_eq (slice_index ws n) x then suc (count_below n x ws) else count_below n x ws) + (if nat_lt p (suc n) && nat_eq b x then 1 else 0)
    by_page false e ih = let i = set in grind (arith, nat_tests)
    by_page true e ih =
        let same : n ≡ p = grind (arith, nat_tests) in
        let o : slice_index ws n ≡ slice_index ws p = ap (slice_index ws) same in
        let i = set in
        let out : nat_lt p n ≡ false = grind (arith, nat_tests) in
        let here : nat_lt p (suc n) ≡ true = grind (arith, nat_tests) in
        grind (arith, nat_tests)

pub below_cleared : (n x : ℕ) (ys zs : List ℕ) → 0 < x → IsCleared x ys zs → count_below n 0 zs ≡ count_below n 0 ys + count_below n x ys
unfolding count_below
below_cleared zero x ys zs b c = refl
below_cleared (suc n) x ys zs b c = let ih = below_cleared n x ys zs b c in let e = c.each n in grind (arith, nat_tests)

below_cons : (n x y : ℕ) (ys : List ℕ) → count_below (suc n) x (y ∷ ys) ≡ count_below n x ys + (if nat_eq y x then 1 else 0)
unfolding count_below
below_cons zero x y ys = grind (arith, nat_tests)
below_cons (suc n) x y ys = let ih = below_cons n x y ys in grind (arith, nat_tests)

count_is : (x : ℕ) (ys : List ℕ) → count_below (length ys) x ys ≡ count_of x ys
count_is x [] = none x
  where
    none : (x : ℕ) → count_below 0 x [] ≡ 0
    none x = below_none 0 x [] (λ q l. absurd (omega (arith, l)))
count_is x (y ∷ ys) = let ih = count_is x ys in below_cons (length ys) x y ys ∙ grind (arith, nat_tests)

below_more : (m n x : ℕ) (ws : List ℕ) → n ≤ m → ((q : ℕ) → n ≤ q → nat_eq (slice_index ws q) x ≡ false) → count_below m x ws ≡ count_below n x ws
unfolding count_below
below_more zero n x ws l f = let z : n ≡ 0 = omega (arith, l) in ap (λ k. count_below k x ws) (sym z)
below_more (suc m) n x ws l f = by_end (nat_eq n (suc m)) refl (λ k. below_more m n x ws k f)
  where
    by_end : (b : Bool) → nat_eq n (suc m) ≡ b → (n ≤ m → count_below m x ws ≡ count_below n x ws) → count_below (suc m) x ws ≡ count_below n x ws
    by_end true e ih = let z : suc m ≡ n = grind (arith, nat_tests) in ap (λ k. count_below k x ws) z
    by_end false e ih =
        let k : n ≤ m = grind (arith, nat_tests) in let t = f m k in rw t (ih k)

-- a word that no page never used has is counted among those that were used
pub below_all : (s : Plain) (x : ℕ) → IsSound s → 0 < x → count_below s.ever_used x s.owner ≡ count_of x s.owner
below_all s x sound l =
    sym (below_more (length s.owner) s.ever_used x s.owner sound.begun (λ q m. let z = sound.unused q m in grind (arith, nat_tests))) ∙ count_is x s.owner

-- ---- the first free page is taken

pub record IsLess (s : Plain) (p w : ℕ) : Type 0 where
  pub begun : used_up p s.ever_used ≤ length (slice_set s.owner p w)
  pub unused : (q : ℕ) → used_up p s.ever_used ≤ q → slice_index (slice_set s.owner p w) q ≡ 0
  pub fresh : length (slice_set s.owner p w) - used_up p s.ever_used
      ≡ (if nat_eq (count_below s.ever_used 0 s.owner) 0 then length s.owner - s.ever_used - 1 else length s.owner - s.ever_used)
  pub given : count_below (used_up p s.ever_used) 0 (slice_set s.owner p w) ≡ count_below s.ever_used 0 s.owner - 1

module _ (s : Plain) (p w : ℕ) (sound : IsSound s) (found : Finds 0 s.owner (Some p)) (lowest : IsLowest 0 s.owner (Some p)) (some : 0 < w) where
  at_most : p ≤ s.ever_used
  at_most = by_order (nat_lt s.ever_used p) refl
    where
      by_order : (b : Bool) → nat_lt s.ever_used p ≡ b → p ≤ s.ever_used
      by_order false e = grind (arith, nat_tests)
      by_order true e =
          let n = lowest s.ever_used (grind (arith, nat_tests)) in let z = sound.unused s.ever_used (omega arith) in absurd (grind (arith, nat_tests))

  last_given : p ≡ s.ever_used → count_below (suc s.ever_used) 0 (slice_set s.owner p w) ≡ count_below s.ever_used 0 s.owner - 1
  unfolding count_below
  last_given e =
      let none = below_none s.ever_used 0 s.owner (λ q l. lowest q (omega (arith, l, e))) in
      let i = index_set s.owner p w s.ever_used found.0 in
      let k = below_set s.ever_used 0 s.owner p w found.0 in
      let t : nat_eq (slice_index (slice_set s.owner p w) s.ever_used) 0 ≡ false = grind (arith, nat_tests) in
      rw t (grind (arith, nat_tests))

  less_by : (b : Bool) → nat_eq p s.ever_used ≡ b → IsLess s p w
  less_by true e =
      let same : p ≡ s.ever_used = grind (arith, nat_tests) in
      let u : used_up p s.ever_used ≡ suc s.ever_used = rw e refl in
      let none = below_none s.ever_used 0 s.owner (λ q l. lowest q (omega (arith, l, same))) in
      let m = length-set s.owner p w in
      record {
        begun = let l = found.0 in omega (arith, u, l, same, m);
        unused = λ q l. let i = index_set s.owner p w q found.0 in let z = sound.unused q in grind (arith, nat_tests);
        fresh = let l = found.0 in grind (arith, nat_tests);
        given = ap (λ k. count_below k 0 (slice_set s.owner p w)) u ∙ last_given same;
      }
  less_by false e =
      let u : used_up p s.ever_used ≡ s.ever_used = rw e refl in
      let below : p < s.ever_used = (let a = at_most in grind (arith, nat_tests)) in
      let k = below_some s.ever_used 0 s.owner p below found.1 in
      let m = length-set s.owner p w in
      let j = below_set s.ever_used 0 s.owner p w found.0 in
      let z = found.1 in
      record {
        begun = let b = sound.begun in omega (arith, u, b, m);
        unused = λ q l. let i = index_set s.owner p w q found.0 in let z = sound.unused q in grind (arith, nat_tests);
        fresh = grind (arith, nat_tests);
        given = ap (λ k. count_below k 0 (slice_set s.owner p w)) u ∙ grind (arith, nat_tests);
      }

  pub free_less : IsLess s p w
  free_less = less_by (nat_eq p s.ever_used) refl

-- where a page is found, one is free
pub page_found : (s : Plain) (p : ℕ) → IsSound s → Finds 0 s.owner (Some p) →
    (nat_eq (length s.owner - s.ever_used) 0 && nat_eq (count_below s.ever_used 0 s.owner) 0) ≡ false
page_found s p sound f = by_order (nat_lt p s.ever_used) refl
  where
    by_order : (b : Bool) → nat_lt p s.ever_used ≡ b → (nat_eq (length s.owner - s.ever_used) 0 && nat_eq (count_below s.ever_used 0 s.owner) 0) ≡ false
    by_order true e = let k = below_some s.ever_used 0 s.owner p (grind (arith, nat_tests)) f.1 in grind (arith, nat_tests)
    by_order false e = let l = f.0 in grind (arith, nat_tests)

pub none_free : (s : Plain) → IsSound s → Finds 0 s.owner None
    → (nat_eq (length s.owner - s.ever_used) 0 && nat_eq (count_below s.ever_used 0 s.owner) 0) ≡ true
none_free s sound f =
    let b = sound.begun in
    let g = below_none s.ever_used 0 s.owner (λ q l. f q (omega (arith, l, b))) in
    let e : length s.owner - s.ever_used ≡ 0 = by_order (nat_lt s.ever_used (length s.owner)) refl in grind (arith, nat_tests)
  where
    by_order : (b : Bool) → nat_lt s.ever_used (length s.owner) ≡ b → length s.owner - s.ever_used ≡ 0
    by_order false e = grind (arith, nat_tests)
    by_order true e = let n = f s.ever_used (grind (arith, nat_tests)) in let z = sound.unused s.ever_used (omega arith) in absurd (grind (arith, nat_tests))
