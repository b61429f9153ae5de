-- Flags that lie from a number on in a longer list, and how often numbers stand in a list.
use Rattle.std.specs.Prelude.{◌||◌, nat_eq}
use Rattle.std.proofs.Common.{◌≡◌, ℕ, zero, suc, ◌+◌, ◌≤◌, ◌<◌, Bool, true, false, List, [], ◌∷◌, ◌++◌, length, refl, sym, ap, ◌∙◌, subst, arith, length-append}
use Rattle.std.proofs.lemmas.Bool.{eq-eqb, eqb-true}
use Rattle.source_typing.specs.Statements.{one_if}
use Rattle.core_lines.specs.Homes.{flag_at, is_among}
use Rattle.home_proof.proofs.Turns.{AreApart}

-- ---- flags that lie in a list

-- from a number on
abbrev pub LieAt : (flags : List Bool) → ℕ → List Bool → Type 0
LieAt flags n [] = Unit {0}
LieAt flags n (b ∷ bs) = (flag_at flags n ≡ b) × LieAt flags (suc n) bs

-- if two lists joined lie at a number, the first lies there, and the second at its end
pub first_lie : (flags : List Bool) (n : ℕ) (bs cs : List Bool) → LieAt flags n (bs ++ cs) → LieAt flags n bs
first_lie flags n [] cs h = tt
first_lie flags n (b ∷ bs) cs h = (h.0, first_lie flags (suc n) bs cs h.1)

pub second_lie : (flags : List Bool) (n : ℕ) (bs cs : List Bool) (count : ℕ) → length bs ≡ count → LieAt flags n (bs ++ cs) → LieAt flags (n + count) cs
second_lie flags n [] cs count e h = subst (λ k. LieAt flags k cs) (omega (arith, e)) h
second_lie flags n (b ∷ bs) cs zero e h = absurd (omega (arith, e))
second_lie flags n (b ∷ bs) cs (suc count) e h =
    subst (λ k. LieAt flags k cs) (omega arith) (second_lie flags (suc n) bs cs count (omega (arith, e)) h.1)

first_behind : (before : List Bool) (b : Bool) (bs : List Bool) → flag_at (before ++ (b ∷ bs)) (length before) ≡ b
first_behind [] b bs = refl
first_behind (f ∷ fs) b bs = first_behind fs b bs

one_more : (before : List Bool) (b : Bool) (bs : List Bool) → (before ++ (b ∷ [])) ++ bs ≡ before ++ (b ∷ bs)
one_more [] b bs = refl
one_more (f ∷ fs) b bs = ap (λ rest. f ∷ rest) (one_more fs b bs)

-- what stands behind others lies behind them
lie_behind : (flags before bs : List Bool) → before ++ bs ≡ flags → LieAt flags (length before) bs
lie_behind flags before [] e = tt
lie_behind flags before (b ∷ bs) e =
    let many = length-append before (b ∷ []) in
    let next : length (before ++ (b ∷ [])) ≡ suc (length before) = omega (arith, many) in (
      subst (λ fs. flag_at fs (length before) ≡ b) e (first_behind before b bs),
      subst (λ k. LieAt flags k bs) next (lie_behind flags (before ++ (b ∷ [])) bs (one_more before b bs ∙ e)),
    )

-- a list lies in itself
pub lies : (flags : List Bool) → LieAt flags 0 flags
lies flags = lie_behind flags [] flags refl

-- ---- how often a number stands in a list

abbrev pub occurrences : ℕ → List ℕ → ℕ
occurrences m [] = 0
occurrences m (n ∷ ns) = one_if (nat_eq m n) + occurrences m ns

pub occurrences_both : (m : ℕ) (ns ms : List ℕ) → occurrences m (ns ++ ms) ≡ occurrences m ns + occurrences m ms
occurrences_both m [] ms = omega arith
occurrences_both m (n ∷ ns) ms = let h = occurrences_both m ns ms in omega (arith, h)

-- how often it is among `count` numbers from `first` on
abbrev pub within : (first count : ℕ) → ℕ → ℕ
within first zero m = 0
within first (suc count) m = one_if (nat_eq m first) + within (suc first) count m

pub within_both : (first a b m : ℕ) → within first (a + b) m ≡ within first a m + within (first + a) b m
within_both first zero b m =
    let none : 0 + b ≡ b = omega arith in
    let still : first + 0 ≡ first = omega arith in
    let count : within first (0 + b) m ≡ within first b m = ap (λ k. within first k m) none in
    let start : within (first + 0) b m ≡ within first b m = ap (λ k. within k b m) still in
    omega (arith, count, start)
within_both first (suc a) b m =
    let more : suc a + b ≡ suc (a + b) = omega arith in
    let count : within first (suc a + b) m ≡ within first (suc (a + b)) m = ap (λ k. within first k m) more in
    let h = within_both (suc first) a b m in
    let start : suc first + a ≡ first + suc a = omega arith in
    let next : within (suc first + a) b m ≡ within (first + suc a) b m = ap (λ k. within k b m) start in
    omega (arith, count, h, next)

within_above : (first count m : ℕ) → m < first → within first count m ≡ 0
within_above first zero m less = refl
within_above first (suc count) m less = by (nat_eq m first) refl (within_above (suc first) count m (omega (arith, less)))
  where
    by : (b : Bool) → nat_eq m first ≡ b → within (suc first) count m ≡ 0 → one_if b + within (suc first) count m ≡ 0
    by true e h = let same = eqb-true m first e in absurd (omega (arith, same, less))
    by false e h = omega (arith, h)

pub within_once : (first count m : ℕ) → within first count m ≤ 1
within_once first zero m = omega arith
within_once first (suc count) m = by (nat_eq m first) refl (within_once (suc first) count m)
  where
    by : (b : Bool) → nat_eq m first ≡ b → within (suc first) count m ≤ 1 → one_if b + within (suc first) count m ≤ 1
    by true e h = let same = eqb-true m first e in let none = within_above (suc first) count m (omega (arith, same)) in omega (arith, none)
    by false e h = omega (arith, h)

none_among : (n : ℕ) (ns : List ℕ) → occurrences n ns ≡ 0 → is_among n ns ≡ false
none_among n [] e = refl
none_among n (m ∷ ms) e = by (nat_eq n m) e (λ h. none_among n ms h)
  where
    by : (b : Bool) → one_if b + occurrences n ms ≡ 0 → (occurrences n ms ≡ 0 → is_among n ms ≡ false) → (b || is_among n ms) ≡ false
    by true h later = absurd (omega (arith, h))
    by false h later = later (omega (arith, h))

-- a list in which each number stands once at most
pub apart : (ns : List ℕ) → ((m : ℕ) → occurrences m ns ≤ 1) → AreApart ns
apart [] once = tt
apart (n ∷ ns) once = (none_among n ns (by (nat_eq n n) (eq-eqb n n refl) (once n)), apart ns (λ m. let h = once m in omega (arith, h)))
  where
    by : (b : Bool) → b ≡ true → one_if b + occurrences n ns ≤ 1 → occurrences n ns ≡ 0
    by true e h = omega (arith, h)
    by false e h = absurd (cc e)
