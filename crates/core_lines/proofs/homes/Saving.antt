-- What the slots have of the caller's registers, and homes of blocks.
use Rattle.std.specs.Prelude.{nat_eq, if◌then◌else◌, length}
use Rattle.std.proofs.Common.{◌≡◌, ℕ, zero, suc, ◌+◌, ◌≤◌, ◌<◌, ◌⊎◌, inl, inr, ⊎_elim, Bool, true, false, List, [], ◌∷◌, ◌++◌, Option, Some, None, refl, sym}
use Rattle.std.proofs.Common.{ap, ◌∙◌, subst, arith}
use Rattle.std.proofs.lemmas.Bool.{eqb-true, eq-eqb, or_left, or_right, or_cases}
use Rattle.std.proofs.lemmas.Option.{same_Some, none-some}
use Rattle.core_meaning.specs.Memory.{Content, Word}
use Rattle.core_meaning.specs.Core.{Function}
use Rattle.core_lines.specs.Homes.{is_home, is_among, home_registers, flag_at, home_for, homes_from, home_in, some_of, saved_by, eligible_of}
use Rattle.core_lines.specs.Selected.{first_of, rest_of}
use Rattle.core_lines.proofs.memory.Relations.{Phase, Saving, Inside, Restoring, Place, HaveSaved, as_home, home_of, HaveHomes, IsHomeIn, AreHomes}

-- ---- slots

pub saved_on : (k : ℕ) (rs : List ℕ) (new old : ℕ → Content) (callers : ℕ → ℕ) → ((j : ℕ) → k ≤ j → new j ≡ old j) → HaveSaved k rs old callers
    → HaveSaved k rs new callers
saved_on k [] new old callers same h = tt
saved_on k (r ∷ rs) new old callers same h =
    (same k (omega arith) ∙ h.0, saved_on (suc k) rs new old callers (λ j le. same j (omega (arith, le))) h.1)

-- one more
pub saved_more : (k : ℕ) (done : List ℕ) (r : ℕ) (new old : ℕ → Content) (callers : ℕ → ℕ)
    → ((j : ℕ) → nat_eq j (k + length done) ≡ false → new j ≡ old j) → new (k + length done) ≡ Word (callers r) → HaveSaved k done old callers
    → HaveSaved k (done ++ r ∷ []) new callers
saved_more k [] r new old callers same is h = let e : k + 0 ≡ k = omega arith in (subst (λ j. new j ≡ Word (callers r)) e is, tt)
saved_more k (q ∷ done) r new old callers same is h =
    let e : k + length (q ∷ done) ≡ suc k + length done = omega arith in (
      same k (Rattle.std.proofs.lemmas.Bool.ne_eqb k (k + length (q ∷ done)) (λ x. omega (arith, x))) ∙ h.0,
      saved_more (suc k) done r new old callers (λ j other. same j (ap (λ n. nat_eq j n) e ∙ other)) (subst (λ j. new j ≡ Word (callers r)) e is) h.1,
    )

-- ---- which registers are saved

abbrev pub AreHomeRegisters : List ℕ → Type 0
AreHomeRegisters [] = Unit {0}
AreHomeRegisters (r ∷ rs) = (is_home r ≡ true) × AreHomeRegisters rs

pub home_registers_are : AreHomeRegisters home_registers
home_registers_are = (refl, (refl, (refl, (refl, (refl, (refl, (refl, (refl, (refl, (refl, (refl, (refl, tt))))))))))))

-- the register of a local is one of these
pub home_is : (flags : List Bool) (ns rs : List ℕ) (i r : ℕ) → AreHomeRegisters rs → home_for flags ns rs i ≡ suc r → is_home (suc r) ≡ true
home_is flags [] rs i r are e = absurd (cc e)
home_is flags (n ∷ ns) [] i r are e = absurd (cc e)
home_is flags (n ∷ ns) (q ∷ rs) i r are e =
    by (flag_at flags n) (nat_eq i n) e (λ later. home_is flags ns rs i r are.1 later) (λ later. home_is flags ns (q ∷ rs) i r are later)
  where
    by : (b c : Bool) → (if b then (if c then q else home_for flags ns rs i) else home_for flags ns (q ∷ rs) i) ≡ suc r
        → (home_for flags ns rs i ≡ suc r → is_home (suc r) ≡ true) → (home_for flags ns (q ∷ rs) i ≡ suc r → is_home (suc r) ≡ true)
        → is_home (suc r) ≡ true
    by true true e one other = subst (λ k. is_home k ≡ true) e are.0
    by true false e one other = one e
    by false c e one other = other e

homes_are : (home : ℕ → ℕ) → ((i r : ℕ) → home i ≡ suc r → is_home (suc r) ≡ true) → (i count : ℕ) → AreHomeRegisters (some_of (homes_from home i count))
homes_are home is i zero = tt
homes_are home is i (suc count) = by (home i) refl (homes_are home is (suc i) count)
  where
    by : (h : ℕ) → home i ≡ h → AreHomeRegisters (some_of (homes_from home (suc i) count)) → AreHomeRegisters (some_of (h ∷ homes_from home (suc i) count))
    by zero e rest = rest
    by (suc r) e rest = (is i r e, rest)

pub saved_homes : (fn : Function) → AreHomeRegisters (saved_by fn)
saved_homes fn =
    homes_are (home_in fn) (λ i r e. home_is (eligible_of fn.body) fn.order home_registers i r home_registers_are e) 0 (length (eligible_of fn.body))

-- ---- homes of blocks

pub home_among : (hs : List ℕ) (o r : ℕ) → home_of hs o ≡ Some r → is_among r hs ≡ true
home_among [] o r e = absurd (none-some r e)
home_among (zero ∷ hs) zero r e = absurd (none-some r e)
home_among (suc h ∷ hs) zero r e = or_left (nat_eq r (suc h)) (is_among r hs) (eq-eqb r (suc h) (sym (same_Some (suc h) r e)))
home_among (h ∷ hs) (suc o) r e = or_right (nat_eq r h) (is_among r hs) (home_among hs o r e)

-- a register that is a home isn't 0
pub home_some : (hs : List ℕ) (o r : ℕ) → home_of hs o ≡ Some r → (q : ℕ) × (r ≡ suc q)
home_some [] o r e = absurd (none-some r e)
home_some (zero ∷ hs) zero r e = absurd (none-some r e)
home_some (suc h ∷ hs) zero r e = (h, sym (same_Some (suc h) r e))
home_some (h ∷ hs) (suc o) r e = home_some hs o r e

-- the homes of a block beside those of the blocks around it, of a function: none twice, none of those, and all saved
pub record HomesFit (fn : Function) (count : ℕ) (hs : List ℕ) (nest : List Place) : Type 0 where
  pub within : (o r : ℕ) → home_of hs o ≡ Some r → o < count
  pub once : (o o' r : ℕ) → home_of hs o ≡ Some r → home_of hs o' ≡ Some r → o ≡ o'
  pub differ : (r : ℕ) → is_among (suc r) hs ≡ true → IsHomeIn (suc r) nest → ⊥
  pub saved : (o r : ℕ) → home_of hs o ≡ Some r → (is_home r ≡ true) × (is_among r (saved_by fn) ≡ true)

-- ---- a block is left

abbrev pub unless_among : List ℕ → Option ℕ → Option ℕ
unless_among hs None = None
unless_among hs (Some r) = (if is_among r hs then None else Some r)

abbrev pub without : List ℕ → (ℕ → ℕ → Option ℕ) → ℕ → ℕ → Option ℕ
without hs homes k o = unless_among hs (homes k o)

pub unless_some : (hs : List ℕ) (h : Option ℕ) (r : ℕ) → unless_among hs h ≡ Some r → (h ≡ Some r) × (is_among r hs ≡ false)
unless_some hs None r e = absurd (none-some r e)
unless_some hs (Some q) r e = by (is_among q hs) refl
  where
    by : (c : Bool) → is_among q hs ≡ c → (◌≡◌ {A = Option ℕ} (Some q) (Some r)) × (is_among r hs ≡ false)
    by true is = absurd (none-some r (ap (λ c. if c then None else Some q) (sym is) ∙ e))
    by false is = let same = same_Some q r (ap (λ c. if c then None else Some q) (sym is) ∙ e) in
        (ap (λ n. Some n) same, subst (λ n. is_among n hs ≡ false) same is)

unless_kept : (hs : List ℕ) (h : Option ℕ) (r : ℕ) → h ≡ Some r → is_among r hs ≡ false → unless_among hs h ≡ Some r
unless_kept hs h r e not = ap (λ q. unless_among hs q) e ∙ ap (λ c. if c then None else Some r) not

have_without : (hs : List ℕ) (ps : List Place) (ks : List ℕ) (homes : ℕ → ℕ → Option ℕ)
    → ((r : ℕ) → is_among (suc r) hs ≡ true → IsHomeIn (suc r) ps → ⊥) → HaveHomes ps ks homes → HaveHomes ps ks (without hs homes)
have_without hs [] ks homes differ h = tt
have_without hs (p ∷ ps) [] homes differ h = tt
have_without hs (p ∷ ps) (k ∷ ks) homes differ h = (
  λ o r e. unless_kept hs (homes k o) r (h.0 o r e) (by o r e (is_among r hs) refl),
  have_without hs ps ks homes (λ r among other. differ r among (inr other)) h.1,
)
  where
    by : (o r : ℕ) → home_of p.homes o ≡ Some r → (c : Bool) → is_among r hs ≡ c → is_among r hs ≡ false
    by o r e true is =
        let some = home_some p.homes o r e in
        absurd (differ some.0 (subst (λ q. is_among q hs ≡ true) some.1 is) (inl (subst (λ q. is_among q p.homes ≡ true) some.1 (home_among p.homes o r e))))
    by o r e false is = is

pub homes_left : (phase : Phase) (p : Place) (ps : List Place) (k : ℕ) (ks : List ℕ) (homes : ℕ → ℕ → Option ℕ)
    → ((r : ℕ) → is_among (suc r) p.homes ≡ true → IsHomeIn (suc r) ps → ⊥) → AreHomes phase (p ∷ ps) (k ∷ ks) homes
    → AreHomes phase ps ks (without p.homes homes)
homes_left (Saving done) p ps k ks homes differ h = λ q o. ap (λ v. unless_among p.homes v) (h q o)
homes_left Inside p ps k ks homes differ h = (
  have_without p.homes ps ks homes differ h.0.1,
  λ q o r e. let old = unless_some p.homes (homes q o) r e in ⊎_elim
      (λ (here : is_among r p.homes ≡ true). absurd (cc (here, old.1)))
      (λ (around : IsHomeIn r ps). around)
      (h.1 q o r old.0),
)
homes_left (Restoring rest) p ps k ks homes differ h = λ q o. ap (λ v. unless_among p.homes v) (h q o)

-- ---- a block is entered

abbrev pub with_homes : ℕ → List ℕ → (ℕ → ℕ → Option ℕ) → ℕ → ℕ → Option ℕ
with_homes k hs homes q o = (if nat_eq q k then home_of hs o else homes q o)

pub with_some : (k : ℕ) (hs : List ℕ) (homes : ℕ → ℕ → Option ℕ) (q o r : ℕ) → with_homes k hs homes q o ≡ Some r
    → ((q ≡ k) × (home_of hs o ≡ Some r)) ⊎ (homes q o ≡ Some r)
with_some k hs homes q o r e = by (nat_eq q k) refl
  where
    by : (c : Bool) → nat_eq q k ≡ c → ((q ≡ k) × (home_of hs o ≡ Some r)) ⊎ (homes q o ≡ Some r)
    by true is = inl (eqb-true q k is, ap (λ c. if c then home_of hs o else homes q o) (sym is) ∙ e)
    by false is = inr (ap (λ c. if c then home_of hs o else homes q o) (sym is) ∙ e)

pub home_first : (hs : List ℕ) → home_of hs 0 ≡ as_home (first_of hs)
home_first [] = refl
home_first (h ∷ hs) = refl

pub home_rest : (hs : List ℕ) (o : ℕ) → home_of hs (suc o) ≡ home_of (rest_of hs) o
home_rest [] o = refl
home_rest (h ∷ hs) o = refl

pub have_with : (k : ℕ) (hs : List ℕ) (ps : List Place) (ks : List ℕ) (homes : ℕ → ℕ → Option ℕ)
    → ((q o r : ℕ) → homes q o ≡ Some r → nat_eq q k ≡ false) → HaveHomes ps ks homes → HaveHomes ps ks (with_homes k hs homes)
have_with k hs [] ks homes other h = tt
have_with k hs (p ∷ ps) [] homes other h = tt
have_with k hs (p ∷ ps) (q ∷ ks) homes other h = (
  λ o r e. let there = h.0 o r e in ap (λ c. if c then home_of hs o else homes q o) (other q o r there) ∙ there,
  have_with k hs ps ks homes other h.1,
)
