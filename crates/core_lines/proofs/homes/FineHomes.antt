-- The homes that are chosen are as the code asks: no two locals share one, each is saved, and no address of such a local is taken.
use Rattle.std.specs.Prelude.{nat_eq, not, ◌&&◌, ◌||◌, length, if◌then◌else◌}
use Rattle.std.proofs.Common.{◌≡◌, ℕ, zero, suc, ◌+◌, ◌*◌, ◌≤◌, ◌<◌, inl, inr, ⊎_elim, Bool, true, false, List, [], ◌∷◌, ◌++◌, Option, Some, None, refl, sym}
use Rattle.std.proofs.Common.{ap, ◌∙◌, subst, arith, length-append}
use Rattle.std.proofs.lemmas.Bool.{eqb-true, eq-eqb, and_parts, and_from, or_left, or_right, or_cases, not-true}
use Rattle.std.proofs.lemmas.Option.{same_Some, none-some}
use Rattle.core_meaning.specs.Core.{Operation, LocalAddress, Local, Statement, Do, If, While, Block, Leave, Break, Continue, Call, Return, Raise}
use Rattle.core_meaning.specs.Core.{Statements, NoStatements, MoreStatements, Function}
use Rattle.core_lines.specs.Homes.{is_home, is_among, home_registers, is_scalar, addressed, addressed_of, eligible_from, eligible, eligible_of}
use Rattle.core_lines.specs.Homes.{flag_at, home_for, homes_from, home_in, homes_in, some_of, saved_by}
use Rattle.core_lines.specs.Selected.{nth_block, homes_here, homes_after, names_after, names_after_all}
use Rattle.core_lines.proofs.memory.Relations.{as_home, home_of}
use Rattle.core_lines.proofs.homes.Nests.{IsHomeOf}
use Rattle.core_lines.proofs.homes.Saving.{home_is, home_registers_are, home_some}
use Rattle.core_lines.proofs.homes.HomeWords.{scalar_word, AreFlags, flags_first, flags_second, flags_are, home_flag, as_many_flags, here_are, after_are}
use Rattle.core_lines.proofs.homes.HomeWords.{names_are, all_names_are}
use Rattle.core_lines.proofs.homes.Fine.{IsFineOperation, FitsIn, IsFine, AreFine, AreShort}

-- ---- no register twice

abbrev AreDistinct : List ℕ → Type 0
AreDistinct [] = Unit {0}
AreDistinct (r ∷ rs) = (is_among r rs ≡ false) × AreDistinct rs

home_among_registers : (flags : List Bool) (ns rs : List ℕ) (i r : ℕ) → home_for flags ns rs i ≡ suc r → is_among (suc r) rs ≡ true
home_among_registers flags [] rs i r e = absurd (cc e)
home_among_registers flags (n ∷ ns) [] i r e = absurd (cc e)
home_among_registers flags (n ∷ ns) (q ∷ rs) i r e =
    by (flag_at flags n) (nat_eq i n) e (λ later. home_among_registers flags ns rs i r later) (λ later. home_among_registers flags ns (q ∷ rs) i r later)
  where
    by : (b c : Bool) → (if b then (if c then q else home_for flags ns rs i) else home_for flags ns (q ∷ rs) i) ≡ suc r
        → (home_for flags ns rs i ≡ suc r → is_among (suc r) rs ≡ true)
        → (home_for flags ns (q ∷ rs) i ≡ suc r → is_among (suc r) (q ∷ rs) ≡ true)
        → is_among (suc r) (q ∷ rs) ≡ true
    by true true e one other = or_left (nat_eq (suc r) q) (is_among (suc r) rs) (eq-eqb (suc r) q (sym e))
    by true false e one other = or_right (nat_eq (suc r) q) (is_among (suc r) rs) (one e)
    by false c e one other = other e

one_home : (flags : List Bool) (ns rs : List ℕ) (i j r : ℕ) → AreDistinct rs → home_for flags ns rs i ≡ suc r → home_for flags ns rs j ≡ suc r → i ≡ j
one_home flags [] rs i j r distinct e e' = absurd (cc e)
one_home flags (n ∷ ns) [] i j r distinct e e' = absurd (cc e)
one_home flags (n ∷ ns) (q ∷ rs) i j r distinct e e' =
    by (flag_at flags n) (nat_eq i n) (nat_eq j n) refl refl e e' (λ a b. one_home flags ns rs i j r distinct.1 a b)
    (λ a b. one_home flags ns (q ∷ rs) i j r distinct a b)
  where
    later : (k : ℕ) → q ≡ suc r → home_for flags ns rs k ≡ suc r → ⊥
    later k is e =
        let among = home_among_registers flags ns rs k r e in
        let same : is_among q rs ≡ true = subst (λ h. is_among h rs ≡ true) (sym is) among in
        absurd (cc (same, distinct.0))

    by : (b c d : Bool) → nat_eq i n ≡ c → nat_eq j n ≡ d
        → (if b then (if c then q else home_for flags ns rs i) else home_for flags ns (q ∷ rs) i) ≡ suc r
        → (if b then (if d then q else home_for flags ns rs j) else home_for flags ns (q ∷ rs) j) ≡ suc r
        → (home_for flags ns rs i ≡ suc r → home_for flags ns rs j ≡ suc r → i ≡ j)
        → (home_for flags ns (q ∷ rs) i ≡ suc r → home_for flags ns (q ∷ rs) j ≡ suc r → i ≡ j)
        → i ≡ j
    by true true true is is' e e' one other = eqb-true i n is ∙ sym (eqb-true j n is')
    by true true false is is' e e' one other = absurd (later j e e')
    by true false true is is' e e' one other = absurd (later i e' e)
    by true false false is is' e e' one other = one e e'
    by false c d is is' e e' one other = other e e'

-- ---- homes by number

home_number : (home : ℕ → ℕ) (i count o r : ℕ) → home_of (homes_from home i count) o ≡ Some r → (home (i + o) ≡ r) × (o < count)
home_number home i zero o r e = absurd (none-some r e)
home_number home i (suc count) zero r e = let s : i ≡ i + 0 = omega arith in (ap home (sym s) ∙ by (home i) e, omega arith)
  where
    by : (h : ℕ) → as_home h ≡ Some r → h ≡ r
    by zero e = absurd (none-some r e)
    by (suc h) e = same_Some (suc h) r e
home_number home i (suc count) (suc o) r e =
    let rest = home_number home (suc i) count o r e in
    let s : suc i + o ≡ i + suc o = omega arith in
    (ap home (sym s) ∙ rest.0, (let less = rest.1 in omega (arith, less)))

among_number : (home : ℕ → ℕ) (i count r : ℕ) → is_among (suc r) (homes_from home i count) ≡ true → (o : ℕ) × ((home (i + o) ≡ suc r) × (o < count))
among_number home i zero r e = absurd (cc e)
among_number home i (suc count) r e = ⊎_elim
    (λ (here : nat_eq (suc r) (home i) ≡ true).
    let s : i ≡ i + 0 = omega arith in (0, (ap home (sym s) ∙ sym (eqb-true (suc r) (home i) here), omega arith)))
    (λ (there : is_among (suc r) (homes_from home (suc i) count) ≡ true).
    let rest = among_number home (suc i) count r there in
    let s : suc i + rest.0 ≡ i + suc rest.0 = omega arith in
    let less = rest.1.1 in
    (suc rest.0, (ap home (sym s) ∙ rest.1.0, omega (arith, less))))
    (or_cases (nat_eq (suc r) (home i)) (is_among (suc r) (homes_from home (suc i) count)) e)

number_saved : (home : ℕ → ℕ) (i count o r : ℕ) → home (i + o) ≡ suc r → o < count → is_among (suc r) (some_of (homes_from home i count)) ≡ true
number_saved home i zero o r e less = absurd (omega (arith, less))
number_saved home i (suc count) zero r e less = by (home i) (let s : i ≡ i + 0 = omega arith in ap home s ∙ e)
  where
    by : (h : ℕ) → h ≡ suc r → is_among (suc r) (some_of (h ∷ homes_from home (suc i) count)) ≡ true
    by zero e = absurd (cc e)
    by (suc h) e = or_left (nat_eq (suc r) (suc h)) _ (eq-eqb (suc r) (suc h) (sym e))
number_saved home i (suc count) (suc o) r e less =
    by (home i) (number_saved home (suc i) count o r (let s : suc i + o ≡ i + suc o = omega arith in ap home s ∙ e) (omega (arith, less)))
  where
    by : (h : ℕ) → is_among (suc r) (some_of (homes_from home (suc i) count)) ≡ true
        → is_among (suc r) (some_of (h ∷ homes_from home (suc i) count)) ≡ true
    by zero rest = rest
    by (suc h) rest = or_right (nat_eq (suc r) (suc h)) _ rest

-- the flag of a block's local
flag_number : (flag : ℕ → Bool) (n : ℕ) (ls : List Local) (body : Statements) (i o : ℕ) → AreFlags flag i (eligible_from n ls body) → o < length ls
    → flag (i + o) ≡ true → addressed_of 0 (n + o) body ≡ false
flag_number flag n [] body i o f less e = absurd (omega (arith, less))
flag_number flag n (l ∷ ls) body i zero f less e =
    let s : i ≡ i + 0 = omega arith in
    let m : n ≡ n + 0 = omega arith in
    let flagged : (is_scalar l && not (addressed_of 0 n body)) ≡ true = sym f.0 ∙ ap flag s ∙ e in
    subst (λ k. addressed_of 0 k body ≡ false) m
    (not-true (addressed_of 0 n body) (and_parts (is_scalar l) (not (addressed_of 0 n body)) flagged).1)
flag_number flag n (l ∷ ls) body i (suc o) f less e =
    let s : suc i + o ≡ i + suc o = omega arith in
    let m : suc n + o ≡ n + suc o = omega arith in
    subst (λ k. addressed_of 0 k body ≡ false) m (flag_number flag (suc n) ls body (suc i) o f.1 (omega (arith, less)) (ap flag s ∙ e))

-- ---- statements

module _ (fn : Function) where
  abbrev home : ℕ → ℕ
  home = home_in fn

  abbrev flag : ℕ → Bool
  flag = flag_at (eligible_of fn.body)

  abbrev all : ℕ
  all = length (eligible_of fn.body)

  flagged : (i r : ℕ) → home i ≡ suc r → flag i ≡ true
  flagged i r e = home_flag (eligible_of fn.body) fn.order home_registers i r e

  same_number : (i j r : ℕ) → home i ≡ suc r → home j ≡ suc r → i ≡ j
  same_number i j r e e' = one_home (eligible_of fn.body) fn.order home_registers i j r
      (refl, (refl, (refl, (refl, (refl, (refl, (refl, (refl, (refl, (refl, (refl, (refl, tt)))))))))))) e e'

  -- the homes of the blocks around are those of locals before this number
  abbrev AreBefore : ℕ → List (List ℕ) → Type 0
  AreBefore i hss = (r : ℕ) → IsHomeOf (suc r) hss → (j : ℕ) × ((j < i) × (home j ≡ suc r))

  -- and no address of one of their locals is taken
  abbrev AreUntaken : List (List ℕ) → Statement → Type 0
  AreUntaken hss s = (out local r : ℕ) → home_of (nth_block hss out) local ≡ Some r → addressed out local s ≡ false

  abbrev AreAllUntaken : List (List ℕ) → Statements → Type 0
  AreAllUntaken hss ss = (out local r : ℕ) → home_of (nth_block hss out) local ≡ Some r → addressed_of out local ss ≡ false

  short_here : (n : ℕ) (ls : List Local) (body : Statements) (i : ℕ) → AreFlags flag i (eligible_from n ls body)
      → AreShort ls (homes_from home i (length ls))
  short_here n [] body i f = tt
  short_here n (l ∷ ls) body i f = (by (home i) refl, short_here (suc n) ls body (suc i) f.1)
    where
      by : (h : ℕ) → home i ≡ h → 0 < h → l.count * l.layout.bytes ≤ 4
      by zero e some = absurd (omega (arith, some))
      by (suc r) e some =
          let both : (is_scalar l && not (addressed_of 0 n body)) ≡ true = sym f.0 ∙ flagged i r e in
          (scalar_word l (and_parts (is_scalar l) (not (addressed_of 0 n body)) both).0).few

  fits_here : (ls : List Local) (body : Statements) (i : ℕ) (hss : List (List ℕ)) → AreFlags flag i (eligible_from 0 ls body) → i + length ls ≤ all
      → AreBefore i hss → FitsIn fn ls (homes_from home i (length ls)) hss
  fits_here ls body i hss f within before = record {
    short = short_here 0 ls body i f;
    once = λ o o' r e e'.
        let one = home_number home i (length ls) o r e in
        let two = home_number home i (length ls) o' r e' in
        let some = home_some (homes_from home i (length ls)) o r e in
        let same = same_number (i + o) (i + o') some.0 (one.0 ∙ some.1) (two.0 ∙ some.1) in
        omega (arith, same);
    differ = λ r among around.
        let here = among_number home i (length ls) r among in
        let there = before r around in
        let less = there.1.0 in
        let same = same_number (i + here.0) there.0 r here.1.0 there.1.1 in
        omega (arith, same, less);
    saved = λ o r e.
        let one = home_number home i (length ls) o r e in
        let less = one.1 in
        let some = home_some (homes_from home i (length ls)) o r e in
        let is : home (i + o) ≡ suc some.0 = one.0 ∙ some.1 in
        let zero_and : 0 + (i + o) ≡ i + o = omega arith in
        subst (λ q. (is_home q ≡ true) × (is_among q (saved_by fn) ≡ true)) (sym some.1) (
          home_is (eligible_of fn.body) fn.order home_registers (i + o) some.0 home_registers_are is,
          number_saved home 0 all (i + o) some.0 (ap home zero_and ∙ is) (omega (arith, less, within)),
        );
  }

  fine_operation : (hss : List (List ℕ)) (operation : Operation) → AreUntaken hss (Do operation) → IsFineOperation hss operation
  fine_operation hss (LocalAddress t out local) untaken = by (home_of (nth_block hss out) local) refl
    where
      by : (h : Option ℕ) → home_of (nth_block hss out) local ≡ h → home_of (nth_block hss out) local ≡ None
      by None e = e
      by (Some r) e = absurd (cc (untaken out local r e, and_from (nat_eq out out) (nat_eq local local) (eq-eqb out out refl) (eq-eqb local local refl)))
  fine_operation hss _ untaken = tt

  or_first : (a b : Bool) → (a || b) ≡ false → a ≡ false
  or_first true b e = e
  or_first false b e = refl

  or_second : (a b : Bool) → (a || b) ≡ false → b ≡ false
  or_second true b e = absurd (cc e)
  or_second false b e = e

  before_within : (ls : List Local) (i : ℕ) (hss : List (List ℕ)) → AreBefore i hss → AreBefore (i + length ls) (homes_from home i (length ls) ∷ hss)
  before_within ls i hss before r (inl here) =
      let it = among_number home i (length ls) r here in let less = it.1.1 in (i + it.0, (omega (arith, less), it.1.0))
  before_within ls i hss before r (inr around) = let it = before r around in let less = it.1.0 in (it.0, (omega (arith, less), it.1.1))

  untaken_within : (ls : List Local) (body : Statements) (i : ℕ) (hss : List (List ℕ)) → AreFlags flag i (eligible_from 0 ls body)
      → AreUntaken hss (Block ls body) → AreAllUntaken (homes_from home i (length ls) ∷ hss) body
  untaken_within ls body i hss f untaken zero local r e =
      let it = home_number home i (length ls) local r e in
      let some = home_some (homes_from home i (length ls)) local r e in
      let n : 0 + local ≡ local = omega arith in
      subst (λ k. addressed_of 0 k body ≡ false) n (flag_number flag 0 ls body i local f it.1 (flagged (i + local) some.0 (it.0 ∙ some.1)))
  untaken_within ls body i hss f untaken (suc out) local r e = untaken out local r e

  mutual
    fine : (s : Statement) (i b : ℕ) (hss : List (List ℕ)) → AreFlags flag i (eligible s) → i + length (eligible s) ≤ all → AreBefore i hss → AreUntaken hss s
        → IsFine fn hss (homes_from home i (length (eligible s) + b)) s
    fine (Do operation) i b hss f within before untaken = fine_operation hss operation untaken
    fine (If t these those) i b hss f within before untaken =
        let one = eligible_of these in
        let two = eligible_of those in
        let many = length-append one two in
        let count : length one + (length two + b) ≡ length (one ++ two) + b = omega (arith, many) in (
          subst (λ n. AreFine fn hss (homes_from home i n) these) count
              (all_fine these i (length two + b) hss (flags_first flag i one two f) (omega (arith, within, many)) before
              (λ out local r e. or_first (addressed_of out local these) (addressed_of out local those) (untaken out local r e))),
          subst (λ hs. AreFine fn hss hs those) (sym (ap (λ n. names_after_all these (homes_from home i n)) (sym count)
              ∙ all_names_are home these i (length two + b)))
              (all_fine those (i + length one) b hss (flags_second flag i one two f) (omega (arith, within, many))
              (λ r around. let it = before r around in let less = it.1.0 in (it.0, (omega (arith, less), it.1.1)))
              (λ out local r e. or_second (addressed_of out local these) (addressed_of out local those) (untaken out local r e))),
        )
    fine (While test t body) i b hss f within before untaken =
        let one = eligible_of test in
        let two = eligible_of body in
        let many = length-append one two in
        let count : length one + (length two + b) ≡ length (one ++ two) + b = omega (arith, many) in (
          subst (λ n. AreFine fn hss (homes_from home i n) test) count
              (all_fine test i (length two + b) hss (flags_first flag i one two f) (omega (arith, within, many)) before
              (λ out local r e. or_first (addressed_of out local test) (addressed_of out local body) (untaken out local r e))),
          subst (λ hs. AreFine fn hss hs body) (sym (ap (λ n. names_after_all test (homes_from home i n)) (sym count)
              ∙ all_names_are home test i (length two + b)))
              (all_fine body (i + length one) b hss (flags_second flag i one two f) (omega (arith, within, many))
              (λ r around. let it = before r around in let less = it.1.0 in (it.0, (omega (arith, less), it.1.1)))
              (λ out local r e. or_second (addressed_of out local test) (addressed_of out local body) (untaken out local r e))),
        )
    fine (Block ls body) i b hss f within before untaken =
        let flags = eligible_from 0 ls body in
        let inner = eligible_of body in
        let many = length-append flags inner in
        let few = as_many_flags 0 ls body in
        let count : length ls + (length inner + b) ≡ length (flags ++ inner) + b = omega (arith, many, few) in
        let start : i + length flags ≡ i + length ls = omega (arith, few) in
        let hs = homes_from home i (length ls) in
        let here : homes_here ls (homes_from home i (length (flags ++ inner) + b)) ≡ hs =
        ap (λ n. homes_here ls (homes_from home i n)) (sym count) ∙ here_are home ls i (length inner + b) in
        let after : homes_after ls (homes_from home i (length (flags ++ inner) + b)) ≡ homes_from home (i + length ls) (length inner + b) =
        ap (λ n. homes_after ls (homes_from home i n)) (sym count) ∙ after_are home ls i (length inner + b) in
        let mine = flags_first flag i flags inner f in (
          subst (λ k. FitsIn fn ls k hss) (sym here) (fits_here ls body i hss mine (omega (arith, within, many, few)) before),
          subst (λ k. AreFine fn (k ∷ hss) (homes_after ls (homes_from home i (length (flags ++ inner) + b))) body) (sym here)
              (subst (λ k. AreFine fn (hs ∷ hss) k body) (sym after)
              (all_fine body (i + length ls) b (hs ∷ hss) (subst (λ k. AreFlags flag k inner) start (flags_second flag i flags inner f))
              (omega (arith, within, many, few)) (before_within ls i hss before)
              (untaken_within ls body i hss mine (λ out local r e. untaken out local r e)))),
        )
    fine (Leave body) i b hss f within before untaken = all_fine body i b hss f within before (λ out local r e. untaken out local r e)
    fine Break i b hss f within before untaken = tt
    fine Continue i b hss f within before untaken = tt
    fine (Call results g arguments) i b hss f within before untaken = tt
    fine (Return values) i b hss f within before untaken = tt
    fine (Raise kind) i b hss f within before untaken = tt

    all_fine : (ss : Statements) (i b : ℕ) (hss : List (List ℕ)) → AreFlags flag i (eligible_of ss) → i + length (eligible_of ss) ≤ all → AreBefore i hss
        → AreAllUntaken hss ss → AreFine fn hss (homes_from home i (length (eligible_of ss) + b)) ss
    all_fine NoStatements i b hss f within before untaken = tt
    all_fine (MoreStatements s ss) i b hss f within before untaken =
        let one = eligible s in
        let two = eligible_of ss in
        let many = length-append one two in
        let count : length one + (length two + b) ≡ length (one ++ two) + b = omega (arith, many) in (
          subst (λ n. IsFine fn hss (homes_from home i n) s) count
              (fine s i (length two + b) hss (flags_first flag i one two f) (omega (arith, within, many)) before
              (λ out local r e. or_first (addressed out local s) (addressed_of out local ss) (untaken out local r e))),
          subst (λ hs. AreFine fn hss hs ss) (sym (ap (λ n. names_after s (homes_from home i n)) (sym count)
              ∙ names_are home s i (length two + b)))
              (all_fine ss (i + length one) b hss (flags_second flag i one two f) (omega (arith, within, many))
              (λ r around. let it = before r around in let less = it.1.0 in (it.0, (omega (arith, less), it.1.1)))
              (λ out local r e. or_second (addressed out local s) (addressed_of out local ss) (untaken out local r e))),
        )

  pub fine_homes : AreFine fn [] (homes_in fn) fn.body
  fine_homes =
      let n : all + 0 ≡ all = omega arith in
      subst (λ k. AreFine fn [] (homes_from home 0 k) fn.body) n
      (all_fine fn.body 0 0 [] (flags_are (eligible_of fn.body)) (omega arith) (λ r around. absurd around) (λ out local r e. absurd (none-some r e)))
