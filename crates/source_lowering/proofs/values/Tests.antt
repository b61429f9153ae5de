-- Conditions: an operand that is tested, and `!`.
use Rattle.std.proofs.Common.{◌≡◌, ℕ, ◌+◌, List, [], ◌∷◌, ◌++◌, Bool, true, false, not, nat_eq, refl, sym, ap, ◌∙◌, subst, arith, ◌≤◌}
use Rattle.std.specs.Prelude.{if◌then◌else◌}
use Rattle.std.proofs.lemmas.Bool.Decides.{nat_tests}
use Rattle.source_meaning.specs.Shapes.{Shape, IntShape}
use Rattle.source_meaning.specs.Memory as source
use Rattle.source_meaning.specs.Memory.{IntegerType, AsInt, AsUnsigned, AsChar, Scalar}
use Rattle.source_meaning.specs.Steps as steps
use Rattle.source_meaning.specs.Steps.{give, need, choose}
use Rattle.source_meaning.specs.Operators.{truth_value, is_true}
use Rattle.source_meaning.specs.Conversions.{one}
use Rattle.source_meaning.specs.Places.{Sense}
use Rattle.source_meaning.specs.Programs.{integer_shape}
use Rattle.source_meaning.specs.Calls.{tested, inverted, truth}
use Rattle.core_meaning.specs.Memory as core_memory
use Rattle.core_meaning.specs.Memory.{Content, Word, Null, Pointer}
use Rattle.core_meaning.specs.Core as core
use Rattle.core_meaning.specs.Core.{Statement, Do, Constant, Apply, IsNull, Statements}
use Rattle.core_meaning.specs.Words as words
use Rattle.core_meaning.specs.Steps as core_steps
use Rattle.core_meaning.specs.Steps.{Config, with_temp}
use Rattle.core_meaning.specs.Meaning as meaning
use Rattle.core_meaning.specs.Operations.{does}
use Rattle.source_lowering.specs.Lowered.{put, truth_code, turned_code, word_code, not_code}
use Rattle.source_lowering.specs.Simulation.{at, Point, SameState, SameAt, Next, AreKept, GrownAt, Given, GoesOn, GivesAs}
use Rattle.source_lowering.proofs.Runs.{stuck_same, put_all}
use Rattle.core_meaning.proofs.Results.{truth_below}
use Rattle.source_lowering.proofs.values.Operators.{truth_is}
use Rattle.source_lowering.proofs.values.Integers.{IsTaken, word_given}
use Rattle.source_lowering.proofs.values.AnyValues.{one_same, thin_same, fat_same}
use Rattle.source_lowering.proofs.values.Values.{put_temp, other_temp, kept_temp, temp_fits, put_value, over}

-- 0 or 1 is put where a test's value goes
pub put_truth : (p : Point) (n d : ℕ) (m0 : source.Memory) (c0 : Config) (m : source.Memory) (c : Config) (b : Bool)
    (s : List Scalar → source.Memory → steps.Step) (k : Config → core_steps.Step)
    → SameState p m c → GrownAt p m0 c0 m c → AreKept d c0 c → GoesOn p n d m0 c0 IntShape s k
    → SameAt p n (s (truth_value b ∷ []) m) (k (with_temp d (Word (words.truth b)) c))
put_truth p n d m0 c0 m c b s k fits later kept goes =
    put_value p n d m0 c0 m c IntShape (truth_value b ∷ []) (Word (words.truth b)) s k fits later kept refl
    (subst (λ z. Given p.world m c.memory IntShape (z ∷ []) (Word (words.truth b) ∷ [])) (sym (truth_is b)) (word_given p.world m c.memory AsInt (words.truth b)
    (Word (words.truth b)) (truth_below b) refl)) goes

pub two_words : (op : core.Binary) (c : Config) (t x y a b : ℕ) (next : Config → core_steps.Step) → c.temps x ≡ Word a → c.temps y ≡ Word b
    → does (Apply op t x y) next c ≡ next (with_temp t (Word (words.two op a b)) c)
two_words op c t x y a b next e f = rw (e, f) refl

-- 0 stays 0, another word becomes 1
pub truth_same : (p : Point) (n d : ℕ) (m0 : source.Memory) (c0 : Config) (m : source.Memory) (c : Config) (word : ℕ)
    (s : List Scalar → source.Memory → steps.Step) (rest : Statements) (next : Next)
    → c.temps d ≡ Word word → SameState p m c → GrownAt p m0 c0 m c → AreKept d c0 c → GoesOn p n d m0 c0 IntShape s (meaning.statements rest next)
    → SameAt p n (s (truth_value (not (nat_eq word 0)) ∷ []) m) (meaning.statements (put (truth_code d) rest) next c)
truth_same p n d m0 c0 m c word s rest next temp fits later kept goes =
    let here : Config = with_temp (d + 1) (Word 0) c in
    subst (λ z. SameAt p n (s (truth_value (not (nat_eq word 0)) ∷ []) m) z)
    (sym (two_words core.NotEqual here d d (d + 1) word 0 (meaning.statements rest next) (other_temp (d + 1) d (Word 0) c (omega arith) ∙ temp)
    (put_temp (d + 1) (Word 0) c)))
    (put_truth p n d m0 c0 m here (not (nat_eq word 0)) s (meaning.statements rest next)
    (temp_fits p m c (d + 1) (Word 0) fits (over goes.above (omega arith))) later
    (kept_temp d (d + 1) (Word 0) c0 c (omega arith) kept) goes)

-- ---- a tested operand

-- a branch by a word
pub branch_by : (c : Config) (d word : ℕ) (b : Bool) (these those : core_steps.Step) → c.temps d ≡ Word word → nat_eq word 0 ≡ b
    → meaning.branch (c.temps d) these those ≡ (if b then those else these)
branch_by c d word b these those temp e = rw (temp, e) refl

-- what decides a branch
pub record Decides (b : Bool) (x : Content) : Type 0 where
  pub branches : (these those : core_steps.Step) → meaning.branch x these those ≡ (if b then these else those)

word_decides : (word : ℕ) (x : Content) → x ≡ Word word → Decides (not (nat_eq word 0)) x
word_decides word x e = record { branches = λ these those. ap (λ z. meaning.branch z these those) e ∙ turned (nat_eq word 0) these those }
  where
    turned : (b : Bool) (these those : core_steps.Step) → (if b then those else these) ≡ (if not b then these else those)
    turned true these those = refl
    turned false these those = refl

-- what comes after a condition: the source has a truth, by which Core branches
pub record Decided (p : Point) (n d : ℕ) (m0 : source.Memory) (c0 : Config)
    (s : Bool → source.Memory → steps.Step) (k : Config → core_steps.Step) : Type 0 where
  pub above : p.regions.all ≤ d
  pub go : (m : source.Memory) (c : Config) (b : Bool) → SameState p m c → GrownAt p m0 c0 m c → AreKept d c0 c → Decides b (c.temps d)
      → SameAt p n (s b m) (k c)

pub truth_decided : (p : Point) (n d : ℕ) (e : Sense) (shape : Shape) (code : List Statement) (m : source.Memory) (c : Config)
    (s : Bool → source.Memory → steps.Step) (rest : Statements) (next : Next) → IsTaken shape → GivesAs p n d shape e.look code → SameState p m c
    → Decided p n d m c s (meaning.statements rest next) → SameAt p n (truth e s m) (meaning.statements (put code rest) next c)
truth_decided p n d e shape code m c s rest next taken gives fits tests =
    gives.same m c (λ vs. one vs (λ v. need (is_true v) s)) rest next fits (record {
      above = tests.above;
      go = λ m1 c1 vs fits1 later1 kept1 given1.
          one_same p.world p.program n shape m1 c1.memory vs d c1.temps (λ v. need (is_true v) s) _ taken given1
          (λ t word temp shape_is type_is small.
          tests.go m1 c1 (not (nat_eq word 0)) fits1 later1 kept1 (word_decides word (c1.temps d) temp))
          (λ v o.
          thin_same p.world p.program n shape m1 c1.memory v (c1.temps d) (λ u. need (is_true u) s) _ o
          (λ x b. tests.go m1 c1 false fits1 later1 kept1 (record { branches = λ these those. ap (λ z. meaning.branch z these those) x }))
          (λ t byte x full leads.
          tests.go m1 c1 true fits1 later1 kept1 (record { branches = λ these those. ap (λ z. meaning.branch z these those) x })))
          (λ birth x shape_is. stuck_same p.world p.program n _)
          (λ birth is. stuck_same p.world p.program n _)
          (λ v o.
          fat_same p.world p.program n shape m1 c1.memory v (c1.temps d) (c1.temps (d + 1)) (c1.temps (d + 2)) (λ u. need (is_true u) s) _ o
          (λ x. tests.go m1 c1 false fits1 later1 kept1 (record { branches = λ these those. ap (λ z. meaning.branch z these those) x }))
          (λ span byte x.
          tests.go m1 c1 true fits1 later1 kept1 (record { branches = λ these those. ap (λ z. meaning.branch z these those) x })));
    })

-- what comes after a test: the source has a truth, Core a word
pub record Tested (p : Point) (n d : ℕ) (m0 : source.Memory) (c0 : Config) (s : Bool → source.Memory → steps.Step) (k : Config → core_steps.Step) : Type 0 where
  pub above : p.regions.all ≤ d
  pub go : (m : source.Memory) (c : Config) (word : ℕ) → SameState p m c → GrownAt p m0 c0 m c → AreKept d c0 c → c.temps d ≡ Word word
      → SameAt p n (s (not (nat_eq word 0)) m) (k c)

-- a word is turned over
abbrev pub turned : ℕ → ℕ → Config → Config
turned d word c = with_temp d (Word (words.truth (nat_eq word 0))) (with_temp (d + 1) (Word 0) c)

pub turned_does : (d word : ℕ) (c : Config) (rest : Statements) (next : Next) → c.temps d ≡ Word word
    → meaning.statements (put (turned_code d) rest) next c ≡ meaning.statements rest next (turned d word c)
turned_does d word c rest next temp =
    let here : Config = with_temp (d + 1) (Word 0) c in
    two_words core.Equal here d d (d + 1) word 0 (meaning.statements rest next) (other_temp (d + 1) d (Word 0) c (omega arith) ∙ temp)
    (put_temp (d + 1) (Word 0) c)

pub turned_fits : (p : Point) (m : source.Memory) (d word : ℕ) (c : Config) → SameState p m c → p.regions.all ≤ d
    → SameState p m (turned d word c)
turned_fits p m d word c fits above =
    temp_fits p m (with_temp (d + 1) (Word 0) c) d (Word (words.truth (nat_eq word 0))) (temp_fits p m c (d + 1) (Word 0) fits (over above (omega arith)))
    above

pub turned_kept : (d word : ℕ) (c0 c : Config) → AreKept d c0 c → AreKept d c0 (turned d word c)
turned_kept d word c0 c kept =
    kept_temp d d (Word (words.truth (nat_eq word 0))) c0 (with_temp (d + 1) (Word 0) c) (omega arith)
    (kept_temp d (d + 1) (Word 0) c0 c (omega arith) kept)

pub null_is_one : (c : Config) (d e : ℕ) (next : Config → core_steps.Step) → c.temps e ≡ Null → does (IsNull d e) next c ≡ next (with_temp d (Word 1) c)
null_is_one c d e next x = rw x refl

pub spot_is_zero : (c : Config) (d e byte : ℕ) (t : core_memory.Spot) (next : Config → core_steps.Step) → c.temps e ≡ Pointer t byte
    → does (IsNull d e) next c ≡ next (with_temp d (Word 0) c)
spot_is_zero c d e byte t next x = rw x refl

-- a pointer becomes a word
pointer_tested : (p : Point) (n d word : ℕ) (m0 : source.Memory) (c0 : Config) (m : source.Memory) (c : Config) (s : Bool → source.Memory → steps.Step)
    (rest : Statements) (next : Next) → SameState p m c → GrownAt p m0 c0 m c → AreKept d c0 c
    → does (IsNull d d) (meaning.statements (put (turned_code d) rest) next) c ≡ meaning.statements (put (turned_code d) rest) next (with_temp d (Word word) c)
    → Tested p n d m0 c0 s (meaning.statements rest next)
    → SameAt p n (s (not (nat_eq (words.truth (nat_eq word 0)) 0)) m) (does (IsNull d d) (meaning.statements (put (turned_code d) rest) next) c)
pointer_tested p n d word m0 c0 m c s rest next fits later kept is tests =
    let here : Config = with_temp d (Word word) c in
    subst (λ z. SameAt p n (s (not (nat_eq (words.truth (nat_eq word 0)) 0)) m) z)
    (sym (is ∙ turned_does d word here rest next (put_temp d (Word word) c)))
    (tests.go m (turned d word here) (words.truth (nat_eq word 0))
    (turned_fits p m d word here (temp_fits p m c d (Word word) fits tests.above) tests.above) later
    (turned_kept d word c0 here (kept_temp d d (Word word) c0 c (omega arith) kept)) (put_temp d (Word (words.truth (nat_eq word 0)))
    (with_temp (d + 1) (Word 0) here)))

word_code_none : (t : IntegerType) (shape : Shape) (d : ℕ) → shape ≡ integer_shape t → word_code shape d ≡ []
word_code_none t shape d e = ap (λ z. word_code z d) e ∙ by t
  where
    by : (u : IntegerType) → word_code (integer_shape u) d ≡ []
    by AsInt = refl
    by AsUnsigned = refl
    by AsChar = refl

pub truth_tested : (p : Point) (n d : ℕ) (e : Sense) (shape : Shape) (code : List Statement) (m : source.Memory) (c : Config)
    (s : Bool → source.Memory → steps.Step) (rest : Statements) (next : Next) → IsTaken shape → GivesAs p n d shape e.look code → SameState p m c
    → Tested p n d m c s (meaning.statements rest next)
    → SameAt p n (truth e s m) (meaning.statements (put (code ++ word_code shape d) rest) next c)
truth_tested p n d e shape code m c s rest next taken gives fits tests =
    subst (λ z. SameAt p n (truth e s m) (meaning.statements z next c)) (sym (put_all code (word_code shape d) rest))
    (gives.same m c (λ vs. one vs (λ v. need (is_true v) s)) (put (word_code shape d) rest) next fits (record {
      above = tests.above;
      go = λ m1 c1 vs fits1 later1 kept1 given1.
          one_same p.world p.program n shape m1 c1.memory vs d c1.temps (λ v. need (is_true v) s) _ taken given1
          (λ t word temp shape_is type_is small.
          subst (λ z. SameAt p n (s (not (nat_eq word 0)) m1) (meaning.statements (put z rest) next c1)) (sym (word_code_none t shape d shape_is))
          (tests.go m1 c1 word fits1 later1 kept1 temp))
          (λ v o.
          subst (λ z. SameAt p n (need (is_true v) s m1) (meaning.statements (put (word_code z d) rest) next c1)) (sym o.shape_is)
          (thin_same p.world p.program n shape m1 c1.memory v (c1.temps d) (λ u. need (is_true u) s)
          (does (IsNull d d) (meaning.statements (put (turned_code d) rest) next) c1) o
          (λ x b. pointer_tested p n d 1 m c m1 c1 s rest next fits1 later1 kept1
          (null_is_one c1 d d (meaning.statements (put (turned_code d) rest) next) x) tests)
          (λ t byte x full leads. pointer_tested p n d 0 m c m1 c1 s rest next fits1 later1 kept1
          (spot_is_zero c1 d d byte (at t) (meaning.statements (put (turned_code d) rest) next) x) tests)))
          (λ birth x shape_is. stuck_same p.world p.program n _)
          (λ birth is. stuck_same p.world p.program n _)
          (λ v o.
          subst (λ z. SameAt p n (need (is_true v) s m1) (meaning.statements (put (word_code z d) rest) next c1)) (sym o.shape_is)
          (fat_same p.world p.program n shape m1 c1.memory v (c1.temps d) (c1.temps (d + 1)) (c1.temps (d + 2)) (λ u. need (is_true u) s)
          (does (IsNull d d) (meaning.statements (put (turned_code d) rest) next) c1) o
          (λ x. pointer_tested p n d 1 m c m1 c1 s rest next fits1 later1 kept1
          (null_is_one c1 d d (meaning.statements (put (turned_code d) rest) next) x) tests)
          (λ span byte x. pointer_tested p n d 0 m c m1 c1 s rest next fits1 later1 kept1
          (spot_is_zero c1 d d byte (at span.first) (meaning.statements (put (turned_code d) rest) next) x) tests)));
    }))

-- ---- !

turned_truth : (b : Bool) (s : Bool → source.Memory → steps.Step) (m : source.Memory) → choose (not b) (give false) (give true) s m ≡ s b m
turned_truth true s m = refl
turned_truth false s m = refl

-- `!e` is put where its value goes
not_put : (p : Point) (n d : ℕ) (b : Bool) (m0 : source.Memory) (c0 : Config) (m : source.Memory)
    (c here : Config) (s : List Scalar → source.Memory → steps.Step)
    (step : core_steps.Step) (k : Config → core_steps.Step) → step ≡ k (with_temp d (Word (words.truth b)) here) → SameState p m here → GrownAt p m0 c0 m here
    → AreKept d c0 here → GoesOn p n d m0 c0 IntShape s k
    → SameAt p n (choose (not b) (give false) (give true) (λ u. s (truth_value u ∷ [])) m) step
not_put p n d b m0 c0 m c here s step k is fits later kept goes =
    subst (λ z. SameAt p n z step) (sym (turned_truth b (λ u. s (truth_value u ∷ [])) m))
    (subst (λ z. SameAt p n (s (truth_value b ∷ []) m) z) (sym is) (put_truth p n d m0 c0 m here b s k fits later kept goes))

not_code_word : (t : IntegerType) (shape : Shape) (d : ℕ) → shape ≡ integer_shape t
    → not_code shape d ≡ Do (Constant d 0) ∷ Do (Apply core.Equal d (d + 1) d) ∷ []
not_code_word t shape d e = ap (λ z. not_code z d) e ∙ by t
  where
    by : (u : IntegerType) → not_code (integer_shape u) d ≡ Do (Constant d 0) ∷ Do (Apply core.Equal d (d + 1) d) ∷ []
    by AsInt = refl
    by AsUnsigned = refl
    by AsChar = refl

pub not_gives : (p : Point) (n d : ℕ) (e : Sense) (shape : Shape) (code : List Statement) → IsTaken shape → GivesAs p n (d + 1) shape e.look code
    → GivesAs p n d IntShape (tested (inverted (truth e))).look (code ++ not_code shape d)
not_gives p n d e shape code taken gives = record {
  same = λ m c s rest next fits goes.
      subst (λ z. SameAt p n ((tested (inverted (truth e))).look s m) (meaning.statements z next c)) (sym (put_all code (not_code shape d) rest))
      (gives.same m c (λ vs. one vs (λ v. need (is_true v) (after s))) (put (not_code shape d) rest) next fits (record {
        above = over goes.above (omega arith);
        go = λ m2 c2 vs fits2 later2 kept2 given2.
            one_same p.world p.program n shape m2 c2.memory vs (d + 1) c2.temps (λ v. need (is_true v) (after s)) _ taken given2
            (λ t word temp shape_is type_is small.
            subst (λ z. SameAt p n (after s (not (nat_eq word 0)) m2) (meaning.statements (put z rest) next c2)) (sym (not_code_word t shape d shape_is))
            (word_not m c m2 c2 word s rest next fits2 later2 (below c c2 kept2) temp goes))
            (λ v o.
            subst (λ z. SameAt p n (need (is_true v) (after s) m2) (meaning.statements (put (not_code z d) rest) next c2)) (sym o.shape_is)
            (thin_same p.world p.program n shape m2 c2.memory v (c2.temps (d + 1)) (λ u. need (is_true u) (after s))
            (does (IsNull d (d + 1)) (meaning.statements rest next) c2) o
            (λ x b.
            not_put p n d true m c m2 c2 c2 s _ (meaning.statements rest next) (null_is_one c2 d (d + 1) (meaning.statements rest next) x) fits2 later2
            (below c c2 kept2) goes)
            (λ t byte x full leads.
            not_put p n d false m c m2 c2 c2 s _ (meaning.statements rest next) (spot_is_zero c2 d (d + 1) byte (at t) (meaning.statements rest next) x) fits2
            later2 (below c c2 kept2) goes)))
            (λ birth x shape_is. stuck_same p.world p.program n _)
            (λ birth is. stuck_same p.world p.program n _)
            (λ v o.
            subst (λ z. SameAt p n (need (is_true v) (after s) m2) (meaning.statements (put (not_code z d) rest) next c2)) (sym o.shape_is)
            (fat_same p.world p.program n shape m2 c2.memory v (c2.temps (d + 1)) (c2.temps (d + 1 + 1)) (c2.temps (d + 1 + 2))
            (λ u. need (is_true u) (after s)) (does (IsNull d (d + 1)) (meaning.statements rest next) c2) o
            (λ x.
            not_put p n d true m c m2 c2 c2 s _ (meaning.statements rest next) (null_is_one c2 d (d + 1) (meaning.statements rest next) x) fits2 later2
            (below c c2 kept2) goes)
            (λ span byte x.
            not_put p n d false m c m2 c2 c2 s _ (meaning.statements rest next)
            (spot_is_zero c2 d (d + 1) byte (at span.first) (meaning.statements rest next) x) fits2 later2 (below c c2 kept2) goes)));
      }));
}
  where
    after : (List Scalar → source.Memory → steps.Step) → Bool → source.Memory → steps.Step
    after s t = choose t (give false) (give true) (λ u. s (truth_value u ∷ []))

    below : (c c2 : Config) → AreKept (d + 1) c c2 → AreKept d c c2
    below c c2 kept = λ k h. kept k (omega (arith, h))

    above_temp : (c : Config) → (with_temp d (Word 0) c).temps (d + 1) ≡ c.temps (d + 1)
    above_temp c = let no : nat_eq (d + 1) d ≡ false = grind (arith, nat_tests) in ap (λ b. if b then Word 0 else c.temps (d + 1)) no

    word_not : (m : source.Memory) (c : Config) (m2 : source.Memory) (c2 : Config) (word : ℕ) (s : List Scalar → source.Memory → steps.Step)
        (rest : Statements) (next : Next) → SameState p m2 c2 → GrownAt p m c m2 c2 → AreKept d c c2 → c2.temps (d + 1) ≡ Word word
        → GoesOn p n d m c IntShape s (meaning.statements rest next)
        → SameAt p n (after s (not (nat_eq word 0)) m2) (meaning.statements (put (Do (Constant d 0) ∷ Do (Apply core.Equal d (d + 1) d) ∷ []) rest) next c2)
    word_not m c m2 c2 word s rest next fits2 later2 kept2 temp goes =
        let here : Config = with_temp d (Word 0) c2 in
        not_put p n d (nat_eq word 0) m c m2 c2 here s _ (meaning.statements rest next)
        (two_words core.Equal here d (d + 1) d word 0 (meaning.statements rest next) (above_temp c2 ∙ temp) (put_temp d (Word 0) c2))
        (temp_fits p m2 c2 d (Word 0) fits2 goes.above) later2 (kept_temp d d (Word 0) c c2 (omega arith) kept2) goes
