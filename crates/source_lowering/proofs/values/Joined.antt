-- `&&` and `||`: operands that are tested one after the other.
use Rattle.std.proofs.Common.{◌≡◌, ℕ, List, [], ◌∷◌, ◌++◌, Bool, true, false, not, nat_eq, refl, sym, ◌∙◌, subst, arith}
use Rattle.source_meaning.specs.Shapes.{Shape, IntShape}
use Rattle.source_meaning.specs.Memory as source
use Rattle.source_meaning.specs.Memory.{Scalar}
use Rattle.source_meaning.specs.Steps as steps
use Rattle.source_meaning.specs.Steps.{give, choose}
use Rattle.source_meaning.specs.Operators.{truth_value}
use Rattle.source_meaning.specs.Places.{Sense}
use Rattle.source_meaning.specs.Calls.{all_true, any_true, tested}
use Rattle.core_meaning.specs.Memory.{Word}
use Rattle.core_meaning.specs.Core.{Statement, If, Statements, NoStatements, MoreStatements}
use Rattle.core_meaning.specs.Steps.{Config}
use Rattle.core_meaning.specs.Meaning as meaning
use Rattle.source_lowering.specs.Lowered.{put, all_of, truth_code, word_code}
use Rattle.source_lowering.specs.Simulation.{Point, SameState, SameAt, Next, AreKept, GrownAt, GoesOn, GivesAs, within}
use Rattle.source_lowering.proofs.memory.Keeping.{later_on}
use Rattle.source_lowering.proofs.values.Integers.{IsTaken}
use Rattle.source_lowering.proofs.values.Values.{put_three, over}
use Rattle.source_lowering.proofs.values.Tests.{branch_by, truth_same, truth_tested}

-- ---- &&

-- after operands the last of which gave the word
pub record AllAs (p : Point) (n d : ℕ) (es : List Sense) (code : List Statement) : Type 0 where
  pub same : (m0 : source.Memory) (c0 : Config) (m : source.Memory) (c : Config) (word : ℕ) (s : List Scalar → source.Memory → steps.Step) (rest : Statements)
      (next : Next) → SameState p m c → GrownAt p m0 c0 m c → AreKept d c0 c → c.temps d ≡ Word word
      → GoesOn p n d m0 c0 IntShape s (meaning.statements rest next)
      → SameAt p n (choose (not (nat_eq word 0)) (all_true es) (give false) (λ t. s (truth_value t ∷ [])) m) (meaning.statements
      (put code (put (truth_code d) rest)) next c)

all_left : (b : Bool) (s : List Scalar → source.Memory → steps.Step) (m : source.Memory) → choose b (all_true []) (give false) (λ t. s (truth_value t ∷ [])) m
    ≡ s (truth_value b ∷ []) m
all_left true s m = refl
all_left false s m = refl

pub all_none : (p : Point) (n d : ℕ) → AllAs p n d [] []
all_none p n d = record {
  same = λ m0 c0 m c word s rest next fits later kept temp goes.
      subst (λ z. SameAt p n z (meaning.statements (put (truth_code d) rest) next c)) (sym (all_left (not (nat_eq word 0)) s m))
      (truth_same p n d m0 c0 m c word s rest next temp fits later kept goes);
}

pub all_more : (p : Point) (n d : ℕ) (e : Sense) (es : List Sense) (shape : Shape) (code others : List Statement) → IsTaken shape
    → GivesAs p n d shape e.look code → AllAs p n d es others → AllAs p n d (e ∷ es) (If d (all_of (code ++ word_code shape d)) NoStatements ∷ others)
all_more p n d e es shape code others taken gives more = record {
  same = λ m0 c0 m c word s rest next fits later kept temp goes. by (nat_eq word 0) m0 c0 m c
      word s rest next refl fits later kept temp goes;
}
  where
    by : (b : Bool) (m0 : source.Memory) (c0 : Config) (m : source.Memory) (c : Config) (word : ℕ) (s : List Scalar → source.Memory → steps.Step)
        (rest : Statements) (next : Next) → nat_eq word 0 ≡ b → SameState p m c → GrownAt p m0 c0 m c → AreKept d c0 c → c.temps d ≡ Word word
        → GoesOn p n d m0 c0 IntShape s (meaning.statements rest next)
        → SameAt p n (choose (not (nat_eq word 0)) (all_true (e ∷ es)) (give false) (λ t. s (truth_value t ∷ [])) m)
        (meaning.statements (MoreStatements (If d (all_of (code ++ word_code shape d)) NoStatements) (put others (put (truth_code d) rest))) next c)
    by true m0 c0 m c word s rest next test fits later kept temp goes =
        let after : Next = λ exit. meaning.falls_to exit (meaning.statements (put others (put (truth_code d) rest)) next) next in
        subst (λ z. SameAt p n (choose (not (nat_eq word 0)) (all_true (e ∷ es)) (give false) (λ t. s (truth_value t ∷ [])) m) z)
        (sym (branch_by c d word true (meaning.statements (all_of (code ++ word_code shape d)) after c) (meaning.statements NoStatements after c) temp test))
        (subst (λ z. SameAt p n (choose (not z) (all_true (e ∷ es)) (give false) (λ t. s (truth_value t ∷ [])) m)
        (meaning.statements (put others (put (truth_code d) rest)) next c)) (sym test)
        (subst (λ z. SameAt p n (choose (not z) (all_true es) (give false) (λ t. s (truth_value t ∷ [])) m) (meaning.statements
        (put others (put (truth_code d) rest)) next c)) test
        (more.same m0 c0 m c word s rest next fits later kept temp goes)))
    by false m0 c0 m c word s rest next test fits later kept temp goes =
        let after : Next = λ exit. meaning.falls_to exit (meaning.statements (put others (put (truth_code d) rest)) next) next in
        subst (λ z. SameAt p n (choose (not (nat_eq word 0)) (all_true (e ∷ es)) (give false) (λ t. s (truth_value t ∷ [])) m) z)
        (sym (branch_by c d word false (meaning.statements (all_of (code ++ word_code shape d)) after c) (meaning.statements NoStatements after c) temp test))
        (subst (λ z. SameAt p n (choose (not z) (all_true (e ∷ es)) (give false) (λ t. s (truth_value t ∷ [])) m)
        (meaning.statements (all_of (code ++ word_code shape d)) after c))
        (sym test)
        (truth_tested p n d e shape code m c (λ t. choose t (all_true es) (give false) (λ u. s (truth_value u ∷ []))) NoStatements after taken gives fits
        (record {
          above = over goes.above (omega arith);
          go = λ m2 c2 w2 fits2 later2 kept2 temp2.
              more.same m0 c0 m2 c2 w2 s rest next fits2 (later_on (within p) m0 m m2 c0.memory c.memory c2.memory later later2)
              (λ k h. kept2 k h ∙ kept k h) temp2 goes;
        })))

pub all_gives : (p : Point) (n d : ℕ) (e : Sense) (es : List Sense) (shape : Shape) (first others : List Statement) → IsTaken shape
    → GivesAs p n d shape e.look first → AllAs p n d es others → GivesAs p n d IntShape (tested (all_true (e ∷ es))).look
    ((first ++ word_code shape d) ++ (others ++ truth_code d))
all_gives p n d e es shape first others taken gives more = record {
  same = λ m c s rest next fits goes.
      subst (λ z. SameAt p n ((tested (all_true (e ∷ es))).look s m) (meaning.statements z next c))
      (sym (put_three (first ++ word_code shape d) others (truth_code d) rest))
      (truth_tested p n d e shape first m c (λ t. choose t (all_true es) (give false) (λ u. s (truth_value u ∷ []))) (put others (put (truth_code d) rest))
      next taken gives fits (record {
        above = over goes.above (omega arith);
        go = λ m2 c2 w2 fits2 later2 kept2 temp2. more.same m c m2 c2 w2 s rest next fits2 later2 kept2 temp2 goes;
      }));
}

-- ---- ||

pub record AnyAs (p : Point) (n d : ℕ) (es : List Sense) (code : List Statement) : Type 0 where
  pub same : (m0 : source.Memory) (c0 : Config) (m : source.Memory) (c : Config) (word : ℕ) (s : List Scalar → source.Memory → steps.Step) (rest : Statements)
      (next : Next) → SameState p m c → GrownAt p m0 c0 m c → AreKept d c0 c → c.temps d ≡ Word word
      → GoesOn p n d m0 c0 IntShape s (meaning.statements rest next)
      → SameAt p n (choose (not (nat_eq word 0)) (give true) (any_true es) (λ t. s (truth_value t ∷ [])) m) (meaning.statements
      (put code (put (truth_code d) rest)) next c)

any_left : (b : Bool) (s : List Scalar → source.Memory → steps.Step) (m : source.Memory) → choose b (give true) (any_true []) (λ t. s (truth_value t ∷ [])) m
    ≡ s (truth_value b ∷ []) m
any_left true s m = refl
any_left false s m = refl

pub any_none : (p : Point) (n d : ℕ) → AnyAs p n d [] []
any_none p n d = record {
  same = λ m0 c0 m c word s rest next fits later kept temp goes.
      subst (λ z. SameAt p n z (meaning.statements (put (truth_code d) rest) next c)) (sym (any_left (not (nat_eq word 0)) s m))
      (truth_same p n d m0 c0 m c word s rest next temp fits later kept goes);
}

pub any_more : (p : Point) (n d : ℕ) (e : Sense) (es : List Sense) (shape : Shape) (code others : List Statement) → IsTaken shape
    → GivesAs p n d shape e.look code → AnyAs p n d es others → AnyAs p n d (e ∷ es) (If d NoStatements (all_of (code ++ word_code shape d)) ∷ others)
any_more p n d e es shape code others taken gives more = record {
  same = λ m0 c0 m c word s rest next fits later kept temp goes. by (nat_eq word 0) m0 c0 m c
      word s rest next refl fits later kept temp goes;
}
  where
    by : (b : Bool) (m0 : source.Memory) (c0 : Config) (m : source.Memory) (c : Config) (word : ℕ) (s : List Scalar → source.Memory → steps.Step)
        (rest : Statements) (next : Next) → nat_eq word 0 ≡ b → SameState p m c → GrownAt p m0 c0 m c → AreKept d c0 c → c.temps d ≡ Word word
        → GoesOn p n d m0 c0 IntShape s (meaning.statements rest next)
        → SameAt p n (choose (not (nat_eq word 0)) (give true) (any_true (e ∷ es)) (λ t. s (truth_value t ∷ [])) m)
        (meaning.statements (MoreStatements (If d NoStatements (all_of (code ++ word_code shape d))) (put others (put (truth_code d) rest))) next c)
    by false m0 c0 m c word s rest next test fits later kept temp goes =
        let after : Next = λ exit. meaning.falls_to exit (meaning.statements (put others (put (truth_code d) rest)) next) next in
        subst (λ z. SameAt p n (choose (not (nat_eq word 0)) (give true) (any_true (e ∷ es)) (λ t. s (truth_value t ∷ [])) m) z)
        (sym (branch_by c d word false (meaning.statements NoStatements after c) (meaning.statements (all_of (code ++ word_code shape d)) after c) temp test))
        (subst (λ z. SameAt p n (choose (not z) (give true) (any_true (e ∷ es)) (λ t. s (truth_value t ∷ [])) m)
        (meaning.statements (put others (put (truth_code d) rest)) next c)) (sym test)
        (subst (λ z. SameAt p n (choose (not z) (give true) (any_true es) (λ t. s (truth_value t ∷ [])) m) (meaning.statements
        (put others (put (truth_code d) rest)) next c)) test
        (more.same m0 c0 m c word s rest next fits later kept temp goes)))
    by true m0 c0 m c word s rest next test fits later kept temp goes =
        let after : Next = λ exit. meaning.falls_to exit (meaning.statements (put others (put (truth_code d) rest)) next) next in
        subst (λ z. SameAt p n (choose (not (nat_eq word 0)) (give true) (any_true (e ∷ es)) (λ t. s (truth_value t ∷ [])) m) z)
        (sym (branch_by c d word true (meaning.statements NoStatements after c) (meaning.statements (all_of (code ++ word_code shape d)) after c) temp test))
        (subst (λ z. SameAt p n (choose (not z) (give true) (any_true (e ∷ es)) (λ t. s (truth_value t ∷ [])) m)
        (meaning.statements (all_of (code ++ word_code shape d)) after c))
        (sym test)
        (truth_tested p n d e shape code m c (λ t. choose t (give true) (any_true es) (λ u. s (truth_value u ∷ []))) NoStatements after taken gives fits
        (record {
          above = over goes.above (omega arith);
          go = λ m2 c2 w2 fits2 later2 kept2 temp2.
              more.same m0 c0 m2 c2 w2 s rest next fits2 (later_on (within p) m0 m m2 c0.memory c.memory c2.memory later later2)
              (λ k h. kept2 k h ∙ kept k h) temp2 goes;
        })))

pub any_gives : (p : Point) (n d : ℕ) (e : Sense) (es : List Sense) (shape : Shape) (first others : List Statement) → IsTaken shape
    → GivesAs p n d shape e.look first → AnyAs p n d es others → GivesAs p n d IntShape (tested (any_true (e ∷ es))).look
    ((first ++ word_code shape d) ++ (others ++ truth_code d))
any_gives p n d e es shape first others taken gives more = record {
  same = λ m c s rest next fits goes.
      subst (λ z. SameAt p n ((tested (any_true (e ∷ es))).look s m) (meaning.statements z next c))
      (sym (put_three (first ++ word_code shape d) others (truth_code d) rest))
      (truth_tested p n d e shape first m c (λ t. choose t (give true) (any_true es) (λ u. s (truth_value u ∷ []))) (put others (put (truth_code d) rest))
      next taken gives fits (record {
        above = over goes.above (omega arith);
        go = λ m2 c2 w2 fits2 later2 kept2 temp2. more.same m c m2 c2 w2 s rest next fits2 later2 kept2 temp2 goes;
      }));
}
