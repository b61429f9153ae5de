-- The elements of an array that is made, one after the other, in a block with their index: a unit that the source pays before an element is that of a turn of
-- Core's loop.
use Rattle.std.proofs.Common.{◌≡◌, ℕ, zero, suc, ◌+◌, ◌*◌, ◌^◌, ◌<◌, ◌≤◌, ◌⊎◌, inl, inr, List, [], ◌∷◌, ◌++◌, length, Bool, true, false, nat_eq, nat_lt, refl}
use Rattle.std.proofs.Common.{sym}
use Rattle.std.proofs.Common.{ap, ◌∙◌, subst, arith}
use Rattle.std.proofs.Math.Nat.{mod-eq_of_lt}
use Rattle.std.proofs.lemmas.Bool.{eqb-true}
use Rattle.std.proofs.lemmas.Bool.Decides.{nat_tests}
use Rattle.cyc_words.specs.Events.{AreBytes, SourceEnding}
use Rattle.step_trees.specs.Trees.{Pays, Stops, Turns, run}
use Rattle.source_meaning.specs.Shapes.{Shape, UnsignedShape, VoidShape}
use Rattle.source_meaning.specs.Memory as source
use Rattle.source_meaning.specs.Memory.{AsUnsigned, Dead, Integer, Spot, with_state}
use Rattle.source_meaning.specs.Steps as steps
use Rattle.source_meaning.specs.Steps.{Scope, World, ◌>>◌}
use Rattle.source_meaning.specs.Conversions.{cells_of}
use Rattle.source_meaning.specs.Values.{write_cells}
use Rattle.source_meaning.specs.Places.{Sense}
use Rattle.source_meaning.specs.Calls.{elements, index_in, index_made}
use Rattle.source_meaning.specs.Regions.{in_block}
use Rattle.source_meaning.specs.Programs.{source_bodies}
use Rattle.core_meaning.specs.Memory.{Word}
use Rattle.core_meaning.specs.Core.{Add, Apply, Do, LessUnsigned, NoStatements, Program, Put, Statement, Statements, While}
use Rattle.core_meaning.specs.Words as words
use Rattle.core_meaning.specs.Steps as core_steps
use Rattle.core_meaning.specs.Steps.{Config, Exit, Falls, LoopTurn, with_temp}
use Rattle.core_meaning.specs.Meaning as meaning
use Rattle.source_lowering.specs.Lowered.{all_of, elements_code, indexed_code, next_number, put, width_of}
use Rattle.source_lowering.specs.Programs.{locals_of, outward}
use Rattle.source_lowering.specs.Simulation.{AreKept, Given, GrownAt, Next, Point, Same, SameAt, SameOutcome, SameState, within}
use Rattle.source_lowering.proofs.memory.Keeping.{fits_later, later_less, later_on, later_self}
use Rattle.source_lowering.proofs.memory.Entering.{entered_later, source_in}
use Rattle.source_lowering.proofs.memory.Beginning.{word_begun}
use Rattle.source_lowering.proofs.Runs.{less_fuel, put_all}
use Rattle.source_lowering.proofs.values.Tests.{two_words}
use Rattle.source_lowering.proofs.values.Values.{kept_temp, other_temp, over, put_temp, temp_fits}
use Rattle.source_lowering.proofs.statements.Blocks.{after_out, agree_gone, at_start, entered_fits, later_gone}
use Rattle.source_lowering.proofs.statements.Declaring.{with_local}
use Rattle.source_lowering.proofs.expressions.Variables.{put_local}
use Rattle.source_lowering.proofs.expressions.MadeElements.{ArrayAt, ElementAs, array_later, element_of}

-- what the source pays by itself, and Core for a turn, is the same with a unit less
pub pays_a_turn : (w : World) (fs : Program) (n : ℕ) (s : source.Memory → steps.Step) (m : source.Memory) (other : LoopTurn)
    (c : Exit → Config → core_steps.Step) (state : Config)
    → ((j : ℕ) → suc j ≤ n → Same w fs j (s m) (meaning.turned other c state)) → Same w fs n (Pays s m) (Turns other c state)
pays_a_turn w fs n s m other c state same = record { at = paid }
  where
    paid : (k : ℕ) → k ≤ n → (input : List ℕ) → AreBytes input
        → ((run source_bodies k (Pays s m) input).ending ≡ SourceEnding.Stuck) ⊎ SameOutcome w (run source_bodies k (Pays s m) input)
        (run (meaning.bodies fs) k (Turns other c state) input)
    paid zero h input bytes = inr (record { events = tt; ending = refl })
    paid (suc j) h input bytes = (same j h).at j (omega arith) input bytes

-- ---- the index of the elements

-- where they are: in a block whose one local is the index
abbrev pub index_place : Point → List ℕ → (d frame : ℕ) → Point
index_place p name d frame =
    with_local
    (at_start p.world p.program p.locals (outward p.names) frame (p.frame ∷ p.outer) (UnsignedShape ∷ []) p.own p.owned p.kept
    (record p.regions { all = d + 2 }))
    name UnsignedShape []

-- the index gets the number of the next element
abbrev pub index_code : ℕ → List Statement
index_code d = Do (Put 0 0 (width_of UnsignedShape) (d + 2)) ∷ []

index_put : (p : Point) (n : ℕ) (name : List ℕ) (d frame i : ℕ) (m : source.Memory) (c : Config) (s : source.Memory
    → steps.Step) (rest : Statements) (next : Next)
    → SameState (index_place p name d frame) m c → c.temps (d + 2) ≡ Word i → i < 2 ^ 32
    → ((m' : source.Memory) (c' : Config) → SameState (index_place p name d frame) m' c' → GrownAt (index_place p name d frame) m c m' c'
    → AreKept (d + 3) c c' → SameAt p n (s m') (meaning.statements rest next c'))
    → SameAt p n (write_cells (index_in frame) (Integer AsUnsigned i ∷ []) (λ u. s) m) (meaning.statements (put (index_code d) rest) next c)
index_put p n name d frame i m c s rest next fits number small goes =
    (put_local q n (d + 2) 0 0 frame UnsignedShape tt refl (λ m' c' led. led.0)).same m c m c (Integer AsUnsigned i ∷ []) (λ us. s) rest next fits
    (later_self (within q) m c.memory) (λ k h. refl)
    (inl (record {
      value = Integer AsUnsigned i;
      alone = refl;
      shown = record { word = i; value = refl; shown = ap (λ z. z ∷ []) number; small = small };
    }))
    (record {
      above = omega arith;
      go = λ m' c' fits' later kept given. goes m' c' fits' later (λ k h. all_kept c' kept (word_given m' c' given) k h);
    })
  where
    q : Point
    q = index_place p name d frame

    word_given : (m' : source.Memory) (c' : Config) → Given p.world m' c'.memory UnsignedShape (Integer AsUnsigned i ∷ []) (c'.temps (d + 2) ∷ [])
        → c'.temps (d + 2) ≡ Word i
    word_given m' c' (inl v) =
        let z = v.shown in
        let alone : Integer AsUnsigned i ∷ [] ≡ v.value ∷ [] = v.alone in
        let value : v.value ≡ Integer AsUnsigned z.word = z.value in
        let shown : c'.temps (d + 2) ∷ [] ≡ Word z.word ∷ [] = z.shown in
        let same : i ≡ z.word = cc in
        let here : c'.temps (d + 2) ≡ Word z.word = cc in
        here ∙ ap (λ w. Word w) (sym same)
    word_given m' c' (inr v) = absurd (let e : UnsignedShape ≡ VoidShape = v.void in cc)

    all_kept : (c' : Config) → AreKept (d + 2) c c' → c'.temps (d + 2) ≡ Word i → AreKept (d + 3) c c'
    all_kept c' kept now k h = by (nat_eq k (d + 2)) refl
      where
        by : (b : Bool) → nat_eq k (d + 2) ≡ b → c'.temps k ≡ c.temps k
        by true e = let is : k ≡ d + 2 = eqb-true k (d + 2) e in ap c'.temps is ∙ (now ∙ (sym number ∙ ap c.temps (sym is)))
        by false e = let less : k < d + 2 = grind (arith, nat_tests, e, h) in kept k less

-- ---- the loop

-- a turn
abbrev pub element_turn : ℕ → List Statement → LoopTurn
element_turn d each = record {
  test = all_of (Do (Apply LessUnsigned (d + 3) (d + 2) (d + 1)) ∷ []);
  flag = d + 3;
  body = all_of (index_code d ++ (each ++ next_number d));
}

abbrev pub element_loop : ℕ → List Statement → Statement
element_loop d each =
    While (all_of (Do (Apply LessUnsigned (d + 3) (d + 2) (d + 1)) ∷ [])) (d + 3) (all_of (index_code d ++ (each ++ next_number d)))

abbrev tested : Config → (d i count : ℕ) → Config
tested c d i count = with_temp (d + 3) (Word (words.truth (nat_lt i count))) c

-- the number is compared with the count
loop_tested : (c : Config) (d i count : ℕ) (each : List Statement) (after : Next) → c.temps (d + 2) ≡ Word i → c.temps (d + 1) ≡ Word count
    → meaning.statement (element_loop d each) after c
    ≡ meaning.branch (Word (words.truth (nat_lt i count))) (Turns (element_turn d each) after (tested c d i count)) (after Falls (tested c d i count))
loop_tested c d i count each after number counted =
    two_words LessUnsigned c (d + 3) (d + 2) (d + 1) i count
    (λ now. meaning.branch (now.temps (d + 3)) (Turns (element_turn d each) after now) (after Falls now)) number counted ∙
    ap (λ z. meaning.branch z (Turns (element_turn d each) after (tested c d i count)) (after Falls (tested c d i count)))
    (put_temp (d + 3) (Word (words.truth (nat_lt i count))) c)

-- the number becomes the next one's
abbrev raised : Config → (d i : ℕ) → Config
raised c d i = with_temp (d + 2) (Word (suc i)) (with_temp (d + 3) (Word 1) c)

number_raised : (c : Config) (d i count : ℕ) (next : Next) → c.temps (d + 2) ≡ Word i → i < count → count < 2 ^ 32
    → meaning.statements (put (next_number d) NoStatements) next c ≡ next Falls (raised c d i)
number_raised c d i count next number less few =
    two_words Add one (d + 2) (d + 2) (d + 3) i 1 (next Falls) (other_temp (d + 3) (d + 2) (Word 1) c (omega arith) ∙ number) (put_temp (d + 3) (Word 1) c) ∙
    ap (λ z. next Falls (with_temp (d + 2) (Word z) one)) small
  where
    one : Config
    one = with_temp (d + 3) (Word 1) c

    small : words.two Add i 1 ≡ suc i
    small = mod-eq_of_lt (omega (arith, less, few)) ∙ omega arith

-- the elements from a number on, where each of them does the same as its code
module _ (p : Point) (n : ℕ) (name : List ℕ) (d frame count : ℕ) (shape : Shape) (e : Sense) (each : List Statement) (few : count < 2 ^ 32)
    (one : (j k : ℕ) → j ≤ n → k < count → ElementAs (index_place p name d frame) j d count k shape e.value each)
  where
    abbrev pub inside : Point
    inside = index_place p name d frame

    -- so many are left, from a number on
    abbrev left_from : Spot → (source.Memory → steps.Step) → (left i : ℕ) → source.Memory → steps.Step
    left_from t s left i = elements (length (cells_of p.world shape)) left i t (index_in frame) e (λ u. s)

    pub elements_same : (left i j : ℕ) (m : source.Memory) (c : Config) (t : Spot) (s : source.Memory → steps.Step) (after : Next) → i + left ≡ count → j ≤ n
        → SameState inside m c → ArrayAt inside m c d count shape t → c.temps (d + 2) ≡ Word i
        → ((m' : source.Memory) (c' : Config) → SameState inside m' c' → GrownAt inside m c m' c' → AreKept (d + 2) c c' → SameAt p j (s m') (after Falls c'))
        → SameAt p j (left_from t s left i m) (meaning.statement (element_loop d each) after c)
    elements_same zero i j m c t s after sum below fits there number goes =
        let all : nat_lt i count ≡ false = grind (arith, nat_tests, sum) in
        subst (λ z. SameAt p j (s m) z)
        (sym (loop_tested c d i count each after number there.counted ∙
        ap (λ b. meaning.branch (Word (words.truth b)) (Turns (element_turn d each) after (tested c d i count)) (after Falls (tested c d i count))) all))
        (goes m (tested c d i count) (temp_fits inside m c (d + 3) (Word (words.truth (nat_lt i count))) fits (omega arith))
        (later_self (within inside) m c.memory) (kept_temp (d + 2) (d + 3) (Word (words.truth (nat_lt i count))) c c (omega arith) (λ k h. refl)))
    elements_same (suc left) i j m c t s after sum below fits there number goes =
        let less : i < count = omega (arith, sum) in
        let more : nat_lt i count ≡ true = grind (arith, nat_tests, less) in
        let loop : Statement = element_loop d each in
        let now : Config = tested c d i count in
        let again : Next = λ exit. meaning.after_turn exit (meaning.statement loop after) after in
        let kept_now : AreKept (d + 3) c now = kept_temp (d + 3) (d + 3) (Word (words.truth (nat_lt i count))) c c (omega arith) (λ k h. refl) in
        let fits_now = temp_fits inside m c (d + 3) (Word (words.truth (nat_lt i count))) fits (omega arith) in
        let number_now = kept_now (d + 2) (omega arith) ∙ number in
        subst (λ z. SameAt p j (left_from t s (suc left) i m) z)
        (sym (loop_tested c d i count each after number there.counted ∙
        ap (λ b. meaning.branch (Word (words.truth b)) (Turns (element_turn d each) after now) (after Falls now)) more))
        (pays_a_turn p.world p.program j _ m (element_turn d each) after now (λ k spent.
        index_put p k name d frame i m now (λ m1. e.value (λ vs. write_cells (element_of inside shape t i) vs (λ u. left_from t s left (i + 1))) m1)
        (all_of (each ++ next_number d)) again fits_now number_now (omega (arith, less, few)) (λ m1 c1 fits1 later1 kept1.
        let kept_here : AreKept (d + 3) c c1 = (λ z h. kept1 z h ∙ kept_now z h) in
        subst (λ z. SameAt p k (e.value (λ vs. write_cells (element_of inside shape t i) vs (λ u. left_from t s left (i + 1))) m1)
        (meaning.statements z again c1)) (sym (put_all each (next_number d) NoStatements))
        ((one k i (omega (arith, spent, below)) less).same m1 c1 t (left_from t s left (i + 1)) (put (next_number d) NoStatements) again fits1
        (array_later inside m c d count shape t m1 c1 later1 (λ z h. kept_here z (over h (omega arith))) there)
        (kept_here (d + 2) (omega arith) ∙ number) less (λ m2 c2 fits2 later2 kept2.
        let c3 : Config = raised c2 d i in
        let kept3 : AreKept (d + 2) c c3 = kept_temp (d + 2) (d + 2) (Word (suc i)) c (with_temp (d + 3) (Word 1) c2) (omega arith)
        (kept_temp (d + 2) (d + 3) (Word 1) c c2 (omega arith) (λ z h. kept2 z (over h (omega arith)) ∙ kept_here z (over h (omega arith)))) in
        let later3 : GrownAt inside m c m2 c3 = later_on (within inside) m m1 m2 c.memory c1.memory c2.memory later1 later2 in
        subst (λ z. SameAt p k (left_from t s left (i + 1) m2) z)
        (sym (number_raised c2 d i count again (kept2 (d + 2) (omega arith) ∙ (kept_here (d + 2) (omega arith) ∙ number)) less few))
        (subst (λ z. SameAt p k (left_from t s left z m2) (meaning.statement loop after c3)) (one_more i)
        (elements_same left (suc i) k m2 c3 t s after (omega (arith, sum)) (omega (arith, spent, below))
        (temp_fits inside m2 (with_temp (d + 3) (Word 1) c2) (d + 2) (Word (suc i)) (temp_fits inside m2 c2 (d + 3) (Word 1) fits2 (omega arith)) (omega arith))
        (array_later inside m c d count shape t m2 c3 later3 kept3 there) (put_temp (d + 2) (Word (suc i)) (with_temp (d + 3) (Word 1) c2))
        (λ m4 c4 fits4 later4 kept4.
        less_fuel p.world p.program j k _ _ (omega (arith, spent))
        (goes m4 c4 fits4 (later_on (within inside) m m2 m4 c.memory c2.memory c4.memory later3 later4) (λ z h. kept4 z h ∙ kept3 z h))))))))))
      where
        one_more : (z : ℕ) → suc z ≡ z + 1
        one_more z = omega arith

-- ---- the block

-- the index begins with 0, and behind the elements the block is left
pub block_same : (p : Point) (n : ℕ) (name : List ℕ) (d count : ℕ) (shape : Shape) (element_at : ℕ → Sense) (each : List Statement) (m : source.Memory)
    (c : Config) (t : Spot) (s : source.Memory → steps.Step) (rest : Statements) (next : Next) → p.regions.all ≤ d → count < 2 ^ 32
    → ((j a k : ℕ) → j ≤ n → k < count → ElementAs (index_place p name d a) j d count k shape (element_at a).value each)
    → SameState p m c → ArrayAt p m c d count shape t
    → ((m' : source.Memory) (c' : Config) → SameState p m' c' → GrownAt p m c m' c' → AreKept (d + 2) c c'
    → SameAt p n (s m') (meaning.statements rest next c'))
    → SameAt p n (in_block (λ k. index_made k >> elements (length (cells_of p.world shape)) count 0 t (index_in k) (element_at k)) (λ u. s) m)
    (meaning.statements (put (indexed_code p.world d each) rest) next c)
block_same p n name d count shape element_at each m c t s rest next above few one fits there goes =
    word_begun before n scope name UnsignedShape [] (λ here then_next. left_in) (λ flow m'. Stops SourceEnding.Stuck) (source_in m) entered
    (all_of (elements_code d each)) (after_out behind c) refl refl tt tt refl inside (record {
      go = λ m1 c1 fits1 later1 active kept1 first.
          let grown1 : GrownAt p m c m1 c1 =
          later_on (within p) m (source_in m) m1 c.memory entered.memory c1.memory
          (entered_later (within p) p.world m c.memory (locals_of p.world (UnsignedShape ∷ [])) fits.agree)
          (later1 (within p) (let b = fits.begun in omega (arith, b))) in
          elements_same p n name d a count shape (element_at a) each few (λ j k. one j a k) count 0 n m1 c1 t gone
          (λ exit. meaning.falls_to exit (meaning.statements NoStatements (after_out behind c)) (after_out behind c)) (omega arith) (omega arith) fits1
          (let here = array_later p m c d count shape t m1 c1 grown1 kept1 there in
          record { pointer = here.pointer; counted = here.counted; leads = here.leads })
          first
          (λ m2 c2 fits2 later2 kept2. left m2 c2 fits2
          (later_on (within p) m m1 m2 c.memory c1.memory c2.memory grown1
          (later_less (within (index_place p name d a)) (within p) m1 m2 c1.memory c2.memory
          (record { frames = (let b = fits.begun in omega (arith, b)); standing = omega arith; kept = λ k i g. g }) later2))
          (λ k h. kept2 k h ∙ kept1 k h));
    })
  where
    a : ℕ
    a = m.activations

    before : Point
    before = at_start p.world p.program p.locals (outward p.names) a (p.frame ∷ p.outer) (UnsignedShape ∷ []) p.own p.owned p.kept
        (record p.regions { all = d + 2 })

    scope : Scope
    scope = record { world = p.world; locals = []; frame = a; result = VoidShape }

    entered : Config
    entered = meaning.in_block (locals_of p.world (UnsignedShape ∷ [])) c

    behind : Next
    behind = λ exit. meaning.falls_to exit (meaning.statements rest next) next

    inside : SameState before (source_in m) entered
    inside = entered_fits p.world p.program p.locals (outward p.names) (p.frame ∷ p.outer) (UnsignedShape ∷ []) m c p.own p.owned p.kept
        (record p.regions { all = d + 2 }) fits.agree fits.blocks (record { is = fits.own; called = fits.called; stands = fits.stands; values = fits.owned })
        fits.locals fits.statics

    gone : source.Memory → steps.Step
    gone m' = s (with_state m' (source.Frame a) Dead)

    left_in : source.Memory → steps.Step
    left_in = elements (length (cells_of p.world shape)) count 0 t (index_in a) (element_at a) (λ u. gone)

    left : (m2 : source.Memory) (c2 : Config) → SameState (index_place p name d a) m2 c2 → GrownAt p m c m2 c2 → AreKept (d + 2) c c2
        → SameAt p n (gone m2) (meaning.statements rest next (meaning.out_of_block c.memory.activations c.blocks c2))
    left m2 c2 fits2 later kept =
        let m3 : source.Memory = with_state m2 (source.Frame a) Dead in
        let c3 : Config = meaning.out_of_block c.memory.activations c.blocks c2 in
        let later3 : GrownAt p m c m3 c3 =
        later_on (within p) m m2 m3 c.memory c2.memory c3.memory later (later_gone (within p) m2 c2.memory a c.memory.activations fits.agree.activations) in
        goes m3 c3
        (fits_later p m m3 c c3 fits (agree_gone p.world m2 c2.memory a c.memory.activations fits.agree.activations fits2.agree) later3
        (ap (λ z. z ∷ c.blocks) (fits2.own ∙ sym fits.own)) (λ k h. kept k (over h (over above (omega arith))))) later3 kept
