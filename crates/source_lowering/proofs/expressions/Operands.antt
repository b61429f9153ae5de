-- An operator on two values: integers, thin pointers, or a fat pointer, which is moved by an integer and compared with NULL.
use Rattle.std.proofs.Common.{◌≡◌, ℕ, ◌+◌, ⊎_elim, List, [], ◌∷◌, Bool, true, false, not, ◌⊎◌, ◌<◌, ◌^◌, ◌-◌, Option, Some, None, refl, sym, ap, ◌∙◌, subst}
use Rattle.std.specs.Prelude.{is_some}
use Rattle.cyc_tree.specs.declared.expression.Operator.{Operator}
use Rattle.cyc_tree.specs.declared.expression.Operator.TheVariants as operator
use Rattle.source_meaning.specs.Shapes.{Shape, ThinShape, FatShape}
use Rattle.source_meaning.specs.Memory as source
use Rattle.source_meaning.specs.Memory.{IntegerType, AsInt, AsUnsigned, AsChar, Scalar, Integer, Thin, Wide, HandleOf, KeyOf, Span}
use Rattle.source_meaning.specs.Steps as steps
use Rattle.source_meaning.specs.Steps.{need}
use Rattle.source_meaning.specs.Operators as operators
use Rattle.source_meaning.specs.Operators.{integers, moved_by, operator_shape}
use Rattle.source_meaning.specs.Conversions.{size_of}
use Rattle.source_meaning.specs.Programs.{integer_shape}
use Rattle.core_meaning.specs.Memory.{Content, Word}
use Rattle.core_meaning.specs.Core as core
use Rattle.core_meaning.specs.Core.{IsNull, Do, Statements}
use Rattle.core_meaning.specs.Steps as core_steps
use Rattle.core_meaning.specs.Steps.{Config, with_temp}
use Rattle.core_meaning.specs.Meaning as meaning
use Rattle.core_meaning.specs.Operations.{does}
use Rattle.source_lowering.specs.Lowered.{put, type_of, applied_to, operator_code, fat_code, null_code}
use Rattle.source_lowering.specs.Members.{words_in}
use Rattle.source_lowering.specs.Simulation.{at, AFatNull, AFat, Shown, Point, SameState, SameAt, Next, AreKept, GrownAt, Given, GoesOn, contents_in}
use Rattle.source_lowering.proofs.Runs.{stuck_same}
use Rattle.source_lowering.proofs.values.Integers.{IsTaken, IsWord, IsThin, IsHandle, handle_cases, limit, word_given, small_word, integer_one}
use Rattle.source_lowering.proofs.values.AnyValues.{IsFat, IsOneOf, shown_some, thin_same, fat_same, three_in}
use Rattle.source_lowering.proofs.values.Operators.{modulo_small, operated}
use Rattle.source_lowering.proofs.values.Values.{put_value}
use Rattle.source_lowering.proofs.values.Tests.{null_is_one, spot_is_zero}
use Rattle.source_lowering.proofs.values.Pointers.{answered, pointers_operated}
use Rattle.source_lowering.proofs.values.FatOperators.{fat_moves}

-- ---- integers

word_operator : (o : Operator) (t : IntegerType) (sa sb : Shape) (d : ℕ) → sa ≡ integer_shape t
    → operator_code o sa sb d ≡ Do (applied_to o (type_of sa) (type_of sb) d d (d + 1)) ∷ []
word_operator o t sa sb d e = subst (λ z. operator_code o z sb d ≡ Do (applied_to o (type_of z) (type_of sb) d d (d + 1)) ∷ []) (sym e) (by t)
  where
    by : (u : IntegerType) → operator_code o (integer_shape u) sb d ≡ Do (applied_to o (type_of (integer_shape u)) (type_of sb) d d (d + 1)) ∷ []
    by AsInt = refl
    by AsUnsigned = refl
    by AsChar = refl

-- both operands are in their temporaries
operator_same : (p : Point) (n d : ℕ) (o : Operator) (sa sb : Shape) (t1 t2 : IntegerType) (w1 w2 : ℕ) (m0 : source.Memory) (c0 : Config) (m : source.Memory)
    (c : Config) (s : List Scalar → source.Memory → steps.Step) (rest : Statements) (next : Next)
    → sa ≡ integer_shape t1 → type_of sa ≡ t1 → w1 < limit t1 → sb ≡ integer_shape t2 → type_of sb ≡ t2 → w2 < limit t2 → c.temps d ≡ Word w1
    → c.temps (d + 1) ≡ Word w2
    → SameState p m c → GrownAt p m0 c0 m c → AreKept d c0 c → GoesOn p n d m0 c0 (operator_shape o sa sb) s (meaning.statements rest next)
    → SameAt p n (s (integers o t1 w1 t2 w2 ∷ []) m) (meaning.statements (put (operator_code o sa sb d) rest) next c)
operator_same p n d o sa sb t1 t2 w1 w2 m0 c0 m c s rest next shape1 type1 small1 shape2 type2 small2 temp1 temp2 fits later kept goes =
    let op = operated o t1 w1 t2 w2 d d (d + 1) (small_word t1 w1 small1) (small_word t2 w2 small2) in
    let shape : operator_shape o sa sb ≡ integer_shape op.type = ap (λ z. operator_shape o z sb) shape1 ∙ ap (λ z. operator_shape o (integer_shape t1) z)
    shape2 ∙ op.shape in
    let is_word : operator_code o sa sb d ≡ Do (applied_to o (type_of sa) (type_of sb) d d (d + 1)) ∷ [] = word_operator o t1 sa sb d shape1 in
    let code : does (applied_to o (type_of sa) (type_of sb) d d (d + 1)) (meaning.statements rest next) c ≡ meaning.statements rest next
    (with_temp d (Word op.word) c) =
    ap (λ z. does (applied_to o z (type_of sb) d d (d + 1)) (meaning.statements rest next) c) type1 ∙
    ap (λ z. does (applied_to o t1 z d d (d + 1)) (meaning.statements rest next) c) type2 ∙ op.does c (meaning.statements rest next) temp1 temp2 in
    subst (λ z. SameAt p n (s (integers o t1 w1 t2 w2 ∷ []) m) (meaning.statements (put z rest) next c)) (sym is_word)
    (subst (λ z. SameAt p n (s (integers o t1 w1 t2 w2 ∷ []) m) z) (sym code)
    (put_value p n d m0 c0 m c (operator_shape o sa sb) (integers o t1 w1 t2 w2 ∷ []) (Word op.word) s (meaning.statements rest next) fits later kept
    (ap words_in shape ∙ integer_one op.type)
    (subst (λ z. Given p.world m c.memory z (integers o t1 w1 t2 w2 ∷ []) (Word op.word ∷ [])) (sym shape)
    (subst (λ z. Given p.world m c.memory (integer_shape op.type) (z ∷ []) (Word op.word ∷ [])) (sym op.gives) (word_given p.world m c.memory op.type op.word
    (Word op.word) op.small refl)))
    goes))

-- ---- fat pointers

-- what is given of a fat pointer
record IsWide (v : Scalar) : Type 0 where
  of : Option Span
  is : v ≡ Wide of

wide_is : (p : Point) (m : source.Memory) (c : Config) (shape : Shape) (v : Scalar) (cs : List Content) → IsFat p.world m c.memory shape v cs → IsWide v
wide_is p m c shape v cs o =
    ⊎_elim (λ (z : AFatNull v cs). record { of = None; is = z.value })
    (λ (z : AFat p.world m c.memory o.to (size_of p.world o.to) v cs). record { of = Some z.span; is = z.value }) o.shown

-- one in x, and those behind it, is compared with NULL
null_compared : (p : Point) (n d x : ℕ) (o : Operator) (sa sb : Shape) (shape : Shape) (v : Scalar) (m0 : source.Memory) (c0 : Config) (m : source.Memory)
    (c : Config) (s : List Scalar → source.Memory → steps.Step) (rest : Statements) (next : Next) (act : Scalar → steps.Act Scalar)
    → ((q : Option Span) (then : Scalar → source.Memory → steps.Step) → act (Wide q) then m ≡ need (operators.equality o (not (is_some q))) then m)
    → IsFat p.world m c.memory shape v (three_in x c.temps) → SameState p m c → GrownAt p m0 c0 m c → AreKept d c0 c
    → GoesOn p n d m0 c0 (operator_shape o sa sb) s (meaning.statements rest next)
    → SameAt p n (act v (λ r. s (r ∷ [])) m) (meaning.statements (put (null_code o d x) rest) next c)
null_compared p n d x o sa sb shape v m0 c0 m c s rest next act is fat fits later kept goes =
    fat_same p.world p.program n shape m c.memory v (c.temps x) (c.temps (x + 1)) (c.temps (x + 2)) (λ u. act u (λ r. s (r ∷ []))) _ fat
    (λ null.
    subst (λ z. SameAt p n z (meaning.statements (put (null_code o d x) rest) next c)) (sym (is None (λ r. s (r ∷ []))))
    (answered p n d o sa sb true (IsNull d x) m0 c0 m c s rest next (λ k. null_is_one c d x k null) fits later kept goes))
    (λ span byte pointer.
    subst (λ z. SameAt p n z (meaning.statements (put (null_code o d x) rest) next c)) (sym (is (Some span) (λ r. s (r ∷ []))))
    (answered p n d o sa sb false (IsNull d x) m0 c0 m c s rest next (λ k. spot_is_zero c d x byte (at span.first) k pointer) fits later kept goes))

-- with other operators the source is stuck
not_compared : (p : Point) (n d : ℕ) (o : Operator) (shape : Shape) (v : Scalar) (m : source.Memory) (c : Config) (s : Scalar → source.Memory → steps.Step)
    (k : core_steps.Step) → ((b : Bool) → operators.equality o b ≡ None) → IsFat p.world m c.memory shape v (three_in d c.temps)
    → SameAt p n (need (operators.operated m o v (Thin None)) s m) k
not_compared p n d o shape v m c s k none fat =
    let of = wide_is p m c shape v (three_in d c.temps) fat in
    subst (λ z. SameAt p n (need (operators.operated m o z (Thin None)) s m) k) (sym of.is)
    (subst (λ z. SameAt p n (need z s m) k) (sym (none (not (is_some of.of)))) (stuck_same p.world p.program n k))

-- one is compared with a thin NULL
fat_compared : (p : Point) (n d : ℕ) (o : Operator) (sa sb : Shape) (v : Scalar) (m0 : source.Memory) (c0 : Config) (m : source.Memory)
    (c : Config) (s : List Scalar → source.Memory → steps.Step) (rest : Statements) (next : Next)
    → IsFat p.world m c.memory sa v (three_in d c.temps) → SameState p m c → GrownAt p m0 c0 m c → AreKept d c0 c
    → GoesOn p n d m0 c0 (operator_shape o sa sb) s (meaning.statements rest next)
    → SameAt p n (need (operators.operated m o v (Thin None)) (λ r. s (r ∷ [])) m) (meaning.statements (put (fat_code o d) rest) next c)
fat_compared p n d operator.Equal sa sb v m0 c0 m c s rest next fat fits later kept goes =
    null_compared p n d d operator.Equal sa sb sa v m0 c0 m c s rest next (λ x. need (operators.operated m operator.Equal x (Thin None))) (λ q then. refl) fat
    fits later kept goes
fat_compared p n d operator.NotEqual sa sb v m0 c0 m c s rest next fat fits later kept goes =
    null_compared p n d d operator.NotEqual sa sb sa v m0 c0 m c s rest next (λ x. need (operators.operated m operator.NotEqual x (Thin None)))
    (λ q then. refl) fat fits later kept goes
fat_compared p n d operator.BitOr sa sb v m0 c0 m c s rest next fat fits later kept goes =
    not_compared p n d operator.BitOr sa v m c (λ r. s (r ∷ [])) (meaning.statements (put (fat_code operator.BitOr d) rest) next c) (λ b. refl) fat
fat_compared p n d operator.BitXor sa sb v m0 c0 m c s rest next fat fits later kept goes =
    not_compared p n d operator.BitXor sa v m c (λ r. s (r ∷ [])) (meaning.statements (put (fat_code operator.BitXor d) rest) next c) (λ b. refl) fat
fat_compared p n d operator.BitAnd sa sb v m0 c0 m c s rest next fat fits later kept goes =
    not_compared p n d operator.BitAnd sa v m c (λ r. s (r ∷ [])) (meaning.statements (put (fat_code operator.BitAnd d) rest) next c) (λ b. refl) fat
fat_compared p n d operator.Less sa sb v m0 c0 m c s rest next fat fits later kept goes =
    not_compared p n d operator.Less sa v m c (λ r. s (r ∷ [])) (meaning.statements (put (fat_code operator.Less d) rest) next c) (λ b. refl) fat
fat_compared p n d operator.LessEqual sa sb v m0 c0 m c s rest next fat fits later kept goes =
    not_compared p n d operator.LessEqual sa v m c (λ r. s (r ∷ [])) (meaning.statements (put (fat_code operator.LessEqual d) rest) next c) (λ b. refl) fat
fat_compared p n d operator.Greater sa sb v m0 c0 m c s rest next fat fits later kept goes =
    not_compared p n d operator.Greater sa v m c (λ r. s (r ∷ [])) (meaning.statements (put (fat_code operator.Greater d) rest) next c) (λ b. refl) fat
fat_compared p n d operator.GreaterEqual sa sb v m0 c0 m c s rest next fat fits later kept goes =
    not_compared p n d operator.GreaterEqual sa v m c (λ r. s (r ∷ []))
    (meaning.statements (put (fat_code operator.GreaterEqual d) rest) next c) (λ b. refl) fat
fat_compared p n d operator.ShiftLeft sa sb v m0 c0 m c s rest next fat fits later kept goes =
    not_compared p n d operator.ShiftLeft sa v m c (λ r. s (r ∷ [])) (meaning.statements (put (fat_code operator.ShiftLeft d) rest) next c) (λ b. refl) fat
fat_compared p n d operator.ShiftRight sa sb v m0 c0 m c s rest next fat fits later kept goes =
    not_compared p n d operator.ShiftRight sa v m c (λ r. s (r ∷ [])) (meaning.statements (put (fat_code operator.ShiftRight d) rest) next c) (λ b. refl) fat
fat_compared p n d operator.Add sa sb v m0 c0 m c s rest next fat fits later kept goes =
    not_compared p n d operator.Add sa v m c (λ r. s (r ∷ [])) (meaning.statements (put (fat_code operator.Add d) rest) next c) (λ b. refl) fat
fat_compared p n d operator.Subtract sa sb v m0 c0 m c s rest next fat fits later kept goes =
    not_compared p n d operator.Subtract sa v m c (λ r. s (r ∷ [])) (meaning.statements (put (fat_code operator.Subtract d) rest) next c) (λ b. refl) fat
fat_compared p n d operator.Multiply sa sb v m0 c0 m c s rest next fat fits later kept goes =
    not_compared p n d operator.Multiply sa v m c (λ r. s (r ∷ [])) (meaning.statements (put (fat_code operator.Multiply d) rest) next c) (λ b. refl) fat
fat_compared p n d operator.Divide sa sb v m0 c0 m c s rest next fat fits later kept goes =
    not_compared p n d operator.Divide sa v m c (λ r. s (r ∷ [])) (meaning.statements (put (fat_code operator.Divide d) rest) next c) (λ b. refl) fat
fat_compared p n d operator.Remainder sa sb v m0 c0 m c s rest next fat fits later kept goes =
    not_compared p n d operator.Remainder sa v m c (λ r. s (r ∷ [])) (meaning.statements (put (fat_code operator.Remainder d) rest) next c) (λ b. refl) fat

-- one is moved by an integer
moved_same : (p : Point) (n d k : ℕ) (o : Operator) (to sb : Shape) (q : Option Span) (m0 : source.Memory) (c0 : Config) (m : source.Memory) (c : Config)
    (s : List Scalar → source.Memory → steps.Step) (rest : Statements) (next : Next) → k < 2 ^ 32 → c.temps (d + 3) ≡ Word k
    → Shown p.world m c.memory (FatShape to) (Wide q) (contents_in d (FatShape to) c.temps) → SameState p m c → GrownAt p m0 c0 m c → AreKept d c0 c
    → GoesOn p n d m0 c0 (operator_shape o (FatShape to) sb) s (meaning.statements rest next)
    → SameAt p n (need (moved_by o q k) (λ r. s (r ∷ [])) m) (meaning.statements (put (fat_code o d) rest) next c)
moved_same p n d k operator.Add to sb q m0 c0 m c s rest next small temp shown fits later kept goes =
    fat_moves p n d k to core.Add (Wide q) m0 c0 m c s rest next (λ i. modulo_small (i + k)) temp shown fits later kept goes
moved_same p n d k operator.Subtract to sb q m0 c0 m c s rest next small temp shown fits later kept goes =
    fat_moves p n d k to core.Subtract (Wide q) m0 c0 m c s rest next (λ i. modulo_small (i + 2 ^ 32 - k)) temp shown fits later kept goes
moved_same p n d k operator.BitOr to sb q m0 c0 m c s rest next small temp shown fits later kept goes = stuck_same p.world p.program n _
moved_same p n d k operator.BitXor to sb q m0 c0 m c s rest next small temp shown fits later kept goes = stuck_same p.world p.program n _
moved_same p n d k operator.BitAnd to sb q m0 c0 m c s rest next small temp shown fits later kept goes = stuck_same p.world p.program n _
moved_same p n d k operator.Equal to sb q m0 c0 m c s rest next small temp shown fits later kept goes = stuck_same p.world p.program n _
moved_same p n d k operator.NotEqual to sb q m0 c0 m c s rest next small temp shown fits later kept goes = stuck_same p.world p.program n _
moved_same p n d k operator.Less to sb q m0 c0 m c s rest next small temp shown fits later kept goes = stuck_same p.world p.program n _
moved_same p n d k operator.LessEqual to sb q m0 c0 m c s rest next small temp shown fits later kept goes = stuck_same p.world p.program n _
moved_same p n d k operator.Greater to sb q m0 c0 m c s rest next small temp shown fits later kept goes = stuck_same p.world p.program n _
moved_same p n d k operator.GreaterEqual to sb q m0 c0 m c s rest next small temp shown fits later kept goes = stuck_same p.world p.program n _
moved_same p n d k operator.ShiftLeft to sb q m0 c0 m c s rest next small temp shown fits later kept goes = stuck_same p.world p.program n _
moved_same p n d k operator.ShiftRight to sb q m0 c0 m c s rest next small temp shown fits later kept goes = stuck_same p.world p.program n _
moved_same p n d k operator.Multiply to sb q m0 c0 m c s rest next small temp shown fits later kept goes = stuck_same p.world p.program n _
moved_same p n d k operator.Divide to sb q m0 c0 m c s rest next small temp shown fits later kept goes = stuck_same p.world p.program n _
moved_same p n d k operator.Remainder to sb q m0 c0 m c s rest next small temp shown fits later kept goes = stuck_same p.world p.program n _

-- ---- any values

pub operands_same : (p : Point) (n d : ℕ) (o : Operator) (sa sb : Shape) (u v : Scalar) (m0 : source.Memory) (c0 : Config) (m : source.Memory)
    (c : Config) (s : List Scalar → source.Memory → steps.Step) (rest : Statements) (next : Next) → IsTaken sa → IsTaken sb
    → Shown p.world m c.memory sa u (contents_in d sa c.temps) → Shown p.world m c.memory sb v (contents_in (d + words_in sa) sb c.temps)
    → SameState p m c → GrownAt p m0 c0 m c → AreKept d c0 c → GoesOn p n d m0 c0 (operator_shape o sa sb) s (meaning.statements rest next)
    → SameAt p n (need (operators.operated m o u v) (λ r. s (r ∷ [])) m) (meaning.statements (put (operator_code o sa sb d) rest) next c)
operands_same p n d o sa sb u v m0 c0 m c s rest next taken1 taken2 shown1 shown2 fits later kept goes =
    ⊎_elim (⊎_elim word_first (⊎_elim thin_first handle_first)) fat_first (shown_some p.world m c.memory sa u d c.temps taken1 shown1)
  where
    step : core_steps.Step
    step = meaning.statements (put (operator_code o sa sb d) rest) next c

    e : ℕ
    e = d + words_in sa

    -- what the source does
    result : Scalar → Scalar → source.Memory → steps.Step
    result x y = need (operators.operated m o x y) (λ r. s (r ∷ []))

    goal : Type 0
    goal = SameAt p n (result u v m) step

    right : IsOneOf p.world m c.memory sb v e c.temps
    right = shown_some p.world m c.memory sb v e c.temps taken2 shown2

    -- where the left operand takes one temporary
    next_to : words_in sa ≡ 1 → e ≡ d + 1
    next_to one = ap (λ z. d + z) one

    no_thin : (x : Scalar) → ((q : Option source.Spot) → operators.operated m o x (Thin q) ≡ None) → IsThin p.world m c.memory sb v (c.temps e)
        → SameAt p n (result x v m) step
    no_thin x none b =
        thin_same p.world p.program n sb m c.memory v (c.temps e) (result x) step b (λ z f. rw (none None) (stuck_same p.world p.program n step))
        (λ t byte z lies leads. rw (none (Some t)) (stuck_same p.world p.program n step))

    word_first : IsWord sa u (c.temps d) → goal
    word_first a =
        subst (λ z. SameAt p n (result z v m) step) (sym a.value)
        (⊎_elim
        (⊎_elim
        (λ (b : IsWord sb v (c.temps e)).
        let there : c.temps (d + 1) ≡ Word b.word = ap c.temps (sym (next_to one)) ∙ b.shown in
        subst (λ z. SameAt p n (result (Integer a.type a.word) z m) step) (sym b.value)
        (operator_same p n d o sa sb a.type b.type a.word b.word m0 c0 m c s rest next a.shape_is a.type_is a.small b.shape_is b.type_is b.small a.shown there
        fits later kept goes))
        (⊎_elim (no_thin (Integer a.type a.word) (λ q. refl))
        (λ (b : IsHandle sb v (c.temps e)).
        handle_cases (λ z. SameAt p n (result (Integer a.type a.word) z m) step) sb v (c.temps e) b (λ i. stuck_same p.world p.program n step)
        (λ i. stuck_same p.world p.program n step))))
        (λ (b : IsFat p.world m c.memory sb v (three_in e c.temps)).
        let of = wide_is p m c sb v (three_in e c.temps) b in
        subst (λ z. SameAt p n (result (Integer a.type a.word) z m) step) (sym of.is) (stuck_same p.world p.program n step))
        right)
      where
        one : words_in sa ≡ 1
        one = ap words_in a.shape_is ∙ integer_one a.type

    thin_first : IsThin p.world m c.memory sa u (c.temps d) → goal
    thin_first a =
        ⊎_elim
        (⊎_elim
        (λ (b : IsWord sb v (c.temps e)).
        subst (λ z. SameAt p n (result u z m) step) (sym b.value)
        (no_left (Integer b.type b.word) (λ q. refl)))
        (⊎_elim
        (λ (b : IsThin p.world m c.memory sb v (c.temps e)).
        pointers_operated p n d o sa sb u v m0 c0 m c s rest next a (subst (λ z. IsThin p.world m c.memory sb v (c.temps z)) (next_to one) b) fits later kept
        goes)
        (λ (b : IsHandle sb v (c.temps e)).
        handle_cases (λ z. SameAt p n (result u z m) step) sb v (c.temps e) b (λ i. no_left (HandleOf i) (λ q. refl)) (λ i. no_left (KeyOf i) (λ q. refl)))))
        with_fat right
      where
        one : words_in sa ≡ 1
        one = ap words_in a.shape_is

        no_left : (y : Scalar) → ((q : Option source.Spot) → operators.operated m o (Thin q) y ≡ None) → SameAt p n (result u y m) step
        no_left y none =
            thin_same p.world p.program n sa m c.memory u (c.temps d) (λ x. result x y) step a (λ z f. rw (none None) (stuck_same p.world p.program n step))
            (λ t byte z lies leads. rw (none (Some t)) (stuck_same p.world p.program n step))

        with_fat : IsFat p.world m c.memory sb v (three_in e c.temps) → goal
        with_fat b =
            let fat = subst (λ z. IsFat p.world m c.memory sb v (three_in z c.temps)) (next_to one) b in
            let of = wide_is p m c sb v (three_in e c.temps) b in
            thin_same p.world p.program n sa m c.memory u (c.temps d) (λ x. result x v) step a
            (λ z f.
            subst (λ y. SameAt p n (result (Thin None) v m) (meaning.statements (put (operator_code o y sb d) rest) next c)) (sym a.shape_is)
            (subst (λ y. SameAt p n (result (Thin None) v m)
            (meaning.statements (put (operator_code o (ThinShape a.bound a.owner a.to) y d) rest) next c)) (sym b.shape_is)
            (null_compared p n d (d + 1) o sa sb sb v m0 c0 m c s rest next (λ y. need (operators.operated m o (Thin None) y)) (λ q then. refl) fat fits later
            kept goes)))
            (λ t byte z lies leads.
            subst (λ y. SameAt p n (result (Thin (Some t)) y m) step) (sym of.is) (stuck_same p.world p.program n step))

    handle_first : IsHandle sa u (c.temps d) → goal
    handle_first a =
        handle_cases (λ z. SameAt p n (result z v m) step) sa u (c.temps d) a (λ i. stuck_same p.world p.program n step)
        (λ i. stuck_same p.world p.program n step)

    fat_first : IsFat p.world m c.memory sa u (three_in d c.temps) → goal
    fat_first a =
        subst (λ z. SameAt p n (result u v m) (meaning.statements (put (operator_code o z sb d) rest) next c)) (sym a.shape_is)
        (⊎_elim
        (⊎_elim
        (λ (b : IsWord sb v (c.temps e)).
        subst (λ z. SameAt p n (result z v m) code) (sym of.is)
        (subst (λ z. SameAt p n (result (Wide of.of) z m) code) (sym b.value)
        (moved_same p n d b.word o a.to sb of.of m0 c0 m c s rest next (small_word b.type b.word b.small) (ap c.temps (sym three) ∙ b.shown)
        (subst (λ z. AFatNull z (three_in d c.temps) ⊎ AFat p.world m c.memory a.to (size_of p.world a.to) z (three_in d c.temps))
        of.is a.shown) fits later kept
        (subst (λ z. GoesOn p n d m0 c0 (operator_shape o z sb) s (meaning.statements rest next)) a.shape_is goes))))
        (⊎_elim
        (λ (b : IsThin p.world m c.memory sb v (c.temps e)).
        thin_same p.world p.program n sb m c.memory v (c.temps e) (result u) code b
        (λ z f.
        fat_compared p n d o sa sb u m0 c0 m c s rest next a fits later kept goes)
        (λ t byte z lies leads. subst (λ y. SameAt p n (result y (Thin (Some t)) m) code) (sym of.is) (stuck_same p.world p.program n code)))
        (λ (b : IsHandle sb v (c.temps e)).
        subst (λ z. SameAt p n (result z v m) code) (sym of.is)
        (handle_cases (λ z. SameAt p n (result (Wide of.of) z m) code) sb v (c.temps e) b (λ i. stuck_same p.world p.program n code)
        (λ i. stuck_same p.world p.program n code)))))
        (λ (b : IsFat p.world m c.memory sb v (three_in e c.temps)).
        let other = wide_is p m c sb v (three_in e c.temps) b in
        subst (λ z. SameAt p n (result z v m) code) (sym of.is)
        (subst (λ z. SameAt p n (result (Wide of.of) z m) code) (sym other.is) (stuck_same p.world p.program n code)))
        right)
      where
        code : core_steps.Step
        code = meaning.statements (put (fat_code o d) rest) next c

        of : IsWide u
        of = wide_is p m c sa u (three_in d c.temps) a

        three : e ≡ d + 3
        three = ap (λ z. d + words_in z) a.shape_is
