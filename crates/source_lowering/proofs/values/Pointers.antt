-- Pointers are compared where their parts are: NULL with anything, two places by their spots.
use Rattle.std.proofs.Common.{
  ◌≡◌,
  ◌⊎◌,
  ℕ,
  ◌+◌,
  inl,
  inr,
  ⊎_elim,
  List,
  [],
  ◌∷◌,
  Bool,
  true,
  false,
  not,
  nat_eq,
  Option,
  Some,
  None,
  refl,
  sym,
  ap,
  ◌∙◌,
  subst,
  arith,
}
use Rattle.std.proofs.lemmas.Bool.{eq-eqb}
use Rattle.cyc_tree.specs.declared.expression.Operator.{Operator}
use Rattle.cyc_tree.specs.declared.expression.Operator.TheVariants as operator
use Rattle.source_meaning.specs.Shapes.{count_of}
use Rattle.source_meaning.specs.Shapes.{Shape, ThinShape}
use Rattle.source_meaning.specs.Memory as source
use Rattle.source_meaning.specs.Memory.{Scalar, Thin, Spot, is_live, same_spot}
use Rattle.source_meaning.specs.Steps as steps
use Rattle.source_meaning.specs.Steps.{World, need}
use Rattle.source_meaning.specs.Operators as operators
use Rattle.source_meaning.specs.Operators.{same_thin, equality, operator_shape, truth_value}
use Rattle.core_meaning.specs.Memory as core
use Rattle.core_meaning.specs.Memory.{Content, Word, Pointer}
use Rattle.core_meaning.specs.Core.{Operation, SamePlace, Statements}
use Rattle.core_meaning.specs.Words as words
use Rattle.core_meaning.specs.Steps as core_steps
use Rattle.core_meaning.specs.Steps.{Config, with_temp}
use Rattle.core_meaning.specs.Meaning as meaning
use Rattle.core_meaning.specs.Operations.{does, same_place}
use Rattle.source_lowering.specs.Lowered.{put, compared_code, pointers_code, operator_code, turned_code}
use Rattle.source_lowering.specs.Simulation.{at, region_at, ANull, APointer, SameMemory, Point, SameState, SameAt, Next, AreKept, GrownAt, GoesOn}
use Rattle.source_lowering.proofs.memory.Keeping.{spot_as}
use Rattle.source_lowering.proofs.Runs.{stuck_same}
use Rattle.source_lowering.proofs.values.Integers.{IsThin, null_is, pointer_is}
use Rattle.source_lowering.proofs.memory.Members.{first_part_of}
use Rattle.source_lowering.proofs.values.Values.{put_temp, temp_fits, kept_temp, over}
use Rattle.source_lowering.proofs.values.Tests.{put_truth, turned_does}

-- ---- what a comparison gives

-- both comparisons give the same
pub record Compared (m : source.Memory) (c : core.Memory) (p q : Option Spot) (x y : Content) : Type 0 where
  pub answer : Bool
  pub is : same_thin m p q ≡ Some answer
  pub does : (next : ℕ → core_steps.Step) → same_place c x y next ≡ next (words.truth answer)

-- or the source is stuck
abbrev pub Compares : source.Memory → core.Memory → Option Spot → Option Spot → Content → Content → Type 0
Compares m c p q x y = (same_thin m p q ≡ None) ⊎ Compared m c p q x y

abbrev part_with : ℕ → ℕ → Content → core.Part
part_with offset width x = record { offset = offset; width = width; content = x }

spots_compared : (w : World) (m : source.Memory) (c : core.Memory) (s t : Spot) (i j k l : ℕ) (x y : Content) → SameMemory w m c
    → c.parts (at s) 0 ≡ Some (part_with i k x) → c.parts (at t) 0 ≡ Some (part_with j l y)
    → Compares m c (Some s) (Some t) (Pointer (at s) i) (Pointer (at t) j)
spots_compared w m c s t i j k l x y agree one other = by (is_live m s.region) (is_live m t.region) refl refl
  where
    by : (a b : Bool) → is_live m s.region ≡ a → is_live m t.region ≡ b → Compares m c (Some s) (Some t) (Pointer (at s) i) (Pointer (at t) j)
    by false b e f = inl (rw e refl)
    by true false e f = inl (rw (e, f) refl)
    by true true e f =
        let live_s : core.is_live (c.standing (region_at s.region)) ≡ true = sym (agree.live s.region) ∙ e in
        let live_t : core.is_live (c.standing (region_at t.region)) ≡ true = sym (agree.live t.region) ∙ f in
        inr (record {
          answer = same_spot s t;
          is = rw (e, f) refl;
          does = λ next. rw (live_s, live_t, one, other, eq-eqb i i refl, eq-eqb j j refl) (ap (λ z. next (words.truth z)) (spot_as s t));
        })

-- two values and how they compare
record ArePointers (m : source.Memory) (c : core.Memory) (u v : Scalar) (x y : Content) : Type 0 where
  first : Option Spot
  second : Option Spot
  first_is : u ≡ Thin first
  second_is : v ≡ Thin second
  compares : Compares m c first second x y

both_pointers : (w : World) (m : source.Memory) (c : core.Memory) (sa sb : Shape) (u v : Scalar) (x y : Content) → SameMemory w m c → IsThin w m c sa u x
    → IsThin w m c sb v y → ArePointers m c u v x y
both_pointers w m c sa sb u v x y agree a b =
    ⊎_elim
    (λ (i : ANull a.bound u (x ∷ [])).
    ⊎_elim
    (λ (j : ANull b.bound v (y ∷ [])). record {
      first = None;
      second = None;
      first_is = i.value;
      second_is = j.value;
      compares = inr (record {
        answer = true;
        is = refl;
        does = λ next. rw (null_is x a.bound u i, null_is y b.bound v j) refl;
      });
    })
    (λ (q : APointer w m c (count_of b.bound) b.owner b.to v (y ∷ [])). record {
      first = None;
      second = Some q.spot;
      first_is = i.value;
      second_is = q.value;
      compares = inr (record {
        answer = false;
        is = refl;
        does = λ next. rw (null_is x a.bound u i, pointer_is w m c b.owner b.to y v q) refl;
      });
    }) b.shown)
    (λ (p : APointer w m c (count_of a.bound) a.owner a.to u (x ∷ [])).
    ⊎_elim
    (λ (j : ANull b.bound v (y ∷ [])). record {
      first = Some p.spot;
      second = None;
      first_is = p.value;
      second_is = j.value;
      compares = inr (record {
        answer = false;
        is = refl;
        does = λ next. rw (pointer_is w m c a.owner a.to x u p, null_is y b.bound v j) refl;
      });
    })
    (λ (q : APointer w m c (count_of b.bound) b.owner b.to v (y ∷ [])).
    let one = first_part_of w c a.to (at p.spot) p.byte p.lies.cells p.leads.1 in
    let other = first_part_of w c b.to (at q.spot) q.byte q.lies.cells q.leads.1 in
    record {
      first = Some p.spot;
      second = Some q.spot;
      first_is = p.value;
      second_is = q.value;
      compares = subst (λ z. Compares m c (Some p.spot) (Some q.spot) z y) (sym (pointer_is w m c a.owner a.to x u p))
          (subst (λ z. Compares m c (Some p.spot) (Some q.spot) (Pointer (at p.spot) p.byte) z) (sym (pointer_is w m c b.owner b.to y v q))
          (spots_compared w m c p.spot q.spot p.byte q.byte one.width other.width one.content other.content agree one.is other.is));
    }) b.shown)
    a.shown

-- ---- `==` and `!=`

turned_truth : (b : Bool) → words.truth (nat_eq (words.truth b) 0) ≡ words.truth (not b)
turned_truth true = refl
turned_truth false = refl

-- with an operation that gives the answer
pub answered : (p : Point) (n d : ℕ) (o : Operator) (sa sb : Shape) (b : Bool) (same : Operation) (m0 : source.Memory) (c0 : Config) (m : source.Memory)
    (c : Config) (s : List Scalar → source.Memory → steps.Step) (rest : Statements) (next : Next)
    → ((k : Config → core_steps.Step) → does same k c ≡ k (with_temp d (Word (words.truth b)) c)) → SameState p m c → GrownAt p m0 c0 m c
    → AreKept d c0 c → GoesOn p n d m0 c0 (operator_shape o sa sb) s (meaning.statements rest next)
    → SameAt p n (need (equality o b) (λ r. s (r ∷ [])) m) (meaning.statements (put (compared_code o same d) rest) next c)
answered p n d operator.Equal sa sb b same m0 c0 m c s rest next is fits later kept goes =
    subst (λ z. SameAt p n (s (truth_value b ∷ []) m) z) (sym (is (meaning.statements rest next)))
    (put_truth p n d m0 c0 m c b s (meaning.statements rest next) fits later kept goes)
answered p n d operator.NotEqual sa sb b same m0 c0 m c s rest next is fits later kept goes =
    let here : Config = with_temp d (Word (words.truth b)) c in
    let turned : Config = with_temp (d + 1) (Word 0) here in
    subst (λ z. SameAt p n (s (truth_value (not b) ∷ []) m) z)
    (sym (is (meaning.statements (put (turned_code d) rest) next) ∙
    turned_does d (words.truth b) here rest next (put_temp d (Word (words.truth b)) c) ∙
    ap (λ z. meaning.statements rest next (with_temp d (Word z) turned)) (turned_truth b)))
    (put_truth p n d m0 c0 m turned (not b) s (meaning.statements rest next)
    (temp_fits p m here (d + 1) (Word 0) (temp_fits p m c d (Word (words.truth b)) fits goes.above) (over goes.above (omega arith))) later
    (kept_temp d (d + 1) (Word 0) c0 here (omega arith) (kept_temp d d (Word (words.truth b)) c0 c (omega arith) kept)) goes)
answered p n d operator.BitOr sa sb b same m0 c0 m c s rest next is fits later kept goes = stuck_same p.world p.program n _
answered p n d operator.BitXor sa sb b same m0 c0 m c s rest next is fits later kept goes = stuck_same p.world p.program n _
answered p n d operator.BitAnd sa sb b same m0 c0 m c s rest next is fits later kept goes = stuck_same p.world p.program n _
answered p n d operator.Less sa sb b same m0 c0 m c s rest next is fits later kept goes = stuck_same p.world p.program n _
answered p n d operator.LessEqual sa sb b same m0 c0 m c s rest next is fits later kept goes = stuck_same p.world p.program n _
answered p n d operator.Greater sa sb b same m0 c0 m c s rest next is fits later kept goes = stuck_same p.world p.program n _
answered p n d operator.GreaterEqual sa sb b same m0 c0 m c s rest next is fits later kept goes = stuck_same p.world p.program n _
answered p n d operator.ShiftLeft sa sb b same m0 c0 m c s rest next is fits later kept goes = stuck_same p.world p.program n _
answered p n d operator.ShiftRight sa sb b same m0 c0 m c s rest next is fits later kept goes = stuck_same p.world p.program n _
answered p n d operator.Add sa sb b same m0 c0 m c s rest next is fits later kept goes = stuck_same p.world p.program n _
answered p n d operator.Subtract sa sb b same m0 c0 m c s rest next is fits later kept goes = stuck_same p.world p.program n _
answered p n d operator.Multiply sa sb b same m0 c0 m c s rest next is fits later kept goes = stuck_same p.world p.program n _
answered p n d operator.Divide sa sb b same m0 c0 m c s rest next is fits later kept goes = stuck_same p.world p.program n _
answered p n d operator.Remainder sa sb b same m0 c0 m c s rest next is fits later kept goes = stuck_same p.world p.program n _

-- both operands are in their temporaries
pub pointers_operated : (p : Point) (n d : ℕ) (o : Operator) (sa sb : Shape) (u v : Scalar) (m0 : source.Memory) (c0 : Config) (m : source.Memory) (c : Config)
    (s : List Scalar → source.Memory → steps.Step) (rest : Statements) (next : Next) → IsThin p.world m c.memory sa u (c.temps d)
    → IsThin p.world m c.memory sb v (c.temps (d + 1)) → SameState p m c → GrownAt p m0 c0 m c → AreKept d c0 c
    → GoesOn p n d m0 c0 (operator_shape o sa sb) s (meaning.statements rest next)
    → SameAt p n (need (operators.operated m o u v) (λ r. s (r ∷ [])) m) (meaning.statements (put (operator_code o sa sb d) rest) next c)
pointers_operated p n d o sa sb u v m0 c0 m c s rest next a b fits later kept goes =
    subst (λ z. SameAt p n (need (operators.operated m o u v) (λ r. s (r ∷ [])) m) (meaning.statements (put (operator_code o z sb d) rest) next c))
    (sym a.shape_is)
    (subst (λ z. SameAt p n (need (operators.operated m o u v) (λ r. s (r ∷ [])) m)
    (meaning.statements (put (operator_code o (ThinShape a.bound a.owner a.to) z d) rest) next c)) (sym b.shape_is)
    (subst (λ z. SameAt p n (need (operators.operated m o z v) (λ r. s (r ∷ [])) m) code) (sym both.first_is)
    (subst (λ z. SameAt p n (need (operators.operated m o (Thin both.first) z) (λ r. s (r ∷ [])) m) code) (sym both.second_is)
    (⊎_elim
    (λ (none : same_thin m both.first both.second ≡ None). rw none (stuck_same p.world p.program n code))
    (λ (one : Compared m c.memory both.first both.second (c.temps d) (c.temps (d + 1))).
    rw one.is
    (answered p n d o sa sb one.answer (SamePlace d d (d + 1)) m0 c0 m c s rest next (λ k. one.does (λ z. k (with_temp d (Word z) c))) fits later kept goes))
    both.compares))))
  where
    both : ArePointers m c.memory u v (c.temps d) (c.temps (d + 1))
    both = both_pointers p.world m c.memory sa sb u v (c.temps d) (c.temps (d + 1)) fits.agree a b

    code : core_steps.Step
    code = meaning.statements (put (pointers_code o d) rest) next c
