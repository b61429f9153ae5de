-- A fat pointer that isn't NULL becomes one to so many elements, where they are left from the current one on.
use Rattle.std.proofs.Common.{◌≡◌, inl, inr, ℕ, ◌+◌, ◌*◌, ◌<◌, List, [], ◌∷◌, length, Bool, true, false, Some, refl, sym, ap, ◌∙◌, subst}
use Rattle.std.proofs.Common.{arith}
use Rattle.std.specs.Prelude.{nat_lt}
use Rattle.std.proofs.lemmas.Bool.Decides.{nat_tests}
use Rattle.cyc_words.specs.Events.{SourceEnding}
use Rattle.cyc_words.specs.declared.faults.Kind.TheVariants.{ArrayBounds}
use Rattle.step_trees.specs.Trees.{Stops}
use Rattle.std.proofs.Common.{◌≤◌, ◌^◌, ◌%◌}
use Rattle.std.specs.Prelude.{◌-◌, nat_eq, nat_le, if◌then◌else◌}
use Rattle.std.proofs.lemmas.Bool.{le-leb}
use Rattle.std.proofs.Common.{◌⊎◌}
use Rattle.source_lowering.proofs.memory.Members.{FirstPart, first_reached}
use Rattle.source_meaning.specs.Shapes.{count_of}
use Rattle.source_meaning.specs.Steps.{give, raise}
use Rattle.cyc_words.specs.Words.{difference_of}
use Rattle.core_meaning.specs.Words as words
use Rattle.core_meaning.specs.Core.{Constant, Element, If, Subtract}
use Rattle.core_meaning.specs.Operations.{does}
use Rattle.source_lowering.specs.Operators.{enough_code, one_code, several_code}
use Rattle.source_lowering.specs.Memories.{LeadsAll}
use Rattle.source_lowering.proofs.values.Tests.{two_words}
use Rattle.source_lowering.proofs.values.Values.{other_temp}
use Rattle.source_lowering.proofs.memory.Loading.{after_temp}
use Rattle.source_meaning.specs.Shapes.{Reach}
use Rattle.source_meaning.specs.Shapes.{Owner, Shape, ThinShape, FatShape}
use Rattle.source_meaning.specs.Memory as source
use Rattle.source_meaning.specs.Memory.{Scalar, Thin, Wide, Spot}
use Rattle.source_meaning.specs.Steps as steps
use Rattle.source_meaning.specs.Steps.{World}
use Rattle.source_meaning.specs.Conversions.{cells_of, size_of, accessed}
use Rattle.core_meaning.specs.Memory as core
use Rattle.core_meaning.specs.Memory.{Content, Word, Pointer}
use Rattle.core_meaning.specs.Core.{Apply, LessUnsigned, Statement, Do, Statements, NoStatements}
use Rattle.core_meaning.specs.Steps as core_steps
use Rattle.core_meaning.specs.Steps.{Config, with_temp}
use Rattle.core_meaning.specs.Meaning as meaning
use Rattle.source_lowering.specs.Members.{raised, reached_code}
use Rattle.source_lowering.specs.Layouts.{extent_of}
use Rattle.source_lowering.specs.Lowered.{put}
use Rattle.source_lowering.specs.Simulation.{at, Leads, AFat, IsOwned, IsTakenObject, Point, SameState, SameAt, Next, AreKept, GrownAt}
use Rattle.source_lowering.specs.Simulation.{GoesOn, contents_in}
use Rattle.source_lowering.proofs.Runs.{stops_same}
use Rattle.source_lowering.proofs.values.Values.{put_temp, kept_temp, temp_fits, over}
use Rattle.source_lowering.proofs.expressions.Elements.{AreThree, three_are, element_spot, element_there}
use Rattle.source_lowering.proofs.expressions.Elements.{rest_led, tested, compared, otherwise_done, element_reached}

-- a pointer to so many elements is given on
spot_goes : (p : Point) (n d : ℕ) (b : Reach) (o : Owner) (to : Shape) (m0 : source.Memory) (c0 : Config) (m : source.Memory) (c : Config) (t : Spot)
    (byte : ℕ) (s : List Scalar → source.Memory → steps.Step) (k : Config → core_steps.Step) → SameState p m c → GrownAt p m0 c0 m c → AreKept d c0 c
    → c.temps d ≡ Pointer (at t) byte → IsTakenObject p.world to → Leads p.world m c.memory to t byte → count_of b < 2 ^ 32
    → LeadsAll p.world m c.memory to (count_of b) t byte → IsOwned o c.memory t byte
    → GoesOn p n d m0 c0 (ThinShape b o to) s k → SameAt p n (s (Thin (Some t) ∷ []) m) (k c)
spot_goes p n d b o to m0 c0 m c t byte s k fits later kept temp lies leads few elements owned goes =
    goes.go m c (Thin (Some t) ∷ []) fits later kept (inl (record {
      value = Thin (Some t);
      alone = refl;
      shown = inr (record {
        spot = t;
        byte = byte;
        value = refl;
        shown = ap (λ z. z ∷ []) temp;
        lies = lies;
        leads = leads;
        few = few;
        elements = elements;
        owned = owned;
      });
    }))

-- the source goes on where enough are left
abbrev pub if_left : (count left : ℕ) → (Spot → source.Memory → steps.Step) → Spot → source.Memory → steps.Step
if_left count left s t m = (if nat_le count left then give t else raise ArrayBounds) s m

-- ---- several elements

-- what Core has then
abbrev below_there : Config → (d : ℕ) → Config
below_there c d = with_temp (d + 3) (Word 1) c

abbrev left_there : Config → (d i k count : ℕ) → Config
left_there c d i k count = with_temp (d + 3) (Word count) (with_temp (d + 1) (Word (difference_of k i)) (below_there c d))

abbrev pub enough_there : Config → (d i k count : ℕ) → Config
enough_there c d i k count = with_temp (d + 1) (Word 0) (left_there c d i k count)

enough_fits : (p : Point) (m : source.Memory) (c : Config) (d i k count : ℕ) → SameState p m c → p.regions.all ≤ d → SameState p m (enough_there c d i k count)
enough_fits p m c d i k count fits above =
    temp_fits p m (left_there c d i k count) (d + 1) (Word 0)
    (temp_fits p m (with_temp (d + 1) (Word (difference_of k i)) (below_there c d)) (d + 3) (Word count)
    (temp_fits p m (below_there c d) (d + 1) (Word (difference_of k i)) (temp_fits p m c (d + 3) (Word 1) fits (over above (omega arith)))
    (over above (omega arith))) (over above (omega arith))) (over above (omega arith))

enough_kept : (c0 c : Config) (d i k count : ℕ) → AreKept d c0 c → AreKept d c0 (enough_there c d i k count)
enough_kept c0 c d i k count kept =
    kept_temp d (d + 1) (Word 0) c0 (left_there c d i k count) (omega arith)
    (kept_temp d (d + 3) (Word count) c0 (with_temp (d + 1) (Word (difference_of k i)) (below_there c d)) (omega arith)
    (kept_temp d (d + 1) (Word (difference_of k i)) c0 (below_there c d) (omega arith) (kept_temp d (d + 3) (Word 1) c0 c (omega arith) kept)))

-- the pointer and the index are as before
kept_pointer : (c : Config) (d e i k count : ℕ) (x : Content) → e ≡ d ⊎ e ≡ d + 2 → c.temps e ≡ x → (left_there c d i k count).temps e ≡ x
kept_pointer c d e i k count x (inl at_d) there =
    other_temp (d + 3) e (Word count) (with_temp (d + 1) (Word (difference_of k i)) (below_there c d)) (omega (arith, at_d))
    ∙ other_temp (d + 1) e (Word (difference_of k i)) (below_there c d) (omega (arith, at_d)) ∙ other_temp (d + 3) e (Word 1) c (omega (arith, at_d)) ∙ there
kept_pointer c d e i k count x (inr behind) there =
    other_temp (d + 3) e (Word count) (with_temp (d + 1) (Word (difference_of k i)) (below_there c d)) (omega (arith, behind))
    ∙ after_temp (d + 1) e (Word (difference_of k i)) (below_there c d) (omega (arith, behind)) ∙ other_temp (d + 3) e (Word 1) c (omega (arith, behind))
    ∙ there

module _ (w : World) (to : Shape) (rest : Statements) (next : Next) where
  abbrev element : ℕ → List Statement
  element d = Do (Element d d (d + 2) (length (cells_of w to)) (extent_of w to).size) ∷ []

  abbrev second : (d count : ℕ) → List Statement
  second d count =
      Do (Apply Subtract (d + 1) (d + 1) (d + 2)) ∷ Do (Constant (d + 3) count) ∷ Do (Apply LessUnsigned (d + 1) (d + 1) (d + 3))
      ∷ If (d + 1) (raised ArrayBounds) NoStatements ∷ element d

  -- the index is compared with the count
  below_asked : (c : Config) (d i k count : ℕ) (x : Content) → AreThree c d x (Word k) (Word i)
      → meaning.statements (put (several_code w count to d) rest) next c
      ≡ meaning.statements (put (If (d + 3) NoStatements (raised ArrayBounds) ∷ second d count) rest) next
      (with_temp (d + 3) (Word (words.truth (nat_lt i k))) c)
  below_asked c d i k count x three =
      two_words LessUnsigned c (d + 3) (d + 2) (d + 1) i k
      (meaning.statements (put (If (d + 3) NoStatements (raised ArrayBounds) ∷ second d count) rest) next) three.index three.count

  beyond_raised : (c : Config) (d count : ℕ)
      → meaning.statements (put (If (d + 3) NoStatements (raised ArrayBounds) ∷ second d count) rest) next (with_temp (d + 3) (Word 0) c)
      ≡ Stops (SourceEnding.Raised ArrayBounds)
  beyond_raised c d count = rw (put_temp (d + 3) (Word 0) c) refl

  passed : (c : Config) (d count : ℕ)
      → meaning.statements (put (If (d + 3) NoStatements (raised ArrayBounds) ∷ second d count) rest) next (below_there c d)
      ≡ meaning.statements (put (second d count) rest) next (below_there c d)
  passed c d count = rw (put_temp (d + 3) (Word 1) c) refl

  -- then the elements from there on with the bound
  left_asked : (c : Config) (d i k count : ℕ) (x : Content) → count < 2 ^ 32 → AreThree c d x (Word k) (Word i)
      → meaning.statements (put (If (d + 3) NoStatements (raised ArrayBounds) ∷ second d count) rest) next (below_there c d)
      ≡ meaning.statements (put (If (d + 1) (raised ArrayBounds) NoStatements ∷ element d) rest) next
      (with_temp (d + 1) (Word (words.truth (nat_lt (difference_of k i) count))) (left_there c d i k count))
  left_asked c d i k count x few three =
      let small : count % 2 ^ 32 ≡ count = omega (arith, few) in
      let behind : Config → core_steps.Step = meaning.statements (put (If (d + 1) (raised ArrayBounds) NoStatements ∷ element d) rest) next in
      let first : Config = with_temp (d + 1) (Word (difference_of k i)) (below_there c d) in
      passed c d count ∙
      (two_words Subtract (below_there c d) (d + 1) (d + 1) (d + 2) k i
      (λ z. does (Apply LessUnsigned (d + 1) (d + 1) (d + 3)) behind (with_temp (d + 3) (Word (count % 2 ^ 32)) z))
      (other_temp (d + 3) (d + 1) (Word 1) c (omega arith) ∙ three.count) (other_temp (d + 3) (d + 2) (Word 1) c (omega arith) ∙ three.index) ∙
      ap (λ z. does (Apply LessUnsigned (d + 1) (d + 1) (d + 3)) behind (with_temp (d + 3) (Word z) first)) small ∙
      two_words LessUnsigned (left_there c d i k count) (d + 1) (d + 1) (d + 3) (difference_of k i) count behind
      (other_temp (d + 3) (d + 1) (Word count) first (omega arith) ∙ put_temp (d + 1) (Word (difference_of k i)) (below_there c d))
      (put_temp (d + 3) (Word count) first))

  left_raised : (c : Config) (d : ℕ)
      → meaning.statements (put (If (d + 1) (raised ArrayBounds) NoStatements ∷ element d) rest) next (with_temp (d + 1) (Word 1) c)
      ≡ Stops (SourceEnding.Raised ArrayBounds)
  left_raised c d = rw (put_temp (d + 1) (Word 1) c) refl

  left_reached : (c : Config) (d i k count byte : ℕ) (t : core.Spot) → AreThree c d (Pointer t byte) (Word k) (Word i)
      → FirstPart c.memory (core.beyond t (i * length (cells_of w to))) (byte + i * (extent_of w to).size)
      → meaning.statements (put (If (d + 1) (raised ArrayBounds) NoStatements ∷ element d) rest) next (enough_there c d i k count)
      ≡ meaning.statements rest next
      (with_temp d (Pointer (core.beyond t (i * length (cells_of w to))) (byte + i * (extent_of w to).size)) (enough_there c d i k count))
  left_reached c d i k count byte t three first =
      rw (
        put_temp (d + 1) (Word 0) (left_there c d i k count),
        other_temp (d + 1) d (Word 0) (left_there c d i k count) (omega arith),
        kept_pointer c d d i k count (Pointer t byte) (inl refl) three.pointer,
        after_temp (d + 1) (d + 2) (Word 0) (left_there c d i k count) (omega arith),
        kept_pointer c d (d + 2) i k count (Word i) (inr refl) three.index,
        first_reached c.memory (core.beyond t (i * length (cells_of w to))) (byte + i * (extent_of w to).size) first,
      ) refl

-- a pointer that isn't NULL becomes one to several elements, or both raise
several_same : (p : Point) (n d : ℕ) (b : Reach) (o : Owner) (to : Shape) (m0 : source.Memory) (c0 : Config) (m : source.Memory) (c : Config) (v : Scalar)
    (s : List Scalar → source.Memory → steps.Step) (rest : Statements) (next : Next) (after : Config → core_steps.Step) → SameState p m c → GrownAt p m0 c0 m c
    → AreKept d c0 c
    → ((t : Spot) (byte : ℕ) → IsOwned o c.memory t byte) → GoesOn p n d m0 c0 (ThinShape b o to) s after
    → ((x : Config) → meaning.statements rest next x ≡ after x) → count_of b < 2 ^ 32
    → (z : AFat p.world m c.memory to (size_of p.world to) v (contents_in d (FatShape to) c.temps))
    → SameAt p n (accessed (length (cells_of p.world to)) (Wide (Some z.span))
    (if_left (count_of b) (z.span.count - z.span.index) (λ t. s (Thin (Some t) ∷ []))) m)
    (meaning.statements (put (several_code p.world (count_of b) to d) rest) next c)
several_same p n d b o to m0 c0 m c v s rest next after fits later kept owned goes same few z =
    subst (λ u. SameAt p n source_step u) (sym (below_asked p.world to rest next c d i k (count_of b) (Pointer (at z.span.first) z.byte) three))
    (by (nat_lt i k) refl)
  where
    i : ℕ
    i = z.span.index

    k : ℕ
    k = z.span.count

    source_step : steps.Step
    source_step =
        accessed (length (cells_of p.world to)) (Wide (Some z.span))
        (if_left (count_of b) (z.span.count - z.span.index) (λ t. s (Thin (Some t) ∷ []))) m

    three : AreThree c d (Pointer (at z.span.first) z.byte) (Word k) (Word i)
    three = three_are c d to (Pointer (at z.span.first) z.byte) (Word k) (Word i) z.shown

    enough : (x : Bool) → nat_lt (difference_of k i) (count_of b) ≡ x → i < k
        → SameAt p n (if_left (count_of b) (k - i) (λ t. s (Thin (Some t) ∷ [])) (element_spot p.world to z.span) m)
        (meaning.statements (put (If (d + 1) (raised ArrayBounds) NoStatements ∷ element p.world to rest next d) rest) next
        (with_temp (d + 1) (Word (words.truth (nat_lt (difference_of k i) (count_of b)))) (left_there c d i k (count_of b))))
    enough true e below =
        let less : difference_of k i < count_of b = grind (arith, nat_tests, e) in
        let more : k - i < count_of b = omega (arith, below, z.small, z.few, less) in
        let none : nat_le (count_of b) (k - i) ≡ false = grind (arith, nat_tests, more) in
        rw (e, none)
        (subst (λ u. SameAt p n (Stops (SourceEnding.Raised ArrayBounds)) u) (sym (left_raised p.world to rest next (left_there c d i k (count_of b)) d))
        (stops_same p.world p.program n (SourceEnding.Raised ArrayBounds)))
    enough false e below =
        let less : count_of b ≤ difference_of k i = grind (arith, nat_tests, e) in
        let fewer : count_of b ≤ k - i = omega (arith, below, z.small, z.few, less) in
        let one = element_there p.world m c.memory to v (contents_in d (FatShape to) c.temps) z below in
        let t : Spot = element_spot p.world to z.span in
        let byte : ℕ = z.byte + i * (extent_of p.world to).size in
        let here : Config = enough_there c d i k (count_of b) in
        let all = rest_led p.world m c.memory to v (contents_in d (FatShape to) c.temps) z below in
        rw (e, le-leb (count_of b) (k - i) fewer)
        (subst (λ u. SameAt p n (s (Thin (Some t) ∷ []) m) u)
        (sym (left_reached p.world to rest next c d i k (count_of b) z.byte (at z.span.first) three one.first ∙ same (with_temp d (Pointer (at t) byte) here)))
        (spot_goes p n d b o to m0 c0 m (with_temp d (Pointer (at t) byte) here) t byte s after
        (temp_fits p m here d (Pointer (at t) byte) (enough_fits p m c d i k (count_of b) fits goes.above) goes.above) later
        (kept_temp d d (Pointer (at t) byte) c0 here (omega arith) (enough_kept c0 c d i k (count_of b) kept)) (put_temp d (Pointer (at t) byte) here)
        z.lies one.leads few (λ j less. all j (omega (arith, fewer, less))) (owned t byte) goes))

    by : (x : Bool) → nat_lt i k ≡ x → SameAt p n source_step
        (meaning.statements (put (If (d + 3) NoStatements (raised ArrayBounds) ∷ second p.world to rest next d (count_of b)) rest) next
        (with_temp (d + 3) (Word (words.truth (nat_lt i k))) c))
    by false e =
        rw e
        (subst (λ u. SameAt p n (Stops (SourceEnding.Raised ArrayBounds)) u) (sym (beyond_raised p.world to rest next c d (count_of b)))
        (stops_same p.world p.program n (SourceEnding.Raised ArrayBounds)))
    by true e =
        let below : i < k = grind (arith, nat_tests, e) in
        rw e
        (subst (λ u. SameAt p n (if_left (count_of b) (k - i) (λ t. s (Thin (Some t) ∷ [])) (element_spot p.world to z.span) m) u)
        (sym (left_asked p.world to rest next c d i k (count_of b) (Pointer (at z.span.first) z.byte) few three))
        (enough (nat_lt (difference_of k i) (count_of b)) refl below))

-- ---- one element, or several

-- or to one
one_same : (p : Point) (n d : ℕ) (b : Reach) (o : Owner) (to : Shape) (m0 : source.Memory) (c0 : Config) (m : source.Memory) (c : Config) (v : Scalar)
    (s : List Scalar → source.Memory → steps.Step) (rest : Statements) (next : Next) (after : Config → core_steps.Step) → SameState p m c → GrownAt p m0 c0 m c
    → AreKept d c0 c
    → ((t : Spot) (byte : ℕ) → IsOwned o c.memory t byte) → GoesOn p n d m0 c0 (ThinShape b o to) s after
    → ((x : Config) → meaning.statements rest next x ≡ after x) → count_of b ≡ 1
    → (z : AFat p.world m c.memory to (size_of p.world to) v (contents_in d (FatShape to) c.temps))
    → SameAt p n (accessed (length (cells_of p.world to)) (Wide (Some z.span))
    (if_left (count_of b) (z.span.count - z.span.index) (λ t. s (Thin (Some t) ∷ []))) m)
    (meaning.statements (put (one_code p.world to d) rest) next c)
one_same p n d b o to m0 c0 m c v s rest next after fits later kept owned goes same single z =
    subst (λ u. SameAt p n source_step u) (sym (compared c d i k (Pointer (at z.span.first) z.byte) reaches rest next three)) (by (nat_lt i k) refl)
  where
    i : ℕ
    i = z.span.index

    k : ℕ
    k = z.span.count

    source_step : steps.Step
    source_step =
        accessed (length (cells_of p.world to)) (Wide (Some z.span))
        (if_left (count_of b) (z.span.count - z.span.index) (λ t. s (Thin (Some t) ∷ []))) m

    reaches : List Statement
    reaches = reached_code p.world to d d (raised ArrayBounds)

    three : AreThree c d (Pointer (at z.span.first) z.byte) (Word k) (Word i)
    three = three_are c d to (Pointer (at z.span.first) z.byte) (Word k) (Word i) z.shown

    by : (x : Bool) → nat_lt i k ≡ x → SameAt p n source_step (meaning.statements (put reaches rest) next (tested c d (nat_lt i k)))
    by false e =
        rw e
        (subst (λ u. SameAt p n (Stops (SourceEnding.Raised ArrayBounds)) u) (sym (otherwise_done p.world to c d d (raised ArrayBounds) rest next))
        (stops_same p.world p.program n (SourceEnding.Raised ArrayBounds)))
    by true e =
        let below : i < k = grind (arith, nat_tests, e) in
        let left : count_of b ≤ k - i = omega (arith, below, single) in
        let few : count_of b < 2 ^ 32 = omega (arith, single) in
        let one = element_there p.world m c.memory to v (contents_in d (FatShape to) c.temps) z below in
        let t : Spot = element_spot p.world to z.span in
        let byte : ℕ = z.byte + i * (extent_of p.world to).size in
        let here : Config = with_temp (d + 1) (Word 1) c in
        let all = rest_led p.world m c.memory to v (contents_in d (FatShape to) c.temps) z below in
        rw (e, le-leb (count_of b) (k - i) left)
        (subst (λ u. SameAt p n (s (Thin (Some t) ∷ []) m) u)
        (sym (element_reached p.world to c d d z.byte i (at z.span.first) (raised ArrayBounds) rest next three.pointer three.index one.first
        ∙ same (with_temp d (Pointer (at t) byte) here)))
        (spot_goes p n d b o to m0 c0 m (with_temp d (Pointer (at t) byte) here) t byte s after
        (temp_fits p m here d (Pointer (at t) byte) (temp_fits p m c (d + 1) (Word 1) fits (over goes.above (omega arith))) goes.above) later
        (kept_temp d d (Pointer (at t) byte) c0 here (omega arith) (kept_temp d (d + 1) (Word 1) c0 c (omega arith) kept))
        (put_temp d (Pointer (at t) byte) here) z.lies one.leads few (λ j less. all j (omega (arith, left, less))) (owned t byte) goes))

-- to so many elements, or both raise
pub bounded_same : (p : Point) (n d : ℕ) (b : Reach) (o : Owner) (to : Shape) (m0 : source.Memory) (c0 : Config) (m : source.Memory) (c : Config) (v : Scalar)
    (s : List Scalar → source.Memory → steps.Step) (rest : Statements) (next : Next) (after : Config → core_steps.Step) → SameState p m c → GrownAt p m0 c0 m c
    → AreKept d c0 c
    → ((t : Spot) (byte : ℕ) → IsOwned o c.memory t byte) → GoesOn p n d m0 c0 (ThinShape b o to) s after
    → ((x : Config) → meaning.statements rest next x ≡ after x) → count_of b < 2 ^ 32
    → (z : AFat p.world m c.memory to (size_of p.world to) v (contents_in d (FatShape to) c.temps))
    → SameAt p n (accessed (length (cells_of p.world to)) (Wide (Some z.span))
    (if_left (count_of b) (z.span.count - z.span.index) (λ t. s (Thin (Some t) ∷ []))) m)
    (meaning.statements (put (enough_code p.world (count_of b) to d) rest) next c)
bounded_same p n d b o to m0 c0 m c v s rest next after fits later kept owned goes same few z = by (nat_eq (count_of b) 1) refl
  where
    by : (x : Bool) → nat_eq (count_of b) 1 ≡ x
        → SameAt p n (accessed (length (cells_of p.world to)) (Wide (Some z.span))
        (if_left (count_of b) (z.span.count - z.span.index) (λ t. s (Thin (Some t) ∷ []))) m)
        (meaning.statements (put (enough_code p.world (count_of b) to d) rest) next c)
    by true e =
        let single : count_of b ≡ 1 = grind (arith, nat_tests, e) in
        rw e (one_same p n d b o to m0 c0 m c v s rest next after fits later kept owned goes same single z)
    by false e = rw e (several_same p n d b o to m0 c0 m c v s rest next after fits later kept owned goes same few z)
