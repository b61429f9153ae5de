-- The element that an index leads to: the index is evaluated first, and then the fat pointer, behind it.
use Rattle.std.proofs.Common.{◌≡◌, ℕ, ◌+◌, ⊎_elim, List, ◌++◌, length, refl, sym, ap, ◌∙◌, subst, arith}
use Rattle.core_meaning.specs.Operations.{does}
use Rattle.source_meaning.specs.Shapes.{Reach}
use Rattle.std.proofs.Common.{◌^◌, ◌%◌, ◌*◌, ◌<◌, Bool, true, false, Some, [], ◌∷◌}
use Rattle.std.specs.Prelude.{nat_lt}
use Rattle.std.proofs.lemmas.Bool.Decides.{nat_tests}
use Rattle.cyc_words.specs.Events.{SourceEnding}
use Rattle.cyc_words.specs.declared.faults.Kind.TheVariants.{ArrayBounds}
use Rattle.step_trees.specs.Trees.{Stops}
use Rattle.source_meaning.specs.Shapes.{ThinShape, bound_in, count_of}
use Rattle.source_meaning.specs.Memory.{Wide}
use Rattle.core_meaning.specs.Words as words
use Rattle.core_meaning.specs.Steps as core_steps
use Rattle.core_meaning.specs.Core.{Apply, LessUnsigned, Element, Do, If, NoStatements}
use Rattle.source_lowering.specs.Layouts.{extent_of}
use Rattle.source_lowering.specs.Members.{raised, check_code, bound_code, subscript_code}
use Rattle.source_lowering.specs.Simulation.{ANull, APointer, Leads}
use Rattle.source_lowering.proofs.Runs.{stops_same}
use Rattle.source_lowering.proofs.memory.Members.{FirstPart, first_part_of, first_reached}
use Rattle.source_lowering.proofs.values.Integers.{IsThin, null_is, pointer_is}
use Rattle.source_lowering.proofs.values.Tests.{two_words}
use Rattle.source_lowering.proofs.values.Values.{other_temp}
use Rattle.source_lowering.proofs.expressions.Places.{null_raises, spot_passes}
use Rattle.source_meaning.specs.Shapes.{Shape, FatShape, pointee}
use Rattle.source_meaning.specs.Memory as source
use Rattle.source_meaning.specs.Memory.{Scalar, Spot}
use Rattle.cyc_words.specs.Words.{sum_of}
use Rattle.source_meaning.specs.Steps as steps
use Rattle.source_meaning.specs.Steps.{World, ◌>>=◌}
use Rattle.source_meaning.specs.Conversions.{cells_of, size_of, one, integer, accessed}
use Rattle.source_meaning.specs.Places.{Sense, indexed_span}
use Rattle.core_meaning.specs.Memory as core
use Rattle.core_meaning.specs.Memory.{Content, Word, Pointer}
use Rattle.core_meaning.specs.Core.{Statement, Statements}
use Rattle.core_meaning.specs.Steps.{Config, with_temp}
use Rattle.core_meaning.specs.Meaning as meaning
use Rattle.source_lowering.specs.Members.{index_code}
use Rattle.source_lowering.specs.Lowered.{put}
use Rattle.source_lowering.specs.Simulation.{at, AFatNull, AFat, Shown, Point, SameState, SameAt, Next, AreKept, GrownAt, within}
use Rattle.source_lowering.proofs.memory.Keeping.{later_on}
use Rattle.source_lowering.proofs.Runs.{stuck_same, put_all}
use Rattle.source_lowering.proofs.values.AnyValues.{IsFat, one_same, thin_same, fat_same, three_in}
use Rattle.source_lowering.proofs.values.Values.{put_temp, kept_temp, temp_fits, over}
use Rattle.source_lowering.proofs.values.FatOperators.{moved_value, moved, index_same}
use Rattle.source_lowering.proofs.expressions.Variables.{Agrees}
use Rattle.source_lowering.proofs.expressions.Places.{PlaceGoesOn, PlacedAs}

-- the pointer is moved by the index
span_moved : (w : World) (m : source.Memory) (c : core.Memory) (to : Shape) (v : Scalar) (cs : List Content) (k : ℕ)
    (all : ℕ) (g : Scalar → source.Memory → steps.Step) → Shown w m c (FatShape to) v cs → indexed_span all k v g m ≡ g (moved_value v (λ i. sum_of i k)) m
span_moved w m c to v cs k all g shown =
    ⊎_elim
    (λ (z : AFatNull v cs). subst (λ u. indexed_span all k u g m ≡ g (moved_value u (λ i. sum_of i k)) m) (sym z.value) refl)
    (λ (z : AFat w m c to (size_of w to) v cs). subst (λ u. indexed_span all k u g m ≡ g (moved_value u (λ i. sum_of i k)) m) (sym z.value) refl) shown

-- both are evaluated: the index is in this temporary, and the pointer in those behind it
both_there : (p : Point) (n d k : ℕ) (m0 : source.Memory) (c0 : Config) (m : source.Memory) (c : Config) (sa : Shape) (v : Scalar)
    (s : Spot → source.Memory → steps.Step) (rest : Statements) (next : Next) → SameState p m c → GrownAt p m0 c0 m c → AreKept d c0 c → c.temps d ≡ Word k
    → IsFat p.world m c.memory sa v (three_in (d + 1) c.temps) → PlaceGoesOn p n d m0 c0 (pointee sa) s (meaning.statements rest next)
    → SameAt p n (indexed_span (bound_in sa) k v (λ q. accessed (length (cells_of p.world (pointee sa))) q s) m)
    (meaning.statements (put (subscript_code p.world sa d) rest) next c)
both_there p n d k m0 c0 m c sa v s rest next fits later kept operand o goes =
    let cells : ℕ = length (cells_of p.world o.to) in
    let on = subst (λ z. PlaceGoesOn p n d m0 c0 (pointee z) s (meaning.statements rest next)) o.shape_is goes in
    subst (λ z. SameAt p n (indexed_span (bound_in z) k v (λ q. accessed (length (cells_of p.world (pointee z))) q s) m)
    (meaning.statements (put (subscript_code p.world z d) rest) next c)) (sym o.shape_is)
    (subst (λ z. SameAt p n z (meaning.statements (put (index_code p.world o.to d) rest) next c))
    (sym (span_moved p.world m c.memory o.to v (three_in (d + 1) c.temps) k 0 (λ q. accessed cells q s) o.shown))
    (index_same p n d k o.to v m c s rest next operand o.shown (λ index left. record {
      go = λ t byte lies leads all.
          let pointer : Content = Pointer (at t) byte in
          let there : Config = moved c (d + 1) index in
          let here : Config = with_temp (d + 1 + 1) (Word 1) there in
          on.go m (with_temp d pointer here) t byte
          (temp_fits p m here d pointer (temp_fits p m there (d + 1 + 1) (Word 1)
          (temp_fits p m c (d + 1 + 2) (Word index) fits (over goes.above (omega arith)))
          (over goes.above (omega arith))) goes.above) later
          (kept_temp d d pointer c0 here (omega arith) (kept_temp d (d + 1 + 1) (Word 1) c0 there (omega arith)
          (kept_temp d (d + 1 + 2) (Word index) c0 c (omega arith) kept))) (put_temp d pointer here) lies leads;
    })))

-- ---- of a thin pointer

-- what Core does with an index that is below the bound, and with another one
below_reached : (w : World) (to : Shape) (c : Config) (d k count byte : ℕ) (t : core.Spot) (rest : Statements) (next : Next) → c.temps d ≡ Word k
    → c.temps (d + 1) ≡ Pointer t byte
    → FirstPart c.memory (core.beyond t (k * length (cells_of w to))) (byte + k * (extent_of w to).size)
    → meaning.statements (put (If (d + 2) NoStatements (raised ArrayBounds)
    ∷ Do (Element d (d + 1) d (length (cells_of w to)) (extent_of w to).size) ∷ []) rest)
    next (with_temp (d + 2) (Word 1) c)
    ≡ meaning.statements rest next
    (with_temp d (Pointer (core.beyond t (k * length (cells_of w to))) (byte + k * (extent_of w to).size)) (with_temp (d + 2) (Word 1) c))
below_reached w to c d k count byte t rest next index pointer first =
    rw (
      put_temp (d + 2) (Word 1) c,
      other_temp (d + 2) (d + 1) (Word 1) c (omega arith),
      pointer,
      other_temp (d + 2) d (Word 1) c (omega arith),
      index,
      first_reached c.memory (core.beyond t (k * length (cells_of w to))) (byte + k * (extent_of w to).size) first,
    ) refl

beyond_raised : (w : World) (to : Shape) (c : Config) (d : ℕ) (rest : Statements) (next : Next)
    → meaning.statements (put (If (d + 2) NoStatements (raised ArrayBounds)
    ∷ Do (Element d (d + 1) d (length (cells_of w to)) (extent_of w to).size) ∷ []) rest)
    next (with_temp (d + 2) (Word 0) c)
    ≡ Stops (SourceEnding.Raised ArrayBounds)
beyond_raised w to c d rest next = rw (put_temp (d + 2) (Word 0) c) refl

-- the index is compared with the bound
bound_entered : (w : World) (bound : Reach) (to : Shape) (c : Config) (d k : ℕ) (rest : Statements) (next : Next) → count_of bound < 2 ^ 32
    → c.temps d ≡ Word k
    → meaning.statements (put (bound_code w bound to d) rest) next c
    ≡ meaning.statements (put (If (d + 2) NoStatements (raised ArrayBounds)
    ∷ Do (Element d (d + 1) d (length (cells_of w to)) (extent_of w to).size) ∷ []) rest)
    next (with_temp (d + 2) (Word (words.truth (nat_lt k (count_of bound)))) (with_temp (d + 2) (Word (count_of bound)) c))
bound_entered w bound to c d k rest next few operand =
    let small : count_of bound % 2 ^ 32 ≡ count_of bound = omega (arith, few) in
    ap (λ z. does (Apply LessUnsigned (d + 2) d (d + 2)) after (with_temp (d + 2) (Word z) c)) small ∙
    two_words LessUnsigned (with_temp (d + 2) (Word (count_of bound)) c) (d + 2) d (d + 2) k (count_of bound)
    after (other_temp (d + 2) d (Word (count_of bound)) c (omega arith) ∙ operand)
    (put_temp (d + 2) (Word (count_of bound)) c)
  where
    after : Config → core_steps.Step
    after = meaning.statements (put (If (d + 2) NoStatements (raised ArrayBounds) ∷ Do (Element d (d + 1) d (length (cells_of w to)) (extent_of w to).size)
        ∷ []) rest) next

-- both are evaluated: the index is in this temporary, and the pointer in the next
bound_there : (p : Point) (n d k : ℕ) (m0 : source.Memory) (c0 : Config) (m : source.Memory) (c : Config) (sa : Shape) (v : Scalar)
    (s : Spot → source.Memory → steps.Step) (rest : Statements) (next : Next) → SameState p m c → GrownAt p m0 c0 m c → AreKept d c0 c → c.temps d ≡ Word k
    → IsThin p.world m c.memory sa v (c.temps (d + 1)) → PlaceGoesOn p n d m0 c0 (pointee sa) s (meaning.statements rest next)
    → SameAt p n (indexed_span (bound_in sa) k v (λ q. accessed (length (cells_of p.world (pointee sa))) q s) m)
    (meaning.statements (put (subscript_code p.world sa d) rest) next c)
bound_there p n d k m0 c0 m c sa v s rest next fits later kept operand o goes =
    let on = subst (λ z. PlaceGoesOn p n d m0 c0 (pointee z) s (meaning.statements rest next)) o.shape_is goes in
    subst (λ z. SameAt p n (indexed_span (bound_in z) k v (λ q. accessed (length (cells_of p.world (pointee z))) q s) m)
    (meaning.statements (put (subscript_code p.world z d) rest) next c)) (sym o.shape_is)
    (subst (λ z. SameAt p n (indexed_span (count_of o.bound) k v (λ q. accessed (length (cells_of p.world o.to)) q s) m) (meaning.statements z next c))
    (sym (put_all (check_code (ThinShape o.bound o.owner o.to) (d + 1)) (bound_code p.world o.bound o.to d) rest))
    (⊎_elim
    (λ (z : ANull o.bound v (c.temps (d + 1) ∷ [])).
    subst (λ u. SameAt p n (indexed_span (count_of o.bound) k u (λ q. accessed (length (cells_of p.world o.to)) q s) m) code) (sym z.value)
    (null_raises p n (d + 1) o.bound o.owner o.to c (put (bound_code p.world o.bound o.to d) rest) next z.allowed
    (null_is (c.temps (d + 1)) o.bound v z)))
    (λ (z : APointer p.world m c.memory (count_of o.bound) o.owner o.to v (c.temps (d + 1) ∷ [])).
    subst (λ u. SameAt p n (indexed_span (count_of o.bound) k u (λ q. accessed (length (cells_of p.world o.to)) q s) m) code) (sym z.value)
    (subst (λ u. SameAt p n (accessed (length (cells_of p.world o.to)) (Wide (Some (record { first = z.spot; count = count_of o.bound; index = k }))) s m) u)
    (sym (spot_passes (d + 1) z.byte o.bound o.owner o.to (at z.spot) c (put (bound_code p.world o.bound o.to d) rest) next
    (pointer_is p.world m c.memory o.owner o.to (c.temps (d + 1)) v z) ∙
    bound_entered p.world o.bound o.to c d k rest next z.few operand))
    (by z on (nat_lt k (count_of o.bound)) refl)))
    o.shown))
  where
    code : core_steps.Step
    code = meaning.statements (put (check_code (ThinShape o.bound o.owner o.to) (d + 1)) (put (bound_code p.world o.bound o.to d) rest)) next c

    tail : List Statement
    tail = If (d + 2) NoStatements (raised ArrayBounds) ∷ Do (Element d (d + 1) d (length (cells_of p.world o.to)) (extent_of p.world o.to).size) ∷ []

    first : Config
    first = with_temp (d + 2) (Word (count_of o.bound)) c

    by : (z : APointer p.world m c.memory (count_of o.bound) o.owner o.to v (c.temps (d + 1) ∷ []))
        → PlaceGoesOn p n d m0 c0 o.to s (meaning.statements rest next) → (b : Bool) → nat_lt k (count_of o.bound) ≡ b
        → SameAt p n (accessed (length (cells_of p.world o.to)) (Wide (Some (record { first = z.spot; count = count_of o.bound; index = k }))) s m)
        (meaning.statements (put tail rest) next (with_temp (d + 2) (Word (words.truth (nat_lt k (count_of o.bound)))) first))
    by z on false e =
        rw e
        (subst (λ u. SameAt p n (Stops (SourceEnding.Raised ArrayBounds)) u) (sym (beyond_raised p.world o.to first d rest next))
        (stops_same p.world p.program n (SourceEnding.Raised ArrayBounds)))
    by z on true e =
        let less : k < count_of o.bound = grind (arith, nat_tests, e) in
        let t : Spot = source.beyond z.spot (k * length (cells_of p.world o.to)) in
        let byte : ℕ = z.byte + k * (extent_of p.world o.to).size in
        let leads : Leads p.world m c.memory o.to t byte = z.elements k less in
        let here : Config = with_temp (d + 2) (Word 1) first in
        rw e
        (subst (λ u. SameAt p n (s t m) u)
        (sym (below_reached p.world o.to first d k (count_of o.bound) z.byte (at z.spot) rest next
        (other_temp (d + 2) d (Word (count_of o.bound)) c (omega arith) ∙ operand)
        (other_temp (d + 2) (d + 1) (Word (count_of o.bound)) c (omega arith) ∙ pointer_is p.world m c.memory o.owner o.to (c.temps (d + 1)) v z)
        (first_part_of p.world c.memory o.to (at t) byte z.lies.cells leads.1)))
        (on.go m (with_temp d (Pointer (at t) byte) here) t byte
        (temp_fits p m here d (Pointer (at t) byte) (temp_fits p m first (d + 2) (Word 1)
        (temp_fits p m c (d + 2) (Word (count_of o.bound)) fits (over on.above (omega arith))) (over on.above (omega arith))) on.above) later
        (kept_temp d d (Pointer (at t) byte) c0 here (omega arith) (kept_temp d (d + 2) (Word 1) c0 first (omega arith)
        (kept_temp d (d + 2) (Word (count_of o.bound)) c0 c (omega arith) kept))) (put_temp d (Pointer (at t) byte) here) z.lies leads))

pub indexed_placed : (p : Point) (n d : ℕ) (a b : Sense) (sa sb : Shape) (ca cb : List Statement) → Agrees p n (d + 1) a sa ca → Agrees p n d b sb cb
    → PlacedAs p n d (pointee sa)
    (b.look >>= one >>= integer >>= λ k. a.look >>= one >>= indexed_span (bound_in sa) k >>= λ q. accessed (length (cells_of p.world (pointee sa))) q)
    (cb ++ (ca ++ subscript_code p.world sa d))
indexed_placed p n d a b sa sb ca cb x y = record {
  same = λ m c s rest next fits goes.
      let end : List Statement = subscript_code p.world sa d in
      let spans : ℕ → Scalar → source.Memory
      → steps.Step = λ k u. indexed_span (bound_in sa) k u (λ q. accessed (length (cells_of p.world (pointee sa))) q s) in
      let indices : Scalar → source.Memory → steps.Step = λ v. integer v (λ k. a.look (λ xs. one xs (spans k))) in
      subst (λ z. SameAt p n (b.look (λ ys. one ys indices) m) (meaning.statements z next c))
      (sym (put_all cb (ca ++ end) rest ∙ ap (λ z. put cb z) (put_all ca end rest)))
      (y.looks.same m c (λ ys. one ys indices) (put ca (put end rest)) next fits (record {
        above = over goes.above (omega arith);
        go = λ m1 c1 ys fits1 later1 kept1 given1.
            one_same p.world p.program n sb m1 c1.memory ys d c1.temps indices (meaning.statements (put ca (put end rest)) next c1) y.taken given1
            (λ t word temp shape_is type_is small.
            x.looks.same m1 c1 (λ xs. one xs (spans word)) (put end rest) next fits1 (record {
              above = over goes.above (omega arith);
              go = λ m2 c2 xs fits2 later2 kept2 given2.
                  one_same p.world p.program n sa m2 c2.memory xs (d + 1) c2.temps (spans word) (meaning.statements (put end rest) next c2) x.taken given2
                  (λ t i temp shape_is type_is small. stuck_same p.world p.program n _)
                  (λ v o.
                  bound_there p n d word m c m2 c2 sa v s rest next fits2 (later_on (within p) m m1 m2 c.memory c1.memory c2.memory later1 later2)
                  (λ k less. kept2 k (omega (arith, less)) ∙ kept1 k less) (kept2 d (omega arith) ∙ temp) o goes)
                  (λ birth shown shape_is. stuck_same p.world p.program n _)
                  (λ birth is. stuck_same p.world p.program n _)
                  (λ v o.
                  both_there p n d word m c m2 c2 sa v s rest next fits2 (later_on (within p) m m1 m2 c.memory c1.memory c2.memory later1 later2)
                  (λ k less. kept2 k (omega (arith, less)) ∙ kept1 k less) (kept2 d (omega arith) ∙ temp) o goes);
            }))
            (λ v o.
            thin_same p.world p.program n sb m1 c1.memory v (c1.temps d) indices (meaning.statements (put ca (put end rest)) next c1) o
            (λ null b. stuck_same p.world p.program n _) (λ t byte pointer full leads. stuck_same p.world p.program n _))
            (λ birth shown shape_is. stuck_same p.world p.program n _)
            (λ birth is. stuck_same p.world p.program n _)
            (λ v o.
            fat_same p.world p.program n sb m1 c1.memory v (c1.temps d) (c1.temps (d + 1)) (c1.temps (d + 2)) indices
            (meaning.statements (put ca (put end rest)) next c1) o (λ null. stuck_same p.world p.program n _)
            (λ span byte pointer. stuck_same p.world p.program n _));
      }));
}
