-- A thin pointer becomes a fat one: to one element, or NULL.
use Rattle.std.proofs.Common.{◌≡◌, ⊎_elim, inl, inr, ℕ, ◌+◌, ◌<◌, List, [], ◌∷◌, Bool, true, false, Some, None, refl, sym, ◌∙◌, subst, ◌≤◌}
use Rattle.std.proofs.Common.{arith}
use Rattle.std.proofs.lemmas.Bool.{false≢true}
use Rattle.std.proofs.Common.{◌^◌, ◌%◌}
use Rattle.core_meaning.specs.Core.{If}
use Rattle.core_meaning.specs.Memory as core
use Rattle.source_lowering.specs.Lowered.{all_of}
use Rattle.source_lowering.specs.Memories.{LeadsAll}
use Rattle.std.proofs.Common.{ap}
use Rattle.source_meaning.specs.Shapes.{count_of}
use Rattle.source_meaning.specs.Shapes.{Reach, MayBeNull, NeverNull, may_be_null}
use Rattle.source_meaning.specs.Shapes.{Owner, Shape, ThinShape, FatShape, same_shape}
use Rattle.source_meaning.specs.Memory as source
use Rattle.source_meaning.specs.Memory.{Scalar, Thin, Wide, Spot, Span}
use Rattle.source_meaning.specs.Steps as steps
use Rattle.source_meaning.specs.Conversions.{converted}
use Rattle.core_meaning.specs.Memory.{Content, Word, Null, Pointer}
use Rattle.core_meaning.specs.Core.{Constant, Do, Statements}
use Rattle.core_meaning.specs.Steps as core_steps
use Rattle.core_meaning.specs.Steps.{Config, with_temp}
use Rattle.core_meaning.specs.Meaning as meaning
use Rattle.source_lowering.specs.Lowered.{put, to_fat_code}
use Rattle.source_lowering.specs.Simulation.{at, ANull, IsTakenObject, APointer, Point, SameState, SameAt, Next, AreKept, GrownAt, GoesOn}
use Rattle.source_lowering.proofs.Runs.{stuck_same}
use Rattle.source_lowering.proofs.values.Integers.{null_is, pointer_is}
use Rattle.source_lowering.proofs.memory.SameShapes.{shapes_same}
use Rattle.source_lowering.proofs.values.Values.{put_temp, other_temp, kept_temp, temp_fits, over}
use Rattle.source_lowering.proofs.values.NumberConversions.{ConvertsAs}
use Rattle.source_lowering.proofs.values.ThinConversions.{thin_value}
use Rattle.source_lowering.proofs.expressions.Elements.{AreThree, these_three}

-- ---- the count and the index

-- Core after them
abbrev pub bounded : Config → (d count : ℕ) → Config
bounded c d count = with_temp (d + 2) (Word 0) (with_temp (d + 1) (Word count) c)

pub bounded_three : (c : Config) (d count : ℕ) (x : Content) → c.temps d ≡ x → AreThree (bounded c d count) d x (Word count) (Word 0)
bounded_three c d count x temp = record {
  pointer = other_temp (d + 2) d (Word 0) (with_temp (d + 1) (Word count) c) (omega arith) ∙ other_temp (d + 1) d (Word count) c (omega arith) ∙ temp;
  count = other_temp (d + 2) (d + 1) (Word 0) (with_temp (d + 1) (Word count) c) (omega arith) ∙ put_temp (d + 1) (Word count) c;
  index = put_temp (d + 2) (Word 0) (with_temp (d + 1) (Word count) c);
}

pub bounded_fits : (p : Point) (m : source.Memory) (c : Config) (d count : ℕ) → SameState p m c → p.regions.all ≤ d → SameState p m (bounded c d count)
bounded_fits p m c d count fits above =
    temp_fits p m (with_temp (d + 1) (Word count) c) (d + 2) (Word 0) (temp_fits p m c (d + 1) (Word count) fits (over above (omega arith)))
    (over above (omega arith))

pub bounded_kept : (c0 c : Config) (d count : ℕ) → AreKept d c0 c → AreKept d c0 (bounded c d count)
bounded_kept c0 c d count kept =
    kept_temp d (d + 2) (Word 0) c0 (with_temp (d + 1) (Word count) c) (omega arith) (kept_temp d (d + 1) (Word count) c0 c (omega arith) kept)

-- by whether the pointer is NULL
null_counted : (c : Config) (d count : ℕ) (rest : Statements) (next : Next) → c.temps d ≡ Null
    → meaning.statements (put (If d (all_of (Do (Constant (d + 1) count) ∷ [])) (all_of (Do (Constant (d + 1) 0) ∷ [])) ∷ Do (Constant (d + 2) 0) ∷ [])
    rest) next c
    ≡ meaning.statements rest next (bounded c d 0)
null_counted c d count rest next null = rw null refl

spot_counted : (c : Config) (d count byte : ℕ) (t : core.Spot) (rest : Statements) (next : Next) → count < 2 ^ 32 → c.temps d ≡ Pointer t byte
    → meaning.statements (put (If d (all_of (Do (Constant (d + 1) count) ∷ [])) (all_of (Do (Constant (d + 1) 0) ∷ [])) ∷ Do (Constant (d + 2) 0) ∷ [])
    rest) next c
    ≡ meaning.statements rest next (bounded c d count)
spot_counted c d count byte t rest next few pointer =
    let small : count % 2 ^ 32 ≡ count = omega (arith, few) in
    rw pointer (ap (λ z. meaning.statements rest next (with_temp (d + 2) (Word 0) (with_temp (d + 1) (Word z) c))) small)

-- ---- values

-- so many elements
these_elements : (p : Point) (n d count : ℕ) (to : Shape) (m0 : source.Memory) (c0 : Config) (m : source.Memory) (c : Config) (t : Spot) (byte : ℕ)
    (s : List Scalar → source.Memory → steps.Step) (k : Config → core_steps.Step) → SameState p m c → GrownAt p m0 c0 m c → AreKept d c0 c
    → c.temps d ≡ Pointer (at t) byte → IsTakenObject p.world to → count < 2 ^ 32 → LeadsAll p.world m c.memory to count t byte
    → GoesOn p n d m0 c0 (FatShape to) s k
    → SameAt p n (s (Wide (Some (record { first = t; count = count; index = 0 })) ∷ []) m) (k (bounded c d count))
these_elements p n d count to m0 c0 m c t byte s k fits later kept temp lies few leads goes =
    goes.go m (bounded c d count) (Wide (Some span) ∷ []) (bounded_fits p m c d count fits goes.above) later (bounded_kept c0 c d count kept) (inl (record {
      value = Wide (Some span);
      alone = refl;
      shown = inr (record {
        span = span;
        byte = byte;
        value = refl;
        shown = these_three (bounded c d count) d to (Pointer (at t) byte) (Word count) (Word 0) (bounded_three c d count (Pointer (at t) byte) temp);
        small = omega arith;
        few = few;
        lies = lies;
        leads = leads;
      });
    }))
  where
    span : Span
    span = record { first = t; count = count; index = 0 }

-- none, of NULL
no_element : (p : Point) (n d : ℕ) (to : Shape) (m0 : source.Memory) (c0 : Config) (m : source.Memory) (c : Config)
    (s : List Scalar → source.Memory → steps.Step) (k : Config → core_steps.Step) → SameState p m c → GrownAt p m0 c0 m c → AreKept d c0 c
    → c.temps d ≡ Null → GoesOn p n d m0 c0 (FatShape to) s k → SameAt p n (s (Wide None ∷ []) m) (k (bounded c d 0))
no_element p n d to m0 c0 m c s k fits later kept temp goes =
    goes.go m (bounded c d 0) (Wide None ∷ []) (bounded_fits p m c d 0 fits goes.above) later (bounded_kept c0 c d 0 kept) (inl (record {
      value = Wide None;
      alone = refl;
      shown = inl (record {
        word = 0;
        value = refl;
        shown = these_three (bounded c d 0) d to Null (Word 0) (Word 0) (bounded_three c d 0 Null temp);
        small = omega arith;
      });
    }))

-- ---- the conversion

pub widened : (p : Point) (n d : ℕ) (to : Shape) (b : Reach) (q : Owner) (from : Shape)
    → ConvertsAs p n d (FatShape to) (ThinShape b q from) (to_fat_code (ThinShape b q from) d)
widened p n d to b q from = record {
  same = λ m0 c0 m c vs s rest next fits later kept given goes.
      let v = thin_value p.world m c.memory b q from vs (c.temps d) given in
      let step : core_steps.Step = meaning.statements (put (to_fat_code (ThinShape b q from) d) rest) next c in
      subst (λ z. SameAt p n (converted p.world (FatShape to) (ThinShape b q from) z s m) step) (sym v.alone)
      (⊎_elim
      (λ (z : ANull b v.value (c.temps d ∷ [])).
      subst (λ u. SameAt p n (converted p.world (FatShape to) (ThinShape b q from) (u ∷ []) s m) step) (sym z.value)
      (null b z.allowed m0 c0 m c s rest next fits later kept (null_is (c.temps d) b v.value z) goes))
      (λ (z : APointer p.world m c.memory (count_of b) q from v.value (c.temps d ∷ [])).
      subst (λ u. SameAt p n (converted p.world (FatShape to) (ThinShape b q from) (u ∷ []) s m) step) (sym z.value)
      (checked (same_shape to from) refl m0 c0 m c z.spot z.byte s rest next fits later kept (pointer_is p.world m c.memory q from (c.temps d) v.value z)
      z.lies z.few
      z.elements goes))
      v.shown);
}
  where
    -- what Core has then
    spot_done : (a : Reach) (c : Config) (t : Spot) (byte : ℕ) (m0 : source.Memory) (c0 : Config) (m : source.Memory)
        (s : List Scalar → source.Memory → steps.Step) (rest : Statements) (next : Next) → SameState p m c → GrownAt p m0 c0 m c → AreKept d c0 c
        → c.temps d ≡ Pointer (at t) byte → IsTakenObject p.world to → count_of a < 2 ^ 32 → LeadsAll p.world m c.memory to (count_of a) t byte
        → GoesOn p n d m0 c0 (FatShape to) s (meaning.statements rest next)
        → SameAt p n (s (Wide (Some (record { first = t; count = count_of a; index = 0 })) ∷ []) m)
        (meaning.statements (put (to_fat_code (ThinShape a q from) d) rest) next c)
    spot_done (NeverNull j) c t byte m0 c0 m s rest next fits later kept temp lies few leads goes =
        let small : (j % 2 ^ 32) % 2 ^ 32 ≡ j % 2 ^ 32 = omega (arith, few) in
        subst (λ u. SameAt p n (s (Wide (Some (record { first = t; count = j % 2 ^ 32; index = 0 })) ∷ []) m)
        (meaning.statements rest next (with_temp (d + 2) (Word 0) (with_temp (d + 1) (Word u) c)))) (sym small)
        (these_elements p n d (j % 2 ^ 32) to m0 c0 m c t byte s (meaning.statements rest next) fits later kept temp lies few leads goes)
    spot_done (MayBeNull j) c t byte m0 c0 m s rest next fits later kept temp lies few leads goes =
        subst (λ u. SameAt p n (s (Wide (Some (record { first = t; count = j % 2 ^ 32; index = 0 })) ∷ []) m) u)
        (sym (spot_counted c d (j % 2 ^ 32) byte (at t) rest next few temp))
        (these_elements p n d (j % 2 ^ 32) to m0 c0 m c t byte s (meaning.statements rest next) fits later kept temp lies few leads goes)

    null : (a : Reach) → may_be_null a ≡ true → (m0 : source.Memory) (c0 : Config) (m : source.Memory) (c : Config) (s : List Scalar → source.Memory
        → steps.Step)
        (rest : Statements) (next : Next) → SameState p m c → GrownAt p m0 c0 m c → AreKept d c0 c → c.temps d ≡ Null
        → GoesOn p n d m0 c0 (FatShape to) s (meaning.statements rest next)
        → SameAt p n (s (Wide None ∷ []) m) (meaning.statements (put (to_fat_code (ThinShape a q from) d) rest) next c)
    null (NeverNull j) allowed m0 c0 m c s rest next fits later kept temp goes = absurd (false≢true allowed)
    null (MayBeNull j) allowed m0 c0 m c s rest next fits later kept temp goes =
        subst (λ u. SameAt p n (s (Wide None ∷ []) m) u) (sym (null_counted c d (j % 2 ^ 32) rest next temp))
        (no_element p n d to m0 c0 m c s (meaning.statements rest next) fits later kept temp goes)

    checked : (e : Bool) → same_shape to from ≡ e → (m0 : source.Memory) (c0 : Config) (m : source.Memory) (c : Config) (t : Spot) (byte : ℕ)
        (s : List Scalar → source.Memory → steps.Step) (rest : Statements) (next : Next) → SameState p m c → GrownAt p m0 c0 m c → AreKept d c0 c
        → c.temps d ≡ Pointer (at t) byte → IsTakenObject p.world from → count_of b < 2 ^ 32
        → LeadsAll p.world m c.memory from (count_of b) t byte
        → GoesOn p n d m0 c0 (FatShape to) s (meaning.statements rest next)
        → SameAt p n (converted p.world (FatShape to) (ThinShape b q from) (Thin (Some t) ∷ []) s m)
        (meaning.statements (put (to_fat_code (ThinShape b q from) d) rest) next c)
    checked false e m0 c0 m c t byte s rest next fits later kept temp lies few leads goes = rw e (stuck_same p.world p.program n _)
    checked true e m0 c0 m c t byte s rest next fits later kept temp lies few leads goes =
        let same : from ≡ to = sym (shapes_same to from e) in
        rw e
        (spot_done b c t byte m0 c0 m s rest next fits later kept temp (subst (λ y. IsTakenObject p.world y) same lies) few
        (subst (λ y. LeadsAll p.world m c.memory y (count_of b) t byte) same leads) goes)
