-- Thin pointers become fat ones, and fat ones thin.
use Rattle.std.proofs.Common.{◌≡◌, ⊎_elim, inl, inr, ℕ, ◌<◌, List, [], ◌∷◌, length, Bool, true, false, Option, Some, None, refl, sym, ap, ◌∙◌, subst}
use Rattle.std.specs.Prelude.{◌&&◌}
use Rattle.std.proofs.lemmas.Bool.{and_parts, false≢true}
use Rattle.cyc_words.specs.Events.{SourceEnding}
use Rattle.std.proofs.Common.{◌^◌, ◌%◌}
use Rattle.cyc_words.specs.declared.faults.Kind.TheVariants.{NullException}
use Rattle.std.specs.Prelude.{◌-◌}
use Rattle.source_lowering.proofs.values.Operators.{modulo_small}
use Rattle.std.proofs.Common.{◌⊎◌}
use Rattle.source_meaning.specs.Shapes.{count_of}
use Rattle.source_lowering.specs.Operators.{enough_code}
use Rattle.source_meaning.specs.Shapes.{Reach, MayBeNull, NeverNull}
use Rattle.source_meaning.specs.Shapes.{Owner, Shared, Alone, Unsaid, Shape, VoidShape, ThinShape, FatShape, goes_to, same_shape}
use Rattle.source_meaning.specs.Memory as source
use Rattle.source_meaning.specs.Memory.{Scalar, Thin, Wide, Spot, Span}
use Rattle.source_meaning.specs.Steps as steps
use Rattle.source_meaning.specs.Steps.{World}
use Rattle.source_meaning.specs.Conversions.{cells_of, size_of, converted, fat_to_thin}
use Rattle.core_meaning.specs.Memory as core
use Rattle.core_meaning.specs.Memory.{Content, Word, Null, Pointer}
use Rattle.core_meaning.specs.Core.{Statement, Statements, NoStatements}
use Rattle.core_meaning.specs.Steps as core_steps
use Rattle.core_meaning.specs.Steps.{Config}
use Rattle.core_meaning.specs.Meaning as meaning
use Rattle.source_lowering.specs.Lowered.{put, to_thin_code}
use Rattle.source_lowering.specs.Simulation.{at, AFatNull, AFat, IsOwned, Point, SameState, SameAt, Next, AreKept, GrownAt, AValue, ANothing, Given}
use Rattle.source_lowering.specs.Simulation.{GoesOn, contents_in}
use Rattle.source_lowering.proofs.Runs.{stuck_same, stops_same}
use Rattle.source_lowering.proofs.memory.SameShapes.{shapes_same}
use Rattle.source_lowering.proofs.values.NumberConversions.{ConvertsAs}
use Rattle.source_lowering.proofs.expressions.Elements.{three_are}
use Rattle.source_lowering.proofs.values.Enough.{bounded_same}

-- ---- values

fat_void : (to : Shape) → FatShape to ≡ VoidShape → ⊥
fat_void to e = cc e

-- what is given of a fat pointer's shape is a value
pub fat_value : (w : World) (m : source.Memory) (c : core.Memory) (to : Shape) (vs : List Scalar) (cs : List Content) → Given w m c (FatShape to) vs cs
    → AValue w m c (FatShape to) vs cs
fat_value w m c to vs cs given =
    ⊎_elim (λ (v : AValue w m c (FatShape to) vs cs). v) (λ (v : ANothing (FatShape to) vs). absurd (fat_void to v.void)) given

abbrev span_in : Span → Scalar → Span
span_in y (Wide (Some x)) = x
span_in y (Wide None) = y
span_in y _ = y

-- no fat pointer becomes unique
owned_fat : (o : Owner) (from : Shape) (c : core.Memory) → goes_to o (FatShape from) ≡ true → (t : Spot) (byte : ℕ) → IsOwned o c t byte
owned_fat Alone from c e t byte = absurd (false≢true e)
owned_fat Shared from c e t byte = tt
owned_fat Unsaid from c e t byte = tt

-- the source is stuck at each fat pointer
pub stuck_fat : (p : Point) (n d : ℕ) (to from : Shape) (code : List Statement)
    → ((q : Option Span) (s : List Scalar → source.Memory → steps.Step) (m : source.Memory) (k : core_steps.Step)
    → SameAt p n (converted p.world to (FatShape from) (Wide q ∷ []) s m) k) → ConvertsAs p n d to (FatShape from) code
stuck_fat p n d to from code stuck = record {
  same = λ m0 c0 m c vs s rest next fits later kept given goes.
      let cs : List Content = contents_in d (FatShape from) c.temps in
      let v = fat_value p.world m c.memory from vs cs given in
      let step : core_steps.Step = meaning.statements (put code rest) next c in
      subst (λ z. SameAt p n (converted p.world to (FatShape from) z s m) step) (sym v.alone)
      (⊎_elim
      (λ (z : AFatNull v.value cs).
      subst (λ u. SameAt p n (converted p.world to (FatShape from) (u ∷ []) s m) step) (sym z.value) (stuck None s m step))
      (λ (z : AFat p.world m c.memory from (size_of p.world from) v.value cs).
      subst (λ u. SameAt p n (converted p.world to (FatShape from) (u ∷ []) s m) step) (sym z.value) (stuck (Some z.span) s m step))
      v.shown);
}

-- ---- fat to thin

few_words : (b : Reach) → count_of b < 2 ^ 32
few_words (MayBeNull count) = modulo_small count
few_words (NeverNull count) = modulo_small count

-- what comes after the branch
abbrev behind_branch : Statements → Next → Next
behind_branch rest next exit = meaning.falls_to exit (meaning.statements rest next) next

null_code_same : (p : Point) (n d : ℕ) (b : Reach) (o : Owner) (to : Shape) (m0 : source.Memory) (c0 : Config) (m : source.Memory) (c : Config)
    (s : List Scalar → source.Memory → steps.Step) (rest : Statements) (next : Next) → c.temps d ≡ Null → SameState p m c → GrownAt p m0 c0 m c → AreKept d c0 c
    → GoesOn p n d m0 c0 (ThinShape b o to) s (meaning.statements rest next)
    → (cells : ℕ) → SameAt p n (fat_to_thin b cells None (λ r. s (r ∷ [])) m) (meaning.statements (put (to_thin_code p.world b to d) rest) next c)
null_code_same p n d (MayBeNull count) o to m0 c0 m c s rest next null fits later kept goes cells =
    rw null (goes.go m c (Thin None ∷ []) fits later kept (inl (record {
      value = Thin None;
      alone = refl;
      shown = inl (record { allowed = refl; value = refl; shown = ap (λ z. z ∷ []) null });
    })))
null_code_same p n d (NeverNull count) o to m0 c0 m c s rest next null fits later kept goes cells =
    rw null (stops_same p.world p.program n (SourceEnding.Raised NullException))

branch_entered : (w : World) (count : ℕ) (to : Shape) (d byte : ℕ) (t : core.Spot) (c : Config) (rest : Statements) (next : Next) → c.temps d ≡ Pointer t byte
    → meaning.statements (put (to_thin_code w (MayBeNull count) to d) rest) next c
    ≡ meaning.statements (put (enough_code w (count % 2 ^ 32) to d) NoStatements) (behind_branch rest next) c
branch_entered w count to d byte t c rest next pointer = rw pointer refl

check_passed : (w : World) (count : ℕ) (to : Shape) (d byte : ℕ) (t : core.Spot) (c : Config) (rest : Statements) (next : Next) → c.temps d ≡ Pointer t byte
    → meaning.statements (put (to_thin_code w (NeverNull count) to d) rest) next c
    ≡ meaning.statements (put (enough_code w (count % 2 ^ 32) to d) rest) next c
check_passed w count to d byte t c rest next pointer = rw pointer refl

span_code_same : (p : Point) (n d : ℕ) (b : Reach) (o : Owner) (to : Shape) (m0 : source.Memory) (c0 : Config) (m : source.Memory) (c : Config) (v : Scalar)
    (s : List Scalar → source.Memory → steps.Step) (rest : Statements) (next : Next) → SameState p m c → GrownAt p m0 c0 m c → AreKept d c0 c
    → ((t : Spot) (byte : ℕ) → IsOwned o c.memory t byte) → GoesOn p n d m0 c0 (ThinShape b o to) s (meaning.statements rest next)
    → (z : AFat p.world m c.memory to (size_of p.world to) v (contents_in d (FatShape to) c.temps))
    → SameAt p n (fat_to_thin b (length (cells_of p.world to)) (Some z.span) (λ r. s (r ∷ [])) m)
    (meaning.statements (put (to_thin_code p.world b to d) rest) next c)
span_code_same p n d (MayBeNull count) o to m0 c0 m c v s rest next fits later kept owned goes z =
    let pointer = (three_are c d to (Pointer (at z.span.first) z.byte) (Word z.span.count) (Word z.span.index) z.shown).pointer in
    subst (λ u. SameAt p n (fat_to_thin (MayBeNull count) (length (cells_of p.world to)) (Some z.span) (λ r. s (r ∷ [])) m) u)
    (sym (branch_entered p.world count to d z.byte (at z.span.first) c rest next pointer))
    (bounded_same p n d (MayBeNull count) o to m0 c0 m c v s NoStatements (behind_branch rest next) (meaning.statements rest next) fits later kept owned goes
    (λ x. refl) (few_words (MayBeNull count)) z)
span_code_same p n d (NeverNull count) o to m0 c0 m c v s rest next fits later kept owned goes z =
    let pointer = (three_are c d to (Pointer (at z.span.first) z.byte) (Word z.span.count) (Word z.span.index) z.shown).pointer in
    subst (λ u. SameAt p n (fat_to_thin (NeverNull count) (length (cells_of p.world to)) (Some z.span) (λ r. s (r ∷ [])) m) u)
    (sym (check_passed p.world count to d z.byte (at z.span.first) c rest next pointer))
    (bounded_same p n d (NeverNull count) o to m0 c0 m c v s rest next (meaning.statements rest next) fits later kept owned goes
    (λ x. refl) (few_words (NeverNull count)) z)

pub to_thin : (p : Point) (n d : ℕ) (b : Reach) (o : Owner) (to from : Shape)
    → ConvertsAs p n d (ThinShape b o to) (FatShape from) (to_thin_code p.world b to d)
to_thin p n d b o to from = record {
  same = λ m0 c0 m c vs s rest next fits later kept given goes.
      let v = fat_value p.world m c.memory from vs (contents_in d (FatShape from) c.temps) given in
      let step : core_steps.Step = meaning.statements (put (to_thin_code p.world b to d) rest) next c in
      subst (λ z. SameAt p n (converted p.world (ThinShape b o to) (FatShape from) z s m) step) (sym v.alone)
      (⊎_elim
      (λ (z : AFatNull v.value (contents_in d (FatShape from) c.temps)).
      subst (λ u. SameAt p n (converted p.world (ThinShape b o to) (FatShape from) (u ∷ []) s m) step) (sym z.value)
      (null_code_same p n d b o to m0 c0 m c s rest next (three_are c d from Null (Word 0) (Word z.word) z.shown).pointer fits later kept goes
      (length (cells_of p.world to))))
      (λ (z : AFat p.world m c.memory from (size_of p.world from) v.value (contents_in d (FatShape from) c.temps)).
      subst (λ u. SameAt p n (converted p.world (ThinShape b o to) (FatShape from) (u ∷ []) s m) step) (sym z.value)
      (checked (goes_to o (FatShape from) && same_shape to from) refl m0 c0 m c v.value s rest next fits later kept goes z))
      v.shown);
}
  where
    checked : (x : Bool) → (goes_to o (FatShape from) && same_shape to from) ≡ x → (m0 : source.Memory) (c0 : Config) (m : source.Memory) (c : Config)
        (v : Scalar)
        (s : List Scalar → source.Memory → steps.Step) (rest : Statements) (next : Next) → SameState p m c → GrownAt p m0 c0 m c → AreKept d c0 c
        → GoesOn p n d m0 c0 (ThinShape b o to) s (meaning.statements rest next)
        → (z : AFat p.world m c.memory from (size_of p.world from) v (contents_in d (FatShape from) c.temps))
        → SameAt p n (converted p.world (ThinShape b o to) (FatShape from) (Wide (Some z.span) ∷ []) s m)
        (meaning.statements (put (to_thin_code p.world b to d) rest) next c)
    checked false e m0 c0 m c v s rest next fits later kept goes z = rw e (stuck_same p.world p.program n _)
    checked true e m0 c0 m c v s rest next fits later kept goes z =
        let both = and_parts (goes_to o (FatShape from)) (same_shape to from) e in
        let same : from ≡ to = sym (shapes_same to from both.1) in
        let y : AFat p.world m c.memory to (size_of p.world to) v (contents_in d (FatShape to) c.temps) =
        subst (λ y. AFat p.world m c.memory y (size_of p.world y) v (contents_in d (FatShape to) c.temps)) same z in
        let whole : y.span ≡ z.span = ap (span_in z.span) (sym y.value ∙ z.value) in
        rw e
        (subst (λ u. SameAt p n (fat_to_thin b (length (cells_of p.world to)) (Some u) (λ r. s (r ∷ [])) m)
        (meaning.statements (put (to_thin_code p.world b to d) rest) next c)) whole
        (span_code_same p n d b o to m0 c0 m c v s rest next fits later kept (owned_fat o from c.memory both.0) goes y))

-- ---- fat to fat

pub fat_stays : (p : Point) (n d : ℕ) (to from : Shape) → ConvertsAs p n d (FatShape to) (FatShape from) []
fat_stays p n d to from = record {
  same = λ m0 c0 m c vs s rest next fits later kept given goes.
      let cs : List Content = contents_in d (FatShape from) c.temps in
      let v = fat_value p.world m c.memory from vs cs given in
      let step : core_steps.Step = meaning.statements rest next c in
      subst (λ z. SameAt p n (converted p.world (FatShape to) (FatShape from) z s m) step) (sym v.alone)
      (⊎_elim
      (λ (z : AFatNull v.value cs).
      subst (λ u. SameAt p n (converted p.world (FatShape to) (FatShape from) (u ∷ []) s m) step) (sym z.value)
      (goes.go m c (Wide None ∷ []) fits later kept (inl (record {
        value = Wide None;
        alone = refl;
        shown = inl (record { word = z.word; value = refl; shown = z.shown; small = z.small });
      }))))
      (λ (z : AFat p.world m c.memory from (size_of p.world from) v.value cs).
      subst (λ u. SameAt p n (converted p.world (FatShape to) (FatShape from) (u ∷ []) s m) step) (sym z.value)
      (checked (same_shape to from) refl m0 c0 m c z.span s rest next fits later kept
      (subst (λ u. AFat p.world m c.memory from (size_of p.world from) u cs) z.value z) goes))
      v.shown);
}
  where
    checked : (b : Bool) → same_shape to from ≡ b → (m0 : source.Memory) (c0 : Config) (m : source.Memory) (c : Config) (span : Span)
        (s : List Scalar → source.Memory → steps.Step) (rest : Statements) (next : Next) → SameState p m c → GrownAt p m0 c0 m c → AreKept d c0 c
        → AFat p.world m c.memory from (size_of p.world from) (Wide (Some span)) (contents_in d (FatShape from) c.temps)
        → GoesOn p n d m0 c0 (FatShape to) s (meaning.statements rest next)
        → SameAt p n (converted p.world (FatShape to) (FatShape from) (Wide (Some span) ∷ []) s m) (meaning.statements rest next c)
    checked false e m0 c0 m c span s rest next fits later kept z goes = rw e (stuck_same p.world p.program n _)
    checked true e m0 c0 m c span s rest next fits later kept z goes =
        let same : from ≡ to = sym (shapes_same to from e) in
        rw e
        (goes.go m c (Wide (Some span) ∷ []) fits later kept (inl (record {
          value = Wide (Some span);
          alone = refl;
          shown = inr (subst (λ y. AFat p.world m c.memory y (size_of p.world y) (Wide (Some span)) (contents_in d (FatShape to) c.temps)) same z);
        })))
