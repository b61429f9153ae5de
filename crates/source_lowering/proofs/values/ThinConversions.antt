-- A thin pointer, a handle or a key in a temporary is converted to another shape.
use Rattle.std.proofs.Common.{◌≡◌, ◌<◌, ◌≤◌, ◌^◌, ◌%◌, arith, Bool, true, false, Option, Some, None, ℕ, inl, inr, ⊎_elim, List, [], ◌∷◌, refl, sym, ap, subst}
use Rattle.std.specs.Prelude.{◌&&◌, nat_le}
use Rattle.std.proofs.lemmas.Bool.{and_parts, false≢true, leb-true}
use Rattle.cyc_words.specs.declared.faults.Kind.TheVariants.{NullException}
use Rattle.cyc_words.specs.Events.{SourceEnding}
use Rattle.source_meaning.specs.Shapes.{count_of}
use Rattle.source_meaning.specs.Shapes.{Reach, MayBeNull, NeverNull, may_be_null}
use Rattle.source_meaning.specs.Shapes.{Owner, Shared, Alone, Unsaid, same_shape, goes_to, Shape, IntShape, UnsignedShape, CharShape, VoidShape, ThinShape}
use Rattle.source_meaning.specs.Shapes.{FatShape, HandleShape, KeyShape, StructShape, UnionShape, ArrayShape}
use Rattle.source_meaning.specs.Memory as source
use Rattle.source_meaning.specs.Memory.{Scalar, Thin, HandleOf, KeyOf, Spot}
use Rattle.source_meaning.specs.Steps as steps
use Rattle.source_meaning.specs.Steps.{World}
use Rattle.source_meaning.specs.Conversions.{converted, thin_to_thin}
use Rattle.core_meaning.specs.Memory as core
use Rattle.core_meaning.specs.Memory.{Content, Null, Pointer}
use Rattle.core_meaning.specs.Core.{Statement, Statements}
use Rattle.core_meaning.specs.Steps as core_steps
use Rattle.core_meaning.specs.Steps.{Config}
use Rattle.core_meaning.specs.Meaning as meaning
use Rattle.source_lowering.specs.Lowered.{put, conversion_code}
use Rattle.source_lowering.specs.Members.{check_code}
use Rattle.source_lowering.specs.Lowerable.{IsThinShape, IsWordShape}
use Rattle.source_lowering.specs.Simulation.{at, Leads, LeadsAll, ANull, IsOwned, IsTakenObject, APointer, Point, SameAt, Next, AValue, ANothing, Given}
use Rattle.source_lowering.specs.Simulation.{contents_in}
use Rattle.source_lowering.proofs.Runs.{stuck_same, stops_same}
use Rattle.source_lowering.proofs.values.Integers.{birth_shape, null_is, pointer_is}
use Rattle.source_lowering.proofs.memory.SameShapes.{shapes_same}
use Rattle.source_lowering.proofs.values.NumberConversions.{ConvertsAs}

-- ---- pointers

thin_void : (b : Reach) (o : Owner) (to : Shape) → ThinShape b o to ≡ VoidShape → ⊥
thin_void b o to e = cc e

-- what is given of a pointer's shape is a value
pub thin_value : (w : World) (m : source.Memory) (c : core.Memory) (b : Reach) (o : Owner) (to : Shape) (vs : List Scalar) (x : Content)
    → Given w m c (ThinShape b o to) vs (x ∷ []) → AValue w m c (ThinShape b o to) vs (x ∷ [])
thin_value w m c b o to vs x given =
    ⊎_elim (λ (v : AValue w m c (ThinShape b o to) vs (x ∷ [])). v) (λ (v : ANothing (ThinShape b o to) vs). absurd (thin_void b o to v.void)) given

-- the source is stuck at each pointer
pub stuck_pointer : (p : Point) (n : ℕ) (to : Shape) (b : Reach) (o : Owner) (from : Shape) (m : source.Memory) (c : core.Memory) (vs : List Scalar)
    (x : Content) (s : List Scalar → source.Memory → steps.Step) (k : core_steps.Step)
    → ((q : Option Spot) (s : List Scalar → source.Memory → steps.Step) (m : source.Memory) (k : core_steps.Step)
    → SameAt p n (converted p.world to (ThinShape b o from) (Thin q ∷ []) s m) k) → Given p.world m c (ThinShape b o from) vs (x ∷ [])
    → SameAt p n (converted p.world to (ThinShape b o from) vs s m) k
stuck_pointer p n to b o from m c vs x s k stuck given =
    let v = thin_value p.world m c b o from vs x given in
    subst (λ z. SameAt p n (converted p.world to (ThinShape b o from) z s m) k) (sym v.alone)
    (⊎_elim
    (λ (z : ANull b v.value (x ∷ [])).
    subst (λ u. SameAt p n (converted p.world to (ThinShape b o from) (u ∷ []) s m) k) (sym z.value) (stuck None s m k))
    (λ (z : APointer p.world m c (count_of b) o from v.value (x ∷ [])).
    subst (λ u. SameAt p n (converted p.world to (ThinShape b o from) (u ∷ []) s m) k) (sym z.value) (stuck (Some z.spot) s m k))
    v.shown)

pub stuck_thin : (p : Point) (n d : ℕ) (to : Shape) (b : Reach) (o : Owner) (from : Shape) (code : List Statement)
    → ((q : Option Spot) (s : List Scalar → source.Memory → steps.Step) (m : source.Memory) (k : core_steps.Step)
    → SameAt p n (converted p.world to (ThinShape b o from) (Thin q ∷ []) s m) k) → ConvertsAs p n d to (ThinShape b o from) code
stuck_thin p n d to b o from code stuck = record {
  same = λ m0 c0 m c vs s rest next fits later kept given goes.
      stuck_pointer p n to b o from m c.memory vs (c.temps d) s (meaning.statements (put code rest) next c) stuck given;
}

null_word : (c : Config) (d : ℕ) (b : Reach) (v : Scalar) → ANull b v (c.temps d ∷ []) → c.temps d ≡ Null
null_word c d b v z = null_is (c.temps d) b v z

-- what comes after where nothing changes but the value
abbrev pub StaysOn : Point → (n d : ℕ) → Shape → source.Memory → Config → (List Scalar → source.Memory → steps.Step) → core_steps.Step → Type 0
StaysOn p n d shape m c s k = (vs : List Scalar) → Given p.world m c.memory shape vs (contents_in d shape c.temps) → SameAt p n (s vs m) k

-- NULL stays NULL, or raises
null_converts : (p : Point) (n d : ℕ) (a b : Reach) (o q : Owner) (to from : Shape) (m : source.Memory) (c : Config)
    (s : List Scalar → source.Memory → steps.Step) (rest : Statements) (next : Next) → may_be_null b ≡ true → c.temps d ≡ Null
    → StaysOn p n d (ThinShape a o to) m c s (meaning.statements rest next c)
    → SameAt p n (thin_to_thin a (count_of b) None (λ r. s (r ∷ [])) m)
    (meaning.statements (put (conversion_code p.world (ThinShape a o to) (ThinShape b q from) d) rest) next c)
null_converts p n d (MayBeNull count) b o q to from m c s rest next allowed null go =
    go (Thin None ∷ []) (inl (record {
      value = Thin None;
      alone = refl;
      shown = inl (record { allowed = refl; value = refl; shown = ap (λ z. z ∷ []) null });
    }))
null_converts p n d (NeverNull count) (MayBeNull j) o q to from m c s rest next allowed null go =
    rw null (stops_same p.world p.program n (SourceEnding.Raised NullException))
null_converts p n d (NeverNull count) (NeverNull j) o q to from m c s rest next allowed null go = absurd (false≢true allowed)

-- what is unique was so before
owned_goes : (o q : Owner) (b : Reach) (from : Shape) (c : core.Memory) (t : Spot) (byte : ℕ) → goes_to o (ThinShape b q from) ≡ true → IsOwned q c t byte
    → IsOwned o c t byte
owned_goes Alone Alone b from c t byte e h = h
owned_goes Alone Shared b from c t byte e h = absurd (false≢true e)
owned_goes Alone Unsaid b from c t byte e h = absurd (false≢true e)
owned_goes Shared q b from c t byte e h = tt
owned_goes Unsaid q b from c t byte e h = tt

-- another pointer stays as it is
spot_converts : (p : Point) (n d : ℕ) (a b : Reach) (o q : Owner) (to from : Shape) (m : source.Memory) (c : Config)
    (t : Spot) (byte : ℕ) (s : List Scalar → source.Memory → steps.Step) (rest : Statements) (next : Next)
    → c.temps d ≡ Pointer (at t) byte → IsTakenObject p.world to → Leads p.world m c.memory to t byte → count_of b < 2 ^ 32
    → LeadsAll p.world m c.memory to (count_of b) t byte
    → IsOwned o c.memory t byte → StaysOn p n d (ThinShape a o to) m c s (meaning.statements rest next c)
    → SameAt p n (thin_to_thin a (count_of b) (Some t) (λ r. s (r ∷ [])) m)
    (meaning.statements (put (conversion_code p.world (ThinShape a o to) (ThinShape b q from) d) rest)
    next c)
spot_converts p n d a b o q to from m c t byte s rest next temp full leads few elements owned go = by a (nat_le (count_of a) (count_of b)) refl go
  where
    there : (x : Reach) → count_of x ≤ count_of b → StaysOn p n d (ThinShape x o to) m c s (meaning.statements rest next c)
        → SameAt p n (s (Thin (Some t) ∷ []) m) (meaning.statements rest next c)
    there x fewer on = on (Thin (Some t) ∷ []) (inl (record {
      value = Thin (Some t);
      alone = refl;
      shown = inr (record {
        spot = t;
        byte = byte;
        value = refl;
        shown = ap (λ z. z ∷ []) temp;
        lies = full;
        leads = leads;
        few = omega (arith, fewer, few);
        elements = λ k less. elements k (omega (arith, fewer, less));
        owned = owned;
      });
    }))

    none : (y : Reach) → c.temps d ≡ Pointer (at t) byte
        → meaning.statements (put (check_code (ThinShape y q from) d) rest) next c ≡ meaning.statements rest next c
    none (MayBeNull j) e = rw e refl
    none (NeverNull j) e = refl

    by : (x : Reach) (enough : Bool) → nat_le (count_of x) (count_of b) ≡ enough
        → StaysOn p n d (ThinShape x o to) m c s (meaning.statements rest next c)
        → SameAt p n (thin_to_thin x (count_of b) (Some t) (λ r. s (r ∷ [])) m)
        (meaning.statements (put (conversion_code p.world (ThinShape x o to) (ThinShape b q from) d) rest)
        next c)
    by (MayBeNull j) false e on = rw e (stuck_same p.world p.program n _)
    by (NeverNull j) false e on = rw e (stuck_same p.world p.program n _)
    by (MayBeNull j) true e on = rw e (there (MayBeNull j) (leb-true (j % 2 ^ 32) (count_of b) e) on)
    by (NeverNull j) true e on =
        rw e (subst (λ z. SameAt p n (s (Thin (Some t) ∷ []) m) z) (sym (none b temp)) (there (NeverNull j) (leb-true (j % 2 ^ 32) (count_of b) e) on))

pub thin_same : (p : Point) (n d : ℕ) (a b : Reach) (o q : Owner) (to from : Shape) (m : source.Memory) (c : Config) (vs : List Scalar)
    (s : List Scalar → source.Memory → steps.Step) (rest : Statements) (next : Next) → Given p.world m c.memory (ThinShape b q from) vs (c.temps d ∷ [])
    → StaysOn p n d (ThinShape a o to) m c s (meaning.statements rest next c)
    → SameAt p n (converted p.world (ThinShape a o to) (ThinShape b q from) vs s m)
    (meaning.statements (put (conversion_code p.world (ThinShape a o to) (ThinShape b q from) d) rest) next c)
thin_same p n d a b o q to from m c vs s rest next given go =
    let v = thin_value p.world m c.memory b q from vs (c.temps d) given in
    subst (λ z. SameAt p n (converted p.world (ThinShape a o to) (ThinShape b q from) z s m) step) (sym v.alone)
    (⊎_elim
    (λ (z : ANull b v.value (c.temps d ∷ [])).
    subst (λ u. SameAt p n (converted p.world (ThinShape a o to) (ThinShape b q from) (u ∷ []) s m) step) (sym z.value)
    (null_converts p n d a b o q to from m c s rest next z.allowed (null_word c d b v.value z) go))
    (λ (z : APointer p.world m c.memory (count_of b) q from v.value (c.temps d ∷ [])).
    subst (λ u. SameAt p n (converted p.world (ThinShape a o to) (ThinShape b q from) (u ∷ []) s m) step) (sym z.value)
    (checked (goes_to o (ThinShape b q from) && same_shape to from) refl v.value z))
    v.shown)
  where
    step : core_steps.Step
    step = meaning.statements (put (conversion_code p.world (ThinShape a o to) (ThinShape b q from) d) rest) next c

    checked : (t : Bool) → (goes_to o (ThinShape b q from) && same_shape to from) ≡ t → (v : Scalar)
        → (z : APointer p.world m c.memory (count_of b) q from v (c.temps d ∷ []))
        → SameAt p n (converted p.world (ThinShape a o to) (ThinShape b q from) (Thin (Some z.spot) ∷ []) s m) step
    checked false e v z = rw e (stuck_same p.world p.program n _)
    checked true e v z =
        let same : from ≡ to = sym (shapes_same to from ((and_parts (goes_to o (ThinShape b q from)) (same_shape to from) e).1)) in
        rw e
        (spot_converts p n d a b o q to from m c z.spot z.byte s rest next (pointer_is p.world m c.memory q from (c.temps d) v z)
        (subst (λ y. IsTakenObject p.world y) same z.lies) (subst (λ y. Leads p.world m c.memory y z.spot z.byte) same z.leads) z.few
        (subst (λ y. LeadsAll p.world m c.memory y (count_of b) z.spot z.byte) same z.elements)
        (owned_goes o q b from c.memory z.spot z.byte (and_parts (goes_to o (ThinShape b q from)) (same_shape to from) e).0 z.owned) go)

pub thin_converts : (p : Point) (n d : ℕ) (a b : Reach) (o q : Owner) (to from : Shape) → ConvertsAs p n d (ThinShape a o to) (ThinShape b q from)
    (conversion_code p.world (ThinShape a o to) (ThinShape b q from) d)
thin_converts p n d a b o q to from = record {
  same = λ m0 c0 m c vs s rest next fits later kept given goes.
      thin_same p n d a b o q to from m c vs s rest next given (λ us known. goes.go m c us fits later kept known);
}

-- a thin pointer becomes a word, or the source is stuck
pub word_same : (p : Point) (n d : ℕ) (to from : Shape) → IsWordShape to → IsThinShape from → (m : source.Memory) (c : Config) (vs : List Scalar)
    (s : List Scalar → source.Memory → steps.Step) (rest : Statements) (next : Next) → Given p.world m c.memory from vs (contents_in d from c.temps)
    → StaysOn p n d to m c s (meaning.statements rest next c)
    → SameAt p n (converted p.world to from vs s m) (meaning.statements (put (conversion_code p.world to from d) rest) next c)
word_same p n d (ThinShape a o to) (ThinShape b q from) word thin m c vs s rest next given go = thin_same p n d a b o q to from m c vs s rest next given go
word_same p n d IntShape (ThinShape b q from) word thin m c vs s rest next given go =
    stuck_pointer p n IntShape b q from m c.memory vs (c.temps d) s _ (λ t s m k. stuck_same p.world p.program n k) given
word_same p n d UnsignedShape (ThinShape b q from) word thin m c vs s rest next given go =
    stuck_pointer p n UnsignedShape b q from m c.memory vs (c.temps d) s _ (λ t s m k. stuck_same p.world p.program n k) given
word_same p n d CharShape (ThinShape b q from) word thin m c vs s rest next given go =
    stuck_pointer p n CharShape b q from m c.memory vs (c.temps d) s _ (λ t s m k. stuck_same p.world p.program n k) given
word_same p n d HandleShape (ThinShape b q from) word thin m c vs s rest next given go =
    stuck_pointer p n HandleShape b q from m c.memory vs (c.temps d) s _ (λ t s m k. stuck_same p.world p.program n k) given
word_same p n d VoidShape (ThinShape b q from) word thin m c vs s rest next given go = absurd word
word_same p n d (FatShape to) (ThinShape b q from) word thin m c vs s rest next given go = absurd word
word_same p n d KeyShape (ThinShape b q from) word thin m c vs s rest next given go =
    stuck_pointer p n KeyShape b q from m c.memory vs (c.temps d) s _ (λ t s m k. stuck_same p.world p.program n k) given
word_same p n d (StructShape tag) (ThinShape b q from) word thin m c vs s rest next given go = absurd word
word_same p n d (UnionShape tag) (ThinShape b q from) word thin m c vs s rest next given go = absurd word
word_same p n d (ArrayShape count of) (ThinShape b q from) word thin m c vs s rest next given go = absurd word
word_same p n d to _ word thin m c vs s rest next given go = absurd thin

-- ---- handles and keys

-- what is given of a handle's or a key's shape is a value
pub birth_given : (key : Bool) (w : World) (m : source.Memory) (c : core.Memory) (vs : List Scalar) (x : Content) → Given w m c (birth_shape key) vs (x ∷ [])
    → AValue w m c (birth_shape key) vs (x ∷ [])
birth_given key w m c vs x given =
    ⊎_elim (λ (v : AValue w m c (birth_shape key) vs (x ∷ [])). v) (λ (v : ANothing (birth_shape key) vs). absurd (never_void key v.void)) given
  where
    never_void : (is_key : Bool) → birth_shape is_key ≡ VoidShape → ⊥
    never_void true e = cc e
    never_void false e = cc e

-- the source is stuck at each handle
pub stuck_handle : (p : Point) (n d : ℕ) (to : Shape) (code : List Statement)
    → ((b : ℕ) (s : List Scalar → source.Memory → steps.Step) (m : source.Memory) (k : core_steps.Step)
    → SameAt p n (converted p.world to HandleShape (HandleOf b ∷ []) s m) k) → ConvertsAs p n d to HandleShape code
stuck_handle p n d to code stuck = record {
  same = λ m0 c0 m c vs s rest next fits later kept given goes.
      let v = birth_given false p.world m c.memory vs (c.temps d) given in
      let step : core_steps.Step = meaning.statements (put code rest) next c in
      subst (λ z. SameAt p n (converted p.world to HandleShape z s m) step) (sym v.alone)
      (subst (λ u. SameAt p n (converted p.world to HandleShape (u ∷ []) s m) step) (sym v.shown.value) (stuck v.shown.birth s m step));
}

-- and at each key
pub stuck_key : (p : Point) (n d : ℕ) (to : Shape) (code : List Statement)
    → ((b : ℕ) (s : List Scalar → source.Memory → steps.Step) (m : source.Memory) (k : core_steps.Step)
    → SameAt p n (converted p.world to KeyShape (KeyOf b ∷ []) s m) k) → ConvertsAs p n d to KeyShape code
stuck_key p n d to code stuck = record {
  same = λ m0 c0 m c vs s rest next fits later kept given goes.
      let v = birth_given true p.world m c.memory vs (c.temps d) given in
      let step : core_steps.Step = meaning.statements (put code rest) next c in
      subst (λ z. SameAt p n (converted p.world to KeyShape z s m) step) (sym v.alone)
      (subst (λ u. SameAt p n (converted p.world to KeyShape (u ∷ []) s m) step) (sym v.shown.value) (stuck v.shown.birth s m step));
}

-- a handle stays as it is
pub handle_converts : (p : Point) (n d : ℕ) → ConvertsAs p n d HandleShape HandleShape []
handle_converts p n d = record {
  same = λ m0 c0 m c vs s rest next fits later kept given goes.
      let v = birth_given false p.world m c.memory vs (c.temps d) given in
      subst (λ z. SameAt p n (converted p.world HandleShape HandleShape z s m) (meaning.statements rest next c)) (sym v.alone)
      (goes.go m c (v.value ∷ []) fits later kept (inl (record { value = v.value; alone = refl; shown = v.shown })));
}

-- so does a key
pub key_converts : (p : Point) (n d : ℕ) → ConvertsAs p n d KeyShape KeyShape []
key_converts p n d = record {
  same = λ m0 c0 m c vs s rest next fits later kept given goes.
      let v = birth_given true p.world m c.memory vs (c.temps d) given in
      subst (λ z. SameAt p n (converted p.world KeyShape KeyShape z s m) (meaning.statements rest next c)) (sym v.alone)
      (goes.go m c (v.value ∷ []) fits later kept (inl (record { value = v.value; alone = refl; shown = v.shown })));
}
