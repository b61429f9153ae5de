-- Values of any shape, in one temporary or in three: by what each is.
use Rattle.std.proofs.Common.{◌≡◌, ℕ, ◌+◌, Bool, true, false, Some, None, ◌<◌, ◌⊎◌, inl, inr, ⊎_elim, List, [], ◌∷◌, refl, sym, ap, subst}
use Rattle.source_meaning.specs.Shapes.{count_of}
use Rattle.source_meaning.specs.Shapes.{may_be_null}
use Rattle.source_meaning.specs.Shapes.{Shape, IntShape, UnsignedShape, CharShape, VoidShape, ThinShape, FatShape, HandleShape, KeyShape, StructShape}
use Rattle.source_meaning.specs.Shapes.{UnionShape, ArrayShape}
use Rattle.source_meaning.specs.Memory as source
use Rattle.source_meaning.specs.Memory.{IntegerType, Scalar, Integer, Thin, Wide, HandleOf, KeyOf, Spot, Span}
use Rattle.source_meaning.specs.Steps as steps
use Rattle.source_meaning.specs.Steps.{World}
use Rattle.source_meaning.specs.Conversions.{one, size_of}
use Rattle.source_meaning.specs.Programs.{integer_shape}
use Rattle.core_meaning.specs.Memory as core
use Rattle.core_meaning.specs.Memory.{Content, Word, Null, Pointer, Birth}
use Rattle.core_meaning.specs.Core.{Program}
use Rattle.core_meaning.specs.Steps as core_steps
use Rattle.source_lowering.specs.Lowered.{type_of}
use Rattle.source_lowering.specs.Lowerable.{IsTarget, IsValueShape}
use Rattle.source_lowering.specs.Simulation.{at, IsTakenObject, Leads, contents_in, Shown, ANull, APointer, AFatNull, AFat, AValue, ANothing, Given, Same}
use Rattle.source_lowering.specs.Simulation.{first_in}
use Rattle.source_lowering.proofs.Runs.{stuck_same}
use Rattle.source_lowering.proofs.values.Integers.{IsHandle, IsTaken, IsThin, IsWord, birth_shape, birth_value, limit, null_is, pointer_is, shown_one}

-- the contents of three temporaries
abbrev pub three_in : ℕ → (ℕ → Content) → List Content
three_in d temps = temps d ∷ temps (d + 1) ∷ temps (d + 2) ∷ []

-- a fat pointer's value and what stands for it
pub record IsFat (w : World) (m : source.Memory) (c : core.Memory) (shape : Shape) (v : Scalar) (cs : List Content) : Type 0 where
  pub to : Shape
  pub taken : IsTarget to
  pub shape_is : shape ≡ FatShape to
  pub shown : AFatNull v cs ⊎ AFat w m c to (size_of w to) v cs

-- what stands for a value: of one temporary, or of three
abbrev pub IsOneOf : World → source.Memory → core.Memory → Shape → Scalar → ℕ → (ℕ → Content) → Type 0
IsOneOf w m c s v d temps = (IsWord s v (temps d) ⊎ (IsThin w m c s v (temps d) ⊎ IsHandle s v (temps d))) ⊎ IsFat w m c s v (three_in d temps)

pub shown_some : (w : World) (m : source.Memory) (c : core.Memory) (s : Shape) (v : Scalar) (d : ℕ) (temps : ℕ → Content) → IsTaken s
    → Shown w m c s v (contents_in d s temps) → IsOneOf w m c s v d temps
shown_some w m c IntShape v d temps h o = inl (shown_one w m c IntShape v (temps d) tt o)
shown_some w m c UnsignedShape v d temps h o = inl (shown_one w m c UnsignedShape v (temps d) tt o)
shown_some w m c CharShape v d temps h o = inl (shown_one w m c CharShape v (temps d) tt o)
shown_some w m c VoidShape v d temps h o = absurd o
shown_some w m c (ThinShape may_be_null owner to) v d temps h o = inl (shown_one w m c (ThinShape may_be_null owner to) v (temps d) h o)
shown_some w m c (FatShape to) v d temps h o = inr (record { to = to; taken = h; shape_is = refl; shown = o })
shown_some w m c HandleShape v d temps h o = inl (shown_one w m c HandleShape v (temps d) tt o)
shown_some w m c KeyShape v d temps h o = inl (shown_one w m c KeyShape v (temps d) tt o)
shown_some w m c (StructShape tag) v d temps h o = absurd h
shown_some w m c (UnionShape tag) v d temps h o = absurd h
shown_some w m c (ArrayShape count of) v d temps h o = absurd h

-- what is given of a value's shape is a value
pub value_void : (s : Shape) → IsValueShape s → s ≡ VoidShape → ⊥
value_void s h e = subst IsValueShape e h

pub value_given : (w : World) (m : source.Memory) (c : core.Memory) (s : Shape) (vs : List Scalar) (cs : List Content) → IsValueShape s → Given w m c s vs cs
    → AValue w m c s vs cs
value_given w m c s vs cs h given =
    ⊎_elim (λ (v : AValue w m c s vs cs). v) (λ (v : ANothing s vs). absurd (value_void s h v.void)) given

-- where one value is needed: without one the source is stuck
pub value_same : (w : World) (fs : Program) (n : ℕ) (shape : Shape) (m : source.Memory) (c : core.Memory) (vs : List Scalar) (cs : List Content)
    (s : Scalar → source.Memory → steps.Step) (k : core_steps.Step) → Given w m c shape vs cs
    → ((v : Scalar) → Shown w m c shape v cs → Same w fs n (s v m) k) → Same w fs n (one vs s m) k
value_same w fs n shape m c vs cs s k given go =
    ⊎_elim
    (λ (v : AValue w m c shape vs cs). subst (λ z. Same w fs n (one z s m) k) (sym v.alone) (go v.value v.shown))
    (λ (v : ANothing shape vs). subst (λ z. Same w fs n (one z s m) k) (sym v.none) (stuck_same w fs n k))
    given

-- by what the value is
pub one_same : (w : World) (fs : Program) (n : ℕ) (shape : Shape) (m : source.Memory) (c : core.Memory) (vs : List Scalar) (d : ℕ)
    (temps : ℕ → Content) (s : Scalar → source.Memory → steps.Step) (k : core_steps.Step) → IsTaken shape → Given w m c shape vs (contents_in d shape temps)
    → ((t : IntegerType) (word : ℕ) → temps d ≡ Word word → shape ≡ integer_shape t → type_of shape ≡ t → word < limit t → Same w fs n (s (Integer t word) m) k)
    → ((v : Scalar) → IsThin w m c shape v (temps d) → Same w fs n (s v m) k)
    → ((birth : ℕ) → temps d ≡ Birth birth → shape ≡ HandleShape → Same w fs n (s (HandleOf birth) m) k)
    → ((birth : ℕ) → shape ≡ KeyShape → Same w fs n (s (KeyOf birth) m) k)
    → ((v : Scalar) → IsFat w m c shape v (three_in d temps) → Same w fs n (s v m) k) → Same w fs n (one vs s m) k
one_same w fs n shape m c vs d temps s k taken given go_word go_thin go_handle go_key go_fat =
    value_same w fs n shape m c vs (contents_in d shape temps) s k given
    (λ v shown.
    ⊎_elim
    (⊎_elim
    (λ (o : IsWord shape v (temps d)). subst (λ z. Same w fs n (s z m) k) (sym o.value) (go_word o.type o.word o.shown o.shape_is o.type_is o.small))
    (⊎_elim (λ (o : IsThin w m c shape v (temps d)). go_thin v o)
    (λ (o : IsHandle shape v (temps d)). subst (λ z. Same w fs n (s z m) k) (sym o.value) (birth_same o.key o.birth o.shown o.shape_is))))
    (λ (o : IsFat w m c shape v (three_in d temps)). go_fat v o)
    (shown_some w m c shape v d temps taken shown))
  where
    birth_same : (key : Bool) (birth : ℕ) → temps d ≡ Birth birth → shape ≡ birth_shape key → Same w fs n (s (birth_value key birth) m) k
    birth_same true birth temp is = go_key birth is
    birth_same false birth temp is = go_handle birth temp is

-- NULL, or a pointer to a place
pub thin_same : (w : World) (fs : Program) (n : ℕ) (shape : Shape) (m : source.Memory) (c : core.Memory) (v : Scalar) (x : Content)
    (s : Scalar → source.Memory → steps.Step) (k : core_steps.Step) (o : IsThin w m c shape v x)
    → (x ≡ Null → may_be_null o.bound ≡ true → Same w fs n (s (Thin None) m) k)
    → ((t : Spot) (byte : ℕ) → x ≡ Pointer (at t) byte → IsTakenObject w o.to → Leads w m c o.to t byte → Same w fs n (s (Thin (Some t)) m) k)
    → Same w fs n (s v m) k
thin_same w fs n shape m c v x s k o go_null go_spot =
    ⊎_elim
    (λ (z : ANull o.bound v (x ∷ [])). subst (λ u. Same w fs n (s u m) k) (sym z.value) (go_null (null_is x o.bound v z) z.allowed))
    (λ (z : APointer w m c (count_of o.bound) o.owner o.to v (x ∷ [])).
    subst (λ u. Same w fs n (s u m) k) (sym z.value) (go_spot z.spot z.byte (pointer_is w m c o.owner o.to x v z) z.lies z.leads))
    o.shown

-- NULL, or a pointer to elements
pub fat_same : (w : World) (fs : Program) (n : ℕ) (shape : Shape) (m : source.Memory) (c : core.Memory) (v : Scalar) (x y z : Content)
    (s : Scalar → source.Memory → steps.Step) (k : core_steps.Step) (o : IsFat w m c shape v (x ∷ y ∷ z ∷ []))
    → (x ≡ Null → Same w fs n (s (Wide None) m) k)
    → ((span : Span) (byte : ℕ) → x ≡ Pointer (at span.first) byte → Same w fs n (s (Wide (Some span)) m) k) → Same w fs n (s v m) k
fat_same w fs n shape m c v x y z s k o go_null go_span =
    ⊎_elim
    (λ (e : AFatNull v (x ∷ y ∷ z ∷ [])). subst (λ u. Same w fs n (s u m) k) (sym e.value) (go_null (ap (first_in x) e.shown)))
    (λ (e : AFat w m c o.to (size_of w o.to) v (x ∷ y ∷ z ∷ [])).
    subst (λ u. Same w fs n (s u m) k) (sym e.value) (go_span e.span e.byte (ap (first_in x) e.shown)))
    o.shown
