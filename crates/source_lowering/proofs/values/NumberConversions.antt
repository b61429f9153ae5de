-- A number in a temporary is converted to another shape.
use Rattle.std.proofs.Common.{◌≡◌, ℕ, ◌%◌, ◌^◌, ◌<◌, inl, inr, ⊎_elim, List, [], ◌∷◌, refl, sym, ap, ◌∙◌, subst, arith}
use Rattle.source_meaning.specs.Shapes.{
  Shape,
  IntShape,
  UnsignedShape,
  CharShape,
  VoidShape,
  ThinShape,
  FatShape,
  HandleShape,
  KeyShape,
  StructShape,
  UnionShape,
  ArrayShape,
}
use Rattle.source_meaning.specs.Memory as source
use Rattle.source_meaning.specs.Memory.{IntegerType, AsChar, Scalar, Integer}
use Rattle.source_meaning.specs.Steps as steps
use Rattle.source_meaning.specs.Steps.{World}
use Rattle.source_meaning.specs.Conversions.{converted}
use Rattle.source_meaning.specs.Programs.{integer_shape}
use Rattle.core_meaning.specs.Memory as core
use Rattle.core_meaning.specs.Memory.{Content, Word}
use Rattle.core_meaning.specs.Core.{Statement, Do, Narrow, Statements, MoreStatements}
use Rattle.core_meaning.specs.Steps as core_steps
use Rattle.core_meaning.specs.Steps.{Config, with_temp}
use Rattle.core_meaning.specs.Meaning as meaning
use Rattle.core_meaning.specs.Operations.{does}
use Rattle.source_lowering.specs.Lowered.{put}
use Rattle.source_lowering.specs.Simulation.{Shown, Point, SameState, SameAt, Next, AreKept, GrownAt, AValue, ANothing, Given, GoesOn, contents_in}
use Rattle.source_lowering.proofs.values.Integers.{IsWord, limit, shown_word, word_given, small_word, integer_one, one_given, given_one}
use Rattle.source_lowering.specs.Members.{words_in}
use Rattle.source_lowering.proofs.values.Values.{put_value}

-- a value of a shape in a temporary becomes one of another
pub record ConvertsAs (p : Point) (n d : ℕ) (to from : Shape) (code : List Statement) : Type 0 where
  pub same : (m0 : source.Memory) (c0 : Config) (m : source.Memory) (c : Config) (vs : List Scalar) (s : List Scalar → source.Memory → steps.Step)
      (rest : Statements) (next : Next) → SameState p m c → GrownAt p m0 c0 m c → AreKept d c0 c → Given p.world m c.memory from vs (contents_in d from c.temps)
      → GoesOn p n d m0 c0 to s (meaning.statements rest next)
      → SameAt p n (converted p.world to from vs s m) (meaning.statements (put code rest) next c)

-- an integer's shape, or none
abbrev pub IsNumber : Shape → Type 0
IsNumber IntShape = Unit {0}
IsNumber UnsignedShape = Unit {0}
IsNumber CharShape = Unit {0}
IsNumber VoidShape = Unit {0}
IsNumber _ = ⊥

number_word : (w : World) (m : source.Memory) (c : core.Memory) (s : Shape) (v : Scalar) (x : Content) → IsNumber s → Shown w m c s v (x ∷ []) → IsWord s v x
number_word w m c IntShape v x h o = shown_word w m c IntShape v x tt o
number_word w m c UnsignedShape v x h o = shown_word w m c UnsignedShape v x tt o
number_word w m c CharShape v x h o = shown_word w m c CharShape v x tt o
number_word w m c VoidShape v x h o = absurd o
number_word w m c (ThinShape may_be_null owner to) v x h o = absurd h
number_word w m c (FatShape to) v x h o = absurd h
number_word w m c HandleShape v x h o = absurd h
number_word w m c KeyShape v x h o = absurd h
number_word w m c (StructShape tag) v x h o = absurd h
number_word w m c (UnionShape tag) v x h o = absurd h
number_word w m c (ArrayShape count of) v x h o = absurd h

number_one : (s : Shape) → IsNumber s → words_in s ≡ 1
number_one (FatShape to) h = absurd h
number_one _ h = refl

-- the source is stuck at each value of an integer, and at none
pub stuck_converts : (p : Point) (n d : ℕ) (to from : Shape) (code : List Statement) → IsNumber from
    → ((t : IntegerType) (word : ℕ) (s : List Scalar → source.Memory → steps.Step) (m : source.Memory) (k : core_steps.Step) → from ≡ integer_shape t
    → SameAt p n (converted p.world to from (Integer t word ∷ []) s m) k) → ((s : List Scalar → source.Memory → steps.Step) (m : source.Memory)
    (k : core_steps.Step) → from ≡ VoidShape → SameAt p n (converted p.world to from [] s m) k) → ConvertsAs p n d to from code
stuck_converts p n d to from code taken word none = record {
  same = λ m0 c0 m c vs s rest next fits later kept given goes.
      ⊎_elim
      (λ (v : AValue p.world m c.memory from vs (c.temps d ∷ [])).
      let o = number_word p.world m c.memory from v.value (c.temps d) taken v.shown in
      subst (λ z. SameAt p n (converted p.world to from z s m) (meaning.statements (put code rest) next c)) (sym (v.alone ∙ ap (λ z. z ∷ []) o.value))
      (word o.type o.word s m _ o.shape_is))
      (λ (v : ANothing from vs).
      subst (λ z. SameAt p n (converted p.world to from z s m) (meaning.statements (put code rest) next c)) (sym v.none) (none s m _ v.void))
      (one_given p.world m c.memory from vs d c.temps (number_one from taken) given);
}

-- the value as it is, of another type
pub kept_converts : (p : Point) (n d : ℕ) (t : IntegerType) (from : Shape) → IsNumber from → limit t ≡ 2 ^ 32
    → ((u : IntegerType) (word : ℕ) (s : List Scalar → source.Memory → steps.Step) (m : source.Memory)
    → converted p.world (integer_shape t) from (Integer u word ∷ []) s m ≡ s (Integer t word ∷ []) m)
    → ((s : List Scalar → source.Memory → steps.Step) (m : source.Memory) (k : core_steps.Step) → from ≡ VoidShape
    → SameAt p n (converted p.world (integer_shape t) from [] s m) k) → ConvertsAs p n d (integer_shape t) from []
kept_converts p n d t from taken wide same none = record {
  same = λ m0 c0 m c vs s rest next fits later kept given goes.
      ⊎_elim
      (λ (v : AValue p.world m c.memory from vs (c.temps d ∷ [])).
      let o = number_word p.world m c.memory from v.value (c.temps d) taken v.shown in
      subst (λ z. SameAt p n (converted p.world (integer_shape t) from z s m) (meaning.statements rest next c)) (sym (v.alone ∙ ap (λ z. z ∷ []) o.value))
      (subst (λ z. SameAt p n z (meaning.statements rest next c)) (sym (same o.type o.word s m))
      (goes.go m c (Integer t o.word ∷ []) fits later kept
      (given_one p.world m c.memory (integer_shape t) (Integer t o.word ∷ []) d c.temps (integer_one t)
      (word_given p.world m c.memory t o.word (c.temps d) (subst (λ z. o.word < z) (sym wide) (small_word o.type o.word o.small)) o.shown)))))
      (λ (v : ANothing from vs).
      subst (λ z. SameAt p n (converted p.world (integer_shape t) from z s m) (meaning.statements rest next c)) (sym v.none) (none s m _ v.void))
      (one_given p.world m c.memory from vs d c.temps (number_one from taken) given);
}

narrowed : (c : Config) (d x : ℕ) (next : Config → core_steps.Step) → c.temps d ≡ Word x → does (Narrow d d) next c ≡ next (with_temp d (Word (x % 256)) c)
narrowed c d x next e = rw e refl

-- the low bits, of a word that isn't a char's
pub low_converts : (p : Point) (n d : ℕ) (from : Shape) → IsNumber from → ((u : IntegerType) (word : ℕ) (s : List Scalar → source.Memory → steps.Step)
    (m : source.Memory) → converted p.world CharShape from (Integer u word ∷ []) s m ≡ s (Integer AsChar (word % 256) ∷ []) m)
    → ((s : List Scalar → source.Memory → steps.Step) (m : source.Memory) (k : core_steps.Step) → from ≡ VoidShape
    → SameAt p n (converted p.world CharShape from [] s m) k) → ConvertsAs p n d CharShape from (Do (Narrow d d) ∷ [])
low_converts p n d from taken same none = record {
  same = λ m0 c0 m c vs s rest next fits later kept given goes.
      ⊎_elim
      (λ (v : AValue p.world m c.memory from vs (c.temps d ∷ [])).
      let o = number_word p.world m c.memory from v.value (c.temps d) taken v.shown in
      subst (λ z. SameAt p n (converted p.world CharShape from z s m) (meaning.statements (MoreStatements (Do (Narrow d d)) rest) next c))
      (sym (v.alone ∙ ap (λ z. z ∷ []) o.value))
      (subst (λ z. SameAt p n z (meaning.statements (MoreStatements (Do (Narrow d d)) rest) next c)) (sym (same o.type o.word s m))
      (subst (λ z. SameAt p n (s (Integer AsChar (o.word % 256) ∷ []) m) z) (sym (narrowed c d o.word (meaning.statements rest next) o.shown))
      (put_value p n d m0 c0 m c CharShape (Integer AsChar (o.word % 256) ∷ []) (Word (o.word % 256)) s (meaning.statements rest next) fits later kept refl
      (word_given p.world m c.memory AsChar (o.word % 256) (Word (o.word % 256)) (low o.word) refl) goes))))
      (λ (v : ANothing from vs).
      subst (λ z. SameAt p n (converted p.world CharShape from z s m) (meaning.statements (MoreStatements (Do (Narrow d d)) rest) next c)) (sym v.none)
      (none s m _ v.void))
      (one_given p.world m c.memory from vs d c.temps (number_one from taken) given);
}
  where
    low : (x : ℕ) → x % 256 < 256
    low x = omega arith

-- a char as it is
pub char_converts : (p : Point) (n d : ℕ) → ConvertsAs p n d CharShape CharShape []
char_converts p n d = record {
  same = λ m0 c0 m c vs s rest next fits later kept given goes.
      ⊎_elim
      (λ (v : AValue p.world m c.memory CharShape vs (c.temps d ∷ [])).
      let small = v.shown.small in
      let same : v.shown.word % 256 ≡ v.shown.word = low v.shown.word small in
      subst (λ z. SameAt p n (converted p.world CharShape CharShape z s m) (meaning.statements rest next c)) (sym (v.alone ∙ ap (λ z. z ∷ []) v.shown.value))
      (subst (λ z. SameAt p n (s (Integer AsChar z ∷ []) m) (meaning.statements rest next c)) (sym same)
      (goes.go m c (Integer AsChar v.shown.word ∷ []) fits later kept
      (inl (record {
        value = Integer AsChar v.shown.word;
        alone = refl;
        shown = record {
          word = v.shown.word;
          value = refl;
          shown = v.shown.shown;
          small =
              small;
        };
      })))))
      (λ (v : ANothing CharShape vs). absurd (other v.void))
      given;
}
  where
    low : (x : ℕ) → x < 256 → x % 256 ≡ x
    low x h = omega (arith, h)

    other : CharShape ≡ VoidShape → ⊥
    other e = cc e

-- none stays none
pub void_converts : (p : Point) (n d : ℕ) → ConvertsAs p n d VoidShape VoidShape []
void_converts p n d = record {
  same = λ m0 c0 m c vs s rest next fits later kept given goes.
      ⊎_elim
      (λ (v : AValue p.world m c.memory VoidShape vs (c.temps d ∷ [])). absurd v.shown)
      (λ (v : ANothing VoidShape vs).
      subst (λ z. SameAt p n (converted p.world VoidShape VoidShape z s m) (meaning.statements rest next c)) (sym v.none)
      (goes.go m c [] fits later kept (inr (record { void = refl; none = refl }))))
      given;
}
