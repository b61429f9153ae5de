-- The shapes of values, and values of one temporary: integers, thin pointers and handles.
use Rattle.std.proofs.Common.{◌≡◌, ℕ, Bool, true, false, ◌^◌, ◌<◌, ◌⊎◌, inl, inr, ⊎_elim, List, [], ◌∷◌, refl, sym, ap, subst, arith}
use Rattle.source_meaning.specs.Shapes.{count_of}
use Rattle.source_meaning.specs.Shapes.{Reach, may_be_null}
use Rattle.source_meaning.specs.Shapes.{
  Shape,
  Owner,
  Layout,
  IntShape,
  UnsignedShape,
  CharShape,
  VoidShape,
  ThinShape,
  FatShape,
  HandleShape,
  KeyShape,
  StructShape,
  UnionShape,
  ArrayShape,
}
use Rattle.source_meaning.specs.Memory as source
use Rattle.source_meaning.specs.Memory.{IntegerType, AsInt, AsUnsigned, AsChar, Scalar, Integer, HandleOf, KeyOf}
use Rattle.source_meaning.specs.Steps.{World}
use Rattle.source_meaning.specs.Conversions.{one}
use Rattle.source_meaning.specs.Programs.{integer_shape}
use Rattle.core_meaning.specs.Memory as core
use Rattle.core_meaning.specs.Memory.{Content, Word, Null, Pointer, Birth}
use Rattle.source_lowering.specs.Lowered.{type_of}
use Rattle.source_lowering.specs.Taken.{IsIntegerShape}
pub use Rattle.source_lowering.specs.Lowerable.{IsKeyShape, IsTarget, IsThinShape, IsWordShape, IsValueShape, IsObject, IsOperandShape}
use Rattle.source_lowering.specs.Simulation.{at, contents_in, Shown, ANull, APointer, Given, first_in}
use Rattle.source_lowering.specs.Members.{words_in}

-- the shapes of values: a word, a fat pointer, or none
abbrev pub IsTaken : Shape → Type 0
IsTaken IntShape = Unit {0}
IsTaken UnsignedShape = Unit {0}
IsTaken CharShape = Unit {0}
IsTaken VoidShape = Unit {0}
IsTaken (ThinShape may_be_null owner to) = IsTarget to
IsTaken (FatShape to) = IsTarget to
IsTaken HandleShape = Unit {0}
IsTaken KeyShape = Unit {0}
IsTaken (StructShape tag) = ⊥
IsTaken (UnionShape tag) = ⊥
IsTaken (ArrayShape count of) = ⊥

pub word_taken : (s : Shape) → IsWordShape s → IsTaken s
word_taken IntShape h = tt
word_taken UnsignedShape h = tt
word_taken CharShape h = tt
word_taken VoidShape h = tt
word_taken (ThinShape may_be_null owner to) h = h
word_taken (FatShape to) h = absurd h
word_taken HandleShape h = h
word_taken KeyShape h = h
word_taken (StructShape tag) h = h
word_taken (UnionShape tag) h = h
word_taken (ArrayShape count of) h = h

pub value_taken : (s : Shape) → IsValueShape s → IsTaken s
value_taken (FatShape to) h = h
value_taken IntShape h = tt
value_taken UnsignedShape h = tt
value_taken CharShape h = tt
value_taken VoidShape h = absurd h
value_taken (ThinShape may_be_null owner to) h = h
value_taken HandleShape h = tt
value_taken KeyShape h = tt
value_taken (StructShape tag) h = absurd h
value_taken (UnionShape tag) h = absurd h
value_taken (ArrayShape count of) h = absurd h

abbrev pub limit : IntegerType → ℕ
limit AsInt = 2 ^ 32
limit AsUnsigned = 2 ^ 32
limit AsChar = 256

-- a word of a type stands for an integer
pub record IsWord (shape : Shape) (v : Scalar) (x : Content) : Type 0 where
  pub type : IntegerType
  pub word : ℕ
  pub value : v ≡ Integer type word
  pub shown : x ≡ Word word
  pub small : word < limit type
  pub shape_is : shape ≡ integer_shape type
  pub type_is : type_of shape ≡ type

pub integer_word : (s : Shape) → IsIntegerShape s → IsWordShape s
integer_word IntShape h = tt
integer_word UnsignedShape h = tt
integer_word CharShape h = tt
integer_word VoidShape h = absurd h
integer_word (ThinShape may_be_null owner to) h = absurd h
integer_word (FatShape to) h = absurd h
integer_word HandleShape h = absurd h
integer_word KeyShape h = absurd h
integer_word (StructShape tag) h = absurd h
integer_word (UnionShape tag) h = absurd h
integer_word (ArrayShape count of) h = absurd h

-- what can be pointed to, and is no struct, is a value
pub target_taken : (s : Shape) → IsTarget s → IsOperandShape s → IsTaken s
target_taken IntShape h g = tt
target_taken UnsignedShape h g = tt
target_taken CharShape h g = tt
target_taken VoidShape h g = tt
target_taken (ThinShape may_be_null owner to) h g = h
target_taken (FatShape to) h g = h
target_taken HandleShape h g = h
target_taken KeyShape h g = h
target_taken (StructShape tag) h g = g
target_taken (UnionShape tag) h g = g
target_taken (ArrayShape count of) h g = h

pub taken_target : (s : Shape) → IsTaken s → IsTarget s
taken_target VoidShape h = tt
taken_target IntShape h = tt
taken_target UnsignedShape h = tt
taken_target CharShape h = tt
taken_target (ThinShape may_be_null owner to) h = h
taken_target (FatShape to) h = h
taken_target HandleShape h = h
taken_target KeyShape h = h
taken_target (StructShape tag) h = tt
taken_target (UnionShape tag) h = tt
taken_target (ArrayShape count of) h = h

pub taken_no_struct : (s : Shape) → IsTaken s → IsOperandShape s
taken_no_struct (StructShape tag) h = h
taken_no_struct (UnionShape tag) h = h
taken_no_struct _ h = tt

-- an object is a value, a struct or a union
pub object_target : (unions structs : List Layout) (s : Shape) → IsObject unions structs s → IsTarget s
object_target unions structs (StructShape tag) h = tt
object_target unions structs IntShape h = tt
object_target unions structs UnsignedShape h = tt
object_target unions structs CharShape h = tt
object_target unions structs VoidShape h = tt
object_target unions structs (ThinShape may_be_null owner to) h = h
object_target unions structs (FatShape to) h = h
object_target unions structs HandleShape h = h
object_target unions structs KeyShape h = h
object_target unions structs (UnionShape tag) h = tt
object_target unions structs (ArrayShape count of) h = h

pub object_value : (unions structs : List Layout) (s : Shape) → IsObject unions structs s → IsOperandShape s → IsValueShape s
object_value unions structs (StructShape tag) h g = g
object_value unions structs IntShape h g = tt
object_value unions structs UnsignedShape h g = tt
object_value unions structs CharShape h g = tt
object_value unions structs VoidShape h g = h
object_value unions structs (ThinShape may_be_null owner to) h g = h
object_value unions structs (FatShape to) h g = h
object_value unions structs HandleShape h g = h
object_value unions structs KeyShape h g = h
object_value unions structs (UnionShape tag) h g = g
object_value unions structs (ArrayShape count of) h g = h

pub value_object : (unions structs : List Layout) (s : Shape) → IsValueShape s → IsObject unions structs s
value_object unions structs (StructShape tag) h = absurd h
value_object unions structs IntShape h = tt
value_object unions structs UnsignedShape h = tt
value_object unions structs CharShape h = tt
value_object unions structs VoidShape h = h
value_object unions structs (ThinShape may_be_null owner to) h = h
value_object unions structs (FatShape to) h = h
value_object unions structs HandleShape h = h
value_object unions structs KeyShape h = h
value_object unions structs (UnionShape tag) h = absurd h
value_object unions structs (ArrayShape count of) h = h

-- a word is a value
pub word_value : (s : Shape) → IsWordShape s → IsValueShape s
word_value IntShape h = tt
word_value UnsignedShape h = tt
word_value CharShape h = tt
word_value VoidShape h = h
word_value (ThinShape may_be_null owner to) h = h
word_value (FatShape to) h = absurd h
word_value HandleShape h = tt
word_value KeyShape h = tt
word_value (StructShape tag) h = h
word_value (UnionShape tag) h = h
word_value (ArrayShape count of) h = h

pub not_void : (shape : Shape) → IsWordShape shape → shape ≡ VoidShape → ⊥
not_void shape h e = subst (λ z. IsWordShape z) e h

-- a thin pointer's value and what stands for it
pub record IsThin (w : World) (m : source.Memory) (c : core.Memory) (shape : Shape) (v : Scalar) (x : Content) : Type 0 where
  pub bound : Reach
  pub owner : Owner
  pub to : Shape
  pub taken : IsTarget to
  pub shape_is : shape ≡ ThinShape bound owner to
  pub shown : ANull bound v (x ∷ []) ⊎ APointer w m c (count_of bound) owner to v (x ∷ [])

-- a thin pointer or a key: what may be an operand of what frees, lends or opens
abbrev pub IsMovedShape : Shape → Type 0
IsMovedShape (ThinShape may_be_null owner to) = Unit {0}
IsMovedShape KeyShape = Unit {0}
IsMovedShape s = ⊥

pub thin_moved : (s : Shape) → IsThinShape s → IsMovedShape s
thin_moved (ThinShape may_be_null owner to) h = tt
thin_moved _ h = absurd h

pub key_moved : (s : Shape) → IsKeyShape s → IsMovedShape s
key_moved KeyShape h = tt
key_moved _ h = absurd h

-- the shape of a handle, or of a key, and its value
abbrev pub birth_shape : (key : Bool) → Shape
birth_shape true = KeyShape
birth_shape false = HandleShape

abbrev pub birth_value : (key : Bool) → ℕ → Scalar
birth_value true d = KeyOf d
birth_value false d = HandleOf d

-- a handle's or a key's value and what stands for it
pub record IsHandle (shape : Shape) (v : Scalar) (x : Content) : Type 0 where
  pub key : Bool
  pub birth : ℕ
  pub value : v ≡ birth_value key birth
  pub shown : x ≡ Birth birth
  pub shape_is : shape ≡ birth_shape key

-- what holds of each handle and of each key
pub handle_cases : (holds : Scalar → Type 0) (shape : Shape) (v : Scalar) (x : Content) → IsHandle shape v x → ((d : ℕ) → holds (HandleOf d))
    → ((d : ℕ) → holds (KeyOf d)) → holds v
handle_cases holds shape v x o handles keys = subst holds (sym o.value) (by o.key)
  where
    by : (key : Bool) → holds (birth_value key o.birth)
    by true = keys o.birth
    by false = handles o.birth

no_integer : (key : Bool) → IsIntegerShape (birth_shape key) → ⊥
no_integer true h = h
no_integer false h = h

pub null_is : (x : Content) (b : Reach) (v : Scalar) → ANull b v (x ∷ []) → x ≡ Null
null_is x b v n = ap (first_in x) n.shown

pub pointer_is : {j : ℕ} (w : World) (m : source.Memory) (c : core.Memory) (o : Owner) (to : Shape) (x : Content) (v : Scalar)
    (p : APointer w m c j o to v (x ∷ []))
    → x ≡ Pointer (at p.spot) p.byte
pointer_is w m c o to x v p = ap (first_in x) p.shown

-- what stands for a value of a word's shape is its word, a pointer or a birth
pub shown_one : (w : World) (m : source.Memory) (c : core.Memory) (s : Shape) (v : Scalar) (x : Content) → IsWordShape s → Shown w m c s v (x ∷ [])
    → IsWord s v x ⊎ (IsThin w m c s v x ⊎ IsHandle s v x)
shown_one w m c IntShape v x h o = inl (record {
  type = AsInt;
  word = o.word;
  value = o.value;
  shown = ap (first_in x) o.shown;
  small = o.small;
  shape_is = refl;
  type_is = refl;
})
shown_one w m c UnsignedShape v x h o = inl (record {
  type = AsUnsigned;
  word = o.word;
  value = o.value;
  shown = ap (first_in x) o.shown;
  small = o.small;
  shape_is = refl;
  type_is = refl;
})
shown_one w m c CharShape v x h o = inl (record {
  type = AsChar;
  word = o.word;
  value = o.value;
  shown = ap (first_in x) o.shown;
  small = o.small;
  shape_is = refl;
  type_is = refl;
})
shown_one w m c VoidShape v x h o = absurd o
shown_one w m c (ThinShape bound owner to) v x h o = inr (inl (record {
  bound = bound;
  owner = owner;
  to = to;
  taken = h;
  shape_is = refl;
  shown = o;
}))
shown_one w m c (FatShape to) v x h o = absurd h
shown_one w m c HandleShape v x h o =
    inr (inr (record { key = false; birth = o.birth; value = o.value; shown = ap (first_in x) o.shown; shape_is = refl }))
shown_one w m c KeyShape v x h o =
    inr (inr (record { key = true; birth = o.birth; value = o.value; shown = ap (first_in x) o.shown; shape_is = refl }))
shown_one w m c (StructShape tag) v x h o = absurd h
shown_one w m c (UnionShape tag) v x h o = absurd h
shown_one w m c (ArrayShape count of) v x h o = absurd h

-- of an integer's shape, its word
pub shown_word : (w : World) (m : source.Memory) (c : core.Memory) (s : Shape) (v : Scalar) (x : Content) → IsIntegerShape s → Shown w m c s v (x ∷ [])
    → IsWord s v x
shown_word w m c s v x h o =
    ⊎_elim (λ (one : IsWord s v x). one)
    (⊎_elim (λ (thin : IsThin w m c s v x). absurd (subst (λ z. IsIntegerShape z) thin.shape_is h))
    (λ (handle : IsHandle s v x). absurd (no_integer handle.key (subst (λ z. IsIntegerShape z) handle.shape_is h))))
    (shown_one w m c s v x (integer_word s h) o)

-- and a word stands for its value
pub word_shown : (w : World) (m : source.Memory) (c : core.Memory) (t : IntegerType) (n : ℕ) → n < limit t
    → Shown w m c (integer_shape t) (Integer t n) (Word n ∷ [])
word_shown w m c AsInt n h = record { word = n; value = refl; shown = refl; small = h }
word_shown w m c AsUnsigned n h = record { word = n; value = refl; shown = refl; small = h }
word_shown w m c AsChar n h = record { word = n; value = refl; shown = refl; small = h }

pub word_given : (w : World) (m : source.Memory) (c : core.Memory) (t : IntegerType) (n : ℕ) (x : Content) → n < limit t → x ≡ Word n
    → Given w m c (integer_shape t) (Integer t n ∷ []) (x ∷ [])
word_given w m c t n x h e = inl (record {
  value = Integer t n;
  alone = refl;
  shown = subst (λ z. Shown w m c (integer_shape t) (Integer t n) (z ∷ []))
      (sym e) (word_shown w m c t n h);
})

pub small_word : (t : IntegerType) (n : ℕ) → n < limit t → n < 2 ^ 32
small_word AsInt n h = h
small_word AsUnsigned n h = h
small_word AsChar n h = omega (arith, h)

-- ---- values of one temporary

pub one_word : (s : Shape) → IsWordShape s → words_in s ≡ 1
one_word (FatShape to) h = absurd h
one_word _ h = refl

pub integer_one : (t : IntegerType) → words_in (integer_shape t) ≡ 1
integer_one AsInt = refl
integer_one AsUnsigned = refl
integer_one AsChar = refl

pub one_content : (s : Shape) → words_in s ≡ 1 → (d : ℕ) (temps : ℕ → Content) → contents_in d s temps ≡ temps d ∷ []
one_content (FatShape to) h d temps = absurd (omega (arith, h))
one_content _ h d temps = refl

-- it is given in that temporary
pub one_given : (w : World) (m : source.Memory) (c : core.Memory) (s : Shape) (vs : List Scalar) (d : ℕ) (temps : ℕ → Content) → words_in s ≡ 1
    → Given w m c s vs (contents_in d s temps) → Given w m c s vs (temps d ∷ [])
one_given w m c s vs d temps one given = subst (λ z. Given w m c s vs z) (one_content s one d temps) given

pub given_one : (w : World) (m : source.Memory) (c : core.Memory) (s : Shape) (vs : List Scalar) (d : ℕ) (temps : ℕ → Content) → words_in s ≡ 1
    → Given w m c s vs (temps d ∷ []) → Given w m c s vs (contents_in d s temps)
given_one w m c s vs d temps one given = subst (λ z. Given w m c s vs z) (sym (one_content s one d temps)) given
