-- Integers are looked at, tested and joined by operators.
use Rattle.std.specs.Prelude.{◌%◌}
use Rattle.std.proofs.Common.{◌≡◌, ℕ, Bool, true, false, List, [], ◌∷◌, refl, sym, ◌∙◌, ap, subst}
use Rattle.cyc_tree.specs.declared.expression.Operator.{Operator}
use Rattle.cyc_tree.specs.declared.expression.Operator.TheVariants.{BitOr, BitXor, BitAnd, Equal, NotEqual, Less, LessEqual, Greater, GreaterEqual, ShiftLeft}
use Rattle.cyc_tree.specs.declared.expression.Operator.TheVariants.{ShiftRight, Add, Subtract, Multiply, Divide, Remainder}
use Rattle.source_meaning.specs.Memory.{Region, Scalar, Integer, IntegerType, AsInt, AsUnsigned, AsChar, Memory}
use Rattle.source_meaning.specs.Steps.{World, Act, ◌>>=◌}
use Rattle.source_meaning.specs.Conversions.{converted}
use Rattle.source_meaning.specs.Operators as meaning
use Rattle.source_meaning.specs.Operators.{truth_value, operator_shape, integers}
use Rattle.source_typing.specs.Converts.{IsInteger}
use Rattle.source_typing.specs.Operators as typing
use Rattle.source_typing.specs.Operators.{on_integers}
use Rattle.source_typing.specs.Types.{StaticType, Int, Unsigned, Char, Void, Null, Thin, Fat, Unique, Handle, Key, Struct, Union, integer_type, shape_of}
use Rattle.type_proof.specs.Flat.{Tables}
use Rattle.type_proof.proofs.invariant.Invariant.{Owner, Ghost, HaveTypes}
use Rattle.type_proof.proofs.invariant.Names.{NameOf}
use Rattle.type_proof.proofs.invariant.Sound.{cells_type}

-- an integer of a type
pub integer_typed : (d : Tables) (f : NameOf → Region) (w : Ghost) (by : ℕ → Owner) (t : IntegerType) (x : ℕ)
    → HaveTypes d w by (Integer t x ∷ []) (cells_type d f (integer_type t))
integer_typed d f w by AsInt x = (record { word = x; is = refl }, tt)
integer_typed d f w by AsUnsigned x = (record { word = x; is = refl }, tt)
integer_typed d f w by AsChar x = (record { word = x; is = refl }, tt)

-- what a value of an integer's type is
pub record IsWord (vs : List Scalar) (t : StaticType) : Type 0 where
  pub of : IntegerType
  pub word : ℕ
  pub is : vs ≡ Integer of word ∷ []
  pub type : t ≡ integer_type of

pub word_of : (d : Tables) (f : NameOf → Region) (w : Ghost) (by : ℕ → Owner) (vs : List Scalar) (t : StaticType) → IsInteger t
    → HaveTypes d w by vs (cells_type d f t) → IsWord vs t
word_of d f w by [] Int e h = absurd h
word_of d f w by (v ∷ []) Int e h = record { of = AsInt; word = h.0.word; is = ap (λ (x : Scalar). x ∷ []) h.0.is; type = refl }
word_of d f w by (v ∷ u ∷ vs) Int e h = absurd h.1
word_of d f w by [] Unsigned e h = absurd h
word_of d f w by (v ∷ []) Unsigned e h = record { of = AsUnsigned; word = h.0.word; is = ap (λ (x : Scalar). x ∷ []) h.0.is; type = refl }
word_of d f w by (v ∷ u ∷ vs) Unsigned e h = absurd h.1
word_of d f w by [] Char e h = absurd h
word_of d f w by (v ∷ []) Char e h = record { of = AsChar; word = h.0.word; is = ap (λ (x : Scalar). x ∷ []) h.0.is; type = refl }
word_of d f w by (v ∷ u ∷ vs) Char e h = absurd h.1
word_of d f w by vs Void e h = absurd cc
word_of d f w by vs Null e h = absurd cc
word_of d f w by vs (Thin n r t) e h = absurd cc
word_of d f w by vs (Fat r t) e h = absurd cc
word_of d f w by vs (Unique n t) e h = absurd cc
word_of d f w by vs (Handle r) e h = absurd cc
word_of d f w by vs (Key r) e h = absurd cc
word_of d f w by vs (Struct tag rs) e h = absurd cc
word_of d f w by vs (Union tag rs) e h = absurd cc

-- ---- what operators give

common_is : (s t : IntegerType) → typing.common (integer_type s) (integer_type t) ≡ integer_type (meaning.common s t)
common_is AsInt AsInt = refl
common_is AsInt AsUnsigned = refl
common_is AsInt AsChar = refl
common_is AsUnsigned t = refl
common_is AsChar AsInt = refl
common_is AsChar AsUnsigned = refl
common_is AsChar AsChar = refl

promoted_is : (s : IntegerType) → typing.promoted (integer_type s) ≡ integer_type (meaning.promoted s)
promoted_is AsInt = refl
promoted_is AsUnsigned = refl
promoted_is AsChar = refl

-- a value's type, as the rules and the meaning have it
record Joined (o : Operator) (s : IntegerType) (x : ℕ) (t : IntegerType) (y : ℕ) : Type 0 where
  of : IntegerType
  word : ℕ
  is : integers o s x t y ≡ Integer of word
  type : on_integers o (integer_type s) (integer_type t) ≡ integer_type of

tested : (b : Bool) → (word : ℕ) × (truth_value b ≡ Integer AsInt word)
tested true = (1, refl)
tested false = (0, refl)

joined : (o : Operator) (s : IntegerType) (x : ℕ) (t : IntegerType) (y : ℕ) → Joined o s x t y
joined BitOr s x t y = record { of = meaning.common s t; word = _; is = refl; type = common_is s t }
joined BitXor s x t y = record { of = meaning.common s t; word = _; is = refl; type = common_is s t }
joined BitAnd s x t y = record { of = meaning.common s t; word = _; is = refl; type = common_is s t }
joined Equal s x t y = let h = tested _ in record { of = AsInt; word = h.0; is = h.1; type = refl }
joined NotEqual s x t y = let h = tested _ in record { of = AsInt; word = h.0; is = h.1; type = refl }
joined Less s x t y = let h = tested _ in record { of = AsInt; word = h.0; is = h.1; type = refl }
joined LessEqual s x t y = let h = tested _ in record { of = AsInt; word = h.0; is = h.1; type = refl }
joined Greater s x t y = let h = tested _ in record { of = AsInt; word = h.0; is = h.1; type = refl }
joined GreaterEqual s x t y = let h = tested _ in record { of = AsInt; word = h.0; is = h.1; type = refl }
joined ShiftLeft s x t y = record { of = meaning.promoted s; word = _; is = refl; type = promoted_is s }
joined ShiftRight s x t y = record { of = meaning.promoted s; word = _; is = refl; type = promoted_is s }
joined Add s x t y = record { of = meaning.common s t; word = _; is = refl; type = common_is s t }
joined Subtract s x t y = record { of = meaning.common s t; word = _; is = refl; type = common_is s t }
joined Multiply s x t y = record { of = meaning.common s t; word = _; is = refl; type = common_is s t }
joined Divide s x t y = record { of = meaning.common s t; word = _; is = refl; type = common_is s t }
joined Remainder s x t y = record { of = meaning.common s t; word = _; is = refl; type = common_is s t }

common_shaped : (s t : IntegerType) → meaning.common_shape (shape_of (integer_type s)) (shape_of (integer_type t))
    ≡ shape_of (integer_type (meaning.common s t))
common_shaped AsInt AsInt = refl
common_shaped AsInt AsUnsigned = refl
common_shaped AsInt AsChar = refl
common_shaped AsUnsigned t = refl
common_shaped AsChar AsInt = refl
common_shaped AsChar AsUnsigned = refl
common_shaped AsChar AsChar = refl

-- the shape of what an operator gives is that of its type
pub operator_shaped : (o : Operator) (s t : IntegerType)
    → operator_shape o (shape_of (integer_type s)) (shape_of (integer_type t)) ≡ shape_of (on_integers o (integer_type s) (integer_type t))
operator_shaped BitOr s t = common_shaped s t ∙ ap shape_of (sym (common_is s t))
operator_shaped BitXor s t = common_shaped s t ∙ ap shape_of (sym (common_is s t))
operator_shaped BitAnd s t = common_shaped s t ∙ ap shape_of (sym (common_is s t))
operator_shaped Equal s t = refl
operator_shaped NotEqual s t = refl
operator_shaped Less s t = refl
operator_shaped LessEqual s t = refl
operator_shaped Greater s t = refl
operator_shaped GreaterEqual s t = refl
operator_shaped ShiftLeft AsInt t = refl
operator_shaped ShiftLeft AsUnsigned t = refl
operator_shaped ShiftLeft AsChar t = refl
operator_shaped ShiftRight AsInt t = refl
operator_shaped ShiftRight AsUnsigned t = refl
operator_shaped ShiftRight AsChar t = refl
operator_shaped Add s t = common_shaped s t ∙ ap shape_of (sym (common_is s t))
operator_shaped Subtract s t = common_shaped s t ∙ ap shape_of (sym (common_is s t))
operator_shaped Multiply s t = common_shaped s t ∙ ap shape_of (sym (common_is s t))
operator_shaped Divide s t = common_shaped s t ∙ ap shape_of (sym (common_is s t))
operator_shaped Remainder s t = common_shaped s t ∙ ap shape_of (sym (common_is s t))

pub integer_is : (t : StaticType) → IsInteger t → (s : IntegerType) × (t ≡ integer_type s)
integer_is Int e = (AsInt, refl)
integer_is Unsigned e = (AsUnsigned, refl)
integer_is Char e = (AsChar, refl)
integer_is Void e = absurd cc
integer_is Null e = absurd cc
integer_is (Thin n r t) e = absurd cc
integer_is (Fat r t) e = absurd cc
integer_is (Unique n t) e = absurd cc
integer_is (Handle r) e = absurd cc
integer_is (Key r) e = absurd cc
integer_is (Struct tag rs) e = absurd cc
integer_is (Union tag rs) e = absurd cc

pub type_integer : (s : IntegerType) → IsInteger (integer_type s)
type_integer AsInt = refl
type_integer AsUnsigned = refl
type_integer AsChar = refl

-- what an operator gives of two integers is an integer
pub on_integers_is : (o : Operator) (s t : IntegerType) → IsInteger (on_integers o (integer_type s) (integer_type t))
on_integers_is o s t = let j = joined o s 0 t 0 in subst (λ (u : StaticType). IsInteger u) (sym j.type) (type_integer j.of)

-- an operator on two integers gives an integer
pub joined_integer : (o : Operator) (t u : StaticType) → IsInteger t → IsInteger u → IsInteger (on_integers o t u)
joined_integer o t u h k =
    let s : (s : IntegerType) × (t ≡ integer_type s) = integer_is t h in
    let r : (s : IntegerType) × (u ≡ integer_type s) = integer_is u k in
    subst (λ (x : StaticType). IsInteger (on_integers o x u)) (sym s.1)
    (subst (λ (x : StaticType). IsInteger (on_integers o (integer_type s.0) x)) (sym r.1) (on_integers_is o s.0 r.0))

-- what two integers are joined to has the type that the rules say
pub joined_typed : (d : Tables) (f : NameOf → Region) (w : Ghost) (by : ℕ → Owner) (o : Operator) (s : IntegerType) (x : ℕ) (t : IntegerType) (y : ℕ)
    → HaveTypes d w by (integers o s x t y ∷ []) (cells_type d f (on_integers o (integer_type s) (integer_type t)))
joined_typed d f w by o s x t y =
    let j : Joined o s x t y = joined o s x t y in
    subst (λ (u : StaticType). HaveTypes d w by (integers o s x t y ∷ []) (cells_type d f u)) (sym j.type)
    (subst (λ (v : Scalar). HaveTypes d w by (v ∷ []) (cells_type d f (integer_type j.of))) (sym j.is) (integer_typed d f w by j.of j.word))

pub truth_typed : (d : Tables) (f : NameOf → Region) (w : Ghost) (by : ℕ → Owner) (b : Bool) → HaveTypes d w by (truth_value b ∷ []) (cells_type d f Int)
truth_typed d f w by true = integer_typed d f w by AsInt 1
truth_typed d f w by false = integer_typed d f w by AsInt 0

-- ---- conversions

-- a value becomes one of the other type, and nothing else happens
pub record Becomes (d : Tables) (f : NameOf → Region) (world : World) (t u : StaticType) (vs : List Scalar) : Type 1 where
  pub values : List Scalar
  pub typed : (w : Ghost) (by : ℕ → _) → HaveTypes d w by values (cells_type d f u)
  pub at_once : {B : Type 0} (h : List Scalar → Act B) (next : B → Memory → _) (m : Memory)
      → (converted world (shape_of u) (shape_of t) vs >>= h) next m ≡ h values next m

word_becomes : (d : Tables) (f : NameOf → Region) (world : World) (t : StaticType) (s u : IntegerType) (x : ℕ)
    → Becomes d f world t (integer_type u) (Integer s x ∷ [])
word_becomes d f world t s AsInt x =
    record { values = Integer AsInt x ∷ []; typed = λ w by. integer_typed d f w by AsInt x; at_once = λ h next m. refl }
word_becomes d f world t s AsUnsigned x =
    record { values = Integer AsUnsigned x ∷ []; typed = λ w by. integer_typed d f w by AsUnsigned x; at_once = λ h next m. refl }
word_becomes d f world t s AsChar x =
    record { values = Integer AsChar (x % 256) ∷ []; typed = λ w by. integer_typed d f w by AsChar (x % 256); at_once = λ h next m. refl }

-- integers convert to each other
pub integer_becomes : (d : Tables) (f : NameOf → Region) (world : World) (t u : StaticType) (vs : List Scalar) → IsInteger u → IsWord vs t
    → Becomes d f world t u vs
integer_becomes d f world t u vs e z =
    let i : (s : IntegerType) × (u ≡ integer_type s) = integer_is u e in
    subst (λ (y : StaticType). Becomes d f world t y vs) (sym i.1)
    (subst (λ (us : List Scalar). Becomes d f world t (integer_type i.0) us) (sym z.is) (word_becomes d f world t z.of i.0 z.word))
