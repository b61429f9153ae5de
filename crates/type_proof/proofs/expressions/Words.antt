-- Words and structs of them: their types, and values that carry no right, which stay of their type whoever has them.
use Rattle.std.proofs.Common.{◌≡◌, ℕ, suc, true, false, List, [], ◌∷◌, refl, ap, subst}
use Rattle.std.specs.Prelude.{map}
use Rattle.std.proofs.lemmas.Bool.{eq-eqb}
use Rattle.std.specs.Prelude.{◌&&◌}
use Rattle.source_meaning.specs.Shapes.{MayBeNull, NeverNull, same_shape}
use Rattle.source_meaning.specs.Memory.{Region, Scalar, Memory}
use Rattle.source_typing.specs.Converts.{IsInteger}
use Rattle.source_typing.specs.Types.{StaticType, Int, Unsigned, Char, Void, Null, Thin, Fat, Unique, Handle, Key, Struct, Union, renamed, shape_of}
use Rattle.type_proof.specs.Flat.{Tables}
pub use Rattle.type_proof.specs.Entries.{IsObjectType, IsWordType, IsPlain}
use Rattle.source_typing.specs.Named.{TypeBelow}
use Rattle.type_proof.proofs.invariant.Invariant.{RunType, Reached, Owner, Ghost, HasType, HaveTypes, Grows}
use Rattle.type_proof.proofs.invariant.Values.{Grown, copied_kept}
use Rattle.type_proof.proofs.invariant.Cells.{Copied}
use Rattle.type_proof.proofs.invariant.Names.{NameOf}
use Rattle.type_proof.proofs.invariant.Layouts.{same_text}

-- what an expression gives: a word, a struct, nothing, or `NULL`
abbrev pub IsSimple : StaticType → Type 0
IsSimple Null = Unit {0}
IsSimple t = IsPlain t

pub object_simple : (t : StaticType) → IsObjectType t → IsSimple t
object_simple Int e = tt
object_simple Unsigned e = tt
object_simple Char e = tt
object_simple Void e = absurd e
object_simple Null e = tt
object_simple (Thin n r t) e = e
object_simple (Fat r t) e = e
object_simple (Unique n t) e = e
object_simple (Handle r) e = tt
object_simple (Key r) e = tt
object_simple (Struct tag rs) e = e
object_simple (Union tag rs) e = e

pub plain_simple : (t : StaticType) → IsPlain t → IsSimple t
plain_simple Int e = tt
plain_simple Unsigned e = tt
plain_simple Char e = tt
plain_simple Void e = tt
plain_simple Null e = tt
plain_simple (Thin n r t) e = e
plain_simple (Fat r t) e = e
plain_simple (Unique n t) e = e
plain_simple (Handle r) e = tt
plain_simple (Key r) e = tt
plain_simple (Struct tag rs) e = e
plain_simple (Union tag rs) e = e

-- an object is something
pub object_some : (t : StaticType) → IsObjectType t → t ≡ Void → ⊥
object_some t e z = subst IsObjectType z e

pub integer_object : (t : StaticType) → IsInteger t → IsObjectType t
integer_object Int e = tt
integer_object Unsigned e = tt
integer_object Char e = tt
integer_object Void e = absurd cc
integer_object Null e = absurd cc
integer_object (Thin n r t) e = absurd cc
integer_object (Fat r t) e = absurd cc
integer_object (Unique n t) e = absurd cc
integer_object (Handle r) e = absurd cc
integer_object (Key r) e = absurd cc
integer_object (Struct tag rs) e = absurd cc
integer_object (Union tag rs) e = absurd cc

-- an integer's type names no region
pub integer_below : (n : ℕ) (t : StaticType) → IsInteger t → TypeBelow n t
integer_below n Int e = tt
integer_below n Unsigned e = tt
integer_below n Char e = tt
integer_below n Void e = tt
integer_below n Null e = tt
integer_below n (Thin b r t) e = absurd cc
integer_below n (Fat r t) e = absurd cc
integer_below n (Unique b t) e = absurd cc
integer_below n (Handle r) e = absurd cc
integer_below n (Key r) e = absurd cc
integer_below n (Struct tag rs) e = absurd cc
integer_below n (Union tag rs) e = absurd cc

-- other regions make no other kind of type
pub object_renamed : (h : NameOf → NameOf) (t : StaticType) → IsObjectType t → IsObjectType (renamed h t)
object_renamed h Int e = tt
object_renamed h Unsigned e = tt
object_renamed h Char e = tt
object_renamed h Void e = absurd e
object_renamed h Null e = absurd e
object_renamed h (Thin n r t) e = object_renamed h t e
object_renamed h (Fat r t) e = object_renamed h t e
object_renamed h (Unique n t) e = object_renamed h t e
object_renamed h (Handle r) e = tt
object_renamed h (Key r) e = tt
object_renamed h (Struct tag rs) e = tt
object_renamed h (Union tag rs) e = tt

pub plain_renamed : (h : NameOf → NameOf) (t : StaticType) → IsPlain t → IsPlain (renamed h t)
plain_renamed h Int e = tt
plain_renamed h Unsigned e = tt
plain_renamed h Char e = tt
plain_renamed h Void e = tt
plain_renamed h Null e = absurd e
plain_renamed h (Thin n r t) e = object_renamed h t e
plain_renamed h (Fat r t) e = object_renamed h t e
plain_renamed h (Unique n t) e = object_renamed h t e
plain_renamed h (Handle r) e = tt
plain_renamed h (Key r) e = tt
plain_renamed h (Struct tag rs) e = tt
plain_renamed h (Union tag rs) e = tt

map_twice : (f : NameOf → Region) (h : NameOf → NameOf) (rs : List NameOf) → map f (map h rs) ≡ map (λ a. f (h a)) rs
map_twice f h [] = refl
map_twice f h (r ∷ rs) = ap (λ (qs : List Region). f (h r) ∷ qs) (map_twice f h rs)

-- a type's regions are named one after another
pub object_twice : (f : NameOf → Region) (h : NameOf → NameOf) (t : StaticType) → IsObjectType t → renamed f (renamed h t) ≡ renamed (λ a. f (h a)) t
object_twice f h Int e = refl
object_twice f h Unsigned e = refl
object_twice f h Char e = refl
object_twice f h Void e = refl
object_twice f h Null e = refl
object_twice f h (Thin n r t) e = ap (Thin n (f (h r))) (object_twice f h t e)
object_twice f h (Fat r t) e = ap (Fat (f (h r))) (object_twice f h t e)
object_twice f h (Unique n t) e = ap (Unique n) (object_twice f h t e)
object_twice f h (Handle r) e = refl
object_twice f h (Key r) e = refl
object_twice f h (Struct tag rs) e = ap (Struct tag) (map_twice f h rs)
object_twice f h (Union tag rs) e = ap (Union tag) (map_twice f h rs)

pub plain_twice : (f : NameOf → Region) (h : NameOf → NameOf) (t : StaticType) → IsPlain t → renamed f (renamed h t) ≡ renamed (λ a. f (h a)) t
plain_twice f h Int e = refl
plain_twice f h Unsigned e = refl
plain_twice f h Char e = refl
plain_twice f h Void e = refl
plain_twice f h Null e = refl
plain_twice f h (Thin n r t) e = object_twice f h (Thin n r t) e
plain_twice f h (Fat r t) e = object_twice f h (Fat r t) e
plain_twice f h (Unique n t) e = object_twice f h (Unique n t) e
plain_twice f h (Handle r) e = refl
plain_twice f h (Key r) e = refl
plain_twice f h (Struct tag rs) e = ap (Struct tag) (map_twice f h rs)
plain_twice f h (Union tag rs) e = ap (Union tag) (map_twice f h rs)

-- a shape is the same as itself
pub shape_itself : (t : StaticType) → IsObjectType t → same_shape (shape_of t) (shape_of t) ≡ true
shape_itself Int e = refl
shape_itself Unsigned e = refl
shape_itself Char e = refl
shape_itself Void e = absurd e
shape_itself Null e = absurd e
shape_itself (Thin (MayBeNull n) r t) e = subst (λ b. b && same_shape (shape_of t) (shape_of t) ≡ true) (Rattle.std.proofs.Common.sym (eq-eqb n n refl))
    (shape_itself t e)
shape_itself (Thin (NeverNull n) r t) e = subst (λ b. b && same_shape (shape_of t) (shape_of t) ≡ true) (Rattle.std.proofs.Common.sym (eq-eqb n n refl))
    (shape_itself t e)
shape_itself (Fat r t) e = shape_itself t e
shape_itself (Unique true t) e = shape_itself t e
shape_itself (Unique false t) e = shape_itself t e
shape_itself (Handle r) e = refl
shape_itself (Key r) e = refl
shape_itself (Struct tag rs) e = same_text tag
shape_itself (Union tag rs) e = same_text tag

-- values that carry no right may be of any owner
pub values_copied : (d : Tables) (w w' : Ghost) (by to : ℕ → Owner) (vs : List Scalar) (ts : List RunType) → Grown w w' → Copied ts → HaveTypes d w by vs ts
    → HaveTypes d w' to vs ts
values_copied d w w' by to [] [] g c h = tt
values_copied d w w' by to (v ∷ vs) (t ∷ ts) g c h =
    (copied_kept d w w' (by 0) (to 0) v t g c.0 h.0, values_copied d w w' (λ k. by (suc k)) (λ k. to (suc k)) vs ts g c.1 h.1)
values_copied d w w' by to [] (t ∷ ts) g c h = absurd h
values_copied d w w' by to (v ∷ vs) [] g c h = absurd h

-- types and the order of regions stay
pub grows_grown : {k b : ℕ} {w w' : Ghost} {m m' : Memory} → Grows k b w m w' m' → Grown w w'
grows_grown x = record { types = λ s t e. x.types s (Reached t) e; above = x.above }

pub grown_itself : (w : Ghost) → Grown w w
grown_itself w = record { types = λ s t e. e; above = λ q r e. e }

-- ---- values of one cell

pub record OneValue (d : Tables) (w : Ghost) (by : Owner) (vs : List Scalar) (t : RunType) : Type 0 where
  pub value : Scalar
  pub is : vs ≡ value ∷ []
  pub typed : HasType d w by value t

pub one_value : (d : Tables) (w : Ghost) (by : ℕ → Owner) (vs : List Scalar) (t : RunType) → HaveTypes d w by vs (t ∷ []) → OneValue d w (by 0) vs t
one_value d w by [] t h = absurd h
one_value d w by (v ∷ []) t h = record { value = v; is = refl; typed = h.0 }
one_value d w by (v ∷ u ∷ us) t h = absurd h.1
