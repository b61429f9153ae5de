-- A global begins with the type that the tables have under its name, where that is one of its shape.
use Rattle.std.proofs.Common.{◌≡◌, ℕ, zero, suc, Bool, true, false, ◌⊎◌, inl, inr, Option, Some, None, List, [], ◌∷◌, refl, sym, ◌∙◌, ap, subst}
use Rattle.std.specs.Prelude.{bytes_eq, length, nat_eq}
use Rattle.std.proofs.lemmas.Bool.{cases_Bool, false≢true, eqb-true, eq-eqb}
use Rattle.std.proofs.lemmas.Slice.Eq.{bytes_eq-Decides}
use Rattle.cyc_tree.specs.Tree as tree
use Rattle.cyc_tree.specs.Tree.{Constant, Initial, Item}
use Rattle.source_meaning.specs.Shapes.{Reach, MayBeNull, NeverNull, may_be_null, Shared, Alone, Shape, IntShape, UnsignedShape, CharShape, ThinShape, FatShape}
use Rattle.source_meaning.specs.Shapes.{StructShape, UnionShape}
use Rattle.source_meaning.specs.Steps.{World}
use Rattle.source_typing.specs.Regions.{Region}
use Rattle.source_typing.specs.Tables as typing
use Rattle.source_typing.specs.Tables.{What, Entry, OfValue, OfTag, OfFunction, OfBuiltin, OfOther, Stored, Arrayed, Counter, Unknown, find, each_part}
use Rattle.source_typing.specs.Tables.{parts_in, begins}
use Rattle.source_typing.specs.Types.{StaticType, Int, Unsigned, Char, Void, Null, Thin, Fat, Unique, Handle, Key, Struct, Union, shape_of}
use Rattle.type_proof.specs.Entries.{IsObjectType, PlainTables}
use Rattle.type_proof.specs.Programs.{IsNullConstant, IsNumber, IsPointerConstant, IsFirst, InitialJudged, GlobalJudged, GlobalsJudged}
use Rattle.type_proof.proofs.invariant.Layouts.{same_text}
use Rattle.source_meaning.proofs.Reaches.{single_null}

-- ---- whether two types have one shape

abbrev SameShape : StaticType → StaticType → Type 0
SameShape t u = (shape_of t ≡ shape_of u) ⊎ (shape_of t ≡ shape_of u → ⊥)

-- whether two bounds are the same
bounds_differ : (n m : Reach) → (n ≡ m) ⊎ (n ≡ m → ⊥)
bounds_differ (MayBeNull j) (MayBeNull k) = elim (cases_Bool (nat_eq j k)) [
  | inl z ↦ inl (ap MayBeNull (eqb-true j k z))
  | inr z ↦ inr (λ e. let same : j ≡ k = cc in false≢true (sym z ∙ eq-eqb j k same))
]
bounds_differ (NeverNull j) (NeverNull k) = elim (cases_Bool (nat_eq j k)) [
  | inl z ↦ inl (ap NeverNull (eqb-true j k z))
  | inr z ↦ inr (λ e. let same : j ≡ k = cc in false≢true (sym z ∙ eq-eqb j k same))
]
bounds_differ (MayBeNull j) (NeverNull k) = inr (λ e. cc)
bounds_differ (NeverNull j) (MayBeNull k) = inr (λ e. cc)

thins_shaped : (n m : Reach) (r q : Region) (t u : StaticType) → SameShape t u → SameShape (Thin n r t) (Thin m q u)
thins_shaped n m r q t u (inl e) = by (bounds_differ n m)
  where
    by : (n ≡ m) ⊎ (n ≡ m → ⊥) → SameShape (Thin n r t) (Thin m q u)
    by (inl same) = inl (ap (λ b. ThinShape b Shared (shape_of t)) same ∙ ap (ThinShape m Shared) e)
    by (inr differ) = inr (λ z. differ (let y : n ≡ m = cc in y))
thins_shaped n m r q t u (inr k) = inr (λ z. k (let y : shape_of t ≡ shape_of u = cc in y))

uniques_shaped : (n m : Bool) (t u : StaticType) → SameShape t u → SameShape (Unique n t) (Unique m u)
uniques_shaped true true t u (inl e) = inl (ap (ThinShape (MayBeNull 1) Alone) e)
uniques_shaped false false t u (inl e) = inl (ap (ThinShape (NeverNull 1) Alone) e)
uniques_shaped true false t u h = inr (λ z. cc)
uniques_shaped false true t u h = inr (λ z. cc)
uniques_shaped n m t u (inr k) = inr (λ z. k (let y : shape_of t ≡ shape_of u = cc in y))

fats_shaped : (r q : Region) (t u : StaticType) → SameShape t u → SameShape (Fat r t) (Fat q u)
fats_shaped r q t u (inl e) = inl (ap FatShape e)
fats_shaped r q t u (inr k) = inr (λ z. k (let y : shape_of t ≡ shape_of u = cc in y))

objects_shaped : (t u : StaticType) → IsObjectType t → IsObjectType u → SameShape t u
objects_shaped Int Int e h = inl refl
objects_shaped Int u e h = inr (λ z. cc)
objects_shaped Unsigned Unsigned e h = inl refl
objects_shaped Unsigned u e h = inr (λ z. cc)
objects_shaped Char Char e h = inl refl
objects_shaped Char u e h = inr (λ z. cc)
objects_shaped (Handle r) (Handle q) e h = inl refl
objects_shaped (Handle r) u e h = inr (λ z. cc)
objects_shaped (Thin n r t) (Thin m q u) e h = thins_shaped n m r q t u (objects_shaped t u e h)
objects_shaped (Thin n r t) Null e h = absurd h
objects_shaped (Thin n r t) u e h = inr (λ z. cc)
objects_shaped (Struct x rs) (Struct y qs) e h = elim (cases_Bool (bytes_eq x y)) [
  | inl z ↦ inl (ap StructShape ((bytes_eq-Decides x y).0 z))
  | inr z ↦ inr (λ k. let same : x ≡ y = cc in false≢true (sym z ∙ (ap (λ (a : List ℕ). bytes_eq a y) same ∙ same_text y)))
]
objects_shaped (Struct x rs) u e h = inr (λ z. cc)
objects_shaped Void u e h = absurd e
objects_shaped Null u e h = absurd e
objects_shaped (Fat r t) (Fat q u) e h = fats_shaped r q t u (objects_shaped t u e h)
objects_shaped (Fat r t) u e h = inr (λ z. cc)
objects_shaped (Unique n t) (Unique m u) e h = uniques_shaped n m t u (objects_shaped t u e h)
objects_shaped (Unique n t) Null e h = absurd h
objects_shaped (Unique n t) u e h = inr (λ z. cc)
objects_shaped (Key r) (Key q) e h = inl refl
objects_shaped (Key r) u e h = inr (λ z. cc)
objects_shaped (Union x rs) (Union y qs) e h = elim (cases_Bool (bytes_eq x y)) [
  | inl z ↦ inl (ap UnionShape ((bytes_eq-Decides x y).0 z))
  | inr z ↦ inr (λ k. let same : x ≡ y = cc in false≢true (sym z ∙ (ap (λ (a : List ℕ). bytes_eq a y) same ∙ same_text y)))
]
objects_shaped (Union x rs) u e h = inr (λ z. cc)

-- ---- how a variable begins goes by its shape

abbrev begins_by : ℕ → typing.Tables → Shape → Bool
begins_by n g IntShape = true
begins_by n g UnsignedShape = true
begins_by n g CharShape = true
begins_by n g (ThinShape b owner to) = may_be_null b
begins_by n g (FatShape to) = true
begins_by zero g (StructShape tag) = true
begins_by (suc n) g (StructShape tag) = each_part (begins n g) (parts_in g tag)
begins_by n g s = false

begins_shaped : (n : ℕ) (g : typing.Tables) (t : StaticType) → IsObjectType t → begins n g t ≡ begins_by n g (shape_of t)
begins_shaped n g Int e = refl
begins_shaped n g Unsigned e = refl
begins_shaped n g Char e = refl
begins_shaped n g Void e = absurd e
begins_shaped n g Null e = absurd e
begins_shaped n g (Thin b r t) e = refl
begins_shaped n g (Fat r t) e = refl
begins_shaped n g (Unique b t) e = sym (single_null b)
begins_shaped n g (Handle r) e = refl
begins_shaped n g (Key r) e = refl
begins_shaped zero g (Struct tag rs) e = refl
begins_shaped (suc n) g (Struct tag rs) e = refl
begins_shaped n g (Union tag rs) e = refl

abbrev FirstBy : Shape → Constant → Type 0
FirstBy IntShape c = IsNumber c
FirstBy UnsignedShape c = IsNumber c
FirstBy CharShape c = IsNumber c
FirstBy (ThinShape b Alone to) c = IsNullConstant c
FirstBy (ThinShape b Shared to) c = IsPointerConstant to c
FirstBy (FatShape to) c = IsPointerConstant to c
FirstBy s c = ⊥

to_shape : (t : StaticType) (c : Constant) → IsObjectType t → IsFirst t c → FirstBy (shape_of t) c
to_shape Int c e h = h
to_shape Unsigned c e h = h
to_shape Char c e h = h
to_shape Void c e h = absurd e
to_shape Null c e h = absurd e
to_shape (Thin b r t) c e h = h
to_shape (Fat r t) c e h = h
to_shape (Unique b t) c e h = h
to_shape (Handle r) c e h = h
to_shape (Key r) c e h = h
to_shape (Struct tag rs) c e h = h
to_shape (Union tag rs) c e h = h

from_shape : (t : StaticType) (c : Constant) → IsObjectType t → FirstBy (shape_of t) c → IsFirst t c
from_shape Int c e h = h
from_shape Unsigned c e h = h
from_shape Char c e h = h
from_shape Void c e h = absurd e
from_shape Null c e h = absurd e
from_shape (Thin b r t) c e h = h
from_shape (Fat r t) c e h = h
from_shape (Unique b t) c e h = h
from_shape (Handle r) c e h = h
from_shape (Key r) c e h = h
from_shape (Struct tag rs) c e h = h
from_shape (Union tag rs) c e h = h

initial_shaped : (t u : StaticType) (i : Initial) → IsObjectType t → IsObjectType u → shape_of t ≡ shape_of u → InitialJudged u i → InitialJudged t i
initial_shaped t u Initial.Unset e h z j = tt
initial_shaped t u (Initial.Elements n) e h z j = j
initial_shaped t u (Initial.Given c) e h z j = from_shape t c e (subst (λ (s : Shape). FirstBy s c) (sym z) (to_shape u c h j))

-- ---- globals

-- the type of a variable, or of an array's elements
abbrev pub held_type : What → Option StaticType
held_type (Stored t r) = Some t
held_type (Arrayed t r) = Some t
held_type Counter = None
held_type (Unknown sound) = None

-- a global whose type is the one that the tables have, if that has its shape
pub record GlobalTyped (tables : typing.Tables) (x : tree.Global) : Type 0 where
  pub judged : GlobalJudged tables x
  pub same : (v : What) (t : StaticType) → find tables x.name.text ≡ Some (OfValue v) → held_type v ≡ Some t → shape_of t ≡ shape_of judged.type
      → t ≡ judged.type

abbrev pub GlobalsTyped : typing.Tables → List Item → Type 0
GlobalsTyped tables [] = Unit {0}
GlobalsTyped tables (tree.GlobalItem x ∷ items) = GlobalTyped tables x × GlobalsTyped tables items
GlobalsTyped tables (tree.StructItem s ∷ items) = GlobalsTyped tables items
GlobalsTyped tables (tree.UnionItem s ∷ items) = GlobalsTyped tables items
GlobalsTyped tables (tree.FunctionItem f ∷ items) = GlobalsTyped tables items

global_typed : (world : World) (tables : typing.Tables) (x : tree.Global) → PlainTables world tables → GlobalJudged tables x → GlobalTyped tables x
global_typed world tables x plain j = by (find tables x.name.text) refl
  where
    one_type : (u v : What) (t q : StaticType) → u ≡ v → held_type u ≡ Some t → held_type v ≡ Some q → q ≡ t
    one_type u v t q e h k = let z : held_type u ≡ held_type v = ap held_type e in cc

    same_value : (u v : What) → find tables x.name.text ≡ Some (OfValue u) → find tables x.name.text ≡ Some (OfValue v) → u ≡ v
    same_value u v e h = let z : Some (OfValue u) ≡ Some (OfValue v) = sym e ∙ h in cc

    as_listed : (v : What) (t : StaticType) → find tables x.name.text ≡ Some (OfValue v) → held_type v ≡ Some t → IsObjectType t → SameShape t j.type
        → GlobalTyped tables x
    as_listed v t e h o (inl z) = record {
      judged = record {
        type = t;
        object = o;
        begins = begins_shaped (length tables) tables t o ∙
            (ap (begins_by (length tables) tables) z ∙ (sym (begins_shaped (length tables) tables j.type j.object) ∙ j.begins));
        shape = j.shape ∙ sym z;
        initial = initial_shaped t j.type x.initial o j.object z j.initial;
      };
      same = λ u q p k y. one_type v u t q (same_value v u e p) h k;
    }
    as_listed v t e h o (inr n) = record {
      judged = j;
      same = λ u q p k y. absurd (n (ap shape_of (sym (one_type v u t q (same_value v u e p) h k)) ∙ y));
    }

    -- what has no such type
    no_type : (v : What) → held_type v ≡ None → find tables x.name.text ≡ Some (OfValue v) → GlobalTyped tables x
    no_type v n e = record {
      judged = j;
      same = λ u q p k y. absurd (let z : held_type v ≡ held_type u = ap held_type (same_value v u e p) in cc);
    }

    no_value : (o : Option Entry) → find tables x.name.text ≡ o → ((v : What) → o ≡ Some (OfValue v) → ⊥) → GlobalTyped tables x
    no_value o e n = record { judged = j; same = λ u q p k y. absurd (n u (sym e ∙ p)) }

    by : (o : Option Entry) → find tables x.name.text ≡ o → GlobalTyped tables x
    by (Some (OfValue (Stored t r))) e =
        let o : IsObjectType t = plain x.name.text (OfValue (Stored t r)) e in as_listed (Stored t r) t e refl o (objects_shaped t j.type o j.object)
    by (Some (OfValue (Arrayed t r))) e =
        let o : IsObjectType t = plain x.name.text (OfValue (Arrayed t r)) e in as_listed (Arrayed t r) t e refl o (objects_shaped t j.type o j.object)
    by (Some (OfValue Counter)) e = no_type Counter refl e
    by (Some (OfValue (Unknown sound))) e = no_type (Unknown sound) refl e
    by None e = no_value None e (λ v q. cc)
    by (Some (OfTag t)) e = no_value (Some (OfTag t)) e (λ v q. cc)
    by (Some (OfFunction s)) e = no_value (Some (OfFunction s)) e (λ v q. cc)
    by (Some (OfBuiltin n)) e = no_value (Some (OfBuiltin n)) e (λ v q. cc)
    by (Some OfOther) e = no_value (Some OfOther) e (λ v q. cc)

pub globals_typed : (world : World) (tables : typing.Tables) (items : List Item) → PlainTables world tables → GlobalsJudged tables items
    → GlobalsTyped tables items
globals_typed world tables [] plain h = tt
globals_typed world tables (tree.GlobalItem x ∷ items) plain h = (global_typed world tables x plain h.0, globals_typed world tables items plain h.1)
globals_typed world tables (tree.StructItem s ∷ items) plain h = globals_typed world tables items plain h
globals_typed world tables (tree.UnionItem s ∷ items) plain h = globals_typed world tables items plain h
globals_typed world tables (tree.FunctionItem f ∷ items) plain h = globals_typed world tables items plain h
