-- What the rules say of words and structs: which are tested, what is a place, what an assignment gives, and what a pointer leads to.
use Rattle.std.proofs.Common.{◌≡◌, ℕ, suc, Bool, true, false, refl, sym, ap, arith}
use Rattle.std.specs.Prelude.{◌&&◌, ◌||◌, nat_eq}
use Rattle.std.proofs.lemmas.Bool.{eqb-true}
use Rattle.cyc_tree.specs.declared.expression.Operator.{Operator}
use Rattle.source_meaning.specs.Shapes.{Reach, Shape, pointee}
use Rattle.source_typing.specs.Verdicts.{Of, after, if_fits}
use Rattle.source_typing.specs.Operators.{on_integers, applied_to, compared_thin, compared, fat_moved, if_equality, integers_joined, is_equality, is_move}
use Rattle.source_typing.specs.Places as places
use Rattle.source_typing.specs.Places.{assigned_type}
use Rattle.source_typing.specs.Regions.{Regions}
use Rattle.source_typing.specs.Scope.{Env, Value, Seat, Nowhere, In, InBlock, value, is_live}
use Rattle.source_typing.specs.Types.{
  StaticType,
  Int,
  Unsigned,
  Char,
  Void,
  Null,
  Thin,
  Fat,
  Unique,
  Handle,
  Key,
  Struct,
  Union,
  is_integer,
  is_pointer,
  is_null,
  is_same,
  is_testable,
  shape_of,
}
use Rattle.source_typing.proofs.Inversion.{of_is, unless_is}
use Rattle.type_proof.proofs.invariant.Names.{NameOf}
use Rattle.source_typing.specs.Named.{Below, TypeBelow}
use Rattle.type_proof.proofs.expressions.Words.{IsObjectType, IsWordType, IsSimple}

pub testable_word : (t : StaticType) → IsSimple t → is_testable t ≡ true → IsWordType t
testable_word Int p e = tt
testable_word Unsigned p e = tt
testable_word Char p e = tt
testable_word Void p e = absurd cc
testable_word Null p e = absurd cc
testable_word (Thin n r t) p e = p
testable_word (Fat r t) p e = p
testable_word (Unique n t) p e = p
testable_word (Handle r) p e = absurd cc
testable_word (Key r) p e = absurd cc
testable_word (Struct tag rs) p e = absurd cc
testable_word (Union tag rs) p e = absurd cc

-- a value that is no place, and its type
pub record Valued (v : Value) (t : StaticType) : Type 0 where
  pub type : v.type ≡ t
  pub seat : v.seat ≡ Nowhere

pub value_of : (at : ℕ) (t : StaticType) (v : Value) → value at t ≡ Of v → Valued v t
value_of at t v e =
    let z : record { at = at; type = t; seat = Nowhere } ≡ v = of_is (record { at = at; type = t; seat = Nowhere }) v e in
    record { type = ap (λ (y : Value). y.type) (sym z); seat = ap (λ (y : Value). y.seat) (sym z) }

-- what an operator gives is no place
null_seat : (c : Bool) (at : ℕ) (v : Value) → after (if_fits c at Int) (value at) ≡ Of v → v.seat ≡ Nowhere
null_seat true at v e = (value_of at Int v e).seat
null_seat false at v e = absurd cc

thin_seat : (g : Env) (at : ℕ) (c : Bool) (r q : NameOf) (v : Value) → compared_thin g at c r q ≡ Of v → v.seat ≡ Nowhere
thin_seat g at true r q v e = (value_of at Int v (unless_is _ (value at Int) v e).1).seat
thin_seat g at false r q v e = absurd cc

compared_seat : (g : Env) (at : ℕ) (a b : StaticType) (v : Value) → IsSimple a → IsSimple b → compared g at a b ≡ Of v → v.seat ≡ Nowhere
compared_seat g at Int b v p q e = null_seat ((is_pointer Int && is_null b) || (is_null Int && is_pointer b)) at v e
compared_seat g at Unsigned b v p q e = null_seat ((is_pointer Unsigned && is_null b) || (is_null Unsigned && is_pointer b)) at v e
compared_seat g at Char b v p q e = null_seat ((is_pointer Char && is_null b) || (is_null Char && is_pointer b)) at v e
compared_seat g at Void b v p q e = null_seat ((is_pointer Void && is_null b) || (is_null Void && is_pointer b)) at v e
compared_seat g at Null b v p q e = null_seat ((is_pointer Null && is_null b) || (is_null Null && is_pointer b)) at v e
compared_seat g at (Thin n r t) Int v p q e = null_seat false at v e
compared_seat g at (Thin n r t) Unsigned v p q e = null_seat false at v e
compared_seat g at (Thin n r t) Char v p q e = null_seat false at v e
compared_seat g at (Thin n r t) Void v p q e = null_seat false at v e
compared_seat g at (Thin n r t) Null v p q e = null_seat true at v e
compared_seat g at (Thin n r t) (Thin m s u) v p q e = thin_seat g at (is_same t u) r s v e
compared_seat g at (Thin n r t) (Fat s u) v p q e = null_seat false at v e
compared_seat g at (Thin n r t) (Unique m u) v p q e = null_seat false at v e
compared_seat g at (Thin n r t) (Handle s) v p q e = null_seat false at v e
compared_seat g at (Thin n r t) (Key s) v p q e = null_seat false at v e
compared_seat g at (Thin n r t) (Struct tag rs) v p q e = null_seat false at v e
compared_seat g at (Thin n r t) (Union tag rs) v p q e = null_seat false at v e
compared_seat g at (Fat r t) b v p q e = null_seat ((is_pointer (Fat r t) && is_null b) || (is_null (Fat r t) && is_pointer b)) at v e
compared_seat g at (Unique n t) b v p q e =
    null_seat ((is_pointer (Unique n t) && is_null b) || (is_null (Unique n t) && is_pointer b)) at v e
compared_seat g at (Handle r) b v p q e = null_seat ((is_pointer (Handle r) && is_null b) || (is_null (Handle r) && is_pointer b)) at v e
compared_seat g at (Key r) b v p q e = null_seat ((is_pointer (Key r) && is_null b) || (is_null (Key r) && is_pointer b)) at v e
compared_seat g at (Struct tag rs) b v p q e =
    null_seat ((is_pointer (Struct tag rs) && is_null b) || (is_null (Struct tag rs) && is_pointer b)) at v e
compared_seat g at (Union tag rs) b v p q e =
    null_seat ((is_pointer (Union tag rs) && is_null b) || (is_null (Union tag rs) && is_pointer b)) at v e

equality_seat : (c : Bool) (g : Env) (at : ℕ) (a b : StaticType) (v : Value) → IsSimple a → IsSimple b → if_equality c g at a b ≡ Of v → v.seat ≡ Nowhere
equality_seat true g at a b v p q e = compared_seat g at a b v p q e
equality_seat false g at a b v p q e = absurd cc

joined_seat : (c : Bool) (g : Env) (o : Operator) (at : ℕ) (a b : StaticType) (v : Value) → IsSimple a → IsSimple b → integers_joined c g o at a b ≡ Of v
    → v.seat ≡ Nowhere
joined_seat true g o at a b v p q e = (value_of at (on_integers o a b) v e).seat
joined_seat false g o at a b v p q e = equality_seat (is_equality o) g at a b v p q e

moved_seat : (c : Bool) (g : Env) (o : Operator) (at : ℕ) (r : NameOf) (t b : StaticType) (v : Value) → IsSimple (Fat r t) → IsSimple b
    → fat_moved c g o at (Fat r t) b ≡ Of v → v.seat ≡ Nowhere
moved_seat true g o at r t b v p q e = (value_of at (Fat r t) v e).seat
moved_seat false g o at r t b v p q e = equality_seat (is_equality o) g at (Fat r t) b v p q e

pub applied_seat : (g : Env) (o : Operator) (at : ℕ) (a b : StaticType) (v : Value) → IsSimple a → IsSimple b → applied_to g o at a b ≡ Of v → v.seat ≡ Nowhere
applied_seat g o at Int b v p q e = joined_seat (is_integer Int && is_integer b) g o at Int b v p q e
applied_seat g o at Unsigned b v p q e = joined_seat (is_integer Unsigned && is_integer b) g o at Unsigned b v p q e
applied_seat g o at Char b v p q e = joined_seat (is_integer Char && is_integer b) g o at Char b v p q e
applied_seat g o at Void b v p q e = joined_seat (is_integer Void && is_integer b) g o at Void b v p q e
applied_seat g o at Null b v p q e = joined_seat (is_integer Null && is_integer b) g o at Null b v p q e
applied_seat g o at (Thin n r t) b v p q e = joined_seat (is_integer (Thin n r t) && is_integer b) g o at (Thin n r t) b v p q e
applied_seat g o at (Fat r t) b v p q e = moved_seat (is_move o && is_integer b) g o at r t b v p q e
applied_seat g o at (Unique n t) b v p q e = joined_seat (is_integer (Unique n t) && is_integer b) g o at (Unique n t) b v p q e
applied_seat g o at (Handle r) b v p q e = joined_seat (is_integer (Handle r) && is_integer b) g o at (Handle r) b v p q e
applied_seat g o at (Key r) b v p q e = joined_seat (is_integer (Key r) && is_integer b) g o at (Key r) b v p q e
applied_seat g o at (Struct tag rs) b v p q e = joined_seat (is_integer (Struct tag rs) && is_integer b) g o at (Struct tag rs) b v p q e
applied_seat g o at (Union tag rs) b v p q e = joined_seat (is_integer (Union tag rs) && is_integer b) g o at (Union tag rs) b v p q e

-- what is tested, and `-e` and `~e`
pub fitted : (b : Bool) (at place : ℕ) (t : StaticType) (v : Value) → after (if_fits b at t) (value place) ≡ Of v → (b ≡ true) × Valued v t
fitted true at place t v e = (refl, value_of place t v e)
fitted false at place t v e = absurd cc

-- what an assignment gives: the stored value, but of a struct, a union, a unique pointer or a key nothing
abbrev pub given_type : StaticType → StaticType
given_type (Struct tag rs) = Void
given_type (Union tag rs) = Void
given_type (Unique n t) = Void
given_type (Key r) = Void
given_type t = t

pub assigned_object : (g : Env) (t : StaticType) → IsObjectType t → assigned_type g t ≡ given_type t
assigned_object g Int e = refl
assigned_object g Unsigned e = refl
assigned_object g Char e = refl
assigned_object g Void e = absurd e
assigned_object g Null e = absurd e
assigned_object g (Thin n r t) e = refl
assigned_object g (Fat r t) e = refl
assigned_object g (Unique n t) e = refl
assigned_object g (Handle r) e = refl
assigned_object g (Key r) e = refl
assigned_object g (Struct tag rs) e = refl
assigned_object g (Union tag rs) e = refl

pub given_simple : (t : StaticType) → IsObjectType t → IsSimple (given_type t)
given_simple Int e = tt
given_simple Unsigned e = tt
given_simple Char e = tt
given_simple Void e = absurd e
given_simple Null e = absurd e
given_simple (Thin n r t) e = e
given_simple (Fat r t) e = e
given_simple (Unique n t) e = tt
given_simple (Handle r) e = tt
given_simple (Key r) e = tt
given_simple (Struct tag rs) e = tt
given_simple (Union tag rs) e = tt

pub given_below : (n : ℕ) (t : StaticType) → IsObjectType t → TypeBelow n t → TypeBelow n (given_type t)
given_below n Int e h = h
given_below n Unsigned e h = h
given_below n Char e h = h
given_below n Void e h = absurd e
given_below n Null e h = absurd e
given_below n (Thin c r t) e h = h
given_below n (Fat r t) e h = h
given_below n (Unique c t) e h = tt
given_below n (Handle r) e h = h
given_below n (Key r) e h = tt
given_below n (Struct tag rs) e h = tt
given_below n (Union tag rs) e h = tt

pub given_shaped : (t : StaticType) (s : Shape) → IsObjectType t → s ≡ shape_of t → (given_type t ≡ Void → ⊥) → s ≡ shape_of (given_type t)
given_shaped Int s e h n = h
given_shaped Unsigned s e h n = h
given_shaped Char s e h n = h
given_shaped Void s e h n = absurd e
given_shaped Null s e h n = absurd e
given_shaped (Thin c r t) s e h n = h
given_shaped (Fat r t) s e h n = h
given_shaped (Unique c t) s e h n = absurd (n refl)
given_shaped (Handle r) s e h n = h
given_shaped (Key r) s e h n = absurd (n refl)
given_shaped (Struct tag rs) s e h n = absurd (n refl)
given_shaped (Union tag rs) s e h n = absurd (n refl)

-- ---- what a pointer leads to

-- a place is in a region in scope, or in a block
abbrev pub SeatBelow : ℕ → Seat → Type 0
SeatBelow n Nowhere = Unit {0}
SeatBelow n (In r) = Below n r
SeatBelow n InBlock = Unit {0}

-- and live
abbrev pub SeatKnown : Regions → Seat → Type 0
SeatKnown g Nowhere = Unit {0}
SeatKnown g (In r) = Below g.count r × (g.live r ≡ true)
SeatKnown g InBlock = Unit {0}

-- a live region; whether a block is there is no matter of the rules
abbrev pub SeatLives : Env → Seat → Type 0
SeatLives g Nowhere = Unit {0}
SeatLives g (In r) = (is_live g r ≡ true)
SeatLives g InBlock = Unit {0}

-- a pointer to a place of a type: a thin or a fat one into a region, or a unique one to its block
pub data IsPointer : StaticType → Seat → StaticType → Type 0 where
  IsThin : {n : Reach} {r : NameOf} {t : StaticType} → IsPointer (Thin n r t) (In r) t
  IsFat : {r : NameOf} {t : StaticType} → IsPointer (Fat r t) (In r) t
  IsUnique : {n : Bool} {t : StaticType} → IsPointer (Unique n t) InBlock t

-- what it leads to is an object
pub pointer_object : (t u : StaticType) (s : Seat) → IsPointer t s u → IsSimple t → IsObjectType u
pointer_object t u s IsThin p = p
pointer_object t u s IsFat p = p
pointer_object t u s IsUnique p = p

pub pointer_some : (t u : StaticType) (s : Seat) → IsPointer t s u → t ≡ Void → ⊥
pointer_some t u s IsThin z = cc
pointer_some t u s IsFat z = cc
pointer_some t u s IsUnique z = cc

-- in a region that is in scope
pub pointer_below : (n : ℕ) (t u : StaticType) (s : Seat) → IsPointer t s u → TypeBelow n t → SeatBelow n s × TypeBelow n u
pointer_below n t u s IsThin h = h
pointer_below n t u s IsFat h = h
pointer_below n t u s IsUnique h = (tt, h)

-- and its shape is the one that the pointer's shape says
pub pointer_shape : (t u : StaticType) (s : Seat) → IsPointer t s u → pointee (shape_of t) ≡ shape_of u
pointer_shape t u s IsThin = refl
pointer_shape t u s IsFat = refl
pointer_shape t u s IsUnique = refl

-- what `*e` takes: a pointer into a live region, or a unique one
pub record Pointed (g : Env) (at : ℕ) (t : StaticType) (v : Value) : Type 0 where
  pub seat : Seat
  pub to : StaticType
  pub is : IsPointer t seat to
  pub live : SeatLives g seat
  pub value_is : record { at = at; type = to; seat = seat } ≡ v

in_live_is : (c : Bool) (at : ℕ) (t : StaticType) (r : NameOf) (v : Value) → places.in_live c at t r ≡ Of v → (c ≡ true)
    × (record { at = at; type = t; seat = In r } ≡ v)
in_live_is true at t r v e = (refl, of_is (record { at = at; type = t; seat = In r }) v e)
in_live_is false at t r v e = absurd cc

-- `*e` of such a pointer is a place there
pub pointer_contents : (g : Env) (at : ℕ) (t u : StaticType) (s : Seat) → IsPointer t s u → SeatLives g s
    → places.contents_of g at t ≡ Of (record { at = at; type = u; seat = s })
pointer_contents g at t u s (IsThin {r = r}) e = ap (λ (c : Bool). places.in_live c at u r) e
pointer_contents g at t u s (IsFat {r = r}) e = ap (λ (c : Bool). places.in_live c at u r) e
pointer_contents g at t u s IsUnique e = refl

pub contents_is : (g : Env) (at : ℕ) (t : StaticType) (v : Value) → IsSimple t → places.contents_of g at t ≡ Of v → Pointed g at t v
contents_is g at Int v p e = absurd cc
contents_is g at Unsigned v p e = absurd cc
contents_is g at Char v p e = absurd cc
contents_is g at Void v p e = absurd cc
contents_is g at Null v p e = absurd cc
contents_is g at (Thin n r t) v p e =
    let z : (is_live g r ≡ true) × (record { at = at; type = t; seat = In r } ≡ v) = in_live_is (is_live g r) at t r v e in
    record { seat = In r; to = t; is = IsThin; live = z.0; value_is = z.1 }
contents_is g at (Fat r t) v p e =
    let z : (is_live g r ≡ true) × (record { at = at; type = t; seat = In r } ≡ v) = in_live_is (is_live g r) at t r v e in
    record { seat = In r; to = t; is = IsFat; live = z.0; value_is = z.1 }
contents_is g at (Unique n t) v p e =
    record { seat = InBlock; to = t; is = IsUnique; live = tt; value_is = of_is (record { at = at; type = t; seat = InBlock }) v e }
contents_is g at (Handle r) v p e = absurd cc
contents_is g at (Key r) v p e = absurd cc
contents_is g at (Struct tag rs) v p e = absurd cc
contents_is g at (Union tag rs) v p e = absurd cc

-- ---- counts

pub not_more : (k : ℕ) → nat_eq 0 (suc k) ≡ true → ⊥
not_more k e = let q : 0 ≡ suc k = eqb-true 0 (suc k) e in omega (arith, q)
