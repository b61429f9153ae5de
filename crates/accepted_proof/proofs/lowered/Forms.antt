-- What lowering takes of an expression, by its type, where all is known of each name in scope.
use Rattle.std.proofs.Common.{◌≡◌, ℕ, ◌≤◌, Bool, true, false, Some, List, [], ◌∷◌, refl, sym, subst}
use Rattle.std.specs.Prelude.{bytes_eq, codes, map}
use Rattle.cyc_tree.specs.Tree.{Expression}
use Rattle.source_lowering.specs.Lowerable.{IsMember, IsOperandShape, IsWholeShape, Takes, TakesDropped, TakesPlace, TakesRun, TakesWhole}
use Rattle.source_lowering.specs.Lowered.{Named, call_shape, named_shape, member_shape, static_shape, valued}
use Rattle.source_meaning.specs.Shapes as shapes
use Rattle.source_meaning.specs.Shapes.{ArrayShape, Shape, StructShape, UnionShape, UnsignedShape, has_tag, part_shape, parts_of}
use Rattle.source_meaning.specs.Steps.{World}
use Rattle.source_typing.specs.Extents.{size_of}
use Rattle.source_typing.specs.Scope.{Env, Value, is_place, meant}
use Rattle.source_typing.specs.Tables.{
  Arrayed,
  Counter,
  Entry,
  OfBuiltin,
  OfFunction,
  OfOther,
  OfTag,
  OfValue,
  Part,
  Signature,
  Stored,
  Tag,
  Unknown,
  part_in,
  parts_in,
}
use Rattle.source_typing.specs.Types.{
  Char,
  Fat,
  Handle,
  Int,
  Key,
  Null,
  StaticType,
  Struct,
  Thin,
  Union,
  Unique,
  Unsigned,
  Void,
  shape_of,
}
use Rattle.type_proof.specs.Entries.{Builtin}
use Rattle.type_proof.specs.Structs.{AreMembers}
use Rattle.accepted_proof.proofs.Known.{IsKnown, IsKnownValue, IsWord, word_shape}
use Rattle.accepted_proof.proofs.lowered.Stands.{StandsAs, known_stands, operand_stands, stands_exactly}

-- ---- names

-- what a function gives: a word, or nothing
abbrev pub IsGiven : World → StaticType → Type 0
IsGiven w Void = Unit {0}
IsGiven w t = IsWord t × IsKnown w (shape_of t)

abbrev pub AreWords : List StaticType → Type 0
AreWords [] = Unit {0}
AreWords (t ∷ ts) = IsWord t × AreWords ts

-- a function of the program, which takes words
pub record KnownFunction (w : World) (x : List ℕ) (s : Signature) : Type 0 where
  pub not_read : bytes_eq x (codes "getchar") ≡ false
  pub not_written : bytes_eq x (codes "putchar") ≡ false
  pub not_made : has_tag w.structs x ≡ false
  pub sound : s.sound ≡ true
  pub types : List StaticType
  pub parameters : s.parameters ≡ map (λ t. Some t) types
  pub words : AreWords types
  pub gives : StaticType
  pub result : s.result ≡ Some gives
  pub given : IsGiven w gives
  pub shape : call_shape w x ≡ shape_of gives

abbrev pub AreKnown : World → List StaticType → Type 0
AreKnown w [] = Unit {0}
AreKnown w (t ∷ ts) = IsKnown w (shape_of t) × AreKnown w ts

-- a struct of the program, with its members
pub record KnownTag (w : World) (x : List ℕ) (t : Tag) : Type 0 where
  pub not_read : bytes_eq x (codes "getchar") ≡ false
  pub not_written : bytes_eq x (codes "putchar") ≡ false
  pub named : t.text ≡ x
  pub sound : t.sound ≡ true
  pub no_union : t.is_union ≡ false
  pub there : has_tag w.structs x ≡ true
  pub types : List StaticType
  pub members : AreMembers t.parts (parts_of w.structs x) types
  pub known : AreKnown w types

-- a union of the program, with its members, which are words
pub record KnownUnion (w : World) (x : List ℕ) (t : Tag) : Type 0 where
  pub named : t.text ≡ x
  pub sound : t.sound ≡ true
  pub union : t.is_union ≡ true
  pub there : has_tag w.unions x ≡ true
  pub types : List StaticType
  pub members : AreMembers t.parts (parts_of w.unions x) types
  pub words : AreWords types
  pub known : AreKnown w types

abbrev pub KnownKind : World → Bool → List ℕ → Tag → Type 0
KnownKind w false x t = KnownTag w x t
KnownKind w true x t = KnownUnion w x t

abbrev pub KnownEntry : World → List Named → List ℕ → Entry → Type 0
KnownEntry w names x (OfValue (Stored t r)) = StandsAs (named_shape w names x) (shape_of t) × IsKnown w (shape_of t)
KnownEntry w names x (OfValue (Arrayed t r)) = (count : ℕ) × (named_shape w names x ≡ ArrayShape count (shape_of t)) × IsKnown w (shape_of t)
KnownEntry w names x (OfValue Counter) = (named_shape w names x ≡ UnsignedShape)
KnownEntry w names x (OfValue (Unknown sound)) = ⊥
KnownEntry w names x (OfTag t) = KnownKind w t.is_union x t
KnownEntry w names x (OfFunction s) = KnownFunction w x s
KnownEntry w names x (OfBuiltin n) = Builtin x n × (has_tag w.structs x ≡ false)
KnownEntry w names x OfOther = ⊥

-- no type is an array
pub valued_type : (t : StaticType) → valued (shape_of t) ≡ shape_of t
valued_type Int = refl
valued_type Unsigned = refl
valued_type Char = refl
valued_type Void = refl
valued_type Null = refl
valued_type (Thin n r t) = refl
valued_type (Fat r t) = refl
valued_type (Unique n t) = refl
valued_type (Handle r) = refl
valued_type (Key r) = refl
valued_type (Struct tag rs) = refl
valued_type (Union tag rs) = refl

-- a member of a struct has the shape that its type says
pub record KnownMember (w : World) (tag f : List ℕ) (t : StaticType) : Type 0 where
  pub shape : member_shape w (StructShape tag) f ≡ shape_of t
  pub known : IsKnown w (shape_of t)

-- and so has one of a union, which has a number and is a word
pub record KnownChoice (w : World) (tag f : List ℕ) (t : StaticType) : Type 0 where
  pub member : IsMember (parts_of w.unions tag) f
  pub shape : part_shape (parts_of w.unions tag) f ≡ shape_of t
  pub known : IsKnown w (shape_of t)

-- all is known of each name in scope, and of the members of each struct and union; and each object has a byte at least
pub record IsKnownScope (w : World) (names : List Named) (g : Env) : Type 0 where
  pub entries : (x : List ℕ) (e : Entry) → meant g x ≡ Some e → KnownEntry w names x e
  pub members : (tag f : List ℕ) (p : Part) (t : StaticType) → has_tag w.structs tag ≡ true → part_in (parts_in g.tables tag) f ≡ Some p → p.type ≡ Some t
      → KnownMember w tag f t
  pub choices : (tag f : List ℕ) (p : Part) (t : StaticType) → has_tag w.unions tag ≡ true → part_in (parts_in g.tables tag) f ≡ Some p → p.type ≡ Some t
      → KnownChoice w tag f t
  pub sizes : (t : StaticType) → IsKnown w (shape_of t) → 1 ≤ size_of g.tables t

-- ---- expressions

module _ (w : World) (names : List Named) where
  -- a word, of the shape that its type says
  pub record TakenWord (e : Expression) (t : StaticType) : Type 0 where
    pub takes : Takes w names e
    pub shape : StandsAs (static_shape w names e) (shape_of t)

  -- a struct, of the shape that its type says
  pub record TakenStruct (e : Expression) (tag : List ℕ) : Type 0 where
    pub takes : TakesWhole w names e
    pub shape : static_shape w names e ≡ StructShape tag

  -- a union
  pub record TakenUnion (e : Expression) (tag : List ℕ) : Type 0 where
    pub takes : TakesWhole w names e
    pub shape : static_shape w names e ≡ UnionShape tag

  -- as a value of a type; `void` has none
  abbrev pub TakenAs : StaticType → Expression → Type 0
  TakenAs Void e = Unit {0}
  TakenAs (Struct tag rs) e = TakenStruct e tag
  TakenAs (Union tag rs) e = TakenUnion e tag
  TakenAs t e = TakenWord e t

  pub record TakenPlace (e : Expression) (t : StaticType) : Type 0 where
    pub takes : TakesPlace w names e
    pub shape : StandsAs (static_shape w names e) (shape_of t)
    pub known : IsKnown w (shape_of t)

  -- an expression that lowering takes: as a value of its type, where its value is dropped, and as a place where it is one
  pub record IsTaken (e : Expression) (v : Value) : Type 0 where
    pub known : IsKnownValue w v.type
    pub value : TakenAs v.type e
    pub run : TakesRun w names e
    pub place : is_place v.seat ≡ true → TakenPlace e v.type

  -- ---- by the type

  pub word_is : (t : StaticType) (e : Expression) → IsWord t → TakenAs t e → TakenWord e t
  word_is Void e h k = absurd h
  word_is (Struct tag rs) e h k = absurd h
  word_is Null e h k = k
  word_is Int e h k = k
  word_is Unsigned e h k = k
  word_is Char e h k = k
  word_is (Thin n r t) e h k = k
  word_is (Fat r t) e h k = k
  word_is (Unique n t) e h k = k
  word_is (Handle r) e h k = k
  word_is (Key r) e h k = k
  word_is (Union tag rs) e h k = absurd h

  pub word_as : (t : StaticType) (e : Expression) → IsWord t → TakenWord e t → TakenAs t e
  word_as Void e h k = absurd h
  word_as (Struct tag rs) e h k = absurd h
  word_as Null e h k = k
  word_as Int e h k = k
  word_as Unsigned e h k = k
  word_as Char e h k = k
  word_as (Thin n r t) e h k = k
  word_as (Fat r t) e h k = k
  word_as (Unique n t) e h k = k
  word_as (Handle r) e h k = k
  word_as (Key r) e h k = k
  word_as (Union tag rs) e h k = absurd h

  -- a word, or nothing, whose value is dropped
  dropped_shape : (s : Shape) (e : Expression) → IsOperandShape s → Takes w names e → TakesDropped w names s e
  dropped_shape (StructShape tag) e h k = absurd h
  dropped_shape shapes.IntShape e h k = k
  dropped_shape shapes.UnsignedShape e h k = k
  dropped_shape shapes.CharShape e h k = k
  dropped_shape shapes.VoidShape e h k = k
  dropped_shape (shapes.ThinShape n o t) e h k = k
  dropped_shape (shapes.FatShape t) e h k = k
  dropped_shape shapes.HandleShape e h k = k
  dropped_shape shapes.KeyShape e h k = k
  dropped_shape (UnionShape tag) e h k = absurd h
  dropped_shape (shapes.ArrayShape n t) e h k = k

  pub dropped_word : (t : StaticType) (e : Expression) → IsWord t → TakenWord e t → TakesDropped w names (static_shape w names e) e
  dropped_word t e h k =
      dropped_shape (static_shape w names e) e (operand_stands (static_shape w names e) (shape_of t) k.shape (word_shape t h)) k.takes

  -- a word that is no place
  pub taken_word : (e : Expression) (v : Value) (t : StaticType) → v.type ≡ t → (is_place v.seat ≡ true → ⊥) → IsWord t → IsKnownValue w t
      → TakenWord e t → (TakesDropped w names (static_shape w names e) e → TakesRun w names e) → IsTaken e v
  taken_word e v t q s h k d run = record {
    known = subst (λ z. IsKnownValue w z) (sym q) k;
    value = subst (λ z. TakenAs z e) (sym q) (word_as t e h d);
    run = run (dropped_word t e h d);
    place = λ z. absurd (s z);
  }

  -- a place is taken as a value too: as a struct, as a union, or as a word
  struct_there : (tag : List ℕ) → has_tag w.structs tag ≡ true → (s : Shape) → s ≡ StructShape tag → IsWholeShape w.unions w.structs s
  struct_there tag h s e = subst (λ z. IsWholeShape w.unions w.structs z) (sym e) h

  union_there : (tag : List ℕ) → has_tag w.unions tag ≡ true → (s : Shape) → s ≡ UnionShape tag → IsWholeShape w.unions w.structs s
  union_there tag h s e = subst (λ z. IsWholeShape w.unions w.structs z) (sym e) h

  -- the shape of a place of a struct or a union is its type's
  place_word : (t : StaticType) (e : Expression) → IsWord t → TakenPlace e t → (IsOperandShape (static_shape w names e) → Takes w names e) → TakenWord e t
  place_word t e i p word =
      record { takes = word (operand_stands (static_shape w names e) (shape_of t) p.shape (word_shape t i)); shape = p.shape }

  place_value : (t : StaticType) (e : Expression) → TakenPlace e t → (IsOperandShape (static_shape w names e) → Takes w names e)
      → (TakesPlace w names e × IsWholeShape w.unions w.structs (static_shape w names e) → TakesWhole w names e) → TakenAs t e
  place_value Void e p word whole = tt
  place_value (Struct tag rs) e p word whole =
      let shape : static_shape w names e ≡ StructShape tag = stands_exactly (static_shape w names e) (StructShape tag) p.shape tt in
      record { takes = whole (p.takes, struct_there tag p.known (static_shape w names e) shape); shape = shape }
  place_value (Union tag rs) e p word whole =
      let shape : static_shape w names e ≡ UnionShape tag = stands_exactly (static_shape w names e) (UnionShape tag) p.shape tt in
      record { takes = whole (p.takes, union_there tag p.known (static_shape w names e) shape); shape = shape }
  place_value Null e p word whole = place_word Null e tt p word
  place_value Int e p word whole = place_word Int e tt p word
  place_value Unsigned e p word whole = place_word Unsigned e tt p word
  place_value Char e p word whole = place_word Char e tt p word
  place_value (Thin n r t) e p word whole = place_word (Thin n r t) e tt p word
  place_value (Fat r t) e p word whole = place_word (Fat r t) e tt p word
  place_value (Unique n t) e p word whole = place_word (Unique n t) e tt p word
  place_value (Handle r) e p word whole = place_word (Handle r) e tt p word
  place_value (Key r) e p word whole = place_word (Key r) e tt p word

  place_dropped : (t : StaticType) (e : Expression) → TakenPlace e t → (IsOperandShape (static_shape w names e) → Takes w names e)
      → (TakesPlace w names e × IsWholeShape w.unions w.structs (static_shape w names e) → TakesWhole w names e)
      → TakesDropped w names (static_shape w names e) e
  place_dropped t e p word whole =
      by (static_shape w names e) word whole (known_stands w (static_shape w names e) (shape_of t) p.shape p.known)
    where
      by : (s : Shape) → (IsOperandShape s → Takes w names e) → (TakesPlace w names e × IsWholeShape w.unions w.structs s → TakesWhole w names e)
          → IsKnown w s → TakesDropped w names s e
      by (StructShape tag) word whole k = whole (p.takes, k)
      by shapes.IntShape word whole k = word tt
      by shapes.UnsignedShape word whole k = word tt
      by shapes.CharShape word whole k = word tt
      by shapes.VoidShape word whole k = word tt
      by (shapes.ThinShape n o s) word whole k = word tt
      by (shapes.FatShape s) word whole k = word tt
      by shapes.HandleShape word whole k = word tt
      by shapes.KeyShape word whole k = word tt
      by (UnionShape tag) word whole k = whole (p.takes, k)
      by (shapes.ArrayShape n s) word whole k = word tt

  pub taken_place : (e : Expression) (v : Value) (t : StaticType) → v.type ≡ t → TakenPlace e t → IsKnownValue w t
      → (IsOperandShape (static_shape w names e) → Takes w names e)
      → (TakesPlace w names e × IsWholeShape w.unions w.structs (static_shape w names e) → TakesWhole w names e)
      → (TakesDropped w names (static_shape w names e) e → TakesRun w names e) → IsTaken e v
  taken_place e v t q p k word whole run = record {
    known = subst (λ z. IsKnownValue w z) (sym q) k;
    value = subst (λ z. TakenAs z e) (sym q) (place_value t e p word whole);
    run = run (place_dropped t e p word whole);
    place = λ s. subst (λ z. TakenPlace e z) (sym q) p;
  }

  -- ---- parentheses

  grouped_as : (t : StaticType) (at : ℕ) (e : Expression) → TakenAs t e → TakenAs t (Expression.Grouped at e)
  grouped_as Void at e h = tt
  grouped_as (Struct tag rs) at e h = record { takes = h.takes; shape = h.shape }
  grouped_as Null at e h = record { takes = h.takes; shape = h.shape }
  grouped_as Int at e h = record { takes = h.takes; shape = h.shape }
  grouped_as Unsigned at e h = record { takes = h.takes; shape = h.shape }
  grouped_as Char at e h = record { takes = h.takes; shape = h.shape }
  grouped_as (Thin n r t) at e h = record { takes = h.takes; shape = h.shape }
  grouped_as (Fat r t) at e h = record { takes = h.takes; shape = h.shape }
  grouped_as (Unique n t) at e h = record { takes = h.takes; shape = h.shape }
  grouped_as (Handle r) at e h = record { takes = h.takes; shape = h.shape }
  grouped_as (Key r) at e h = record { takes = h.takes; shape = h.shape }
  grouped_as (Union tag rs) at e h = record { takes = h.takes; shape = h.shape }

  pub taken_grouped : (at : ℕ) (e : Expression) (a : Value) → IsTaken e a
      → IsTaken (Expression.Grouped at e) (record { at = at; type = a.type; seat = a.seat })
  taken_grouped at e a h = record {
    known = h.known;
    value = grouped_as a.type at e h.value;
    run = h.run;
    place = λ z. let p : TakenPlace e a.type = h.place z in record { takes = p.takes; shape = p.shape; known = p.known };
  }
