-- Believed, for this crate's laws: what is known of the names in scope where a phrase is judged, and what is then known of the phrase.
use Rattle.std.specs.Prelude.{◌≡◌, ◌≤◌, ℕ, true, false, Option, Some, None, List, [], ◌∷◌, map}
use Rattle.cyc_tree.specs.Operands.{ItemsHaveOperands}
use Rattle.cyc_tree.specs.Tree.{BlockItems, Expression}
use Rattle.type_proof.specs.Entries.{AreObjects, IsObjectType, IsPlain}
use Rattle.type_proof.specs.Judged.{ItemsJudged}
use Rattle.type_proof.specs.Members.{names_union}
use Rattle.source_typing.specs.Named.{Below, TypeBelow, TypesBelow, NamesBelow}
use Rattle.source_typing.specs.Expressions.{judge}
use Rattle.source_typing.specs.Scope.{Enclosing, Env, In, InBlock, InRegion, InUnique, Local, NotKnown, Nowhere, Seat, Value, in_scope, is_place}
use Rattle.source_typing.specs.Statements.{items_faults}
use Rattle.source_typing.specs.Calls.{part_types}
use Rattle.source_typing.specs.Tables.{Arrayed, Counter, Entry, OfBuiltin, OfFunction, OfTag, OfValue, Part, Signature, Stored, Tables, Tag, What, find, tag_in}
use Rattle.source_typing.specs.Types.{Fat, Null, StaticType, Struct, Thin, TypeIn, Unique, Void}
use Rattle.source_typing.specs.Verdicts.{Faulty, Of, Unjudged, Verdict}

-- ---- names

-- A function whose head has no fault: it takes objects and gives one or nothing, and its types speak of its region variables and the heap alone.
pub record IsGoodSignature (s : Signature) : Type 0 where
  pub sound : s.sound ≡ true
  pub types : List StaticType
  pub parameters : s.parameters ≡ map (λ t. Some t) types
  pub objects : AreObjects types
  pub types_below : TypesBelow s.regions types
  pub gives : StaticType
  pub result : s.result ≡ Some gives
  pub plain : IsPlain gives
  pub gives_below : TypeBelow s.regions gives

-- A struct or a union without fault: its members are objects, whose types speak of its region parameters and the heap alone.
pub record IsGoodTag (t : Tag) : Type 0 where
  pub sound : t.sound ≡ true
  pub types : List StaticType
  pub parts : part_types t.parts ≡ map (λ t. Some t) types
  pub objects : AreObjects types
  pub types_below : TypesBelow t.regions types

-- a variable or an array, whose type and place speak of region names in scope alone; the index of an array that is made; a struct; or a function
abbrev pub IsGoodEntry : ℕ → Entry → Type 0
IsGoodEntry count (OfValue (Stored t r)) = IsObjectType t × TypeBelow count t × Below count r
IsGoodEntry count (OfValue (Arrayed t r)) = IsObjectType t × TypeBelow count t × Below count r
IsGoodEntry count (OfValue Counter) = Unit {0}
IsGoodEntry count (OfTag t) = IsGoodTag t
IsGoodEntry count (OfFunction s) = IsGoodSignature s
IsGoodEntry count (OfBuiltin n) = Unit {0}
IsGoodEntry count _ = ⊥

abbrev pub AllGood : ℕ → Tables → Type 0
AllGood count [] = Unit {0}
AllGood count (n ∷ ns) = IsGoodEntry count n.entry × AllGood count ns

-- the region of the `rnew` around, or the heap: one that is in scope, or the unique one
abbrev pub IsAround : ℕ → Enclosing → Type 0
IsAround count (InRegion r) = Below count r
IsAround count InUnique = Unit {0}
IsAround count NotKnown = ⊥

-- ---- structs by their tags

-- each struct that a type names has such a tag
abbrev pub NamesStructs : {R : Type 0} → (List ℕ → Type 0) → TypeIn R → Type 0
NamesStructs P (Thin n r t) = NamesStructs P t
NamesStructs P (Fat r t) = NamesStructs P t
NamesStructs P (Unique n t) = NamesStructs P t
NamesStructs P (Struct tag rs) = P tag
NamesStructs P t = Unit {0}

abbrev pub NamesIfKnown : (List ℕ → Type 0) → Option StaticType → Type 0
NamesIfKnown P None = Unit {0}
NamesIfKnown P (Some t) = NamesStructs P t

abbrev pub PartsName : (List ℕ → Type 0) → List Part → Type 0
PartsName P [] = Unit {0}
PartsName P (p ∷ ps) = NamesIfKnown P p.type × PartsName P ps

-- a tag that a name means: a struct's is such a tag
pub record TagNames (P : List ℕ → Type 0) (x : List ℕ) (t : Tag) : Type 0 where
  pub text : t.text ≡ x
  pub struct : t.is_union ≡ false → P x
  pub parts : PartsName P t.parts

abbrev pub WhatNames : (List ℕ → Type 0) → What → Type 0
WhatNames P (Stored t r) = NamesStructs P t
WhatNames P (Arrayed t r) = NamesStructs P t
WhatNames P w = Unit {0}

abbrev pub EntryNames : (List ℕ → Type 0) → List ℕ → Entry → Type 0
EntryNames P x (OfValue w) = WhatNames P w
EntryNames P x (OfTag t) = TagNames P x t
EntryNames P x (OfFunction s) = NamesIfKnown P s.result
EntryNames P x e = Unit {0}

abbrev pub MeansNamed : (List ℕ → Type 0) → List ℕ → Option Entry → Type 0
MeansNamed P x None = Unit {0}
MeansNamed P x (Some e) = EntryNames P x e

abbrev pub LocalsName : (List ℕ → Type 0) → List Local → Type 0
LocalsName P [] = Unit {0}
LocalsName P (l ∷ ls) = WhatNames P l.what × LocalsName P ls

-- the types of all names in scope name structs by such tags
pub record KnowsKinds (P : List ℕ → Type 0) (g : Env) : Type 0 where
  pub tables : (x : List ℕ) → MeansNamed P x (find g.tables x)
  pub locals : LocalsName P g.locals

-- a tag that is no union's
abbrev pub IsStructTag : Tables → List ℕ → Type 0
IsStructTag g tag = (names_union (tag_in g tag) ≡ false)

-- ---- scopes

-- no local is of a block further in
abbrev pub AreWithin : ℕ → List Local → Type 0
AreWithin n [] = Unit {0}
AreWithin n (l ∷ ls) = (l.block ≤ n) × AreWithin n ls

-- all is known of each name in scope
pub record IsGood (g : Env) : Type 0 where
  pub names : AllGood g.regions.count (in_scope g)
  pub regions : NamesBelow g.regions.count g.names
  pub frame : Below g.regions.count g.frame
  pub enclosing : IsAround g.regions.count g.enclosing
  pub kinds : KnowsKinds (IsStructTag g.tables) g
  pub blocks : AreWithin g.block g.locals

-- ---- expressions

-- a phrase has a fault, or it is in order, and this holds of it
abbrev pub Surely : {A : Type 0} → (A → Type 0) → Verdict A → Type 0
Surely P (Of a) = P a
Surely P (Faulty f fs) = Unit {0}
Surely P Unjudged = ⊥

-- what an expression may be: an object, `NULL`, or nothing
abbrev pub IsValueType : StaticType → Type 0
IsValueType Null = Unit {0}
IsValueType Void = Unit {0}
IsValueType t = IsObjectType t

-- a place lies in a region that is in scope, or in the block of a unique pointer
abbrev pub SeatBelow : ℕ → Seat → Type 0
SeatBelow count Nowhere = Unit {0}
SeatBelow count (In r) = Below count r
SeatBelow count InBlock = Unit {0}

-- what is known of an expression without fault
pub record IsGoodValue (g : Env) (v : Value) : Type 0 where
  pub type : IsValueType v.type
  pub below : TypeBelow g.regions.count v.type
  pub seat : SeatBelow g.regions.count v.seat
  pub object : is_place v.seat ≡ true → IsObjectType v.type

-- each expression has a fault, or it is in order
abbrev pub ExpressionsJudged : Type 0
ExpressionsJudged = (e : Expression) (g : Env) → IsGood g → Surely (λ v. IsGoodValue g v) (judge g e)

-- ---- the body of a function that gives a type

-- a body in which the rules find no fault is in order
abbrev pub BodiesJudged : Type 0
BodiesJudged = (items : BlockItems) (g : Env) (gives : StaticType) → IsGood g → g.result ≡ Some gives → IsPlain gives
    → ItemsHaveOperands items → items_faults g true items ≡ [] → ItemsJudged g true items
