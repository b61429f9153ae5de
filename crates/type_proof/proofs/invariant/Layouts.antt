-- The cells of structs: they are those of their members in order, and they agree with the shapes that the program has.
use Rattle.std.proofs.Common.{◌≡◌, ◌≤◌, ℕ, zero, suc, Bool, true, false, inl, None, List, [], ◌∷◌, ◌++◌, refl, sym, ◌∙◌, ap, subst, arith}
use Rattle.std.specs.Prelude.{map, length, bytes_eq, if◌then◌else◌}
use Rattle.std.proofs.lemmas.Bool.{false≢true, and_parts}
use Rattle.std.proofs.lemmas.List.{map-append}
use Rattle.std.proofs.lemmas.Slice.Eq.{bytes_eq-Decides}
use Rattle.source_meaning.specs.Shapes as shapes
use Rattle.source_meaning.specs.Shapes.{Shape, Layout, has_tag, parts_of}
use Rattle.source_meaning.specs.Sizes.{repeated, cells_by, all_cells, struct_cells}
use Rattle.source_meaning.specs.Memory as memory
use Rattle.source_meaning.specs.Memory.{Region, Scalar, Integer, AsInt, AsUnsigned, AsChar, Holds, first_content}
use Rattle.source_meaning.specs.Steps.{World}
use Rattle.source_typing.specs.Regions as names
use Rattle.source_typing.specs.Tables as typing
use Rattle.source_typing.specs.Tables.{parts_in, each_part, if_known, begins, has_beginning}
use Rattle.source_typing.specs.Types.{StaticType, Int, Unsigned, Char, Void, Null, Thin, Fat, Unique, Handle, Key, Struct, Union, renamed, shape_of}
use Rattle.type_proof.specs.Entries.{IsObjectType, PlainTables}
use Rattle.type_proof.specs.Flat.{Declared, Tables, filled, flat, flat_by, flat_all, struct_flat}
use Rattle.type_proof.specs.Structs.{declares, IsMemberType, AreMemberTypes, AreInOrder, AreMembers, AreLaidOut, AreUnions}
use Rattle.type_proof.proofs.invariant.Invariant.{RunType, heap, Owner, Ghost, HasType}
use Rattle.type_proof.proofs.invariant.Arguments.{Agrees}
use Rattle.type_proof.proofs.invariant.Sound.{shape_renamed}

-- ---- a tag and the types of its members

pub same_text : (xs : List ℕ) → bytes_eq xs xs ≡ true
same_text xs = (bytes_eq-Decides xs xs).1 refl

abbrev pub member_types : List Declared → List ℕ → List StaticType
member_types [] tag = []
member_types (d ∷ ds) tag = (if bytes_eq d.tag tag then d.parts else member_types ds tag)

-- the cells of a struct that was declared, where those before it are these
abbrev cells : List Declared → RunType → List RunType
cells ds t = flat_by (struct_flat heap ds) t

-- a later struct has another tag
apart : (ds : List Declared) (x y : List ℕ) (b : Bool) → bytes_eq x y ≡ b → declares ds x ≡ false → declares ds y ≡ true → b ≡ false
apart ds x y true e n h = absurd (false≢true (sym n ∙ (ap (declares ds) ((bytes_eq-Decides x y).0 e) ∙ h)))
apart ds x y false e n h = refl

declares_more : (b : Bool) (d : Bool) → d ≡ true → (if b then true else d) ≡ true
declares_more true d e = refl
declares_more false d e = e

member_more : (d : Declared) (ds : List Declared) (t : StaticType) → IsMemberType ds t → IsMemberType (d ∷ ds) t
member_more d ds Int h = h
member_more d ds Unsigned h = h
member_more d ds Char h = h
member_more d ds Void h = h
member_more d ds Null h = h
member_more d ds (Thin n r t) h = h
member_more d ds (Fat r t) h = h
member_more d ds (Unique n t) h = h
member_more d ds (Handle r) h = h
member_more d ds (Key r) h = h
member_more d ds (Struct tag rs) h = declares_more (bytes_eq d.tag tag) (declares ds tag) h
member_more d ds (Union tag rs) h = h

all_more : (d : Declared) (ds : List Declared) (ts : List StaticType) → AreMemberTypes ds ts → AreMemberTypes (d ∷ ds) ts
all_more d ds [] h = tt
all_more d ds (t ∷ ts) h = (member_more d ds t h.0, all_more d ds ts h.1)

-- the members of each struct are words, or structs that are declared
pub members_typed : (ds : List Declared) (tag : List ℕ) → AreInOrder ds → AreMemberTypes ds (member_types ds tag)
members_typed [] tag h = tt
members_typed (d ∷ ds) tag h = by (bytes_eq d.tag tag) (members_typed ds tag h.2)
  where
    by : (b : Bool) → AreMemberTypes ds (member_types ds tag) → AreMemberTypes (d ∷ ds) (if b then d.parts else member_types ds tag)
    by true others = all_more d ds d.parts h.1
    by false others = all_more d ds (member_types ds tag) others

pub member_object : (ds : List Declared) (t : StaticType) → IsMemberType ds t → IsObjectType t
member_object ds Int h = h
member_object ds Unsigned h = h
member_object ds Char h = h
member_object ds Void h = h
member_object ds Null h = h
member_object ds (Thin n r t) h = h
member_object ds (Fat r t) h = h
member_object ds (Unique n t) h = h
member_object ds (Handle r) h = h
member_object ds (Key r) h = h
member_object ds (Struct tag rs) h = tt
member_object ds (Union tag rs) h = h

-- ---- a struct's cells are those of its members

cells_more : (d : Declared) (ds : List Declared) (f : names.Region → Region) (t : StaticType) → IsMemberType ds t → declares ds d.tag ≡ false
    → cells (d ∷ ds) (renamed f t) ≡ cells ds (renamed f t)
cells_more d ds f Int h n = refl
cells_more d ds f Unsigned h n = refl
cells_more d ds f Char h n = refl
cells_more d ds f Void h n = refl
cells_more d ds f Null h n = refl
cells_more d ds f (Thin c r t) h n = refl
cells_more d ds f (Fat r t) h n = refl
cells_more d ds f (Unique c t) h n = refl
cells_more d ds f (Handle r) h n = refl
cells_more d ds f (Key r) h n = refl
cells_more d ds f (Struct tag rs) h n =
    ap (λ (b : Bool). if b then flat_all (cells ds) (map (renamed (filled heap (map f rs))) d.parts) else struct_flat heap ds tag (map f rs))
    (apart ds d.tag tag (bytes_eq d.tag tag) refl n h)
cells_more d ds f (Union tag rs) h n = refl

all_cells_more : (d : Declared) (ds : List Declared) (f : names.Region → Region) (ts : List StaticType) → AreMemberTypes ds ts → declares ds d.tag ≡ false
    → flat_all (cells (d ∷ ds)) (map (renamed f) ts) ≡ flat_all (cells ds) (map (renamed f) ts)
all_cells_more d ds f [] h n = refl
all_cells_more d ds f (t ∷ ts) h n =
    let a : cells (d ∷ ds) (renamed f t) ≡ cells ds (renamed f t) = cells_more d ds f t h.0 n in
    let b : flat_all (cells (d ∷ ds)) (map (renamed f) ts) ≡ flat_all (cells ds) (map (renamed f) ts) = all_cells_more d ds f ts h.1 n in
    ap (λ (xs : List RunType). xs ++ flat_all (cells (d ∷ ds)) (map (renamed f) ts)) a ∙ ap (λ (xs : List RunType). cells ds (renamed f t) ++ xs) b

pub struct_is : (ds : List Declared) (tag : List ℕ) (rs : List Region) → AreInOrder ds
    → struct_flat heap ds tag rs ≡ flat_all (cells ds) (map (renamed (filled heap rs)) (member_types ds tag))
struct_is [] tag rs h = refl
struct_is (d ∷ ds) tag rs h = by (bytes_eq d.tag tag) (struct_is ds tag rs h.2)
  where
    by : (b : Bool) → struct_flat heap ds tag rs ≡ flat_all (cells ds) (map (renamed (filled heap rs)) (member_types ds tag))
        → (if b then flat_all (cells ds) (map (renamed (filled heap rs)) d.parts) else struct_flat heap ds tag rs)
        ≡ flat_all (cells (d ∷ ds)) (map (renamed (filled heap rs)) (if b then d.parts else member_types ds tag))
    by true others = sym (all_cells_more d ds (filled heap rs) d.parts h.1 h.0)
    by false others =
        others
        ∙ sym (all_cells_more d ds (filled heap rs) (member_types ds tag) (members_typed ds tag h.2) h.0)

-- ---- the shapes of the program are those of these types

module _ (ls : List Layout) (ds : List Declared)
    (each : (tag : List ℕ) (rs : List Region) → struct_cells ls tag ≡ map shape_of (struct_flat heap ds tag rs)) where
  type_agrees : (t : RunType) → cells_by (struct_cells ls) (shape_of t) ≡ map shape_of (cells ds t)
  type_agrees Int = refl
  type_agrees Unsigned = refl
  type_agrees Char = refl
  type_agrees Void = refl
  type_agrees Null = refl
  type_agrees (Thin n r t) = refl
  type_agrees (Fat r t) = refl
  type_agrees (Unique n t) = refl
  type_agrees (Handle r) = refl
  type_agrees (Key r) = refl
  type_agrees (Struct tag rs) = each tag rs
  type_agrees (Union tag rs) = refl

  members_agree : (f : names.Region → Region) (ps : List typing.Part) (qs : List shapes.Part) (ts : List StaticType) → AreMembers ps qs ts
      → all_cells (cells_by (struct_cells ls)) qs ≡ map shape_of (flat_all (cells ds) (map (renamed f) ts))
  members_agree f [] [] [] h = refl
  members_agree f (p ∷ ps) (q ∷ qs) (t ∷ ts) h =
      let a : cells_by (struct_cells ls) q.shape ≡ map shape_of (cells ds (renamed f t)) =
      ap (cells_by (struct_cells ls)) (h.2 ∙ sym (shape_renamed f t)) ∙ type_agrees (renamed f t) in
      ap (λ (xs : List Shape). xs ++ all_cells (cells_by (struct_cells ls)) qs) a
      ∙ (ap (λ (xs : List Shape). map shape_of (cells ds (renamed f t)) ++ xs) (members_agree f ps qs ts h.3)
      ∙ sym (map-append shape_of (cells ds (renamed f t)) (flat_all (cells ds) (map (renamed f) ts))))
  members_agree f [] [] (t ∷ ts) h = absurd h
  members_agree f [] (q ∷ qs) ts h = absurd h
  members_agree f (p ∷ ps) [] ts h = absurd h
  members_agree f (p ∷ ps) (q ∷ qs) [] h = absurd h

structs_agree : (tables : typing.Tables) (ds : List Declared) (ls : List Layout) → AreLaidOut tables ds ls → (tag : List ℕ) (rs : List Region)
    → struct_cells ls tag ≡ map shape_of (struct_flat heap ds tag rs)
structs_agree tables [] [] h tag rs = refl
structs_agree tables (d ∷ ds) (l ∷ ls) h tag rs =
    ap (λ (x : List ℕ). if bytes_eq x tag then all_cells (cells_by (struct_cells ls)) l.parts else struct_cells ls tag) h.0
    ∙ by (bytes_eq d.tag tag) (structs_agree tables ds ls h.2)
  where
    by : (b : Bool) → ((x : List ℕ) (qs : List Region) → struct_cells ls x ≡ map shape_of (struct_flat heap ds x qs))
        → (if b then all_cells (cells_by (struct_cells ls)) l.parts else struct_cells ls tag)
        ≡ map shape_of (if b then flat_all (cells ds) (map (renamed (filled heap rs)) d.parts) else struct_flat heap ds tag rs)
    by true others = members_agree ls ds others (filled heap rs) (parts_in tables d.tag) l.parts d.parts h.1
    by false others = others tag rs
structs_agree tables [] (l ∷ ls) h tag rs = absurd h
structs_agree tables (d ∷ ds) [] h tag rs = absurd h

pub all_agree : (tables : typing.Tables) (ds : List Declared) (ls : List Layout) → AreLaidOut tables ds ls → (t : RunType)
    → cells_by (struct_cells ls) (shape_of t) ≡ map shape_of (cells ds t)
all_agree tables ds ls h t = type_agrees ls ds (structs_agree tables ds ls h) t

-- the members of a struct that the program has
pub members_at : (tables : typing.Tables) (ds : List Declared) (ls : List Layout) (tag : List ℕ) → AreLaidOut tables ds ls → has_tag ls tag ≡ true
    → AreMembers (parts_in tables tag) (parts_of ls tag) (member_types ds tag)
members_at tables [] [] tag h e = absurd (false≢true e)
members_at tables (d ∷ ds) (l ∷ ls) tag h e =
    by (bytes_eq l.tag tag) (bytes_eq d.tag tag) refl (ap (λ (x : List ℕ). bytes_eq x tag) h.0) (λ z. members_at tables ds ls tag h.2 z) e
  where
    by : (b c : Bool) → bytes_eq d.tag tag ≡ c → b ≡ c
        → (has_tag ls tag ≡ true → AreMembers (parts_in tables tag) (parts_of ls tag) (member_types ds tag)) → (if b then true else has_tag ls tag) ≡ true
        → AreMembers (parts_in tables tag) (if b then l.parts else parts_of ls tag) (if c then d.parts else member_types ds tag)
    by true true q p others z = subst (λ (x : List ℕ). AreMembers (parts_in tables x) l.parts d.parts) ((bytes_eq-Decides d.tag tag).0 q) h.1
    by false false q p others z = others z
    by true false q p others z = absurd (false≢true (sym p))
    by false true q p others z = absurd (false≢true p)
members_at tables [] (l ∷ ls) tag h e = absurd h
members_at tables (d ∷ ds) [] tag h e = absurd h

-- ---- how they begin

-- a cell that holds a value from the start, which carries no right
pub record BeginsWith (t : RunType) : Type 0 where
  pub value : Scalar
  pub first : first_content (shape_of t) ≡ Holds value
  pub typed : (d : Tables) (w : Ghost) (by : Owner) → HasType d w by value t

abbrev pub AllBegin : List RunType → Type 0
AllBegin [] = Unit {0}
AllBegin (t ∷ ts) = BeginsWith t × AllBegin ts

both_begin : (xs ys : List RunType) → AllBegin xs → AllBegin ys → AllBegin (xs ++ ys)
both_begin [] ys h k = k
both_begin (x ∷ xs) ys h k = (h.0, both_begin xs ys h.1 k)

-- each element of an array begins as its type does
pub all_begin : (n : ℕ) (xs : List RunType) → AllBegin xs → AllBegin (repeated n xs)
all_begin zero xs h = tt
all_begin (suc n) xs h = both_begin xs (repeated n xs) h (all_begin n xs h)

pointer_begins : (c : shapes.Reach) (r : Region) (t : RunType) → shapes.may_be_null c ≡ true → BeginsWith (Thin c r t)
pointer_begins (shapes.MayBeNull count) r t e =
    record { value = memory.Thin None; first = refl; typed = λ d w by. inl (record { allowed = refl; is = refl }) }
pointer_begins (shapes.NeverNull count) r t e = absurd (false≢true e)

unique_begins : (c : Bool) (t : RunType) → c ≡ true → BeginsWith (Unique c t)
unique_begins true t e = record { value = memory.Thin None; first = refl; typed = λ d w by. inl (record { allowed = refl; is = refl }) }
unique_begins false t e = absurd (false≢true e)

no_cells : (ds : List Declared) (tag : List ℕ) (rs : List Region) → length ds ≤ 0 → AllBegin (struct_flat heap ds tag rs)
no_cells [] tag rs l = tt
no_cells (d ∷ ds) tag rs l = absurd (omega (arith, l))

module _ (tables : typing.Tables) where
  -- what the rules let begin, with so many structs to look into
  abbrev StructsBegin : List Declared → Type 0
  StructsBegin ds = (n : ℕ) (tag : List ℕ) (rs : List Region) → length ds ≤ suc n → each_part (begins n tables) (parts_in tables tag) ≡ true
      → AllBegin (struct_flat heap ds tag rs)

  type_begins : (ds : List Declared) → StructsBegin ds → (n : ℕ) (f : names.Region → Region) (t : StaticType) → IsObjectType t → length ds ≤ n
      → begins n tables t ≡ true → AllBegin (cells ds (renamed f t))
  type_begins ds each n f Int o l e = (record { value = Integer AsInt 0; first = refl; typed = λ d w by. record { word = 0; is = refl } }, tt)
  type_begins ds each n f Unsigned o l e = (record { value = Integer AsUnsigned 0; first = refl; typed = λ d w by. record { word = 0; is = refl } }, tt)
  type_begins ds each n f Char o l e = (record { value = Integer AsChar 0; first = refl; typed = λ d w by. record { word = 0; is = refl } }, tt)
  type_begins ds each n f Void o l e = absurd o
  type_begins ds each n f Null o l e = absurd o
  type_begins ds each n f (Thin c r t) o l e = (pointer_begins c (f r) (renamed f t) e, tt)
  type_begins ds each n f (Fat r t) o l e = (record { value = memory.Wide None; first = refl; typed = λ d w by. inl refl }, tt)
  type_begins ds each n f (Unique c t) o l e = (unique_begins c (renamed f t) e, tt)
  type_begins ds each n f (Handle r) o l e = absurd (false≢true e)
  type_begins ds each n f (Key r) o l e = absurd (false≢true e)
  type_begins ds each zero f (Struct tag rs) o l e = no_cells ds tag (map f rs) l
  type_begins ds each (suc n) f (Struct tag rs) o l e = each n tag (map f rs) l e
  type_begins ds each n f (Union tag rs) o l e = absurd (false≢true e)

  members_begin : (ds : List Declared) → StructsBegin ds → (n : ℕ) (f : names.Region → Region) (ps : List typing.Part) (qs : List shapes.Part)
      (ts : List StaticType) → AreMembers ps qs ts → AreMemberTypes ds ts → length ds ≤ n → each_part (begins n tables) ps ≡ true
      → AllBegin (flat_all (cells ds) (map (renamed f) ts))
  members_begin ds each n f [] [] [] h o l e = tt
  members_begin ds each n f (p ∷ ps) (q ∷ qs) (t ∷ ts) h o l e =
      let z : (if_known (begins n tables) p.type ≡ true) × (each_part (begins n tables) ps ≡ true) =
      and_parts (if_known (begins n tables) p.type) (each_part (begins n tables) ps) e in
      both_begin (cells ds (renamed f t)) (flat_all (cells ds) (map (renamed f) ts))
      (type_begins ds each n f t (member_object ds t o.0) l (sym (ap (if_known (begins n tables)) h.1) ∙ z.0))
      (members_begin ds each n f ps qs ts h.3 o.1 l z.1)
  members_begin ds each n f [] [] (t ∷ ts) h o l e = absurd h
  members_begin ds each n f [] (q ∷ qs) ts h o l e = absurd h
  members_begin ds each n f (p ∷ ps) [] ts h o l e = absurd h
  members_begin ds each n f (p ∷ ps) (q ∷ qs) [] h o l e = absurd h

  structs_begin : (ds : List Declared) (ls : List Layout) → AreLaidOut tables ds ls → AreInOrder ds → StructsBegin ds
  structs_begin [] [] h o n tag rs l e = tt
  structs_begin (d ∷ ds) (x ∷ ls) h o n tag rs l e = by (bytes_eq d.tag tag) refl (structs_begin ds ls h.2 o.2)
    where
      by : (b : Bool) → bytes_eq d.tag tag ≡ b → StructsBegin ds
          → AllBegin (if b then flat_all (cells ds) (map (renamed (filled heap rs)) d.parts) else struct_flat heap ds tag rs)
      by true q others = members_begin ds others n (filled heap rs) (parts_in tables d.tag) x.parts d.parts h.1 o.1 (omega (arith, l))
          (subst (λ (y : List ℕ). each_part (begins n tables) (parts_in tables y) ≡ true) (sym ((bytes_eq-Decides d.tag tag).0 q)) e)
      by false q others = others n tag rs (omega (arith, l)) e
  structs_begin [] (x ∷ ls) h o n tag rs l e = absurd h
  structs_begin (d ∷ ds) [] h o n tag rs l e = absurd h

-- ---- the structs of a program

-- what is known of them, and of its unions
pub record Structs (d : Tables) (world : World) (tables : typing.Tables) : Type 0 where
  pub in_order : AreInOrder d.structs
  pub laid_out : AreLaidOut tables d.structs world.structs
  pub few : length d.structs ≤ length tables
  pub plain : PlainTables world tables
  pub unions_laid : AreLaidOut tables d.unions world.unions
  pub unions : AreUnions d.unions world.unions

pub agrees : (d : Tables) (world : World) (tables : typing.Tables) → Structs d world tables → Agrees world d
agrees d world tables h t = all_agree tables d.structs world.structs h.laid_out t

-- a type that begins without an initializer has cells that do
pub cells_begin : (d : Tables) (world : World) (tables : typing.Tables) (f : names.Region → Region) (t : StaticType) → Structs d world tables → IsObjectType t
    → has_beginning tables t ≡ true → AllBegin (flat heap d (renamed f t))
cells_begin d world tables f t h o e =
    type_begins tables d.structs (structs_begin tables d.structs world.structs h.laid_out h.in_order) (length tables) f t o h.few e
