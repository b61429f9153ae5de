-- Tagged unions: what they may hold, and at which position.
use Rattle.std.proofs.Common.{◌≡◌, ℕ, zero, suc, ◌+◌, Bool, true, false, ◌⊎◌, inl, inr, Some, None, List, [], ◌∷◌, refl, sym, ◌∙◌, ap, subst, arith}
use Rattle.std.specs.Prelude.{bytes_eq, map, option_map, slice_get, if◌then◌else◌}
use Rattle.std.proofs.lemmas.Slice.Eq.{bytes_eq-Decides}
use Rattle.source_meaning.specs.Shapes as shapes
use Rattle.source_meaning.specs.Shapes.{Layout, part_position, part_shape, parts_of}
use Rattle.source_meaning.specs.Memory.{Region, Scalar, is_moved}
use Rattle.source_typing.specs.Regions as names
use Rattle.source_typing.specs.Tables as typing
use Rattle.source_typing.specs.Tables.{part_in}
use Rattle.source_typing.specs.Types.{StaticType, Int, Unsigned, Char, Void, Null, Thin, Fat, Unique, Handle, Key, Struct, Union, renamed, shape_of}
use Rattle.type_proof.specs.Entries.{IsObjectType, AreObjects}
use Rattle.type_proof.specs.Flat.{Declared, Tables, filled, flat, union_parts}
use Rattle.type_proof.specs.Structs.{AreMembers, AreNamedApart, AreUnionMembers, AreUnions, IsNewName, IsUnionMember}
use Rattle.type_proof.proofs.invariant.Invariant.{heap, Owner, Ghost, HasPlain, HasType}
use Rattle.type_proof.proofs.invariant.Layouts.{member_types, same_text}

-- ---- one member

-- it is an object, of one cell that carries no right
pub held_object : (t : StaticType) → IsUnionMember t → IsObjectType t
held_object Int e = tt
held_object Unsigned e = tt
held_object Char e = tt
held_object Void e = absurd e
held_object Null e = absurd e
held_object (Thin n r t) e = e
held_object (Fat r t) e = e
held_object (Unique n t) e = absurd e
held_object (Handle r) e = tt
held_object (Key r) e = absurd e
held_object (Struct tag rs) e = absurd e
held_object (Union tag rs) e = absurd e

pub held_renamed : (h : names.Region → names.Region) (t : StaticType) → ((u : StaticType) → IsObjectType u → IsObjectType (renamed h u)) → IsUnionMember t
    → IsUnionMember (renamed h t)
held_renamed h Int same e = tt
held_renamed h Unsigned same e = tt
held_renamed h Char same e = tt
held_renamed h Void same e = absurd e
held_renamed h Null same e = absurd e
held_renamed h (Thin n r t) same e = same t e
held_renamed h (Fat r t) same e = same t e
held_renamed h (Unique n t) same e = absurd e
held_renamed h (Handle r) same e = tt
held_renamed h (Key r) same e = absurd e
held_renamed h (Struct tag rs) same e = absurd e
held_renamed h (Union tag rs) same e = absurd e

pub held_cell : (d : Tables) (f : names.Region → Region) (t : StaticType) → IsUnionMember t → flat heap d (renamed f t) ≡ renamed f t ∷ []
held_cell d f Int e = refl
held_cell d f Unsigned e = refl
held_cell d f Char e = refl
held_cell d f Void e = absurd e
held_cell d f Null e = absurd e
held_cell d f (Thin n r t) e = refl
held_cell d f (Fat r t) e = refl
held_cell d f (Unique n t) e = absurd e
held_cell d f (Handle r) e = refl
held_cell d f (Key r) e = absurd e
held_cell d f (Struct tag rs) e = absurd e
held_cell d f (Union tag rs) e = absurd e

pub held_copied : (f : names.Region → Region) (t : StaticType) → IsUnionMember t → is_moved (shape_of (renamed f t)) ≡ false
held_copied f Int e = refl
held_copied f Unsigned e = refl
held_copied f Char e = refl
held_copied f Void e = absurd e
held_copied f Null e = absurd e
held_copied f (Thin n r t) e = refl
held_copied f (Fat r t) e = refl
held_copied f (Unique n t) e = absurd e
held_copied f (Handle r) e = refl
held_copied f (Key r) e = absurd e
held_copied f (Struct tag rs) e = absurd e
held_copied f (Union tag rs) e = absurd e

pub held_plain : (d : Tables) (f : names.Region → Region) (w : Ghost) (by : Owner) (v : Scalar) (t : StaticType) → IsUnionMember t
    → HasType d w by v (renamed f t)
    → HasPlain d w by v (renamed f t)
held_plain d f w by v Int e h = h
held_plain d f w by v Unsigned e h = h
held_plain d f w by v Char e h = h
held_plain d f w by v Void e h = absurd e
held_plain d f w by v Null e h = absurd e
held_plain d f w by v (Thin n r t) e h = h
held_plain d f w by v (Fat r t) e h = h
held_plain d f w by v (Unique n t) e h = absurd e
held_plain d f w by v (Handle r) e h = h
held_plain d f w by v (Key r) e h = absurd e
held_plain d f w by v (Struct tag rs) e h = absurd e
held_plain d f w by v (Union tag rs) e h = absurd e

pub plain_held : (d : Tables) (f : names.Region → Region) (w : Ghost) (by : Owner) (v : Scalar) (t : StaticType) → IsUnionMember t
    → HasPlain d w by v (renamed f t)
    → HasType d w by v (renamed f t)
plain_held d f w by v Int e h = h
plain_held d f w by v Unsigned e h = h
plain_held d f w by v Char e h = h
plain_held d f w by v Void e h = absurd e
plain_held d f w by v Null e h = absurd e
plain_held d f w by v (Thin n r t) e h = h
plain_held d f w by v (Fat r t) e h = h
plain_held d f w by v (Unique n t) e h = absurd e
plain_held d f w by v (Handle r) e h = h
plain_held d f w by v (Key r) e h = absurd e
plain_held d f w by v (Struct tag rs) e h = absurd e
plain_held d f w by v (Union tag rs) e h = absurd e

-- ---- the members of a union

pub held_objects : (ts : List StaticType) → AreUnionMembers ts → AreObjects ts
held_objects [] h = tt
held_objects (t ∷ ts) h = (held_object t h.0, held_objects ts h.1)

pub unions_typed : (ds : List Declared) (ls : List Layout) (tag : List ℕ) → AreUnions ds ls → AreUnionMembers (member_types ds tag)
unions_typed [] [] tag h = tt
unions_typed (d ∷ ds) (l ∷ ls) tag h = by (bytes_eq d.tag tag) (unions_typed ds ls tag h.2)
  where
    by : (b : Bool) → AreUnionMembers (member_types ds tag) → AreUnionMembers (if b then d.parts else member_types ds tag)
    by true others = h.0
    by false others = others
unions_typed [] (l ∷ ls) tag h = absurd h
unions_typed (d ∷ ds) [] tag h = absurd h

pub unions_apart : (ds : List Declared) (ls : List Layout) (tag : List ℕ) → AreUnions ds ls → AreNamedApart (parts_of ls tag)
unions_apart [] [] tag h = tt
unions_apart (d ∷ ds) (l ∷ ls) tag h = by (bytes_eq l.tag tag) (unions_apart ds ls tag h.2)
  where
    by : (b : Bool) → AreNamedApart (parts_of ls tag) → AreNamedApart (if b then l.parts else parts_of ls tag)
    by true others = h.1
    by false others = others
unions_apart [] (l ∷ ls) tag h = absurd h
unions_apart (d ∷ ds) [] tag h = absurd h

pub union_parts_are : (ds : List Declared) (tag : List ℕ) (rs : List Region) → union_parts heap ds tag rs ≡ map (renamed (filled heap rs)) (member_types ds tag)
union_parts_are [] tag rs = refl
union_parts_are (d ∷ ds) tag rs = by (bytes_eq d.tag tag) (union_parts_are ds tag rs)
  where
    by : (b : Bool) → union_parts heap ds tag rs ≡ map (renamed (filled heap rs)) (member_types ds tag)
        → (if b then map (renamed (filled heap rs)) d.parts else union_parts heap ds tag rs)
        ≡ map (renamed (filled heap rs)) (if b then d.parts else member_types ds tag)
    by true others = refl
    by false others = others

-- the one at a position
pub mapped_at : {A B : Type 0} (f : A → B) (xs : List A) (k : ℕ) (x : A) → slice_get xs k ≡ Some x → slice_get (map f xs) k ≡ Some (f x)
mapped_at f [] k x e = absurd cc
mapped_at f (y ∷ xs) zero x e = let z : y ≡ x = cc in ap (λ (q : _). Some (f q)) z
mapped_at f (y ∷ xs) (suc k) x e = mapped_at f xs k x e

pub at_mapped : {A B : Type 0} (f : A → B) (xs : List A) (k : ℕ) (y : B) → slice_get (map f xs) k ≡ Some y → (x : A) × (slice_get xs k ≡ Some x) × (f x ≡ y)
at_mapped f [] k y e = absurd cc
at_mapped f (x ∷ xs) zero y e = (x, refl, cc)
at_mapped f (x ∷ xs) (suc k) y e = at_mapped f xs k y e

pub held_at : (ts : List StaticType) (k : ℕ) (t : StaticType) → AreUnionMembers ts → slice_get ts k ≡ Some t → IsUnionMember t
held_at [] k t h e = absurd cc
held_at (u ∷ ts) zero t h e = let z : u ≡ t = cc in subst (λ (q : StaticType). IsUnionMember q) z h.0
held_at (u ∷ ts) (suc k) t h e = held_at ts k t h.1 e

-- ---- members by their names

-- a member that is found by its name stands at a position, and has the type there
pub record Placed (qs : List shapes.Part) (ts : List StaticType) (x : List ℕ) (part : typing.Part) : Type 0 where
  pub type : StaticType
  pub typed : part.type ≡ Some type
  pub position : ℕ
  pub found : part_position qs x ≡ Some position
  pub here : slice_get ts position ≡ Some type
  pub shape : part_shape qs x ≡ shape_of type

pub part_placed : (ps : List typing.Part) (qs : List shapes.Part) (ts : List StaticType) (x : List ℕ) (part : typing.Part) → AreMembers ps qs ts
    → part_in ps x ≡ Some part → Placed qs ts x part
part_placed [] [] [] x part h e = absurd cc
part_placed (p ∷ ps) (q ∷ qs) (t ∷ ts) x part h e =
    let r = by (bytes_eq p.name x) (bytes_eq q.name x) (ap (λ (y : List ℕ). bytes_eq y x) h.0) e (λ z. part_placed ps qs ts x part h.3 z) in
    record { type = r.0; typed = r.1; position = r.2; found = r.3; here = r.4; shape = r.5 }
  where
    by : (b c : Bool) → b ≡ c → (if b then Some p else part_in ps x) ≡ Some part → (part_in ps x ≡ Some part → Placed qs ts x part)
        → (u : StaticType) × (part.type ≡ Some u) × (k : ℕ) × ((if c then Some 0 else option_map (λ k. k + 1) (part_position qs x)) ≡ Some k)
        × (slice_get (t ∷ ts) k ≡ Some u) × ((if c then q.shape else part_shape qs x) ≡ shape_of u)
    by true true v z others =
        let same : p ≡ part = cc in
        (t, subst (λ (y : typing.Part). y.type ≡ Some t) same h.1, 0, refl, refl, h.2)
    by false false v z others =
        let r : Placed qs ts x part = others z in (
          r.type,
          r.typed,
          r.position + 1,
          ap (option_map (λ k. k + 1)) r.found,
          let more : suc r.position ≡ r.position + 1 = omega arith in subst (λ (i : ℕ). slice_get (t ∷ ts) i ≡ Some r.type) more
              (later r.position r.type r.here),
          r.shape,
        )
      where
        later : (k : ℕ) (u : StaticType) → slice_get ts k ≡ Some u → slice_get (t ∷ ts) (suc k) ≡ Some u
        later k u y = y
    by true false v z others = absurd cc
    by false true v z others = absurd cc
part_placed [] [] (t ∷ ts) x part h e = absurd h
part_placed [] (q ∷ qs) ts x part h e = absurd h
part_placed (p ∷ ps) [] ts x part h e = absurd h
part_placed (p ∷ ps) (q ∷ qs) [] x part h e = absurd h

-- a name of a member
abbrev pub Among : List ℕ → List typing.Part → Type 0
Among x [] = ⊥
Among x (p ∷ ps) = (p.name ≡ x) ⊎ Among x ps

new_absent : (x : List ℕ) (qs : List shapes.Part) → IsNewName x qs → part_position qs x ≡ None
new_absent x [] h = refl
new_absent x (q ∷ qs) h = by (bytes_eq q.name x) h.0 (new_absent x qs h.1)
  where
    by : (b : Bool) → b ≡ false → part_position qs x ≡ None → (if b then Some 0 else option_map (λ k. k + 1) (part_position qs x)) ≡ None
    by true e others = absurd cc
    by false e others = ap (option_map (λ k. k + 1)) others

-- where no two have one name, what stands at a position is found there by its name
pub record NamedAt (ps : List typing.Part) (qs : List shapes.Part) (k : ℕ) : Type 0 where
  pub name : List ℕ
  pub among : Among name ps
  pub found : part_position qs name ≡ Some k

pub position_named : (ps : List typing.Part) (qs : List shapes.Part) (ts : List StaticType) (k : ℕ) (t : StaticType) → AreMembers ps qs ts → AreNamedApart qs
    → slice_get ts k ≡ Some t → NamedAt ps qs k
position_named [] [] [] k t h a e = absurd cc
position_named (p ∷ ps) (q ∷ qs) (u ∷ ts) zero t h a e = record {
  name = q.name;
  among = inl h.0;
  found = ap (λ (b : Bool). if b then Some 0 else option_map (λ k. k + 1) (part_position qs q.name)) (same_text q.name);
}
position_named (p ∷ ps) (q ∷ qs) (u ∷ ts) (suc k) t h a e =
    let r : NamedAt ps qs k = position_named ps qs ts k t h.3 a.1 e in
    record { name = r.name; among = inr r.among; found = by r.name r.found (bytes_eq q.name r.name) refl }
  where
    by : (x : List ℕ) → part_position qs x ≡ Some k → (b : Bool) → bytes_eq q.name x ≡ b
        → (if b then Some 0 else option_map (λ k. k + 1) (part_position qs x)) ≡ Some (suc k)
    by x f true z =
        let same : q.name ≡ x = (bytes_eq-Decides q.name x).0 z in
        absurd (let gone : part_position qs x ≡ None = subst (λ (y : List ℕ). part_position qs y ≡ None) same (new_absent q.name qs a.0) in
        let c : None ≡ Some k = sym gone ∙ f in cc)
    by x f false z = ap (option_map (λ k. k + 1)) f ∙ ap (λ (i : ℕ). Some i) (omega arith)
position_named [] [] (u ∷ ts) k t h a e = absurd h
position_named [] (q ∷ qs) ts k t h a e = absurd h
position_named (p ∷ ps) [] ts k t h a e = absurd h
position_named (p ∷ ps) (q ∷ qs) [] k t h a e = absurd h
