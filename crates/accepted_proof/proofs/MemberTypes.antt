-- The members of a struct or a union without fault: they are objects, and a struct or a union among them stands earlier.
use Rattle.std.proofs.Common.{◌≡◌, ℕ, Bool, true, false, Option, Some, None, List, [], ◌∷◌, refl, sym, subst, ap, ◌∙◌}
use Rattle.std.specs.Prelude.{◌&&◌, ◌||◌, bytes_eq, map, not}
use Rattle.std.proofs.lemmas.Bool.{and_parts, false≢true, not-true}
use Rattle.std.proofs.lemmas.Slice.Eq.{bytes_eq-Decides}
use Rattle.cyc_tree.specs.declared.name.Sign.{Sign}
use Rattle.cyc_tree.specs.declared.name.Sign.TheVariants as sign
use Rattle.cyc_tree.specs.Tree as tree
use Rattle.cyc_tree.specs.Tree.{Pointer, TypeName}
use Rattle.source_meaning.specs.Shapes as shapes
use Rattle.source_meaning.specs.Shapes.{FatShape, Owner, Shape, StructShape, ThinShape, UnionShape, part_of}
use Rattle.type_proof.specs.Entries.{AreObjects, IsObjectType}
use Rattle.type_proof.specs.Flat.{Declared}
use Rattle.source_typing.specs.Named.{TypesBelow, NamesBelow}
use Rattle.type_proof.specs.Structs.{AreMemberTypes, AreMembers, AreNamedApart, AreUnionMembers, IsMemberType, IsNewName, IsUnionMember, declares}
use Rattle.type_proof.proofs.invariant.Layouts.{same_text}
use Rattle.source_typing.specs.Declarations.{stands_earlier}
use Rattle.source_typing.specs.Faults.{Fault, name_rule, test}
use Rattle.source_typing.specs.Scope.{Env}
use Rattle.source_typing.specs.Tables.{Arrayed, Counter, Entry, OfBuiltin, OfFunction, OfOther, OfTag, OfValue, Stored, Tables, Tag, Unknown, find}
use Rattle.source_typing.specs.Tags.{fits_member, member_faults, member_fitting, member_type, is_named, parts_by, repeated, settled_alone}
use Rattle.source_typing.specs.Types.{Char, Fat, Handle, Int, Key, Null, StaticType, Struct, Thin, Union, Unique, Unsigned, Void, same_bool, shape_of}
use Rattle.source_typing.specs.Verdicts.{Faulty, Of, Verdict, after, faults_of, if_fits, known}
use Rattle.source_typing.specs.Written.{Found, all_found, if_sound, of_kind, spots_of, tag_of, written, written_on}
use Rattle.source_typing.proofs.Inversion.{none_of_both, test_is}
use Rattle.accepted_proof.specs.Good.{Surely}
use Rattle.accepted_proof.proofs.good.Pointers.{IsWritten}
use Rattle.accepted_proof.proofs.good.Types.{KnowsTags, MeansKnown, scope_written}
use Rattle.accepted_proof.proofs.HeadTypes.{GivesNothing, GivesObject, ObjectGood, PlainGood, alone_good}
use Rattle.accepted_proof.proofs.Sure.{surely_after, surely_is}

-- ---- the type of a member

pub record MemberGood (n : ℕ) (g : Env) (union : Bool) (t : TypeName) (u : StaticType) : Type 0 where
  pub good : ObjectGood n t u
  pub fits : fits_member union u ≡ true
  pub stands : stands_earlier g u ≡ true

member_fits : (n : ℕ) (g : Env) (union : Bool) (at : ℕ) (t : TypeName) (u : StaticType) → PlainGood n t u
    → Surely (λ z. MemberGood n g union t z) (member_fitting g union at u)
member_fits n g union at t u (GivesNothing v e) = subst (λ z. Surely (λ y. MemberGood n g union t y) (member_fitting g union at z)) (sym e) (nothing union)
  where
    nothing : (b : Bool) → Surely (λ y. MemberGood n g b t y) (member_fitting g b at Void)
    nothing true = tt
    nothing false = tt
member_fits n g union at t u (GivesObject w) = by (fits_member union u && stands_earlier g u) refl
  where
    by : (b : Bool) → fits_member union u && stands_earlier g u ≡ b → Surely (λ z. MemberGood n g union t z) (if_fits b at u)
    by true e =
        let a = and_parts (fits_member union u) (stands_earlier g u) e in record { good = w; fits = a.0; stands = a.1 }
    by false e = tt

pub member_good : (n : ℕ) (g : Env) (union : Bool) (t : TypeName) → KnowsTags g.tables → NamesBelow n g.names
    → Surely (λ u. MemberGood n g union t u) (member_type g union t)
member_good n g union t tags h =
    surely_after (λ u. PlainGood n t u) (λ u. MemberGood n g union t u) (after (written g.tables g.names t) (settled_alone t.at)) (member_fitting g union t.at)
    (surely_after (λ p. IsWritten true n t p) (λ u. PlainGood n t u) (written g.tables g.names t) (settled_alone t.at)
    (scope_written n g.tables g.names t tags h)
    (λ p w. alone_good true n t.at t p w))
    (λ u k. member_fits n g union t.at t u k)

-- ---- a member's tag is one of the tables

abbrev pub IsPointerShape : Shape → Type 0
IsPointerShape (ThinShape b o s) = Unit {0}
IsPointerShape (FatShape s) = Unit {0}
IsPointerShape _ = ⊥

pub sign_pointer : (x : Sign) (o : Owner) (s : Shape) → IsPointerShape (shapes.signed_shape x o s)
sign_pointer (sign.Nullable count) o s = tt
sign_pointer (sign.NotNull count) o s = tt
sign_pointer sign.Fat o s = tt

pub still_pointer : (ps : List Pointer) (s : Shape) → IsPointerShape s → IsPointerShape (shapes.pointed ps s)
still_pointer [] s h = h
still_pointer (p ∷ ps) s h =
    still_pointer ps (shapes.signed_shape p.sign (shapes.owner_of p.region) s) (sign_pointer p.sign (shapes.owner_of p.region) s)

no_struct : (s : Shape) (tag : List ℕ) → IsPointerShape s → shapes.settled s ≡ StructShape tag → ⊥
no_struct (ThinShape b o s) tag h e = cc
no_struct (FatShape s) tag h e = cc
no_struct _ tag h e = h

no_union : (s : Shape) (tag : List ℕ) → IsPointerShape s → shapes.settled s ≡ UnionShape tag → ⊥
no_union (ThinShape b o s) tag h e = cc
no_union (FatShape s) tag h e = cc
no_union _ tag h e = h

-- a name that is no tag of that kind has a fault
pub record TagFound (g : Tables) (union : Bool) (y : List ℕ) : Type 0 where
  pub tag : Tag
  pub is : find g y ≡ Some (OfTag tag)
  pub kind : tag.is_union ≡ union

tag_found : (g : Tables) (union : Bool) (at : ℕ) (y : List ℕ) (rest : Verdict ℕ → Verdict StaticType)
    → ((f : Fault) (fs : List Fault) → faults_of (rest (Faulty f fs)) ≡ [] → ⊥)
    → KnowsTags g → faults_of (rest (tag_of (find g y) union at)) ≡ [] → TagFound g union y
tag_found g union at y rest faulty tags p = by (find g y) refl (tags y) p
  where
    of : (t : Tag) (a b : Bool) → find g y ≡ Some (OfTag t) → t.is_union ≡ a → union ≡ b → faults_of (rest (of_kind (same_bool a b) t at)) ≡ []
        → TagFound g union y
    of t true true q e d r = record { tag = t; is = q; kind = e ∙ sym d }
    of t false false q e d r = record { tag = t; is = q; kind = e ∙ sym d }
    of t true false q e d r = absurd (faulty _ _ r)
    of t false true q e d r = absurd (faulty _ _ r)

    by : (o : Option Entry) → find g y ≡ o → MeansKnown o → faults_of (rest (tag_of o union at)) ≡ [] → TagFound g union y
    by None q k p = absurd (faulty _ _ p)
    by (Some (OfTag t)) q k p =
        of t t.is_union union q refl refl (subst (λ b. faults_of (rest (if_sound b (of_kind (same_bool t.is_union union) t at))) ≡ []) k p)
    by (Some (OfFunction s)) q k p = absurd (faulty _ _ p)
    by (Some (OfValue (Stored t r))) q k p = absurd (faulty _ _ p)
    by (Some (OfValue (Arrayed t r))) q k p = absurd (faulty _ _ p)
    by (Some (OfValue Counter)) q k p = absurd (faulty _ _ p)
    by (Some (OfValue (Unknown sound))) q k p = absurd k
    by (Some (OfBuiltin n)) q k p = absurd (faulty _ _ p)
    by (Some OfOther) q k p = absurd (faulty _ _ p)

-- the rest of a member's judgement, once its tag was looked up
abbrev member_after : Env → Bool → TypeName → List Found × List Fault → Verdict ℕ → Verdict StaticType
member_after g union t (fs, bad) v = after (after (written_on t fs bad v) (settled_alone t.at)) (member_fitting g union t.at)

member_faulty : (g : Env) (union : Bool) (t : TypeName) (fs : List Found × List Fault) (f : Fault) (others : List Fault)
    → faults_of (member_after g union t fs (Faulty f others)) ≡ [] → ⊥
member_faulty g union t (fs, bad) f others p = cc

module _ (g : Env) (union : Bool) (tag : List ℕ) (tags : KnowsTags g.tables) where
  named : (kind : Bool) (x : tree.Name) → x.text ≡ tag → TagFound g.tables kind x.text → TagFound g.tables kind tag
  named kind x q h = subst (λ y. TagFound g.tables kind y) q h

  -- a type without pointers that begins with a tag
  tagged : (kind : Bool) (x : tree.Name) (t : TypeName) → x.text ≡ tag
      → faults_of (member_after g union t (all_found g.names (spots_of g.tables t)) (tag_of (find g.tables x.text) kind x.at)) ≡ []
      → TagFound g.tables kind tag
  tagged kind x t q p =
      named kind x q (tag_found g.tables kind x.at x.text (member_after g union t (all_found g.names (spots_of g.tables t)))
      (λ f fs r. member_faulty g union t (all_found g.names (spots_of g.tables t)) f fs r) tags p)

  struct_found : (t : TypeName) → shapes.settled (shapes.written t) ≡ StructShape tag
      → faults_of (member_type g union t) ≡ [] → TagFound g.tables false tag
  struct_found t s p = by t.base t.pointers s p
    where
      text_is : (x : tree.Name) → StructShape x.text ≡ StructShape tag → x.text ≡ tag
      text_is x q = cc

      by : (b : tree.Base) (ps : List Pointer) → shapes.settled (shapes.written (record { at = t.at; base = b; pointers = ps })) ≡ StructShape tag
          → faults_of (member_type g union (record { at = t.at; base = b; pointers = ps })) ≡ [] → TagFound g.tables false tag
      by b (q ∷ ps) s p =
          absurd (no_struct (shapes.pointed (q ∷ ps) (shapes.base_shape b)) tag
          (still_pointer ps (shapes.signed_shape q.sign (shapes.owner_of q.region) (shapes.base_shape b))
          (sign_pointer q.sign (shapes.owner_of q.region) (shapes.base_shape b))) s)
      by (tree.Struct x rs) [] s p = tagged false x (record { at = t.at; base = tree.Struct x rs; pointers = [] }) (text_is x s) p
      by (tree.Union x rs) [] s p = absurd cc
      by tree.Int [] s p = absurd cc
      by tree.Unsigned [] s p = absurd cc
      by tree.Char [] s p = absurd cc
      by tree.Void [] s p = absurd cc
      by (tree.Handle r) [] s p = absurd cc
      by (tree.Key r) [] s p = absurd cc

  union_found : (t : TypeName) → shapes.settled (shapes.written t) ≡ UnionShape tag
      → faults_of (member_type g union t) ≡ [] → TagFound g.tables true tag
  union_found t s p = by t.base t.pointers s p
    where
      text_is : (x : tree.Name) → UnionShape x.text ≡ UnionShape tag → x.text ≡ tag
      text_is x q = cc

      by : (b : tree.Base) (ps : List Pointer) → shapes.settled (shapes.written (record { at = t.at; base = b; pointers = ps })) ≡ UnionShape tag
          → faults_of (member_type g union (record { at = t.at; base = b; pointers = ps })) ≡ [] → TagFound g.tables true tag
      by b (q ∷ ps) s p =
          absurd (no_union (shapes.pointed (q ∷ ps) (shapes.base_shape b)) tag
          (still_pointer ps (shapes.signed_shape q.sign (shapes.owner_of q.region) (shapes.base_shape b))
          (sign_pointer q.sign (shapes.owner_of q.region) (shapes.base_shape b))) s)
      by (tree.Union x rs) [] s p = tagged true x (record { at = t.at; base = tree.Union x rs; pointers = [] }) (text_is x s) p
      by (tree.Struct x rs) [] s p = absurd cc
      by tree.Int [] s p = absurd cc
      by tree.Unsigned [] s p = absurd cc
      by tree.Char [] s p = absurd cc
      by tree.Void [] s p = absurd cc
      by (tree.Handle r) [] s p = absurd cc
      by (tree.Key r) [] s p = absurd cc

-- ---- all members

-- a tag that stands earlier was declared before: a struct's among these, and a union's among those
abbrev pub EarlierDeclared : Env → Bool → List Declared → Type 0
EarlierDeclared g kind ds =
    (tag : List ℕ) (t : Tag) → find g.tables tag ≡ Some (OfTag t) → t.is_union ≡ kind → stands_earlier g (Struct tag []) ≡ true → declares ds tag ≡ true

-- members that fit their kind
abbrev pub AreFitting : Bool → List StaticType → Type 0
AreFitting union [] = Unit {0}
AreFitting union (t ∷ ts) = (fits_member union t ≡ true) × AreFitting union ts

-- a union that is a member was declared too
abbrev pub IsLaidType : List Declared → StaticType → Type 0
IsLaidType us (Union tag rs) = (declares us tag ≡ true)
IsLaidType us t = Unit {0}

abbrev pub AreLaidTypes : List Declared → List StaticType → Type 0
AreLaidTypes us [] = Unit {0}
AreLaidTypes us (t ∷ ts) = IsLaidType us t × AreLaidTypes us ts

-- what is known of the members of a struct or a union
pub record MembersGood (n : ℕ) (g : Env) (union : Bool) (ds us : List Declared) (ms : List tree.Member) : Type 0 where
  pub types : List StaticType
  pub members : AreMembers (parts_by g union ms) (map part_of ms) types
  pub typed : AreMemberTypes ds types
  pub laid : AreLaidTypes us types
  pub objects : AreObjects types
  pub fitting : AreFitting union types
  pub below : TypesBelow n types

module _ (n : ℕ) (g : Env) (union : Bool) (ds us : List Declared) (early : EarlierDeclared g false ds) (unions : EarlierDeclared g true us)
    (tags : KnowsTags g.tables)
  where
    member_typed : (t : TypeName) (u : StaticType) → faults_of (member_type g union t) ≡ [] → MemberGood n g union t u
        → IsMemberType ds u
    member_typed t u p k = by u k.good.object k.good.shape k.stands
      where
        by : (u : StaticType) → IsObjectType u → shapes.settled (shapes.written t) ≡ shape_of u → stands_earlier g u ≡ true → IsMemberType ds u
        by Int o s q = tt
        by Unsigned o s q = tt
        by Char o s q = tt
        by Void o s q = absurd o
        by Null o s q = absurd o
        by (Thin b r v) o s q = o
        by (Fat r v) o s q = o
        by (Unique b v) o s q = o
        by (Handle r) o s q = o
        by (Key r) o s q = o
        by (Struct tag rs) o s q = let z : TagFound g.tables false tag = struct_found g union tag tags t s p in early tag z.tag z.is z.kind q
        by (Union tag rs) o s q = o

    member_laid : (t : TypeName) (u : StaticType) → faults_of (member_type g union t) ≡ [] → MemberGood n g union t u
        → IsLaidType us u
    member_laid t u p k = by u k.good.shape k.stands
      where
        by : (u : StaticType) → shapes.settled (shapes.written t) ≡ shape_of u → stands_earlier g u ≡ true → IsLaidType us u
        by (Union tag rs) s q = let z : TagFound g.tables true tag = union_found g union tag tags t s p in unions tag z.tag z.is z.kind q
        by _ s q = tt

    pub members_good : (ms : List tree.Member) → NamesBelow n g.names → member_faults g union ms ≡ []
        → MembersGood n g union ds us ms
    members_good [] h p = record { types = []; members = tt; typed = tt; laid = tt; objects = tt; fitting = tt; below = tt }
    members_good (m ∷ ms) h p =
        let z : (faults_of (member_type g union m.of) ≡ []) × (member_faults g union ms ≡ []) =
        none_of_both (faults_of (member_type g union m.of)) (member_faults g union ms) p in
        let u : (u : StaticType) × (member_type g union m.of ≡ Of u) × MemberGood n g union m.of u =
        surely_is (λ u. MemberGood n g union m.of u) (member_type g union m.of) (member_good n g union m.of tags h) z.0 in
        let r : MembersGood n g union ds us ms = members_good ms h z.1 in
        record {
          types = u.0 ∷ r.types;
          members = (refl, ap (λ (v : Verdict StaticType). known v) u.1, u.2.good.shape, r.members);
          typed = (member_typed m.of u.0 z.0 u.2, r.typed);
          laid = (member_laid m.of u.0 z.0 u.2, r.laid);
          objects = (u.2.good.object, r.objects);
          fitting = (u.2.fits, r.fitting);
          below = (u.2.good.below, r.below);
        }

-- ---- unions

-- a member that a union may have
union_member : (t : StaticType) → IsObjectType t → fits_member true t ≡ true → IsUnionMember t
union_member Int o e = tt
union_member Unsigned o e = tt
union_member Char o e = tt
union_member (Thin n r t) o e = o
union_member (Fat r t) o e = o
union_member (Handle r) o e = tt
union_member (Unique n t) o e = absurd cc
union_member (Struct tag rs) o e = absurd cc
union_member (Union tag rs) o e = absurd cc
union_member (Key r) o e = absurd cc
union_member _ o e = absurd o

pub union_members : (ts : List StaticType) → AreObjects ts → AreFitting true ts → AreUnionMembers ts
union_members [] o e = tt
union_members (t ∷ ts) o e = (union_member t o.0 e.0, union_members ts o.1 e.1)

-- a name that isn't among those before is no later member's
new_name : (m : tree.Member) (before ms : List tree.Member) → is_named before m.name.text ≡ true → repeated before (m ∷ ms) ≡ [] → ⊥
new_name m before ms e p =
    let n : is_named before m.name.text ≡ false =
    not-true (is_named before m.name.text) (test_is (not (is_named before m.name.text)) name_rule m.name.at
    (none_of_both (test (not (is_named before m.name.text)) name_rule m.name.at) (repeated (m ∷ before) ms) p).0) in
    false≢true (sym n ∙ e)

rest_apart : (m : tree.Member) (before ms : List tree.Member) → repeated before (m ∷ ms) ≡ [] → repeated (m ∷ before) ms ≡ []
rest_apart m before ms p = (none_of_both (test (not (is_named before m.name.text)) name_rule m.name.at) (repeated (m ∷ before) ms) p).1

apart_from : (x : List ℕ) (before ms : List tree.Member) → is_named before x ≡ true → repeated before ms ≡ [] → IsNewName x (map part_of ms)
apart_from x before [] e p = tt
apart_from x before (m ∷ ms) e p =
    (different (bytes_eq m.name.text x) refl, apart_from x (m ∷ before) ms (more (bytes_eq m.name.text x)) (rest_apart m before ms p))
  where
    different : (b : Bool) → bytes_eq m.name.text x ≡ b → b ≡ false
    different true q =
        absurd (new_name m before ms (ap (λ (y : List ℕ). is_named before y) ((bytes_eq-Decides m.name.text x).0 q) ∙ e) p)
    different false q = refl

    more : (b : Bool) → b || is_named before x ≡ true
    more true = refl
    more false = e

-- the members of a union without fault have names of their own
pub named_apart : (before ms : List tree.Member) → repeated before ms ≡ [] → AreNamedApart (map part_of ms)
named_apart before [] p = tt
named_apart before (m ∷ ms) p =
    let rest : repeated (m ∷ before) ms ≡ [] = rest_apart m before ms p in
    let own : is_named (m ∷ before) m.name.text ≡ true = ap (λ (b : Bool). b || is_named before m.name.text) (same_text m.name.text) in
    (apart_from m.name.text (m ∷ before) ms own rest, named_apart (m ∷ before) ms rest)
