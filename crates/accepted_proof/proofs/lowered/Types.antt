-- A type whose tag is one of the program's: each struct in its shape is one too, and lowering takes the type.
use Rattle.std.proofs.Common.{◌≡◌, ℕ, Bool, true, false, Option, Some, None, List, [], ◌∷◌, refl, sym, subst}
use Rattle.cyc_tree.specs.declared.name.Sign.{Sign}
use Rattle.cyc_tree.specs.declared.name.Sign.TheVariants as sign
use Rattle.cyc_tree.specs.Tree as tree
use Rattle.cyc_tree.specs.Tree.{Pointer, TypeName}
use Rattle.source_lowering.specs.Lowerable as lowering
use Rattle.source_lowering.specs.Lowerable.{GivesNothing, GivesWord, HasBeginning, IsKnownIn, IsOperandShape, IsObjectBase, IsTarget, TakesResult}
use Rattle.source_lowering.specs.Taken.{HasFirst, IsIntType, IsVoidType}
use Rattle.source_meaning.specs.Shapes.{MayBeNull, NeverNull, single}
use Rattle.source_meaning.specs.Shapes.{Alone, ArrayShape, CharShape, FatShape, HandleShape, IntShape, KeyShape, Shape, StructShape, ThinShape, UnionShape}
use Rattle.source_meaning.specs.Shapes.{UnsignedShape, VoidShape, base_shape, has_tag, owner_of, pointed, settled, settled_by, signed_shape, written}
use Rattle.source_meaning.specs.Steps.{World}
use Rattle.type_proof.specs.Entries.{IsObjectType, IsPlain}
use Rattle.source_typing.specs.Faults.{Fault}
use Rattle.source_typing.specs.Tables.{Entry, OfBuiltin, OfFunction, OfOther, OfTag, OfValue, Tables, Tag, find, has_beginning}
use Rattle.source_typing.specs.Types.{Char, Fat, Handle, Int, Key, PartialType, StaticType, Struct, Thin, Union, Unique, Unsigned, Void, same_bool, shape_of}
use Rattle.source_typing.specs.Verdicts.{Faulty, Verdict, after, faults_of}
use Rattle.source_typing.specs.Written.{Found, if_sound, of_kind, tag_of, written_on, written_with}
use Rattle.accepted_proof.proofs.good.Types.{KnowsTags, MeansKnown}
use Rattle.accepted_proof.proofs.Known.{IsKnown, IsWord, word_shape}
use Rattle.accepted_proof.proofs.lowered.Forms.{IsGiven}
use Rattle.accepted_proof.proofs.MemberTypes.{IsPointerShape, sign_pointer, still_pointer}

-- ---- tags

-- each tag of these tables is one of the program's
abbrev pub TagThere : World → Bool → List ℕ → Type 0
TagThere w false x = (has_tag w.structs x ≡ true)
TagThere w true x = (has_tag w.unions x ≡ true)

abbrev pub TagsThere : World → Tables → Type 0
TagsThere w g = (x : List ℕ) (t : Tag) → find g x ≡ Some (OfTag t) → TagThere w t.is_union x

-- each is without fault
abbrev pub AreSound : Tables → Type 0
AreSound g = (x : List ℕ) (t : Tag) → find g x ≡ Some (OfTag t) → t.sound ≡ true

pub known_sound : (g : Tables) → KnowsTags g → AreSound g
known_sound g k x t e = subst (λ (o : Option Entry). MeansKnown o) e (k x)

-- a struct or a union of the program, where a type begins with one
abbrev pub BaseThere : World → tree.Base → Type 0
BaseThere w (tree.Struct tag rs) = TagThere w false tag.text
BaseThere w (tree.Union tag rs) = TagThere w true tag.text
BaseThere w b = Unit {0}

-- the rest of a judgement has the faults of a type
abbrev pub Keeps : {A : Type 0} → (Verdict PartialType → Verdict A) → Type 0
Keeps rest = (f : Fault) (fs : List Fault) → faults_of (rest (Faulty f fs)) ≡ [] → ⊥

pub once_keeps : {A : Type 0} (k : PartialType → Verdict A) → Keeps (λ v. after v k)
once_keeps k f fs e = cc

pub twice_keeps : {A B : Type 0} (k : PartialType → Verdict A) (l : A → Verdict B) → Keeps (λ v. after (after v k) l)
twice_keeps k l f fs e = cc

-- where that has none, the type's tag was found
pub base_there : {A : Type 0} (w : World) (g : Tables) (t : TypeName) (fs : List Found × List Fault) (rest : Verdict PartialType → Verdict A)
    → TagsThere w g → AreSound g → Keeps rest → faults_of (rest (written_with g t fs)) ≡ [] → BaseThere w t.base
base_there w g t (fs, bad) rest tags known keeps p = by t.base p
  where
    -- a tag without fault is of the kind that is written
    of : (z : Tag) (tag : tree.Name) (a b : Bool) → z.is_union ≡ a → TagThere w z.is_union tag.text
        → faults_of (rest (written_on t fs bad (of_kind (same_bool a b) z tag.at))) ≡ [] → TagThere w b tag.text
    of z tag true true e h p = subst (λ c. TagThere w c tag.text) e h
    of z tag false false e h p = subst (λ c. TagThere w c tag.text) e h
    of z tag true false e h p = absurd (keeps _ _ p)
    of z tag false true e h p = absurd (keeps _ _ p)

    found : (tag : tree.Name) (kind : Bool) (o : Option Entry) → find g tag.text ≡ o
        → faults_of (rest (written_on t fs bad (tag_of o kind tag.at))) ≡ [] → TagThere w kind tag.text
    found tag kind None q p = absurd (keeps _ _ p)
    found tag kind (Some (OfTag z)) q p =
        of z tag z.is_union kind refl (tags tag.text z q)
        (subst (λ b. faults_of (rest (written_on t fs bad (if_sound b (of_kind (same_bool z.is_union kind) z tag.at)))) ≡ []) (known tag.text z q) p)
    found tag kind (Some (OfValue v)) q p = absurd (keeps _ _ p)
    found tag kind (Some (OfFunction s)) q p = absurd (keeps _ _ p)
    found tag kind (Some (OfBuiltin n)) q p = absurd (keeps _ _ p)
    found tag kind (Some OfOther) q p = absurd (keeps _ _ p)

    by : (b : tree.Base) → faults_of (rest (written_on t fs bad (Rattle.source_typing.specs.Written.base_of g b))) ≡ [] → BaseThere w b
    by (tree.Struct tag rs) p = found tag false (find g tag.text) refl p
    by tree.Int p = tt
    by tree.Unsigned p = tt
    by tree.Char p = tt
    by tree.Void p = tt
    by (tree.Union tag rs) p = found tag true (find g tag.text) refl p
    by (tree.Handle r) p = tt
    by (tree.Key r) p = tt

-- ---- shapes

-- an integer, a struct or a union of the program, a handle, a key, nothing, or a pointer to these
abbrev pub IsReached : World → Shape → Type 0
IsReached w IntShape = Unit {0}
IsReached w UnsignedShape = Unit {0}
IsReached w CharShape = Unit {0}
IsReached w VoidShape = Unit {0}
IsReached w (ThinShape may_be_null owner to) = IsReached w to
IsReached w (FatShape to) = IsReached w to
IsReached w HandleShape = Unit {0}
IsReached w KeyShape = Unit {0}
IsReached w (StructShape tag) = (has_tag w.structs tag ≡ true)
IsReached w (UnionShape tag) = (has_tag w.unions tag ≡ true)
IsReached w (ArrayShape count of) = ⊥

pub reached_target : (w : World) (s : Shape) → IsReached w s → IsTarget s
reached_target w IntShape h = tt
reached_target w UnsignedShape h = tt
reached_target w CharShape h = tt
reached_target w VoidShape h = tt
reached_target w (ThinShape may_be_null owner to) h = reached_target w to h
reached_target w (FatShape to) h = reached_target w to h
reached_target w HandleShape h = tt
reached_target w KeyShape h = tt
reached_target w (StructShape tag) h = tt
reached_target w (UnionShape tag) h = tt
reached_target w _ h = absurd h

-- an object's shape has nothing under its pointers
pub reached_known : (w : World) (u : StaticType) → IsObjectType u → IsReached w (shape_of u) → IsKnown w (shape_of u)
reached_known w Int o h = tt
reached_known w Unsigned o h = tt
reached_known w Char o h = tt
reached_known w (Thin b r t) o h = reached_known w t o h
reached_known w (Fat r t) o h = reached_known w t o h
reached_known w (Unique b t) o h = reached_known w t o h
reached_known w (Struct tag rs) o h = h
reached_known w (Union tag rs) o h = h
reached_known w (Handle r) o h = tt
reached_known w (Key r) o h = tt
reached_known w _ o h = absurd o

module _ (w : World) where
  signed_reached : (x : Sign) (r : Option tree.RegionName) (s : Shape) → IsReached w (settled s) → IsReached w (settled (signed_shape x (owner_of r) s))
  signed_reached (sign.Nullable count) r s h = h
  signed_reached (sign.NotNull count) r s h = h
  signed_reached sign.Fat r s h = h

  all_reached : (ps : List Pointer) (s : Shape) → IsReached w (settled s) → IsReached w (settled (pointed ps s))
  all_reached [] s h = h
  all_reached (p ∷ ps) s h = all_reached ps (signed_shape p.sign (owner_of p.region) s) (signed_reached p.sign p.region s h)

  -- what is written of a type
  pub type_reached : (t : TypeName) → BaseThere w t.base → IsReached w (settled (written t))
  type_reached t h =
      all_reached t.pointers (base_shape t.base) (by t.base h)
    where
      by : (b : tree.Base) → BaseThere w b → IsReached w (settled (base_shape b))
      by tree.Int h = tt
      by tree.Unsigned h = tt
      by tree.Char h = tt
      by tree.Void h = tt
      by (tree.Struct tag rs) h = h
      by (tree.Union tag rs) h = h
      by (tree.Handle r) h = tt
      by (tree.Key r) h = tt

  -- and of an object's
  pub written_known : (t : TypeName) (u : StaticType) → BaseThere w t.base → IsObjectType u
      → settled (written t) ≡ shape_of u → IsKnown w (shape_of u)
  written_known t u h o s = reached_known w u o (subst (λ z. IsReached w z) s (type_reached t h))

  -- an initializer's type says no more than which pointers are unique
  reached_by : (s from : Shape) → IsReached w (settled s) → IsReached w (settled_by s from)
  reached_by (ThinShape b o s) (ThinShape c q from) h = reached_by s from h
  reached_by (ThinShape b o s) (FatShape from) h = reached_by s from h
  reached_by (FatShape s) (ThinShape c q from) h = reached_by s from h
  reached_by (FatShape s) (FatShape from) h = reached_by s from h
  reached_by (ThinShape b o s) _ h = h
  reached_by (FatShape s) _ h = h
  reached_by _ from h = h

  known_by : (s from : Shape) → IsKnown w (settled_by s from) → IsKnown w (settled s)
  known_by (ThinShape b o s) (ThinShape c q from) h = known_by s from h
  known_by (ThinShape b o s) (FatShape from) h = known_by s from h
  known_by (FatShape s) (ThinShape c q from) h = known_by s from h
  known_by (FatShape s) (FatShape from) h = known_by s from h
  known_by (ThinShape b o s) _ h = h
  known_by (FatShape s) _ h = h
  known_by _ from h = h

  pub settled_known : (t : TypeName) (from : Shape) (u : StaticType) → BaseThere w t.base → IsObjectType u
      → settled_by (written t) from ≡ shape_of u → IsKnown w (shape_of u)
  settled_known t from u h o s = reached_known w u o (subst (λ z. IsReached w z) s (reached_by (written t) from (type_reached t h)))

  -- ---- types as lowering takes them

  signed_under : (x : Sign) (r : Option tree.RegionName) (s : Shape) → IsKnown w (settled (signed_shape x (owner_of r) s))
      → IsKnown w (settled s)
  signed_under (sign.Nullable count) r s h = h
  signed_under (sign.NotNull count) r s h = h
  signed_under sign.Fat r s h = h

  known_under : (ps : List Pointer) (s : Shape) → IsKnown w (settled (pointed ps s)) → IsKnown w (settled s)
  known_under [] s h = h
  known_under (p ∷ ps) s h = signed_under p.sign p.region s (known_under ps (signed_shape p.sign (owner_of p.region) s) h)

  object_base : (b : tree.Base) → IsKnown w (settled (base_shape b)) → IsObjectBase b
  object_base tree.Int h = tt
  object_base tree.Unsigned h = tt
  object_base tree.Char h = tt
  object_base tree.Void h = absurd h
  object_base (tree.Struct tag rs) h = tt
  object_base (tree.Union tag rs) h = tt
  object_base (tree.Handle r) h = tt
  object_base (tree.Key r) h = tt

  known_in : (s : Shape) → IsKnown w s → IsKnownIn w.unions w.structs s
  known_in (StructShape tag) h = h
  known_in (UnionShape tag) h = h
  known_in _ h = tt

  known_type : (t : TypeName) → IsKnown w (settled (written t)) → lowering.IsObjectType w.unions w.structs t
  known_type t k = record {
    base = object_base t.base (known_under t.pointers (base_shape t.base) k);
    known = known_in (settled (written t)) k;
  }

  -- the type of a variable
  pub object_type : (t : TypeName) (u : StaticType) → BaseThere w t.base → IsObjectType u
      → settled (written t) ≡ shape_of u → lowering.IsObjectType w.unions w.structs t
  object_type t u h o s = known_type t (subst (λ z. IsKnown w z) (sym s) (written_known t u h o s))

  -- that of a variable with an initializer
  pub settled_type : (t : TypeName) (from : Shape) (u : StaticType) → IsKnown w (shape_of u) → settled_by (written t) from ≡ shape_of u
      → lowering.IsObjectType w.unions w.structs t
  settled_type t from u k s = known_type t (known_by (written t) from (subst (λ z. IsKnown w z) (sym s) k))

  -- that of a parameter
  pub word_type : (t : TypeName) (u : StaticType) → BaseThere w t.base → IsObjectType u → IsWord u
      → settled (written t) ≡ shape_of u → lowering.IsWordType t
  word_type t u h o i s =
      let k : lowering.IsObjectType w.unions w.structs t = object_type t u h o s in
      record { base = k.base; word = subst (λ z. IsOperandShape z) (sym s) (word_shape u i) }

-- ---- `void` and `int`

-- a type with pointers has a pointer's shape
pointers_shape : (p : Pointer) (ps : List Pointer) (b : tree.Base) → IsPointerShape (pointed (p ∷ ps) (base_shape b))
pointers_shape p ps b =
    still_pointer ps (signed_shape p.sign (owner_of p.region) (base_shape b)) (sign_pointer p.sign (owner_of p.region) (base_shape b))

no_void : (s : Shape) → IsPointerShape s → settled s ≡ VoidShape → ⊥
no_void (ThinShape b o s) h e = cc
no_void (FatShape s) h e = cc
no_void _ h e = h

no_int : (s : Shape) → IsPointerShape s → settled s ≡ IntShape → ⊥
no_int (ThinShape b o s) h e = cc
no_int (FatShape s) h e = cc
no_int _ h e = h

void_written : (t : TypeName) → settled (written t) ≡ VoidShape → IsVoidType t
void_written t s =
    by t.base t.pointers s
  where
    by : (b : tree.Base) (ps : List Pointer) → settled (written (record { at = t.at; base = b; pointers = ps })) ≡ VoidShape
        → IsVoidType (record { at = t.at; base = b; pointers = ps })
    by b (p ∷ ps) s = absurd (no_void (pointed (p ∷ ps) (base_shape b)) (pointers_shape p ps b) s)
    by tree.Void [] s = record { pointers = refl; base = tt }
    by tree.Int [] s = absurd cc
    by tree.Unsigned [] s = absurd cc
    by tree.Char [] s = absurd cc
    by (tree.Struct tag rs) [] s = absurd cc
    by (tree.Union tag rs) [] s = absurd cc
    by (tree.Handle r) [] s = absurd cc
    by (tree.Key r) [] s = absurd cc

pub int_written : (t : TypeName) → settled (written t) ≡ IntShape → IsIntType t
int_written t s =
    by t.base t.pointers s
  where
    by : (b : tree.Base) (ps : List Pointer) → settled (written (record { at = t.at; base = b; pointers = ps })) ≡ IntShape
        → IsIntType (record { at = t.at; base = b; pointers = ps })
    by b (p ∷ ps) s = absurd (no_int (pointed (p ∷ ps) (base_shape b)) (pointers_shape p ps b) s)
    by tree.Int [] s = record { pointers = refl; base = refl }
    by tree.Void [] s = absurd cc
    by tree.Unsigned [] s = absurd cc
    by tree.Char [] s = absurd cc
    by (tree.Struct tag rs) [] s = absurd cc
    by (tree.Union tag rs) [] s = absurd cc
    by (tree.Handle r) [] s = absurd cc
    by (tree.Key r) [] s = absurd cc

-- the type of a result
pub result_takes : (w : World) (t : TypeName) (u : StaticType) → BaseThere w t.base → IsPlain u
    → IsGiven w u → settled (written t) ≡ shape_of u → TakesResult t
result_takes w t Void h o i s = GivesNothing (void_written t s)
result_takes w t Int h o i s = GivesWord (word_type w t Int h o i.0 s)
result_takes w t Unsigned h o i s = GivesWord (word_type w t Unsigned h o i.0 s)
result_takes w t Char h o i s = GivesWord (word_type w t Char h o i.0 s)
result_takes w t (Thin b r u) h o i s = GivesWord (word_type w t (Thin b r u) h o i.0 s)
result_takes w t (Fat r u) h o i s = GivesWord (word_type w t (Fat r u) h o i.0 s)
result_takes w t (Unique b u) h o i s = GivesWord (word_type w t (Unique b u) h o i.0 s)
result_takes w t (Struct tag rs) h o i s = absurd i.0
result_takes w t (Union tag rs) h o i s = absurd i.0
result_takes w t (Handle r) h o i s = GivesWord (word_type w t (Handle r) h o i.0 s)
result_takes w t (Key r) h o i s = GivesWord (word_type w t (Key r) h o i.0 s)
result_takes w t _ h o i s = absurd o

-- ---- beginnings

-- what begins has a first value in the lowering too
pub begins_first : (g : Tables) (u : StaticType) → IsObjectType u → has_beginning g u ≡ true → HasBeginning (shape_of u)
begins_first g Int o e = tt
begins_first g Unsigned o e = tt
begins_first g Char o e = tt
begins_first g (Thin (MayBeNull count) r t) o e = tt
begins_first g (Thin (NeverNull count) r t) o e = absurd cc
begins_first g (Fat r t) o e = tt
begins_first g (Unique b t) o e = subst (λ z. HasFirst (ThinShape (single z) Alone (shape_of t))) (sym e) tt
begins_first g (Struct tag rs) o e = tt
begins_first g (Union tag rs) o e = absurd cc
begins_first g (Handle r) o e = absurd cc
begins_first g (Key r) o e = absurd cc
begins_first g _ o e = absurd o
