-- The tables of a program in which the rules find no fault: lowering knows what each name in them means.
use Rattle.std.proofs.Common.{◌≡◌, ◌⊎◌, ℕ, suc, Bool, true, false, inl, inr, Option, Some, None, List, [], ◌∷◌, refl, sym, subst, ap, ◌∙◌}
use Rattle.std.specs.Prelude.{bytes_eq, codes, if◌then◌else◌, map}
use Rattle.cyc_tree.specs.Tree as tree
use Rattle.cyc_tree.specs.Tree.{Item, Program}
use Rattle.source_lowering.specs.Lowered.{call_shape, entity_shape, named_shape, result_shape}
use Rattle.source_meaning.specs.Calls.{function_of}
use Rattle.source_meaning.specs.Programs.{world_of}
use Rattle.source_meaning.specs.Shapes as shapes
use Rattle.source_meaning.specs.Shapes.{Layout, Shape, has_tag, part_shape, parts_of}
use Rattle.source_meaning.specs.Steps.{Entity, Routine, World}
use Rattle.type_proof.proofs.invariant.Layouts.{member_object, member_types, members_at, members_typed}
use Rattle.type_proof.proofs.expressions.Members.{Found, member_found}
use Rattle.type_proof.specs.Entries.{AreObjects, Function, IsObjectType, Structure, Unioned}
use Rattle.type_proof.specs.Flat.{Declared}
use Rattle.type_proof.specs.Programs.{ArrayFound, GlobalFound, ProgramJudged}
use Rattle.type_proof.specs.Structs.{AreMemberTypes, AreMembers, AreUnionMembers, IsUnionMember}
use Rattle.type_proof.proofs.invariant.Unions.{Placed, held_at, held_object, held_objects, part_placed, unions_typed}
use Rattle.source_typing.specs.Functions.{Head, function_faults, head_of}
use Rattle.source_typing.specs.Declarations.{what_of}
use Rattle.source_typing.specs.Globals.{count_of, global_faults}
use Rattle.source_typing.specs.Programs.{Judged, entries_with, items_from, tables_of}
use Rattle.source_typing.specs.Regions.{TheHeap}
use Rattle.source_typing.specs.Scope.{at_item}
use Rattle.source_typing.specs.Tables.{Arrayed, Counter, Entry, Named, OfBuiltin, OfFunction, OfOther, OfTag}
use Rattle.source_typing.specs.Tables.{OfValue, Part, Signature, Stored, Tables, Tag, Unknown}
use Rattle.source_typing.specs.Tables.{as_tag, find, part_in, parts_in, parts_of_tag}
use Rattle.source_typing.specs.Types.{StaticType, Struct, Union, Void, shape_of}
use Rattle.source_typing.specs.Verdicts.{Of}
use Rattle.source_typing.proofs.Inversion.{none_of_both}
use Rattle.accepted_proof.proofs.Found.{AllKnown}
use Rattle.accepted_proof.proofs.Known.{IsKnown, IsWord}
use Rattle.accepted_proof.proofs.lowered.LaidStructs.{AllReached, PartsReached}
use Rattle.accepted_proof.proofs.lowered.Forms.{AreKnown, AreWords, IsGiven, KnownChoice, KnownEntry, KnownFunction, KnownKind, KnownMember}
use Rattle.accepted_proof.proofs.lowered.Forms.{KnownTag, KnownUnion}
use Rattle.accepted_proof.proofs.lowered.Heads.{HeadLowered, global_known, head_lowered}
use Rattle.accepted_proof.proofs.lowered.Types.{AreSound, IsReached, TagsThere, reached_known}
use Rattle.accepted_proof.proofs.lowered.Stands.{stands_same}
use Rattle.accepted_proof.proofs.StructsFound.{StructsFound, not_made}

-- ---- the types of each entry

pub record SignatureKnown (w : World) (s : Signature) : Type 0 where
  pub sound : s.sound ≡ true
  pub types : List StaticType
  pub parameters : s.parameters ≡ map (λ (t : StaticType). Some t) types
  pub words : AreWords types
  pub gives : StaticType
  pub result : s.result ≡ Some gives
  pub given : IsGiven w gives

abbrev pub TypesKnown : World → Entry → Type 0
TypesKnown w (OfValue (Stored t r)) = IsKnown w (shape_of t)
TypesKnown w (OfValue (Arrayed t r)) = IsKnown w (shape_of t)
TypesKnown w (OfFunction s) = SignatureKnown w s
TypesKnown w _ = Unit {0}

abbrev pub AllTypesKnown : World → Tables → Type 0
AllTypesKnown w [] = Unit {0}
AllTypesKnown w (n ∷ g) = TypesKnown w n.entry × AllTypesKnown w g

-- a global, or an array of so many
global_typed : (w : World) (o : Option ℕ) (t : StaticType) → IsKnown w (shape_of t) → TypesKnown w (OfValue (what_of TheHeap o (Of t)))
global_typed w None t k = k
global_typed w (Some n) t k = k

-- `g` are the program's tables, and `h` those by which its heads and globals were read
pub types_known : (w : World) (g h : Tables) (i : ℕ) (js : List Judged) (is : List Item) → TagsThere w g → AreSound g → AllKnown g h i js is
    → items_from false g i is ≡ []
    → AllTypesKnown w (entries_with false h i js is)
types_known w g h i [] is tags sound k p = tt
types_known w g h i (j ∷ js) [] tags sound k p = tt
types_known w g h i (j ∷ js) (tree.StructItem s ∷ is) tags sound k p =
    (subst (λ (n : Named). TypesKnown w n.entry) (sym k.0.is) tt, types_known w g h (suc i) js is tags sound k.1 p)
types_known w g h i (j ∷ js) (tree.UnionItem s ∷ is) tags sound k p =
    (subst (λ (n : Named). TypesKnown w n.entry) (sym k.0.is) tt, types_known w g h (suc i) js is tags sound k.1 p)
types_known w g h i (j ∷ js) (tree.GlobalItem x ∷ is) tags sound k p =
    let d = none_of_both (global_faults (at_item false g i) x) (items_from false g (suc i) is) p in
    let a : TypesKnown w (OfValue (what_of TheHeap (count_of x.initial) (Of k.0.1.type))) =
    global_typed w (count_of x.initial) k.0.1.type (global_known w g h i x k.0.1 tags sound d.0) in
    (subst (λ (e : Entry). TypesKnown w e) (sym k.0.1.entry) a, types_known w g h (suc i) js is tags sound k.1 d.1)
types_known w g h i (j ∷ js) (tree.FunctionItem x ∷ is) tags sound k p =
    let d = none_of_both (function_faults false g i x) (items_from false g (suc i) is) p in
    let u : HeadLowered w g tags sound x k.0.good.head = head_lowered w g tags sound x k.0.good.head k.0.good.clean in
    let s : SignatureKnown w (head_of false g x).signature =
    record {
      sound = k.0.good.head.signature.sound;
      types = k.0.good.head.signature.types;
      parameters = k.0.good.head.signature.parameters;
      words = u.parameters.words;
      gives = k.0.good.head.signature.gives;
      result = k.0.good.head.signature.result;
      given = u.result.given;
    } in
    (subst (λ (z : Head). SignatureKnown w z.signature) k.0.same s, types_known w g h (suc i) js is tags sound k.1 d.1)

found_types : (w : World) (g : Tables) (x : List ℕ) (e : Entry) → AllTypesKnown w g → find g x ≡ Some e → TypesKnown w e
found_types w [] x e k q = absurd cc
found_types w (n ∷ g) x e k q = by (bytes_eq n.name x) (λ p. found_types w g x e k.1 p) q
  where
    by : (b : Bool) → (find g x ≡ Some e → TypesKnown w e) → (if b then Some n.entry else find g x) ≡ Some e → TypesKnown w e
    by true others p = let z : n.entry ≡ e = cc in subst (λ (d : Entry). TypesKnown w d) z k.0
    by false others p = others p

-- ---- members of structs

reached_at : (w : World) (ls : List Layout) (tag : List ℕ) → AllReached w ls → PartsReached w (parts_of ls tag)
reached_at w [] tag h = tt
reached_at w (l ∷ ls) tag h = by (bytes_eq l.tag tag) (reached_at w ls tag h.1)
  where
    by : (b : Bool) → PartsReached w (parts_of ls tag) → PartsReached w (if b then l.parts else parts_of ls tag)
    by true others = h.0
    by false others = others

part_reached : (w : World) (qs : List shapes.Part) (f : List ℕ) → PartsReached w qs → IsReached w (part_shape qs f)
part_reached w [] f h = tt
part_reached w (q ∷ qs) f h = by (bytes_eq q.name f) (part_reached w qs f h.1)
  where
    by : (b : Bool) → IsReached w (part_shape qs f) → IsReached w (if b then q.shape else part_shape qs f)
    by true others = h.0
    by false others = others

members_known : (w : World) (ds : List Declared) (ps : List Part) (qs : List shapes.Part) (ts : List StaticType) → AreMembers ps qs ts
    → AreMemberTypes ds ts → PartsReached w qs → AreKnown w ts
members_known w ds [] [] [] h o r = tt
members_known w ds (p ∷ ps) (q ∷ qs) (t ∷ ts) h o r = (
  reached_known w t (member_object ds t o.0) (subst (λ (s : Shape). IsReached w s) h.2 r.0),
  members_known w ds ps qs ts h.3 o.1 r.1,
)
members_known w ds [] [] (t ∷ ts) h o r = absurd h
members_known w ds [] (q ∷ qs) ts h o r = absurd h
members_known w ds (p ∷ ps) [] ts h o r = absurd h
members_known w ds (p ∷ ps) (q ∷ qs) [] h o r = absurd h

-- the members of a union are words
held_words : (ts : List StaticType) → AreUnionMembers ts → AreWords ts
held_words [] h = tt
held_words (t ∷ ts) h = (by t h.0, held_words ts h.1)
  where
    by : (t : StaticType) → IsUnionMember t → IsWord t
    by Void h = h
    by (Struct tag rs) h = h
    by (Union tag rs) h = h
    by _ h = tt

held_known : (w : World) (ps : List Part) (qs : List shapes.Part) (ts : List StaticType) → AreMembers ps qs ts → AreObjects ts → PartsReached w qs
    → AreKnown w ts
held_known w [] [] [] h o r = tt
held_known w (p ∷ ps) (q ∷ qs) (t ∷ ts) h o r = (
  reached_known w t o.0 (subst (λ (s : Shape). IsReached w s) h.2 r.0),
  held_known w ps qs ts h.3 o.1 r.1,
)
held_known w [] [] (t ∷ ts) h o r = absurd h
held_known w [] (q ∷ qs) ts h o r = absurd h
held_known w (p ∷ ps) [] ts h o r = absurd h
held_known w (p ∷ ps) (q ∷ qs) [] h o r = absurd h

-- ---- a call of a function

function_shape : (w : World) (x : List ℕ) → bytes_eq x (codes "getchar") ≡ false → bytes_eq x (codes "putchar") ≡ false → has_tag w.structs x ≡ false
    → call_shape w x ≡ result_shape (function_of w.functions x)
function_shape w x a b c =
    let made : Shape = (if has_tag w.structs x then shapes.StructShape x else result_shape (function_of w.functions x)) in
    ap (λ (z : Bool). if z then shapes.IntShape else (if bytes_eq x (codes "putchar") then shapes.IntShape else made)) a
    ∙ (ap (λ (z : Bool). if z then shapes.IntShape else made) b
    ∙ ap (λ (z : Bool). if z then shapes.StructShape x else result_shape (function_of w.functions x)) c)

-- ---- a program

module _ (p : Program) (judged : ProgramJudged p (tables_of false p)) (found : StructsFound p)
    (known : AllTypesKnown (world_of p) (tables_of false p)) (sound : AreSound (tables_of false p))
  where
    abbrev world : World
    world = world_of p

    abbrev tables : Tables
    tables = tables_of false p

    abbrev declared : List Declared
    declared = found.structs.types

    abbrev choices : List Declared
    choices = found.unions.types

    tag_members : (x : List ℕ) (t : Tag) → find tables x ≡ Some (OfTag t) → has_tag world.structs x ≡ true
        → AreMembers t.parts (parts_of world.structs x) (member_types declared x)
    tag_members x t q there =
        subst (λ (ps : List Part). AreMembers ps (parts_of world.structs x) (member_types declared x))
        (ap (λ (o : Option Entry). parts_of_tag (as_tag o)) q)
        (members_at tables declared world.structs x found.structs.laid_out there)

    union_members : (x : List ℕ) (t : Tag) → find tables x ≡ Some (OfTag t) → has_tag world.unions x ≡ true
        → AreMembers t.parts (parts_of world.unions x) (member_types choices x)
    union_members x t q there =
        subst (λ (ps : List Part). AreMembers ps (parts_of world.unions x) (member_types choices x))
        (ap (λ (o : Option Entry). parts_of_tag (as_tag o)) q)
        (members_at tables choices world.unions x found.unions.laid_out there)

    struct_known : (x : List ℕ) (t : Tag) → find tables x ≡ Some (OfTag t) → Structure world x t → KnownTag world x t
    struct_known x t q s =
        let m : AreMembers t.parts (parts_of world.structs x) (member_types declared x) = tag_members x t q s.there in
        record {
          not_read = s.not_read;
          not_written = s.not_written;
          named = s.named;
          sound = sound x t q;
          no_union = s.no_union;
          there = s.there;
          types = member_types declared x;
          members = m;
          known = members_known world declared t.parts (parts_of world.structs x) (member_types declared x) m
              (members_typed declared x found.structs.in_order) (reached_at world world.structs x found.lowered.1);
        }

    union_known : (x : List ℕ) (t : Tag) → find tables x ≡ Some (OfTag t) → Unioned world x t → KnownUnion world x t
    union_known x t q u =
        let m : AreMembers t.parts (parts_of world.unions x) (member_types choices x) = union_members x t q u.there in
        record {
          named = u.named;
          sound = sound x t q;
          union = u.union;
          there = u.there;
          types = member_types choices x;
          members = m;
          words = held_words (member_types choices x) (unions_typed choices world.unions x found.unions.members);
          known = held_known world t.parts (parts_of world.unions x) (member_types choices x) m
              (held_objects (member_types choices x) (unions_typed choices world.unions x found.unions.members))
              (reached_at world world.unions x found.values.1);
        }

    tag_known : (x : List ℕ) (t : Tag) → find tables x ≡ Some (OfTag t) → KnownKind world t.is_union x t
    tag_known x t q = by (judged.plain x (OfTag t) q)
      where
        by : Structure world x t ⊎ Unioned world x t → KnownKind world t.is_union x t
        by (inl s) = subst (λ (b : Bool). KnownKind world b x t) (sym s.no_union) (struct_known x t q s)
        by (inr u) = subst (λ (b : Bool). KnownKind world b x t) (sym u.union) (union_known x t q u)

    function_known : (x : List ℕ) (s : Signature) → find tables x ≡ Some (OfFunction s) → KnownFunction world x s
    function_known x s q =
        let f : Function world x s = judged.plain x (OfFunction s) q in
        let k : SignatureKnown world s = found_types world tables x (OfFunction s) known q in
        let same : f.gives ≡ k.gives = (let z : Some f.gives ≡ Some k.gives = sym f.result ∙ k.result in cc) in
        record {
          not_read = f.not_read;
          not_written = f.not_written;
          not_made = f.not_made;
          sound = k.sound;
          types = k.types;
          parameters = k.parameters;
          words = k.words;
          gives = k.gives;
          result = k.result;
          given = k.given;
          shape = function_shape world x f.not_read f.not_written f.not_made ∙ (ap (λ (o : Option Routine). result_shape o) f.found
              ∙ (f.shape ∙ ap (λ (t : StaticType). shape_of t) same));
        }

    pub entry_known : (x : List ℕ) (e : Entry) → find tables x ≡ Some e → KnownEntry world [] x e
    entry_known x (OfValue (Stored t r)) q =
        let v : GlobalFound world x t r = judged.variables x t r q in (
          stands_same (named_shape world [] x) (shape_of t) (ap (λ (o : Option Entity). entity_shape o) v.is),
          found_types world tables x (OfValue (Stored t r)) known q,
        )
    entry_known x (OfValue (Arrayed t r)) q =
        let v : ArrayFound world x t r = judged.arrays x t r q in
        (v.count, ap (λ (o : Option Entity). entity_shape o) v.is, found_types world tables x (OfValue (Arrayed t r)) known q)
    entry_known x (OfValue Counter) q = absurd (judged.plain x (OfValue Counter) q)
    entry_known x (OfValue (Unknown sound)) q = absurd (judged.plain x (OfValue (Unknown sound)) q)
    entry_known x (OfTag t) q = tag_known x t q
    entry_known x (OfFunction s) q = function_known x s q
    entry_known x (OfBuiltin n) q = (judged.plain x (OfBuiltin n) q, not_made p x (OfBuiltin n) found q (λ t z. cc))
    entry_known x OfOther q = absurd (judged.plain x OfOther q)

    -- a tag in the tables, where it has a member
    tag_of_member : (tag f : List ℕ) (part : Part) → part_in (parts_in tables tag) f ≡ Some part
        → (u : Tag) × (find tables tag ≡ Some (OfTag u)) × (part_in u.parts f ≡ Some part)
    tag_of_member tag f part e = by (find tables tag) refl e
      where
        none : part_in [] f ≡ Some part → ⊥
        none z = cc

        by : (o : Option Entry) → find tables tag ≡ o → part_in (parts_of_tag (as_tag o)) f ≡ Some part
            → (u : Tag) × (find tables tag ≡ Some (OfTag u)) × (part_in u.parts f ≡ Some part)
        by None z e = absurd (none e)
        by (Some (OfValue v)) z e = absurd (none e)
        by (Some (OfFunction s)) z e = absurd (none e)
        by (Some (OfBuiltin n)) z e = absurd (none e)
        by (Some OfOther) z e = absurd (none e)
        by (Some (OfTag u)) z e = (u, z, e)

    pub member_known : (tag f : List ℕ) (part : Part) (t : StaticType) → has_tag world.structs tag ≡ true → part_in (parts_in tables tag) f ≡ Some part
        → part.type ≡ Some t → KnownMember world tag f t
    member_known tag f part t there e q =
        let u = tag_of_member tag f part e in
        let m : Found declared (parts_of world.structs tag) f t =
        member_found declared (u.0).parts (parts_of world.structs tag) (member_types declared tag) f part t (tag_members tag u.0 u.1 there)
        (members_typed declared tag found.structs.in_order) u.2 q in
        record {
          shape = m.shape;
          known = reached_known world t m.object (subst (λ (s : Shape). IsReached world s) m.shape
              (part_reached world (parts_of world.structs tag) f (reached_at world world.structs tag found.lowered.1)));
        }

    pub choice_known : (tag f : List ℕ) (part : Part) (t : StaticType) → has_tag world.unions tag ≡ true → part_in (parts_in tables tag) f ≡ Some part
        → part.type ≡ Some t → KnownChoice world tag f t
    choice_known tag f part t there e q =
        let u = tag_of_member tag f part e in
        let m : Placed (parts_of world.unions tag) (member_types choices tag) f part =
        part_placed (u.0).parts (parts_of world.unions tag) (member_types choices tag) f part (union_members tag u.0 u.1 there) u.2 in
        let same : m.type ≡ t = (let z : Some m.type ≡ Some t = sym m.typed ∙ q in cc) in
        let shape : part_shape (parts_of world.unions tag) f ≡ shape_of t = m.shape ∙ ap (λ (v : StaticType). shape_of v) same in
        let object : IsObjectType t =
        subst (λ (v : StaticType). IsObjectType v) same
        (held_object m.type (held_at (member_types choices tag) m.position m.type (unions_typed choices world.unions tag found.unions.members) m.here)) in
        record {
          member = record { number = m.position; is = m.found };
          shape = shape;
          known = reached_known world t object (subst (λ (s : Shape). IsReached world s) shape
              (part_reached world (parts_of world.unions tag) f (reached_at world world.unions tag found.values.1)));
        }
