-- The structs and unions of a program in which no tag has a fault, one after another as they are judged: lowering takes each, by those before it.
use Rattle.std.proofs.Common.{◌≡◌, ℕ, Bool, true, false, Option, Some, None, List, [], ◌∷◌, ◌++◌, refl, sym, subst, ap, ap₂, ◌∙◌}
use Rattle.std.specs.Prelude.{bytes_eq, codes, if◌then◌else◌, length, map}
use Rattle.std.proofs.lemmas.Slice.Eq.{bytes_eq-Decides}
use Rattle.cyc_tree.specs.Operands.{AreSomeMembers}
use Rattle.cyc_tree.specs.Tree as tree
use Rattle.cyc_tree.specs.Tree.{Item}
use Rattle.source_lowering.specs.Lowerable.{AreObjects, AreStructs, AreValues, HasMember, IsObject, IsValueShape}
use Rattle.source_meaning.specs.Programs.{layout_of}
use Rattle.source_meaning.specs.Shapes as shapes
use Rattle.source_meaning.specs.Shapes.{Layout, has_tag, part_of, part_shapes, parts_of}
use Rattle.source_meaning.specs.Sizes.{struct_extent}
use Rattle.source_meaning.specs.Steps.{World}
use Rattle.type_proof.specs.Flat.{Declared}
use Rattle.type_proof.specs.Structs.{AreInOrder, AreLaidOut, AreMemberTypes, AreMembers, AreUnionMembers, IsMemberType, IsUnionMember, declares}
use Rattle.source_typing.specs.Extents as typing
use Rattle.source_typing.specs.Extents.{layouts_of, layouts_onto}
use Rattle.source_typing.specs.Programs.{Judged, builtins, entries, first_from, is_seen, judged_tag, named, second_names}
use Rattle.source_typing.specs.Scope.{Env}
use Rattle.source_typing.specs.Tables.{Entry, Named, OfBuiltin, OfFunction, OfOther, OfTag, OfValue, Part, Tables, find}
use Rattle.source_typing.specs.Tags.{member_faults, member_fitting, member_type, settled_alone, tag_parts, tag_scope}
use Rattle.source_typing.specs.Types.{Char, Fat, Handle, Int, Key, StaticType, Struct, Thin, Union, Unique, Unsigned, shape_of}
use Rattle.source_typing.specs.Verdicts.{after, faults_of}
use Rattle.source_typing.specs.Written.{all_found, spots_of}
use Rattle.source_typing.proofs.Entries.{entries_more}
use Rattle.source_typing.proofs.Inversion.{none_of_both}
use Rattle.accepted_proof.proofs.good.Types.{KnowsTags}
use Rattle.accepted_proof.proofs.HeadTags.{MeanAlike, TablesAlike, found_alike}
use Rattle.accepted_proof.proofs.lowered.Types.{IsReached, TagThere, TagsThere, base_there, known_sound, reached_target, twice_keeps, type_reached}
use Rattle.accepted_proof.proofs.MemberTypes.{MembersGood}
use Rattle.accepted_proof.proofs.lowered.StructSizes.{AllLaidTypes, AreOnce, MeasuredAlike, UnionsAlike, later_passed, layouts_both, same_parts, struct_small}
use Rattle.accepted_proof.proofs.lowered.StructSizes.{structs_alike, structs_are, union_passed, unions_are}
use Rattle.accepted_proof.proofs.TagOrder.{TagClean, builtins_alike}

-- ---- what members lead to

-- each struct and union in the members of one is one of these
abbrev pub PartsReached : World → List shapes.Part → Type 0
PartsReached w [] = Unit {0}
PartsReached w (p ∷ ps) = IsReached w p.shape × PartsReached w ps

abbrev pub AllReached : World → List Layout → Type 0
AllReached w [] = Unit {0}
AllReached w (l ∷ ls) = PartsReached w l.parts × AllReached w ls

pub members_reached : (w : World) (g : Env) (union : Bool) (ms : List tree.Member) → TagsThere w g.tables → KnowsTags g.tables
    → member_faults g union ms ≡ [] → PartsReached w (map part_of ms)
members_reached w g union [] tags known p = tt
members_reached w g union (m ∷ ms) tags known p =
    let z = none_of_both (faults_of (member_type g union m.of)) (member_faults g union ms) p in (
      type_reached w m.of
          (base_there w g.tables m.of (all_found g.names (spots_of g.tables m.of))
          (λ v. after (after v (settled_alone m.of.at)) (member_fitting g union m.of.at)) tags (known_sound g.tables known)
          (twice_keeps (settled_alone m.of.at) (member_fitting g union m.of.at)) z.0),
      members_reached w g union ms tags known z.1,
    )

-- tags of the same names are the program's too
pub alike_there : (w : World) (g h : Tables) → TablesAlike g h → TagsThere w h → TagsThere w g
alike_there w g h k tags x t e = by (find h x) refl (subst (λ o. MeanAlike o (find h x)) e (found_alike g h x k))
  where
    by : (o : Option Entry) → find h x ≡ o → MeanAlike (Some (OfTag t)) o → TagThere w t.is_union x
    by None q a = absurd a
    by (Some (OfTag z)) q a = subst (λ b. TagThere w b x) (sym a.1) (tags x z q)
    by (Some (OfValue v)) q a = absurd a
    by (Some (OfFunction s)) q a = absurd a
    by (Some (OfBuiltin n)) q a = absurd a
    by (Some OfOther) q a = absurd a

-- ---- the members of one struct or union

-- what is declared has been laid out
pub tags_declared : (T : Tables) (ds : List Declared) (ls : List Layout) (x : List ℕ) → AreLaidOut T ds ls → has_tag ls x ≡ declares ds x
tags_declared T [] [] x h = refl
tags_declared T (d ∷ ds) (l ∷ ls) x h =
    ap (λ (y : List ℕ). if bytes_eq y x then true else has_tag ls x) h.0
    ∙ ap (λ (b : Bool). if bytes_eq d.tag x then true else b) (tags_declared T ds ls x h.2)
tags_declared T [] (l ∷ ls) x h = absurd h
tags_declared T (d ∷ ds) [] x h = absurd h

-- a word, a union, or a struct that was declared
member_object : (w : World) (ds : List Declared) (ls : List Layout) (t : StaticType) → ((x : List ℕ) → has_tag ls x ≡ declares ds x) → IsMemberType ds t
    → IsReached w (shape_of t) → IsObject w.unions ls (shape_of t)
member_object w ds ls Int k h r = tt
member_object w ds ls Unsigned k h r = tt
member_object w ds ls Char k h r = tt
member_object w ds ls (Thin n q t) k h r = reached_target w (shape_of t) r
member_object w ds ls (Fat q t) k h r = reached_target w (shape_of t) r
member_object w ds ls (Unique b t) k h r = reached_target w (shape_of t) r
member_object w ds ls (Struct tag rs) k h r = k tag ∙ h
member_object w ds ls (Union tag rs) k h r = r
member_object w ds ls (Handle q) k h r = tt
member_object w ds ls (Key q) k h r = tt
member_object w ds ls _ k h r = absurd h

members_objects : (w : World) (ds : List Declared) (ls : List Layout) (ps : List Part) (qs : List shapes.Part) (ts : List StaticType)
    → ((x : List ℕ) → has_tag ls x ≡ declares ds x) → AreMembers ps qs ts → AreMemberTypes ds ts → PartsReached w qs
    → AreObjects w.unions ls (part_shapes qs)
members_objects w ds ls [] [] [] k h o r = tt
members_objects w ds ls (p ∷ ps) (q ∷ qs) (t ∷ ts) k h o r = (
  subst (λ z. IsObject w.unions ls z) (sym h.2) (member_object w ds ls t k o.0 (subst (λ z. IsReached w z) h.2 r.0)),
  members_objects w ds ls ps qs ts k h.3 o.1 r.1,
)
members_objects w ds ls [] [] (t ∷ ts) k h o r = absurd h
members_objects w ds ls [] (q ∷ qs) ts k h o r = absurd h
members_objects w ds ls (p ∷ ps) [] ts k h o r = absurd h
members_objects w ds ls (p ∷ ps) (q ∷ qs) [] k h o r = absurd h

-- a word, or a fat pointer
member_value : (w : World) (t : StaticType) → IsUnionMember t → IsReached w (shape_of t) → IsValueShape (shape_of t)
member_value w Int o r = tt
member_value w Unsigned o r = tt
member_value w Char o r = tt
member_value w (Thin n q t) o r = reached_target w (shape_of t) r
member_value w (Fat q t) o r = reached_target w (shape_of t) r
member_value w (Handle q) o r = tt
member_value w _ o r = absurd o

pub members_values : (w : World) (ps : List Part) (qs : List shapes.Part) (ts : List StaticType) → AreMembers ps qs ts → AreUnionMembers ts
    → PartsReached w qs → AreValues (part_shapes qs)
members_values w [] [] [] h o r = tt
members_values w (p ∷ ps) (q ∷ qs) (t ∷ ts) h o r = (
  subst (λ z. IsValueShape z) (sym h.2) (member_value w t o.0 (subst (λ z. IsReached w z) h.2 r.0)),
  members_values w ps qs ts h.3 o.1 r.1,
)
members_values w [] [] (t ∷ ts) h o r = absurd h
members_values w [] (q ∷ qs) ts h o r = absurd h
members_values w (p ∷ ps) [] ts h o r = absurd h
members_values w (p ∷ ps) (q ∷ qs) [] h o r = absurd h

pub has_member : (ms : List tree.Member) → AreSomeMembers ms → HasMember (map part_of ms)
has_member [] h = h
has_member (m ∷ ms) h = tt

-- ---- one item after another

-- What the items that are judged have laid out, in the world of the whole program, where they declare these unions.
pub record StructsLaid (w : World) (us : List Declared) (done : Tables) (found : List Layout) : Type 0 where
  pub in_order : AreStructs w.unions found
  pub reached : AllReached w found
  pub layouts : layouts_onto false [] done ≡ found
  pub unions : UnionsAlike us (layouts_onto true [] done) w.unions

layouts_more : (union : Bool) (done : List Judged) (j : Judged) (n : Named) → j.entry ≡ n
    → layouts_onto union [] (entries (done ++ j ∷ [])) ≡ layouts_onto union (layouts_onto union [] (entries done)) (n ∷ [])
layouts_more union done j n e =
    ap (λ (g : Tables). layouts_onto union [] g) (entries_more done j)
    ∙ (layouts_both union [] (entries done) (j.entry ∷ []) ∙ ap (λ (m : Named). layouts_onto union (layouts_onto union [] (entries done)) (m ∷ [])) e)

-- an item without a tag
pub other_laid : (w : World) (us : List Declared) (done : List Judged) (found : List Layout) (x : tree.Name) (j : Judged) → j.entry ≡ named x OfOther
    → StructsLaid w us (entries done) found → StructsLaid w us (entries (done ++ j ∷ [])) found
other_laid w us done found x j e l = record {
  in_order = l.in_order;
  reached = l.reached;
  layouts = layouts_more false done j (named x OfOther) e ∙ l.layouts;
  unions = subst (λ (ls : List Layout). UnionsAlike us ls w.unions) (sym (layouts_more true done j (named x OfOther) e)) l.unions;
}

-- a union
pub union_laid : (w : World) (us : List Declared) (g : Tables) (i : ℕ) (done : List Judged) (found : List Layout) (s : tree.Structure) (ts : List StaticType)
    → AreMembers (tag_parts g i true s) (map part_of s.members) ts → parts_of w.unions s.tag.text ≡ map part_of s.members
    → StructsLaid w us (entries done) found
    → StructsLaid w (record { tag = s.tag.text; parts = ts } ∷ us) (entries (done ++ judged_tag g i (tree.UnionItem s) ∷ [])) found
union_laid w us g i done found s ts m own l = record {
  in_order = l.in_order;
  reached = l.reached;
  layouts = layouts_more false done j j.entry refl ∙ l.layouts;
  unions = subst (λ (ls : List Layout). UnionsAlike (record { tag = s.tag.text; parts = ts } ∷ us) ls w.unions)
      (sym (layouts_more true done j j.entry refl)) (λ tag e. by tag (bytes_eq s.tag.text tag) refl e);
}
  where
    j : Judged
    j = judged_tag g i (tree.UnionItem s)

    lu : List Layout
    lu = layouts_onto true [] (entries done)

    by : (tag : List ℕ) (b : Bool) → bytes_eq s.tag.text tag ≡ b → (if b then true else declares us tag) ≡ true
        → (if b then typing.part_shapes (tag_parts g i true s) else parts_of lu tag) ≡ parts_of w.unions tag
    by tag true q e =
        same_parts (tag_parts g i true s) (map part_of s.members) ts m
        ∙ (sym own ∙ ap (λ (y : List ℕ). parts_of w.unions y) ((bytes_eq-Decides s.tag.text tag).0 q))
    by tag false q e = l.unions tag e

-- a struct; `b` has the tags of the program alone
module _ (w : World) (b h T : Tables) (i : ℕ) (done : List Judged) (is : List Item) (seen : List (List ℕ)) (ds us : List Declared)
    (found : List Layout) (s : tree.Structure) (there : TagsThere w (builtins b)) (once : AreOnce (codes "getchar" ∷ codes "putchar" ∷ []) b)
    (alike : TablesAlike (entries done ++ first_from h i (tree.StructItem s ∷ is)) b) (names : second_names seen (tree.StructItem s ∷ is) ≡ [])
  where
    abbrev pub g : Tables
    g = builtins (entries done ++ first_from h i (tree.StructItem s ∷ is))

    -- the unions that the rules lay out have the members that they have in the program
    unions_same : ((x : List ℕ) → declares us x ≡ true → is_seen seen x ≡ true) → UnionsAlike us (layouts_onto true [] (entries done)) w.unions
        → UnionsAlike us (layouts_of true g) w.unions
    unions_same declared l tag e =
        ap (λ (ls : List Layout). parts_of ls tag) (unions_are (entries done) h i (tree.StructItem s ∷ is) b alike once)
        ∙ (union_passed (layouts_onto true [] (entries done)) h i (tree.StructItem s ∷ is) seen tag names (declared tag e) ∙ l tag e)

    measured : ((x : List ℕ) → declares ds x ≡ true → is_seen seen x ≡ true) → AreLaidOut T ds found → AreInOrder ds → AllLaidTypes us ds
        → UnionsAlike us (layouts_of true g) w.unions → layouts_onto false [] (entries done) ≡ found
        → MeasuredAlike ds (layouts_of true g) (layouts_of false g) w.unions found
    measured declared out order laid same l tag e =
        ap (λ (ls : List Layout). struct_extent (layouts_of true g) ls tag)
        (structs_are (entries done) h i (tree.StructItem s ∷ is) b alike once found l)
        ∙ (later_passed (layouts_of true g) found h i (tree.StructItem s ∷ is) seen tag names (declared tag e)
        ∙ structs_alike T ds us (layouts_of true g) w.unions found out order laid same tag)

    pub struct_laid : AreSomeMembers s.members → KnowsTags g → ((x : List ℕ) → declares ds x ≡ true → is_seen seen x ≡ true)
        → ((x : List ℕ) → declares us x ≡ true → is_seen seen x ≡ true) → AreLaidOut T ds found → AreInOrder ds → AllLaidTypes us ds
        → declares ds s.tag.text ≡ false → TagClean g i false s → MembersGood (length s.regions) (tag_scope g i s) false ds us s.members
        → StructsLaid w us (entries done) found → StructsLaid w us (entries (done ++ judged_tag g i (tree.StructItem s) ∷ [])) (layout_of s ∷ found)
    struct_laid has_members known declared unions out order laid new clean ms l = record {
      in_order = (
        record {
          new = tags_declared T ds found s.tag.text out ∙ new;
          some = has_member s.members has_members;
          members = members_objects w ds found (tag_parts g i false s) (map part_of s.members) ms.types (λ x. tags_declared T ds found x out) ms.members
              ms.typed reached;
          small = struct_small g i s ds us w.unions found ms.types clean.sized ms.members ms.typed ms.laid same
              (measured declared out order laid same l.layouts);
        },
        l.in_order,
      );
      reached = (reached, l.reached);
      layouts = layouts_more false done j j.entry refl
          ∙ ap₂ (λ (ps : List shapes.Part) (ls : List Layout). record { tag = s.tag.text; parts = ps } ∷ ls)
          (same_parts (tag_parts g i false s) (map part_of s.members) ms.types ms.members) l.layouts;
      unions = subst (λ (ls : List Layout). UnionsAlike us ls w.unions) (sym (layouts_more true done j j.entry refl)) l.unions;
    }
      where
        j : Judged
        j = judged_tag g i (tree.StructItem s)

        tags : TagsThere w g
        tags = alike_there w g (builtins b) (builtins_alike (entries done ++ first_from h i (tree.StructItem s ∷ is)) b alike) there

        same : UnionsAlike us (layouts_of true g) w.unions
        same = unions_same unions l.unions

        reached : PartsReached w (map part_of s.members)
        reached =
            members_reached w (tag_scope g i s) false s.members tags known
            clean.members
