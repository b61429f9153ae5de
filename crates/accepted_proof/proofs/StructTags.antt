-- A struct or a union without fault is judged: what is known of it, and of all tags that are judged then.
use Rattle.std.proofs.Common.{◌≡◌, ◌≤◌, ℕ, suc, Bool, true, false, Option, Some, None, List, [], ◌∷◌, ◌++◌, refl, sym, subst, ap, ◌∙◌, arith}
use Rattle.std.specs.Prelude.{bytes_eq, codes, if◌then◌else◌, length, map}
use Rattle.cyc_tree.specs.Operands.{AreSomeMembers}
use Rattle.cyc_tree.specs.Tree as tree
use Rattle.cyc_tree.specs.Tree.{Item}
use Rattle.source_lowering.specs.Lowerable.{AreValues, HasMember}
use Rattle.source_meaning.specs.Places.{or_else}
use Rattle.source_meaning.specs.Programs.{layout_of, unions_of}
use Rattle.source_meaning.specs.Shapes.{Layout, Part, part_of, part_shapes, parts_of}
use Rattle.source_meaning.specs.Steps.{World}
use Rattle.type_proof.proofs.invariant.Layouts.{same_text}
use Rattle.type_proof.proofs.expressions.Members.{members_known}
use Rattle.type_proof.specs.Flat.{Declared}
use Rattle.type_proof.specs.Structs.{AreInOrder, AreLaidOut, AreMembers, AreNamedApart, AreUnionMembers, declares}
use Rattle.source_typing.specs.Extents.{layouts_onto}
use Rattle.source_typing.specs.Faults.{Fault, is_clean}
use Rattle.source_typing.specs.Programs.{Judged, builtins, entries, first_from, is_seen, judged_tag, named}
use Rattle.source_typing.specs.Programs.{second_names}
use Rattle.source_typing.specs.Tables.{Entry, Named, OfOther, OfTag, Tables, Tag, as_tag, find, parts_of_tag}
use Rattle.source_typing.specs.Tags.{tag_entry, tag_faults, tag_parts, tag_scope}
use Rattle.source_typing.specs.Types.{StaticType, Union}
use Rattle.accepted_proof.proofs.good.Types.{IsKnownEntry, KnowsTags}
use Rattle.accepted_proof.proofs.HeadTags.{TablesAlike}
use Rattle.accepted_proof.proofs.lowered.LaidStructs.{PartsReached, StructsLaid, alike_there, has_member, members_reached, members_values, other_laid}
use Rattle.accepted_proof.proofs.lowered.LaidStructs.{struct_laid, union_laid}
use Rattle.accepted_proof.proofs.lowered.Types.{TagsThere}
use Rattle.accepted_proof.proofs.lowered.StructSizes.{AllLaidTypes, AreOnce, same_parts}
use Rattle.accepted_proof.proofs.MemberTypes.{AreLaidTypes, IsLaidType, MembersGood, members_good, named_apart, union_members}
use Rattle.accepted_proof.proofs.Named.{TagKnown, builtins_known, either_known, one_known}
use Rattle.accepted_proof.proofs.TagNames.{AllDeclared, DeclaredSeen, InTables, UnionsLeft, declared_more, earlier_declared, found_one, more_structs}
use Rattle.accepted_proof.proofs.TagNames.{more_unions, not_declared, of_kind, seen_more, seen_tag}
use Rattle.accepted_proof.proofs.TagOrder.{TagClean, builtins_alike, parameters_below, tag_clean}

-- What is known when the i-th item is judged: these structs and unions were declared, and these structs are laid out.
pub record State (w : World) (T : Tables) (i : ℕ) (done : List Judged) (ds us : List Declared) (found : List Layout) (seen : List (List ℕ)) : Type 0 where
  pub known : KnowsTags (entries done)
  pub declared : AllDeclared done ds us
  pub in_order : AreInOrder ds
  pub laid_out : AreLaidOut T ds found
  pub laid_types : AllLaidTypes us ds
  pub in_tables : InTables T found
  pub laid : StructsLaid w us (entries done) found
  pub seen_all : DeclaredSeen ds seen
  pub unions_seen : DeclaredSeen us seen
  pub few : length ds ≤ i

-- an item without a tag is judged
pub other_step : (w : World) (T : Tables) (i : ℕ) (done : List Judged) (ds us : List Declared) (found : List Layout)
    (seen : List (List ℕ)) (x : tree.Name) (j : Judged) → j.entry ≡ named x OfOther → State w T i done ds us found seen
    → State w T (suc i) (done ++ j ∷ []) ds us found (x.text ∷ seen)
other_step w T i done ds us found seen x j e s = record {
  known = one_known done j s.known (subst (λ (n : Named). IsKnownEntry n.entry) (sym e) tt);
  declared = λ y t q. by y t (find (entries done) y) refl (sym (found_one done j y) ∙ q);
  in_order = s.in_order;
  laid_out = s.laid_out;
  laid_types = s.laid_types;
  in_tables = s.in_tables;
  laid = other_laid w us done found x j e s.laid;
  seen_all = seen_more ds seen x.text s.seen_all;
  unions_seen = seen_more us seen x.text s.unions_seen;
  few = let l : length ds ≤ i = s.few in omega (arith, l);
}
  where
    none : (y : List ℕ) (t : Tag) → find (j.entry ∷ []) y ≡ Some (OfTag t) → ⊥
    none y t q = by2 (bytes_eq x.text y) (subst (λ (n : Named). find (n ∷ []) y ≡ Some (OfTag t)) e q)
      where
        by2 : (b : Bool) → (if b then Some OfOther else None) ≡ Some (OfTag t) → ⊥
        by2 true q = cc
        by2 false q = cc

    by : (y : List ℕ) (t : Tag) (o : Option Entry) → find (entries done) y ≡ o → or_else o (find (j.entry ∷ []) y) ≡ Some (OfTag t)
        → declares (of_kind t.is_union ds us) y ≡ true
    by y t None q p = absurd (none y t p)
    by y t (Some d) q p = s.declared y t (q ∙ p)

-- unions that are declared stay
laid_more : (d : Declared) (us : List Declared) (ds : List Declared) → AllLaidTypes us ds → AllLaidTypes (d ∷ us) ds
laid_more d us [] h = tt
laid_more d us (x ∷ ds) h = (each x.parts h.0, laid_more d us ds h.1)
  where
    one : (t : StaticType) → IsLaidType us t → IsLaidType (d ∷ us) t
    one (Union tag rs) h = by (bytes_eq d.tag tag)
      where
        by : (c : Bool) → (if c then true else declares us tag) ≡ true
        by true = refl
        by false = h
    one _ h = tt

    each : (ts : List StaticType) → AreLaidTypes us ts → AreLaidTypes (d ∷ us) ts
    each [] h = tt
    each (t ∷ ts) h = (one t h.0, each ts h.1)

-- a tag by its entry
abbrev known_tag : (g : Tables) (i : ℕ) (union : Bool) (s : tree.Structure) (ds us : List Declared) → tag_faults g i union s ≡ []
    → MembersGood (length s.regions) (tag_scope g i s) union ds us s.members → TagKnown union s (named s.tag (tag_entry g i union s))
known_tag g i union s ds us p ms = record {
  tag = record {
    text = s.tag.text;
    is_union = union;
    order = i;
    regions = length s.regions;
    parts = tag_parts g i union s;
    sound = is_clean (tag_faults g i union s);
  };
  kind = refl;
  is = refl;
  good = record {
    sound = ap (λ (fs : List Fault). is_clean fs) p;
    types = ms.types;
    parts = members_known (tag_parts g i union s) (map part_of s.members) ms.types ms.members;
    objects = ms.objects;
    types_below = ms.below;
  };
  text = refl;
}

-- the item has the members that it is judged with
own_name : (d : Declared) (ds : List Declared) (y : List ℕ) → bytes_eq d.tag y ≡ true → declares (d ∷ ds) y ≡ true
own_name d ds y e = ap (λ (c : Bool). if c then true else declares ds y) e

module _ (w : World) (T b h : Tables) (program : TagsThere w (builtins b)) (once : AreOnce (codes "getchar" ∷ codes "putchar" ∷ []) b) (i : ℕ)
    (done : List Judged) (is : List Item) (ds us : List Declared) (found : List Layout) (seen : List (List ℕ)) (s : tree.Structure)
    (has_members : AreSomeMembers s.members) (st : State w T i done ds us found seen)
  where
    -- the members of the item, by the tables that there are when it is judged
    module _ (x : Item) (union : Bool) (first : KnowsTags (first_from h i (x ∷ is))) where
      abbrev pub before : Tables
      before = builtins (entries done ++ first_from h i (x ∷ is))

      pub all_known : KnowsTags before
      all_known = builtins_known (entries done ++ first_from h i (x ∷ is)) (either_known (entries done) (first_from h i (x ∷ is)) st.known first)

      pub members_here : TagClean before i union s → MembersGood (length s.regions) (tag_scope before i s) union ds us s.members
      members_here clean =
          members_good (length s.regions) (tag_scope before i s) union ds us (earlier_declared h i done (x ∷ is) s ds us false st.declared)
          (earlier_declared h i done (x ∷ is) s ds us true st.declared) all_known s.members (parameters_below before i s)
          clean.members

      pub reached_here : TablesAlike (entries done ++ first_from h i (x ∷ is)) b → TagClean before i union s → PartsReached w (map part_of s.members)
      reached_here alike clean =
          members_reached w (tag_scope before i s) union s.members
          (alike_there w before (builtins b) (builtins_alike (entries done ++ first_from h i (x ∷ is)) b alike) program) all_known
          clean.members

    -- ---- a struct

    pub record StructStep (j : Judged) : Type 0 where
      pub known : TagKnown false s j.entry
      pub types : List Declared
      pub state : State w T (suc i) (done ++ j ∷ []) types us (layout_of s ∷ found) (s.tag.text ∷ seen)
      pub layout : layouts_onto false found (j.entry ∷ []) ≡ layout_of s ∷ found

    pub struct_step : TablesAlike (entries done ++ first_from h i (tree.StructItem s ∷ is)) b → second_names seen (tree.StructItem s ∷ is) ≡ []
        → KnowsTags (first_from h i (tree.StructItem s ∷ is))
        → tag_faults (builtins (entries done ++ first_from h i (tree.StructItem s ∷ is))) i false s ≡ []
        → is_seen seen s.tag.text ≡ false
        → find T s.tag.text ≡ Some (judged_tag (builtins (entries done ++ first_from h i (tree.StructItem s ∷ is))) i (tree.StructItem s)).entry.entry
        → StructStep (judged_tag (builtins (entries done ++ first_from h i (tree.StructItem s ∷ is))) i (tree.StructItem s))
    struct_step alike names first p unseen there = record {
      known = known;
      types = d ∷ ds;
      layout = ap (λ (ps : List Part). record { tag = s.tag.text; parts = ps } ∷ found)
          (same_parts (tag_parts g i false s) (map part_of s.members) ms.types ms.members);
      state = record {
        known = one_known done j st.known known.good.sound;
        declared = declared_more done j s.tag known.tag ds us (d ∷ ds) us refl st.declared (λ y e. own_name d ds y e)
            (λ kind y e. more_structs kind d ds us y e);
        in_order = (new, ms.typed, st.in_order);
        laid_out = (
          refl,
          subst (λ (o : Option Entry). AreMembers (parts_of_tag (as_tag o)) (map part_of s.members) ms.types) (sym there) ms.members,
          st.laid_out,
        );
        laid_types = (ms.laid, st.laid_types);
        in_tables = ((known.tag, there), st.in_tables);
        laid = struct_laid w b h T i done is seen ds us found s program once alike names has_members (all_known (tree.StructItem s) false first) st.seen_all
            st.unions_seen st.laid_out st.in_order st.laid_types new clean ms st.laid;
        seen_all = seen_tag ds seen d st.seen_all;
        unions_seen = seen_more us seen s.tag.text st.unions_seen;
        few = let l : length ds ≤ i = st.few in omega (arith, l);
      };
    }
      where
        g : Tables
        g = builtins (entries done ++ first_from h i (tree.StructItem s ∷ is))

        j : Judged
        j = judged_tag g i (tree.StructItem s)

        clean : TagClean g i false s
        clean = tag_clean g i false s p

        ms : MembersGood (length s.regions) (tag_scope g i s) false ds us s.members
        ms = members_here (tree.StructItem s) false first clean

        d : Declared
        d = record { tag = s.tag.text; parts = ms.types }

        known : TagKnown false s j.entry
        known = known_tag g i false s ds us p ms

        new : declares ds s.tag.text ≡ false
        new = not_declared ds seen s.tag.text st.seen_all unseen

    -- ---- a union

    pub record UnionStep (j : Judged) : Type 0 where
      pub known : TagKnown true s j.entry
      pub types : List StaticType
      pub laid : AreMembers (parts_of_tag (as_tag (find T s.tag.text))) (map part_of s.members) types
      pub members : AreUnionMembers types
      pub apart : AreNamedApart (map part_of s.members)
      pub some : HasMember (map part_of s.members)
      pub values : AreValues (part_shapes (map part_of s.members))
      pub reached : PartsReached w (map part_of s.members)
      pub state : State w T (suc i) (done ++ j ∷ []) ds (record { tag = s.tag.text; parts = types } ∷ us) found (s.tag.text ∷ seen)
      pub layout : (ls : List Layout) → layouts_onto true ls (j.entry ∷ []) ≡ layout_of s ∷ ls

    pub union_step : TablesAlike (entries done ++ first_from h i (tree.UnionItem s ∷ is)) b → KnowsTags (first_from h i (tree.UnionItem s ∷ is))
        → tag_faults (builtins (entries done ++ first_from h i (tree.UnionItem s ∷ is))) i true s ≡ []
        → is_seen seen s.tag.text ≡ false → UnionsLeft w.unions seen (tree.UnionItem s ∷ is)
        → find T s.tag.text ≡ Some (judged_tag (builtins (entries done ++ first_from h i (tree.UnionItem s ∷ is))) i (tree.UnionItem s)).entry.entry
        → UnionStep (judged_tag (builtins (entries done ++ first_from h i (tree.UnionItem s ∷ is))) i (tree.UnionItem s))
    union_step alike first p unseen left there = record {
      known = known;
      types = ms.types;
      laid = subst (λ (o : Option Entry). AreMembers (parts_of_tag (as_tag o)) (map part_of s.members) ms.types) (sym there) ms.members;
      members = members;
      apart = named_apart [] s.members clean.once;
      some = has_member s.members has_members;
      values = members_values w (tag_parts g i true s) (map part_of s.members) ms.types ms.members members reached;
      reached = reached;
      layout = λ ls. ap (λ (ps : List Part). record { tag = s.tag.text; parts = ps } ∷ ls)
          (same_parts (tag_parts g i true s) (map part_of s.members) ms.types ms.members);
      state = record {
        known = one_known done j st.known known.good.sound;
        declared = declared_more done j s.tag known.tag ds us ds (d ∷ us) refl st.declared (λ y e. own_name d us y e)
            (λ kind y e. more_unions kind d ds us y e);
        in_order = st.in_order;
        laid_out = st.laid_out;
        laid_types = laid_more d us ds st.laid_types;
        in_tables = st.in_tables;
        laid = union_laid w us g i done found s ms.types ms.members own st.laid;
        seen_all = seen_more ds seen s.tag.text st.seen_all;
        unions_seen = seen_tag us seen d st.unions_seen;
        few = let l : length ds ≤ i = st.few in omega (arith, l);
      };
    }
      where
        g : Tables
        g = builtins (entries done ++ first_from h i (tree.UnionItem s ∷ is))

        j : Judged
        j = judged_tag g i (tree.UnionItem s)

        clean : TagClean g i true s
        clean = tag_clean g i true s p

        ms : MembersGood (length s.regions) (tag_scope g i s) true ds us s.members
        ms = members_here (tree.UnionItem s) true first clean

        members : AreUnionMembers ms.types
        members = union_members ms.types ms.objects ms.fitting

        reached : PartsReached w (map part_of s.members)
        reached = reached_here (tree.UnionItem s) true first alike clean

        d : Declared
        d = record { tag = s.tag.text; parts = ms.types }

        known : TagKnown true s j.entry
        known = known_tag g i true s ds us p ms

        own : parts_of w.unions s.tag.text ≡ map part_of s.members
        own = left s.tag.text unseen
            ∙ ap (λ (c : Bool). if c then map part_of s.members else parts_of (unions_of is) s.tag.text) (same_text s.tag.text)
