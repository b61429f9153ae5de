-- How the rules measure a struct: the structs and unions that they lay out for it are those before it, so its bytes are those that it means.
use Rattle.std.proofs.Common.{◌≡◌, ◌≤◌, ℕ, suc, Bool, true, false, max, List, [], ◌∷◌, ◌++◌, refl, sym, subst, ap, ap₂, ◌∙◌}
use Rattle.std.specs.Prelude.{Option, ◌+◌, ◌&&◌, ◌||◌, bytes_eq, codes, if◌then◌else◌, is_some, map, not}
use Rattle.std.proofs.lemmas.Bool.{false≢true, leb-true, not-true}
use Rattle.std.proofs.lemmas.Slice.Eq.{bytes_eq-Decides}
use Rattle.cyc_tree.specs.Tree as tree
use Rattle.cyc_tree.specs.Tree.{Item}
use Rattle.source_meaning.specs.Programs.{layout_of}
use Rattle.source_meaning.specs.Shapes as shapes
use Rattle.source_meaning.specs.Shapes.{Layout, Shape, part_of, parts_of}
use Rattle.source_meaning.specs.Sizes.{Extent, extent_by, laid_out, largest, no_extent, rounded_up, struct_extent, union_extent}
use Rattle.type_proof.proofs.invariant.Layouts.{same_text}
use Rattle.type_proof.specs.Flat.{Declared}
use Rattle.type_proof.specs.Structs.{AreInOrder, AreLaidOut, AreMemberTypes, AreMembers, IsMemberType, declares}
use Rattle.source_typing.specs.Extents.{fits_bytes, is_named_before, known_shape, layouts_of, layouts_onto, meant_first, part_shapes}
use Rattle.source_typing.specs.Faults.{name_rule, size_rule, test}
use Rattle.source_typing.specs.Programs.{Judged, bare_from, builtins, entries, first_from, is_seen, name_of, second_names}
use Rattle.source_typing.specs.Tables.{Named, Part, Tables, parts_in}
use Rattle.source_typing.specs.Tags.{all_typed, struct_bytes, struct_sized, tag_parts}
use Rattle.source_typing.specs.Types.{StaticType, Struct, Union, shape_of}
use Rattle.source_typing.proofs.Inversion.{none_of_both, test_is}
use Rattle.accepted_proof.proofs.HeadTags.{TablesAlike}
use Rattle.accepted_proof.proofs.Named.{AreNamed, IsNamed}
use Rattle.accepted_proof.proofs.MemberTypes.{AreLaidTypes, IsLaidType}

-- ---- each name once

-- names that weren't seen, each of them once
abbrev pub AreOnce : List (List ℕ) → Tables → Type 0
AreOnce seen [] = Unit {0}
AreOnce seen (n ∷ g) = (is_seen seen n.name ≡ false) × AreOnce (n.name ∷ seen) g

-- an item without a second name
record NewName (seen : List (List ℕ)) (x : Item) (is : List Item) : Type 0 where
  new : is_seen seen (name_of x).text ≡ false
  others : second_names ((name_of x).text ∷ seen) is ≡ []

new_name : (seen : List (List ℕ)) (x : Item) (is : List Item) → second_names seen (x ∷ is) ≡ [] → NewName seen x is
new_name seen x is p =
    let e : (test (not (is_seen seen (name_of x).text)) name_rule (name_of x).at ≡ []) × (second_names ((name_of x).text ∷ seen) is ≡ []) =
    none_of_both (test (not (is_seen seen (name_of x).text)) name_rule (name_of x).at) (second_names ((name_of x).text ∷ seen) is) p in
    record {
      new = not-true (is_seen seen (name_of x).text) (test_is (not (is_seen seen (name_of x).text)) name_rule (name_of x).at e.0);
      others = e.1;
    }

pub bare_once : (seen : List (List ℕ)) (i : ℕ) (is : List Item) → second_names seen is ≡ [] → AreOnce seen (bare_from i is)
bare_once seen i [] p = tt
bare_once seen i (x ∷ is) p =
    let n : NewName seen x is = new_name seen x is p in (n.new, bare_once ((name_of x).text ∷ seen) (suc i) is n.others)

-- so the entries of the items, once they are judged
named_name : (j : Judged) (x : Item) → IsNamed j x → j.entry.name ≡ (name_of x).text
named_name j (tree.StructItem s) n = ap (λ (m : Named). m.name) n.is
named_name j (tree.UnionItem s) n = ap (λ (m : Named). m.name) n.is
named_name j (tree.GlobalItem x) n = ap (λ (m : Named). m.name) n
named_name j (tree.FunctionItem f) n = ap (λ (m : Named). m.name) n

pub named_once : (seen : List (List ℕ)) (js : List Judged) (is : List Item) → AreNamed js is → second_names seen is ≡ [] → AreOnce seen (entries js)
named_once seen [] [] n p = tt
named_once seen [] (x ∷ is) n p = absurd n
named_once seen (j ∷ js) [] n p = absurd n
named_once seen (j ∷ js) (x ∷ is) n p =
    let e : NewName seen x is = new_name seen x is p in
    let q : j.entry.name ≡ (name_of x).text = named_name j x n.0 in (
      ap (λ (y : List ℕ). is_seen seen y) q ∙ e.new,
      named_once (j.entry.name ∷ seen) js is n.1 (subst (λ (y : List ℕ). second_names (y ∷ seen) is ≡ []) (sym q) e.others),
    )

once_alike : (seen : List (List ℕ)) (g b : Tables) → TablesAlike g b → AreOnce seen b → AreOnce seen g
once_alike seen [] [] k h = tt
once_alike seen (n ∷ g) (m ∷ b) k h =
    (ap (λ (y : List ℕ). is_seen seen y) k.0 ∙ h.0, once_alike (n.name ∷ seen) g b k.2 (subst (λ (y : List ℕ). AreOnce (y ∷ seen) b) (sym k.0) h.1))
once_alike seen [] (m ∷ b) k h = absurd k
once_alike seen (n ∷ g) [] k h = absurd k

-- so each declaration is meant by its name
meant_once : (before seen : List (List ℕ)) (g : Tables) → ((x : List ℕ) → is_seen seen x ≡ false → is_named_before before x ≡ false) → AreOnce seen g
    → meant_first before g ≡ g
meant_once before seen [] k h = refl
meant_once before seen (n ∷ g) k h =
    ap (λ (b : Bool). if b then meant_first before g else n ∷ meant_first (n.name ∷ before) g) (k n.name h.0)
    ∙ ap (λ (z : Tables). n ∷ z) (meant_once (n.name ∷ before) (n.name ∷ seen) g (λ x e. by (bytes_eq n.name x) x e) h.1)
  where
    by : (b : Bool) (x : List ℕ) → b || is_seen seen x ≡ false → b || is_named_before before x ≡ false
    by true x e = e
    by false x e = k x e

pub builtins_meant : (g : Tables) → AreOnce (codes "getchar" ∷ codes "putchar" ∷ []) g → meant_first [] (builtins g) ≡ builtins g
builtins_meant g h =
    ap (λ (z : Tables). builtins z)
    (meant_once (codes "putchar" ∷ codes "getchar" ∷ []) (codes "getchar" ∷ codes "putchar" ∷ []) g
    (λ x e. by (bytes_eq (codes "getchar") x) (bytes_eq (codes "putchar") x) e) h)
  where
    by : (a c : Bool) → a || (c || false) ≡ false → c || (a || false) ≡ false
    by true c e = absurd cc
    by false true e = absurd cc
    by false false e = refl

-- ---- the structs of a table

pub layouts_both : (union : Bool) (ls : List Layout) (g h : Tables) → layouts_onto union ls (g ++ h) ≡ layouts_onto union (layouts_onto union ls g) h
layouts_both union ls [] h = refl
layouts_both union ls (n ∷ g) h = layouts_both union (layouts_onto union ls (n ∷ [])) g h

-- the tables by which an item is judged: these are judged before it, and it and those behind it aren't
module _ (done : Tables) (h : Tables) (i : ℕ) (is : List Item) (b : Tables) (alike : TablesAlike (done ++ first_from h i is) b)
    (once : AreOnce (codes "getchar" ∷ codes "putchar" ∷ []) b)
  where
    meant : (union : Bool) → layouts_of union (builtins (done ++ first_from h i is)) ≡ layouts_onto union (layouts_onto union [] done) (first_from h i is)
    meant union =
        ap (λ (z : Tables). layouts_onto union [] z)
        (builtins_meant (done ++ first_from h i is) (once_alike (codes "getchar" ∷ codes "putchar" ∷ []) (done ++ first_from h i is) b alike once))
        ∙ layouts_both union [] done (first_from h i is)

    pub unions_are : layouts_of true (builtins (done ++ first_from h i is)) ≡ layouts_onto true (layouts_onto true [] done) (first_from h i is)
    unions_are = meant true

    pub structs_are : (found : List Layout) → layouts_onto false [] done ≡ found
        → layouts_of false (builtins (done ++ first_from h i is)) ≡ layouts_onto false found (first_from h i is)
    structs_are found e = meant false ∙ ap (λ (ls : List Layout). layouts_onto false ls (first_from h i is)) e

-- a tag that was seen isn't one of those that stand later
seen_apart : (seen : List (List ℕ)) (y x : List ℕ) → is_seen seen y ≡ false → is_seen seen x ≡ true → bytes_eq y x ≡ false
seen_apart seen y x n e = by (bytes_eq y x) refl
  where
    by : (b : Bool) → bytes_eq y x ≡ b → b ≡ false
    by true q = absurd (false≢true (sym n ∙ (ap (λ (z : List ℕ). is_seen seen z) ((bytes_eq-Decides y x).0 q) ∙ e)))
    by false q = refl

seen_still : (seen : List (List ℕ)) (y x : List ℕ) → is_seen seen x ≡ true → is_seen (y ∷ seen) x ≡ true
seen_still seen y x e = by (bytes_eq y x)
  where
    by : (b : Bool) → b || is_seen seen x ≡ true
    by true = refl
    by false = e

pub later_passed : (unions ls : List Layout) (h : Tables) (i : ℕ) (is : List Item) (seen : List (List ℕ)) (tag : List ℕ) → second_names seen is ≡ []
    → is_seen seen tag ≡ true → struct_extent unions (layouts_onto false ls (first_from h i is)) tag ≡ struct_extent unions ls tag
later_passed unions ls h i [] seen tag p e = refl
later_passed unions ls h i (tree.StructItem s ∷ is) seen tag p e =
    let n : NewName seen (tree.StructItem s) is = new_name seen (tree.StructItem s) is p in
    later_passed unions (record { tag = s.tag.text; parts = [] } ∷ ls) h (suc i) is (s.tag.text ∷ seen) tag n.others (seen_still seen s.tag.text tag e)
    ∙ ap (λ (b : Bool). if b then laid_out (extent_by (struct_extent unions ls) (union_extent unions)) (no_extent tag) [] else struct_extent unions ls tag)
    (seen_apart seen s.tag.text tag n.new e)
later_passed unions ls h i (tree.UnionItem s ∷ is) seen tag p e =
    let n : NewName seen (tree.UnionItem s) is = new_name seen (tree.UnionItem s) is p in
    later_passed unions ls h (suc i) is (s.tag.text ∷ seen) tag n.others (seen_still seen s.tag.text tag e)
later_passed unions ls h i (tree.GlobalItem x ∷ is) seen tag p e =
    let n : NewName seen (tree.GlobalItem x) is = new_name seen (tree.GlobalItem x) is p in
    later_passed unions ls h (suc i) is (x.name.text ∷ seen) tag n.others (seen_still seen x.name.text tag e)
later_passed unions ls h i (tree.FunctionItem f ∷ is) seen tag p e =
    let n : NewName seen (tree.FunctionItem f) is = new_name seen (tree.FunctionItem f) is p in
    later_passed unions ls h (suc i) is (f.name.text ∷ seen) tag n.others (seen_still seen f.name.text tag e)

-- the members of a union that was seen
pub union_passed : (ls : List Layout) (h : Tables) (i : ℕ) (is : List Item) (seen : List (List ℕ)) (tag : List ℕ) → second_names seen is ≡ []
    → is_seen seen tag ≡ true → parts_of (layouts_onto true ls (first_from h i is)) tag ≡ parts_of ls tag
union_passed ls h i [] seen tag p e = refl
union_passed ls h i (tree.StructItem s ∷ is) seen tag p e =
    let n : NewName seen (tree.StructItem s) is = new_name seen (tree.StructItem s) is p in
    union_passed ls h (suc i) is (s.tag.text ∷ seen) tag n.others (seen_still seen s.tag.text tag e)
union_passed ls h i (tree.UnionItem s ∷ is) seen tag p e =
    let n : NewName seen (tree.UnionItem s) is = new_name seen (tree.UnionItem s) is p in
    union_passed (record { tag = s.tag.text; parts = [] } ∷ ls) h (suc i) is (s.tag.text ∷ seen) tag n.others (seen_still seen s.tag.text tag e)
    ∙ ap (λ (b : Bool). if b then [] else parts_of ls tag) (seen_apart seen s.tag.text tag n.new e)
union_passed ls h i (tree.GlobalItem x ∷ is) seen tag p e =
    let n : NewName seen (tree.GlobalItem x) is = new_name seen (tree.GlobalItem x) is p in
    union_passed ls h (suc i) is (x.name.text ∷ seen) tag n.others (seen_still seen x.name.text tag e)
union_passed ls h i (tree.FunctionItem f ∷ is) seen tag p e =
    let n : NewName seen (tree.FunctionItem f) is = new_name seen (tree.FunctionItem f) is p in
    union_passed ls h (suc i) is (f.name.text ∷ seen) tag n.others (seen_still seen f.name.text tag e)

-- ---- members

pub same_parts : (ps : List Part) (qs : List shapes.Part) (ts : List StaticType) → AreMembers ps qs ts → part_shapes ps ≡ qs
same_parts [] [] [] h = refl
same_parts (p ∷ ps) (q ∷ qs) (t ∷ ts) h =
    ap₂ (λ (x : List ℕ) (s : Shape). record { name = x; shape = s } ∷ part_shapes ps) h.0 (ap (λ (o : Option StaticType). known_shape o) h.1 ∙ sym h.2)
    ∙ ap (λ (z : List shapes.Part). q ∷ z) (same_parts ps qs ts h.3)
same_parts [] [] (t ∷ ts) h = absurd h
same_parts [] (q ∷ qs) ts h = absurd h
same_parts (p ∷ ps) [] ts h = absurd h
same_parts (p ∷ ps) (q ∷ qs) [] h = absurd h

are_typed : (ps : List Part) (qs : List shapes.Part) (ts : List StaticType) → AreMembers ps qs ts → all_typed ps ≡ true
are_typed [] [] [] h = refl
are_typed (p ∷ ps) (q ∷ qs) (t ∷ ts) h = ap (λ (o : Option StaticType). is_some o && all_typed ps) h.1 ∙ are_typed ps qs ts h.3
are_typed [] [] (t ∷ ts) h = absurd h
are_typed [] (q ∷ qs) ts h = absurd h
are_typed (p ∷ ps) [] ts h = absurd h
are_typed (p ∷ ps) (q ∷ qs) [] h = absurd h

laid_alike : (e d : Shape → Extent) (so_far : Extent) (ds us : List Declared) (ps : List Part) (qs : List shapes.Part) (ts : List StaticType)
    → AreMembers ps qs ts → AreMemberTypes ds ts → AreLaidTypes us ts
    → ((t : StaticType) → IsMemberType ds t → IsLaidType us t → e (shape_of t) ≡ d (shape_of t)) → laid_out e so_far qs ≡ laid_out d so_far qs
laid_alike e d so_far ds us [] [] [] h o l each = refl
laid_alike e d so_far ds us (p ∷ ps) (q ∷ qs) (t ∷ ts) h o l each =
    let a : e q.shape ≡ d q.shape = ap e h.2 ∙ (each t o.0 l.0 ∙ sym (ap d h.2)) in
    ap (λ (x : Extent). laid_out e (record { size = rounded_up so_far.size x.align + x.size; align = max so_far.align x.align }) qs) a
    ∙ laid_alike e d (record { size = rounded_up so_far.size (d q.shape).align + (d q.shape).size; align = max so_far.align (d q.shape).align }) ds us ps qs
    ts h.3 o.1 l.1 each
laid_alike e d so_far ds us [] [] (t ∷ ts) h o l each = absurd h
laid_alike e d so_far ds us [] (q ∷ qs) ts h o l each = absurd h
laid_alike e d so_far ds us (p ∷ ps) [] ts h o l each = absurd h
laid_alike e d so_far ds us (p ∷ ps) (q ∷ qs) [] h o l each = absurd h

-- a union that was declared has the same members in both, and so as many bytes
abbrev pub UnionsAlike : List Declared → List Layout → List Layout → Type 0
UnionsAlike us ls ms = (tag : List ℕ) → declares us tag ≡ true → parts_of ls tag ≡ parts_of ms tag

-- so has a struct
abbrev pub MeasuredAlike : List Declared → List Layout → List Layout → List Layout → List Layout → Type 0
MeasuredAlike ds lu ls mu ms = (tag : List ℕ) → declares ds tag ≡ true → struct_extent lu ls tag ≡ struct_extent mu ms tag

pub union_alike : (lu mu : List Layout) (tag : List ℕ) → parts_of lu tag ≡ parts_of mu tag → union_extent lu tag ≡ union_extent mu tag
union_alike lu mu tag e =
    ap (λ (ps : List shapes.Part). record { size = rounded_up (4 + largest (extent_by no_extent no_extent) 0 ps) 4; align = 4 }) e

member_extent : (ds us : List Declared) (lu ls mu ms : List Layout) (t : StaticType) → MeasuredAlike ds lu ls mu ms → UnionsAlike us lu mu
    → IsMemberType ds t → IsLaidType us t
    → extent_by (struct_extent lu ls) (union_extent lu) (shape_of t) ≡ extent_by (struct_extent mu ms) (union_extent mu) (shape_of t)
member_extent ds us lu ls mu ms (Struct tag rs) k n h l = k tag h
member_extent ds us lu ls mu ms (Union tag rs) k n h l = union_alike lu mu tag (n tag l)
member_extent ds us lu ls mu ms _ k n h l = refl

-- all structs are made of unions that were declared
abbrev pub AllLaidTypes : List Declared → List Declared → Type 0
AllLaidTypes us [] = Unit {0}
AllLaidTypes us (d ∷ ds) = AreLaidTypes us d.parts × AllLaidTypes us ds

pub structs_alike : (T : Tables) (ds us : List Declared) (lu mu ls : List Layout) → AreLaidOut T ds ls → AreInOrder ds → AllLaidTypes us ds
    → UnionsAlike us lu mu → (tag : List ℕ) → struct_extent lu ls tag ≡ struct_extent mu ls tag
structs_alike T [] us lu mu [] h o l n tag = refl
structs_alike T (d ∷ ds) us lu mu (x ∷ ls) h o l n tag = by (bytes_eq x.tag tag) (λ y. structs_alike T ds us lu mu ls h.2 o.2 l.1 n y)
  where
    by : (b : Bool) → ((y : List ℕ) → struct_extent lu ls y ≡ struct_extent mu ls y)
        → (if b then laid_out (extent_by (struct_extent lu ls) (union_extent lu)) (no_extent tag) x.parts else struct_extent lu ls tag)
        ≡ (if b then laid_out (extent_by (struct_extent mu ls) (union_extent mu)) (no_extent tag) x.parts else struct_extent mu ls tag)
    by true others =
        laid_alike (extent_by (struct_extent lu ls) (union_extent lu)) (extent_by (struct_extent mu ls) (union_extent mu)) (no_extent tag) ds us
        (parts_in T d.tag) x.parts d.parts h.1 o.1 l.0 (λ t a c. member_extent ds us lu ls mu ls t (λ y e. others y) n a c)
    by false others = others tag
structs_alike T [] us lu mu (x ∷ ls) h o l n tag = absurd h
structs_alike T (d ∷ ds) us lu mu [] h o l n tag = absurd h

-- ---- the bytes of a struct

-- a struct that the rules find small enough is so where it is laid out
pub struct_small : (g : Tables) (i : ℕ) (s : tree.Structure) (ds us : List Declared) (unions found : List Layout) (ts : List StaticType)
    → struct_sized g false s (tag_parts g i false s) ≡ [] → AreMembers (tag_parts g i false s) (map part_of s.members) ts → AreMemberTypes ds ts
    → AreLaidTypes us ts → UnionsAlike us (layouts_of true g) unions → MeasuredAlike ds (layouts_of true g) (layouts_of false g) unions found
    → (struct_extent unions (layout_of s ∷ found) s.tag.text).size ≤ 4096
struct_small g i s ds us unions found ts p h o l same_unions alike =
    leb-true (struct_extent unions (layout_of s ∷ found) s.tag.text).size 4096 (subst (λ (n : ℕ). fits_bytes n ≡ true) same fits)
  where
    ps : List Part
    ps = tag_parts g i false s

    qs : List shapes.Part
    qs = map part_of s.members

    lu : List Layout
    lu = layouts_of true g

    bytes : List Layout → List shapes.Part → List Layout → Bool → ℕ
    bytes others parts ls b =
        (if b then laid_out (extent_by (struct_extent others ls) (union_extent others)) (no_extent s.tag.text) parts
        else struct_extent others ls s.tag.text).size

    of : (b : Bool) → not b || fits_bytes (struct_bytes g s ps) ≡ true → b ≡ true → fits_bytes (struct_bytes g s ps) ≡ true
    of true e q = e
    of false e q = absurd cc

    fits : fits_bytes (struct_bytes g s ps) ≡ true
    fits = of (all_typed ps) (test_is (not (all_typed ps) || fits_bytes (struct_bytes g s ps)) size_rule s.tag.at p) (are_typed ps qs ts h)

    same : struct_bytes g s ps ≡ (struct_extent unions (layout_of s ∷ found) s.tag.text).size
    same =
        ap (λ (zs : List shapes.Part). bytes lu zs (layouts_of false g) (bytes_eq s.tag.text s.tag.text)) (same_parts ps qs ts h)
        ∙ (ap (λ (b : Bool). bytes lu qs (layouts_of false g) b) (same_text s.tag.text)
        ∙ (ap (λ (e : Extent). e.size)
        (laid_alike (extent_by (struct_extent lu (layouts_of false g)) (union_extent lu)) (extent_by (struct_extent unions found) (union_extent unions))
        (no_extent s.tag.text) ds us ps qs ts h o l
        (λ t a c. member_extent ds us lu (layouts_of false g) unions found t alike same_unions a c))
        ∙ sym (ap (λ (b : Bool). bytes unions qs found b) (same_text s.tag.text))))
