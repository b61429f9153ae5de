-- The tables of a program, and those of its tags alone: the same names in the same order, each with the same struct or union, or none.
use Rattle.std.proofs.Common.{◌≡◌, ℕ, suc, Bool, true, false, Some, List, [], ◌∷◌, ◌++◌, refl, sym, subst, ap, ◌∙◌}
use Rattle.std.proofs.lemmas.List.{append-nil, append_assoc}
use Rattle.std.specs.Prelude.{bytes_eq, codes, if◌then◌else◌}
use Rattle.cyc_tree.specs.Tree as tree
use Rattle.cyc_tree.specs.Tree.{Item, Program}
use Rattle.cyc_types.specs.FirstTags.{AlikeTags}
use Rattle.cyc_types.proofs.FirstTags.{has_alike}
use Rattle.source_typing.specs.Functions.{head_of}
use Rattle.source_typing.specs.Globals.{global_entry}
use Rattle.source_typing.specs.Programs.{Judged, bare_from, builtins, entries, entries_with, first_from, judged_tag, judged_tags, named, tables_of, tags_from}
use Rattle.source_typing.specs.Scope.{at_item}
use Rattle.source_typing.specs.Tables.{Named, OfBuiltin, OfFunction, OfOther, Tables, as_tag, find}
use Rattle.check_types.specs.Tagged.{tag_name_of}
use Rattle.check_tables.specs.Structs.{KnowsStructs}
use Rattle.check_tables.specs.declared.structs.Structs.{Structs}

-- ---- the tags of a program

-- an item as a tag: of a struct or union its name, of others no tag
abbrev pub IsTagOf : Item → Judged → Type 0
IsTagOf (tree.StructItem s) j = (j.entry.name ≡ s.tag.text)
IsTagOf (tree.UnionItem u) j = (j.entry.name ≡ u.tag.text)
IsTagOf (tree.GlobalItem x) j = (j.entry ≡ named x.name OfOther)
IsTagOf (tree.FunctionItem f) j = (j.entry ≡ named f.name OfOther)

abbrev pub AreTagsOf : List Item → List Judged → Type 0
AreTagsOf [] [] = Unit {0}
AreTagsOf (i ∷ items) (j ∷ js) = IsTagOf i j × AreTagsOf items js
AreTagsOf [] (j ∷ js) = ⊥
AreTagsOf (i ∷ items) [] = ⊥

-- an item is judged as a tag by some tables, after so many items
pub record IsJudged (i : Item) (j : Judged) : Type 0 where
  pub tables : Tables
  pub index : ℕ
  pub is : j ≡ judged_tag tables index i

abbrev pub AreJudged : List Item → List Judged → Type 0
AreJudged [] [] = Unit {0}
AreJudged (i ∷ items) (j ∷ js) = IsJudged i j × AreJudged items js
AreJudged [] (j ∷ js) = ⊥
AreJudged (i ∷ items) [] = ⊥

-- what is judged after what was judged before
record JudgedAfter (done : List Judged) (items : List Item) (all : List Judged) : Type 0 where
  more : List Judged
  is : done ++ more ≡ all
  judged : AreJudged items more

judged_after : (g : Tables) (k : ℕ) (done : List Judged) (items : List Item) → JudgedAfter done items (tags_from k done items (first_from g k items))
judged_after g k done [] = record { more = []; is = append-nil done; judged = tt }
judged_after g k done (i ∷ items) =
    let h : Tables = builtins (entries done ++ first_from g k (i ∷ items)) in
    let j : Judged = judged_tag h k i in
    let rest : JudgedAfter (done ++ j ∷ []) items (tags_from (suc k) (done ++ j ∷ []) items (first_from g (suc k) items)) =
    judged_after g (suc k) (done ++ j ∷ []) items in
    record {
      more = j ∷ rest.more;
      is = sym (append_assoc done (j ∷ []) rest.more) ∙ rest.is;
      judged = (record { tables = h; index = k; is = refl }, rest.judged);
    }

-- each item of a program is judged as a tag
pub all_judged : (p : Program) → AreJudged p (judged_tags p)
all_judged p =
    let all : JudgedAfter [] p (judged_tags p) = judged_after (builtins (bare_from 0 p)) 0 [] p in
    subst (AreJudged p) all.is all.judged

tag_judged : (g : Tables) (k : ℕ) (i : Item) → IsTagOf i (judged_tag g k i)
tag_judged g k (tree.StructItem s) = refl
tag_judged g k (tree.UnionItem u) = refl
tag_judged g k (tree.GlobalItem x) = refl
tag_judged g k (tree.FunctionItem f) = refl

judged_are : (items : List Item) (js : List Judged) → AreJudged items js → AreTagsOf items js
judged_are [] [] judged = tt
judged_are [] (j ∷ js) judged = absurd judged
judged_are (i ∷ items) [] judged = absurd judged
judged_are (i ∷ items) (j ∷ js) judged =
    (subst (IsTagOf i) (sym judged.0.is) (tag_judged judged.0.tables judged.0.index i), judged_are items js judged.1)

pub tags_are : (p : Program) → AreTagsOf p (judged_tags p)
tags_are p = judged_are p (judged_tags p) (all_judged p)

-- ---- the same structs and unions

entries_alike : (l : Bool) (h : Tables) (i : ℕ) (items : List Item) (js : List Judged) → AreTagsOf items js
    → AlikeTags (entries js) (entries_with l h i js items)
entries_alike l h i [] [] n = tt
entries_alike l h i [] (j ∷ js) n = absurd n
entries_alike l h i (x ∷ items) [] n = absurd n
entries_alike l h i (tree.StructItem s ∷ items) (j ∷ js) n = (n.0, (refl, entries_alike l h (suc i) items js n.1))
entries_alike l h i (tree.UnionItem u ∷ items) (j ∷ js) n = (n.0, (refl, entries_alike l h (suc i) items js n.1))
entries_alike l h i (tree.GlobalItem x ∷ items) (j ∷ js) n =
    (ap (λ (z : Named). z.name) n.0, (ap (λ (z : Named). as_tag (Some z.entry)) n.0, entries_alike l h (suc i) items js n.1))
entries_alike l h i (tree.FunctionItem f ∷ items) (j ∷ js) n =
    (ap (λ (z : Named). z.name) n.0, (ap (λ (z : Named). as_tag (Some z.entry)) n.0, entries_alike l h (suc i) items js n.1))

pub tables_alike : (l : Bool) (p : Program) → AlikeTags (builtins (entries (judged_tags p))) (tables_of l p)
tables_alike l p = (refl, (refl, (refl, (refl, entries_alike l (builtins (entries (judged_tags p))) 0 p (judged_tags p) (tags_are p)))))

-- ---- the same meanings where a tag is wanted

-- an entry of a name before others
one_named : (n m : Named) (g h : Tables) (x : List ℕ) → n.name ≡ m.name → tag_name_of (Some n.entry) ≡ tag_name_of (Some m.entry)
    → tag_name_of (find g x) ≡ tag_name_of (find h x) → tag_name_of (find (n ∷ g) x) ≡ tag_name_of (find (m ∷ h) x)
one_named n m g h x name entry others =
    by (bytes_eq n.name x) ∙ ap (λ (y : List ℕ). tag_name_of (if bytes_eq y x then Some m.entry else find h x)) name
  where
    by : (b : Bool) → tag_name_of (if b then Some n.entry else find g x) ≡ tag_name_of (if b then Some m.entry else find h x)
    by true = entry
    by false = others

names_alike : (l : Bool) (h : Tables) (i : ℕ) (items : List Item) (js : List Judged) → AreTagsOf items js → (x : List ℕ)
    → tag_name_of (find (entries js) x) ≡ tag_name_of (find (entries_with l h i js items) x)
names_alike l h i [] [] n x = refl
names_alike l h i [] (j ∷ js) n x = absurd n
names_alike l h i (y ∷ items) [] n x = absurd n
names_alike l h i (tree.StructItem s ∷ items) (j ∷ js) n x =
    one_named j.entry (named s.tag j.entry.entry) (entries js) (entries_with l h (suc i) js items) x n.0 refl (names_alike l h (suc i) items js n.1 x)
names_alike l h i (tree.UnionItem u ∷ items) (j ∷ js) n x =
    one_named j.entry (named u.tag j.entry.entry) (entries js) (entries_with l h (suc i) js items) x n.0 refl (names_alike l h (suc i) items js n.1 x)
names_alike l h i (tree.GlobalItem y ∷ items) (j ∷ js) n x =
    one_named j.entry (named y.name (global_entry (at_item l h i) y)) (entries js) (entries_with l h (suc i) js items) x (ap (λ (z : Named). z.name) n.0)
    (ap (λ (z : Named). tag_name_of (Some z.entry)) n.0) (names_alike l h (suc i) items js n.1 x)
names_alike l h i (tree.FunctionItem f ∷ items) (j ∷ js) n x =
    one_named j.entry (named f.name (OfFunction (head_of l h f).signature)) (entries js) (entries_with l h (suc i) js items) x (ap (λ (z : Named). z.name) n.0)
    (ap (λ (z : Named). tag_name_of (Some z.entry)) n.0) (names_alike l h (suc i) items js n.1 x)

pub names_same : (l : Bool) (p : Program) (x : List ℕ) → tag_name_of (find (builtins (entries (judged_tags p))) x) ≡ tag_name_of (find (tables_of l p) x)
names_same l p x =
    let g : Tables = builtins (entries (judged_tags p)) in
    one_named (record { name = codes "getchar"; entry = OfBuiltin 0 }) (record { name = codes "getchar"; entry = OfBuiltin 0 })
    (record { name = codes "putchar"; entry = OfBuiltin 1 } ∷ entries (judged_tags p))
    (record { name = codes "putchar"; entry = OfBuiltin 1 } ∷ entries_with l g 0 (judged_tags p) p) x refl refl
    (one_named (record { name = codes "putchar"; entry = OfBuiltin 1 }) (record { name = codes "putchar"; entry = OfBuiltin 1 })
    (entries (judged_tags p)) (entries_with l g 0 (judged_tags p) p) x refl refl (names_alike l g 0 p (judged_tags p) (tags_are p) x))

-- what is known by the tags alone is known by all tables
pub knows_all : (s : Structs) (l : Bool) (p : Program) → KnowsStructs s (builtins (entries (judged_tags p))) → KnowsStructs s (tables_of l p)
knows_all s l p k = record {
  names = λ x. record { is = sym (names_same l p x) ∙ (k.names x).is };
  tables = has_alike s.tables.now (builtins (entries (judged_tags p))) (tables_of l p) (tables_alike l p) k.tables;
}
