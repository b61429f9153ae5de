-- A program in which the rules find no fault has none without those on live regions and effects.
use Rattle.std.proofs.Common.{◌≡◌, ℕ, suc, Bool, true, false, Option, Some, None, List, [], ◌∷◌, ◌++◌, refl, sym, subst, ap, ◌∙◌}
use Rattle.std.specs.Prelude.{bytes_eq, codes, if◌then◌else◌}
use Rattle.cyc_tree.specs.Tree.{Program}
use Rattle.cyc_types.specs.FirstTags.{AlikeTags}
use Rattle.source_typing.proofs.Inversion.{both_none, none_is, none_of_both}
use Rattle.source_typing.proofs.SameTags.{SameTags}
use Rattle.source_typing.specs.Answers.{effect_fault, type_fault}
use Rattle.source_typing.specs.Faults.{earliest, type_rule}
use Rattle.source_typing.specs.Programs.{all_tag_faults, builtins, entries, faults_with, item_faults, items_from, judged_tags, main_found, second_names}
use Rattle.source_typing.specs.Programs.{size_faults, tables_of, typing_faults}
use Rattle.source_typing.specs.Scope.{at_item}
use Rattle.source_typing.specs.Tables.{Entry, OfBuiltin, OfFunction, OfOther, OfTag, OfValue, Tables, Tag, as_tag, find}
use Rattle.source_typing.specs.Types.{same_bool}
use Rattle.source_typing.specs.Verdicts.{Verdict, refuse}
use Rattle.source_typing.specs.Written.{if_sound, of_kind, tag_of}
use Rattle.check_tables.proofs.TagTables.{tables_alike}
use Rattle.region_types.proofs.EasedGlobals.{global_same, sizes_same}
use Rattle.region_types.proofs.EasedHeads.{function_clean}
use Rattle.region_types.proofs.EasedTables.{entries_eased}
use Rattle.cyc_tree.specs.Tree as tree

-- ---- the same tags

-- what a name means in a type, by the struct or union that it is
abbrev by_tag : Option Tag → Bool → ℕ → Verdict ℕ
by_tag (Some t) union at = if_sound t.sound (of_kind (same_bool t.is_union union) t at)
by_tag None union at = refuse type_rule at

entry_tag : (e : Entry) (union : Bool) (at : ℕ) → tag_of (Some e) union at ≡ by_tag (as_tag (Some e)) union at
entry_tag (OfTag t) union at = refl
entry_tag (OfValue w) union at = refl
entry_tag (OfFunction s) union at = refl
entry_tag (OfBuiltin n) union at = refl
entry_tag OfOther union at = refl

-- two entries that are the same in a type
record AreSame (o p : Option Entry) : Type 0 where
  tag : (union : Bool) (at : ℕ) → tag_of o union at ≡ tag_of p union at
  regions : as_tag o ≡ as_tag p

same_entry : (e d : Entry) → as_tag (Some e) ≡ as_tag (Some d) → AreSame (Some e) (Some d)
same_entry e d same = record {
  tag = λ union at. entry_tag e union at ∙ ap (λ (o : Option Tag). by_tag o union at) same ∙ sym (entry_tag d union at);
  regions = same;
}

found_same : (g h : Tables) → AlikeTags g h → (x : List ℕ) → AreSame (find g x) (find h x)
found_same [] [] k x = record { tag = λ union at. refl; regions = refl }
found_same [] (m ∷ h) k x = absurd k
found_same (n ∷ g) [] k x = absurd k
found_same (n ∷ g) (m ∷ h) k x =
    subst (λ (y : List ℕ). AreSame (if bytes_eq n.name x then Some n.entry else find g x) (if bytes_eq y x then Some m.entry else find h x)) k.0
    (by (bytes_eq n.name x) (found_same g h k.1.1 x))
  where
    by : (b : Bool) → AreSame (find g x) (find h x) → AreSame (if b then Some n.entry else find g x) (if b then Some m.entry else find h x)
    by true others = same_entry n.entry m.entry k.1.0
    by false others = others

same_tags : (p : Program) → SameTags (builtins (entries (judged_tags p))) (tables_of false p)
same_tags p =
    let found = found_same (builtins (entries (judged_tags p))) (tables_of false p) (tables_alike false p) in
    record { tags = λ x. (found x).tag; regions = λ x. (found x).regions }

-- ---- programs

item_clean : (g : Tables) (i : ℕ) (item : tree.Item) → item_faults false g i item ≡ [] → item_faults true g i item ≡ []
item_clean g i (tree.FunctionItem f) none = function_clean g i f none
item_clean g i (tree.GlobalItem x) none = global_same (at_item false g i) x ∙ none
item_clean g i (tree.StructItem s) none = refl
item_clean g i (tree.UnionItem u) none = refl

items_clean : (g : Tables) (i : ℕ) (items : List tree.Item) → items_from false g i items ≡ [] → items_from true g i items ≡ []
items_clean g i [] none = refl
items_clean g i (item ∷ items) none =
    let all = none_of_both (item_faults false g i item) (items_from false g (suc i) items) none in
    both_none (item_faults true g i item) (items_from true g (suc i) items) (item_clean g i item all.0) (items_clean g (suc i) items all.1)

pub typing_clean : (p : Program) → typing_faults false p ≡ [] → typing_faults true p ≡ []
typing_clean p none =
    let g = tables_of false p in
    let seconds = second_names (codes "getchar" ∷ codes "putchar" ∷ []) p in
    let all = none_of_both (all_tag_faults (judged_tags p)) (faults_with false g p) none in
    let with_main = none_of_both (seconds ++ items_from false g 0 p ++ main_found p) (size_faults false g p) all.1 in
    let with_items = none_of_both (seconds ++ items_from false g 0 p) (main_found p) with_main.0 in
    let first = none_of_both seconds (items_from false g 0 p) with_items.0 in
    let names = builtins (entries (judged_tags p)) in
    let tables : tables_of true p ≡ g = ap builtins (entries_eased names g 0 (judged_tags p) p (same_tags p) first.1) in
    let items = both_none seconds (items_from true g 0 p) first.0 (items_clean g 0 p first.1) in
    let others = both_none (seconds ++ items_from true g 0 p) (main_found p) items with_items.1 in
    let rest = both_none (seconds ++ items_from true g 0 p ++ main_found p) (size_faults true g p) others (sizes_same g p ∙ with_main.1) in
    both_none (all_tag_faults (judged_tags p)) (faults_with true (tables_of true p) p) all.0 (ap (λ t. faults_with true t p) tables ∙ rest)

-- the fault that is answered
pub none_of_types : (p : Program) → effect_fault p ≡ None → type_fault p ≡ None
none_of_types p none = ap earliest (typing_clean p (none_is (typing_faults false p) none))
