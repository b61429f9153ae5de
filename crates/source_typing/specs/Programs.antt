-- Believed: how a program is judged: its tables, and each item.
use Rattle.std.specs.Prelude.{Bool, List, Option, bytes_eq, codes, false, not, suc, true, ℕ, ◌||◌, if◌then◌else◌, [], ◌∷◌, ◌++◌}
use Rattle.cyc_tree.specs.Places.{end_of_text}
use Rattle.cyc_tree.specs.Tree.{Item, Program}
use Rattle.source_typing.specs.Faults.{Fault, earliest, fault, name_rule, test, type_rule}
use Rattle.source_typing.specs.Functions.{function_faults, head_of}
use Rattle.source_typing.specs.Globals.{Static, global_entry, global_faults, item_statics, total_faults}
use Rattle.source_typing.specs.Scope.{at_item}
use Rattle.source_typing.specs.Tables.{Entry, Named, OfBuiltin, OfFunction, OfOther, Tables}
use Rattle.source_typing.specs.Tags.{bare_tag, head_entry, tag_entry, tag_faults}
use Rattle.cyc_tree.specs.Tree as tree

abbrev pub name_of : Item → tree.Name
name_of (tree.StructItem s) = s.tag
name_of (tree.UnionItem u) = u.tag
name_of (tree.GlobalItem x) = x.name
name_of (tree.FunctionItem f) = f.name

abbrev pub named : tree.Name → Entry → Named
named x e = record { name = x.text; entry = e }

-- the functions that every program has
abbrev pub builtins : Tables → Tables
builtins g = record { name = codes "getchar"; entry = OfBuiltin 0 } ∷ record { name = codes "putchar"; entry = OfBuiltin 1 } ∷ g

-- ---- tags

-- what is known of an item by its own: of a tag, its region parameters
abbrev pub bare_entry : ℕ → Item → Entry
bare_entry i (tree.StructItem s) = bare_tag i false s true
bare_entry i (tree.UnionItem s) = bare_tag i true s true
bare_entry i (tree.GlobalItem x) = OfOther
bare_entry i (tree.FunctionItem f) = OfOther

abbrev pub bare_from : ℕ → List Item → Tables
bare_from i [] = []
bare_from i (item ∷ items) = named (name_of item) (bare_entry i item) ∷ bare_from (suc i) items

-- the same, and whether a tag has faults that hang on no tag among its members
abbrev pub first_entry : Tables → ℕ → Item → Entry
first_entry g i (tree.StructItem s) = head_entry g i false s
first_entry g i (tree.UnionItem s) = head_entry g i true s
first_entry g i (tree.GlobalItem x) = OfOther
first_entry g i (tree.FunctionItem f) = OfOther

abbrev pub first_from : Tables → ℕ → List Item → Tables
first_from g i [] = []
first_from g i (item ∷ items) = named (name_of item) (first_entry g i item) ∷ first_from g (suc i) items

-- an item's entry and its faults as a tag, by the entries that are there when it is judged
pub record Judged : Type 0 where
  pub entry : Named
  pub faults : List Fault

abbrev pub judged_tag : Tables → ℕ → Item → Judged
judged_tag g i (tree.StructItem s) = record { entry = named s.tag (tag_entry g i false s); faults = tag_faults g i false s }
judged_tag g i (tree.UnionItem s) = record { entry = named s.tag (tag_entry g i true s); faults = tag_faults g i true s }
judged_tag g i (tree.GlobalItem x) = record { entry = named x.name OfOther; faults = [] }
judged_tag g i (tree.FunctionItem f) = record { entry = named f.name OfOther; faults = [] }

abbrev pub entries : List Judged → Tables
entries [] = []
entries (j ∷ js) = j.entry ∷ entries js

-- the tags in text order, by those before and by what is first known of those that aren't checked yet
abbrev pub tags_from : ℕ → List Judged → List Item → Tables → List Judged
tags_from i done [] later = done
tags_from i done (item ∷ items) [] = done
tags_from i done (item ∷ items) (n ∷ later) = tags_from (suc i) (done ++ judged_tag (builtins (entries done ++ n ∷ later)) i item ∷ []) items later

abbrev pub judged_tags : Program → List Judged
judged_tags items = tags_from 0 [] items (first_from (builtins (bare_from 0 items)) 0 items)

abbrev pub all_tag_faults : List Judged → List Fault
all_tag_faults [] = []
all_tag_faults (j ∷ js) = j.faults ++ all_tag_faults js

-- ---- the tables: globals and functions, by the tags

abbrev pub entry_with : Bool → Tables → ℕ → Entry → Item → Entry
entry_with lenient g i e (tree.GlobalItem x) = global_entry (at_item lenient g i) x
entry_with lenient g i e (tree.FunctionItem f) = OfFunction (head_of lenient g f).signature
entry_with lenient g i e (tree.StructItem s) = e
entry_with lenient g i e (tree.UnionItem s) = e

abbrev pub entries_with : Bool → Tables → ℕ → List Judged → List Item → Tables
entries_with lenient g i (j ∷ js) (item ∷ items) =
    named (name_of item) (entry_with lenient g i j.entry.entry item) ∷ entries_with lenient g (suc i) js items
entries_with lenient g i js items = []

abbrev pub tables_by : Bool → List Judged → Program → Tables
tables_by lenient tags items = builtins (entries_with lenient (builtins (entries tags)) 0 tags items)

abbrev pub tables_of : Bool → Program → Tables
tables_of lenient items = tables_by lenient (judged_tags items) items

-- ---- items

abbrev pub item_faults : Bool → Tables → ℕ → Item → List Fault
item_faults lenient g i (tree.StructItem s) = []
item_faults lenient g i (tree.UnionItem u) = []
item_faults lenient g i (tree.GlobalItem x) = global_faults (at_item lenient g i) x
item_faults lenient g i (tree.FunctionItem f) = function_faults lenient g i f

abbrev pub items_from : Bool → Tables → ℕ → List Item → List Fault
items_from lenient g i [] = []
items_from lenient g i (item ∷ items) = item_faults lenient g i item ++ items_from lenient g (suc i) items

abbrev pub is_seen : List (List ℕ) → List ℕ → Bool
is_seen [] x = false
is_seen (y ∷ ys) x = bytes_eq y x || is_seen ys x

-- Tags, functions and globals share one space, in which `getchar` and `putchar` are: a second declaration is Name at its name.
abbrev pub second_names : List (List ℕ) → List Item → List Fault
second_names seen [] = []
second_names seen (item ∷ items) =
    test (not (is_seen seen (name_of item).text)) name_rule (name_of item).at ++ second_names ((name_of item).text ∷ seen) items

-- Without `main`, Name at the end of the text; `main` as a global or tag is Type at that name.
abbrev pub main_is : Item → ℕ → List Fault
main_is (tree.FunctionItem f) at = []
main_is item at = fault type_rule at ∷ []

abbrev pub main_found : List Item → List Fault
main_found [] = fault name_rule end_of_text ∷ []
main_found (item ∷ items) = (if bytes_eq (name_of item).text (codes "main") then main_is item (name_of item).at else main_found items)

-- ---- globals and strings together

-- a second declaration of a name is a fault, and counts as nothing
abbrev pub if_first : Bool → List Static → List Static
if_first true ss = ss
if_first false ss = []

abbrev pub statics_from : Bool → Tables → ℕ → List (List ℕ) → List Item → List Static
statics_from lenient g i seen [] = []
statics_from lenient g i seen (item ∷ items) =
    if_first (not (is_seen seen (name_of item).text)) (item_statics (at_item lenient g i) item)
    ++ statics_from lenient g (suc i) ((name_of item).text ∷ seen) items

abbrev pub size_faults : Bool → Tables → Program → List Fault
size_faults lenient g items = total_faults 0 (statics_from lenient g 0 [] items)

-- ---- programs

abbrev pub faults_with : Bool → Tables → Program → List Fault
faults_with lenient g items =
    second_names (codes "getchar" ∷ codes "putchar" ∷ []) items ++ items_from lenient g 0 items ++ main_found items ++ size_faults lenient g items

-- the faults of names, types, regions, effects and sizes
abbrev pub typing_faults : Bool → Program → List Fault
typing_faults lenient items = all_tag_faults (judged_tags items) ++ faults_with lenient (tables_of lenient items) items

-- the earliest of them
abbrev pub typing_fault : Bool → Program → Option Fault
typing_fault lenient items = earliest (typing_faults lenient items)
