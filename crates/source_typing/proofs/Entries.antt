-- What tables find: one behind the other, and where a tag is wanted; and the entries of items that were judged.
use Rattle.std.proofs.Common.{◌≡◌, ℕ, Bool, true, false, Some, List, [], ◌∷◌, ◌++◌, refl, ap}
use Rattle.std.specs.Prelude.{bytes_eq, if◌then◌else◌, option_map}
use Rattle.cyc_tree.specs.Tree as tree
use Rattle.cyc_tree.specs.Tree.{Item}
use Rattle.source_meaning.specs.Places.{or_else}
use Rattle.source_typing.specs.Declarations.{as_tagged, tagged}
use Rattle.source_typing.specs.Programs.{Judged, entries, judged_tag, name_of}
use Rattle.source_typing.specs.Tables.{Tables, find}

-- two tables, one behind the other
pub find_both : (g h : Tables) (x : List ℕ) → find (g ++ h) x ≡ or_else (find g x) (find h x)
find_both [] h x = refl
find_both (n ∷ g) h x = by (bytes_eq n.name x) (find_both g h x)
  where
    by : (b : Bool) → find (g ++ h) x ≡ or_else (find g x) (find h x)
        → (if b then Some n.entry else find (g ++ h) x) ≡ or_else (if b then Some n.entry else find g x) (find h x)
    by true others = refl
    by false others = others

-- where a tag is wanted, what they find otherwise, by what it then counts as
pub find_tagged : (g : Tables) (x : List ℕ) → find (tagged g) x ≡ option_map as_tagged (find g x)
find_tagged [] x = refl
find_tagged (n ∷ g) x = by (bytes_eq n.name x) (find_tagged g x)
  where
    by : (b : Bool) → find (tagged g) x ≡ option_map as_tagged (find g x)
        → (if b then Some (as_tagged n.entry) else find (tagged g) x) ≡ option_map as_tagged (if b then Some n.entry else find g x)
    by true others = refl
    by false others = others

-- one item more
pub entries_more : (done : List Judged) (j : Judged) → entries (done ++ j ∷ []) ≡ entries done ++ j.entry ∷ []
entries_more [] j = refl
entries_more (d ∷ done) j = ap (λ (g : Tables). d.entry ∷ g) (entries_more done j)

-- an item's entry has its name
pub judged_name : (g : Tables) (i : ℕ) (item : Item) → (judged_tag g i item).entry.name ≡ (name_of item).text
judged_name g i (tree.StructItem s) = refl
judged_name g i (tree.UnionItem s) = refl
judged_name g i (tree.GlobalItem x) = refl
judged_name g i (tree.FunctionItem f) = refl
