-- What structs and unions are as tags, and what their names mean.
use Rattle.std.proofs.Common.{◌≡◌, ℕ, Bool, true, false, Some, List, refl, sym, ap, subst, ◌∙◌}
use Rattle.std.specs.Prelude.{if◌then◌else◌}
use Rattle.cyc_tree.specs.Tree.{Item}
use Rattle.cyc_tree.specs.Tree as tree
use Rattle.source_typing.specs.Programs.{Judged, entry_with, name_of}
use Rattle.source_typing.specs.Tables.{Entry, OfTag, Tables, Tag, find}
use Rattle.source_typing.specs.Tags.{tag_entry}
use Rattle.check_scopes.specs.Means.{Means}
use Rattle.check_scopes.specs.Means as means
use Rattle.check_types.specs.Naming.{tag_named}
use Rattle.check_types.specs.Tagged.{tag_name_of}
use Rattle.check_types.specs.declared.tagged.TagName.{TagName}
use Rattle.check_types.specs.declared.tagged.TagName.TheVariants as named
use Rattle.check_tables.proofs.TagTables.{IsJudged}
use Rattle.check_tables.specs.Structs.{KnowsStructs, MeansTag, tag_meaning}
use Rattle.check_tables.specs.declared.structs.Structs.{Structs}

-- ---- the entries of structs and unions

record IsTag (e : Entry) : Type 0 where
  tag : Tag
  is : e ≡ OfTag tag

tag_as : (g : Tables) (i : ℕ) (union : Bool) (s : tree.Structure) → IsTag (tag_entry g i union s)
tag_as g i union s = record { tag = _; is = refl }

-- ---- what their names mean

tag_means : (t : Tag) (b : Bool) → t.sound ≡ b
    → Means (Some (OfTag t)) (Some (tag_meaning (if b then named.Tag t.is_union t.regions else named.NotJudged t.regions)))
tag_means t true e = means.SoundTag t e
tag_means t false e = means.UnsoundTag t e

-- a name whose first entry is that of a struct or union
entry_means : (s : Structs) (g : Tables) (x : List ℕ) (e : Entry) → IsTag e → KnowsStructs s g → find g x ≡ Some e
    → Means (Some e) (Some (tag_meaning (tag_named s.tags.now x)))
entry_means s g x e tag known first =
    let is_tag : find g x ≡ Some (OfTag tag.tag) = first ∙ ap (λ (d : Entry). Some d) tag.is in
    let is_named : tag_name_of (Some (OfTag tag.tag)) ≡ tag_named s.tags.now x = ap tag_name_of (sym is_tag) ∙ (known.names x).is in
    subst (λ (d : Entry). Means (Some d) (Some (tag_meaning (tag_named s.tags.now x)))) (sym tag.is)
    (subst (λ (n : TagName). Means (Some (OfTag tag.tag)) (Some (tag_meaning n))) is_named (tag_means tag.tag tag.tag.sound refl))

-- the name of an item, where the item is the first one of it
pub item_means : (s : Structs) (l : Bool) (g h : Tables) (k : ℕ) (i : Item) (j : Judged) → IsJudged i j → KnowsStructs s g
    → find g (name_of i).text ≡ Some (entry_with l h k j.entry.entry i) → MeansTag s i j.entry.entry
item_means s l g h k (tree.StructItem t) j judged known first =
    entry_means s g t.tag.text j.entry.entry
    (subst (λ (y : Judged). IsTag y.entry.entry) (sym judged.is) (tag_as judged.tables judged.index false t)) known first
item_means s l g h k (tree.UnionItem t) j judged known first =
    entry_means s g t.tag.text j.entry.entry
    (subst (λ (y : Judged). IsTag y.entry.entry) (sym judged.is) (tag_as judged.tables judged.index true t)) known first
item_means s l g h k (tree.GlobalItem x) j judged known first = tt
item_means s l g h k (tree.FunctionItem f) j judged known first = tt
