-- View of code: when what is known in code of a program's structs, where its globals and heads are judged, is what the rules' tables know of them.
use Rattle.std.specs.Prelude.{Some}
use Rattle.cyc_types.specs.Sameness.{HasTags}
use Rattle.source_typing.specs.Tables.{Entry, Tables}
use Rattle.cyc_tree.specs.Tree.{Item}
use Rattle.cyc_tree.specs.Tree as tree
use Rattle.check_scopes.specs.Means.{Means}
use Rattle.check_scopes.specs.declared.meaning.Meaning.{Meaning}
use Rattle.check_scopes.specs.declared.meaning.Meaning.TheVariants.{FaultyTag, Tag}
use Rattle.check_types.specs.Naming.{AreTagNames, tag_named}
use Rattle.check_types.specs.declared.tagged.TagName.{TagName}
use Rattle.check_types.specs.declared.tagged.TagName.TheVariants as named
use Rattle.check_tables.specs.declared.structs.Structs.{Structs}

-- each name means what it means by the rules where a tag is wanted, and so do structs and unions
pub record KnowsStructs (s : Structs) (g : Tables) : Type 0 where
  pub names : AreTagNames s.tags.now g
  pub tables : HasTags s.tables.now g

-- what a struct's or union's name means, by what it means where a tag is wanted
abbrev pub tag_meaning : TagName → Meaning
tag_meaning (named.Tag u n) = Tag u n
tag_meaning (named.NotJudged n) = FaultyTag n
tag_meaning named.NoName = FaultyTag 0
tag_meaning named.Other = FaultyTag 0

-- so it does of an item with this entry, where the item is a struct or union
abbrev pub MeansTag : Structs → Item → Entry → Type 0
MeansTag s (tree.StructItem t) e = Means (Some e) (Some (tag_meaning (tag_named s.tags.now t.tag.text)))
MeansTag s (tree.UnionItem t) e = Means (Some e) (Some (tag_meaning (tag_named s.tags.now t.tag.text)))
MeansTag s (tree.GlobalItem x) e = Unit {0}
MeansTag s (tree.FunctionItem f) e = Unit {0}
