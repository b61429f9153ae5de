-- View of code: what names mean in code where the tag of a struct or union is wanted.
use Rattle.std.specs.Prelude.{Bool, List, Option, bytes_eq, is_some, unwrap_or, ℕ}
use Rattle.indexmap.specs.IndexMap.{get_by}
use Rattle.source_typing.specs.Tables.{Tables}
use Rattle.check_types.specs.Tagged.{IsNamed}
use Rattle.check_types.specs.declared.tag_names.TagNames.{TagNames}
use Rattle.check_types.specs.declared.tagged.TagName.{TagName}
use Rattle.check_types.specs.declared.tagged.TagName.TheVariants as code

-- what was added of a name
abbrev pub tag_entry : TagNames → List ℕ → Option TagName
tag_entry s x = get_by (λ key. bytes_eq x key.now) s.entries

abbrev pub has_tag_name : TagNames → List ℕ → Bool
has_tag_name s x = is_some (tag_entry s x)

-- what a name means; one that wasn't added means nothing
abbrev pub tag_named : TagNames → List ℕ → TagName
tag_named s x = unwrap_or (tag_entry s x) code.NoName

-- each name means what it means by the rules where a tag is wanted
abbrev pub AreTagNames : TagNames → Tables → Type 0
AreTagNames names g = (x : List ℕ) → IsNamed g x (tag_named names x)
