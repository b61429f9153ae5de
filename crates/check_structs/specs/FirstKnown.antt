-- View of code: what is known of the names of a program before its tags are judged.
use Rattle.std.specs.Prelude.{List, bytes_eq, if◌then◌else◌, length, ℕ, ◌≡◌, [], ◌∷◌}
use Rattle.cyc_tree.specs.Tree.{Program, RegionName}
use Rattle.source_typing.specs.Programs.{bare_from, builtins, first_from}
use Rattle.source_typing.specs.Tables.{Tables, find}
use Rattle.check_types.specs.Naming.{has_tag_name, tag_named}
use Rattle.check_types.specs.Tagged.{IsNamed, tag_name_of}
use Rattle.check_types.specs.declared.tag_names.TagNames.{TagNames}
use Rattle.check_types.specs.declared.tagged.TagName.{TagName}
use Rattle.check_types.specs.declared.tagged.TagName.TheVariants as code

-- each name means what it means by the rules
abbrev pub AreNames : TagNames → Tables → Type 0
AreNames names g = (x : List ℕ) → IsNamed g x (tag_named names x)

-- what a name means to the members of a struct or union before it is judged: its own name isn't checked yet, and has `n` region parameters
abbrev pub head_named : List ℕ → ℕ → TagNames → List ℕ → TagName
head_named own n others x = (if bytes_eq own x then code.NotJudged n else tag_named others x)

abbrev pub AreHeads : List ℕ → ℕ → TagNames → Tables → Type 0
AreHeads own n others g = (x : List ℕ) → IsNamed g x (head_named own n others x)

-- how many region parameters a tag has that asks for the region arguments that are written, if any are
abbrev pub count_by : ℕ → List RegionName → ℕ
count_by n [] = n
count_by n (r ∷ rs) = length (r ∷ rs)

-- what a name means where the count of these region arguments doesn't matter
abbrev pub any_count : TagName → List RegionName → TagName
any_count (code.Tag union n) rs = code.Tag union (count_by n rs)
any_count n rs = n

-- the tags of a program, and then with what is first known of them
abbrev pub bare_tags : Program → Tables
bare_tags items = builtins (bare_from 0 items)

abbrev pub first_tags : Program → Tables
first_tags items = builtins (first_from (bare_tags items) 0 items)

-- what a name means: what was added of it, or else what it means in the rest
abbrev pub named_since : TagNames → Tables → List ℕ → TagName
named_since names rest x = (if has_tag_name names x then tag_named names x else tag_name_of (find rest x))

-- all names, by those that were added and by the rest
abbrev pub AreSince : TagNames → Tables → Tables → Type 0
AreSince names rest all = (x : List ℕ) → named_since names rest x ≡ tag_name_of (find all x)
