-- View of code: the members of a struct or union, one by one.
use Rattle.std.specs.Prelude.{Bool, List, Option, Some, false, true, ℕ, ◌≡◌, []}
use Rattle.cyc_tree.specs.Tree.{Member, TypeName}
use Rattle.cyc_types.specs.declared.layer.Layer.{Layer}
use Rattle.cyc_types.specs.declared.layer.Layer.TheVariants as pointer
use Rattle.source_typing.specs.Faults.{earliest}
use Rattle.source_typing.specs.Scope.{Env, at_item}
use Rattle.source_typing.specs.Tables.{Tables}
use Rattle.source_typing.specs.Tags.{is_named, repeated, settled_alone}
use Rattle.source_typing.specs.Types.{StaticType}
use Rattle.source_typing.specs.Verdicts.{Verdict, after}
use Rattle.source_typing.specs.Written.{RegionNamed, written}
use Rattle.check_faults.specs.Faults.{faults_of, first_of}
use Rattle.check_faults.specs.declared.fault.Fault as code
use Rattle.check_types.specs.Naming.{has_tag_name}
use Rattle.check_types.specs.declared.tag_names.TagNames.{TagNames}

-- an item's scope, with these region names
abbrev pub scoped : Tables → ℕ → List RegionNamed → Env
scoped g i names = record (at_item false g i) { names = names }

-- a type that takes no missing regions from another one
abbrev pub type_alone : Tables → List RegionNamed → TypeName → Verdict StaticType
type_alone g names t = after (written g names t) (settled_alone t.at)

-- whether a pointer is a unique one
abbrev pub is_unique_layer : Option Layer → Bool
is_unique_layer (Some (pointer.Unique n)) = true
is_unique_layer o = false

-- these are the names of these members
abbrev pub AreNamed : List Member → TagNames → Type 0
AreNamed before names = (x : List ℕ) → has_tag_name names x ≡ is_named before x

-- what was found of second members of a name, with what is left: the rest of the members, after others with these names
pub record RepeatedLeft (members : List Member) (found : Option code.Fault) (rest : List Member) (names : TagNames) : Type 0 where
  pub before : List Member
  pub are : AreNamed before names
  pub is : first_of (faults_of found) (earliest (repeated before rest)) ≡ earliest (repeated [] members)
