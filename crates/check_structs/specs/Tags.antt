-- View of code: how a struct or union is judged, by what is known of the names of a program and of the structs and unions before it.
use Rattle.std.specs.Prelude.{Bool, List, None, Option, Some, false, is_some, nat_lt, true, ℕ, ◌≡◌, ◌&&◌, [], ◌∷◌}
use Rattle.cyc_tree.specs.Tree.{Program, Structure, TypeName}
use Rattle.cyc_types.specs.FirstTags.{if_tag, tags_first}
use Rattle.cyc_types.specs.Tables.{tables_of}
use Rattle.cyc_types.specs.Tags.{members_of, tag_of}
use Rattle.source_typing.specs.Declarations.{tag_earlier}
use Rattle.source_typing.specs.Faults.{earliest}
use Rattle.source_typing.specs.Programs.{Judged, all_tag_faults, builtins, entries, first_from, judged_tags, tags_from}
use Rattle.source_typing.specs.Tables.{Entry, Named, OfOther, OfTag, Part, Tables, find, tag_in}
use Rattle.source_typing.specs.Tags.{fits_member, struct_bytes, tag_entry, tag_faults}
use Rattle.source_typing.specs.Types.{StaticType}
use Rattle.source_typing.specs.Verdicts.{Verdict, after, if_fits}
use Rattle.source_typing.specs.Written.{RegionNamed}
use Rattle.check_faults.specs.Faults.{faults_of}
use Rattle.check_faults.specs.Verdicts.{Is, NotJudged, Short, Wrong}
use Rattle.check_types.specs.Naming.{has_tag_name, tag_named}
use Rattle.check_types.specs.Tagged.{IsNamed, tag_name_of}
use Rattle.check_types.specs.declared.tag_names.TagNames.{TagNames}
use Rattle.check_types.specs.declared.tagged.TagName.{TagName}
use Rattle.check_types.specs.declared.tagged.TagName.TheVariants as code
use Rattle.check_structs.specs.FirstKnown.{bare_tags, first_tags}
use Rattle.check_structs.specs.Members.{type_alone}
use Rattle.check_structs.specs.declared.structure.JudgedTag.{JudgedTag}
use Rattle.check_structs.specs.declared.tags.JudgedTags as code_tags
use Rattle.source_typing.specs.Faults as rules

-- ---- names

-- what a name means: what is judged of it, or else what is first known of it
abbrev pub or_first : TagName → TagName → TagName
or_first code.NoName first = first
or_first n first = n

abbrev pub known_name : TagNames → TagNames → List ℕ → TagName
known_name judged first x = or_first (tag_named judged x) (tag_named first x)

-- each name means what it means by the rules
abbrev pub AreKnown : TagNames → TagNames → Tables → Type 0
AreKnown judged first g = (x : List ℕ) → IsNamed g x (known_name judged first x)

-- ---- members

-- a union, or else a struct, may have a member of a type, and it is declared where it is a struct or union
abbrev pub fits_as : Bool → (StaticType → Bool) → ℕ → StaticType → Verdict StaticType
fits_as union declared at t = if_fits (fits_member union t && declared t) at t

abbrev pub member_by : Bool → (StaticType → Bool) → Tables → List RegionNamed → TypeName → Verdict StaticType
member_by union declared g names t = after (type_alone g names t) (fits_as union declared t.at)

abbrev pub known_short : Short StaticType → Option StaticType
known_short (Is t) = Some t
known_short (Wrong f) = None
known_short NotJudged = None

-- what is known where an item is judged: what names mean, which structs and unions stand earlier, and how many bytes structs have
pub record StandsAt (judged first : TagNames) (known : Tables) (i : ℕ) (g : Tables) : Type 0 where
  pub names : AreKnown judged first g
  pub earlier : (x : List ℕ) → is_some (tag_in g x) ≡ true → tag_earlier i (tag_in g x) ≡ is_some (tag_in known x)
  pub bytes : (s : Structure) (ps : List Part) → struct_bytes g s ps ≡ struct_bytes known s ps

-- ---- a tag

-- the faults that were found, or else its own
abbrev pub or_own : Option rules.Fault → Option rules.Fault → Option rules.Fault
or_own (Some f) own = Some f
or_own None own = own

-- what was found of a struct or union
pub record IsTag (g : Tables) (i : ℕ) (union : Bool) (s : Structure) (found : JudgedTag) : Type 0 where
  pub entry : OfTag (tag_of s.tag.text found.tag) ≡ tag_entry g i union s
  pub fault : faults_of found.fault ≡ earliest (tag_faults g i union s)

-- what was found of an item, where it is a struct or union
abbrev pub IsFound : Judged → Option JudgedTag → Type 0
IsFound j None = (j.entry.entry ≡ OfOther) × (j.faults ≡ [])
IsFound j (Some found) = (j.entry.entry ≡ OfTag (tag_of j.entry.name found.tag)) × (faults_of found.fault ≡ earliest j.faults)

abbrev pub found_parts : Option JudgedTag → List Part
found_parts None = []
found_parts (Some found) = members_of found.tag.members.items

-- ---- the tags so far

-- what tables have of a name, where it is new
abbrev pub tag_if : Bool → Named → Tables
tag_if true n = if_tag n n.entry []
tag_if false n = []

pub record AreJudged (js : List Judged) (done : code_tags.JudgedTags) : Type 0 where
  pub names : (x : List ℕ) → tag_named done.names x ≡ tag_name_of (find (builtins (entries js)) x)
  pub known : (x : List ℕ) → has_tag_name done.names x ≡ is_some (find (builtins (entries js)) x)
  pub tables : tables_of done.tables ≡ tags_first (builtins (entries js))
  pub fault : faults_of done.fault ≡ earliest (all_tag_faults js)

-- a struct or union that was judged before the item with this number: it has its own name
abbrev pub IsBefore : ℕ → List ℕ → Entry → Type 0
IsBefore i x (OfTag t) = (t.text ≡ x) × (nat_lt t.order i ≡ true)
IsBefore i x e = Unit {0}

abbrev pub AreBefore : ℕ → Tables → Type 0
AreBefore i [] = Unit {0}
AreBefore i (n ∷ ns) = IsBefore i n.name n.entry × AreBefore i ns

-- what was found of the items before these, and what the rules find of these, are all
pub record JudgedTo (all : Program) (i : ℕ) (rest : Program) (done : code_tags.JudgedTags) : Type 0 where
  pub js : List Judged
  pub are : AreJudged js done
  pub goes : tags_from i js rest (first_from (bare_tags all) i rest) ≡ judged_tags all
  -- a name that isn't checked yet is that of one of these, if of any
  pub left : (x : List ℕ) → is_some (find (builtins (entries js)) x) ≡ false → find (first_tags all) x ≡ find (first_from (bare_tags all) i rest) x
  pub before : AreBefore i (entries js)

-- all are judged
pub record AreAllJudged (all : Program) (done : code_tags.JudgedTags) : Type 0 where
  pub are : AreJudged (judged_tags all) done
