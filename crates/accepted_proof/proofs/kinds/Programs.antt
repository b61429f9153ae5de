-- The types in a program's tables name structs by their tags.
use Rattle.std.proofs.Common.{◌≡◌, ℕ, false, Option, Some, None, List, [], refl, sym, subst, ap, ◌∙◌}
use Rattle.cyc_tree.specs.Tree.{Program}
use Rattle.type_proof.specs.Members.{names_union}
use Rattle.source_typing.specs.Programs.{Judged, bare_from, builtins, entries, judged_tags, tables_of}
use Rattle.source_typing.specs.Tables.{Entry, OfBuiltin, OfFunction, OfOther, OfTag, OfValue, Tables, Tag, as_tag, find}
use Rattle.accepted_proof.specs.Good.{IsStructTag, MeansNamed}
use Rattle.accepted_proof.proofs.AlignedTables.{same_tags, tables_aligned}
use Rattle.accepted_proof.proofs.good.Functions.{KindsKnown}
use Rattle.accepted_proof.proofs.HeadTags.{TablesAlike}
use Rattle.source_typing.proofs.SameTags.{SameTags}
use Rattle.accepted_proof.proofs.kinds.Tables.{AllTypes, MeansTypes, all_alike, entries_types, found_types, known_alike, list_types}
use Rattle.accepted_proof.proofs.kinds.Types.{KnowsStructs}
use Rattle.accepted_proof.proofs.Named.{AreNamed}
use Rattle.accepted_proof.proofs.TagOrder.{builtins_alike, first_alike}
use Rattle.accepted_proof.proofs.Tags.{first_tables, tags_are}

module _ (p : Program) (named : AreNamed (judged_tags p) p) (texts : (x : List ℕ) (t : Tag) → find (tables_of false p) x ≡ Some (OfTag t) → t.text ≡ x) where
  abbrev tables : Tables
  tables = tables_of false p

  abbrev heads : Tables
  heads = builtins (entries (judged_tags p))

  -- structs' tags in this program
  abbrev Kind : List ℕ → Type 0
  Kind = IsStructTag tables

  same : SameTags tables heads
  same = same_tags tables heads (tables_aligned heads (judged_tags p) p named)

  heads_known : KnowsStructs Kind heads
  heads_known x t e u = ap (λ (o : Option Tag). names_union o) (same.regions x ∙ ap (λ (o : Option Entry). as_tag o) e) ∙ u

  alike : TablesAlike (entries (judged_tags p)) (bare_from 0 p)
  alike =
      subst (λ (js : List Judged). TablesAlike (entries js) (bare_from 0 p)) (sym (tags_are p))
      (all_alike (first_tables p) (bare_from 0 p) 0 [] p (first_alike (first_tables p) 0 p))

  bare_known : KnowsStructs Kind (first_tables p)
  bare_known = known_alike Kind heads (first_tables p) (builtins_alike (entries (judged_tags p)) (bare_from 0 p) alike) heads_known

  judged_types : AllTypes Kind (entries (judged_tags p))
  judged_types =
      subst (λ (js : List Judged). AllTypes Kind (entries js)) (sym (tags_are p))
      (list_types Kind (bare_from 0 p) 0 [] p bare_known (first_alike (first_tables p) 0 p))

  all_types : AllTypes Kind tables
  all_types = (tt, (tt, entries_types Kind heads 0 (judged_tags p) p heads_known judged_types))

  pub tables_kinds : KindsKnown tables
  tables_kinds x = by (find tables x) refl (found_types Kind tables x all_types)
    where
      by : (o : Option Entry) → find tables x ≡ o → MeansTypes Kind o → MeansNamed Kind x o
      by None e h = tt
      by (Some (OfTag t)) e h = record {
        text = texts x t e;
        struct = λ u. ap (λ (o : Option Entry). names_union (as_tag o)) e ∙ u;
        parts = h;
      }
      by (Some (OfValue w)) e h = h
      by (Some (OfFunction s)) e h = h
      by (Some (OfBuiltin n)) e h = tt
      by (Some OfOther) e h = tt
