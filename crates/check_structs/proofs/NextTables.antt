-- What is judged, with one item more.
use Rattle.std.proofs.Common.{◌≡◌, ℕ, Bool, true, false, List, [], ◌∷◌, ◌++◌, refl, sym, ap, ◌∙◌}
use Rattle.std.proofs.lemmas.List.{append-nil}
use Rattle.std.specs.Prelude.{Option, Some, bytes_eq, if◌then◌else◌, is_some, not, ◌&&◌, ◌||◌}
use Rattle.cyc_types.proofs.FirstTags.{first_again, first_new}
use Rattle.cyc_types.specs.FirstTags.{tags_first}
use Rattle.cyc_types.specs.Tables.{tables_of}
use Rattle.source_typing.proofs.Entries.{entries_more}
use Rattle.source_typing.specs.Faults.{earliest}
use Rattle.source_typing.specs.Programs.{Judged, all_tag_faults, builtins, entries}
use Rattle.source_typing.specs.Tables.{Tables, find}
use Rattle.check_faults.proofs.Earliest.{earliest_of_both, found_sooner}
use Rattle.check_faults.specs.Faults.{faults_of, first_of, sooner_found}
use Rattle.check_faults.specs.declared.fault.Fault as code
use Rattle.check_types.specs.Naming.{has_tag_name, tag_named}
use Rattle.check_types.specs.Tagged.{tag_name_of}
use Rattle.check_types.specs.declared.tagged.TagName.{TagName}
use Rattle.check_structs.proofs.NextNames.{faults_more, known_next, names_next}
use Rattle.check_structs.specs.Tags.{AreJudged, tag_if}
use Rattle.check_structs.specs.declared.tags.JudgedTags.{JudgedTags}

pub tables_next : (js : List Judged) (j : Judged) (is_new : Bool) → is_new ≡ not (is_some (find (builtins (entries js)) j.entry.name))
    → tags_first (builtins (entries (js ++ j ∷ []))) ≡ tags_first (builtins (entries js)) ++ tag_if is_new j.entry
tables_next js j is_new h =
    ap (λ es. tags_first (builtins es)) (entries_more js j)
    ∙ by (is_some (find (builtins (entries js)) j.entry.name)) refl
    ∙ sym (ap (λ b. tags_first (builtins (entries js)) ++ tag_if b j.entry) h)
  where
    by : (b : Bool) → is_some (find (builtins (entries js)) j.entry.name) ≡ b
        → tags_first (builtins (entries js) ++ j.entry ∷ []) ≡ tags_first (builtins (entries js)) ++ tag_if (not b) j.entry
    by true at = first_again (builtins (entries js)) j.entry at ∙ sym (append-nil (tags_first (builtins (entries js))))
    by false at = first_new (builtins (entries js)) j.entry at

abbrev named_in : List Judged → Tables
named_in js = builtins (entries js)

pub judged_more : (js : List Judged) (j : Judged) (text : List ℕ) (old new : JudgedTags) (n : TagName) (is_new : Bool) (own : Option code.Fault)
    → text ≡ j.entry.name → n ≡ tag_name_of (Some j.entry.entry) → is_new ≡ not (has_tag_name old.names text)
    → ((x : List ℕ) → tag_named new.names x ≡ (if is_new && bytes_eq text x then n else tag_named old.names x))
    → ((x : List ℕ) → has_tag_name new.names x ≡ (bytes_eq text x || has_tag_name old.names x))
    → tables_of new.tables ≡ tables_of old.tables ++ tag_if is_new j.entry
    → new.fault ≡ sooner_found old.fault own → faults_of own ≡ earliest j.faults
    → AreJudged js old → AreJudged (js ++ j ∷ []) new
judged_more js j text old new n is_new own same is is_first names known tables fault e are = record {
  names = λ x.
      names_next (named_in js) j.entry.name text j.entry.entry n old.names new.names is_new same is is_first are.names are.known names x
      ∙ sym (ap (λ es. tag_name_of (find (builtins es) x)) (entries_more js j));
  known = λ x.
      known_next (named_in js) j.entry.name text j.entry.entry n old.names new.names is_new same is is_first are.names are.known known x
      ∙ sym (ap (λ es. is_some (find (builtins es) x)) (entries_more js j));
  tables =
      tables
      ∙ ap (λ t. t ++ tag_if is_new j.entry) are.tables
      ∙ sym (tables_next js j is_new (is_first ∙ ap not (ap (has_tag_name old.names) same ∙ are.known j.entry.name)));
  fault =
      ap faults_of fault
      ∙ found_sooner old.fault own
      ∙ ap (λ o. first_of o (faults_of own)) are.fault
      ∙ ap (first_of (earliest (all_tag_faults js))) e
      ∙ sym (ap earliest (faults_more js j) ∙ earliest_of_both (all_tag_faults js) j.faults);
}
