-- What names mean with one item more.
use Rattle.std.proofs.Common.{◌≡◌, ℕ, Bool, true, false, List, [], ◌∷◌, ◌++◌, refl, sym, ap, ◌∙◌, append_assoc}
use Rattle.std.proofs.lemmas.List.{append-nil}
use Rattle.std.proofs.lemmas.Slice.Eq.{bytes_eq-Decides}
use Rattle.std.specs.Prelude.{None, Option, Some, bytes_eq, if◌then◌else◌, is_some, not, ◌&&◌, ◌||◌}
use Rattle.source_meaning.specs.Places.{or_else}
use Rattle.source_typing.proofs.Entries.{find_both}
use Rattle.source_typing.specs.Programs.{Judged, all_tag_faults}
use Rattle.source_typing.specs.Tables.{Entry, Tables, find}
use Rattle.check_types.specs.Naming.{has_tag_name, tag_named}
use Rattle.check_types.specs.Tagged.{tag_name_of}
use Rattle.check_types.specs.declared.tag_names.TagNames.{TagNames}
use Rattle.check_types.specs.declared.tagged.TagName.{TagName}

-- ---- lists

pub faults_more : (js : List Judged) (j : Judged) → all_tag_faults (js ++ j ∷ []) ≡ all_tag_faults js ++ j.faults
faults_more [] j = append-nil j.faults
faults_more (i ∷ js) j = ap (λ fs. i.faults ++ fs) (faults_more js j) ∙ sym (append_assoc i.faults (all_tag_faults js) j.faults)

-- ---- names

module _ (g : Tables) (name text : List ℕ) (e : Entry) (n : TagName) (old new : TagNames) (is_new : Bool) (same : text ≡ name)
    (is : n ≡ tag_name_of (Some e)) (is_first : is_new ≡ not (has_tag_name old text))
    (are : (x : List ℕ) → tag_named old x ≡ tag_name_of (find g x)) (have : (x : List ℕ) → has_tag_name old x ≡ is_some (find g x)) where
  abbrev all : Tables
  all = g ++ record { name = name; entry = e } ∷ []

  pub names_next : ((x : List ℕ) → tag_named new x ≡ (if is_new && bytes_eq text x then n else tag_named old x))
      → (x : List ℕ) → tag_named new x ≡ tag_name_of (find all x)
  names_next now x =
      now x
      ∙ by (bytes_eq text x) is_new (find g x)
      (λ h. is_first ∙ ap (λ y. not (has_tag_name old y)) ((bytes_eq-Decides text x).0 h) ∙ ap not (have x)) (are x)
      ∙ ap (λ y. tag_name_of (or_else (find g x) (if bytes_eq y x then Some e else None))) same
      ∙ sym (ap tag_name_of (find_both g (record { name = name; entry = e } ∷ []) x))
    where
      by : (b first : Bool) (o : Option Entry) → (b ≡ true → first ≡ not (is_some o)) → tag_named old x ≡ tag_name_of o
          → (if first && b then n else tag_named old x) ≡ tag_name_of (or_else o (if b then Some e else None))
      by true first None q was = ap (λ c. if c && true then n else tag_named old x) (q refl) ∙ is
      by true first (Some f) q was = ap (λ c. if c && true then n else tag_named old x) (q refl) ∙ was
      by false true None q was = was
      by false false None q was = was
      by false true (Some f) q was = was
      by false false (Some f) q was = was

  pub known_next : ((x : List ℕ) → has_tag_name new x ≡ (bytes_eq text x || has_tag_name old x)) → (x : List ℕ) → has_tag_name new x ≡ is_some (find all x)
  known_next now x =
      now x
      ∙ ap (λ b. bytes_eq text x || b) (have x)
      ∙ by (bytes_eq text x) (find g x)
      ∙ ap (λ y. is_some (or_else (find g x) (if bytes_eq y x then Some e else None))) same
      ∙ sym (ap is_some (find_both g (record { name = name; entry = e } ∷ []) x))
    where
      by : (b : Bool) (o : Option Entry) → (b || is_some o) ≡ is_some (or_else o (if b then Some e else None))
      by true None = refl
      by true (Some f) = refl
      by false None = refl
      by false (Some f) = refl
