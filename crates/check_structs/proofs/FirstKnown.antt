-- What is known of names before tags are judged.
use Rattle.std.proofs.Common.{◌≡◌, ℕ, Bool, true, false, List, [], ◌∷◌, refl, sym, ap, ◌∙◌}
use Rattle.std.specs.Prelude.{None, Option, Some, bytes_eq, if◌then◌else◌, not, ◌&&◌, ◌||◌}
use Rattle.std.proofs.lemmas.Slice.Eq.{bytes_eq-Decides}
use Rattle.source_typing.specs.Tables.{Entry, Tables, find}
use Rattle.check_types.specs.Naming.{has_tag_name, tag_entry, tag_named}
use Rattle.check_types.specs.Tagged.{tag_name_of}
use Rattle.check_types.specs.declared.tag_names.TagNames.{TagNames}
use Rattle.check_types.specs.declared.tagged.TagName.{TagName}
use Rattle.check_structs.specs.FirstKnown.{AreNames, AreSince, named_since}

-- ---- names that are added

-- one more name
pub since_next : (all rest : Tables) (name text : List ℕ) (e : Entry) (n : TagName) (old new : TagNames) (is_new : Bool) → text ≡ name
    → n ≡ tag_name_of (Some e) → is_new ≡ not (has_tag_name old text)
    → ((x : List ℕ) → tag_named new x ≡ (if is_new && bytes_eq text x then n else tag_named old x))
    → ((x : List ℕ) → has_tag_name new x ≡ (bytes_eq text x || has_tag_name old x))
    → AreSince old (record { name = name; entry = e } ∷ rest) all → AreSince new rest all
since_next all rest name text e n old new is_new same is is_first now known since x =
    ap (λ b. if b then tag_named new x else tag_name_of (find rest x)) (known x)
    ∙ ap (λ m. if bytes_eq text x || has_tag_name old x then m else tag_name_of (find rest x)) (now x)
    ∙ by (bytes_eq text x) (has_tag_name old x) is_new (tag_named old x) (find rest x)
    (λ h. is_first ∙ ap (λ y. not (has_tag_name old y)) ((bytes_eq-Decides text x).0 h))
    ∙ ap (λ y. if has_tag_name old x then tag_named old x else tag_name_of (if bytes_eq y x then Some e else find rest x)) same
    ∙ since x
  where
    by : (b was first : Bool) (o : TagName) (r : Option Entry) → (b ≡ true → first ≡ not was)
        → (if b || was then (if first && b then n else o) else tag_name_of r) ≡ (if was then o else tag_name_of (if b then Some e else r))
    by true true first o r q = ap (λ c. if c && true then n else o) (q refl)
    by true false first o r q = ap (λ c. if c && true then n else o) (q refl) ∙ is
    by false true true o r q = refl
    by false true false o r q = refl
    by false false first o r q = refl

-- all are added
pub since_last : (all : Tables) (names : TagNames) → AreSince names [] all → (x : List ℕ) → tag_name_of (find all x) ≡ tag_named names x
since_last all names since x = sym (since x) ∙ by (tag_entry names x) refl
  where
    by : (o : Option TagName) → tag_entry names x ≡ o → named_since names [] x ≡ tag_named names x
    by None h = cc
    by (Some n) h = cc

-- ---- all names

pub all_names : (all : Tables) (names : TagNames) → AreSince names [] all → AreNames names all
all_names all names since x = record { is = since_last all names since x }
