-- The names of a program, one item at a time.
use Rattle.std.proofs.Common.{◌≡◌, ◌+◌, ℕ, suc, List, [], ◌∷◌, Bool, true, false, Option, Some, None, refl, sym, ap, subst, ◌∙◌, arith}
use Rattle.std.specs.Prelude.{bytes_eq, is_some, not, ◌&&◌, if◌then◌else◌}
use Rattle.std.proofs.lemmas.Slice.Eq.{bytes_eq-Decides}
use Rattle.cyc_tree.specs.Tree.{Item, Program}
use Rattle.source_typing.specs.Programs.{Judged, builtins, entries, entries_with, entry_with, judged_tags, name_of, tables_of}
use Rattle.source_typing.specs.Tables.{Entry, Tables, find}
use Rattle.check_scopes.specs.Globals.{global_meaning}
use Rattle.check_scopes.specs.Means.{Means, NoName}
use Rattle.check_scopes.specs.declared.globals.Globals.{Globals}
use Rattle.check_scopes.specs.declared.meaning.Meaning.{Meaning}
use Rattle.check_tables.specs.Names.{Since}
use Rattle.check_tables.specs.Structs.{KnowsStructs, MeansTag}
use Rattle.check_tables.specs.declared.structs.Structs.{Structs}
use Rattle.check_tables.proofs.TagItems.{item_means}
use Rattle.check_tables.proofs.TagTables.{AreJudged, all_judged, knows_all}

-- ---- one name more

-- what a name means once a name was added that wasn't there
abbrev pub IsAdded : Globals → Globals → List ℕ → Meaning → Bool → Type 0
IsAdded old new n m is_new = (x : List ℕ) → global_meaning new x ≡ (if is_new && bytes_eq n x then Some m else global_meaning old x)

since_by : (same : Bool) (e : Entry) (m : Meaning) (all others : Option Entry) (old : Option Meaning) (is_new : Bool)
    → (same ≡ true → is_new ≡ not (is_some old)) → (same ≡ true → all ≡ Some e → Means (Some e) (Some m))
    → Since all old (if same then Some e else others) → Since all (if is_new && same then Some m else old) others
since_by true e m all others None true is_new means since = subst (λ o. Means o (Some m)) (sym since) (means refl since)
since_by true e m all others None false is_new means since = let wrong : false ≡ true = is_new refl in absurd cc
since_by true e m all others (Some w) true is_new means since = let wrong : true ≡ false = is_new refl in absurd cc
since_by true e m all others (Some w) false is_new means since = since
since_by false e m all others None true is_new means since = since
since_by false e m all others None false is_new means since = since
since_by false e m all others (Some w) true is_new means since = since
since_by false e m all others (Some w) false is_new means since = since

-- a name whose meaning is asked for where it is the first one
pub since_added : (old new : Globals) (n text : List ℕ) (e : Entry) (m : Meaning) (is_new : Bool) (all : Option Entry) (others : Tables) (x : List ℕ)
    → n ≡ text → is_new ≡ not (is_some (global_meaning old n)) → IsAdded old new n m is_new → (text ≡ x → all ≡ Some e → Means (Some e) (Some m))
    → Since all (global_meaning old x) (find (record { name = text; entry = e } ∷ others) x) → Since all (global_meaning new x) (find others x)
since_added old new n text e m is_new all others x is_text is_first added means since =
    subst (λ o. Since all o (find others x)) (sym (added x))
    (since_by (bytes_eq n x) e m all (find others x) (global_meaning old x) is_new
    (λ same. is_first ∙ ap (λ y. not (is_some (global_meaning old y))) ((bytes_eq-Decides n x).0 same))
    (λ same. means (sym is_text ∙ (bytes_eq-Decides n x).0 same))
    (subst (λ y. Since all (global_meaning old x) (find (record { name = y; entry = e } ∷ others) x)) (sym is_text) since))

-- ---- the names of items

-- a program's structs and unions
abbrev pub tags_of : Program → Tables
tags_of p = builtins (entries (judged_tags p))

-- what the tables say of the items from one on
abbrev pub entries_from : Bool → Program → ℕ → List Judged → List Item → Tables
entries_from l p k js items = entries_with l (tags_of p) k js items

abbrev pub AreSince : Structs → Bool → Program → ℕ → List Judged → List Item → Globals → Type 0
AreSince s l p k js items names =
    KnowsStructs s (tags_of p) → (x : List ℕ) → Since (find (tables_of l p) x) (global_meaning names x) (find (entries_from l p k js items) x)

-- The names are those of the items before these, and each of these is judged as a tag.
pub record Reached (s : Structs) (l : Bool) (p : Program) (k : ℕ) (items : List Item) (names : Globals) : Type 0 where
  pub left : List Judged
  pub judged : AreJudged items left
  pub since : AreSince s l p k left items names

pub reached_first : (s : Structs) (l : Bool) (p : Program) (names : Globals)
    → ((others : Tables) (x : List ℕ) → Since (find (builtins others) x) (global_meaning names x) (find others x)) → Reached s l p 0 p names
reached_first s l p names first = record {
  left = judged_tags p;
  judged = all_judged p;
  since = λ known x. first (entries_from l p 0 (judged_tags p) p) x;
}

pub reached_next : (s : Structs) (l : Bool) (p : Program) (k next : ℕ) (i : Item) (items : List Item) (old new : Globals) (n : List ℕ) (m : Meaning)
    (is_new : Bool) → next ≡ k + 1 → n ≡ (name_of i).text → is_new ≡ not (is_some (global_meaning old n)) → IsAdded old new n m is_new
    → ((g : Tables) (e : Entry) → KnowsStructs s g → MeansTag s i e → Means (Some (entry_with l g k e i)) (Some m))
    → Reached s l p k (i ∷ items) old → Reached s l p next items new
reached_next s l p k next i items old new n m is_new is_next is_name is_first added means reached =
    let after : suc k ≡ next = omega (arith, is_next) in subst (λ y. Reached s l p y items new) after (by reached.left reached.judged reached.since)
  where
    by : (js : List Judged) → AreJudged (i ∷ items) js → AreSince s l p k js (i ∷ items) old
        → Reached s l p (suc k) items new
    by [] judged since = absurd judged
    by (j ∷ js) judged since = record {
      left = js;
      judged = judged.1;
      since = λ known x.
          let g : Tables = tags_of p in
          let e : Entry = entry_with l g k j.entry.entry i in
          let all : Tables = tables_of l p in
          since_added old new n (name_of i).text e m is_new (find all x) (entries_from l p (suc k) js items) x is_name is_first added
          (λ same first. means g j.entry.entry known (item_means s l all g k i j judged.0 (knows_all s l p known) (ap (find all) same ∙ first)))
          (since known x);
    }

means_since : (all : Option Entry) (m : Option Meaning) → Since all m None → Means all m
means_since all None since = subst (λ o. Means o None) (sym since) NoName
means_since all (Some w) since = since

pub reached_last : (s : Structs) (l : Bool) (p : Program) (k : ℕ) (names : Globals) → Reached s l p k [] names → KnowsStructs s (tags_of p)
    → (x : List ℕ) → Means (find (tables_of l p) x) (global_meaning names x)
reached_last s l p k names reached known x = by reached.left reached.judged reached.since
  where
    by : (js : List Judged) → AreJudged [] js → AreSince s l p k js [] names → Means (find (tables_of l p) x) (global_meaning names x)
    by [] judged since = means_since (find (tables_of l p) x) (global_meaning names x) (since known x)
    by (j ∷ js) judged since = absurd judged
