-- In a program without faults no two functions have one name.
use Rattle.std.specs.Prelude.{not, bytes_eq, codes}
use Rattle.std.specs.List.{All}
use Rattle.std.proofs.Common.{◌≡◌, ℕ, Bool, true, false, List, [], ◌∷◌, ◌++◌, refl, sym, ◌∙◌, subst, arith}
use Rattle.std.proofs.lemmas.Bool.{or_left, or_right, not-true}
use Rattle.std.proofs.lemmas.Slice.Eq.{bytes_eq-Decides}
use Rattle.std.proofs.lemmas.List.Elements.{All-cons}
use Rattle.cyc_tree.specs.Tree as tree
use Rattle.cyc_tree.specs.Tree.{Item, Program}
use Rattle.source_meaning.specs.Steps.{Routine}
use Rattle.source_meaning.specs.Programs.{functions_of, routine_of, world_of}
use Rattle.source_typing.specs.Faults.{name_rule, test}
use Rattle.source_typing.specs.Programs.{
  name_of,
  is_seen,
  second_names,
  judged_tags,
  all_tag_faults,
  tables_of,
  items_from,
  main_found,
  size_faults,
  faults_with,
  typing_faults,
}
use Rattle.source_typing.proofs.Inversion.{test_is, none_of_both}
use Rattle.compile_proof.specs.Promise.{AreNamedApart}
use Rattle.type_proof.proofs.invariant.Layouts.{same_text}

-- ---- names that were seen

-- a name that was seen is no name that wasn't
other_name : (seen : List (List ℕ)) (name x : List ℕ) → is_seen seen name ≡ true → is_seen seen x ≡ false → bytes_eq name x ≡ false
other_name seen name x old new = by (bytes_eq name x) refl
  where
    by : (b : Bool) → bytes_eq name x ≡ b → b ≡ false
    by false e = refl
    by true e =
        let same : name ≡ x = (bytes_eq-Decides name x).0 e in
        let both : true ≡ false = sym (subst (λ z. is_seen seen z ≡ true) same old) ∙ new in
        absurd (cc both)

-- an item that is no second one
record IsFirst (seen : List (List ℕ)) (item : Item) (items : List Item) : Type 0 where
  unseen : is_seen seen (name_of item).text ≡ false
  others : second_names ((name_of item).text ∷ seen) items ≡ []

first_one : (seen : List (List ℕ)) (item : Item) (items : List Item) → second_names seen (item ∷ items) ≡ [] → IsFirst seen item items
first_one seen item items e =
    let b = none_of_both (test (not (is_seen seen (name_of item).text)) name_rule (name_of item).at) (second_names ((name_of item).text ∷ seen) items) e in
    record {
      unseen = not-true (is_seen seen (name_of item).text) (test_is (not (is_seen seen (name_of item).text)) name_rule (name_of item).at b.0);
      others = b.1;
    }

-- ---- functions

none_again : (seen : List (List ℕ)) (items : List Item) (name : List ℕ) → second_names seen items ≡ [] → is_seen seen name ≡ true
    → All (λ (g : Routine). bytes_eq name g.name ≡ false) (functions_of items)
none_again seen [] name e old = λ k d less. absurd (omega (arith, less))
none_again seen (tree.FunctionItem f ∷ items) name e old =
    let h = first_one seen (tree.FunctionItem f) items e in
    All-cons (λ (g : Routine). bytes_eq name g.name ≡ false) (routine_of f) (functions_of items) (other_name seen name f.name.text old h.unseen)
    (none_again (f.name.text ∷ seen) items name h.others (or_right (bytes_eq f.name.text name) (is_seen seen name) old))
none_again seen (tree.GlobalItem x ∷ items) name e old =
    let h = first_one seen (tree.GlobalItem x) items e in
    none_again (x.name.text ∷ seen) items name h.others (or_right (bytes_eq x.name.text name) (is_seen seen name) old)
none_again seen (tree.StructItem s ∷ items) name e old =
    let h = first_one seen (tree.StructItem s) items e in
    none_again (s.tag.text ∷ seen) items name h.others (or_right (bytes_eq s.tag.text name) (is_seen seen name) old)
none_again seen (tree.UnionItem u ∷ items) name e old =
    let h = first_one seen (tree.UnionItem u) items e in
    none_again (u.tag.text ∷ seen) items name h.others (or_right (bytes_eq u.tag.text name) (is_seen seen name) old)

all_apart : (seen : List (List ℕ)) (items : List Item) → second_names seen items ≡ [] → AreNamedApart (functions_of items)
all_apart seen [] e = tt
all_apart seen (tree.FunctionItem f ∷ items) e =
    let h = first_one seen (tree.FunctionItem f) items e in (
      none_again (f.name.text ∷ seen) items f.name.text h.others (or_left (bytes_eq f.name.text f.name.text) (is_seen seen f.name.text)
          (same_text f.name.text)),
      all_apart (f.name.text ∷ seen) items h.others,
    )
all_apart seen (tree.GlobalItem x ∷ items) e = let h = first_one seen (tree.GlobalItem x) items e in all_apart (x.name.text ∷ seen) items h.others
all_apart seen (tree.StructItem s ∷ items) e = let h = first_one seen (tree.StructItem s) items e in all_apart (s.tag.text ∷ seen) items h.others
all_apart seen (tree.UnionItem u ∷ items) e = let h = first_one seen (tree.UnionItem u) items e in all_apart (u.tag.text ∷ seen) items h.others

-- where the rules on names, types, regions and sizes find no fault
pub named_apart : (lenient : Bool) (p : Program) → typing_faults lenient p ≡ [] → AreNamedApart (world_of p).functions
named_apart lenient p e =
    let g = tables_of lenient p in
    let seen = codes "getchar" ∷ codes "putchar" ∷ [] in
    let all = none_of_both (all_tag_faults (judged_tags p)) (faults_with lenient g p) e in
    let sizes = none_of_both (second_names seen p ++ items_from lenient g 0 p ++ main_found p) (size_faults lenient g p) all.1 in
    let main = none_of_both (second_names seen p ++ items_from lenient g 0 p) (main_found p) sizes.0 in
    all_apart seen p (none_of_both (second_names seen p) (items_from lenient g 0 p) main.0).0
