-- The tables of a program in which the rules find no fault: all is known of each name.
use Rattle.std.proofs.Common.{◌≡◌, ℕ, suc, Bool, true, false, Option, Some, None, List, [], ◌∷◌, sym, subst, ◌∙◌}
use Rattle.std.specs.Prelude.{◌++◌, codes}
use Rattle.cyc_tree.specs.Tree as tree
use Rattle.cyc_tree.specs.Tree.{Item, Program}
use Rattle.type_proof.specs.Entries.{IsObjectType}
use Rattle.source_typing.specs.Named.{TypeBelow}
use Rattle.accepted_programs.specs.Accepted.{IsAccepted}
use Rattle.accepted_programs.proofs.Accepted.{no_faults}
use Rattle.source_typing.specs.Declarations.{what_of}
use Rattle.source_typing.specs.Functions.{Head, function_faults, head_of}
use Rattle.source_typing.specs.Globals.{count_of, global_faults}
use Rattle.source_typing.specs.Left.{flow_faults}
use Rattle.source_typing.specs.Programs.{Judged, all_tag_faults, builtins, entries_with, faults_with, items_from, judged_tags, main_found, named, second_names}
use Rattle.source_typing.specs.Programs.{size_faults, tables_of, typing_faults}
use Rattle.source_typing.specs.Regions.{TheHeap}
use Rattle.source_typing.specs.Scope.{at_item}
use Rattle.source_typing.specs.Tables.{Entry, Named, OfOther, OfValue, Tables}
use Rattle.source_typing.specs.Types.{StaticType}
use Rattle.source_typing.specs.Verdicts.{Of}
use Rattle.source_typing.proofs.Inversion.{body_head_clean, none_of_both}
use Rattle.accepted_proof.specs.Good.{AllGood, IsGoodEntry}
use Rattle.accepted_proof.proofs.AlignedTables.{AreAligned, global_faults_same, same_tags}
use Rattle.accepted_proof.proofs.Globals.{GlobalGood, global_good}
use Rattle.accepted_proof.proofs.good.Types.{KnowsTags}
use Rattle.accepted_proof.proofs.Heads.{head_good, head_same}
use Rattle.accepted_proof.proofs.Named.{AreNamed, TagKnown}

-- ---- the faults of a program

-- what has no fault anywhere: its tags, its names, its items, `main`, and its sizes
pub record IsClean (p : Program) : Type 0 where
  pub tags : all_tag_faults (judged_tags p) ≡ []
  pub names : second_names (codes "getchar" ∷ codes "putchar" ∷ []) p ≡ []
  pub items : items_from false (tables_of false p) 0 p ≡ []
  pub main : main_found p ≡ []
  pub sizes : size_faults false (tables_of false p) p ≡ []
  pub flow : flow_faults p ≡ []

-- no rule on types, and none on flow
no_rule : (p : Program) → IsAccepted p → (typing_faults false p ≡ []) × (flow_faults p ≡ [])
no_rule p accepted = none_of_both (typing_faults false p) (flow_faults p) (no_faults p accepted)

pub no_typing_faults : (p : Program) → IsAccepted p → typing_faults false p ≡ []
no_typing_faults p accepted = (no_rule p accepted).0

pub is_clean_program : (p : Program) → IsAccepted p → IsClean p
is_clean_program p accepted =
    let g : Tables = tables_of false p in
    let seconds = second_names (codes "getchar" ∷ codes "putchar" ∷ []) p in
    let a : (all_tag_faults (judged_tags p) ≡ []) × (faults_with false g p ≡ []) =
    none_of_both (all_tag_faults (judged_tags p)) (faults_with false g p) (no_typing_faults p accepted) in
    let b = none_of_both ((seconds ++ items_from false g 0 p) ++ main_found p) (size_faults false g p) a.1 in
    let c = none_of_both (seconds ++ items_from false g 0 p) (main_found p) b.0 in
    let d = none_of_both seconds (items_from false g 0 p) c.0 in
    record { tags = a.0; names = d.0; items = d.1; main = c.1; sizes = b.1; flow = (no_rule p accepted).1 }

-- ---- heads and globals, where tags alone are known

-- what the tables are made of
abbrev pub IsHeaded : Tables → ℕ → Judged → Item → Type 0
IsHeaded h i j (tree.StructItem s) = TagKnown false s j.entry
IsHeaded h i j (tree.UnionItem s) = TagKnown true s j.entry
IsHeaded h i j (tree.GlobalItem x) = (j.entry ≡ named x.name OfOther) × GlobalGood h i x
IsHeaded h i j (tree.FunctionItem f) = (j.entry ≡ named f.name OfOther) × ((head_of false h f).faults ≡ [])

abbrev pub AreHeaded : Tables → ℕ → List Judged → List Item → Type 0
AreHeaded h i [] [] = Unit {0}
AreHeaded h i (j ∷ js) (x ∷ is) = IsHeaded h i j x × AreHeaded h (suc i) js is
AreHeaded h i [] (x ∷ is) = ⊥
AreHeaded h i (j ∷ js) [] = ⊥

-- The program's own tables `g` have the same tags as `h`: what has no fault by them has none where tags alone are known.
pub all_headed : (g h : Tables) (i : ℕ) (js : List Judged) (is : List Item) → KnowsTags h → AreAligned g h → AreNamed js is
    → items_from false g i is ≡ [] → AreHeaded h i js is
all_headed g h i [] [] tags s n p = tt
all_headed g h i [] (x ∷ is) tags s n p = absurd n
all_headed g h i (j ∷ js) [] tags s n p = absurd n
all_headed g h i (j ∷ js) (tree.StructItem x ∷ is) tags s n p =
    (n.0, all_headed g h (suc i) js is tags s n.1 p)
all_headed g h i (j ∷ js) (tree.UnionItem x ∷ is) tags s n p =
    (n.0, all_headed g h (suc i) js is tags s n.1 p)
all_headed g h i (j ∷ js) (tree.GlobalItem x ∷ is) tags s n p =
    let d : (global_faults (at_item false g i) x ≡ []) × (items_from false g (suc i) is ≡ []) =
    none_of_both (global_faults (at_item false g i) x) (items_from false g (suc i) is) p in
    ((n.0, global_good h i x tags (sym (global_faults_same g h s i x) ∙ d.0)), all_headed g h (suc i) js is tags s n.1 d.1)
all_headed g h i (j ∷ js) (tree.FunctionItem x ∷ is) tags s n p =
    let d : (function_faults false g i x ≡ []) × (items_from false g (suc i) is ≡ []) =
    none_of_both (function_faults false g i x) (items_from false g (suc i) is) p in
    let e : (head_of false h x).faults ≡ [] =
    subst (λ (z : Head). z.faults ≡ []) (head_same false g h x (same_tags g h s)) (body_head_clean g i x d.0) in
    ((n.0, e), all_headed g h (suc i) js is tags s n.1 d.1)

-- ---- the tables

tag_good : (union : Bool) (s : tree.Structure) (n : Named) → TagKnown union s n → IsGoodEntry 0 n.entry
tag_good union s n k = subst (λ (z : Named). IsGoodEntry 0 z.entry) (sym k.is) k.good

-- a global, or an array of so many elements
global_means : (count : Option ℕ) (t : StaticType) → IsObjectType t → TypeBelow 0 t → IsGoodEntry 0 (OfValue (what_of TheHeap count (Of t)))
global_means None t w b = (w, b, tt)
global_means (Some n) t w b = (w, b, tt)

entries_good : (h : Tables) (i : ℕ) (js : List Judged) (is : List Item) → KnowsTags h → AreHeaded h i js is → AllGood 0 (entries_with false h i js is)
entries_good h i [] is tags k = tt
entries_good h i (j ∷ js) [] tags k = tt
entries_good h i (j ∷ js) (tree.StructItem s ∷ is) tags k = (tag_good false s j.entry k.0, entries_good h (suc i) js is tags k.1)
entries_good h i (j ∷ js) (tree.UnionItem s ∷ is) tags k = (tag_good true s j.entry k.0, entries_good h (suc i) js is tags k.1)
entries_good h i (j ∷ js) (tree.GlobalItem x ∷ is) tags k =
    let a : IsGoodEntry 0 (OfValue (what_of TheHeap (count_of x.initial) (Of k.0.1.type))) =
    global_means (count_of x.initial) k.0.1.type k.0.1.good.object k.0.1.good.below in
    (subst (λ (e : Entry). IsGoodEntry 0 e) (sym k.0.1.entry) a, entries_good h (suc i) js is tags k.1)
entries_good h i (j ∷ js) (tree.FunctionItem f ∷ is) tags k = ((head_good h f tags k.0.1).signature, entries_good h (suc i) js is tags k.1)

pub tables_good : (h : Tables) (js : List Judged) (p : Program) → KnowsTags h → AreHeaded h 0 js p → AllGood 0 (builtins (entries_with false h 0 js p))
tables_good h js p tags k = (tt, (tt, entries_good h 0 js p tags k))
