-- The tables of a program in which the rules find no fault are the same without those on effects.
use Rattle.std.proofs.Common.{◌≡◌, ℕ, true, false, List, [], ◌∷◌, refl, sym, subst, ap, ap₂}
use Rattle.std.specs.Prelude.{suc}
use Rattle.cyc_tree.specs.Tree as tree
use Rattle.cyc_tree.specs.Tree.{Item}
use Rattle.source_typing.proofs.Inversion.{body_head_clean, none_of_both}
use Rattle.source_typing.proofs.SameTags.{SameTags, parameters_same}
use Rattle.source_typing.specs.Functions.{Head, variables}
use Rattle.source_typing.specs.Programs.{Judged, entries_with, entry_with, item_faults, items_from, name_of, named}
use Rattle.source_typing.specs.Scope.{at_item}
use Rattle.source_typing.specs.Tables.{Entry, OfFunction, Tables}
use Rattle.region_types.proofs.EasedGlobals.{entry_same}
use Rattle.region_types.proofs.EasedHeads.{HasCleanEffect, effect_clean, head_same}

-- ---- entries

-- by tags alone, and by all tables
entry_eased : (g h : Tables) (i : ℕ) (e : Entry) (item : Item) → SameTags g h → item_faults false h i item ≡ []
    → entry_with true g i e item ≡ entry_with false g i e item
entry_eased g h i e (tree.GlobalItem x) k none = entry_same (at_item false g i) x
entry_eased g h i e (tree.FunctionItem f) k none =
    let clean = effect_clean h f (body_head_clean h i f none) in
    let here = subst (HasCleanEffect f) (sym (parameters_same g h k (variables [] 0) f.parameters)) clean in
    ap (λ (head : Head). OfFunction head.signature) (head_same g f here)
entry_eased g h i e (tree.StructItem s) k none = refl
entry_eased g h i e (tree.UnionItem u) k none = refl

pub entries_eased : (g h : Tables) (i : ℕ) (js : List Judged) (items : List Item) → SameTags g h → items_from false h i items ≡ []
    → entries_with true g i js items ≡ entries_with false g i js items
entries_eased g h i [] items k none = refl
entries_eased g h i (j ∷ js) [] k none = refl
entries_eased g h i (j ∷ js) (item ∷ items) k none =
    let all = none_of_both (item_faults false h i item) (items_from false h (suc i) items) none in
    ap₂ (λ (e : Entry) (others : Tables). named (name_of item) e ∷ others) (entry_eased g h i j.entry.entry item k all.0)
    (entries_eased g h (suc i) js items k all.1)
