-- Globals are judged alike with and without the rules on live regions.
use Rattle.std.proofs.Common.{◌≡◌, ℕ, true, false, List, [], ◌∷◌, ◌++◌, refl, ap, ap₂, ◌∙◌}
use Rattle.std.specs.Prelude.{map, not, suc, ◌&&◌}
use Rattle.cyc_tree.specs.Tree as tree
use Rattle.cyc_tree.specs.Tree.{Initial, Item}
use Rattle.source_meaning.specs.Sizes.{rounded_up}
use Rattle.source_meaning.specs.Strings.{item_strings}
use Rattle.source_typing.specs.Declarations.{what_after, what_of}
use Rattle.source_typing.specs.Globals.{Static, constant, count_of, foreign_names, global_entry, global_faults, global_size, global_type, has_none, if_clean}
use Rattle.source_typing.specs.Globals.{initial_faults, item_statics, static_string, string_faults, total_faults, typed_size}
use Rattle.source_typing.specs.Programs.{if_first, is_seen, name_of, size_faults, statics_from}
use Rattle.source_typing.specs.Regions.{TheHeap}
use Rattle.source_typing.specs.Scope.{Env, at_item}
use Rattle.source_typing.specs.Tables.{OfValue, Tables, has_beginning}
use Rattle.source_typing.specs.Tags.{settled_alone}
use Rattle.source_typing.specs.Types.{StaticType, is_key}
use Rattle.source_typing.specs.Verdicts.{Faulty, Of, Unjudged, Verdict, after, faults_of}
use Rattle.source_typing.specs.Written.{spots_of, written}
use Rattle.region_types.proofs.EasedDeclarations.{converted_same, fitting_same}
use Rattle.region_types.proofs.EasedPhrases.{eased}

type_same : (g : Env) (x : tree.Global) → global_type (eased g) x ≡ global_type g x
type_same g x =
    let names = foreign_names (spots_of g.tables x.of) in
    ap (λ rule. after (after (written g.tables names x.of) (settled_alone x.of.at)) rule)
    (λ i t. fitting_same g x.of.at (count_of x.initial) (has_none names && not (is_key t) && has_beginning g.tables t) t i)

initial_same : (g : Env) (i : Initial) (t : Verdict StaticType) → initial_faults (eased g) i t ≡ initial_faults g i t
initial_same g (Initial.Given c) t = ap (λ fs. (faults_of (constant c) ++ fs) ++ string_faults (constant c) c t) (converted_same g (constant c) t)
initial_same g Initial.Unset t = refl
initial_same g (Initial.Elements n) t = refl

pub global_same : (g : Env) (x : tree.Global) → global_faults (eased g) x ≡ global_faults g x
global_same g x =
    ap (λ t. faults_of t ++ initial_faults (eased g) x.initial t) (type_same g x)
    ∙ ap (λ fs. faults_of (global_type g x) ++ fs) (initial_same g x.initial (global_type g x))

pub entry_same : (g : Env) (x : tree.Global) → global_entry (eased g) x ≡ global_entry g x
entry_same g x = ap₂ (λ fs t. OfValue (what_after fs (what_of TheHeap (count_of x.initial) t))) (global_same g x) (type_same g x)

-- ---- sizes

bytes_same : (g : Env) (x : tree.Global) (v : Verdict StaticType) → typed_size (eased g) x v ≡ typed_size g x v
bytes_same g x (Of t) = refl
bytes_same g x (Faulty f fs) = refl
bytes_same g x Unjudged = refl

size_same : (g : Env) (x : tree.Global) → global_size (eased g) x ≡ global_size g x
size_same g x = ap₂ if_clean (global_same g x) (ap (typed_size (eased g) x) (type_same g x) ∙ bytes_same g x (global_type g x))

item_same : (g : Env) (i : Item) → item_statics (eased g) i ≡ item_statics g i
item_same g (tree.GlobalItem x) =
    ap (λ n. (x.of.at, rounded_up n 8) ∷ map static_string (item_strings (tree.GlobalItem x))) (size_same g x)
item_same g (tree.FunctionItem f) = refl
item_same g (tree.StructItem s) = refl
item_same g (tree.UnionItem u) = refl

statics_same : (g : Tables) (i : ℕ) (seen : List (List ℕ)) (items : List Item) → statics_from true g i seen items ≡ statics_from false g i seen items
statics_same g i seen [] = refl
statics_same g i seen (item ∷ items) =
    let name = (name_of item).text in
    ap₂ (λ (ss : List Static) others. if_first (not (is_seen seen name)) ss ++ others) (item_same (at_item false g i) item)
    (statics_same g (suc i) (name ∷ seen) items)

pub sizes_same : (g : Tables) (items : List Item) → size_faults true g items ≡ size_faults false g items
sizes_same g items = ap (total_faults 0) (statics_same g 0 [] items)
