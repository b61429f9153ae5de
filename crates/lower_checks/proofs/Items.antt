-- One more item of a block: what its code, its locals, its temporary objects and their shapes are, and what is left.
use Rattle.std.proofs.Common.{
  ◌≡◌,
  ◌∙◌,
  ◌+◌,
  ◌-◌,
  ◌<◌,
  ◌≤◌,
  Bool,
  true,
  false,
  ℕ,
  zero,
  suc,
  refl,
  sym,
  ap,
  subst,
  arith,
  List,
  [],
  ◌∷◌,
  ◌++◌,
  length,
  map,
  drop,
  get_or,
  append_assoc,
  append-nil,
}
use Rattle.std.proofs.lemmas.List.{drop_more}
use Rattle.cyc_tree.specs.Tree as tree
use Rattle.cyc_tree.specs.Tree.{BlockItems, Declaration, Declare, Execute}
use Rattle.cyc_tree.specs.declared.statement.BlockItem as code_item
use Rattle.cyc_tree.specs.View.{OneItem, item_tree, items_of}
use Rattle.source_meaning.specs.Shapes.{Shape}
use Rattle.source_meaning.specs.Steps.{World}
use Rattle.core_meaning.specs.Core as core
use Rattle.source_lowering.specs.Lowered.{Named}
use Rattle.source_lowering.specs.Programs.{
  RegionsAround,
  block_shapes,
  declaration_code,
  declaration_values,
  ending_code,
  item_values,
  items_code,
  leaving_code,
  left_by,
  local_shape,
  named_here,
  names_behind,
  opened_behind,
  regions_behind,
  regions_with,
  statement_code,
  statement_values,
}

-- the items that are left begin with this one
pub left_items : (items : List code_item.BlockItem) (n : ℕ) (item : code_item.BlockItem) (one : OneItem) → n < length items → item ≡ get_or items n item
    → item_tree item ≡ one → items_of (map item_tree (drop n items)) ≡ items_of (one ∷ map item_tree (drop (n + 1) items))
left_items items n item one within item_is one_is =
    ap (λ (xs : List code_item.BlockItem). items_of (map item_tree xs))
    (drop_more items n item within ∙ ap (λ (x : code_item.BlockItem). x ∷ drop (n + 1) items) (sym item_is))
    ∙ ap (λ (x : OneItem). items_of (x ∷ map item_tree (drop (n + 1) items))) one_is

pub same_name : (a b : List ℕ) (s t : Shape) (i j : ℕ) (names : List Named) → a ≡ b → s ≡ t → i ≡ j → named_here a s i ∷ names ≡ named_here b t j ∷ names
same_name a b s t i j names name_is shape_is index_is =
    ap (λ (x : List ℕ). named_here x s i ∷ names) name_is ∙ ap (λ (x : Shape). named_here b x i ∷ names) shape_is
    ∙ ap (λ (x : ℕ). named_here b t x ∷ names) index_is

-- what is left goes behind what is appended
pub behind : {A : Type 0} → (before here rest after rest_after all : List A) → after ≡ before ++ here → rest_after ≡ rest → before ++ (here ++ rest) ≡ all
    → after ++ rest_after ≡ all
behind before here rest after rest_after all after_is rest_is is =
    ap (λ x. x ++ rest_after) after_is ∙ ap (λ x. (before ++ here) ++ x) rest_is ∙ append_assoc before here rest ∙ is

-- ---- the regions that the items opened so far

-- the innermost region is left first
pub left_one : (o : Bool) (os : List Bool) (all count less fewer : ℕ) → all ≡ suc less → count ≡ suc fewer
    → leaving_code (o ∷ os) all count ≡ core.Do (left_by o less) ∷ leaving_code os less fewer
left_one o os all count less fewer all_is count_is =
    ap (λ (n : ℕ). leaving_code (o ∷ os) n count) all_is ∙ ap (leaving_code (o ∷ os) (suc less)) count_is

-- none of them is left
pub nothing_left : (opened : List Bool) (all : ℕ) → leaving_code opened all zero ≡ []
nothing_left [] all = refl
nothing_left (o ∷ os) zero = refl
nothing_left (o ∷ os) (suc all) = refl

ended_one : (o : Bool) (opened : List Bool) (all first : ℕ) → first ≤ all
    → leaving_code (o ∷ opened) (suc all) (suc all - first) ≡ core.Do (left_by o all) ∷ leaving_code opened all (all - first)
ended_one o opened all first within =
    let more : suc all - first ≡ suc (all - first) = omega (arith, within) in
    ap (leaving_code (o ∷ opened) (suc all)) more

ended : (d : Declaration) (opened : List Bool) (all first : ℕ) → first ≤ all
    → leaving_code (opened_behind d opened) (regions_behind d all) (regions_behind d all - first)
    ≡ ending_code d all ++ leaving_code opened all (all - first)
ended (tree.Local of name initializer) opened all first within = refl
ended (tree.Region at region handle) opened all first within = ended_one false opened all first within
ended (tree.Open at region handle key) opened all first within = ended_one true opened all first within
ended (tree.Alias at region of alias pointer) opened all first within = refl
ended (tree.NewKey at region key) opened all first within = refl

behind_within : (d : Declaration) (all first : ℕ) → first ≤ all → first ≤ regions_behind d all
behind_within (tree.Local of name initializer) all first within = within
behind_within (tree.Region at region handle) all first within = omega (arith, within)
behind_within (tree.Open at region handle key) all first within = omega (arith, within)
behind_within (tree.Alias at region of alias pointer) all first within = within
behind_within (tree.NewKey at region key) all first within = within

pub declared_within : (d : Declaration) (h inside : RegionsAround) (first : ℕ) → inside ≡ regions_with d h → first ≤ h.all → first ≤ inside.all
declared_within d h inside first is within = subst (λ (r : RegionsAround). first ≤ r.all) (sym is) (behind_within d h.all first within)

abbrev regions_of : (all broken continued : ℕ) → List Bool → RegionsAround
regions_of all broken continued opened = record { all = all; broken = broken; continued = continued; opened = opened }

pub same_regions : (a a2 b b2 c c2 : ℕ) (o o2 : List Bool) → a ≡ a2 → b ≡ b2 → c ≡ c2 → o ≡ o2 → regions_of a b c o ≡ regions_of a2 b2 c2 o2
same_regions a a2 b b2 c c2 o o2 a_is b_is c_is o_is =
    ap (λ (x : ℕ). regions_of x b c o) a_is ∙ ap (λ (x : ℕ). regions_of a2 x c o) b_is ∙ ap (λ (x : ℕ). regions_of a2 b2 x o) c_is
    ∙ ap (λ (x : List Bool). regions_of a2 b2 c2 x) o_is

-- the code of items, and what leaves the regions in scope down to so many
abbrev pub ending_items : World → Shape → List Named → RegionsAround → (first index own : ℕ) → BlockItems → List core.Statement
ending_items w result names h first index own items = items_code w result names h index own items ++ leaving_code h.opened h.all (h.all - first)

-- before the first of them none was opened
pub none_opened : (w : World) (result : Shape) (names : List Named) (h : RegionsAround) (index own : ℕ) (items : BlockItems)
    → ending_items w result names h h.all index own items ≡ items_code w result names h index own items
none_opened w result names h index own items =
    let none : h.all - h.all ≡ 0 = omega arith in
    let code = items_code w result names h index own items in
    ap (λ (n : ℕ). code ++ leaving_code h.opened h.all n) none ∙ ap (λ (ss : List core.Statement). code ++ ss) (nothing_left h.opened h.all)
    ∙ append-nil code

module _ (w : World) (result : Shape) (names more : List Named) (h inside : RegionsAround) (first index next : ℕ) where
  moved_code : (own number : ℕ) (others : BlockItems) → more ≡ names → inside ≡ h → next ≡ index → number ≡ own
      → ending_items w result more inside first next number others ≡ ending_items w result names h first index own others
  moved_code own number others names_is regions_are next_is number_is =
      ap (λ (x : List Named). ending_items w result x inside first next number others) names_is
      ∙ ap (λ (x : RegionsAround). ending_items w result names x first next number others) regions_are
      ∙ ap (λ (x : ℕ). ending_items w result names h first x number others) next_is
      ∙ ap (λ (x : ℕ). ending_items w result names h first index x others) number_is

  moved_values : (others : BlockItems) → more ≡ names → next ≡ index → item_values w more next others ≡ item_values w names index others
  moved_values others names_is next_is =
      ap (λ (x : List Named). item_values w x next others) names_is ∙ ap (λ (x : ℕ). item_values w names x others) next_is

  moved_shapes : (others : BlockItems) → more ≡ names → next ≡ index → block_shapes w more next others ≡ block_shapes w names index others
  moved_shapes others names_is next_is =
      ap (λ (x : List Named). block_shapes w x next others) names_is ∙ ap (λ (x : ℕ). block_shapes w names x others) next_is

-- a declaration, and all behind it
declared_items : (w : World) (result : Shape) (names : List Named) (h : RegionsAround) (first index own : ℕ) (d : Declaration) (others : BlockItems)
    → first ≤ h.all → ending_items w result names h first index own (Declare d others)
    ≡ declaration_code w names d h.all index own ++
    ending_items w result (names_behind w names index d) (regions_with d h) first (suc index)
    (own + length (declaration_values w names d)) others
declared_items w result names h first index own d others within =
    let inside = items_code w result (names_behind w names index d) (regions_with d h) (suc index)
    (own + length (declaration_values w names d)) others in
    append_assoc (declaration_code w names d h.all index own) (inside ++ ending_code d h.all) (leaving_code h.opened h.all (h.all - first))
    ∙ ap (λ (x : List core.Statement). declaration_code w names d h.all index own ++ x)
    (append_assoc inside (ending_code d h.all) (leaving_code h.opened h.all (h.all - first))
    ∙ ap (λ (x : List core.Statement). inside ++ x) (sym (ended d h.opened h.all first within)))

-- an item after which others are left, among more names and regions, from another number on
module _ (w : World) (result : Shape) (names more : List Named) (h inside : RegionsAround) (first index next own number : ℕ) (others left : BlockItems) where
  module _ (d : Declaration) (names_are : more ≡ names_behind w names index d) (next_is : next ≡ suc index)
      (left_is : left ≡ Declare d others) where
    pub code_declared : (before after all : List core.Statement) → inside ≡ regions_with d h → first ≤ h.all
        → number ≡ own + length (declaration_values w names d) → after ≡ before ++ declaration_code w names d h.all index own
        → before ++ ending_items w result names h first index own left ≡ all → after ++ ending_items w result more inside first next number others ≡ all
    code_declared before after all regions_are within number_is after_is is =
        let inner = names_behind w names index d in
        let further = own + length (declaration_values w names d) in
        behind before (declaration_code w names d h.all index own) (ending_items w result inner (regions_with d h) first (suc index) further others) after
        (ending_items w result more inside first next number others) all after_is
        (moved_code w result inner more (regions_with d h) inside first (suc index) next further number others names_are regions_are next_is number_is)
        (ap (λ (x : List core.Statement). before ++ x) (sym (declared_items w result names h first index own d others within))
        ∙ ap (λ (x : BlockItems). before ++ ending_items w result names h first index own x) (sym left_is) ∙ is)

    pub values_declared : (before after all : List Shape) → after ≡ before ++ declaration_values w names d
        → before ++ item_values w names index left ≡ all → after ++ item_values w more next others ≡ all
    values_declared before after all after_is is =
        let inner = names_behind w names index d in
        behind before (declaration_values w names d) (item_values w inner (suc index) others) after (item_values w more next others) all after_is
        (moved_values w result inner more h inside first (suc index) next others names_are next_is)
        (ap (λ (x : BlockItems). before ++ item_values w names index x) (sym left_is) ∙ is)

    pub shapes_declared : (before after all : List Shape) (s : Shape) → after ≡ before ++ s ∷ [] → s ≡ local_shape w names d
        → before ++ block_shapes w names index left ≡ all → after ++ block_shapes w more next others ≡ all
    shapes_declared before after all s after_is shape_is is =
        let inner = names_behind w names index d in
        behind before (local_shape w names d ∷ []) (block_shapes w inner (suc index) others) after (block_shapes w more next others) all
        (after_is ∙ ap (λ (x : Shape). before ++ x ∷ []) shape_is)
        (moved_shapes w result inner more h inside first (suc index) next others names_are next_is)
        (ap (λ (x : BlockItems). before ++ block_shapes w names index x) (sym left_is) ∙ is)

  module _ (s : tree.Statement) (names_are : more ≡ names) (next_is : next ≡ index) (left_is : left ≡ Execute s others) where
    pub code_executed : (before after all : List core.Statement) → inside ≡ h → number ≡ own + length (statement_values w names s)
        → after ≡ before ++ statement_code w result names h own s → before ++ ending_items w result names h first index own left ≡ all
        → after ++ ending_items w result more inside first next number others ≡ all
    code_executed before after all regions_are number_is after_is is =
        let further = own + length (statement_values w names s) in
        let rest = items_code w result names h index further others in
        behind before (statement_code w result names h own s) (ending_items w result names h first index further others) after
        (ending_items w result more inside first next number others) all after_is
        (moved_code w result names more h inside first index next further number others names_are regions_are next_is number_is)
        (ap (λ (x : List core.Statement). before ++ x)
        (sym (append_assoc (statement_code w result names h own s) rest (leaving_code h.opened h.all (h.all - first))))
        ∙ ap (λ (x : BlockItems). before ++ ending_items w result names h first index own x) (sym left_is) ∙ is)

    pub values_executed : (before after all : List Shape) → after ≡ before ++ statement_values w names s
        → before ++ item_values w names index left ≡ all → after ++ item_values w more next others ≡ all
    values_executed before after all after_is is =
        behind before (statement_values w names s) (item_values w names index others) after (item_values w more next others) all after_is
        (moved_values w result names more h inside first index next others names_are next_is)
        (ap (λ (x : BlockItems). before ++ item_values w names index x) (sym left_is) ∙ is)

    pub shapes_executed : (before after all : List Shape) → after ≡ before → before ++ block_shapes w names index left ≡ all
        → after ++ block_shapes w more next others ≡ all
    shapes_executed before after all after_is is =
        ap (λ (x : List Shape). x ++ block_shapes w more next others) after_is
        ∙ ap (λ (x : List Shape). before ++ x) (moved_shapes w result names more h inside first index next others names_are next_is)
        ∙ ap (λ (x : BlockItems). before ++ block_shapes w names index x) (sym left_is) ∙ is
