-- What the rules' tables have under a name is what the program declares under it first.
use Rattle.std.proofs.Common.{◌≡◌, ℕ, suc, Bool, true, false, Option, Some, List, [], ◌∷◌, refl, sym, ap, ◌∙◌}
use Rattle.std.specs.Prelude.{bytes_eq, if◌then◌else◌}
use Rattle.cyc_tree.specs.Operands.{HasOperands}
use Rattle.cyc_tree.specs.Tree as tree
use Rattle.cyc_tree.specs.Tree.{Item}
use Rattle.source_meaning.specs.Calls.{function_of}
use Rattle.source_meaning.specs.Places.{bound_to}
use Rattle.source_meaning.specs.Programs.{functions_of, global_shape, globals_from, heap_spot, routine_of}
use Rattle.source_meaning.specs.Shapes.{Shape, settled, written}
use Rattle.source_meaning.specs.Steps.{Entity, Variable}
use Rattle.type_proof.specs.Programs.{GlobalsJudged}
use Rattle.source_typing.specs.Declarations.{what_of}
use Rattle.source_typing.specs.Functions.{Head, body_scope, function_faults, head_of}
use Rattle.source_typing.specs.Left.{body_flow, flow_from}
use Rattle.source_typing.specs.Globals.{count_of, global_entry, global_faults}
use Rattle.source_typing.specs.Programs.{Judged, entries_with, items_from, named}
use Rattle.source_typing.specs.Regions.{TheHeap}
use Rattle.source_typing.specs.Scope.{at_item}
use Rattle.source_typing.specs.Tables.{Named, OfBuiltin, OfFunction, OfOther, OfTag, OfValue, Signature, Tables, What, find}
use Rattle.source_typing.specs.Types.{StaticType, shape_of}
use Rattle.source_typing.specs.Verdicts.{Of}
use Rattle.source_typing.proofs.Inversion.{none_of_both}
use Rattle.accepted_proof.specs.Good.{AllGood, BodiesJudged}
use Rattle.accepted_proof.proofs.Globals.{GlobalGood, counted_shape, shape_here}
use Rattle.accepted_proof.proofs.good.Functions.{FunctionGood, KindsKnown, function_good}
use Rattle.accepted_proof.proofs.good.Tables.{AreHeaded}
use Rattle.accepted_proof.proofs.AlignedTables.{AreAligned, beginning_same, same_tags}
use Rattle.accepted_proof.proofs.Heads.{head_same}
use Rattle.accepted_proof.proofs.Named.{TagKnown}

-- ---- what is known of each item

-- a function with its head, which reads the same by the program's tables and where tags alone are known
pub record FunctionKnown (g h : Tables) (i : ℕ) (f : tree.Function) (n : Named) : Type 0 where
  pub is : n ≡ named f.name OfOther
  pub same : head_of false g f ≡ head_of false h f
  pub good : FunctionGood g i f

abbrev pub ItemKnown : Tables → Tables → ℕ → Judged → Item → Type 0
ItemKnown g h i j (tree.StructItem s) = TagKnown false s j.entry
ItemKnown g h i j (tree.UnionItem s) = TagKnown true s j.entry
ItemKnown g h i j (tree.GlobalItem x) = (j.entry ≡ named x.name OfOther) × GlobalGood h i x
ItemKnown g h i j (tree.FunctionItem f) = FunctionKnown g h i f j.entry

abbrev pub AllKnown : Tables → Tables → ℕ → List Judged → List Item → Type 0
AllKnown g h i [] [] = Unit {0}
AllKnown g h i (j ∷ js) (item ∷ items) = ItemKnown g h i j item × AllKnown g h (suc i) js items
AllKnown g h i [] (item ∷ items) = ⊥
AllKnown g h i (j ∷ js) [] = ⊥

module _ (bodies : BodiesJudged) where
  pub all_known : (g h : Tables) (i : ℕ) (js : List Judged) (is : List Item) → AllGood 0 g → KindsKnown g → AreAligned g h → AreHeaded h i js is
      → HasOperands is → items_from false g i is ≡ [] → flow_from g i is ≡ []
      → AllKnown g h i js is
  all_known g h i [] [] a n s k o p flow = tt
  all_known g h i [] (x ∷ is) a n s k o p flow = absurd k
  all_known g h i (j ∷ js) [] a n s k o p flow = absurd k
  all_known g h i (j ∷ js) (tree.StructItem x ∷ is) a n s k o p flow =
      (k.0, all_known g h (suc i) js is a n s k.1 o.1 p flow)
  all_known g h i (j ∷ js) (tree.UnionItem x ∷ is) a n s k o p flow =
      (k.0, all_known g h (suc i) js is a n s k.1 o.1 p flow)
  all_known g h i (j ∷ js) (tree.GlobalItem x ∷ is) a n s k o p flow =
      let d = none_of_both (global_faults (at_item false g i) x) (items_from false g (suc i) is) p in
      (k.0, all_known g h (suc i) js is a n s k.1 o.1 d.1 flow)
  all_known g h i (j ∷ js) (tree.FunctionItem f ∷ is) a n s k o p flow =
      let d = none_of_both (function_faults false g i f) (items_from false g (suc i) is) p in
      let l = none_of_both (body_flow (body_scope false g i f (head_of false g f)) f) (flow_from g (suc i) is) flow in (
        record { is = k.0.0; same = head_same false g h f (same_tags g h s); good = function_good bodies g i f a n o.0 d.0 l.0 },
        all_known g h (suc i) js is a n s k.1 o.1 d.1 l.1,
      )

-- ---- globals in their order

pub globals_judged : (g h : Tables) (i : ℕ) (js : List Judged) (is : List Item) → AreAligned g h → AllKnown g h i js is → GlobalsJudged g is
globals_judged g h i [] [] s k = tt
globals_judged g h i [] (x ∷ is) s k = absurd k
globals_judged g h i (j ∷ js) [] s k = tt
globals_judged g h i (j ∷ js) (tree.StructItem x ∷ is) s k = globals_judged g h (suc i) js is s k.1
globals_judged g h i (j ∷ js) (tree.UnionItem x ∷ is) s k = globals_judged g h (suc i) js is s k.1
globals_judged g h i (j ∷ js) (tree.GlobalItem x ∷ is) s k = (
  record {
    type = k.0.1.type;
    object = k.0.1.good.object;
    begins = beginning_same g h k.0.1.type s ∙ k.0.1.begins;
    shape = k.0.1.good.shape;
    initial = k.0.1.initial.first;
  },
  globals_judged g h (suc i) js is s k.1,
)
globals_judged g h i (j ∷ js) (tree.FunctionItem f ∷ is) s k = globals_judged g h (suc i) js is s k.1

-- ---- a function of a name

-- The tables' function of a name is the program's first one of that name, with what is known of it where it stands.
pub record FunctionFound (g : Tables) (is : List Item) (x : List ℕ) (s : Signature) : Type 0 where
  pub number : ℕ
  pub function : tree.Function
  pub found : function_of (functions_of is) x ≡ Some (routine_of function)
  pub named : bytes_eq function.name.text x ≡ true
  pub signature : (head_of false g function).signature ≡ s
  pub good : FunctionGood g number function

-- items before don't have the name
function_behind : (g : Tables) (f : tree.Function) (is : List Item) (x : List ℕ) (s : Signature) → bytes_eq f.name.text x ≡ false
    → FunctionFound g is x s → FunctionFound g (tree.FunctionItem f ∷ is) x s
function_behind g f is x s e h = record {
  number = h.number;
  function = h.function;
  found = ap (λ (b : Bool). if b then Some (routine_of f) else function_of (functions_of is) x) e ∙ h.found;
  named = h.named;
  signature = h.signature;
  good = h.good;
}

-- `g` are the program's tables, by which each function is known, and `h` those by which its heads were read
pub find_function : (g h : Tables) (i : ℕ) (js : List Judged) (is : List Item) (x : List ℕ) (s : Signature) → AllKnown g h i js is
    → find (entries_with false h i js is) x ≡ Some (OfFunction s) → FunctionFound g is x s
find_function g h i [] is x s k e = absurd cc
find_function g h i (j ∷ js) [] x s k e = absurd cc
find_function g h i (j ∷ js) (tree.StructItem y ∷ is) x s k e =
    let rest : FunctionFound g is x s = by (bytes_eq y.tag.text x) (λ p. find_function g h (suc i) js is x s k.1 p) e in
    record { number = rest.number; function = rest.function; found = rest.found; named = rest.named; signature = rest.signature; good = rest.good }
  where
    none : j.entry.entry ≡ OfFunction s → ⊥
    none p = let q : OfTag k.0.tag ≡ OfFunction s = sym (ap (λ (n : Named). n.entry) k.0.is) ∙ p in cc

    by : (b : Bool) → (find (entries_with false h (suc i) js is) x ≡ Some (OfFunction s) → FunctionFound g is x s)
        → (if b then Some j.entry.entry else find (entries_with false h (suc i) js is) x) ≡ Some (OfFunction s)
        → FunctionFound g is x s
    by true others p = absurd (none cc)
    by false others p = others p
find_function g h i (j ∷ js) (tree.UnionItem y ∷ is) x s k e =
    let rest : FunctionFound g is x s = by (bytes_eq y.tag.text x) (λ p. find_function g h (suc i) js is x s k.1 p) e in
    record { number = rest.number; function = rest.function; found = rest.found; named = rest.named; signature = rest.signature; good = rest.good }
  where
    none : j.entry.entry ≡ OfFunction s → ⊥
    none p = let q : OfTag k.0.tag ≡ OfFunction s = sym (ap (λ (n : Named). n.entry) k.0.is) ∙ p in cc

    by : (b : Bool) → (find (entries_with false h (suc i) js is) x ≡ Some (OfFunction s) → FunctionFound g is x s)
        → (if b then Some j.entry.entry else find (entries_with false h (suc i) js is) x) ≡ Some (OfFunction s)
        → FunctionFound g is x s
    by true others p = absurd (none cc)
    by false others p = others p
find_function g h i (j ∷ js) (tree.GlobalItem y ∷ is) x s k e =
    let rest : FunctionFound g is x s = by (bytes_eq y.name.text x) (λ p. find_function g h (suc i) js is x s k.1 p) e in
    record { number = rest.number; function = rest.function; found = rest.found; named = rest.named; signature = rest.signature; good = rest.good }
  where
    by : (b : Bool) → (find (entries_with false h (suc i) js is) x ≡ Some (OfFunction s) → FunctionFound g is x s)
        → (if b then Some (global_entry (at_item false h i) y) else find (entries_with false h (suc i) js is) x) ≡ Some (OfFunction s)
        → FunctionFound g is x s
    by true others p = absurd cc
    by false others p = others p
find_function g h i (j ∷ js) (tree.FunctionItem f ∷ is) x s k e = by (bytes_eq f.name.text x) refl (λ p. find_function g h (suc i) js is x s k.1 p) e
  where
    signature_is : OfFunction (head_of false h f).signature ≡ OfFunction s → (head_of false h f).signature ≡ s
    signature_is p = cc

    by : (b : Bool) → bytes_eq f.name.text x ≡ b
        → (find (entries_with false h (suc i) js is) x ≡ Some (OfFunction s) → FunctionFound g is x s)
        → (if b then Some (OfFunction (head_of false h f).signature) else find (entries_with false h (suc i) js is) x) ≡ Some (OfFunction s)
        → FunctionFound g (tree.FunctionItem f ∷ is) x s
    by true q others p = record {
      number = i;
      function = f;
      found = ap (λ (b : Bool). if b then Some (routine_of f) else function_of (functions_of is) x) q;
      named = q;
      signature = ap (λ (z : Head). z.signature) k.0.same ∙ signature_is cc;
      good = k.0.good;
    }
    by false q others p = function_behind g f is x s q (others p)

-- ---- a global of a name

-- The tables' value of a name is the program's first global of that name; it lies in the heap.
pub record ValueFound (is : List Item) (first : ℕ) (x : List ℕ) (w : What) : Type 0 where
  pub number : ℕ
  pub count : Option ℕ
  pub type : StaticType
  pub means : w ≡ what_of TheHeap count (Of type)
  pub is_bound : bound_to (globals_from is first) x ≡ Some (Variable (counted_shape count (shape_of type)) (heap_spot number))

pub find_value : (g h : Tables) (i first : ℕ) (js : List Judged) (is : List Item) (x : List ℕ) (w : What) → AllKnown g h i js is
    → find (entries_with false h i js is) x ≡ Some (OfValue w) → ValueFound is first x w
find_value g h i first [] is x w k e = absurd cc
find_value g h i first (j ∷ js) [] x w k e = absurd cc
find_value g h i first (j ∷ js) (tree.StructItem y ∷ is) x w k e =
    let rest : ValueFound is first x w = by (bytes_eq y.tag.text x) (λ p. find_value g h (suc i) first js is x w k.1 p) e in
    record { number = rest.number; count = rest.count; type = rest.type; means = rest.means; is_bound = rest.is_bound }
  where
    none : j.entry.entry ≡ OfValue w → ⊥
    none p = let q : OfTag k.0.tag ≡ OfValue w = sym (ap (λ (n : Named). n.entry) k.0.is) ∙ p in cc

    by : (b : Bool) → (find (entries_with false h (suc i) js is) x ≡ Some (OfValue w) → ValueFound is first x w)
        → (if b then Some j.entry.entry else find (entries_with false h (suc i) js is) x) ≡ Some (OfValue w) → ValueFound is first x w
    by true others p = absurd (none cc)
    by false others p = others p
find_value g h i first (j ∷ js) (tree.UnionItem y ∷ is) x w k e =
    let rest : ValueFound is first x w = by (bytes_eq y.tag.text x) (λ p. find_value g h (suc i) first js is x w k.1 p) e in
    record { number = rest.number; count = rest.count; type = rest.type; means = rest.means; is_bound = rest.is_bound }
  where
    none : j.entry.entry ≡ OfValue w → ⊥
    none p = let q : OfTag k.0.tag ≡ OfValue w = sym (ap (λ (n : Named). n.entry) k.0.is) ∙ p in cc

    by : (b : Bool) → (find (entries_with false h (suc i) js is) x ≡ Some (OfValue w) → ValueFound is first x w)
        → (if b then Some j.entry.entry else find (entries_with false h (suc i) js is) x) ≡ Some (OfValue w) → ValueFound is first x w
    by true others p = absurd (none cc)
    by false others p = others p
find_value g h i first (j ∷ js) (tree.FunctionItem f ∷ is) x w k e =
    let rest : ValueFound is first x w = by (bytes_eq f.name.text x) (λ p. find_value g h (suc i) first js is x w k.1 p) e in
    record { number = rest.number; count = rest.count; type = rest.type; means = rest.means; is_bound = rest.is_bound }
  where
    by : (b : Bool) → (find (entries_with false h (suc i) js is) x ≡ Some (OfValue w) → ValueFound is first x w)
        → (if b then Some (OfFunction (head_of false h f).signature) else find (entries_with false h (suc i) js is) x) ≡ Some (OfValue w)
        → ValueFound is first x w
    by true others p = absurd cc
    by false others p = others p
find_value g h i first (j ∷ js) (tree.GlobalItem y ∷ is) x w k e =
    by (bytes_eq y.name.text x) refl (λ p. find_value g h (suc i) (suc first) js is x w k.1 p) e
  where
    -- what the name is bound to
    either : Bool → Option Entity
    either b = (if b then Some (Variable (global_shape y.initial (settled (written y.of))) (heap_spot first)) else bound_to (globals_from is (suc first)) x)

    bound : {b : Bool} → bytes_eq y.name.text x ≡ b → either (bytes_eq y.name.text x) ≡ either b
    bound q = ap either q

    same : Some (global_entry (at_item false h i) y) ≡ Some (OfValue w) → w ≡ what_of TheHeap (count_of y.initial) (Of k.0.1.type)
    same p =
        let q : global_entry (at_item false h i) y ≡ OfValue w = cc in
        let r : OfValue w ≡ OfValue (what_of TheHeap (count_of y.initial) (Of k.0.1.type)) = sym q ∙ k.0.1.entry in cc

    by : (b : Bool) → bytes_eq y.name.text x ≡ b
        → (find (entries_with false h (suc i) js is) x ≡ Some (OfValue w) → ValueFound is (suc first) x w)
        → (if b then Some (global_entry (at_item false h i) y) else find (entries_with false h (suc i) js is) x) ≡ Some (OfValue w)
        → ValueFound (tree.GlobalItem y ∷ is) first x w
    by true q others p = record {
      number = first;
      count = count_of y.initial;
      type = k.0.1.type;
      means = same p;
      is_bound = bound q ∙ ap (λ (s : Shape). Some (Variable s (heap_spot first))) (shape_here h i y k.0.1);
    }
    by false q others p =
        let rest : ValueFound is (suc first) x w = others p in
        record { number = rest.number; count = rest.count; type = rest.type; means = rest.means; is_bound = bound q ∙ rest.is_bound }

-- ---- the two functions that every program has are none of its items

pub no_builtin : (g h : Tables) (i n : ℕ) (js : List Judged) (is : List Item) (x : List ℕ) → AllKnown g h i js is
    → find (entries_with false h i js is) x ≡ Some (OfBuiltin n) → ⊥
no_builtin g h i n [] is x k e = cc
no_builtin g h i n (j ∷ js) [] x k e = cc
no_builtin g h i n (j ∷ js) (tree.StructItem y ∷ is) x k e = by (bytes_eq y.tag.text x) (λ p. no_builtin g h (suc i) n js is x k.1 p) e
  where
    none : j.entry.entry ≡ OfBuiltin n → ⊥
    none p = let q : OfTag k.0.tag ≡ OfBuiltin n = sym (ap (λ (n : Named). n.entry) k.0.is) ∙ p in cc

    by : (b : Bool) → (find (entries_with false h (suc i) js is) x ≡ Some (OfBuiltin n) → ⊥)
        → (if b then Some j.entry.entry else find (entries_with false h (suc i) js is) x) ≡ Some (OfBuiltin n) → ⊥
    by true others p = none cc
    by false others p = others p
no_builtin g h i n (j ∷ js) (tree.UnionItem y ∷ is) x k e = by (bytes_eq y.tag.text x) (λ p. no_builtin g h (suc i) n js is x k.1 p) e
  where
    none : j.entry.entry ≡ OfBuiltin n → ⊥
    none p = let q : OfTag k.0.tag ≡ OfBuiltin n = sym (ap (λ (n : Named). n.entry) k.0.is) ∙ p in cc

    by : (b : Bool) → (find (entries_with false h (suc i) js is) x ≡ Some (OfBuiltin n) → ⊥)
        → (if b then Some j.entry.entry else find (entries_with false h (suc i) js is) x) ≡ Some (OfBuiltin n) → ⊥
    by true others p = none cc
    by false others p = others p
no_builtin g h i n (j ∷ js) (tree.GlobalItem y ∷ is) x k e =
    by (bytes_eq y.name.text x) (λ p. no_builtin g h (suc i) n js is x k.1 p) e
  where
    by : (b : Bool) → (find (entries_with false h (suc i) js is) x ≡ Some (OfBuiltin n) → ⊥)
        → (if b then Some (global_entry (at_item false h i) y) else find (entries_with false h (suc i) js is) x) ≡ Some (OfBuiltin n) → ⊥
    by true others p = cc
    by false others p = others p
no_builtin g h i n (j ∷ js) (tree.FunctionItem f ∷ is) x k e =
    by (bytes_eq f.name.text x) (λ p. no_builtin g h (suc i) n js is x k.1 p) e
  where
    by : (b : Bool) → (find (entries_with false h (suc i) js is) x ≡ Some (OfBuiltin n) → ⊥)
        → (if b then Some (OfFunction (head_of false h f).signature) else find (entries_with false h (suc i) js is) x) ≡ Some (OfBuiltin n) → ⊥
    by true others p = cc
    by false others p = others p
