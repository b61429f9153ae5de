-- The memories at the start, of the heap alone, agree.
use Rattle.std.proofs.Common.{◌≡◌, ℕ, zero, suc, ◌≤◌, List, [], ◌∷◌, length, false, nat_eq, Option, Some, None, refl, sym, ap, ◌∙◌, subst, arith}
use Rattle.std.specs.Prelude.{slice_get, if◌then◌else◌}
use Rattle.std.proofs.lemmas.Bool.Decides.{nat_tests}
use Rattle.std.proofs.lemmas.Option.{none-some}
use Rattle.std.proofs.lemmas.List.{length-map}
use Rattle.cyc_tree.specs.Tree as tree
use Rattle.cyc_tree.specs.Tree.{Item}
use Rattle.source_meaning.specs.Shapes.{Shape}
use Rattle.source_meaning.specs.Memory as source
use Rattle.source_meaning.specs.Memory.{Scalar, Spot, Object, state_is_live}
use Rattle.source_meaning.specs.Steps.{World}
use Rattle.source_meaning.specs.Strings.{Literal}
use Rattle.source_meaning.specs.Programs.{heap_alone, string_object}
use Rattle.core_meaning.specs.Memory as core
use Rattle.core_meaning.specs.Memory.{Part}
use Rattle.core_meaning.specs.Core.{Datum}
use Rattle.core_meaning.specs.Meaning.{datum_parts, first_memory}
use Rattle.source_lowering.specs.Programs.{string_datum}
use Rattle.source_lowering.specs.Lowerable.{AreStructs, TakesProgram}
use Rattle.source_lowering.specs.Simulation.{region_at, IsShown, SameMemory, kept_in}
use Rattle.source_lowering.proofs.regions.HeapValues.{heap_unlent}
use Rattle.source_lowering.proofs.regions.HeapValues.{cell_of, cell_in, IsHeapValue, heap_objects, heap_data, heap_value}
use Rattle.source_lowering.proofs.memory.Keeping.{kept_cases}

beyond_end : (os : List Object) (i : ℕ) → length os ≤ i → slice_get os i ≡ None
beyond_end [] i h = refl
beyond_end (o ∷ os) zero h = absurd (omega (arith, h))
beyond_end (o ∷ os) (suc i) h = beyond_end os i (omega (arith, h))

beyond_data : (ds : List Datum) (i cell j : ℕ) → length ds ≤ i → datum_parts ds i cell j ≡ None
beyond_data [] i cell j h = refl
beyond_data (d ∷ ds) zero cell j h = absurd (omega (arith, h))
beyond_data (d ∷ ds) (suc i) cell j h = beyond_data ds i cell j (omega (arith, h))

-- both have an object for each global and each string
data_count : (w : World) (items : List Item) (ss : List Literal) → TakesProgram w items → length (heap_objects w items ss) ≡ length (heap_data w items ss)
data_count w [] ss h = length-map ss string_object ∙ sym (length-map ss (string_datum w))
data_count w (tree.StructItem s ∷ items) ss h = data_count w items ss h.1
data_count w (tree.UnionItem u ∷ items) ss h = data_count w items ss h.1
data_count w (tree.FunctionItem f ∷ items) ss h = data_count w items ss h.1
data_count w (tree.GlobalItem g ∷ items) ss h = ap suc (data_count w items ss h.1)

not_zero : (d : ℕ) → nat_eq (suc d) 0 ≡ false
not_zero d = grind (arith, nat_tests)

abbrev pub heap_of : World → List Item → List Literal → source.Memory
heap_of w items ss = heap_alone (heap_objects w items ss)

pub heap_agrees : (w : World) (items : List Item) (ss : List Literal) → AreStructs w.unions w.structs → TakesProgram w items
    → SameMemory w (heap_of w items ss) (first_memory (heap_data w items ss))
heap_agrees w items ss structs h = record {
  cells = λ s shape x v keeps e. shown_at s.region s.object s.cell shape x v keeps e;
  live = λ r. alive r;
  activations = refl;
  unmade = λ s e. free s.region s.object s.cell e;
  unentered = λ k t j less e. none_there t.region e t j;
  unbegun = λ k less. (refl, refl);
  uncalled = λ k t j less e. none_owned t.region e t j;
  unowned = λ k less. refl;
  births = refl;
  heap = omega arith;
  closed = λ r. unclosed r;
  unborn = λ d less. later d less;
  blocks = λ d. counted d;
  ungranted = λ d t j e less. none_beyond d t.region e t j less;
}
  where
    c : core.Memory
    c = first_memory (heap_data w items ss)

    m : source.Memory
    m = heap_of w items ss

    spot : source.Region → ℕ → ℕ → Spot
    spot r object cell = record { region = r; object = object; cell = cell }

    in_heap : (object cell : ℕ) (shape : Shape) (v : Scalar) → IsHeapValue w (heap_data w items ss) object cell shape v
        → IsShown w m c (spot (source.Born 0) object cell) shape v
    in_heap object cell shape v o = record { contents = o.contents; shown = o.shown m c; held = o.held }

    shown_at : (r : source.Region) (object cell : ℕ) (shape : Shape) (x : source.Content) (v : Scalar) → kept_in x ≡ Some v
        → m.cells (spot r object cell) ≡ Some (cell_of shape x) → IsShown w m c (spot r object cell) shape v
    shown_at (source.Frame k) object cell shape x v keeps e = absurd (none-some _ e)
    shown_at (source.Born zero) object cell shape x v keeps e =
        kept_cases (λ y u. m.cells (spot (source.Born 0) object cell) ≡ Some (cell_of shape y) → IsShown w m c (spot (source.Born 0) object cell) shape u)
        (λ u is. in_heap object cell shape u (heap_value w items ss object cell shape u structs h is))
        (λ u is. absurd (heap_unlent w items ss object cell shape u is)) x v keeps e
    shown_at (source.Born (suc d)) object cell shape x v keeps e =
        absurd (none-some _ (sym (ap (λ b. if b then cell_in cell (slice_get (heap_objects w items ss) object) else None) (not_zero d)) ∙ e))

    alive : (r : source.Region) → state_is_live (m.state r) ≡ core.is_live (c.standing (region_at r))
    alive (source.Frame k) = refl
    alive (source.Born zero) = refl
    alive (source.Born (suc d)) = rw (not_zero d) refl

    free : (r : source.Region) (object cell : ℕ) → m.objects r ≤ object → m.cells (spot r object cell) ≡ None
    free (source.Frame k) object cell e = refl
    free (source.Born zero) object cell e = ap (cell_in cell) (beyond_end (heap_objects w items ss) object e)
    free (source.Born (suc d)) object cell e = ap (λ b. if b then cell_in cell (slice_get (heap_objects w items ss) object) else None) (not_zero d)

    later : (d : ℕ) → m.births ≤ d → (m.objects (source.Born d) ≡ 0) × (m.state (source.Born d) ≡ source.Dead)
    later zero less = absurd (omega (arith, less))
    later (suc d) less = (rw (not_zero d) refl, rw (not_zero d) refl)

    unclosed : (r : source.Region) → source.state_is_closed (m.state r) ≡ core.is_closed (c.standing (region_at r))
    unclosed (source.Frame k) = refl
    unclosed (source.Born zero) = refl
    unclosed (source.Born (suc d)) = rw (not_zero d) refl

    counted : (d : ℕ) → m.objects (source.Born d) ≡ c.objects (core.Born d)
    counted zero = data_count w items ss h
    counted (suc d) = rw (not_zero d) refl

    none_in : (r : core.Region) (t : core.Spot) (j : ℕ) → Option Part
    none_in r t j = c.parts (record t { region = r }) j

    none_owned : {k : ℕ} (r : core.Region) → r ≡ core.Own k → (t : core.Spot) (j : ℕ) → none_in r t j ≡ None
    none_owned {k} r e t j = subst (λ z. none_in z t j ≡ None) (sym e) refl

    none_there : {k : ℕ} (r : core.Region) → r ≡ core.Frame k → (t : core.Spot) (j : ℕ) → none_in r t j ≡ None
    none_there {k} r e t j = subst (λ z. none_in z t j ≡ None) (sym e) refl

    none_beyond : (d : ℕ) (r : core.Region) → r ≡ core.Born d → (t : core.Spot) (j : ℕ) → c.objects (core.Born d) ≤ t.object → none_in r t j ≡ None
    none_beyond zero r e t j less = subst (λ z. none_in z t j ≡ None) (sym e) (beyond_data (heap_data w items ss) t.object t.cell j less)
    none_beyond (suc d) r e t j less = subst (λ z. none_in z t j ≡ None) (sym e) refl
