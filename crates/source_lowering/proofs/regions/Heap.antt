-- The heap at the start: both have the globals and the strings there.
use Rattle.std.proofs.Common.{◌≡◌, ℕ, suc, ◌+◌, List, [], ◌∷◌, length, map, Option, Some, refl, sym, ap, ◌∙◌, subst, arith}
use Rattle.std.specs.Prelude.{slice_get}
use Rattle.cyc_tree.specs.Tree as tree
use Rattle.cyc_tree.specs.Tree.{Initial, Item}
use Rattle.source_meaning.specs.Shapes.{Shape, IntShape, UnsignedShape, CharShape, VoidShape, ThinShape, FatShape, HandleShape, KeyShape, StructShape}
use Rattle.source_meaning.specs.Shapes.{UnionShape, ArrayShape, written, settled}
use Rattle.source_meaning.specs.Memory as source
use Rattle.source_meaning.specs.Memory.{Scalar, Wide}
use Rattle.source_meaning.specs.Steps.{World}
use Rattle.source_meaning.specs.Conversions.{cells_of}
use Rattle.source_meaning.specs.Places.{literal_string}
use Rattle.source_meaning.specs.Strings.{Literal, program_strings}
use Rattle.source_meaning.specs.Programs.{global_shape, global_object, globals_from, heap_spot, strings_from, world_of}
use Rattle.core_meaning.specs.Memory as core
use Rattle.core_meaning.specs.Memory.{blanks}
use Rattle.core_meaning.specs.Core.{Datum}
use Rattle.core_meaning.specs.Meaning.{datum_parts, first_memory}
use Rattle.source_lowering.specs.Layouts.{local_of, pieces_of}
use Rattle.source_lowering.specs.Lowered.{width_of}
use Rattle.source_lowering.specs.Programs.{span_content, text_content, text_datum, constant_content, initial_content, datum_of, global_datum}
use Rattle.source_lowering.specs.Lowerable.{IsObject, AreStructs, AreStrings, TakesGlobal, TakesProgram, IsLowerable}
use Rattle.source_lowering.specs.Simulation.{at, AreLed, AreTexts, HasStatics, VariableLeads, LocalMade, PartsHold}
use Rattle.source_lowering.proofs.values.Integers.{IsWordShape, IsValueShape}
use Rattle.source_lowering.proofs.memory.StructCells.{object_cells}
use Rattle.source_lowering.proofs.memory.CellParts.{firsts_of}
use Rattle.source_lowering.proofs.expressions.ArrayBeginning.{array_led}
use Rattle.source_lowering.proofs.expressions.Making.{cell_with, spot_of, cells_from}
use Rattle.source_lowering.proofs.memory.Entering.{local_made}
use Rattle.source_lowering.proofs.statements.WrittenTypes.{object_settled}
pub use Rattle.source_lowering.proofs.regions.HeapValues.{part_of, constant_is_value, heap_unlent}
use Rattle.source_lowering.proofs.memory.ObjectShapes.{leads_object, object_made}
use Rattle.source_lowering.proofs.expressions.ElementsMade.{spot_in}
use Rattle.source_lowering.proofs.HeapStrings.{datum_filled, texts_led}
use Rattle.source_lowering.proofs.regions.HeapValues.{datum_is, cell_in, heap_objects, heap_data}
pub use Rattle.source_lowering.proofs.regions.HeapAgreeing.{heap_of, heap_agrees}

-- ---- the globals lie where their names say

-- it is laid out as a local of its shape
pub record IsLaidOut (w : World) (s : Shape) (d : Datum) : Type 0 where
  pub layout : d.layout ≡ (local_of w s).layout
  pub count : d.count ≡ (local_of w s).count

pub laid_out_as : (w : World) (initial : Initial) (s : Shape) → IsLaidOut w s (global_datum w initial s)
laid_out_as w initial (StructShape tag) = record { layout = refl; count = refl }
laid_out_as w initial IntShape = record { layout = refl; count = refl }
laid_out_as w initial UnsignedShape = record { layout = refl; count = refl }
laid_out_as w initial CharShape = record { layout = refl; count = refl }
laid_out_as w initial VoidShape = record { layout = refl; count = refl }
laid_out_as w initial (ThinShape b owner to) = record { layout = refl; count = refl }
laid_out_as w initial (FatShape to) = by initial
  where
    by : (z : Initial) → IsLaidOut w (FatShape to) (global_datum w z (FatShape to))
    by (Initial.Given (tree.Text place bytes)) = given (literal_string w.strings place bytes)
      where
        given : (found : Option Scalar) → IsLaidOut w (FatShape to) (text_datum w (FatShape to) found)
        given (Some (Wide (Some span))) = record { layout = refl; count = refl }
        given _ = record { layout = refl; count = refl }
    by _ = record { layout = refl; count = refl }
laid_out_as w initial HandleShape = record { layout = refl; count = refl }
laid_out_as w initial KeyShape = record { layout = refl; count = refl }
laid_out_as w initial (UnionShape tag) = record { layout = refl; count = refl }
laid_out_as w initial (ArrayShape count of) = record { layout = refl; count = refl }

global_made : (w : World) (initial : Initial) (s : Shape) (ds : List Datum) (c : core.Memory) (k : ℕ)
    → ((cell j : ℕ) → c.parts (spot_in (core.Born 0) k cell) j ≡ datum_parts (global_datum w initial s ∷ ds) 0 cell j)
    → LocalMade w c (core.Born 0) k s
global_made w initial s ds c k h = local_made w s c (core.Born 0) k (λ cell j p e. record {
  content = d.first cell j;
  is = h cell j ∙
      datum_filled d ds cell j p (ap (λ z. blanks z d.count cell j) laid.layout ∙ ap (λ z. blanks (local_of w s).layout z cell j) laid.count ∙ e);
})
  where
    d : Datum
    d = global_datum w initial s

    laid : IsLaidOut w s d
    laid = laid_out_as w initial s

-- what stands for a constant: a fat pointer is a string or NULL
abbrev pub fat_contents : World → tree.Constant → List core.Content
fat_contents w (tree.Text place bytes) =
    let found = literal_string w.strings place bytes in text_content found 0 ∷ text_content found 1 ∷ text_content found 2 ∷ []
fat_contents w x = firsts_of (pieces_of (FatShape CharShape))

abbrev pub constant_contents : World → tree.Constant → Shape → List core.Content
constant_contents w x (FatShape to) = fat_contents w x
constant_contents w x s = constant_content w x s ∷ []

-- a global's parts have the constant that it is given
abbrev pub IsStored : World → core.Memory → Initial → Shape → ℕ → Type 0
IsStored w c Initial.Unset s k = Unit {0}
IsStored w c (Initial.Elements count) s k = Unit {0}
IsStored w c (Initial.Given x) s k = PartsHold c (at (heap_spot k)) 0 (constant_contents w x s)

abbrev pub AreStored : World → core.Memory → List Item → ℕ → Type 0
AreStored w c [] k = Unit {0}
AreStored w c (tree.GlobalItem g ∷ items) k = IsStored w c g.initial (settled (written g.of)) k × AreStored w c items (suc k)
AreStored w c (tree.StructItem s ∷ items) k = AreStored w c items k
AreStored w c (tree.UnionItem u ∷ items) k = AreStored w c items k
AreStored w c (tree.FunctionItem f ∷ items) k = AreStored w c items k

one_on : (k i : ℕ) → suc k + i ≡ k + suc i
one_on k i = omega arith

no_more : (k : ℕ) → k ≡ k + 0
no_more k = omega arith

none_on : (i : ℕ) → 0 + i ≡ i
none_on i = omega arith

pub word_datum : (w : World) (initial : Initial) (s : Shape) → IsWordShape s → global_datum w initial s ≡ datum_of w s (initial_content w initial s)
word_datum w initial (StructShape tag) h = absurd h
word_datum w initial (FatShape to) h = absurd h
word_datum w initial (ArrayShape count of) h = absurd h
word_datum w initial _ h = refl

pub word_contents : (w : World) (x : tree.Constant) (s : Shape) → IsWordShape s → constant_contents w x s ≡ constant_content w x s ∷ []
word_contents w x (FatShape to) h = absurd h
word_contents w x IntShape h = refl
word_contents w x UnsignedShape h = refl
word_contents w x CharShape h = refl
word_contents w x VoidShape h = refl
word_contents w x (ThinShape b owner to) h = refl
word_contents w x HandleShape h = refl
word_contents w x KeyShape h = refl
word_contents w x (StructShape tag) h = refl
word_contents w x (UnionShape tag) h = refl
word_contents w x (ArrayShape count of) h = refl

is_stored : (w : World) (c : core.Memory) (initial : Initial) (s : Shape) (ds : List Datum) (k : ℕ) → TakesGlobal s initial → IsObject w.unions w.structs s
    → ((j : ℕ) → c.parts (at (heap_spot k)) j ≡ datum_parts (global_datum w initial (global_shape initial s) ∷ ds) 0 0 j) → IsStored w c initial s k
is_stored w c Initial.Unset s ds k h object e = tt
is_stored w c (Initial.Elements count) s ds k h object e = tt
is_stored w c (Initial.Given x) s ds k h object e = by s (constant_is_value w x s h object) e
  where
    HasDatum : tree.Constant → Shape → Type 0
    HasDatum y z = (j : ℕ) → c.parts (at (heap_spot k)) j ≡ datum_parts (global_datum w (Initial.Given y) z ∷ ds) 0 0 j

    word : (z : Shape) → IsWordShape z → HasDatum x z → PartsHold c (at (heap_spot k)) 0 (constant_contents w x z)
    word z g f =
        subst (λ xs. PartsHold c (at (heap_spot k)) 0 xs) (sym (word_contents w x z g)) (
          (
            part_of (width_of z) (constant_content w x z),
            (f 0 ∙ ap (λ d. datum_parts (d ∷ ds) 0 0 0) (word_datum w (Initial.Given x) z g) ∙ datum_is w z (constant_content w x z) ds g, refl),
          ),
          tt,
        )

    three : (x1 x2 x3 : core.Content) → c.parts (at (heap_spot k)) 0 ≡ Some (record { offset = 0; width = 4; content = x1 })
        → c.parts (at (heap_spot k)) 1 ≡ Some (record { offset = 4; width = 4; content = x2 })
        → c.parts (at (heap_spot k)) 2 ≡ Some (record { offset = 8; width = 4; content = x3 })
        → PartsHold c (at (heap_spot k)) 0 (x1 ∷ x2 ∷ x3 ∷ [])
    three x1 x2 x3 f1 f2 f3 = (
      (record { offset = 0; width = 4; content = x1 }, (f1, refl)),
      ((record { offset = 4; width = 4; content = x2 }, (f2, refl)), ((record { offset = 8; width = 4; content = x3 }, (f3, refl)), tt)),
    )

    fat : (y : tree.Constant) (to : Shape) → HasDatum y (FatShape to) → PartsHold c (at (heap_spot k)) 0 (constant_contents w y (FatShape to))
    fat (tree.Text place bytes) to f = given (literal_string w.strings place bytes) f
      where
        given : (found : Option Scalar) → ((j : ℕ) → c.parts (at (heap_spot k)) j ≡ datum_parts (text_datum w (FatShape to) found ∷ ds) 0 0 j)
            → PartsHold c (at (heap_spot k)) 0 (text_content found 0 ∷ text_content found 1 ∷ text_content found 2 ∷ [])
        given (Some (Wide (Some span))) g = three (span_content span 0) (span_content span 1) (span_content span 2) (g 0) (g 1) (g 2)
        given _ g = three core.Null (core.Word 0) (core.Word 0) (g 0) (g 1) (g 2)
    fat (tree.Number place value suffix) to f = three core.Null (core.Word 0) (core.Word 0) (f 0) (f 1) (f 2)
    fat (tree.Negative place value suffix) to f = three core.Null (core.Word 0) (core.Word 0) (f 0) (f 1) (f 2)
    fat (tree.Character place byte) to f = three core.Null (core.Word 0) (core.Word 0) (f 0) (f 1) (f 2)
    fat (tree.Null place) to f = three core.Null (core.Word 0) (core.Word 0) (f 0) (f 1) (f 2)

    by : (z : Shape) → IsValueShape z → HasDatum x z → PartsHold c (at (heap_spot k)) 0 (constant_contents w x z)
    by (FatShape to) g f = fat x to f
    by IntShape g f = word IntShape g f
    by UnsignedShape g f = word UnsignedShape g f
    by CharShape g f = word CharShape g f
    by VoidShape g f = absurd g
    by (ThinShape b owner to) g f = word (ThinShape b owner to) g f
    by HandleShape g f = word HandleShape g f
    by KeyShape g f = word KeyShape g f
    by (StructShape tag) g f = absurd g
    by (UnionShape tag) g f = absurd g
    by (ArrayShape count of) g f = absurd g

-- Core's data are there, from a global on
abbrev ArePresent : World → core.Memory → List Item → List Literal → ℕ → Type 0
ArePresent w c items ss k = (i cell j : ℕ) → c.parts (spot_in (core.Born 0) (k + i) cell) j ≡ datum_parts (heap_data w items ss) i cell j

stored_from : (w : World) (c : core.Memory) (items : List Item) (ss : List Literal) (k : ℕ) → TakesProgram w items → ArePresent w c items ss k
    → AreStored w c items k
stored_from w c [] ss k h e = tt
stored_from w c (tree.StructItem s ∷ items) ss k h e = stored_from w c items ss k h.1 e
stored_from w c (tree.UnionItem u ∷ items) ss k h e = stored_from w c items ss k h.1 e
stored_from w c (tree.FunctionItem f ∷ items) ss k h e = stored_from w c items ss k h.1 e
stored_from w c (tree.GlobalItem g ∷ items) ss k h e = (
  is_stored w c g.initial (settled (written g.of)) (heap_data w items ss) k h.0.1 (object_settled w.unions w.structs g.of h.0.0)
      (λ j. ap (λ z. c.parts (spot_in (core.Born 0) z 0) j) (no_more k) ∙ e 0 0 j),
  stored_from w c items ss (suc k) h.1 (λ i cell j. ap (λ z. c.parts (spot_in (core.Born 0) z cell) j) (one_on k i) ∙ e (suc i) cell j),
)

heap_present : (w : World) (items : List Item) (ss : List Literal) → ArePresent w (first_memory (heap_data w items ss)) items ss 0
heap_present w items ss i cell j = ap (λ z. (first_memory (heap_data w items ss)).parts (spot_in (core.Born 0) z cell) j) (none_on i)

pub heap_stored : (w : World) (items : List Item) (ss : List Literal) → TakesProgram w items → AreStored w (first_memory (heap_data w items ss)) items 0
heap_stored w items ss h = stored_from w (first_memory (heap_data w items ss)) items ss 0 h (heap_present w items ss)

-- an object's cells, whatever they hold
object_led : (w : World) (m : source.Memory) (c : core.Memory) (s : Shape) (k : ℕ) (content : Shape → source.Content) → IsObject w.unions w.structs s
    → ((cell : ℕ) → m.cells (spot_of (source.Born 0) k cell) ≡ slice_get (map (cell_with content) (cells_of w s)) cell)
    → LocalMade w c (core.Born 0) k s → VariableLeads w m c s (heap_spot k)
object_led w m c s k content object here made = leads_object w.unions w.structs w m c s (heap_spot k) object (
  cells_from m (source.Born 0) k 0 content (cells_of w s) (λ i. here (0 + i) ∙ ap (slice_get (map (cell_with content) (cells_of w s))) (none_on i)),
  object_made w.unions w.structs w c (core.Born 0) k s object made,
)

-- a global leads to what it is: an array, or one object
global_led : (w : World) (m : source.Memory) (c : core.Memory) (initial : Initial) (s : Shape) (k : ℕ) → AreStructs w.unions w.structs
    → IsObject w.unions w.structs s
    → ((cell : ℕ) → m.cells (spot_of (source.Born 0) k cell) ≡ global_object w initial s cell) → LocalMade w c (core.Born 0) k (global_shape initial s)
    → VariableLeads w m c (global_shape initial s) (heap_spot k)
global_led w m c Initial.Unset s k structs object here made = object_led w m c s k source.first_content object here made
global_led w m c (Initial.Elements count) s k structs object here made =
    array_led w m c (source.Born 0) k count s (object_cells w.unions w.structs s structs object) here made
global_led w m c (Initial.Given x) s k structs object here made = object_led w m c s k (λ z. source.Blank) object here made

-- the source's heap has the objects of the globals from one on, and those of the strings
abbrev AreLaid : World → source.Memory → List Item → List Literal → ℕ → Type 0
AreLaid w m items ss k = (i cell : ℕ) → m.cells (spot_of (source.Born 0) (k + i) cell) ≡ cell_in cell (slice_get (heap_objects w items ss) i)

led_from : (w : World) (m : source.Memory) (c : core.Memory) (items : List Item) (ss : List Literal) (k : ℕ) → AreStructs w.unions w.structs
    → TakesProgram w items → AreLaid w m items ss k → ArePresent w c items ss k → AreLed w m c (globals_from items k)
led_from w m c [] ss k structs h e present = tt
led_from w m c (tree.StructItem s ∷ items) ss k structs h e present = led_from w m c items ss k structs h.1 e present
led_from w m c (tree.UnionItem u ∷ items) ss k structs h e present = led_from w m c items ss k structs h.1 e present
led_from w m c (tree.FunctionItem f ∷ items) ss k structs h e present = led_from w m c items ss k structs h.1 e present
led_from w m c (tree.GlobalItem g ∷ items) ss k structs h e present = (
  global_led w m c g.initial s k structs (object_settled w.unions w.structs g.of h.0.0)
      (λ cell. ap (λ z. m.cells (spot_of (source.Born 0) z cell)) (no_more k) ∙ e 0 cell)
      (global_made w g.initial (global_shape g.initial s) (heap_data w items ss) c k
      (λ cell j. ap (λ z. c.parts (spot_in (core.Born 0) z cell) j) (no_more k) ∙ present 0 cell j)),
  led_from w m c items ss (suc k) structs h.1 (λ i cell. ap (λ z. m.cells (spot_of (source.Born 0) z cell)) (one_on k i) ∙ e (suc i) cell)
      (λ i cell j. ap (λ z. c.parts (spot_in (core.Born 0) z cell) j) (one_on k i) ∙ present (suc i) cell j),
)
  where
    s : Shape
    s = settled (written g.of)

-- the strings behind the globals
texts_from : (w : World) (m : source.Memory) (c : core.Memory) (items : List Item) (ss : List Literal) (k : ℕ) → AreStructs w.unions w.structs
    → AreStrings ss → AreLaid w m items ss k → ArePresent w c items ss k → AreTexts w m c (strings_from ss (k + length (globals_from items k)))
texts_from w m c [] ss k structs h e present =
    subst (λ z. AreTexts w m c (strings_from ss z)) (no_more k) (texts_led w m c ss k structs h e present)
texts_from w m c (tree.StructItem s ∷ items) ss k structs h e present = texts_from w m c items ss k structs h e present
texts_from w m c (tree.UnionItem u ∷ items) ss k structs h e present = texts_from w m c items ss k structs h e present
texts_from w m c (tree.FunctionItem f ∷ items) ss k structs h e present = texts_from w m c items ss k structs h e present
texts_from w m c (tree.GlobalItem g ∷ items) ss k structs h e present =
    subst (λ z. AreTexts w m c (strings_from ss z)) (one_on k (length (globals_from items (suc k))))
    (texts_from w m c items ss (suc k) structs h (λ i cell. ap (λ z. m.cells (spot_of (source.Born 0) z cell)) (one_on k i) ∙ e (suc i) cell)
    (λ i cell j. ap (λ z. c.parts (spot_in (core.Born 0) z cell) j) (one_on k i) ∙ present (suc i) cell j))

-- both lie where the world of a program says
pub heap_statics : (p : tree.Program) → IsLowerable p
    → HasStatics (world_of p) (heap_of (world_of p) p (program_strings p)) (first_memory (heap_data (world_of p) p (program_strings p)))
heap_statics p h = record {
  globals = led_from w m c p ss 0 h.structs h.items laid (heap_present w p ss);
  strings = subst (λ z. AreTexts w m c (strings_from ss z)) (none_on (length (globals_from p 0))) (texts_from w m c p ss 0 h.structs h.strings laid
      (heap_present w p ss));
}
  where
    w : World
    w = world_of p

    ss : List Literal
    ss = program_strings p

    m : source.Memory
    m = heap_of w p ss

    c : core.Memory
    c = first_memory (heap_data w p ss)

    laid : AreLaid w m p ss 0
    laid i cell = ap (λ z. m.cells (spot_of (source.Born 0) z cell)) (none_on i)
