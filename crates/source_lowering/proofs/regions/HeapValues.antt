-- What the cells of globals and strings hold at the start, in the source and in Core.
use Rattle.std.proofs.Common.{◌≡◌, ℕ, zero, suc, ◌+◌, List, [], ◌∷◌, length, map, false, Some, None, refl, sym, ap, ◌∙◌, subst, ◌++◌, arith, ◌<◌, Bool}
use Rattle.std.proofs.Common.{Option}
use Rattle.std.specs.Prelude.{◌*◌, slice_get}
use Rattle.cyc_tree.specs.Tree as tree
use Rattle.cyc_tree.specs.Tree.{Initial, Item}
use Rattle.source_meaning.specs.Shapes.{MayBeNull, NeverNull}
use Rattle.source_meaning.specs.Shapes.{
  Shape,
  IntShape,
  UnsignedShape,
  CharShape,
  VoidShape,
  ThinShape,
  FatShape,
  HandleShape,
  KeyShape,
  StructShape,
  UnionShape,
  ArrayShape,
  written,
  settled,
}
use Rattle.source_meaning.specs.Memory as source
use Rattle.source_meaning.specs.Memory.{Scalar, Holds, Object, first_cell, Cell}
use Rattle.source_meaning.specs.Steps.{World}
use Rattle.source_meaning.specs.Conversions.{cells_of}
use Rattle.source_meaning.specs.Strings.{Literal}
use Rattle.source_meaning.specs.Programs.{global_shape, global_object, global_objects, string_object, byte_cell}
use Rattle.core_meaning.specs.Memory as core
use Rattle.core_meaning.specs.Memory.{Content, Part, Layout}
use Rattle.core_meaning.specs.Core.{Datum}
use Rattle.core_meaning.specs.Meaning.{datum_parts}
use Rattle.source_lowering.specs.Layouts.{layout_of, first_part, Piece, cell_pieces, part_shape_of}
use Rattle.source_lowering.specs.Lowered.{width_of}
use Rattle.source_lowering.specs.Programs.{datum_of, first_content, global_datum, data_of, begun_datum, string_datum}
use Rattle.source_lowering.specs.Taken.{IsNullable, IsString, TakesConstant}
use Rattle.source_lowering.specs.Lowerable.{IsObject, AreStructs, HasBeginning, TakesGlobal, TakesProgram}
use Rattle.source_lowering.specs.Simulation.{Shown, HoldsFrom}
use Rattle.source_lowering.proofs.values.Integers.{IsWordShape, IsValueShape, word_value, integer_word}
use Rattle.source_lowering.proofs.memory.Cells.{plain_of}
use Rattle.source_lowering.proofs.memory.StructCells.{value_cell, object_cells, HasCells}
use Rattle.source_lowering.proofs.expressions.Making.{cell_with, IsUnlentObject, cells_unlent}
use Rattle.source_lowering.proofs.memory.Clearing.{BeginsWith, layout_first, placed_at}
use Rattle.source_lowering.proofs.statements.Declaring.{blank_holds}
use Rattle.source_lowering.proofs.memory.FirstCells.{IsFirstCell, first_cell_is, first_shown, first_free}
use Rattle.source_lowering.proofs.memory.CellParts.{firsts_of}
use Rattle.source_lowering.proofs.memory.Members.{word_pieces, cells_pieces, layout_count}
use Rattle.source_lowering.proofs.expressions.ElementsMade.{here_on, further_on, element_blank, element_cell, cell_number}
use Rattle.source_lowering.proofs.expressions.ArrayCells.{InElement, in_element, array_unlent}
use Rattle.source_meaning.specs.Statements.{first_array}
use Rattle.std.proofs.lemmas.List.{length-map}
use Rattle.source_lowering.proofs.statements.WrittenTypes.{object_settled}
pub use Rattle.source_lowering.proofs.HeapStrings.{cell_of, cell_in, IsHeapValue}
use Rattle.source_lowering.proofs.HeapStrings.{string_value}
use Rattle.source_meaning.specs.Values.{is_lent}
use Rattle.std.proofs.lemmas.Option.{none-some}
use Rattle.std.proofs.lemmas.Bool.{true≢false}

abbrev pub part_of : ℕ → Content → Part
part_of width x = record { offset = 0; width = width; content = x }

-- ---- one global

-- an object of Core's data
pub datum_is : (w : World) (s : Shape) (x : Content) (ds : List Datum) → IsWordShape s → datum_parts (datum_of w s x ∷ ds) 0 0 0 ≡ Some (part_of (width_of s) x)
datum_is w IntShape x ds h = refl
datum_is w UnsignedShape x ds h = refl
datum_is w CharShape x ds h = refl
datum_is w VoidShape x ds h = absurd h
datum_is w (ThinShape may_be_null owner to) x ds h = refl
datum_is w (FatShape to) x ds h = absurd h
datum_is w HandleShape x ds h = refl
datum_is w KeyShape x ds h = refl
datum_is w (StructShape tag) x ds h = absurd h
datum_is w (UnionShape tag) x ds h = absurd h
datum_is w (ArrayShape count of) x ds h = absurd h

-- ---- the source's object

-- what is given a constant is a value
pub constant_is_value : (w : World) (c : tree.Constant) (s : Shape) → TakesConstant s c → IsObject w.unions w.structs s → IsValueShape s
constant_is_value w (tree.Number place value suffix) s h object = word_value s (integer_word s h)
constant_is_value w (tree.Negative place value suffix) s h object = word_value s (integer_word s h)
constant_is_value w (tree.Character place byte) s h object = word_value s (integer_word s h)
constant_is_value w (tree.Text place bytes) s h object = string_is_value s h object
  where
    string_is_value : (z : Shape) → IsString bytes z → IsObject w.unions w.structs z → IsValueShape z
    string_is_value (ThinShape (MayBeNull count) owner CharShape) g o = o
    string_is_value (FatShape CharShape) g o = o
    string_is_value _ g o = absurd g
constant_is_value w (tree.Null place) s h object = nullable_value s h object
  where
    nullable_value : (z : Shape) → IsNullable z → IsObject w.unions w.structs z → IsValueShape z
    nullable_value (ThinShape (MayBeNull count) owner to) g o = o
    nullable_value (FatShape to) g o = o
    nullable_value (ThinShape (NeverNull count) owner to) g o = absurd g
    nullable_value IntShape g o = absurd g
    nullable_value UnsignedShape g o = absurd g
    nullable_value CharShape g o = absurd g
    nullable_value VoidShape g o = absurd g
    nullable_value HandleShape g o = absurd g
    nullable_value KeyShape g o = absurd g
    nullable_value (StructShape tag) g o = absurd g
    nullable_value (UnionShape tag) g o = absurd g
    nullable_value (ArrayShape count of) g o = absurd g

-- ---- each global

-- what begins by its shape: a word
word_global : (w : World) (s : Shape) (ds : List Datum) (cell : ℕ) (shape : Shape) (v : Scalar) → IsWordShape s
    → slice_get (map (cell_with source.first_content) (cells_of w s)) cell ≡ Some (cell_of shape (Holds v))
    → IsHeapValue w (datum_of w s (first_part s) ∷ ds) 0 cell shape v
word_global w s ds cell shape v is_word e = at_cell cell (first_cell_is w.unions (s ∷ []) cell shape v (value_cell w.unions s (word_value s is_word), tt)
    (ap (λ z. slice_get (map (cell_with source.first_content) z) cell) (sym (plain_of w s is_word).cells) ∙ e))
  where
    some_is : (x y : Shape) → Some x ≡ Some y → x ≡ y
    some_is x y f = cc f

    no_shape : None ≡ Some shape → ⊥
    no_shape f = cc f

    at_cell : (k : ℕ) → IsFirstCell (s ∷ []) k shape v → IsHeapValue w (datum_of w s (first_part s) ∷ ds) 0 k shape v
    at_cell zero o = record {
      contents = first_part s ∷ [];
      held = ((part_of (width_of s) (first_part s), (datum_is w s (first_part s) ds is_word, refl)), tt);
      shown = λ m c.
          subst (λ z. Shown w m c shape v z) (ap (λ z. firsts_of (cell_pieces w.unions z)) (sym (some_is s shape o.here)) ∙
          ap firsts_of (cells_pieces w.unions s (word_value s is_word) ∙ word_pieces s is_word))
          (first_shown w m c shape v o.is_value o.holds);
    }
    at_cell (suc k) o = absurd (no_shape o.here)

-- or what begins as its layout does, of so many elements: the parts of a cell of one
begun_holds : (w : World) (s : Shape) (count k i : ℕ) (ds : List Datum) (shape : Shape) → AreStructs w.unions w.structs → IsObject w.unions w.structs s
    → slice_get (cells_of w s) i ≡ Some shape → k < count
    → HoldsFrom (datum_parts (begun_datum (record { layout = layout_of w s; count = count }) ∷ ds) 0 (element_cell (layout_of w s) k i)) 0
    (firsts_of (cell_pieces w.unions shape))
begun_holds w s count k i ds shape structs object here less = holds 0 (cell_pieces w.unions shape) (λ n. ap (slice_get parts) (zero_on n))
  where
    layout : Layout
    layout = layout_of w s

    cell : ℕ
    cell = element_cell layout k i

    first : BeginsWith w.unions layout.cells i shape
    first = layout_first w s i shape structs object here

    parts : List core.PartShape
    parts = map (part_shape_of (placed_at first.offset shape)) (cell_pieces w.unions shape) ++ first.others

    zero_on : (n : ℕ) → 0 + n ≡ n
    zero_on n = omega arith

    one : (j : ℕ) (x : core.PartShape) → slice_get parts j ≡ Some x
        → datum_parts (begun_datum (record { layout = layout; count = count }) ∷ ds) 0 cell j
        ≡ Some (record { offset = k * layout.bytes + x.offset; width = x.width; content = x.first })
    one j x is =
        rw (element_blank layout count k i j parts less first.less first.is, is)
        (ap (λ z. Some (record { offset = k * layout.bytes + x.offset; width = x.width; content = z }))
        (ap (λ z. first_content (core.shape_in (slice_get layout.cells z) j)) (cell_number layout k i first.less) ∙
        ap (λ z. first_content (core.shape_in z j)) first.is ∙ ap first_content is))

    holds : (j : ℕ) (qs : List Piece)
        → ((n : ℕ) → slice_get parts (j + n) ≡ slice_get (map (part_shape_of (placed_at first.offset shape)) qs ++ first.others) n)
        → HoldsFrom (datum_parts (begun_datum (record { layout = layout; count = count }) ∷ ds) 0 cell) j (firsts_of qs)
    holds j [] same = tt
    holds j (q ∷ qs) same =
        let x : core.PartShape = part_shape_of (placed_at first.offset shape) q in
        let more : List core.PartShape = map (part_shape_of (placed_at first.offset shape)) qs ++ first.others in (
          (record { offset = k * layout.bytes + x.offset; width = x.width; content = x.first }, (one j x (here_on parts more j x same), refl)),
          holds (suc j) qs (further_on parts more j x same),
        )

begun_value : (w : World) (s : Shape) (ds : List Datum) (cell : ℕ) (shape : Shape) (v : Scalar) → AreStructs w.unions w.structs → IsObject w.unions w.structs s
    → slice_get (map (cell_with source.first_content) (cells_of w s)) cell ≡ Some (cell_of shape (Holds v))
    → IsHeapValue w (begun_datum (record { layout = layout_of w s; count = 1 }) ∷ ds) 0 cell shape v
begun_value w s ds cell shape v structs object e = record {
  contents = firsts_of (cell_pieces w.unions shape);
  held = subst (λ z. HoldsFrom (datum_parts (begun_datum (record { layout = layout_of w s; count = 1 }) ∷ ds) 0 z) 0
      (firsts_of (cell_pieces w.unions shape))) same
      (begun_holds w s 1 0 cell ds shape structs object o.here (omega arith));
  shown = λ m c. first_shown w m c shape v o.is_value o.holds;
}
  where
    o : IsFirstCell (cells_of w s) cell shape v
    o = first_cell_is w.unions (cells_of w s) cell shape v (object_cells w.unions w.structs s structs object).cells e

    same : 0 * length (layout_of w s).cells + cell ≡ cell
    same = omega arith

-- an array
pub array_value : (w : World) (of : Shape) (count : ℕ) (ds : List Datum) (cell : ℕ) (shape : Shape) (v : Scalar) → AreStructs w.unions w.structs
    → IsObject w.unions w.structs of → first_array w count of cell ≡ Some (cell_of shape (Holds v))
    → IsHeapValue w (begun_datum (record { layout = layout_of w of; count = count }) ∷ ds) 0 cell shape v
array_value w of count ds cell shape v structs object e = record {
  contents = firsts_of (cell_pieces w.unions shape);
  held = subst (λ z. HoldsFrom (datum_parts (begun_datum (record { layout = layout_of w of; count = count }) ∷ ds) 0 z) 0
      (firsts_of (cell_pieces w.unions shape)))
      (sym where_is) (begun_holds w of count inside.element inside.number ds shape structs object o.here inside.less);
  shown = λ m c. first_shown w m c shape v o.is_value o.holds;
}
  where
    has : HasCells w.unions w.structs of
    has = object_cells w.unions w.structs of structs object

    inside : InElement count cell (map first_cell (cells_of w of)) (cell_of shape (Holds v))
    inside = in_element count cell (map first_cell (cells_of w of)) (cell_of shape (Holds v)) e

    o : IsFirstCell (cells_of w of) inside.number shape v
    o = first_cell_is w.unions (cells_of w of) inside.number shape v has.cells inside.is

    where_is : cell ≡ element_cell (layout_of w of) inside.element inside.number
    where_is = inside.cell_is ∙
        ap (λ z. inside.element * z + inside.number) (length-map (cells_of w of) first_cell ∙ sym (layout_count w of has))

unset_value : (w : World) (s : Shape) (ds : List Datum) (cell : ℕ) (shape : Shape) (v : Scalar) → AreStructs w.unions w.structs → HasBeginning s
    → IsObject w.unions w.structs s
    → slice_get (map (cell_with source.first_content) (cells_of w s)) cell ≡ Some (cell_of shape (Holds v))
    → IsHeapValue w (global_datum w Initial.Unset s ∷ ds) 0 cell shape v
unset_value w (StructShape tag) ds cell shape v structs begins object e = begun_value w (StructShape tag) ds cell shape v structs object e
unset_value w IntShape ds cell shape v structs begins object e = word_global w IntShape ds cell shape v tt e
unset_value w UnsignedShape ds cell shape v structs begins object e = word_global w UnsignedShape ds cell shape v tt e
unset_value w CharShape ds cell shape v structs begins object e = word_global w CharShape ds cell shape v tt e
unset_value w (ThinShape b owner to) ds cell shape v structs begins object e = word_global w (ThinShape b owner to) ds cell shape v object e
unset_value w VoidShape ds cell shape v structs begins object e = absurd object
unset_value w (FatShape to) ds cell shape v structs begins object e = begun_value w (FatShape to) ds cell shape v structs object e
unset_value w HandleShape ds cell shape v structs begins object e = word_global w HandleShape ds cell shape v tt e
unset_value w KeyShape ds cell shape v structs begins object e = word_global w KeyShape ds cell shape v tt e
unset_value w (UnionShape tag) ds cell shape v structs begins object e = absurd begins
unset_value w (ArrayShape count of) ds cell shape v structs begins object e = absurd object

global_value : (w : World) (initial : Initial) (s : Shape) (ds : List Datum) (cell : ℕ) (shape : Shape) (v : Scalar) → AreStructs w.unions w.structs
    → TakesGlobal s initial → IsObject w.unions w.structs s → global_object w initial s cell ≡ Some (cell_of shape (Holds v))
    → IsHeapValue w (global_datum w initial (global_shape initial s) ∷ ds) 0 cell shape v
global_value w Initial.Unset s ds cell shape v structs h object e = unset_value w s ds cell shape v structs h object e
global_value w (Initial.Elements count) s ds cell shape v structs h object e = array_value w s count ds cell shape v structs object e
global_value w (Initial.Given c) s ds cell shape v structs h object e = absurd (blank_holds (cells_of w s) cell shape v e)

-- the objects of the heap: the globals', and behind them the strings'
abbrev pub heap_objects : World → List Item → List Literal → List Object
heap_objects w items ss = global_objects w items ++ map string_object ss

abbrev pub heap_data : World → List Item → List Literal → List Datum
heap_data w items ss = data_of w items ++ map (string_datum w) ss

pub heap_value : (w : World) (items : List Item) (ss : List Literal) (i cell : ℕ) (shape : Shape) (v : Scalar) → AreStructs w.unions w.structs
    → TakesProgram w items → cell_in cell (slice_get (heap_objects w items ss) i) ≡ Some (cell_of shape (Holds v))
    → IsHeapValue w (heap_data w items ss) i cell shape v
heap_value w [] ss i cell shape v structs h e = string_value w ss i cell shape v e
heap_value w (tree.StructItem s ∷ items) ss i cell shape v structs h e = heap_value w items ss i cell shape v structs h.1 e
heap_value w (tree.UnionItem u ∷ items) ss i cell shape v structs h e = heap_value w items ss i cell shape v structs h.1 e
heap_value w (tree.FunctionItem f ∷ items) ss i cell shape v structs h e = heap_value w items ss i cell shape v structs h.1 e
heap_value w (tree.GlobalItem g ∷ items) ss zero cell shape v structs h e =
    global_value w g.initial (settled (written g.of)) (heap_data w items ss) cell shape v structs h.0.1 (object_settled w.unions w.structs g.of h.0.0) e
heap_value w (tree.GlobalItem g ∷ items) ss (suc i) cell shape v structs h e =
    let one = heap_value w items ss i cell shape v structs h.1 e in
    record { contents = one.contents; held = one.held; shown = one.shown }

-- ---- nothing is lent at the start

global_unlent : (w : World) (initial : Initial) (s : Shape) → IsUnlentObject (global_object w initial s)
global_unlent w Initial.Unset s = cells_unlent source.first_content first_free (cells_of w s)
global_unlent w (Initial.Elements count) s = array_unlent count source.first_content first_free (cells_of w s)
global_unlent w (Initial.Given c) s = cells_unlent (λ s. source.Blank) (λ s. refl) (cells_of w s)

byte_unlent : (bytes : List ℕ) (cell : ℕ) (shape : Shape) (v : Scalar) → slice_get (map byte_cell bytes) cell ≡ Some (cell_of shape (source.Lent v)) → ⊥
byte_unlent [] cell shape v e = none-some _ e
byte_unlent (b ∷ bytes) zero shape v e = true≢false (sym (ap lent_in e))
  where
    lent_in : Option Cell → Bool
    lent_in None = false
    lent_in (Some c) = is_lent c.content
byte_unlent (b ∷ bytes) (suc cell) shape v e = byte_unlent bytes cell shape v e

pub heap_unlent : (w : World) (items : List Item) (ss : List Literal) (i cell : ℕ) (shape : Shape) (v : Scalar)
    → cell_in cell (slice_get (heap_objects w items ss) i) ≡ Some (cell_of shape (source.Lent v)) → ⊥
heap_unlent w [] [] i cell shape v e = none-some _ e
heap_unlent w [] (s ∷ ss) zero cell shape v e = byte_unlent (s.1 ++ 0 ∷ []) cell shape v e
heap_unlent w [] (s ∷ ss) (suc i) cell shape v e = heap_unlent w [] ss i cell shape v e
heap_unlent w (tree.StructItem s ∷ items) ss i cell shape v e = heap_unlent w items ss i cell shape v e
heap_unlent w (tree.UnionItem u ∷ items) ss i cell shape v e = heap_unlent w items ss i cell shape v e
heap_unlent w (tree.FunctionItem f ∷ items) ss i cell shape v e = heap_unlent w items ss i cell shape v e
heap_unlent w (tree.GlobalItem g ∷ items) ss zero cell shape v e = (global_unlent w g.initial (settled (written g.of))).none cell shape v e
heap_unlent w (tree.GlobalItem g ∷ items) ss (suc i) cell shape v e = heap_unlent w items ss i cell shape v e
