-- What a cell of the heap holds at the start, in the source and in Core, and the cells of the strings.
use Rattle.std.proofs.Common.{◌≡◌, ℕ, zero, suc, ◌+◌, ◌*◌, ◌%◌, ◌<◌, List, [], ◌∷◌, ◌++◌, length, map, Option, Some, None}
use Rattle.std.proofs.Common.{refl, sym, ap, ◌∙◌, subst, arith}
use Rattle.std.specs.Prelude.{slice_get, option_and_then, unwrap_or, get_or}
use Rattle.std.proofs.lemmas.List.{length-append}
use Rattle.std.proofs.lemmas.Option.{none-some, slice_get_within, slice_get-get_or}
use Rattle.source_meaning.specs.Shapes.{Shape, CharShape}
use Rattle.source_meaning.specs.Memory as source
use Rattle.source_meaning.specs.Memory.{AsChar, Scalar, Integer, Holds, Cell, Object}
use Rattle.source_meaning.specs.Steps.{World}
use Rattle.source_meaning.specs.Strings.{Literal}
use Rattle.source_meaning.specs.Programs.{byte_cell, string_object, strings_from, heap_spot}
use Rattle.core_meaning.specs.Memory as core
use Rattle.core_meaning.specs.Memory.{Content, Word, Part, blanks}
use Rattle.core_meaning.specs.Core.{Datum}
use Rattle.core_meaning.specs.Meaning.{datum_parts}
use Rattle.source_lowering.specs.Layouts.{layout_of}
use Rattle.source_lowering.specs.Programs.{string_datum}
use Rattle.source_lowering.specs.Lowerable.{AreStructs, AreStrings}
use Rattle.source_lowering.specs.Simulation.{Leads, Shown, HoldsFrom, AreTexts}
use Rattle.source_lowering.proofs.memory.Keeping.{shape_in, content_in, value_in}
use Rattle.source_lowering.proofs.memory.StructCells.{object_cells}
use Rattle.source_lowering.proofs.expressions.ElementsMade.{spot_in, element_cell, element_blank, element_made}
use Rattle.source_lowering.proofs.expressions.ArrayBeginning.{element_led}
use Rattle.source_lowering.proofs.expressions.Making.{spot_of}

-- ---- a cell of the heap

abbrev pub cell_of : Shape → source.Content → Cell
cell_of shape content = record { shape = shape; content = content }

abbrev pub cell_in : ℕ → Option Object → Option Cell
cell_in cell o = option_and_then (λ f. f cell) o

-- it holds what its parts in Core's data have
pub record IsHeapValue (w : World) (ds : List Datum) (i cell : ℕ) (shape : Shape) (v : Scalar) : Type 0 where
  pub contents : List Content
  pub held : HoldsFrom (datum_parts ds i cell) 0 contents
  pub shown : (m : source.Memory) (c : core.Memory) → Shown w m c shape v contents

-- the parts of an object of Core's data
pub datum_filled : (d : Datum) (ds : List Datum) (cell j : ℕ) (p : Part) → blanks d.layout d.count cell j ≡ Some p
    → datum_parts (d ∷ ds) 0 cell j ≡ Some (record p { content = d.first cell j })
datum_filled d ds cell j p e = rw e refl

-- ---- a character

-- a string's bytes and the final 0
abbrev all_bytes : Literal → List ℕ
all_bytes s = s.1 ++ 0 ∷ []

bytes_counted : (s : Literal) → length (all_bytes s) ≡ length s.1 + 1
bytes_counted s = length-append s.1 (0 ∷ [])

-- the byte of a cell
record IsCharacter (bytes : List ℕ) (cell : ℕ) (shape : Shape) (v : Scalar) : Type 0 where
  byte : ℕ
  is : slice_get bytes cell ≡ Some byte
  of : shape ≡ CharShape
  value : v ≡ Integer AsChar (byte % 256)

character_is : (bytes : List ℕ) (cell : ℕ) (shape : Shape) (v : Scalar) → slice_get (map byte_cell bytes) cell ≡ Some (cell_of shape (Holds v))
    → IsCharacter bytes cell shape v
character_is [] cell shape v e = absurd (none-some (cell_of shape (Holds v)) e)
character_is (b ∷ bytes) zero shape v e = record {
  byte = b;
  is = refl;
  of = sym (ap (shape_in shape) e);
  value = sym (ap (λ z. value_in v (content_in (Holds v) z)) e);
}
character_is (b ∷ bytes) (suc cell) shape v e =
    let one = character_is bytes cell shape v e in
    record { byte = one.byte; is = one.is; of = one.of; value = one.value }

byte_there : (bytes : List ℕ) (cell b : ℕ) → slice_get bytes cell ≡ Some b → slice_get (map byte_cell bytes) cell ≡ Some (byte_cell b)
byte_there [] cell b e = absurd (none-some b e)
byte_there (x ∷ bytes) zero b e = ap in_cell e
  where
    in_cell : Option ℕ → Option Cell
    in_cell None = None
    in_cell (Some y) = Some (byte_cell y)
byte_there (x ∷ bytes) (suc cell) b e = byte_there bytes cell b e

low_byte : (b : ℕ) → b % 256 < 256
low_byte b = omega arith

-- its part in Core's data
string_part : (w : World) (s : Literal) (ds : List Datum) (cell b : ℕ) → slice_get (all_bytes s) cell ≡ Some b
    → HoldsFrom (datum_parts (string_datum w s ∷ ds) 0 cell) 0 (Word (b % 256) ∷ [])
string_part w s ds cell b e = ((record part { content = Word (b % 256) }, (there, refl)), tt)
  where
    part : Part
    part = record { offset = cell * 1 + 0; width = 1; content = core.Blank }

    less : cell < length s.1 + 1
    less = subst (λ z. cell < z) (bytes_counted s) (slice_get_within (all_bytes s) cell b e)

    same : cell ≡ element_cell (layout_of w CharShape) cell 0
    same = omega arith

    there : datum_parts (string_datum w s ∷ ds) 0 cell 0 ≡ Some (record part { content = Word (b % 256) })
    there = datum_filled (string_datum w s) ds cell 0 part
        (ap (λ z. blanks (layout_of w CharShape) (length s.1 + 1) z 0) same ∙
        element_blank (layout_of w CharShape) (length s.1 + 1) cell 0 0 _ less (omega arith) refl) ∙
        ap (λ z. Some (record part { content = Word (unwrap_or z 0 % 256) })) e

-- ---- the strings

pub string_value : (w : World) (ss : List Literal) (i cell : ℕ) (shape : Shape) (v : Scalar)
    → cell_in cell (slice_get (map string_object ss) i) ≡ Some (cell_of shape (Holds v)) → IsHeapValue w (map (string_datum w) ss) i cell shape v
string_value w [] i cell shape v e = absurd (none-some (cell_of shape (Holds v)) e)
string_value w (s ∷ ss) zero cell shape v e = record {
  contents = Word (one.byte % 256) ∷ [];
  held = string_part w s (map (string_datum w) ss) cell one.byte one.is;
  shown = λ m c.
      subst (λ z. Shown w m c z v (Word (one.byte % 256) ∷ [])) (sym one.of)
      (record { word = one.byte % 256; value = one.value; shown = refl; small = low_byte one.byte });
}
  where
    one : IsCharacter (all_bytes s) cell shape v
    one = character_is (all_bytes s) cell shape v e
string_value w (s ∷ ss) (suc i) cell shape v e =
    let one = string_value w ss i cell shape v e in
    record { contents = one.contents; held = one.held; shown = one.shown }

-- both have the strings' objects, from a number on
abbrev pub HasStringCells : source.Memory → List Literal → ℕ → Type 0
HasStringCells m ss k = (i cell : ℕ) → m.cells (spot_of (source.Born 0) (k + i) cell) ≡ cell_in cell (slice_get (map string_object ss) i)

abbrev pub HasStringParts : World → core.Memory → List Literal → ℕ → Type 0
HasStringParts w c ss k = (i cell j : ℕ) → c.parts (spot_in (core.Born 0) (k + i) cell) j ≡ datum_parts (map (string_datum w) ss) i cell j

no_more : (k : ℕ) → k ≡ k + 0
no_more k = omega arith

one_on : (k i : ℕ) → suc k + i ≡ k + suc i
one_on k i = omega arith

-- a character of a string lies in both
character_led : (w : World) (m : source.Memory) (c : core.Memory) (s : Literal) (ds : List Datum) (k j : ℕ) → AreStructs w.unions w.structs
    → j < length s.1 + 1
    → ((cell : ℕ) → m.cells (spot_of (source.Born 0) k cell) ≡ string_object s cell)
    → ((cell part : ℕ) → c.parts (spot_in (core.Born 0) k cell) part ≡ datum_parts (string_datum w s ∷ ds) 0 cell part)
    → Leads w m c CharShape (source.beyond (heap_spot k) (j * 1)) (0 + j * 1)
character_led w m c s ds k j structs less cells parts = (
  (record { content = Holds (Integer AsChar (byte % 256)); is = cells (0 + j * 1) ∙ ap (slice_get (map byte_cell (all_bytes s))) same ∙ there }, tt),
  element_led w c (source.Born 0) k (length s.1 + 1) j CharShape (object_cells w.unions w.structs CharShape structs tt) less
      (λ i below.
      element_made c (core.Born 0) k (layout_of w CharShape) (length s.1 + 1) i below
      (λ cell part p e.
      record { content = (string_datum w s).first cell part; is = parts cell part ∙ datum_filled (string_datum w s) ds cell part p e })),
)
  where
    byte : ℕ
    byte = get_or (all_bytes s) j 0

    same : 0 + j * 1 ≡ j
    same = omega arith

    there : slice_get (map byte_cell (all_bytes s)) j ≡ Some (byte_cell byte)
    there = byte_there (all_bytes s) j byte (slice_get-get_or (all_bytes s) j 0 (subst (λ z. j < z) (sym (bytes_counted s)) less))

-- each string lies where its value says
pub texts_led : (w : World) (m : source.Memory) (c : core.Memory) (ss : List Literal) (k : ℕ) → AreStructs w.unions w.structs → AreStrings ss
    → HasStringCells m ss k → HasStringParts w c ss k → AreTexts w m c (strings_from ss k)
texts_led w m c [] k structs h cells parts = tt
texts_led w m c (s ∷ ss) k structs (short, others) cells parts = (
  record {
    number = k;
    count = length s.1 + 1;
    value = refl;
    some = omega arith;
    few = omega (arith, short);
    leads = λ j less.
        character_led w m c s (map (string_datum w) ss) k j structs less (λ cell. ap (λ z. m.cells (spot_of (source.Born 0) z cell)) (no_more k) ∙ cells 0 cell)
        (λ cell part. ap (λ z. c.parts (spot_in (core.Born 0) z cell) part) (no_more k) ∙ parts 0 cell part);
  },
  texts_led w m c ss (suc k) structs others (λ i cell. ap (λ z. m.cells (spot_of (source.Born 0) z cell)) (one_on k i) ∙ cells (suc i) cell)
      (λ i cell part. ap (λ z. c.parts (spot_in (core.Born 0) z cell) part) (one_on k i) ∙ parts (suc i) cell part),
)
