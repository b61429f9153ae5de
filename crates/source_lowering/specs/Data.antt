-- Believed: what globals and strings are lowered to: data objects.
use Rattle.std.specs.Prelude.{ℕ, zero, suc, ◌+◌, ◌%◌, Option, ◌^◌, Some, None, List, [], ◌∷◌, ◌++◌, slice_get, length, unwrap_or}
use Rattle.cyc_tree.specs.Tree as tree
use Rattle.cyc_tree.specs.Tree.{Initial, Item}
use Rattle.cyc_words.specs.Words.{difference_of}
use Rattle.source_meaning.specs.Shapes.{Shape, CharShape, FatShape, StructShape, ArrayShape, written, settled}
use Rattle.source_meaning.specs.Steps.{World}
use Rattle.source_meaning.specs.Memory.{Span, Scalar, Wide}
use Rattle.source_meaning.specs.Places.{literal_string}
use Rattle.source_meaning.specs.Programs.{global_shape}
use Rattle.source_meaning.specs.Strings.{Literal}
use Rattle.core_meaning.specs.Memory as memory
use Rattle.core_meaning.specs.Core.{Local, Datum}
use Rattle.source_lowering.specs.Layouts.{layout_of, local_of, first_part}

-- ---- globals, and behind them the strings

-- a global of a char keeps the low bits
abbrev pub word_in : Shape → ℕ → ℕ
word_in CharShape word = word % 256
word_in s word = word

abbrev pub constant_word : tree.Constant → ℕ
constant_word (tree.Number at value suffix) = value % 2 ^ 32
constant_word (tree.Negative at value suffix) = difference_of 0 (value % 2 ^ 32)
constant_word (tree.Character at byte) = byte % 256
constant_word (tree.Text at bytes) = 0
constant_word (tree.Null at) = 0

-- the parts of a fat pointer to the first element of the heap's object of a number
abbrev pub span_content : Span → ℕ → memory.Content
span_content s zero = memory.Pointer (record { region = memory.Born 0; object = s.first.object; cell = 0 }) 0
span_content s (suc zero) = memory.Word s.count
span_content s (suc (suc part)) = memory.Word s.index

-- those of a string's value; where there is no string, of NULL
abbrev pub text_content : Option Scalar → ℕ → memory.Content
text_content (Some (Wide (Some s))) part = span_content s part
text_content _ zero = memory.Null
text_content _ (suc part) = memory.Word 0

abbrev pub constant_content : World → tree.Constant → Shape → memory.Content
constant_content w (tree.Null at) s = memory.Null
constant_content w (tree.Text at bytes) s = text_content (literal_string w.strings at bytes) 0
constant_content w c s = memory.Word (word_in s (constant_word c))

-- what a global begins with
abbrev pub initial_content : World → Initial → Shape → memory.Content
initial_content w Initial.Unset s = first_part s
initial_content w (Initial.Elements count) s = first_part s
initial_content w (Initial.Given c) s = constant_content w c s

abbrev pub datum_of : World → Shape → memory.Content → Datum
datum_of w s first = record { layout = layout_of w s; count = 1; first = λ cell part. first }

-- what a part begins with
abbrev pub first_content : Option memory.PartShape → memory.Content
first_content None = memory.Blank
first_content (Some x) = x.first

-- each element of an object begins as its layout does
abbrev pub begun_datum : Local → Datum
begun_datum l = record {
  layout = l.layout;
  count = l.count;
  first = λ cell part. first_content (memory.shape_in (slice_get l.layout.cells (cell % length l.layout.cells)) part);
}

-- a fat pointer that is given a string
abbrev pub text_datum : World → Shape → Option Scalar → Datum
text_datum w s (Some (Wide (Some span))) = record { layout = layout_of w s; count = 1; first = λ cell part. span_content span part }
text_datum w s _ = begun_datum (local_of w s)

-- a global of a struct, of a fat pointer or of an array begins as its layout does
abbrev pub global_datum : World → Initial → Shape → Datum
global_datum w initial (StructShape tag) = begun_datum (local_of w (StructShape tag))
global_datum w (Initial.Given (tree.Text at bytes)) (FatShape to) = text_datum w (FatShape to) (literal_string w.strings at bytes)
global_datum w initial (FatShape to) = begun_datum (local_of w (FatShape to))
global_datum w initial (ArrayShape count of) = begun_datum (local_of w (ArrayShape count of))
global_datum w initial s = datum_of w s (initial_content w initial s)

-- the globals, in their order
abbrev pub data_of : World → List Item → List Datum
data_of w [] = []
data_of w (tree.GlobalItem g ∷ items) = global_datum w g.initial (global_shape g.initial (settled (written g.of))) ∷ data_of w items
data_of w (_ ∷ items) = data_of w items

-- ---- strings

-- a string's bytes and one final 0
abbrev pub string_datum : World → Literal → Datum
string_datum w s = record {
  layout = layout_of w CharShape;
  count = length s.1 + 1;
  first = λ cell part. memory.Word (unwrap_or (slice_get (s.1 ++ 0 ∷ []) cell) 0 % 256);
}
