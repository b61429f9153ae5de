-- Believed: the code's programs as programs of Core.
use Rattle.std.specs.Prelude.{ℕ, zero, suc, ◌+◌, ◌%◌, Option, Some, None, List, [], ◌∷◌, ◌++◌, map, length, slice_get, unwrap_or}
use Rattle.core_meaning.specs.Memory.{PartShape, Layout, Content, shape_in}
use Rattle.core_meaning.specs.Memory as memory
use Rattle.core_meaning.specs.Core as core
use Rattle.cyc_core.specs.declared.operation.Temporary.{Temporary}
use Rattle.cyc_core.specs.declared.operation.Words.{Words}
use Rattle.cyc_core.specs.declared.operation.Words.TheVariants as words
use Rattle.cyc_core.specs.declared.operation.Width.{Width}
use Rattle.cyc_core.specs.declared.operation.Width.TheVariants as width
use Rattle.cyc_core.specs.declared.operation.Cell.{Cell}
use Rattle.cyc_core.specs.declared.operation.Cell.TheVariants as cell
use Rattle.cyc_core.specs.declared.operation.Distance.{Distance}
use Rattle.cyc_core.specs.declared.layout.CellLayout.{CellLayout}
use Rattle.cyc_core.specs.declared.layout.Layout as code_layout
use Rattle.cyc_core.specs.declared.layout.Local.{Local}
use Rattle.cyc_core.specs.declared.layout.Local.TheVariants as local
use Rattle.cyc_core.specs.declared.operation.Binary.{Binary}
use Rattle.cyc_core.specs.declared.operation.Binary.TheVariants as binary
use Rattle.cyc_core.specs.declared.operation.Operation.{Operation}
use Rattle.cyc_core.specs.declared.operation.Operation.TheVariants as operation
use Rattle.cyc_words.specs.declared.faults.Kind.{Kind}
use Rattle.cyc_core.specs.declared.statement.Failure.{Failure}
use Rattle.cyc_core.specs.declared.statement.Failure.TheVariants as failure
use Rattle.cyc_core.specs.declared.statement.Statement as code
use Rattle.cyc_core.specs.declared.statement.Statement.TheOpen.{Statement-F}
use Rattle.cyc_core.specs.declared.statement.Statement.TheFolds.{fold-Statement}
use Rattle.cyc_core.specs.declared.program.Function.{Function}
use Rattle.cyc_core.specs.declared.program.Datum.{Datum}
use Rattle.cyc_core.specs.declared.program.Datum.TheVariants as datum
use Rattle.cyc_core.specs.declared.program.Program.{Program}

-- how many bytes a width is
abbrev pub bytes_of : Width → ℕ
bytes_of width.Byte = 1
bytes_of width.Word = 4

-- how wide each part of a cell is: a pointer is a word, each part of a fat one and of a tagged union is, and so is a handle
abbrev pub cell_width : Cell → Width
cell_width cell.Byte = width.Byte
cell_width cell.Word = width.Word
cell_width cell.Pointer = width.Word
cell_width cell.Fat = width.Word
cell_width cell.Handle = width.Word
cell_width cell.Tagged = width.Word
cell_width cell.TaggedFat = width.Word

-- what its first part begins as: a pointer is NULL, a number is 0, and a handle and a tagged union have no beginning
abbrev pub cell_first : Cell → Content
cell_first cell.Byte = memory.Word 0
cell_first cell.Word = memory.Word 0
cell_first cell.Pointer = memory.Null
cell_first cell.Fat = memory.Null
cell_first cell.Handle = memory.Blank
cell_first cell.Tagged = memory.Blank
cell_first cell.TaggedFat = memory.Blank

-- how many bytes it takes
abbrev pub cell_bytes : Cell → ℕ
cell_bytes cell.Byte = 1
cell_bytes cell.Word = 4
cell_bytes cell.Pointer = 4
cell_bytes cell.Fat = 12
cell_bytes cell.Handle = 4
cell_bytes cell.Tagged = 8
cell_bytes cell.TaggedFat = 16

-- a number of words, from a byte on, that hold nothing
abbrev pub blank_words : ℕ → ℕ → List PartShape
blank_words at zero = []
blank_words at (suc n) = record { offset = at; width = 4; first = memory.Blank } ∷ blank_words (at + 4) n

-- the parts behind its first, from a byte on: a fat pointer has its count and its index, which begin as 0, and a tagged union the words of a member
abbrev pub further_parts : Cell → ℕ → List PartShape
further_parts cell.Byte at = []
further_parts cell.Word at = []
further_parts cell.Pointer at = []
further_parts cell.Fat at = record { offset = at; width = 4; first = memory.Word 0 } ∷ record { offset = at + 4; width = 4; first = memory.Word 0 } ∷ []
further_parts cell.Handle at = []
further_parts cell.Tagged at = blank_words at 1
further_parts cell.TaggedFat at = blank_words at 3

-- the parts of what it is made for, from a byte on
abbrev pub made_parts : Cell → ℕ → List PartShape
made_parts c at = record { offset = at; width = bytes_of (cell_width c); first = cell_first c } ∷ further_parts c (at + 4)

-- an object of one cell
abbrev pub part_layout : Cell → Layout
part_layout c = record { cells = made_parts c 0 ∷ []; bytes = cell_bytes c }

-- parts of one byte that hold nothing, from a byte on
abbrev pub padding_parts : ℕ → ℕ → List PartShape
padding_parts at zero = []
padding_parts at (suc n) = record { offset = at; width = 1; first = memory.Blank } ∷ padding_parts (at + 1) n

-- a cell has the parts that it is made of, and the bytes behind these
abbrev pub cell_parts : CellLayout → List PartShape
cell_parts c = made_parts c.cell c.offset ++ padding_parts (c.offset + cell_bytes c.cell) c.padding

abbrev pub layout_tree : code_layout.Layout → Layout
layout_tree l = record { cells = map cell_parts l.cells.items; bytes = l.bytes }

abbrev pub local_layout : Local → Layout
local_layout (local.Scalar c) = part_layout c
local_layout (local.Whole l count) = layout_tree l.value

-- of how many elements it is
abbrev pub local_count : Local → ℕ
local_count (local.Scalar c) = 1
local_count (local.Whole l count) = count

abbrev pub local_tree : Local → core.Local
local_tree l = record { layout = local_layout l; count = local_count l }

abbrev pub distance_tree : Distance → core.Distance
distance_tree d = record { cells = d.cells; bytes = d.bytes; part = d.part; width = bytes_of d.width }

abbrev pub temporary_tree : Temporary → ℕ
temporary_tree t = t.0

-- the temporaries of a value
abbrev pub words_tree : Words → List ℕ
words_tree (words.One t) = t.0 ∷ []
words_tree (words.Three t u v) = t.0 ∷ u.0 ∷ v.0 ∷ []

-- those of a value, or none
abbrev pub optional_tree : Option Words → List ℕ
optional_tree None = []
optional_tree (Some ws) = words_tree ws

abbrev pub binary_tree : Binary → core.Binary
binary_tree binary.Add = core.Add
binary_tree binary.Subtract = core.Subtract
binary_tree binary.Multiply = core.Multiply
binary_tree binary.Divide = core.Divide
binary_tree binary.DivideUnsigned = core.DivideUnsigned
binary_tree binary.Remainder = core.Remainder
binary_tree binary.RemainderUnsigned = core.RemainderUnsigned
binary_tree binary.And = core.And
binary_tree binary.Or = core.Or
binary_tree binary.Xor = core.Xor
binary_tree binary.ShiftLeft = core.ShiftLeft
binary_tree binary.ShiftRight = core.ShiftRight
binary_tree binary.ShiftRightUnsigned = core.ShiftRightUnsigned
binary_tree binary.Equal = core.Equal
binary_tree binary.NotEqual = core.NotEqual
binary_tree binary.Less = core.Less
binary_tree binary.LessEqual = core.LessEqual
binary_tree binary.LessUnsigned = core.LessUnsigned
binary_tree binary.LessEqualUnsigned = core.LessEqualUnsigned

abbrev pub operation_tree : Operation → core.Operation
operation_tree (operation.Constant t word) = core.Constant t.0 word
operation_tree (operation.NullPointer t) = core.NullPointer t.0
operation_tree (operation.Move t x) = core.Move t.0 x.0
operation_tree (operation.Narrow t x) = core.Narrow t.0 x.0
operation_tree (operation.Apply o t x y) = core.Apply (binary_tree o) t.0 x.0 y.0
operation_tree (operation.LocalAddress t v) = core.LocalAddress t.0 v.out v.index
operation_tree (operation.OwnAddress t object) = core.OwnAddress t.0 object
operation_tree (operation.DataAddress t object) = core.DataAddress t.0 object
operation_tree (operation.Element t p i cells bytes) = core.Element t.0 p.0 i.0 cells bytes
operation_tree (operation.Get w t v) = core.Get t.0 v.out v.index (bytes_of w)
operation_tree (operation.Put w x v) = core.Put v.out v.index (bytes_of w) x.0
operation_tree (operation.Offset t p cells bytes) = core.Offset t.0 p.0 cells bytes
operation_tree (operation.Load t p d) = core.Load t.0 p.0 (distance_tree d)
operation_tree (operation.Store p d x) = core.Store p.0 (distance_tree d) x.0
operation_tree (operation.IsNull t p) = core.IsNull t.0 p.0
operation_tree (operation.SamePlace t p q) = core.SamePlace t.0 p.0 q.0
operation_tree (operation.Getchar t) = core.Getchar t.0
operation_tree (operation.Putchar t x) = core.Putchar t.0 x.0
operation_tree (operation.HeapHandle t) = core.HeapHandle t.0
operation_tree (operation.RegionNew t) = core.RegionNew t.0
operation_tree (operation.RegionFree t) = core.RegionFree t.0
operation_tree (operation.UniqueFree t) = core.UniqueFree t.0
operation_tree (operation.KeyNew t) = core.KeyNew t.0
operation_tree (operation.KeyOpen t) = core.KeyOpen t.0
operation_tree (operation.KeyClose t) = core.KeyClose t.0
operation_tree (operation.KeyFree t) = core.KeyFree t.0

abbrev pub statements_of : List core.Statement → core.Statements
statements_of [] = core.NoStatements
statements_of (s ∷ ss) = core.MoreStatements s (statements_of ss)

-- one statement alone, which raises an exception
abbrev pub raise_tree : Kind → core.Statements
raise_tree kind = core.MoreStatements (core.Raise kind) core.NoStatements

-- what raises the exception of a failed check
abbrev pub failure_body : Failure → core.Statements
failure_body (failure.Always kind) = raise_tree kind
failure_body (failure.ByTest t first second) = core.MoreStatements (core.If t.0 (raise_tree first) (raise_tree second)) core.NoStatements

abbrev pub statement_step : Statement-F core.Statement → core.Statement
statement_step (Statement-F.Do at o) = core.Do (operation_tree o)
statement_step (Statement-F.Copy to from l) = core.Do (core.Copy to.0 from.0 (layout_tree l.value))
statement_step (Statement-F.Clear p l count) = core.Do (core.Clear p.0 (layout_tree l.value) count)
statement_step (Statement-F.RegionAlloc t h n l) = core.Do (core.RegionAlloc t.0 h.0 n.0 (layout_tree l.value))
statement_step (Statement-F.UniqueAlloc t l) = core.Do (core.UniqueAlloc t.0 (layout_tree l.value))
statement_step (Statement-F.Check t f at) = core.If t.0 core.NoStatements (failure_body f)
statement_step (Statement-F.If t both) = core.If t.0 (statements_of both.value.0.items) (statements_of both.value.1.items)
statement_step (Statement-F.While t both) = core.While (statements_of both.value.0.items) t.0 (statements_of both.value.1.items)
statement_step (Statement-F.Block block) = core.Block (map local_tree block.value.0.items) (statements_of block.value.1.items)
statement_step (Statement-F.Leave body) = core.Leave (statements_of body.items)
statement_step (Statement-F.Break at) = core.Break
statement_step (Statement-F.Continue at) = core.Continue
statement_step (Statement-F.Call call) = core.Call (optional_tree call.value.result) call.value.function (map temporary_tree call.value.arguments.items)
statement_step (Statement-F.Return value at) = core.Return (optional_tree value)
statement_step (Statement-F.Raise kind at) = core.Raise kind

abbrev pub statement_tree : code.Statement → core.Statement
statement_tree = fold-Statement core.Statement statement_step

-- statements, one after the other
abbrev pub body_tree : List code.Statement → core.Statements
body_tree ss = statements_of (map statement_tree ss)

abbrev pub function_tree : Function → core.Function
function_tree f = record {
  parameters = f.parameters;
  temporaries = f.temporaries;
  passed = f.passed;
  order = f.order.items;
  own = map local_tree f.own.items;
  body = body_tree f.body.items;
}

abbrev pub datum_layout : Datum → Layout
datum_layout (datum.Byte b) = part_layout cell.Byte
datum_layout (datum.Word w) = part_layout cell.Word
datum_layout datum.Null = part_layout cell.Pointer
datum_layout (datum.Text bytes) = part_layout cell.Byte
datum_layout (datum.Address object) = part_layout cell.Pointer
datum_layout (datum.Bounds object count) = part_layout cell.Fat
datum_layout (datum.Whole l count) = layout_tree l.value

-- of how many elements it is
abbrev pub datum_count : Datum → ℕ
datum_count (datum.Byte b) = 1
datum_count (datum.Word w) = 1
datum_count datum.Null = 1
datum_count (datum.Text bytes) = length bytes.items + 1
datum_count (datum.Address object) = 1
datum_count (datum.Bounds object count) = 1
datum_count (datum.Whole l count) = count

-- what a part begins as
abbrev pub part_first : Option PartShape → Content
part_first None = memory.Blank
part_first (Some s) = s.first

-- the first element of the global or string of a number
abbrev pub first_element : ℕ → Content
first_element object = memory.Pointer (record { region = memory.Born 0; object = object; cell = 0 }) 0

-- the parts of a fat pointer to it
abbrev pub bounds_first : (object count part : ℕ) → Content
bounds_first object count zero = first_element object
bounds_first object count (suc zero) = memory.Word count
bounds_first object count (suc (suc part)) = memory.Word 0

-- what a cell's part of a global holds at the start
abbrev pub datum_first : Datum → ℕ → ℕ → Content
datum_first (datum.Byte b) k j = memory.Word b
datum_first (datum.Word w) k j = memory.Word w
datum_first datum.Null k j = memory.Null
datum_first (datum.Text bytes) k j = memory.Word (unwrap_or (slice_get bytes.items k) 0)
datum_first (datum.Address object) k j = first_element object
datum_first (datum.Bounds object count) k j = bounds_first object count j
datum_first (datum.Whole l count) k j =
    part_first (shape_in (slice_get (layout_tree l.value).cells (k % length (layout_tree l.value).cells)) j)

abbrev pub datum_tree : Datum → core.Datum
datum_tree d = record { layout = datum_layout d; count = datum_count d; first = datum_first d }

abbrev pub program_tree : Program → core.Program
program_tree p = record {
  functions = map function_tree p.functions.items;
  main = p.main;
  data_objects = map datum_tree p.globals.items;
}
