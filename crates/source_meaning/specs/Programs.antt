-- Believed: what a program does on an input, with n units of fuel.
use Rattle.std.specs.Prelude.{ℕ, suc, ◌+◌, ◌%◌, ◌^◌, Bool, None, List, [], ◌∷◌, ◌++◌, map, length, slice_get, option_and_then, bytes_eq, codes, if◌then◌else◌}
use Rattle.cyc_tree.specs.Tree as tree
use Rattle.cyc_tree.specs.Tree.{Expression, Statement, Constant, Initial, Function, Item, Program, Structure}
use Rattle.cyc_words.specs.Words.{difference_of}
use Rattle.cyc_words.specs.Events.{ByteRead, SourceEvent, Visible, Called, Returned, SourceEnding}
use Rattle.source_meaning.specs.Shapes.{Shared, Shape, IntShape, UnsignedShape, VoidShape, CharShape, MayBeNull, ThinShape, FatShape, ArrayShape, Layout, Part}
use Rattle.source_meaning.specs.Shapes.{part_of, written, settled}
use Rattle.source_meaning.specs.Memory.{IntegerType, AsInt, AsUnsigned, AsChar, Born, Spot, Scalar, Integer, Thin, Holds, Cell, Object, object_of, Live, Dead}
use Rattle.source_meaning.specs.Memory.{Memory, same_region, blank_object}
use Rattle.source_meaning.specs.Steps.{Variable, Binding, Routine, World, Scope, Flow, Falls, Breaks, Continues, Returns, Step, SourceBodies, Act, give, ◌>>=◌}
use Rattle.source_meaning.specs.Steps.{◌>>◌, stuck, need, say}
use Rattle.step_trees.specs.Trees.{Stops, Outcome, run}
use Rattle.source_meaning.specs.Conversions.{cells_of, converted, one, integer}
use Rattle.source_meaning.specs.Values.{write_cells}
use Rattle.source_meaning.specs.Places.{literal_string, span_at}
use Rattle.source_meaning.specs.Calls.{number_type, function_of}
use Rattle.source_meaning.specs.Regions.{in_block, local_with}
use Rattle.source_meaning.specs.Statements.{after_turn, loop, first_object, first_array, statement, block_items}
use Rattle.source_meaning.specs.Strings.{Literal, program_strings}

-- ---- what a program declares

-- a struct or union by its tag and members
abbrev pub layout_of : Structure → Layout
layout_of s = record { tag = s.tag.text; parts = map part_of s.members }

-- the latest struct first, in front of those that were found before
abbrev pub structs_from : List Item → List Layout → List Layout
structs_from [] found = found
structs_from (tree.StructItem s ∷ items) found = structs_from items (layout_of s ∷ found)
structs_from (_ ∷ items) found = structs_from items found

-- the tagged unions
abbrev pub unions_of : List Item → List Layout
unions_of [] = []
unions_of (tree.UnionItem u ∷ items) = layout_of u ∷ unions_of items
unions_of (_ ∷ items) = unions_of items

-- a function by its name, shapes and body
abbrev pub routine_of : Function → Routine
routine_of f = record {
  name = f.name.text;
  result = settled (written f.result);
  parameters = map part_of f.parameters;
  body = f.body;
}

-- the functions, in their order
abbrev pub functions_of : List Item → List Routine
functions_of [] = []
functions_of (tree.FunctionItem f ∷ items) = routine_of f ∷ functions_of items
functions_of (_ ∷ items) = functions_of items

-- ---- the heap at the start: the globals in their order, and then the strings

-- the first cell of the heap's object of a number
abbrev pub heap_spot : ℕ → Spot
heap_spot k = record { region = Born 0; object = k; cell = 0 }

-- a global's shape: an array where a count is written
abbrev pub global_shape : Initial → Shape → Shape
global_shape Initial.Unset s = s
global_shape (Initial.Elements count) s = ArrayShape count s
global_shape (Initial.Given c) s = s

-- the globals, whose objects are numbered from k on
abbrev pub globals_from : List Item → ℕ → List Binding
globals_from [] k = []
globals_from (tree.GlobalItem g ∷ items) k =
    (record { name = g.name.text; entity = Variable (global_shape g.initial (settled (written g.of))) (heap_spot k) }) ∷ globals_from items (suc k)
globals_from (_ ∷ items) k = globals_from items k

-- a string's value: a fat pointer to its bytes and one final 0
abbrev pub strings_from : List Literal → ℕ → List (ℕ × Scalar)
strings_from [] k = []
strings_from (s ∷ ss) k = (s.0, span_at (length s.1 + 1) (heap_spot k)) ∷ strings_from ss (suc k)

-- a char of a string
abbrev pub byte_cell : ℕ → Cell
byte_cell b = record { shape = CharShape; content = Holds (Integer AsChar (b % 256)) }

-- a string's bytes and one final 0; all of them can be written
abbrev pub string_object : Literal → Object
string_object s = object_of (map byte_cell (s.1 ++ 0 ∷ []))

-- all that a program declares
abbrev pub world_of : Program → World
world_of p =
    let globals = globals_from p 0 in
    record {
      structs = structs_from p [];
      unions = unions_of p;
      functions = functions_of p;
      globals = globals;
      strings = strings_from (program_strings p) (length globals);
    }

-- a constant; -n is the word of 0 - n
abbrev pub constant_value : List (ℕ × Scalar) → Constant → Act Scalar
constant_value strings (Constant.Number at value suffix) = give (Integer (number_type value suffix) (value % 2 ^ 32))
constant_value strings (Constant.Negative at value suffix) = give (Integer (number_type value suffix) (difference_of 0 (value % 2 ^ 32)))
constant_value strings (Constant.Character at byte) = give (Integer AsChar (byte % 256))
constant_value strings (Constant.Text at bytes) = need (literal_string strings at bytes)
constant_value strings (Constant.Null at) = give (Thin None)

abbrev pub integer_shape : IntegerType → Shape
integer_shape AsInt = IntShape
integer_shape AsUnsigned = UnsignedShape
integer_shape AsChar = CharShape

-- the shape of a constant
abbrev pub constant_shape : Constant → Shape
constant_shape (Constant.Number at value suffix) = integer_shape (number_type value suffix)
constant_shape (Constant.Negative at value suffix) = integer_shape (number_type value suffix)
constant_shape (Constant.Character at byte) = CharShape
constant_shape (Constant.Text at bytes) = FatShape CharShape
constant_shape (Constant.Null at) = ThinShape (MayBeNull 1) Shared VoidShape

-- a global's object, before its constant is stored
abbrev pub global_object : World → Initial → Shape → Object
global_object w Initial.Unset s = first_object w s
global_object w (Initial.Elements count) s = first_array w count s
global_object w (Initial.Given c) s = blank_object (cells_of w s)

-- the objects of the globals, in their order
abbrev pub global_objects : World → List Item → List Object
global_objects w [] = []
global_objects w (tree.GlobalItem g ∷ items) = global_object w g.initial (settled (written g.of)) ∷ global_objects w items
global_objects w (_ ∷ items) = global_objects w items

-- a global's constant is converted to its type and stored
abbrev pub global_stored : World → Initial → Shape → Spot → Act (Unit {0})
global_stored w Initial.Unset s at = give tt
global_stored w (Initial.Elements count) s at = give tt
global_stored w (Initial.Given c) s at = constant_value w.strings c >>= λ v. converted w s (constant_shape c) (v ∷ []) >>= λ vs. write_cells at vs

-- the constants of all globals; their objects are numbered from k on
abbrev pub globals_stored : World → List Item → ℕ → Act (Unit {0})
globals_stored w [] k = give tt
globals_stored w (tree.GlobalItem g ∷ items) k =
    global_stored w g.initial (settled (written g.of)) (heap_spot k) >> globals_stored w items (suc k)
globals_stored w (_ ∷ items) k = globals_stored w items k

-- the heap is the one region that is live, and the first birth; these are its objects
abbrev pub heap_alone : List Object → Memory
heap_alone os = record {
  activations = 0;
  births = 1;
  state = λ r. if same_region r (Born 0) then Live else Dead;
  objects = λ r. if same_region r (Born 0) then length os else 0;
  cells = λ s. if same_region s.region (Born 0) then option_and_then (λ o. o s.cell) (slice_get os s.object) else None;
}

-- ---- functions

-- the parameters live in the body's block
abbrev pub with_arguments : List Part → List (List Scalar) → (Scope → Act Flow) → Scope → Act Flow
with_arguments [] [] body scope = body scope
with_arguments (p ∷ ps) (vs ∷ vss) body scope = local_with scope p.name p.shape vs (with_arguments ps vss body)
with_arguments [] (vs ∷ vss) body scope = stuck
with_arguments (p ∷ ps) [] body scope = stuck

-- the name of the function that a run begins with
abbrev pub is_main : List ℕ → Bool
is_main name = bytes_eq name (codes "main")

-- the end of a function without `return`: `main` gives 0 there, and a function that gives a result has no such end
abbrev pub result_at_end : Routine → Shape → Act (List Scalar)
result_at_end f VoidShape = give []
result_at_end f s = (if is_main f.name then give (Integer AsInt 0 ∷ []) else stuck)

-- what a call gives, by how its body is left; `break` and `continue` stay within their loop or `switch`
abbrev pub result_of : Routine → Flow → Act (List Scalar)
result_of f (Returns vs) = give vs
result_of f Falls = result_at_end f f.result
result_of f Breaks = stuck
result_of f Continues = stuck

-- a function's body with its arguments: the call is seen before it, and the return after its regions were left
abbrev pub entered : Routine → World → List (List Scalar) → Act (List Scalar)
entered f w arguments =
    say (Called f.name) >>
    (in_block (λ k. with_arguments f.parameters arguments (block_items f.body) (record { world = w; locals = []; frame = k; result = f.result }))
    >>= result_of f >>= λ vs. say (Returned f.name) >> give vs)

-- a turn of a loop, and then the loop again
abbrev pub turned : Expression → Statement → Scope → Act Flow
turned condition body scope = statement body scope >>= λ flow. after_turn flow (loop condition body scope)

-- the bodies of calls and turns; a byte that is read is seen
abbrev pub source_bodies : SourceBodies
source_bodies = record {
  read = λ byte. Visible (ByteRead byte);
  call = λ c. entered c.routine c.world c.arguments;
  turn = λ t. turned t.condition t.body t.scope;
}

-- ---- the whole run

-- the globals and the strings
abbrev pub first_memory : Program → Memory
first_memory p = heap_alone (global_objects (world_of p) p ++ map string_object (program_strings p))

-- the constants are stored, and then `main` is entered, which takes no unit; what it gives is the status
abbrev pub status_of : World → Program → Act ℕ
status_of w p =
    globals_stored w p 0 >> (need (function_of w.functions (codes "main")) >>= λ f. entered f w [] >>= one >>= integer)

-- a run from its start, with the status that it ends with
abbrev pub start : Program → Step
start p = status_of (world_of p) p (λ status m. Stops (SourceEnding.Ended status)) (first_memory p)

-- the events and the ending of a program on an input, with n units of fuel
abbrev pub source : Program → List ℕ → ℕ → Outcome SourceEvent
source p input n = run source_bodies n (start p) input
