-- Believed: the lines that each operation, statement, function and program of Core becomes.
use Rattle.std.specs.Prelude.{ℕ, Bool, ◌+◌, ◌-◌, ◌*◌, ◌%◌, ◌^◌, List, [], ◌∷◌, ◌++◌, take, drop, nat_eq, if◌then◌else◌, length}
use Rattle.rv32_isa.specs.declared.instruction.Instr.TheVariants as instr
use Rattle.rv32_machine.specs.State.{data_base}
use Rattle.core_meaning.specs.Memory.{Layout}
use Rattle.core_meaning.specs.Core.{Equal, Operation, Constant, NullPointer, Move, Narrow, Apply, LocalAddress, OwnAddress, DataAddress, Offset, Element}
use Rattle.core_meaning.specs.Core.{Get, Put, Load, Store, Copy, Clear, IsNull, SamePlace, Getchar, Putchar, HeapHandle, RegionNew, RegionAlloc, RegionFree}
use Rattle.core_meaning.specs.Core.{UniqueAlloc, UniqueFree, KeyNew, KeyOpen, KeyClose, KeyFree, Local, Statement, Do, If, While, Block, Leave, Break, Continue}
use Rattle.core_meaning.specs.Core.{Call, Return, Raise, Statements, NoStatements, MoreStatements, Function, Program}
use Rattle.core_meaning.specs.Operations.{saturated}
use Rattle.core_lines.specs.declared.line.Line.{Line}
use Rattle.core_lines.specs.declared.line.Line.TheVariants.{Plain, Label, Jump, CallTo}
use Rattle.core_lines.specs.Frames.{word_code, stack_start_code, refusal_code, epilogue_code, environment_code, raise_code}
use Rattle.core_lines.specs.Loops.{are_words, copy_loop, clear_loop}
use Rattle.core_lines.specs.Homes.{homes_in, saved_slot, saved_by, flag_at}
pub use Rattle.core_lines.specs.Held.{nth, nth_block, Source, Register, Number, Compared, ComparedWith, Holding, held_behind, held_behind_all, source_of}
pub use Rattle.core_lines.specs.Held.{number_in}
pub use Rattle.core_lines.specs.Held.{result_register, same_as, comparison_of, number_comparison_of, null_source}
use Rattle.core_lines.specs.Operands.{into_code, keep_code, stored_in, stored_code}
use Rattle.core_lines.specs.Operands.{number_kept, move_kept, call_code, return_code, prologue_code}
use Rattle.core_lines.specs.Choosing.{choice_code, between_code, behind_code}
use Rattle.core_lines.specs.Checks.{check_of, checked_code}
use Rattle.core_lines.specs.Completing.{can_complete, can_complete_all, ends_in_return_all}
pub use Rattle.core_lines.specs.Straight.{home_behind, first_code, later_code}
use Rattle.core_lines.specs.Parameters.{parameter_registers}
use Rattle.core_lines.specs.Saved.{results_in, results_all, taken_in, live_at_start, saves_at}
pub use Rattle.core_lines.specs.LocalPlaces.{rounded, bytes_of, offsets_from, end_from, first_of, rest_of, shrink, shrunk, homes_here, homes_after, names_after}
pub use Rattle.core_lines.specs.LocalPlaces.{names_after_all, shrunk_in, shrunk_of, placed_body, greater, highest, highest_of, slots_of, own_end, too_many}
pub use Rattle.core_lines.specs.LocalPlaces.{frame_bytes, datum_local, datum_locals}
pub use Rattle.core_lines.specs.Computed.{Surroundings, local_offset, local_home, from_temp, to_temp, far_code, read_line, read_code, write_line, write_code}
pub use Rattle.core_lines.specs.Computed.{inverted, binary_code, short_code, shift_code, turned, difference_code, immediate_code, immediate_for, address_code}
pub use Rattle.core_lines.specs.Computed.{further_code, operand, has_operand, both_code, apply_code, keep_result, computed_kept, applied_kept, get_code}
pub use Rattle.core_lines.specs.Computed.{byte_code, put_code}
pub use Rattle.core_lines.specs.Computed.{judged_kept, exponent_of, times_code, element_code, narrow_kept, null_kept}

-- ---- whole objects

-- an object of no bytes needs none
abbrev pub copy_code : Surroundings → ℕ → ℕ → Layout → List Line
copy_code u to from l =
    (if nat_eq l.bytes 0 then [] else from_temp u 5 to ++ from_temp u 6 from ++ further_code 7 5 l.bytes ++ copy_loop (are_words l))

-- the bytes of `count` elements, as a word
abbrev pub bytes_in : Layout → ℕ → ℕ
bytes_in l count = count * l.bytes % 2 ^ 32

abbrev pub clear_code : Surroundings → ℕ → Layout → ℕ → List Line
clear_code u p l count =
    (if nat_eq (bytes_in l count) 0 then [] else from_temp u 5 p ++ further_code 7 5 (bytes_in l count) ++ clear_loop (are_words l))

-- The product of x5's word and a layout's bytes, into x11. It is all ones where it isn't a word.
abbrev pub bytes_code : ℕ → List Line
bytes_code bytes =
    word_code 6 (saturated bytes)
    ++ (Plain (instr.Mulhu 11 5 6) ∷ Plain (instr.Mul 5 5 6) ∷ Plain (instr.Sltu 11 0 11) ∷ Plain (instr.Sub 11 0 11) ∷ Plain (instr.Or 11 11 5) ∷ [])

-- ---- calls of the environment

-- a temporary's word as the argument
abbrev pub argument_code : Surroundings → ℕ → List Line
argument_code u x = into_code u.passed u.held 10 x

-- the answer, which a temporary gets
abbrev pub keep_answer : Bool → Surroundings → ℕ → List Line
keep_answer keeps u t = keep_code keeps u.passed 10 t

-- ---- operations

-- The code of an operation, whose result is saved or not. The heap's number is 0.
abbrev pub operation_code : Bool → Surroundings → Operation → List Line
operation_code keeps u (Constant t w) = number_kept keeps u.passed t (w % 2 ^ 32)
operation_code keeps u (NullPointer t) = keep_code keeps u.passed 0 t
operation_code keeps u (Move t x) = move_kept keeps u.passed (result_register t) t x (source_of u.held x)
operation_code keeps u (Narrow t x) = narrow_kept keeps u t x (number_in (source_of u.held x))
operation_code keeps u (Apply o t x y) =
    applied_kept keeps u o t x y (same_as o x y (source_of u.held x) (source_of u.held y)) (number_comparison_of o (source_of u.held x) (source_of u.held y))
    (comparison_of o (source_of u.held x) (source_of u.held y))
operation_code keeps u (LocalAddress t out local) = address_code (result_register t) (local_offset u out local) ++ keep_result keeps u t
operation_code keeps u (OwnAddress t object) = address_code (result_register t) (nth u.own object) ++ keep_result keeps u t
operation_code keeps u (DataAddress t object) = number_kept keeps u.passed t (data_base + nth u.statics object)
operation_code keeps u (Offset t p cells bytes) = operand u 5 p ++ further_code (result_register t) (has_operand u 5 p) bytes ++ keep_result keeps u t
operation_code keeps u (Element t p i cells bytes) = element_code u (result_register t) p i (bytes % 2 ^ 32) ++ keep_result keeps u t
operation_code keeps u (Get t out local width) = get_code keeps u (local_home u out local) t width (local_offset u out local)
operation_code keeps u (Put out local width x) = put_code u (local_home u out local) width (local_offset u out local) x
operation_code keeps u (Load t p d) = operand u 5 p ++ read_code (result_register t) d.width (has_operand u 5 p) d.bytes ++ keep_result keeps u t
operation_code keeps u (Store p d x) =
    operand u 5 p ++ stored_code u.passed u.held 6 x ++ write_code (stored_in u.held 6 x) d.width (has_operand u 5 p) d.bytes
operation_code keeps u (Copy to from layout) = copy_code u to from layout
operation_code keeps u (Clear p layout count) = clear_code u p layout count
operation_code keeps u (IsNull t p) = null_kept keeps u t p (null_source (source_of u.held p))
operation_code keeps u (SamePlace t p q) =
    operand u 5 p ++ operand u 6 q ++ binary_code Equal (result_register t) (has_operand u 5 p) (has_operand u 6 q) ++ keep_result keeps u t
operation_code keeps u (Getchar t) = environment_code 2 ++ keep_answer keeps u t
operation_code keeps u (Putchar t x) = argument_code u x ++ environment_code 1 ++ keep_answer keeps u t
operation_code keeps u (HeapHandle t) = number_kept keeps u.passed t 0
operation_code keeps u (RegionNew t) = environment_code 4 ++ keep_answer keeps u t
operation_code keeps u (RegionAlloc t h n layout) =
    into_code u.passed u.held 5 n ++ argument_code u h ++ bytes_code layout.bytes ++ environment_code 5 ++ keep_answer keeps u t
operation_code keeps u (RegionFree h) = argument_code u h ++ environment_code 6
operation_code keeps u (UniqueAlloc t layout) = word_code 10 (layout.bytes % 2 ^ 32) ++ environment_code 7 ++ keep_answer keeps u t
operation_code keeps u (UniqueFree p) = argument_code u p ++ environment_code 8
operation_code keeps u (KeyNew t) = environment_code 9 ++ keep_answer keeps u t
operation_code keeps u (KeyOpen k) = argument_code u k ++ environment_code 10
operation_code keeps u (KeyClose k) = argument_code u k ++ environment_code 11
operation_code keeps u (KeyFree k) = argument_code u k ++ environment_code 12

-- ---- statements

-- how many labels are kept for the code of a statement
abbrev mutual
  pub labels_in : Statement → ℕ
  labels_in (Do operation) = 0
  labels_in (If t these those) = labels_of these + labels_of those + 2
  labels_in (While test t body) = labels_of test + labels_of body + 2
  labels_in (Block locals body) = labels_of body
  labels_in (Leave body) = labels_of body + 1
  labels_in Break = 0
  labels_in Continue = 0
  labels_in (Call results f arguments) = 0
  labels_in (Return values) = 0
  labels_in (Raise kind) = 0

  pub labels_of : Statements → ℕ
  labels_of NoStatements = 0
  labels_of (MoreStatements s ss) = labels_in s + labels_of ss

-- the surroundings of what stands in a block with these locals
abbrev pub within_block : List Local → Surroundings → Surroundings
within_block locals u =
    let hs = homes_here locals u.names in
    let ls = shrunk locals hs in
    record u {
      blocks = offsets_from u.low ls ∷ u.blocks;
      homes = hs ∷ u.homes;
      names = homes_after locals u.names;
      low = end_from u.low ls;
    }

-- the same place, where these are the homes of the names to come
abbrev pub naming : List ℕ → Surroundings → Surroundings
naming hs u = record u { names = hs }

-- the same place, where this is known of temporaries
abbrev pub holding : List Holding → Surroundings → Surroundings
holding held u = record u { held = held }

-- The code of a statement, of whose results these flags say in turn which are saved. The labels that it places are numbered from `next` on; a `break` goes
-- to the label `out`, and a `continue` to `again`. A choice: the test, the first statements and a jump over the others; a label, the others, and a label. A
-- check is a branch over what raises its exception. A loop: a label, its test, its body and a jump back; and a label behind it. What a `break` leaves
-- without a loop: its statements, and a label behind them. What stands behind a statement that can't complete has no code.
-- What is known of temporaries is known from one statement to the next, within a block, on both ways of a choice, and from the test of a loop to its choice.
-- Where a result goes straight into the home of a local, the `Put` behind it has no code.
abbrev mutual
  pub statement_code : (flags : List Bool) → Surroundings → (next out again : ℕ) → Statement → List Line
  statement_code flags u next out again (Do operation) = operation_code (flag_at flags 0) u operation
  statement_code flags u next out again (If t these those) = let behind = next + 1 + labels_of these in
      checked_code u.passed u.held t (check_of these those)
      (choice_code u.wide u.passed u.held t next ++ statements_code flags u (next + 1) out again these ++
      between_code (can_complete_all these) those behind next ++
      statements_code (drop (results_all these) flags) (naming (names_after_all these u.names) u) (behind + 1) out again those ++ behind_code those behind)
  statement_code flags u next out again (While test t body) = let behind = next + 1 + labels_of test in
      (Label next ∷ []) ++ statements_code flags (holding [] u) (next + 1) out again test ++
      choice_code u.wide u.passed (held_behind_all u.homes u.statics [] test) t behind ++
      statements_code (drop (results_all test) flags) (holding [] (naming (names_after_all test u.names) u)) (behind + 1) behind next body ++
      (Jump next ∷ Label behind ∷ [])
  statement_code flags u next out again (Block locals body) = statements_code flags (within_block locals u) next out again body
  statement_code flags u next out again (Leave body) = statements_code flags u (next + 1) next again body ++ (Label next ∷ [])
  statement_code flags u next out again Break = Jump out ∷ []
  statement_code flags u next out again Continue = Jump again ∷ []
  statement_code flags u next out again (Call results f arguments) = call_code flags u.passed u.held results f arguments
  statement_code flags u next out again (Return values) = return_code u.passed u.held values u.exit
  statement_code flags u next out again (Raise kind) = raise_code kind

  pub statements_code : (flags : List Bool) → Surroundings → (next out again : ℕ) → Statements → List Line
  statements_code flags u next out again NoStatements = []
  statements_code flags u next out again (MoreStatements s ss) =
      let left = drop (results_in s) flags in
      let later = holding (held_behind u.homes u.statics u.held s) (naming (names_after s u.names) u) in
      let home = home_behind u.homes u.held s ss in
      first_code home (flag_at flags 0) u s (statement_code flags u next out again s) ++
      (if can_complete s then later_code home (statements_code left later (next + labels_in s) out again ss)
      (statements_behind left later (next + labels_in s) out again ss) else [])

  -- those behind the first of statements
  pub statements_behind : (flags : List Bool) → Surroundings → (next out again : ℕ) → Statements → List Line
  statements_behind flags u next out again NoStatements = []
  statements_behind flags u next out again (MoreStatements s ss) =
      (if can_complete s then statements_code (drop (results_in s) flags)
      (holding (held_behind u.homes u.statics u.held s) (naming (names_after s u.names) u)) (next + labels_in s) out again ss else [])

-- ---- functions and programs

-- the surroundings of a function's body
abbrev pub around : (ℕ → Bool) → List ℕ → ℕ → Function → Surroundings
around wide statics exit f = record {
  wide = wide;
  passed = f.passed;
  exit = exit;
  own = offsets_from (4 * slots_of f) f.own;
  blocks = [];
  homes = [];
  names = homes_in f;
  low = own_end f;
  statics = statics;
  held = taken_in f;
}

-- how many labels a function places but for its number: where it ends, and those within it
abbrev pub labels_within : Function → ℕ
labels_within f = 1 + labels_of f.body

-- lines without the last one, if a `Return` stands last: where its jump goes is next
abbrev pub ended_code : Bool → List Line → List Line
ended_code returns lines = (if returns then take (length lines - 1) lines else lines)

-- A function has its number as its label; `next` is where it ends, and the labels behind that are for what stands within it. At `refused` its frame is refused.
abbrev pub function_code : (ℕ → Bool) → List ℕ → (refused number next : ℕ) → Function → List Line
function_code wide statics refused number next f =
    (Label number ∷ []) ++
    prologue_code refused (frame_bytes f) f.passed (saved_slot f) (saved_by f) (live_at_start statics f) (parameter_registers f) f.parameters ++
    ended_code (ends_in_return_all f.body) (statements_code (saves_at statics f) (around wide statics next f) (next + 1) number number f.body) ++
    (Label next ∷ []) ++ epilogue_code (frame_bytes f) (saved_slot f) (saved_by f)

-- those from a number on
abbrev pub functions_code : (ℕ → Bool) → List ℕ → (refused number next : ℕ) → List Function → List Line
functions_code wide statics refused number next [] = []
functions_code wide statics refused number next (f ∷ fs) =
    function_code wide statics refused number next f ++ functions_code wide statics refused (number + 1) (next + labels_within f) fs

-- The stack's start is put into x3. `main` is called, and what it returns is the status of the exit. Then comes the refusal of frames, whose label is the one
-- behind the functions' numbers; then come the functions.
abbrev pub program_code : (ℕ → Bool) → Program → List Line
program_code wide p =
    stack_start_code ++ (CallTo p.main ∷ []) ++ environment_code 0 ++ (Label (length p.functions) ∷ []) ++ refusal_code ++
    functions_code wide (offsets_from 0 (datum_locals p.data_objects)) (length p.functions) 0 (length p.functions + 1) p.functions
