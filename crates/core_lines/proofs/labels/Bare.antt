-- Lines that neither place a label nor are conditional jumps: those of operations, and the first and last ones of functions.
use Rattle.std.proofs.Common.{◌≡◌, ℕ, zero, suc, pos, ◌+◌, ◌/◌, ◌%◌, ◌^◌, Bool, true, false, nat_eq, List, [], ◌∷◌, ◌++◌, Option, Some, None, refl}
use Rattle.std.specs.Prelude.{nat_lt, if◌then◌else◌}
use Rattle.core_lines.specs.declared.comparison.Comparison.{Comparison}
use Rattle.rv32_isa.specs.declared.instruction.Instr.TheVariants as instr
use Rattle.core_meaning.specs.Memory.{Layout}
use Rattle.core_meaning.specs.Core.{Binary, Add, Subtract, Multiply, Divide, DivideUnsigned, Remainder, RemainderUnsigned, And, Or, Xor, ShiftLeft, ShiftRight}
use Rattle.core_meaning.specs.Core.{ShiftRightUnsigned, Equal, NotEqual, Less, LessEqual, LessUnsigned, LessEqualUnsigned, Operation, Constant, NullPointer}
use Rattle.core_meaning.specs.Core.{Move, Narrow, Apply, LocalAddress, OwnAddress, DataAddress, Offset, Element, Get, Put, Load, Store, Copy, Clear, IsNull}
use Rattle.core_meaning.specs.Core.{SamePlace, Getchar, Putchar, HeapHandle, RegionNew, RegionAlloc, RegionFree, UniqueAlloc, UniqueFree, KeyNew, KeyOpen}
use Rattle.core_meaning.specs.Core.{KeyClose, KeyFree, Statement, Do}
use Rattle.rv32_machine.specs.State.{data_base}
use Rattle.core_lines.specs.declared.line.Line.{Line}
use Rattle.core_lines.specs.declared.line.Line.TheVariants.{Plain}
use Rattle.core_lines.specs.Frames.{is_short, word_code, load_code, save_code, slot_of, environment_code, frame_code, give_code, saves_code, restores_code}
use Rattle.core_lines.specs.Frames.{leave_code, epilogue_code}
use Rattle.core_lines.specs.Homes.{flag_at}
use Rattle.core_lines.specs.Loops.{are_words, copy_loop, clear_loop}
use Rattle.core_lines.specs.Held.{Source, Register, Number, Compared, ComparedWith, source_of, result_register, same_as, comparison_of, number_comparison_of}
use Rattle.core_lines.specs.declared.comparison.NumberComparison.{NumberComparison}
use Rattle.core_lines.specs.Operands.{number_code, into_code, keep_code, stored_in, stored_code, take_code, prologue_code}
use Rattle.core_lines.specs.Selected.{Surroundings, local_offset, local_home, nth, from_temp, read_code, write_code, binary_code, turned, immediate_code}
use Rattle.core_lines.specs.Selected.{immediate_for, address_code, further_code, operand, has_operand, both_code, apply_code, keep_result, computed_kept}
use Rattle.core_lines.specs.Selected.{judged_kept, applied_kept, get_code, byte_code, put_code, null_source, null_kept, number_in, narrow_kept, exponent_of}
use Rattle.core_lines.specs.Selected.{times_code, element_code, copy_code, clear_code, bytes_in, bytes_code, operation_code, argument_code, keep_answer}
use Rattle.core_lines.specs.Straight.{straight_operation, straight_code}
pub use Rattle.core_lines.proofs.labels.BareNumbers.{number_bare, numbered_bare}
pub use Rattle.core_lines.proofs.labels.BareLines.{are_bare, bare_places, bare_targets, two, three, four, either, one, verdict_bare}
use Rattle.core_lines.proofs.labels.BareTemporaries.{load_bare, save_bare, address_bare, further_bare, read_bare, write_bare, operand_bare, stored_bare}
use Rattle.core_lines.proofs.labels.BareTemporaries.{into_bare, keep_bare, number_kept_bare, verdict_kept_bare, numbered_kept_bare, move_bare}

-- ---- operations on words

binary_bare : (o : Binary) (to left right : ℕ) → are_bare (binary_code o to left right) ≡ true
binary_bare Add to left right = refl
binary_bare Subtract to left right = refl
binary_bare Multiply to left right = refl
binary_bare Divide to left right = refl
binary_bare DivideUnsigned to left right = refl
binary_bare Remainder to left right = refl
binary_bare RemainderUnsigned to left right = refl
binary_bare And to left right = refl
binary_bare Or to left right = refl
binary_bare Xor to left right = refl
binary_bare ShiftLeft to left right = refl
binary_bare ShiftRight to left right = refl
binary_bare ShiftRightUnsigned to left right = refl
binary_bare Equal to left right = refl
binary_bare NotEqual to left right = refl
binary_bare Less to left right = refl
binary_bare LessEqual to left right = refl
binary_bare LessUnsigned to left right = refl
binary_bare LessEqualUnsigned to left right = refl

abbrev bare_if_some : Option (List Line) → Bool
bare_if_some None = true
bare_if_some (Some lines) = are_bare lines

some_bare : (test : Bool) (lines : List Line) → are_bare lines ≡ true → bare_if_some (if test then Some lines else None) ≡ true
some_bare true lines bare = bare
some_bare false lines bare = refl

immediate_bare : (o : Binary) (to left n : ℕ) → bare_if_some (immediate_code o to left n) ≡ true
immediate_bare Add to left n = some_bare (is_short n) _ refl
immediate_bare Subtract to left n = some_bare (is_short (turned n)) _ refl
immediate_bare Multiply to left n = refl
immediate_bare Divide to left n = refl
immediate_bare DivideUnsigned to left n = refl
immediate_bare Remainder to left n = refl
immediate_bare RemainderUnsigned to left n = refl
immediate_bare And to left n = some_bare (is_short n) _ refl
immediate_bare Or to left n = some_bare (is_short n) _ refl
immediate_bare Xor to left n = some_bare (is_short n) _ refl
immediate_bare ShiftLeft to left n = some_bare (nat_lt n 32) _ refl
immediate_bare ShiftRight to left n = some_bare (nat_lt n 32) _ refl
immediate_bare ShiftRightUnsigned to left n = some_bare (nat_lt n 32) _ refl
immediate_bare Equal to left zero = refl
immediate_bare Equal to left (suc n) = some_bare (is_short (turned (suc n))) _ refl
immediate_bare NotEqual to left zero = refl
immediate_bare NotEqual to left (suc n) = some_bare (is_short (turned (suc n))) _ refl
immediate_bare Less to left n = some_bare (is_short n) _ refl
immediate_bare LessEqual to left n = refl
immediate_bare LessUnsigned to left n = some_bare (is_short n) _ refl
immediate_bare LessEqualUnsigned to left n = refl

immediate_for_bare : (o : Binary) (to left : ℕ) (s : Option Source) → bare_if_some (immediate_for o to left s) ≡ true
immediate_for_bare o to left None = refl
immediate_for_bare o to left (Some (Register r)) = refl
immediate_for_bare o to left (Some (Number n)) = immediate_bare o to left n
immediate_for_bare o to left (Some (Compared c)) = refl
immediate_for_bare o to left (Some (ComparedWith n)) = refl

-- ---- operations

copy_bare : (words : Bool) → are_bare (copy_loop words) ≡ true
copy_bare true = refl
copy_bare false = refl

clear_bare : (words : Bool) → are_bare (clear_loop words) ≡ true
clear_bare true = refl
clear_bare false = refl

module _ (u : Surroundings) where
  from_bare : (r t : ℕ) → are_bare (from_temp u r t) ≡ true
  from_bare r t = load_bare r (slot_of u.passed t)

  of_bare : (spare t : ℕ) → are_bare (operand u spare t) ≡ true
  of_bare spare t = operand_bare u.passed u.held spare t

  both_bare : (o : Binary) (to x y : ℕ) (lines : Option (List Line)) → bare_if_some lines ≡ true → are_bare (both_code u o to x y lines) ≡ true
  both_bare o to x y None bare =
      three (operand u 5 x) (operand u 6 y) (binary_code o to (has_operand u 5 x) (has_operand u 6 y)) (of_bare 5 x) (of_bare 6 y)
      (binary_bare o to (has_operand u 5 x) (has_operand u 6 y))
  both_bare o to x y (Some lines) bare = two (operand u 5 x) lines (of_bare 5 x) bare

  apply_bare : (o : Binary) (to x y : ℕ) → are_bare (apply_code u o to x y) ≡ true
  apply_bare o to x y =
      both_bare o to x y (immediate_for o to (has_operand u 5 x) (source_of u.held y)) (immediate_for_bare o to (has_operand u 5 x) (source_of u.held y))

  put_bare : (h width w x : ℕ) → are_bare (put_code u h width w x) ≡ true
  put_bare zero width w x =
      two (stored_code u.passed u.held 6 x) (write_code (stored_in u.held 6 x) width 2 w) (stored_bare u.passed u.held 6 x)
      (write_bare (stored_in u.held 6 x) width 2 w)
  put_bare (suc h) width w x =
      either (nat_eq width 1) (byte_code u (suc h) x) (into_code u.passed u.held (suc h) x)
      (two (operand u 6 x) (Plain (instr.Andi (suc h) (has_operand u 6 x) (pos 255)) ∷ []) (of_bare 6 x) refl) (into_bare u.passed u.held (suc h) x)

  times_bare : (exponent : Option ℕ) (left bytes : ℕ) → are_bare (times_code exponent left bytes) ≡ true
  times_bare None left bytes = two (number_code 6 bytes) (Plain (instr.Mul 5 left 6) ∷ []) (number_bare 6 bytes) refl
  times_bare (Some exponent) left bytes = refl

  element_bare : (to p i bytes : ℕ) → are_bare (element_code u to p i bytes) ≡ true
  element_bare to p i bytes =
      let times = times_code (exponent_of bytes) (has_operand u 5 i) bytes in
      let plus : List Line = Plain (instr.Add to 5 (has_operand u 6 p)) ∷ [] in
      either (nat_eq bytes 1) _ _
      (three (operand u 5 i) (operand u 6 p) (Plain (instr.Add to (has_operand u 5 i) (has_operand u 6 p)) ∷ []) (of_bare 5 i) (of_bare 6 p) refl)
      (three (operand u 5 i ++ times) (operand u 6 p) plus
      (two (operand u 5 i) times (of_bare 5 i) (times_bare (exponent_of bytes) (has_operand u 5 i) bytes)) (of_bare 6 p) refl)

  copies_bare : (to from : ℕ) (l : Layout) → are_bare (copy_code u to from l) ≡ true
  copies_bare to from l =
      either (nat_eq l.bytes 0) [] (from_temp u 5 to ++ from_temp u 6 from ++ further_code 7 5 l.bytes ++ copy_loop (are_words l)) refl
      (four (from_temp u 5 to) (from_temp u 6 from) (further_code 7 5 l.bytes) (copy_loop (are_words l)) (from_bare 5 to) (from_bare 6 from)
      (further_bare 7 5 l.bytes) (copy_bare (are_words l)))

  clears_bare : (p : ℕ) (l : Layout) (count : ℕ) → are_bare (clear_code u p l count) ≡ true
  clears_bare p l count =
      either (nat_eq (bytes_in l count) 0) [] (from_temp u 5 p ++ further_code 7 5 (bytes_in l count) ++ clear_loop (are_words l)) refl
      (three (from_temp u 5 p) (further_code 7 5 (bytes_in l count)) (clear_loop (are_words l)) (from_bare 5 p) (further_bare 7 5 (bytes_in l count))
      (clear_bare (are_words l)))

  module _ (keeps : Bool) where
    -- the result of lines is kept
    kept_bare : (t : ℕ) (lines : List Line) → are_bare lines ≡ true → are_bare (lines ++ keep_result keeps u t) ≡ true
    kept_bare t lines bare = two lines (keep_result keeps u t) bare (keep_bare u.passed keeps (result_register t) t)

    computed_bare : (o : Binary) (t x y : ℕ) (compared : Option Comparison) → are_bare (computed_kept keeps u o t x y compared) ≡ true
    computed_bare o t x y None = kept_bare t (apply_code u o (result_register t) x y) (apply_bare o (result_register t) x y)
    computed_bare o t x y (Some c) = verdict_kept_bare u.passed keeps t c

    judged_bare : (o : Binary) (t x y : ℕ) (told : Option NumberComparison) (compared : Option Comparison)
        → are_bare (judged_kept keeps u o t x y told compared) ≡ true
    judged_bare o t x y None compared = computed_bare o t x y compared
    judged_bare o t x y (Some n) compared = numbered_kept_bare u.passed keeps t n

    applied_bare : (o : Binary) (t x y : ℕ) (same : Option ℕ) (told : Option NumberComparison) (compared : Option Comparison)
        → are_bare (applied_kept keeps u o t x y same told compared) ≡ true
    applied_bare o t x y None told compared = judged_bare o t x y told compared
    applied_bare o t x y (Some z) told compared = move_bare u.passed keeps (result_register t) t z (source_of u.held z)

    get_bare : (h t width w : ℕ) → are_bare (get_code keeps u h t width w) ≡ true
    get_bare zero t width w = kept_bare t (read_code (result_register t) width 2 w) (read_bare (result_register t) width 2 w)
    get_bare (suc h) t width w = keep_bare u.passed keeps (suc h) t

    narrow_bare : (t x : ℕ) (known : Option ℕ) → are_bare (narrow_kept keeps u t x known) ≡ true
    narrow_bare t x None =
        let line : List Line = Plain (instr.Andi (result_register t) (has_operand u 5 x) (pos 255)) ∷ [] in
        kept_bare t (operand u 5 x ++ line) (two (operand u 5 x) line (of_bare 5 x) refl)
    narrow_bare t x (Some w) = number_kept_bare u.passed keeps t (w % 256)

    null_bare : (t p : ℕ) (known : Option Source) → are_bare (null_kept keeps u t p known) ≡ true
    null_bare t p None =
        let line : List Line = Plain (instr.Sltiu (result_register t) (has_operand u 5 p) (pos 1)) ∷ [] in
        kept_bare t (operand u 5 p ++ line) (two (operand u 5 p) line (of_bare 5 p) refl)
    null_bare t p (Some s) = move_bare u.passed keeps (result_register t) t p (Some s)

    straight_operation_bare : (home : ℕ) (o : Operation) → are_bare (straight_operation keeps u home o) ≡ true
    straight_operation_bare home (Apply o t x y) =
        two (apply_code u o home x y) (keep_code keeps u.passed home t) (apply_bare o home x y) (keep_bare u.passed keeps home t)
    straight_operation_bare home o = refl

    pub straight_bare : (home : ℕ) (s : Statement) → are_bare (straight_code keeps u home s) ≡ true
    straight_bare home (Do operation) = straight_operation_bare home operation
    straight_bare home s = refl

    argument_bare : (x : ℕ) → are_bare (argument_code u x) ≡ true
    argument_bare x = into_bare u.passed u.held 10 x

    answer_bare : (t : ℕ) → are_bare (keep_answer keeps u t) ≡ true
    answer_bare t = keep_bare u.passed keeps 10 t

    pub operation_bare : (o : Operation) → are_bare (operation_code keeps u o) ≡ true
    operation_bare (Constant t w) = number_kept_bare u.passed keeps t (w % 2 ^ 32)
    operation_bare (NullPointer t) = keep_bare u.passed keeps 0 t
    operation_bare (Move t x) = move_bare u.passed keeps (result_register t) t x (source_of u.held x)
    operation_bare (Narrow t x) = narrow_bare t x (number_in (source_of u.held x))
    operation_bare (Apply o t x y) =
        applied_bare o t x y (same_as o x y (source_of u.held x) (source_of u.held y)) (number_comparison_of o (source_of u.held x) (source_of u.held y))
        (comparison_of o (source_of u.held x) (source_of u.held y))
    operation_bare (LocalAddress t out local) =
        kept_bare t (address_code (result_register t) (local_offset u out local)) (address_bare (result_register t) (local_offset u out local))
    operation_bare (OwnAddress t object) =
        kept_bare t (address_code (result_register t) (nth u.own object)) (address_bare (result_register t) (nth u.own object))
    operation_bare (DataAddress t object) = number_kept_bare u.passed keeps t (data_base + nth u.statics object)
    operation_bare (Offset t p cells bytes) =
        let lines = further_code (result_register t) (has_operand u 5 p) bytes in
        kept_bare t (operand u 5 p ++ lines) (two (operand u 5 p) lines (of_bare 5 p) (further_bare (result_register t) (has_operand u 5 p) bytes))
    operation_bare (Element t p i cells bytes) =
        kept_bare t (element_code u (result_register t) p i (bytes % 2 ^ 32)) (element_bare (result_register t) p i (bytes % 2 ^ 32))
    operation_bare (Get t out local width) = get_bare (local_home u out local) t width (local_offset u out local)
    operation_bare (Put out local width x) = put_bare (local_home u out local) width (local_offset u out local) x
    operation_bare (Load t p d) =
        let lines = read_code (result_register t) d.width (has_operand u 5 p) d.bytes in
        kept_bare t (operand u 5 p ++ lines) (two (operand u 5 p) lines (of_bare 5 p) (read_bare (result_register t) d.width (has_operand u 5 p) d.bytes))
    operation_bare (Store p d x) =
        three (operand u 5 p) (stored_code u.passed u.held 6 x) (write_code (stored_in u.held 6 x) d.width (has_operand u 5 p) d.bytes) (of_bare 5 p)
        (stored_bare u.passed u.held 6 x) (write_bare (stored_in u.held 6 x) d.width (has_operand u 5 p) d.bytes)
    operation_bare (Copy to from l) = copies_bare to from l
    operation_bare (Clear p l count) = clears_bare p l count
    operation_bare (IsNull t p) = null_bare t p (null_source (source_of u.held p))
    operation_bare (SamePlace t p q) =
        let lines = binary_code Equal (result_register t) (has_operand u 5 p) (has_operand u 6 q) in
        kept_bare t (operand u 5 p ++ operand u 6 q ++ lines) (three (operand u 5 p) (operand u 6 q) lines (of_bare 5 p) (of_bare 6 q) refl)
    operation_bare (Getchar t) = two (environment_code 2) (keep_answer keeps u t) refl (answer_bare t)
    operation_bare (Putchar t x) = three (argument_code u x) (environment_code 1) (keep_answer keeps u t) (argument_bare x) refl (answer_bare t)
    operation_bare (HeapHandle t) = number_kept_bare u.passed keeps t 0
    operation_bare (RegionNew t) = two (environment_code 4) (keep_answer keeps u t) refl (answer_bare t)
    operation_bare (RegionAlloc t h n layout) =
        let count = into_code u.passed u.held 5 n in
        three (count ++ argument_code u h ++ bytes_code layout.bytes) (environment_code 5) (keep_answer keeps u t)
        (three count (argument_code u h) (bytes_code layout.bytes) (into_bare u.passed u.held 5 n) (argument_bare h) refl) refl (answer_bare t)
    operation_bare (RegionFree h) = two (argument_code u h) (environment_code 6) (argument_bare h) refl
    operation_bare (UniqueAlloc t layout) =
        two (word_code 10 (layout.bytes % 2 ^ 32) ++ environment_code 7) (keep_answer keeps u t) refl (answer_bare t)
    operation_bare (UniqueFree p) = two (argument_code u p) (environment_code 8) (argument_bare p) refl
    operation_bare (KeyNew t) = two (environment_code 9) (keep_answer keeps u t) refl (answer_bare t)
    operation_bare (KeyOpen k) = two (argument_code u k) (environment_code 10) (argument_bare k) refl
    operation_bare (KeyClose k) = two (argument_code u k) (environment_code 11) (argument_bare k) refl
    operation_bare (KeyFree k) = two (argument_code u k) (environment_code 12) (argument_bare k) refl

-- ---- the first and last lines of functions

restores_bare : (k : ℕ) (rs : List ℕ) → are_bare (restores_code k rs) ≡ true
restores_bare k [] = refl
restores_bare k (r ∷ rs) = two (load_code r k) (restores_code (suc k) rs) (load_bare r k) (restores_bare (suc k) rs)

saves_bare : (k : ℕ) (rs : List ℕ) → are_bare (saves_code k rs) ≡ true
saves_bare k [] = refl
saves_bare k (r ∷ rs) = two (save_code r k) (saves_code (suc k) rs) (save_bare r k) (saves_bare (suc k) rs)

pub epilogue_bare : (bytes first : ℕ) (saved : List ℕ) → are_bare (epilogue_code bytes first saved) ≡ true
epilogue_bare bytes first saved =
    two (restores_code first saved) (leave_code bytes) (restores_bare first saved)
    (three (load_code 1 0) (give_code bytes) (Plain (instr.Jalr 0 1 (pos 0)) ∷ []) (load_bare 1 0) (either (nat_lt bytes 2048) _ _ refl refl) refl)

take_bare : (bytes passed : ℕ) (start : List Bool) (registers : ℕ → ℕ) (k count : ℕ) → are_bare (take_code bytes passed start registers k count) ≡ true
take_bare bytes passed start registers k zero = refl
take_bare bytes passed start registers k (suc more) =
    three (load_code (registers k) (bytes / 4 + 1 + k)) (keep_code (flag_at start k) passed (registers k) k)
    (take_code bytes passed start registers (k + 1) more) (load_bare (registers k) (bytes / 4 + 1 + k))
    (keep_bare passed (flag_at start k) (registers k) k) (take_bare bytes passed start registers (k + 1) more)

pub prologue_bare : (refused bytes passed first : ℕ) (saved : List ℕ) (start : List Bool) (registers : ℕ → ℕ) (parameters : ℕ)
    → are_bare (prologue_code refused bytes passed first saved start registers parameters) ≡ true
prologue_bare refused bytes passed first saved start registers parameters =
    two (frame_code refused bytes ++ save_code 1 0 ++ saves_code first saved) (take_code bytes passed start registers 0 parameters)
    (three (frame_code refused bytes) (save_code 1 0) (saves_code first saved) (either (nat_lt bytes 2048) _ _ refl refl) (save_bare 1 0)
    (saves_bare first saved))
    (take_bare bytes passed start registers 0 parameters)
