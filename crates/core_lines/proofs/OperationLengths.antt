-- How long the lines of an operation are.
use Rattle.std.specs.Prelude.{nat_eq, nat_lt, if◌then◌else◌}
use Rattle.std.proofs.Common.{ℕ, zero, suc, pos, ◌+◌, ◌*◌, ◌%◌, ◌^◌, ◌≤◌, Bool, true, false, List, [], ◌∷◌, ◌++◌, Option, Some, None, arith}
use Rattle.core_meaning.specs.Core.{Binary, Add, Subtract, Multiply, Divide, DivideUnsigned, Remainder, RemainderUnsigned, And, Or, Xor, ShiftLeft}
use Rattle.core_meaning.specs.Core.{ShiftRight, ShiftRightUnsigned, Equal, NotEqual, Less, LessEqual, LessUnsigned, LessEqualUnsigned, Operation, Constant}
use Rattle.core_meaning.specs.Core.{NullPointer, Move, Narrow, Apply, LocalAddress, OwnAddress, DataAddress, Offset, Element, Get, Put, Load, Store, Copy}
use Rattle.core_meaning.specs.Core.{Clear, IsNull, SamePlace, Getchar, Putchar, HeapHandle, RegionNew, RegionAlloc, RegionFree, UniqueAlloc, UniqueFree, KeyNew}
use Rattle.core_meaning.specs.Core.{KeyOpen, KeyClose, KeyFree}
use Rattle.rv32_isa.specs.declared.instruction.Instr.{Instr}
use Rattle.rv32_isa.specs.declared.instruction.Instr.TheVariants as instr
use Rattle.rv32_machine.specs.State.{data_base}
use Rattle.core_lines.specs.declared.comparison.Comparison.{Comparison}
use Rattle.core_lines.specs.declared.comparison.NumberComparison.{NumberComparison}
use Rattle.core_lines.specs.declared.line.Line.{Line}
use Rattle.core_lines.specs.declared.line.Line.TheVariants.{Plain}
use Rattle.core_lines.specs.Frames.{is_short, word_code, load_code, save_code, slot_of, environment_code}
use Rattle.core_lines.specs.Loops.{are_words, copy_loop, clear_loop}
use Rattle.core_lines.specs.Held.{Source, Register, Number, Compared, ComparedWith, Holding, source_of, is_zero, result_register, same_as, comparison_of}
use Rattle.core_lines.specs.Held.{number_comparison_of}
use Rattle.core_lines.specs.Operands.{number_code, bring_code, operand_code, fetch_code, into_code, keep_code, number_kept}
use Rattle.core_lines.specs.Comparisons.{verdict_code}
use Rattle.core_lines.specs.Operands.{numbered_code, verdict_kept, numbered_kept, move_kept, ready_code, test_ready, stored_in, stored_code}
use Rattle.core_lines.specs.Selected.{Surroundings, nth, local_offset, local_home, from_temp, far_code, read_line, read_code, write_line, write_code}
use Rattle.core_lines.specs.Selected.{binary_code, turned, immediate_code, immediate_for, operand, has_operand, both_code, apply_code, keep_result}
use Rattle.core_lines.specs.Selected.{computed_kept, judged_kept, applied_kept, address_code, get_code, byte_code, put_code}
use Rattle.core_lines.specs.Selected.{null_source, null_kept}
use Rattle.core_lines.specs.Selected.{number_in, narrow_kept, exponent_of, times_code, element_code, bytes_code, further_code, bytes_in, operation_code}
use Rattle.core_lines.specs.Selected.{argument_code, keep_answer}
use Rattle.core_lines.specs.Straight.{straight_operation}
use Rattle.core_meaning.specs.Bounds.{operation_count}
pub use Rattle.core_lines.proofs.Within.{IsWithin, both_within, less_within, if_within, nothing_within}
use Rattle.core_lines.proofs.CodeLengths.{number_within, verdict_within, numbered_within}

-- ---- slots and words

pub load_within : (to k : ℕ) → IsWithin 12 (load_code to k)
load_within to k = if_within 12 (is_short (4 * k)) _ _ (record { is = omega arith }) (record { is = omega arith })

pub save_within : (from k : ℕ) → IsWithin 12 (save_code from k)
save_within from k = if_within 12 (is_short (4 * k)) _ _ (record { is = omega arith }) (record { is = omega arith })

address_within : (to w : ℕ) → IsWithin 12 (address_code to w)
address_within to w = if_within 12 (is_short w) _ _ (record { is = omega arith }) (record { is = omega arith })

further_within : (to from bytes : ℕ) → IsWithin 12 (further_code to from bytes)
further_within to from bytes = if_within 12 (is_short bytes) _ _ (record { is = omega arith }) (record { is = omega arith })

-- one instruction or another
one_within : (c : Bool) (a b : Instr) → IsWithin 4 ((if c then Plain a else Plain b) ∷ [])
one_within true a b = record { is = omega arith }
one_within false a b = record { is = omega arith }

read_within : (to width from w : ℕ) → IsWithin 12 (read_code to width from w)
read_within to width from w =
    if_within 12 (is_short w) _ _ (less_within 4 12 _ (omega arith) (one_within (nat_eq width 1) _ _))
    (both_within 8 4 (far_code from w) (read_line to width 7 w ∷ []) (record { is = omega arith }) (one_within (nat_eq width 1) _ _))

write_within : (value width from w : ℕ) → IsWithin 12 (write_code value width from w)
write_within value width from w =
    if_within 12 (is_short w) _ _ (less_within 4 12 _ (omega arith) (one_within (nat_eq width 1) _ _))
    (both_within 8 4 (far_code from w) (write_line value width 7 w ∷ []) (record { is = omega arith }) (one_within (nat_eq width 1) _ _))

pub environment_within : (number : ℕ) → IsWithin 8 (environment_code number)
environment_within number = record { is = omega arith }

-- ---- temporaries

pub operand_within : (passed : ℕ) (hs : List Holding) (spare t : ℕ) → IsWithin 16 (operand_code passed hs spare t)
operand_within passed hs spare t = by (source_of hs t)
  where
    by : (s : Option Source) → IsWithin 16 (bring_code passed spare t s)
    by None = less_within 12 16 _ (omega arith) (load_within spare (slot_of passed t))
    by (Some (Register r)) = nothing_within 16
    by (Some (Number w)) = less_within 8 16 _ (omega arith) (number_within spare w)
    by (Some (Compared c)) = less_within 8 16 _ (omega arith) (verdict_within spare c)
    by (Some (ComparedWith n)) = numbered_within spare n

stored_within : (passed : ℕ) (hs : List Holding) (spare t : ℕ) → IsWithin 16 (stored_code passed hs spare t)
stored_within passed hs spare t = if_within 16 (is_zero (source_of hs t)) _ _ (nothing_within 16) (operand_within passed hs spare t)

pub test_within : (passed : ℕ) (hs : List Holding) (spare t : ℕ) → IsWithin 12 (test_ready passed hs spare t)
test_within passed hs spare t = by (source_of hs t)
  where
    by : (s : Option Source) → IsWithin 12 (ready_code passed spare t s)
    by None = load_within spare (slot_of passed t)
    by (Some (Register r)) = nothing_within 12
    by (Some (Number w)) = less_within 8 12 _ (omega arith) (number_within spare w)
    by (Some (Compared c)) = nothing_within 12
    by (Some (ComparedWith n)) = less_within 8 12 _ (omega arith) (number_within 7 n.number)

pub into_within : (passed : ℕ) (hs : List Holding) (to t : ℕ) → IsWithin 16 (into_code passed hs to t)
into_within passed hs to t = by (source_of hs t)
  where
    by : (s : Option Source) → IsWithin 16 (fetch_code passed to t s)
    by None = less_within 12 16 _ (omega arith) (load_within to (slot_of passed t))
    by (Some (Register r)) = if_within 16 (nat_eq r to) _ _ (nothing_within 16) (record { is = omega arith })
    by (Some (Number w)) = less_within 8 16 _ (omega arith) (number_within to w)
    by (Some (Compared c)) = less_within 8 16 _ (omega arith) (verdict_within to c)
    by (Some (ComparedWith n)) = numbered_within to n

pub keep_within : (keeps : Bool) (passed register t : ℕ) → IsWithin 12 (keep_code keeps passed register t)
keep_within keeps passed register t = if_within 12 keeps _ _ (save_within register (slot_of passed t)) (nothing_within 12)

number_kept_within : (keeps : Bool) (passed t w : ℕ) → IsWithin 64 (number_kept keeps passed t w)
number_kept_within keeps passed t w =
    if_within 64 keeps _ _
    (less_within 20 64 _ (omega arith)
    (both_within 8 12 (number_code 5 w) (save_code 5 (slot_of passed t)) (number_within 5 w) (save_within 5 (slot_of passed t))))
    (nothing_within 64)

verdict_kept_within : (keeps : Bool) (passed t : ℕ) (c : Comparison) → IsWithin 64 (verdict_kept keeps passed t c)
verdict_kept_within keeps passed t c =
    if_within 64 keeps _ _
    (less_within 20 64 _ (omega arith)
    (both_within 8 12 (verdict_code 5 c) (save_code 5 (slot_of passed t)) (verdict_within 5 c) (save_within 5 (slot_of passed t))))
    (nothing_within 64)

numbered_kept_within : (keeps : Bool) (passed t : ℕ) (n : NumberComparison) → IsWithin 64 (numbered_kept keeps passed t n)
numbered_kept_within keeps passed t n =
    if_within 64 keeps _ _
    (less_within 28 64 _ (omega arith)
    (both_within 16 12 (numbered_code 5 n) (save_code 5 (slot_of passed t)) (numbered_within 5 n) (save_within 5 (slot_of passed t))))
    (nothing_within 64)

move_within : (keeps : Bool) (passed own t x : ℕ) (s : Option Source) → IsWithin 64 (move_kept keeps passed own t x s)
move_within keeps passed own t x None =
    less_within 24 64 _ (omega arith)
    (both_within 12 12 (load_code own (slot_of passed x)) (keep_code keeps passed own t) (load_within own (slot_of passed x)) (keep_within keeps passed own t))
move_within keeps passed own t x (Some (Register r)) = less_within 12 64 _ (omega arith) (keep_within keeps passed r t)
move_within keeps passed own t x (Some (Number w)) = number_kept_within keeps passed t w
move_within keeps passed own t x (Some (Compared c)) = verdict_kept_within keeps passed t c
move_within keeps passed own t x (Some (ComparedWith n)) = numbered_kept_within keeps passed t n

-- ---- operations on words

binary_within : (o : Binary) (to left right : ℕ) → IsWithin 8 (binary_code o to left right)
binary_within Add to left right = record { is = omega arith }
binary_within Subtract to left right = record { is = omega arith }
binary_within Multiply to left right = record { is = omega arith }
binary_within Divide to left right = record { is = omega arith }
binary_within DivideUnsigned to left right = record { is = omega arith }
binary_within Remainder to left right = record { is = omega arith }
binary_within RemainderUnsigned to left right = record { is = omega arith }
binary_within And to left right = record { is = omega arith }
binary_within Or to left right = record { is = omega arith }
binary_within Xor to left right = record { is = omega arith }
binary_within ShiftLeft to left right = record { is = omega arith }
binary_within ShiftRight to left right = record { is = omega arith }
binary_within ShiftRightUnsigned to left right = record { is = omega arith }
binary_within Equal to left right = record { is = omega arith }
binary_within NotEqual to left right = record { is = omega arith }
binary_within Less to left right = record { is = omega arith }
binary_within LessEqual to left right = record { is = omega arith }
binary_within LessUnsigned to left right = record { is = omega arith }
binary_within LessEqualUnsigned to left right = record { is = omega arith }

abbrev if_some : Option (List Line) → List Line
if_some None = []
if_some (Some lines) = lines

some_within : (c : Bool) (lines : List Line) → IsWithin 8 lines → IsWithin 8 (if_some (if c then Some lines else None))
some_within true lines h = h
some_within false lines h = nothing_within 8

immediate_within : (o : Binary) (to left n : ℕ) → IsWithin 8 (if_some (immediate_code o to left n))
immediate_within Add to left n = some_within (is_short n) _ (record { is = omega arith })
immediate_within Subtract to left n = some_within (is_short (turned n)) _ (record { is = omega arith })
immediate_within Multiply to left n = nothing_within 8
immediate_within Divide to left n = nothing_within 8
immediate_within DivideUnsigned to left n = nothing_within 8
immediate_within Remainder to left n = nothing_within 8
immediate_within RemainderUnsigned to left n = nothing_within 8
immediate_within And to left n = some_within (is_short n) _ (record { is = omega arith })
immediate_within Or to left n = some_within (is_short n) _ (record { is = omega arith })
immediate_within Xor to left n = some_within (is_short n) _ (record { is = omega arith })
immediate_within ShiftLeft to left n = some_within (nat_lt n 32) _ (record { is = omega arith })
immediate_within ShiftRight to left n = some_within (nat_lt n 32) _ (record { is = omega arith })
immediate_within ShiftRightUnsigned to left n = some_within (nat_lt n 32) _ (record { is = omega arith })
immediate_within Equal to left zero = record { is = omega arith }
immediate_within Equal to left (suc n) = some_within (is_short (turned (suc n))) _ (record { is = omega arith })
immediate_within NotEqual to left zero = record { is = omega arith }
immediate_within NotEqual to left (suc n) = some_within (is_short (turned (suc n))) _ (record { is = omega arith })
immediate_within Less to left n = some_within (is_short n) _ (record { is = omega arith })
immediate_within LessEqual to left n = nothing_within 8
immediate_within LessUnsigned to left n = some_within (is_short n) _ (record { is = omega arith })
immediate_within LessEqualUnsigned to left n = nothing_within 8

immediate_for_within : (o : Binary) (to left : ℕ) (s : Option Source) → IsWithin 8 (if_some (immediate_for o to left s))
immediate_for_within o to left None = nothing_within 8
immediate_for_within o to left (Some (Register r)) = nothing_within 8
immediate_for_within o to left (Some (Number n)) = immediate_within o to left n
immediate_for_within o to left (Some (Compared c)) = nothing_within 8
immediate_for_within o to left (Some (ComparedWith n)) = nothing_within 8

-- ---- operations

-- one part that leaves its result in its temporary's register
result_within : (n : ℕ) (keeps : Bool) (u : Surroundings) (t : ℕ) (xs : List Line) → n ≤ 52 → IsWithin n xs → IsWithin 64 (xs ++ keep_result keeps u t)
result_within n keeps u t xs l h =
    less_within (n + 12) 64 _ (omega (arith, l)) (both_within n 12 xs (keep_result keeps u t) h (keep_within keeps u.passed (result_register t) t))

from_within : (u : Surroundings) (register t : ℕ) → IsWithin 12 (from_temp u register t)
from_within u register t = load_within register (slot_of u.passed t)

-- two temporaries are loaded
two_within : (u : Surroundings) (r t q v : ℕ) → IsWithin 24 (from_temp u r t ++ from_temp u q v)
two_within u r t q v = both_within 12 12 (from_temp u r t) (from_temp u q v) (from_within u r t) (from_within u q v)

-- an operand is taken, and two are
of_within : (u : Surroundings) (spare t : ℕ) → IsWithin 16 (operand u spare t)
of_within u spare t = operand_within u.passed u.held spare t

operands_within : (u : Surroundings) (x y : ℕ) → IsWithin 32 (operand u 5 x ++ operand u 6 y)
operands_within u x y = both_within 16 16 (operand u 5 x) (operand u 6 y) (of_within u 5 x) (of_within u 6 y)

-- an operand, and what is done with it
with_within : (n : ℕ) (u : Surroundings) (spare t : ℕ) (xs : List Line) → IsWithin n xs → IsWithin (16 + n) (operand u spare t ++ xs)
with_within n u spare t xs h = both_within 16 n (operand u spare t) xs (of_within u spare t) h

apply_within : (u : Surroundings) (o : Binary) (to x y : ℕ) → IsWithin 40 (apply_code u o to x y)
apply_within u o to x y =
    by (immediate_for o to (has_operand u 5 x) (source_of u.held y)) (immediate_for_within o to (has_operand u 5 x) (source_of u.held y))
  where
    by : (s : Option (List Line)) → IsWithin 8 (if_some s) → IsWithin 40 (both_code u o to x y s)
    by None h =
        both_within 32 8 (operand u 5 x ++ operand u 6 y) (binary_code o to (has_operand u 5 x) (has_operand u 6 y)) (operands_within u x y)
        (binary_within o to (has_operand u 5 x) (has_operand u 6 y))
    by (Some lines) h = less_within 24 40 _ (omega arith) (with_within 8 u 5 x lines h)

computed_within : (keeps : Bool) (u : Surroundings) (o : Binary) (t x y : ℕ) (compared : Option Comparison)
    → IsWithin 64 (computed_kept keeps u o t x y compared)
computed_within keeps u o t x y None =
    result_within 40 keeps u t (apply_code u o (result_register t) x y) (omega arith) (apply_within u o (result_register t) x y)
computed_within keeps u o t x y (Some c) = verdict_kept_within keeps u.passed t c

judged_within : (keeps : Bool) (u : Surroundings) (o : Binary) (t x y : ℕ) (told : Option NumberComparison) (compared : Option Comparison)
    → IsWithin 64 (judged_kept keeps u o t x y told compared)
judged_within keeps u o t x y None compared = computed_within keeps u o t x y compared
judged_within keeps u o t x y (Some n) compared = numbered_kept_within keeps u.passed t n

applied_within : (keeps : Bool) (u : Surroundings) (o : Binary) (t x y : ℕ) (same : Option ℕ) (told : Option NumberComparison) (compared : Option Comparison)
    → IsWithin 64 (applied_kept keeps u o t x y same told compared)
applied_within keeps u o t x y None told compared = judged_within keeps u o t x y told compared
applied_within keeps u o t x y (Some z) told compared = move_within keeps u.passed (result_register t) t z (source_of u.held z)

-- one whose result goes straight into a home
pub straight_within : (keeps : Bool) (u : Surroundings) (home : ℕ) (o : Operation) → IsWithin (64 * operation_count o) (straight_operation keeps u home o)
straight_within keeps u home (Apply o t x y) =
    less_within 52 64 _ (omega arith)
    (both_within 40 12 (apply_code u o home x y) (keep_code keeps u.passed home t) (apply_within u o home x y) (keep_within keeps u.passed home t))
straight_within keeps u home o = nothing_within _

times_within : (exponent : Option ℕ) (left bytes : ℕ) → IsWithin 12 (times_code exponent left bytes)
times_within None left bytes = both_within 8 4 (number_code 6 bytes) (Plain (instr.Mul 5 left 6) ∷ []) (number_within 6 bytes) (record { is = omega arith })
times_within (Some exponent) left bytes = record { is = omega arith }

element_within : (u : Surroundings) (to p i bytes : ℕ) → IsWithin 48 (element_code u to p i bytes)
element_within u to p i bytes =
    let product = operand u 5 i ++ times_code (exponent_of bytes) (has_operand u 5 i) bytes in
    if_within 48 (nat_eq bytes 1) _ _
    (less_within 36 48 _ (omega arith)
    (both_within 32 4 (operand u 5 i ++ operand u 6 p) (Plain (instr.Add to (has_operand u 5 i) (has_operand u 6 p)) ∷ []) (operands_within u i p)
    (record { is = omega arith })))
    (both_within 44 4 (product ++ operand u 6 p) (Plain (instr.Add to 5 (has_operand u 6 p)) ∷ [])
    (both_within 28 16 product (operand u 6 p)
    (with_within 12 u 5 i (times_code (exponent_of bytes) (has_operand u 5 i) bytes) (times_within (exponent_of bytes) (has_operand u 5 i) bytes))
    (of_within u 6 p)) (record { is = omega arith }))

copy_within : (b : Bool) → IsWithin 20 (copy_loop b)
copy_within true = record { is = omega arith }
copy_within false = record { is = omega arith }

clear_within : (b : Bool) → IsWithin 12 (clear_loop b)
clear_within true = record { is = omega arith }
clear_within false = record { is = omega arith }

-- a word into just one register
just_within : (u : Surroundings) (register t : ℕ) → IsWithin 16 (into_code u.passed u.held register t)
just_within u register t = into_within u.passed u.held register t

-- one part, and an answer of the environment
answer_within : (n : ℕ) (keeps : Bool) (u : Surroundings) (t : ℕ) (xs : List Line) → n ≤ 52 → IsWithin n xs → IsWithin 64 (xs ++ keep_answer keeps u t)
answer_within n keeps u t xs l h =
    less_within (n + 12) 64 _ (omega (arith, l)) (both_within n 12 xs (keep_answer keeps u t) h (keep_within keeps u.passed 10 t))

-- a request for a block takes the most
block_within : (keeps : Bool) (u : Surroundings) (t h n bytes : ℕ)
    → IsWithin 128 (into_code u.passed u.held 5 n ++ argument_code u h ++ bytes_code bytes ++ environment_code 5 ++ keep_answer keeps u t)
block_within keeps u t h n bytes =
    let count = into_code u.passed u.held 5 n in
    let handle = argument_code u h in
    less_within (32 + 28 + 8 + 12) 128 _ (omega arith)
    (both_within (32 + 28 + 8) 12 (count ++ handle ++ bytes_code bytes ++ environment_code 5) (keep_answer keeps u t)
    (both_within (32 + 28) 8 (count ++ handle ++ bytes_code bytes) (environment_code 5)
    (both_within 32 28 (count ++ handle) (bytes_code bytes) (both_within 16 16 count handle (just_within u 5 n) (just_within u 10 h))
    (record { is = omega arith })) (environment_within 5))
    (keep_within keeps u.passed 10 t))

-- a local's word comes from the frame, or is in its register
get_within : (keeps : Bool) (u : Surroundings) (home t width offset : ℕ) → IsWithin 64 (get_code keeps u home t width offset)
get_within keeps u zero t width offset =
    result_within 12 keeps u t (read_code (result_register t) width 2 offset) (omega arith) (read_within (result_register t) width 2 offset)
get_within keeps u (suc h) t width offset = less_within 12 64 _ (omega arith) (keep_within keeps u.passed (suc h) t)

put_within : (u : Surroundings) (home width offset x : ℕ) → IsWithin 64 (put_code u home width offset x)
put_within u zero width offset x =
    less_within 28 64 _ (omega arith)
    (both_within 16 12 (stored_code u.passed u.held 6 x) (write_code (stored_in u.held 6 x) width 2 offset) (stored_within u.passed u.held 6 x)
    (write_within (stored_in u.held 6 x) width 2 offset))
put_within u (suc h) width offset x =
    less_within 20 64 _ (omega arith)
    (if_within 20 (nat_eq width 1) (byte_code u (suc h) x) (into_code u.passed u.held (suc h) x)
    (with_within 4 u 6 x (Plain (instr.Andi (suc h) (has_operand u 6 x) (pos 255)) ∷ []) (record { is = omega arith }))
    (less_within 16 20 _ (omega arith) (into_within u.passed u.held (suc h) x)))

-- a call of the environment about what a temporary holds
about_within : (u : Surroundings) (t number : ℕ) → IsWithin 64 (argument_code u t ++ environment_code number)
about_within u t number =
    less_within (16 + 8) 64 _ (omega arith)
    (both_within 16 8 (argument_code u t) (environment_code number) (just_within u 10 t) (environment_within number))

narrow_within : (keeps : Bool) (u : Surroundings) (t x : ℕ) (known : Option ℕ) → IsWithin 64 (narrow_kept keeps u t x known)
narrow_within keeps u t x None =
    let line : List Line = Plain (instr.Andi (result_register t) (has_operand u 5 x) (pos 255)) ∷ [] in
    result_within 20 keeps u t (operand u 5 x ++ line) (omega arith) (with_within 4 u 5 x line (record { is = omega arith }))
narrow_within keeps u t x (Some w) = number_kept_within keeps u.passed t (w % 256)

null_within : (keeps : Bool) (u : Surroundings) (t p : ℕ) (known : Option Source) → IsWithin 64 (null_kept keeps u t p known)
null_within keeps u t p None =
    let line : List Line = Plain (instr.Sltiu (result_register t) (has_operand u 5 p) (pos 1)) ∷ [] in
    result_within 20 keeps u t (operand u 5 p ++ line) (omega arith) (with_within 4 u 5 p line (record { is = omega arith }))
null_within keeps u t p (Some s) = move_within keeps u.passed (result_register t) t p (Some s)

pub operation_within : (keeps : Bool) (u : Surroundings) (o : Operation) → IsWithin (64 * operation_count o) (operation_code keeps u o)
operation_within keeps u (Constant t w) = number_kept_within keeps u.passed t (w % 2 ^ 32)
operation_within keeps u (NullPointer t) = less_within 12 64 _ (omega arith) (keep_within keeps u.passed 0 t)
operation_within keeps u (Move t x) = move_within keeps u.passed (result_register t) t x (source_of u.held x)
operation_within keeps u (Narrow t x) = narrow_within keeps u t x (number_in (source_of u.held x))
operation_within keeps u (Apply o t x y) =
    applied_within keeps u o t x y (same_as o x y (source_of u.held x) (source_of u.held y)) (number_comparison_of o (source_of u.held x) (source_of u.held y))
    (comparison_of o (source_of u.held x) (source_of u.held y))
operation_within keeps u (LocalAddress t out local) =
    let offset = local_offset u out local in
    result_within 12 keeps u t (address_code (result_register t) offset) (omega arith) (address_within (result_register t) offset)
operation_within keeps u (OwnAddress t object) =
    let offset = nth u.own object in
    result_within 12 keeps u t (address_code (result_register t) offset) (omega arith) (address_within (result_register t) offset)
operation_within keeps u (DataAddress t object) = number_kept_within keeps u.passed t (data_base + nth u.statics object)
operation_within keeps u (Offset t p cells bytes) =
    let lines = further_code (result_register t) (has_operand u 5 p) bytes in
    result_within 28 keeps u t (operand u 5 p ++ lines) (omega arith)
    (with_within 12 u 5 p lines (further_within (result_register t) (has_operand u 5 p) bytes))
operation_within keeps u (Element t p i cells bytes) =
    result_within 48 keeps u t (element_code u (result_register t) p i (bytes % 2 ^ 32)) (omega arith)
    (element_within u (result_register t) p i (bytes % 2 ^ 32))
operation_within keeps u (Get t out local width) = get_within keeps u (local_home u out local) t width (local_offset u out local)
operation_within keeps u (Put out local width x) = put_within u (local_home u out local) width (local_offset u out local) x
operation_within keeps u (Load t p d) =
    let lines = read_code (result_register t) d.width (has_operand u 5 p) d.bytes in
    result_within 28 keeps u t (operand u 5 p ++ lines) (omega arith)
    (with_within 12 u 5 p lines (read_within (result_register t) d.width (has_operand u 5 p) d.bytes))
operation_within keeps u (Store p d x) =
    less_within 44 64 _ (omega arith)
    (both_within 32 12 (operand u 5 p ++ stored_code u.passed u.held 6 x) (write_code (stored_in u.held 6 x) d.width (has_operand u 5 p) d.bytes)
    (with_within 16 u 5 p (stored_code u.passed u.held 6 x) (stored_within u.passed u.held 6 x))
    (write_within (stored_in u.held 6 x) d.width (has_operand u 5 p) d.bytes))
operation_within keeps u (Copy to from layout) =
    if_within 64 (nat_eq layout.bytes 0) _ _ (nothing_within 64)
    (less_within (36 + 20) 64 _ (omega arith)
    (both_within 36 20 (from_temp u 5 to ++ from_temp u 6 from ++ further_code 7 5 layout.bytes) (copy_loop (are_words layout))
    (both_within 24 12 (from_temp u 5 to ++ from_temp u 6 from) (further_code 7 5 layout.bytes) (two_within u 5 to 6 from) (further_within 7 5 layout.bytes))
    (copy_within (are_words layout))))
operation_within keeps u (Clear p layout count) =
    if_within 64 (nat_eq (bytes_in layout count) 0) _ _ (nothing_within 64)
    (less_within (24 + 12) 64 _ (omega arith)
    (both_within 24 12 (from_temp u 5 p ++ further_code 7 5 (bytes_in layout count)) (clear_loop (are_words layout))
    (both_within 12 12 (from_temp u 5 p) (further_code 7 5 (bytes_in layout count)) (from_within u 5 p) (further_within 7 5 (bytes_in layout count)))
    (clear_within (are_words layout))))
operation_within keeps u (IsNull t p) = null_within keeps u t p (null_source (source_of u.held p))
operation_within keeps u (SamePlace t p q) =
    let lines = binary_code Equal (result_register t) (has_operand u 5 p) (has_operand u 6 q) in
    result_within 40 keeps u t (operand u 5 p ++ operand u 6 q ++ lines) (omega arith)
    (both_within 32 8 (operand u 5 p ++ operand u 6 q) lines (operands_within u p q) (record { is = omega arith }))
operation_within keeps u (Getchar t) = answer_within 8 keeps u t (environment_code 2) (omega arith) (environment_within 2)
operation_within keeps u (Putchar t x) =
    answer_within 24 keeps u t (argument_code u x ++ environment_code 1) (omega arith)
    (both_within 16 8 (argument_code u x) (environment_code 1) (just_within u 10 x) (environment_within 1))
operation_within keeps u (HeapHandle t) = number_kept_within keeps u.passed t 0
operation_within keeps u (RegionNew t) = answer_within 8 keeps u t (environment_code 4) (omega arith) (environment_within 4)
operation_within keeps u (RegionAlloc t h n layout) = block_within keeps u t h n layout.bytes
operation_within keeps u (RegionFree h) = about_within u h 6
operation_within keeps u (UniqueAlloc t layout) =
    let bytes = word_code 10 (layout.bytes % 2 ^ 32) in
    answer_within 16 keeps u t (bytes ++ environment_code 7) (omega arith)
    (both_within 8 8 bytes (environment_code 7) (record { is = omega arith }) (environment_within 7))
operation_within keeps u (UniqueFree p) = about_within u p 8
operation_within keeps u (KeyNew t) = answer_within 8 keeps u t (environment_code 9) (omega arith) (environment_within 9)
operation_within keeps u (KeyOpen k) = about_within u k 10
operation_within keeps u (KeyClose k) = about_within u k 11
operation_within keeps u (KeyFree k) = about_within u k 12
