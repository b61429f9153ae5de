-- Believed: how code comes by the words of temporaries, also in calls and returns: it loads them from their slots where they aren't known to be elsewhere. How
-- it saves them, and the first lines of a function.
use Rattle.std.specs.Prelude.{ℕ, zero, suc, pos, ◌+◌, ◌/◌, ◌%◌, ◌^◌, drop, Bool, List, [], ◌∷◌, ◌++◌, Option, Some, None, nat_eq, ◌&&◌, if◌then◌else◌}
use Rattle.rv32_isa.specs.declared.instruction.Instr.TheVariants.{Lui, Addi}
use Rattle.core_lines.specs.declared.line.Line.{Line}
use Rattle.core_lines.specs.declared.line.Line.TheVariants.{Plain, Jump, CallTo}
use Rattle.core_lines.specs.Frames.{upper_of, lower_of, is_short, word_code, load_code, save_code, slot_of, frame_code, saves_code}
use Rattle.core_lines.specs.Homes.{flag_at}
use Rattle.core_lines.specs.declared.comparison.Comparison.{Comparison}
use Rattle.core_lines.specs.declared.comparison.NumberComparison.{NumberComparison}
use Rattle.core_lines.specs.declared.comparison.Condition.TheVariants.{NotEqual}
use Rattle.core_lines.specs.Comparisons.{verdict_code}
use Rattle.core_lines.specs.Held.{Source, Register, Number, Compared, ComparedWith, Holding, source_of, is_zero, without_register}
use Rattle.core_lines.specs.Numbered.{has_room, short_on}

-- a word into a register: ADDI alone where the lower part is the word, LUI alone where there is none
abbrev pub number_code : ℕ → ℕ → List Line
number_code to w =
    (if is_short w then Plain (Addi to 0 (lower_of w)) ∷ [] else
    (if nat_eq (w % 2 ^ 12) 0 then Plain (Lui to (upper_of w)) ∷ [] else word_code to w))

-- 1 into a register where a comparison with a number holds, and else 0: the number stands in the instruction itself, if that has room for it, and else in x7
abbrev pub numbered_code : ℕ → NumberComparison → List Line
numbered_code to n =
    (if nat_eq n.comparison.right 7 && has_room n.comparison.condition n.number then short_on n.comparison.condition to n.comparison.left n.number else
    number_code 7 n.number ++ verdict_code to n.comparison)

-- ---- operands

-- the register that has an operand: where its word is known to be, and else a spare one
abbrev pub register_for : ℕ → Option Source → ℕ
register_for spare None = spare
register_for spare (Some (Register r)) = r
register_for spare (Some (Number w)) = spare
register_for spare (Some (Compared c)) = spare
register_for spare (Some (ComparedWith n)) = spare

abbrev pub operand_in : List Holding → ℕ → ℕ → ℕ
operand_in hs spare t = register_for spare (source_of hs t)

-- what puts it there
abbrev pub bring_code : (passed : ℕ) → ℕ → ℕ → Option Source → List Line
bring_code passed spare t None = load_code spare (slot_of passed t)
bring_code passed spare t (Some (Register r)) = []
bring_code passed spare t (Some (Number w)) = number_code spare w
bring_code passed spare t (Some (Compared c)) = verdict_code spare c
bring_code passed spare t (Some (ComparedWith n)) = numbered_code spare n

abbrev pub operand_code : (passed : ℕ) → List Holding → ℕ → ℕ → List Line
operand_code passed hs spare t = bring_code passed spare t (source_of hs t)

-- The register of a word that is stored: x0 where it is known to be 0, which needs no code.
abbrev pub stored_in : List Holding → ℕ → ℕ → ℕ
stored_in hs spare t = (if is_zero (source_of hs t) then 0 else operand_in hs spare t)

abbrev pub stored_code : (passed : ℕ) → List Holding → ℕ → ℕ → List Line
stored_code passed hs spare t = (if is_zero (source_of hs t) then [] else operand_code passed hs spare t)

-- a register's word into another one
abbrev pub copied_code : ℕ → ℕ → List Line
copied_code to r = (if nat_eq r to then [] else Plain (Addi to r (pos 0)) ∷ [])

-- a temporary's word into just this register
abbrev pub fetch_code : (passed : ℕ) → ℕ → ℕ → Option Source → List Line
fetch_code passed to t None = load_code to (slot_of passed t)
fetch_code passed to t (Some (Register r)) = copied_code to r
fetch_code passed to t (Some (Number w)) = number_code to w
fetch_code passed to t (Some (Compared c)) = verdict_code to c
fetch_code passed to t (Some (ComparedWith n)) = numbered_code to n

abbrev pub into_code : (passed : ℕ) → List Holding → ℕ → ℕ → List Line
into_code passed hs to t = fetch_code passed to t (source_of hs t)

-- ---- tests

-- that a register's word isn't 0
abbrev pub is_some : ℕ → Comparison
is_some register = record { condition = NotEqual; left = register; right = 0 }

-- what a branch compares that tests a temporary: what its word is a comparison of, and else that word, in a register, with 0
abbrev pub test_for : ℕ → Option Source → Comparison
test_for spare None = is_some spare
test_for spare (Some (Register r)) = is_some r
test_for spare (Some (Number w)) = is_some spare
test_for spare (Some (Compared c)) = c
test_for spare (Some (ComparedWith n)) = n.comparison

abbrev pub test_in : List Holding → ℕ → ℕ → Comparison
test_in hs spare t = test_for spare (source_of hs t)

-- what stands before the branch
abbrev pub ready_code : (passed : ℕ) → ℕ → ℕ → Option Source → List Line
ready_code passed spare t None = load_code spare (slot_of passed t)
ready_code passed spare t (Some (Register r)) = []
ready_code passed spare t (Some (Number w)) = number_code spare w
ready_code passed spare t (Some (Compared c)) = []
ready_code passed spare t (Some (ComparedWith n)) = number_code 7 n.number

abbrev pub test_ready : (passed : ℕ) → List Holding → ℕ → ℕ → List Line
test_ready passed hs spare t = ready_code passed spare t (source_of hs t)

-- ---- what is saved

-- a result in a register, into its temporary's slot, if it is to be saved
abbrev pub keep_code : Bool → (passed : ℕ) → ℕ → ℕ → List Line
keep_code keeps passed register t = (if keeps then save_code register (slot_of passed t) else [])

-- a number that a temporary gets
abbrev pub number_kept : Bool → (passed : ℕ) → ℕ → ℕ → List Line
number_kept keeps passed t w = (if keeps then number_code 5 w ++ save_code 5 (slot_of passed t) else [])

-- a comparison's verdict that a temporary gets
abbrev pub verdict_kept : Bool → (passed : ℕ) → ℕ → Comparison → List Line
verdict_kept keeps passed t c = (if keeps then verdict_code 5 c ++ save_code 5 (slot_of passed t) else [])

-- the same of a comparison with a number
abbrev pub numbered_kept : Bool → (passed : ℕ) → ℕ → NumberComparison → List Line
numbered_kept keeps passed t n = (if keeps then numbered_code 5 n ++ save_code 5 (slot_of passed t) else [])

-- a temporary gets what another one has
abbrev pub move_kept : Bool → (passed : ℕ) → (own t x : ℕ) → Option Source → List Line
move_kept keeps passed own t x None = load_code own (slot_of passed x) ++ keep_code keeps passed own t
move_kept keeps passed own t x (Some (Register r)) = keep_code keeps passed r t
move_kept keeps passed own t x (Some (Number w)) = number_kept keeps passed t w
move_kept keeps passed own t x (Some (Compared c)) = verdict_kept keeps passed t c
move_kept keeps passed own t x (Some (ComparedWith n)) = numbered_kept keeps passed t n

-- ---- calls and returns

-- temporaries into slots from one on, which are a callee's words
abbrev pub pass_code : (passed : ℕ) → List Holding → ℕ → List ℕ → List Line
pass_code passed hs k [] = []
pass_code passed hs k (t ∷ ts) = operand_code passed hs 5 t ++ save_code (operand_in hs 5 t) (1 + k) ++ pass_code passed hs (k + 1) ts

-- results come in the registers behind x9; these flags say in turn which are saved
abbrev pub result_code : List Bool → (passed : ℕ) → ℕ → List ℕ → List Line
result_code flags passed r [] = []
result_code flags passed r (t ∷ ts) = keep_code (flag_at flags 0) passed (suc r) t ++ result_code (drop 1 flags) passed (suc r) ts

-- the label of a function is its number
abbrev pub call_code : List Bool → (passed : ℕ) → List Holding → List ℕ → ℕ → List ℕ → List Line
call_code flags passed hs results f arguments = pass_code passed hs 0 arguments ++ (CallTo f ∷ []) ++ result_code flags passed 9 results

-- a function's results into the registers behind one; what a register had before isn't known any more
abbrev pub values_code : (passed : ℕ) → List Holding → ℕ → List ℕ → List Line
values_code passed hs r [] = []
values_code passed hs r (t ∷ ts) = into_code passed hs (suc r) t ++ values_code passed (without_register (suc r) hs) (suc r) ts

-- and on to where the function ends
abbrev pub return_code : (passed : ℕ) → List Holding → List ℕ → ℕ → List Line
return_code passed hs values exit = values_code passed hs 9 values ++ (Jump exit ∷ [])

-- ---- the start of a function

-- each parameter's word, from the caller's frame above into its register; those that are flagged are saved
abbrev pub take_code : ℕ → (passed : ℕ) → List Bool → (registers : ℕ → ℕ) → ℕ → ℕ → List Line
take_code bytes passed start registers k zero = []
take_code bytes passed start registers k (suc more) =
    load_code (registers k) (bytes / 4 + 1 + k) ++ keep_code (flag_at start k) passed (registers k) k ++ take_code bytes passed start registers (k + 1) more

abbrev pub prologue_code : (refused : ℕ) → ℕ → (passed : ℕ) → ℕ → List ℕ → List Bool → (registers : ℕ → ℕ) → ℕ → List Line
prologue_code refused bytes passed first saved start registers parameters =
    frame_code refused bytes ++ save_code 1 0 ++ saves_code first saved ++ take_code bytes passed start registers 0 parameters
