-- How long lines are: those of each statement, function and program, by the operations that they are made from.
use Rattle.std.proofs.Common.{◌≡◌, ℕ, zero, suc, ◌+◌, ◌*◌, ◌/◌, ◌%◌, ◌^◌, ◌≤◌, nat_eq, Bool, true, false, nat_lt}
use Rattle.std.proofs.Common.{if◌then◌else◌, List, [], ◌∷◌, ◌++◌, length, refl, arith, length-append}
use Rattle.std.specs.Prelude.{pos, Option, Some, None, drop}
use Rattle.core_lines.specs.declared.comparison.Comparison.{Comparison}
use Rattle.core_lines.specs.Comparisons.{inverse, branch_if}
use Rattle.core_lines.specs.declared.line.Line.{Line}
use Rattle.cyc_words.specs.declared.faults.Kind.{Kind}
use Rattle.core_meaning.specs.Core.{Statement, Do, If, While, Block, Leave, Break, Continue, Call, Return, Raise, Statements, NoStatements}
use Rattle.core_meaning.specs.Core.{MoreStatements, Function, Program}
use Rattle.core_lines.specs.declared.line.Line.TheVariants.{Plain, Label, Jump, JumpUnless, BranchUnless, CallTo}
use Rattle.core_lines.specs.Lines.{code_length}
use Rattle.core_lines.specs.Frames.{is_short, slot_of, load_code, save_code, environment_code, stack_start_code, refusal_code, frame_code, saves_code}
use Rattle.core_lines.specs.Frames.{epilogue_code, raise_code}
use Rattle.core_lines.specs.Held.{Source, Register, Number, Compared, ComparedWith, Holding, source_of, number_in, without_register, held_behind}
use Rattle.core_lines.specs.Held.{held_behind_all}
use Rattle.core_lines.specs.Operands.{operand_in, operand_code, into_code, keep_code, pass_code, result_code, values_code, return_code}
use Rattle.core_lines.specs.Operands.{test_in, ready_code, test_ready, take_code, prologue_code}
use Rattle.core_lines.specs.Checks.{Failure, Always, ByTest, check_of, either_code, failure_code, tested_code, check_code, checked_code}
use Rattle.core_lines.specs.Choosing.{jump_unless, choice_code, between_code, behind_code}
use Rattle.core_lines.specs.Completing.{can_complete, can_complete_all, ends_in_return_all}
use Rattle.core_lines.specs.Parameters.{parameter_registers}
use Rattle.core_lines.specs.Saved.{results_in, results_all, live_at_start, saves_at}
use Rattle.core_lines.specs.Homes.{saved_slot, saved_by, flag_at}
use Rattle.core_lines.specs.Selected.{offsets_from, frame_bytes, datum_locals, Surroundings, labels_in, labels_of, names_after, names_after_all}
use Rattle.core_lines.proofs.Returning.{statements_jump_last, ended_shorter}
use Rattle.core_lines.specs.Selected.{naming, holding, within_block, statement_code, statements_code, around, labels_within, ended_code, function_code}
use Rattle.core_lines.specs.Selected.{functions_code, program_code, statements_behind, home_behind}
use Rattle.core_lines.specs.Straight.{straight_code}
use Rattle.core_lines.proofs.memory.Access.{length_of_both}
use Rattle.core_lines.proofs.homes.SavedFew.{ends_within}
use Rattle.core_meaning.specs.Bounds.{branch_count, statement_operations, operations_of, all_operations, core_code}
use Rattle.core_lines.proofs.OperationLengths.{IsWithin, both_within, less_within, if_within, nothing_within, load_within, save_within, operand_within}
use Rattle.core_lines.proofs.OperationLengths.{test_within, into_within, keep_within, operation_within, straight_within}
use Rattle.core_lines.proofs.Straight.{first_either, later_either}

-- ---- statements

pass_within : (passed : ℕ) (hs : List Holding) (k : ℕ) (ts : List ℕ) → IsWithin (28 * length ts) (pass_code passed hs k ts)
pass_within passed hs k [] = nothing_within 0
pass_within passed hs k (t ∷ ts) =
    less_within (28 + 28 * length ts) (28 * length (t ∷ ts)) _ (omega arith)
    (both_within 28 (28 * length ts) (operand_code passed hs 5 t ++ save_code (operand_in hs 5 t) (1 + k)) (pass_code passed hs (k + 1) ts)
    (both_within 16 12 (operand_code passed hs 5 t) (save_code (operand_in hs 5 t) (1 + k)) (operand_within passed hs 5 t)
    (save_within (operand_in hs 5 t) (1 + k)))
    (pass_within passed hs (k + 1) ts))

result_within : (flags : List Bool) (passed r : ℕ) (ts : List ℕ) → IsWithin (12 * length ts) (result_code flags passed r ts)
result_within flags passed r [] = nothing_within 0
result_within flags passed r (t ∷ ts) =
    less_within (12 + 12 * length ts) (12 * length (t ∷ ts)) _ (omega arith)
    (both_within 12 (12 * length ts) (keep_code (flag_at flags 0) passed (suc r) t) (result_code (drop 1 flags) passed (suc r) ts)
    (keep_within (flag_at flags 0) passed (suc r) t) (result_within (drop 1 flags) passed (suc r) ts))

values_within : (passed : ℕ) (hs : List Holding) (r : ℕ) (ts : List ℕ) → IsWithin (16 * length ts) (values_code passed hs r ts)
values_within passed hs r [] = nothing_within 0
values_within passed hs r (t ∷ ts) =
    let others = without_register (suc r) hs in
    less_within (16 + 16 * length ts) (16 * length (t ∷ ts)) _ (omega arith)
    (both_within 16 (16 * length ts) (into_code passed hs (suc r) t) (values_code passed others (suc r) ts) (into_within passed hs (suc r) t)
    (values_within passed others (suc r) ts))

-- a return counts for 64 bytes and 64 for each word: it has fewer
return_within : (passed : ℕ) (hs : List Holding) (ts : List ℕ) (exit : ℕ) → IsWithin (64 * (1 + length ts)) (return_code passed hs ts exit)
return_within passed hs ts exit =
    less_within (16 * length ts + 4) (64 * (1 + length ts)) _ (omega arith)
    (both_within (16 * length ts) 4 (values_code passed hs 9 ts) (Jump exit ∷ []) (values_within passed hs 9 ts) (record { is = omega arith }))

jump_within : (wide : ℕ → Bool) (comparison : Comparison) (label : ℕ) → IsWithin 8 (jump_unless wide comparison label ∷ [])
jump_within wide comparison label = by (wide label)
  where
    by : (b : Bool) → IsWithin 8 ((if b then JumpUnless comparison label else BranchUnless comparison label) ∷ [])
    by true = record { is = omega arith }
    by false = record { is = omega arith }

choice_within : (wide : ℕ → Bool) (passed : ℕ) (hs : List Holding) (t label : ℕ) → IsWithin 20 (choice_code wide passed hs t label)
choice_within wide passed hs t label =
    both_within 12 8 (test_ready passed hs 5 t) (jump_unless wide (test_in hs 5 t) label ∷ []) (test_within passed hs 5 t)
    (jump_within wide (test_in hs 5 t) label)

between_within : (completes : Bool) (those : Statements) (behind next : ℕ) → IsWithin 4 (between_code completes those behind next)
between_within completes NoStatements behind next = record { is = omega arith }
between_within true (MoreStatements s ss) behind next = record { is = omega arith }
between_within false (MoreStatements s ss) behind next = record { is = omega arith }

behind_within : (those : Statements) (behind : ℕ) → IsWithin 0 (behind_code those behind)
behind_within NoStatements behind = record { is = omega arith }
behind_within (MoreStatements s ss) behind = record { is = omega arith }

either_within : (passed : ℕ) (hs : List Holding) (t : ℕ) (first second : Kind) (number : Option ℕ)
    → IsWithin 40 (either_code passed hs t first second number)
either_within passed hs t first second (Some zero) = record { is = omega arith }
either_within passed hs t first second (Some (suc n)) = record { is = omega arith }
either_within passed hs t first second None =
    let branch : List Line = Plain (branch_if (inverse (test_in hs 5 t)) (pos 16)) ∷ [] in
    both_within 28 12 (test_ready passed hs 5 t ++ branch ++ raise_code first) (raise_code second)
    (both_within 16 12 (test_ready passed hs 5 t ++ branch) (raise_code first)
    (both_within 12 4 (test_ready passed hs 5 t) branch (test_within passed hs 5 t) (record { is = omega arith })) (record { is = omega arith }))
    (record { is = omega arith })

pub failure_within : (passed : ℕ) (hs : List Holding) (f : Failure) → IsWithin 40 (failure_code passed hs f)
failure_within passed hs (Always kind) = record { is = omega arith }
failure_within passed hs (ByTest t first second) = either_within passed hs t first second (number_in (source_of hs t))

-- each of its lines has four bytes
four_both : (first second : List Line) → code_length first ≡ 4 * length first → code_length second ≡ 4 * length second
    → code_length (first ++ second) ≡ 4 * length (first ++ second)
four_both first second a b = let n = length_of_both first second in let m = length-append first second in omega (arith, a, b, n, m)

four_if : (c : Bool) (first second : List Line) → code_length first ≡ 4 * length first → code_length second ≡ 4 * length second
    → code_length (if c then first else second) ≡ 4 * length (if c then first else second)
four_if true first second a b = a
four_if false first second a b = b

test_four : (passed : ℕ) (hs : List Holding) (t : ℕ) → code_length (test_ready passed hs 5 t) ≡ 4 * length (test_ready passed hs 5 t)
test_four passed hs t = by (source_of hs t)
  where
    by : (source : Option Source) → code_length (ready_code passed 5 t source) ≡ 4 * length (ready_code passed 5 t source)
    by None = four_if (is_short (4 * slot_of passed t)) _ _ refl refl
    by (Some (Register r)) = refl
    by (Some (Number n)) = four_if (is_short n) _ _ refl (four_if (nat_eq (n % 2 ^ 12) 0) _ _ refl refl)
    by (Some (Compared c)) = refl
    by (Some (ComparedWith n)) = four_if (is_short n.number) _ _ refl (four_if (nat_eq (n.number % 2 ^ 12) 0) _ _ refl refl)

either_four : (passed : ℕ) (hs : List Holding) (t : ℕ) (first second : Kind) (number : Option ℕ)
    → code_length (either_code passed hs t first second number) ≡ 4 * length (either_code passed hs t first second number)
either_four passed hs t first second (Some zero) = refl
either_four passed hs t first second (Some (suc n)) = refl
either_four passed hs t first second None =
    let branch : List Line = Plain (branch_if (inverse (test_in hs 5 t)) (pos 16)) ∷ [] in
    let ready = test_ready passed hs 5 t in
    four_both (ready ++ branch ++ raise_code first) (raise_code second)
    (four_both (ready ++ branch) (raise_code first) (four_both ready branch (test_four passed hs t) refl) refl) refl

pub failure_four : (passed : ℕ) (hs : List Holding) (f : Failure) → code_length (failure_code passed hs f) ≡ 4 * length (failure_code passed hs f)
failure_four passed hs (Always kind) = refl
failure_four passed hs (ByTest t first second) = either_four passed hs t first second (number_in (source_of hs t))

tested_within : (passed : ℕ) (hs : List Holding) (t : ℕ) (f : Failure) (number : Option ℕ) → IsWithin 56 (tested_code passed hs t f number)
tested_within passed hs t f None =
    let raising = failure_code passed hs f in
    let branch : List Line = Plain (branch_if (test_in hs 5 t) (pos (4 + code_length raising))) ∷ [] in
    both_within 16 40 (test_ready passed hs 5 t ++ branch) raising
    (both_within 12 4 (test_ready passed hs 5 t) branch (test_within passed hs 5 t) (record { is = omega arith })) (failure_within passed hs f)
tested_within passed hs t f (Some zero) = less_within 40 56 _ (omega arith) (failure_within passed hs f)
tested_within passed hs t f (Some (suc n)) = nothing_within 56

checked_within : (n passed : ℕ) (hs : List Holding) (t : ℕ) (check : Option Failure) (lines : List Line) → 56 ≤ n → IsWithin n lines
    → IsWithin n (checked_code passed hs t check lines)
checked_within n passed hs t None lines few is = is
checked_within n passed hs t (Some f) lines few is =
    less_within 56 n (check_code passed hs t f) few (tested_within passed hs t f (number_in (source_of hs t)))

-- an exception alone is three lines
branch_within : (flags : List Bool) (u : Surroundings) (next out again : ℕ) (ss : Statements) (n : ℕ)
    → IsWithin (64 * n) (statements_code flags u next out again ss) → IsWithin (12 + 64 * branch_count ss n) (statements_code flags u next out again ss)
branch_within flags u next out again (MoreStatements (Raise kind) NoStatements) n h = record { is = omega arith }
branch_within flags u next out again ss n h = less_within (64 * n) (12 + 64 * n) _ (omega arith) h

statement_straight : (keeps : Bool) (u : Surroundings) (home : ℕ) (s : Statement) → IsWithin (64 * statement_operations s) (straight_code keeps u home s)
statement_straight keeps u home (Do operation) = straight_within keeps u home operation
statement_straight keeps u home s = nothing_within _

mutual
  statement_within : (flags : List Bool) (u : Surroundings) (next out again : ℕ) (s : Statement)
      → IsWithin (64 * statement_operations s) (statement_code flags u next out again s)
  statement_within flags u next out again (Do operation) = operation_within (flag_at flags 0) u operation
  statement_within flags u next out again (If t these those) =
      let left = drop (results_all these) flags in
      let behind = next + 1 + labels_of these in
      let further = naming (names_after_all these u.names) u in
      let n = operations_of these in let m = operations_of those in
      let a = 12 + 64 * branch_count these n in let b = 12 + 64 * branch_count those m in
      let most = 64 * (1 + (branch_count these n + branch_count those m)) in
      checked_within most u.passed u.held t (check_of these those) _ (omega arith)
      (less_within (20 + a + 4 + b + 0) most _ (omega arith)
      (both_within (20 + a + 4 + b) 0 _ (behind_code those behind)
      (both_within (20 + a + 4) b _ (statements_code left further (behind + 1) out again those)
      (both_within (20 + a) 4 _ (between_code (can_complete_all these) those behind next)
      (both_within 20 a (choice_code u.wide u.passed u.held t next) (statements_code flags u (next + 1) out again these)
      (choice_within u.wide u.passed u.held t next) (branch_within flags u (next + 1) out again these n
      (statements_within flags u (next + 1) out again these))) (between_within (can_complete_all these) those behind next))
      (branch_within left further (behind + 1) out again those m (statements_within left further (behind + 1) out again those)))
      (behind_within those behind)))
  statement_within flags u next out again (While test t body) =
      let left = drop (results_all test) flags in
      let behind = next + 1 + labels_of test in
      let further = holding [] (naming (names_after_all test u.names) u) in
      let a = 64 * operations_of test in let b = 64 * operations_of body in
      less_within (0 + a + 20 + b + 4) (64 * (1 + (operations_of test + operations_of body))) _ (omega arith)
      (both_within (0 + a + 20 + b) 4 _ (Jump next ∷ Label behind ∷ [])
      (both_within (0 + a + 20) b _ (statements_code left further (behind + 1) behind next body)
      (both_within (0 + a) 20 _ (choice_code u.wide u.passed (held_behind_all u.homes u.statics [] test) t behind)
      (both_within 0 a (Label next ∷ []) (statements_code flags (holding [] u) (next + 1) out again test) (record { is = omega arith })
      (statements_within flags (holding [] u) (next + 1) out again test)) (choice_within u.wide u.passed (held_behind_all u.homes u.statics [] test) t behind))
      (statements_within left further (behind + 1) behind next body)) (record { is = omega arith }))
  statement_within flags u next out again (Block locals body) =
      less_within (64 * operations_of body) (64 * (1 + operations_of body)) _ (omega arith)
      (statements_within flags (within_block locals u) next out again body)
  statement_within flags u next out again (Leave body) =
      less_within (64 * operations_of body + 0) (64 * operations_of body) _ (omega arith)
      (both_within (64 * operations_of body) 0 (statements_code flags u (next + 1) next again body) (Label next ∷ [])
      (statements_within flags u (next + 1) next again body) (record { is = omega arith }))
  statement_within flags u next out again Break = record { is = omega arith }
  statement_within flags u next out again Continue = record { is = omega arith }
  statement_within flags u next out again (Call results number arguments) =
      less_within (28 * length arguments + 4 + 12 * length results) (64 * (1 + (length results + length arguments))) _ (omega arith)
      (both_within (28 * length arguments + 4) (12 * length results) (pass_code u.passed u.held 0 arguments ++ (CallTo number ∷ []))
      (result_code flags u.passed 9 results)
      (both_within (28 * length arguments) 4 (pass_code u.passed u.held 0 arguments) (CallTo number ∷ []) (pass_within u.passed u.held 0 arguments)
      (record { is = omega arith })) (result_within flags u.passed 9 results))
  statement_within flags u next out again (Return values) = return_within u.passed u.held values u.exit
  statement_within flags u next out again (Raise kind) = record { is = omega arith }

  statements_within : (flags : List Bool) (u : Surroundings) (next out again : ℕ) (ss : Statements)
      → IsWithin (64 * operations_of ss) (statements_code flags u next out again ss)
  statements_within flags u next out again NoStatements = nothing_within 0
  statements_within flags u next out again (MoreStatements s ss) =
      let left = drop (results_in s) flags in
      let v = holding (held_behind u.homes u.statics u.held s) (naming (names_after s u.names) u) in
      let home = home_behind u.homes u.held s ss in
      less_within (64 * statement_operations s + 64 * operations_of ss) (64 * (statement_operations s + operations_of ss)) _ (omega arith)
      (both_within (64 * statement_operations s) (64 * operations_of ss) _ _
      (first_either (IsWithin (64 * statement_operations s)) home (flag_at flags 0) u s _ (statement_within flags u next out again s)
      (statement_straight (flag_at flags 0) u home s))
      (if_within (64 * operations_of ss) (can_complete s) _ []
      (later_either (IsWithin (64 * operations_of ss)) home _ _ (statements_within left v (next + labels_in s) out again ss)
      (others_within left v (next + labels_in s) out again ss))
      (nothing_within (64 * operations_of ss))))

  others_within : (flags : List Bool) (u : Surroundings) (next out again : ℕ) (ss : Statements)
      → IsWithin (64 * operations_of ss) (statements_behind flags u next out again ss)
  others_within flags u next out again NoStatements = nothing_within 0
  others_within flags u next out again (MoreStatements s ss) =
      let v = holding (held_behind u.homes u.statics u.held s) (naming (names_after s u.names) u) in
      less_within (64 * operations_of ss) (64 * (statement_operations s + operations_of ss)) _ (omega arith)
      (if_within (64 * operations_of ss) (can_complete s) _ [] (statements_within (drop (results_in s) flags) v (next + labels_in s) out again ss)
      (nothing_within (64 * operations_of ss)))

-- ---- functions and programs

take_within : (bytes passed : ℕ) (start : List Bool) (registers : ℕ → ℕ) (k more : ℕ)
    → IsWithin (24 * more) (take_code bytes passed start registers k more)
take_within bytes passed start registers k zero = nothing_within 0
take_within bytes passed start registers k (suc more) =
    let load = load_code (registers k) (bytes / 4 + 1 + k) in
    let keep = keep_code (flag_at start k) passed (registers k) k in
    less_within (24 + 24 * more) (24 * suc more) _ (omega arith)
    (both_within 24 (24 * more) (load ++ keep) (take_code bytes passed start registers (k + 1) more)
    (both_within 12 12 load keep (load_within (registers k) (bytes / 4 + 1 + k)) (keep_within (flag_at start k) passed (registers k) k))
    (take_within bytes passed start registers (k + 1) more))

prologue_within : (refused bytes passed first : ℕ) (saved : List ℕ) (start : List Bool) (registers : ℕ → ℕ) (parameters : ℕ)
    → IsWithin (52 + code_length (saves_code first saved) + 24 * parameters) (prologue_code refused bytes passed first saved start registers parameters)
prologue_within refused bytes passed first saved start registers parameters =
    let s = code_length (saves_code first saved) in
    both_within (52 + s) (24 * parameters) (frame_code refused bytes ++ save_code 1 0 ++ saves_code first saved)
    (take_code bytes passed start registers 0 parameters)
    (both_within 52 s (frame_code refused bytes ++ save_code 1 0) (saves_code first saved)
    (both_within 40 12 (frame_code refused bytes) (save_code 1 0)
    (if_within 40 (nat_lt bytes 2048) _ _ (record { is = omega arith }) (record { is = omega arith }))
    (save_within 1 0))
    (record { is = omega arith }))
    (take_within bytes passed start registers 0 parameters)

function_within : (wide : ℕ → Bool) (statics : List ℕ) (refused number next : ℕ) (f : Function)
    → IsWithin (64 * (8 + (f.parameters + operations_of f.body))) (function_code wide statics refused number next f)
function_within wide statics refused number next f =
    let p = f.parameters in let o = operations_of f.body in
    let bytes = frame_bytes f in
    let prologue = prologue_code refused bytes f.passed (saved_slot f) (saved_by f) (live_at_start statics f) (parameter_registers f) p in
    let all = statements_code (saves_at statics f) (around wide statics next f) (next + 1) number number f.body in
    let returns = ends_in_return_all f.body in
    let body = ended_code returns all in
    let shorter = ended_shorter next returns all
    (statements_jump_last (saves_at statics f) (around wide statics next f) (next + 1) number number f.body) in
    let most = (statements_within (saves_at statics f) (around wide statics next f) (next + 1) number number f.body).is in
    let epilogue = epilogue_code bytes (saved_slot f) (saved_by f) in
    let first = 52 + code_length (saves_code (saved_slot f) (saved_by f)) + 24 * p in
    let last = code_length epilogue in
    let ends = ends_within f bytes in
    less_within (0 + first + 64 * o + 0 + last) (64 * (8 + (p + o))) _ (omega (arith, ends))
    (both_within (0 + first + 64 * o + 0) last ((Label number ∷ []) ++ prologue ++ body ++ (Label next ∷ [])) epilogue
    (both_within (0 + first + 64 * o) 0 ((Label number ∷ []) ++ prologue ++ body) (Label next ∷ [])
    (both_within (0 + first) (64 * o) ((Label number ∷ []) ++ prologue) body
    (both_within 0 first (Label number ∷ []) prologue (record { is = omega arith })
    (prologue_within refused bytes f.passed (saved_slot f) (saved_by f) (live_at_start statics f) (parameter_registers f) p))
    (record { is = omega (arith, shorter, most) })) (record { is = omega arith }))
    (record { is = omega arith }))

functions_within : (wide : ℕ → Bool) (statics : List ℕ) (refused number next : ℕ) (fs : List Function)
    → IsWithin (64 * all_operations fs) (functions_code wide statics refused number next fs)
functions_within wide statics refused number next [] = nothing_within 0
functions_within wide statics refused number next (f ∷ fs) =
    let o = 8 + (f.parameters + operations_of f.body) in
    less_within (64 * o + 64 * all_operations fs) (64 * (o + all_operations fs)) _ (omega arith)
    (both_within (64 * o) (64 * all_operations fs) (function_code wide statics refused number next f)
    (functions_code wide statics refused (number + 1) (next + labels_within f) fs)
    (function_within wide statics refused number next f)
    (functions_within wide statics refused (number + 1) (next + labels_within f) fs))

-- The lines of a program take no more bytes than its operations are counted for, whichever of its jumps are branches alone.
pub lines_within : (p : Program) (wide : ℕ → Bool) → code_length (program_code wide p) ≤ core_code p
lines_within p wide =
    let statics = offsets_from 0 (datum_locals p.data_objects) in
    let all = 64 * all_operations p.functions in
    let n = length p.functions in
    (less_within (28 + all) (core_code p) (program_code wide p) (omega arith)
    (both_within 28 all (stack_start_code ++ (CallTo p.main ∷ []) ++ environment_code 0 ++ (Label n ∷ []) ++ refusal_code)
    (functions_code wide statics n 0 (n + 1) p.functions) (record { is = omega arith }) (functions_within wide statics n 0 (n + 1) p.functions))).is
