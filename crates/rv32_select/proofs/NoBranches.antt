-- In the lines of a program in which each label may be out of a branch's reach, no conditional jump is a branch alone.
use Rattle.std.proofs.Common.{◌≡◌, ℕ, ◌+◌, Bool, true, false, List, [], ◌∷◌, ◌++◌, length, refl, sym, subst}
use Rattle.std.specs.Prelude.{Option, Some, None, drop, if◌then◌else◌}
use Rattle.std.proofs.lemmas.Bool.{false≢true}
use Rattle.core_meaning.specs.Core.{
  Statement,
  Do,
  If,
  While,
  Block,
  Leave,
  Break,
  Continue,
  Call,
  Return,
  Raise,
  Statements,
  NoStatements,
  MoreStatements,
  Function,
  Program,
}
use Rattle.core_lines.specs.declared.line.Line.{Line}
use Rattle.core_lines.specs.declared.line.Line.TheVariants.{Plain, Label, Jump, JumpUnless, BranchUnless, CallTo}
use Rattle.core_lines.specs.Relaxed.{targets}
use Rattle.core_lines.specs.Frames.{epilogue_code}
use Rattle.core_lines.specs.Homes.{saved_by, saved_slot, flag_at}
use Rattle.core_lines.specs.Held.{Holding, held_behind, held_behind_all}
use Rattle.core_lines.specs.Operands.{test_in, test_ready, call_code, return_code, prologue_code}
use Rattle.core_lines.specs.Checks.{Failure, check_of, check_code, checked_code}
use Rattle.core_lines.specs.Choosing.{far, choice_code, between_code, behind_code}
use Rattle.core_lines.specs.Completing.{can_complete, can_complete_all, ends_in_return_all}
use Rattle.core_lines.specs.Parameters.{parameter_registers}
use Rattle.core_lines.specs.Saved.{results_in, results_all, live_at_start, saves_at}
use Rattle.core_lines.specs.Selected.{Surroundings, operation_code, labels_in, labels_of, labels_within, holding, naming, names_after, names_after_all}
use Rattle.core_lines.specs.Selected.{within_block, statement_code, statements_code, frame_bytes, around, ended_code, function_code, functions_code}
use Rattle.core_lines.specs.Selected.{program_code, statements_behind, home_behind, first_code, later_code}
use Rattle.core_lines.specs.Straight.{straight_code}
use Rattle.core_lines.specs.Selected.{offsets_from, datum_locals}
use Rattle.core_lines.proofs.labels.NoTargets.{check_none, operation_none, test_none, between_none, behind_none, call_none, return_none}
use Rattle.core_lines.proofs.labels.NoTargets.{prologue_none, epilogue_none, straight_none}
use Rattle.core_lines.proofs.Straight.{first_either, later_either}
use Rattle.core_lines.proofs.Returning.{statements_jump_last, ended}
use Rattle.rv32_select.specs.Beginning.{are_long}

both : (first second : List Line) → are_long first ≡ true → are_long second ≡ true → are_long (first ++ second) ≡ true
both [] second a b = b
both (Plain instr ∷ first) second a b = both first second a b
both (Label label ∷ first) second a b = both first second a b
both (Jump label ∷ first) second a b = both first second a b
both (JumpUnless comparison label ∷ first) second a b = both first second a b
both (BranchUnless comparison label ∷ first) second a b = absurd (false≢true a)
both (CallTo label ∷ first) second a b = both first second a b

first_long : (first second : List Line) → are_long (first ++ second) ≡ true → are_long first ≡ true
first_long [] second is = refl
first_long (Plain instr ∷ first) second is = first_long first second is
first_long (Label label ∷ first) second is = first_long first second is
first_long (Jump label ∷ first) second is = first_long first second is
first_long (JumpUnless comparison label ∷ first) second is = first_long first second is
first_long (BranchUnless comparison label ∷ first) second is = is
first_long (CallTo label ∷ first) second is = first_long first second is

three : (a b c : List Line) → are_long a ≡ true → are_long b ≡ true → are_long c ≡ true → are_long (a ++ b ++ c) ≡ true
three a b c p q r = both (a ++ b) c (both a b p q) r

five : (a b c d e : List Line) → are_long a ≡ true → are_long b ≡ true → are_long c ≡ true → are_long d ≡ true → are_long e ≡ true
    → are_long (a ++ b ++ c ++ d ++ e) ≡ true
five a b c d e p q r s t = three (a ++ b ++ c) d e (three a b c p q r) s t

-- a branch alone is a conditional jump
none_long : (lines : List Line) → targets lines ≡ [] → are_long lines ≡ true
none_long [] none = refl
none_long (Plain instr ∷ lines) none = none_long lines none
none_long (Label label ∷ lines) none = none_long lines none
none_long (Jump label ∷ lines) none = none_long lines none
none_long (JumpUnless comparison label ∷ lines) none = absurd cc
none_long (BranchUnless comparison label ∷ lines) none = absurd cc
none_long (CallTo label ∷ lines) none = none_long lines none

choice_long : (wide : ℕ → Bool) (passed : ℕ) (hs : List Holding) (t label : ℕ) → wide ≡ far → are_long (choice_code wide passed hs t label) ≡ true
choice_long wide passed hs t label all =
    let ready = test_ready passed hs 5 t in
    subst (λ w. are_long (choice_code w passed hs t label) ≡ true) (sym all)
    (both ready (JumpUnless (test_in hs 5 t) label ∷ []) (none_long ready (test_none passed hs 5 t)) refl)

if_long : (reached : Bool) (lines : List Line) → are_long lines ≡ true → are_long (if reached then lines else []) ≡ true
if_long true lines is = is
if_long false lines is = refl

checked_long : (passed : ℕ) (hs : List Holding) (t : ℕ) (check : Option Failure) (lines : List Line) → are_long lines ≡ true
    → are_long (checked_code passed hs t check lines) ≡ true
checked_long passed hs t None lines is = is
checked_long passed hs t (Some f) lines is = none_long (check_code passed hs t f) (check_none passed hs t f)

mutual
  code_long : (flags : List Bool) (u : Surroundings) (next out again : ℕ) (s : Statement) → u.wide ≡ far
      → are_long (statement_code flags u next out again s) ≡ true
  code_long flags u next out again (Do operation) all = none_long (operation_code (flag_at flags 0) u operation) (operation_none (flag_at flags 0) u operation)
  code_long flags u next out again (If t these those) all =
      let left = drop (results_all these) flags in
      let behind = next + 1 + labels_of these in
      let later = naming (names_after_all these u.names) u in
      let choice = choice_code u.wide u.passed u.held t next in
      let first = statements_code flags u (next + 1) out again these in
      let turn = between_code (can_complete_all these) those behind next in
      let second = statements_code left later (behind + 1) out again those in
      checked_long u.passed u.held t (check_of these those) (choice ++ first ++ turn ++ second ++ behind_code those behind)
      (five choice first turn second (behind_code those behind)
      (choice_long u.wide u.passed u.held t next all) (codes_long flags u (next + 1) out again these all)
      (none_long (between_code (can_complete_all these) those behind next) (between_none (can_complete_all these) those behind next))
      (codes_long left later (behind + 1) out again those all) (none_long (behind_code those behind) (behind_none those behind)))
  code_long flags u next out again (While test t body) all =
      let left = drop (results_all test) flags in
      let behind = next + 1 + labels_of test in
      let later = holding [] (naming (names_after_all test u.names) u) in
      let held = held_behind_all u.homes u.statics [] test in
      five (Label next ∷ []) (statements_code flags (holding [] u) (next + 1) out again test) (choice_code u.wide u.passed held t behind)
      (statements_code left later (behind + 1) behind next body) (Jump next ∷ Label behind ∷ []) refl
      (codes_long flags (holding [] u) (next + 1) out again test all) (choice_long u.wide u.passed held t behind all)
      (codes_long left later (behind + 1) behind next body all) refl
  code_long flags u next out again (Block locals body) all = codes_long flags (within_block locals u) next out again body all
  code_long flags u next out again (Leave body) all =
      both (statements_code flags u (next + 1) next again body) (Label next ∷ []) (codes_long flags u (next + 1) next again body all) refl
  code_long flags u next out again Break all = refl
  code_long flags u next out again Continue all = refl
  code_long flags u next out again (Call results f arguments) all =
      none_long (call_code flags u.passed u.held results f arguments) (call_none flags u.passed u.held results f arguments)
  code_long flags u next out again (Return values) all = none_long (return_code u.passed u.held values u.exit) (return_none u.passed u.held values u.exit)
  code_long flags u next out again (Raise kind) all = refl

  codes_long : (flags : List Bool) (u : Surroundings) (next out again : ℕ) (ss : Statements) → u.wide ≡ far
      → are_long (statements_code flags u next out again ss) ≡ true
  codes_long flags u next out again NoStatements all = refl
  codes_long flags u next out again (MoreStatements s ss) all =
      let left = drop (results_in s) flags in
      let later = holding (held_behind u.homes u.statics u.held s) (naming (names_after s u.names) u) in
      let home = home_behind u.homes u.held s ss in
      let keeps = flag_at flags 0 in
      let one = statement_code flags u next out again s in
      let all_lines = statements_code left later (next + labels_in s) out again ss in
      let others = statements_behind left later (next + labels_in s) out again ss in
      both (first_code home keeps u s one) (if can_complete s then later_code home all_lines others else [])
      (first_either (λ ls. are_long ls ≡ true) home keeps u s one (code_long flags u next out again s all)
      (none_long (straight_code keeps u home s) (straight_none keeps u home s)))
      (if_long (can_complete s) (later_code home all_lines others)
      (later_either (λ ls. are_long ls ≡ true) home all_lines others (codes_long left later (next + labels_in s) out again ss all)
      (behind_long left later (next + labels_in s) out again ss all)))

  behind_long : (flags : List Bool) (u : Surroundings) (next out again : ℕ) (ss : Statements) → u.wide ≡ far
      → are_long (statements_behind flags u next out again ss) ≡ true
  behind_long flags u next out again NoStatements all = refl
  behind_long flags u next out again (MoreStatements s ss) all =
      let left = drop (results_in s) flags in
      let later = holding (held_behind u.homes u.statics u.held s) (naming (names_after s u.names) u) in
      if_long (can_complete s) (statements_code left later (next + labels_in s) out again ss) (codes_long left later (next + labels_in s) out again ss all)

function_long : (statics : List ℕ) (refused number next : ℕ) (f : Function) → are_long (function_code far statics refused number next f) ≡ true
function_long statics refused number next f =
    let bytes = frame_bytes f in
    let start = live_at_start statics f in
    let flags = saves_at statics f in
    let prologue = prologue_code refused bytes f.passed (saved_slot f) (saved_by f) start (parameter_registers f) f.parameters in
    let all = statements_code flags (around far statics next f) (next + 1) number number f.body in
    let returns = ends_in_return_all f.body in
    let body = ended_code returns all in
    let epilogue = epilogue_code bytes (saved_slot f) (saved_by f) in
    five (Label number ∷ []) prologue body (Label next ∷ []) epilogue refl
    (none_long prologue (prologue_none refused bytes f.passed (saved_slot f) (saved_by f) start (parameter_registers f) f.parameters))
    (ended (λ less lines. are_long lines ≡ true → are_long less ≡ true) next (λ lines is. is)
    (λ before is. first_long before (Jump next ∷ []) is) returns all
    (statements_jump_last flags (around far statics next f) (next + 1) number number f.body)
    (codes_long flags (around far statics next f) (next + 1) number number f.body refl)) refl
    (none_long epilogue (epilogue_none bytes (saved_slot f) (saved_by f)))

functions_long : (statics : List ℕ) (refused number next : ℕ) (fs : List Function)
    → are_long (functions_code far statics refused number next fs) ≡ true
functions_long statics refused number next [] = refl
functions_long statics refused number next (f ∷ fs) =
    both (function_code far statics refused number next f) (functions_code far statics refused (number + 1) (next + labels_within f) fs)
    (function_long statics refused number next f) (functions_long statics refused (number + 1) (next + labels_within f) fs)

pub program_long : (p : Program) (lines : List Line) → lines ≡ program_code far p → are_long lines ≡ true
program_long p lines same =
    let n = length p.functions in
    let functions = functions_long (offsets_from 0 (datum_locals p.data_objects)) n 0 (n + 1) p.functions in
    subst (λ ls. are_long ls ≡ true) (sym same) functions
