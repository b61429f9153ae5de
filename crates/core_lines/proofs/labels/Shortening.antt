-- What is said of each conditional jump of a program can be said of its label: the lines that are shortened so are those that the program has where
-- these labels are out of reach. So a machine that has them does what the program does.
use Rattle.std.specs.Prelude.{nat_eq, length, drop, if◌then◌else◌}
use Rattle.std.specs.List.{All}
use Rattle.std.proofs.Common.{◌≡◌, ℕ, zero, suc, ◌+◌, Bool, true, false, List, [], ◌∷◌, ◌++◌, Option, Some, None, refl, sym, ap, ◌∙◌, subst, arith}
use Rattle.std.proofs.lemmas.Bool.{eq-eqb}
use Rattle.std.proofs.lemmas.List.Elements.{All-head, All-tail}
use Rattle.core_meaning.specs.Core.{Binary, Operation, Statement, Do, If, While, Block, Leave, Break, Continue, Call, Return, Raise, Statements, NoStatements}
use Rattle.core_meaning.specs.Core.{MoreStatements, Function, Program}
use Rattle.core_lines.specs.declared.line.Line.{Line}
use Rattle.core_lines.specs.declared.line.Line.TheVariants.{Plain, Label, Jump, JumpUnless, BranchUnless, CallTo}
use Rattle.core_meaning.specs.Core.{
  Constant,
  NullPointer,
  Move,
  Narrow,
  Apply,
  LocalAddress,
  OwnAddress,
  DataAddress,
  Offset,
  Element,
  Get,
  Put,
  Load,
  Store,
  Copy,
  Clear,
  IsNull,
  SamePlace,
  Getchar,
  Putchar,
  HeapHandle,
  RegionNew,
  RegionAlloc,
  RegionFree,
  UniqueAlloc,
  UniqueFree,
  KeyNew,
  KeyOpen,
  KeyClose,
  KeyFree,
}
use Rattle.core_lines.specs.Lines.{AreOnce}
use Rattle.core_lines.specs.Frames.{environment_code, raise_code, stack_start_code, refusal_code, epilogue_code}
use Rattle.core_lines.specs.Homes.{saved_by, saved_slot, flag_at}
use Rattle.core_lines.specs.Held.{Source, Holding, held_behind, held_behind_all, source_of, result_register, same_as, comparison_of, number_comparison_of}
use Rattle.core_lines.specs.Held.{null_source}
use Rattle.core_lines.specs.declared.comparison.Comparison.{Comparison}
use Rattle.core_lines.specs.declared.comparison.NumberComparison.{NumberComparison}
use Rattle.core_lines.specs.Operands.{test_in, test_ready, keep_code, call_code, return_code, prologue_code}
use Rattle.core_lines.specs.Checks.{Failure, check_of, check_code, checked_code}
use Rattle.core_lines.specs.Choosing.{far, jump_unless, choice_code, between_code, behind_code}
use Rattle.core_lines.specs.Completing.{can_complete, can_complete_all, ends_in_return_all}
use Rattle.core_lines.specs.Parameters.{parameter_registers}
use Rattle.core_lines.specs.Saved.{results_in, results_all, live_at_start, saves_at}
use Rattle.core_lines.specs.Selected.{Surroundings, frame_bytes, offsets_from, datum_locals, local_home, local_offset, immediate_for, has_operand, both_code}
use Rattle.core_lines.specs.Selected.{number_in, keep_result, narrow_kept, null_kept, applied_kept, get_code, put_code, operation_code, labels_in, labels_of}
use Rattle.core_lines.specs.Selected.{labels_within, holding, naming, names_after, names_after_all, within_block, statement_code, statements_code, around}
use Rattle.core_lines.specs.Selected.{ended_code, function_code, functions_code, program_code, statements_behind, home_behind, first_code, later_code}
use Rattle.core_lines.specs.Straight.{straight_operation, straight_code}
use Rattle.core_lines.proofs.labels.NoTargets.{straight_none}
use Rattle.core_meaning.specs.Selectable.{IsSelectable}
use Rattle.core_lines.specs.Running.{DoesAsCore}
use Rattle.core_lines.proofs.labels.NoTargets.{test_none, operation_none, check_none, between_none, behind_none, call_none, return_none}
use Rattle.core_lines.proofs.labels.NoTargets.{epilogue_none, prologue_none}
use Rattle.core_lines.proofs.labels.TargetsOnce.{program_targets_once}
use Rattle.core_lines.proofs.Returning.{ended_short}
use Rattle.core_lines.proofs.DoesAsCore.{lines_do_as_core}
use Rattle.core_lines.specs.Relaxed.{shortened, shorten_to, shortened_to, wide_to, targets}

-- where no two go to one label, both say the same
same_where : (f g : ℕ → Bool) (lines : List Line) → All (λ label. f label ≡ g label) (targets lines) → shortened_to f lines ≡ shortened_to g lines
same_where f g [] same = refl
same_where f g (Plain instr ∷ lines) same = ap (λ ls. Plain instr ∷ ls) (same_where f g lines same)
same_where f g (Label l ∷ lines) same = ap (λ ls. Label l ∷ ls) (same_where f g lines same)
same_where f g (Jump l ∷ lines) same = ap (λ ls. Jump l ∷ ls) (same_where f g lines same)
same_where f g (JumpUnless comparison l ∷ lines) same =
    ap (λ b. (if b then JumpUnless comparison l else BranchUnless comparison l) ∷ shortened_to f lines)
    (All-head (λ label. f label ≡ g label) l (targets lines) same)
    ∙ ap (λ ls. (if g l then JumpUnless comparison l else BranchUnless comparison l) ∷ ls)
    (same_where f g lines (All-tail (λ label. f label ≡ g label) l (targets lines) same))
same_where f g (BranchUnless comparison l ∷ lines) same =
    ap (λ ls. BranchUnless comparison l ∷ ls) (same_where f g lines (All-tail (λ label. f label ≡ g label) l (targets lines) same))
same_where f g (CallTo l ∷ lines) same = ap (λ ls. CallTo l ∷ ls) (same_where f g lines same)

pub by_labels : (ws : List Bool) (lines : List Line) → length ws ≡ length lines → AreOnce (targets lines)
    → shortened ws lines ≡ shortened_to (wide_to ws lines) lines
by_labels [] [] same once = refl
by_labels [] (line ∷ lines) same once = absurd (omega (arith, same))
by_labels (w ∷ ws) [] same once = refl
by_labels (w ∷ ws) (Plain instr ∷ lines) same once = ap (λ ls. Plain instr ∷ ls) (by_labels ws lines (omega (arith, same)) once)
by_labels (w ∷ ws) (Label l ∷ lines) same once = ap (λ ls. Label l ∷ ls) (by_labels ws lines (omega (arith, same)) once)
by_labels (w ∷ ws) (Jump l ∷ lines) same once = ap (λ ls. Jump l ∷ ls) (by_labels ws lines (omega (arith, same)) once)
by_labels (w ∷ ws) (JumpUnless comparison l ∷ lines) same once =
    let wide : ℕ → Bool = λ label. if nat_eq l label then w else wide_to ws lines label in
    let here : w ≡ wide l = sym (ap (λ b. if b then w else wide_to ws lines l) (eq-eqb l l refl)) in
    ap (λ b. (if b then JumpUnless comparison l else BranchUnless comparison l) ∷ shortened ws lines) here
    ∙ ap (λ ls. (if wide l then JumpUnless comparison l else BranchUnless comparison l) ∷ ls)
    (by_labels ws lines (omega (arith, same)) once.1 ∙ same_where (wide_to ws lines) wide lines
    (Rattle.std.proofs.lemmas.List.Elements.All-weaker (λ other. nat_eq l other ≡ false) (λ label. wide_to ws lines label ≡ wide label)
    (λ label other. sym (ap (λ b. if b then w else wide_to ws lines label) other)) (targets lines) once.0))
by_labels (w ∷ ws) (BranchUnless comparison l ∷ lines) same once = ap (λ ls. BranchUnless comparison l ∷ ls) (by_labels ws lines (omega (arith, same)) once.1)
by_labels (w ∷ ws) (CallTo l ∷ lines) same once = ap (λ ls. CallTo l ∷ ls) (by_labels ws lines (omega (arith, same)) once)

-- ---- lines without such jumps stay

pub append_short : (wide : ℕ → Bool) (first second : List Line) → shortened_to wide (first ++ second) ≡ shortened_to wide first ++ shortened_to wide second
append_short wide [] second = refl
append_short wide (line ∷ first) second = ap (λ ls. shorten_to wide line ∷ ls) (append_short wide first second)

pub no_targets_stay : (wide : ℕ → Bool) (lines : List Line) → targets lines ≡ [] → shortened_to wide lines ≡ lines
no_targets_stay wide [] none = refl
no_targets_stay wide (Plain instr ∷ lines) none = ap (λ ls. Plain instr ∷ ls) (no_targets_stay wide lines none)
no_targets_stay wide (Label l ∷ lines) none = ap (λ ls. Label l ∷ ls) (no_targets_stay wide lines none)
no_targets_stay wide (Jump l ∷ lines) none = ap (λ ls. Jump l ∷ ls) (no_targets_stay wide lines none)
no_targets_stay wide (JumpUnless comparison l ∷ lines) none = absurd (cc none)
no_targets_stay wide (BranchUnless comparison l ∷ lines) none = absurd (cc none)
no_targets_stay wide (CallTo l ∷ lines) none = ap (λ ls. CallTo l ∷ ls) (no_targets_stay wide lines none)

-- ---- the code of a program

abbrev with_wide : (ℕ → Bool) → Surroundings → Surroundings
with_wide wide u = record u { wide = wide }

-- an operation's code doesn't depend on it
operation_same : (f g : ℕ → Bool) (keeps : Bool) (u : Surroundings) (o : Operation)
    → operation_code keeps (with_wide f u) o ≡ operation_code keeps (with_wide g u) o
operation_same f g keeps u (Constant t w) = refl
operation_same f g keeps u (NullPointer t) = refl
operation_same f g keeps u (Move t x) = refl
operation_same f g keeps u (Narrow t x) = by (number_in (source_of u.held x))
  where
    by : (known : Option ℕ) → narrow_kept keeps (with_wide f u) t x known ≡ narrow_kept keeps (with_wide g u) t x known
    by None = refl
    by (Some w) = refl
operation_same f g keeps u (Apply o t x y) =
    by (same_as o x y (source_of u.held x) (source_of u.held y)) (number_comparison_of o (source_of u.held x) (source_of u.held y))
    (comparison_of o (source_of u.held x) (source_of u.held y))
  where
    in_both : (lines : Option (List Line))
        → both_code (with_wide f u) o (result_register t) x y lines ≡ both_code (with_wide g u) o (result_register t) x y lines
    in_both None = refl
    in_both (Some lines) = refl

    by : (same : Option ℕ) (told : Option NumberComparison) (compared : Option Comparison)
        → applied_kept keeps (with_wide f u) o t x y same told compared ≡ applied_kept keeps (with_wide g u) o t x y same told compared
    by None (Some n) compared = refl
    by None None (Some c) = refl
    by None None None = ap (λ ls. ls ++ keep_result keeps u t) (in_both (immediate_for o (result_register t) (has_operand u 5 x) (source_of u.held y)))
    by (Some z) told compared = refl
operation_same f g keeps u (LocalAddress t out local) = refl
operation_same f g keeps u (OwnAddress t object) = refl
operation_same f g keeps u (DataAddress t object) = refl
operation_same f g keeps u (Offset t p cells bytes) = refl
operation_same f g keeps u (Element t p i cells bytes) = refl
operation_same f g keeps u (Load t p d) = refl
operation_same f g keeps u (Store p d x) = refl
operation_same f g keeps u (Copy to from layout) = refl
operation_same f g keeps u (Clear p layout count) = refl
operation_same f g keeps u (IsNull t p) = by (null_source (source_of u.held p))
  where
    by : (known : Option Source) → null_kept keeps (with_wide f u) t p known ≡ null_kept keeps (with_wide g u) t p known
    by None = refl
    by (Some s) = refl
operation_same f g keeps u (SamePlace t p q) = refl
operation_same f g keeps u (Getchar t) = refl
operation_same f g keeps u (Putchar t x) = refl
operation_same f g keeps u (HeapHandle t) = refl
operation_same f g keeps u (RegionNew t) = refl
operation_same f g keeps u (RegionAlloc t h n layout) = refl
operation_same f g keeps u (RegionFree h) = refl
operation_same f g keeps u (UniqueAlloc t layout) = refl
operation_same f g keeps u (UniqueFree p) = refl
operation_same f g keeps u (KeyNew t) = refl
operation_same f g keeps u (KeyOpen k) = refl
operation_same f g keeps u (KeyClose k) = refl
operation_same f g keeps u (KeyFree k) = refl
operation_same f g keeps u (Get t out local width) = by (local_home u out local)
  where
    by : (h : ℕ) → get_code keeps (with_wide f u) h t width (local_offset u out local) ≡ get_code keeps (with_wide g u) h t width (local_offset u out local)
    by zero = refl
    by (suc h) = refl
operation_same f g keeps u (Put out local width x) = by (local_home u out local)
  where
    by : (h : ℕ) → put_code (with_wide f u) h width (local_offset u out local) x ≡ put_code (with_wide g u) h width (local_offset u out local) x
    by zero = refl
    by (suc h) = refl

straight_same : (f g : ℕ → Bool) (keeps : Bool) (u : Surroundings) (home : ℕ) (s : Statement)
    → straight_code keeps (with_wide f u) home s ≡ straight_code keeps (with_wide g u) home s
straight_same f g keeps u home (Do operation) = by operation
  where
    of_both : (o : Binary) (x y : ℕ) (lines : Option (List Line))
        → both_code (with_wide f u) o home x y lines ≡ both_code (with_wide g u) o home x y lines
    of_both o x y None = refl
    of_both o x y (Some lines) = refl

    by : (operation : Operation) → straight_operation keeps (with_wide f u) home operation ≡ straight_operation keeps (with_wide g u) home operation
    by (Apply o t x y) = ap (λ ls. ls ++ keep_code keeps u.passed home t) (of_both o x y (immediate_for o home (has_operand u 5 x) (source_of u.held y)))
    by operation = refl
straight_same f g keeps u home s = refl

module _ (wide : ℕ → Bool) where
  both : (a b c d : List Line) → shortened_to wide a ≡ c → shortened_to wide b ≡ d → shortened_to wide (a ++ b) ≡ c ++ d
  both a b c d first second = append_short wide a b ∙ ap (λ ls. ls ++ shortened_to wide b) first ∙ ap (λ ls. c ++ ls) second

  if_short : (reached : Bool) (lines short : List Line) → shortened_to wide lines ≡ short
      → shortened_to wide (if reached then lines else []) ≡ (if reached then short else [])
  if_short true lines short is = is
  if_short false lines short is = refl

  first_short : (home : ℕ) (keeps : Bool) (u : Surroundings) (s : Statement) (lines short : List Line) → shortened_to wide lines ≡ short
      → shortened_to wide (first_code home keeps (with_wide far u) s lines) ≡ first_code home keeps (with_wide wide u) s short
  first_short zero keeps u s lines short is = is
  first_short (suc h) keeps u s lines short is =
      no_targets_stay wide (straight_code keeps (with_wide far u) (suc h) s) (straight_none keeps (with_wide far u) (suc h) s)
      ∙ straight_same far wide keeps u (suc h) s

  later_short : (home : ℕ) (all all' others others' : List Line) → shortened_to wide all ≡ all' → shortened_to wide others ≡ others'
      → shortened_to wide (later_code home all others) ≡ later_code home all' others'
  later_short zero all all' others others' is other = is
  later_short (suc h) all all' others others' is other = other

  choice_short : (passed : ℕ) (hs : List Holding) (t label : ℕ) → shortened_to wide (choice_code far passed hs t label) ≡ choice_code wide passed hs t label
  choice_short passed hs t label =
      let ready = test_ready passed hs 5 t in
      let test = test_in hs 5 t in
      both ready (jump_unless far test label ∷ []) ready (jump_unless wide test label ∷ []) (no_targets_stay wide ready (test_none passed hs 5 t)) refl

  checked_short : (passed : ℕ) (hs : List Holding) (t : ℕ) (check : Option Failure) (lines short : List Line) → shortened_to wide lines ≡ short
      → shortened_to wide (checked_code passed hs t check lines) ≡ checked_code passed hs t check short
  checked_short passed hs t None lines short is = is
  checked_short passed hs t (Some f) lines short is = no_targets_stay wide (check_code passed hs t f) (check_none passed hs t f)

  mutual
    statement_short : (flags : List Bool) (u : Surroundings) (next out again : ℕ) (s : Statement)
        → shortened_to wide (statement_code flags (with_wide far u) next out again s) ≡ statement_code flags (with_wide wide u) next out again s
    statement_short flags u next out again (Do operation) =
        no_targets_stay wide (operation_code (flag_at flags 0) (with_wide far u) operation) (operation_none (flag_at flags 0) (with_wide far u) operation)
        ∙ operation_same far wide (flag_at flags 0) u operation
    statement_short flags u next out again (If t these those) =
        let left = drop (results_all these) flags in
        let behind = next + 1 + labels_of these in
        let v = naming (names_after_all these u.names) u in
        let over = between_code (can_complete_all these) those behind next in
        let last = behind_code those behind in
        let a = choice_code far u.passed u.held t next in
        let a' = choice_code wide u.passed u.held t next in
        let b = statements_code flags (with_wide far u) (next + 1) out again these in
        let b' = statements_code flags (with_wide wide u) (next + 1) out again these in
        let c = statements_code left (with_wide far v) (behind + 1) out again those in
        let c' = statements_code left (with_wide wide v) (behind + 1) out again those in
        checked_short u.passed u.held t (check_of these those) ((((a ++ b) ++ over) ++ c) ++ last) ((((a' ++ b') ++ over) ++ c') ++ last)
        (both (((a ++ b) ++ over) ++ c) last (((a' ++ b') ++ over) ++ c') last
        (both ((a ++ b) ++ over) c ((a' ++ b') ++ over) c'
        (both (a ++ b) over (a' ++ b') over
        (both a b a' b' (choice_short u.passed u.held t next) (statements_short flags u (next + 1) out again these))
        (no_targets_stay wide over (between_none (can_complete_all these) those behind next)))
        (statements_short left v (behind + 1) out again those)) (no_targets_stay wide last (behind_none those behind)))
    statement_short flags u next out again (While test t body) =
        let left = drop (results_all test) flags in
        let behind = next + 1 + labels_of test in
        let v = holding [] (naming (names_after_all test u.names) u) in
        let held = held_behind_all u.homes u.statics [] test in
        let start : List Line = Label next ∷ [] in
        let last : List Line = Jump next ∷ Label behind ∷ [] in
        let a = statements_code flags (with_wide far (holding [] u)) (next + 1) out again test in
        let a' = statements_code flags (with_wide wide (holding [] u)) (next + 1) out again test in
        let b = choice_code far u.passed held t behind in
        let b' = choice_code wide u.passed held t behind in
        let c = statements_code left (with_wide far v) (behind + 1) behind next body in
        let c' = statements_code left (with_wide wide v) (behind + 1) behind next body in
        both (((start ++ a) ++ b) ++ c) last (((start ++ a') ++ b') ++ c') last
        (both ((start ++ a) ++ b) c ((start ++ a') ++ b') c'
        (both (start ++ a) b (start ++ a') b'
        (both start a start a' refl (statements_short flags (holding [] u) (next + 1) out again test))
        (choice_short u.passed held t behind))
        (statements_short left v (behind + 1) behind next body)) refl
    statement_short flags u next out again (Block locals body) = statements_short flags (within_block locals u) next out again body
    statement_short flags u next out again (Leave body) =
        both (statements_code flags (with_wide far u) (next + 1) next again body) (Label next ∷ [])
        (statements_code flags (with_wide wide u) (next + 1) next again body) (Label next ∷ [])
        (statements_short flags u (next + 1) next again body) refl
    statement_short flags u next out again Break = refl
    statement_short flags u next out again Continue = refl
    statement_short flags u next out again (Call results f arguments) =
        no_targets_stay wide (call_code flags u.passed u.held results f arguments) (call_none flags u.passed u.held results f arguments)
    statement_short flags u next out again (Return values) =
        no_targets_stay wide (return_code u.passed u.held values u.exit) (return_none u.passed u.held values u.exit)
    statement_short flags u next out again (Raise kind) = no_targets_stay wide (raise_code kind) refl

    statements_short : (flags : List Bool) (u : Surroundings) (next out again : ℕ) (ss : Statements)
        → shortened_to wide (statements_code flags (with_wide far u) next out again ss) ≡ statements_code flags (with_wide wide u) next out again ss
    statements_short flags u next out again NoStatements = refl
    statements_short flags u next out again (MoreStatements s ss) =
        let left = drop (results_in s) flags in
        let v = holding (held_behind u.homes u.statics u.held s) (naming (names_after s u.names) u) in
        let home = home_behind u.homes u.held s ss in
        let keeps = flag_at flags 0 in
        let one = statement_code flags (with_wide far u) next out again s in
        let one' = statement_code flags (with_wide wide u) next out again s in
        let all = statements_code left (with_wide far v) (next + labels_in s) out again ss in
        let all' = statements_code left (with_wide wide v) (next + labels_in s) out again ss in
        let others = statements_behind left (with_wide far v) (next + labels_in s) out again ss in
        let others' = statements_behind left (with_wide wide v) (next + labels_in s) out again ss in
        both (first_code home keeps (with_wide far u) s one) (if can_complete s then later_code home all others else [])
        (first_code home keeps (with_wide wide u) s one') (if can_complete s then later_code home all' others' else [])
        (first_short home keeps u s one one' (statement_short flags u next out again s))
        (if_short (can_complete s) (later_code home all others) (later_code home all' others')
        (later_short home all all' others others' (statements_short left v (next + labels_in s) out again ss)
        (behind_short left v (next + labels_in s) out again ss)))

    behind_short : (flags : List Bool) (u : Surroundings) (next out again : ℕ) (ss : Statements)
        → shortened_to wide (statements_behind flags (with_wide far u) next out again ss) ≡ statements_behind flags (with_wide wide u) next out again ss
    behind_short flags u next out again NoStatements = refl
    behind_short flags u next out again (MoreStatements s ss) =
        let left = drop (results_in s) flags in
        let v = holding (held_behind u.homes u.statics u.held s) (naming (names_after s u.names) u) in
        if_short (can_complete s) (statements_code left (with_wide far v) (next + labels_in s) out again ss)
        (statements_code left (with_wide wide v) (next + labels_in s) out again ss) (statements_short left v (next + labels_in s) out again ss)

  function_short : (statics : List ℕ) (refused number next : ℕ) (f : Function)
      → shortened_to wide (function_code far statics refused number next f) ≡ function_code wide statics refused number next f
  function_short statics refused number next f =
      let start = live_at_start statics f in
      let registers = parameter_registers f in
      let prologue = prologue_code refused (frame_bytes f) f.passed (saved_slot f) (saved_by f) start registers f.parameters in
      let front : List Line = (Label number ∷ []) ++ prologue in
      let leaves = epilogue_code (frame_bytes f) (saved_slot f) (saved_by f) in
      let exit : List Line = Label next ∷ [] in
      let returns = ends_in_return_all f.body in
      let all = statements_code (saves_at statics f) (around far statics next f) (next + 1) number number f.body in
      let a = ended_code returns all in
      let a' = ended_code returns (statements_code (saves_at statics f) (around wide statics next f) (next + 1) number number f.body) in
      both ((front ++ a) ++ exit) leaves ((front ++ a') ++ exit) leaves
      (both (front ++ a) exit (front ++ a') exit
      (both front a front a'
      (no_targets_stay wide front (prologue_none refused (frame_bytes f) f.passed (saved_slot f) (saved_by f) start registers f.parameters))
      (ended_short wide returns all
      ∙ ap (λ ls. ended_code returns ls) (statements_short (saves_at statics f) (around wide statics next f) (next + 1) number number f.body))) refl)
      (no_targets_stay wide leaves (epilogue_none (frame_bytes f) (saved_slot f) (saved_by f)))

  functions_short : (statics : List ℕ) (refused number next : ℕ) (fs : List Function)
      → shortened_to wide (functions_code far statics refused number next fs) ≡ functions_code wide statics refused number next fs
  functions_short statics refused number next [] = refl
  functions_short statics refused number next (f ∷ fs) =
      both (function_code far statics refused number next f) (functions_code far statics refused (number + 1) (next + labels_within f) fs)
      (function_code wide statics refused number next f) (functions_code wide statics refused (number + 1) (next + labels_within f) fs)
      (function_short statics refused number next f)
      (functions_short statics refused (number + 1) (next + labels_within f) fs)

  program_short : (p : Program) → shortened_to wide (program_code far p) ≡ program_code wide p
  program_short p =
      let n = length p.functions in
      let stub : List Line = stack_start_code ++ (CallTo p.main ∷ []) ++ environment_code 0 ++ (Label n ∷ []) ++ refusal_code in
      let statics = offsets_from 0 (datum_locals p.data_objects) in
      both stub (functions_code far statics n 0 (n + 1) p.functions) stub (functions_code wide statics n 0 (n + 1) p.functions) refl
      (functions_short statics n 0 (n + 1) p.functions)

-- However the conditional jumps of a program's lines are placed, a machine that begins with the lines so placed does what the program does.
pub shortened_do_as_core : (p : Program) → IsSelectable p → (ws : List Bool) → length ws ≡ length (program_code far p) → DoesAsCore p
    (shortened ws (program_code far p))
shortened_do_as_core p selectable ws same =
    let lines = program_code far p in
    let wide = wide_to ws lines in
    let is : shortened ws lines ≡ program_code wide p = by_labels ws lines same (program_targets_once far p) ∙ program_short wide p in
    subst (λ ls. DoesAsCore p ls) (sym is) (lines_do_as_core p wide selectable)
