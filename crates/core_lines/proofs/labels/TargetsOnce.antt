-- No two conditional jumps of a program go to one label.
use Rattle.std.proofs.Common.{Bool, ◌≡◌, ℕ, ◌+◌, ◌≤◌, ◌<◌, ◌⊎◌, inl, true, false, nat_eq, List, [], ◌∷◌, ◌++◌, refl}
use Rattle.std.proofs.Common.{sym, subst, arith}
use Rattle.std.specs.Prelude.{Option, Some, None, length, drop, if◌then◌else◌}
use Rattle.std.specs.List.{All}
use Rattle.std.proofs.lemmas.List.Elements.{All-nil, All-cons, All-head, All-tail, All-same, All-append, All-weaker}
use Rattle.std.proofs.lemmas.Bool.Decides.{nat_tests}
use Rattle.core_meaning.specs.Core.{Statement, Do, If, While, Block, Leave, Break, Continue, Call, Return, Raise, Statements, NoStatements}
use Rattle.core_meaning.specs.Core.{MoreStatements, Function, Program}
use Rattle.core_lines.specs.declared.line.Line.{Line}
use Rattle.core_lines.specs.declared.line.Line.TheVariants.{Label, Jump}
use Rattle.core_lines.specs.Lines.{AreOnce}
use Rattle.core_lines.specs.Relaxed.{targets}
use Rattle.core_lines.specs.Frames.{raise_code, epilogue_code}
use Rattle.core_lines.specs.Selected.{frame_bytes, Surroundings}
use Rattle.core_lines.specs.Held.{Holding, held_behind, held_behind_all}
use Rattle.core_lines.specs.Operands.{call_code, return_code, prologue_code}
use Rattle.core_lines.specs.Checks.{Failure, check_of, check_code, checked_code}
use Rattle.core_lines.specs.Choosing.{choice_code, between_code, behind_code}
use Rattle.core_lines.specs.Completing.{can_complete, can_complete_all, ends_in_return_all}
use Rattle.core_lines.specs.Parameters.{parameter_registers}
use Rattle.core_lines.specs.Saved.{results_in, results_all, live_at_start, saves_at}
use Rattle.core_lines.specs.Selected.{operation_code, labels_in, labels_of, labels_within, holding, naming, names_after, names_after_all, within_block}
use Rattle.core_lines.specs.Selected.{statement_code, statements_code, around, ended_code, function_code, functions_code, program_code}
use Rattle.core_lines.specs.Selected.{statements_behind, home_behind, later_code}
use Rattle.core_lines.specs.Straight.{straight_code}
use Rattle.core_lines.proofs.Straight.{first_either, later_either}
use Rattle.core_lines.proofs.labels.NoTargets.{straight_none}
use Rattle.core_lines.specs.Running.{data_offsets}
use Rattle.core_lines.specs.Homes.{saved_by, saved_slot, flag_at}
use Rattle.core_lines.proofs.labels.NoTargets.{check_none, targets_append, operation_none, choice_one, between_none, behind_none, call_none, return_none}
use Rattle.core_lines.proofs.Returning.{statements_jump_last, ended_targets}
use Rattle.core_lines.proofs.labels.NoTargets.{epilogue_none, prologue_none}

-- ---- lists of labels

-- those of two lists are each there once, where no label is in both
once_append : (first second : List ℕ) → AreOnce first → AreOnce second → All (λ label. All (λ other. nat_eq label other ≡ false) second) first
    → AreOnce (first ++ second)
once_append [] second a b apart = b
once_append (label ∷ first) second a b apart = (
  All-append (λ other. nat_eq label other ≡ false) first second a.0 (All-head (λ l. All (λ other. nat_eq l other ≡ false) second) label first apart),
  once_append first second a.1 b (All-tail (λ l. All (λ other. nat_eq l other ≡ false) second) label first apart),
)

-- the labels that lines place lie from one to another, and none is placed twice
pub record TargetsFrom (low high : ℕ) (lines : List Line) : Type 0 where
  pub within : All (λ label. (low ≤ label) × (label < high)) (targets lines)
  pub once : AreOnce (targets lines)

-- lines and those behind them, where all labels of the ones lie below those of the others, whichever come first
join : {a b c d : ℕ} {first second : List Line} (low high : ℕ) → TargetsFrom a b first → TargetsFrom c d second → low ≤ a → b ≤ high → low ≤ c → d ≤ high
    → (b ≤ c) ⊎ (d ≤ a) → TargetsFrom low high (first ++ second)
join {a} {b} {c} {d} {first} {second} low high these those from_low to_high also_from_low also_to_high apart =
    let both = targets_append first second in
    let wide : ℕ → Type 0 = λ label. (low ≤ label) × (label < high) in
    record {
      within = All-same wide (targets (first ++ second)) (targets first ++ targets second) both
          (All-append wide (targets first) (targets second)
          (All-weaker (λ label. (a ≤ label) × (label < b)) wide (λ label h. (omega arith, omega arith)) (targets first) these.within)
          (All-weaker (λ label. (c ≤ label) × (label < d)) wide (λ label h. (omega arith, omega arith)) (targets second) those.within));
      once = subst AreOnce (sym both) (once_append (targets first) (targets second) these.once those.once
          (All-weaker (λ label. (a ≤ label) × (label < b)) (λ label. All (λ other. nat_eq label other ≡ false) (targets second))
          (λ label h. All-weaker (λ other. (c ≤ other) × (other < d)) (λ other. nat_eq label other ≡ false) (λ other g. grind (arith, nat_tests))
          (targets second) those.within)
          (targets first) these.within));
    }

-- ---- lines that place none, and one

none_from : (low high : ℕ) (lines : List Line) → targets lines ≡ [] → TargetsFrom low high lines
none_from low high lines none = record {
  within = All-same (λ label. (low ≤ label) × (label < high)) (targets lines) [] none (All-nil (λ label. (low ≤ label) × (label < high)));
  once = subst AreOnce (sym none) tt;
}

one_from : (label : ℕ) (lines : List Line) → targets lines ≡ label ∷ [] → TargetsFrom label (label + 1) lines
one_from label lines one = record {
  within = All-same (λ l. (label ≤ l) × (l < label + 1)) (targets lines) (label ∷ []) one
      (All-cons (λ l. (label ≤ l) × (l < label + 1)) label [] (omega arith, omega arith) (All-nil (λ l. (label ≤ l) × (l < label + 1))));
  once = subst AreOnce (sym one) (All-nil (λ other. nat_eq label other ≡ false), tt);
}

either_from : (low high : ℕ) (reached : Bool) (lines : List Line) → TargetsFrom low high lines → TargetsFrom low high (if reached then lines else [])
either_from low high true lines from = from
either_from low high false lines from = none_from low high [] refl

checked_from : (low high passed : ℕ) (hs : List Holding) (t : ℕ) (check : Option Failure) (lines : List Line) → TargetsFrom low high lines
    → TargetsFrom low high (checked_code passed hs t check lines)
checked_from low high passed hs t None lines from = from
checked_from low high passed hs t (Some f) lines from = none_from low high (check_code passed hs t f) (check_none passed hs t f)

-- ---- statements

-- The labels of a statement's code are numbered from `next` on. A choice and a loop have two of their own: `next`, and the one behind those of the first part.
mutual
  pub statement_targets : (flags : List Bool) (u : Surroundings) (next out again : ℕ) (s : Statement) → TargetsFrom next (next + labels_in s)
      (statement_code flags u next out again s)
  statement_targets flags u next out again (Do operation) =
      let keeps = flag_at flags 0 in none_from next (next + 0) (operation_code keeps u operation) (operation_none keeps u operation)
  statement_targets flags u next out again (If t these those) =
      let left = drop (results_all these) flags in
      let behind = next + 1 + labels_of these in
      let end = next + labels_in (If t these those) in
      let v = naming (names_after_all these u.names) u in
      let choice = choice_code u.wide u.passed u.held t next in
      let first = statements_code flags u (next + 1) out again these in
      let over = between_code (can_complete_all these) those behind next in
      let second = statements_code left v (behind + 1) out again those in
      let last = behind_code those behind in
      let a : TargetsFrom next behind (choice ++ first) =
      join next behind (one_from next choice (choice_one u.wide u.passed u.held t next)) (statements_targets flags u (next + 1) out again these)
      (omega arith) (omega arith) (omega arith) (omega arith) (inl (omega arith)) in
      let b : TargetsFrom next behind ((choice ++ first) ++ over) =
      join next behind a (none_from behind behind over (between_none (can_complete_all these) those behind next))
      (omega arith) (omega arith) (omega arith) (omega arith) (inl (omega arith)) in
      let c : TargetsFrom next end (((choice ++ first) ++ over) ++ second) =
      join next end b (statements_targets left v (behind + 1) out again those) (omega arith) (omega arith) (omega arith) (omega arith) (inl (omega arith)) in
      checked_from next end u.passed u.held t (check_of these those) ((((choice ++ first) ++ over) ++ second) ++ last)
      (join next end c (none_from end end last (behind_none those behind)) (omega arith) (omega arith) (omega arith) (omega arith) (inl (omega arith)))
  statement_targets flags u next out again (While test t body) =
      let left = drop (results_all test) flags in
      let behind = next + 1 + labels_of test in
      let end = next + labels_in (While test t body) in
      let v = holding [] (naming (names_after_all test u.names) u) in
      let start : List Line = Label next ∷ [] in
      let first = statements_code flags (holding [] u) (next + 1) out again test in
      let choice = choice_code u.wide u.passed (held_behind_all u.homes u.statics [] test) t behind in
      let second = statements_code left v (behind + 1) behind next body in
      let last : List Line = Jump next ∷ Label behind ∷ [] in
      let a : TargetsFrom next behind (start ++ first) =
      join next behind (none_from next next start refl) (statements_targets flags (holding [] u) (next + 1) out again test)
      (omega arith) (omega arith) (omega arith) (omega arith) (inl (omega arith)) in
      let b : TargetsFrom next (behind + 1) ((start ++ first) ++ choice) =
      join next (behind + 1) a (one_from behind choice (choice_one u.wide u.passed (held_behind_all u.homes u.statics [] test) t behind))
      (omega arith) (omega arith) (omega arith) (omega arith) (inl (omega arith)) in
      let c : TargetsFrom next end (((start ++ first) ++ choice) ++ second) =
      join next end b (statements_targets left v (behind + 1) behind next body) (omega arith) (omega arith) (omega arith) (omega arith) (inl (omega arith)) in
      join next end c (none_from end end last refl) (omega arith) (omega arith) (omega arith) (omega arith) (inl (omega arith))
  statement_targets flags u next out again (Block locals body) = statements_targets flags (within_block locals u) next out again body
  statement_targets flags u next out again (Leave body) =
      let end = next + labels_in (Leave body) in
      let last : List Line = Label next ∷ [] in
      join next end (statements_targets flags u (next + 1) next again body) (none_from end end last refl)
      (omega arith) (omega arith) (omega arith) (omega arith) (inl (omega arith))
  statement_targets flags u next out again Break = none_from next (next + 0) (Jump out ∷ []) refl
  statement_targets flags u next out again Continue = none_from next (next + 0) (Jump again ∷ []) refl
  statement_targets flags u next out again (Call results f arguments) =
      none_from next (next + 0) (call_code flags u.passed u.held results f arguments) (call_none flags u.passed u.held results f arguments)
  statement_targets flags u next out again (Return values) = none_from next (next + 0) (return_code u.passed u.held values u.exit)
      (return_none u.passed u.held values u.exit)
  statement_targets flags u next out again (Raise kind) = none_from next (next + 0) (raise_code kind) refl

  pub statements_targets : (flags : List Bool) (u : Surroundings) (next out again : ℕ) (ss : Statements) → TargetsFrom next (next + labels_of ss)
      (statements_code flags u next out again ss)
  statements_targets flags u next out again NoStatements = none_from next (next + 0) [] refl
  statements_targets flags u next out again (MoreStatements s ss) =
      let left = drop (results_in s) flags in
      let free = next + labels_in s in
      let v = holding (held_behind u.homes u.statics u.held s) (naming (names_after s u.names) u) in
      let home = home_behind u.homes u.held s ss in
      let keeps = flag_at flags 0 in
      let all = statements_code left v free out again ss in
      let others = statements_behind left v free out again ss in
      join next (next + labels_of (MoreStatements s ss))
      (first_either (TargetsFrom next free) home keeps u s (statement_code flags u next out again s) (statement_targets flags u next out again s)
      (none_from next free (straight_code keeps u home s) (straight_none keeps u home s)))
      (either_from free (free + labels_of ss) (can_complete s) (later_code home all others)
      (later_either (TargetsFrom free (free + labels_of ss)) home all others (statements_targets left v free out again ss)
      (behind_targets left v free out again ss)))
      (omega arith) (omega arith) (omega arith) (omega arith) (inl (omega arith))

  behind_targets : (flags : List Bool) (u : Surroundings) (next out again : ℕ) (ss : Statements) → TargetsFrom next (next + labels_of ss)
      (statements_behind flags u next out again ss)
  behind_targets flags u next out again NoStatements = none_from next (next + 0) [] refl
  behind_targets flags u next out again (MoreStatements s ss) =
      let left = drop (results_in s) flags in
      let free = next + labels_in s in
      let v = holding (held_behind u.homes u.statics u.held s) (naming (names_after s u.names) u) in
      join next (next + labels_of (MoreStatements s ss)) (none_from next next [] refl)
      (either_from free (free + labels_of ss) (can_complete s) (statements_code left v free out again ss) (statements_targets left v free out again ss))
      (omega arith) (omega arith) (omega arith) (omega arith) (inl (omega arith))

-- ---- functions

function_targets : (wide : ℕ → Bool) (statics : List ℕ) (refused number next : ℕ) (f : Function)
    → TargetsFrom (next + 1) (next + labels_within f) (function_code wide statics refused number next f)
function_targets wide statics refused number next f =
    let low = next + 1 in
    let high = next + labels_within f in
    let prologue = prologue_code refused (frame_bytes f) f.passed (saved_slot f) (saved_by f) (live_at_start statics f) (parameter_registers f) f.parameters in
    let all = statements_code (saves_at statics f) (around wide statics next f) (next + 1) number number f.body in
    let returns = ends_in_return_all f.body in
    let body = ended_code returns all in
    let as_many : targets body ≡ targets all = ended_targets next returns all
    (statements_jump_last (saves_at statics f) (around wide statics next f) (next + 1) number number f.body) in
    let of_all = statements_targets (saves_at statics f) (around wide statics next f) (next + 1) number number f.body in
    let leaves = epilogue_code (frame_bytes f) (saved_slot f) (saved_by f) in
    let front : List Line = (Label number ∷ []) ++ prologue in
    let a : TargetsFrom low high (front ++ body) =
    join low high (none_from low low front
    (prologue_none refused (frame_bytes f) f.passed (saved_slot f) (saved_by f) (live_at_start statics f) (parameter_registers f) f.parameters))
    (record {
      within = subst (λ ls. All (λ label. (next + 1 ≤ label) × (label < next + 1 + labels_of f.body)) ls) (sym as_many) of_all.within;
      once = subst AreOnce (sym as_many) of_all.once;
    })
    (omega arith) (omega arith) (omega arith) (omega arith) (inl (omega arith)) in
    let b : TargetsFrom low high ((front ++ body) ++ (Label next ∷ [])) =
    join low high a (none_from high high (Label next ∷ []) refl) (omega arith) (omega arith) (omega arith) (omega arith) (inl (omega arith)) in
    join low high b (none_from high high leaves (epilogue_none (frame_bytes f) (saved_slot f) (saved_by f)))
    (omega arith) (omega arith) (omega arith) (omega arith) (inl (omega arith))

-- how many labels functions have within them
abbrev labels_in_all : List Function → ℕ
labels_in_all [] = 0
labels_in_all (f ∷ fs) = labels_within f + labels_in_all fs

functions_targets : (wide : ℕ → Bool) (statics : List ℕ) (refused number next : ℕ) (fs : List Function)
    → TargetsFrom next (next + labels_in_all fs) (functions_code wide statics refused number next fs)
functions_targets wide statics refused number next [] = none_from next (next + 0) [] refl
functions_targets wide statics refused number next (f ∷ fs) =
    join next (next + (labels_within f + labels_in_all fs)) (function_targets wide statics refused number next f)
    (functions_targets wide statics refused (number + 1) (next + labels_within f) fs)
    (omega arith) (omega arith) (omega arith) (omega arith) (inl (omega arith))

-- no two conditional jumps of a program go to one label
pub program_targets_once : (wide : ℕ → Bool) (p : Program) → AreOnce (targets (program_code wide p))
program_targets_once wide p = (functions_targets wide (data_offsets p.data_objects) (length p.functions) 0 (length p.functions + 1) p.functions).once
