-- Each label of a program's code is placed once: functions have the first labels, and the statements of each function those behind the statements before.
use Rattle.std.proofs.Common.{Bool, ◌≡◌, ℕ, ◌+◌, ◌≤◌, ◌<◌, ◌⊎◌, inl, inr, true, false, nat_eq, List, [], ◌∷◌, ◌++◌, refl}
use Rattle.std.proofs.Common.{sym, ap, subst, ◌∙◌, arith, append_assoc, append-nil}
use Rattle.std.specs.Prelude.{Option, Some, None, length, drop, if◌then◌else◌}
use Rattle.std.specs.List.{All}
use Rattle.std.proofs.lemmas.List.Elements.{All-nil, All-cons, All-head, All-tail, All-same, All-append, All-weaker}
use Rattle.std.proofs.lemmas.Bool.{ne_eqb}
use Rattle.std.proofs.lemmas.Bool.Decides.{nat_tests}
use Rattle.core_meaning.specs.Core.{Statement, Do, If, While, Block, Leave, Break, Continue, Call, Return, Raise, Statements, NoStatements}
use Rattle.core_meaning.specs.Core.{MoreStatements, Function, Program}
use Rattle.core_lines.specs.declared.line.Line.{Line}
use Rattle.core_lines.specs.declared.line.Line.TheVariants.{Label, Jump}
use Rattle.core_lines.specs.Lines.{labels_placed, AreOnce}
use Rattle.core_lines.specs.Frames.{raise_code, epilogue_code}
use Rattle.core_lines.specs.Selected.{frame_bytes, Surroundings}
use Rattle.core_lines.specs.Held.{Holding, held_behind, held_behind_all}
use Rattle.core_lines.specs.Operands.{call_code, return_code, prologue_code}
use Rattle.core_lines.specs.Checks.{Failure, check_of, check_code, checked_code}
use Rattle.core_lines.specs.Choosing.{choice_code, between_code, behind_code}
use Rattle.core_lines.specs.Completing.{can_complete, can_complete_all, ends_in_return_all}
use Rattle.core_lines.specs.Parameters.{parameter_registers}
use Rattle.core_lines.specs.Saved.{results_in, results_all, live_at_start, saves_at}
use Rattle.core_lines.specs.Selected.{operation_code, labels_in, labels_of, labels_within, holding, naming, names_after, names_after_all, within_block}
use Rattle.core_lines.specs.Selected.{statement_code, statements_code, around, ended_code, function_code, functions_code, program_code}
use Rattle.core_lines.specs.Selected.{statements_behind, home_behind, later_code}
use Rattle.core_lines.specs.Straight.{straight_code}
use Rattle.core_lines.proofs.Straight.{first_either, later_either}
use Rattle.core_lines.proofs.labels.NoLabels.{straight_none}
use Rattle.core_lines.specs.Running.{data_offsets}
use Rattle.core_lines.specs.Homes.{saved_by, saved_slot, flag_at}
use Rattle.core_lines.proofs.labels.NoLabels.{labels_placed-append, operation_none, choice_code_none, check_none, call_none, return_none}
use Rattle.core_lines.proofs.labels.NoLabels.{epilogue_none, prologue_none}
use Rattle.core_lines.proofs.Returning.{statements_jump_last, ended_places}

-- ---- lists of labels

-- those of two lists are each there once, where no label is in both
once_append : (first second : List ℕ) → AreOnce first → AreOnce second → All (λ label. All (λ other. nat_eq label other ≡ false) second) first
    → AreOnce (first ++ second)
once_append [] second a b apart = b
once_append (label ∷ first) second a b apart = (
  All-append (λ other. nat_eq label other ≡ false) first second a.0 (All-head (λ l. All (λ other. nat_eq l other ≡ false) second) label first apart),
  once_append first second a.1 b (All-tail (λ l. All (λ other. nat_eq l other ≡ false) second) label first apart),
)

-- the labels that lines place lie from one to another, and none is placed twice
pub record PlacesFrom (low high : ℕ) (lines : List Line) : Type 0 where
  pub within : All (λ label. (low ≤ label) × (label < high)) (labels_placed lines)
  pub once : AreOnce (labels_placed lines)

-- lines and those behind them, where all labels of the ones lie below those of the others, whichever come first
join : {a b c d : ℕ} {first second : List Line} (low high : ℕ) → PlacesFrom a b first → PlacesFrom c d second → low ≤ a → b ≤ high → low ≤ c → d ≤ high
    → (b ≤ c) ⊎ (d ≤ a) → PlacesFrom low high (first ++ second)
join {a} {b} {c} {d} {first} {second} low high these those from_low to_high also_from_low also_to_high apart =
    let both = labels_placed-append first second in
    let wide : ℕ → Type 0 = λ label. (low ≤ label) × (label < high) in
    record {
      within = All-same wide (labels_placed (first ++ second)) (labels_placed first ++ labels_placed second) both
          (All-append wide (labels_placed first) (labels_placed second)
          (All-weaker (λ label. (a ≤ label) × (label < b)) wide (λ label h. (omega arith, omega arith)) (labels_placed first) these.within)
          (All-weaker (λ label. (c ≤ label) × (label < d)) wide (λ label h. (omega arith, omega arith)) (labels_placed second) those.within));
      once = subst AreOnce (sym both) (once_append (labels_placed first) (labels_placed second) these.once those.once
          (All-weaker (λ label. (a ≤ label) × (label < b)) (λ label. All (λ other. nat_eq label other ≡ false) (labels_placed second))
          (λ label h. All-weaker (λ other. (c ≤ other) × (other < d)) (λ other. nat_eq label other ≡ false) (λ other g. grind (arith, nat_tests))
          (labels_placed second) those.within)
          (labels_placed first) these.within));
    }

-- ---- lines that place none, and one

none_from : (low high : ℕ) (lines : List Line) → labels_placed lines ≡ [] → PlacesFrom low high lines
none_from low high lines none = record {
  within = All-same (λ label. (low ≤ label) × (label < high)) (labels_placed lines) [] none (All-nil (λ label. (low ≤ label) × (label < high)));
  once = subst AreOnce (sym none) tt;
}

one_from : (label : ℕ) (lines : List Line) → labels_placed lines ≡ label ∷ [] → PlacesFrom label (label + 1) lines
one_from label lines one = record {
  within = All-same (λ l. (label ≤ l) × (l < label + 1)) (labels_placed lines) (label ∷ []) one
      (All-cons (λ l. (label ≤ l) × (l < label + 1)) label [] (omega arith, omega arith) (All-nil (λ l. (label ≤ l) × (l < label + 1))));
  once = subst AreOnce (sym one) (All-nil (λ other. nat_eq label other ≡ false), tt);
}

-- what stands between the ways of a choice places one, and what stands behind them another one, or none

between_one : (completes : Bool) (those : Statements) (behind next : ℕ) → labels_placed (between_code completes those behind next) ≡ next ∷ []
between_one completes NoStatements behind next = refl
between_one true (MoreStatements s ss) behind next = refl
between_one false (MoreStatements s ss) behind next = refl

behind_from : (those : Statements) (behind : ℕ) → PlacesFrom behind (behind + 1) (behind_code those behind)
behind_from NoStatements behind = none_from behind (behind + 1) [] refl
behind_from (MoreStatements s ss) behind = one_from behind (Label behind ∷ []) refl

either_from : (low high : ℕ) (reached : Bool) (lines : List Line) → PlacesFrom low high lines → PlacesFrom low high (if reached then lines else [])
either_from low high true lines from = from
either_from low high false lines from = none_from low high [] refl

checked_from : (low high passed : ℕ) (hs : List Holding) (t : ℕ) (check : Option Failure) (lines : List Line) → PlacesFrom low high lines
    → PlacesFrom low high (checked_code passed hs t check lines)
checked_from low high passed hs t None lines from = from
checked_from low high passed hs t (Some f) lines from = none_from low high (check_code passed hs t f) (check_none passed hs t f)

-- ---- statements

-- The labels of a statement's code are numbered from `next` on. A choice and a loop have two of their own: `next`, and the one behind those of the first part;
-- a `Leave` has one, `next`.
mutual
  pub statement_places : (flags : List Bool) (u : Surroundings) (next out again : ℕ) (s : Statement) → PlacesFrom next (next + labels_in s)
      (statement_code flags u next out again s)
  statement_places flags u next out again (Do operation) =
      let keeps = flag_at flags 0 in none_from next (next + 0) (operation_code keeps u operation) (operation_none keeps u operation)
  statement_places flags u next out again (If t these those) =
      let left = drop (results_all these) flags in
      let behind = next + 1 + labels_of these in
      let end = next + labels_in (If t these those) in
      let front = choice_code u.wide u.passed u.held t next ++ statements_code flags u (next + 1) out again these in
      let over = between_code (can_complete_all these) those behind next in
      let second = statements_code left (naming (names_after_all these u.names) u) (behind + 1) out again those in
      let last = behind_code those behind in
      let first : PlacesFrom (next + 1) behind front =
      join (next + 1) behind (none_from (next + 1) (next + 1) (choice_code u.wide u.passed u.held t next) (choice_code_none u.wide u.passed u.held t next))
      (statements_places flags u (next + 1) out again these)
      (omega arith) (omega arith) (omega arith) (omega arith) (inl (omega arith)) in
      let choice : PlacesFrom next behind (front ++ over) =
      join next behind first (one_from next over (between_one (can_complete_all these) those behind next))
      (omega arith) (omega arith) (omega arith) (omega arith) (inr (omega arith)) in
      let others : PlacesFrom behind end (second ++ last) =
      join behind end (statements_places left (naming (names_after_all these u.names) u) (behind + 1) out again those)
      (behind_from those behind) (omega arith) (omega arith) (omega arith) (omega arith) (inr (omega arith)) in
      checked_from next end u.passed u.held t (check_of these those) (front ++ over ++ second ++ last)
      (subst (PlacesFrom next end) (sym (append_assoc (front ++ over) second last))
      (join next end choice others (omega arith) (omega arith) (omega arith) (omega arith) (inl (omega arith))))
  statement_places flags u next out again (While test t body) =
      let left = drop (results_all test) flags in
      let behind = next + 1 + labels_of test in
      let end = next + labels_in (While test t body) in
      let start : List Line = Label next ∷ [] in
      let front = start ++ statements_code flags (holding [] u) (next + 1) out again test in
      let held = held_behind_all u.homes u.statics [] test in
      let leaves = choice_code u.wide u.passed held t behind in
      let v = holding [] (naming (names_after_all test u.names) u) in
      let inside = statements_code left v (behind + 1) behind next body in
      let last : List Line = Jump next ∷ Label behind ∷ [] in
      let first : PlacesFrom next behind front =
      join next behind (one_from next start refl) (statements_places flags (holding [] u) (next + 1) out again test) (omega arith) (omega arith)
      (omega arith) (omega arith) (inl (omega arith)) in
      let tested : PlacesFrom next behind (front ++ leaves) =
      join next behind first (none_from behind behind leaves (choice_code_none u.wide u.passed held t behind))
      (omega arith) (omega arith) (omega arith) (omega arith) (inl (omega arith)) in
      let others : PlacesFrom behind end (inside ++ last) =
      join behind end (statements_places left v (behind + 1) behind next body) (one_from behind last refl) (omega arith) (omega arith)
      (omega arith) (omega arith) (inr (omega arith)) in
      subst (PlacesFrom next end) (sym (append_assoc (front ++ leaves) inside last))
      (join next end tested others (omega arith) (omega arith) (omega arith) (omega arith) (inl (omega arith)))
  statement_places flags u next out again (Block locals body) = statements_places flags (within_block locals u) next out again body
  statement_places flags u next out again (Leave body) =
      let last : List Line = Label next ∷ [] in
      join next (next + labels_in (Leave body)) (statements_places flags u (next + 1) next again body) (one_from next last refl)
      (omega arith) (omega arith) (omega arith) (omega arith) (inr (omega arith))
  statement_places flags u next out again Break = none_from next (next + 0) (Jump out ∷ []) refl
  statement_places flags u next out again Continue = none_from next (next + 0) (Jump again ∷ []) refl
  statement_places flags u next out again (Call results f arguments) =
      none_from next (next + 0) (call_code flags u.passed u.held results f arguments) (call_none flags u.passed u.held results f arguments)
  statement_places flags u next out again (Return values) = none_from next (next + 0) (return_code u.passed u.held values u.exit)
      (return_none u.passed u.held values u.exit)
  statement_places flags u next out again (Raise kind) = none_from next (next + 0) (raise_code kind) refl

  pub statements_places : (flags : List Bool) (u : Surroundings) (next out again : ℕ) (ss : Statements) → PlacesFrom next (next + labels_of ss)
      (statements_code flags u next out again ss)
  statements_places flags u next out again NoStatements = none_from next (next + 0) [] refl
  statements_places flags u next out again (MoreStatements s ss) =
      let left = drop (results_in s) flags in
      let free = next + labels_in s in
      let v = holding (held_behind u.homes u.statics u.held s) (naming (names_after s u.names) u) in
      let home = home_behind u.homes u.held s ss in
      let keeps = flag_at flags 0 in
      let all = statements_code left v free out again ss in
      let others = statements_behind left v free out again ss in
      join next (next + labels_of (MoreStatements s ss))
      (first_either (PlacesFrom next free) home keeps u s (statement_code flags u next out again s) (statement_places flags u next out again s)
      (none_from next free (straight_code keeps u home s) (straight_none keeps u home s)))
      (either_from free (free + labels_of ss) (can_complete s) (later_code home all others)
      (later_either (PlacesFrom free (free + labels_of ss)) home all others (statements_places left v free out again ss)
      (behind_places left v free out again ss)))
      (omega arith) (omega arith) (omega arith) (omega arith) (inl (omega arith))

  behind_places : (flags : List Bool) (u : Surroundings) (next out again : ℕ) (ss : Statements) → PlacesFrom next (next + labels_of ss)
      (statements_behind flags u next out again ss)
  behind_places flags u next out again NoStatements = none_from next (next + 0) [] refl
  behind_places flags u next out again (MoreStatements s ss) =
      let left = drop (results_in s) flags in
      let free = next + labels_in s in
      let v = holding (held_behind u.homes u.statics u.held s) (naming (names_after s u.names) u) in
      join next (next + labels_of (MoreStatements s ss)) (none_from next next [] refl)
      (either_from free (free + labels_of ss) (can_complete s) (statements_code left v free out again ss) (statements_places left v free out again ss))
      (omega arith) (omega arith) (omega arith) (omega arith) (inl (omega arith))

-- ---- functions

-- labels from one to another, or from a third on, behind them
abbrev IsOf : ℕ → ℕ → ℕ → ℕ → Type 0
IsOf number end next label = ((number ≤ label) × (label < end)) ⊎ (next ≤ label)

record PlacesOf (number end next : ℕ) (lines : List Line) : Type 0 where
  pub within : All (IsOf number end next) (labels_placed lines)
  pub once : AreOnce (labels_placed lines)

-- the labels of a function's code: its number, and those of its statements
record FunctionPlaces (number next : ℕ) (f : Function) (lines : List Line) : Type 0 where
  pub labels : List ℕ
  pub are : labels_placed lines ≡ number ∷ labels
  pub within : All (λ label. (next ≤ label) × (label < next + labels_within f)) labels
  pub once : AreOnce (number ∷ labels)

function_places : (wide : ℕ → Bool) (statics : List ℕ) (refused number next : ℕ) (f : Function) → number < next
    → FunctionPlaces number next f (function_code wide statics refused number next f)
function_places wide statics refused number next f less =
    let prologue = prologue_code refused (frame_bytes f) f.passed (saved_slot f) (saved_by f) (live_at_start statics f) (parameter_registers f) f.parameters in
    let all = statements_code (saves_at statics f) (around wide statics next f) (next + 1) number number f.body in
    let returns = ends_in_return_all f.body in
    let body = ended_code returns all in
    let as_many : labels_placed body ≡ labels_placed all = ended_places next returns all
    (statements_jump_last (saves_at statics f) (around wide statics next f) (next + 1) number number f.body) in
    let leaves = epilogue_code (frame_bytes f) (saved_slot f) (saved_by f) in
    let front : List Line = (Label number ∷ []) ++ prologue in
    let q = statements_places (saves_at statics f) (around wide statics next f) (next + 1) number number f.body in
    let p : PlacesFrom (next + 1) (next + 1 + labels_of f.body) body = record {
      within = subst (λ ls. All (λ label. (next + 1 ≤ label) × (label < next + 1 + labels_of f.body)) ls) (sym as_many) q.within;
      once = subst AreOnce (sym as_many) q.once;
    } in
    let wide : ℕ → Type 0 = λ label. (next ≤ label) × (label < next + labels_within f) in
    let of_body : All wide (labels_placed body) =
    All-weaker (λ label. (next + 1 ≤ label) × (label < next + 1 + labels_of f.body)) wide
    (λ label h. let l = h.0 in let r = h.1 in (omega (arith, l), omega (arith, r))) (labels_placed body) p.within in
    let one : labels_placed (front ++ body) ≡ number ∷ labels_placed body =
    labels_placed-append front body
    ∙ ap (λ ls. ls ++ labels_placed body) (labels_placed-append (Label number ∷ []) prologue
    ∙ ap (λ ls. number ∷ ls)
    (prologue_none refused (frame_bytes f) f.passed (saved_slot f) (saved_by f) (live_at_start statics f) (parameter_registers f) f.parameters)) in
    let two : labels_placed (((front ++ body) ++ (Label next ∷ [])) ++ leaves) ≡ number ∷ (labels_placed body ++ (next ∷ [])) =
    labels_placed-append ((front ++ body) ++ (Label next ∷ [])) leaves
    ∙ ap (λ ls. labels_placed ((front ++ body) ++ (Label next ∷ [])) ++ ls) (epilogue_none (frame_bytes f) (saved_slot f) (saved_by f))
    ∙ append-nil (labels_placed ((front ++ body) ++ (Label next ∷ [])))
    ∙ labels_placed-append (front ++ body) (Label next ∷ [])
    ∙ ap (λ ls. ls ++ (next ∷ [])) one in
    let here : All wide (next ∷ []) = All-cons wide next [] (omega arith, omega arith) (All-nil wide) in
    let within = All-append wide (labels_placed body) (next ∷ []) of_body here in
    record {
      labels = labels_placed body ++ (next ∷ []);
      are = two;
      within = within;
      once = (
        All-weaker wide (λ other. nat_eq number other ≡ false) (λ other h. ne_eqb number other (λ e. let l = h.0 in omega (arith, e, l, less)))
            (labels_placed body ++ (next ∷ [])) within,
        once_append (labels_placed body) (next ∷ []) p.once (All-nil (λ other. nat_eq next other ≡ false), tt)
            (All-weaker (λ label. (next + 1 ≤ label) × (label < next + 1 + labels_of f.body)) (λ label. All (λ other. nat_eq label other ≡ false) (next ∷ []))
            (λ label h. All-cons (λ other. nat_eq label other ≡ false) next [] (ne_eqb label next (λ e. let l = h.0 in omega (arith, e, l)))
            (All-nil (λ other. nat_eq label other ≡ false))) (labels_placed body) p.within),
      );
    }

functions_places : (wide : ℕ → Bool) (statics : List ℕ) (refused number next : ℕ) (fs : List Function) → number + length fs ≤ next
    → PlacesOf number (number + length fs) next (functions_code wide statics refused number next fs)
functions_places wide statics refused number next [] room = record { within = All-nil (IsOf number (number + 0) next); once = tt }
functions_places wide statics refused number next (f ∷ fs) room =
    let first = function_code wide statics refused number next f in
    let others = functions_code wide statics refused (number + 1) (next + labels_within f) fs in
    let p = function_places wide statics refused number next f (omega (arith, room)) in
    let q = functions_places wide statics refused (number + 1) (next + labels_within f) fs (omega (arith, room)) in
    let end = number + length (f ∷ fs) in
    let wide : ℕ → Type 0 = IsOf number end next in
    let is : labels_placed (first ++ others) ≡ (number ∷ p.labels) ++ labels_placed others =
    labels_placed-append first others ∙ ap (λ ls. ls ++ labels_placed others) p.are in
    let mine : All wide (number ∷ p.labels) =
    All-cons wide number p.labels (inl (omega arith, omega arith))
    (All-weaker (λ label. (next ≤ label) × (label < next + labels_within f)) wide (λ label h. inr h.0) p.labels p.within) in
    let theirs : All wide (labels_placed others) =
    All-weaker (IsOf (number + 1) (number + 1 + length fs) (next + labels_within f)) wide (λ label h. wider label h) (labels_placed others) q.within in
    let apart : All (λ label. All (λ other. nat_eq label other ≡ false) (labels_placed others)) (number ∷ p.labels) =
    All-cons (λ label. All (λ other. nat_eq label other ≡ false) (labels_placed others)) number p.labels
    (All-weaker (IsOf (number + 1) (number + 1 + length fs) (next + labels_within f)) (λ other. nat_eq number other ≡ false) (λ other h. first_apart other h)
    (labels_placed others) q.within)
    (All-weaker (λ label. (next ≤ label) × (label < next + labels_within f)) (λ label. All (λ other. nat_eq label other ≡ false) (labels_placed others))
    (λ label g. All-weaker (IsOf (number + 1) (number + 1 + length fs) (next + labels_within f)) (λ other. nat_eq label other ≡ false)
    (λ other h. inner_apart label other g h) (labels_placed others) q.within) p.labels p.within) in
    record {
      within = All-same wide (labels_placed (first ++ others)) ((number ∷ p.labels) ++ labels_placed others) is
          (All-append wide (number ∷ p.labels) (labels_placed others) mine theirs);
      once = subst AreOnce (sym is) (once_append (number ∷ p.labels) (labels_placed others) p.once q.once apart);
    }
  where
    wider : (label : ℕ) → IsOf (number + 1) (number + 1 + length fs) (next + labels_within f) label → IsOf number (number + length (f ∷ fs)) next label
    wider label (inl h) = let l = h.0 in let r = h.1 in inl (omega (arith, l), omega (arith, r))
    wider label (inr h) = inr (omega (arith, h))

    first_apart : (other : ℕ) → IsOf (number + 1) (number + 1 + length fs) (next + labels_within f) other → nat_eq number other ≡ false
    first_apart other (inl h) = let l = h.0 in ne_eqb number other (λ e. omega (arith, e, l))
    first_apart other (inr h) = ne_eqb number other (λ e. omega (arith, e, h, room))

    inner_apart : (label other : ℕ) → (next ≤ label) × (label < next + labels_within f) → IsOf (number + 1) (number + 1 + length fs)
        (next + labels_within f) other
        → nat_eq label other ≡ false
    inner_apart label other g (inl h) = let l = g.0 in let r = h.1 in ne_eqb label other (λ e. omega (arith, e, l, r, room))
    inner_apart label other g (inr h) = let r = g.1 in ne_eqb label other (λ e. omega (arith, e, r, h))

-- no label is placed twice
pub program_labels_once : (wide : ℕ → Bool) (p : Program) → AreOnce (labels_placed (program_code wide p))
program_labels_once wide p =
    let n = length p.functions in
    let lines = functions_code wide (data_offsets p.data_objects) n 0 (n + 1) p.functions in
    let of_functions = functions_places wide (data_offsets p.data_objects) n 0 (n + 1) p.functions (omega arith) in (
      All-weaker (IsOf 0 (0 + n) (n + 1)) (λ other. nat_eq n other ≡ false) (λ other h. apart n other h) (labels_placed lines) of_functions.within,
      of_functions.once,
    )
  where
    apart : (n other : ℕ) → IsOf 0 (0 + n) (n + 1) other → nat_eq n other ≡ false
    apart n other (inl h) = let r = h.1 in ne_eqb n other (λ e. omega (arith, e, r))
    apart n other (inr h) = ne_eqb n other (λ e. omega (arith, e, h))
