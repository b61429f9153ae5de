-- A function does as Core, from its lines, where the lines of its statements do.
use Rattle.std.specs.Prelude.{slice_get}
use Rattle.rv32_machine.specs.Arrays.{longest_stack}
use Rattle.std.proofs.Common.{◌≡◌, ℕ, suc, [], ap, ◌∙◌, ◌+◌, ◌≤◌, List, ◌∷◌, ◌++◌, Some, refl, sym, subst, arith, append_assoc}
use Rattle.core_meaning.specs.Memory.{Content, Memory}
use Rattle.core_meaning.specs.Core.{Function}
use Rattle.core_meaning.specs.Meaning as core
use Rattle.core_meaning.specs.Steps.{Config, Step, Falls, Breaks, Continues}
use Rattle.core_lines.specs.Lines.{code_length}
use Rattle.core_lines.specs.Frames.{epilogue_code}
use Rattle.core_lines.specs.Operands.{prologue_code}
use Rattle.core_lines.specs.Held.{held_behind_all}
use Rattle.core_lines.specs.Completing.{can_complete_all, ends_in_return_all}
use Rattle.core_lines.specs.Parameters.{parameter_registers}
use Rattle.core_lines.specs.Saved.{none_of, taken_in, live_at_start, saves_at}
use Rattle.core_lines.specs.Selected.{frame_bytes, around, statements_code, ended_code}
use Rattle.core_meaning.specs.Selectable.{IsSelectableIn}
use Rattle.core_lines.specs.Homes.{saved_by, saved_slot}
use Rattle.core_lines.specs.declared.line.Line.{Line}
use Rattle.core_lines.specs.declared.line.Line.TheVariants.{Label}
use Rattle.core_lines.proofs.memory.Relations.{EndsThere, World, IsInOrder, Has, Waiting, At, Goes, active_of, keeping}
use Rattle.core_lines.proofs.memory.Moving.{goes_stuck}
use Rattle.core_lines.proofs.memory.Access.{length_of_both, behind}
use Rattle.core_lines.proofs.frames.Passing.{has_first, has_second}
use Rattle.core_lines.proofs.frames.Going.{with_config, GoesFrom, GoesHolding, goes_any, BodyGoes}
use Rattle.core_lines.proofs.frames.Bodies.{activation, FunctionDoes}
use Rattle.core_lines.proofs.operations.Registers.{AtHolding}
use Rattle.core_lines.proofs.Ways.{Needs, Does}
use Rattle.core_lines.proofs.Programs.{IsAtCode}
use Rattle.std.proofs.Common.{◌*◌}
use Rattle.core_lines.specs.Selected.{offsets_from, own_end, placed_body, slots_of}
use Rattle.core_lines.proofs.homes.Locals.{offsets_lie, highest_of_above, frame_has_all}

-- no slot has to show a word behind a function's statements
abbrev pub nothing_needed : Function → Needs
nothing_needed f = record { after = none_of f; out = none_of f; again = none_of f }

-- what is asked of the statements of a function, where calls with less fuel do as Core and the frame is no larger than the stack
abbrev pub BodyDoes : (w : World) → IsInOrder w → ℕ → ℕ → Function → Type 0
BodyDoes w order number next f =
    (is : slice_get w.functions number ≡ Some f) (most : ℕ) → w.frame_bytes number ≤ longest_stack → ((j : ℕ) → suc j ≤ most → (g : ℕ) → BodyGoes w j g)
    → EndsThere w number f → (outer : List Waiting) (mem : Memory) (arguments : List Content)
    → Does w (activation w order number f is outer mem arguments (offsets_from (4 * slots_of f) f.own) (own_end f)) outer most (can_complete_all f.body)
    (taken_in f)
    (held_behind_all [] w.data_offsets (taken_in f) f.body) (live_at_start w.data_offsets f) (nothing_needed f)
    (ended_code (ends_in_return_all f.body) (statements_code (saves_at w.data_offsets f) (around w.wide w.data_offsets next f) (next + 1) number number f.body)
    ++ (Label next ∷ [])) number number (core.statements f.body)

-- what is out of order goes on from anywhere
stuck_from : (w : World) (x : Waiting) (outer : List Waiting) (most place : ℕ) (next : Config → Step) →
    ((c : Config) → next c ≡ Rattle.core_meaning.specs.Steps.stuck)
    → GoesFrom w x outer most place next
stuck_from w x outer most place next ends c is =
    subst (λ (t : Step). Goes w most t (At w (with_config x c) outer c.memory place) (active_of w (x ∷ outer))) (sym (ends c)) (goes_stuck w _ _ most)

pub function_does : (w : World) (order : IsInOrder w) (data_objects number : ℕ) (f : Function) → IsSelectableIn data_objects f → w.frame_bytes number
    ≡ frame_bytes f
    → (code : IsAtCode w number f) → BodyDoes w order number code.next f → FunctionDoes w order number f
function_does w order data_objects number f selectable frame code body =
    let starts : ℕ → List Line =
    λ size. prologue_code w.refused size f.passed (saved_slot f) (saved_by f) (live_at_start w.data_offsets f) (parameter_registers f) f.parameters in
    let prologue = starts (frame_bytes f) in
    let lines = ended_code (ends_in_return_all f.body)
    (statements_code (saves_at w.data_offsets f) (around w.wide w.data_offsets code.next f) (code.next + 1) number number f.body) in
    let exit : List Line = Label code.next ∷ [] in
    let epilogue = epilogue_code (frame_bytes f) (saved_slot f) (saved_by f) in
    let there : w.places number ≡ code.place = code.has.1 in
    let at_label : code.place + 0 ≡ w.places number = omega (arith, there) in
    let front = prologue ++ lines in
    let has_all : Has w (w.places number) ((front ++ exit) ++ epilogue) = subst (λ p. Has w p ((front ++ exit) ++ epilogue)) at_label code.has.2 in
    let has_three = has_first w (w.places number) (front ++ exit) epilogue has_all in
    let has_epilogue = has_second w (w.places number) (front ++ exit) epilogue has_all in
    let has = has_first w (w.places number) front exit has_three in
    let has_exit = has_second w (w.places number) front exit has_three in
    let has_prologue = has_first w (w.places number) prologue lines has in
    let has_lines = has_second w (w.places number) prologue (lines ++ exit)
    (subst (λ ls. Has w (w.places number) ls) (append_assoc prologue lines exit) has_three) in
    let at_exit : w.places number + code_length (front ++ exit) ≡ w.places (w.exits number) =
    omega (arith, length_of_both front exit) ∙ sym has_exit.1 ∙ ap w.places (sym code.exit) in
    let ends_there : EndsThere w number f =
    subst (λ k. Has w (w.places (w.exits number)) (epilogue_code k (saved_slot f) (saved_by f))) (sym frame)
    (subst (λ p. Has w p epilogue) at_exit has_epilogue) in
    record {
      offsets = offsets_from (4 * slots_of f) f.own;
      high = own_end f;
      laid = λ fits.
          let top = frame_has_all f (omega (arith, frame, fits)) in
          let body = highest_of_above (own_end f) (placed_body f) in
          (offsets_lie (4 * slots_of f) f.own selectable.own_layouts, omega (arith, top, body, frame));
      few = selectable.few;
      prologue = subst (λ k. Has w (w.places number) (starts k)) (sym frame) has_prologue;
      does = λ is most fits calls outer mem arguments next returns ends.
          let x = activation w order number f is outer mem arguments (offsets_from (4 * slots_of f) f.own) (own_end f) in
          let place = w.places number + code_length prologue in
          let aligned = (order.labels number).aligned in
          let does = body is most fits calls ends_there outer mem arguments in
          let ended = keeping (none_of f) x in
          let held = taken_in f in
          let goes : GoesHolding w x outer most place held (core.statements f.body next) =
          does.goes place most (omega arith) next (behind (w.places number) prologue aligned) has_lines (record {
            falls = λ reached. goes_any w ended outer most (place + code_length (lines ++ exit)) (held_behind_all [] w.data_offsets held f.body) (next Falls)
                (stuck_from w ended outer most (place + code_length (lines ++ exit)) (next Falls) (λ c. (ends c).0));
            breaks = stuck_from w ended outer most (w.places number) (next Breaks) (λ c. (ends c).1);
            continues = stuck_from w ended outer most (w.places number) (next Continues) (λ c. (ends c).2);
            returns = returns;
          }) in
          let start = goes x.config (record { blocks = refl; own = refl }) in
          subst (λ k. Goes w most (core.statements f.body next x.config)
          (AtHolding w x outer x.config.memory (w.places number + code_length (starts k)) held)
          (w.names number ∷ active_of w outer)) (sym frame) start;
    }
