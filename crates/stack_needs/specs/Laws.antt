-- Believed, for this crate's laws: what is promised of a machine whose stack has the bytes that were answered.
use Rattle.std.specs.Prelude.{◌≢◌, ◌≡◌, ℕ, ◌<◌, ◌≤◌, Bool, List, Some, length}
use Rattle.cyc_words.specs.Events.{AreBytes, MachineEnding}
use Rattle.arena_laws.specs.Lawful.{Answer}
use Rattle.cyc_tree.specs.Tree.{Program}
use Rattle.source_meaning.specs.Programs.{world_of}
use Rattle.source_lowering.specs.Programs.{program_code}
use Rattle.rv32_machine.specs.State.{Areas, State}
use Rattle.rv32_machine.specs.Run.{ending_of, from, run_steps}
use Rattle.core_lines.specs.declared.line.Line.{Line}
use Rattle.core_lines.specs.Promise.{AreLinesOf}
use Rattle.core_lines.specs.Relaxed.{shortened}
use Rattle.core_lines.specs.Running.{Begins, IsNeverStuck}
use Rattle.compile_proof.specs.Promise.{LowerableDoes, frame_size_of, meaning_of}
use Rattle.stack_needs.specs.Graph.{most_bytes}
use Rattle.stack_needs.specs.Numbers.{IsStackNeed}

-- Where so many bytes were answered for a program that lowering takes, a machine that begins with lines of it and has so much stack is never out of stack, on
-- any
-- input of bytes on which the program is never stuck, whatever its store answers.
abbrev pub AnsweredStackSuffices : Type 0
AnsweredStackSuffices =
    (p : Program) → LowerableDoes p → (need : ℕ) → IsStackNeed (frame_size_of (world_of p)) p (Some need) → need < most_bytes
    → (lines : List Line) → AreLinesOf (program_code p) lines → (wide : List Bool) → length wide ≡ length lines
    → (n : Areas) (places : ℕ → ℕ) (s : State) (input : List ℕ) → AreBytes input → Begins n places (shortened wide lines) (program_code p).data_objects s
    → IsNeverStuck (meaning_of p input) → need ≤ n.stack
    → (answers : ℕ → Answer) (count : ℕ) → ending_of (run_steps n count (from s input answers)) ≢ MachineEnding.NoStack
