-- Believed: what is answered of the stack that a text's calls need.
use Rattle.std.specs.Prelude.{◌≡◌, ℕ, List, IfNone, IfSome, codes, map}
use Rattle.cyc_tree.specs.Tree.{Program}
use Rattle.core_lines.specs.LocalPlaces.{frame_bytes}
use Rattle.source_meaning.specs.Programs.{functions_of, world_of}
use Rattle.source_lowering.specs.Programs.{program_code}
use Rattle.compile_proof.specs.Promise.{frame_size_of}
use Rattle.stack_needs.specs.Graph.{rows_of}
use Rattle.stack_needs.specs.Numbers.{AreNeedsOf, IsRecursionOf, IsStackNeed, calls_among, need_at, number_from}
use Rattle.cycc_driver.specs.declared.stacks.StackUse.{StackUse}
use Rattle.cycc_driver.specs.Texts.{IsAcceptedAs}

-- what is answered of a program: its functions with their frames, the calls among them, how many bytes each needs and no fewer, and a recursion where one is
-- reached from `main`
pub record IsStackOf (p : Program) (s : StackUse) : Type 0 where
  pub names : map (λ name. name.items) s.names.items ≡ map (λ f. f.name) (functions_of p)
  pub frames : s.frames.items ≡ map frame_bytes (program_code p).functions
  pub main : s.needs.main ≡ number_from (functions_of p) 0 (codes "main")
  pub calls : rows_of s.needs.calls.items ≡ calls_among (functions_of p) (functions_of p)
  pub each : AreNeedsOf (frame_size_of (world_of p)) p s.needs.each.items
  pub need : IsStackNeed (frame_size_of (world_of p)) p (need_at s.needs.main s.needs.each.items)
  pub recursion : IfSome s.recursion (λ r. IsRecursionOf p r.path.items r.again)
  pub none : IfNone s.recursion ((path : List ℕ) (again : ℕ) → IsRecursionOf p path again → ⊥)

-- of the program that an accepted text spells
pub record IsTextStack (text : List ℕ) (s : StackUse) : Type 0 where
  pub program : Program
  pub accepted : IsAcceptedAs text program
  pub stack : IsStackOf program s
