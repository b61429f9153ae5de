-- All that is promised of a program that lowering takes.
use Rattle.cyc_tree.specs.Tree.{Program}
use Rattle.source_meaning.specs.Programs.{world_of}
use Rattle.source_lowering.specs.Lowerable.{IsLowerable}
use Rattle.source_lowering.proofs.bounds.Bounded.{code_bounded}
use Rattle.compile_proof.specs.Promise.{AreNamedApart, LowerableDoes, frame_bound_of, frame_size_of}
use Rattle.compile_proof.proofs.DoesAsSource.{does_within}
use Rattle.compile_proof.proofs.Frames.{frames_bounded, frames_closely_bounded}

pub lowerable_do : (p : Program) → IsLowerable p → AreNamedApart (world_of p).functions → LowerableDoes p
lowerable_do p lowerable named_apart = record {
  does = does_within (frame_bound_of (world_of p)) p lowerable named_apart (frames_bounded p lowerable named_apart);
  close = does_within (frame_size_of (world_of p)) p lowerable named_apart (frames_closely_bounded p lowerable named_apart);
  code = code_bounded p lowerable;
}
