-- The bytes that are answered suffice.
use Rattle.source_meaning.specs.Programs.{world_of}
use Rattle.compile_proof.specs.Promise.{frame_size_of}
use Rattle.stack_proof.proofs.Suffices.{never_out_of_stack}
use Rattle.stack_needs.specs.Laws.{AnsweredStackSuffices}

pub answered_stack_suffices : AnsweredStackSuffices
answered_stack_suffices p promised need is few lines are wide long n places s input bytes begins sound enough =
    never_out_of_stack (frame_size_of (world_of p)) p n s input (record { bytes = need; fits = is.0 few; enough = enough })
    (promised.close lines are wide long n places s input bytes begins sound)
