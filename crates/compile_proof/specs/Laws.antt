-- Believed: what holds of all programs that lowering takes.
use Rattle.std.specs.Prelude.{◌≤◌, ◌^◌}
use Rattle.cyc_tree.specs.Tree.{Program}
use Rattle.source_meaning.specs.Programs.{world_of, unions_of}
use Rattle.core_lines.specs.Statics.{ArePlainData}
use Rattle.source_lowering.specs.Lowerable.{HaveFewMembers, IsLowerable}
use Rattle.source_lowering.specs.Programs.{program_code}
use Rattle.accepted_programs.specs.Accepted.{IsAccepted}
use Rattle.core_lines.specs.Running.{data_offsets, data_end}
use Rattle.compile_proof.specs.Promise.{AreNamedApart, LowerableDoes}

-- what is promised of a program that is lowered holds of each in which no two functions have one name
abbrev pub AllLowerableDo : Type 0
AllLowerableDo = (p : Program) → IsLowerable p → AreNamedApart (world_of p).functions → LowerableDoes p

-- a program that is accepted: what is promised, its data are numbers that fit their places and pointers into the data, and are no longer than
-- those of an image
pub record AcceptedDoes (p : Program) : Type 0 where
  pub promised : LowerableDoes p
  pub plain : ArePlainData (data_offsets (program_code p).data_objects) (program_code p).data_objects
  pub data_within : data_end (program_code p).data_objects ≤ 2 ^ 20

-- that holds of each program that is accepted, and whose unions have no more members than a word counts
abbrev pub AllAcceptedDo : Type 0
AllAcceptedDo = (p : Program) → IsAccepted p → HaveFewMembers (unions_of p) → AcceptedDoes p
