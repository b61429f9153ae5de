-- The lines that are selected are lines of their program.
use Rattle.std.proofs.Common.{arith}
use Rattle.core_meaning.specs.Core.{Program}
use Rattle.core_lines.specs.Choosing.{far}
use Rattle.core_lines.specs.Selected.{program_code}
use Rattle.core_lines.specs.Promise.{AreLinesOf}
use Rattle.core_lines.proofs.Lengths.{lines_within}
use Rattle.core_lines.proofs.labels.LabelsOnce.{program_labels_once}
use Rattle.core_lines.proofs.labels.Shortening.{shortened_do_as_core}

pub lines_do_as_core : (p : Program) → AreLinesOf p (program_code far p)
lines_do_as_core p = record {
  once = program_labels_once far p;
  some = omega arith;
  within = lines_within p far;
  does = shortened_do_as_core p;
}
