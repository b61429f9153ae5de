use Rattle.std.proofs.Common.{◌+◌, ◌-◌}
use Rattle.cyc_image.specs.Format.{code_limit}
use Rattle.core_lines.specs.Lines.{code_length}
use Rattle.rv32_layout.proofs.Rounds.{AreBetween}
use Rattle.rv32_layout.proofs.relaxed.relax.Given as goal

abbrev pub invariant-rounds : goal.invariant-rounds
invariant-rounds l = AreBetween l.labelled.lines l.lines.items

abbrev pub decreases-rounds : goal.decreases-rounds
decreases-rounds l = code_limit + 1 - code_length l.lines.items
