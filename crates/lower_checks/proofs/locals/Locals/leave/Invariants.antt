use Rattle.std.proofs.Common.{◌≡◌, length}
use Rattle.std.specs.Prelude.{reverse}
use Rattle.lower_checks.specs.Visible.{left}
use Rattle.lower_checks.specs.Marks.{AreLinked, marks_of}
use Rattle.lower_checks.proofs.locals.Locals.leave.Given as goal

-- what is left by the marks so far is what is left by all
abbrev pub invariant-marks : goal.invariant-marks
invariant-marks l = record {
  linked : AreLinked (reverse l.self-inside.marks.items) l.self-inside.last l.self-inside.depth;
  left : left (marks_of (reverse l.self-inside.marks.items)) ≡ left l.fn.self;
}

abbrev pub decreases-marks : goal.decreases-marks
decreases-marks l = length l.self-inside.marks.items
