use Rattle.std.proofs.Common.{◌≡◌, max, drop}
use Rattle.cyc_core.specs.Trees.{body_tree}
use Rattle.source_lowering.specs.Programs.{passed_by}
use Rattle.lower_checks.proofs.usage.+passed.Given as goal

abbrev pub invariant-passed-each : goal.invariant-passed-each
invariant-passed-each l = max l.most (passed_by (body_tree (drop l.statement-index l.body))) ≡ passed_by (body_tree l.body)
