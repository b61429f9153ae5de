use Rattle.std.proofs.Common.{◌≡◌, max, drop}
use Rattle.cyc_core.specs.Trees.{body_tree}
use Rattle.source_lowering.specs.Programs.{temporaries_of}
use Rattle.lower_checks.proofs.usage.+temporaries.Given as goal

abbrev pub invariant-temporaries-each : goal.invariant-temporaries-each
invariant-temporaries-each l = max l.most (temporaries_of (body_tree (drop l.statement-index l.body))) ≡ temporaries_of (body_tree l.body)
