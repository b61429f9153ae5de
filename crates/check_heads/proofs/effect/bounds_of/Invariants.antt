use Rattle.check_regions.specs.Fields.{pair_of}
use Rattle.cyc_tree.specs.View.{bound_tree}
use Rattle.check_heads.specs.Used.{bound_by}
use Rattle.check_heads.proofs.Effects.{UsedTo}
use Rattle.check_heads.proofs.effect.bounds_of.Given as goal

-- those so far
abbrev pub invariant-each : goal.invariant-each
invariant-each l = UsedTo pair_of (λ b. bound_by l.names (bound_tree b)) l.bounds l.bound-index l.used
