use Rattle.std.proofs.Common.{◌∙◌, arith}
use Rattle.rv32_select.specs.Runs.{flags_in}
use Rattle.rv32_select.proofs.Running.{taken_alone}
use Rattle.rv32_select.proofs.runs.either_of.Goals as goal

pub each-preserved : goal.each-preserved
each-preserved c = record {
  whole = taken_alone (flags_in c.each.both.items) _ c.each.ones.items c.pop.new.self.items c.each.others.items c.pop-in-Some.new.self.items c.in-Some.one
      c.in-Some.ensures.items c.in-None.ensures.items (λ some. c.in-None.ensures.variant.1 (omega (arith, some))) c.in_ok-put_run-in-None.ensures
      ∙ c.each.invariant.whole;
}
