use Rattle.std.proofs.Common.{◌∙◌}
use Rattle.cyc_core.specs.Trees.{function_tree}
use Rattle.core_lines.specs.Parameters.{parameter_register}
use Rattle.rv32_select.proofs.Parameters.{taken}
use Rattle.rv32_select.proofs.function.put_parameters.Goals as goal

pub each-preserved : goal.each-preserved
each-preserved c = record {
  whole = taken _ _ c.args.bytes c.args.place.now.passed c.args.live.now
      (parameter_register c.args.place.now.homes.items (function_tree c.args.function.now).body) c.each.parameter c.args.function.now.parameters
      c.each-test.true c.in_ok-put_parameter.ensures ∙ c.each.invariant.whole;
}
