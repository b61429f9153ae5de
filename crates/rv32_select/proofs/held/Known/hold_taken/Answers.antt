use Rattle.std.proofs.Common.{◌-◌, ◌+◌, false, ap, ◌∙◌}
use Rattle.cyc_core.specs.Trees.{body_tree}
use Rattle.core_lines.specs.Held.{with_taken, with_put}
use Rattle.core_lines.specs.Parameters.{parameter_register}
use Rattle.rv32_select.proofs.Taken.{taken_more}
use Rattle.rv32_select.proofs.held.Known.hold_taken.Goals as goal

pub each-preserved : goal.each-preserved
each-preserved c =
    let k = c.each.parameter in
    let n = c.args.parameters in
    let registers = parameter_register c.args.homes.now (body_tree c.args.body.now) in
    record {
      known = ap (λ hs. with_taken registers (k + 1) (n - (k + 1)) hs)
          (c.in_ok-hold_put.ensures ∙ ap (λ r. with_put false k r c.each.self) c.parameter_register-register.ensures)
          ∙ taken_more registers c.each.self k n c.each-test.true ∙ c.each.invariant.known;
    }
