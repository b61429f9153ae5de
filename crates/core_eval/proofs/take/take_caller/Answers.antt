use Rattle.std.proofs.Common.{List, refl, ◌∙◌, sym, subst}
use Rattle.core_meaning.specs.Steps as steps
use Rattle.cyc_core.specs.Trees.{optional_tree}
use Rattle.core_eval.specs.declared.value.Value.{Value}
use Rattle.core_eval.specs.Pendings.{optional_value, saved_of}
use Rattle.core_eval.specs.Standing.{Takes}
use Rattle.core_eval.proofs.Taken.{result_given, result_ungiven}
use Rattle.core_eval.proofs.take.take_caller.Goals as goal

pub returns-then-fits : goal.returns-then-fits
returns-then-fits c =
    let caller = c.args.caller in
    let vs = optional_value c.args.returned in
    let base = c.in_ok-fits.ensures.base ∙ c.in_ok-go_on.ensures.base in
    let taken = subst (λ (ts : List Value). Takes (optional_tree caller.to) vs ts c.take_result.new.frame.temps.items) c.in_ok-go_on.ensures.temps
    (c.in_ok-fits.ensures.taken c.if-fits.true) in
    λ ws memory after left. result_given (steps.Returns vs) (optional_tree caller.to) caller.function vs (saved_of caller) c.args.frame.now
    c.take_result.new.frame ws memory after left refl base (sym c.in_ok-fits.ensures.fits ∙ c.if-fits.true) taken

pub returns-else-fits : goal.returns-else-fits
returns-else-fits c =
    let caller = c.args.caller in
    let vs = optional_value c.args.returned in
    let base = c.in_ok-fits.ensures.base ∙ c.in_ok-go_on.ensures.base in
    λ ws memory after left. result_ungiven (steps.Returns vs) (optional_tree caller.to) caller.function vs (saved_of caller) c.args.frame.now
    c.take_result.new.frame ws memory after left refl base (sym c.in_ok-fits.ensures.fits ∙ c.if-fits.false)
    (c.in_ok-fits.ensures.kept c.if-fits.false ∙ c.in_ok-go_on.ensures.temps)
