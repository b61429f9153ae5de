use Rattle.std.proofs.Common.{IfOk, subst, sym, ◌≡◌}
use Rattle.cyc_tree.specs.View.{declaration_tree}
use Rattle.flow_effects.specs.Steps.{passed_if}
use Rattle.flow_check.specs.Declarations.{initial_before}
use Rattle.flow_check.proofs.declared.initial.Goals as goal

pub returns-in-Local : goal.returns-in-Local
returns-in-Local c = λ g rest h same.
    subst (λ d. IfOk c.value_given.result (λ p. passed_if p rest ≡ initial_before g (declaration_tree d) rest)) (sym c.in-Local.is)
    (c.value_given.ensures g rest h same)
