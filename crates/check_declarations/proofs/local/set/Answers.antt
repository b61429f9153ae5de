use Rattle.std.proofs.Common.{subst}
use Rattle.std.specs.Prelude.{None}
use Rattle.cyc_tree.specs.View.{expression_tree, type_tree}
use Rattle.source_typing.specs.Declarations.{set_faults, set_type, what_after, what_of}
use Rattle.source_typing.specs.Expressions.{judge}
use Rattle.check_declarations.specs.Declaring.{Matches}
use Rattle.check_declarations.proofs.local.set.Goals as goal

pub returns : goal.returns
returns c g known suits =
    let v = judge g (expression_tree c.args.initial.now) in
    let t = set_type g (type_tree c.args.of.now) v in
    let fs = set_faults g v t in
    let value = c.in_ok-value.ensures g known in
    let of = c.in_ok-found.ensures g v known suits value in
    subst (λ a. Matches fs (what_after fs (what_of a None t)) c.judged_as.result) suits.frame
    (c.judged_as.ensures fs t (c.in_ok-fault.ensures g v t known value of) of)
