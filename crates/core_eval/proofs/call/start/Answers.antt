use Rattle.std.specs.Prelude.{slice_get}
use Rattle.std.proofs.Common.{◌≡◌, ◌≢◌, map, ap, sym, ◌∙◌, rules}
use Rattle.cyc_core.specs.Trees.{function_tree, body_tree}
use Rattle.core_eval.specs.Pendings.{Go, Follow}
use Rattle.core_eval.specs.Standing.{first_known}
use Rattle.core_eval.proofs.Calls.{starts, starts_nowhere, starts_unfit}
use Rattle.core_eval.proofs.CalledAs.{stands_as}
use Rattle.core_eval.proofs.call.start.Goals as goal

pub returns-in_default : goal.returns-in_default
returns-in_default c =
    let p = c.args.program.now in
    starts_nowhere p (ap (λ fs. slice_get (map function_tree fs) p.main) (sym c.deref.ensures.value) ∙ c.in_default.ensures.none)

pub returns-then-main-ne0 : goal.returns-then-main-ne0
returns-then-main-ne0 c =
    let p = c.args.program.now in
    let some : c.in-Some.main.now.parameters ≢ 0 = search rules in
    starts_unfit p c.in-Some.main.now (ap (λ fs. slice_get (map function_tree fs) p.main) (sym c.deref.ensures.value) ∙ c.in-Some.ensures.some) some

pub returns : goal.returns
returns c =
    let p = c.args.program.now in
    let none : c.in-Some.main.now.parameters ≡ 0 = search rules in
    stands_as p.main _ _ _ (ap (λ b. Go (Follow (body_tree b))) c.deref-2.ensures.value)
    (ap (first_known p.globals.items) c.deref-3.ensures.value)
    (starts p c.in-Some.main.now (ap (λ fs. slice_get (map function_tree fs) p.main) (sym c.deref.ensures.value) ∙ c.in-Some.ensures.some) none)
