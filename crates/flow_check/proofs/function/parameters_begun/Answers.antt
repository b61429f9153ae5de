use Rattle.std.proofs.Common.{List, ap, length, map, take, subst, sym, ◌++◌, ◌∙◌, ◌≡◌}
use Rattle.std.specs.Prelude.{reverse}
use Rattle.source_typing.specs.Functions.{what_of_known, with_parameters}
use Rattle.source_typing.specs.Left.{added_by, states_at}
use Rattle.source_typing.specs.Scope.{with_local}
use Rattle.check_heads.specs.Bodies.{types_of}
use Rattle.check_heads.specs.Heads.{known_static}
use Rattle.check_declarations.proofs.Parameters.{all_parameters, next_parameter}
use Rattle.flow_effects.specs.Passed.{added_of, state_of}
use Rattle.flow_effects.specs.declared.passed.Begun.{Begun}
use Rattle.flow_check.proofs.Adding.{adds_local}
use Rattle.flow_check.proofs.Functions.{none_begun, one_begun, states_added}
use Rattle.flow_check.proofs.Located.{same_count}
use Rattle.flow_check.specs.Declarations.{Adds}
use Rattle.flow_check.specs.Standing.{Stands}
use Rattle.flow_check.proofs.function.parameters_begun.Goals.{in-Some+in_ok-push, in_default}
use Rattle.flow_check.proofs.function.parameters_begun.Goals as goal

pub each-preserved : goal.each-preserved
each-preserved c = record {
  stands = λ ns g ms e h.
      let d = c.args.context in
      let ps = c.args.parameters.now in
      let i = c.each.parameter-index in
      let t = c.declare_parameter.new.scope in
      let r = next_parameter i ps ms g c.parameter-item.result c.each-test.true c.parameter-item.is e in
      let outer = with_parameters (take i ms) (types_of (take i ps)) g in
      let before = c.each.invariant.stands ns g ms e h in
      let now : Stands d ns 0 t (with_local r.0.name (what_of_known outer.frame (known_static c.parameter-item.result.of)) outer) = record {
        stands = c.in_ok-declare_parameter.ensures.stands ns outer r.0.name r.1 before.stands;
        locals = c.in_ok-declare_parameter.ensures.locals ns outer r.0.name r.1 before.stands before.locals;
      } in
      subst (λ k. Stands d ns 0 t k) (sym r.2) now;
  states = λ ns g ms e h.
      let ps = c.args.parameters.now in
      let i = c.each.parameter-index in
      let r = next_parameter i ps ms g c.parameter-item.result c.each-test.true c.parameter-item.is e in
      let outer = with_parameters (take i ms) (types_of (take i ps)) g in
      let w = what_of_known outer.frame (known_static c.parameter-item.result.of) in
      let inside = with_local r.0.name w outer in
      let before = c.each.invariant.stands ns g ms e h in
      let known = c.in_ok-declare_parameter.ensures.stands ns outer r.0.name r.1 before.stands in
      let locals = c.in_ok-declare_parameter.ensures.locals ns outer r.0.name r.1 before.stands before.locals in
      let count : c.len-around.result ≡ length outer.locals = c.len-around.ensures ∙ sym (same_count c.each.scope.locals outer.locals before.locals) in
      let adds : Adds c.parameter-item.result.name.now outer.locals inside.locals =
      subst (λ x. Adds x outer.locals inside.locals) r.1 (adds_local r.0.name w outer) in
      let added : added_of c.begun.result ≡ added_by outer inside = c.begun.ensures outer inside count adds known.known locals in
      let all : states_at inside ≡ added_by outer inside ++ states_at outer = states_added r.0.name w outer in
      let so_far = c.each.invariant.states ns g ms e h in
      let bs = c.each.states.items in
      let begun : reverse (map state_of c.match-begun.states.items) ++ states_at g ≡ states_at inside = elim c.match-begun.branch [
        | in-Some+in_ok-push v ↦
            ap (λ l. reverse (map state_of l) ++ states_at g) (ap (λ x. x.items) v.states-is ∙ v.in_ok-push.ensures.items)
            ∙ one_begun bs (states_at g) v.in-Some.state outer inside so_far (ap added_of (sym v.in-Some.is) ∙ added) all
        | in_default v ↦
            ap (λ x. reverse (map state_of x.items) ++ states_at g) v.states-is
            ∙ none_begun bs (states_at g) outer inside so_far (ap added_of (sym v.in_default.is) ∙ added) all
      ] in
      begun ∙ ap states_at (sym r.2);
}

pub returns-clause-stands : goal.returns-clause-stands
returns-clause-stands c ns g ms e h =
    subst (λ k. Stands c.args.context ns 0 c.each.scope k) (all_parameters c.each.parameter-index c.args.parameters.now ms g c.each-test.false e)
    (c.each.invariant.stands ns g ms e h)

pub returns-clause-states : goal.returns-clause-states
returns-clause-states c ns g ms e h =
    c.each.invariant.states ns g ms e h ∙ ap states_at (all_parameters c.each.parameter-index c.args.parameters.now ms g c.each-test.false e)
