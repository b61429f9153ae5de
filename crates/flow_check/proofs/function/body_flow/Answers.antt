use Rattle.std.proofs.Common.{List, [], ap, length, map, sym, ◌++◌, ◌∙◌, ◌≡◌}
use Rattle.std.specs.Prelude.{reverse}
use Rattle.cyc_tree.specs.View.{function_tree, item_tree, items_of}
use Rattle.flow_summaries.specs.Exits.{Exits}
use Rattle.flow_summaries.specs.Passages.{found_in}
use Rattle.flow_summaries.specs.Statements as rules
use Rattle.source_typing.specs.Functions.{with_parameters}
use Rattle.source_typing.specs.Left.{states_at, states_of}
use Rattle.check_heads.specs.Bodies.{types_of}
use Rattle.flow_effects.specs.Exits.{exits_of}
use Rattle.flow_effects.specs.Passed.{passage_of, state_of}
use Rattle.flow_effects.specs.declared.passed.Begun.{Begun}
use Rattle.flow_check.proofs.Functions.{found_begun}
use Rattle.flow_check.specs.Standing.{Stands}
use Rattle.flow_check.proofs.function.body_flow.Goals as goal

pub returns : goal.returns
returns c g none named begun =
    let f = function_tree c.args.function.now in
    let ns = c.args.known.now in
    let body = with_parameters f.parameters (types_of c.args.parameters.now) g in
    let inside : Stands c.args.context ns 0 c.parameters_begun.new.scope body = c.in_ok-states.ensures.stands ns g f.parameters named begun in
    let started = reverse (map state_of c.in_ok-states.states.items) in
    let begins : started ++ [] ≡ states_at body =
    ap (λ ls. started ++ states_of g ls) (sym none) ∙ c.in_ok-states.ensures.states ns g f.parameters named begun in
    let exits : exits_of c.in_ok-exits.exits ≡ rules.exits_of_items body f.body =
    c.in_ok-exits.ensures.exits body inside
    ∙ ap (λ b. rules.exits_of_items body (items_of (map item_tree b))) c.deref.ensures.value in
    let faults = (passage_of c.in_ok-exits.exits.whole).faults in
    c.found.ensures
    ∙ ap (λ (bs : List Begun). found_in (length bs) faults (reverse (map state_of bs))) c.as_slice.ensures.value
    ∙ found_begun c.in_ok-states.states.items body faults (rules.exits_of_items body f.body).faults begins (ap (λ (w : Exits). w.faults) exits)
