use Rattle.std.proofs.Common.{ℕ, List, [], ◌++◌, ap, reverse, sym, ◌∙◌}
use Rattle.std.proofs.lemmas.List.{reverse-reverse}
use Rattle.cyc_core.specs.Trees.{function_tree, body_tree}
use Rattle.core_lines.specs.Held.{Holding, with_taken}
use Rattle.core_lines.specs.Homes.{homes_in}
use Rattle.core_lines.specs.Parameters.{parameter_register}
use Rattle.core_lines.specs.Saved.{live_of, saves_of, taken_in}
use Rattle.core_lines.specs.Selected.{Surroundings, holding, naming}
use Rattle.rv32_select.specs.Places.{surroundings}
use Rattle.rv32_select.proofs.saves.find_saves.Goals as goal

pub returns-clause-place : goal.returns-clause-place
returns-clause-place c =
    let u = surroundings c.args.place.now in
    let f = function_tree c.args.function.now in
    let is = c.requires.place in
    let taken : List ℕ → List Holding = λ hs. with_taken (parameter_register hs f.body) 0 f.parameters [] in
    let homes = c.live_statements.new.place.homes.items in
    c.in_ok-begin_again.ensures.place
    ∙ ap (λ (v : Surroundings). holding (taken homes) (naming homes v)) c.in_ok-live_statements.ensures.same
    ∙ ap (λ hs. holding (taken hs) (naming hs u)) (c.in_ok-live_statements.ensures.homes ∙ c.requires.homes)
    ∙ ap (λ (v : Surroundings). holding (taken_in f) (naming (homes_in f) v)) is
    ∙ sym is

pub returns-clause-saves : goal.returns-clause-saves
returns-clause-saves c =
    let is = c.requires.place in
    let body = ap body_tree c.deref.ensures.value in
    let none = c.in_ok-none.ensures in
    let live = c.in_ok-live.ensures in
    ap reverse c.in_ok-begin_again.ensures.saves
    ∙ ap reverse (c.in_ok-live_statements.ensures.saves
    ∙ (λ i. c.new-saves.ensures.items i ++ reverse (saves_of ((is i).homes) ((is i).statics) ((is i).names) ((is i).held) (live i) (none i) (none i) (body i))))
    ∙ reverse-reverse _

pub returns-clause-live : goal.returns-clause-live
returns-clause-live c =
    let is = c.requires.place in
    let body = ap body_tree c.deref.ensures.value in
    let none = c.in_ok-none.ensures in
    let live = c.in_ok-live.ensures in
    c.in_ok-listed.ensures ∙ c.in_ok-live_statements.ensures.live
    ∙ (λ i. live_of ((is i).homes) ((is i).statics) ((is i).names) ((is i).held) (live i) (none i) (none i) (body i))

pub returns-clause-homes : goal.returns-clause-homes
returns-clause-homes c = c.in_ok-begin_again.ensures.homes ∙ c.in_ok-live_statements.ensures.homes
