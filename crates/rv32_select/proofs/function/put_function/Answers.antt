use Rattle.std.proofs.Common.{◌++◌, ap, sym, ◌∙◌}
use Rattle.std.proofs.lemmas.Result.{on_ok_weaker}
use Rattle.cyc_core.specs.Trees.{function_tree}
use Rattle.core_lines.specs.Choosing.{far}
use Rattle.core_lines.specs.Saved.{live_at_start, saves_at}
use Rattle.core_lines.specs.Selected.{Surroundings, around, function_code}
use Rattle.rv32_select.proofs.function.put_function.Goals as goal

pub find_saves-requires : goal.find_saves-requires
find_saves-requires c =
    let is = c.in_ok-saved.ensures.place in
    record {
      place = is ∙ ap (λ statics. around far statics c.args.labels.next (function_tree c.args.function.now)) (sym (ap (λ (u : Surroundings). u.statics) is));
      homes = c.in_ok-saved.ensures.homes;
    }

pub put_begun-requires : goal.put_begun-requires
put_begun-requires c =
    let f = function_tree c.args.function.now in
    let again = c.in_ok-live.ensures.place in
    let is = again ∙ c.in_ok-saved.ensures.place in
    record {
      homes = c.in_ok-live.ensures.homes ∙ c.in_ok-saved.ensures.homes;
      saved = c.deref.ensures.value ∙ c.in_ok-saved.ensures.saved;
      place = is ∙ ap (λ statics. around far statics c.args.labels.next f) (sym (ap (λ (u : Surroundings). u.statics) is));
      saves = c.in_ok-live.ensures.saves ∙ ap (λ statics. saves_at statics f) (sym (ap (λ (u : Surroundings). u.statics) again));
      live = c.deref-2.ensures.value ∙ c.in_ok-live.ensures.live ∙ ap (λ statics. live_at_start statics f) (sym (ap (λ (u : Surroundings). u.statics) again));
    }

pub returns-clause-code : goal.returns-clause-code
returns-clause-code c =
    let statics = ap (λ (u : Surroundings). u.statics) (c.in_ok-live.ensures.place ∙ c.in_ok-saved.ensures.place) in
    on_ok_weaker c.put_begun.result
    (λ e. e ∙ ap (λ s. c.args.lines.now.items
    ++ function_code far s c.args.labels.refused c.args.labels.number c.args.labels.next (function_tree c.args.function.now)) statics)
    c.put_begun.ensures.code

pub returns-clause-same : goal.returns-clause-same
returns-clause-same c =
    let statics = ap (λ (u : Surroundings). u.statics) (c.in_ok-live.ensures.place ∙ c.in_ok-saved.ensures.place) in
    on_ok_weaker c.put_begun.result (λ e. e ∙ statics) c.put_begun.ensures.same
