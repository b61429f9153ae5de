use Rattle.std.proofs.Common.{◌++◌, ap, ◌∙◌}
use Rattle.cyc_core.specs.Trees.{function_tree, body_tree}
use Rattle.core_lines.specs.Selected.{Surroundings, highest_of, shrunk_of, statements_code, ended_code}
use Rattle.core_lines.specs.Completing.{ends_in_return_all}
use Rattle.rv32_select.specs.Places.{surroundings, saves_left, framed}
use Rattle.rv32_select.proofs.Functions.{function_joined}
use Rattle.rv32_select.proofs.function.put_begun.Goals as goal

pub returns-clause-code : goal.returns-clause-code
returns-clause-code c =
    let place = surroundings c.args.place.now in
    let number = c.args.labels.number in
    let body = body_tree c.args.function.now.body.items in
    let bytes = c.in_ok-bytes.ensures ∙ ap (λ ss. framed (highest_of place.low (shrunk_of place.names (body_tree ss)))) c.deref.ensures.value
    ∙ ap (λ (u : Surroundings). framed (highest_of u.low (shrunk_of u.names body))) c.requires.place in
    let kept = saves_left c.args.place.now in
    let inside = c.in_ok-free.ensures.code
    ∙ ap (λ ss. c.put_prologue.new.lines.items ++ statements_code kept place c.in_ok-first.first number number (body_tree ss)) c.deref-2.ensures.value in
    let ended = c.end_lines.ensures
    ∙ ap (λ ss. ended_code (ends_in_return_all (body_tree ss)) c.put_statements.new.lines.items) c.deref-3.ensures.value in
    function_joined place.statics c.args.labels.refused number c.args.labels.next (function_tree c.args.function.now) _ _ _ _ _ _ _ c.in_ok-bytes.bytes
    c.in_ok-first.first c.saved_slot-slot.result c.args.place.now.homes.items c.args.saved.now c.args.live.now kept place bytes c.requires.place
    c.in_ok-first.ensures
    c.saved_slot-slot.ensures.slot c.requires.homes c.requires.saved c.requires.live c.requires.saves c.in_ok-put_lines.ensures
    c.in_ok-put_prologue.ensures inside ended c.in_ok-put_lines-2.ensures c.in_ok-put_epilogue.ensures
