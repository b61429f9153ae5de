use Rattle.std.proofs.Common.{◌<◌, ◌≤◌, length, rules}
use Rattle.rv32_select.proofs.Marking.{mark_set, mark_beyond}
use Rattle.rv32_select.proofs.marks.unmark_around.Goals as goal

pub returns-in-Some : goal.returns-in-Some
returns-in-Some c =
    let xss = c.args.around.now.items in
    let variable = c.args.variable in
    let within : variable.out < length xss = search rules in
    mark_set (λ marks. marks.items) variable.index variable.out xss c.in-Some.marks.now c.unmark.new.marks within c.in-Some.ensures.value c.unmark.ensures

pub returns-in-None : goal.returns-in-None
returns-in-None c =
    let xss = c.args.around.now.items in
    let past : length xss ≤ c.args.variable.out = search rules in
    mark_beyond (λ marks. marks.items) c.args.variable.index c.args.variable.out xss past
