use Rattle.std.proofs.Common.{◌<◌, ◌≤◌, length, rules}
use Rattle.rv32_select.proofs.Marking.{mask_set, mask_beyond}
use Rattle.rv32_select.proofs.marks.unmark.Goals as goal

pub returns-in-Some : goal.returns-in-Some
returns-in-Some c =
    let xs = c.args.marks.now.items in
    let within : c.args.index < length xs = search rules in
    mask_set c.args.index xs within

pub returns-in-None : goal.returns-in-None
returns-in-None c =
    let xs = c.args.marks.now.items in
    let past : length xs ≤ c.args.index = search rules in
    mask_beyond c.args.index xs past
