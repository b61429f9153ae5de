use Rattle.std.proofs.Common.{ap, arith, length, ◌∙◌}
use Rattle.cyc_types.specs.Shared.{listed}
use Rattle.check_calls.specs.Fixings.{fixings_of}
use Rattle.check_calls.proofs.Places.{last_is, type_fixes}
use Rattle.check_calls.proofs.fixing.note_type.Goals as goal

pub returns : goal.returns
returns c =
    let mine = c.args.mine.now in
    let theirs = c.args.theirs.now in
    let count = c.min-count.result in
    type_fixes c.args.at mine theirs (listed c.from.result) (listed c.from-2.result) count
    (fixings_of c.args.fixings.now.items) (fixings_of c.note_bases.new.fixings.items) (fixings_of c.note_pointers.new.fixings.items)
    (omega (arith, c.min-count.ensures, c.len.ensures ∙ ap length c.pointers-here.ensures, c.len-2.ensures ∙ ap length c.pointers-there.ensures))
    (last_is count c.len-3.result mine.layers.items (listed c.pointers-here.result) (listed c.from.result)
    c.from.ensures c.len-3.ensures c.pointers-here.ensures)
    (last_is count c.len-4.result theirs.layers.items (listed c.pointers-there.result) (listed c.from-2.result)
    c.from-2.ensures c.len-4.ensures c.pointers-there.ensures)
    c.note_bases.ensures c.note_pointers.ensures
