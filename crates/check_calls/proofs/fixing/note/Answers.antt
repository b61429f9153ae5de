use Rattle.std.proofs.Common.{arith, ◌∙◌}
use Rattle.check_calls.specs.Fixings.{fixings_of, found_of}
use Rattle.check_calls.proofs.Fixes.{all_are_found, heap_fixes_none, level_fixes}
use Rattle.check_calls.proofs.fixing.note.Goals as goal

pub returns-in-Heap : goal.returns-in-Heap
returns-in-Heap c = rw c.in-Heap.is (heap_fixes_none c.args.fixing.at 0 (found_of c.args.fixing.is) (fixings_of c.args.fixings.now.items))

pub returns-in-Level : goal.returns-in-Level
returns-in-Level c =
    let f = c.args.fixing in
    rw c.in-Level.is
    (c.note_at.ensures
    ∙ level_fixes f.at c.in-Level.variable 0 c.in-Level.variable (found_of f.is) (fixings_of c.args.fixings.now.items) (all_are_found f.is) (omega arith))
