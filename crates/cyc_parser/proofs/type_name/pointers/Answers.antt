use Rattle.std.proofs.Common.{◌≡◌, map, sym, ◌∙◌, ap, arith, true, false}
use Rattle.std.proofs.lemmas.Result.{err_from_is_err_and}
use Rattle.cyc_tree.specs.View.{pointer_tree}
use Rattle.cyc_parser.specs.Tests.{begins_pointer}
use Rattle.cyc_parser.specs.Reader.{passes, next_is}
use Rattle.cyc_parser.specs.ReadTypes.{pointer, pointers}
use Rattle.cyc_parser.proofs.ReadLoops.{pushed, fails_so, is_done}
use Rattle.cyc_parser.proofs.type_name.pointers.Goals as goal

pub returns-in_err-pointer-clause-reads : goal.returns-in_err-pointer-clause-reads
unfolding pointers
returns-in_err-pointer-clause-reads c =
    let p = err_from_is_err_and c.from_residual.result c.from_residual.ensures.1 in
    let next : next_is begins_pointer c.pointers.cursor ≡ true = ap (passes begins_pointer) (sym c.kind.ensures.next) ∙ sym c.begins_pointer.ensures
    ∙ c.pointers-test.true in
    rw (p.1, p.2) (fails_so begins_pointer pointer (map pointer_tree c.pointers.pointers.items) c.pointers.cursor c.in_err-pointer.field-0.0
    (pointers c.args.cursor.now) next
    c.in_err-pointer.ensures.reads c.pointers.invariant.0)

pub pointers-preserved : goal.pointers-preserved
unfolding pointers
pointers-preserved c =
    let next : next_is begins_pointer c.pointers.cursor ≡ true = ap (passes begins_pointer) (sym c.kind.ensures.next) ∙ sym c.begins_pointer.ensures
    ∙ c.pointers-test.true in (
      pushed pointer_tree begins_pointer pointer c.pointers.pointers.items c.push.new.self.items c.in_ok-pointer.field-0 c.pointers.cursor c.pointer.new.cursor
          (pointers c.args.cursor.now) c.in_ok-push.ensures.items next c.in_ok-pointer.ensures.reads c.in_ok-pointer.ensures.shorter c.pointers.invariant.0,
      omega (arith, c.in_ok-pointer.ensures.shorter, c.pointers.invariant.1),
    )

pub returns-clause-reads : goal.returns-clause-reads
unfolding pointers
returns-clause-reads c =
    let next : next_is begins_pointer c.pointers.cursor ≡ false = ap (passes begins_pointer) (sym c.kind.ensures.next) ∙ sym c.begins_pointer.ensures
    ∙ c.pointers-test.false in
    is_done begins_pointer pointer (map pointer_tree c.pointers.pointers.items) c.pointers.cursor (pointers c.args.cursor.now) next c.pointers.invariant.0
