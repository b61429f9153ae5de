use Rattle.std.proofs.Common.{◌<◌, map, length, sym, arith}
use Rattle.std.proofs.lemmas.Result.{err_from_is_err_and}
use Rattle.cyc_lexer.specs.declared.token.Sign.TheVariants as sign
use Rattle.cyc_tree.specs.View.{member_tree}
use Rattle.cyc_parser.specs.Reading.{next_place}
use Rattle.cyc_parser.specs.Tests.{is_sign}
use Rattle.cyc_parser.specs.Reader.{behind}
use Rattle.cyc_parser.specs.ReadTypes.{typed_name}
use Rattle.cyc_parser.specs.ReadPrograms.{parameters}
use Rattle.cyc_parser.proofs.ReadLoops.{is_done}
use Rattle.cyc_parser.proofs.ReadLists.{comma_pushed, comma_fails}
use Rattle.cyc_parser.proofs.function.parameters.Goals as goal

pub returns-in_err-typed_name-clause-reads : goal.returns-in_err-typed_name-clause-reads
returns-in_err-typed_name-clause-reads c =
    let p = err_from_is_err_and c.from_residual-in_err-typed_name.result c.from_residual-in_err-typed_name.ensures.1 in
    rw (p.1, p.2) (comma_fails typed_name (map member_tree c.more.parameters.items) (next_place c.more.cursor) c.more.cursor c.eat.new.self
    c.in_err-typed_name.field-0.0
    (parameters c.args.cursor.now) (sym c.more-test.ensures.next) c.more-test.ensures.reads c.in_err-typed_name.ensures.reads c.more.invariant.0)

pub more-preserved : goal.more-preserved
more-preserved c =
    let shorter : length c.typed_name.new.cursor < length c.more.cursor = omega (arith, c.more-test.ensures.shorter, c.in_ok-typed_name.ensures.shorter) in (
      comma_pushed member_tree typed_name c.more.parameters.items c.push-in-more.new.self.items c.in_ok-typed_name.field-0 (next_place c.more.cursor)
          c.more.cursor
          c.eat.new.self c.typed_name.new.cursor (parameters c.args.cursor.now) c.in_ok-push-2.ensures.items (sym c.more-test.ensures.next)
          c.more-test.ensures.reads c.in_ok-typed_name.ensures.reads shorter c.more.invariant.0,
      omega (arith, shorter, c.more.invariant.1),
    )

pub returns-clause-reads : goal.returns-clause-reads
returns-clause-reads c =
    rw c.more-test.ensures.shorter (is_done (is_sign sign.Comma) (behind sign.Comma typed_name) (map member_tree c.more.parameters.items) c.more.cursor
    (parameters c.args.cursor.now) (sym c.more-test.ensures.next) c.more.invariant.0)
