use Rattle.std.proofs.Common.{map, sym, arith}
use Rattle.std.proofs.lemmas.Result.{err_from_is_err_and}
use Rattle.cyc_lexer.specs.declared.token.Sign.TheVariants as sign
use Rattle.cyc_tree.specs.View.{bound_tree}
use Rattle.cyc_parser.specs.Reading.{next_place}
use Rattle.cyc_parser.specs.Tests.{is_sign}
use Rattle.cyc_parser.specs.Reader.{behind}
use Rattle.cyc_parser.specs.ReadPrograms.{bound}
use Rattle.cyc_parser.proofs.ReadSome.{refused, last_pushed, goes_behind}
use Rattle.cyc_parser.proofs.function.listed_bounds.Goals as goal

pub returns-in_err-bound-clause-reads : goal.returns-in_err-bound-clause-reads
returns-in_err-bound-clause-reads c =
    let p = err_from_is_err_and c.from_residual.result c.from_residual.ensures.1 in
    rw (p.1, p.2) (refused bound (is_sign sign.Comma) (behind sign.Comma bound) c.args.cursor.now (map bound_tree c.more.bounds.items) c.more.cursor
    c.in_err-bound.field-0.0 c.more.invariant.0 c.in_err-bound.ensures.reads)

pub returns-then-not-eat-clause-reads : goal.returns-then-not-eat-clause-reads
returns-then-not-eat-clause-reads c =
    rw c.if-not-eat.ensures.shorter (last_pushed bound_tree bound (is_sign sign.Comma) (behind sign.Comma bound) c.args.cursor.now c.more.bounds.items
    c.push.new.self.items c.in_ok-bound.field-0 c.more.cursor c.bound.new.cursor c.more.invariant.0 c.in_ok-push.ensures.ok c.in_ok-bound.ensures.reads
    c.in_ok-bound.ensures.shorter (sym c.if-not-eat.ensures.next))

pub more-preserved : goal.more-preserved
more-preserved c = (
  goes_behind bound_tree bound c.args.cursor.now c.more.bounds.items c.push.new.self.items c.in_ok-bound.field-0 c.more.cursor c.bound.new.cursor
      c.eat.new.self (next_place c.bound.new.cursor) c.more.invariant.0 c.in_ok-push.ensures.ok c.in_ok-bound.ensures.reads c.in_ok-bound.ensures.shorter
      (sym c.if-not-eat.ensures.next) c.if-not-eat.ensures.reads c.if-not-eat.ensures.shorter,
  omega (arith, c.if-not-eat.ensures.shorter, c.in_ok-bound.ensures.shorter, c.more.invariant.1),
)
