use Rattle.std.proofs.Common.{map, sym, arith}
use Rattle.std.proofs.lemmas.Result.{err_from_is_err_and}
use Rattle.cyc_lexer.specs.declared.token.Sign.TheVariants as sign
use Rattle.cyc_tree.specs.View.{region_tree}
use Rattle.cyc_parser.specs.Reading.{next_place}
use Rattle.cyc_parser.specs.Tests.{is_sign}
use Rattle.cyc_parser.specs.Reader.{behind}
use Rattle.cyc_parser.specs.ReadTypes.{region, regions}
use Rattle.cyc_parser.proofs.ReadSome.{refused, last_pushed, goes_behind}
use Rattle.cyc_parser.proofs.type_name.regions.Goals as goal

pub returns-in_err-region-clause-reads : goal.returns-in_err-region-clause-reads
unfolding regions
returns-in_err-region-clause-reads c =
    let p = err_from_is_err_and c.from_residual.result c.from_residual.ensures.1 in
    rw (p.1, p.2) (refused region (is_sign sign.Comma) (behind sign.Comma region) c.args.cursor.now (map region_tree c.more.regions.items) c.more.cursor
    c.in_err-region.field-0.0 c.more.invariant.0 c.in_err-region.ensures.reads)

pub returns-then-not-eat-clause-reads : goal.returns-then-not-eat-clause-reads
unfolding regions
returns-then-not-eat-clause-reads c =
    rw c.if-not-eat.ensures.shorter (last_pushed region_tree region (is_sign sign.Comma) (behind sign.Comma region) c.args.cursor.now c.more.regions.items
    c.push.new.self.items c.in_ok-region.field-0 c.more.cursor c.region.new.self c.more.invariant.0 c.in_ok-push.ensures.ok c.in_ok-region.ensures.reads
    c.in_ok-region.ensures.shorter (sym c.if-not-eat.ensures.next))

pub more-preserved : goal.more-preserved
more-preserved c = (
  goes_behind region_tree region c.args.cursor.now c.more.regions.items c.push.new.self.items c.in_ok-region.field-0 c.more.cursor c.region.new.self
      c.eat.new.self (next_place c.region.new.self) c.more.invariant.0 c.in_ok-push.ensures.ok c.in_ok-region.ensures.reads c.in_ok-region.ensures.shorter
      (sym c.if-not-eat.ensures.next) c.if-not-eat.ensures.reads c.if-not-eat.ensures.shorter,
  omega (arith, c.if-not-eat.ensures.shorter, c.in_ok-region.ensures.shorter, c.more.invariant.1),
)
