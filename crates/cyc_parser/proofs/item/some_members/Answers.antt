use Rattle.std.proofs.Common.{◌≡◌, map, ap, sym, ◌∙◌, arith, true, false}
use Rattle.std.proofs.lemmas.Result.{err_from_is_err_and}
use Rattle.cyc_tree.specs.View.{member_tree}
use Rattle.cyc_parser.specs.Tests.{begins_type}
use Rattle.cyc_parser.specs.Reader.{passes, next_is}
use Rattle.cyc_parser.specs.ReadPrograms.{member}
use Rattle.cyc_parser.proofs.ReadSome.{refused, last_pushed, goes_further}
use Rattle.cyc_parser.proofs.item.some_members.Goals as goal

pub returns-in_err-member-clause-reads : goal.returns-in_err-member-clause-reads
returns-in_err-member-clause-reads c =
    let p = err_from_is_err_and c.from_residual.result c.from_residual.ensures.1 in
    rw (p.1, p.2) (refused member begins_type member c.args.cursor.now (map member_tree c.more.members.items) c.more.cursor c.in_err-member.field-0.0
    c.more.invariant.0 c.in_err-member.ensures.reads)

pub returns-then-not-begins_type-clause-reads : goal.returns-then-not-begins_type-clause-reads
returns-then-not-begins_type-clause-reads c =
    let next : next_is begins_type c.member.new.cursor ≡ false =
    ap (passes begins_type) (sym c.kind.ensures.next) ∙ sym c.begins_type.ensures ∙ c.if-not-begins_type.true in
    last_pushed member_tree member begins_type member c.args.cursor.now c.more.members.items c.push.new.self.items c.in_ok-member.field-0 c.more.cursor
    c.member.new.cursor c.more.invariant.0 c.in_ok-push.ensures.items c.in_ok-member.ensures.reads c.in_ok-member.ensures.shorter next

pub more-preserved : goal.more-preserved
more-preserved c =
    let next : next_is begins_type c.member.new.cursor ≡ true =
    ap (passes begins_type) (sym c.kind.ensures.next) ∙ sym c.begins_type.ensures ∙ c.if-not-begins_type.false in (
      goes_further member_tree member begins_type c.args.cursor.now c.more.members.items c.push.new.self.items c.in_ok-member.field-0 c.more.cursor
          c.member.new.cursor c.more.invariant.0 c.in_ok-push.ensures.items c.in_ok-member.ensures.reads c.in_ok-member.ensures.shorter next,
      omega (arith, c.in_ok-member.ensures.shorter, c.more.invariant.1),
    )
