use Rattle.std.proofs.Common.{◌≡◌, Option, Some, None, ap, map, sym, refl, ◌∙◌, true, false}
use Rattle.std.proofs.lemmas.Result.{err_from_is_err_and}
use Rattle.std.specs.Option.{is_some}
use Rattle.cyc_lexer.specs.declared.token.TokenKind.{TokenKind}
use Rattle.cyc_tree.specs.Depths.{nesting_limit}
use Rattle.cyc_tree.specs.View.{program_item_tree}
use Rattle.cyc_parser.specs.Tests.{is_any}
use Rattle.cyc_parser.specs.Reader.{passes, next_is}
use Rattle.cyc_parser.specs.ReadPrograms.{item, program}
use Rattle.cyc_parser.proofs.ReadSome.{refused, last_pushed, goes_further}
use Rattle.cyc_parser.proofs.item.items.Goals as goal

any_kind : (k : Option TokenKind) → passes is_any k ≡ is_some k
any_kind None = refl
any_kind (Some k) = refl

pub returns-in_err-item : goal.returns-in_err-item
unfolding program
returns-in_err-item c =
    let p = err_from_is_err_and c.from_residual.result c.from_residual.ensures.1 in
    rw (p.1, p.2) (refused (item nesting_limit) is_any (item nesting_limit) c.args.cursor.now (map program_item_tree c.items.items.items) c.items.cursor
    c.in_err-item.field-0.0 c.items.invariant c.in_err-item.ensures.reads)

pub returns-then-is_none : goal.returns-then-is_none
unfolding program
returns-then-is_none c =
    let next : next_is is_any c.item.new.cursor ≡ false =
    ap (passes is_any) (sym c.kind.ensures.next) ∙ any_kind c.kind.result ∙ c.if-is_none.ensures in
    last_pushed program_item_tree (item nesting_limit) is_any (item nesting_limit) c.args.cursor.now c.items.items.items c.push.new.self.items
    c.in_ok-item.field-0 c.items.cursor c.item.new.cursor c.items.invariant c.in_ok-push.ensures.items c.in_ok-item.ensures.reads
    c.in_ok-item.ensures.shorter next

pub items-preserved : goal.items-preserved
items-preserved c =
    let next : next_is is_any c.item.new.cursor ≡ true =
    ap (passes is_any) (sym c.kind.ensures.next) ∙ any_kind c.kind.result ∙ c.if-is_none.ensures in
    goes_further program_item_tree (item nesting_limit) is_any c.args.cursor.now c.items.items.items c.push.new.self.items c.in_ok-item.field-0
    c.items.cursor c.item.new.cursor c.items.invariant c.in_ok-push.ensures.items c.in_ok-item.ensures.reads c.in_ok-item.ensures.shorter next
