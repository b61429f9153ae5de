use Rattle.std.proofs.Common.{◌≡◌, ◌+◌, true, map, drop, Ok, sym, subst, ◌∙◌, arith}
use Rattle.cyc_lexer.specs.Tokens.{token_tree}
use Rattle.cyc_parser.specs.Reading.{next_place}
use Rattle.cyc_parser.specs.Tests.{is_sign}
use Rattle.cyc_parser.specs.Reader.{next_is, sign}
use Rattle.cyc_parser.proofs.Eaten.{is_eaten, is_refused}
use Rattle.cyc_parser.proofs.cursor.Cursor.eat.Goals as goal

pub returns-then-stands-clause-reads : goal.returns-then-stands-clause-reads
returns-then-stands-clause-reads c =
    let n = c.self.inside.next in
    let ts = c.self.inside.tokens.now in
    let next = subst (λ xs. next_is (is_sign c.args.sign) xs ≡ true) (sym c.self.view_is) (sym c.is_sign-stands.ensures ∙ c.if-stands.true) in
    rw c.if-stands.true
    (subst (λ xs. sign c.args.sign xs ≡ Ok (next_place xs, map token_tree (drop (n + 1) ts))) c.self.view_is
    (is_eaten (is_sign c.args.sign) n (n + 1) ts (omega arith) next))

pub returns-else-stands-clause-reads : goal.returns-else-stands-clause-reads
returns-else-stands-clause-reads c =
    rw c.if-stands.false (is_refused (is_sign c.args.sign) c.args.self.now (sym c.is_sign-stands.ensures ∙ c.if-stands.false))
