use Rattle.std.proofs.Common.{◌≡◌, ◌+◌, true, map, drop, Ok, sym, subst, ◌∙◌, arith}
use Rattle.cyc_lexer.specs.Tokens.{token_tree}
use Rattle.cyc_parser.specs.Reading.{next_place}
use Rattle.cyc_parser.specs.Tests.{is_keyword}
use Rattle.cyc_parser.specs.Reader.{next_is, keyword}
use Rattle.cyc_parser.proofs.Eaten.{is_eaten, is_refused}
use Rattle.cyc_parser.proofs.cursor.Cursor.eat_keyword.Goals as goal

pub returns-then-stands-clause-reads : goal.returns-then-stands-clause-reads
returns-then-stands-clause-reads c =
    let n = c.self.inside.next in
    let ts = c.self.inside.tokens.now in
    let next = subst (λ xs. next_is (is_keyword c.args.keyword) xs ≡ true) (sym c.self.view_is) (sym c.is_keyword-stands.ensures ∙ c.if-stands.true) in
    rw c.if-stands.true
    (subst (λ xs. keyword c.args.keyword xs ≡ Ok (next_place xs, map token_tree (drop (n + 1) ts))) c.self.view_is
    (is_eaten (is_keyword c.args.keyword) n (n + 1) ts (omega arith) next))

pub returns-else-stands-clause-reads : goal.returns-else-stands-clause-reads
returns-else-stands-clause-reads c =
    rw c.if-stands.false (is_refused (is_keyword c.args.keyword) c.args.self.now (sym c.is_keyword-stands.ensures ∙ c.if-stands.false))
