use Rattle.std.proofs.Common.{map, ap, ◌∙◌}
use Rattle.std.proofs.lemmas.Result.{err_from_is_err_and}
use Rattle.cyc_lexer.specs.declared.token.Sign.TheVariants as sign_of
use Rattle.cyc_tree.specs.View.{member_tree}
use Rattle.cyc_parser.specs.Tests.{begins_type}
use Rattle.cyc_parser.specs.Reader.{◌>>=◌, some, read, sign, done}
use Rattle.cyc_parser.specs.ReadPrograms.{member}
use Rattle.cyc_parser.proofs.ReadSteps.{first_fails}
use Rattle.cyc_parser.proofs.ReadMembers.{closed, begun, ended}
use Rattle.cyc_parser.proofs.item.members.Goals as goal

pub returns-in_err-members-clause-reads : goal.returns-in_err-members-clause-reads
returns-in_err-members-clause-reads c =
    let p = err_from_is_err_and c.from_residual-in_err-members.result c.from_residual-in_err-members.ensures.1 in
    rw (p.1, p.2, begun c.in_ok-sign.field-0 c.args.cursor.now c.sign.new.self c.in_ok-sign.ensures.reads)
    (first_fails c.in_err-members.field-0.0 (some begins_type member c.sign.new.self) closed c.in_err-members.ensures.reads)

pub returns-in_err-sign-2-clause-reads : goal.returns-in_err-sign-2-clause-reads
returns-in_err-sign-2-clause-reads c =
    let p = err_from_is_err_and c.from_residual-in_err-sign-2.result c.from_residual-in_err-sign-2.ensures.1 in
    let ms = map member_tree c.in_ok-members.members.items in
    rw (
      p.1,
      p.2,
      ended c.in_ok-sign.field-0 ms c.args.cursor.now c.sign.new.self c.some_members.new.cursor c.in_ok-sign.ensures.reads
          c.in_ok-members.ensures.reads,
    )
    (first_fails c.in_err-sign-2.field-0.0 (sign sign_of.RightBrace c.some_members.new.cursor) (λ x. read (sign sign_of.Semicolon) (λ _. done ms) x.1)
    c.in_err-sign-2.ensures.reads)

pub returns-in_err-sign-3-clause-reads : goal.returns-in_err-sign-3-clause-reads
returns-in_err-sign-3-clause-reads c =
    let p = err_from_is_err_and c.from_residual-in_err-sign-3.result c.from_residual-in_err-sign-3.ensures.1 in
    let ms = map member_tree c.in_ok-members.members.items in
    let brace = ap (λ o. o >>= λ x. read (sign sign_of.Semicolon) (λ _. done ms) x.1) c.in_ok-sign-2.ensures.reads in
    rw (
      p.1,
      p.2,
      ended c.in_ok-sign.field-0 ms c.args.cursor.now c.sign.new.self c.some_members.new.cursor c.in_ok-sign.ensures.reads c.in_ok-members.ensures.reads,
      brace,
    )
    (first_fails c.in_err-sign-3.field-0.0 (sign sign_of.Semicolon c.sign-2.new.self) (λ x. done ms x.1) c.in_err-sign-3.ensures.reads)

pub returns-clause-reads : goal.returns-clause-reads
returns-clause-reads c =
    let ms = map member_tree c.in_ok-members.members.items in
    ended c.in_ok-sign.field-0 ms c.args.cursor.now c.sign.new.self c.some_members.new.cursor c.in_ok-sign.ensures.reads c.in_ok-members.ensures.reads
    ∙ ap (λ o. o >>= λ x. read (sign sign_of.Semicolon) (λ _. done ms) x.1) c.in_ok-sign-2.ensures.reads
    ∙ ap (λ o. o >>= λ x. done ms x.1) c.in_ok-sign-3.ensures.reads
