use Rattle.std.proofs.Common.{ap, sym, ◌∙◌}
use Rattle.cyc_tree.specs.View.{name_tree}
use Rattle.check_operators.specs.Values.{seat_of}
use Rattle.check_faults.specs.Verdicts.{shortened}
use Rattle.check_operators.proofs.MembersFound.{member_of_pointer}
use Rattle.check_operators.proofs.members.member.Goals as goal

pub returns-in-Some : goal.returns-in-Some
returns-in-Some c g h =
    let e = c.args.operand.now in
    c.refused-in-Some.ensures
    ∙ ap (λ v. shortened v) (member_of_pointer g (name_tree c.args.field.now) e.at (seat_of e.seat) e.of c.in-Some.field-0 (sym c.in-Some.ensures))
