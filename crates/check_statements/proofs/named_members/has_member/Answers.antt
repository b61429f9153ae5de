use Rattle.std.proofs.Common.{Bor, ap, ◌∙◌}
use Rattle.std.specs.Prelude.{is_some}
use Rattle.cyc_types.specs.Tags.{member_of}
use Rattle.cyc_types.specs.declared.tag.Member.{Member}
use Rattle.check_statements.proofs.Repeated.{some_mapped}
use Rattle.check_statements.proofs.named_members.has_member.Goals as goal

pub returns : goal.returns
returns c = c.is_some.ensures ∙ some_mapped (λ (m : Bor Member). member_of m.now) c.member.result ∙ ap is_some c.member.ensures
