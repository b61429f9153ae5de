use Rattle.std.proofs.Common.{◌≤◌, subst, sym}
use Rattle.std.specs.Prelude.{Some}
use Rattle.cyc_types.specs.Types.{static_type}
use Rattle.cyc_types.proofs.InLayouts.{member_small}
use Rattle.cyc_types.proofs.measuring.member_bytes.Goals as goal

pub returns-in-Some-clause-most : goal.returns-in-Some-clause-most
returns-in-Some-clause-most c = subst (λ n. n ≤ 12) (sym c.type_bytes.ensures) (member_small (Some (static_type c.in-Some.of)))
