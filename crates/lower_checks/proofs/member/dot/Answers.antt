use Rattle.std.proofs.Common.{◌≡◌, ◌+◌, ℕ, arith, sym, ap, subst}
use Rattle.source_meaning.specs.Programs.{world_of}
use Rattle.lower_checks.specs.Reaching.{Place, member_place, reached_place}
use Rattle.lower_checks.specs.Within.{IsWithin}
use Rattle.lower_checks.specs.declared.member.Reached.{Reached}
use Rattle.lower_checks.proofs.Reaching.{reached_member}
use Rattle.lower_checks.proofs.Within.{member_within}
use Rattle.lower_checks.proofs.member.dot.Goals as goal

-- the member lies within 4,096 cells and bytes
pub overflow_add-result : goal.overflow_add-result
overflow_add-result c =
    let w = world_of c.args.program.now in
    let member = member_within w c.args.reached.now c.args.name.now c.small.ensures c.requires.within in
    omega (arith, member.few, c.member-further.ensures.cells)

pub overflow_add-result-2 : goal.overflow_add-result-2
overflow_add-result-2 c =
    let w = world_of c.args.program.now in
    let member = member_within w c.args.reached.now c.args.name.now c.small.ensures c.requires.within in
    omega (arith, member.near, c.member-further.ensures.bytes)

pub returns-clause-within : goal.returns-clause-within
returns-clause-within c =
    let w = world_of c.args.program.now in
    let from = c.args.reached.now in
    let name = c.args.name.now in
    let member = c.member-further.result in
    let further : Reached = record { shape = member.shape; cells = from.cells + member.cells; bytes = from.bytes + member.bytes } in
    let place_is : reached_place further ≡ member_place w (reached_place from) name =
    reached_member w from further name c.member-further.ensures.shape (ap (λ (n : ℕ). from.cells + n) c.member-further.ensures.cells)
    (ap (λ (n : ℕ). from.bytes + n) c.member-further.ensures.bytes) in
    subst (λ (p : Place). IsWithin w p) (sym place_is) (member_within w from name c.small.ensures c.requires.within)
