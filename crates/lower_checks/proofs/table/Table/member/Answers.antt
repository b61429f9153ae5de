use Rattle.std.proofs.Common.{subst}
use Rattle.cyc_tree.specs.Tree as tree
use Rattle.source_meaning.specs.Programs.{unions_of}
use Rattle.source_meaning.specs.Shapes.{parts_of}
use Rattle.lower_checks.specs.UnionMembers.{AreMembers}
use Rattle.lower_checks.proofs.UnionMembers.{chosen_number, chosen_shape}
use Rattle.lower_checks.proofs.table.Table.member.Goals as goal

-- the tag has the members of its first union
pub returns-clause-number : goal.returns-clause-number
returns-clause-number c =
    let tag = c.args.tag.now in
    let parts = parts_of (unions_of c.args.self.now) tag in
    let are = subst (λ (t : tree.Program). AreMembers c.self.inside.members (unions_of t)) c.self.view_is c.self.invariant.members_are in
    chosen_number parts c.args.name.now c.of.result (c.of.ensures parts (are tag))

pub returns-clause-shape : goal.returns-clause-shape
returns-clause-shape c =
    let tag = c.args.tag.now in
    let parts = parts_of (unions_of c.args.self.now) tag in
    let are = subst (λ (t : tree.Program). AreMembers c.self.inside.members (unions_of t)) c.self.view_is c.self.invariant.members_are in
    chosen_shape parts c.args.name.now c.of.result (c.of.ensures parts (are tag))
