use Rattle.std.proofs.Common.{[], Option, subst, sym}
use Rattle.std.specs.Prelude.{option_copied}
use Rattle.cyc_tree.specs.Tree as tree
use Rattle.source_meaning.specs.Programs.{structs_from, unions_of, world_of}
use Rattle.lower_checks.specs.Structs.{IsFound, Knows}
use Rattle.lower_checks.specs.Within.{AreSmall}
use Rattle.lower_checks.specs.declared.layouts.Known.{Known}
use Rattle.lower_checks.proofs.StructLayouts.{found_layout}
use Rattle.lower_checks.proofs.table.Table.struct_of.Goals as goal

pub returns-clause-layout : goal.returns-clause-layout
returns-clause-layout c =
    let p = c.args.self.now in
    let tag = c.args.tag.now in
    let knows = subst (λ (t : tree.Program). Knows c.self.inside.structs (unions_of t) (structs_from t [])) c.self.view_is c.self.invariant.structs_are in
    let found = subst (λ (o : Option Known). IsFound (unions_of p) (structs_from p []) tag o) (sym c.of.ensures) (knows.knows tag) in
    found_layout (world_of p) tag (option_copied c.of.result) knows.unions_are.laid found

pub returns-clause-small : goal.returns-clause-small
returns-clause-small c =
    subst (λ (t : tree.Program). AreSmall (world_of t)) c.self.view_is (record { unions = c.self.invariant.values; structs = c.self.invariant.laid })
