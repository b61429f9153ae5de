use Rattle.std.proofs.Common.{◌≡◌, ◌∙◌, [], subst}
use Rattle.std.specs.Prelude.{option_map}
use Rattle.cyc_tree.specs.Tree as tree
use Rattle.source_meaning.specs.Programs.{structs_from, unions_of, world_of}
use Rattle.lower_checks.specs.Structs.{Knows}
use Rattle.lower_checks.specs.Unions.{first_union, union_tree}
use Rattle.lower_checks.proofs.UnionCells.{found_union}
use Rattle.lower_checks.proofs.table.Table.union_of.Goals as goal

pub returns-clause-layout : goal.returns-clause-layout
returns-clause-layout c =
    let p = c.args.self.now in
    let tag = c.args.tag.now in
    let knows = subst (λ (t : tree.Program). Knows c.self.inside.structs (unions_of t) (structs_from t [])) c.self.view_is c.self.invariant.structs_are in
    let found : option_map union_tree c.union_of.result ≡ first_union (unions_of p) tag = c.union_of.ensures ∙ knows.unions_are.first tag in
    found_union (world_of p) tag c.union_of.result knows.unions_are.laid found
